use Rattle.std.proofs.Common.{sym, subst, ◌∙◌}
use Rattle.fq_text.specs.Grammar.{IsLawful}
use Rattle.fq_text.proofs.unwrapped.view_of.Goals as goal

-- the parts of a valid record are a valid record
pub new-requires : goal.new-requires
new-requires c = subst IsLawful (c.parts_of.ensures c.args.encoding) c.requires.lawful

-- the view is the record whose parts are in the four lines
pub returns : goal.returns
returns c = c.new.ensures ∙ sym (c.parts_of.ensures c.args.encoding)
