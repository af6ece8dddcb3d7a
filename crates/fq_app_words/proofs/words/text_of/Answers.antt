use Rattle.std.proofs.Common.{◌∙◌, ap, rules}
use Rattle.clap.specs.Words.{found_of}
use Rattle.clap.proofs.WalkLemmas.{first_value-rows}
use Rattle.fq_app_words.proofs.WordLemmas.{text_read}
use Rattle.fq_app_words.proofs.words.text_of.Goals as goal

-- the text is the one that the rows have for the argument, or empty
pub returns : goal.returns
returns c = ap (λ text. text.now) c.unwrap_or.ensures
    ∙ text_read _ _ _ (c.get_str.ensures ∙ first_value-rows (found_of c.args.found.now)
    c.args.id.now) (search rules)
