use Rattle.std.proofs.Common.{◌∙◌}
use Rattle.std.specs.Str.Parse.{ParsesUnsigned, ExplainsUnsignedError, HasUnsignedDigitsIfOk}
use Rattle.clap.specs.Words.{found_of}
use Rattle.clap.proofs.WalkLemmas.{one_text-rows}
use Rattle.fq_app_words.proofs.WordLemmas.{number_read}
use Rattle.fq_app_words.proofs.words.number_of.Goals as goal

-- the number is the one that the rows have for the argument, or 0
pub returns : goal.returns
returns c =
    let rows = one_text-rows (found_of c.args.found.now) c.args.id.now in
    c.unwrap_or.ensures ∙ number_read (λ bs r. ParsesUnsigned 64 10 bs r
    × ExplainsUnsignedError 10 bs r × HasUnsignedDigitsIfOk bs r) _ _ (λ t res g. g.0)
    (λ none. c.get_one.ensures.none (rows ∙ none)) (λ t is. c.get_one.ensures.value t (rows ∙ is))
