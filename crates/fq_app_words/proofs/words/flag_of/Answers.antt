use Rattle.std.proofs.Common.{◌∙◌}
use Rattle.std.specs.declared.str.ParseBoolError.{ParseBoolError}
use Rattle.clap.specs.Words.{found_of}
use Rattle.clap.proofs.WalkLemmas.{one_text-rows}
use Rattle.fq_app_words.proofs.WordLemmas.{flag_read}
use Rattle.fq_app_words.proofs.words.flag_of.Goals as goal

-- the flag is set exactly if the rows have `true` for it
pub returns : goal.returns
returns c =
    let rows = one_text-rows (found_of c.args.found.now) c.args.id.now in
    c.unwrap_or.ensures ∙ flag_read ParseBoolError _ _ (λ none. c.get_one.ensures.none (rows
    ∙ none)) (λ t is. c.get_one.ensures.value t (rows ∙ is))
