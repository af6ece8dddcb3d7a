use Rattle.std.proofs.Common.{◌∷◌, [], codes, rules}
use Rattle.std.proofs.lemmas.Result.{IfOk-weaker}
use Rattle.fq_app_words.specs.Words.{file_rule, interleaved_app}
use Rattle.fq_app_words.proofs.words.interleaved_command.Goals as goal

-- the command that is made is `IL`, and none of its arguments is global
pub returns : goal.returns
unfolding interleaved_app
returns c = IfOk-weaker c.trimming_command.result _ _
    (λ command is. is (file_rule (codes "I") ∷ []) (search rules)) c.trimming_command.ensures
