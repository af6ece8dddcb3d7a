use Rattle.fq_app_words.proofs.CommandLineLemmas.{pairs_are_asked_for, interleaved_are_asked_for}
use Rattle.fq_app_words.proofs.laws.usual_command_lines.Goals as goal

-- `PE` with plain words asks for the names and steps in them, and for what its options say
pub returns-clause-pairs : goal.returns-clause-pairs
returns-clause-pairs c = pairs_are_asked_for

-- `IL` with plain words asks for the names and steps in them, and for what its options say
pub returns-clause-interleaved : goal.returns-clause-interleaved
returns-clause-interleaved c = interleaved_are_asked_for
