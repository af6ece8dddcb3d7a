use Rattle.std.proofs.Common.{arith}
use Rattle.std.proofs.lemmas.Str.Pattern.{strip_suffix_char}
use Rattle.fq_app_files.proofs.ReportingLemmas.{stripped, not_stripped}
use Rattle.fq_app_files.proofs.reporting.without_end.Goals as goal

-- a line without its line end is the words of that line
pub returns-clause-some : goal.returns-clause-some
returns-clause-some c = λ words is. stripped c.args.text.now words c.strip_suffix.result
    (strip_suffix_char 10 c.args.text.now c.strip_suffix.result c.strip_suffix.ensures.cases
    (omega arith)) is

-- an empty text has no line end to remove
pub returns-clause-none : goal.returns-clause-none
returns-clause-none c = λ is. not_stripped c.args.text.now c.strip_suffix.result
    (strip_suffix_char 10 c.args.text.now c.strip_suffix.result c.strip_suffix.ensures.cases
    (omega arith)) is
