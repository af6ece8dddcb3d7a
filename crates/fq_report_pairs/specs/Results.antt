-- What becomes of pairs: their texts, their log, their counts and, if asked for, their tally.
use Rattle.std.specs.Prelude.{ℕ, Bool, true, false, List, [], ◌∷◌, Option, Some, None, fold}
use Rattle.std.specs.Option.{option_map}
use Rattle.fq_trim.specs.declared.step.Step.{Step}
use Rattle.fq_pair.specs.Mates.{Mates}
use Rattle.fq_pair.specs.Outputs.{no_texts, texts_of, joined}
use Rattle.fq_report_reads.specs.Courses.{alone}
use Rattle.fq_report_pairs.specs.declared.done.Done.{Done}
use Rattle.fq_report_pairs.specs.declared.tally.Tally.{Tally}
use Rattle.fq_report_pairs.specs.Tallies.{no_tally, with_pair, tally_of}

-- the tally of pairs, step by step, if one is asked for
abbrev pub tally_if : Bool → List Step → List Mates → Option Tally
tally_if true steps pairs = Some (tally_of (alone steps) pairs)
tally_if false steps pairs = None

-- the tally of no pairs, if one is asked for
abbrev pub none_counted : Bool → Option Tally
none_counted true = Some no_tally
none_counted false = None

-- these pairs are added to a tally, if there is one
abbrev pub tally_with : List Step → Option Tally → List Mates → Option Tally
tally_with steps tally pairs = option_map (λ t. fold (with_pair (alone steps)) t pairs) tally

-- a number, the outputs, the log and the counts of pairs
abbrev pub made_of : List Step → ℕ → List Mates → Done
made_of steps number pairs = record { number = number; texts = texts_of steps pairs }

-- Intermediate states.

-- nothing has been made of any pair so far
abbrev pub emptied : Done → Done
emptied d = record { number = d.number; texts = no_texts }

-- one more pair
abbrev pub with_mates : List Step → Done → Mates → Done
with_mates steps d m =
    record { number = d.number; texts = joined d.texts (texts_of steps (m ∷ [])) }
