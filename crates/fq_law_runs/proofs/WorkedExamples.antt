-- Two worked pairs, cut after the first one: their pairs and outputs under LEADING:3, computed from
-- the definitions alone. Then what the premises are for.
use Rattle.std.proofs.Common.{◌≡◌, ℕ, true, false, Some, None, List, [], ◌∷◌, ◌++◌, take, drop, codes, refl}
use mathlib.Core.List.{IsPrefix}
use Rattle.fq_text.specs.declared.encoding.Encoding.TheVariants.{Sanger}
use Rattle.fq_text.specs.declared.fault.TextFault.TheVariants.{QualityLong}
use Rattle.fq_text.specs.Lines.{is_whole}
use Rattle.fq_pair.specs.declared.side.Side.TheVariants.{Forward, Reverse}
use Rattle.fq_pair.specs.declared.fault.InputFault.TheVariants.{Text, MateMissing}
use Rattle.fq_pair.specs.Mates.{Mates}
use Rattle.fq_pair.specs.Forms.{TwoTexts, InterleavedText, pairs_in}
use Rattle.fq_pair.specs.Outputs.{texts_of}
use Rattle.fq_report_reads.specs.Courses.{alone}
use Rattle.fq_report_pairs.specs.Tallies.{tally_of}
use Rattle.fq_law_in_step.proofs.WorkedExamples.{steps, both}
use Rattle.fq_law_runs.specs.Parts.{IsPart}

abbrev first : List Mates
first = take 1 both

abbrev rest : List Mates
rest = drop 1 both

-- Two texts.

abbrev forward : List ℕ
forward = codes "@p1/1\nACGT\n+\n#!II\n"

abbrev forward_rest : List ℕ
forward_rest = codes "@p2/1\nGGCC\n+\nIIII\n"

abbrev reverse : List ℕ
reverse = codes "@p1/2\nTTTT\n+\nIIII\n"

abbrev reverse_rest : List ℕ
reverse_rest = codes "@p2/2\nAAAA\n+\n!!!\"\n"

is_part : IsPart TwoTexts true Sanger 0 forward reverse
is_part = record { forward_whole = refl; reverse_whole = refl; sound = refl }

first_pair : pairs_in TwoTexts true Sanger 0 forward reverse
    ≡ record { mates = first; fault = None }
first_pair = refl

second_pair : pairs_in TwoTexts true Sanger 1 forward_rest reverse_rest
    ≡ record { mates = rest; fault = None }
second_pair = refl

both_pairs :
    pairs_in TwoTexts true Sanger 0 (forward ++ forward_rest) (reverse ++ reverse_rest)
    ≡ record { mates = both; fault = None }
both_pairs = refl

-- An interleaved text.

abbrev interleaved : List ℕ
interleaved = forward ++ reverse

abbrev interleaved_rest : List ℕ
interleaved_rest = forward_rest ++ reverse_rest

is_interleaved_part : IsPart InterleavedText true Sanger 0 interleaved interleaved
is_interleaved_part = record { forward_whole = refl; reverse_whole = refl; sound = refl }

both_interleaved_pairs :
    pairs_in InterleavedText true Sanger 0 (interleaved ++ interleaved_rest)
    (interleaved ++ interleaved_rest)
    ≡ record { mates = both; fault = None }
both_interleaved_pairs = refl

-- The outputs for forward reads, and the reverse reads that the step dropped: those of both pairs
-- are in the examples of `fq_law_in_step`.

first_paired : (texts_of steps first).forward_paired ≡ codes "@p1/1\nGT\n+\nII\n"
first_paired = refl

second_paired : (texts_of steps rest).forward_paired ≡ []
second_paired = refl

first_unpaired : (texts_of steps first).forward_unpaired ≡ []
first_unpaired = refl

second_unpaired : (texts_of steps rest).forward_unpaired ≡ codes "@p2/1\nGGCC\n+\nIIII\n"
second_unpaired = refl

first_dropped : (tally_of (alone steps) first).reverse.steps.dropped ≡ []
first_dropped = refl

second_dropped : (tally_of (alone steps) rest).reverse.steps.dropped ≡ 1 ∷ []
second_dropped = refl

both_dropped : (tally_of (alone steps) both).reverse.steps.dropped ≡ 1 ∷ []
both_dropped = refl

-- What a run that is killed can have left of them, also within a line.

killed : IsPrefix (codes "@p1/1\nG") (texts_of steps both).forward_paired
killed = (codes "T\n+\nII\n", refl)

-- The fault of the rest ends the whole, and pairs are numbered on.

missing : (pairs_in TwoTexts true Sanger 0 forward_rest []).fault ≡ Some (MateMissing Reverse 1)
missing = refl

missing_at_the_end :
    (pairs_in TwoTexts true Sanger 0 (forward ++ forward_rest) (reverse ++ [])).fault
    ≡ Some (MateMissing Reverse 2)
missing_at_the_end = refl

-- A first part that doesn't end with a line end runs on into the rest.

abbrev cut_short : List ℕ
cut_short = codes "@p1/1\nACGT\n+\n#!II"

not_whole : is_whole cut_short ≡ false
not_whole = refl

sound_alone : (pairs_in TwoTexts true Sanger 0 cut_short reverse).fault ≡ None
sound_alone = refl

runs_on : (pairs_in TwoTexts true Sanger 0 (cut_short ++ forward_rest)
    (reverse ++ reverse_rest)).fault
    ≡ Some (Text Forward (QualityLong 1))
runs_on = refl
