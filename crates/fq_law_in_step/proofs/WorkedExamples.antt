-- Two worked pairs under LEADING:3, and what the laws say about them, computed from the definitions
-- alone. Then the two kinds of reads that can't be read again.
use Rattle.std.proofs.Common.{◌≡◌, ℕ, true, Some, None, List, [], ◌∷◌, codes, length, take, filter, map, refl}
use Prim.Native.String.{String as Text}
use Rattle.std.specs.List.{All}
use Rattle.std.proofs.lemmas.List.Elements.{All-nil, All-cons}
use Rattle.fq_text.specs.declared.encoding.Encoding.TheVariants.{Sanger, Illumina13}
use Rattle.fq_text.specs.declared.fault.TextFault.TheVariants.{BadSequence}
use Rattle.fq_text.specs.Lines.{pieces}
use Rattle.fq_text.specs.Grammar.{Read}
use Rattle.fq_text.specs.Records.{records}
use Rattle.fq_trim.specs.declared.step.Step.{Step}
use Rattle.fq_trim.specs.declared.step.Step.TheVariants.{Leading, HeadCrop, ToPhred33}
use Rattle.fq_trim.specs.KeptPlaces.{kept_places}
use Rattle.fq_pair.specs.declared.side.Side.TheVariants.{Reverse}
use Rattle.fq_pair.specs.declared.fault.InputFault.TheVariants.{MateMissing}
use Rattle.fq_pair.specs.Mates.{Mates, mates_in}
use Rattle.fq_pair.specs.Interleaved.{interleaved_pairs}
use Rattle.fq_pair.specs.Pairing.{pairs, fault_following}
use Rattle.fq_pair.specs.Outputs.{texts_of, record_text, log_numbers, both_survive, forward_alone}
use Rattle.fq_report_reads.specs.declared.side.SideTally.{SideTally}
use Rattle.fq_report_reads.specs.Courses.{alone}
use Rattle.fq_report_pairs.specs.Tallies.{tally_of}
use Rattle.fq_law_in_step.specs.Pieces.{IsPlain, trimmed}
use Rattle.fq_law_in_step.specs.InStep.{forward_reads, reverse_reads}
use Rattle.fq_law_in_step.specs.Everything.{alternating}
use Rattle.fq_law_in_step.specs.Reports.{dropped_by}
use Rattle.fq_law_in_step.specs.ReportLists.{logged}

-- one step
abbrev pub steps : List Step
steps = Leading 3 ∷ []

-- a read in Sanger's encoding, by its title, its bases and its quality
abbrev pub read : Text → Text → Text → Read
read title seq qual =
    record { encoding = Sanger; title = codes title; seq = codes seq; qual = codes qual }

-- The inputs.

abbrev forward : List ℕ
forward = codes "@p1/1\nACGT\n+\n#!II\n@p2/1\nGGCC\n+\nIIII\n"

abbrev reverse : List ℕ
reverse = codes "@p1/2\nTTTT\n+\nIIII\n@p2/2\nAAAA\n+\n!!!\"\n"

abbrev interleaved : List ℕ
interleaved = codes
    "@p1/1\nACGT\n+\n#!II\n@p1/2\nTTTT\n+\nIIII\n@p2/1\nGGCC\n+\nIIII\n@p2/2\nAAAA\n+\n!!!\"\n"

-- both pairs
abbrev pub both : List Mates
both = mates_in (read "p1/1" "ACGT" "#!II") (read "p1/2" "TTTT" "IIII")
    ∷ mates_in (read "p2/1" "GGCC" "IIII") (read "p2/2" "AAAA" "!!!\"") ∷ []

two_pairs : pairs true Sanger 0 forward reverse ≡ record { mates = both; fault = None }
two_pairs = refl

-- Nothing is lost: the mates of these pairs are all records of their texts. Without the second
-- reverse record there is one pair, and its mates are the first records.

all_forward : records Sanger forward ≡ record { reads = forward_reads both; fault = None }
all_forward = refl

all_reverse : records Sanger reverse ≡ record { reads = reverse_reads both; fault = None }
all_reverse = refl

all_interleaved : records Sanger interleaved ≡ record { reads = alternating both; fault = None }
all_interleaved = refl

pairs_interleaved : interleaved_pairs true Sanger 0 interleaved
    ≡ record { mates = both; fault = None }
pairs_interleaved = refl

one_pair : pairs true Sanger 0 forward (codes "@p1/2\nTTTT\n+\nIIII\n")
    ≡ record { mates = take 1 both; fault = Some (MateMissing Reverse 2) }
one_pair = refl

-- The outputs.

outputs : texts_of steps both ≡ record (texts_of steps both) {
  forward_paired = codes "@p1/1\nGT\n+\nII\n";
  forward_unpaired = codes "@p2/1\nGGCC\n+\nIIII\n";
  reverse_paired = codes "@p1/2\nTTTT\n+\nIIII\n";
  reverse_unpaired = [];
  counts = record { pairs = 2; both = 1; forward_only = 1; reverse_only = 0; dropped = 0 };
}
outputs = refl

-- the numbers of a read's log line
abbrev numbers : Read → List ℕ
numbers r = log_numbers (length r.seq) (kept_places steps r)

forward_log : map numbers (forward_reads both) ≡ (2 ∷ 2 ∷ 4 ∷ 0 ∷ []) ∷ (4 ∷ 0 ∷ 4 ∷ 0 ∷ []) ∷ []
forward_log = refl

reverse_log : map numbers (reverse_reads both) ≡ (4 ∷ 0 ∷ 4 ∷ 0 ∷ []) ∷ (0 ∷ 0 ∷ 0 ∷ 0 ∷ []) ∷ []
reverse_log = refl

-- Outputs that are read again.

-- One pair is read, because both mates survive in one pair. The forward mate has lost its first two
-- bases; the reverse mate is whole.
in_step : pairs true Sanger 0 (codes "@p1/1\nGT\n+\nII\n") (codes "@p1/2\nTTTT\n+\nIIII\n")
    ≡ record {
      mates = mates_in (read "p1/1" "GT" "II") (read "p1/2" "TTTT" "IIII") ∷ [];
      fault = None;
    }
in_step = refl

alone_again : records Sanger (codes "@p2/1\nGGCC\n+\nIIII\n")
    ≡ record { reads = read "p2/1" "GGCC" "IIII" ∷ []; fault = None }
alone_again = refl

none_again : records Sanger [] ≡ record { reads = []; fault = None }
none_again = refl

-- the reads that are written are plain, as the laws require
one_plain : (r : Read) → IsPlain steps r → All (IsPlain steps) (r ∷ [])
one_plain r plain = All-cons (IsPlain steps) r [] plain (All-nil (IsPlain steps))

plain_forward : All (IsPlain steps) (forward_reads (filter (both_survive steps) both))
plain_forward =
    one_plain (read "p1/1" "ACGT" "#!II") (record { title = refl; no_title = refl; no_plus = refl })

plain_reverse : All (IsPlain steps) (reverse_reads (filter (both_survive steps) both))
plain_reverse =
    one_plain (read "p1/2" "TTTT" "IIII") (record { title = refl; no_title = refl; no_plus = refl })

plain_alone : All (IsPlain steps) (forward_reads (filter (forward_alone steps) both))
plain_alone =
    one_plain (read "p2/1" "GGCC" "IIII") (record { title = refl; no_title = refl; no_plus = refl })

-- with TOPHRED33 an output is in Sanger's encoding
recoded : trimmed (Leading 3 ∷ ToPhred33 ∷ []) (record (read "i" "ACG" "AhD") { encoding = Illumina13 })
    ≡ read "i" "CG" "I%"
recoded = refl

-- Sums of the report: the step drops one of two reverse reads, and the other survives with its
-- mate.

dropped : dropped_by steps (tally_of (alone steps) both).reverse.steps ≡ 1 ∷ []
dropped = refl

paired : (tally_of (alone steps) both).reverse.paired.reads ≡ 1
paired = refl

before : (tally_of (alone steps) both).reverse.before.reads ≡ 2
before = refl

-- The lists of both forward reads: of one of them two bases were removed at its start, and the
-- lists by position have four items each.

abbrev forward_side : SideTally
forward_side = (tally_of (alone steps) both).forward

lengths : forward_side.before.lengths ≡ 0 ∷ 0 ∷ 0 ∷ 0 ∷ 2 ∷ []
lengths = refl

bases : forward_side.positions.before.bases ≡ 2 ∷ 2 ∷ 2 ∷ 2 ∷ []
bases = refl

all_bases : forward_side.before.bases.bases ≡ 8
all_bases = refl

paired_bases : forward_side.positions.paired.bases ≡ 1 ∷ 1 ∷ []
paired_bases = refl

second_numbers : logged 1 steps (forward_reads both) ≡ 2 ∷ 0 ∷ []
second_numbers = refl

removed_front : forward_side.removed_front ≡ 1 ∷ 0 ∷ 1 ∷ []
removed_front = refl

fourth_numbers : logged 3 steps (forward_reads both) ≡ 0 ∷ 0 ∷ []
fourth_numbers = refl

removed_behind : forward_side.removed_behind ≡ 2 ∷ []
removed_behind = refl

-- Reads that can't be read again.

-- a cut that leaves @ as the first base
cut_to_a_mark : fault_following 1 (records Sanger (record_text (HeadCrop 1 ∷ [])
    (read "m" "A@C" "III"))) ≡ Some (BadSequence 1)
cut_to_a_mark = refl

-- it has four lines
four_lines_of_it : pieces (record_text (HeadCrop 1 ∷ [])
    (read "m" "A@C" "III"))
    ≡ codes "@m" ∷ codes "@C" ∷ codes "+" ∷ codes "II" ∷ []
four_lines_of_it = refl

-- a title that ends in CR loses it
title_with_cr : records Sanger (record_text steps (read "r\r" "AC" "II"))
    ≡ record { reads = read "r" "AC" "II" ∷ []; fault = None }
title_with_cr = refl

-- it is in the first of its lines
four_lines_with_cr : pieces (record_text steps (read "r\r" "AC" "II"))
    ≡ codes "@r\r" ∷ codes "AC" ∷ codes "+" ∷ codes "II" ∷ []
four_lines_with_cr = refl
