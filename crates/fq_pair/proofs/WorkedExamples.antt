-- Worked inputs: names, pairs, texts and the summary.
use Rattle.std.proofs.Common.{◌≡◌, ℕ, true, false, Option, Some, None, List, [], ◌∷◌, ◌++◌, codes, refl}
use Rattle.std.specs.Fmt.{digits}
use Rattle.fq_text.specs.declared.encoding.Encoding.TheVariants.{Sanger}
use Rattle.fq_text.specs.Grammar.{Read}
use Rattle.fq_text.specs.declared.fault.TextFault.TheVariants.{NoTitle, PlusDiffers, NoPlus, BadSequence}
use Rattle.fq_trim.specs.declared.step.Step.{Step}
use Rattle.fq_trim.specs.declared.step.Step.TheVariants.{Leading, Trailing, MinLen, SlidingWindow}
use Rattle.fq_pair.specs.declared.counts.Counts.{Counts}
use Rattle.fq_pair.specs.declared.side.Side.TheVariants.{Forward, Reverse}
use Rattle.fq_pair.specs.declared.fault.InputFault.{InputFault}
use Rattle.fq_pair.specs.declared.fault.InputFault.TheVariants.{Text, MateMissing, NamesDiffer}
use Rattle.fq_pair.specs.Mates.{Mates, mates_in, name_of, names_match}
use Rattle.fq_pair.specs.Pairing.{Pairs, pairs}
use Rattle.fq_pair.specs.Interleaved.{interleaved_pairs}
use Rattle.fq_pair.specs.Forms.{TwoTexts, InterleavedText, names_of_pair}
use Rattle.fq_pair.specs.Outputs.{texts_of, counts_of}
use Rattle.fq_pair.specs.Summaries.{summary_of, capped}

-- Names.

only_mark : name_of Forward (codes "/1") ≡ []
only_mark = refl

other_mark : name_of Forward (codes "a/2") ≡ codes "a/2"
other_mark = refl

one_mark_less : name_of Forward (codes "a/1/1\tx") ≡ codes "a/1"
one_mark_less = refl

empty_word : name_of Forward (codes " x") ≡ []
empty_word = refl

first_blank : name_of Forward (codes "a/1 /1") ≡ codes "a"
first_blank = refl

casava : names_match (codes "M1:7:FC 1:N:0:ACGT") (codes "M1:7:FC 2:N:0:ACGT") ≡ true
casava = refl

-- Two pairs.

abbrev forward : List ℕ
forward = codes "@p1/1\nACGT\n+\n#!II\n@p2/1\nGGCC\n+\nIIII\n"

abbrev reverse : List ℕ
reverse = codes "@p1/2\nTTTT\n+\nIIII\n@p2/2\nAAAA\n+\n!!!\"\n"

abbrev read : List ℕ → List ℕ → List ℕ → Read
read title seq qual = record { encoding = Sanger; title = title; seq = seq; qual = qual }

abbrev ends : List Mates → Option InputFault → Pairs
ends mates fault = record { mates = mates; fault = fault }

abbrev counts : ℕ → ℕ → ℕ → ℕ → ℕ → Counts
counts pairs both forward_only reverse_only dropped = record {
  pairs = pairs;
  both = both;
  forward_only = forward_only;
  reverse_only = reverse_only;
  dropped = dropped;
}

abbrev first : Mates
first = mates_in (read (codes "p1/1") (codes "ACGT") (codes "#!II"))
    (read (codes "p1/2") (codes "TTTT") (codes "IIII"))

abbrev second : Mates
second = mates_in (read (codes "p2/1") (codes "GGCC") (codes "IIII"))
    (read (codes "p2/2") (codes "AAAA") (codes "!!!\""))

two_pairs : pairs true Sanger 0 forward reverse ≡ ends (first ∷ second ∷ []) None
two_pairs = refl

two_empty_texts : pairs true Sanger 0 [] [] ≡ ends [] None
two_empty_texts = refl

two_pairs_trimmed : texts_of (Leading 3 ∷ []) (first ∷ second ∷ []) ≡ record {
  forward_paired = codes "@p1/1\nGT\n+\nII\n";
  forward_unpaired = codes "@p2/1\nGGCC\n+\nIIII\n";
  reverse_paired = codes "@p1/2\nTTTT\n+\nIIII\n";
  reverse_unpaired = [];
  log = codes "p1 2 2 4 0\np1 4 0 4 0\np2 4 0 4 0\np2 0 0 0 0\n";
  counts = counts 2 1 1 0 0;
}
unfolding digits
two_pairs_trimmed = refl

-- Faults, in their order.

fault_of_forward : (pairs true Sanger 0 (codes "@r1\nA\n+other\nI\n") reverse).fault
    ≡ Some (Text Forward (PlusDiffers 1))
fault_of_forward = refl

fault_of_both : (pairs true Sanger 0 (codes "@p1\nA\n+\nI\n@p2\nA\n")
    (codes "@p1\nA\n+\nI\n@p2\nA\n+x\nI\n")).fault ≡ Some (Text Forward (NoPlus 2))
fault_of_both = refl

fault_of_reverse : (pairs true Sanger 0 (codes "@p1\nA\n+\nI\n")
    (codes "@p1\nA\n+\nI\n@p2\nA\n+x\nI\n")).fault ≡ Some (Text Reverse (PlusDiffers 2))
fault_of_reverse = refl

missing_reverse : (pairs true Sanger 5 forward (codes "@p1/2\nTTTT\n+\nIIII\n")).fault
    ≡ Some (MateMissing Reverse 7)
missing_reverse = refl

missing_forward : (pairs true Sanger 0 (codes "@p1/1\nTTTT\n+\nIIII\n") reverse).fault
    ≡ Some (MateMissing Forward 2)
missing_forward = refl

other_names : pairs true Sanger 0 (codes "@a/1\nA\n+\nI\n@b/1\nA\n+\nI\n")
    (codes "@a/2 x\nA\n+\nI\n@c/2\nA\n+\nI\n")
    ≡ ends (mates_in (read (codes "a/1") (codes "A") (codes "I"))
    (read (codes "a/2 x") (codes "A") (codes "I")) ∷ []) (Some (NamesDiffer 2))
other_names = refl

names_unchecked : (pairs false Sanger 0 (codes "@a/1\nA\n+\nI\n@b/1\nA\n+\nI\n")
    (codes "@a/2 x\nA\n+\nI\n@c/2\nA\n+\nI\n")).fault ≡ None
names_unchecked = refl

-- Pairs of an interleaved text.

-- two pairs, whose last record has this plus line
abbrev two_pairs_with : List ℕ → List ℕ
two_pairs_with plus =
    codes "@p1/1\nACGT\n+\n#!II\n@p1/2\nTTTT\n+\nIIII\n@p2/1\nGGCC\n+\nIIII\n@p2/2\nAAAA\n" ++ (plus ++ codes "\n!!!\"\n")

two_interleaved : interleaved_pairs true Sanger 0 (two_pairs_with (codes "+"))
    ≡ ends (first ∷ second ∷ []) None
two_interleaved = refl

-- the fourth record has the fault
fault_of_second_mate : interleaved_pairs true Sanger 0 (two_pairs_with (codes "+x"))
    ≡ ends (first ∷ []) (Some (Text Reverse (PlusDiffers 4)))
fault_of_second_mate = refl

-- the third record has the fault
fault_of_first_mate : interleaved_pairs true Sanger 0
    (codes "@p1/1\nACGT\n+\n#!II\n@p1/2\nTTTT\n+\nIIII\np2/1\n")
    ≡ ends (first ∷ []) (Some (Text Forward (NoTitle 3)))
fault_of_first_mate = refl

empty_text : interleaved_pairs true Sanger 0 [] ≡ ends [] None
empty_text = refl

one_record : interleaved_pairs true Sanger 0 (codes "@p1/1\nACGT\n+\n#!II\n")
    ≡ ends [] (Some (MateMissing Reverse 1))
one_record = refl

three_records : interleaved_pairs true Sanger 0
    (codes "@p1/1\nACGT\n+\n#!II\n@p1/2\nTTTT\n+\nIIII\n@p2/1\nGGCC\n+\nIIII\n")
    ≡ ends (first ∷ []) (Some (MateMissing Reverse 2))
three_records = refl

-- after five pairs come records 11 and 12, of pair 6
later_first_mate : (interleaved_pairs true Sanger 5 (codes "@a\nA\n+x\nI\n")).fault
    ≡ Some (Text Forward (PlusDiffers 11))
later_first_mate = refl

later_second_mate : (interleaved_pairs true Sanger 5 (codes "@a\nA\n+\nI\n@a\nA C\n+\nIII\n")).fault
    ≡ Some (Text Reverse (BadSequence 12))
later_second_mate = refl

later_missing : (interleaved_pairs true Sanger 5 (codes "@a\nA\n+\nI\n")).fault
    ≡ Some (MateMissing Reverse 6)
later_missing = refl

later_names : (interleaved_pairs true Sanger 5 (codes "@a\nA\n+\nI\n@b\nA\n+\nI\n@r")).fault
    ≡ Some (NamesDiffer 6)
later_names = refl

-- two mates whose names differ, and a text that goes on
interleaved_names : interleaved_pairs true Sanger 0
    (codes "@p1/1\nACGT\n+\n#!II\n@p1/2\nTTTT\n+\nIIII\n@b/1\nA\n+\nI\n@c/2\nA\n+\nI\n@d/1\n")
    ≡ ends (first ∷ []) (Some (NamesDiffer 2))
interleaved_names = refl

interleaved_names_unchecked : (interleaved_pairs false Sanger 0
    (codes "@b/1\nA\n+\nI\n@c/2\nA\n+\nI\n")).fault ≡ None
interleaved_names_unchecked = refl

-- the names of pair 2, which differ, and none if there is no pair 2
second_names : names_of_pair 2 TwoTexts Sanger (codes "@a/1\nA\n+\nI\n@b/1 x\nA\n+\nI\n")
    (codes "@a/2 x\nA\n+\nI\n@c/2\nA\n+\nI\n")
    ≡ Some (record { forward = codes "b"; reverse = codes "c" })
second_names = refl

no_second_names : names_of_pair 2 InterleavedText Sanger (codes "@a/1\nA\n+\nI\n@b/2\nA\n+\nI\n") []
    ≡ None
no_second_names = refl

-- Logs.

cut_by_a_window : (texts_of (SlidingWindow 4 15 ∷ [])
    (mates_in (read (codes "r1") (codes "ACGTACGT") (codes "????####"))
    (read (codes "r2") (codes "ACG") (codes "III")) ∷ [])).log
    ≡ codes "r1 4 0 4 4\nr2 0 0 0 0\n"
unfolding digits
cut_by_a_window = refl

-- Seven pairs, and six forward records with five reverse ones.

abbrev trimming : List Step
trimming = Leading 3 ∷ Trailing 3 ∷ MinLen 2 ∷ []

seven_pairs_trimmed : let left =
    pairs true Sanger 0
    (codes "@n1/1\nACGT\n+\nIIII\n@n2/1\nACGT\n+\n##II\n@n3/1\nACGT\n+\nIIII\n@n4/1\nACGT\n+\n##II\n@n5/1\nACGT\n+\nIIII\n@n6/1\nACGT\n+\n##II\n@n7/1\nACGT\n+\nIIII\n") (codes "@n1/2\nTTTT\n+\nII##\n@n2/2\nTTTT\n+\nII##\n@n3/2\nTTTT\n+\n!!!!\n@n4/2\nTTTT\n+\nII##\n@n5/2\nTTTT\n+\nII##\n@n6/2\nTTTT\n+\n!!!!\n@n7/2\nTTTT\n+\nII##\n") in
    (left.fault ≡ None) × (texts_of trimming left.mates ≡ record {
      forward_paired =
          codes "@n1/1\nACGT\n+\nIIII\n@n2/1\nGT\n+\nII\n@n4/1\nGT\n+\nII\n@n5/1\nACGT\n+\nIIII\n@n7/1\nACGT\n+\nIIII\n";
      forward_unpaired = codes "@n3/1\nACGT\n+\nIIII\n@n6/1\nGT\n+\nII\n";
      reverse_paired =
          codes "@n1/2\nTT\n+\nII\n@n2/2\nTT\n+\nII\n@n4/2\nTT\n+\nII\n@n5/2\nTT\n+\nII\n@n7/2\nTT\n+\nII\n";
      reverse_unpaired = [];
      log = codes
          "n1 4 0 4 0\nn1 2 0 2 2\nn2 2 2 4 0\nn2 2 0 2 2\nn3 4 0 4 0\nn3 0 0 0 0\nn4 2 2 4 0\nn4 2 0 2 2\nn5 4 0 4 0\nn5 2 0 2 2\nn6 2 2 4 0\nn6 0 0 0 0\nn7 4 0 4 0\nn7 2 0 2 2\n";
      counts = counts 7 5 2 0 0;
    })
unfolding digits
seven_pairs_trimmed = (refl, refl)

six_and_five : let left =
    pairs true Sanger 0
    (codes "@n1/1\nACGT\n+\nIIII\n@n2/1\nACGT\n+\n##II\n@n3/1\nACGT\n+\nIIII\n@n4/1\nACGT\n+\n##II\n@n5/1\nACGT\n+\nIIII\n@n6/1\nACGT\n+\n##II\n") (codes "@n1/2\nTTTT\n+\nII##\n@n2/2\nTTTT\n+\nII##\n@n3/2\nTTTT\n+\n!!!!\n@n4/2\nTTTT\n+\nII##\n@n5/2\nTTTT\n+\nII##\n") in
    (left.fault ≡ Some (MateMissing Reverse 6)) × (counts_of trimming left.mates ≡ counts 5 4 1 0 0)
six_and_five = (refl, refl)

eleven_interleaved : let left = interleaved_pairs true Sanger 0
    (codes "@n1/1\nACGT\n+\nIIII\n@n1/2\nTTTT\n+\nII##\n@n2/1\nACGT\n+\n##II\n@n2/2\nTTTT\n+\nII##\n@n3/1\nACGT\n+\nIIII\n@n3/2\nTTTT\n+\n!!!!\n@n4/1\nACGT\n+\n##II\n@n4/2\nTTTT\n+\nII##\n@n5/1\nACGT\n+\nIIII\n@n5/2\nTTTT\n+\nII##\n@n6/1\nACGT\n+\n##II\n") in
    (left.fault ≡ Some (MateMissing Reverse 6)) × (counts_of trimming left.mates ≡ counts 5 4 1 0 0)
eleven_interleaved = (refl, refl)

-- The summary.

seven_pairs : summary_of (counts 7 5 2 0 0)
    ≡ codes "Input Read Pairs: 7\nBoth Surviving: 5\nForward Only Surviving: 2\nReverse Only Surviving: 0\nDropped: 0\n"
unfolding digits
seven_pairs = refl

capped_pairs : capped (counts 18446744073709551615 0 0 0 0) (counts 1 2 3 4 5)
    ≡ counts 18446744073709551615 2 3 4 5
capped_pairs = refl
