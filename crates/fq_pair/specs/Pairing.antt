-- The pairs of two texts, and how they end.
use Rattle.std.specs.Prelude.{ℕ, suc, ◌+◌, Bool, not, ◌||◌, Option, Some, None, List, [], ◌∷◌, length, drop, take_while, if◌then◌else◌}
use Rattle.std.specs.Option.{option_map}
use Rattle.fq_text.specs.declared.encoding.Encoding.{Encoding}
use Rattle.fq_text.specs.declared.fault.TextFault.{TextFault}
use Rattle.fq_text.specs.Grammar.{Read, Front, End, Faulty, Found, front}
use Rattle.fq_text.specs.Records.{Records, records}
use Rattle.fq_text.specs.Sources.{numbered}
use Rattle.fq_pair.specs.declared.side.Side.{Side}
use Rattle.fq_pair.specs.declared.side.Side.TheVariants.{Forward, Reverse}
use Rattle.fq_pair.specs.declared.fault.InputFault.{InputFault}
use Rattle.fq_pair.specs.declared.fault.InputFault.TheVariants.{Text, MateMissing, NamesDiffer}
use Rattle.fq_pair.specs.Mates.{Mates, MateNames, mates_in, mate_names, names_match}

-- pairs, and the fault after them if there is one
pub record Pairs : Type 0 where
  pub mates : List Mates
  pub fault : Option InputFault

-- the pairs of mates at the same places of two lists
abbrev pub mates_of : List Read → List Read → List Mates
mates_of [] rs = []
mates_of (f ∷ fs) [] = []
mates_of (f ∷ fs) (r ∷ rs) = mates_in f r ∷ mates_of fs rs

-- two mates belong together if their names are the same or aren't checked
abbrev pub belong : Bool → Mates → Bool
belong check m = not check || names_match m.forward.title m.reverse.title

-- the fault after the records of a text, as that of record n
abbrev pub fault_following : ℕ → Records → Option TextFault
fault_following n text = option_map (λ fault. numbered fault n) text.fault

-- the fault because of which a text has no next record
abbrev pub text_fault : Side → List Read → Option TextFault → Option InputFault
text_fault side [] (Some fault) = Some (Text side fault)
text_fault side [] None = None
text_fault side (r ∷ rs) fault = None

-- mates n are not a pair: one is missing, or their names differ
abbrev pub mate_fault : ℕ → List Read → List Read → Option InputFault
mate_fault n [] [] = None
mate_fault n (f ∷ fs) [] = Some (MateMissing Reverse n)
mate_fault n [] (r ∷ rs) = Some (MateMissing Forward n)
mate_fault n (f ∷ fs) (r ∷ rs) = Some (NamesDiffer n)

-- the first of two faults
abbrev pub first_fault : Option InputFault → Option InputFault → Option InputFault
first_fault (Some fault) later = Some fault
first_fault None later = later

-- why there is no pair n, if the rests of two texts begin with their records n
abbrev pub fault_at : ℕ → Records → Records → Option InputFault
fault_at n forward reverse =
    first_fault (text_fault Forward forward.reads (fault_following n forward))
    (first_fault (text_fault Reverse reverse.reads (fault_following n reverse))
    (mate_fault n forward.reads reverse.reads))

-- what is left of a text after its first n records
abbrev pub behind : ℕ → Records → Records
behind n text = record text { reads = drop n text.reads }

-- The pairs of two texts, numbered on from those given, until a record is missing or two names
-- differ.
abbrev pub pairs_of : Bool → ℕ → Records → Records → Pairs
pairs_of check given forward reverse =
    let mates = take_while (belong check) (mates_of forward.reads reverse.reads) in
    let n = length mates in
    record {
      mates = mates;
      fault = fault_at (suc (given + n)) (behind n forward) (behind n reverse);
    }

-- the pairs of two texts given as bytes
abbrev pub pairs : Bool → Encoding → ℕ → List ℕ → List ℕ → Pairs
pairs check encoding given forward reverse =
    pairs_of check given (records encoding forward) (records encoding reverse)

-- One pair after the other.

-- what comes first in two texts: nothing, a fault, or a pair with the lines after its mates
pub data PairFront : Type 0 where
  Ended : PairFront
  Stopped : InputFault → PairFront
  Met : Mates → List (List ℕ) → List (List ℕ) → PairFront

-- the names of the pair that comes first
abbrev pub first_names : PairFront → Option MateNames
first_names (Met m forward reverse) = Some (mate_names m)
first_names _ = None

-- the pair of two records, if they belong together
abbrev pub met : Bool → ℕ → Mates → List (List ℕ) → List (List ℕ) → PairFront
met check n m forward reverse =
    if belong check m then Met m forward reverse else Stopped (NamesDiffer n)

-- pair n, if this comes first in the two texts
abbrev pub meeting : Bool → ℕ → Front → Front → PairFront
meeting check n (Faulty fault) reverse = Stopped (Text Forward (numbered fault n))
meeting check n End (Faulty fault) = Stopped (Text Reverse (numbered fault n))
meeting check n (Found f fls) (Faulty fault) = Stopped (Text Reverse (numbered fault n))
meeting check n (Found f fls) End = Stopped (MateMissing Reverse n)
meeting check n End (Found r rls) = Stopped (MateMissing Forward n)
meeting check n End End = Ended
meeting check n (Found f fls) (Found r rls) = met check n (mates_in f r) fls rls

-- what comes first in two lists of lines, after the pairs given
abbrev pub pair_front : Bool → Encoding → ℕ → List (List ℕ) → List (List ℕ) → PairFront
pair_front check encoding given forward reverse =
    meeting check (suc given) (front encoding forward) (front encoding reverse)

-- one more pair at the front
abbrev pub with_pair : Mates → Pairs → Pairs
with_pair m others = record { mates = m ∷ others.mates; fault = others.fault }
