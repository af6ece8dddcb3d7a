-- The pairs of an interleaved text, and how they end. Mates alternate: records with odd numbers are
-- forward, those with even numbers reverse.
use Rattle.std.specs.Prelude.{ℕ, zero, suc, ◌+◌, ◌-◌, ◌*◌, Bool, Option, List, [], ◌∷◌, length, drop, take_while}
use Rattle.fq_text.specs.declared.encoding.Encoding.{Encoding}
use Rattle.fq_text.specs.Grammar.{Read, Front, End, Faulty, Found, front}
use Rattle.fq_text.specs.Records.{Records, records}
use Rattle.fq_text.specs.Sources.{numbered}
use Rattle.fq_pair.specs.declared.side.Side.{Side}
use Rattle.fq_pair.specs.declared.side.Side.TheVariants.{Forward, Reverse}
use Rattle.fq_pair.specs.declared.fault.InputFault.{InputFault}
use Rattle.fq_pair.specs.declared.fault.InputFault.TheVariants.{Text, MateMissing}
use Rattle.fq_pair.specs.Mates.{Mates, mates_in}
use Rattle.fq_pair.specs.Pairing.{Pairs, belong, fault_following, text_fault, mate_fault, first_fault, behind, PairFront, Ended, Stopped, met}

-- the side of the next record of an interleaved text, after n records
abbrev pub side_after : ℕ → Side
side_after zero = Forward
side_after (suc zero) = Reverse
side_after (suc (suc n)) = side_after n

-- the reads of a list, taken as mates two by two
abbrev pub interleaved_mates : List Read → List Mates
interleaved_mates [] = []
interleaved_mates (f ∷ []) = []
interleaved_mates (f ∷ r ∷ others) = mates_in f r ∷ interleaved_mates others

-- why there is no pair n, if the rest of the text begins with its record 2n - 1
abbrev pub interleaved_fault_at : ℕ → Records → Option InputFault
interleaved_fault_at n text =
    let second = drop 1 text.reads in
    first_fault (text_fault Forward text.reads (fault_following (2 * n - 1) text))
    (first_fault (text_fault Reverse second (fault_following (2 * n) text))
    (mate_fault n text.reads second))

-- The pairs of an interleaved text, numbered on from those given, until a record is missing or two
-- names differ.
abbrev pub interleaved_pairs_of : Bool → ℕ → Records → Pairs
interleaved_pairs_of check given text =
    let mates = take_while (belong check) (interleaved_mates text.reads) in
    let n = length mates in
    record { mates = mates; fault = interleaved_fault_at (suc (given + n)) (behind (2 * n) text) }

-- the pairs of an interleaved text given as bytes
abbrev pub interleaved_pairs : Bool → Encoding → ℕ → List ℕ → Pairs
interleaved_pairs check encoding given text =
    interleaved_pairs_of check given (records encoding text)

-- One pair after the other.

-- pair n, if its forward mate was found and this comes after it
abbrev pub meeting_after : Bool → ℕ → Read → Front → PairFront
meeting_after check n f (Faulty fault) = Stopped (Text Reverse (numbered fault (2 * n)))
meeting_after check n f End = Stopped (MateMissing Reverse n)
meeting_after check n f (Found r ls) = met check n (mates_in f r) ls ls

-- pair n, if this comes first in the text
abbrev pub interleaved_meeting : Bool → Encoding → ℕ → Front → PairFront
interleaved_meeting check encoding n (Faulty fault) =
    Stopped (Text Forward (numbered fault (2 * n - 1)))
interleaved_meeting check encoding n End = Ended
interleaved_meeting check encoding n (Found f ls) = meeting_after check n f (front encoding ls)

-- What comes first in a list of lines, after the pairs given. The lines after a pair are left to
-- both sides.
abbrev pub interleaved_front : Bool → Encoding → ℕ → List (List ℕ) → PairFront
interleaved_front check encoding given ls =
    interleaved_meeting check encoding (suc given) (front encoding ls)
