-- Nothing is lost, and nothing is invented: the pairs of inputs are made of their records.
use Rattle.std.specs.Prelude.{◌≡◌, ℕ, Bool, Option, None, List, [], ◌∷◌, ◌++◌}
use Rattle.fq_text.specs.declared.encoding.Encoding.{Encoding}
use Rattle.fq_text.specs.Grammar.{Read}
use Rattle.fq_text.specs.Records.{Records, records}
use Rattle.fq_pair.specs.declared.fault.InputFault.{InputFault}
use Rattle.fq_pair.specs.Mates.{Mates}
use Rattle.fq_pair.specs.Pairing.{pairs}
use Rattle.fq_pair.specs.Interleaved.{interleaved_pairs}
use Rattle.fq_law_in_step.specs.InStep.{forward_reads, reverse_reads}

-- the mates of pairs, one after the other
abbrev pub alternating : List Mates → List Read
alternating [] = []
alternating (m ∷ ms) = m.forward ∷ m.reverse ∷ alternating ms

-- the first list is the beginning of the second
abbrev pub Begins : List Read → List Read → Type 0
Begins xs all = (others : List Read) × (all ≡ xs ++ others)

-- The mates are the first records of their text, so none is invented. If no fault ends the pairs,
-- the mates are all its records and it has no fault, so none is lost.
pub record AreAllOf (text : Records) (mates : List Read) (fault : Option InputFault) : Type 0 where
  pub first : Begins mates text.reads
  pub whole : fault ≡ None → text ≡ record { reads = mates; fault = None }

-- for two texts: the mates of each side are records of its text
abbrev pub NothingIsLost : Type 0
NothingIsLost = (check : Bool) (encoding : Encoding) (forward reverse : List ℕ) →
    let all = pairs check encoding 0 forward reverse in
    AreAllOf (records encoding forward) (forward_reads all.mates) all.fault
    × AreAllOf (records encoding reverse) (reverse_reads all.mates) all.fault

-- for an interleaved text: the mates are records of it, taken two by two
abbrev pub NothingIsLostOfOne : Type 0
NothingIsLostOfOne = (check : Bool) (encoding : Encoding) (text : List ℕ) →
    let all = interleaved_pairs check encoding 0 text in
    AreAllOf (records encoding text) (alternating all.mates) all.fault
