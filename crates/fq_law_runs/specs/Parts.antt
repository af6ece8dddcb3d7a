-- Inputs that are cut in two after a pair may be trimmed apart. This holds for two texts, which are
-- cut after the same pair, and for an interleaved text, which is both the forward and the reverse
-- text.
use Rattle.std.specs.Prelude.{◌≡◌, ℕ, ◌+◌, Bool, None, List, ◌++◌, length, IsTrue}
use Rattle.fq_text.specs.declared.encoding.Encoding.{Encoding}
use Rattle.fq_text.specs.Lines.{is_whole}
use Rattle.fq_trim.specs.declared.step.Step.{Step}
use Rattle.fq_pair.specs.Pairing.{Pairs}
use Rattle.fq_pair.specs.Forms.{Form, pairs_in}
use Rattle.fq_pair.specs.Outputs.{texts_of, joined}
use Rattle.fq_report_reads.specs.Courses.{alone}
use Rattle.fq_report_pairs.specs.Tallies.{tally_of, plus}

-- pairs, and after them others with the fault that ends those
abbrev pub pairs_then : Pairs → Pairs → Pairs
pairs_then first rest = record { mates = first.mates ++ rest.mates; fault = rest.fault }

-- the texts are a first part of inputs: they end with a line end, and pair up without a fault
pub record IsPart (form : Form) (check : Bool) (encoding : Encoding) (given : ℕ)
    (forward reverse : List ℕ) : Type 0 where
  pub forward_whole : IsTrue (is_whole forward)
  pub reverse_whole : IsTrue (is_whole reverse)
  pub sound : (pairs_in form check encoding given forward reverse).fault ≡ None

-- the pairs of inputs are those of a first part, and then those of the rest, numbered on
abbrev pub PairsAreJoined : Type 0
PairsAreJoined = (form : Form) (check : Bool) (encoding : Encoding) (given : ℕ)
    (forward reverse forward_rest reverse_rest : List ℕ) →
    IsPart form check encoding given forward reverse →
    let first = pairs_in form check encoding given forward reverse in
    let number = given + length first.mates in
    pairs_in form check encoding given (forward ++ forward_rest) (reverse ++ reverse_rest)
    ≡ pairs_then first (pairs_in form check encoding number forward_rest reverse_rest)

-- What is made of all pairs is what is made of the first ones and of the others: texts, log and
-- counts are joined, and the numbers of the report are added.
pub record AreMadeApart (steps : List Step) (all first rest : Pairs) : Type 0 where
  pub texts : texts_of steps all.mates
      ≡ joined (texts_of steps first.mates) (texts_of steps rest.mates)
  pub tally : tally_of (alone steps) all.mates
      ≡ plus (tally_of (alone steps) first.mates) (tally_of (alone steps) rest.mates)

-- so a first part and the rest may be trimmed apart
abbrev pub PartsAreTrimmedApart : Type 0
PartsAreTrimmedApart = (form : Form) (check : Bool) (encoding : Encoding) (steps : List Step)
    (forward reverse forward_rest reverse_rest : List ℕ) →
    IsPart form check encoding 0 forward reverse →
    AreMadeApart steps
    (pairs_in form check encoding 0 (forward ++ forward_rest) (reverse ++ reverse_rest))
    (pairs_in form check encoding 0 forward reverse)
    (pairs_in form check encoding 0 forward_rest reverse_rest)
