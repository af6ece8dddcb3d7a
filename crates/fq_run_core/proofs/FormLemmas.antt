-- The pairs of the lines of the inputs, in either form.
use Rattle.std.proofs.Common.{◌≡◌, ℕ, suc, Bool, Some, None, List, [], refl}
use Rattle.fq_text.specs.declared.encoding.Encoding.{Encoding}
use Rattle.fq_text.specs.Lines.{lines}
use Rattle.fq_pair.specs.declared.fault.InputFault.{InputFault}
use Rattle.fq_pair.specs.Mates.{Mates}
use Rattle.fq_pair.specs.Pairing.{Pairs, pairs_of, with_pair, Ended, Stopped, Met}
use Rattle.fq_pair.specs.Interleaved.{interleaved_pairs_of}
use Rattle.fq_pair.specs.Forms.{Form, TwoTexts, InterleavedText, pairs_in, front_in}
use Rattle.fq_pair.proofs.PairLaws.{records_of, pairs_of-met, pairs_of-stopped, pairs_of-ended}
use Rattle.fq_pair.proofs.InterleavedLaws.{interleaved_pairs_of-met, interleaved_pairs_of-stopped, interleaved_pairs_of-ended}

-- the pairs of the lines of the inputs
abbrev pub pairs_at : Form → Bool → Encoding → ℕ → List (List ℕ) → List (List ℕ) → Pairs
pairs_at TwoTexts check e n forward reverse =
    pairs_of check n (records_of e forward) (records_of e reverse)
pairs_at InterleavedText check e n ls same = interleaved_pairs_of check n (records_of e ls)

module _ (check : Bool) (e : Encoding) (n : ℕ) where
  -- the pairs in the bytes of the inputs are those of their lines
  pub pairs_in-lines : (form : Form) (f r : List ℕ) →
      pairs_in form check e n f r ≡ pairs_at form check e n (lines f) (lines r)
  pairs_in-lines TwoTexts f r = refl
  pairs_in-lines InterleavedText f r = refl

  -- if a pair comes first in the lines, the pairs are this one and those of the lines after it
  pub pairs_at-met : (form : Form) (f r : List (List ℕ)) (m : Mates) (fs rs : List (List ℕ)) →
      front_in form check e n f r ≡ Met m fs rs →
      pairs_at form check e n f r ≡ with_pair m (pairs_at form check e (suc n) fs rs)
  pairs_at-met TwoTexts f r m fs rs is = pairs_of-met check e n f r m fs rs is
  pairs_at-met InterleavedText f r m fs rs is = interleaved_pairs_of-met check e n m f fs rs is

  -- if a fault comes first, there are no pairs, and this is the fault
  pub pairs_at-stopped : (form : Form) (f r : List (List ℕ)) (fault : InputFault) →
      front_in form check e n f r ≡ Stopped fault →
      pairs_at form check e n f r ≡ record { mates = []; fault = Some fault }
  pairs_at-stopped TwoTexts f r fault is = pairs_of-stopped check e n f r fault is
  pairs_at-stopped InterleavedText f r fault is = interleaved_pairs_of-stopped check e n f fault is

  -- if the end comes first, there are no pairs and no fault
  pub pairs_at-ended : (form : Form) (f r : List (List ℕ)) → front_in form check e n f r ≡ Ended →
      pairs_at form check e n f r ≡ record { mates = []; fault = None }
  pairs_at-ended TwoTexts f r is = pairs_of-ended check e n f r is
  pairs_at-ended InterleavedText f r is = interleaved_pairs_of-ended check e n f is
