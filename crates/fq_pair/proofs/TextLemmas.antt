-- What is left of a read: the numbers of its log line, and its record.
use Rattle.std.proofs.Common.{◌≡◌, ℕ, ◌+◌, ◌-◌, ◌^◌, ◌<◌, ◌≤◌, Bool, Some, List, [], ◌∷◌, length, take, drop, arith}
use Rattle.std.specs.Bool.{then_some}
use Rattle.std.specs.Fmt.{decimal}
use Rattle.std.proofs.lemmas.Fmt.{length-decimal-le}
use Rattle.std.proofs.lemmas.Grind.{common_steps}
use Rattle.fq_trim.specs.declared.trimming.Kept.{Kept}
use Rattle.fq_trim.specs.Keeping.{places}
use Rattle.fq_trim.proofs.PlaceLemmas.{length-places, scores_at, all_taken, all_dropped}
use Rattle.fq_text.specs.Grammar.{Read, IsLawful}
use Rattle.fq_text.specs.Written.{written, written_quality, CanRecode}
use Rattle.fq_trim.specs.KeptPlaces.{bytes_at, places_of, IsWithin}
use Rattle.fq_pair.specs.Outputs.{log_numbers, record_at}

-- a number of 64 bits has at most 20 digits
pub short : (n : ℕ) → n < 2 ^ 64 → length (decimal n) ≤ 20
short n small = length-decimal-le 20 n (omega arith) (omega arith) small

-- the numbers of a log line of n bases of which m, one or more, are kept from start on
pub log_numbers-places : (n start m : ℕ) → 0 < m →
    log_numbers n (places start m) ≡ m ∷ start ∷ (start + m) ∷ (n - start - m) ∷ []
log_numbers-places n start m some = grind (arith, common_steps, length-places)

module _ (read : Read) (k : Kept) where
  -- the kept quality can be recoded
  pub can_recode : (recode : Bool) → IsLawful read →
      CanRecode (then_some recode read.encoding) (take (k.stop - k.start) (drop k.start read.qual))
  can_recode recode lawful = grind (arith, common_steps, all_taken, all_dropped)

  kept_bytes : (bytes : List ℕ) → k.stop ≤ length bytes →
      bytes_at (places_of (Some k)) bytes ≡ take (k.stop - k.start) (drop k.start bytes)
  kept_bytes bytes within = grind (arith, common_steps, scores_at)

  -- the record of the kept bases
  pub record_of_kept : (recode : Bool) → IsLawful read → IsWithin (length read.seq) (Some k) →
      written read.title (take (k.stop - k.start) (drop k.start read.seq))
      (written_quality (then_some recode read.encoding)
      (take (k.stop - k.start) (drop k.start read.qual)))
      ≡ record_at recode (places_of (Some k)) read
  record_of_kept recode lawful within = grind (arith, common_steps, kept_bytes)
