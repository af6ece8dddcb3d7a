use Rattle.std.proofs.Common.{◌≡◌, ℕ, zero, suc, ◌+◌, ◌-◌, ◌∙◌, List, [], ◌∷◌, ◌++◌, length, Fits, refl, ap₂, arith, take, drop, replicate, w8}
use Rattle.std.specs.Int.Bits.{and_zero_r}
use Rattle.std.proofs.lemmas.List.{take_all, length-take-le}
use Rattle.std.proofs.lemmas.Nat.{and_mask}
use Rattle.std.proofs.lemmas.Simd.{chunk-fits}
use native.Mathlib.Nat.{mod-eq_of_lt}
use lib.Bits.{bit_and}
use lib.Lanes.{zip2, Each1}
use Rattle.fq_report_reads.proofs.vectors.last_of.Goals as goal
use Rattle.std.proofs.lemmas.Grind.{common_steps}

all_kept : (v : List ℕ) (c : ℕ) → Each1 (Fits w8) v → length v ≡ c →
    zip2 bit_and v (replicate c 255) ≡ v
all_kept [] c fits long = refl
all_kept (x ∷ xs) zero fits long = absurd (omega arith)
all_kept (x ∷ xs) (suc c) fits long = ap₂ (λ y ys. y ∷ ys)
    (and_mask x 8 ∙ mod-eq_of_lt fits.0.fits) (all_kept xs c fits.1 (omega arith))

-- a mask of the last c bytes keeps them, after zeros
last_kept : (v : List ℕ) (c k : ℕ) → Each1 (Fits w8) v → length v ≡ k + c →
    zip2 bit_and v (replicate k 0 ++ replicate c 255) ≡ replicate k 0 ++ drop k v
last_kept v c zero fits long = all_kept v c fits (omega arith)
last_kept [] c (suc k) fits long = absurd (omega arith)
last_kept (x ∷ xs) c (suc k) fits long = ap₂ (λ y ys. y ∷ ys) (and_zero_r x)
    (last_kept xs c k fits.1 (omega arith))

-- the lanes are zeros, and then the last bytes
pub returns : goal.returns
returns c =
    grind (
      arith,
      common_steps,
      last_kept (take 32 c.args.bytes.now) c.args.count (32 -
          c.args.count) (chunk-fits w8 0 32 c.args.bytes.now c.type_inv.bytes),
      chunk-fits w8 0 32
          c.args.bytes.now c.type_inv.bytes,
      length-take-le 32 c.args.bytes.now,
      take_all 32
          c.args.bytes.now,
      c.keeps_last.ensures,
    )
