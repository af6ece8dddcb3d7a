-- Places that steps keep are places of the read, and whether there are any.
use Rattle.std.proofs.Common.{◌≡◌, ℕ, zero, suc, ◌+◌, ◌-◌, ◌<◌, ◌≤◌, Bool, true, false, Option, Some, None, List, [], ◌∷◌, length, get_or, map, refl, subst, ap, ◌∙◌, arith}
use Rattle.std.proofs.lemmas.List.{length-map}
use Rattle.std.proofs.lemmas.Grind.{common_steps}
use Rattle.fq_text.specs.Scores.{value_of}
use Rattle.fq_text.specs.Grammar.{Read}
use Rattle.fq_trim.specs.declared.step.Step.{Step}
use Rattle.fq_trim.specs.declared.trimming.Kept.{Kept}
use Rattle.fq_trim.specs.Keeping.{scores, places, select, keeps, kept_of}
use Rattle.fq_trim.specs.KeptPlaces.{kept_places, is_empty, places_of, IsWithin}

-- each number is below n
abbrev pub Below : ℕ → List ℕ → Type 0
Below n [] = Unit {0}
Below n (i ∷ is) = (i < n) × Below n is

-- places selected from places below n are below n
pub select_below : (test : ℕ → Bool) (j n : ℕ) (is : List ℕ) → Below n is →
    Below n (select test j is)
select_below test j n [] below = tt
select_below test j n (i ∷ is) below =
    grind (arith, common_steps, select_below test (suc j) n is)

-- the places that steps keep of places below n are below n
pub kept_below : (steps : List Step) (q : List ℕ) (n : ℕ) (is : List ℕ) → Below n is →
    Below n (kept_of steps q is)
kept_below [] q n is below = below
kept_below (step ∷ steps) q n is below = kept_below steps q n _
    (select_below (keeps step (map (λ i. get_or q i 0) is)) 0 n is below)

-- the m places from a on are below n, if n is at least a + m
pub places_below : (n a m : ℕ) → a + m ≤ n → Below n (places a m)
places_below n a zero le = tt
places_below n a (suc m) le = (omega arith, places_below n (suc a) m (omega arith))

-- the last of some places
last_below : (n a m : ℕ) → 0 < m → Below n (places a m) → a + m ≤ n
last_below n a zero some below = absurd (omega arith)
last_below n a (suc zero) some below = omega arith
last_below n a (suc (suc m)) some below = let rest =
    last_below n (suc a) (suc m) (omega arith) below.1 in omega arith

-- what is kept of a read ends within it
pub kept_within_read : (steps : List Step) (read : Read) (o : Option Kept) →
    length read.qual ≡ length read.seq → kept_places steps read ≡ places_of o →
    IsWithin (length read.seq) o
kept_within_read steps read None same is = tt
kept_within_read steps read (Some k) same is =
    let q = scores read.encoding read.qual in
    let size : length q ≡ length read.qual = length-map read.qual (value_of read.encoding) in
    let below : Below (length q) (places k.start (k.stop - k.start)) =
    subst (Below (length q)) is (kept_below steps q (length q) (places 0 (length q))
    (places_below (length q) 0 (length q) (omega arith))) in
    let last = last_below (length q) k.start (k.stop - k.start) (omega arith) below in
    let within : k.stop ≤ length read.seq = omega arith in within

some_places : (start n : ℕ) → 0 < n → is_empty (places start n) ≡ false
some_places start zero some = absurd (omega arith)
some_places start (suc n) some = refl

-- bases of the read are kept
pub kept_survives : (at : List ℕ) (o : Option Kept) (k : Kept) → at ≡ places_of o → o ≡ Some k →
    is_empty at ≡ false
kept_survives at o k is some_is = ap is_empty (is ∙ ap places_of some_is)
    ∙ some_places k.start (k.stop - k.start) (omega arith)

-- no bases of the read are kept
pub dropped_is_gone : (at : List ℕ) (o : Option Kept) → at ≡ places_of o → o ≡ None →
    is_empty at ≡ true
dropped_is_gone at o is none_is = ap is_empty (is ∙ ap places_of none_is)
