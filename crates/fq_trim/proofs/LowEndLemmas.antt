-- Low scores at the end, in a reversed vector.
use Rattle.std.proofs.Common.{◌≡◌, ℕ, suc, zero, ◌+◌, ◌-◌, ◌<◌, ◌≤◌, not, leb, List, [], ◌∷◌, ◌++◌, length, take, drop, get_or, map, refl, ap, ◌∙◌, arith, ⊎_elim}
use Rattle.std.specs.List.{prefix_len}
use Rattle.std.proofs.lemmas.Bool.{leb-false, cases_lt, not-true}
use Rattle.std.proofs.lemmas.List.{get_or-map, get_or_append_left}
use Rattle.std.proofs.lemmas.List.Sums.{prefix_len-le-length, prefix_len_passes}
use Rattle.std.proofs.lemmas.Simd.{get_or-chunk}
use Rattle.fq_trim.specs.Windows.{distances, IsLowEnd}
use Rattle.fq_trim.proofs.PlaceLemmas.{map_part}

-- the numbers below n, the largest first
abbrev pub countdown : ℕ → List ℕ
countdown zero = []
countdown (suc n) = n ∷ countdown n

length-countdown : (n : ℕ) → length (countdown n) ≡ n
length-countdown zero = refl
length-countdown (suc n) = ap suc (length-countdown n)

get_or-countdown : (n k : ℕ) → k < n → get_or (countdown n) k 0 ≡ n - 1 - k
get_or-countdown zero k lt = absurd (omega arith)
get_or-countdown (suc n) zero lt = omega arith
get_or-countdown (suc n) (suc k) lt = get_or-countdown n k (omega arith) ∙ omega arith

-- index k of a reversed vector of 16 scores has what was at index 15 - k
pub turned_at : (v : List ℕ) (k : ℕ) → length v ≡ 16 → k < 16 →
    get_or (map (λ i. get_or (v ++ v) i 0) (countdown 16)) k 0 ≡ get_or v (15 - k) 0
turned_at v k long lt =
    get_or-map (λ i. get_or (v ++ v) i 0) (countdown 16) k 0 0 (omega (arith, length-countdown 16))
    ∙ ap (λ i. get_or (v ++ v) i 0) (get_or-countdown 16 k lt ∙ omega arith)
    ∙ get_or_append_left v v 0 (15 - k) (omega arith)

-- how many of the reversed scores are before the first that is high
pub low_end : (v turned : List ℕ) (score : ℕ) → length turned ≡ 16 →
    ((k : ℕ) → k < 16 → get_or turned k 0 ≡ get_or v (15 - k) 0) →
    IsLowEnd score v (prefix_len (λ x. not (leb score x)) turned)
low_end v turned score long each = record {
  within = omega (arith, prefix_len-le-length (λ x. not (leb score x)) turned);
  low = λ k from lt.
      let small = leb-false score _ (not-true _ (prefix_len_passes (λ x. not (leb score x)) turned
      (15 - k) 0 (omega arith))) in
      let same = each (15 - k) (omega arith) in
      let place : 15 - (15 - k) ≡ k = omega arith in
      let is = ap (λ n. get_or v n 0) place in
      omega arith;
}

-- low scores at the end, and the scores before them
pub lower : (offset score stop r : ℕ) (qual part : List ℕ) → 16 ≤ stop → stop ≤ length qual →
    part ≡ map (λ byte. byte - offset) (take 16 (drop (stop - 16) qual)) →
    ((k : ℕ) → 16 ≤ k + r → k < 16 → get_or part k 0 < score) →
    ((k : ℕ) → stop ≤ k → k < length qual → get_or (distances offset qual) k 0 < score) →
    r ≤ 16 → (k : ℕ) → stop - r ≤ k → k < length qual → get_or (distances offset qual) k 0 < score
lower offset score stop r qual part room within is here behind few k from lt = ⊎_elim
    (λ before.
    let i = k - (stop - 16) in
    let small = here i (omega arith) (omega arith) in
    let same = ap (λ s. get_or s i 0) (is ∙ map_part (λ byte. byte - offset) (stop - 16) 16 qual)
    ∙ get_or-chunk (stop - 16) 16 (distances offset qual) i 0 (omega arith) in
    let place : stop - 16 + i ≡ k = omega arith in
    let at = ap (λ n. get_or (distances offset qual) n 0) place in
    omega arith)
    (λ there. behind k there lt)
    (cases_lt k stop)
