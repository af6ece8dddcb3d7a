-- The pairs of a packed block, and of one with one more pair.
use Rattle.std.proofs.Common.{◌≡◌, ℕ, zero, suc, ◌+◌, ◌<◌, ◌≤◌, List, [], ◌∷◌, ◌++◌, length, drop, slice_index, slice_get, Some, option_map, refl, sym, ap, ◌∙◌, subst, append_assoc, length-append, zero-add, arith}
use Rattle.std.proofs.Math.Seq.{drop-append_seam}
use Rattle.std.proofs.lemmas.List.{append-nil, length-map, length-drop, length_push}
use Rattle.std.proofs.lemmas.Option.{slice_get-map, slice_get-get_or}
use Rattle.std.proofs.lemmas.List.Concat.{flat_map-append}
use Rattle.fq_text.specs.declared.encoding.Encoding.{Encoding}
use Rattle.fq_pair.specs.Mates.{Mates}
use Rattle.fq_block.specs.Packing.{packed_pair, packed_pairs, pair_in, HoldsPair}
use Rattle.fq_block.specs.Blocks.{pairs_at, starts_from, Fits, AllFit, IsPacked}
use Rattle.fq_block.proofs.PackingLemmas.{pair_in-packed_pair, HoldsPair-packed_pair}
use Rattle.std.proofs.lemmas.Grind.{common_steps}

AllFit-append : (encoding : Encoding) (ms : List Mates) (m : Mates) → AllFit encoding ms →
    Fits encoding m → AllFit encoding (ms ++ m ∷ [])
AllFit-append encoding [] m all fits = (fits, tt)
AllFit-append encoding (k ∷ ks) m all fits = (all.0, AllFit-append encoding ks m all.1 fits)

packed_pairs-append : (ms : List Mates) (m : Mates) →
    packed_pairs (ms ++ m ∷ []) ≡ packed_pairs ms ++ packed_pair m
packed_pairs-append ms m = flat_map-append packed_pair ms (m ∷ [])
    ∙ ap (λ bytes. packed_pairs ms ++ bytes) (append-nil (packed_pair m))

starts_from-append : (n : ℕ) (ms : List Mates) (m : Mates) →
    starts_from n (ms ++ m ∷ []) ≡ starts_from n ms ++ (n + length (packed_pairs ms)) ∷ []
starts_from-append n [] m = let e : n ≡ n + 0 = omega arith in ap (λ k. k ∷ []) e
starts_from-append n (k ∷ ks) m =
    grind (arith, common_steps, length-append, starts_from-append (n + length (packed_pair k)) ks m)

module _ (encoding : Encoding) where
  -- packed pairs are found where they begin
  pub pairs_at-packed : (front : List ℕ) (ms : List Mates) → AllFit encoding ms →
      pairs_at encoding (front ++ packed_pairs ms) (starts_from (length front) ms) ≡ ms
  pairs_at-packed front [] fit = refl
  pairs_at-packed front (m ∷ ms) fit =
      let bytes = front ++ (packed_pair m ++ packed_pairs ms) in
      let more = starts_from (length front + length (packed_pair m)) ms in
      let first = ap (pair_in encoding) (drop-append_seam front (packed_pair m ++ packed_pairs ms))
      ∙ pair_in-packed_pair encoding m fit.0 (packed_pairs ms) in
      let others =
      ap (λ b. pairs_at encoding b more)
      (sym (append_assoc front (packed_pair m) (packed_pairs ms)))
      ∙ ap (λ n. pairs_at encoding ((front ++ packed_pair m) ++ packed_pairs ms) (starts_from n ms))
      (sym (length-append front (packed_pair m)))
      ∙ pairs_at-packed (front ++ packed_pair m) ms fit.1 in
      ap (λ (k : Mates). k ∷ pairs_at encoding bytes more) first ∙ ap (λ ks. m ∷ ks) others

  held_from : (front : List ℕ) (ms : List Mates) (i : ℕ) → AllFit encoding ms → i < length ms
      → HoldsPair encoding (drop (slice_index (starts_from (length front) ms) i)
      (front ++ packed_pairs ms))
  held_from front [] i fit within = absurd (omega arith)
  held_from front (m ∷ ms) zero fit within =
      subst (HoldsPair encoding) (sym (drop-append_seam front (packed_pair m ++ packed_pairs ms)))
      (HoldsPair-packed_pair encoding m fit.0 (packed_pairs ms))
  held_from front (m ∷ ms) (suc i) fit within =
      subst (λ b. HoldsPair encoding
      (drop (slice_index (starts_from (length front + length (packed_pair m)) ms) i) b))
      (append_assoc front (packed_pair m) (packed_pairs ms))
      (subst (λ n. HoldsPair encoding (drop (slice_index (starts_from n ms) i)
      ((front ++ packed_pair m) ++ packed_pairs ms))) (length-append front (packed_pair m))
      (held_from (front ++ packed_pair m) ms i fit.1 (omega arith)))

  module _ (bytes starts : List ℕ) where
    -- bytes that are the packing of some pairs, with the places where these begin
    pairs_are : (ms : List Mates) → AllFit encoding ms → bytes ≡ packed_pairs ms →
        starts ≡ starts_from 0 ms → pairs_at encoding bytes starts ≡ ms
    pairs_are ms fit packed placed =
        ap (λ b. pairs_at encoding b starts) packed
        ∙ ap (pairs_at encoding (packed_pairs ms)) placed ∙ pairs_at-packed [] ms fit

    IsPacked-of : (ms : List Mates) → AllFit encoding ms → bytes ≡ packed_pairs ms →
        starts ≡ starts_from 0 ms → length starts ≤ 65536 → IsPacked encoding bytes starts
    IsPacked-of ms fit packed placed few =
        grind (arith, common_steps, pairs_are)

  module _ (bytes starts : List ℕ) (is : IsPacked encoding bytes starts) where
    -- there are as many pairs as places
    pub length-pairs_at : length (pairs_at encoding bytes starts) ≡ length starts
    length-pairs_at = length-map starts (λ start. pair_in encoding (drop start bytes))

    -- at place i a pair begins
    pub held_at : (i : ℕ) → i < length starts →
        HoldsPair encoding (drop (slice_index starts i) bytes)
    held_at i within =
        let ms = pairs_at encoding bytes starts in
        subst (λ b. HoldsPair encoding (drop (slice_index starts i) b)) (sym is.packed)
        (subst (λ s. HoldsPair encoding (drop (slice_index s i) (packed_pairs ms))) (sym is.placed)
        (held_from [] ms i is.fit (omega (arith, length-pairs_at))))

    -- each pair begins within the bytes
    pub start_within : (i : ℕ) → i < length starts → slice_index starts i ≤ length bytes
    start_within i within =
        omega (arith, (held_at i within).0.whole, length-drop (slice_index starts i) bytes)

    -- and it is the pair at place i
    pub slice_get-pairs_at : (i : ℕ) → i < length starts →
        slice_get (pairs_at encoding bytes starts) i
        ≡ Some (pair_in encoding (drop (slice_index starts i) bytes))
    slice_get-pairs_at i within =
        let pair : ℕ → Mates = λ s. pair_in encoding (drop s bytes) in
        slice_get-map pair starts i ∙ ap (option_map pair) (slice_get-get_or starts i 0 within)

    module _ (m : Mates) (fits : Fits encoding m) where
      all_fit : AllFit encoding (pairs_at encoding bytes starts ++ m ∷ [])
      all_fit = AllFit-append encoding (pairs_at encoding bytes starts) m is.fit fits

      bytes_more : bytes ++ packed_pair m ≡ packed_pairs (pairs_at encoding bytes starts ++ m ∷ [])
      bytes_more = ap (λ b. b ++ packed_pair m) is.packed
          ∙ sym (packed_pairs-append (pairs_at encoding bytes starts) m)

      starts_more : starts ++ length bytes ∷ []
          ≡ starts_from 0 (pairs_at encoding bytes starts ++ m ∷ [])
      starts_more =
          grind (arith, common_steps, zero-add, starts_from-append)

      -- one more pair
      pub pairs_at-pushed : pairs_at encoding (bytes ++ packed_pair m) (starts ++ length bytes ∷ [])
          ≡ pairs_at encoding bytes starts ++ m ∷ []
      pairs_at-pushed = pairs_are (bytes ++ packed_pair m) (starts ++ length bytes ∷ [])
          (pairs_at encoding bytes starts ++ m ∷ []) all_fit bytes_more starts_more

      -- with one more pair, the bytes are still the packing of the pairs at their places
      pub IsPacked-pushed : length starts < 65536 →
          IsPacked encoding (bytes ++ packed_pair m) (starts ++ length bytes ∷ [])
      IsPacked-pushed room =
          IsPacked-of (bytes ++ packed_pair m) (starts ++ length bytes ∷ [])
          (pairs_at encoding bytes starts ++ m ∷ []) all_fit bytes_more starts_more
          (omega (arith, length_push starts (length bytes)))
