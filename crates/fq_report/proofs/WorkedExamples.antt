-- Worked parts of reports, computed from the definitions alone.
use Rattle.std.proofs.Common.{◌≡◌, [], ◌∷◌, codes, refl}
use Rattle.serde_json.specs.Data.{null}
use Rattle.fq_report.specs.Values.{count, list, fields}
use Rattle.fq_report.specs.Reports.{length_value, rows_from, done_value}

lengths_of_three_reads : rows_from 0 (0 ∷ 2 ∷ 0 ∷ 1 ∷ [])
    ≡ list (count 1 ∷ count 2 ∷ []) ∷ list (count 3 ∷ count 1 ∷ []) ∷ []
lengths_of_three_reads = refl

lengths_of_no_read : rows_from 0 [] ≡ []
lengths_of_no_read = refl

shortest_of_no_read : length_value 0 18446744073709551615 ≡ null
shortest_of_no_read = refl

shortest_of_no_bases : length_value 1 0 ≡ count 0
shortest_of_no_bases = refl

second_step : done_value 1 (record { shortened = 5 ∷ []; dropped = 7 ∷ 3 ∷ [] })
    ≡ fields ((codes "dropped", count 3) ∷ (codes "shortened", count 0) ∷ [])
unfolding done_value
second_step = refl
