use Rattle.std.proofs.Common.{◌≡◌, arith, ℕ, nat_le, count_by, List, [], ◌∷◌, refl}
use Rattle.std.proofs.lemmas.List.{length-take-le, length-drop}
use Rattle.std.proofs.lemmas.List.Sums.{sum_by-cons}
use Rattle.fq_text.specs.declared.encoding.Encoding.{Encoding}
use Rattle.fq_text.specs.Scores.{value_of}
use Rattle.fq_trim.specs.Keeping.{scores}
use Rattle.fq_trim.proofs.PlaceLemmas.{all_taken, all_dropped}
use Rattle.fq_report_reads.proofs.bases.BaseTally.of.Goals as goal
use Rattle.std.proofs.lemmas.Grind.{common_steps}

-- each quality byte of the part has a score
pub score_sum-sum-requires-clause-scored : goal.score_sum-sum-requires-clause-scored
score_sum-sum-requires-clause-scored c = grind (arith, common_steps, all_taken, all_dropped)

-- scores are counted by the bytes that are as large as the least one with such a score
counted : (e : Encoding) (score least : ℕ) →
    ((byte : ℕ) → nat_le score (value_of e byte) ≡ nat_le least byte) → (qual : List ℕ) →
    count_by (nat_le least) qual ≡ count_by (nat_le score) (scores e qual)
counted e score least same [] = refl
counted e score least same (b ∷ others) =
    grind (arith, common_steps, sum_by-cons, counted e score least same others)

-- the counts are those of the bases of the part and of their scores
pub returns : goal.returns
returns c =
    let low = counted c.args.encoding 20 _ c.least_byte-low.ensures.least in
    let high = counted c.args.encoding 30 _ c.least_byte-high.ensures.least in
    grind (arith, low, high, length-take-le, length-drop)
