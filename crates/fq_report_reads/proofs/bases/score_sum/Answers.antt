use Rattle.std.proofs.Common.{◌≡◌, ◌+◌, ◌*◌, ◌≤◌, ap, sym, ◌∙◌, ℕ, true, Some, None, unwrap_or, List, [], ◌∷◌, length, sum, arith}
use Rattle.std.specs.List.{list_all}
use Rattle.std.proofs.lemmas.List.Sums.{sum_by-cons}
use Rattle.std.proofs.lemmas.Bool.{and_parts, leb-true}
use Rattle.fq_text.specs.declared.encoding.Encoding.{Encoding}
use Rattle.fq_text.specs.declared.encoding.Encoding.TheVariants.{Sanger, Illumina13, Solexa}
use Rattle.fq_text.specs.Scores.{lowest, offset, is_scored}
use Rattle.fq_trim.specs.Keeping.{scores}
use Rattle.fq_report_reads.proofs.bases.score_sum.Goals as goal
use Rattle.std.proofs.lemmas.Grind.{common_steps}

-- the offset is no more than the lowest byte
within : (e : Encoding) (off : ℕ) → offset e ≡ Some off → off ≤ lowest e
within Sanger off is = let same : 33 ≡ off = ap (λ o. unwrap_or o 0) is in omega arith
within Illumina13 off is = let same : 64 ≡ off = ap (λ o. unwrap_or o 0) is in omega arith
within Solexa off is = absurd (let none : None ≡ Some off = is in cc)

-- each score is its byte less the offset, so their sums differ by the offset for each byte
distances : (e : Encoding) (off : ℕ) → offset e ≡ Some off → (qual : List ℕ) →
    list_all (is_scored e) qual ≡ true → sum (scores e qual) + off * length qual ≡ sum qual
distances e off is [] all = omega arith
distances e off is (b ∷ others) all =
    grind (arith, common_steps, and_parts, leb-true, within, sum_by-cons, distances e off is others)

-- the sum of the bytes is at least the offset times their number
pub overflow_sub-result : goal.overflow_sub-result
overflow_sub-result c =
    omega (
      arith,
      distances c.args.encoding c.from.result
          (sym c.offset.ensures.is ∙ c.in-Some.is ∙ ap Some (sym c.from.ensures))
          c.args.qual.now c.requires.scored,
    )

-- the sum of the scores is less by the offset for each byte
pub returns-in-Some : goal.returns-in-Some
returns-in-Some c = grind (arith, common_steps, distances)
