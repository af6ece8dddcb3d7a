-- Pairs that are tallied apart and added up give the tally of all.
use Rattle.std.proofs.Common.{◌≡◌, List, [], ◌∷◌, ◌++◌, fold, refl, ap, ap₂, ◌∙◌}
use Rattle.std.proofs.lemmas.List.Sums.{fold-append}
use Rattle.fq_trim.specs.declared.step.Step.{Step}
use Rattle.fq_pair.specs.Mates.{Mates}
use Rattle.fq_report_reads.specs.declared.side.SideTally.{SideTally}
use Rattle.fq_report_reads.specs.Courses.{course, survives}
use Rattle.fq_report_reads.proofs.PlusLaws.{side_read, side_comm, side_assoc}
use Rattle.fq_report_pairs.specs.declared.tally.Tally.{Tally}
use Rattle.fq_report_pairs.specs.Tallies.{no_tally, with_pair, tally_of, plus}

abbrev two : SideTally → SideTally → Tally
two f r = record { forward = f; reverse = r }

-- tallies may be added in either order
pub plus_comm : (a b : Tally) → plus a b ≡ plus b a
plus_comm a b = ap₂ two (side_comm a.forward b.forward) (side_comm a.reverse b.reverse)

-- of three tallies the first two may be added first, or the last two
pub plus_assoc : (a b c : Tally) → plus (plus a b) c ≡ plus a (plus b c)
plus_assoc a b c = ap₂ two (side_assoc a.forward b.forward c.forward)
    (side_assoc a.reverse b.reverse c.reverse)

module _ (lists : List (List Step)) where
  plus_pair : (s t : Tally) (m : Mates) →
      with_pair lists (plus s t) m ≡ plus s (with_pair lists t m)
  plus_pair s t m = ap₂ two
      (side_read m.forward (course lists m.forward) (survives (course lists m.reverse).left)
      s.forward t.forward)
      (side_read m.reverse (course lists m.reverse) (survives (course lists m.forward).left)
      s.reverse t.reverse)

  plus_pairs : (s t : Tally) (ms : List Mates) →
      fold (with_pair lists) (plus s t) ms ≡ plus s (fold (with_pair lists) t ms)
  plus_pairs s t [] = refl
  plus_pairs s t (m ∷ ms) = ap (λ (u : Tally). fold (with_pair lists) u ms) (plus_pair s t m)
      ∙ plus_pairs s (with_pair lists t m) ms

  -- the tally of pairs, and of others after them
  pub tally_of-append : (front behind : List Mates) →
      tally_of lists (front ++ behind) ≡ plus (tally_of lists front) (tally_of lists behind)
  tally_of-append front behind =
      let s = tally_of lists front in
      let none : s ≡ plus s no_tally = plus_pairs no_tally no_tally front ∙ plus_comm no_tally s in
      fold-append (with_pair lists) no_tally front behind
      ∙ ap (λ (u : Tally). fold (with_pair lists) u behind) none
      ∙ plus_pairs s no_tally behind
