-- What is made of pairs and one more, and tallies to which pairs are added.
use Rattle.std.proofs.Common.{◌≡◌, ℕ, Bool, true, false, List, [], ◌∷◌, ◌++◌, refl, sym, ap, Option, Some, None}
use Rattle.std.proofs.lemmas.List.Sums.{fold-append}
use Rattle.fq_trim.specs.declared.step.Step.{Step}
use Rattle.fq_pair.specs.Mates.{Mates}
use Rattle.fq_pair.specs.Outputs.{Outputs}
use Rattle.fq_pair.proofs.OutputLaws.{texts_of-append}
use Rattle.fq_report_reads.specs.Courses.{alone}
use Rattle.fq_report_pairs.specs.declared.done.Done.{Done}
use Rattle.fq_report_pairs.specs.declared.tally.Tally.{Tally}
use Rattle.fq_report_pairs.specs.Tallies.{with_pair}
use Rattle.fq_report_pairs.specs.Results.{tally_if, none_counted, tally_with, made_of, with_mates}

-- pairs that are added to the tally of no pairs, if one is asked for
pub with_none : (tallied : Bool) (steps : List Step) (ms : List Mates) →
    tally_with steps (none_counted tallied) ms ≡ tally_if tallied steps ms
with_none true steps ms = refl
with_none false steps ms = refl

-- no pairs change nothing
pub with_nothing : (steps : List Step) (t : Option Tally) → tally_with steps t [] ≡ t
with_nothing steps (Some t) = refl
with_nothing steps None = refl

-- pairs, and others after them
pub with_more : (steps : List Step) (t : Option Tally) (ms others : List Mates) →
    tally_with steps (tally_with steps t ms) others ≡ tally_with steps t (ms ++ others)
with_more steps (Some t) ms others = ap (λ (u : Tally). let s : Option Tally = Some u in s)
    (sym (fold-append (with_pair (alone steps)) t ms others))
with_more steps None ms others = refl

-- what is made of pairs, with one more, is what is made of these pairs and that one
pub made_more : (steps : List Step) (number : ℕ) (ms : List Mates) (m : Mates) →
    with_mates steps (made_of steps number ms) m ≡ made_of steps number (ms ++ m ∷ [])
made_more steps number ms m =
    ap (λ (o : Outputs). let d : Done = record { number = number; texts = o } in d)
    (sym (texts_of-append steps ms (m ∷ [])))
