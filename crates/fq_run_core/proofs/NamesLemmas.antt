-- The names of the pair after others, whether names are checked or not.
use Rattle.std.proofs.Common.{◌≡◌, ℕ, suc, Bool, false, List, [], ◌∷◌, ◌++◌, length, refl, arith}
use Rattle.std.specs.List.{slice_get}
use Rattle.std.specs.Option.{option_map}
use Rattle.std.proofs.lemmas.Grind.{common_steps}
use Rattle.fq_text.specs.declared.encoding.Encoding.{Encoding}
use Rattle.fq_pair.specs.declared.fault.InputFault.TheVariants.{NamesDiffer}
use Rattle.fq_pair.specs.Mates.{Mates, mate_names}
use Rattle.fq_pair.specs.Pairing.{PairFront, Ended, Stopped, Met, first_names}
use Rattle.fq_pair.specs.Forms.{Form, front_in}
use Rattle.fq_pair.specs.Walks.{Leads}
use Rattle.fq_run_core.proofs.FormLemmas.{pairs_at, pairs_at-met, pairs_at-stopped, pairs_at-ended}

-- pairs that lead also do if names aren't checked
pub leads_unchecked : (form : Form) (check : Bool) (e : Encoding) (n : ℕ) (ms : List Mates)
    (f r f' r' : List (List ℕ)) → Leads form check e n ms f r f' r' →
    Leads form false e n ms f r f' r'
leads_unchecked form check e n [] f r f' r' p = p
leads_unchecked form check e n (m ∷ ms) f r f' r' p =
    let same : front_in form false e n f r ≡ Met m p.0 p.1 = grind (arith, common_steps, p.2) in
    (p.0, p.1, same, leads_unchecked form check e (suc n) ms p.0 p.1 f' r' p.3)

-- names that differ are those of the pair after the pairs given
pub differ_next : (form : Form) (check : Bool) (e : Encoding) (n k : ℕ) (f r : List (List ℕ)) →
    front_in form check e n f r ≡ Stopped (NamesDiffer k) → k ≡ suc n
differ_next form check e n k f r is = grind (arith, common_steps)

-- the names of the first pair are those of what comes first
pub first_names_at : (form : Form) (e : Encoding) (n : ℕ) (f r : List (List ℕ)) →
    first_names (front_in form false e n f r)
    ≡ option_map mate_names (slice_get (pairs_at form false e n f r).mates 0)
first_names_at form e n f r = by_front (front_in form false e n f r) refl
  where
    by_front : (x : PairFront) → front_in form false e n f r ≡ x →
        first_names x ≡ option_map mate_names (slice_get (pairs_at form false e n f r).mates 0)
    by_front Ended is = let p = pairs_at-ended false e n form f r is in rw p refl
    by_front (Stopped why) is = let p = pairs_at-stopped false e n form f r why is in rw p refl
    by_front (Met m fs rs) is = let p = pairs_at-met false e n form f r m fs rs is in rw p refl

-- the pair after others
pub pair_after : (ms ns : List Mates) → slice_get (ms ++ ns) (length ms) ≡ slice_get ns 0
pair_after [] ns = refl
pair_after (m ∷ ms) ns = pair_after ms ns
