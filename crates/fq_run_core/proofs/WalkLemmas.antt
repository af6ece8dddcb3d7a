-- Reading pairs, one list of them after another.
use Rattle.std.proofs.Common.{◌≡◌, ℕ, suc, ◌+◌, Bool, Option, Some, None, List, [], ◌∷◌, ◌++◌, length, refl, sym, subst, ◌∙◌, arith, append_assoc}
use Rattle.std.specs.Option.{IfSome, IsSome, IsSomeAnd}
use Rattle.std.proofs.lemmas.List.{length-append}
use Rattle.std.proofs.lemmas.Grind.{common_steps}
use Rattle.fq_text.specs.declared.encoding.Encoding.{Encoding}
use Rattle.fq_text.specs.Lines.{lines}
use Rattle.fq_pair.specs.Forms.{Form, records_of_pairs}
use Rattle.fq_pair.specs.Mates.{Mates}
use Rattle.fq_run_core.specs.declared.reading_end.ReadingEnd.{ReadingEnd}
use Rattle.fq_run_core.specs.declared.reading_end.ReadingEnd.TheVariants as reading
use Rattle.fq_pair.specs.Walks.{SourceState, rest, KeepsSettings, Leads, Walks}
use Rattle.fq_pair.proofs.SideLemmas.{draws_then, uses_then}
use Rattle.fq_run_core.specs.PairsRead.{Reads}

-- One side.

-- Both.

leads_then : (form : Form) (check : Bool) (e : Encoding) (m n : ℕ) (ms ns : List Mates)
    (f r f' r' f'' r'' : List (List ℕ)) → n ≡ m + length ms → Leads form check e m ms f r f' r' →
    Leads form check e n ns f' r' f'' r'' → Leads form check e m (ms ++ ns) f r f'' r''
leads_then form check e m n [] ns f r f' r' f'' r'' is p q = grind (arith, common_steps)
leads_then form check e m n (x ∷ ms) ns f r f' r' f'' r'' is p q =
    grind (arith, common_steps, leads_then form check e (suc m) n ms ns p.0 p.1 f' r' f'' r'')

leads_as : (form form' : Form) (check check' : Bool) (e e' : Encoding) (n : ℕ) (ms : List Mates)
    (f r f' r' : List (List ℕ)) → form' ≡ form → check' ≡ check → e' ≡ e →
    Leads form' check' e' n ms f r f' r' → Leads form check e n ms f r f' r'
leads_as form form' check check' e e' n ms f r f' r' formed is encoded p =
    grind (arith, common_steps)

-- if two calls, one after the other, keep the settings, so do both together
pub same_then : (a b c : SourceState) → KeepsSettings a b → KeepsSettings b c → KeepsSettings a c
same_then a b c p q = grind (arith, common_steps)

records_both : (form form' : Form) (a b c : ℕ) (ms ns : List Mates) → form' ≡ form →
    b ≡ a + records_of_pairs form (length ms) → c ≡ b + records_of_pairs form' (length ns) →
    c ≡ a + records_of_pairs form (length (ms ++ ns))
records_both form form' a b c ms ns same p q = grind (arith, common_steps)

-- no pairs were read from a source that is as it was
pub walks_none : (s : SourceState) → s.last ≡ None → Walks s s []
walks_none s going = grind (arith, common_steps)

-- pairs that were read, and then others, were all read, in this order
pub walks_then : (a b c : SourceState) (ms ns : List Mates) → Walks a b ms → Walks b c ns →
    Walks a c (ms ++ ns)
walks_then a b c ms ns p q =
    let given = p.given in let more = q.given in let s = p.same in let f = p.forward in let r =
    p.reverse in let f' = q.forward in let r' = q.reverse in
    record {
      same = same_then a b c p.same q.same;
      given = omega (arith, length-append ms ns);
      forward_records = records_both a.form b.form _ _ _ ms ns s.form p.forward_records
          q.forward_records;
      reverse_records = records_both a.form b.form _ _ _ ms ns s.form p.reverse_records
          q.reverse_records;
      last = q.last;
      forward = draws_then a.forward b.forward c.forward 0 p.forward q.forward;
      reverse = draws_then a.reverse b.reverse c.reverse 0 p.reverse q.reverse;
      forward_used = λ told. uses_then a.forward b.forward c.forward f'.ended (p.forward_used told)
          (q.forward_used (f.told ∙ told));
      reverse_used = λ told. uses_then a.reverse b.reverse c.reverse r'.ended (p.reverse_used told)
          (q.reverse_used (r.told ∙ told));
      leads = λ tf tr. leads_then a.form a.check_names a.encoding a.given b.given ms ns _ _
          (lines (rest b.forward)) (lines (rest b.reverse)) _ _ p.given (p.leads tf tr)
          (leads_as a.form b.form a.check_names b.check_names a.encoding b.encoding b.given ns _ _ _
          _ s.form s.check_names s.encoding (q.leads (f.told ∙ tf) (r.told ∙ tr)));
    }

-- a reading after a walk
pub reads_then : (a b c : SourceState) (ms ns : List Mates) (why : Option ReadingEnd) →
    Walks a b ms → Reads b c ns why → Reads a c (ms ++ ns) why
reads_then a b c ms ns None p q = walks_then a b c ms ns p q
reads_then a b c ms ns (Some reading.End) p q = (q.0, walks_then a b q.0 ms ns p q.1, q.2)
reads_then a b c ms ns (Some (reading.Fault fault)) p q = (q.0, walks_then a b q.0 ms ns p q.1, q.2)
reads_then a b c ms ns (Some (reading.Memory refused)) p q =
    let P : List Mates → Type 0 = λ xs. Walks a c xs in
    (q.0, subst P (sym (append_assoc ms ns q.0)) (walks_then a b c ms (ns ++ q.0) p q.1))

-- The pair in hand.

-- there is one, if something holds of it
pub is_in_hand : (o : Option Mates) (P : Mates → Type 0) → IsSomeAnd o P → IsSome o
is_in_hand None P held = absurd held
is_in_hand (Some m) P held = refl

-- what holds of it
pub of_in_hand : (o : Option Mates) (m : Mates) (P : Mates → Type 0) → o ≡ Some m → IsSomeAnd o P →
    P m
of_in_hand o m P is held = subst (λ p. IsSomeAnd p P) is held

-- what holds of the pair in hand, if there is one, holds of this one
pub if_in_hand : (o : Option Mates) (m : Mates) (P : Mates → Type 0) → o ≡ Some m → IfSome o P → P m
if_in_hand o m P is held = subst (λ p. IfSome p P) is held
