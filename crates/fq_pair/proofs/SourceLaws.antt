-- The pairs that are left to a source of two texts, by what comes first in them.
use Rattle.std.proofs.Common.{arith, ◌≡◌, ℕ, ◌+◌, Bool, not, ◌||◌, true, Option, Some, MatchOption, Err, List, refl, subst, rules, add-one}
use Rattle.std.specs.Option.{IsSome, IsSomeAnd}
use Rattle.std.proofs.lemmas.Grind.{common_steps}
use Rattle.fq_text.specs.Devices.{FeedState}
use Rattle.fq_text.specs.declared.fault.TextFault.{TextFault}
use Rattle.fq_text.specs.Lines.{lines}
use Rattle.fq_text.specs.Grammar.{Read, front}
use Rattle.fq_text.specs.Sources.{Sourced, rest_in, KeepsCount, GivesRecord, EndsText, StopsText}
use Rattle.fq_pair.specs.declared.fault.InputFault.TheVariants.{Text}
use Rattle.fq_pair.specs.declared.side.Side.TheVariants.{Reverse}
use Rattle.fq_pair.specs.Mates.{Mates, mates_in, names_match}
use Rattle.fq_pair.specs.Pairing.{Met, belong, with_pair}
use Rattle.fq_pair.specs.PairSources.{PairSourced, front_of, pairs_left, GivesPair, pair_of, asked, stopped, IsReady, StopsPairs}
use Rattle.fq_pair.proofs.PairLaws.{pairs_of-met}

module _ {F G : Type 0} (state : F → FeedState) (state' : G → FeedState)
    (old : PairSourced F G) where
  abbrev forward : List (List ℕ)
  forward = lines (rest_in state old.forward)

  abbrev reverse : List (List ℕ)
  reverse = lines (rest_in state' old.reverse)

  -- a pair that comes first is the first of those left, and the others are left after it
  pub pairs_left_met : (new : PairSourced F G) (m : Mates) →
      new.forward.encoding ≡ old.forward.encoding → new.check_names ≡ old.check_names →
      new.given ≡ old.given + 1 →
      front_of state state' old ≡ Met m (lines (rest_in state new.forward)) (lines
      (rest_in state' new.reverse)) →
      pairs_left state state' old ≡ with_pair m (pairs_left state state' new)
  pairs_left_met new m encoding check_names given front =
      let fs = lines (rest_in state new.forward) in
      let rs = lines (rest_in state' new.reverse) in
      rw (encoding, check_names, given, add-one) (pairs_of-met old.check_names old.forward.encoding
      old.given forward reverse m fs rs front)

-- two records that were given make a pair if their names allow it
pub two_given : {F G : Type 0} (state : F → FeedState) (state' : G →
    FeedState) (a b : Sourced F) (a' b' : Sourced G) (check : Bool) (given : ℕ)
    (before now : Bool) (f r : Read) → a.encoding ≡ a'.encoding → b.encoding ≡ a.encoding →
    GivesRecord state a b f → GivesRecord state' a' b' r →
    belong check (mates_in f r) ≡ true → GivesPair state state' (asked a a' check given before)
    (asked b b' check (given + 1) now) (mates_in f r)
two_given state state' a b a' b' check given before now f r encoding kept first second together =
    record {
      pair_is = λ told told'. grind (arith, common_steps);
      left = λ told told'. pairs_left_met state state' (asked a a' check given before)
          (asked b b' check (given + 1) now) (mates_in f r) kept refl refl
          (grind (arith, common_steps));
      forward = first;
      reverse = second;
      names = together;
      given = refl;
      last = refl;
    }

-- what holds for the current record
pub of_current : (o : Option Read) (x : Read) (P : Read → Type 0) → o ≡ Some x → MatchOption o ⊥ P →
    P x
of_current o x P is held = subst (λ p. MatchOption p ⊥ P) is held

-- what holds for two current records as the pair that they are
pub of_pair : (o p : Option Read) (x y : Read) (P : Mates → Type 0) → o ≡ Some x → p ≡ Some y →
    P (mates_in x y) → IsSomeAnd (pair_of true o p) P
of_pair o p x y P first second held = grind (arith, common_steps)

-- two current records that are a pair for which something holds
pub is_pair : (has_pair : Bool) (o p : Option Read) (P : Mates → Type 0) → has_pair ≡ true →
    IsSomeAnd (pair_of true o p) P → IsSome (pair_of has_pair o p)
is_pair has_pair o p P is held = grind (arith, common_steps)

-- two reads belong together if their titles are found to
pub of_titles : (check b : Bool) (f r : Read) (title title' : List ℕ) → title ≡ f.title →
    title' ≡ r.title → b ≡ (not check || names_match title title') →
    belong check (mates_in f r) ≡ b
of_titles check b f r title title' first second found = grind (arith, common_steps)

-- the reverse text stopped by a fault after the forward text had given a record
pub fault_after_record : {F G : Type 0} (state : F → FeedState) (state' : G →
    FeedState) (a b : Sourced F) (a' b' : Sourced G) (check : Bool) (given : ℕ) (before : Bool)
    (o : Option Read) (why : TextFault) →
    IsReady a a' given → a.encoding ≡ a'.encoding → KeepsCount state a b →
    MatchOption o ⊥ (GivesRecord state a b) → StopsText state' a' b' why →
    StopsPairs state state' (asked a a' check given before)
    (stopped b b' check given (Err (Text Reverse why))) (Text Reverse why)
fault_after_record state state' a b a' b' check given before o why ready encoding kept first stops =
    grind (arith, common_steps)

-- the reverse text stopped by a fault after the forward text had ended
pub fault_after_end : {F G : Type 0} (state : F → FeedState) (state' : G →
    FeedState) (a b : Sourced F) (a' b' : Sourced G) (check : Bool) (given : ℕ) (before : Bool)
    (why : TextFault) →
    IsReady a a' given → a.encoding ≡ a'.encoding → KeepsCount state a b → EndsText state a b →
    StopsText state' a' b' why →
    StopsPairs state state' (asked a a' check given before)
    (stopped b b' check given (Err (Text Reverse why))) (Text Reverse why)
fault_after_end state state' a b a' b' check given before why ready encoding kept first stops =
    search rules
