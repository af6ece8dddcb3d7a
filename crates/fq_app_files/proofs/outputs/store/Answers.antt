use Rattle.std.proofs.Common.{◌≡◌, ℕ, List, Some, None, refl, sym, subst, ◌∙◌}
use Rattle.fq_text.specs.Devices.{OutletState}
use Rattle.fq_files.specs.States.{FilesState, OnlyStores}
use Rattle.fq_files.proofs.StateLemmas.{then_store}
use Rattle.fq_pair.specs.declared.out.Out.{Out}
use Rattle.fq_pair.specs.declared.out.Out.TheVariants.{ForwardPaired, ForwardUnpaired, ReversePaired, ReverseUnpaired, Log}
use Rattle.fq_run_core.specs.Devices.{OutletStates, AreFlushed, outlet_states, outlet_at}
use Rattle.fq_app_words.specs.Requests.{Asking, asking_of, output_name}
use Rattle.fq_app_files.specs.Trimming.{filed}
use Rattle.fq_app_files.specs.Making.{AreCounted, IsOutputStored, Stored}
use Rattle.fq_app_files.proofs.StoreLemmas.{none_stored, no_log_stored}
use Rattle.fq_app_files.proofs.CountingLemmas.{none_counted, no_log_counted}
use Rattle.fq_app_files.proofs.SaidLemmas.{four_say, none_said}
use Rattle.fq_app_files.proofs.outputs.store.Goals as goal
use Rattle.fq_app_files.proofs.outputs.store.Goals.{in_default-via-in-Some+in_default, in_default-via-in_default}

-- one more outlet was handed back, with the files that the names led to at the start
since : (a : Asking) (start old new : FilesState) (out : Out) (outlet : OutletState) →
    OnlyStores start old → IsOutputStored (filed old a) out outlet old new →
    IsOutputStored (filed start a) out outlet old new
since a start old new out outlet kept =
    subst (λ (f : FilesState). IsOutputStored (filed f a) out outlet old new) kept

-- the first four outlets were handed back
record AreFourStored (a : Asking) (states : OutletStates) (old new : FilesState) : Type 0 where
  kept : OnlyStores old new
  stored : Stored a old.bytes states 4 new
  counted : AreCounted a states 4 old new
  flushed : AreFlushed states → new.is_unflushed ≡ old.is_unflushed

four_stored : (a : Asking) (states : OutletStates) (start one two three four : FilesState) →
    OnlyStores start one → OnlyStores one two → OnlyStores two three → OnlyStores three four →
    IsOutputStored (filed start a) ForwardPaired states.forward_paired start one →
    IsOutputStored (filed one a) ForwardUnpaired states.forward_unpaired one two →
    IsOutputStored (filed two a) ReversePaired states.reverse_paired two three →
    IsOutputStored (filed three a) ReverseUnpaired states.reverse_unpaired three four →
    AreFourStored (filed start a) states start four
four_stored a states start one two three four kept_1 kept_2 kept_3 kept_4 first second third
    fourth =
    let to_2 = then_store start one two kept_1 kept_2 in
    let to_3 = then_store start two three to_2 kept_3 in
    let next = since a start one two ForwardUnpaired states.forward_unpaired kept_1 second in
    let then = since a start two three ReversePaired states.reverse_paired to_2 third in
    let last = since a start three four ReverseUnpaired states.reverse_unpaired to_3 fourth in
    record {
      kept = then_store start three four to_3 kept_4;
      stored = last.stored start.bytes states refl (then.stored start.bytes states refl
          (next.stored start.bytes states refl (first.stored start.bytes states refl
          (λ held theirs. none_stored (filed start a) start.tells states start.bytes held))));
      counted = last.counted start states refl (then.counted start states refl
          (next.counted start states refl (first.counted start states refl
          (none_counted (filed start a) states start))));
      flushed = λ flushed. last.flushed flushed.reverse_unpaired
          ∙ (then.flushed flushed.reverse_paired ∙ (next.flushed flushed.forward_unpaired
          ∙ first.flushed flushed.forward_paired));
    }

-- with a trim log, all five outlets have been handed back
pub returns-in-Some-Some-clause-stored : goal.returns-in-Some-Some-clause-stored
returns-in-Some-Some-clause-stored g c =
    let a = asking_of c.args.request.now in
    let states = outlet_states g.T.Target.Outlet.state c.args.outlets in
    let start = g.T.Files.state c.args.files.now in
    let one = c.store_one-forward_paired.ensures in
    let two = c.store_one-forward_unpaired.ensures in
    let three = c.store_one-reverse_paired.ensures in
    let four = c.store_one-reverse_unpaired.ensures in
    let first = four_stored a states start _ _ _ _ one.kept two.kept three.kept four.kept
    one.stored two.stored three.stored four.stored in
    let last = since a start _ _ Log _ first.kept c.store_one.ensures.stored in
    record {
      stored = last.stored _ _ (rw c.in-Some-Some.is-1 refl) first.stored;
      counted = last.counted _ _ (rw c.in-Some-Some.is-1 refl) first.counted;
      flushed = λ flushed. last.flushed (rw c.in-Some-Some.is-1 at flushed.log)
          ∙ first.flushed flushed;
    }

-- without a trim log, the four outlets have been handed back
pub returns-in_default-clause-stored : goal.returns-in_default-clause-stored
returns-in_default-clause-stored g c =
    let a = asking_of c.args.request.now in
    let states = outlet_states g.T.Target.Outlet.state c.args.outlets in
    let start = g.T.Files.state c.args.files.now in
    let files = filed start a in
    let one = c.store_one-forward_paired.ensures in
    let two = c.store_one-forward_unpaired.ensures in
    let three = c.store_one-reverse_paired.ensures in
    let four = c.store_one-reverse_unpaired.ensures in
    let first = four_stored a states start _ _ _ _ one.kept two.kept three.kept four.kept
    one.stored two.stored three.stored four.stored in
    let no_log : (name : List ℕ) (outlet : OutletState) → output_name files Log ≡ Some name →
    outlet_at Log states ≡ Some outlet → ⊥ =
    λ name outlet named at. elim c.in_default.branch [
      | in_default-via-in-Some+in_default w ↦
          let none : outlet_at Log states ≡ None = rw w.in_default.is-1 refl in
          let bad : None ≡ Some outlet = sym none ∙ at in cc
      | in_default-via-in_default w ↦
          let none : output_name files Log ≡ None = rw w.in_default.is-0 refl in
          let bad : None ≡ Some name = sym none ∙ named in cc
    ] in
    record {
      stored = λ held theirs. no_log_stored files _ _ states _ no_log (first.stored held theirs);
      counted = no_log_counted files states _ _ no_log first.counted;
      flushed = first.flushed;
    }

-- with a trim log, each of the five outputs says what its outlet may say
pub returns-in-Some-Some-clause-says : goal.returns-in-Some-Some-clause-says
returns-in-Some-Some-clause-says g c =
    let one = c.store_one-forward_paired in
    let two = c.store_one-forward_unpaired in
    let three = c.store_one-reverse_paired in
    let four = c.store_one-reverse_unpaired in
    four_say (asking_of c.args.request.now) (g.T.Files.state c.args.files.now)
    (g.T.Files.state one.new.files) (g.T.Files.state two.new.files)
    (g.T.Files.state three.new.files) (g.T.Files.state four.new.files)
    (record {
      forward_paired = one.result;
      forward_unpaired = two.result;
      reverse_paired = three.result;
      reverse_unpaired = four.result;
      log = Some c.store_one.result;
    }) one.ensures.kept two.ensures.kept three.ensures.kept four.ensures.kept one.ensures.says
    two.ensures.says three.ensures.says four.ensures.says c.store_one.ensures.says

-- without a trim log, each of the four does
pub returns-in_default-clause-says : goal.returns-in_default-clause-says
returns-in_default-clause-says g c =
    let one = c.store_one-forward_paired in
    let two = c.store_one-forward_unpaired in
    let three = c.store_one-reverse_paired in
    let four = c.store_one-reverse_unpaired in
    let a = asking_of c.args.request.now in
    four_say a (g.T.Files.state c.args.files.now)
    (g.T.Files.state one.new.files) (g.T.Files.state two.new.files)
    (g.T.Files.state three.new.files) (g.T.Files.state four.new.files)
    (record {
      forward_paired = one.result;
      forward_unpaired = two.result;
      reverse_paired = three.result;
      reverse_unpaired = four.result;
      log = None;
    }) one.ensures.kept two.ensures.kept three.ensures.kept four.ensures.kept one.ensures.says
    two.ensures.says three.ensures.says four.ensures.says
    (none_said (g.T.Files.state four.new.files).may_say
    (output_name (filed (g.T.Files.state four.new.files) a) Log) None refl)
