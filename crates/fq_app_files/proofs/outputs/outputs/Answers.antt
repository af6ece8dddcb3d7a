use Rattle.std.proofs.Common.{◌≡◌, ℕ, IsTrue, List, Option, Some, refl, subst}
use Rattle.std.proofs.lemmas.Result.{err_from_is_err_and}
use Rattle.fq_pair.specs.declared.out.Out.{Out}
use Rattle.fq_pair.specs.declared.out.Out.TheVariants.{ForwardPaired, ForwardUnpaired, ReversePaired, ReverseUnpaired, Log}
use Rattle.fq_text.specs.Devices.{OutletState}
use Rattle.fq_app_words.specs.Requests.{asking_of, output_name}
use Rattle.fq_files.specs.States.{FilesState, OnlyWrites}
use Rattle.fq_files.proofs.StateLemmas.{then_write}
use Rattle.fq_app_files.specs.Trimming.{filed, IsEmptyOutlet}
use Rattle.fq_app_files.proofs.FiledLemmas.{leads_as}
use Rattle.fq_app_files.proofs.MakingLemmas.{each_outlet, none_made, no_log_made}
use Rattle.fq_app_files.proofs.OpeningLemmas.{outputs_refused}
use Rattle.fq_app_files.proofs.outputs.outputs.Goals as goal
use Rattle.fq_app_files.proofs.outputs.outputs.Goals.{in-Some+in_ok-output-in-Some, in-None}

-- a refused forward paired output: its refusal is true, and the files hold what it leaves
pub returns-in_err-forward_paired-clause-refused : goal.returns-in_err-forward_paired-clause-refused
returns-in_err-forward_paired-clause-refused g c =
    let p = err_from_is_err_and c.from_residual.result
    c.from_residual.ensures.1 in
    let a = filed (g.T.Files.state c.args.files.now) (asking_of c.args.request.now) in
    rw (p.1, p.2) (outputs_refused a _ ForwardPaired _ _ _ refl (none_made a _ _)
    c.in_err-forward_paired.ensures.refused)

-- a refused forward unpaired output: its refusal is true, and the files hold what it leaves
pub returns-in_err-forward_unpaired-clause-refused : goal.returns-in_err-forward_unpaired-clause-refused
returns-in_err-forward_unpaired-clause-refused g c =
    let p = err_from_is_err_and c.from_residual-in_err-forward_unpaired.result
    c.from_residual-in_err-forward_unpaired.ensures.1 in
    let a = filed (g.T.Files.state c.args.files.now) (asking_of c.args.request.now) in
    let one = c.in_ok-forward_paired.ensures in
    let made_1 = one.made.made _ (none_made a _ _) in
    let refused = rw (leads_as _ _ one.kept) at c.in_err-forward_unpaired.ensures.refused in
    rw (p.1, p.2) (outputs_refused a _ ForwardUnpaired _ _ _ one.kept made_1 refused)

-- a refused reverse paired output: its refusal is true, and the files hold what it leaves
pub returns-in_err-reverse_paired-clause-refused : goal.returns-in_err-reverse_paired-clause-refused
returns-in_err-reverse_paired-clause-refused g c =
    let p = err_from_is_err_and c.from_residual-in_err-reverse_paired.result
    c.from_residual-in_err-reverse_paired.ensures.1 in
    let old = g.T.Files.state c.args.files.now in
    let a = filed old (asking_of c.args.request.now) in
    let one = c.in_ok-forward_paired.ensures in
    let two = c.in_ok-forward_unpaired.ensures in
    let kept_2 = then_write old _ _ one.kept two.kept in
    let made_1 = one.made.made _ (none_made a _ _) in
    let made_2 = (rw (leads_as _ _ one.kept) at two.made).made _ made_1 in
    let refused = rw (leads_as _ _ kept_2) at c.in_err-reverse_paired.ensures.refused in
    rw (p.1, p.2) (outputs_refused a _ ReversePaired _ _ _ kept_2 made_2 refused)

-- a refused reverse unpaired output: its refusal is true, and the files hold what it leaves
pub returns-in_err-reverse_unpaired-clause-refused : goal.returns-in_err-reverse_unpaired-clause-refused
returns-in_err-reverse_unpaired-clause-refused g c =
    let p = err_from_is_err_and c.from_residual-in_err-reverse_unpaired.result
    c.from_residual-in_err-reverse_unpaired.ensures.1 in
    let old = g.T.Files.state c.args.files.now in
    let a = filed old (asking_of c.args.request.now) in
    let one = c.in_ok-forward_paired.ensures in
    let two = c.in_ok-forward_unpaired.ensures in
    let three = c.in_ok-reverse_paired.ensures in
    let kept_2 = then_write old _ _ one.kept two.kept in
    let kept_3 = then_write old _ _ kept_2 three.kept in
    let made_1 = one.made.made _ (none_made a _ _) in
    let made_2 = (rw (leads_as _ _ one.kept) at two.made).made _ made_1 in
    let made_3 = (rw (leads_as _ _ kept_2) at three.made).made _ made_2 in
    let refused = rw (leads_as _ _ kept_3) at c.in_err-reverse_unpaired.ensures.refused in
    rw (p.1, p.2) (outputs_refused a _ ReverseUnpaired _ _ _ kept_3 made_3 refused)

-- a refused trim log: its refusal is true, and the files hold what it leaves
pub returns-in_err-output-in-Some-clause-refused : goal.returns-in_err-output-in-Some-clause-refused
returns-in_err-output-in-Some-clause-refused g c =
    let p = err_from_is_err_and c.from_residual-in_err-output-in-Some.result
    c.from_residual-in_err-output-in-Some.ensures.1 in
    let old = g.T.Files.state c.args.files.now in
    let a = filed old (asking_of c.args.request.now) in
    let one = c.in_ok-forward_paired.ensures in
    let two = c.in_ok-forward_unpaired.ensures in
    let three = c.in_ok-reverse_paired.ensures in
    let four = c.in_ok-reverse_unpaired.ensures in
    let kept_2 = then_write old _ _ one.kept two.kept in
    let kept_3 = then_write old _ _ kept_2 three.kept in
    let kept_4 = then_write old _ _ kept_3 four.kept in
    let made_1 = one.made.made _ (none_made a _ _) in
    let made_2 = (rw (leads_as _ _ one.kept) at two.made).made _ made_1 in
    let made_3 = (rw (leads_as _ _ kept_2) at three.made).made _ made_2 in
    let made_4 = (rw (leads_as _ _ kept_3) at four.made).made _ made_3 in
    let refused = rw (leads_as _ _ kept_4) at c.in_err-output-in-Some.ensures.refused in
    rw (p.1, p.2) (outputs_refused a _ Log _ _ _ kept_4 made_4 refused)

-- if none is refused, all outputs have been made, whether or not there is a trim log
pub returns-clause-made : goal.returns-clause-made
returns-clause-made g c =
    let old = g.T.Files.state c.args.files.now in
    let a = filed old (asking_of c.args.request.now) in
    let first = c.in_ok-forward_paired.ensures in
    let second = c.in_ok-forward_unpaired.ensures in
    let third = c.in_ok-reverse_paired.ensures in
    let fourth = c.in_ok-reverse_unpaired.ensures in
    let kept_2 = then_write old _ _ first.kept second.kept in
    let kept_3 = then_write old _ _ kept_2 third.kept in
    let kept_4 = then_write old _ _ kept_3 fourth.kept in
    let one = first.made in
    let two = rw (leads_as _ _ first.kept) at second.made in
    let three = rw (leads_as _ _ kept_2) at third.made in
    let four = rw (leads_as _ _ kept_3) at fourth.made in
    let made_1 = one.made _ (none_made a _ _) in
    let made_2 = two.made _ made_1 in
    let made_3 = three.made _ made_2 in
    let made_4 = four.made _ made_3 in
    let told : FilesState → Out → OutletState → Type 0 = λ files out outlet. (file : List ℕ) →
    output_name a out ≡ Some file → IsTrue (files.tells file) → IsEmptyOutlet outlet in
    let writes : FilesState → Out → Option ℕ → Type 0 = λ files out number. (file : List ℕ) →
    output_name a out ≡ Some file → IsTrue (files.writes number file) in
    let told_at : (mid : FilesState) (out : Out) (outlet : OutletState) → OnlyWrites old mid →
    told mid out outlet → told old out outlet =
    λ mid out outlet kept. subst (λ (files : FilesState). told files out outlet) kept in
    let since : (mid : FilesState) (out : Out) (number : Option ℕ) → OnlyWrites old mid →
    writes mid out number → writes old out number =
    λ mid out number kept. subst (λ (files : FilesState). writes files out number) kept in
    let theirs : Out → OutletState → Type 0 = λ out outlet. writes old out outlet.file in
    elim c.match-request.branch [
      | in-Some+in_ok-output-in-Some w ↦ rw (w.files-is, w.log-is) (
          let five = rw (leads_as _ _ kept_4) at w.in_ok-output-in-Some.ensures.made in
          record {
            healthy = record {
              forward_paired = one.fresh;
              forward_unpaired = two.fresh;
              reverse_paired = three.fresh;
              reverse_unpaired = four.fresh;
              log = five.fresh;
            };
            log = rw w.in-Some.is refl;
            empty = λ out file outlet named is at. each_outlet (told old) _ one.empty
                (told_at _ ForwardUnpaired _ first.kept two.empty)
                (told_at _ ReversePaired _ kept_2 three.empty)
                (told_at _ ReverseUnpaired _ kept_3 four.empty)
                (told_at _ Log _ kept_4 five.empty) out outlet at file named is;
            theirs = λ out file outlet named at. each_outlet theirs _ one.theirs
                (since _ ForwardUnpaired _ first.kept two.theirs)
                (since _ ReversePaired _ kept_2 three.theirs)
                (since _ ReverseUnpaired _ kept_3 four.theirs)
                (since _ Log _ kept_4 five.theirs) out outlet at file named;
            made = five.made _ made_4;
          })
      | in-None w ↦ rw (w.files-is, w.log-is) (record {
        healthy = record {
          forward_paired = one.fresh;
          forward_unpaired = two.fresh;
          reverse_paired = three.fresh;
          reverse_unpaired = four.fresh;
          log = tt;
        };
        log = rw w.in-None.is refl;
        empty = λ out file outlet named is at. each_outlet (told old) _ one.empty
            (told_at _ ForwardUnpaired _ first.kept two.empty)
            (told_at _ ReversePaired _ kept_2 three.empty)
            (told_at _ ReverseUnpaired _ kept_3 four.empty) tt out outlet at file named is;
        theirs = λ out file outlet named at. each_outlet theirs _ one.theirs
            (since _ ForwardUnpaired _ first.kept two.theirs)
            (since _ ReversePaired _ kept_2 three.theirs)
            (since _ ReverseUnpaired _ kept_3 four.theirs) tt out outlet at file named;
        made = no_log_made a _ _ _ (rw w.in-None.is refl) made_4;
      })
    ]
