use Rattle.std.proofs.Common.{◌≡◌, ◌≢◌, ◌+◌, ◌++◌, ◌∙◌, ℕ, Bool, true, false, IsSome, OnOk, OnErr, Result, Ok, Err, is_err, is_ok, if◌then◌else◌, length, refl, subst, sym, ap, arith}
use Rattle.std.proofs.lemmas.List.{take_all}
use Rattle.fq_app_files.proofs.reporting.put_text.Goals as goal

on_ok : {T E P : Type 0} (r : Result T E) → is_err r ≡ false → OnOk r P → P
on_ok (Ok x) is told = told
on_ok (Err e) is told = absurd cc

on_err : {T E P : Type 0} (r : Result T E) → (is_ok r ≡ false → P) → OnErr r P
on_err (Ok x) p = tt
on_err (Err e) p = p refl

-- a flush that failed is counted
counted : (ok : Bool) (old new : ℕ) → new ≡ old + (if ok then 0 else 1) → ok ≡ false → new ≢ 0
counted true old new is failed zero = absurd (cc failed)
counted false old new is failed zero = absurd (omega (arith, is, zero))

-- the flush may have failed, after the whole text was sent
pub returns-clause-err : goal.returns-clause-err
returns-clause-err g c =
    let text = c.args.text.now in
    let sent = on_ok c.send.result (cc) c.send.ensures.ok in
    on_err c.flush.result (λ failed. record {
      taken = λ told. (
        length text,
        c.flush.ensures.kept (subst IsSome (sym c.send.ensures.told) told)
            ∙ (sent told ∙ ap (λ bytes. (g.O.Outlet.state c.args.target.now).taken ++ bytes)
            (sym (take_all (length text) text (omega arith)))),
      );
      failed = counted (is_ok c.flush.result) _ _ c.flush.ensures.failures failed;
      told = c.flush.ensures.told ∙ c.send.ensures.told;
    })
