use Rattle.std.proofs.Common.{IsSome, refl, sym, subst}
use Rattle.std.proofs.lemmas.Result.{err_from_is_err_and}
use Rattle.fq_app_words.specs.Requests.{asking_of}
use Rattle.fq_app_files.specs.Trimming.{filed}
use Rattle.fq_app_files.proofs.FiledLemmas.{leads_as}
use Rattle.fq_app_files.proofs.OpeningLemmas.{tells_reverse}
use Rattle.fq_app_files.proofs.feeds.inputs.Goals as goal

-- the reverse input was refused after the forward one was opened
pub returns-in_err-reverse-in-Apart-clause-refused : goal.returns-in_err-reverse-in-Apart-clause-refused
returns-in_err-reverse-in-Apart-clause-refused g c =
    let p = err_from_is_err_and c.from_residual-in_err-reverse-in-Apart.result
    c.from_residual-in_err-reverse-in-Apart.ensures.1 in
    let a = filed (g.T.Files.state c.args.files.now) (asking_of c.args.request.now) in
    let one = c.in_ok-forward-in-Apart.ensures in
    let two = rw (leads_as _ _ one.kept) at c.in_err-reverse-in-Apart.ensures.refused in
    rw (p.1, p.2) (record {
      inputs = λ told. tells_reverse a.inputs _ _ _ two.refused
          (subst IsSome (sym (one.opened.fed told.0).bytes_are) refl)
          one.kept one.linked;
      early = two.early;
      late = two.late;
    })
