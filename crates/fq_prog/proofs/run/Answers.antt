use Rattle.std.proofs.Common.{◌≡◌, ◌∙◌, ℕ, Some, ap, sym, subst, map}
use Rattle.std.specs.String.{string_bytes}
use Rattle.fq_app_words.specs.Words.{AskedFor}
use Rattle.fq_app.specs.Answers.{device_of}
use Rattle.fq_app.specs.Calls.{RequestAnswered}
use Rattle.fq_app.proofs.CallLemmas.{lacks_request}
use Rattle.fq_prog.proofs.run.Goals as goal

-- if memory for the words was refused, no file has changed, and the call is answered so
pub returns-in-Err-clause-request : goal.returns-in-Err-clause-request
returns-in-Err-clause-request g c = λ a asked. lacks_request a _ _ _ _ (record {
  status_is = c.from-in-Err.ensures ∙ c.out_of_memory.ensures.status_is;
  told = c.out_of_memory.ensures.told;
})

-- what `program` answers for these words
pub returns-clause-request : goal.returns-clause-request
returns-clause-request g c = λ a asked.
    let same : map (λ word. word.now) c.deref.result.now ≡ map string_bytes c.args.texts.now =
    ap (map (λ word. word.now)) c.deref.ensures.value ∙ c.in-Ok.ensures in
    let P : ℕ → Type 0 = λ status. RequestAnswered a
    (g.T.Files.state c.args.files.now) (g.T.Files.state c.program.new.files)
    (device_of g.O.Outlet.state c.args.out.now c.program.new.out)
    (device_of g.E.Outlet.state c.args.err.now c.program.new.err) status in
    subst P (sym c.from-2.ensures) (c.program.ensures.request a
    (subst (λ words. AskedFor words (Some a)) (sym same) asked))
