use Rattle.std.proofs.Common.{◌≡◌, ◌≢◌, Some, refl, subst, inr, ⊎_elim, map, arith}
use Rattle.clap.specs.Words.{HasKind, kind_of}
use Rattle.clap.specs.Kinds.{Kinds}
use Rattle.clap.specs.declared.error.kind.ErrorKind.TheVariants.{DisplayHelp, DisplayVersion, OutOfMemory}
use Rattle.fq_app.specs.Answers.{device_of, IsCall}
use Rattle.fq_app.specs.Calls.{RequestAnswered}
use Rattle.fq_app_words.specs.Requests.{Asking, asking_of}
use Rattle.fq_app_words.specs.Words.{asked_pairs, words_fault}
use Rattle.fq_app.proofs.AnswerLemmas.{among_all, asks_this}
use Rattle.fq_app.proofs.CallLemmas.{lacks_request}
use Rattle.fq_app.proofs.answering.program.Goals as goal

-- for the request that was read, the call ends as it must
pub returns-in-Ok-Pairs-clause-request : goal.returns-in-Ok-Pairs-clause-request
returns-in-Ok-Pairs-clause-request g c = λ a asked.
    let shape : asked_pairs c.in-Ok-Pairs.field-0 ≡ Some (asking_of c.in-Ok-Pairs.request) =
    rw c.in-Ok-Pairs.field-0-is refl in
    let same = asks_this _ _ _ a c.in-Ok-Pairs.ensures.ok.ask shape asked in
    let P : Asking → Type 0 = λ x. RequestAnswered x
    (g.T.Files.state c.args.files.now) (g.T.Files.state c.trim_pairs.new.files)
    (device_of g.O.Outlet.state c.args.out.now c.trim_pairs.new.out)
    (device_of g.E.Outlet.state c.args.err.now c.trim_pairs.new.err) c.trim_pairs.result in
    subst P same c.trim_pairs.ensures.request

-- if a valid request was not read, memory was refused, and it is answered so
pub returns-in-Err-clause-request : goal.returns-in-Err-clause-request
returns-in-Err-clause-request g c = λ a asked.
    let P : Kinds → Type 0 = λ kinds. HasKind kinds c.in-Err.error in
    let memory : kind_of c.in-Err.error ≡ OutOfMemory =
    ⊎_elim (λ e. e) (λ none. absurd none) (subst P asked.parse c.in-Err.ensures.err) in
    lacks_request a _ _ _ _ (c.refuse_words.ensures.unread
    (c.refuse_words.ensures.no_memory memory))

-- arguments that don't parse: refused ones have status 1, or 5 if memory was refused, and a call
-- for help or for the version doesn't have status 1
pub returns-in-Err-clause-refused : goal.returns-in-Err-clause-refused
returns-in-Err-clause-refused g c = λ some.
    let kind = kind_of c.in-Err.error in
    let kinds = words_fault (map (λ word. word.now) c.args.words.now) in (
      refl,
      record {
        usage = λ refused. ⊎_elim (λ memory. inr (c.refuse_words.ensures.no_memory memory))
            (λ among. let other = among_all (λ kind. (kind ≢ DisplayHelp)
            × (kind ≢ DisplayVersion)) kind kinds among refused.no_help in
            c.refuse_words.ensures.usage other.0 other.1) c.in-Err.ensures.err;
        called = λ calls. ⊎_elim
            (λ memory one. let five = c.refuse_words.ensures.no_memory memory in
            omega (arith, one, five))
            (λ among. c.refuse_words.ensures.called (among_all IsCall kind kinds among calls.all))
            c.in-Err.ensures.err;
        help = c.refuse_words.ensures.help;
        unprinted = c.refuse_words.ensures.unprinted;
        unread = c.refuse_words.ensures.unread;
      },
    )
