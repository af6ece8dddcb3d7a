use Rattle.std.proofs.Common.{◌∙◌, ℕ, List, Option, sym, ap, subst}
use Rattle.std.specs.Option.{option_map}
use Rattle.fq_files.specs.States.{MaySay}
use Rattle.fq_app_words.specs.Requests.{asking_of}
use Rattle.fq_app_files.specs.Trimming.{filed}
use Rattle.fq_app_files.proofs.FiledLemmas.{output_filed}
use Rattle.fq_app_files.proofs.StoreLemmas.{one_stored}
use Rattle.fq_app_files.proofs.CountingLemmas.{one_counted}
use Rattle.fq_app_files.proofs.outputs.store_one.Goals as goal

-- one more output's file holds what its outlet has taken, and what is known of the outlet
pub returns-clause-stored : goal.returns-clause-stored
returns-clause-stored g c =
    let a = asking_of c.args.request.now in
    let old = g.T.Files.state c.args.files.now in
    let outlet = g.T.Target.Outlet.state c.args.outlet in
    let file = old.leads c.in-Some.name.now in
    let named = output_filed old a c.args.out c.in-Some.name.now
    (sym c.output_name.ensures ∙ ap (option_map (λ name. name.now)) c.in-Some.is) in
    record {
      stored = λ start states at first. one_stored (filed old a) start states c.args.out file
          outlet old (g.T.Files.state c.done.new.self) named at
          c.done.ensures.kept c.done.ensures.held c.done.ensures.stored c.done.ensures.others
          first;
      counted = λ start states at first. one_counted (filed old a) states c.args.out file
          outlet start _ _ named at
          c.done.ensures.failed c.done.ensures.sound c.done.ensures.still first;
      flushed = c.done.ensures.flushed;
    }

-- an error that is told is one of this output
pub returns-clause-says : goal.returns-clause-says
returns-clause-says g c =
    let old = g.T.Files.state c.args.files.now in
    let named = output_filed old (asking_of c.args.request.now) c.args.out c.in-Some.name.now
    (sym c.output_name.ensures ∙ ap (option_map (λ name. name.now)) c.in-Some.is) in
    let P : Option (List ℕ) → Type 0 = λ name. MaySay old.may_say name c.done.result in
    subst P (sym named) c.done.ensures.says
