use Rattle.std.proofs.Common.{◌≡◌, ◌∙◌, ap, codes, true}
use Rattle.std.proofs.lemmas.Result.{IfOk-weaker}
use Rattle.clap.specs.Words.{Shape, app_of, new_app}
use Rattle.clap.specs.Simple.{app_of_fields, on_top}
use Rattle.fq_app_words.specs.Words.{IsCommand, interleaved_app, pairs_app, program_app}
use Rattle.fq_app_words.proofs.WordLemmas.{one_below}
use Rattle.fq_app_words.proofs.words.command.Goals as goal

abbrev wanting : Shape → Shape
wanting s = record s { subcommand_required = true }

abbrev versioned : Shape → Shape
versioned s = record s { has_version = true }

abbrev propagating : Shape → Shape
propagating s = record s { propagate_version = true }

-- the command that is made is the program's, with `PE`, `IL` and `EXAMPLE` below it
pub returns : goal.returns
unfolding program_app pairs_app interleaved_app
returns c =
    let about_is : app_of c.after_help.result ≡ new_app (codes "fq_prog") =
    ap app_of_fields c.after_help.ensures
    ∙ (ap app_of_fields c.about.ensures ∙ c.new.ensures.app) in
    let top_is : app_of c.subcommand_required.result ≡ on_top wanting (new_app (codes "fq_prog")) =
    ap app_of_fields c.subcommand_required.ensures ∙ ap (on_top wanting) about_is in
    let named_is : app_of c.version.result ≡ on_top versioned (on_top wanting
    (new_app (codes "fq_prog"))) = ap app_of_fields c.version.ensures
    ∙ ap (on_top versioned) top_is in
    let passed_is : app_of c.propagate_version.result ≡ on_top propagating (on_top versioned
    (on_top wanting (new_app (codes "fq_prog")))) =
    ap app_of_fields c.propagate_version.ensures ∙ ap (on_top propagating) named_is in
    let first_is = one_below _ _ _ _ pairs_app c.in_ok-subcommand.ensures
    c.in_ok-pairs_command.ensures passed_is in
    let second_is = one_below _ _ _ _ interleaved_app c.in_ok-subcommand-2.ensures
    c.in_ok-interleaved_command.ensures first_is in
    let example : IsCommand (new_app (codes "EXAMPLE")) c.after_help-2.result = record {
      app_is = ap app_of_fields c.after_help-2.ensures
          ∙ (ap app_of_fields c.about-2.ensures ∙ c.new-2.ensures.app);
      local = ap (λ fields. fields.has_globals) c.after_help-2.ensures
          ∙ (ap (λ fields. fields.has_globals) c.about-2.ensures ∙ c.new-2.ensures.local);
    } in
    IfOk-weaker c.subcommand-3.result _ _ (λ command adds. one_below _ _ _ _ (new_app
    (codes "EXAMPLE")) adds example second_is) c.subcommand-3.ensures
