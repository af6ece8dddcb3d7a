use Rattle.std.proofs.Common.{◌∙◌, map}
use Rattle.clap.specs.Words.{HasKind, found_of, rows_of, subcommand_rows_of}
use Rattle.clap.specs.declared.error.Error.{Error}
use Rattle.clap.proofs.TakesLemmas.{passed_up}
use Rattle.fq_app_words.specs.Words.{words_fault}
use Rattle.fq_app_words.specs.declared.words.Asked.{Asked}
use Rattle.fq_app_words.proofs.WordLemmas.{found_in, parses_if, fails_by, name_met, met_is, not_met}
use Rattle.fq_app_words.proofs.words.read_words.Goals as goal

-- an error of the parse is of a kind defined for these words, or memory was refused
pub returns-in_err-matches-clause-err : goal.returns-in_err-matches-clause-err
returns-in_err-matches-clause-err c =
    let words = map (λ word. word.now) c.args.words.now in
    passed_up {T = Asked} {E = Error} c.from_residual-in_err-matches.result
    c.in_err-matches.field-0.0 (HasKind (words_fault words))
    c.from_residual-in_err-matches.ensures.1
    (fails_by _ words c.in_err-matches.field-0.0 c.in_ok-command.ensures
    c.in_err-matches.ensures.kinds)

-- if no subcommand was found, the words parse, and don't ask to trim
pub returns-in_default-clause-ok : goal.returns-in_default-clause-ok
returns-in_default-clause-ok c =
    let words = map (λ word. word.now) c.args.words.now in
    let m = c.in_ok-matches.matches in
    record {
      parse = parses_if _ words c.in_ok-command.ensures c.in_ok-matches.ensures.kinds;
      ask = found_in _ words m c.in_ok-command.ensures c.in_ok-matches.ensures.matches
          ∙ not_met (subcommand_rows_of m) (c.in_default.ensures.name ∙ name_met m);
    }

-- if a subcommand was found, the words parse, and ask for what it asks for
pub returns-clause-ok : goal.returns-clause-ok
returns-clause-ok c =
    let words = map (λ word. word.now) c.args.words.now in
    let m = c.in_ok-matches.matches in
    let met = met_is (subcommand_rows_of m) c.in-Some.name.now
    (rows_of (found_of c.in-Some.found.now)) (c.in-Some.ensures.name
    ∙ name_met m) c.in-Some.ensures.rows in
    record {
      parse = parses_if _ words c.in_ok-command.ensures c.in_ok-matches.ensures.kinds;
      ask = found_in _ words m c.in_ok-command.ensures c.in_ok-matches.ensures.matches
          ∙ (met ∙ c.in_ok-asked_of.ensures);
    }
