-- The current records of both sources are the first ones of the two texts.
use Rattle.std.proofs.Common.{◌≡◌, true, false, inl, inr, Ok, is_some, arith, rules}
use Rattle.std.proofs.lemmas.Bool.{cases_Bool}
use Rattle.std.proofs.lemmas.Grind.{common_steps}
use Rattle.std.proofs.lemmas.Result.{err_from_is_err_and}
use Rattle.fq_text.proofs.ResultLemmas.{err_mapped}
use Rattle.fq_pair.specs.declared.fault.InputFault.TheVariants.{Text}
use Rattle.fq_pair.specs.declared.side.Side.TheVariants.{Reverse}
use Rattle.fq_pair.proofs.SourceLaws.{fault_after_record, fault_after_end, two_given, of_current, of_pair, of_titles}
use Rattle.fq_pair.proofs.pair_source.advance_mates.Goals as goal

pub returns-in_ok-lengths-in-true-true-clause-found : goal.returns-in_ok-lengths-in-true-true-clause-found
returns-in_ok-lengths-in-true-true-clause-found g c =
    λ lent _. grind (arith, of_current, of_titles, of_pair, two_given)

pub returns-in_err-has_second-clause-fault : goal.returns-in_err-has_second-clause-fault
returns-in_err-has_second-clause-fault g c =
    let why = err_mapped c.read_record-2.result c.map_err-2.result (Text Reverse) _
    c.map_err-2.ensures.cases (λ why u is. search rules) _ c.in_err-has_second.was in
    let told = err_from_is_err_and c.from_residual-in_err-has_second.result
    c.from_residual-in_err-has_second.ensures.1 in
    let stops = rw why.1 at c.read_record-2.ensures.fault in
    rw (told.1, told.2, why.2) (elim (cases_Bool c.in_ok-has_first.has_first) [
      | inl is ↦ let one : c.read_record.result ≡ Ok true = grind (arith, common_steps) in
          fault_after_record g.F.Feed.state g.G.Feed.state _ _ _ _ c.args.check_names c.args.given
          (is_some c.args.names.now) _ _ c.requires.ready c.requires.encoding
          c.read_record.ensures.count
          (c.read_record.ensures.found one) stops
      | inr is ↦ let one : c.read_record.result ≡ Ok false = grind (arith, common_steps) in
          fault_after_end g.F.Feed.state g.G.Feed.state _ _ _ _ c.args.check_names c.args.given
          (is_some c.args.names.now) _ c.requires.ready c.requires.encoding
          c.read_record.ensures.count
          (c.read_record.ensures.end one) stops
    ])
