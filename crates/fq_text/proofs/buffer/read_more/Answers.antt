use Rattle.std.proofs.Common.{◌≡◌, ℕ, ◌≤◌, ◌++◌, List, length, take, arith, rules, inl}
use Rattle.std.proofs.lemmas.List.{length-take, length-drop, length-take-le}
use Rattle.std.proofs.lemmas.Grind.{common_steps}
use Rattle.fq_text.proofs.ReadLemmas.{written_behind}
use Rattle.fq_text.proofs.ResultLemmas.{cases_mapped}
use Rattle.fq_text.proofs.buffer.read_more.Goals as goal

-- the first `filled` bytes stay the same when bytes are written after them
unwritten : (grown wrote past other before : List ℕ) (filled room : ℕ) →
    take filled grown ≡ before → length before ≡ filled → filled ≤ room →
    take filled (take room (take filled grown ++ (wrote ++ past) ++ other)) ≡ before
unwritten grown wrote past other before filled room is same within = grind (arith, common_steps)

-- the bytes read come after the first `filled`, which stay, also if the call failed
pub returns-clause-moved : goal.returns-clause-moved
returns-clause-moved g c =
    grind (
      arith,
      common_steps,
      cases_mapped,
      length-take,
      length-drop,
      length-take-le,
      written_behind,
      unwritten,
      inl,
      rules,
    )
