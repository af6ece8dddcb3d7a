use Rattle.std.proofs.Common.{◌≡◌, ◌-◌, true, Ok, length, map, take, drop, replicate}
use Rattle.std.specs.List.{list_all}
use Rattle.fq_trim.specs.declared.step.Step.TheVariants.{ToPhred33}
use Rattle.fq_trim.specs.Keeping.{is_in_range}
use Rattle.fq_trim.specs.Words.{step_of}
use Rattle.fq_trim.proofs.steps.Steps.parse.Given as goal

-- the first arguments are the steps held so far
abbrev pub invariant-loop-i : goal.invariant-loop-i
invariant-loop-i l = record {
  whole : length l.held ≡ 64;
  filled : drop l.i l.held ≡ replicate (64 - l.i) ToPhred33;
  in_range : list_all is_in_range (take l.i l.held) ≡ true;
  so_far : map Ok (take l.i l.held) ≡ take l.i (map step_of (map (λ word. word.now) l.words));
}
