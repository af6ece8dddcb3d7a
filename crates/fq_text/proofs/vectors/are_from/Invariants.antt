use Rattle.std.proofs.Common.{◌≡◌, ◌-◌, ◌≤◌, ◌&&◌, length, take, nat_le}
use Rattle.std.specs.List.{list_all}
use lib.Lanes.{chunk}
use Rattle.fq_text.specs.Scores.{is_from}
use Rattle.fq_text.proofs.vectors.are_from.Given as goal

-- the least and the greatest bytes are in range exactly if the last bytes and those before
-- `start` are
abbrev pub invariant-loop-start : goal.invariant-loop-start
invariant-loop-start l = record {
  room : l.start ≤ length l.bytes;
  judged : list_all (λ b. nat_le l.fn.lowest b) l.least && list_all (λ b. nat_le b 126) l.most
      ≡ list_all (is_from l.fn.lowest) (take l.start l.bytes) && list_all (is_from l.fn.lowest)
      (chunk l.last 32 l.bytes);
}

-- how many bytes are from `start` on
abbrev pub decreases-loop-start : goal.decreases-loop-start
decreases-loop-start l = length l.bytes - l.start
