-- The workers so far have their lanes.
use Rattle.fq_run.specs.lanes.Laying.{IsLaid, AreFor, KeepRoom}
use Rattle.fq_run.proofs.lanes.seats.lay.Given as goal

-- as many seats as there were turns have new lanes, and the room is unchanged
abbrev pub invariant-loop : goal.invariant-loop
invariant-loop l = record {
  laid : IsLaid l.fn.tallied l.seats;
  all : AreFor l.counter l.seats;
  room : KeepRoom l.initial.seats l.seats;
}
