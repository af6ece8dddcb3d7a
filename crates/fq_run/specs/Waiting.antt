-- What the code of the calling thread and of the dealer does, in the words of the model.
use Rattle.std.specs.Prelude.{Option, Some, None}
use Rattle.fq_work.specs.declared.reply.Reply.{Reply}
use Rattle.fq_work.specs.declared.reply.Reply.TheVariants.{Done as done, Stop}
use Rattle.fq_run.specs.declared.collector.phase.Phase.{Phase}
use Rattle.fq_run.specs.declared.collector.phase.Phase.TheVariants.{Writing}
use Rattle.fq_run.specs.declared.waiting.CallerDoes.{CallerDoes}
use Rattle.fq_run.specs.declared.waiting.CallerDoes.TheVariants.{Begins, ClosesStart, Writes, Drains, AwaitsDealer, AwaitsWorkers}
use Rattle.fq_run.specs.declared.dealer.waiting.DealerDoes.{DealerDoes}
use Rattle.fq_run.specs.declared.dealer.waiting.DealerDoes.TheVariants.{AwaitsStart, Deals, PassesStart, Closes}
use Rattle.fq_run.specs.Doing.{Caller, begins, closes_start, writes, drains, awaits_dealer, awaits_workers, CallerMove, wrote, heard_stop, found_mark, Dealer, awaits_start, deals, passes_start, closes, DealerMove, took_start, found_no_start}

abbrev pub caller_of : CallerDoes → Caller
caller_of Begins = begins
caller_of ClosesStart = closes_start
caller_of Writes = writes
caller_of Drains = drains
caller_of AwaitsDealer = awaits_dealer
caller_of (AwaitsWorkers k) = awaits_workers k

-- the move that a wait for a reply was, if the reply is then written
abbrev pub got : Option Reply → CallerMove
got (Some (done d)) = wrote
got (Some (Stop cause)) = heard_stop
got None = found_mark

-- what the calling thread does in this phase of the collector
abbrev pub does_in : Phase → Caller
does_in Writing = writes
does_in _ = drains

abbrev pub dealer_of : DealerDoes → Dealer
dealer_of AwaitsStart = awaits_start
dealer_of Deals = deals
dealer_of PassesStart = passes_start
dealer_of (Closes k) = closes k

-- the move that the first wait for the start lane was
abbrev pub started : Option (Unit {0}) → DealerMove
started (Some item) = took_start
started None = found_no_start
