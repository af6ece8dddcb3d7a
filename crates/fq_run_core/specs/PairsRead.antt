-- The pairs that a run reads.
use Rattle.std.specs.Prelude.{◌*◌, false, Option, Some, None, List, [], ◌++◌}
use Rattle.fq_pair.specs.Forms.{Form}
use Rattle.fq_pair.specs.Mates.{Mates}
use Rattle.fq_pair.specs.Walks.{SideState, SourceState, Walks, MeetsEnd, MeetsFault}
use Rattle.fq_run_core.specs.Choices.{Choices}
use Rattle.fq_text.specs.Devices.{FeedState}
use Rattle.fq_run_core.specs.declared.reading_end.ReadingEnd.{ReadingEnd}
use Rattle.fq_run_core.specs.declared.reading_end.ReadingEnd.TheVariants as reading

-- pairs were read, and reading goes on or has stopped
abbrev pub Reads : SourceState → SourceState → List Mates → Option ReadingEnd → Type 0
Reads old new ms None = Walks old new ms
Reads old new ms (Some reading.End) = (mid : SourceState) × Walks old mid ms × MeetsEnd mid new
Reads old new ms (Some (reading.Fault why)) =
    (mid : SourceState) × Walks old mid ms × MeetsFault mid new why
Reads old new ms (Some (reading.Memory refused)) = (lost : List Mates) × Walks old new (ms ++ lost)

-- a source that nothing was read from, over feeds in these states
abbrev pub fresh_side : Choices → FeedState → SideState
fresh_side c feed = record {
  tells = feed.tells;
  in_hand = [];
  ended = false;
  to_come = feed.to_come;
  failures = feed.failures;
  taken = 0;
  given = 0;
  max_reads = c.max_reads;
}

abbrev pub fresh_source : Form → Choices → FeedState → FeedState → SourceState
fresh_source form c forward reverse = record {
  form = form;
  forward = fresh_side c forward;
  reverse = fresh_side c reverse;
  encoding = c.encoding;
  check_names = c.check_names;
  most_bytes = c.max_reads * c.chunk;
  given = 0;
  last = None;
  current = None;
  names = None;
}

-- the state of the feed of a side
abbrev pub feed_in : SideState → FeedState
feed_in s = record { tells = s.tells; to_come = s.to_come; failures = s.failures }
