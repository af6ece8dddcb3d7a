-- From the feeds to the outlets: blocks that are written one after another.
use Rattle.std.proofs.Common.{◌≡◌, ◌-◌, ◌<◌, ◌≤◌, ◌^◌, Option, Some, None, Ok, List, [], ◌++◌, refl, sym, ap, ◌∙◌, arith, false}
use Rattle.std.proofs.lemmas.List.{append-nil}
use Rattle.std.proofs.lemmas.Grind.{common_steps}
use Rattle.fq_pair.specs.declared.out.Out.{Out}
use Rattle.fq_pair.specs.Mates.{Mates}
use Rattle.fq_pair.specs.Summaries.{capped}
use Rattle.fq_pair.specs.Outputs.{Outputs, texts_of, text_of}
use Rattle.fq_report_pairs.specs.declared.done.Done.{Done}
use Rattle.fq_report_pairs.specs.declared.tally.Tally.{Tally}
use Rattle.fq_run_core.specs.declared.total.Total.{Total}
use Rattle.fq_run_core.specs.Totals.{total_of, no_total}
use Rattle.fq_run_core.specs.declared.reading_end.ReadingEnd.{ReadingEnd}
use Rattle.fq_run_core.specs.Choices.{Choices}
use Rattle.fq_run_core.specs.Devices.{OutletStates, OutletsTook, part_at}
use Rattle.fq_run_core.specs.Sending.{BreaksAt}
use Rattle.fq_run_core.specs.Fates.{Unbroken, WriteFailed}
use Rattle.fq_pair.specs.Walks.{SourceState, Walks, GoesOn}
use Rattle.fq_run_core.specs.Gathering.{Gathers}
use Rattle.fq_run_core.specs.Writing.{no_halt, Passes, nothing_written, Runs}
use Rattle.fq_run_core.proofs.OutletLemmas.{all_took_then, all_took_same}
use Rattle.fq_run_core.proofs.TotalLemmas.{some_pair, no_total_is, total_added, is_counted, is_cut}
use Rattle.fq_run_core.proofs.WalkLemmas.{walks_none, walks_then, reads_then}
use Rattle.fq_pair.proofs.SideLemmas.{walked_records}
use Rattle.fq_text.specs.declared.memory.MemoryRefused.{MemoryRefused}
use Rattle.fq_run_core.specs.declared.written.Written.{Written}
use Rattle.fq_text.specs.Devices.{FeedState}
use Rattle.fq_pair.specs.Forms.{Form}
use Rattle.fq_run_core.specs.PairsRead.{fresh_source}
use Rattle.fq_run_core.specs.declared.reading_end.ReadingEnd.TheVariants as reading

-- Blocks that are written one after another.

module _ (c : Choices) (old : SourceState) (before : OutletStates) where
  -- complete blocks were read and written
  pub record Wrote (now : SourceState) (after : OutletStates) (counted : Total) : Type 0 where
    -- the pairs of these blocks
    pub whole : List Mates
    pub counts : counted ≡ total_of c.tallied c.steps whole
    pub walks : Walks old now whole
    pub took : OutletsTook before after (λ out. text_of out (texts_of c.steps whole)) None
    pub goes : GoesOn now

  -- before the first block nothing is read or written, and the total is that of no pairs
  pub wrote_none : (counted : Total) → GoesOn old → counted ≡ no_total c.tallied →
      Wrote old before counted
  wrote_none counted goes none = record {
    whole = [];
    counts = none ∙ no_total_is c.tallied c.steps;
    walks = walks_none old goes.last;
    took = grind (arith, common_steps);
    goes = goes;
  }

  -- the blocks before and this one
  took_block : {now next : SourceState} {after then : OutletStates} {counted : Total}
      {t u : Option Tally} {done : Done} {why : Option ReadingEnd} (w : Wrote now after counted)
      (g : Gathers now next c.steps c.block_pairs t u done why) →
      OutletsTook after then (λ out. text_of out done.texts) None →
      OutletsTook before then (λ out. text_of out (texts_of c.steps (w.whole ++ g.block))) None
  took_block {now} {next} {after} {then} {counted} {t} {u} {done} {why} w g p =
      grind (arith, common_steps)

  module _ {now next : SourceState} {after : OutletStates} {counted total : Total}
      {done : Done} {why : Option ReadingEnd} where
    -- a write failed in a block
    pub passes_broken : {then : OutletStates} (failed : Out) → Wrote now after counted →
        Gathers now next c.steps c.block_pairs counted.tally total.tally done why →
        BreaksAt after then done.texts failed → total.counts ≡ counted.counts →
        Passes c old next before then total no_halt why (Some failed)
    passes_broken {then} failed w g p is =
        let same =
        λ (out : Out). ap (λ (t : Outputs). text_of out (texts_of c.steps w.whole) ++ part_at
        failed p.sent out (text_of out t)) g.texts in
        let short = rw g.texts at p.short in
        record {
          whole = w.whole;
          fate = WriteFailed failed p.sent g.block;
          missed = [];
          counts = is_cut c w.whole no_halt why failed total
              (is ∙ ap (λ (t : Total). t.counts) w.counts);
          reads = simp append-nil (reads_then old now next w.whole g.block why w.walks g.reads);
          took = all_took_same before then _ _ (Some failed) same
              (all_took_then before after then (λ out. text_of out (texts_of c.steps w.whole))
              (λ out. part_at failed p.sent out (text_of out done.texts)) (Some failed) w.took
              p.took);
          failed = refl;
          cut_short = (some_pair c.steps failed g.block p.sent short, g.few, short);
          over = λ going sound. absurd cc;
          unflushed = refl;
          missed_none = λ sound none. refl;
        }

    counts_block : (w : Wrote now after counted)
        (g : Gathers now next c.steps c.block_pairs counted.tally total.tally done why) →
        old.forward.given ≡ 0 → old.most_bytes ≤ 2 ^ 60 → c.block_pairs ≤ 65536 →
        total.counts ≡ capped counted.counts done.texts.counts →
        total ≡ total_of c.tallied c.steps (w.whole ++ g.block)
    counts_block w g none few most is =
        let walks = w.walks in let records = walked_records old now w.whole walks in let same =
        walks.same in let bytes = same.most_bytes in let goes = w.goes in let within =
        goes.within in let block = g.few in
        total_added c.tallied c.steps w.whole g.block counted total done w.counts g.texts is
        g.tallied (omega arith)

    -- the last block is written
    pub passes_whole : {then : OutletStates} → Wrote now after counted →
        Gathers now next c.steps c.block_pairs counted.tally total.tally done why →
        OutletsTook after then (λ out. text_of out done.texts) None →
        old.forward.given ≡ 0 → old.most_bytes ≤ 2 ^ 60 → c.block_pairs ≤ 65536 → (why ≡ None → ⊥) →
        total.counts ≡ capped counted.counts done.texts.counts →
        Passes c old next before then total no_halt why None
    passes_whole {then} w g p none few most stopped is =
        record {
          whole = w.whole ++ g.block;
          fate = Unbroken;
          missed = [];
          counts = is_counted c (w.whole ++ g.block) no_halt why None total
              (counts_block w g none few most is);
          reads = simp append-nil (reads_then old now next w.whole g.block why w.walks g.reads);
          took = all_took_same before then _ _ None
              (λ out. sym (append-nil (text_of out (texts_of c.steps (w.whole ++ g.block)))))
              (took_block w g p);
          failed = refl;
          cut_short = tt;
          over = λ going sound. stopped going;
          unflushed = refl;
          missed_none = λ sound none. refl;
        }

    -- another block is written, and more may come
    pub wrote_more : {then : OutletStates} → Wrote now after counted →
        Gathers now next c.steps c.block_pairs counted.tally total.tally done why →
        OutletsTook after then (λ out. text_of out done.texts) None → old.forward.given ≡ 0 →
        old.most_bytes ≤ 2 ^ 60 → c.block_pairs ≤ 65536 → why ≡ None →
        total.counts ≡ capped counted.counts done.texts.counts → Wrote next then total
    wrote_more {then} w g p none few most going is =
        record {
          whole = w.whole ++ g.block;
          counts = counts_block w g none few most is;
          walks = walks_then old now next w.whole g.block w.walks (rw going at g.reads);
          took = took_block w g p;
          goes = g.goes going;
        }

  -- each block brings the end nearer
  pub nearer : {now next : SourceState} {after : OutletStates} {counted : Total}
      {t u : Option Tally} {done : Done} {why : Option ReadingEnd} → Wrote now after counted →
      Gathers now next c.steps c.block_pairs t u done why → 1 ≤ c.block_pairs → why ≡ None →
      old.most_bytes - next.forward.given < old.most_bytes - now.forward.given
  nearer {now} {next} {after} {counted} {t} {u} {done} {why} w g some going =
      grind (arith, common_steps)

-- From the feeds to the outlets.

-- memory was refused before anything was read
pub passes_refused : (refused : MemoryRefused) (c : Choices) (old : SourceState) (o : OutletStates)
    (counted : Total) → old.last ≡ None → counted ≡ no_total false →
    Passes c old old o o counted no_halt (Some (reading.Memory refused)) None
passes_refused refused c old o counted goes none = record {
  whole = [];
  fate = Unbroken;
  missed = [];
  counts = record {
    counts = ap (λ (t : Total). t.counts) none;
    tally = λ going sound enough. absurd cc;
  };
  reads = ([], walks_none old goes);
  took = grind (arith, common_steps);
  failed = refl;
  cut_short = tt;
  over = λ going sound. absurd cc;
  unflushed = refl;
  missed_none = λ sound none. refl;
}

-- a run to which memory was refused before the first pair has read and written nothing
pub runs_refused : {E : Type 0} (refused : MemoryRefused) (form : Form) (c : Choices)
    (f r f' r' : FeedState) (o : OutletStates) (counted : Total) → f' ≡ f → r' ≡ r →
    counted ≡ no_total false →
    Runs {E = E} form c f r f' r' o o counted no_halt (Some (reading.Memory refused)) None (Ok None)
runs_refused refused form c f r f' r' o counted same also none =
    record {
      new = fresh_source form c f r;
      passes = passes_refused refused c (fresh_source form c f r) o counted refl none;
      forward = same;
      reverse = also;
      held = refl;
    }

-- memory was refused, and the source and the outlets are as they were
pub passes_unasked : (refused : MemoryRefused) (c : Choices) (old : SourceState) (o : OutletStates)
    (total : Total) (w : Written) → old.last ≡ None → w ≡ nothing_written None → total ≡ w.total →
    Passes c old old o o total no_halt (Some (reading.Memory refused)) w.failed
passes_unasked refused c old o total w goes is same = grind (arith, common_steps, passes_refused)

-- memory was refused to a run, and its feeds and outlets are as they were
pub runs_nothing : {E : Type 0} (refused : MemoryRefused) (form : Form) (c : Choices)
    (f r f' r' : FeedState) (o : OutletStates) (w : Written) →
    w ≡ nothing_written (Some (reading.Memory refused)) → f' ≡ f → r' ≡ r →
    Runs {E = E} form c f r f' r' o o w.total no_halt w.why w.failed (Ok None)
runs_nothing refused form c f r f' r' o w is same also = grind (arith, common_steps, runs_refused)
