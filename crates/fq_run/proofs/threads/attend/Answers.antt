-- The threads are joined, and their lanes can be confirmed.
use Rattle.std.proofs.Common.{◌≡◌, ℕ, zero, suc, ◌+◌, ◌-◌, ◌<◌, Bool, true, false, ◌||◌, List, [], ◌∷◌, length, get_or, refl, sym, ap, ◌∙◌, arith, inl, Option, Some, None, Result, IsOkAnd, ◌≤◌, ◌^◌, is_some, ◌++◌, map, append_assoc, length-append, IsTrue, Ok, Err, IfOk, subst, vec_len}
use Rattle.std.specs.List.{AllZip, list_any}
use Rattle.std.proofs.lemmas.Grind.{common_steps}
use Rattle.fq_trim.specs.declared.step.Step.{Step}
use Rattle.fq_lane.specs.History.{History, Name, with_mark}
use Rattle.fq_lane.specs.declared.tx.NotEnded.{NotEnded}
use Rattle.fq_block.specs.Blocks.{Numbered}
use Rattle.fq_report_reads.specs.Courses.{alone}
use Rattle.fq_report_pairs.specs.declared.done.Done.{Done}
use Rattle.fq_report_pairs.specs.declared.tally.Tally.{Tally}
use Rattle.fq_report_pairs.specs.Tallies.{no_tally, tally_of, plus}
use Rattle.fq_report_pairs.specs.Results.{tally_if}
use Rattle.fq_report_pairs.proofs.PlusLaws.{tally_of-append, plus_comm, plus_assoc}
use Rattle.fq_work.specs.Replies.{Answers, done_of}
use Rattle.fq_work.specs.Work.{pairs_of}
use Rattle.fq_work.specs.declared.ends.Worked.{Worked}
use Rattle.fq_work.specs.declared.reply.Cause.{Cause}
use Rattle.fq_work.specs.declared.reply.Cause.TheVariants.{Gate, Memory}
use Rattle.fq_work.specs.declared.reply.Reply.{Reply}
use Rattle.fq_work.specs.declared.reply.Reply.TheVariants.{Done as done, Stop}
use Rattle.fq_run_core.specs.declared.halt.Halt.{Halt}
use Rattle.fq_run_core.specs.declared.total.Total.{Total}
use Rattle.fq_run_core.specs.Totals.{no_total, tally_plus, total_plus}
use Rattle.fq_run_core.specs.Writing.{no_halt, Passes, Runs, FlushesAfter}
use Rattle.fq_run.specs.Shares.{every, AreEven, IsCut, join}
use Rattle.fq_run.specs.Each.{Each3}
use Rattle.fq_run.specs.Confirming.{Confirmed}
use Rattle.fq_run.specs.dealer.Dealt.{Closed, HasDealt}
use Rattle.fq_run.specs.lanes.Items.{IsDealt}
use Rattle.fq_run.specs.collector.Collecting.{counted_from, counted, Collects, Writes, IsHeard, TookAll, written_text, failed_in}
use Rattle.fq_run.specs.collector.Stops.{witness, is_stop, has_come, refused_if, stops_of}
use Rattle.fq_run.specs.Threads.{tallies_from, IsFresh, Concludes, run_from, names_left, IsThreaded}
use Rattle.fq_run.proofs.MatchLemmas.{Answered, answers_came, all_answered, replies_dealt, laid_length, can_confirm, matched, shut, Matched, answered, begun_before, begun_first, at_mark_all}
use Rattle.std.proofs.lemmas.List.{append-nil}
use mathlib.Core.List.{IsPrefix}
use Rattle.fq_pair.specs.declared.out.Out.{Out}
use Rattle.fq_pair.specs.Mates.{Mates}
use Rattle.fq_pair.specs.Outputs.{texts_of, text_of, counts_of}
use Rattle.fq_work.proofs.WorkLemmas.{pairs_of-append}
use Rattle.fq_run.specs.declared.collector.Collector.{Collector}
use Rattle.fq_run.specs.declared.collector.phase.Phase.{Phase}
use Rattle.fq_run.specs.declared.collector.phase.Phase.TheVariants.{Writing, AtMark, Stopped, WriteFailed}
use Rattle.fq_run_core.specs.declared.reading_end.ReadingEnd.{ReadingEnd}
use Rattle.fq_run_core.specs.Choices.{Choices}
use Rattle.fq_run.specs.dealer.DealingOut.{DealsOut}
use Rattle.fq_text.specs.Devices.{FeedState}
use Rattle.fq_run_core.specs.Devices.{KeepFiles, OutletStates, OutletsTook, part_at}
use Rattle.fq_pair.specs.Forms.{Form}
use Rattle.fq_pair.specs.Walks.{SourceState}
use Rattle.fq_run_core.specs.PairsRead.{Reads, fresh_source, feed_in}
use Rattle.fq_run_core.proofs.OutletLemmas.{all_took_same, all_took_keep, flush_keeps, keep_then, still_healthy}
use Rattle.fq_run_core.proofs.TotalLemmas.{no_text, some_pair, counts_added, is_cut}
use Rattle.std.specs.Option.{option_map, option_and_then, IfSome}
use Rattle.fq_run.specs.declared.dealer.dealt.Dealt.{Dealt}
use Rattle.fq_run.specs.declared.conclusion.Conclusion.{Conclusion}
use Rattle.fq_run_core.specs.Endings.{Run, ends_whole, AreItsNames}
use Rattle.fq_run_core.specs.Outcomes.{rank}
use Rattle.fq_run.proofs.StartLemmas.{of_one}
use Rattle.fq_run_core.proofs.RunLemmas.{Keeps, run_keeps}
use Rattle.fq_work.specs.declared.reply.Cause.TheVariants as cause
use Rattle.fq_run_core.specs.Fates as fate
use Rattle.fq_run_core.specs.declared.outcome.Outcome.TheVariants as outcome
use Rattle.fq_run.proofs.threads.attend.Goals as goal

-- The tallies of all workers add up to the tally of all blocks.

module _ (lists : List (List Step)) where
  -- the tally of some blocks
  abbrev of_blocks : List Numbered → Tally
  of_blocks bs = tally_of lists (pairs_of bs)

  -- the tallies of the first n of w shares, added up
  lanes_sum : ℕ → ℕ → List Numbered → Tally
  lanes_sum zero w bs = no_tally
  lanes_sum (suc n) w bs = plus (of_blocks (every n w bs)) (lanes_sum n w bs)

  -- the first may be added after the second
  swapped : (a b c : Tally) → plus a (plus b c) ≡ plus b (plus a c)
  swapped a b c = sym (plus_assoc a b c) ∙ ap (λ (t : Tally). plus t c) (plus_comm a b)
      ∙ plus_assoc b a c

  -- one more block in front goes to the first share, and the others move by one
  moved : (n w : ℕ) (b : Numbered) (bs : List Numbered) → lanes_sum (suc n) w (b ∷ bs)
      ≡ plus (of_blocks (b ∷ every (w - 1) w bs)) (lanes_sum n w bs)
  unfolding lanes_sum
  moved zero w b bs = refl
  moved (suc n) w b bs = ap (plus (of_blocks (every n w bs))) (moved n w b bs) ∙ swapped
      (of_blocks (every n w bs)) (of_blocks (b ∷ every (w - 1) w bs)) (lanes_sum n w bs)

  -- shares of no blocks
  none_sum : (n w : ℕ) → lanes_sum n w [] ≡ no_tally
  unfolding lanes_sum
  none_sum zero w = refl
  none_sum (suc n) w = ap (plus no_tally) (none_sum n w)

  -- the tallies of all shares add up to the tally of all blocks
  lanes_add_up : (n : ℕ) (bs : List Numbered) → lanes_sum (suc n) (suc n) bs ≡ of_blocks bs
  unfolding lanes_sum
  lanes_add_up n [] = none_sum (suc n) (suc n)
  lanes_add_up n (b ∷ bs) =
      let less : suc n - 1 ≡ n = omega arith in
      let one : (xs : List Numbered) → of_blocks (b ∷ xs)
      ≡ plus (tally_of lists b.pairs) (of_blocks xs) = λ xs.
      tally_of-append lists b.pairs (pairs_of xs) in
      moved n (suc n) b bs
      ∙ ap (λ (k : ℕ). plus (of_blocks (b ∷ every k (suc n) bs)) (lanes_sum n (suc n) bs)) less
      ∙ ap (λ (t : Tally). plus t (lanes_sum n (suc n) bs)) (one (every n (suc n) bs))
      ∙ plus_assoc (tally_of lists b.pairs) (of_blocks (every n (suc n) bs))
      (lanes_sum n (suc n) bs)
      ∙ ap (plus (tally_of lists b.pairs)) (lanes_add_up n bs)
      ∙ sym (one bs)

-- The tallies of workers.

module _ (tallied : Bool) (steps : List Step) (n : ℕ) (bs : List Numbered) where
  -- these workers hand back the tallies of the shares from k on, of n
  abbrev HaveTallied : ℕ → List Worked → Type 0
  HaveTallied k [] = k ≡ n
  HaveTallied k (w ∷ ws) =
      (w.tally ≡ tally_if tallied steps (pairs_of (every k n bs))) × HaveTallied (suc k) ws

-- none has a tally
none_added : (ws : List Worked) → tallies_from None ws ≡ None
none_added [] = refl
none_added (w ∷ ws) = none_added ws

one_added : (a b : Tally) (t : Option Tally) → t ≡ Some b → tally_plus (Some a) t ≡ Some (plus b a)
one_added a b t is = ap (tally_plus (Some a)) is
    ∙ ap (λ (x : Tally). let s : Option Tally = Some x in s) (plus_comm a b)

-- the tallies of the shares before k, and then of those from k on
all_added : (steps : List Step) (n : ℕ) (bs : List Numbered) (k : ℕ) (ws : List Worked) →
    HaveTallied true steps n bs k ws →
    tallies_from (Some (lanes_sum (alone steps) k n bs)) ws ≡ Some (lanes_sum (alone steps) n n bs)
unfolding lanes_sum
all_added steps n bs k [] have = grind (arith, common_steps)
all_added steps n bs k (w ∷ ws) have =
    ap (λ (t : Option Tally). tallies_from t ws)
    (one_added (lanes_sum (alone steps) k n bs)
    (of_blocks (alone steps) (every k n bs)) w.tally have.0)
    ∙ all_added steps n bs (suc k) ws have.1

-- the tallies of all workers, added to that of no pairs, are the tally of all blocks
added_up : (tallied : Bool) (steps : List Step) (w : ℕ) (bs : List Numbered) (ws : List Worked) →
    0 < w → HaveTallied tallied steps w bs 0 ws →
    tallies_from (tally_if tallied [] []) ws ≡ tally_if tallied steps (pairs_of bs)
unfolding lanes_sum
added_up true steps zero bs ws some have = absurd (omega arith)
added_up true steps (suc n) bs ws some have = all_added steps (suc n) bs 0 ws have
    ∙ ap (λ (t : Tally). let s : Option Tally = Some t in s) (lanes_add_up (alone steps) n bs)
added_up false steps w bs ws some have = none_added ws

-- Workers that did not stop.

neither : (a b : Bool) → (a || b) ≡ false → (a ≡ false) × (b ≡ false)
neither true b none = absurd cc
neither false b none = (refl, none)

-- without a witness nothing was refused
unrefused : (b : Bool) → refused_if b ≡ None → b ≡ false
unrefused true is = absurd cc
unrefused false is = refl

-- a worker whose replies have no stop did not stop
unstopped : (steps : List Step) (bs : List Numbered) (rs : List Reply) (cause : Option Cause) →
    Answers steps bs rs cause → list_any (is_stop Gate) rs ≡ false →
    list_any (is_stop (Memory witness)) rs ≡ false → cause ≡ None
unstopped steps bs rs None a gate memory = refl
unstopped steps (b ∷ bs) (done d ∷ rs) (Some cause) a gate memory =
    unstopped steps bs rs (Some cause) a.1 gate memory
unstopped steps (b ∷ bs) (Stop Gate ∷ rs) (Some cause) a gate memory = cc
unstopped steps (b ∷ bs) (Stop (Memory refused) ∷ rs) (Some cause) a gate memory = cc
unstopped steps [] [] (Some cause) a gate memory = absurd a
unstopped steps _ _ (Some cause) a gate memory = absurd a

-- what came through a confirmed lane is what was sent through it
took_sent : (t : History Numbered) (c : Result (History Numbered) NotEnded) (w : Worked) →
    Closed t c → IsOkAnd c (λ e. w.rx ≡ e) → w.rx.items ≡ t.items
took_sent t c w closed same = grind (arith, common_steps)

module _ (tallied : Bool) (steps : List Step) (holds : Bool) (n : ℕ) (bs : List Numbered) where
  one_tallied : (k : ℕ) (a m : Name) (t : History Numbered) (c : Result (History Numbered) NotEnded)
      (w : Worked) (f : History Reply) → Closed t c → Answered tallied steps holds a m w →
      Confirmed c w f → t.items ≡ every k n bs → list_any (is_stop Gate) f.items ≡ false →
      list_any (is_stop (Memory witness)) f.items ≡ false →
      w.tally ≡ tally_if tallied steps (pairs_of (every k n bs))
  one_tallied k a m t c w f closed h confirmed dealt gate memory =
      h.counted (unstopped steps w.rx.items f.items w.cause
      (answers_came tallied steps holds a m c w f h confirmed) gate memory)
      ∙ ap (λ (xs : List Numbered). tally_if tallied steps (pairs_of xs))
      (took_sent t c w closed confirmed.0 ∙ dealt)

  -- workers on confirmed lanes hand back the tallies of what was dealt to them
  have_tallied : (k : ℕ) (ns ms : List Name) (ts : List (History Numbered))
      (cs : List (Result (History Numbered) NotEnded)) (ws : List Worked)
      (fs : List (History Reply)) → AllZip Closed ts cs →
      Each3 (Answered tallied steps holds) ns ms ws → Each3 Confirmed cs ws fs →
      k + length ts ≡ n →
      ((j : ℕ) (d : History Numbered) → j < length ts →
      (get_or ts j d).items ≡ every (k + j) n bs) →
      has_come Gate fs ≡ false → has_come (Memory witness) fs ≡ false →
      HaveTallied tallied steps n bs k ws
  have_tallied k ns ms [] [] [] fs closed a confirmed len dealt gate memory = omega arith
  have_tallied k (x ∷ ns) (m ∷ ms) (t ∷ ts) (c ∷ cs) (w ∷ ws) (f ∷ fs) closed a confirmed len dealt
      gate memory =
      let g = neither (list_any (is_stop Gate) f.items) (has_come Gate fs) gate in
      let o = neither (list_any (is_stop (Memory witness)) f.items)
      (has_come (Memory witness) fs) memory in
      let same : k + 0 ≡ k = omega arith in
      let first : t.items ≡ every k n bs = dealt 0 t (omega arith)
      ∙ ap (λ (i : ℕ). every i n bs) same in (
        one_tallied k x m t c w f closed.0 a.0 confirmed.0 first g.0 o.0,
        have_tallied (suc k) ns ms ts cs ws fs closed.1 a.1 confirmed.1 (omega arith)
            (λ j d lt. (let next : k + suc j ≡ suc k + j = omega arith in
            dealt (suc j) d (omega arith) ∙ ap (λ (i : ℕ). every i n bs) next)) g.1 o.1,
      )
  have_tallied k _ _ (t ∷ ts) [] _ _ closed a confirmed len dealt gate memory = absurd closed
  have_tallied k _ _ _ (c ∷ cs) [] _ closed a confirmed len dealt gate memory = grind arith
  have_tallied k [] [] _ _ (w ∷ ws) _ closed a confirmed len dealt gate memory = absurd a
  have_tallied k _ _ _ _ _ _ closed a confirmed len dealt gate memory = grind arith

-- a total's tally does not change as blocks are counted
counted_tally : (total : Total) (ds : List Done) → (counted_from total ds).tally ≡ total.tally
counted_tally total [] = refl
counted_tally total (d ∷ ds) = counted_tally (total_plus total d) ds

-- if no worker stopped, the tallies of all workers, added to a total, are that of all blocks
pub tallies_add_up : (tallied : Bool) (steps : List Step) (holds : Bool) (w : ℕ)
    (bs : List Numbered) (ns ms : List Name) (ts : List (History Numbered))
    (cs : List (Result (History Numbered) NotEnded)) (ws : List Worked) (fs : List (History Reply))
    (total : Total) (ds : List Done) (halt : Halt) → 0 < w → IsDealt w bs ts →
    AllZip Closed ts cs → Each3 (Answered tallied steps holds) ns ms ws →
    Each3 Confirmed cs ws fs → total ≡ counted tallied ds → halt ≡ stops_of fs →
    halt ≡ no_halt → tallies_from total.tally ws ≡ tally_if tallied steps (pairs_of bs)
tallies_add_up tallied steps holds w bs ns ms ts cs ws fs total ds halt some dealt closed a
    confirmed is hears sound =
    let stops : stops_of fs ≡ no_halt = sym hears ∙ sound in
    let lanes : length ts ≡ w = dealt.lanes in
    ap (λ (t : Option Tally). tallies_from t ws)
    (ap (λ (t : Total). t.tally) is ∙ counted_tally (no_total tallied) ds)
    ∙ added_up tallied steps w bs ws some (have_tallied tallied steps holds w bs 0 ns ms ts cs ws fs
    closed a confirmed (omega arith)
    (λ j d lt.
    (let same : j ≡ 0 + j = omega arith in
    dealt.items j d (omega arith) ∙ ap (λ (i : ℕ). every i w bs) same))
    (ap (λ (h : Halt). h.gate) stops) (unrefused _ (ap (λ (h : Halt). h.memory) stops)))

-- What a run with threads has read and written, from what its dealer read and its collector wrote.

joined_is : (bs : List Numbered) → join (map (λ (b : Numbered). b.pairs) bs) ≡ pairs_of bs
joined_is [] = refl
joined_is (b ∷ bs) = ap (λ ms. b.pairs ++ ms) (joined_is bs)

-- no block has more pairs than are allowed
even_at : (most : ℕ) (first : List Numbered) (b : Numbered) (rest : List Numbered) →
    AreEven most (map (λ (x : Numbered). x.pairs) (first ++ b ∷ rest)) → length b.pairs ≤ most
even_at most [] b [] e = e.1
even_at most [] b (x ∷ rest) e = let full = e.0 in omega arith
even_at most (x ∷ []) b rest e = even_at most [] b rest e.1
even_at most (x ∷ y ∷ first) b rest e = even_at most (y ∷ first) b rest e.1

module _ (steps : List Step) where
  -- the texts of replies are those of the pairs of their blocks
  texts_in : (out : Out) (bs : List Numbered) →
      written_text out (answered steps bs) ≡ text_of out (texts_of steps (pairs_of bs))
  texts_in out [] = sym (no_text steps out)
  texts_in out (b ∷ bs) = grind (arith, common_steps, texts_in out bs)

  -- and so are the counts
  counts_in : (bs : List Numbered) (ms : List Mates) (total : Total) →
      total.counts ≡ counts_of steps ms → length ms + length (pairs_of bs) < 2 ^ 62 →
      (counted_from total (answered steps bs)).counts ≡ counts_of steps (ms ++ pairs_of bs)
  counts_in [] ms total is few = is ∙ ap (counts_of steps) (sym (append-nil ms))
  counts_in (b ∷ bs) ms total is few =
      let more = length-append b.pairs (pairs_of bs) in
      let all = length-append ms b.pairs in
      counts_in bs (ms ++ b.pairs) (total_plus total (done_of steps b))
      (counts_added steps ms b.pairs total.counts (counts_of steps b.pairs) is refl (omega arith))
      (omega arith)
      ∙ ap (counts_of steps) (append_assoc ms b.pairs (pairs_of bs))

  -- the first replies are those to the first blocks
  record Splits (ds es : List Done) (bs : List Numbered) : Type 0 where
    first : List Numbered
    rest : List Numbered
    all : bs ≡ first ++ rest
    answers : ds ≡ answered steps first
    others : IsPrefix es (answered steps rest)

  splits : (ds es : List Done) (bs : List Numbered) →
      IsPrefix (ds ++ es) (answered steps bs) → Splits ds es bs
  splits [] es bs p = record { first = []; rest = bs; all = refl; answers = refl; others = p }
  splits (d ∷ ds) es [] p = let q = p.1 in cc
  splits (d ∷ ds) es (b ∷ bs) p =
      let q : d ∷ ((ds ++ es) ++ p.0) ≡ done_of steps b ∷ answered steps bs = p.1 in
      let same : d ≡ done_of steps b = cc in
      let tail : (ds ++ es) ++ p.0 ≡ answered steps bs = cc in
      let s = splits ds es bs (p.0, tail) in
      record {
        first = b ∷ s.first;
        rest = s.rest;
        all = ap (λ xs. b ∷ xs) s.all;
        answers = ap (λ x. x ∷ ds) same ∙ ap (λ xs. done_of steps b ∷ xs) s.answers;
        others = s.others;
      }

module _ (c : Choices) (old new : SourceState) (mates : List Mates) (why : Option ReadingEnd)
    (bs : List Numbered) (before mid : OutletStates)
    (reads : Reads old new mates why) (few : length mates ≤ 2 ^ 60)
    (cut : IsCut c.block_pairs mates (map (λ (b : Numbered). b.pairs) bs)) (stopped : why
    ≡ None → ⊥) where
  -- the pairs that were read are those of the first blocks and those of the others
  read_is : (first rest : List Numbered) → bs ≡ first ++ rest →
      mates ≡ pairs_of first ++ pairs_of rest
  read_is first rest all = sym cut.joined ∙ joined_is bs ∙ ap pairs_of all
      ∙ pairs_of-append first rest

  counted_is : (ds : List Done) (first rest : List Numbered) → bs ≡ first ++ rest →
      ds ≡ answered c.steps first →
      (counted c.tallied ds).counts ≡ counts_of c.steps (pairs_of first)
  counted_is ds first rest all is =
      let len = ap length (read_is first rest all) in
      let sum = length-append (pairs_of first) (pairs_of rest) in
      ap (λ (xs : List Done). (counted c.tallied xs).counts) is
      ∙ counts_in c.steps first [] (no_total c.tallied) refl (omega arith)

  -- no write failed: the texts of the first blocks were sent, and no others
  passes_first : (ds : List Done) (total : Total) (halt : Halt) (first rest : List Numbered) →
      bs ≡ first ++ rest → ds ≡ answered c.steps first →
      total.counts ≡ (counted c.tallied ds).counts →
      (halt ≡ no_halt → total.tally ≡ tally_if c.tallied c.steps (pairs_of first)) →
      TookAll before mid ds →
      (halt ≡ no_halt → rest ≡ []) → Passes c old new before mid total halt why None
  passes_first ds total halt first rest all is counts tally took none =
      record {
        whole = pairs_of first;
        fate = fate.Unbroken;
        missed = pairs_of rest;
        counts = record {
          counts = counts ∙ counted_is ds first rest all is;
          tally = λ sound unbroken enough. tally sound;
        };
        reads = rw (append-nil (pairs_of first)) (rw (read_is first rest all) at reads);
        took = all_took_same before mid _ _ None
            (λ out. ap (written_text out) is ∙ texts_in c.steps out first
            ∙ sym (append-nil (text_of out (texts_of c.steps (pairs_of first))))) took;
        failed = refl;
        cut_short = tt;
        over = λ going sound. stopped going;
        unflushed = refl;
        missed_none = λ sound unbroken. ap pairs_of (none sound);
      }

  -- a write failed in the block after the first ones
  passes_broken : (failed : Out) (ds : List Done) (total : Total) (halt : Halt) (next : Done)
      (sent : ℕ) (first rest : List Numbered) (b : Numbered) → bs ≡ first ++ (b ∷ rest) →
      ds ≡ answered c.steps first → next ≡ done_of c.steps b →
      total.counts ≡ (counted c.tallied ds).counts → sent < length (text_of failed next.texts) →
      OutletsTook before mid (λ out. written_text out ds ++ part_at failed sent out (text_of out
      next.texts)) (Some failed) →
      Passes c old new before mid total halt why (Some failed)
  passes_broken failed ds total halt next sent first rest b all is next_is counts short took =
      let cut_at = rw next_is at short in
      record {
        whole = pairs_of first;
        fate = fate.WriteFailed failed sent b.pairs;
        missed = pairs_of rest;
        counts = is_cut c (pairs_of first) halt why failed total (counts
            ∙ counted_is ds first (b ∷ rest) all is);
        reads = rw (append_assoc (pairs_of first) b.pairs (pairs_of rest))
            (rw (read_is first (b ∷ rest) all) at reads);
        took = all_took_same before mid _ _ (Some failed)
            (λ out. ap (λ text. text ++ part_at failed sent out (text_of out next.texts))
            (ap (written_text out) is ∙ texts_in c.steps out first)
            ∙ ap (λ (d : Done). text_of out (texts_of c.steps (pairs_of first)) ++ part_at failed
            sent out (text_of out d.texts)) next_is) took;
        failed = refl;
        cut_short = (
          some_pair c.steps failed b.pairs sent cut_at,
          even_at c.block_pairs first b rest (rw all at cut.even),
          cut_at,
        );
        over = λ going sound. stopped going;
        unflushed = refl;
        missed_none = λ sound unbroken. absurd cc;
      }

  -- which block it was
  passes_behind : (failed : Out) (ds : List Done) (total : Total) (halt : Halt) (next : Done)
      (sent : ℕ) (first rest : List Numbered) → bs ≡ first ++ rest →
      ds ≡ answered c.steps first →
      IsPrefix (next ∷ []) (answered c.steps rest) →
      total.counts ≡ (counted c.tallied ds).counts → sent < length (text_of failed next.texts) →
      OutletsTook before mid (λ out. written_text out ds ++ part_at failed sent out (text_of out
      next.texts)) (Some failed) →
      Passes c old new before mid total halt why (Some failed)
  passes_behind failed ds total halt next sent first [] all is p counts short took =
      absurd (let q = p.1 in cc)
  passes_behind failed ds total halt next sent first (b ∷ rest) all is p counts short took =
      let q : next ∷ ([] ++ p.0) ≡ done_of c.steps b ∷ answered c.steps rest =
      p.1 in
      let same : next ≡ done_of c.steps b = cc in
      passes_broken failed ds total halt next sent first rest b all is same counts short took

-- a worker that stopped
halted : (why : Cause) (k : Collector) → IsHeard why k → k.halt ≡ no_halt → ⊥
halted cause.Gate k heard sound = let e = sym heard ∙ ap (λ (h : Halt). h.gate) sound in cc
halted (cause.Memory refused) k heard sound =
    let e = sym heard ∙ ap (λ (h : Halt). is_some h.memory) sound in cc

module _ (form : Form) (c : Choices) (f r : FeedState) (old new : SourceState)
    (to : List (History Numbered)) (closings : List (Result (History Numbered) NotEnded))
    (why : Option ReadingEnd) (w : ℕ) (before mid : OutletStates) (k : Collector)
    (is : old ≡ fresh_source form c f r) (sent : List (History Numbered))
    (d : DealsOut c old new to sent why) (ends : AllZip Closed sent closings)
    (matched : AllZip (Matched c.steps) closings k.replies.items) (stopped : why
    ≡ None → ⊥) (lanes : length to ≡ w) (some : 0 < w) (total : Total)
    (counts : total.counts ≡ k.total.counts) (tally : k.halt ≡ no_halt →
    total.tally ≡ tally_if c.tallied c.steps (pairs_of d.blocks)) where
  dealt_to : IsDealt w d.blocks sent
  dealt_to = rw lanes at d.dealt

  same : (ds : List Done) → k.total ≡ counted c.tallied ds →
      total.counts ≡ (counted c.tallied ds).counts
  same ds totals = counts ∙ ap (λ (t : Total). t.counts) totals

  -- the replies to the first blocks, by the phase of the collector
  passes_by : (phase : Phase) (ds : List Done) → k.total ≡ counted c.tallied ds →
      Writes phase w before mid ds k → (phase ≡ Writing → ⊥) →
      Passes c old new before mid total k.halt why (failed_in phase)
  passes_by Writing ds totals writes over = absurd (over refl)
  passes_by AtMark ds totals writes over =
      let cut = d.cut in
      let all = at_mark_all c.steps w d.blocks sent closings k.replies.items dealt_to ends
      matched some ds writes.0 in
      passes_first c old new d.mates why d.blocks before mid d.reads d.few cut.cut stopped ds
      total k.halt d.blocks [] (sym (append-nil d.blocks)) all (same ds totals) tally
      writes.1 (λ sound. refl)
  passes_by Stopped ds totals writes over =
      let cut = d.cut in
      let begun = begun_first c.steps w d.blocks sent closings k.replies.items dealt_to
      ends matched some ds (begun_before w (map done ds) (Stop writes.why ∷ []) k.replies.items
      writes.begun) in
      let s = splits c.steps ds [] d.blocks (rw (append-nil ds) begun) in
      passes_first c old new d.mates why d.blocks before mid d.reads d.few cut.cut stopped ds
      total k.halt s.first s.rest s.all s.answers (same ds totals)
      (λ sound. absurd (halted writes.why k writes.heard sound)) writes.took
      (λ sound. absurd (halted writes.why k writes.heard sound))
  passes_by (WriteFailed failed) ds totals writes over =
      let cut = d.cut in
      let begun = begun_first c.steps w d.blocks sent closings k.replies.items dealt_to
      ends matched some (ds ++ writes.next ∷ []) writes.begun in
      let s = splits c.steps ds (writes.next ∷ []) d.blocks begun in
      passes_behind c old new d.mates why d.blocks before mid d.reads d.few cut.cut stopped failed
      ds total k.halt writes.next writes.sent s.first s.rest s.all s.answers s.others
      (same ds totals)
      writes.short writes.took

  -- what the run read and wrote
  pub runs_threaded : Collects c.tallied w before mid k → (k.phase ≡ Writing → ⊥) →
      Runs {E = Unit {0}} form c f r (feed_in new.forward) (feed_in new.reverse) before mid total
      k.halt why (failed_in k.phase) (Ok new.names)
  runs_threaded collects over = record {
    new = new;
    passes = rw (← is) (passes_by k.phase collects.written collects.total collects.writes over);
    forward = refl;
    reverse = refl;
    held = refl;
  }

-- What a run guarantees if all its threads were started.

-- whatever was written, outlets keep the files that they write
phase_keeps : (p : Phase) (w : ℕ) (before now : OutletStates) (ds : List Done) (k : Collector) →
    Writes p w before now ds k → KeepFiles before now
phase_keeps Writing w before now ds k p = all_took_keep before now _ None p.2
phase_keeps AtMark w before now ds k p = all_took_keep before now _ None p.1
phase_keeps Stopped w before now ds k p = all_took_keep before now _ None p.took
phase_keeps (WriteFailed failed) w before now ds k p =
    all_took_keep before now _ (Some failed) p.took

-- a confirmed start lane carried the item that was put
started_some : (r : Result (History (Unit {0})) NotEnded) (s start : History (Unit {0})) →
    0 < length s.items → IfOk r (λ e. e ≡ with_mark s) → IsOkAnd r (λ e. start ≡ e) →
    0 < length start.items
started_some (Ok e) s start some ended same =
    subst (λ (l : History (Unit {0})). 0 < length l.items) (sym (same ∙ ended)) some
started_some (Err e) s start some ended same = absurd same

module _ {S : Type 0} (state : S → SourceState) (c : Choices) (s : SourceState)
    (fresh : IsFresh c s) (before mid after : OutletStates)
    (started : Result (History (Unit {0})) NotEnded) (starter start : History (Unit {0}))
    (dealt : Dealt S) (worked : List Worked) (k : Collector) (failed : Option Out)
    (ending : Conclusion S) (to : List (History Numbered)) (w : ℕ)
    (ends : Concludes started dealt worked k failed ending)
    (h : HasDealt c s (state dealt.source) start dealt.start to dealt.closings.items dealt.why)
    (some : 0 < length starter.items) (closed : IfOk started (λ e. e ≡ with_mark starter))
    (matched : Each3 Confirmed dealt.closings.items worked k.replies.items →
    AllZip (Matched c.steps) dealt.closings.items k.replies.items)
    (lanes : length to ≡ w) (pos : 0 < w) (collects : Collects c.tallied w before mid k)
    (over : k.phase ≡ Writing → ⊥) (flushed : FlushesAfter (failed_in k.phase) mid after failed)
    (holds : Bool) (shut : Each3 Confirmed dealt.closings.items worked k.replies.items →
    k.halt.gate ≡ true → IsTrue holds)
    (tally : Each3 Confirmed dealt.closings.items worked k.replies.items → k.halt ≡ no_halt →
    tallies_from k.total.tally worked
    ≡ tally_if c.tallied c.steps (pairs_of h.deals.out.blocks))
  where
    -- the run
    abbrev the_run : Run
    the_run = run_from state s before after ending

    -- the sides of the source that is handed back
    abbrev forward_of : S → FeedState
    forward_of x = feed_in (state x).forward

    abbrev reverse_of : S → FeedState
    reverse_of x = feed_in (state x).reverse

    -- the counts of what was written, and the tallies of all workers
    abbrev total : Total
    total = record { counts = k.total.counts; tally = tallies_from k.total.tally worked }

    module _ (none : ending.unended ≡ None) where
      read_on : dealt.why ≡ None → ⊥
      read_on = h.started (started_some started starter dealt.start some closed (ends.start none))

      runs : Runs {E = Unit {0}} s.form c (feed_in s.forward) (feed_in s.reverse)
          (forward_of dealt.source) (reverse_of dealt.source) before mid total k.halt dealt.why
          (failed_in k.phase) (Ok (state dealt.source).names)
      runs = runs_threaded s.form c _ _ s _ to dealt.closings.items dealt.why w before mid k
          fresh.fresh h.deals.sent h.deals.out h.deals.ends (matched (ends.workers none)) read_on
          lanes pos total refl (tally (ends.workers none)) collects over

      kept : Keeps c the_run k.halt (state dealt.source).names
      kept =
          let r = runs in
          let held : (state dealt.source).names ≡ r.new.names = r.held in
          rw (ends.source, held) (run_keeps s.form c _ _ _ _ before mid total k.halt dealt.why _
          runs after failed ending.outcome flushed (ends.outcome_is none) fresh.forward
          fresh.reverse ending.total ends.total)

    still_there : (of : S → FeedState) → option_map of ending.source ≡ None → ⊥
    still_there of gone = let e = sym (ap (option_map of) ends.source) ∙ gone in cc

    files_kept : KeepFiles before after
    files_kept = keep_then before mid after
        (phase_keeps k.phase w before mid collects.written k collects.writes)
        (flush_keeps (failed_in k.phase) mid after failed flushed)

    by_end : (u : Option NotEnded) → ending.unended ≡ u →
        IsThreaded c holds the_run u ending.refused (names_left state ending)
    by_end None none =
        let is = kept none in let high = is.started in
        record {
          files = files_kept;
          lane = λ at. absurd (let e = ap rank at in omega arith);
          no_other = λ there. absurd cc;
          memory = ends.memory;
          spawn = λ at. absurd (let e = ap rank at in omega arith);
          gate = λ at. shut (ends.workers none) (is.gate at);
          forward = λ gone. absurd (still_there forward_of gone);
          reverse = λ gone. absurd (still_there reverse_of gone);
          together = of_one forward_of reverse_of ending.source;
          untouched = λ at. absurd (let e = ap rank at in omega arith);
          names = is.names _ _
              (λ at. inl (ap (option_and_then (λ x. (state x).names)) ends.source));
          whole = is.whole;
          every = λ sound. is.every;
        }
    by_end (Some unended) there =
        let P : Option NotEnded → Type 0 = λ u. IfSome u (λ x. ending.outcome ≡ outcome.Lane) in
        let lane : ending.outcome ≡ outcome.Lane = subst P there ends.lane in
        record {
          files = files_kept;
          lane = λ at. refl;
          no_other = λ u. lane;
          memory = ends.memory;
          spawn = λ at. absurd (let e = sym lane ∙ at in cc);
          gate = λ at. absurd (let e = sym lane ∙ at in cc);
          forward = λ gone. absurd (still_there forward_of gone);
          reverse = λ gone. absurd (still_there reverse_of gone);
          together = of_one forward_of reverse_of ending.source;
          untouched = λ at. absurd (let e = sym lane ∙ at in cc);
          names = subst (λ o. AreItsNames s.form c.encoding (feed_in s.forward)
              (feed_in s.reverse) o (names_left state ending) ending.refused) (sym lane) tt;
          whole = λ ends_so told. absurd (let e : IsTrue false =
              subst IsTrue (ap ends_whole lane) ends_so in cc);
          every = λ sound. absurd (sound lane);
        }

    -- what is promised of a run on several threads holds if all its threads were started
    pub threaded :
        IsThreaded c holds the_run ending.unended ending.refused (names_left state ending)
    threaded = by_end ending.unended refl

-- whether a total of no pairs has a tally
asked_by : (t : Total) (tallied : Bool) → t ≡ no_total tallied → is_some t.tally ≡ tallied
asked_by t true is = ap (λ (t : Total). is_some t.tally) is
asked_by t false is = ap (λ (t : Total). is_some t.tally) is

-- the total is that of no pairs, with a tally if one is asked for
pub collect-collector-requires-clause-none : goal.collect-collector-requires-clause-none
collect-collector-requires-clause-none g c = c.requires.total
    ∙ ap no_total (sym (asked_by _ _ c.requires.total))

-- no reply has come through the lanes yet
pub collect-collector-requires-clause-fresh : goal.collect-collector-requires-clause-fresh
collect-collector-requires-clause-fresh g c =
    let m = c.requires.manned in
    replies_dealt _ _ _ _ _ (omega (arith, c.args.replies.ok.0)) m.laid

-- unless a write failed, no outlet has failed before the flushes
pub flush_after-failed-requires : goal.flush_after-failed-requires
flush_after-failed-requires g c none = still_healthy _ _ _ c.requires.outlets
    (c.collect-collector.ensures.written (sym c.failed.ensures ∙ none))

-- after the joins the two lanes of each worker can be confirmed
pub conclude-requires-clause-workers : goal.conclude-requires-clause-workers
conclude-requires-clause-workers g c =
    let m = c.requires.manned in
    let steps = c.args.crew.dealer.promise.settings.steps in
    let tallied = c.args.crew.dealer.promise.settings.tallied in
    let holds = c.args.crew.holds in
    let to = c.args.crew.dealer.promise.to.value.items in
    let d = c.join_dealer-dealt.ensures.dealt.deals in
    let k = c.collect-collector.result in
    let ws = c.join_workers-worked.result.items in
    let a = all_answered tallied steps holds to m.ends c.args.replies.items _ ws m.laid m.seated
    c.join_workers-worked.ensures.joined in
    can_confirm tallied steps holds d.sent c.join_dealer-dealt.result.closings.items ws
    k.replies.items
    d.ends (rw (d.out.names, c.collect-collector.ensures.names) a)
    c.collect-collector.ensures.over.1

-- what is promised of a run on several threads holds after all joins
pub returns : goal.returns
returns g c =
    let m = c.requires.manned in
    let crew = c.args.crew in
    let steps = crew.dealer.promise.settings.steps in
    let tallied = crew.dealer.promise.settings.tallied in
    let holds = crew.holds in
    let to = crew.dealer.promise.to.value.items in
    let k = c.collect-collector.result in
    let ws = c.join_workers-worked.result.items in
    let a = all_answered tallied steps holds to m.ends c.args.replies.items _ ws m.laid m.seated
    c.join_workers-worked.ensures.joined in
    let len : length to ≡ vec_len c.args.replies =
    laid_length tallied to m.ends c.args.replies.items m.laid
    ∙ omega (arith, c.args.replies.ok.0) in
    let put : 0 < length c.put_start.new.starter.items =
    omega (
      arith,
      ap (λ l. length l.items) c.put_start.ensures.put,
      length-append crew.starter.items (tt ∷ []),
    ) in
    let dealt = c.join_dealer-dealt.ensures.dealt in
    let collects = rw (asked_by _ _ c.requires.total) at c.collect-collector.ensures.collects in
    let pos : 0 < vec_len c.args.replies = omega (arith, c.args.replies.ok.0, m.some) in
    threaded g.S.PairReader.state crew.dealer.promise.settings _ c.requires.fresh _ _ _
    c.close_start-started.result c.put_start.new.starter _ c.join_dealer-dealt.result ws k _
    c.conclude.result to
    (vec_len c.args.replies)
    c.conclude.ensures c.join_dealer-dealt.ensures.dealt put c.close_start-started.ensures.closed
    (matched tallied steps holds _ _ _ ws k.replies.items a) len
    pos collects
    c.collect-collector.ensures.over.0
    (rw c.failed.ensures at c.flush_after-failed.ensures) holds
    (λ confirmed gated. shut tallied steps holds _ _ _ ws k.replies.items a confirmed
    (sym (ap (λ (h : Halt). h.gate) c.collect-collector.ensures.hears) ∙ gated))
    (λ confirmed sound. tallies_add_up tallied steps holds (vec_len c.args.replies)
    dealt.deals.out.blocks _ _ dealt.deals.sent _ ws k.replies.items k.total collects.written k.halt
    pos (rw len at dealt.deals.out.dealt)
    dealt.deals.ends a confirmed collects.total c.collect-collector.ensures.hears sound)
