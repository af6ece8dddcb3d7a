-- What was written in turn, and what the workers handed back, from what confirmed lanes carried.
use Rattle.std.proofs.Common.{◌≡◌, ℕ, zero, suc, ◌-◌, ◌<◌, ◌%◌, false, Option, Result, Ok, Err, IsOkAnd, List, [], ◌∷◌, ◌++◌, length, map, get_or, refl, sym, ap, ◌∙◌, arith, append_assoc, true, Some, None, ◌||◌, IsTrue, IfOk, Bool}
use Rattle.std.specs.List.{AllZip, list_any}
use Rattle.std.proofs.lemmas.List.{length-map}
use Rattle.std.proofs.lemmas.Nat.{mod_below}
use Rattle.std.proofs.lemmas.Grind.{common_steps}
use denote.RawPtr.{null_ptr}
use mathlib.Core.List.{IsPrefix}
use Rattle.fq_trim.specs.declared.step.Step.{Step}
use Rattle.fq_lane.specs.History.{History, Name}
use Rattle.fq_lane.specs.declared.tx.NotEnded.{NotEnded}
use Rattle.fq_block.specs.Blocks.{Numbered}
use Rattle.fq_work.specs.Replies.{done_of, Answers}
use Rattle.fq_report_pairs.specs.declared.done.Done.{Done}
use Rattle.fq_work.specs.declared.reply.Cause.{Cause}
use Rattle.fq_work.specs.declared.reply.Reply.{Reply}
use Rattle.fq_work.specs.declared.reply.Reply.TheVariants.{Done as done, Stop}
use Rattle.fq_run.specs.Shares.{every}
use Rattle.fq_run.specs.dealer.Dealt.{Closed}
use Rattle.fq_run.specs.lanes.Items.{IsDealt, IsAtMark, IsBegun, names_of, AllClosed}
use Rattle.fq_run.proofs.DealLemmas.{whole_from_turns, prefix_from_turns, every-map}
use Rattle.std.specs.declared.thread.PromisedHandle.{PromisedHandle}
use Rattle.fq_work.specs.Work.{pairs_of}
use Rattle.fq_report_pairs.specs.Results.{tally_if}
use Rattle.fq_work.specs.declared.ends.WorkEnds.{WorkEnds}
use Rattle.fq_work.specs.declared.ends.Worked.{Worked}
use Rattle.fq_work.specs.declared.reply.Cause.TheVariants.{Gate, Memory}
use Rattle.fq_run.specs.collector.Stops.{is_stop, has_come}
use Rattle.fq_run.specs.lanes.Laying.{Laid}
use Rattle.fq_run.specs.crew.Workers.{Seated, Joined}
use Rattle.fq_run.specs.Confirming.{CanConfirm, Confirmed}
use Rattle.fq_run.specs.Each.{Each3}
use Rattle.fq_run.specs.declared.crew.job.Job.{Job}

-- What was written in turn, from what confirmed lanes carried.

every_first : {T : Type 0} (k w : ℕ) (xs ys : List T) →
    IsPrefix (every k w xs) (every k w (xs ++ ys))
every_first k w [] ys = (every k w ys, refl)
every_first zero w (x ∷ xs) ys = let p = every_first (w - 1) w xs ys in (p.0, ap (λ zs. x ∷ zs) p.1)
every_first (suc k) w (x ∷ xs) ys = every_first k w xs ys

-- lanes that begin with two lists, one after the other, begin with the first
pub begun_before : {T : Type 0} (w : ℕ) (xs ys : List T) (ls : List (History T)) →
    IsBegun w (xs ++ ys) ls → IsBegun w xs ls
begun_before w xs ys ls b = record {
  lanes = b.lanes;
  begins = λ j d lt. let p = every_first j w xs ys in let q = b.begins j d lt in
      (p.0 ++ q.0, sym (append_assoc (every j w xs) p.0 q.0) ∙ ap (λ zs. zs ++ q.0) p.1 ∙ q.1);
}

-- a lane where there is none
pub no_history : {T : Type 0} → History T
no_history = record { name = (null_ptr, (null_ptr, (0, (0, 0)))); items = []; marked = false }

-- Replies and blocks.

-- the replies that came are those to the blocks that were sent
abbrev pub Matched : List Step → Result (History Numbered) NotEnded → History Reply → Type 0
Matched steps closing replies = IsOkAnd closing (λ e.
    (cause : Option Cause) × Answers steps e.items replies.items cause)

module _ (steps : List Step) where
  -- the replies to the blocks
  abbrev pub answered : List Numbered → List Done
  answered blocks = map (done_of steps) blocks

  -- the first replies, if none is a stop, are those to the first blocks
  answers_first : (ds : List Done) (bs : List Numbered) (rs : List Reply) (cause : Option Cause) →
      IsPrefix (map done ds) rs → Answers steps bs rs cause → IsPrefix ds (answered bs)
  answers_first [] bs rs cause p h = (answered bs, refl)
  answers_first (d ∷ ds) (b ∷ bs) (done x ∷ rs) cause p h =
      let q : done d ∷ (map done ds ++ p.0) ≡ done x ∷ rs = p.1 in
      let same : d ≡ x = cc in
      let tail : map done ds ++ p.0 ≡ rs = cc in
      let rest = answers_first ds bs rs cause (p.0, tail) h.1 in (
        rest.0,
        ap (λ y. y ∷ (ds ++ rest.0)) (same ∙ h.0) ∙ ap (λ ys. done_of steps b ∷ ys) rest.1,
      )
  answers_first (d ∷ ds) (b ∷ bs) (Stop why ∷ rs) cause p h = grind (arith, common_steps)
  answers_first (d ∷ ds) [] [] cause p h = let q = p.1 in cc
  answers_first (d ∷ ds) _ _ cause p h = absurd h

  -- if no reply is a stop, each block has its reply
  answers_all : (ds : List Done) (bs : List Numbered) (rs : List Reply) (cause : Option Cause) →
      rs ≡ map done ds → Answers steps bs rs cause → answered bs ≡ ds
  answers_all [] [] rs cause e h = refl
  answers_all (d ∷ ds) (b ∷ bs) (done x ∷ rs) cause e h =
      let same : x ≡ d = cc in
      let tail : rs ≡ map done ds = cc in
      ap (λ y. y ∷ answered bs) (sym h.0 ∙ same)
      ∙ ap (λ ys. d ∷ ys) (answers_all ds bs rs cause tail h.1)
  answers_all (d ∷ ds) (b ∷ bs) (Stop why ∷ rs) cause e h = cc
  answers_all [] (b ∷ bs) (r ∷ rs) cause e h = cc
  answers_all (d ∷ ds) [] [] cause e h = cc
  answers_all _ _ _ cause e h = absurd h

  matched_one : (t : History Numbered) (c : Result (History Numbered) NotEnded)
      (f : History Reply) → Closed t c → Matched steps c f →
      (cause : Option Cause) × Answers steps t.items f.items cause
  matched_one t (Ok e) f h m = grind (arith, common_steps)
  matched_one t (Err e) f h m = absurd m

  matched_at : (ts : List (History Numbered)) (cs : List (Result (History Numbered) NotEnded))
      (fs : List (History Reply)) → AllZip Closed ts cs → AllZip (Matched steps) cs fs → (j : ℕ)
      (d : History Numbered) (e : History Reply) → j < length fs →
      (cause : Option Cause) × Answers steps (get_or ts j d).items (get_or fs j e).items cause
  matched_at (t ∷ ts) (c ∷ cs) (f ∷ fs) h m zero d e lt = matched_one t c f h.0 m.0
  matched_at (t ∷ ts) (c ∷ cs) (f ∷ fs) h m (suc j) d e lt =
      matched_at ts cs fs h.1 m.1 j d e (omega arith)
  matched_at ts cs [] h m j d e lt = absurd (omega arith)
  matched_at ts [] (f ∷ fs) h m j d e lt = absurd m
  matched_at [] (c ∷ cs) (f ∷ fs) h m j d e lt = absurd h

  module _ (w : ℕ) (bs : List Numbered) (ts : List (History Numbered))
      (cs : List (Result (History Numbered) NotEnded)) (fs : List (History Reply))
      (dealt : IsDealt w bs ts) (closed : AllZip Closed ts cs)
      (matched : AllZip (Matched steps) cs fs) (some : 0 < w) where
    -- the replies of lane j are those to the blocks that were dealt to it
    replied : length fs ≡ w → (j : ℕ) → j < w →
        (cause : Option Cause) × Answers steps (every j w bs) (get_or fs j no_history).items cause
    replied lanes j lt =
        let m = matched_at ts cs fs closed matched j no_history no_history
        (omega (arith, lanes)) in (m.0, rw (dealt.items j no_history lt) at m.1)

    first_at : (ds : List Done) → length fs ≡ w → (j : ℕ) → j < w →
        IsPrefix (every j w (map done ds)) (get_or fs j no_history).items →
        IsPrefix (every j w ds) (every j w (answered bs))
    first_at ds lanes j lt begins =
        let r = replied lanes j lt in
        rw (every-map (done_of steps) j w bs) (answers_first (every j w ds) (every j w bs)
        (get_or fs j no_history).items r.0 (rw (every-map done j w ds) at begins) r.1)

    -- what was written in turn are the replies to the first blocks
    pub begun_first : (ds : List Done) → IsBegun w (map done ds) fs → IsPrefix ds (answered bs)
    begun_first ds b = prefix_from_turns ds (answered bs) w some
        (λ j lt. first_at ds b.lanes j lt (b.begins j no_history lt))

    -- and, if a lane had no more, the replies to all blocks
    pub at_mark_all : (ds : List Done) → IsAtMark w (map done ds) fs → ds ≡ answered bs
    at_mark_all ds k =
        let turn = mod_below (length ds) w some in
        let r = replied k.lanes (length ds % w) turn in
        let ends = rw (length-map ds done) at (k.ends no_history) in
        whole_from_turns ds (answered bs) w some
        (λ j lt. first_at ds k.lanes j lt (k.begins j no_history lt))
        (every-map (done_of steps) (length ds % w) w bs
        ∙ answers_all (every (length ds % w) w ds) (every (length ds % w) w bs)
        (get_or fs (length ds % w) no_history).items r.0 (ends
        ∙ every-map done (length ds % w) w ds) r.1)

-- The new lanes of the workers, and what the workers hand back.

dealt_none : {T : Type 0} → IsDealt {T = T} 0 [] []
dealt_none = record { lanes = refl; items = λ j d lt. absurd (omega arith) }

-- nothing is dealt to new lanes, and there are as many lanes to the workers as from them
laid_dealt : (tallied : Bool) (ts : List (History Numbered)) (es : List WorkEnds)
    (fs : List (History Reply)) →
    Each3 (Laid tallied) ts es fs → IsDealt (length ts) [] ts × IsDealt (length ts) [] fs
laid_dealt tallied [] [] [] h = (dealt_none, dealt_none)
laid_dealt tallied (t ∷ ts) (e ∷ es) (f ∷ fs) h =
    grind (arith, common_steps, laid_dealt tallied ts es fs h.1)
laid_dealt tallied _ _ _ h = absurd h

-- there are as many new lanes to the workers as from them
pub laid_length : (tallied : Bool) (ts : List (History Numbered)) (es : List WorkEnds)
    (fs : List (History Reply)) → Each3 (Laid tallied) ts es fs → length ts ≡ length fs
laid_length tallied ts es fs h =
    let replies = (laid_dealt tallied ts es fs h).1 in sym replies.lanes

-- nothing was dealt yet to the new lanes of w workers
pub to_dealt : (tallied : Bool) (w : ℕ) (ts : List (History Numbered)) (es : List WorkEnds)
    (fs : List (History Reply)) → length ts ≡ w → Each3 (Laid tallied) ts es fs → IsDealt w [] ts
to_dealt tallied w ts es fs len h = rw len at (laid_dealt tallied ts es fs h).0

-- nothing came yet through the new lanes from w workers
pub replies_dealt : (tallied : Bool) (w : ℕ) (ts : List (History Numbered)) (es : List WorkEnds)
    (fs : List (History Reply)) → length fs ≡ w → Each3 (Laid tallied) ts es fs → IsDealt w [] fs
replies_dealt tallied w ts es fs len h =
    rw (laid_length tallied ts es fs h ∙ len) at (laid_dealt tallied ts es fs h).1

-- After the joins.

module _ (tallied : Bool) (steps : List Step) (holds : Bool) where
  -- what a worker on the lanes n and m hands back
  pub record Answered (n m : Name) (w : Worked) : Type 0 where
    -- its blocks came through lane n
    pub name : w.rx.name ≡ n
    -- that lane was taken to its mark
    pub closed : w.rx.marked ≡ true
    -- what it sent through lane m, if the lane has ended, answers these blocks
    pub answers : IfOk w.closing (λ e. (e.name ≡ m) × Answers steps w.rx.items e.items w.cause)
    -- if it stopped at the gate, the gate may hold back a block
    pub gate : w.cause ≡ Some Gate → IsTrue holds
    -- if it answered all of them, it counted their pairs
    pub counted : w.cause ≡ None → w.tally ≡ tally_if tallied steps (pairs_of w.rx.items)

  answered_one : (t : History Numbered) (e : WorkEnds) (f : History Reply)
      (h : PromisedHandle Worked Job) (w : Worked) → Laid tallied t e f → Seated steps holds e h →
      Joined h w → Answered t.name f.name w
  answered_one t e f h w l s joined = grind (arith, common_steps)

  -- each worker that was joined has answered the blocks that came through its lane
  pub all_answered : (ts : List (History Numbered)) (es : List WorkEnds) (fs : List (History Reply))
      (hs : List (PromisedHandle Worked Job)) (ws : List Worked) →
      Each3 (Laid tallied) ts es fs → AllZip (Seated steps holds) es hs → AllZip Joined hs ws →
      Each3 Answered (names_of ts) (names_of fs) ws
  all_answered [] [] [] [] [] l s j = tt
  all_answered (t ∷ ts) (e ∷ es) (f ∷ fs) (h ∷ hs) (w ∷ ws) l s j =
      (answered_one t e f h w l.0 s.0 j.0, all_answered ts es fs hs ws l.1 s.1 j.1)
  all_answered _ _ _ _ _ l s j = grind arith

  can_confirm_one : (t : History Numbered) (c : Result (History Numbered) NotEnded) (w : Worked)
      (f : History Reply) → Closed t c → Answered t.name f.name w → f.marked ≡ true →
      CanConfirm c w f
  can_confirm_one t c w f h a m = grind (arith, common_steps)

  -- if all lanes are closed and were taken to their marks, they can be confirmed
  pub can_confirm : (ts : List (History Numbered)) (cs : List (Result (History Numbered) NotEnded))
      (ws : List Worked) (fs : List (History Reply)) → AllZip Closed ts cs →
      Each3 Answered (names_of ts) (names_of fs) ws → AllClosed fs → Each3 CanConfirm cs ws fs
  can_confirm [] [] [] [] h a m = tt
  can_confirm (t ∷ ts) (c ∷ cs) (w ∷ ws) (f ∷ fs) h a m = (
    can_confirm_one t c w f h.0 a.0 (m 0 f (omega arith)),
    can_confirm ts cs ws fs h.1 a.1 (λ j d lt. m (suc j) d (omega arith)),
  )
  can_confirm _ _ _ _ h a m = grind arith

  -- After the lanes are confirmed.

  came_as : (bs : List Numbered) (cause : Option Cause) (m : Name) (f : History Reply)
      (replied : Result (History Reply) NotEnded) →
      IfOk replied (λ e. (e.name ≡ m) × Answers steps bs e.items cause) →
      IsOkAnd replied (λ e. f ≡ e) → Answers steps bs f.items cause
  came_as bs cause m f (Ok e) a same = rw same a.1
  came_as bs cause m f (Err e) a same = absurd same

  -- the replies that came through a confirmed lane answer the blocks that the worker took
  pub answers_came : (n m : Name) (c : Result (History Numbered) NotEnded) (w : Worked)
      (f : History Reply) → Answered n m w → Confirmed c w f →
      Answers steps w.rx.items f.items w.cause
  answers_came n m c w f a k = came_as w.rx.items w.cause m f w.closing a.answers k.1

  -- on confirmed lanes the replies that came are those to the blocks that were sent
  pub matched : (ns ms : List Name) (cs : List (Result (History Numbered) NotEnded))
      (ws : List Worked) (fs : List (History Reply)) → Each3 Answered ns ms ws →
      Each3 Confirmed cs ws fs → AllZip (Matched steps) cs fs
  matched [] [] [] [] [] a k = tt
  matched (n ∷ ns) (m ∷ ms) (c ∷ cs) (w ∷ ws) (f ∷ fs) a k =
      grind (arith, common_steps, matched ns ms cs ws fs a.1 k.1)
  matched (n ∷ ns) (m ∷ ms) _ [] _ a k = absurd a
  matched _ _ _ _ _ a k = grind arith

  -- if a reply is a stop at the gate, so the worker stopped
  stopped_so : (bs : List Numbered) (rs : List Reply) (cause : Option Cause) →
      Answers steps bs rs cause → list_any (is_stop Gate) rs ≡ true → cause ≡ Some Gate
  stopped_so bs [] cause a came = absurd cc
  stopped_so [] (r ∷ rs) cause a came = absurd a
  stopped_so (b ∷ bs) (done d ∷ rs) cause a came = stopped_so bs rs cause a.1 came
  stopped_so (b ∷ bs) (Stop Gate ∷ rs) cause a came = a.1
  stopped_so (b ∷ bs) (Stop (Memory refused) ∷ rs) cause a came = grind (arith, common_steps)

  shut_first : (n m : Name) (c : Result (History Numbered) NotEnded) (w : Worked)
      (f : History Reply) → Answered n m w → Confirmed c w f → (stopped others : Bool) →
      list_any (is_stop Gate) f.items ≡ stopped →
      (others ≡ true → IsTrue holds) → (stopped || others) ≡ true → IsTrue holds
  shut_first n m c w f a k true others is rest came =
      a.gate (stopped_so w.rx.items f.items w.cause (answers_came n m c w f a k) is)
  shut_first n m c w f a k false others is rest came = rest came

  -- if a stop at the gate came through a confirmed lane, the gate may hold back a block
  pub shut : (ns ms : List Name) (cs : List (Result (History Numbered) NotEnded))
      (ws : List Worked) (fs : List (History Reply)) → Each3 Answered ns ms ws →
      Each3 Confirmed cs ws fs → has_come Gate fs ≡ true → IsTrue holds
  shut ns ms cs ws [] a k came = absurd cc
  shut (n ∷ ns) (m ∷ ms) (c ∷ cs) (w ∷ ws) (f ∷ fs) a k came =
      shut_first n m c w f a.0 k.0 (list_any (is_stop Gate) f.items) (has_come Gate fs) refl
      (λ others. shut ns ms cs ws fs a.1 k.1 others) came
  shut _ _ [] [] _ a k came = absurd k
  shut [] [] _ (w ∷ ws) _ a k came = absurd a
  shut _ _ _ _ _ a k came = grind arith
