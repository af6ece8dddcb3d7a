-- Replies to some blocks and one more, and histories with more items.
use Rattle.std.proofs.Common.{arith, ◌≡◌, Bool, List, [], ◌∷◌, ◌++◌, refl, sym, ap, ◌∙◌, append_assoc, Option, Some, None}
use Rattle.std.proofs.lemmas.List.{append-nil}
use Rattle.std.proofs.lemmas.Grind.{common_steps}
use Rattle.fq_trim.specs.declared.step.Step.{Step}
use Rattle.fq_lane.specs.History.{History, with_item}
use Rattle.fq_block.specs.Blocks.{Numbered}
use Rattle.fq_pair.specs.Mates.{Mates}
use Rattle.fq_report_pairs.specs.declared.done.Done.{Done}
use Rattle.fq_report_pairs.specs.declared.tally.Tally.{Tally}
use Rattle.fq_report_pairs.specs.Results.{tally_with}
use Rattle.fq_work.specs.declared.reply.Cause.{Cause}
use Rattle.fq_work.specs.declared.reply.Reply.{Reply}
use Rattle.fq_work.specs.declared.reply.Reply.TheVariants.{Done as done, Stop}
use Rattle.fq_work.specs.Replies.{done_of, Answers}
use Rattle.fq_work.specs.Work.{pairs_of, with_items}

module _ (steps : List Step) where
  -- with one more block, which is done
  pub answers_done : (bs : List Numbered) (rs : List Reply) (b : Numbered) (d : Done) →
      d ≡ done_of steps b → Answers steps bs rs None →
      Answers steps (bs ++ b ∷ []) (rs ++ done d ∷ []) None
  answers_done [] [] b d e h = (e, tt)
  answers_done [] (r ∷ rs) b d e h = absurd h
  answers_done (a ∷ bs) [] b d e h = absurd h
  answers_done (a ∷ bs) (done x ∷ rs) b d e h = (h.0, answers_done bs rs b d e h.1)
  answers_done (a ∷ bs) (Stop c ∷ rs) b d e h = cc

  -- with one more block, which is refused
  pub answers_stop : (bs : List Numbered) (rs : List Reply) (b : Numbered) (c : Cause) →
      Answers steps bs rs None → Answers steps (bs ++ b ∷ []) (rs ++ Stop c ∷ [])
      (Some c)
  answers_stop [] [] b c h = (refl, refl)
  answers_stop [] (r ∷ rs) b c h = absurd h
  answers_stop (a ∷ bs) [] b c h = absurd h
  answers_stop (a ∷ bs) (done x ∷ rs) b c h = (h.0, answers_stop bs rs b c h.1)
  answers_stop (a ∷ bs) (Stop k ∷ rs) b c h = cc

  -- after a Stop, a block gets no reply
  pub answers_more : (bs : List Numbered) (rs : List Reply) (b : Numbered) (c : Cause) →
      Answers steps bs rs (Some c) → Answers steps (bs ++ b ∷ []) rs (Some c)
  answers_more [] [] b c h = absurd h
  answers_more [] (r ∷ rs) b c h = absurd h
  answers_more (a ∷ bs) [] b c h = absurd h
  answers_more (a ∷ bs) (done x ∷ rs) b c h = (h.0, answers_more bs rs b c h.1)
  answers_more (a ∷ bs) (Stop k ∷ rs) b c h = h

module _ {T : Type 0} where
  -- a history with no more items is the same
  pub with_none : (l : History T) → l ≡ with_items l [] l.marked
  with_none l =
      grind (arith, common_steps)

  -- one item after some
  pub with_more : (l k n : History T) (xs : List T) (x : T) (m : Bool) → k ≡ with_items l xs m →
      n ≡ with_item k x → n ≡ with_items l (xs ++ x ∷ []) m
  with_more l k n xs x m e f =
      grind (arith, common_steps, append_assoc)

-- the pairs of some blocks, and of others
pub pairs_of-append : (bs ds : List Numbered) → pairs_of (bs ++ ds) ≡ pairs_of bs ++ pairs_of ds
pairs_of-append [] ds = refl
pairs_of-append (b ∷ bs) ds = ap (λ (ms : List Mates). b.pairs ++ ms) (pairs_of-append bs ds)
    ∙ sym (append_assoc b.pairs (pairs_of bs) (pairs_of ds))

-- a tally with the pairs of some blocks, and of one more
pub tally_more : (steps : List Step) (t u v : Option Tally) (bs : List Numbered) (b : Numbered) →
    u ≡ tally_with steps t (pairs_of bs) → v ≡ tally_with steps u b.pairs →
    v ≡ tally_with steps t (pairs_of (bs ++ b ∷ []))
tally_more steps t u v bs b was is =
    grind (arith, common_steps, pairs_of-append, append-nil)
