-- What a call of a source of pairs returns, in terms of the source's state.
use Rattle.std.proofs.Common.{arith, ◌≡◌, ◌+◌, Bool, true, false, Option, None, Result, Ok, Err, IfErr}
use Rattle.std.specs.Option.{IfSome, IsSomeAnd}
use Rattle.std.proofs.lemmas.Grind.{common_steps}
use Rattle.fq_text.specs.Devices.{FeedState}
use Rattle.fq_pair.specs.declared.side.Side.TheVariants.{Forward, Reverse}
use Rattle.fq_pair.specs.declared.fault.InputFault.{InputFault}
use Rattle.fq_pair.specs.PairSources.{PairSourced, KeepsCounts, GivesPair, EndsPairs, StopsPairs, failed_on}
use Rattle.fq_pair.specs.Mates.{Mates}
use Rattle.fq_pair.specs.InterleavedSources.{InterleavedSourced}
use Rattle.fq_pair.specs.InterleavedSources as interleaved
use Rattle.fq_pair.specs.Walks.{source_state, interleaved_state, KeepsSettings, Advances}
use Rattle.fq_pair.proofs.SideLemmas.{drawn, used}

-- what holds of a value that is there
pub some_and : {A : Type 0} (o : Option A) (P Q : A → Type 0) → ((x : A) → P x → Q x) →
    IsSomeAnd o P → IsSomeAnd o Q
some_and o P Q then held = grind (arith, common_steps)

-- what holds of the current pair, if there is one only after a further pair was returned
pub if_current : (o : Option Mates) (r : Result Bool InputFault) (P Q : Mates → Type 0) →
    ((m : Mates) → P m → Q m) → (r ≡ Ok true → IsSomeAnd o P) → (r ≡ Ok false → o ≡ None) →
    IfErr r (λ why. o ≡ None) → IfSome o Q
if_current o r P Q then found end fault = grind (arith, common_steps)

module _ {F G : Type 0} (state : F → FeedState) (state' : G → FeedState) where
  same_settings : (old new : PairSourced F G) → KeepsCounts state state' old new →
      KeepsSettings (source_state state state' old) (source_state state state' new)
  same_settings old new k = grind (arith, common_steps)

  -- what a source that goes on returns
  pub advances : (old new : PairSourced F G) (r : Result Bool InputFault) →
      (r ≡ Ok true → IsSomeAnd new.current (GivesPair state state' old new)) →
      (r ≡ Ok false → EndsPairs state state' old new) →
      IfErr r (StopsPairs state state' old new) →
      (state new.forward.feed).failures ≡ (state old.forward.feed).failures + failed_on Forward r →
      (state' new.reverse.feed).failures ≡ (state' old.reverse.feed).failures + failed_on Reverse
      r →
      KeepsCounts state state' old new →
      Advances (source_state state state' old) (source_state state state' new) r
  advances old new (Ok true) found end fault ff fr k =
      grind (arith, some_and, same_settings, drawn, used)
  advances old new (Ok false) found end fault ff fr k = grind (arith, common_steps)
  advances old new (Err why) found end fault ff fr k = grind (arith, common_steps)

-- What a source of an interleaved text returns.
module _ {F : Type 0} (state : F → FeedState) where
  same_interleaved : (old new : InterleavedSourced F) → interleaved.KeepsCounts state old new →
      KeepsSettings (interleaved_state state old) (interleaved_state state new)
  same_interleaved old new k = grind (arith, common_steps)

  -- what `advance` of an interleaved text promises, in the words of any source of pairs
  pub advances_interleaved : (old new : InterleavedSourced F) (r : Result Bool InputFault) →
      (r ≡ Ok true → IsSomeAnd new.current (interleaved.GivesPair state old new)) →
      (r ≡ Ok false → interleaved.EndsPairs state old new) →
      IfErr r (interleaved.StopsPairs state old new) →
      (state new.source.feed).failures ≡ (state old.source.feed).failures + interleaved.failed_in
      r →
      interleaved.KeepsCounts state old new →
      Advances (interleaved_state state old) (interleaved_state state new) r
  advances_interleaved old new (Ok true) found end fault failed k =
      grind (arith, common_steps, same_interleaved, drawn, used)
  advances_interleaved old new (Ok false) found end fault failed k = grind (arith, common_steps)
  advances_interleaved old new (Err why) found end fault failed k = grind (arith, common_steps)
