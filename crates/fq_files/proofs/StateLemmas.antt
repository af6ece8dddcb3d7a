-- What calls leave of the files as contracts see them. Each lemma takes the equation by which a
-- call says what it leaves, such as `OnlyWrites`.
use Rattle.std.proofs.Common.{◌≡◌, ◌∙◌, sym, ap, subst}
use Rattle.fq_files.specs.Holding.{IsUnchanged}
use Rattle.fq_files.specs.States.{FilesState, Keys, OnlyFails, OnlyStores, OnlyWrites}

-- a call leaves which bytes are known to the proof: what holds of them holds still
pub told_as : (told : Keys → Type 0) (old new : FilesState) → new ≡ old → told old.tells →
    told new.tells
told_as told old new same known = subst (λ (files : FilesState). told files.tells) (sym same) known

-- and it held before
pub told_before : (told : Keys → Type 0) (old new : FilesState) → new ≡ old → told new.tells →
    told old.tells
told_before told old new same known = subst (λ (files : FilesState). told files.tells) same known

-- a call that leaves the bytes changes no file
pub same_as : (old new : FilesState) → new ≡ old → IsUnchanged old.bytes new.bytes
same_as old new same name = ap (λ (files : FilesState). files.bytes name) same

-- a call that changes only which names have a device that failed is one that only stores
pub store_fail : (old new : FilesState) → OnlyFails old new → OnlyStores old new
store_fail old new kept = kept ∙ ap
    (λ (state : FilesState). record old {
      bytes = state.bytes;
      has_failed = new.has_failed;
      is_unflushed = state.is_unflushed;
    }) (sym kept)

-- two calls that only store
pub then_store : (old mid new : FilesState) → OnlyStores old mid → OnlyStores mid new →
    OnlyStores old new
then_store old mid new one two =
    two ∙ ap (λ (files : FilesState). record files {
      bytes = new.bytes;
      has_failed = new.has_failed;
      is_unflushed = new.is_unflushed;
    }) one

-- two calls that only write
pub then_write : (old mid new : FilesState) → OnlyWrites old mid → OnlyWrites mid new →
    OnlyWrites old new
then_write old mid new one two =
    two ∙ ap (λ (files : FilesState). record files { bytes = new.bytes }) one
