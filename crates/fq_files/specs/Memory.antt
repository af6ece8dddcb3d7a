-- What files in memory hold.
use Rattle.std.specs.Prelude.{ℕ, ◌==◌, ◌||◌, Bool, true, false, Option, List}
use Rattle.std.specs.Option.{option_map}
use Rattle.std.specs.BTreeMap.{get_by_text}
use Rattle.std.specs.BTreeSet.{contains_text}
use Rattle.fq_text.specs.declared.seen.SystemError.{SystemError}
use Rattle.fq_files.specs.States.{FilesState}
use Rattle.fq_files.specs.declared.memory.MemoryFiles.{MemoryFiles}

-- the bytes of a name
abbrev pub bytes_in : MemoryFiles → List ℕ → Option (List ℕ)
bytes_in files name = option_map (λ bytes. bytes.items) (get_by_text files.held name)

-- there is no such file, a read call failed, or there is no memory to write to
abbrev pub is_memory_error : SystemError → Bool
is_memory_error error = (error.number == 2) || ((error.number == 5) || (error.number == 12))

-- Each name is a file of its own, and its key. A failure counts for every file, and so does a
-- target that was not flushed.
abbrev pub state_of : MemoryFiles → FilesState
state_of files = record {
  leads = λ name. name;
  tells = λ name. true;
  looks = true;
  bytes = bytes_in files;
  refuses = λ name cause. false;
  may_say = λ name error. is_memory_error error;
  writes = λ number name. true;
  is_open = λ name. contains_text files.inputs name;
  has_failed = λ name. files.has_failed;
  is_unflushed = λ name. files.has_unflushed;
}
