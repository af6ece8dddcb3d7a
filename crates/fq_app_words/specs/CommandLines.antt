-- What usual command lines ask for, in words of their own.
use Rattle.std.specs.Prelude.{◌≡◌, ◌≢◌, ℕ, ◌≤◌, true, false, decimal}
use Rattle.std.specs.Prelude.{Some, None, List, [], ◌∷◌, ◌++◌, codes, length, map, flat_map}
use Rattle.std.specs.List.{All, IsDistinct}
use Rattle.std.specs.Str.{bytes_eq}
use Rattle.clap.specs.Words.{Text}
use Rattle.fq_text.specs.Grammar.{begins_with}
use Rattle.fq_app_words.specs.Requests.{Asking, InputNames, two_files, interleaved_file}
use Rattle.fq_app_words.specs.Words.{most, AskedFor}

abbrev pub hyphen : ℕ
hyphen = 45

-- the word doesn't begin with a hyphen, as options do
abbrev pub IsPlain : Text → Type 0
IsPlain word = begins_with hyphen word ≡ false

-- An option, with its value if it takes one.
pub data Choice : Type 0 where
  threads : ℕ → Choice
  block : ℕ → Choice
  depth : ℕ → Choice
  chunk : ℕ → Choice
  encoding : Text → Choice
  trimlog : Text → Choice
  no_name_check : Choice
  sync : Choice
  report : Text → Choice
  explain : Choice

abbrev pub name_of : Choice → Text
name_of (threads n) = codes "threads"
name_of (block n) = codes "block"
name_of (depth n) = codes "depth"
name_of (chunk n) = codes "chunk"
name_of (encoding name) = codes "encoding"
name_of (trimlog file) = codes "trimlog"
name_of no_name_check = codes "no-name-check"
name_of sync = codes "sync"
name_of (report file) = codes "report"
name_of explain = codes "explain"

-- the value, as a word of its own
abbrev pub value_of : Choice → List Text
value_of (threads n) = decimal n ∷ []
value_of (block n) = decimal n ∷ []
value_of (depth n) = decimal n ∷ []
value_of (chunk n) = decimal n ∷ []
value_of (encoding name) = name ∷ []
value_of (trimlog file) = file ∷ []
value_of (report file) = file ∷ []
value_of _ = []

-- the words of an option: its name after two hyphens, and its value
abbrev pub option_words : Choice → List Text
option_words choice = (hyphen ∷ hyphen ∷ name_of choice) ∷ value_of choice

-- a number has 64 bits, and a text is plain
abbrev pub IsUsual : Choice → Type 0
IsUsual (threads n) = n ≤ most
IsUsual (block n) = n ≤ most
IsUsual (depth n) = n ≤ most
IsUsual (chunk n) = n ≤ most
IsUsual (encoding name) = IsPlain name
IsUsual (trimlog file) = IsPlain file
IsUsual (report file) = IsPlain file
IsUsual _ = Unit {0}

-- Options with usual values, in any order, none of which is given twice.
pub record AreUsual (choices : List Choice) : Type 0 where
  pub usual : All IsUsual choices
  pub once : IsDistinct bytes_eq (map name_of choices)

-- what is asked for with this option too
abbrev pub with_choice : Choice → Asking → Asking
with_choice (threads n) a = record a { threads = n }
with_choice (block n) a = record a { block = n }
with_choice (depth n) a = record a { depth = n }
with_choice (chunk n) a = record a { chunk = n }
with_choice (encoding name) a = record a { encoding = name }
with_choice (trimlog file) a = record a { log = Some file }
with_choice no_name_check a = record a { check_names = false }
with_choice sync a = record a { sync = true }
with_choice (report file) a = record a { report = Some file }
with_choice explain a = record a { explain = true }

abbrev pub with_choices : List Choice → Asking → Asking
with_choices [] a = a
with_choices (choice ∷ choices) a = with_choice choice (with_choices choices a)

-- The names of the output files, in the order of the command line.
pub record OutputNames : Type 0 where
  pub forward_paired : Text
  pub forward_unpaired : Text
  pub reverse_paired : Text
  pub reverse_unpaired : Text

abbrev pub output_words : OutputNames → List Text
output_words names = names.forward_paired ∷ names.forward_unpaired
    ∷ names.reverse_paired ∷ names.reverse_unpaired ∷ []

-- what is asked for without options
abbrev pub asking_with : InputNames → OutputNames → List Text → Asking
asking_with inputs names steps = record {
  encoding = codes "sanger";
  threads = 4;
  block = 1024;
  depth = 4;
  chunk = 65536;
  check_names = true;
  sync = false;
  explain = false;
  inputs = inputs;
  forward_paired = names.forward_paired;
  forward_unpaired = names.forward_unpaired;
  reverse_paired = names.reverse_paired;
  reverse_unpaired = names.reverse_unpaired;
  log = None;
  report = None;
  steps = steps;
}

-- One step or more, and no more than 64 bits can count.
pub record AreSteps (steps : List Text) : Type 0 where
  pub some : steps ≢ []
  pub fit : length steps ≤ most

-- After this command, usual options, these input files, four output files and some steps, all
-- plain, ask for these inputs, and for what the options, outputs and steps say.
abbrev pub AsksFor : Text → List Text → InputNames → Type 0
AsksFor command files inputs = (program : Text) (choices : List Choice) (names : OutputNames)
    (steps : List Text) → AreUsual choices → AreSteps steps →
    All IsPlain (files ++ (output_words names ++ steps)) →
    AskedFor (program ∷ command
    ∷ (flat_map option_words choices ++ (files ++ (output_words names ++ steps))))
    (Some (with_choices choices (asking_with inputs names steps)))

-- `PE [options] F R FP FU RP RU STEPS..`
abbrev pub PairsAreAskedFor : Type 0
PairsAreAskedFor = (forward reverse : Text) →
    AsksFor (codes "PE") (forward ∷ reverse ∷ []) (two_files forward reverse)

-- `IL [options] I FP FU RP RU STEPS..`
abbrev pub InterleavedPairsAreAskedFor : Type 0
InterleavedPairsAreAskedFor = (both : Text) →
    AsksFor (codes "IL") (both ∷ []) (interleaved_file both)
