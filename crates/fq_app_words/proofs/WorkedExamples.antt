-- What given command lines ask for.
use Rattle.std.proofs.Common.{◌≡◌, ℕ, Bool, true, false, Option, Some, None, List, [], ◌∷◌, refl, codes}
use Rattle.clap.proofs.OnLiterals.{clap_on_literals}
use Rattle.fq_app_words.specs.Requests.{Asking, InputNames, interleaved_file, two_files}
use Rattle.clap.specs.declared.error.kind.ErrorKind.TheVariants.{DisplayVersion, MissingRequiredArgument, MissingSubcommand}
use Rattle.fq_app_words.specs.Words.{asking_in, interleaved_app, pairs_app, pairs_asked, program_app, words_fault}

-- what is asked with a log and one step; the examples differ in the parameters
asked : ℕ → ℕ → Bool → Bool → Option (List ℕ) → InputNames → Asking
asked threads block check_names sync report inputs = record {
  encoding = codes "sanger";
  threads = threads;
  block = block;
  depth = 4;
  chunk = 65536;
  check_names = check_names;
  sync = sync;
  explain = false;
  inputs = inputs;
  forward_paired = codes "fp";
  forward_unpaired = codes "fu";
  reverse_paired = codes "rp";
  reverse_unpaired = codes "ru";
  log = Some (codes "log");
  report = report;
  steps = codes "LEADING:3" ∷ [];
}

-- `fq IL --trimlog log --no-name-check --sync --report json i fp fu rp ru LEADING:3`
abbrev interleaved_words : List (List ℕ)
interleaved_words = codes "fq" ∷ codes "IL" ∷ codes "--trimlog" ∷ codes "log" ∷ codes
    "--no-name-check" ∷ codes "--sync" ∷ codes "--report" ∷ codes "json"
    ∷ codes "i" ∷ codes "fp" ∷ codes "fu" ∷ codes "rp" ∷ codes "ru" ∷ codes "LEADING:3" ∷ []

interleaved_parses : words_fault interleaved_words ≡ []
unfolding clap_on_literals program_app pairs_app interleaved_app words_fault
interleaved_parses = refl

interleaved_asked : pairs_asked interleaved_words
    ≡ Some (asked 4 1024 false true (Some (codes "json")) (interleaved_file (codes "i")))
unfolding clap_on_literals program_app pairs_app interleaved_app asked pairs_asked asking_in
interleaved_asked = refl

-- options after the steps
abbrev late_words : List (List ℕ)
late_words = codes "fq" ∷ codes "PE" ∷ codes "f" ∷ codes "r" ∷ codes "fp" ∷ codes "fu" ∷ codes
    "rp" ∷ codes "ru" ∷ codes "LEADING:3" ∷ codes "--threads" ∷ codes "2" ∷ codes "MINLEN:2" ∷ []

late_parse : words_fault late_words ≡ []
unfolding clap_on_literals program_app pairs_app interleaved_app words_fault
late_parse = refl

late_asked : pairs_asked late_words
    ≡ Some (record (asked 2 1024 true false None (two_files (codes "f") (codes "r"))) {
      log = None;
      steps = codes "LEADING:3" ∷ codes "MINLEN:2" ∷ [];
    })
unfolding clap_on_literals program_app pairs_app interleaved_app asked pairs_asked asking_in
late_asked = refl

-- too few files
few_words : words_fault (codes "fq" ∷ codes "PE" ∷ codes "f" ∷ []) ≡ MissingRequiredArgument ∷ []
unfolding clap_on_literals program_app pairs_app interleaved_app words_fault
few_words = refl

no_words : words_fault (codes "fq" ∷ []) ≡ MissingSubcommand ∷ []
unfolding clap_on_literals program_app pairs_app interleaved_app words_fault
no_words = refl

-- the version
version_words : words_fault (codes "fq" ∷ codes "--version" ∷ []) ≡ DisplayVersion ∷ []
unfolding clap_on_literals program_app pairs_app interleaved_app words_fault
version_words = refl

pairs_version_words : words_fault (codes "fq" ∷ codes "PE" ∷ codes "--version" ∷ [])
    ≡ DisplayVersion ∷ []
unfolding clap_on_literals program_app pairs_app interleaved_app words_fault
pairs_version_words = refl
