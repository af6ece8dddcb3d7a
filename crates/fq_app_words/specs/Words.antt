-- What a command line asks for: the commands of the program, as `clap` parses them, and what it
-- finds in the arguments.
use Rattle.std.specs.Prelude.{◌≡◌, ℕ, Bool, true, false, not, Option, Some, None, List, [], ◌∷◌, codes, unwrap_or, if◌then◌else◌}
use Rattle.std.specs.Option.{option_map}
use Rattle.std.specs.Str.{bytes_eq}
use Rattle.std.specs.Str.Parse.{digits_value, without_leading_plus}
use Rattle.clap.specs.Lexer.{usize_max}
use Rattle.clap.specs.ValueTests.{is_unsigned_in}
use Rattle.clap.specs.Words.{App, Row, Rule, Text, all_of, fault_of, first_of, new_app, new_rule, one_of, rule_of, app_of, subcommand_of, with_rule}
use Rattle.clap.specs.Simple.{new_shape}
use Rattle.clap.specs.Kinds.{Kinds}
use Rattle.clap.specs.declared.builder.action.ArgAction.TheVariants.{SetTrue}
use Rattle.clap.specs.declared.builder.value_parser.ValueParser.TheVariants as parser
use Rattle.clap.specs.declared.builder.arg.Arg.{Arg}
use Rattle.clap.specs.declared.builder.command.Command.{Command}
use Rattle.clap.specs.declared.builder.command.Command.TheViews.{out-Command as fields_of}
use Rattle.fq_app_words.specs.Requests.{Asking, InputNames, two_files, interleaved_file, asking_of}
use Rattle.fq_app_words.specs.declared.words.Asked.{Asked}
use Rattle.fq_app_words.specs.declared.words.Asked.TheVariants.{Example, Pairs}

-- The commands.

-- a required argument that names a file
abbrev pub file_rule : Text → Rule
file_rule id = record (new_rule id) { required = true }

-- an option with a value
abbrev pub option_rule : Text → Rule
option_rule id = record (new_rule id) { long = Some id; value_names = 1 }

-- an option with a value, and its default
abbrev pub default_rule : Text → Text → Rule
default_rule id value = record (option_rule id) { defaults = value ∷ [] }

-- the largest number of 64 bits
abbrev pub most : ℕ
most = 18446744073709551615

-- an option that takes a number, with its default
abbrev pub number_rule : Text → Text → Rule
number_rule id value = record (default_rule id value) { parser = Some (parser.Unsigned 0 most) }

-- a flag
abbrev pub flag_rule : Text → Rule
flag_rule id = record (new_rule id) { long = Some id; action = Some SetTrue }

-- the steps: any number of arguments
abbrev pub steps_rule : Text → Rule
steps_rule id = record (new_rule id) {
  range = Some (record { start_inclusive = 0; end_inclusive = usize_max });
}

abbrev pub option_rules : List Rule
option_rules = number_rule (codes "threads") (codes "4")
    ∷ number_rule (codes "block") (codes "1024")
    ∷ number_rule (codes "depth") (codes "4")
    ∷ number_rule (codes "chunk") (codes "65536")
    ∷ default_rule (codes "encoding") (codes "sanger")
    ∷ option_rule (codes "trimlog")
    ∷ flag_rule (codes "no-name-check")
    ∷ flag_rule (codes "sync")
    ∷ option_rule (codes "report")
    ∷ flag_rule (codes "explain") ∷ []

-- the output files and the steps
abbrev pub output_rules : List Rule
output_rules = file_rule (codes "FP") ∷ file_rule (codes "FU") ∷ file_rule (codes "RP")
    ∷ file_rule (codes "RU")
    ∷ steps_rule (codes "STEPS") ∷ []

-- a command with these arguments added, in this order
abbrev pub with_rules : App → List Rule → App
with_rules app [] = app
with_rules app (rule ∷ rules) = with_rules (with_rule app rule) rules

-- a command that trims the pairs of these inputs
abbrev pub trimming_app : Text → List Rule → App
trimming_app name inputs =
    with_rules (with_rules (with_rules (new_app name) option_rules) inputs) output_rules

-- `PE [options] F R FP FU RP RU [STEPS]..`
unfoldable pub pairs_app : App
pairs_app = trimming_app (codes "PE") (file_rule (codes "F") ∷ file_rule (codes "R") ∷ [])

-- `IL [options] I FP FU RP RU [STEPS]..`
unfoldable pub interleaved_app : App
interleaved_app = trimming_app (codes "IL") (file_rule (codes "I") ∷ [])

-- `PE`, `IL` and `EXAMPLE`, one of which must be given
unfoldable pub program_app : App
program_app = record {
  top = record (new_shape (codes "fq_prog")) {
    is_leaf = false;
    subcommand_required = true;
    has_version = true;
    propagate_version = true;
  };
  subs = pairs_app.top ∷ interleaved_app.top ∷ new_shape (codes "EXAMPLE") ∷ [];
}

-- the argument has this rule, and is not global
pub record IsArg (rule : Rule) (arg : Arg) : Type 0 where
  pub rule_is : rule_of arg ≡ rule
  pub local : arg.global ≡ false

-- the arguments have these rules, in this order
abbrev pub AreArgs : List Rule → List Arg → Type 0
AreArgs [] [] = Unit {0}
AreArgs (rule ∷ rules) (arg ∷ args) = IsArg rule arg × AreArgs rules args
AreArgs [] (arg ∷ args) = ⊥
AreArgs (rule ∷ rules) [] = ⊥

-- the command is this one, and none of its arguments is global
pub record IsCommand (app : App) (command : Command) : Type 0 where
  pub app_is : app_of command ≡ app
  pub local : (fields_of command).has_globals ≡ false

-- What the arguments hold.

-- the value of an argument
abbrev pub text_in : List Row → Text → Text
text_in rows id = unwrap_or (first_of id rows) []

-- the number that a text writes, or 0 if it is not a number of 64 bits, which `clap` refuses
abbrev pub number_of : Text → ℕ
number_of text =
    if is_unsigned_in 0 most text then digits_value 10 (without_leading_plus text) else 0

abbrev pub number_in : List Row → Text → ℕ
number_in rows id = number_of (unwrap_or (one_of id rows) [])

-- the flag is given
abbrev pub flag_in : List Row → Text → Bool
flag_in rows id = bytes_eq (unwrap_or (one_of id rows) []) (codes "true")

-- the inputs of the command with this name, if it trims
abbrev pub inputs_in : Text → List Row → Option InputNames
inputs_in name rows =
    if bytes_eq name (codes "PE")
    then Some (two_files (text_in rows (codes "F")) (text_in rows (codes "R")))
    else (if bytes_eq name (codes "IL") then Some (interleaved_file (text_in rows (codes "I")))
    else None)

-- what the arguments ask to trim, with these inputs
unfoldable pub asking_in : InputNames → List Row → Asking
asking_in inputs rows = record {
  encoding = text_in rows (codes "encoding");
  threads = number_in rows (codes "threads");
  block = number_in rows (codes "block");
  depth = number_in rows (codes "depth");
  chunk = number_in rows (codes "chunk");
  check_names = not (flag_in rows (codes "no-name-check"));
  sync = flag_in rows (codes "sync");
  explain = flag_in rows (codes "explain");
  inputs = inputs;
  forward_paired = text_in rows (codes "FP");
  forward_unpaired = text_in rows (codes "FU");
  reverse_paired = text_in rows (codes "RP");
  reverse_unpaired = text_in rows (codes "RU");
  log = first_of (codes "trimlog") rows;
  report = first_of (codes "report") rows;
  steps = unwrap_or (all_of (codes "STEPS") rows) [];
}

-- what the command with this name asks to trim, if it trims
abbrev pub asked_of : Text → List Row → Option Asking
asked_of name rows = option_map (λ inputs. asking_in inputs rows) (inputs_in name rows)

abbrev pub asked_in : Option (Text × List Row) → Option Asking
asked_in (Some found) = asked_of found.0 found.1
asked_in None = None

-- what the command line asks to trim, if it names `PE` or `IL`
unfoldable pub pairs_asked : List Text → Option Asking
pairs_asked words = asked_in (subcommand_of program_app words)

-- why the command line does not parse: the kinds of its first fault, help and the version among
-- them, or none if it parses
unfoldable pub words_fault : List Text → Kinds
words_fault words = fault_of program_app words

-- the command line parses, and asks to trim this, or not to trim
pub record AskedFor (words : List Text) (asking : Option Asking) : Type 0 where
  pub parse : words_fault words ≡ []
  pub ask : pairs_asked words ≡ asking

abbrev pub asked_pairs : Asked → Option Asking
asked_pairs Example = None
asked_pairs (Pairs request) = Some (asking_of request)
