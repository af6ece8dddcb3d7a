-- Requests: what to trim, from which files and into which.
use Rattle.std.specs.Prelude.{ℕ, Bool, false, unwrap_or, ◌||◌, Option, Some, None, List, map, if◌then◌else◌}
use Rattle.std.specs.Option.{option_map}
use Rattle.std.specs.Str.{bytes_eq}
use Rattle.fq_pair.specs.declared.out.Out.{Out}
use Rattle.fq_pair.specs.declared.out.Out.TheVariants.{ForwardPaired, ForwardUnpaired, ReversePaired, ReverseUnpaired, Log}
pub use Rattle.fq_pair.specs.Inputs.{InputNames, two_files, interleaved_file, names_of, input_name}
use Rattle.fq_app_words.specs.declared.request.Request.{Request}

-- What to trim, as the command line gives it.
pub record Asking : Type 0 where
  pub encoding : List ℕ
  pub threads : ℕ
  pub block : ℕ
  pub depth : ℕ
  pub chunk : ℕ
  pub check_names : Bool
  pub sync : Bool
  pub explain : Bool
  pub inputs : InputNames
  pub forward_paired : List ℕ
  pub forward_unpaired : List ℕ
  pub reverse_paired : List ℕ
  pub reverse_unpaired : List ℕ
  pub log : Option (List ℕ)
  pub report : Option (List ℕ)
  pub steps : List (List ℕ)

abbrev pub asking_of : Request → Asking
asking_of r = record {
  encoding = r.encoding.now;
  threads = r.threads;
  block = r.block;
  depth = r.depth;
  chunk = r.chunk;
  check_names = r.check_names;
  sync = r.sync;
  explain = r.explain;
  inputs = names_of r.inputs;
  forward_paired = r.forward_paired.now;
  forward_unpaired = r.forward_unpaired.now;
  reverse_paired = r.reverse_paired.now;
  reverse_unpaired = r.reverse_unpaired.now;
  log = option_map (λ name. name.now) r.log;
  report = option_map (λ name. name.now) r.report;
  steps = map (λ word. word.now) r.steps.items;
}

-- the request, with the key of the file that each name leads to in place of the name
abbrev pub by_file : (List ℕ → List ℕ) → Asking → Asking
by_file leads a = record a {
  inputs = record a.inputs {
    forward = leads a.inputs.forward;
    reverse = leads a.inputs.reverse;
  };
  forward_paired = leads a.forward_paired;
  forward_unpaired = leads a.forward_unpaired;
  reverse_paired = leads a.reverse_paired;
  reverse_unpaired = leads a.reverse_unpaired;
  log = option_map leads a.log;
  report = option_map leads a.report;
}

-- Names.

-- the name of an output, if it is to be written
abbrev pub output_name : Asking → Out → Option (List ℕ)
output_name a ForwardPaired = Some a.forward_paired
output_name a ForwardUnpaired = Some a.forward_unpaired
output_name a ReversePaired = Some a.reverse_paired
output_name a ReverseUnpaired = Some a.reverse_unpaired
output_name a Log = a.log

-- this is the name of an input
abbrev pub is_input : InputNames → List ℕ → Bool
is_input inputs name = bytes_eq name inputs.forward || bytes_eq name inputs.reverse

abbrev pub same_log : Asking → Option (List ℕ) → Option Out
same_log a (Some log) = if is_input a.inputs log then Some Log else None
same_log a None = None

-- the first output that has the name of an input
abbrev pub same_name : Asking → Option Out
same_name a =
    if is_input a.inputs a.forward_paired then Some ForwardPaired
    else (if is_input a.inputs a.forward_unpaired then Some ForwardUnpaired
    else (if is_input a.inputs a.reverse_paired then Some ReversePaired
    else (if is_input a.inputs a.reverse_unpaired then Some ReverseUnpaired
    else same_log a a.log)))

-- the report has the name of an input
abbrev pub report_is_input : Asking → Bool
report_is_input a = unwrap_or (option_map (is_input a.inputs) a.report) false
