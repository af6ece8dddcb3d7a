-- Trimming pairs from input files into output files.
use Rattle.std.specs.Prelude.{◌≡◌, ◌≢◌, ◌⊎◌, ℕ, Bool, IsTrue, IsSome, Option, Some, None, Ok, List, []}
use Rattle.std.specs.Option.{option_map}
use Rattle.fq_files.specs.Holding.{Holding}
use Rattle.fq_files.specs.States.{FilesState, Keys}
use Rattle.fq_pair.specs.declared.out.Out.{Out}
use Rattle.fq_pair.specs.declared.side.Side.{Side}
use Rattle.fq_pair.specs.declared.side.Side.TheVariants.{Forward, Reverse}
use Rattle.fq_pair.specs.declared.counts.Counts.{Counts}
use Rattle.fq_pair.specs.Pairing.{Pairs}
use Rattle.fq_pair.specs.Forms.{Form, TwoTexts, InterleavedText, pairs_in}
use Rattle.fq_pair.specs.Outputs.{texts_of, text_of, counts_of}
use Rattle.fq_run_core.specs.Choices.{Choices}
use Rattle.fq_run_core.specs.declared.outcome.Outcome.{Outcome}
use Rattle.fq_text.specs.Devices.{FeedState, OutletState}
use Rattle.fq_run_core.specs.Devices.{OutletStates, OutletsTook, outlet_at}
use Rattle.fq_run_core.specs.Endings.{Run, trimmed_outcome}
use Rattle.fq_app_words.specs.Requests.{Asking, InputNames, by_file, output_name}
use Rattle.fq_app_files.specs.Judging.{settings_of}
use Rattle.fq_app_files.specs.declared.account.Account.{Account}
use Rattle.fq_app_files.specs.declared.feeds.Feeds.{Feeds}
use Rattle.fq_app_files.specs.declared.feeds.Feeds.TheVariants.{Apart, Interleaved}

-- the request, with the key of the file that each name leads to in place of the name
abbrev pub filed : FilesState → Asking → Asking
filed files a = by_file files.leads a

-- this is the name of an output or of the report
abbrev pub IsMade : Asking → List ℕ → Type 0
IsMade a name = ((out : Out) × (output_name a out ≡ Some name)) ⊎ (a.report ≡ Some name)

-- the bytes of both inputs are known to the proof
abbrev pub AreInputsTold : InputNames → Keys → Type 0
AreInputsTold inputs tells = IsTrue (tells inputs.forward) × IsTrue (tells inputs.reverse)

-- this is the name of this output, and of no other file that is made: neither of another output nor
-- of the report; and the bytes of its file are known to the proof
pub record HasOwnName (a : Asking) (tells : Keys) (out : Out) (name : List ℕ) : Type 0 where
  pub named : output_name a out ≡ Some name
  pub told : IsTrue (tells name)
  pub outputs : (other : Out) → output_name a other ≡ Some name → other ≡ out
  pub report : a.report ≢ Some name

-- no output has this name
abbrev pub IsNoOutput : Asking → List ℕ → Type 0
IsNoOutput a name = (out : Out) → output_name a out ≢ Some name

-- each name that is not an output's holds what it held before
abbrev pub KeepsRest : Asking → Holding → Holding → Type 0
KeepsRest a old new = (name : List ℕ) → IsNoOutput a name → new name ≡ old name

-- each name that is neither an output's nor the report's holds what it held before
abbrev pub KeepsUnnamed : Asking → Holding → Holding → Type 0
KeepsUnnamed a old new = (name : List ℕ) → IsNoOutput a name →
    a.report ≢ Some name → new name ≡ old name

-- the file of each output exists, if its bytes are known
abbrev pub AreHeld : Asking → Keys → Holding → Type 0
AreHeld a tells files = (out : Out) (name : List ℕ) → output_name a out ≡ Some name →
    IsTrue (tells name) → IsSome (files name)

-- an outlet whose bytes are known to the proof, and that has taken none
pub record IsEmptyOutlet (outlet : OutletState) : Type 0 where
  pub tells : IsSome outlet.file
  pub taken : outlet.taken ≡ []

-- the outlet of each output whose bytes are known tells its bytes, and has taken none
abbrev pub AreEmpty : Asking → Keys → OutletStates → Type 0
AreEmpty a tells outlets = (out : Out) (name : List ℕ) (outlet : OutletState) →
    output_name a out ≡ Some name → IsTrue (tells name) → outlet_at out outlets ≡ Some outlet →
    IsEmptyOutlet outlet

-- each outlet is one of the file of its output
abbrev pub WriteTheirs : Asking → FilesState → OutletStates → Type 0
WriteTheirs a files outlets = (out : Out) (file : List ℕ) (outlet : OutletState) →
    output_name a out ≡ Some file → outlet_at out outlets ≡ Some outlet →
    IsTrue (files.writes outlet.file file)

-- so it is with the outlet of the report
abbrev pub WritesReport : Asking → FilesState → Option OutletState → Type 0
WritesReport a files report = (file : List ℕ) (outlet : OutletState) → a.report ≡ Some file →
    report ≡ Some outlet → IsTrue (files.writes outlet.file file)

-- the bytes of an input are known, and are those of its file
pub record IsFed (tells : Bool) (to_come : List ℕ) (bytes : Option (List ℕ)) : Type 0 where
  pub told : IsTrue tells
  pub bytes_are : bytes ≡ Some to_come

-- The opened inputs, in their form. An interleaved input is both the forward and the reverse one.
pub record Opened : Type 0 where
  pub form : Form
  pub forward : FeedState
  pub reverse : FeedState

abbrev pub opened_of : {F : Type 0} → (F → FeedState) → Feeds F → Opened
opened_of state (Apart forward reverse) =
    record { form = TwoTexts; forward = state forward; reverse = state reverse }
opened_of state (Interleaved both) =
    record { form = InterleavedText; forward = state both; reverse = state both }

-- the feeds that came back after a run
abbrev pub left_of : {F : Type 0} → (F → FeedState) → Feeds (Option F) → Side → Option FeedState
left_of state (Apart forward reverse) Forward = option_map state forward
left_of state (Apart forward reverse) Reverse = option_map state reverse
left_of state (Interleaved both) side = option_map state both

abbrev pub form_of : {F : Type 0} → Feeds F → Form
form_of (Apart forward reverse) = TwoTexts
form_of (Interleaved both) = InterleavedText

-- a run of these inputs
abbrev pub run_in : Opened → OutletStates → OutletStates → (Side → Option FeedState) → Account → Run
run_in inputs outlets outlets_left left account = record {
  form = inputs.form;
  forward = inputs.forward;
  reverse = inputs.reverse;
  outlets = outlets;
  forward_left = left Forward;
  reverse_left = left Reverse;
  outlets_left = outlets_left;
  outcome = account.outcome;
  counts = account.counts;
  tally = account.tally;
}

-- no input has failed
pub record AreFresh (inputs : Opened) : Type 0 where
  pub forward : inputs.forward.failures ≡ 0
  pub reverse : inputs.reverse.failures ≡ 0

-- the bytes of each input are those of its file, if these are known
pub record AreFed (inputs : Opened) (names : InputNames) (files : FilesState) : Type 0 where
  pub forward : IsTrue (files.tells names.forward) →
      IsFed inputs.forward.tells inputs.forward.to_come (files.bytes names.forward)
  pub reverse : IsTrue (files.tells names.reverse) →
      IsFed inputs.reverse.tells inputs.reverse.to_come (files.bytes names.reverse)

-- the pairs of the bytes of the inputs
abbrev pub pairs_of : Choices → Form → List ℕ → List ℕ → Pairs
pairs_of c form forward reverse = pairs_in form c.check_names c.encoding 0 forward reverse

-- the pairs were trimmed one after the other into these outlets
pub record TrimsPairs (c : Choices) (all : Pairs)
    (old new : OutletStates) (outcome : Outcome) (counts : Counts) : Type 0 where
  pub took : OutletsTook old new (λ out. text_of out (texts_of c.steps all.mates)) None
  pub counts_are : counts ≡ counts_of c.steps all.mates
  pub outcome_is : outcome ≡ trimmed_outcome all.fault

-- The pairs of the inputs were trimmed one after the other. The file of each output that has a name
-- of its own holds the text that is defined for the bytes of the inputs and for the settings, and
-- the counts and the outcome are the defined ones.
pub record TrimsFiles (a : Asking) (tells : Keys) (old new : Holding)
    (outcome : Outcome) (counts : Counts) : Type 0 where
  pub choices : Choices
  pub forward : List ℕ
  pub reverse : List ℕ
  pub settings : settings_of a ≡ Ok choices
  pub forward_is : old a.inputs.forward ≡ Some forward
  pub reverse_is : old a.inputs.reverse ≡ Some reverse
  pub texts : (out : Out) (name : List ℕ) → HasOwnName a tells out name →
      new name ≡ Some (text_of out
      (texts_of choices.steps (pairs_of choices a.inputs.form forward reverse).mates))
  pub counts_are : counts ≡ counts_of choices.steps
      (pairs_of choices a.inputs.form forward reverse).mates
  pub outcome_is : outcome ≡ trimmed_outcome (pairs_of choices a.inputs.form forward reverse).fault
