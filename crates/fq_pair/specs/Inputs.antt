-- The names of the inputs.
use Rattle.std.specs.Prelude.{ℕ, List}
use Rattle.fq_pair.specs.declared.side.Side.{Side}
use Rattle.fq_pair.specs.declared.side.Side.TheVariants.{Forward, Reverse}
use Rattle.fq_pair.specs.declared.inputs.Inputs.{Inputs}
use Rattle.fq_pair.specs.declared.inputs.Inputs.TheVariants.{Apart, Interleaved}
use Rattle.fq_pair.specs.Forms.{Form, TwoTexts, InterleavedText}

-- The names of the inputs, and their form. An interleaved file holds both sides.
pub record InputNames : Type 0 where
  pub form : Form
  pub forward : List ℕ
  pub reverse : List ℕ

abbrev pub two_files : List ℕ → List ℕ → InputNames
two_files forward reverse = record { form = TwoTexts; forward = forward; reverse = reverse }

abbrev pub interleaved_file : List ℕ → InputNames
interleaved_file both = record { form = InterleavedText; forward = both; reverse = both }

abbrev pub names_of : Inputs → InputNames
names_of (Apart forward reverse) = two_files forward.now reverse.now
names_of (Interleaved both) = interleaved_file both.now

abbrev pub input_name : InputNames → Side → List ℕ
input_name inputs Forward = inputs.forward
input_name inputs Reverse = inputs.reverse
