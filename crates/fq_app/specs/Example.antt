-- What the example prints.
use Rattle.std.specs.Prelude.{◌≡◌, MatchOption, Option, ℕ, ◌^◌, true, false, List, [], ◌∷◌, ◌++◌, codes}
use Rattle.fq_text.specs.Written.{line}
use Rattle.fq_text.specs.Devices.{Taken}
use Rattle.fq_text.specs.declared.encoding.Encoding.TheVariants.{Sanger}
use Rattle.fq_trim.specs.declared.step.Step.TheVariants.{Leading}
use Rattle.fq_pair.specs.declared.out.Out.{Out}
use Rattle.fq_pair.specs.declared.out.Out.TheVariants.{ForwardPaired, ForwardUnpaired, ReversePaired, ReverseUnpaired, Log}
use Rattle.fq_pair.specs.Pairing.{Pairs, pairs}
use Rattle.fq_pair.specs.Outputs.{texts_of, text_of, counts_of}
use Rattle.fq_pair.specs.Summaries.{summary_of}
use Rattle.fq_run.specs.Choices.{Choices}

-- the inputs
abbrev pub example_forward : List ℕ
example_forward = codes "@p1/1\nACGT\n+\n#!II\n@p2/1\nGGCC\n+\nIIII\n"

abbrev pub example_reverse : List ℕ
example_reverse = codes "@p1/2\nTTTT\n+\nIIII\n@p2/2\nAAAA\n+\n!!!\"\n"

-- an outlet that has taken nothing and has not failed
abbrev pub IsEmpty : Taken → Type 0
IsEmpty o = (o.bytes ≡ []) × (o.failures ≡ 0)

-- the five outlets of a run have taken nothing and have not failed
pub record AreEmpty (forward_paired forward_unpaired reverse_paired reverse_unpaired : Taken)
    (log : Option Taken) : Type 0 where
  pub forward_paired_is : IsEmpty forward_paired
  pub forward_unpaired_is : IsEmpty forward_unpaired
  pub reverse_paired_is : IsEmpty reverse_paired
  pub reverse_unpaired_is : IsEmpty reverse_unpaired
  pub log_is : MatchOption log ⊥ IsEmpty

-- the step and the settings
unfoldable pub example_choices : Choices
example_choices = record {
  encoding = Sanger;
  steps = Leading 3 ∷ [];
  check_names = true;
  workers = 2;
  block_pairs = 1;
  depth = 4;
  chunk = 65536;
  max_reads = 2 ^ 40;
  gate_turns = 2 ^ 40;
  tallied = false;
}

-- the pairs of the inputs
unfoldable pub example_pairs : Pairs
example_pairs =
    pairs example_choices.check_names example_choices.encoding 0 example_forward example_reverse

-- what the run writes to each output
unfoldable pub example_output : Out → List ℕ
example_output out = text_of out (texts_of example_choices.steps example_pairs.mates)

unfoldable pub example_summary : List ℕ
example_summary = summary_of (counts_of example_choices.steps example_pairs.mates)

-- a text below its label
abbrev pub section : List ℕ → List ℕ → List ℕ
section label text = line label ++ text

-- the outputs, the log and the summary, each below its label
abbrev pub sections : List ℕ → List ℕ → List ℕ → List ℕ → List ℕ → List ℕ → List ℕ
sections forward_paired forward_unpaired reverse_paired reverse_unpaired log summary =
    section (codes "[forward paired]") forward_paired
    ++ (section (codes "[forward unpaired]") forward_unpaired
    ++ (section (codes "[reverse paired]") reverse_paired
    ++ (section (codes "[reverse unpaired]") reverse_unpaired
    ++ (section (codes "[trim log]") log
    ++ section (codes "[summary]") summary))))

unfoldable pub example_text : List ℕ
example_text = sections (example_output ForwardPaired) (example_output ForwardUnpaired)
    (example_output ReversePaired) (example_output ReverseUnpaired)
    (example_output Log) example_summary
