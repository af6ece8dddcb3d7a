-- The two forms of paired inputs: two texts, or an interleaved one.
use Rattle.std.specs.Prelude.{ℕ, ◌-◌, ◌*◌, Bool, false, Option, Result, List}
use Rattle.std.specs.List.{slice_get}
use Rattle.std.specs.Option.{option_map}
use Rattle.fq_text.specs.declared.encoding.Encoding.{Encoding}
use Rattle.fq_pair.specs.declared.side.Side.{Side}
use Rattle.fq_pair.specs.declared.fault.InputFault.{InputFault}
use Rattle.fq_pair.specs.Mates.{MateNames, mate_names}
use Rattle.fq_pair.specs.Pairing.{Pairs, PairFront, pairs, pair_front}
use Rattle.fq_pair.specs.Interleaved.{interleaved_pairs, interleaved_front}
use Rattle.fq_pair.specs.PairSources.{failed_on}
use Rattle.fq_pair.specs.InterleavedSources.{failed_in}

-- The form of the inputs. An interleaved text is both the forward and the reverse text.
pub data Form : Type 0 where
  TwoTexts : Form
  InterleavedText : Form

-- the pairs of inputs given as bytes
abbrev pub pairs_in : Form → Bool → Encoding → ℕ → List ℕ → List ℕ → Pairs
pairs_in TwoTexts check encoding given forward reverse = pairs check encoding given forward reverse
pairs_in InterleavedText check encoding given text same =
    interleaved_pairs check encoding given text

-- the names of pair k of inputs given as bytes, of all pairs that there are if names aren't checked
abbrev pub names_of_pair : ℕ → Form → Encoding → List ℕ → List ℕ → Option MateNames
names_of_pair k form encoding forward reverse =
    option_map mate_names (slice_get (pairs_in form false encoding 0 forward reverse).mates (k - 1))

-- what comes first in the lines of the inputs, after the pairs given
abbrev pub front_in : Form → Bool → Encoding → ℕ → List (List ℕ) → List (List ℕ) → PairFront
front_in TwoTexts check encoding given forward reverse =
    pair_front check encoding given forward reverse
front_in InterleavedText check encoding given text same =
    interleaved_front check encoding given text

-- how many records of a side's text make n pairs
abbrev pub records_of_pairs : Form → ℕ → ℕ
records_of_pairs TwoTexts n = n
records_of_pairs InterleavedText n = 2 * n

-- how often the feed of a side failed in a call
abbrev pub failed_at : {T : Type 0} → Form → Side → Result T InputFault → ℕ
failed_at TwoTexts side r = failed_on side r
failed_at InterleavedText side r = failed_in r
