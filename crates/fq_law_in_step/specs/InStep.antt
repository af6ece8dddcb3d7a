-- The texts of the outputs, read again as FASTQ: mates stay in step.
use Rattle.std.specs.Prelude.{◌≡◌, ℕ, ◌+◌, Bool, true, None, List, [], ◌∷◌, ◌++◌, length, map, filter, flat_map, count_by}
use Rattle.std.specs.List.{All}
use Rattle.fq_text.specs.declared.encoding.Encoding.{Encoding}
use Rattle.fq_text.specs.Grammar.{Read, IsLawful}
use Rattle.fq_text.specs.Records.{records}
use Rattle.fq_trim.specs.declared.step.Step.{Step}
use Rattle.fq_pair.specs.declared.counts.Counts.{Counts}
use Rattle.fq_pair.specs.declared.out.Out.{Out}
use Rattle.fq_pair.specs.declared.out.Out.TheVariants.{ForwardPaired, ForwardUnpaired, ReversePaired, ReverseUnpaired, Log}
use Rattle.fq_pair.specs.Mates.{Mates, mates_in}
use Rattle.fq_pair.specs.Pairing.{pairs, belong}
use Rattle.fq_pair.specs.Forms.{Form, pairs_in}
use Rattle.fq_pair.specs.Outputs.{Outputs, both_survive, forward_alone, reverse_alone, none_survive, log_lines, counts_of, texts_of, text_of, joined}
use Rattle.fq_law_in_step.specs.Pieces.{trimmed, encoding_out, IsPlain}

-- Pairs that come from inputs.

-- a read of a text: a valid one, in this encoding
pub record IsReadIn (encoding : Encoding) (read : Read) : Type 0 where
  pub lawful : IsLawful read
  pub same : read.encoding ≡ encoding

-- a pair of the inputs: two such reads, whose names match if names are checked
pub record IsPairIn (check : Bool) (encoding : Encoding) (m : Mates) : Type 0 where
  pub forward : IsReadIn encoding m.forward
  pub reverse : IsReadIn encoding m.reverse
  pub belong : belong check m ≡ true

-- two texts, or one interleaved text, give such pairs
abbrev pub InputsGivePairs : Type 0
InputsGivePairs = (form : Form) (check : Bool) (encoding : Encoding) (forward reverse : List ℕ) →
    All (IsPairIn check encoding) (pairs_in form check encoding 0 forward reverse).mates

-- The reads of one side of pairs, in the order of the input.

abbrev pub forward_reads : List Mates → List Read
forward_reads pairs = map (λ (m : Mates). m.forward) pairs

abbrev pub reverse_reads : List Mates → List Read
reverse_reads pairs = map (λ (m : Mates). m.reverse) pairs

-- Outputs that are read again.

-- a text gives exactly these reads, trimmed, in this order and without a fault, and their number is
-- this one
pub record GivesReads (steps : List Step) (encoding : Encoding)
    (reads : List Read) (count : ℕ) (text : List ℕ) : Type 0 where
  pub again : records (encoding_out steps encoding) text
      ≡ record { reads = map (trimmed steps) reads; fault = None }
  pub count_is : length (records (encoding_out steps encoding) text).reads ≡ count

-- if these reads are plain, the text gives exactly these reads
abbrev pub IsReadAgain : List Step → Encoding → List Read → ℕ → List ℕ → Type 0
IsReadAgain steps encoding reads count text =
    All (IsPlain steps) reads → GivesReads steps encoding reads count text

-- a pair with both mates trimmed
abbrev pub trimmed_pair : List Step → Mates → Mates
trimmed_pair steps m = mates_in (trimmed steps m.forward) (trimmed steps m.reverse)

-- two texts, read together, give exactly these pairs, trimmed, in this order and without a fault,
-- and their number is this one
pub record GivesPairs (check : Bool) (steps : List Step)
    (encoding : Encoding) (ms : List Mates) (count : ℕ) (forward reverse : List ℕ) : Type 0 where
  pub again : pairs check (encoding_out steps encoding) 0 forward reverse
      ≡ record { mates = map (trimmed_pair steps) ms; fault = None }
  pub count_is : length (pairs check (encoding_out steps encoding) 0 forward reverse).mates ≡ count

-- if the reads of these pairs are plain, the texts give exactly these pairs
abbrev pub ArePairsAgain : Bool → List Step → Encoding → List Mates → ℕ → List ℕ → List ℕ → Type 0
ArePairsAgain check steps encoding ms count forward reverse =
    All (IsPlain steps) (forward_reads ms) → All (IsPlain steps) (reverse_reads ms) →
    GivesPairs check steps encoding ms count forward reverse

-- The outputs of these pairs are in step. Each of the four outputs gives exactly its reads, as many
-- as were counted. The two paired outputs, read together, give the pairs in which both mates
-- survive. The log has two lines for each pair, and each pair is counted once.
pub record AreInStep (check : Bool) (steps : List Step)
    (encoding : Encoding) (ms : List Mates) (counts : Counts) (texts : Out → List ℕ) : Type 0 where
  pub forward_paired : IsReadAgain steps encoding
      (forward_reads (filter (both_survive steps) ms)) counts.both (texts ForwardPaired)
  pub forward_unpaired : IsReadAgain steps encoding
      (forward_reads (filter (forward_alone steps) ms)) counts.forward_only (texts ForwardUnpaired)
  pub reverse_paired : IsReadAgain steps encoding
      (reverse_reads (filter (both_survive steps) ms)) counts.both (texts ReversePaired)
  pub reverse_unpaired : IsReadAgain steps encoding
      (reverse_reads (filter (reverse_alone steps) ms)) counts.reverse_only (texts ReverseUnpaired)
  pub in_step : ArePairsAgain check steps encoding
      (filter (both_survive steps) ms) counts.both (texts ForwardPaired) (texts ReversePaired)
  pub logged : texts Log ≡ flat_map (log_lines steps) ms
  pub counted : counts.pairs ≡ length ms
  pub sum : counts.both + counts.forward_only + counts.reverse_only + counts.dropped ≡ counts.pairs

-- the texts that are defined for pairs of the inputs are in step
abbrev pub TextsAreInStep : Type 0
TextsAreInStep = (check : Bool) (steps : List Step) (encoding : Encoding) (ms : List Mates) →
    All (IsPairIn check encoding) ms →
    AreInStep check steps encoding ms (counts_of steps ms) (λ out. text_of out (texts_of steps ms))

-- For each pair exactly one of these holds: both mates survive, the forward mate survives alone,
-- the reverse mate survives alone, or none survives.
abbrev pub PairsGoOneWay : Type 0
PairsGoOneWay = (steps : List Step) (m : Mates) →
    count_by (λ (way : List Step → Mates → Bool). way steps m)
    (both_survive ∷ forward_alone ∷ reverse_alone ∷ none_survive ∷ []) ≡ 1

-- If the pairs are split anywhere, the text for all of them is the text for the first part followed
-- by the text for the rest. Three parts may be joined in either grouping.

abbrev pub TextsAreJoined : Type 0
TextsAreJoined = (steps : List Step) (first others : List Mates) →
    texts_of steps (first ++ others) ≡ joined (texts_of steps first) (texts_of steps others)

abbrev pub JoinedInAnyGroups : Type 0
JoinedInAnyGroups = (a b c : Outputs) → joined (joined a b) c ≡ joined a (joined b c)
