-- What is written for a list of pairs: four texts of records, a log, and counts, as in the
-- paired-end mode of the Trimmomatic manual.
use Rattle.std.specs.Prelude.{ℕ, ◌+◌, ◌-◌, Bool, not, ◌&&◌, List, [], ◌∷◌, ◌++◌, length, filter, flat_map, decimal}
use Rattle.std.specs.Bool.{then_some}
use Rattle.fq_text.specs.Grammar.{Read}
use Rattle.fq_text.specs.Written.{written, written_quality, line}
use Rattle.fq_trim.specs.declared.step.Step.{Step}
use Rattle.fq_trim.specs.Keeping.{recodes}
use Rattle.fq_trim.specs.KeptPlaces.{kept_places, survives, bytes_at}
use Rattle.fq_pair.specs.declared.side.Side.{Side}
use Rattle.fq_pair.specs.declared.side.Side.TheVariants.{Forward, Reverse}
use Rattle.fq_pair.specs.declared.counts.Counts.{Counts}
use Rattle.fq_pair.specs.declared.out.Out.{Out}
use Rattle.fq_pair.specs.declared.out.Out.TheVariants.{ForwardPaired, ForwardUnpaired, ReversePaired, ReverseUnpaired, Log}
use Rattle.fq_pair.specs.Mates.{Mates, name_of}

-- Where a pair goes.

abbrev pub both_survive : List Step → Mates → Bool
both_survive steps m = survives steps m.forward && survives steps m.reverse

abbrev pub forward_alone : List Step → Mates → Bool
forward_alone steps m = survives steps m.forward && not (survives steps m.reverse)

abbrev pub reverse_alone : List Step → Mates → Bool
reverse_alone steps m = not (survives steps m.forward) && survives steps m.reverse

abbrev pub none_survive : List Step → Mates → Bool
none_survive steps m = not (survives steps m.forward) && not (survives steps m.reverse)

-- What is written for a pair.

-- the record of a read's bases at these places
abbrev pub record_at : Bool → List ℕ → Read → List ℕ
record_at recode kept_at read =
    written read.title (bytes_at kept_at read.seq)
    (written_quality (then_some recode read.encoding) (bytes_at kept_at read.qual))

-- the record of a read's kept bases
abbrev pub record_text : List Step → Read → List ℕ
record_text steps read = record_at (recodes steps) (kept_places steps read) read

-- the numbers of a log line if these places of n bases are kept: bases kept, bases removed at the
-- front, where the last kept base ends, bases removed at the end
abbrev pub log_numbers : ℕ → List ℕ → List ℕ
log_numbers n [] = 0 ∷ 0 ∷ 0 ∷ 0 ∷ []
log_numbers n (start ∷ others) =
    let bases = length (start ∷ others) in
    bases ∷ start ∷ (start + bases) ∷ (n - start - bases) ∷ []

-- a number after a blank
abbrev pub field : ℕ → List ℕ
field n = 32 ∷ decimal n

-- a name and four numbers
abbrev pub log_line_of : List ℕ → ℕ → List ℕ → List ℕ
log_line_of name bases kept_at = line (name ++ flat_map field (log_numbers bases kept_at))

abbrev pub log_line : Side → List ℕ → Read → List ℕ
log_line side kept_at read = log_line_of (name_of side read.title) (length read.seq) kept_at

abbrev pub log_lines : List Step → Mates → List ℕ
log_lines steps m = log_line Forward (kept_places steps m.forward) m.forward
    ++ log_line Reverse (kept_places steps m.reverse) m.reverse

-- What is written for a list of pairs.

-- the five texts and the counts
pub record Outputs : Type 0 where
  pub forward_paired : List ℕ
  pub forward_unpaired : List ℕ
  pub reverse_paired : List ℕ
  pub reverse_unpaired : List ℕ
  pub log : List ℕ
  pub counts : Counts

-- the records of one side of the pairs that pass a test
abbrev pub forward_records : List Step → (Mates → Bool) → List Mates → List ℕ
forward_records steps test pairs =
    flat_map (λ (m : Mates). record_text steps m.forward) (filter test pairs)

abbrev pub reverse_records : List Step → (Mates → Bool) → List Mates → List ℕ
reverse_records steps test pairs =
    flat_map (λ (m : Mates). record_text steps m.reverse) (filter test pairs)

abbrev pub counts_of : List Step → List Mates → Counts
counts_of steps pairs = record {
  pairs = length pairs;
  both = length (filter (both_survive steps) pairs);
  forward_only = length (filter (forward_alone steps) pairs);
  reverse_only = length (filter (reverse_alone steps) pairs);
  dropped = length (filter (none_survive steps) pairs);
}

abbrev pub texts_of : List Step → List Mates → Outputs
texts_of steps pairs = record {
  forward_paired = forward_records steps (both_survive steps) pairs;
  forward_unpaired = forward_records steps (forward_alone steps) pairs;
  reverse_paired = reverse_records steps (both_survive steps) pairs;
  reverse_unpaired = reverse_records steps (reverse_alone steps) pairs;
  log = flat_map (log_lines steps) pairs;
  counts = counts_of steps pairs;
}

-- One list of pairs after another.

abbrev pub no_counts : Counts
no_counts = record { pairs = 0; both = 0; forward_only = 0; reverse_only = 0; dropped = 0 }

abbrev pub no_texts : Outputs
no_texts = record {
  forward_paired = [];
  forward_unpaired = [];
  reverse_paired = [];
  reverse_unpaired = [];
  log = [];
  counts = no_counts;
}

abbrev pub sum_of : Counts → Counts → Counts
sum_of a b = record {
  pairs = a.pairs + b.pairs;
  both = a.both + b.both;
  forward_only = a.forward_only + b.forward_only;
  reverse_only = a.reverse_only + b.reverse_only;
  dropped = a.dropped + b.dropped;
}

abbrev pub joined : Outputs → Outputs → Outputs
joined a b = record {
  forward_paired = a.forward_paired ++ b.forward_paired;
  forward_unpaired = a.forward_unpaired ++ b.forward_unpaired;
  reverse_paired = a.reverse_paired ++ b.reverse_paired;
  reverse_unpaired = a.reverse_unpaired ++ b.reverse_unpaired;
  log = a.log ++ b.log;
  counts = sum_of a.counts b.counts;
}

-- one of the five texts
abbrev pub text_of : Out → Outputs → List ℕ
text_of ForwardPaired texts = texts.forward_paired
text_of ForwardUnpaired texts = texts.forward_unpaired
text_of ReversePaired texts = texts.reverse_paired
text_of ReverseUnpaired texts = texts.reverse_unpaired
text_of Log texts = texts.log
