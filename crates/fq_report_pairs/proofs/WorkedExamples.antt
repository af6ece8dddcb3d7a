-- Worked pairs, computed from the definitions alone.
use Rattle.std.proofs.Common.{◌≡◌, ℕ, ◌*◌, List, [], ◌∷◌, codes, refl}
use Rattle.fq_text.specs.declared.encoding.Encoding.TheVariants.{Sanger}
use Rattle.fq_trim.specs.declared.step.Step.{Step}
use Rattle.fq_trim.specs.declared.step.Step.TheVariants.{Crop}
use Rattle.fq_pair.specs.Mates.{Mates, mates_in}
use Rattle.fq_report_reads.specs.declared.bases.BaseTally.{BaseTally}
use Rattle.fq_report_reads.specs.declared.reads.ReadsTally.{ReadsTally}
use Rattle.fq_report_reads.specs.declared.columns.Columns.{Columns}
use Rattle.fq_report_reads.specs.Rows.{with_one}
use Rattle.fq_report_reads.specs.Columns.{no_columns, columns_of, columns_plus}
use Rattle.fq_report_reads.specs.SideTallies.{no_reads}
use Rattle.fq_report_reads.proofs.WorkedExamples.{read_of}
use Rattle.fq_report_pairs.specs.Tallies.{no_tally, tally_of, plus}

abbrev crop : List (List Step)
crop = (Crop 2 ∷ []) ∷ []

abbrev first : Mates
first = mates_in (read_of (codes "ACG") (codes "III")) (read_of (codes "T") (codes "5"))

abbrev second : Mates
second = mates_in (read_of (codes "GG") (codes "II")) (read_of [] [])

abbrev reads_of : ℕ → BaseTally → ℕ → ℕ → List ℕ → List ℕ → List ℕ → ReadsTally
reads_of reads bases shortest longest lengths mean_scores gc_percents = record {
  reads = reads;
  bases = bases;
  shortest = shortest;
  longest = longest;
  lengths = lengths;
  mean_scores = mean_scores;
  gc_percents = gc_percents;
}

abbrev good : ℕ → ℕ → BaseTally
good bases gc = record {
  bases = bases;
  at_least_20 = bases;
  at_least_30 = bases;
  score_sum =
      40 * bases;
  gc = gc;
  n = 0;
}

abbrev score_20 : BaseTally
score_20 = record { bases = 1; at_least_20 = 1; at_least_30 = 0; score_sum = 20; gc = 0; n = 0 }

-- the columns of a read
abbrev columns_in : List ℕ → List ℕ → Columns
columns_in seq qual = columns_of (record { encoding = Sanger; seq = seq; qual = qual })

abbrev one_t : Columns
one_t = columns_in (codes "T") (codes "5")

two_pairs : tally_of crop (first ∷ second ∷ []) ≡ record {
  forward = record {
    before = reads_of 2 (good 5 4) 2 3 (with_one 2 (with_one 3 [])) (with_one 40 (with_one 40 []))
        (with_one 67 (with_one 100 []));
    paired = reads_of 1 (good 2 1) 2 2 (with_one 2 []) (with_one 40 []) (with_one 50 []);
    unpaired = reads_of 1 (good 2 2) 2 2 (with_one 2 []) (with_one 40 []) (with_one 100 []);
    front = 0;
    behind = 1;
    removed_front = 2 ∷ [];
    removed_behind = 1 ∷ 1 ∷ [];
    positions = record {
      before = columns_plus (columns_in (codes "ACG") (codes "III"))
          (columns_in (codes "GG") (codes "II"));
      paired = columns_in (codes "AC") (codes "II");
      unpaired = columns_in (codes "GG") (codes "II");
    };
    steps = record { shortened = 1 ∷ []; dropped = [] };
  };
  reverse = record {
    before = reads_of 2 score_20 0 1 (1 ∷ 1 ∷ []) (with_one 20 []) (1 ∷ []);
    paired = reads_of 1 score_20 1 1 (0 ∷ 1 ∷ []) (with_one 20 []) (1 ∷ []);
    unpaired = no_reads;
    front = 0;
    behind = 0;
    removed_front = 1 ∷ [];
    removed_behind = 1 ∷ [];
    positions = record { before = one_t; paired = one_t; unpaired = no_columns };
    steps = record { shortened = []; dropped = 1 ∷ [] };
  };
}
two_pairs = refl

added_up : plus (tally_of crop (first ∷ [])) (tally_of crop (second ∷ []))
    ≡ tally_of crop (first ∷ second ∷ [])
added_up = refl

of_none : tally_of crop [] ≡ no_tally
of_none = refl
