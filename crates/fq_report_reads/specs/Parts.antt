-- Parts of a read, from one place up to another.
use Rattle.std.specs.Prelude.{◌≡◌, ◌≤◌, ℕ, true, ◌+◌, ◌-◌, nat_le}
use Rattle.std.specs.Prelude.{List, length, take, drop, sum, count_by}
use Rattle.std.specs.List.{list_all}
use Rattle.fq_text.specs.declared.encoding.Encoding.{Encoding}
use Rattle.fq_text.specs.Grammar.{limit}
use Rattle.fq_text.specs.Scores.{is_scored}
use Rattle.fq_report_reads.specs.declared.bases.Counted.{Counted}
use Rattle.fq_report_reads.specs.Courses.{Part}
use Rattle.fq_report_reads.specs.Counting.{largest_word}
use Rattle.fq_report_reads.specs.Letters.{is_gc, is_n}

-- the bases from one place up to another, with their quality bytes
abbrev pub part_between : Encoding → List ℕ → List ℕ → ℕ → ℕ → Part
part_between e seq qual from to = record {
  encoding = e;
  seq = take (to - from) (drop from seq);
  qual = take (to - from) (drop from qual);
}

-- There is such a part of these bases, each of which has a quality byte with a score.
pub record HasPart (e : Encoding) (seq qual : List ℕ) (from to : ℕ) : Type 0 where
  pub few : length qual ≤ limit
  pub scored : list_all (is_scored e) qual ≡ true
  pub same : length qual ≡ length seq
  pub order : from ≤ to
  pub within : to ≤ length seq

-- These are bases of a read, the first in this place of it, and each has a quality byte with a
-- score.
pub record AreBases (e : Encoding) (seq qual : List ℕ) (at : ℕ) : Type 0 where
  pub few : at + length qual ≤ limit
  pub scored : list_all (is_scored e) qual ≡ true
  pub same : length qual ≡ length seq

-- What is counted of bases and of their quality bytes: of these how many are at least `lower`, how
-- many are at least `upper`, and their sum.
pub record IsCount (lower upper : ℕ) (seq qual : List ℕ) (c : Counted) : Type 0 where
  pub gc : c.gc ≡ count_by is_gc seq
  pub n : c.n ≡ count_by is_n seq
  pub low : c.at_least_low ≡ count_by (nat_le lower) qual
  pub high : c.at_least_high ≡ count_by (nat_le upper) qual
  pub sum : c.sum ≡ sum qual

-- The counts of more bases are added. The sum grows by no more than 65,535, since the bytes are
-- those of a vector.
pub record CountsOn (lower upper : ℕ) (seq qual : List ℕ) (old new : Counted) : Type 0 where
  pub gc : new.gc ≡ old.gc + count_by is_gc seq
  pub n : new.n ≡ old.n + count_by is_n seq
  pub low : new.at_least_low ≡ old.at_least_low + count_by (nat_le lower) qual
  pub high : new.at_least_high ≡ old.at_least_high + count_by (nat_le upper) qual
  pub sum : new.sum ≡ old.sum + sum qual
  pub most : new.sum ≤ old.sum + largest_word
