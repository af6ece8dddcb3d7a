-- A record as it is written: four unwrapped lines of the FASTQ format (Cock, Fields, Goto, Heuer
-- and Rice, Nucleic Acids Research 38(6), 1767 to 1771, 2010).
use Rattle.std.specs.Prelude.{◌≡◌, ℕ, ◌+◌, IsTrue, Option, Some, None, List, [], ◌∷◌, ◌++◌, length, map}
use Rattle.std.specs.List.{list_all}
use Rattle.fq_text.specs.declared.encoding.Encoding.{Encoding}
use Rattle.fq_text.specs.declared.encoding.Encoding.TheVariants.{Sanger}
use Rattle.fq_text.specs.Lines.{line_feed, without_cr}
use Rattle.fq_text.specs.Scores.{is_scored, recoded}
use Rattle.fq_text.specs.Grammar.{at_sign, plus_sign, Read, IsLawful}
use Rattle.fq_text.specs.Records.{with_first, records}

-- a line with its line end
abbrev pub line : List ℕ → List ℕ
line bytes = bytes ++ line_feed ∷ []

-- the four lines of a record
abbrev pub written : List ℕ → List ℕ → List ℕ → List ℕ
written title seq qual =
    line (at_sign ∷ title) ++ line seq ++ line (plus_sign ∷ []) ++ line qual

-- the length of these lines: the parts, two marks and four line ends
abbrev pub written_len : List ℕ → List ℕ → List ℕ → ℕ
written_len title seq qual = length title + length seq + length qual + 6

-- the quality as it is written: unchanged, or each score at offset 33
abbrev pub written_quality : Option Encoding → List ℕ → List ℕ
written_quality None qual = qual
written_quality (Some encoding) qual = map (recoded encoding) qual

-- each byte has a score in the encoding that it is recoded from
abbrev pub CanRecode : Option Encoding → List ℕ → Type 0
CanRecode None qual = Unit {0}
CanRecode (Some encoding) qual = IsTrue (list_all (is_scored encoding) qual)

-- the record that was written: if it was recoded, it is in Sanger's encoding
abbrev pub as_written : Option Encoding → Read → Read
as_written None read = read
as_written (Some encoding) read =
    record read { encoding = Sanger; qual = map (recoded encoding) read.qual }

-- A valid record whose title does not end in CR reads back after it was written, recoded or not,
-- and any text after it is read as it would be alone.
abbrev pub ReadsBack : Type 0
ReadsBack = (read : Read) (recode : Option Encoding) (text : List ℕ) →
    IsLawful read → without_cr read.title ≡ read.title → CanRecode recode read.qual →
    let first = as_written recode read in
    records first.encoding (written read.title read.seq (written_quality recode read.qual) ++ text)
    ≡ with_first first (records first.encoding text)
