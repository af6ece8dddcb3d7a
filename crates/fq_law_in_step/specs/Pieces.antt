-- What is left of a read, as the outputs and the log show it.
use Rattle.std.specs.Prelude.{◌≡◌, ℕ, zero, suc, ◌+◌, ◌-◌, ◌≤◌, Bool, true, false, ◌||◌, ◌&&◌, nat_le, nat_lt, List, [], ◌∷◌, ◌++◌, length, take, drop, flat_map, if◌then◌else◌}
use Rattle.std.specs.Bool.{then_some}
use Rattle.std.specs.List.{All}
use Rattle.fq_text.specs.declared.encoding.Encoding.{Encoding}
use Rattle.fq_text.specs.declared.encoding.Encoding.TheVariants.{Sanger}
use Rattle.fq_text.specs.Lines.{without_cr}
use Rattle.fq_text.specs.Grammar.{Read, at_sign, plus_sign, begins_with}
use Rattle.fq_text.specs.Written.{as_written, written_quality, line}
use Rattle.fq_trim.specs.declared.step.Step.{Step}
use Rattle.fq_trim.specs.Keeping.{recodes}
use Rattle.fq_trim.specs.KeptPlaces.{kept_places, survives, bytes_at}
use Rattle.fq_pair.specs.declared.side.Side.{Side}
use Rattle.fq_pair.specs.Mates.{name_of}
use Rattle.fq_pair.specs.Outputs.{field, log_line}

-- what the steps leave of a read: its title, and the bases and quality bytes at the places that
-- they keep
abbrev pub left_of : List Step → Read → Read
left_of steps read = record {
  encoding = read.encoding;
  title = read.title;
  seq = bytes_at (kept_places steps read) read.seq;
  qual = bytes_at (kept_places steps read) read.qual;
}

-- a trimmed read, as an output shows it: with TOPHRED33 its quality is in Sanger's encoding
abbrev pub trimmed : List Step → Read → Read
trimmed steps read = as_written (then_some (recodes steps) read.encoding) (left_of steps read)

-- the encoding of the outputs
abbrev pub encoding_out : List Step → Encoding → Encoding
encoding_out steps encoding = if recodes steps then Sanger else encoding

-- quality bytes, as an output shows them
abbrev pub quality_out : List Step → Encoding → List ℕ → List ℕ
quality_out steps encoding qual = written_quality (then_some (recodes steps) encoding) qual

-- Which reads can be read again.

-- A plain read: its title doesn't end in CR, and the first base that is left is neither @ nor +.
pub record IsPlain (steps : List Step) (read : Read) : Type 0 where
  pub title : without_cr read.title ≡ read.title
  pub no_title : begins_with at_sign (left_of steps read).seq ≡ false
  pub no_plus : begins_with plus_sign (left_of steps read).seq ≡ false

-- a letter, in either case
abbrev pub is_letter : ℕ → Bool
is_letter byte = (nat_le 65 byte && nat_le byte 90) || (nat_le 97 byte && nat_le byte 122)

-- a read whose bases are letters is plain, if its title doesn't end in CR
abbrev pub LettersArePlain : Type 0
LettersArePlain = (steps : List Step) (read : Read) → length read.qual ≡ length read.seq →
    without_cr read.title ≡ read.title → All (λ base. is_letter base ≡ true) read.seq →
    IsPlain steps read

-- One piece.

-- the numbers of a log line: bases left, bases removed at the start, the place of the last base
-- that is left, bases removed at the end
abbrev pub piece_numbers : ℕ → ℕ → ℕ → List ℕ
piece_numbers bases start zero = 0 ∷ 0 ∷ 0 ∷ 0 ∷ []
piece_numbers bases start (suc n) = suc n ∷ start ∷ (start + suc n) ∷ (bases - start - suc n) ∷ []

-- What is left of a read is `len` bases from the place `start` on (counted from 0), with their
-- quality bytes. A read that survives has at least one base.
pub record IsOnePiece (steps : List Step) (read : Read) : Type 0 where
  pub start : ℕ
  pub len : ℕ
  pub within : start + len ≤ length read.seq
  pub title : (trimmed steps read).title ≡ read.title
  pub bases : (trimmed steps read).seq ≡ take len (drop start read.seq)
  pub quality : (trimmed steps read).qual
      ≡ quality_out steps read.encoding (take len (drop start read.qual))
  pub some : survives steps read ≡ nat_lt 0 len
  pub logged : (side : Side) → log_line side (kept_places steps read) read
      ≡ line (name_of side read.title ++ flat_map field (piece_numbers (length read.seq) start len))

-- what is left of a read with equally many bases and quality bytes is one piece of it
abbrev pub ReadsStayInOnePiece : Type 0
ReadsStayInOnePiece = (steps : List Step) (read : Read) →
    length read.qual ≡ length read.seq → IsOnePiece steps read
