-- A record of four unwrapped lines, as most FASTQ files have them. All lines end in LF, or all in
-- CR and LF, and the third line is `+` alone or `+` and the title.
use Rattle.std.specs.Prelude.{◌≡◌, ℕ, ◌+◌, ◌-◌, ◌*◌, ◌<◌, ◌≤◌, ◌⊎◌, List, length, take, drop, slice_index}
use Rattle.fq_text.specs.declared.encoding.Encoding.{Encoding}
use Rattle.fq_text.specs.declared.unwrapped.Shape.{Shape}
use Rattle.fq_text.specs.Lines.{line_feed, carriage_return, without_cr}
use Rattle.fq_text.specs.Reading.{NoLf}
use Rattle.fq_text.specs.Grammar.{at_sign, plus_sign, Read, IsLawful}

-- the record whose parts are in these bytes, which are the lines without the first `@`
abbrev pub unwrapped : Encoding → Shape → List ℕ → Read
unwrapped encoding s bytes = record {
  encoding = encoding;
  title = take s.title bytes;
  seq = take s.bases (drop (s.title + s.end) bytes);
  qual = take s.bases (drop (s.title + s.bases + s.again + 3 * s.end + 1) bytes);
}

-- the length of its four lines without the last line end
abbrev pub lines_len : Shape → ℕ
lines_len s = s.title + s.bases + s.bases + s.again + 3 * s.end + 2

-- where its third line begins, with the `+`
abbrev pub plus_place : Shape → ℕ
plus_place s = s.title + s.bases + 2 * s.end + 1

-- there is a line end of `end` bytes at this index
pub record EndsAt (hand : List ℕ) (place end : ℕ) : Type 0 where
  pub lf : slice_index hand (place + end - 1) ≡ line_feed
  pub cr : (end ≡ 1) ⊎ (slice_index hand place ≡ carriage_return)

-- The first line of a text, and its end: LF, or CR and LF. If the end is LF alone, no CR is before
-- it.
pub record IsFirstLine (text : List ℕ) (len end : ℕ) : Type 0 where
  pub end_is : (end ≡ 1) ⊎ (end ≡ 2)
  pub fits : len + end ≤ length text
  pub no_lf : NoLf text len
  pub ends : EndsAt text len end
  pub plain : end ≡ 1 → without_cr (take len text) ≡ take len text

-- each of the four line ends of this shape is at its place
pub record DoLinesEnd (hand : List ℕ) (s : Shape) : Type 0 where
  pub title : EndsAt hand (s.title + 1) s.end
  pub seq : EndsAt hand (s.title + s.bases + s.end + 1) s.end
  pub plus : EndsAt hand (s.title + s.bases + s.again + 2 * s.end + 2) s.end
  pub qual : EndsAt hand (lines_len s) s.end

-- `@`, `+`, the line ends and the text after the `+` are at the places of this shape
pub record IsFourLines (hand : List ℕ) (s : Shape) : Type 0 where
  pub fits : lines_len s + s.end ≤ length hand
  pub mark : slice_index hand 0 ≡ at_sign
  pub plus : slice_index hand (plus_place s) ≡ plus_sign
  pub ends : DoLinesEnd hand s
  pub repeats : take s.again (drop (plus_place s + 1) hand) ≡ take s.again (drop 1 hand)

-- a shape that four lines can have: all end alike
pub record IsShape (s : Shape) : Type 0 where
  pub end : (s.end ≡ 1) ⊎ (s.end ≡ 2)
  pub again : (s.again ≡ 0) ⊎ (s.again ≡ s.title)

-- These bytes begin with a valid record of this shape. A title that is followed by LF alone does
-- not end in CR.
pub record BeginsWithRecord (encoding : Encoding) (hand : List ℕ) (s : Shape) : Type 0 where
  pub shape : IsShape s
  pub lines : IsFourLines hand s
  pub some : 0 < s.bases
  pub lawful : IsLawful (unwrapped encoding s (drop 1 hand))
  pub plain : s.end ≡ 1 → without_cr (take s.title (drop 1 hand)) ≡ take s.title (drop 1 hand)
