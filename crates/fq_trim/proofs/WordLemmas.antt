-- The pieces of an argument, and the numbers that they write.
use Rattle.std.proofs.Common.{◌≡◌, ℕ, ◌+◌, ◌-◌, ◌*◌, ◌<◌, ◌≤◌, true, List, [], ◌∷◌, length, fold, Result, Ok, Err, Option, Some, None, is_some, not, arith, rules, leb, eqb}
use Rattle.std.specs.Char.{is_ascii_digit}
use Rattle.std.specs.List.{list_all, position_or_len}
use Rattle.std.specs.Str.Parse.{ParsesUnsigned}
use Rattle.std.proofs.lemmas.Bool.{and_parts, leb-true, ne_eqb, cond-true, not_from_false, false≢true}
use Rattle.std.proofs.lemmas.List.Elements.{All-from_get_or}
use Rattle.std.proofs.lemmas.List.Splits.{slice_split_none, length-slice_split}
use Rattle.std.proofs.lemmas.List.Sums.{fails_before_first}
use Rattle.std.proofs.lemmas.Str.Parse.{IsDigitsTest, FoldsDigits, IsNumeralModel, numerals_by_fold, digits_value_short, parse_gives}
use Rattle.std.proofs.lemmas.Grind.{common_steps}
use denote.Ref.{Bor}
use Rattle.fq_trim.specs.declared.fault.StepFaultKind.TheVariants.{WrongCount}
use Rattle.fq_trim.specs.Words.{pieces, pieces_in, is_number, number_of, numbers_of}

-- an argument without a colon is its one piece
pub pieces_none : (word : List ℕ) → position_or_len (λ b. eqb b 58) word ≡ length word →
    pieces word ≡ word ∷ []
pieces_none word none =
    grind (arith, common_steps, slice_split_none, All-from_get_or, fails_before_first)

-- an argument has a piece
pieces_some : (word : List ℕ) → 0 < length (pieces word)
pieces_some word = omega (arith, length-slice_split (λ b. eqb b 58) word)

-- the text after a colon has a piece
pub pieces_behind : (rest : Option (Bor (List ℕ))) → is_some rest ≡ true →
    0 < length (pieces_in rest)
pieces_behind None is = absurd (false≢true is)
pieces_behind (Some text) is = pieces_some text.now

digits : IsDigitsTest (λ ds. list_all is_ascii_digit ds ≡ true)
digits = search rules

reading : FoldsDigits (λ n ds. fold (λ n digit. 10 * n + (digit - 48)) n ds)
reading = search rules

decimal : IsNumeralModel (λ ds. list_all is_ascii_digit ds ≡ true) number_of
decimal = numerals_by_fold (λ ds. list_all is_ascii_digit ds ≡ true) digits
    (λ n ds. fold (λ n digit. 10 * n + (digit - 48)) n ds) reading

-- the number that a piece writes is at most 999999999
pub number_small : (piece : List ℕ) → is_number piece ≡ true → number_of piece ≤ 999999999
number_small piece is =
    let parts = and_parts _ (list_all is_ascii_digit piece) is in
    let short = leb-true (length piece) 9 (and_parts (leb 1 (length piece)) _ parts.0).1 in
    let small = digits_value_short decimal piece 9 parts.1 short in
    omega arith

-- what std parses from a piece that is a number
pub number_read : {E : Type 0} (piece : List ℕ) (r : Result ℕ E) → ParsesUnsigned 32 10 piece r →
    is_number piece ≡ true → r ≡ Ok (number_of piece)
number_read piece r h is =
    grind (arith, common_steps, and_parts, leb-true, number_small, parse_gives, decimal)

-- more or fewer pieces than the kind takes
pub wrong_count : (smallest : List ℕ) (numbers : List (List ℕ)) →
    (length numbers ≡ length smallest → ⊥) → numbers_of smallest numbers ≡ Err WrongCount
wrong_count smallest numbers differ = cond-true (not (eqb (length numbers) (length smallest))) _ _
    (not_from_false _ (ne_eqb _ _ differ))
