-- A number in decimal digits, as an option takes it.
use Rattle.std.proofs.Common.{◌≡◌, ◌≢◌, ◌<◌, ◌≤◌, ◌^◌, ◌&&◌, ℕ, Bool, true, false, List, [], ◌∷◌, length, refl, ap, ap₂, ◌∙◌, arith, nat_lt, nat_le, decimal, lt-ltb, get_or, if◌then◌else◌}
use Rattle.std.specs.List.{list_all}
use Rattle.std.specs.Char.{digit_value}
use Rattle.std.specs.Str.Parse.{AllDigits, digits_value, without_leading_plus}
use Rattle.std.proofs.lemmas.Bool.{ne_eqb}
use Rattle.std.proofs.lemmas.Fmt.{decimal_is_IsNumeral}
use Rattle.std.proofs.lemmas.Str.Parse.{digit_from_value, without_leading_plus_none}
use Rattle.clap.specs.ValueTests.{is_numeral, is_unsigned_in}
use Rattle.fq_text.specs.Grammar.{begins_with}
use Rattle.fq_app_words.specs.Words.{most, number_of}
use Rattle.fq_app_words.specs.CommandLines.{IsPlain}

digits_pass : (ds : List ℕ) → AllDigits 10 ds → list_all (λ d. nat_lt (digit_value d) 10) ds ≡ true
digits_pass [] h = refl
digits_pass (d ∷ ds) h = rw (lt-ltb (digit_value d) 10 h.0) (digits_pass ds h.1)

no_plus : (ds : List ℕ) → AllDigits 10 ds → 0 < length ds → get_or ds 0 0 ≢ 43
no_plus [] digits some = absurd (omega arith)
no_plus (d ∷ ds) digits some = λ e. let range = digit_from_value d digits.0 in
    omega (arith, range.0)

no_hyphen : (ds : List ℕ) → AllDigits 10 ds → begins_with 45 ds ≡ false
no_hyphen [] digits = refl
no_hyphen (d ∷ ds) digits = ne_eqb d 45 (λ e. let range = digit_from_value d digits.0 in
    omega (arith, range.0))

unfoldable pub is_below : ℕ → Bool
is_below n = nat_lt n (2 ^ 64) && (nat_le 0 n && nat_le n most)

small : (n : ℕ) → n < 2 ^ 64 → is_below n ≡ true
unfolding is_below
small n h = grind (arith, lt-ltb n (2 ^ 64) h)

-- digits of a number of 64 bits pass the test of a value
pub digits_fit : (ds : List ℕ) → 0 < length ds → AllDigits 10 ds → digits_value 10 ds < 2 ^ 64 →
    (is_numeral ds && is_below (digits_value 10 ds)) ≡ true
digits_fit ds some digits fits =
    let all : is_numeral ds ≡ true = rw (lt-ltb 0 (length ds) some) (digits_pass ds digits) in
    ap₂ (λ a b. a && b) all (small (digits_value 10 ds) fits)

module _ (n : ℕ) (fits : n ≤ most) where
  below : n < 2 ^ 64
  below = omega arith

  -- a number in decimal digits doesn't begin with a hyphen
  pub decimal_plain : IsPlain (decimal n)
  decimal_plain = no_hyphen (decimal n) (decimal_is_IsNumeral n below).0.1

  unsigned : without_leading_plus (decimal n) ≡ decimal n
  unsigned =
      let is = (decimal_is_IsNumeral n below).0 in
      without_leading_plus_none (decimal n) (no_plus (decimal n) is.1 is.0)

  -- the option takes it
  pub decimal_fits : is_unsigned_in 0 most (decimal n) ≡ true
  unfolding is_below
  decimal_fits =
      let is = decimal_is_IsNumeral n below in
      ap (λ ds. is_numeral ds && is_below (digits_value 10 ds)) unsigned
      ∙ digits_fit (decimal n) is.0.0 is.0.1 (omega (arith, is.1))

  -- and it is read as the number
  pub decimal_read : number_of (decimal n) ≡ n
  decimal_read =
      ap (λ (b : Bool). if b then digits_value 10 (without_leading_plus (decimal n)) else 0)
      decimal_fits
      ∙ ap (digits_value 10) unsigned
      ∙ (decimal_is_IsNumeral n below).1
