-- Bytes that have a score, and the names of encodings.
use Rattle.std.proofs.Common.{◌≡◌, ℕ, ◌+◌, ◌-◌, ◌<◌, ◌≤◌, Bool, true, ◌&&◌, eqb, Option, Some, unwrap_or, cond, List, [], ◌∷◌, ◌++◌, length, take, drop, map, get_or, refl, ap, sym, ◌∙◌, arith}
use Rattle.std.proofs.lemmas.Slice.Eq.{bytes_eq-Decides}
use Rattle.std.specs.Str.{bytes_eq}
use Rattle.std.specs.List.{list_all}
use Rattle.std.proofs.lemmas.Bool.{cases_Bool, and_parts, and_from, leb-true, eqb-true, agree_below, agree_below_at}
use Rattle.std.proofs.lemmas.List.{take-append-drop}
use Rattle.std.proofs.lemmas.List.Folds.{list_all-append}
use Rattle.std.proofs.lemmas.Grind.{common_steps}
use Rattle.fq_text.specs.declared.encoding.Encoding.{Encoding}
use Rattle.fq_text.specs.declared.encoding.Encoding.TheVariants.{Sanger, Solexa}
use Rattle.fq_text.specs.declared.encoding.TheConstants.{PHRED_OF_SOLEXA}
use Rattle.fq_text.specs.Scores.{lowest, is_scored, phred_of_solexa, value_of, recoded, encoding_name, encoding_of, NamesAreInverse}

-- what holds of each member holds of the one at an index
pub at_place : (p : ℕ → Bool) (xs : List ℕ) (i : ℕ) → list_all p xs ≡ true → i < length xs →
    p (get_or xs i 0) ≡ true
at_place p xs i all within = grind (arith, common_steps)

-- all members pass exactly if the first n do, and those after them
pub all_parts : {T : Type 0} (p : T → Bool) (n : ℕ) (xs : List T) →
    list_all p xs ≡ list_all p (take n xs) && list_all p (drop n xs)
all_parts p n xs = ap (list_all p) (sym (take-append-drop n xs))
    ∙ list_all-append p (take n xs) (drop n xs)

-- no encoding has a score below byte 33
pub low_base : (e : Encoding) → 33 ≤ lowest e
low_base e = grind (arith, common_steps)

-- a score is at most 93 in each encoding
pub value_small : (e : Encoding) (b : ℕ) → is_scored e b ≡ true → value_of e b ≤ 93
value_small e b is = grind (arith, common_steps)

-- the table in the code has this score for byte k + 59
abbrev in_table : ℕ → Bool
in_table k = eqb (get_or PHRED_OF_SOLEXA k 0) (phred_of_solexa (k + 59))

-- the table in the code, from byte 59 on, is that of the definition
table_below : agree_below in_table (λ k. true) 68 ≡ true
table_below = refl

-- the table in the code has the score of each byte that has one in Solexa's encoding
pub table_at : (k b : ℕ) → is_scored Solexa b ≡ true → k ≡ b - 59 →
    get_or PHRED_OF_SOLEXA k 0 ≡ value_of Solexa b
table_at k b is place =
    let parts = and_parts _ _ is in
    let least : 59 ≤ b = leb-true 59 b parts.0 in
    let most : b ≤ 126 = leb-true b 126 parts.1 in
    let byte : k + 59 ≡ b = omega arith in
    eqb-true _ _ (agree_below_at in_table (λ k. true) 68 k table_below (omega arith))
    ∙ ap phred_of_solexa byte

-- a score at offset 33 is one of Sanger's encoding
pub recoded_scored : (e : Encoding) (b : ℕ) → is_scored e b ≡ true →
    is_scored Sanger (recoded e b) ≡ true
recoded_scored e b is = grind (arith, common_steps)

-- while the bytes are recoded one by one, the next of them has a score
pub next_scored : (e : Encoding) (was now : List ℕ) (i : ℕ) → list_all (is_scored e) was ≡ true →
    i < length was → now ≡ map (recoded e) (take i was) ++ drop i was →
    is_scored e (get_or now i 0) ≡ true
next_scored e was now i all within is = grind (arith, common_steps)

-- bytes that all have a score all have one in Sanger's encoding after they are recoded
pub all_recoded_scored : (e : Encoding) (bs : List ℕ) → list_all (is_scored e) bs ≡ true →
    list_all (is_scored Sanger) (map (recoded e) bs) ≡ true
all_recoded_scored e [] all = refl
all_recoded_scored e (b ∷ bs) all = let parts = and_parts _ _ all in
    and_from _ _ (recoded_scored e b parts.0) (all_recoded_scored e bs parts.1)

-- Names.

-- an encoding is found by its name
pub name_found : (e : Encoding) → encoding_of (encoding_name e) ≡ Some e
name_found e = grind (arith, common_steps)

-- a text that is taken for k is the name of k, and another is judged by the others
name_or : (name : List ℕ) (k e : Encoding) (others : Option Encoding) →
    (others ≡ Some e → encoding_name e ≡ name) →
    cond (bytes_eq name (encoding_name k)) (Some k) others ≡ Some e → encoding_name e ≡ name
name_or name k e others rest is =
    grind (arith, common_steps, unwrap_or, bytes_eq-Decides, cases_Bool)

name_taken : (name : List ℕ) (e : Encoding) → encoding_of name ≡ Some e → encoding_name e ≡ name
name_taken name e = grind (arith, common_steps, name_or)

-- the name of an encoding and the encoding of a name undo each other
pub names_are_inverse : NamesAreInverse
names_are_inverse name e = (name_taken name e, λ is. ap encoding_of (sym is) ∙ name_found e)
