-- The lines that the first record in a list of lines takes, whatever lines follow them.
use Rattle.std.proofs.Common.{arith, ◌≡◌, ℕ, suc, ◌-◌, Some, List, [], ◌∷◌, ◌++◌, length, refl, ap, sym, ◌∙◌, append_assoc}
use Rattle.std.specs.List.{concat}
use Rattle.std.proofs.lemmas.List.{append_cancel_right}
use Rattle.std.proofs.lemmas.Grind.{common_steps}
use Rattle.fq_text.specs.declared.encoding.Encoding.{Encoding}
use Rattle.fq_text.specs.Grammar.{Read, Front, Found, front, before_plus, from_plus, quality_lines, after_quality, from_plus_line, from_title_line}
use Rattle.fq_text.proofs.LawfulLemmas.{passed, complete}
use Rattle.fq_pair.proofs.PairLaws.{records_of, records_of-front}

-- these lines are those up to a record's end and the rest, and whatever lines follow instead of the
-- rest, the record comes first and leaves them
pub record TakesLines (found : List (List ℕ) → Front) (r : Read) (ls rest : List (List ℕ)) : Type 0
  where
    pub taken : List (List ℕ)
    pub split : ls ≡ taken ++ rest
    pub always : (others : List (List ℕ)) → found (taken ++ others) ≡ Found r others

quality_split : (n : ℕ) (ls rest : List (List ℕ)) → after_quality n ls ≡ Some rest →
    ls ≡ quality_lines n ls ++ rest
quality_split n [] rest is = grind (arith, common_steps)
quality_split n (l ∷ ls) rest is =
    grind (arith, common_steps, quality_split (n - length l) ls rest)

quality_again : (n : ℕ) (ls rest others : List (List ℕ)) → after_quality n ls ≡ Some rest →
    (quality_lines n (quality_lines n ls ++ others) ≡ quality_lines n ls)
    × (after_quality n (quality_lines n ls ++ others) ≡ Some others)
quality_again n [] rest [] is = grind (arith, common_steps)
quality_again n [] rest (m ∷ others) is = grind (arith, common_steps)
quality_again n (l ∷ ls) rest [] is =
    grind (arith, common_steps, quality_again (n - length l) ls rest [])
quality_again n (l ∷ ls) rest (m ∷ others) is =
    grind (arith, common_steps, quality_again (n - length l) ls rest (m ∷ others))

sequence_split : (ls : List (List ℕ)) → ls ≡ before_plus ls ++ from_plus ls
sequence_split [] = refl
sequence_split (l ∷ ls) = grind (arith, common_steps, sequence_split ls)

sequence_again : (ls : List (List ℕ)) (plus : List ℕ) (ps others : List (List ℕ)) →
    from_plus ls ≡ plus ∷ ps →
    (before_plus (before_plus ls ++ (plus ∷ others)) ≡ before_plus ls)
    × (from_plus (before_plus ls ++ (plus ∷ others)) ≡ plus ∷ others)
sequence_again [] plus ps others is = absurd cc
sequence_again (l ∷ ls) plus ps others is =
    grind (arith, common_steps, sequence_again ls plus ps others)

-- the lines after a plus line
plus_takes : (e : Encoding) (title bases plus : List ℕ) (r : Read) (ls rest : List (List ℕ)) →
    from_plus_line e title bases (plus ∷ ls) ≡ Found r rest →
    TakesLines (λ xs. from_plus_line e title bases (plus ∷ xs)) r ls rest
plus_takes e title bases plus r ls rest is = record {
  taken = quality_lines (length bases) ls;
  split = grind (arith, common_steps, passed, complete, quality_split);
  always = λ others. grind (arith, common_steps, passed, complete, quality_again);
}

-- the lines after a title line, if these come from the plus line on
title_takes : (e : Encoding) (b : ℕ) (bs : List ℕ) (r : Read) (ls ps rest : List (List ℕ)) →
    from_plus ls ≡ ps → from_title_line e (b ∷ bs) ls ≡ Found r rest →
    TakesLines (λ xs. from_title_line e (b ∷ bs) xs) r ls rest
title_takes e b bs r ls [] rest from is = absurd (grind (arith, common_steps, passed))
title_takes e b bs r ls (plus ∷ ps) rest from is =
    let t = plus_takes e bs (concat (before_plus ls)) plus r ps rest (grind (
      arith,
      common_steps,
      passed,
    )) in
    record {
      taken = before_plus ls ++ (plus ∷ t.taken);
      split = grind (arith, common_steps, sequence_split, append_assoc, t.split);
      always = λ others.
          grind (arith, common_steps, passed, sequence_again, append_assoc, t.always others);
    }

-- a record that comes first takes lines, and comes first whatever lines follow these
pub front_takes : (e : Encoding) (r : Read) (ls rest : List (List ℕ)) → front e ls ≡ Found r rest →
    TakesLines (front e) r ls rest
front_takes e r [] rest is = absurd cc
front_takes e r ([] ∷ ls) rest is =
    let t = front_takes e r ls rest is in
    record { taken = [] ∷ t.taken; split = ap (λ xs. [] ∷ xs) t.split; always = t.always }
front_takes e r ((b ∷ bs) ∷ ls) rest is =
    let t = title_takes e b bs r ls (from_plus ls) rest refl is in record {
      taken = (b ∷ bs) ∷ t.taken;
      split = ap (λ xs. (b ∷ bs) ∷ xs) t.split;
      always = t.always;
    }

-- a record also comes first in fewer lines, if the same lines are missing after it
pub front_fewer : (e : Encoding) (r : Read) (ls rest more : List (List ℕ)) →
    front e (ls ++ more) ≡ Found r (rest ++ more) → front e ls ≡ Found r rest
front_fewer e r ls rest more is =
    let t = front_takes e r (ls ++ more) (rest ++ more) is in
    let same : ls ≡ t.taken ++ rest = append_cancel_right ls (t.taken ++ rest) more (t.split
    ∙ sym (append_assoc t.taken rest more)) in
    ap (front e) same ∙ t.always rest

-- the first one, and those after it
pub one_record : (e : Encoding) (r : Read) (ls rest : List (List ℕ)) → front e ls ≡ Found r rest →
    length (records_of e ls).reads ≡ suc (length (records_of e rest).reads)
one_record e r ls rest is = grind (arith, common_steps, records_of-front, records_of)
