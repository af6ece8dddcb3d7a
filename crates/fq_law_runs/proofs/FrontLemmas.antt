-- Lines in which nothing comes first leave what comes first in the lines after them.
use Rattle.std.proofs.Common.{◌≡◌, ℕ, Option, List, [], ◌∷◌, ◌++◌, refl, arith}
use Rattle.std.proofs.lemmas.Grind.{common_steps}
use Rattle.fq_text.specs.declared.encoding.Encoding.{Encoding}
use Rattle.fq_text.specs.Grammar.{Read, Front, End, front, unless_faulty, completed, from_plus_line}

not_faulty : (o : Option _) (x : Front) → unless_faulty o x ≡ End → x ≡ End
not_faulty o x is = grind (arith, common_steps)

completed_goes_on : (r : Read) (o : Option (List (List ℕ))) → completed r o ≡ End → ⊥
completed_goes_on r o is = grind (arith, common_steps)

plus_goes_on : (e : Encoding) (title bases : List ℕ) (ls : List (List ℕ)) →
    from_plus_line e title bases ls ≡ End → ⊥
plus_goes_on e title bases [] is = cc
plus_goes_on e title bases (plus ∷ ls) is =
    grind (arith, common_steps, not_faulty, completed_goes_on)

-- after lines with no record and no fault, the front is that of the lines that follow
pub front_after : (e : Encoding) (ls more : List (List ℕ)) → front e ls ≡ End →
    front e (ls ++ more) ≡ front e more
front_after e [] more is = refl
front_after e ([] ∷ ls) more is = front_after e ls more is
front_after e ((b ∷ bs) ∷ ls) more is = grind (arith, common_steps, not_faulty, plus_goes_on)
