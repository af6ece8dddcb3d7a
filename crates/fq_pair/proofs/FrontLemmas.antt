-- What comes first in a list of lines also comes first if more lines follow.
use Rattle.std.proofs.Common.{◌≡◌, ℕ, List, ◌++◌, ap, ◌∙◌, append_assoc}
use Rattle.fq_text.specs.declared.encoding.Encoding.{Encoding}
use Rattle.fq_text.specs.Grammar.{Read, Found, front}
use Rattle.fq_pair.proofs.TakenLemmas.{front_takes}

module _ (more : List (List ℕ)) (e : Encoding) (r : Read) (rest : List (List ℕ)) where
  -- a record that comes first also comes first if more lines follow, and leaves these too
  pub front_more : (ls : List (List ℕ)) → front e ls ≡ Found r rest →
      front e (ls ++ more) ≡ Found r (rest ++ more)
  front_more ls is =
      let t = front_takes e r ls rest is in
      ap (λ xs. front e (xs ++ more)) t.split ∙ ap (front e) (append_assoc t.taken rest more)
      ∙ t.always (rest ++ more)
