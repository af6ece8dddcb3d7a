use Rattle.std.proofs.Common.{◌≡◌, map, ◌<◌, List, [], ◌∷◌, ◌++◌, ℕ, length, ap, sym, subst, ◌∙◌, arith}
use Rattle.std.proofs.Common.{Result, Ok, Err, OnOk, OnErr}
use Rattle.std.proofs.lemmas.List.{map-append}
use Rattle.std.specs.Prelude.{vec_len}
use Rattle.fq_pair.specs.Mates.{Mates, mates_in, name_lengths}
use Rattle.fq_block.specs.Packing.{packed_pair}
use Rattle.fq_block.specs.Blocks.{Numbered, Fits, IsPacked, AreNamed, pairs_at}
use Rattle.fq_block.proofs.BlockLemmas.{length-pairs_at, pairs_at-pushed, IsPacked-pushed}
use Rattle.fq_block.proofs.block.Block.push_named.Goals as goal

-- the same holds after the pushes and after a refusal
either : {T E : Type 0} (r : Result T E) (A B C D F G Q : Type 0) → OnOk r A → OnOk r B → OnOk r C →
    OnErr r D → OnErr r F → OnErr r G → (A → B → C → Q) → (D → F → G → Q) → Q
either (Ok x) A B C D F G Q a b c d f g pushed refused = pushed a b c
either (Err e) A B C D F G Q a b c d f g pushed refused = refused d f g

-- it holds after the pushes
if_pushed : {T E : Type 0} (r : Result T E) (A B Q : Type 0) → OnOk r A → OnOk r B → (A → B → Q) →
    OnOk r Q
if_pushed (Ok x) A B Q a b pushed = pushed a b
if_pushed (Err e) A B Q a b pushed = tt

module _ (c : goal.After-append) where
  abbrev pair_of : Mates
  pair_of = mates_in c.args.pair.now.forward c.args.pair.now.reverse

  fits : Fits c.self.inside.encoding pair_of
  fits =
      let encoding = ap (λ (n : Numbered). n.encoding) c.self.view_is in record {
        encodings = (c.requires.encoding.0 ∙ sym encoding, c.requires.encoding.1 ∙ sym encoding);
        forward = c.append.ensures.forward;
        reverse = c.append.ensures.reverse;
      }

  abbrev bytes_after : List ℕ
  bytes_after = c.self.inside.bytes.items ++ packed_pair pair_of

  abbrev starts_after : List ℕ
  starts_after = c.self.inside.starts.items ++ length c.self.inside.bytes.items ∷ []

  abbrev Pushed : Type 0
  Pushed = c.append.new.starts.items ≡ c.self.inside.starts.items ++ vec_len
      c.self.inside.bytes ∷ []

  starts_are : Pushed → c.append.new.starts.items ≡ starts_after
  starts_are starts = starts ∙ ap (λ at. c.self.inside.starts.items ++ at ∷ [])
      c.self.inside.bytes.ok.0

-- the bytes are still the packing of the pairs, and the lengths those of their names
pub invariant_of-self : goal.invariant_of-self
invariant_of-self c =
    let block = c.self.inside in
    let m = pair_of c in
    let before = pairs_at block.encoding block.bytes.items block.starts.items in
    let room : length block.starts.items < 65536 =
    omega (
      arith,
      ap (λ (n : Numbered). length n.pairs) c.self.view_is,
      length-pairs_at _ _ _
          c.self.invariant.0,
      c.requires.room,
    ) in
    let P : List ℕ → List ℕ → Type 0 = λ b s. IsPacked block.encoding b s × AreNamed
    (pairs_at block.encoding b s) c.append.new.names.items in
    either c.append.result _ _ _ _ _ _ (P c.append.new.bytes.items c.append.new.starts.items)
    c.append.ensures.bytes c.append.ensures.starts c.append.ensures.names
    c.append.ensures.err_bytes c.append.ensures.err_starts c.append.ensures.err_names
    (λ bytes starts names.
    let named : c.append.new.names.items ≡ map name_lengths (before ++ m ∷ []) =
    names
    ∙ ap (λ ns. ns ++ c.args.names ∷ []) c.self.invariant.1
    ∙ ap (λ n. map name_lengths before ++ n ∷ []) c.requires.names
    ∙ sym (map-append name_lengths before (m ∷ [])) in
    subst (λ b. P b c.append.new.starts.items) (sym bytes)
    (subst (λ s. P (bytes_after c) s) (sym (starts_are c starts)) (
      IsPacked-pushed block.encoding block.bytes.items block.starts.items c.self.invariant.0 m
          (fits c) room,
      named ∙ ap (map name_lengths) (sym (pairs_at-pushed block.encoding block.bytes.items
          block.starts.items c.self.invariant.0 m (fits c))),
    )))
    (λ bytes starts names.
    subst (λ b. P b c.append.new.starts.items) (sym bytes)
    (subst (λ s. P block.bytes.items s) (sym starts) (
      c.self.invariant.0,
      names
          ∙ c.self.invariant.1,
    )))

-- the block has one more pair, the last
pub returns-clause-ok : goal.returns-clause-ok
returns-clause-ok c =
    let block = c.self.inside in
    let m = pair_of c in
    let with_pairs = λ (ms : List Mates). let n : Numbered =
    record { number = block.number; encoding = block.encoding; pairs = ms } in n in
    if_pushed c.append.result _ _ _ c.append.ensures.bytes c.append.ensures.starts
    (λ bytes starts.
    ap (λ (b : List ℕ). with_pairs (pairs_at block.encoding b c.append.new.starts.items)) bytes
    ∙ ap (λ (s : List ℕ). with_pairs (pairs_at block.encoding (bytes_after c) s))
    (starts_are c starts)
    ∙ ap with_pairs (pairs_at-pushed block.encoding block.bytes.items block.starts.items
    c.self.invariant.0 m (fits c))
    ∙ ap (λ (n : Numbered). let k : Numbered =
    record { number = n.number; encoding = n.encoding; pairs = n.pairs ++ m ∷ [] } in
    k) c.self.view_is)
