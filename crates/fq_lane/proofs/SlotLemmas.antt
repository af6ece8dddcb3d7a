use Rattle.std.proofs.Common.{◌≡◌, Bool, true, false, List, [], ◌∷◌, ◌++◌, refl, sym, ap, ◌∙◌}
use Rattle.std.proofs.lemmas.List.{append-nil}
use Rattle.rtrb.specs.Ends.{SameRing}
use Rattle.rtrb.specs.declared.end.End.{End}
use Rattle.fq_lane.specs.History.{History, Name}
use Rattle.fq_lane.specs.Slots.{slots_of, items_of, IsHistory}
use Rattle.fq_lane.specs.declared.slot.Slot.{Slot}
use Rattle.fq_lane.specs.declared.slot.Slot.TheVariants.{Item, Mark}

module _ {T : Type 0} where
  items-append : (ss ts : List (Slot T)) → items_of (ss ++ ts) ≡ items_of ss ++ items_of ts
  items-append [] ts = refl
  items-append (Item x ∷ ss) ts = ap (λ ys. x ∷ ys) (items-append ss ts)
  items-append (Mark ∷ ss) ts = items-append ss ts

  -- the slots after one more item
  pub slots-item : (xs : List T) (x : T) → slots_of xs false ++ Item x ∷ [] ≡ slots_of
      (xs ++ x ∷ []) false
  slots-item [] x = refl
  slots-item (y ∷ xs) x = ap (λ ss. Item y ∷ ss) (slots-item xs x)

  -- the mark after the slots of some items
  pub slots-mark : (xs : List T) → slots_of xs false ++ Mark ∷ [] ≡ slots_of xs true
  slots-mark [] = refl
  slots-mark (y ∷ xs) = ap (λ ss. Item y ∷ ss) (slots-mark xs)

  -- one more item
  pub item_items : (ss ts : List (Slot T)) (x : T) → IsHistory ss false → ts ≡ ss ++ Item x ∷ [] →
      items_of ts ≡ items_of ss ++ x ∷ []
  item_items ss ts x history is = ap items_of is ∙ items-append ss (Item x ∷ [])

  -- items and one more item are still items alone
  pub item_history : (ss ts : List (Slot T)) (x : T) → IsHistory ss false → ts ≡ ss ++ Item x ∷ [] →
      IsHistory ts false
  item_history ss ts x history is =
      is ∙ ap (λ us. us ++ Item x ∷ []) history ∙ slots-item (items_of ss) x
      ∙ ap (λ ys. slots_of ys false) (sym (item_items ss ts x history is))

  -- the mark after the items
  pub mark_items : (ss ts : List (Slot T)) → IsHistory ss false → ts ≡ ss ++ Mark ∷ [] →
      items_of ts ≡ items_of ss
  mark_items ss ts history is = ap items_of is ∙ items-append ss (Mark ∷ [])
      ∙ append-nil (items_of ss)

  -- items and the mark after them are a history that has its mark
  pub mark_history : (ss ts : List (Slot T)) → IsHistory ss false → ts ≡ ss ++ Mark ∷ [] →
      IsHistory ts true
  mark_history ss ts history is =
      is ∙ ap (λ us. us ++ Mark ∷ []) history ∙ slots-mark (items_of ss)
      ∙ ap (λ ys. slots_of ys true) (sym (mark_items ss ts history is))

  -- nothing comes after the mark
  whole : (xs ys : List T) (rest : List (Slot T)) → slots_of xs true ++ rest ≡ slots_of ys true →
      xs ≡ ys
  whole [] [] rest e = refl
  whole [] (y ∷ ys) rest e = cc
  whole (x ∷ xs) [] rest e = cc
  whole (x ∷ xs) (y ∷ ys) rest e =
      let t : slots_of xs true ++ rest ≡ slots_of ys true = cc in
      let r : xs ≡ ys = whole xs ys rest t in
      cc

  -- what was got up to the mark is all that was sent
  pub whole_items : (got rest sent : List (Slot T)) → IsHistory got true → IsHistory sent true →
      got ++ rest ≡ sent → items_of got ≡ items_of sent
  whole_items got rest sent g s e = whole (items_of got) (items_of sent) rest
      (ap (λ us. us ++ rest) (sym g) ∙ e ∙ s)

  -- slots that equal those of a history are that history
  pub history_along : (ss ts : List (Slot T)) (b : Bool) → IsHistory ss b → ts ≡ ss → IsHistory ts b
  history_along ss ts b history is = is ∙ history ∙ ap (λ us. slots_of (items_of us) b) (sym is)

  -- histories with the same name, items and mark are equal
  pub history_is : (m n : Name) (xs ys : List T) (b c : Bool) → m ≡ n → xs ≡ ys → b ≡ c
      → (let l : History T = record { name = m; items = xs; marked = b } in l)
      ≡ (let l : History T = record { name = n; items = ys; marked = c } in l)
  history_is m n xs ys b c p q r = cc

module _ {T A P : Type 0} where
  -- ends of the same ring have the same name
  pub same_name : (a b : End T A P) → SameRing a b →
      (let n : Name = (b.words, (b.slots, b.names)) in n) ≡ (let n : Name =
      (a.words, (a.slots, a.names)) in n)
  same_name a b r = let p = r.0 in let q = r.1 in let s = r.2 in cc
