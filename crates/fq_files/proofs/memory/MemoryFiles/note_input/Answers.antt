use Rattle.std.proofs.Common.{◌≡◌, ◌∙◌, true, false, sym, ⊎_elim, string_bytes}
use Rattle.std.proofs.lemmas.Bool.{cases_Bool, cond-true, cond-false, false_from_ne_true}
use Rattle.std.proofs.lemmas.Map.Text.{btree_set_updates_text}
use Rattle.std.proofs.lemmas.Slice.Eq.{bytes_eq-Decides}
use Rattle.std.specs.Str.{bytes_eq}
use Rattle.fq_files.proofs.memory.MemoryFiles.note_input.Goals as goal

-- the other names are other keys of the set
pub returns-clause-others : goal.returns-clause-others
returns-clause-others c = λ other differs.
    let key = string_bytes c.in_ok-key.key in
    let sets = btree_set_updates_text key c.args.self.now.inputs c.insert.new.self true
    c.in_ok-insert.ensures.updates other in
    let apart : bytes_eq key other ≡ false =
    false_from_ne_true (bytes_eq key other)
    (λ same. differs (sym ((bytes_eq-Decides key other).0 same) ∙ c.in_ok-key.ensures.ok)) in
    sets ∙ cond-false (bytes_eq key other) true _ apart

-- a set to which a key is added keeps the others
pub returns-clause-remains : goal.returns-clause-remains
returns-clause-remains c = λ other was.
    let key = string_bytes c.in_ok-key.key in
    let sets = btree_set_updates_text key c.args.self.now.inputs c.insert.new.self true
    c.in_ok-insert.ensures.updates other in
    ⊎_elim (λ same. sets ∙ cond-true (bytes_eq key other) true _ same) (λ apart. sets
    ∙ (cond-false (bytes_eq key other) true _ apart ∙ was)) (cases_Bool (bytes_eq key other))
