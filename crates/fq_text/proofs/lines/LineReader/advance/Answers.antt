use Rattle.std.proofs.Common.{◌≡◌, ℕ, ◌+◌, ◌<◌, ◌≤◌, List, length, arith, ap, sym, ◌∙◌, refl, ⊎_elim}
use Rattle.std.proofs.lemmas.List.{length-drop}
use Rattle.std.proofs.lemmas.Grind.{common_steps}
use Rattle.fq_text.specs.Reading.{Lined, NoLf}
use Rattle.fq_text.proofs.AdvanceLemmas.{judged_as, sound_behind, takes_to, long_taken}
use Rattle.fq_text.proofs.lines.LineReader.advance.Goals as goal

-- the first line end is not among the bytes that hold none
not_before : (xs : List ℕ) (scanned at : ℕ) → NoLf xs scanned →
    (at < length xs) × (Rattle.std.proofs.Common.get_or xs at 0 ≡ 10) × NoLf xs at → scanned ≤ at
not_before xs scanned at none found = grind (arith, common_steps)

-- a line end was found: its line is taken, or is too long
pub returns-in-Some-clause-step : goal.returns-in-Some-clause-step
returns-in-Some-clause-step g c =
    let at = c.in-Some.at in
    let old = c.loop-at.invariant in
    let above = not_before c.loop-at.self.in_hand c.loop-at.scanned at old.none
    c.in-Some.ensures.place in
    let is = c.take_line.ensures in
    let hand = ap (λ (r : Lined g.row.F.Denot). length r.in_hand) is
    ∙ length-drop (at + 1) c.loop-at.self.in_hand in
    let chunk = ap (λ (r : Lined g.row.F.Denot). r.chunk) is in
    let line = takes_to at is old.reads c.in-Some.ensures.place
    (λ lt. let room = old.small lt in omega arith) in
    judged_as c.judged.result _ _ (length c.take_line.new.self.line) c.judged.ensures.ok
    c.judged.ensures.err (λ fits. (line, fits))
    (λ long. (refl, long_taken line (sound_behind _ _ is old.sound) long))
