use Rattle.std.proofs.Common.{drop, ap, ◌∙◌}
use Rattle.std.proofs.lemmas.List.{take_rest}
use Rattle.fq_text.proofs.LineLemmas.{line_end_some, line_end_none}
use Rattle.fq_text.proofs.lines.LineReader.line_end_from.Goals as goal

-- the first LF of the searched bytes is the first in hand
pub returns-clause-place : goal.returns-clause-place
returns-clause-place g c = line_end_some c.args.self.now.in_hand _ c.args.scanned c.in_ok-at.at
    (take_rest c.hand.result.now c.args.scanned ∙ ap (drop c.args.scanned) c.hand.ensures)
    c.requires.within c.requires.none c.in_ok-at.ensures

-- if the search finds no LF, none is in hand
pub returns-in_err-at-clause-place : goal.returns-in_err-at-clause-place
returns-in_err-at-clause-place g c = rw c.from_residual.ensures
    (line_end_none c.args.self.now.in_hand _ c.args.scanned
    (take_rest c.hand.result.now c.args.scanned ∙ ap (drop c.args.scanned) c.hand.ensures)
    c.requires.within c.requires.none c.in_err-at.ensures)
