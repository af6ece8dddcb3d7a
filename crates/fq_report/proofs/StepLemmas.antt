-- Steps, one after the other.
use Rattle.std.proofs.Common.{arith, ◌≡◌, ◌<◌, ◌≤◌, ℕ, ◌+◌, List, [], ◌∷◌, ◌++◌, length, map, drop, get_or, refl, add-one, append_assoc, drop-cons}
use Rattle.std.proofs.lemmas.List.{map-append, append-nil, drop_all}
use Rattle.serde_json.specs.declared.value.Value.{Value}
use Rattle.serde_json.specs.View.{view}
use Rattle.fq_report_pairs.specs.declared.tally.Tally.{Tally}
use Rattle.fq_report.specs.Reports.{step_value, steps_from}

-- one step on
pub next_step : (steps : List Value) (step : Value) (number : ℕ) (words : List (List ℕ)) (t : Tally)
    → number < length words → view step ≡ step_value number (get_or words number []) t
    → map view (steps ++ step ∷ []) ++ steps_from (number + 1) (drop (number + 1) words) t
    ≡ map view steps ++ steps_from number (drop number words) t
next_step steps step number words t within is =
    rw (add-one, drop-cons words number [], map-append view steps (step ∷ []), is, append_assoc)
    refl

-- after the last
pub all_steps : (steps : List Value) (number : ℕ) (words : List (List ℕ)) (t : Tally)
    → length words ≤ number → map view steps ++ steps_from number (drop number words) t ≡ steps_from
    0 words t → map view steps ≡ steps_from 0 words t
all_steps steps number words t behind so_far = grind (arith, append-nil, drop_all)
