-- What a `map_err` was called on.
use Rattle.std.proofs.Common.{arith, ◌≡◌, Result, Ok, Err}
use Rattle.std.specs.Result.{MatchResult, IsErrAnd}
use Rattle.std.proofs.lemmas.Grind.{common_steps}

-- an error that came out of it is the function of the error that went in
pub err_mapped : {T E D : Type 0} (before : Result T E) (after : Result T D) (f : E → D) (Gave : E →
    D → Type 0) → MatchResult before (λ x. after ≡ Ok x) (λ e. IsErrAnd after (Gave e)) →
    ((e : E) (d : D) → Gave e d → d ≡ f e) → (d : D) → after ≡ Err d →
    (e : E) × (before ≡ Err e) × (d ≡ f e)
err_mapped before after f Gave cases form d is = grind (arith, common_steps)

-- what holds of the mapped result, from what holds of the value and of the error that went in
pub cases_mapped : {T E D : Type 0} (before : Result T E) (after : Result T D) (Gave : E → D →
    Type 0) (P : T → Type 0) (Q : D → Type 0) →
    MatchResult before (λ x. after ≡ Ok x) (λ e. IsErrAnd after (Gave e)) →
    ((x : T) → before ≡ Ok x → P x) → ((e : E) (d : D) → before ≡ Err e → Gave e d → Q d) →
    MatchResult after P Q
cases_mapped before after Gave P Q cases ok err = grind (arith, common_steps)
