-- Which runs have ended whole, by the status of their outcome.
use Rattle.std.proofs.Common.{◌≡◌, ◌⊎◌, ◌∙◌, ℕ, IsTrue, ⊎_elim, refl, arith}
use Rattle.fq_run_core.specs.declared.outcome.Outcome.{Outcome}
use Rattle.fq_run_core.specs.declared.outcome.Outcome.TheVariants.{Spawn, Lane, Gate, Memory, Write, Read, Endless, Input, Finished}
use Rattle.fq_run_core.specs.Endings.{ends_whole}
use Rattle.fq_app_files.specs.Faults.{outcome_status}

-- a run whose outcome has status 0 has ended whole
pub done_is_whole : (outcome : Outcome) → outcome_status outcome ≡ 0 → IsTrue (ends_whole outcome)
done_is_whole Spawn e = absurd (omega (arith, e))
done_is_whole Lane e = absurd (omega (arith, e))
done_is_whole Gate e = absurd (omega (arith, e))
done_is_whole Memory e = absurd (omega (arith, e))
done_is_whole (Write out) e = absurd (omega (arith, e))
done_is_whole (Read side) e = absurd (omega (arith, e))
done_is_whole (Endless side) e = absurd (omega (arith, e))
done_is_whole (Input fault) e = refl
done_is_whole Finished e = refl

-- a run whose outcome has status 3 has ended whole
pub faulty_is_whole : (outcome : Outcome) → outcome_status outcome ≡ 3 → IsTrue (ends_whole outcome)
faulty_is_whole Spawn e = absurd (omega (arith, e))
faulty_is_whole Lane e = absurd (omega (arith, e))
faulty_is_whole Gate e = absurd (omega (arith, e))
faulty_is_whole Memory e = absurd (omega (arith, e))
faulty_is_whole (Write out) e = absurd (omega (arith, e))
faulty_is_whole (Read side) e = absurd (omega (arith, e))
faulty_is_whole (Endless side) e = absurd (omega (arith, e))
faulty_is_whole (Input fault) e = refl
faulty_is_whole Finished e = refl

-- a run whose outcome has status 0 or 3 has ended whole
pub ends_so : (outcome : Outcome) (status : ℕ) → outcome_status outcome ≡ status →
    (status ≡ 0) ⊎ (status ≡ 3) → IsTrue (ends_whole outcome)
ends_so outcome status is ends = ⊎_elim (λ zero. done_is_whole outcome (is ∙ zero))
    (λ three. faulty_is_whole outcome (is ∙ three)) ends
