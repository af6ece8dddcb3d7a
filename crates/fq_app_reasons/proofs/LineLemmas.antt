-- Lines with a reason, and lines without.
use Rattle.std.proofs.Common.{◌≡◌, ◌∙◌, ◌++◌, ℕ, Bool, true, Option, Some, List, codes, refl, ap, sym}
use Rattle.fq_text.specs.Written.{line}
use Rattle.fq_run_core.specs.declared.outcome.Outcome.{Outcome}
use Rattle.fq_run_core.specs.declared.outcome.Outcome.TheVariants.{Spawn, Lane, Gate, Memory, Write, Read, Endless, Input, Finished}
use Rattle.fq_app_words.specs.Requests.{Asking}
use Rattle.fq_app_files.specs.Faults.{outcome_words, line_when}
use Rattle.fq_app_files.specs.declared.seeing.EndingSeen.{EndingSeen}
use Rattle.fq_app_reasons.specs.Ended.{ending_reason}
use Rattle.fq_app_reasons.specs.Lines.{explained, ending_line_when}

-- a reason that is asked for and known is added to the words
pub known : (b : Bool) (words : List ℕ) (reason : Option (List ℕ)) (text : List ℕ) → b ≡ true →
    reason ≡ Some text → explained b words reason ≡ words ++ codes ": " ++ text
known b words reason text e is = ap (explained b words) is
    ∙ ap (λ (x : Bool). explained x words (Some text)) e

-- The line of an outcome.

-- an outcome that has a reason has a line, to which the reason is added
pub record IsAdded (a : Asking) (seen : EndingSeen) (o : Outcome) (text : List ℕ) : Type 0 where
  -- the line without a reason is that of the outcome's words
  pub plain : line_when o ≡ line (outcome_words o)
  -- these words with the reason are the line with a reason
  pub whole : line (outcome_words o ++ codes ": " ++ text) ≡ ending_line_when a seen o

-- a reason that is asked for and known is added to the line of its outcome
pub known_ending : (a : Asking) (seen : EndingSeen) (o : Outcome) (text : List ℕ) →
    a.explain ≡ true → ending_reason a seen o ≡ Some text → IsAdded a seen o text
known_ending a seen Finished text e is = absurd (cc is)
known_ending a seen Spawn text e is = record {
  plain = refl;
  whole =
      sym (ap line (known a.explain (outcome_words Spawn) (ending_reason a seen Spawn) text e is));
}
known_ending a seen Lane text e is = record {
  plain = refl;
  whole =
      sym (ap line (known a.explain (outcome_words Lane) (ending_reason a seen Lane) text e is));
}
known_ending a seen Gate text e is = absurd (cc is)
known_ending a seen Memory text e is = record {
  plain = refl;
  whole =
      sym (ap line (known a.explain (outcome_words Memory) (ending_reason a seen Memory) text e
      is));
}
known_ending a seen (Write out) text e is = record {
  plain = refl;
  whole =
      sym (ap line (known a.explain (outcome_words (Write out)) (ending_reason a seen (Write out))
      text e
      is));
}
known_ending a seen (Read side) text e is = record {
  plain = refl;
  whole =
      sym (ap line (known a.explain (outcome_words (Read side)) (ending_reason a seen (Read side))
      text e
      is));
}
known_ending a seen (Endless side) text e is = record {
  plain = refl;
  whole =
      sym (ap line (known a.explain (outcome_words (Endless side)) (ending_reason a seen
      (Endless side))
      text e is));
}
known_ending a seen (Input fault) text e is = record {
  plain = refl;
  whole =
      sym (ap line (known a.explain (outcome_words (Input fault)) (ending_reason a seen
      (Input fault))
      text
      e is));
}
