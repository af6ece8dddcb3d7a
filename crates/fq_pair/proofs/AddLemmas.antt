-- The texts of one pair after others.
use Rattle.std.proofs.Common.{arith, subst, None, ◌+◌, refl, append-nil, append_assoc, add-zero, ◌≤◌, ◌≡◌, ℕ, Option, Some, List, [], ◌∷◌, ◌++◌, length}
use Rattle.std.proofs.lemmas.Grind.{common_steps}
use Rattle.fq_trim.specs.declared.step.Step.{Step}
use Rattle.fq_trim.specs.declared.trimming.Kept.{Kept}
use Rattle.fq_trim.specs.Keeping.{recodes}
use Rattle.fq_text.specs.Grammar.{Read, IsLawful}
use Rattle.fq_trim.specs.KeptPlaces.{kept_places, places_of, IsWithin}
use Rattle.fq_trim.proofs.KeptLemmas.{kept_within_read, kept_survives, dropped_is_gone}
use Rattle.fq_pair.specs.declared.side.Side.TheVariants.{Forward, Reverse}
use Rattle.fq_pair.specs.Mates.{Mates}
use Rattle.fq_pair.specs.Outputs.{Outputs, record_at, log_line, texts_of, joined}

-- what is kept of a read lies within it
pub kept_within : (steps : List Step) (read : Read) (o : Option Kept) (k : Kept) →
    IsLawful read → kept_places steps read ≡ places_of o → o ≡ Some k → k.stop ≤ length read.seq
kept_within steps read o k lawful kept is =
    subst (IsWithin (length read.seq)) is (kept_within_read steps read o lawful.same_len kept)

module _ (steps : List Step) (m : Mates) (old : Outputs) where
  abbrev text : Read → Kept → List ℕ
  text read k = record_at (recodes steps) (places_of (Some k)) read

  abbrev lines : Option Kept → Option Kept → List ℕ
  lines f r = (old.log ++ log_line Forward (places_of f) m.forward)
      ++ log_line Reverse (places_of r) m.reverse

  -- the texts after a pair of which this is kept
  abbrev pub added : Option Kept → Option Kept → Outputs
  added (Some f) (Some r) = record old {
    forward_paired = old.forward_paired ++ text m.forward f;
    reverse_paired = old.reverse_paired ++ text m.reverse r;
    log = lines (Some f) (Some r);
    counts = record old.counts { pairs = old.counts.pairs + 1; both = old.counts.both + 1 };
  }
  added (Some f) None = record old {
    forward_unpaired = old.forward_unpaired ++ text m.forward f;
    log = lines (Some f) None;
    counts = record old.counts {
      pairs = old.counts.pairs + 1;
      forward_only = old.counts.forward_only + 1;
    };
  }
  added None (Some r) = record old {
    reverse_unpaired = old.reverse_unpaired ++ text m.reverse r;
    log = lines None (Some r);
    counts = record old.counts {
      pairs = old.counts.pairs + 1;
      reverse_only = old.counts.reverse_only + 1;
    };
  }
  added None None = record old {
    log = lines None None;
    counts = record old.counts { pairs = old.counts.pairs + 1; dropped = old.counts.dropped + 1 };
  }

  -- the texts of a pair after others: which mates are gone decides where the records go
  pub pair_added : (f r : Option Kept) → kept_places steps m.forward ≡ places_of f →
      kept_places steps m.reverse ≡ places_of r →
      joined old (texts_of steps (m ∷ [])) ≡ added f r
  pair_added (Some f) (Some r) forward reverse =
      let one = kept_survives _ (Some f) f forward refl in
      let other = kept_survives _ (Some r) r reverse refl in
      grind (arith, append-nil, append_assoc, add-zero)
  pair_added (Some f) None forward reverse =
      let one = kept_survives _ (Some f) f forward refl in
      let other = dropped_is_gone _ None reverse refl in
      grind (arith, append-nil, append_assoc, add-zero)
  pair_added None (Some r) forward reverse =
      let one = dropped_is_gone _ None forward refl in
      let other = kept_survives _ (Some r) r reverse refl in
      grind (arith, append-nil, append_assoc, add-zero)
  pair_added None None forward reverse = grind (arith, common_steps, kept_survives, dropped_is_gone)
