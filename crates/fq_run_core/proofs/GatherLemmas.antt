-- A block that is being gathered.
use Rattle.std.proofs.Common.{◌≡◌, ℕ, ◌+◌, ◌<◌, ◌≤◌, Bool, true, false, Option, Some, None, List, [], ◌∷◌, ◌++◌, length, refl, sym, ap, ◌∙◌, arith}
use Rattle.std.specs.Option.{is_some}
use Rattle.std.proofs.lemmas.List.{length-append}
use Rattle.std.proofs.lemmas.Grind.{common_steps}
use Rattle.fq_trim.specs.declared.step.Step.{Step}
use Rattle.fq_text.specs.Grammar.{Read}
use Rattle.fq_text.specs.declared.memory.MemoryRefused.{MemoryRefused}
use Rattle.fq_pair.specs.Mates.{Mates, mates_in}
use Rattle.fq_report_pairs.specs.declared.tally.Tally.{Tally}
use Rattle.fq_report_pairs.specs.declared.done.Done.{Done}
use Rattle.fq_report_pairs.specs.Results.{tally_with, made_of, with_mates}
use Rattle.fq_report_pairs.proofs.ResultLemmas.{made_more, with_nothing, with_more}
use Rattle.fq_run_core.specs.declared.reading_end.ReadingEnd.{ReadingEnd}
use Rattle.fq_run_core.specs.declared.reading_end.ReadingEnd.TheVariants as reading
use Rattle.fq_pair.specs.Walks.{SourceState, Walks, GoesOn}
use Rattle.fq_run_core.specs.PairsRead.{Reads}
use Rattle.fq_run_core.specs.Gathering.{Gathers}
use Rattle.fq_run_core.proofs.WalkLemmas.{walks_none, walks_then}

-- this number of pairs was read and trimmed
pub record Gathered (old now : SourceState) (steps : List Step) (tally tally_now : Option Tally)
    (gathered : Done) (n : ℕ) : Type 0 where
  pub block : List Mates
  pub len : length block ≡ n
  -- the texts and the tally are those of these pairs
  pub made : gathered ≡ made_of steps gathered.number block
  pub tallied : tally_now ≡ tally_with steps tally block
  pub walks : Walks old now block
  pub goes : GoesOn now

module _ (steps : List Step) (tally : Option Tally) where
  -- before the first pair the texts and the tally are those of no pairs
  pub gathered_none : (s : SourceState) (done : Done) → GoesOn s →
      done ≡ made_of steps done.number [] → Gathered s s steps tally tally done 0
  gathered_none s done goes clear = record {
    block = [];
    len = refl;
    made = clear;
    tallied = sym (with_nothing steps tally);
    walks = walks_none s goes.last;
    goes = goes;
  }

  -- one more pair is read, and its texts and its tally are added
  pub gathered_more : (old now next : SourceState) (t u : Option Tally) (done then : Done) (n : ℕ)
      (m : Mates) → Gathered old now steps tally t done n → Walks now next (m ∷ []) →
      next.forward.given ≤ next.most_bytes → (forward reverse : Read) → forward ≡ m.forward →
      reverse ≡ m.reverse → then ≡ with_mates steps done (mates_in forward reverse) →
      u ≡ tally_with steps t (mates_in forward reverse ∷ []) →
      Gathered old next steps tally u then (n + 1)
  gathered_more old now next t u done then n m g w within forward reverse first second added
      counted =
      let len = g.len in
      let is : then ≡ with_mates steps done m = added
      ∙ ap (λ r. with_mates steps done (mates_in r reverse)) first
      ∙ ap (λ r. with_mates steps done (mates_in m.forward r)) second in
      let number : done.number ≡ then.number = sym (ap (λ (d : Done). d.number) is) in
      record {
        block = g.block ++ m ∷ [];
        len = omega (arith, length-append g.block (m ∷ []));
        made = is ∙ ap (λ (d : Done). with_mates steps d m) g.made ∙ made_more steps done.number
            g.block m ∙ ap (λ (i : ℕ). made_of steps i (g.block ++ m ∷ [])) number;
        tallied = counted ∙ ap (λ r. tally_with steps t (mates_in r reverse ∷ [])) first
            ∙ ap (λ r. tally_with steps t (mates_in m.forward r ∷ [])) second
            ∙ ap (λ (x : Option Tally). tally_with steps x (m ∷ [])) g.tallied
            ∙ with_more steps tally g.block (m ∷ []);
        walks = walks_then old now next g.block (m ∷ []) g.walks w;
        goes = record { last = w.last; within = within };
      }

  -- the texts count as many pairs as were read
  pub gathered_few : (old now : SourceState) (t : Option Tally) (done : Done) (n : ℕ) →
      Gathered old now steps tally t done n → done.texts.counts.pairs ≡ n
  gathered_few old now t done n g = ap (λ (d : Done). d.texts.counts.pairs) g.made ∙ g.len

  -- the block is full, and reading goes on
  pub gathers_full : (old now : SourceState) (t : Option Tally) (done : Done) (n most : ℕ) →
      n ≡ most → Gathered old now steps tally t done n →
      Gathers old now steps most tally t done None
  gathers_full old now t done n most full g = grind (arith, common_steps)

  -- reading stopped after the block
  pub gathers_stopped : (old now next : SourceState) (t : Option Tally) (done : Done) (n most : ℕ)
      (stop : ReadingEnd) → n < most → (g : Gathered old now steps tally t done n) →
      Reads old next g.block (Some stop) → Gathers old next steps most tally t done (Some stop)
  gathers_stopped old now next t done n most stop room g reads = grind (arith, common_steps)

  -- memory for one more pair was refused: that pair is lost, and the block is as it was
  pub gathers_refused : (refused : MemoryRefused) (old now next : SourceState) (t u : Option Tally)
      (done then : Done) (n most : ℕ) (m : Mates) → n < most →
      Gathered old now steps tally t done n → Walks now next (m ∷ []) → then ≡ done → u ≡ t →
      Gathers old next steps most tally u then (Some (reading.Memory refused))
  gathers_refused refused old now next t u done then n most m room g w same kept =
      rw (same, kept) (gathers_stopped old now next t done n most (reading.Memory refused) room g
      (m ∷ [], walks_then old now next g.block (m ∷ []) g.walks w))

-- why reading stopped, if it did
pub end_is : (why : Option ReadingEnd) (there : Bool) → there ≡ is_some why → there ≡ true →
    why ≡ None → ⊥
end_is None there is yes_is none = let e = sym is ∙ yes_is in cc
end_is (Some s) there is yes_is none = cc

-- if reading did not stop, there is no reason why it did
pub end_none : (why : Option ReadingEnd) (there : Bool) → there ≡ is_some why → there ≡ false →
    why ≡ None
end_none None there is no_is = refl
end_none (Some s) there is no_is = absurd (let e = sym is ∙ no_is in cc)
