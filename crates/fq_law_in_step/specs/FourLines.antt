-- The outputs, as any program reads them that takes four lines for a record, as mappers do.
use Rattle.std.specs.Prelude.{◌≡◌, ℕ, Bool, List, [], ◌∷◌, filter, flat_map}
use Rattle.std.specs.List.{All}
use Rattle.fq_text.specs.declared.encoding.Encoding.{Encoding}
use Rattle.fq_text.specs.Lines.{pieces}
use Rattle.fq_text.specs.Grammar.{at_sign, plus_sign, Read}
use Rattle.fq_trim.specs.declared.step.Step.{Step}
use Rattle.fq_pair.specs.declared.out.Out.{Out}
use Rattle.fq_pair.specs.declared.out.Out.TheVariants.{ForwardPaired, ForwardUnpaired, ReversePaired, ReverseUnpaired}
use Rattle.fq_pair.specs.Mates.{Mates}
use Rattle.fq_pair.specs.Outputs.{both_survive, forward_alone, reverse_alone, text_of, texts_of}
use Rattle.fq_law_in_step.specs.Pieces.{trimmed}
use Rattle.fq_law_in_step.specs.InStep.{IsPairIn, forward_reads, reverse_reads}

-- the four lines of a trimmed read
abbrev pub four_lines : List Step → Read → List (List ℕ)
four_lines steps read = (at_sign ∷ (trimmed steps read).title) ∷ (trimmed steps read).seq
    ∷ (plus_sign ∷ []) ∷ (trimmed steps read).qual ∷ []

-- the lines of a text, up to each LF, are four for each of these reads, in order, and no others
abbrev pub HasFourLinesEach : List Step → List Read → List ℕ → Type 0
HasFourLinesEach steps reads text = pieces text ≡ flat_map (four_lines steps) reads

-- Each of the four outputs has four lines for each of its reads. So a program that takes four lines
-- for a record, and looks at no mark, gets exactly these reads, whatever their bases are.
pub record AreFourLinesEach (steps : List Step)
    (ms : List Mates) (texts : Out → List ℕ) : Type 0 where
  pub forward_paired : HasFourLinesEach steps
      (forward_reads (filter (both_survive steps) ms)) (texts ForwardPaired)
  pub forward_unpaired : HasFourLinesEach steps
      (forward_reads (filter (forward_alone steps) ms)) (texts ForwardUnpaired)
  pub reverse_paired : HasFourLinesEach steps
      (reverse_reads (filter (both_survive steps) ms)) (texts ReversePaired)
  pub reverse_unpaired : HasFourLinesEach steps
      (reverse_reads (filter (reverse_alone steps) ms)) (texts ReverseUnpaired)

abbrev pub OutputsAreFourLinesEach : Type 0
OutputsAreFourLinesEach = (check : Bool) (steps : List Step) (encoding : Encoding)
    (ms : List Mates) → All (IsPairIn check encoding) ms →
    AreFourLinesEach steps ms (λ out. text_of out (texts_of steps ms))
