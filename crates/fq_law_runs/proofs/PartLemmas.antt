-- Inputs that are cut in two after a pair may be trimmed apart.
use Rattle.std.proofs.Common.{◌≡◌, ℕ, suc, ◌+◌, Bool, List, ◌++◌, length, refl, ap, ◌∙◌, arith}
use Rattle.fq_text.specs.declared.encoding.Encoding.{Encoding}
use Rattle.fq_text.specs.Lines.{lines}
use Rattle.fq_text.proofs.LineLemmas.{lines-append}
use Rattle.fq_pair.specs.Mates.{Mates}
use Rattle.fq_pair.specs.Pairing.{Pairs, pairs_of}
use Rattle.fq_pair.specs.Interleaved.{interleaved_pairs_of}
use Rattle.fq_pair.specs.Forms.{Form, TwoTexts, InterleavedText, pairs_in}
use Rattle.fq_pair.specs.Outputs.{texts_of}
use Rattle.fq_pair.proofs.PairLaws.{records_of}
use Rattle.fq_pair.proofs.OutputLaws.{texts_of-append}
use Rattle.fq_report_reads.specs.Courses.{alone}
use Rattle.fq_report_pairs.specs.Tallies.{tally_of}
use Rattle.fq_report_pairs.proofs.PlusLaws.{tally_of-append}
use Rattle.fq_law_runs.specs.Parts.{PairsAreJoined, PartsAreTrimmedApart}
use Rattle.fq_law_runs.proofs.TwoTextLemmas.{parts_joined}
use Rattle.fq_law_runs.proofs.InterleavedLemmas.{one_joined}

-- the pairs of inputs are those of a first part, and then those of the rest, numbered on
pub pairs_are_joined : PairsAreJoined
pairs_are_joined TwoTexts check e given f r f_rest r_rest part =
    let more_f = lines f_rest in
    let more_r = lines r_rest in
    ap (λ (ls : List (List ℕ)). pairs_of check given (records_of e ls)
    (records_of e (lines (r ++ r_rest)))) (lines-append f f_rest part.forward_whole)
    ∙ ap (λ (ls : List (List ℕ)). pairs_of check given (records_of e (lines f ++ more_f))
    (records_of e ls)) (lines-append r r_rest part.reverse_whole)
    ∙ parts_joined check e more_f more_r (suc (length (lines f))) given (lines f) (lines r)
    (omega arith) part.sound
pairs_are_joined InterleavedText check e given text same rest same_rest part =
    ap (λ (ls : List (List ℕ)). interleaved_pairs_of check given (records_of e ls))
    (lines-append text rest part.forward_whole)
    ∙ one_joined check e (lines rest) (suc (length (lines text))) given (lines text)
    (omega arith) part.sound

-- the mates of a text are the same after any number of pairs
mates_at : (form : Form) (check : Bool) (e : Encoding) (given : ℕ) (f r : List ℕ) →
    (pairs_in form check e given f r).mates ≡ (pairs_in form check e 0 f r).mates
mates_at TwoTexts check e given f r = refl
mates_at InterleavedText check e given f r = refl

-- a first part of inputs and the rest may be trimmed apart
pub parts_trimmed_apart : PartsAreTrimmedApart
parts_trimmed_apart form check e steps f r f_rest r_rest part =
    let first = pairs_in form check e 0 f r in
    let rest = pairs_in form check e 0 f_rest r_rest in
    let whole = pairs_are_joined form check e 0 f r f_rest r_rest part in
    let all = ap (λ (p : Pairs). p.mates) whole
    ∙ ap (λ (ms : List Mates). first.mates ++ ms)
    (mates_at form check e (0 + length first.mates) f_rest r_rest) in
    record {
      texts = ap (texts_of steps) all ∙ texts_of-append steps first.mates rest.mates;
      tally = ap (tally_of (alone steps)) all
          ∙ tally_of-append (alone steps) first.mates rest.mates;
    }
