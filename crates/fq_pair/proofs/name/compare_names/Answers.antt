use Rattle.std.proofs.Common.{arith, List, ℕ, sym, ap, ◌∙◌}
use Rattle.std.specs.List.{before_first}
use Rattle.std.specs.Str.{bytes_eq}
use Rattle.fq_pair.specs.declared.side.Side.TheVariants.{Forward, Reverse}
use Rattle.fq_pair.specs.Mates.{is_gap, mark_of, without_end}
use Rattle.fq_pair.proofs.NameLemmas.{word_of_word, word_beside, same_lengths}
use Rattle.fq_pair.proofs.name.compare_names.Goals as goal

-- the words are those of the titles
pub returns-then-begins_like-clause-same : goal.returns-then-begins_like-clause-same
returns-then-begins_like-clause-same c =
    let like = c.begins_like.ensures in
    let yes = c.if-begins_like.true in
    let word = c.first_word-word.ensures in
    let whole = ap (before_first is_gap) word ∙ word_of_word c.args.forward.now ∙ sym word in
    let mate = word_beside c.args.reverse.now c.first_word-word.result.now whole (like.some yes)
    (like.within yes) (like.like yes) (like.last yes) (like.end yes) in
    c.compare_alike.ensures.same
    ∙ ap (λ (w : List ℕ). bytes_eq (without_end (mark_of Forward) c.first_word-word.result.now)
    (without_end (mark_of Reverse) w)) mate
    ∙ ap (λ (w : List ℕ). bytes_eq (without_end (mark_of Forward) w)
    (without_end (mark_of Reverse) (before_first is_gap c.args.reverse.now))) word

-- if the titles begin alike, the lengths are those of the names in both titles
pub returns-then-begins_like-clause-lengths : goal.returns-then-begins_like-clause-lengths
returns-then-begins_like-clause-lengths c = grind (arith, word_of_word, word_beside, same_lengths)
