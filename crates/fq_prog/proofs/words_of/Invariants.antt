use Rattle.std.proofs.Common.{◌≡◌, map, take, string_bytes}
use Rattle.fq_prog.proofs.words_of.Given as goal

-- the words so far are those of the first arguments
abbrev pub invariant-loop-text : goal.invariant-loop-text
invariant-loop-text l = map (λ word. word.now) l.words.items ≡ map string_bytes
    (take l.text-index l.texts)
