use Rattle.std.proofs.Common.{arith, ap}
use Rattle.fq_trim.proofs.KeptLemmas.{kept_within_read}
use Rattle.fq_pair.specs.declared.name.NameLengths.{NameLengths}
use Rattle.fq_pair.specs.declared.side.Side.TheVariants.{Forward, Reverse}
use Rattle.fq_pair.specs.Mates.{mates_in}
use Rattle.fq_pair.proofs.NameLemmas.{named}
use Rattle.fq_pair.proofs.texts.Texts.add_kept.Goals as goal
use Rattle.fq_pair.proofs.AddLemmas.{kept_within, pair_added}

-- what is kept of a mate lies within it
pub make_room-requires : goal.make_room-requires
make_room-requires c =
    kept_within c.args.steps.now _ _ _ c.title-forward_title.ensures.lawful c.requires.forward
    c.in-Some-Some.is-0

-- if both survive, what is kept of the reverse mate lies within it when room is made
pub make_room-requires-in-Some-Some : goal.make_room-requires-in-Some-Some
make_room-requires-in-Some-Some c =
    kept_within c.args.steps.now _ _ _ c.title-reverse_title.ensures.lawful c.requires.reverse
    c.in-Some-Some.is-1

-- if both survive, what is kept of the forward mate lies within it when its record is put
pub put_kept-requires-clause-within : goal.put_kept-requires-clause-within
put_kept-requires-clause-within c =
    kept_within c.args.steps.now _ _ _ c.title-forward_title.ensures.lawful c.requires.forward
    c.in-Some-Some.is-0

-- if both survive, what is kept of the reverse mate lies within it when its record is put
pub put_kept-requires-in-Some-Some-clause-within : goal.put_kept-requires-in-Some-Some-clause-within
put_kept-requires-in-Some-Some-clause-within c =
    kept_within c.args.steps.now _ _ _ c.title-reverse_title.ensures.lawful c.requires.reverse
    c.in-Some-Some.is-1

-- what is kept of a forward mate alone lies within it when room is made
pub make_room-requires-in-Some-None : goal.make_room-requires-in-Some-None
make_room-requires-in-Some-None c =
    kept_within c.args.steps.now _ _ _ c.title-forward_title.ensures.lawful c.requires.forward
    c.in-Some-None.is-0

-- what is kept of a forward mate alone lies within it when its record is put
pub put_kept-requires-in-Some-None-clause-within : goal.put_kept-requires-in-Some-None-clause-within
put_kept-requires-in-Some-None-clause-within c =
    kept_within c.args.steps.now _ _ _ c.title-forward_title.ensures.lawful c.requires.forward
    c.in-Some-None.is-0

-- what is kept of a reverse mate alone lies within it when room is made
pub make_room-requires-in-None-Some : goal.make_room-requires-in-None-Some
make_room-requires-in-None-Some c =
    kept_within c.args.steps.now _ _ _ c.title-reverse_title.ensures.lawful c.requires.reverse
    c.in-None-Some.is-1

-- what is kept of a reverse mate alone lies within it when its record is put
pub put_kept-requires-in-None-Some-clause-within : goal.put_kept-requires-in-None-Some-clause-within
put_kept-requires-in-None-Some-clause-within c =
    kept_within c.args.steps.now _ _ _ c.title-reverse_title.ensures.lawful c.requires.reverse
    c.in-None-Some.is-1

-- what is kept of the forward mate lies within the bases that its log line counts
pub put_line-requires-clause-within : goal.put_line-requires-clause-within
put_line-requires-clause-within c = grind (arith, kept_within_read)

-- what is kept of the reverse mate lies within the bases that its log line counts
pub put_line-requires-2-clause-within : goal.put_line-requires-2-clause-within
put_line-requires-2-clause-within c = grind (arith, kept_within_read)

-- whoever survives, the texts, the log and the counts grow by those of the pair
pub returns-clause-ok : goal.returns-clause-ok
returns-clause-ok c =
    let m = mates_in c.args.pair.forward c.args.pair.reverse in
    let forward_name = named Forward m.forward.title c.title-forward_title.result.now
    c.args.names.forward (ap (λ (n : NameLengths). n.forward) c.requires.names)
    c.title-forward_title.ensures.title in
    let reverse_name = named Reverse m.reverse.title c.title-reverse_title.result.now
    c.args.names.reverse (ap (λ (n : NameLengths). n.reverse) c.requires.names)
    c.title-reverse_title.ensures.title in
    let all = pair_added c.args.steps.now m c.args.self.now c.args.forward c.args.reverse
    c.requires.forward c.requires.reverse in
    grind (arith, all)
