-- What a source that goes on returns, and the current pair.
use Rattle.std.proofs.Common.{arith}
use Rattle.std.proofs.lemmas.Result.{IfErr-weaker}
use Rattle.fq_pair.proofs.AskLemmas.{advances_interleaved, if_current}
use Rattle.fq_pair.proofs.reader.MixedSourcePairReader.advance_pair.Goals as goal

pub returns-clause-advances : goal.returns-clause-advances
returns-clause-advances g c going = grind (arith, advances_interleaved)

pub returns-clause-encoding : goal.returns-clause-encoding
returns-clause-encoding g c going = grind (arith, if_current, IfErr-weaker)
