-- What a worker does, one move after the other. The contracts of its code and the model of a run's
-- threads share these words.
use Rattle.std.specs.Prelude.{◌≡◌, ◌⊎◌}

-- the reply to a block: its texts, or a stop because memory was refused or the gate didn't let the
-- block pass
pub data Reply : Type 0 where
  texts : Reply
  stop : Reply

-- what a worker does next
pub data Doing : Type 0 where
  -- takes a block, or the mark of the blocks
  takes : Doing
  -- puts this reply
  answers : Reply → Doing
  -- takes what is left after its stop, up to the mark
  empties : Doing
  -- nothing: it has taken the mark of the blocks, and put that of its replies
  left : Doing

-- a move: one wait of a worker, which is over
pub data WorkMove : Type 0 where
  -- it has a block, to which this will be the reply
  took : Reply → WorkMove
  put : Reply → WorkMove
  -- it has a block, after its stop
  emptied : WorkMove
  -- it has the mark of the blocks
  leaves : WorkMove

-- what a worker must be doing to make a move
abbrev pub MayMove : Doing → WorkMove → Type 0
MayMove doing (took reply) = doing ≡ takes
MayMove doing (put reply) = doing ≡ answers reply
MayMove doing emptied = doing ≡ empties
MayMove doing leaves = (doing ≡ takes) ⊎ (doing ≡ empties)

-- what it does after a move
abbrev pub does : WorkMove → Doing
does (took reply) = answers reply
does (put texts) = takes
does (put stop) = empties
does emptied = empties
does leaves = left
