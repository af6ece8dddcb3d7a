-- What a contract sees of each end of a lane.
use Rattle.std.specs.Prelude.{ℕ, Bool, true, List, [], ◌∷◌, ◌++◌}
use denote.RawPtr.{Ptr}

-- which lane it is. No two lanes that exist at once have the same name
abbrev pub Name : Type 0
Name = Ptr × (Ptr × (ℕ × (ℕ × ℕ)))

-- what has gone through one end: items, and the mark if `marked`
pub record History (T : Type 0) : Type 0 where
  pub name : Name
  pub items : List T
  pub marked : Bool

-- one more item
abbrev pub with_item : {T : Type 0} → History T → T → History T
with_item l x = record { name = l.name; items = l.items ++ x ∷ []; marked = l.marked }

-- the mark after the items
abbrev pub with_mark : {T : Type 0} → History T → History T
with_mark l = record { name = l.name; items = l.items; marked = true }
