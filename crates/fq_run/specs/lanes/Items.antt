-- The lanes of a crew, in order.
use Rattle.std.specs.Prelude.{◌≡◌, ℕ, ◌<◌, ◌%◌, true, List, length, map, slice_index_or}
use mathlib.Core.List.{IsPrefix}
use Rattle.fq_lane.specs.History.{History, Name}
use Rattle.fq_run.specs.Shares.{every}

module _ {T : Type 0} where
  abbrev pub names_of : List (History T) → List Name
  names_of ls = map (λ l. l.name) ls

  -- the items of each lane
  abbrev pub lists_of : List (History T) → List (List T)
  lists_of ls = map (λ l. l.items) ls

  -- there are w lanes, and their items are xs, dealt out
  pub record IsDealt (w : ℕ) (xs : List T) (ls : List (History T)) : Type 0 where
    pub lanes : length ls ≡ w
    pub items : (j : ℕ) (d : History T) → j < w → (slice_index_or ls j d).items ≡ every j w xs

  -- the items of each lane begin with those of xs that are dealt to it, and the lane that the next
  -- of xs would come from is closed and has no more
  pub record IsAtMark (w : ℕ) (xs : List T) (ls : List (History T)) : Type 0 where
    pub lanes : length ls ≡ w
    pub begins : (j : ℕ) (d : History T) → j < w →
        IsPrefix (every j w xs) (slice_index_or ls j d).items
    pub ends : (d : History T) →
        (slice_index_or ls (length xs % w) d).items ≡ every (length xs % w) w xs
    pub closed : (d : History T) → (slice_index_or ls (length xs % w) d).marked ≡ true

  -- the items of each lane begin with those of xs that are dealt to it
  pub record IsBegun (w : ℕ) (xs : List T) (ls : List (History T)) : Type 0 where
    pub lanes : length ls ≡ w
    pub begins : (j : ℕ) (d : History T) → j < w →
        IsPrefix (every j w xs) (slice_index_or ls j d).items

  abbrev pub AllClosed : List (History T) → Type 0
  AllClosed ls = (j : ℕ) (d : History T) → j < length ls → (slice_index_or ls j d).marked ≡ true
