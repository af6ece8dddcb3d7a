-- The rows that `clap` holds for arguments.
use Rattle.std.proofs.Common.{◌≡◌, ◌||◌, Bool, true, false, Option, Some, None, List, [], ◌∷◌, ◌++◌, fold, refl, ap, ap₂, sym, subst, ◌∙◌, append-nil, append_assoc, is_some, if◌then◌else◌}
use Rattle.std.specs.Prelude.{find, flat_map}
use Rattle.std.specs.Option.{option_or}
use Rattle.std.specs.Str.{bytes_eq}
use Rattle.std.proofs.lemmas.List.Folds.{find-append}
use Rattle.std.proofs.lemmas.Slice.Eq.{bytes_eq-Decides}
use Rattle.clap.specs.Kinds.{Kinds, or_else}
use Rattle.clap.specs.Walk.{Text, Row, Rule, is_empty, at_row, without, more_values, with_values, reading_by, has_row, default_rows, with_default}
use Rattle.clap.specs.Faults.{given_default_fault, defaults_fault}
use Rattle.clap.specs.declared.parser.matches.ValueSource.TheVariants.{CommandLine}
use Rattle.clap.specs.declared.parser.matches.ValueSource.TheVariants.{DefaultValue}

-- the first row with this id
abbrev pub look : Text → List Row → Option Row
look id rows = find (λ r. bytes_eq r.id id) rows

-- a row is there if it is found
pub has_look : (id : Text) (rows : List Row) → has_row id rows ≡ is_some (look id rows)
has_look id [] = refl
has_look id (r ∷ rows) = go (bytes_eq r.id id) (has_look id rows)
  where
    go : (b : Bool) → has_row id rows ≡ is_some (look id rows) →
        (b || has_row id rows) ≡ is_some (if b then Some r else look id rows)
    go true next = refl
    go false next = next

-- what no row before it has may be looked for in the last row
pub look_last : (id : Text) (rows more : List Row) → look id rows ≡ None →
    look id (rows ++ more) ≡ look id more
look_last id rows more none = find-append (λ (r : Row). bytes_eq r.id id) rows more
    ∙ ap (λ (o : Option Row). option_or o (look id more)) none

-- an id that is new is added at the end
pub at_new : (id : Text) (change : Row → List Row) (missing rows : List Row) →
    look id rows ≡ None → at_row id change missing rows ≡ rows ++ missing
at_new id change missing [] none = refl
at_new id change missing (r ∷ rows) none =
    go (bytes_eq r.id id) none (at_new id change missing rows)
  where
    go : (b : Bool) → (if b then Some r else look id rows) ≡ None →
        (look id rows ≡ None → at_row id change missing rows ≡ rows ++ missing) →
        (if b then change r ++ rows else r ∷ at_row id change missing rows)
        ≡ r ∷ (rows ++ missing)
    go true none next = absurd cc
    go false none next = ap (λ (rs : List Row). r ∷ rs) (next none)

-- the row of one use of an argument in the command line
abbrev pub use_row : Rule → List Text → Row
use_row a values = record {
  id = a.id;
  values = values;
  count = None;
  source = Some CommandLine;
  reading = reading_by a;
}

-- the first use of an argument adds its row
pub first_use : (a : Rule) (values : List Text) (rows : List Row) → look a.id rows ≡ None →
    with_values a.id (reading_by a) CommandLine values (without a.id rows)
    ≡ rows ++ use_row a values ∷ []
first_use a values rows none =
    ap (with_values a.id (reading_by a) CommandLine values)
    (at_new a.id (λ r. []) [] rows none ∙ append-nil rows)
    ∙ at_new a.id (more_values CommandLine values) (use_row a values ∷ []) rows none

-- Defaults.

-- the row of an argument's default, if it has one
abbrev pub default_row : Rule → List Row
default_row a = default_rows a.id (reading_by a) a.defaults []

module _ (id : Text) (a : Rule) (rows more : List Row) where
  -- a default is held at the end, unless the argument is used
  one_default : look id (with_default rows a ++ more) ≡ look id (rows ++ (default_row a ++ more))
  one_default = go (has_row a.id rows) refl a.defaults
    where
      no_row : (o : Option Row) → is_some o ≡ false → o ≡ None
      no_row None none = refl
      no_row (Some r) none = absurd cc

      unused : (ds : List Text) → look a.id rows ≡ None →
          default_rows a.id (reading_by a) ds rows
          ≡ rows ++ default_rows a.id (reading_by a) ds []
      unused [] none = sym (append-nil rows)
      unused (d ∷ ds) none = at_new a.id (more_values DefaultValue (d ∷ ds))
          (default_rows a.id (reading_by a) (d ∷ ds) []) rows none

      hidden : (o p : Option Row) (r : Row) (b : Bool) → (b ≡ true → is_some o ≡ true) →
          option_or o p ≡ option_or o (if b then Some r else p)
      hidden (Some x) p r b held = refl
      hidden None p r false held = refl
      hidden None p r true held = let never : false ≡ true = held refl in absurd cc

      used : (ds : List Text) → has_row a.id rows ≡ true → option_or (look id rows) (look id more)
          ≡ option_or (look id rows) (look id (default_rows a.id (reading_by a) ds [] ++ more))
      used [] held = refl
      used (d ∷ ds) held = hidden (look id rows) (look id more)
          (record (use_row a (d ∷ ds)) { source = Some DefaultValue }) (bytes_eq a.id id)
          (λ same. sym (has_look id rows) ∙ subst (λ (i : Text). has_row i rows ≡ true)
          ((bytes_eq-Decides a.id id).0 same) held)

      go : (b : Bool) → has_row a.id rows ≡ b → (ds : List Text) →
          look id ((if b then rows else default_rows a.id (reading_by a) ds rows) ++ more)
          ≡ look id (rows ++ (default_rows a.id (reading_by a) ds [] ++ more))
      go true held ds = find-append (λ (r : Row). bytes_eq r.id id) rows more ∙ used ds held
          ∙ sym (find-append (λ (r : Row). bytes_eq r.id id) rows
          (default_rows a.id (reading_by a) ds [] ++ more))
      go false held ds =
          ap (λ (rs : List Row). look id (rs ++ more))
          (unused ds (no_row (look a.id rows) (sym (has_look a.id rows) ∙ held)))
          ∙ ap (look id) (append_assoc rows (default_rows a.id (reading_by a) ds []) more)

-- at the end of a walk what is held is found, and else the default
pub look_finished : (id : Text) (rules : List Rule) (rows : List Row) →
    look id (fold with_default rows rules) ≡ look id (rows ++ flat_map default_row rules)
look_finished id [] rows = ap (look id) (sym (append-nil rows))
look_finished id (a ∷ rules) rows = look_finished id rules (with_default rows a)
    ∙ one_default id a rows (flat_map default_row rules)

-- the faults of the defaults, if none of the arguments is used
abbrev pub default_kinds : List Rule → Kinds
default_kinds [] = []
default_kinds (a ∷ rules) =
    or_else (if is_empty a.defaults then [] else given_default_fault a a.defaults)
    (default_kinds rules)

-- if these have no fault, defaults never have one
pub defaults_sound : (rules : List Rule) (rows : List Row) → default_kinds rules ≡ [] →
    defaults_fault rows rules ≡ []
unfolding defaults_fault
defaults_sound [] rows sound = refl
defaults_sound (a ∷ rules) rows sound =
    let parts = both (if is_empty a.defaults then [] else given_default_fault a a.defaults)
    (default_kinds rules) sound in
    ap₂ or_else (one (has_row a.id rows) parts.0)
    (defaults_sound rules (with_default rows a) parts.1)
  where
    both : (first second : Kinds) → or_else first second ≡ [] → (first ≡ []) × (second ≡ [])
    both [] second none = (refl, none)
    both (kind ∷ kinds) second none = absurd cc

    one : (b : Bool) → (if is_empty a.defaults then [] else given_default_fault a a.defaults) ≡ []
        → (if b || is_empty a.defaults then [] else given_default_fault a a.defaults) ≡ []
    one true none = refl
    one false none = none
