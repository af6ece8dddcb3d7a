-- Values of JSON, in the words of a report.
use Rattle.std.specs.Prelude.{ℕ, Option, Some, None, List, [], ◌∷◌}
use Rattle.serde_json.specs.Data.{Data, null, number, unsigned, string, array, object}
use Rattle.serde_json.specs.Data.{Members, no_members, member}
use Rattle.serde_json.specs.View.{items_of}

abbrev pub count : ℕ → Data
count n = number (unsigned n)

-- a text, or null if there is none
abbrev pub optional_text : Option (List ℕ) → Data
optional_text (Some text) = string text
optional_text None = null

abbrev pub list : List Data → Data
list values = array (items_of values)

abbrev pub members : List (List ℕ × Data) → Members
members [] = no_members
members (field ∷ fields) = member field.0 field.1 (members fields)

-- an object: fields in the order of the bytes of their names
abbrev pub fields : List (List ℕ × Data) → Data
fields all = object (members all)
