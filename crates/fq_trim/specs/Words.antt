-- The arguments that name steps, as the Trimmomatic manual spells them, and the steps or the fault
-- that a list of arguments gives.
use Rattle.std.specs.Prelude.{true, ◌≡◌, ◌==◌, ℕ, suc, ◌+◌, ◌-◌, ◌*◌, Bool, ◌&&◌, not, nat_le, nat_lt, Option, Some, None, Result, Ok, Err, List, [], ◌∷◌, length, map, fold, slice_index, slice_index_or, is_ok, if◌then◌else◌, codes, ◌<◌, ◌≤◌}
use Rattle.std.specs.List.{list_all, slice_split}
use Rattle.std.specs.Cmp.Lexicographic.{pointwise}
use Rattle.std.specs.Char.{is_ascii_digit}
use Rattle.std.specs.Str.{bytes_eq}
use denote.Ref.{Bor}
use Rattle.fq_trim.specs.Keeping.{most_steps}
use Rattle.fq_trim.specs.declared.step.Step.{Step}
use Rattle.fq_trim.specs.declared.step.Step.TheVariants.{Leading, Trailing, Crop, HeadCrop, SlidingWindow, AverageQuality, MinLen, ToPhred33}
use Rattle.fq_trim.specs.declared.fault.StepFault.{StepFault}
use Rattle.fq_trim.specs.declared.fault.StepFaultKind.{StepFaultKind}
use Rattle.fq_trim.specs.declared.fault.StepFaultKind.TheVariants.{NoSteps, TooMany, Unknown, WrongCount, BadNumber, OutOfRange}

-- the pieces of an argument between its colons
abbrev pub pieces : List ℕ → List (List ℕ)
pieces word = slice_split (λ b. b == 58) word

-- the pieces of the text after a colon, if there is one
abbrev pub pieces_in : Option (Bor (List ℕ)) → List (List ℕ)
pieces_in None = []
pieces_in (Some text) = pieces text.now

-- a piece is 1 to 9 ASCII digits
abbrev pub is_number : List ℕ → Bool
is_number piece =
    (nat_le 1 (length piece) && nat_le (length piece) 9) && list_all is_ascii_digit piece

-- the number that digits write in base 10
abbrev pub number_of : List ℕ → ℕ
number_of digits = fold (λ n digit. 10 * n + (digit - 48)) 0 digits

-- f of a value, or the error
abbrev pub result_map : {A B E : Type 0} → (A → B) → Result A E → Result B E
result_map f (Ok x) = Ok (f x)
result_map f (Err e) = Err e

-- A kind of step: the smallest value of each of its numbers, and the step that its numbers make.
pub record Kind : Type 0 where
  pub smallest : List ℕ
  pub made : List ℕ → Step

-- a kind that takes one number, of any value
abbrev pub with_number : (ℕ → Step) → Option Kind
with_number made =
    Some (record { smallest = 0 ∷ []; made = λ numbers. made (slice_index numbers 0) })

-- the kind of step that has a name
abbrev pub kind_of : List ℕ → Option Kind
kind_of name =
    if bytes_eq name (codes "LEADING") then with_number Leading
    else (if bytes_eq name (codes "TRAILING") then with_number Trailing
    else (if bytes_eq name (codes "CROP") then with_number Crop
    else (if bytes_eq name (codes "HEADCROP") then with_number HeadCrop
    else (if bytes_eq name (codes "SLIDINGWINDOW") then Some (record {
      smallest = 1 ∷ 0 ∷ [];
      made = λ numbers. SlidingWindow (slice_index numbers 0) (slice_index numbers 1);
    })
    else (if bytes_eq name (codes "AVGQUAL") then with_number AverageQuality
    else (if bytes_eq name (codes "MINLEN") then with_number MinLen
    else (if bytes_eq name (codes "TOPHRED33")
    then Some (record { smallest = []; made = λ numbers. ToPhred33 })
    else None)))))))

-- the numbers that pieces write, each with a smallest value, or their first fault
abbrev pub numbers_of : List ℕ → List (List ℕ) → Result (List ℕ) StepFaultKind
numbers_of smallest numbers =
    if not (length numbers == length smallest) then Err WrongCount
    else (if not (list_all is_number numbers) then Err BadNumber
    else (if not (pointwise nat_le smallest (map number_of numbers)) then Err OutOfRange
    else Ok (map number_of numbers)))

-- the step that a kind and the pieces of its numbers give, or their first fault
abbrev pub step_of_kind : Option Kind → List (List ℕ) → Result Step StepFaultKind
step_of_kind None numbers = Err Unknown
step_of_kind (Some kind) numbers = result_map kind.made (numbers_of kind.smallest numbers)

-- the step that a name and the pieces of its numbers give, or their first fault
abbrev pub step_of_pieces : List (List ℕ) → Result Step StepFaultKind
step_of_pieces [] = Err Unknown
step_of_pieces (name ∷ numbers) = step_of_kind (kind_of name) numbers

-- the step that an argument names, or its first fault
abbrev pub step_of : List ℕ → Result Step StepFaultKind
step_of word = step_of_pieces (pieces word)

-- a step before the steps of the arguments after it, or the fault of its argument
abbrev pub put_before : ℕ → Result Step StepFaultKind → Result (List Step) StepFault
    → Result (List Step) StepFault
put_before place (Err kind) rest = Err (record { place = place; kind = kind })
put_before place (Ok step) rest = result_map (λ steps. step ∷ steps) rest

-- the steps that arguments name, or the fault of the first faulty one; `place` is the number of the
-- first argument
abbrev pub steps_from : ℕ → List (List ℕ) → Result (List Step) StepFault
steps_from place [] = Ok []
steps_from place (word ∷ words) = put_before place (step_of word) (steps_from (suc place) words)

-- the steps that 1 to `most_steps` arguments name, or the first fault
abbrev pub steps_of : List (List ℕ) → Result (List Step) StepFault
steps_of words =
    if length words == 0 then Err (record { place = 0; kind = NoSteps })
    else (if nat_lt most_steps (length words)
    then Err (record { place = most_steps + 1; kind = TooMany })
    else steps_from 1 words)

-- the first faulty argument has this number, counted from 1, and `kind` is its first fault
pub record IsFirstFault (kind : StepFaultKind) (place : ℕ) (words : List (List ℕ)) : Type 0 where
  pub some : 0 < place
  pub within : place ≤ length words
  pub fault : step_of (slice_index_or words (place - 1) []) ≡ Err kind
  pub before : (k : ℕ) → k < place - 1 → is_ok (step_of (slice_index_or words k [])) ≡ true

-- what is wrong with the arguments: there are none, there are too many, or else the first fault of
-- the first faulty one
pub record IsFault (kind : StepFaultKind) (place : ℕ) (words : List (List ℕ)) : Type 0 where
  pub none : length words ≡ 0 → (kind ≡ NoSteps) × (place ≡ 0)
  pub many : most_steps < length words → (kind ≡ TooMany) × (place ≡ most_steps + 1)
  pub first : 0 < length words → length words ≤ most_steps → IsFirstFault kind place words
