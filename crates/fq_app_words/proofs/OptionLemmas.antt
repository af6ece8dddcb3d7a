-- What `clap` makes of options before the files, at the built commands.
use Rattle.std.proofs.Common.{◌≡◌, ℕ, ◌&&◌, Bool, not, true, false, if◌then◌else◌, ◌≤◌, decimal, Some, None, List, [], ◌∷◌, ◌++◌, map, flat_map, unwrap_or, codes, refl, ap, ap₂, sym, subst, ◌∙◌, append-nil, append_assoc, is_some, All}
use Rattle.std.specs.List.{IsDistinct, AllByRecursion}
use Rattle.std.specs.Option.{option_map_or}
use Rattle.std.specs.Str.{bytes_eq}
use Rattle.std.proofs.lemmas.List.Elements.{All-head, All-tail}
use Rattle.clap.specs.Kinds.{Kinds, or_else, values_kinds}
use Rattle.clap.specs.Values.{refused_kind}
use Rattle.clap.specs.declared.builder.value_parser.ValueParser.TheVariants as parser
use Rattle.clap.specs.declared.error.kind.ErrorKind.TheVariants.{ArgumentConflict}
use Rattle.clap.specs.declared.parser.matches.ValueSource.TheVariants.{CommandLine}
use Rattle.clap.specs.Simple.{Shape, new_shape, new_rule, filled_from, help_rule, version_rule}
use Rattle.clap.specs.Walk.{Text, Row, Rule, Held, Waiting, idle, option, arg_by_id, settled_rows, used, used_by_id, with_values, without, values_or_missing, reading_by, option_word, walked}
use Rattle.clap.specs.Faults.{settle_fault, values_fault, set_fault, repeat_fault, use_fault, turn_fault}
use Rattle.clap.proofs.OnLiterals.{clap_on_literals}
use Rattle.fq_app_words.specs.Words.{most, option_rules, file_rule, output_rules}
use Rattle.fq_app_words.specs.CommandLines.{hyphen, IsPlain, Choice, threads, block, depth, chunk, encoding, trimlog, no_name_check, sync, report, explain, name_of, value_of, option_words, IsUsual}
use Rattle.fq_app_words.proofs.DecimalLemmas.{decimal_plain, decimal_fits}
use Rattle.fq_app_words.proofs.RowLemmas.{look, has_look, look_last, use_row, first_use}
use Rattle.fq_app_words.proofs.RunLemmas.{run, one_word, standing, plain_run}

-- The built commands.

-- the options, filled in
abbrev pub options : List Rule
options = filled_from 1 option_rules

-- a built command that has these options, and then other arguments
abbrev pub leaf : Text → List Rule → Shape
leaf name others = record (new_shape name) {
  rules = options ++ others;
  disable_help_subcommand = true;
  has_version = true;
  propagate_version = true;
  is_built = true;
}

-- the arguments of `PE` after the options, filled in
abbrev pub pairs_others : List Rule
pairs_others = filled_from 1 (file_rule (codes "F") ∷ file_rule (codes "R")
    ∷ (output_rules ++ help_rule ∷ version_rule ∷ []))

-- the arguments of `IL` after the options, filled in
abbrev pub interleaved_others : List Rule
interleaved_others =
    filled_from 1 (file_rule (codes "I") ∷ (output_rules ++ help_rule ∷ version_rule ∷ []))

-- What is held between two words.

-- these rows, and an argument whose values are not a row yet
abbrev pub pending : List Row → Text → List Text → ℕ → Held
pending rows id values skip =
    record { rows = rows; pending = Some (id, values); skip = skip }

-- these are the rows, with that of a pending argument, which is none of the steps and has no fault
pub record Holds (s : Shape) (rows : List Row) (h : Held) : Type 0 where
  pub are : settled_rows s.rules h.pending h.rows ≡ rows
  pub sound : settle_fault s.rules s.args_override_self h ≡ []
  pub apart : option_map_or (λ p. bytes_eq p.0 (codes "STEPS")) h.pending false ≡ false

-- the words lead from one position to another without a fault, and then these rows are held
pub record Leads (s : Shape) (from to : ℕ) (h : Held) (words : List Text) (rows : List Row) : Type 0
  where
    pub held : Held
    pub runs : (more : List Text) → run s [] (standing idle from h) (words ++ more)
        ≡ run s [] (standing idle to held) more
    pub holds : Holds s rows held

-- words after words
pub then_lead : (s : Shape) (from by to : ℕ) (h : Held) (first second : List Text)
    (some rows : List Row) → Leads s from by h first some →
    ((g : Held) → Holds s some g → Leads s by to g second rows) →
    Leads s from to h (first ++ second) rows
then_lead s from by to h first second some rows begins goes_on =
    let ends = goes_on begins.held begins.holds in
    record {
      held = ends.held;
      runs = λ more. ap (run s [] (standing idle from h)) (append_assoc first second more)
          ∙ begins.runs (second ++ more) ∙ ends.runs more;
      holds = ends.holds;
    }

-- no argument with this id has come
unrepeated : (again : Bool) (id : Text) (rows : List Row) → look id rows ≡ None →
    repeat_fault again id rows ≡ []
unrepeated again id rows none = ap (λ b. if b && not again then ArgumentConflict ∷ [] else [])
    (has_look id rows ∙ ap is_some none)

-- the argument takes one value in the rows, and once
abbrev pub IsSingle : Shape → Rule → Text → List Row → Type 0
IsSingle s a value rows = (arg_by_id s.rules a.id ≡ Some a)
    × (used a (value ∷ []) rows
    ≡ with_values a.id (reading_by a) CommandLine (value ∷ []) (without a.id rows))
    × (use_fault s.args_override_self a (value ∷ []) rows
    ≡ set_fault s.args_override_self a (value ∷ []) rows)
    × (bytes_eq a.id (codes "STEPS") ≡ false)

-- what is held after its first use
pub single_held : (s : Shape) (a : Rule) (value : Text) (rows : List Row) (skip : ℕ) →
    IsSingle s a value rows → values_fault a (value ∷ []) ≡ [] → look a.id rows ≡ None →
    Holds s (rows ++ use_row a (value ∷ []) ∷ []) (pending rows a.id (value ∷ []) skip)
single_held s a value rows skip is valid none = record {
  are = ap (λ o. used_by_id o (value ∷ []) rows) is.0 ∙ is.1
      ∙ first_use a (value ∷ []) rows none;
  sound = ap (λ o. option_map_or (λ b. use_fault s.args_override_self b (value ∷ []) rows) o [])
      is.0
      ∙ is.2 ∙ ap₂ or_else (unrepeated s.args_override_self a.id rows none) valid;
  apart = is.3;
}

-- Options.

-- the filled in argument of an option
abbrev pub rule_for : Choice → Rule
rule_for choice = unwrap_or (arg_by_id options (name_of choice)) (new_rule [])

-- the row of an option
abbrev pub choice_row : Choice → Row
choice_row choice = record (use_row (rule_for choice)
    (values_or_missing (rule_for choice) (value_of choice))) { id = name_of choice }

-- What is known of an option when it comes.
pub record Comes (s : Shape) (choice : Choice) (h : Held) (rows : List Row) : Type 0 where
  pub usual : IsUsual choice
  pub holds : Holds s rows h
  pub new : look (name_of choice) rows ≡ None

-- the word by which an option is named
abbrev word_of : Choice → Text
word_of choice = hyphen ∷ hyphen ∷ name_of choice

-- these rows, and no argument whose values are not a row yet
abbrev closed : List Row → ℕ → Held
closed rows skip = record { rows = rows; pending = None; skip = skip }

module _ {s : Shape} {choice : Choice} {h : Held} {rows : List Row}
    (comes : Comes s choice h rows) where
  -- an option that takes a value, if its words are read so
  valued : (value : Text) → IsPlain value →
      let a = rule_for choice in
      let again = s.args_override_self in
      values_fault a (value ∷ []) ≡ [] →
      walked s.rules [] (standing idle 1 h) (word_of choice)
      ≡ standing (option a.id) 1 (pending (settled_rows s.rules h.pending h.rows) a.id [] h.skip) →
      turn_fault s [] (standing idle 1 h) (word_of choice)
      ≡ or_else (settle_fault s.rules again h) [] →
      option_word (arg_by_id s.rules a.id) a.id value (pending rows a.id [] h.skip)
      ≡ (pending rows a.id (value ∷ []) h.skip, idle) →
      IsSingle s a value rows → a.id ≡ name_of choice →
      use_row a (value ∷ []) ≡ choice_row choice →
      Leads s 1 1 h (word_of choice ∷ value ∷ []) (rows ++ choice_row choice ∷ [])
  valued value plain valid opens quiet takes single named is =
      let a = rule_for choice in
      let opened = pending rows a.id [] h.skip in
      let full = pending rows a.id (value ∷ []) h.skip in
      record {
        held = full;
        runs = λ more. one_word s [] (standing idle 1 h) (standing (option a.id) 1 opened)
            (word_of choice) (value ∷ more)
            (opens ∙ ap (λ (rs : List Row). standing (option a.id) 1 (pending rs a.id [] h.skip))
            comes.holds.are)
            (quiet ∙ ap (λ (kinds : Kinds). or_else kinds []) comes.holds.sound)
            ∙ plain_run s value plain (option a.id) 1 opened (standing idle 1 full) more
            (ap (λ (next : Held × Waiting). standing next.1 1 next.0) takes) refl;
        holds = subst (λ (r : Row). Holds s (rows ++ r ∷ []) full) is
            (single_held s a value rows h.skip single valid
            (subst (λ (id : Text). look id rows ≡ None) (sym named) comes.new));
      }

  -- a flag, if its word is read so
  flagged : let a = rule_for choice in
      let again = s.args_override_self in
      let now = settled_rows s.rules h.pending h.rows in
      walked s.rules [] (standing idle 1 h) (word_of choice) ≡ standing idle 1 (closed
      (with_values a.id (reading_by a) CommandLine a.missing (without a.id now)) h.skip) →
      turn_fault s [] (standing idle 1 h) (word_of choice)
      ≡ or_else (or_else (settle_fault s.rules again h)
      (or_else (repeat_fault again a.id now) [])) [] →
      a.id ≡ name_of choice → use_row a a.missing ≡ choice_row choice →
      Leads s 1 1 h (word_of choice ∷ []) (rows ++ choice_row choice ∷ [])
  flagged opens quiet named is =
      let a = rule_for choice in
      let again = s.args_override_self in
      let end = rows ++ choice_row choice ∷ [] in
      let new : look a.id rows ≡ None =
      subst (λ (id : Text). look id rows ≡ None) (sym named) comes.new in
      let grows = ap (λ (rs : List Row).
      with_values a.id (reading_by a) CommandLine a.missing (without a.id rs)) comes.holds.are
      ∙ first_use a a.missing rows new ∙ ap (λ (r : Row). rows ++ r ∷ []) is in
      record {
        held = closed end h.skip;
        runs = λ more. one_word s [] (standing idle 1 h) (standing idle 1 (closed end h.skip))
            (word_of choice) more
            (opens ∙ ap (λ (rs : List Row). standing idle 1 (closed rs h.skip)) grows)
            (quiet ∙ ap₂ (λ (x y : Kinds). or_else (or_else x (or_else y [])) [])
            comes.holds.sound
            (ap (repeat_fault again a.id) comes.holds.are ∙ unrepeated again a.id rows new));
        holds = record { are = refl; sound = refl; apart = refl };
      }

-- the digits of a number of 64 bits have no fault
number_sound : (n : ℕ) → n ≤ most →
    values_kinds false (parser.Unsigned 0 most) (decimal n ∷ []) ≡ []
number_sound n fits =
    ap (λ b. or_else (if b then [] else refused_kind (parser.Unsigned 0 most) ∷ []) [])
    (decimal_fits n fits)

module _ (name : Text) (others : List Rule) where
  abbrev s : Shape
  s = leaf name others

  -- an option leads the walk on
  choice_leads : (choice : Choice) (h : Held) (rows : List Row) → Comes s choice h rows →
      Leads s 1 1 h (option_words choice) (rows ++ choice_row choice ∷ [])
  unfolding clap_on_literals
  choice_leads (threads n) h rows c = valued c (decimal n) (decimal_plain n c.usual)
      (number_sound n c.usual) refl refl refl (refl, refl, refl, refl) refl refl
  choice_leads (block n) h rows c = valued c (decimal n) (decimal_plain n c.usual)
      (number_sound n c.usual) refl refl refl (refl, refl, refl, refl) refl refl
  choice_leads (depth n) h rows c = valued c (decimal n) (decimal_plain n c.usual)
      (number_sound n c.usual) refl refl refl (refl, refl, refl, refl) refl refl
  choice_leads (chunk n) h rows c = valued c (decimal n) (decimal_plain n c.usual)
      (number_sound n c.usual) refl refl refl (refl, refl, refl, refl) refl refl
  choice_leads (encoding name) h rows c =
      valued c name c.usual refl refl refl refl (refl, refl, refl, refl) refl refl
  choice_leads (trimlog file) h rows c =
      valued c file c.usual refl refl refl refl (refl, refl, refl, refl) refl refl
  choice_leads no_name_check h rows c = flagged c refl refl refl refl
  choice_leads sync h rows c = flagged c refl refl refl refl
  choice_leads (report file) h rows c =
      valued c file c.usual refl refl refl refl (refl, refl, refl, refl) refl refl
  choice_leads explain h rows c = flagged c refl refl refl refl

-- these options are new
abbrev pub AreNew : List Row → List Choice → Type 0
AreNew rows choices = AllByRecursion (λ choice. look (name_of choice) rows ≡ None) choices

still_new : (row : Row) (rows : List Row) (choices : List Choice) → AreNew rows choices →
    AllByRecursion (λ name. bytes_eq row.id name ≡ false) (map name_of choices) →
    AreNew (rows ++ row ∷ []) choices
still_new row rows [] new differ = tt
still_new row rows (choice ∷ choices) new differ = (
  look_last (name_of choice) rows (row ∷ []) new.0
      ∙ ap (λ b. if b then Some row else None) differ.0,
  still_new row rows choices new.1 differ.1,
)

-- options lead the walk on
pub choices_lead : (name : Text) (others : List Rule) (choices : List Choice) (h : Held)
    (rows : List Row) → All IsUsual choices → IsDistinct bytes_eq (map name_of choices) →
    AreNew rows choices → Holds (leaf name others) rows h →
    Leads (leaf name others) 1 1 h (flat_map option_words choices)
    (rows ++ map choice_row choices)
unfolding IsDistinct
choices_lead name others [] h rows usual once new holds = record {
  held = h;
  runs = λ more. refl;
  holds = subst (λ (rs : List Row). Holds (leaf name others) rs h) (sym (append-nil rows)) holds;
}
choices_lead name others (choice ∷ choices) h rows usual once new holds =
    let s = leaf name others in
    let row = choice_row choice in
    then_lead s 1 1 1 h (option_words choice) (flat_map option_words choices)
    (rows ++ row ∷ []) (rows ++ map choice_row (choice ∷ choices))
    (choice_leads name others choice h rows (record {
      usual = All-head IsUsual choice choices usual;
      holds = holds;
      new = new.0;
    }))
    (λ g held. subst
    (λ (rs : List Row). Leads s 1 1 g (flat_map option_words choices) rs)
    (append_assoc rows (row ∷ []) (map choice_row choices))
    (choices_lead name others choices g (rows ++ row ∷ [])
    (All-tail IsUsual choice choices usual) once.1
    (still_new row rows choices new.1 once.0) held))
