-- What a command line with options, files and steps asks for.
use Rattle.std.proofs.Common.{◌≡◌, ◌<◌, ◌≤◌, ◌+◌, ◌&&◌, ℕ, Bool, true, false, min, if◌then◌else◌, Option, Some, None, List, [], ◌∷◌, ◌++◌, length, map, flat_map, unwrap_or, codes, fold, refl, ap, ap₂, sym, subst, ◌∙◌, arith, append-nil, append_assoc, suc, is_some, All, rules}
use Rattle.std.specs.Prelude.{option_and_then, slice_get}
use Rattle.std.specs.List.{AllByRecursion}
use Rattle.std.specs.Option.{option_map_or}
use Rattle.std.specs.Str.{bytes_eq}
use Rattle.std.proofs.lemmas.Bool.Decides.{nat_tests}
use Rattle.std.proofs.lemmas.List.Elements.{All-head, All-tail, recursion_from_All}
use Rattle.clap.specs.Kinds.{Kinds, or_else, range_kinds, values_kinds}
use Rattle.clap.specs.declared.builder.value_parser.ValueParser.TheVariants as parser
use Rattle.clap.specs.Simple.{Shape, built, entered, filled, names_of, with_index}
use Rattle.clap.specs.Walk.{Text, Row, Rule, Held, Walk, idle, positional, arg_by_id, arg_by_index, used_by_id, settled, pushed, to_positional, walk_from, nothing_held, finished, with_default, more_values}
use Rattle.clap.specs.declared.parser.matches.ValueSource.TheVariants.{CommandLine}
use Rattle.clap.specs.Lexer.{usize_max}
use Rattle.clap.specs.Faults.{settle_fault, positional_fault, stray_fault, defaults_fault, walk_fault, check_fault, entered_fault}
use Rattle.clap.proofs.OnLiterals.{clap_on_literals}
use Rattle.fq_app_words.specs.Requests.{Asking, InputNames, two_files, interleaved_file}
use Rattle.fq_app_words.specs.Words.{file_rule, steps_rule, pairs_app, interleaved_app, program_app, most, asked_in, asked_of, asking_in, pairs_asked, words_fault, AskedFor}
use Rattle.fq_app_words.specs.CommandLines.{IsPlain, Choice, threads, block, depth, chunk, encoding, trimlog, no_name_check, sync, report, explain, IsUsual, AreUsual, with_choice, with_choices, option_words, OutputNames, output_words, asking_with, PairsAreAskedFor, InterleavedPairsAreAskedFor}
use Rattle.fq_app_words.proofs.DecimalLemmas.{decimal_read}
use Rattle.fq_app_words.proofs.RowLemmas.{look, look_last, use_row, at_new, default_row, look_finished, default_kinds, defaults_sound}
use Rattle.fq_app_words.proofs.RunLemmas.{run, one_word, standing, plain_run, stopped_at, words_kept}
use Rattle.fq_app_words.proofs.OptionLemmas.{leaf, pairs_others, interleaved_others, pending, Holds, Leads, then_lead, single_held, choice_row, AreNew, choices_lead}

-- Files.

-- the argument for a file, filled in
abbrev file_at : ℕ → Text → Rule
file_at position id = with_index position (filled (file_rule id))

-- its row
abbrev file_row : Text → Text → Row
file_row id name = use_row (file_at 1 id) (name ∷ [])

abbrev after : ℕ → ℕ
after position = min (position + 1) usize_max

-- the argument for a file comes at this position, and has not come in these rows
abbrev IsFile : Shape → List Row → List Row → ℕ → Text → Type 0
IsFile s chosen rest position id = (arg_by_index s.rules position ≡ Some (file_at position id))
    × (arg_by_id s.rules id ≡ Some (file_at position id))
    × (bytes_eq id (codes "STEPS") ≡ false) × (look id chosen ≡ None) × (look id rest ≡ None)

-- these arguments for files come one after the other
abbrev AreFiles : Shape → List Row → List Row → ℕ → List (Text × Text) → Type 0
AreFiles s chosen rest position [] = Unit {0}
AreFiles s chosen rest position (file ∷ files) = IsFile s chosen rest position file.0
    × AreFiles s chosen (rest ++ file_row file.0 file.1 ∷ []) (after position) files

never : (b : Bool) → (b && false) ≡ false
never true = refl
never false = refl

-- the name of a file leads the walk on
file_leads : (s : Shape) (chosen rest : List Row) (position : ℕ) (id name : Text) (h : Held) →
    IsFile s chosen rest position id → IsPlain name → Holds s (chosen ++ rest) h →
    Leads s position (after position) h (name ∷ [])
    (chosen ++ (rest ++ file_row id name ∷ []))
file_leads s chosen rest position id name h is plain holds =
    let a = file_at position id in
    let again = s.args_override_self in
    let rows = chosen ++ rest in
    let full = pending rows id (name ∷ []) h.skip in
    let waits = option_map_or (λ q. bytes_eq q.0 id) h.pending false in
    record {
      held = full;
      runs = λ more. plain_run s name plain idle position h
          (standing idle (after position) full) more
          (ap (λ o. to_positional s.rules o name (standing idle position h) h) is.0
          ∙ ap (λ b. standing idle (after position)
          (pushed id name (if b then h else settled s.rules h))) (never waits)
          ∙ ap (λ (rs : List Row). standing idle (after position)
          (pending rs id (name ∷ []) h.skip)) holds.are)
          (ap (λ o. option_map_or (λ b. positional_fault s.rules again b h) o (stray_fault s))
          is.0
          ∙ ap (λ b. if b then [] else settle_fault s.rules again h) (never waits)
          ∙ holds.sound);
      holds = subst (λ (rs : List Row). Holds s rs full)
          (append_assoc chosen rest (file_row id name ∷ []))
          (single_held s a name rows h.skip (is.1, refl, refl, is.2) refl
          (look_last id chosen rest is.3 ∙ is.4));
    }

abbrev file_rows : List (Text × Text) → List Row
file_rows files = map (λ file. file_row file.0 file.1) files

abbrev names : List (Text × Text) → List Text
names files = map (λ file. file.1) files

abbrev past : ℕ → List (Text × Text) → ℕ
past position [] = position
past position (file ∷ files) = past (after position) files

-- the names of files lead the walk on
files_lead : (s : Shape) (chosen rest : List Row) (files : List (Text × Text)) (more : List Text)
    (position : ℕ) (h : Held) → AreFiles s chosen rest position files →
    AllByRecursion IsPlain (names files ++ more) → Holds s (chosen ++ rest) h →
    Leads s position (past position files) h (names files) (chosen ++ (rest ++ file_rows files))
files_lead s chosen rest [] more position h are plain holds = record {
  held = h;
  runs = λ more. refl;
  holds = subst (λ (rs : List Row). Holds s (chosen ++ rs) h) (sym (append-nil rest)) holds;
}
files_lead s chosen rest (file ∷ files) more position h are plain holds =
    let row = file_row file.0 file.1 in
    let last = past position (file ∷ files) in
    then_lead s position (after position) last h (file.1 ∷ []) (names files)
    (chosen ++ (rest ++ row ∷ [])) (chosen ++ (rest ++ file_rows (file ∷ files)))
    (file_leads s chosen rest position file.0 file.1 h are.0 plain.0 holds)
    (λ g held. subst (λ (rs : List Row).
    Leads s (after position) last g (names files) (chosen ++ rs))
    (append_assoc rest (row ∷ []) (file_rows files))
    (files_lead s chosen (rest ++ row ∷ []) files more (after position) g are.1 plain.1 held))

plain_after : (files : List (Text × Text)) (more : List Text) →
    AllByRecursion IsPlain (names files ++ more) → AllByRecursion IsPlain more
plain_after [] more plain = plain
plain_after (file ∷ files) more plain = plain_after files more plain.1

-- Steps.

-- the argument for the steps, filled in
abbrev steps_at : ℕ → Rule
steps_at position = with_index position (filled (steps_rule (codes "STEPS")))

-- no word is refused as a text
all_texts : (words : List Text) → values_kinds false parser.String words ≡ []
all_texts [] = refl
all_texts (word ∷ words) = all_texts words

-- n steps are not too many
in_range : (n : ℕ) → n < most → range_kinds 0 most (suc n) ≡ []
in_range n fits = grind (arith, nat_tests)

-- where the walk is, if these steps have come after these rows
abbrev stepping : ℕ → List Row → ℕ → List Text → Walk
stepping position rows skip steps =
    standing positional position (pending rows (codes "STEPS") steps skip)

-- the walk is there, without a fault
abbrev stepped : ℕ → List Row → ℕ → List Text → Walk × Kinds
stepped position rows skip steps = (stepping position rows skip steps, [])

module _ (s : Shape) (position : ℕ)
    (at_position : arg_by_index s.rules position ≡ Some (steps_at position)) where
  -- further steps
  steps_run : (rows : List Row) (skip : ℕ) (before steps : List Text) →
      AllByRecursion IsPlain steps → run s [] (stepping position rows skip before) steps
      ≡ stepped position rows skip (before ++ steps)
  unfolding walk_fault
  steps_run rows skip before [] plain =
      ap (stepped position rows skip) (sym (append-nil before))
  steps_run rows skip before (step ∷ steps) plain =
      let h = pending rows (codes "STEPS") before skip in
      let next = before ++ step ∷ [] in
      plain_run s step plain.0 positional position h (stepping position rows skip next) steps
      (ap (λ o. to_positional s.rules o step (stepping position rows skip before) h) at_position)
      (ap (λ o. option_map_or (λ a. positional_fault s.rules s.args_override_self a h) o
      (stray_fault s)) at_position)
      ∙ steps_run rows skip next steps plain.1
      ∙ ap (stepped position rows skip) (append_assoc before (step ∷ []) steps)

  -- all steps
  all_steps_run : (rows : List Row) (h : Held) (step : Text) (steps : List Text) →
      AllByRecursion IsPlain (step ∷ steps) → Holds s rows h →
      run s [] (standing idle position h) (step ∷ steps)
      ≡ stepped position rows h.skip (step ∷ steps)
  all_steps_run rows h step steps plain holds =
      let again = s.args_override_self in
      plain_run s step plain.0 idle position h (stepping position rows h.skip (step ∷ [])) steps
      (ap (λ o. to_positional s.rules o step (standing idle position h) h) at_position
      ∙ ap (λ b. standing positional position
      (pushed (codes "STEPS") step (if b && true then h else settled s.rules h))) holds.apart
      ∙ ap (λ (rs : List Row). stepping position rs h.skip (step ∷ [])) holds.are)
      (ap (λ o. option_map_or (λ a. positional_fault s.rules again a h) o (stray_fault s))
      at_position
      ∙ ap (λ b. if b && true then [] else settle_fault s.rules again h) holds.apart
      ∙ holds.sound)
      ∙ steps_run rows h.skip (step ∷ []) steps plain.1

-- The end of the line.

-- the faults of a command by its walk over the words, if these are the faults of its subcommand
abbrev level_by : Shape → Kinds → Bool → Walk × Kinds → Kinds
level_by s below has_subcommand r =
    or_else r.1 (or_else below (or_else (settle_fault s.rules s.args_override_self r.0.held)
    (or_else (defaults_fault (settled s.rules r.0.held).rows s.rules)
    (check_fault s (finished s.rules r.0.held) has_subcommand))))

-- the faults of a line of the program, and what it asks for
abbrev judged : List Text → Kinds × Option Asking
judged line = (words_fault line, pairs_asked line)

-- the same, by the walk of a command over the words after its name
abbrev judged_by : Text → Shape → Walk × Kinds → Kinds × Option Asking
judged_by command s r =
    (or_else (level_by s [] false r) [], asked_of command (finished s.rules r.0.held))

-- the command is entered by its name, and reads the words after it
abbrev IsEntered : Text → Shape → Type 0
IsEntered command s = (program : Text) (words : List Text) →
    judged (program ∷ command ∷ words)
    ≡ judged_by command s (run s [] (walk_from nothing_held) words)

-- the text of an argument in its row
abbrev row_text : Option Row → Text
row_text o = unwrap_or (option_and_then (λ r. slice_get r.values 0) o) []

none_yet : (choices : List Choice) → AreNew [] choices
none_yet [] = tt
none_yet (choice ∷ choices) = (refl, none_yet choices)

module _ (command : Text) (others : List Rule) (choices : List Choice)
    (files : List (Text × Text)) (step : Text) (steps : List Text) where
  -- the command
  abbrev s : Shape
  s = leaf command others

  abbrev position : ℕ
  position = past 1 files

  -- the rows of the options
  abbrev chosen : List Row
  chosen = map choice_row choices

  -- the rows after them, and the defaults
  abbrev others_ended : List Row
  others_ended = (file_rows files ++ use_row (steps_at position) (step ∷ steps) ∷ [])
      ++ flat_map default_row s.rules

  -- the same is found in these rows
  abbrev IsFound : List Row → Type 0
  IsFound rows = (id : Text) → look id rows ≡ look id (chosen ++ others_ended)

  -- what no option is called is found after them
  found_after : (rows : List Row) (id : Text) → IsFound rows → look id chosen ≡ None →
      look id rows ≡ look id others_ended
  found_after rows id found none = found id ∙ look_last id chosen others_ended none

  -- what has to be known of a command
  record Takes (asking : Asking) : Type 0 where
    entered : IsEntered command s
    are_files : AreFiles s chosen [] 1 files
    at_position : arg_by_index s.rules position ≡ Some (steps_at position)
    by_name : arg_by_id s.rules (codes "STEPS") ≡ Some (steps_at position)
    no_steps : look (codes "STEPS") (chosen ++ file_rows files) ≡ None
    defaults : default_kinds s.rules ≡ []
    checked : (rows : List Row) → IsFound rows → check_fault s rows false ≡ []
    asked : (rows : List Row) → IsFound rows → asked_of command rows ≡ Some asking

  module _ (asking : Asking) (takes : Takes asking) (usual : AreUsual choices)
      (plain : AllByRecursion IsPlain (names files ++ step ∷ steps))
      (fits : length (step ∷ steps) ≤ most) where
    -- the words after the command
    abbrev line : List Text
    line = flat_map option_words choices ++ (names files ++ step ∷ steps)

    options_lead : Leads s 1 1 nothing_held (flat_map option_words choices) chosen
    options_lead = choices_lead command others choices nothing_held [] usual.usual usual.once
        (none_yet choices) (record { are = refl; sound = refl; apart = refl })

    all_lead : Leads s 1 position options_lead.held (names files) (chosen ++ file_rows files)
    all_lead = files_lead s chosen [] files (step ∷ steps) 1 options_lead.held takes.are_files plain
        (subst (λ (rs : List Row). Holds s rs options_lead.held) (sym (append-nil chosen))
        options_lead.holds)

    -- what is held at the end
    abbrev end : Held
    end = pending (chosen ++ file_rows files) (codes "STEPS") (step ∷ steps) all_lead.held.skip

    line_run : run s [] (walk_from nothing_held) line ≡ (standing positional position end, [])
    line_run = options_lead.runs (names files ++ step ∷ steps)
        ∙ all_lead.runs (step ∷ steps)
        ∙ all_steps_run s position takes.at_position (chosen ++ file_rows files) all_lead.held step
        steps (plain_after files (step ∷ steps) plain) all_lead.holds

    steps_sound : settle_fault s.rules false end ≡ []
    steps_sound = rw (
      takes.by_name,
      in_range (length steps) (omega arith),
      all_texts (step ∷ steps),
    ) refl

    end_found : IsFound (finished s.rules end)
    end_found id =
        let row = use_row (steps_at position) (step ∷ steps) in
        ap (λ (rs : List Row). look id (fold with_default rs s.rules))
        (ap (λ o. used_by_id o (step ∷ steps) end.rows) takes.by_name
        ∙ at_new (codes "STEPS") (more_values CommandLine (step ∷ steps)) (row ∷ []) end.rows
        takes.no_steps
        ∙ append_assoc chosen (file_rows files) (row ∷ []))
        ∙ look_finished id s.rules (chosen ++ (file_rows files ++ row ∷ []))
        ∙ ap (look id) (append_assoc chosen (file_rows files ++ row ∷ [])
        (flat_map default_row s.rules))

    -- the line asks for what its command finds in it
    line_asked : (program : Text) → AskedFor (program ∷ command ∷ line) (Some asking)
    line_asked program =
        let rows = finished s.rules end in
        let is : judged (program ∷ command ∷ line) ≡ ([], Some asking) =
        takes.entered program line ∙ ap (judged_by command s) line_run
        ∙ ap₂ (λ (kinds : Kinds) (found : Option Asking). (or_else kinds [], found))
        (ap₂ or_else steps_sound
        (ap₂ or_else (defaults_sound s.rules (settled s.rules end).rows takes.defaults)
        (takes.checked rows end_found)))
        (takes.asked rows end_found) in
        record { parse = ap (λ found. found.0) is; ask = ap (λ found. found.1) is }

-- What the rows say.

-- no option has the name of another argument
abbrev NoFile : List Row → Type 0
NoFile rows = (look (codes "F") rows ≡ None) × (look (codes "R") rows ≡ None)
    × (look (codes "I") rows ≡ None) × (look (codes "FP") rows ≡ None)
    × (look (codes "FU") rows ≡ None) × (look (codes "RP") rows ≡ None)
    × (look (codes "RU") rows ≡ None) × (look (codes "STEPS") rows ≡ None)

no_file : (choices : List Choice) → NoFile (map choice_row choices)
no_file [] = (refl, refl, refl, refl, refl, refl, refl, refl)
no_file (threads n ∷ choices) = no_file choices
no_file (block n ∷ choices) = no_file choices
no_file (depth n ∷ choices) = no_file choices
no_file (chunk n ∷ choices) = no_file choices
no_file (encoding name ∷ choices) = no_file choices
no_file (trimlog file ∷ choices) = no_file choices
no_file (no_name_check ∷ choices) = no_file choices
no_file (sync ∷ choices) = no_file choices
no_file (report file ∷ choices) = no_file choices
no_file (explain ∷ choices) = no_file choices

-- an option changes what it names
choice_asked : (choice : Choice) → IsUsual choice → (inputs : InputNames) (rows : List Row) →
    asking_in inputs (choice_row choice ∷ rows) ≡ with_choice choice (asking_in inputs rows)
unfolding clap_on_literals asking_in
choice_asked (threads n) usual inputs rows =
    ap (λ m. with_choice (threads m) (asking_in inputs rows)) (decimal_read n usual)
choice_asked (block n) usual inputs rows =
    ap (λ m. with_choice (block m) (asking_in inputs rows)) (decimal_read n usual)
choice_asked (depth n) usual inputs rows =
    ap (λ m. with_choice (depth m) (asking_in inputs rows)) (decimal_read n usual)
choice_asked (chunk n) usual inputs rows =
    ap (λ m. with_choice (chunk m) (asking_in inputs rows)) (decimal_read n usual)
choice_asked (encoding name) usual inputs rows = refl
choice_asked (trimlog file) usual inputs rows = refl
choice_asked no_name_check usual inputs rows = refl
choice_asked sync usual inputs rows = refl
choice_asked (report file) usual inputs rows = refl
choice_asked explain usual inputs rows = refl

choices_asked : (choices : List Choice) → All IsUsual choices →
    (inputs : InputNames) (rows : List Row) →
    asking_in inputs (map choice_row choices ++ rows)
    ≡ with_choices choices (asking_in inputs rows)
choices_asked [] usual inputs rows = refl
choices_asked (choice ∷ choices) usual inputs rows =
    choice_asked choice (All-head IsUsual choice choices usual) inputs
    (map choice_row choices ++ rows)
    ∙ ap (with_choice choice)
    (choices_asked choices (All-tail IsUsual choice choices usual) inputs rows)

-- what is asked for depends on what is found alone
same_asking : (inputs : InputNames) (rows others : List Row) →
    ((id : Text) → look id rows ≡ look id others) →
    asking_in inputs rows ≡ asking_in inputs others
unfolding asking_in
same_asking inputs rows others same = simp same

-- The commands.

abbrev output_files : OutputNames → List (Text × Text)
output_files names = (codes "FP", names.forward_paired) ∷ (codes "FU", names.forward_unpaired)
    ∷ (codes "RP", names.reverse_paired) ∷ (codes "RU", names.reverse_unpaired) ∷ []

-- the files of `PE`
abbrev pairs_files : Text → Text → OutputNames → List (Text × Text)
pairs_files f r outputs = (codes "F", f) ∷ (codes "R", r) ∷ output_files outputs

-- the files of `IL`
abbrev interleaved_files : Text → OutputNames → List (Text × Text)
interleaved_files i outputs = (codes "I", i) ∷ output_files outputs

-- the same by the walk over the words of the program
abbrev top_by : Walk × Kinds → Kinds × Option Asking
top_by r =
    let app = built program_app in
    let below = entered app r.0.stopped in
    (level_by app.top (entered_fault app r.0.stopped) (is_some below) r, asked_in below)

pairs_entered : IsEntered (codes "PE") (leaf (codes "PE") pairs_others)
unfolding clap_on_literals program_app pairs_app interleaved_app pairs_asked words_fault
pairs_entered program words =
    let s = (built program_app).top in
    let names = names_of (built program_app) in
    let start = walk_from nothing_held in
    ap top_by (one_word s names start (stopped_at start (codes "PE") []) (codes "PE") words
    refl refl ∙ words_kept s names words start (codes "PE") [])

interleaved_entered : IsEntered (codes "IL") (leaf (codes "IL") interleaved_others)
unfolding clap_on_literals program_app pairs_app interleaved_app pairs_asked words_fault
interleaved_entered program words =
    let s = (built program_app).top in
    let names = names_of (built program_app) in
    let start = walk_from nothing_held in
    ap top_by (one_word s names start (stopped_at start (codes "IL") []) (codes "IL") words
    refl refl ∙ words_kept s names words start (codes "IL") [])

-- what is asked for with these options, outputs and steps
abbrev asking_for : List Choice → OutputNames → List Text → InputNames → Asking
asking_for choices outputs steps inputs = with_choices choices (asking_with inputs outputs steps)

module _ (choices : List Choice) (usual : All IsUsual choices) (outputs : OutputNames)
    (step : Text) (steps : List Text) where
  -- what `PE` takes
  pairs_take : (f r : Text) → Takes (codes "PE") pairs_others choices
      (pairs_files f r outputs) step steps
      (asking_for choices outputs (step ∷ steps) (two_files f r))
  unfolding clap_on_literals asking_in
  pairs_take f r =
      let files = pairs_files f r outputs in
      let none = no_file choices in
      let found = found_after (codes "PE") pairs_others choices files step steps in
      record {
        entered = pairs_entered;
        are_files = search rules;
        at_position = refl;
        by_name = refl;
        no_steps = look_last (codes "STEPS") (map choice_row choices) (file_rows files) none.7;
        defaults = refl;
        checked = λ rows is. search rules;
        asked = λ rows is. ap₂ (λ x y. Some (asking_in (two_files x y) rows))
            (ap row_text (found rows (codes "F") is none.0))
            (ap row_text (found rows (codes "R") is none.1))
            ∙ ap Some (same_asking (two_files f r) rows _ is
            ∙ choices_asked choices usual (two_files f r) _);
      }

  -- what `IL` takes
  interleaved_take : (i : Text) → Takes (codes "IL") interleaved_others choices
      (interleaved_files i outputs) step steps
      (asking_for choices outputs (step ∷ steps) (interleaved_file i))
  unfolding clap_on_literals asking_in
  interleaved_take i =
      let files = interleaved_files i outputs in
      let none = no_file choices in
      let found = found_after (codes "IL") interleaved_others choices files step steps in
      record {
        entered = interleaved_entered;
        are_files = search rules;
        at_position = refl;
        by_name = refl;
        no_steps = look_last (codes "STEPS") (map choice_row choices) (file_rows files) none.7;
        defaults = refl;
        checked = λ rows is. search rules;
        asked = λ rows is. ap (λ x. Some (asking_in (interleaved_file x) rows))
            (ap row_text (found rows (codes "I") is none.2))
            ∙ ap Some (same_asking (interleaved_file i) rows _ is
            ∙ choices_asked choices usual (interleaved_file i) _);
      }

-- `PE [options] F R FP FU RP RU STEPS..` asks for these names, steps and values
pub pairs_are_asked_for : PairsAreAskedFor
pairs_are_asked_for f r program choices outputs [] usual are plain = absurd (are.some refl)
pairs_are_asked_for f r program choices outputs (step ∷ steps) usual are plain =
    line_asked (codes "PE") pairs_others choices (pairs_files f r outputs) step steps
    (asking_for choices outputs (step ∷ steps) (two_files f r))
    (pairs_take choices usual.usual outputs step steps f r) usual
    (recursion_from_All IsPlain (f ∷ r ∷ (output_words outputs ++ step ∷ steps)) plain)
    are.fit program

-- `IL [options] I FP FU RP RU STEPS..` asks for these names, steps and values
pub interleaved_are_asked_for : InterleavedPairsAreAskedFor
interleaved_are_asked_for i program choices outputs [] usual are plain = absurd (are.some refl)
interleaved_are_asked_for i program choices outputs (step ∷ steps) usual are plain =
    line_asked (codes "IL") interleaved_others choices (interleaved_files i outputs) step steps
    (asking_for choices outputs (step ∷ steps) (interleaved_file i))
    (interleaved_take choices usual.usual outputs step steps i) usual
    (recursion_from_All IsPlain (i ∷ (output_words outputs ++ step ∷ steps)) plain)
    are.fit program
