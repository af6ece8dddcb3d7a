-- What `clap` finds in arguments, and the commands by which it parses them.
use Rattle.std.proofs.Common.{◌≡◌, ◌≢◌, ◌∙◌, ◌&&◌, ◌||◌, ◌<◌, ◌^◌, ℕ, Bool, true, false, true≢false, refl, sym, ap, ap₂, subst, List, [], ◌∷◌, length, Option, Some, None, Result, Ok, Err, codes, nat_lt, ltb-true, if◌then◌else◌}
use Rattle.std.specs.Prelude.{unwrap_or, option_map, Box}
use Rattle.std.specs.List.{list_all}
use Rattle.std.specs.Result.{result_unwrap_or}
use Rattle.std.specs.Char.{digit_value}
use Rattle.std.specs.Str.{bytes_eq}
use Rattle.std.specs.Str.Parse.{AllDigits, ParsesBool, ParsesUnsigned, digits_value, without_leading_plus}
use Rattle.std.proofs.lemmas.Bool.{false_from_ne_true}
use Rattle.std.proofs.lemmas.Slice.Eq.{bytes_eq-Decides}
use Rattle.std.specs.Borrow.{Bor}
use Rattle.clap.specs.ValueTests.{is_numeral, is_unsigned_in}
use Rattle.clap.specs.Words.{App, HasKind, HasMatchesOf, ReadsOne, Row, Rule, Text, app_of, fault_of, is_simple, is_simple_and_free, subcommand_name_of, subcommand_of, subcommand_rows, subcommand_rows_of, with_rule, with_subcommand}
use Rattle.clap.specs.declared.parser.matches.ArgMatches.{ArgMatches}
use Rattle.clap.specs.declared.parser.matches.ArgMatches.TheViews.{out-ArgMatches, out-SubCommand}
use Rattle.clap.specs.declared.parser.matches.SubCommand.{SubCommand}
use Rattle.std.specs.Box.{box_value}
use Rattle.clap.specs.declared.error.Error.{Error}
use Rattle.clap.proofs.OnLiterals.{clap_on_literals}
use Rattle.clap.specs.Built.{AddsArg, AddsInTurn, AddsSubcommand}
use Rattle.clap.specs.declared.builder.arg.Arg.{Arg}
use Rattle.clap.specs.declared.builder.command.Command.{Command}
use Rattle.fq_app_words.proofs.DecimalLemmas.{is_below, digits_fit}
use Rattle.fq_app_words.specs.Words.{AreArgs, IsArg, IsCommand, asked_in, asked_of, interleaved_app, most, number_of, pairs_app, pairs_asked, program_app, with_rules, words_fault}

-- a command with one more argument
one_more : (old new : Command) (arg : Arg) (app : App) (rule : Rule) → AddsArg old arg new →
    IsArg rule arg → IsCommand app old → IsCommand (with_rule app rule) new
one_more old new arg app rule adds is command = record {
  app_is = adds.shape is.local ∙ ap₂ with_rule command.app_is is.rule_is;
  local = adds.globals ∙ (ap (λ b. b || arg.global) command.local ∙ is.local);
}

-- a command with more arguments
pub more : (old new : Command) (args : List Arg) (app : App) (rules : List Rule) →
    AddsInTurn AddsArg old args new → AreArgs rules args → IsCommand app old →
    IsCommand (with_rules app rules) new
more old new [] app [] same are command = subst (λ (c : Command). IsCommand app c) same command
more old new (arg ∷ args) app (rule ∷ rules) adds are command =
    more adds.0 new args (with_rule app rule) rules adds.2 are.1
    (one_more old adds.0 arg app rule adds.1 are.0 command)
more old new [] app (rule ∷ rules) adds are command = absurd are
more old new (arg ∷ args) app [] adds are command = absurd are

-- the value of an argument, and its text
pub text_read : (found : Option (Bor Text)) (other : Bor Text) (first : Option Text) →
    option_map (λ s. s.now) found ≡ first → other.now ≡ [] →
    (unwrap_or found other).now ≡ unwrap_or first []
text_read (Some text) other first is empty = ap (λ o. unwrap_or o []) is
text_read None other first is empty = empty ∙ ap (λ o. unwrap_or o []) is

-- a command with one more subcommand
pub one_below : (old sub new : Command) (app below : App) → AddsSubcommand old sub new →
    IsCommand below sub → app_of old ≡ app → app_of new ≡ with_subcommand app below.top
one_below old sub new app below adds is old_is = adds.shape is.local
    ∙ ap₂ with_subcommand old_is (ap (λ (a : App). a.top) is.app_is)

-- ---- what is found

not_equal : (a b : List ℕ) → a ≢ b → bytes_eq a b ≡ false
not_equal a b h = false_from_ne_true (bytes_eq a b) (λ e. h ((bytes_eq-Decides a b).0 e))

is_readable : is_simple program_app ≡ true
unfolding clap_on_literals program_app pairs_app interleaved_app
is_readable = refl

is_free : is_simple_and_free program_app ≡ true
unfolding clap_on_literals program_app pairs_app interleaved_app
is_free = refl

-- the matches are those of the program's commands
pub found_in : (app : App) (words : List Text) (m : ArgMatches) → app ≡ program_app →
    HasMatchesOf app words m → pairs_asked words ≡ asked_in (subcommand_rows_of m)
unfolding pairs_asked
found_in app words m is matches = ap asked_in
    (sym ((matches (ap is_simple is ∙ is_readable)).1 ∙ ap (λ a. subcommand_of a words) is))

-- and so are the faults
pub parses_if : (app : App) (words : List Text) → app ≡ program_app →
    (is_simple_and_free app ≡ true → fault_of app words ≡ []) → words_fault words ≡ []
unfolding words_fault
parses_if app words is parses = sym (ap (λ a. fault_of a words) is)
    ∙ parses (ap is_simple_and_free is ∙ is_free)

-- and so is the kind of an error
pub fails_by : (app : App) (words : List Text) (e : Error) → app ≡ program_app →
    (is_simple_and_free app ≡ true → HasKind (fault_of app words) e) → HasKind (words_fault words) e
unfolding words_fault
fails_by app words e is fails = subst (λ kinds. HasKind kinds e) (ap (λ a. fault_of a words) is)
    (fails (ap is_simple_and_free is ∙ is_free))

-- the name of the subcommand that was found
pub name_met : (m : ArgMatches) → subcommand_name_of m ≡ option_map (λ p. p.0)
    (subcommand_rows_of m)
name_met m = go (out-ArgMatches m).subcommand
  where
    go : {Z : Type 0} (o : Option (Box SubCommand Z)) →
        option_map (λ b. (out-SubCommand (box_value b)).name.now) o
        ≡ option_map (λ p. p.0) (subcommand_rows o)
    go None = refl
    go (Some b) = refl

-- the subcommand that was found, by its name and its rows
pub met_is : (found : Option (Text × List Row)) (name : Text) (rows : List Row) →
    Some name ≡ option_map (λ p. p.0) found → Some rows ≡ option_map (λ p. p.1) found
    → asked_in found ≡ asked_of name rows
met_is (Some found) name rows named has =
    let name_is : found.0 ≡ name = cc in
    let rows_are : found.1 ≡ rows = cc in
    ap₂ asked_of name_is rows_are
met_is None name rows named has = absurd cc

-- no subcommand was found
pub not_met : (found : Option (Text × List Row)) → None ≡ option_map (λ p. p.0) found →
    asked_in found ≡ None
not_met None none = refl
not_met (Some found) none = absurd cc

-- ---- numbers

both : (a b : Bool) → (a && b) ≡ true → (a ≡ true) × (b ≡ true)
both true b e = (refl, e)
both false b e = absurd (true≢false (sym e))

digits_from : (ds : List ℕ) → list_all (λ d. nat_lt (digit_value d) 10) ds ≡ true → AllDigits 10 ds
digits_from [] e = tt
digits_from (d ∷ ds) e =
    let parts = both _ _ e in
    (ltb-true _ _ parts.0, digits_from ds parts.1)

below_from : (n : ℕ) → is_below n ≡ true → n < 2 ^ 64
unfolding is_below
below_from n e = ltb-true _ _ (both _ _ e).0

numeral_from : (ds : List ℕ) → is_numeral ds ≡ true → (0 < length ds) × AllDigits 10 ds
numeral_from ds e = let parts = both _ _ e in (ltb-true _ _ parts.0, digits_from ds parts.1)

parsed : {E : Type 0} (text : Text) (r : Result ℕ E) → ParsesUnsigned 64 10 text r →
    result_unwrap_or r 0 ≡ number_of text
unfolding is_below
parsed text (Ok n) h =
    let ds = without_leading_plus text in
    let test : is_unsigned_in 0 most text ≡ true =
    digits_fit ds h.0.0.0 h.0.0.1 h.0.1 in
    h.1 ∙ sym (ap (λ (b : Bool). if b then digits_value 10 ds else 0) test)
parsed text (Err e) h = go (is_unsigned_in 0 most text) refl
  where
    go : (b : Bool) → is_unsigned_in 0 most text ≡ b → 0 ≡ number_of text
    go false t =
        sym (ap (λ (b : Bool). if b then digits_value 10 (without_leading_plus text) else 0) t)
    go true t =
        let parts = both _ _ t in
        absurd (h (numeral_from (without_leading_plus text) parts.0, below_from _ parts.1))

-- the number of an argument is the one that its text writes, or 0
pub number_read : {E : Type 0} (gives : List ℕ → Result ℕ E →
    Type 0) (text : Option Text) (r : Option ℕ) →
    ((t : Text) (res : Result ℕ E) → gives t res → ParsesUnsigned 64 10 t res)
    → (text ≡ None → r ≡ None) → ((t : List ℕ) → text ≡ Some t → ReadsOne gives t r) →
    unwrap_or r 0 ≡ number_of (unwrap_or text [])
number_read {E} gives None r parses none value = ap (λ o. unwrap_or o 0) (none refl)
number_read {E} gives (Some t) (Some n) parses none value =
    parsed {E = E} t (Ok n) (parses t (Ok n) (value t refl))
number_read {E} gives (Some t) None parses none value = let read = value t refl in
    parsed {E = E} t (Err read.0) (parses t (Err read.0) read.1)

-- ---- truth values

flag_parsed : {E : Type 0} (text : Text) (r : Result Bool E) → ParsesBool text r →
    result_unwrap_or r false ≡ bytes_eq text (codes "true")
flag_parsed text (Ok true) h = sym (ap (λ t. bytes_eq t (codes "true")) h)
flag_parsed text (Ok false) h = sym (ap (λ t. bytes_eq t (codes "true")) h)
flag_parsed text (Err e) h = sym (not_equal text (codes "true") h.0)

-- a flag is set exactly if its text is `true`
pub flag_read : (E : Type 0) (text : Option Text) (r : Option Bool) → (text ≡ None → r ≡ None) →
    ((t : List ℕ) → text ≡ Some t → ReadsOne (ParsesBool {E = E}) t r)
    → unwrap_or r false ≡ bytes_eq (unwrap_or text []) (codes "true")
flag_read E None r none value = ap (λ o. unwrap_or o false) (none refl)
flag_read E (Some t) (Some b) none value = flag_parsed {E = E} t (Ok b) (value t refl)
flag_read E (Some t) None none value = let read = value t refl in
    flag_parsed {E = E} t (Err read.0) read.1
