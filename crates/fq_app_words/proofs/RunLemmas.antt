-- How words lead the walk of `clap` on, and that they have no fault.
use Rattle.std.proofs.Common.{◌≡◌, ℕ, ◌==◌, ◌&&◌, false, Some, None, List, [], ◌∷◌, ◌++◌, fold, refl, ap, ap₂, sym, ◌∙◌, append-nil, append_assoc}
use Rattle.std.specs.Prelude.{option_and_then}
use Rattle.std.specs.Option.{option_map_or}
use Rattle.std.specs.Str.{bytes_eq}
use Rattle.std.proofs.lemmas.Bool.{cond-false}
use Rattle.clap.specs.Lexer.{long_of, long_of_rest, short_of, short_of_rest, strip_byte}
use Rattle.clap.specs.Kinds.{Kinds, or_else}
use Rattle.clap.specs.Simple.{Shape}
use Rattle.clap.specs.Walk.{Text, Names, Held, Walk, Waiting, idle, option, positional, Step, trailing, plain_word, short_or_plain, long_or_other, subcommand_met, subcommand_or_other, word_met, after_step, walked}
use Rattle.clap.specs.Faults.{flag_word_fault, bundle_fault, other_fault, word_fault, step_fault, turn_fault, walk_fault}
use Rattle.fq_app_words.specs.CommandLines.{IsPlain}

-- where the walk over the words comes to, after this fault on its way
abbrev faulty_run : Shape → Names → List Text → Walk → Kinds → Walk × Kinds
faulty_run s names words w kinds =
    (fold (walked s.rules names) w words, or_else kinds (walk_fault s names w words))

-- where the walk over the words comes to, and the faults on its way
abbrev pub run : Shape → Names → Walk → List Text → Walk × Kinds
run s names w words = (fold (walked s.rules names) w words, walk_fault s names w words)

-- a word without a fault leads the walk on
pub one_word : (s : Shape) (names : Names) (w v : Walk) (word : Text) (more : List Text) →
    walked s.rules names w word ≡ v → turn_fault s names w word ≡ [] →
    run s names w (word ∷ more) ≡ run s names v more
unfolding walk_fault
one_word s names w v word more is sound = ap₂ (faulty_run s names more) is sound

-- the walk has met the subcommand with this name, and these words after it
abbrev pub stopped_at : Walk → Text → List Text → Walk
stopped_at w name words = record w { stopped = Some (name, words) }

-- words after a subcommand are kept for it, and have no fault
pub words_kept : (s : Shape) (names : Names) (words : List Text) (w : Walk) (name : Text)
    (before : List Text) →
    run s names (stopped_at w name before) words ≡ (stopped_at w name (before ++ words), [])
unfolding walked walk_fault
words_kept s names [] w name before =
    ap (λ (ws : List Text). run s names (stopped_at w name ws) []) (sym (append-nil before))
words_kept s names (word ∷ words) w name before =
    let next = before ++ word ∷ [] in
    one_word s names (stopped_at w name before) (stopped_at w name next) word words refl refl
    ∙ words_kept s names words w name next
    ∙ ap (λ (ws : List Text). run s names (stopped_at w name ws) [])
    (append_assoc before (word ∷ []) words)

-- A plain word is no option.

plain_long : (word : Text) → IsPlain word → long_of word ≡ None
plain_long [] plain = refl
plain_long (x ∷ xs) plain =
    ap (λ o. option_and_then long_of_rest (option_and_then (strip_byte 45) o))
    (cond-false (x == 45) (Some xs) None plain)

plain_short : (word : Text) → IsPlain word → short_of word ≡ None
plain_short [] plain = refl
plain_short (x ∷ xs) plain =
    ap (λ o. option_and_then short_of_rest o) (cond-false (x == 45) (Some xs) None plain)

plain_end : (word : Text) → IsPlain word → bytes_eq word (45 ∷ 45 ∷ []) ≡ false
plain_end [] plain = refl
plain_end (x ∷ xs) plain = ap (λ b. b && bytes_eq xs (45 ∷ [])) plain

no_subcommand : (waiting : Waiting) (word : Text) → subcommand_met [] waiting word ≡ None
no_subcommand idle word = refl
no_subcommand (option id) word = refl
no_subcommand positional word = refl

-- the walk between two words
abbrev pub standing : Waiting → ℕ → Held → Walk
standing waiting position h = record {
  held = h;
  waiting = waiting;
  position = position;
  is_trailing = false;
  stopped = None;
}

module _ (s : Shape) (word : Text) (plain : IsPlain word) (waiting : Waiting) (position : ℕ)
    (h : Held) where
  plain_met : word_met s.rules [] false waiting position word h
      ≡ plain_word s.rules waiting word h
  plain_met =
      ap (λ o. subcommand_or_other s.rules o waiting position word h) (no_subcommand waiting word)
      ∙ cond-false (bytes_eq word (45 ∷ 45 ∷ [])) (h, trailing position)
      (long_or_other s.rules waiting word (long_of word) h) (plain_end word plain)
      ∙ ap (λ o. long_or_other s.rules waiting word o h) (plain_long word plain)
      ∙ ap (λ o. short_or_plain s.rules waiting word o h) (plain_short word plain)

  plain_fault : word_fault s [] false waiting word h ≡ []
  plain_fault =
      let again = s.args_override_self in
      ap (λ o. other_fault s o word h) (no_subcommand waiting word)
      ∙ cond-false (bytes_eq word (45 ∷ 45 ∷ [])) []
      (flag_word_fault s.rules again (long_of word) word h) (plain_end word plain)
      ∙ ap (λ o. flag_word_fault s.rules again o word h) (plain_long word plain)
      ∙ ap (λ o. option_map_or (λ flags. bundle_fault s.rules again flags h) o [])
      (plain_short word plain)

  -- a plain word is a value of what waits for one
  pub plain_run : (v : Walk) (more : List Text) →
      let met = plain_word s.rules waiting word h in
      after_step s.rules word (standing waiting position h) met.0 met.1 ≡ v →
      step_fault s position met.0 met.1 ≡ [] →
      run s [] (standing waiting position h) (word ∷ more) ≡ run s [] v more
  unfolding walked
  plain_run v more is sound =
      let w = standing waiting position h in
      one_word s [] w v word more
      (ap (λ (m : Held × Step). after_step s.rules word w m.0 m.1) plain_met ∙ is)
      (ap₂ (λ (kinds : Kinds) (m : Held × Step).
      or_else kinds (step_fault s position m.0 m.1)) plain_fault plain_met ∙ sound)
