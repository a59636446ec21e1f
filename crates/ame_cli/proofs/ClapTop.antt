-- clap's walk over all words: the first names a verb, and the others are the verb's.
use Rattle.std.proofs.Common.{◌≡◌, ◌≢◌, Bool, true, false, cond, List, [], ◌∷◌, ◌++◌, Option, Some, None, refl, sym, ap, ap₂, ◌∙◌, codes, map, append-nil, append_assoc}
use Rattle.std.specs.Prelude.{option_map, is_some, ◌||◌, ◌==◌, length}
use Rattle.std.specs.List.{find, fold}
use Rattle.std.specs.Option.{option_map_or}
use Rattle.std.specs.Str.{bytes_eq}
use Rattle.clap.specs.Lexer.{long_of}
use Rattle.clap.specs.Words.{App, Row, Rule, Shape, subcommand_of}
use Rattle.clap.specs.Simple.{entered, label_of, names_of, new_shape}
use Rattle.clap.specs.Walk.{Walk, Names, answers_to, idle, nothing_held, walk, walk_from, settled, finished, walked, with_default, has_row, trailing, subcommand_met, subcommand_or_other, long_or_other, short_or_plain}
use Rattle.clap.specs.Faults.{check_fault, default_fault, defaults_fault, entered_fault, fault_of, flag_word_fault, given_default_fault, level_fault, other_fault, settle_fault, step_fault, turn_fault, walk_fault, bundle_fault}
use Rattle.clap.specs.Kinds.{Kinds, or_else}
use Rattle.clap.specs.declared.error.ErrorKind.{ErrorKind}
use Rattle.clap.specs.declared.error.ErrorKind.TheVariants.{UnknownArgument, InvalidSubcommand}
use Rattle.ame_cli.specs.declared.verb.Verb.{Verb}
use Rattle.ame_cli.specs.declared.verb.Verb.TheVariants.{Run}
use Rattle.ame_cli.specs.Items.{ArgWord}
use Rattle.ame_cli.specs.Verbs.{verbs, verb_word, verb_named}
use Rattle.ame_cli.specs.Syntax.{syntax}
use Rattle.ame_cli.proofs.RowLemmas.{no_default}
use Rattle.ame_cli.proofs.ClapSteps.{Class, long, plain, clear, dashes, built_rules, built_verb, or_else-nil}
use Rattle.ame_cli.proofs.ClapWalk.{end_of, end_rows, walk_faults}

-- ---- a verb's own words

no_default_fault : (rows : List Row) (a : Rule) → a.defaults ≡ [] → default_fault rows a ≡ []
no_default_fault rows a none = ap (λ values. cond (has_row a.id rows || (length values == 0)) [] (given_default_fault a values)) none ∙ go (has_row a.id rows)
  where
    go : (b : Bool) → cond (b || true) [] (given_default_fault a []) ≡ []
    go true = refl
    go false = refl

-- no argument has a default
abbrev NoDefaults : List Rule → Type 0
NoDefaults [] = Unit {0}
NoDefaults (a ∷ rest) = (a.defaults ≡ []) × NoDefaults rest

none_has : NoDefaults built_rules
none_has = (refl, (refl, (refl, (refl, tt))))

no_defaults_fault : (rows : List Row) (rules : List Rule) → NoDefaults rules → defaults_fault rows rules ≡ []
unfolding defaults_fault
no_defaults_fault rows [] none = refl
no_defaults_fault rows (a ∷ rest) none =
    ap (λ f. or_else f (defaults_fault (with_default rows a) rest)) (no_default_fault rows a none.0) ∙ no_defaults_fault (with_default rows a) rest none.1

no_defaults : (rows : List Row) (rules : List Rule) → NoDefaults rules → fold with_default rows rules ≡ rows
no_defaults rows [] none = refl
no_defaults rows (a ∷ rest) none = ap (λ r. fold with_default r rest) (no_default rows a none.0) ∙ no_defaults rows rest none.1

pub ends_settled : (words : List ArgWord) → finished built_rules (walk built_rules [] nothing_held words).held ≡ end_rows [] clear words
ends_settled words = no_defaults (end_rows [] clear words) built_rules none_has

pub verb_fault : (verb : Verb) (words : List ArgWord) → level_fault (built_verb verb) [] nothing_held words false [] ≡ walk_faults verb [] clear words
verb_fault verb words =
    ap (λ f. or_else (walk_fault (built_verb verb) [] (walk_from nothing_held) words) (or_else (settle_fault built_rules false (end_of [] clear words).held) f))
    (ap (λ d. or_else d (check_fault (built_verb verb) (finished built_rules (end_of [] clear words).held) false)) (no_defaults_fault (end_rows [] clear words) built_rules none_has))
    ∙ ap (or_else (walk_fault (built_verb verb) [] (walk_from nothing_held) words)) (or_else-nil (settle_fault built_rules false (end_of [] clear words).held))

-- ---- the first word

abbrev built_top : Shape
built_top = record (new_shape (codes "ame")) {
  is_leaf = false;
  no_binary_name = true;
  disable_help_flag = true;
  disable_help_subcommand = true;
  is_built = true;
}

abbrev built_app : App
built_app = record { top = built_top; subs = map built_verb verbs }

abbrev verb_names : Names
verb_names = names_of built_app

-- the faults of all words, by the walk over them
abbrev by_walk : Kinds → Walk → Kinds
by_walk faults end =
    or_else faults (or_else (entered_fault built_app end.stopped) (or_else (settle_fault [] false end.held)
    (or_else (defaults_fault (settled [] end.held).rows []) (check_fault built_top (finished [] end.held) (is_some (entered built_app end.stopped))))))

fault_is : (words : List ArgWord) → fault_of syntax words ≡ by_walk (walk_fault built_top verb_names (walk_from nothing_held) words) (walk [] verb_names nothing_held words)
unfolding verbs
fault_is words = refl

-- after the verb, its words are left to it
stopped_walk : (names : Names) (w : Walk) (name : ArgWord) (seen words : List ArgWord)
    → ◌≡◌ {A = Walk} (fold (walked [] names) (record w { stopped = Some (name, seen) }) words) (record w { stopped = Some (name, seen ++ words) })
unfolding walked
stopped_walk names w name seen [] = ap (λ xs. record w { stopped = Some (name, xs) }) (sym (append-nil seen))
stopped_walk names w name seen (x ∷ xs) =
    stopped_walk names w name (seen ++ x ∷ []) xs ∙ ap (λ ys. record w { stopped = Some (name, ys) }) (append_assoc seen (x ∷ []) xs)

stopped_faults : (names : Names) (w : Walk) (name : ArgWord) (seen words : List ArgWord) → walk_fault built_top names (record w { stopped = Some (name, seen) }) words ≡ []
unfolding walk_fault walked
stopped_faults names w name seen [] = refl
stopped_faults names w name seen (x ∷ xs) = stopped_faults names w name (seen ++ x ∷ []) xs

abbrev stopped_at : ArgWord → List ArgWord → Walk
stopped_at name words = record (walk_from nothing_held) { stopped = Some (name, words) }

first_walked : (verb : Verb) → walked [] verb_names (walk_from nothing_held) (verb_word verb) ≡ stopped_at (verb_word verb) []
unfolding walked verbs
first_walked Run = refl
first_walked _ = refl

first_turn : (verb : Verb) → turn_fault built_top verb_names (walk_from nothing_held) (verb_word verb) ≡ []
unfolding verbs
first_turn Run = refl
first_turn _ = refl

whole_walk : (verb : Verb) (rest : List ArgWord) → walk [] verb_names nothing_held (verb_word verb ∷ rest) ≡ stopped_at (verb_word verb) rest
whole_walk verb rest = ap (λ w. fold (walked [] verb_names) w rest) (first_walked verb) ∙ stopped_walk verb_names (walk_from nothing_held) (verb_word verb) [] rest

whole_faults : (verb : Verb) (rest : List ArgWord) → walk_fault built_top verb_names (walk_from nothing_held) (verb_word verb ∷ rest) ≡ []
unfolding walk_fault
whole_faults verb rest =
    ap₂ (λ t w. or_else t (walk_fault built_top verb_names w rest)) (first_turn verb) (first_walked verb) ∙ stopped_faults verb_names (walk_from nothing_held) (verb_word verb) [] rest

by_verb : (verb : Verb) (rest : List ArgWord) → by_walk [] (stopped_at (verb_word verb) rest) ≡ level_fault (built_verb verb) [] nothing_held rest false []
unfolding defaults_fault verbs
by_verb Run rest = or_else-nil _
by_verb _ rest = or_else-nil _

-- the faults of a verb and its words are those of the words
pub verb_faults : (verb : Verb) (rest : List ArgWord) → fault_of syntax (verb_word verb ∷ rest) ≡ walk_faults verb [] clear rest
verb_faults verb rest =
    fault_is (verb_word verb ∷ rest) ∙ ap₂ by_walk (whole_faults verb rest) (whole_walk verb rest) ∙ by_verb verb rest ∙ verb_fault verb rest

entered_is : (verb : Verb) (rest : List ArgWord) → entered built_app (Some (verb_word verb, rest)) ≡ Some (verb_word verb, finished built_rules (walk built_rules [] nothing_held rest).held)
unfolding verbs
entered_is Run rest = refl
entered_is _ rest = refl

-- and what is found is found in them
pub verb_rows : (verb : Verb) (rest : List ArgWord) → subcommand_of syntax (verb_word verb ∷ rest) ≡ Some (verb_word verb, end_rows [] clear rest)
unfolding verbs
verb_rows verb rest =
    ap (λ (w : Walk). entered built_app w.stopped) (whole_walk verb rest) ∙ entered_is verb rest ∙ ap (λ rows. Some (verb_word verb, rows)) (ends_settled rest)

-- ---- a first word that names no verb

no_name : (vs : List Verb) (word : ArgWord) → find (λ v. bytes_eq (verb_word v) word) vs ≡ None → find (answers_to word) (map label_of (map built_verb vs)) ≡ None
no_name [] word none = refl
no_name (v ∷ vs) word none = go (no_name vs word) (bytes_eq (verb_word v) word) none
  where
    go : (find (λ v. bytes_eq (verb_word v) word) vs ≡ None → find (answers_to word) (map label_of (map built_verb vs)) ≡ None) → (b : Bool)
        → cond b (Some v) (find (λ v. bytes_eq (verb_word v) word) vs) ≡ None
        → cond (b || false) (Some (verb_word v, [])) (find (answers_to word) (map label_of (map built_verb vs))) ≡ None
    go rest true e = cc
    go rest false e = rest e

no_verb : (word : ArgWord) → verb_named word ≡ None → subcommand_met verb_names idle word ≡ None
no_verb word none = ap (option_map (λ (s : ArgWord × List ArgWord). s.0)) (no_name verbs word none)

abbrev top_turn_by : ArgWord → Bool → Option (ArgWord × Option ArgWord) → Kinds
top_turn_by word d l =
    or_else (cond d [] (flag_word_fault [] false l word nothing_held))
    (step_fault built_top 1 (cond d (nothing_held, trailing 1) (long_or_other [] idle word l nothing_held)).0 (cond d (nothing_held, trailing 1) (long_or_other [] idle word l nothing_held)).1)

top_turn : (word : ArgWord) → verb_named word ≡ None → bytes_eq word dashes ≡ false → turn_fault built_top verb_names (walk_from nothing_held) word ≡ top_turn_by word false (long_of word)
top_turn word none d =
    ap (λ m. or_else (other_fault built_top m word nothing_held) (step_fault built_top 1 (subcommand_or_other [] m idle 1 word nothing_held).0 (subcommand_or_other [] m idle 1 word nothing_held).1)) (no_verb word none)
    ∙ ap (λ b. top_turn_by word b (long_of word)) d

other_turn : (word : ArgWord) → Class word → verb_named word ≡ None → (k : ErrorKind) × (ks : Kinds) × (turn_fault built_top verb_names (walk_from nothing_held) word ≡ k ∷ ks)
other_turn word (long p d l) none = (UnknownArgument, [], top_turn word none d ∙ ap (top_turn_by word false) l)
other_turn word (plain d l s) none = (
  UnknownArgument,
  InvalidSubcommand ∷ [],
  top_turn word none d ∙ ap (top_turn_by word false) l
      ∙ ap (λ o. or_else (option_map_or (λ flags. bundle_fault [] false flags nothing_held) o []) (step_fault built_top 1 (short_or_plain [] idle word o nothing_held).0 (short_or_plain [] idle word o nothing_held).1)) s,
)

pub other_faults : (word : ArgWord) (rest : List ArgWord) → Class word → verb_named word ≡ None → fault_of syntax (word ∷ rest) ≢ []
unfolding walk_fault
other_faults word rest class none e =
    let turn = other_turn word class none in
    let whole : fault_of syntax (word ∷ rest) ≡ turn.0 ∷ turn.1 =
    fault_is (word ∷ rest) ∙ ap (λ t. by_walk (or_else t (walk_fault built_top verb_names (walked [] verb_names (walk_from nothing_held) word) rest)) (walk [] verb_names nothing_held (word ∷ rest))) turn.2 in
    starts turn.0 turn.1 (sym whole ∙ e)
  where
    starts : (k : ErrorKind) (ks : Kinds) → k ∷ ks ≢ []
    starts k ks x = cc
