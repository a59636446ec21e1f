-- One step of clap's walk over the words after the first.
use Rattle.std.proofs.Common.{◌≡◌, Bool, true, false, cond, List, [], ◌∷◌, ◌++◌, Option, Some, None, refl, ap, ◌∙◌, codes, map}
use Rattle.std.specs.Prelude.{option_map, ◌||◌}
use Rattle.std.specs.List.{find}
use Rattle.std.specs.Str.{bytes_eq}
use Rattle.clap.specs.Lexer.{long_of, short_of}
use Rattle.clap.specs.Words.{Row, Rule, Shape}
use Rattle.clap.specs.Simple.{new_shape}
use Rattle.clap.specs.Walk.{Held, Walk, Waiting, Step, idle, option, positional, used, settled, walked, after_step, plain_word, long_or_other, short_or_plain, arg_by_long, trailing, long_met, after_flag, subcommand_met, subcommand_or_other}
use Rattle.clap.specs.Faults.{turn_fault, settle_fault, flag_word_fault, long_fault, other_fault, step_fault, bundle_fault}
use Rattle.clap.specs.declared.error.ErrorKind.TheVariants.{InvalidValue, UnknownArgument}
use Rattle.std.specs.Option.{option_map_or}
use Rattle.clap.specs.Kinds.{Kinds, or_else}
use Rattle.clap.specs.declared.builder.ValueParser.TheVariants as vp
use Rattle.ame_cli.specs.declared.item.Item.{Item}
use Rattle.ame_cli.specs.declared.item.Item.TheVariants.{Workers}
use Rattle.ame_cli.specs.declared.verb.Verb.{Verb}
use Rattle.ame_cli.specs.Items.{ArgWord, name_of}
use Rattle.ame_cli.specs.Verbs.{all_items, verb_word}
use Rattle.ame_cli.specs.Syntax.{option_rule, numbers_rule}
use Rattle.ame_cli.proofs.Machine.{named}

-- the arguments of a verb, as they are built
abbrev pub built_option : Item → Rule
built_option item = record (option_rule (name_of item)) { parser = Some vp.String; range = Some (record { start_inclusive = 1; end_inclusive = 1 }) }

abbrev pub built_numbers : Rule
built_numbers = record numbers_rule { parser = Some vp.String; range = Some (record { start_inclusive = 1; end_inclusive = 1 }); index = Some 1 }

abbrev pub built_rules : List Rule
built_rules = map built_option all_items ++ built_numbers ∷ []

abbrev pub built_verb : Verb → Shape
built_verb verb = record (new_shape (verb_word verb)) {
  rules = built_rules;
  no_binary_name = true;
  disable_help_flag = true;
  disable_help_subcommand = true;
  is_built = true;
}

-- how the walk stands between two words: nothing is pending, an option or a number word with its value, or an option that
-- waits for its value
pub data Mode : Type 0 where
  clear : Mode
  valued : Item → ArgWord → Mode
  numbered : ArgWord → Mode
  waits : Item → Mode

abbrev pub waiting_in : Mode → Option Item
waiting_in (waits item) = Some item
waiting_in _ = None

abbrev pub pending_in : Mode → Option (ArgWord × List ArgWord)
pending_in clear = None
pending_in (valued item value) = Some (name_of item, value ∷ [])
pending_in (numbered word) = Some (codes "numbers", word ∷ [])
pending_in (waits item) = Some (name_of item, [])

abbrev pub state_in : Mode → Waiting
state_in clear = idle
state_in (valued item value) = idle
state_in (numbered word) = positional
state_in (waits item) = option (name_of item)

abbrev pub held_in : List Row → Mode → Held
held_in rows mode = record { rows = rows; pending = pending_in mode; skip = 0 }

abbrev pub walk_in : List Row → Mode → Walk
walk_in rows mode = record { held = held_in rows mode; waiting = state_in mode; position = 1; is_trailing = false; stopped = None }

-- the rows, with what is pending
abbrev pub rows_in : List Row → Mode → List Row
rows_in rows clear = rows
rows_in rows (valued item value) = used (built_option item) (value ∷ []) rows
rows_in rows (numbered word) = used built_numbers (word ∷ []) rows
rows_in rows (waits item) = used (built_option item) [] rows

by_long : (items : List Item) (name : ArgWord)
    → arg_by_long (map built_option items ++ built_numbers ∷ []) name ≡ option_map built_option (find (λ item. bytes_eq (name_of item) name) items)
by_long [] name = refl
by_long (item ∷ rest) name = go (by_long rest name) (bytes_eq (name_of item) name)
  where
    go : arg_by_long (map built_option rest ++ built_numbers ∷ []) name ≡ option_map built_option (find (λ item. bytes_eq (name_of item) name) rest) → (b : Bool)
        → cond (b || false) (Some (built_option item)) (arg_by_long (map built_option rest ++ built_numbers ∷ []) name)
        ≡ option_map built_option (cond b (Some item) (find (λ item. bytes_eq (name_of item) name) rest))
    go before true = refl
    go before false = before

pub rows_settled : (rows : List Row) (mode : Mode) → (settled built_rules (held_in rows mode)).rows ≡ rows_in rows mode
rows_settled rows (valued Workers value) = refl
rows_settled rows (waits Workers) = refl
rows_settled rows _ = refl

-- ---- what a word is

abbrev pub dashes : ArgWord
dashes = 45 ∷ 45 ∷ []

pub data Class (word : ArgWord) : Type 0 where
  long : (p : ArgWord × Option ArgWord) → bytes_eq word dashes ≡ false → long_of word ≡ Some p → Class word
  plain : bytes_eq word dashes ≡ false → long_of word ≡ None → short_of word ≡ None → Class word

no_sub : (state : Waiting) (word : ArgWord) → subcommand_met [] state word ≡ None
no_sub idle word = refl
no_sub (option id) word = refl
no_sub positional word = refl

module _ (rows : List Row) (mode : Mode) (word : ArgWord) where
  abbrev stepped : Held × Step → Walk
  stepped met = after_step built_rules word (walk_in rows mode) met.0 met.1

  -- the walk after a word that isn't `--`
  walked_flag : bytes_eq word dashes ≡ false → walked built_rules [] (walk_in rows mode) word ≡ stepped (long_or_other built_rules (state_in mode) word (long_of word) (held_in rows mode))
  unfolding walked
  walked_flag dash =
      ap (λ m. stepped (subcommand_or_other built_rules m (state_in mode) 1 word (held_in rows mode))) (no_sub (state_in mode) word)
      ∙ ap (λ d. stepped (cond d (held_in rows mode, trailing 1) (long_or_other built_rules (state_in mode) word (long_of word) (held_in rows mode)))) dash

  -- the faults of such a word
  turn_flag : (verb : Verb) → bytes_eq word dashes ≡ false → turn_fault (built_verb verb) [] (walk_in rows mode) word
      ≡ or_else (flag_word_fault built_rules false (long_of word) word (held_in rows mode))
      (step_fault (built_verb verb) 1 (long_or_other built_rules (state_in mode) word (long_of word) (held_in rows mode)).0 (long_or_other built_rules (state_in mode) word (long_of word) (held_in rows mode)).1)
  turn_flag verb dash =
      ap (λ m. or_else (other_fault (built_verb verb) m word (held_in rows mode))
      (step_fault (built_verb verb) 1 (subcommand_or_other built_rules m (state_in mode) 1 word (held_in rows mode)).0 (subcommand_or_other built_rules m (state_in mode) 1 word (held_in rows mode)).1)) (no_sub (state_in mode) word)
      ∙ ap (λ d. or_else (cond d [] (flag_word_fault built_rules false (long_of word) word (held_in rows mode)))
      (step_fault (built_verb verb) 1 (cond d (held_in rows mode, trailing 1) (long_or_other built_rules (state_in mode) word (long_of word) (held_in rows mode))).0 (cond d (held_in rows mode, trailing 1) (long_or_other built_rules (state_in mode) word (long_of word) (held_in rows mode))).1)) dash

-- ---- a plain word

abbrev pub plain_mode : Mode → ArgWord → Mode
plain_mode (waits item) word = valued item word
plain_mode _ word = numbered word

abbrev pub plain_rows : List Row → Mode → List Row
plain_rows rows (waits item) = rows
plain_rows rows mode = rows_in rows mode

plain_met : (rows : List Row) (mode : Mode) (word : ArgWord)
    → after_step built_rules word (walk_in rows mode) (plain_word built_rules (state_in mode) word (held_in rows mode)).0 (plain_word built_rules (state_in mode) word (held_in rows mode)).1
    ≡ walk_in (plain_rows rows mode) (plain_mode mode word)
plain_met rows (valued Workers value) word = refl
plain_met rows (waits Workers) word = refl
plain_met rows _ word = refl

pub plain_walked : (rows : List Row) (mode : Mode) (word : ArgWord) → bytes_eq word dashes ≡ false → long_of word ≡ None → short_of word ≡ None
    → walked built_rules [] (walk_in rows mode) word ≡ walk_in (plain_rows rows mode) (plain_mode mode word)
plain_walked rows mode word dash lo sh =
    walked_flag rows mode word dash
    ∙ ap (λ l. stepped rows mode word (long_or_other built_rules (state_in mode) word l (held_in rows mode))) lo
    ∙ ap (λ s. stepped rows mode word (short_or_plain built_rules (state_in mode) word s (held_in rows mode))) sh
    ∙ plain_met rows mode word

plain_step_fault : (verb : Verb) (rows : List Row) (mode : Mode) (word : ArgWord)
    → step_fault (built_verb verb) 1 (plain_word built_rules (state_in mode) word (held_in rows mode)).0 (plain_word built_rules (state_in mode) word (held_in rows mode)).1 ≡ []
plain_step_fault verb rows (valued Workers value) word = refl
plain_step_fault verb rows (waits Workers) word = refl
plain_step_fault verb rows _ word = refl

pub plain_turn : (verb : Verb) (rows : List Row) (mode : Mode) (word : ArgWord) → bytes_eq word dashes ≡ false → long_of word ≡ None → short_of word ≡ None
    → turn_fault (built_verb verb) [] (walk_in rows mode) word ≡ []
plain_turn verb rows mode word dash lo sh =
    turn_flag rows mode word verb dash
    ∙ ap (λ l. or_else (flag_word_fault built_rules false l word (held_in rows mode))
    (step_fault (built_verb verb) 1 (long_or_other built_rules (state_in mode) word l (held_in rows mode)).0 (long_or_other built_rules (state_in mode) word l (held_in rows mode)).1)) lo
    ∙ ap (λ s. or_else (option_map_or (λ flags. bundle_fault built_rules false flags (held_in rows mode)) s [])
    (step_fault (built_verb verb) 1 (short_or_plain built_rules (state_in mode) word s (held_in rows mode)).0 (short_or_plain built_rules (state_in mode) word s (held_in rows mode)).1)) sh
    ∙ plain_step_fault verb rows mode word

-- ---- a long word

abbrev pub long_mode : Item → Option ArgWord → Mode
long_mode item None = waits item
long_mode item (Some value) = clear

abbrev pub long_rows : Item → Option ArgWord → List Row → Mode → List Row
long_rows item None rows mode = rows_in rows mode
long_rows item (Some value) rows mode = used (built_option item) (value ∷ []) (rows_in rows mode)

long_found : (rows : List Row) (mode : Mode) (word : ArgWord) (item : Item) (v : Option ArgWord)
    → after_step built_rules word (walk_in rows mode)
    (after_flag built_rules (state_in mode) word (long_met built_rules (Some (built_option item)) v (held_in rows mode)).0 (long_met built_rules (Some (built_option item)) v (held_in rows mode)).1).0
    (after_flag built_rules (state_in mode) word (long_met built_rules (Some (built_option item)) v (held_in rows mode)).0 (long_met built_rules (Some (built_option item)) v (held_in rows mode)).1).1
    ≡ walk_in (long_rows item v rows mode) (long_mode item v)
long_found rows mode word item None = ap (λ r. walk_in r (waits item)) (rows_settled rows mode)
long_found rows mode word item (Some value) = ap (λ r. walk_in (used (built_option item) (value ∷ []) r) clear) (rows_settled rows mode)

pub long_walked : (rows : List Row) (mode : Mode) (word name : ArgWord) (v : Option ArgWord) (item : Item) → bytes_eq word dashes ≡ false → long_of word ≡ Some (name, v) → named name ≡ Some item
    → walked built_rules [] (walk_in rows mode) word ≡ walk_in (long_rows item v rows mode) (long_mode item v)
long_walked rows mode word name v item dash lo is =
    walked_flag rows mode word dash
    ∙ ap (λ l. stepped rows mode word (long_or_other built_rules (state_in mode) word l (held_in rows mode))) lo
    ∙ ap (λ o. stepped rows mode word (after_flag built_rules (state_in mode) word (long_met built_rules o v (held_in rows mode)).0 (long_met built_rules o v (held_in rows mode)).1)) (by_long all_items name ∙ ap (option_map built_option) is)
    ∙ long_found rows mode word item v

-- a pending option without its value is a fault
abbrev pub waiting_fault : Option Item → Kinds
waiting_fault None = []
waiting_fault (Some item) = InvalidValue ∷ []

pub settle_fault_in : (rows : List Row) (mode : Mode) → settle_fault built_rules false (held_in rows mode) ≡ waiting_fault (waiting_in mode)
settle_fault_in rows (valued Workers value) = refl
settle_fault_in rows (waits Workers) = refl
settle_fault_in rows _ = refl

-- the faults of a long word, by the argument that it names
abbrev pub long_turn_by : Verb → List Row → Mode → ArgWord → Option ArgWord → Option Rule → Kinds
long_turn_by verb rows mode word v o =
    or_else (long_fault built_rules false o v (held_in rows mode))
    (step_fault (built_verb verb) 1
    (after_flag built_rules (state_in mode) word (long_met built_rules o v (held_in rows mode)).0 (long_met built_rules o v (held_in rows mode)).1).0
    (after_flag built_rules (state_in mode) word (long_met built_rules o v (held_in rows mode)).0 (long_met built_rules o v (held_in rows mode)).1).1)

long_turn_is : (verb : Verb) (rows : List Row) (mode : Mode) (word name : ArgWord) (v : Option ArgWord) → bytes_eq word dashes ≡ false → long_of word ≡ Some (name, v)
    → turn_fault (built_verb verb) [] (walk_in rows mode) word ≡ long_turn_by verb rows mode word v (option_map built_option (named name))
long_turn_is verb rows mode word name v dash lo =
    turn_flag rows mode word verb dash
    ∙ ap (λ l. or_else (flag_word_fault built_rules false l word (held_in rows mode))
    (step_fault (built_verb verb) 1 (long_or_other built_rules (state_in mode) word l (held_in rows mode)).0 (long_or_other built_rules (state_in mode) word l (held_in rows mode)).1)) lo
    ∙ ap (long_turn_by verb rows mode word v) (by_long all_items name)

pub or_else-nil : (a : Kinds) → or_else a [] ≡ a
or_else-nil [] = refl
or_else-nil (k ∷ ks) = refl

long_turn_found : (verb : Verb) (rows : List Row) (mode : Mode) (word : ArgWord) (v : Option ArgWord) (item : Item)
    → long_turn_by verb rows mode word v (Some (built_option item)) ≡ waiting_fault (waiting_in mode)
long_turn_found verb rows mode word None item = or_else-nil (settle_fault built_rules false (held_in rows mode)) ∙ settle_fault_in rows mode
long_turn_found verb rows mode word (Some value) item =
    or_else-nil (or_else (settle_fault built_rules false (held_in rows mode)) []) ∙ or_else-nil (settle_fault built_rules false (held_in rows mode)) ∙ settle_fault_in rows mode

pub long_turn : (verb : Verb) (rows : List Row) (mode : Mode) (word name : ArgWord) (v : Option ArgWord) (item : Item) → bytes_eq word dashes ≡ false → long_of word ≡ Some (name, v) → named name ≡ Some item
    → turn_fault (built_verb verb) [] (walk_in rows mode) word ≡ waiting_fault (waiting_in mode)
long_turn verb rows mode word name v item dash lo is =
    long_turn_is verb rows mode word name v dash lo ∙ ap (λ n. long_turn_by verb rows mode word v (option_map built_option n)) is ∙ long_turn_found verb rows mode word v item

pub unknown_turn : (verb : Verb) (rows : List Row) (mode : Mode) (word name : ArgWord) (v : Option ArgWord) → bytes_eq word dashes ≡ false → long_of word ≡ Some (name, v) → named name ≡ None
    → turn_fault (built_verb verb) [] (walk_in rows mode) word ≡ UnknownArgument ∷ []
unknown_turn verb rows mode word name v dash lo is =
    long_turn_is verb rows mode word name v dash lo ∙ ap (λ n. long_turn_by verb rows mode word v (option_map built_option n)) is
