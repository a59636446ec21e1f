-- clap's walk over the words after the first finds the parts that they are, or has a fault.
use Rattle.std.proofs.Common.{◌≡◌, ◌≢◌, Bool, true, false, cond, List, [], ◌∷◌, ◌++◌, Option, Some, None, refl, sym, ap, ap₂, ◌∙◌, subst, codes, append-nil, append_assoc}
use Rattle.std.specs.Prelude.{option_map, option_and_then}
use Rattle.std.specs.List.{fold}
use Rattle.std.specs.Str.{bytes_eq}
use Rattle.std.proofs.lemmas.Grind.{flat_map-append}
use Rattle.clap.specs.Lexer.{long_of, short_of}
use Rattle.clap.specs.Words.{Row}
use Rattle.clap.specs.Walk.{Walk, used, settled, walked}
use Rattle.clap.specs.Faults.{turn_fault, settle_fault, walk_fault}
use Rattle.clap.specs.Kinds.{Kinds, or_else}
use Rattle.clap.specs.declared.error.ErrorKind.{ErrorKind}
use Rattle.clap.specs.declared.error.ErrorKind.TheVariants.{InvalidValue, UnknownArgument}
use Rattle.ame_cli.specs.declared.item.Item.{Item}
use Rattle.ame_cli.specs.declared.item.Item.TheVariants.{Workers}
use Rattle.ame_cli.specs.declared.verb.Verb.{Verb}
use Rattle.ame_cli.specs.Items.{ArgWord, name_of, is_same}
use Rattle.ame_cli.specs.Grammar.{Argument, apart, joined, number, given, given_by, numbers, number_by}
use Rattle.ame_cli.specs.Rows.{values_in}
use Rattle.ame_cli.proofs.Machine.{Taken, taken, word_taken, long_taken, plain_taken, read, read-nil, read-cons, ended, named}
use Rattle.ame_cli.proofs.RowLemmas.{values_in-with_values}
use Rattle.ame_cli.proofs.ClapSteps.{Class, long, plain, Mode, clear, valued, numbered, waits, waiting_in, walk_in, rows_in, built_rules, built_option, built_numbers, built_verb, dashes, plain_rows, plain_walked, plain_turn, long_mode, long_rows, long_walked, long_turn, unknown_turn, waiting_fault, settle_fault_in, rows_settled}

-- ---- values that a use adds

-- the values under a name after a use that adds some under another or the same
abbrev pub Adds : List Row → List Row → List Argument → Type 0
Adds before after parts =
    ((item : Item) → values_in (name_of item) after ≡ values_in (name_of item) before ++ given parts item) × (values_in (codes "numbers") after ≡ values_in (codes "numbers") before ++ numbers parts)

adds_none : (rows : List Row) → Adds rows rows []
adds_none rows = (λ item. sym (append-nil (values_in (name_of item) rows)), sym (append-nil (values_in (codes "numbers") rows)))

adds_then : (a b c : List Row) (xs ys : List Argument) → Adds a b xs → Adds b c ys → Adds a c (xs ++ ys)
adds_then a b c xs ys p q = (
  λ item. joins (values_in (name_of item) a) (values_in (name_of item) b) (values_in (name_of item) c) (given xs item) (given ys item) (given (xs ++ ys) item) (p.0 item) (q.0 item) (flat_map-append (given_by item) xs ys),
  joins (values_in (codes "numbers") a) (values_in (codes "numbers") b) (values_in (codes "numbers") c) (numbers xs) (numbers ys) (numbers (xs ++ ys)) p.1 q.1 (flat_map-append number_by xs ys),
)
  where
    joins : (u v w x y z : List ArgWord) → v ≡ u ++ x → w ≡ v ++ y → z ≡ x ++ y → w ≡ u ++ z
    joins u v w x y z e f g = f ∙ ap (λ t. t ++ y) e ∙ append_assoc u x y ∙ ap (λ t. u ++ t) (sym g)

-- an option with its value
option_values : (item : Item) (value : ArgWord) (rows : List Row) (name : ArgWord)
    → values_in name (used (built_option item) (value ∷ []) rows) ≡ cond (bytes_eq (name_of item) name) (values_in name rows ++ value ∷ []) (values_in name rows)
option_values item value rows name = values_in-with_values name (name_of item) _ _ (value ∷ []) rows

number_values : (word : ArgWord) (rows : List Row) (name : ArgWord)
    → values_in name (used built_numbers (word ∷ []) rows) ≡ cond (bytes_eq (codes "numbers") name) (values_in name rows ++ word ∷ []) (values_in name rows)
number_values word rows name = values_in-with_values name (codes "numbers") _ _ (word ∷ []) rows

waiting_values : (item : Item) (rows : List Row) (name : ArgWord) → values_in name (used (built_option item) [] rows) ≡ values_in name rows
waiting_values item rows name =
    values_in-with_values name (name_of item) _ _ [] rows ∙ go (bytes_eq (name_of item) name)
  where
    go : (b : Bool) → cond b (values_in name rows ++ []) (values_in name rows) ≡ values_in name rows
    go true = append-nil (values_in name rows)
    go false = refl

-- what one option's value is to each
value_for : (b : Bool) (value : ArgWord) (old : List ArgWord) → cond b (old ++ value ∷ []) old ≡ old ++ (cond b (value ∷ []) [] ++ [])
value_for true value old = refl
value_for false value old = sym (append-nil old)

no_number : (item : Item) (value : ArgWord) (old : List ArgWord) → cond (bytes_eq (name_of item) (codes "numbers")) (old ++ value ∷ []) old ≡ old ++ []
no_number Workers value old = sym (append-nil old)
no_number _ value old = sym (append-nil old)

no_option : (item : Item) (word : ArgWord) (old : List ArgWord) → cond (bytes_eq (codes "numbers") (name_of item)) (old ++ word ∷ []) old ≡ old ++ []
no_option Workers word old = sym (append-nil old)
no_option _ word old = sym (append-nil old)

adds_joined : (item : Item) (value : ArgWord) (rows : List Row) → Adds rows (used (built_option item) (value ∷ []) rows) (joined item value ∷ [])
adds_joined item value rows = (
  λ other. option_values item value rows (name_of other) ∙ value_for (is_same other item) value (values_in (name_of other) rows),
  option_values item value rows (codes "numbers") ∙ no_number item value (values_in (codes "numbers") rows),
)

adds_apart : (item : Item) (value : ArgWord) (rows : List Row) → Adds (used (built_option item) [] rows) (used (built_option item) (value ∷ []) rows) (apart item value ∷ [])
adds_apart item value rows = (
  λ other. option_values item value rows (name_of other) ∙ value_for (is_same other item) value (values_in (name_of other) rows)
      ∙ ap (λ old. old ++ (cond (is_same other item) (value ∷ []) [] ++ [])) (sym (waiting_values item rows (name_of other))),
  option_values item value rows (codes "numbers") ∙ no_number item value (values_in (codes "numbers") rows) ∙ ap (λ old. old ++ []) (sym (waiting_values item rows (codes "numbers"))),
)

adds_waiting : (item : Item) (rows : List Row) → Adds rows (used (built_option item) [] rows) []
adds_waiting item rows = (
  λ other. waiting_values item rows (name_of other) ∙ sym (append-nil (values_in (name_of other) rows)),
  waiting_values item rows (codes "numbers") ∙ sym (append-nil (values_in (codes "numbers") rows)),
)

adds_number : (word : ArgWord) (rows : List Row) → Adds rows (used built_numbers (word ∷ []) rows) (number word ∷ [])
adds_number word rows = (λ item. number_values word rows (name_of item) ∙ no_option item word (values_in (name_of item) rows), number_values word rows (codes "numbers"))

-- ---- one word

-- what the walk does at a word is what the word comes to
abbrev pub Steps : Verb → List Row → Mode → ArgWord → Taken → Type 0
Steps verb rows mode word None = (k : ErrorKind) × (turn_fault (built_verb verb) [] (walk_in rows mode) word ≡ k ∷ [])
Steps verb rows mode word (Some t) =
    (after : List Row) × (next : Mode) × (walked built_rules [] (walk_in rows mode) word ≡ walk_in after next) × (waiting_in next ≡ t.1)
    × (turn_fault (built_verb verb) [] (walk_in rows mode) word ≡ []) × Adds (rows_in rows mode) (rows_in after next) t.0

plain_steps : (verb : Verb) (rows : List Row) (mode : Mode) (word : ArgWord) → bytes_eq word dashes ≡ false → long_of word ≡ None → short_of word ≡ None
    → Steps verb rows mode word (plain_taken (waiting_in mode) word)
plain_steps verb rows (waits item) word d l s =
    (rows, valued item word, plain_walked rows (waits item) word d l s, refl, plain_turn verb rows (waits item) word d l s, adds_apart item word rows)
plain_steps verb rows mode word d l s =
    (plain_rows rows mode, numbered word, plain_walked rows mode word d l s, refl, plain_turn verb rows mode word d l s, adds_number word (rows_in rows mode))

known_steps : (verb : Verb) (rows : List Row) (mode : Mode) (word : ArgWord) (item : Item) (v : Option ArgWord)
    → walked built_rules [] (walk_in rows mode) word ≡ walk_in (long_rows item v rows mode) (long_mode item v)
    → turn_fault (built_verb verb) [] (walk_in rows mode) word ≡ waiting_fault (waiting_in mode)
    → Steps verb rows mode word (long_taken (waiting_in mode) (Some item) v)
known_steps verb rows (waits other) word item v walks turn = (InvalidValue, turn)
known_steps verb rows mode word item None walks turn = (rows_in rows mode, waits item, walks, refl, turn, adds_waiting item (rows_in rows mode))
known_steps verb rows mode word item (Some value) walks turn =
    (used (built_option item) (value ∷ []) (rows_in rows mode), clear, walks, refl, turn, adds_joined item value (rows_in rows mode))

unknown_steps : (verb : Verb) (rows : List Row) (mode : Mode) (word : ArgWord) (v : Option ArgWord) (waiting : Option Item)
    → turn_fault (built_verb verb) [] (walk_in rows mode) word ≡ UnknownArgument ∷ [] → Steps verb rows mode word (long_taken waiting None v)
unknown_steps verb rows mode word v None turn = (UnknownArgument, turn)
unknown_steps verb rows mode word v (Some item) turn = (UnknownArgument, turn)

long_steps : (verb : Verb) (rows : List Row) (mode : Mode) (word name : ArgWord) (v : Option ArgWord) → bytes_eq word dashes ≡ false → long_of word ≡ Some (name, v)
    → (n : Option Item) → named name ≡ n → Steps verb rows mode word (long_taken (waiting_in mode) n v)
long_steps verb rows mode word name v d l None is = unknown_steps verb rows mode word v (waiting_in mode) (unknown_turn verb rows mode word name v d l is)
long_steps verb rows mode word name v d l (Some item) is =
    known_steps verb rows mode word item v (long_walked rows mode word name v item d l is) (long_turn verb rows mode word name v item d l is)

steps : (verb : Verb) (rows : List Row) (mode : Mode) (word : ArgWord) → Class word → Steps verb rows mode word (taken (waiting_in mode) word)
steps verb rows mode word (plain d l s) =
    subst (λ o. Steps verb rows mode word (word_taken (waiting_in mode) word o)) (sym l) (plain_steps verb rows mode word d l s)
steps verb rows mode word (long p d l) =
    subst (λ o. Steps verb rows mode word (word_taken (waiting_in mode) word o)) (sym l) (long_steps verb rows mode word p.0 p.1 d l (named p.0) refl)

-- ---- all words

abbrev pub end_of : List Row → Mode → List ArgWord → Walk
end_of rows mode words = fold (walked built_rules []) (walk_in rows mode) words

-- the faults of the walk, and of what is pending at its end
abbrev pub walk_faults : Verb → List Row → Mode → List ArgWord → Kinds
walk_faults verb rows mode words = or_else (walk_fault (built_verb verb) [] (walk_in rows mode) words) (settle_fault built_rules false (end_of rows mode words).held)

abbrev pub end_rows : List Row → Mode → List ArgWord → List Row
end_rows rows mode words = (settled built_rules (end_of rows mode words).held).rows

-- the walk has a fault if the words can't be read, and otherwise finds what the parts give
abbrev pub Walks : Verb → List Row → Mode → List ArgWord → Option (List Argument) → Type 0
Walks verb rows mode words None = walk_faults verb rows mode words ≢ []
Walks verb rows mode words (Some parts) = (walk_faults verb rows mode words ≡ []) × Adds (rows_in rows mode) (end_rows rows mode words) parts

some_fault : (k : ErrorKind) (ks : Kinds) → k ∷ ks ≢ []
some_fault k ks e = cc

at_end : (verb : Verb) (rows : List Row) (mode : Mode) → Walks verb rows mode [] (ended (waiting_in mode))
unfolding walk_fault
at_end verb rows (waits item) = λ e. some_fault InvalidValue [] (sym (settle_fault_in rows (waits item)) ∙ e)
at_end verb rows mode = (settle_fault_in rows mode, subst (λ r. Adds (rows_in rows mode) r []) (sym (rows_settled rows mode)) (adds_none (rows_in rows mode)))

-- one more word
faults-cons : (verb : Verb) (rows after : List Row) (mode next : Mode) (word : ArgWord) (rest : List ArgWord) → walked built_rules [] (walk_in rows mode) word ≡ walk_in after next
    → turn_fault (built_verb verb) [] (walk_in rows mode) word ≡ [] → walk_faults verb rows mode (word ∷ rest) ≡ walk_faults verb after next rest
unfolding walk_fault
faults-cons verb rows after mode next word rest walks turn =
    ap₂ (λ t w. or_else (or_else t (walk_fault (built_verb verb) [] w rest)) (settle_fault built_rules false (fold (walked built_rules []) w rest).held)) turn walks

faults-stop : (verb : Verb) (rows : List Row) (mode : Mode) (word : ArgWord) (rest : List ArgWord) (k : ErrorKind)
    → turn_fault (built_verb verb) [] (walk_in rows mode) word ≡ k ∷ [] → walk_faults verb rows mode (word ∷ rest) ≢ []
unfolding walk_fault
faults-stop verb rows mode word rest k turn e =
    some_fault k [] (sym (ap (λ t. or_else (or_else t (walk_fault (built_verb verb) [] (walked built_rules [] (walk_in rows mode) word) rest)) (settle_fault built_rules false (end_of rows mode (word ∷ rest)).held)) turn) ∙ e)

then_rest : (verb : Verb) (rows after : List Row) (mode next : Mode) (word : ArgWord) (rest : List ArgWord) (front : List Argument) → walked built_rules [] (walk_in rows mode) word ≡ walk_in after next
    → turn_fault (built_verb verb) [] (walk_in rows mode) word ≡ [] → Adds (rows_in rows mode) (rows_in after next) front
    → (r : Option (List Argument)) → Walks verb after next rest r → Walks verb rows mode (word ∷ rest) (option_map (λ parts. front ++ parts) r)
then_rest verb rows after mode next word rest front walks turn adds None h = λ e. h (sym (faults-cons verb rows after mode next word rest walks turn) ∙ e)
then_rest verb rows after mode next word rest front walks turn adds (Some parts) h = (
  faults-cons verb rows after mode next word rest walks turn ∙ h.0,
  subst (λ w. Adds (rows_in rows mode) (settled built_rules (fold (walked built_rules []) w rest).held).rows (front ++ parts)) (sym walks)
      (adds_then (rows_in rows mode) (rows_in after next) (end_rows after next rest) front parts adds h.1),
)

-- each word is long or plain
abbrev pub Classes : List ArgWord → Type 0
Classes [] = Unit {0}
Classes (word ∷ rest) = Class word × Classes rest

pub walks : (verb : Verb) (rows : List Row) (mode : Mode) (words : List ArgWord) → Classes words → Walks verb rows mode words (read (waiting_in mode) words)
walks verb rows mode [] each = subst (Walks verb rows mode []) (sym (read-nil (waiting_in mode))) (at_end verb rows mode)
walks verb rows mode (word ∷ rest) each =
    subst (Walks verb rows mode (word ∷ rest)) (sym (read-cons (waiting_in mode) word rest))
    (go (λ after next. walks verb after next rest each.1) (taken (waiting_in mode) word) (steps verb rows mode word each.0))
  where
    go : ((after : List Row) (next : Mode) → Walks verb after next rest (read (waiting_in next) rest)) → (t : Taken) → Steps verb rows mode word t
        → Walks verb rows mode (word ∷ rest) (option_and_then (λ t. option_map (λ parts. t.0 ++ parts) (read t.1 rest)) t)
    go behind None s = faults-stop verb rows mode word rest s.0 s.1
    go behind (Some t) s =
        subst (λ w. Walks verb rows mode (word ∷ rest) (option_map (λ parts. t.0 ++ parts) (read w rest))) s.3
        (then_rest verb rows s.0 mode s.1 word rest t.0 s.2 s.4 s.5 (read (waiting_in s.1) rest) (behind s.0 s.1))
