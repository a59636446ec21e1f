-- A list of words spells a command if and only if it is read as that command.
use Rattle.std.proofs.Common.{◌≡◌, ◌≢◌, ◌⊎◌, inl, inr, ℕ, suc, ◌+◌, ◌*◌, ◌≤◌, Bool, true, false, cond, List, [], ◌∷◌, ◌++◌, Option, Some, None, Result, Ok, Err, length, refl, sym, ap, ap₂, ◌∙◌, subst, codes, arith, true≢false, le-leb, leb-true}
use Rattle.std.specs.Prelude.{option_map, option_and_then, ◌&&◌, nat_le, slice_index}
use Rattle.std.specs.List.{flat_map, list_all, list_any}
use Rattle.std.specs.Str.Parse.{digits_value}
use Rattle.clap.specs.Words.{Row, fault_of, subcommand_of}
use Rattle.ame_cli.specs.declared.bounds.Bounds.{Bounds}
use Rattle.ame_cli.specs.declared.item.Item.{Item}
use Rattle.ame_cli.specs.declared.item.Item.TheVariants.{Workers, Turns, Slice}
use Rattle.ame_cli.specs.declared.verb.Verb.{Verb}
use Rattle.ame_cli.specs.declared.verb.Verb.TheVariants as verb
use Rattle.ame_cli.specs.declared.command.CliFail.{CliFail}
use Rattle.ame_cli.specs.declared.command.CliFail.TheVariants.{Usage, NoMemory}
use Rattle.ame_cli.specs.declared.command.Options.{Options}
use Rattle.ame_cli.specs.declared.command.Command.{Command}
use Rattle.ame_cli.specs.declared.command.Command.TheVariants.{Run}
use Rattle.ame_cli.specs.Limits.{word_limit}
use Rattle.ame_cli.specs.Items.{ArgWord, name_of, bounds_of, default_of, is_same}
use Rattle.ame_cli.specs.Verbs.{verbs, verb_form, verb_word, verb_named, command_with}
use Rattle.ame_cli.specs.Numbers.{is_number, number_within, numbers_within}
use Rattle.ame_cli.specs.Settings.{setting, options_spelled, command_of}
use Rattle.ame_cli.specs.Screen.{may_stand, may_be_read}
use Rattle.ame_cli.specs.Grammar.{Argument, apart, joined, number, part_words, given, numbers, defaults, SpellsCommand, no_words, verb_first, SpellsNothing}
use Rattle.ame_cli.specs.Ranges.{IsInBounds, AreInRange, IsInRange}
use Rattle.ame_cli.specs.Syntax.{syntax}
use Rattle.ame_cli.specs.Rows.{values_in, named_in}
use Rattle.ame_cli.proofs.Machine.{read}
use Rattle.ame_cli.proofs.NumberLemmas.{both_true}
use Rattle.ame_cli.proofs.RowLemmas.{named_same}
use Rattle.ame_cli.proofs.ClapSteps.{clear}
use Rattle.ame_cli.proofs.ClapWalk.{Adds, Classes, Walks, walks, end_rows}
use Rattle.ame_cli.proofs.ClapTop.{verb_faults, verb_rows, other_faults}
use Rattle.ame_cli.proofs.GrammarLemmas.{Numbers, parts_are_read, read_words_are, part_stands, classes_of}

-- ---- reading a whole list

abbrev pub from_parts : Verb → List Argument → Option Command
from_parts verb parts = command_of verb (numbers parts) (given parts)

abbrev pub from_verb : Option Verb → List ArgWord → Option Command
from_verb None rest = None
from_verb (Some verb) rest = option_and_then (from_parts verb) (read None rest)

-- the command that words are read as
abbrev pub reading : List ArgWord → Option Command
reading [] = Some (Run defaults)
reading (first ∷ rest) = from_verb (verb_named first) rest

-- each row of the table is found by its word
named_verb : (named : Verb) → verb_named (verb_word named) ≡ Some named
unfolding verbs
named_verb verb.Run = refl
named_verb _ = refl

-- if a step gave something, so did the one before it
came_from : {A B : Type 0} (f : A → Option B) (o : Option A) (b : B) → option_and_then f o ≡ Some b → (a : A) × (o ≡ Some a) × (f a ≡ Some b)
came_from f None b e = cc
came_from f (Some a) b e = (a, refl, e)

-- ---- what is read is spelled

pub read_is_spelled : (words : List ArgWord) (command : Command) → reading words ≡ Some command → SpellsCommand words command
read_is_spelled [] command e = let same : Run defaults ≡ command = cc e in subst (SpellsCommand []) same no_words
read_is_spelled (first ∷ rest) command e = by_verb (verb_named first) refl e
  where
    by_verb : (v : Option Verb) → verb_named first ≡ v → from_verb v rest ≡ Some command → SpellsCommand (first ∷ rest) command
    by_verb None is f = cc
    by_verb (Some verb) is f =
        let p = came_from (from_parts verb) (read None rest) command f in
        let words : verb_word verb ∷ flat_map part_words p.0 ≡ first ∷ rest =
        ap₂ (λ a l. a ∷ l) (sym (named_same verb_word verbs first verb is)) (sym (read_words_are None rest p.0 p.1)) in
        subst (λ w. SpellsCommand w command) words (verb_first verb p.0 command p.2)

-- ---- what is spelled is read

-- all texts are number words
abbrev AllNumbers : List ArgWord → Type 0
AllNumbers [] = Unit {0}
AllNumbers (word ∷ rest) = (is_number word ≡ true) × AllNumbers rest

mapped_as : {A B : Type 0} (f : A → B) (o : Option A) (b : B) → option_map f o ≡ Some b → (a : A) × (o ≡ Some a) × (f a ≡ b)
mapped_as f None b e = cc
mapped_as f (Some a) b e = (a, refl, cc e)

number_facts : (bounds : Bounds) (n : ℕ) (word : ArgWord) → number_within bounds word ≡ Some n → (is_number word ≡ true) × IsInBounds bounds n
number_facts bounds n word e = go (is_number word && (nat_le bounds.least (digits_value 10 word) && nat_le (digits_value 10 word) bounds.most)) refl e
  where
    go : (b : Bool) → (is_number word && (nat_le bounds.least (digits_value 10 word) && nat_le (digits_value 10 word) bounds.most)) ≡ b
        → cond b (Some (digits_value 10 word)) None ≡ Some n → (is_number word ≡ true) × IsInBounds bounds n
    go true t f =
        let both = both_true (is_number word) _ t in
        let inside = both_true (nat_le bounds.least (digits_value 10 word)) _ both.1 in
        let same : digits_value 10 word ≡ n = cc f in
        (both.0, (subst (λ v. bounds.least ≤ v) same (leb-true _ _ inside.0), subst (λ v. v ≤ bounds.most) same (leb-true _ _ inside.1)))
    go false t f = cc

-- the numbers from a place on, each in its own bounds
abbrev InPlaces : List Bounds → ℕ → List ℕ → Type 0
InPlaces [] k ns = Unit {0}
InPlaces (one ∷ more) k ns = IsInBounds one (slice_index ns k) × InPlaces more (suc k) ns

in_places-cons : (bounds : List Bounds) (k n : ℕ) (ns : List ℕ) → InPlaces bounds k ns → InPlaces bounds (suc k) (n ∷ ns)
in_places-cons [] k n ns each = tt
in_places-cons (one ∷ more) k n ns each = (each.0, in_places-cons more (suc k) n ns each.1)

-- the words of numbers are number words, as many as there are bounds
numbers_facts : (bounds : List Bounds) (words : List ArgWord) (ns : List ℕ) → numbers_within bounds words ≡ Some ns
    → AllNumbers words × (length words ≡ length bounds) × InPlaces bounds 0 ns
numbers_facts [] [] ns e = (tt, refl, tt)
numbers_facts [] (word ∷ rest) ns e = cc
numbers_facts (one ∷ more) [] ns e = cc
numbers_facts (one ∷ more) (word ∷ rest) ns e =
    let n = came_from (λ n. option_map (λ ns. n ∷ ns) (numbers_within more rest)) (number_within one word) ns e in
    let behind = mapped_as (λ ns. n.0 ∷ ns) (numbers_within more rest) ns n.2 in
    let first = number_facts one n.0 word n.1 in
    let are = numbers_facts more rest behind.0 behind.1 in
    ((first.0, are.0), omega (arith, are.1), subst (InPlaces (one ∷ more) 0) behind.2 (first.1, in_places-cons more 0 n.0 behind.0 are.2))

default_range : (item : Item) → IsInBounds (bounds_of item) (default_of item)
default_range Workers = (omega arith, omega arith)
default_range _ = (omega arith, omega arith)

-- an option that is given once may be given
once : (b : Bool) (bounds : Bounds) (value : ArgWord) (n : ℕ) → cond b (number_within bounds value) None ≡ Some n → number_within bounds value ≡ Some n
once true bounds value n e = e
once false bounds value n e = cc

setting_facts : (allowed : List Item) (item : Item) (values : List ArgWord) (n : ℕ) → setting allowed item values ≡ Some n
    → AllNumbers values × (length values ≤ 1) × IsInBounds (bounds_of item) n
setting_facts allowed item [] n e = let same : default_of item ≡ n = cc e in (tt, omega arith, subst (IsInBounds (bounds_of item)) same (default_range item))
setting_facts allowed item (value ∷ []) n e =
    let fact = number_facts (bounds_of item) n value (once (list_any (is_same item) allowed) (bounds_of item) value n e) in
    ((fact.0, tt), omega arith, fact.1)
setting_facts allowed item (value ∷ other ∷ rest) n e = cc

abbrev options_with : ℕ → ℕ → ℕ → Options
options_with workers turns slice = record { workers = workers; turns = turns; slice = slice }

abbrev option_in : Options → Item → ℕ
option_in options Workers = options.workers
option_in options Turns = options.turns
option_in options Slice = options.slice

-- each option has its setting
options_are : (allowed : List Item) (values : Item → List ArgWord) (options : Options) → options_spelled allowed values ≡ Some options
    → (item : Item) → setting allowed item (values item) ≡ Some (option_in options item)
options_are allowed values options e item =
    let w = came_from (λ workers. option_and_then (λ turns. option_map (λ slice. options_with workers turns slice) (setting allowed Slice (values Slice))) (setting allowed Turns (values Turns))) (setting allowed Workers (values Workers)) options e in
    let t = came_from (λ turns. option_map (λ slice. options_with w.0 turns slice) (setting allowed Slice (values Slice))) (setting allowed Turns (values Turns)) options w.2 in
    let s = mapped_as (λ slice. options_with w.0 t.0 slice) (setting allowed Slice (values Slice)) options t.2 in
    subst (λ (o : Options). setting allowed item (values item) ≡ Some (option_in o item)) s.2 (go w.0 t.0 s.0 w.1 t.1 s.1 item)
  where
    go : (w t s : ℕ) → setting allowed Workers (values Workers) ≡ Some w → setting allowed Turns (values Turns) ≡ Some t → setting allowed Slice (values Slice) ≡ Some s
        → (i : Item) → setting allowed i (values i) ≡ Some (option_in (options_with w t s) i)
    go w t s p q r Workers = p
    go w t s p q r Turns = q
    go w t s p q r Slice = r

command_range : (named : Verb) (ns : List ℕ) (options : Options) → InPlaces (verb_form named).numbers 0 ns → AreInRange options → IsInRange (command_with named ns options)
command_range verb.Run ns options each range = assumption
command_range _ ns options each range = assumption

-- what holds of the words that a command is made of, and of the command
command_facts : (named : Verb) (words : List ArgWord) (values : Item → List ArgWord) (command : Command) → command_of named words values ≡ Some command
    → ((item : Item) → AllNumbers (values item) × (length (values item) ≤ 1)) × AllNumbers words × (length words ≡ length (verb_form named).numbers) × IsInRange command
command_facts named words values command e =
    let o = came_from (λ options. option_map (λ ns. command_with named ns options) (numbers_within (verb_form named).numbers words)) (options_spelled (verb_form named).items values) command e in
    let n = mapped_as (λ ns. command_with named ns o.0) (numbers_within (verb_form named).numbers words) command o.2 in
    let each = λ (item : Item). setting_facts (verb_form named).items item (values item) (option_in o.0 item) (options_are (verb_form named).items values o.0 o.1 item) in
    let are = numbers_facts (verb_form named).numbers words n.0 n.1 in
    let range : AreInRange o.0 = record { workers = (each Workers).2; turns = (each Turns).2; slice = (each Slice).2 } in
    (λ item. ((each item).0, (each item).1), are.0, are.1, subst IsInRange n.2 (command_range named n.0 o.0 are.2 range))

option_rest : (b : Bool) (value : ArgWord) (rest : List ArgWord) → AllNumbers (cond b (value ∷ []) [] ++ rest) → AllNumbers rest
option_rest true value rest each = each.1
option_rest false value rest each = each

option_first : (item : Item) (value : ArgWord) (rest : List ArgWord) → AllNumbers (cond (is_same item item) (value ∷ []) [] ++ rest) → is_number value ≡ true
option_first Workers value rest each = each.0
option_first _ value rest each = each.0

parts_numbers : (parts : List Argument) → ((item : Item) → AllNumbers (given parts item)) → AllNumbers (numbers parts) → Numbers parts
parts_numbers [] each words = tt
parts_numbers (apart item value ∷ rest) each words =
    (option_first item value (given rest item) (each item), parts_numbers rest (λ other. option_rest (is_same other item) value (given rest other) (each other)) words)
parts_numbers (joined item value ∷ rest) each words =
    (option_first item value (given rest item) (each item), parts_numbers rest (λ other. option_rest (is_same other item) value (given rest other) (each other)) words)
parts_numbers (number word ∷ rest) each words = (words.0, parts_numbers rest each words.1)

spelled_numbers : (named : Verb) (parts : List Argument) (command : Command) → command_of named (numbers parts) (given parts) ≡ Some command → Numbers parts
spelled_numbers named parts command e =
    let facts = command_facts named (numbers parts) (given parts) command e in
    parts_numbers parts (λ item. (facts.0 item).0) facts.1

pub spelled_is_read : (words : List ArgWord) (command : Command) → SpellsCommand words command → reading words ≡ Some command
spelled_is_read words command no_words = refl
spelled_is_read words command (verb_first named parts made e) =
    ap (λ v. from_verb v (flat_map part_words parts)) (named_verb named)
    ∙ ap (option_and_then (from_parts named)) (parts_are_read parts (spelled_numbers named parts made e)) ∙ e

pub spelled_once : (words : List ArgWord) (command other : Command) → SpellsCommand words command → SpellsCommand words other → command ≡ other
spelled_once words command other s t = let same : Some command ≡ Some other = sym (spelled_is_read words command s) ∙ spelled_is_read words other t in cc same

-- ---- what is spelled may be read

-- how many words parts have
parts_len : (parts : List Argument)
    → length (flat_map part_words parts) ≤ 2 * (length (given parts Workers) + length (given parts Turns) + length (given parts Slice)) + length (numbers parts)
parts_len [] = omega arith
parts_len (apart Workers value ∷ rest) = omega (arith, parts_len rest)
parts_len (joined Workers value ∷ rest) = omega (arith, parts_len rest)
parts_len (_ ∷ rest) = omega (arith, parts_len rest)

all_stand-append : (xs ys : List ArgWord) → list_all may_stand xs ≡ true → list_all may_stand ys ≡ true → list_all may_stand (xs ++ ys) ≡ true
all_stand-append [] ys p q = q
all_stand-append (x ∷ xs) ys p q = go (may_stand x) p (λ h. all_stand-append xs ys h q)
  where
    go : (b : Bool) → (b && list_all may_stand xs) ≡ true → (list_all may_stand xs ≡ true → list_all may_stand (xs ++ ys) ≡ true) → (b && list_all may_stand (xs ++ ys)) ≡ true
    go true h more = more h
    go false h more = h

parts_stand : (parts : List Argument) → Numbers parts → list_all may_stand (flat_map part_words parts) ≡ true
parts_stand [] each = refl
parts_stand (apart item value ∷ rest) each = all_stand-append (part_words (apart item value)) (flat_map part_words rest) (part_stands (apart item value) (each.0, tt)) (parts_stand rest each.1)
parts_stand (joined item value ∷ rest) each = all_stand-append (part_words (joined item value)) (flat_map part_words rest) (part_stands (joined item value) (each.0, tt)) (parts_stand rest each.1)
parts_stand (number word ∷ rest) each = all_stand-append (part_words (number word)) (flat_map part_words rest) (part_stands (number word) (each.0, tt)) (parts_stand rest each.1)

pub spelled_may_be_read : (words : List ArgWord) (command : Command) → SpellsCommand words command → may_be_read words ≡ true
spelled_may_be_read words command no_words = refl
spelled_may_be_read words command (verb_first named parts made e) =
    let facts = command_facts named (numbers parts) (given parts) made e in
    let short : suc (length (flat_map part_words parts)) ≤ word_limit =
    omega (arith, parts_len parts, (facts.0 Workers).1, (facts.0 Turns).1, (facts.0 Slice).1, facts.2, few named) in
    ap₂ (λ a b. a && b) (le-leb _ word_limit short) (ap₂ (λ a b. a && b) (verb_stands named) (parts_stand parts (spelled_numbers named parts made e)))
  where
    few : (v : Verb) → length (verb_form v).numbers ≤ 2
    few verb.Run = omega arith
    few _ = omega arith

    verb_stands : (v : Verb) → may_stand (verb_word v) ≡ true
    verb_stands verb.Run = refl
    verb_stands _ = refl

-- ---- what clap finds is what is read

found_in : (named : Verb) (rows : List Row) (parts : List Argument) → Adds [] rows parts → named_in (verb_word named) rows ≡ from_parts named parts
found_in named rows parts adds =
    let same : ◌≡◌ {A = Item → List ArgWord} (λ item. values_in (name_of item) rows) (given parts) = λ i. λ item. adds.0 item i in
    ap (option_and_then (λ v. command_of v (values_in (codes "numbers") rows) (λ item. values_in (name_of item) rows))) (named_verb named)
    ∙ ap₂ (command_of named) adds.1 same

pub found_is_read : (first : ArgWord) (rest : List ArgWord) → Classes (first ∷ rest) → fault_of syntax (first ∷ rest) ≡ []
    → option_and_then (λ p. named_in p.0 p.1) (subcommand_of syntax (first ∷ rest)) ≡ reading (first ∷ rest)
found_is_read first rest classes none_fails = by_verb (verb_named first) refl
  where
    by_parts : (named : Verb) (r : Option (List Argument)) → fault_of syntax (verb_word named ∷ rest) ≡ [] → Walks named [] clear rest r
        → option_and_then (λ p. named_in p.0 p.1) (subcommand_of syntax (verb_word named ∷ rest)) ≡ option_and_then (from_parts named) r
    by_parts named None free h = absurd (h (sym (verb_faults named rest) ∙ free))
    by_parts named (Some parts) free h = ap (option_and_then (λ p. named_in p.0 p.1)) (verb_rows named rest) ∙ found_in named (end_rows [] clear rest) parts h.1

    by_verb : (v : Option Verb) → verb_named first ≡ v → option_and_then (λ p. named_in p.0 p.1) (subcommand_of syntax (first ∷ rest)) ≡ from_verb (verb_named first) rest
    by_verb None is = absurd (other_faults first rest classes.0 is none_fails)
    by_verb (Some named) is =
        let same = named_same verb_word verbs first named is in
        ap (λ w. option_and_then (λ p. named_in p.0 p.1) (subcommand_of syntax (w ∷ rest))) same
        ∙ by_parts named (read None rest) (ap (λ w. fault_of syntax (w ∷ rest)) (sym same) ∙ none_fails) (walks named [] clear rest classes.1)
        ∙ ap (λ v. from_verb v rest) (sym is)

pub refused_is_not_read : (first : ArgWord) (rest : List ArgWord) → Classes (first ∷ rest) → fault_of syntax (first ∷ rest) ≢ [] → reading (first ∷ rest) ≡ None
refused_is_not_read first rest classes fails = by_verb (verb_named first) refl
  where
    by_parts : (named : Verb) (r : Option (List Argument)) → fault_of syntax (verb_word named ∷ rest) ≢ [] → Walks named [] clear rest r → option_and_then (from_parts named) r ≡ None
    by_parts named None f h = refl
    by_parts named (Some parts) f h = absurd (f (verb_faults named rest ∙ h.0))

    by_verb : (v : Option Verb) → verb_named first ≡ v → from_verb (verb_named first) rest ≡ None
    by_verb None is = ap (λ v. from_verb v rest) is
    by_verb (Some named) is =
        ap (λ v. from_verb v rest) is
        ∙ by_parts named (read None rest) (λ e. fails (ap (λ w. fault_of syntax (w ∷ rest)) (named_same verb_word verbs first named is) ∙ e)) (walks named [] clear rest classes.1)

pub spelled_in_range : (words : List ArgWord) (command : Command) → SpellsCommand words command → IsInRange command
spelled_in_range words command no_words = record { workers = default_range Workers; turns = default_range Turns; slice = default_range Slice }
spelled_in_range words command (verb_first named parts made e) = (command_facts named (numbers parts) (given parts) made e).3

-- ---- what is answered

read_classes : (words : List ArgWord) → may_be_read words ≡ true → Classes words
read_classes words e = classes_of words (both_true (nat_le (length words) word_limit) _ e).1

-- the command that clap finds is what the words are read as
pub found_whole : (words : List ArgWord) → words ≢ [] → may_be_read words ≡ true → fault_of syntax words ≡ [] → option_and_then (λ p. named_in p.0 p.1) (subcommand_of syntax words) ≡ reading words
found_whole [] full e f = absurd (full refl)
found_whole (first ∷ rest) full e f = found_is_read first rest (read_classes (first ∷ rest) e) f

pub found_spelled : (words : List ArgWord) (command : Command) → words ≢ [] → may_be_read words ≡ true → fault_of syntax words ≡ []
    → Some command ≡ option_and_then (λ p. named_in p.0 p.1) (subcommand_of syntax words) → SpellsCommand words command
found_spelled words command full e f is = read_is_spelled words command (sym (found_whole words full e f) ∙ sym is)

not_read : (words : List ArgWord) → reading words ≡ None → SpellsNothing words
not_read words e command spelled = let bad : None ≡ Some command = sym e ∙ spelled_is_read words command spelled in cc

pub found_nothing : (words : List ArgWord) → words ≢ [] → may_be_read words ≡ true → fault_of syntax words ≡ []
    → None ≡ option_and_then (λ p. named_in p.0 p.1) (subcommand_of syntax words) → SpellsNothing words
found_nothing words full e f is = not_read words (sym (found_whole words full e f) ∙ sym is)

pub refused_nothing : (words : List ArgWord) → words ≢ [] → may_be_read words ≡ true → fault_of syntax words ≢ [] → SpellsNothing words
refused_nothing [] full e f = absurd (full refl)
refused_nothing (first ∷ rest) full e f = not_read (first ∷ rest) (refused_is_not_read first rest (read_classes (first ∷ rest) e) f)

pub screened_nothing : (words : List ArgWord) → may_be_read words ≡ false → SpellsNothing words
screened_nothing words e command spelled = true≢false (sym (spelled_may_be_read words command spelled) ∙ e)

-- the clauses of an answer, by what it says
abbrev pub Answered : List ArgWord → Command → Result Command CliFail → Type 0
Answered words command result = (result ≡ Ok command) ⊎ (result ≡ Err NoMemory)

pub ok_spelled : (words : List ArgWord) (given : Command) → SpellsCommand words given → (command : Command) → SpellsCommand words command → Answered words command (Ok given)
ok_spelled words given is command other = inl (ap Ok (spelled_once words given command is other))

pub err_spelled : (words : List ArgWord) (fail : CliFail) → (fail ≡ Usage → SpellsNothing words) → (command : Command) → SpellsCommand words command → Answered words command (Err fail)
err_spelled words Usage nothing command is = absurd (nothing refl command is)
err_spelled words NoMemory nothing command is = inr refl
