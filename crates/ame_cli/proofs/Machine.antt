-- Reading the words after the first, one by one.
use Rattle.std.proofs.Common.{◌≡◌, List, [], ◌∷◌, ◌++◌, Option, Some, None}
use Rattle.std.specs.Prelude.{option_map, option_and_then}
use Rattle.std.specs.List.{find}
use Rattle.std.specs.Str.{bytes_eq}
use Rattle.clap.specs.Lexer.{long_of}
use Rattle.ame_cli.specs.declared.item.Item.{Item}
use Rattle.ame_cli.specs.Items.{ArgWord, name_of}
use Rattle.ame_cli.specs.Verbs.{all_items}
use Rattle.ame_cli.specs.Grammar.{Argument, apart, joined, number}

-- the option of a name
abbrev pub named : ArgWord → Option Item
named name = find (λ item. bytes_eq (name_of item) name) all_items

-- the effect of a word, after an option that waits for its value or after none: the parts that it ends, and the option that
-- waits after it
abbrev pub Taken : Type 0
Taken = Option (List Argument × Option Item)

abbrev pub long_taken : Option Item → Option Item → Option ArgWord → Taken
long_taken None None value = None
long_taken None (Some item) None = Some ([], Some item)
long_taken None (Some item) (Some value) = Some (joined item value ∷ [], None)
long_taken (Some waiting) item value = None

abbrev pub plain_taken : Option Item → ArgWord → Taken
plain_taken None word = Some (number word ∷ [], None)
plain_taken (Some item) word = Some (apart item word ∷ [], None)

abbrev pub word_taken : Option Item → ArgWord → Option (ArgWord × Option ArgWord) → Taken
word_taken waiting word None = plain_taken waiting word
word_taken waiting word (Some long) = long_taken waiting (named long.0) long.1

abbrev pub taken : Option Item → ArgWord → Taken
taken waiting word = word_taken waiting word (long_of word)

abbrev pub ended : Option Item → Option (List Argument)
ended None = Some []
ended (Some item) = None

-- the parts that the words are
pub read : Option Item → List ArgWord → Option (List Argument)
read waiting [] = ended waiting
read waiting (word ∷ rest) = option_and_then (λ t. option_map (λ parts. t.0 ++ parts) (read t.1 rest)) (taken waiting word)

pub read-nil : (waiting : Option Item) → read waiting [] ≡ ended waiting
unfolding read
read-nil waiting = λ _. ended waiting

pub read-cons : (waiting : Option Item) (word : ArgWord) (rest : List ArgWord)
    → read waiting (word ∷ rest) ≡ option_and_then (λ t. option_map (λ parts. t.0 ++ parts) (read t.1 rest)) (taken waiting word)
unfolding read
read-cons waiting word rest = λ _. option_and_then (λ t. option_map (λ parts. t.0 ++ parts) (read t.1 rest)) (taken waiting word)
