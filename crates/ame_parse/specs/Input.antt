-- The input of the reading, and the steps that every form is read by.
use Rattle.std.specs.Prelude.{◌≡◌, ◌≢◌, ℕ, Bool, true, false, List, [], ◌∷◌, ◌++◌, length, take, drop, ◌+◌, ◌-◌, ◌==◌, if◌then◌else◌, Option, Some, None, Result, Ok, Err}
use Rattle.ame_lex.specs.Bytes.{Text}
use Rattle.ame_lex.specs.declared.tokens.Kind.{Kind}
use Rattle.ame_lex.specs.declared.tokens.Kind.TheVariants as kind
use Rattle.ame_term.specs.declared.types.TyNo.{TyNo}
use Rattle.ame_parse.specs.declared.words.Word.{Word}
use Rattle.ame_parse.specs.declared.ahead.Ahead.{Ahead}
use Rattle.ame_parse.specs.declared.ahead.Ahead.TheVariants as a
use Rattle.ame_parse.specs.declared.fault.Want.{Want}
use Rattle.ame_parse.specs.declared.fault.Want.TheVariants as want
use Rattle.ame_parse.specs.declared.fault.ParseFault.{ParseFault}
use Rattle.ame_parse.specs.declared.fault.ParseFault.TheVariants.{Expected, TooNested, Trailing, NoMemory}
use Rattle.std.specs.List.{list_any}
use Rattle.ame_parse.specs.Names.{number_in, with_name}
use Rattle.ame_parse.specs.Words.{word_of}

-- a token: its place, its kind and its bytes
pub record Seen : Type 0 where
  pub place : ℕ
  pub kind : Kind
  pub spelling : Text

pub record Input : Type 0 where
  -- the tokens that are left, and the place of the text's end
  pub rest : List Seen
  pub end : ℕ
  -- the names so far, by their numbers, and the numbers of those that are bound here, the innermost last
  pub names : List Text
  pub scope : List ℕ
  -- the places of the nodes so far, in preorder
  pub places : List ℕ
  -- how many `ref` forms began so far
  pub refs : ℕ

-- what a word is that may be reserved
abbrev pub ahead_of_word : Option Word → Ahead
ahead_of_word (Some word) = a.Reserved word
ahead_of_word None = a.Name

-- what a token of this kind and this spelling is
abbrev pub ahead_of : Kind → Text → Ahead
ahead_of kind.Open spelling = a.Opening
ahead_of kind.Close spelling = a.Closing
ahead_of (kind.Number value) spelling = a.Number value
ahead_of (kind.Symbol symbol) spelling = a.Symbol symbol
ahead_of kind.Word spelling = ahead_of_word (word_of spelling)

abbrev pub ahead_in : List Seen → Ahead
ahead_in [] = a.End
ahead_in (token ∷ rest) = ahead_of token.kind token.spelling

-- what comes next
unfoldable pub ahead : Input → Ahead
ahead i = ahead_in i.rest

abbrev pub place_in : ℕ → List Seen → ℕ
place_in end [] = end
place_in end (token ∷ rest) = token.place

-- the place of the next token, or of the end
unfoldable pub place : Input → ℕ
place i = place_in i.end i.rest

abbrev pub spelling_in : List Seen → Text
spelling_in [] = []
spelling_in (token ∷ rest) = token.spelling

-- the bytes of the next token; none at the end
unfoldable pub spelling : Input → Text
spelling i = spelling_in i.rest

-- the input after the next token
unfoldable pub advanced : Input → Input
advanced i = record i { rest = drop 1 i.rest }

-- the number of the name that comes next, and the input after it
unfoldable pub name_number : Input → ℕ
name_number i = number_in i.names (spelling i)

unfoldable pub named : Input → Input
named i = record i { rest = drop 1 i.rest; names = with_name i.names (spelling i) }

-- whether a name is bound here
unfoldable pub binds_name : ℕ → Input → Bool
binds_name x i = list_any (λ y. y == x) i.scope

-- the input with a name bound, and with the innermost one no longer bound
unfoldable pub bound : ℕ → Input → Input
bound x i = record i { scope = i.scope ++ x ∷ [] }

unfoldable pub unbound : Input → Input
unbound i = record i { scope = take (length i.scope - 1) i.scope }

-- the number of a `ref` form that begins, and the input with one more of them
abbrev pub ref_number : Input → TyNo
ref_number i = record { 0 = i.refs }

unfoldable pub ref_counted : Input → Input
ref_counted i = record i { refs = i.refs + 1 }

-- how many tokens are left
unfoldable pub tokens_left : Input → ℕ
tokens_left i = length i.rest

-- ---- parsers

abbrev pub ParseOutcome : Type 0 → Type 0
ParseOutcome A = Result (A × Input) ParseFault

abbrev pub Parser : Type 0 → Type 0
Parser A = Input → ParseOutcome A

abbrev pub and_then : {A B : Type 0} → ParseOutcome A → (A → Parser B) → ParseOutcome B
and_then (Ok p) f = f p.0 p.1
and_then (Err fault) f = Err fault

infixl 10 ◌>>=◌
abbrev pub ◌>>=◌ : {A B : Type 0} → Parser A → (A → Parser B) → Parser B
p >>= f = λ i. and_then (p i) f

infixl 10 ◌>>◌
abbrev pub ◌>>◌ : {A B : Type 0} → Parser A → Parser B → Parser B
p >> q = p >>= (λ _. q)

abbrev pub pure : {A : Type 0} → A → Parser A
pure a = λ i. Ok (a, i)

-- the next token is of another kind than the one that must stand there
abbrev pub expected : {A : Type 0} → Want → Parser A
expected wanted = λ i. Err (Expected (place i) wanted)

abbrev pub peek : Parser Ahead
peek = λ i. Ok (ahead i, i)

-- takes the next token
abbrev pub advance : Parser (Unit {0})
advance = λ i. Ok (tt, advanced i)

-- a node begins at the next token
unfoldable pub marked : Input → Input
marked i = record i { places = i.places ++ place i ∷ [] }

abbrev pub mark : Parser (Unit {0})
mark = λ i. Ok (tt, marked i)

abbrev pub is_closing : Ahead → Bool
is_closing a.Closing = true
is_closing _ = false

unfoldable pub sees_closing : Parser Bool
sees_closing = λ i. Ok (is_closing (ahead i), i)

-- the parenthesis that ends a form
abbrev pub closing_by : Ahead → Parser (Unit {0})
closing_by a.Closing = advance
closing_by _ = expected want.Closing

unfoldable pub closing : Parser (Unit {0})
closing = peek >>= closing_by

-- the opening parenthesis of a parameter, if at most n parentheses may be open in it
abbrev pub opening_by : ℕ → Ahead → Parser (Unit {0})
opening_by n a.Opening = if n == 0 then (λ i. Err (TooNested (place i))) else advance
opening_by n _ = expected want.Opening

unfoldable pub opening : ℕ → Parser (Unit {0})
opening n = peek >>= opening_by n

abbrev pub name_by : Ahead → Parser ℕ
name_by a.Name = λ i. Ok (name_number i, named i)
name_by _ = expected want.Name

unfoldable pub name : Parser ℕ
name = peek >>= name_by

abbrev pub bind_name : ℕ → Parser (Unit {0})
bind_name x = λ i. Ok (tt, bound x i)

abbrev pub unbind : Parser (Unit {0})
unbind = λ i. Ok (tt, unbound i)

-- a `ref` form begins, and has this number
abbrev pub count_ref : Parser TyNo
count_ref = λ i. Ok (ref_number i, ref_counted i)

-- nothing comes after the program
abbrev pub finish_by : Ahead → Parser (Unit {0})
finish_by a.End = pure tt
finish_by _ = λ i. Err (Trailing (place i))

unfoldable pub finish : Parser (Unit {0})
finish = peek >>= finish_by

-- ---- what a function that reads ensures: the parser's outcome, unless memory runs out

abbrev pub Reads : {A B : Type 0} → (B → A) → ParseOutcome A → Result B ParseFault → Input → Type 0
Reads view outcome (Ok b) new = outcome ≡ Ok (view b, new)
Reads view outcome (Err fault) new = fault ≢ NoMemory → outcome ≡ Err fault
