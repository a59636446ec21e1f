-- The binder of the name that a rule of types is about, by the tokens of a program.
use Rattle.std.specs.Prelude.{ℕ, ◌+◌, ◌-◌, ◌==◌, Bool, nat_le, if◌then◌else◌, List, [], ◌++◌, drop, length, reverse, slice_get}
use Rattle.std.specs.Prelude.{Option, Some, None, option_to_list, codes}
use Rattle.std.specs.List.{find, flat_map, fold, prefix_len, take_while}
use Rattle.std.specs.Str.{bytes_eq}
use Rattle.ame_lex.specs.declared.tokens.Kind.{Kind}
use Rattle.ame_lex.specs.declared.tokens.Token.{Token}
use Rattle.ame_lex.specs.Bytes.{Text, max_text}
use Rattle.ame_lex.specs.Reading.{tokens_of}
use Rattle.ame_lex.specs.Tokens.{spelled}
use Rattle.ame_term.specs.Shown.{TypeFault, wrong_effect, wrong_sort, no_reference}
use Rattle.ame_why.specs.declared.parts.FormProgress.{FormProgress}
use Rattle.ame_why.specs.declared.binders.Binder.{Binder}
use Rattle.ame_why.specs.Open.{open_before, tokens_or_none}
use Rattle.ame_why.specs.Placed.{placed_within}

-- whether a token begins at a place or before it
abbrev pub is_up_to : ℕ → Token → Bool
is_up_to place token = nat_le token.start place

-- the tokens from the first one on that begins after a place
abbrev pub tokens_behind : ℕ → List Token → List Token
tokens_behind place tokens = drop (prefix_len (is_up_to place) tokens) tokens

-- how many parentheses are open after a token
abbrev pub depth_after : ℕ → Kind → ℕ
depth_after depth Kind.Open = depth + 1
depth_after depth Kind.Close = depth - 1
depth_after depth _ = depth

-- one more token of a form: if none of its parts is open, it begins the next one
abbrev pub parts_after : FormProgress → Token → FormProgress
parts_after parts token = record { begun = if parts.depth == 0 then parts.begun + 1 else parts.begun; depth = depth_after parts.depth token.kind }

abbrev pub no_parts : FormProgress
no_parts = record { begun = 0; depth = 0 }

-- in which part a place is of the form that opens there, whose word is part 0
abbrev pub part_at : ℕ → ℕ → List Token → ℕ
part_at form place tokens = (fold parts_after no_parts (take_while (is_up_to place) (tokens_behind form tokens))).begun - 1

-- which form a word begins, as far as it binds names
abbrev pub binding_of : List ℕ → Binder
binding_of word =
    if bytes_eq word (codes "let") then Binder.Let
    else (if bytes_eq word (codes "fn") then Binder.Function
    else (if bytes_eq word (codes "rec") then Binder.Recursive
    else Binder.Nothing))

-- the bytes of a token, if there is one
abbrev pub spelled_or_none : Text → Option Token → List ℕ
spelled_or_none text None = []
spelled_or_none text (Some token) = spelled text token

-- the word of the form that opens at a place
abbrev pub word_at : Text → ℕ → List Token → List ℕ
word_at text form tokens = spelled_or_none text (slice_get (tokens_behind form tokens) 0)

abbrev pub nth_token : List Token → ℕ → List Token
nth_token tokens n = option_to_list (slice_get tokens n)

-- The names that a form binds in one of its parts, the innermost first, by the tokens after its parenthesis: `let x e e` its name in the second term,
-- `fn q (x T) e` its parameter in its body, `rec q f (x T) R e` its parameter there, and itself.
abbrev pub bound_by : Binder → ℕ → List Token → List Token
bound_by Binder.Let part tokens = if part == 3 then nth_token tokens 1 else []
bound_by Binder.Function part tokens = if part == 3 then nth_token tokens 3 else []
bound_by Binder.Recursive part tokens = if part == 5 then nth_token tokens 4 ++ nth_token tokens 2 else []
bound_by Binder.Nothing part tokens = []

-- the same of the form that opens there, in the part in which a place is
abbrev pub bound_in : Text → List Token → ℕ → ℕ → List Token
bound_in text tokens place form = bound_by (binding_of (word_at text form tokens)) (part_at form place tokens) (tokens_behind form tokens)

-- whether a token has the spelling of another one
abbrev pub spells : Text → Token → Token → Bool
spells text name token = bytes_eq (spelled text token) (spelled text name)

-- all that these forms, the innermost last, bind at a place, the innermost first
abbrev pub bound_within : Text → List Token → ℕ → List ℕ → List Token
bound_within text tokens place forms = flat_map (bound_in text tokens place) (reverse forms)

-- the token that binds a name: of all that the forms bind that are open around it, the innermost with its spelling
abbrev pub binder_of : Text → List Token → Token → Option Token
binder_of text tokens name = find (spells text name) (bound_within text tokens name.start (open_before name.start tokens))

-- the name of the function, if the form that opens there is a call
abbrev pub called_name : Text → List Token → ℕ → Option Token
called_name text tokens place = if bytes_eq (word_at text place tokens) (codes "app") then slice_get (tokens_behind place tokens) 1 else None

-- the token that may be the name of a function or of a location, if a rule is broken there
abbrev pub told_name : Text → List Token → ℕ → ℕ → Option Token
told_name text tokens rule place =
    if rule == wrong_effect then called_name text tokens place
    else (if rule == wrong_sort then slice_get (tokens_behind place tokens) 1
    else (if rule == no_reference then find (λ token. token.start == place) tokens
    else None))

abbrev pub binder_or_none : Text → List Token → Option Token → Option Token
binder_or_none text tokens None = None
binder_or_none text tokens (Some name) = binder_of text tokens name

-- the token that binds that name
abbrev pub binder_at : Text → List Token → ℕ → ℕ → Option Token
binder_at text tokens rule place = binder_or_none text tokens (told_name text tokens rule place)

-- the place of a binder, if there is one
abbrev pub bound_words : Text → Option Token → List ℕ
bound_words text None = []
bound_words text (Some binder) = codes "bound here:\n" ++ placed_within text binder.start

-- the tokens of a text that is short enough; none if it has an error
abbrev pub tokens_known : Text → List Token
tokens_known text = if nat_le (length text) max_text then tokens_or_none (tokens_of text) else []

-- the binder of the function or location that an error is about, if it is a name
unfoldable pub binder_words : Text → TypeFault → List ℕ
binder_words text fault = bound_words text (binder_at text (tokens_known text) fault.rule fault.place)
