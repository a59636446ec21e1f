-- The canonical tokens of types, values and terms.
use Rattle.std.specs.Prelude.{ℕ, pos, Bool as Truth, true, false, if◌then◌else◌, List, [], ◌∷◌, ◌++◌, Some, None, decimal, codes, slice_index_or}
use Rattle.ame_lex.specs.Bytes.{Text}
use Rattle.ame_term.specs.declared.types.Sort.{Sort}
use Rattle.ame_term.specs.declared.types.Sort.TheVariants as sorts
use Rattle.ame_term.specs.declared.types.Effect.{Effect}
use Rattle.ame_term.specs.declared.types.Effect.TheVariants as effects
use Rattle.ame_term.specs.declared.types.Op.{Op}
use Rattle.ame_term.specs.declared.types.Unary.{Unary}
use Rattle.ame_term.specs.declared.types.Unary.TheVariants as unary
use Rattle.ame_term.specs.declared.types.Binary.{Binary}
use Rattle.ame_term.specs.declared.types.Binary.TheVariants as binary
use Rattle.ame_term.specs.Operators.{operator}
use Rattle.ame_term.specs.Tree.{Typ, Head, Val, Tree, Trees}
use Rattle.ame_print.specs.Layout.{Printed, open_token, close_token, word, number_token, symbol, layout}

-- parts in parentheses
abbrev pub form : List Printed → List Printed
form parts = open_token ∷ (parts ++ close_token ∷ [])

-- a sort by its letter
abbrev pub sort_token : Sort → Printed
sort_token sorts.Protected = word (codes "p")
sort_token sorts.Unprotected = word (codes "u")

-- an effect by its letter
abbrev pub effect_token : Effect → Printed
effect_token effects.Protected = word (codes "p")
effect_token effects.Unprotected = word (codes "u")
effect_token effects.Either = word (codes "a")

-- an operator by its symbol
abbrev pub op_token : Op → Printed
op_token op = symbol (operator op).symbol

-- what stands before the part of a form with one part
abbrev pub unary_tokens : Unary → List Printed
unary_tokens unary.Not = word (codes "not") ∷ []
unary_tokens (unary.Ref sort number) = word (codes "ref") ∷ sort_token sort ∷ []
unary_tokens unary.Get = word (codes "get") ∷ []
unary_tokens unary.Peek = word (codes "peek") ∷ []
unary_tokens unary.Block = word (codes "blockUntil") ∷ []
unary_tokens unary.Print = word (codes "print") ∷ []
unary_tokens (unary.Call device) = word (codes "call") ∷ number_token (pos device) ∷ []
unary_tokens unary.First = word (codes "fst") ∷ []
unary_tokens unary.Second = word (codes "snd") ∷ []

-- what stands before the parts of a form with two parts
abbrev pub binary_token : Binary → Printed
binary_token binary.App = word (codes "app")
binary_token (binary.Bin op) = op_token op
binary_token binary.Set = word (codes "set")
binary_token binary.Pair = word (codes "pair")

-- a type: a word, or a form with the types in it
unfoldable pub type_tokens : Typ → List Printed
type_tokens Typ.Unit = word (codes "Unit") ∷ []
type_tokens Typ.Bool = word (codes "Bool") ∷ []
type_tokens Typ.Int = word (codes "Int") ∷ []
type_tokens (Typ.Ref sort content) = form (word (codes "Ref") ∷ sort_token sort ∷ type_tokens content)
type_tokens (Typ.Fun effect param result) = form (word (codes "Fun") ∷ effect_token effect ∷ type_tokens param ++ type_tokens result)
type_tokens (Typ.Pair first second) = form (word (codes "Pair") ∷ type_tokens first ++ type_tokens second)

-- a name by its number; one that has no spelling is `?` and its number, which no text has
abbrev pub name_token : List Text → ℕ → Printed
name_token names x = word (slice_index_or names x (63 ∷ decimal x))

-- a location is `@` and its number, which no text has
abbrev pub location_token : ℕ → Printed
location_token l = word (64 ∷ decimal l)

-- a truth value by its word
abbrev pub truth_token : Truth → Printed
truth_token true = word (codes "true")
truth_token false = word (codes "false")

-- the parameter and its type
abbrev pub param_tokens : List Text → Head → List Printed
param_tokens names head = form (name_token names head.param ∷ type_tokens head.param_type)

-- a function, by the tokens of its body
abbrev pub function_tokens : List Text → Head → List Printed → List Printed
function_tokens names head body = elim head.own [
  | None ↦ form (word (codes "fn") ∷ effect_token head.effect ∷ param_tokens names head ++ body)
  | Some own ↦ form (word (codes "rec") ∷ effect_token head.effect ∷ name_token names own.name ∷ param_tokens names head ++ type_tokens own.result ++ body)
]

-- whether a value is unit
abbrev pub is_unit : Val → Truth
is_unit Val.Unit = true
is_unit _ = false

-- whether a term is the value unit
abbrev pub is_unit_tree : Tree → Truth
is_unit_tree (Tree.Held value) = is_unit value
is_unit_tree _ = false

unfoldable mutual
  -- a function and a pair as their forms
  pub value_tokens : List Text → Val → List Printed
  value_tokens names Val.Unit = word (codes "unit") ∷ []
  value_tokens names (Val.Bool truth) = truth_token truth ∷ []
  value_tokens names (Val.Int value) = number_token value ∷ []
  value_tokens names (Val.Loc l) = location_token l ∷ []
  value_tokens names (Val.Fun head body) = function_tokens names head (term_tokens names body)
  value_tokens names (Val.Pair first second) = form (word (codes "pair") ∷ value_tokens names first ++ value_tokens names second)

  -- a term, with these spellings for its names
  pub term_tokens : List Text → Tree → List Printed
  term_tokens names (Tree.Held value) = value_tokens names value
  term_tokens names (Tree.Var x) = name_token names x ∷ []
  term_tokens names (Tree.Lambda head body) = function_tokens names head (term_tokens names body)
  term_tokens names (Tree.Let x bound body) = form (word (codes "let") ∷ name_token names x ∷ term_tokens names bound ++ term_tokens names body)
  term_tokens names (Tree.Do parts) = form (word (codes "do") ∷ row_tokens names parts)
  term_tokens names (Tree.If test first second) = form (word (codes "if") ∷ term_tokens names test ++ term_tokens names first ++ term_tokens names second)
  term_tokens names (Tree.Async body) = form (word (codes "async") ∷ term_tokens names body)
  -- `unprotected unit` is `yield`
  term_tokens names (Tree.Unprotected part) =
      if is_unit_tree part then word (codes "yield") ∷ [] else form (word (codes "unprotected") ∷ term_tokens names part)
  term_tokens names (Tree.One op part) = form (unary_tokens op ++ term_tokens names part)
  term_tokens names (Tree.Two op left right) = form (binary_token op ∷ term_tokens names left ++ term_tokens names right)

  -- the parts of a `do` form, one after another
  pub row_tokens : List Text → Trees → List Printed
  row_tokens names Trees.None = []
  row_tokens names (Trees.More part rest) = term_tokens names part ++ row_tokens names rest

-- the canonical text of a type
abbrev pub type_text : Typ → Text
type_text type = layout true (type_tokens type)

-- the canonical text of a term, with these spellings for its names
abbrev pub term_text : List Text → Tree → Text
term_text names tree = layout true (term_tokens names tree)
