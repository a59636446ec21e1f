-- The program of a list of tokens, computed: what is read, or the first fault.
use Rattle.std.specs.Prelude.{ℕ, zero, suc, if◌then◌else◌, true, false, List, [], ◌∷◌, ◌++◌, Option, Some, None, Ok, Err}
use Rattle.ame_term.specs.declared.types.Unary.TheVariants as unary
use Rattle.ame_term.specs.declared.types.Binary.{Binary}
use Rattle.ame_term.specs.Tree.{Typ, Val, Tree, unit_tree}
use Rattle.ame_parse.specs.declared.words.Word.{Word}
use Rattle.ame_parse.specs.declared.words.Word.TheVariants as w
use Rattle.ame_parse.specs.declared.ahead.Ahead.{Ahead}
use Rattle.ame_parse.specs.declared.ahead.Ahead.TheVariants as a
use Rattle.ame_parse.specs.declared.fault.Want.TheVariants as want
use Rattle.ame_parse.specs.declared.fault.ParseFault.TheVariants.{UnknownName, TooNested}
use Rattle.ame_parse.specs.declared.forms.Opener.{Opener}
use Rattle.ame_parse.specs.declared.forms.Opener.TheVariants as opener
use Rattle.ame_parse.specs.Forms.{opener_of, row}
use Rattle.ame_parse.specs.Input.{Parser, ◌>>=◌, ◌>>◌, pure, expected, peek, place, advance, mark, closing, sees_closing, name, binds_name, bind_name, unbind, tokens_left, finish}
use Rattle.ame_parse.specs.Letters.{numbered_sort, effect_word, device}
use Rattle.ame_parse.specs.Types.{ty, param}

-- ---- the forms, over parsers of their terms, parameters and types

module _ (part : Parser Tree) where
  -- one part, and the tree over it
  unfoldable pub alone : (Tree → Tree) → Parser Tree
  alone build = do
    x ← part
    closing
    pure (build x)

  -- the sort of the reference stands before the part
  unfoldable pub reference : Parser Tree
  reference = do
    which ← numbered_sort
    alone (Tree.One (unary.Ref which.0 which.1))

  -- the number of the device stands before the part
  unfoldable pub call : Parser Tree
  call = do
    which ← device
    alone (Tree.One (unary.Call which))

  -- a part in which a name is bound, and the parenthesis that closes the form
  unfoldable pub scoped : ℕ → Parser Tree
  scoped x = do
    bind_name x
    whole ← part
    closing
    unbind
    pure whole

  -- two parts
  unfoldable pub two : Binary → Parser Tree
  two op = do
    first ← part
    second ← part
    closing
    pure (Tree.Two op first second)

  -- a test and two parts
  unfoldable pub choice : Parser Tree
  choice = do
    test ← part
    then_part ← part
    else_part ← part
    closing
    pure (Tree.If test then_part else_part)

  -- a name, and what it stands for in the part after
  unfoldable pub binding : Parser Tree
  binding = do
    x ← name
    bound ← part
    bind_name x
    body ← part
    closing
    unbind
    pure (Tree.Let x bound body)

  -- The parts up to the closing parenthesis, after those that were found. Each takes a token, so the count of tokens is enough.
  unfoldable pub more_from : ℕ → List Tree → Parser (List Tree)
  more_from zero found = expected want.Term
  more_from (suc n) found = do
    ends ← sees_closing
    if ends then pure found else (do x ← part; more_from n (found ++ x ∷ []))

  -- the same, with the count of tokens that are left
  unfoldable pub more : List Tree → Parser (List Tree)
  more found = λ i. more_from (tokens_left i) found i

  -- the first two parts of a `do` form
  unfoldable pub first_two : Parser (List Tree)
  first_two = do
    first ← part
    second ← part
    pure (first ∷ second ∷ [])

  -- two parts or more
  unfoldable pub sequence : Parser Tree
  sequence = do
    first ← first_two
    parts ← more first
    closing
    pure (Tree.Do (row parts))

  module _ (parameter : Parser (ℕ × Typ)) where
    -- a function without an own name
    unfoldable pub function : Parser Tree
    function = do
      under ← effect_word
      p ← parameter
      bind_name p.0
      body ← part
      closing
      unbind
      pure (Tree.Lambda (record { effect = under; own = None; param = p.0; param_type = p.1 }) body)

    module _ (type : Parser Typ) where
      -- a function that may call itself by its own name
      unfoldable pub recursive : Parser Tree
      recursive = do
        under ← effect_word
        own ← name
        p ← parameter
        gives ← type
        bind_name own
        bind_name p.0
        body ← part
        closing
        unbind
        unbind
        pure (Tree.Lambda (record { effect = under; own = Some (record { name = own; result = gives }); param = p.0; param_type = p.1 }) body)

      -- what goes on after the word or the symbol
      abbrev pub form_by : Option Opener → Parser Tree
      form_by (Some (opener.One op)) = advance >> alone (Tree.One op)
      form_by (Some opener.Ref) = advance >> reference
      form_by (Some opener.Call) = advance >> call
      form_by (Some (opener.Two op)) = advance >> two op
      form_by (Some opener.Async) = advance >> alone Tree.Async
      form_by (Some opener.Unprotected) = advance >> alone Tree.Unprotected
      form_by (Some opener.If) = advance >> choice
      form_by (Some opener.Let) = advance >> binding
      form_by (Some opener.Do) = advance >> sequence
      form_by (Some opener.Fn) = advance >> function
      form_by (Some opener.Rec) = advance >> recursive
      form_by None = expected want.Form

      -- after the opening parenthesis
      unfoldable pub compound : Parser Tree
      compound = peek >>= (λ next. form_by (opener_of next))

-- ---- terms

-- a name that is bound
unfoldable pub variable : Parser Tree
variable = λ i. (name >>= (λ x j. if binds_name x j then Ok (Tree.Var x, j) else Err (UnknownName (place i)))) i

-- two nodes at one place
unfoldable pub yielding : Parser Tree
yielding = mark >> advance >> pure (Tree.Unprotected unit_tree)

-- a constant, or a short form, by its word
unfoldable pub constant : Word → Parser Tree
constant w.Unit = advance >> pure unit_tree
constant w.True = advance >> pure (Tree.Held (Val.Bool true))
constant w.False = advance >> pure (Tree.Held (Val.Bool false))
constant w.Yield = yielding
constant _ = expected want.Term

-- a term of one token
abbrev pub atom_by : Ahead → Parser Tree
atom_by (a.Number value) = advance >> pure (Tree.Held (Val.Int value))
atom_by (a.Reserved word) = constant word
atom_by a.Name = variable
atom_by _ = expected want.Term

-- a term of one token, by what comes next
unfoldable pub atom : Parser Tree
atom = peek >>= atom_by

-- a term, if `form` reads one that begins with a parenthesis
abbrev pub term_by : Parser Tree → Ahead → Parser Tree
term_by form a.Opening = form
term_by form _ = atom

-- the place of the term, and the term
abbrev pub term_of : Parser Tree → Parser Tree
term_of form = mark >> peek >>= term_by form

-- a form, if at most n parentheses may be open in it
unfoldable pub nested : ℕ → Parser Tree
nested zero = λ i. Err (TooNested (place i))
nested (suc n) = advance >> compound (term_of (nested n)) (param n) (ty n)

-- a term, if at most n parentheses may be open in it
unfoldable pub term : ℕ → Parser Tree
term n = term_of (nested n)

-- ---- programs

-- how many parentheses may be open
abbrev pub max_open : ℕ
max_open = 200

-- a term, and nothing after it
unfoldable pub program : Parser Tree
program = do
  tree ← term max_open
  finish
  pure tree
