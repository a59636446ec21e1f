-- Types, and the parameters of functions.
use Rattle.std.specs.Prelude.{ℕ, zero, suc, ◌-◌, Err}
use Rattle.ame_term.specs.Tree.{Typ}
use Rattle.ame_parse.specs.declared.words.Word.{Word}
use Rattle.ame_parse.specs.declared.words.Word.TheVariants as w
use Rattle.ame_parse.specs.declared.ahead.Ahead.{Ahead}
use Rattle.ame_parse.specs.declared.ahead.Ahead.TheVariants as a
use Rattle.ame_parse.specs.declared.fault.Want.TheVariants as want
use Rattle.ame_parse.specs.declared.fault.ParseFault.TheVariants.{TooNested}
use Rattle.ame_parse.specs.Input.{Parser, ◌>>=◌, ◌>>◌, pure, expected, peek, place, advance, closing, opening, name}
use Rattle.ame_parse.specs.Letters.{sort, effect_word}

-- ---- the types with parentheses, over a parser of their parts

module _ (part : Parser Typ) where
  unfoldable pub reference : Parser Typ
  reference = do
    which ← sort
    content ← part
    closing
    pure (Typ.Ref which content)

  unfoldable pub function : Parser Typ
  function = do
    under ← effect_word
    param ← part
    gives ← part
    closing
    pure (Typ.Fun under param gives)

  unfoldable pub pair : Parser Typ
  pair = do
    first ← part
    second ← part
    closing
    pure (Typ.Pair first second)

  abbrev pub compound_by_word : Word → Parser Typ
  compound_by_word w.RefType = advance >> reference
  compound_by_word w.FunType = advance >> function
  compound_by_word w.PairType = advance >> pair
  compound_by_word _ = expected want.Ty

  abbrev pub compound_by : Ahead → Parser Typ
  compound_by (a.Reserved word) = compound_by_word word
  compound_by _ = expected want.Ty

  -- after the opening parenthesis
  unfoldable pub compound : Parser Typ
  compound = peek >>= compound_by

-- a type of one word
abbrev pub simple : Word → Parser Typ
simple w.UnitType = advance >> pure Typ.Unit
simple w.BoolType = advance >> pure Typ.Bool
simple w.IntType = advance >> pure Typ.Int
simple _ = expected want.Ty

-- a type, if `form` reads one that begins with a parenthesis
abbrev pub ty_by : Parser Typ → Ahead → Parser Typ
ty_by form a.Opening = form
ty_by form (a.Reserved word) = simple word
ty_by form _ = expected want.Ty

abbrev pub ty_of : Parser Typ → Parser Typ
ty_of form = peek >>= ty_by form

-- a type with parentheses, if at most n may be open in it
unfoldable pub nested : ℕ → Parser Typ
nested zero = λ i. Err (TooNested (place i))
nested (suc n) = advance >> compound (ty_of (nested n))

-- a type, if at most n parentheses may be open in it
unfoldable pub ty : ℕ → Parser Typ
ty n = ty_of (nested n)

-- the name and the type of a parameter, if at most n parentheses may be open in it
unfoldable pub param : ℕ → Parser (ℕ × Typ)
param n = do
  opening n
  x ← name
  type ← ty (n - 1)
  closing
  pure (x, type)
