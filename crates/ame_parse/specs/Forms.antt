-- The form that begins with a word or a symbol after an opening parenthesis.
use Rattle.std.specs.Prelude.{List, [], ◌∷◌, Option, Some, None}
use Rattle.std.specs.Option.{option_map}
use Rattle.ame_term.specs.declared.types.Unary.TheVariants as unary
use Rattle.ame_term.specs.declared.types.Binary.TheVariants as binary
use Rattle.ame_term.specs.Operators.{operator_of}
use Rattle.ame_term.specs.Tree.{Tree, Trees}
use Rattle.ame_parse.specs.declared.words.Word.{Word}
use Rattle.ame_parse.specs.declared.words.Word.TheVariants as w
use Rattle.ame_parse.specs.declared.ahead.Ahead.{Ahead}
use Rattle.ame_parse.specs.declared.ahead.Ahead.TheVariants as a
use Rattle.ame_parse.specs.declared.forms.Opener.{Opener}
use Rattle.ame_parse.specs.declared.forms.Opener.TheVariants as opener

-- what a word begins
abbrev pub opener_of_word : Word → Option Opener
opener_of_word w.Not = Some (opener.One unary.Not)
opener_of_word w.Get = Some (opener.One unary.Get)
opener_of_word w.Peek = Some (opener.One unary.Peek)
opener_of_word w.BlockUntil = Some (opener.One unary.Block)
opener_of_word w.Print = Some (opener.One unary.Print)
opener_of_word w.Fst = Some (opener.One unary.First)
opener_of_word w.Snd = Some (opener.One unary.Second)
opener_of_word w.Ref = Some opener.Ref
opener_of_word w.Call = Some opener.Call
opener_of_word w.App = Some (opener.Two binary.App)
opener_of_word w.Set = Some (opener.Two binary.Set)
opener_of_word w.Pair = Some (opener.Two binary.Pair)
opener_of_word w.Async = Some opener.Async
opener_of_word w.Unprotected = Some opener.Unprotected
opener_of_word w.If = Some opener.If
opener_of_word w.Let = Some opener.Let
opener_of_word w.Do = Some opener.Do
opener_of_word w.Fn = Some opener.Fn
opener_of_word w.Rec = Some opener.Rec
opener_of_word _ = None

-- what begins with this after its parenthesis
unfoldable pub opener_of : Ahead → Option Opener
opener_of (a.Reserved word) = opener_of_word word
opener_of (a.Symbol symbol) = option_map (λ op. opener.Two (binary.Bin op)) (operator_of symbol)
opener_of _ = None

-- the parts of a `do` form
abbrev pub row : List Tree → Trees
row [] = Trees.None
row (part ∷ rest) = Trees.More part (row rest)
