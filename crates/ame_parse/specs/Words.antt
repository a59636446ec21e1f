-- The reserved words, and which one a spelling is.
use Rattle.std.specs.Prelude.{List, [], ◌∷◌, Option, Some, None, if◌then◌else◌, codes}
use Rattle.std.specs.Str.{bytes_eq}
use Rattle.ame_lex.specs.Bytes.{Text}
use Rattle.ame_parse.specs.declared.words.Word.{Word}
use Rattle.ame_parse.specs.declared.words.Word.TheVariants as w

-- each reserved word with its spelling
abbrev pub words : List (Text × Word)
words =
    (codes "unit", w.Unit) ∷ (codes "true", w.True) ∷ (codes "false", w.False) ∷ (codes "yield", w.Yield)
    ∷ (codes "fn", w.Fn) ∷ (codes "rec", w.Rec) ∷ (codes "app", w.App) ∷ (codes "let", w.Let) ∷ (codes "do", w.Do)
    ∷ (codes "if", w.If) ∷ (codes "not", w.Not) ∷ (codes "ref", w.Ref) ∷ (codes "get", w.Get) ∷ (codes "set", w.Set)
    ∷ (codes "async", w.Async) ∷ (codes "blockUntil", w.BlockUntil) ∷ (codes "unprotected", w.Unprotected)
    ∷ (codes "print", w.Print) ∷ (codes "call", w.Call) ∷ (codes "peek", w.Peek) ∷ (codes "pair", w.Pair)
    ∷ (codes "fst", w.Fst) ∷ (codes "snd", w.Snd)
    ∷ (codes "Unit", w.UnitType) ∷ (codes "Bool", w.BoolType) ∷ (codes "Int", w.IntType) ∷ (codes "Ref", w.RefType)
    ∷ (codes "Fun", w.FunType) ∷ (codes "Pair", w.PairType) ∷ []

-- the word of the first entry with this spelling
abbrev pub find_in : List (Text × Word) → Text → Option Word
find_in [] spelling = None
find_in (entry ∷ rest) spelling = if bytes_eq entry.0 spelling then Some entry.1 else find_in rest spelling

-- the reserved word that is spelled so
unfoldable pub word_of : Text → Option Word
word_of spelling = find_in words spelling
