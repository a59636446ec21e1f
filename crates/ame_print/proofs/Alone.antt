-- Fixed tokens stand alone.
use Rattle.std.proofs.Common.{◌≡◌, refl, sym, ap, subst, ℕ, ℤ, ◌&&◌, Bool, true, false, List, [], ◌∷◌, Option, Some, None}
use Rattle.std.specs.Prelude.{codes, decimal}
use Rattle.std.specs.List.{list_all, AllByRecursion}
use Rattle.ame_lex.specs.declared.classes.Class.{Class}
use Rattle.ame_lex.specs.declared.classes.Class.TheVariants.{Letter, Minus, Operator}
use Rattle.ame_lex.specs.declared.tokens.Kind.{Kind}
use Rattle.ame_lex.specs.declared.tokens.Kind.TheVariants as kind
use Rattle.ame_lex.specs.Bytes.{Text, class_of, is_word_byte}
use Rattle.ame_lex.specs.Grammar as lex
use Rattle.ame_term.specs.declared.types.Sort.{Sort}
use Rattle.ame_term.specs.declared.types.Sort.TheVariants as sorts
use Rattle.ame_term.specs.declared.types.Effect.{Effect}
use Rattle.ame_term.specs.declared.types.Effect.TheVariants as effects
use Rattle.ame_term.specs.declared.types.Op.{Op}
use Rattle.ame_term.specs.declared.types.Op.TheVariants as op
use Rattle.ame_term.specs.declared.types.Unary.{Unary}
use Rattle.ame_term.specs.declared.types.Binary.{Binary}
use Rattle.ame_parse.specs.declared.words.Word.{Word}
use Rattle.ame_parse.specs.declared.words.Word.TheVariants as w
use Rattle.ame_parse.specs.declared.ahead.Ahead.{Ahead}
use Rattle.ame_parse.specs.declared.ahead.Ahead.TheVariants as a
use Rattle.ame_parse.specs.Input.{Seen, Input, ahead_of_word, ahead_of, ahead_in, ahead, spelling_in, spelling, named}
use Rattle.ame_parse.specs.Input.{name_number as number_of}
use Rattle.ame_parse.specs.Names.{number_in}
use Rattle.ame_parse.specs.Words.{word_of}
use Rattle.ame_parse.specs.Grammar.{IsSort, IsEffect, IsOp, IsUnary, IsBinary}
use Rattle.ame_print.specs.Layout.{Printed, open_token, close_token, word, number_token, symbol}
use Rattle.ame_print.specs.Tokens.{sort_token, effect_token, op_token, unary_tokens, binary_token, name_token}
use Rattle.ame_print.proofs.Canon.{IsAlone, IsGood, IsFirstOf}
use Rattle.ame_print.proofs.Numbers.{ends_number}
use Rattle.ame_print.proofs.Names.{spelled_at}

-- ---- by the bytes

pub opening_alone : IsAlone open_token
unfolding class_of
opening_alone rest apart = lex.opening refl

pub closing_alone : IsAlone close_token
unfolding class_of
closing_alone rest apart = lex.closing refl

-- a letter, and then bytes of words
pub word_alone : (first : ℕ) (more : Text) → class_of first ≡ Letter → AllByRecursion (λ b. is_word_byte b ≡ true) more → IsAlone (word (first ∷ more))
word_alone first more letter pass rest apart = lex.word letter (record { split = refl; pass = pass; longest = apart refl })

operator_alone : (byte : ℕ) → class_of byte ≡ Operator → IsAlone (symbol byte)
operator_alone byte operator rest apart = lex.symbol operator

minus_alone : (byte : ℕ) → class_of byte ≡ Minus → IsAlone (symbol byte)
minus_alone byte minus rest apart = lex.minus minus (ends_number rest (apart refl))

-- ---- tokens that mean the same wherever they stand

-- the token stands alone, and is this to the grammar of terms
pub record IsFixed (token : Printed) (next : Ahead) : Type 0 where
  pub alone : IsAlone token
  pub is : ahead_of token.kind token.bytes ≡ next

pub opening_fixed : IsFixed open_token a.Opening
opening_fixed = record { alone = opening_alone; is = refl }

pub closing_fixed : IsFixed close_token a.Closing
closing_fixed = record { alone = closing_alone; is = refl }

-- ---- reserved words

abbrev is_letter : Class → Bool
is_letter Letter = true
is_letter _ = false

-- a letter, and then bytes of words
abbrev is_word_text : Text → Bool
is_word_text [] = false
is_word_text (first ∷ more) = is_letter (class_of first) && list_all is_word_byte more

letter_class : (class : Class) → is_letter class ≡ true → class ≡ Letter
letter_class Letter e = refl
letter_class _ e = absurd (cc)

both_true : (b c : Bool) → (b && c) ≡ true → (b ≡ true) × (c ≡ true)
both_true true c e = (refl, e)
both_true false c e = absurd (cc)

all_pass : (bytes : Text) → list_all is_word_byte bytes ≡ true → AllByRecursion (λ b. is_word_byte b ≡ true) bytes
all_pass [] e = tt
all_pass (b ∷ bytes) e = let h = both_true (is_word_byte b) (list_all is_word_byte bytes) e in (h.0, all_pass bytes h.1)

text_alone : (bytes : Text) → is_word_text bytes ≡ true → IsAlone (word bytes)
text_alone [] e = absurd (cc)
text_alone (first ∷ more) e =
    let h = both_true (is_letter (class_of first)) (list_all is_word_byte more) e in
    word_alone first more (letter_class (class_of first) h.0) (all_pass more h.1)

abbrev pub word_text : Word → Text
word_text w.Unit = codes "unit"
word_text w.True = codes "true"
word_text w.False = codes "false"
word_text w.Yield = codes "yield"
word_text w.Fn = codes "fn"
word_text w.Rec = codes "rec"
word_text w.App = codes "app"
word_text w.Let = codes "let"
word_text w.Do = codes "do"
word_text w.If = codes "if"
word_text w.Not = codes "not"
word_text w.Ref = codes "ref"
word_text w.Get = codes "get"
word_text w.Set = codes "set"
word_text w.Async = codes "async"
word_text w.BlockUntil = codes "blockUntil"
word_text w.Unprotected = codes "unprotected"
word_text w.Print = codes "print"
word_text w.Call = codes "call"
word_text w.Peek = codes "peek"
word_text w.Pair = codes "pair"
word_text w.Fst = codes "fst"
word_text w.Snd = codes "snd"
word_text w.UnitType = codes "Unit"
word_text w.BoolType = codes "Bool"
word_text w.IntType = codes "Int"
word_text w.RefType = codes "Ref"
word_text w.FunType = codes "Fun"
word_text w.PairType = codes "Pair"

spelled_is : (which : Word) → (is_word_text (word_text which) ≡ true) × (word_of (word_text which) ≡ Some which)
unfolding class_of word_of
spelled_is w.Unit = (refl, refl)
spelled_is _ = (refl, refl)

pub reserved : (which : Word) → IsFixed (word (word_text which)) (a.Reserved which)
reserved which = record { alone = text_alone (word_text which) (spelled_is which).0; is = ap ahead_of_word (spelled_is which).1 }

-- ---- effects, sorts and operators

effect_is : (effect : Effect) → (is_word_text (effect_token effect).bytes ≡ true) × (word_of (effect_token effect).bytes ≡ None)
unfolding class_of word_of
effect_is effects.Protected = (refl, refl)
effect_is _ = (refl, refl)

effect_word : (effect : Effect) → effect_token effect ≡ word (effect_token effect).bytes
effect_word effects.Protected = refl
effect_word _ = refl

sort_is : (sort : Sort) → (is_word_text (sort_token sort).bytes ≡ true) × (word_of (sort_token sort).bytes ≡ None)
unfolding class_of word_of
sort_is sorts.Protected = (refl, refl)
sort_is _ = (refl, refl)

sort_word : (sort : Sort) → sort_token sort ≡ word (sort_token sort).bytes
sort_word sorts.Protected = refl
sort_word _ = refl

-- a word that isn't reserved
pub free_fixed : (bytes : Text) → IsAlone (word bytes) → word_of bytes ≡ None → IsFixed (word bytes) a.Name
free_fixed bytes alone e = record { alone = alone; is = ap ahead_of_word e }

pub effect_fixed : (effect : Effect) → IsFixed (effect_token effect) a.Name
effect_fixed effect =
    subst (λ t. IsFixed t a.Name) (sym (effect_word effect)) (free_fixed (effect_token effect).bytes (text_alone (effect_token effect).bytes (effect_is effect).0) (effect_is effect).1)

pub sort_fixed : (sort : Sort) → IsFixed (sort_token sort) a.Name
sort_fixed sort =
    subst (λ t. IsFixed t a.Name) (sym (sort_word sort)) (free_fixed (sort_token sort).bytes (text_alone (sort_token sort).bytes (sort_is sort).0) (sort_is sort).1)

pub effect_read : (effect : Effect) (i : Input) → spelling i ≡ (effect_token effect).bytes → IsEffect i effect
effect_read effects.Protected i e = IsEffect.protected e
effect_read effects.Unprotected i e = IsEffect.unprotected e
effect_read effects.Either i e = IsEffect.either e

pub sort_read : (sort : Sort) (i : Input) → spelling i ≡ (sort_token sort).bytes → IsSort i sort
sort_read sorts.Protected i e = IsSort.protected e
sort_read sorts.Unprotected i e = IsSort.unprotected e

pub op_fixed : {byte : ℕ} {op : Op} → IsOp byte op → IsFixed (op_token op) (a.Symbol byte)
unfolding class_of
op_fixed (IsOp.spells op.Add) = record { alone = operator_alone 43 refl; is = refl }
op_fixed (IsOp.spells op.Sub) = record { alone = minus_alone 45 refl; is = refl }
op_fixed (IsOp.spells op.Mul) = record { alone = operator_alone 42 refl; is = refl }
op_fixed (IsOp.spells op.Less) = record { alone = operator_alone 60 refl; is = refl }
op_fixed (IsOp.spells op.Same) = record { alone = operator_alone 61 refl; is = refl }

-- ---- the words and symbols of forms with one part and with two

pub unary_word : {word_ : Word} {op : Unary} → IsUnary word_ op → word (word_text word_) ∷ [] ≡ unary_tokens op
unary_word IsUnary.negation = refl
unary_word IsUnary.get = refl
unary_word IsUnary.peek = refl
unary_word IsUnary.block_until = refl
unary_word IsUnary.print = refl
unary_word IsUnary.fst = refl
unary_word IsUnary.snd = refl

pub binary_fixed : {next : Ahead} {op : Binary} → IsBinary next op → IsFixed (binary_token op) next
binary_fixed IsBinary.app = reserved w.App
binary_fixed IsBinary.set = reserved w.Set
binary_fixed IsBinary.pair = reserved w.Pair
binary_fixed (IsBinary.operation is) = op_fixed is

-- ---- tokens that were read

number_by : (kind_ : Kind) (place : ℕ) (bytes : Text) (value : ℤ) → ahead_of kind_ bytes ≡ a.Number value → IsGood (record { place = place; kind = kind_; spelling = bytes })
    → IsAlone (number_token value)
number_by (kind.Number other) place bytes value e good = let same : other ≡ value = cc in subst (λ v. IsAlone (number_token v)) same good
number_by kind.Word place bytes value e good = absurd (no_number (word_of bytes) e)
  where
    no_number : (found : Option Word) → ahead_of_word found ≡ a.Number value → ⊥
    no_number (Some which) e = cc
    no_number None e = cc
number_by _ place bytes value e good = absurd (cc)

number_in_rest : (rest : List Seen) (value : ℤ) → ahead_in rest ≡ a.Number value → AllByRecursion IsGood rest → IsAlone (number_token value)
number_in_rest [] value e good = absurd (cc)
number_in_rest (seen ∷ rest) value e good = number_by seen.kind seen.place seen.spelling value e good.0

-- a number that comes next
pub number_fixed : (i : Input) (value : ℤ) → ahead i ≡ a.Number value → AllByRecursion IsGood i.rest → IsFixed (number_token value) (a.Number value)
unfolding ahead
number_fixed i value e good = record { alone = number_in_rest i.rest value e good; is = refl }

name_by : (kind_ : Kind) (place : ℕ) (bytes : Text) → ahead_of kind_ bytes ≡ a.Name → IsGood (record { place = place; kind = kind_; spelling = bytes })
    → IsFixed (word bytes) a.Name
name_by kind.Word place bytes e good = record { alone = good; is = e }
name_by _ place bytes e good = absurd (cc)

name_in_rest : (rest : List Seen) → ahead_in rest ≡ a.Name → AllByRecursion IsGood rest → IsFixed (word (spelling_in rest)) a.Name
name_in_rest [] e good = absurd (cc)
name_in_rest (seen ∷ rest) e good = name_by seen.kind seen.place seen.spelling e good.0

-- a name that comes next
pub word_fixed : (i : Input) → ahead i ≡ a.Name → AllByRecursion IsGood i.rest → IsFixed (word (spelling i)) a.Name
unfolding ahead spelling
word_fixed i e good = name_in_rest i.rest e good

-- the spelling of the name that comes next, by its number
pub name_is : (i : Input) (all : List Text) → IsFirstOf (named i).names all → name_token all (number_of i) ≡ word (spelling i)
unfolding named number_of
name_is i all first = ap word (spelled_at i.names (spelling i) (63 ∷ decimal (number_in i.names (spelling i))) all first)

-- the token is a name, and is spelled as the next one is
pub record IsNameToken (token : Printed) (i : Input) : Type 0 where
  pub fixed : IsFixed token a.Name
  pub bytes : token.bytes ≡ spelling i

pub name_fixed : (i : Input) (all : List Text) → ahead i ≡ a.Name → AllByRecursion IsGood i.rest → IsFirstOf (named i).names all → IsNameToken (name_token all (number_of i)) i
name_fixed i all e good first =
    let same = name_is i all first in
    record { fixed = subst (λ t. IsFixed t a.Name) (sym same) (word_fixed i e good); bytes = ap (λ t. t.bytes) same }
