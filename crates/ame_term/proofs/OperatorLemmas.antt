-- The rows of the table: symbols differ, and results have the type that is given.
use Rattle.std.proofs.Common.{◌≡◌, ℕ, ◌==◌, ℤ, Bool, true, false, if◌then◌else◌, List, [], ◌∷◌, Option, Some, None, refl, sym, ap, ◌∙◌, eqb-true}
use Rattle.ame_term.specs.Tree.{Typ, Val}
use Rattle.ame_term.specs.Operators.{operator, operators, spelled_by, operator_of}
use Rattle.ame_term.specs.declared.types.Op.{Op}
use Rattle.ame_term.specs.declared.types.Op.TheVariants as op

pub symbol-finds : (o : Op) → operator_of (operator o).symbol ≡ Some o
symbol-finds op.Add = refl
symbol-finds op.Sub = refl
symbol-finds op.Mul = refl
symbol-finds op.Less = refl
symbol-finds op.Same = refl

-- a value without parts, and its type
pub data IsScalar : Val → Typ → Type 0 where
  bool : (b : Bool) → IsScalar (Val.Bool b) Typ.Bool
  int : (n : ℤ) → IsScalar (Val.Int n) Typ.Int

pub result-is-scalar : (o : Op) (x y : ℤ) → IsScalar ((operator o).result x y) (operator o).gives
result-is-scalar op.Add x y = IsScalar.int _
result-is-scalar op.Sub x y = IsScalar.int _
result-is-scalar op.Mul x y = IsScalar.int _
result-is-scalar op.Less x y = IsScalar.bool _
result-is-scalar op.Same x y = IsScalar.bool _

spells : (byte : ℕ) (others : List Op) (o : Op) → spelled_by byte others ≡ Some o → (operator o).symbol ≡ byte
spells byte [] o e = cc
spells byte (first ∷ others) o e = by (byte == (operator first).symbol) refl e (λ found. spells byte others o found)
  where
    by : (b : Bool) → (byte == (operator first).symbol) ≡ b → (if b then Some first else spelled_by byte others) ≡ Some o
        → (spelled_by byte others ≡ Some o → (operator o).symbol ≡ byte) → (operator o).symbol ≡ byte
    by true is found go = let same : first ≡ o = cc in sym (eqb-true byte (operator first).symbol is ∙ ap (λ (z : Op). (operator z).symbol) same)
    by false is found go = go found

pub found-spells : (byte : ℕ) (o : Op) → operator_of byte ≡ Some o → (operator o).symbol ≡ byte
found-spells byte o e = spells byte operators o e
