-- The reduct of each operator at two integers, by the table.
use Rattle.std.specs.Prelude.{◌≡◌, ℤ, int_lt, refl}
use Rattle.std.specs.Int.{w64, int_wrapping_add, int_wrapping_sub, int_wrapping_mul}
use Rattle.std.specs.Ordering.{int_eq}
use Rattle.ame_term.specs.Act.{Act, act_of}
use Rattle.ame_term.specs.Tree.{Val, Tree}
use Rattle.ame_term.specs.declared.types.Op.{Op}
use Rattle.ame_laws.specs.Rules.{operator_form}

pub sum-wraps : (x y : ℤ) → act_of (operator_form Op.Add x y) ≡ Act.Becomes (Tree.Held (Val.Int (int_wrapping_add w64 x y)))
unfolding act_of
sum-wraps x y = refl

pub difference-wraps : (x y : ℤ) → act_of (operator_form Op.Sub x y) ≡ Act.Becomes (Tree.Held (Val.Int (int_wrapping_sub w64 x y)))
unfolding act_of
difference-wraps x y = refl

pub product-wraps : (x y : ℤ) → act_of (operator_form Op.Mul x y) ≡ Act.Becomes (Tree.Held (Val.Int (int_wrapping_mul w64 x y)))
unfolding act_of
product-wraps x y = refl

pub less-compares : (x y : ℤ) → act_of (operator_form Op.Less x y) ≡ Act.Becomes (Tree.Held (Val.Bool (int_lt x y)))
unfolding act_of
less-compares x y = refl

pub same-compares : (x y : ℤ) → act_of (operator_form Op.Same x y) ≡ Act.Becomes (Tree.Held (Val.Bool (int_eq x y)))
unfolding act_of
same-compares x y = refl
