-- Redexes that no kind of step reduces, and the others.
use Rattle.std.proofs.Common.{◌≡◌, true, false, refl}
use Rattle.ame_term.specs.Tree.{Val, Tree, Trees}
use Rattle.ame_term.specs.Act.{Act, act_of, call_act, rest_act, if_act, operator_act, set_act}
use Rattle.ame_term.specs.declared.types.Op.{Op}
use Rattle.ame_term.specs.declared.types.Unary.{Unary}
use Rattle.ame_term.specs.declared.types.Unary.TheVariants as unary
use Rattle.ame_term.specs.declared.types.Binary.{Binary}
use Rattle.ame_term.specs.declared.types.Binary.TheVariants as binary
use Rattle.ame_laws.specs.Typed.Progress.{waiting}

-- an act of another redex than `blockUntil false` and `unprotected` of a value
abbrev pub IsOther : Act → Type 0
IsOther Act.Fails = ⊥
IsOther (Act.Closes v) = ⊥
IsOther _ = Unit {0}

pub data Sorted (r : Tree) : Type 0 where
  waits : r ≡ waiting → Sorted r
  closes : (v : Val) → r ≡ Tree.Unprotected (Tree.Held v) → Sorted r
  other : IsOther (act_of r) → Sorted r

other_call : (f v : Val) → IsOther (call_act f v)
other_call (Val.Fun head body) v = tt
other_call _ v = tt

other_rest : (parts : Trees) → IsOther (rest_act parts)
other_rest Trees.None = tt
other_rest (Trees.More part Trees.None) = tt
other_rest (Trees.More part (Trees.More next rest)) = tt

other_if : (v : Val) (a b : Tree) → IsOther (if_act v a b)
other_if (Val.Bool true) a b = tt
other_if (Val.Bool false) a b = tt
other_if _ a b = tt

other_operator : (op : Op) (v w : Val) → IsOther (operator_act op v w)
other_operator op (Val.Int x) (Val.Int y) = tt
other_operator op (Val.Int x) _ = tt
other_operator op _ w = tt

other_set : (v w : Val) → IsOther (set_act v w)
other_set (Val.Loc l) w = tt
other_set _ w = tt

sorted_unary : (op : Unary) (v : Val) → Sorted (Tree.One op (Tree.Held v))
unfolding act_of
sorted_unary unary.Not (Val.Bool b) = Sorted.other tt
sorted_unary (unary.Ref sort number) v = Sorted.other tt
sorted_unary unary.Get (Val.Loc l) = Sorted.other tt
sorted_unary unary.Peek (Val.Loc l) = Sorted.other tt
sorted_unary unary.Block (Val.Bool true) = Sorted.other tt
sorted_unary unary.Block (Val.Bool false) = Sorted.waits refl
sorted_unary unary.Print (Val.Int n) = Sorted.other tt
sorted_unary (unary.Call device) (Val.Int n) = Sorted.other tt
sorted_unary unary.First (Val.Pair v w) = Sorted.other tt
sorted_unary unary.Second (Val.Pair v w) = Sorted.other tt
sorted_unary _ v = Sorted.other tt

sorted_binary : (op : Binary) (v w : Val) → Sorted (Tree.Two op (Tree.Held v) (Tree.Held w))
unfolding act_of
sorted_binary binary.App v w = Sorted.other (other_call v w)
sorted_binary (binary.Bin op) v w = Sorted.other (other_operator op v w)
sorted_binary binary.Set v w = Sorted.other (other_set v w)
sorted_binary binary.Pair v w = Sorted.other tt

pub sorted : (r : Tree) → Sorted r
unfolding act_of
sorted (Tree.Let x (Tree.Held v) body) = Sorted.other tt
sorted (Tree.Do (Trees.More (Tree.Held v) rest)) = Sorted.other (other_rest rest)
sorted (Tree.If (Tree.Held v) a b) = Sorted.other (other_if v a b)
sorted (Tree.Unprotected (Tree.Held v)) = Sorted.closes v refl
sorted (Tree.One op (Tree.Held v)) = sorted_unary op v
sorted (Tree.Two op (Tree.Held v) (Tree.Held w)) = sorted_binary op v w
sorted _ = Sorted.other tt
