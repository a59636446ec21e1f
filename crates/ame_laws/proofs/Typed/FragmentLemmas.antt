-- Values as typed fragments, and what a location has.
use Rattle.std.proofs.Common.{◌≡◌, Option, Some, sym, subst, ◌∙◌, ℤ}
use Rattle.ame_term.specs.Tree.{Typ, Val, Tree, unit_tree}
use Rattle.ame_term.specs.Signature.{Signature}
use Rattle.ame_term.specs.Scope.{unscoped}
use Rattle.ame_term.specs.HasType.{HasType, held, unit, int}
use Rattle.ame_term.specs.declared.types.Sort.{Sort}
use Rattle.ame_term.specs.declared.types.Effect.{Effect}
use Rattle.ame_laws.specs.Typed.StoreTyping.{StoreTyping}
use Rattle.ame_laws.specs.Typed.WellFormed.{IsWellFormed, IsWellFormedValue}
use Rattle.ame_laws.specs.Typed.Fragment.{IsFragment, IsValueOf}

pub held_fragment : (signature : Signature) (cells : StoreTyping) (q : Effect) (v : Val) (t u : Typ) → t ≡ u → IsValueOf signature cells v u → IsFragment signature cells q (Tree.Held v) t
unfolding IsWellFormed
held_fragment signature cells q v t u e f = (subst (λ (z : Typ). HasType signature cells unscoped q (Tree.Held v) z) (sym e) (held f.0), f.1)

pub unit_fragment : (signature : Signature) (cells : StoreTyping) (q : Effect) (t : Typ) → t ≡ Typ.Unit → IsFragment signature cells q unit_tree t
unfolding IsWellFormedValue
unit_fragment signature cells q t e = held_fragment signature cells q Val.Unit t Typ.Unit e (unit, tt)

pub int_fragment : (signature : Signature) (cells : StoreTyping) (q : Effect) (t : Typ) (n : ℤ) → t ≡ Typ.Int → IsFragment signature cells q (Tree.Held (Val.Int n)) t
unfolding IsWellFormedValue
int_fragment signature cells q t n e = held_fragment signature cells q (Val.Int n) t Typ.Int e (int, tt)

pub same_cell : (c d : Sort × Typ) (o : Option (Sort × Typ)) → o ≡ Some c → o ≡ Some d → c ≡ d
same_cell c d o e f = opened c d (sym e ∙ f)
  where
    opened : (c d : Sort × Typ) → ◌≡◌ {A = Option (Sort × Typ)} (Some c) (Some d) → c ≡ d
    opened c d p = cc
