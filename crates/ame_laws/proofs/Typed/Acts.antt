-- The act of a typed redex.
use Rattle.std.proofs.Common.{◌≡◌, ℕ, Bool, true, false, Option, Some, None, refl, sym, subst, arith}
use Rattle.std.proofs.lemmas.Bool.Decides.{nat_tests}
use Rattle.std.specs.Prelude.{if◌then◌else◌, ◌==◌}
use Rattle.ame_term.specs.Tree.{Typ, OwnName, Head, Val, Tree}
use Rattle.ame_term.specs.Signature.{Signature}
use Rattle.ame_term.specs.Scope.{bind, unscoped}
use Rattle.ame_term.specs.Substitute.{substitute, with_own, entered}
use Rattle.ame_term.specs.Redex.{is_redex}
use Rattle.ame_term.specs.Act.{Act, act_of, if_act, unary_act, binary_act}
use Rattle.ame_term.specs.HasType.{HasType, HasValue, HasUnary, HasBinary, held, name, function, recursive, binding, sequence, choice, async, unprotected, one, two, last, more, bool, int, location, function_value, recursive_value, pair}
use Rattle.ame_term.specs.declared.types.Effect.{Effect}
use Rattle.ame_term.specs.declared.types.Unary.{Unary}
use Rattle.ame_term.specs.declared.types.Binary.{Binary}
use Rattle.ame_term.proofs.OperatorLemmas.{IsScalar, result-is-scalar}
use Rattle.ame_laws.specs.Typed.StoreTyping.{StoreTyping}
use Rattle.ame_laws.specs.Typed.WellFormed.{IsWellFormed, IsWellFormedValue, AreWellFormed}
use Rattle.ame_laws.specs.Typed.Fragment.{IsFragment}
use Rattle.ame_laws.specs.Typed.TypedAct.{IsTypedAct}
use Rattle.ame_laws.proofs.Typed.Weaken.{Fits, within_itself, weaken}
use Rattle.ame_laws.proofs.Typed.Substituted.{shadows, substituted, put_for}
use Rattle.ame_laws.proofs.Typed.WellFormedLemmas.{formed_substituted, formed_entered}

module _ (signature : Signature) (cells : StoreTyping) where
  fitted : {q : Effect} {e : Tree} {t : Typ} → HasType signature cells unscoped q e t → (r : Effect) → Fits q r → HasType signature cells unscoped r e t
  fitted a r f = weaken signature cells cells (λ l cell e. e) a unscoped (within_itself unscoped) r f

  plain_entered : (head : Head) (body : Tree) (v : Val) (u : Typ) → head.own ≡ None → HasType signature cells (bind head.param head.param_type unscoped) head.effect body u
      → HasValue signature cells v head.param_type → HasType signature cells unscoped head.effect (entered head body v) u
  plain_entered head body v u o b a =
      subst (λ (z : Option OwnName). HasType signature cells unscoped head.effect (with_own z head.param (substitute body head.param v) (Val.Fun head body)) u) (sym o)
      (put_for signature cells head.param head.param_type v a unscoped b)

  recursive_entered : (head : Head) (own : OwnName) (body : Tree) (v : Val) → head.own ≡ Some own
      → HasType signature cells (bind head.param head.param_type (bind own.name (Typ.Fun head.effect head.param_type own.result) unscoped)) head.effect body own.result
      → HasValue signature cells v head.param_type → HasType signature cells unscoped head.effect (entered head body v) own.result
  recursive_entered head own body v o b a =
      subst (λ (z : Option OwnName). HasType signature cells unscoped head.effect (with_own z head.param (substitute body head.param v) (Val.Fun head body)) own.result) (sym o)
      (by (own.name == head.param) refl)
    where
      by : (z : Bool) → (own.name == head.param) ≡ z
          → HasType signature cells unscoped head.effect (if z then substitute body head.param v else substitute (substitute body head.param v) own.name (Val.Fun head body)) own.result
      by true is = substituted signature cells head.param head.param_type v a b unscoped (shadows own.name head.param (Typ.Fun head.effect head.param_type own.result) head.param_type unscoped (other_way own.name head.param is))
        where
          other_way : (x y : ℕ) → (x == y) ≡ true → (y == x) ≡ true
          other_way x y e = grind (arith, nat_tests)
      by false is =
          let f = Typ.Fun head.effect head.param_type own.result in
          put_for signature cells own.name f (Val.Fun head body) (recursive_value o b) unscoped (put_for signature cells head.param head.param_type v a (bind own.name f unscoped) b)

  if_typed : (v : Val) (a b : Tree) (q : Effect) (t : Typ) → HasValue signature cells v Typ.Bool → IsFragment signature cells q a t → IsFragment signature cells q b t → IsTypedAct signature cells q t (if_act v a b)
  if_typed _ a b q t (bool {b = true}) x y = x
  if_typed _ a b q t (bool {b = false}) x y = y

  unary_typed : (op : Unary) (v : Val) (q : Effect) (t u : Typ) → HasUnary signature op q t u → HasValue signature cells v t → IsWellFormedValue v → IsTypedAct signature cells q u (unary_act op v)
  unfolding IsWellFormed IsWellFormedValue
  unary_typed _ _ q _ _ HasUnary.negation (bool {b}) f = (held bool, tt)
  unary_typed _ v q t _ (HasUnary.reference m) a f = (t, refl, (a, f), m)
  unary_typed _ _ q _ u (HasUnary.get {s} k) (location e) f = (s, e, k)
  unary_typed _ _ _ _ u HasUnary.peek (location e) f = (e, refl)
  unary_typed _ _ _ _ _ HasUnary.block (bool {b = true}) f = (refl, refl)
  unary_typed _ _ _ _ _ HasUnary.block (bool {b = false}) f = (refl, refl)
  unary_typed _ _ q _ _ HasUnary.print int f = refl
  unary_typed _ _ _ _ _ (HasUnary.call k) int f = (k, refl, refl)
  unary_typed _ _ q _ _ HasUnary.first (pair h k) f = (held h, f.0)
  unary_typed _ _ q _ _ HasUnary.second (pair h k) f = (held k, f.1)

  scalar_act : (v : Val) (t : Typ) (q : Effect) → IsScalar v t → IsTypedAct signature cells q t (Act.Becomes (Tree.Held v))
  unfolding IsWellFormed IsWellFormedValue
  scalar_act _ _ q (IsScalar.bool b) = (held bool, tt)
  scalar_act _ _ q (IsScalar.int n) = (held int, tt)

  binary_typed : (op : Binary) (v w : Val) (q : Effect) (t u z : Typ) → HasBinary op q t u z → HasValue signature cells v t → HasValue signature cells w u → IsWellFormedValue v → IsWellFormedValue w
      → IsTypedAct signature cells q z (binary_act op v w)
  unfolding IsWellFormed IsWellFormedValue
  binary_typed _ _ w q _ u z (HasBinary.app fits) (function_value {head} {body} o b) a f g =
      (fitted (plain_entered head body w z o b a) q fits, formed_entered head body w f g)
  binary_typed _ _ w q _ u _ (HasBinary.app fits) (recursive_value {head} {own} {body} o b) a f g =
      (fitted (recursive_entered head own body w o b a) q fits, formed_entered head body w f g)
  binary_typed _ _ _ q _ _ _ (HasBinary.operation o) (int {n = x}) (int {n = y}) f g =
      scalar_act _ _ q (result-is-scalar o x y)
  binary_typed _ _ w q _ u _ (HasBinary.set {s} k) (location e) a f g = (s, u, e, (a, g), k, refl)
  binary_typed _ v w q t u _ HasBinary.pair a b f g = (held (pair a b), (f, g))

  pub typed_act : (r : Tree) → is_redex r ≡ true → (q : Effect) (t : Typ) → HasType signature cells unscoped q r t → IsWellFormed r → IsTypedAct signature cells q t (act_of r)
  unfolding act_of IsWellFormed AreWellFormed IsWellFormedValue
  typed_act _ e q t (name p) f = absurd (cc)
  typed_act _ e q _ (function o b) f = (held (function_value o b), f)
  typed_act _ e q _ (recursive o b) f = (held (recursive_value o b), f)
  typed_act _ e q t (binding {x} {body} {t = p} (held {v} a) b) f = (put_for signature cells x p v a unscoped b, formed_substituted x v f.0 body f.1)
  typed_act _ e q t (sequence (last h)) f = absurd f.0
  typed_act _ e q t (sequence (more (held a) (last k))) f = (k, f.1.1.0)
  typed_act _ e q t (sequence (more (held a) (more h k))) f = (sequence (more h k), (tt, f.1.1))
  typed_act _ e q t (choice {then_part} {else_part} (held {v} h) x y) f = if_typed v then_part else_part q t h (x, f.1) (y, f.2)
  typed_act _ e q _ (async a) f = ((a, f), refl)
  typed_act _ e _ t (unprotected (held a)) f = ((a, f), refl)
  typed_act _ e q t (one {op} {t = p} row (held {v} a)) f = unary_typed op v q p t row a f
  typed_act _ e q t (two {op} {t = p} {u} row (held {v} a) (held {v = w} b)) f = binary_typed op v w q p u t row a b f.0 f.1
  typed_act _ e q t h f = absurd (cc)
