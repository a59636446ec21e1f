-- Typing as a relation: a rule for each form says which type it has, with no order of tests, no places
-- and no faults.
use Rattle.std.specs.Prelude.{◌≡◌, ℕ, ◌<◌, Bool, ◌⊎◌, ℤ, Option, Some, None}
use Rattle.ame_term.specs.Tree.{Typ, OwnName, Head, Val, Tree, Trees}
use Rattle.ame_term.specs.Scope.{Scope, unscoped, bind}
use Rattle.ame_term.specs.Operators.{operator}
use Rattle.ame_term.specs.Signature.{Signature, MayStore}
use Rattle.ame_term.specs.declared.types.Sort.{Sort}
use Rattle.ame_term.specs.declared.types.Effect.{Effect}
use Rattle.ame_term.specs.declared.types.TyNo.{TyNo}
use Rattle.ame_term.specs.declared.types.Op.{Op}
use Rattle.ame_term.specs.declared.types.Unary.{Unary}
use Rattle.ame_term.specs.declared.types.Unary.TheVariants as unary
use Rattle.ame_term.specs.declared.types.Binary.{Binary}
use Rattle.ame_term.specs.declared.types.Binary.TheVariants as binary

-- the code to which a reference of a sort belongs
abbrev pub code_of : Sort → Effect
code_of Sort.Protected = Effect.Protected
code_of Sort.Unprotected = Effect.Unprotected

-- for a signature, a form with one part, under an effect: the part's type and the form's
pub data HasUnary (signature : Signature) : Unary → Effect → Typ → Typ → Type 0 where
  negation : {q : Effect} → HasUnary signature unary.Not q Typ.Bool Typ.Bool
  reference : {q : Effect} {s : Sort} {number : TyNo} {t : Typ} → MayStore signature.refs number.0 t → HasUnary signature (unary.Ref s number) q t (Typ.Ref s t)
  get : {q : Effect} {s : Sort} {t : Typ} → code_of s ≡ q → HasUnary signature unary.Get q (Typ.Ref s t) t
  peek : {t : Typ} → HasUnary signature unary.Peek Effect.Unprotected (Typ.Ref Sort.Protected t) t
  block : HasUnary signature unary.Block Effect.Protected Typ.Bool Typ.Unit
  print : {q : Effect} → HasUnary signature unary.Print q Typ.Int Typ.Unit
  call : {device : ℕ} → device < signature.devices → HasUnary signature (unary.Call device) Effect.Unprotected Typ.Int Typ.Int
  first : {q : Effect} {t u : Typ} → HasUnary signature unary.First q (Typ.Pair t u) t
  second : {q : Effect} {t u : Typ} → HasUnary signature unary.Second q (Typ.Pair t u) u

-- a form with two parts: their types and the form's
pub data HasBinary : Binary → Effect → Typ → Typ → Typ → Type 0 where
  app : {q r : Effect} {t u : Typ} → (r ≡ q) ⊎ (r ≡ Effect.Either) → HasBinary binary.App q (Typ.Fun r t u) t u
  operation : {q : Effect} (op : Op) → HasBinary (binary.Bin op) q Typ.Int Typ.Int (operator op).gives
  set : {q : Effect} {s : Sort} {t : Typ} → code_of s ≡ q → HasBinary binary.Set q (Typ.Ref s t) t Typ.Unit
  pair : {q : Effect} {t u : Typ} → HasBinary binary.Pair q t u (Typ.Pair t u)

-- for a signature, and cells with their sorts and content types
module _ (signature : Signature) (cells : ℕ → Option (Sort × Typ)) where
  mutual
    -- a term has a type, with these types of names, under an ambient effect
    pub data HasType : Scope → Effect → Tree → Typ → Type 0 where
      held : {g : Scope} {q : Effect} {v : Val} {t : Typ} → HasValue v t → HasType g q (Tree.Held v) t
      name : {g : Scope} {q : Effect} {x : ℕ} {t : Typ} → g x ≡ Some t → HasType g q (Tree.Var x) t
      function : {g : Scope} {q : Effect} {head : Head} {body : Tree} {u : Typ} → head.own ≡ None →
          HasType (bind head.param head.param_type g) head.effect body u →
          HasType g q (Tree.Lambda head body) (Typ.Fun head.effect head.param_type u)
      recursive : {g : Scope} {q : Effect} {head : Head} {own : OwnName} {body : Tree} → head.own ≡ Some own →
          HasType (bind head.param head.param_type (bind own.name (Typ.Fun head.effect head.param_type own.result) g)) head.effect body own.result →
          HasType g q (Tree.Lambda head body) (Typ.Fun head.effect head.param_type own.result)
      binding : {g : Scope} {q : Effect} {x : ℕ} {bound body : Tree} {t u : Typ} →
          HasType g q bound t → HasType (bind x t g) q body u → HasType g q (Tree.Let x bound body) u
      sequence : {g : Scope} {q : Effect} {parts : Trees} {t : Typ} → HasLast g q parts t → HasType g q (Tree.Do parts) t
      choice : {g : Scope} {q : Effect} {test then_part else_part : Tree} {t : Typ} →
          HasType g q test Typ.Bool → HasType g q then_part t → HasType g q else_part t → HasType g q (Tree.If test then_part else_part) t
      async : {g : Scope} {q : Effect} {e : Tree} → HasType g Effect.Protected e Typ.Unit → HasType g q (Tree.Async e) Typ.Unit
      unprotected : {g : Scope} {e : Tree} {t : Typ} →
          HasType g Effect.Unprotected e t → HasType g Effect.Protected (Tree.Unprotected e) t
      one : {g : Scope} {q : Effect} {op : Unary} {e : Tree} {t u : Typ} →
          HasUnary signature op q t u → HasType g q e t → HasType g q (Tree.One op e) u
      two : {g : Scope} {q : Effect} {op : Binary} {e f : Tree} {t u w : Typ} →
          HasBinary op q t u w → HasType g q e t → HasType g q f u → HasType g q (Tree.Two op e f) w

    -- each part but the last is Unit, and the last has a type
    pub data HasLast : Scope → Effect → Trees → Typ → Type 0 where
      last : {g : Scope} {q : Effect} {e : Tree} {t : Typ} → HasType g q e t → HasLast g q (Trees.More e Trees.None) t
      more : {g : Scope} {q : Effect} {e f : Tree} {rest : Trees} {t : Typ} →
          HasType g q e Typ.Unit → HasLast g q (Trees.More f rest) t → HasLast g q (Trees.More e (Trees.More f rest)) t

    -- a value has a type; a function is typed as its form, with no names around it
    pub data HasValue : Val → Typ → Type 0 where
      unit : HasValue Val.Unit Typ.Unit
      bool : {b : Bool} → HasValue (Val.Bool b) Typ.Bool
      int : {n : ℤ} → HasValue (Val.Int n) Typ.Int
      location : {l : ℕ} {s : Sort} {t : Typ} → cells l ≡ Some (s, t) → HasValue (Val.Loc l) (Typ.Ref s t)
      function_value : {head : Head} {body : Tree} {u : Typ} → head.own ≡ None →
          HasType (bind head.param head.param_type unscoped) head.effect body u →
          HasValue (Val.Fun head body) (Typ.Fun head.effect head.param_type u)
      recursive_value : {head : Head} {own : OwnName} {body : Tree} → head.own ≡ Some own →
          HasType (bind head.param head.param_type (bind own.name (Typ.Fun head.effect head.param_type own.result) unscoped)) head.effect body own.result →
          HasValue (Val.Fun head body) (Typ.Fun head.effect head.param_type own.result)
      pair : {a b : Val} {t u : Typ} → HasValue a t → HasValue b u → HasValue (Val.Pair a b) (Typ.Pair t u)
