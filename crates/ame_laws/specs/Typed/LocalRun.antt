-- A fragment's own run, without a store. What a read is fed need not be what any store held at that
-- time, but it is of the location's type.
use Rattle.std.specs.Prelude.{◌≡◌, ℕ, ℤ, List, true, Some}
use Rattle.ame_term.specs.Tree.{Typ, Val, Tree}
use Rattle.ame_term.specs.Signature.{Signature}
use Rattle.ame_term.specs.Frame.{Frame, Side, plug_all, side_of}
use Rattle.ame_term.specs.State.{State}
use Rattle.ame_term.specs.declared.semantics.StepKind.{StepKind}
use Rattle.ame_term.specs.declared.types.Sort.{Sort}
use Rattle.ame_term.specs.declared.types.TyNo.{TyNo}
use Rattle.ame_term.specs.declared.types.Unary.TheVariants as unary
use Rattle.ame_term.specs.declared.types.Binary.TheVariants as binary
use Rattle.ame_laws.specs.Rules.{Becomes, Reduces}
use Rattle.ame_laws.specs.Typed.StoreTyping.{StoreTyping}
use Rattle.ame_laws.specs.Typed.Fragment.{IsValueOf}

-- The part that takes a redex's place, on a side of `unprotected`. A read is fed a value of the location's
-- type, an allocation a location of the sort and the type that it makes, a device's call any answer.
-- `peek` and devices need the one side; `blockUntil`, and a form that closes, the other.
pub data LocalStep (signature : Signature) (cells : StoreTyping) : Side → Tree → Tree → Type 0 where
  becomes : (side : Side) (redex part : Tree) → Becomes redex part → LocalStep signature cells side redex part
  allocated : (side : Side) (sort : Sort) (number : TyNo) (v : Val) (l : ℕ) (content : Typ) → cells l ≡ Some (sort, content) → IsValueOf signature cells v content
      → LocalStep signature cells side (Tree.One (unary.Ref sort number) (Tree.Held v)) (Tree.Held (Val.Loc l))
  read : (side : Side) (l : ℕ) (v : Val) (sort : Sort) (content : Typ) → cells l ≡ Some (sort, content) → IsValueOf signature cells v content
      → LocalStep signature cells side (Tree.One unary.Get (Tree.Held (Val.Loc l))) (Tree.Held v)
  peeked : (l : ℕ) (v : Val) (sort : Sort) (content : Typ) → cells l ≡ Some (sort, content) → IsValueOf signature cells v content
      → LocalStep signature cells Side.Unprotected (Tree.One unary.Peek (Tree.Held (Val.Loc l))) (Tree.Held v)
  written : (side : Side) (l : ℕ) (v : Val) → LocalStep signature cells side (Tree.Two binary.Set (Tree.Held (Val.Loc l)) (Tree.Held v)) (Tree.Held Val.Unit)
  spawned : (side : Side) (body : Tree) → LocalStep signature cells side (Tree.Async body) (Tree.Held Val.Unit)
  printed : (side : Side) (n : ℤ) → LocalStep signature cells side (Tree.One unary.Print (Tree.Held (Val.Int n))) (Tree.Held Val.Unit)
  passed : LocalStep signature cells Side.Protected (Tree.One unary.Block (Tree.Held (Val.Bool true))) (Tree.Held Val.Unit)
  answered : (device : ℕ) (n answer : ℤ)
      → LocalStep signature cells Side.Unprotected (Tree.One (unary.Call device) (Tree.Held (Val.Int n))) (Tree.Held (Val.Int answer))
  closed : (v : Val) → LocalStep signature cells Side.Protected (Tree.Unprotected (Tree.Held v)) (Tree.Held v)

-- steps that lead from one term to another, each in the frames of its redex
pub data LocalRun (signature : Signature) (cells : StoreTyping) : Tree → Tree → Type 0 where
  done : (term : Tree) → LocalRun signature cells term term
  step : (frames : List Frame) (redex part last : Tree) → LocalStep signature cells (side_of frames) redex part
      → LocalRun signature cells (plug_all frames part) last → LocalRun signature cells (plug_all frames redex) last

-- in some state a rule rewrites the redex so
abbrev pub HasReduction : Side → Tree → Tree → Type 0
HasReduction side redex part = (s : State) × (kind : StepKind) × (t : State) × Reduces s side kind redex part t

-- an `unprotected` form with a value in it, in protected code, and the value
abbrev pub ClosesAtValue : Side → Tree → Tree → Type 0
ClosesAtValue side redex part = (v : Val) × (side ≡ Side.Protected) × (redex ≡ Tree.Unprotected (Tree.Held v)) × (part ≡ Tree.Held v)
