-- A typed fragment after a local step.
use Rattle.std.proofs.Common.{◌≡◌, ℕ, ◌⊎◌, true, List, [], ◌∷◌, Some, refl, ap, subst, inl, inr}
use Rattle.ame_term.specs.Tree.{Typ, Val, Tree}
use Rattle.ame_term.specs.Signature.{Signature}
use Rattle.ame_term.specs.Scope.{unscoped}
use Rattle.ame_term.specs.Frame.{Frame, Side, plug_all, side_of}
use Rattle.ame_term.specs.Redex.{is_redex}
use Rattle.ame_term.specs.Act.{act_of}
use Rattle.ame_term.specs.HasType.{HasType, HasValue, HasUnary, held, location, one}
use Rattle.ame_term.specs.Maps.{at}
use Rattle.ame_term.specs.State.{State, start}
use Rattle.ame_term.specs.declared.semantics.StepKind.{StepKind}
use Rattle.ame_term.specs.declared.types.Sort.{Sort}
use Rattle.ame_term.specs.declared.types.TyNo.{TyNo}
use Rattle.ame_term.specs.declared.types.Effect.{Effect}
use Rattle.ame_term.specs.declared.types.Unary.TheVariants as unary
use Rattle.ame_laws.specs.Rules.{Reduces}
use Rattle.ame_laws.proofs.Complete.{unique}
use Rattle.ame_laws.proofs.MapLemmas.{is_at-here}
use Rattle.ame_laws.proofs.RuleEffects.{becomes_act, row_redex}
use Rattle.ame_laws.specs.Typed.StoreTyping.{StoreTyping}
use Rattle.ame_laws.specs.Typed.WellFormed.{IsWellFormedValue}
use Rattle.ame_laws.specs.Typed.Fragment.{IsFragment, IsValueOf, effect_at}
use Rattle.ame_laws.specs.Typed.TypedAct.{IsTypedAct}
use Rattle.ame_laws.specs.Typed.LocalRun.{LocalStep, HasReduction, ClosesAtValue}
use Rattle.ame_laws.proofs.Typed.FrameTypes.{placed}
use Rattle.ame_laws.proofs.Typed.FragmentLemmas.{same_cell, held_fragment, unit_fragment, int_fragment}

module _ (signature : Signature) (cells : StoreTyping) where
  pub local_redex : (side : Side) (redex part : Tree) → LocalStep signature cells side redex part → is_redex redex ≡ true
  local_redex _ _ _ (LocalStep.becomes side redex part row) = row_redex (start part) side StepKind.Local redex part (start part) (Reduces.pure side redex part row)
  local_redex _ _ _ _ = refl

  made_type : (q : Effect) (sort : Sort) (number : TyNo) (v : Val) (content t : Typ) → HasType signature cells unscoped q (Tree.One (unary.Ref sort number) (Tree.Held v)) t → HasValue signature cells v content
      → t ≡ Typ.Ref sort content
  made_type q sort number v content _ (one {t = p} (HasUnary.reference m) (held a)) b =
      ap (Typ.Ref sort) (unique signature cells (held {g = unscoped} {q = Effect.Protected} a) (held b))

  fetched : (q : Effect) (l : ℕ) (v : Val) (sort sort' : Sort) (content t : Typ) → cells l ≡ Some (sort', t) → cells l ≡ Some (sort, content) → IsValueOf signature cells v content
      → IsFragment signature cells q (Tree.Held v) t
  fetched q l v sort sort' content t is also value =
      held_fragment signature cells q v t content (ap (λ (c : Sort × Typ). c.1) (same_cell (sort', t) (sort, content) (cells l) is also)) value

  -- what takes the redex's place has its type
  local_typed : (side : Side) (redex part : Tree) → LocalStep signature cells side redex part → (q : Effect) (t : Typ) → IsFragment signature cells q redex t → IsTypedAct signature cells q t (act_of redex)
      → IsFragment signature cells q part t
  unfolding act_of IsWellFormedValue
  local_typed _ _ _ (LocalStep.becomes side redex part row) q t r a = subst (IsTypedAct signature cells q t) (becomes_act redex part row) a
  local_typed _ _ _ (LocalStep.allocated side sort number v l content is value) q t r a =
      held_fragment signature cells q (Val.Loc l) t (Typ.Ref sort content) (made_type q sort number v content t r.0 value.0) (location is, tt)
  local_typed _ _ _ (LocalStep.read side l v sort content is value) q t r a = fetched q l v sort a.0 content t a.1 is value
  local_typed _ _ _ (LocalStep.peeked l v sort content is value) q t r a = fetched q l v sort Sort.Protected content t a.0 is value
  local_typed _ _ _ (LocalStep.written side l v) q t r a = unit_fragment signature cells q t a.5
  local_typed _ _ _ (LocalStep.spawned side body) q t r a = unit_fragment signature cells q t a.1
  local_typed _ _ _ (LocalStep.printed side n) q t r a = unit_fragment signature cells q t a
  local_typed _ _ _ LocalStep.passed q t r a = unit_fragment signature cells q t a.1
  local_typed _ _ _ (LocalStep.answered device n answer) q t r a = int_fragment signature cells q t answer a.2
  local_typed _ _ _ (LocalStep.closed v) q t r a = held_fragment signature cells q v t t refl a.0

  pub local_step : (q : Effect) (frames : List Frame) (redex part : Tree) (t : Typ) → IsFragment signature cells q (plug_all frames redex) t → LocalStep signature cells (side_of frames) redex part
      → IsFragment signature cells q (plug_all frames part) t
  local_step q frames redex part t typed step =
      let p = placed signature cells q frames redex t typed in
      let redex_is = local_redex (side_of frames) redex part step in
      p.refilled cells (λ l cell is. is) part (local_typed (side_of frames) redex part step (effect_at (side_of frames) q) p.part_type p.part_typed (p.act_typed redex_is))

  -- A local step is a reduction in a state that has what it is fed.

  storing : ℕ → Val → State
  storing l v = record (start (Tree.Held Val.Unit)) { store = (l, v) ∷ [] }

  stored_there : (l : ℕ) (v : Val) → at (storing l v).store l ≡ Some v
  unfolding storing
  stored_there l v = rw (is_at-here l)

  pub local_reduces : (side : Side) (redex part : Tree) → LocalStep signature cells side redex part → ClosesAtValue side redex part ⊎ HasReduction side redex part
  local_reduces _ _ _ (LocalStep.becomes side redex part row) = inr (start part, StepKind.Local, start part, Reduces.pure side redex part row)
  local_reduces _ _ _ (LocalStep.allocated side sort number v l content is value) =
      inr (start (Tree.Held v), StepKind.Alloc (record { 0 = l }), _, Reduces.allocation side (record { 0 = l }) sort number v refl)
  local_reduces _ _ _ (LocalStep.read side l v sort content is value) =
      inr (storing l v, StepKind.Read, storing l v, Reduces.reading side l v (stored_there l v))
  local_reduces _ _ _ (LocalStep.peeked l v sort content is value) = inr (storing l v, StepKind.Peek, storing l v, Reduces.peeking l v (stored_there l v))
  local_reduces _ _ _ (LocalStep.written side l v) = inr (start (Tree.Held v), StepKind.Write, _, Reduces.writing side l v)
  local_reduces _ _ _ (LocalStep.spawned side body) = inr (start body, StepKind.Spawn, _, Reduces.spawning side body)
  local_reduces _ _ _ (LocalStep.printed side n) = inr (start (Tree.Held Val.Unit), StepKind.Print, _, Reduces.printing side n)
  local_reduces _ _ _ LocalStep.passed = inr (start (Tree.Held Val.Unit), StepKind.Block, start (Tree.Held Val.Unit), Reduces.passing)
  local_reduces _ _ _ (LocalStep.answered device n answer) =
      inr (start (Tree.Held Val.Unit), StepKind.Device answer, start (Tree.Held Val.Unit), Reduces.answering device n answer)
  local_reduces _ _ _ (LocalStep.closed v) = inl (v, refl, refl, refl)
