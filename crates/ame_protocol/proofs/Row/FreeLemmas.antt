-- Unprotected code meets live cells alone.
use Rattle.std.proofs.Common.{◌≡◌, ℕ, Some, refl, ◌∙◌}
use Rattle.ame_term.specs.Tree.{Typ, Val}
use Rattle.ame_term.specs.Signature.{Signature}
use Rattle.ame_term.specs.Frame.{Side}
use Rattle.ame_term.specs.Act.{Act}
use Rattle.ame_term.specs.HasType.{code_of}
use Rattle.ame_term.specs.declared.types.Effect.{Effect}
use Rattle.ame_term.specs.declared.types.Sort.{Sort}
use Rattle.ame_laws.specs.Typed.StoreTyping.{StoreTyping}
use Rattle.ame_laws.specs.Typed.TypedState.{IsStored}
use Rattle.ame_machine.specs.Run.Local.{LocalState}
use Rattle.ame_machine.specs.Run.Fit.{IsTypedPlace}
use Rattle.ame_protocol.specs.Row.Heap.{Heap, cell_at}
use Rattle.ame_protocol.specs.Row.TypedHeap.{IsTypedHeap}
use Rattle.ame_protocol.specs.Row.Scoped.{live_types}
use Rattle.ame_protocol.specs.Row.SeatRun.{IsAtAct}
use Rattle.ame_protocol.specs.Row.Free.{MeetsLive}
use Rattle.ame_protocol.proofs.Row.ReachLemmas.{where-of, where-within, stored-grown}
use Rattle.ame_protocol.proofs.Row.TypedRunLemmas.{act-typed, typed-cell}

unprotected_sort : (sort : Sort) → code_of sort ≡ Effect.Unprotected → sort ≡ Sort.Unprotected
unprotected_sort Sort.Protected e = cc
unprotected_sort Sort.Unprotected e = refl

module _ (signature : Signature) (types : StoreTyping) (heap : Heap) (typed : IsTypedHeap signature types heap) (p : LocalState) (place : IsTypedPlace signature (live_types heap types) Typ.Unit p) where
  met : (l : ℕ) (sort wanted : Sort) (content : Typ) → live_types heap types l ≡ Some (sort, content) → sort ≡ wanted → MeetsLive heap l wanted
  met l sort wanted content e is =
      let w = where-of (λ m. (cell_at heap m).live) types l (sort, content) e in
      let c = typed-cell signature types heap typed l sort content w.1 in
      record { there = c.0; live = w.0; sort = c.1 ∙ is }

  pub read-live : (l : ℕ) → IsAtAct Side.Unprotected (Act.Reads l) p → MeetsLive heap l Sort.Unprotected
  read-live l at_it =
      let act = act-typed signature (live_types heap types) Side.Unprotected (Act.Reads l) p at_it place in
      met l act.1.0 Sort.Unprotected act.0 act.1.1 (unprotected_sort act.1.0 act.1.2)

  pub peek-live : (l : ℕ) → IsAtAct Side.Unprotected (Act.Peeks l) p → MeetsLive heap l Sort.Protected
  peek-live l at_it =
      let act = act-typed signature (live_types heap types) Side.Unprotected (Act.Peeks l) p at_it place in
      met l Sort.Protected Sort.Protected act.0 act.1.0 refl

  pub write-live : (l : ℕ) (v : Val) → IsAtAct Side.Unprotected (Act.Writes l v) p → MeetsLive heap l Sort.Unprotected
  write-live l v at_it =
      let act = act-typed signature (live_types heap types) Side.Unprotected (Act.Writes l v) p at_it place in
      met l act.1.0 Sort.Unprotected act.1.1 act.1.2 (unprotected_sort act.1.0 act.1.4)

  pub write-stored : (l : ℕ) (v : Val) → IsAtAct Side.Unprotected (Act.Writes l v) p → IsStored signature types l v
  write-stored l v at_it =
      let act = act-typed signature (live_types heap types) Side.Unprotected (Act.Writes l v) p at_it place in
      stored-grown signature (live_types heap types) types (where-within (λ m. (cell_at heap m).live) types) l v ((act.1.0, act.1.1), act.1.2, act.1.3)
