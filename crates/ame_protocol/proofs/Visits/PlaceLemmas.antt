-- The place of a visit, before its last step.
use Rattle.std.proofs.Common.{◌≡◌, ℕ, zero, suc, ◌<◌, true, [], ◌∷◌, Some, IsSome, refl, sym, ap, ◌∙◌, subst}
use Rattle.std.specs.Prelude.{ℤ, unwrap_or, Option, Bool, false}
use Rattle.std.proofs.lemmas.Option.{option_and_then_some}
use Rattle.ame_term.specs.Tree.{Typ, Val, Tree}
use Rattle.ame_term.specs.Frame.{Side, side_told}
use Rattle.ame_term.specs.Context.{focus, fill}
use Rattle.ame_term.specs.Act.{Act, act_of}
use Rattle.ame_term.specs.Maps.{at}
use Rattle.ame_term.specs.State.{at_unprotected}
use Rattle.ame_term.specs.declared.types.Sort.{Sort}
use Rattle.ame_laws.proofs.MapLemmas.{each-at}
use Rattle.ame_journal.specs.Replayed.{has_such, is_inside, is_at_unprotected, side_at}
use Rattle.ame_journal.proofs.ReachedLemmas.{IsCalm, calm-replayed}
use Rattle.ame_laws.specs.Typed.StoreTyping.{StoreTyping}
use Rattle.ame_laws.specs.Typed.TypedState.{IsStored, IsMember}
use Rattle.ame_store.specs.Cells.{IsFree}
use Rattle.ame_machine.specs.Run.Local.{LocalState, begun_with, local}
use Rattle.ame_machine.specs.Run.Fit.{IsTypedPlace, IsTypedThroughout}
use Rattle.ame_machine.proofs.Run.RunLemmas.{Acts, step-is}
use Rattle.ame_machine.proofs.Run.TypedLemmas.{typed-begun}
use Rattle.ame_rows.specs.Committed.{committed}
use Rattle.ame_rows.proofs.CommittedLemmas.{live_committed}
use Rattle.ame_protocol.specs.Row.Heap.{cell_at}
use Rattle.ame_protocol.specs.Row.SeatRun.{IsAtAct}
use Rattle.ame_protocol.specs.Row.Scoped.{live_types}
use Rattle.ame_protocol.specs.Row.Free.{MeetsLive}
use Rattle.ame_protocol.proofs.Row.FreeLemmas.{read-live, peek-live, write-live}
use Rattle.ame_protocol.proofs.Row.TypedRunLemmas.{act-typed}
use Rattle.ame_protocol.specs.declared.types.Attempt.{Attempt}
use Rattle.ame_protocol.specs.declared.types.Task.{Task}
use Rattle.ame_protocol.specs.Engine.Parts.{Parts, whole_journal, heap_in, task_at, term_at}
use Rattle.ame_protocol.specs.Engine.Tasks.{Visits, MeetsTask}
use Rattle.ame_protocol.specs.Engine.Simulates.{Simulates}
use Rattle.ame_protocol.proofs.Engine.MemoryLemmas.{memory-committed, there}
use Rattle.ame_protocol.proofs.Engine.PoolLemmas.{found-machine, inside-told}
use Rattle.ame_protocol.specs.Visits.Visit.{StepsTo}

-- Unprotected code that is given nothing holds nothing

acts-stay : (p : LocalState) (side : Side) (act : Act) (part : Tree) (q : LocalState) → Acts p side act part q → side ≡ Side.Unprotected → p.inputs ≡ [] → q ≡ p
acts-stay p _ _ _ _ (Acts.becomes side term) under empty = refl
acts-stay p _ _ _ _ (Acts.spawns body) under empty = absurd (let clash : Side.Protected ≡ Side.Unprotected = under in cc)
acts-stay p _ _ _ _ (Acts.prints n) under empty = absurd (let clash : Side.Protected ≡ Side.Unprotected = under in cc)
acts-stay p _ _ _ _ Acts.passes under empty = absurd (let clash : Side.Protected ≡ Side.Unprotected = under in cc)
acts-stay p _ _ _ _ (Acts.feeds side act v inputs part q is given) under empty = absurd (let clash : v ∷ inputs ≡ [] = sym is ∙ empty in cc)

pub alone : (term : Tree) (n : ℕ) (p : LocalState) → local Side.Unprotected term [] n ≡ Some p → p ≡ begun_with p.term []
alone term zero p e = let same : begun_with term [] ≡ p = cc in sym same ∙ ap (λ (z : LocalState). begun_with z.term []) same
alone term (suc n) p e =
    option_and_then_some _ _ _ e (λ r first second.
    let x = step-is Side.Unprotected r p second in
    let was = alone term n r first in
    let same : x.behind ≡ r = acts-stay r Side.Unprotected (act_of x.redex) x.part x.behind x.acts refl (ap (λ (z : LocalState). z.inputs) was) in
    let is : p ≡ begun_with (fill r.term x.part) [] = x.is ∙ ap (λ (z : LocalState). record z { term = fill r.term x.part }) (same ∙ was) in
    is ∙ ap (λ (z : LocalState). begun_with z.term []) (sym is))

module _ (parts : Parts) (s : Simulates parts) (seat : ℕ) (attempt : Attempt) (task : task_at parts.tasks seat ≡ Task.Free attempt) where
  abbrev number : ℕ
  number = attempt.tried.number

  abbrev live : StoreTyping
  live = live_types (heap_in parts) s.types

  pub visits : Visits parts s.types seat attempt
  visits = subst (MeetsTask parts s.types seat) task (s.seats seat)

  pub calm : IsCalm s.r
  calm = calm-replayed parts.program (whole_journal parts) s.r s.stands.replayed

  pub term-there : at s.r.state.members number ≡ Some (term_at parts.pool number)
  term-there = s.stands.members number ∙ found-machine parts.pool number false visits.work.busy

  pub is-inside : is_inside s.r number ≡ true
  is-inside = s.stands.inside number ∙ inside-told parts.pool.members number ∙ ap (λ (o : Option Bool). unwrap_or o false) visits.inside

  pub is-under : is_at_unprotected number s.r.state ≡ true
  is-under = calm.standing number is-inside

  pub on-side : side_at number s.r.state ≡ Side.Unprotected
  on-side = ap side_told is-under

  pub begins-under : at_unprotected (focus (term_at parts.pool number)) ≡ true
  begins-under = sym (ap (has_such (λ term. at_unprotected (focus term))) term-there) ∙ is-under

  pub throughout : IsTypedThroughout parts.signature live Side.Unprotected (term_at parts.pool number) [] Typ.Unit
  throughout =
      typed-begun parts.signature live Side.Unprotected (term_at parts.pool number) Typ.Unit
      (each-at (IsMember parts.signature live) s.r.state.members number (term_at parts.pool number) term-there s.typed.now.members)

  pub place-typed : (n : ℕ) (p : LocalState) → StepsTo parts number n p → IsTypedPlace parts.signature live Typ.Unit p
  place-typed n p ran = throughout n p ran (ap (λ (z : LocalState). z.inputs) (alone (term_at parts.pool number) n p ran))

  -- The cells that it meets

  module _ (n : ℕ) (p : LocalState) (ran : StepsTo parts number n p) where
    pub read-met : (l : ℕ) → IsAtAct Side.Unprotected (Act.Reads l) p → MeetsLive (heap_in parts) l Sort.Unprotected
    read-met l at_it = read-live parts.signature s.types (heap_in parts) s.typed.heap p (place-typed n p ran) l at_it

    pub write-met : (l : ℕ) (v : Val) → IsAtAct Side.Unprotected (Act.Writes l v) p → MeetsLive (heap_in parts) l Sort.Unprotected
    write-met l v at_it = write-live parts.signature s.types (heap_in parts) s.typed.heap p (place-typed n p ran) l v at_it

    pub peek-met : (l : ℕ) → IsAtAct Side.Unprotected (Act.Peeks l) p → MeetsLive (heap_in parts) l Sort.Protected
    peek-met l at_it = peek-live parts.signature s.types (heap_in parts) s.typed.heap p (place-typed n p ran) l at_it

    pub call-met : (device : ℕ) (argument : ℤ) → IsAtAct Side.Unprotected (Act.Calls device argument) p → device < parts.signature.devices
    call-met device argument at_it = (act-typed parts.signature live Side.Unprotected (Act.Calls device argument) p at_it (place-typed n p ran)).1.0

-- what a cell of unprotected code has in place is committed, and so is something at a live cell of protected code

module _ (parts : Parts) (s : Simulates parts) where
  pub free-there : (l : ℕ) → MeetsLive (heap_in parts) l Sort.Unprotected → IsFree (cell_at (heap_in parts) l)
  free-there l met = s.typed.shared l met.live met.sort

  pub in-place : (l : ℕ) → MeetsLive (heap_in parts) l Sort.Unprotected → committed parts.memory l ≡ Some (cell_at (heap_in parts) l).value
  in-place l met = (memory-committed parts.memory).free l met.live (free-there l met)

  pub some-there : (l : ℕ) → MeetsLive (heap_in parts) l Sort.Protected → IsSome (committed parts.memory l)
  some-there l met = live_committed parts.memory l (cell_at (heap_in parts) l) s.consistent (there parts.memory l met.there) met.live

  -- what is committed is of its location's type
  pub committed-live : (l : ℕ) (v : Val) → committed parts.memory l ≡ Some v → IsStored parts.signature (live_types (heap_in parts) s.types) l v
  committed-live l v is = s.typed.now.stored l v (sym (s.stands.store l) ∙ is)
