-- A machine that was fed stands on the run of its seat, and no step up to there was at a form that would become a value that is too high.
use Rattle.std.proofs.Common.{◌≡◌, ◌≢◌, ℕ, ◌+◌, ◌<◌, ◌⊎◌, inl, inr, List, [], ◌∷◌, ◌++◌, length, Option, Some, None, refl, sym, ap, ◌∙◌, subst, arith}
use Rattle.std.specs.Prelude.{ℤ}
use Rattle.ame_term.specs.Tree.{Val, Tree}
use Rattle.ame_term.specs.Act.{Act}
use Rattle.ame_term.specs.Context.{focus}
use Rattle.ame_term.specs.declared.types.Loc.{Loc}
use Rattle.ame_term.specs.declared.types.Sort.{Sort}
use Rattle.ame_term.specs.declared.types.TyNo.{TyNo}
use Rattle.ame_journal.specs.Replay.{redex_act}
use Rattle.ame_store.specs.Cells.{IsFree, IsOwnedBy}
use Rattle.ame_pool.specs.Roster.{Roster}
use Rattle.ame_rows.specs.MemoryView.{row_at}
use Rattle.ame_protocol.specs.Row.Heap.{cell_at, IsCell}
use Rattle.ame_protocol.specs.Row.SeatRun.{SeatRun}
use Rattle.ame_machine.specs.MachineView.{MachineView, running_side, IsOnRunWith, OnRun}
use Rattle.ame_machine.specs.Need.{Need, need_of}
use Rattle.ame_machine.specs.Move.{GoesLow, AdvancesWithin, fed_stage, answer_given}
use Rattle.ame_machine.specs.Run.Local.{begun_with}
use Rattle.ame_machine.specs.Comes.{HasNextAct}
use Rattle.ame_machine.proofs.NeedLemmas.{comes_as}
use Rattle.ame_machine.proofs.MoveLemmas.{on-advanced, fed-to, on-fed}
use Rattle.ame_protocol.specs.declared.types.Task.{Task}
use Rattle.ame_protocol.specs.Engine.Parts.{Parts, heap_in, task_at, term_at, working}
use Rattle.ame_protocol.specs.Engine.Events.{has_read, has_written, has_allocated}
use Rattle.ame_protocol.proofs.Engine.StepLemmas.{owned_or_not}
use Rattle.ame_protocol.proofs.Engine.MemoryEvents.{read-outside, read-own, first-run, later-run, allocation-run}
use Rattle.ame_engine.specs.AtWork.{is_free, IsOnSeat}
use Rattle.ame_shell.specs.Low.{IsLowOnSeat}
use Rattle.ame_shell.proofs.LowLemmas.{advanced-low, fed-low}

module _ (parts : Parts) (seat : ℕ) (s : MachineView) (x : IsLowOnSeat parts seat s) where
  abbrev on : IsOnSeat parts seat s
  on = x.on

  abbrev start : Tree
  start = term_at parts.pool on.attempt.tried.number

  abbrev inputs : List Val
  inputs = (row_at parts.memory.rows seat).inputs

  -- it makes steps alone
  pub advanced-on : (fuel : ℕ) (t : MachineView) → AdvancesWithin fuel s t → IsLowOnSeat parts seat t
  advanced-on fuel t a = record {
    on = record {
      attempt = on.attempt;
      has = on.has;
      side = a.advances.inside ∙ on.side;
      run = on-advanced start inputs a.made s t on.run a.advances;
      since = let e = on.since in let x = a.advances.steps in let y = a.advances.since in omega arith;
    };
    low = advanced-low start inputs fuel s t on.run x.low a;
  }

  module _ (v : Val) (t : MachineView) (fed : fed_stage v s ≡ Some t) (act : Act) (next : HasNextAct s act) (unanswered : answer_given (Some act) v ≡ None)
      (calm : need_of s ≢ Need.Tall) where
    on-more : OnRun start (inputs ++ v ∷ []) t
    on-more =
        let which : redex_act (focus s.term) ≡ Some act = ap redex_act next.1 ∙ ap (λ (a : Act). Some a) next.2 in
        subst (λ (o : Option ℤ). IsOnRunWith o start (inputs ++ v ∷ []) t) (ap (λ (o : Option Act). answer_given o v) which ∙ unanswered)
        (on-fed start inputs v s t on.run fed)

    -- the tasks and the pool stay, and the seat is given one more input
    fed-on : (new : Parts) → new.tasks ≡ parts.tasks → new.pool ≡ parts.pool → (row_at new.memory.rows seat).inputs ≡ inputs ++ v ∷ [] → IsLowOnSeat new seat t
    fed-on new tasks pool more =
        let gone = fed-to v s t fed in
        let inside : t.inside ≡ s.inside = ap (λ (z : MachineView). z.inside) gone.is in
        let steps : t.steps ≡ s.steps + 1 = ap (λ (z : MachineView). z.steps) gone.is in
        let since : t.since ≡ s.since + 1 = ap (λ (z : MachineView). z.since) gone.is in
        record {
          on = record {
            attempt = on.attempt;
            has = ap (λ (ts : List Task). working (task_at ts seat)) tasks ∙ on.has;
            side = inside ∙ on.side ∙ ap (λ (ts : List Task). is_free (task_at ts seat)) (sym tasks);
            run = kept (λ from given. OnRun from given t) on-more;
            since = let e = on.since in omega (arith, e, steps, since);
          };
          low = kept (λ from given. GoesLow (running_side t) (begun_with from given) t.steps) (fed-low start inputs v s t on.run x.low calm fed);
        }
      where
        kept : (P : Tree → List Val → Type 0) → P start (inputs ++ v ∷ []) → P (term_at new.pool on.attempt.tried.number) (row_at new.memory.rows seat).inputs
        kept P p =
            subst (λ (xs : List Val). P (term_at new.pool on.attempt.tried.number) xs) (sym more)
            (subst (λ (members : Roster Tree). P (term_at members on.attempt.tried.number) (inputs ++ v ∷ [])) (sym pool) p)

  module _ (within : seat < length parts.memory.rows) (t : MachineView) where
    pub read-fed : (l : Loc) → IsCell (heap_in parts) l.0 → Need.Read l.0 ≡ need_of s → fed_stage (cell_at (heap_in parts) l.0).value s ≡ Some t
        → IsLowOnSeat (has_read seat l parts) seat t
    read-fed l is need fed =
        fed-on (cell_at (heap_in parts) l.0).value t fed (Act.Reads l.0) (comes_as s (Need.Read l.0) need) refl (λ tall. let clash : Need.Read l.0 ≡ Need.Tall = need ∙ tall in cc) (has_read seat l parts) refl refl
        (by (owned_or_not seat (cell_at (heap_in parts) l.0)))
      where
        by : IsOwnedBy seat (cell_at (heap_in parts) l.0) ⊎ (IsOwnedBy seat (cell_at (heap_in parts) l.0) → ⊥)
            → (row_at (has_read seat l parts).memory.rows seat).inputs ≡ inputs ++ (cell_at (heap_in parts) l.0).value ∷ []
        by (inl own) = ap (λ (r : SeatRun). r.inputs) (read-own parts.memory seat within l is own start)
        by (inr apart) = ap (λ (r : SeatRun). r.inputs) (read-outside parts.memory seat within l is apart start)

    pub write-fed : (l : Loc) (v : Val) → IsCell (heap_in parts) l.0 → IsFree (cell_at (heap_in parts) l.0) ⊎ IsOwnedBy seat (cell_at (heap_in parts) l.0)
        → Need.Write l.0 ≡ need_of s → fed_stage Val.Unit s ≡ Some t → IsLowOnSeat (has_written seat l v parts) seat t
    write-fed l v is owned need fed =
        fed-on Val.Unit t fed (Act.Writes l.0 (comes_as s (Need.Write l.0) need).0) (comes_as s (Need.Write l.0) need).1 refl
        (λ tall. let clash : Need.Write l.0 ≡ Need.Tall = need ∙ tall in cc) (has_written seat l v parts) refl refl (by owned)
      where
        by : IsFree (cell_at (heap_in parts) l.0) ⊎ IsOwnedBy seat (cell_at (heap_in parts) l.0)
            → (row_at (has_written seat l v parts).memory.rows seat).inputs ≡ inputs ++ Val.Unit ∷ []
        by (inl free) = ap (λ (r : SeatRun). r.inputs) (first-run parts.memory seat l v within is free start)
        by (inr own) = ap (λ (r : SeatRun). r.inputs) (later-run parts.memory seat l v within is own start)

    pub alloc-fed : (sort : Sort) (ty : TyNo) (v : Val) → Need.Alloc sort ty ≡ need_of s → fed_stage (Val.Loc (length parts.memory.cells)) s ≡ Some t
        → IsLowOnSeat (has_allocated seat sort ty v parts) seat t
    alloc-fed sort ty v need fed =
        fed-on (Val.Loc (length parts.memory.cells)) t fed (Act.Allocates sort ty (comes_as s (Need.Alloc sort ty) need).0) (comes_as s (Need.Alloc sort ty) need).1 refl
        (λ tall. let clash : Need.Alloc sort ty ≡ Need.Tall = need ∙ tall in cc) (has_allocated seat sort ty v parts) refl refl
        (ap (λ (r : SeatRun). r.inputs) (allocation-run parts.memory seat sort ty v within start))
