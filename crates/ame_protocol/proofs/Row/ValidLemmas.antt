-- A row whose reads are valid agrees with what is committed.
use Rattle.std.proofs.Common.{◌≡◌, ℕ, ◌⊎◌, inl, inr, List, Option, Some, None, refl, sym, ap, ◌∙◌, subst}
use Rattle.std.proofs.lemmas.List.Elements.{All-contains}
use Rattle.ame_term.specs.Tree.{Val}
use Rattle.ame_term.specs.Frame.{Side}
use Rattle.ame_term.specs.Maps.{at}
use Rattle.ame_term.specs.State.{State}
use Rattle.ame_journal.specs.declared.entry.Entry.{Entry}
use Rattle.ame_journal.specs.Replay.{or_else}
use Rattle.ame_journal.specs.Replayed.{Replayed, side_at}
use Rattle.ame_store.specs.declared.cell.Cell.{Cell}
use Rattle.ame_store.specs.Cells.{IsOwnedBy, IsFree, IsDead}
use Rattle.ame_store.specs.Changes.{released}
use Rattle.ame_rows.specs.declared.notes.ReadNote.{ReadNote}
use Rattle.ame_machine.specs.Run.Local.{LocalState}
use Rattle.ame_machine.specs.Run.AgreesWith.{AgreesWith, IsAfterRun}
use Rattle.ame_machine.specs.Run.Told.{TellsRun}
use Rattle.ame_protocol.specs.Row.Heap.{Heap, cell_at, IsLive, IsCommitted, ShowsStore}
use Rattle.ame_protocol.specs.Row.SeatRun.{SeatRun, HasUsed, IsValidNote, AreValid}
use Rattle.ame_protocol.specs.Row.Given.{IsHeld, IsLogged, IsOwnNewCell, IsGiven, IsGivenThroughout}
use Rattle.ame_protocol.specs.Row.Changed.{ReleasesAll}
use Rattle.ame_protocol.proofs.Row.CellLemmas.{each, dead-apart}

module _ (heap : Heap) (seat : ℕ) (store : List (ℕ × Val)) (c : IsCommitted heap) (shows : ShowsStore heap store) where
  seen-agrees : (reads : List ReadNote) → AreValid heap seat reads → (e : ℕ × Val) → IsLogged heap seat reads e → at store e.0 ≡ Some e.1
  seen-agrees reads valid e h = sym (shows e.0) ∙ h.given (All-contains (IsValidNote heap seat) reads h.note valid h.logged)

  made-agrees : (e : ℕ × Option Val) → IsOwnNewCell heap seat e → (at store e.0 ≡ None) × (e.1 ≡ None)
  made-agrees e h = (sym (shows e.0) ∙ c.dead e.0 h.dead, h.unset)

  pub agrees : (reads : List ReadNote) (p : LocalState) → AreValid heap seat reads → IsGiven heap seat reads p → AgreesWith store p
  agrees reads p valid h = record {
    seen = each (IsLogged heap seat reads) (λ e. at store e.0 ≡ Some e.1) (seen-agrees reads valid) p.seen h.seen;
    own = h.own;
    made = each (IsOwnNewCell heap seat) (λ e. (at store e.0 ≡ None) × (e.1 ≡ None)) made-agrees p.made h.made;
  }

-- So an entry records it.
pub told : (heap : Heap) (seat : ℕ) (run : SeatRun) (r : Replayed) (entry : Entry) (n : ℕ) (p : LocalState) → IsCommitted heap → ShowsStore heap r.state.store
    → IsGivenThroughout heap seat run → AreValid heap seat run.reads → HasUsed run n p → r.state.active ≡ None → side_at entry.number r.state ≡ Side.Protected
    → at r.state.members entry.number ≡ Some run.start → entry.fresh ≡ p.fresh → entry.answer ≡ p.answer → TellsRun r entry Side.Protected n p
told heap seat run r entry n p c shows given valid place idle stands member fresh answer = record {
  idle = idle;
  stands = stands;
  term = run.start;
  member = member;
  inputs = run.inputs;
  ran = place.ran;
  agrees = agrees heap seat r.state.store c shows run.reads p valid (given n p place);
  fresh = fresh;
  answer = answer;
}

-- after a commit
module _ (old new : Heap) (seat : ℕ) (reads : List ReadNote) (s t : State) (i : ℕ) (p : LocalState) (c : IsCommitted old) (was : ShowsStore old s.store) (h : IsGiven old seat reads p)
    (after_run : IsAfterRun s i p t) (releases : ReleasesAll seat old new) (now : ShowsStore new t.store) where
  -- a location by what the run set there
  pub settled : (l : ℕ) → ((v : Val) × IsOwnedBy seat (cell_at old l) × (cell_at new l ≡ released (cell_at old l)) × ((cell_at old l).value ≡ v) × (new.committed l ≡ Some v))
      ⊎ ((IsOwnedBy seat (cell_at old l) → ⊥) × (cell_at new l ≡ cell_at old l) × (new.committed l ≡ old.committed l))
  settled l = by (at p.sets l) refl (h.sets l)
    where
      by : (o : Option Val) → at p.sets l ≡ o → IsHeld seat (cell_at old l) o
          → ((v : Val) × IsOwnedBy seat (cell_at old l) × (cell_at new l ≡ released (cell_at old l)) × ((cell_at old l).value ≡ v) × (new.committed l ≡ Some v))
          ⊎ ((IsOwnedBy seat (cell_at old l) → ⊥) × (cell_at new l ≡ cell_at old l) × (new.committed l ≡ old.committed l))
      by None e held =
          inr (held, releases.others l held, now l ∙ after_run.stored l ∙ ap (λ (o : Option Val). or_else o (at s.store l)) e ∙ sym (was l))
      by (Some v) e held =
          inl (v, held.0, releases.own l held.0, held.1, now l ∙ after_run.stored l ∙ ap (λ (o : Option Val). or_else o (at s.store l)) e)

  pub settles : IsCommitted new
  settles = record { dead = λ l is. dead_at l is (settled l); free = λ l live free. free_at l live free (settled l) }
    where
      dead_at : (l : ℕ) → IsDead (cell_at new l)
          → ((v : Val) × IsOwnedBy seat (cell_at old l) × (cell_at new l ≡ released (cell_at old l)) × ((cell_at old l).value ≡ v) × (new.committed l ≡ Some v))
          ⊎ ((IsOwnedBy seat (cell_at old l) → ⊥) × (cell_at new l ≡ cell_at old l) × (new.committed l ≡ old.committed l)) → new.committed l ≡ None
      dead_at l is (inl x) = absurd (dead-apart (cell_at new l) is (ap (λ (z : Cell Val). z.live) x.2))
      dead_at l is (inr x) = x.2 ∙ c.dead l (subst IsDead x.1 is)

      free_at : (l : ℕ) → IsLive (cell_at new l) → IsFree (cell_at new l)
          → ((v : Val) × IsOwnedBy seat (cell_at old l) × (cell_at new l ≡ released (cell_at old l)) × ((cell_at old l).value ≡ v) × (new.committed l ≡ Some v))
          ⊎ ((IsOwnedBy seat (cell_at old l) → ⊥) × (cell_at new l ≡ cell_at old l) × (new.committed l ≡ old.committed l)) → new.committed l ≡ Some (cell_at new l).value
      free_at l live free (inl x) = x.4 ∙ ap Some (sym x.3 ∙ sym (ap (λ (z : Cell Val). z.value) x.2))
      free_at l live free (inr x) = x.2 ∙ c.free l (subst IsLive x.1 live) (subst IsFree x.1 free) ∙ ap (λ (z : Cell Val). Some z.value) (sym x.1)

  pub others-settled : (l : ℕ) → (IsOwnedBy seat (cell_at old l) → ⊥) → new.committed l ≡ old.committed l
  others-settled l apart = by (settled l)
    where
      by : ((v : Val) × IsOwnedBy seat (cell_at old l) × (cell_at new l ≡ released (cell_at old l)) × ((cell_at old l).value ≡ v) × (new.committed l ≡ Some v))
          ⊎ ((IsOwnedBy seat (cell_at old l) → ⊥) × (cell_at new l ≡ cell_at old l) × (new.committed l ≡ old.committed l)) → new.committed l ≡ old.committed l
      by (inl x) = absurd (apart x.1)
      by (inr x) = x.2
