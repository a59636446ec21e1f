-- The work of a seat meets no form that would become a value that is too high, if its steps are at none.
use Rattle.std.proofs.Common.{◌≡◌, ℕ, ◌+◌, ◌≤◌, Bool, false, [], refl, ap, ◌∙◌, arith}
use Rattle.ame_term.specs.Tree.{Val}
use Rattle.ame_term.specs.Frame.{Side}
use Rattle.ame_term.specs.Maps.{at}
use Rattle.ame_journal.specs.declared.entry.Entry.{Entry}
use Rattle.ame_journal.specs.declared.entry.EntryKind.{EntryKind}
use Rattle.ame_journal.specs.Replayed.{side_at}
use Rattle.ame_journal.proofs.ReachedLemmas.{calm-replayed}
use Rattle.ame_machine.specs.Run.Local.{LocalState, begun_with}
use Rattle.ame_machine.specs.Move.{GoesLow}
use Rattle.ame_rows.specs.MemoryView.{MemoryView}
use Rattle.ame_protocol.specs.declared.types.Attempt.{Attempt}
use Rattle.ame_protocol.specs.declared.types.Task.{Task}
use Rattle.ame_protocol.specs.Row.SeatRun.{HasUsed, AreValid}
use Rattle.ame_protocol.specs.Engine.Parts.{Parts, whole_journal, heap_in, task_at, term_at, run_in}
use Rattle.ame_protocol.specs.Engine.Simulates.{Simulates}
use Rattle.ame_protocol.specs.Visits.Visit.{StepsTo, IsVisit, free_entry}
use Rattle.ame_protocol.specs.Visits.Stops.{MayBeNoted, note_entry}
use Rattle.ame_protocol.specs.Event.EngineState.{EngineState}
use Rattle.ame_protocol.proofs.Row.ValidLemmas.{agrees}
use Rattle.ame_protocol.proofs.Engine.AccessLemmas.{runs}
use Rattle.ame_protocol.proofs.Engine.MemoryLemmas.{memory-committed}
use Rattle.ame_protocol.proofs.Engine.PoolLemmas.{found-machine}
use Rattle.ame_protocol.proofs.Visits.PlaceLemmas.{calm, term-there, on-side}
use Rattle.ame_check.specs.Entries.{MeetsTall}
use Rattle.ame_shell.specs.Low.{RowGoesLow, WorkGoesLow}
use Rattle.ame_certified.proofs.MetLemmas.{protected-met, free-met}

module _ (parts : Parts) (s : Simulates parts) (seat : ℕ) (attempt : Attempt) where
  abbrev number : ℕ
  number = attempt.tried.number

  -- protected code
  pub row-met : task_at parts.tasks seat ≡ Task.Running attempt → (n : ℕ) (p : LocalState) → HasUsed (run_in parts seat number) n p
      → AreValid (heap_in parts) seat (run_in parts seat number).reads → RowGoesLow (run_in parts seat number) n
      → (entry : Entry) → entry.number ≡ number → entry.fresh ≡ p.fresh → entry.steps ≡ n → MeetsTall s.r entry → ⊥
  row-met task n p place valid low entry its fresh count =
      let h = runs parts s seat attempt task in
      let run = run_in parts seat number in
      let there = s.stands.members number ∙ found-machine parts.pool number false h.work.busy in
      protected-met s.r entry run.start (ap (at s.r.state.members) its ∙ there) (calm-replayed parts.program (whole_journal parts) s.r s.stands.replayed).idle run.inputs n p
      place.ran (agrees (heap_in parts) seat s.r.state.store (memory-committed parts.memory) s.stands.store run.reads p valid (h.owes.given n p place)) fresh count low

  -- unprotected code
  pub visit-met : task_at parts.tasks seat ≡ Task.Free attempt → (n : ℕ) (p : LocalState) → StepsTo parts number n p
      → (entry : Entry) → entry.number ≡ number → entry.steps ≤ n + 1 → GoesLow Side.Unprotected (begun_with (term_at parts.pool number) []) entry.steps → MeetsTall s.r entry → ⊥
  visit-met task n p ran entry its count low =
      free-met s.r entry (term_at parts.pool number) (ap (at s.r.state.members) its ∙ term-there parts s seat attempt task) (calm parts s seat attempt task).idle n p ran
      (ap (λ (k : ℕ). side_at k s.r.state) its ∙ on-side parts s seat attempt task) count low

  pub visited-met : task_at parts.tasks seat ≡ Task.Free attempt → (n : ℕ) (p : LocalState) (inside : Bool) (memory : MemoryView Val) → IsVisit parts number n p inside memory
      → GoesLow Side.Unprotected (begun_with (term_at parts.pool number) []) n → MeetsTall s.r (free_entry seat number n p) → ⊥
  visited-met task _ _ _ _ (IsVisit.stepped n p some ran) low = visit-met task n p ran (free_entry seat number n p) refl (omega arith) low
  visited-met task _ _ _ _ (IsVisit.acted n p act v made ran stands given fed) low =
      visit-met task n p ran _ refl (omega arith) low
  visited-met task _ _ _ _ (IsVisit.closed n p v ran value) low = visit-met task n p ran _ refl (omega arith) low

-- a row that is noted
module _ (s : EngineState) (h : Simulates s.parts) (seat : ℕ) where
  pub noted-met : (kind : EntryKind) (task : Task) (side : Side) (number n : ℕ) (p : LocalState) → MayBeNoted s.parts seat task side number n p
      → task_at s.parts.tasks seat ≡ task → WorkGoesLow s.parts seat task n → MeetsTall h.r (note_entry kind seat number n p) → ⊥
  noted-met kind _ _ _ _ _ (MayBeNoted.running attempt n p place valid) is low =
      row-met s.parts h seat attempt is n p place valid low (note_entry kind seat attempt.tried.number n p) refl refl refl
  noted-met kind _ _ _ _ _ (MayBeNoted.free attempt n p ran) is low =
      visit-met s.parts h seat attempt is n p ran (note_entry kind seat attempt.tried.number n p) refl (omega arith) low
