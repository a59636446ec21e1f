-- A run whose steps are at no form that would become a value that is too high has a journal that passes none.
use Rattle.std.proofs.Common.{◌≡◌, ℕ, ◌≤◌, ℤ, Bool, true, false, List, [], ◌∷◌, ◌++◌, Some, if◌then◌else◌, append-nil, append_assoc, refl, sym, ap, ◌∙◌, subst}
use Rattle.ame_term.specs.Tree.{Tree}
use Rattle.ame_term.specs.Signature.{Signature}
use Rattle.ame_journal.specs.declared.entry.Entry.{Entry}
use Rattle.ame_journal.specs.declared.entry.EntryKind.{EntryKind}
use Rattle.ame_journal.specs.Replay.{replay}
use Rattle.ame_machine.specs.Sound.{IsAccepted}
use Rattle.ame_rows.specs.LettingGo.{undone_last}
use Rattle.ame_protocol.specs.declared.types.Attempt.{Attempt}
use Rattle.ame_protocol.specs.declared.types.Limits.{Limits}
use Rattle.ame_protocol.specs.declared.types.Task.{Task}
use Rattle.ame_protocol.specs.Engine.Events.{brought_home, one_turn, undo_turn, with_memory, with_task, with_try}
use Rattle.ame_protocol.specs.Engine.Parts.{Parts, whole_journal, task_at}
use Rattle.ame_protocol.specs.Event.Undoing.{reason_to_undo}
use Rattle.ame_protocol.specs.Event.EngineState.{EngineState, started_state}
use Rattle.ame_protocol.specs.Event.Event.{Event}
use Rattle.ame_protocol.specs.Event.After.{after}
use Rattle.ame_protocol.specs.Event.May.{May}
use Rattle.ame_protocol.specs.Event.Runs.{Follows, entries_told, entries_along}
use Rattle.ame_protocol.specs.Event.Sound.{Sound}
use Rattle.ame_protocol.proofs.Event.RunLemmas.{sound-along, run-tells}
use Rattle.ame_protocol.proofs.Event.SoundLemmas.{sound-start, sound-after}
use Rattle.ame_check.specs.Entries.{MeetsTall}
use Rattle.ame_check.specs.Judge.{Judges}
use Rattle.ame_check.specs.declared.judging.Judged.{Judged}
use Rattle.ame_certified.specs.Low.{IsLowJournal}
use Rattle.ame_shell.specs.Low.{WorkGoesLow, GoesLowBy, GoLow}
use Rattle.ame_certified.specs.RoundTrip.{IsRoundTrip, IsNeverInvalid}
use Rattle.ame_certified.proofs.JudgedLemmas.{judged-valid, never-invalid, none-low, one-low}
use Rattle.ame_certified.proofs.RowLemmas.{row-met, visited-met, noted-met}

-- Facts that no event changes

undo-program : (parts : Parts) → (undo_turn parts).program ≡ parts.program
undo-program parts = by parts.stopped
  where
    by : (b : Bool) → (if b then parts else one_turn parts).program ≡ parts.program
    by true = refl
    by false = refl

undo-base : (parts : Parts) → (undo_turn parts).base ≡ parts.base
undo-base parts = by parts.stopped
  where
    by : (b : Bool) → (if b then parts else one_turn parts).base ≡ parts.base
    by true = refl
    by false = refl

-- a seat that undoes, and one that has undone all
abbrev undoing : ℕ → Attempt → Parts → Parts
undoing seat attempt parts = with_task seat (Task.Undoing attempt (reason_to_undo (task_at parts.tasks seat))) (with_memory (undone_last seat parts.memory) parts)

abbrev going_home : ℕ → Attempt → Parts → Parts
going_home seat attempt parts = with_task seat Task.Idle (record parts {
  memory = undone_last seat parts.memory;
  pool = brought_home (reason_to_undo (task_at parts.tasks seat)) attempt.tried.number parts.pool;
  tried = with_try attempt parts.tried;
})

program-stays : (e : Event) (s : EngineState) → (after e s).parts.program ≡ s.parts.program
program-stays (Event.Undo seat attempt) s = undo-program (undoing seat attempt s.parts)
program-stays (Event.Home seat attempt) s = undo-program (going_home seat attempt s.parts)
program-stays _ s = refl

base-stays : (e : Event) (s : EngineState) → (after e s).parts.base ≡ s.parts.base
base-stays (Event.Undo seat attempt) s = undo-base (undoing seat attempt s.parts)
base-stays (Event.Home seat attempt) s = undo-base (going_home seat attempt s.parts)
base-stays _ s = refl

program-along : (es : List Event) (s end : EngineState) → Follows s es end → end.parts.program ≡ s.parts.program
program-along [] s end run = ap (λ (x : EngineState). x.parts.program) run
program-along (e ∷ es) s end run = program-along es (after e s) end run.1 ∙ program-stays e s

base-along : (es : List Event) (s end : EngineState) → Follows s es end → end.parts.base ≡ s.parts.base
base-along [] s end run = ap (λ (x : EngineState). x.parts.base) run
base-along (e ∷ es) s end run = base-along es (after e s) end run.1 ∙ base-stays e s

journal-along : (es : List Event) (s end : EngineState) → Follows s es end → whole_journal end.parts ≡ whole_journal s.parts ++ entries_along es
journal-along es s end run =
    ap (λ (b : List Entry). b ++ end.parts.entries) (base-along es s end run) ∙ ap (λ (xs : List Entry). s.parts.base ++ xs) (run-tells es s end run)
    ∙ sym (append_assoc s.parts.base s.parts.entries (entries_along es))

-- One event

module _ (s : EngineState) (h : Sound s) (low : IsLowJournal s.parts.program (whole_journal s.parts)) where
  one : (entry : Entry) → (MeetsTall h.stands.r entry → ⊥) → IsLowJournal s.parts.program (whole_journal s.parts ++ entry ∷ [])
  one entry meets = one-low s.parts.program (whole_journal s.parts) entry h.stands.r h.stands.stands.replayed low meets

  none : IsLowJournal s.parts.program (whole_journal s.parts ++ [])
  none = subst (IsLowJournal s.parts.program) (sym (append-nil (whole_journal s.parts))) low

  work : (seat n : ℕ) (t : Task) → task_at s.parts.tasks seat ≡ t → WorkGoesLow s.parts seat (task_at s.parts.tasks seat) n → WorkGoesLow s.parts seat t n
  work seat n t is goes = subst (λ (x : Task). WorkGoesLow s.parts seat x n) is goes

  event-low : (e : Event) → May e s → GoesLowBy e s.parts → IsLowJournal s.parts.program (whole_journal s.parts ++ entries_told e)
  event-low (Event.End seat attempt steps place woken) may goes =
      one _ (row-met s.parts h.stands seat attempt may.1.task steps place may.1.used may.2 (work seat steps (Task.Running attempt) may.1.task goes) _ refl refl refl)
  event-low (Event.Leave seat attempt steps place woken) may goes =
      one _ (row-met s.parts h.stands seat attempt may.1.task steps place may.1.used may.2 (work seat steps (Task.Running attempt) may.1.task goes) _ refl refl refl)
  event-low (Event.Note seat attempt steps place) may goes =
      one _ (row-met s.parts h.stands seat attempt may.1.task steps place may.1.used may.2 (work seat steps (Task.Running attempt) may.1.task goes) _ refl refl refl)
  event-low (Event.Visit seat attempt steps place inside memory) may goes =
      one _ (visited-met s.parts h.stands seat attempt may.1.task steps place inside memory may.1.visit (work seat steps (Task.Free attempt) may.1.task goes))
  event-low (Event.Cut seat attempt steps place) may goes =
      one _ (noted-met s h.stands seat EntryKind.Cut (task_at s.parts.tasks seat) may.2.0 attempt.tried.number steps place may.2.1.may refl goes)
  event-low (Event.Tall seat attempt steps place) may goes =
      one _ (noted-met s h.stands seat EntryKind.Tall (task_at s.parts.tasks seat) may.1.0 attempt.tried.number steps place may.1.1.may refl goes)
  event-low _ may goes = none

-- A run

pub run-low : (es : List Event) (s end : EngineState) → Sound s → Follows s es end → GoLow s es → IsLowJournal s.parts.program (whole_journal s.parts)
    → IsLowJournal s.parts.program (whole_journal s.parts ++ entries_along es)
run-low [] s end h run goes low = subst (IsLowJournal s.parts.program) (sym (append-nil (whole_journal s.parts))) low
run-low (e ∷ es) s end h run goes low =
    let told : whole_journal (after e s).parts ≡ whole_journal s.parts ++ entries_told e =
    journal-along (e ∷ []) s (after e s) (run.0, refl) ∙ ap (λ (xs : List Entry). whole_journal s.parts ++ xs) (append-nil (entries_told e)) in
    let next : IsLowJournal (after e s).parts.program (whole_journal (after e s).parts) =
    subst (λ (p : Tree). IsLowJournal p (whole_journal (after e s).parts)) (sym (program-stays e s)) (subst (IsLowJournal s.parts.program) (sym told) (event-low s h low e run.0 goes.0)) in
    let later = run-low es (after e s) end (sound-after e s run.0 h) run.1 goes.1 next in
    let journal = ap (λ (xs : List Entry). xs ++ entries_along es) told ∙ append_assoc (whole_journal s.parts) (entries_told e) (entries_along es) in
    subst (λ (p : Tree). IsLowJournal p (whole_journal s.parts ++ (entries_told e ++ entries_along es))) (program-stays e s)
    (subst (IsLowJournal (after e s).parts.program) journal later)

pub started-low : (program : Tree) (signature : Signature) (limits : Limits) (end : EngineState) (es : List Event) → IsAccepted signature program → 1 ≤ limits.slice
    → Follows (started_state program signature limits) es end → GoLow (started_state program signature limits) es → IsLowJournal program (entries_along es)
started-low program signature limits end es accepted slice run goes =
    run-low es (started_state program signature limits) end (sound-start program signature limits accepted slice) run goes (none-low program)

-- The judgment of its journal

module _ (s end : EngineState) (es : List Event) (judged : Judged) (h : Sound s) (run : Follows s es end) where
  replays : (t : Sound end) → replay s.parts.program (whole_journal s.parts ++ entries_along es) ≡ Some t.stands.r
  replays t =
      ap (λ (p : Tree). replay p (whole_journal s.parts ++ entries_along es)) (sym (program-along es s end run))
      ∙ ap (replay end.parts.program) (sym (journal-along es s end run)) ∙ t.stands.stands.replayed

  pub run-valid : GoLow s es → IsLowJournal s.parts.program (whole_journal s.parts) → Judges s.parts.program (whole_journal s.parts ++ entries_along es) judged
      → IsRoundTrip end.parts.output judged
  run-valid goes low so =
      let t = sound-along es s end run h in
      subst (λ (output : List ℤ). IsRoundTrip output judged) t.stands.stands.output
      (judged-valid s.parts.program (whole_journal s.parts ++ entries_along es) t.stands.r judged (replays t) (run-low es s end h run goes low) so)

  pub run-never_invalid : Judges s.parts.program (whole_journal s.parts ++ entries_along es) judged → IsNeverInvalid end.parts.output judged
  run-never_invalid so =
      let t = sound-along es s end run h in
      subst (λ (output : List ℤ). IsNeverInvalid output judged) t.stands.stands.output
      (never-invalid s.parts.program (whole_journal s.parts ++ entries_along es) t.stands.r judged (replays t) so)
