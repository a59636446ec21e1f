-- Events without entries.
use Rattle.std.proofs.Common.{◌≡◌, ℕ, ◌++◌, List, [], ◌∷◌, Bool, true, false, Option, Some, if◌then◌else◌, option_and_then, refl, sym, ap, ◌∙◌, subst, append-nil, append_assoc}
use Rattle.ame_term.specs.Tree.{Tree}
use Rattle.ame_term.specs.Frame.{Side}
use Rattle.ame_journal.specs.declared.entry.Entry.{Entry}
use Rattle.ame_journal.specs.Replayed.{Replayed, begun_at}
use Rattle.ame_journal.specs.Replay.{replay, replay_from}
use Rattle.ame_journal.specs.Totals.{without_notes}
use Rattle.ame_journal.proofs.NoteLemmas.{notes-dropped}
use Rattle.ame_journal.proofs.ReplayLemmas.{replay_from-append}
use Rattle.ame_machine.specs.Run.Local.{LocalState}
use Rattle.ame_rows.specs.LettingGo.{undone_last}
use Rattle.ame_protocol.specs.declared.types.Attempt.{Attempt}
use Rattle.ame_protocol.specs.declared.types.Task.{Task}
use Rattle.ame_protocol.specs.Row.SeatRun.{AreValid}
use Rattle.ame_protocol.specs.Engine.Events.{brought_home, one_turn, undo_turn, with_memory, with_task, with_try}
use Rattle.ame_protocol.specs.Engine.Parts.{Parts, whole_journal, heap_in, task_at}
use Rattle.ame_protocol.specs.Engine.StandsFor.{StandsFor}
use Rattle.ame_protocol.specs.Event.EngineState.{EngineState as Runtime}
use Rattle.ame_protocol.specs.Event.Event.{Event}
use Rattle.ame_protocol.specs.Event.After.{after}
use Rattle.ame_protocol.specs.Event.May.{May, MayNote, ReadsAreValid}
use Rattle.ame_protocol.specs.Event.Runs.{Follows, entries_along, entries_told}
use Rattle.ame_protocol.specs.Event.Sound.{Sound}
use Rattle.ame_protocol.specs.Event.Undoing.{reason_to_undo}
use Rattle.ame_protocol.proofs.Event.RunLemmas.{sound-along, run-tells}
use Rattle.ame_protocol.specs.Visits.Stops.{MayBeNoted}
use Rattle.ame_rows.specs.MemoryView.{row_at}
use Rattle.ame_theorems.specs.Doomed.{IsDoomed, seat_of}
use Rattle.ame_theorems.specs.Shows.{ShowsTheSame}

-- No event changes the program or the base.

pub record IsOfOne (old new : Parts) : Type 0 where
  pub program : new.program ≡ old.program
  pub base : new.base ≡ old.base

undo-one : (old next : Parts) → IsOfOne old next → IsOfOne old (undo_turn next)
undo-one old next same = by next.stopped
  where
    by : (b : Bool) → IsOfOne old (if b then next else one_turn next)
    by true = same
    by false = record { program = same.program; base = same.base }

event-one : (e : Event) (s : Runtime) → IsOfOne s.parts (after e s).parts
event-one (Event.Undo seat attempt) s =
    undo-one s.parts (with_task seat (Task.Undoing attempt (reason_to_undo (task_at s.parts.tasks seat))) (with_memory (undone_last seat s.parts.memory) s.parts))
    (record { program = refl; base = refl })
event-one (Event.Home seat attempt) s =
    undo-one s.parts (with_task seat Task.Idle (record s.parts {
      memory = undone_last seat s.parts.memory;
      pool = brought_home (reason_to_undo (task_at s.parts.tasks seat)) attempt.tried.number s.parts.pool;
      tried = with_try attempt s.parts.tried;
    })) (record { program = refl; base = refl })
event-one _ s = record { program = refl; base = refl }

along-one : (es : List Event) (s end : Runtime) → Follows s es end → IsOfOne s.parts end.parts
along-one [] s end run = record { program = ap (λ (x : Runtime). x.parts.program) run; base = ap (λ (x : Runtime). x.parts.base) run }
along-one (e ∷ es) s end run =
    let rest = along-one es (after e s) end run.1 in
    let first = event-one e s in
    record { program = rest.program ∙ first.program; base = rest.base ∙ first.base }

-- Two states that stand for one strong state show the same.
same-shown : (old new : Parts) (r : Replayed) → StandsFor old r → StandsFor new r → ShowsTheSame old new
same-shown old new r a b = record {
  output = sym b.output ∙ a.output;
  next = sym b.next ∙ a.next;
  terms = λ i. sym (b.members i) ∙ a.members i;
  inside = λ i. sym (b.inside i) ∙ a.inside i;
  committed = λ l. b.store l ∙ sym (a.store l);
}

-- notes lead nowhere
notes-stay : (program : Tree) (entries more : List Entry) (r t : Replayed) → without_notes more ≡ [] → replay program entries ≡ Some r
    → replay program (entries ++ more) ≡ Some t → r ≡ t
notes-stay program entries more r t notes was is =
    let from : replay_from r more ≡ Some t =
    sym (ap (λ (o : Option Replayed). option_and_then (λ x. replay_from x more) o) was) ∙ sym (replay_from-append (begun_at program) entries more) ∙ is in
    let none : replay_from r [] ≡ Some t = sym (ap (replay_from r) notes) ∙ notes-dropped r more t from in
    cc

pub shows-along : (es : List Event) (s end : Runtime) → Follows s es end → Sound s → without_notes (entries_along es) ≡ [] → ShowsTheSame s.parts end.parts
shows-along es s end run h notes =
    let was = h.stands in
    let is = (sound-along es s end run h).stands in
    let same = along-one es s end run in
    let journal : whole_journal end.parts ≡ whole_journal s.parts ++ entries_along es =
    ap (λ (xs : List Entry). xs ++ end.parts.entries) same.base ∙ ap (λ (xs : List Entry). s.parts.base ++ xs) (run-tells es s end run)
    ∙ sym (append_assoc s.parts.base s.parts.entries (entries_along es)) in
    let there : replay s.parts.program (whole_journal s.parts ++ entries_along es) ≡ Some is.r =
    sym (ap (λ (x : Tree). replay x (whole_journal end.parts)) same.program ∙ ap (replay s.parts.program) journal) ∙ is.stands.replayed in
    let one-state : was.r ≡ is.r = notes-stay s.parts.program (whole_journal s.parts) (entries_along es) was.r is.r notes was.stands.replayed there in
    same-shown s.parts end.parts was.r was.stands (subst (StandsFor end.parts) (sym one-state) is.stands)

pub shows-after : (e : Event) (s : Runtime) → May e s → Sound s → without_notes (entries_told e) ≡ [] → ShowsTheSame s.parts (after e s).parts
shows-after e s may h notes =
    shows-along (e ∷ []) s (after e s) (may, refl) h (ap without_notes (append-nil (entries_told e)) ∙ notes)

-- A doomed attempt adds no entry

noted-valid : (parts : Parts) (seat : ℕ) (t : Task) (side : Side) (i n : ℕ) (p : LocalState) (a : Attempt) → t ≡ Task.Running a → MayBeNoted parts seat t side i n p
    → AreValid (heap_in parts) seat (row_at parts.memory.rows seat).reads
noted-valid parts seat _ _ _ _ _ a is (MayBeNoted.running attempt n p used valid) = valid
noted-valid parts seat _ _ _ _ _ a is (MayBeNoted.free attempt n p steps) = absurd (let clash : Task.Free attempt ≡ Task.Running a = is in cc)

module _ (s : Runtime) (seat : ℕ) (d : IsDoomed s seat) where
  invalid : (other : ℕ) → Some other ≡ Some seat → ReadsAreValid s other → ⊥
  invalid other is valid = let same : other ≡ seat = cc in d.stale (subst (ReadsAreValid s) same valid)

  not-free : (other : ℕ) (attempt : Attempt) → Some other ≡ Some seat → task_at s.parts.tasks other ≡ Task.Free attempt → ⊥
  not-free other attempt is free =
      let same : other ≡ seat = cc in
      let clash : Task.Running d.attempt ≡ Task.Free attempt = sym d.runs ∙ ap (task_at s.parts.tasks) (sym same) ∙ free in
      cc

  not-noted : (other : ℕ) (attempt : Attempt) (side : Side) (steps : ℕ) (place : LocalState) → Some other ≡ Some seat → MayNote s other attempt side steps place → ⊥
  not-noted other attempt side steps place is may =
      let same : other ≡ seat = cc in
      let runs-there : task_at s.parts.tasks other ≡ Task.Running d.attempt = ap (task_at s.parts.tasks) same ∙ d.runs in
      invalid other is (noted-valid s.parts other (task_at s.parts.tasks other) side attempt.tried.number steps place d.attempt runs-there may.may)

  pub doomed-tell-none : (e : Event) → seat_of e ≡ Some seat → May e s → entries_told e ≡ []
  doomed-tell-none (Event.End other attempt steps place woken) is may = absurd (invalid other is may.2)
  doomed-tell-none (Event.Leave other attempt steps place woken) is may = absurd (invalid other is may.2)
  doomed-tell-none (Event.Note other attempt steps place) is may = absurd (invalid other is may.2)
  doomed-tell-none (Event.Visit other attempt steps place inside memory) is may = absurd (not-free other attempt is may.1.task)
  doomed-tell-none (Event.Cut other attempt steps place) is may = absurd (not-noted other attempt may.2.0 steps place is may.2.1)
  doomed-tell-none (Event.Tall other attempt steps place) is may = absurd (not-noted other attempt may.1.0 steps place is may.1.1)
  doomed-tell-none _ is may = refl

  pub doomed-show : (e : Event) → seat_of e ≡ Some seat → May e s → Sound s → (entries_told e ≡ []) × ShowsTheSame s.parts (after e s).parts
  doomed-show e is may h = let none = doomed-tell-none e is may in (none, shows-after e s may h (ap without_notes none))
