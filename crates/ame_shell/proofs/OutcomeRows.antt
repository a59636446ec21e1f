-- The rows of outcomes, spelled out: what its event makes of the parts, and how it is counted.
use Rattle.std.proofs.Common.{◌≡◌, ℕ, ◌≤◌, ◌<◌, ◌⊎◌, inl, inr, Bool, true, false, List, length, Option, Some, None, refl, sym, ap, ◌∙◌, subst}
use Rattle.std.specs.Prelude.{is_some, cond, unwrap_or}
use Rattle.std.proofs.lemmas.List.{length-map}
use Rattle.std.proofs.lemmas.Bool.{ne_eqb, eq-eqb}
use Rattle.ame_term.specs.Tree.{Val}
use Rattle.ame_term.specs.declared.types.Loc.{Loc}
use Rattle.ame_term.specs.declared.types.Sort.{Sort}
use Rattle.ame_term.specs.declared.types.TyNo.{TyNo}
use Rattle.ame_rows.specs.declared.notes.Bad.{Bad}
use Rattle.ame_rows.specs.Valid.{IsValid, IsFirstBad}
use Rattle.ame_rows.specs.MemoryView.{Log, row_at}
use Rattle.ame_device.specs.declared.told.Told.{Told}
use Rattle.ame_protocol.specs.Row.Heap.{cell_at}
use Rattle.ame_protocol.specs.Row.Shown.{shown_undo}
use Rattle.ame_machine.specs.declared.wants.Wants.TheVariants as wants
use Rattle.ame_machine.specs.MachineView.{MachineView, place_shown}
use Rattle.ame_machine.specs.Input.{value_to_set}
use Rattle.ame_protocol.specs.declared.types.Attempt.{Attempt}
use Rattle.ame_protocol.specs.declared.types.Task.{Task}
use Rattle.ame_protocol.specs.Engine.Parts.{Parts, heap_in, task_at, attempt_of, working}
use Rattle.ame_protocol.specs.Engine.Events.{has_begun, has_read, has_written, has_allocated, has_checked, has_turned_back, has_undone, has_gone_home}
use Rattle.ame_protocol.specs.Waits.Noted.{has_noted}
use Rattle.ame_protocol.specs.Visits.Stops.{has_been_cut, has_grown_tall}
use Rattle.ame_protocol.specs.declared.counters.Counters.{Counters}
use Rattle.ame_protocol.specs.declared.stop.Stop.{Stop}
use Rattle.ame_protocol.specs.Event.Counting.{Counted, one_counted, one_invalid, one_undone}
use Rattle.ame_protocol.specs.Event.Causes.{certificates_in}
use Rattle.ame_protocol.specs.Event.Event.{Event, Find, Reverse}
use Rattle.ame_protocol.specs.Event.After.{counted_find}
use Rattle.ame_protocol.specs.Event.May.{ReadsAreValid, MayUndo}
use Rattle.ame_protocol.specs.Event.Undoing.{is_undoing, reason_to_undo}
use Rattle.ame_protocol.proofs.Engine.MemoryEvents.{valid-memory}
use Rattle.ame_protocol.proofs.Engine.ShownMemoryLemmas.{row-shown}
use Rattle.ame_engine.specs.declared.answer.Wrote.{Wrote}
use Rattle.ame_engine.specs.declared.pick.Pick.{Pick}
use Rattle.ame_engine.specs.Core.{Core}
use Rattle.ame_engine.specs.Makes.{state_of, Makes, MakesAt}
use Rattle.ame_engine.specs.Seen.{parts_of, MakesEvent, MakesLastEvent}
use Rattle.ame_engine.specs.Stops.{stopped_by}
use Rattle.ame_engine.specs.Writing.{answer_to_write}
use Rattle.ame_engine.specs.Committing.{ended_at, left_at}
use Rattle.ame_engine.specs.Visiting.{HasComeHome, HasBeenRefused, visits_at}
use Rattle.ame_engine.proofs.CheckLemmas.{shown-valid}
use Rattle.ame_engine.proofs.MakesLemmas.{begun-made, read-made, written-made, met-made, allocated-made, checked-made, stale-made, undone-made, gone-made}
use Rattle.ame_engine.proofs.MakesLemmas.{noted-made, ended-made, left-made, tall-made, cut-made, refused-made, visited-made}
use Rattle.ame_shell.specs.declared.work.Outcome.{Outcome}
use Rattle.ame_shell.specs.Asked.{AsksFor, AsksAsProtected, Accesses, IsToCheck, IsToCommit, IsToVisit, HasNoTurnsLeft, IsToUndo, AreAllValid}
use Rattle.ame_shell.specs.Outcomes.{StopsBy, is_visit, Meets, IsOutcomeOf, IsMade, IsDone}
use Rattle.ame_machine.specs.Meaning.{Meaning}

module _ {C V M : Type 0} (meaning : Meaning C V M) (seat : ℕ)
    (hand : Option MachineView) (old new : Core C V M) where
  abbrev pub MakesCounted : (Counters → Counters) → (Parts → Parts) → Type 0
  MakesCounted counts event = MakesEvent meaning counts event old new

  abbrev pub MakesLast : Stop → (Counters → Counters) → (Parts → Parts) → Type 0
  MakesLast why counts event = MakesLastEvent meaning why counts event old new

  abbrev pub IsFirst : Bad → Type 0
  IsFirst bad = IsFirstBad old.memory.cells seat (row_at old.memory.rows seat).reads bad

  -- what a write at a location is answered
  abbrev pub answer_at : Loc → Wrote
  answer_at l = answer_to_write seat (cell_at (heap_in (parts_of meaning old)) l.0).owner

  -- the seat runs this attempt of a member, and its reads are valid
  pub record RunsValid (attempt : Attempt) : Type 0 where
    pub task : task_at old.tasks seat ≡ Task.Running attempt
    pub valid : AreAllValid old seat

  -- or this read isn't, and the seat turns back
  pub record TurnsBack (counts : Counters → Counters) (bad : Bad) : Type 0 where
    pub attempt : Attempt
    pub task : task_at old.tasks seat ≡ Task.Running attempt
    pub invalid : IsFirst bad
    pub event : MakesCounted counts (has_turned_back seat attempt)

  -- the seat undoes an entry, and some are left or none
  pub record UndoesAt (attempt : Attempt) (becomes : Parts → Parts) : Type 0 where
    pub undoes : IsToUndo old seat
    pub has : attempt_of (task_at old.tasks seat) ≡ Some attempt
    pub event : MakesCounted (one_undone (is_some old.stop)) becomes

  -- a note names the place at which a seat's machine is cut off, whose reads are valid
  pub record CutsAt (s : MachineView) : Type 0 where
    pub attempt : Attempt
    pub has : working (task_at old.tasks seat) ≡ Some attempt
    pub valid : AreAllValid old seat
    pub event : MakesLast Stop.Spent (λ counters. counters) (has_been_cut seat attempt.tried.number s.steps (place_shown s) (task_at old.tasks seat))

  -- the turns are used up
  abbrev pub Spends : Option MachineView → Type 0
  Spends None = new ≡ stopped_by Stop.Spent old
  Spends (Some s) = CutsAt s ⊎ ((AreAllValid old seat → ⊥) × (new ≡ stopped_by Stop.Spent old))

  -- the event that a seat made, with what devices showed before and after
  abbrev pub Row : List Told → List Told → Outcome → Type 0
  Row before after Outcome.Began =
      (number : ℕ) × Meets meaning seat hand old new before after (Pick.Member number) × MakesCounted (one_counted Counted.Begin) (has_begun seat number)
  Row before after Outcome.Waited = Meets meaning seat hand old new before after Pick.Idle × (new ≡ old)
  Row before after Outcome.Stopped =
      (pick : Pick) × Meets meaning seat hand old new before after pick × StopsBy (certificates_in (parts_of meaning old)) pick old new
  Row before after Outcome.Read =
      (s : MachineView) × (l : Loc) × Accesses old hand s (wants.Read l) × MakesCounted (one_counted Counted.Read) (has_read seat l)
  Row before after Outcome.Wrote =
      (s : MachineView) × (l : Loc) × (v : Val) × Accesses old hand s (wants.Write l) × (value_to_set s ≡ Some v) × (answer_at l ≡ Wrote.Wrote)
      × MakesCounted (one_counted Counted.Write) (has_written seat l v)
  Row before after (Outcome.Met owner) =
      (s : MachineView) × (l : Loc) × (attempt : Attempt) × Accesses old hand s (wants.Write l) × (answer_at l ≡ Wrote.Conflict owner)
      × (task_at old.tasks seat ≡ Task.Running attempt) × MakesCounted (one_counted Counted.Conflict) (has_turned_back seat attempt)
  Row before after Outcome.Allocated =
      (s : MachineView) × (sort : Sort) × (ty : TyNo) × (v : Val) × Accesses old hand s (wants.Alloc sort ty) × (value_to_set s ≡ Some v)
      × MakesCounted (one_counted Counted.Alloc) (has_allocated seat sort ty v)
  Row before after Outcome.Checked =
      (s : MachineView) × IsToCheck old hand s × (attempt : Attempt) × RunsValid attempt × MakesCounted (one_counted Counted.Check) (has_checked seat s.steps attempt)
  Row before after (Outcome.FoundInvalid bad) = (s : MachineView) × IsToCheck old hand s × TurnsBack (one_invalid Counted.Check) bad
  Row before after Outcome.Ended =
      (s : MachineView) × AsksAsProtected old hand s wants.Done × (attempt : Attempt) × RunsValid attempt
      × MakesCounted (one_counted Counted.Commit) (ended_at seat attempt.tried.number s)
  Row before after Outcome.Left =
      (s : MachineView) × AsksAsProtected old hand s wants.Leave × (attempt : Attempt) × RunsValid attempt
      × MakesCounted (one_counted Counted.Commit) (left_at seat attempt.tried.number s)
  Row before after (Outcome.Refused bad) = (s : MachineView) × IsToCommit old hand s × TurnsBack (one_invalid Counted.Commit) bad
  Row before after Outcome.Noted =
      (s : MachineView) × AsksAsProtected old hand s wants.Block × (attempt : Attempt) × RunsValid attempt
      × MakesCounted (one_counted Counted.Block) (has_noted seat attempt s.steps (place_shown s))
  Row before after (Outcome.NotNoted bad) = (s : MachineView) × AsksAsProtected old hand s wants.Block × TurnsBack (one_invalid Counted.Block) bad
  Row before after Outcome.GrewTall =
      (s : MachineView) × AsksFor old hand s wants.Tall × (attempt : Attempt) × (working (task_at old.tasks seat) ≡ Some attempt) × AreAllValid old seat
      × MakesLast (Stop.Tall attempt.tried.number) (one_counted Counted.Tall)
      (has_grown_tall seat attempt.tried.number s.steps (place_shown s) (task_at old.tasks seat))
  Row before after (Outcome.NotTall bad) = (s : MachineView) × AsksAsProtected old hand s wants.Tall × TurnsBack (one_invalid Counted.Tall) bad
  Row before after Outcome.CameHome =
      (s : MachineView) × IsToVisit old hand s × (attempt : Attempt) × (task_at old.tasks seat ≡ Task.Free attempt)
      × HasComeHome meaning seat attempt.tried.number s before after old new
  Row before after (Outcome.DeviceFailed device) =
      (s : MachineView) × IsToVisit old hand s × (attempt : Attempt) × (task_at old.tasks seat ≡ Task.Free attempt)
      × HasBeenRefused meaning seat attempt.tried.number device s before after old new
  Row before after Outcome.Spent = HasNoTurnsLeft old × Spends hand × (is_some (attempt_of (task_at old.tasks seat)) ≡ true)
  Row before after Outcome.Undid =
      (attempt : Attempt) × (1 < length (row_at old.memory.rows seat).undos)
      × UndoesAt attempt (has_undone seat attempt (reason_to_undo (task_at old.tasks seat)))
  Row before after Outcome.WentHome =
      (attempt : Attempt) × (length (row_at old.memory.rows seat).undos ≤ 1)
      × UndoesAt attempt (has_gone_home seat attempt (reason_to_undo (task_at old.tasks seat)))
  Row before after Outcome.Lacked = (old.stop ≡ None) × (new ≡ stopped_by Stop.NoMemory old)

  -- so it was, and devices were called by visits alone
  pub record HasRow (before after : List Told) (outcome : Outcome) : Type 0 where
    pub event : Row before after outcome
    pub quiet : is_visit outcome ≡ false → after ≡ before

-- Each outcome has its row

-- what is at work is an attempt
pub working-busy : (t : Task) (a : Attempt) → working t ≡ Some a → is_some (attempt_of t) ≡ true
working-busy Task.Idle a e = cc
working-busy (Task.Running b) a e = refl
working-busy (Task.Free b) a e = refl
working-busy (Task.Undoing b reason) a e = cc

-- what a write is answered, by the owner of the cell
own-wrote : (seat : ℕ) (owner : Option ℕ) → (owner ≡ None) ⊎ (owner ≡ Some seat) → answer_to_write seat owner ≡ Wrote.Wrote
own-wrote seat owner (inl free) = ap (answer_to_write seat) free
own-wrote seat owner (inr own) = ap (answer_to_write seat) own ∙ ap (λ (b : Bool). cond b Wrote.Wrote (Wrote.Conflict seat)) (eq-eqb seat seat refl)

other-conflict : (seat n : ℕ) (owner : Option ℕ) → owner ≡ Some n → (n ≡ seat → ⊥) → answer_to_write seat owner ≡ Wrote.Conflict n
other-conflict seat n owner is apart = ap (answer_to_write seat) is ∙ ap (λ (b : Bool). cond b Wrote.Wrote (Wrote.Conflict n)) (ne_eqb n seat apart)

module _ {C V M : Type 0} (meaning : Meaning C V M) (seat : ℕ) (hand : Option MachineView) (old new : Core C V M) (before after : List Told) where
  abbrev Rowed : Outcome → Type 0
  Rowed outcome = Row meaning seat hand old new before after outcome

  abbrev parts : Parts
  parts = parts_of meaning old

  valid-in : ReadsAreValid (state_of meaning old) seat → AreAllValid old seat
  valid-in valid =
      shown-valid (meaning.value_of old.code) old.memory.cells seat (row_at old.memory.rows seat).reads
      (subst (IsValid parts.memory.cells seat) (ap (λ (n : Log Val). n.reads) (row-shown (meaning.value_of old.code) old.memory.rows seat))
      (valid-memory parts.memory seat (row_at parts.memory.rows seat).reads valid))

  undos-in : length (row_at parts.memory.rows seat).undos ≡ length (row_at old.memory.rows seat).undos
  undos-in =
      ap (λ (n : Log Val). length n.undos) (row-shown (meaning.value_of old.code) old.memory.rows seat)
      ∙ length-map (row_at old.memory.rows seat).undos (shown_undo (meaning.value_of old.code))

  to-undo : (a : Attempt) → MayUndo (state_of meaning old) seat a → IsToUndo old seat
  to-undo a may = record { why = by (is_some old.stop) refl; left = may.left }
    where
      by : (b : Bool) → is_some old.stop ≡ b → (is_some old.stop ≡ true) ⊎ (is_undoing (task_at old.tasks seat) ≡ true)
      by true e = inl e
      by false e = inr (may.undoes e)

  turned-back : (a : Attempt) (find : Find) (bad : Bad) → IsFirstBad old.memory.cells seat (row_at old.memory.rows seat).reads bad
      → Makes meaning (Event.TurnBack seat a (Reverse.Stale find)) old new → TurnsBack meaning seat hand old new (one_invalid (counted_find find)) bad
  turned-back a find bad invalid m = record { attempt = a; task = m.may.1; invalid = invalid; event = stale-made meaning old new seat a find m }

  spends : (h : Option MachineView) → ((s : MachineView) → h ≡ Some s → AreAllValid old seat → ⊥) → new ≡ stopped_by Stop.Spent old
      → Spends meaning seat hand old new h
  spends None invalid is = is
  spends (Some s) invalid is = inr (invalid s refl, is)

  row-of : (outcome : Outcome) (e : Event) → IsOutcomeOf meaning seat hand old new before after outcome e → Makes meaning e old new → Rowed outcome
  row-of _ _ (IsOutcomeOf.began number meets) m = (number, meets, begun-made meaning old new seat number m)
  row-of _ _ (IsOutcomeOf.stopped pick why meets is stops) m = (pick, meets, stops)
  row-of _ _ (IsOutcomeOf.read s l comes) m = (s, l, comes, read-made meaning old new seat l m)
  row-of _ _ (IsOutcomeOf.wrote s l v comes sets) m =
      (s, l, v, comes, sets, own-wrote seat (cell_at (heap_in parts) l.0).owner m.may.2, written-made meaning old new seat l v m)
  row-of _ _ (IsOutcomeOf.met s l a owner comes) m =
      (s, l, a, comes, other-conflict seat owner (cell_at (heap_in parts) l.0).owner m.may.2.0 m.may.2.1, m.may.1, met-made meaning old new seat a l owner m)
  row-of _ _ (IsOutcomeOf.allocated s sort ty v comes sets) m = (s, sort, ty, v, comes, sets, allocated-made meaning old new seat sort ty v m)
  row-of _ _ (IsOutcomeOf.checked s a checks) m =
      (s, checks, a, record { task = m.may.1.1.task; valid = valid-in m.may.2 }, checked-made meaning old new seat a s.steps m)
  row-of _ _ (IsOutcomeOf.found_invalid s a bad checks invalid) m = (s, checks, turned-back a Find.Check bad invalid m)
  row-of _ _ (IsOutcomeOf.ended s a place runs shows) m = (
    s,
    runs,
    a,
    record { task = m.may.1.task; valid = valid-in m.may.2 },
    ended-made meaning old new s seat a (record { place = place; shows = shows; makes = m }),
  )
  row-of _ _ (IsOutcomeOf.left s a place runs shows) m = (
    s,
    runs,
    a,
    record { task = m.may.1.task; valid = valid-in m.may.2 },
    left-made meaning old new s seat a (record { place = place; shows = shows; makes = m }),
  )
  row-of _ _ (IsOutcomeOf.refused s a bad commits invalid) m = (s, commits, turned-back a Find.Commit bad invalid m)
  row-of _ _ (IsOutcomeOf.noted s a place runs shows) m = (
    s,
    runs,
    a,
    record { task = m.may.1.task; valid = valid-in m.may.2 },
    noted-made meaning old new s seat a (record { place = place; shows = shows; makes = m }),
  )
  row-of _ _ (IsOutcomeOf.not_noted s a bad runs invalid) m = (s, runs, turned-back a Find.Block bad invalid m)
  row-of _ _ (IsOutcomeOf.grew_tall s a place asks valid shows) m =
      (s, asks, a, m.may.1.1.works, valid, tall-made meaning old new s seat a (record { place = place; shows = shows; makes = m }))
  row-of _ _ (IsOutcomeOf.not_tall s a bad runs invalid) m = (s, runs, turned-back a Find.Tall bad invalid m)
  row-of _ _ (IsOutcomeOf.came_home s comes answer memory a place visits leads shows) m =
      let at : MakesAt meaning comes answer (visits_at seat a comes memory) old new = record { place = place; shows = shows; makes = m } in (
        s,
        visits,
        a,
        m.may.1.task,
        record {
          answer = answer;
          comes = comes;
          memory = memory;
          visits = leads;
          visit = record { place = place; visit = m.may.1.visit; shows = shows };
          event = visited-made meaning old new seat a answer comes memory at;
          makes = λ other is. subst (λ (x : Attempt). MakesAt meaning comes answer (visits_at seat x comes memory) old new)
              (ap (λ (t : Task). unwrap_or (working t) a) (sym m.may.1.task ∙ is)) at;
        },
      )
  row-of _ _ (IsOutcomeOf.device_failed s device argument a visits wants fails) m = (
    s,
    visits,
    a,
    m.may.1,
    record {
      argument = argument;
      wanted = wants;
      fails = fails;
      event = refused-made meaning old new seat a device m;
      makes = λ other is. subst (λ (x : Attempt). Makes meaning (Event.Refuse seat x device) old new)
          (ap (λ (t : Task). unwrap_or (working t) a) (sym m.may.1 ∙ is)) m;
    },
  )
  row-of _ _ (IsOutcomeOf.cut s a place none is valid shows) m = (
    none,
    subst (Spends meaning seat hand old new) (sym is) (inl (record {
      attempt = a;
      has = m.may.2.1.works;
      valid = valid;
      event = cut-made meaning old new s seat a (record { place = place; shows = shows; makes = m });
    })),
    working-busy (task_at old.tasks seat) a m.may.2.1.works,
  )
  row-of _ _ (IsOutcomeOf.spent none busy invalid is) m = (none, spends hand invalid is, busy)
  row-of _ _ (IsOutcomeOf.undid a) m = (
    a,
    subst (λ (n : ℕ). 1 < n) undos-in m.may.1,
    record { undoes = to-undo a m.may.0; has = m.may.0.has; event = undone-made meaning old new seat a m },
  )
  row-of _ _ (IsOutcomeOf.went_home a) m = (
    a,
    subst (λ (n : ℕ). n ≤ 1) undos-in m.may.1,
    record { undoes = to-undo a m.may.0; has = m.may.0.has; event = gone-made meaning old new seat a m },
  )
  row-of _ _ (IsOutcomeOf.lacked is) m = (m.may.none, is)

  pub row-made : (outcome : Outcome) → IsMade meaning seat hand old new before after outcome → Rowed outcome
  row-made _ (IsMade.makes outcome e tells m) = row-of outcome e tells m
  row-made _ (IsMade.waits meets is) = (meets, is)
  row-made _ (IsMade.rests meets is) = (Pick.Stopped, meets, is)

  pub rowed : (outcome : Outcome) → IsDone meaning seat hand old new before after outcome → HasRow meaning seat hand old new before after outcome
  rowed outcome done = record { event = row-made outcome done.event; quiet = done.quiet }
