-- The outcome of a seat's turn, from what its event was asked with.
use Rattle.std.proofs.Common.{◌≡◌, ◌≢◌, ℕ, ◌<◌, ◌≤◌, ◌⊎◌, inl, inr, Bool, true, false, List, [], Option, Some, None, Result, Ok, Err, refl, sym, ap, ◌∙◌, subst, arith, length-set}
use Rattle.std.specs.Prelude.{IfOk, OnOk, ℤ, length, is_some, if◌then◌else◌}
use Rattle.ame_term.specs.Tree.{Val}
use Rattle.ame_term.specs.declared.types.Loc.{Loc}
use Rattle.ame_rows.specs.declared.notes.Bad.{Bad}
use Rattle.ame_rows.specs.declared.notes.ReadNote.{ReadNote}
use Rattle.ame_rows.specs.Valid.{IsFirstBad}
use Rattle.ame_rows.specs.MemoryView.{Log, MemoryView, row_at}
use Rattle.ame_device.specs.declared.told.Told.{Told}
use Rattle.ame_device.specs.declared.fault.DeviceFail.{DeviceFail}
use Rattle.ame_device.specs.Calls.{CallsOne}
use Rattle.ame_machine.specs.declared.wants.Wants.{Wants}
use Rattle.ame_machine.specs.declared.wants.Wants.TheVariants as wants
use Rattle.ame_machine.specs.MachineView.{MachineView}
use Rattle.ame_machine.specs.Need.{Need}
use Rattle.ame_machine.specs.Acting.{takes_input}
use Rattle.ame_machine.specs.Sound.{IsSoundStage}
use Rattle.ame_machine.proofs.NeedLemmas.{comes_as}
use Rattle.ame_protocol.specs.declared.types.Task.{Task}
use Rattle.ame_protocol.specs.Engine.Parts.{Parts, task_at, working}
use Rattle.ame_protocol.specs.Event.Causes.{certificates_in}
use Rattle.ame_protocol.specs.Event.Undoing.{is_undoing}
use Rattle.ame_engine.specs.declared.pick.Pick.{Pick}
use Rattle.ame_engine.specs.Begins.{pick_of, stop_met, takes_memory}
use Rattle.ame_protocol.specs.Engine.Simulates.{Simulates}
use Rattle.ame_protocol.proofs.Engine.ShownMemoryLemmas.{row-shown}
use Rattle.ame_protocol.proofs.Visits.PlaceLemmas.{visits}
use Rattle.ame_engine.specs.Core.{Core}
use Rattle.ame_protocol.specs.declared.stop.Stop.{Stop}
use Rattle.ame_protocol.specs.Event.Event.{Event}
use Rattle.ame_engine.specs.Makes.{Makes}
use Rattle.ame_engine.specs.Seen.{parts_of}
use Rattle.ame_engine.specs.Stops.{stopped_by}
use Rattle.ame_engine.specs.Committing.{IsCommitting}
use Rattle.ame_engine.specs.Visiting.{VisitsTo}
use Rattle.ame_engine.proofs.VisitPlaceLemmas.{visits-as}
use Rattle.ame_shell.specs.declared.work.Outcome.{Outcome}
use Rattle.ame_shell.specs.Ready.{IsReady}
use Rattle.ame_shell.specs.Work.{CanUndo, IsAtWork}
use Rattle.ame_shell.specs.Asked.{waits_for_check, IsToGoOn, AsksFor, AsksAsProtected, Accesses, IsToCheck, IsToCommit, IsToVisit, IsToTakeMemory, LacksWhereDue}
use Rattle.ame_shell.specs.Outcomes.{StopsBy, IsOutcomeOf, IsMade, IsDone}
use Rattle.ame_shell.proofs.OutcomeRows.{HasRow, rowed}
use Rattle.ame_shell.proofs.ValidLemmas.{none-invalid}
use Rattle.ame_machine.specs.Meaning.{Meaning}

-- Answers

pub told-ok : {A E : Type 0} (r : Result A E) (a : A) (P : A → Type 0) → r ≡ Ok a → IfOk r P → P a
told-ok {A} {E} r a P is h = subst (λ (x : Result A E). IfOk x P) is h

pub told-on : {A E : Type 0} (r : Result A E) (a : A) (P : Type 0) → r ≡ Ok a → OnOk r P → P
told-on {A} {E} r a P is h = subst (λ (x : Result A E). OnOk x P) is h

-- Requests of the engine

module _ {C V M : Type 0} (core : Core C V M) (s : MachineView) (going : core.stop ≡ None) (left : core.turns < core.limits.turns) where
  pub goes-from : IsToGoOn core (Some s) s
  goes-from = record { met = refl; going = going; left = left }

  pub asks-from : (want : Wants) → s.want ≡ Some want → AsksFor core (Some s) s want
  asks-from want is = record { goes = goes-from; wants = is }

  pub runs-from : (want : Wants) → s.want ≡ Some want → s.inside ≡ false → AsksAsProtected core (Some s) s want
  runs-from want is outside = record { asks = asks-from want is; outside = outside }

  pub accesses-from : (want : Wants) → s.want ≡ Some want → s.inside ≡ false → s.since < core.limits.slice → Accesses core (Some s) s want
  accesses-from want is outside early = record { runs = runs-from want is outside; early = early }

  pub checks-from : s.inside ≡ false → waits_for_check s.want ≡ true → s.since ≡ core.limits.slice → IsToCheck core (Some s) s
  checks-from outside waits full = record { goes = goes-from; outside = outside; waits = waits; full = full }

  pub commits-from : IsCommitting s → IsToCommit core (Some s) s
  commits-from commits = record { goes = goes-from; commits = commits }

  pub visits-from : s.inside ≡ true → (s.want ≡ Some wants.Tall → ⊥) → IsToVisit core (Some s) s
  visits-from inside short = record { goes = goes-from; inside = inside; short = short }

-- Wants that machines never have

-- whether only unprotected code wants this
abbrev pub is_of_visits : Wants → Bool
is_of_visits (wants.Peek l) = true
is_of_visits wants.Close = true
is_of_visits (wants.Device device n) = true
is_of_visits wants.Spawn = true
is_of_visits (wants.Print n) = true
is_of_visits _ = false

abbrev IsOfVisits : Wants → Type 0
IsOfVisits want =
    ((l : Loc) × (want ≡ wants.Peek l))
    ⊎ ((want ≡ wants.Close)
    ⊎ (((device : ℕ) × (n : ℤ) × (want ≡ wants.Device device n)) ⊎ ((want ≡ wants.Spawn) ⊎ ((n : ℤ) × (want ≡ wants.Print n)))))

-- what no event serves of protected code that goes on
abbrev pub IsUnserved : Wants → Type 0
IsUnserved want = (want ≡ wants.Done) ⊎ ((want ≡ wants.Leave) ⊎ ((want ≡ wants.OutOfFuel) ⊎ IsOfVisits want))

only-of-visits : (want : Wants) → IsOfVisits want → is_of_visits want ≡ true
only-of-visits want (inl peeks) = ap is_of_visits peeks.1
only-of-visits want (inr (inl is)) = ap is_of_visits is
only-of-visits want (inr (inr (inl calls))) = ap is_of_visits calls.2
only-of-visits want (inr (inr (inr (inl is)))) = ap is_of_visits is
only-of-visits want (inr (inr (inr (inr prints)))) = ap is_of_visits prints.1

module _ (s : MachineView) (sound : IsSoundStage s) where
  pub never-outside : (want : Wants) → s.want ≡ Some want → s.inside ≡ false → is_of_visits want ≡ true → ⊥
  never-outside (wants.Peek l) is outside only = let inside = (comes_as s (Need.Peek l.0) (sound.told (wants.Peek l) is)).0 in cc
  never-outside wants.Close is outside only = let inside = (comes_as s Need.Close (sound.told wants.Close is)).0 in cc
  never-outside (wants.Device device n) is outside only =
      let inside = (comes_as s (Need.Device device n) (sound.told (wants.Device device n) is)).0 in cc
  never-outside wants.Spawn is outside only = let inside = (comes_as s Need.Spawn (sound.told wants.Spawn is)).0 in cc
  never-outside (wants.Print n) is outside only = let inside = (comes_as s (Need.Print n) (sound.told (wants.Print n) is)).0 in cc
  never-outside (wants.Read l) is outside only = cc
  never-outside (wants.Write l) is outside only = cc
  never-outside (wants.Alloc sort number) is outside only = cc
  never-outside wants.Block is outside only = cc
  never-outside wants.Done is outside only = cc
  never-outside wants.Leave is outside only = cc
  never-outside wants.Tall is outside only = cc
  never-outside wants.OutOfFuel is outside only = cc

  -- a machine of protected code that is ready and goes on, whose slice isn't full if that matters, wants something that is served
  pub never-unserved : (slice : ℕ) (want : Wants) → s.want ≡ Some want → want ≢ wants.Done → want ≢ wants.Leave → (want ≢ wants.Tall → s.inside ≡ false)
      → IsReady slice s → (waits_for_check (Some want) ≡ true → s.since < slice) → IsUnserved want → ⊥
  never-unserved slice want is undone stays outside ready early (inl done) = undone done
  never-unserved slice want is undone stays outside ready early (inr (inl leaves)) = stays leaves
  never-unserved slice want is undone stays outside ready early (inr (inr (inl fuel))) =
      let told = ready.told in
      let same : ready.want ≡ wants.OutOfFuel = cc in
      let full = (ready.full same).0 in
      let few = early (ap (λ (w : Wants). waits_for_check (Some w)) fuel) in omega (arith, full, few)
  never-unserved slice want is undone stays outside ready early (inr (inr (inr visits))) =
      let only = only-of-visits want visits in never-outside want is (outside (λ tall. absurd (let other = ap is_of_visits tall in cc))) only

  -- a machine that visits and is ready is to be fed what it wants, or has made a step
  pub visit-moved : (slice : ℕ) → IsReady slice s → s.inside ≡ true → (s.want ≡ Some wants.Tall → ⊥) → takes_input s.want ≡ false → 0 < s.steps
  visit-moved slice ready inside short rests = by ready.want ready.told ready.full
    where
      rests-at : (want : Wants) → s.want ≡ Some want → takes_input (Some want) ≡ false
      rests-at want is = sym (ap takes_input is) ∙ rests

      by : (want : Wants) → s.want ≡ Some want → (want ≡ wants.OutOfFuel → (slice ≤ s.since) × (0 < s.since)) → 0 < s.steps
      by (wants.Read l) is full = absurd (let taken = rests-at (wants.Read l) is in cc)
      by (wants.Write l) is full = absurd (let taken = rests-at (wants.Write l) is in cc)
      by (wants.Alloc sort number) is full = absurd (let taken = rests-at (wants.Alloc sort number) is in cc)
      by (wants.Peek l) is full = absurd (let taken = rests-at (wants.Peek l) is in cc)
      by wants.Close is full = absurd (let taken = rests-at wants.Close is in cc)
      by (wants.Device device n) is full = absurd (let taken = rests-at (wants.Device device n) is in cc)
      by wants.Spawn is full = absurd (let taken = rests-at wants.Spawn is in cc)
      by (wants.Print n) is full = absurd (let taken = rests-at (wants.Print n) is in cc)
      by wants.Block is full = absurd (let outside = (comes_as s Need.Block (sound.told wants.Block is)).0 in cc)
      by wants.Done is full = absurd (let outside = (comes_as s Need.Done (sound.told wants.Done is)).0 in cc)
      by wants.Leave is full = absurd (let outside = (comes_as s Need.Leave (sound.told wants.Leave is)).0 in cc)
      by wants.Tall is full = absurd (short is)
      by wants.OutOfFuel is full = let made = (full refl).1 in let counted = sound.counted in omega (arith, made, counted)

module _ {C V M : Type 0} (meaning : Meaning C V M)
    (core : Core C V M) (seat : ℕ) where
  abbrev parts : Parts
  parts = parts_of meaning core

  -- a read isn't valid of protected code alone
  pub bad-outside : (m : M) → Simulates parts → IsAtWork meaning core seat m → (bad : Bad)
      → IsFirstBad core.memory.cells seat (row_at core.memory.rows seat).reads bad → (meaning.stage core.code m).inside ≡ false
  bad-outside m stands at bad first = by (meaning.stage core.code m).inside refl
    where
      by : (b : Bool) → (meaning.stage core.code m).inside ≡ b → (meaning.stage core.code m).inside ≡ false
      by false e = e
      by true e =
          let task = visits-as parts seat (meaning.stage core.code m) at.on.stands e in
          let none : (row_at core.memory.rows seat).reads ≡ [] =
          sym (ap (λ (n : Log Val). n.reads) (row-shown (meaning.value_of core.code) core.memory.rows seat))
          ∙ ap (λ (n : Log Val). n.reads) (visits parts stands seat at.on.stands.attempt task).clear in
          absurd
          (none-invalid seat core.memory.cells bad (subst (λ (reads : List ReadNote). IsFirstBad core.memory.cells seat reads bad) none first))

  -- memory ran out: the engine is as before but for that stop
  module _ (hand : Option MachineView) (mid new : Core C V M) (told : List Told) (outcome : Outcome) (same : mid ≡ core) (going : core.stop ≡ None)
      (halts : mid.stop ≡ None → Makes meaning (Event.Halt Stop.NoMemory) mid new) (is : new ≡ stopped_by Stop.NoMemory mid) (lacks : outcome ≡ Outcome.Lacked) where
    pub lacked : IsDone meaning seat hand core new told told outcome
    lacked = subst (λ (d : Outcome). IsDone meaning seat hand core new told told d) (sym lacks) (record {
      event = IsMade.makes _ _ (IsOutcomeOf.lacked (is ∙ ap (stopped_by Stop.NoMemory) same))
          (subst (λ (x : Core C V M). Makes meaning (Event.Halt Stop.NoMemory) x new) same (halts (ap (λ (x : Core C V M). x.stop) same ∙ going)));
      quiet = λ _. refl;
    })

  -- a seat that begins meets a stop
  module _ (hand : Option MachineView) (new : Core C V M) (told : List Told) where
    abbrev IsStopped : Type 0
    IsStopped = IsMade meaning seat hand core new told told Outcome.Stopped

    pub stops-made : (pick : Pick) → pick_of core ≡ pick → task_at core.tasks seat ≡ Task.Idle → StopsBy (certificates_in parts) pick core new
        → ((why : Stop) → stop_met pick ≡ Some why → Makes meaning (Event.Halt why) core new) → IsStopped
    stops-made (Pick.Member number) met idle h halts = absurd h
    stops-made Pick.Stopped met idle h halts = IsMade.rests (record { idle = idle; meets = met }) h
    stops-made Pick.Finished met idle h halts =
        IsMade.makes _ _ (IsOutcomeOf.stopped Pick.Finished Stop.Finished (record { idle = idle; meets = met }) refl h) (halts Stop.Finished refl)
    stops-made Pick.Blocked met idle h halts =
        IsMade.makes _ _ (IsOutcomeOf.stopped Pick.Blocked Stop.Blocked (record { idle = idle; meets = met }) refl h) (halts Stop.Blocked refl)
    stops-made Pick.Spent met idle h halts =
        IsMade.makes _ _ (IsOutcomeOf.stopped Pick.Spent Stop.Spent (record { idle = idle; meets = met }) refl h) (halts Stop.Spent refl)
    stops-made Pick.Idle met idle h halts = absurd h

-- what a seat meets takes memory while no stop is kept
goes-on : (o : Option Stop) (pick : Pick) → takes_memory (if is_some o then Pick.Stopped else pick) ≡ true → o ≡ None
goes-on None pick e = refl
goes-on (Some why) pick e = cc

pub takes-going : {C V M : Type 0} (core : Core C V M) → takes_memory (pick_of core) ≡ true → core.stop ≡ None
takes-going core e = goes-on core.stop _ e

-- there is no machine
pub none-at : (s : MachineView) → None ≡ Some s → ⊥
none-at s e = cc

-- a seat that undoes runs no code
undoing-none : (t : Task) → is_undoing t ≡ true → working t ≡ None
undoing-none Task.Idle e = refl
undoing-none (Task.Running a) e = cc
undoing-none (Task.Free a) e = cc
undoing-none (Task.Undoing a reason) e = refl

pub undoing-works : {C V M : Type 0} (core : Core C V M) (seat : ℕ) → CanUndo core seat → core.stop ≡ None → working (task_at core.tasks seat) ≡ None
undoing-works core seat can going = undoing-none (task_at core.tasks seat) (can.undoes (ap is_some going))

-- it was due
pub lacked-due : {C V M : Type 0} (core : Core C V M) (seat : ℕ) (hand : Option MachineView) (outcome : Outcome) → outcome ≡ Outcome.Lacked → IsToTakeMemory core seat hand
    → LacksWhereDue core seat hand outcome
lacked-due core seat hand outcome is due = subst (LacksWhereDue core seat hand) (sym is) due

-- A call keeps the number of devices

call-counts : (before after : List Told) (k : ℕ) (argument : ℤ) (result : Result ℤ DeviceFail) → CallsOne before k argument result after
    → length after ≡ length before
call-counts before after k argument result calls = ap length calls.others ∙ length-set before k calls.is

visit-counts : (s n : MachineView) (memory later : MemoryView Val) (before after : List Told) (answer : Option ℤ) → VisitsTo s memory before answer n later after
    → length after ≡ length before
visit-counts s n memory later before after answer (VisitsTo.rests alone) = refl
visit-counts s n memory later before after answer (VisitsTo.reads l v m want is fed) = refl
visit-counts s n memory later before after answer (VisitsTo.peeks l v m want is fed) = refl
visit-counts s n memory later before after answer (VisitsTo.writes l v m want sets fed) = refl
visit-counts s n memory later before after answer (VisitsTo.makes sort number v m want sets fed) = refl
visit-counts s n memory later before after answer (VisitsTo.spawns m want fed) = refl
visit-counts s n memory later before after answer (VisitsTo.prints i m want fed) = refl
visit-counts s n memory later before after answer (VisitsTo.closes m want closes) = refl
visit-counts s n memory later before after answer (VisitsTo.calls device argument given m told want calls fed) =
    call-counts before told device argument (Ok given) calls

module _ {C V M : Type 0} (meaning : Meaning C V M) (seat : ℕ) (hand : Option MachineView)
    (old new : Core C V M) (before after : List Told) where
  row-counts : (outcome : Outcome) → HasRow meaning seat hand old new before after outcome → length after ≡ length before
  row-counts Outcome.CameHome d =
      let home = d.event.4 in visit-counts d.event.0 home.comes (parts_of meaning old).memory home.memory before after home.answer home.visits
  row-counts (Outcome.DeviceFailed device) d = let refused = d.event.4 in call-counts before after device refused.argument (Err DeviceFail.Failed) refused.fails
  row-counts Outcome.Began d = ap length (d.quiet refl)
  row-counts Outcome.Waited d = ap length (d.quiet refl)
  row-counts Outcome.Stopped d = ap length (d.quiet refl)
  row-counts Outcome.Read d = ap length (d.quiet refl)
  row-counts Outcome.Wrote d = ap length (d.quiet refl)
  row-counts (Outcome.Met owner) d = ap length (d.quiet refl)
  row-counts Outcome.Allocated d = ap length (d.quiet refl)
  row-counts Outcome.Checked d = ap length (d.quiet refl)
  row-counts (Outcome.FoundInvalid bad) d = ap length (d.quiet refl)
  row-counts Outcome.Ended d = ap length (d.quiet refl)
  row-counts Outcome.Left d = ap length (d.quiet refl)
  row-counts (Outcome.Refused bad) d = ap length (d.quiet refl)
  row-counts Outcome.Noted d = ap length (d.quiet refl)
  row-counts (Outcome.NotNoted bad) d = ap length (d.quiet refl)
  row-counts Outcome.GrewTall d = ap length (d.quiet refl)
  row-counts (Outcome.NotTall bad) d = ap length (d.quiet refl)
  row-counts Outcome.Spent d = ap length (d.quiet refl)
  row-counts Outcome.Undid d = ap length (d.quiet refl)
  row-counts Outcome.WentHome d = ap length (d.quiet refl)
  row-counts Outcome.Lacked d = ap length (d.quiet refl)

  pub told-counts : (outcome : Outcome) → IsDone meaning seat hand old new before after outcome → length after ≡ length before
  told-counts outcome done = row-counts outcome (rowed meaning seat hand old new before after outcome done)

-- no stop is kept
pub none-kept : {A : Type 0} (kept : Option A) → false ≡ is_some kept → kept ≡ None
none-kept None going = refl
none-kept (Some stop) going = absurd (let is : false ≡ true = going in cc)
