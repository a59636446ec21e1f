-- A seat that says that it has stopped has nothing at work, and a stop is kept.
use Rattle.std.proofs.Common.{◌≡◌, ℕ, Bool, true, false, List, Option, IsSome, refl, ap, ◌∙◌, subst}
use Rattle.std.specs.Prelude.{is_some, nat_lt, if◌then◌else◌}
use Rattle.ame_pool.specs.declared.oldest.Oldest.{Oldest}
use Rattle.ame_pool.specs.Begin.{oldest}
use Rattle.ame_protocol.specs.declared.types.Task.{Task}
use Rattle.ame_protocol.specs.Engine.Parts.{task_at}
use Rattle.ame_journal.specs.declared.certificate.Certificate.{Certificate}
use Rattle.ame_engine.specs.declared.pick.Pick.{Pick}
use Rattle.ame_engine.specs.Begins.{pick_by, pick_of}
use Rattle.ame_protocol.specs.Event.Causes.{certificates_in}
use Rattle.ame_engine.specs.Core.{Core}
use Rattle.ame_engine.specs.Seen.{parts_of}
use Rattle.ame_shell.specs.declared.work.Outcome.{Outcome}
use Rattle.ame_shell.proofs.OutcomeRows.{rowed}
use Rattle.ame_shell.specs.Outcomes.{StopsBy}
use Rattle.ame_shell.specs.Shell.{ShellView}
use Rattle.ame_shell.specs.Turned.{HasTurned}
use Rattle.ame_worker.specs.declared.gate.Point.{Point}
use Rattle.ame_worker.specs.declared.worker.TurnAnswer.{TurnAnswer}
use Rattle.ame_worker.specs.Leads.{RestsAtStop}
use Rattle.ame_worker.specs.Points.{point_of}
use Rattle.ame_machine.specs.MachineView.{MachineView}
use Rattle.ame_machine.specs.Meaning.{Meaning}

pub did-is : (p q : Point) → TurnAnswer.Did p ≡ TurnAnswer.Did q → p ≡ q
did-is p q e = cc

pub point-stopped : (outcome : Outcome) (member : Option ℕ) → point_of outcome member ≡ Point.Stopped → outcome ≡ Outcome.Stopped
point-stopped Outcome.Stopped member e = refl
point-stopped _ member e = cc

-- only a kept stop is met as one
by-stop : (stopped spent : Bool) (o : Oldest) → (if stopped then Pick.Stopped else pick_by spent o) ≡ Pick.Stopped → stopped ≡ true
by-stop true spent o e = refl
by-stop false spent Oldest.Empty e = cc
by-stop false spent Oldest.Parked e = cc
by-stop false true (Oldest.Member number) e = cc
by-stop false false (Oldest.Member number) e = cc
by-stop false true Oldest.Wait e = cc
by-stop false false Oldest.Wait e = cc

module _ {C V M : Type 0} where
  -- a stop that a seat meets is kept then, and no task changes
  record Stops (old new : Core C V M) : Type 0 where
    pub tasks : new.tasks ≡ old.tasks
    pub stop : IsSome new.stop

  stops-so : (certificates : List Certificate) (pick : Pick) (old new : Core C V M) → pick_of old ≡ pick → StopsBy certificates pick old new → Stops old new
  stops-so certificates Pick.Stopped old new met is = record {
    tasks = ap (λ (c : Core C V M). c.tasks) is;
    stop =
        ap (λ (c : Core C V M). is_some c.stop) is
        ∙ by-stop (is_some old.stop) (if nat_lt old.turns old.limits.turns then false else true) (oldest old.pool) met;
  }
  stops-so certificates Pick.Finished old new met is = record { tasks = ap (λ (c : Core C V M). c.tasks) is; stop = ap (λ (c : Core C V M). is_some c.stop) is }
  stops-so certificates Pick.Blocked old new met is = record { tasks = ap (λ (c : Core C V M). c.tasks) is; stop = ap (λ (c : Core C V M). is_some c.stop) is }
  stops-so certificates Pick.Spent old new met is = record { tasks = ap (λ (c : Core C V M). c.tasks) is; stop = ap (λ (c : Core C V M). is_some c.stop) is }
  stops-so certificates Pick.Idle old new met is = absurd is
  stops-so certificates (Pick.Member number) old new met is = absurd is

module _ {C V M : Type 0} (meaning : Meaning C V M) where
  -- a seat that says that it has stopped
  pub has-stopped : (seat : ℕ) (hand : Option MachineView) (old new : ShellView C V M) (outcome : Outcome) → HasTurned meaning seat hand old new outcome
      → outcome ≡ Outcome.Stopped → RestsAtStop new.core seat
  has-stopped seat hand old new outcome turned is =
      let t : HasTurned meaning seat hand old new Outcome.Stopped = subst (λ (d : Outcome). HasTurned meaning seat hand old new d) is turned in
      let event = (rowed meaning seat hand old.core t.core old.ends.told new.ends.told Outcome.Stopped t.done).event in
      let stops = stops-so (certificates_in (parts_of meaning old.core)) event.0 old.core t.core event.1.meets event.2 in
      let core : new.core ≡ t.core = ap (λ (s : ShellView C V M). s.core) (t.stays refl) in
      record {
        idle = ap (λ (c : Core C V M). task_at c.tasks seat) core ∙ ap (λ (ts : List Task). task_at ts seat) stops.tasks ∙ event.1.idle;
        stop = ap (λ (c : Core C V M). is_some c.stop) core ∙ stops.stop;
      }
