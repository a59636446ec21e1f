-- Machines at work can make steps, and those that are ready can do what they want.
use Rattle.std.proofs.Common.{◌≡◌, ℕ, ◌+◌, ◌*◌, ◌-◌, ◌^◌, ◌<◌, ◌≤◌, Bool, true, false, List, [], refl, sym, ap, subst, arith}
use Rattle.std.proofs.lemmas.Nat.{mul-le}
use Rattle.ame_term.specs.Tree.{Typ, Val}
use Rattle.ame_term.specs.Frame.{Side, side_told}
use Rattle.ame_machine.specs.Run.Fit.{IsTypedThroughout}
use Rattle.ame_rows.specs.MemoryView.{Log, row_at}
use Rattle.ame_protocol.specs.Row.Scoped.{live_types}
use Rattle.ame_machine.specs.MachineView.{MachineView, OnRun}
use Rattle.ame_machine.specs.Sound.{CanRun}
use Rattle.ame_machine.specs.Move.{AdvancesWithin}
use Rattle.ame_machine.proofs.RunnableLemmas.{runs-typed}
use Rattle.ame_protocol.specs.declared.types.Task.{Task}
use Rattle.ame_protocol.specs.Engine.Parts.{Parts, heap_in, task_at, term_at}
use Rattle.ame_protocol.specs.Engine.Tasks.{RunsProtected, MeetsTask}
use Rattle.ame_protocol.specs.Engine.Simulates.{Simulates}
use Rattle.ame_protocol.proofs.Visits.PlaceLemmas.{visits, begins-under, throughout}
use Rattle.ame_engine.specs.Core.{Core}
use Rattle.ame_engine.specs.Seen.{parts_of}
use Rattle.ame_engine.specs.AtWork.{IsOnSeat}
use Rattle.ame_engine.proofs.ReadLemmas.{runs-as}
use Rattle.ame_engine.proofs.RunLemmas.{can-run}
use Rattle.ame_engine.proofs.VisitPlaceLemmas.{visits-as}
use Rattle.ame_shell.specs.declared.work.Work.{Work}
use Rattle.ame_shell.specs.declared.work.Work.TheVariants as work
use Rattle.ame_shell.specs.Work.{IsAtWork, Fits}
use Rattle.ame_shell.specs.Ready.{CanGoOn, CanBePrepared, IsPrepared}
use Rattle.ame_shell.proofs.FedLemmas.{advanced-on}
use Rattle.ame_shell.proofs.RestLemmas.{at-work}
use Rattle.ame_machine.specs.Meaning.{Meaning}

module _ (parts : Parts) (stands : Simulates parts) (seat : ℕ) (s : MachineView) (on : IsOnSeat parts seat s) where
  -- the machine of a visit can run
  visit-runs : s.inside ≡ true → CanRun s
  visit-runs inside =
      let a = on.attempt in
      let start = term_at parts.pool a.tried.number in
      let task : task_at parts.tasks seat ≡ Task.Free a = visits-as parts seat s on inside in
      let none : (row_at parts.memory.rows seat).inputs ≡ [] = ap (λ (notes : Log Val). notes.inputs) (visits parts stands seat a task).clear in
      let alone : OnRun start [] s = subst (λ (inputs : List Val). OnRun start inputs s) none on.run in
      let cells = live_types (heap_in parts) stands.types in
      let typed = subst (λ (x : Side). IsTypedThroughout parts.signature cells x start [] Typ.Unit) (sym (ap side_told inside)) (throughout parts stands seat a task) in
      (parts.signature, cells, runs-typed parts.signature cells start [] s typed alone (λ _. begins-under parts stands seat a task))

  -- the machine of a seat can run
  pub runs-on : CanRun s
  runs-on = by s.inside refl
    where
      by : (b : Bool) → s.inside ≡ b → CanRun s
      by false e = can-run parts stands seat s on e
      by true e = visit-runs e

  tries-few : on.attempt.tried.steps ≤ parts.limits.slice * parts.turns
  tries-few = by s.inside refl
    where
      by : (b : Bool) → s.inside ≡ b → on.attempt.tried.steps ≤ parts.limits.slice * parts.turns
      by false e =
          let runs : RunsProtected parts stands.types seat on.attempt =
          subst (MeetsTask parts stands.types seat) (runs-as parts seat s on e) (stands.seats seat) in runs.work.few
      by true e = (visits parts stands seat on.attempt (visits-as parts seat s on e)).work.few

  -- its steps are few
  pub few-steps : parts.limits.slice < 2 ^ 32 → parts.limits.turns < 2 ^ 32 → s.since ≤ parts.limits.slice
      → s.steps + (parts.limits.slice - s.since) + 1 < 2 ^ 64
  few-steps slice turns within =
      let tried = tries-few in
      let made : parts.turns ≤ parts.limits.turns = stands.bounded.turns in
      let most : parts.limits.slice * parts.turns ≤ (2 ^ 32 - 1) * (2 ^ 32 - 1) =
      mul-le parts.limits.slice parts.turns (2 ^ 32 - 1) (2 ^ 32 - 1) (omega arith) (omega arith) in
      let since : s.steps ≡ s.since + on.attempt.tried.steps = on.since in
      omega (arith, tried, most, since, within, slice)

module _ {C V M : Type 0} (meaning : Meaning C V M)
    (core : Core C V M) (seat : ℕ) where
  abbrev parts : Parts
  parts = parts_of meaning core

  goes-on : (m : M) → Simulates parts → IsAtWork meaning core seat m → core.limits.slice < 2 ^ 32 → core.limits.turns < 2 ^ 32
      → CanGoOn meaning.is_machine meaning.stage core.code core.limits.slice m
  goes-on m stands at slice turns =
      let few = few-steps parts stands seat (meaning.stage core.code m) at.on.stands slice turns at.within in
      record { machine = at.on.machine; runs = runs-on parts stands seat (meaning.stage core.code m) at.on.stands; few = omega (arith, few) }

  -- a seat's work in flight can be prepared
  pub can-prepare : (w : Work M) → Simulates parts → Fits meaning core seat w → core.limits.slice < 2 ^ 32
      → core.limits.turns < 2 ^ 32 → CanBePrepared meaning.is_machine meaning.stage core.code core.limits.slice w
  can-prepare work.Idle stands fits slice turns = tt
  can-prepare (work.Running m) stands fits slice turns = goes-on m stands fits slice turns
  can-prepare work.Undoing stands fits slice turns = tt

  -- and fits still once it is
  pub prepared-fits : (old new : Work M) → Fits meaning core seat old
      → IsPrepared meaning.is_machine meaning.stage core.code core.limits.slice old new → Fits meaning core seat new
  prepared-fits work.Idle work.Idle fits is = fits
  prepared-fits work.Idle (work.Running n) fits is = absurd is
  prepared-fits work.Idle work.Undoing fits is = absurd is
  prepared-fits (work.Running m) work.Idle fits is = absurd is
  prepared-fits (work.Running m) (work.Running n) fits is =
      let ran : AdvancesWithin (core.limits.slice - (meaning.stage core.code m).since) (meaning.stage core.code m) (meaning.stage core.code n) = is.ran in
      at-work meaning core seat n is.machine
      (advanced-on parts seat (meaning.stage core.code m) (record { on = fits.on.stands; low = fits.low }) (core.limits.slice - (meaning.stage core.code m).since) (meaning.stage core.code n) ran)
      (let before = fits.within in let more = ran.within in let since = ran.advances.since in omega (arith, before, more, since))
  prepared-fits (work.Running m) work.Undoing fits is = absurd is
  prepared-fits work.Undoing work.Idle fits is = absurd is
  prepared-fits work.Undoing (work.Running n) fits is = absurd is
  prepared-fits work.Undoing work.Undoing fits is = fits

-- what is prepared with the engine's code and slice
module _ {C M : Type 0} (is_machine : C → M → Type 0) (stage : C → M → MachineView) (code other : C) (slice most : ℕ) (same : code ≡ other) (is : slice ≡ most) where
  pub can-with : (w : Work M) → CanBePrepared is_machine stage other most w → CanBePrepared is_machine stage code slice w
  can-with w can = subst (λ (n : ℕ). CanBePrepared is_machine stage code n w) (sym is) (subst (λ (c : C). CanBePrepared is_machine stage c most w) (sym same) can)

  pub prepared-with : (v w : Work M) → IsPrepared is_machine stage code slice v w → IsPrepared is_machine stage other most v w
  prepared-with v w can = subst (λ (n : ℕ). IsPrepared is_machine stage other n v w) is (subst (λ (c : C). IsPrepared is_machine stage c slice v w) same can)
