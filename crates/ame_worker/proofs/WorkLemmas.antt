-- A worker's work in flight stays, but for steps that its machine made alone.
use Rattle.std.proofs.Common.{ℕ, ◌+◌, ◌-◌, sym, ap, ◌∙◌, subst, arith}
use Rattle.std.specs.Prelude.{option_and_then}
use Rattle.ame_term.specs.Frame.{Side, side_told}
use Rattle.ame_machine.specs.Run.Local.{LocalState, goes}
use Rattle.ame_machine.proofs.Run.RunLemmas.{goes-added}
use Rattle.ame_machine.specs.MachineView.{MachineView, running_side, place_shown}
use Rattle.ame_machine.specs.Move.{Advances, GoesLow, AdvancesWithin}
use Rattle.ame_machine.proofs.MoveLemmas.{low-none, low-added, advances-none}
use Rattle.ame_machine.proofs.RunnableLemmas.{runs-advanced}
use Rattle.ame_shell.specs.declared.work.Work.{Work}
use Rattle.ame_shell.specs.declared.work.Work.TheVariants as work
use Rattle.ame_shell.specs.Ready.{CanBePrepared, IsPrepared}

-- steps, and then more steps
both-advance : (j k : ℕ) (s t u : MachineView) → Advances j s t → Advances k t u → Advances (j + k) s u
both-advance j k s t u a b = record {
  run =
      goes-added (running_side s) (place_shown s) j k
      ∙ ap (option_and_then (λ (q : LocalState). goes (running_side s) q k)) a.run
      ∙ ap (λ (side : Side). goes side (place_shown t) k) (ap side_told (sym a.inside))
      ∙ b.run;
  inside = b.inside ∙ a.inside;
  steps = let x = a.steps in let y = b.steps in omega (arith, x, y);
  since = let x = a.since in let y = b.since in omega (arith, x, y);
}

both-low : (j k : ℕ) (s t : MachineView) → Advances j s t → GoesLow (running_side s) (place_shown s) j → GoesLow (running_side t) (place_shown t) k
    → GoesLow (running_side s) (place_shown s) (j + k)
both-low j k s t a first second =
    low-added (running_side s) (place_shown s) (place_shown t) j k a.run first
    (subst (λ (side : Side). GoesLow side (place_shown t) k) (ap side_told a.inside) second)

module _ {C M : Type 0} (is_machine : C → M → Type 0) (stage : C → M → MachineView) (code : C) (slice : ℕ) where
  -- nothing was done
  pub prepared-none : (hand : Work M) → CanBePrepared is_machine stage code slice hand → IsPrepared is_machine stage code slice hand hand
  prepared-none work.Idle can = tt
  prepared-none (work.Running m) can = record {
    machine = can.machine;
    ran = record {
      made = 0;
      within = omega arith;
      advances = advances-none (stage code m);
      low = low-none (running_side (stage code m)) (place_shown (stage code m));
    };
  }
  prepared-none work.Undoing can = tt

  -- one preparation after another
  pub prepared-twice : (old mid new : Work M) → IsPrepared is_machine stage code slice old mid → IsPrepared is_machine stage code slice mid new
      → IsPrepared is_machine stage code slice old new
  prepared-twice work.Idle work.Idle new p q = q
  prepared-twice work.Idle (work.Running m) new p q = absurd p
  prepared-twice work.Idle work.Undoing new p q = absurd p
  prepared-twice (work.Running m) work.Idle new p q = absurd p
  prepared-twice (work.Running m) (work.Running n) work.Idle p q = absurd q
  prepared-twice (work.Running m) (work.Running n) (work.Running o) p q =
      let a : AdvancesWithin (slice - (stage code m).since) (stage code m) (stage code n) = p.ran in
      let b : AdvancesWithin (slice - (stage code n).since) (stage code n) (stage code o) = q.ran in
      record {
        machine = q.machine;
        ran = record {
          made = a.made + b.made;
          within = let x = a.within in let y = b.within in let since = a.advances.since in omega (arith, x, y, since);
          advances = both-advance a.made b.made (stage code m) (stage code n) (stage code o) a.advances b.advances;
          low = both-low a.made b.made (stage code m) (stage code n) a.advances a.low b.low;
        };
      }
  prepared-twice (work.Running m) (work.Running n) work.Undoing p q = absurd q
  prepared-twice (work.Running m) work.Undoing new p q = absurd p
  prepared-twice work.Undoing work.Idle new p q = absurd p
  prepared-twice work.Undoing (work.Running m) new p q = absurd p
  prepared-twice work.Undoing work.Undoing new p q = q

  -- what was prepared can be prepared again
  pub prepared-can : (old new : Work M) → CanBePrepared is_machine stage code slice old → IsPrepared is_machine stage code slice old new
      → CanBePrepared is_machine stage code slice new
  prepared-can work.Idle work.Idle can is = tt
  prepared-can work.Idle (work.Running n) can is = absurd is
  prepared-can work.Idle work.Undoing can is = absurd is
  prepared-can (work.Running m) work.Idle can is = absurd is
  prepared-can (work.Running m) (work.Running n) can is =
      let ran : AdvancesWithin (slice - (stage code m).since) (stage code m) (stage code n) = is.ran in
      record {
        machine = is.machine;
        runs = (can.runs.0, can.runs.1, runs-advanced can.runs.0 can.runs.1 ran.made (stage code m) (stage code n) can.runs.2 ran.advances);
        few = let few = can.few in let more = ran.within in let steps = ran.advances.steps in let since = ran.advances.since in omega (arith, few, more, steps, since);
      }
  prepared-can (work.Running m) work.Undoing can is = absurd is
  prepared-can work.Undoing work.Idle can is = absurd is
  prepared-can work.Undoing (work.Running n) can is = absurd is
  prepared-can work.Undoing work.Undoing can is = tt
