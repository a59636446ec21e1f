-- The machine of a seat is prepared when its turn comes, or memory ran out.
use Rattle.std.proofs.Common.{◌≡◌, ℕ, ◌<◌, ◌≤◌, ◌⊎◌, inl, inr, Bool, true, false, Option, Some, None, refl, sym, ap, ◌∙◌, subst, arith}
use Rattle.std.specs.Prelude.{is_some, unwrap_or}
use Rattle.std.proofs.lemmas.Bool.{cases_lt}
use Rattle.ame_machine.specs.declared.wants.Wants.{Wants}
use Rattle.ame_machine.specs.declared.wants.Wants.TheVariants as wants
use Rattle.ame_machine.specs.MachineView.{MachineView}
use Rattle.ame_machine.specs.Meaning.{Meaning}
use Rattle.ame_machine.specs.Sound.{IsSoundStage}
use Rattle.ame_protocol.specs.Engine.Parts.{Parts, task_at, working}
use Rattle.ame_engine.specs.Core.{Core}
use Rattle.ame_engine.specs.Seen.{parts_of}
use Rattle.ame_shell.specs.declared.work.Outcome.{Outcome}
use Rattle.ame_shell.specs.declared.work.Work.{Work}
use Rattle.ame_shell.specs.declared.work.Work.TheVariants as work
use Rattle.ame_shell.specs.Asked.{LacksAsDue}
use Rattle.ame_shell.specs.Ready.{IsReady, IsReadyWork}
use Rattle.ame_shell.specs.Work.{stage_at, IsAtWork, Fits}
use Rattle.ame_shell.proofs.DoneLemmas.{undoing-works}
use Rattle.ame_sim.specs.Prepared.{IsPreparedStage, IsPreparedHand}

-- A machine is ready or it isn't

abbrev is_fuel : Wants → Bool
is_fuel wants.OutOfFuel = true
is_fuel _ = false

fuel-is : (want : Wants) → is_fuel want ≡ true → want ≡ wants.OutOfFuel
fuel-is wants.OutOfFuel e = refl
fuel-is _ e = cc

module _ (slice : ℕ) (s : MachineView) where
  abbrev IsDecided : Type 0
  IsDecided = IsReady slice s ⊎ (IsReady slice s → ⊥)

  want-one : (want : Wants) → s.want ≡ Some want → (ready : IsReady slice s) → ready.want ≡ want
  want-one want is ready = let both : Some ready.want ≡ Some want = sym ready.told ∙ is in cc

  fueled : (want : Wants) → s.want ≡ Some want → want ≡ wants.OutOfFuel → (s.since < slice) ⊎ (slice ≤ s.since) → (0 < s.since) ⊎ (s.since ≤ 0) → IsDecided
  fueled want is fuel (inr full) (inl some) = inl (record { want = want; told = is; full = λ _. (full, some) })
  fueled want is fuel (inl early) some = inr (λ ready. let full = (ready.full (want-one want is ready ∙ fuel)).0 in omega (arith, full, early))
  fueled want is fuel full (inr none) = inr (λ ready. let some = (ready.full (want-one want is ready ∙ fuel)).1 in omega (arith, some, none))

  pub ready-or-not : IsDecided
  ready-or-not = by s.want refl
    where
      wanting : (want : Wants) → s.want ≡ Some want → (b : Bool) → is_fuel want ≡ b → IsDecided
      wanting want is true fuel = fueled want is (fuel-is want fuel) (cases_lt s.since slice) (cases_lt 0 s.since)
      wanting want is false other =
          inl (record { want = want; told = is; full = λ fuel. absurd (let clash : true ≡ false = sym (ap is_fuel fuel) ∙ other in cc) })

      by : (o : Option Wants) → s.want ≡ o → IsDecided
      by None none = inr (λ ready. let clash : ◌≡◌ {A = Option Wants} None (Some ready.want) = sym none ∙ ready.told in cc)
      by (Some want) is = wanting want is (is_fuel want) refl

module _ {C V M : Type 0} (meaning : Meaning C V M) (sound : (code : C) (m : M) → meaning.is_machine code m → IsSoundStage (meaning.stage code m))
    (core : Core C V M) (seat : ℕ) where
  abbrev parts : Parts
  parts = parts_of meaning core

  stage-prepared : (m : M) → IsAtWork meaning core seat m → IsReady core.limits.slice (meaning.stage core.code m)
      → IsPreparedStage parts seat (meaning.stage core.code m)
  stage-prepared m at ready =
      record { stands = at.on.stands; within = at.within; ready = ready; sound = sound core.code m at.on.machine; low = at.low }

  none-runs : working (task_at core.tasks seat) ≡ None → IsPreparedHand parts seat None
  none-runs none = record {
    there = λ has. absurd (let clash : false ≡ true = sym (ap is_some none) ∙ has in cc);
    prepared = λ s e. absurd (let clash : ◌≡◌ {A = Option MachineView} None (Some s) = e in cc);
  }

  hand-prepared : (w : Work M) → Fits meaning core seat w → core.stop ≡ None → IsReadyWork meaning.stage core.code core.limits.slice w
      → IsPreparedHand parts seat (stage_at meaning.stage core.code w)
  hand-prepared work.Idle idle going ready = none-runs (ap working idle)
  hand-prepared work.Undoing can going ready = none-runs (undoing-works core seat can going)
  hand-prepared (work.Running m) at going ready = record {
    there = λ _. refl;
    prepared = λ s e.
        let is : meaning.stage core.code m ≡ s = ap (λ (o : Option MachineView). unwrap_or o s) e in
        subst (IsPreparedStage parts seat) is (stage-prepared m at ready);
  }

  pub prepared-or-lacked : (w : Work M) (outcome : Outcome) → Fits meaning core seat w → LacksAsDue meaning.stage core seat w outcome → core.stop ≡ None
      → (outcome ≡ Outcome.Lacked) ⊎ IsPreparedHand parts seat (stage_at meaning.stage core.code w)
  prepared-or-lacked work.Idle outcome fits lacks going = inr (hand-prepared work.Idle fits going tt)
  prepared-or-lacked work.Undoing outcome fits lacks going = inr (hand-prepared work.Undoing fits going tt)
  prepared-or-lacked (work.Running m) outcome fits lacks going = by (ready-or-not core.limits.slice (meaning.stage core.code m))
    where
      by : IsReady core.limits.slice (meaning.stage core.code m) ⊎ (IsReady core.limits.slice (meaning.stage core.code m) → ⊥)
          → (outcome ≡ Outcome.Lacked) ⊎ IsPreparedHand parts seat (Some (meaning.stage core.code m))
      by (inl ready) = inr (hand-prepared (work.Running m) fits going ready)
      by (inr unready) = inl (lacks.unready unready going)
