-- A turn keeps a shell.
use Rattle.std.proofs.Common.{◌≡◌, ℕ, ◌+◌, ◌<◌, ◌≤◌, ◌⊎◌, inl, inr, Bool, true, false, List, length, Option, Some, None, refl, sym, ap, ◌∙◌, subst, arith}
use Rattle.std.specs.Prelude.{ℤ, unwrap_or}
use Rattle.std.specs.Option.{option_or}
use Rattle.std.proofs.lemmas.List.{length-append, length-drop}
use Rattle.ame_io.specs.Lines.{lines}
use Rattle.ame_io.proofs.LinesLemmas.{lines-append}
use Rattle.ame_device.specs.declared.told.Told.{Told}
use Rattle.ame_machine.specs.MachineView.{MachineView}
use Rattle.ame_machine.specs.Sound.{IsSoundStage}
use Rattle.ame_protocol.specs.Engine.Parts.{Parts}
use Rattle.ame_protocol.specs.Engine.Simulates.{Simulates}
use Rattle.ame_protocol.specs.declared.stop.Stop.{Stop}
use Rattle.ame_shell.specs.Low.{IsLowOnSeat}
use Rattle.ame_engine.specs.Core.{Core}
use Rattle.ame_engine.specs.Seen.{parts_of}
use Rattle.ame_engine.specs.Stops.{stopped_by}
use Rattle.ame_shell.specs.declared.work.Outcome.{Outcome}
use Rattle.ame_shell.specs.declared.work.Work.{Work}
use Rattle.ame_shell.specs.declared.work.Work.TheVariants as work
use Rattle.ame_shell.specs.Work.{stage_at, Fits}
use Rattle.ame_shell.specs.Outcomes.{is_visit, IsDone}
use Rattle.ame_shell.proofs.OutcomeRows.{HasRow, rowed}
use Rattle.ame_shell.specs.Ends.{Ends}
use Rattle.ame_shell.specs.Heard.{HaveFailed}
use Rattle.ame_shell.specs.Shell.{ShellView, Opening, GoesTo, IsSentSince, IsOpenedSo, HasRun, IsShell}
use Rattle.ame_shell.specs.Turned.{HasFlushed, is_to_flush, HasTurned, member_told}
use Rattle.ame_shell.proofs.StopLemmas.{quiet-goes}
use Rattle.ame_shell.proofs.OutcomeLemmas.{outcome-silent, outcome-opened, outcome-more}
use Rattle.ame_shell.proofs.SendLemmas.{flush-keeps}
use Rattle.ame_shell.proofs.RanLemmas.{ran-made, ran-flushed}
use Rattle.ame_machine.specs.Meaning.{Meaning}

-- an outcome that leaves no lines is no visit, or a device failed
no-lines : (outcome : Outcome) → is_to_flush outcome ≡ false → (is_visit outcome ≡ false) ⊎ ((device : ℕ) × (outcome ≡ Outcome.DeviceFailed device))
no-lines (Outcome.DeviceFailed device) e = inr (device, refl)
no-lines Outcome.CameHome e = cc
no-lines _ e = inl refl

-- the member before a turn, or otherwise the one after it
pub or-told : (before after : Option ℕ) → option_or before after ≡ member_told before after
or-told None after = refl
or-told (Some number) after = refl

-- what is so whether lines come or not
pub by-flush : {X : Type 0} (b : Bool) → (b ≡ true → X) → (b ≡ false → X) → X
by-flush true sent stayed = sent refl
by-flush false sent stayed = stayed refl

module _ {C V M : Type 0} (meaning : Meaning C V M) where
  abbrev parts : Core C V M → Parts
  parts core = parts_of meaning core

  -- after an outcome that leaves no lines
  calm : (seat : ℕ) (hand : Option MachineView) (old new : Core C V M) (before after : List Told) (outcome : Outcome) → is_to_flush outcome ≡ false
      → HasRow meaning seat hand old new before after outcome → (opened now : Ends) (sent : ℕ)
      → IsSentSince opened now old.stop sent (lines old.output) → IsSentSince opened now new.stop sent (lines new.output)
  calm seat hand old new before after outcome e h opened now sent s = by (no-lines outcome e)
    where
      after-all : new.output ≡ old.output → GoesTo new.stop sent (lines old.output) opened.write_faults now.write_faults
          → IsSentSince opened now new.stop sent (lines new.output)
      after-all same goes =
          subst (λ (t : List ℕ). IsSentSince opened now new.stop sent t) (sym (ap lines same)) (record { first = s.first; goes = goes })

      failed : (device : ℕ) → HasRow meaning seat hand old new before after (Outcome.DeviceFailed device)
          → IsSentSince opened now new.stop sent (lines new.output)
      failed device d =
          let x = d.event in
          let m = x.4.event in
          after-all (ap (λ (p : Parts). p.output) m.parts)
          (subst (λ (o : Option Stop). GoesTo o sent (lines old.output) opened.write_faults now.write_faults) (sym m.stop)
          (subst (λ (o : Option Stop). GoesTo o sent (lines old.output) opened.write_faults now.write_faults) x.1.goes.going s.goes))

      by : (is_visit outcome ≡ false) ⊎ ((device : ℕ) × (outcome ≡ Outcome.DeviceFailed device)) → IsSentSince opened now new.stop sent (lines new.output)
      by (inl f) =
          let silent = outcome-silent meaning seat old new hand before after outcome e f h.event in
          after-all silent.output (quiet-goes sent (lines old.output) opened.write_faults now.write_faults old.stop new.stop silent.recorded.stop s.goes)
      by (inr d) = failed d.0 (subst (λ (x : Outcome). HasRow meaning seat hand old new before after x) d.1 h)

  -- what was opened so stays so once lines are sent
  pub flush-opened : (opening : Opening C) (old new : ShellView C V M) (told : List Told) → HasFlushed old new → old.core.stop ≡ None
      → IsOpenedSo meaning.program opening old.core told → IsOpenedSo meaning.program opening new.core told
  flush-opened opening old new told (HasFlushed.sends appended stays same sent) going o =
      subst (λ (c : Core C V M). IsOpenedSo meaning.program opening c told) (sym same) o
  flush-opened opening old new told (HasFlushed.fails gone first short risen same sent) going o =
      subst (λ (c : Core C V M). IsOpenedSo meaning.program opening c told) (sym same)
      (record {
        code = o.code;
        limits = o.limits;
        base = o.base;
        seats = o.seats;
        heard = o.heard;
        failed =
            subst (λ (s : Option Stop). HaveFailed (Some (unwrap_or s Stop.WriteFault)) opening.ends.told told) (sym going)
            (subst (λ (s : Option Stop). HaveFailed s opening.ends.told told) going o.failed);
      })

  -- a machine in flight stands on its run
  pub hand-stands : (sound : (code : C) (m : M) → meaning.is_machine code m → IsSoundStage (meaning.stage code m)) (core : Core C V M) (seat : ℕ) (w : Work M)
      → Fits meaning core seat w → (s : MachineView) → stage_at meaning.stage core.code w ≡ Some s → IsLowOnSeat (parts core) seat s × IsSoundStage s
  hand-stands sound core seat (work.Running m) fits s e =
      let is : meaning.stage core.code m ≡ s = ap (λ (o : Option MachineView). unwrap_or o s) e in
      subst (λ (x : MachineView). IsLowOnSeat (parts core) seat x × IsSoundStage x) is
      (record { on = fits.on.stands; low = fits.low }, sound core.code m fits.on.machine)
  hand-stands sound core seat work.Idle fits s e = cc
  hand-stands sound core seat work.Undoing fits s e = cc

  module _ (seat : ℕ) (hand : Option MachineView) (old new : ShellView C V M) (outcome : Outcome) (turned : HasTurned meaning seat hand old new outcome) where
    abbrev mid : ShellView C V M
    mid = record { core = turned.core; sent = old.sent; ends = record old.ends { told = new.ends.told } }

    row : HasRow meaning seat hand old.core turned.core old.ends.told new.ends.told outcome
    row = rowed meaning seat hand old.core turned.core old.ends.told new.ends.told outcome turned.done

    pub turn-keeps : (opening : Opening C) → Simulates (parts old.core) → seat < old.core.limits.seats
        → ((s : MachineView) → hand ≡ Some s → IsLowOnSeat (parts old.core) seat s × IsSoundStage s) → IsShell meaning opening old → IsShell meaning opening new
    turn-keeps opening stands within at-hand h = by (is_to_flush outcome) refl
      where
        opened : IsOpenedSo meaning.program opening mid.core new.ends.told
        opened = outcome-opened meaning seat old.core turned.core stands within opening hand (λ s met. let its = at-hand s met in (its.0.on, its.1)) old.ends.told new.ends.told outcome row h.opened

        ran : HasRun meaning opening mid.core
        ran =
            ran-made meaning opening seat hand old.core turned.core old.ends.told new.ends.told stands at-hand outcome turned.done.event h.ran

        flushed : is_to_flush outcome ≡ true → IsShell meaning opening new
        flushed e =
            let more = outcome-more meaning seat hand old.core turned.core old.ends.told new.ends.told outcome e row in
            let f = turned.flushes e in
            let before : IsSentSince opening.ends mid.ends None old.sent (lines old.core.output) =
            subst (λ (o : Option Stop). IsSentSince opening.ends mid.ends o old.sent (lines old.core.output)) more.was
            (record { first = h.sends.first; goes = h.sends.goes }) in
            record {
              opened = flush-opened opening mid new new.ends.told f more.going opened;
              sends = flush-keeps opening.ends mid new (lines old.core.output) (lines more.more)
                  (ap lines more.output ∙ lines-append old.core.output more.more) more.going before f;
              ran = ran-flushed meaning opening mid new f ran;
            }

        stayed : is_to_flush outcome ≡ false → IsShell meaning opening new
        stayed e =
            subst (IsShell meaning opening) (sym (turned.stays e))
            (record {
              opened = opened;
              sends =
                  calm seat hand old.core turned.core old.ends.told new.ends.told outcome e row opening.ends mid.ends old.sent
                  (record { first = h.sends.first; goes = h.sends.goes });
              ran = ran;
            })

        by : (b : Bool) → is_to_flush outcome ≡ b → IsShell meaning opening new
        by true e = flushed e
        by false e = stayed e

  -- A seat's work in flight fits still once lines are sent.
  pub flushed-fits : (old new : ShellView C V M) → HasFlushed old new → (other : ℕ) (rest : Work M) → Fits meaning old.core other rest
      → Fits meaning new.core other rest
  flushed-fits old new (HasFlushed.sends appended stays same sent) other rest fits =
      subst (λ (c : Core C V M). Fits meaning c other rest) (sym same) fits
  flushed-fits old new (HasFlushed.fails gone first short risen same sent) other rest fits =
      subst (λ (c : Core C V M). Fits meaning c other rest) (sym same) (stopped rest fits)
    where
      stopped : (rest : Work M) → Fits meaning old.core other rest → Fits meaning (stopped_by Stop.WriteFault old.core) other rest
      stopped work.Idle fits = fits
      stopped (work.Running m) fits = record {
        on = record {
          stands = record {
            attempt = fits.on.stands.attempt;
            has = fits.on.stands.has;
            side = fits.on.stands.side;
            run = fits.on.stands.run;
            since = fits.on.stands.since;
          };
          machine = fits.on.machine;
        };
        within = fits.within;
        low = fits.low;
      }
      stopped work.Undoing fits = record { busy = fits.busy; undoes = λ e. cc }

  -- Code and limits stay once lines are sent.
  pub flushed-code : (old new : ShellView C V M) → HasFlushed old new → new.core.code ≡ old.core.code
  flushed-code old new (HasFlushed.sends appended stays same sent) = ap (λ (c : Core C V M). c.code) same
  flushed-code old new (HasFlushed.fails gone first short risen same sent) = ap (λ (c : Core C V M). c.code) same

  pub flushed-limits : (old new : ShellView C V M) → HasFlushed old new → new.core.limits ≡ old.core.limits
  flushed-limits old new (HasFlushed.sends appended stays same sent) = ap (λ (c : Core C V M). c.limits) same
  flushed-limits old new (HasFlushed.fails gone first short risen same sent) = ap (λ (c : Core C V M). c.limits) same

  -- no more is sent than there is
  pub flushed-within : (old new : ShellView C V M) → HasFlushed old new → old.sent ≤ length (lines old.core.output) → new.sent ≤ length (lines new.core.output)
  flushed-within old new (HasFlushed.sends appended stays same sent) within =
      let output : lines new.core.output ≡ lines old.core.output = ap (λ (c : Core C V M). lines c.output) same in
      omega (arith, sent, ap length output)
  flushed-within old new (HasFlushed.fails gone first short risen same sent) within =
      let output : lines new.core.output ≡ lines old.core.output = ap (λ (c : Core C V M). lines c.output) same in
      omega (arith, sent, short, length-drop old.sent (lines old.core.output), within, ap length output)

  -- The turn from its event and what is sent after it

  module _ (seat : ℕ) (hand : Option MachineView) (old new : ShellView C V M) (core : Core C V M) (ends : Ends) (outcome : Outcome) where
    abbrev acted : Ends → ShellView C V M
    acted told = record { core = core; sent = old.sent; ends = told }

    pub turned-made : ends ≡ record old.ends { told = ends.told } → new.ends.told ≡ ends.told
        → IsDone meaning seat hand old.core core old.ends.told ends.told outcome
        → (is_to_flush outcome ≡ true → HasFlushed (acted ends) new) → (is_to_flush outcome ≡ false → new ≡ acted ends)
        → HasTurned meaning seat hand old new outcome
    turned-made alone same done flushes stays =
        let is : ends ≡ record old.ends { told = new.ends.told } = alone ∙ ap (λ (ts : List Told). record old.ends { told = ts }) (sym same) in
        record {
          core = core;
          done = subst (λ (ts : List Told). IsDone meaning seat hand old.core core old.ends.told ts outcome) (sym same) done;
          flushes = λ e. subst (λ (x : Ends). HasFlushed (acted x) new) is (flushes e);
          stays = λ e. subst (λ (x : Ends). new ≡ acted x) is (stays e);
        }

  -- no line is lost
  still-sent : (seat : ℕ) (hand : Option MachineView) (old new : Core C V M) (before after : List Told) (outcome : Outcome)
      → HasRow meaning seat hand old new before after outcome → (sent : ℕ) → sent ≤ length (lines old.output) → sent ≤ length (lines new.output)
  still-sent seat hand old new before after outcome h sent within = by (is_to_flush outcome) refl
    where
      same : new.output ≡ old.output → sent ≤ length (lines new.output)
      same e = subst (λ (xs : List ℤ). sent ≤ length (lines xs)) (sym e) within

      failed : (device : ℕ) → HasRow meaning seat hand old new before after (Outcome.DeviceFailed device) → sent ≤ length (lines new.output)
      failed device d = same (ap (λ (p : Parts). p.output) d.event.4.event.parts)

      stayed : is_to_flush outcome ≡ false → (is_visit outcome ≡ false) ⊎ ((device : ℕ) × (outcome ≡ Outcome.DeviceFailed device)) → sent ≤ length (lines new.output)
      stayed e (inl f) = same (outcome-silent meaning seat old new hand before after outcome e f h.event).output
      stayed e (inr d) = failed d.0 (subst (λ (x : Outcome). HasRow meaning seat hand old new before after x) d.1 h)

      by : (b : Bool) → is_to_flush outcome ≡ b → sent ≤ length (lines new.output)
      by true e =
          let more = outcome-more meaning seat hand old new before after outcome e h in
          let all : length (lines new.output) ≡ length (lines old.output) + length (lines more.more) =
          ap length (ap lines more.output ∙ lines-append old.output more.more) ∙ length-append (lines old.output) (lines more.more) in
          omega (arith, all, within)
      by false e = stayed e (no-lines outcome e)

  pub sent-still : (seat : ℕ) (hand : Option MachineView) (old new : Core C V M) (before after : List Told) (outcome : Outcome)
      → IsDone meaning seat hand old new before after outcome → (sent : ℕ) → sent ≤ length (lines old.output) → sent ≤ length (lines new.output)
  sent-still seat hand old new before after outcome h = still-sent seat hand old new before after outcome (rowed meaning seat hand old new before after outcome h)
