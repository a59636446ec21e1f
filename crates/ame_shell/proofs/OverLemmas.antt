-- A run that is over.
use Rattle.std.proofs.Common.{◌≡◌, ℕ, ◌<◌, List, [], length, Option, Some, None, append-nil, inl, inr, refl, sym, ap, subst}
use Rattle.std.specs.Prelude.{ℤ, is_some, unwrap_or, false}
use Rattle.std.proofs.lemmas.List.Elements.{All-nil}
use Rattle.ame_device.specs.declared.told.Told.{Told}
use Rattle.ame_io.specs.Lines.{lines}
use Rattle.ame_io.specs.Writes.{AppendsFirst}
use Rattle.ame_journal.specs.declared.entry.Entry.{Entry}
use Rattle.ame_protocol.specs.declared.types.Limits.{Limits}
use Rattle.ame_protocol.specs.Engine.Parts.{Parts}
use Rattle.ame_protocol.specs.Engine.Events.{started}
use Rattle.ame_protocol.specs.Event.EngineState.{started_state}
use Rattle.ame_protocol.specs.declared.stop.Stop.{Stop}
use Rattle.ame_engine.specs.Core.{Core}
use Rattle.ame_engine.specs.Ending.{End, end_of, IsEnd}
use Rattle.ame_engine.specs.Makes.{state_of}
use Rattle.ame_engine.specs.Resuming.{HasResumed}
use Rattle.ame_engine.specs.Seen.{parts_of}
use Rattle.ame_engine.specs.Stops.{stopped_by}
use Rattle.ame_shell.specs.Ends.{Ends}
use Rattle.ame_shell.specs.Sent.{IsSent}
use Rattle.ame_shell.specs.Heard.{HaveHeardSince, HaveFailed}
use Rattle.ame_shell.specs.Over.{AreOfSeats, IsOverSince}
use Rattle.ame_shell.specs.Shell.{ShellView, Opening, GoesTo, IsOpenedSo, IsShell}
use Rattle.ame_shell.specs.Turned.{HasFlushed}
use Rattle.ame_shell.proofs.HeardLemmas.{heard-nothing}
use Rattle.ame_shell.proofs.StopLemmas.{stops-by, quiet-failed, quiet-goes}
use Rattle.ame_shell.proofs.SendLemmas.{flush-keeps, sent-over}
use Rattle.ame_shell.proofs.TurnLemmas.{flush-opened}
use Rattle.ame_shell.proofs.RanLemmas.{ran-flushed, ran-over, ran-starts, ran-stopped, resumed-start}
use Rattle.ame_machine.specs.Meaning.{Meaning}

-- nothing of a text is appended
nothing-appended : (bytes : Option (List ℕ)) (text : List ℕ) → AppendsFirst 0 bytes bytes text
nothing-appended None text = tt
nothing-appended (Some xs) text = sym (append-nil xs)

module _ {C V M : Type 0} (meaning : Meaning C V M) where
  abbrev parts : Core C V M → Parts
  parts core = parts_of meaning core

  not-stopped : (o : Option Stop) → is_some o ≡ false → o ≡ None
  not-stopped None e = refl
  not-stopped (Some why) e = cc

  -- if nothing was run yet nothing was heard, and no device failed
  fresh-opened : (opening : Opening C) (core : Core C V M) → core.code ≡ opening.code → core.limits ≡ opening.limits → core.base ≡ opening.base
      → core.entries ≡ [] → core.stop ≡ None → IsOpenedSo meaning.program opening core opening.ends.told
  fresh-opened opening core code limits base none going = record {
    code = code;
    limits = limits;
    base = base;
    seats = subst (λ (es : List Entry). AreOfSeats core.limits.seats es) (sym none) (All-nil (λ (e : Entry). e.seat < core.limits.seats));
    heard =
        subst (λ (es : List Entry). HaveHeardSince (meaning.program core.code) core.base es opening.ends.told opening.ends.told) (sym none)
        (heard-nothing (meaning.program core.code) core.base opening.ends.told);
    failed = subst (λ (o : Option Stop). HaveFailed o opening.ends.told opening.ends.told) (sym going) (λ k. refl);
  }

  -- if an engine has just started nothing was sent or heard
  pub shell-starts : (core : Core C V M) (code : C) (limits : Limits) (ends : Ends) → core.code ≡ code
      → parts core ≡ started (meaning.program code) (meaning.signature code) limits 0
      → state_of meaning core ≡ started_state (meaning.program code) (meaning.signature code) limits
      → IsShell meaning (record { code = code; limits = limits; base = []; ends = ends }) (record { core = core; sent = 0; ends = ends })
  shell-starts core code limits ends same starts fresh =
      let going : core.stop ≡ None = not-stopped core.stop (ap (λ (p : Parts). p.stopped) starts) in
      let output : core.output ≡ [] = ap (λ (p : Parts). p.output) starts in
      record {
        opened =
            fresh-opened (record { code = code; limits = limits; base = []; ends = ends }) core same (ap (λ (p : Parts). p.limits) starts)
            (ap (λ (p : Parts). p.base) starts) (ap (λ (p : Parts). p.entries) starts) going;
        sends = record {
          first = nothing-appended ends.written (lines core.output);
          goes = subst (λ (o : Option Stop). GoesTo o 0 (lines core.output) ends.write_faults ends.write_faults) (sym going)
              (sym (ap (λ (xs : List ℤ). length (lines xs)) output), refl);
        };
        ran = ran-starts meaning (record { code = code; limits = limits; base = []; ends = ends }) core (inl (refl, fresh));
      }

  -- if an engine was opened from a base and nothing was run yet, and then the lines of the base were sent
  module _ (core : Core C V M) (ends : Ends) (none : core.entries ≡ []) (going : core.stop ≡ None)
      (resumed : HasResumed meaning core.limits core.base core) where
    abbrev opening : Opening C
    opening = record { code = core.code; limits = core.limits; base = core.base; ends = ends }

    pub shell-resumes : (new : ShellView C V M) → new.ends.told ≡ ends.told → HasFlushed (record { core = core; sent = 0; ends = ends }) new
        → IsShell meaning opening new
    shell-resumes new same flushed =
        let old : ShellView C V M = record { core = core; sent = 0; ends = ends } in
        record {
          opened =
              subst (λ (ts : List Told). IsOpenedSo meaning.program opening new.core ts) (sym same)
              (flush-opened meaning opening old new ends.told flushed going (fresh-opened opening core refl refl refl none going));
          sends =
              flush-keeps ends old new [] (lines core.output) refl going
              (record { first = nothing-appended ends.written []; goes = (refl, refl) }) flushed;
          ran =
              ran-flushed meaning opening old new flushed
              (ran-starts meaning opening core (inr (resumed-start meaning core.limits core.base core resumed)));
        }

  -- if memory runs out nothing else changes
  pub lacking-keeps : (opening : Opening C) (shell : ShellView C V M) → IsShell meaning opening shell
      → IsShell meaning opening (record shell { core = stopped_by Stop.NoMemory shell.core })
  lacking-keeps opening shell h =
      let quiet = stops-by Stop.NoMemory refl shell.core.stop in
      let stop : Option Stop = Some (unwrap_or shell.core.stop Stop.NoMemory) in
      record {
        opened = record {
          code = h.opened.code;
          limits = h.opened.limits;
          base = h.opened.base;
          seats = h.opened.seats;
          heard = h.opened.heard;
          failed = quiet-failed opening.ends.told shell.ends.told shell.core.stop stop quiet h.opened.failed;
        };
        sends = record {
          first = h.sends.first;
          goes = quiet-goes shell.sent (lines shell.core.output) opening.ends.write_faults shell.ends.write_faults shell.core.stop stop quiet h.sends.goes;
        };
        ran = ran-stopped meaning opening Stop.NoMemory refl shell.core h.ran;
      }

  pub is-over : (opening : Opening C) (shell : ShellView C V M) (end : End V) → IsShell meaning opening shell → end ≡ end_of shell.core
      → IsEnd (meaning.program shell.core.code) (meaning.signature shell.core.code) shell.core.limits (meaning.value_of shell.core.code) end
      → IsOverSince opening.base (meaning.program opening.code) (meaning.signature opening.code) opening.limits (meaning.value_of opening.code) opening.ends end shell.ends
  is-over opening shell end h is e =
      subst (λ (c : C). IsOverSince opening.base (meaning.program c) (meaning.signature c) opening.limits (meaning.value_of c) opening.ends end shell.ends) h.opened.code
      (subst (λ (l : Limits). IsOverSince opening.base (meaning.program shell.core.code) (meaning.signature shell.core.code) l (meaning.value_of shell.core.code) opening.ends end shell.ends) h.opened.limits
      (subst (λ (x : End V). IsOverSince opening.base (meaning.program shell.core.code) (meaning.signature shell.core.code) shell.core.limits (meaning.value_of shell.core.code) opening.ends x shell.ends) (sym is)
      (there (subst (λ (x : End V). IsEnd (meaning.program shell.core.code) (meaning.signature shell.core.code) shell.core.limits (meaning.value_of shell.core.code) x) is e))))
    where
      there : IsEnd (meaning.program shell.core.code) (meaning.signature shell.core.code) shell.core.limits (meaning.value_of shell.core.code) (end_of shell.core)
          → IsOverSince opening.base (meaning.program shell.core.code) (meaning.signature shell.core.code) shell.core.limits (meaning.value_of shell.core.code) opening.ends (end_of shell.core) shell.ends
      there at-end = record {
        ends = at-end;
        base = h.opened.base;
        seats = h.opened.seats;
        sent =
            subst (λ (xs : List ℤ). IsSent shell.core.stop (lines xs) opening.ends shell.ends) (sym at-end.printed)
            (sent-over opening.ends shell.ends shell.core.stop shell.sent (lines shell.core.output) h.sends);
        heard =
            subst (λ (b : List Entry). HaveHeardSince (meaning.program shell.core.code) b shell.core.entries opening.ends.told shell.ends.told)
            h.opened.base h.opened.heard;
        failed = h.opened.failed;
        lone = at-end.lone;
        ran = ran-over meaning opening shell.core h.opened.code h.opened.limits h.ran;
      }
