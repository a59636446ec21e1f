-- The headline and the causes of a run that is over.
use Rattle.std.proofs.Common.{◌≡◌, ◌≢◌, ℕ, List, [], ◌++◌, map, length, Option, Some, None, refl, sym, ap, ◌∙◌, subst, arith}
use Rattle.std.proofs.lemmas.List.Elements.{All-nil}
use Rattle.ame_io.specs.Counts.{HasRisen}
use Rattle.ame_io.specs.Lines.{lines}
use Rattle.ame_term.specs.Tree.{Tree}
use Rattle.ame_term.specs.State.{start}
use Rattle.ame_term.specs.View.{typ_of}
use Rattle.ame_laws.specs.Orderly.{IsOrderly}
use Rattle.ame_laws.proofs.OrderlyLemmas.{run-goes, start-orderly}
use Rattle.ame_journal.specs.declared.entry.Entry.{Entry}
use Rattle.ame_journal.specs.Replayed.{Replayed, begun_at}
use Rattle.ame_journal.specs.Replay.{replay}
use Rattle.ame_journal.proofs.LabelLemmas.{unfold-all, unfolds_all-run}
use Rattle.ame_protocol.specs.declared.types.Limits.{Limits}
use Rattle.ame_protocol.specs.declared.types.Tried.{Tried}
use Rattle.ame_laws.specs.Typed.Listed.{signature_of}
use Rattle.ame_value.specs.declared.val.Val.{Val}
use Rattle.ame_eval.specs.Values.{value_meant}
use Rattle.ame_code.specs.FlatCode.{FlatCode}
use Rattle.ame_code.specs.Code.{program_of}
use Rattle.ame_cli.specs.declared.command.Options.{Options}
use Rattle.ame_cli.specs.declared.command.Command.{Command}
use Rattle.ame_lex.specs.Bytes.{Text}
use Rattle.ame_journal.specs.declared.certificate.Certificate.{Certificate}
use Rattle.ame_protocol.specs.declared.stop.Stop.{Stop}
use Rattle.ame_protocol.specs.Event.Bounds.{HasBounds}
use Rattle.ame_protocol.specs.Event.Causes.{NotesStop}
use Rattle.ame_protocol.specs.Event.Counting.{nothing_counted}
use Rattle.ame_protocol.specs.Row.Tries.{IsSoundTry}
use Rattle.ame_protocol.specs.Waits.Once.{IsNotedOnce}
use Rattle.ame_engine.specs.Ending.{End, HasStopped, ShowsCounts}
use Rattle.ame_shell.specs.Ends.{Ends}
use Rattle.ame_device.specs.declared.told.Told.{Told}
use Rattle.ame_shell.specs.Heard.{HaveHeardSince, HaveFailed}
use Rattle.ame_shell.specs.Ran.{IsRanBy}
use Rattle.ame_app.specs.declared.parts.Front.{Front}
use Rattle.ame_app.specs.declared.parts.ReportPart.{ReportPart}
use Rattle.ame_app.specs.declared.run_result.Extra.{Extra}
use Rattle.ame_app.specs.declared.run_result.RunResult.{RunResult}
use Rattle.ame_app.specs.declared.run_result.WeakEnd.{WeakEnd}
use Rattle.ame_app.specs.declared.status.Status.{Status}
use Rattle.ame_app.specs.Calls.{Call}
use Rattle.ame_app.specs.Causes.{status_at, status_of, RunCause, CommandCause}
use Rattle.ame_app.specs.RunResult.{end_in, extra_in}
use Rattle.ame_app.specs.Reported.{RunView, Reported}
use Rattle.ame_app.specs.Headline.{limits_of, Headline, DevicesTell, DevicesTellOf, IsNotedOnceBy, IsRanOf, ShowsTurns, journal_of, verdict_of, IsWritten}
use Rattle.ame_app.specs.Jobs.{IsJobOf, HasWeakStop, TellsWeakly, IsLeftOf, HasLeft, IsEngineRunMade, IsWeakRunMade, IsRunMade, Speaks, SpeaksBehind}
use Rattle.ame_app.specs.Jobs.{SpeaksAfter}
use Rattle.ame_app.specs.Verbs.{BeginsFrom, written_behind}
use Rattle.ame_app.specs.Verbs.Weak.{alone_with, IsDrawnAs}
use Rattle.ame_app.proofs.WrittenLemmas.{after-lines, written-once, tells-fault, spoken-is}
use Rattle.ame_app.proofs.CountLemmas.{certified-count}

-- States that a journal leads to

-- states that a journal leads to are orderly
replayed-orderly : (program : Tree) (entries : List Entry) (r : Replayed) → replay program entries ≡ Some r → IsOrderly r.state
replayed-orderly program entries r replays =
    let all = unfold-all (begun_at program) entries r replays in
    (run-goes (start program) all.0 r.state (unfolds_all-run (begun_at program) entries all.0 r all.1)).orderly (start-orderly program)

-- Causes

module _ (limits : Limits) (options : Options) (r : Replayed) (end : End Val) (before after : Ends) where
  -- the facts from which a stop has its cause
  record Causes (status : Status) : Type 0 where
    turns : limits.turns ≡ options.turns
    orderly : IsOrderly r.state
    stopped : HasStopped limits r end
    failed : HaveFailed end.stop before.told after.told
    written : status ≡ Status.WriteFault → HasRisen before.write_faults after.write_faults
    told : end.stop ≡ Some Stop.WriteFault → status ≡ Status.WriteFault

  stop-cause : (status : Status) → Causes status → (stop : Option Stop) → end.stop ≡ stop
      → RunCause (status_at stop end.certificates) options end r before after
  stop-cause status c None e = tt
  stop-cause status c (Some Stop.Finished) e = c.stopped.finished e
  stop-cause status c (Some Stop.Blocked) e =
      let certified = c.stopped.blocked e in
      record { certified = certified; number_is = certified-count r.state c.orderly end.certificates certified }
  stop-cause status c (Some Stop.Spent) e =
      let spent = c.stopped.spent e in
      record { turns_are = spent.0 ∙ c.turns; left = spent.1 }
  stop-cause status c (Some (Stop.Tall n)) e = subst (λ (o : Option Stop). NotesStop o end.entries) e c.stopped.ends
  stop-cause status c (Some Stop.NoMemory) e = tt
  stop-cause status c (Some Stop.WriteFault) e = c.written (c.told e)
  stop-cause status c (Some (Stop.DeviceFault k)) e = record {
    comes = c.stopped.failed k e;
    faults = (subst (λ (o : Option Stop). HaveFailed o before.told after.told) e c.failed).risen;
  }

-- a stop that is no fault of the sink doesn't have its status
stop-told : (stop : Option Stop) (certificates : List Certificate) → stop ≢ Some Stop.WriteFault → status_at stop certificates ≢ Status.WriteFault
stop-told (Some Stop.WriteFault) certificates other = absurd (other refl)
stop-told stop certificates other = λ e. cc

-- The rows of the tables for commands whose run an engine makes

record IsPlain (code : FlatCode) (command : Command) (end : End Val) (before after : Ends) : Type 0 where
  devices : DevicesTell code end before after → DevicesTellOf command code end before after
  cause : (options : Options) (r : Replayed) → RunCause (status_of end) options end r before after
      → CommandCause command (status_of end) options end r before after
  once : IsNotedOnce (journal_of end) → IsNotedOnceBy command (journal_of end)
  shown : (limits : Limits) → ShowsCounts limits end → ShowsTurns command limits end
  ran : (limits : Limits) → IsRanBy (program_of code) (signature_of code.accepted) limits end.base (value_meant code) end → IsRanOf command code limits end

-- The headline

-- the bytes written after the lines of a run that an engine made
speaks-engine : (left : RunResult) (extra : Extra) (ahead : List ℕ) (told : Status) (text : List ℕ) (status : Status) (a : Option (List ℕ)) (m : ℕ) (b : Option (List ℕ)) (n : ℕ)
    → extra_in left ≡ Some extra → SpeaksAfter left ahead told text status a m b n → SpeaksBehind (end_in left).stop told text status a m b n
speaks-engine (RunResult.Engine end more) extra ahead told text status a m b n is speaks = speaks
speaks-engine (RunResult.Weak weak) extra ahead told text status a m b n is speaks = absurd (cc)

-- the report's view of a run
abbrev pub run_with : FlatCode → RunResult → RunView
run_with code left = record { code = code; left = left }

abbrev pub report_with : Status → Text → FlatCode → Command → RunResult → Reported
report_with status text code command left =
    record { status = status; text = text; command = Some command; run = Some (run_with code left); own = ReportPart.Nothing }

module _ (call : Call) (status : Status) (text : Text) (code : FlatCode) (front : Front) (before mid after : Ends) (kept : after.told ≡ mid.told) where
  -- the bytes to be written after the lines
  abbrev more : Command → RunResult → List ℕ
  more command left = verdict_of (end_in left) ++ written_behind command left (status_of (end_in left))

  module _ (command : Command) (left : RunResult) (job : IsJobOf call text code command front) (made : IsEngineRunMade command front code before left mid)
      (plain : IsPlain code command (end_in left) before after)
      (speaks : SpeaksBehind (end_in left).stop (status_of (end_in left)) (more command left) status mid.written mid.write_faults after.written after.write_faults) where
    abbrev end : End Val
    end = end_in left

    text-written : IsWritten status (lines made.over.ends.r.state.output ++ more command left) before after
    text-written =
        after-lines end.stop (status_of end) before mid after status (lines made.over.ends.r.state.output) (more command left)
        (stop-told end.stop end.certificates) speaks made.over.sent

    is-orderly : IsOrderly made.over.ends.r.state
    is-orderly = replayed-orderly (program_of code) (journal_of end) made.over.ends.r made.over.ends.replays

    have-failed : HaveFailed end.stop before.told after.told
    have-failed = subst (λ (t : List Told). HaveFailed end.stop before.told t) (sym kept) made.over.failed

    has-causes : Causes (limits_of made.options) made.options made.over.ends.r end before after status
    has-causes = record {
      turns = refl;
      orderly = is-orderly;
      stopped = made.over.ends.stopped;
      failed = have-failed;
      written = λ e. (text-written.front e).1;
      told =
          tells-fault end.stop (status_of end) (more command left) status mid.written mid.write_faults after.written after.write_faults speaks;
    }

    -- a command whose run an engine makes
    engine-headline : Headline call (report_with status text code command left) (run_with code left) end before after
    engine-headline = record {
      command = command;
      front = front;
      options = made.options;
      text = text;
      compiled = code;
      final = made.over.ends.r;
      asked = job.asked;
      named = refl;
      with_options = made.with_options;
      text_is = refl;
      program = job.program;
      code_is = refl;
      begun = subst (BeginsFrom command front (program_of code)) (sym made.over.base) made.begun;
      replays = made.over.ends.replays;
      seats = made.over.seats;
      output = text-written;
      printed = sym made.over.ends.printed;
      store = record { stored = made.over.ends.store; free = made.over.ends.free; forms = made.over.ends.forms };
      typed = made.over.ends.typed (map typ_of code.accepted.ref_tys.items) refl;
      as_many = ap length kept ∙ made.over.heard.count;
      devices = plain.devices (record {
        heard = subst (λ (b : List Entry). HaveHeardSince (program_of code) b end.entries before.told after.told) (sym made.over.base)
            (subst (λ (t : List Told). HaveHeardSince (program_of code) made.base end.entries before.told t) (sym kept) made.over.heard);
        failed = have-failed;
      });
      cause =
          plain.cause made.options made.over.ends.r
          (stop-cause (limits_of made.options) made.options made.over.ends.r end before after status has-causes end.stop refl);
      spoken =
          spoken-is end.stop (status_of end) status (more command left) mid.written mid.write_faults after.written after.write_faults speaks;
      own = made.own_is;
      ran = plain.ran (limits_of made.options)
          (subst (λ (b : List Entry). IsRanBy (program_of code) (signature_of code.accepted) (limits_of made.options) b (value_meant code) end)
          (sym made.over.base) made.over.ran);
      notes = made.over.ends.stopped.ends;
      once = plain.once made.over.ends.once;
      shown = plain.shown (limits_of made.options) made.over.ends.shown;
      lone = made.over.lone;
      bounds = made.over.ends.bounds;
    }

  -- a weak run
  module _ (seed turns : ℕ) (weakened : WeakEnd) (ahead : List ℕ) (job : IsJobOf call text code (Command.Weak seed turns) front)
      (tells : TellsWeakly (program_of code) turns weakened before.told mid.told)
      (drawn : weakened.stop ≢ Stop.NoMemory → IsDrawnAs (program_of code) seed turns weakened) (has_left : HasLeft code (limits_of (alone_with turns)) weakened)
      (ahead_is : ahead ≡ lines weakened.output.items) (unwritten : mid.written ≡ before.written) (unfailed : mid.write_faults ≡ before.write_faults)
      (speaks : Speaks (status_of (end_in (RunResult.Weak weakened))) (ahead ++ (verdict_of (end_in (RunResult.Weak weakened)) ++ [])) status mid.written mid.write_faults
      after.written after.write_faults) where
    abbrev weak_left : RunResult
    weak_left = RunResult.Weak weakened

    abbrev weak_end : End Val
    weak_end = end_in weak_left

    abbrev journal : List Entry
    journal = weakened.journal.entries

    left-so : IsLeftOf code weakened.store weakened.output.items tells.final.state
    left-so = has_left.leads tells.final tells.replays

    there : IsOrderly tells.final.state
    there = replayed-orderly (program_of code) journal tells.final tells.replays

    no-fault : (stop : Stop) → HasWeakStop stop turns weakened tells.final.state → (cs : List Certificate) → status_at (Some stop) cs ≢ Status.WriteFault
    no-fault Stop.WriteFault cause cs = absurd cause
    no-fault stop cause cs = λ e. cc

    weak-written : IsWritten status (lines tells.final.state.output ++ (verdict_of weak_end ++ [])) before after
    weak-written =
        subst (λ (l : List ℕ). IsWritten status (l ++ (verdict_of weak_end ++ [])) before after) (ahead_is ∙ ap lines left-so.printed)
        (written-once before mid after (status_of weak_end) status (ahead ++ (verdict_of weak_end ++ [])) unwritten unfailed
        (no-fault weakened.stop tells.cause weakened.certificates.items) speaks)

    weak-failed : weakened.stop ≢ Stop.NoMemory → HaveFailed (Some weakened.stop) before.told after.told
    weak-failed able = subst (HaveFailed (Some weakened.stop) before.told) (sym kept) (tells.failed able)

    weak-cause : (stop : Stop) → weakened.stop ≡ stop
        → CommandCause (Command.Weak seed turns) (status_at (Some stop) weakened.certificates.items) (alone_with turns) weak_end tells.final before after
    weak-cause Stop.Finished is = subst (λ (k : Stop). HasWeakStop k turns weakened tells.final.state) is tells.cause
    weak-cause Stop.Blocked is =
        let certified = subst (λ (k : Stop). HasWeakStop k turns weakened tells.final.state) is tells.cause in
        record { certified = certified; number_is = certified-count tells.final.state there weakened.certificates.items certified }
    weak-cause Stop.Spent is =
        let spent = subst (λ (k : Stop). HasWeakStop k turns weakened tells.final.state) is tells.cause in
        record { turns_are = spent.0; left = spent.1 }
    weak-cause (Stop.DeviceFault k) is = record {
      stands = subst (λ (k : Stop). HasWeakStop k turns weakened tells.final.state) is tells.cause;
      faults = (subst (λ (o : Stop). HaveFailed (Some o) before.told after.told) is (weak-failed (λ e. let clash : Stop.DeviceFault k ≡ Stop.NoMemory = sym is ∙ e in cc))).risen;
    }
    weak-cause Stop.NoMemory is = tt
    weak-cause (Stop.Tall number) is = subst (λ (k : Stop). HasWeakStop k turns weakened tells.final.state) is tells.cause
    weak-cause Stop.WriteFault is = absurd (subst (λ (k : Stop). HasWeakStop k turns weakened tells.final.state) is tells.cause)

    weak-bounds : HasBounds (program_of code) (limits_of (alone_with turns)) tells.final [] journal weakened.turns nothing_counted [] (Some weakened.stop)
    weak-bounds = record {
      rollbacks = omega arith;
      tries = record { late = []; seats_enough = omega arith; apart = λ i. omega arith; few = λ i. omega arith };
      sound = All-nil (λ (t : Tried). IsSoundTry (program_of code) journal t.number t.at t.steps);
      spent = λ e.
          let most = tells.paid (λ same. let is : weakened.stop ≡ Stop.Spent = cc in let clash : Stop.Spent ≡ Stop.NoMemory = sym is ∙ same in cc) in
          omega (arith, most);
      untried = λ one e. refl;
    }

    unless-memory : weak_end.stop ≢ Some Stop.NoMemory → weakened.stop ≢ Stop.NoMemory
    unless-memory able = λ e. able (ap Some e)

    weak-headline : Headline call (report_with status text code (Command.Weak seed turns) weak_left) (run_with code weak_left) weak_end before after
    weak-headline = record {
      command = Command.Weak seed turns;
      front = front;
      options = alone_with turns;
      text = text;
      compiled = code;
      final = tells.final;
      asked = job.asked;
      named = refl;
      with_options = refl;
      text_is = refl;
      program = job.program;
      code_is = refl;
      begun = refl;
      replays = tells.replays;
      seats = tells.seats;
      output = weak-written;
      printed = left-so.printed;
      store = left-so.store;
      typed = left-so.typed;
      as_many = ap length kept ∙ tells.count;
      devices = record {
        able = λ able. record {
          heard = subst (HaveHeardSince (program_of code) [] journal before.told) (sym kept) (tells.heard (unless-memory able));
          failed = weak-failed (unless-memory able);
        };
      };
      cause = weak-cause weakened.stop refl;
      spoken = spoken-is None (status_of weak_end) status (ahead ++ (verdict_of weak_end ++ [])) mid.written mid.write_faults after.written after.write_faults speaks;
      own = record { weak = weakened; left_is = refl; journal = tells.straight; drawn = drawn; paid = tells.paid };
      ran = tt;
      notes = tells.notes;
      once = tells.apart;
      shown = record { limited = has_left.limits_are; most = λ able. tells.within (unless-memory able) };
      lone = λ one. record { conflicts = refl; invalids = refl };
      bounds = weak-bounds;
    }

  -- the bytes written after the run of a command
  abbrev pub Spoken : Command → RunResult → List ℕ → Type 0
  Spoken command left ahead =
      SpeaksAfter left ahead (status_of (end_in left)) (more command left) status mid.written mid.write_faults after.written after.write_faults

  weak-told : (seed turns : ℕ) (left : RunResult) (ahead : List ℕ) → IsJobOf call text code (Command.Weak seed turns) front
      → (made : IsWeakRunMade seed turns code before left ahead mid) → Spoken (Command.Weak seed turns) left ahead
      → Headline call (report_with status text code (Command.Weak seed turns) left) (run_with code left) (end_in left) before after
  weak-told seed turns left ahead job made speaks =
      subst (λ (l : RunResult). Headline call (report_with status text code (Command.Weak seed turns) l) (run_with code l) (end_in l) before after) (sym made.left_is)
      (weak-headline seed turns made.weak ahead job made.tells made.drawn made.has_left made.ahead_is made.unwritten made.unfailed
      (subst (λ (l : RunResult). Spoken (Command.Weak seed turns) l ahead) made.left_is speaks))

  -- a command whose run an engine makes, with something next to the engine's end
  engine-told : (command : Command) (left : RunResult) (extra : Extra) (ahead : List ℕ) → IsJobOf call text code command front
      → IsEngineRunMade command front code before left mid → extra_in left ≡ Some extra
      → IsPlain code command (end_in left) before after → Spoken command left ahead
      → Headline call (report_with status text code command left) (run_with code left) (end_in left) before after
  engine-told command left extra ahead job made is plain speaks =
      engine-headline command left job made plain
      (speaks-engine left extra ahead (status_of (end_in left)) (more command left) status mid.written mid.write_faults after.written after.write_faults is speaks)

  -- each command
  pub headline : (command : Command) (left : RunResult) (ahead : List ℕ) → IsJobOf call text code command front
      → IsRunMade command front code before left ahead mid
      → Spoken command left ahead → Headline call (report_with status text code command left) (run_with code left) (end_in left) before after
  headline (Command.Run options) left ahead job made speaks =
      engine-told (Command.Run options) left _ ahead job made made.own_is (record { devices = λ d. d; cause = λ o r c. c; once = λ n. n; shown = λ l s. s; ran = λ l r. r }) speaks
  headline (Command.Bench seed size options) left ahead job made speaks =
      engine-told (Command.Bench seed size options) left _ ahead job made made.own_is
      (record { devices = λ d. d; cause = λ o r c. c; once = λ n. n; shown = λ l s. s; ran = λ l r. r }) speaks
  headline (Command.Sim seed options) left ahead job made speaks =
      engine-told (Command.Sim seed options) left _ ahead job made made.own_is.extra_is
      (record { devices = λ d. d; cause = λ o r c. c; once = λ n. n; shown = λ l s. s; ran = λ l r. r }) speaks
  headline (Command.Replay options) left ahead job made speaks =
      engine-told (Command.Replay options) left _ ahead job made made.own_is.picked.extra_is
      (record { devices = λ d. d; cause = λ o r c. c; once = λ n. n; shown = λ l s. s; ran = λ l r. r }) speaks
  headline Command.Check left ahead job made speaks = absurd made.begun
  headline (Command.Resume options) left ahead job made speaks =
      engine-told (Command.Resume options) left _ ahead job made made.own_is (record { devices = λ d. d; cause = λ o r c. c; once = λ n. n; shown = λ l s. s; ran = λ l r. r })
      speaks
  headline (Command.Weak seed turns) left ahead job made speaks = weak-told seed turns left ahead job made speaks

-- if the status is that of the end, so are the bytes written
pub told-of : (left : RunResult) (ahead : List ℕ) (told : Status) (more : Status → List ℕ) (status : Status) (a : Option (List ℕ)) (m : ℕ) (b : Option (List ℕ)) (n : ℕ)
    → told ≡ status_of (end_in left) → SpeaksAfter left ahead told (more told) status a m b n
    → SpeaksAfter left ahead (status_of (end_in left)) (more (status_of (end_in left))) status a m b n
told-of left ahead told more status a m b n is speaks = subst (λ (t : Status). SpeaksAfter left ahead t (more t) status a m b n) is speaks
