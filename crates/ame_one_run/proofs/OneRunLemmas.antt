-- The headline of a run that begins with the program is one run by the rules.
use Rattle.std.proofs.Common.{◌≡◌, inl, inr, ◌↔◌, ℕ, ℤ, List, [], ◌++◌, Option, Some, None, Result, Ok, Err, refl, sym, ap, ◌∙◌, subst, append_assoc}
use Rattle.std.specs.Prelude.{IfSome, IfOk, option_map}
use Rattle.std.specs.Io.KnownBytes.{Appends}
use Rattle.ame_io.specs.Lines.{lines}
use Rattle.ame_io.specs.Reads.{IsReadWhole}
use Rattle.ame_io.specs.Writes.{AppendsFront}
use Rattle.ame_lex.specs.Bytes.{Text}
use Rattle.ame_parse.specs.Grammar.{Spells}
use Rattle.ame_parse.specs.Text.{Source, source_of, reading}
use Rattle.ame_term.specs.Tree.{Tree}
use Rattle.ame_term.specs.View.{tree_of}
use Rattle.ame_term.specs.State.{start}
use Rattle.ame_journal.specs.declared.entry.Entry.{Entry}
use Rattle.ame_journal.specs.Replayed.{Replayed}
use Rattle.ame_journal.specs.Replay.{replay}
use Rattle.ame_journal.specs.Calls.{device_calls}
use Rattle.ame_code.specs.FlatCode.{FlatCode}
use Rattle.ame_code.specs.Code.{program_of}
use Rattle.ame_value.specs.declared.val.Val.{Val}
use Rattle.ame_cli.specs.declared.command.Options.{Options}
use Rattle.ame_cli.specs.declared.command.Command.{Command}
use Rattle.ame_cli.specs.Grammar.{SpellsCommand}
use Rattle.ame_engine.specs.Ending.{End}
use Rattle.ame_shell.specs.Ends.{Ends, told_at}
use Rattle.ame_shell.specs.Heard.{answered_all, and_more, added_calls}
use Rattle.ame_app.specs.declared.parts.Front.{Front}
use Rattle.ame_app.specs.declared.status.Status.{Status}
use Rattle.ame_app.specs.Verbs.{BeginsFrom, written_behind}
use Rattle.ame_app.specs.RunResult.{end_in}
use Rattle.ame_app.specs.Reported.{RunView, Reported}
use Rattle.ame_app.specs.Calls.{Given, Call, IsTextOf, Asks}
use Rattle.ame_app.specs.Causes.{status_of, RunCause, CommandCause}
use Rattle.ame_app.specs.Headline.{DevicesTell, DevicesTellOf, Headline, verdict_of}
use Rattle.ame_app.specs.Answered.{IsPromised}
use Rattle.ame_app.proofs.CodeLemmas.{some-weaker}
use Rattle.ame_one_run.specs.OneRun.{AskForRun, line_of_ending, IsOneRun}
use Rattle.ame_one_run.specs.Commands.{BeginsAnew, IsRunOf}
use Rattle.ame_one_run.proofs.WordLemmas.{IsRun, run-first, no-words}
use Rattle.ame_one_run.proofs.TypeLemmas.{typing-unit}
use Rattle.ame_one_run.proofs.JournalLemmas.{replayed-shown}
use Rattle.ame_one_run.proofs.EndingLemmas.{status-named, written-prefix, written-whole}

-- Rows of the tables for such a command

anew-base : (command : Command) (front : Front) (program : Tree) (base : List Entry) → BeginsAnew command → BeginsFrom command front program base → base ≡ []
anew-base (Command.Run options) front program base anew e = e
anew-base (Command.Bench seed size options) front program base anew e = e
anew-base (Command.Sim seed options) front program base anew e = e
anew-base (Command.Replay options) front program base anew e = e
anew-base _ front program base anew e = absurd anew

anew-devices : (command : Command) (code : FlatCode) (end : End Val) (before after : Ends) → BeginsAnew command → DevicesTellOf command code end before after →
    DevicesTell code end before after
anew-devices (Command.Run options) code end before after anew tells = tells
anew-devices (Command.Bench seed size options) code end before after anew tells = tells
anew-devices (Command.Sim seed options) code end before after anew tells = tells
anew-devices (Command.Replay options) code end before after anew tells = tells
anew-devices _ code end before after anew tells = absurd anew

anew-cause : (command : Command) (status : Status) (options : Options) (end : End Val) (final : Replayed) (before after : Ends) → BeginsAnew command →
    CommandCause command status options end final before after → RunCause status options end final before after
anew-cause (Command.Run options) status with end final before after anew cause = cause
anew-cause (Command.Bench seed size options) status with end final before after anew cause = cause
anew-cause (Command.Sim seed options) status with end final before after anew cause = cause
anew-cause (Command.Replay options) status with end final before after anew cause = cause
anew-cause _ status with end final before after anew cause = absurd anew

-- the calls after an empty base are those of the whole journal
added-whole : (k : ℕ) (program : Tree) (base entries : List Entry) → base ≡ [] → added_calls k program base entries ≡ device_calls k program entries
added-whole k program base entries none = ap (λ (b : List Entry). added_calls k program b entries) none

-- a line and what follows it, after others
line-moved : (front line more other : List ℕ) → line ≡ other → front ++ (line ++ more) ≡ front ++ other ++ more
line-moved front line more other is = sym (append_assoc front line more) ∙ ap (λ (l : List ℕ). front ++ l ++ more) is

-- how texts are spelled
abbrev pub SpelledIsRead : Type 0
SpelledIsRead = (text : List ℕ) (source : Source) → Spells text source ↔ (reading text ≡ Ok source)

module _ (spelled : SpelledIsRead) (call : Call) (report : Reported) (run : RunView) (end : End Val) (before after : Ends) (h : Headline call report run end before after) where
  pub headline-run : BeginsAnew h.command → IsOneRun report.text call.devices (written_behind h.command run.left (status_of end)) before after
  headline-run anew =
      let accepted = h.compiled.accepted in
      let program = program_of h.compiled in
      let base = anew-base h.command h.front program end.base anew h.begun in
      let replays : replay program end.entries ≡ Some h.final = ap (λ (b : List Entry). replay program (b ++ end.entries)) (sym base) ∙ h.replays in
      let shown = replayed-shown program end.entries h.final replays in
      let tells = anew-devices h.command h.compiled end before after anew h.devices in
      let named = status-named program h.options end h.final before after replays end.stop
      (anew-cause h.command (status_of end) h.options end h.final before after anew h.cause) in
      let behind = written_behind h.command run.left (status_of end) in
      let text = lines h.final.state.output ++ (verdict_of end ++ behind) in
      let moved = line-moved (lines h.final.state.output) (verdict_of end) behind (line_of_ending named.ending h.final.state) named.line_is in
      record {
        source = source_of accepted.program;
        spelled = subst (λ (t : Text). Spells t (source_of accepted.program)) (sym h.text_is) ((spelled h.text (source_of accepted.program)).1 h.program.reads);
        typed = typing-unit call.devices accepted.program.places.items (tree_of accepted.program.term) h.program.typed;
        first = start program;
        begins = record { store = refl; members = refl; active = refl; output = refl; next = refl };
        labels = shown.labels;
        calls = shown.calls;
        last = h.final.state;
        runs = shown.runs;
        rests = shown.rests;
        heard = λ k. tells.heard.heard k
            ∙ ap (λ (calls : List (ℤ × ℤ)). and_more (told_at before.told k).heard (answered_all calls)) (added-whole k program end.base end.entries base)
            ∙ sym (ap (and_more (told_at before.told k).heard) (shown.heard k));
        ending = named.ending;
        cause = named.cause;
        prefix = subst (AppendsFront before.written after.written) moved (written-prefix report.status text before after h.output);
        whole = λ stayed. subst (Appends before.written after.written) moved (written-whole report.status text before after h.output stayed);
      }

-- the text of `run` is all that the source had left
taken-whole : (command : Command) (options : Options) (source after : Given) (front : Front) (text : Text) → command ≡ Command.Run options →
    IsTextOf command source after front text → IsReadWhole source.left after.left text
taken-whole command options source after front text is taken =
    let run = subst (λ (c : Command). IsTextOf c source after front text) is taken in
    subst (IsReadWhole source.left after.left) (sym run.takes.1) run.input.whole

is-run : (words : List (List ℕ)) (command : Command) → AskForRun words → SpellsCommand words command → IsRun command
is-run words command (inl none) spells = no-words words command spells none
is-run words command (inr first) spells = run-first first.0 words command spells first.1

module _ (spelled : SpelledIsRead) (call : Call) (report : Reported) (before after : Ends) (promised : IsPromised call report before after) where
  pub run-promised : AskForRun call.words →
      IfSome report.run (λ _. IsReadWhole call.source.left call.source_after.left report.text × IsOneRun report.text call.devices [] before after)
  run-promised words = some-weaker report.run _ _ (λ run h. by run h) promised.ran
    where
      by : (run : RunView) → Headline call report run (end_in run.left) before after →
          IsReadWhole call.source.left call.source_after.left report.text × IsOneRun report.text call.devices [] before after
      by run h =
          let end = end_in run.left in
          let is = is-run call.words h.command words h.asked.spelled in
          let anew : BeginsAnew h.command = subst BeginsAnew (sym is.1) tt in (
            subst (IsReadWhole call.source.left call.source_after.left) (sym h.text_is)
                (taken-whole h.command is.0 call.source call.source_after h.front h.text is.1 h.asked.text_is),
            subst (λ (c : Command). IsOneRun report.text call.devices (written_behind c run.left (status_of end)) before after) is.1
                (headline-run spelled call report run end before after h anew),
          )

  pub each-promised : ((words : List (List ℕ)) (command other : Command) → SpellsCommand words command → SpellsCommand words other → command ≡ other) →
      (command : Command) → SpellsCommand call.words command → BeginsAnew command →
      IfSome report.run (λ run. IsRunOf command call report run before after)
  each-promised one command spells anew = some-weaker report.run _ _ (λ run h. by run h) promised.ran
    where
      by : (run : RunView) → Headline call report run (end_in run.left) before after →
          IsRunOf command call report run before after
      by run h =
          let end = end_in run.left in
          let same : h.command ≡ command = one call.words h.command command h.asked.spelled spells in
          let makes = headline-run spelled call report run end before after h (subst BeginsAnew (sym same) anew) in
          record {
            front = h.front;
            asked = subst (λ (c : Command). Asks call c h.front report.text) same (subst (Asks call h.command h.front) (sym h.text_is) h.asked);
            makes = subst (λ (c : Command). IsOneRun report.text call.devices (written_behind c run.left (status_of end)) before after) same makes;
          }

-- what follows from what holds of an answer
pub ok-weaker : {T E : Type 0} (r : Result T E) (P Q : T → Type 0) → ((x : T) → P x → Q x) → IfOk r P → IfOk r Q
ok-weaker (Ok x) P Q go h = go x h
ok-weaker (Err e) P Q go h = tt

-- what is so if there is a value, whatever it is
pub some-there : {A B : Type 0} (f : A → B) (o : Option A) (P : Type 0) → IfSome (option_map f o) (λ _. P) → IfSome o (λ _. P)
some-there f None P h = tt
some-there f (Some x) P h = h
