-- The status that a call must have.
use Rattle.std.proofs.Common.{◌≡◌, ◌≢◌, ◌⊎◌, inl, inr, ℕ, ◌<◌, ◌≤◌, List, ◌++◌, length, Option, Some, None, Result, Ok, Err, IfSome, refl, sym, ap}
use Rattle.std.proofs.Common.{◌∙◌, subst, arith}
use Rattle.ame_io.specs.Counts.{HasNotRisen}
use Rattle.ame_io.specs.Reads.{whole_limit}
use Rattle.ame_io.specs.Lines.{lines}
use Rattle.ame_io.proofs.CountsLemmas.{HasNotRisen-excludes}
use Rattle.ame_lex.specs.Bytes.{Text}
use Rattle.ame_lex.specs.declared.tokens.LexFault.{LexFault}
use Rattle.ame_parse.specs.declared.fault.ParseFault.{ParseFault}
use Rattle.ame_parse.specs.Text.{Source, source_of, reading}
use Rattle.ame_term.specs.Tree.{Typ}
use Rattle.ame_term.specs.Shown.{TypeFault as PlainFault}
use Rattle.ame_term.specs.Typing.{typing}
use Rattle.ame_types.specs.declared.fault.TypeFault.{TypeFault}
use Rattle.ame_protocol.proofs.Row.CellLemmas.{which}
use Rattle.ame_journal.specs.Replayed.{Replayed}
use Rattle.ame_code.specs.FlatCode.{FlatCode}
use Rattle.ame_code.specs.Code.{program_of}
use Rattle.ame_value.specs.declared.val.Val.{Val}
use Rattle.ame_cli.specs.declared.command.Options.{Options}
use Rattle.ame_cli.specs.declared.command.Command.{Command}
use Rattle.ame_cli.specs.Grammar.{SpellsCommand, SpellsNothing}
use Rattle.ame_device.specs.declared.told.Told.{Told}
use Rattle.ame_protocol.specs.declared.stop.Stop.{Stop}
use Rattle.ame_journal.specs.declared.certificate.Certificate.{Certificate}
use Rattle.ame_engine.specs.Ending.{End}
use Rattle.ame_shell.specs.Ends.{Ends, told_at}
use Rattle.ame_shell.specs.Heard.{HaveFailed}
use Rattle.ame_app.specs.declared.fault.TextFault.{TextFault}
use Rattle.ame_app.specs.declared.parts.Front.{Front}
use Rattle.ame_app.specs.declared.parts.ReportPart.{ReportPart}
use Rattle.ame_app.specs.declared.status.Status.{Status}
use Rattle.ame_app.specs.Verbs.{reads_source, TakesInput, Declines, Settles, options_of, written_behind}
use Rattle.ame_app.specs.RunResult.{end_in}
use Rattle.ame_app.specs.Reported.{RunView, Reported}
use Rattle.ame_app.specs.Calls.{Call, Given, Asks}
use Rattle.ame_app.specs.Texts.{why_of, IsNoProgram, IsIllTyped, IsAcceptedText}
use Rattle.ame_app.specs.Causes.{RefusalCause, RunCause, CommandCause, status_at, status_of}
use Rattle.ame_app.specs.Causes.RefusalCause.{by_words, by_source, by_length, by_input, by_text, by_types, by_program, by_memory}
use Rattle.ame_app.specs.Headline.{DevicesTell, DevicesTellIfAble, DevicesTellOf, Headline, IsTurnedAway, IsWritten, verdict_of}
use Rattle.ame_app.specs.Complete.{IsGivenBytes, IsGivenText, IsGivenInVain, IsUnread, IsRefused, NothingFailed, IsUnlessMemory, TellsFault, TellsRule}
use Rattle.ame_app.specs.Complete.{TellsEnd, TellsEndWith, TellsOutcome, TellsInput, TellsDevice, IsComplete}
use Rattle.ame_app.specs.Answered.{IsPromised}
use Rattle.ame_app.specs.Verdict.{verdict}
use Rattle.ame_app.proofs.VerbLemmas.{takes-one, takes-none, declines-one, settles-one, settles-same, begins-unsettled}
use Rattle.ame_app.proofs.TurnedLemmas.{SpellOne, input-stays}
use Rattle.ame_app.proofs.GivenLemmas.{command-is, input-given, asked-takes, asked-most, given-more}

-- The sink

is-fault : (status : Status) → (status ≡ Status.WriteFault) ⊎ (status ≢ Status.WriteFault)
is-fault Status.WriteFault = inl refl
is-fault status = inr (λ e. absurd (cc))

module _ (status : Status) (text : List ℕ) (before after : Ends) (written : IsWritten status text before after) where
  sink-told : before.write_faults < after.write_faults → status ≡ Status.WriteFault
  sink-told rises = elim (is-fault status) [
    | inl e ↦ e
    | inr other ↦ absurd (let stayed = (written.whole other).1 in omega (arith, stayed, rises))
  ]

  sink-held : HasNotRisen before.write_faults after.write_faults → status ≢ Status.WriteFault
  sink-held still = λ e. HasNotRisen-excludes before.write_faults after.write_faults still (written.front e).1

-- Devices

device-told : (stop : Option Stop) (certificates : List Certificate) (before after : List Told) (k : ℕ) → HaveFailed stop before after
    → (told_at before k).faults < (told_at after k).faults → status_at stop certificates ≡ Status.DeviceFault k
device-told (Some (Stop.DeviceFault j)) certificates before after k failed rises = elim (which k j) [
  | inl e ↦ ap Status.DeviceFault (sym e)
  | inr other ↦ absurd (let stayed = failed.others k other in omega (arith, stayed, rises))
]
device-told stop certificates before after k none rises = absurd (let stayed = none k in omega (arith, stayed, rises))

-- of the run of a command
module _ (call : Call) (code : FlatCode) (end : End Val) (before after : Ends) (status : Status) (k : ℕ)
    (rises : (told_at before.told k).faults < (told_at after.told k).faults) (spoken : status ≡ status_of end) where
  fault-told : DevicesTell code end before after → TellsDevice call k status
  fault-told d = inl (spoken ∙ device-told end.stop end.certificates before.told after.told k d.failed rises)

  weak-fault-told : (seed turns : ℕ) → SpellsCommand call.words (Command.Weak seed turns) → DevicesTellIfAble code end before after
      → (stop : Option Stop) → end.stop ≡ stop → TellsDevice call k status
  weak-fault-told seed turns spelled d (Some Stop.NoMemory) is =
      inr (spoken ∙ ap (λ (o : Option Stop). status_at o end.certificates) is, seed, turns, spelled)
  weak-fault-told seed turns spelled d stop is = fault-told (d.able (λ e. let clash : stop ≡ Some Stop.NoMemory = sym is ∙ e in cc))

  failed-told : (command : Command) → SpellsCommand call.words command → DevicesTellOf command code end before after → TellsDevice call k status
  failed-told (Command.Run with) spelled d = fault-told d
  failed-told (Command.Bench seed size with) spelled d = fault-told d
  failed-told (Command.Sim seed with) spelled d = fault-told d
  failed-told (Command.Replay with) spelled d = fault-told d
  failed-told Command.Check spelled d = fault-told d
  failed-told (Command.Resume with) spelled d = fault-told d
  failed-told (Command.Weak seed turns) spelled d = weak-fault-told seed turns spelled d end.stop refl

-- The status of an input

data Due (command : Command) (bytes : List ℕ) (devices : ℕ) (status : Status) : Type 0 where
  is_long : status ≡ Status.TooLong → whole_limit < length bytes → Due command bytes devices status
  is_declined : Declines command bytes status → length bytes ≤ whole_limit → Due command bytes devices status
  is_unread : (front : Front) (text : Text) (fault : TextFault) → status ≡ Status.Text fault → TakesInput command bytes front text → IsNoProgram text fault
      → length bytes ≤ whole_limit → Due command bytes devices status
  is_refused : (front : Front) (text : Text) (fault : TypeFault) → status ≡ Status.Types fault → TakesInput command bytes front text
      → IsIllTyped text devices fault → length bytes ≤ whole_limit → Due command bytes devices status
  is_settled : (front : Front) (text : Text) (good : IsAcceptedText text devices) (ahead : List ℕ) (own : ReportPart)
      → Settles command front good.source.tree ahead own status
      → TakesInput command bytes front text → length bytes ≤ whole_limit → Due command bytes devices status
  is_run : (front : Front) (text : Text) (good : IsAcceptedText text devices) → TellsEndWith (options_of command) status
      → ((ahead : List ℕ) (own : ReportPart) (told : Status) → Settles command front good.source.tree ahead own told → ⊥)
      → TakesInput command bytes front text → length bytes ≤ whole_limit → Due command bytes devices status
  lacks : status ≡ Status.NoMemory → Due command bytes devices status

err-ok : {A E : Type 0} (r : Result A E) (x : A) (e : E) → r ≡ Ok x → r ≡ Err e → ⊥
err-ok r x e is bad = let clash : Ok x ≡ Err e = sym is ∙ bad in cc

-- a text that is no program isn't read as one
never-reads : (text : Text) (fault : TextFault) (source : Source) → IsNoProgram text fault → reading text ≡ Ok source → ⊥
never-reads text (TextFault.Lexical LexFault.NoMemory) source none reads = none
never-reads text (TextFault.Syntactic ParseFault.NoMemory) source none reads = none
never-reads text fault source none reads = err-ok (reading text) source (why_of fault) reads none

-- a program of a text that is read is that one
typed-same : (text : Text) (devices : ℕ) (one other : Source) (fault : PlainFault) → reading text ≡ Ok one → reading text ≡ Ok other
    → typing devices one.places one.tree ≡ Ok Typ.Unit → typing devices other.places other.tree ≡ Err fault → ⊥
typed-same text devices one other fault reads again typed breaks =
    let both : Ok one ≡ Ok other = sym reads ∙ again in
    let same : one ≡ other = cc in
    err-ok (typing devices other.places other.tree) Typ.Unit fault (subst (λ (s : Source). typing devices s.places s.tree ≡ Ok Typ.Unit) same typed) breaks

-- one text is read as one program
read-same : (text also : Text) (devices : ℕ) → text ≡ also
    → (one : IsAcceptedText text devices) (other : IsAcceptedText also devices) → one.source ≡ other.source
read-same text also devices same one other =
    let both : Ok one.source ≡ Ok other.source = sym one.reads ∙ ap reading same ∙ other.reads in
    cc

-- memory may run out with a run or without one
memory-ends : (options : Option Options) → TellsEndWith options Status.NoMemory
memory-ends (Some options) = tt
memory-ends None = refl

module _ (command : Command) (bytes : List ℕ) (devices : ℕ) (status : Status) where
  due-long : whole_limit < length bytes → Due command bytes devices status → IsUnlessMemory Status.TooLong status
  due-long over (is_long e long) = inl e
  due-long over (is_declined d most) = absurd (omega (arith, over, most))
  due-long over (is_unread f t fault e takes unread most) = absurd (omega (arith, over, most))
  due-long over (is_refused f t fault e takes ill most) = absurd (omega (arith, over, most))
  due-long over (is_settled f t good ahead own settles takes most) = absurd (omega (arith, over, most))
  due-long over (is_run f t good run never takes most) = absurd (omega (arith, over, most))
  due-long over (lacks e) = inr e

  due-declined : length bytes ≤ whole_limit → (told : Status) → Declines command bytes told → Due command bytes devices status → IsUnlessMemory told status
  due-declined short told d (is_long e long) = absurd (omega (arith, short, long))
  due-declined short told d (is_declined other most) = inl (declines-one command bytes status told other d)
  due-declined short told d (is_unread f t fault e takes unread most) = absurd (takes-none command bytes f t told takes d)
  due-declined short told d (is_refused f t fault e takes ill most) = absurd (takes-none command bytes f t told takes d)
  due-declined short told d (is_settled f t good ahead own settles takes most) = absurd (takes-none command bytes f t told takes d)
  due-declined short told d (is_run f t good run never takes most) = absurd (takes-none command bytes f t told takes d)
  due-declined short told d (lacks e) = inr e

  module _ (short : length bytes ≤ whole_limit) (front : Front) (text : Text) (takes : TakesInput command bytes front text) where
    same : (other : Front) (also : Text) → TakesInput command bytes other also → also ≡ text
    same other also again = takes-one command bytes other front also text again takes

    due-unread : IsUnread text → Due command bytes devices status → TellsFault text status
    due-unread un (is_long e long) = absurd (omega (arith, short, long))
    due-unread un (is_declined d most) = absurd (takes-none command bytes front text status takes d)
    due-unread un (is_unread f t fault e again unread most) =
        subst (TellsFault text) (sym e) (subst (λ (l : Text). IsNoProgram l fault) (same f t again) unread)
    due-unread un (is_refused f t fault e again ill most) =
        absurd (err-ok (reading text) ill.source un.why (subst (λ (l : Text). reading l ≡ Ok ill.source) (same f t again) ill.reads) un.reads)
    due-unread un (is_settled f t good ahead own settles again most) =
        absurd (err-ok (reading text) good.source un.why (subst (λ (l : Text). reading l ≡ Ok good.source) (same f t again) good.reads) un.reads)
    due-unread un (is_run f t good run never again most) =
        absurd (err-ok (reading text) good.source un.why (subst (λ (l : Text). reading l ≡ Ok good.source) (same f t again) good.reads) un.reads)
    due-unread un (lacks e) = subst (TellsFault text) (sym e) tt

    due-refused : IsRefused text devices → Due command bytes devices status → TellsRule text devices status
    due-refused bad (is_long e long) = absurd (omega (arith, short, long))
    due-refused bad (is_declined d most) = absurd (takes-none command bytes front text status takes d)
    due-refused bad (is_unread f t fault e again unread most) =
        absurd (never-reads text fault bad.source (subst (λ (l : Text). IsNoProgram l fault) (same f t again) unread) bad.reads)
    due-refused bad (is_refused f t fault e again ill most) =
        subst (TellsRule text devices) (sym e) (subst (λ (l : Text). IsIllTyped l devices fault) (same f t again) ill)
    due-refused bad (is_settled f t good ahead own settles again most) =
        absurd (typed-same text devices good.source bad.source bad.fault
        (subst (λ (l : Text). reading l ≡ Ok good.source) (same f t again) good.reads) bad.reads good.typed bad.breaks)
    due-refused bad (is_run f t good run never again most) =
        absurd (typed-same text devices good.source bad.source bad.fault
        (subst (λ (l : Text). reading l ≡ Ok good.source) (same f t again) good.reads) bad.reads good.typed bad.breaks)
    due-refused bad (lacks e) = subst (TellsRule text devices) (sym e) tt

    module _ (good : IsAcceptedText text devices) where
      -- a status of one program is that of the other
      here : (f : Front) (t : Text) (again : TakesInput command bytes f t) (other : IsAcceptedText t devices) (ahead : List ℕ) (own : ReportPart) (told : Status)
          → Settles command f other.source.tree ahead own told → Settles command front good.source.tree ahead own told
      here f t again other ahead own told settles =
          settles-same command bytes f front t text again takes good.source.tree ahead own told
          (subst (λ (s : Source). Settles command f s.tree ahead own told) (read-same t text devices (same f t again) other good) settles)

      there : (f : Front) (t : Text) (again : TakesInput command bytes f t) (other : IsAcceptedText t devices) (ahead : List ℕ) (own : ReportPart) (told : Status)
          → Settles command front good.source.tree ahead own told → Settles command f other.source.tree ahead own told
      there f t again other ahead own told settles =
          settles-same command bytes front f text t takes again other.source.tree ahead own told
          (subst (λ (s : Source). Settles command front s.tree ahead own told) (read-same text t devices (sym (same f t again)) good other) settles)

      due-accepted : Due command bytes devices status → TellsOutcome command front good.source.tree status
      due-accepted (is_long e long) = absurd (omega (arith, short, long))
      due-accepted (is_declined d most) = absurd (takes-none command bytes front text status takes d)
      due-accepted (is_unread f t fault e again unread most) =
          absurd (never-reads text fault good.source (subst (λ (l : Text). IsNoProgram l fault) (same f t again) unread) good.reads)
      due-accepted (is_refused f t fault e again ill most) =
          absurd (typed-same text devices good.source ill.source _ good.reads
          (subst (λ (l : Text). reading l ≡ Ok ill.source) (same f t again) ill.reads) good.typed ill.is)
      due-accepted (is_settled f t other ahead own settles again most) = inl (ahead, own, here f t again other ahead own status settles)
      due-accepted (is_run f t other run never again most) = inr run
      due-accepted (lacks e) = inr (subst (TellsEndWith (options_of command)) (sym e) (memory-ends (options_of command)))

      due-settled : (ahead : List ℕ) (own : ReportPart) (told : Status) → Settles command front good.source.tree ahead own told
          → Due command bytes devices status → IsUnlessMemory told status
      due-settled ahead own told settles (is_long e long) = absurd (omega (arith, short, long))
      due-settled ahead own told settles (is_declined d most) = absurd (takes-none command bytes front text status takes d)
      due-settled ahead own told settles (is_unread f t fault e again unread most) =
          absurd (never-reads text fault good.source (subst (λ (l : Text). IsNoProgram l fault) (same f t again) unread) good.reads)
      due-settled ahead own told settles (is_refused f t fault e again ill most) =
          absurd (typed-same text devices good.source ill.source _ good.reads
          (subst (λ (l : Text). reading l ≡ Ok ill.source) (same f t again) ill.reads) good.typed ill.is)
      due-settled ahead own told settles (is_settled f t other more also again_settles again most) =
          inl (settles-one command front good.source.tree more ahead also own status told (here f t again other more also status again_settles) settles)
      due-settled ahead own told settles (is_run f t other run never again most) = absurd (never ahead own told (there f t again other ahead own told settles))
      due-settled ahead own told settles (lacks e) = inr e

-- Calls without a run

asked-stays : (call : Call) (command : Command) (front : Front) (text : Text) → Asks call command front text → call.source_after.faults ≡ call.source.faults
asked-stays call command front text asked =
    input-stays (reads_source command) call.source call.source_after asked.text_is.bytes asked.text_is.input

module _ (one : SpellOne) (call : Call) (report : Text) where
  usage-refusal : (ahead : List ℕ) (own : ReportPart) (told : Status) → SpellsNothing call.words
      → RefusalCause call report ahead own told → IsUnlessMemory Status.Usage told
  usage-refusal ahead own told nothing (by_words none u) = inl refl
  usage-refusal ahead own told nothing (by_source none r) = absurd (nothing r.reader.command r.reader.spelled)
  usage-refusal ahead own told nothing (by_length none long) = absurd (nothing long.reader.command long.reader.spelled)
  usage-refusal ahead own told nothing (by_input other none d) = absurd (nothing d.command d.spelled)
  usage-refusal ahead own told nothing (by_text fault un) = absurd (nothing un.command un.asked.spelled)
  usage-refusal ahead own told nothing (by_types fault ill) = absurd (nothing ill.command ill.asked.spelled)
  usage-refusal ahead own told nothing (by_program bytes held other s) = absurd (nothing s.command s.asked.spelled)
  usage-refusal ahead own told nothing (by_memory text_is c) = inr refl

  text-refusal : (ahead : List ℕ) (own : ReportPart) (told : Status) (command : Command) → SpellsCommand call.words command
      → HasNotRisen call.source.faults call.source_after.faults → RefusalCause call report ahead own told → TellsInput command told
  text-refusal ahead own told command spelled still (by_words none u) = absurd (u.words command spelled)
  text-refusal ahead own told command spelled still (by_source none r) = absurd (HasNotRisen-excludes call.source.faults call.source_after.faults still r.faults)
  text-refusal ahead own told command spelled still (by_length none long) = inl tt
  text-refusal ahead own told command spelled still (by_input other none d) =
      inr (inl (d.bytes, subst (λ (k : Command). Declines k d.bytes other) (one call.words d.command command d.spelled spelled) d.declines))
  text-refusal ahead own told command spelled still (by_text fault un) = inl tt
  text-refusal ahead own told command spelled still (by_types fault ill) = inl tt
  text-refusal ahead own told command spelled still (by_program bytes held other s) =
      let tree = s.accepted.source.tree in
      let settles = subst (λ (k : Command). Settles k s.front tree bytes held other) (one call.words s.command command s.asked.spelled spelled) s.settles in
      inr (inr (s.front, tree, inl (bytes, held, settles)))
  text-refusal ahead own told command spelled still (by_memory text_is c) = inl tt

  source-refusal : (ahead : List ℕ) (own : ReportPart) (told : Status) → call.source.faults < call.source_after.faults
      → RefusalCause call report ahead own told → told ≡ Status.ReadFault
  source-refusal ahead own told rises (by_words none u) = absurd (let stayed = ap (λ (g : Given). g.faults) u.source in omega (arith, stayed, rises))
  source-refusal ahead own told rises (by_source none r) = refl
  source-refusal ahead own told rises (by_length none long) = absurd (let stayed = long.faults in omega (arith, stayed, rises))
  source-refusal ahead own told rises (by_input other none d) =
      absurd (let stayed = input-stays (reads_source d.command) call.source call.source_after d.bytes d.input in omega (arith, stayed, rises))
  source-refusal ahead own told rises (by_text fault un) = absurd (let stayed = asked-stays call un.command un.front report un.asked in omega (arith, stayed, rises))
  source-refusal ahead own told rises (by_types fault ill) = absurd (let stayed = asked-stays call ill.command ill.front report ill.asked in omega (arith, stayed, rises))
  source-refusal ahead own told rises (by_program bytes held other s) =
      absurd (let stayed = asked-stays call s.command s.front report s.asked in omega (arith, stayed, rises))
  source-refusal ahead own told rises (by_memory text_is c) = absurd (let stayed = c.faults in omega (arith, stayed, rises))

-- Calls with a run, or without one

module _ (call : Call) (before after : Ends) (n : NothingFailed call before after) where
  plain-told : (told : Status) (options : Options) (end : End Val) (r : Replayed) → RunCause told options end r before after → TellsEnd told
  plain-told Status.Finished options end r c = tt
  plain-told (Status.Blocked number) options end r c = tt
  plain-told Status.Spent options end r c = tt
  plain-told (Status.Tall number) options end r c = tt
  plain-told Status.NoMemory options end r c = tt
  plain-told (Status.DeviceFault k) options end r c =
      absurd (HasNotRisen-excludes (told_at before.told k).faults (told_at after.told k).faults (n.devices k) c.faults)
  plain-told Status.WriteFault options end r c = absurd (HasNotRisen-excludes before.write_faults after.write_faults n.sink c)
  plain-told told options end r c = absurd c

  weak-told : (seed turns : ℕ) (told : Status) (options : Options) (end : End Val) (r : Replayed)
      → CommandCause (Command.Weak seed turns) told options end r before after → TellsEnd told
  weak-told seed turns (Status.DeviceFault k) options end r c =
      absurd (HasNotRisen-excludes (told_at before.told k).faults (told_at after.told k).faults (n.devices k) c.faults)
  weak-told seed turns told options end r c = plain-told told options end r c

  run-told : (command : Command) (told : Status) (options : Options) (end : End Val) (r : Replayed)
      → CommandCause command told options end r before after → TellsEnd told
  run-told (Command.Run with) told options end r c = plain-told told options end r c
  run-told (Command.Bench seed size with) told options end r c = plain-told told options end r c
  run-told (Command.Sim seed with) told options end r c = plain-told told options end r c
  run-told (Command.Replay with) told options end r c = plain-told told options end r c
  run-told Command.Check told options end r c = plain-told told options end r c
  run-told (Command.Resume with) told options end r c = plain-told told options end r c
  run-told (Command.Weak seed turns) told options end r c = weak-told seed turns told options end r c

module _ (one : SpellOne) (call : Call) (before after : Ends) (n : NothingFailed call before after) (bytes : List ℕ) (given : IsGivenBytes call bytes) where
  due-refusal : (report : Text) (ahead : List ℕ) (own : ReportPart) (told : Status)
      → RefusalCause call report ahead own told → Due given.command bytes call.devices told
  due-refusal report ahead own told (by_words none u) = absurd (u.words given.command given.spelled)
  due-refusal report ahead own told (by_source none r) = absurd (HasNotRisen-excludes call.source.faults call.source_after.faults n.source r.faults)
  due-refusal report ahead own told (by_length none long) = is_long refl (given-more one call bytes given whole_limit long.reader long.given)
  due-refusal report ahead own told (by_input other none d) =
      let same = input-given one call bytes given d.command d.spelled d.bytes d.input in
      is_declined (subst (λ (k : Command). Declines k bytes other) (command-is one call bytes given d.command d.spelled)
      (subst (λ (l : List ℕ). Declines d.command l other) same d.declines)) (subst (λ (l : List ℕ). length l ≤ whole_limit) same d.most)
  due-refusal report ahead own told (by_text fault un) =
      is_unread un.front report fault refl (asked-takes one call bytes given un.command un.front report un.asked) un.cause
      (asked-most one call bytes given un.command un.front report whole_limit un.asked un.asked.text_is.most)
  due-refusal report ahead own told (by_types fault ill) =
      is_refused ill.front report fault refl (asked-takes one call bytes given ill.command ill.front report ill.asked) ill.cause
      (asked-most one call bytes given ill.command ill.front report whole_limit ill.asked ill.asked.text_is.most)
  due-refusal report ahead own told (by_program more held other s) =
      is_settled s.front report s.accepted more held
      (subst (λ (k : Command). Settles k s.front s.accepted.source.tree more held other) (command-is one call bytes given s.command s.asked.spelled) s.settles)
      (asked-takes one call bytes given s.command s.front report s.asked)
      (asked-most one call bytes given s.command s.front report whole_limit s.asked s.asked.text_is.most)
  due-refusal report ahead own told (by_memory text_is c) = lacks refl

  due-run : (report : Reported) (run : RunView) (end : End Val) → Headline call report run end before after → Due given.command bytes call.devices report.status
  due-run report run end h =
      let spoken = h.spoken (sink-held report.status (lines h.final.state.output ++ (verdict_of end ++ written_behind h.command run.left (status_of end))) before after h.output n.sink) in
      let ended = run-told call before after n h.command (status_of end) h.options end h.final h.cause in
      let source = source_of h.compiled.accepted.program in
      let is = command-is one call bytes given h.command h.asked.spelled in
      is_run h.front h.text (record { source = source; reads = h.program.reads; typed = h.program.typed })
      (subst (λ (o : Option Options). TellsEndWith o report.status) (sym h.with_options ∙ ap options_of is) (subst TellsEnd (sym spoken) ended))
      (λ ahead own told settles. begins-unsettled h.command h.front source.tree end.base h.begun ahead own told
      (subst (λ (k : Command). Settles k h.front source.tree ahead own told) (sym is) settles))
      (asked-takes one call bytes given h.command h.front h.text h.asked)
      (asked-most one call bytes given h.command h.front h.text whole_limit h.asked h.asked.text_is.most)

-- Both

-- the status is the one that is due
module _ (one : SpellOne) (call : Call) (status : Status) (before after : Ends)
    (due : (n : NothingFailed call before after) (bytes : List ℕ) (given : IsGivenBytes call bytes) → Due given.command bytes call.devices status) where
  told-long : NothingFailed call before after → (bytes : List ℕ) → IsGivenBytes call bytes → whole_limit < length bytes → IsUnlessMemory Status.TooLong status
  told-long n bytes given over = due-long given.command bytes call.devices status over (due n bytes given)

  told-declined : NothingFailed call before after → (told : Status) → IsGivenInVain call told → IsUnlessMemory told status
  told-declined n told v = due-declined v.given.command v.bytes call.devices status v.most told v.declines (due n v.bytes v.given)

  told-unread : NothingFailed call before after → (text : Text) → IsGivenText call text → IsUnread text → TellsFault text status
  told-unread n text g un = due-unread g.given.command g.bytes call.devices status g.most g.front text g.takes un (due n g.bytes g.given)

  told-refused : NothingFailed call before after → (text : Text) → IsGivenText call text → IsRefused text call.devices → TellsRule text call.devices status
  told-refused n text g bad = due-refused g.given.command g.bytes call.devices status g.most g.front text g.takes bad (due n g.bytes g.given)

  told-accepted : NothingFailed call before after → (text : Text) (g : IsGivenText call text) (good : IsAcceptedText text call.devices)
      → TellsOutcome g.given.command g.front good.source.tree status
  told-accepted n text g good = due-accepted g.given.command g.bytes call.devices status g.most g.front text g.takes good (due n g.bytes g.given)

  told-settled : NothingFailed call before after → (text : Text) (g : IsGivenText call text) (good : IsAcceptedText text call.devices)
      → (ahead : List ℕ) (own : ReportPart) (told : Status) → Settles g.given.command g.front good.source.tree ahead own told → IsUnlessMemory told status
  told-settled n text g good ahead own told settles =
      due-settled g.given.command g.bytes call.devices status g.most g.front text g.takes good ahead own told settles (due n g.bytes g.given)

module _ (one : SpellOne) (call : Call) (report : Reported) (before after : Ends) where
  complete-run : (run : RunView) (end : End Val) → Headline call report run end before after → IsComplete call report.status before after
  complete-run run end h =
      let written = lines h.final.state.output ++ (verdict_of end ++ written_behind h.command run.left (status_of end)) in
      let held = sink-held report.status written before after h.output in
      let due : (n : NothingFailed call before after) (bytes : List ℕ) (given : IsGivenBytes call bytes) → Due given.command bytes call.devices report.status =
      λ n bytes given. due-run one call before after n bytes given report run end h in
      record {
        usage = λ n nothing. absurd (nothing h.command h.asked.spelled);
        spelled = λ n command words.
            let ends = subst TellsEnd (sym (h.spoken (held n.sink))) (run-told call before after n h.command (status_of end) h.options end h.final h.cause) in
            let with = sym h.with_options ∙ ap options_of (one call.words h.command command h.asked.spelled words) in
            inr (inr (h.front, program_of h.compiled, inr (subst (λ (o : Option Options). TellsEndWith o report.status) with ends)));
        long = told-long one call report.status before after due;
        declined = told-declined one call report.status before after due;
        unread = told-unread one call report.status before after due;
        refused = told-refused one call report.status before after due;
        accepted = told-accepted one call report.status before after due;
        settled = told-settled one call report.status before after due;
        sink_failed = sink-told report.status written before after h.output;
        device_failed = λ still k rises.
            failed-told call h.compiled end before after report.status k rises (h.spoken (held still)) h.command h.asked.spelled h.devices;
        source_failed = λ still rises. absurd (let stayed = asked-stays call h.command h.front h.text h.asked in omega (arith, stayed, rises));
      }

  complete-turned : IsTurnedAway call report before after → IsComplete call report.status before after
  complete-turned t =
      let held = sink-held report.status (t.ahead ++ verdict t.told) before after t.alone.output in
      let due : (n : NothingFailed call before after) (bytes : List ℕ) (given : IsGivenBytes call bytes) → Due given.command bytes call.devices report.status =
      λ n bytes given. subst (Due given.command bytes call.devices) (sym (t.alone.spoken (held n.sink)))
      (due-refusal one call before after n bytes given report.text t.ahead t.own t.told t.cause) in
      record {
        usage = λ n nothing. subst (IsUnlessMemory Status.Usage) (sym (t.alone.spoken (held n.sink))) (usage-refusal one call report.text t.ahead t.own t.told nothing t.cause);
        spelled = λ n command words. subst (TellsInput command) (sym (t.alone.spoken (held n.sink)))
            (text-refusal one call report.text t.ahead t.own t.told command words n.source t.cause);
        long = told-long one call report.status before after due;
        declined = told-declined one call report.status before after due;
        unread = told-unread one call report.status before after due;
        refused = told-refused one call report.status before after due;
        accepted = told-accepted one call report.status before after due;
        settled = told-settled one call report.status before after due;
        sink_failed = sink-told report.status (t.ahead ++ verdict t.told) before after t.alone.output;
        device_failed = λ still k rises. absurd (
            let stayed = ap (λ (devices : List Told). (told_at devices k).faults) t.alone.devices in
            omega (arith, stayed, rises)
            );
        source_failed = λ still rises. t.alone.spoken (held still) ∙ source-refusal one call report.text t.ahead t.own t.told rises t.cause;
      }

  -- no run was begun
  pub answered-turned : report.run ≡ None → length report.text ≤ whole_limit → IsTurnedAway call report before after → IsPromised call report before after
  answered-turned none short turned = record {
    ran = subst (λ (o : Option RunView). IfSome o (λ (run : RunView). Headline call report run (end_in run.left) before after)) (sym none) tt;
    turned_away = λ _. turned;
    complete = complete-turned turned;
    short = short;
  }

  -- one was, or none
  pub answered : length report.text ≤ whole_limit → IfSome report.run (λ (run : RunView). Headline call report run (end_in run.left) before after)
      → (report.run ≡ None → IsTurnedAway call report before after) → IsPromised call report before after
  answered short ran turned = record { ran = ran; turned_away = turned; complete = by report.run refl ran; short = short }
    where
      by : (o : Option RunView) → report.run ≡ o → IfSome o (λ (run : RunView). Headline call report run (end_in run.left) before after)
          → IsComplete call report.status before after
      by None none h = complete-turned (turned none)
      by (Some run) is h = complete-run run (end_in run.left) h
