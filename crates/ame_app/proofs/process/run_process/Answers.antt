use Rattle.std.proofs.Common.{◌∙◌, ℕ, List, [], length, map, inl, inr, Option, refl, sym, ap, subst, arith}
use Rattle.std.specs.Prelude.{option_map, string_bytes}
use Rattle.ame_cli.specs.declared.command.Command.{Command}
use Rattle.ame_shell.specs.Ends.{Ends, ends_of}
use Rattle.ame_app.specs.declared.standard.StandardDevice.{StandardDevice}
use Rattle.ame_app.specs.declared.parts.ReportPart.{ReportPart}
use Rattle.ame_app.specs.declared.status.Status.{Status}
use Rattle.ame_app.specs.Calls.{what_is_given, call_of}
use Rattle.ame_app.specs.Causes.{IsNamed}
use Rattle.ame_app.specs.Causes.RefusalCause.{by_memory}
use Rattle.ame_app.specs.Headline.{IsToldAlone}
use Rattle.ame_app.specs.Reported.{run_view, reported}
use Rattle.ame_app.specs.Standard.{told_by, with_new}
use Rattle.ame_app.proofs.CodeLemmas.{ok-any}
use Rattle.ame_app.proofs.CompleteLemmas.{answered-turned}
use Rattle.ame_app.proofs.StandardLemmas.{promised-counts}
use Rattle.ame_app.proofs.process.run_process.Goals as goal

pub returns-in-Ok-standard_devices-clause-kinds : goal.returns-in-Ok-standard_devices-clause-kinds
returns-in-Ok-standard_devices-clause-kinds g c = promised-counts _ _ _ _ c.run_words_over.result.devices.items c.in-Ok-standard_devices.ensures refl c.run_words_over.ensures.answered

pub returns-clause-answered : goal.returns-clause-answered
returns-clause-answered g c =
    let written = g.K.Sink.written in
    let faults = g.K.Sink.faults in
    let source = what_is_given g.S.Source.left g.S.Source.faults c.args.source.now in
    let r = c.turn_away-in-Err-standard_devices.result in
    let told = c.turn_away-in-Err-standard_devices.ensures in
    let report = reported r in
    let before = with_new r.devices.len (written c.args.sink) (faults c.args.sink) in
    let after = ends_of written faults told_by r.sink r.devices.items in
    let same = ap (λ (n : ℕ). with_new n (written c.args.sink) (faults c.args.sink))
    (ap (λ v. v.len) told.devices ∙ c.new-in-Err-standard_devices-2.ensures.len)
    ∙ sym (ap (λ (l : List StandardDevice). ends_of written faults told_by c.args.sink l) c.new-in-Err-standard_devices-2.ensures.items) in
    let empty = ap (λ v. v.items) told.text ∙ c.new-in-Err-standard_devices.ensures.items in
    let none = ap length empty in
    ok-any c.args.words _ (λ ws. let call = call_of (map string_bytes ws.items) source source 2 in
    answered-turned c.spells_one_command.ensures call report before after
    (ap (option_map run_view) told.run) (omega (arith, none)) (record {
      ahead = [];
      own = ReportPart.Nothing;
      told = Status.NoMemory;
      cause = by_memory (inl empty) (record { faults = refl; untouched = λ command spelled unread. refl });
      named = subst (λ (o : Option Command). IsNamed call o Status.NoMemory) (sym told.command) (inr refl);
      alone = subst (λ (e : Ends). IsToldAlone [] ReportPart.Nothing Status.NoMemory report e after) (sym same) told.alone;
    }))
