-- The promises of a call that asks for a job, and of one that is refused.
use Rattle.std.proofs.Common.{◌≡◌, ◌≢◌, ◌≤◌, ◌⊎◌, inl, inr, ℕ, List, [], length, Option, None, IfSome, sym, ap, subst, arith, ◌∙◌}
use Rattle.ame_lex.specs.Bytes.{Text}
use Rattle.ame_code.specs.FlatCode.{FlatCode}
use Rattle.ame_code.specs.Code.{program_of}
use Rattle.ame_cli.specs.declared.command.Command.{Command}
use Rattle.ame_shell.specs.Ends.{Ends}
use Rattle.ame_app.specs.declared.parts.Front.{Front}
use Rattle.ame_app.specs.declared.parts.ReportPart.{ReportPart}
use Rattle.ame_app.specs.declared.status.Status.{Status}
use Rattle.ame_app.specs.Answered.{IsPromised}
use Rattle.ame_app.specs.Calls.{Call}
use Rattle.ame_app.specs.Causes.{RefusalCause, IsNamed, IsRefusedWith}
use Rattle.ame_app.specs.Headline.{Headline, IsToldAlone}
use Rattle.ame_app.specs.Jobs.{IsJobOf, IsLeft}
use Rattle.ame_app.specs.RunResult.{end_in}
use Rattle.ame_app.specs.Reported.{RunView, Reported}
use Rattle.ame_app.specs.Verbs.{Settles}
use Rattle.ame_app.proofs.CodeLemmas.{some-weaker}
use Rattle.ame_app.proofs.CompleteLemmas.{answered, answered-turned}
use Rattle.ame_app.proofs.TurnedLemmas.{SpellOne, left-turned}
use Rattle.ame_app.proofs.VerbLemmas.{settles-other}

module _ (one : SpellOne) (call : Call) (report : Reported) (before after : Ends) where
  pub job-promised : (command : Command) (front : Front) (text : Text) (code : FlatCode) → report.text ≡ text → IsJobOf call text code command front
      → IfSome report.run (λ (run : RunView). (asker : Call) → IsJobOf asker text code command front
      → Headline asker report run (end_in run.left) before after)
      → (report.run ≡ None → IsLeft command front code report before after) → IsPromised call report before after
  job-promised command front text code same job ran left =
      let len = ap length same in
      let most = job.asked.most in
      answered one call report before after (omega (arith, len, most)) (some-weaker report.run _ _ (λ run headline. headline call job) ran)
      (λ none. left-turned one call command front code report before after (subst (λ (t : Text). IsJobOf call t code command front) (sym same) job) (left none))

  pub refusal-promised : (text : Text) (command : Option Command) (told : Status) → report.run ≡ None → report.text ≡ text → report.command ≡ command
      → IsRefusedWith call text command told → IsToldAlone [] ReportPart.Nothing told report before after → IsPromised call report before after
  refusal-promised text command told none same named refused alone =
      let len = ap length same in
      let most = refused.most in
      answered-turned one call report before after none (omega (arith, len, most)) (record {
        ahead = [];
        own = ReportPart.Nothing;
        told = told;
        cause = subst (λ (t : Text). RefusalCause call t [] ReportPart.Nothing told) (sym same) refused.cause;
        named = subst (λ (o : Option Command). IsNamed call o told) (sym named) refused.named;
        alone = alone;
      })

-- the status reported for a job without a run is no fault of the sink
pub left-other : (command : Command) (front : Front) (code : FlatCode) (ahead : List ℕ) (own : ReportPart) (told : Status)
    → Settles command front (program_of code) ahead own told ⊎ ((ahead ≡ []) × (own ≡ ReportPart.Nothing) × (told ≡ Status.NoMemory)) → told ≢ Status.WriteFault
left-other command front code ahead own told (inl settles) = settles-other command front (program_of code) ahead own told settles
left-other command front code ahead own told (inr lacks) =
    λ e. absurd (let no_memory = lacks.2 in let clash : Status.NoMemory ≡ Status.WriteFault = sym no_memory ∙ e in cc)
