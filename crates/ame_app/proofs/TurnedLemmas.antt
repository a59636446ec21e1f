-- Calls in which no run was begun.
use Rattle.std.proofs.Common.{◌≡◌, ◌≢◌, ◌⊎◌, inl, inr, ℕ, Bool, true, false, List, [], Option, sym, ap, ◌∙◌, subst}
use Rattle.ame_lex.specs.Bytes.{Text}
use Rattle.ame_parse.specs.Text.{source_of}
use Rattle.ame_code.specs.FlatCode.{FlatCode}
use Rattle.ame_code.specs.Code.{program_of}
use Rattle.ame_cli.specs.declared.command.Command.{Command}
use Rattle.ame_cli.specs.Grammar.{SpellsCommand}
use Rattle.ame_app.specs.declared.parts.Front.{Front}
use Rattle.ame_app.specs.declared.parts.ReportPart.{ReportPart}
use Rattle.ame_app.specs.declared.status.Status.{Status}
use Rattle.ame_shell.specs.Ends.{Ends}
use Rattle.ame_app.specs.Verbs.{reads_source, Settles}
use Rattle.ame_app.specs.Reported.{Reported}
use Rattle.ame_app.specs.Headline.{IsTurnedAway}
use Rattle.ame_app.specs.Jobs.{IsJobOf, IsLeft}
use Rattle.ame_app.specs.Calls.{Given, Call, IsInput, Asks}
use Rattle.ame_app.specs.Causes.{RefusalCause, IsNamed, IsWithoutMemory}
use Rattle.ame_app.specs.Causes.RefusalCause.{by_words, by_source, by_length, by_input, by_text, by_types, by_program, by_memory}
use Rattle.ame_app.proofs.VerbLemmas.{declines-other, settles-other}

-- the status of such a call is no fault of the sink
pub refusal-other : (call : Call) (text : Text) (ahead : List ℕ) (own : ReportPart) (told : Status)
    → RefusalCause call text ahead own told → told ≢ Status.WriteFault
refusal-other call text ahead own told (by_input other none d) = declines-other d.command d.bytes other d.declines
refusal-other call text ahead own told (by_words none u) = λ e. absurd (cc)
refusal-other call text ahead own told (by_source none r) = λ e. absurd (cc)
refusal-other call text ahead own told (by_length none l) = λ e. absurd (cc)
refusal-other call text ahead own told (by_text fault u) = λ e. absurd (cc)
refusal-other call text ahead own told (by_types fault ill) = λ e. absurd (cc)
refusal-other call text ahead own told (by_program bytes held other s) = settles-other s.command s.front s.accepted.source.tree bytes held other s.settles
refusal-other call text ahead own told (by_memory text_is m) = λ e. absurd (cc)

-- an input is taken without a fault of the source
pub input-stays : (reads : Bool) (source after : Given) (bytes : List ℕ) → IsInput reads source after bytes → after.faults ≡ source.faults
input-stays true source after bytes input = input.faults
input-stays false source after bytes input = ap (λ (g : Given). g.faults) input.1

input-untouched : (reads : Bool) (source after : Given) (bytes : List ℕ) → IsInput reads source after bytes → reads ≡ false → after ≡ source
input-untouched true source after bytes input e = absurd (cc)
input-untouched false source after bytes input e = input.1

-- words spell one command
abbrev pub SpellOne : Type 0
SpellOne = (words : List (List ℕ)) (command other : Command) → SpellsCommand words command → SpellsCommand words other → command ≡ other

-- memory may run out after the input was taken
module _ (one : SpellOne) (call : Call) where
  pub input-left : (command : Command) → SpellsCommand call.words command → (bytes : List ℕ)
      → IsInput (reads_source command) call.source call.source_after bytes → IsWithoutMemory call
  input-left command spelled bytes input = record {
    faults = input-stays (reads_source command) call.source call.source_after bytes input;
    untouched = λ other spells still. input-untouched (reads_source command) call.source call.source_after bytes input
        (ap reads_source (one call.words command other spelled spells) ∙ still);
  }

  pub asked-left : (command : Command) (front : Front) (text : Text) → Asks call command front text → IsWithoutMemory call
  asked-left command front text asked = input-left command asked.spelled asked.text_is.bytes asked.text_is.input

  -- no run was begun of a job
  pub left-turned : (command : Command) (front : Front) (code : FlatCode) (report : Reported) (before after : Ends)
      → IsJobOf call report.text code command front
      → IsLeft command front code report before after → IsTurnedAway call report before after
  left-turned command front code report before after job left =
      record {
        ahead = left.ahead;
        own = left.own;
        told = left.told;
        cause = by left.ahead left.own left.told left.cause;
        named = subst (λ (o : Option Command). IsNamed call o left.told) (sym left.named) job.asked.spelled;
        alone = left.alone;
      }
    where
      by : (ahead : List ℕ) (own : ReportPart) (told : Status)
          → Settles command front (program_of code) ahead own told ⊎ ((ahead ≡ []) × (own ≡ ReportPart.Nothing) × (told ≡ Status.NoMemory))
          → RefusalCause call report.text ahead own told
      by ahead own told (inl settles) = by_program ahead own told (record {
        command = command;
        front = front;
        asked = job.asked;
        accepted = record { source = source_of code.accepted.program; reads = job.program.reads; typed = job.program.typed };
        settles = settles;
      })
      by ahead own told (inr m) =
          subst (λ (l : List ℕ). RefusalCause call report.text l own told) (sym m.0)
          (subst (λ (o : ReportPart). RefusalCause call report.text [] o told) (sym m.1)
          (subst (RefusalCause call report.text [] ReportPart.Nothing) (sym m.2) (by_memory (inr (command, front, job.asked)) (asked-left command front report.text job.asked))))
