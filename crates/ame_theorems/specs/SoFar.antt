-- The run that a call has shown so far.
use Rattle.std.specs.Prelude.{◌≡◌, ℕ, List, Option, Some, None}
use Rattle.std.specs.Io.KnownBytes.{Appends}
use Rattle.ame_io.specs.Lines.{lines}
use Rattle.ame_io.specs.Writes.{AppendsFront}
use Rattle.ame_term.specs.Tree.{Tree}
use Rattle.ame_term.specs.State.{State, start, IsRun}
use Rattle.ame_term.specs.declared.semantics.Label.{Label}
use Rattle.ame_journal.specs.Calls.{calls_along}
use Rattle.ame_protocol.specs.declared.stop.Stop.{Stop}
use Rattle.ame_shell.specs.Ends.{Ends, told_at}
use Rattle.ame_shell.specs.Heard.{answered_all, and_more}

-- A strong run of a program, which has come to a state with nothing active, was shown between two moments. The calls that each device heard, with
-- their answers, are exactly those of the run, in order. What was written is exactly the lines of its output, or a prefix of them if the sink failed.
pub record HasShownARun (program : Tree) (stop : Option Stop) (before now : Ends) : Type 0 where
  pub labels : List Label
  pub last : State
  pub runs : IsRun program labels last
  pub rests : last.active ≡ None
  pub heard : (k : ℕ) → (told_at now.told k).heard ≡ and_more (told_at before.told k).heard (answered_all (calls_along k (start program) labels))
  pub written : (stop ≡ Some Stop.WriteFault → ⊥) → Appends before.written now.written (lines last.output)
  pub in_part : AppendsFront before.written now.written (lines last.output)
