-- `resume`: a source that is a certificate, as for `check`. A run goes on from the journal without its notes. If none can, the journal is refused
-- without a run.
use Rattle.std.specs.Prelude.{◌≡◌, ℕ, ℤ, List, [], length, take, false, Some}
use Rattle.ame_term.specs.Tree.{Tree}
use Rattle.ame_journal.specs.declared.entry.Entry.{Entry}
use Rattle.ame_journal.specs.Totals.{is_note, without_notes}
use Rattle.ame_check.specs.Judge.{LeadsTo, IsTallAt}
use Rattle.ame_engine.specs.Resuming.{IsFar}
use Rattle.ame_app.specs.declared.run_result.Extra.{Extra}
use Rattle.ame_app.specs.declared.run_result.RunResult.{RunResult}
use Rattle.ame_app.specs.declared.parts.ReportPart.{ReportPart}
use Rattle.ame_app.specs.declared.status.Status.{Status}
use Rattle.ame_app.specs.RunResult.{end_in, extra_in}
use Rattle.ame_app.specs.Verbs.Check.{IsUnmade, IsTooMuch}

-- Refusals

-- the journal leads to a state, and of its entries that are no notes the n-th is the first with a location that is too far for an engine
pub record IsTooFar (program : Tree) (entries : List Entry) (ahead : List ℕ) (own : ReportPart) (n : ℕ) : Type 0 where
  pub output : List ℤ
  pub leads : LeadsTo program entries output
  pub far : IsFar (without_notes entries) n
  pub ahead_is : ahead ≡ []
  pub own_is : own ≡ ReportPart.Nothing

-- an entry that is no note, the n-th of those, passes a form whose value would be nested too deeply
pub record IsTallJournal (program : Tree) (entries : List Entry) (ahead : List ℕ) (own : ReportPart) (n : ℕ) : Type 0 where
  pub place : ℕ
  pub tall : IsTallAt program entries place
  pub act : is_note tall.there.passes.entry.kind ≡ false
  pub count : n ≡ length (without_notes (take place entries))
  pub ahead_is : ahead ≡ []
  pub own_is : own ≡ ReportPart.Nothing

-- the status of a journal from which no run of a program can go on, a row a status
abbrev pub TellsOfBase : Tree → List Entry → List ℕ → ReportPart → Status → Type 0
TellsOfBase program entries ahead own (Status.Invalid n) = IsUnmade program entries ahead own n
TellsOfBase program entries ahead own (Status.LongJournal n) = IsTooMuch entries ahead own n
TellsOfBase program entries ahead own (Status.FarJournal n) = IsTooFar program entries ahead own n
TellsOfBase program entries ahead own (Status.TallJournal n) = IsTallJournal program entries ahead own n
TellsOfBase program entries ahead own _ = ⊥

-- The run

-- the run goes on from the entries that are no notes, of a journal that leads to a state; an engine has cells for all their locations
pub record BeginsFromActs (program : Tree) (entries base : List Entry) : Type 0 where
  pub output : List ℤ
  pub leads : LeadsTo program entries output
  pub acts : base ≡ without_notes entries
  pub near : (n : ℕ) → IsFar base n → ⊥

-- an engine makes the run, and the report has the number of those entries
abbrev pub TellsResumed : RunResult → Type 0
TellsResumed left = extra_in left ≡ Some (Extra.Resumed (length (end_in left).base))
