-- The report of a run that has ended.
use Rattle.std.specs.Prelude.{◌≡◌, ℕ, ◌+◌, ◌*◌, ◌≤◌, ◌⊎◌, List, [], ◌∷◌, ◌++◌, length, Some, None, ⊤}
use Rattle.ame_term.specs.Tree.{Tree}
use Rattle.ame_term.specs.declared.semantics.Label.{Label}
use Rattle.ame_device.specs.declared.told.Told.{Told}
use Rattle.ame_journal.specs.declared.entry.Entry.{Entry}
use Rattle.ame_journal.specs.Totals.{total_steps}
use Rattle.ame_shell.specs.Heard.{HaveHeard}
use Rattle.ame_weak.specs.Weak.{Weak, weak_start, IsWeakRun}
use Rattle.ame_weak.specs.Straight.{straight, outset}
use Rattle.ame_weak.specs.Straightened.{EndsActive}
use Rattle.ame_weak.specs.Tries.{AreTried, AreTriesInOrder, straight_with}
use Rattle.ame_weak.specs.declared.tries.Try.{Try}
use Rattle.ame_runner.specs.Labels.{location_above}
use Rattle.ame_weak.specs.Bounds.{AreWithinBounds}
use Rattle.ame_runner.specs.Within.{AreTriedWithin}
use Rattle.ame_runner.specs.Notes.{AreSpaced}
use Rattle.ame_runner.specs.Run.{turns_of_tries, AreFailedTries, CutAt}
use Rattle.ame_runner.specs.Stop.{HasWeakCause, FailsBy}
use Rattle.ame_runner.specs.declared.stop.WeakStop.{WeakStop}

-- All tries failed. If the turns were used up, the last may have been cut off, after n labels.
abbrev pub EndTries : WeakStop → ℕ → List Try → Type 0
EndTries WeakStop.Spent n tries = AreFailedTries tries ⊎ CutAt n tries
EndTries _ n tries = AreFailedTries tries

-- The labels are legal and end with nothing active. Every term that makes a step is within the bounds, and every location
-- is below the limit of turns. The tries hold at their places, in order, by steps within the bounds. All of them failed, but
-- the last may have been cut off at the end, with the turns. Between two failing tries of one member a fragment left or
-- ended, or a location was new.
pub record IsWeakRunOf (program : Tree) (limit : ℕ) (labels : List Label) (tries : List Try) (stop : WeakStop) : Type 0 where
  pub ends : EndsActive program labels None
  pub within : AreWithinBounds (weak_start program) labels
  pub below : location_above labels ≤ limit
  pub order : AreTriesInOrder 0 (length labels) tries
  pub tried : AreTried program labels tries
  pub tried_within : AreTriedWithin program labels tries
  pub last : EndTries stop (length labels) tries
  pub spaced : AreSpaced labels tries

-- the note of the member that came to a value nested too deeply, if that stopped the run
abbrev pub notes_of_stop : WeakStop → List Entry
notes_of_stop (WeakStop.Tall entry) = entry ∷ []
notes_of_stop _ = []

-- the journal of a run, with the notes of its tries and of its stop
abbrev pub journal_of_run : List Label → List Try → WeakStop → List Entry
journal_of_run labels tries stop = straight_with 0 tries outset labels ++ notes_of_stop stop

-- Devices have heard the calls of the journal and no others, if the run didn't end out of memory. Its turns are at most
-- three times the steps and entries of the journal, with its notes.
pub record IsWholeRun (program : Tree) (labels : List Label) (tries : List Try) (turns : ℕ) (before after : List Told) (stop : WeakStop) : Type 0 where
  pub heard : HaveHeard program (straight labels) before after
  pub paid : turns ≤ 3 * total_steps (journal_of_run labels tries stop)

-- The turns are the labels and the turns of the tries, and those of the attempt that came to a value nested too deeply, if the run stopped in one.
abbrev pub IsCounted : WeakStop → ℕ → ℕ → Type 0
IsCounted (WeakStop.Tall entry) n turns = (turns ≡ n) ⊎ (turns ≡ n + (entry.steps + 1))
IsCounted _ n turns = turns ≡ n

-- A stop has its cause in the state to which the labels lead. Devices heard these calls, and this one failed.
pub record IsToldBy (program : Tree) (limit : ℕ) (labels : List Label) (tries : List Try) (turns : ℕ) (before after : List Told) (stop : WeakStop) :
    Type 0 where
  pub cause : (w : Weak) → IsWeakRun program labels w → HasWeakCause stop w turns limit
  pub within : turns ≤ limit
  pub counted : IsCounted stop (length labels + turns_of_tries tries) turns
  pub whole : IsWholeRun program labels tries turns before after stop
  pub fails : FailsBy (Some stop) before after

-- when out of memory, nothing
abbrev pub TellsStop : Tree → ℕ → List Label → List Try → ℕ → List Told → List Told → WeakStop → Type 0
TellsStop program limit labels tries turns before after WeakStop.NoMemory = ⊤
TellsStop program limit labels tries turns before after stop = IsToldBy program limit labels tries turns before after stop
