-- `weak`: a source that is the text of a program, run under the weak semantics by the choices of a seed.
use Rattle.std.specs.Prelude.{◌≡◌, ◌≢◌, ℕ, ℤ, ◌+◌, ◌*◌, ◌≤◌, List, ◌++◌, length, Option, Some, None, option_to_list, ⊤}
use Rattle.ame_term.specs.Tree.{Tree}
use Rattle.ame_term.specs.Frame.{Side}
use Rattle.ame_term.specs.Context.{Focus, focus}
use Rattle.ame_term.specs.Act.{Act, act_of}
use Rattle.ame_term.specs.Maps.{at}
use Rattle.ame_term.specs.State.{State}
use Rattle.ame_term.specs.declared.semantics.Label.{Label}
use Rattle.ame_io.specs.Counts.{HasRisen}
use Rattle.ame_journal.specs.declared.entry.Entry.{Entry}
use Rattle.ame_journal.specs.Totals.{total_steps}
use Rattle.ame_protocol.specs.declared.stop.Stop.{Stop}
use Rattle.ame_shell.specs.Ends.{Ends, told_at}
use Rattle.ame_weak.specs.Weak.{Weak, weak_start, IsWeakRun}
use Rattle.ame_weak.specs.Bounds.{AreWithinBounds}
use Rattle.ame_weak.specs.Straight.{outset}
use Rattle.ame_weak.specs.Tries.{AreTried, straight_with}
use Rattle.ame_weak.specs.declared.tries.Try.{Try}
use Rattle.ame_runner.specs.Tall.{IsTallIn}
use Rattle.ame_runner.specs.Within.{AreTriedWithin, IsReachedWithin}
use Rattle.ame_runner.specs.Run.{turns_of_tries}
use Rattle.ame_runner.specs.Ended.{IsCounted, journal_of_run}
use Rattle.ame_runner.specs.Drawn.{IsDrawn}
use Rattle.ame_runner.specs.declared.stop.WeakStop.{WeakStop}
use Rattle.ame_cli.specs.Items.{default_of}
use Rattle.ame_cli.specs.declared.item.Item.TheVariants.{Slice}
use Rattle.ame_cli.specs.declared.command.Options.{Options}
use Rattle.ame_app.specs.declared.run_result.RunResult.{RunResult}
use Rattle.ame_app.specs.declared.run_result.WeakEnd.{WeakEnd}

-- The run

-- one seat, with these turns
abbrev pub alone_with : ℕ → Options
alone_with turns = record { workers = 1; turns = turns; slice = default_of Slice }

-- A note at the end of a journal says that a member is about to become a value nested too deeply in this state, at once or by steps within the
-- bounds.
abbrev pub IsNoteAtEnd : Option Entry → Weak → Type 0
IsNoteAtEnd None w = ⊤
IsNoteAtEnd (Some entry) w = IsTallIn w.state entry × IsReachedWithin w entry

-- Labels are those of a weak run that ends with nothing active, and tries hold at their places; all steps are within the bounds. Entries are the
-- journal of the labels with notes of the tries, and with the note about a value that would be nested too deeply, if that stopped the run.
pub record IsWeakJournal (program : Tree) (labels : List Label) (tries : List Try) (entries : List Entry) : Type 0 where
  pub weak : Weak
  pub leads : IsWeakRun program labels weak
  pub idle : weak.state.active ≡ None
  pub within : AreWithinBounds (weak_start program) labels
  pub tried : AreTried program labels tries
  pub tried_within : AreTriedWithin program labels tries
  pub last : Option Entry
  pub entries_are : entries ≡ straight_with 0 tries outset labels ++ option_to_list last
  pub grows : IsNoteAtEnd last weak

-- The report

-- a stop of a weak run, as a stop of an engine
abbrev pub stop_told : WeakStop → Stop
stop_told WeakStop.Finished = Stop.Finished
stop_told (WeakStop.Blocked certificates) = Stop.Blocked
stop_told WeakStop.Spent = Stop.Spent
stop_told (WeakStop.DeviceFault device) = Stop.DeviceFault device
stop_told (WeakStop.Tall entry) = Stop.Tall entry.number
stop_told WeakStop.NoMemory = Stop.NoMemory

-- labels, tries, turns and stop are those of a run, and the entries are their journal
pub record IsEndOf (labels : List Label) (tries : List Try) (turns : ℕ) (stop : WeakStop) (weak : WeakEnd) : Type 0 where
  pub labels_are : weak.labels.items ≡ labels
  pub tries_are : weak.tries.items ≡ tries
  pub turns_are : weak.turns ≡ turns
  pub stop_is : weak.stop ≡ stop_told stop
  pub entries_are : weak.journal.entries ≡ journal_of_run labels tries stop

-- they are those that the numbers of the seed draw from the program, the turns are counted from labels and tries, and the note at the end
-- of the journal is that of the stop
pub record IsDrawnAs (program : Tree) (seed limit : ℕ) (weak : WeakEnd) : Type 0 where
  pub stop : WeakStop
  pub stop_is : weak.stop ≡ stop_told stop
  pub drawn : IsDrawn program limit seed weak.labels.items weak.tries.items weak.turns stop
  pub counted : IsCounted stop (length weak.labels.items + turns_of_tries weak.tries.items) weak.turns
  pub notes : weak.journal.entries ≡ journal_of_run weak.labels.items weak.tries.items stop

-- The run was a weak one, drawn by the numbers of the seed, unless it was out of memory. Its journal is that of its labels and tries, and has at
-- least a third of its turns as steps and entries.
pub record IsWeakened (program : Tree) (seed limit : ℕ) (left : RunResult) : Type 0 where
  pub weak : WeakEnd
  pub left_is : left ≡ RunResult.Weak weak
  pub journal : IsWeakJournal program weak.labels.items weak.tries.items weak.journal.entries
  pub drawn : weak.stop ≢ Stop.NoMemory → IsDrawnAs program seed limit weak
  pub paid : weak.stop ≢ Stop.NoMemory → weak.turns ≤ 3 * total_steps weak.journal.entries

-- a member stands at a call of a device
pub record StandsAtCallOf (s : State) (device : ℕ) : Type 0 where
  pub number : ℕ
  pub term : Tree
  pub member : at s.members number ≡ Some term
  pub redex : Tree
  pub stands : focus term ≡ Focus.AtRedex Side.Unprotected redex
  pub argument : ℤ
  pub calls : act_of redex ≡ Act.Calls device argument

-- a device failed in this call, or its count stands at its last value; a member stands at a call of it, which may not have come in by an entry
pub record IsWeakFault (device : ℕ) (s : State) (before after : Ends) : Type 0 where
  pub stands : StandsAtCallOf s device
  pub faults : HasRisen (told_at before.told device).faults (told_at after.told device).faults
