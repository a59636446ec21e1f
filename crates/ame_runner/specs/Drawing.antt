-- The parts of a course that the functions of a run make.
use Rattle.std.specs.Prelude.{◌≡◌, ℕ, ◌+◌, ◌<◌, ◌≤◌, ◌⊎◌, max, List, [], ◌++◌, take, Option, Some, None}
use Rattle.ame_term.specs.Tree.{Tree}
use Rattle.ame_term.specs.declared.semantics.Label.{Label}
use Rattle.ame_gen.specs.Stream.{next as number_after}
use Rattle.ame_journal.specs.declared.entry.Entry.{Entry}
use Rattle.ame_weak.specs.declared.tries.Try.{Try}
use Rattle.ame_runner.specs.Run.{CourseView, IsRunning}
use Rattle.ame_runner.specs.Stop.{MayGoOn}
use Rattle.ame_runner.specs.Drawn.{drawn_by, AddsLabel, MakesNextLabel, PlansFragment, NotesTry, GrowsInAttempt, GoesOnWhenDrawn, Course, StopsWhenDrawn, EndsBy, IsDrawn}
use Rattle.ame_runner.specs.declared.stop.WeakStop.{WeakStop}

-- Labels

-- a label of a resting member was made and counted
pub record HasCountedTurn (label : Label) (c d : CourseView) : Type 0 where
  pub adds : AddsLabel label c d
  pub left : d.left ≡ c.left
  pub above : d.above ≡ max c.above d.play.above
  pub turns : d.turns ≡ c.turns + 1

-- labels of the active fragment were made, one after the other
pub data RunsOn (c : CourseView) : CourseView → Type 0 where
  none : RunsOn c c
  more : (m d : CourseView) → RunsOn c m → MakesNextLabel m d → RunsOn c d

-- the active fragment made the labels that it was still to make
pub record HasRunOut (c d : CourseView) : Type 0 where
  pub runs : RunsOn c d
  pub none : d.left ≡ []

-- its first label was made, if there is one
abbrev pub HasActivated : CourseView → CourseView → Type 0
HasActivated c d = ((c.left ≡ []) × (d ≡ c)) ⊎ MakesNextLabel c d

-- what a run that has stopped keeps of the course before: with the labels that the active fragment was still to make
pub record KeepsCourse (c d : CourseView) : Type 0 where
  pub labels : d.play.labels ≡ c.play.labels ++ c.left
  pub tries : d.tries ≡ c.tries

-- Attempts

abbrev pub HasTried : ℕ → CourseView → CourseView → Option Entry → Type 0
HasTried i c d None = PlansFragment i c d ⊎ NotesTry i c d
HasTried i c d (Some entry) = GrowsInAttempt i c d.turns entry × KeepsCourse c d

-- Choices

-- member i was drawn, and has stopped the run
pub record HasStoppedAt (i : ℕ) (c d : CourseView) (stop : WeakStop) : Type 0 where
  pub stops : StopsWhenDrawn stop i c d.turns
  pub keeps : KeepsCourse c d

-- what a drawn member did, or the stop in its place
abbrev pub TakesOrStops : ℕ → CourseView → CourseView → Option WeakStop → Type 0
TakesOrStops i c d None = GoesOnWhenDrawn i c d
TakesOrStops i c d (Some stop) = HasStoppedAt i c d stop

-- the next number drew a member
pub record HasDrawn (number later : ℕ) (c d : CourseView) : Type 0 where
  pub number_is : later ≡ number_after number
  pub turns : c.turns < c.limit
  pub may : MayGoOn c
  pub takes : GoesOnWhenDrawn (drawn_by (number_after number) c) c d

-- no number was drawn, since no turns are left
pub record HasNotDrawn (number later : ℕ) (c d : CourseView) : Type 0 where
  pub same : later ≡ number
  pub spent : c.limit ≤ c.turns
  pub out : HasRunOut c d

-- the course has come to its end
pub record HasEndedBy (number : ℕ) (c d : CourseView) (stop : WeakStop) : Type 0 where
  pub ends : EndsBy number c d.turns stop
  pub keeps : KeepsCourse c d

-- a choice, or the end of the course
abbrev pub DrawsOrEnds : ℕ → ℕ → CourseView → CourseView → Option WeakStop → Type 0
DrawsOrEnds number later c d None = HasDrawn number later c d ⊎ HasNotDrawn number later c d
DrawsOrEnds number later c d (Some stop) = IsRunning c → HasEndedBy number c d stop

-- the run is drawn to its end
abbrev pub DrawsAll : ℕ → CourseView → CourseView → WeakStop → Type 0
DrawsAll number c d stop =
    (program : Tree) (limit seed : ℕ) → IsRunning c → Course program limit seed number c → IsDrawn program limit seed d.play.labels d.tries d.turns stop

-- Reports

-- labels, tries and turns are those of a run that stops so, up to the last moment with nothing active
pub record IsReportOf (r : CourseView) (why : WeakStop) (labels : List Label) (tries : List Try) (turns : ℕ) (stop : WeakStop) : Type 0 where
  pub labels_are : labels ≡ take r.play.settled r.play.labels
  pub tries_are : tries ≡ r.tries
  pub turns_are : turns ≡ r.turns
  pub stop_is : stop ≡ why
