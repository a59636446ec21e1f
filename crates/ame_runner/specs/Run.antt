-- A run that makes its choices.
use Rattle.std.specs.Prelude.{◌≡◌, ℕ, ◌+◌, ◌≤◌, ◌⊎◌, Bool, true, false, List, [], ◌∷◌, ◌++◌, length, if◌then◌else◌, Result, Ok, Err, ⊤}
use Rattle.std.specs.List.{AllByRecursion, sum_by}
use Rattle.ame_term.specs.Tree.{Tree}
use Rattle.ame_term.specs.declared.semantics.Label.{Label}
use Rattle.ame_weak.specs.declared.tries.Try.{Try}
use Rattle.ame_runner.specs.Labels.{location_above}
use Rattle.ame_runner.specs.Play.{PlayView, IsPlayedWeakly, HasMadeLabel, begun_play}
use Rattle.ame_runner.specs.Notes.{lets_try_again, AreKept}

-- The weak run so far, its tries, and who is put aside; the labels of the active fragment that are still to be made;
-- the least location above all that were made and are to be; the turns that were counted, and their limit.
pub record CourseView : Type 0 where
  pub play : PlayView
  pub tries : List Try
  pub aside : ℕ → Bool
  pub left : List Label
  pub above : ℕ
  pub turns : ℕ
  pub limit : ℕ

-- the turns that tries took which came to nothing
abbrev pub turns_of_tries : List Try → ℕ
turns_of_tries tries = sum_by (λ t. t.certificate.steps + 1) tries

-- a label is one of the active member
abbrev pub IsOwn : Label → Type 0
IsOwn (Label.Free i kind) = ⊥
IsOwn (Label.Close i) = ⊥
IsOwn label = ⊤

-- no try was made after the last moment with nothing active
abbrev pub AreSettled : PlayView → List Try → Type 0
AreSettled play tries = AllByRecursion (λ t. t.after ≤ play.settled) tries

-- all tries failed
abbrev pub AreFailedTries : List Try → Type 0
AreFailedTries tries = AllByRecursion (λ t. t.failing ≡ true) tries

-- all but the last failed, which was made after n labels
pub record CutAt (n : ℕ) (tries : List Try) : Type 0 where
  pub front : List Try
  pub last : Try
  pub parts : tries ≡ front ++ last ∷ []
  pub failing : AreFailedTries front
  pub after : last.after ≡ n

-- a try was cut off just now, with the last turn
pub record IsCutNow (r : CourseView) : Type 0 where
  pub cut : CutAt (length r.play.labels) r.tries
  pub none : r.left ≡ []
  pub used : r.turns ≡ r.limit

-- A run between two labels: every label and every step of a try was counted, also those labels that are still to be made,
-- and every location took a turn.
pub record IsRunning (r : CourseView) : Type 0 where
  pub played : IsPlayedWeakly r.play
  pub kept : AreKept r.play.program r.play.labels r.aside r.tries
  pub settled : AreSettled r.play r.tries
  pub counted : r.turns ≡ length r.play.labels + length r.left + turns_of_tries r.tries
  pub made : r.play.above ≤ r.above
  pub to_make : location_above r.left ≤ r.above
  pub own : AllByRecursion IsOwn r.left
  pub few : r.above ≤ r.turns
  pub within : r.turns ≤ r.limit
  pub cut : AreFailedTries r.tries ⊎ IsCutNow r

-- before the first label, with nothing counted
pub record IsAtRunStart (program : Tree) (most : ℕ) (r : CourseView) : Type 0 where
  pub play : r.play ≡ begun_play program
  pub tries : r.tries ≡ []
  pub left : r.left ≡ []
  pub aside : (i : ℕ) → r.aside i ≡ false
  pub above : r.above ≡ 0
  pub turns : r.turns ≡ 0
  pub limit : r.limit ≡ most

-- the program and the limit stay
pub record KeepsFrame (old new : CourseView) : Type 0 where
  pub program : new.play.program ≡ old.play.program
  pub limit : new.limit ≡ old.limit

-- no turn was counted, and no try was added
pub record CountsNothing (old new : CourseView) : Type 0 where
  pub turns : new.turns ≡ old.turns
  pub tries : new.tries ≡ old.tries

-- A label was made and not counted. No member is put aside any more, or the same members still are.
pub record HasMadeUncounted (label : Label) (old new : CourseView) : Type 0 where
  pub made : HasMadeLabel label old.play new.play
  pub played : IsPlayedWeakly old.play → IsPlayedWeakly new.play
  pub tries : new.tries ≡ old.tries
  pub aside : (i : ℕ) → new.aside i ≡ (if lets_try_again label then false else old.aside i)
  pub left : new.left ≡ old.left
  pub above : new.above ≡ old.above
  pub turns : new.turns ≡ old.turns
  pub limit : new.limit ≡ old.limit

-- a run that may also be out of memory
pub record CanBeEnded (r : CourseView) : Type 0 where
  pub played : IsPlayedWeakly r.play
  pub kept : AreKept r.play.program r.play.labels (λ i. true) r.tries
  pub settled : AreSettled r.play r.tries
  pub few : r.play.above ≤ r.limit
  pub cut : AreFailedTries r.tries ⊎ CutAt r.play.settled r.tries

abbrev pub RunsOrEnds : {X E : Type 0} → Result X E → CourseView → Type 0
RunsOrEnds (Ok x) r = IsRunning r
RunsOrEnds (Err e) r = CanBeEnded r
