-- The course that the numbers of a seed draw from a program.
use Rattle.std.specs.Prelude.{◌≡◌, ◌≢◌, ℕ, ◌+◌, ◌-◌, ◌%◌, ◌<◌, ◌≤◌, ◌==◌, ◌⊎◌, max, ℤ, Bool, true, false, ◌&&◌, ◌||◌, if◌then◌else◌}
use Rattle.std.specs.Prelude.{List, [], ◌∷◌, ◌++◌, length, slice_index_or, Option, Some, None}
use Rattle.ame_term.specs.Tree.{Tree}
use Rattle.ame_term.specs.declared.semantics.Label.{Label}
use Rattle.ame_gen.specs.Stream.{next as number_after}
use Rattle.ame_journal.specs.declared.entry.Entry.{Entry}
use Rattle.ame_journal.specs.Labels.{fragment_labels}
use Rattle.ame_strong.specs.Pool.{pool}
use Rattle.ame_strong.specs.Next.{next_of}
use Rattle.ame_strong.specs.declared.next_label.Next.TheVariants as next
use Rattle.ame_weak.specs.Bounds.{is_growing_tall}
use Rattle.ame_weak.specs.declared.tries.Try.{Try}
use Rattle.ame_runner.specs.Choices.{goes_free, candidates}
use Rattle.ame_runner.specs.Freeing.{MakesOnly, IsLabelOf}
use Rattle.ame_runner.specs.Notes.{lets_try_again}
use Rattle.ame_runner.specs.Play.{HasMadeLabel}
use Rattle.ame_runner.specs.Run.{CourseView, IsAtRunStart}
use Rattle.ame_runner.specs.Stop.{MayGoOn}
use Rattle.ame_runner.specs.Tall.{tall_note, IsTallOf}
use Rattle.ame_runner.specs.Trial.{IsTriedOut, IsTryOf}
use Rattle.ame_runner.specs.declared.stop.WeakStop.{WeakStop}
use Rattle.ame_runner.specs.declared.trial.AttemptEnd.{AttemptEnd}
use Rattle.ame_runner.specs.declared.trial.TriedOut.{TriedOut}

-- the member that a number draws: it counts along the candidates, round and round
abbrev pub drawn_by : ℕ → CourseView → ℕ
drawn_by number c = slice_index_or (candidates c.play.weak c.aside) (number % length (candidates c.play.weak c.aside)) 0

-- Labels

-- A label is made. The members that were put aside no longer are, if it lets them try again.
pub record AddsLabel (label : Label) (c d : CourseView) : Type 0 where
  pub made : HasMadeLabel label c.play d.play
  pub tries : d.tries ≡ c.tries
  pub aside : (i : ℕ) → d.aside i ≡ (if lets_try_again label then false else c.aside i)
  pub limit : d.limit ≡ c.limit

-- The active fragment makes its next label, whose turn was counted when the fragment was tried.
pub record MakesNextLabel (c d : CourseView) : Type 0 where
  pub label : Label
  pub first : c.left ≡ label ∷ d.left
  pub adds : AddsLabel label c d
  pub above : d.above ≡ c.above
  pub turns : d.turns ≡ c.turns

-- Member i makes a label under `unprotected`, which takes one turn. A new location is the least above all others.
pub record StepsFree (i : ℕ) (c d : CourseView) : Type 0 where
  pub label : Label
  pub own : IsLabelOf i label
  pub fresh : MakesOnly c.above label
  pub adds : AddsLabel label c d
  pub left : d.left ≡ c.left
  pub above : d.above ≡ max c.above d.play.above
  pub turns : d.turns ≡ c.turns + 1

-- Attempts: the fragment of a member is run on a copy, with the turns that are left

-- nothing is active, and member i isn't one that goes on under `unprotected`
abbrev pub MayAttempt : ℕ → CourseView → Type 0
MayAttempt i c = (c.play.weak.state.active ≡ None) × (goes_free c.play.weak i ≡ false)

-- new locations are the least above all others, one after the other
abbrev pub IsAttempt : ℕ → CourseView → TriedOut → Type 0
IsAttempt i c tried = IsTriedOut c.play.weak i c.above (c.limit - c.turns) tried

-- the label by which a fragment comes to its end, if it comes to one
abbrev pub last_label : AttemptEnd → Option Label
last_label AttemptEnd.Leaves = Some Label.Leave
last_label AttemptEnd.Ends = Some Label.End
last_label _ = None

-- The fragment comes to its end. Its labels are to be made, and all its turns are counted.
pub record PlansFragment (i : ℕ) (c d : CourseView) : Type 0 where
  pub tried : TriedOut
  pub attempt : IsAttempt i c tried
  pub last : Label
  pub ends : last_label tried.outcome ≡ Some last
  pub planned : d ≡ record c { left = fragment_labels i tried.kinds.items ++ last ∷ []; above = tried.above; turns = c.turns + tried.turns }

abbrev pub ComesToNothing : AttemptEnd → Type 0
ComesToNothing o = (o ≡ AttemptEnd.Fails) ⊎ (o ≡ AttemptEnd.Cut)

-- A condition is false, or the turns are used up. The try is noted, and its turns are counted; a member whose condition is false is put aside.
pub record NotesTry (i : ℕ) (c d : CourseView) : Type 0 where
  pub tried : TriedOut
  pub attempt : IsAttempt i c tried
  pub nothing : ComesToNothing tried.outcome
  pub t : Try
  pub says : IsTryOf i tried t
  pub after : t.after ≡ length c.play.labels
  pub play : d.play ≡ c.play
  pub tries : d.tries ≡ c.tries ++ t ∷ []
  pub aside : (k : ℕ) → d.aside k ≡ (t.failing && (t.certificate.number == k) || c.aside k)
  pub left : d.left ≡ c.left
  pub above : d.above ≡ c.above
  pub turns : d.turns ≡ c.turns + tried.turns
  pub limit : d.limit ≡ c.limit

-- Choices

-- Member i goes on when it is drawn. A fragment that comes to its end makes its first label at once.
pub data GoesOnWhenDrawn (i : ℕ) (c d : CourseView) : Type 0 where
  steps : StepsFree i c d → GoesOnWhenDrawn i c d
  goes_on : c.play.weak.state.active ≡ Some i → MakesNextLabel c d → GoesOnWhenDrawn i c d
  begins : (m : CourseView) → MayAttempt i c → PlansFragment i c m → MakesNextLabel m d → GoesOnWhenDrawn i c d
  fails : MayAttempt i c → NotesTry i c d → GoesOnWhenDrawn i c d

-- A course so far, and the number that was drawn last; the seed stands for the number before the first. As long as turns are left, the next
-- number draws who goes on. With no turns left, the active fragment runs to its end.
pub data Course (program : Tree) (limit seed : ℕ) : ℕ → CourseView → Type 0 where
  starts : (c : CourseView) → IsAtRunStart program limit c → Course program limit seed seed c
  draws : (number : ℕ) (c d : CourseView) → Course program limit seed number c → c.turns < c.limit → MayGoOn c → GoesOnWhenDrawn (drawn_by (number_after number) c) c d
      → Course program limit seed (number_after number) d
  runs_out : (number : ℕ) (c d : CourseView) → Course program limit seed number c → c.limit ≤ c.turns → MakesNextLabel c d → Course program limit seed number d

-- Stops

-- No member is drawn: none is left, none may go on, or the turns are used up.
abbrev pub RestsWith : WeakStop → CourseView → Type 0
RestsWith WeakStop.Finished c = pool c.play.weak.state ≡ []
RestsWith (WeakStop.Blocked certificates) c = (pool c.play.weak.state ≢ []) × (candidates c.play.weak c.aside ≡ [])
RestsWith WeakStop.Spent c = MayGoOn c × (c.turns ≡ c.limit)
RestsWith _ c = ⊥

-- an attempt comes to a value that would be nested too deeply, and its turns are counted
pub record GrowsInAttempt (i : ℕ) (c : CourseView) (turns : ℕ) (entry : Entry) : Type 0 where
  pub tried : TriedOut
  pub attempt : IsAttempt i c tried
  pub tall : tried.outcome ≡ AttemptEnd.Tall
  pub note : IsTallOf i tried entry
  pub counted : turns ≡ c.turns + tried.turns

-- so it does in one step under `unprotected`
pub record GrowsFree (i : ℕ) (c : CourseView) (turns : ℕ) (entry : Entry) : Type 0 where
  pub grows : is_growing_tall c.play.weak (Some i) ≡ true
  pub note : entry ≡ tall_note i 0 []
  pub counted : turns ≡ c.turns

-- member i stands at a call of a device, which fails
pub record CallsInVain (i device : ℕ) (c : CourseView) (turns : ℕ) : Type 0 where
  pub argument : ℤ
  pub stands : next_of c.play.weak.state (Some i) ≡ next.Device device argument
  pub counted : turns ≡ c.turns

-- how member i stops the run when it is drawn
abbrev pub StopsWhenDrawn : WeakStop → ℕ → CourseView → ℕ → Type 0
StopsWhenDrawn (WeakStop.DeviceFault device) i c turns = CallsInVain i device c turns
StopsWhenDrawn (WeakStop.Tall entry) i c turns = GrowsFree i c turns entry ⊎ (MayAttempt i c × GrowsInAttempt i c turns entry)
StopsWhenDrawn _ i c turns = ⊥

pub data EndsBy (number : ℕ) (c : CourseView) (turns : ℕ) (stop : WeakStop) : Type 0 where
  rests : c.left ≡ [] → RestsWith stop c → turns ≡ c.turns → EndsBy number c turns stop
  drawn : c.turns < c.limit → MayGoOn c → StopsWhenDrawn stop (drawn_by (number_after number) c) c turns → EndsBy number c turns stop

-- Labels, tries and turns are those of the course to its end: what the active fragment is still to make is made.
pub record IsDrawn (program : Tree) (limit seed : ℕ) (labels : List Label) (tries : List Try) (turns : ℕ) (stop : WeakStop) : Type 0 where
  pub number : ℕ
  pub course : CourseView
  pub leads : Course program limit seed number course
  pub ends : EndsBy number course turns stop
  pub labels_are : labels ≡ course.play.labels ++ course.left
  pub tries_are : tries ≡ course.tries
