-- The progress of the steps of one entry: the strong state itself, to which the entry's steps lead whatever follows.
use Rattle.std.specs.Prelude.{◌≡◌, ℕ, ◌+◌, ◌≤◌, ◌<◌, ℤ, true, List, ◌++◌, Option, Some, None}
use Rattle.ame_term.specs.Frame.{Side}
use Rattle.ame_term.specs.Maps.{at}
use Rattle.ame_term.specs.State.{State}
use Rattle.ame_term.specs.declared.semantics.StepKind.{StepKind}
use Rattle.ame_term.specs.declared.semantics.Label.{Label}
use Rattle.ame_laws.specs.Orderly.{IsOrderly}
use Rattle.ame_laws.specs.Typed.StoreTyping.{StoreTyping}
use Rattle.ame_laws.specs.Typed.TypedState.{IsTyped}
use Rattle.ame_journal.specs.Replayed.{is_at_unprotected, is_tall}
use Rattle.ame_journal.specs.Replay.{steps}
use Rattle.ame_machine.specs.Run.Local.{LocalState}
use Rattle.ame_machine.specs.Run.AgreesWith.{IsAfterRun}
use Rattle.ame_term.specs.Signature.{Signature}

-- the labels of a member's steps on a side
abbrev pub label_by : Side → ℕ → StepKind → Label
label_by Side.Protected i = Label.Step
label_by Side.Unprotected i = Label.Free i

-- who is active while a member makes them
abbrev pub active_on : Side → ℕ → Option ℕ
active_on Side.Protected i = Some i
active_on Side.Unprotected i = None

-- the state in which the first of them is made
abbrev pub begun_on : Side → ℕ → State → State
begun_on side i s = record s { active = active_on side i }

-- n steps of a member on a side, which use these locations and this answer
abbrev pub steps_on : Side → ℕ → ℕ → List ℕ → Option ℤ → State → Option State
steps_on side i n fresh answer s = steps (label_by side i) i n (record { fresh = fresh; answer = answer }) s

-- n steps lead from one state to another and use these locations, whatever steps follow
abbrev pub LeadsOnTo : Side → ℕ → ℕ → List ℕ → State → State → Type 0
LeadsOnTo side i n used s t =
    (left : ℕ) (rest : List ℕ) (answer : Option ℤ) → steps_on side i (n + left) (used ++ rest) answer s ≡ steps_on side i left rest answer t

-- No further step can be made in a state with what is left of the locations, and with an answer only if one step is left.
abbrev pub Halts : Side → ℕ → State → List ℕ → Type 0
Halts side i s rest = (left : ℕ) (answer : Option ℤ) → (left ≡ 0 → answer ≡ None) → steps_on side i (left + 1) rest answer s ≡ None

-- fewer than n steps lead to a form that would become a value that is too high
pub record ComesToTall (side : Side) (i n : ℕ) (fresh : List ℕ) (s : State) : Type 0 where
  pub made : ℕ
  pub below : made < n
  pub used : List ℕ
  pub rest : List ℕ
  pub front : fresh ≡ used ++ rest
  pub there : State
  pub leads : steps_on side i made used None (begun_on side i s) ≡ Some there
  pub tall : is_tall side i there ≡ true

-- no such form is passed by n steps
abbrev pub StaysLow : Side → ℕ → ℕ → List ℕ → State → Type 0
StaysLow side i n fresh s = ComesToTall side i n fresh s → ⊥

-- From a state n steps of a member, and a place p of its run: the state that is reached is the one after that run, typed by these types. None of the
-- steps is at a form that would become a value that is too high, whatever locations come after those of the run.
pub record IsStepping (signature : Signature) (types : StoreTyping) (s : State) (i : ℕ) (side : Side) (p : LocalState) (n : ℕ) : Type 0 where
  pub now : State
  pub after_run : IsAfterRun s i p now
  pub member : at now.members i ≡ Some p.term
  pub active : now.active ≡ active_on side i
  pub orderly : IsOrderly now
  pub typed : IsTyped signature types now
  pub standing : side ≡ Side.Unprotected → is_at_unprotected i now ≡ true
  pub goes : LeadsOnTo side i n p.fresh (begun_on side i s) now
  pub low : (more : List ℕ) → StaysLow side i n (p.fresh ++ more) s

-- n steps with these locations can't be made from a state, nor more of them, if at most the last has an answer and comes after these;
-- and however many can be made, they pass no form that would become a value that is too high
pub record IsNoWalk (side : Side) (i n : ℕ) (fresh : List ℕ) (s : State) : Type 0 where
  pub never : (k : ℕ) (answer : Option ℤ) → n ≤ k → (k ≡ n → answer ≡ None) → steps_on side i k fresh answer (begun_on side i s) ≡ None
  pub low : (k : ℕ) → StaysLow side i k fresh s
