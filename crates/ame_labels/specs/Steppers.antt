-- The rows that the functions of a stepper append.
use Rattle.std.specs.Prelude.{◌≡◌, ℕ, List, [], ◌∷◌, ◌++◌, Bool, true, false, map, length, cond, Option, Some, None, ℤ}
use Rattle.std.specs.BTreeMap.{is_at}
use Rattle.std.specs.BTreeSet.{contains}
use Rattle.std.specs.Ordering.{nat_cmp}
use Rattle.ame_term.specs.Act.{device_answer}
use Rattle.ame_term.specs.State.{after}
use Rattle.ame_term.specs.declared.semantics.Label.{Label}
use Rattle.ame_term.specs.declared.semantics.StepKind.{StepKind}
use Rattle.ame_journal.specs.declared.entry.Entry.{Entry}
use Rattle.ame_journal.specs.Labels.{fresh_of, made_by}
use Rattle.ame_journal.specs.Replayed.{Replayed, is_inside}
use Rattle.ame_print.specs.Printer.{spelling_of}
use Rattle.ame_strong.specs.View.{state_of}
use Rattle.ame_labels.specs.Stepped.{label_row, HasLabels, Rows}
use Rattle.ame_labels.specs.declared.steps.Stepper.{Stepper}

-- nothing changes that a row shows
pub record ShowsSame (old new : Stepper) : Type 0 where
  pub names : spelling_of new.names.items ≡ spelling_of old.names.items
  pub inside : new.inside ≡ old.inside
  pub state : state_of new.state ≡ state_of old.state
  pub page : new.page ≡ old.page

-- a legal label was made, and its row added
pub record AddsRow (label : Label) (old new : Stepper) : Type 0 where
  pub names : spelling_of new.names.items ≡ spelling_of old.names.items
  pub legal : after (state_of old.state) label ≡ Some (state_of new.state)
  pub page : new.page ≡ old.page ++ label_row (spelling_of old.names.items) (state_of old.state) label (state_of new.state)

-- so were these labels, one after another
pub record AddsAll (labels : List Label) (old new : Stepper) : Type 0 where
  pub names : spelling_of new.names.items ≡ spelling_of old.names.items
  pub part : List ℕ
  pub rows : Rows (spelling_of old.names.items) (state_of old.state) labels part (state_of new.state)
  pub page : new.page ≡ old.page ++ part

-- a label was made, or it isn't legal
pub record TakesLabel (label : Label) (is_made : Bool) (old new : Stepper) : Type 0 where
  pub inside : new.inside ≡ old.inside
  pub made : is_made ≡ true → AddsRow label old new
  pub refused : is_made ≡ false → ShowsSame old new × (after (state_of old.state) label ≡ None)

-- the label of a step of the active member, or of one that is inside
abbrev pub step_label : Option ℕ → StepKind → Label
step_label None kind = Label.Step kind
step_label (Some i) kind = Label.Free i kind

-- a step of this kind takes the first of these locations and leaves the rest, and calls no device
pub record Uses (kind : StepKind) (fresh rest : List ℕ) : Type 0 where
  pub made : fresh ≡ fresh_of kind ++ rest
  pub silent : device_answer kind ≡ None

-- such a step was made
pub record MakesStep (inside : Option ℕ) (fresh rest : List ℕ) (old new : Stepper) : Type 0 where
  pub kind : StepKind
  pub uses : Uses kind fresh rest
  pub adds : AddsRow (step_label inside kind) old new
  pub kept : new.inside ≡ old.inside

-- no step calls a device
abbrev pub AreSilent : List StepKind → Type 0
AreSilent [] = Unit {0}
AreSilent (kind ∷ kinds) = (device_answer kind ≡ None) × AreSilent kinds

-- n such steps were made
pub record StepsAlong (inside : Option ℕ) (n : ℕ) (fresh rest : List ℕ) (old new : Stepper) : Type 0 where
  pub kinds : List StepKind
  pub count : length kinds ≡ n
  pub made : fresh ≡ made_by kinds ++ rest
  pub silent : AreSilent kinds
  pub adds : AddsAll (map (step_label inside) kinds) old new
  pub kept : new.inside ≡ old.inside

-- The last step under `unprotected` was made, which may call a device, or the member closed.
pub data MakesLast (i : ℕ) (fresh : List ℕ) (answer : Option ℤ) (old new : Stepper) : Type 0 where
  steps : (kind : StepKind) → fresh ≡ fresh_of kind → answer ≡ device_answer kind → AddsRow (Label.Free i kind) old new → new.inside ≡ old.inside →
      MakesLast i fresh answer old new
  closes : fresh ≡ [] → answer ≡ None → AddsRow (Label.Close i) old new
      → ((k : ℕ) → contains nat_cmp new.inside k ≡ cond (is_at (nat_cmp i) k) false (contains nat_cmp old.inside k)) → MakesLast i fresh answer old new

-- a stepper stands at a replayed state
pub record IsStepperAt (r : Replayed) (s : Stepper) : Type 0 where
  pub state : state_of s.state ≡ r.state
  pub inside : (i : ℕ) → contains nat_cmp s.inside i ≡ is_inside r i

-- an entry's labels were made, and their rows added
pub record MakesLabels (r : Replayed) (entry : Entry) (old new : Stepper) : Type 0 where
  pub led : Replayed
  pub labels : List Label
  pub has : HasLabels r entry labels led
  pub part : List ℕ
  pub rows : Rows (spelling_of old.names.items) r.state labels part led.state
  pub page : new.page ≡ old.page ++ part
  pub names : spelling_of new.names.items ≡ spelling_of old.names.items
  pub stands : IsStepperAt led new

-- so it is wherever the stepper stands
abbrev pub MakesEntry : Entry → Stepper → Stepper → Type 0
MakesEntry entry old new = (r : Replayed) → IsStepperAt r old → MakesLabels r entry old new
