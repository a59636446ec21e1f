-- Answers to a label.
use Rattle.std.specs.Prelude.{◌≡◌, Option, Some, None, IsSome, Result, Ok, Err}
use Rattle.ame_term.specs.declared.semantics.StepKind.{StepKind}
use Rattle.ame_term.specs.declared.semantics.Label.{Label}
use Rattle.ame_strong.specs.declared.fail.StepFail.{StepFail}
use Rattle.ame_strong.specs.declared.fail.StepFail.TheVariants.{Illegal, NoMemory}
use Rattle.ame_weak.specs.Weak.{Weak}

-- `Ok` gives the weak state after a label; `Illegal`, if there is none; `NoMemory`, only if there is one. A refusal leaves the weak state
-- as it was.
abbrev pub GoesOrStays : {X : Type 0} → Option Weak → Weak → Weak → Result X StepFail → Type 0
GoesOrStays after old new (Ok _) = after ≡ Some new
GoesOrStays after old new (Err Illegal) = (after ≡ None) × (new ≡ old)
GoesOrStays after old new (Err NoMemory) = IsSome after × (new ≡ old)

-- a label is refused as illegal if no rule has it, and for out of memory only if a rule does
abbrev pub Refuses : Option Weak → StepFail → Type 0
Refuses after Illegal = after ≡ None
Refuses after NoMemory = IsSome after

-- a kind of step that neither prints nor makes a member
abbrev pub IsPlain : StepKind → Type 0
IsPlain StepKind.Spawn = ⊥
IsPlain StepKind.Print = ⊥
IsPlain _ = Unit {0}

-- the labels by which the active member leaves or ends
abbrev pub HasGone : Label → Type 0
HasGone Label.Leave = Unit {0}
HasGone Label.End = Unit {0}
HasGone _ = ⊥
