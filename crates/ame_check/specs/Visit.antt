-- The outcome of the steps of a `Free` entry.
use Rattle.std.specs.Prelude.{◌≡◌, ◌⊎◌, All, ℕ, ◌+◌, ◌<◌, ℤ, Bool, true, false, List, Option, Some, None, is_some, option_and_then}
use Rattle.ame_term.specs.Tree.{Val}
use Rattle.ame_term.specs.Frame.{Side}
use Rattle.ame_term.specs.Maps.{at}
use Rattle.ame_term.specs.State.{State, after}
use Rattle.ame_term.specs.declared.semantics.Label.{Label}
use Rattle.ame_laws.specs.Typed.StoreTyping.{StoreTyping}
use Rattle.ame_laws.specs.Typed.TypedState.{IsTyped}
use Rattle.ame_machine.specs.Meaning.{Meaning}
use Rattle.ame_machine.specs.Move.{settled_stage}
use Rattle.ame_machine.specs.Run.AgreesWith.{IsAfterRun}
use Rattle.ame_check.specs.Shows.{ShowsCells, HaveForms, AreBelow}
use Rattle.ame_check.specs.Walk.{begun_on, steps_on, ComesToTall, StaysLow}
use Rattle.ame_check.specs.Walked.{place_with}
use Rattle.ame_check.specs.Reasons.{MeetsReason}
use Rattle.ame_check.specs.declared.reason.Reason.{Reason}
use Rattle.ame_check.specs.declared.reason.Reason.TheVariants as reason
use Rattle.ame_check.specs.declared.entry_error.EntryError.{EntryError}
use Rattle.ame_check.specs.declared.entry_error.EntryError.TheVariants as error
use Rattle.ame_check.specs.declared.stored.Stored.{Stored}

-- the state to which n steps lead of a member under `unprotected` lead
abbrev pub visiting : ℕ → ℕ → List ℕ → Option ℤ → State → Option State
visiting i n fresh answer s = steps_on Side.Unprotected i n fresh answer (begun_on Side.Unprotected i s)

-- the state to which n steps lead, after which the member closes without an answer
abbrev pub closing : ℕ → ℕ → List ℕ → Option ℤ → State → Option State
closing i n fresh None s = option_and_then (λ t. after t (Label.Close i)) (visiting i n fresh None s)
closing i n fresh (Some answer) s = None

-- what a visit of some steps meets
abbrev pub VisitMeets : State → ℕ → List ℕ → Option ℤ → ℕ → Reason → Type 0
VisitMeets s i fresh answer total reason.Answered = is_some answer ≡ true
VisitMeets s i fresh answer total why = MeetsReason Side.Unprotected s i fresh total why

module _ {C V M : Type 0} (meaning : Meaning C V M) (code : C) where
  -- A machine of member i stands at the end of its steps from a state; once it settles, it is under `unprotected` or isn't.
  pub record HasCome (s : State) (i : ℕ) (fresh : List ℕ) (cells overlay : List (ℕ × Stored V)) (m : M) (inside : Bool) (reached : Option State) : Type 0 where
    pub machine : meaning.is_machine code m
    pub sets : List (ℕ × Val)
    pub laid : ShowsCells meaning code overlay sets
    pub now : State
    pub led : reached ≡ Some now
    pub after_run : IsAfterRun s i (place_with sets (meaning.stage code m)) now
    pub member : at now.members i ≡ Some (meaning.stage code m).term
    pub types : StoreTyping
    pub typed : IsTyped (meaning.signature code) types now
    pub forms : HaveForms (meaning.signature code) types cells
    pub forms_set : HaveForms (meaning.signature code) types overlay
    pub below : (most : ℕ) → All (λ l. l < most) fresh → AreBelow most cells → AreBelow most overlay
    pub settles : (settled_stage (meaning.stage code m)).inside ≡ inside

  module _ (s : State) (i : ℕ) (fresh : List ℕ) (answer : Option ℤ) (cells overlay : List (ℕ × Stored V)) (m : M) (n : ℕ) where
    -- n steps and a last one were made, and the member stays under `unprotected`
    abbrev pub Stays : Type 0
    Stays = HasCome s i fresh cells overlay m true (visiting i (n + 1) fresh answer s)

    -- n steps were made, after which the member closed
    abbrev pub Closes : Type 0
    Closes = (visiting i (n + 1) fresh answer s ≡ None) × HasCome s i fresh cells overlay m false (closing i n fresh answer s)

    -- n steps and a last one were made, and pass no tall form
    abbrev pub HasVisited : Type 0
    HasVisited = StaysLow Side.Unprotected i (n + 1) fresh s × (Stays ⊎ Closes)

-- why n steps and a last one aren't made
abbrev pub StopsVisit : State → ℕ → List ℕ → Option ℤ → ℕ → EntryError → Type 0
StopsVisit s i fresh answer n (error.Undefined why) =
    StaysLow Side.Unprotected i (n + 1) fresh s × (visiting i (n + 1) fresh answer s ≡ None)
    × (closing i n fresh answer s ≡ None) × VisitMeets s i fresh answer (n + 1) why
StopsVisit s i fresh answer n error.Tall = ComesToTall Side.Unprotected i (n + 1) fresh s
StopsVisit s i fresh answer n error.NoMemory = Unit {0}
