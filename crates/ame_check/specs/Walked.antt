-- A machine on the way through an entry's steps, with what it set laid over the cells.
use Rattle.std.specs.Prelude.{◌≡◌, All, ℕ, ◌<◌, ◌++◌, ℤ, Bool, true, false, List, Option, None, Some, ◌⊎◌}
use Rattle.ame_term.specs.Tree.{Val}
use Rattle.ame_term.specs.Frame.{Side}
use Rattle.ame_term.specs.State.{State}
use Rattle.ame_term.specs.declared.types.Loc.{Loc}
use Rattle.ame_term.specs.declared.types.Sort.{Sort}
use Rattle.ame_term.specs.declared.types.TyNo.{TyNo}
use Rattle.ame_laws.specs.Typed.StoreTyping.{StoreTyping}
use Rattle.ame_machine.specs.declared.wants.Wants.{Wants}
use Rattle.ame_machine.specs.declared.wants.Wants.TheVariants as wants
use Rattle.ame_machine.specs.Meaning.{Meaning}
use Rattle.ame_machine.specs.Run.Local.{LocalState}
use Rattle.ame_machine.specs.MachineView.{MachineView, running_side, place_shown}
use Rattle.ame_check.specs.Shows.{ShowsCells, HaveForms, AreBelow}
use Rattle.ame_check.specs.Walk.{begun_on, steps_on, IsStepping, IsNoWalk, ComesToTall, StaysLow}
use Rattle.ame_check.specs.Reasons.{MeetsReason}
use Rattle.ame_check.specs.declared.entry_error.EntryError.{EntryError}
use Rattle.ame_check.specs.declared.entry_error.EntryError.TheVariants as error
use Rattle.ame_check.specs.declared.stored.Stored.{Stored}

-- the place that a machine shows, with these values set
abbrev pub place_with : List (ℕ × Val) → MachineView → LocalState
place_with sets m = record (place_shown m) { sets = sets }

-- it wants the value at a location
abbrev pub Looks : Loc → Option Wants → Type 0
Looks l want = (want ≡ Some (wants.Read l)) ⊎ (want ≡ Some (wants.Peek l))

-- it wants a new location
abbrev pub Allocates : Option Wants → Type 0
Allocates want = (sort : Sort) × (number : TyNo) × (want ≡ Some (wants.Alloc sort number))

-- it wants that what it hands out is accepted
abbrev pub Hands : Option Wants → Type 0
Hands want = (want ≡ Some wants.Spawn) ⊎ ((n : ℤ) × (want ≡ Some (wants.Print n)))

-- it wants the answer of a device
abbrev pub WantsAnswer : Option Wants → Type 0
WantsAnswer want = (device : ℕ) × (n : ℤ) × (want ≡ Some (wants.Device device n))

-- whether a want under `unprotected` is none of a device, of closing, and of a value that is too high
abbrev pub is_plain : Wants → Bool
is_plain (wants.Device device n) = false
is_plain wants.Close = false
is_plain wants.Tall = false
is_plain _ = true

module _ {C V M : Type 0} (meaning : Meaning C V M) (code : C) where
  -- A machine of member i has come so far from a state whose store the cells show, with these locations to use in all. By the types of
  -- the state that is reached each cell has its sort, and a type whose values its `ref` form may store; and what is set is at new locations, or at those of cells.
  pub record IsWalking (s : State) (i : ℕ) (fresh : List ℕ) (cells overlay : List (ℕ × Stored V)) (m : M) : Type 0 where
    pub machine : meaning.is_machine code m
    pub early : i < s.next
    pub store : ShowsCells meaning code cells s.store
    pub sets : List (ℕ × Val)
    pub laid : ShowsCells meaning code overlay sets
    pub types : StoreTyping
    pub going : IsStepping (meaning.signature code) types s i (running_side (meaning.stage code m)) (place_with sets (meaning.stage code m)) (meaning.stage code m).steps
    pub forms : HaveForms (meaning.signature code) types cells
    pub forms_set : HaveForms (meaning.signature code) types overlay
    pub below : (most : ℕ) → All (λ l. l < most) fresh → AreBelow most cells → AreBelow most overlay
    pub rest : List ℕ
    pub front : fresh ≡ (meaning.stage code m).fresh ++ rest

  -- it has made this number of steps on a side
  pub record IsAtStep (s : State) (i : ℕ) (fresh : List ℕ) (cells overlay : List (ℕ × Stored V)) (m : M) (side : Side) (n : ℕ) : Type 0 where
    pub walking : IsWalking s i fresh cells overlay m
    pub runs_on : running_side (meaning.stage code m) ≡ side
    pub counted : (meaning.stage code m).steps ≡ n

  module _ (s : State) (i : ℕ) (fresh : List ℕ) (cells overlay : List (ℕ × Stored V)) (m : M) (side : Side) (n : ℕ) where
    -- after a walk of n steps this is wanted
    abbrev pub WalksTo : Wants → Type 0
    WalksTo want = IsAtStep s i fresh cells overlay m side n × ((meaning.stage code m).want ≡ Some want)

    -- after a run of n steps, which used all the locations, this is wanted
    abbrev pub RunsTo : Wants → Type 0
    RunsTo want = IsAtStep s i fresh cells overlay m side n × ((meaning.stage code m).fresh ≡ fresh) × ((meaning.stage code m).want ≡ Some want)

module _ (side : Side) (i n : ℕ) (fresh : List ℕ) (s : State) where
  -- why a walk of n steps isn't made
  abbrev pub StopsWalk : EntryError → Type 0
  StopsWalk (error.Undefined why) = IsNoWalk side i n fresh s × MeetsReason side s i fresh n why
  StopsWalk error.Tall = ComesToTall side i n fresh s
  StopsWalk error.NoMemory = Unit {0}

  -- why a run of n steps isn't made, which is to use all the locations
  abbrev pub StopsRun : EntryError → Type 0
  StopsRun (error.Undefined why) = StaysLow side i n fresh s × (steps_on side i n fresh None (begun_on side i s) ≡ None) × MeetsReason side s i fresh n why
  StopsRun error.Tall = ComesToTall side i n fresh s
  StopsRun error.NoMemory = Unit {0}

-- why the step after n steps isn't made, however many are to follow
abbrev pub StopsStep : Side → ℕ → ℕ → List ℕ → State → EntryError → Type 0
StopsStep side i n fresh s e = (total : ℕ) → n < total → StopsWalk side i total fresh s e
