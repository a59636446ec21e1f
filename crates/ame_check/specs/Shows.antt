-- The cells and members of a replay on machines show a replayed state.
use Rattle.std.specs.Prelude.{◌≡◌, ◌<◌, ◌+◌, [], All, length, ℕ, ℤ, Bool, List, Option, Some, None}
use Rattle.ame_term.specs.Tree.{Typ, Val, Tree}
use Rattle.ame_term.specs.Signature.{Signature, MayStore}
use Rattle.ame_term.specs.Maps.{at}
use Rattle.ame_term.specs.declared.types.Sort.{Sort}
use Rattle.ame_term.specs.declared.types.TyNo.{TyNo}
use Rattle.ame_laws.specs.Typed.StoreTyping.{StoreTyping}
use Rattle.ame_laws.specs.Typed.TypedState.{IsTyped}
use Rattle.ame_journal.specs.Replayed.{Replayed, is_inside}
use Rattle.ame_journal.specs.Replay.{replay}
use Rattle.ame_journal.specs.declared.entry.Entry.{Entry}
use Rattle.ame_machine.specs.Run.AgreesWith.{with_members}
use Rattle.ame_machine.specs.Meaning.{Meaning}
use Rattle.ame_machine.specs.RefSorts.{IsRefForm}
use Rattle.ame_machine.specs.MachineView.{MachineView, starting_at}
use Rattle.ame_check.specs.declared.stored.Stored.{Stored}

-- The cells, the members with their machines, what was printed, and the number of the next new member.
pub record ReplayView (V M : Type 0) : Type 0 where
  pub cells : List (ℕ × Stored V)
  pub members : List (ℕ × M)
  pub output : List ℤ
  pub next : ℕ

-- a location has this sort and a type whose values the `ref` form with this number may store
abbrev pub HasForm : Signature → StoreTyping → ℕ → Sort → TyNo → Type 0
HasForm signature types l sort number = (content : Typ) × (types l ≡ Some (sort, content)) × MayStore signature.refs number.0 content

-- each location that has a cell has the cell's sort, and a type whose values the cell's `ref` form may store
abbrev pub HaveForms : {V : Type 0} → Signature → StoreTyping → List (ℕ × Stored V) → Type 0
HaveForms {V} signature types cells = (l : ℕ) (cell : Stored V) → at cells l ≡ Some cell → HasForm signature types l cell.sort cell.number

-- each location that has a cell is below a bound
abbrev pub AreBelow : {V : Type 0} → ℕ → List (ℕ × Stored V) → Type 0
AreBelow {V} most cells = (l : ℕ) (cell : Stored V) → at cells l ≡ Some cell → l < most

-- so is each new location of an entry
abbrev pub TellBelow : ℕ → List Entry → Type 0
TellBelow most entries = All (λ entry. All (λ l. l < most) entry.fresh) entries

-- a machine that is at its term alone, and goes on under `unprotected` or doesn't
abbrev pub IsResting : Bool → MachineView → Type 0
IsResting inside m = m ≡ record (starting_at m.term) { inside = inside }

module _ {C V M : Type 0} (meaning : Meaning C V M) (code : C) where
  -- the value of a cell is one of the code, and its number is that of a `ref` form of its sort
  abbrev pub IsMadeCell : Stored V → Type 0
  IsMadeCell cell = meaning.is_value code cell.value × IsRefForm (meaning.program code) cell.sort cell.number.0

  -- what a cell has stands for the plain data
  abbrev pub ShowsValue : Option (Stored V) → Option Val → Type 0
  ShowsValue None o = o ≡ None
  ShowsValue (Some cell) o = IsMadeCell cell × (o ≡ Some (meaning.value_of code cell.value))

  -- so does a machine at rest for a term
  abbrev pub ShowsMember : Bool → Option M → Option Tree → Type 0
  ShowsMember inside None o = o ≡ None
  ShowsMember inside (Some m) o = meaning.is_machine code m × (o ≡ Some (meaning.stage code m).term) × IsResting inside (meaning.stage code m)

  -- cells by location show a store
  abbrev pub ShowsCells : List (ℕ × Stored V) → List (ℕ × Val) → Type 0
  ShowsCells cells store = (l : ℕ) → ShowsValue (at cells l) (at store l)

  -- machines by number show members, and these of them are inside
  abbrev pub ShowsMembers : (ℕ → Bool) → List (ℕ × M) → List (ℕ × Tree) → Type 0
  ShowsMembers inside machines members = (k : ℕ) → ShowsMember (inside k) (at machines k) (at members k)

  -- a replayed state is shown
  pub record Shows (place : ReplayView V M) (r : Replayed) : Type 0 where
    pub store : ShowsCells place.cells r.state.store
    pub members : ShowsMembers (is_inside r) place.members r.state.members
    pub output : place.output ≡ r.state.output
    pub next : place.next ≡ r.state.next

  -- The entries can be replayed, and the state to which they lead is shown. Some types of locations type it, by which each
  -- cell has its sort, and a type whose values its `ref` form may store; and each cell is at a new location of an entry.
  pub record StandsForEntries (entries : List Entry) (place : ReplayView V M) : Type 0 where
    pub led : Replayed
    pub replayed : replay (meaning.program code) entries ≡ Some led
    pub shows : Shows place led
    pub types : StoreTyping
    pub typed : IsTyped (meaning.signature code) types led.state
    pub forms : HaveForms (meaning.signature code) types place.cells
    pub below : (most : ℕ) → TellBelow most entries → AreBelow most place.cells

  -- after the new members of a machine took the next numbers: it has none, and is otherwise as it was
  pub record Adopts (inside : ℕ → Bool) (before : List (ℕ × Tree)) (next : ℕ) (m : MachineView) (machines : List (ℕ × M)) (later : ℕ) (machine : M) : Type 0 where
    pub shown : ShowsMembers inside machines (with_members before next m.spawns)
    pub count : later ≡ next + length m.spawns
    pub good : meaning.is_machine code machine
    pub stays : meaning.stage code machine ≡ record m { spawns = [] }
