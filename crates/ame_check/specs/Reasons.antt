-- Reasons for which an entry can't be made.
use Rattle.std.specs.Prelude.{◌≡◌, ℕ, ◌≤◌, ℤ, Bool, true, false, List, [], ◌∷◌, ◌++◌, Some, None, is_some}
use Rattle.ame_term.specs.Tree.{Tree}
use Rattle.ame_term.specs.Frame.{Side}
use Rattle.ame_term.specs.Context.{focus}
use Rattle.ame_term.specs.Maps.{at}
use Rattle.ame_term.specs.State.{State}
use Rattle.ame_term.specs.declared.types.Sort.{Sort}
use Rattle.ame_term.specs.declared.types.TyNo.{TyNo}
use Rattle.ame_journal.specs.Replayed.{Replayed, is_inside, is_at_unprotected, side_at}
use Rattle.ame_journal.specs.declared.entry.Entry.{Entry}
use Rattle.ame_journal.specs.declared.entry.EntryKind.{EntryKind}
use Rattle.ame_machine.specs.Need.{need_of_focus, need_told}
use Rattle.ame_machine.specs.declared.wants.Wants.{Wants}
use Rattle.ame_machine.specs.declared.wants.Wants.TheVariants as wants
use Rattle.ame_check.specs.Walk.{begun_on, steps_on}
use Rattle.ame_check.specs.declared.reason.Reason.{Reason}
use Rattle.ame_check.specs.declared.reason.Reason.TheVariants as reason

-- whether a side is that under `unprotected`
abbrev pub is_unprotected_side : Side → Bool
is_unprotected_side Side.Protected = false
is_unprotected_side Side.Unprotected = true

-- After k of some steps, which use a prefix of the locations, the member stands at a term at which it wants this.
pub record ComesAt (side : Side) (s : State) (i : ℕ) (fresh : List ℕ) (total k : ℕ) (want : Wants) (rest : List ℕ) (now : State) : Type 0 where
  pub few : k ≤ total
  pub used : List ℕ
  pub front : fresh ≡ used ++ rest
  pub leads : steps_on side i k used None (begun_on side i s) ≡ Some now
  pub term : Tree
  pub member : at now.members i ≡ Some term
  pub wants : need_told want ≡ need_of_focus (is_unprotected_side side) (focus term)

-- what a walk of some steps meets
abbrev pub MeetsReason : Side → State → ℕ → List ℕ → ℕ → Reason → Type 0
MeetsReason side s i fresh total (reason.Stops k want) = (rest : List ℕ) × (now : State) × ComesAt side s i fresh total k want rest now
MeetsReason side s i fresh total (reason.Unanswered k) =
    (device : ℕ) × (n : ℤ) × (rest : List ℕ) × (now : State) × ComesAt side s i fresh total k (wants.Device device n) rest now
MeetsReason side s i fresh total (reason.Missing k) =
    (sort : Sort) × (number : TyNo) × (now : State) × ComesAt side s i fresh total k (wants.Alloc sort number) [] now
MeetsReason side s i fresh total (reason.Taken k l) =
    (sort : Sort) × (number : TyNo) × (more : List ℕ) × (now : State) × (is_some (at now.store l.0) ≡ true)
    × ComesAt side s i fresh total k (wants.Alloc sort number) (l.0 ∷ more) now
MeetsReason side s i fresh total (reason.Unused k l) = (want : Wants) × (more : List ℕ) × (now : State) × ComesAt side s i fresh total k want (l.0 ∷ more) now
MeetsReason side s i fresh total _ = ⊥

-- the side on which an entry's steps are made
abbrev pub entry_side : EntryKind → ℕ → State → Side
entry_side EntryKind.Ran i s = Side.Protected
entry_side EntryKind.Free i s = Side.Unprotected
entry_side EntryKind.Stuck i s = Side.Protected
entry_side _ i s = side_at i s

-- whether a note of a kind is shut to a member, by whether that stands at `unprotected`
abbrev pub is_shut : EntryKind → Bool → Bool
is_shut EntryKind.Stuck standing = standing
is_shut _ standing = false

-- an entry of a kind is shut to a member
abbrev pub IsShut : EntryKind → Replayed → ℕ → Type 0
IsShut EntryKind.Ran r i = is_inside r i ≡ true
IsShut kind r i = is_shut kind (is_at_unprotected i r.state) ≡ true

-- what an entry meets
abbrev pub IsMet : Replayed → Entry → Reason → Type 0
IsMet r entry reason.NoMember = at r.state.members entry.number ≡ None
IsMet r entry reason.Inside = IsShut entry.kind r entry.number
IsMet r entry reason.Outside = (entry.kind ≡ EntryKind.Free) × (is_inside r entry.number ≡ false)
IsMet r entry reason.NoSteps = (entry.kind ≡ EntryKind.Free) × (entry.steps ≡ 0)
IsMet r entry reason.Answered = is_some entry.answer ≡ true
IsMet r entry why = MeetsReason (entry_side entry.kind entry.number r.state) r.state entry.number entry.fresh entry.steps why
