-- The outcome of a replay at its next entry.
use Rattle.std.specs.Prelude.{◌≡◌, ℕ, ◌<◌, ℤ, ◌++◌, [], ◌∷◌, List, Bool, true, false, Option, Some, None}
use Rattle.ame_term.specs.Tree.{Tree}
use Rattle.ame_term.specs.State.{State}
use Rattle.ame_journal.specs.Replayed.{Replayed, is_inside, side_at, is_tall}
use Rattle.ame_journal.specs.Replay.{replay, attempt}
use Rattle.ame_journal.specs.declared.entry.Entry.{Entry}
use Rattle.ame_journal.specs.declared.entry.EntryKind.{EntryKind}
use Rattle.ame_machine.specs.declared.wants.Wants.{Wants}
use Rattle.ame_machine.specs.declared.wants.Wants.TheVariants as wants
use Rattle.ame_machine.specs.Meaning.{Meaning}
use Rattle.ame_check.specs.Shows.{ReplayView, StandsForEntries}
use Rattle.ame_check.specs.Reasons.{entry_side, IsMet}
use Rattle.ame_check.specs.declared.entry_error.EntryError.{EntryError}
use Rattle.ame_check.specs.declared.entry_error.EntryError.TheVariants as error

-- whether the steps of an entry are begun, by its kind, whether its member is inside, and its answer
abbrev pub BeginsSteps : EntryKind → Bool → Option ℤ → Type 0
BeginsSteps EntryKind.Ran inside answer = (inside ≡ false) × (answer ≡ None)
BeginsSteps EntryKind.Free inside answer = inside ≡ true
BeginsSteps _ inside answer = answer ≡ None

-- The member of an entry, on the side on which it makes the entry's steps, and before it has made them all, comes to a form that
-- would become a value that is too high.
pub record MeetsTall (r : Replayed) (entry : Entry) : Type 0 where
  pub begins : BeginsSteps entry.kind (is_inside r entry.number) entry.answer
  pub side : side_at entry.number r.state ≡ entry_side entry.kind entry.number r.state
  pub made : ℕ
  pub below : made < entry.steps
  pub used : List ℕ
  pub rest : List ℕ
  pub front : entry.fresh ≡ used ++ rest
  pub there : State
  pub leads : attempt entry.number made used r.state ≡ Some there
  pub tall : is_tall (side_at entry.number r.state) entry.number there ≡ true

-- after entries, an entry meets no such form
abbrev pub MeetsNoTall : Tree → List Entry → Entry → Type 0
MeetsNoTall program entries entry = (r : Replayed) → replay program entries ≡ Some r → MeetsTall r entry → ⊥

-- with one more entry, which meets no tall form, the replay stands for that journal
abbrev pub HasMade : {C V M : Type 0} → Meaning C V M → C → List Entry → Entry → ReplayView V M → Type 0
HasMade meaning code entries entry place =
    MeetsNoTall (meaning.program code) entries entry × StandsForEntries meaning code (entries ++ entry ∷ []) place

-- why an entry isn't made after entries: the journal can't be replayed with it, for this reason, and it meets no tall form; or it meets one
abbrev pub StopsAt : Tree → List Entry → Entry → EntryError → Type 0
StopsAt program entries entry (error.Undefined why) =
    MeetsNoTall program entries entry × (replay program (entries ++ entry ∷ []) ≡ None)
    × ((r : Replayed) × (replay program entries ≡ Some r) × IsMet r entry why)
StopsAt program entries entry error.Tall = (r : Replayed) × (replay program entries ≡ Some r) × MeetsTall r entry
StopsAt program entries entry error.NoMemory = Unit {0}

-- whether a note of a kind says that its member wants this next
abbrev pub is_confirmed : EntryKind → Wants → Bool
is_confirmed EntryKind.Ran want = false
is_confirmed EntryKind.Free want = false
is_confirmed EntryKind.Cut want = true
is_confirmed EntryKind.Stuck wants.Block = true
is_confirmed EntryKind.Stuck _ = false
is_confirmed EntryKind.Tall wants.Tall = true
is_confirmed EntryKind.Tall _ = false
