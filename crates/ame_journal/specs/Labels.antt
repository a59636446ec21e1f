-- The labels that a journal stands for: those of its entries, one entry after another. A journal names
-- members, counts of steps, fresh locations and device answers; all else is determined.
use Rattle.std.specs.Prelude.{◌≡◌, ℕ, suc, ℤ, true, false, List, [], ◌∷◌, ◌++◌, map, length, Option, Some, None, option_to_list}
use Rattle.std.specs.List.{flat_map}
use Rattle.ame_term.specs.Frame.{Side}
use Rattle.ame_term.specs.Act.{fresh_location, device_answer}
use Rattle.ame_term.specs.State.{State, run}
use Rattle.ame_term.specs.declared.semantics.StepKind.{StepKind}
use Rattle.ame_term.specs.declared.semantics.Label.{Label}
use Rattle.ame_journal.specs.declared.entry.Entry.{Entry}
use Rattle.ame_journal.specs.declared.entry.EntryKind.{EntryKind}
use Rattle.ame_journal.specs.Replayed.{Replayed, is_at_unprotected, side_at, is_inside, is_failing, is_tall, entering, leaving, staying}

-- the fresh location of a step, if it makes one
abbrev pub fresh_of : StepKind → List ℕ
fresh_of kind = option_to_list (fresh_location kind)

-- the locations that steps make, in order
abbrev pub made_by : List StepKind → List ℕ
made_by kinds = flat_map fresh_of kinds

-- a device is called in the last step alone, and then the entry has its answer
abbrev pub IsAnswered : List StepKind → Option ℤ → Type 0
IsAnswered [] answer = answer ≡ None
IsAnswered (kind ∷ []) answer = answer ≡ device_answer kind
IsAnswered (kind ∷ next ∷ kinds) answer = (device_answer kind ≡ None) × IsAnswered (next ∷ kinds) answer

-- n steps of these kinds make these locations and have this answer
pub record AreSteps (kinds : List StepKind) (n : ℕ) (fresh : List ℕ) (answer : Option ℤ) : Type 0 where
  pub count : length kinds ≡ n
  pub made : made_by kinds ≡ fresh
  pub answered : IsAnswered kinds answer

-- the labels of a fragment that goes on
abbrev pub fragment_labels : ℕ → List StepKind → List Label
fragment_labels i kinds = Label.Activate i ∷ map Label.Step kinds

-- the labels of steps under `unprotected`
abbrev pub free_labels : ℕ → List StepKind → List Label
free_labels i kinds = map (Label.Free i) kinds

-- the labels of an attempt, which is one of these on either side
abbrev pub attempt_labels : Side → ℕ → List StepKind → List Label
attempt_labels Side.Protected i kinds = fragment_labels i kinds
attempt_labels Side.Unprotected i kinds = free_labels i kinds

-- An entry of a kind for member i, with this number of steps, these fresh locations and this answer, unfolds
-- into labels that lead on. A note has none: its steps could happen here, and nothing changes.
pub data Unfolds (r : Replayed) (i : ℕ) : EntryKind → ℕ → List ℕ → Option ℤ → List Label → Replayed → Type 0 where
  leaves : (kinds : List StepKind) (n : ℕ) (fresh : List ℕ) (s : State) → is_inside r i ≡ false → AreSteps kinds n fresh None →
      run r.state (fragment_labels i kinds ++ Label.Leave ∷ []) ≡ Some s →
      Unfolds r i EntryKind.Ran n fresh None (fragment_labels i kinds ++ Label.Leave ∷ []) (entering r i s)
  ends : (kinds : List StepKind) (n : ℕ) (fresh : List ℕ) (s : State) → is_inside r i ≡ false → AreSteps kinds n fresh None →
      run r.state (fragment_labels i kinds ++ Label.End ∷ []) ≡ Some s →
      Unfolds r i EntryKind.Ran n fresh None (fragment_labels i kinds ++ Label.End ∷ []) (staying r s)
  arrives : is_inside r i ≡ false → is_at_unprotected i r.state ≡ true → Unfolds r i EntryKind.Ran 0 [] None [] (entering r i r.state)
  goes_on : (kinds : List StepKind) (n : ℕ) (fresh : List ℕ) (answer : Option ℤ) (s : State) → is_inside r i ≡ true → AreSteps kinds (suc n) fresh answer →
      run r.state (free_labels i kinds) ≡ Some s → Unfolds r i EntryKind.Free (suc n) fresh answer (free_labels i kinds) (staying r s)
  closes : (kinds : List StepKind) (n : ℕ) (fresh : List ℕ) (s : State) → is_inside r i ≡ true → AreSteps kinds n fresh None →
      run r.state (free_labels i kinds ++ Label.Close i ∷ []) ≡ Some s →
      Unfolds r i EntryKind.Free (suc n) fresh None (free_labels i kinds ++ Label.Close i ∷ []) (leaving r i s)
  fails : (kinds : List StepKind) (n : ℕ) (fresh : List ℕ) (s : State) → AreSteps kinds n fresh None → run r.state (fragment_labels i kinds) ≡ Some s →
      is_failing i s ≡ true → Unfolds r i EntryKind.Stuck n fresh None [] r
  is_cut : (kinds : List StepKind) (n : ℕ) (fresh : List ℕ) (s : State) → AreSteps kinds n fresh None →
      run r.state (attempt_labels (side_at i r.state) i kinds) ≡ Some s → Unfolds r i EntryKind.Cut n fresh None [] r
  grows : (kinds : List StepKind) (n : ℕ) (fresh : List ℕ) (s : State) → AreSteps kinds n fresh None →
      run r.state (attempt_labels (side_at i r.state) i kinds) ≡ Some s → is_tall (side_at i r.state) i s ≡ true → Unfolds r i EntryKind.Tall n fresh None [] r

-- the labels of all entries, one entry after another
pub data UnfoldsAll : Replayed → List Entry → List Label → Replayed → Type 0 where
  done : (r : Replayed) → UnfoldsAll r [] [] r
  next : (r s t : Replayed) (entry : Entry) (entries : List Entry) (labels more : List Label) →
      Unfolds r entry.number entry.kind entry.steps entry.fresh entry.answer labels s → UnfoldsAll s entries more t →
      UnfoldsAll r (entry ∷ entries) (labels ++ more) t
