-- Answers of `straighten`.
use Rattle.std.specs.Prelude.{◌≡◌, ℕ, ◌+◌, ◌==◌, List, [], ◌∷◌, ◌++◌, length, map, Option, Some, None, ⊤}
use Rattle.std.specs.List.{list_any}
use Rattle.std.specs.BTreeSet.{contains}
use Rattle.std.specs.Ordering.{nat_cmp}
use Rattle.ame_term.specs.Tree.{Tree}
use Rattle.ame_term.specs.declared.semantics.Label.{Label}
use Rattle.ame_journal.specs.declared.entry.Entry.{Entry}
use Rattle.ame_journal.specs.Replayed.{Replayed}
use Rattle.ame_journal.specs.Replay.{replay}
use Rattle.ame_journal.specs.Calls.{device_calls}
use Rattle.ame_weak.specs.Weak.{Weak, IsWeakRun, weak_after, weak_start, weak_calls}
use Rattle.ame_weak.specs.Straight.{Place, outset, arrival, came, entries_of_label, past}
use Rattle.ame_weak.specs.Tries.{straight_with}
use Rattle.ame_weak.specs.declared.tries.Try.{Try}
use Rattle.ame_weak.specs.declared.transcript.Transcript.{Transcript}
use Rattle.ame_weak.specs.declared.straightening.Straight.{Straight}

-- the labels before the nth lead to a weak state in which the nth, counted from 1, has no rule
pub record IsFirstIllegal (program : Tree) (labels : List Label) (n : ℕ) : Type 0 where
  pub front : List Label
  pub label : Label
  pub behind : List Label
  pub parts : labels ≡ front ++ label ∷ behind
  pub nth : length front + 1 ≡ n
  pub weak : Weak
  pub leads : IsWeakRun program front weak
  pub refused : weak_after weak label ≡ None

-- all labels are legal, and this is active at their end
pub record EndsActive (program : Tree) (labels : List Label) (who : Option ℕ) : Type 0 where
  pub weak : Weak
  pub leads : IsWeakRun program labels weak
  pub active : weak.state.active ≡ who

-- An answer is the entries of the labels with the notes of the attempts, if nothing is active at their end; otherwise the first label without
-- a rule, or the member that is active at the end.
abbrev pub IsStraightened : Tree → List Label → List Try → Straight → Type 0
IsStraightened program labels tries (Straight.Journal journal) = EndsActive program labels None × (journal.entries ≡ straight_with 0 tries outset labels)
IsStraightened program labels tries (Straight.Illegal n) = IsFirstIllegal program labels n
IsStraightened program labels tries (Straight.Active i) = EndsActive program labels (Some i)

-- entries and labels lead to the same store, members, output and next number, with nothing active or held
pub record LeadTogether (program : Tree) (labels : List Label) (entries : List Entry) : Type 0 where
  pub weak : Weak
  pub leads : IsWeakRun program labels weak
  pub replayed : Replayed
  pub replays : replay program entries ≡ Some replayed
  pub store : replayed.state.store ≡ weak.state.store
  pub members : replayed.state.members ≡ weak.state.members
  pub output : replayed.state.output ≡ weak.state.output
  pub next : replayed.state.next ≡ weak.state.next
  pub idle : weak.state.active ≡ None
  pub nothing_printed : weak.prints ≡ []
  pub nothing_spawned : weak.spawns ≡ []

-- a journal leads to the end of the labels
abbrev pub LeadsToTheEnd : Tree → List Label → Straight → Type 0
LeadsToTheEnd program labels (Straight.Journal journal) = LeadTogether program labels journal.entries
LeadsToTheEnd program labels _ = ⊤

-- a journal makes the calls that the labels make of each device
abbrev pub MakesTheCalls : Tree → List Label → Straight → Type 0
MakesTheCalls program labels (Straight.Journal journal) = (k : ℕ) → device_calls k program journal.entries ≡ weak_calls k (weak_start program) labels
MakesTheCalls program labels _ = ⊤

-- The code's journal so far

-- the code keeps the point that labels have reached; it finds by look-up who is inside
pub record KeepsPlace (p : Place) (t : Transcript) : Type 0 where
  pub inside : (i : ℕ) → contains nat_cmp t.inside i ≡ list_any (λ j. j == i) p.inside
  pub number : t.number ≡ p.number
  pub steps : t.steps ≡ p.steps
  pub fresh : map (λ l. l.0) t.fresh.items ≡ p.fresh

-- entries are added, and nothing else changes
pub record AddsEntries (entries : List Entry) (old new : Transcript) : Type 0 where
  pub added : new.journal.entries ≡ old.journal.entries ++ entries
  pub inside : new.inside ≡ old.inside
  pub number : new.number ≡ old.number
  pub steps : new.steps ≡ old.steps
  pub fresh : new.fresh.items ≡ old.fresh.items

-- a label's entries are added, and the code keeps the point after the label
abbrev pub Writes : Label → Transcript → Transcript → Type 0
Writes label old new = (p : Place) → KeepsPlace p old →
    KeepsPlace (past p label) new × (new.journal.entries ≡ old.journal.entries ++ entries_of_label p label)

-- a member enters, if it isn't inside
abbrev pub Arrives : ℕ → Transcript → Transcript → Type 0
Arrives i old new = (p : Place) → KeepsPlace p old →
    KeepsPlace (record p { inside = came p.inside i }) new × (new.journal.entries ≡ old.journal.entries ++ arrival p.inside i)
