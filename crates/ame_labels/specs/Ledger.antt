-- The ledger that counts the entries of labels.
use Rattle.std.specs.Prelude.{◌≡◌, ℕ, ◌+◌, ◌==◌, length}
use Rattle.std.specs.List.{list_any}
use Rattle.std.specs.BTreeSet.{contains}
use Rattle.std.specs.Ordering.{nat_cmp}
use Rattle.ame_term.specs.declared.semantics.Label.{Label}
use Rattle.ame_weak.specs.Straight.{Place, arrival, came, entries_of_label, past}
use Rattle.ame_labels.specs.declared.entry_count.EntryCount.{EntryCount}

-- the members inside, as a set, and the member that was active last
pub record IsLedgerAt (p : Place) (l : EntryCount) : Type 0 where
  pub inside : (i : ℕ) → contains nat_cmp l.inside i ≡ list_any (λ j. j == i) p.inside
  pub number : l.number ≡ p.number

-- a label's entries are counted, and the ledger is after the label
abbrev pub LedgerPasses : Label → EntryCount → EntryCount → Type 0
LedgerPasses label old new = (p : Place) → IsLedgerAt p old → IsLedgerAt (past p label) new × (new.count ≡ old.count + length (entries_of_label p label))

-- a member comes in, if it isn't inside
abbrev pub ComesIn : ℕ → EntryCount → EntryCount → Type 0
ComesIn i old new = (p : Place) → IsLedgerAt p old →
    IsLedgerAt (record p { inside = came p.inside i }) new × (new.count ≡ old.count + length (arrival p.inside i))

-- entries are counted, and no more
pub record CountsMore (n : ℕ) (old new : EntryCount) : Type 0 where
  pub count : new.count ≡ old.count + n
  pub inside : new.inside ≡ old.inside
  pub number : new.number ≡ old.number
