-- The counters of a run count its entries and its events.
use Rattle.std.specs.Prelude.{◌≡◌, ℕ, ◌+◌, Bool, true, false, List, count_by, Option, Some}
use Rattle.ame_journal.specs.declared.entry.Entry.{Entry}
use Rattle.ame_journal.specs.declared.entry.EntryKind.{EntryKind}
use Rattle.ame_protocol.specs.declared.counters.Counters.{Counters}
use Rattle.ame_protocol.specs.declared.stop.Stop.{Stop}
use Rattle.ame_protocol.specs.Event.Event.{Event, Find, Reverse}

-- Returns whether an entry is of a kind.
abbrev pub is_ran : EntryKind → Bool
is_ran EntryKind.Ran = true
is_ran _ = false

abbrev pub is_free : EntryKind → Bool
is_free EntryKind.Free = true
is_free _ = false

abbrev pub is_stuck : EntryKind → Bool
is_stuck EntryKind.Stuck = true
is_stuck _ = false

abbrev pub is_tall : EntryKind → Bool
is_tall EntryKind.Tall = true
is_tall _ = false

-- Returns the number of entries of a kind.
abbrev pub entries_of : (EntryKind → Bool) → List Entry → ℕ
entries_of is entries = count_by (λ entry. is entry.kind) entries

-- Returns whether a device failed.
abbrev pub is_fault : Event → Bool
is_fault (Event.Refuse seat attempt device) = true
is_fault _ = false

-- Returns whether a cell was made.
abbrev pub is_alloc : Event → Bool
is_alloc (Event.Alloc seat sort ty v) = true
is_alloc _ = false

-- Returns whether the question was asked at a commit, at a false condition, or at a value nested too deeply.
abbrev pub is_at_commit : Find → Bool
is_at_commit Find.Commit = true
is_at_commit _ = false

abbrev pub is_at_block : Find → Bool
is_at_block Find.Block = true
is_at_block _ = false

abbrev pub is_at_tall : Find → Bool
is_at_tall Find.Tall = true
is_at_tall _ = false

-- Returns whether this was asked, and a read wasn't valid.
abbrev pub is_refused : (Find → Bool) → Event → Bool
is_refused asked (Event.TurnBack seat attempt (Reverse.Stale find)) = asked find
is_refused asked _ = false

-- Returns the number of devices that failed in a run that ended with this stop. A run has at most one, and then it is the stop.
abbrev pub faults_at : Option Stop → ℕ
faults_at (Some (Stop.DeviceFault device)) = 1
faults_at _ = 0

-- Each visit left an entry. If the stop is a device's fault, one visit more was counted, and left none. Each commit, note and value that
-- was nested too deeply left an entry, unless it was refused because a read wasn't valid. Each cell was made by an event of its own.
pub record CountsByKind (events : List Event) (entries : List Entry) (counters : Counters) (stop : Option Stop) : Type 0 where
  pub frees : counters.frees ≡ entries_of is_free entries + faults_at stop
  pub faults : count_by is_fault events ≡ faults_at stop
  pub commits : counters.commits ≡ entries_of is_ran entries + count_by (is_refused is_at_commit) events
  pub blocks : counters.blocks ≡ entries_of is_stuck entries + count_by (is_refused is_at_block) events
  pub talls : counters.talls ≡ entries_of is_tall entries + count_by (is_refused is_at_tall) events
  pub allocs : counters.allocs ≡ count_by is_alloc events
