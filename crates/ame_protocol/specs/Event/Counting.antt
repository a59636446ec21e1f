-- The counters of an engine.
use Rattle.std.specs.Prelude.{◌≡◌, ℕ, ◌+◌, ◌-◌, ◌^◌, ◌≤◌, Bool, min, if◌then◌else◌}
use Rattle.ame_protocol.specs.declared.counters.Counters.{Counters}

-- Returns counters at zero.
abbrev pub nothing_counted : Counters
nothing_counted = record {
  begins = 0;
  reads = 0;
  writes = 0;
  conflicts = 0;
  allocs = 0;
  checks = 0;
  commits = 0;
  blocks = 0;
  talls = 0;
  undos = 0;
  frees = 0;
  invalids = 0;
  unwound = 0;
}

-- A turn is an event of one of these kinds.
pub data Counted : Type 0 where
  Begin : Counted
  Read : Counted
  Write : Counted
  Conflict : Counted
  Alloc : Counted
  Check : Counted
  Commit : Counted
  Block : Counted
  Tall : Counted
  Undo : Counted
  Free : Counted

-- Counts one more event of a kind.
abbrev pub one_counted : Counted → Counters → Counters
one_counted Counted.Begin counters = record counters { begins = counters.begins + 1 }
one_counted Counted.Read counters = record counters { reads = counters.reads + 1 }
one_counted Counted.Write counters = record counters { writes = counters.writes + 1 }
one_counted Counted.Conflict counters = record counters { conflicts = counters.conflicts + 1 }
one_counted Counted.Alloc counters = record counters { allocs = counters.allocs + 1 }
one_counted Counted.Check counters = record counters { checks = counters.checks + 1 }
one_counted Counted.Commit counters = record counters { commits = counters.commits + 1 }
one_counted Counted.Block counters = record counters { blocks = counters.blocks + 1 }
one_counted Counted.Tall counters = record counters { talls = counters.talls + 1 }
one_counted Counted.Undo counters = record counters { undos = counters.undos + 1 }
one_counted Counted.Free counters = record counters { frees = counters.frees + 1 }

-- Counts one more event of a kind, with the answer that a read isn't valid.
abbrev pub one_invalid : Counted → Counters → Counters
one_invalid kind counters = let more = one_counted kind counters in record more { invalids = more.invalids + 1 }

-- Counts one more undo after a stop. The count stays at its last value.
abbrev pub one_unwound : Counters → Counters
one_unwound counters = record counters { unwound = min (counters.unwound + 1) (2 ^ 32 - 1) }

-- Counts one more undo, by whether a stop is kept.
abbrev pub one_undone : Bool → Counters → Counters
one_undone stopped counters = if stopped then one_unwound counters else one_counted Counted.Undo counters

-- Returns the number of turns that are counted.
abbrev pub turns_in : Counters → ℕ
turns_in counters =
    counters.begins + counters.reads + counters.writes + counters.conflicts + counters.allocs + counters.checks + counters.commits + counters.blocks
    + counters.talls + counters.undos + counters.frees

-- This number of turns is counted, each in one count. There are at most as many answers that a read isn't valid.
pub record CountsTurns (turns : ℕ) (counters : Counters) : Type 0 where
  pub all : turns_in counters ≡ turns
  pub invalid : counters.invalids ≤ turns
