-- The views of a source and a sink in memory in contracts.
use Rattle.std.specs.Prelude.{ℕ, List, Contains}
use Rattle.ame_io.specs.Counts.{next_count}

-- the bytes left, the most that a read gives, the numbers of the calls that fail, the calls made and the faults met
pub record SourceState : Type 0 where
  pub left : List ℕ
  pub chunk : ℕ
  pub fails : List ℕ
  pub calls : ℕ
  pub faults : ℕ

-- the bytes written, the room left for more, the most that a write takes, and the same three
pub record SinkState : Type 0 where
  pub written : List ℕ
  pub room : ℕ
  pub chunk : ℕ
  pub fails : List ℕ
  pub calls : ℕ
  pub faults : ℕ

-- after this many calls, the next one is among those that fail
abbrev pub FailsNext : List ℕ → ℕ → Type 0
FailsNext fails calls = Contains fails (next_count calls)
