-- Attempts of members that left no entry.
use Rattle.std.specs.Prelude.{◌≡◌, ℕ, ◌≤◌, ◌⊎◌, List, length, take, Some, IsSome}
use Rattle.ame_term.specs.Tree.{Tree}
use Rattle.ame_term.specs.Maps.{at}
use Rattle.ame_term.specs.State.{State}
use Rattle.ame_journal.specs.declared.entry.Entry.{Entry}
use Rattle.ame_journal.specs.Replayed.{Replayed}
use Rattle.ame_journal.specs.Replay.{replay}
use Rattle.ame_journal.specs.UnderWay.{UnderWay}

-- A member can become active and make this number of steps, with some new locations.
abbrev pub CanMake : State → ℕ → ℕ → Type 0
CanMake s i n = (fresh : List ℕ) × (t : State) × UnderWay s i n fresh t

-- After this number of entries the journal had led to a state in which the member was there and could make the steps.
pub record IsSoundTry (program : Tree) (entries : List Entry) (i count steps : ℕ) : Type 0 where
  pub within : count ≤ length entries
  pub reached : Replayed
  pub replayed : replay program (take count entries) ≡ Some reached
  pub member : IsSome (at reached.state.members i)
  pub made : (steps ≡ 0) ⊎ CanMake reached.state i steps
