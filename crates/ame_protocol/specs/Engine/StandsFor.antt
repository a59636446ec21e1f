-- An engine stands for the state to which its journal leads.
use Rattle.std.specs.Prelude.{◌≡◌, ℕ, Some}
use Rattle.ame_term.specs.Maps.{at}
use Rattle.ame_journal.specs.Replayed.{Replayed, is_inside}
use Rattle.ame_journal.specs.Replay.{replay}
use Rattle.ame_pool.specs.Calls.{machine_of}
use Rattle.ame_pool.specs.Keeps.{is_inside_at}
use Rattle.ame_protocol.specs.Row.Heap.{ShowsStore}
use Rattle.ame_protocol.specs.Engine.Parts.{Parts, whole_journal, heap_in}

-- The base, then the journal, replays to this state. Its store is what is committed; its members are the pool's, a busy one
-- by the term from which its seat runs; the same ones are inside; output and next number are the engine's.
pub record StandsFor (parts : Parts) (r : Replayed) : Type 0 where
  pub replayed : replay parts.program (whole_journal parts) ≡ Some r
  pub store : ShowsStore (heap_in parts) r.state.store
  pub members : (i : ℕ) → at r.state.members i ≡ machine_of i parts.pool
  pub inside : (i : ℕ) → is_inside r i ≡ is_inside_at parts.pool.members i
  pub output : r.state.output ≡ parts.output
  pub next : r.state.next ≡ parts.next
