-- The other members after a visit.
use Rattle.std.proofs.Common.{ℕ, Bool, false, [], refl}
use Rattle.std.specs.Prelude.{option_map}
use Rattle.ame_term.specs.Tree.{Val, Tree}
use Rattle.ame_pool.specs.Members.{IsRising}
use Rattle.ame_pool.specs.Found.{IsFoundAfter}
use Rattle.ame_pool.specs.Roster.{Roster}
use Rattle.ame_pool.specs.Calls.{at_home, renewed}
use Rattle.ame_pool.proofs.MemberLemmas.{found_altered}
use Rattle.ame_machine.specs.Run.Local.{LocalState}
use Rattle.ame_rows.specs.MemoryView.{MemoryView}
use Rattle.ame_protocol.specs.Engine.Parts.{Parts}
use Rattle.ame_protocol.specs.Engine.Simulates.{Simulates}
use Rattle.ame_protocol.specs.Engine.Events.{with_newcomers}
use Rattle.ame_protocol.proofs.Engine.GrowthLemmas.{newcomers-rising}
use Rattle.ame_protocol.proofs.Engine.CommitLemmas.{free-next}
use Rattle.ame_protocol.specs.Visits.Visit.{has_visited, has_been_refused}

module _ (parts : Parts) (s : Simulates parts) (seat number n : ℕ) (p : LocalState) (inside : Bool) (memory : MemoryView Val) where
  abbrev larger_pool : Roster Tree
  larger_pool = with_newcomers parts.next p.spawns parts.pool

  abbrev pool : Roster Tree
  pool = (has_visited seat number n p inside memory parts).pool

  found : IsFoundAfter number (option_map (renewed p.term inside)) larger_pool.members pool.members
  found = found_altered number (renewed p.term inside) (λ _. refl) larger_pool.members

  pub visit-rising : IsRising parts.pool.members → IsRising pool.members
  visit-rising rising = found.rising (newcomers-rising parts.next p.spawns parts.pool (free-next parts s) rising)

pub refused-rising : (parts : Parts) (seat number : ℕ) → IsRising parts.pool.members → IsRising (has_been_refused seat number parts).pool.members
refused-rising parts seat number rising = (found_altered number (at_home false) (λ _. refl) parts.pool.members).rising rising
