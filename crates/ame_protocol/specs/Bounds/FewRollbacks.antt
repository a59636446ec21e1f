-- The bounds on rollbacks and attempts that each engine keeps.
use Rattle.std.specs.Prelude.{ℕ, List}
use Rattle.ame_protocol.specs.Engine.Parts.{Parts, task_at}
use Rattle.ame_protocol.specs.Bounds.Rollbacks.{HasReason, AreRefusedRarely}
use Rattle.ame_protocol.specs.Bounds.Tries.{AreTriesFew}

-- This number of answers turned members back. Each row that is undone has its reason, the answers are few, and so are the attempts without
-- an entry.
pub record HasFewRollbacks (refused : ℕ) (parts : Parts) : Type 0 where
  pub reasons : (seat : ℕ) → HasReason parts (task_at parts.tasks seat)
  pub rare : AreRefusedRarely refused parts
  pub late : List ℕ
  pub tries : AreTriesFew late parts
