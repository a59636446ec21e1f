-- Each busy member is at work on a seat.
use Rattle.std.specs.Prelude.{◌≡◌, ℕ, Some}
use Rattle.ame_pool.specs.Members.{is_busy}
use Rattle.ame_pool.specs.Calls.{IsAt}
use Rattle.ame_protocol.specs.Engine.Parts.{Parts, task_at, member_of}

-- Each busy member is at work on some seat.
abbrev pub AreSeated : Parts → Type 0
AreSeated parts = (number : ℕ) → IsAt is_busy number parts.pool → (seat : ℕ) × (member_of (task_at parts.tasks seat) ≡ Some number)
