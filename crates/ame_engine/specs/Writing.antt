-- The answer to a write.
use Rattle.std.specs.Prelude.{ℕ, ◌==◌, cond, Option, Some, None}
use Rattle.ame_engine.specs.declared.answer.Wrote.{Wrote}
use Rattle.ame_engine.specs.declared.answer.Wrote.TheVariants as answer

-- Returns the answer by the owner of the cell. Another seat is in conflict.
abbrev pub answer_to_write : ℕ → Option ℕ → Wrote
answer_to_write seat None = answer.Wrote
answer_to_write seat (Some owner) = cond (owner == seat) answer.Wrote (answer.Conflict owner)
