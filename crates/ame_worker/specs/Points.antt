-- The points of a worker's turn.
use Rattle.std.specs.Prelude.{ℕ, Option, unwrap_or}
use Rattle.ame_shell.specs.declared.work.Outcome.{Outcome}
use Rattle.ame_worker.specs.declared.gate.Point.{Point}

-- the point that names a turn's outcome, with the member of it
abbrev pub point_of : Outcome → Option ℕ → Point
point_of Outcome.Began member = Point.Began (unwrap_or member 0)
point_of Outcome.Waited member = Point.Idle
point_of Outcome.Stopped member = Point.Stopped
point_of Outcome.Ended member = Point.Ran (unwrap_or member 0)
point_of Outcome.Left member = Point.Ran (unwrap_or member 0)
point_of Outcome.CameHome member = Point.Freed (unwrap_or member 0)
point_of (Outcome.DeviceFailed device) member = Point.Home (unwrap_or member 0)
point_of Outcome.WentHome member = Point.Home (unwrap_or member 0)
point_of _ member = Point.Stepped
