use Rattle.std.proofs.Common.{◌≡◌, take}
use Rattle.ame_check.specs.Shows.{StandsForEntries}
use Rattle.ame_check.proofs.JudgeLemmas.{NoneIsTall}
use Rattle.ame_check.proofs.replay.Replay.along.Given as goal

abbrev pub invariant-loop-entry : goal.invariant-loop-entry
invariant-loop-entry g l = (l.place ≡ l.entry-index)
    × StandsForEntries g.M.Runner.meaning l.code (take l.entry-index l.entries)
    (record { cells = l.replay.cells.entries; members = l.replay.members.entries; output = l.replay.output.items; next = l.replay.next })
    × NoneIsTall (g.M.Runner.meaning.program l.code) l.entries l.entry-index
