-- The certificates so far have their lines.
use Rattle.std.proofs.Common.{take}
use Rattle.ame_views.specs.Standings.{TellEach}
use Rattle.ame_views.proofs.standings.standings_of.Given as goal

abbrev pub invariant-loop-certificate : goal.invariant-loop-certificate
invariant-loop-certificate l =
    TellEach l.lines.text.now l.code l.entries l.replay.cells.entries (take l.certificate-index l.certificates) l.page
