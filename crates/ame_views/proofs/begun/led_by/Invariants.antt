-- The entries so far were made: the beginnings of tasks, the entries that started them, and the lines that were printed.
use Rattle.std.proofs.Common.{length, map}
use Rattle.ame_code.specs.Code.{program_of}
use Rattle.ame_check.proofs.JudgeLemmas.{NoneIsTall}
use Rattle.ame_views.specs.FragmentMeaning.{fragment_meaning}
use Rattle.ame_views.proofs.BegunLemmas.{AllSeen, Beginning}
use Rattle.ame_views.proofs.PrintedLemmas.{Printing}
use Rattle.ame_views.proofs.StarterLemmas.{Starting}
use Rattle.ame_views.proofs.begun.led_by.Given as goal

abbrev pub invariant-loop-index : goal.invariant-loop-index
invariant-loop-index l = record {
  begins : Beginning l.code l.entries l.index
      (record { cells = l.replay.cells.entries; members = l.replay.members.entries; output = l.replay.output.items; next = l.replay.next }) l.begun.entries;
  seen : AllSeen l.code l.entries l.index (length l.starters.items)
      (record { cells = l.replay.cells.entries; members = l.replay.members.entries; output = l.replay.output.items; next = l.replay.next }) l.begun.entries;
  starts : Starting fragment_meaning l.code l.entries l.index l.starters.items
      (record { cells = l.replay.cells.entries; members = l.replay.members.entries; output = l.replay.output.items; next = l.replay.next });
  prints : Printing fragment_meaning l.code l.entries l.index (map (λ v. v.items) l.lines.items)
      (record { cells = l.replay.cells.entries; members = l.replay.members.entries; output = l.replay.output.items; next = l.replay.next });
  low : NoneIsTall (program_of l.code) l.entries l.index;
}
