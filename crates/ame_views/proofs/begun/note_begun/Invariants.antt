-- The notes so far.
use Rattle.ame_views.specs.Begun.{NotesBegun, KeepsNotes, NotesAll}
use Rattle.ame_views.proofs.begun.note_begun.Given as goal

abbrev pub invariant-loop-number : goal.invariant-loop-number
invariant-loop-number l = record {
  begun : NotesBegun l.replay.members.entries l.initial.begun.entries l.begun.entries;
  keeps : KeepsNotes l.initial.begun.entries l.begun.entries;
  all : NotesAll l.first l.number l.replay.members.entries l.begun.entries;
}
