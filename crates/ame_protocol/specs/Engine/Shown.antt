-- Memories and pools with values and machines of any kind, seen as plain data.
use Rattle.std.specs.Prelude.{map}
use Rattle.ame_term.specs.Tree.{Val, Tree}
use Rattle.ame_pool.specs.declared.member.Member.{Member}
use Rattle.ame_pool.specs.Roster.{Roster}
use Rattle.ame_rows.specs.MemoryView.{Log, MemoryView}
use Rattle.ame_protocol.specs.Row.Shown.{shown_cell, shown_undo}

module _ {V : Type 0} (view : V → Val) where
  -- the logs of a seat, with the plain data that their values stand for
  abbrev pub shown_notes : Log V → Log Val
  shown_notes notes = record { reads = notes.reads; inputs = map view notes.inputs; undos = map (shown_undo view) notes.undos }

  -- a shared memory
  abbrev pub shown_memory : MemoryView V → MemoryView Val
  shown_memory memory = record { cells = map (shown_cell view) memory.cells; rows = map shown_notes memory.rows }

module _ {M : Type 0} (term : M → Tree) where
  -- a member, with the term for which its machine stands
  abbrev pub shown_member : Member M → Member Tree
  shown_member m = record { number = m.number; machine = term m.machine; inside = m.inside; rollbacks = m.rollbacks; standing = m.standing }

  -- a pool
  abbrev pub shown_pool : Roster M → Roster Tree
  shown_pool pool = record { members = map shown_member pool.members; order = pool.order; room = pool.room }
