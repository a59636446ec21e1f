-- The value that an act of unprotected code is given by a shared memory, and the memory after the act.
use Rattle.std.specs.Prelude.{◌≡◌, Some, length}
use Rattle.ame_term.specs.Tree.{Val}
use Rattle.ame_term.specs.Act.{Act}
use Rattle.ame_rows.specs.MemoryView.{MemoryView}
use Rattle.ame_rows.specs.Committed.{committed}
use Rattle.ame_rows.specs.Access.{put_at, born}

-- The value with which an act goes on is the committed value of a location, or the location of a new cell. Every other act is given the
-- answer of a device, or the unit.
abbrev pub IsGivenBy : MemoryView Val → Act → Val → Type 0
IsGivenBy memory (Act.Reads l) v = committed memory l ≡ Some v
IsGivenBy memory (Act.Peeks l) v = committed memory l ≡ Some v
IsGivenBy memory (Act.Allocates sort number w) v = v ≡ Val.Loc (length memory.cells)
IsGivenBy memory _ v = Unit {0}

-- a cell that no seat owns is written, or made, with the number of its `ref` form
abbrev pub memory_after : Act → MemoryView Val → MemoryView Val
memory_after (Act.Writes l v) memory = put_at l v memory
memory_after (Act.Allocates sort number v) memory = born sort number v memory
memory_after _ memory = memory
