-- The ranges of a command's numbers.
use Rattle.std.specs.Prelude.{ℕ, ◌≤◌, ⊤}
use Rattle.ame_cli.specs.declared.bounds.Bounds.{Bounds}
use Rattle.ame_cli.specs.declared.item.Item.TheVariants.{Workers, Turns, Slice}
use Rattle.ame_cli.specs.declared.command.Options.{Options}
use Rattle.ame_cli.specs.declared.command.Command.{Command}
use Rattle.ame_cli.specs.declared.command.Command.TheVariants.{Run, Bench, Sim, Replay, Check, Resume, Weak}
use Rattle.ame_cli.specs.Items.{bounds_of}
use Rattle.ame_cli.specs.Verbs.{seeds, sizes}

-- the number lies in the bounds
abbrev pub IsInBounds : Bounds → ℕ → Type 0
IsInBounds bounds n = (bounds.least ≤ n) × (n ≤ bounds.most)

-- each of the three numbers is one that its option may have
pub record AreInRange (options : Options) : Type 0 where
  pub workers : IsInBounds (bounds_of Workers) options.workers
  pub turns : IsInBounds (bounds_of Turns) options.turns
  pub slice : IsInBounds (bounds_of Slice) options.slice

-- each number of a command is one that it may have
abbrev pub IsInRange : Command → Type 0
IsInRange (Run options) = AreInRange options
IsInRange (Bench seed size options) = IsInBounds seeds seed × IsInBounds sizes size × AreInRange options
IsInRange (Sim seed options) = IsInBounds seeds seed × AreInRange options
IsInRange (Replay options) = AreInRange options
IsInRange Check = ⊤
IsInRange (Resume options) = AreInRange options
IsInRange (Weak seed turns) = IsInBounds seeds seed × IsInBounds (bounds_of Turns) turns
