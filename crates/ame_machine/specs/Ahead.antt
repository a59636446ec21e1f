-- The finds of one turn of a machine.
use Rattle.std.specs.Prelude.{◌≡◌, ◌≢◌, Option, Some, None}
use Rattle.ame_term.specs.Context.{focus}
use Rattle.ame_term.specs.Act.{Act}
use Rattle.ame_journal.specs.Replay.{redex_act}
use Rattle.ame_machine.specs.declared.wants.Wants.{Wants}
use Rattle.ame_machine.specs.declared.wants.Wants.TheVariants as wants
use Rattle.ame_machine.specs.MachineView.{MachineView}
use Rattle.ame_machine.specs.Need.{Need, need_of, need_told}
use Rattle.ame_machine.specs.Move.{step_alone}

-- the effect of one turn on a machine that reported no want: a step alone, or a want, with what the redex does
abbrev pub Turned : Option Wants → MachineView → MachineView → Option Act → Type 0
Turned None m n held = (need_of m ≡ Need.Step) × (step_alone m ≡ Some n)
Turned (Some want) m n held =
    (need_told want ≡ need_of m) × (want ≢ wants.OutOfFuel) × (n ≡ record m { want = Some want }) × (held ≡ redex_act (focus m.term))
