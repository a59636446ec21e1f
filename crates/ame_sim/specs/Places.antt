-- The location of an outcome.
use Rattle.std.specs.Prelude.{ℕ, Option, Some, None}
use Rattle.ame_machine.specs.declared.wants.Wants.{Wants}
use Rattle.ame_machine.specs.declared.wants.Wants.TheVariants as wants
use Rattle.ame_machine.specs.MachineView.{MachineView}
use Rattle.ame_shell.specs.declared.work.Outcome.{Outcome}

-- the location that a machine wants, by the number of cells: a new one is the next
abbrev pub location_wanted : ℕ → Option Wants → Option ℕ
location_wanted cells (Some (wants.Read l)) = Some l.0
location_wanted cells (Some (wants.Write l)) = Some l.0
location_wanted cells (Some (wants.Peek l)) = Some l.0
location_wanted cells (Some (wants.Alloc sort number)) = Some cells
location_wanted cells _ = None

-- the location that a seat's machine wants
abbrev pub place_wanted : ℕ → Option MachineView → Option ℕ
place_wanted cells None = None
place_wanted cells (Some s) = location_wanted cells s.want

-- The location of an outcome: the one that was wanted, or that of the read that was found stale.
abbrev pub place_told : Outcome → Option ℕ → Option ℕ
place_told Outcome.Read wanted = wanted
place_told Outcome.Wrote wanted = wanted
place_told (Outcome.Met owner) wanted = wanted
place_told Outcome.Allocated wanted = wanted
place_told Outcome.CameHome wanted = wanted
place_told (Outcome.FoundInvalid bad) wanted = Some bad.loc.0
place_told (Outcome.Refused bad) wanted = Some bad.loc.0
place_told (Outcome.NotNoted bad) wanted = Some bad.loc.0
place_told (Outcome.NotTall bad) wanted = Some bad.loc.0
place_told _ wanted = None
