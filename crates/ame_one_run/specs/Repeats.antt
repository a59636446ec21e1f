-- Runs by picks that are made again.
use Rattle.std.specs.Prelude.{◌≡◌, false, List, ⊤}
use Rattle.ame_cli.specs.declared.command.Command.{Command}
use Rattle.ame_cli.specs.Items.{ArgWord}
use Rattle.ame_cli.specs.Grammar.{SpellsCommand}
use Rattle.ame_app.specs.Calls.{Call}
use Rattle.ame_app.specs.RunResult.{end_in}
use Rattle.ame_app.specs.Reported.{RunView, Reported}
use Rattle.ame_app.specs.Verbs.Sim.{mades_in, seats_picked}
use Rattle.ame_repeats.specs.Answers.{AreAnsweredAlike, is_fault}
use Rattle.ame_repeats.specs.Played.{EndsAlike}

-- the run of the command is made by picks
abbrev pub IsByPicks : Command → Type 0
IsByPicks (Command.Sim seed options) = ⊤
IsByPicks (Command.Replay options) = ⊤
IsByPicks _ = ⊥

-- words are those of `sim` or `replay`
pub record AskForPicks (words : List ArgWord) : Type 0 where
  pub command : Command
  pub spelled : SpellsCommand words command
  pub by_picks : IsByPicks command

-- Two calls ran one text, and were given as many devices.
pub record AreOfOneText (call other : Call) (report again : Reported) : Type 0 where
  pub text : again.text ≡ report.text
  pub devices : other.devices ≡ call.devices

-- Devices answered two runs alike, and no fault from outside stopped either: memory didn't run out, and neither output nor a device failed.
pub record AreUndisturbed (run again : RunView) : Type 0 where
  pub answers : AreAnsweredAlike (end_in run.left).entries (end_in again.left).entries
  pub fine : is_fault (end_in run.left).stop ≡ false
  pub well : is_fault (end_in again.left).stop ≡ false

-- Both runs picked the same seats, in the same order, with the same limits.
pub record ArePickedAlike (run again : RunView) : Type 0 where
  pub limits : (end_in again.left).limits ≡ (end_in run.left).limits
  pub seats : seats_picked again.left ≡ seats_picked run.left

-- Each pick did the same: it had the same member, outcome and location. Entries, output, turns and stop are the same.
pub record IsRepeated (run again : RunView) : Type 0 where
  pub picks : mades_in again.left ≡ mades_in run.left
  pub ends : EndsAlike (end_in run.left) (end_in again.left)
