-- Commands that one thread does, and that wait for nothing.
use Rattle.ame_cli.specs.declared.command.Command.{Command}
use Rattle.ame_app.specs.declared.alone.Alone.{Alone}

-- the command as the words of a call spell it
abbrev pub command_of : Alone → Command
command_of (Alone.Sim seed options) = Command.Sim seed options
command_of (Alone.Replay options) = Command.Replay options
command_of (Alone.Weak seed turns) = Command.Weak seed turns
