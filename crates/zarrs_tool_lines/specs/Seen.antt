-- What the parts of lines are seen as.
use Rattle.zarrs_tool_lines.specs.Commands as commands
use Rattle.zarrs_tool_lines.specs.declared.command.Command.{Command}
use Rattle.zarrs_tool_lines.specs.declared.command.Command.TheVariants.{Encode, Load, Read, Write, Reencode, Decode, Erase, Value, Unknown}

-- a command
abbrev pub command_seen : Command → commands.Command
command_seen (Encode argument) = commands.encode argument.now
command_seen (Load argument) = commands.load argument.now
command_seen (Read argument) = commands.read_part argument.now
command_seen (Write argument) = commands.write_part argument.now
command_seen (Reencode argument) = commands.reencode argument.now
command_seen Decode = commands.decode
command_seen Erase = commands.erase
command_seen Value = commands.value
command_seen Unknown = commands.unknown
