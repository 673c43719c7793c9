-- Commands and lines as the code holds them.
use Rattle.std.specs.Option.{option_map}
use Rattle.cdp_client.specs.declared.line.Command.{Command as HeldCommand}
use Rattle.cdp_client.specs.declared.line.Line.{Line as Held}
use Rattle.cdp_client.specs.declared.line.Line.TheVariants as held
use Rattle.cdp_client.specs.Lines.{Command, Line, Send, Wait}

-- the command that is held
abbrev pub command_held : HeldCommand → Command
command_held command = record {
  id = command.id;
  method = command.method.now;
  params = option_map (λ params. params.now) command.params;
}

-- the line that is held
abbrev pub line_held : Held → Line
line_held (held.Send command) = Send (command_held command)
line_held (held.Wait method) = Wait method.now
