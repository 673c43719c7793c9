use Rattle.std.proofs.Common.{◌≡◌, map, take, string_bytes}
use Rattle.debug_host_commands.specs.Output.{Out, output_text}
use Rattle.debug_host_commands.proofs.output.printed_lines.Given as goal

-- the lines of the texts so far
abbrev pub invariant-loop-text : goal.invariant-loop-text
invariant-loop-text l = map string_bytes l.lines.items ≡ map output_text (map Out (take l.text-index l.texts))
