use Rattle.std.proofs.Common.{◌≡◌, take, map, string_bytes}
use Rattle.cdp_edge.specs.Outside.{gains}
use Rattle.debug_host_commands.specs.Output.{joined}
use Rattle.debug_host_commands.proofs.journal.put_lines.Given as goal

-- the lines so far are taken, and no write failed
abbrev pub invariant-loop-line : goal.invariant-loop-line
invariant-loop-line g l = record {
  taken : g.O.Sink.content l.out ≡ gains (g.O.Sink.content l.fn.out)
      (joined (map string_bytes (take l.line-index l.lines)));
  quiet : g.O.Sink.faults l.out ≡ g.O.Sink.faults l.fn.out;
}
