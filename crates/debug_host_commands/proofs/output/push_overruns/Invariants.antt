use Rattle.std.proofs.Common.{◌≡◌, ◌++◌, map, take, string_bytes}
use Rattle.debug_host_commands.proofs.LossLemmas.{overrun_texts}
use Rattle.debug_host_commands.proofs.output.push_overruns.Given as goal

-- the lines of the losses so far
abbrev pub invariant-loop-lost : goal.invariant-loop-lost
invariant-loop-lost l =
    map string_bytes l.lines.items ≡ map string_bytes l.fn.lines.items ++ overrun_texts (take l.lost-index l.losses)
