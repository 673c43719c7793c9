use Rattle.std.proofs.Common.{◌≡◌, [], take}
use Rattle.cdp_host_turns.specs.Entries.{lost_for_memory}
use Rattle.debug_host_commands.proofs.act.some_for_memory.Given as goal

-- none of the losses so far is for want of memory
abbrev pub invariant-loop-lost : goal.invariant-loop-lost
invariant-loop-lost l = lost_for_memory (take l.lost-index l.losses) ≡ []
