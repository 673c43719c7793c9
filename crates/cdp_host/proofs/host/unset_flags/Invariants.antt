use Rattle.std.proofs.Common.{◌≡◌, length}
use Rattle.cdp_host.proofs.host.unset_flags.Given as goal

abbrev pub invariant-loop : goal.invariant-loop
invariant-loop l = length l.flags.items ≡ l.counter
