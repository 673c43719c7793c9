use Rattle.std.proofs.Common.{◌≡◌, take, false}
use Rattle.cdp_host_isolation.specs.Passes.{any_set}
use Rattle.cdp_host.proofs.watching.is_any_set.Given as goal

abbrev pub invariant-loop-flag : goal.invariant-loop-flag
invariant-loop-flag l = any_set (take l.flag-index l.flags) ≡ false
