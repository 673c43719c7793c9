use Rattle.std.proofs.Common.{◌-◌, ◌≡◌, ◌++◌, ◌≤◌, false, length, List, [], ℕ}
use Rattle.cdp_host_isolation.specs.Runs.{HasMade}
use Rattle.cdp_host.specs.Hosts.{KeepsFallback, meaning_with}
use Rattle.cdp_host.specs.Protocols.{protocol}
use Rattle.cdp_host.proofs.host.Host.make_steps.Given as goal

-- so many steps were made, and what they printed is kept
abbrev pub invariant-loop-self : goal.invariant-loop-self
invariant-loop-self l = record {
  within : l.left ≤ l.n;
  scripts : l.self.scripts ≡ l.fn.self.scripts;
  same : l.self.broken ≡ false;
  handed : l.self.meaning.program.machine.context.printed ≡ [];
  flags : length l.named.items ≡ length l.self.meaning.seats;
  keeps : KeepsFallback l.fn.self l.self;
  made : (taken : List (List ℕ))
      → HasMade (protocol l.fn.self.scripts) l.moment (meaning_with l.fn.self taken)
      (meaning_with l.self (taken ++ l.printed.items)) (l.n - l.left);
}

abbrev pub decreases-loop-self : goal.decreases-loop-self
decreases-loop-self l = l.left
