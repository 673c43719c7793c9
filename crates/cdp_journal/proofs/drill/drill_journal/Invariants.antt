use Rattle.std.proofs.Common.{◌≡◌, ◌-◌, string_bytes}
use Rattle.cdp_journal.proofs.DrillLemmas.{turned}
use Rattle.cdp_journal.proofs.drill.drill_journal.Given as goal

-- the turns so far
abbrev pub invariant-loop-moment : goal.invariant-loop-moment
invariant-loop-moment l = string_bytes l.journal ≡ turned (l.moment - 1)
