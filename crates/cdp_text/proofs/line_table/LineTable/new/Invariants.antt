use Rattle.std.proofs.Common.{◌≡◌, ◌+◌}
use Rattle.cdp_text.specs.Position.{line_starts_below}
use Rattle.cdp_text.proofs.line_table.LineTable.new.Given as goal

-- the starts of the lines of the units so far
abbrev pub invariant-loop-i : goal.invariant-loop-i
invariant-loop-i l = l.starts.items ≡ line_starts_below l.u (l.i + 1)
