use Rattle.std.proofs.Common.{◌≡◌, ℕ, ◌<◌, ◌≤◌, false, get_or}
use Rattle.cdp_text.specs.Position.{is_line_terminator}
use Rattle.cdp_text.proofs.position.line_end.Given as goal

-- no line terminator so far
abbrev pub invariant-loop-i : goal.invariant-loop-i
invariant-loop-i l = (k : ℕ) → l.start ≤ k → k < l.i → is_line_terminator (get_or l.u k 0) ≡ false
