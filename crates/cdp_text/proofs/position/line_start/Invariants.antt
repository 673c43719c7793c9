use Rattle.std.proofs.Common.{◌≡◌, ◌<◌}
use Rattle.cdp_text.specs.Position.{position}
use Rattle.cdp_text.proofs.position.line_start.Given as goal

-- how many lines have ended, fewer than are wanted
abbrev pub invariant-loop-i : goal.invariant-loop-i
invariant-loop-i l = (l.ended ≡ (position l.u l.i).line) × (l.ended < l.line)
