use Rattle.std.proofs.Common.{◌≡◌}
use Rattle.cdp_text.specs.Position.{position}
use Rattle.cdp_text.proofs.position.pos_at.Given as goal

-- the position of the units so far
abbrev pub invariant-loop-i : goal.invariant-loop-i
invariant-loop-i l = l.pos ≡ position l.u l.i
