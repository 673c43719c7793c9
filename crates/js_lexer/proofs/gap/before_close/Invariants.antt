use Rattle.std.proofs.Common.{◌≡◌, ◌+◌, length}
use Rattle.js_lexer.specs.Scanning.{before_close}
use Rattle.js_lexer.proofs.gap.before_close.Given as goal

abbrev pub invariant-loop-rest : goal.invariant-loop-rest
invariant-loop-rest l = record {
  len : l.len + before_close l.rest ≡ before_close l.units;
  units : l.len + length l.rest ≡ length l.units;
}

abbrev pub decreases-loop-rest : goal.decreases-loop-rest
decreases-loop-rest l = length l.rest
