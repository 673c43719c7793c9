use Rattle.std.proofs.Common.{◌≡◌, ◌+◌, length}
use Rattle.js_lexer.specs.Scanning.{gap_piece}
use Rattle.js_lexer.proofs.gap.gap_len.Given as goal
use Rattle.js_lexer.specs.Pieces.{run}

abbrev pub invariant-loop-rest : goal.invariant-loop-rest
invariant-loop-rest l = record {
  len : l.len + run gap_piece 0 l.rest ≡ run gap_piece 0 l.units;
  units : l.len + length l.rest ≡ length l.units;
}

abbrev pub decreases-loop-rest : goal.decreases-loop-rest
decreases-loop-rest l = length l.rest
