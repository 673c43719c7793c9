use Rattle.std.proofs.Common.{◌≢◌, ◌<◌, ℕ, get_or, map}
use Rattle.cdp_text.proofs.parts.unit_halves.Given as goal

-- no separator so far
abbrev pub invariant-loop-i : goal.invariant-loop-i
invariant-loop-i g l = (k : ℕ) → k < l.i → get_or (map g.C.CodeUnit.code l.units) k 0 ≢ g.C.CodeUnit.code l.fn.separator
