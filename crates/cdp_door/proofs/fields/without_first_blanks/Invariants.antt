use Rattle.std.proofs.Common.{◌≡◌, length}
use Rattle.httparse.specs.Grammar.{skip_ows}
use Rattle.cdp_door.proofs.fields.without_first_blanks.Given as goal

-- only blanks so far
abbrev pub invariant-loop-first : goal.invariant-loop-first
invariant-loop-first l = skip_ows l.bytes ≡ skip_ows l.rest

abbrev pub decreases-loop-first : goal.decreases-loop-first
decreases-loop-first l = length l.rest
