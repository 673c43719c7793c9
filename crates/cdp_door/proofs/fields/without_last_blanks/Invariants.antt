use Rattle.std.proofs.Common.{◌≡◌, length, reverse}
use Rattle.httparse.specs.Grammar.{skip_ows}
use Rattle.cdp_door.proofs.fields.without_last_blanks.Given as goal

-- only blanks so far, from the end
abbrev pub invariant-loop-last : goal.invariant-loop-last
invariant-loop-last l = skip_ows (reverse l.bytes) ≡ skip_ows (reverse l.rest)

abbrev pub decreases-loop-last : goal.decreases-loop-last
decreases-loop-last l = length l.rest
