use Rattle.std.proofs.Common.{◌≡◌, length}
use Rattle.std.specs.List.{list_all}
use Rattle.std.specs.Char.{is_ascii_digit}
use Rattle.cdp_door.proofs.callers.are_digits.Given as goal

-- only digits so far
abbrev pub invariant-loop-first : goal.invariant-loop-first
invariant-loop-first l = list_all is_ascii_digit l.bytes ≡ list_all is_ascii_digit l.rest

abbrev pub decreases-loop-first : goal.decreases-loop-first
decreases-loop-first l = length l.rest
