use Rattle.std.proofs.Common.{◌≡◌, take}
use Rattle.js_machine_terms.proofs.copies.members_copy.Given as goal

abbrev pub invariant-loop-member : goal.invariant-loop-member
invariant-loop-member l = l.items.items ≡ take l.member-index l.member-items
