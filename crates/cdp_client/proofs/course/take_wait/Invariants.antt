use Rattle.std.proofs.Common.{◌≡◌}
use Rattle.cdp_client.proofs.WaitLemmas.{NoneSoFar}
use Rattle.cdp_client.proofs.course.take_wait.Given as goal

-- none of the lines so far is it, and nothing was changed
abbrev pub invariant-loop-place : goal.invariant-loop-place
invariant-loop-place l = record {
  same : l.lines ≡ l.fn.lines;
  none : NoneSoFar l.method l.fn.lines.items l.place;
}
