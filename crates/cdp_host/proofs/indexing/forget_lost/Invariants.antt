use Rattle.std.proofs.Common.{◌≡◌, take}
use Rattle.cdp_host.specs.Indexing.{ForgetsLost}
use Rattle.cdp_host.proofs.indexing.forget_lost.Given as goal

-- those of the first seats are forgotten
abbrev pub invariant-loop-seat : goal.invariant-loop-seat
invariant-loop-seat l = record {
  counted : l.session ≡ l.seat-index;
  forgets : ForgetsLost (take l.seat-index l.seats) l.fn.index l.index;
}
