use Rattle.std.proofs.Common.{◌<◌, ◌≤◌, length, refl, sym, subst, arith}
use Rattle.cdp_host_isolation.specs.Passes.{HearsOn}
use Rattle.cdp_host_isolation.specs.Texts.{Fits}
use Rattle.cdp_host_isolation.proofs.PassLoops.{on-done, on-next}
use Rattle.cdp_host.specs.Protocols.{protocol}
use Rattle.cdp_host.proofs.SeatLemmas.{fits-at, on-here}
use Rattle.cdp_host.proofs.seats.resume_all.Goals as goal

pub loop-seat-init : goal.loop-seat-init
loop-seat-init c = λ scripts. refl

pub resume_seat-requires : goal.resume_seat-requires
resume_seat-requires c = λ scripts.
    let here = on-here (HearsOn (protocol scripts))
    c.loop-seat.seat-index c.args.seats.now c.loop-seat.seats c.seat-item.result (c.loop-seat.invariant scripts) in
    subst (Fits (protocol scripts)) (sym here)
    (fits-at (protocol scripts) c.loop-seat.seat-index c.args.seats.now c.seat-item.result (c.requires scripts)
    c.loop-seat-test.true)

pub loop-seat-preserved : goal.loop-seat-preserved
loop-seat-preserved c = λ scripts.
    let small : c.loop-seat.seat-index < length c.loop-seat.seats = omega
    (arith, c.loop-seat-test.true, c.loop-seat.auto.seats) in
    on-next (HearsOn (protocol scripts))
    c.loop-seat.seat-index c.args.seats.now c.loop-seat.seats c.seat-item.result c.resume_seat.new.seat
    (c.loop-seat.invariant scripts) small (c.resume_seat.ensures scripts)

pub returns : goal.returns
returns c = λ scripts.
    let done : length c.loop-seat.seats ≤ c.loop-seat.seat-index = omega
    (arith, c.loop-seat-test.false, c.loop-seat.auto.seats) in
    on-done (HearsOn (protocol scripts)) c.loop-seat.seat-index c.args.seats.now c.loop-seat.seats
    (c.loop-seat.invariant scripts) done
