use Rattle.std.proofs.Common.{◌≡◌, ◌<◌, ◌≤◌, length, slice_index_or, false, refl, sym, subst, arith}
use Rattle.cdp_host_isolation.specs.Passes.{HearsOf}
use Rattle.cdp_host_isolation.specs.Texts.{Fits}
use Rattle.cdp_host_isolation.proofs.PassLoops.{along-done, along-next}
use Rattle.cdp_host.specs.Protocols.{protocol}
use Rattle.cdp_host.specs.Watching.{step_seen, IsFlagged}
use Rattle.cdp_host.proofs.FlagLemmas.{flagged-at}
use Rattle.cdp_host.proofs.SeatLemmas.{along-here, fits-at}
use Rattle.cdp_host.proofs.watching.stop_all.Goals as goal

pub loop-index-init : goal.loop-index-init
loop-index-init g c = refl

pub stop_seat-requires-clause-fit : goal.stop_seat-requires-clause-fit
stop_seat-requires-clause-fit g c =
    let P = protocol c.args.situation.now.scripts.now in
    let here = along-here
    (HearsOf P c.args.number (step_seen g.P.Program.standing c.args.situation.now c.args.step.now))
    c.loop-index.index c.args.seats.now c.loop-index.seats c.args.named.now c.index-seats-index.result
    c.loop-index.invariant in
    subst (Fits P) (sym here)
    (fits-at P c.loop-index.index c.args.seats.now c.index-seats-index.result c.requires.fit c.loop-index-test.true)

pub stop_seat-requires-clause-unnamed : goal.stop_seat-requires-clause-unnamed
stop_seat-requires-clause-unnamed g c =
    let step = step_seen g.P.Program.standing c.args.situation.now c.args.step.now in
    let here = along-here
    (HearsOf (protocol c.args.situation.now.scripts.now) c.args.number step)
    c.loop-index.index c.args.seats.now c.loop-index.seats c.args.named.now c.index-seats-index.result
    c.loop-index.invariant in
    let small : c.loop-index.index < length c.args.seats.now = c.loop-index-test.true in
    subst (λ seat. IsFlagged step seat (slice_index_or c.args.named.now c.loop-index.index false)) (sym here)
    (flagged-at step c.loop-index.index c.args.seats.now c.args.named.now c.index-seats-index.result false
    c.requires.unnamed small)

pub loop-index-preserved : goal.loop-index-preserved
loop-index-preserved g c =
    let small : c.loop-index.index < length c.loop-index.seats = omega
    (arith, c.loop-index-test.true, c.loop-index.auto.seats) in
    let few : c.loop-index.index < length c.args.named.now = omega
    (arith, c.loop-index-test.true, c.loop-index.auto.seats, c.requires.flags) in
    along-next
    (HearsOf (protocol c.args.situation.now.scripts.now) c.args.number
    (step_seen g.P.Program.standing c.args.situation.now c.args.step.now))
    c.loop-index.index c.args.seats.now c.loop-index.seats c.args.named.now
    c.index-seats-index.result c.stop_seat.new.seat false c.loop-index.invariant small few c.stop_seat.ensures

pub returns : goal.returns
returns g c =
    let done : length c.loop-index.seats ≤ c.loop-index.index = omega
    (arith, c.loop-index-test.false, c.loop-index.auto.seats) in
    let many : length c.args.named.now ≡ length c.loop-index.seats = omega
    (arith, c.requires.flags, c.loop-index.auto.seats) in
    along-done
    (HearsOf (protocol c.args.situation.now.scripts.now) c.args.number
    (step_seen g.P.Program.standing c.args.situation.now c.args.step.now))
    c.loop-index.index c.args.seats.now c.loop-index.seats c.args.named.now
    c.loop-index.invariant done many
