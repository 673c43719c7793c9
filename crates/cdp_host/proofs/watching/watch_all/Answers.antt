use Rattle.std.proofs.Common.{◌≡◌, ◌<◌, ◌≤◌, length, refl, sym, subst, arith}
use Rattle.cdp_host_isolation.specs.Passes.{Watches}
use Rattle.cdp_host_isolation.specs.Texts.{Fits}
use Rattle.cdp_host_isolation.proofs.PassLoops.{along-done, along-set}
use Rattle.cdp_host.specs.Protocols.{protocol}
use Rattle.cdp_host.specs.Watching.{step_seen}
use Rattle.cdp_host.proofs.SeatLemmas.{along-here, fits-at}
use Rattle.cdp_host.proofs.watching.watch_all.Goals as goal

pub loop-index-init : goal.loop-index-init
loop-index-init g c = refl

pub watch_seat-requires-clause-fit : goal.watch_seat-requires-clause-fit
watch_seat-requires-clause-fit g c =
    let P = protocol c.args.situation.now.scripts.now in
    let here = along-here
    (Watches P c.args.number c.args.moment (step_seen g.P.Program.standing c.args.situation.now c.args.step.now))
    c.loop-index.index c.args.seats.now c.loop-index.seats c.loop-index.named c.index-seats-index.result
    c.loop-index.invariant in
    subst (Fits P) (sym here)
    (fits-at P c.loop-index.index c.args.seats.now c.index-seats-index.result c.requires.fit c.loop-index-test.true)

pub loop-index-preserved : goal.loop-index-preserved
loop-index-preserved g c =
    let small : c.loop-index.index < length c.loop-index.seats = omega
    (arith, c.loop-index-test.true, c.loop-index.auto.seats) in
    let few : c.loop-index.index < length c.loop-index.named = omega
    (arith, c.loop-index-test.true, c.loop-index.auto.seats, c.loop-index.auto.named, c.requires.flags) in
    along-set
    (Watches (protocol c.args.situation.now.scripts.now) c.args.number c.args.moment
    (step_seen g.P.Program.standing c.args.situation.now c.args.step.now))
    c.loop-index.index c.args.seats.now c.loop-index.seats c.loop-index.named
    c.index-seats-index.result c.watch_seat.new.seat c.watch_seat.result c.loop-index.invariant small few
    c.watch_seat.ensures

pub returns-clause-watched : goal.returns-clause-watched
returns-clause-watched g c =
    let done : length c.loop-index.seats ≤ c.loop-index.index = omega
    (arith, c.loop-index-test.false, c.loop-index.auto.seats) in
    let many : length c.loop-index.named ≡ length c.loop-index.seats = omega
    (arith, c.requires.flags, c.loop-index.auto.seats, c.loop-index.auto.named) in
    along-done
    (Watches (protocol c.args.situation.now.scripts.now) c.args.number c.args.moment
    (step_seen g.P.Program.standing c.args.situation.now c.args.step.now))
    c.loop-index.index c.args.seats.now c.loop-index.seats c.loop-index.named
    c.loop-index.invariant done many
