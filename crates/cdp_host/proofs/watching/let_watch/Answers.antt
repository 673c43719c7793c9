use Rattle.std.proofs.Common.{subst, sym, ◌∙◌}
use Rattle.cdp_host_isolation.specs.Passes.{Behind, Over}
use Rattle.cdp_host_isolation.proofs.PassLemmas.{behind-passed, behind-stopped}
use Rattle.cdp_host.specs.Protocols.{protocol}
use Rattle.cdp_host.specs.Watching.{step_seen}
use Rattle.cdp_host.proofs.FlagLemmas.{watched-flagged}
use Rattle.cdp_host.proofs.SeatLemmas.{watched-fit}
use Rattle.cdp_host.proofs.watching.let_watch.Goals as goal

pub stop_all-requires-clause-fit : goal.stop_all-requires-clause-fit
stop_all-requires-clause-fit g c =
    watched-fit (protocol c.args.situation.now.scripts.now) c.args.number c.args.moment
    (step_seen g.P.Program.standing c.args.situation.now c.args.step.now)
    c.args.seats.now c.watch_all-stops.new.seats c.watch_all-stops.new.named c.watch_all-stops.ensures.watched

pub stop_all-requires-clause-unnamed : goal.stop_all-requires-clause-unnamed
stop_all-requires-clause-unnamed g c =
    watched-flagged c.args.situation.now.scripts.now c.args.number c.args.moment
    (step_seen g.P.Program.standing c.args.situation.now c.args.step.now)
    c.args.seats.now c.watch_all-stops.new.seats c.watch_all-stops.new.named c.watch_all-stops.ensures.watched

pub returns-then-stops-clause-behind : goal.returns-then-stops-clause-behind
returns-then-stops-clause-behind g c =
    let P = protocol c.args.situation.now.scripts.now in
    let step = step_seen g.P.Program.standing c.args.situation.now c.args.step.now in
    subst (λ stops. Over (Behind P stops c.args.number c.args.moment step)
    c.args.seats.now c.stop_all.new.seats c.watch_all-stops.new.named)
    (sym c.if-stops.true)
    (behind-stopped P c.args.number c.args.moment step c.args.seats.now c.watch_all-stops.new.seats c.stop_all.new.seats
    c.watch_all-stops.new.named c.watch_all-stops.ensures.watched c.stop_all.ensures)

pub returns-else-stops-clause-behind : goal.returns-else-stops-clause-behind
returns-else-stops-clause-behind g c =
    let P = protocol c.args.situation.now.scripts.now in
    let step = step_seen g.P.Program.standing c.args.situation.now c.args.step.now in
    subst (λ stops. Over (Behind P stops c.args.number c.args.moment step)
    c.args.seats.now c.watch_all-stops.new.seats c.watch_all-stops.new.named)
    (sym c.if-stops.false)
    (behind-passed P c.args.number c.args.moment step c.args.seats.now c.watch_all-stops.new.seats
    c.watch_all-stops.new.named c.watch_all-stops.ensures.watched
    (sym c.watch_all-stops.ensures.any ∙ c.if-stops.false))
