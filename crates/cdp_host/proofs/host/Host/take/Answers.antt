use Rattle.std.proofs.Common.{◌≡◌, ◌++◌, take, drop, length, true, sym, subst}
use Rattle.cdp_host_isolation.specs.Seats.{is_attached, seat_of}
use Rattle.cdp_host.specs.Hosts.{HostState}
use Rattle.cdp_host_isolation.specs.declared.seat.Seat.TheVariants.{Attached}
use Rattle.cdp_session.specs.Sessions.{emptied}
use Rattle.cdp_host.proofs.CallLemmas.{sound-seats, take-back, take-fit, take-leaves, take-stands, whose, works-at}
use Rattle.cdp_host.proofs.IndexLemmas.{put-indexed, taken-stands}
use Rattle.cdp_host.proofs.ViewLemmas.{seen_as}
use Rattle.cdp_host.proofs.host.Host.take.Goals as goal

pub invariant_of-self : goal.invariant_of-self
invariant_of-self c =
    let a = c.self.inside in
    let held : is_attached (seat_of c.args.s a.seats.items) ≡ true = subst
    (λ o. is_attached (seat_of c.args.s o.meaning.seats) ≡ true) (sym c.self.view_is) c.requires in
    let it = whose (seat_of c.args.s a.seats.items) held in
    let rest = drop (length c.take.new.seats) a.seats.items in
    sound-seats a.scripts.now a.shared a.lines.items a.spots a.machine a.broken a.seats.items
    (take a.seats.len (c.take.new.seats ++ rest)) a.seats.len a.index a.index a.fallback a.fallen.items
    c.self.invariant
    (works-at c.args.s a.broken a.seats.items c.self.invariant.alone held)
    (take-fit a.scripts.now c.args.s a.seats.items (take a.seats.len (c.take.new.seats ++ rest)) held
    (take-back a.seats.len c.args.s a.seats.items c.as_mut_slice.result.now c.take.new.seats rest
    c.as_mut_slice.ensures.value
    (sym c.as_mut_slice.ensures.len) c.take.ensures.seats)
    c.self.invariant.fit)
    (put-indexed c.args.s (Attached (emptied it.0)) a.seats.items (take a.seats.len (c.take.new.seats ++ rest)) a.index
    (λ place. taken-stands place (seat_of c.args.s a.seats.items) it.0 it.1)
    (take-back a.seats.len c.args.s a.seats.items c.as_mut_slice.result.now c.take.new.seats rest
    c.as_mut_slice.ensures.value
    (sym c.as_mut_slice.ensures.len) c.take.ensures.seats it.0 it.1)
    c.self.invariant.indexed)

pub returns-clause-leaves : goal.returns-clause-leaves
returns-clause-leaves c =
    let a = c.self.inside in
    let h : HostState = seen_as a in
    let rest = drop (length c.take.new.seats) a.seats.items in
    take-leaves h c.args.self.now c.args.s (take a.seats.len (c.take.new.seats ++ rest)) c.self.view_is c.requires
    (take-back a.seats.len c.args.s a.seats.items c.as_mut_slice.result.now c.take.new.seats rest
    c.as_mut_slice.ensures.value
    (sym c.as_mut_slice.ensures.len) c.take.ensures.seats)

pub returns-clause-stands : goal.returns-clause-stands
returns-clause-stands c =
    let a = c.self.inside in
    let h : HostState = seen_as a in
    take-stands h c.args.self.now _ c.args.s c.self.view_is c.self.invariant.alone c.requires (returns-clause-leaves c)
