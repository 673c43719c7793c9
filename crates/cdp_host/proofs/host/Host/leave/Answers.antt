use Rattle.std.proofs.Common.{◌≡◌, ◌++◌, take, drop, length, true, refl, ap, subst, sym, ◌∙◌}
use Rattle.cdp_host_isolation.specs.Seats.{is_attached, put, seat_of}
use Rattle.cdp_host_isolation.specs.declared.seat.Seat.TheVariants.{Left}
use Rattle.cdp_host_seats.proofs.PlacedLemmas.{put-back}
use Rattle.cdp_host.specs.Hosts.{HostState}
use Rattle.cdp_host.specs.Indexing.{IsIndexOf}
use Rattle.cdp_host.specs.Protocols.{protocol}
use Rattle.cdp_host.proofs.CallLemmas.{sound-seats, whose, works-at}
use Rattle.cdp_host.proofs.IndexLemmas.{left-indexed}
use Rattle.cdp_host.proofs.LeaveLemmas.{OnlySeats, leaves-left, stays-same}
use Rattle.cdp_host_isolation.specs.Runs.{AllFit}
use Rattle.cdp_host.proofs.ViewLemmas.{seen_as}
use Rattle.cdp_host.proofs.host.Host.leave.Goals as goal
use Rattle.cdp_host_isolation.proofs.RoomLemmas.{put-fits}

pub invariant_of-self : goal.invariant_of-self
invariant_of-self c =
    let a = c.self.inside in
    let P = protocol a.scripts.now in
    let news = c.leave.new.seats in
    let rest = drop (length news) a.seats.items in
    let w = take a.seats.len (news ++ rest) in
    let held : is_attached (seat_of c.args.s a.seats.items) ≡ true = subst
    (λ o. is_attached (seat_of c.args.s o.meaning.seats) ≡ true) (sym c.self.view_is) c.requires in
    let back : w ≡ put c.args.s Left a.seats.items =
    put-back a.seats.len c.args.s Left a.seats.items news rest
    (sym c.as_mut_slice.ensures.len ∙ ap length c.as_mut_slice.ensures.value)
    (c.leave.ensures ∙ ap (put c.args.s Left) c.as_mut_slice.ensures.value) in
    sound-seats a.scripts.now a.shared a.lines.items a.spots a.machine a.broken a.seats.items w a.seats.len a.index
    c.forget.new.self a.fallback
    a.fallen.items
    c.self.invariant (works-at c.args.s a.broken a.seats.items c.self.invariant.alone held)
    (subst (AllFit P) (sym back) (put-fits P c.args.s Left a.seats.items tt c.self.invariant.fit))
    (subst (IsIndexOf w) (sym c.forget.ensures) (left-indexed c.args.s a.seats.items w a.index back c.self.invariant.indexed))

pub settle-requires : goal.settle-requires
settle-requires c =
    let a = c.self.inside in
    works-at c.args.s a.broken a.seats.items c.self.invariant.alone
    (subst (λ o. is_attached (seat_of c.args.s o.meaning.seats) ≡ true) (sym c.self.view_is) c.requires)

pub returns-clause-leaves : goal.returns-clause-leaves
returns-clause-leaves c =
    let a = c.self.inside in
    let now = c.args.self.now in
    let news = c.leave.new.seats in
    let rest = drop (length news) a.seats.items in
    let w = take a.seats.len (news ++ rest) in
    let back : w ≡ put c.args.s Left a.seats.items =
    put-back a.seats.len c.args.s Left a.seats.items news rest
    (sym c.as_mut_slice.ensures.len ∙ ap length c.as_mut_slice.ensures.value)
    (c.leave.ensures ∙ ap (put c.args.s Left) c.as_mut_slice.ensures.value) in
    let h : HostState = seen_as a in
    let mid : HostState = record h { meaning = record h.meaning { seats = w } } in
    let it = whose (seat_of c.args.s now.meaning.seats) c.requires in
    leaves-left now mid c.settle.new.self c.args.s it.0 it.1 (subst (λ o. OnlySeats o mid) c.self.view_is refl)
    (back ∙ ap (λ o. put c.args.s Left o.meaning.seats) c.self.view_is) c.settle.ensures.scripts
    c.settle.ensures.works c.settle.ensures.fallen (stays-same mid c.settle.new.self c.settle.ensures.stays)
    c.settle.ensures.means

pub returns-clause-works : goal.returns-clause-works
returns-clause-works c =
    let a = c.self.inside in
    ap (λ o. o.broken) (sym c.self.view_is)
    ∙ works-at c.args.s a.broken a.seats.items c.self.invariant.alone
    (subst (λ o. is_attached (seat_of c.args.s o.meaning.seats) ≡ true) (sym c.self.view_is) c.requires)
