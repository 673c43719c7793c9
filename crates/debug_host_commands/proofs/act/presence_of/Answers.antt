use Rattle.std.proofs.Common.{rules, ◌≡◌, true, false, sym}
use Rattle.cdp_host_isolation.specs.Seats.{is_attached, seat_of}
use Rattle.cdp_host_isolation.specs.Standing.{fell}
use Rattle.debug_host_commands.proofs.ActLemmas.{there-gone, there-held}
use Rattle.debug_host_commands.proofs.act.presence_of.Goals as goal

pub returns-then-attached-clause-attached : goal.returns-then-attached-clause-attached
returns-then-attached-clause-attached c = λ _ scripts input wait history stood.
    let held : is_attached (seat_of c.args.session c.args.host.now.meaning.seats) ≡ true = search rules in
    sym (there-held c.args.host.now c.args.session c.requires held scripts input wait history stood)

pub returns-else-fell-clause-absent : goal.returns-else-fell-clause-absent
returns-else-fell-clause-absent c = λ _ scripts input wait history stood.
    let gone : is_attached (seat_of c.args.session c.args.host.now.meaning.seats) ≡ false = search rules in
    let stays : fell (seat_of c.args.session c.args.host.now.meaning.seats) ≡ false = search rules in
    sym (there-gone c.args.host.now c.args.session c.requires gone stays scripts input wait history stood)
