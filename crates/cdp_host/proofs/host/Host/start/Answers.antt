use Rattle.cdp_host.proofs.HistoryLemmas.{stands-start}
use Rattle.cdp_host.proofs.StartLemmas.{program-is, start-means, start-sound}
use Rattle.cdp_host.proofs.host.Host.start.Goals as goal
use Rattle.std.proofs.Common.{refl}

pub invariant_of-result : goal.invariant_of-result
invariant_of-result c =
    rw (c.new-2.ensures.items, c.new-2.ensures.len, c.new-5.ensures.items)
    (start-sound c.args.scripts.now c.in_ok-shared.shared c.args.input.items c.in_ok-lines.lines.items
    c.in_ok-spots.spots
    c.in_ok-machine.field-0 c.in_ok-machine.ensures c.in_ok-lines.ensures c.in_ok-spots.ensures
    c.new-4.result c.new-4.ensures.room c.new-4.ensures.made c.new-3.result c.new-3.ensures c.in_ok-shared.ensures)

pub returns-clause-host : goal.returns-clause-host
returns-clause-host c =
    rw (c.phase_of.ensures, c.new-2.ensures.items)
    (start-means c.args.scripts.now c.args.input.items c.args.wait c.in_ok-machine.field-0 c.in_ok-machine.ensures)

pub returns-clause-stands : goal.returns-clause-stands
returns-clause-stands c =
    stands-start c.args.scripts.now c.args.input.items c.args.wait _ refl refl (returns-clause-host c)

pub coded_scripts-requires : goal.coded_scripts-requires
coded_scripts-requires c =
    program-is c.args.scripts.now c.args.input.items c.in_ok-machine.field-0 c.in_ok-machine.ensures
