use Rattle.std.proofs.Common.{map, string_bytes}
use Rattle.cdp_host_isolation.specs.declared.seat.Loss.TheVariants.{Overrun}
use Rattle.debug_host_commands.proofs.LossLemmas.{overruns-more}
use Rattle.debug_host_commands.proofs.output.push_overruns.Goals as goal
use Rattle.cdp_host_seats.specs.declared.losses.SessionLost.{SessionLost}

pub loop-lost-preserved : goal.loop-lost-preserved
loop-lost-preserved c =
    let nobody : SessionLost = record { session = 0; loss = Overrun } in
    overruns-more c.args.losses.now c.loop-lost.lost-index nobody (map string_bytes c.args.lines.now.items)
    (map string_bytes c.loop-lost.lines.items)
    (map string_bytes c.push_overrun.new.lines.items)
    c.loop-lost-test.true c.loop-lost.invariant c.in_ok-push_overrun.ensures
