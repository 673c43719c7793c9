use Rattle.cdp_host.specs.Watching.{step_seen}
use Rattle.cdp_host.proofs.FlagLemmas.{flagged-cause}
use Rattle.cdp_host.proofs.watching.stop_seat.Goals as goal

pub stopped_by_another-requires : goal.stopped_by_another-requires
stopped_by_another-requires g c =
    flagged-cause (step_seen g.P.Program.standing c.args.situation.now c.args.step.now) c.args.seat.now
    c.in-Attached.session c.args.named c.in-Attached.is c.requires.unnamed c.if-named.false
