use Rattle.ws_service.proofs.DoorLemmas.{tended-end, tended-next, tended-none}
use Rattle.ws_service.proofs.door.serve_door.Goals as goal

pub loop-init : goal.loop-init
loop-init g c =
    tended-none g.H.Hosted.debugs c.args.p.now _ c.requires.free c.requires.none_out

pub loop-preserved : goal.loop-preserved
loop-preserved g c =
    tended-next g.H.Hosted.debugs c.args.p.now c.loop.p c.tend.new.p _ _ _ c.loop.invariant
    c.in_default.ensures

pub returns-in-Some-tend : goal.returns-in-Some-tend
returns-in-Some-tend g c =
    tended-end g.H.Hosted.debugs c.args.p.now c.loop.p c.tend.new.p _ _ _ c.in-Some-tend.end c.loop.invariant
    c.in-Some-tend.ensures
