use Rattle.std.proofs.Common.{subst, sym}
use Rattle.ws_service.specs.Doors.{Looks}
use Rattle.ws_service.proofs.DoorLemmas.{looks-by}
use Rattle.ws_service.proofs.door.end_if_over.Goals as goal

pub returns-in-Ok : goal.returns-in-Ok
returns-in-Ok g c =
    subst (Looks g.H.Hosted.debugs c.args.p.now c.look.new.p) (sym c.then_some.ensures)
    (looks-by g.H.Hosted.debugs c.args.p.now c.look.new.p c.in-Ok.state c.is_final.result c.is_final.ensures
    c.in-Ok.ensures.finds)
