use Rattle.ws_service.proofs.DoorLemmas.{shuts-if}
use Rattle.ws_service.proofs.door.shut_all.Goals as goal

pub returns : goal.returns
returns g c =
    shuts-if g.H.Hosted.debugs c.args.p.now c.shut_down.new.p c.shut_down.result c.requires.free c.shut_down.ensures
