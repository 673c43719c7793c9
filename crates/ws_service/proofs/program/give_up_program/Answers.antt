use Rattle.std.proofs.Common.{refl}
use Rattle.ws_service.proofs.program.give_up_program.Goals as goal

pub returns : goal.returns
returns g c = (c.shut_down.result, refl, c.shut_down.ensures)
