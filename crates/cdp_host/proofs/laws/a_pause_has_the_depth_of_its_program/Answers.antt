use Rattle.cdp_host.proofs.LawLemmas.{paused-there}
use Rattle.cdp_host.proofs.laws.a_pause_has_the_depth_of_its_program.Goals as goal

pub returns : goal.returns
returns c = paused-there
