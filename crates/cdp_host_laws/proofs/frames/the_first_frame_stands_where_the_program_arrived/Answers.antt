use Rattle.cdp_host_laws.proofs.TopLemmas.{plain-stands}
use Rattle.cdp_host_laws.proofs.frames.the_first_frame_stands_where_the_program_arrived.Goals as goal

pub returns : goal.returns
returns c = plain-stands
