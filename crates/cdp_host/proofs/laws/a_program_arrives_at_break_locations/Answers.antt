use Rattle.cdp_host.proofs.PlaceLemmas.{plain-located}
use Rattle.cdp_host.proofs.laws.a_program_arrives_at_break_locations.Goals as goal

pub returns : goal.returns
returns c = plain-located
