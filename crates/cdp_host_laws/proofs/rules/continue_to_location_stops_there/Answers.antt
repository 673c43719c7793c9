use Rattle.cdp_host_laws.proofs.PlaceRuleLemmas.{continue-until}
use Rattle.cdp_host_laws.proofs.rules.continue_to_location_stops_there.Goals as goal

pub returns : goal.returns
returns c = continue-until
