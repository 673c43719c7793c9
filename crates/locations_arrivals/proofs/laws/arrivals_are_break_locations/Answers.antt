use Rattle.locations_arrivals.proofs.StartLemmas.{plain-arrives}
use Rattle.locations_arrivals.proofs.laws.arrivals_are_break_locations.Goals as goal

pub returns : goal.returns
returns c = plain-arrives
