use Rattle.locations_arrivals.proofs.RaiseLemmas.{plain-raises}
use Rattle.locations_arrivals.proofs.laws.a_throw_stands_where_it_is_raised.Goals as goal

pub returns : goal.returns
returns c = plain-raises
