use Rattle.cdp_session.proofs.OrderedLemmas.{located_ascending}
use Rattle.cdp_session.proofs.session.Session.possible.Goals as goal

pub spots_between-spots-requires : goal.spots_between-spots-requires
spots_between-spots-requires g c =
    located_ascending c.in_ok-found.found.spots.now c.in_ok-found.found.script.now c.in_ok-found.found.located
