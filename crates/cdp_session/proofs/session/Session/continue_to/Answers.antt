use Rattle.cdp_session.proofs.OrderedLemmas.{located_ascending}
use Rattle.cdp_session.proofs.session.Session.continue_to.Goals as goal

pub first_at_or_after-requires : goal.first_at_or_after-requires
first_at_or_after-requires g c =
    located_ascending c.in_ok-found.found.spots.now c.in_ok-found.found.script.now c.in_ok-found.found.located
