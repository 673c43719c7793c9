use Rattle.cdp_session_laws.proofs.EventLemmas.{ordered}
use Rattle.cdp_session_laws.proofs.IdLemmas.{id-found}
use Rattle.cdp_session_laws.proofs.NamingLemmas.{object-named, object-nameless, scope-named}
use Rattle.cdp_session_laws.proofs.identity.a_description_names_what_it_describes.Goals as goal

pub returns : goal.returns
returns c = record {
  ordered = ordered;
  objects = object-named;
  scopes = scope-named;
  nameless = object-nameless;
  ids = id-found;
}
