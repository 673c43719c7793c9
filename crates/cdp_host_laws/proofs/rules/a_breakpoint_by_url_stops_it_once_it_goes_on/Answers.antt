use Rattle.cdp_host_laws.proofs.UrlRuleLemmas.{url-then-on}
use Rattle.cdp_host_laws.proofs.rules.a_breakpoint_by_url_stops_it_once_it_goes_on.Goals as goal

pub returns : goal.returns
returns c = url-then-on
