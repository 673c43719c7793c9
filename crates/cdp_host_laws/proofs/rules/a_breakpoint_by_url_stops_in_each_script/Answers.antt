use Rattle.cdp_host_laws.proofs.UrlRuleLemmas.{url-until}
use Rattle.cdp_host_laws.proofs.rules.a_breakpoint_by_url_stops_in_each_script.Goals as goal

pub returns : goal.returns
returns c = url-until
