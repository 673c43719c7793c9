use Rattle.std.proofs.Common.{refl}
use Rattle.cdp_host_laws.proofs.LimitLemmas.{full-held}
use Rattle.cdp_host_laws.proofs.limits.the_limits_of_a_session_are_those_of_the_documents.Goals as goal

pub returns : goal.returns
returns c = record {
  texts = refl;
  bytes = refl;
  objects = full-held;
  breakpoints = refl;
  steps = refl;
  cells = refl;
  units = refl;
  depth = refl;
  values = refl;
}
