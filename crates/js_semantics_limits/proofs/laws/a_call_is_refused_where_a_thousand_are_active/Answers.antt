use Rattle.js_semantics_limits.proofs.CallLaws.{call-enters, call-refused}
use Rattle.js_semantics_limits.proofs.laws.a_call_is_refused_where_a_thousand_are_active.Goals as goal

pub returns : goal.returns
returns c = record { entered = call-enters; refused = call-refused }
