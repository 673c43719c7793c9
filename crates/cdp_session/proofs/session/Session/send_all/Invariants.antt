use Rattle.std.proofs.Common.{◌≡◌, map, string_bytes}
use Rattle.cdp_session.specs.Sessions.{sent}
use Rattle.cdp_session.proofs.session.Session.send_all.Given as goal

abbrev pub invariant-loop-text : goal.invariant-loop-text
invariant-loop-text l = l.self ≡ sent (map string_bytes l.yielded) l.fn.self
