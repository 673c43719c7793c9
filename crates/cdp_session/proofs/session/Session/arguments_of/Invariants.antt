use Rattle.std.proofs.Common.{◌≡◌, drop, map}
use Rattle.cdp_json.specs.ArgumentViews.{argument_view}
use Rattle.cdp_session.specs.Calls.{arguments_of}
use Rattle.cdp_session.proofs.CallLemmas.{behind}
use Rattle.cdp_session.proofs.session.Session.arguments_of.Given as goal

abbrev pub invariant-loop-argument : goal.invariant-loop-argument
invariant-loop-argument l =
    behind l.self l.given.items (drop l.argument-index l.arguments) ≡ arguments_of l.self
    (map argument_view l.arguments)
