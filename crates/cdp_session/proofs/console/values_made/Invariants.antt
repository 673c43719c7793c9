use Rattle.std.proofs.Common.{drop, map}
use Rattle.cdp_json.specs.Views.{json_view}
use Rattle.remote_objects.proofs.MakingLemmas.{Goes}
use Rattle.cdp_session.specs.Consoles.{values_made}
use Rattle.cdp_session.specs.Pauses.{described_by}
use Rattle.cdp_session.proofs.console.values_made.Given as goal

abbrev pub invariant-loop-i : goal.invariant-loop-i
invariant-loop-i l =
    let sight = described_by l.describer in
    Goes (map json_view l.listed.items) (values_made sight (drop l.i l.values) l.handles)
    (values_made sight l.values l.fn.handles)
