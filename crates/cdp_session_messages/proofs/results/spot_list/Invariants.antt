use Rattle.std.proofs.Common.{◌≡◌, map, take}
use Rattle.cdp_json.specs.Views.{json_view}
use Rattle.cdp_session_messages.specs.Results.{spot_location}
use Rattle.cdp_session_messages.proofs.results.spot_list.Given as goal

abbrev pub invariant-loop-spot : goal.invariant-loop-spot
invariant-loop-spot l = map json_view l.values.items ≡ map (spot_location l.script) (take l.spot-index l.spots)
