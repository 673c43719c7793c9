use Rattle.std.proofs.Common.{◌≡◌, map, take}
use Rattle.cdp_json.specs.Views.{json_view}
use Rattle.cdp_json.specs.Parts.{location}
use Rattle.cdp_session_messages.proofs.results.locations.Given as goal

abbrev pub invariant-loop-place : goal.invariant-loop-place
invariant-loop-place l = map json_view l.values.items ≡ map location (take l.place-index l.places)
