-- The stops of a history of a host, by their numbers.
use Rattle.std.specs.Prelude.{ℕ, List, Bool}
use Rattle.cdp_host_isolation.specs.Histories.{Entry}
use Rattle.js_tree.specs.declared.script.Script.{Script}
use Rattle.cdp_session.specs.declared.situation.Pause.{Pause}
use Rattle.cdp_host.specs.Histories.{begin}
use Rattle.cdp_host.specs.Protocols.{protocol}
use Rattle.cdp_host_laws.specs.StopsMade as made

-- the number of a stop
abbrev pub number_of_stop : Pause → ℕ
number_of_stop pause = pause.number

-- the pauses of all stops that a history made, in order
abbrev pub stops_of : List Script → List (List ℕ) → Bool → List Entry → List Pause
stops_of scripts input wait history = made.stops_of (protocol scripts) (begin scripts input wait) history
