-- How many waits events meet.
use Rattle.std.specs.Prelude.{ℕ, ◌+◌, List, [], ◌∷◌, Bool, true, false, bytes_eq, Some, None}
use Rattle.cdp_edge_server.specs.Heard as heard
use Rattle.cdp_edge_server.specs.Heard.{Heard}
use Rattle.cdp_client.specs.Lines.{Line}
use Rattle.cdp_client.specs.Arrivals.{ArrivedText, Reply, Event, Other, arrival_of}
use Rattle.cdp_client.specs.Talks.{Course, Talk, is_wait_for, turns}

-- one where a test holds
abbrev pub one_if : Bool → ℕ
one_if true = 1
one_if false = 0

-- how many of these lines wait for this method
abbrev pub waits_for : List ℕ → List Line → ℕ
waits_for method [] = 0
waits_for method (line ∷ lines) = one_if (is_wait_for method line) + waits_for method lines

-- what arrives is an event of this method
abbrev pub is_of : List ℕ → ArrivedText → Bool
is_of method (Reply command) = false
is_of method (Event None) = false
is_of method (Event (Some other)) = bytes_eq other method
is_of method Other = false

-- an answer of the link is one
abbrev pub is_event_of : List ℕ → Course → Heard → Bool
is_event_of method course (heard.Text text) = is_of method (arrival_of course.awaited text)
is_event_of method course heard.Binary = false
is_event_of method course heard.TooBig = false
is_event_of method course heard.Quiet = false
is_event_of method course heard.Closed = false
is_event_of method course heard.Failed = false

-- how many of these answers, heard one after another, are events of this method
abbrev pub events_of : List ℕ → Talk → List Heard → ℕ
events_of method talk [] = 0
events_of method talk (answer ∷ answers) =
    one_if (is_event_of method talk.course answer) + events_of method (turns talk answer) answers
