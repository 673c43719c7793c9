-- Commands are numbered and sent in order, and replies counted.
use Rattle.std.specs.Prelude.{◌≡◌, ℕ, ◌+◌, List, [], ◌∷◌, Bool, true, false}
use Rattle.cdp_edge_server.specs.Heard as heard
use Rattle.cdp_edge_server.specs.Heard.{Heard}
use Rattle.cdp_client.specs.Lines.{Line, Send, Wait}
use Rattle.cdp_client.specs.Arrivals.{ArrivedText, Reply, Event, Other, arrival_of}
use Rattle.cdp_client.specs.Talks.{Course, Talk, command_text, turns}
use Rattle.cdp_client.specs.Waits.{one_if}

-- the commands of these lines are numbered one after another from this number on
abbrev pub AreNumbered : ℕ → List Line → Type 0
AreNumbered id [] = Unit {0}
AreNumbered id (Send command ∷ lines) = (command.id ≡ id) × AreNumbered (id + 1) lines
AreNumbered id (Wait method ∷ lines) = AreNumbered id lines

-- what arrives is the reply that is awaited
abbrev pub is_reply : ArrivedText → Bool
is_reply (Reply command) = true
is_reply (Event method) = false
is_reply Other = false

-- an answer of the link is one
abbrev pub is_answered : Course → Heard → Bool
is_answered course (heard.Text text) = is_reply (arrival_of course.awaited text)
is_answered course heard.Binary = false
is_answered course heard.TooBig = false
is_answered course heard.Quiet = false
is_answered course heard.Closed = false
is_answered course heard.Failed = false

-- how many of these answers, heard one after another, are awaited replies
abbrev pub replies_in : Talk → List Heard → ℕ
replies_in talk [] = 0
replies_in talk (answer ∷ answers) = one_if (is_answered talk.course answer) + replies_in (turns talk answer) answers

-- the texts of the commands of these lines, in order
abbrev pub texts_of : List Line → List (List ℕ)
texts_of [] = []
texts_of (Send command ∷ lines) = command_text command ∷ texts_of lines
texts_of (Wait method ∷ lines) = texts_of lines
