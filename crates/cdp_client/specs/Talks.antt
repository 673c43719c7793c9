-- Conversations: which texts are sent and which lines are written, as a fold over the answers of a link.
use Rattle.std.specs.Prelude.{ℕ, List, [], ◌∷◌, ◌++◌, drop, fold, Bool, true, false, if◌then◌else◌, codes, decimal, bytes_eq, Option, Some, None}
use Rattle.json.specs.Print.{quoted}
use Rattle.cdp_edge_server.specs.Heard as heard
use Rattle.cdp_edge_server.specs.Heard.{Heard}
use Rattle.cdp_client.specs.Lines.{Command, Line, Send, Wait}
use Rattle.cdp_client.specs.Arrivals.{ArrivedText, Reply, Event, Other, arrival_of, line_written}

-- ---- how far a conversation has come

-- the lines that are still to be done, but for the waits that are met already; the command whose reply is awaited, if
-- one is; and how many commands were answered
pub record Course : Type 0 where
  pub lines : List Line
  pub awaited : Option Command
  pub replies : ℕ

-- the beginning, with these lines to be done
abbrev pub start : List Line → Course
start lines = record { lines = lines; awaited = None; replies = 0 }

-- no reply is awaited and no line left
abbrev pub is_done : Option Command → List Line → Bool
is_done None [] = true
is_done None (line ∷ lines) = false
is_done (Some command) lines = false

-- nothing is left to be done
abbrev pub is_over : Course → Bool
is_over course = is_done course.awaited course.lines

-- ---- commands

-- the first of these lines, if it is a command and no reply is awaited
abbrev pub command_first : Option Command → List Line → Option Command
command_first (Some command) lines = None
command_first None [] = None
command_first None (Send command ∷ lines) = Some command
command_first None (Wait method ∷ lines) = None

-- the command that is to be sent now, if one is
abbrev pub next_command : Course → Option Command
next_command course = command_first course.awaited course.lines

-- the course once this command is sent, if one is
abbrev pub taken : Course → Option Command → Course
taken course None = course
taken course (Some command) = record course { lines = drop 1 course.lines; awaited = Some command }

-- the member `params`, where there are parameters
abbrev pub params_text : Option (List ℕ) → List ℕ
params_text None = []
params_text (Some object) = codes ",\"params\":" ++ object

-- the text of a command: `{"id":..,"method":..}`, with its `params` where it has parameters
abbrev pub command_text : Command → List ℕ
command_text command =
    codes "{\"id\":" ++ (decimal command.id
    ++ (codes ",\"method\":" ++ (quoted command.method ++ (params_text command.params ++ codes "}"))))

-- ---- texts that arrive

-- a line waits for this method
abbrev pub is_wait_for : List ℕ → Line → Bool
is_wait_for method (Send command) = false
is_wait_for method (Wait other) = bytes_eq other method

-- the lines without the first wait for this method
abbrev pub without_wait : List ℕ → List Line → List Line
without_wait method [] = []
without_wait method (line ∷ lines) = if is_wait_for method line then lines else line ∷ without_wait method lines

-- the course after a text that is this. A reply is to the command of the last number so far. An event meets the first
-- wait for its method that is not met, so the k-th wait is met by the k-th event.
abbrev pub after : Course → ArrivedText → Course
after course (Reply command) = record course { awaited = None; replies = command.id }
after course (Event None) = course
after course (Event (Some method)) = record course { lines = without_wait method course.lines }
after course Other = course

-- the course after an answer of the link; what is no text is passed over
abbrev pub course_heard : Course → Heard → Course
course_heard course (heard.Text text) = after course (arrival_of course.awaited text)
course_heard course heard.Binary = course
course_heard course heard.TooBig = course
course_heard course heard.Quiet = course
course_heard course heard.Closed = course
course_heard course heard.Failed = course

-- the lines that are written of an answer
abbrev pub lines_heard : Course → Heard → List (List ℕ)
lines_heard course (heard.Text text) = line_written (arrival_of course.awaited text) text ∷ []
lines_heard course heard.Binary = []
lines_heard course heard.TooBig = []
lines_heard course heard.Quiet = []
lines_heard course heard.Closed = []
lines_heard course heard.Failed = []

-- ---- the fold

-- a course with the texts that were sent and the lines that were written so far
pub record Talk : Type 0 where
  pub course : Course
  pub sent : List (List ℕ)
  pub written : List (List ℕ)

-- a talk after the sending of this command, if one is sent
abbrev pub sends : Talk → Option Command → Talk
sends talk None = talk
sends talk (Some command) = record talk {
  course = taken talk.course (Some command);
  sent = talk.sent ++ command_text command ∷ [];
}

-- a talk after the sending of the command that is to be sent now, if one is
abbrev pub goes_on : Talk → Talk
goes_on talk = sends talk (next_command talk.course)

-- a talk after an answer that was heard
abbrev pub hears : Talk → Heard → Talk
hears talk answer = record {
  course = course_heard talk.course answer;
  sent = talk.sent;
  written = talk.written ++ lines_heard talk.course answer;
}

-- an answer is heard, and the next command sent if it can be
abbrev pub turns : Talk → Heard → Talk
turns talk answer = goes_on (hears talk answer)

-- a course from which nothing was sent or written
abbrev pub silent : Course → Talk
silent course = record { course = course; sent = []; written = [] }

-- what comes of a course with these answers of the link
abbrev pub talk_from : Course → List Heard → Talk
talk_from course answers = fold turns (goes_on (silent course)) answers
