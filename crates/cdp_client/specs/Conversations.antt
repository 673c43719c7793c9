-- What a conversation comes to at each end: for the answers that the link gave, the texts that it was sent and the
-- bytes that the sink took.
use Rattle.std.specs.Prelude.{◌≡◌, ◌⊎◌, ℕ, List, [], ◌∷◌, ◌++◌, true, false, Option, Some, None, Ok, Err}
use Rattle.cdp_edge.specs.Outside.{Rose, gains, GainsLess, GainsPrefix}
use Rattle.cdp_text.specs.Lines.{ended}
use Rattle.cdp_edge_server.specs.Contents.{adds, becomes}
use Rattle.cdp_edge_server.specs.Heard as heard
use Rattle.cdp_edge_server.specs.Heard.{Heard}
use Rattle.cdp_client.specs.Lines.{Command, Line, file_read}
use Rattle.cdp_client.specs.Talks.{Course, Talk, command_text, course_heard, goes_on, is_over, lines_heard, next_command, silent, start, taken, talk_from, turns}
use Rattle.cdp_client.specs.declared.conversed.Conversed.{Conversed}
use Rattle.cdp_client.specs.declared.conversed.Conversed.TheVariants as ends

-- ---- what link and sink tell

-- the answers of the link, the texts that it was sent, and the bytes that the sink took
pub record Traffic : Type 0 where
  pub answers : Option (List Heard)
  pub sent : Option (List (List ℕ))
  pub written : List ℕ

-- these answers, texts and lines more
abbrev pub passes : Traffic → List Heard → List (List ℕ) → List (List ℕ) → Traffic
passes old answers texts lines = record {
  answers = adds old.answers answers;
  sent = adds old.sent texts;
  written = gains old.written (ended lines);
}

-- ---- which answers belong to a conversation

-- an answer after which a conversation goes on
abbrev pub GoesOn : Heard → Type 0
GoesOn (heard.Text text) = Unit {0}
GoesOn heard.Binary = Unit {0}
GoesOn heard.TooBig = Unit {0}
GoesOn heard.Quiet = Unit {0}
GoesOn heard.Closed = ⊥
GoesOn heard.Failed = ⊥

-- each answer was heard where something was left to be done, and the conversation went on after it
abbrev pub AreHeard : Talk → List Heard → Type 0
AreHeard talk [] = Unit {0}
AreHeard talk (answer ∷ answers) =
    (is_over talk.course ≡ false) × GoesOn answer × AreHeard (turns talk answer) answers

-- these answers were heard from the beginning of a course on
abbrev pub HasHeard : Course → List Heard → Type 0
HasHeard course answers = AreHeard (goes_on (silent course)) answers

-- ---- the ends

-- these answers were given, and just what comes of those was sent and written
abbrev pub HasPassed : Course → List Heard → List Heard → Traffic → Traffic → Type 0
HasPassed course answers given old new =
    new ≡ passes old given (talk_from course answers).sent (talk_from course answers).written

-- these come first in those
abbrev pub Begins : List (List ℕ) → List (List ℕ) → Type 0
Begins front all = (rest : List (List ℕ)) × (all ≡ front ++ rest)

-- a conversation was cut off where the last of these answers was heard: all of them were given, and a first part of the
-- talk's texts was sent
abbrev pub IsCutOff : Course → List Heard → Traffic → Traffic → Type 0
IsCutOff course answers old new =
    HasHeard course answers
    × (new.answers ≡ adds old.answers answers)
    × ((sent : List (List ℕ)) × Begins sent (talk_from course answers).sent × (new.sent ≡ adds old.sent sent))

-- what a conversation came to from a course on, by its end
abbrev pub EndsTalk : Course → Conversed → Traffic → Traffic → Type 0
EndsTalk course ends.Done old new =
    (answers : List Heard) × HasHeard course answers
    × (is_over (talk_from course answers).course ≡ true)
    × HasPassed course answers answers old new
EndsTalk course (ends.Refused line) old new = ⊥
EndsTalk course (ends.PeerClosed replies) old new =
    (answers : List Heard) × HasHeard course answers
    × (is_over (talk_from course answers).course ≡ false)
    × (replies ≡ (talk_from course answers).course.replies)
    × HasPassed course answers (answers ++ heard.Closed ∷ []) old new
EndsTalk course ends.LinkFault old new =
    ((answers : List Heard) × HasHeard course answers
    × (is_over (talk_from course answers).course ≡ false)
    × HasPassed course answers (answers ++ heard.Failed ∷ []) old new)
    ⊎ ((answers : List Heard) × IsCutOff course answers old new
    × (new.written ≡ gains old.written (ended (talk_from course answers).written)))
EndsTalk course ends.WriteFault old new =
    (answers : List Heard) × IsCutOff course answers old new
    × GainsLess old.written new.written (ended (talk_from course answers).written)
EndsTalk course ends.Memory old new =
    (answers : List Heard) × IsCutOff course answers old new
    × GainsPrefix old.written new.written (ended (talk_from course answers).written)

-- a file is read, and what a conversation over its lines came to
abbrev pub Ends : List ℕ → Conversed → Traffic → Traffic → Type 0
Ends file end old new = (lines : List Line) × (file_read file ≡ Ok lines) × EndsTalk (start lines) end old new

-- what a conversation by a file came to: a line that isn't of its form is refused before anything is done
abbrev pub Converses : List ℕ → Conversed → Traffic → Traffic → Type 0
Converses file ends.Done old new = Ends file ends.Done old new
Converses file (ends.Refused line) old new = (file_read file ≡ Err line) × (new ≡ old)
Converses file (ends.PeerClosed replies) old new = Ends file (ends.PeerClosed replies) old new
Converses file ends.LinkFault old new = Ends file ends.LinkFault old new
Converses file ends.WriteFault old new = Ends file ends.WriteFault old new
Converses file ends.Memory old new = (new ≡ old) ⊎ Ends file ends.Memory old new

-- a file isn't read: the line of this number isn't of its form, or there is no memory
abbrev pub IsUnread : List ℕ → Conversed → Type 0
IsUnread file ends.Done = ⊥
IsUnread file (ends.Refused line) = file_read file ≡ Err line
IsUnread file (ends.PeerClosed replies) = ⊥
IsUnread file ends.LinkFault = ⊥
IsUnread file ends.WriteFault = ⊥
IsUnread file ends.Memory = Unit {0}

-- ---- closes and counts

-- the link was closed with 1000 where all is done, and at no other end
abbrev pub IsClosedBy : Option Conversed → Option (Option ℕ) → Option (Option ℕ) → Type 0
IsClosedBy None old new = new ≡ old
IsClosedBy (Some ends.Done) old new = new ≡ becomes old (Some 1000)
IsClosedBy (Some (ends.Refused line)) old new = new ≡ old
IsClosedBy (Some (ends.PeerClosed replies)) old new = new ≡ old
IsClosedBy (Some ends.LinkFault) old new = new ≡ old
IsClosedBy (Some ends.WriteFault) old new = new ≡ old
IsClosedBy (Some ends.Memory) old new = new ≡ old

-- the count of the link's faults rose at its fault, and is as it was at every other end
abbrev pub CountsLink : Option Conversed → ℕ → ℕ → Type 0
CountsLink None old new = new ≡ old
CountsLink (Some ends.Done) old new = new ≡ old
CountsLink (Some (ends.Refused line)) old new = new ≡ old
CountsLink (Some (ends.PeerClosed replies)) old new = new ≡ old
CountsLink (Some ends.LinkFault) old new = Rose old new
CountsLink (Some ends.WriteFault) old new = new ≡ old
CountsLink (Some ends.Memory) old new = new ≡ old

-- the count of the sink's faults rose where a write failed, and is as it was at every other end
abbrev pub CountsSink : Option Conversed → ℕ → ℕ → Type 0
CountsSink None old new = new ≡ old
CountsSink (Some ends.Done) old new = new ≡ old
CountsSink (Some (ends.Refused line)) old new = new ≡ old
CountsSink (Some (ends.PeerClosed replies)) old new = new ≡ old
CountsSink (Some ends.LinkFault) old new = new ≡ old
CountsSink (Some ends.WriteFault) old new = Rose old new
CountsSink (Some ends.Memory) old new = new ≡ old

-- ---- parts of it

-- a command was sent, or nothing was
abbrev pub Sends : Command → Option (List (List ℕ)) → Option (List (List ℕ)) → Option Conversed → Type 0
Sends command old new None = new ≡ adds old (command_text command ∷ [])
Sends command old new (Some ends.Done) = ⊥
Sends command old new (Some (ends.Refused line)) = ⊥
Sends command old new (Some (ends.PeerClosed replies)) = ⊥
Sends command old new (Some ends.LinkFault) = new ≡ old
Sends command old new (Some ends.WriteFault) = ⊥
Sends command old new (Some ends.Memory) = new ≡ old

-- an end at which the link failed, or for want of memory
abbrev pub IsCut : Conversed → Type 0
IsCut ends.Done = ⊥
IsCut (ends.Refused line) = ⊥
IsCut (ends.PeerClosed replies) = ⊥
IsCut ends.LinkFault = Unit {0}
IsCut ends.WriteFault = ⊥
IsCut ends.Memory = Unit {0}

-- an end at which all is done, or at which the close failed
abbrev pub Closes : Conversed → Type 0
Closes ends.Done = Unit {0}
Closes (ends.Refused line) = ⊥
Closes (ends.PeerClosed replies) = ⊥
Closes ends.LinkFault = Unit {0}
Closes ends.WriteFault = ⊥
Closes ends.Memory = Unit {0}

-- the lines of an answer were written and the course went on, or a first part of them was written
abbrev pub Writes : Course → Heard → Course → List ℕ → List ℕ → Option Conversed → Type 0
Writes course answer left old new None =
    (left ≡ course_heard course answer) × (new ≡ gains old (ended (lines_heard course answer)))
Writes course answer left old new (Some ends.Done) = ⊥
Writes course answer left old new (Some (ends.Refused line)) = ⊥
Writes course answer left old new (Some (ends.PeerClosed replies)) = ⊥
Writes course answer left old new (Some ends.LinkFault) = ⊥
Writes course answer left old new (Some ends.WriteFault) = GainsLess old new (ended (lines_heard course answer))
Writes course answer left old new (Some ends.Memory) = GainsPrefix old new (ended (lines_heard course answer))

-- an answer after which a conversation goes on was heard, and these bytes written of it
abbrev pub IsHeardWith : (List ℕ → List ℕ → List ℕ → Type 0) → Course → Traffic → Traffic → Type 0
IsHeardWith Gains course old new =
    (answer : Heard) × GoesOn answer × (new.answers ≡ adds old.answers (answer ∷ [])) × (new.sent ≡ old.sent)
    × Gains old.written new.written (ended (lines_heard course answer))

-- an answer of the link was heard: the conversation goes on, or ends
abbrev pub Hears : Course → Course → Traffic → Traffic → Option Conversed → Type 0
Hears course left old new None =
    (answer : Heard) × GoesOn answer × (left ≡ course_heard course answer)
    × (new ≡ passes old (answer ∷ []) [] (lines_heard course answer))
Hears course left old new (Some ends.Done) = ⊥
Hears course left old new (Some (ends.Refused line)) = ⊥
Hears course left old new (Some (ends.PeerClosed replies)) =
    (replies ≡ course.replies) × (new ≡ passes old (heard.Closed ∷ []) [] [])
Hears course left old new (Some ends.LinkFault) = new ≡ passes old (heard.Failed ∷ []) [] []
Hears course left old new (Some ends.WriteFault) = IsHeardWith GainsLess course old new
Hears course left old new (Some ends.Memory) = (new ≡ old) ⊎ IsHeardWith GainsPrefix course old new

-- a turn before which this command is to be sent, if one is: it is sent, or an answer heard, or the conversation ends
abbrev pub TurnsBy : Option Command → Course → Course → Traffic → Traffic → Option Conversed → Type 0
TurnsBy (Some command) course left old new None =
    (left ≡ taken course (Some command)) × (new ≡ passes old [] (command_text command ∷ []) [])
TurnsBy (Some command) course left old new (Some end) = IsCut end × (new ≡ old)
TurnsBy None course left old new None = (is_over course ≡ false) × Hears course left old new None
TurnsBy None course left old new (Some end) =
    ((is_over course ≡ true) × Closes end × (new ≡ old))
    ⊎ ((is_over course ≡ false) × Hears course left old new (Some end))

-- what a turn does
abbrev pub Turns : Course → Course → Traffic → Traffic → Option Conversed → Type 0
Turns course left old new result = TurnsBy (next_command course) course left old new result
