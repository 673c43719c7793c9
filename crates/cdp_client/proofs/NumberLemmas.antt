-- Commands are numbered, and replies counted.
use Rattle.std.proofs.Common.{◌≡◌, ℕ, ◌+◌, List, [], ◌∷◌, drop, Bool, true, false, ◌&&◌, Option, Some, None, Result, Ok, Err, if◌then◌else◌, codes, refl, ap, sym, subst, ◌∙◌, arith}
use Rattle.std.specs.Prelude.{fold, is_some}
use Rattle.std.specs.Str.{is_utf8}
use Rattle.serde_json.specs.Data.{Data}
use Rattle.serde_json.specs.Find.{get}
use Rattle.serde_json.specs.Read.{read}
use Rattle.cdp_edge_server.specs.Heard as heard
use Rattle.cdp_edge_server.specs.Heard.{Heard}
use Rattle.cdp_text.specs.Parts.{Halves, behind, halves}
use Rattle.cdp_client.specs.Lines.{Command, Line, Send, Wait, command_from, is_method, is_object, led_by, line_from, line_of, line_of_text, next_id, read_from}
use Rattle.cdp_client.specs.Arrivals.{ArrivedText, Reply, Event, Other, arrival_of, event_of, has_id, read_arrival, unasked, value_arrival}
use Rattle.cdp_client.specs.Talks.{Course, Talk, after, command_first, course_heard, goes_on, hears, is_wait_for, next_command, sends, silent, start, talk_from, turns, without_wait}
use Rattle.cdp_client.specs.Numbers.{AreNumbered, is_answered, is_reply, replies_in}
use Rattle.cdp_client.specs.Waits.{one_if}

-- ---- lines of a file

-- a command has this number
abbrev HasId : ℕ → Option Line → Type 0
HasId id None = Unit {0}
HasId id (Some (Send command)) = command.id ≡ id
HasId id (Some (Wait method)) = Unit {0}

choice : (id : ℕ) (b : Bool) (o : Option Line) → HasId id o → HasId id (if b then o else None)
choice id true o has = has
choice id false o has = tt

command-id : (id : ℕ) (text : List ℕ) (parts : Option Halves) → HasId id (command_from id text parts)
command-id id text None = choice id (is_method text) (Some (Send record { id = id; method = text; params = None })) refl
command-id id text (Some parts) =
    choice id (is_method parts.front && is_object parts.back)
    (Some (Send record { id = id; method = parts.front; params = Some parts.back })) refl

from-id : (id : ℕ) (text : List ℕ) (rest : Option (List ℕ)) → HasId id (line_from id text rest)
from-id id text None = command-id id text (halves 32 text)
from-id id text (Some method) = choice id (is_method method) (Some (Wait method)) tt

line-id : (id : ℕ) (bytes : List ℕ) → HasId id (line_of id bytes)
line-id id bytes =
    choice id (is_utf8 bytes) (line_of_text id bytes) (from-id id bytes (behind (codes "wait ") bytes))

led-numbered : (id number : ℕ) (first : Option Line) (rest : Result (List Line) ℕ) (lines : List Line) → HasId id first
    → ((others : List Line) → rest ≡ Ok others → AreNumbered (next_id id first) others)
    → led_by first number rest ≡ Ok lines
    → AreNumbered id lines
led-numbered id number None rest lines has others is = cc
led-numbered id number (Some line) (Err refused) lines has others is = cc
led-numbered id number (Some (Send command)) (Ok rest) lines has others is =
    let all : Send command ∷ rest ≡ lines = cc in
    subst (AreNumbered id) all (has, others rest refl)
led-numbered id number (Some (Wait method)) (Ok rest) lines has others is =
    let all : Wait method ∷ rest ≡ lines = cc in subst (AreNumbered id) all (others rest refl)

pub numbered-from : (number id : ℕ) (texts : List (List ℕ)) (lines : List Line) → read_from number id texts ≡ Ok lines
    → AreNumbered id lines
numbered-from number id [] lines is =
    let none : [] ≡ lines = cc in subst (AreNumbered id) none tt
numbered-from number id (text ∷ texts) lines is =
    led-numbered id number (line_of id text) (read_from (number + 1) (next_id id (line_of id text)) texts) lines
    (line-id id text) (λ others rest. numbered-from (number + 1) (next_id id (line_of id text)) texts others rest) is

-- ---- courses

-- the command that is awaited has the number behind those that were answered, and those that are left go on from there
abbrev IsNumbered : Option Command → ℕ → List Line → Type 0
IsNumbered None replies lines = AreNumbered (replies + 1) lines
IsNumbered (Some command) replies lines = (command.id ≡ replies + 1) × AreNumbered (replies + 1 + 1) lines

abbrev IsInOrder : Course → Type 0
IsInOrder course = IsNumbered course.awaited course.replies course.lines

-- a wait that goes
without-line : (id : ℕ) (method : List ℕ) (line : Line) (lines : List Line) (b : Bool) → is_wait_for method line ≡ b
    → ((n : ℕ) → AreNumbered n lines → AreNumbered n (without_wait method lines))
    → AreNumbered id (line ∷ lines)
    → AreNumbered id (if b then lines else line ∷ without_wait method lines)
without-line id method (Send command) lines true is others are = cc
without-line id method (Send command) lines false is others are = (are.0, others (id + 1) are.1)
without-line id method (Wait waited) lines true is others are = are
without-line id method (Wait waited) lines false is others are = others id are

without-numbered : (id : ℕ) (method : List ℕ) (lines : List Line) → AreNumbered id lines
    → AreNumbered id (without_wait method lines)
without-numbered id method [] are = tt
without-numbered id method (line ∷ lines) are =
    without-line id method line lines (is_wait_for method line) refl
    (λ n others. without-numbered n method lines others) are

without-order : (awaited : Option Command) (replies : ℕ) (method : List ℕ) (lines : List Line)
    → IsNumbered awaited replies lines
    → IsNumbered awaited replies (without_wait method lines)
without-order None replies method lines are = without-numbered (replies + 1) method lines are
without-order (Some command) replies method lines are =
    (are.0, without-numbered (replies + 1 + 1) method lines are.1)

-- ---- arrivals

-- a reply is to the command that is awaited
abbrev pub IsTo : Option Command → ArrivedText → Type 0
IsTo awaited (Reply command) = awaited ≡ Some command
IsTo awaited (Event method) = Unit {0}
IsTo awaited Other = Unit {0}

event-to : (awaited : Option Command) (method : Option Data) → IsTo awaited (event_of method)
event-to awaited None = tt
event-to awaited (Some method) = tt

unasked-by : (awaited : Option Command) (b : Bool) (method : Option Data)
    → IsTo awaited (if b then Other else event_of method)
unasked-by awaited true method = tt
unasked-by awaited false method = event-to awaited method

asked-by : (command : Command) (b : Bool) (unasked_for : ArrivedText) → IsTo (Some command) unasked_for
    → IsTo (Some command) (if b then Reply command else unasked_for)
asked-by command true unasked_for to = refl
asked-by command false unasked_for to = to

value-to : (awaited : Option Command) (value : Data) → IsTo awaited (value_arrival awaited value)
value-to None value =
    unasked-by None (is_some (get (codes "id") value)) (get (codes "method") value)
value-to (Some command) value =
    asked-by command (has_id command.id value) (unasked value)
    (unasked-by (Some command) (is_some (get (codes "id") value)) (get (codes "method") value))

pub read-to : (awaited : Option Command) (value : Option Data) → IsTo awaited (read_arrival awaited value)
read-to awaited None = tt
read-to awaited (Some value) = value-to awaited value

-- ---- one step of a talk

after-order : (course : Course) (arrival : ArrivedText) → IsTo course.awaited arrival → IsInOrder course
    → IsInOrder (after course arrival) × ((after course arrival).replies ≡ course.replies + one_if (is_reply arrival))
after-order course (Reply command) to order =
    let asked = subst (λ (o : Option Command). IsNumbered o course.replies course.lines) to order in (
      subst (λ (n : ℕ). AreNumbered (n + 1) course.lines) (sym asked.0) asked.1,
      asked.0,
    )
after-order course (Event None) to order = (order, omega arith)
after-order course (Event (Some method)) to order =
    (without-order course.awaited course.replies method course.lines order, omega arith)
after-order course Other to order = (order, omega arith)

heard-order : (course : Course) (answer : Heard) → IsInOrder course
    → IsInOrder (course_heard course answer)
    × ((course_heard course answer).replies ≡ course.replies + one_if (is_answered course answer))
heard-order course (heard.Text text) order =
    after-order course (arrival_of course.awaited text) (read-to course.awaited (read text)) order
heard-order course heard.Binary order = (order, omega arith)
heard-order course heard.TooBig order = (order, omega arith)
heard-order course heard.Quiet order = (order, omega arith)
heard-order course heard.Closed order = (order, omega arith)
heard-order course heard.Failed order = (order, omega arith)

first-order : (awaited : Option Command) (replies : ℕ) (lines : List Line) (command : Command)
    → command_first awaited lines ≡ Some command
    → IsNumbered awaited replies lines
    → IsNumbered (Some command) replies (drop 1 lines)
first-order (Some asked) replies lines command is order = cc
first-order None replies [] command is order = cc
first-order None replies (Send asked ∷ lines) command is order =
    let same : asked ≡ command = cc in
    (ap (λ c. c.id) (sym same) ∙ order.0, order.1)
first-order None replies (Wait waited ∷ lines) command is order = cc

sent-order : (talk : Talk) (next : Option Command) → next_command talk.course ≡ next → IsInOrder talk.course
    → IsInOrder (sends talk next).course × ((sends talk next).course.replies ≡ talk.course.replies)
sent-order talk None is order = (order, refl)
sent-order talk (Some command) is order =
    (first-order talk.course.awaited talk.course.replies talk.course.lines command is order, refl)

on-order : (talk : Talk) → IsInOrder talk.course
    → IsInOrder (goes_on talk).course × ((goes_on talk).course.replies ≡ talk.course.replies)
on-order talk order = sent-order talk (next_command talk.course) refl order

-- ---- all answers

fold-counted : (talk : Talk) (answers : List Heard) → IsInOrder talk.course
    → (fold turns talk answers).course.replies ≡ talk.course.replies + replies_in talk answers
fold-counted talk [] order = omega arith
fold-counted talk (answer ∷ answers) order =
    let first = heard-order talk.course answer order in
    let next = on-order (hears talk answer) first.0 in
    let others = fold-counted (turns talk answer) answers next.0 in
    others ∙ ap (λ n. n + replies_in (turns talk answer) answers) (next.1 ∙ first.1) ∙ omega arith

pub counted-from : (lines : List Line) (answers : List Heard) → AreNumbered 1 lines
    → (talk_from (start lines) answers).course.replies ≡ replies_in (goes_on (silent (start lines))) answers
counted-from lines answers are =
    let first = on-order (silent (start lines)) are in
    fold-counted (goes_on (silent (start lines))) answers first.0
    ∙ ap (λ n. n + replies_in (goes_on (silent (start lines))) answers) first.1
    ∙ omega arith
