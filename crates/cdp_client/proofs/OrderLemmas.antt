-- Commands are sent in order, one by one.
use Rattle.std.proofs.Common.{◌≡◌, ℕ, ◌+◌, List, [], ◌∷◌, ◌++◌, drop, length, length-append, Bool, true, false, Option, Some, None, if◌then◌else◌, refl, ap, sym, ◌∙◌, append_assoc, arith}
use Rattle.std.specs.Prelude.{fold, is_some}
use Rattle.serde_json.specs.Read.{read}
use Rattle.cdp_edge_server.specs.Heard as heard
use Rattle.cdp_edge_server.specs.Heard.{Heard}
use Rattle.cdp_client.specs.Lines.{Command, Line, Send, Wait}
use Rattle.cdp_client.specs.Arrivals.{ArrivedText, Reply, Event, Other, arrival_of}
use Rattle.cdp_client.specs.Talks.{Course, Talk, after, command_first, command_text, course_heard, goes_on, hears, is_wait_for, next_command, sends, silent, start, talk_from, turns, without_wait}
use Rattle.cdp_client.specs.Numbers.{is_answered, is_reply, replies_in, texts_of}
use Rattle.cdp_client.specs.Waits.{one_if}
use Rattle.cdp_client.proofs.NumberLemmas.{IsTo, read-to}

-- ---- texts

-- a wait has no text
without-text : (method : List ℕ) (line : Line) (lines : List Line) (b : Bool) → is_wait_for method line ≡ b
    → texts_of (without_wait method lines) ≡ texts_of lines
    → texts_of (if b then lines else line ∷ without_wait method lines) ≡ texts_of (line ∷ lines)
without-text method (Send command) lines true is others = cc
without-text method (Send command) lines false is others = ap (λ t. command_text command ∷ t) others
without-text method (Wait waited) lines true is others = refl
without-text method (Wait waited) lines false is others = others

without-texts : (method : List ℕ) (lines : List Line) → texts_of (without_wait method lines) ≡ texts_of lines
without-texts method [] = refl
without-texts method (line ∷ lines) =
    without-text method line lines (is_wait_for method line) refl (without-texts method lines)

after-texts : (course : Course) (arrival : ArrivedText) → texts_of (after course arrival).lines ≡ texts_of course.lines
after-texts course (Reply command) = refl
after-texts course (Event None) = refl
after-texts course (Event (Some method)) = without-texts method course.lines
after-texts course Other = refl

heard-texts : (course : Course) (answer : Heard) → texts_of (course_heard course answer).lines ≡ texts_of course.lines
heard-texts course (heard.Text text) = after-texts course (arrival_of course.awaited text)
heard-texts course heard.Binary = refl
heard-texts course heard.TooBig = refl
heard-texts course heard.Quiet = refl
heard-texts course heard.Closed = refl
heard-texts course heard.Failed = refl

first-text : (awaited : Option Command) (lines : List Line) (command : Command)
    → command_first awaited lines ≡ Some command
    → texts_of lines ≡ command_text command ∷ texts_of (drop 1 lines)
first-text (Some asked) lines command is = cc
first-text None [] command is = cc
first-text None (Send asked ∷ lines) command is =
    let same : asked ≡ command = cc in ap (λ c. command_text c ∷ texts_of lines) same
first-text None (Wait waited ∷ lines) command is = cc

-- all texts, those that were sent and those that are left
abbrev all_texts : Talk → List (List ℕ)
all_texts talk = talk.sent ++ texts_of talk.course.lines

sent-texts : (talk : Talk) (next : Option Command) → next_command talk.course ≡ next
    → all_texts (sends talk next) ≡ all_texts talk
sent-texts talk None is = refl
sent-texts talk (Some command) is =
    append_assoc talk.sent (command_text command ∷ []) (texts_of (drop 1 talk.course.lines))
    ∙ ap (λ t. talk.sent ++ t) (sym (first-text talk.course.awaited talk.course.lines command is))

turn-texts : (talk : Talk) (answer : Heard) → all_texts (turns talk answer) ≡ all_texts talk
turn-texts talk answer =
    sent-texts (hears talk answer) (next_command (hears talk answer).course) refl
    ∙ ap (λ t. talk.sent ++ t) (heard-texts talk.course answer)

fold-texts : (talk : Talk) (answers : List Heard) → all_texts (fold turns talk answers) ≡ all_texts talk
fold-texts talk [] = refl
fold-texts talk (answer ∷ answers) = fold-texts (turns talk answer) answers ∙ turn-texts talk answer

pub in-order : (course : Course) (answers : List Heard)
    → (talk_from course answers).sent ++ texts_of (talk_from course answers).course.lines ≡ texts_of course.lines
in-order course answers =
    fold-texts (goes_on (silent course)) answers ∙ sent-texts (silent course) (next_command course) refl

-- ---- one by one

-- how many replies are awaited
abbrev awaits : Course → ℕ
awaits course = one_if (is_some course.awaited)

after-awaits : (course : Course) (arrival : ArrivedText) → IsTo course.awaited arrival
    → awaits (after course arrival) + one_if (is_reply arrival) ≡ awaits course
after-awaits course (Reply command) to = ap (λ o. one_if (is_some o)) (sym to)
after-awaits course (Event None) to = omega arith
after-awaits course (Event (Some method)) to = omega arith
after-awaits course Other to = omega arith

heard-awaits : (course : Course) (answer : Heard)
    → awaits (course_heard course answer) + one_if (is_answered course answer) ≡ awaits course
heard-awaits course (heard.Text text) =
    after-awaits course (arrival_of course.awaited text) (read-to course.awaited (read text))
heard-awaits course heard.Binary = omega arith
heard-awaits course heard.TooBig = omega arith
heard-awaits course heard.Quiet = omega arith
heard-awaits course heard.Closed = omega arith
heard-awaits course heard.Failed = omega arith

none-awaited : (awaited : Option Command) (lines : List Line) (command : Command)
    → command_first awaited lines ≡ Some command
    → one_if (is_some awaited) ≡ 0
none-awaited (Some asked) lines command is = cc
none-awaited None lines command is = refl

sent-awaits : (talk : Talk) (next : Option Command) → next_command talk.course ≡ next
    → length (sends talk next).sent + awaits talk.course ≡ length talk.sent + awaits (sends talk next).course
sent-awaits talk None is = refl
sent-awaits talk (Some command) is =
    let none = none-awaited talk.course.awaited talk.course.lines command is in
    omega (arith, length-append talk.sent (command_text command ∷ []), none)

turn-awaits : (talk : Talk) (answer : Heard)
    → length (turns talk answer).sent + awaits talk.course
    ≡ length talk.sent + one_if (is_answered talk.course answer) + awaits (turns talk answer).course
turn-awaits talk answer =
    let sent = sent-awaits (hears talk answer) (next_command (hears talk answer).course) refl in
    let answered = heard-awaits talk.course answer in
    omega (arith, sent, answered)

fold-awaits : (talk : Talk) (answers : List Heard)
    → length (fold turns talk answers).sent + awaits talk.course
    ≡ length talk.sent + replies_in talk answers + awaits (fold turns talk answers).course
fold-awaits talk [] = omega arith
fold-awaits talk (answer ∷ answers) =
    let first = turn-awaits talk answer in
    let others = fold-awaits (turns talk answer) answers in
    omega (arith, first, others)

pub one-by-one : (lines : List Line) (answers : List Heard)
    → length (talk_from (start lines) answers).sent
    ≡ replies_in (goes_on (silent (start lines))) answers + awaits (talk_from (start lines) answers).course
one-by-one lines answers =
    let first = sent-awaits (silent (start lines)) (next_command (start lines)) refl in
    let others = fold-awaits (goes_on (silent (start lines))) answers in
    omega (arith, first, others)
