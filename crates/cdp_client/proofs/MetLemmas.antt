-- Waits are met by events.
use Rattle.std.proofs.Common.{◌≡◌, ℕ, ◌+◌, ◌-◌, List, [], ◌∷◌, drop, Bool, true, false, Option, Some, None, bytes_eq, refl, ap, ◌∙◌, arith}
use Rattle.std.specs.Prelude.{fold}
use Rattle.std.proofs.lemmas.Slice.Eq.{bytes_eq-Decides}
use Rattle.cdp_edge_server.specs.Heard as heard
use Rattle.cdp_edge_server.specs.Heard.{Heard}
use Rattle.cdp_client.specs.Lines.{Command, Line, Send, Wait}
use Rattle.cdp_client.specs.Arrivals.{ArrivedText, Reply, Event, Other, arrival_of}
use Rattle.cdp_client.specs.Talks.{Course, Talk, after, command_first, course_heard, goes_on, hears, is_wait_for, next_command, sends, silent, talk_from, turns, without_wait}
use Rattle.cdp_client.specs.Waits.{events_of, is_event_of, is_of, one_if, waits_for}

-- ---- a wait that is taken out

without-same : (method : List ℕ) (line : Line) (lines : List Line) (b : Bool) → is_wait_for method line ≡ b
    → waits_for method (without_wait method lines) ≡ waits_for method lines - 1
    → waits_for method (without_wait method (line ∷ lines)) ≡ waits_for method (line ∷ lines) - 1
without-same method line lines true is others = rw is (omega arith)
without-same method line lines false is others =
    let zero : one_if (is_wait_for method line) ≡ 0 = ap one_if is in rw is (omega (arith, others, zero))

one-less : (method : List ℕ) (lines : List Line)
    → waits_for method (without_wait method lines) ≡ waits_for method lines - 1
one-less method [] = refl
one-less method (line ∷ lines) =
    without-same method line lines (is_wait_for method line) refl (one-less method lines)

-- a wait for one method is none for another
not-both : (method other : List ℕ) (line : Line) → bytes_eq other method ≡ false → is_wait_for other line ≡ true
    → is_wait_for method line ≡ false
not-both method other (Send command) differ is = refl
not-both method other (Wait waited) differ is =
    ap (λ w. bytes_eq w method) ((bytes_eq-Decides waited other).0 is) ∙ differ

without-other : (method other : List ℕ) (line : Line) (lines : List Line) (b : Bool) → bytes_eq other method ≡ false
    → is_wait_for other line ≡ b
    → waits_for method (without_wait other lines) ≡ waits_for method lines
    → waits_for method (without_wait other (line ∷ lines)) ≡ waits_for method (line ∷ lines)
without-other method other line lines true differ is others =
    rw (is, not-both method other line differ is) (omega arith)
without-other method other line lines false differ is others =
    rw is (ap (λ n. one_if (is_wait_for method line) + n) others)

as-many : (method other : List ℕ) (lines : List Line) → bytes_eq other method ≡ false
    → waits_for method (without_wait other lines) ≡ waits_for method lines
as-many method other [] differ = refl
as-many method other (line ∷ lines) differ =
    without-other method other line lines (is_wait_for other line) differ refl (as-many method other lines differ)

by-event : (method other : List ℕ) (lines : List Line) (b : Bool) → bytes_eq other method ≡ b
    → waits_for method (without_wait other lines) ≡ waits_for method lines - one_if b
by-event method other lines true is =
    ap (λ w. waits_for method (without_wait w lines)) ((bytes_eq-Decides other method).0 is) ∙ one-less method lines
by-event method other lines false is = as-many method other lines is ∙ omega arith

-- ---- an answer

met-arrival : (method : List ℕ) (course : Course) (arrival : ArrivedText)
    → waits_for method (after course arrival).lines ≡ waits_for method course.lines - one_if (is_of method arrival)
met-arrival method course (Reply command) = omega arith
met-arrival method course (Event None) = omega arith
met-arrival method course (Event (Some other)) =
    by-event method other course.lines (bytes_eq other method) refl
met-arrival method course Other = omega arith

met-answer : (method : List ℕ) (course : Course) (answer : Heard)
    → waits_for method (course_heard course answer).lines
    ≡ waits_for method course.lines - one_if (is_event_of method course answer)
met-answer method course (heard.Text text) = met-arrival method course (arrival_of course.awaited text)
met-answer method course heard.Binary = omega arith
met-answer method course heard.TooBig = omega arith
met-answer method course heard.Quiet = omega arith
met-answer method course heard.Closed = omega arith
met-answer method course heard.Failed = omega arith

-- ---- a command

dropped : (method : List ℕ) (awaited : Option Command) (lines : List Line) (command : Command)
    → command_first awaited lines ≡ Some command
    → waits_for method (drop 1 lines) ≡ waits_for method lines
dropped method (Some asked) lines command is = cc
dropped method None [] command is = cc
dropped method None (Send asked ∷ lines) command is = omega arith
dropped method None (Wait waited ∷ lines) command is = cc

met-sent : (method : List ℕ) (talk : Talk) (next : Option Command) → next_command talk.course ≡ next
    → waits_for method (sends talk next).course.lines ≡ waits_for method talk.course.lines
met-sent method talk None is = refl
met-sent method talk (Some command) is = dropped method talk.course.awaited talk.course.lines command is

met-on : (method : List ℕ) (talk : Talk)
    → waits_for method (goes_on talk).course.lines ≡ waits_for method talk.course.lines
met-on method talk = met-sent method talk (next_command talk.course) refl

-- ---- all answers

met-fold : (method : List ℕ) (talk : Talk) (answers : List Heard)
    → waits_for method (fold turns talk answers).course.lines
    ≡ waits_for method talk.course.lines - events_of method talk answers
met-fold method talk [] = omega arith
met-fold method talk (answer ∷ answers) =
    let first : waits_for method (turns talk answer).course.lines
    ≡ waits_for method talk.course.lines - one_if (is_event_of method talk.course answer) =
    met-on method (hears talk answer) ∙ met-answer method talk.course answer in
    let others = met-fold method (turns talk answer) answers in
    others ∙ ap (λ n. n - events_of method (turns talk answer) answers) first ∙ omega arith

pub met-from : (method : List ℕ) (course : Course) (answers : List Heard)
    → waits_for method (talk_from course answers).course.lines
    ≡ waits_for method course.lines - events_of method (goes_on (silent course)) answers
met-from method course answers =
    met-fold method (goes_on (silent course)) answers
    ∙ ap (λ n. n - events_of method (goes_on (silent course)) answers) (met-on method (silent course))
