-- A conversation goes on, and what comes of it is a talk.
use Rattle.std.proofs.Common.{◌≡◌, List, [], ◌∷◌, ◌++◌, false, Option, Some, None, refl, ap, sym, ◌∙◌, append-nil}
use Rattle.std.specs.Prelude.{fold}
use Rattle.std.proofs.lemmas.List.Sums.{fold-append}
use Rattle.cdp_edge_server.specs.Heard.{Heard}
use Rattle.cdp_client.specs.Lines.{Command}
use Rattle.cdp_client.specs.Talks.{Course, Talk, command_text, course_heard, goes_on, hears, is_over, lines_heard, next_command, sends, silent, taken, talk_from, turns}
use Rattle.cdp_client.specs.Conversations.{AreHeard, Begins, GoesOn, HasHeard, Traffic, passes}
use Rattle.cdp_client.proofs.TrafficLemmas.{passes-none, passes-on}

-- ---- the next command

-- once the next command is sent, there is none to be sent
sent-again : (talk : Talk) (next : Option Command) → next_command talk.course ≡ next
    → goes_on (sends talk next) ≡ sends talk next
sent-again talk None is = ap (λ o. sends talk o) is
sent-again talk (Some command) is = refl

pub goes_on-again : (talk : Talk) → goes_on (goes_on talk) ≡ goes_on talk
goes_on-again talk = sent-again talk (next_command talk.course) refl

-- a command that is sent changes no line that was written, and goes after the texts that were sent
pub sends-written : (talk : Talk) (next : Option Command) → (sends talk next).written ≡ talk.written
sends-written talk None = refl
sends-written talk (Some command) = refl

pub sends-begins : (talk : Talk) (next : Option Command) → Begins talk.sent (sends talk next).sent
sends-begins talk None = ([], sym (append-nil talk.sent))
sends-begins talk (Some command) = (command_text command ∷ [], refl)

-- ---- answers

-- one answer more
pub heard-more : (talk : Talk) (answers : List Heard) (answer : Heard) → AreHeard talk answers
    → is_over (fold turns talk answers).course ≡ false
    → GoesOn answer
    → AreHeard talk (answers ++ answer ∷ [])
heard-more talk [] answer are left goes = (left, goes, tt)
heard-more talk (first ∷ answers) answer are left goes =
    (are.0, are.1, heard-more (turns talk first) answers answer are.2 left goes)

pub talk-more : (first : Course) (answers : List Heard) (answer : Heard)
    → talk_from first (answers ++ answer ∷ []) ≡ turns (talk_from first answers) answer
talk-more first answers answer = fold-append turns (goes_on (silent first)) answers (answer ∷ [])

-- ---- how far a conversation has come

-- From a course on these answers were heard. What was sent and written is the talk's, perhaps but for its last text.
pub record HasCome (first : Course) (old : Traffic) (course : Course) (now : Traffic) : Type 0 where
  pub answers : List Heard
  pub talk : Talk
  pub are : HasHeard first answers
  pub whole : goes_on talk ≡ talk_from first answers
  pub stands : talk.course ≡ course
  pub passed : now ≡ passes old answers talk.sent talk.written

-- the same where there is no command to be sent
pub record HasStopped (first : Course) (old : Traffic) (course : Course) (now : Traffic) : Type 0 where
  pub answers : List Heard
  pub are : HasHeard first answers
  pub stands : (talk_from first answers).course ≡ course
  pub passed : now ≡ passes old answers (talk_from first answers).sent (talk_from first answers).written

pub come-none : (first : Course) (old : Traffic) → HasCome first old first old
come-none first old = record {
  answers = [];
  talk = silent first;
  are = tt;
  whole = refl;
  stands = refl;
  passed = passes-none old;
}

pub stopped : (first : Course) (old : Traffic) (course : Course) (now : Traffic) → HasCome first old course now
    → next_command course ≡ None
    → HasStopped first old course now
stopped first old course now come none =
    let none_next : next_command come.talk.course ≡ None = ap next_command come.stands ∙ none in
    let is : come.talk ≡ talk_from first come.answers = sym (ap (λ o. sends come.talk o) none_next) ∙ come.whole in
    record {
      answers = come.answers;
      are = come.are;
      stands = ap (λ t. t.course) (sym is) ∙ come.stands;
      passed = come.passed ∙ ap (λ t. passes old come.answers t.sent t.written) is;
    }

-- a command was sent
pub come-sent : (first : Course) (old : Traffic) (course : Course) (mid : Traffic) (left : Course) (new : Traffic)
    (command : Command) → HasCome first old course mid
    → next_command course ≡ Some command
    → left ≡ taken course (Some command)
    → new ≡ passes mid [] (command_text command ∷ []) []
    → HasCome first old left new
come-sent first old course mid left new command come next left_is sent =
    let text = command_text command in
    let next_is : next_command come.talk.course ≡ Some command = ap next_command come.stands ∙ next in
    let is : goes_on come.talk ≡ sends come.talk (Some command) = ap (λ o. sends come.talk o) next_is in
    record {
      answers = come.answers;
      talk = goes_on come.talk;
      are = come.are;
      whole = goes_on-again come.talk ∙ come.whole;
      stands = ap (λ t. t.course) is ∙ ap (λ c. taken c (Some command)) come.stands ∙ sym left_is;
      passed =
          sent
          ∙ ap (λ t. passes t [] (text ∷ []) []) come.passed
          ∙ passes-on old come.answers [] come.talk.sent (text ∷ []) come.talk.written []
          ∙ (λ i. passes old (append-nil come.answers i) (come.talk.sent ++ text ∷ []) (append-nil come.talk.written i))
          ∙ ap (λ t. passes old come.answers t.sent t.written) (sym is);
    }

-- an answer was heard
pub come-heard : (first : Course) (old : Traffic) (course : Course) (mid : Traffic) (left : Course) (new : Traffic)
    (answer : Heard) → HasCome first old course mid
    → next_command course ≡ None
    → is_over course ≡ false
    → GoesOn answer
    → left ≡ course_heard course answer
    → new ≡ passes mid (answer ∷ []) [] (lines_heard course answer)
    → HasCome first old left new
come-heard first old course mid left new answer come none left_open goes left_is heard =
    let at_rest = stopped first old course mid come none in
    let so_far = talk_from first at_rest.answers in
    record {
      answers = at_rest.answers ++ answer ∷ [];
      talk = hears so_far answer;
      are =
          heard-more (goes_on (silent first)) at_rest.answers answer at_rest.are
          (ap is_over at_rest.stands ∙ left_open) goes;
      whole = sym (talk-more first at_rest.answers answer);
      stands = ap (λ c. course_heard c answer) at_rest.stands ∙ sym left_is;
      passed =
          heard
          ∙ ap (λ t. passes t (answer ∷ []) [] (lines_heard course answer)) at_rest.passed
          ∙ passes-on old at_rest.answers (answer ∷ []) so_far.sent [] so_far.written (lines_heard course answer)
          ∙ (λ i. passes old (at_rest.answers ++ answer ∷ []) (append-nil so_far.sent i)
          (so_far.written ++ lines_heard (sym at_rest.stands i) answer));
    }
