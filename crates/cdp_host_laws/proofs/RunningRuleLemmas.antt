-- The commands that change what a running program is stopped by: a request for a pause, and throws.
use Rattle.std.proofs.Common.{◌≡◌, ℕ, List, Bool, true, false, ◌&&◌, ◌||◌, not, is_some, if◌then◌else◌, Option, Some, None, refl, ap, ◌∙◌}
use Rattle.std.proofs.lemmas.Bool.{or_right}
use Rattle.cdp_text.specs.declared.position.Place.{Place}
use Rattle.cdp_text.proofs.TestLemmas.{or_false}
use Rattle.cdp_json.specs.declared.params.ExceptionPauses.{ExceptionPauses}
use Rattle.cdp_json.specs.declared.params.ExceptionPauses.TheVariants as pauses
use Rattle.cdp_json.specs.declared.params.Params.TheVariants as params
use Rattle.cdp_host_isolation.specs.Histories.{Entry, with_seat}
use Rattle.cdp_host_isolation.specs.declared.seat.Seat.TheVariants.{Attached}
use Rattle.cdp_host_isolation.specs.Meanings.{is_first, is_paused}
use Rattle.js_tree.specs.declared.script.Script.{Script}
use Rattle.js_semantics.specs.Run.{Run}
use Rattle.stepping.specs.Causes.{stops_at_raise}
use Rattle.stepping.specs.declared.arrival.Arrival.{Arrival}
use Rattle.stepping.specs.declared.rules.Exceptions.{Exceptions}
use Rattle.stepping.specs.declared.rules.Exceptions.TheVariants as throws
use Rattle.cdp_session.specs.Replies.{AnsweredText, answer_by, outcome_by}
use Rattle.cdp_session.specs.Rows.{does, resumes, throws_of}
use Rattle.cdp_session.specs.Sessions.{Session, with_rules}
use Rattle.cdp_session.specs.Situations.{Situation}
use Rattle.cdp_session.specs.Stops.{resumed}
use Rattle.cdp_host.specs.Histories.{Meaning, whole}
use Rattle.cdp_host.specs.Programs.{arrival_of, next}
use Rattle.cdp_host.specs.Protocols.{answer_at, situation}
use Rattle.cdp_host.specs.Standings.{standing_of}
use Rattle.cdp_host.specs.Steps.{Step, step_of}
use Rattle.cdp_host_laws.specs.Commands.{DebugsAlone, HasNoBreakpoint, HasNoRequest, IsTold, WantsNoThrows, then_told}
use Rattle.cdp_host_laws.specs.Stopping.{GoesOnUntil, arrived}
use Rattle.cdp_host_laws.specs.Words.{at_any_throw, at_debugger, at_uncaught_throw, pauses_at, raised_any, raised_uncaught}
use Rattle.cdp_host_laws.proofs.CommandLemmas.{resumes-until, still-alone, tells-until, told-is, unhit}
use Rattle.cdp_host_laws.proofs.NamedLemmas.{Asks, names-by, names_at}
use Rattle.cdp_host_laws.proofs.CommandRowLemmas.{answered}
use Rattle.cdp_host_laws.proofs.UnaskedLemmas.{paused-unasked}
use Rattle.cdp_host_laws.proofs.UntilLemmas.{NamesWhere}

-- ---- a pause

-- what a session keeps that asks for a pause
abbrev pausing : Session → Session
pausing x = with_rules (record x.rules { pause = true }) x

abbrev pause_answer : ℕ → Session → AnsweredText
pause_answer id x = answer_by x (outcome_by id (does (pausing x)))

pause_there : (a : Arrival) (o : Option Place) → names_at true None None false a o ≡ is_some o
pause_there a None = refl
pause_there a (Some place) = or_right a.debugger true refl

pause_names : (scripts : List Script) (id : ℕ) (x : Session)
    → Asks (pause_answer id x).session throws.Never true None None
    → HasNoBreakpoint x
    → NamesWhere scripts (pause_answer id x).session (arrived scripts pauses_at)
pause_names scripts id x asks none = λ r.
    let t : Step = step_of scripts false r in
    let a : Arrival = arrival_of scripts (next scripts r) in
    let y : Session = (pause_answer id x).session in
    names-by t y throws.Never true None None refl asks
    ∙ ap (λ hit. names_at true None None hit a a.place) (unhit t.standing y.workspace y.breakpoints a.place none)
    ∙ pause_there a a.place

pub pause-until : (scripts : List Script) (input : List (List ℕ)) (wait : Bool) (history : List Entry) (s : ℕ)
    (text : List ℕ) (x : Session)
    → DebugsAlone s x (whole scripts input wait history)
    → HasNoRequest x
    → WantsNoThrows x
    → HasNoBreakpoint x
    → is_paused (whole scripts input wait history) ≡ false
    → is_first (whole scripts input wait history).phase ≡ false
    → IsTold scripts input wait history s text params.Pause
    → GoesOnUntil (arrived scripts pauses_at) scripts input wait (then_told history s text) s
pause-until scripts input wait history s text x alone free calm none goes begun told =
    let m : Meaning Run = whole scripts input wait history in
    let t : Situation = situation scripts m.stop (standing_of scripts m.program) in
    let answers : answer_at scripts m.stop m.program text x ≡ pause_answer told.id x
    = answered t x text told.id told.method params.Pause told.reads alone.enabled refl
    ∙ ap (λ b. answer_by x (outcome_by told.id (does (if b then x else pausing x)))) goes in
    let asks : Asks (pause_answer told.id x).session throws.Never true None None
    = record {
      enabled = alone.enabled;
      heeds = alone.heeds;
      same_throws = calm;
      same_pause = refl;
      same_step = free.no_step;
      same_place = free.no_place;
    } in
    tells-until (arrived scripts pauses_at) scripts input wait history s text x (pause_answer told.id x)
    alone.attached alone.no_other goes begun told.stays answers refl refl alone.enabled
    (pause_names scripts told.id x asks none)

-- ---- throws

rest_there : (a : Arrival) (o : Option Place) → names_at false None None false a o ≡ (is_some o && a.debugger)
rest_there a None = refl
rest_there a (Some place) = or_false a.debugger

-- what a session names that asks for throws at most
pub throws-named : (scripts : List Script) (x : Session) (exceptions : Exceptions) (test : Arrival → Bool)
    → Asks x exceptions false None None
    → HasNoBreakpoint x
    → ((a : Arrival) → (stops_at_raise exceptions a.raised || at_debugger a) ≡ test a)
    → NamesWhere scripts x (arrived scripts test)
throws-named scripts x exceptions test asks none same = λ r.
    let t : Step = step_of scripts false r in
    let a : Arrival = arrival_of scripts (next scripts r) in
    names-by t x exceptions false None None refl asks
    ∙ ap (λ hit. stops_at_raise exceptions a.raised || names_at false None None hit a a.place)
    (unhit t.standing x.workspace x.breakpoints a.place none)
    ∙ ap (λ b. stops_at_raise exceptions a.raised || b) (rest_there a a.place)
    ∙ same a

-- what a session keeps that wants these throws
abbrev wanting : Exceptions → Session → Session
wanting exceptions x = with_rules (record x.rules { exceptions = exceptions }) x

abbrev throws_answer : ℕ → Exceptions → Session → AnsweredText
throws_answer id exceptions x = answer_by x (outcome_by id (does (wanting exceptions x)))

throws_until : (state : ExceptionPauses) (test : Arrival → Bool)
    (scripts : List Script) (input : List (List ℕ)) (wait : Bool) (history : List Entry) (s : ℕ) (text : List ℕ)
    (x : Session)
    → ((a : Arrival) → (stops_at_raise (throws_of state) a.raised || at_debugger a) ≡ test a)
    → DebugsAlone s x (whole scripts input wait history)
    → HasNoRequest x
    → HasNoBreakpoint x
    → is_paused (whole scripts input wait history) ≡ false
    → is_first (whole scripts input wait history).phase ≡ false
    → IsTold scripts input wait history s text (params.SetPauseOnExceptions state)
    → GoesOnUntil (arrived scripts test) scripts input wait (then_told history s text) s
throws_until state test scripts input wait history s text x same alone free none goes begun told =
    let m : Meaning Run = whole scripts input wait history in
    let t : Situation = situation scripts m.stop (standing_of scripts m.program) in
    let a : AnsweredText = throws_answer told.id (throws_of state) x in
    let answers : answer_at scripts m.stop m.program text x ≡ a
    = answered t x text told.id told.method (params.SetPauseOnExceptions state) told.reads alone.enabled refl in
    let asks : Asks a.session (throws_of state) false None None
    = record {
      enabled = alone.enabled;
      heeds = alone.heeds;
      same_throws = refl;
      same_pause = free.no_pause;
      same_step = free.no_step;
      same_place = free.no_place;
    } in
    tells-until (arrived scripts test) scripts input wait history s text x a alone.attached alone.no_other
    goes begun told.stays answers refl refl alone.enabled
    (throws-named scripts a.session (throws_of state) test asks none same)

any_same : (o : Option Bool) → is_some o ≡ raised_any o
any_same None = refl
any_same (Some uncaught) = refl

uncaught_same : (o : Option Bool) → stops_at_raise throws.Uncaught o ≡ raised_uncaught o
uncaught_same None = refl
uncaught_same (Some true) = refl
uncaught_same (Some false) = refl

pub all-until : (scripts : List Script) (input : List (List ℕ)) (wait : Bool) (history : List Entry) (s : ℕ)
    (text : List ℕ) (x : Session)
    → DebugsAlone s x (whole scripts input wait history)
    → HasNoRequest x
    → HasNoBreakpoint x
    → is_paused (whole scripts input wait history) ≡ false
    → is_first (whole scripts input wait history).phase ≡ false
    → IsTold scripts input wait history s text (params.SetPauseOnExceptions pauses.All)
    → GoesOnUntil (arrived scripts at_any_throw) scripts input wait (then_told history s text) s
all-until scripts input wait history s text x =
    throws_until pauses.All at_any_throw scripts input wait history s text x
    (λ a. ap (λ b. b || at_debugger a) (any_same a.raised))

pub uncaught-until : (scripts : List Script) (input : List (List ℕ)) (wait : Bool) (history : List Entry) (s : ℕ)
    (text : List ℕ) (x : Session)
    → DebugsAlone s x (whole scripts input wait history)
    → HasNoRequest x
    → HasNoBreakpoint x
    → is_paused (whole scripts input wait history) ≡ false
    → is_first (whole scripts input wait history).phase ≡ false
    → IsTold scripts input wait history s text (params.SetPauseOnExceptions pauses.Uncaught)
    → GoesOnUntil (arrived scripts at_uncaught_throw) scripts input wait (then_told history s text) s
uncaught-until scripts input wait history s text x =
    throws_until pauses.Uncaught at_uncaught_throw scripts input wait history s text x
    (λ a. ap (λ b. b || at_debugger a) (uncaught_same a.raised))

pub none-until : (scripts : List Script) (input : List (List ℕ)) (wait : Bool) (history : List Entry) (s : ℕ)
    (text : List ℕ) (x : Session)
    → DebugsAlone s x (whole scripts input wait history)
    → HasNoRequest x
    → HasNoBreakpoint x
    → is_paused (whole scripts input wait history) ≡ false
    → is_first (whole scripts input wait history).phase ≡ false
    → IsTold scripts input wait history s text (params.SetPauseOnExceptions pauses.Never)
    → GoesOnUntil (arrived scripts at_debugger) scripts input wait (then_told history s text) s
none-until scripts input wait history s text x =
    throws_until pauses.Never at_debugger scripts input wait history s text x (λ a. refl)

-- ---- a resume

abbrev pub resume_answer : ℕ → Session → AnsweredText
resume_answer id x = answer_by x (outcome_by id (resumes x))

pub resume-until : (scripts : List Script) (input : List (List ℕ)) (wait : Bool) (history : List Entry) (s : ℕ)
    (text : List ℕ) (x : Session) (exceptions : Exceptions) (test : Arrival → Bool)
    → ((a : Arrival) → (stops_at_raise exceptions a.raised || at_debugger a) ≡ test a)
    → DebugsAlone s x (whole scripts input wait history)
    → x.rules.exceptions ≡ exceptions
    → HasNoBreakpoint x
    → is_paused (whole scripts input wait history) ≡ true
    → IsTold scripts input wait history s text params.Resume
    → GoesOnUntil (arrived scripts test) scripts input wait (then_told history s text) s
resume-until scripts input wait history s text x exceptions test same alone wants none paused told =
    let m : Meaning Run = whole scripts input wait history in
    let free : HasNoRequest x = paused-unasked scripts input wait history s x paused alone.attached in
    let t : Situation = situation scripts m.stop (standing_of scripts m.program) in
    let a : AnsweredText = resume_answer told.id x in
    let answers : answer_at scripts m.stop m.program text x ≡ a
    = answered t x text told.id told.method params.Resume told.reads alone.enabled (ap not paused) in
    let asks : Asks (resumed a.session) exceptions false None None
    = record {
      enabled = alone.enabled;
      heeds = alone.heeds;
      same_throws = wants;
      same_pause = free.no_pause;
      same_step = free.no_step;
      same_place = free.no_place;
    } in
    resumes-until (arrived scripts test) scripts input wait history s text x a alone.attached alone.no_other
    paused told.stays answers refl (throws-named scripts (resumed a.session) exceptions test asks none same)

-- a program that a client lets go on, which asks for nothing
pub resume-free : (scripts : List Script) (input : List (List ℕ)) (wait : Bool) (history : List Entry) (s : ℕ)
    (text : List ℕ) (x : Session)
    → DebugsAlone s x (whole scripts input wait history)
    → WantsNoThrows x
    → HasNoBreakpoint x
    → is_paused (whole scripts input wait history) ≡ true
    → IsTold scripts input wait history s text params.Resume
    → GoesOnUntil (arrived scripts at_debugger) scripts input wait (then_told history s text) s
resume-free scripts input wait history s text x =
    resume-until scripts input wait history s text x throws.Never at_debugger (λ a. refl)

-- ---- throws that a client asks for while the program is paused, which then goes on

throws_then_on : (state : ExceptionPauses) (test : Arrival → Bool)
    (scripts : List Script) (input : List (List ℕ)) (wait : Bool) (history : List Entry) (s : ℕ) (text go : List ℕ)
    (x : Session)
    → ((a : Arrival) → (stops_at_raise (throws_of state) a.raised || at_debugger a) ≡ test a)
    → DebugsAlone s x (whole scripts input wait history)
    → HasNoBreakpoint x
    → is_paused (whole scripts input wait history) ≡ true
    → IsTold scripts input wait history s text (params.SetPauseOnExceptions state)
    → IsTold scripts input wait (then_told history s text) s go params.Resume
    → GoesOnUntil (arrived scripts test) scripts input wait (then_told (then_told history s text) s go) s
throws_then_on state test scripts input wait history s text go x same alone none paused told resumes =
    let m : Meaning Run = whole scripts input wait history in
    let k : Meaning Run = whole scripts input wait (then_told history s text) in
    let t : Situation = situation scripts m.stop (standing_of scripts m.program) in
    let a : AnsweredText = throws_answer told.id (throws_of state) x in
    let answers : answer_at scripts m.stop m.program text x ≡ a
    = answered t x text told.id told.method (params.SetPauseOnExceptions state) told.reads alone.enabled refl in
    let set : k ≡ with_seat s (Attached a.session) m
    = told-is scripts input wait history s text x a alone.attached told.stays answers refl refl alone.enabled in
    let still : DebugsAlone s a.session k
    = still-alone scripts input wait history s text x a alone set alone.enabled alone.heeds in
    resume-until scripts input wait (then_told history s text) s go a.session (throws_of state) test same still refl
    none (ap (λ l. is_paused l) set ∙ paused) resumes

pub all-then-on : (scripts : List Script) (input : List (List ℕ)) (wait : Bool) (history : List Entry) (s : ℕ)
    (text go : List ℕ) (x : Session)
    → DebugsAlone s x (whole scripts input wait history)
    → HasNoBreakpoint x
    → is_paused (whole scripts input wait history) ≡ true
    → IsTold scripts input wait history s text (params.SetPauseOnExceptions pauses.All)
    → IsTold scripts input wait (then_told history s text) s go params.Resume
    → GoesOnUntil (arrived scripts at_any_throw) scripts input wait (then_told (then_told history s text) s go) s
all-then-on scripts input wait history s text go x =
    throws_then_on pauses.All at_any_throw scripts input wait history s text go x
    (λ a. ap (λ b. b || at_debugger a) (any_same a.raised))

pub uncaught-then-on : (scripts : List Script) (input : List (List ℕ)) (wait : Bool) (history : List Entry) (s : ℕ)
    (text go : List ℕ) (x : Session)
    → DebugsAlone s x (whole scripts input wait history)
    → HasNoBreakpoint x
    → is_paused (whole scripts input wait history) ≡ true
    → IsTold scripts input wait history s text (params.SetPauseOnExceptions pauses.Uncaught)
    → IsTold scripts input wait (then_told history s text) s go params.Resume
    → GoesOnUntil (arrived scripts at_uncaught_throw) scripts input wait (then_told (then_told history s text) s go) s
uncaught-then-on scripts input wait history s text go x =
    throws_then_on pauses.Uncaught at_uncaught_throw scripts input wait history s text go x
    (λ a. ap (λ b. b || at_debugger a) (uncaught_same a.raised))
