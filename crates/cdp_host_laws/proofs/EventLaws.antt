-- What an entry sends a session that is attached before it and after it.
use Rattle.std.proofs.Common.{◌≡◌, ℕ, suc, ◌+◌, List, [], ◌∷◌, ◌++◌, map, length, filter, codes, Bool, true, false, not, ◌&&◌, ◌==◌, if◌then◌else◌, Some, None, is_some, refl, ap, sym, subst, ◌∙◌, arith, append-nil, eq-eqb, ne_eqb}
use Rattle.std.proofs.lemmas.List.Elements.{filter-append}
use Rattle.cdp_host_isolation.specs.Seats.{each, is_listed, reported, seat_of}
use Rattle.cdp_host_isolation.specs.Protocols.{Protocol}
use Rattle.cdp_host_isolation.specs.Meanings.{after_run, is_enabled_seat, is_paused, next_number, with_seats}
use Rattle.cdp_host_isolation.specs.Histories.{Entry, Attach, Tell, Take, Detach, Ran, Shut, FitsEntry, handed_at, waiting}
use Rattle.cdp_host_isolation.specs.Alone.{Alone, Seen, Passed, Told, alone_at, goes_on, has_resumed, mark, replied, run, see}
use Rattle.cdp_host_isolation.specs.Texts as made
use Rattle.cdp_host_isolation.specs.declared.seat.Seat.{Seat}
use Rattle.cdp_host_isolation.specs.declared.seat.Seat.TheVariants.{Attached, Lost, Left}
use Rattle.cdp_host_isolation.proofs.AloneLemmas.{follows, see_all}
use Rattle.js_tree.specs.declared.script.Script.{Script}
use Rattle.js_semantics.specs.Run.{Run}
use Rattle.cdp_session_messages.specs.Ends.{context_destroyed_text, throw_text}
use Rattle.cdp_session_messages.specs.Results.{paused_text, resumed_text}
use Rattle.cdp_session_messages.specs.Scripts.{script_parsed_text}
use Rattle.cdp_session.specs.Sessions.{Session}
use Rattle.cdp_session.specs.Situations.{Situation}
use Rattle.cdp_session.specs.declared.situation.Pause.{Pause}
use Rattle.cdp_host.specs.Histories.{IsHistory, Meaning, apply, begin, whole}
use Rattle.cdp_host.specs.Programs.{has_thrown, is_over, start}
use Rattle.cdp_host.specs.Protocols.{protocol, reply_texts, resume_texts, situation, step_texts, stop_texts_of, texts}
use Rattle.cdp_host.specs.Standings.{standing_of}
use Rattle.cdp_host.specs.Steps.{Step}
use Rattle.cdp_host.proofs.HistoryLemmas.{longer}
use Rattle.cdp_host.proofs.ProtocolLemmas.{sent}
use Rattle.cdp_host_laws.specs.Entries.{IsOfOther}
use Rattle.cdp_host_laws.specs.Events.{ReplySends, RunSends, StaysOver, TellsOfStop, goes_on_if, is_event, is_reply, once}
use Rattle.cdp_host_laws.specs.Identity.{number_of_stop}
use Rattle.cdp_host_laws.proofs.EntryTextLemmas.{other-texts, own-texts, ran-none, ran-texts, settled-pause}
use Rattle.cdp_host_laws.proofs.GrowthLemmas.{fits-front, grows}
use Rattle.cdp_host_laws.proofs.RowLemmas.{AnswerSays, answer-none, answer-once, answer-says, newly}
use Rattle.cdp_host_laws.proofs.RunTextLemmas.{AllAre, AtStop, CountsTold, IsThere, all-append, ran-back, ready-goes, resume-all, resume-none, run-all, run-at-stop, run-counted, weighed}
use Rattle.cdp_host_laws.proofs.SeenLemmas.{Shows, always-shown, goes-shows, run-shows, shown-at, shown-choice}
use Rattle.cdp_host_laws.proofs.ShownLemmas.{Shown, number-kept, number_of, passed-part, passed-shown, shown_of}
use Rattle.cdp_host_laws.proofs.StepEventLemmas.{IsPrintAt, ends-counted, no-print, print-at, prints-at, prints-counted, prints_size, resume-once, runtime_of, stop-told, stop-untold, throws-counted, thrown-over}
use Rattle.cdp_host_laws.proofs.StopNumberLemmas.{Counts, entry-counts}
use Rattle.cdp_host_laws.proofs.TextKindLemmas.{IsMethod, console_called, debugger_paused, debugger_resumed, none-of, resume-events, resumed-all, script_parsed, stop-all, stop-events, told-all, told-events}

-- ---- texts that aren't there

-- no step tells of a method of the domain Debugger
told-none : (method : List ℕ) (pause resume parsed : Bool) → IsMethod method false false false pause resume parsed
    → (scripts : List Script) (moment : ℕ) (t : Step) (x : Session)
    → filter (is_event method) (step_texts scripts moment t x) ≡ []
told-none method pause resume parsed is scripts moment t x =
    none-of (is_event method) (step_texts scripts moment t x)
    (told-all (λ shown. is_event method shown ≡ false) moment (λ values. is.of_print values moment)
    (λ details. is.of_throw details moment) is.of_end scripts t x)

-- one that isn't told by a stop either isn't told by a run
run-none : (method : List ℕ) (resume parsed : Bool) → IsMethod method false false false false resume parsed
    → (scripts : List Script) (moment n : ℕ) (stops listed : Bool) (a : Alone Run Pause Session)
    → filter (is_event method) (made.run_texts (protocol scripts) (texts scripts) moment (suc n) stops listed a) ≡ []
run-none method resume parsed is scripts moment n stops listed a =
    none-of (is_event method) (made.run_texts (protocol scripts) (texts scripts) moment (suc n) stops listed a)
    (run-all (protocol scripts) (texts scripts) (λ shown. is_event method shown ≡ false) moment
    (λ t x. told-all (λ shown. is_event method shown ≡ false) moment (λ values. is.of_print values moment)
    (λ details. is.of_throw details moment) is.of_end scripts t x)
    (λ number t x. stop-all (λ shown. is_event method shown ≡ false) is.of_pause scripts number t x) n stops listed a)

-- nor are most by a resume
pub go-none : (method : List ℕ) (print throw destroyed pause parsed : Bool)
    → IsMethod method print throw destroyed pause false parsed
    → (x : Session) → filter (is_event method) (resume_texts x) ≡ []
go-none method print throw destroyed pause parsed is x =
    none-of (is_event method) (resume_texts x)
    (resumed-all (λ shown. is_event method shown ≡ false) is.of_resume x)

pub both-filtered : (test : List ℕ → Bool) (xs ys zs : List (List ℕ)) → filter test xs ≡ zs → filter test ys ≡ []
    → filter test (xs ++ ys) ≡ zs
both-filtered test xs ys zs first second =
    filter-append test xs ys ∙ ap (λ l. filter test xs ++ l) second ∙ append-nil (filter test xs) ∙ first

-- ---- small facts

none-length : {A : Type 0} → (xs : List A) → length xs ≡ 0 → xs ≡ []
none-length [] none = refl
none-length (x ∷ xs) none = absurd (omega (arith, none))

none-before : (a b : ℕ) → 0 + a ≡ b → a ≡ b
none-before a b is = omega (arith, is)

once-weighed : (v b : Bool) (new : ℕ) → weighed v 0 + new ≡ weighed v (once b) → new ≡ once (v && b)
once-weighed true b new is = none-before new (once b) is
once-weighed false b new is = none-before new 0 is

goes-program : {C T Q X : Type 0} → (P : Protocol C T Q X) (b : Bool) (a : Alone C Q X)
    → (goes_on P b a).program ≡ a.program
goes-program P true a = refl
goes-program P false a = refl

resumed-disabled : (scripts : List Script) (b : Bool) (seat : Seat Session)
    → (b ≡ true → is_enabled_seat (protocol scripts) seat ≡ false)
    → filter (is_event (codes "Debugger.resumed")) (made.resume_texts (protocol scripts) (texts scripts) b seat) ≡ []
resumed-disabled scripts true (Attached z) none =
    ap (λ l. filter (is_event (codes "Debugger.resumed")) l) (resume-once z false (none refl))
resumed-disabled scripts true (Lost loss is_reported is_told) none = refl
resumed-disabled scripts true Left none = refl
resumed-disabled scripts false seat none = refl

-- an attached session shows whether it has the debugger enabled
enabled-shown : (scripts : List Script) (seat : Seat Session) (v : Shown) → IsThere seat → Shows shown_of v seat
    → v.enabled ≡ is_enabled_seat (protocol scripts) seat
enabled-shown scripts (Attached z) v there is = ap (λ shown. shown.enabled) (sym is)
enabled-shown scripts (Lost loss is_reported is_told) v there is = let e = there.1 in absurd cc
enabled-shown scripts Left v there is = let e = there.1 in absurd cc

-- ---- a run

-- a run of one step at least, and the session of this number, which is attached before it and after it
pub record Survives (scripts : List Script) (s n moment : ℕ) (gone : List ℕ) (m : Meaning Run) (x y : Session)
    : Type 0 where
  pub fits : FitsEntry (protocol scripts) m (Ran (suc n) moment gone)
  pub here : seat_of s m.seats ≡ Attached x
  pub there : seat_of s (apply scripts m (Ran (suc n) moment gone)).seats ≡ Attached y
  pub number : x.number ≡ s

-- where its steps led
abbrev pub behind : List Script → ℕ → ℕ → List ℕ → Meaning Run → Meaning Run
behind scripts n moment gone m = after_run (protocol scripts) moment gone (suc n) m

-- it stopped there, and whether it went on since no session had the debugger enabled
abbrev pub has_stopped : List Script → ℕ → ℕ → List ℕ → Meaning Run → Bool
has_stopped scripts n moment gone m = is_paused (behind scripts n moment gone m)

abbrev pub went_on : List Script → ℕ → ℕ → List ℕ → Meaning Run → Bool
went_on scripts n moment gone m =
    has_resumed (behind scripts n moment gone m) (apply scripts m (Ran (suc n) moment gone))

-- where they led for this session
abbrev pub led : List Script → ℕ → ℕ → ℕ → List ℕ → Meaning Run → Alone Run Pause Session
led scripts s n moment gone m =
    run (protocol scripts) moment (suc n) (has_stopped scripts n moment gone m) (is_listed gone s) (alone_at s m)

-- the texts of the steps, and those of that resume
abbrev pub run_new : List Script → ℕ → ℕ → ℕ → List ℕ → Meaning Run → List (List ℕ)
run_new scripts s n moment gone m =
    made.run_texts (protocol scripts) (texts scripts) moment (suc n) (has_stopped scripts n moment gone m)
    (is_listed gone s) (alone_at s m)

abbrev pub go_new : List Script → ℕ → ℕ → ℕ → List ℕ → Meaning Run → List (List ℕ)
go_new scripts s n moment gone m =
    made.resume_texts (protocol scripts) (texts scripts) (went_on scripts n moment gone m)
    (led scripts s n moment gone m).seat

abbrev pub all_new : List Script → ℕ → ℕ → ℕ → List ℕ → Meaning Run → List (List ℕ)
all_new scripts s n moment gone m = run_new scripts s n moment gone m ++ go_new scripts s n moment gone m

-- the session before it shows what it shows
pub shows-here : {B : Type 0} → (f : Session → B) (seat : Seat Session) (x : Session) → seat ≡ Attached x
    → Shows f (f x) seat
shows-here f seat x is = subst (λ w. Shows f (f x) w) (sym is) refl

pub seen-run : (scripts : List Script) (s n moment : ℕ) (gone : List ℕ) (m : Meaning Run)
    → FitsEntry (protocol scripts) m (Ran (suc n) moment gone)
    → alone_at s (apply scripts m (Ran (suc n) moment gone))
    ≡ see (protocol scripts) s (alone_at s m)
    (Passed (suc n) moment (has_stopped scripts n moment gone m) (is_listed gone s) (went_on scripts n moment gone m))
seen-run scripts s n moment gone m fits = (follows (protocol scripts) s m (Ran (suc n) moment gone) fits).goes

-- it is attached where the steps led
pub led-there : (scripts : List Script) (s n moment : ℕ) (gone : List ℕ) (m : Meaning Run) (x y : Session)
    → Survives scripts s n moment gone m x y → IsThere (led scripts s n moment gone m).seat
led-there scripts s n moment gone m x y is =
    ran-back (protocol scripts) (went_on scripts n moment gone m) (led scripts s n moment gone m)
    (y, ap (λ a. a.seat) (sym (seen-run scripts s n moment gone m is.fits)) ∙ is.there)

led-program : (scripts : List Script) (s n moment : ℕ) (gone : List ℕ) (m : Meaning Run)
    → FitsEntry (protocol scripts) m (Ran (suc n) moment gone)
    → (led scripts s n moment gone m).program ≡ (apply scripts m (Ran (suc n) moment gone)).program
led-program scripts s n moment gone m fits =
    let b = led scripts s n moment gone m in
    sym (goes-program (protocol scripts) (went_on scripts n moment gone m) (record b { seat = reported b.seat }))
    ∙ ap (λ a. a.program) (sym (seen-run scripts s n moment gone m fits))

-- where the program goes on by the run, the session hasn't the debugger enabled
led-disabled : (scripts : List Script) (s n moment : ℕ) (gone : List ℕ) (m : Meaning Run)
    → FitsEntry (protocol scripts) m (Ran (suc n) moment gone) → went_on scripts n moment gone m ≡ true
    → is_enabled_seat (protocol scripts) (led scripts s n moment gone m).seat ≡ false
led-disabled scripts s n moment gone m fits goes = ran-none (protocol scripts) s (suc n) moment gone m fits goes

gone-disabled : (scripts : List Script) (s n moment : ℕ) (gone : List ℕ) (m : Meaning Run) (x y : Session)
    → Survives scripts s n moment gone m x y → went_on scripts n moment gone m ≡ true → x.rules.enabled ≡ false
gone-disabled scripts s n moment gone m x y is goes =
    let b = led scripts s n moment gone m in
    enabled-shown scripts b.seat (shown_of x) (led-there scripts s n moment gone m x y is)
    (run-shows (protocol scripts) shown_of (passed-shown scripts) (shown_of x) moment (suc n)
    (has_stopped scripts n moment gone m) (is_listed gone s) (alone_at s m)
    (shows-here shown_of (seat_of s m.seats) x is.here))
    ∙ led-disabled scripts s n moment gone m is.fits goes

-- ---- the event of its stop

at-stop : (scripts : List Script) (s n moment : ℕ) (gone : List ℕ) (m : Meaning Run) (x y : Session)
    → Survives scripts s n moment gone m x y
    → AtStop (protocol scripts) (texts scripts) (is_event (codes "Debugger.paused")) shown_of (shown_of x)
    (has_stopped scripts n moment gone m) (next_number m.stops) (run_new scripts s n moment gone m)
at-stop scripts s n moment gone m x y is =
    run-at-stop (protocol scripts) (texts scripts) (is_event (codes "Debugger.paused")) shown_of (passed-shown scripts)
    (λ time t z. told-none (codes "Debugger.paused") true false false debugger_paused scripts time t z) (shown_of x)
    moment n (has_stopped scripts n moment gone m) (is_listed gone s) (alone_at s m)
    (shows-here shown_of (seat_of s m.seats) x is.here) (led-there scripts s n moment gone m x y is)

-- the events of a stop in all new texts
picked-stop : (scripts : List Script) (s n moment : ℕ) (gone : List ℕ) (m : Meaning Run) (x y : Session)
    → (is : Survives scripts s n moment gone m x y)
    → (let at = at-stop scripts s n moment gone m x y is in
    filter (is_event (codes "Debugger.paused")) (all_new scripts s n moment gone m)
    ≡ filter (is_event (codes "Debugger.paused")) (if has_stopped scripts n moment gone m
    then stop_texts_of scripts (next_number m.stops) at.step at.session else []))
picked-stop scripts s n moment gone m x y is =
    let at = at-stop scripts s n moment gone m x y is in
    both-filtered (is_event (codes "Debugger.paused")) (run_new scripts s n moment gone m)
    (go_new scripts s n moment gone m)
    (filter (is_event (codes "Debugger.paused")) (if has_stopped scripts n moment gone m
    then stop_texts_of scripts (next_number m.stops) at.step at.session else []))
    at.picked
    (resume-none (protocol scripts) (texts scripts) (is_event (codes "Debugger.paused"))
    (λ z. go-none (codes "Debugger.paused") false false false true false debugger_paused z)
    (went_on scripts n moment gone m) (led scripts s n moment gone m).seat)

untold-choice : (scripts : List Script) (b : Bool) (stop : ℕ) (t : Step) (z : Session) → z.rules.enabled ≡ false
    → filter (is_event (codes "Debugger.paused")) (if b then stop_texts_of scripts stop t z else []) ≡ []
untold-choice scripts true stop t z disabled = stop-untold scripts stop t z disabled
untold-choice scripts false stop t z disabled = refl

run-disabled : (scripts : List Script) (s n moment : ℕ) (gone : List ℕ) (m : Meaning Run) (x y : Session)
    → Survives scripts s n moment gone m x y → x.rules.enabled ≡ false
    → filter (is_event (codes "Debugger.paused")) (all_new scripts s n moment gone m) ≡ []
run-disabled scripts s n moment gone m x y is disabled =
    let at = at-stop scripts s n moment gone m x y is in
    picked-stop scripts s n moment gone m x y is
    ∙ untold-choice scripts (has_stopped scripts n moment gone m) (next_number m.stops) at.step at.session
    (ap (λ shown. shown.enabled) at.shown ∙ disabled)

-- a run at which the program doesn't stay paused
run-goes : (scripts : List Script) (s n moment : ℕ) (gone : List ℕ) (m : Meaning Run) (x y : Session)
    → Survives scripts s n moment gone m x y → (b : Bool) → has_stopped scripts n moment gone m ≡ b
    → (apply scripts m (Ran (suc n) moment gone)).stop ≡ None
    → filter (is_event (codes "Debugger.paused")) (all_new scripts s n moment gone m) ≡ []
run-goes scripts s n moment gone m x y is true stops none =
    let goes : went_on scripts n moment gone m ≡ true
    = ap (λ b. b && not (is_some (apply scripts m (Ran (suc n) moment gone)).stop)) stops
    ∙ ap (λ o. not (is_some o)) none in
    run-disabled scripts s n moment gone m x y is (gone-disabled scripts s n moment gone m x y is goes)
run-goes scripts s n moment gone m x y is false stops none =
    let at = at-stop scripts s n moment gone m x y is in
    picked-stop scripts s n moment gone m x y is
    ∙ ap (λ b. filter (is_event (codes "Debugger.paused")) (if b
    then stop_texts_of scripts (next_number m.stops) at.step at.session else [])) stops

-- one at which it does
run-stops : (scripts : List Script) (s n moment : ℕ) (gone : List ℕ) (m : Meaning Run) (x y : Session)
    → Survives scripts s n moment gone m x y → (q : Pause)
    → (apply scripts m (Ran (suc n) moment gone)).stop ≡ Some q → x.rules.enabled ≡ true
    → TellsOfStop s q.number (filter (is_event (codes "Debugger.paused")) (all_new scripts s n moment gone m))
run-stops scripts s n moment gone m x y is q paused enabled =
    let P = protocol scripts in
    let k = behind scripts n moment gone m in
    let at = at-stop scripts s n moment gone m x y is in
    let stop : k.stop ≡ Some q = settled-pause P (with_seats (each reported k.seats) k) q paused in
    let stops : has_stopped scripts n moment gone m ≡ true = ap (λ o. is_some o) stop in
    let counted : Counts number_of_stop (Some q) m.stops (apply scripts m (Ran (suc n) moment gone)).stops
    = subst (λ o. Counts number_of_stop o m.stops (apply scripts m (Ran (suc n) moment gone)).stops) stop
    (entry-counts P number_of_stop (λ number r. refl) m (Ran (suc n) moment gone) is.fits) in
    let all : filter (is_event (codes "Debugger.paused")) (all_new scripts s n moment gone m)
    ≡ filter (is_event (codes "Debugger.paused")) (stop_texts_of scripts q.number at.step at.session)
    = picked-stop scripts s n moment gone m x y is
    ∙ ap (λ b. filter (is_event (codes "Debugger.paused")) (if b
    then stop_texts_of scripts (next_number m.stops) at.step at.session else [])) stops
    ∙ ap (λ number. filter (is_event (codes "Debugger.paused")) (stop_texts_of scripts number at.step at.session))
    (sym counted.1) in
    subst (λ l. TellsOfStop s q.number l) (sym all)
    (stop-told scripts s q.number at.step at.session (ap (λ shown. shown.number) at.shown ∙ is.number)
    (ap (λ shown. shown.enabled) at.shown ∙ enabled))

-- ---- its other events

run-counts : (scripts : List Script) (s n moment : ℕ) (gone : List ℕ) (m : Meaning Run) (x y : Session)
    → Survives scripts s n moment gone m x y → (test : List ℕ → Bool) (size : Run → ℕ)
    → CountsTold (protocol scripts) (texts scripts) test runtime_of size
    → weighed x.runtime (size m.program) + length (filter test (all_new scripts s n moment gone m))
    ≡ weighed x.runtime (size (apply scripts m (Ran (suc n) moment gone)).program)
run-counts scripts s n moment gone m x y is test size counts =
    let P = protocol scripts in
    let E = texts scripts in
    let b = led scripts s n moment gone m in
    let first : filter test (all_new scripts s n moment gone m) ≡ filter test (run_new scripts s n moment gone m)
    = both-filtered test (run_new scripts s n moment gone m) (go_new scripts s n moment gone m)
    (filter test (run_new scripts s n moment gone m)) refl
    (resume-none P E test counts.resumed (went_on scripts n moment gone m) b.seat) in
    ap (λ l. weighed x.runtime (size m.program) + length l) first
    ∙ run-counted P E test runtime_of size (passed-part scripts (λ shown. shown.runtime)) counts x.runtime moment n
    (has_stopped scripts n moment gone m) (is_listed gone s) (alone_at s m)
    (ready-goes P (suc n) moment m is.fits) (shows-here runtime_of (seat_of s m.seats) x is.here)
    (led-there scripts s n moment gone m x y is)
    ∙ ap (λ r. weighed x.runtime (size r)) (led-program scripts s n moment gone m is.fits)

-- of a size that a program has only once it is over
run-once : (scripts : List Script) (s n moment : ℕ) (gone : List ℕ) (m : Meaning Run) (x y : Session)
    → Survives scripts s n moment gone m x y → (test : List ℕ → Bool) (is_so : Run → Bool)
    → CountsTold (protocol scripts) (texts scripts) test runtime_of (λ r. once (is_so r)) → is_so m.program ≡ false
    → length (filter test (all_new scripts s n moment gone m))
    ≡ once (x.runtime && is_so (apply scripts m (Ran (suc n) moment gone)).program)
run-once scripts s n moment gone m x y is test is_so counts none =
    let new = length (filter test (all_new scripts s n moment gone m)) in
    once-weighed x.runtime (is_so (apply scripts m (Ran (suc n) moment gone)).program) new
    (ap (λ b. weighed x.runtime (once b) + new) (sym none)
    ∙ run-counts scripts s n moment gone m x y is test (λ r. once (is_so r)) counts)

run-moments : (scripts : List Script) (s n moment : ℕ) (gone : List ℕ) (m : Meaning Run)
    → AllAre (IsPrintAt moment) (all_new scripts s n moment gone m)
run-moments scripts s n moment gone m =
    let P = protocol scripts in
    let E = texts scripts in
    let H : List ℕ → Type 0 = IsPrintAt moment in
    all-append H (run_new scripts s n moment gone m) (go_new scripts s n moment gone m)
    (run-all P E H moment
    (λ t x. told-all H moment (λ values. print-at moment values)
    (λ details. no-print moment (throw_text details moment) (console_called.of_throw details moment))
    (no-print moment context_destroyed_text console_called.of_end) scripts t x)
    (λ number t x. stop-all H
    (λ frames thrown hits reason. no-print moment (paused_text frames thrown hits reason)
    (console_called.of_pause frames thrown hits reason))
    scripts number t x)
    n (has_stopped scripts n moment gone m) (is_listed gone s) (alone_at s m))
    (resume-all P E H (λ x. resumed-all H (no-print moment resumed_text console_called.of_resume) x)
    (went_on scripts n moment gone m) (led scripts s n moment gone m).seat)

run-parsed : (scripts : List Script) (s n moment : ℕ) (gone : List ℕ) (m : Meaning Run)
    → filter (is_event (codes "Debugger.scriptParsed")) (all_new scripts s n moment gone m) ≡ []
run-parsed scripts s n moment gone m =
    both-filtered (is_event (codes "Debugger.scriptParsed")) (run_new scripts s n moment gone m)
    (go_new scripts s n moment gone m) []
    (run-none (codes "Debugger.scriptParsed") false true script_parsed scripts moment n
    (has_stopped scripts n moment gone m) (is_listed gone s) (alone_at s m))
    (resume-none (protocol scripts) (texts scripts) (is_event (codes "Debugger.scriptParsed"))
    (λ z. go-none (codes "Debugger.scriptParsed") false false false false true script_parsed z)
    (went_on scripts n moment gone m) (led scripts s n moment gone m).seat)

-- no reply comes with a run
run-unanswered : (scripts : List Script) (s n moment : ℕ) (gone : List ℕ) (m : Meaning Run)
    → filter is_reply (all_new scripts s n moment gone m) ≡ []
run-unanswered scripts s n moment gone m =
    let P = protocol scripts in
    let E = texts scripts in
    let H : List ℕ → Type 0 = λ shown. is_reply shown ≡ false in
    none-of is_reply (all_new scripts s n moment gone m)
    (all-append H (run_new scripts s n moment gone m) (go_new scripts s n moment gone m)
    (run-all P E H moment (λ t x. told-events scripts moment t x) (λ number t x. stop-events scripts number t x) n
    (has_stopped scripts n moment gone m) (is_listed gone s) (alone_at s m))
    (resume-all P E H resume-events (went_on scripts n moment gone m) (led scripts s n moment gone m).seat))

run-resumed : (scripts : List Script) (s n moment : ℕ) (gone : List ℕ) (m : Meaning Run)
    → FitsEntry (protocol scripts) m (Ran (suc n) moment gone)
    → filter (is_event (codes "Debugger.resumed")) (all_new scripts s n moment gone m) ≡ []
run-resumed scripts s n moment gone m fits =
    both-filtered (is_event (codes "Debugger.resumed")) (run_new scripts s n moment gone m)
    (go_new scripts s n moment gone m) []
    (run-none (codes "Debugger.resumed") true false debugger_resumed scripts moment n
    (has_stopped scripts n moment gone m) (is_listed gone s) (alone_at s m))
    (resumed-disabled scripts (went_on scripts n moment gone m) (led scripts s n moment gone m).seat
    (λ goes. led-disabled scripts s n moment gone m fits goes))

-- all of it
run-all-sends : (scripts : List Script) (s n moment : ℕ) (gone : List ℕ) (m : Meaning Run) (x y : Session)
    → Survives scripts s n moment gone m x y → y.outbox ≡ x.outbox ++ all_new scripts s n moment gone m
    → RunSends s moment m (apply scripts m (Ran (suc n) moment gone)) x y
run-all-sends scripts s n moment gone m x y is waits =
    let k = apply scripts m (Ran (suc n) moment gone) in
    let goes = ready-goes (protocol scripts) (suc n) moment m is.fits in
    record {
      new = all_new scripts s n moment gone m;
      waits = waits;
      stopped = λ q paused enabled. run-stops scripts s n moment gone m x y is q paused enabled;
      runs_on = λ none. run-goes scripts s n moment gone m x y is (has_stopped scripts n moment gone m) refl none;
      disabled = λ none. run-disabled scripts s n moment gone m x y is none;
      resumed = run-resumed scripts s n moment gone m is.fits;
      printed = λ enabled. told-size x.runtime (prints_size m.program) (prints_size k.program)
          (length (filter (is_event (codes "Runtime.consoleAPICalled")) (all_new scripts s n moment gone m))) enabled
          (run-counts scripts s n moment gone m x y is (is_event (codes "Runtime.consoleAPICalled")) prints_size
          (prints-counted scripts));
      unprinted = λ disabled. none-length
          (filter (is_event (codes "Runtime.consoleAPICalled")) (all_new scripts s n moment gone m))
          (untold-size x.runtime (prints_size m.program) (prints_size k.program)
          (length (filter (is_event (codes "Runtime.consoleAPICalled")) (all_new scripts s n moment gone m))) disabled
          (run-counts scripts s n moment gone m x y is (is_event (codes "Runtime.consoleAPICalled")) prints_size
          (prints-counted scripts)));
      moments = prints-at moment (all_new scripts s n moment gone m) (run-moments scripts s n moment gone m);
      thrown = run-once scripts s n moment gone m x y is (is_event (codes "Runtime.exceptionThrown")) has_thrown
          (throws-counted scripts) (thrown-over m.program goes.0);
      ended = run-once scripts s n moment gone m x y is (is_event (codes "Runtime.executionContextDestroyed")) is_over
          (ends-counted scripts) goes.0;
      parsed = run-parsed scripts s n moment gone m;
      unanswered = run-unanswered scripts s n moment gone m;
    }
  where
    told-size : (v : Bool) (before after new : ℕ) → v ≡ true → weighed v before + new ≡ weighed v after
        → before + new ≡ after
    told-size true before after new is all = all
    told-size false before after new is all = absurd cc

    untold-size : (v : Bool) (before after new : ℕ) → v ≡ false → weighed v before + new ≡ weighed v after → new ≡ 0
    untold-size true before after new is all = absurd cc
    untold-size false before after new is all = none-before new 0 all

run-from : (scripts : List Script) (input : List (List ℕ)) (wait : Bool) (s n moment : ℕ) (gone : List ℕ)
    (history : List Entry) (x y : Session)
    → IsHistory scripts input wait (history ++ Ran (suc n) moment gone ∷ [])
    → seat_of s (whole scripts input wait history).seats ≡ Attached x
    → seat_of s (whole scripts input wait (history ++ Ran (suc n) moment gone ∷ [])).seats ≡ Attached y
    → RunSends s moment (whole scripts input wait history)
    (whole scripts input wait (history ++ Ran (suc n) moment gone ∷ [])) x y
run-from scripts input wait s n moment gone history x y fits here there =
    let P = protocol scripts in
    let E = texts scripts in
    let r = start scripts input in
    let m = whole scripts input wait history in
    let entry = Ran (suc n) moment gone in
    let front = fits-front P (begin scripts input wait) history entry fits in
    let more : whole scripts input wait (history ++ entry ∷ []) ≡ apply scripts m entry
    = longer scripts input wait history entry in
    let D : Meaning Run → Type 0 = λ k. RunSends s moment m k x y in
    subst D (sym more)
    (run-all-sends scripts s n moment gone m x y
    (record {
      fits = front.1;
      here = here;
      there = ap (λ k. seat_of s k.seats) (sym more) ∙ there;
      number = always-shown P number_of (number-kept scripts) s s refl r wait history front.0 x here;
    })
    (grows P E (sent scripts) s r wait history entry fits x y here there
    ∙ ap (λ l. x.outbox ++ l) (ran-texts P E s (suc n) moment gone m)))

-- ---- an entry of somebody else

other-handed : (scripts : List Script) (s : ℕ) (m : Meaning Run) (entry : Entry) → IsOfOther s entry
    → handed_at (protocol scripts) s m entry ≡ []
other-handed scripts s m Attach other = refl
other-handed scripts s m (Tell r text) other = refl
other-handed scripts s m (Take r) other =
    ap (λ b. if b then waiting (protocol scripts) (seat_of r m.seats) else []) (ne_eqb r s other)
other-handed scripts s m (Detach r) other = refl
other-handed scripts s m (Ran n moment gone) other = absurd other
other-handed scripts s m Shut other = refl

resume-choice : (x : Session) (b : Bool) → (if b then resume_texts x else []) ≡ goes_on_if (b && x.rules.enabled)
resume-choice x true = refl
resume-choice x false = refl

other-from : (scripts : List Script) (input : List (List ℕ)) (wait : Bool) (s : ℕ) (history : List Entry)
    (entry : Entry) (x y : Session)
    → IsHistory scripts input wait (history ++ entry ∷ []) → IsOfOther s entry
    → seat_of s (whole scripts input wait history).seats ≡ Attached x
    → seat_of s (whole scripts input wait (history ++ entry ∷ [])).seats ≡ Attached y
    → y.outbox ≡ x.outbox ++ goes_on_if (has_resumed (whole scripts input wait history)
    (whole scripts input wait (history ++ entry ∷ [])) && x.rules.enabled)
other-from scripts input wait s history entry x y fits other here there =
    let P = protocol scripts in
    let E = texts scripts in
    let m = whole scripts input wait history in
    let more : whole scripts input wait (history ++ entry ∷ []) ≡ apply scripts m entry
    = longer scripts input wait history entry in
    ap (λ l. l ++ y.outbox) (sym (other-handed scripts s m entry other))
    ∙ grows P E (sent scripts) s (start scripts input) wait history entry fits x y here there
    ∙ ap (λ l. x.outbox ++ l)
    (other-texts P E s m entry x other here
    ∙ resume-choice x (has_resumed m (apply scripts m entry))
    ∙ ap (λ k. goes_on_if (has_resumed m k && x.rules.enabled)) (sym more))

-- ---- a text of the session itself

own-seen : (scripts : List Script) (s : ℕ) (m : Meaning Run) (own : Seen) (others : List Seen) (b : Bool) → b ≡ true
    → see_all (protocol scripts) s (alone_at s m) (if b then own ∷ [] else others)
    ≡ see (protocol scripts) s (alone_at s m) own
own-seen scripts s m own others true is = refl
own-seen scripts s m own others false is = absurd cc

-- behind its text it shows what the answer leaves, where a resume keeps that
pub reply-shown : {B : Type 0} → (scripts : List Script) (f : Session → B)
    → ((x : Session) → f ((protocol scripts).resumed x) ≡ f x)
    → (s : ℕ) (m : Meaning Run) (text : List ℕ) (x y : Session)
    → seat_of s m.seats ≡ Attached x → seat_of s (apply scripts m (Tell s text)).seats ≡ Attached y
    → f y ≡ f ((protocol scripts).reply m.stop m.program text x)
reply-shown scripts f keeps s m text x y here there =
    let P = protocol scripts in
    let a = alone_at s m in
    let z : Session = P.reply m.stop m.program text x in
    let k = apply scripts m (Tell s text) in
    let b = has_resumed m k in
    let c : Alone Run Pause Session = record a { seat = replied P text a a.seat } in
    let at : alone_at s k ≡ goes_on P b c
    = (follows P s m (Tell s text) tt).goes
    ∙ own-seen scripts s m (Told text b) (mark b) (s == s) (eq-eqb s s refl) in
    let before : Shows f (f z) c.seat
    = subst (λ seat. Shows f (f z) (replied P text a seat)) (sym here)
    (shown-choice f (f z) (P.fits z) z Left refl tt) in
    let behind_it : Shows f (f z) (goes_on P b c).seat = goes-shows P f keeps (f z) b c before in
    shown-at f (f z) (goes_on P b c).seat y (ap (λ d. d.seat) (sym at) ∙ there) behind_it

pub go-picked : (test : List ℕ → Bool) (b : Bool) (z : Session) → ((x : Session) → filter test (resume_texts x) ≡ [])
    → filter test (if b then resume_texts z else []) ≡ []
go-picked test true z none = none z
go-picked test false z none = refl

go-once : (b : Bool) (z : Session)
    → filter (is_event (codes "Debugger.resumed")) (if b then resume_texts z else [])
    ≡ goes_on_if (b && z.rules.enabled)
go-once true z = go-kept z.rules.enabled
  where
    go-kept : (b : Bool)
        → filter (is_event (codes "Debugger.resumed")) (if b then resumed_text ∷ [] else [])
        ≡ goes_on_if b
    go-kept true = ap (λ b. if b then resumed_text ∷ [] else []) debugger_resumed.of_resume
    go-kept false = refl
go-once false z = refl

reply-all-sends : (scripts : List Script) (s : ℕ) (m : Meaning Run) (text : List ℕ) (goes : Bool) (x y : Session)
    → shown_of y ≡ shown_of ((protocol scripts).reply m.stop m.program text x)
    → y.outbox ≡ x.outbox ++ (reply_texts scripts m.stop m.program text x
    ++ (if goes then resume_texts ((protocol scripts).reply m.stop m.program text x) else []))
    → ReplySends scripts (is_paused m) goes x y
reply-all-sends scripts s m text goes x y same waits =
    let z : Session = (protocol scripts).reply m.stop m.program text x in
    let at : Situation = situation scripts m.stop (standing_of scripts m.program) in
    let reply = reply_texts scripts m.stop m.program text x in
    let rest = if goes then resume_texts z else [] in
    let says : AnswerSays at x z reply = answer-says at x text in
    let enabled : z.rules.enabled ≡ y.rules.enabled = ap (λ shown. shown.enabled) (sym same) in
    record {
      new = reply ++ rest;
      waits = waits;
      parsed =
          both-filtered (is_event (codes "Debugger.scriptParsed")) reply rest
          (if newly x z then map script_parsed_text scripts else []) says.parsed
          (go-picked (is_event (codes "Debugger.scriptParsed")) goes z
          (λ w. go-none (codes "Debugger.scriptParsed") false false false false true script_parsed w))
          ∙ ap (λ b. if b && not x.rules.enabled then map script_parsed_text scripts else []) enabled;
      stopped =
          ap length (both-filtered (is_event (codes "Debugger.paused")) reply rest
          (filter (is_event (codes "Debugger.paused")) reply) refl
          (go-picked (is_event (codes "Debugger.paused")) goes z
          (λ w. go-none (codes "Debugger.paused") false false false true false debugger_paused w)))
          ∙ says.paused
          ∙ ap (λ b. once ((b && not x.rules.enabled) && is_paused m)) enabled;
      resumed =
          filter-append (is_event (codes "Debugger.resumed")) reply rest
          ∙ ap (λ l. l ++ filter (is_event (codes "Debugger.resumed")) rest)
          (answer-none (codes "Debugger.resumed") false false false true debugger_resumed at x text)
          ∙ go-once goes z
          ∙ ap (λ b. goes_on_if (goes && b)) enabled;
      answered =
          ap length (both-filtered is_reply reply rest (filter is_reply reply) refl
          (go-picked is_reply goes z (λ w. none-of is_reply (resume_texts w) (resume-events w))))
          ∙ answer-once at x text;
      unprinted =
          both-filtered (is_event (codes "Runtime.consoleAPICalled")) reply rest []
          (answer-none (codes "Runtime.consoleAPICalled") true false false false console_called at x text)
          (go-picked (is_event (codes "Runtime.consoleAPICalled")) goes z
          (λ w. go-none (codes "Runtime.consoleAPICalled") true false false false false console_called w));
    }

reply-from : (scripts : List Script) (input : List (List ℕ)) (wait : Bool) (s : ℕ) (history : List Entry)
    (text : List ℕ) (x y : Session)
    → IsHistory scripts input wait (history ++ Tell s text ∷ [])
    → seat_of s (whole scripts input wait history).seats ≡ Attached x
    → seat_of s (whole scripts input wait (history ++ Tell s text ∷ [])).seats ≡ Attached y
    → ReplySends scripts (is_paused (whole scripts input wait history))
    (has_resumed (whole scripts input wait history) (whole scripts input wait (history ++ Tell s text ∷ []))) x y
reply-from scripts input wait s history text x y fits here there =
    let P = protocol scripts in
    let E = texts scripts in
    let m = whole scripts input wait history in
    let entry = Tell s text in
    let more : whole scripts input wait (history ++ entry ∷ []) ≡ apply scripts m entry
    = longer scripts input wait history entry in
    let D : Meaning Run → Type 0 = λ k. ReplySends scripts (is_paused m) (has_resumed m k) x y in
    subst D (sym more)
    (reply-all-sends scripts s m text (has_resumed m (apply scripts m entry)) x y
    (reply-shown scripts shown_of (passed-shown scripts).resumed s m text x y here (ap (λ k. seat_of s k.seats) (sym more) ∙ there))
    (grows P E (sent scripts) s (start scripts input) wait history entry fits x y here there
    ∙ ap (λ l. x.outbox ++ l) (own-texts P E s m text x here)))

-- ---- over any entry

-- the session before it, and after it
pub was-here : (scripts : List Script) (input : List (List ℕ)) (wait : Bool) (s : ℕ) (history : List Entry) (entry : Entry)
    (m k : Meaning Run) (x y : Session) → StaysOver scripts input wait s history entry m k x y
    → seat_of s (whole scripts input wait history).seats ≡ Attached x
was-here scripts input wait s history entry m k x y over = ap (λ l. seat_of s l.seats) (sym over.before) ∙ over.here

pub is-there : (scripts : List Script) (input : List (List ℕ)) (wait : Bool) (s : ℕ) (history : List Entry) (entry : Entry)
    (m k : Meaning Run) (x y : Session) → StaysOver scripts input wait s history entry m k x y
    → seat_of s (whole scripts input wait (history ++ entry ∷ [])).seats ≡ Attached y
is-there scripts input wait s history entry m k x y over = ap (λ l. seat_of s l.seats) (sym over.after) ∙ over.there

pub run-sends : (scripts : List Script) (input : List (List ℕ)) (wait : Bool) (s n moment : ℕ) (gone : List ℕ)
    (history : List Entry) (m k : Meaning Run) (x y : Session)
    → StaysOver scripts input wait s history (Ran (suc n) moment gone) m k x y → RunSends s moment m k x y
run-sends scripts input wait s n moment gone history m k x y over =
    let entry = Ran (suc n) moment gone in
    let D : Meaning Run → Type 0 = λ l. RunSends s moment l k x y in
    let F : Meaning Run → Type 0 = λ l. RunSends s moment (whole scripts input wait history) l x y in
    subst D (sym over.before)
    (subst F (sym over.after)
    (run-from scripts input wait s n moment gone history x y over.fits
    (was-here scripts input wait s history entry m k x y over)
    (is-there scripts input wait s history entry m k x y over)))

pub other-sends : (scripts : List Script) (input : List (List ℕ)) (wait : Bool) (s : ℕ) (history : List Entry)
    (entry : Entry) (m k : Meaning Run) (x y : Session)
    → StaysOver scripts input wait s history entry m k x y → IsOfOther s entry
    → y.outbox ≡ x.outbox ++ goes_on_if (has_resumed m k && x.rules.enabled)
other-sends scripts input wait s history entry m k x y over other =
    other-from scripts input wait s history entry x y over.fits other
    (was-here scripts input wait s history entry m k x y over)
    (is-there scripts input wait s history entry m k x y over)
    ∙ ap (λ l. x.outbox ++ goes_on_if (has_resumed l (whole scripts input wait (history ++ entry ∷ []))
    && x.rules.enabled)) (sym over.before)
    ∙ ap (λ l. x.outbox ++ goes_on_if (has_resumed m l && x.rules.enabled)) (sym over.after)

pub reply-sends : (scripts : List Script) (input : List (List ℕ)) (wait : Bool) (s : ℕ) (history : List Entry)
    (text : List ℕ) (m k : Meaning Run) (x y : Session)
    → StaysOver scripts input wait s history (Tell s text) m k x y
    → ReplySends scripts (is_paused m) (has_resumed m k) x y
reply-sends scripts input wait s history text m k x y over =
    let entry = Tell s text in
    let D : Meaning Run → Type 0 = λ l. ReplySends scripts (is_paused l) (has_resumed l k) x y in
    let F : Meaning Run → Type 0
    = λ l. ReplySends scripts (is_paused (whole scripts input wait history))
    (has_resumed (whole scripts input wait history) l) x y in
    subst D (sym over.before)
    (subst F (sym over.after)
    (reply-from scripts input wait s history text x y over.fits
    (was-here scripts input wait s history entry m k x y over)
    (is-there scripts input wait s history entry m k x y over)))
