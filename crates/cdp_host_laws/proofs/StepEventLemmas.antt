-- Which events a step, a stop and a resume tell, and how many.
use Rattle.std.proofs.Common.{◌≡◌, ℕ, ◌+◌, List, [], ◌∷◌, ◌++◌, length, map, filter, codes, pos, Bool, true, false, if◌then◌else◌, Option, Some, None, refl, ap, sym, subst, ◌∙◌, arith, length-append}
use Rattle.std.proofs.lemmas.List.Elements.{filter-append}
use Rattle.cdp_text.specs.declared.position.Place.{Place}
use Rattle.js_tree.specs.Scripts.{script_numbered}
use Rattle.js_tree.specs.declared.script.Script.{Script}
use Rattle.js_heap.specs.BuiltIns.{script_scope}
use Rattle.js_heap.specs.declared.value.Value.{Value}
use Rattle.js_semantics.specs.Run.{Run, running, over, ended, threw, by_effect, by_full}
use Rattle.js_machine_engine.specs.Prints.{PrintsOneText}
use Rattle.js_machine_engine.proofs.TextLemmas.{step-text}
use Rattle.cdp_json.specs.Json.{Json, number, text}
use Rattle.cdp_json.specs.Messages.{event_text}
use Rattle.cdp_json.specs.Parts.{list_of, location, object_of}
use Rattle.stepping.specs.declared.cause.Cause.{Cause}
use Rattle.frames_scopes_types.specs.Frames.{ShownFrame}
use Rattle.object_groups.specs.Handles as handles
use Rattle.remote_objects.specs.CallFrames.{frame_made, frames_from, function_pairs, receiver_made, scopes_made, url_of}
use Rattle.remote_objects.specs.Sights.{Sight}
use Rattle.cdp_session_messages.specs.Ends.{context_destroyed_text, throw_text}
use Rattle.cdp_session_messages.specs.Prints.{print_text}
use Rattle.cdp_session_messages.specs.Results.{resumed_text}
use Rattle.cdp_session.specs.Consoles.{values_told}
use Rattle.cdp_session.specs.Endings.{details_told, ending_texts}
use Rattle.cdp_session.specs.Pauses.{data_told, frames_told, reason_of, sight_of}
use Rattle.cdp_session.specs.Sessions.{Session}
use Rattle.cdp_session.specs.Situations.{Situation}
use Rattle.cdp_session.specs.Stops.{cause_of, hit_ids, stop_told}
use Rattle.cdp_session.specs.declared.ending.Ending.{Ending}
use Rattle.cdp_session.specs.declared.ending.Ending.TheVariants as endings
use Rattle.cdp_host.specs.Arrivals.{place_of}
use Rattle.cdp_session.specs.Code.{code_of}
use Rattle.cdp_host.specs.Programs.{has_thrown, is_over, next, printed_of, prints_next}
use Rattle.cdp_host.specs.Protocols.{protocol, resume_texts, stop_texts_of, texts}
use Rattle.cdp_host.specs.Standings.{ending_by, ending_of, place_or_nowhere}
use Rattle.cdp_host.specs.Steps.{Step, end_texts, print_texts, print_told, seen_behind, step_of}
use Rattle.cdp_host_laws.specs.Events.{AreFramesFrom, ArePrintsAt, TellsOfStop, is_event, once}
use Rattle.cdp_host_laws.proofs.RunTextLemmas.{AllAre, CountsTold, weighed}
use Rattle.cdp_host_laws.proofs.ShownLemmas.{print-shown}
use Rattle.cdp_host_laws.proofs.TextKindLemmas.{console_called, context_destroyed, debugger_paused, end-all, exception_thrown, none-of, print-all, resumed-all, stop-all}

-- ---- sizes

abbrev pub prints_size : Run → ℕ
prints_size r = length (printed_of r)

abbrev pub end_size : Run → ℕ
end_size r = once (is_over r)

abbrev pub throw_size : Run → ℕ
throw_size r = once (has_thrown r)

abbrev pub runtime_of : Session → Bool
runtime_of x = x.runtime

-- ---- sums

-- of two lists of texts the second has none, or the first
first-only : (test : List ℕ → Bool) (xs ys : List (List ℕ)) (a b : ℕ) → filter test ys ≡ []
    → a + length (filter test xs) ≡ b → a + length (filter test (xs ++ ys)) ≡ b
first-only test xs ys a b none is =
    let all : length (filter test (xs ++ ys)) ≡ length (filter test xs) + length (filter test ys)
    = ap length (filter-append test xs ys) ∙ length-append (filter test xs) (filter test ys) in
    let no : length (filter test ys) ≡ 0 = ap length none in
    omega (arith, all, no, is)

second-only : (test : List ℕ → Bool) (xs ys : List (List ℕ)) (a b : ℕ) → filter test xs ≡ []
    → a + length (filter test ys) ≡ b → a + length (filter test (xs ++ ys)) ≡ b
second-only test xs ys a b none is =
    let all : length (filter test (xs ++ ys)) ≡ length (filter test xs) + length (filter test ys)
    = ap length (filter-append test xs ys) ∙ length-append (filter test xs) (filter test ys) in
    let no : length (filter test xs) ≡ 0 = ap length none in
    omega (arith, all, no, is)

-- ---- prints

plus-none : (a b new : ℕ) → new ≡ 0 → b ≡ a → a + new ≡ b
plus-none a b new none same = omega (arith, none, same)

plus-one : (a b new : ℕ) → new ≡ 1 → b ≡ a + 1 → a + new ≡ b
plus-one a b new one more = omega (arith, one, more)

one-printed : (test : List ℕ → Bool) (shown : List ℕ) (v : Bool) (before after : List (List ℕ)) (more : List ℕ)
    → test shown ≡ true → after ≡ before ++ more ∷ []
    → weighed v (length before) + length (filter test (if v then shown ∷ [] else [])) ≡ weighed v (length after)
one-printed test shown true before after more is grows =
    let long : length after ≡ length before + 1 = ap length grows ∙ length-append before (more ∷ []) in
    let one : length (filter test (shown ∷ [])) ≡ 1 = ap (λ b. length (if b then shown ∷ [] else [])) is in
    plus-one (length before) (length after) (length (filter test (shown ∷ []))) one long
one-printed test shown false before after more is grows = refl

prints-by : (scripts : List Script) (s : Situation) (moment : ℕ) (x : Session) (values : Option (List Value))
    (before after : List (List ℕ)) → PrintsOneText values before after
    → weighed x.runtime (length before)
    + length (filter (is_event (codes "Runtime.consoleAPICalled")) (print_texts s values moment x))
    ≡ weighed x.runtime (length after)
prints-by scripts s moment x None before after is =
    plus-none (weighed x.runtime (length before)) (weighed x.runtime (length after))
    (length (filter (is_event (codes "Runtime.consoleAPICalled")) (print_texts s None moment x))) refl
    (ap (λ l. weighed x.runtime (length l)) is)
prints-by scripts s moment x (Some values) before after is =
    one-printed (is_event (codes "Runtime.consoleAPICalled")) (print_text (values_told s values x).made moment)
    x.runtime before after is.0 (console_called.of_print (values_told s values x).made moment) is.1

next-text : (scripts : List Script) (r : Run)
    → PrintsOneText (prints_next scripts r) (printed_of r) (printed_of (next scripts r))
unfolding prints_next next
next-text scripts r = step-text (code_of scripts) script_scope r

-- a step is told of as printing to those that have the domain Runtime enabled, for each text that it prints
pub prints-counted : (scripts : List Script)
    → CountsTold (protocol scripts) (texts scripts) (is_event (codes "Runtime.consoleAPICalled")) runtime_of prints_size
prints-counted scripts = record {
  told = λ moment first c x goes.
      let t = step_of scripts first c in
      let s = seen_behind scripts t in
      let y : Session = print_told s t.values moment x in
      first-only (is_event (codes "Runtime.consoleAPICalled")) (print_texts s (prints_next scripts c) moment x)
      (end_texts s (ending_of scripts (next scripts c)) moment y) (weighed x.runtime (length (printed_of c)))
      (weighed x.runtime (length (printed_of (next scripts c))))
      (none-of (is_event (codes "Runtime.consoleAPICalled")) (end_texts s (ending_of scripts (next scripts c)) moment y)
      (end-all (λ shown. is_event (codes "Runtime.consoleAPICalled") shown ≡ false) moment
      (λ details. console_called.of_throw details moment) console_called.of_end s
      (ending_of scripts (next scripts c)) y))
      (prints-by scripts s moment x (prints_next scripts c) (printed_of c) (printed_of (next scripts c))
      (next-text scripts c));
  stopped = λ stop t x. none-of (is_event (codes "Runtime.consoleAPICalled")) (stop_texts_of scripts stop t x)
      (stop-all (λ shown. is_event (codes "Runtime.consoleAPICalled") shown ≡ false) console_called.of_pause scripts
      stop t x);
  resumed = λ x. none-of (is_event (codes "Runtime.consoleAPICalled")) (resume_texts x)
      (resumed-all (λ shown. is_event (codes "Runtime.consoleAPICalled") shown ≡ false) console_called.of_resume x);
}

-- ---- the end

weighed-none : (v : Bool) → weighed v 0 ≡ 0
weighed-none true = refl
weighed-none false = refl

-- the texts of the end of a run, as far as one session that has the domain Runtime enabled is told them
ending-none : (test : List ℕ → Bool) (moment : ℕ) → ((details : Json) → test (throw_text details moment) ≡ false)
    → (s : Situation) (ending : Ending) (y : Session) → filter test (ending_texts s ending moment y) ≡ []
ending-none test moment none s endings.Finished y = refl
ending-none test moment none s (endings.Threw v place) y =
    none-of test (throw_text (details_told s v place y) moment ∷ []) (none (details_told s v place y), tt)

end-once : (s : Situation) (moment : ℕ) (y : Session) (ending : Ending) (b : Bool)
    → length (filter (is_event (codes "Runtime.executionContextDestroyed"))
    (if b then ending_texts s ending moment y ++ context_destroyed_text ∷ [] else [])) ≡ weighed b 1
end-once s moment y ending true =
    let test = is_event (codes "Runtime.executionContextDestroyed") in
    ap length (filter-append test (ending_texts s ending moment y) (context_destroyed_text ∷ [])
    ∙ ap (λ l. l ++ filter test (context_destroyed_text ∷ []))
    (ending-none test moment (λ details. context_destroyed.of_throw details moment) s ending y))
    ∙ ap (λ b. length (if b then context_destroyed_text ∷ [] else [])) context_destroyed.of_end
end-once s moment y ending false = refl

ends-by : (scripts : List Script) (s : Situation) (moment : ℕ) (y : Session) (r : Run)
    → length (filter (is_event (codes "Runtime.executionContextDestroyed"))
    (end_texts s (ending_of scripts r) moment y))
    ≡ weighed y.runtime (end_size r)
unfolding ending_of
ends-by scripts s moment y (running t state) = sym (weighed-none y.runtime)
ends-by scripts s moment y (over f state) = end-once s moment y (ending_by scripts f) y.runtime

finish-none : (s : Situation) (moment : ℕ) (y : Session) (b : Bool)
    → length (filter (is_event (codes "Runtime.exceptionThrown"))
    (if b then ending_texts s endings.Finished moment y ++ context_destroyed_text ∷ [] else [])) ≡ weighed b 0
finish-none s moment y true =
    ap length (none-of (is_event (codes "Runtime.exceptionThrown")) (context_destroyed_text ∷ [])
    (exception_thrown.of_end, tt))
finish-none s moment y false = refl

throw-once : (s : Situation) (moment : ℕ) (y : Session) (v : Value) (place : Place) (b : Bool)
    → length (filter (is_event (codes "Runtime.exceptionThrown"))
    (if b then ending_texts s (endings.Threw v place) moment y ++ context_destroyed_text ∷ [] else [])) ≡ weighed b 1
throw-once s moment y v place true =
    let test = is_event (codes "Runtime.exceptionThrown") in
    let shown : List ℕ = throw_text (details_told s v place y) moment in
    ap (λ b. length (if b then shown ∷ filter test (context_destroyed_text ∷ [])
    else filter test (context_destroyed_text ∷ [])))
    (exception_thrown.of_throw (details_told s v place y) moment)
    ∙ ap (λ l. length (shown ∷ l)) (none-of test (context_destroyed_text ∷ []) (exception_thrown.of_end, tt))
throw-once s moment y v place false = refl

throws-by : (scripts : List Script) (s : Situation) (moment : ℕ) (y : Session) (r : Run)
    → length (filter (is_event (codes "Runtime.exceptionThrown")) (end_texts s (ending_of scripts r) moment y))
    ≡ weighed y.runtime (throw_size r)
unfolding ending_of
throws-by scripts s moment y (running t state) = sym (weighed-none y.runtime)
throws-by scripts s moment y (over (ended v) state) = finish-none s moment y y.runtime
throws-by scripts s moment y (over (threw v spot) state) =
    throw-once s moment y v (place_or_nowhere (place_of scripts spot.source spot.mark)) y.runtime
throws-by scripts s moment y (over by_effect state) = finish-none s moment y y.runtime
throws-by scripts s moment y (over (by_full what) state) = finish-none s moment y y.runtime

pub thrown-over : (r : Run) → is_over r ≡ false → has_thrown r ≡ false
thrown-over (running t state) goes = refl
thrown-over (over f state) goes = absurd cc

from-none : (v w : Bool) (size new more : ℕ) → size ≡ 0 → w ≡ v → new ≡ weighed w more
    → weighed v size + new ≡ weighed v more
from-none v w size new more none same is =
    let zero_size : weighed v size ≡ 0 = ap (λ n. weighed v n) none ∙ weighed-none v in
    let here : new ≡ weighed v more = is ∙ ap (λ b. weighed b more) same in
    omega (arith, zero_size, here)

-- the end of a run that wasn't over is told once
pub ends-counted : (scripts : List Script)
    → CountsTold (protocol scripts) (texts scripts) (is_event (codes "Runtime.executionContextDestroyed")) runtime_of
    end_size
ends-counted scripts = record {
  told = λ moment first c x goes.
      let t = step_of scripts first c in
      let s = seen_behind scripts t in
      let y : Session = print_told s t.values moment x in
      let test = is_event (codes "Runtime.executionContextDestroyed") in
      second-only test (print_texts s (prints_next scripts c) moment x)
      (end_texts s (ending_of scripts (next scripts c)) moment y) (weighed x.runtime (end_size c))
      (weighed x.runtime (end_size (next scripts c)))
      (none-of test (print_texts s (prints_next scripts c) moment x)
      (print-all (λ shown. test shown ≡ false) moment (λ values. context_destroyed.of_print values moment) s
      (prints_next scripts c) x))
      (from-none x.runtime y.runtime (end_size c)
      (length (filter test (end_texts s (ending_of scripts (next scripts c)) moment y)))
      (end_size (next scripts c)) (ap once goes)
      (ap (λ shown. shown.runtime) (print-shown s (prints_next scripts c) moment x))
      (ends-by scripts s moment y (next scripts c)));
  stopped = λ stop t x. none-of (is_event (codes "Runtime.executionContextDestroyed"))
      (stop_texts_of scripts stop t x)
      (stop-all (λ shown. is_event (codes "Runtime.executionContextDestroyed") shown ≡ false) context_destroyed.of_pause
      scripts stop t x);
  resumed = λ x. none-of (is_event (codes "Runtime.executionContextDestroyed")) (resume_texts x)
      (resumed-all (λ shown. is_event (codes "Runtime.executionContextDestroyed") shown ≡ false)
      context_destroyed.of_resume x);
}

-- and so is a throw that ended it
pub throws-counted : (scripts : List Script)
    → CountsTold (protocol scripts) (texts scripts) (is_event (codes "Runtime.exceptionThrown")) runtime_of throw_size
throws-counted scripts = record {
  told = λ moment first c x goes.
      let t = step_of scripts first c in
      let s = seen_behind scripts t in
      let y : Session = print_told s t.values moment x in
      let test = is_event (codes "Runtime.exceptionThrown") in
      second-only test (print_texts s (prints_next scripts c) moment x)
      (end_texts s (ending_of scripts (next scripts c)) moment y) (weighed x.runtime (throw_size c))
      (weighed x.runtime (throw_size (next scripts c)))
      (none-of test (print_texts s (prints_next scripts c) moment x)
      (print-all (λ shown. test shown ≡ false) moment (λ values. exception_thrown.of_print values moment) s
      (prints_next scripts c) x))
      (from-none x.runtime y.runtime (throw_size c)
      (length (filter test (end_texts s (ending_of scripts (next scripts c)) moment y)))
      (throw_size (next scripts c)) (ap once (thrown-over c goes))
      (ap (λ shown. shown.runtime) (print-shown s (prints_next scripts c) moment x))
      (throws-by scripts s moment y (next scripts c)));
  stopped = λ stop t x. none-of (is_event (codes "Runtime.exceptionThrown")) (stop_texts_of scripts stop t x)
      (stop-all (λ shown. is_event (codes "Runtime.exceptionThrown") shown ≡ false) exception_thrown.of_pause scripts
      stop t x);
  resumed = λ x. none-of (is_event (codes "Runtime.exceptionThrown")) (resume_texts x)
      (resumed-all (λ shown. is_event (codes "Runtime.exceptionThrown") shown ≡ false) exception_thrown.of_resume x);
}

-- ---- the moment of a print

-- a text that is the event of a print is the one at this moment
abbrev pub IsPrintAt : ℕ → List ℕ → Type 0
IsPrintAt moment shown =
    is_event (codes "Runtime.consoleAPICalled") shown ≡ true
    → (values : Json) × (shown ≡ event_text (codes "Runtime.consoleAPICalled") (object_of (
    (codes "args", values)
    ∷ (codes "executionContextId", number (pos 1))
    ∷ (codes "timestamp", number (pos moment))
    ∷ (codes "type", text (codes "log")) ∷ [])))

pub print-at : (moment : ℕ) (values : List Json) → IsPrintAt moment (print_text values moment)
print-at moment values = λ is. (list_of values, refl)

-- one that isn't such an event
pub no-print : (moment : ℕ) (shown : List ℕ) → is_event (codes "Runtime.consoleAPICalled") shown ≡ false
    → IsPrintAt moment shown
no-print moment shown not_one = λ is. absurd cc

pub prints-at : (moment : ℕ) (told : List (List ℕ)) → AllAre (IsPrintAt moment) told
    → ArePrintsAt moment (filter (is_event (codes "Runtime.consoleAPICalled")) told)
prints-at moment [] all = tt
prints-at moment (shown ∷ told) all =
    one-more moment shown (is_event (codes "Runtime.consoleAPICalled") shown)
    (filter (is_event (codes "Runtime.consoleAPICalled")) told) all.0 (prints-at moment told all.1)
  where
    one-more : (moment : ℕ) (shown : List ℕ) (b : Bool) (rest : List (List ℕ))
        → (b ≡ true → (values : Json) × (shown ≡ event_text (codes "Runtime.consoleAPICalled") (object_of (
        (codes "args", values)
        ∷ (codes "executionContextId", number (pos 1))
        ∷ (codes "timestamp", number (pos moment))
        ∷ (codes "type", text (codes "log")) ∷ []))))
        → ArePrintsAt moment rest → ArePrintsAt moment (if b then shown ∷ rest else rest)
    one-more moment shown true rest one more = (one refl, more)
    one-more moment shown false rest one more = more

-- ---- the event of a stop

frames-ids : (sight : Sight) (stop depth : ℕ) (frames : List ShownFrame) (h : handles.HeldHandles)
    → AreFramesFrom sight.session stop depth (frames_from sight stop depth frames h).made
frames-ids sight stop depth [] h = tt
frames-ids sight stop depth (f ∷ frames) h = (
  (
    function_pairs f.function_place
        ++ (codes "functionName", text f.name)
        ∷ (codes "location", location f.place)
        ∷ (codes "scopeChain", list_of (scopes_made sight f.scopes h).made)
        ∷ (codes "this", (receiver_made sight f h).made)
        ∷ (codes "url", text (url_of (script_numbered sight.scripts f.place.script))) ∷ [],
    refl,
  ),
  frames-ids sight stop (depth + 1) frames (frame_made sight stop depth f h).handles,
)

told-stop : (scripts : List Script) (session stop : ℕ) (t : Step) (z : Session) → z.number ≡ session
    → TellsOfStop session stop ((stop_told (seen_behind scripts t) stop t.arrival z).made ∷ [])
told-stop scripts session stop t z is =
    let s = seen_behind scripts t in
    let hits : List (List ℕ) = hit_ids s.standing t.arrival z in
    let cause : Option Cause = cause_of s.standing t.arrival z in
    record {
      frames = (frames_told s stop z).made;
      others =
          (data_told s stop cause z).made
          ++ ((codes "hitBreakpoints", list_of (map text hits)) ∷ (codes "reason", text (reason_of cause)) ∷ []);
      told = refl;
      ids = subst (λ k. AreFramesFrom k stop 0 (frames_told s stop z).made) is
          (frames-ids (sight_of s z) stop 0 s.standing.frames z.handles);
    }

-- a session that has the debugger enabled is told once of a stop
pub stop-told : (scripts : List Script) (session stop : ℕ) (t : Step) (z : Session) → z.number ≡ session
    → z.rules.enabled ≡ true
    → TellsOfStop session stop (filter (is_event (codes "Debugger.paused")) (stop_texts_of scripts stop t z))
stop-told scripts session stop t z is enabled =
    let s = seen_behind scripts t in
    let hits : List (List ℕ) = hit_ids s.standing t.arrival z in
    let cause : Option Cause = cause_of s.standing t.arrival z in
    let shown : List ℕ = (stop_told s stop t.arrival z).made in
    let test = is_event (codes "Debugger.paused") in
    let one : filter test (stop_texts_of scripts stop t z) ≡ shown ∷ []
    = ap (λ b. filter test (if b then shown ∷ [] else [])) enabled
    ∙ ap (λ b. if b then shown ∷ [] else [])
    (debugger_paused.of_pause (frames_told s stop z).made (data_told s stop cause z).made hits (reason_of cause)) in
    subst (λ l. TellsOfStop session stop l) (sym one) (told-stop scripts session stop t z is)

-- another one isn't told
pub stop-untold : (scripts : List Script) (stop : ℕ) (t : Step) (z : Session) → z.rules.enabled ≡ false
    → filter (is_event (codes "Debugger.paused")) (stop_texts_of scripts stop t z) ≡ []
stop-untold scripts stop t z disabled =
    let shown : List ℕ = (stop_told (seen_behind scripts t) stop t.arrival z).made in
    ap (λ b. filter (is_event (codes "Debugger.paused")) (if b then shown ∷ [] else [])) disabled

-- ---- the event of a resume

pub resume-once : (x : Session) (b : Bool) → x.rules.enabled ≡ b
    → resume_texts x ≡ (if b then resumed_text ∷ [] else [])
resume-once x b is = ap (λ c. if c then resumed_text ∷ [] else []) is
