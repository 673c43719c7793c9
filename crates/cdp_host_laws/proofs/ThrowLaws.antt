-- How the exceptions are counted that end a program.
use Rattle.std.proofs.Common.{◌≡◌, ◌<◌, ℕ, suc, pos, ◌+◌, ◌^◌, List, [], ◌∷◌, ◌++◌, filter, codes, nat_lt, Bool, true, false, if◌then◌else◌, Option, Some, None, refl, ap, sym, subst, ◌∙◌, lt-ltb}
use Rattle.std.proofs.lemmas.List.{append_cancel_left}
use Rattle.std.proofs.lemmas.List.Elements.{filter-append}
use Rattle.cdp_host_isolation.specs.Seats.{is_listed, reported, seat_of}
use Rattle.cdp_host_isolation.specs.Histories.{Entry, Ran}
use Rattle.cdp_host_isolation.specs.Alone.{Alone, alone_at, goes_on}
use Rattle.cdp_text.specs.declared.position.Place.{Place}
use Rattle.js_tree.specs.declared.script.Script.{Script}
use Rattle.js_heap.specs.declared.value.Value.{Value}
use Rattle.js_semantics.specs.Run.{Run}
use Rattle.cdp_json.specs.Json.{number, text}
use Rattle.cdp_session_messages.specs.Ends.{context_destroyed_text, throw_text, url_at}
use Rattle.cdp_session_messages.specs.Scripts.{script_id}
use Rattle.cdp_session.specs.Endings as ends
use Rattle.cdp_session.specs.Endings.{details_told, ending_texts, exception_told}
use Rattle.cdp_session.specs.Sessions.{Session, with_exception}
use Rattle.cdp_session.specs.Situations.{Situation}
use Rattle.cdp_session.specs.declared.ending.Ending.{Ending}
use Rattle.cdp_session.specs.declared.ending.Ending.TheVariants as endings
use Rattle.cdp_session.specs.declared.situation.Pause.{Pause}
use Rattle.cdp_host.specs.Histories.{Meaning, begin, whole}
use Rattle.cdp_host.specs.Programs.{next, start}
use Rattle.cdp_host.specs.Protocols.{protocol, stop_texts_of, texts}
use Rattle.cdp_host.specs.Steps.{end_texts, end_told, print_texts, print_told, seen_behind, step_of}
use Rattle.cdp_host.proofs.EndingLemmas.{ending-none}
use Rattle.cdp_host.proofs.HistoryLemmas.{longer}
use Rattle.cdp_host.proofs.ProtocolLemmas.{sent}
use Rattle.cdp_host_laws.specs.Events.{StaysOver, is_event}
use Rattle.cdp_host_laws.specs.Exceptions.{Counts, IsEventOf}
use Rattle.cdp_host_laws.proofs.EntryTextLemmas.{ran-texts}
use Rattle.cdp_host_laws.proofs.EventLaws.{Survives, all_new, both-filtered, go-none, go_new, has_stopped, is-there, led, led-there, run_new, seen-run, shows-here, was-here, went_on}
use Rattle.cdp_host_laws.proofs.ExceptionLaws.{exceptions_of, resumed-count}
use Rattle.cdp_host_laws.proofs.GrowthLemmas.{fits-front, grows}
use Rattle.cdp_host_laws.proofs.LastStepLemmas.{EndsAlone, LastStep, run-last}
use Rattle.cdp_host_laws.proofs.RunTextLemmas.{ready-goes, resume-none}
use Rattle.cdp_host_laws.proofs.SeenLemmas.{always-shown, goes-shows, reported-shows, shown-at}
use Rattle.cdp_host_laws.proofs.ShownLemmas.{number-kept, number_of}
use Rattle.cdp_host_laws.proofs.TextKindLemmas.{exception_thrown, none-of, print-all, stop-all}

-- the events of a throw
abbrev is_throw : List ℕ → Bool
is_throw shown = is_event (codes "Runtime.exceptionThrown") shown

-- ---- one step

either-count : (b : Bool) (x y : Session) → y.exceptions ≡ x.exceptions
    → (if b then y else x).exceptions ≡ x.exceptions
either-count true x y is = is
either-count false x y is = refl

print-count : (s : Situation) (values : Option (List Value)) (moment : ℕ) (x : Session)
    → (print_told s values moment x).exceptions ≡ x.exceptions
print-count s None moment x = refl
print-count s (Some values) moment x = either-count x.runtime x _ refl

prints-none : (s : Situation) (values : Option (List Value)) (moment : ℕ) (x : Session)
    → filter is_throw (print_texts s values moment x) ≡ []
prints-none s values moment x =
    none-of is_throw (print_texts s values moment x)
    (print-all (λ shown. is_throw shown ≡ false) moment (λ told. exception_thrown.of_print told moment) s values x)

next-one : (n : ℕ) → n < 2 ^ 62 → (if nat_lt n (2 ^ 62) then n + 1 else n) ≡ n + 1
next-one n below = ap (λ b. if b then n + 1 else n) (lt-ltb n (2 ^ 62) below)

throw-event : (s : Situation) (v : Value) (place : Place) (moment : ℕ) (y : Session)
    → IsEventOf moment (with_exception y).exceptions (throw_text (details_told s v place y) moment)
throw-event s v place moment y = record {
  details = details_told s v place y;
  told = refl;
  are = (
    (codes "columnNumber", number (pos place.pos.col)) ∷ (codes "exception", (exception_told s v y).made) ∷ [],
    (
      (codes "lineNumber", number (pos place.pos.line))
          ∷ (codes "scriptId", text (script_id place.script))
          ∷ (codes "text", text (codes "Uncaught"))
          ∷ (codes "url", text (url_at s.scripts place)) ∷ [],
      refl,
    ),
  );
}

destroyed-none : filter is_throw (context_destroyed_text ∷ []) ≡ []
destroyed-none = none-of is_throw (context_destroyed_text ∷ []) (exception_thrown.of_end, tt)

finished-counts : (s : Situation) (moment : ℕ) (y : Session) (b : Bool)
    → Counts (IsEventOf moment) y.exceptions (if b then ends.end_told s endings.Finished moment y else y).exceptions
    (filter is_throw (if b then ending_texts s endings.Finished moment y ++ context_destroyed_text ∷ [] else []))
finished-counts s moment y true =
    subst (λ l. Counts (IsEventOf moment) y.exceptions y.exceptions l) (sym destroyed-none) refl
finished-counts s moment y false = refl

threw-counts : (s : Situation) (v : Value) (place : Place) (moment : ℕ) (y : Session) (b : Bool)
    → Counts (IsEventOf moment) y.exceptions (if b then ends.end_told s (endings.Threw v place) moment y else y).exceptions
    (filter is_throw
    (if b then ending_texts s (endings.Threw v place) moment y ++ context_destroyed_text ∷ [] else []))
threw-counts s v place moment y true =
    let shown : List ℕ = throw_text (details_told s v place y) moment in
    let one : filter is_throw (shown ∷ context_destroyed_text ∷ []) ≡ shown ∷ []
    = ap (λ b. if b then shown ∷ filter is_throw (context_destroyed_text ∷ [])
    else filter is_throw (context_destroyed_text ∷ []))
    (exception_thrown.of_throw (details_told s v place y) moment)
    ∙ ap (λ l. shown ∷ l) destroyed-none in
    subst (λ l. Counts (IsEventOf moment) y.exceptions (with_exception y).exceptions l) (sym one)
    (λ below. next-one y.exceptions below, throw-event s v place moment y, refl)
threw-counts s v place moment y false = refl

end-counts : (s : Situation) (ending : Option Ending) (moment : ℕ) (y : Session)
    → Counts (IsEventOf moment) y.exceptions (end_told s ending moment y).exceptions
    (filter is_throw (end_texts s ending moment y))
end-counts s None moment y = refl
end-counts s (Some endings.Finished) moment y = finished-counts s moment y y.runtime
end-counts s (Some (endings.Threw v place)) moment y = threw-counts s v place moment y y.runtime

step-counts : (scripts : List Script) (moment : ℕ) (first : Bool) (c : Run) (x : Session)
    → Counts (IsEventOf moment) x.exceptions
    ((protocol scripts).told moment (step_of scripts first c) x).exceptions
    (filter is_throw ((texts scripts).told moment (step_of scripts first c) x))
step-counts scripts moment first c x =
    let t = step_of scripts first c in
    let s = seen_behind scripts t in
    let y : Session = print_told s t.values moment x in
    let last : List (List ℕ) = end_texts s t.ending moment y in
    let picked : filter is_throw (print_texts s t.values moment x ++ last) ≡ filter is_throw last
    = filter-append is_throw (print_texts s t.values moment x) last
    ∙ ap (λ l. l ++ filter is_throw last) (prints-none s t.values moment x) in
    subst (λ l. Counts (IsEventOf moment) x.exceptions (end_told s t.ending moment y).exceptions l) (sym picked)
    (subst (λ i. Counts (IsEventOf moment) i (end_told s t.ending moment y).exceptions (filter is_throw last))
    (print-count s t.values moment x) (end-counts s t.ending moment y))

-- only the step that ends the program tells of an exception
ends-alone : (scripts : List Script) → EndsAlone (protocol scripts) (texts scripts) is_throw exceptions_of
ends-alone scripts = record {
  kept = λ moment first c x goes.
      let t = step_of scripts first c in
      let s = seen_behind scripts t in
      let y : Session = print_told s t.values moment x in
      ap (λ o. (end_told s o moment y).exceptions) (ending-none scripts (next scripts c) goes)
      ∙ print-count s t.values moment x;
  quiet = λ moment first c x goes.
      let t = step_of scripts first c in
      let s = seen_behind scripts t in
      let y : Session = print_told s t.values moment x in
      filter-append is_throw (print_texts s t.values moment x) (end_texts s t.ending moment y)
      ∙ ap (λ l. l ++ filter is_throw (end_texts s t.ending moment y)) (prints-none s t.values moment x)
      ∙ ap (λ o. filter is_throw (end_texts s o moment y)) (ending-none scripts (next scripts c) goes);
  stopped = λ stop t x. refl;
  stops_quiet = λ stop t x. none-of is_throw (stop_texts_of scripts stop t x)
      (stop-all (λ shown. is_throw shown ≡ false) exception_thrown.of_pause scripts stop t x);
}

-- ---- a run

run-throws : (scripts : List Script) (s n moment : ℕ) (gone : List ℕ) (m : Meaning Run) (x y : Session)
    → Survives scripts s n moment gone m x y
    → Counts (IsEventOf moment) x.exceptions y.exceptions (filter is_throw (all_new scripts s n moment gone m))
run-throws scripts s n moment gone m x y is =
    let P = protocol scripts in
    let E = texts scripts in
    let b = led scripts s n moment gone m in
    let goes = went_on scripts n moment gone m in
    let after : Alone Run Pause Session = record b { seat = reported b.seat } in
    let last : LastStep P E is_throw exceptions_of x.exceptions moment (run_new scripts s n moment gone m) b.seat
    = run-last P E is_throw exceptions_of (ends-alone scripts) x.exceptions moment n (has_stopped scripts n moment gone m)
    (is_listed gone s) (alone_at s m) (ready-goes P (suc n) moment m is.fits)
    (shows-here exceptions_of (seat_of s m.seats) x is.here) (led-there scripts s n moment gone m x y is) in
    let told : Session = P.told moment (P.tells last.first last.program) last.session in
    let count : y.exceptions ≡ told.exceptions
    = shown-at exceptions_of told.exceptions (goes_on P goes after).seat y
    (ap (λ a. a.seat) (sym (seen-run scripts s n moment gone m is.fits)) ∙ is.there)
    (goes-shows P exceptions_of (resumed-count scripts) told.exceptions goes after
    (reported-shows exceptions_of told.exceptions b.seat last.left)) in
    let picked : filter is_throw (all_new scripts s n moment gone m)
    ≡ filter is_throw (E.told moment (P.tells last.first last.program) last.session)
    = both-filtered is_throw (run_new scripts s n moment gone m) (go_new scripts s n moment gone m)
    (filter is_throw (E.told moment (P.tells last.first last.program) last.session)) last.picked
    (resume-none P E is_throw
    (λ z. go-none (codes "Runtime.exceptionThrown") false true false false false exception_thrown z) goes b.seat) in
    subst (λ l. Counts (IsEventOf moment) x.exceptions y.exceptions l) (sym picked)
    (subst (λ i. Counts (IsEventOf moment) x.exceptions i
    (filter is_throw (E.told moment (P.tells last.first last.program) last.session))) (sym count)
    (subst (λ i. Counts (IsEventOf moment) i told.exceptions
    (filter is_throw (E.told moment (P.tells last.first last.program) last.session))) last.shown
    (step-counts scripts moment last.first last.program last.session)))

pub run-next : (scripts : List Script) (input : List (List ℕ)) (wait : Bool) (s n moment : ℕ) (gone : List ℕ)
    (history : List Entry) (m k : Meaning Run) (x y : Session) (new : List (List ℕ))
    → StaysOver scripts input wait s history (Ran (suc n) moment gone) m k x y → y.outbox ≡ x.outbox ++ new
    → Counts (IsEventOf moment) x.exceptions y.exceptions (filter is_throw new)
run-next scripts input wait s n moment gone history m k x y new over waits =
    let P = protocol scripts in
    let E = texts scripts in
    let r = start scripts input in
    let entry = Ran (suc n) moment gone in
    let l = whole scripts input wait history in
    let front = fits-front P (begin scripts input wait) history entry over.fits in
    let here = was-here scripts input wait s history entry m k x y over in
    let there = is-there scripts input wait s history entry m k x y over in
    let more = longer scripts input wait history entry in
    let same : new ≡ all_new scripts s n moment gone l
    = append_cancel_left x.outbox new (all_new scripts s n moment gone l)
    (sym waits
    ∙ grows P E (sent scripts) s r wait history entry over.fits x y here there
    ∙ ap (λ texts. x.outbox ++ texts) (ran-texts P E s (suc n) moment gone l)) in
    subst (λ texts. Counts (IsEventOf moment) x.exceptions y.exceptions (filter is_throw texts)) (sym same)
    (run-throws scripts s n moment gone l x y
    (record {
      fits = front.1;
      here = here;
      there = ap (λ o. seat_of s o.seats) (sym more) ∙ there;
      number = always-shown P number_of (number-kept scripts) s s refl r wait history front.0 x here;
    }))
