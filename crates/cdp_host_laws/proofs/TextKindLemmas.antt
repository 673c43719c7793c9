-- What texts a session is told, by their kinds.
use Rattle.std.proofs.Common.{◌≡◌, ℕ, ◌+◌, List, [], ◌∷◌, ◌++◌, map, filter, codes, Bool, true, false, if◌then◌else◌, Option, Some, None, refl, ap, ◌∙◌}
use Rattle.js_tree.specs.declared.script.Script.{Script}
use Rattle.js_heap.specs.declared.value.Value.{Value}
use Rattle.cdp_json.specs.Json.{Json}
use Rattle.cdp_json.specs.Messages.{refusal_text, result_text}
use Rattle.cdp_json.specs.Parts.{Pair}
use Rattle.cdp_json.specs.declared.refusal.Refusal.{Refusal}
use Rattle.json.specs.Print.{escape_byte}
use Rattle.cdp_session_messages.specs.Ends.{context_destroyed_text, throw_text}
use Rattle.cdp_session_messages.specs.Prints.{print_text}
use Rattle.cdp_session_messages.specs.Results.{context_created_text, paused_text, resumed_text}
use Rattle.cdp_session_messages.specs.Scripts.{script_parsed_text}
use Rattle.stepping.specs.declared.cause.Cause.{Cause}
use Rattle.cdp_session.specs.Consoles.{values_told}
use Rattle.cdp_session.specs.Endings.{details_told, ending_texts}
use Rattle.cdp_session.specs.Pauses.{data_told, frames_told, reason_of}
use Rattle.cdp_session.specs.Sessions.{Session, if_enabled}
use Rattle.cdp_session.specs.Situations.{Situation}
use Rattle.cdp_session.specs.declared.ending.Ending.{Ending}
use Rattle.cdp_session.specs.declared.ending.Ending.TheVariants as endings
use Rattle.cdp_session.specs.Stops.{cause_of, hit_ids, stop_told}
use Rattle.cdp_host.specs.Protocols.{resume_texts, step_texts, stop_texts_of}
use Rattle.cdp_host.specs.Steps.{Step, end_texts, print_texts, print_told, seen_behind}
use Rattle.cdp_host_laws.specs.Events.{is_event, is_reply}
use Rattle.cdp_host_laws.proofs.RunTextLemmas.{AllAre, all-append}

-- ---- lists of texts

-- none of them is so
pub none-of : (test : List ℕ → Bool) (texts : List (List ℕ)) → AllAre (λ shown. test shown ≡ false) texts
    → filter test texts ≡ []
none-of test [] all = refl
none-of test (shown ∷ texts) all =
    ap (λ b. if b then shown ∷ filter test texts else filter test texts) all.0 ∙ none-of test texts all.1

-- all of them are
pub all-of : {A : Type 0} → (test : List ℕ → Bool) (f : A → List ℕ) → ((a : A) → test (f a) ≡ true) → (xs : List A)
    → filter test (map f xs) ≡ map f xs
all-of test f each [] = refl
all-of test f each (x ∷ xs) =
    ap (λ b. if b then f x ∷ filter test (map f xs) else filter test (map f xs)) (each x)
    ∙ ap (λ l. f x ∷ l) (all-of test f each xs)

all-if : (H : List ℕ → Type 0) (b : Bool) (texts : List (List ℕ)) → AllAre H texts
    → AllAre H (if b then texts else [])
all-if H true texts all = all
all-if H false texts all = tt

-- ---- what a step tells

-- what holds of each print
pub print-all : (H : List ℕ → Type 0) (moment : ℕ) → ((values : List Json) → H (print_text values moment))
    → (s : Situation) (values : Option (List Value)) (x : Session) → AllAre H (print_texts s values moment x)
print-all H moment prints s None x = tt
print-all H moment prints s (Some values) x =
    let described : List Json = (values_told s values x).made in
    all-if H x.runtime (print_text described moment ∷ []) (prints described, tt)

ending-all : (H : List ℕ → Type 0) (moment : ℕ) → ((details : Json) → H (throw_text details moment))
    → (s : Situation) (ending : Ending) (x : Session) → AllAre H (ending_texts s ending moment x)
ending-all H moment throws s endings.Finished x = tt
ending-all H moment throws s (endings.Threw v place) x = (throws (details_told s v place x), tt)

-- of a throw and of the end
pub end-all : (H : List ℕ → Type 0) (moment : ℕ) → ((details : Json) → H (throw_text details moment))
    → H context_destroyed_text
    → (s : Situation) (ending : Option Ending) (x : Session) → AllAre H (end_texts s ending moment x)
end-all H moment throws ends s None x = tt
end-all H moment throws ends s (Some ending) x =
    all-if H x.runtime (ending_texts s ending moment x ++ context_destroyed_text ∷ [])
    (all-append H (ending_texts s ending moment x) (context_destroyed_text ∷ [])
    (ending-all H moment throws s ending x) (ends, tt))

-- of all three
pub told-all : (H : List ℕ → Type 0) (moment : ℕ) → ((values : List Json) → H (print_text values moment))
    → ((details : Json) → H (throw_text details moment)) → H context_destroyed_text
    → (scripts : List Script) (t : Step) (x : Session) → AllAre H (step_texts scripts moment t x)
told-all H moment prints throws ends scripts t x =
    let s = seen_behind scripts t in
    let y : Session = print_told s t.values moment x in
    all-append H (print_texts s t.values moment x) (end_texts s t.ending moment y)
    (print-all H moment prints s t.values x) (end-all H moment throws ends s t.ending y)

-- ---- stops and resumes

enabled-all : (H : List ℕ → Type 0) (x : Session) (shown : List ℕ) → H shown → AllAre H (if_enabled x shown)
enabled-all H x shown is = all-if H x.rules.enabled (shown ∷ []) (is, tt)

pub stop-all : (H : List ℕ → Type 0)
    → ((frames : List Json) (thrown : List Pair) (hits : List (List ℕ)) (reason : List ℕ)
    → H (paused_text frames thrown hits reason))
    → (scripts : List Script) (number : ℕ) (t : Step) (x : Session) → AllAre H (stop_texts_of scripts number t x)
stop-all H pauses scripts number t x =
    let s = seen_behind scripts t in
    let hits : List (List ℕ) = hit_ids s.standing t.arrival x in
    let cause : Option Cause = cause_of s.standing t.arrival x in
    enabled-all H x (stop_told s number t.arrival x).made
    (pauses (frames_told s number x).made (data_told s number cause x).made hits (reason_of cause))

pub resumed-all : (H : List ℕ → Type 0) → H resumed_text → (x : Session) → AllAre H (resume_texts x)
resumed-all H is x = enabled-all H x resumed_text is

-- ---- which event each text is

-- which of the texts that a session is told are events of a method; replies never are
pub record IsMethod (method : List ℕ) (print throw destroyed pause resume parsed : Bool) : Type 0 where
  pub of_print : (values : List Json) (moment : ℕ) → is_event method (print_text values moment) ≡ print
  pub of_throw : (details : Json) (moment : ℕ) → is_event method (throw_text details moment) ≡ throw
  pub of_end : is_event method context_destroyed_text ≡ destroyed
  pub of_pause : (frames : List Json) (thrown : List Pair) (hits : List (List ℕ)) (reason : List ℕ)
      → is_event method (paused_text frames thrown hits reason) ≡ pause
  pub of_resume : is_event method resumed_text ≡ resume
  pub of_script : (script : Script) → is_event method (script_parsed_text script) ≡ parsed
  pub of_context : is_event method context_created_text ≡ false
  pub of_result : (id : ℕ) (j : Json) → is_event method (result_text id j) ≡ false
  pub of_refusal : (id : Option ℕ) (refusal : Refusal) → is_event method (refusal_text id refusal) ≡ false

pub console_called : IsMethod (codes "Runtime.consoleAPICalled") true false false false false false
unfolding escape_byte script_parsed_text
console_called = record {
  of_print = λ values moment. refl;
  of_throw = λ details moment. refl;
  of_end = refl;
  of_pause = λ frames thrown hits reason. refl;
  of_resume = refl;
  of_script = λ script. refl;
  of_context = refl;
  of_result = λ id j. refl;
  of_refusal = λ id refusal. refl;
}

pub exception_thrown : IsMethod (codes "Runtime.exceptionThrown") false true false false false false
unfolding escape_byte script_parsed_text
exception_thrown = record {
  of_print = λ values moment. refl;
  of_throw = λ details moment. refl;
  of_end = refl;
  of_pause = λ frames thrown hits reason. refl;
  of_resume = refl;
  of_script = λ script. refl;
  of_context = refl;
  of_result = λ id j. refl;
  of_refusal = λ id refusal. refl;
}

pub context_destroyed : IsMethod (codes "Runtime.executionContextDestroyed") false false true false false false
unfolding escape_byte script_parsed_text
context_destroyed = record {
  of_print = λ values moment. refl;
  of_throw = λ details moment. refl;
  of_end = refl;
  of_pause = λ frames thrown hits reason. refl;
  of_resume = refl;
  of_script = λ script. refl;
  of_context = refl;
  of_result = λ id j. refl;
  of_refusal = λ id refusal. refl;
}

pub debugger_paused : IsMethod (codes "Debugger.paused") false false false true false false
unfolding escape_byte script_parsed_text
debugger_paused = record {
  of_print = λ values moment. refl;
  of_throw = λ details moment. refl;
  of_end = refl;
  of_pause = λ frames thrown hits reason. refl;
  of_resume = refl;
  of_script = λ script. refl;
  of_context = refl;
  of_result = λ id j. refl;
  of_refusal = λ id refusal. refl;
}

pub debugger_resumed : IsMethod (codes "Debugger.resumed") false false false false true false
unfolding escape_byte script_parsed_text
debugger_resumed = record {
  of_print = λ values moment. refl;
  of_throw = λ details moment. refl;
  of_end = refl;
  of_pause = λ frames thrown hits reason. refl;
  of_resume = refl;
  of_script = λ script. refl;
  of_context = refl;
  of_result = λ id j. refl;
  of_refusal = λ id refusal. refl;
}

pub script_parsed : IsMethod (codes "Debugger.scriptParsed") false false false false false true
unfolding escape_byte script_parsed_text
script_parsed = record {
  of_print = λ values moment. refl;
  of_throw = λ details moment. refl;
  of_end = refl;
  of_pause = λ frames thrown hits reason. refl;
  of_resume = refl;
  of_script = λ script. refl;
  of_context = refl;
  of_result = λ id j. refl;
  of_refusal = λ id refusal. refl;
}

-- ---- replies

-- no event is one
pub script-event : (script : Script) → is_reply (script_parsed_text script) ≡ false
unfolding script_parsed_text
script-event script = refl

pub told-events : (scripts : List Script) (moment : ℕ) (t : Step) (x : Session)
    → AllAre (λ shown. is_reply shown ≡ false) (step_texts scripts moment t x)
told-events scripts moment t x =
    told-all (λ shown. is_reply shown ≡ false) moment (λ values. refl) (λ details. refl) refl scripts t x

pub stop-events : (scripts : List Script) (number : ℕ) (t : Step) (x : Session)
    → AllAre (λ shown. is_reply shown ≡ false) (stop_texts_of scripts number t x)
stop-events scripts number t x =
    stop-all (λ shown. is_reply shown ≡ false) (λ frames thrown hits reason. refl) scripts number t x

pub resume-events : (x : Session) → AllAre (λ shown. is_reply shown ≡ false) (resume_texts x)
resume-events x = resumed-all (λ shown. is_reply shown ≡ false) refl x
