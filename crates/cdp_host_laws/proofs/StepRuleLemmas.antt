-- The commands that step.
use Rattle.std.proofs.Common.{◌≡◌, ℕ, List, Bool, true, false, ◌&&◌, ◌||◌, not, is_some, Option, Some, None, refl, ap, ◌∙◌}
use Rattle.std.proofs.lemmas.Bool.{and_right}
use Rattle.cdp_text.specs.declared.position.Place.{Place}
use Rattle.cdp_text.proofs.TestLemmas.{or_false}
use Rattle.cdp_json.specs.declared.params.Params.{Params}
use Rattle.cdp_json.specs.declared.params.Params.TheVariants as params
use Rattle.cdp_host_isolation.specs.Histories.{Entry}
use Rattle.cdp_host_isolation.specs.Meanings.{is_paused}
use Rattle.js_tree.specs.declared.script.Script.{Script}
use Rattle.js_semantics.specs.Run.{Run}
use Rattle.stepping.specs.Causes.{ends_at}
use Rattle.stepping.specs.declared.arrival.Arrival.{Arrival}
use Rattle.stepping.specs.declared.rules.Exceptions.TheVariants as throws
use Rattle.stepping.specs.declared.rules.StepKind.{StepKind}
use Rattle.stepping.specs.declared.rules.StepKind.TheVariants as kinds
use Rattle.stepping.specs.declared.rules.StepRequest.{StepRequest}
use Rattle.cdp_session.specs.Replies.{AnsweredText, answer_by, outcome_by, wants_pause}
use Rattle.cdp_session.specs.Rows.{resumes, row, step_from}
use Rattle.cdp_session.specs.Sessions.{Session, with_rules}
use Rattle.cdp_session.specs.Situations.{Situation}
use Rattle.cdp_session.specs.Stops.{resumed}
use Rattle.cdp_session.specs.declared.situation.Pause.{Pause}
use Rattle.cdp_host.specs.Histories.{Meaning, whole}
use Rattle.cdp_host.specs.Programs.{arrival_of, next}
use Rattle.cdp_host.specs.Protocols.{answer_at, situation}
use Rattle.cdp_host.specs.Standings.{standing_of}
use Rattle.cdp_host.specs.Steps.{Step, step_of}
use Rattle.cdp_host.proofs.LawLemmas.{paused-there}
use Rattle.cdp_host_laws.specs.Commands.{DebugsAlone, HasNoBreakpoint, HasNoRequest, IsTold, WantsNoThrows, then_told}
use Rattle.cdp_host_laws.specs.Stopping.{GoesOnUntil, arrived, depth_after}
use Rattle.cdp_host_laws.specs.Words.{steps_into, steps_out, steps_over}
use Rattle.cdp_host_laws.proofs.CommandLemmas.{resumes-until, somewhere, unhit}
use Rattle.cdp_host_laws.proofs.NamedLemmas.{Asks, names-by, names_at}
use Rattle.cdp_host_laws.proofs.CommandRowLemmas.{answered}
use Rattle.cdp_host_laws.proofs.UnaskedLemmas.{paused-unasked}
use Rattle.cdp_host_laws.proofs.UntilLemmas.{NamesWhere}

-- a step of a kind is asked for from a depth
abbrev asked_from : StepKind → ℕ → StepRequest
asked_from kind depth = record { kind = kind; depth = depth }

-- what a session keeps that asks for one
abbrev stepping : StepKind → ℕ → Session → Session
stepping kind depth x = with_rules (record x.rules { step = Some (asked_from kind depth) }) x

-- its answer
abbrev answer : ℕ → StepKind → ℕ → Session → AnsweredText
answer id kind depth x = answer_by x (outcome_by id (resumes (stepping kind depth x)))

named_there : (kind : StepKind) (depth : ℕ) (a : Arrival) (o : Option Place)
    → names_at false (Some (asked_from kind depth)) None false a o
    ≡ (is_some o && (a.debugger || ends_at kind depth a.depth))
named_there kind depth a None = refl
named_there kind depth a (Some place) = ap (λ b. a.debugger || b) (or_false (ends_at kind depth a.depth))

-- a session that asks for a step alone names the arrivals that end it
step_names : (scripts : List Script) (kind : StepKind) (depth id : ℕ) (x : Session) (test : Arrival → Bool)
    → Asks (resumed (answer id kind depth x).session) throws.Never false (Some (asked_from kind depth)) None
    → HasNoBreakpoint x
    → ((a : Arrival) → (is_some a.place && (a.debugger || ends_at kind depth a.depth)) ≡ test a)
    → NamesWhere scripts (resumed (answer id kind depth x).session) (arrived scripts test)
step_names scripts kind depth id x test asks none same = λ r.
    let t : Step = step_of scripts false r in
    let a : Arrival = arrival_of scripts (next scripts r) in
    let y : Session = resumed (answer id kind depth x).session in
    names-by t y throws.Never false (Some (asked_from kind depth)) None refl asks
    ∙ ap (λ hit. names_at false (Some (asked_from kind depth)) None hit a a.place)
    (unhit t.standing y.workspace y.breakpoints a.place none)
    ∙ named_there kind depth a a.place
    ∙ same a

step_until : (kind : StepKind) (command : Params) (test : Arrival → Bool)
    (scripts : List Script) (input : List (List ℕ)) (wait : Bool) (history : List Entry) (s : ℕ) (text : List ℕ)
    (x : Session)
    → ((t : Situation) → row t x command ≡ step_from kind t.paused x)
    → ((a : Arrival)
    → (is_some a.place && (a.debugger || ends_at kind (depth_after scripts input wait history) a.depth)) ≡ test a)
    → DebugsAlone s x (whole scripts input wait history)
    → WantsNoThrows x
    → HasNoBreakpoint x
    → is_paused (whole scripts input wait history) ≡ true
    → IsTold scripts input wait history s text command
    → GoesOnUntil (arrived scripts test) scripts input wait (then_told history s text) s
step_until kind command test scripts input wait history s text x steps same alone calm none paused told =
    let m : Meaning Run = whole scripts input wait history in
    let free : HasNoRequest x = paused-unasked scripts input wait history s x paused alone.attached in
    let t : Situation = situation scripts m.stop (standing_of scripts m.program) in
    let at : (p : Pause) × (m.stop ≡ Some p) = somewhere m.stop paused in
    let depth : ℕ = at.0.depth in
    let deep : depth ≡ depth_after scripts input wait history = paused-there scripts input wait history at.0 at.1 in
    let heard : (wants_pause command && not (is_some m.stop)) ≡ false
    = and_right (wants_pause command) (not (is_some m.stop)) (ap not paused) in
    let answers : answer_at scripts m.stop m.program text x ≡ answer told.id kind depth x
    = answered t x text told.id told.method command told.reads alone.enabled heard
    ∙ ap (λ w. answer_by x (outcome_by told.id w)) (steps t)
    ∙ ap (λ q. answer_by x (outcome_by told.id (step_from kind q x))) at.1 in
    let y : Session = resumed (answer told.id kind depth x).session in
    let asks : Asks y throws.Never false (Some (asked_from kind depth)) None
    = record {
      enabled = alone.enabled;
      heeds = alone.heeds;
      same_throws = calm;
      same_pause = free.no_pause;
      same_step = refl;
      same_place = free.no_place;
    } in
    resumes-until (arrived scripts test) scripts input wait history s text x (answer told.id kind depth x)
    alone.attached alone.no_other paused told.stays answers refl
    (step_names scripts kind depth told.id x test asks none
    (λ a. ap (λ d. is_some a.place && (a.debugger || ends_at kind d a.depth)) deep ∙ same a))

into_same : (there debugger : Bool) → (there && (debugger || true)) ≡ there
into_same true true = refl
into_same true false = refl
into_same false debugger = refl

pub into-until : (scripts : List Script) (input : List (List ℕ)) (wait : Bool) (history : List Entry) (s : ℕ)
    (text : List ℕ) (x : Session)
    → DebugsAlone s x (whole scripts input wait history)
    → WantsNoThrows x
    → HasNoBreakpoint x
    → is_paused (whole scripts input wait history) ≡ true
    → IsTold scripts input wait history s text params.StepInto
    → GoesOnUntil (arrived scripts steps_into) scripts input wait (then_told history s text) s
into-until scripts input wait history s text x =
    step_until kinds.Into params.StepInto steps_into scripts input wait history s text x (λ t. refl)
    (λ a. into_same (is_some a.place) a.debugger)

pub over-until : (scripts : List Script) (input : List (List ℕ)) (wait : Bool) (history : List Entry) (s : ℕ)
    (text : List ℕ) (x : Session)
    → DebugsAlone s x (whole scripts input wait history)
    → WantsNoThrows x
    → HasNoBreakpoint x
    → is_paused (whole scripts input wait history) ≡ true
    → IsTold scripts input wait history s text params.StepOver
    → GoesOnUntil (arrived scripts (steps_over (depth_after scripts input wait history))) scripts input wait
    (then_told history s text) s
over-until scripts input wait history s text x =
    step_until kinds.Over params.StepOver (steps_over (depth_after scripts input wait history)) scripts input wait
    history s text x (λ t. refl) (λ a. refl)

pub out-until : (scripts : List Script) (input : List (List ℕ)) (wait : Bool) (history : List Entry) (s : ℕ)
    (text : List ℕ) (x : Session)
    → DebugsAlone s x (whole scripts input wait history)
    → WantsNoThrows x
    → HasNoBreakpoint x
    → is_paused (whole scripts input wait history) ≡ true
    → IsTold scripts input wait history s text params.StepOut
    → GoesOnUntil (arrived scripts (steps_out (depth_after scripts input wait history))) scripts input wait
    (then_told history s text) s
out-until scripts input wait history s text x =
    step_until kinds.Out params.StepOut (steps_out (depth_after scripts input wait history)) scripts input wait history
    s text x (λ t. refl) (λ a. refl)
