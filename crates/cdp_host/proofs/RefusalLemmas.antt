-- A command that is refused changes only the texts that wait for its session.
use Rattle.std.proofs.Common.{◌≡◌, ℕ, List, [], ◌∷◌, Bool, true, false, Ok, refl, ap, sym, ◌∙◌, Option}
use Rattle.cdp_host_isolation.specs.Histories.{Entry, with_seat}
use Rattle.cdp_host_isolation.specs.Meanings.{is_enabled_seat, is_paused}
use Rattle.cdp_host_isolation.specs.Seats.{put, seat_of, some}
use Rattle.cdp_host_isolation.specs.Standing.{StandsAs}
use Rattle.cdp_host_isolation.specs.Stops.{IsPausedWell}
use Rattle.cdp_host_isolation.specs.declared.seat.Seat.{Seat}
use Rattle.cdp_host_isolation.specs.declared.seat.Seat.TheVariants.{Attached}
use Rattle.cdp_host_isolation.proofs.StopLemmas.{paused-well, some-put}
use Rattle.js_tree.specs.declared.script.Script.{Script}
use Rattle.js_semantics.specs.Run.{Run}
use Rattle.cdp_json.specs.Messages.{refusal_text}
use Rattle.cdp_json.specs.declared.refusal.Refusal.{Refusal}
use Rattle.cdp_session.specs.declared.asks.Asks.{Asks}
use Rattle.cdp_session.specs.Replies.{AnsweredText, IsRefused, answer_by, answer_of, outcome_of}
use Rattle.cdp_session.specs.Sessions.{Session, sent}
use Rattle.cdp_host.specs.Histories.{Meaning, whole}
use Rattle.cdp_host.specs.Hosts.{HostState, StandsFor, meaning_with, parts_standing}
use Rattle.cdp_host.specs.Programs.{printed_of, start}
use Rattle.cdp_host.specs.Protocols.{asks_to_resume, asks_to_wake, protocol, situation}
use Rattle.cdp_host.specs.Watching.{AnswersIn}
use Rattle.cdp_host.proofs.ProtocolLemmas.{enabled-kept}
use Rattle.cdp_host.proofs.RunLemmas.{all-there}

-- ---- one seat among others

-- ---- a host that stands for a history

-- where it is paused, some session has the debugger enabled
stands-enabled : (scripts : List Script) (host m : Meaning Run)
    → StandsAs host m
    → IsPausedWell (protocol scripts) m
    → is_paused host ≡ true
    → some (is_enabled_seat (protocol scripts)) host.seats ≡ true
stands-enabled scripts host m stood well paused =
    let same : host ≡ m = all-there host m stood.is (stood.all_there paused) in
    ap (λ h. some (is_enabled_seat (protocol scripts)) h.seats) same
    ∙ well.enabled (sym (ap (λ h. is_paused h) same) ∙ paused)

pub stood-enabled : (scripts : List Script) (input : List (List ℕ)) (wait : Bool) (host : HostState)
    (history : List Entry)
    → StandsFor scripts input wait host history → host.broken ≡ false → is_paused host.meaning ≡ true
    → some (is_enabled_seat (protocol host.scripts)) host.meaning.seats ≡ true
stood-enabled scripts input wait host history stood works paused =
    let m : Meaning Run = whole scripts input wait history in
    ap (λ ss. some (is_enabled_seat (protocol ss)) host.meaning.seats) stood.runs
    ∙ stands-enabled scripts (meaning_with host (printed_of m.program)) m (stood.means works)
    (paused-well (protocol scripts) (start scripts input) wait history (enabled-kept scripts)) paused

-- ---- a refused command

-- what the host is that let the program be
pub refused-told : (old mid new : HostState) (s : ℕ) (text : List ℕ) (asks : Asks) (x : Session) (id : Option ℕ)
    (refusal : Refusal)
    → (scripts : List Script) (input : List (List ℕ)) (wait : Bool) (history : List Entry)
    → mid ≡ record old { meaning = record old.meaning { seats = mid.meaning.seats } } → old.broken ≡ false
    → AnswersIn (Ok asks)
    (answer_of (situation old.scripts old.meaning.stop (parts_standing old.scripts old.meaning.program)) x text)
    s old.meaning.seats mid.meaning.seats
    → (asks_to_resume asks ≡ false → asks_to_wake asks ≡ false
    → (is_paused mid.meaning ≡ true → some (is_enabled_seat (protocol mid.scripts)) mid.meaning.seats ≡ true)
    → new ≡ mid)
    → StandsFor scripts input wait old history → seat_of s old.meaning.seats ≡ Attached x
    → outcome_of (situation old.scripts old.meaning.stop (parts_standing old.scripts old.meaning.program))
    x text ≡ IsRefused id refusal
    → new.meaning ≡ with_seat s (Attached (sent (refusal_text id refusal ∷ []) x)) old.meaning
refused-told old mid new s text asks x id refusal scripts input wait history same works answers quiet stood had
    refused =
    let y : Session = sent (refusal_text id refusal ∷ []) x in
    let a : AnsweredText = answer_of (situation old.scripts old.meaning.stop (parts_standing old.scripts old.meaning.program))
    x text in
    let answer : a ≡ answer_by x (IsRefused id refusal) = ap (λ o. answer_by x o) refused in
    let test : Seat Session → Bool = is_enabled_seat (protocol old.scripts) in
    let seats : mid.meaning.seats ≡ put s (Attached y) old.meaning.seats = answers.0
    ∙ ap (λ b. put s (Attached b.session) old.meaning.seats) answer in
    let as_enabled : test (Attached y) ≡ test (seat_of s old.meaning.seats) = sym (ap test had) in
    let enabled : some test mid.meaning.seats ≡ some test old.meaning.seats = ap (some test) seats
    ∙ some-put test s (Attached y) old.meaning.seats as_enabled in
    let still : new ≡ mid =
    quiet (ap asks_to_resume answers.1 ∙ ap (λ b. asks_to_resume b.asks) answer)
    (ap asks_to_wake answers.1 ∙ ap (λ b. asks_to_wake b.asks) answer)
    (λ paused.
    ap (λ h. some (is_enabled_seat (protocol h.scripts)) mid.meaning.seats) same ∙ enabled
    ∙ stood-enabled scripts input wait old history stood works (sym (ap (λ h. is_paused h.meaning) same) ∙ paused)) in
    ap (λ h. h.meaning) still
    ∙ ap (λ h. h.meaning) same
    ∙ ap (λ ss. record old.meaning { seats = ss }) seats

-- ---- a program that lets go of no session

-- it isn't paused, where none has the debugger enabled and some has where it is paused
pub unpaused : (paused enabled : Bool) → (paused ≡ true → enabled ≡ true) → enabled ≡ false → paused ≡ false
unpaused true enabled when none = let some_is = when refl in absurd cc
unpaused false enabled when none = refl
