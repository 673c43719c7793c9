-- The start rule: the first step of a program that waited.
use Rattle.std.proofs.Common.{◌≡◌, ℕ, suc, ◌+◌, ◌-◌, List, Bool, true, false, ◌&&◌, not, is_some, if◌then◌else◌, None, refl, ap, sym, ◌∙◌, arith}
use Rattle.std.proofs.lemmas.Bool.{or_right}
use Rattle.cdp_json.specs.declared.params.Params.TheVariants as params
use Rattle.cdp_host_isolation.specs.Histories.{Entry, Ran, Tell, apply, asked, with_seat}
use Rattle.cdp_host_isolation.specs.Meanings.{Meaning as AnyMeaning, after_run, is_enabled_seat, is_first, is_paused, resume, resumed_seat, settle, waits, with_seats, woken}
use Rattle.cdp_host_isolation.specs.Protocols.{Protocol}
use Rattle.cdp_host_isolation.specs.Seats.{each, is_attached, reported, seat_of, some}
use Rattle.cdp_host_isolation.specs.declared.phase.Phase.{Phase}
use Rattle.cdp_host_isolation.specs.declared.phase.Phase.TheVariants.{Waiting, Woken, Running}
use Rattle.cdp_host_isolation.specs.declared.seat.Seat.{Seat}
use Rattle.cdp_host_isolation.specs.declared.seat.Seat.TheVariants.{Attached, Lost, Left}
use Rattle.cdp_host_isolation.proofs.LongerLemmas.{whole-more}
use Rattle.cdp_host_isolation.proofs.SeatLemmas.{each-at}
use Rattle.js_tree.specs.declared.script.Script.{Script}
use Rattle.js_semantics.specs.Run.{Run}
use Rattle.cdp_session.specs.Replies.{AnsweredText, answer_by, outcome_by, outcome_for}
use Rattle.cdp_session.specs.Rows.{asking}
use Rattle.cdp_session.specs.Sessions.{Session}
use Rattle.cdp_session.specs.Situations.{Situation}
use Rattle.cdp_session.specs.Stops.{cause_of}
use Rattle.cdp_session.specs.declared.asks.Asks.TheVariants.{Wake}
use Rattle.cdp_host.specs.Histories.{Meaning, whole}
use Rattle.cdp_host.specs.Programs.{is_over, next, start}
use Rattle.cdp_host.specs.Protocols.{answer_at, asks_to_resume, asks_to_wake, protocol, situation}
use Rattle.cdp_host.specs.Standings.{standing_of}
use Rattle.cdp_host.specs.Steps.{Step, names_stop, seen_behind, step_of}
use Rattle.cdp_host.proofs.WatchLemmas.{told-asks}
use Rattle.cdp_host_laws.specs.Commands.{IsTold, then_told}
use Rattle.cdp_host_laws.specs.Starting.{StopsAtFirstStep}
use Rattle.cdp_host_laws.specs.Stopping.{then_ran}
use Rattle.cdp_host_laws.proofs.FirstStepLemmas.{StaysEnabled, run-stops}
use Rattle.cdp_host_laws.proofs.RanLemmas.{ran-leaves}
use Rattle.cdp_host_laws.proofs.TellLemmas.{told-kept}
use Rattle.cdp_host_laws.proofs.UntilLemmas.{names-enabled}

over_there : (scripts : List Script) (r : Run) → (standing_of scripts r).over ≡ is_over r
unfolding standing_of
over_there scripts r = refl

stays_enabled : (scripts : List Script) → StaysEnabled (protocol scripts)
stays_enabled scripts = record {
  told = λ moment t x. ap (λ r. r.enabled) (told-asks (seen_behind scripts t) moment t x).rules;
  stopped = λ number t x. refl;
  resumed = λ x. refl;
}

-- each session that has the debugger enabled names the first step of a program that waited
names_first : (scripts : List Script) (r : Run) (x : Session)
    → is_over (next scripts r) ≡ false
    → x.rules.enabled ≡ true
    → names_stop (step_of scripts true r) x ≡ true
names_first scripts r x going enabled =
    let t : Step = step_of scripts true r in
    or_right (is_some (cause_of t.standing t.arrival x)) (x.rules.enabled && not t.standing.over)
    (ap (λ b. b && not t.standing.over) enabled ∙ ap not (over_there scripts (next scripts r) ∙ going))

-- ---- a program that is let begin

resumed_phase : {C T Q X : Type 0} → (P : Protocol C T Q X) (m : AnyMeaning C Q X) (b : Bool)
    → (if b then record m { stop = None; seats = each (resumed_seat P) m.seats } else m).phase ≡ m.phase
resumed_phase P m true = refl
resumed_phase P m false = refl

settled_phase : {C T Q X : Type 0} → (P : Protocol C T Q X) (m : AnyMeaning C Q X) (b : Bool)
    → (if b then m else resume P m).phase ≡ m.phase
settled_phase P m true = refl
settled_phase P m false = resumed_phase P m (is_paused m)

unreported : (scripts : List Script) (seat : Seat Session)
    → is_enabled_seat (protocol scripts) (reported seat) ≡ is_enabled_seat (protocol scripts) seat
unreported scripts (Attached x) = refl
unreported scripts (Lost loss is_reported is_told) = refl
unreported scripts Left = refl

begins : (p : Phase) → waits p ≡ true → is_first (woken p) ≡ true
begins Waiting waiting = refl
begins Woken waiting = absurd cc
begins Running waiting = absurd cc

pub starts-paused : (scripts : List Script) (input : List (List ℕ)) (wait : Bool) (history : List Entry) (s : ℕ)
    (text : List ℕ) (x : Session)
    → seat_of s (whole scripts input wait history).seats ≡ Attached x
    → waits (whole scripts input wait history).phase ≡ true
    → IsTold scripts input wait history s text params.RunIfWaitingForDebugger
    → StopsAtFirstStep scripts input wait (then_told history s text)
starts-paused scripts input wait history s text x is waiting told n moment gone r y fits some_steps there enabled
    going =
    let P = protocol scripts in
    let m : Meaning Run = whole scripts input wait history in
    let k : Meaning Run = whole scripts input wait (then_told history s text) in
    let t : Situation = situation scripts m.stop (standing_of scripts m.program) in
    let a : AnsweredText = answer_by x (outcome_by told.id (asking Wake x)) in
    let answers : answer_at scripts m.stop m.program text x ≡ a
    = ap (λ b. answer_by x (outcome_for t x b)) told.reads in
    let w : Meaning Run = with_seat s (Attached a.session) m in
    let more : k ≡ apply P m (Tell s text) = whole-more P (start scripts input) wait history (Tell s text) in
    let let_go : k ≡ settle P (record w { phase = woken w.phase })
    = more
    ∙ told-kept P s text m x is (ap (λ l. is_attached (seat_of s l.seats)) (sym more) ∙ told.stays)
    ∙ ap (λ b. asked P (asks_to_resume b.asks) (asks_to_wake b.asks) (with_seat s (Attached b.session) m)) answers in
    let first : is_first k.phase ≡ true
    = ap (λ l. is_first l.phase) let_go
    ∙ ap is_first (settled_phase P (record w { phase = woken w.phase }) (some (is_enabled_seat P) w.seats))
    ∙ begins m.phase waiting in
    let last : n ≡ suc (n - 1) = omega (arith, some_steps) in
    let last_too : n ≡ n - 1 + 1 = omega (arith, some_steps) in
    let left : Meaning Run = after_run P moment gone n k in
    let ran : whole scripts input wait (then_ran (then_told history s text) n moment gone)
    ≡ with_seats (each reported left.seats) left
    = whole-more P (start scripts input) wait (then_told history s text) (Ran n moment gone)
    ∙ ran-leaves P moment gone n (n - 1) k (names-enabled scripts) last_too in
    let on : is_enabled_seat P (seat_of r left.seats) ≡ true
    = sym (ap (λ seat. is_enabled_seat P seat) (each-at reported refl r left.seats)
    ∙ unreported scripts (seat_of r left.seats))
    ∙ ap (λ l. is_enabled_seat P (seat_of r l.seats)) (sym ran)
    ∙ ap (λ seat. is_enabled_seat P seat) there
    ∙ enabled in
    let both : (n ≡ 1) × (is_paused left ≡ true)
    = run-stops P n (n - 1) moment r gone k (stays_enabled scripts) last fits
    (λ open_still z has.
    ap (λ b. names_stop (step_of scripts b k.program) z) first ∙ names_first scripts k.program z open_still has)
    on (ap (λ l. is_over l.program) (sym ran) ∙ going) in
    (both.0, ap (λ l. is_paused l) ran ∙ both.1)
