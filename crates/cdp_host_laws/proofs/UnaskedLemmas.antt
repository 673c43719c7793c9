-- While a program is paused no session has a request, whatever came before.
use Rattle.std.proofs.Common.{◌≡◌, ℕ, zero, suc, ◌+◌, List, [], ◌∷◌, ◌++◌, length, Bool, true, false, ◌||◌, is_some, if◌then◌else◌, fold, Option, Some, None, refl, ap, sym, ◌∙◌}
use Rattle.std.proofs.lemmas.Bool.{or_from, or_parts}
use Rattle.cdp_host_isolation.specs.Seats.{each, fallen, is_listed, lost_by, put, put_in, reported, seat_in, seat_of, some, without, without_from}
use Rattle.cdp_host_isolation.specs.Meanings.{after_run, after_steps, is_enabled_seat, is_named, is_paused, next_number, resume, resumed_seat, seat_behind, settle, step, survives, told_at, with_seats, woken}
use Rattle.cdp_host_isolation.specs.Histories.{Entry, Attach, Tell, Take, Detach, Ran, Shut, apply, asked, detach, take, tell, with_seat}
use Rattle.cdp_host_isolation.specs.declared.seat.Loss.TheVariants.{Overrun}
use Rattle.cdp_host_isolation.specs.declared.seat.Seat.{Seat}
use Rattle.cdp_host_isolation.specs.declared.seat.Seat.TheVariants.{Attached, Lost, Left}
use Rattle.cdp_host_isolation.proofs.AloneLemmas.{step-stops}
use Rattle.js_tree.specs.declared.script.Script.{Script}
use Rattle.js_semantics.specs.Run.{Run}
use Rattle.cdp_session.specs.Sessions.{Session, emptied}
use Rattle.cdp_host.specs.Histories.{Meaning, begin, whole}
use Rattle.cdp_host.specs.Protocols.{begun_with, protocol, situation}
use Rattle.cdp_host.specs.Standings.{standing_of}
use Rattle.cdp_host.specs.Steps.{Step}
use Rattle.cdp_host_laws.specs.Commands.{HasNoRequest}
use Rattle.cdp_host_laws.proofs.RequestLemmas.{has_request, text-frees}

-- the session that is attached there has a request
abbrev asks : Seat Session → Bool
asks (Attached x) = has_request x
asks (Lost loss is_reported is_told) = false
asks Left = false

-- while the program is paused no session has one
abbrev Unasked : Meaning Run → Type 0
Unasked m = is_paused m ≡ true → some asks m.seats ≡ false

-- ---- seats

none_in : (i : ℕ) (seats : List (Seat Session)) → some asks seats ≡ false → asks (seat_in i seats) ≡ false
none_in i [] none = refl
none_in zero (seat ∷ seats) none = (or_parts (asks seat) (some asks seats) none).0
none_in (suc i) (seat ∷ seats) none = none_in i seats (or_parts (asks seat) (some asks seats) none).1

none_at : (s : ℕ) (seats : List (Seat Session)) → some asks seats ≡ false → asks (seat_of s seats) ≡ false
none_at zero seats none = refl
none_at (suc i) seats none = none_in i seats none

none_more : (seats : List (Seat Session)) (new : Seat Session) → some asks seats ≡ false → asks new ≡ false
    → some asks (seats ++ new ∷ []) ≡ false
none_more [] new none off = or_from (asks new) false off refl
none_more (seat ∷ seats) new none off =
    let parts = or_parts (asks seat) (some asks seats) none in
    or_from (asks seat) (some asks (seats ++ new ∷ [])) parts.0 (none_more seats new parts.1 off)

put_none_in : (i : ℕ) (new : Seat Session) (seats : List (Seat Session)) → some asks seats ≡ false → asks new ≡ false
    → some asks (put_in i new seats) ≡ false
put_none_in i new [] none off = refl
put_none_in zero new (seat ∷ seats) none off =
    or_from (asks new) (some asks seats) off (or_parts (asks seat) (some asks seats) none).1
put_none_in (suc i) new (seat ∷ seats) none off =
    let parts = or_parts (asks seat) (some asks seats) none in
    or_from (asks seat) (some asks (put_in i new seats)) parts.0 (put_none_in i new seats parts.1 off)

put_none : (s : ℕ) (new : Seat Session) (seats : List (Seat Session)) → some asks seats ≡ false → asks new ≡ false
    → some asks (put s new seats) ≡ false
put_none zero new seats none off = none
put_none (suc i) new seats none off = put_none_in i new seats none off

each_none : (f : Seat Session → Seat Session) (seats : List (Seat Session))
    → ((seat : Seat Session) → asks (f seat) ≡ asks seat)
    → some asks seats ≡ false
    → some asks (each f seats) ≡ false
each_none f [] same none = refl
each_none f (seat ∷ seats) same none =
    let parts = or_parts (asks seat) (some asks seats) none in
    or_from (asks (f seat)) (some asks (each f seats)) (same seat ∙ parts.0) (each_none f seats same parts.1)

all_none : (f : Seat Session → Seat Session) (seats : List (Seat Session))
    → ((seat : Seat Session) → asks (f seat) ≡ false)
    → some asks (each f seats) ≡ false
all_none f [] off = refl
all_none f (seat ∷ seats) off = or_from (asks (f seat)) (some asks (each f seats)) (off seat) (all_none f seats off)

fallen_none : (listed : Bool) (seat : Seat Session) → asks seat ≡ false
    → asks (if listed then fallen seat else seat) ≡ false
fallen_none true (Attached x) off = refl
fallen_none true (Lost loss is_reported is_told) off = off
fallen_none true Left off = off
fallen_none false seat off = off

without_none_from : (gone : List ℕ) (s : ℕ) (seats : List (Seat Session)) → some asks seats ≡ false
    → some asks (without_from gone s seats) ≡ false
without_none_from gone s [] none = refl
without_none_from gone s (seat ∷ seats) none =
    let parts = or_parts (asks seat) (some asks seats) none in
    or_from (asks (if is_listed gone s then fallen seat else seat)) (some asks (without_from gone (s + 1) seats))
    (fallen_none (is_listed gone s) seat parts.0) (without_none_from gone (s + 1) seats parts.1)

reported_same : (seat : Seat Session) → asks (reported seat) ≡ asks seat
reported_same (Attached x) = refl
reported_same (Lost loss is_reported is_told) = refl
reported_same Left = refl

-- ---- a stop ends all requests

stopped_off : (fits survived : Bool) (y : Session) → has_request y ≡ false
    → asks (if survived then (if fits then Attached y else lost_by Overrun) else lost_by Overrun) ≡ false
stopped_off true true y off = off
stopped_off false true y off = refl
stopped_off fits false y off = refl

behind_off : (scripts : List Script) (number moment : ℕ) (t : Step) (seat : Seat Session)
    → asks (seat_behind (protocol scripts) true number moment t seat) ≡ false
behind_off scripts number moment t (Attached x) =
    let P = protocol scripts in
    let z : Session = P.stopped number t (P.told moment t x) in
    stopped_off (P.fits z) (survives P number moment t x) z refl
behind_off scripts number moment t (Lost loss is_reported is_told) = refl
behind_off scripts number moment t Left = refl

step_unasked : (scripts : List Script) (moment : ℕ) (gone : List ℕ) (m : Meaning Run)
    → Unasked (step (protocol scripts) moment gone m)
step_unasked scripts moment gone m = λ paused.
    let P = protocol scripts in
    let number : ℕ = next_number m.stops in
    let t : Step = told_at P m.program m in
    let seats : List (Seat Session) = without gone m.seats in
    let named : is_named P moment gone m.program m ≡ true = sym (step-stops P moment gone m) ∙ paused in
    ap (λ b. some asks (each (seat_behind P b number moment t) seats)) named
    ∙ all_none (seat_behind P true number moment t) seats (behind_off scripts number moment t)

run_unasked : (scripts : List Script) (moment : ℕ) (gone : List ℕ) (n : ℕ) (m : Meaning Run) → Unasked m
    → Unasked (after_run (protocol scripts) moment gone n m)
run_unasked scripts moment gone zero m unasked = λ paused. without_none_from gone 1 m.seats (unasked paused)
run_unasked scripts moment gone (suc n) m unasked =
    step_unasked scripts moment gone (after_steps (protocol scripts) moment n m)

-- ---- resumes

resumed_unasked : (scripts : List Script) (m : Meaning Run) (b : Bool) → Unasked m
    → Unasked (if b then record m { stop = None; seats = each (resumed_seat (protocol scripts)) m.seats } else m)
resumed_unasked scripts m true unasked = λ paused. absurd cc
resumed_unasked scripts m false unasked = unasked

settled_unasked : (scripts : List Script) (m : Meaning Run) (b : Bool) → Unasked m
    → Unasked (if b then m else resume (protocol scripts) m)
settled_unasked scripts m true unasked = unasked
settled_unasked scripts m false unasked = resumed_unasked scripts m (is_paused m) unasked

settle_unasked : (scripts : List Script) (m : Meaning Run) → Unasked m → Unasked (settle (protocol scripts) m)
settle_unasked scripts m unasked = settled_unasked scripts m (some (is_enabled_seat (protocol scripts)) m.seats) unasked

gone_on : (scripts : List Script) (m : Meaning Run) (b : Bool) → is_paused m ≡ b
    → Unasked (if b then record m { stop = None; seats = each (resumed_seat (protocol scripts)) m.seats } else m)
gone_on scripts m true is = λ paused. absurd cc
gone_on scripts m false is = λ paused. let e : false ≡ true = sym is ∙ paused in absurd cc

-- ---- texts

asked_unasked : (scripts : List Script) (m : Meaning Run) (resumes wakes : Bool) → (resumes ≡ false → Unasked m)
    → Unasked (asked (protocol scripts) resumes wakes m)
asked_unasked scripts m true wakes unasked = gone_on scripts m (is_paused m) refl
asked_unasked scripts m false true unasked = settle_unasked scripts (record m { phase = woken m.phase }) (unasked refl)
asked_unasked scripts m false false unasked = settle_unasked scripts m (unasked refl)

told_unasked : (scripts : List Script) (s : ℕ) (m : Meaning Run) (resumes wakes : Bool) (y : Session) (b : Bool)
    → Unasked m
    → (is_paused m ≡ true → resumes ≡ false → has_request y ≡ false)
    → Unasked (if b then asked (protocol scripts) resumes wakes (with_seat s (Attached y) m)
    else settle (protocol scripts) (with_seat s Left m))
told_unasked scripts s m resumes wakes y true unasked free =
    asked_unasked scripts (with_seat s (Attached y) m) resumes wakes
    (λ stays paused. put_none s (Attached y) m.seats (unasked paused) (free paused stays))
told_unasked scripts s m resumes wakes y false unasked free =
    settle_unasked scripts (with_seat s Left m) (λ paused. put_none s Left m.seats (unasked paused) refl)

tell_unasked : (scripts : List Script) (s : ℕ) (text : List ℕ) (m : Meaning Run) (seat : Seat Session)
    → seat_of s m.seats ≡ seat
    → Unasked m
    → Unasked (tell (protocol scripts) s text m seat)
tell_unasked scripts s text m (Attached x) is unasked =
    let P = protocol scripts in
    let y : Session = P.reply m.stop m.program text x in
    told_unasked scripts s m (P.resumes m.stop m.program text x) (P.wakes m.stop m.program text x) y (P.fits y) unasked
    (λ paused stays.
    text-frees (situation scripts m.stop (standing_of scripts m.program)) x text paused stays
    (sym (ap asks is) ∙ none_at s m.seats (unasked paused)))
tell_unasked scripts s text m (Lost loss is_reported is_told) is unasked = unasked
tell_unasked scripts s text m Left is unasked = unasked

take_unasked : (scripts : List Script) (s : ℕ) (m : Meaning Run) (seat : Seat Session)
    → seat_of s m.seats ≡ seat
    → Unasked m
    → Unasked (take (protocol scripts) s m seat)
take_unasked scripts s m (Attached x) is unasked = λ paused.
    put_none s (Attached (emptied x)) m.seats (unasked paused) (sym (ap asks is) ∙ none_at s m.seats (unasked paused))
take_unasked scripts s m (Lost loss is_reported is_told) is unasked = unasked
take_unasked scripts s m Left is unasked = unasked

detach_unasked : (scripts : List Script) (s : ℕ) (m : Meaning Run) (seat : Seat Session) → Unasked m
    → Unasked (detach (protocol scripts) s m seat)
detach_unasked scripts s m (Attached x) unasked =
    settle_unasked scripts (with_seat s Left m) (λ paused. put_none s Left m.seats (unasked paused) refl)
detach_unasked scripts s m (Lost loss is_reported is_told) unasked = λ paused.
    put_none s (Lost loss is_reported true) m.seats (unasked paused) refl
detach_unasked scripts s m Left unasked = unasked

entry_unasked : (scripts : List Script) (m : Meaning Run) (entry : Entry) → Unasked m
    → Unasked (apply (protocol scripts) m entry)
entry_unasked scripts m Attach unasked = λ paused.
    none_more m.seats (Attached (begun_with scripts (length m.seats + 1))) (unasked paused) refl
entry_unasked scripts m (Tell s text) unasked = tell_unasked scripts s text m (seat_of s m.seats) refl unasked
entry_unasked scripts m (Take s) unasked = take_unasked scripts s m (seat_of s m.seats) refl unasked
entry_unasked scripts m (Detach s) unasked = detach_unasked scripts s m (seat_of s m.seats) unasked
entry_unasked scripts m (Ran n moment gone) unasked =
    let k : Meaning Run = after_run (protocol scripts) moment gone n m in
    settle_unasked scripts (with_seats (each reported k.seats) k)
    (λ paused. each_none reported k.seats reported_same (run_unasked scripts moment gone n m unasked paused))
entry_unasked scripts m Shut unasked = unasked

unasked_from : (scripts : List Script) (m : Meaning Run) (history : List Entry) → Unasked m
    → Unasked (fold (apply (protocol scripts)) m history)
unasked_from scripts m [] unasked = unasked
unasked_from scripts m (entry ∷ history) unasked =
    unasked_from scripts (apply (protocol scripts) m entry) history (entry_unasked scripts m entry unasked)

unasked_whole : (scripts : List Script) (input : List (List ℕ)) (wait : Bool) (history : List Entry)
    → Unasked (whole scripts input wait history)
unasked_whole scripts input wait history = unasked_from scripts (begin scripts input wait) history (λ paused. refl)

no_more : {A : Type 0} → (o : Option A) → is_some o ≡ false → o ≡ None
no_more None is = refl
no_more (Some a) is = absurd cc

-- a session that is attached while the program is paused has no request
pub paused-unasked : (scripts : List Script) (input : List (List ℕ)) (wait : Bool) (history : List Entry) (s : ℕ)
    (x : Session)
    → is_paused (whole scripts input wait history) ≡ true
    → seat_of s (whole scripts input wait history).seats ≡ Attached x
    → HasNoRequest x
paused-unasked scripts input wait history s x paused is =
    let m : Meaning Run = whole scripts input wait history in
    let none : has_request x ≡ false
    = sym (ap asks is) ∙ none_at s m.seats (unasked_whole scripts input wait history paused) in
    let first = or_parts x.rules.pause (is_some x.rules.step || is_some x.rules.to) none in
    let rest = or_parts (is_some x.rules.step) (is_some x.rules.to) first.1 in
    record { no_pause = first.0; no_step = no_more x.rules.step rest.0; no_place = no_more x.rules.to rest.1 }
