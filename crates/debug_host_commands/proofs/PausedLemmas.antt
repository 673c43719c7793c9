-- Where a run leaves a program paused: exactly where its last step is named, and where it makes none, as it was.
use Rattle.std.proofs.Common.{◌≡◌, ℕ, zero, suc, List, [], ◌∷◌, Bool, true, false, ◌||◌, if◌then◌else◌, None, refl, ap, sym, ◌∙◌}
use Rattle.std.proofs.lemmas.Bool.{and_parts, and_right, or_right}
use Rattle.cdp_host_isolation.specs.Histories.{ran}
use Rattle.cdp_host_isolation.specs.Meanings.{Meaning, after_run, after_steps, is_enabled_seat, is_named, is_paused, kept, next_number, resume, resumed_seat, seat_behind, session_behind, settle, step, stops_for, survives, told_at, with_seats}
use Rattle.cdp_host_isolation.specs.Protocols.{Protocol}
use Rattle.cdp_host_isolation.specs.Seats.{each, lost_by, reported, some, without}
use Rattle.cdp_host_isolation.specs.Stops.{IsPausedWell}
use Rattle.cdp_host_isolation.specs.declared.seat.Loss.TheVariants.{Overrun}
use Rattle.cdp_host_isolation.specs.declared.seat.Seat.{Seat}
use Rattle.cdp_host_isolation.specs.declared.seat.Seat.TheVariants.{Attached, Lost, Left}
use Rattle.cdp_host_isolation.proofs.AloneLemmas.{step-stops}
use Rattle.cdp_host_isolation.proofs.FallenLemmas.{without-none}
use Rattle.js_tree.specs.declared.script.Script.{Script}
use Rattle.cdp_session.specs.Sessions.{Session}
use Rattle.cdp_host.specs.Protocols.{protocol}
use Rattle.cdp_host.specs.Steps.{Step, names_stop, seen_behind}
use Rattle.cdp_host.proofs.WatchLemmas.{told-asks}

-- ---- whoever names a step is enabled behind it

-- a session that names a step has the debugger enabled when it was told of the stop
abbrev pub NamesEnabled : {C T Q X : Type 0} → Protocol C T Q X → Type 0
NamesEnabled {C} {T} {Q} {X} P =
    (number moment : ℕ) (t : T) (x : X)
    → P.names t x ≡ true
    → P.is_enabled (P.stopped number t (P.told moment t x)) ≡ true

stops-enabled : {C T Q X : Type 0}
    → (P : Protocol C T Q X)
    → NamesEnabled P
    → (number moment : ℕ) (t : T) (seat : Seat X)
    → stops_for P number moment t seat ≡ true
    → is_enabled_seat P (seat_behind P true number moment t seat) ≡ true
stops-enabled {X = X} P enabled number moment t (Attached x) stops =
    let y : X = P.stopped number t (P.told moment t x) in
    let parts = and_parts (survives P number moment t x) (P.names t x) stops in
    let told : session_behind P number moment t x ≡ y = ap (λ b. if b then y else P.told moment t x) parts.1 in
    let fit : P.fits y ≡ true = ap P.fits (sym told) ∙ parts.0 in
    let is : seat_behind P true number moment t (Attached x) ≡ Attached y =
    ap (λ b. if b then kept P y else lost_by Overrun) parts.0
    ∙ ap (λ b. if b then Attached y else lost_by Overrun) fit in
    ap (λ seat. is_enabled_seat P seat) is ∙ enabled number moment t x parts.1
stops-enabled P enabled number moment t (Lost loss is_reported is_told) stops = absurd cc
stops-enabled P enabled number moment t Left stops = absurd cc

or_more : (a b c d : Bool) → (a || b) ≡ true → (a ≡ true → c ≡ true) → (b ≡ true → d ≡ true) → (c || d) ≡ true
or_more true b c d is first other = ap (λ e. e || d) (first refl)
or_more false b c d is first other = ap (λ e. c || e) (other is) ∙ or_right c true refl

-- where one seat is so, one is so behind what was done to each
some-each : {X : Type 0}
    → (f g : Seat X → Bool) (h : Seat X → Seat X)
    → ((seat : Seat X) → f seat ≡ true → g (h seat) ≡ true)
    → (seats : List (Seat X)) → some f seats ≡ true → some g (each h seats) ≡ true
some-each f g h more [] is = absurd cc
some-each f g h more (seat ∷ seats) is =
    or_more (f seat) (some f seats) (g (h seat)) (some g (each h seats)) is (more seat) (some-each f g h more seats)

-- a report leaves who is enabled
reported-enabled : {C T Q X : Type 0}
    → (P : Protocol C T Q X) (seat : Seat X)
    → is_enabled_seat P seat ≡ true
    → is_enabled_seat P (reported seat) ≡ true
reported-enabled P (Attached x) is = is
reported-enabled P (Lost loss is_reported is_told) is = is
reported-enabled P Left is = is

-- ---- behind a run

resumed_free : {C T Q X : Type 0}
    → (P : Protocol C T Q X) (m : Meaning C Q X) (b : Bool)
    → is_paused m ≡ false
    → is_paused (if b then m else resume P m) ≡ false
resumed_free P m true is = is
resumed_free P m false is = rw is is

-- a program that is paused stays so where somebody is enabled
settled : {C T Q X : Type 0}
    → (P : Protocol C T Q X) (m : Meaning C Q X) (b : Bool)
    → is_paused m ≡ b
    → (b ≡ true → some (is_enabled_seat P) m.seats ≡ true)
    → is_paused (settle P m) ≡ b
settled P m true is enabled = ap (λ c. is_paused (if c then m else resume P m)) (enabled refl) ∙ is
settled P m false is enabled = resumed_free P m (some (is_enabled_seat P) m.seats) is

step-enabled : {C T Q X : Type 0}
    → (P : Protocol C T Q X)
    → NamesEnabled P
    → (moment : ℕ) (gone : List ℕ) (m : Meaning C Q X) (b : Bool)
    → is_named P moment gone m.program m ≡ b
    → b ≡ true
    → some (is_enabled_seat P)
    (each (seat_behind P b (next_number m.stops) moment (told_at P m.program m)) (without gone m.seats)) ≡ true
step-enabled P enabled moment gone m true named is =
    some-each (stops_for P (next_number m.stops) moment (told_at P m.program m)) (is_enabled_seat P)
    (seat_behind P true (next_number m.stops) moment (told_at P m.program m))
    (stops-enabled P enabled (next_number m.stops) moment (told_at P m.program m)) (without gone m.seats) named
step-enabled P enabled moment gone m false named is = absurd cc

-- a run that makes steps leaves the program paused exactly where its last step is named
pub run-paused : {C T Q X : Type 0}
    → (P : Protocol C T Q X)
    → NamesEnabled P
    → (moment : ℕ) (gone : List ℕ) (n : ℕ) (m : Meaning C Q X)
    → is_paused (ran P (suc n) moment gone m) ≡ is_named P moment gone (after_steps P moment n m).program
    (after_steps P moment n m)
run-paused {C} {T} {Q} {X} P enabled moment gone n m =
    let k : Meaning C Q X = after_steps P moment n m in
    let l : Meaning C Q X = step P moment gone k in
    let named : Bool = is_named P moment gone k.program k in
    settled P (with_seats (each reported l.seats) l) named (step-stops P moment gone k)
    (λ is. some-each (is_enabled_seat P) (is_enabled_seat P) reported (reported-enabled P) l.seats
    (step-enabled P enabled moment gone k named refl is))

-- one that makes none leaves it as it was
pub rest-paused : {C T Q X : Type 0}
    → (P : Protocol C T Q X) (moment : ℕ) (m : Meaning C Q X)
    → IsPausedWell P m
    → is_paused (ran P zero moment [] m) ≡ is_paused m
rest-paused {C} {T} {Q} {X} P moment m well =
    let k : Meaning C Q X = after_run P moment [] zero m in
    settled P (with_seats (each reported k.seats) k) (is_paused m) refl
    (λ is. some-each (is_enabled_seat P) (is_enabled_seat P) reported (reported-enabled P) k.seats
    (ap (λ seats. some (is_enabled_seat P) seats) (without-none m.seats) ∙ well.enabled is))

-- ---- what else a run leaves

settled-shut : {C T Q X : Type 0} → (P : Protocol C T Q X) (m : Meaning C Q X) (enabled paused : Bool)
    → (if enabled then m else if paused then record m {
      stop = None;
      seats = each (resumed_seat P) m.seats;
    } else m).shut ≡ m.shut
settled-shut P m true paused = refl
settled-shut P m false true = refl
settled-shut P m false false = refl

steps-shut : {C T Q X : Type 0}
    → (P : Protocol C T Q X) (moment n : ℕ) (m : Meaning C Q X)
    → (after_steps P moment n m).shut ≡ m.shut
steps-shut P moment zero m = refl
steps-shut P moment (suc n) m = steps-shut P moment n (step P moment [] m)

run-shut_by : {C T Q X : Type 0}
    → (P : Protocol C T Q X) (moment : ℕ) (gone : List ℕ) (n : ℕ) (m : Meaning C Q X)
    → (after_run P moment gone n m).shut ≡ m.shut
run-shut_by P moment gone zero m = refl
run-shut_by P moment gone (suc n) m = steps-shut P moment n m

-- whether the program was shut
pub run-shut : {C T Q X : Type 0}
    → (P : Protocol C T Q X) (moment : ℕ) (gone : List ℕ) (n : ℕ) (m : Meaning C Q X)
    → (ran P n moment gone m).shut ≡ m.shut
run-shut {C} {T} {Q} {X} P moment gone n m =
    let k : Meaning C Q X = after_run P moment gone n m in
    settled-shut P (with_seats (each reported k.seats) k) (some (is_enabled_seat P) (each reported k.seats))
    (is_paused k)
    ∙ run-shut_by P moment gone n m

settled-phase : {C T Q X : Type 0} → (P : Protocol C T Q X) (m : Meaning C Q X) (enabled paused : Bool)
    → (if enabled then m else if paused then record m {
      stop = None;
      seats = each (resumed_seat P) m.seats;
    } else m).phase ≡ m.phase
settled-phase P m true paused = refl
settled-phase P m false true = refl
settled-phase P m false false = refl

-- how far it has begun
pub run-phase : {C T Q X : Type 0}
    → (P : Protocol C T Q X) (moment : ℕ) (gone : List ℕ) (n : ℕ) (m : Meaning C Q X)
    → (ran P n moment gone m).phase ≡ (after_run P moment gone n m).phase
run-phase {C} {T} {Q} {X} P moment gone n m =
    let k : Meaning C Q X = after_run P moment gone n m in
    settled-phase P (with_seats (each reported k.seats) k) (some (is_enabled_seat P) (each reported k.seats))
    (is_paused k)

-- ---- the sessions of a host

enabled_by : (t : Step) (x : Session) (b : Bool) → x.rules.enabled ≡ b → names_stop t x ≡ true → b ≡ true
enabled_by t x true is named = refl
enabled_by t x false is named =
    let e : names_stop t x ≡ false = rw is (and_right t.first false refl) in
    absurd cc

-- a session without the debugger names no step, and being told changes none of its rules but its requests
pub names-enabled : (scripts : List Script) → NamesEnabled (protocol scripts)
names-enabled scripts number moment t x named =
    ap (λ rules. rules.enabled) (told-asks (seen_behind scripts t) moment t x).rules
    ∙ enabled_by t x x.rules.enabled refl named
