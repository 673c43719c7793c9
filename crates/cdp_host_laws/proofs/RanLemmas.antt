-- What a run leaves of a host: a stop of it isn't undone.
use Rattle.std.proofs.Common.{◌≡◌, ℕ, suc, ◌+◌, List, [], ◌∷◌, Bool, true, false, ◌||◌, if◌then◌else◌, None, refl, ap, sym, ◌∙◌, arith}
use Rattle.std.proofs.lemmas.Bool.{and_parts, or_right}
use Rattle.cdp_host_isolation.specs.Seats.{each, is_attached, lost_by, reported, seat_of, some, without}
use Rattle.cdp_host_isolation.specs.Protocols.{Protocol}
use Rattle.cdp_host_isolation.specs.Meanings.{Meaning, after_run, after_steps, is_enabled_seat, is_named, is_paused, kept, next_number, resume, resumed_seat, seat_behind, settle, step, stops_for, survives, told_at, with_seats}
use Rattle.cdp_host_isolation.specs.Histories.{Ran, apply}
use Rattle.cdp_host_isolation.specs.declared.seat.Loss.TheVariants.{Overrun}
use Rattle.cdp_host_isolation.specs.declared.seat.Seat.{Seat}
use Rattle.cdp_host_isolation.specs.declared.seat.Seat.TheVariants.{Attached, Lost, Left}
use Rattle.cdp_host_isolation.proofs.AloneLemmas.{step-stops}
use Rattle.cdp_host_isolation.proofs.SeatLemmas.{each-at}

-- a session that names a step has the debugger enabled, and still has after the stop
pub record NamesEnabled {C T Q X : Type 0} (P : Protocol C T Q X) : Type 0 where
  pub enabled : (t : T) (x : X) → P.names t x ≡ true → P.is_enabled x ≡ true
  pub stays : (number moment : ℕ) (t : T) (x : X)
      → P.is_enabled (P.stopped number t (P.told moment t x)) ≡ P.is_enabled x

-- ---- nobody goes on

settled_stays : {C T Q X : Type 0} → (P : Protocol C T Q X) (m : Meaning C Q X) (b p : Bool) → is_paused m ≡ p
    → (p ≡ true → b ≡ true)
    → (if b then m else resume P m) ≡ m
settled_stays P m true p is enabled = refl
settled_stays P m false true is enabled = let e : false ≡ true = enabled refl in absurd cc
settled_stays P m false false is enabled =
    ap (λ b. if b then record m { stop = None; seats = each (resumed_seat P) m.seats } else m) is

-- where a paused program has an enabled session, it stays as it is
pub settle-stays : {C T Q X : Type 0} → (P : Protocol C T Q X) (m : Meaning C Q X)
    → (is_paused m ≡ true → some (is_enabled_seat P) m.seats ≡ true)
    → settle P m ≡ m
settle-stays P m enabled = settled_stays P m (some (is_enabled_seat P) m.seats) (is_paused m) refl enabled

-- ---- a stop

seat_enabled : {C T Q X : Type 0} → (P : Protocol C T Q X) (number moment : ℕ) (t : T) (seat : Seat X) → NamesEnabled P
    → stops_for P number moment t seat ≡ true
    → is_enabled_seat P (reported (seat_behind P true number moment t seat)) ≡ true
seat_enabled P number moment t (Attached x) names stops =
    let y = P.told moment t x in
    let z = P.stopped number t y in
    let both = and_parts (survives P number moment t x) (P.names t x) stops in
    let fit : P.fits z ≡ true = ap (λ b. P.fits (if b then z else y)) (sym both.1) ∙ both.0 in
    ap (λ b. is_enabled_seat P (reported (if b then kept P z else lost_by Overrun))) both.0
    ∙ ap (λ b. is_enabled_seat P (reported (if b then Attached z else lost_by Overrun))) fit
    ∙ names.stays number moment t x
    ∙ names.enabled t x both.1
seat_enabled P number moment t (Lost loss is_reported is_told) names stops = absurd cc
seat_enabled P number moment t Left names stops = absurd cc

either_way : (a b c d : Bool) → (a ≡ true → c ≡ true) → (b ≡ true → d ≡ true) → (a || b) ≡ true → (c || d) ≡ true
either_way true b c d first rest is = ap (λ e. e || d) (first refl)
either_way false b c d first rest is = or_right c d (rest is)

seats_enabled : {C T Q X : Type 0} → (P : Protocol C T Q X) (number moment : ℕ) (t : T) (seats : List (Seat X))
    → NamesEnabled P
    → some (stops_for P number moment t) seats ≡ true
    → some (is_enabled_seat P) (each reported (each (seat_behind P true number moment t) seats)) ≡ true
seats_enabled P number moment t [] names stops = absurd cc
seats_enabled P number moment t (seat ∷ seats) names stops =
    either_way (stops_for P number moment t seat) (some (stops_for P number moment t) seats)
    (is_enabled_seat P (reported (seat_behind P true number moment t seat)))
    (some (is_enabled_seat P) (each reported (each (seat_behind P true number moment t) seats)))
    (seat_enabled P number moment t seat names) (seats_enabled P number moment t seats names) stops

-- a program that stopped has an enabled session
step_enabled : {C T Q X : Type 0} → (P : Protocol C T Q X) (moment : ℕ) (gone : List ℕ) (m : Meaning C Q X)
    → NamesEnabled P
    → is_paused (step P moment gone m) ≡ true
    → some (is_enabled_seat P) (each reported (step P moment gone m).seats) ≡ true
step_enabled P moment gone m names paused =
    let number = next_number m.stops in
    let t = told_at P m.program m in
    let seats = without gone m.seats in
    let named : is_named P moment gone m.program m ≡ true = sym (step-stops P moment gone m) ∙ paused in
    ap (λ b. some (is_enabled_seat P) (each reported (each (seat_behind P b number moment t) seats))) named
    ∙ seats_enabled P number moment t seats names named

-- so a run leaves the program as its last step does
pub ran-leaves : {C T Q X : Type 0} → (P : Protocol C T Q X) (moment : ℕ) (gone : List ℕ) (n j : ℕ) (m : Meaning C Q X)
    → NamesEnabled P
    → n ≡ j + 1
    → apply P m (Ran n moment gone) ≡
    with_seats (each reported (after_run P moment gone n m).seats) (after_run P moment gone n m)
ran-leaves P moment gone n j m names last =
    let e : n ≡ suc j = omega (arith, last) in
    let left : ℕ → Meaning _ _ _ = λ i.
    with_seats (each reported (after_run P moment gone i m).seats) (after_run P moment gone i m) in
    ap (λ i. settle P (left i)) e
    ∙ settle-stays P (left (suc j)) (step_enabled P moment gone (after_steps P moment j m) names)
    ∙ ap left (sym e)

reported_attached : {X : Type 0} → (seat : Seat X) → is_attached (reported seat) ≡ is_attached seat
reported_attached (Attached x) = refl
reported_attached (Lost loss is_reported is_told) = refl
reported_attached Left = refl

-- it is paused after the entry where its last step paused it
pub ran-paused : {C T Q X : Type 0} → (P : Protocol C T Q X) (moment : ℕ) (gone : List ℕ) (n j : ℕ) (m : Meaning C Q X)
    → NamesEnabled P
    → n ≡ j + 1
    → is_paused (apply P m (Ran n moment gone)) ≡ is_paused (after_run P moment gone n m)
ran-paused P moment gone n j m names last = ap (λ k. is_paused k) (ran-leaves P moment gone n j m names last)

-- and a session is attached after it that its last step left so
pub ran-attached : {C T Q X : Type 0}
    → (P : Protocol C T Q X) (moment : ℕ) (gone : List ℕ) (n j s : ℕ) (m : Meaning C Q X)
    → NamesEnabled P
    → n ≡ j + 1
    → is_attached (seat_of s (apply P m (Ran n moment gone)).seats)
    ≡ is_attached (seat_of s (after_run P moment gone n m).seats)
ran-attached P moment gone n j s m names last =
    let k = after_run P moment gone n m in
    ap (λ l. is_attached (seat_of s l.seats)) (ran-leaves P moment gone n j m names last)
    ∙ ap (λ seat. is_attached seat) (each-at reported refl s k.seats)
    ∙ reported_attached (seat_of s k.seats)
