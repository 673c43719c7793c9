-- A step that each session with the debugger enabled names stops the program where one survives it.
use Rattle.std.proofs.Common.{◌≡◌, ◌<◌, ℕ, zero, suc, List, [], Bool, true, false, ◌&&◌, if◌then◌else◌, refl, ap, sym, ◌∙◌, arith}
use Rattle.cdp_host_isolation.specs.Seats.{fallen, is_listed, lost_by, seat_of, without}
use Rattle.cdp_host_isolation.specs.Protocols.{Protocol}
use Rattle.cdp_host_isolation.specs.Meanings.{Meaning, after_run, after_steps, is_enabled_seat, is_named, is_paused, is_ready, next_number, seat_behind, step, stops_for, survives, told_at, told_of}
use Rattle.cdp_host_isolation.specs.declared.seat.Loss.TheVariants.{Overrun}
use Rattle.cdp_host_isolation.specs.declared.seat.Seat.{Seat}
use Rattle.cdp_host_isolation.specs.declared.seat.Seat.TheVariants.{Attached, Lost, Left}
use Rattle.cdp_host_isolation.proofs.AloneLemmas.{ready-goes, step-stops}
use Rattle.cdp_host_isolation.proofs.SeatLemmas.{each-at, without-at}
use Rattle.cdp_host_isolation.proofs.StepLemmas.{ready-parts}
use Rattle.cdp_host_laws.proofs.TellLemmas.{some-at}

-- a session is as enabled after a step as it was before
pub record StaysEnabled {C T Q X : Type 0} (P : Protocol C T Q X) : Type 0 where
  pub told : (moment : ℕ) (t : T) (x : X) → P.is_enabled (P.told moment t x) ≡ P.is_enabled x
  pub stopped : (number : ℕ) (t : T) (x : X) → P.is_enabled (P.stopped number t x) ≡ P.is_enabled x
  pub resumed : (x : X) → P.is_enabled (P.resumed x) ≡ P.is_enabled x

-- ---- one seat

kept_before : {C T Q X : Type 0} → (P : Protocol C T Q X) (b : Bool) (y : X)
    → is_enabled_seat P (if b then Attached y else lost_by Overrun) ≡ true
    → P.is_enabled y ≡ true
kept_before P true y enabled = enabled
kept_before P false y enabled = absurd cc

told_before : {C T Q X : Type 0} → (P : Protocol C T Q X) (stops : Bool) (number moment : ℕ) (t : T) (x : X)
    → StaysEnabled P
    → is_enabled_seat P (told_of P stops number moment t x) ≡ true
    → P.is_enabled x ≡ true
told_before P true number moment t x stays enabled =
    let y = P.told moment t x in
    let z = P.stopped number t y in
    sym (stays.stopped number t y ∙ stays.told moment t x) ∙ kept_before P (P.fits z) z enabled
told_before P false number moment t x stays enabled = sym (stays.told moment t x) ∙ enabled

own_stop : {C T Q X : Type 0} → (P : Protocol C T Q X) (stops survived : Bool) (number moment : ℕ) (t : T) (x : X)
    → StaysEnabled P
    → (P.is_enabled x ≡ true → P.names t x ≡ true)
    → is_enabled_seat P (if survived then told_of P stops number moment t x else lost_by Overrun) ≡ true
    → (survived && P.names t x) ≡ true
own_stop P stops true number moment t x stays names enabled =
    names (told_before P stops number moment t x stays enabled)
own_stop P stops false number moment t x stays names enabled = absurd cc

-- a session that has the debugger enabled after a step that it names stopped the program
seat_stop : {C T Q X : Type 0} → (P : Protocol C T Q X) (stops : Bool) (number moment : ℕ) (t : T) (seat : Seat X)
    → StaysEnabled P
    → ((x : X) → P.is_enabled x ≡ true → P.names t x ≡ true)
    → is_enabled_seat P (seat_behind P stops number moment t seat) ≡ true
    → stops_for P number moment t seat ≡ true
seat_stop P stops number moment t (Attached x) stays names enabled =
    own_stop P stops (survives P number moment t x) number moment t x stays (names x) enabled
seat_stop P stops number moment t (Lost loss is_reported is_told) stays names enabled = absurd cc
seat_stop P stops number moment t Left stays names enabled = absurd cc

own_before : {C T Q X : Type 0} → (P : Protocol C T Q X) (stops survived : Bool) (number moment : ℕ) (t : T) (x : X)
    → StaysEnabled P
    → is_enabled_seat P (if survived then told_of P stops number moment t x else lost_by Overrun) ≡ true
    → P.is_enabled x ≡ true
own_before P stops true number moment t x stays enabled = told_before P stops number moment t x stays enabled
own_before P stops false number moment t x stays enabled = absurd cc

-- and it had it enabled before
seat_before : {C T Q X : Type 0} → (P : Protocol C T Q X) (stops : Bool) (number moment : ℕ) (t : T) (seat : Seat X)
    → StaysEnabled P
    → is_enabled_seat P (seat_behind P stops number moment t seat) ≡ true
    → is_enabled_seat P seat ≡ true
seat_before P stops number moment t (Attached x) stays enabled =
    own_before P stops (survives P number moment t x) number moment t x stays enabled
seat_before P stops number moment t (Lost loss is_reported is_told) stays enabled = enabled
seat_before P stops number moment t Left stays enabled = enabled

unfallen : {C T Q X : Type 0} → (P : Protocol C T Q X) (listed : Bool) (seat : Seat X)
    → is_enabled_seat P (if listed then fallen seat else seat) ≡ true
    → is_enabled_seat P seat ≡ true
unfallen P true (Attached x) enabled = absurd cc
unfallen P true (Lost loss is_reported is_told) enabled = enabled
unfallen P true Left enabled = enabled
unfallen P false seat enabled = enabled

-- ---- a step

behind_at : {C T Q X : Type 0} → (P : Protocol C T Q X) (moment r : ℕ) (gone : List ℕ) (m : Meaning C Q X)
    → seat_of r (step P moment gone m).seats
    ≡ seat_behind P (is_named P moment gone m.program m) (next_number m.stops) moment (told_at P m.program m)
    (seat_of r (without gone m.seats))
behind_at P moment r gone m =
    each-at
    (seat_behind P (is_named P moment gone m.program m) (next_number m.stops) moment (told_at P m.program m)) refl r
    (without gone m.seats)

-- the program stopped where a session has the debugger enabled after a step that all such sessions name
pub step-named : {C T Q X : Type 0} → (P : Protocol C T Q X) (moment r : ℕ) (gone : List ℕ) (m : Meaning C Q X)
    → StaysEnabled P
    → ((x : X) → P.is_enabled x ≡ true → P.names (told_at P m.program m) x ≡ true)
    → is_enabled_seat P (seat_of r (step P moment gone m).seats) ≡ true
    → is_paused (step P moment gone m) ≡ true
step-named P moment r gone m stays names enabled =
    let number = next_number m.stops in
    let t = told_at P m.program m in
    let b = is_named P moment gone m.program m in
    let seats = without gone m.seats in
    step-stops P moment gone m
    ∙ some-at (stops_for P number moment t) refl r seats
    (seat_stop P b number moment t (seat_of r seats) stays names
    (ap (λ seat. is_enabled_seat P seat) (sym (behind_at P moment r gone m)) ∙ enabled))

-- a session that has it enabled after a step had it before
pub step-before : {C T Q X : Type 0} → (P : Protocol C T Q X) (moment r : ℕ) (gone : List ℕ) (m : Meaning C Q X)
    → StaysEnabled P
    → is_enabled_seat P (seat_of r (step P moment gone m).seats) ≡ true
    → is_enabled_seat P (seat_of r m.seats) ≡ true
step-before P moment r gone m stays enabled =
    let number = next_number m.stops in
    let t = told_at P m.program m in
    let b = is_named P moment gone m.program m in
    unfallen P (is_listed gone r) (seat_of r m.seats)
    (ap (λ seat. is_enabled_seat P seat) (sym (without-at gone r m.seats))
    ∙ seat_before P b number moment t (seat_of r (without gone m.seats)) stays
    (ap (λ seat. is_enabled_seat P seat) (sym (behind_at P moment r gone m)) ∙ enabled))

-- so it was after the first of so many
pub steps-before : {C T Q X : Type 0} → (P : Protocol C T Q X) (j moment r : ℕ) (m : Meaning C Q X) → StaysEnabled P
    → is_enabled_seat P (seat_of r (after_steps P moment j m).seats) ≡ true
    → is_enabled_seat P (seat_of r m.seats) ≡ true
steps-before P zero moment r m stays enabled = enabled
steps-before P (suc j) moment r m stays enabled =
    step-before P moment r [] m stays (steps-before P j moment r (step P moment [] m) stays enabled)

-- ---- a run

-- A run whose first step is one that all such sessions name makes that step alone.
pub run-stops : {C T Q X : Type 0}
    → (P : Protocol C T Q X) (n j moment r : ℕ) (gone : List ℕ) (m : Meaning C Q X)
    → StaysEnabled P
    → n ≡ suc j
    → ((i : ℕ) → i < n → is_ready P (after_steps P moment i m) ≡ true)
    → (P.is_over (P.next m.program) ≡ false
    → (x : X) → P.is_enabled x ≡ true → P.names (told_at P m.program m) x ≡ true)
    → is_enabled_seat P (seat_of r (after_run P moment gone n m).seats) ≡ true
    → P.is_over (after_run P moment gone n m).program ≡ false
    → (n ≡ 1) × (is_paused (after_run P moment gone n m) ≡ true)
run-stops P n zero moment r gone m stays last ready names enabled going =
    let run : after_run P moment gone n m ≡ step P moment gone m = ap (λ i. after_run P moment gone i m) last in (
      last,
      ap (λ k. is_paused k) run
          ∙ step-named P moment r gone m stays (names (ap (λ k. P.is_over k.program) (sym run) ∙ going))
          (ap (λ k. is_enabled_seat P (seat_of r k.seats)) (sym run) ∙ enabled),
    )
run-stops P n (suc j) moment r gone m stays last ready names enabled going =
    let run : after_run P moment gone n m ≡ step P moment gone (after_steps P moment (suc j) m)
    = ap (λ i. after_run P moment gone i m) last in
    let first = step P moment [] m in
    let there : is_ready P first ≡ true = ready (suc zero) (omega (arith, last)) in
    let before : is_enabled_seat P (seat_of r first.seats) ≡ true
    = steps-before P j moment r first stays
    (step-before P moment r gone (after_steps P moment j first) stays
    (ap (λ k. is_enabled_seat P (seat_of r k.seats)) (sym run) ∙ enabled)) in
    let paused : is_paused first ≡ true
    = step-named P moment r [] m stays (names (ready-parts P first there).1) before in
    let e : true ≡ false = sym paused ∙ ready-goes P first there in
    absurd cc
