-- Steps that come behind others, and steps that lose nobody for want of memory.
use Rattle.std.proofs.Common.{◌≡◌, ℕ, zero, suc, ◌+◌, List, [], ◌∷◌, Bool, true, false, ◌||◌, not, refl, ap, sym, ◌∙◌, arith, if◌then◌else◌}
use Rattle.std.proofs.lemmas.Bool.{and_parts, not-true, or_parts}
use Rattle.cdp_host_isolation.specs.Seats.{each, lost_by, some, waits_for_report, without}
use Rattle.cdp_host_isolation.specs.Protocols.{Protocol}
use Rattle.cdp_host_isolation.specs.Meanings.{Meaning, after_run, after_steps, is_held, is_named, is_paused, is_ready, next_number, seat_behind, step, told_at}
use Rattle.cdp_host_isolation.specs.Meanings.{waits}
use Rattle.cdp_host_isolation.specs.Meanings.{with_seats}
use Rattle.cdp_host_isolation.specs.Standing.{fallen_from, fallen_in, fell}
use Rattle.cdp_host_isolation.specs.declared.seat.Loss.TheVariants.{Overrun}
use Rattle.cdp_host_isolation.specs.declared.seat.Seat.{Seat}
use Rattle.cdp_host_isolation.specs.declared.seat.Seat.TheVariants.{Attached, Lost, Left}
use Rattle.cdp_host_isolation.proofs.FallenLemmas.{waits-fallen, without-none}

-- ---- steps behind others

-- one more step comes behind the others
pub after-suc : {C T Q X : Type 0} → (P : Protocol C T Q X) (j moment : ℕ) (m : Meaning C Q X)
    → after_steps P moment (suc j) m ≡ step P moment [] (after_steps P moment j m)
after-suc P zero moment m = refl
after-suc P (suc j) moment m = after-suc P j moment (step P moment [] m)

-- so many steps, and then so many
pub after-more : {C T Q X : Type 0} → (P : Protocol C T Q X) (i j moment : ℕ) (m : Meaning C Q X)
    → after_steps P moment (i + j) m ≡ after_steps P moment j (after_steps P moment i m)
after-more P zero j moment m = let e : zero + j ≡ j = omega arith in ap (λ k. after_steps P moment k m) e
after-more P (suc i) j moment m =
    let e : suc i + j ≡ suc (i + j) = omega arith in
    ap (λ k. after_steps P moment k m) e ∙ after-more P i j moment (step P moment [] m)

-- ---- nobody is lost

-- a run whose last step loses nobody
pub run-none : {C T Q X : Type 0} → (P : Protocol C T Q X) (k moment : ℕ) (m : Meaning C Q X)
    → after_run P moment [] k m ≡ after_steps P moment k m
run-none P zero moment m = ap (λ seats. with_seats seats m) (without-none m.seats)
run-none P (suc k) moment m = sym (after-suc P k moment m)

-- what a program that is ready isn't
pub ready-parts : {C T Q X : Type 0} → (P : Protocol C T Q X) (m : Meaning C Q X) → is_ready P m ≡ true
    → (is_held m ≡ false) × (P.is_over m.program ≡ false)
ready-parts P m ready =
    let parts = and_parts (not (is_held m)) (not (P.is_over m.program)) ready in
    (not-true (is_held m) parts.0, not-true (P.is_over m.program) parts.1)

-- no session that fell waits where the program is ready
pub ready-none : {C T Q X : Type 0}
    → (P : Protocol C T Q X) (n : Meaning C Q X)
    → is_ready P n ≡ true
    → fallen_in n.seats ≡ []
ready-none P n ready =
    let held = or_parts (is_paused n) (waits n.phase || (n.shut || some waits_for_report n.seats))
    (ready-parts P n ready).0 in
    let begun = or_parts (waits n.phase) (n.shut || some waits_for_report n.seats) held.1 in
    let open_still = or_parts n.shut (some waits_for_report n.seats) begun.1 in
    waits-fallen n.seats open_still.1

fallen-each : {X : Type 0} → (f : Seat X → Seat X) → ((seat : Seat X) → fell (f seat) ≡ fell seat)
    → (s : ℕ) (seats : List (Seat X)) → fallen_from s (each f seats) ≡ fallen_from s seats
fallen-each f same s [] = refl
fallen-each f same s (seat ∷ seats) =
    ap (λ b. if b then s ∷ fallen_from (s + 1) (each f seats) else fallen_from (s + 1) (each f seats)) (same seat)
    ∙ ap (λ more. if fell seat then s ∷ more else more) (fallen-each f same (s + 1) seats)

-- whether the texts of a step fit, no session falls at it
fell-told : {C T Q X : Type 0} → (P : Protocol C T Q X) (b stops fits : Bool) (x y : X)
    → fell (if fits then (if stops then (if b then Attached x else lost_by Overrun) else Attached y)
    else lost_by Overrun)
    ≡ false
fell-told P true true true x y = refl
fell-told P false true true x y = refl
fell-told P b false true x y = refl
fell-told P b stops false x y = refl

fell-behind : {C T Q X : Type 0} → (P : Protocol C T Q X) (stops : Bool) (number moment : ℕ) (t : T) (seat : Seat X)
    → fell (seat_behind P stops number moment t seat) ≡ fell seat
fell-behind P true number moment t (Attached x) =
    fell-told P (P.fits (P.stopped number t (P.told moment t x))) true _ (P.stopped number t (P.told moment t x)) x
fell-behind P false number moment t (Attached x) = fell-told P true false _ x (P.told moment t x)
fell-behind P stops number moment t (Lost loss is_reported is_told) = refl
fell-behind P stops number moment t Left = refl

-- steps with memory for all leave those that fell as they were
pub steps-fallen : {C T Q X : Type 0} → (P : Protocol C T Q X) (k moment : ℕ) (m : Meaning C Q X)
    → fallen_in (after_steps P moment k m).seats ≡ fallen_in m.seats
steps-fallen P zero moment m = refl
steps-fallen P (suc k) moment m =
    steps-fallen P k moment (step P moment [] m)
    ∙ fallen-each
    (seat_behind P (is_named P moment [] m.program m) (next_number m.stops) moment (told_at P m.program m))
    (fell-behind P (is_named P moment [] m.program m) (next_number m.stops) moment (told_at P m.program m)) 1
    (without [] m.seats)
    ∙ ap (λ seats. fallen_in seats) (without-none m.seats)
