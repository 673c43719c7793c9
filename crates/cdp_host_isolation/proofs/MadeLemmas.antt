-- What stretches of steps come to: stretches behind others, the longest run, and a stretch of which nobody is told
-- before its end.
use Rattle.std.proofs.Common.{◌≡◌, ◌⊎◌, ℕ, zero, suc, ◌+◌, ◌-◌, ◌<◌, ◌≤◌, List, [], ◌∷◌, Bool, true, false, ◌||◌, inl, inr, refl, ap, sym, subst, ◌∙◌}
use Rattle.std.proofs.Common.{arith, if◌then◌else◌, Option, Some, None, is_some}
use Rattle.std.proofs.lemmas.Bool.{and_right, or_from, or_parts}
use Rattle.cdp_host_isolation.specs.Seats.{each, lost_by, some, waits_for_report, without}
use Rattle.cdp_host_isolation.specs.Protocols.{Protocol}
use Rattle.cdp_host_isolation.specs.Meanings.{Meaning, after_run, after_steps, behind, is_first, is_held, is_paused, is_ready, longest, next_number}
use Rattle.cdp_host_isolation.specs.Meanings.{seat_behind, step, stops_for, survives, told_at, waits}
use Rattle.cdp_host_isolation.specs.Standing.{fallen_in}
use Rattle.cdp_host_isolation.specs.Stops.{plain}
use Rattle.cdp_host_isolation.specs.Texts.{Fits}
use Rattle.cdp_host_isolation.specs.Runs.{AllFit, HasMade, IsLongest, IsQuiet, names_seat}
use Rattle.cdp_host_isolation.specs.declared.phase.Phase.{Phase}
use Rattle.cdp_host_isolation.specs.declared.phase.Phase.TheVariants.{Running}
use Rattle.cdp_host_isolation.specs.declared.seat.Loss.TheVariants.{Overrun}
use Rattle.cdp_host_isolation.specs.declared.seat.Seat.{Seat}
use Rattle.cdp_host_isolation.specs.declared.seat.Seat.TheVariants.{Attached, Lost, Left}
use Rattle.cdp_host_isolation.proofs.FallenLemmas.{less-self, without-none}
use Rattle.cdp_host_isolation.proofs.StepLemmas.{after-more, after-suc, ready-none, run-none, steps-fallen}

-- ---- stretches

-- no step
pub made-none : {C T Q X : Type 0} → (P : Protocol C T Q X) (moment : ℕ) (m : Meaning C Q X) → HasMade P moment m m zero
made-none P moment m = record { reached = sym (less-self m); ready = λ j below. absurd (omega (arith, below)) }

-- where a stretch led, if none fell there
reached-none : {C T Q X : Type 0}
    → (P : Protocol C T Q X) (moment k : ℕ) (m n : Meaning C Q X)
    → HasMade P moment m n k
    → fallen_in n.seats ≡ []
    → n ≡ after_steps P moment k m
reached-none P moment k m n made none =
    made.reached ∙ ap (λ gone. after_run P moment gone k m) none ∙ run-none P k moment m

ready-sum : {C T Q X : Type 0} → (P : Protocol C T Q X) (moment j k : ℕ) (m : Meaning C Q X)
    → ((i : ℕ) → i < j → is_ready P (after_steps P moment i m) ≡ true)
    → ((i : ℕ) → i < k → is_ready P (after_steps P moment i (after_steps P moment j m)) ≡ true)
    → (i : ℕ) → i < j + k → is_ready P (after_steps P moment i m) ≡ true
ready-sum P moment zero k m first others i below = others i (omega (arith, below))
ready-sum P moment (suc j) k m first others zero below = first zero (omega arith)
ready-sum P moment (suc j) k m first others (suc i) below =
    ready-sum P moment j k (step P moment [] m) (λ h small. first (suc h) (omega (arith, small))) others i
    (omega (arith, below))

run-more : {C T Q X : Type 0} → (P : Protocol C T Q X) (moment j k : ℕ) (gone : List ℕ) (m : Meaning C Q X) → 0 < k
    → after_run P moment gone k (after_steps P moment j m) ≡ after_run P moment gone (j + k) m
run-more P moment j zero gone m some_made = absurd (omega (arith, some_made))
run-more P moment j (suc k) gone m some_made =
    let e : suc (j + k) ≡ j + suc k = omega arith in
    ap (λ n. step P moment gone n) (sym (after-more P j k moment m)) ∙ ap (λ i. after_run P moment gone i m) e

-- a stretch behind another
pub made-more : {C T Q X : Type 0} → (P : Protocol C T Q X) (moment j k : ℕ) (m n o : Meaning C Q X)
    → HasMade P moment m n j → is_ready P n ≡ true → HasMade P moment n o k → 0 < k → HasMade P moment m o (j + k)
made-more P moment j k m n o first go others some_made =
    let there : n ≡ after_steps P moment j m = reached-none P moment j m n first (ready-none P n go) in
    let R : Meaning _ _ _ → Type 0 = λ q. (i : ℕ) → i < k → is_ready P (after_steps P moment i q) ≡ true in
    record {
      reached =
          others.reached
          ∙ ap (λ q. after_run P moment (fallen_in o.seats) k q) there
          ∙ run-more P moment j k (fallen_in o.seats) m some_made;
      ready = ready-sum P moment j k m first.ready (subst R there others.ready);
    }

-- ---- the longest run

one_less : {C T Q X : Type 0} → (P : Protocol C T Q X) (moment most k : ℕ) (m : Meaning C Q X)
    → (suc k ≡ suc most) ⊎ (is_ready P (after_steps P moment (suc k) m) ≡ false)
    → (k ≡ most) ⊎ (is_ready P (after_steps P moment k (step P moment [] m)) ≡ false)
one_less P moment most k m (inl is) = inl (omega (arith, is))
one_less P moment most k m (inr stays) = inr stays

longest-of : {C T Q X : Type 0} → (P : Protocol C T Q X) (moment most k : ℕ) (m : Meaning C Q X) → k ≤ most
    → ((j : ℕ) → j < k → is_ready P (after_steps P moment j m) ≡ true)
    → (k ≡ most) ⊎ (is_ready P (after_steps P moment k m) ≡ false) → k ≡ longest P moment most m
longest-of P moment zero k m within ready full = omega (arith, within)
longest-of P moment (suc most) zero m within ready (inl is) = absurd (omega (arith, is))
longest-of P moment (suc most) zero m within ready (inr stays) = rw stays refl
longest-of P moment (suc most) (suc k) m within ready full =
    let e : k ≡ longest P moment most (step P moment [] m) =
    longest-of P moment most k (step P moment [] m) (omega (arith, within))
    (λ j below. ready (suc j) (omega (arith, below)))
    (one_less P moment most k m full) in
    let go : is_ready P m ≡ true = ready zero (omega arith) in
    rw go (omega (arith, e))

-- a longest run has the length that `longest` says, where none fell
pub made-longest : {C T Q X : Type 0} → (P : Protocol C T Q X) (moment most k : ℕ) (m n : Meaning C Q X)
    → IsLongest P moment most m n k → fallen_in n.seats ≡ [] → k ≡ longest P moment most m
made-longest P moment most k m n is none =
    let F : Meaning _ _ _ → Type 0 = λ q. (k ≡ most) ⊎ (is_ready P q ≡ false) in
    longest-of P moment most k m is.within is.made.ready (subst F (reached-none P moment k m n is.made none) is.full)

-- what a run of that length is, in steps with memory for all
record IsFull {C T Q X : Type 0} (P : Protocol C T Q X) (moment most : ℕ) (m : Meaning C Q X) (k : ℕ) : Type 0 where
  within : k ≤ most
  ready : (j : ℕ) → j < k → is_ready P (after_steps P moment j m) ≡ true
  full : (k ≡ most) ⊎ (is_ready P (after_steps P moment k m) ≡ false)

full_more : {C T Q X : Type 0} → (P : Protocol C T Q X) (moment most k : ℕ) (m : Meaning C Q X)
    → (k ≡ most) ⊎ (is_ready P (after_steps P moment k (step P moment [] m)) ≡ false)
    → (suc k ≡ suc most) ⊎ (is_ready P (after_steps P moment (suc k) m) ≡ false)
full_more P moment most k m (inl is) = inl (omega (arith, is))
full_more P moment most k m (inr stays) = inr stays

ready_more : {C T Q X : Type 0} → (P : Protocol C T Q X) (moment k : ℕ) (m : Meaning C Q X) → is_ready P m ≡ true
    → ((j : ℕ) → j < k → is_ready P (after_steps P moment j (step P moment [] m)) ≡ true)
    → (j : ℕ) → j < suc k → is_ready P (after_steps P moment j m) ≡ true
ready_more P moment k m go ready zero below = go
ready_more P moment k m go ready (suc j) below = ready j (omega (arith, below))

full_by : {C T Q X : Type 0}
    → (P : Protocol C T Q X) (moment most : ℕ) (m : Meaning C Q X) (b : Bool)
    → is_ready P m ≡ b
    → IsFull P moment most (step P moment [] m) (longest P moment most (step P moment [] m))
    → IsFull P moment (suc most) m (if b then longest P moment most (step P moment [] m) + 1 else 0)
full_by P moment most m true go is =
    let k : ℕ = longest P moment most (step P moment [] m) in
    let e : suc k ≡ k + 1 = omega arith in
    let one : IsFull P moment (suc most) m (suc k) = record {
      within = omega (arith, is.within);
      ready = ready_more P moment k m go is.ready;
      full = full_more P moment most k m is.full;
    } in
    subst (λ i. IsFull P moment (suc most) m i) e one
full_by P moment most m false stays is =
    record { within = omega arith; ready = λ j below. absurd (omega (arith, below)); full = inr stays }

longest-full : {C T Q X : Type 0}
    → (P : Protocol C T Q X) (moment most : ℕ) (m : Meaning C Q X)
    → IsFull P moment most m (longest P moment most m)
longest-full P moment zero m =
    record { within = omega arith; ready = λ j below. absurd (omega (arith, below)); full = inl refl }
longest-full P moment (suc most) m =
    full_by P moment most m (is_ready P m) refl (longest-full P moment most (step P moment [] m))

-- steps that are made where the program is ready are a stretch
pub made-ready : {C T Q X : Type 0} → (P : Protocol C T Q X) (moment k : ℕ) (m : Meaning C Q X)
    → ((j : ℕ) → j < k → is_ready P (after_steps P moment j m) ≡ true) → HasMade P moment m (after_steps P moment k m) k
made-ready P moment zero m ready = made-none P moment m
made-ready P moment (suc k) m ready =
    let none : fallen_in (after_steps P moment (suc k) m).seats ≡ [] =
    steps-fallen P (suc k) moment m ∙ ready-none P m (ready zero (omega arith)) in
    record {
      reached = sym (ap (λ gone. after_run P moment gone (suc k) m) none ∙ run-none P (suc k) moment m);
      ready = ready;
    }

-- so many steps as `longest` says, with memory for all, are a longest run
pub longest-exact : {C T Q X : Type 0} → (P : Protocol C T Q X) (moment most : ℕ) (m : Meaning C Q X)
    → IsLongest P moment most m (after_steps P moment (longest P moment most m) m) (longest P moment most m)
longest-exact P moment most m =
    let is = longest-full P moment most m in
    record { within = is.within; made = made-ready P moment (longest P moment most m) m is.ready; full = is.full }

-- ---- a step of which nobody is told

pub quiet-stops : {C T Q X : Type 0}
    → (P : Protocol C T Q X) (number moment : ℕ) (t : T) (seat : Seat X)
    → names_seat P t seat ≡ false
    → stops_for P number moment t seat ≡ false
quiet-stops P number moment t (Attached x) unnamed = and_right (survives P number moment t x) (P.names t x) unnamed
quiet-stops P number moment t (Lost loss is_reported is_told) unnamed = refl
quiet-stops P number moment t Left unnamed = refl

unnamed_stays : {C T Q X : Type 0}
    → (P : Protocol C T Q X) (names : Bool) (s d x : X)
    → names ≡ false
    → d ≡ x
    → P.fits x ≡ true
    → (if P.fits (if names then s else d) then Attached d else lost_by Overrun) ≡ Attached x
unnamed_stays P true s d x unnamed same fit = absurd cc
unnamed_stays P false s d x unnamed same fit =
    let fits : P.fits d ≡ true = ap (λ y. P.fits y) same ∙ fit in rw fits (ap (λ y. Attached y) same)

quiet-seat : {C T Q X : Type 0}
    → (P : Protocol C T Q X) (number moment : ℕ) (t : T) (seat : Seat X)
    → ((x : X) → P.told moment t x ≡ x)
    → names_seat P t seat ≡ false → Fits P seat → seat_behind P false number moment t seat ≡ seat
quiet-seat P number moment t (Attached x) silent unnamed fit =
    unnamed_stays P (P.names t x) (P.stopped number t (P.told moment t x)) (P.told moment t x) x unnamed (silent x) fit
quiet-seat P number moment t (Lost loss is_reported is_told) silent unnamed fit = refl
quiet-seat P number moment t Left silent unnamed fit = refl

quiet-some : {C T Q X : Type 0}
    → (P : Protocol C T Q X) (number moment : ℕ) (t : T) (seats : List (Seat X))
    → some (names_seat P t) seats ≡ false
    → some (stops_for P number moment t) seats ≡ false
quiet-some P number moment t [] unnamed = refl
quiet-some P number moment t (seat ∷ seats) unnamed =
    let parts = or_parts (names_seat P t seat) (some (names_seat P t) seats) unnamed in
    or_from (stops_for P number moment t seat) (some (stops_for P number moment t) seats)
    (quiet-stops P number moment t seat parts.0) (quiet-some P number moment t seats parts.1)

quiet-each : {C T Q X : Type 0}
    → (P : Protocol C T Q X) (number moment : ℕ) (t : T) (seats : List (Seat X))
    → ((x : X) → P.told moment t x ≡ x)
    → some (names_seat P t) seats ≡ false → AllFit P seats → each (seat_behind P false number moment t) seats ≡ seats
quiet-each P number moment t [] silent unnamed fit = refl
quiet-each P number moment t (seat ∷ seats) silent unnamed fit =
    let parts = or_parts (names_seat P t seat) (some (names_seat P t) seats) unnamed in
    ap (λ first. first ∷ each (seat_behind P false number moment t) seats)
    (quiet-seat P number moment t seat silent parts.0 fit.0)
    ∙ ap (λ more. seat ∷ more) (quiet-each P number moment t seats silent parts.1 fit.1)

quiet-behind : {C T Q X : Type 0} → (P : Protocol C T Q X) (moment : ℕ) (t : T) (c : C) (b : Bool) (m : Meaning C Q X)
    → m.phase ≡ Running → m.stop ≡ None → IsQuiet P moment t m.seats → AllFit P m.seats → b ≡ false
    → behind P moment [] t c b m ≡ record m { program = c }
quiet-behind {C} {T} {Q} {X} P moment t c b m runs goes quiet fit passes =
    let f : Phase → Option Q → List (Seat X) → Meaning C Q X
    = λ p o seats. record { program = c; phase = p; stop = o; stops = m.stops; shut = m.shut; seats = seats } in
    let g : List (Seat X) → List (Seat X) = each (seat_behind P false (next_number m.stops) moment t) in
    ap (λ a. behind P moment [] t c a m) passes
    ∙ ap (λ seats. f Running None (g seats)) (without-none m.seats)
    ∙ ap (λ seats. f Running None seats)
    (quiet-each P (next_number m.stops) moment t m.seats quiet.silent quiet.unnamed fit)
    ∙ ap (λ p. f p None m.seats) (sym runs)
    ∙ ap (λ o. f m.phase o m.seats) (sym goes)

-- it leaves everything but the program as it was
pub quiet-step : {C T Q X : Type 0}
    → (P : Protocol C T Q X) (moment : ℕ) (m : Meaning C Q X)
    → m.phase ≡ Running
    → m.stop ≡ None
    → IsQuiet P moment (P.tells false m.program) m.seats
    → AllFit P m.seats
    → step P moment [] m ≡ record m { program = P.next m.program }
quiet-step P moment m runs goes quiet fit =
    let t = P.tells false m.program in
    let first : told_at P m.program m ≡ t = ap (λ p. P.tells (is_first p) m.program) runs in
    let stops_at : List (Seat _) → Bool = λ seats. some (stops_for P (next_number m.stops) moment t) seats in
    ap (λ a. behind P moment [] a (P.next m.program)
    (some (stops_for P (next_number m.stops) moment a) (without [] m.seats)) m)
    first
    ∙ quiet-behind P moment t (P.next m.program) (stops_at (without [] m.seats)) m runs goes quiet fit
    (ap (λ seats. stops_at seats) (without-none m.seats)
    ∙ quiet-some P (next_number m.stops) moment t m.seats quiet.unnamed)

-- ---- a stretch of which nobody is told before its end

none-stop : {Q : Type 0} → (stop : Option Q) → is_some stop ≡ false → stop ≡ None
none-stop None goes = refl
none-stop (Some q) goes = absurd cc

-- before its last step everything but the program is as it was
quiet-steps : {C T Q X : Type 0}
    → (P : Protocol C T Q X) (moment j : ℕ) (m : Meaning C Q X)
    → m.stop ≡ None
    → (0 < j → m.phase ≡ Running)
    → ((i : ℕ) → i < j → IsQuiet P moment (P.tells false (plain P i m.program)) m.seats) → AllFit P m.seats
    → after_steps P moment j m ≡ record m { program = plain P j m.program }
quiet-steps P moment zero m goes runs quiet fit = refl
quiet-steps P moment (suc j) m goes runs quiet fit =
    after-suc P j moment m
    ∙ ap (λ k. step P moment [] k)
    (quiet-steps P moment j m goes (λ some_made. runs (omega arith)) (λ i below. quiet i (omega (arith, below)))
    fit)
    ∙ quiet-step P moment (record m { program = plain P j m.program }) (runs (omega arith)) goes (quiet j (omega arith))
    fit

ready-there : {C T Q X : Type 0}
    → (P : Protocol C T Q X) (c : C) (m : Meaning C Q X)
    → is_held m ≡ false
    → P.is_over c ≡ false
    → is_ready P (record m { program = c }) ≡ true
ready-there P c m free goes = rw (free, goes) refl

last-step : {C T Q X : Type 0}
    → (P : Protocol C T Q X) (moment k : ℕ) (gone : List ℕ) (m : Meaning C Q X) (b : Bool) (t : T)
    → 0 < k
    → m.stop ≡ None → (1 < k → m.phase ≡ Running)
    → ((j : ℕ) → j + 1 < k → IsQuiet P moment (P.tells false (plain P j m.program)) m.seats) → AllFit P m.seats
    → t ≡ P.tells (is_first m.phase) (plain P (k - 1) m.program)
    → b ≡ some (stops_for P (next_number m.stops) moment t) (without gone m.seats)
    → behind P moment gone t (plain P k m.program) b m ≡ after_run P moment gone k m
last-step P moment zero gone m b t some_made goes runs quiet fit tells stops = absurd (omega (arith, some_made))
last-step P moment (suc j) gone m b t some_made goes runs quiet fit tells stops =
    let e : suc j - 1 ≡ j = omega arith in
    let c = plain P j m.program in
    let told_there : t ≡ P.tells (is_first m.phase) c = tells
    ∙ ap (λ i. P.tells (is_first m.phase) (plain P i m.program)) e in
    ap (λ a. behind P moment gone t (P.next c) a m) stops
    ∙ ap (λ u. behind P moment gone u (P.next c)
    (some (stops_for P (next_number m.stops) moment u) (without gone m.seats)) m)
    told_there
    ∙ ap (λ k. step P moment gone k)
    (sym (quiet-steps P moment j m goes (λ more. runs (omega (arith, more))) (λ i below. quiet i (omega (arith, below)))
    fit))

-- such a stretch, by what its last step told and whether it stopped the program
pub stretch-made : {C T Q X : Type 0}
    → (P : Protocol C T Q X) (moment k : ℕ) (m : Meaning C Q X) (b : Bool) (t : T) (n : Meaning C Q X)
    → 0 < k → is_held m ≡ false → (1 < k → m.phase ≡ Running)
    → ((j : ℕ) → j + 1 < k → IsQuiet P moment (P.tells false (plain P j m.program)) m.seats) → AllFit P m.seats
    → ((j : ℕ) → j < k → P.is_over (plain P j m.program) ≡ false)
    → t ≡ P.tells (is_first m.phase) (plain P (k - 1) m.program)
    → b ≡ some (stops_for P (next_number m.stops) moment t) (without (fallen_in n.seats) m.seats)
    → n ≡ behind P moment (fallen_in n.seats) t (plain P k m.program) b m
    → HasMade P moment m n k
stretch-made P moment k m b t n some_made free runs quiet fit on tells stops is =
    let goes : m.stop ≡ None = none-stop m.stop
    (or_parts (is_paused m) (waits m.phase || (m.shut || some waits_for_report m.seats)) free).0 in
    record {
      reached = is ∙ last-step P moment k (fallen_in n.seats) m b t some_made goes runs quiet fit tells stops;
      ready = λ j below.
          ap (λ q. is_ready P q)
          (quiet-steps P moment j m goes (λ more. runs (omega (arith, more, below)))
          (λ i small. quiet i (omega (arith, small, below))) fit)
          ∙ ready-there P (plain P j m.program) m free (on j below);
    }
