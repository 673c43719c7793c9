-- Where a run stops whose steps one session names, and no other.
use Rattle.std.proofs.Common.{◌≡◌, ◌≢◌, ◌<◌, ℕ, zero, suc, ◌+◌, List, [], ◌∷◌, Bool, true, false, ◌&&◌, ◌||◌, if◌then◌else◌, refl, ap, sym, ◌∙◌, arith}
use Rattle.std.proofs.lemmas.Bool.{and_right, or_from, or_parts}
use Rattle.cdp_host_isolation.specs.Seats.{fallen, is_attached, is_listed, lost_by, seat_in, seat_of, some, waits_for_report, without}
use Rattle.cdp_host_isolation.specs.Protocols.{Protocol}
use Rattle.cdp_host_isolation.specs.Meanings.{Meaning, after_run, after_steps, is_first, is_named, is_paused, is_ready, next_number, seat_behind, step, stops_for, survives, told_at, told_of, waits}
use Rattle.cdp_host_isolation.specs.Names.{IsSteady, NamesAlone, StopsAtFirstNamed}
use Rattle.cdp_host_isolation.specs.Runs.{names_seat}
use Rattle.cdp_host_isolation.specs.Stops.{plain}
use Rattle.cdp_host_isolation.specs.declared.seat.Loss.TheVariants.{Overrun}
use Rattle.cdp_host_isolation.specs.declared.seat.Seat.{Seat}
use Rattle.cdp_host_isolation.specs.declared.seat.Seat.TheVariants.{Attached, Lost, Left}
use Rattle.cdp_host_isolation.proofs.AloneLemmas.{ready-goes, step-stops}
use Rattle.cdp_host_isolation.proofs.FallenLemmas.{without-none}
use Rattle.cdp_host_isolation.proofs.SeatLemmas.{each-at, without-at}
use Rattle.cdp_host_isolation.proofs.StepLemmas.{after-suc, ready-parts}
use Rattle.cdp_host_isolation.proofs.StopLemmas.{plain-more, steps-program}
use Rattle.cdp_host_isolation.proofs.PassLemmas.{unnamed-fallen}
use Rattle.cdp_host_isolation.proofs.MadeLemmas.{quiet-stops}

-- ---- one seat of many

-- where none is so, this one isn't
none-in : {X : Type 0}
    → (test : Seat X → Bool)
    → test Left ≡ false
    → (i : ℕ) (seats : List (Seat X))
    → some test seats ≡ false
    → test (seat_in i seats) ≡ false
none-in test nobody i [] none = nobody
none-in test nobody zero (seat ∷ seats) none = (or_parts (test seat) (some test seats) none).0
none-in test nobody (suc i) (seat ∷ seats) none =
    none-in test nobody i seats (or_parts (test seat) (some test seats) none).1

none-at : {X : Type 0}
    → (test : Seat X → Bool)
    → test Left ≡ false
    → (s : ℕ) (seats : List (Seat X))
    → some test seats ≡ false
    → test (seat_of s seats) ≡ false
none-at test nobody zero seats none = nobody
none-at test nobody (suc i) seats none = none-in test nobody i seats none

either-none : (a b : Bool) → b ≡ false → (a || b) ≡ a
either-none true b none = refl
either-none false b none = none

-- where no seat is so, none is found
none-found : {X : Type 0}
    → (test : Seat X → Bool) (seats : List (Seat X))
    → ((i : ℕ) → test (seat_in i seats) ≡ false)
    → some test seats ≡ false
none-found test [] none = refl
none-found test (seat ∷ seats) none =
    or_from (test seat) (some test seats) (none zero) (none-found test seats (λ i. none (suc i)))

-- where no other seat is so, one is found where this one is
one-in : {X : Type 0}
    → (test : Seat X → Bool)
    → test Left ≡ false
    → (i : ℕ) (seats : List (Seat X))
    → ((k : ℕ) → k ≢ i → test (seat_in k seats) ≡ false)
    → some test seats ≡ test (seat_in i seats)
one-in test nobody i [] others = sym nobody
one-in test nobody zero (seat ∷ seats) others =
    either-none (test seat) (some test seats)
    (none-found test seats (λ k. others (suc k) (λ same. absurd (omega (arith, same)))))
one-in test nobody (suc i) (seat ∷ seats) others =
    ap (λ b. b || some test seats) (others zero (λ same. absurd (omega (arith, same))))
    ∙ one-in test nobody i seats (λ k other. others (suc k) (λ same. other (omega (arith, same))))

one-at : {X : Type 0}
    → (test : Seat X → Bool)
    → test Left ≡ false
    → (s : ℕ) (seats : List (Seat X))
    → ((r : ℕ) → r ≢ s → test (seat_of r seats) ≡ false)
    → some test seats ≡ test (seat_of s seats)
one-at test nobody zero seats others =
    none-found test seats (λ i. others (suc i) (λ same. absurd (omega (arith, same)))) ∙ sym nobody
one-at test nobody (suc i) seats others =
    one-in test nobody i seats (λ k other. others (suc k) (λ same. other (omega (arith, same))))

-- ---- a step that is passed

-- no loss waits where the program is ready
ready-told : {C T Q X : Type 0}
    → (P : Protocol C T Q X) (m : Meaning C Q X)
    → is_ready P m ≡ true
    → some waits_for_report m.seats ≡ false
ready-told P m ready =
    let held = or_parts (is_paused m) (waits m.phase || (m.shut || some waits_for_report m.seats))
    (ready-parts P m ready).0 in
    let begun = or_parts (waits m.phase) (m.shut || some waits_for_report m.seats) held.1 in
    (or_parts m.shut (some waits_for_report m.seats) begun.1).1

names_kept : {C T Q X : Type 0} → (P : Protocol C T Q X) (u : T) (fits : Bool) (x y : X) → P.names u y ≡ P.names u x
    → waits_for_report (if fits then Attached y else lost_by Overrun) ≡ false
    → names_seat P u (if fits then Attached y else lost_by Overrun) ≡ P.names u x
names_kept P u true x y same waits = same
names_kept P u false x y same waits = absurd cc

-- a seat that isn't lost at it names what it named
names-behind : {C T Q X : Type 0} → (P : Protocol C T Q X) (number moment : ℕ) (t u : T) (seat : Seat X) → IsSteady P
    → waits_for_report (seat_behind P false number moment t seat) ≡ false
    → names_seat P u (seat_behind P false number moment t seat) ≡ names_seat P u seat
names-behind P number moment t u (Attached x) steady waits =
    names_kept P u (survives P number moment t x) x (P.told moment t x) (steady moment t u x) waits
names-behind P number moment t u (Lost loss is_reported is_told) steady waits = refl
names-behind P number moment t u Left steady waits = refl

unnamed_by : {X : Type 0} → (fits named : Bool) (y : X) → (fits && named) ≡ false
    → waits_for_report (if fits then Attached y else lost_by Overrun) ≡ false → named ≡ false
unnamed_by true named y none waits = none
unnamed_by false named y none waits = absurd cc

-- and it didn't name the step
unnamed-behind : {C T Q X : Type 0} → (P : Protocol C T Q X) (number moment : ℕ) (t : T) (seat : Seat X)
    → stops_for P number moment t seat ≡ false → waits_for_report (seat_behind P false number moment t seat) ≡ false
    → names_seat P t seat ≡ false
unnamed-behind P number moment t (Attached x) none waits =
    unnamed_by (survives P number moment t x) (P.names t x) (P.told moment t x) none waits
unnamed-behind P number moment t (Lost loss is_reported is_told) none waits = refl
unnamed-behind P number moment t Left none waits = refl

-- a program that is ready behind a step stopped for nobody at it
unnamed-step : {C T Q X : Type 0}
    → (P : Protocol C T Q X) (moment : ℕ) (m : Meaning C Q X)
    → is_ready P (step P moment [] m) ≡ true
    → is_named P moment [] m.program m ≡ false
unnamed-step P moment m ready = sym (step-stops P moment [] m) ∙ ready-goes P (step P moment [] m) ready

-- a seat behind such a step
seat-passed : {C T Q X : Type 0}
    → (P : Protocol C T Q X) (moment r : ℕ) (m : Meaning C Q X)
    → is_ready P (step P moment [] m) ≡ true
    → seat_of r (step P moment [] m).seats ≡ seat_behind P false (next_number m.stops) moment (told_at P m.program m)
    (seat_of r m.seats)
seat-passed P moment r m ready =
    let number = next_number m.stops in
    let t = told_at P m.program m in
    let b = is_named P moment [] m.program m in
    each-at (seat_behind P b number moment t) refl r (without [] m.seats)
    ∙ ap (λ stops. seat_behind P stops number moment t (seat_of r (without [] m.seats))) (unnamed-step P moment m ready)
    ∙ ap (λ seats. seat_behind P false number moment t (seat_of r seats)) (without-none m.seats)

-- its loss doesn't wait
told-passed : {C T Q X : Type 0}
    → (P : Protocol C T Q X) (moment r : ℕ) (m : Meaning C Q X)
    → is_ready P (step P moment [] m) ≡ true
    → waits_for_report (seat_behind P false (next_number m.stops) moment (told_at P m.program m) (seat_of r m.seats))
    ≡ false
told-passed P moment r m ready =
    ap (λ seat. waits_for_report seat) (sym (seat-passed P moment r m ready))
    ∙ none-at waits_for_report refl r (step P moment [] m).seats (ready-told P (step P moment [] m) ready)

-- so it names what it named
names-step : {C T Q X : Type 0}
    → (P : Protocol C T Q X) (moment r : ℕ) (u : T) (m : Meaning C Q X)
    → IsSteady P
    → is_ready P (step P moment [] m) ≡ true
    → names_seat P u (seat_of r (step P moment [] m).seats) ≡ names_seat P u (seat_of r m.seats)
names-step P moment r u m steady ready =
    ap (λ seat. names_seat P u seat) (seat-passed P moment r m ready)
    ∙ names-behind P (next_number m.stops) moment (told_at P m.program m) u (seat_of r m.seats) steady
    (told-passed P moment r m ready)

-- and it didn't name the step
unnamed-passed : {C T Q X : Type 0}
    → (P : Protocol C T Q X) (moment r : ℕ) (m : Meaning C Q X)
    → is_ready P (step P moment [] m) ≡ true
    → names_seat P (told_at P m.program m) (seat_of r m.seats) ≡ false
unnamed-passed P moment r m ready =
    let number = next_number m.stops in
    let t = told_at P m.program m in
    let named : some (stops_for P number moment t) m.seats ≡ false
    = ap (λ seats. some (stops_for P number moment t) seats) (sym (without-none m.seats))
    ∙ unnamed-step P moment m ready in
    unnamed-behind P number moment t (seat_of r m.seats) (none-at (stops_for P number moment t) refl r m.seats named)
    (told-passed P moment r m ready)

-- ---- steps that are passed

-- each seat names what it named
pub names-kept : {C T Q X : Type 0} → (P : Protocol C T Q X) (j moment r : ℕ) (u : T) (m : Meaning C Q X) → IsSteady P
    → ((i : ℕ) → i < suc j → is_ready P (after_steps P moment i m) ≡ true)
    → names_seat P u (seat_of r (after_steps P moment j m).seats) ≡ names_seat P u (seat_of r m.seats)
names-kept P zero moment r u m steady ready = refl
names-kept P (suc j) moment r u m steady ready =
    names-kept P j moment r u (step P moment [] m) steady (λ i below. ready (suc i) (omega (arith, below)))
    ∙ names-step P moment r u m steady (ready (suc zero) (omega arith))

-- the next step isn't the first of a program that waited
first-kept : {C T Q X : Type 0} → (P : Protocol C T Q X) (j moment : ℕ) (m : Meaning C Q X) → is_first m.phase ≡ false
    → is_first (after_steps P moment j m).phase ≡ false
first-kept P zero moment m begun = begun
first-kept P (suc j) moment m begun = first-kept P j moment (step P moment [] m) refl

-- ---- the last step

-- one that names nothing stops nothing, be it lost for want of memory or not
listed_stop : {C T Q X : Type 0}
    → (P : Protocol C T Q X) (number moment : ℕ) (t : T) (listed : Bool) (seat : Seat X)
    → names_seat P t seat ≡ false
    → stops_for P number moment t (if listed then fallen seat else seat) ≡ false
listed_stop P number moment t true seat none = unnamed-fallen P number moment t seat
listed_stop P number moment t false seat none = quiet-stops P number moment t seat none

-- one that names the step is attached behind it where it survives it
own_stop : {C T Q X : Type 0} → (P : Protocol C T Q X) (number moment : ℕ) (t : T) (x : X) (fits named : Bool)
    → (named ≡ true → P.fits (P.stopped number t (P.told moment t x)) ≡ fits)
    → (fits && named) ≡
    (named && is_attached (if fits then told_of P (fits && named) number moment t x else lost_by Overrun))
own_stop P number moment t x true true room =
    let fit : P.fits (P.stopped number t (P.told moment t x)) ≡ true = room refl in rw fit refl
own_stop P number moment t x true false room = refl
own_stop P number moment t x false true room = refl
own_stop P number moment t x false false room = refl

kept_stop : {C T Q X : Type 0} → (P : Protocol C T Q X) (number moment : ℕ) (t : T) (seat : Seat X)
    → stops_for P number moment t seat ≡
    (names_seat P t seat && is_attached (seat_behind P (stops_for P number moment t seat) number moment t seat))
kept_stop P number moment t (Attached x) =
    let y = P.told moment t x in
    let z = P.stopped number t y in
    own_stop P number moment t x (survives P number moment t x) (P.names t x)
    (λ is. ap (λ b. P.fits (if b then z else y)) (sym is))
kept_stop P number moment t (Lost loss is_reported is_told) = refl
kept_stop P number moment t Left = refl

lost_stop : {C T Q X : Type 0} → (P : Protocol C T Q X) (number moment : ℕ) (t : T) (seat : Seat X)
    → stops_for P number moment t (fallen seat) ≡
    (names_seat P t seat && is_attached
    (seat_behind P (stops_for P number moment t (fallen seat)) number moment t (fallen seat)))
lost_stop P number moment t (Attached x) = sym (and_right (P.names t x) false refl)
lost_stop P number moment t (Lost loss is_reported is_told) = refl
lost_stop P number moment t Left = refl

stop_either : {C T Q X : Type 0} → (P : Protocol C T Q X) (number moment : ℕ) (t : T) (listed : Bool) (seat : Seat X)
    → (let w = if listed then fallen seat else seat in
    stops_for P number moment t w ≡
    (names_seat P t seat && is_attached (seat_behind P (stops_for P number moment t w) number moment t w)))
stop_either P number moment t true seat = lost_stop P number moment t seat
stop_either P number moment t false seat = kept_stop P number moment t seat

-- where the program stops for this session alone, it stops where that names the step and is attached behind it
last-stop : {C T Q X : Type 0}
    → (P : Protocol C T Q X) (number moment : ℕ) (t : T) (b listed : Bool) (seat w new : Seat X)
    → w ≡ (if listed then fallen seat else seat)
    → b ≡ stops_for P number moment t w
    → new ≡ seat_behind P b number moment t w
    → b ≡ (names_seat P t seat && is_attached new)
last-stop P number moment t b listed seat w new is stops behind =
    let there : Seat _ = if listed then fallen seat else seat in
    let all : b ≡ stops_for P number moment t there = stops ∙ ap (λ v. stops_for P number moment t v) is in
    all
    ∙ stop_either P number moment t listed seat
    ∙ ap (λ c. names_seat P t seat && is_attached (seat_behind P c number moment t there)) (sym all)
    ∙ ap (λ v. names_seat P t seat && is_attached (seat_behind P b number moment t v)) (sym is)
    ∙ ap (λ v. names_seat P t seat && is_attached v) (sym behind)

-- one step
step-named : {C T Q X : Type 0}
    → (P : Protocol C T Q X) (moment s : ℕ) (gone : List ℕ) (m : Meaning C Q X)
    → NamesAlone P s m
    → is_paused (step P moment gone m) ≡
    (names_seat P (told_at P m.program m) (seat_of s m.seats) && is_attached
    (seat_of s (step P moment gone m).seats))
step-named P moment s gone m alone =
    let number = next_number m.stops in
    let t = told_at P m.program m in
    let b = is_named P moment gone m.program m in
    let stops : b ≡ stops_for P number moment t (seat_of s (without gone m.seats))
    = one-at (stops_for P number moment t) refl s (without gone m.seats) (λ r other.
    ap (λ seat. stops_for P number moment t seat) (without-at gone r m.seats)
    ∙ listed_stop P number moment t (is_listed gone r) (seat_of r m.seats) (alone t r other)) in
    step-stops P moment gone m
    ∙ last-stop P number moment t b (is_listed gone s) (seat_of s m.seats) (seat_of s (without gone m.seats))
    (seat_of s (step P moment gone m).seats)
    (without-at gone s m.seats) stops (each-at (seat_behind P b number moment t) refl s (without gone m.seats))

-- ---- a run

-- a run whose steps one session names, and no other, stops at the first that it names, or at none
pub stops-first : {C T Q X : Type 0}
    → (P : Protocol C T Q X) (c : C) (made moment : ℕ) (gone : List ℕ) (s : ℕ) (x : X) (m : Meaning C Q X) (n : ℕ)
    → IsSteady P
    → m.program ≡ plain P made c → is_first m.phase ≡ false → seat_of s m.seats ≡ Attached x → NamesAlone P s m
    → ((j : ℕ) → j < n → is_ready P (after_steps P moment j m) ≡ true)
    → StopsAtFirstNamed P c made moment gone s x m n
stops-first P c made moment gone s x m n steady at begun is alone ready =
    let told_there : (j : ℕ)
    → told_at P (after_steps P moment j m).program (after_steps P moment j m) ≡ P.tells false (plain P (made + j) c)
    = λ j.
    let k = after_steps P moment j m in
    ap (λ b. P.tells b k.program) (first-kept P j moment m begun)
    ∙ ap (λ d. P.tells false d) (steps-program P moment j m ∙ ap (λ d. plain P j d) at ∙ sym (plain-more P made j c)) in
    let named_there : (j : ℕ) → j < n
    → names_seat P (told_at P (after_steps P moment j m).program (after_steps P moment j m))
    (seat_of s (after_steps P moment j m).seats)
    ≡ P.names (P.tells false (plain P (made + j) c)) x
    = λ j small.
    let k = after_steps P moment j m in
    names-kept P j moment s (told_at P k.program k) m steady (λ i below. ready i (omega (arith, below, small)))
    ∙ ap (λ seat. names_seat P (told_at P k.program k) seat) is
    ∙ ap (λ t. P.names t x) (told_there j) in
    record {
      passes_none = λ j below.
          let k = after_steps P moment j m in
          let next_ready : is_ready P (step P moment [] k) ≡ true
          = ap (λ l. is_ready P l) (sym (after-suc P j moment m)) ∙ ready (suc j) (omega (arith, below)) in
          sym (named_there j (omega (arith, below))) ∙ unnamed-passed P moment s k next_ready;
      stops_there = λ j last.
          let k = after_steps P moment j m in
          let e : n ≡ suc j = omega (arith, last) in
          let alone_there : NamesAlone P s k
          = λ t r other. names-kept P j moment r t m steady (λ i below. ready i (omega (arith, below, e)))
          ∙ alone t r other in
          let run : after_run P moment gone n m ≡ step P moment gone k = ap (λ i. after_run P moment gone i m) e in
          ap (λ l. is_paused l) run
          ∙ step-named P moment s gone k alone_there
          ∙ ap (λ b. b && is_attached (seat_of s (step P moment gone k).seats)) (named_there j (omega (arith, e)))
          ∙ ap (λ l. P.names (P.tells false (plain P (made + j) c)) x && is_attached (seat_of s l.seats)) (sym run);
    }
