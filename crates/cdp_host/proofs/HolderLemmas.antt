-- Which sessions are asked for a stop: those that have a breakpoint at the place, where no other rule names one.
use Rattle.std.proofs.Common.{◌≡◌, ℕ, suc, Bool, true, false, ◌&&◌, ◌||◌, List, [], ◌∷◌, Some, None, nat_eq, refl, ap, sym, ◌∙◌, true≢false}
use Rattle.std.proofs.lemmas.Bool.{and_right, eqb-true, false≢true, or_from, or_parts, true_from_ne_false}
use Rattle.std.specs.List.{list_any}
use Rattle.cdp_text.specs.declared.position.Place.{Place}
use Rattle.cdp_host_isolation.specs.Seats.{seat_in, seat_of, some}
use Rattle.cdp_host_isolation.specs.declared.seat.Seat.{Seat}
use Rattle.cdp_host_isolation.specs.declared.seat.Seat.TheVariants.{Attached, Lost, Left}
use Rattle.cdp_host_isolation.proofs.BrokenLemmas.{unset-at}
use Rattle.stepping.specs.Beside.{is_plain}
use Rattle.stepping.specs.declared.arrival.Arrival.{Arrival}
use Rattle.stepping.proofs.PlainLemmas.{plain-unnamed}
use Rattle.cdp_session.specs.Sessions.{Session}
use Rattle.cdp_session.specs.Stops.{may_be_hit}
use Rattle.cdp_session.proofs.StopLemmas.{never-wants, unwanted-names}
use Rattle.cdp_host.specs.Indexing.{AreHolders, has_request_in, is_wanted, stands_in, wants_in}
use Rattle.cdp_host.specs.Ran.{may_stop, may_stop_seat}

-- ---- rules beside breakpoints

never-wanted : (a : Arrival) (seat : Seat Session) → may_stop_seat a seat ≡ false → wants_in a seat ≡ false
never-wanted a (Attached x) never = never-wants a x never
never-wanted a (Lost loss is_reported is_told) never = refl
never-wanted a Left never = refl

none-wanted : (a : Arrival) (seats : List (Seat Session)) → may_stop a seats ≡ false → is_wanted a seats ≡ false
none-wanted a [] never = refl
none-wanted a (seat ∷ seats) never =
    let parts = or_parts (may_stop_seat a seat) (may_stop a seats) never in
    or_from (wants_in a seat) (is_wanted a seats) (never-wanted a seat parts.0) (none-wanted a seats parts.1)

-- where such a rule names a stop, a session may name one
pub wanted-stops : (a : Arrival) (seats : List (Seat Session)) → is_wanted a seats ≡ true → may_stop a seats ≡ true
wanted-stops a seats wanted =
    true_from_ne_false (may_stop a seats) (λ never. true≢false (sym wanted ∙ none-wanted a seats never))

unasked : (a : Arrival) (seat : Seat Session) → has_request_in seat ≡ false → is_plain a ≡ true → wants_in a seat ≡ false
unasked a (Attached x) nothing plain = plain-unnamed x.rules a nothing plain
unasked a (Lost loss is_reported is_told) nothing plain = refl
unasked a Left nothing plain = refl

-- where nothing was asked for, none names a plain step
pub plain-unwanted : (a : Arrival) (seats : List (Seat Session))
    → some has_request_in seats ≡ false
    → is_plain a ≡ true
    → is_wanted a seats ≡ false
plain-unwanted a [] nothing plain = refl
plain-unwanted a (seat ∷ seats) nothing plain =
    let parts = or_parts (has_request_in seat) (some has_request_in seats) nothing in
    or_from (wants_in a seat) (is_wanted a seats) (unasked a seat parts.0 plain)
    (plain-unwanted a seats parts.1 plain)

-- ---- breakpoints

unheld : (a : Arrival) (place : Place) (seat : Seat Session)
    → a.place ≡ Some place
    → wants_in a seat ≡ false
    → stands_in place seat ≡ false
    → may_stop_seat a seat ≡ false
unheld a place (Attached x) at unwanted none =
    unwanted-names a x unwanted
    (ap (λ o. may_be_hit o x.breakpoints) at
    ∙ ap (λ b. x.breakpoints.active && b) none
    ∙ and_right x.breakpoints.active false refl)
unheld a place (Lost loss is_reported is_told) at unwanted none = refl
unheld a place Left at unwanted none = refl

nowhere : (a : Arrival) (seat : Seat Session)
    → a.place ≡ None
    → wants_in a seat ≡ false
    → may_stop_seat a seat ≡ false
nowhere a (Attached x) at unwanted = unwanted-names a x unwanted (ap (λ o. may_be_hit o x.breakpoints) at)
nowhere a (Lost loss is_reported is_told) at unwanted = refl
nowhere a Left at unwanted = refl

-- ---- all seats by their numbers

none-is : {X : Type 0} (f : Seat X → Bool) (seats : List (Seat X))
    → ((i : ℕ) → f (seat_in i seats) ≡ false)
    → some f seats ≡ false
none-is f [] none = refl
none-is f (seat ∷ seats) none = or_from (f seat) (some f seats) (none 0) (none-is f seats (λ i. none (suc i)))

none-listed : (a : Arrival) (seats : List (Seat Session)) (numbers : List ℕ)
    → may_stop a seats ≡ false
    → list_any (λ s. may_stop_seat a (seat_of s seats)) numbers ≡ false
none-listed a seats [] never = refl
none-listed a seats (s ∷ numbers) never =
    or_from (may_stop_seat a (seat_of s seats)) (list_any (λ r. may_stop_seat a (seat_of r seats)) numbers)
    (unset-at (may_stop_seat a) s seats refl never) (none-listed a seats numbers never)

-- one of the listed numbers isn't so where none of them is
listed-none : (f : ℕ → Bool) (s : ℕ) (numbers : List ℕ)
    → list_any (nat_eq s) numbers ≡ true
    → list_any f numbers ≡ false
    → f s ≡ false
listed-none f s [] there none = absurd (false≢true there)
listed-none f s (n ∷ numbers) there none = at (nat_eq s n) refl (listed-none f s numbers)
  where
    at : (b : Bool)
        → nat_eq s n ≡ b
        → (list_any (nat_eq s) numbers ≡ true → list_any f numbers ≡ false → f s ≡ false)
        → f s ≡ false
    at true is rest = ap f (eqb-true s n is) ∙ (or_parts (f n) (list_any f numbers) none).0
    at false is rest =
        rest (ap (λ b. b || list_any (nat_eq s) numbers) (sym is) ∙ there)
        (or_parts (f n) (list_any f numbers) none).1

agree : (b c : Bool) → (c ≡ false → b ≡ false) → (b ≡ false → c ≡ false) → b ≡ c
agree true true f g = refl
agree true false f g = f refl
agree false true f g = sym (g refl)
agree false false f g = refl

-- where no other rule names a stop, the sessions that have a breakpoint at the place may name one, and nobody else
pub holders-stop : (a : Arrival) (place : Place) (seats : List (Seat Session)) (numbers : List ℕ)
    → a.place ≡ Some place
    → AreHolders place seats numbers
    → is_wanted a seats ≡ false
    → list_any (λ s. may_stop_seat a (seat_of s seats)) numbers ≡ may_stop a seats
holders-stop a place seats numbers at holders unwanted =
    agree (list_any (λ s. may_stop_seat a (seat_of s seats)) numbers) (may_stop a seats)
    (none-listed a seats numbers)
    (λ none. none-is (may_stop_seat a) seats (λ i. silent none (suc i) (stands_in place (seat_of (suc i) seats)) refl))
  where
    silent : list_any (λ s. may_stop_seat a (seat_of s seats)) numbers ≡ false
        → (s : ℕ) (b : Bool)
        → stands_in place (seat_of s seats) ≡ b
        → may_stop_seat a (seat_of s seats) ≡ false
    silent none s true stands =
        listed-none (λ r. may_stop_seat a (seat_of r seats)) s numbers (holders s ∙ stands) none
    silent none s false stands =
        unheld a place (seat_of s seats) at (unset-at (wants_in a) s seats refl unwanted) stands

-- and where the program arrived nowhere, nobody
pub nowhere-stops : (a : Arrival) (seats : List (Seat Session))
    → a.place ≡ None
    → is_wanted a seats ≡ false
    → may_stop a seats ≡ false
nowhere-stops a seats at unwanted =
    none-is (may_stop_seat a) seats
    (λ i. nowhere a (seat_in i seats) at (unset-at (wants_in a) (suc i) seats refl unwanted))
