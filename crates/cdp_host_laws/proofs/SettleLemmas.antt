-- What a host is after a session without the debugger enabled took the seat of another, or left it.
use Rattle.std.proofs.Common.{◌≡◌, ◌≢◌, ℕ, zero, suc, List, [], ◌∷◌, Bool, true, false, eqb, is_some, if◌then◌else◌, Option, Some, None, refl, ap, sym, ◌∙◌}
use Rattle.std.proofs.lemmas.Bool.{eqb-false, eqb-true, or_from}
use Rattle.cdp_host_isolation.specs.Seats.{each, put, seat_in, seat_of, some}
use Rattle.cdp_host_isolation.specs.Protocols.{Protocol}
use Rattle.cdp_host_isolation.specs.Meanings.{Meaning, is_enabled_seat, is_paused, resume, resumed_seat, settle}
use Rattle.cdp_host_isolation.specs.Histories.{with_seat}
use Rattle.cdp_host_isolation.specs.declared.seat.Seat.{Seat}
use Rattle.cdp_host_isolation.specs.declared.seat.Seat.TheVariants.{Left}
use Rattle.cdp_host_isolation.proofs.SeatLemmas.{put-other, put-same}
use Rattle.cdp_host_laws.proofs.TellLemmas.{some-at}

-- ---- the count of stops

resumed_count : {C T Q X : Type 0} → (P : Protocol C T Q X) (m : Meaning C Q X) (b : Bool)
    → (if b then record m { stop = None; seats = each (resumed_seat P) m.seats } else m).stops ≡ m.stops
resumed_count P m true = refl
resumed_count P m false = refl

settled_count : {C T Q X : Type 0} → (P : Protocol C T Q X) (m : Meaning C Q X) (b : Bool)
    → (if b then m else resume P m).stops ≡ m.stops
settled_count P m true = refl
settled_count P m false = resumed_count P m (is_paused m)

pub settle-count : {C T Q X : Type 0} → (P : Protocol C T Q X) (m : Meaning C Q X) → (settle P m).stops ≡ m.stops
settle-count P m = settled_count P m (some (is_enabled_seat P) m.seats)

-- ---- the program

resumed_there : {C T Q X : Type 0} → (P : Protocol C T Q X) (m : Meaning C Q X) (b : Bool)
    → (if b then record m { stop = None; seats = each (resumed_seat P) m.seats } else m).program ≡ m.program
resumed_there P m true = refl
resumed_there P m false = refl

settled_there : {C T Q X : Type 0} → (P : Protocol C T Q X) (m : Meaning C Q X) (b : Bool)
    → (if b then m else resume P m).program ≡ m.program
settled_there P m true = refl
settled_there P m false = resumed_there P m (is_paused m)

pub settle-there : {C T Q X : Type 0} → (P : Protocol C T Q X) (m : Meaning C Q X) → (settle P m).program ≡ m.program
settle-there P m = settled_there P m (some (is_enabled_seat P) m.seats)

-- ---- the pause

none_in : {X : Type 0} → (test : Seat X → Bool) (seats : List (Seat X)) → ((i : ℕ) → test (seat_in i seats) ≡ false)
    → some test seats ≡ false
none_in test [] none = refl
none_in test (seat ∷ seats) none =
    or_from (test seat) (some test seats) (none zero) (none_in test seats (λ i. none (suc i)))

no_stop : {Q : Type 0} → (o : Option Q) → is_some o ≡ false → o ≡ None
no_stop None is = refl
no_stop (Some q) is = absurd cc

resumed_stop : {C T Q X : Type 0} → (P : Protocol C T Q X) (m : Meaning C Q X) (b : Bool) → is_paused m ≡ b
    → (if b then record m { stop = None; seats = each (resumed_seat P) m.seats } else m).stop ≡ None
resumed_stop P m true is = refl
resumed_stop P m false is = no_stop m.stop is

-- where another session has the debugger enabled, the program stays paused as it is
pub settle-paused : {C T Q X : Type 0}
    → (P : Protocol C T Q X) (r s : ℕ) (new : Seat X) (m : Meaning C Q X)
    → r ≢ s
    → is_enabled_seat P (seat_of r m.seats) ≡ true
    → (settle P (with_seat s new m)).stop ≡ m.stop
settle-paused P r s new m other enabled =
    let w = with_seat s new m in
    let there : is_enabled_seat P (seat_of r w.seats) ≡ true
    = ap (λ seat. is_enabled_seat P seat) (put-other s r new m.seats (λ same. other (sym same))) ∙ enabled in
    ap (λ b. (if b then w else resume P w).stop) (some-at (is_enabled_seat P) refl r w.seats there)

either_none : {X : Type 0} → (test : Seat X → Bool) (s : ℕ) (new : Seat X) (seats : List (Seat X))
    → test new ≡ false
    → seat_of s seats ≢ Left
    → ((r : ℕ) → r ≢ s → test (seat_of r seats) ≡ false)
    → (r : ℕ) (b : Bool) → eqb r s ≡ b
    → test (seat_of r (put s new seats)) ≡ false
either_none test s new seats off there others r true same =
    ap (λ n. test (seat_of n (put s new seats))) (eqb-true r s same) ∙ ap test (put-same s new seats there) ∙ off
either_none test s new seats off there others r false same =
    ap test (put-other s r new seats (λ is. eqb-false r s same (sym is))) ∙ others r (eqb-false r s same)

-- where no session has it, the program isn't paused
pub settle-goes : {C T Q X : Type 0} → (P : Protocol C T Q X) (s : ℕ) (new : Seat X) (m : Meaning C Q X)
    → is_enabled_seat P new ≡ false
    → seat_of s m.seats ≢ Left
    → ((r : ℕ) → r ≢ s → is_enabled_seat P (seat_of r m.seats) ≡ false)
    → (settle P (with_seat s new m)).stop ≡ None
settle-goes P s new m off there others =
    let w = with_seat s new m in
    let none : some (is_enabled_seat P) w.seats ≡ false
    = none_in (is_enabled_seat P) w.seats (λ i.
    either_none (is_enabled_seat P) s new m.seats off there others (suc i) (eqb (suc i) s) refl) in
    ap (λ b. (if b then w else resume P w).stop) none ∙ resumed_stop P w (is_paused w) refl
