-- What a text of a session that stays attached does to a host.
use Rattle.std.proofs.Common.{◌≡◌, ◌≢◌, ℕ, zero, suc, List, [], ◌∷◌, Bool, true, false, ◌||◌, if◌then◌else◌, None, refl, ap, sym, subst, ◌∙◌}
use Rattle.std.proofs.lemmas.Bool.{or_right}
use Rattle.cdp_host_isolation.specs.Seats.{each, is_attached, lost_by, put, seat_in, seat_of, some}
use Rattle.cdp_host_isolation.specs.Protocols.{Protocol}
use Rattle.cdp_host_isolation.specs.Meanings.{Meaning, is_enabled_seat, is_paused, resume, resumed_seat, settle}
use Rattle.cdp_host_isolation.specs.Histories.{Tell, apply, asked, tell, with_seat}
use Rattle.cdp_host_isolation.specs.declared.seat.Loss.TheVariants.{Overrun}
use Rattle.cdp_host_isolation.specs.declared.seat.Seat.{Seat}
use Rattle.cdp_host_isolation.specs.declared.seat.Seat.TheVariants.{Attached, Left}
use Rattle.cdp_host_isolation.proofs.SeatLemmas.{each-at, put-other, put-same}

-- ---- a session that is gone

resumed_left : {C T Q X : Type 0} → (P : Protocol C T Q X) (s : ℕ) (m : Meaning C Q X) (b : Bool)
    → seat_of s m.seats ≡ Left
    → seat_of s (if b then record m { stop = None; seats = each (resumed_seat P) m.seats } else m).seats ≡ Left
resumed_left P s m true is = each-at (resumed_seat P) refl s m.seats ∙ ap (λ seat. resumed_seat P seat) is
resumed_left P s m false is = is

settled_left : {C T Q X : Type 0} → (P : Protocol C T Q X) (s : ℕ) (m : Meaning C Q X) (b : Bool)
    → seat_of s m.seats ≡ Left
    → seat_of s (if b then m else resume P m).seats ≡ Left
settled_left P s m true is = is
settled_left P s m false is = resumed_left P s m (is_paused m) is

settle_left : {C T Q X : Type 0} → (P : Protocol C T Q X) (s : ℕ) (m : Meaning C Q X) → seat_of s m.seats ≡ Left
    → seat_of s (settle P m).seats ≡ Left
settle_left P s m is = settled_left P s m (some (is_enabled_seat P) m.seats) is

-- ---- a text that fits

told_fits : {C T Q X : Type 0} → (P : Protocol C T Q X) (s : ℕ) (m k : Meaning C Q X) (x : X) (b : Bool)
    → seat_of s m.seats ≡ Attached x
    → is_attached (seat_of s (if b then k else settle P (with_seat s Left m)).seats) ≡ true
    → b ≡ true
told_fits P s m k x true is stays = refl
told_fits P s m k x false is stays =
    let there : seat_of s m.seats ≢ Left = λ none. let e : Attached x ≡ Left = sym is ∙ none in absurd cc in
    let left : seat_of s (settle P (with_seat s Left m)).seats ≡ Left
    = settle_left P s (with_seat s Left m) (put-same s Left m.seats there) in
    let e : false ≡ true = sym (ap (λ seat. is_attached seat) left) ∙ stays in
    absurd cc

-- after a text of a session that stays attached, what the text asks is done where the session has its reply
pub told-kept : {C T Q X : Type 0} → (P : Protocol C T Q X) (s : ℕ) (text : List ℕ) (m : Meaning C Q X) (x : X)
    → seat_of s m.seats ≡ Attached x
    → is_attached (seat_of s (apply P m (Tell s text)).seats) ≡ true
    → apply P m (Tell s text) ≡
    asked P (P.resumes m.stop m.program text x) (P.wakes m.stop m.program text x)
    (with_seat s (Attached (P.reply m.stop m.program text x)) m)
told-kept P s text m x is stays =
    let y = P.reply m.stop m.program text x in
    let k = asked P (P.resumes m.stop m.program text x) (P.wakes m.stop m.program text x)
    (with_seat s (Attached y) m) in
    let told : apply P m (Tell s text) ≡ (if P.fits y then k else settle P (with_seat s Left m))
    = ap (λ seat. tell P s text m seat) is in
    let fits : P.fits y ≡ true
    = told_fits P s m k x (P.fits y) is (ap (λ l. is_attached (seat_of s l.seats)) (sym told) ∙ stays) in
    told ∙ ap (λ b. if b then k else settle P (with_seat s Left m)) fits

-- ---- a text that lets the program go on

-- what became of the host, where the session has this reply
pub record GoesOn {C T Q X : Type 0} (P : Protocol C T Q X) (s : ℕ) (y : X) (m k : Meaning C Q X) : Type 0 where
  pub goes : is_paused k ≡ false
  pub same_phase : k.phase ≡ m.phase
  pub attached : seat_of s k.seats ≡ Attached (P.resumed y)
  pub others : (r : ℕ) → r ≢ s → seat_of r k.seats ≡ resumed_seat P (seat_of r m.seats)

kept_attached : {X : Type 0} → (b : Bool) (y : X) → is_attached (if b then Attached y else lost_by Overrun) ≡ true
    → (if b then Attached y else lost_by Overrun) ≡ Attached y
kept_attached true y stays = refl
kept_attached false y stays = absurd cc

resumed_on : {C T Q X : Type 0} → (P : Protocol C T Q X) (s : ℕ) (m : Meaning C Q X) (x y : X)
    → seat_of s m.seats ≡ Attached x
    → (let k : Meaning C Q X = record m { stop = None; seats = each (resumed_seat P) (put s (Attached y) m.seats) } in
    is_attached (seat_of s k.seats) ≡ true → GoesOn P s y m k)
resumed_on P s m x y is stays =
    let there : seat_of s m.seats ≢ Left = λ none. let e : Attached x ≡ Left = sym is ∙ none in absurd cc in
    let own : seat_of s (each (resumed_seat P) (put s (Attached y) m.seats)) ≡ resumed_seat P (Attached y)
    = each-at (resumed_seat P) refl s (put s (Attached y) m.seats)
    ∙ ap (λ seat. resumed_seat P seat) (put-same s (Attached y) m.seats there) in
    record {
      goes = refl;
      same_phase = refl;
      attached =
          own
          ∙ kept_attached (P.fits (P.resumed y)) (P.resumed y) (sym (ap (λ seat. is_attached seat) own) ∙ stays);
      others = λ r other.
          each-at (resumed_seat P) refl r (put s (Attached y) m.seats)
          ∙ ap (λ seat. resumed_seat P seat) (put-other s r (Attached y) m.seats (λ same. other (sym same)));
    }

-- a text lets a paused program go on
pub told-resumes : {C T Q X : Type 0} → (P : Protocol C T Q X) (s : ℕ) (text : List ℕ) (m : Meaning C Q X) (x : X)
    → seat_of s m.seats ≡ Attached x
    → is_paused m ≡ true
    → P.resumes m.stop m.program text x ≡ true
    → is_attached (seat_of s (apply P m (Tell s text)).seats) ≡ true
    → GoesOn P s (P.reply m.stop m.program text x) m (apply P m (Tell s text))
told-resumes {C} {T} {Q} {X} P s text m x is paused resumes stays =
    let y = P.reply m.stop m.program text x in
    let w : Meaning C Q X = with_seat s (Attached y) m in
    let k : Meaning C Q X = record m { stop = None; seats = each (resumed_seat P) (put s (Attached y) m.seats) } in
    let told : apply P m (Tell s text) ≡ k
    = told-kept P s text m x is stays
    ∙ ap (λ b. asked P b (P.wakes m.stop m.program text x) w) resumes
    ∙ ap (λ b. if b then k else w) paused in
    subst (λ l. GoesOn P s y m l) (sym told)
    (resumed_on P s m x y is (ap (λ l. is_attached (seat_of s l.seats)) (sym told) ∙ stays))

-- ---- a text that asks nothing

some_in : {X : Type 0} → (test : Seat X → Bool) → test Left ≡ false → (i : ℕ) (seats : List (Seat X))
    → test (seat_in i seats) ≡ true
    → some test seats ≡ true
some_in test nobody i [] is = let e : false ≡ true = sym nobody ∙ is in absurd cc
some_in test nobody zero (seat ∷ seats) is = ap (λ b. b || some test seats) is
some_in test nobody (suc i) (seat ∷ seats) is = or_right (test seat) (some test seats) (some_in test nobody i seats is)

-- where the seat of a number is so, one is found
pub some-at : {X : Type 0} → (test : Seat X → Bool) → test Left ≡ false → (s : ℕ) (seats : List (Seat X))
    → test (seat_of s seats) ≡ true
    → some test seats ≡ true
some-at test nobody zero seats is = let e : false ≡ true = sym nobody ∙ is in absurd cc
some-at test nobody (suc i) seats is = some_in test nobody i seats is

-- a text that asks nothing changes only its session, where that has the debugger enabled after it
pub told-stays : {C T Q X : Type 0} → (P : Protocol C T Q X) (s : ℕ) (text : List ℕ) (m : Meaning C Q X) (x : X)
    → seat_of s m.seats ≡ Attached x
    → P.resumes m.stop m.program text x ≡ false
    → P.wakes m.stop m.program text x ≡ false
    → P.is_enabled (P.reply m.stop m.program text x) ≡ true
    → is_attached (seat_of s (apply P m (Tell s text)).seats) ≡ true
    → apply P m (Tell s text) ≡ with_seat s (Attached (P.reply m.stop m.program text x)) m
told-stays P s text m x is resumes wakes enabled stays =
    let y = P.reply m.stop m.program text x in
    let w = with_seat s (Attached y) m in
    let there : seat_of s m.seats ≢ Left = λ none. let e : Attached x ≡ Left = sym is ∙ none in absurd cc in
    let own : is_enabled_seat P (seat_of s w.seats) ≡ true
    = ap (λ seat. is_enabled_seat P seat) (put-same s (Attached y) m.seats there) ∙ enabled in
    told-kept P s text m x is stays
    ∙ ap (λ b. asked P b (P.wakes m.stop m.program text x) w) resumes
    ∙ ap (λ b. asked P false b w) wakes
    ∙ ap (λ b. if b then w else resume P w) (some-at (is_enabled_seat P) refl s w.seats own)
