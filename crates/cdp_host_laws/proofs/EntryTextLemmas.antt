-- The texts that one entry makes for a session that is attached before it and after it.
use Rattle.std.proofs.Common.{◌≡◌, ◌<◌, ℕ, zero, suc, ◌+◌, List, [], ◌∷◌, ◌++◌, length, Bool, true, false, ◌&&◌, ◌==◌, not, if◌then◌else◌, Some, None, refl, ap, sym, ◌∙◌, append-nil, eq-eqb, ne_eqb}
use Rattle.std.proofs.lemmas.Bool.{or_parts}
use Rattle.cdp_host_isolation.specs.Seats.{each, is_listed, reported, seat_in, seat_of, some}
use Rattle.cdp_host_isolation.specs.Protocols.{Protocol}
use Rattle.cdp_host_isolation.specs.Meanings.{Meaning, after_run, after_steps, is_enabled_seat, is_paused, is_ready, resume, settle, with_seats}
use Rattle.cdp_host_isolation.specs.Histories.{Entry, Attach, Tell, Take, Detach, Ran, Shut, apply, take}
use Rattle.cdp_host_isolation.specs.Alone.{Alone, Seen, Came, Told, Took, Went, Passed, alone_at, has_resumed, mark, run, view_at}
use Rattle.cdp_host_isolation.specs.Texts.{Texts, made_at, made_of, reply_texts, resume_texts, run_texts}
use Rattle.cdp_host_isolation.specs.declared.seat.Seat.{Seat}
use Rattle.cdp_host_isolation.specs.declared.seat.Seat.TheVariants.{Attached, Lost, Left}
use Rattle.cdp_host_isolation.proofs.AloneLemmas.{run-alone}
use Rattle.cdp_host_isolation.proofs.SeatLemmas.{each-at}
use Rattle.cdp_host_laws.specs.Entries.{IsOfOther}

-- ---- where no session has the debugger enabled

none-in : {X : Type 0} → (test : Seat X → Bool) → test Left ≡ false → (i : ℕ) (seats : List (Seat X))
    → some test seats ≡ false → test (seat_in i seats) ≡ false
none-in test nobody i [] none = nobody
none-in test nobody zero (seat ∷ seats) none = (or_parts (test seat) (some test seats) none).0
none-in test nobody (suc i) (seat ∷ seats) none =
    none-in test nobody i seats (or_parts (test seat) (some test seats) none).1

none-at : {X : Type 0} → (test : Seat X → Bool) → test Left ≡ false → (s : ℕ) (seats : List (Seat X))
    → some test seats ≡ false → test (seat_of s seats) ≡ false
none-at test nobody zero seats none = nobody
none-at test nobody (suc i) seats none = none-in test nobody i seats none

stayed : {C Q X : Type 0} → (m : Meaning C Q X) → has_resumed m m ≡ false
stayed m = and-not (is_paused m)
  where
    and-not : (b : Bool) → b && not b ≡ false
    and-not true = refl
    and-not false = refl

settled-none : {C T Q X : Type 0} → (P : Protocol C T Q X) (m : Meaning C Q X) (b : Bool)
    → has_resumed m (if b then m else resume P m) ≡ true → b ≡ false
settled-none P m true goes = let e = stayed m in absurd cc
settled-none P m false goes = refl

settle-none : {C T Q X : Type 0} → (P : Protocol C T Q X) (m : Meaning C Q X) → has_resumed m (settle P m) ≡ true
    → some (is_enabled_seat P) m.seats ≡ false
settle-none P m goes = settled-none P m (some (is_enabled_seat P) m.seats) goes

reported-enabled : {C T Q X : Type 0} → (P : Protocol C T Q X) (seat : Seat X)
    → is_enabled_seat P (reported seat) ≡ is_enabled_seat P seat
reported-enabled P (Attached x) = refl
reported-enabled P (Lost loss is_reported is_told) = refl
reported-enabled P Left = refl

-- behind a run the program goes on by itself only where no session has the debugger enabled
pub ran-none : {C T Q X : Type 0} → (P : Protocol C T Q X) (s n moment : ℕ) (gone : List ℕ) (m : Meaning C Q X)
    → ((j : ℕ) → j < n → is_ready P (after_steps P moment j m) ≡ true)
    → has_resumed (after_run P moment gone n m) (apply P m (Ran n moment gone)) ≡ true
    → is_enabled_seat P
    (run P moment n (is_paused (after_run P moment gone n m)) (is_listed gone s) (alone_at s m)).seat
    ≡ false
ran-none P s n moment gone m ready goes =
    let k = after_run P moment gone n m in
    let all = each reported k.seats in
    ap (λ a. is_enabled_seat P a.seat) (sym (run-alone P s n moment gone m ready))
    ∙ sym (reported-enabled P (seat_of s k.seats))
    ∙ ap (λ seat. is_enabled_seat P seat) (sym (each-at reported refl s k.seats))
    ∙ none-at (is_enabled_seat P) refl s all (settle-none P (with_seats all k) goes)

-- a program that is paused behind an entry is so behind its run
pub settled-pause : {C T Q X : Type 0} → (P : Protocol C T Q X) (m : Meaning C Q X) (q : Q)
    → (settle P m).stop ≡ Some q → m.stop ≡ Some q
settled-pause P m q is = settled P m (some (is_enabled_seat P) m.seats) q is
  where
    resumed : {C T Q X : Type 0} → (P : Protocol C T Q X) (m : Meaning C Q X) (b : Bool) (q : Q) (seats : List (Seat X))
        → (if b then record m { stop = None; seats = seats } else m).stop ≡ Some q → m.stop ≡ Some q
    resumed P m true q seats is = absurd cc
    resumed P m false q seats is = is

    settled : {C T Q X : Type 0} → (P : Protocol C T Q X) (m : Meaning C Q X) (b : Bool) (q : Q)
        → (if b then m else resume P m).stop ≡ Some q → m.stop ≡ Some q
    settled P m true q is = is
    settled P m false q is = resumed P m (is_paused m) q _ is

-- ---- a run

pub ran-texts : {C T Q X : Type 0} → (P : Protocol C T Q X) (E : Texts P) (s n moment : ℕ) (gone : List ℕ)
    (m : Meaning C Q X)
    → (let k = after_run P moment gone n m in
    let a = alone_at s m in
    made_of P E s a (view_at P s m (Ran n moment gone))
    ≡ run_texts P E moment n (is_paused k) (is_listed gone s) a
    ++ resume_texts P E (has_resumed k (apply P m (Ran n moment gone)))
    (run P moment n (is_paused k) (is_listed gone s) a).seat)
ran-texts P E s n moment gone m =
    let k = after_run P moment gone n m in
    append-nil
    (made_at P E (alone_at s m)
    (Passed n moment (is_paused k) (is_listed gone s) (has_resumed k (apply P m (Ran n moment gone)))))

-- ---- an entry of somebody else

marked : {C T Q X : Type 0} → (P : Protocol C T Q X) (E : Texts P) (s : ℕ) (a : Alone C Q X) (x : X) (b : Bool)
    → a.seat ≡ Attached x → made_of P E s a (mark b) ≡ (if b then E.resumed x else [])
marked P E s a x true is =
    append-nil (resume_texts P E true a.seat) ∙ ap (λ seat. resume_texts P E true seat) is
marked P E s a x false is = refl

other-marked : {C T Q X : Type 0} → (P : Protocol C T Q X) (E : Texts P) (s : ℕ) (a : Alone C Q X) (x : X)
    (own : Seen) (test b : Bool) → test ≡ false → a.seat ≡ Attached x
    → made_of P E s a (if test then own ∷ [] else mark b) ≡ (if b then E.resumed x else [])
other-marked P E s a x own test b other is =
    ap (λ c. made_of P E s a (if c then own ∷ [] else mark b)) other ∙ marked P E s a x b is

quiet-came : {C T Q X : Type 0} → (P : Protocol C T Q X) (E : Texts P) (s : ℕ) (a : Alone C Q X) (own : Seen) (b : Bool)
    → made_at P E a own ≡ [] → made_of P E s a (if b then own ∷ [] else []) ≡ []
quiet-came P E s a own true none = append-nil (made_at P E a own) ∙ none
quiet-came P E s a own false none = refl

nothing-more : {C T Q X : Type 0} → (P : Protocol C T Q X) (E : Texts P) (m : Meaning C Q X) (x : X)
    → [] ≡ (if has_resumed m m then E.resumed x else [])
nothing-more P E m x = ap (λ b. if b then E.resumed x else []) (sym (stayed m))

taken-goes : {C T Q X : Type 0} → (P : Protocol C T Q X) (r : ℕ) (m : Meaning C Q X) (seat : Seat X)
    → has_resumed m (take P r m seat) ≡ has_resumed m m
taken-goes P r m (Attached x) = refl
taken-goes P r m (Lost loss is_reported is_told) = refl
taken-goes P r m Left = refl

-- an entry of somebody else makes the event of a resume, where the program goes on by it, and nothing else
pub other-texts : {C T Q X : Type 0} → (P : Protocol C T Q X) (E : Texts P) (s : ℕ) (m : Meaning C Q X) (entry : Entry)
    (x : X) → IsOfOther s entry → seat_of s m.seats ≡ Attached x
    → made_of P E s (alone_at s m) (view_at P s m entry)
    ≡ (if has_resumed m (apply P m entry) then E.resumed x else [])
other-texts P E s m Attach x other is =
    quiet-came P E s (alone_at s m) Came (length m.seats + 1 == s) refl ∙ nothing-more P E m x
other-texts P E s m (Tell r text) x other is =
    let b = has_resumed m (apply P m (Tell r text)) in
    other-marked P E s (alone_at s m) x (Told text b) (r == s) b (ne_eqb r s other) is
other-texts P E s m (Take r) x other is =
    quiet-came P E s (alone_at s m) Took (r == s) refl
    ∙ nothing-more P E m x
    ∙ ap (λ b. if b then E.resumed x else []) (sym (taken-goes P r m (seat_of r m.seats)))
other-texts P E s m (Detach r) x other is =
    let b = has_resumed m (apply P m (Detach r)) in
    other-marked P E s (alone_at s m) x (Went b) (r == s) b (ne_eqb r s other) is
other-texts P E s m (Ran n moment gone) x other is = absurd other
other-texts P E s m Shut x other is = nothing-more P E m x

-- ---- a text of the session itself

own-seen : {C T Q X : Type 0} → (P : Protocol C T Q X) (E : Texts P) (s : ℕ) (a : Alone C Q X) (own : Seen)
    (others : List Seen) (b : Bool) → b ≡ true
    → made_of P E s a (if b then own ∷ [] else others) ≡ made_at P E a own
own-seen P E s a own others true is = append-nil (made_at P E a own)
own-seen P E s a own others false is = absurd cc

pub own-texts : {C T Q X : Type 0} → (P : Protocol C T Q X) (E : Texts P) (s : ℕ) (m : Meaning C Q X) (text : List ℕ)
    (x : X) → seat_of s m.seats ≡ Attached x
    → (let b = has_resumed m (apply P m (Tell s text)) in
    made_of P E s (alone_at s m) (view_at P s m (Tell s text))
    ≡ E.reply m.stop m.program text x
    ++ (if b then E.resumed (P.reply m.stop m.program text x) else []))
own-texts P E s m text x is =
    let b = has_resumed m (apply P m (Tell s text)) in
    own-seen P E s (alone_at s m) (Told text b) (mark b) (s == s) (eq-eqb s s refl)
    ∙ ap (λ seat. reply_texts P E text b (alone_at s m) seat) is
    ∙ ap (λ l. E.reply m.stop m.program text x ++ l)
    (resumed-here P E b (P.reply m.stop m.program text x))
  where
    resumed-here : {C T Q X : Type 0} → (P : Protocol C T Q X) (E : Texts P) (b : Bool) (y : X)
        → resume_texts P E b (Attached y) ≡ (if b then E.resumed y else [])
    resumed-here P E true y = refl
    resumed-here P E false y = refl
