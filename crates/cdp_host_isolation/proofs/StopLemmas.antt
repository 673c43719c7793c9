-- Where programs stop: each makes the plain run's steps, stops exactly where it is asked to, and is paused for
-- somebody.
use Rattle.std.proofs.Common.{◌≡◌, ◌<◌, ℕ, zero, suc, ◌+◌, List, [], ◌∷◌, ◌++◌, length, Bool, true, false, ◌||◌, if◌then◌else◌, fold, Option, Some, None, refl, ap, sym, ◌∙◌, arith}
use Rattle.cdp_host_isolation.specs.Seats.{each, put, put_in, reported, seat_in, seat_of, some}
use Rattle.cdp_host_isolation.specs.Protocols.{Protocol}
use Rattle.cdp_host_isolation.specs.Meanings.{Meaning, after_run, after_steps, begin, is_enabled_seat, is_named, is_paused, is_ready, next_number, resume, resumed_seat, settle, step, with_seats, woken}
use Rattle.cdp_host_isolation.specs.Histories.{Entry, Attach, Tell, Take, Detach, Ran, Shut, FitsAll, FitsEntry, apply, asked, detach, steps_made, steps_of, take, tell, whole, with_seat}
use Rattle.cdp_host_isolation.specs.Stops.{AllStopExactly, IsPausedWell, KeepsEnabled, StopsAt, StopsExactly, plain}
use Rattle.cdp_host_isolation.specs.declared.seat.Seat.{Seat}
use Rattle.cdp_host_isolation.specs.declared.seat.Seat.TheVariants.{Attached, Lost, Left}
use Rattle.cdp_host_isolation.proofs.AloneLemmas.{ready-goes, step-stops}
use Rattle.cdp_host_isolation.proofs.StepLemmas.{after-suc}

-- ---- plain steps

plain-next : {C T Q X : Type 0} → (P : Protocol C T Q X) (k : ℕ) (c : C) → plain P k (P.next c) ≡ P.next (plain P k c)
plain-next P zero c = refl
plain-next P (suc k) c = ap (λ d. P.next d) (plain-next P k c)

-- plain steps and more of them
pub plain-more : {C T Q X : Type 0} → (P : Protocol C T Q X) (a b : ℕ) (c : C)
    → plain P (a + b) c ≡ plain P b (plain P a c)
plain-more P a zero c = let e : a + zero ≡ a = omega arith in rw e refl
plain-more P a (suc b) c =
    let e : a + suc b ≡ suc (a + b) = omega arith in rw e (ap (λ d. P.next d) (plain-more P a b c))

pub steps-program : {C T Q X : Type 0} → (P : Protocol C T Q X) (moment n : ℕ) (m : Meaning C Q X)
    → (after_steps P moment n m).program ≡ plain P n m.program
steps-program P moment zero m = refl
steps-program P moment (suc n) m = steps-program P moment n (step P moment [] m) ∙ plain-next P n m.program

run-program : {C T Q X : Type 0} → (P : Protocol C T Q X) (moment : ℕ) (gone : List ℕ) (n : ℕ) (m : Meaning C Q X)
    → (after_run P moment gone n m).program ≡ plain P n m.program
run-program P moment gone zero m = refl
run-program P moment gone (suc n) m = ap (λ d. P.next d) (steps-program P moment n m)

-- ---- the program behind an entry

resumed-program : {C T Q X : Type 0} → (P : Protocol C T Q X) (m : Meaning C Q X) (b : Bool)
    → (if b then record m { stop = None; seats = each (resumed_seat P) m.seats } else m).program ≡ m.program
resumed-program P m true = refl
resumed-program P m false = refl

resume-program : {C T Q X : Type 0} → (P : Protocol C T Q X) (m : Meaning C Q X) → (resume P m).program ≡ m.program
resume-program P m = resumed-program P m (is_paused m)

settled-program : {C T Q X : Type 0} → (P : Protocol C T Q X) (m : Meaning C Q X) (b : Bool)
    → (if b then m else resume P m).program ≡ m.program
settled-program P m true = refl
settled-program P m false = resume-program P m

settle-program : {C T Q X : Type 0} → (P : Protocol C T Q X) (m : Meaning C Q X) → (settle P m).program ≡ m.program
settle-program P m = settled-program P m (some (is_enabled_seat P) m.seats)

asked-program : {C T Q X : Type 0} → (P : Protocol C T Q X) (m : Meaning C Q X) (resumes wakes : Bool)
    → (asked P resumes wakes m).program ≡ m.program
asked-program P m true wakes = resume-program P m
asked-program P m false true = settle-program P (record m { phase = woken m.phase })
asked-program P m false false = settle-program P m

told-program : {C T Q X : Type 0}
    → (P : Protocol C T Q X) (s : ℕ) (m : Meaning C Q X) (resumes wakes : Bool) (y : X) (b : Bool)
    → (if b then asked P resumes wakes (with_seat s (Attached y) m) else settle P (with_seat s Left m)).program
    ≡ m.program
told-program P s m resumes wakes y true = asked-program P (with_seat s (Attached y) m) resumes wakes
told-program P s m resumes wakes y false = settle-program P (with_seat s Left m)

tell-program : {C T Q X : Type 0} → (P : Protocol C T Q X) (s : ℕ) (text : List ℕ) (m : Meaning C Q X) (seat : Seat X)
    → (tell P s text m seat).program ≡ m.program
tell-program P s text m (Attached x) =
    let y = P.reply m.stop m.program text x in
    told-program P s m (P.resumes m.stop m.program text x) (P.wakes m.stop m.program text x) y (P.fits y)
tell-program P s text m (Lost loss is_reported is_told) = refl
tell-program P s text m Left = refl

take-program : {C T Q X : Type 0} → (P : Protocol C T Q X) (s : ℕ) (m : Meaning C Q X) (seat : Seat X)
    → (take P s m seat).program ≡ m.program
take-program P s m (Attached x) = refl
take-program P s m (Lost loss is_reported is_told) = refl
take-program P s m Left = refl

detach-program : {C T Q X : Type 0} → (P : Protocol C T Q X) (s : ℕ) (m : Meaning C Q X) (seat : Seat X)
    → (detach P s m seat).program ≡ m.program
detach-program P s m (Attached x) = settle-program P (with_seat s Left m)
detach-program P s m (Lost loss is_reported is_told) = refl
detach-program P s m Left = refl

-- an entry makes just its steps
pub entry-program : {C T Q X : Type 0} → (P : Protocol C T Q X) (m : Meaning C Q X) (entry : Entry)
    → (apply P m entry).program ≡ plain P (steps_of entry) m.program
entry-program P m Attach = refl
entry-program P m (Tell s text) = tell-program P s text m (seat_of s m.seats)
entry-program P m (Take s) = take-program P s m (seat_of s m.seats)
entry-program P m (Detach s) = detach-program P s m (seat_of s m.seats)
entry-program P m (Ran n moment gone) =
    let k = after_run P moment gone n m in
    settle-program P (with_seats (each reported k.seats) k) ∙ run-program P moment gone n m
entry-program P m Shut = refl

-- from any meaning
pub plain-way-from : {C T Q X : Type 0} → (P : Protocol C T Q X) (m : Meaning C Q X) (history : List Entry)
    → (fold (apply P) m history).program ≡ plain P (steps_made history) m.program
plain-way-from P m [] = refl
plain-way-from P m (entry ∷ history) =
    plain-way-from P (apply P m entry) history
    ∙ ap (λ d. plain P (steps_made history) d) (entry-program P m entry)
    ∙ sym (plain-more P (steps_of entry) (steps_made history) m.program)

-- the program is where the plain run is behind as many steps
pub plain-way : {C T Q X : Type 0} → (P : Protocol C T Q X) (c : C) (wait : Bool) (history : List Entry)
    → (whole P c wait history).program ≡ plain P (steps_made history) c
plain-way P c wait history = plain-way-from P (begin c wait) history

-- ---- where it stops

run-stops : {C T Q X : Type 0}
    → (P : Protocol C T Q X) (c : C) (made moment : ℕ) (gone : List ℕ) (m : Meaning C Q X) (n : ℕ)
    → m.program ≡ plain P made c → ((j : ℕ) → j < n → is_ready P (after_steps P moment j m) ≡ true)
    → StopsExactly P c made moment gone m n
run-stops P c made moment gone m n at ready =
    let where_at : (j : ℕ) → (after_steps P moment j m).program ≡ plain P (made + j) c
    = λ j. steps-program P moment j m ∙ ap (λ d. plain P j d) at ∙ sym (plain-more P made j c) in
    record {
      ready = ready;
      passes_none = λ j below.
          let k = after_steps P moment j m in
          ap (λ d. is_named P moment [] d k) (sym (where_at j)) ∙ sym (step-stops P moment [] k)
          ∙ ap (λ l. is_paused l) (sym (after-suc P j moment m))
          ∙ ready-goes P (after_steps P moment (suc j) m) (ready (suc j) (omega (arith, below)));
      stops_there = λ j is.
          let k = after_steps P moment j m in
          ap (λ i. is_paused (after_run P moment gone i m)) is
          ∙ step-stops P moment gone k
          ∙ ap (λ d. is_named P moment gone d k) (where_at j);
    }

entry-stops : {C T Q X : Type 0} → (P : Protocol C T Q X) (c : C) (made : ℕ) (m : Meaning C Q X) (entry : Entry)
    → m.program ≡ plain P made c → FitsEntry P m entry → StopsAt P c made m entry
entry-stops P c made m Attach at fits = tt
entry-stops P c made m (Tell s text) at fits = tt
entry-stops P c made m (Take s) at fits = tt
entry-stops P c made m (Detach s) at fits = tt
entry-stops P c made m (Ran n moment gone) at fits = run-stops P c made moment gone m n at fits
entry-stops P c made m Shut at fits = tt

-- from any meaning whose program is the plain run's
stops-exactly-from : {C T Q X : Type 0}
    → (P : Protocol C T Q X) (c : C) (made : ℕ) (m : Meaning C Q X) (history : List Entry)
    → m.program ≡ plain P made c → FitsAll P m history → AllStopExactly P c made m history
stops-exactly-from P c made m [] at fits = tt
stops-exactly-from P c made m (entry ∷ history) at fits = (
  entry-stops P c made m entry at fits.0,
  stops-exactly-from P c (made + steps_of entry) (apply P m entry) history
      (entry-program P m entry ∙ ap (λ d. plain P (steps_of entry) d) at ∙ sym (plain-more P made (steps_of entry) c))
      fits.1,
)

-- each run of a history stops exactly where a session asks for it
pub stops-exactly : {C T Q X : Type 0} → (P : Protocol C T Q X) (c : C) (wait : Bool) (history : List Entry)
    → FitsAll P (begin c wait) history → AllStopExactly P c 0 (begin c wait) history
stops-exactly P c wait history fits = stops-exactly-from P c 0 (begin c wait) history refl fits

-- ---- for whom it is paused

-- the pause of a program is one of where it stands
abbrev IsThere : {C T Q X : Type 0} → Protocol C T Q X → C → Option Q → Type 0
IsThere {C} {T} {Q} {X} P c stop = (q : Q) → stop ≡ Some q → (number : ℕ) × (q ≡ P.pause number c)

goes-well : {C T Q X : Type 0} → (P : Protocol C T Q X) (m : Meaning C Q X) → is_paused m ≡ false
    → IsThere P m.program m.stop → IsPausedWell P m
goes-well P m goes there = record { enabled = λ paused. cc; there = there }

resumed-well : {C T Q X : Type 0} → (P : Protocol C T Q X) (m : Meaning C Q X) (b : Bool) → is_paused m ≡ b
    → IsThere P m.program m.stop
    → IsPausedWell P (if b then record m { stop = None; seats = each (resumed_seat P) m.seats } else m)
resumed-well P m true is there = goes-well P (record m { stop = None; seats = each (resumed_seat P) m.seats }) refl (λ q same. cc)
resumed-well P m false is there = goes-well P m is there

resume-well : {C T Q X : Type 0} → (P : Protocol C T Q X) (m : Meaning C Q X) → IsThere P m.program m.stop
    → IsPausedWell P (resume P m)
resume-well P m there = resumed-well P m (is_paused m) refl there

settled-well : {C T Q X : Type 0} → (P : Protocol C T Q X) (m : Meaning C Q X) (b : Bool)
    → some (is_enabled_seat P) m.seats ≡ b
    → IsThere P m.program m.stop → IsPausedWell P (if b then m else resume P m)
settled-well P m true is there = record { enabled = λ paused. is; there = there }
settled-well P m false is there = resume-well P m there

settle-well : {C T Q X : Type 0} → (P : Protocol C T Q X) (m : Meaning C Q X) → IsThere P m.program m.stop
    → IsPausedWell P (settle P m)
settle-well P m there = settled-well P m (some (is_enabled_seat P) m.seats) refl there

asked-well : {C T Q X : Type 0} → (P : Protocol C T Q X) (m : Meaning C Q X) (resumes wakes : Bool)
    → IsThere P m.program m.stop
    → IsPausedWell P (asked P resumes wakes m)
asked-well P m true wakes there = resume-well P m there
asked-well P m false true there = settle-well P (record m { phase = woken m.phase }) there
asked-well P m false false there = settle-well P m there

told-well : {C T Q X : Type 0}
    → (P : Protocol C T Q X) (s : ℕ) (m : Meaning C Q X) (resumes wakes : Bool) (y : X) (b : Bool)
    → IsThere P m.program m.stop
    → IsPausedWell P (if b then asked P resumes wakes (with_seat s (Attached y) m) else settle P (with_seat s Left m))
told-well P s m resumes wakes y true there = asked-well P (with_seat s (Attached y) m) resumes wakes there
told-well P s m resumes wakes y false there = settle-well P (with_seat s Left m) there

tell-well : {C T Q X : Type 0} → (P : Protocol C T Q X) (s : ℕ) (text : List ℕ) (m : Meaning C Q X) (seat : Seat X)
    → IsPausedWell P m
    → IsPausedWell P (tell P s text m seat)
tell-well P s text m (Attached x) well =
    let y = P.reply m.stop m.program text x in
    told-well P s m (P.resumes m.stop m.program text x) (P.wakes m.stop m.program text x) y (P.fits y) well.there
tell-well P s text m (Lost loss is_reported is_told) well = well
tell-well P s text m Left well = well

pub some-put-in : {X : Type 0} → (test : Seat X → Bool) (i : ℕ) (new : Seat X) (seats : List (Seat X))
    → test new ≡ test (seat_in i seats)
    → some test (put_in i new seats) ≡ some test seats
some-put-in test i new [] same = refl
some-put-in test zero new (seat ∷ seats) same = ap (λ b. b || some test seats) same
some-put-in test (suc i) new (seat ∷ seats) same = ap (λ b. test seat || b) (some-put-in test i new seats same)

pub some-put : {X : Type 0} → (test : Seat X → Bool) (s : ℕ) (new : Seat X) (seats : List (Seat X))
    → test new ≡ test (seat_of s seats)
    → some test (put s new seats) ≡ some test seats
some-put test zero new seats same = refl
some-put test (suc i) new seats same = some-put-in test i new seats same

either-way : (a b c : Bool) → (a || b) ≡ true → (b ≡ true → c ≡ true) → (a || c) ≡ true
either-way true b c is more = refl
either-way false b c is more = more is

some-append : {X : Type 0} → (test : Seat X → Bool) (seats more : List (Seat X)) → some test seats ≡ true
    → some test (seats ++ more) ≡ true
some-append test [] more is = cc
some-append test (seat ∷ seats) more is =
    either-way (test seat) (some test seats) (some test (seats ++ more)) is (λ later. some-append test seats more later)

-- a seat is changed, and is as enabled as it was
put-well : {C T Q X : Type 0} → (P : Protocol C T Q X) (s : ℕ) (m : Meaning C Q X) (new : Seat X)
    → is_enabled_seat P new ≡ is_enabled_seat P (seat_of s m.seats) → IsPausedWell P m
    → IsPausedWell P (with_seat s new m)
put-well P s m new same well = record {
  enabled = λ paused. some-put (is_enabled_seat P) s new m.seats same ∙ well.enabled paused;
  there = well.there;
}

take-well : {C T Q X : Type 0} → (P : Protocol C T Q X) (s : ℕ) (m : Meaning C Q X) (seat : Seat X) → KeepsEnabled P
    → seat_of s m.seats ≡ seat
    → IsPausedWell P m → IsPausedWell P (take P s m seat)
take-well P s m (Attached x) keeps is well =
    put-well P s m (Attached (P.emptied x)) (keeps x ∙ ap (λ seat. is_enabled_seat P seat) (sym is)) well
take-well P s m (Lost loss is_reported is_told) keeps is well = well
take-well P s m Left keeps is well = well

detach-well : {C T Q X : Type 0} → (P : Protocol C T Q X) (s : ℕ) (m : Meaning C Q X) (seat : Seat X)
    → seat_of s m.seats ≡ seat
    → IsPausedWell P m → IsPausedWell P (detach P s m seat)
detach-well P s m (Attached x) is well = settle-well P (with_seat s Left m) well.there
detach-well P s m (Lost loss is_reported is_told) is well =
    put-well P s m (Lost loss is_reported true) (ap (λ seat. is_enabled_seat P seat) (sym is)) well
detach-well P s m Left is well = well

stop-there : {C T Q X : Type 0} → (P : Protocol C T Q X) (number : ℕ) (c : C) (b : Bool)
    → IsThere P c (if b then Some (P.pause number c) else None)
stop-there P number c true q is = (number, cc)
stop-there P number c false q is = cc

run-there : {C T Q X : Type 0} → (P : Protocol C T Q X) (moment : ℕ) (gone : List ℕ) (n : ℕ) (m : Meaning C Q X)
    → IsThere P m.program m.stop
    → IsThere P (after_run P moment gone n m).program (after_run P moment gone n m).stop
run-there P moment gone zero m there = there
run-there P moment gone (suc n) m there =
    let k = after_steps P moment n m in
    stop-there P (next_number k.stops) (P.next k.program) (is_named P moment gone k.program k)

entry-well : {C T Q X : Type 0} → (P : Protocol C T Q X) (m : Meaning C Q X) (entry : Entry) → KeepsEnabled P
    → IsPausedWell P m
    → IsPausedWell P (apply P m entry)
entry-well P m Attach keeps well = record {
  enabled =
      λ paused. some-append (is_enabled_seat P) m.seats (Attached (P.fresh (length m.seats + 1)) ∷ [])
      (well.enabled paused);
  there = well.there;
}
entry-well P m (Tell s text) keeps well = tell-well P s text m (seat_of s m.seats) well
entry-well P m (Take s) keeps well = take-well P s m (seat_of s m.seats) keeps refl well
entry-well P m (Detach s) keeps well = detach-well P s m (seat_of s m.seats) refl well
entry-well P m (Ran n moment gone) keeps well =
    let k = after_run P moment gone n m in
    settle-well P (with_seats (each reported k.seats) k) (run-there P moment gone n m well.there)
entry-well P m Shut keeps well = record { enabled = well.enabled; there = well.there }

-- from any meaning that is paused well
pub paused-well-from : {C T Q X : Type 0} → (P : Protocol C T Q X) (m : Meaning C Q X) (history : List Entry)
    → KeepsEnabled P
    → IsPausedWell P m → IsPausedWell P (fold (apply P) m history)
paused-well-from P m [] keeps well = well
paused-well-from P m (entry ∷ history) keeps well =
    paused-well-from P (apply P m entry) history keeps (entry-well P m entry keeps well)

-- a program is paused only where a session has the debugger enabled, and at a stop of where it stands
pub paused-well : {C T Q X : Type 0} → (P : Protocol C T Q X) (c : C) (wait : Bool) (history : List Entry)
    → KeepsEnabled P
    → IsPausedWell P (whole P c wait history)
paused-well P c wait history keeps =
    paused-well-from P (begin c wait) history keeps (goes-well P (begin c wait) refl (λ q is. cc))
