-- No more texts ever wait for a session than may.
use Rattle.std.proofs.Common.{◌≡◌, ℕ, zero, suc, ◌+◌, List, [], ◌∷◌, ◌++◌, length, Bool, true, false, if◌then◌else◌, fold, None, refl}
use Rattle.cdp_host_isolation.specs.Seats.{each, fallen, is_listed, lost_by, put, put_in, reported, seat_in, seat_of, some, without, without_from}
use Rattle.cdp_host_isolation.specs.Protocols.{Protocol}
use Rattle.cdp_host_isolation.specs.Meanings.{Meaning, after_run, after_steps, begin, is_enabled_seat, is_named, is_paused, kept, next_number, resume, resumed_seat, seat_behind, settle, step, survives, told_at, told_of, with_seats, woken}
use Rattle.cdp_host_isolation.specs.Histories.{Entry, Attach, Tell, Take, Detach, Ran, Shut, apply, asked, detach, take, tell, whole, with_seat}
use Rattle.cdp_host_isolation.specs.Runs.{AllFit}
use Rattle.cdp_host_isolation.specs.Texts.{Fits, HasRoom}
use Rattle.cdp_host_isolation.specs.declared.seat.Loss.TheVariants.{Overrun}
use Rattle.cdp_host_isolation.specs.declared.seat.Seat.{Seat}
use Rattle.cdp_host_isolation.specs.declared.seat.Seat.TheVariants.{Attached, Lost, Left}

-- ---- seats

in-fits : {C T Q X : Type 0} → (P : Protocol C T Q X) (i : ℕ) (seats : List (Seat X)) → AllFit P seats
    → Fits P (seat_in i seats)
in-fits P i [] all = tt
in-fits P zero (seat ∷ seats) all = all.0
in-fits P (suc i) (seat ∷ seats) all = in-fits P i seats all.1

-- those of the session of this number
pub at-fits : {C T Q X : Type 0} → (P : Protocol C T Q X) (s : ℕ) (seats : List (Seat X)) → AllFit P seats
    → Fits P (seat_of s seats)
at-fits P zero seats all = tt
at-fits P (suc i) seats all = in-fits P i seats all

each-fits : {C T Q X : Type 0} → (P : Protocol C T Q X) (f : Seat X → Seat X) (seats : List (Seat X))
    → ((seat : Seat X) → Fits P seat → Fits P (f seat)) → AllFit P seats → AllFit P (each f seats)
each-fits P f [] keeps all = tt
each-fits P f (seat ∷ seats) keeps all = (keeps seat all.0, each-fits P f seats keeps all.1)

pub put-in-fits : {C T Q X : Type 0}
    → (P : Protocol C T Q X) (i : ℕ) (new : Seat X) (seats : List (Seat X))
    → Fits P new
    → AllFit P seats
    → AllFit P (put_in i new seats)
put-in-fits P i new [] fits all = tt
put-in-fits P zero new (seat ∷ seats) fits all = (fits, all.1)
put-in-fits P (suc i) new (seat ∷ seats) fits all = (all.0, put-in-fits P i new seats fits all.1)

pub put-fits : {C T Q X : Type 0} → (P : Protocol C T Q X) (s : ℕ) (new : Seat X) (seats : List (Seat X)) → Fits P new
    → AllFit P seats
    → AllFit P (put s new seats)
put-fits P zero new seats fits all = all
put-fits P (suc i) new seats fits all = put-in-fits P i new seats fits all

pub append-fits : {C T Q X : Type 0} → (P : Protocol C T Q X) (new : Seat X) (seats : List (Seat X)) → Fits P new
    → AllFit P seats
    → AllFit P (seats ++ new ∷ [])
append-fits P new [] fits all = (fits, tt)
append-fits P new (seat ∷ seats) fits all = (all.0, append-fits P new seats fits all.1)

fallen-fits : {C T Q X : Type 0} → (P : Protocol C T Q X) (b : Bool) (seat : Seat X) → Fits P seat
    → Fits P (if b then fallen seat else seat)
fallen-fits P true (Attached x) fits = tt
fallen-fits P true (Lost loss is_reported is_told) fits = tt
fallen-fits P true Left fits = tt
fallen-fits P false seat fits = fits

without-from-fits : {C T Q X : Type 0} → (P : Protocol C T Q X) (gone : List ℕ) (s : ℕ) (seats : List (Seat X))
    → AllFit P seats
    → AllFit P (without_from gone s seats)
without-from-fits P gone s [] all = tt
without-from-fits P gone s (seat ∷ seats) all =
    (fallen-fits P (is_listed gone s) seat all.0, without-from-fits P gone (s + 1) seats all.1)

without-fits : {C T Q X : Type 0} → (P : Protocol C T Q X) (gone : List ℕ) (seats : List (Seat X)) → AllFit P seats
    → AllFit P (without gone seats)
without-fits P gone seats all = without-from-fits P gone 1 seats all

-- ---- one seat

kept-choice : {C T Q X : Type 0} → (P : Protocol C T Q X) (x : X) (b : Bool) → P.fits x ≡ b
    → Fits P (if b then Attached x else lost_by Overrun)
kept-choice P x true is = is
kept-choice P x false is = tt

kept-fits : {C T Q X : Type 0} → (P : Protocol C T Q X) (x : X) → Fits P (kept P x)
kept-fits P x = kept-choice P x (P.fits x) refl

resumed-fits : {C T Q X : Type 0} → (P : Protocol C T Q X) (seat : Seat X) → Fits P seat → Fits P (resumed_seat P seat)
resumed-fits P (Attached x) fits = kept-fits P (P.resumed x)
resumed-fits P (Lost loss is_reported is_told) fits = tt
resumed-fits P Left fits = tt

pub reported-fits : {C T Q X : Type 0} → (P : Protocol C T Q X) (seat : Seat X) → Fits P seat → Fits P (reported seat)
reported-fits P (Attached x) fits = fits
reported-fits P (Lost loss is_reported is_told) fits = tt
reported-fits P Left fits = tt

-- a session that fits behind a step with its own stop fits without it
without-stop : {C T Q X : Type 0} → (P : Protocol C T Q X) → HasRoom P → (number moment : ℕ) (t : T) (x : X) (b : Bool)
    → P.fits (if b then P.stopped number t (P.told moment t x) else P.told moment t x) ≡ true
    → P.fits (P.told moment t x) ≡ true
without-stop P room number moment t x true fits = room.stopped number moment t x fits
without-stop P room number moment t x false fits = fits

told-fits : {C T Q X : Type 0} → (P : Protocol C T Q X) → HasRoom P → (stops : Bool) (number moment : ℕ) (t : T) (x : X)
    → survives P number moment t x ≡ true → Fits P (told_of P stops number moment t x)
told-fits P room true number moment t x fits = kept-fits P (P.stopped number t (P.told moment t x))
told-fits P room false number moment t x fits = without-stop P room number moment t x (P.names t x) fits

behind-choice : {C T Q X : Type 0} → (P : Protocol C T Q X) → HasRoom P
    → (stops : Bool) (number moment : ℕ) (t : T) (x : X) (b : Bool)
    → survives P number moment t x ≡ b → Fits P (if b then told_of P stops number moment t x else lost_by Overrun)
behind-choice P room stops number moment t x true is = told-fits P room stops number moment t x is
behind-choice P room stops number moment t x false is = tt

behind-fits : {C T Q X : Type 0} → (P : Protocol C T Q X) → HasRoom P
    → (stops : Bool) (number moment : ℕ) (t : T) (seat : Seat X)
    → Fits P seat → Fits P (seat_behind P stops number moment t seat)
behind-fits P room stops number moment t (Attached x) fits =
    behind-choice P room stops number moment t x (survives P number moment t x) refl
behind-fits P room stops number moment t (Lost loss is_reported is_told) fits = tt
behind-fits P room stops number moment t Left fits = tt

-- ---- entries

resume-choice : {C T Q X : Type 0} → (P : Protocol C T Q X) (m : Meaning C Q X) (b : Bool) → AllFit P m.seats
    → AllFit P (if b then record m { stop = None; seats = each (resumed_seat P) m.seats } else m).seats
resume-choice P m true all = each-fits P (resumed_seat P) m.seats (λ seat fits. resumed-fits P seat fits) all
resume-choice P m false all = all

resume-fits : {C T Q X : Type 0} → (P : Protocol C T Q X) (m : Meaning C Q X) → AllFit P m.seats
    → AllFit P (resume P m).seats
resume-fits P m all = resume-choice P m (is_paused m) all

settle-choice : {C T Q X : Type 0} → (P : Protocol C T Q X) (m : Meaning C Q X) (b : Bool) → AllFit P m.seats
    → AllFit P (if b then m else resume P m).seats
settle-choice P m true all = all
settle-choice P m false all = resume-fits P m all

settle-fits : {C T Q X : Type 0} → (P : Protocol C T Q X) (m : Meaning C Q X) → AllFit P m.seats
    → AllFit P (settle P m).seats
settle-fits P m all = settle-choice P m (some (is_enabled_seat P) m.seats) all

asked-fits : {C T Q X : Type 0} → (P : Protocol C T Q X) (m : Meaning C Q X) (resumes wakes : Bool) → AllFit P m.seats
    → AllFit P (asked P resumes wakes m).seats
asked-fits P m true wakes all = resume-fits P m all
asked-fits P m false true all = settle-fits P (record m { phase = woken m.phase }) all
asked-fits P m false false all = settle-fits P m all

told-choice : {C T Q X : Type 0}
    → (P : Protocol C T Q X) (s : ℕ) (m : Meaning C Q X) (resumes wakes : Bool) (y : X) (b : Bool)
    → P.fits y ≡ b → AllFit P m.seats
    → AllFit P (if b then asked P resumes wakes (with_seat s (Attached y) m) else settle P (with_seat s Left m)).seats
told-choice P s m resumes wakes y true is all =
    asked-fits P (with_seat s (Attached y) m) resumes wakes (put-fits P s (Attached y) m.seats is all)
told-choice P s m resumes wakes y false is all = settle-fits P (with_seat s Left m) (put-fits P s Left m.seats tt all)

tell-fits : {C T Q X : Type 0} → (P : Protocol C T Q X) (s : ℕ) (text : List ℕ) (m : Meaning C Q X) (seat : Seat X)
    → AllFit P m.seats
    → AllFit P (tell P s text m seat).seats
tell-fits P s text m (Attached x) all =
    let y = P.reply m.stop m.program text x in
    told-choice P s m (P.resumes m.stop m.program text x) (P.wakes m.stop m.program text x) y (P.fits y) refl all
tell-fits P s text m (Lost loss is_reported is_told) all = all
tell-fits P s text m Left all = all

take-fits : {C T Q X : Type 0} → (P : Protocol C T Q X) → HasRoom P → (s : ℕ) (m : Meaning C Q X) (seat : Seat X)
    → AllFit P m.seats
    → AllFit P (take P s m seat).seats
take-fits P room s m (Attached x) all = put-fits P s (Attached (P.emptied x)) m.seats (room.emptied x) all
take-fits P room s m (Lost loss is_reported is_told) all = all
take-fits P room s m Left all = all

detach-fits : {C T Q X : Type 0} → (P : Protocol C T Q X) (s : ℕ) (m : Meaning C Q X) (seat : Seat X) → AllFit P m.seats
    → AllFit P (detach P s m seat).seats
detach-fits P s m (Attached x) all = settle-fits P (with_seat s Left m) (put-fits P s Left m.seats tt all)
detach-fits P s m (Lost loss is_reported is_told) all = put-fits P s (Lost loss is_reported true) m.seats tt all
detach-fits P s m Left all = all

step-fits : {C T Q X : Type 0} → (P : Protocol C T Q X) → HasRoom P → (moment : ℕ) (gone : List ℕ) (m : Meaning C Q X)
    → AllFit P m.seats
    → AllFit P (step P moment gone m).seats
step-fits P room moment gone m all =
    let b = is_named P moment gone m.program m in
    let t = told_at P m.program m in
    each-fits P (seat_behind P b (next_number m.stops) moment t) (without gone m.seats)
    (λ seat fits. behind-fits P room b (next_number m.stops) moment t seat fits) (without-fits P gone m.seats all)

steps-fit : {C T Q X : Type 0} → (P : Protocol C T Q X) → HasRoom P → (moment n : ℕ) (m : Meaning C Q X)
    → AllFit P m.seats
    → AllFit P (after_steps P moment n m).seats
steps-fit P room moment zero m all = all
steps-fit P room moment (suc n) m all =
    steps-fit P room moment n (step P moment [] m) (step-fits P room moment [] m all)

run-fits : {C T Q X : Type 0} → (P : Protocol C T Q X) → HasRoom P
    → (moment : ℕ) (gone : List ℕ) (n : ℕ) (m : Meaning C Q X)
    → AllFit P m.seats → AllFit P (after_run P moment gone n m).seats
run-fits P room moment gone zero m all = without-fits P gone m.seats all
run-fits P room moment gone (suc n) m all =
    step-fits P room moment gone (after_steps P moment n m) (steps-fit P room moment n m all)

entry-fits : {C T Q X : Type 0} → (P : Protocol C T Q X) → HasRoom P → (m : Meaning C Q X) (entry : Entry)
    → AllFit P m.seats
    → AllFit P (apply P m entry).seats
entry-fits P room m Attach all =
    append-fits P (Attached (P.fresh (length m.seats + 1))) m.seats (room.fresh (length m.seats + 1)) all
entry-fits P room m (Tell s text) all = tell-fits P s text m (seat_of s m.seats) all
entry-fits P room m (Take s) all = take-fits P room s m (seat_of s m.seats) all
entry-fits P room m (Detach s) all = detach-fits P s m (seat_of s m.seats) all
entry-fits P room m (Ran n moment gone) all =
    let k = after_run P moment gone n m in
    settle-fits P (with_seats (each reported k.seats) k)
    (each-fits P reported k.seats (λ seat fits. reported-fits P seat fits) (run-fits P room moment gone n m all))
entry-fits P room m Shut all = all

-- ---- a whole history

-- from any meaning in which all fit
pub all-fit : {C T Q X : Type 0} → (P : Protocol C T Q X) → HasRoom P → (m : Meaning C Q X) (history : List Entry)
    → AllFit P m.seats
    → AllFit P (fold (apply P) m history).seats
all-fit P room m [] all = all
all-fit P room m (entry ∷ history) all = all-fit P room (apply P m entry) history (entry-fits P room m entry all)

-- the texts that wait for a session fit at all times
pub fit : {C T Q X : Type 0} → (P : Protocol C T Q X) → HasRoom P → (c : C) (wait : Bool) (history : List Entry) (s : ℕ)
    → Fits P (seat_of s (whole P c wait history).seats)
fit P room c wait history s = at-fits P s (whole P c wait history).seats (all-fit P room (begin c wait) history tt)
