-- A program that is paused has begun.
use Rattle.std.proofs.Common.{◌≡◌, ℕ, zero, suc, List, [], ◌∷◌, Bool, true, false, if◌then◌else◌, fold, None, refl, ◌∙◌}
use Rattle.cdp_host_isolation.specs.Seats.{each, reported, seat_of, some}
use Rattle.cdp_host_isolation.specs.Protocols.{Protocol}
use Rattle.cdp_host_isolation.specs.Meanings.{Meaning, after_run, begin, is_enabled_seat, is_first, is_paused, resume, resumed_seat, settle, with_seats, woken}
use Rattle.cdp_host_isolation.specs.Histories.{Entry, Attach, Tell, Take, Detach, Ran, Shut, apply, asked, detach, take, tell, whole, with_seat}
use Rattle.cdp_host_isolation.specs.declared.phase.Phase.{Phase}
use Rattle.cdp_host_isolation.specs.declared.phase.Phase.TheVariants.{Waiting, Woken, Running}
use Rattle.cdp_host_isolation.specs.declared.seat.Seat.{Seat}
use Rattle.cdp_host_isolation.specs.declared.seat.Seat.TheVariants.{Attached, Lost, Left}

-- where the program is paused, its next step isn't the first of one that waited
abbrev Begun : {C Q X : Type 0} → Meaning C Q X → Type 0
Begun m = is_paused m ≡ true → is_first m.phase ≡ false

resumed_begun : {C T Q X : Type 0} → (P : Protocol C T Q X) (m : Meaning C Q X) (b : Bool) → Begun m
    → Begun (if b then record m { stop = None; seats = each (resumed_seat P) m.seats } else m)
resumed_begun P m true begun = λ paused. cc
resumed_begun P m false begun = begun

resume_begun : {C T Q X : Type 0} → (P : Protocol C T Q X) (m : Meaning C Q X) → Begun m → Begun (resume P m)
resume_begun P m begun = resumed_begun P m (is_paused m) begun

settled_begun : {C T Q X : Type 0} → (P : Protocol C T Q X) (m : Meaning C Q X) (b : Bool) → Begun m
    → Begun (if b then m else resume P m)
settled_begun P m true begun = begun
settled_begun P m false begun = resume_begun P m begun

settle_begun : {C T Q X : Type 0} → (P : Protocol C T Q X) (m : Meaning C Q X) → Begun m → Begun (settle P m)
settle_begun P m begun = settled_begun P m (some (is_enabled_seat P) m.seats) begun

woken_first : (p : Phase) → is_first (woken p) ≡ is_first p
woken_first Waiting = refl
woken_first Woken = refl
woken_first Running = refl

asked_begun : {C T Q X : Type 0} → (P : Protocol C T Q X) (m : Meaning C Q X) (resumes wakes : Bool) → Begun m
    → Begun (asked P resumes wakes m)
asked_begun P m true wakes begun = resume_begun P m begun
asked_begun P m false true begun =
    settle_begun P (record m { phase = woken m.phase }) (λ paused. woken_first m.phase ∙ begun paused)
asked_begun P m false false begun = settle_begun P m begun

told_begun : {C T Q X : Type 0}
    → (P : Protocol C T Q X) (s : ℕ) (m : Meaning C Q X) (resumes wakes : Bool) (y : X) (b : Bool)
    → Begun m
    → Begun (if b then asked P resumes wakes (with_seat s (Attached y) m) else settle P (with_seat s Left m))
told_begun P s m resumes wakes y true begun = asked_begun P (with_seat s (Attached y) m) resumes wakes begun
told_begun P s m resumes wakes y false begun = settle_begun P (with_seat s Left m) begun

tell_begun : {C T Q X : Type 0} → (P : Protocol C T Q X) (s : ℕ) (text : List ℕ) (m : Meaning C Q X) (seat : Seat X)
    → Begun m
    → Begun (tell P s text m seat)
tell_begun P s text m (Attached x) begun =
    let y = P.reply m.stop m.program text x in
    told_begun P s m (P.resumes m.stop m.program text x) (P.wakes m.stop m.program text x) y (P.fits y) begun
tell_begun P s text m (Lost loss is_reported is_told) begun = begun
tell_begun P s text m Left begun = begun

take_begun : {C T Q X : Type 0} → (P : Protocol C T Q X) (s : ℕ) (m : Meaning C Q X) (seat : Seat X) → Begun m
    → Begun (take P s m seat)
take_begun P s m (Attached x) begun = begun
take_begun P s m (Lost loss is_reported is_told) begun = begun
take_begun P s m Left begun = begun

detach_begun : {C T Q X : Type 0} → (P : Protocol C T Q X) (s : ℕ) (m : Meaning C Q X) (seat : Seat X) → Begun m
    → Begun (detach P s m seat)
detach_begun P s m (Attached x) begun = settle_begun P (with_seat s Left m) begun
detach_begun P s m (Lost loss is_reported is_told) begun = begun
detach_begun P s m Left begun = begun

run_begun : {C T Q X : Type 0} → (P : Protocol C T Q X) (moment : ℕ) (gone : List ℕ) (n : ℕ) (m : Meaning C Q X)
    → Begun m
    → Begun (after_run P moment gone n m)
run_begun P moment gone zero m begun = begun
run_begun P moment gone (suc n) m begun = λ paused. refl

entry_begun : {C T Q X : Type 0} → (P : Protocol C T Q X) (m : Meaning C Q X) (entry : Entry) → Begun m
    → Begun (apply P m entry)
entry_begun P m Attach begun = begun
entry_begun P m (Tell s text) begun = tell_begun P s text m (seat_of s m.seats) begun
entry_begun P m (Take s) begun = take_begun P s m (seat_of s m.seats) begun
entry_begun P m (Detach s) begun = detach_begun P s m (seat_of s m.seats) begun
entry_begun P m (Ran n moment gone) begun =
    let k = after_run P moment gone n m in
    settle_begun P (with_seats (each reported k.seats) k) (run_begun P moment gone n m begun)
entry_begun P m Shut begun = begun

begun_from : {C T Q X : Type 0} → (P : Protocol C T Q X) (m : Meaning C Q X) (history : List Entry) → Begun m
    → Begun (fold (apply P) m history)
begun_from P m [] begun = begun
begun_from P m (entry ∷ history) begun = begun_from P (apply P m entry) history (entry_begun P m entry begun)

-- a program that is paused after a history has begun
pub paused-begun : {C T Q X : Type 0} → (P : Protocol C T Q X) (c : C) (wait : Bool) (history : List Entry)
    → is_paused (whole P c wait history) ≡ true
    → is_first (whole P c wait history).phase ≡ false
paused-begun P c wait history = begun_from P (begin c wait) history (λ paused. cc)
