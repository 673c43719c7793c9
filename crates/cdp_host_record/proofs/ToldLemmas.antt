-- Which owners were told of losses changes nothing else.
use Rattle.std.proofs.Common.{◌≡◌, ℕ, zero, suc, ◌+◌, List, [], ◌∷◌, ◌++◌, length, Bool, true, false, ◌&&◌, ◌||◌, ◌==◌, not, if◌then◌else◌, None, refl, ap, sym, ◌∙◌}
use Rattle.cdp_host_isolation.specs.Histories.{Entry, Attach, Tell, Take, Detach, Ran, Shut, apply, asked, detach, handed_at, take, tell, told, waiting, with_seat}
use Rattle.cdp_host_isolation.specs.Meanings.{Meaning, after_run, after_steps, behind, is_enabled_seat, is_named, is_paused, is_ready, longest, next_number, resume, resumed_seat, seat_behind, settle, step, stops_for, told_at, waits, with_seats, woken}
use Rattle.cdp_host_isolation.specs.Protocols.{Protocol}
use Rattle.cdp_host_isolation.specs.Seats.{each, fallen, is_attached, is_listed, lost_by, put, put_in, reported, seat_of, some, waits_for_report, without, without_from}
use Rattle.cdp_host_isolation.specs.declared.seat.Loss.TheVariants.{Overrun}
use Rattle.cdp_host_isolation.specs.declared.seat.Seat.{Seat}
use Rattle.cdp_host_isolation.specs.declared.seat.Seat.TheVariants.{Attached, Lost, Left}
use Rattle.cdp_host_isolation.proofs.SeatLemmas.{each-at}
use Rattle.cdp_host_isolation.proofs.TextLemmas.{each-length}
use Rattle.cdp_host_record.specs.Replays.{but_told, untold}

-- ---- seats

untold-twice : {X : Type 0} → (seat : Seat X) → untold (untold seat) ≡ untold seat
untold-twice (Attached x) = refl
untold-twice (Lost loss is_reported is_told) = refl
untold-twice Left = refl

each-twice : {X : Type 0} → (seats : List (Seat X)) → each untold (each untold seats) ≡ each untold seats
each-twice [] = refl
each-twice (seat ∷ seats) = rw (untold-twice seat, each-twice seats) refl

-- what is done to each seat alike
each-untold : {X : Type 0} → (f : Seat X → Seat X) → ((seat : Seat X) → f (untold seat) ≡ untold (f seat))
    → (seats : List (Seat X)) → each f (each untold seats) ≡ each untold (each f seats)
each-untold f same [] = refl
each-untold f same (seat ∷ seats) =
    ap (λ one. one ∷ each f (each untold seats)) (same seat)
    ∙ ap (λ rest. untold (f seat) ∷ rest) (each-untold f same seats)

-- what is asked of each
some-untold : {X : Type 0} → (test : Seat X → Bool) → ((seat : Seat X) → test (untold seat) ≡ test seat)
    → (seats : List (Seat X)) → some test (each untold seats) ≡ some test seats
some-untold test same [] = refl
some-untold test same (seat ∷ seats) =
    ap (λ b. b || some test (each untold seats)) (same seat) ∙ ap (λ b. test seat || b) (some-untold test same seats)

put-in-untold : {X : Type 0} → (i : ℕ) (new : Seat X) (seats : List (Seat X))
    → put_in i (untold new) (each untold seats) ≡ each untold (put_in i new seats)
put-in-untold i new [] = refl
put-in-untold zero new (seat ∷ seats) = refl
put-in-untold (suc i) new (seat ∷ seats) = ap (λ rest. untold seat ∷ rest) (put-in-untold i new seats)

pub put-untold : {X : Type 0} → (s : ℕ) (new : Seat X) (seats : List (Seat X))
    → put s (untold new) (each untold seats) ≡ each untold (put s new seats)
put-untold zero new seats = refl
put-untold (suc i) new seats = put-in-untold i new seats

append-untold : {X : Type 0} → (seats more : List (Seat X))
    → each untold (seats ++ more) ≡ each untold seats ++ each untold more
append-untold [] more = refl
append-untold (seat ∷ seats) more = ap (λ rest. untold seat ∷ rest) (append-untold seats more)

fallen-untold : {X : Type 0} → (seat : Seat X) → fallen (untold seat) ≡ untold (fallen seat)
fallen-untold (Attached x) = refl
fallen-untold (Lost loss is_reported is_told) = refl
fallen-untold Left = refl

listed-untold : {X : Type 0} → (b : Bool) (seat : Seat X)
    → (if b then fallen (untold seat) else untold seat) ≡ untold (if b then fallen seat else seat)
listed-untold true seat = fallen-untold seat
listed-untold false seat = refl

without-untold : {X : Type 0} → (gone : List ℕ) (s : ℕ) (seats : List (Seat X))
    → without_from gone s (each untold seats) ≡ each untold (without_from gone s seats)
without-untold gone s [] = refl
without-untold gone s (seat ∷ seats) =
    ap (λ one. one ∷ without_from gone (s + 1) (each untold seats)) (listed-untold (is_listed gone s) seat)
    ∙ ap (λ rest. untold (if is_listed gone s then fallen seat else seat) ∷ rest) (without-untold gone (s + 1) seats)

pub attached-untold : {X : Type 0} → (seat : Seat X) → is_attached (untold seat) ≡ is_attached seat
attached-untold (Attached x) = refl
attached-untold (Lost loss is_reported is_told) = refl
attached-untold Left = refl

waits-untold : {X : Type 0} → (seat : Seat X) → waits_for_report (untold seat) ≡ waits_for_report seat
waits-untold (Attached x) = refl
waits-untold (Lost loss is_reported is_told) = refl
waits-untold Left = refl

enabled-untold : {C T Q X : Type 0} → (P : Protocol C T Q X) (seat : Seat X)
    → is_enabled_seat P (untold seat) ≡ is_enabled_seat P seat
enabled-untold P (Attached x) = refl
enabled-untold P (Lost loss is_reported is_told) = refl
enabled-untold P Left = refl

waiting-untold : {C T Q X : Type 0} → (P : Protocol C T Q X) (seat : Seat X) → waiting P (untold seat) ≡ waiting P seat
waiting-untold P (Attached x) = refl
waiting-untold P (Lost loss is_reported is_told) = refl
waiting-untold P Left = refl

stops-untold : {C T Q X : Type 0} → (P : Protocol C T Q X) (number moment : ℕ) (t : T) (seat : Seat X)
    → stops_for P number moment t (untold seat) ≡ stops_for P number moment t seat
stops-untold P number moment t (Attached x) = refl
stops-untold P number moment t (Lost loss is_reported is_told) = refl
stops-untold P number moment t Left = refl

reported-untold : {X : Type 0} → (seat : Seat X) → reported (untold seat) ≡ untold (reported seat)
reported-untold (Attached x) = refl
reported-untold (Lost loss is_reported is_told) = refl
reported-untold Left = refl

kept-untold : {X : Type 0} → (b : Bool) (x : X)
    → (if b then Attached x else lost_by Overrun) ≡ untold (if b then Attached x else lost_by Overrun)
kept-untold true x = refl
kept-untold false x = refl

resumed-untold : {C T Q X : Type 0} → (P : Protocol C T Q X) (seat : Seat X)
    → resumed_seat P (untold seat) ≡ untold (resumed_seat P seat)
resumed-untold P (Attached x) = kept-untold (P.fits (P.resumed x)) (P.resumed x)
resumed-untold P (Lost loss is_reported is_told) = refl
resumed-untold P Left = refl

told-untold : {X : Type 0} → (b stops fits : Bool) (x y : X)
    → (if fits then (if stops then (if b then Attached x else lost_by Overrun) else Attached y) else lost_by Overrun)
    ≡ untold
    (if fits then (if stops then (if b then Attached x else lost_by Overrun) else Attached y) else lost_by Overrun)
told-untold true true true x y = refl
told-untold false true true x y = refl
told-untold b false true x y = refl
told-untold b stops false x y = refl

behind-untold : {C T Q X : Type 0} → (P : Protocol C T Q X) (stops : Bool) (number moment : ℕ) (t : T) (seat : Seat X)
    → seat_behind P stops number moment t (untold seat) ≡ untold (seat_behind P stops number moment t seat)
behind-untold P true number moment t (Attached x) =
    told-untold (P.fits (P.stopped number t (P.told moment t x))) true _ (P.stopped number t (P.told moment t x)) x
behind-untold P false number moment t (Attached x) = told-untold true false _ x (P.told moment t x)
behind-untold P stops number moment t (Lost loss is_reported is_told) = refl
behind-untold P stops number moment t Left = refl

-- ---- what is meant

pub twice : {C Q X : Type 0} → (m : Meaning C Q X) → but_told (but_told m) ≡ but_told m
twice m = ap (λ seats. with_seats seats m) (each-twice m.seats)

seat-told : {C T Q X : Type 0} → (P : Protocol C T Q X) (s : ℕ) (new : Seat X) (m : Meaning C Q X)
    → with_seat s (untold new) (but_told m) ≡ but_told (with_seat s new m)
seat-told P s new m = ap (λ seats. with_seats seats m) (put-untold s new m.seats)

resume-at : {C T Q X : Type 0} → (P : Protocol C T Q X) (b : Bool) (m : Meaning C Q X)
    → (if b then record (but_told m) { stop = None; seats = each (resumed_seat P) (each untold m.seats) }
    else but_told m)
    ≡ but_told (if b then record m { stop = None; seats = each (resumed_seat P) m.seats } else m)
resume-at P true m =
    ap (λ seats. record m { stop = None; seats = seats }) (each-untold (resumed_seat P) (resumed-untold P) m.seats)
resume-at P false m = refl

resume-told : {C T Q X : Type 0} → (P : Protocol C T Q X) (m : Meaning C Q X)
    → resume P (but_told m) ≡ but_told (resume P m)
resume-told P m = resume-at P (is_paused m) m

settle-at : {C T Q X : Type 0} → (P : Protocol C T Q X) (b : Bool) (m : Meaning C Q X)
    → (if b then but_told m else resume P (but_told m)) ≡ but_told (if b then m else resume P m)
settle-at P true m = refl
settle-at P false m = resume-told P m

settle-told : {C T Q X : Type 0} → (P : Protocol C T Q X) (m : Meaning C Q X)
    → settle P (but_told m) ≡ but_told (settle P m)
settle-told P m =
    ap (λ (b : Bool). if b then but_told m else resume P (but_told m))
    (some-untold (is_enabled_seat P) (enabled-untold P) m.seats)
    ∙ settle-at P (some (is_enabled_seat P) m.seats) m

asked-told : {C T Q X : Type 0} → (P : Protocol C T Q X) (resumes wakes : Bool) (m : Meaning C Q X)
    → asked P resumes wakes (but_told m) ≡ but_told (asked P resumes wakes m)
asked-told P true wakes m = resume-told P m
asked-told P false true m = settle-told P (record m { phase = woken m.phase })
asked-told P false false m = settle-told P m

-- ---- steps

behind-told : {C T Q X : Type 0} → (P : Protocol C T Q X) (moment : ℕ) (gone : List ℕ) (t : T) (c : C) (stops : Bool)
    (m : Meaning C Q X)
    → behind P moment gone t c stops (but_told m) ≡ but_told (behind P moment gone t c stops m)
behind-told P moment gone t c stops m =
    let f = seat_behind P stops (next_number m.stops) moment t in
    ap (λ seats. with_seats seats (behind P moment gone t c stops m))
    (ap (λ seats. each f seats) (without-untold gone 1 m.seats)
    ∙ each-untold f (behind-untold P stops (next_number m.stops) moment t) (without gone m.seats))

named-told : {C T Q X : Type 0} → (P : Protocol C T Q X) (moment : ℕ) (gone : List ℕ) (c : C) (m : Meaning C Q X)
    → is_named P moment gone c (but_told m) ≡ is_named P moment gone c m
named-told P moment gone c m =
    let test = stops_for P (next_number m.stops) moment (told_at P c m) in
    ap (λ seats. some test seats) (without-untold gone 1 m.seats)
    ∙ some-untold test (stops-untold P (next_number m.stops) moment (told_at P c m)) (without gone m.seats)

step-told : {C T Q X : Type 0} → (P : Protocol C T Q X) (moment : ℕ) (gone : List ℕ) (m : Meaning C Q X)
    → step P moment gone (but_told m) ≡ but_told (step P moment gone m)
step-told P moment gone m =
    ap (λ stops. behind P moment gone (told_at P m.program m) (P.next m.program) stops (but_told m))
    (named-told P moment gone m.program m)
    ∙ behind-told P moment gone (told_at P m.program m) (P.next m.program) (is_named P moment gone m.program m) m

steps-told : {C T Q X : Type 0} → (P : Protocol C T Q X) (moment n : ℕ) (m : Meaning C Q X)
    → after_steps P moment n (but_told m) ≡ but_told (after_steps P moment n m)
steps-told P moment zero m = refl
steps-told P moment (suc n) m =
    ap (λ k. after_steps P moment n k) (step-told P moment [] m) ∙ steps-told P moment n (step P moment [] m)

run-told : {C T Q X : Type 0} → (P : Protocol C T Q X) (moment : ℕ) (gone : List ℕ) (n : ℕ) (m : Meaning C Q X)
    → after_run P moment gone n (but_told m) ≡ but_told (after_run P moment gone n m)
run-told P moment gone zero m = ap (λ seats. with_seats seats m) (without-untold gone 1 m.seats)
run-told P moment gone (suc n) m =
    ap (λ k. step P moment gone k) (steps-told P moment n m) ∙ step-told P moment gone (after_steps P moment n m)

ready-told : {C T Q X : Type 0} → (P : Protocol C T Q X) (m : Meaning C Q X)
    → is_ready P (but_told m) ≡ is_ready P m
ready-told P m =
    ap (λ (b : Bool). not (is_paused m || (waits m.phase || (m.shut || b))) && not (P.is_over m.program))
    (some-untold waits_for_report waits-untold m.seats)

longest-told : {C T Q X : Type 0} → (P : Protocol C T Q X) (moment n : ℕ) (m : Meaning C Q X)
    → longest P moment n (but_told m) ≡ longest P moment n m
longest-told P moment zero m = refl
longest-told P moment (suc n) m =
    ap (λ (b : Bool). if b then longest P moment n (step P moment [] (but_told m)) + 1 else 0) (ready-told P m)
    ∙ ap (λ k. if is_ready P m then longest P moment n k + 1 else 0) (step-told P moment [] m)
    ∙ ap (λ k. if is_ready P m then k + 1 else 0) (longest-told P moment n (step P moment [] m))

-- ---- entries

told-at : {C T Q X : Type 0} → (P : Protocol C T Q X) (fits resumes wakes : Bool) (s : ℕ) (y : X) (m : Meaning C Q X)
    → (if fits then asked P resumes wakes (with_seat s (Attached y) (but_told m))
    else settle P (with_seat s Left (but_told m)))
    ≡ but_told (if fits then asked P resumes wakes (with_seat s (Attached y) m) else settle P (with_seat s Left m))
told-at P true resumes wakes s y m =
    ap (λ k. asked P resumes wakes k) (seat-told P s (Attached y) m)
    ∙ asked-told P resumes wakes (with_seat s (Attached y) m)
told-at P false resumes wakes s y m =
    ap (λ k. settle P k) (seat-told P s Left m) ∙ settle-told P (with_seat s Left m)

tell-told : {C T Q X : Type 0} → (P : Protocol C T Q X) (s : ℕ) (text : List ℕ) (m : Meaning C Q X) (seat : Seat X)
    → tell P s text (but_told m) (untold seat) ≡ but_told (tell P s text m seat)
tell-told P s text m (Attached x) =
    told-at P (P.fits (P.reply m.stop m.program text x)) (P.resumes m.stop m.program text x)
    (P.wakes m.stop m.program text x) s (P.reply m.stop m.program text x) m
tell-told P s text m (Lost loss is_reported is_told) = refl
tell-told P s text m Left = refl

take-told : {C T Q X : Type 0} → (P : Protocol C T Q X) (s : ℕ) (m : Meaning C Q X) (seat : Seat X)
    → take P s (but_told m) (untold seat) ≡ but_told (take P s m seat)
take-told P s m (Attached x) = seat-told P s (Attached (P.emptied x)) m
take-told P s m (Lost loss is_reported is_told) = refl
take-told P s m Left = refl

detach-told : {C T Q X : Type 0} → (P : Protocol C T Q X) (s : ℕ) (m : Meaning C Q X) (seat : Seat X)
    → but_told (detach P s (but_told m) (untold seat)) ≡ but_told (detach P s m seat)
detach-told P s m (Attached x) =
    ap (λ k. but_told (settle P k)) (seat-told P s Left m)
    ∙ ap but_told (settle-told P (with_seat s Left m))
    ∙ twice (settle P (with_seat s Left m))
detach-told P s m (Lost loss is_reported is_told) =
    ap (λ seats. with_seats seats m)
    (sym (put-untold s (Lost loss is_reported true) (each untold m.seats))
    ∙ ap (λ seats. put s (Lost loss is_reported false) seats) (each-twice m.seats)
    ∙ put-untold s (Lost loss is_reported true) m.seats)
detach-told P s m Left = twice m

ran-told : {C T Q X : Type 0} → (P : Protocol C T Q X) (n moment : ℕ) (gone : List ℕ) (m : Meaning C Q X)
    → apply P (but_told m) (Ran n moment gone) ≡ but_told (apply P m (Ran n moment gone))
ran-told P n moment gone m =
    let k = after_run P moment gone n m in
    ap (λ k. settle P (with_seats (each reported k.seats) k)) (run-told P moment gone n m)
    ∙ ap (λ seats. settle P (with_seats seats k)) (each-untold reported reported-untold k.seats)
    ∙ settle-told P (with_seats (each reported k.seats) k)

-- where one seat stands
seat-at : {C Q X : Type 0} → (s : ℕ) (m : Meaning C Q X) → seat_of s (but_told m).seats ≡ untold (seat_of s m.seats)
seat-at s m = each-at untold refl s m.seats

apply-told : {C T Q X : Type 0} → (P : Protocol C T Q X) (m : Meaning C Q X) (entry : Entry)
    → but_told (apply P (but_told m) entry) ≡ but_told (apply P m entry)
apply-told P m Attach =
    let new = Attached (P.fresh (length m.seats + 1)) ∷ [] in
    ap (λ n. but_told (with_seats (each untold m.seats ++ Attached (P.fresh (n + 1)) ∷ []) m))
    (each-length untold m.seats)
    ∙ ap (λ seats. but_told (with_seats seats m)) (sym (append-untold m.seats new))
    ∙ twice (with_seats (m.seats ++ new) m)
apply-told P m (Tell s text) =
    ap (λ seat. but_told (tell P s text (but_told m) seat)) (seat-at s m)
    ∙ ap but_told (tell-told P s text m (seat_of s m.seats))
    ∙ twice (tell P s text m (seat_of s m.seats))
apply-told P m (Take s) =
    ap (λ seat. but_told (take P s (but_told m) seat)) (seat-at s m)
    ∙ ap but_told (take-told P s m (seat_of s m.seats))
    ∙ twice (take P s m (seat_of s m.seats))
apply-told P m (Detach s) =
    ap (λ seat. but_told (detach P s (but_told m) seat)) (seat-at s m) ∙ detach-told P s m (seat_of s m.seats)
apply-told P m (Ran n moment gone) =
    ap but_told (ran-told P n moment gone m) ∙ twice (apply P m (Ran n moment gone))
apply-told P m Shut = twice (record m { shut = true })

-- ---- two that mean the same but for that

pub same-apply : {C T Q X : Type 0} → (P : Protocol C T Q X) (m k : Meaning C Q X) (entry : Entry)
    → but_told m ≡ but_told k → but_told (apply P m entry) ≡ but_told (apply P k entry)
same-apply P m k entry same =
    sym (apply-told P m entry) ∙ ap (λ n. but_told (apply P n entry)) same ∙ apply-told P k entry

pub same-longest : {C T Q X : Type 0} → (P : Protocol C T Q X) (moment n : ℕ) (m k : Meaning C Q X)
    → but_told m ≡ but_told k → longest P moment n m ≡ longest P moment n k
same-longest P moment n m k same =
    sym (longest-told P moment n m) ∙ ap (λ l. longest P moment n l) same ∙ longest-told P moment n k

same-seat : {C Q X : Type 0} → (s : ℕ) (m k : Meaning C Q X) → but_told m ≡ but_told k
    → untold (seat_of s m.seats) ≡ untold (seat_of s k.seats)
same-seat s m k same = sym (seat-at s m) ∙ ap (λ l. seat_of s l.seats) same ∙ seat-at s k

pub same-attached : {C Q X : Type 0} → (s : ℕ) (m k : Meaning C Q X) → but_told m ≡ but_told k
    → is_attached (seat_of s m.seats) ≡ is_attached (seat_of s k.seats)
same-attached s m k same =
    sym (attached-untold (seat_of s m.seats))
    ∙ ap (λ seat. is_attached seat) (same-seat s m k same)
    ∙ attached-untold (seat_of s k.seats)

same-waiting : {C T Q X : Type 0} → (P : Protocol C T Q X) (s : ℕ) (m k : Meaning C Q X) → but_told m ≡ but_told k
    → waiting P (seat_of s m.seats) ≡ waiting P (seat_of s k.seats)
same-waiting P s m k same =
    sym (waiting-untold P (seat_of s m.seats))
    ∙ ap (λ seat. waiting P seat) (same-seat s m k same)
    ∙ waiting-untold P (seat_of s k.seats)

pub same-handed : {C T Q X : Type 0} → (P : Protocol C T Q X) (s : ℕ) (m k : Meaning C Q X) (entry : Entry)
    → but_told m ≡ but_told k → handed_at P s m entry ≡ handed_at P s k entry
same-handed P s m k Attach same = refl
same-handed P s m k (Tell r text) same = refl
same-handed P s m k (Take r) same = ap (λ texts. if r == s then texts else []) (same-waiting P r m k same)
same-handed P s m k (Detach r) same = refl
same-handed P s m k (Ran n moment gone) same = refl
same-handed P s m k Shut same = refl
