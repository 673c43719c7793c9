-- A session whose steps alone stop the program keeps naming them while nobody tells anything.
use Rattle.std.proofs.Common.{◌≡◌, ◌≢◌, ◌<◌, ℕ, zero, suc, ◌+◌, List, [], ◌∷◌, ◌++◌, length, Bool, true, false, eqb, if◌then◌else◌, refl, ap, sym, subst, ◌∙◌, arith}
use Rattle.std.proofs.lemmas.Bool.{eqb-false, eqb-true}
use Rattle.cdp_host_isolation.specs.Seats.{each, fallen, is_attached, is_listed, lost_by, reported, seat_in, seat_of, without}
use Rattle.cdp_host_isolation.specs.Protocols.{Protocol}
use Rattle.cdp_host_isolation.specs.Meanings.{Meaning, after_run, after_steps, is_first, is_named, is_paused, is_ready, next_number, seat_behind, settle, step, survives, told_at, with_seats}
use Rattle.cdp_host_isolation.specs.Histories.{Entry, Attach, Tell, Take, Detach, Ran, Shut, FitsEntry, apply, detach, take, with_seat}
use Rattle.cdp_host_isolation.specs.Names.{IsSteady, NamesAlone}
use Rattle.cdp_host_isolation.specs.Runs.{names_seat}
use Rattle.cdp_host_isolation.specs.declared.seat.Loss.TheVariants.{Overrun}
use Rattle.cdp_host_isolation.specs.declared.seat.Seat.{Seat}
use Rattle.cdp_host_isolation.specs.declared.seat.Seat.TheVariants.{Attached, Lost, Left}
use Rattle.cdp_host_isolation.proofs.AloneLemmas.{ready-goes, step-stops}
use Rattle.cdp_host_isolation.proofs.SeatLemmas.{append-new, append-old, each-at, put-other, put-same, without-at}
use Rattle.cdp_host_laws.specs.Quiet.{IsQuiet}
use Rattle.cdp_host_laws.proofs.RanLemmas.{NamesEnabled, ran-paused, settle-stays}

-- a session that was attached just now names nothing, and one whose texts were handed out names what it named
pub record NamesLittle {C T Q X : Type 0} (P : Protocol C T Q X) : Type 0 where
  pub fresh : (t : T) (s : ℕ) → P.names t (P.fresh s) ≡ false
  pub emptied : (t : T) (x : X) → P.names t (P.emptied x) ≡ P.names t x

-- the session of this number is attached and names just these steps, no other names any, and the program has begun
pub record StopsAlone {C T Q X : Type 0} (P : Protocol C T Q X) (s : ℕ) (N : T → Bool) (m : Meaning C Q X)
    : Type 0 where
  pub begun : is_first m.phase ≡ false
  pub attached : is_attached (seat_of s m.seats) ≡ true
  pub own : (t : T) → names_seat P t (seat_of s m.seats) ≡ N t
  pub others : NamesAlone P s m

-- ---- one seat

-- a seat names no more than it did, and as much where it is still attached
record Thins {C T Q X : Type 0} (P : Protocol C T Q X) (old new : Seat X) : Type 0 where
  quiet : (t : T) → names_seat P t old ≡ false → names_seat P t new ≡ false
  same : is_attached new ≡ true → (t : T) → names_seat P t new ≡ names_seat P t old

stays_thin : {C T Q X : Type 0} → (P : Protocol C T Q X) (seat : Seat X) → Thins P seat seat
stays_thin P seat = record { quiet = λ t off. off; same = λ there t. refl }

equal_thin : {C T Q X : Type 0} → (P : Protocol C T Q X) (old new : Seat X) → new ≡ old → Thins P old new
equal_thin P old new is = subst (λ seat. Thins P old seat) (sym is) (stays_thin P old)

gone_thin : {C T Q X : Type 0} → (P : Protocol C T Q X) (old new : Seat X) → is_attached new ≡ false
    → ((t : T) → names_seat P t new ≡ false)
    → Thins P old new
gone_thin P old new gone off =
    record { quiet = λ t was. off t; same = λ there t. let e : false ≡ true = sym gone ∙ there in absurd cc }

then_thin : {C T Q X : Type 0} → (P : Protocol C T Q X) (old mid new : Seat X) → Thins P old mid → Thins P mid new
    → (is_attached new ≡ true → is_attached mid ≡ true)
    → Thins P old new
then_thin P old mid new first second before = record {
  quiet = λ t off. second.quiet t (first.quiet t off);
  same = λ there t. second.same there t ∙ first.same (before there) t;
}

fallen_thin : {C T Q X : Type 0} → (P : Protocol C T Q X) (listed : Bool) (seat : Seat X)
    → Thins P seat (if listed then fallen seat else seat)
fallen_thin P true (Attached x) = gone_thin P (Attached x) (fallen (Attached x)) refl (λ t. refl)
fallen_thin P true (Lost loss is_reported is_told) = stays_thin P (Lost loss is_reported is_told)
fallen_thin P true Left = stays_thin P Left
fallen_thin P false seat = stays_thin P seat

reported_thin : {C T Q X : Type 0} → (P : Protocol C T Q X) (seat : Seat X) → Thins P seat (reported seat)
reported_thin P (Attached x) = stays_thin P (Attached x)
reported_thin P (Lost loss is_reported is_told) =
    gone_thin P (Lost loss is_reported is_told) (Lost loss true is_told) refl (λ t. refl)
reported_thin P Left = stays_thin P Left

reported_before : {X : Type 0} → (seat : Seat X) → is_attached (reported seat) ≡ true → is_attached seat ≡ true
reported_before (Attached x) there = there
reported_before (Lost loss is_reported is_told) there = there
reported_before Left there = there

told_thin : {C T Q X : Type 0} → (P : Protocol C T Q X) (survived : Bool) (x y : X)
    → ((t : T) → P.names t y ≡ P.names t x)
    → Thins P (Attached x) (if survived then Attached y else lost_by Overrun)
told_thin P true x y same = record { quiet = λ t off. same t ∙ off; same = λ there t. same t }
told_thin P false x y same = gone_thin P (Attached x) (lost_by Overrun) refl (λ t. refl)

behind_thin : {C T Q X : Type 0} → (P : Protocol C T Q X) (number moment : ℕ) (t : T) (seat : Seat X) → IsSteady P
    → Thins P seat (seat_behind P false number moment t seat)
behind_thin P number moment t (Attached x) steady =
    told_thin P (survives P number moment t x) x (P.told moment t x) (λ u. steady moment t u x)
behind_thin P number moment t (Lost loss is_reported is_told) steady = stays_thin P (Lost loss is_reported is_told)
behind_thin P number moment t Left steady = stays_thin P Left

behind_before : {C T Q X : Type 0} → (P : Protocol C T Q X) (number moment : ℕ) (t : T) (seat : Seat X)
    → is_attached (seat_behind P false number moment t seat) ≡ true
    → is_attached seat ≡ true
behind_before P number moment t (Attached x) there = refl
behind_before P number moment t (Lost loss is_reported is_told) there = there
behind_before P number moment t Left there = there

-- ---- steps

-- the seat of each number, where the step doesn't stop the program
record StepThins {C T Q X : Type 0} (P : Protocol C T Q X) (r : ℕ) (m k : Meaning C Q X) : Type 0 where
  thins : Thins P (seat_of r m.seats) (seat_of r k.seats)
  before : is_attached (seat_of r k.seats) ≡ true → is_attached (seat_of r m.seats) ≡ true

fallen_before : {X : Type 0} → (listed : Bool) (seat : Seat X)
    → is_attached (if listed then fallen seat else seat) ≡ true
    → is_attached seat ≡ true
fallen_before true (Attached x) there = refl
fallen_before true (Lost loss is_reported is_told) there = there
fallen_before true Left there = there
fallen_before false seat there = there

without_thins : {C T Q X : Type 0} → (P : Protocol C T Q X) (r : ℕ) (gone : List ℕ) (m : Meaning C Q X)
    → StepThins P r m (with_seats (without gone m.seats) m)
without_thins P r gone m =
    let seat = seat_of r m.seats in
    let is = without-at gone r m.seats in
    record {
      thins = subst (λ new. Thins P seat new) (sym is) (fallen_thin P (is_listed gone r) seat);
      before = λ there. fallen_before (is_listed gone r) seat (sym (ap (λ new. is_attached new) is) ∙ there);
    }

step_thins : {C T Q X : Type 0} → (P : Protocol C T Q X) (moment r : ℕ) (gone : List ℕ) (m : Meaning C Q X) → IsSteady P
    → is_paused (step P moment gone m) ≡ false
    → StepThins P r m (step P moment gone m)
step_thins P moment r gone m steady goes =
    let number = next_number m.stops in
    let t = told_at P m.program m in
    let mid = seat_of r (without gone m.seats) in
    let named : is_named P moment gone m.program m ≡ false = sym (step-stops P moment gone m) ∙ goes in
    let is : seat_of r (step P moment gone m).seats ≡ seat_behind P false number moment t mid
    = each-at (seat_behind P (is_named P moment gone m.program m) number moment t) refl r (without gone m.seats)
    ∙ ap (λ b. seat_behind P b number moment t mid) named in
    let first = without_thins P r gone m in
    let later : is_attached (seat_of r (step P moment gone m).seats) ≡ true → is_attached mid ≡ true
    = λ there. behind_before P number moment t mid (sym (ap (λ new. is_attached new) is) ∙ there) in
    record {
      thins =
          then_thin P (seat_of r m.seats) mid (seat_of r (step P moment gone m).seats) first.thins
          (subst (λ new. Thins P mid new) (sym is) (behind_thin P number moment t mid steady)) later;
      before = λ there. first.before (later there);
    }

both_thin : {C T Q X : Type 0} → (P : Protocol C T Q X) (r : ℕ) (m k l : Meaning C Q X) → StepThins P r m k
    → StepThins P r k l
    → StepThins P r m l
both_thin P r m k l first second = record {
  thins =
      then_thin P (seat_of r m.seats) (seat_of r k.seats) (seat_of r l.seats) first.thins second.thins second.before;
  before = λ there. first.before (second.before there);
}

none_thin : {C T Q X : Type 0} → (P : Protocol C T Q X) (r : ℕ) (m : Meaning C Q X) → StepThins P r m m
none_thin P r m = record { thins = stays_thin P (seat_of r m.seats); before = λ there. there }

steps_thin : {C T Q X : Type 0} → (P : Protocol C T Q X) (j moment r : ℕ) (m : Meaning C Q X) → IsSteady P
    → ((i : ℕ) → i < suc j → is_ready P (after_steps P moment i m) ≡ true)
    → StepThins P r m (after_steps P moment j m)
steps_thin P zero moment r m steady ready = none_thin P r m
steps_thin P (suc j) moment r m steady ready =
    let k = step P moment [] m in
    both_thin P r m k (after_steps P moment j k)
    (step_thins P moment r [] m steady (ready-goes P k (ready (suc zero) (omega arith))))
    (steps_thin P j moment r k steady (λ i below. ready (suc i) (omega (arith, below))))

run_thin : {C T Q X : Type 0} → (P : Protocol C T Q X) (n moment r : ℕ) (gone : List ℕ) (m : Meaning C Q X) → IsSteady P
    → ((i : ℕ) → i < n → is_ready P (after_steps P moment i m) ≡ true)
    → is_paused (after_run P moment gone n m) ≡ false
    → StepThins P r m (after_run P moment gone n m)
run_thin P zero moment r gone m steady ready goes = without_thins P r gone m
run_thin P (suc j) moment r gone m steady ready goes =
    let k = after_steps P moment j m in
    both_thin P r m k (step P moment gone k) (steps_thin P j moment r m steady ready)
    (step_thins P moment r gone k steady goes)

-- ---- entries

alone_after : {C T Q X : Type 0} → (P : Protocol C T Q X) (s : ℕ) (N : T → Bool) (m k : Meaning C Q X)
    → StopsAlone P s N m
    → is_first k.phase ≡ false
    → is_attached (seat_of s k.seats) ≡ true
    → ((r : ℕ) → Thins P (seat_of r m.seats) (seat_of r k.seats))
    → StopsAlone P s N k
alone_after P s N m k alone begun there thin = record {
  begun = begun;
  attached = there;
  own = λ t. (thin s).same there t ∙ alone.own t;
  others = λ t r other. (thin r).quiet t (alone.others t r other);
}

run_first : {C T Q X : Type 0} → (P : Protocol C T Q X) (moment : ℕ) (gone : List ℕ) (n : ℕ) (m : Meaning C Q X)
    → is_first m.phase ≡ false
    → is_first (after_run P moment gone n m).phase ≡ false
run_first P moment gone zero m begun = begun
run_first P moment gone (suc n) m begun = refl

never_paused : {C Q X : Type 0} → (m : Meaning C Q X) (b : Bool) → is_paused m ≡ false → is_paused m ≡ true → b ≡ true
never_paused m b goes paused = let e : false ≡ true = sym goes ∙ paused in absurd cc

run_goes : {C T Q X : Type 0} → (P : Protocol C T Q X) (moment : ℕ) (gone : List ℕ) (n : ℕ) (m : Meaning C Q X)
    → NamesEnabled P
    → is_paused m ≡ false
    → is_paused (apply P m (Ran n moment gone)) ≡ false
    → is_paused (after_run P moment gone n m) ≡ false
run_goes P moment gone zero m names before after = before
run_goes P moment gone (suc j) m names before after =
    sym (ran-paused P moment gone (suc j) j m names (omega arith)) ∙ after

ran_alone : {C T Q X : Type 0}
    → (P : Protocol C T Q X) (s : ℕ) (N : T → Bool) (m : Meaning C Q X) (n moment : ℕ) (gone : List ℕ)
    → IsSteady P
    → NamesEnabled P
    → StopsAlone P s N m
    → FitsEntry P m (Ran n moment gone)
    → is_paused m ≡ false
    → is_paused (apply P m (Ran n moment gone)) ≡ false
    → is_attached (seat_of s (apply P m (Ran n moment gone)).seats) ≡ true
    → StopsAlone P s N (apply P m (Ran n moment gone))
ran_alone P s N m n moment gone steady names alone fits before after there =
    let k = after_run P moment gone n m in
    let l = with_seats (each reported k.seats) k in
    let goes : is_paused k ≡ false = run_goes P moment gone n m names before after in
    let is : apply P m (Ran n moment gone) ≡ l = settle-stays P l (never_paused l _ goes) in
    let thin : (r : ℕ) → Thins P (seat_of r m.seats) (seat_of r l.seats) = λ r.
    let seat = seat_of r k.seats in
    let made = run_thin P n moment r gone m steady fits goes in
    let at_r : seat_of r l.seats ≡ reported seat = each-at reported refl r k.seats in
    then_thin P (seat_of r m.seats) seat (seat_of r l.seats) made.thins
    (subst (λ new. Thins P seat new) (sym at_r) (reported_thin P seat))
    (λ here. reported_before seat (sym (ap (λ new. is_attached new) at_r) ∙ here)) in
    subst (λ o. StopsAlone P s N o) (sym is)
    (alone_after P s N m l alone (run_first P moment gone n m alone.begun)
    (ap (λ o. is_attached (seat_of s o.seats)) (sym is) ∙ there) thin)

-- one seat is another
put_thin : {C T Q X : Type 0} → (P : Protocol C T Q X) (q : ℕ) (new : Seat X) (m : Meaning C Q X) (r : ℕ) (b : Bool)
    → eqb r q ≡ b
    → seat_of q m.seats ≢ Left
    → Thins P (seat_of q m.seats) new
    → Thins P (seat_of r m.seats) (seat_of r (with_seat q new m).seats)
put_thin P q new m r true is there thin =
    let e : r ≡ q = eqb-true r q is in
    subst (λ n. Thins P (seat_of n m.seats) (seat_of n (with_seat q new m).seats)) (sym e)
    (subst (λ seat. Thins P (seat_of q m.seats) seat) (sym (put-same q new m.seats there)) thin)
put_thin P q new m r false is there thin =
    equal_thin P (seat_of r m.seats) (seat_of r (with_seat q new m).seats)
    (put-other q r new m.seats (λ same. eqb-false r q is (sym same)))

put_alone : {C T Q X : Type 0} → (P : Protocol C T Q X) (s q : ℕ) (N : T → Bool) (new : Seat X) (m : Meaning C Q X)
    → StopsAlone P s N m
    → seat_of q m.seats ≢ Left
    → Thins P (seat_of q m.seats) new
    → is_attached (seat_of s (with_seat q new m).seats) ≡ true
    → StopsAlone P s N (with_seat q new m)
put_alone P s q N new m alone there thin still =
    alone_after P s N m (with_seat q new m) alone alone.begun still
    (λ r. put_thin P q new m r (eqb r q) refl there thin)

take_alone : {C T Q X : Type 0} → (P : Protocol C T Q X) (s q : ℕ) (N : T → Bool) (m : Meaning C Q X) (seat : Seat X)
    → NamesLittle P
    → StopsAlone P s N m
    → seat_of q m.seats ≡ seat
    → is_attached (seat_of s (take P q m seat).seats) ≡ true
    → StopsAlone P s N (take P q m seat)
take_alone P s q N m (Attached x) little alone is still =
    put_alone P s q N (Attached (P.emptied x)) m alone
    (λ none. let e : Attached x ≡ Left = sym is ∙ none in absurd cc)
    (subst (λ old. Thins P old (Attached (P.emptied x))) (sym is)
    (record { quiet = λ t off. little.emptied t x ∙ off; same = λ there t. little.emptied t x })) still
take_alone P s q N m (Lost loss is_reported is_told) little alone is still = alone
take_alone P s q N m Left little alone is still = alone

detach_alone : {C T Q X : Type 0} → (P : Protocol C T Q X) (s q : ℕ) (N : T → Bool) (m : Meaning C Q X) (seat : Seat X)
    → StopsAlone P s N m
    → seat_of q m.seats ≡ seat
    → is_paused m ≡ false
    → is_attached (seat_of s (detach P q m seat).seats) ≡ true
    → StopsAlone P s N (detach P q m seat)
detach_alone P s q N m (Attached x) alone is goes still =
    let w = with_seat q Left m in
    let same : settle P w ≡ w = settle-stays P w (never_paused w _ goes) in
    subst (λ o. StopsAlone P s N o) (sym same)
    (put_alone P s q N Left m alone (λ none. let e : Attached x ≡ Left = sym is ∙ none in absurd cc)
    (gone_thin P (seat_of q m.seats) Left refl (λ t. refl))
    (ap (λ o. is_attached (seat_of s o.seats)) (sym same) ∙ still))
detach_alone P s q N m (Lost loss is_reported is_told) alone is goes still =
    put_alone P s q N (Lost loss is_reported true) m alone
    (λ none. let e : Lost loss is_reported is_told ≡ Left = sym is ∙ none in absurd cc)
    (gone_thin P (seat_of q m.seats) (Lost loss is_reported true) refl (λ t. refl)) still
detach_alone P s q N m Left alone is goes still = alone

past_in : {X : Type 0} → (seats : List (Seat X)) → seat_in (length seats) seats ≡ Left
past_in [] = refl
past_in (seat ∷ seats) = past_in seats

-- behind the last seat is nobody's
past : {X : Type 0} → (seats : List (Seat X)) → seat_of (length seats + 1) seats ≡ Left
past seats = let e : length seats + 1 ≡ suc (length seats) = omega arith in rw e (past_in seats)

new_thin : {C T Q X : Type 0} → (P : Protocol C T Q X) (m : Meaning C Q X) (r : ℕ) (b : Bool)
    → NamesLittle P
    → eqb (length m.seats + 1) r ≡ b
    → (let k = record m { seats = m.seats ++ Attached (P.fresh (length m.seats + 1)) ∷ [] } in
    (t : T) → names_seat P t (seat_of r m.seats) ≡ false → names_seat P t (seat_of r k.seats) ≡ false)
new_thin P m r true little is t off =
    let e : length m.seats + 1 ≡ r = eqb-true (length m.seats + 1) r is in
    let seat = Attached (P.fresh (length m.seats + 1)) in
    ap (λ n. names_seat P t (seat_of n (m.seats ++ seat ∷ []))) (sym e)
    ∙ ap (λ w. names_seat P t w) (append-new seat m.seats)
    ∙ little.fresh t (length m.seats + 1)
new_thin P m r false little is t off =
    let seat = Attached (P.fresh (length m.seats + 1)) in
    ap (λ w. names_seat P t w) (append-old r seat m.seats (eqb-false (length m.seats + 1) r is)) ∙ off

attach_alone : {C T Q X : Type 0} → (P : Protocol C T Q X) (s : ℕ) (N : T → Bool) (m : Meaning C Q X)
    → NamesLittle P
    → StopsAlone P s N m
    → StopsAlone P s N (apply P m Attach)
attach_alone P s N m little alone =
    let seat = Attached (P.fresh (length m.seats + 1)) in
    let other : length m.seats + 1 ≢ s = λ same.
    let e : false ≡ true = ap (λ w. is_attached w) (sym (past m.seats)) ∙ ap (λ n. is_attached (seat_of n m.seats)) same
    ∙ alone.attached in
    absurd cc in
    let own : seat_of s (m.seats ++ seat ∷ []) ≡ seat_of s m.seats = append-old s seat m.seats other in
    record {
      begun = alone.begun;
      attached = ap (λ w. is_attached w) own ∙ alone.attached;
      own = λ t. ap (λ w. names_seat P t w) own ∙ alone.own t;
      others = λ t r others_.
          new_thin P m r (eqb (length m.seats + 1) r) little refl t (alone.others t r others_);
    }

-- it does so after an entry in which nobody tells anything, while the program isn't paused and the session attached
pub alone-along : {C T Q X : Type 0}
    → (P : Protocol C T Q X) (s : ℕ) (N : T → Bool) (m : Meaning C Q X) (entry : Entry)
    → IsSteady P
    → NamesEnabled P
    → NamesLittle P
    → StopsAlone P s N m
    → IsQuiet entry
    → FitsEntry P m entry
    → is_paused m ≡ false
    → is_paused (apply P m entry) ≡ false
    → is_attached (seat_of s (apply P m entry).seats) ≡ true
    → StopsAlone P s N (apply P m entry)
alone-along P s N m Attach steady names little alone quiet fits before after there = attach_alone P s N m little alone
alone-along P s N m (Tell r text) steady names little alone quiet fits before after there = absurd quiet
alone-along P s N m (Take r) steady names little alone quiet fits before after there =
    take_alone P s r N m (seat_of r m.seats) little alone refl there
alone-along P s N m (Detach r) steady names little alone quiet fits before after there =
    detach_alone P s r N m (seat_of r m.seats) alone refl before there
alone-along P s N m (Ran n moment gone) steady names little alone quiet fits before after there =
    ran_alone P s N m n moment gone steady names alone fits before after there
alone-along P s N m Shut steady names little alone quiet fits before after there =
    record { begun = alone.begun; attached = alone.attached; own = alone.own; others = alone.others }
