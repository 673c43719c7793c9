-- Hosts that stand for histories: they stand for what an entry, a detach and a run make of these too.
use Rattle.std.proofs.Common.{◌≡◌, ℕ, zero, suc, ◌+◌, List, [], ◌∷◌, ◌++◌, length, Bool, true, false, fold, if◌then◌else◌, None, refl, ap, sym, subst, ◌∙◌, arith}
use Rattle.std.proofs.lemmas.Bool.{or_parts}
use Rattle.cdp_host_isolation.specs.Seats.{each, fallen, is_attached, put, put_in, reported, seat_in, seat_of, some, without}
use Rattle.cdp_host_isolation.specs.Protocols.{Protocol}
use Rattle.cdp_host_isolation.specs.Meanings.{Meaning, after_run, after_steps, begin, is_enabled_seat, is_paused, is_ready, resume, resumed_seat, settle, with_seats, woken}
use Rattle.cdp_host_isolation.specs.Histories.{Entry, Attach, Tell, Take, Detach, Ran, Shut, FitsEntry, apply, asked, detach, take, tell, whole, with_seat}
use Rattle.cdp_host_isolation.specs.Standing.{IsHeld, LeavesAs, StandsAs, fallen_in, fell, less}
use Rattle.cdp_host_isolation.specs.Runs.{HasMade, mid, mids}
use Rattle.cdp_host_isolation.specs.declared.seat.Loss.{Loss}
use Rattle.cdp_host_isolation.specs.declared.seat.Loss.TheVariants.{Overrun, Memory}
use Rattle.cdp_host_isolation.specs.declared.seat.Seat.{Seat}
use Rattle.cdp_host_isolation.specs.declared.seat.Seat.TheVariants.{Attached, Lost, Left}
use Rattle.cdp_host_isolation.proofs.FallenLemmas.{fallen-none, fallen-twice, fell-at, fell-put, less-self, mid-self, mids-less, none-fallen, without-none}
use Rattle.cdp_host_isolation.proofs.StepLemmas.{ready-none}

-- ---- seats, some of which fell

head-same : {X : Type 0} → (x y : Seat X) (xs ys : List (Seat X)) → x ∷ xs ≡ y ∷ ys → x ≡ y
head-same x y xs ys same = cc

tail-same : {X : Type 0} → (x y : Seat X) (xs ys : List (Seat X)) → x ∷ xs ≡ y ∷ ys → xs ≡ ys
tail-same x y xs ys same = cc

both-same : {X : Type 0} → (x y : Seat X) (xs ys : List (Seat X)) → x ≡ y → xs ≡ ys → x ∷ xs ≡ y ∷ ys
both-same x y xs ys first rest = ap (λ z. z ∷ xs) first ∙ ap (λ zs. y ∷ zs) rest

mid-twice-by : {X : Type 0} → (x y z : Seat X) (b d : Bool) → fell x ≡ b → fell y ≡ d → x ≡ (if b then fallen y else y)
    → y ≡ (if d then fallen z else z) → x ≡ (if b then fallen z else z)
mid-twice-by x y z true true one other first second = first ∙ ap (λ seat. fallen seat) second ∙ fallen-twice z
mid-twice-by x y z true false one other first second = first ∙ ap (λ seat. fallen seat) second
mid-twice-by x y z false true one other first second =
    let same : false ≡ true = sym one ∙ ap (λ seat. fell seat) first ∙ other in absurd cc
mid-twice-by x y z false false one other first second = first ∙ second

mid-twice : {X : Type 0} → (x y z : Seat X) → x ≡ mid y x → y ≡ mid z y → x ≡ mid z x
mid-twice x y z first second = mid-twice-by x y z (fell x) (fell y) refl refl first second

-- what fell in two turns
mids-twice : {X : Type 0} → (xs ys zs : List (Seat X)) → xs ≡ mids ys xs → ys ≡ mids zs ys → xs ≡ mids zs xs
mids-twice [] [] zs first second = second
mids-twice [] (y ∷ ys) zs first second = absurd cc
mids-twice (x ∷ xs) [] zs first second = absurd cc
mids-twice (x ∷ xs) (y ∷ ys) [] first second = absurd cc
mids-twice (x ∷ xs) (y ∷ ys) (z ∷ zs) first second =
    both-same x (mid z x) xs (mids zs xs)
    (mid-twice x y z (head-same x (mid y x) xs (mids ys xs) first) (head-same y (mid z y) ys (mids zs ys) second))
    (mids-twice xs ys zs (tail-same x (mid y x) xs (mids ys xs) first) (tail-same y (mid z y) ys (mids zs ys) second))

mids-length : {X : Type 0} → (olds news : List (Seat X)) → news ≡ mids olds news → length news ≡ length olds
mids-length [] [] same = refl
mids-length [] (new ∷ news) same = absurd cc
mids-length (old ∷ olds) [] same = absurd cc
mids-length (old ∷ olds) (new ∷ news) same =
    ap (λ n. suc n) (mids-length olds news (tail-same new (mid old new) news (mids olds news) same))

mids-in : {X : Type 0} → (i : ℕ) (olds news : List (Seat X)) → news ≡ mids olds news
    → seat_in i news ≡ mid (seat_in i olds) (seat_in i news)
mids-in i [] [] same = refl
mids-in i [] (new ∷ news) same = absurd cc
mids-in i (old ∷ olds) [] same = absurd cc
mids-in zero (old ∷ olds) (new ∷ news) same = head-same new (mid old new) news (mids olds news) same
mids-in (suc i) (old ∷ olds) (new ∷ news) same =
    mids-in i olds news (tail-same new (mid old new) news (mids olds news) same)

mids-at : {X : Type 0}
    → (s : ℕ) (olds news : List (Seat X))
    → news ≡ mids olds news
    → seat_of s news ≡ mid (seat_of s olds) (seat_of s news)
mids-at zero olds news same = refl
mids-at (suc i) olds news same = mids-in i olds news same

-- one that didn't fall is the same
still-at : {X : Type 0} → (s : ℕ) (olds news : List (Seat X)) → news ≡ mids olds news → fell (seat_of s news) ≡ false
    → seat_of s olds ≡ seat_of s news
still-at s olds news same stands =
    sym (mids-at s olds news same ∙ ap (λ b. if b then fallen (seat_of s olds) else seat_of s olds) stands)

mids-put-in : {X : Type 0} → (i : ℕ) (seat : Seat X) (olds news : List (Seat X)) → news ≡ mids olds news
    → put_in i seat news ≡ mids (put_in i seat olds) (put_in i seat news)
mids-put-in i seat [] [] same = refl
mids-put-in i seat [] (new ∷ news) same = absurd cc
mids-put-in i seat (old ∷ olds) [] same = absurd cc
mids-put-in zero seat (old ∷ olds) (new ∷ news) same =
    both-same seat (mid seat seat) news (mids olds news) (sym (mid-self seat))
    (tail-same new (mid old new) news (mids olds news) same)
mids-put-in (suc i) seat (old ∷ olds) (new ∷ news) same =
    both-same new (mid old new) (put_in i seat news) (mids (put_in i seat olds) (put_in i seat news))
    (head-same new (mid old new) news (mids olds news) same)
    (mids-put-in i seat olds news (tail-same new (mid old new) news (mids olds news) same))

mids-put : {X : Type 0} → (s : ℕ) (seat : Seat X) (olds news : List (Seat X)) → news ≡ mids olds news
    → put s seat news ≡ mids (put s seat olds) (put s seat news)
mids-put zero seat olds news same = same
mids-put (suc i) seat olds news same = mids-put-in i seat olds news same

mids-append : {X : Type 0} → (seat : Seat X) (olds news : List (Seat X)) → news ≡ mids olds news
    → news ++ seat ∷ [] ≡ mids (olds ++ seat ∷ []) (news ++ seat ∷ [])
mids-append seat [] [] same = ap (λ only. only ∷ []) (sym (mid-self seat))
mids-append seat [] (new ∷ news) same = absurd cc
mids-append seat (old ∷ olds) [] same = absurd cc
mids-append seat (old ∷ olds) (new ∷ news) same =
    both-same new (mid old new) (news ++ seat ∷ []) (mids (olds ++ seat ∷ []) (news ++ seat ∷ []))
    (head-same new (mid old new) news (mids olds news) same)
    (mids-append seat olds news (tail-same new (mid old new) news (mids olds news) same))

-- ---- hosts, in which some fell

-- the one is the other, but for sessions that fell in it
record Sinks {C Q X : Type 0} (host m : Meaning C Q X) : Type 0 where
  pub rest : host ≡ with_seats host.seats m
  pub sunk : host.seats ≡ mids m.seats host.seats

less-sinks : {C Q X : Type 0} → (host m : Meaning C Q X) → host ≡ less host.seats m → Sinks host m
less-sinks host m is =
    let same : host.seats ≡ without (fallen_in host.seats) m.seats = ap (λ k. k.seats) is in
    record { rest = is ∙ ap (λ seats. with_seats seats m) (sym same); sunk = same ∙ sym (mids-less m.seats host.seats) }

sinks-less : {C Q X : Type 0} → (host m : Meaning C Q X) → Sinks host m → host ≡ less host.seats m
sinks-less host m sinks = sinks.rest ∙ ap (λ seats. with_seats seats m) (sinks.sunk ∙ mids-less m.seats host.seats)

sinks-twice : {C Q X : Type 0} → (a b c : Meaning C Q X) → Sinks a b → Sinks b c → Sinks a c
sinks-twice a b c first second = record {
  rest = first.rest ∙ ap (λ k. with_seats a.seats k) second.rest;
  sunk = mids-twice a.seats b.seats c.seats first.sunk second.sunk;
}

sinks-as : {C Q X : Type 0} → (a a1 b b1 : Meaning C Q X) → a1 ≡ a → b1 ≡ b → Sinks a b → Sinks a1 b1
sinks-as a a1 b b1 left right sinks = rw left (rw right sinks)

paused-same : {C Q X : Type 0} → (host m : Meaning C Q X) → Sinks host m → is_paused host ≡ is_paused m
paused-same host m sinks = ap (λ k. is_paused k) sinks.rest

-- where none fell, the two are one
same-host : {C Q X : Type 0}
    → (host m : Meaning C Q X)
    → host ≡ less host.seats m
    → fallen_in host.seats ≡ []
    → host ≡ m
same-host host m is none =
    is
    ∙ ap (λ numbers. with_seats (without numbers m.seats) m) none
    ∙ ap (λ seats. with_seats seats m) (without-none m.seats)

-- ---- what goes on doesn't resume

resume-same : {C T Q X : Type 0} → (P : Protocol C T Q X) (m : Meaning C Q X) → is_paused m ≡ false → resume P m ≡ m
resume-same P m goes = rw goes refl

settle-same-by : {C T Q X : Type 0} → (P : Protocol C T Q X) (m : Meaning C Q X) (b : Bool) → is_paused m ≡ false
    → (if b then m else resume P m) ≡ m
settle-same-by P m true goes = refl
settle-same-by P m false goes = resume-same P m goes

settle-same : {C T Q X : Type 0} → (P : Protocol C T Q X) (m : Meaning C Q X) → is_paused m ≡ false → settle P m ≡ m
settle-same P m goes = settle-same-by P m (some (is_enabled_seat P) m.seats) goes

-- ---- an entry

put-sinks : {C Q X : Type 0}
    → (s : ℕ) (seat : Seat X) (m : Meaning C Q X) (news : List (Seat X))
    → news ≡ mids m.seats news
    → Sinks (with_seat s seat (with_seats news m)) (with_seat s seat m)
put-sinks s seat m news same = record { rest = refl; sunk = mids-put s seat m.seats news same }

-- what goes on settles as it is
settle-sinks : {C T Q X : Type 0} → (P : Protocol C T Q X) (host m : Meaning C Q X) → is_paused m ≡ false → Sinks host m
    → Sinks (settle P host) (settle P m)
settle-sinks P host m goes sinks =
    sinks-as host (settle P host) m (settle P m) (settle-same P host (paused-same host m sinks ∙ goes))
    (settle-same P m goes) sinks

-- a program that waited begins
abbrev begun : {C Q X : Type 0} → Meaning C Q X → Meaning C Q X
begun m = record m { phase = woken m.phase }

asked-sinks : {C T Q X : Type 0}
    → (P : Protocol C T Q X) (host m : Meaning C Q X) (resumes wakes : Bool)
    → is_paused m ≡ false
    → Sinks host m → Sinks (asked P resumes wakes host) (asked P resumes wakes m)
asked-sinks P host m true wakes goes sinks =
    sinks-as host (resume P host) m (resume P m) (resume-same P host (paused-same host m sinks ∙ goes))
    (resume-same P m goes) sinks
asked-sinks P host m false true goes sinks =
    settle-sinks P (begun host) (begun m) goes (record { rest = ap (λ k. begun k) sinks.rest; sunk = sinks.sunk })
asked-sinks P host m false false goes sinks = settle-sinks P host m goes sinks

told-sinks : {C T Q X : Type 0}
    → (P : Protocol C T Q X) (s : ℕ) (m : Meaning C Q X) (news : List (Seat X)) (y : X) (resumes wakes b : Bool)
    → is_paused m ≡ false → news ≡ mids m.seats news
    → Sinks (if b then asked P resumes wakes (with_seat s (Attached y) (with_seats news m)) else settle P
    (with_seat s Left (with_seats news m)))
    (if b then asked P resumes wakes (with_seat s (Attached y) m) else settle P (with_seat s Left m))
told-sinks P s m news y resumes wakes true goes same =
    asked-sinks P (with_seat s (Attached y) (with_seats news m)) (with_seat s (Attached y) m) resumes wakes goes
    (put-sinks s (Attached y) m news same)
told-sinks P s m news y resumes wakes false goes same =
    settle-sinks P (with_seat s Left (with_seats news m)) (with_seat s Left m) goes (put-sinks s Left m news same)

tell-sinks : {C T Q X : Type 0}
    → (P : Protocol C T Q X) (s : ℕ) (text : List ℕ) (m : Meaning C Q X) (news : List (Seat X)) (seat : Seat X)
    → is_paused m ≡ false
    → news ≡ mids m.seats news
    → Sinks (tell P s text (with_seats news m) seat) (tell P s text m seat)
tell-sinks P s text m news (Attached x) goes same =
    let y = P.reply m.stop m.program text x in
    told-sinks P s m news y (P.resumes m.stop m.program text x) (P.wakes m.stop m.program text x) (P.fits y) goes same
tell-sinks P s text m news (Lost loss is_reported is_told) goes same = record { rest = refl; sunk = same }
tell-sinks P s text m news Left goes same = record { rest = refl; sunk = same }

take-sinks : {C T Q X : Type 0}
    → (P : Protocol C T Q X) (s : ℕ) (m : Meaning C Q X) (news : List (Seat X)) (seat : Seat X)
    → news ≡ mids m.seats news → Sinks (take P s (with_seats news m) seat) (take P s m seat)
take-sinks P s m news (Attached x) same = put-sinks s (Attached (P.emptied x)) m news same
take-sinks P s m news (Lost loss is_reported is_told) same = record { rest = refl; sunk = same }
take-sinks P s m news Left same = record { rest = refl; sunk = same }

detach-sinks : {C T Q X : Type 0}
    → (P : Protocol C T Q X) (s : ℕ) (m : Meaning C Q X) (news : List (Seat X)) (seat : Seat X)
    → is_paused m ≡ false → news ≡ mids m.seats news → Sinks (detach P s (with_seats news m) seat) (detach P s m seat)
detach-sinks P s m news (Attached x) goes same =
    settle-sinks P (with_seat s Left (with_seats news m)) (with_seat s Left m) goes (put-sinks s Left m news same)
detach-sinks P s m news (Lost loss is_reported is_told) goes same = put-sinks s (Lost loss is_reported true) m news same
detach-sinks P s m news Left goes same = record { rest = refl; sunk = same }

attach-sinks : {C T Q X : Type 0}
    → (P : Protocol C T Q X) (m : Meaning C Q X) (news : List (Seat X))
    → news ≡ mids m.seats news
    → Sinks (apply P (with_seats news m) Attach) (apply P m Attach)
attach-sinks P m news same = record {
  rest = refl;
  sunk = rw (mids-length m.seats news same) (mids-append (Attached (P.fresh (length m.seats + 1))) m.seats news same);
}

attached-stands : {X : Type 0} → (seat : Seat X) → is_attached seat ≡ true → fell seat ≡ false
attached-stands (Attached x) is = refl
attached-stands (Lost loss is_reported is_told) is = absurd cc
attached-stands Left is = refl

held-at : {X : Type 0}
    → (s : ℕ) (olds news : List (Seat X))
    → news ≡ mids olds news
    → is_attached (seat_of s news) ≡ true
    → seat_of s olds ≡ seat_of s news
held-at s olds news same attached = still-at s olds news same (attached-stands (seat_of s news) attached)

entry-sinks : {C T Q X : Type 0} → (P : Protocol C T Q X) (m : Meaning C Q X) (news : List (Seat X)) (entry : Entry)
    → is_paused m ≡ false → news ≡ mids m.seats news → IsHeld (with_seats news m) entry
    → Sinks (apply P (with_seats news m) entry) (apply P m entry)
entry-sinks P m news Attach goes same held = attach-sinks P m news same
entry-sinks P m news (Tell s text) goes same held =
    rw (held-at s m.seats news same held) (tell-sinks P s text m news (seat_of s news) goes same)
entry-sinks P m news (Take s) goes same held =
    rw (held-at s m.seats news same held) (take-sinks P s m news (seat_of s news) same)
entry-sinks P m news (Detach s) goes same held =
    rw (held-at s m.seats news same held) (detach-sinks P s m news (seat_of s news) goes same)
entry-sinks P m news (Ran n moment gone) goes same held = absurd held
entry-sinks P m news Shut goes same held = record { rest = refl; sunk = same }

more-by : {C T Q X : Type 0}
    → (P : Protocol C T Q X) (host m : Meaning C Q X) (entry : Entry) (new : Meaning C Q X) (b : Bool)
    → is_paused host ≡ b
    → StandsAs host m
    → IsHeld host entry
    → LeavesAs P host entry new
    → new ≡ less new.seats (apply P m entry)
more-by P host m entry new true paused stands held leaves =
    leaves.is ∙ ap (λ k. less new.seats (apply P k entry)) (same-host host m stands.is (stands.all_there paused))
more-by P host m entry new false goes stands held leaves =
    let sinks = less-sinks host m stands.is in
    let going : is_paused m ≡ false = sym (paused-same host m sinks) ∙ goes in
    let after = entry-sinks P m host.seats entry going sinks.sunk (subst (λ k. IsHeld k entry) sinks.rest held) in
    sinks-less new (apply P m entry)
    (sinks-twice new (apply P host entry) (apply P m entry) (less-sinks new (apply P host entry) leaves.is)
    (sinks-as (apply P (with_seats host.seats m) entry) (apply P host entry) (apply P m entry) (apply P m entry)
    (ap (λ k. apply P k entry) sinks.rest) refl after))

-- behind an entry of a session that is attached there, and of nobody's
pub stands-more : {C T Q X : Type 0}
    → (P : Protocol C T Q X) (host m : Meaning C Q X) (entry : Entry) (new : Meaning C Q X)
    → StandsAs host m → IsHeld host entry → LeavesAs P host entry new → StandsAs new (apply P m entry)
stands-more P host m entry new stands held leaves =
    record { is = more-by P host m entry new (is_paused host) refl stands held leaves; all_there = leaves.all_there }

-- ---- a detach of a session that isn't attached there

-- what one that fell shows of a host: it goes on
fell-goes : {C Q X : Type 0} → (s : ℕ) (host : Meaning C Q X) (b : Bool) → is_paused host ≡ b
    → (is_paused host ≡ true → fallen_in host.seats ≡ []) → fell (seat_of s host.seats) ≡ true → is_paused host ≡ false
fell-goes s host true paused there fallen_there =
    let same : true ≡ false = sym fallen_there ∙ fell-at s host.seats (none-fallen host.seats (there paused)) in
    absurd cc
fell-goes s host false goes there fallen_there = goes

-- a session that another host holds as attached
left-sinks : {C T Q X : Type 0}
    → (P : Protocol C T Q X) (s : ℕ) (m : Meaning C Q X) (news : List (Seat X)) (seat : Seat X)
    → is_paused m ≡ false
    → news ≡ mids m.seats news
    → is_attached seat ≡ true
    → Sinks (with_seat s Left (with_seats news m)) (detach P s m seat)
left-sinks P s m news (Attached x) goes same attached =
    sinks-as (with_seat s Left (with_seats news m)) (with_seat s Left (with_seats news m)) (with_seat s Left m)
    (settle P (with_seat s Left m))
    refl (settle-same P (with_seat s Left m) goes) (put-sinks s Left m news same)
left-sinks P s m news (Lost loss is_reported is_told) goes same attached = absurd cc
left-sinks P s m news Left goes same attached = absurd cc

-- one that fell here, and is attached in what the host stands for
pub stands-detach-fallen : {C T Q X : Type 0} → (P : Protocol C T Q X) (host m : Meaning C Q X) (s : ℕ) (is_told : Bool)
    → StandsAs host m → seat_of s host.seats ≡ Lost Memory false is_told → is_attached (seat_of s m.seats) ≡ true
    → StandsAs (with_seat s Left host) (apply P m (Detach s))
stands-detach-fallen P host m s is_told stands at attached =
    let sinks = less-sinks host m stands.is in
    let goes : is_paused host ≡ false = fell-goes s host (is_paused host) refl stands.all_there
    (ap (λ seat. fell seat) at) in
    let going : is_paused m ≡ false = sym (paused-same host m sinks) ∙ goes in
    record {
      is = sinks-less (with_seat s Left host) (apply P m (Detach s))
          (sinks-as (with_seat s Left (with_seats host.seats m)) (with_seat s Left host) (apply P m (Detach s))
          (apply P m (Detach s))
          (ap (λ k. with_seat s Left k) sinks.rest) refl
          (left-sinks P s m host.seats (seat_of s m.seats) going sinks.sunk attached));
      all_there = λ paused. let same : false ≡ true = sym goes ∙ paused in absurd cc;
    }

-- a seat in a host that stands and in what it stands for, with another that didn't fall
put-stands : {C Q X : Type 0} → (host m : Meaning C Q X) (s : ℕ) (seat : Seat X) → StandsAs host m → fell seat ≡ false
    → StandsAs (with_seat s seat host) (with_seat s seat m)
put-stands host m s seat stands stays =
    let sinks = less-sinks host m stands.is in
    record {
      is = sinks-less (with_seat s seat host) (with_seat s seat m)
          (sinks-as (with_seat s seat (with_seats host.seats m)) (with_seat s seat host) (with_seat s seat m)
          (with_seat s seat m)
          (ap (λ k. with_seat s seat k) sinks.rest) refl (put-sinks s seat m host.seats sinks.sunk));
      all_there = λ paused.
          fallen-none (put s seat host.seats)
          (fell-put s seat host.seats stays (none-fallen host.seats (stands.all_there paused)));
    }

told-fell : (X : Type 0) → (loss : Loss) (is_reported is_told : Bool)
    → fell {X = X} (Lost loss is_reported true) ≡ fell {X = X} (Lost loss is_reported is_told)
told-fell X Overrun is_reported is_told = refl
told-fell X Memory true is_told = refl
told-fell X Memory false is_told = refl

-- a seat that didn't fall here is the same there
stands-at : {C Q X : Type 0} → (host m : Meaning C Q X) (s : ℕ) → StandsAs host m → fell (seat_of s host.seats) ≡ false
    → seat_of s m.seats ≡ seat_of s host.seats
stands-at host m s stands stays = still-at s m.seats host.seats (less-sinks host m stands.is).sunk stays

-- one that was lost, for another cause or before a run that told of it
pub stands-detach-lost : {C T Q X : Type 0}
    → (P : Protocol C T Q X) (host m : Meaning C Q X) (s : ℕ) (loss : Loss) (is_reported is_told : Bool)
    → StandsAs host m
    → seat_of s host.seats ≡ Lost loss is_reported is_told
    → fell {X = X} (Lost loss is_reported is_told) ≡ false
    → StandsAs (with_seat s (Lost loss is_reported true) host) (apply P m (Detach s))
stands-detach-lost {C} {T} {Q} {X} P host m s loss is_reported is_told stands at stays =
    let there : seat_of s m.seats ≡ Lost loss is_reported is_told
    = stands-at host m s stands (ap (λ seat. fell seat) at ∙ stays) ∙ at in
    rw there (put-stands host m s (Lost loss is_reported true) stands (told-fell X loss is_reported is_told ∙ stays))

-- one that left
pub stands-detach-left : {C T Q X : Type 0} → (P : Protocol C T Q X) (host m : Meaning C Q X) (s : ℕ)
    → StandsAs host m → seat_of s host.seats ≡ Left → StandsAs host (apply P m (Detach s))
stands-detach-left P host m s stands at =
    let there : seat_of s m.seats ≡ Left = stands-at host m s stands (ap (λ seat. fell seat) at) ∙ at in
    rw there stands

-- ---- behind a report none fell

fell-reported : {X : Type 0} → (seat : Seat X) → fell (reported seat) ≡ false
fell-reported (Attached x) = refl
fell-reported (Lost Overrun is_reported is_told) = refl
fell-reported (Lost Memory is_reported is_told) = refl
fell-reported Left = refl

-- behind a report no seat is that of a session that fell
pub none-reported : {X : Type 0} → (seats : List (Seat X)) → some fell (each reported seats) ≡ false
none-reported [] = refl
none-reported (seat ∷ seats) = rw (fell-reported seat) (none-reported seats)

fell-kept : {C T Q X : Type 0}
    → (P : Protocol C T Q X) (x : X) (b : Bool)
    → fell (if b then Attached x else Lost Overrun false false) ≡ false
fell-kept P x true = refl
fell-kept P x false = refl

fell-resumed : {C T Q X : Type 0}
    → (P : Protocol C T Q X) (seat : Seat X)
    → fell seat ≡ false
    → fell (resumed_seat P seat) ≡ false
fell-resumed P (Attached x) stays = fell-kept P (P.resumed x) (P.fits (P.resumed x))
fell-resumed P (Lost loss is_reported is_told) stays = stays
fell-resumed P Left stays = refl

-- nor behind a resume, where none was
pub none-resumed : {C T Q X : Type 0} → (P : Protocol C T Q X) (seats : List (Seat X)) → some fell seats ≡ false
    → some fell (each (resumed_seat P) seats) ≡ false
none-resumed P [] none = refl
none-resumed P (seat ∷ seats) none =
    let parts = or_parts (fell seat) (some fell seats) none in
    rw (fell-resumed P seat parts.0) (none-resumed P seats parts.1)

none-resume-by : {C T Q X : Type 0} → (P : Protocol C T Q X) (m : Meaning C Q X) (b : Bool) → some fell m.seats ≡ false
    → some fell (if b then record m { stop = None; seats = each (resumed_seat P) m.seats } else m).seats ≡ false
none-resume-by P m true none = none-resumed P m.seats none
none-resume-by P m false none = none

none-resume : {C T Q X : Type 0}
    → (P : Protocol C T Q X) (m : Meaning C Q X)
    → some fell m.seats ≡ false
    → some fell (resume P m).seats ≡ false
none-resume P m none = none-resume-by P m (is_paused m) none

none-settle-by : {C T Q X : Type 0} → (P : Protocol C T Q X) (m : Meaning C Q X) (b : Bool) → some fell m.seats ≡ false
    → some fell (if b then m else resume P m).seats ≡ false
none-settle-by P m true none = none
none-settle-by P m false none = none-resume P m none

none-settle : {C T Q X : Type 0}
    → (P : Protocol C T Q X) (m : Meaning C Q X)
    → some fell m.seats ≡ false
    → some fell (settle P m).seats ≡ false
none-settle P m none = none-settle-by P m (some (is_enabled_seat P) m.seats) none

-- ---- a run

-- behind a run that led there, which then is told
abbrev behind_run : {C T Q X : Type 0} → Protocol C T Q X → Meaning C Q X → Meaning C Q X
behind_run P k = settle P (with_seats (each reported k.seats) k)

-- what makes a step is all there
ready-same : {C T Q X : Type 0}
    → (P : Protocol C T Q X) (host m : Meaning C Q X)
    → StandsAs host m
    → is_ready P host ≡ true
    → host ≡ m
ready-same P host m stands ready = same-host host m stands.is (ready-none P host ready)

-- a run of what a host stands for leads where its own does
reaches : {C T Q X : Type 0}
    → (P : Protocol C T Q X) (moment n : ℕ) (host m k : Meaning C Q X)
    → StandsAs host m
    → HasMade P moment host k n
    → k ≡ after_run P moment (fallen_in k.seats) n m
reaches P moment zero host m k stands made =
    sinks-less k m (sinks-twice k host m (less-sinks k host made.reached) (less-sinks host m stands.is))
reaches P moment (suc n) host m k stands made =
    made.reached
    ∙ ap (λ old. after_run P moment (fallen_in k.seats) (suc n) old)
    (ready-same P host m stands (made.ready zero (omega arith)))

-- behind a run that reported all who fell
pub stands-ran : {C T Q X : Type 0} → (P : Protocol C T Q X) (moment n : ℕ) (host m k : Meaning C Q X)
    → StandsAs host m → HasMade P moment host k n
    → StandsAs (settle P (with_seats (each reported k.seats) k)) (apply P m (Ran n moment (fallen_in k.seats)))
stands-ran P moment n host m k stands made = record {
  is = sym (less-self (behind_run P k))
      ∙ ap (λ old. less (behind_run P k).seats (behind_run P old)) (reaches P moment n host m k stands made);
  all_there = λ paused.
      fallen-none (behind_run P k).seats (none-settle P (with_seats (each reported k.seats) k) (none-reported k.seats));
}

-- the steps of such a run are those of what the host stands for
pub fits-ran : {C T Q X : Type 0} → (P : Protocol C T Q X) (moment n : ℕ) (host m k : Meaning C Q X)
    → StandsAs host m → HasMade P moment host k n → FitsEntry P m (Ran n moment (fallen_in k.seats))
fits-ran P moment zero host m k stands made j small = absurd (omega (arith, small))
fits-ran P moment (suc n) host m k stands made j small =
    ap (λ old. is_ready P (after_steps P moment j old))
    (sym (ready-same P host m stands (made.ready zero (omega arith))))
    ∙ made.ready j small

-- ---- a history tells of all who fell

pub none-append : {X : Type 0} → (seat : Seat X) (seats : List (Seat X)) → fell seat ≡ false → some fell seats ≡ false
    → some fell (seats ++ seat ∷ []) ≡ false
none-append seat [] stays none = rw stays refl
none-append seat (first ∷ seats) stays none =
    let parts = or_parts (fell first) (some fell seats) none in
    rw parts.0 (none-append seat seats stays parts.1)

none-asked : {C T Q X : Type 0}
    → (P : Protocol C T Q X) (m : Meaning C Q X) (resumes wakes : Bool)
    → some fell m.seats ≡ false
    → some fell (asked P resumes wakes m).seats ≡ false
none-asked P m true wakes none = none-resume P m none
none-asked P m false true none = none-settle P (begun m) none
none-asked P m false false none = none-settle P m none

none-told : {C T Q X : Type 0}
    → (P : Protocol C T Q X) (s : ℕ) (m : Meaning C Q X) (y : X) (resumes wakes b : Bool)
    → some fell m.seats ≡ false
    → some fell
    (if b then asked P resumes wakes (with_seat s (Attached y) m) else settle P (with_seat s Left m)).seats ≡ false
none-told P s m y resumes wakes true none =
    none-asked P (with_seat s (Attached y) m) resumes wakes (fell-put s (Attached y) m.seats refl none)
none-told P s m y resumes wakes false none = none-settle P (with_seat s Left m) (fell-put s Left m.seats refl none)

none-tell : {C T Q X : Type 0}
    → (P : Protocol C T Q X) (s : ℕ) (text : List ℕ) (m : Meaning C Q X) (seat : Seat X)
    → some fell m.seats ≡ false
    → some fell (tell P s text m seat).seats ≡ false
none-tell P s text m (Attached x) none =
    let y = P.reply m.stop m.program text x in
    none-told P s m y (P.resumes m.stop m.program text x) (P.wakes m.stop m.program text x) (P.fits y) none
none-tell P s text m (Lost loss is_reported is_told) none = none
none-tell P s text m Left none = none

none-take : {C T Q X : Type 0}
    → (P : Protocol C T Q X) (s : ℕ) (m : Meaning C Q X) (seat : Seat X)
    → some fell m.seats ≡ false
    → some fell (take P s m seat).seats ≡ false
none-take P s m (Attached x) none = fell-put s (Attached (P.emptied x)) m.seats refl none
none-take P s m (Lost loss is_reported is_told) none = none
none-take P s m Left none = none

none-detach : {C T Q X : Type 0}
    → (P : Protocol C T Q X) (s : ℕ) (m : Meaning C Q X) (seat : Seat X)
    → seat_of s m.seats ≡ seat
    → some fell m.seats ≡ false → some fell (detach P s m seat).seats ≡ false
none-detach P s m (Attached x) at none = none-settle P (with_seat s Left m) (fell-put s Left m.seats refl none)
none-detach {C} {T} {Q} {X} P s m (Lost loss is_reported is_told) at none =
    let stays : fell {X = X} (Lost loss is_reported is_told) ≡ false = ap (λ seat. fell seat) (sym at)
    ∙ fell-at s m.seats none in
    fell-put s (Lost loss is_reported true) m.seats (told-fell X loss is_reported is_told ∙ stays) none
none-detach P s m Left at none = none

-- an entry leaves none that fell
none-entry : {C T Q X : Type 0} → (P : Protocol C T Q X) (m : Meaning C Q X) (entry : Entry) → some fell m.seats ≡ false
    → some fell (apply P m entry).seats ≡ false
none-entry P m Attach none = none-append (Attached (P.fresh (length m.seats + 1))) m.seats refl none
none-entry P m (Tell s text) none = none-tell P s text m (seat_of s m.seats) none
none-entry P m (Take s) none = none-take P s m (seat_of s m.seats) none
none-entry P m (Detach s) none = none-detach P s m (seat_of s m.seats) refl none
none-entry P m (Ran n moment gone) none =
    let k = after_run P moment gone n m in none-settle P (with_seats (each reported k.seats) k) (none-reported k.seats)
none-entry P m Shut none = none

history-none : {C T Q X : Type 0}
    → (P : Protocol C T Q X) (m : Meaning C Q X) (history : List Entry)
    → some fell m.seats ≡ false
    → some fell (fold (apply P) m history).seats ≡ false
history-none P m [] none = none
history-none P m (entry ∷ history) none = history-none P (apply P m entry) history (none-entry P m entry none)

-- what a whole history means has none that fell
pub whole-none : {C T Q X : Type 0} → (P : Protocol C T Q X) (c : C) (wait : Bool) (history : List Entry)
    → some fell (whole P c wait history).seats ≡ false
whole-none P c wait history = history-none P (begin c wait) history refl

-- one that fell was attached, or had fallen
fallen-from : {X : Type 0}
    → (old new : Seat X) (is_told : Bool)
    → fell old ≡ false
    → new ≡ mid old new
    → new ≡ Lost Memory false is_told
    → is_attached old ≡ true
fallen-from (Attached x) new is_told stays is at = refl
fallen-from (Lost loss is_reported was_told) new is_told stays is at =
    let same : new ≡ fallen (Lost loss is_reported was_told) = is
    ∙ ap (λ seat. mid (Lost loss is_reported was_told) seat) at in
    let differs : true ≡ false = sym (ap (λ seat. fell seat) at) ∙ ap (λ seat. fell seat) same ∙ stays in absurd cc
fallen-from Left new is_told stays is at =
    let same : new ≡ Left = is ∙ ap (λ seat. mid Left seat) at in absurd cc

-- one that fell here is attached in what the host stands for, if none fell there
pub fallen-attached : {C Q X : Type 0}
    → (host m : Meaning C Q X) (s : ℕ) (is_told : Bool)
    → StandsAs host m
    → some fell m.seats ≡ false
    → seat_of s host.seats ≡ Lost Memory false is_told → is_attached (seat_of s m.seats) ≡ true
fallen-attached host m s is_told stands none at =
    fallen-from (seat_of s m.seats) (seat_of s host.seats) is_told (fell-at s m.seats none)
    (mids-at s m.seats host.seats (less-sinks host m stands.is).sunk) at
