-- Hosts that want of memory in a run broke, and the seats that they keep.
use Rattle.std.proofs.Common.{◌≡◌, ℕ, zero, suc, ◌+◌, List, [], ◌∷◌, length, Bool, true, false, ◌||◌, if◌then◌else◌, None, refl, ap, sym, ◌∙◌, arith}
use Rattle.std.proofs.lemmas.Bool.{or_parts, or_from}
use Rattle.cdp_host_isolation.specs.Seats.{each, fallen, is_attached, is_listed, numbers_from, put, put_in, reported, seat_in, seat_of, some, waits_for_report, without, without_from}
use Rattle.cdp_host_isolation.specs.Protocols.{Protocol}
use Rattle.cdp_host_isolation.specs.Meanings.{Meaning, is_enabled_seat, is_paused, resume, resumed_seat, settle, with_seats}
use Rattle.cdp_host_isolation.specs.Histories.{Ran, apply}
use Rattle.cdp_host_isolation.specs.Runs.{mids}
use Rattle.cdp_host_isolation.specs.Standing.{BrokenAs, StandsAs, broken_seat, fallen_in, fell, less}
use Rattle.cdp_host_isolation.specs.declared.seat.Seat.{Seat}
use Rattle.cdp_host_isolation.specs.declared.seat.Seat.TheVariants.{Attached, Lost, Left}
use Rattle.cdp_host_isolation.proofs.FallenLemmas.{itself, mids-less, without-below}
use Rattle.cdp_host_isolation.proofs.TextLemmas.{without-length}

-- ---- how many there are

pub less-length : {C Q X : Type 0}
    → (seats : List (Seat X)) (m : Meaning C Q X)
    → length (less seats m).seats ≡ length m.seats
less-length seats m = without-length (fallen_in seats) 1 m.seats

-- a host has as many seats as what it stands for
pub stands-length : {C Q X : Type 0} → (host m : Meaning C Q X) → StandsAs host m → length host.seats ≡ length m.seats
stands-length host m stands = ap (λ k. length k.seats) stands.is ∙ less-length host.seats m

-- ---- some seat among others

unset-in : {X : Type 0} → (f : Seat X → Bool) (i : ℕ) (seats : List (Seat X)) → f Left ≡ false → some f seats ≡ false
    → f (seat_in i seats) ≡ false
unset-in f i [] left none = left
unset-in f zero (seat ∷ seats) left none = (or_parts (f seat) (some f seats) none).0
unset-in f (suc i) (seat ∷ seats) left none = unset-in f i seats left (or_parts (f seat) (some f seats) none).1

-- where none is so, this one isn't
pub unset-at : {X : Type 0} → (f : Seat X → Bool) (s : ℕ) (seats : List (Seat X)) → f Left ≡ false
    → some f seats ≡ false
    → f (seat_of s seats) ≡ false
unset-at f zero seats left none = left
unset-at f (suc i) seats left none = unset-in f i seats left none

-- where none is attached, this one isn't
pub none-at : {X : Type 0} → (s : ℕ) (seats : List (Seat X)) → some is_attached seats ≡ false
    → is_attached (seat_of s seats) ≡ false
none-at s seats none = unset-at is_attached s seats refl none

unset-put-in : {X : Type 0} → (f : Seat X → Bool) (i : ℕ) (new : Seat X) (seats : List (Seat X)) → f new ≡ false
    → some f seats ≡ false
    → some f (put_in i new seats) ≡ false
unset-put-in f i new [] gone none = none
unset-put-in f zero new (seat ∷ seats) gone none =
    or_from (f new) (some f seats) gone (or_parts (f seat) (some f seats) none).1
unset-put-in f (suc i) new (seat ∷ seats) gone none =
    let parts = or_parts (f seat) (some f seats) none in
    or_from (f seat) (some f (put_in i new seats)) parts.0 (unset-put-in f i new seats gone parts.1)

-- nor with another seat that isn't
pub unset-put : {X : Type 0} → (f : Seat X → Bool) (s : ℕ) (new : Seat X) (seats : List (Seat X)) → f new ≡ false
    → some f seats ≡ false
    → some f (put s new seats) ≡ false
unset-put f zero new seats gone none = none
unset-put f (suc i) new seats gone none = unset-put-in f i new seats gone none

-- ---- seats behind want of memory

alone-seat : {X : Type 0} → (seat : Seat X) → is_attached (broken_seat seat) ≡ false
alone-seat (Attached x) = refl
alone-seat (Lost loss is_reported is_told) = refl
alone-seat Left = refl

told-seat : {X : Type 0} → (seat : Seat X) → waits_for_report (broken_seat seat) ≡ false
told-seat (Attached x) = refl
told-seat (Lost loss is_reported is_told) = refl
told-seat Left = refl

unset-each : {X : Type 0} → (f : Seat X → Bool) (g : Seat X → Seat X) → ((seat : Seat X) → f (g seat) ≡ false)
    → (seats : List (Seat X))
    → some f (each g seats) ≡ false
unset-each f g unset [] = refl
unset-each f g unset (seat ∷ seats) =
    or_from (f (g seat)) (some f (each g seats)) (unset seat) (unset-each f g unset seats)

-- nobody is attached there
pub broken-alone : {X : Type 0} → (seats : List (Seat X)) → some is_attached (each broken_seat seats) ≡ false
broken-alone seats = unset-each is_attached broken_seat alone-seat seats

-- and no loss waits for a run
pub broken-told : {X : Type 0} → (seats : List (Seat X)) → some waits_for_report (each broken_seat seats) ≡ false
broken-told seats = unset-each waits_for_report broken_seat told-seat seats

-- a session that fell is lost as it is then
broken-fallen : {X : Type 0} → (b : Bool) (seat : Seat X)
    → broken_seat (if b then fallen seat else seat) ≡ broken_seat seat
broken-fallen true (Attached x) = refl
broken-fallen true (Lost loss is_reported is_told) = refl
broken-fallen true Left = refl
broken-fallen false seat = refl

broken-mids : {X : Type 0} → (olds news : List (Seat X)) → each broken_seat (mids olds news) ≡ each broken_seat olds
broken-mids [] news = refl
broken-mids (old ∷ olds) [] = refl
broken-mids (old ∷ olds) (new ∷ news) =
    ap (λ seat. seat ∷ each broken_seat (mids olds news)) (broken-fallen (fell new) old)
    ∙ ap (λ seats. broken_seat old ∷ seats) (broken-mids olds news)

broken-reported : {X : Type 0} → (seat : Seat X) → reported (fallen seat) ≡ broken_seat seat
broken-reported (Attached x) = refl
broken-reported (Lost loss is_reported is_told) = refl
broken-reported Left = refl

-- ---- a run that loses everybody

everybody-falls : {X : Type 0} → (s : ℕ) (seats : List (Seat X))
    → each reported (without_from (numbers_from s (length seats)) s seats) ≡ each broken_seat seats
everybody-falls s [] = refl
everybody-falls s (seat ∷ seats) =
    let rest : List ℕ = numbers_from (s + 1) (length seats) in
    let later = without_from (s ∷ rest) (s + 1) seats in
    ap (λ b. reported (if b || is_listed rest s then fallen seat else seat) ∷ each reported later) (itself s)
    ∙ ap (λ one. one ∷ each reported later) (broken-reported seat)
    ∙ ap (λ more. broken_seat seat ∷ each reported more) (without-below s (s + 1) rest seats (omega arith))
    ∙ ap (λ more. broken_seat seat ∷ more) (everybody-falls (s + 1) seats)

-- ---- where nobody is attached

resumed-gone : {C T Q X : Type 0} → (P : Protocol C T Q X) (seat : Seat X) → is_attached seat ≡ false
    → resumed_seat P seat ≡ seat
resumed-gone P (Attached x) gone = absurd cc
resumed-gone P (Lost loss is_reported is_told) gone = refl
resumed-gone P Left gone = refl

resumed-none : {C T Q X : Type 0} → (P : Protocol C T Q X) (seats : List (Seat X)) → some is_attached seats ≡ false
    → each (resumed_seat P) seats ≡ seats
resumed-none P [] none = refl
resumed-none P (seat ∷ seats) none =
    let parts = or_parts (is_attached seat) (some is_attached seats) none in
    ap (λ one. one ∷ each (resumed_seat P) seats) (resumed-gone P seat parts.0)
    ∙ ap (λ more. seat ∷ more) (resumed-none P seats parts.1)

resume-by : {C T Q X : Type 0} → (P : Protocol C T Q X) (m : Meaning C Q X) (b : Bool)
    → some is_attached m.seats ≡ false
    → (if b then record m { stop = None; seats = each (resumed_seat P) m.seats } else m).seats ≡ m.seats
resume-by P m true none = resumed-none P m.seats none
resume-by P m false none = refl

settle-by : {C T Q X : Type 0} → (P : Protocol C T Q X) (m : Meaning C Q X) (b : Bool)
    → some is_attached m.seats ≡ false
    → (if b then m else resume P m).seats ≡ m.seats
settle-by P m true none = refl
settle-by P m false none = resume-by P m (is_paused m) none

-- nobody is told that the program goes on
settle-none : {C T Q X : Type 0} → (P : Protocol C T Q X) (m : Meaning C Q X) → some is_attached m.seats ≡ false
    → (settle P m).seats ≡ m.seats
settle-none P m none = settle-by P m (some (is_enabled_seat P) m.seats) none

fallen-gone : {X : Type 0} → (b : Bool) (seat : Seat X) → is_attached seat ≡ false → waits_for_report seat ≡ false
    → reported (if b then fallen seat else seat) ≡ seat
fallen-gone b (Attached x) gone told = absurd cc
fallen-gone true (Lost loss true is_told) gone told = refl
fallen-gone false (Lost loss true is_told) gone told = refl
fallen-gone b (Lost loss false is_told) gone told = absurd cc
fallen-gone true Left gone told = refl
fallen-gone false Left gone told = refl

without-gone : {X : Type 0} → (numbers : List ℕ) (s : ℕ) (seats : List (Seat X)) → some is_attached seats ≡ false
    → some waits_for_report seats ≡ false
    → each reported (without_from numbers s seats) ≡ seats
without-gone numbers s [] none told = refl
without-gone numbers s (seat ∷ seats) none told =
    let parts = or_parts (is_attached seat) (some is_attached seats) none in
    let more = or_parts (waits_for_report seat) (some waits_for_report seats) told in
    ap (λ one. one ∷ each reported (without_from numbers (s + 1) seats))
    (fallen-gone (is_listed numbers s) seat parts.0 more.0)
    ∙ ap (λ rest. seat ∷ rest) (without-gone numbers (s + 1) seats parts.1 more.1)

-- ---- hosts

-- a run of no step reports its losses
ran-seats : {C T Q X : Type 0}
    → (P : Protocol C T Q X) (moment : ℕ) (gone : List ℕ) (m : Meaning C Q X) (seats : List (Seat X))
    → each reported (without gone m.seats) ≡ seats → some is_attached seats ≡ false
    → (apply P m (Ran zero moment gone)).seats ≡ seats
ran-seats P moment gone m seats is none =
    let k = with_seats (each reported (without gone m.seats)) (with_seats (without gone m.seats) m) in
    settle-none P k (ap (λ ss. some is_attached ss) is ∙ none) ∙ is

-- a host that stands for a meaning, and that want of memory breaks in a run
pub broken-ran : {C T Q X : Type 0} → (P : Protocol C T Q X) (moment : ℕ) (host m : Meaning C Q X) → StandsAs host m
    → BrokenAs (each broken_seat host.seats) (apply P m (Ran zero moment (numbers_from 1 (length host.seats)))).seats
broken-ran P moment host m stands =
    let many : length host.seats ≡ length m.seats = stands-length host m stands in
    let fell_all : each broken_seat host.seats ≡ each broken_seat m.seats =
    ap (λ k. each broken_seat k.seats) stands.is
    ∙ ap (λ ss. each broken_seat ss) (sym (mids-less m.seats host.seats))
    ∙ broken-mids m.seats host.seats in
    let gone : each reported (without (numbers_from 1 (length host.seats)) m.seats) ≡ each broken_seat m.seats =
    ap (λ n. each reported (without (numbers_from 1 n) m.seats)) many ∙ everybody-falls 1 m.seats in
    record {
      same = fell_all ∙ sym (ran-seats P moment (numbers_from 1 (length host.seats)) m (each broken_seat m.seats) gone
          (broken-alone m.seats));
      alone = broken-alone host.seats;
      all_told = broken-told host.seats;
    }

-- a broken one makes no step
pub broken-stays : {C T Q X : Type 0}
    → (P : Protocol C T Q X) (moment : ℕ) (gone : List ℕ) (seats : List (Seat X)) (m : Meaning C Q X)
    → BrokenAs seats m.seats → BrokenAs seats (apply P m (Ran zero moment gone)).seats
broken-stays P moment gone seats m broken =
    let is : each reported (without gone m.seats) ≡ seats =
    ap (λ ss. each reported (without gone ss)) (sym broken.same)
    ∙ without-gone gone 1 seats broken.alone broken.all_told in
    record {
      same = sym (ran-seats P moment gone m seats is broken.alone);
      alone = broken.alone;
      all_told = broken.all_told;
    }
