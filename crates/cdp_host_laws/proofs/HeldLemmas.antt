-- What holds of a session whatever it sees, holds of it over each history.
use Rattle.std.proofs.Common.{◌≡◌, ℕ, zero, suc, List, [], ◌∷◌, Bool, true, false, if◌then◌else◌, Option, fold, sym, subst}
use Rattle.cdp_host_isolation.specs.Seats.{fallen, lost_by, reported, seat_of}
use Rattle.cdp_host_isolation.specs.Protocols.{Protocol}
use Rattle.cdp_host_isolation.specs.Meanings.{Meaning, begin, kept, next_number, resumed_seat, seat_behind, survives, told_of}
use Rattle.cdp_host_isolation.specs.Histories.{Entry, FitsAll, apply, whole}
use Rattle.cdp_host_isolation.specs.Alone.{Alone, Seen, Came, Told, Took, Went, Passed, Resumed, alone_at, goes_on, one_step, passing, replied, run, see, took, unborn, unless_listed, view_at, went}
use Rattle.cdp_host_isolation.specs.declared.seat.Loss.TheVariants.{Overrun}
use Rattle.cdp_host_isolation.specs.declared.seat.Seat.{Seat}
use Rattle.cdp_host_isolation.specs.declared.seat.Seat.TheVariants.{Attached, Lost, Left}
use Rattle.cdp_host_isolation.proofs.AloneLemmas.{follows, see_all, unborn-at}

-- ---- histories

all-keep : {C T Q X : Type 0} → (P : Protocol C T Q X) (s : ℕ) (I : Alone C Q X → Type 0)
    → ((a : Alone C Q X) (seen : Seen) → I a → I (see P s a seen))
    → (a : Alone C Q X) (xs : List Seen) → I a → I (see_all P s a xs)
all-keep P s I keeps a [] is = is
all-keep P s I keeps a (x ∷ xs) is = all-keep P s I keeps (see P s a x) xs (keeps a x is)

from-keeps : {C T Q X : Type 0} → (P : Protocol C T Q X) (s : ℕ) (I : Alone C Q X → Type 0)
    → ((a : Alone C Q X) (seen : Seen) → I a → I (see P s a seen))
    → (m : Meaning C Q X) (history : List Entry) → FitsAll P m history
    → I (alone_at s m) → I (alone_at s (fold (apply P) m history))
from-keeps P s I keeps m [] fits is = is
from-keeps P s I keeps m (entry ∷ history) fits is =
    let k = apply P m entry in
    from-keeps P s I keeps k history fits.1
    (subst I (sym (follows P s m entry fits.0).goes) (all-keep P s I keeps (alone_at s m) (view_at P s m entry) is))

-- what holds of a session before its first entry, and stays so whatever it sees, holds at all times
whole-keeps : {C T Q X : Type 0} → (P : Protocol C T Q X) (s : ℕ) (I : Alone C Q X → Type 0)
    → ((a : Alone C Q X) (seen : Seen) → I a → I (see P s a seen))
    → (c : C) (wait : Bool) (history : List Entry) → FitsAll P (begin c wait) history
    → I (unborn c wait) → I (alone_at s (whole P c wait history))
whole-keeps P s I keeps c wait history fits is =
    from-keeps P s I keeps (begin c wait) history fits (subst I (sym (unborn-at s c wait)) is)

-- ---- what holds of a session

-- this holds of the session of a seat, if one is attached
abbrev pub Holds : {X : Type 0} → (X → Type 0) → Seat X → Type 0
Holds H (Attached x) = H x
Holds H (Lost loss is_reported is_told) = Unit {0}
Holds H Left = Unit {0}

-- it holds after what a host does to a session by itself: steps, stops and resumes
pub record KeepsOver {C T Q X : Type 0} (P : Protocol C T Q X) (H : X → Type 0) : Type 0 where
  pub resumed : (x : X) → H x → H (P.resumed x)
  pub told : (moment : ℕ) (t : T) (x : X) → H x → H (P.told moment t x)
  pub stopped : (number : ℕ) (t : T) (x : X) → H x → H (P.stopped number t x)

-- and after a text and the taking of its texts
pub record KeepsAlways {C T Q X : Type 0} (P : Protocol C T Q X) (H : X → Type 0) : Type 0 where
  pub over : KeepsOver P H
  pub reply : (q : Option Q) (c : C) (text : List ℕ) (x : X) → H x → H (P.reply q c text x)
  pub emptied : (x : X) → H x → H (P.emptied x)

pub held-choice : {X : Type 0} → (H : X → Type 0) (b : Bool) (x : X) (other : Seat X) → H x → Holds H other
    → Holds H (if b then Attached x else other)
held-choice H true x other is less = is
held-choice H false x other is less = less

pub kept-holds : {C T Q X : Type 0} → (P : Protocol C T Q X) (H : X → Type 0) (x : X) → H x → Holds H (kept P x)
kept-holds P H x is = held-choice H (P.fits x) x (lost_by Overrun) is tt

resumed-holds : {C T Q X : Type 0} → (P : Protocol C T Q X) (H : X → Type 0) → ((x : X) → H x → H (P.resumed x))
    → (seat : Seat X) → Holds H seat → Holds H (resumed_seat P seat)
resumed-holds P H keeps (Attached x) is = kept-holds P H (P.resumed x) (keeps x is)
resumed-holds P H keeps (Lost loss is_reported is_told) is = tt
resumed-holds P H keeps Left is = tt

pub goes-holds : {C T Q X : Type 0} → (P : Protocol C T Q X) (H : X → Type 0) → ((x : X) → H x → H (P.resumed x))
    → (resumed : Bool) (a : Alone C Q X) → Holds H a.seat → Holds H (goes_on P resumed a).seat
goes-holds P H keeps true a is = resumed-holds P H keeps a.seat is
goes-holds P H keeps false a is = is

replied-holds : {C T Q X : Type 0} → (P : Protocol C T Q X) (H : X → Type 0) → KeepsAlways P H → (text : List ℕ)
    (a : Alone C Q X) (seat : Seat X) → Holds H seat → Holds H (replied P text a seat)
replied-holds P H keeps text a (Attached x) is =
    let y = P.reply a.stop a.program text x in
    held-choice H (P.fits y) y Left (keeps.reply a.stop a.program text x is) tt
replied-holds P H keeps text a (Lost loss is_reported is_told) is = tt
replied-holds P H keeps text a Left is = tt

took-holds : {C T Q X : Type 0} → (P : Protocol C T Q X) (H : X → Type 0) → KeepsAlways P H → (seat : Seat X)
    → Holds H seat → Holds H (took P seat)
took-holds P H keeps (Attached x) is = keeps.emptied x is
took-holds P H keeps (Lost loss is_reported is_told) is = tt
took-holds P H keeps Left is = tt

went-holds : {X : Type 0} → (H : X → Type 0) (seat : Seat X) → Holds H (went seat)
went-holds H (Attached x) = tt
went-holds H (Lost loss is_reported is_told) = tt
went-holds H Left = tt

pub reported-holds : {X : Type 0} → (H : X → Type 0) (seat : Seat X) → Holds H seat → Holds H (reported seat)
reported-holds H (Attached x) is = is
reported-holds H (Lost loss is_reported is_told) is = tt
reported-holds H Left is = tt

-- one that is listed is lost
pub listed-holds : {C Q X : Type 0} → (H : X → Type 0) (listed : Bool) (a : Alone C Q X) → Holds H a.seat
    → Holds H (unless_listed listed a).seat
listed-holds H false a is = is
listed-holds H true a is = fallen-holds H a.seat
  where
    fallen-holds : {X : Type 0} → (H : X → Type 0) (seat : Seat X) → Holds H (fallen seat)
    fallen-holds H (Attached x) = tt
    fallen-holds H (Lost loss is_reported is_told) = tt
    fallen-holds H Left = tt

told-holds : {C T Q X : Type 0} → (P : Protocol C T Q X) (H : X → Type 0) → KeepsOver P H → (stops : Bool)
    (number moment : ℕ) (t : T) (x : X) → H x → Holds H (told_of P stops number moment t x)
told-holds P H keeps true number moment t x is =
    kept-holds P H (P.stopped number t (P.told moment t x))
    (keeps.stopped number t (P.told moment t x) (keeps.told moment t x is))
told-holds P H keeps false number moment t x is = keeps.told moment t x is

pub survivor-holds : {X : Type 0} → (H : X → Type 0) (b : Bool) (seat : Seat X) → Holds H seat
    → Holds H (if b then seat else lost_by Overrun)
survivor-holds H true seat is = is
survivor-holds H false seat is = tt

behind-holds : {C T Q X : Type 0} → (P : Protocol C T Q X) (H : X → Type 0) → KeepsOver P H → (stops : Bool)
    (number moment : ℕ) (t : T) (seat : Seat X) → Holds H seat → Holds H (seat_behind P stops number moment t seat)
behind-holds P H keeps stops number moment t (Attached x) is =
    survivor-holds H (survives P number moment t x) (told_of P stops number moment t x)
    (told-holds P H keeps stops number moment t x is)
behind-holds P H keeps stops number moment t (Lost loss is_reported is_told) is = tt
behind-holds P H keeps stops number moment t Left is = tt

-- one step
pub step-holds : {C T Q X : Type 0} → (P : Protocol C T Q X) (H : X → Type 0) → KeepsOver P H → (moment : ℕ)
    (stops : Bool) (a : Alone C Q X) → Holds H a.seat → Holds H (one_step P moment stops a).seat
step-holds P H keeps moment stops a is =
    behind-holds P H keeps stops (next_number a.stops) moment (P.tells a.first a.program) a.seat is

-- steps that are passed
pub passing-holds : {C T Q X : Type 0} → (P : Protocol C T Q X) (H : X → Type 0) → KeepsOver P H → (moment n : ℕ)
    (a : Alone C Q X) → Holds H a.seat → Holds H (passing P moment n a).seat
passing-holds P H keeps moment zero a is = is
passing-holds P H keeps moment (suc n) a is =
    passing-holds P H keeps moment n (one_step P moment false a) (step-holds P H keeps moment false a is)

-- a run
pub run-holds : {C T Q X : Type 0} → (P : Protocol C T Q X) (H : X → Type 0) → KeepsOver P H → (moment n : ℕ)
    (stops listed : Bool) (a : Alone C Q X) → Holds H a.seat → Holds H (run P moment n stops listed a).seat
run-holds P H keeps moment zero stops listed a is = listed-holds H listed a is
run-holds P H keeps moment (suc n) stops listed a is =
    step-holds P H keeps moment stops (unless_listed listed (passing P moment n a))
    (listed-holds H listed (passing P moment n a) (passing-holds P H keeps moment n a is))

-- it stays so, whatever the session sees, where it holds of a new one
see-holds : {C T Q X : Type 0} → (P : Protocol C T Q X) (H : X → Type 0) → KeepsAlways P H → (s : ℕ)
    → H (P.fresh s) → (a : Alone C Q X) (seen : Seen) → Holds H a.seat → Holds H (see P s a seen).seat
see-holds P H keeps s new a Came is = new
see-holds P H keeps s new a (Told text resumed) is =
    goes-holds P H keeps.over.resumed resumed (record a { seat = replied P text a a.seat })
    (replied-holds P H keeps text a a.seat is)
see-holds P H keeps s new a Took is = took-holds P H keeps a.seat is
see-holds P H keeps s new a (Went resumed) is =
    goes-holds P H keeps.over.resumed resumed (record a { seat = went a.seat }) (went-holds H a.seat)
see-holds P H keeps s new a (Passed n moment stops listed resumed) is =
    let b = run P moment n stops listed a in
    goes-holds P H keeps.over.resumed resumed (record b { seat = reported b.seat })
    (reported-holds H b.seat (run-holds P H keeps.over moment n stops listed a is))
see-holds P H keeps s new a Resumed is = goes-holds P H keeps.over.resumed true a is

pub held-at : {X : Type 0} → (H : X → Type 0) (seat : Seat X) (x : X) → seat ≡ Attached x → Holds H seat → H x
held-at H seat x is holds = subst (λ w. Holds H w) is holds

-- so it holds at all times
pub always-holds : {C T Q X : Type 0} → (P : Protocol C T Q X) (H : X → Type 0) → KeepsAlways P H → (s : ℕ)
    → H (P.fresh s) → (c : C) (wait : Bool) (history : List Entry) → FitsAll P (begin c wait) history
    → (x : X) → seat_of s (whole P c wait history).seats ≡ Attached x → H x
always-holds P H keeps s new c wait history fits x at =
    held-at H (seat_of s (whole P c wait history).seats) x at
    (whole-keeps P s (λ a. Holds H a.seat) (see-holds P H keeps s new) c wait history fits tt)
