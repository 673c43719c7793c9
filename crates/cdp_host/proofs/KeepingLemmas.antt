-- What a resume and a step leave of the places of a host's sessions: all but those of the sessions that they lose.
use Rattle.std.proofs.Common.{◌≡◌, ℕ, zero, suc, Bool, true, false, ◌&&◌, List, [], ◌∷◌, if◌then◌else◌, refl, ap, sym, subst, ◌∙◌}
use Rattle.std.proofs.lemmas.Bool.{and_right}
use Rattle.std.specs.List.{list_any}
use Rattle.cdp_text.specs.declared.position.Place.{Place}
use Rattle.cdp_host_isolation.specs.Meanings.{resumed_seat, seat_behind, survives, told_of}
use Rattle.cdp_host_isolation.specs.Passes.{Behind, HearsOn, Over, OverAll}
use Rattle.cdp_host_isolation.specs.Seats.{fallen, lost_by, seat_in, seat_of}
use Rattle.cdp_host_isolation.specs.Standing.{fell}
use Rattle.cdp_host_isolation.specs.declared.seat.Loss.TheVariants.{Overrun}
use Rattle.cdp_host_isolation.specs.declared.seat.Seat.{Seat}
use Rattle.cdp_host_isolation.specs.declared.seat.Seat.TheVariants.{Attached, Lost, Left}
use Rattle.breakpoints.specs.Hits.{stands_at}
use Rattle.breakpoints.specs.declared.holding.Holding.{Holding}
use Rattle.js_tree.specs.declared.script.Script.{Script}
use Rattle.cdp_session_messages.specs.Outboxes.{fits}
use Rattle.cdp_session.specs.Sessions.{Session}
use Rattle.cdp_session.specs.Stops.{resumed}
use Rattle.cdp_host.specs.Indexing.{ForgetsLost, IsIndexOf, stands_in}
use Rattle.cdp_host.specs.Protocols.{protocol, step_told, stop_told}
use Rattle.cdp_host.specs.Steps.{Step, seen_behind}
use Rattle.cdp_host.proofs.IndexLemmas.{KeepsPlaces, lost-indexed}
use Rattle.cdp_host.proofs.WatchLemmas.{told-asks}

-- ---- one seat

and_true : (b : Bool) → b ≡ (b && true)
and_true true = refl
and_true false = refl

-- whatever was there, a session that was lost just now has no places
newly-lost : (place : Place) (seat : Seat Session) → false ≡ (stands_in place seat && false)
newly-lost place seat = sym (and_right (stands_in place seat) false refl)

-- a session with the same breakpoints, or lost for its texts
kept-by : (x y : Session) (b : Bool)
    → y.breakpoints ≡ x.breakpoints
    → KeepsPlaces (Attached x) (if b then Attached y else lost_by Overrun)
kept-by x y true same =
    λ place. ap (λ h. list_any (stands_at place) h.set) same ∙ and_true (stands_in place (Attached x))
kept-by x y false same = λ place. newly-lost place (Attached x)

-- or lost for want of memory
fallen-keeps : (old new : Seat Session) (b : Bool) → KeepsPlaces old new → KeepsPlaces old (if b then fallen new else new)
fallen-keeps old (Attached y) true keeps = λ place. newly-lost place old
fallen-keeps old (Lost loss is_reported is_told) true keeps = keeps
fallen-keeps old Left true keeps = keeps
fallen-keeps old new false keeps = keeps

-- ---- resumes

resumed-keeps : (scripts : List Script) (seat : Seat Session) → KeepsPlaces seat (resumed_seat (protocol scripts) seat)
resumed-keeps scripts (Attached x) = kept-by x (resumed x) (fits (resumed x).outbox) refl
resumed-keeps scripts (Lost loss is_reported is_told) = λ place. refl
resumed-keeps scripts Left = λ place. refl

hears-keeps : (scripts : List Script) (old new : Seat Session)
    → HearsOn (protocol scripts) old new
    → KeepsPlaces old new
hears-keeps scripts old new hears =
    subst (KeepsPlaces old) (sym hears.is)
    (fallen-keeps old (resumed_seat (protocol scripts) old) (fell new) (resumed-keeps scripts old))

-- ---- steps

survived-keeps : (scripts : List Script) (stops lasts : Bool) (number moment : ℕ) (t : Step) (x : Session)
    → KeepsPlaces (Attached x)
    (if lasts then told_of (protocol scripts) stops number moment t x else lost_by Overrun)
survived-keeps scripts stops false number moment t x = λ place. newly-lost place (Attached x)
survived-keeps scripts true true number moment t x =
    let y : Session = stop_told scripts number t (step_told scripts moment t x) in
    kept-by x y (fits y.outbox) (told-asks (seen_behind scripts t) moment t x).breakpoints
survived-keeps scripts false true number moment t x =
    kept-by x (step_told scripts moment t x) true (told-asks (seen_behind scripts t) moment t x).breakpoints

step-keeps : (scripts : List Script) (stops : Bool) (number moment : ℕ) (t : Step) (seat : Seat Session)
    → KeepsPlaces seat (seat_behind (protocol scripts) stops number moment t seat)
step-keeps scripts stops number moment t (Attached x) =
    survived-keeps scripts stops (survives (protocol scripts) number moment t x) number moment t x
step-keeps scripts stops number moment t (Lost loss is_reported is_told) = λ place. refl
step-keeps scripts stops number moment t Left = λ place. refl

-- where want of memory may have come before it
mid-keeps : (scripts : List Script) (stops : Bool) (number moment : ℕ) (t : Step) (seat : Seat Session) (b : Bool)
    → KeepsPlaces seat (seat_behind (protocol scripts) stops number moment t (if b then fallen seat else seat))
mid-keeps scripts stops number moment t (Attached x) true = λ place. newly-lost place (Attached x)
mid-keeps scripts stops number moment t (Lost loss is_reported is_told) true = λ place. refl
mid-keeps scripts stops number moment t Left true = λ place. refl
mid-keeps scripts stops number moment t seat false = step-keeps scripts stops number moment t seat

behind-keeps : (scripts : List Script) (stops : Bool) (number moment : ℕ) (t : Step) (old new : Seat Session)
    (named : Bool)
    → Behind (protocol scripts) stops number moment t old new named
    → KeepsPlaces old new
behind-keeps scripts stops number moment t old new named behind =
    subst (KeepsPlaces old) (sym behind.is) (mid-keeps scripts stops number moment t old (fell new))

-- ---- all seats

all-keep : (R : Seat Session → Seat Session → Type 0)
    → ((old new : Seat Session) → R old new → KeepsPlaces old new)
    → (i : ℕ) (olds news : List (Seat Session))
    → OverAll R olds news
    → KeepsPlaces (seat_in i olds) (seat_in i news)
all-keep R keeps i [] [] over = λ place. refl
all-keep R keeps i [] (new ∷ news) over = absurd over
all-keep R keeps i (old ∷ olds) [] over = absurd over
all-keep R keeps zero (old ∷ olds) (new ∷ news) over = keeps old new over.0
all-keep R keeps (suc i) (old ∷ olds) (new ∷ news) over = all-keep R keeps i olds news over.1

flagged-keep : (R : Seat Session → Seat Session → Bool → Type 0)
    → ((old new : Seat Session) (flag : Bool) → R old new flag → KeepsPlaces old new)
    → (i : ℕ) (olds news : List (Seat Session)) (flags : List Bool)
    → Over R olds news flags
    → KeepsPlaces (seat_in i olds) (seat_in i news)
flagged-keep R keeps i [] [] [] over = λ place. refl
flagged-keep R keeps i [] [] (flag ∷ flags) over = absurd over
flagged-keep R keeps i [] (new ∷ news) flags over = absurd over
flagged-keep R keeps i (old ∷ olds) [] flags over = absurd over
flagged-keep R keeps i (old ∷ olds) (new ∷ news) [] over = absurd over
flagged-keep R keeps zero (old ∷ olds) (new ∷ news) (flag ∷ flags) over = keeps old new flag over.0
flagged-keep R keeps (suc i) (old ∷ olds) (new ∷ news) (flag ∷ flags) over =
    flagged-keep R keeps i olds news flags over.1

at-numbers : (olds news : List (Seat Session))
    → ((i : ℕ) → KeepsPlaces (seat_in i olds) (seat_in i news))
    → (s : ℕ)
    → KeepsPlaces (seat_of s olds) (seat_of s news)
at-numbers olds news keep zero = λ place. refl
at-numbers olds news keep (suc i) = keep i

-- ---- the index

-- behind a resume, once those who were lost are forgotten
pub resumed-indexed : (scripts : List Script) (olds news : List (Seat Session)) (old new : List Holding)
    → OverAll (HearsOn (protocol scripts)) olds news
    → ForgetsLost news old new
    → IsIndexOf olds old
    → IsIndexOf news new
resumed-indexed scripts olds news old new over forgets indexed =
    lost-indexed olds news old new
    (at-numbers olds news
    (λ i. all-keep (HearsOn (protocol scripts)) (hears-keeps scripts) i olds news over))
    forgets indexed

-- and behind a step
pub stepped-indexed : (scripts : List Script) (stops : Bool) (number moment : ℕ) (t : Step)
    (olds news : List (Seat Session)) (flags : List Bool) (old new : List Holding)
    → Over (Behind (protocol scripts) stops number moment t) olds news flags
    → ForgetsLost news old new
    → IsIndexOf olds old
    → IsIndexOf news new
stepped-indexed scripts stops number moment t olds news flags old new over forgets indexed =
    lost-indexed olds news old new
    (at-numbers olds news
    (λ i. flagged-keep (Behind (protocol scripts) stops number moment t)
    (behind-keeps scripts stops number moment t) i olds news flags over))
    forgets indexed
