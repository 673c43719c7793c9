-- After the first pass over the seats: who isn't flagged names no stop.
use Rattle.std.proofs.Common.{◌≡◌, ◌<◌, ℕ, zero, suc, List, [], ◌∷◌, length, slice_index_or, Bool, true, false, ◌||◌, ◌&&◌, is_some, refl, ap, sym, subst, ◌∙◌, arith, if◌then◌else◌}
use Rattle.cdp_host_isolation.specs.Meanings.{stops_for}
use Rattle.cdp_host_isolation.specs.Passes.{Over, Watches}
use Rattle.cdp_host_isolation.specs.Runs.{mid, watched}
use Rattle.cdp_host_isolation.specs.Seats.{lost_by}
use Rattle.cdp_host_isolation.specs.declared.seat.Loss.TheVariants.{Overrun}
use Rattle.cdp_host_isolation.specs.declared.seat.Seat.{Seat}
use Rattle.cdp_host_isolation.specs.declared.seat.Seat.TheVariants.{Attached, Lost, Left}
use Rattle.js_tree.specs.declared.script.Script.{Script}
use Rattle.cdp_session_messages.specs.Outboxes.{fits}
use Rattle.cdp_session.specs.Sessions.{Session}
use Rattle.cdp_session.specs.Situations.{Situation}
use Rattle.cdp_session.specs.Stops.{cause_of}
use Rattle.cdp_host.specs.Protocols.{protocol}
use Rattle.cdp_host.specs.Steps.{Step, is_started, names_stop, seen_behind, session_behind}
use Rattle.cdp_host.specs.Watching.{AreFlagged, IsFlagged}
use Rattle.cdp_host.proofs.WatchLemmas.{behind-passed, told-names}

first_false : (a b : Bool) → (a || b) ≡ false → a ≡ false
first_false true b never = absurd cc
first_false false b never = refl

-- a session that names no stop has no cause for one
pub no-cause : (t : Step) (x : Session) → names_stop t x ≡ false → is_some (cause_of t.standing t.arrival x) ≡ false
no-cause t x never = first_false (is_some (cause_of t.standing t.arrival x)) (is_started t x) never

-- nor has that of a seat that isn't flagged
pub flagged-cause : (t : Step) (seat : Seat Session) (x : Session) (flag : Bool)
    → seat ≡ Attached x
    → IsFlagged t seat flag
    → flag ≡ false
    → is_some (cause_of t.standing t.arrival x) ≡ false
flagged-cause t seat x flag is flagged unset =
    let at : flag ≡ false → names_stop t x ≡ false = subst (λ s. IsFlagged t s flag) is flagged in
    no-cause t x (at unset)

-- what names no step names none after it was told of it
still-unnamed : (scripts : List Script) (number moment : ℕ) (t : Step) (x : Session)
    → names_stop t x ≡ false
    → names_stop t (session_behind (seen_behind scripts t) number moment t x) ≡ false
still-unnamed scripts number moment t x never =
    let s : Situation = seen_behind scripts t in
    ap (names_stop t) (sym (behind-passed s number moment t x never)) ∙ told-names s moment t x ∙ never

kept-flagged : (fit named : Bool) (t : Step) (y : Session)
    → (named ≡ false → names_stop t y ≡ false)
    → IsFlagged t (if fit then Attached y else lost_by Overrun) (fit && named)
kept-flagged true named t y unnamed = unnamed
kept-flagged false named t y unnamed = tt

watched-seat : (scripts : List Script) (number moment : ℕ) (t : Step) (seat : Seat Session)
    → IsFlagged t (watched (protocol scripts) number moment t seat) (stops_for (protocol scripts) number moment t seat)
watched-seat scripts number moment t (Attached x) =
    let y : Session = session_behind (seen_behind scripts t) number moment t x in
    kept-flagged (fits y.outbox) (names_stop t x) t y (still-unnamed scripts number moment t x)
watched-seat scripts number moment t (Lost loss is_reported is_told) = tt
watched-seat scripts number moment t Left = tt

watches-flagged : (scripts : List Script) (number moment : ℕ) (t : Step) (old new : Seat Session) (flag : Bool)
    → Watches (protocol scripts) number moment t old new flag
    → IsFlagged t new flag
watches-flagged scripts number moment t old new flag watches =
    let seat : Seat Session = mid old new in
    subst (λ s. IsFlagged t s flag) (sym watches.is)
    (subst (IsFlagged t (watched (protocol scripts) number moment t seat)) (sym watches.names)
    (watched-seat scripts number moment t seat))

-- after a pass in which each watches a step, those that aren't flagged name none
pub watched-flagged : (scripts : List Script) (number moment : ℕ) (t : Step) (olds news : List (Seat Session))
    (flags : List Bool)
    → Over (Watches (protocol scripts) number moment t) olds news flags
    → AreFlagged t news flags
watched-flagged scripts number moment t [] [] flags over = tt
watched-flagged scripts number moment t [] (new ∷ news) flags over = absurd over
watched-flagged scripts number moment t (old ∷ olds) [] flags over = tt
watched-flagged scripts number moment t (old ∷ olds) (new ∷ news) [] over = absurd over
watched-flagged scripts number moment t (old ∷ olds) (new ∷ news) (flag ∷ flags) over = (
  watches-flagged scripts number moment t old new flag over.0,
  watched-flagged scripts number moment t olds news flags over.1,
)

-- one of them
pub flagged-at : (t : Step) (i : ℕ) (seats : List (Seat Session)) (flags : List Bool) (d : Seat Session) (e : Bool)
    → AreFlagged t seats flags
    → i < length seats
    → IsFlagged t (slice_index_or seats i d) (slice_index_or flags i e)
flagged-at t i [] flags d e flagged small = absurd (omega (arith, small))
flagged-at t i (seat ∷ seats) [] d e flagged small = absurd flagged
flagged-at t zero (seat ∷ seats) (flag ∷ flags) d e flagged small = flagged.0
flagged-at t (suc i) (seat ∷ seats) (flag ∷ flags) d e flagged small =
    flagged-at t i seats flags d e flagged.1 (omega (arith, small))
