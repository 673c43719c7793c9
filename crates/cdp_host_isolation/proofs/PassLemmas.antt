-- What two passes over all seats come to: those behind one step, and those behind a resume.
use Rattle.std.proofs.Common.{◌≡◌, ℕ, List, [], ◌∷◌, Bool, true, false, ◌||◌, ◌&&◌, if◌then◌else◌, refl, ap, sym, ◌∙◌}
use Rattle.std.proofs.lemmas.Bool.{or_parts}
use Rattle.cdp_host_isolation.specs.Seats.{each, fallen, lost_by, some, without}
use Rattle.cdp_host_isolation.specs.Protocols.{Protocol}
use Rattle.cdp_host_isolation.specs.Meanings.{kept, resumed_seat, seat_behind, session_behind, stops_for, survives}
use Rattle.cdp_host_isolation.specs.Standing.{fallen_in, fell}
use Rattle.cdp_host_isolation.specs.Runs.{AllFit, mid, mids, stopped_seat, watched}
use Rattle.cdp_host_isolation.specs.Passes.{Behind, HearsOf, HearsOn, Over, OverAll, Watches, any_set}
use Rattle.cdp_host_isolation.specs.declared.seat.Loss.TheVariants.{Overrun, Memory}
use Rattle.cdp_host_isolation.specs.declared.seat.Seat.{Seat}
use Rattle.cdp_host_isolation.specs.declared.seat.Seat.TheVariants.{Attached, Lost, Left}
use Rattle.cdp_host_isolation.proofs.FallenLemmas.{fallen-twice, mids-less}

-- ---- a step that nobody names

passed-session : {C T Q X : Type 0} → (P : Protocol C T Q X) (number moment : ℕ) (t : T) (x : X) (lasts named : Bool)
    → P.fits (if named then P.stopped number t (P.told moment t x) else P.told moment t x) ≡ lasts
    → (lasts && named) ≡ false
    → (if lasts then Attached (if named then P.stopped number t (P.told moment t x) else P.told moment t x)
    else lost_by Overrun)
    ≡ (if lasts then Attached (P.told moment t x) else lost_by Overrun)
passed-session P number moment t x true true fits none = absurd cc
passed-session P number moment t x true false fits none = refl
passed-session P number moment t x false named fits none = refl

-- where a seat doesn't stop the program, watching the step is all
passed-seat : {C T Q X : Type 0}
    → (P : Protocol C T Q X) (number moment : ℕ) (t : T) (seat : Seat X)
    → stops_for P number moment t seat ≡ false
    → watched P number moment t seat ≡ seat_behind P false number moment t seat
passed-seat P number moment t (Attached x) none =
    passed-session P number moment t x (survives P number moment t x) (P.names t x) refl none
passed-seat P number moment t (Lost loss is_reported is_told) none = refl
passed-seat P number moment t Left none = refl

passed-one : {C T Q X : Type 0} → (P : Protocol C T Q X) (number moment : ℕ) (t : T) (old new : Seat X) (flag : Bool)
    → Watches P number moment t old new flag → flag ≡ false → Behind P false number moment t old new flag
passed-one P number moment t old new flag w none =
    record {
      is = w.is
          ∙ passed-seat P number moment t (mid old new) (sym w.names ∙ none);
      names = w.names;
      room = w.room;
    }

-- a step that no session names is behind the first pass
pub behind-passed : {C T Q X : Type 0}
    → (P : Protocol C T Q X) (number moment : ℕ) (t : T) (olds news : List (Seat X)) (flags : List Bool)
    → Over (Watches P number moment t) olds news flags
    → any_set flags ≡ false
    → Over (Behind P false number moment t) olds news flags
behind-passed P number moment t [] [] [] over none = tt
behind-passed P number moment t [] [] (flag ∷ flags) over none = absurd over
behind-passed P number moment t [] (new ∷ news) flags over none = absurd over
behind-passed P number moment t (old ∷ olds) [] flags over none = absurd over
behind-passed P number moment t (old ∷ olds) (new ∷ news) [] over none = absurd over
behind-passed P number moment t (old ∷ olds) (new ∷ news) (flag ∷ flags) over none =
    let parts = or_parts flag (any_set flags) none in (
      passed-one P number moment t old new flag over.0 parts.0,
      behind-passed P number moment t olds news flags over.1 parts.1,
    )

-- ---- a step that the program stops at

-- nothing is done to a seat that fell

watched-fallen : {C T Q X : Type 0} → (P : Protocol C T Q X) (number moment : ℕ) (t : T) (seat : Seat X)
    → watched P number moment t (fallen seat) ≡ fallen seat
watched-fallen P number moment t (Attached x) = refl
watched-fallen P number moment t (Lost loss is_reported is_told) = refl
watched-fallen P number moment t Left = refl

stopped-fallen : {C T Q X : Type 0} → (P : Protocol C T Q X) (number : ℕ) (t : T) (seat : Seat X)
    → stopped_seat P number t (fallen seat) ≡ fallen seat
stopped-fallen P number t (Attached x) = refl
stopped-fallen P number t (Lost loss is_reported is_told) = refl
stopped-fallen P number t Left = refl

behind-fallen : {C T Q X : Type 0} → (P : Protocol C T Q X) (stops : Bool) (number moment : ℕ) (t : T) (seat : Seat X)
    → seat_behind P stops number moment t (fallen seat) ≡ fallen seat
behind-fallen P stops number moment t (Attached x) = refl
behind-fallen P stops number moment t (Lost loss is_reported is_told) = refl
behind-fallen P stops number moment t Left = refl

pub unnamed-fallen : {C T Q X : Type 0} → (P : Protocol C T Q X) (number moment : ℕ) (t : T) (seat : Seat X)
    → stops_for P number moment t (fallen seat) ≡ false
unnamed-fallen P number moment t (Attached x) = refl
unnamed-fallen P number moment t (Lost loss is_reported is_told) = refl
unnamed-fallen P number moment t Left = refl

stopped-fell : {C T Q X : Type 0} → (P : Protocol C T Q X) (number : ℕ) (t : T) (seat : Seat X) → fell seat ≡ true
    → stopped_seat P number t seat ≡ seat
stopped-fell P number t (Attached x) is = absurd cc
stopped-fell P number t (Lost loss is_reported is_told) is = refl
stopped-fell P number t Left is = refl

named-session : {C T Q X : Type 0} → (P : Protocol C T Q X) (number moment : ℕ) (t : T) (x : X) (lasts named : Bool)
    → P.fits (if named then P.stopped number t (P.told moment t x) else P.told moment t x) ≡ lasts
    → (lasts && named) ≡ true
    → (if lasts then Attached (if named then P.stopped number t (P.told moment t x) else P.told moment t x)
    else lost_by Overrun)
    ≡ (if lasts then kept P (P.stopped number t (P.told moment t x)) else lost_by Overrun)
named-session P number moment t x true true fits names = rw fits refl
named-session P number moment t x true false fits names = absurd cc
named-session P number moment t x false named fits names = absurd cc

-- one that names the step was told all of it by watching
named-seat : {C T Q X : Type 0}
    → (P : Protocol C T Q X) (number moment : ℕ) (t : T) (seat : Seat X)
    → stops_for P number moment t seat ≡ true
    → watched P number moment t seat ≡ seat_behind P true number moment t seat
named-seat P number moment t (Attached x) names =
    named-session P number moment t x (survives P number moment t x) (P.names t x) refl names
named-seat P number moment t (Lost loss is_reported is_told) names = absurd cc
named-seat P number moment t Left names = absurd cc

unnamed-session : {C T Q X : Type 0} → (P : Protocol C T Q X) (number moment : ℕ) (t : T) (x : X) (lasts named : Bool)
    → (lasts && named) ≡ false
    → stopped_seat P number t
    (if lasts then Attached (if named then P.stopped number t (P.told moment t x) else P.told moment t x)
    else lost_by Overrun)
    ≡ (if lasts then kept P (P.stopped number t (P.told moment t x)) else lost_by Overrun)
unnamed-session P number moment t x true true none = absurd cc
unnamed-session P number moment t x true false none = refl
unnamed-session P number moment t x false named none = refl

-- another was then told of the stop
unnamed-seat : {C T Q X : Type 0}
    → (P : Protocol C T Q X) (number moment : ℕ) (t : T) (seat : Seat X)
    → stops_for P number moment t seat ≡ false
    → stopped_seat P number t (watched P number moment t seat) ≡ seat_behind P true number moment t seat
unnamed-seat P number moment t (Attached x) none =
    unnamed-session P number moment t x (survives P number moment t x) (P.names t x) none
unnamed-seat P number moment t (Lost loss is_reported is_told) none = refl
unnamed-seat P number moment t Left none = refl

kept-fallen : {C T Q X : Type 0}
    → (P : Protocol C T Q X) (x : X) (b : Bool)
    → fell (fallen (if b then Attached x else lost_by Overrun)) ≡ true
    → fallen (if b then Attached x else lost_by Overrun) ≡ lost_by Memory
kept-fallen P x true is = refl
kept-fallen P x false is = absurd cc

-- one that fell behind watching leaves what it would have left before
watched-then-fallen : {C T Q X : Type 0} → (P : Protocol C T Q X) (number moment : ℕ) (t : T) (seat : Seat X)
    → fell (fallen (watched P number moment t seat)) ≡ true → fallen (watched P number moment t seat) ≡ fallen seat
watched-then-fallen P number moment t (Attached x) is =
    let y = session_behind P number moment t x in kept-fallen P y (P.fits y) is
watched-then-fallen P number moment t (Lost loss is_reported is_told) is = refl
watched-then-fallen P number moment t Left is = refl

-- one fell, where watching was this seat
stopped-low : {C T Q X : Type 0} → (P : Protocol C T Q X) (number moment : ℕ) (t : T) (old middle : Seat X) (b : Bool)
    → middle ≡ watched P number moment t (if b then fallen old else old)
    → fell (fallen middle) ≡ true
    → fallen middle ≡ fallen old
stopped-low P number moment t old middle true is low =
    ap (λ seat. fallen seat) (is ∙ watched-fallen P number moment t old) ∙ fallen-twice old
stopped-low P number moment t old middle false is low =
    ap (λ seat. fallen seat) is
    ∙ watched-then-fallen P number moment t old (ap (λ seat. fell (fallen seat)) (sym is) ∙ low)

-- none fell
stopped-high : {C T Q X : Type 0}
    → (P : Protocol C T Q X) (number moment : ℕ) (t : T) (old middle new : Seat X) (b : Bool)
    → fell middle ≡ b → middle ≡ watched P number moment t (if b then fallen old else old)
    → false ≡ stops_for P number moment t (if b then fallen old else old)
    → new ≡ stopped_seat P number t middle
    → fell new ≡ false
    → (new ≡ seat_behind P true number moment t old) × (false ≡ stops_for P number moment t old)
stopped-high P number moment t old middle new true low is names hears high =
    let e : fell new ≡ true = ap (λ seat. fell seat) (hears ∙ stopped-fell P number t middle low) ∙ low in
    absurd cc
stopped-high P number moment t old middle new false low is names hears high = (
  hears ∙ ap (λ seat. stopped_seat P number t seat) is ∙ unnamed-seat P number moment t old (sym names),
  names,
)

-- one that didn't name the step
stopped-unnamed : {C T Q X : Type 0}
    → (P : Protocol C T Q X) (number moment : ℕ) (t : T) (old middle new : Seat X) (b : Bool)
    → fell new ≡ b
    → Watches P number moment t old middle false → new ≡ stopped_seat P number t (if b then fallen middle else middle)
    → (new ≡ seat_behind P true number moment t (if b then fallen old else old))
    × (false ≡ stops_for P number moment t (if b then fallen old else old))
stopped-unnamed P number moment t old middle new true fall w hears =
    let is : new ≡ fallen middle = hears ∙ stopped-fallen P number t middle in
    let low : fell (fallen middle) ≡ true = ap (λ seat. fell seat) (sym is) ∙ fall in (
      is
          ∙ stopped-low P number moment t old middle (fell middle) w.is low
          ∙ sym (behind-fallen P true number moment t old),
      sym (unnamed-fallen P number moment t old),
    )
stopped-unnamed P number moment t old middle new false fall w hears =
    stopped-high P number moment t old middle new (fell middle) refl w.is w.names hears fall

-- one seat behind both passes
stopped-one : {C T Q X : Type 0}
    → (P : Protocol C T Q X) (number moment : ℕ) (t : T) (old middle new : Seat X) (flag : Bool)
    → Watches P number moment t old middle flag
    → HearsOf P number t middle new flag
    → Behind P true number moment t old new flag
stopped-one P number moment t old middle new true w h =
    let same : mid old middle ≡ mid old new = ap (λ seat. mid old seat) (sym h.is) in
    record {
      is =
          h.is
          ∙ w.is
          ∙ named-seat P number moment t (mid old middle) (sym w.names)
          ∙ ap (λ seat. seat_behind P true number moment t seat) same;
      names = w.names ∙ ap (λ seat. stops_for P number moment t seat) same;
      room = h.room;
    }
stopped-one P number moment t old middle new false w h =
    let both = stopped-unnamed P number moment t old middle new (fell new) refl w h.is in
    record { is = both.0; names = both.1; room = h.room }

-- a step that a session names is behind both passes
pub behind-stopped : {C T Q X : Type 0}
    → (P : Protocol C T Q X) (number moment : ℕ) (t : T) (olds middle news : List (Seat X)) (flags : List Bool)
    → Over (Watches P number moment t) olds middle flags → Over (HearsOf P number t) middle news flags
    → Over (Behind P true number moment t) olds news flags
behind-stopped P number moment t [] [] [] [] first second = tt
behind-stopped P number moment t [] [] [] (flag ∷ flags) first second = absurd first
behind-stopped P number moment t [] [] (new ∷ news) flags first second = absurd second
behind-stopped P number moment t [] (here ∷ middle) news flags first second = absurd first
behind-stopped P number moment t (old ∷ olds) [] news flags first second = absurd first
behind-stopped P number moment t (old ∷ olds) (here ∷ middle) news [] first second = absurd first
behind-stopped P number moment t (old ∷ olds) (here ∷ middle) [] (flag ∷ flags) first second = absurd second
behind-stopped P number moment t (old ∷ olds) (here ∷ middle) (new ∷ news) (flag ∷ flags) first second = (
  stopped-one P number moment t old here new flag first.0 second.0,
  behind-stopped P number moment t olds middle news flags first.1 second.1,
)

-- ---- all seats behind a step

-- the seats, the flag and the room of a pass are those of the step
pub behind-each : {C T Q X : Type 0} → (P : Protocol C T Q X) (stops : Bool) (number moment : ℕ) (t : T)
    → (olds news : List (Seat X)) (flags : List Bool) → Over (Behind P stops number moment t) olds news flags
    → (news ≡ each (seat_behind P stops number moment t) (mids olds news))
    × (any_set flags ≡ some (stops_for P number moment t) (mids olds news))
    × AllFit P news
behind-each P stops number moment t [] [] [] over = (refl, refl, tt)
behind-each P stops number moment t [] [] (flag ∷ flags) over = absurd over
behind-each P stops number moment t [] (new ∷ news) flags over = absurd over
behind-each P stops number moment t (old ∷ olds) [] flags over = absurd over
behind-each P stops number moment t (old ∷ olds) (new ∷ news) [] over = absurd over
behind-each P stops number moment t (old ∷ olds) (new ∷ news) (flag ∷ flags) over =
    let one = over.0 in
    let rest = behind-each P stops number moment t olds news flags over.1 in (
      ap (λ seat. seat ∷ news) one.is ∙ ap (λ seats. seat_behind P stops number moment t (mid old new) ∷ seats) rest.0,
      ap (λ b. b || any_set flags) one.names ∙ ap (λ b. stops_for P number moment t (mid old new) || b) rest.1,
      (one.room, rest.2),
    )

-- ---- all seats behind a resume

-- what a resume does to each, and want of memory behind it
on-mids : {C T Q X : Type 0} → (P : Protocol C T Q X) (olds news : List (Seat X)) → OverAll (HearsOn P) olds news
    → (news ≡ mids (each (resumed_seat P) olds) news) × AllFit P news
on-mids P [] [] over = (refl, tt)
on-mids P [] (new ∷ news) over = absurd over
on-mids P (old ∷ olds) [] over = absurd over
on-mids P (old ∷ olds) (new ∷ news) over =
    let one = over.0 in
    let rest = on-mids P olds news over.1 in (
      ap (λ seat. seat ∷ news) one.is ∙ ap (λ seats. mid (resumed_seat P old) new ∷ seats) rest.0,
      (one.room, rest.1),
    )

-- the seats behind a resume are what it means, but for those that fell, and have room
pub on-each : {C T Q X : Type 0} → (P : Protocol C T Q X) (olds news : List (Seat X)) → OverAll (HearsOn P) olds news
    → (news ≡ without (fallen_in news) (each (resumed_seat P) olds)) × AllFit P news
on-each P olds news over =
    let both = on-mids P olds news over in
    (both.0 ∙ mids-less (each (resumed_seat P) olds) news, both.1)

-- the seats before a pass are the old ones without those that fell
pub over-mids : {X : Type 0}
    → (R : Seat X → Seat X → Bool → Type 0) (olds news : List (Seat X)) (flags : List Bool)
    → Over R olds news flags
    → mids olds news ≡ without (fallen_in news) olds
over-mids R olds news flags over = mids-less olds news
