-- What two passes over all seats do for one step: in the first each session watches it, in the second those are told of
-- a stop that didn't name it.
use Rattle.std.specs.Prelude.{◌≡◌, ℕ, zero, suc, List, [], ◌∷◌, Bool, false, ◌||◌, if◌then◌else◌}
use Rattle.cdp_host_isolation.specs.Protocols.{Protocol}
use Rattle.cdp_host_isolation.specs.Meanings.{resumed_seat, seat_behind, stops_for}
use Rattle.cdp_host_isolation.specs.Runs.{mid, stopped_seat, watched}
use Rattle.cdp_host_isolation.specs.Standing.{fell}
use Rattle.cdp_host_isolation.specs.Seats.{fallen}
use Rattle.cdp_host_isolation.specs.Texts.{Fits}
use Rattle.cdp_host_isolation.specs.declared.seat.Seat.{Seat}

-- ---- one seat

-- the session of the seat watched the step, unless memory wanted, and this says whether it named it
pub record Watches {C T Q X : Type 0} (P : Protocol C T Q X) (number moment : ℕ) (t : T) (old new : Seat X)
    (named : Bool) : Type 0 where
  pub is : new ≡ watched P number moment t (mid old new)
  pub names : named ≡ stops_for P number moment t (mid old new)
  pub room : Fits P new

-- it was told of the stop, unless memory wanted; one that named it was told before
pub record HearsOf {C T Q X : Type 0} (P : Protocol C T Q X) (number : ℕ) (t : T) (old new : Seat X) (named : Bool)
    : Type 0 where
  pub is : new ≡ (if named then old else stopped_seat P number t (mid old new))
  pub room : Fits P new

-- what both passes come to
pub record Behind {C T Q X : Type 0} (P : Protocol C T Q X) (stops : Bool) (number moment : ℕ) (t : T)
    (old new : Seat X) (named : Bool) : Type 0 where
  pub is : new ≡ seat_behind P stops number moment t (mid old new)
  pub names : named ≡ stops_for P number moment t (mid old new)
  pub room : Fits P new

-- the session was told that the program goes on, unless memory wanted for that
pub record HearsOn {C T Q X : Type 0} (P : Protocol C T Q X) (old new : Seat X) : Type 0 where
  pub is : new ≡ (if fell new then fallen (resumed_seat P old) else resumed_seat P old)
  pub room : Fits P new

-- ---- one seat after another

-- the relation holds of the first seats, so many, with their flags, which are there from the beginning; the others are
-- as they were
abbrev pub GoesAlong : {X : Type 0}
    → (Seat X → Seat X → Bool → Type 0)
    → ℕ
    → List (Seat X)
    → List (Seat X)
    → List Bool
    → Type 0
GoesAlong R zero olds news flags = news ≡ olds
GoesAlong R (suc i) [] news flags = ⊥
GoesAlong R (suc i) (old ∷ olds) [] flags = ⊥
GoesAlong R (suc i) (old ∷ olds) (new ∷ news) [] = ⊥
GoesAlong R (suc i) (old ∷ olds) (new ∷ news) (flag ∷ flags) = R old new flag × GoesAlong R i olds news flags

-- a relation that asks for no flag holds of the first seats, so many; the others are as they were
abbrev pub GoesOn : {X : Type 0} → (Seat X → Seat X → Type 0) → ℕ → List (Seat X) → List (Seat X) → Type 0
GoesOn R zero olds news = news ≡ olds
GoesOn R (suc i) [] news = ⊥
GoesOn R (suc i) (old ∷ olds) [] = ⊥
GoesOn R (suc i) (old ∷ olds) (new ∷ news) = R old new × GoesOn R i olds news

-- ---- all seats

-- the relation holds of all seats, with their flags
abbrev pub Over : {X : Type 0} → (Seat X → Seat X → Bool → Type 0) → List (Seat X) → List (Seat X) → List Bool → Type 0
Over R [] [] [] = Unit {0}
Over R [] [] (flag ∷ flags) = ⊥
Over R [] (new ∷ news) flags = ⊥
Over R (old ∷ olds) [] flags = ⊥
Over R (old ∷ olds) (new ∷ news) [] = ⊥
Over R (old ∷ olds) (new ∷ news) (flag ∷ flags) = R old new flag × Over R olds news flags

-- a relation that asks for no flag holds of all seats
abbrev pub OverAll : {X : Type 0} → (Seat X → Seat X → Type 0) → List (Seat X) → List (Seat X) → Type 0
OverAll R [] [] = Unit {0}
OverAll R [] (new ∷ news) = ⊥
OverAll R (old ∷ olds) [] = ⊥
OverAll R (old ∷ olds) (new ∷ news) = R old new × OverAll R olds news

-- one of the flags is set
abbrev pub any_set : List Bool → Bool
any_set [] = false
any_set (flag ∷ flags) = flag || any_set flags
