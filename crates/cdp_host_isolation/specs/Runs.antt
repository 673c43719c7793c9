-- What a run of a host makes, in stretches of steps.
use Rattle.std.specs.Prelude.{◌≡◌, ◌⊎◌, ◌<◌, ◌≤◌, ℕ, List, [], ◌∷◌, Bool, true, false, if◌then◌else◌}
use Rattle.cdp_host_isolation.specs.Seats.{fallen, some}
use Rattle.cdp_host_isolation.specs.Protocols.{Protocol}
use Rattle.cdp_host_isolation.specs.Meanings.{Meaning, after_run, after_steps, is_ready, kept, session_behind}
use Rattle.cdp_host_isolation.specs.Standing.{fallen_in, fell}
use Rattle.cdp_host_isolation.specs.Texts.{Fits}
use Rattle.cdp_host_isolation.specs.declared.seat.Seat.{Seat}
use Rattle.cdp_host_isolation.specs.declared.seat.Seat.TheVariants.{Attached, Lost, Left}

-- so many steps at a moment lead from one to the other, each made where the program is ready; the last of them alone
-- loses sessions for want of memory, and these are gone
pub record HasMade {C T Q X : Type 0} (P : Protocol C T Q X) (moment : ℕ) (m n : Meaning C Q X) (k : ℕ) : Type 0 where
  pub reached : n ≡ after_run P moment (fallen_in n.seats) k m
  pub ready : (j : ℕ) → j < k → is_ready P (after_steps P moment j m) ≡ true

-- the length of a run of at most so many steps that led there: nothing but that number or where it led ends it
pub record IsLongest {C T Q X : Type 0} (P : Protocol C T Q X) (moment most : ℕ) (m n : Meaning C Q X) (k : ℕ)
    : Type 0 where
  pub within : k ≤ most
  pub made : HasMade P moment m n k
  pub full : (k ≡ most) ⊎ (is_ready P n ≡ false)

-- ---- steps that nobody is told of

-- an attached session names a step that told this
abbrev pub names_seat : {C T Q X : Type 0} → Protocol C T Q X → T → Seat X → Bool
names_seat P t (Attached x) = P.names t x
names_seat P t (Lost loss is_reported is_told) = false
names_seat P t Left = false

-- the texts that wait for each session fit
abbrev pub AllFit : {C T Q X : Type 0} → Protocol C T Q X → List (Seat X) → Type 0
AllFit P [] = Unit {0}
AllFit P (seat ∷ seats) = Fits P seat × AllFit P seats

-- a step that told this is told to no session, and none of these names it
pub record IsQuiet {C T Q X : Type 0} (P : Protocol C T Q X) (moment : ℕ) (t : T) (seats : List (Seat X)) : Type 0 where
  pub silent : (x : X) → P.told moment t x ≡ x
  pub unnamed : some (names_seat P t) seats ≡ false

-- ---- one seat after another

-- the seat before what was done to it, where want of memory in that came first
abbrev pub mid : {X : Type 0} → Seat X → Seat X → Seat X
mid old new = if fell new then fallen old else old

-- the seats before what was done to each of them; one that nothing was done to yet stays as it is
abbrev pub mids : {X : Type 0} → List (Seat X) → List (Seat X) → List (Seat X)
mids [] news = []
mids (old ∷ olds) [] = old ∷ olds
mids (old ∷ olds) (new ∷ news) = mid old new ∷ mids olds news

-- a seat that was told of a step, and of the stop if it names one
abbrev pub watched : {C T Q X : Type 0} → Protocol C T Q X → ℕ → ℕ → T → Seat X → Seat X
watched P number moment t (Attached x) = kept P (session_behind P number moment t x)
watched P number moment t (Lost loss is_reported is_told) = Lost loss is_reported is_told
watched P number moment t Left = Left

-- a seat that was told of the stop that another session named
abbrev pub stopped_seat : {C T Q X : Type 0} → Protocol C T Q X → ℕ → T → Seat X → Seat X
stopped_seat P number t (Attached x) = kept P (P.stopped number t x)
stopped_seat P number t (Lost loss is_reported is_told) = Lost loss is_reported is_told
stopped_seat P number t Left = Left
