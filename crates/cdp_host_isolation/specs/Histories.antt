-- Histories of a host and what they mean.
use Rattle.std.specs.Prelude.{◌≡◌, ℕ, ◌+◌, ◌<◌, List, [], ◌∷◌, ◌++◌, length, Bool, true, false, ◌==◌, fold, if◌then◌else◌}
use Rattle.cdp_host_isolation.specs.Seats.{each, put, reported, seat_of}
use Rattle.cdp_host_isolation.specs.Protocols.{Protocol}
use Rattle.cdp_host_isolation.specs.Meanings.{Meaning, after_run, after_steps, begin, is_ready, resume, settle, with_seats, woken}
use Rattle.cdp_host_isolation.specs.declared.seat.Seat.{Seat}
use Rattle.cdp_host_isolation.specs.declared.seat.Seat.TheVariants.{Attached, Lost, Left}

-- what may befall a host
pub data Entry : Type 0 where
  Attach : Entry
  -- a session's number and the text of its command
  Tell : ℕ → List ℕ → Entry
  Take : ℕ → Entry
  Detach : ℕ → Entry
  -- the steps that were made; the moment at which they were, in milliseconds since the epoch; the numbers of the
  -- sessions that were lost for want of memory
  Ran : ℕ → ℕ → List ℕ → Entry
  Shut : Entry

-- ---- what each entry does

-- the session of this number has another seat
abbrev pub with_seat : {C Q X : Type 0} → ℕ → Seat X → Meaning C Q X → Meaning C Q X
with_seat s seat m = record m { seats = put s seat m.seats }

-- a session more, under the next number
abbrev pub attach : {C T Q X : Type 0} → Protocol C T Q X → Meaning C Q X → Meaning C Q X
attach P m = record m { seats = m.seats ++ Attached (P.fresh (length m.seats + 1)) ∷ [] }

-- what is asked of the program: to go on, or to begin, or neither
abbrev pub asked : {C T Q X : Type 0} → Protocol C T Q X → Bool → Bool → Meaning C Q X → Meaning C Q X
asked P true wakes m = resume P m
asked P false true m = settle P (record m { phase = woken m.phase })
asked P false false m = settle P m

-- behind a text of a session; one whose texts don't fit is detached
abbrev pub told : {C T Q X : Type 0} → Protocol C T Q X → ℕ → List ℕ → Meaning C Q X → X → Meaning C Q X
told P s text m x =
    if P.fits (P.reply m.stop m.program text x)
    then asked P (P.resumes m.stop m.program text x) (P.wakes m.stop m.program text x)
    (with_seat s (Attached (P.reply m.stop m.program text x)) m)
    else settle P (with_seat s Left m)

-- a text of a session, if it is attached
abbrev pub tell : {C T Q X : Type 0} → Protocol C T Q X → ℕ → List ℕ → Meaning C Q X → Seat X → Meaning C Q X
tell P s text m (Attached x) = told P s text m x
tell P s text m (Lost loss is_reported is_told) = m
tell P s text m Left = m

-- the texts of a session are handed out, if it is attached
abbrev pub take : {C T Q X : Type 0} → Protocol C T Q X → ℕ → Meaning C Q X → Seat X → Meaning C Q X
take P s m (Attached x) = with_seat s (Attached (P.emptied x)) m
take P s m (Lost loss is_reported is_told) = m
take P s m Left = m

-- it is detached; of one that was lost its owner is told
abbrev pub detach : {C T Q X : Type 0} → Protocol C T Q X → ℕ → Meaning C Q X → Seat X → Meaning C Q X
detach P s m (Attached x) = settle P (with_seat s Left m)
detach P s m (Lost loss is_reported is_told) = with_seat s (Lost loss is_reported true) m
detach P s m Left = m

-- so many steps, which report the losses
abbrev pub ran : {C T Q X : Type 0} → Protocol C T Q X → ℕ → ℕ → List ℕ → Meaning C Q X → Meaning C Q X
ran P n moment gone m =
    settle P (with_seats (each reported (after_run P moment gone n m).seats) (after_run P moment gone n m))

-- one entry; one of a session that isn't attached changes nothing that others see
abbrev pub apply : {C T Q X : Type 0} → Protocol C T Q X → Meaning C Q X → Entry → Meaning C Q X
apply P m Attach = attach P m
apply P m (Tell s text) = tell P s text m (seat_of s m.seats)
apply P m (Take s) = take P s m (seat_of s m.seats)
apply P m (Detach s) = detach P s m (seat_of s m.seats)
apply P m (Ran n moment gone) = ran P n moment gone m
apply P m Shut = record m { shut = true }

-- what a whole history means
abbrev pub whole : {C T Q X : Type 0} → Protocol C T Q X → C → Bool → List Entry → Meaning C Q X
whole P c wait history = fold (apply P) (begin c wait) history

-- ---- which lists of entries are histories

-- each step of a run is made where the program is ready: so only the last one stops it, ends it or loses a session
abbrev pub FitsEntry : {C T Q X : Type 0} → Protocol C T Q X → Meaning C Q X → Entry → Type 0
FitsEntry P m Attach = Unit {0}
FitsEntry P m (Tell s text) = Unit {0}
FitsEntry P m (Take s) = Unit {0}
FitsEntry P m (Detach s) = Unit {0}
FitsEntry P m (Ran n moment gone) = (j : ℕ) → j < n → is_ready P (after_steps P moment j m) ≡ true
FitsEntry P m Shut = Unit {0}

-- each step of each run of a history is made where the program is ready
abbrev pub FitsAll : {C T Q X : Type 0} → Protocol C T Q X → Meaning C Q X → List Entry → Type 0
FitsAll P m [] = Unit {0}
FitsAll P m (entry ∷ history) = FitsEntry P m entry × FitsAll P (apply P m entry) history

-- ---- steps

-- the steps that an entry made
abbrev pub steps_of : Entry → ℕ
steps_of Attach = 0
steps_of (Tell s text) = 0
steps_of (Take s) = 0
steps_of (Detach s) = 0
steps_of (Ran n moment gone) = n
steps_of Shut = 0

-- the steps that a history made
abbrev pub steps_made : List Entry → ℕ
steps_made [] = 0
steps_made (entry ∷ history) = steps_of entry + steps_made history

-- ---- what is handed out

-- the texts that wait for an attached session
abbrev pub waiting : {C T Q X : Type 0} → Protocol C T Q X → Seat X → List (List ℕ)
waiting P (Attached x) = P.outbox x
waiting P (Lost loss is_reported is_told) = []
waiting P Left = []

-- what an entry hands out to the session of this number
abbrev pub handed_at : {C T Q X : Type 0} → Protocol C T Q X → ℕ → Meaning C Q X → Entry → List (List ℕ)
handed_at P s m Attach = []
handed_at P s m (Tell r text) = []
handed_at P s m (Take r) = if r == s then waiting P (seat_of r m.seats) else []
handed_at P s m (Detach r) = []
handed_at P s m (Ran n moment gone) = []
handed_at P s m Shut = []

-- what a history hands out to it, in order
abbrev pub handed_of : {C T Q X : Type 0} → Protocol C T Q X → ℕ → Meaning C Q X → List Entry → List (List ℕ)
handed_of P s m [] = []
handed_of P s m (entry ∷ history) = handed_at P s m entry ++ handed_of P s (apply P m entry) history
