-- The texts that are made for a session, in order, and what becomes of them.
use Rattle.std.specs.Prelude.{◌≡◌, ℕ, zero, suc, List, [], ◌∷◌, ◌++◌, Bool, true, false, if◌then◌else◌, Option}
use Rattle.cdp_host_isolation.specs.Protocols.{Protocol}
use Rattle.cdp_host_isolation.specs.Meanings.{next_number}
use Rattle.cdp_host_isolation.specs.Alone.{Alone, Seen, Came, Told, Took, Went, Passed, Resumed, one_step, passing, run, see, unless_listed}
use Rattle.cdp_host_isolation.specs.declared.seat.Seat.{Seat}
use Rattle.cdp_host_isolation.specs.declared.seat.Seat.TheVariants.{Attached, Lost, Left}

-- the texts that a protocol makes for a session: the answer to a text, the event of a resume, what it is told of a
-- step, and the event of a stop
pub record Texts {C T Q X : Type 0} (P : Protocol C T Q X) : Type 0 where
  pub reply : Option Q → C → List ℕ → X → List (List ℕ)
  pub resumed : X → List (List ℕ)
  pub told : ℕ → T → X → List (List ℕ)
  pub stopped : ℕ → T → X → List (List ℕ)

-- they come behind those that wait; taking them leaves none, and at first there is none
pub record AreSent {C T Q X : Type 0} (P : Protocol C T Q X) (E : Texts P) : Type 0 where
  pub reply : (q : Option Q) (c : C) (text : List ℕ) (x : X)
      → P.outbox (P.reply q c text x) ≡ P.outbox x ++ E.reply q c text x
  pub resumed : (x : X) → P.outbox (P.resumed x) ≡ P.outbox x ++ E.resumed x
  pub told : (moment : ℕ) (t : T) (x : X) → P.outbox (P.told moment t x) ≡ P.outbox x ++ E.told moment t x
  pub stopped : (number : ℕ) (t : T) (x : X) → P.outbox (P.stopped number t x) ≡ P.outbox x ++ E.stopped number t x
  pub emptied : (x : X) → P.outbox (P.emptied x) ≡ []
  pub fresh : (s : ℕ) → P.outbox (P.fresh s) ≡ []

-- the texts of a resume, where the program is said to go on
abbrev pub resume_texts : {C T Q X : Type 0} → (P : Protocol C T Q X) → Texts P → Bool → Seat X → List (List ℕ)
resume_texts P E true (Attached x) = E.resumed x
resume_texts P E true (Lost loss is_reported is_told) = []
resume_texts P E true Left = []
resume_texts P E false seat = []

-- the texts for what a session told
abbrev pub reply_texts : {C T Q X : Type 0}
    → (P : Protocol C T Q X)
    → Texts P
    → List ℕ
    → Bool
    → Alone C Q X
    → Seat X
    → List (List ℕ)
reply_texts P E text resumed a (Attached x) =
    E.reply a.stop a.program text x ++ resume_texts P E resumed (Attached (P.reply a.stop a.program text x))
reply_texts P E text resumed a (Lost loss is_reported is_told) = []
reply_texts P E text resumed a Left = []

-- those of one step at which the program stops, or doesn't: what is told of the step, and of a stop
abbrev pub step_texts : {C T Q X : Type 0}
    → (P : Protocol C T Q X)
    → Texts P
    → ℕ
    → Bool
    → Alone C Q X
    → Seat X
    → List (List ℕ)
step_texts P E moment stops a (Attached x) =
    E.told moment (P.tells a.first a.program) x ++
    (if stops then E.stopped (next_number a.stops) (P.tells a.first a.program)
    (P.told moment (P.tells a.first a.program) x) else [])
step_texts P E moment stops a (Lost loss is_reported is_told) = []
step_texts P E moment stops a Left = []

-- the texts of so many steps at which the program doesn't stop
abbrev pub passing_texts : {C T Q X : Type 0} → (P : Protocol C T Q X) → Texts P → ℕ → ℕ → Alone C Q X → List (List ℕ)
passing_texts P E moment zero a = []
passing_texts P E moment (suc n) a =
    step_texts P E moment false a a.seat ++ passing_texts P E moment n (one_step P moment false a)

-- the texts of a run
abbrev pub run_texts : {C T Q X : Type 0}
    → (P : Protocol C T Q X)
    → Texts P
    → ℕ
    → ℕ
    → Bool
    → Bool
    → Alone C Q X
    → List (List ℕ)
run_texts P E moment zero stops listed a = []
run_texts P E moment (suc n) stops listed a =
    passing_texts P E moment n a ++ step_texts P E moment stops (unless_listed listed (passing P moment n a))
    (unless_listed listed (passing P moment n a)).seat

-- the texts that are made for a session by what it sees; one whose texts don't fit is lost with them
abbrev pub made_at : {C T Q X : Type 0} → (P : Protocol C T Q X) → Texts P → Alone C Q X → Seen → List (List ℕ)
made_at P E a Came = []
made_at P E a (Told text resumed) = reply_texts P E text resumed a a.seat
made_at P E a Took = []
made_at P E a (Went resumed) = []
made_at P E a (Passed n moment stops listed resumed) =
    run_texts P E moment n stops listed a ++ resume_texts P E resumed (run P moment n stops listed a).seat
made_at P E a Resumed = resume_texts P E true a.seat

-- the texts of a whole view
abbrev pub made_of : {C T Q X : Type 0} → (P : Protocol C T Q X) → Texts P → ℕ → Alone C Q X → List Seen → List (List ℕ)
made_of P E s a [] = []
made_of P E s a (seen ∷ view) = made_at P E a seen ++ made_of P E s (see P s a seen) view

-- These texts were handed out, and of those that were made the others wait for the session, while it is attached; where
-- it isn't, they are the first.
abbrev pub Keeps : {C T Q X : Type 0} → Protocol C T Q X → List (List ℕ) → Seat X → List (List ℕ) → Type 0
Keeps P handed (Attached x) made = handed ++ P.outbox x ≡ made
Keeps P handed (Lost loss is_reported is_told) made = (rest : List (List ℕ)) × (made ≡ handed ++ rest)
Keeps P handed Left made = (rest : List (List ℕ)) × (made ≡ handed ++ rest)

-- no more texts wait for a session than may
abbrev pub Fits : {C T Q X : Type 0} → Protocol C T Q X → Seat X → Type 0
Fits P (Attached x) = P.fits x ≡ true
Fits P (Lost loss is_reported is_told) = Unit {0}
Fits P Left = Unit {0}

-- what is taken and what is new has room, and a session that fits behind a step with its stop fits without it
pub record HasRoom {C T Q X : Type 0} (P : Protocol C T Q X) : Type 0 where
  pub emptied : (x : X) → P.fits (P.emptied x) ≡ true
  pub fresh : (s : ℕ) → P.fits (P.fresh s) ≡ true
  pub stopped : (number moment : ℕ) (t : T) (x : X)
      → P.fits (P.stopped number t (P.told moment t x)) ≡ true
      → P.fits (P.told moment t x) ≡ true
