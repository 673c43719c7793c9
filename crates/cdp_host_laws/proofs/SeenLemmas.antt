-- What a session keeps of all that it sees, it keeps over each history.
use Rattle.std.proofs.Common.{◌≡◌, ℕ, List, Bool, if◌then◌else◌, Option, ◌∙◌}
use Rattle.cdp_host_isolation.specs.Seats.{lost_by, reported, seat_of}
use Rattle.cdp_host_isolation.specs.Protocols.{Protocol}
use Rattle.cdp_host_isolation.specs.Meanings.{begin, kept}
use Rattle.cdp_host_isolation.specs.Histories.{Entry, FitsAll, whole}
use Rattle.cdp_host_isolation.specs.Alone.{Alone, goes_on, one_step, passing, run, unless_listed}
use Rattle.cdp_host_isolation.specs.declared.seat.Loss.TheVariants.{Overrun}
use Rattle.cdp_host_isolation.specs.declared.seat.Seat.{Seat}
use Rattle.cdp_host_isolation.specs.declared.seat.Seat.TheVariants.{Attached}
use Rattle.cdp_host_laws.proofs.HeldLemmas.{Holds, KeepsOver, always-holds, goes-holds, held-at, held-choice, kept-holds, listed-holds, passing-holds, reported-holds, run-holds, step-holds, survivor-holds}

-- the session of a seat shows this, if one is attached
abbrev pub Shows : {X B : Type 0} → (X → B) → B → Seat X → Type 0
Shows f v seat = Holds (λ x. f x ≡ v) seat

-- what a host does to a session by itself doesn't change it: steps, stops and resumes
pub record KeepsPassed {C T Q X B : Type 0} (P : Protocol C T Q X) (f : X → B) : Type 0 where
  pub resumed : (x : X) → f (P.resumed x) ≡ f x
  pub told : (moment : ℕ) (t : T) (x : X) → f (P.told moment t x) ≡ f x
  pub stopped : (number : ℕ) (t : T) (x : X) → f (P.stopped number t x) ≡ f x

-- nor do a text and the taking of its texts
pub record KeepsShown {C T Q X B : Type 0} (P : Protocol C T Q X) (f : X → B) : Type 0 where
  pub passed : KeepsPassed P f
  pub reply : (q : Option Q) (c : C) (text : List ℕ) (x : X) → f (P.reply q c text x) ≡ f x
  pub emptied : (x : X) → f (P.emptied x) ≡ f x

over-shown : {C T Q X B : Type 0} → (P : Protocol C T Q X) (f : X → B) (v : B) → KeepsPassed P f
    → KeepsOver P (λ x. f x ≡ v)
over-shown P f v keeps = record {
  resumed = λ x is. keeps.resumed x ∙ is;
  told = λ moment t x is. keeps.told moment t x ∙ is;
  stopped = λ number t x is. keeps.stopped number t x ∙ is;
}

pub shown-choice : {X B : Type 0} → (f : X → B) (v : B) (b : Bool) (x : X) (other : Seat X) → f x ≡ v → Shows f v other
    → Shows f v (if b then Attached x else other)
shown-choice f v b x other is less = held-choice (λ x. f x ≡ v) b x other is less

pub kept-shows : {C T Q X B : Type 0} → (P : Protocol C T Q X) (f : X → B) (v : B) (x : X) → f x ≡ v
    → Shows f v (kept P x)
kept-shows P f v x is = kept-holds P (λ x. f x ≡ v) x is

pub goes-shows : {C T Q X B : Type 0} → (P : Protocol C T Q X) (f : X → B) → ((x : X) → f (P.resumed x) ≡ f x) → (v : B) (resumed : Bool)
    (a : Alone C Q X) → Shows f v a.seat → Shows f v (goes_on P resumed a).seat
goes-shows P f keeps v resumed a is = goes-holds P (λ x. f x ≡ v) (λ x same. keeps x ∙ same) resumed a is

pub reported-shows : {X B : Type 0} → (f : X → B) (v : B) (seat : Seat X) → Shows f v seat → Shows f v (reported seat)
reported-shows f v seat is = reported-holds (λ x. f x ≡ v) seat is

-- one that is listed is lost
pub listed-shows : {C Q X B : Type 0} → (f : X → B) (v : B) (listed : Bool) (a : Alone C Q X) → Shows f v a.seat
    → Shows f v (unless_listed listed a).seat
listed-shows f v listed a is = listed-holds (λ x. f x ≡ v) listed a is

pub survivor-shows : {X B : Type 0} → (f : X → B) (v : B) (b : Bool) (seat : Seat X) → Shows f v seat
    → Shows f v (if b then seat else lost_by Overrun)
survivor-shows f v b seat is = survivor-holds (λ x. f x ≡ v) b seat is

-- one step
pub step-shows : {C T Q X B : Type 0} → (P : Protocol C T Q X) (f : X → B) → KeepsPassed P f → (v : B) (moment : ℕ)
    (stops : Bool) (a : Alone C Q X) → Shows f v a.seat → Shows f v (one_step P moment stops a).seat
step-shows P f keeps v moment stops a is = step-holds P (λ x. f x ≡ v) (over-shown P f v keeps) moment stops a is

-- steps that are passed
pub passing-shows : {C T Q X B : Type 0} → (P : Protocol C T Q X) (f : X → B) → KeepsPassed P f → (v : B) (moment n : ℕ)
    (a : Alone C Q X) → Shows f v a.seat → Shows f v (passing P moment n a).seat
passing-shows P f keeps v moment n a is = passing-holds P (λ x. f x ≡ v) (over-shown P f v keeps) moment n a is

-- a run
pub run-shows : {C T Q X B : Type 0} → (P : Protocol C T Q X) (f : X → B) → KeepsPassed P f → (v : B) (moment n : ℕ)
    (stops listed : Bool) (a : Alone C Q X) → Shows f v a.seat → Shows f v (run P moment n stops listed a).seat
run-shows P f keeps v moment n stops listed a is =
    run-holds P (λ x. f x ≡ v) (over-shown P f v keeps) moment n stops listed a is

pub shown-at : {X B : Type 0} → (f : X → B) (v : B) (seat : Seat X) (x : X) → seat ≡ Attached x → Shows f v seat
    → f x ≡ v
shown-at f v seat x is shows = held-at (λ x. f x ≡ v) seat x is shows

-- what is shown stays at all times, where a new session shows it too
pub always-shown : {C T Q X B : Type 0} → (P : Protocol C T Q X) (f : X → B) → KeepsShown P f → (v : B) (s : ℕ)
    → f (P.fresh s) ≡ v → (c : C) (wait : Bool) (history : List Entry) → FitsAll P (begin c wait) history
    → (x : X) → seat_of s (whole P c wait history).seats ≡ Attached x → f x ≡ v
always-shown P f keeps v s new c wait history fits x at =
    always-holds P (λ x. f x ≡ v) (record {
      over = over-shown P f v keeps.passed;
      reply = λ q c text x is. keeps.reply q c text x ∙ is;
      emptied = λ x is. keeps.emptied x ∙ is;
    }) s new c wait history fits x at
