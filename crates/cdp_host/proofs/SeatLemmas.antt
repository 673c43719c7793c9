-- What one seat among others is, and what a resume does to each.
use Rattle.std.proofs.Common.{◌≡◌, ◌<◌, ℕ, zero, suc, List, [], ◌∷◌, length, slice_index_or, Bool, true, false, if◌then◌else◌, refl, ap, sym, ◌∙◌, arith}
use Rattle.cdp_host_isolation.specs.Protocols.{Protocol}
use Rattle.cdp_host_isolation.specs.Meanings.{kept}
use Rattle.cdp_host_isolation.specs.Passes.{GoesAlong, GoesOn, HearsOn, Over, Watches}
use Rattle.cdp_host_isolation.specs.Runs.{AllFit}
use Rattle.cdp_host_isolation.specs.Seats.{fallen, lost_by}
use Rattle.cdp_host_isolation.specs.Texts.{Fits}
use Rattle.cdp_host_isolation.specs.declared.seat.Loss.TheVariants.{Overrun}
use Rattle.cdp_host_isolation.specs.declared.seat.Seat.{Seat}
use Rattle.cdp_host_isolation.specs.declared.seat.Seat.TheVariants.{Attached}
use Rattle.cdp_session_messages.specs.Outboxes.{fits}
use Rattle.cdp_session_messages.specs.declared.session_end.SessionEnd.{SessionEnd}
use Rattle.cdp_session_messages.specs.declared.session_end.SessionEnd.TheVariants as ends
use Rattle.cdp_session.specs.Sessions.{Session}
use Rattle.cdp_session.specs.Stops.{resumed}
use Rattle.js_tree.specs.declared.script.Script.{Script}
use Rattle.cdp_host.specs.Protocols.{protocol}
use Rattle.cdp_host.specs.Watching.{loss_of}

-- ---- one of all seats

-- the texts of each fit
pub fits-at : {C T Q X : Type 0} → (P : Protocol C T Q X) (i : ℕ) (seats : List (Seat X)) (d : Seat X)
    → AllFit P seats → i < length seats → Fits P (slice_index_or seats i d)
fits-at P i [] d fit small = absurd (omega (arith, small))
fits-at P zero (seat ∷ seats) d fit small = fit.0
fits-at P (suc i) (seat ∷ seats) d fit small = fits-at P i seats d fit.1 (omega (arith, small))

-- a seat at which a loop hasn't been yet is the old one
pub on-here : {X : Type 0} → (R : Seat X → Seat X → Type 0) (i : ℕ) (olds news : List (Seat X)) (d : Seat X)
    → GoesOn R i olds news → slice_index_or news i d ≡ slice_index_or olds i d
on-here R zero olds news d goes = ap (λ seats. slice_index_or seats 0 d) goes
on-here R (suc i) [] news d goes = absurd goes
on-here R (suc i) (old ∷ olds) [] d goes = absurd goes
on-here R (suc i) (old ∷ olds) (new ∷ news) d goes = on-here R i olds news d goes.1

pub along-here : {X : Type 0}
    → (R : Seat X → Seat X → Bool → Type 0) (i : ℕ) (olds news : List (Seat X)) (flags : List Bool) (d : Seat X)
    → GoesAlong R i olds news flags → slice_index_or news i d ≡ slice_index_or olds i d
along-here R zero olds news flags d goes = ap (λ seats. slice_index_or seats 0 d) goes
along-here R (suc i) [] news flags d goes = absurd goes
along-here R (suc i) (old ∷ olds) [] flags d goes = absurd goes
along-here R (suc i) (old ∷ olds) (new ∷ news) [] d goes = absurd goes
along-here R (suc i) (old ∷ olds) (new ∷ news) (flag ∷ flags) d goes = along-here R i olds news flags d goes.1

-- ---- a session whose texts fit

pub kept-fits : {C T Q X : Type 0} → (P : Protocol C T Q X) (x : X) → P.fits x ≡ true → Attached x ≡ kept P x
kept-fits P x fit = ap (λ b. if b then Attached x else lost_by Overrun) (sym fit)

-- ---- resumes

-- a session that was told
pub hears-told : (scripts : List Script) (x y : Session) → y ≡ resumed x → fits (resumed x).outbox ≡ true
    → HearsOn (protocol scripts) (Attached x) (Attached y)
hears-told scripts x y is fit = record {
  is = ap (λ z. Attached z) is ∙ kept-fits (protocol scripts) (resumed x) fit;
  room = ap (λ z. fits z.outbox) is ∙ fit;
}

-- a session that couldn't be told
pub hears-lost : (scripts : List Script) (x : Session) (end : SessionEnd)
    → (end ≡ ends.Overrun → fits (resumed x).outbox ≡ false)
    → (end ≡ ends.Memory → fits (resumed x).outbox ≡ true)
    → HearsOn (protocol scripts) (Attached x) (lost_by (loss_of end))
hears-lost scripts x ends.Overrun over memory = record {
  is = ap (λ b. if b then Attached (resumed x) else lost_by Overrun) (sym (over refl));
  room = tt;
}
hears-lost scripts x ends.Memory over memory = record {
  is = ap (λ b. fallen (if b then Attached (resumed x) else lost_by Overrun)) (sym (memory refl));
  room = tt;
}

-- ---- room

-- behind a pass in which each watches a step the texts of each fit
pub watched-fit : {C T Q X : Type 0}
    → (P : Protocol C T Q X) (number moment : ℕ) (t : T) (olds news : List (Seat X)) (flags : List Bool)
    → Over (Watches P number moment t) olds news flags → AllFit P news
watched-fit P number moment t [] [] [] over = tt
watched-fit P number moment t [] [] (flag ∷ flags) over = absurd over
watched-fit P number moment t [] (new ∷ news) flags over = absurd over
watched-fit P number moment t (old ∷ olds) [] flags over = absurd over
watched-fit P number moment t (old ∷ olds) (new ∷ news) [] over = absurd over
watched-fit P number moment t (old ∷ olds) (new ∷ news) (flag ∷ flags) over =
    (over.0.room, watched-fit P number moment t olds news flags over.1)
