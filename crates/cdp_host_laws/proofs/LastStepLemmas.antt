-- What a session is told only by the step that ends the program.
use Rattle.std.proofs.Common.{◌≡◌, ℕ, zero, suc, List, [], ◌++◌, filter, Bool, true, false, if◌then◌else◌, refl, ap, ◌∙◌, append-nil}
use Rattle.std.proofs.lemmas.List.Elements.{filter-append}
use Rattle.cdp_host_isolation.specs.Seats.{lost_by}
use Rattle.cdp_host_isolation.specs.Protocols.{Protocol}
use Rattle.cdp_host_isolation.specs.Meanings.{next_number, seat_behind, survives, told_of}
use Rattle.cdp_host_isolation.specs.Alone.{Alone, one_step, passing, run, unless_listed}
use Rattle.cdp_host_isolation.specs.Texts.{Texts, passing_texts, run_texts, step_texts}
use Rattle.cdp_host_isolation.specs.declared.seat.Loss.TheVariants.{Overrun}
use Rattle.cdp_host_isolation.specs.declared.seat.Seat.{Seat}
use Rattle.cdp_host_isolation.specs.declared.seat.Seat.TheVariants.{Attached, Lost, Left}
use Rattle.cdp_host_laws.proofs.RunTextLemmas.{Goes, IsThere, step-back}
use Rattle.cdp_host_laws.proofs.SeenLemmas.{Shows, kept-shows, listed-shows, shown-choice, survivor-shows}

-- what a session shows, and the texts of a kind: only a step that ends the program changes it, or has such a text
pub record EndsAlone {C T Q X B : Type 0} (P : Protocol C T Q X) (E : Texts P) (test : List ℕ → Bool) (f : X → B)
    : Type 0 where
  pub kept : (moment : ℕ) (first : Bool) (c : C) (x : X) → P.is_over (P.next c) ≡ false
      → f (P.told moment (P.tells first c) x) ≡ f x
  pub quiet : (moment : ℕ) (first : Bool) (c : C) (x : X) → P.is_over (P.next c) ≡ false
      → filter test (E.told moment (P.tells first c) x) ≡ []
  pub stopped : (number : ℕ) (t : T) (x : X) → f (P.stopped number t x) ≡ f x
  pub stops_quiet : (number : ℕ) (t : T) (x : X) → filter test (E.stopped number t x) ≡ []

step-kept : {C T Q X B : Type 0} → (P : Protocol C T Q X) (E : Texts P) (test : List ℕ → Bool) (f : X → B)
    → EndsAlone P E test f → (v : B) (number moment : ℕ) (first : Bool) (c : C) (seat : Seat X)
    → P.is_over (P.next c) ≡ false → Shows f v seat
    → Shows f v (seat_behind P false number moment (P.tells first c) seat)
step-kept P E test f ends v number moment first c (Attached x) goes is =
    shown-choice f v (survives P number moment (P.tells first c) x) (P.told moment (P.tells first c) x)
    (lost_by Overrun) (ends.kept moment first c x goes ∙ is) tt
step-kept P E test f ends v number moment first c (Lost loss is_reported is_told) goes is = tt
step-kept P E test f ends v number moment first c Left goes is = tt

passing-kept : {C T Q X B : Type 0} → (P : Protocol C T Q X) (E : Texts P) (test : List ℕ → Bool) (f : X → B)
    → EndsAlone P E test f → (v : B) (moment n : ℕ) (a : Alone C Q X) → Goes P (suc n) a.program → Shows f v a.seat
    → Shows f v (passing P moment n a).seat
passing-kept P E test f ends v moment zero a goes is = is
passing-kept P E test f ends v moment (suc n) a goes is =
    passing-kept P E test f ends v moment n (one_step P moment false a) goes.1
    (step-kept P E test f ends v (next_number a.stops) moment a.first a.program a.seat goes.1.0 is)

step-quiet : {C T Q X B : Type 0} → (P : Protocol C T Q X) (E : Texts P) (test : List ℕ → Bool) (f : X → B)
    → EndsAlone P E test f → (moment : ℕ) (a : Alone C Q X) (seat : Seat X) → P.is_over (P.next a.program) ≡ false
    → filter test (step_texts P E moment false a seat) ≡ []
step-quiet P E test f ends moment a (Attached x) goes =
    filter-append test (E.told moment (P.tells a.first a.program) x) []
    ∙ ap (λ l. l ++ []) (ends.quiet moment a.first a.program x goes)
step-quiet P E test f ends moment a (Lost loss is_reported is_told) goes = refl
step-quiet P E test f ends moment a Left goes = refl

passing-quiet : {C T Q X B : Type 0} → (P : Protocol C T Q X) (E : Texts P) (test : List ℕ → Bool) (f : X → B)
    → EndsAlone P E test f → (moment n : ℕ) (a : Alone C Q X) → Goes P (suc n) a.program
    → filter test (passing_texts P E moment n a) ≡ []
passing-quiet P E test f ends moment zero a goes = refl
passing-quiet P E test f ends moment (suc n) a goes =
    let b = one_step P moment false a in
    filter-append test (step_texts P E moment false a a.seat) (passing_texts P E moment n b)
    ∙ ap (λ l. l ++ filter test (passing_texts P E moment n b)) (step-quiet P E test f ends moment a a.seat goes.1.0)
    ∙ passing-quiet P E test f ends moment n b goes.1

-- The last step of a run, of which these are the texts, behind which the program and the seat are so: the session that
-- it was told to, which showed this before.
pub record LastStep {C T Q X B : Type 0} (P : Protocol C T Q X) (E : Texts P) (test : List ℕ → Bool) (f : X → B) (v : B)
    (moment : ℕ) (texts : List (List ℕ)) (seat : Seat X) : Type 0 where
  pub session : X
  pub first : Bool
  pub program : C
  pub shown : f session ≡ v
  pub picked : filter test texts ≡ filter test (E.told moment (P.tells first program) session)
  pub left : Shows f (f (P.told moment (P.tells first program) session)) seat

told-left : {C T Q X B : Type 0} → (P : Protocol C T Q X) (E : Texts P) (test : List ℕ → Bool) (f : X → B)
    → EndsAlone P E test f → (stops : Bool) (number moment : ℕ) (t : T) (x : X)
    → Shows f (f (P.told moment t x)) (told_of P stops number moment t x)
told-left P E test f ends true number moment t x =
    kept-shows P f (f (P.told moment t x)) (P.stopped number t (P.told moment t x))
    (ends.stopped number t (P.told moment t x))
told-left P E test f ends false number moment t x = refl

stop-quiet : {C T Q X B : Type 0} → (P : Protocol C T Q X) (E : Texts P) (test : List ℕ → Bool) (f : X → B)
    → EndsAlone P E test f → (stops : Bool) (number : ℕ) (t : T) (x : X)
    → filter test (if stops then E.stopped number t x else []) ≡ []
stop-quiet P E test f ends true number t x = ends.stops_quiet number t x
stop-quiet P E test f ends false number t x = refl

last-step : {C T Q X B : Type 0} → (P : Protocol C T Q X) (E : Texts P) (test : List ℕ → Bool) (f : X → B)
    → EndsAlone P E test f → (v : B) (moment : ℕ) (stops : Bool) (w : Alone C Q X) (seat : Seat X) → Shows f v seat
    → IsThere seat
    → LastStep P E test f v moment (step_texts P E moment stops w seat)
    (seat_behind P stops (next_number w.stops) moment (P.tells w.first w.program) seat)
last-step P E test f ends v moment stops w (Attached x) is there =
    let t = P.tells w.first w.program in
    let y = P.told moment t x in
    let number = next_number w.stops in
    let stop = if stops then E.stopped number t y else [] in
    record {
      session = x;
      first = w.first;
      program = w.program;
      shown = is;
      picked =
          filter-append test (E.told moment t x) stop
          ∙ ap (λ l. filter test (E.told moment t x) ++ l) (stop-quiet P E test f ends stops number t y)
          ∙ append-nil (filter test (E.told moment t x));
      left =
          survivor-shows f (f y) (survives P number moment t x) (told_of P stops number moment t x)
          (told-left P E test f ends stops number moment t x);
    }
last-step P E test f ends v moment stops w (Lost loss is_reported is_told) is there = let e = there.1 in absurd cc
last-step P E test f ends v moment stops w Left is there = let e = there.1 in absurd cc

more-before : {C T Q X B : Type 0} → (P : Protocol C T Q X) (E : Texts P) (test : List ℕ → Bool) (f : X → B) (v : B)
    (moment : ℕ) (before texts : List (List ℕ)) (seat : Seat X) → filter test before ≡ []
    → LastStep P E test f v moment texts seat → LastStep P E test f v moment (before ++ texts) seat
more-before P E test f v moment before texts seat none last = record {
  session = last.session;
  first = last.first;
  program = last.program;
  shown = last.shown;
  picked = filter-append test before texts ∙ ap (λ l. l ++ filter test texts) none ∙ last.picked;
  left = last.left;
}

pub run-last : {C T Q X B : Type 0} → (P : Protocol C T Q X) (E : Texts P) (test : List ℕ → Bool) (f : X → B)
    → EndsAlone P E test f → (v : B) (moment n : ℕ) (stops listed : Bool) (a : Alone C Q X) → Goes P (suc n) a.program
    → Shows f v a.seat → IsThere (run P moment (suc n) stops listed a).seat
    → LastStep P E test f v moment (run_texts P E moment (suc n) stops listed a)
    (run P moment (suc n) stops listed a).seat
run-last P E test f ends v moment n stops listed a goes is there =
    let b = passing P moment n a in
    let w = unless_listed listed b in
    more-before P E test f v moment (passing_texts P E moment n a) (step_texts P E moment stops w w.seat)
    (one_step P moment stops w).seat (passing-quiet P E test f ends moment n a goes)
    (last-step P E test f ends v moment stops w w.seat
    (listed-shows f v listed b (passing-kept P E test f ends v moment n a goes is)) (step-back P moment stops w there))
