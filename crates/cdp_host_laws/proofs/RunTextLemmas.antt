-- The texts that a run makes for a session that survives it.
use Rattle.std.proofs.Common.{◌≡◌, ◌<◌, ℕ, zero, suc, ◌+◌, List, [], ◌∷◌, ◌++◌, length, filter, Bool, true, false, if◌then◌else◌, refl, ap, sym, subst, ◌∙◌, arith, length-append}
use Rattle.std.proofs.lemmas.List.Elements.{filter-append}
use Rattle.cdp_host_isolation.specs.Seats.{fallen, reported}
use Rattle.cdp_host_isolation.specs.Protocols.{Protocol}
use Rattle.cdp_host_isolation.specs.Meanings.{Meaning, after_steps, is_ready, next_number, resumed_seat, seat_behind, step}
use Rattle.cdp_host_isolation.specs.Alone.{Alone, goes_on, one_step, passing, run, unless_listed}
use Rattle.cdp_host_isolation.specs.Texts.{Texts, passing_texts, resume_texts, run_texts, step_texts}
use Rattle.cdp_host_isolation.specs.declared.seat.Seat.{Seat}
use Rattle.cdp_host_isolation.specs.declared.seat.Seat.TheVariants.{Attached, Lost, Left}
use Rattle.cdp_host_isolation.proofs.StepLemmas.{ready-parts}
use Rattle.cdp_host_laws.proofs.SeenLemmas.{KeepsPassed, Shows, listed-shows, passing-shows, step-shows}

-- ---- a session that is attached behind something was attached before it

-- a session is attached there
abbrev pub IsThere : {X : Type 0} → Seat X → Type 0
IsThere {X} seat = (x : X) × (seat ≡ Attached x)

resumed-back : {C T Q X : Type 0} → (P : Protocol C T Q X) (seat : Seat X) → IsThere (resumed_seat P seat)
    → IsThere seat
resumed-back P (Attached x) there = (x, refl)
resumed-back P (Lost loss is_reported is_told) there = let e = there.1 in absurd cc
resumed-back P Left there = let e = there.1 in absurd cc

reported-back : {X : Type 0} → (seat : Seat X) → IsThere (reported seat) → IsThere seat
reported-back (Attached x) there = (x, refl)
reported-back (Lost loss is_reported is_told) there = let e = there.1 in absurd cc
reported-back Left there = let e = there.1 in absurd cc

goes-back : {C T Q X : Type 0} → (P : Protocol C T Q X) (resumed : Bool) (a : Alone C Q X)
    → IsThere (goes_on P resumed a).seat → IsThere a.seat
goes-back P true a there = resumed-back P a.seat there
goes-back P false a there = there

fallen-back : {X : Type 0} → (seat : Seat X) → IsThere (fallen seat) → IsThere seat
fallen-back (Attached x) there = (x, refl)
fallen-back (Lost loss is_reported is_told) there = let e = there.1 in absurd cc
fallen-back Left there = let e = there.1 in absurd cc

listed-back : {C Q X : Type 0} → (listed : Bool) (a : Alone C Q X) → IsThere (unless_listed listed a).seat
    → IsThere a.seat
listed-back true a there = fallen-back a.seat there
listed-back false a there = there

behind-back : {C T Q X : Type 0} → (P : Protocol C T Q X) (stops : Bool) (number moment : ℕ) (t : T) (seat : Seat X)
    → IsThere (seat_behind P stops number moment t seat) → IsThere seat
behind-back P stops number moment t (Attached x) there = (x, refl)
behind-back P stops number moment t (Lost loss is_reported is_told) there = let e = there.1 in absurd cc
behind-back P stops number moment t Left there = let e = there.1 in absurd cc

pub step-back : {C T Q X : Type 0} → (P : Protocol C T Q X) (moment : ℕ) (stops : Bool) (a : Alone C Q X)
    → IsThere (one_step P moment stops a).seat → IsThere a.seat
step-back P moment stops a there =
    behind-back P stops (next_number a.stops) moment (P.tells a.first a.program) a.seat there

passing-back : {C T Q X : Type 0} → (P : Protocol C T Q X) (moment n : ℕ) (a : Alone C Q X)
    → IsThere (passing P moment n a).seat → IsThere a.seat
passing-back P moment zero a there = there
passing-back P moment (suc n) a there =
    step-back P moment false a (passing-back P moment n (one_step P moment false a) there)

-- behind a run, of whose losses is told, and a resume
pub ran-back : {C T Q X : Type 0} → (P : Protocol C T Q X) (resumed : Bool) (b : Alone C Q X)
    → IsThere (goes_on P resumed (record b { seat = reported b.seat })).seat → IsThere b.seat
ran-back P resumed b there =
    reported-back b.seat (goes-back P resumed (record b { seat = reported b.seat }) there)

-- ---- the program goes

-- so many steps are made where it isn't over
abbrev pub Goes : {C T Q X : Type 0} → Protocol C T Q X → ℕ → C → Type 0
Goes P zero c = Unit {0}
Goes P (suc n) c = (P.is_over c ≡ false) × Goes P n (P.next c)

-- those of a run are
pub ready-goes : {C T Q X : Type 0} → (P : Protocol C T Q X) (n moment : ℕ) (m : Meaning C Q X)
    → ((j : ℕ) → j < n → is_ready P (after_steps P moment j m) ≡ true) → Goes P n m.program
ready-goes P zero moment m ready = tt
ready-goes P (suc n) moment m ready = (
  (ready-parts P m (ready zero (omega arith))).1,
  ready-goes P n moment (step P moment [] m) (λ j below. ready (suc j) (omega (arith, below))),
)

goes-less : {C T Q X : Type 0} → (P : Protocol C T Q X) (n : ℕ) (c : C) → Goes P (suc n) c → Goes P n c
goes-less P zero c goes = tt
goes-less P (suc n) c goes = (goes.0, goes-less P n (P.next c) goes.1)

goes-last : {C T Q X : Type 0} → (P : Protocol C T Q X) (moment n : ℕ) (a : Alone C Q X) → Goes P (suc n) a.program
    → P.is_over (passing P moment n a).program ≡ false
goes-last P moment zero a goes = goes.0
goes-last P moment (suc n) a goes = goes-last P moment n (one_step P moment false a) goes.1

-- ---- texts of which a step tells none

none-append : (test : List ℕ → Bool) (xs ys : List (List ℕ)) → filter test xs ≡ [] → filter test ys ≡ []
    → filter test (xs ++ ys) ≡ []
none-append test xs ys first second = filter-append test xs ys ∙ ap (λ l. l ++ filter test ys) first ∙ second

passed-none : {C T Q X : Type 0} → (P : Protocol C T Q X) (E : Texts P) (test : List ℕ → Bool)
    → ((moment : ℕ) (t : T) (x : X) → filter test (E.told moment t x) ≡ [])
    → (moment : ℕ) (a : Alone C Q X) (seat : Seat X) → filter test (step_texts P E moment false a seat) ≡ []
passed-none P E test silent moment a (Attached x) =
    let t = P.tells a.first a.program in
    none-append test (E.told moment t x) [] (silent moment t x) refl
passed-none P E test silent moment a (Lost loss is_reported is_told) = refl
passed-none P E test silent moment a Left = refl

passing-none : {C T Q X : Type 0} → (P : Protocol C T Q X) (E : Texts P) (test : List ℕ → Bool)
    → ((moment : ℕ) (t : T) (x : X) → filter test (E.told moment t x) ≡ [])
    → (moment n : ℕ) (a : Alone C Q X) → filter test (passing_texts P E moment n a) ≡ []
passing-none P E test silent moment zero a = refl
passing-none P E test silent moment (suc n) a =
    let b = one_step P moment false a in
    none-append test (step_texts P E moment false a a.seat) (passing_texts P E moment n b)
    (passed-none P E test silent moment a a.seat) (passing-none P E test silent moment n b)

passing-count : {C T Q X : Type 0} → (P : Protocol C T Q X) (moment n : ℕ) (a : Alone C Q X)
    → (passing P moment n a).stops ≡ a.stops
passing-count P moment zero a = refl
passing-count P moment (suc n) a = passing-count P moment n (one_step P moment false a)

listed-count : {C Q X : Type 0} → (listed : Bool) (a : Alone C Q X) → (unless_listed listed a).stops ≡ a.stops
listed-count true a = refl
listed-count false a = refl

-- Of such texts a run makes those of the stop at its last step, if it stopped there; the session shows then what it
-- showed before, and the stop has the next number.
pub record AtStop {C T Q X B : Type 0} (P : Protocol C T Q X) (E : Texts P) (test : List ℕ → Bool) (f : X → B) (v : B)
    (stops : Bool) (number : ℕ) (texts : List (List ℕ)) : Type 0 where
  pub session : X
  pub step : T
  pub shown : f session ≡ v
  pub picked : filter test texts ≡ filter test (if stops then E.stopped number step session else [])

last-stop : {C T Q X B : Type 0} → (P : Protocol C T Q X) (E : Texts P) (test : List ℕ → Bool) (f : X → B)
    → KeepsPassed P f → ((moment : ℕ) (t : T) (x : X) → filter test (E.told moment t x) ≡ [])
    → (v : B) (moment : ℕ) (stops : Bool) (w : Alone C Q X) (seat : Seat X) → Shows f v seat → IsThere seat
    → AtStop P E test f v stops (next_number w.stops) (step_texts P E moment stops w seat)
last-stop P E test f keeps silent v moment stops w (Attached x) is there =
    let t = P.tells w.first w.program in
    let y = P.told moment t x in
    let stop = if stops then E.stopped (next_number w.stops) t y else [] in
    record {
      session = y;
      step = t;
      shown = keeps.told moment t x ∙ is;
      picked = filter-append test (E.told moment t x) stop ∙ ap (λ l. l ++ filter test stop) (silent moment t x);
    }
last-stop P E test f keeps silent v moment stops w (Lost loss is_reported is_told) is there =
    let e = there.1 in absurd cc
last-stop P E test f keeps silent v moment stops w Left is there = let e = there.1 in absurd cc

more-texts : {C T Q X B : Type 0} → (P : Protocol C T Q X) (E : Texts P) (test : List ℕ → Bool) (f : X → B) (v : B)
    (stops : Bool) (number other : ℕ) (before texts : List (List ℕ)) → filter test before ≡ [] → number ≡ other
    → AtStop P E test f v stops number texts → AtStop P E test f v stops other (before ++ texts)
more-texts P E test f v stops number other before texts none same at =
    record {
      session = at.session;
      step = at.step;
      shown = at.shown;
      picked =
          filter-append test before texts
          ∙ ap (λ l. l ++ filter test texts) none
          ∙ at.picked
          ∙ ap (λ k. filter test (if stops then E.stopped k at.step at.session else [])) same;
    }

pub run-at-stop : {C T Q X B : Type 0} → (P : Protocol C T Q X) (E : Texts P) (test : List ℕ → Bool) (f : X → B)
    → KeepsPassed P f → ((moment : ℕ) (t : T) (x : X) → filter test (E.told moment t x) ≡ [])
    → (v : B) (moment n : ℕ) (stops listed : Bool) (a : Alone C Q X) → Shows f v a.seat
    → IsThere (run P moment (suc n) stops listed a).seat
    → AtStop P E test f v stops (next_number a.stops) (run_texts P E moment (suc n) stops listed a)
run-at-stop P E test f keeps silent v moment n stops listed a is there =
    let b = passing P moment n a in
    let w = unless_listed listed b in
    more-texts P E test f v stops (next_number w.stops) (next_number a.stops) (passing_texts P E moment n a)
    (step_texts P E moment stops w w.seat) (passing-none P E test silent moment n a)
    (ap next_number (listed-count listed b ∙ passing-count P moment n a))
    (last-stop P E test f keeps silent v moment stops w w.seat
    (listed-shows f v listed b (passing-shows P f keeps v moment n a is)) (step-back P moment stops w there))

-- ---- texts of which no stop and no resume tells

-- a number for a session that shows so, and none for another
abbrev pub weighed : Bool → ℕ → ℕ
weighed true n = n
weighed false n = 0

-- a step tells of as many as it adds to the size of its program, each session that shows so
pub record CountsTold {C T Q X : Type 0} (P : Protocol C T Q X) (E : Texts P) (test : List ℕ → Bool) (f : X → Bool)
    (size : C → ℕ) : Type 0 where
  pub told : (moment : ℕ) (first : Bool) (c : C) (x : X) → P.is_over c ≡ false
      → weighed (f x) (size c) + length (filter test (E.told moment (P.tells first c) x))
      ≡ weighed (f x) (size (P.next c))
  pub stopped : (number : ℕ) (t : T) (x : X) → filter test (E.stopped number t x) ≡ []
  pub resumed : (x : X) → filter test (E.resumed x) ≡ []

stop-none : {C T Q X : Type 0} → (P : Protocol C T Q X) (E : Texts P) (test : List ℕ → Bool) (f : X → Bool)
    (size : C → ℕ) → CountsTold P E test f size → (stops : Bool) (number : ℕ) (t : T) (x : X)
    → filter test (if stops then E.stopped number t x else []) ≡ []
stop-none P E test f size counts true number t x = counts.stopped number t x
stop-none P E test f size counts false number t x = refl

counted-append : (test : List ℕ → Bool) (xs ys : List (List ℕ)) (a b c : ℕ)
    → a + length (filter test xs) ≡ b → b + length (filter test ys) ≡ c → a + length (filter test (xs ++ ys)) ≡ c
counted-append test xs ys a b c first second =
    let all : length (filter test (xs ++ ys)) ≡ length (filter test xs) + length (filter test ys)
    = ap length (filter-append test xs ys) ∙ length-append (filter test xs) (filter test ys) in
    omega (arith, all, first, second)

none-counted : (test : List ℕ → Bool) (xs : List (List ℕ)) (a : ℕ) → filter test xs ≡ []
    → a + length (filter test xs) ≡ a
none-counted test xs a none = let e : length (filter test xs) ≡ 0 = ap length none in omega (arith, e)

step-counted : {C T Q X : Type 0} → (P : Protocol C T Q X) (E : Texts P) (test : List ℕ → Bool) (f : X → Bool)
    (size : C → ℕ) → CountsTold P E test f size → (v : Bool) (moment : ℕ) (stops : Bool) (a : Alone C Q X)
    (seat : Seat X) → P.is_over a.program ≡ false → Shows f v seat → IsThere seat
    → weighed v (size a.program) + length (filter test (step_texts P E moment stops a seat))
    ≡ weighed v (size (P.next a.program))
step-counted P E test f size counts v moment stops a (Attached x) goes is there =
    let t = P.tells a.first a.program in
    let y = P.told moment t x in
    let k = next_number a.stops in
    let stop = if stops then E.stopped k t y else [] in
    let R : Bool → Type 0 = λ b. weighed b (size a.program) + length (filter test (E.told moment t x))
    ≡ weighed b (size (P.next a.program)) in
    let one : weighed v (size a.program) + length (filter test (E.told moment t x))
    ≡ weighed v (size (P.next a.program)) = subst R is (counts.told moment a.first a.program x goes) in
    counted-append test (E.told moment t x) stop (weighed v (size a.program)) (weighed v (size (P.next a.program)))
    (weighed v (size (P.next a.program))) one
    (none-counted test stop (weighed v (size (P.next a.program))) (stop-none P E test f size counts stops k t y))
step-counted P E test f size counts v moment stops a (Lost loss is_reported is_told) goes is there =
    let e = there.1 in absurd cc
step-counted P E test f size counts v moment stops a Left goes is there = let e = there.1 in absurd cc

passing-counted : {C T Q X : Type 0} → (P : Protocol C T Q X) (E : Texts P) (test : List ℕ → Bool) (f : X → Bool)
    (size : C → ℕ) → KeepsPassed P f → CountsTold P E test f size → (v : Bool) (moment n : ℕ) (a : Alone C Q X)
    → Goes P n a.program → Shows f v a.seat → IsThere (passing P moment n a).seat
    → weighed v (size a.program) + length (filter test (passing_texts P E moment n a))
    ≡ weighed v (size (passing P moment n a).program)
passing-counted P E test f size keeps counts v moment zero a goes is there = omega arith
passing-counted P E test f size keeps counts v moment (suc n) a goes is there =
    let b = one_step P moment false a in
    let before : IsThere a.seat = step-back P moment false a (passing-back P moment n b there) in
    counted-append test (step_texts P E moment false a a.seat) (passing_texts P E moment n b)
    (weighed v (size a.program)) (weighed v (size b.program)) (weighed v (size (passing P moment n b).program))
    (step-counted P E test f size counts v moment false a a.seat goes.0 is before)
    (passing-counted P E test f size keeps counts v moment n b goes.1 (step-shows P f keeps v moment false a is) there)

listed-program : {C Q X : Type 0} → (listed : Bool) (a : Alone C Q X) → (unless_listed listed a).program ≡ a.program
listed-program true a = refl
listed-program false a = refl

-- so does a run
pub run-counted : {C T Q X : Type 0} → (P : Protocol C T Q X) (E : Texts P) (test : List ℕ → Bool) (f : X → Bool)
    (size : C → ℕ) → KeepsPassed P f → CountsTold P E test f size
    → (v : Bool) (moment n : ℕ) (stops listed : Bool) (a : Alone C Q X) → Goes P (suc n) a.program → Shows f v a.seat
    → IsThere (run P moment (suc n) stops listed a).seat
    → weighed v (size a.program) + length (filter test (run_texts P E moment (suc n) stops listed a))
    ≡ weighed v (size (run P moment (suc n) stops listed a).program)
run-counted P E test f size keeps counts v moment n stops listed a goes is there =
    let b = passing P moment n a in
    let w = unless_listed listed b in
    let here : IsThere w.seat = step-back P moment stops w there in
    let same : w.program ≡ b.program = listed-program listed b in
    counted-append test (passing_texts P E moment n a) (step_texts P E moment stops w w.seat)
    (weighed v (size a.program)) (weighed v (size w.program)) (weighed v (size (P.next w.program)))
    (passing-counted P E test f size keeps counts v moment n a (goes-less P n a.program goes) is
    (listed-back listed b here)
    ∙ ap (λ c. weighed v (size c)) (sym same))
    (step-counted P E test f size counts v moment stops w w.seat
    (ap (λ c. P.is_over c) same ∙ goes-last P moment n a goes)
    (listed-shows f v listed b (passing-shows P f keeps v moment n a is)) here)

-- nothing of them comes with a resume
pub resume-none : {C T Q X : Type 0} → (P : Protocol C T Q X) (E : Texts P) (test : List ℕ → Bool)
    → ((x : X) → filter test (E.resumed x) ≡ [])
    → (resumed : Bool) (seat : Seat X) → filter test (resume_texts P E resumed seat) ≡ []
resume-none P E test none true (Attached x) = none x
resume-none P E test none true (Lost loss is_reported is_told) = refl
resume-none P E test none true Left = refl
resume-none P E test none false seat = refl

-- ---- all texts of a run

-- each of these texts is so
abbrev pub AllAre : (List ℕ → Type 0) → List (List ℕ) → Type 0
AllAre H [] = Unit {0}
AllAre H (text ∷ texts) = H text × AllAre H texts

pub all-append : (H : List ℕ → Type 0) (xs ys : List (List ℕ)) → AllAre H xs → AllAre H ys → AllAre H (xs ++ ys)
all-append H [] ys first second = second
all-append H (x ∷ xs) ys first second = (first.0, all-append H xs ys first.1 second)

all-stop : (H : List ℕ → Type 0) (stops : Bool) (texts : List (List ℕ)) → AllAre H texts
    → AllAre H (if stops then texts else [])
all-stop H true texts all = all
all-stop H false texts all = tt

step-all : {C T Q X : Type 0} → (P : Protocol C T Q X) (E : Texts P) (H : List ℕ → Type 0) (moment : ℕ)
    → ((t : T) (x : X) → AllAre H (E.told moment t x))
    → ((number : ℕ) (t : T) (x : X) → AllAre H (E.stopped number t x))
    → (stops : Bool) (a : Alone C Q X) (seat : Seat X) → AllAre H (step_texts P E moment stops a seat)
step-all P E H moment told stopped stops a (Attached x) =
    let t = P.tells a.first a.program in
    let stop = E.stopped (next_number a.stops) t (P.told moment t x) in
    all-append H (E.told moment t x) (if stops then stop else []) (told t x)
    (all-stop H stops stop (stopped (next_number a.stops) t (P.told moment t x)))
step-all P E H moment told stopped stops a (Lost loss is_reported is_told) = tt
step-all P E H moment told stopped stops a Left = tt

passing-all : {C T Q X : Type 0} → (P : Protocol C T Q X) (E : Texts P) (H : List ℕ → Type 0) (moment : ℕ)
    → ((t : T) (x : X) → AllAre H (E.told moment t x))
    → ((number : ℕ) (t : T) (x : X) → AllAre H (E.stopped number t x))
    → (n : ℕ) (a : Alone C Q X) → AllAre H (passing_texts P E moment n a)
passing-all P E H moment told stopped zero a = tt
passing-all P E H moment told stopped (suc n) a =
    let b = one_step P moment false a in
    all-append H (step_texts P E moment false a a.seat) (passing_texts P E moment n b)
    (step-all P E H moment told stopped false a a.seat) (passing-all P E H moment told stopped n b)

pub run-all : {C T Q X : Type 0} → (P : Protocol C T Q X) (E : Texts P) (H : List ℕ → Type 0) (moment : ℕ)
    → ((t : T) (x : X) → AllAre H (E.told moment t x))
    → ((number : ℕ) (t : T) (x : X) → AllAre H (E.stopped number t x))
    → (n : ℕ) (stops listed : Bool) (a : Alone C Q X) → AllAre H (run_texts P E moment (suc n) stops listed a)
run-all P E H moment told stopped n stops listed a =
    let w = unless_listed listed (passing P moment n a) in
    all-append H (passing_texts P E moment n a) (step_texts P E moment stops w w.seat)
    (passing-all P E H moment told stopped n a) (step-all P E H moment told stopped stops w w.seat)

pub resume-all : {C T Q X : Type 0} → (P : Protocol C T Q X) (E : Texts P) (H : List ℕ → Type 0)
    → ((x : X) → AllAre H (E.resumed x)) → (resumed : Bool) (seat : Seat X) → AllAre H (resume_texts P E resumed seat)
resume-all P E H all true (Attached x) = all x
resume-all P E H all true (Lost loss is_reported is_told) = tt
resume-all P E H all true Left = tt
resume-all P E H all false seat = tt
