-- The entries by which a history goes on.
use Rattle.std.proofs.Common.{◌≡◌, ◌⊎◌, inl, inr, ℕ, List, [], ◌∷◌, ◌++◌, refl, ap, sym, subst, ◌∙◌, append_assoc, append-nil}
use Rattle.std.proofs.lemmas.List.{append_cancel_left}
use Rattle.cdp_host_isolation.specs.Histories.{Entry}
use Rattle.cdp_host_isolation.specs.Makers.{by}
use Rattle.cdp_host_isolation.proofs.MakerLemmas.{by-append, by-own}
use Rattle.history_lock.specs.Histories.{Begins}
use Rattle.history_lock.specs.Passes.{PassState}
use Rattle.cdp_host_turns.specs.Debuggings.{Debugging}
use Rattle.cdp_host_turns.specs.Turns.{Acts}
use Rattle.ws_service.specs.Passing.{FindsThere, IsThereFor}

-- ---- one entry among others

same-head : {A : Type 0} → (x y : A) (xs ys : List A) → x ∷ xs ≡ y ∷ ys → x ≡ y
same-head x y xs ys is = cc

pub same-tail : {A : Type 0} → (x y : A) (xs ys : List A) → x ∷ xs ≡ y ∷ ys → xs ≡ ys
same-tail x y xs ys is = cc

pub some-after : {A : Type 0} → (front rest : List A) (x : A) → [] ≡ front ++ x ∷ rest → ⊥
some-after [] rest x is = absurd cc
some-after (y ∷ front) rest x is = absurd cc

-- one entry alone
pub alone : {A : Type 0} → (y x : A) (front rest : List A) → y ∷ [] ≡ front ++ x ∷ rest
    → (front ≡ []) × (y ≡ x) × (rest ≡ [])
alone y x [] rest is = (refl, same-head y x [] rest is, sym (same-tail y x [] rest is))
alone y x (z ∷ front) rest is = absurd (some-after front rest x (same-tail y z [] (front ++ x ∷ rest) is))

pub same-entry : (j k : ℕ) (entry other : Entry) → ◌≡◌ {A = ℕ × Entry} (j, entry) (k, other) → entry ≡ other
same-entry j k entry other is = ap (λ (made : ℕ × Entry). made.1) is

-- an entry falls into the first list, or after it
abbrev pub Falls : {A : Type 0} → List A → List A → A → Type 0
Falls {A} m front x = Begins m front ⊎ ((rest : List A) × (m ≡ front ++ x ∷ rest))

falls-more : {A : Type 0} → (y z x : A) (m front : List A) → y ≡ z → Falls m front x → Falls (y ∷ m) (z ∷ front) x
falls-more y z x m front same (inl b) = inl (b.0, λ i. sym same i ∷ b.1 i)
falls-more y z x m front same (inr w) = inr (w.0, λ i. same i ∷ w.1 i)

pub falls : {A : Type 0} → (m b front rest : List A) (x : A) → m ++ b ≡ front ++ x ∷ rest → Falls m front x
falls [] b front rest x is = inl (front, refl)
falls (y ∷ m) b [] rest x is = inr (m, ap (λ z. z ∷ m) (same-head y x (m ++ b) rest is))
falls (y ∷ m) b (z ∷ front) rest x is =
    falls-more y z x m front (same-head y z (m ++ b) (front ++ x ∷ rest) is)
    (falls m b front rest x (same-tail y z (m ++ b) (front ++ x ∷ rest) is))

-- there is none where this maker left nothing
pub none-between : (k : ℕ) (h between front rest : List (ℕ × Entry)) (entry : Entry) → by k between ≡ [] → Begins h front
    → h ++ between ≡ front ++ (k, entry) ∷ rest → ⊥
none-between k h between front rest entry nothing begins is =
    let all : between ≡ begins.0 ++ (k, entry) ∷ rest =
    append_cancel_left h between (begins.0 ++ (k, entry) ∷ rest)
    (is ∙ ap (λ l. l ++ (k, entry) ∷ rest) begins.1 ∙ append_assoc h begins.0 ((k, entry) ∷ rest)) in
    some-after (by k begins.0) (by k rest) entry
    (sym nothing
    ∙ ap (by k) all
    ∙ by-append k begins.0 ((k, entry) ∷ rest)
    ∙ ap (λ l. by k begins.0 ++ l) (by-own k entry rest))

-- nor where nothing was left at all
pub none-at-all : (k : ℕ) (h front rest : List (ℕ × Entry)) (entry : Entry) → Begins h front
    → h ≡ front ++ (k, entry) ∷ rest → ⊥
none-at-all k h front rest entry begins is = none-between k h [] front rest entry refl begins (append-nil h ∙ is)

-- ---- entries that found their sessions there

there-at : (d : Debugging) (k : ℕ) (h m g front rest : List (ℕ × Entry)) (entry : Entry) → FindsThere d k h m
    → FindsThere d k m g → Begins h front → g ≡ front ++ (k, entry) ∷ rest → Falls m front (k, entry)
    → IsThereFor d front entry
there-at d k h m g front rest entry first second begins is (inl later) = second front rest entry later is
there-at d k h m g front rest entry first second begins is (inr within) = first front within.0 entry begins within.1

pub there-on : (d : Debugging) (k : ℕ) (h m g : List (ℕ × Entry)) → Begins m g → FindsThere d k h m
    → FindsThere d k m g → FindsThere d k h g
there-on d k h m g longer first second = λ front rest entry begins is.
    there-at d k h m g front rest entry first second begins is
    (falls m longer.0 front rest (k, entry) (sym longer.1 ∙ is))

-- where nothing is left
pub there-none : (d : Debugging) (k : ℕ) (h : List (ℕ × Entry)) → FindsThere d k h h
there-none d k h = λ front rest entry begins is. absurd (none-at-all k h front rest entry begins is)

there-last : (d : Debugging) (k : ℕ) (h front rest : List (ℕ × Entry)) (left entry : Entry) → IsThereFor d h left
    → Begins h front → h ++ (k, left) ∷ [] ≡ front ++ (k, entry) ∷ rest → IsThereFor d front entry
there-last d k h front rest left entry there begins is =
    let all : (k, left) ∷ [] ≡ begins.0 ++ (k, entry) ∷ rest =
    append_cancel_left h ((k, left) ∷ []) (begins.0 ++ (k, entry) ∷ rest)
    (is ∙ ap (λ l. l ++ (k, entry) ∷ rest) begins.1 ∙ append_assoc h begins.0 ((k, entry) ∷ rest)) in
    let one = alone (k, left) (k, entry) begins.0 rest all in
    let front-same : front ≡ h = begins.1 ∙ ap (λ l. h ++ l) one.0 ∙ append-nil h in
    let same = same-entry k k left entry one.1 in
    subst (λ l. IsThereFor d l entry) (sym front-same) (subst (λ (e : Entry). IsThereFor d h e) same there)

there-act : (d : Debugging) (k : ℕ) (h between front rest : List (ℕ × Entry)) (left entry : Entry)
    → by k between ≡ [] → IsThereFor d (h ++ between) left → Begins h front
    → (h ++ between) ++ (k, left) ∷ [] ≡ front ++ (k, entry) ∷ rest → Falls (h ++ between) front (k, entry)
    → IsThereFor d front entry
there-act d k h between front rest left entry nothing there begins is (inl later) =
    there-last d k (h ++ between) front rest left entry there later is
there-act d k h between front rest left entry nothing there begins is (inr within) =
    absurd (none-between k h between front within.0 entry nothing begins within.1)

-- a turn that found it there
pub there-turn : (d : Debugging) (p q : PassState Entry) (left : Entry) (act : Acts d p q left)
    → IsThereFor d (p.seen ++ act.between) left → FindsThere d p.number p.seen q.seen
there-turn d p q left act there = λ front rest entry begins is.
    there-act d p.number p.seen act.between front rest left entry act.nothing there begins (sym act.seen ∙ is)
    (falls (p.seen ++ act.between) ((p.number, left) ∷ []) front rest (p.number, entry) (sym act.seen ∙ is))

there-over-at : (d : Debugging) (k : ℕ) (new more front rest : List (ℕ × Entry)) (entry : Entry) → by k more ≡ []
    → new ++ more ≡ front ++ (k, entry) ∷ rest
    → ((rest : List (ℕ × Entry)) → new ≡ front ++ (k, entry) ∷ rest → IsThereFor d front entry)
    → Falls new front (k, entry) → IsThereFor d front entry
there-over-at d k new more front rest entry nothing is there (inl later) =
    absurd (none-between k new more front rest entry nothing later is)
there-over-at d k new more front rest entry nothing is there (inr within) = there within.0 within.1

-- more of other makers
pub there-over : (d : Debugging) (k : ℕ) (old new more : List (ℕ × Entry)) → by k more ≡ [] → FindsThere d k old new
    → FindsThere d k old (new ++ more)
there-over d k old new more nothing there = λ front rest entry begins is.
    there-over-at d k new more front rest entry nothing is (λ behind found. there front behind entry begins found)
    (falls new more front rest (k, entry) is)
