-- What one entry more adds to the texts that wait for a session: those that it makes for it.
use Rattle.std.proofs.Common.{◌≡◌, ℕ, List, [], ◌∷◌, ◌++◌, Bool, fold, refl, ap, sym, subst, ◌∙◌, append_assoc, append-nil}
use Rattle.std.proofs.lemmas.List.{append_cancel_left}
use Rattle.cdp_host_isolation.specs.Seats.{seat_of}
use Rattle.cdp_host_isolation.specs.Protocols.{Protocol}
use Rattle.cdp_host_isolation.specs.Meanings.{Meaning, begin}
use Rattle.cdp_host_isolation.specs.Histories.{Entry, FitsAll, FitsEntry, apply, handed_at, handed_of, whole}
use Rattle.cdp_host_isolation.specs.Alone.{Alone, Seen, alone_at, see, unborn, view, view_at}
use Rattle.cdp_host_isolation.specs.Texts.{AreSent, Keeps, Texts, made_at, made_of}
use Rattle.cdp_host_isolation.specs.declared.seat.Seat.TheVariants.{Attached}
use Rattle.cdp_host_isolation.proofs.AloneLemmas.{follows, see_all, unborn-at}
use Rattle.cdp_host_isolation.proofs.LongerLemmas.{handed-more}
use Rattle.cdp_host_isolation.proofs.TextLemmas.{in-order}

-- ---- histories that go on

-- of a longer history the front is one, and its last entry fits there
pub fits-front : {C T Q X : Type 0} → (P : Protocol C T Q X) (m : Meaning C Q X) (history : List Entry) (entry : Entry)
    → FitsAll P m (history ++ entry ∷ []) → FitsAll P m history × FitsEntry P (fold (apply P) m history) entry
fits-front P m [] entry fits = (tt, fits.0)
fits-front P m (here ∷ history) entry fits =
    let rest = fits-front P (apply P m here) history entry fits.1 in
    ((fits.0, rest.0), rest.1)

view-more : {C T Q X : Type 0} → (P : Protocol C T Q X) (s : ℕ) (m : Meaning C Q X) (history : List Entry)
    (entry : Entry)
    → view P s m (history ++ entry ∷ []) ≡ view P s m history ++ view_at P s (fold (apply P) m history) entry
view-more P s m [] entry = append-nil (view_at P s m entry)
view-more P s m (here ∷ history) entry =
    let k = apply P m here in
    ap (λ later. view_at P s m here ++ later) (view-more P s k history entry)
    ∙ sym (append_assoc (view_at P s m here) (view P s k history) (view_at P s (fold (apply P) k history) entry))

made-append : {C T Q X : Type 0}
    → (P : Protocol C T Q X) (E : Texts P) (s : ℕ) (a : Alone C Q X) (xs ys : List Seen)
    → made_of P E s a (xs ++ ys) ≡ made_of P E s a xs ++ made_of P E s (see_all P s a xs) ys
made-append P E s a [] ys = refl
made-append P E s a (x ∷ xs) ys =
    let b = see P s a x in
    ap (λ rest. made_at P E a x ++ rest) (made-append P E s b xs ys)
    ∙ sym (append_assoc (made_at P E a x) (made_of P E s b xs) (made_of P E s (see_all P s b xs) ys))

all-append : {C T Q X : Type 0} → (P : Protocol C T Q X) (s : ℕ) (a : Alone C Q X) (xs ys : List Seen)
    → see_all P s a (xs ++ ys) ≡ see_all P s (see_all P s a xs) ys
all-append P s a [] ys = refl
all-append P s a (x ∷ xs) ys = all-append P s (see P s a x) xs ys

seen-from : {C T Q X : Type 0} → (P : Protocol C T Q X) (s : ℕ) (m : Meaning C Q X) (history : List Entry)
    → FitsAll P m history
    → alone_at s (fold (apply P) m history) ≡ see_all P s (alone_at s m) (view P s m history)
seen-from P s m [] fits = refl
seen-from P s m (entry ∷ history) fits =
    let k = apply P m entry in
    seen-from P s k history fits.1
    ∙ ap (λ a. see_all P s a (view P s k history)) (follows P s m entry fits.0).goes
    ∙ sym (all-append P s (alone_at s m) (view_at P s m entry) (view P s k history))

-- ---- the texts that wait

same-front : (handed waited made now later new more : List (List ℕ)) → handed ++ waited ≡ made
    → handed ++ now ++ later ≡ made ++ new → new ≡ more → now ++ later ≡ waited ++ more
same-front handed waited made now later new more before after is =
    append_cancel_left handed (now ++ later) (waited ++ more)
    (sym (append_assoc handed now later)
    ∙ after
    ∙ ap (λ l. made ++ l) is
    ∙ ap (λ l. l ++ more) (sym before)
    ∙ append_assoc handed waited more)

-- of a session that is attached before an entry and after it: what was handed out then, and what waits, is what waited
-- and what the entry made for it
pub grows : {C T Q X : Type 0} → (P : Protocol C T Q X) (E : Texts P) → AreSent P E
    → (s : ℕ) (c : C) (wait : Bool) (history : List Entry) (entry : Entry)
    → FitsAll P (begin c wait) (history ++ entry ∷ [])
    → (x y : X) → seat_of s (whole P c wait history).seats ≡ Attached x
    → seat_of s (whole P c wait (history ++ entry ∷ [])).seats ≡ Attached y
    → handed_at P s (whole P c wait history) entry ++ P.outbox y
    ≡ P.outbox x ++ made_of P E s (alone_at s (whole P c wait history)) (view_at P s (whole P c wait history) entry)
grows P E sent s c wait history entry fits x y here there =
    let b : Meaning _ _ _ = begin c wait in
    let m = whole P c wait history in
    let longer = history ++ entry ∷ [] in
    let a = unborn c wait in
    let seen = view P s b history in
    let made = made_of P E s a seen in
    let handed = handed_of P s b history in
    let now = handed_at P s m entry in
    let rest = view_at P s m entry in
    let front = fits-front P b history entry fits in
    let before : handed ++ P.outbox x ≡ made
    = subst (λ seat. Keeps P handed seat made) here (in-order P E sent s c wait history front.0) in
    let all : handed_of P s b longer ++ P.outbox y ≡ made_of P E s a (view P s b longer)
    = subst (λ seat. Keeps P (handed_of P s b longer) seat (made_of P E s a (view P s b longer))) there
    (in-order P E sent s c wait longer fits) in
    let at : see_all P s a seen ≡ alone_at s m
    = ap (λ d. see_all P s d seen) (sym (unborn-at s c wait)) ∙ sym (seen-from P s b history front.0) in
    same-front handed (P.outbox x) made now (P.outbox y) (made_of P E s (see_all P s a seen) rest)
    (made_of P E s (alone_at s m) rest) before
    (ap (λ l. l ++ P.outbox y) (sym (handed-more P s b history entry))
    ∙ all
    ∙ ap (λ l. made_of P E s a l) (view-more P s b history entry)
    ∙ made-append P E s a seen rest)
    (ap (λ d. made_of P E s d rest) at)
