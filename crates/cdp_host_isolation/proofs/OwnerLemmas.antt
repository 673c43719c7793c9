-- A session is handed texts where its owner takes them, and nowhere else.
use Rattle.std.proofs.Common.{◌≡◌, ◌≢◌, ◌≤◌, ◌<◌, ℕ, ◌+◌, List, [], ◌∷◌, ◌++◌, length, Bool, true, false, ◌==◌, if◌then◌else◌, fold, Some, refl, ap, sym, subst, ◌∙◌, arith, append-nil}
use Rattle.std.proofs.lemmas.Bool.{eq-eqb, eqb-true, ne_eqb}
use Rattle.std.proofs.lemmas.List.{map-append}
use Rattle.std.proofs.lemmas.List.Elements.{All-head, All-nil, All-tail}
use Rattle.cdp_host_isolation.specs.Seats.{seat_of}
use Rattle.cdp_host_isolation.specs.Protocols.{Protocol}
use Rattle.cdp_host_isolation.specs.Meanings.{Meaning, begin}
use Rattle.cdp_host_isolation.specs.Histories.{Entry, Attach, Tell, Take, Detach, Ran, Shut, apply, handed_at, handed_of, waiting, whole}
use Rattle.cdp_host_isolation.specs.Makers.{AreOwned, IsNoTake, IsOwned, Owns, TakesNone, by, entries_of, entry_of, owner_of, owners_behind, owners_from}
use Rattle.cdp_host_isolation.specs.declared.seat.Seat.TheVariants.{Attached}
use Rattle.cdp_host_isolation.proofs.AloneLemmas.{differ}
use Rattle.cdp_host_isolation.proofs.LongerLemmas.{handed-append, handed-more}
use Rattle.cdp_host_isolation.proofs.MakerLemmas.{named-owner, owned-behind, owner-stays}
use Rattle.cdp_host_isolation.proofs.TextLemmas.{append-length, at-behind, both-none, detach-length, ran-length, take-length, tell-length}

-- ---- entries that hand nothing out

-- an entry that takes no texts of a session hands none out to it
pub no-take-hands : {C T Q X : Type 0} → (P : Protocol C T Q X) (s : ℕ) (m : Meaning C Q X) (entry : Entry)
    → IsNoTake s entry → handed_at P s m entry ≡ []
no-take-hands P s m Attach none = refl
no-take-hands P s m (Tell r text) none = refl
no-take-hands P s m (Take r) none = ap (λ (b : Bool). if b then waiting P (seat_of r m.seats) else []) (ne_eqb r s none)
no-take-hands P s m (Detach r) none = refl
no-take-hands P s m (Ran n moment gone) none = refl
no-take-hands P s m Shut none = refl

-- an entry of another maker than its owner takes none of its texts
other-takes-none : (owners : List ℕ) (s j k : ℕ) (entry : Entry) → j ≢ k → owner_of s owners ≡ Some k
    → IsOwned owners j entry
    → IsNoTake s entry
other-takes-none owners s j k Attach other is owned = tt
other-takes-none owners s j k (Tell r text) other is owned = tt
other-takes-none owners s j k (Take r) other is owned =
    λ same. other (named-owner owners r j k (subst (λ n. owner_of n owners ≡ Some k) (sym same) is) owned)
other-takes-none owners s j k (Detach r) other is owned = tt
other-takes-none owners s j k (Ran n moment gone) other is owned = tt
other-takes-none owners s j k Shut other is owned = tt

-- nor does one of its owner, where that takes none
quiet-entry : {C T Q X : Type 0} → (P : Protocol C T Q X) (s : ℕ) (m : Meaning C Q X) (owners : List ℕ) (j k : ℕ)
    (entry : Entry) (rest : List Entry) (b : Bool) → (j == k) ≡ b → owner_of s owners ≡ Some k → IsOwned owners j entry
    → TakesNone s (if b then entry ∷ rest else rest) → (handed_at P s m entry ≡ []) × TakesNone s rest
quiet-entry P s m owners j k entry rest true same is owned none =
    (no-take-hands P s m entry (All-head (IsNoTake s) entry rest none), All-tail (IsNoTake s) entry rest none)
quiet-entry P s m owners j k entry rest false same is owned none =
    (no-take-hands P s m entry (other-takes-none owners s j k entry (differ j k same) is owned), none)

quiet : {C T Q X : Type 0} → (P : Protocol C T Q X) (s : ℕ) (m : Meaning C Q X) (owners : List ℕ) (k : ℕ)
    (more : List (ℕ × Entry)) → owner_of s owners ≡ Some k → AreOwned owners more → TakesNone s (by k more)
    → handed_of P s m (entries_of more) ≡ []
quiet P s m owners k [] is owned none = refl
quiet P s m owners k (made ∷ more) is owned none =
    let here = quiet-entry P s m owners made.0 k made.1 (by k more) (made.0 == k) refl is owned.0 none in
    let later = quiet P s (apply P m made.1) (owners_behind owners made.0 made.1) k more
    (owner-stays owners made.0 made.1 s k is) owned.1 here.1 in
    both-none (handed_at P s m made.1) (handed_of P s (apply P m made.1) (entries_of more)) here.0 later

-- ---- a longer history

-- what was handed out to a session stays where its owner takes no more of its texts
pub handed-keeps : {C T Q X : Type 0} → (P : Protocol C T Q X) (k s : ℕ) (c : C) (wait : Bool)
    (history more : List (ℕ × Entry)) → Owns k s history → AreOwned [] (history ++ more) → TakesNone s (by k more)
    → handed_of P s (begin c wait) (entries_of (history ++ more)) ≡ handed_of P s (begin c wait) (entries_of history)
handed-keeps P k s c wait history more owns owned none =
    let front = entries_of history in
    let handed = handed_of P s (begin c wait) front in
    ap (handed_of P s (begin c wait)) (map-append entry_of history more)
    ∙ handed-append P s (begin c wait) front (entries_of more)
    ∙ ap (λ later. handed ++ later)
    (quiet P s (whole P c wait front) (owners_from [] history) k more owns (owned-behind [] history more owned) none)
    ∙ append-nil handed

-- so where its owner leaves nothing
pub handed-stays : {C T Q X : Type 0} → (P : Protocol C T Q X) (k s : ℕ) (c : C) (wait : Bool)
    (history more : List (ℕ × Entry)) → Owns k s history → AreOwned [] (history ++ more) → by k more ≡ []
    → handed_of P s (begin c wait) (entries_of (history ++ more)) ≡ handed_of P s (begin c wait) (entries_of history)
handed-stays P k s c wait history more owns owned nothing =
    handed-keeps P k s c wait history more owns owned
    (subst (TakesNone s) (sym nothing) (All-nil (IsNoTake s)))

-- ---- one entry more

made-more : {C T Q X : Type 0}
    → (P : Protocol C T Q X) (s : ℕ) (c : C) (wait : Bool) (history : List (ℕ × Entry)) (k : ℕ) (entry : Entry)
    → handed_of P s (begin c wait) (entries_of (history ++ (k, entry) ∷ []))
    ≡ handed_of P s (begin c wait) (entries_of history) ++ handed_at P s (whole P c wait (entries_of history)) entry
made-more P s c wait history k entry =
    ap (handed_of P s (begin c wait)) (map-append entry_of history ((k, entry) ∷ []))
    ∙ handed-more P s (begin c wait) (entries_of history) entry

-- a take hands out what waits
pub handed-take : {C T Q X : Type 0} → (P : Protocol C T Q X) (s : ℕ) (c : C) (wait : Bool) (history : List (ℕ × Entry))
    (k : ℕ)
    → handed_of P s (begin c wait) (entries_of (history ++ (k, Take s) ∷ []))
    ≡ handed_of P s (begin c wait) (entries_of history)
    ++ waiting P (seat_of s (whole P c wait (entries_of history)).seats)
handed-take P s c wait history k =
    let handed = handed_of P s (begin c wait) (entries_of history) in
    let texts = waiting P (seat_of s (whole P c wait (entries_of history)).seats) in
    made-more P s c wait history k (Take s)
    ∙ ap (λ (b : Bool). handed ++ (if b then texts else [])) (eq-eqb s s refl)

-- an entry that takes none of its texts hands out nothing, whoever left it
pub handed-same : {C T Q X : Type 0} → (P : Protocol C T Q X) (s : ℕ) (c : C) (wait : Bool) (history : List (ℕ × Entry))
    (k : ℕ) (entry : Entry) → IsNoTake s entry
    → handed_of P s (begin c wait) (entries_of (history ++ (k, entry) ∷ []))
    ≡ handed_of P s (begin c wait) (entries_of history)
handed-same P s c wait history k entry none =
    let handed = handed_of P s (begin c wait) (entries_of history) in
    made-more P s c wait history k entry
    ∙ ap (λ later. handed ++ later) (no-take-hands P s (whole P c wait (entries_of history)) entry none)
    ∙ append-nil handed

-- ---- a session that isn't there yet

seats-grow : {C T Q X : Type 0} → (P : Protocol C T Q X) (m : Meaning C Q X) (entry : Entry)
    → length m.seats ≤ length (apply P m entry).seats
seats-grow P m Attach =
    let one_more = append-length (Attached (P.fresh (length m.seats + 1))) m.seats in
    omega (arith, one_more)
seats-grow P m (Tell r text) = let same = tell-length P r text m (seat_of r m.seats) in omega (arith, same)
seats-grow P m (Take r) = let same = take-length P r m (seat_of r m.seats) in omega (arith, same)
seats-grow P m (Detach r) = let same = detach-length P r m (seat_of r m.seats) in omega (arith, same)
seats-grow P m (Ran n moment gone) = let same = ran-length P n moment gone m in omega (arith, same)
seats-grow P m Shut = omega arith

seats-grow-from : {C T Q X : Type 0} → (P : Protocol C T Q X) (m : Meaning C Q X) (history : List Entry)
    → length m.seats ≤ length (fold (apply P) m history).seats
seats-grow-from P m [] = omega arith
seats-grow-from P m (entry ∷ history) =
    let here = seats-grow P m entry in
    let later = seats-grow-from P (apply P m entry) history in
    omega (arith, here, later)

take-behind : {C T Q X : Type 0} → (P : Protocol C T Q X) (s r : ℕ) (m : Meaning C Q X) (b : Bool) → (r == s) ≡ b
    → length m.seats < s → (if b then waiting P (seat_of r m.seats) else []) ≡ []
take-behind P s r m true same below =
    let number = eqb-true r s same in
    ap (waiting P) (at-behind r m.seats (omega (arith, number, below)))
take-behind P s r m false same below = refl

entry-behind : {C T Q X : Type 0} → (P : Protocol C T Q X) (s : ℕ) (m : Meaning C Q X) (entry : Entry)
    → length m.seats < s → handed_at P s m entry ≡ []
entry-behind P s m Attach below = refl
entry-behind P s m (Tell r text) below = refl
entry-behind P s m (Take r) below = take-behind P s r m (r == s) refl below
entry-behind P s m (Detach r) below = refl
entry-behind P s m (Ran n moment gone) below = refl
entry-behind P s m Shut below = refl

-- nothing is handed out to a number that has no seat behind the history
handed-behind : {C T Q X : Type 0} → (P : Protocol C T Q X) (s : ℕ) (m : Meaning C Q X) (history : List Entry)
    → length (fold (apply P) m history).seats < s → handed_of P s m history ≡ []
handed-behind P s m [] below = refl
handed-behind P s m (entry ∷ history) below =
    let grows = seats-grow-from P m (entry ∷ history) in
    both-none (handed_at P s m entry) (handed_of P s (apply P m entry) history)
    (entry-behind P s m entry (omega (arith, grows, below))) (handed-behind P s (apply P m entry) history below)

-- nor to a session that was attached just now
pub handed-next : {C T Q X : Type 0} → (P : Protocol C T Q X) (c : C) (wait : Bool) (history : List (ℕ × Entry)) (k : ℕ)
    → handed_of P (length (whole P c wait (entries_of history)).seats + 1) (begin c wait)
    (entries_of (history ++ (k, Attach) ∷ []))
    ≡ []
handed-next P c wait history k =
    let s = length (whole P c wait (entries_of history)).seats + 1 in
    handed-same P s c wait history k Attach tt
    ∙ handed-behind P s (begin c wait) (entries_of history) (omega arith)
