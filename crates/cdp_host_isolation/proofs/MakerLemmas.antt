-- The entries of one maker, and the owners of sessions, of a history that goes on.
use Rattle.std.proofs.Common.{◌≡◌, ◌≢◌, ◌≤◌, ℕ, zero, suc, ◌+◌, List, [], ◌∷◌, ◌++◌, length, Bool, true, false, ◌==◌, if◌then◌else◌, fold, Some, slice_get, refl, ap, sym, ◌∙◌, arith, append-nil}
use Rattle.std.proofs.lemmas.Bool.{eq-eqb, ne_eqb}
use Rattle.std.proofs.lemmas.List.{append_cancel_left, length-append}
use Rattle.std.proofs.lemmas.Option.{slice_get_within}
use Rattle.cdp_host_isolation.specs.Protocols.{Protocol}
use Rattle.cdp_host_isolation.specs.Meanings.{Meaning, begin}
use Rattle.cdp_host_isolation.specs.Histories.{Entry, Attach, Tell, Take, Detach, Ran, Shut, apply, whole}
use Rattle.cdp_host_isolation.specs.Makers.{AreOwned, IsOwned, MayName, Owns, by, entries_of, owner_of, owners_behind, owners_from}
use Rattle.cdp_host_isolation.specs.declared.seat.Seat.TheVariants.{Attached}
use Rattle.cdp_host_isolation.proofs.TextLemmas.{append-length, detach-length, ran-length, take-length, tell-length}

-- ---- the entries of one maker

by-step : {E : Type 0} (b : Bool) (entry : E) (all front rest : List E) → all ≡ front ++ rest
    → (if b then entry ∷ all else all) ≡ (if b then entry ∷ front else front) ++ rest
by-step true entry all front rest is = ap (λ l. entry ∷ l) is
by-step false entry all front rest is = is

pub by-append : {E : Type 0} (k : ℕ) (history more : List (ℕ × E)) → by k (history ++ more) ≡ by k history ++ by k more
by-append k [] more = refl
by-append k (made ∷ history) more =
    by-step (made.0 == k) made.1 (by k (history ++ more)) (by k history) (by k more) (by-append k history more)

-- an entry of its own
pub by-own : {E : Type 0} (k : ℕ) (entry : E) (history : List (ℕ × E))
    → by k ((k, entry) ∷ history) ≡ entry ∷ by k history
by-own k entry history = ap (λ (b : Bool). if b then entry ∷ by k history else by k history) (eq-eqb k k refl)

-- an entry of another maker
pub by-other : {E : Type 0} (k j : ℕ) (entry : E) (history : List (ℕ × E)) → j ≢ k
    → by k ((j, entry) ∷ history) ≡ by k history
by-other k j entry history other =
    ap (λ (b : Bool). if b then entry ∷ by k history else by k history) (ne_eqb j k other)

-- where all of its entries stand in the front, none stands behind
pub by-none : {E : Type 0} (k : ℕ) (history more : List (ℕ × E)) → by k (history ++ more) ≡ by k history
    → by k more ≡ []
by-none k history more same =
    append_cancel_left (by k history) (by k more) []
    (sym (by-append k history more) ∙ same ∙ sym (append-nil (by k history)))

-- ---- owners

pub owners-append : (owners : List ℕ) (history more : List (ℕ × Entry))
    → owners_from owners (history ++ more) ≡ owners_from (owners_from owners history) more
owners-append owners [] more = refl
owners-append owners (made ∷ history) more = owners-append (owners_behind owners made.0 made.1) history more

get-front : (xs ys : List ℕ) (i k : ℕ) → slice_get xs i ≡ Some k → slice_get (xs ++ ys) i ≡ Some k
get-front [] ys i k is = absurd cc
get-front (x ∷ xs) ys zero k is = is
get-front (x ∷ xs) ys (suc i) k is = get-front xs ys i k is

get-last : (xs : List ℕ) (k : ℕ) → slice_get (xs ++ k ∷ []) (length xs) ≡ Some k
get-last [] k = refl
get-last (x ∷ xs) k = get-last xs k

owner-front : (xs ys : List ℕ) (s k : ℕ) → owner_of s xs ≡ Some k → owner_of s (xs ++ ys) ≡ Some k
owner-front xs ys zero k is = absurd cc
owner-front xs ys (suc i) k is = get-front xs ys i k is

-- a session keeps its owner
pub owner-stays : (owners : List ℕ) (j : ℕ) (entry : Entry) (s k : ℕ) → owner_of s owners ≡ Some k
    → owner_of s (owners_behind owners j entry) ≡ Some k
owner-stays owners j Attach s k is = owner-front owners (j ∷ []) s k is
owner-stays owners j (Tell r text) s k is = is
owner-stays owners j (Take r) s k is = is
owner-stays owners j (Detach r) s k is = is
owner-stays owners j (Ran n moment gone) s k is = is
owner-stays owners j Shut s k is = is

owner-stays-from : (owners : List ℕ) (history : List (ℕ × Entry)) (s k : ℕ) → owner_of s owners ≡ Some k
    → owner_of s (owners_from owners history) ≡ Some k
owner-stays-from owners [] s k is = is
owner-stays-from owners (made ∷ history) s k is =
    owner-stays-from (owners_behind owners made.0 made.1) history s k (owner-stays owners made.0 made.1 s k is)

-- also in each longer history
pub owns-longer : (k s : ℕ) (history more : List (ℕ × Entry)) → Owns k s history → Owns k s (history ++ more)
owns-longer k s history more owns =
    ap (owner_of s) (owners-append [] history more) ∙ owner-stays-from (owners_from [] history) more s k owns

-- a session that has an owner is named by none but that one
pub named-owner : (owners : List ℕ) (s j k : ℕ) → owner_of s owners ≡ Some k → MayName owners j s → j ≡ k
named-owner owners zero j k is may = absurd cc
named-owner owners (suc i) j k is may = same-some (sym may ∙ is)
  where
    same-some : {a b : ℕ} → Some a ≡ Some b → a ≡ b
    same-some same = cc

-- an owner may name its session
pub owner-may : (k s : ℕ) (history : List (ℕ × Entry)) → Owns k s history → MayName (owners_from [] history) k s
owner-may k zero history owns = tt
owner-may k (suc i) history owns = owns

-- ---- histories in which each session is its owner's

pub owned-append : (owners : List ℕ) (history more : List (ℕ × Entry)) → AreOwned owners history
    → AreOwned (owners_from owners history) more → AreOwned owners (history ++ more)
owned-append owners [] more front behind = behind
owned-append owners (made ∷ history) more front behind =
    (front.0, owned-append (owners_behind owners made.0 made.1) history more front.1 behind)

-- one entry more
pub owned-more : (owners : List ℕ) (history : List (ℕ × Entry)) (k : ℕ) (entry : Entry) → AreOwned owners history
    → IsOwned (owners_from owners history) k entry → AreOwned owners (history ++ (k, entry) ∷ [])
owned-more owners history k entry front here = owned-append owners history ((k, entry) ∷ []) front (here, tt)

pub owned-front : (owners : List ℕ) (history more : List (ℕ × Entry)) → AreOwned owners (history ++ more)
    → AreOwned owners history
owned-front owners [] more all = tt
owned-front owners (made ∷ history) more all =
    (all.0, owned-front (owners_behind owners made.0 made.1) history more all.1)

pub owned-behind : (owners : List ℕ) (history more : List (ℕ × Entry)) → AreOwned owners (history ++ more)
    → AreOwned (owners_from owners history) more
owned-behind owners [] more all = all
owned-behind owners (made ∷ history) more all =
    owned-behind (owners_behind owners made.0 made.1) history more all.1

-- ---- owners and seats

entry-owners : {C T Q X : Type 0} → (P : Protocol C T Q X) (m : Meaning C Q X) (owners : List ℕ) (k : ℕ) (entry : Entry)
    → length m.seats ≡ length owners
    → length (apply P m entry).seats ≡ length (owners_behind owners k entry)
entry-owners P m owners k Attach same =
    let seats = append-length (Attached (P.fresh (length m.seats + 1))) m.seats in
    let makers = length-append owners (k ∷ []) in
    omega (arith, seats, makers, same)
entry-owners P m owners k (Tell s text) same = tell-length P s text m _ ∙ same
entry-owners P m owners k (Take s) same = take-length P s m _ ∙ same
entry-owners P m owners k (Detach s) same = detach-length P s m _ ∙ same
entry-owners P m owners k (Ran n moment gone) same = ran-length P n moment gone m ∙ same
entry-owners P m owners k Shut same = same

owners-from-seats : {C T Q X : Type 0}
    → (P : Protocol C T Q X) (m : Meaning C Q X) (owners : List ℕ) (history : List (ℕ × Entry))
    → length m.seats ≡ length owners
    → length (fold (apply P) m (entries_of history)).seats ≡ length (owners_from owners history)
owners-from-seats P m owners [] same = same
owners-from-seats P m owners (made ∷ history) same =
    owners-from-seats P (apply P m made.1) (owners_behind owners made.0 made.1) history
    (entry-owners P m owners made.0 made.1 same)

-- there are as many owners as seats
pub owners-seats : {C T Q X : Type 0} → (P : Protocol C T Q X) (c : C) (wait : Bool) (history : List (ℕ × Entry))
    → length (whole P c wait (entries_of history)).seats ≡ length (owners_from [] history)
owners-seats P c wait history = owners-from-seats P (begin c wait) [] history refl

owner-inside : (owners : List ℕ) (s k : ℕ) → owner_of s owners ≡ Some k → (1 ≤ s) × (s ≤ length owners)
owner-inside owners zero k is = absurd cc
owner-inside owners (suc i) k is = let inside = slice_get_within owners i k is in (omega arith, omega (arith, inside))

-- a session that has an owner has a seat
pub owns-inside : {C T Q X : Type 0}
    → (P : Protocol C T Q X) (c : C) (wait : Bool) (k s : ℕ) (history : List (ℕ × Entry))
    → Owns k s history → (1 ≤ s) × (s ≤ length (whole P c wait (entries_of history)).seats)
owns-inside P c wait k s history owns =
    let inside = owner-inside (owners_from [] history) s k owns in
    let low = inside.0 in
    let high = inside.1 in
    let same = owners-seats P c wait history in
    (low, omega (arith, high, same))

-- the next session has no owner yet
pub next-unowned : {C T Q X : Type 0}
    → (P : Protocol C T Q X) (c : C) (wait : Bool) (k : ℕ) (history : List (ℕ × Entry))
    → Owns k (length (whole P c wait (entries_of history)).seats + 1) history → ⊥
next-unowned P c wait k history owns =
    let high = (owns-inside P c wait k _ history owns).1 in
    absurd (omega (arith, high))

-- who attaches it owns it
pub owns-next : {C T Q X : Type 0} → (P : Protocol C T Q X) (c : C) (wait : Bool) (k : ℕ) (history : List (ℕ × Entry))
    → Owns k (length (whole P c wait (entries_of history)).seats + 1) (history ++ (k, Attach) ∷ [])
owns-next P c wait k history =
    let owners = owners_from [] history in
    let number : length (whole P c wait (entries_of history)).seats + 1 ≡ suc (length owners) =
    omega (arith, owners-seats P c wait history) in
    ap (owner_of (length (whole P c wait (entries_of history)).seats + 1)) (owners-append [] history ((k, Attach) ∷ []))
    ∙ ap (λ s. owner_of s (owners ++ k ∷ [])) number
    ∙ get-last owners k
