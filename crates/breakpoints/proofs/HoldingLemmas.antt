-- Which sessions have which places.
use Rattle.std.proofs.Common.{◌≡◌, ◌↔◌, ℕ, zero, suc, ◌+◌, ◌-◌, ◌<◌, Bool, true, false, not, ◌&&◌, ◌||◌, cond, List, [], ◌∷◌, ◌++◌, length, get_or, take, drop, map, filter, slice_get, Some, None, append_assoc, nat_eq, nat_cmp, IsTrue, Ordering, Less, Equal, Greater, is_eq, is_lt, is_gt, refl, sym, ap, ap₂, subst, ◌∙◌, inl, inr, ⊎_elim, arith, true≢false}
use Rattle.std.specs.Ordering.{match_ordering, ordering_then, ordering_reverse}
use Rattle.std.specs.Cmp.{IsTotalOrder, both_tied, Equal-is}
use Rattle.std.specs.List.{list_any, AllByRecursion}
use Rattle.std.specs.List.Sorted.{IsStrictlySortedBy, IsStrictlyIncreasing, IsPartitionedBy}
use Rattle.std.specs.BTreeMap.{is_at}
use Rattle.std.specs.BTreeSet.{insert_key}
use Rattle.std.proofs.lemmas.Bool.{cases_lt, and_parts, false_from_ne_true, or_cases, false≢true}
use Rattle.std.proofs.lemmas.Bool.Decides.{nat_tests}
use Rattle.std.proofs.lemmas.Cmp.{nat_cmp_total, on_total, then_total, tied_itself, alike_right}
use Rattle.std.proofs.lemmas.List.Folds.{list_any_more, list_any_at}
use Rattle.std.proofs.lemmas.List.Kept.{IsStrictlySortedBy-filter}
use Rattle.std.proofs.lemmas.Map.Keys.{Less-from_sorted, sorted_tail, IsStrictlyIncreasing-from_sorted}
use Rattle.cdp_text.specs.declared.position.Place.{Place}
use Rattle.std.proofs.lemmas.List.{drop_more}
use Rattle.breakpoints.specs.declared.holding.Holding.{Holding}
use Rattle.breakpoints.specs.Hits.{same_place, has_place}
use Rattle.breakpoints.specs.PlaceOrder.{place_cmp}
use Rattle.breakpoints.specs.PlaceIndex.{AreInOrder, HasAlso, HasOnly, HoldersAre, HoldsAll, holders_at, holding_cmp, holds, is_at_place, is_before, is_of_another, is_pair, session_of, starts_at, stays, without_session}
use Rattle.breakpoints.proofs.AscendingLemmas.{has-put}
use Rattle.breakpoints.proofs.ListLemmas.{Splits, any-filter, filter-twice, split-dropped, split-taken, slice-from, map-drop, map-take}
use Rattle.breakpoints.proofs.PlaceLemmas.{place_total, same-tied, same-right, has-alike, any-alike}

-- ---- the order of pairs

pub holding_total : IsTotalOrder holding_cmp
holding_total =
    then_total (on_total (λ (h : Holding). h.place) place_total) (on_total (λ (h : Holding). h.session) nat_cmp_total)

abbrev pair : ℕ → Place → Holding
pair session place = record { place = place; session = session }

tied : (a b : ℕ) → nat_eq a b ≡ is_eq (nat_cmp a b)
tied a b = grind (arith, nat_tests)

pair-tied : (session : ℕ) (p : Place) (h : Holding) → is_pair session p h ≡ is_at (holding_cmp (pair session p)) h
pair-tied session p h = both_tied _ _ _ _ (same-tied h.place p) (tied session h.session)

-- what a search by that order finds
pub holds-contains : (session : ℕ) (p : Place) (index : List Holding)
    → holds session p index ≡ list_any (is_at (holding_cmp (pair session p))) index
holds-contains session p index =
    any-alike (is_pair session p) (is_at (holding_cmp (pair session p))) (pair-tied session p) index

same-self : (p : Place) → same_place p p ≡ true
same-self p = same-tied p p ∙ ap is_eq (tied_itself place_total p)

own-session : (session : ℕ) → nat_eq session session ≡ true
own-session session = grind (arith, nat_tests)

-- what is the same place is held alike
holds-alike : (session : ℕ) (p q : Place) (index : List Holding)
    → same_place p q ≡ true
    → holds session p index ≡ holds session q index
holds-alike session p q index same =
    any-alike (is_pair session p) (is_pair session q)
    (λ h. ap (λ b. b && nat_eq session h.session) (same-right h.place p q same)) index

-- ---- a pair more

and-true : (b c : Bool) → c ≡ true → (b && c) ≡ b
and-true true c e = e
and-true false c e = refl

holds-put : (session : ℕ) (p q : Place) (index : List Holding)
    → holds session q (insert_key holding_cmp index (pair session p)) ≡ (same_place p q || holds session q index)
holds-put session p q index =
    holds-contains session q (insert_key holding_cmp index (pair session p))
    ∙ has-put holding_total index (pair session p) (pair session q)
    ∙ ap₂ (λ b c. b || c)
    (sym (pair-tied session q (pair session p)) ∙ and-true (same_place p q) (nat_eq session session) (own-session session))
    (sym (holds-contains session q index))

-- one that a filter leaves out changes nothing of what it keeps
filter-put : (keeps : Holding → Bool) (index : List Holding) (h : Holding)
    → keeps h ≡ false
    → filter keeps (insert_key holding_cmp index h) ≡ filter keeps index
filter-put keeps [] h out = ap (λ b. cond b (h ∷ []) []) out
filter-put keeps (g ∷ gs) h out = at (holding_cmp h g) (filter-put keeps gs h out)
  where
    at : (r : Ordering)
        → filter keeps (insert_key holding_cmp gs h) ≡ filter keeps gs
        → filter keeps (match_ordering r (h ∷ g ∷ gs) (g ∷ gs) (g ∷ insert_key holding_cmp gs h)) ≡ filter keeps (g ∷ gs)
    at Less e = ap (λ b. cond b (h ∷ filter keeps (g ∷ gs)) (filter keeps (g ∷ gs))) out
    at Equal e = refl
    at Greater e = ap (λ rest. cond (keeps g) (g ∷ rest) rest) e

joined : (a b c d : Bool) → d ≡ (b || c) → (a || d) ≡ ((b || a) || c)
joined true true c d e = refl
joined true false c d e = refl
joined false true c d e = e
joined false false c d e = e

-- the next of some places is put to those before it
pub also-more : (session : ℕ) (places : List Place) (i : ℕ) (d : Place) (old now new : List Holding)
    → i < length places
    → HasAlso session (take i places) old now
    → new ≡ insert_key holding_cmp now (pair session (get_or places i d))
    → HasAlso session (take (i + 1) places) old new
also-more session places i d old now new h also put = record {
  own = λ q.
      ap (holds session q) put
      ∙ holds-put session (get_or places i d) q now
      ∙ joined (same_place (get_or places i d) q) (has_place q (take i places)) (holds session q old)
      (holds session q now) (also.own q)
      ∙ ap (λ b. b || holds session q old) (sym (list_any_more (λ r. same_place r q) places i d h));
  others =
      ap (without_session session) put
      ∙ filter-put (is_of_another session) now (pair session (get_or places i d)) (ap not (own-session session))
      ∙ also.others;
}

-- ---- all of some places

-- a session that has all places has them also
pub also-held : (session : ℕ) (places : List Place) (index : List Holding)
    → HoldsAll session places index
    → HasAlso session places index index
also-held session places index all = record {
  own = λ q. either (has_place q places) (holds session q index) (all q);
  others = refl;
}
  where
    either : (b c : Bool) → (b ≡ true → c ≡ true) → c ≡ (b || c)
    either true c f = f refl
    either false c f = refl

pub all-more : (session : ℕ) (places : List Place) (i : ℕ) (d : Place) (index : List Holding)
    → i < length places
    → holds session (get_or places i d) index ≡ true
    → HoldsAll session (take i places) index
    → HoldsAll session (take (i + 1) places) index
all-more session places i d index h held all q has =
    ⊎_elim (λ before. all q before) (λ same. sym (holds-alike session (get_or places i d) q index same) ∙ held)
    (or_cases (has_place q (take i places)) (same_place (get_or places i d) q)
    (sym (list_any_more (λ r. same_place r q) places i d h) ∙ has))

-- one that isn't held is enough
pub not-all : (session : ℕ) (places : List Place) (i : ℕ) (d : Place) (index : List Holding)
    → i < length places
    → holds session (get_or places i d) index ≡ false
    → IsTrue false ↔ HoldsAll session places index
not-all session places i d index h none =
    let p = get_or places i d in (
      λ f. absurd (false≢true f),
      λ all. absurd (true≢false (sym (all p (list_any_at (λ r. same_place r p) places i d h (same-self p))) ∙ none)),
    )

-- ---- what stays where a session is to have some places alone

place-kept : (session : ℕ) (places : List Place) (q : Place) (h : Holding)
    → is_pair session q h ≡ true
    → stays session places h ≡ has_place q places
place-kept session places q h is =
    let parts = and_parts (same_place h.place q) (nat_eq session h.session) is in
    let own : nat_eq h.session session ≡ true = grind (arith, nat_tests, parts.1) in
    ap (λ b. not b || has_place h.place places) own ∙ has-alike h.place q places parts.0

pub only-kept : (session : ℕ) (places : List Place) (old now : List Holding)
    → HasAlso session places old now
    → HasOnly session places (filter (stays session places) now)
only-kept session places old now also q =
    any-filter (is_pair session q) (stays session places) (has_place q places) (place-kept session places q) now
    ∙ ap (λ b. b && has_place q places) (also.own q)
    ∙ absorbed (has_place q places) (holds session q old)
  where
    absorbed : (b c : Bool) → ((b || c) && b) ≡ b
    absorbed true c = refl
    absorbed false true = refl
    absorbed false false = refl

pub others-kept : (session : ℕ) (places : List Place) (old now : List Holding)
    → HasAlso session places old now
    → without_session session (filter (stays session places) now) ≡ without_session session old
others-kept session places old now also =
    filter-twice (is_of_another session) (stays session places) (λ h is. ap (λ b. b || has_place h.place places) is) now
    ∙ also.others

-- ---- the pairs of a place stand together

order-parts : (o r : Ordering) → ordering_then o r ≡ Less → is_gt o ≡ false
order-parts Less r e = refl
order-parts Equal r e = refl
order-parts Greater r e = ap is_gt e

lt-is : (r : Ordering) → is_lt r ≡ true → r ≡ Less
lt-is Less e = refl
lt-is Equal e = absurd (true≢false (sym e))
lt-is Greater e = absurd (true≢false (sym e))

below : (p q r : Place) → is_gt (place_cmp p q) ≡ false → is_lt (place_cmp q r) ≡ true → is_lt (place_cmp p r) ≡ true
below p q r h e = at (place_cmp p q) refl h
  where
    at : (o : Ordering) → place_cmp p q ≡ o → is_gt o ≡ false → is_lt (place_cmp p r) ≡ true
    at Less is f = ap is_lt (place_total.trans p q r is (lt-is (place_cmp q r) e))
    at Equal is f = ap is_lt (place_total.congr p q r is) ∙ e
    at Greater is f = absurd (true≢false f)

pub before-first : (index : List Holding) (p : Place) → AreInOrder index → IsPartitionedBy (is_before p) index
before-first index p ordered i j d l m e =
    elim (cases_lt i j) [
      | inl lt ↦
          below (get_or index i d).place (get_or index j d).place p
          (order-parts _ _ (Less-from_sorted holding_cmp index i j d ordered lt m)) e
      | inr ge ↦ let same : i ≡ j = omega arith in ap (λ k. is_before p (get_or index k d)) same ∙ e
    ]

eq-of : (r : Ordering) → is_gt r ≡ false → is_lt r ≡ false → is_eq r ≡ true
eq-of Less g l = absurd (true≢false l)
eq-of Equal g l = refl
eq-of Greater g l = absurd (true≢false g)

turned : (p q : Place) → is_eq (place_cmp p q) ≡ is_eq (place_cmp q p)
turned p q = ap is_eq (place_total.antisymm p q) ∙ at (place_cmp q p)
  where
    at : (r : Ordering) → is_eq (ordering_reverse r) ≡ is_eq r
    at Less = refl
    at Equal = refl
    at Greater = refl

pub at-first : (index : List Holding) (p : Place)
    → AreInOrder index
    → Splits (is_before p) index 0
    → IsPartitionedBy (is_at_place p) index
at-first index p ordered none i j d l m e =
    elim (cases_lt i j) [
      | inl lt ↦
          let here = (get_or index i d).place in
          let there = (get_or index j d).place in
          let tie : place_cmp there p ≡ Equal = (Equal-is (place_cmp there p)).0 (turned there p ∙ sym (same-tied there p) ∙ e) in
          let no_later = ap is_gt (sym (alike_right place_total there p here tie))
          ∙ order-parts _ _ (Less-from_sorted holding_cmp index i j d ordered lt m) in
          same-tied here p ∙ turned p here ∙ eq-of (place_cmp here p) no_later (none.1 i d (omega arith) (omega arith))
      | inr ge ↦ let same : i ≡ j = omega arith in ap (λ k. is_at_place p (get_or index k d)) same ∙ e
    ]

pub first-at : (p : Place) (index : List Holding) (h : Holding)
    → slice_get index 0 ≡ Some h
    → is_at_place p h ≡ starts_at p index
first-at p [] h is = absurd cc
first-at p (g ∷ gs) h is = let same : g ≡ h = cc in ap (is_at_place p) (sym same)

pub first-none : (p : Place) (index : List Holding) → slice_get index 0 ≡ None → starts_at p index ≡ false
first-none p [] is = refl
first-none p (g ∷ gs) is = absurd cc

-- where the first pair isn't of a place, none is
pub none-start : (p : Place) (index : List Holding)
    → IsPartitionedBy (is_at_place p) index
    → starts_at p index ≡ false
    → take 0 index ≡ filter (is_at_place p) index
none-start p [] parted other = refl
none-start p (h ∷ hs) parted other =
    let none : Splits (is_at_place p) (h ∷ hs) 0 = (
      λ k d a b. absurd (omega arith),
      λ k d a b. false_from_ne_true (is_at_place p (get_or (h ∷ hs) k d))
          (λ is. true≢false (sym (parted 0 k d (omega arith) b is) ∙ other)),
    ) in
    sym (split-taken (is_at_place p) (h ∷ hs) 0 none)

before-apart : (p : Place) (h : Holding) → is_before p h ≡ true → is_at_place p h ≡ false
before-apart p h e =
    same-tied h.place p ∙ turned p h.place ∙ ap is_eq (lt-is (place_cmp h.place p) e)

pub order-dropped : (n : ℕ) (index : List Holding) → AreInOrder index → AreInOrder (drop n index)
order-dropped zero index s = s
order-dropped (suc n) [] s = s
order-dropped (suc n) (h ∷ hs) s = order-dropped n hs (sorted_tail holding_cmp h hs s)

-- ---- the sessions of a place

pub holders-there : (p : Place) (index : List Holding) (sessions : List ℕ) (start count : ℕ)
    → sessions ≡ map session_of index
    → Splits (is_before p) index start
    → take count (drop start index) ≡ filter (is_at_place p) (drop start index)
    → take count (drop start sessions) ≡ holders_at p index
holders-there p index sessions start count beside splits there =
    ap (λ ns. take count (drop start ns)) beside
    ∙ ap (take count) (map-drop session_of start index)
    ∙ map-take session_of count (drop start index)
    ∙ ap (map session_of)
    (there ∙ sym (split-dropped (is_before p) (is_at_place p) (before-apart p) index start splits))

-- as they are lent
pub holders-lent : (p : Place) (index pairs : List Holding) (sessions lent : List ℕ) (start count : ℕ)
    → pairs ≡ index
    → lent ≡ sessions
    → sessions ≡ map session_of index
    → Splits (is_before p) index start
    → take count (take (length pairs - start) (drop start pairs))
    ≡ filter (is_at_place p) (take (length pairs - start) (drop start pairs))
    → take (start + count - start) (drop start lent) ≡ holders_at p index
holders-lent p index pairs sessions lent start count is same beside splits there =
    let number : start + count - start ≡ count = omega arith in
    ap (λ n. take n (drop start lent)) number
    ∙ ap (λ ns. take count (drop start ns)) same
    ∙ holders-there p index sessions start count beside splits
    (subst (λ hs. take count hs ≡ filter (is_at_place p) hs) (slice-from pairs start ∙ ap (drop start) is) there)

pub holders-exact : (p : Place) (index : List Holding) → HoldersAre p index (holders_at p index)
holders-exact p [] session = refl
holders-exact p (h ∷ hs) session = at (is_at_place p h) (holders-exact p hs session)
  where
    at : (b : Bool)
        → list_any (nat_eq session) (holders_at p hs) ≡ holds session p hs
        → list_any (nat_eq session) (map session_of (cond b (h ∷ filter (is_at_place p) hs) (filter (is_at_place p) hs)))
        ≡ ((b && nat_eq session h.session) || holds session p hs)
    at true e = ap (λ c. nat_eq session h.session || c) e
    at false e = e

sessions-above : (p : Place) (h : Holding) (hs : List Holding)
    → is_at_place p h ≡ true
    → AllByRecursion (λ g. holding_cmp h g ≡ Less) hs
    → AllByRecursion (λ n. nat_cmp h.session n ≡ Less) (holders_at p hs)
sessions-above p h [] is a = tt
sessions-above p h (g ∷ gs) is a = at (is_at_place p g) refl (sessions-above p h gs is a.1)
  where
    at : (b : Bool)
        → is_at_place p g ≡ b
        → AllByRecursion (λ n. nat_cmp h.session n ≡ Less) (holders_at p gs)
        → AllByRecursion (λ n. nat_cmp h.session n ≡ Less)
        (map session_of (cond b (g ∷ filter (is_at_place p) gs) (filter (is_at_place p) gs)))
    at true e rest =
        let mine = (Equal-is (place_cmp p h.place)).0 (sym (same-tied h.place p) ∙ is) in
        let other = (Equal-is (place_cmp p g.place)).0 (sym (same-tied g.place p) ∙ e) in
        let same = sym (place_total.congr p h.place g.place mine) ∙ other in
        (sym (ap (λ r. ordering_then r (nat_cmp h.session g.session)) same) ∙ a.0, rest)
    at false e rest = rest

sessions-sorted : (p : Place) (index : List Holding)
    → AreInOrder index
    → IsStrictlySortedBy nat_cmp (holders_at p index)
unfolding IsStrictlySortedBy
sessions-sorted p [] s = tt
sessions-sorted p (h ∷ hs) s = at (is_at_place p h) refl (sessions-sorted p hs s.1)
  where
    at : (b : Bool)
        → is_at_place p h ≡ b
        → IsStrictlySortedBy nat_cmp (holders_at p hs)
        → IsStrictlySortedBy nat_cmp
        (map session_of (cond b (h ∷ filter (is_at_place p) hs) (filter (is_at_place p) hs)))
    at true e rest = (sessions-above p h hs e s.0, rest)
    at false e rest = rest

pub holders-ascend : (p : Place) (index : List Holding) → AreInOrder index → IsStrictlyIncreasing (holders_at p index)
holders-ascend p index s = IsStrictlyIncreasing-from_sorted (holders_at p index) (sessions-sorted p index s)

-- ---- the sessions beside the pairs

pub kept-order : (keeps : Holding → Bool) (old new : List Holding)
    → new ≡ filter keeps old
    → AreInOrder old
    → AreInOrder new
kept-order keeps old new is s = rw is (IsStrictlySortedBy-filter holding_cmp keeps old s)

-- the session of the next pair is written
pub written-more : (sessions all : List ℕ) (index : List Holding) (i : ℕ) (d : Holding)
    → all ≡ sessions ++ (get_or index i d).session ∷ []
    → i < length index
    → sessions ++ map session_of (drop i index) ≡ map session_of index
    → all ++ map session_of (drop (i + 1) index) ≡ map session_of index
written-more sessions all index i d is l inv =
    ap (λ ns. ns ++ map session_of (drop (i + 1) index)) is
    ∙ (append_assoc sessions ((get_or index i d).session ∷ []) (map session_of (drop (i + 1) index))
    ∙ (sym (ap (λ hs. sessions ++ map session_of hs) (drop_more index i d l)) ∙ inv))
