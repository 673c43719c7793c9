-- The breakpoints of a session and the places at which they stand.
use Rattle.std.proofs.Common.{◌≡◌, ℕ, ◌+◌, ◌<◌, Bool, true, false, not, ◌&&◌, ◌||◌, List, [], ◌∷◌, ◌++◌, length, get_or, take, filter, remove, inl, inr, AllPairs, Some, None, refl, sym, ap, ap₂, ◌∙◌, arith}
use Rattle.std.specs.List.{list_any, position}
use Rattle.std.specs.BTreeSet.{insert_key}
use Rattle.std.specs.Cmp.Lexicographic.{nat_list_eq_equiv}
use Rattle.std.proofs.lemmas.Bool.{cases_lt}
use Rattle.std.proofs.lemmas.List.Folds.{list_any_more, list_any-append, list_any_at, list_any_none}
use Rattle.std.proofs.lemmas.List.Quantifiers.{all_pairs_push, all_pairs_remove, position-Some}
use Rattle.cdp_text.specs.declared.position.Place.{Place}
use Rattle.breakpoints.specs.declared.breakpoint.Breakpoint.{Breakpoint}
use Rattle.breakpoints.specs.Hits.{same_place, has_place, stands_at}
use Rattle.breakpoints.specs.Breakpoints.{has_id, has_another_id}
use Rattle.breakpoints.specs.PlaceOrder.{place_cmp}
use Rattle.breakpoints.specs.PlaceSet.{HasBoth, LacksOne}
use Rattle.breakpoints.specs.Indexed.{DifferInId, IsIndexed, KeepsStanding}
use Rattle.breakpoints.proofs.ListLemmas.{none-at, all-stay, only-one, any-removed, position-none}
use Rattle.breakpoints.proofs.PlaceLemmas.{stand-alike, has-more}

-- ---- places more

joined : (a b c d : Bool) → d ≡ (b || c) → (a || d) ≡ ((b || a) || c)
joined true true c d e = refl
joined true false c d e = refl
joined false true c d e = e
joined false false c d e = e

-- the next of some places is put to those before it
pub both-more : (more : List Place) (i : ℕ) (d : Place) (old now new : List Place)
    → i < length more
    → HasBoth (take i more) old now
    → new ≡ insert_key place_cmp now (get_or more i d)
    → HasBoth (take (i + 1) more) old new
both-more more i d old now new h both put q =
    ap (has_place q) put
    ∙ has-more (get_or more i d) q now
    ∙ joined (same_place (get_or more i d) q) (has_place q (take i more)) (has_place q old) (has_place q now) (both q)
    ∙ ap (λ b. b || has_place q old) (sym (list_any_more (λ r. same_place r q) more i d h))

-- ---- places less

-- a place goes where no breakpoint stands at it
gone : (h s t : Bool) → (t ≡ true → s ≡ false) → (h && not t) ≡ (h && (not t || s))
gone h s true f = ap (λ b. h && b) (sym (f refl))
gone true s false f = refl
gone false s false f = refl

kept : (h s t : Bool) → (t ≡ true → s ≡ true) → h ≡ (h && (not t || s))
kept true s true f = sym (f refl)
kept true s false f = refl
kept false s t f = refl

alone : (p q : Place) → (same_place p q || false) ≡ same_place p q
alone p q = or-false (same_place p q)
  where
    or-false : (b : Bool) → (b || false) ≡ b
    or-false true = refl
    or-false false = refl

pub none-stands : (p : Place) (bs : List Breakpoint) (old new : List Place)
    → list_any (stands_at p) bs ≡ false
    → LacksOne p old new
    → KeepsStanding (p ∷ []) bs old new
none-stands p bs old new none lacks q =
    lacks q
    ∙ gone (has_place q old) (list_any (stands_at q) bs) (same_place p q) (λ same. sym (stand-alike p q bs same) ∙ none)
    ∙ ap (λ b. has_place q old && (not b || list_any (stands_at q) bs)) (sym (alone p q))

pub one-stands : (p : Place) (bs : List Breakpoint) (old : List Place)
    → list_any (stands_at p) bs ≡ true
    → KeepsStanding (p ∷ []) bs old old
one-stands p bs old some q =
    kept (has_place q old) (list_any (stands_at q) bs) (same_place p q) (λ same. sym (stand-alike p q bs same) ∙ some)
    ∙ ap (λ b. has_place q old && (not b || list_any (stands_at q) bs)) (sym (alone p q))

twice : (h a b s : Bool) → ((h && (not a || s)) && (not b || s)) ≡ (h && (not (a || b) || s))
twice false a b s = refl
twice true true true s = same s
  where
    same : (s : Bool) → (s && s) ≡ s
    same true = refl
    same false = refl
twice true true false s = whole s
  where
    whole : (s : Bool) → (s && true) ≡ s
    whole true = refl
    whole false = refl
twice true false b s = refl

-- the next of some places goes where no breakpoint stands at it
pub standing-more : (places : List Place) (bs : List Breakpoint) (i : ℕ) (d : Place) (old now new : List Place)
    → i < length places
    → KeepsStanding (take i places) bs old now
    → KeepsStanding (get_or places i d ∷ []) bs now new
    → KeepsStanding (take (i + 1) places) bs old new
standing-more places bs i d old now new h keeps next q =
    let p = get_or places i d in
    next q
    ∙ ap₂ (λ b c. b && (not c || list_any (stands_at q) bs)) (keeps q) (alone p q)
    ∙ twice (has_place q old) (has_place q (take i places)) (same_place p q) (list_any (stands_at q) bs)
    ∙ ap (λ b. has_place q old && (not b || list_any (stands_at q) bs))
    (sym (list_any_more (λ r. same_place r q) places i d h))

-- ---- a breakpoint more

pub added-indexed : (bs : List Breakpoint) (b : Breakpoint) (old new : List Place)
    → IsIndexed bs old
    → list_any (has_id b.id) bs ≡ false
    → HasBoth b.places old new
    → IsIndexed (bs ++ b ∷ []) new
added-indexed bs b old new x none both = record {
  apart = all_pairs_push DifferInId bs b x.apart (λ k d h. none-at (has_id b.id) bs none k d h);
  exact = λ p.
      both p
      ∙ ap (λ c. has_place p b.places || c) (x.exact p)
      ∙ turned (has_place p b.places) (list_any (stands_at p) bs)
      ∙ sym (list_any-append (stands_at p) bs (b ∷ []));
}
  where
    turned : (c d : Bool) → (c || d) ≡ (d || (c || false))
    turned true true = refl
    turned true false = refl
    turned false true = refl
    turned false false = refl

-- ---- a breakpoint less

settled : (a r : Bool) → ((a || r) && (not a || r)) ≡ r
settled true r = refl
settled false true = refl
settled false false = refl

pub removed-indexed : (bs : List Breakpoint) (i : ℕ) (b : Breakpoint) (old new : List Place)
    → i < length bs
    → b ≡ get_or bs i b
    → IsIndexed bs old
    → KeepsStanding b.places (remove bs i) old new
    → IsIndexed (remove bs i) new
removed-indexed bs i b old new h here x keeps = record {
  apart = all_pairs_remove DifferInId bs i h x.apart;
  exact = λ p.
      keeps p
      ∙ ap (λ c. c && (not (stands_at p b) || list_any (stands_at p) (remove bs i)))
      (x.exact p
      ∙ any-removed (stands_at p) bs i b h
      ∙ ap (λ c. stands_at p c || list_any (stands_at p) (remove bs i)) (sym here))
      ∙ settled (stands_at p b) (list_any (stands_at p) (remove bs i));
}

-- the breakpoint of an id is the only one of it
pub without-one : (id : List ℕ) (bs : List Breakpoint) (i : ℕ) (b : Breakpoint)
    → AllPairs DifferInId bs
    → position (has_id id) bs ≡ Some i
    → filter (has_another_id id) bs ≡ remove bs i
without-one id bs i b apart e =
    only-one (has_id id) bs i (position-Some (has_id id) bs i b e).0 (λ d. (position-Some (has_id id) bs i d e).1)
    (λ k d h other.
    elim (cases_lt k i) [
      | inl below ↦ (position-Some (has_id id) bs i d e).2 k below
      | inr above ↦
          let here = (position-Some (has_id id) bs i d e).1 in
          let differ = apart i k d (omega arith) h in
          nat_list_eq_equiv.symm (get_or bs k d).id id
          ∙ sym (nat_list_eq_equiv.congr (get_or bs i d).id id (get_or bs k d).id here)
          ∙ differ
    ])

pub with-one : (id : List ℕ) (bs : List Breakpoint) (i : ℕ) (b : Breakpoint)
    → position (has_id id) bs ≡ Some i
    → true ≡ list_any (has_id id) bs
with-one id bs i b e =
    let found = position-Some (has_id id) bs i b e in
    sym (list_any_at (has_id id) bs i b found.0 found.1)

-- no breakpoint has an id
pub without-none : (id : List ℕ) (bs : List Breakpoint)
    → None ≡ position (has_id id) bs
    → bs ≡ filter (has_another_id id) bs
without-none id bs e = sym (all-stay (has_id id) bs (position-none (has_id id) bs e))

pub none-has : (id : List ℕ) (bs : List Breakpoint) → None ≡ position (has_id id) bs → false ≡ list_any (has_id id) bs
none-has id bs e = sym (list_any_none (has_id id) bs (position-none (has_id id) bs e))
