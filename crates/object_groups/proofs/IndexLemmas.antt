-- What is kept for each group, as handles are added and taken out.
use Rattle.std.proofs.Common.{◌≡◌, ℕ, ◌+◌, ◌<◌, Bool, true, false, not, cond, List, [], ◌∷◌, ◌++◌, map, length, refl, sym, ap, subst, ◌∙◌, arith, append-nil, true≢false, Greater}
use Rattle.std.specs.Prelude.{filter, nat_eq, nat_le, bytes_eq, if◌then◌else◌, Option, Some, None}
use Rattle.std.specs.Ordering.{nat_cmp, match_ordering}
use Rattle.std.specs.Cmp.{unsigned_ties, nat_cmp_is}
use Rattle.std.specs.Cmp.Lexicographic.{bytes_decides, nat_list_eq_equiv}
use Rattle.std.specs.Option.{is_some}
use Rattle.std.specs.List.{find, list_any}
use Rattle.std.specs.Set.{remove_key}
use Rattle.std.specs.BTreeMap.{is_at}
use Rattle.std.specs.BTreeSet.{insert_key}
use Rattle.std.proofs.lemmas.Bool.Decides.{nat_tests}
use Rattle.std.proofs.lemmas.List.{map-append}
use Rattle.std.proofs.lemmas.List.Elements.{filter-append}
use Rattle.object_groups.specs.declared.handle.Handle.{Handle}
use Rattle.object_groups.specs.declared.groups.Groups.{Groups}
use Rattle.object_groups.specs.declared.fault.TheConstants.{MOST_HELD, MOST_MADE}
use Rattle.object_groups.specs.declared.fault.HandleFault.TheVariants.{Full}
use Rattle.object_groups.specs.Handles.{HeldHandles, fault_of, without_group, has_number, has_another_number, is_named, is_in, is_outside}
use Rattle.object_groups.specs.Numbers.{AllBelow, AllAbove, IsAscending}
use Rattle.object_groups.specs.Groups.{numbers_in, number_of, group_numbers, AreGroupsOf}
use Rattle.object_groups.specs.Index.{without_all, IsIndexed}
use Rattle.object_groups.proofs.NumberLemmas.{length-without, below-filter, below-push, below-weaker, ascending-push, find-any, above-filter, ascending-filter, unused-below, unused-above, without-unused}

-- ---- a handle more

insert-last : (n : ℕ) (hs : List Handle)
    → AllBelow n hs
    → insert_key nat_cmp (map number_of hs) n ≡ map number_of hs ++ n ∷ []
insert-last n [] b = refl
insert-last n (h ∷ hs) b =
    ap (λ o. match_ordering o (n ∷ h.number ∷ map number_of hs) (h.number ∷ map number_of hs)
    (h.number ∷ insert_key nat_cmp (map number_of hs) n))
    (sym (nat_cmp_is n h.number Greater b.0))
    ∙ ap (λ ns. h.number ∷ ns) (insert-last n hs b.1)

-- the numbers of a group, with one that is in it or isn't
with-last : (q : List ℕ) (hs : List Handle) (h : Handle)
    → group_numbers q (hs ++ h ∷ []) ≡ group_numbers q hs ++ map number_of (cond (is_in q h) (h ∷ []) [])
with-last q hs h =
    ap (map number_of) (filter-append (is_in q) hs (h ∷ []))
    ∙ map-append number_of (filter (is_in q) hs) (filter (is_in q) (h ∷ []))

pub grouped-more : (hs : List Handle) (h : Handle) (g : List ℕ) (old new : Groups)
    → h.group ≡ Some g
    → AllBelow h.number hs
    → AreGroupsOf hs old
    → ((q : List ℕ)
    → numbers_in q new ≡
    (if bytes_eq g q then insert_key nat_cmp (numbers_in q old) h.number else numbers_in q old))
    → AreGroupsOf (hs ++ h ∷ []) new
grouped-more hs h g old new some below are changed q =
    changed q ∙ ap (λ ns. if bytes_eq g q then insert_key nat_cmp ns h.number else ns) (are q)
    ∙ at (bytes_eq g q)
    ∙ sym (with-last q hs h ∙ ap (λ o. group_numbers q hs ++ map number_of (cond (is_named q o) (h ∷ []) [])) some)
  where
    at : (b : Bool)
        → (if b then insert_key nat_cmp (group_numbers q hs) h.number else group_numbers q hs)
        ≡ group_numbers q hs ++ map number_of (cond b (h ∷ []) [])
    at true = insert-last h.number (filter (is_in q) hs) (below-filter h.number (is_in q) hs below)
    at false = sym (append-nil (group_numbers q hs))

-- what was added can be taken out again
pub added-and-removed : (hs : List Handle) (h : Handle)
    → AllBelow h.number hs
    → filter (has_another_number h.number) (hs ++ h ∷ []) ≡ hs
added-and-removed hs h below =
    filter-append (has_another_number h.number) hs (h ∷ [])
    ∙ ap (λ xs. xs ++ filter (has_another_number h.number) (h ∷ []))
    (without-unused h.number hs (unused-below h.number hs below))
    ∙ ap (λ b. hs ++ cond (not b) (h ∷ []) []) same
    ∙ append-nil hs
  where
    same : nat_eq h.number h.number ≡ true
    same = grind (arith, nat_tests)

-- ---- a handle less

remove-number : (n : ℕ) (hs : List Handle)
    → IsAscending hs
    → remove_key (is_at (nat_cmp n)) (map number_of hs) ≡ map number_of (filter (has_another_number n) hs)
remove-number n [] a = refl
remove-number n (h ∷ hs) a =
    ap (λ b. cond b (map number_of hs) (h.number ∷ remove_key (is_at (nat_cmp n)) (map number_of hs)))
    (sym (unsigned_ties n h.number))
    ∙ at (remove-number n hs a.1) (nat_eq n h.number) refl
  where
    at : remove_key (is_at (nat_cmp n)) (map number_of hs) ≡ map number_of (filter (has_another_number n) hs)
        → (b : Bool)
        → nat_eq n h.number ≡ b
        → cond b (map number_of hs) (h.number ∷ remove_key (is_at (nat_cmp n)) (map number_of hs)) ≡ map number_of
        (cond (not b) (h ∷ filter (has_another_number n) hs) (filter (has_another_number n) hs))
    at rest true e =
        ap (map number_of) (sym (without-unused n hs (unused-above h.number n hs a.0 (grind (arith, nat_tests)))))
    at rest false e = ap (λ ns. h.number ∷ ns) rest

-- two filters in either order
filters-swap : (p r : Handle → Bool) (hs : List Handle) → filter p (filter r hs) ≡ filter r (filter p hs)
filters-swap p r [] = refl
filters-swap p r (h ∷ hs) = at (filters-swap p r hs) (p h) (r h) refl refl
  where
    at : filter p (filter r hs) ≡ filter r (filter p hs)
        → (b d : Bool)
        → p h ≡ b
        → r h ≡ d
        → filter p (cond d (h ∷ filter r hs) (filter r hs)) ≡ filter r (cond b (h ∷ filter p hs) (filter p hs))
    at rest true true e f =
        ap (λ b. cond b (h ∷ filter p (filter r hs)) (filter p (filter r hs))) e
        ∙ ap (λ xs. h ∷ xs) rest
        ∙ sym (ap (λ d. cond d (h ∷ filter r (filter p hs)) (filter r (filter p hs))) f)
    at rest true false e f = rest ∙ sym (ap (λ d. cond d (h ∷ filter r (filter p hs)) (filter r (filter p hs))) f)
    at rest false true e f = ap (λ b. cond b (h ∷ filter p (filter r hs)) (filter p (filter r hs))) e ∙ rest
    at rest false false e f = rest

-- a group loses nothing by the end of a handle that isn't in it
not-lost : (n : ℕ) (q : List ℕ) (hs : List Handle) (h : Handle)
    → IsAscending hs
    → Some h ≡ find (has_number n) hs
    → is_in q h ≡ false
    → filter (is_in q) (filter (has_another_number n) hs) ≡ filter (is_in q) hs
not-lost n q [] h a f out = refl
not-lost n q (x ∷ hs) h a f out = at (λ e. not-lost n q hs h a.1 e out) (has_number n x) refl f
  where
    at : (Some h ≡ find (has_number n) hs → filter (is_in q) (filter (has_another_number n) hs) ≡ filter (is_in q) hs)
        → (b : Bool)
        → has_number n x ≡ b
        → Some h ≡ cond b (Some x) (find (has_number n) hs)
        → filter (is_in q) (cond (not b) (x ∷ filter (has_another_number n) hs) (filter (has_another_number n) hs))
        ≡ filter (is_in q) (x ∷ hs)
    at rest true e g =
        let same : h ≡ x = cc in
        ap (filter (is_in q)) (without-unused n hs (unused-above x.number n hs a.0 (grind (arith, nat_tests))))
        ∙ sym (ap (λ b. cond b (x ∷ filter (is_in q) hs) (filter (is_in q) hs)) (ap (is_in q) (sym same) ∙ out))
    at rest false e g = ap (λ xs. cond (is_in q x) (x ∷ xs) xs) (rest g)

pub ungrouped-less : (n : ℕ) (hs : List Handle) (h : Handle) (groups : Groups)
    → IsAscending hs
    → Some h ≡ find (has_number n) hs
    → h.group ≡ None
    → AreGroupsOf hs groups
    → AreGroupsOf (filter (has_another_number n) hs) groups
ungrouped-less n hs h groups a f none are q =
    are q ∙ sym (ap (map number_of) (not-lost n q hs h a f (ap (is_named q) none)))

pub grouped-less : (n : ℕ) (hs : List Handle) (h : Handle) (g : List ℕ) (old new : Groups)
    → IsAscending hs
    → Some h ≡ find (has_number n) hs
    → h.group ≡ Some g
    → AreGroupsOf hs old
    → ((q : List ℕ)
    → numbers_in q new ≡
    (if bytes_eq g q then remove_key (is_at (nat_cmp n)) (numbers_in q old) else numbers_in q old))
    → AreGroupsOf (filter (has_another_number n) hs) new
grouped-less n hs h g old new a f some are changed q =
    changed q
    ∙ ap (λ ns. if bytes_eq g q then remove_key (is_at (nat_cmp n)) ns else ns) (are q)
    ∙ at (bytes_eq g q) refl
  where
    at : (b : Bool)
        → bytes_eq g q ≡ b
        → (if b then remove_key (is_at (nat_cmp n)) (group_numbers q hs) else group_numbers q hs) ≡ group_numbers q
        (filter (has_another_number n) hs)
    at true e =
        remove-number n (filter (is_in q) hs) (ascending-filter (is_in q) hs a)
        ∙ ap (map number_of) (filters-swap (has_another_number n) (is_in q) hs)
    at false e = sym (ap (map number_of) (not-lost n q hs h a f (ap (is_named q) some ∙ e)))

-- ---- a group less

-- handles that all are above one leave it where it is
without-above : (h : Handle) (xs hs : List Handle)
    → AllAbove h.number xs
    → without_all (map number_of xs) (h ∷ hs) ≡ h ∷ without_all (map number_of xs) hs
without-above h [] hs a = refl
without-above h (x ∷ xs) hs a =
    let other : nat_eq x.number h.number ≡ false = grind (arith, nat_tests, a.0) in
    ap (λ b. without_all (map number_of xs)
    (cond (not b) (h ∷ filter (has_another_number x.number) hs) (filter (has_another_number x.number) hs)))
    other
    ∙ without-above h xs (filter (has_another_number x.number) hs) a.1

pub without-group : (g : List ℕ) (hs : List Handle)
    → IsAscending hs
    → without_all (group_numbers g hs) hs ≡ filter (is_outside g) hs
without-group g [] a = refl
without-group g (h ∷ hs) a = at (without-group g hs a.1) (is_in g h)
  where
    at : without_all (group_numbers g hs) hs ≡ filter (is_outside g) hs
        → (b : Bool)
        → without_all (map number_of (cond b (h ∷ filter (is_in g) hs) (filter (is_in g) hs))) (h ∷ hs) ≡ cond (not b)
        (h ∷ filter (is_outside g) hs) (filter (is_outside g) hs)
    at rest true =
        let same : nat_eq h.number h.number ≡ true = grind (arith, nat_tests) in
        ap (λ b. without_all (group_numbers g hs)
        (cond (not b) (h ∷ filter (has_another_number h.number) hs) (filter (has_another_number h.number) hs)))
        same
        ∙ ap (without_all (group_numbers g hs))
        (without-unused h.number hs (unused-above h.number h.number hs a.0 (omega arith)))
        ∙ rest
    at rest false =
        without-above h (filter (is_in g) hs) hs (above-filter h.number (is_in g) hs a.0) ∙ ap (λ xs. h ∷ xs) rest

none-inside : (g : List ℕ) (hs : List Handle) → filter (is_in g) (filter (is_outside g) hs) ≡ []
none-inside g [] = refl
none-inside g (h ∷ hs) = at (none-inside g hs) (is_in g h) refl
  where
    at : filter (is_in g) (filter (is_outside g) hs) ≡ []
        → (b : Bool)
        → is_in g h ≡ b
        → filter (is_in g) (cond (not b) (h ∷ filter (is_outside g) hs) (filter (is_outside g) hs)) ≡ []
    at rest true e = rest
    at rest false e =
        ap (λ b. cond b (h ∷ filter (is_in g) (filter (is_outside g) hs)) (filter (is_in g) (filter (is_outside g) hs)))
        e
        ∙ rest

-- what is in a group is outside the others
in-one : (g q : List ℕ) → bytes_eq g q ≡ false → (o : Option (List ℕ)) → is_named q o ≡ true → is_named g o ≡ false
in-one g q n None e = refl
in-one g q n (Some name) e = ap (λ l. bytes_eq l g) ((bytes_decides name q).0 e) ∙ nat_list_eq_equiv.symm q g ∙ n

others-stay : (g q : List ℕ)
    → bytes_eq g q ≡ false
    → (hs : List Handle)
    → filter (is_in q) (filter (is_outside g) hs) ≡ filter (is_in q) hs
others-stay g q n [] = refl
others-stay g q n (h ∷ hs) = at (others-stay g q n hs) (is_in g h) (is_in q h) refl refl
  where
    at : filter (is_in q) (filter (is_outside g) hs) ≡ filter (is_in q) hs
        → (b d : Bool)
        → is_in g h ≡ b
        → is_in q h ≡ d
        → filter (is_in q) (cond (not b) (h ∷ filter (is_outside g) hs) (filter (is_outside g) hs)) ≡ cond d
        (h ∷ filter (is_in q) hs) (filter (is_in q) hs)
    at rest true true e f = absurd (true≢false (sym e ∙ in-one g q n h.group f))
    at rest true false e f = rest
    at rest false d e f =
        ap (λ b. cond b (h ∷ filter (is_in q) (filter (is_outside g) hs)) (filter (is_in q) (filter (is_outside g) hs)))
        f
        ∙ ap (λ xs. cond d (h ∷ xs) xs) rest

pub group-less : (g : List ℕ) (hs : List Handle) (old new : Groups)
    → AreGroupsOf hs old
    → ((q : List ℕ) → numbers_in q new ≡ (if bytes_eq g q then [] else numbers_in q old))
    → AreGroupsOf (filter (is_outside g) hs) new
group-less g hs old new are changed q =
    changed q ∙ ap (λ ns. if bytes_eq g q then [] else ns) (are q) ∙ at (bytes_eq g q) refl
  where
    at : (b : Bool)
        → bytes_eq g q ≡ b
        → (if b then [] else group_numbers q hs) ≡ group_numbers q (filter (is_outside g) hs)
    at true e =
        sym (subst (λ l. group_numbers l (filter (is_outside g) hs) ≡ []) ((bytes_decides g q).0 e)
        (ap (map number_of) (none-inside g hs)))
    at false e = sym (ap (map number_of) (others-stay g q e hs))

-- ---- the whole

pub filtered-index : (p : Handle → Bool) (hs : List Handle) (made : ℕ) (old new : Groups)
    → IsIndexed hs made old
    → AreGroupsOf (filter p hs) new
    → IsIndexed (filter p hs) made new
filtered-index p hs made old new i are = record {
  below = below-filter (made + 1) p hs i.below;
  ascending = ascending-filter p hs i.ascending;
  few = i.few;
  grouped = are;
}

-- a number that wasn't found
pub nothing-found : (n : ℕ) (hs : List Handle) → None ≡ find (has_number n) hs → list_any (has_number n) hs ≡ false
nothing-found n hs f = sym (find-any n hs) ∙ ap is_some (sym f)

pub something-found : (n : ℕ) (hs : List Handle) (h : Handle)
    → Some h ≡ find (has_number n) hs
    → list_any (has_number n) hs ≡ true
something-found n hs h f = sym (find-any n hs) ∙ ap is_some (sym f)

pub unreleased : (n : ℕ) (hs : List Handle) (made : ℕ) (groups : Groups)
    → IsIndexed hs made groups
    → None ≡ find (has_number n) hs
    → IsIndexed (filter (has_another_number n) hs) made groups
unreleased n hs made groups i f =
    subst (λ xs. IsIndexed xs made groups) (sym (without-unused n hs (nothing-found n hs f))) i

pub added-index : (hs : List Handle) (h : Handle) (made : ℕ) (old new : Groups)
    → IsIndexed hs made old
    → h.number ≡ made + 1
    → made < MOST_MADE
    → AreGroupsOf (hs ++ h ∷ []) new
    → IsIndexed (hs ++ h ∷ []) (made + 1) new
added-index hs h made old new i e few are = record {
  below =
      below-push (made + 1 + 1) hs h (below-weaker (made + 1) (made + 1 + 1) hs (omega arith) i.below)
      (omega (arith, e));
  ascending = ascending-push hs h (subst (λ n. AllBelow n hs) (sym e) i.below) i.ascending;
  few = omega (arith, few);
  grouped = are;
}

pub length-less : (n : ℕ) (hs new : List Handle) (h : Handle)
    → IsAscending hs
    → Some h ≡ find (has_number n) hs
    → new ≡ filter (has_another_number n) hs
    → length new + 1 ≡ length hs
length-less n hs new h a f e =
    ap (λ xs. length xs + 1) e
    ∙ sym (ap (λ b. length (filter (has_another_number n) hs) + cond b 1 0) (something-found n hs h f))
    ∙ length-without n hs a

-- one more may be made where no fault stands
pub more-may-be : (s : HeldHandles) → fault_of s ≡ None → s.made < MOST_MADE
more-may-be s e = at (nat_le MOST_HELD (length s.held)) (nat_le MOST_MADE s.made) refl e
  where
    at : (b d : Bool)
        → nat_le MOST_MADE s.made ≡ d
        → (if b then Some (Full MOST_HELD) else if d then Some (Full MOST_MADE) else None) ≡ None
        → s.made < MOST_MADE
    at true d f e = absurd (cc)
    at false true f e = absurd (cc)
    at false false f e = grind (arith, nat_tests)

abbrev state : List Handle → ℕ → HeldHandles
state hs made = record { held = hs; made = made }

-- what is left of a state without a group
pub left-state : (g : List ℕ) (s : HeldHandles) (hs left : List Handle) (made : ℕ)
    → record { held = hs; made = made } ≡ s
    → left ≡ filter (is_outside g) hs
    → record { held = left; made = made } ≡ without_group g s
left-state g s hs left made e f = ap (λ xs. state xs made) f ∙ ap (without_group g) e

module _ (g : List ℕ) (hs : List Handle) (made : ℕ) (groups : Groups) (i : IsIndexed hs made groups) (ns : List ℕ)
    (e : ns ≡ numbers_in g groups) where
  pub left-of-group : without_all ns hs ≡ filter (is_outside g) hs
  left-of-group = ap (λ xs. without_all xs hs) (e ∙ i.grouped g) ∙ without-group g hs i.ascending
