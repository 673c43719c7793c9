-- A map of handles by number against their list.
use Rattle.std.proofs.Common.{◌≡◌, ℕ, ◌+◌, ◌-◌, ◌≤◌, Bool, true, false, not, ◌||◌, cond, List, [], ◌∷◌, ◌++◌, map, length, refl, sym, ap, subst, ◌∙◌, arith, nat_cmp, Greater}
use Rattle.std.specs.Prelude.{filter, nat_eq, nat_lt, Option, Some}
use Rattle.std.specs.Int.{from_bool}
use Rattle.std.specs.Ordering.{match_ordering}
use Rattle.std.specs.Cmp.{unsigned_ties, nat_cmp_is}
use Rattle.std.specs.List.{find, list_any}
use Rattle.std.specs.Map.{values_of, lookup, remove_entry}
use Rattle.std.specs.BTreeMap.{is_at, insert_entry}
use Rattle.std.specs.Option.{option_map, unwrap_or}
use Rattle.std.proofs.lemmas.Bool.Decides.{nat_tests}
use Rattle.std.proofs.lemmas.List.Sums.{sum_by-cons, sum_by_push, count_by-le-length}
use Rattle.std.proofs.lemmas.Map.Entries.{sum_by-remove_entry}
use Rattle.object_groups.specs.declared.handle.Handle.{Handle}
use Rattle.object_groups.specs.Handles.{has_number, has_another_number, is_on_scratch}
use Rattle.object_groups.specs.Numbers.{AllBelow, IsAscending}
use Rattle.object_groups.specs.Table.{entry_of, scratch_count, IsTable}
use Rattle.object_groups.proofs.NumberLemmas.{ascending-push, ascending-filter, unused-above, without-unused}

pub values-entries : (hs : List Handle) → values_of (map entry_of hs) ≡ hs
values-entries [] = refl
values-entries (h ∷ hs) = ap (λ xs. h ∷ xs) (values-entries hs)

pub find-entry : (n : ℕ) (hs : List Handle) → lookup (is_at (nat_cmp n)) (map entry_of hs) ≡ find (has_number n) hs
find-entry n [] = refl
find-entry n (h ∷ hs) =
    ap (λ b. cond b (Some h) (lookup (is_at (nat_cmp n)) (map entry_of hs))) (sym (unsigned_ties n h.number))
    ∙ ap (λ o. cond (nat_eq n h.number) (Some h) o) (find-entry n hs)

remove-entries : (n : ℕ) (hs : List Handle)
    → IsAscending hs
    → remove_entry (is_at (nat_cmp n)) (map entry_of hs) ≡ map entry_of (filter (has_another_number n) hs)
remove-entries n [] a = refl
remove-entries n (h ∷ hs) a =
    ap (λ b. cond b (map entry_of hs) (entry_of h ∷ remove_entry (is_at (nat_cmp n)) (map entry_of hs)))
    (sym (unsigned_ties n h.number))
    ∙ at (remove-entries n hs a.1) (nat_eq n h.number) refl
  where
    at : remove_entry (is_at (nat_cmp n)) (map entry_of hs) ≡ map entry_of (filter (has_another_number n) hs)
        → (b : Bool)
        → nat_eq n h.number ≡ b
        → cond b (map entry_of hs) (entry_of h ∷ remove_entry (is_at (nat_cmp n)) (map entry_of hs)) ≡ map entry_of
        (cond (not b) (h ∷ filter (has_another_number n) hs) (filter (has_another_number n) hs))
    at rest true e =
        ap (map entry_of) (sym (without-unused n hs (unused-above h.number n hs a.0 (grind (arith, nat_tests)))))
    at rest false e = ap (λ es. entry_of h ∷ es) rest

insert-entries : (hs : List Handle) (h : Handle)
    → AllBelow h.number hs
    → insert_entry nat_cmp (map entry_of hs) h.number h ≡ map entry_of (hs ++ h ∷ [])
insert-entries [] h b = refl
insert-entries (x ∷ hs) h b =
    ap (λ o. match_ordering o (entry_of h ∷ entry_of x ∷ map entry_of hs) ((x.number, h) ∷ map entry_of hs)
    (entry_of x ∷ insert_entry nat_cmp (map entry_of hs) h.number h))
    (sym (nat_cmp_is h.number x.number Greater b.0))
    ∙ ap (λ es. entry_of x ∷ es) (insert-entries hs h b.1)

bit : (b : Bool) → from_bool b ≡ cond b 1 0
bit true = refl
bit false = refl

-- ---- one handle more

module _ (old new : List (ℕ × Handle)) (count : ℕ) (h : Handle) where
  added-entries : IsTable old count
      → AllBelow h.number (values_of old)
      → new ≡ insert_entry nat_cmp old h.number h
      → new ≡ map entry_of (values_of old ++ h ∷ [])
  added-entries t b e = e ∙ ap (λ es. insert_entry nat_cmp es h.number h) t.keyed ∙ insert-entries (values_of old) h b

  pub added-values : IsTable old count
      → AllBelow h.number (values_of old)
      → new ≡ insert_entry nat_cmp old h.number h
      → values_of new ≡ values_of old ++ h ∷ []
  added-values t b e = ap values_of (added-entries t b e) ∙ values-entries (values_of old ++ h ∷ [])

  pub added-table : (more : ℕ)
      → IsTable old count
      → AllBelow h.number (values_of old)
      → more ≡ from_bool (is_on_scratch h)
      → new ≡ insert_entry nat_cmp old h.number h
      → IsTable new (count + more)
  added-table more t b m e =
      let values = added-values t b e in
      let counts : count + more ≡ scratch_count (values_of old ++ h ∷ []) = ap (λ n. n + more) t.counted
      ∙ ap (λ n. scratch_count (values_of old) + n) (m ∙ bit (is_on_scratch h))
      ∙ sym (sum_by_push (λ x. cond (is_on_scratch x) 1 0) (values_of old) h) in
      record {
        keyed = added-entries t b e ∙ ap (map entry_of) (sym values);
        ascending = subst IsAscending (sym values) (ascending-push (values_of old) h b t.ascending);
        counted = counts ∙ ap scratch_count (sym values);
      }

-- the count of a table is no more than its length, so one more fits
pub count-small : (entries : List (ℕ × Handle)) (count : ℕ) → IsTable entries count → count ≤ length (values_of entries)
count-small entries count t =
    subst (λ n. n ≤ length (values_of entries)) (sym t.counted) (count_by-le-length is_on_scratch (values_of entries))

bit-small : (b : Bool) → from_bool b ≤ 1
bit-small true = omega arith
bit-small false = omega arith

pub one-more : (entries : List (ℕ × Handle)) (count : ℕ) (more : ℕ) (h : Handle)
    → IsTable entries count
    → more ≡ from_bool (is_on_scratch h)
    → count + more ≤ length (values_of entries) + 1
one-more entries count more h t m =
    let small = count-small entries count t in
    let one : more ≤ 1 = subst (λ n. n ≤ 1) (sym m) (bit-small (is_on_scratch h)) in
    omega (arith, small, one)

-- ---- one handle less

module _ (old new : List (ℕ × Handle)) (count n : ℕ) where
  pub found-handle : (found : Option Handle)
      → IsTable old count
      → found ≡ lookup (is_at (nat_cmp n)) old
      → found ≡ find (has_number n) (values_of old)
  found-handle found t f = f ∙ ap (lookup (is_at (nat_cmp n))) t.keyed ∙ find-entry n (values_of old)

  left-entries : IsTable old count
      → new ≡ remove_entry (is_at (nat_cmp n)) old
      → new ≡ map entry_of (filter (has_another_number n) (values_of old))
  left-entries t e = e ∙ ap (remove_entry (is_at (nat_cmp n))) t.keyed ∙ remove-entries n (values_of old) t.ascending

  pub left-values : IsTable old count
      → new ≡ remove_entry (is_at (nat_cmp n)) old
      → values_of new ≡ filter (has_another_number n) (values_of old)
  left-values t e = ap values_of (left-entries t e) ∙ values-entries (filter (has_another_number n) (values_of old))

  left-count : (h : Handle)
      → IsTable old count
      → Some h ≡ lookup (is_at (nat_cmp n)) old
      → new ≡ remove_entry (is_at (nat_cmp n)) old
      → scratch_count (values_of new) + cond (is_on_scratch h) 1 0 ≡ count
  left-count h t f e =
      ap (λ es. scratch_count (values_of es) + cond (is_on_scratch h) 1 0) e
      ∙ ap (λ o. scratch_count (values_of (remove_entry (is_at (nat_cmp n)) old)) + unwrap_or
      (option_map (λ x. cond (is_on_scratch x) 1 0) o) 0)
      f
      ∙ sum_by-remove_entry (λ x. cond (is_on_scratch x) 1 0) (is_at (nat_cmp n)) old
      ∙ sym t.counted

  left-and-taken : (less : ℕ) (h : Handle)
      → IsTable old count
      → Some h ≡ lookup (is_at (nat_cmp n)) old
      → new ≡ remove_entry (is_at (nat_cmp n)) old
      → less ≡ from_bool (is_on_scratch h)
      → scratch_count (values_of new) + less ≡ count
  left-and-taken less h t f e m =
      ap (λ k. scratch_count (values_of new) + k) (m ∙ bit (is_on_scratch h)) ∙ left-count h t f e

  pub taken-counted : (less : ℕ) (h : Handle)
      → IsTable old count
      → Some h ≡ lookup (is_at (nat_cmp n)) old
      → new ≡ remove_entry (is_at (nat_cmp n)) old
      → less ≡ from_bool (is_on_scratch h)
      → less ≤ count
  taken-counted less h t f e m = let c = left-and-taken less h t f e m in omega (arith, c)

  pub left-table : (less : ℕ) (h : Handle)
      → IsTable old count
      → Some h ≡ lookup (is_at (nat_cmp n)) old
      → new ≡ remove_entry (is_at (nat_cmp n)) old
      → less ≡ from_bool (is_on_scratch h)
      → IsTable new (count - less)
  left-table less h t f e m =
      let values = left-values t e in
      let c = left-and-taken less h t f e m in
      record {
        keyed = left-entries t e ∙ ap (map entry_of) (sym values);
        ascending =
            subst IsAscending (sym values) (ascending-filter (has_another_number n) (values_of old) t.ascending);
        counted = omega (arith, c);
      }

-- ---- a count that isn't 0

pub some-counted : (hs : List Handle) → nat_lt 0 (scratch_count hs) ≡ list_any is_on_scratch hs
some-counted [] = refl
some-counted (h ∷ hs) =
    ap (nat_lt 0) (sum_by-cons (λ x. cond (is_on_scratch x) 1 0) h hs) ∙ at (some-counted hs) (is_on_scratch h)
  where
    at : nat_lt 0 (scratch_count hs) ≡ list_any is_on_scratch hs
        → (b : Bool)
        → nat_lt 0 (cond b 1 0 + scratch_count hs) ≡ (b || list_any is_on_scratch hs)
    at rest true = grind (arith, nat_tests)
    at rest false = ap (nat_lt 0) (omega arith) ∙ rest
