-- The numbers that are kept for each group, as the sets change.
use Rattle.std.proofs.Common.{◌≡◌, ℕ, Bool, true, false, List, [], ◌∷◌, length, refl, sym, ap, subst, ◌∙◌, arith, inl, inr, ⊎_elim, true≢false}
use Rattle.std.specs.Prelude.{◌⊎◌, bytes_eq, if◌then◌else◌, Option, Some, None, Result, Ok, Err, OnErr, OnOk}
use Rattle.std.specs.Ordering.{is_eq, nat_cmp}
use Rattle.std.specs.Cmp.{eq_by_cmp_equiv}
use Rattle.std.specs.Cmp.Lexicographic.{slice_cmp, bytes_decides, nat_list_cmp_total, nat_list_eq_equiv}
use Rattle.std.specs.Result.{is_err}
use Rattle.std.specs.Map.{lookup, IsKeyTest, AreApart, KeepsOthers}
use Rattle.std.specs.BTreeMap.{BTreeMap, UpdatesBy}
use Rattle.std.specs.BTreeSet.{BTreeSet, insert_key}
use Rattle.std.specs.Global.{Vec}
use Rattle.std.proofs.lemmas.Bool.{cases_Bool}
use Rattle.std.proofs.lemmas.Map.Text.{is_eq-slice_cmp}
use Rattle.object_groups.specs.Groups.{numbers_of, set_of}

-- a name is another's, or isn't
pub same-name : (g q : List ℕ) → (g ≡ q) × (bytes_eq g q ≡ true) ⊎ (bytes_eq g q ≡ false)
same-name g q = ⊎_elim (λ y. inl ((bytes_decides g q).0 y, y)) (λ n. inr n) (cases_Bool (bytes_eq g q))

apart : (g q name : List ℕ)
    → bytes_eq g q ≡ false
    → is_eq (slice_cmp nat_cmp g name) ≡ true
    → is_eq (slice_cmp nat_cmp q name) ≡ false
apart g q name n y =
    is_eq-slice_cmp q name
    ∙ (nat_list_eq_equiv.symm q name ∙ (sym (nat_list_eq_equiv.congr g name q (sym (is_eq-slice_cmp g name) ∙ y)) ∙ n))

module _ {K X : Type 0} (eq : K → K → Bool) (test : K → Bool) where
  others : (old new : List (K × X))
      → KeepsOthers eq test old new
      → (other : K → Bool)
      → IsKeyTest eq other
      → AreApart test other
      → lookup other new ≡ lookup other old
  unfolding KeepsOthers
  others old new h = h

-- a map of sets is changed at the name g, and has w there
module _ (g : List ℕ) (old new : BTreeMap (Vec ℕ) (BTreeSet ℕ)) (w : Option (BTreeSet ℕ)) where
  abbrev pub Changes : Type 0
  Changes =
      UpdatesBy (λ (x y : Vec ℕ). slice_cmp nat_cmp x.items y.items) (λ (name : Vec ℕ). slice_cmp nat_cmp g name.items)
      old new w

  pub set-there : Changes → set_of g new ≡ w
  set-there u = u.1

  pub set-elsewhere : Changes → (q : List ℕ) → bytes_eq g q ≡ false → set_of q new ≡ set_of q old
  set-elsewhere u q n =
      others _ _ old.entries new.entries u.3 _ (λ x y. (eq_by_cmp_equiv nat_list_cmp_total).congr q x.items y.items)
      (λ name. apart g q name.items n)

  pub numbers-changed : (f : List ℕ → List ℕ)
      → Changes
      → numbers_of w ≡ f (numbers_of (set_of g old))
      → (q : List ℕ)
      → numbers_of (set_of q new) ≡ (if bytes_eq g q then f (numbers_of (set_of q old)) else numbers_of (set_of q old))
  numbers-changed f u is q =
      ⊎_elim
      (λ y. subst (λ p. numbers_of (set_of p new) ≡ f (numbers_of (set_of p old))) y.0
      (ap numbers_of (set-there u) ∙ is)
      ∙ sym (ap (λ b. if b then f (numbers_of (set_of q old)) else numbers_of (set_of q old)) y.1))
      (λ n. ap numbers_of (set-elsewhere u q n)
      ∙ sym (ap (λ b. if b then f (numbers_of (set_of q old)) else numbers_of (set_of q old)) n))
      (same-name g q)

  pub numbers-same : Changes
      → numbers_of w ≡ numbers_of (set_of g old)
      → (q : List ℕ)
      → numbers_of (set_of q new) ≡ numbers_of (set_of q old)
  numbers-same u is q =
      ⊎_elim
      (λ y. subst (λ p. numbers_of (set_of p new) ≡ numbers_of (set_of p old)) y.0 (ap numbers_of (set-there u) ∙ is))
      (λ n. ap numbers_of (set-elsewhere u q n))
      (same-name g q)

-- a group gets its first number, under a copy of its name
pub numbers-begun : (g name : List ℕ) (before old new : BTreeMap (Vec ℕ) (BTreeSet ℕ)) (set : BTreeSet ℕ) (n : ℕ)
    → name ≡ g
    → old ≡ before
    → Changes name old new (Some set)
    → set.keys ≡ insert_key nat_cmp [] n
    → None ≡ set_of g before
    → (q : List ℕ)
    → numbers_of (set_of q new) ≡
    (if bytes_eq g q then insert_key nat_cmp (numbers_of (set_of q before)) n else numbers_of (set_of q before))
numbers-begun g name before old new set n a b u k none =
    let here : Changes g before new (Some set) = subst (λ l. Changes l before new (Some set)) a
    (subst (λ m. Changes name m new (Some set)) b u) in
    numbers-changed g before new (Some set) (λ ns. insert_key nat_cmp ns n) here
    (k ∙ ap (λ o. insert_key nat_cmp (numbers_of o) n) none)

pub no-number : (ns : List ℕ) → length ns ≡ 0 → ns ≡ []
no-number [] e = refl
no-number (n ∷ ns) e = absurd (omega (arith, e))

pub err-fact : {A E : Type 0} (r : Result A E) (P : Type 0) → is_err r ≡ true → OnErr r P → P
err-fact (Ok x) P e p = absurd (true≢false (sym e))
err-fact (Err x) P e p = p

pub ok-fact : {A E : Type 0} (r : Result A E) (P : Type 0) → is_err r ≡ false → OnOk r P → P
ok-fact (Ok x) P e p = p
ok-fact (Err x) P e p = absurd (true≢false e)
