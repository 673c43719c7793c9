-- Passes begin, are parted and joined.
use Rattle.std.proofs.Common.{◌≡◌, ◌≢◌, ℕ, zero, suc, ◌+◌, ◌-◌, ◌<◌, ◌≤◌, List, [], ◌∷◌, ◌++◌, length, set, get_or, Bool, true, false, true≢false, if◌then◌else◌, MatchBool, Some, None, Option as Opt, refl, sym, ap, ◌∙◌, subst, ⊎_elim, inl, inr, arith, le_refl, lt_of_not-le, nat_lt}
use mathlib.Core.Option.{some, none, some-ne-none, some-injective}
use mathlib.Core.Logic.{dite}
use native.Mathlib.Decide.{ℕ_discrete, dec_le}
use lib.ListN.{get_elem?}
use Rattle.std.proofs.lemmas.Bool.Decides.{nat_tests}
use Rattle.atomic_table.specs.Table.{State, Me, step, Act, Valid, homes_after, carried_after, keeps, Allows, Splits, Joins as Unites, opening as begun}
use Rattle.atomic_table.proofs.Lists.{at_set, set_again, at_longer}
use Rattle.history_lock.specs.declared.view.View.{View}
use Rattle.history_lock.specs.Histories.{limit, has, by, Begins, longer}
use Rattle.history_lock.specs.Passes.{LockId, PassState, initial_pass, initial_passes}
use Rattle.history_lock.specs.Views.{IsSeated, IsOpening, shown, held, Reserved, term, plain, opening, nobody, thinned, newborn, opened, newly_opened, divided, split_off, joined, refused_view}
use Rattle.history_lock.specs.Rule.{total, Fits, Meets, KeptOf, IsOneHistory, Accounts, IsWithin, WasSplit}
use Rattle.history_lock.specs.Steps.{Recalled, Refused}
use Rattle.history_lock.proofs.Facts.{begins_same, begins_nil, begins_both, by_none, by_within, has_append, has_front, has_behind, has_one, has_same, or_true, total_set, total_snoc, each_set, each_snoc, set_there, set_other, set_swap, not_true}
use Rattle.history_lock.proofs.Reserves.{nobody_reserves, thinned_within, newborn_within, parted, base_taken, base_not_kept, unopened_taken, unopened_not_kept, from_base, base_within}
use Rattle.history_lock.proofs.Changes.{Alone, fits_later, meets_none, changed, stays_alone, accounts_set, holds_on}
use Rattle.history_lock.proofs.Knowing.{only_initial, sees_spent}

less : (a b : ℕ) → a < b → nat_lt a b ≡ true
less a b h = grind (arith, nat_tests)

not_less : (a b : ℕ) → b ≤ a → nat_lt a b ≡ false
not_less a b h = grind (arith, nat_tests)

module _ {S E : Type 0} (stands : S → List (ℕ × E) → Type 0) (n : ℕ) where
  abbrev V : Type 0
  V = View E

  abbrev St : Type 0
  St = State (Opt S) V

  abbrev Rule : St → Type 0
  Rule s = IsOneHistory stands n s

  abbrev At : ℕ → List (ℕ × E) → St → Type 0
  At served log s = KeptOf stands n served log s

  -- ---- the beginning

  -- a pass that answers for its own number alone
  plain_fits : (served t : ℕ) (log seen : List (ℕ × E)) (k unopened base stride : ℕ) → Begins seen log → by k log ≡ by k seen → n ≤ base
      → ((x : ℕ) → Reserved {E = E} (plain n k seen unopened base stride) x → by x log ≡ [])
      → Fits n served t log (plain n k seen unopened base stride)
  plain_fits served t log seen k unopened base stride begun same beyond unused = record {
    seen = begun;
    own_seen = begins_nil log;
    other_seen = begins_nil log;
    waits = λ h. absurd (omega (arith, h));
    refused = λ h. absurd (true≢false (sym h));
    turn = λ h. absurd (true≢false (sym h));
    whole = λ x h. subst (λ (y : ℕ). by y log ≡ by y seen) (has_one x k h) same;
    own_whole = λ x h. absurd (true≢false (sym h));
    other_whole = λ x h. absurd (true≢false (sym h));
    own = λ x h. absurd (true≢false (sym h));
    other = λ x h. absurd (true≢false (sym h));
    disjoint = λ x h. absurd (true≢false (sym h));
    initial = λ x h. refl;
    named = λ h. absurd (omega (arith, h));
    unused = unused;
    beyond = λ _. beyond;
  }

  last_is_free : 0 < n → (x : ℕ) → has x ((n - 1) ∷ []) ≡ true → Reserved {E = E} (opening n) x → ⊥
  last_is_free some_pass x h r = let is = has_one x (n - 1) h in ⊎_elim
      (λ (o : (0 ≤ x) × (x + 1 < n)). let a = o.1 in omega (arith, a, is, some_pass))
      (λ (o : (0 < 1) × ((i : ℕ) × (x ≡ term n 1 i))). let e = o.1.1 in let b = from_base n 1 o.1.0 in omega (arith, e, b, is, some_pass))
      r

  pub begins : (x : S) (berths : List ℕ) → 0 < n → stands x [] → Rule record { words = 0 ∷ 0 ∷ berths; homes = some (Some x) ∷ []; views = opening n ∷ [] }
  begins x berths some_pass stood = (
    [],
    0,
    record {
      words = (berths, refl);
      bound = omega arith;
      few = (omega arith, omega arith);
      each = λ i v e. one (λ _ u. Fits n 0 0 [] u) (plain_fits 0 0 [] [] (n - 1) 0 n 1 (begins_same []) refl (le_refl n) (λ _ _. refl)) i v e;
      tickets = λ i j v w ei ej _. one (λ k _. k ≡ j) (one (λ l _. 0 ≡ l) refl j w ej) i v ei;
      apart = λ i j v w x' ei ej _ _. one (λ k _. k ≡ j) (one (λ l _. 0 ≡ l) refl j w ej) i v ei;
      reserves = λ i j v w x' ei ej _ _. one (λ k _. k ≡ j) (one (λ l _. 0 ≡ l) refl j w ej) i v ei;
      fresh = λ i j v w x' ei ej. one (λ _ u. has x' u.numbers ≡ true → Reserved w x' → ⊥) (λ h. one (λ _ u. Reserved u x' → ⊥) (last_is_free some_pass x' h) j w ej) i v ei;
      slot = inl (x, refl, stood, λ i v e. one (λ _ u. u.in_turn ≡ false) refl i v e);
    },
    inl ((λ i v y e. one (λ _ u. has y u.numbers ≡ true → y < n) (λ h. let is = has_one y (n - 1) h in omega (arith, is, some_pass)) i v e), (λ _ _. refl)),
  )
    where
      one : (F : ℕ → V → Type 0) → F 0 (opening n) → (i : ℕ) (v : V) → get_elem? (opening n ∷ []) i ≡ some v → F i v
      one F f zero v e = subst (F 0) (some-injective (opening n) v e) f
      one F f (suc i) v e = absurd (some-ne-none v (sym e))

  pub begins_as : (x : S) (ws berths : List ℕ) (items : List (Opt S)) → ws ≡ 0 ∷ 0 ∷ berths → items ≡ Some x ∷ [] → 0 < n → stands x [] → Rule (begun ws items (opening n))
  begins_as x ws berths items is_ws is_items some_pass stood = subst (λ (z : List ℕ × List (Opt S)). Rule (begun z.0 z.1 (opening n))) (λ i. (sym is_ws i, sym is_items i)) (begins x berths some_pass stood)

  -- ---- a further pass

  -- a view more that shares nothing with the others, and holds no ticket
  pub record IsBeside (views : List V) (w : V) : Type 0 where
    pub apart : (j : ℕ) (u : V) (x : ℕ) → get_elem? views j ≡ some u → has x w.numbers ≡ true → has x u.numbers ≡ true → ⊥
    pub reserves : (j : ℕ) (u : V) (x : ℕ) → get_elem? views j ≡ some u → Reserved w x → Reserved u x → ⊥
    pub untaken : (j : ℕ) (u : V) (x : ℕ) → get_elem? views j ≡ some u → has x w.numbers ≡ true → Reserved u x → ⊥
    pub unanswered : (j : ℕ) (u : V) (x : ℕ) → get_elem? views j ≡ some u → has x u.numbers ≡ true → Reserved w x → ⊥
    pub fresh : (x : ℕ) → has x w.numbers ≡ true → Reserved w x → ⊥

  grown : (s : St) (served : ℕ) (past : List (ℕ × E)) (r : At served past s) (w : V) → w.tickets ≡ 0 → w.in_turn ≡ false → Fits n served (served + total held s.views) past w → IsBeside s.views w
      → At served past record { words = s.words; homes = s.homes; views = s.views ++ w ∷ [] }
  grown s served past r w off free fits new =
      let t : ℕ = served + total held s.views in
      let more = total_snoc held s.views w in
      let same : t ≡ served + total held (s.views ++ w ∷ []) = omega (arith, more, off) in record {
        words = (r.words.0, r.words.1 ∙ ap (λ (k : ℕ). k ∷ served ∷ r.words.0) same);
        bound = subst (λ (k : ℕ). k ≤ limit) same r.bound;
        few = r.few;
        each = subst (λ (k : ℕ). (j : ℕ) (u : V) → get_elem? (s.views ++ w ∷ []) j ≡ some u → Fits n served k past u) same (each_snoc (λ _ u. Fits n served t past u) s.views w r.each fits);
        tickets = λ i j u z ei ej. each_snoc (λ k y. Meets y z → k ≡ j) s.views w
            (λ k y ek. each_snoc (λ l a. Meets y a → k ≡ l) s.views w (λ l a el m. r.tickets k l y a ek el m) (λ m. absurd ((meets_none w y off).1 m)) j z ej)
            (λ m. absurd ((meets_none w z off).0 m)) i u ei;
        apart = λ i j u z x ei ej. each_snoc (λ k y. has x y.numbers ≡ true → has x z.numbers ≡ true → k ≡ j) s.views w
            (λ k y ek hy. each_snoc (λ l a. has x a.numbers ≡ true → k ≡ l) s.views w (λ l a el ha. r.apart k l y a x ek el hy ha) (λ hw. absurd (new.apart k y x ek hw hy)) j z ej)
            (λ hw. each_snoc (λ l a. has x a.numbers ≡ true → length s.views ≡ l) s.views w (λ l a el ha. absurd (new.apart l a x el hw ha)) (λ _. refl) j z ej) i u ei;
        reserves = λ i j u z x ei ej. each_snoc (λ k y. Reserved y x → Reserved z x → k ≡ j) s.views w
            (λ k y ek hy. each_snoc (λ l a. Reserved a x → k ≡ l) s.views w (λ l a el ha. r.reserves k l y a x ek el hy ha) (λ hw. absurd (new.reserves k y x ek hw hy)) j z ej)
            (λ hw. each_snoc (λ l a. Reserved a x → length s.views ≡ l) s.views w (λ l a el ha. absurd (new.reserves l a x el hw ha)) (λ _. refl) j z ej) i u ei;
        fresh = λ i j u z x ei ej. each_snoc (λ k y. has x y.numbers ≡ true → Reserved z x → ⊥) s.views w
            (λ k y ek hy. each_snoc (λ l a. Reserved a x → ⊥) s.views w (λ l a el ha. r.fresh k l y a x ek el hy ha) (λ hw. new.unanswered k y x ek hy hw) j z ej)
            (λ hw. each_snoc (λ l a. Reserved a x → ⊥) s.views w (λ l a el ha. new.untaken l a x el hw ha) (λ hr. new.fresh x hw hr) j z ej) i u ei;
        slot = ⊎_elim
            (λ home. inl (home.0, home.1, home.2, each_snoc (λ _ (u : V). u.in_turn ≡ false) s.views w (λ j u e. home.3 j u e) free))
            (λ away. inr (away.0, (away.1.0, away.1.1, at_longer s.views (w ∷ []) away.1.0 away.1.1 away.1.2, away.1.3)))
            r.slot;
      }

  thinned_fits : (served t : ℕ) (log : List (ℕ × E)) (v : V) (unopened splits : ℕ) → Fits n served t log v → v.unopened ≤ unopened → Fits n served t log (thinned v unopened splits)
  thinned_fits served t log v unopened splits f le = record {
    seen = f.seen;
    own_seen = f.own_seen;
    other_seen = f.other_seen;
    waits = f.waits;
    refused = f.refused;
    turn = f.turn;
    whole = f.whole;
    own_whole = f.own_whole;
    other_whole = f.other_whole;
    own = f.own;
    other = f.other;
    disjoint = f.disjoint;
    initial = f.initial;
    named = f.named;
    unused = λ x h. f.unused x (thinned_within v unopened splits x le h);
    beyond = λ pos. let b = f.beyond (omega (arith, pos)) in omega (arith, b);
  }

  -- a pass is parted in two: the second has a number that the first might give
  parts : (s : St) (served : ℕ) (past : List (ℕ × E)) (r : At served past s) (id : ℕ) (v : V) (unopened splits k : ℕ) → get_elem? s.views id ≡ some v → v.tickets ≡ 0 → v.in_turn ≡ false → has v.number v.numbers ≡ true → 0 < v.stride
      → v.unopened ≤ unopened → Reserved v k
      → (v.initial ≤ v.base → Reserved (thinned v unopened splits) k → ⊥)
      → (v.initial ≤ v.base → Reserved (newborn v k) k → ⊥)
      → At served past record { words = s.words; homes = s.homes; views = set s.views id (thinned v unopened splits) ++ newborn v k ∷ [] }
  parts s served past r id v unopened splits k at off free own pos le may taken untaken =
      let w : V = thinned v unopened splits in
      let b : V = newborn v k in
      let f = r.each id v at in
      let is : v.initial ≡ n = f.initial v.number own in
      let from = f.beyond pos in
      let far : v.initial ≤ v.base = omega (arith, is, from) in
      let t : ℕ = served + total held s.views in
      let more = total_set held s.views id v w at in
      let same : served + total held (set s.views id w) ≡ t = omega (arith, more) in
      let bound = r.bound in
      let none = f.unused k may in
      let middle : At served past record { words = s.words; homes = s.homes; views = set s.views id w } =
      subst (λ ws. At served past record { words = ws; homes = s.homes; views = set s.views id w }) (ap (λ (j : ℕ). j ∷ served ∷ r.words.0) same ∙ sym r.words.1)
      (changed stands n s served past r id v w served past r.words.0 s.homes at (omega (arith, same, bound)) r.few
      (λ j u _ e. fits_later n served t (served + total held (set s.views id w)) past u (omega (arith, same)) (r.each j u e))
      (fits_later n served t (served + total held (set s.views id w)) past w (omega (arith, same)) (thinned_fits served t past v unopened splits f le))
      (stays_alone stands n s served past r id v w at (λ j u _ _. meets_none w u off) (λ x h. h) (λ x h. thinned_within v unopened splits x le h))
      (holds_on stands n s served past r id v w at free free)) in
      grown record { words = s.words; homes = s.homes; views = set s.views id w } served past middle b refl refl
      (subst (λ (m : ℕ). Fits n served (served + total held (set s.views id w)) past (plain m k v.seen m (v.base + (v.stride + v.stride)) (v.stride + v.stride))) (sym is)
      (plain_fits served (served + total held (set s.views id w)) past v.seen k n (v.base + (v.stride + v.stride)) (v.stride + v.stride) f.seen (none ∙ sym (by_none k v.seen past f.seen none)) (omega (arith, from))
      (λ x h. f.unused x (newborn_within v k x (subst (λ (m : ℕ). Reserved (plain m k v.seen m (v.base + (v.stride + v.stride)) (v.stride + v.stride)) x) (sym is) h)))))
      record {
        apart = λ j u x e hb. each_set (λ _ y. has x y.numbers ≡ true → ⊥) s.views id w
            (λ i y _ ey hy. r.fresh i id y v k ey at (subst (λ (z : ℕ). has z y.numbers ≡ true) (sym (has_one x k hb)) hy) may)
            (λ hw. r.fresh id id v v k at at (subst (λ (z : ℕ). has z v.numbers ≡ true) (sym (has_one x k hb)) hw) may) j u e;
        reserves = λ j u x e hb. each_set (λ _ y. Reserved y x → ⊥) s.views id w
            (λ i y ne ey hy. ne (r.reserves i id y v x ey at hy (newborn_within v k x hb)))
            (λ hw. parted v unopened splits k x far hw hb) j u e;
        untaken = λ j u x e hb. each_set (λ _ y. Reserved y x → ⊥) s.views id w
            (λ i y ne ey hy. ne (r.reserves i id y v k ey at (subst (Reserved y) (sym (has_one x k hb)) hy) may))
            (λ hw. taken far (subst (Reserved w) (sym (has_one x k hb)) hw)) j u e;
        unanswered = λ j u x e hu hb. each_set (λ _ y. has x y.numbers ≡ true → ⊥) s.views id w
            (λ i y _ ey hy. r.fresh i id y v x ey at hy (newborn_within v k x hb))
            (λ hw. r.fresh id id v v x at at hw (newborn_within v k x hb)) j u e hu;
        fresh = λ x hb rb. untaken far (subst (Reserved b) (sym (has_one x k hb)) rb);
      }

  was_snoc : (views : List V) (w : V) → WasSplit n views → WasSplit n (views ++ w ∷ [])
  was_snoc views w was = (was.0, was.1, was.2, at_longer views (w ∷ []) was.0 was.1 was.3, was.4, was.5, was.6)

  pub opens : (id : ℕ) (v : V) → v.tickets ≡ 0 → v.in_turn ≡ false → has v.number v.numbers ≡ true → 0 < v.stride → v.unopened + 1 < v.initial → Splits Rule id v (opened v) (newly_opened v)
  opens id v off free own pos more s kept_now at =
      let past : List (ℕ × E) = kept_now.0 in
      let served : ℕ = kept_now.1 in
      let r = kept_now.2 in
      let is : v.initial ≡ n = (r.each id v at).initial v.number own in (
        past,
        served,
        parts s served past r id v (v.unopened + 1) v.splits v.unopened at off free own pos (omega arith) (inl (le_refl v.unopened, more)) (λ far. unopened_taken v v.splits more far) (λ far. unopened_not_kept v v.unopened more far),
        ⊎_elim
            (λ (within : IsWithin n (set s.views id (opened v)) past). inl ((λ i u x. each_snoc (λ _ y. has x y.numbers ≡ true → x < n) (set s.views id (opened v)) (newly_opened v) (λ j y e h. within.0 j y x e h) (λ h. let k = has_one x v.unopened h in omega (arith, k, more, is)) i u), within.1))
            (λ was. inr (was_snoc (set s.views id (opened v)) (newly_opened v) was))
            (accounts_set n s.views id v (opened v) past past at refl (le_refl v.splits) (λ within. within.1) kept_now.3),
      )

  -- where a pass is split, one that answers for one of the first n was split
  was_split : (s : St) (past : List (ℕ × E)) (id : ℕ) (v : V) → get_elem? s.views id ≡ some v → has v.number v.numbers ≡ true → Accounts n s.views past → WasSplit n (set s.views id (divided v))
  was_split s past id v at own acc = ⊎_elim
      (λ (within : IsWithin n s.views past). (id, divided v, v.number, set_there s.views id v (divided v) at, within.0 id v v.number at own, own, omega arith))
      (λ (was : WasSplit n s.views). ⊎_elim (λ (within : IsWithin n (set s.views id (divided v)) past). (id, divided v, v.number, set_there s.views id v (divided v) at, within.0 id (divided v) v.number (set_there s.views id v (divided v) at) own, own, omega arith)) (λ still. still)
      (accounts_set n s.views id v (divided v) past past at refl (omega arith) (λ within. within.1) acc))
      acc

  pub splits_off : (id : ℕ) (v : V) → v.tickets ≡ 0 → v.in_turn ≡ false → has v.number v.numbers ≡ true → 0 < v.stride → Splits Rule id v (divided v) (split_off v)
  splits_off id v off free own pos s kept_now at =
      let past : List (ℕ × E) = kept_now.0 in
      let served : ℕ = kept_now.1 in
      let r = kept_now.2 in (
        past,
        served,
        parts s served past r id v v.unopened (v.splits + 1) v.base at off free own pos (le_refl v.unopened) (base_within v pos) (λ far. base_taken v (v.splits + 1) far) (λ far. base_not_kept v v.base far),
        inr (was_snoc (set s.views id (divided v)) (split_off v) (was_split s past id v at own kept_now.3)),
      )

  -- ---- two passes become one

  longer_begins : (xs ys log : List (ℕ × E)) → Begins xs log → Begins ys log → Begins (longer xs ys) log
  longer_begins xs ys log b c = by_case (nat_lt (length xs) (length ys))
    where
      by_case : (t : Bool) → Begins (if t then ys else xs) log
      by_case true = c
      by_case false = b

  in_front : (xs ys log : List (ℕ × E)) → Begins xs log → Begins ys log → Begins xs (longer xs ys)
  in_front xs ys log b c = dite (dec_le (length ys) (length xs))
      (λ le. subst (λ (t : Bool). Begins xs (if t then ys else xs)) (sym (not_less (length xs) (length ys) le)) (begins_same xs))
      (λ more. subst (λ (t : Bool). Begins xs (if t then ys else xs)) (sym (less (length xs) (length ys) (lt_of_not-le more))) (begins_both xs ys log b c (let m = lt_of_not-le more in omega (arith, m))))

  in_behind : (xs ys log : List (ℕ × E)) → Begins xs log → Begins ys log → Begins ys (longer xs ys)
  in_behind xs ys log b c = dite (dec_le (length ys) (length xs))
      (λ le. subst (λ (t : Bool). Begins ys (if t then ys else xs)) (sym (not_less (length xs) (length ys) le)) (begins_both ys xs log c b le))
      (λ more. subst (λ (t : Bool). Begins ys (if t then ys else xs)) (sym (less (length xs) (length ys) (lt_of_not-le more))) (begins_same ys))

  joined_fits : (served t : ℕ) (log : List (ℕ × E)) (v w : V) → Fits n served t log v → Fits n served t log w → v.tickets ≡ 0 → v.in_turn ≡ false → v.initial ≡ n → ((x : ℕ) → has x v.numbers ≡ true → has x w.numbers ≡ true → ⊥) → Fits n served t log (joined v w)
  joined_fits served t log v w f g off free is apart = record {
    seen = longer_begins v.seen w.seen log f.seen g.seen;
    own_seen = f.seen;
    other_seen = g.seen;
    waits = λ h. absurd (omega (arith, h, off));
    refused = λ h. ⊎_elim f.refused g.refused (or_true v.refused w.refused h);
    turn = λ h. absurd (true≢false (sym h ∙ free));
    whole = λ x h. ⊎_elim
        (λ a. sym (by_within x v.seen (longer v.seen w.seen) log (in_front v.seen w.seen log f.seen g.seen) (longer_begins v.seen w.seen log f.seen g.seen) (f.whole x a) ∙ sym (f.whole x a)))
        (λ a. sym (by_within x w.seen (longer v.seen w.seen) log (in_behind v.seen w.seen log f.seen g.seen) (longer_begins v.seen w.seen log f.seen g.seen) (g.whole x a) ∙ sym (g.whole x a)))
        (has_append x v.numbers w.numbers h);
    own_whole = f.whole;
    other_whole = g.whole;
    own = λ x h. has_front x v.numbers w.numbers h;
    other = λ x h. has_behind x v.numbers w.numbers h;
    disjoint = apart;
    initial = λ x h. is;
    named = λ h. absurd (omega (arith, h, off));
    unused = f.unused;
    beyond = f.beyond;
  }

  nobody_fits : (served t : ℕ) (log : List (ℕ × E)) → Fits n served t log nobody
  nobody_fits served t log = record {
    seen = begins_nil log;
    own_seen = begins_nil log;
    other_seen = begins_nil log;
    waits = λ h. absurd (omega (arith, h));
    refused = λ h. absurd (true≢false (sym h));
    turn = λ h. absurd (true≢false (sym h));
    whole = λ x h. absurd (true≢false (sym h));
    own_whole = λ x h. absurd (true≢false (sym h));
    other_whole = λ x h. absurd (true≢false (sym h));
    own = λ x h. absurd (true≢false (sym h));
    other = λ x h. absurd (true≢false (sym h));
    disjoint = λ x h. absurd (true≢false (sym h));
    initial = λ x h. absurd (true≢false (sym h));
    named = λ h. absurd (omega (arith, h));
    unused = λ x h. absurd (nobody_reserves E x h);
    beyond = λ pos. absurd (omega (arith, pos));
  }

  -- the other's view is spent
  spends : (s : St) (served : ℕ) (past : List (ℕ × E)) (r : At served past s) (other : ℕ) (w : V) → get_elem? s.views other ≡ some w → w.tickets ≡ 0 → w.in_turn ≡ false
      → At served past record { words = s.words; homes = s.homes; views = set s.views other nobody }
  spends s served past r other w at off free =
      let t : ℕ = served + total held s.views in
      let bound = r.bound in
      let one = total_set held s.views other w nobody at in
      let same : served + total held (set s.views other nobody) ≡ t = omega (arith, one, off) in
      subst (λ ws. At served past record { words = ws; homes = s.homes; views = set s.views other nobody }) (ap (λ (k : ℕ). k ∷ served ∷ r.words.0) same ∙ sym r.words.1)
      (changed stands n s served past r other w nobody served past r.words.0 s.homes at (omega (arith, same, bound)) r.few
      (λ j u _ e. fits_later n served t (served + total held (set s.views other nobody)) past u (omega (arith, same)) (r.each j u e))
      (nobody_fits served (served + total held (set s.views other nobody)) past)
      (stays_alone stands n s served past r other w nobody at (λ j u _ _. meets_none nobody u refl) (λ x h. absurd (true≢false (sym h))) (λ x h. absurd (nobody_reserves E x h)))
      (holds_on stands n s served past r other w nobody at free refl))

  -- a view beside which the other was spent is another's, or it is spent
  beside : (P : V → Type 0) (views : List V) (other j : ℕ) (u : V) → get_elem? (set views other nobody) j ≡ some u → (P nobody → ⊥) → P u → (j ≢ other) × (get_elem? views j ≡ some u)
  beside P views other j u e not h = ⊎_elim
      (λ (t : (j ≡ other) × (nobody ≡ u)). absurd (not (subst P (sym t.1) h)))
      (λ (t : (j ≢ other) × (get_elem? views j ≡ some u)). t)
      (at_set views other j nobody u e)

  joined_alone : (s : St) (served : ℕ) (past : List (ℕ × E)) (r : At served past s) (id other : ℕ) (v w : V) → get_elem? s.views id ≡ some v → get_elem? s.views other ≡ some w → v.tickets ≡ 0 → Alone (set s.views other nobody) id (joined v w)
  joined_alone s served past r id other v w at there off = record {
    tickets = λ j u _ _. meets_none (joined v w) u off;
    apart = λ j u x ne e hw hu. let b = beside (λ (y : V). has x y.numbers ≡ true) s.views other j u e (λ h. true≢false (sym h)) hu in
        ⊎_elim (λ a. ne (r.apart j id u v x b.1 at hu a)) (λ a. b.0 (r.apart j other u w x b.1 there hu a)) (has_append x v.numbers w.numbers hw);
    reserves = λ j u x ne e rw ru. let b = beside (λ (y : V). Reserved y x) s.views other j u e (nobody_reserves E x) ru in ne (r.reserves j id u v x b.1 at ru rw);
    untaken = λ j u x ne e hw ru. let b = beside (λ (y : V). Reserved y x) s.views other j u e (nobody_reserves E x) ru in
        ⊎_elim (λ a. r.fresh id j v u x at b.1 a ru) (λ a. r.fresh other j w u x there b.1 a ru) (has_append x v.numbers w.numbers hw);
    unanswered = λ j u x ne e hu rw. let b = beside (λ (y : V). has x y.numbers ≡ true) s.views other j u e (λ h. true≢false (sym h)) hu in r.fresh j id u v x b.1 at hu rw;
    fresh = λ x hw rw. ⊎_elim (λ a. r.fresh id id v v x at at a rw) (λ a. r.fresh other id w v x there at a rw) (has_append x v.numbers w.numbers hw);
  }

  joined_accounts : (s : St) (past : List (ℕ × E)) (id other : ℕ) (v w : V) → get_elem? s.views id ≡ some v → get_elem? s.views other ≡ some w → other ≢ id → Accounts n s.views past → Accounts n (set (set s.views other nobody) id (joined v w)) past
  joined_accounts s past id other v w at there ne acc = ⊎_elim
      (λ within. inl (
        (λ i u x e. each_set (λ _ y. has x y.numbers ≡ true → x < n) (set s.views other nobody) id (joined v w)
            (λ j y _ ej. each_set (λ _ z. has x z.numbers ≡ true → x < n) s.views other nobody (λ k z _ ek hz. within.0 k z x ek hz) (λ h. absurd (true≢false (sym h))) j y ej)
            (λ h. ⊎_elim (within.0 id v x at) (within.0 other w x there) (has_append x v.numbers w.numbers h)) i u e),
        within.1,
      ))
      (λ was. inr (still was.0 was.1 was.2 was.3 was.4 was.5 was.6))
      acc
    where
      here : get_elem? (set (set s.views other nobody) id (joined v w)) id ≡ some (joined v w)
      here = set_there (set s.views other nobody) id v (joined v w) (set_other s.views other id nobody (λ e. ne (sym e)) ∙ at)

      still : (i : ℕ) (u : V) (y : ℕ) → get_elem? s.views i ≡ some u → y < n → has y u.numbers ≡ true → 0 < u.splits → WasSplit n (set (set s.views other nobody) id (joined v w))
      still i u y e low h pos = dite (ℕ_discrete i id)
          (λ is. let eq : u ≡ v = some-injective u v (sym e ∙ (ap (get_elem? s.views) is ∙ at)) in let count = ap (λ (z : V). z.splits) eq in
          (id, joined v w, y, here, low, has_front y v.numbers w.numbers (ap (λ (z : V). has y z.numbers) (sym eq) ∙ h), omega (arith, count, pos)))
          (λ off. dite (ℕ_discrete i other)
          (λ is. let eq : u ≡ w = some-injective u w (sym e ∙ (ap (get_elem? s.views) is ∙ there)) in let count = ap (λ (z : V). z.splits) eq in
          (id, joined v w, y, here, low, has_behind y v.numbers w.numbers (ap (λ (z : V). has y z.numbers) (sym eq) ∙ h), omega (arith, count, pos)))
          (λ off'. (i, u, y, set_other (set s.views other nobody) id i (joined v w) off ∙ (set_other s.views other i nobody off' ∙ e), low, h, pos)))

  pub joins : (id : ℕ) (v : V) (other : ℕ) (w : V) → v.tickets ≡ 0 → v.in_turn ≡ false → w.tickets ≡ 0 → w.in_turn ≡ false → has v.number v.numbers ≡ true → Unites Rule id v other w (joined v w) nobody
  joins id v other w off free off' free' own s kept_now at ne there =
      let past : List (ℕ × E) = kept_now.0 in
      let served : ℕ = kept_now.1 in
      let r = kept_now.2 in
      let before : get_elem? s.views other ≡ some w = ⊎_elim (λ (t : (other ≡ id) × (joined v w ≡ w)). absurd (ne t.0)) (λ (t : (other ≢ id) × (get_elem? s.views other ≡ some w)). t.1) (at_set s.views id other (joined v w) w there) in
      let mid : St = record { words = s.words; homes = s.homes; views = set s.views other nobody } in
      let middle : At served past mid = spends s served past r other w before off' free' in
      let here : get_elem? mid.views id ≡ some v = set_other s.views other id nobody (λ e. ne (sym e)) ∙ at in
      let t : ℕ = served + total held s.views in
      let one = total_set held s.views other w nobody before in
      let two = total_set held mid.views id v (joined v w) here in
      let u : ℕ = served + total held (set mid.views id (joined v w)) in
      let same : u ≡ t = omega (arith, one, two, off, off') in
      let same_mid : served + total held mid.views ≡ t = omega (arith, one, off') in
      let bound = r.bound in
      let end : At served past record { words = s.words; homes = s.homes; views = set mid.views id (joined v w) } =
      subst (λ ws. At served past record { words = ws; homes = s.homes; views = set mid.views id (joined v w) }) (ap (λ (k : ℕ). k ∷ served ∷ r.words.0) same ∙ sym r.words.1)
      (changed stands n mid served past middle id v (joined v w) served past r.words.0 s.homes here (omega (arith, same, bound)) r.few
      (λ j y _ e. fits_later n served (served + total held mid.views) u past y (omega (arith, same, same_mid)) (middle.each j y e))
      (fits_later n served t u past (joined v w) (omega (arith, same)) (joined_fits served t past v w (r.each id v at) (r.each other w before) off free ((r.each id v at).initial v.number own) (λ x hv hw. ne (sym (r.apart id other v w x at before hv hw)))))
      (joined_alone s served past r id other v w at before off)
      (holds_on stands n mid served past middle id v (joined v w) here free free)) in
      let swap = set_swap s.views other id nobody (joined v w) ne in (
        past,
        served,
        subst (λ vs. At served past record { words = s.words; homes = s.homes; views = vs }) swap end,
        subst (λ vs. Accounts n vs past) swap (joined_accounts s past id other v w at before ne kept_now.3),
      )

  -- ---- what a pass may rely on

  -- a view that stays as it was
  unchanged : (s : St) (served : ℕ) (past : List (ℕ × E)) (r : At served past s) (acc : Accounts n s.views past) (id : ℕ)
      (v : V) → get_elem? s.views id ≡ some v
      → Rule
      record { words = (served + total held s.views) ∷ served ∷ r.words.0; homes = s.homes; views = set s.views id v }
  unchanged s served past r acc id v at =
      let t : ℕ = served + total held s.views in (
        past,
        served,
        subst (λ vs. At served past record { words = t ∷ served ∷ r.words.0; homes = s.homes; views = vs })
            (sym (set_again s.views id v at))
            (subst (λ ws. At served past record { words = ws; homes = s.homes; views = s.views }) r.words.1 r),
        subst (λ vs. Accounts n vs past) (sym (set_again s.views id v at)) acc,
      )

  recalled : (s : St) (served : ℕ) (past : List (ℕ × E)) (r : At served past s) (acc : Accounts n s.views past) (slots found id : ℕ) (me : Me (Opt S) V) → get_elem? s.views id ≡ some me.0 → has me.0.number me.0.numbers ≡ true → me.0.tickets ≡ 0
      → Recalled (step slots 0 0 0 none) me found me
  recalled s served past r acc slots found id me at own off =
      let v : V = me.0 in
      let f = r.each id v at in
      let is : v.initial ≡ n = f.initial v.number own in (
        refl,
        refl,
        (λ pos. let from = f.beyond pos in let may = base_within v pos in (omega (arith, is, from), not_true (has v.base v.numbers) (λ h. r.fresh id id v v v.base at at h may), by_none v.base v.seen past f.seen (f.unused v.base may))),
        (λ long. (
          front v.own_seen v.other_seen v.seen past long f.own_seen f.other_seen,
          behind v.own_seen v.other_seen v.seen past long f.own_seen f.other_seen,
          (λ x h. by_within x v.own_seen v.seen past (front v.own_seen v.other_seen v.seen past long f.own_seen f.other_seen) f.seen (f.own_whole x h)),
          (λ x h. by_within x v.other_seen v.seen past (behind v.own_seen v.other_seen v.seen past long f.own_seen f.other_seen) f.seen (f.other_whole x h)),
        )),
        (λ x h. not_true (has x v.other_numbers) (f.disjoint x h)),
        only_initial stands n s served past r acc id v at own v.seen f.seen,
        sees_spent stands n s served past r acc id v at own off,
      )
    where
      front : (xs ys seen log : List (ℕ × E)) → seen ≡ longer xs ys → Begins xs log → Begins ys log → Begins xs seen
      front xs ys seen log long b c = subst (λ l. Begins xs l) (sym long) (in_front xs ys log b c)

      behind : (xs ys seen log : List (ℕ × E)) → seen ≡ longer xs ys → Begins xs log → Begins ys log → Begins ys seen
      behind xs ys seen log long b c = subst (λ l. Begins ys l) (sym long) (in_behind xs ys log b c)

  pub recalls : (slots id : ℕ) (me : Me (Opt S) V) → has me.0.number me.0.numbers ≡ true → me.0.tickets ≡ 0
      → Allows Rule slots id me 0 (λ x. x) (Recalled (step slots 0 0 0 none) me)
  recalls slots id me own off s kept_now _ at _ =
      let past : List (ℕ × E) = kept_now.0 in
      let served : ℕ = kept_now.1 in
      let r = kept_now.2 in
      let t : ℕ = served + total held s.views in
      let Goal : List ℕ → Type 0 = λ ws. (w : V) × (a : Act (Opt S)) × Valid s.homes me.1 a
      × Rule record { words = set ws 0 (get_or ws 0 0); homes = homes_after s.homes me.1 a; views = set s.views id w }
      × Recalled (step slots 0 0 0 none) me (get_or ws 0 0) (w, carried_after me.1 a) in
      subst Goal (sym r.words.1) (
        me.0,
        keeps,
        tt,
        unchanged s served past r kept_now.3 id me.0 at,
        recalled s served past r kept_now.3 slots t id me at own off,
      )

  -- ---- no ticket is left

  refused_fits : (served t : ℕ) (log : List (ℕ × E)) (v : V) → Fits n served t log v → limit ≤ t
      → Fits n served t log (refused_view v)
  refused_fits served t log v f drawn = record {
    seen = f.seen;
    own_seen = f.own_seen;
    other_seen = f.other_seen;
    waits = f.waits;
    refused = λ _. drawn;
    turn = f.turn;
    whole = f.whole;
    own_whole = f.own_whole;
    other_whole = f.other_whole;
    own = f.own;
    other = f.other;
    disjoint = f.disjoint;
    initial = f.initial;
    named = f.named;
    unused = f.unused;
    beyond = f.beyond;
  }

  refused_at : (s : St) (served : ℕ) (past : List (ℕ × E)) (r : At served past s) (id : ℕ) (v : V)
      → get_elem? s.views id ≡ some v → v.tickets ≡ 0 → v.in_turn ≡ false → limit ≤ served + total held s.views
      → At served past
      record { words = (served + total held s.views) ∷ served ∷ r.words.0; homes = s.homes; views = set s.views id (refused_view v) }
  refused_at s served past r id v at off free drawn =
      let w : V = refused_view v in
      let t : ℕ = served + total held s.views in
      let more = total_set held s.views id v w at in
      let u : ℕ = served + total held (set s.views id w) in
      let same : u ≡ t = omega (arith, more) in
      let bound = r.bound in
      subst
      (λ (k : ℕ). At served past record { words = k ∷ served ∷ r.words.0; homes = s.homes; views = set s.views id w }) same
      (changed stands n s served past r id v w served past r.words.0 s.homes at (omega (arith, same, bound)) r.few
      (λ j y _ e. fits_later n served t u past y (omega (arith, same)) (r.each j y e))
      (fits_later n served t u past w (omega (arith, same)) (refused_fits served t past v (r.each id v at) drawn))
      (stays_alone stands n s served past r id v w at (λ j u _ _. meets_none w u off) (λ x h. h) (λ x h. h))
      (holds_on stands n s served past r id v w at free free))

  pub refuses : (slots id : ℕ) (me : Me (Opt S) V) → has me.0.number me.0.numbers ≡ true → me.0.tickets ≡ 0
      → me.0.in_turn ≡ false → Allows Rule slots id me 0 (λ x. x) (Refused (step slots 0 0 0 none) me)
  refuses slots id me own off free s kept_now _ at _ =
      let past : List (ℕ × E) = kept_now.0 in
      let served : ℕ = kept_now.1 in
      let r = kept_now.2 in
      let acc = kept_now.3 in
      let t : ℕ = served + total held s.views in
      let w : V = refused_view me.0 in
      let Goal : List ℕ → Type 0 = λ ws. (u : V) × (a : Act (Opt S)) × Valid s.homes me.1 a
      × Rule record { words = set ws 0 (get_or ws 0 0); homes = homes_after s.homes me.1 a; views = set s.views id u }
      × Refused (step slots 0 0 0 none) me (get_or ws 0 0) (u, carried_after me.1 a) in
      subst Goal (sym r.words.1) (dite (ℕ_discrete t limit)
      (λ full. let new = refused_at s served past r id me.0 at off free (omega (arith, full)) in
      let later : St = record { words = t ∷ served ∷ r.words.0; homes = s.homes; views = set s.views id w } in
      let accounts : Accounts n (set s.views id w) past =
      accounts_set n s.views id me.0 w past past at refl (omega arith) (λ within. within.1) acc in (
        w,
        keeps,
        tt,
        (past, served, new, accounts),
        (
          refl,
          (λ _. refl),
          (λ left. absurd (left full)),
          sees_spent stands n later served past new accounts id w (set_there s.views id me.0 w at) own off,
        ),
      ))
      (λ left. (
        me.0,
        keeps,
        tt,
        unchanged s served past r acc id me.0 at,
        (refl, (λ full. absurd (left full)), (λ _. refl), sees_spent stands n s served past r acc id me.0 at own off),
      )))

-- ---- what the calls need of a pass's seat

pub seated_after : {S E : Type 0} (v w : View E) (joint you : Me (Opt S) (View E)) → joint.0 ≡ joined v w → you.0 ≡ joint.0 → you.1 ≡ [] → has v.number v.numbers ≡ true → 0 < v.stride → v.tickets ≡ 0 → v.in_turn ≡ false → IsSeated you
seated_after {S} {E} v w joint you is same out own pos off free =
    let none_held : List (ℕ × Opt S) = [] in
    subst (λ (m : Me (Opt S) (View E)). IsSeated m) (λ i. (sym (same ∙ is) i, sym out i))
    (has_front v.number v.numbers w.numbers own, pos, subst (λ (b : Bool). MatchBool b ((0 < v.tickets) × (none_held ≡ (0, None) ∷ [])) ((v.tickets ≡ 0) × (none_held ≡ []))) (sym free) (off, refl))

pub opening_initial : {S E : Type 0} (n k : ℕ) (lock : LockId) (me : Me (Opt S) (View E)) → IsOpening n k lock me → me.0.initial ≡ n
opening_initial n k lock me o = ap (λ p. p.initial) o.last

pub opening_more : {S E : Type 0} (n k : ℕ) (lock : LockId) (me : Me (Opt S) (View E)) → IsOpening n k lock me → k + 1 < n → me.0.unopened + 1 < me.0.initial
opening_more n k lock me o more = let a = opening_initial n k lock me o in let b = o.unopened in omega (arith, a, b, more)

pub opening_now : {S E : Type 0} (n k : ℕ) (lock : LockId) (me : Me (Opt S) (View E)) → IsOpening n k lock me → IsOpening me.0.initial me.0.unopened lock me
opening_now n k lock me o = subst (λ (z : ℕ × ℕ). IsOpening z.0 z.1 lock me) (λ i. (sym (opening_initial n k lock me o) i, sym o.unopened i)) o

pub opening_next : {S E : Type 0} (n k : ℕ) (lock : LockId) (me you : Me (Opt S) (View E)) → IsOpening n k lock me → IsOpening me.0.initial (me.0.unopened + 1) lock you → IsOpening n (k + 1) lock you
opening_next n k lock me you o next = subst (λ (z : ℕ × ℕ). IsOpening z.0 (z.1 + 1) lock you) (λ i. (opening_initial n k lock me o i, o.unopened i)) next

-- the passes so far, and one more
pub opened_so_far : {S E : Type 0} (n k : ℕ) (lock : LockId) (me : Me (Opt S) (View E)) (all : List (PassState E)) (p : PassState E) → IsOpening n k lock me → all ≡ initial_passes lock n k → p ≡ initial_pass lock me.0.initial me.0.unopened
    → all ++ p ∷ [] ≡ initial_passes lock n (k + 1)
opened_so_far n k lock me all p o is new = (λ i. is i ++ (new ∙ (λ j. initial_pass lock (opening_initial n k lock me o j) (o.unopened j))) i ∷ []) ∙ ap (initial_passes lock n) (one_more k)
  where
    one_more : (k : ℕ) → suc k ≡ k + 1
    one_more k = omega arith

-- with the one that opened the others, all
pub all_opened : {S E : Type 0} (n k : ℕ) (lock : LockId) (me : Me (Opt S) (View E)) (all : List (PassState E)) → IsOpening n k lock me → all ≡ initial_passes lock n k → k + 1 ≡ n
    → all ++ shown lock me.0 ∷ [] ≡ initial_passes lock n n
all_opened n k lock me all o is end = (λ i. is i ++ (o.last ∙ ap (initial_pass lock n) last) i ∷ []) ∙ ap (initial_passes lock n) (one_more k ∙ end)
  where
    last : n - 1 ≡ k
    last = omega (arith, end)

    one_more : (k : ℕ) → suc k ≡ k + 1
    one_more k = omega arith

pub opening_seated : {S E : Type 0} (n k : ℕ) (lock : LockId) (me : Me (Opt S) (View E)) → IsOpening n k lock me → IsSeated me
opening_seated {S} {E} n k lock me o =
    let number : me.0.number ≡ n - 1 = ap (λ p. p.number) o.last in
    let numbers : me.0.numbers ≡ (n - 1) ∷ [] = ap (λ p. p.numbers) o.last in
    let free : me.0.in_turn ≡ false = ap (λ p. p.in_turn) o.last in (
      subst (λ (z : ℕ × List ℕ). has z.0 z.1 ≡ true) (λ i. (sym number i, sym numbers i)) (has_same (n - 1)),
      o.reserve,
      subst (λ (b : Bool). MatchBool b ((0 < me.0.tickets) × (me.1 ≡ (0, None) ∷ [])) ((me.0.tickets ≡ 0) × (me.1 ≡ []))) (sym free) (ap (λ p. p.tickets) o.last, o.empty),
    )
