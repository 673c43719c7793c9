-- One view changes: what the lock keeps stays, if the change harms no other.
use Rattle.std.proofs.Common.{◌≡◌, ◌≢◌, ℕ, ◌+◌, ◌<◌, ◌≤◌, List, [], ◌∷◌, length, set, true, false, true≢false, Option as Opt, refl, sym, ap, ◌∙◌, ⊎_elim, inl, inr, arith}
use mathlib.Core.Option.{Option, some, some-injective}
use mathlib.Core.Logic.{dite}
use native.Mathlib.Decide.{ℕ_discrete}
use lib.ListN.{get_elem?}
use Rattle.atomic_table.specs.Table.{State}
use Rattle.history_lock.specs.declared.view.View.{View}
use Rattle.history_lock.specs.Histories.{limit, has, by}
use Rattle.history_lock.specs.Views.{held, Reserved}
use Rattle.history_lock.specs.Rule.{total, Fits, Holds, Meets, KeptOf, IsWithin, WasSplit, Accounts}
use Rattle.history_lock.proofs.Facts.{each_set, set_there, set_other}

module _ {E : Type 0} where
  -- a later ticket word changes nothing for a view
  pub fits_later : (n served t u : ℕ) (log : List (ℕ × E)) (v : View E) → t ≤ u → Fits n served t log v → Fits n served u log v
  fits_later n served t u log v le f = record {
    seen = f.seen;
    own_seen = f.own_seen;
    other_seen = f.other_seen;
    waits = λ d. let x = f.waits d in let high = x.1 in (x.0, omega (arith, high, le));
    refused = λ told. let h = f.refused told in omega (arith, h, le);
    turn = f.turn;
    whole = f.whole;
    own_whole = f.own_whole;
    other_whole = f.other_whole;
    own = f.own;
    other = f.other;
    disjoint = f.disjoint;
    initial = f.initial;
    named = f.named;
    unused = f.unused;
    beyond = f.beyond;
  }

  -- a pass without a ticket shares none
  pub meets_none : (w u : View E) → w.tickets ≡ 0 → (Meets w u → ⊥) × (Meets u w → ⊥)
  meets_none w u none = (
    (λ (m : Meets w u). let a = m.1 in let b = m.2 in absurd (omega (arith, a, b, none))),
    (λ (m : Meets u w). let a = m.0 in absurd (omega (arith, a, none))),
  )

  -- a changed view shares its tickets, its numbers and what it may give with no other
  pub record Alone (views : List (View E)) (id : ℕ) (w : View E) : Type 0 where
    pub tickets : (j : ℕ) (u : View E) → j ≢ id → get_elem? views j ≡ some u → (Meets w u → ⊥) × (Meets u w → ⊥)
    pub apart : (j : ℕ) (u : View E) (x : ℕ) → j ≢ id → get_elem? views j ≡ some u → has x w.numbers ≡ true → has x u.numbers ≡ true → ⊥
    pub reserves : (j : ℕ) (u : View E) (x : ℕ) → j ≢ id → get_elem? views j ≡ some u → Reserved w x → Reserved u x → ⊥
    pub untaken : (j : ℕ) (u : View E) (x : ℕ) → j ≢ id → get_elem? views j ≡ some u → has x w.numbers ≡ true → Reserved u x → ⊥
    pub unanswered : (j : ℕ) (u : View E) (x : ℕ) → j ≢ id → get_elem? views j ≡ some u → has x u.numbers ≡ true → Reserved w x → ⊥
    pub fresh : (x : ℕ) → has x w.numbers ≡ true → Reserved w x → ⊥

  -- a pass that was split before is split still where its view keeps its numbers and its count
  pub accounts_set : (n : ℕ) (views : List (View E)) (id : ℕ) (v w : View E) (past log : List (ℕ × E)) → get_elem? views id ≡ some v
      → w.numbers ≡ v.numbers → v.splits ≤ w.splits
      → (IsWithin n views past → (x : ℕ) → n ≤ x → by x log ≡ [])
      → Accounts n views past → Accounts n (set views id w) log
  accounts_set n views id v w past log at same more later a = ⊎_elim
      (λ within. inl (
        (λ i u x e h. each_set (λ _ y. has x y.numbers ≡ true → x < n) views id w (λ j y _ ej hy. within.0 j y x ej hy) (λ hw. within.0 id v x at (sym (ap (has x) same) ∙ hw)) i u e h),
        later within,
      ))
      (λ was. inr (still was.0 was.1 was.2 was.3 was.4 was.5 was.6))
      a
    where
      still : (i : ℕ) (u : View E) (y : ℕ) → get_elem? views i ≡ some u → y < n → has y u.numbers ≡ true → 0 < u.splits → WasSplit n (set views id w)
      still i u y e low h pos = dite (ℕ_discrete i id)
          (λ is. let eq : u ≡ v = some-injective u v (sym e ∙ (ap (get_elem? views) is ∙ at)) in
          let count : u.splits ≡ v.splits = ap (λ (z : View E). z.splits) eq in
          (id, w, y, set_there views id v w at, low, ap (has y) same ∙ (ap (λ (z : View E). has y z.numbers) (sym eq) ∙ h), omega (arith, more, pos, count)))
          (λ ne. (i, u, y, set_other views id i w ne ∙ e, low, h, pos))

module _ {S E : Type 0} (stands : S → List (ℕ × E) → Type 0) (n : ℕ) where
  abbrev St : Type 0
  St = State (Opt S) (View E)

  abbrev At : ℕ → List (ℕ × E) → St → Type 0
  At served log s = KeptOf stands n served log s

  -- One view changes, and with it the history and the words
  pub changed : (s : St) (before : ℕ) (past : List (ℕ × E)) (r : At before past s) (id : ℕ) (v w : View E) (served : ℕ) (log : List (ℕ × E)) (berths : List ℕ) (homes : List (Option (Opt S))) → get_elem? s.views id ≡ some v
      → served + total held (set s.views id w) ≤ limit
      → (length log ≤ served) × (served ≤ length log + length log)
      → ((j : ℕ) (u : View E) → j ≢ id → get_elem? s.views j ≡ some u → Fits n served (served + total held (set s.views id w)) log u)
      → Fits n served (served + total held (set s.views id w)) log w
      → Alone s.views id w
      → Holds stands homes (set s.views id w) log
      → At served log record { words = (served + total held (set s.views id w)) ∷ served ∷ berths; homes = homes; views = set s.views id w }
  changed s before past r id v w served log berths homes at bound few others mine alone holds = record {
    words = (berths, refl);
    bound = bound;
    few = few;
    each = each_set (λ _ u. Fits n served (served + total held (set s.views id w)) log u) s.views id w others mine;
    tickets = λ i j u z ei ej. each_set (λ k y. Meets y z → k ≡ j) s.views id w
        (λ k y nk ek. each_set (λ l x. Meets y x → k ≡ l) s.views id w (λ l x nl el m. r.tickets k l y x ek el m) (λ m. absurd ((alone.tickets k y nk ek).1 m)) j z ej)
        (each_set (λ l x. Meets w x → id ≡ l) s.views id w (λ l x nl el m. absurd ((alone.tickets l x nl el).0 m)) (λ _. refl) j z ej)
        i u ei;
    apart = λ i j u z x ei ej. each_set (λ k y. has x y.numbers ≡ true → has x z.numbers ≡ true → k ≡ j) s.views id w
        (λ k y nk ek hy. each_set (λ l a. has x a.numbers ≡ true → k ≡ l) s.views id w (λ l a nl el ha. r.apart k l y a x ek el hy ha) (λ hw. absurd (alone.apart k y x nk ek hw hy)) j z ej)
        (λ hw. each_set (λ l a. has x a.numbers ≡ true → id ≡ l) s.views id w (λ l a nl el ha. absurd (alone.apart l a x nl el hw ha)) (λ _. refl) j z ej)
        i u ei;
    reserves = λ i j u z x ei ej. each_set (λ k y. Reserved y x → Reserved z x → k ≡ j) s.views id w
        (λ k y nk ek hy. each_set (λ l a. Reserved a x → k ≡ l) s.views id w (λ l a nl el ha. r.reserves k l y a x ek el hy ha) (λ hw. absurd (alone.reserves k y x nk ek hw hy)) j z ej)
        (λ hw. each_set (λ l a. Reserved a x → id ≡ l) s.views id w (λ l a nl el ha. absurd (alone.reserves l a x nl el hw ha)) (λ _. refl) j z ej)
        i u ei;
    fresh = λ i j u z x ei ej. each_set (λ k y. has x y.numbers ≡ true → Reserved z x → ⊥) s.views id w
        (λ k y nk ek hy. each_set (λ l a. Reserved a x → ⊥) s.views id w (λ l a nl el ha. r.fresh k l y a x ek el hy ha) (λ hw. alone.unanswered k y x nk ek hy hw) j z ej)
        (λ hw. each_set (λ l a. Reserved a x → ⊥) s.views id w (λ l a nl el ha. alone.untaken l a x nl el hw ha) (λ hr. alone.fresh x hw hr) j z ej)
        i u ei;
    slot = holds;
  }

  -- a view that answers for nothing new and may give nothing new is alone as before
  pub stays_alone : (s : St) (served : ℕ) (past : List (ℕ × E)) (r : At served past s) (id : ℕ) (v w : View E) → get_elem? s.views id ≡ some v
      → ((j : ℕ) (u : View E) → j ≢ id → get_elem? s.views j ≡ some u → (Meets w u → ⊥) × (Meets u w → ⊥))
      → ((x : ℕ) → has x w.numbers ≡ true → has x v.numbers ≡ true)
      → ((x : ℕ) → Reserved w x → Reserved v x)
      → Alone s.views id w
  stays_alone s served past r id v w at tickets numbers reserved = record {
    tickets = tickets;
    apart = λ j u x ne e hw hu. ne (r.apart j id u v x e at hu (numbers x hw));
    reserves = λ j u x ne e rw ru. ne (r.reserves j id u v x e at ru (reserved x rw));
    untaken = λ j u x ne e hw ru. r.fresh id j v u x at e (numbers x hw) ru;
    unanswered = λ j u x ne e hu rw. r.fresh j id u v x e at hu (reserved x rw);
    fresh = λ x hw rw. r.fresh id id v v x at at (numbers x hw) (reserved x rw);
  }

  -- nobody's turn changes where a view without the turn is put in the place of another without it
  pub holds_on : (s : St) (served : ℕ) (past : List (ℕ × E)) (r : At served past s) (id : ℕ) (v w : View E) → get_elem? s.views id ≡ some v → v.in_turn ≡ false → w.in_turn ≡ false → Holds stands s.homes (set s.views id w) past
  holds_on s served past r id v w at off off' = ⊎_elim
      (λ home. inl (home.0, home.1, home.2, each_set (λ _ (u : View E). u.in_turn ≡ false) s.views id w (λ j u _ e. home.3 j u e) off'))
      (λ away. inr (away.0, (away.1.0, away.1.1, still away.1.0 away.1.1 away.1.2 away.1.3, away.1.3)))
      r.slot
    where
      still : (k : ℕ) (u : View E) → get_elem? s.views k ≡ some u → u.in_turn ≡ true → get_elem? (set s.views id w) k ≡ some u
      still k u e on = dite (ℕ_discrete k id)
          (λ is. let same : v ≡ u = some-injective v u (sym at ∙ (ap (get_elem? s.views) (sym is) ∙ e)) in absurd (true≢false (sym on ∙ (ap (λ (y : View E). y.in_turn) (sym same) ∙ off))))
          (λ ne. set_other s.views id k w ne ∙ e)
