-- The steps of a turn: tickets are drawn, looks wait for the first, and the turn ends with its entries.
use Rattle.std.proofs.Common.{◌≡◌, ◌≢◌, ℕ, ◌+◌, ◌-◌, ◌%◌, ◌<◌, ◌≤◌, List, [], ◌∷◌, ◌++◌, length, set, get_or, Bool, true, false, true≢false, Some, Option as Opt, refl, sym, ap, ◌∙◌, subst, ⊎_elim, inl, inr, arith, length-append, eqb, eq-eqb, ne_eqb, lt_of_not-le}
use mathlib.Core.Option.{Option, some, none, some-injective}
use mathlib.Core.Logic.{dite}
use native.Mathlib.Decide.{ℕ_discrete, dec_le}
use prog.Atomic.{either}
use lib.ListN.{get_elem?}
use Rattle.atomic_table.specs.Table.{State, Me, step, Act, Valid, homes_after, carried_after, keeps, takes, gives, Allows}
use Rattle.atomic_table.proofs.Lists.{set_again}
use Rattle.history_lock.specs.declared.view.View.{View}
use Rattle.history_lock.specs.Histories.{limit, has, by, made, Begins}
use Rattle.history_lock.specs.Views.{held, drawn, looked, advanced}
use Rattle.history_lock.specs.Rule.{total, Fits, Holds, Meets, KeptOf, IsOneHistory, Accounts, IsWithin}
use Rattle.history_lock.specs.Steps.{Drawn, Looked, Advanced, SeesMore}
use Rattle.history_lock.proofs.Facts.{begins_same, begins_nil, begins_more, by_append, by_made, by_behind, length_made, append_nil, total_set, each_set, set_there, not_true}
use Rattle.history_lock.proofs.Changes.{fits_later, meets_none, changed, stays_alone, accounts_set, holds_on}
use Rattle.history_lock.proofs.Knowing.{only_initial}

module _ {S E : Type 0} (stands : S → List (ℕ × E) → Type 0) (n : ℕ) where
  abbrev V : Type 0
  V = View E

  abbrev St : Type 0
  St = State (Opt S) V

  abbrev Rule : St → Type 0
  Rule s = IsOneHistory stands n s

  abbrev At : ℕ → List (ℕ × E) → St → Type 0
  At served log s = KeptOf stands n served log s

  -- ---- tickets are drawn

  drawn_fits : (served t u k : ℕ) (log : List (ℕ × E)) (v : V) → Fits n served t log v → v.in_turn ≡ false → has v.number v.numbers ≡ true → served ≤ t → t + k ≤ u → Fits n served u log (drawn v t k)
  drawn_fits served t u k log v f free own low high = record {
    seen = f.seen;
    own_seen = f.own_seen;
    other_seen = f.other_seen;
    waits = λ _. (low, high);
    refused = λ told. let h = f.refused told in omega (arith, h, high);
    turn = λ on. absurd (true≢false (sym on ∙ free));
    whole = f.whole;
    own_whole = f.own_whole;
    other_whole = f.other_whole;
    own = f.own;
    other = f.other;
    disjoint = f.disjoint;
    initial = f.initial;
    named = λ _. own;
    unused = f.unused;
    beyond = f.beyond;
  }

  -- the tickets drawn are beyond all others
  drawn_apart : (s : St) (served : ℕ) (past : List (ℕ × E)) (r : At served past s) (v : V) (k j : ℕ) (u : V) → get_elem? s.views j ≡ some u
      → (Meets (drawn v (served + total held s.views) k) u → ⊥) × (Meets u (drawn v (served + total held s.views) k) → ⊥)
  drawn_apart s served past r v k j u e = (
    (λ (m : Meets (drawn v (served + total held s.views) k) u). let m0 = m.0 in let m1 = m.1 in let b = (r.each j u e).waits m0 in let high = b.1 in absurd (omega (arith, m0, m1, high))),
    (λ (m : Meets u (drawn v (served + total held s.views) k)). let m1 = m.1 in let m2 = m.2 in let b = (r.each j u e).waits (omega (arith, m1, m2)) in let high = b.1 in absurd (omega (arith, m2, high))),
  )

  draws_at : (s : St) (served : ℕ) (past : List (ℕ × E)) (r : At served past s) (id : ℕ) (me : Me (Opt S) V) (k : ℕ) → get_elem? s.views id ≡ some me.0 → me.0.tickets ≡ 0 → me.0.in_turn ≡ false → has me.0.number me.0.numbers ≡ true
      → served + total held s.views + k ≤ limit
      → At served past record { words = (served + total held s.views + k) ∷ served ∷ r.words.0; homes = s.homes; views = set s.views id (drawn me.0 (served + total held s.views) k) }
  draws_at s served past r id me k at off free own room =
      let t : ℕ = served + total held s.views in
      let w : V = drawn me.0 t k in
      let more = total_set held s.views id me.0 w at in
      let next : served + total held (set s.views id w) ≡ t + k = omega (arith, more, off) in
      subst (λ (l : ℕ). At served past record { words = l ∷ served ∷ r.words.0; homes = s.homes; views = set s.views id w }) next
      (changed stands n s served past r id me.0 w served past r.words.0 s.homes at (omega (arith, next, room)) r.few
      (λ j u _ e. fits_later n served t (served + total held (set s.views id w)) past u (omega (arith, next)) (r.each j u e))
      (drawn_fits served t (served + total held (set s.views id w)) k past me.0 (r.each id me.0 at) free own (omega arith) (omega (arith, next)))
      (stays_alone stands n s served past r id me.0 w at (λ j u _ e. drawn_apart s served past r me.0 k j u e) (λ x h. h) (λ x h. h))
      (holds_on stands n s served past r id me.0 w at free free))

  draws_in : (slots id : ℕ) (me : Me (Opt S) V) (old new k : ℕ) → me.0.tickets ≡ 0 → me.0.in_turn ≡ false → has me.0.number me.0.numbers ≡ true → 0 < k → k ≤ limit → (old ≤ limit - k → new ≡ old + k) → (limit - k < old → new ≡ old)
      → (s : St) (past : List (ℕ × E)) (served : ℕ) (r : At served past s) (acc : Accounts n s.views past) → get_elem? s.views id ≡ some me.0
      → (w : V) × (a : Act (Opt S)) × Valid s.homes me.1 a
      × Rule record { words = set s.words 0 (either (eqb (get_or s.words 0 0) old) new (get_or s.words 0 0)); homes = homes_after s.homes me.1 a; views = set s.views id w }
      × Drawn (step slots 0 old new none) me (get_or s.words 0 0) (w, carried_after me.1 a)
  draws_in slots id me old new k off free own pos most up stay s past served r acc at =
      let t : ℕ = served + total held s.views in
      let Goal : List ℕ → Type 0 = λ ws. (w : V) × (a : Act (Opt S)) × Valid s.homes me.1 a
      × Rule record { words = set ws 0 (either (eqb (get_or ws 0 0) old) new (get_or ws 0 0)); homes = homes_after s.homes me.1 a; views = set s.views id w }
      × Drawn (step slots 0 old new none) me (get_or ws 0 0) (w, carried_after me.1 a) in
      subst Goal (sym r.words.1) (goal_at t refl)
    where
      still : (t : ℕ) → t ≡ served + total held s.views → (At served past record { words = t ∷ served ∷ r.words.0; homes = s.homes; views = set s.views id me.0 }) × Accounts n (set s.views id me.0) past
      still t is = subst (λ vs. (At served past record { words = t ∷ served ∷ r.words.0; homes = s.homes; views = vs }) × Accounts n vs past) (sym (set_again s.views id me.0 at))
          (subst (λ ws. At served past record { words = ws; homes = s.homes; views = s.views }) (r.words.1 ∙ ap (λ (l : ℕ). l ∷ served ∷ r.words.0) (sym is)) r, acc)

      goal_at : (t : ℕ) → t ≡ served + total held s.views
          → (w : V) × (a : Act (Opt S)) × Valid s.homes me.1 a
          × Rule record { words = either (eqb t old) new t ∷ served ∷ r.words.0; homes = homes_after s.homes me.1 a; views = set s.views id w }
          × Drawn (step slots 0 old new none) me t (w, carried_after me.1 a)
      goal_at t is = dite (ℕ_discrete t old)
          (λ hit. dite (dec_le t (limit - k))
          (λ room. let goes : new ≡ t + k = up (omega (arith, hit, room)) ∙ ap (λ (l : ℕ). l + k) (sym hit) in (
            drawn me.0 t k,
            keeps,
            tt,
            (
              past,
              served,
              subst (λ (l : ℕ). At served past record { words = l ∷ served ∷ r.words.0; homes = s.homes; views = set s.views id (drawn me.0 t k) })
                  (sym (ap (λ (b : Bool). either b new t) (eq-eqb t old hit) ∙ (goes ∙ ap (λ (l : ℕ). l + k) is)))
                  (subst (λ (l : ℕ). At served past record { words = (served + total held s.views + k) ∷ served ∷ r.words.0; homes = s.homes; views = set s.views id (drawn me.0 l k) }) (sym is)
                  (draws_at s served past r id me k at off free own (omega (arith, is, room, most)))),
              accounts_set n s.views id me.0 (drawn me.0 t k) past past at refl (omega arith) (λ within. within.1) acc,
            ),
            (
              omega (arith, room),
              refl,
              (λ l _ _ more. let same : k ≡ l = omega (arith, goes, more) in ap (drawn me.0 t) same),
              (λ _ stays. absurd (omega (arith, goes, stays, pos))),
              (λ ne. absurd (ne hit)),
            ),
          ))
          (λ full'. let full = lt_of_not-le full' in let stays : new ≡ t = stay (omega (arith, hit, full)) ∙ sym hit in (
            me.0,
            keeps,
            tt,
            (
              past,
              served,
              subst (λ (l : ℕ). At served past record { words = l ∷ served ∷ r.words.0; homes = s.homes; views = set s.views id me.0 }) (sym (ap (λ (b : Bool). either b new t) (eq-eqb t old hit) ∙ stays)) (still t is).0,
              (still t is).1,
            ),
            ((let b = r.bound in omega (arith, b, is)), refl, (λ l _ some_more more. absurd (omega (arith, stays, more, some_more))), (λ _ _. refl), (λ ne. absurd (ne hit))),
          )))
          (λ miss. (
            me.0,
            keeps,
            tt,
            (
              past,
              served,
              subst (λ (l : ℕ). At served past record { words = l ∷ served ∷ r.words.0; homes = s.homes; views = set s.views id me.0 }) (sym (ap (λ (b : Bool). either b new t) (ne_eqb t old miss))) (still t is).0,
              (still t is).1,
            ),
            ((let b = r.bound in omega (arith, b, is)), refl, (λ l hit. absurd (miss hit)), (λ hit. absurd (miss hit)), (λ _. refl)),
          ))

  pub draws : (slots id : ℕ) (me : Me (Opt S) V) (old new k : ℕ) → me.0.tickets ≡ 0 → me.0.in_turn ≡ false → has me.0.number me.0.numbers ≡ true → 0 < k → k ≤ limit → (old ≤ limit - k → new ≡ old + k) → (limit - k < old → new ≡ old)
      → Allows Rule slots id me 0 (λ x. either (eqb x old) new x) (Drawn (step slots 0 old new none) me)
  draws slots id me old new k off free own pos most up stay s kept_now _ at _ = draws_in slots id me old new k off free own pos most up stay s kept_now.0 kept_now.1 kept_now.2 kept_now.3 at

  -- ---- a look

  looked_fits : (served t : ℕ) (log : List (ℕ × E)) (v : V) (b : Bool) → Fits n served t log v → (b ≡ true → (0 < v.tickets) × (v.ticket ≡ served)) → Fits n served t log (looked v log b)
  looked_fits served t log v b f on = record {
    seen = begins_same log;
    own_seen = f.own_seen;
    other_seen = f.other_seen;
    waits = f.waits;
    refused = f.refused;
    turn = λ h. let o = on h in (o.0, o.1, refl);
    whole = λ x h. refl;
    own_whole = f.own_whole;
    other_whole = f.other_whole;
    own = f.own;
    other = f.other;
    disjoint = f.disjoint;
    initial = f.initial;
    named = f.named;
    unused = f.unused;
    beyond = f.beyond;
  }

  -- a look changes neither word
  look_at : (s : St) (served : ℕ) (past : List (ℕ × E)) (r : At served past s) (id : ℕ) (v : V) (b : Bool) (homes : List (Option (Opt S))) → get_elem? s.views id ≡ some v
      → (b ≡ true → (0 < v.tickets) × (v.ticket ≡ served)) → Holds stands homes (set s.views id (looked v past b)) past
      → At served past record { words = (served + total held s.views) ∷ served ∷ r.words.0; homes = homes; views = set s.views id (looked v past b) }
  look_at s served past r id v b homes at on holds =
      let w : V = looked v past b in
      let t : ℕ = served + total held s.views in
      let more = total_set held s.views id v w at in
      let same : served + total held (set s.views id w) ≡ t = omega (arith, more) in
      let bound = r.bound in
      subst (λ (k : ℕ). At served past record { words = k ∷ served ∷ r.words.0; homes = homes; views = set s.views id w }) same
      (changed stands n s served past r id v w served past r.words.0 homes at (omega (arith, same, bound)) r.few
      (λ j u _ e. fits_later n served t (served + total held (set s.views id w)) past u (omega (arith, same)) (r.each j u e))
      (fits_later n served t (served + total held (set s.views id w)) past w (omega (arith, same)) (looked_fits served t past v b (r.each id v at) on))
      (stays_alone stands n s served past r id v w at (λ j u ne e. ((λ m. ne (sym (r.tickets id j v u at e m))), (λ m. ne (r.tickets j id u v e at m)))) (λ x h. h) (λ x h. h))
      holds)

  -- two passes whose first tickets are the same are one
  same_first : (s : St) (served : ℕ) (past : List (ℕ × E)) (r : At served past s) (i j : ℕ) (v w : V) → get_elem? s.views i ≡ some v → get_elem? s.views j ≡ some w → 0 < v.tickets → 0 < w.tickets → v.ticket ≡ w.ticket → i ≡ j
  same_first s served past r i j v w ei ej dv dw same = r.tickets i j v w ei ej (dw, omega (arith, same), omega (arith, same, dv))

  -- where the ticket is served the slot is at home
  at_home : (s : St) (served : ℕ) (past : List (ℕ × E)) (r : At served past s) (id : ℕ) (v : V) → get_elem? s.views id ≡ some v → 0 < v.tickets → v.in_turn ≡ false → v.ticket ≡ served
      → (x : S) × (s.homes ≡ some (Some x) ∷ []) × stands x past
  at_home s served past r id v at draws free first = ⊎_elim (λ home. (home.0, home.1, home.2))
      (λ away. let k = away.1.0 in let u = away.1.1 in let e = away.1.2 in let on = away.1.3 in let f = (r.each k u e).turn on in
      let is = same_first s served past r k id u v e at f.0 draws (f.1 ∙ sym first) in
      let same : v ≡ u = some-injective v u (sym at ∙ (ap (get_elem? s.views) (sym is) ∙ e)) in
      absurd (true≢false (sym on ∙ (ap (λ (y : V). y.in_turn) (sym same) ∙ free))))
      r.slot

  sees_more : (log : List (ℕ × E)) (served t : ℕ) (v : V) (b : Bool) → Fits n served t log v → SeesMore v (looked v log b)
  sees_more log served t v b f = (f.seen.0, f.seen.1, λ x h. by_behind x v.seen f.seen.0 log f.seen.1 (f.whole x h))

  pub looks : (slots id : ℕ) (me : Me (Opt S) V) → 0 < me.0.tickets → me.0.in_turn ≡ false → me.1 ≡ []
      → Allows Rule slots id me 1 (λ x. x) (Looked stands me)
  looks slots id me draws free empty s kept_now _ at _ =
      let past : List (ℕ × E) = kept_now.0 in
      let served : ℕ = kept_now.1 in
      let r = kept_now.2 in
      let acc = kept_now.3 in
      let t : ℕ = served + total held s.views in
      let Goal : List ℕ → Type 0 = λ ws. (w : V) × (a : Act (Opt S)) × Valid s.homes me.1 a
      × Rule record { words = set ws 1 (get_or ws 1 0); homes = homes_after s.homes me.1 a; views = set s.views id w }
      × Looked stands me (get_or ws 1 0) (w, carried_after me.1 a) in
      let f = r.each id me.0 at in
      let d = f.waits draws in
      let d0 = d.0 in let d1 = d.1 in
      let bound = r.bound in let few = r.few.0 in
      let low : length past < limit = omega (arith, d0, d1, bound, few, draws) in
      let accounts : (b : Bool) → Accounts n (set s.views id (looked me.0 past b)) past = λ b. accounts_set n s.views id me.0 (looked me.0 past b) past past at refl (omega arith) (λ within. within.1) acc in
      subst Goal (sym r.words.1) (dite (ℕ_discrete served me.0.ticket)
      (λ hit. let h = at_home s served past r id me.0 at draws free (sym hit) in let x : S = h.0 in (
        looked me.0 past true,
        takes 0 (Some x),
        ap (λ hs. get_elem? hs 0) h.1,
        (
          past,
          served,
          subst (λ hs. At served past record { words = t ∷ served ∷ r.words.0; homes = hs; views = set s.views id (looked me.0 past true) }) (sym (ap (λ hs. set hs 0 none) h.1))
              (look_at s served past r id me.0 true (none ∷ []) at (λ _. (draws, sym hit)) (inr (refl, (id, looked me.0 past true, set_there s.views id me.0 (looked me.0 past true) at, refl)))),
          accounts true,
        ),
        (
          (λ _. (refl, low, sees_more past served t me.0 true f, only_initial stands n s served past r acc id me.0 at (f.named draws) past (begins_same past), (x, ap (λ c. (0, Some x) ∷ c) empty, h.2))),
          λ miss. absurd (miss hit),
        ),
      ))
      (λ miss. (
        looked me.0 past false,
        keeps,
        tt,
        (past, served, look_at s served past r id me.0 false s.homes at (λ h. absurd (true≢false (sym h))) (holds_on stands n s served past r id me.0 (looked me.0 past false) at free refl), accounts false),
        ((λ hit. absurd (miss hit)), λ _. (refl, refl, sees_more past served t me.0 false f)),
      )))

  -- ---- the turn ends with its entries

  -- the history with the entries has no more of another maker
  not_theirs : (past : List (ℕ × E)) (k : ℕ) (es : List E) (x : ℕ) → k ≢ x → by x (past ++ made k es) ≡ by x past
  not_theirs past k es x ne = by_append x past (made k es) ∙ (ap (λ l. by x past ++ l) (by_made x k es ne) ∙ append_nil (by x past))

  -- another's tickets come after those of the turn
  after_turn : (s : St) (served : ℕ) (past : List (ℕ × E)) (r : At served past s) (id : ℕ) (v : V) → get_elem? s.views id ≡ some v → v.in_turn ≡ true
      → (j : ℕ) (u : V) → j ≢ id → get_elem? s.views j ≡ some u → 0 < u.tickets → served + v.tickets ≤ u.ticket
  after_turn s served past r id v at on j u ne eu du =
      let first = ((r.each id v at).turn on).1 in
      let low = ((r.each j u eu).waits du).0 in
      dite (dec_le (served + v.tickets) u.ticket)
      (λ le. le)
      (λ no. let less = lt_of_not-le no in absurd (ne (sym (r.tickets id j v u at eu (du, omega (arith, first, low), omega (arith, first, less))))))

  advanced_others : (s : St) (served : ℕ) (past : List (ℕ × E)) (r : At served past s) (id : ℕ) (v : V) (es : List E) (t : ℕ) → get_elem? s.views id ≡ some v → v.in_turn ≡ true → t ≡ served + total held s.views
      → (j : ℕ) (u : V) → j ≢ id → get_elem? s.views j ≡ some u → Fits n (served + v.tickets) t (past ++ made v.number es) u
  advanced_others s served past r id v es t at on is j u ne eu =
      let f = r.each j u eu in
      let g = r.each id v at in
      let turn = g.turn on in
      let own = g.named turn.0 in
      let stays : (x : ℕ) → has x u.numbers ≡ true → by x (past ++ made v.number es) ≡ by x past =
      λ x h. not_theirs past v.number es x (λ same. ne (r.apart j id u v x eu at h (ap (λ (k : ℕ). has k v.numbers) (sym same) ∙ own))) in
      record {
        seen = begins_more u.seen past (made v.number es) f.seen;
        own_seen = begins_more u.own_seen past (made v.number es) f.own_seen;
        other_seen = begins_more u.other_seen past (made v.number es) f.other_seen;
        waits = λ du. let b = f.waits du in let b1 = b.1 in (after_turn s served past r id v at on j u ne eu du, omega (arith, is, b1));
        refused = λ told. let h = f.refused told in omega (arith, is, h);
        turn = λ onu. let b = f.turn onu in absurd (ne (same_first s served past r j id u v eu at b.0 turn.0 (b.1 ∙ sym turn.1)));
        whole = λ x h. stays x h ∙ f.whole x h;
        own_whole = λ x h. stays x (f.own x h) ∙ f.own_whole x h;
        other_whole = λ x h. stays x (f.other x h) ∙ f.other_whole x h;
        own = f.own;
        other = f.other;
        disjoint = f.disjoint;
        initial = f.initial;
        named = f.named;
        unused = λ x ru. not_theirs past v.number es x (λ same. r.fresh id j v u x at eu (ap (λ (k : ℕ). has k v.numbers) (sym same) ∙ own) ru) ∙ f.unused x ru;
        beyond = f.beyond;
      }

  advanced_fits : (s : St) (served : ℕ) (past : List (ℕ × E)) (r : At served past s) (id : ℕ) (v : V) (es : List E) (after t : ℕ) → get_elem? s.views id ≡ some v → v.in_turn ≡ true → t ≡ served + total held s.views
      → Fits n after t (past ++ made v.number es) (advanced v es)
  advanced_fits s served past r id v es after t at on now =
      let f = r.each id v at in
      let turn = f.turn on in
      let log : List (ℕ × E) = past ++ made v.number es in
      let is : v.seen ++ made v.number es ≡ log = ap (λ l. l ++ made v.number es) turn.2 in
      record {
        seen = subst (λ l. Begins l log) (sym is) (begins_same log);
        own_seen = begins_nil log;
        other_seen = begins_nil log;
        waits = λ h. absurd (omega (arith, h));
        refused = λ told. let h = f.refused told in omega (arith, now, h);
        turn = λ h. absurd (true≢false (sym h));
        whole = λ x h. ap (by x) (sym is);
        own_whole = λ x h. absurd (true≢false (sym h));
        other_whole = λ x h. absurd (true≢false (sym h));
        own = λ x h. absurd (true≢false (sym h));
        other = λ x h. absurd (true≢false (sym h));
        disjoint = λ x h. absurd (true≢false (sym h));
        initial = f.initial;
        named = λ h. absurd (omega (arith, h));
        unused = λ x ru. not_theirs past v.number es x (λ same. r.fresh id id v v x at at (ap (λ (k : ℕ). has k v.numbers) (sym same) ∙ f.named turn.0) ru) ∙ f.unused x ru;
        beyond = f.beyond;
      }

  -- where all numbers are among the first, the maker of the entries is one of them
  entries_within : (s : St) (past : List (ℕ × E)) (id : ℕ) (v : V) (es : List E) → get_elem? s.views id ≡ some v → has v.number v.numbers ≡ true
      → IsWithin n s.views past → (x : ℕ) → n ≤ x → by x (past ++ made v.number es) ≡ []
  entries_within s past id v es at own within x le =
      let low = within.0 id v v.number at own in
      not_theirs past v.number es x (λ same. omega (arith, low, le, same)) ∙ within.1 x le

  pub advances : (slots id : ℕ) (me : Me (Opt S) V) (k : ℕ) (y : S) (es ending : List E) → me.0.tickets ≡ k → me.0.in_turn ≡ true → me.1 ≡ (0, Some y) ∷ [] → ending ≡ es → length es ≤ k → k ≤ length es + length es
      → stands y (me.0.seen ++ made me.0.number es)
      → Allows Rule slots id me 1 (λ i. (i + k) % 18446744073709551616) (Advanced ending (step slots 1 k 0 none) me)
  advances slots id me k y es ending count on carries named many two stood s kept_now _ at _ =
      let past : List (ℕ × E) = kept_now.0 in
      let served : ℕ = kept_now.1 in
      let r = kept_now.2 in
      let acc = kept_now.3 in
      let v : V = me.0 in
      let f = r.each id v at in
      let turn = f.turn on in
      let own = f.named turn.0 in
      let d = f.waits turn.0 in
      let d0 = d.0 in let d1 = d.1 in
      let bound = r.bound in let few = r.few.0 in let enough = r.few.1 in
      let low : served + k ≤ limit = omega (arith, d0, d1, bound, count) in
      let log : List (ℕ × E) = past ++ made v.number es in
      let after : ℕ = served + v.tickets in
      let w : V = advanced v es in
      let t : ℕ = served + total held s.views in
      let longer_log : length log ≡ length past + length es = length-append past (made v.number es) ∙ ap (λ (i : ℕ). length past + i) (length_made v.number es) in
      let less = total_set held s.views id v w at in
      let same : after + total held (set s.views id w) ≡ t = omega (arith, less) in
      let away = ⊎_elim (λ home. absurd (true≢false (sym on ∙ home.3 id v at))) (λ (a : (s.homes ≡ none ∷ []) × ((i : ℕ) × (u : V) × (get_elem? s.views i ≡ some u) × (u.in_turn ≡ true))). a.0) r.slot in
      let Goal : List ℕ → Type 0 = λ ws. (w' : V) × (a : Act (Opt S)) × Valid s.homes me.1 a
      × Rule record { words = set ws 1 ((get_or ws 1 0 + k) % 18446744073709551616); homes = homes_after s.homes me.1 a; views = set s.views id w' }
      × Advanced ending (step slots 1 k 0 none) me (get_or ws 1 0) (w', carried_after me.1 a) in
      let new : At after log record { words = t ∷ after ∷ r.words.0; homes = some (Some y) ∷ []; views = set s.views id w } =
      subst (λ (i : ℕ). At after log record { words = i ∷ after ∷ r.words.0; homes = some (Some y) ∷ []; views = set s.views id w }) same
      (changed stands n s served past r id v w after log r.words.0 (some (Some y) ∷ []) at (omega (arith, same, bound))
      (omega (arith, longer_log, few, many, count), omega (arith, longer_log, enough, two, count))
      (advanced_others s served past r id v es (after + total held (set s.views id w)) at on same)
      (advanced_fits s served past r id v es after (after + total held (set s.views id w)) at on same)
      (stays_alone stands n s served past r id v w at (λ j u _ _. meets_none w u refl) (λ x h. h) (λ x h. h))
      (inl (
        y,
        refl,
        subst (λ l. stands y (l ++ made v.number es)) turn.2 stood,
        each_set (λ _ (u : V). u.in_turn ≡ false) s.views id w
            (λ j u ne eu. not_true u.in_turn (λ onu. let b = (r.each j u eu).turn onu in ne (same_first s served past r j id u v eu at b.0 turn.0 (b.1 ∙ sym turn.1)))) refl,
      ))) in
      let accounts : Accounts n (set s.views id w) log = accounts_set n s.views id v w past log at refl (omega arith) (entries_within s past id v es at own) acc in
      let wraps : (served + k) % 18446744073709551616 ≡ after = omega (arith, count, low) in
      let back : homes_after s.homes me.1 gives ≡ some (Some y) ∷ [] = ap (λ c. homes_after s.homes c gives) carries ∙ ap (λ hs. set hs 0 (some (Some y))) away in
      let all : v.seen ++ made v.number es ≡ log = ap (λ l. l ++ made v.number es) turn.2 in
      subst Goal (sym r.words.1) (
        w,
        gives,
        tt,
        (log, after, subst (λ (z : ℕ × List (Option (Opt S))). At after log record { words = t ∷ z.0 ∷ r.words.0; homes = z.1; views = set s.views id w }) (λ i. (sym wraps i, sym back i)) new, accounts),
        (
          low,
          ap (λ c. carried_after c gives) carries,
          (λ fs is. ap (advanced v) (sym named ∙ is)),
          only_initial stands n record { words = t ∷ after ∷ r.words.0; homes = some (Some y) ∷ []; views = set s.views id w } after log new accounts id w (set_there s.views id v w at) own w.seen (subst (λ l. Begins l log) (sym all) (begins_same log)),
        ),
      )
