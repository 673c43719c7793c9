-- A step on a berth changes nothing that the lock keeps.
use Rattle.std.proofs.Common.{◌≡◌, ℕ, zero, suc, ◌+◌, ◌≤◌, List, [], ◌∷◌, set, get_or, eqb, Option as Opt, refl, sym, ap, subst, arith}
use Rattle.std.specs.Prelude.{bit_or}
use prog.Atomic.{either}
use Rattle.atomic_table.specs.Table.{State, Me, keeps, Allows}
use Rattle.atomic_table.proofs.Lists.{set_again}
use Rattle.history_lock.specs.declared.view.View.{View}
use Rattle.history_lock.specs.Histories.{Begins}
use Rattle.history_lock.specs.Views.{held}
use Rattle.history_lock.specs.Rule.{total, KeptOf, IsOneHistory}

module _ {S E : Type 0} (stands : S → List (ℕ × E) → Type 0) (n : ℕ) where
  other_words : (s : State (Opt S) (View E)) (served : ℕ) (past : List (ℕ × E)) (ws : List ℕ) → KeptOf stands n served past s → Begins ((served + total held s.views) ∷ served ∷ []) ws
      → KeptOf stands n served past record { words = ws; homes = s.homes; views = s.views }
  other_words s served past ws r begins = record {
    words = begins;
    bound = r.bound;
    few = r.few;
    each = r.each;
    tickets = r.tickets;
    apart = r.apart;
    reserves = r.reserves;
    fresh = r.fresh;
    slot = r.slot;
  }

  steps : (slots id : ℕ) (me : Me (Opt S) (View E)) (i : ℕ) (f : ℕ → ℕ) → 2 ≤ i → Allows (IsOneHistory stands n) slots id me i f (λ found you. you ≡ me)
  steps slots id me zero f le = absurd (omega (arith, le))
  steps slots id me (suc zero) f le = absurd (omega (arith, le))
  steps slots id me (suc (suc i)) f le = λ s kept_now _ at _.
      let past : List (ℕ × E) = kept_now.0 in
      let served : ℕ = kept_now.1 in
      let r = kept_now.2 in
      let found : ℕ = get_or s.words (suc (suc i)) 0 in
      let ws : List ℕ = set s.words (suc (suc i)) (f found) in
      let end : KeptOf stands n served past record { words = ws; homes = s.homes; views = s.views } =
      other_words s served past ws r (set r.words.0 i (f found), ap (λ l. set l (suc (suc i)) (f found)) r.words.1) in (
        me.0,
        keeps,
        tt,
        subst (λ vs. IsOneHistory stands n record { words = ws; homes = s.homes; views = vs }) (sym (set_again s.views id me.0 at)) (past, served, end, kept_now.3),
        refl,
      )

  -- a mark is set
  pub marks : (slots id : ℕ) (me : Me (Opt S) (View E)) (i mark : ℕ) → 2 ≤ i → Allows (IsOneHistory stands n) slots id me i (λ x. bit_or x mark) (λ found you. you ≡ me)
  marks slots id me i mark le = steps slots id me i (λ x. bit_or x mark) le

  -- a mark is taken away, if the word is still the one that was found
  pub unmarks : (slots id : ℕ) (me : Me (Opt S) (View E)) (i old new : ℕ) → 2 ≤ i → Allows (IsOneHistory stands n) slots id me i (λ x. either (eqb x old) new x) (λ found you. you ≡ me)
  unmarks slots id me i old new le = steps slots id me i (λ x. either (eqb x old) new x) le
