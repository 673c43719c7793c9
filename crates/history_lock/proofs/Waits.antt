-- A look behind another, whose ticket wasn't served.
use Rattle.std.proofs.Common.{◌≡◌, ◌≢◌, ℕ, ◌<◌, List, [], ◌++◌, true, false, Option as Opt, sym, ap, ◌∙◌, subst}
use Rattle.atomic_table.specs.Table.{Me}
use Rattle.history_lock.specs.declared.view.View.{View}
use Rattle.history_lock.specs.Histories.{has, by}
use Rattle.history_lock.specs.Views.{looked}
use Rattle.history_lock.specs.Steps.{Looked, SeesMore}
use Rattle.history_lock.proofs.Facts.{append_assoc, by_append}

module _ {S E : Type 0} (stands : S → List (ℕ × E) → Type 0) where
  sees_on : (v w u : View E) → w ≡ looked v w.seen false → SeesMore v w → SeesMore w u → SeesMore v u
  sees_on v w u is a b = (
    a.0 ++ b.0,
    b.1 ∙ (ap (λ z. z ++ b.0) a.1 ∙ append_assoc v.seen a.0 b.0),
    λ x h. by_append x a.0 b.0 ∙ (ap (λ z. z ++ by x b.0) (a.2 x h) ∙ b.2 x (ap (λ (z : View E). has x z.numbers) is ∙ h)),
  )

  -- two looks are one
  pub looks_again : (v w u : Me (Opt S) (View E)) (served found : ℕ) → served ≢ v.0.ticket → Looked stands v served w → Looked stands w found u → Looked stands v found u
  looks_again v w u served found miss l m =
      let a = l.1 miss in
      let ticket : w.0.ticket ≡ v.0.ticket = ap (λ (z : View E). z.ticket) a.0 in (
        (λ hit. let c = m.0 (hit ∙ sym ticket) in (c.0 ∙ ap (λ (z : View E). looked z u.0.seen true) a.0, c.1, sees_on v.0 w.0 u.0 a.0 a.2 c.2, c.3, c.4)),
        λ miss'. let c = m.1 (λ hit. miss' (hit ∙ ticket)) in (c.0 ∙ ap (λ (z : View E). looked z u.0.seen false) a.0, c.1 ∙ a.1, sees_on v.0 w.0 u.0 a.0 a.2 c.2),
      )

  pub still_has_ticket : (v w : Me (Opt S) (View E)) (served : ℕ) → served ≢ v.0.ticket → Looked stands v served w → 0 < v.0.tickets → 0 < w.0.tickets
  still_has_ticket v w served miss l h = subst (λ (k : ℕ). 0 < k) (sym (ap (λ (z : View E). z.tickets) (l.1 miss).0)) h

  pub still_waits : (v w : Me (Opt S) (View E)) (served : ℕ) → served ≢ v.0.ticket → Looked stands v served w → w.0.in_turn ≡ false
  still_waits v w served miss l = ap (λ (z : View E). z.in_turn) (l.1 miss).0

  pub still_empty : (v w : Me (Opt S) (View E)) (served : ℕ) → served ≢ v.0.ticket → Looked stands v served w → v.1 ≡ [] → w.1 ≡ []
  still_empty v w served miss l h = (l.1 miss).1 ∙ h
