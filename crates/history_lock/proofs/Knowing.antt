-- What a pass may rely on of the passes that were split.
use Rattle.std.proofs.Common.{◌≡◌, ℕ, ◌+◌, ◌<◌, ◌≤◌, List, [], ◌++◌, length, true, Option as Opt, sym, ap, ◌∙◌, ⊎_elim, arith, lt_of_not-le}
use mathlib.Core.Option.{some, some-injective}
use mathlib.Core.Logic.{dite}
use native.Mathlib.Decide.{dec_le}
use lib.ListN.{get_elem?}
use Rattle.atomic_table.specs.Table.{State}
use Rattle.history_lock.specs.declared.view.View.{View}
use Rattle.history_lock.specs.Histories.{IsSpent, limit, has, by, Begins}
use Rattle.history_lock.specs.Rule.{Fits, IsWithin, KeptOf, Accounts, total}
use Rattle.history_lock.specs.Steps.{KnowsSpent}
use Rattle.history_lock.specs.Views.{held}
use Rattle.history_lock.proofs.Facts.{append_nil, by_behind, by_none, by_none_of_all, total_none}

module _ {S E : Type 0} (stands : S → List (ℕ × E) → Type 0) (n : ℕ) where
  -- if a pass answers for the first n and none was split off it, then there are no other numbers
  within_first : (s : State (Opt S) (View E)) (served : ℕ) (past : List (ℕ × E))
      (r : KeptOf stands n served past s) → Accounts n s.views past → (id : ℕ) (v : View E)
      → get_elem? s.views id ≡ some v → v.initial ≡ n
      → ((x : ℕ) → x < v.initial → has x v.numbers ≡ true) → v.splits ≡ 0 → IsWithin n s.views past
  within_first s served past r acc id v at is all none = ⊎_elim
      (λ within. within)
      (λ was. let h = all was.2 (let low = was.4 in omega (arith, low, is)) in
      let same_id = r.apart was.0 id was.1 v was.2 was.3 at was.5 h in
      let same : was.1 ≡ v = some-injective was.1 v (sym was.3 ∙ (ap (get_elem? s.views) same_id ∙ at)) in
      let count = ap (λ (z : View E). z.splits) same in
      let pos = was.6 in
      absurd (omega (arith, count, pos, none)))
      acc

  -- and nothing else was made
  pub only_initial : (s : State (Opt S) (View E)) (served : ℕ) (past : List (ℕ × E))
      (r : KeptOf stands n served past s) → Accounts n s.views past → (id : ℕ) (v : View E)
      → get_elem? s.views id ≡ some v → has v.number v.numbers ≡ true
      → (seen : List (ℕ × E)) → Begins seen past
      → ((x : ℕ) → x < v.initial → has x v.numbers ≡ true) → v.splits ≡ 0 → (x : ℕ) → v.initial ≤ x
      → by x seen ≡ []
  only_initial s served past r acc id v at own seen begun all none x le =
      let is : v.initial ≡ n = (r.each id v at).initial v.number own in
      let within = within_first s served past r acc id v at is all none in
      by_none x seen past begun (within.1 x (omega (arith, le, is)))

  -- nor does any other pass hold a ticket
  no_tickets : (s : State (Opt S) (View E)) (served : ℕ) (past : List (ℕ × E))
      (r : KeptOf stands n served past s) → IsWithin n s.views past → (id : ℕ) (v : View E)
      → get_elem? s.views id ≡ some v → v.initial ≡ n
      → ((x : ℕ) → x < v.initial → has x v.numbers ≡ true) → v.tickets ≡ 0
      → (j : ℕ) (u : View E) → get_elem? s.views j ≡ some u → u.tickets ≡ 0
  no_tickets s served past r within id v at is all off j u e = dite (dec_le u.tickets 0)
      (λ le. omega (arith, le))
      (λ some_more. let pos : 0 < u.tickets = lt_of_not-le some_more in
      let named = (r.each j u e).named pos in
      let low = within.0 j u u.number e named in
      let same_id = r.apart j id u v u.number e at named (all u.number (omega (arith, low, is))) in
      let same : u ≡ v = some-injective u v (sym e ∙ (ap (get_elem? s.views) same_id ∙ at)) in
      let count = ap (λ (z : View E). z.tickets) same in
      absurd (omega (arith, count, pos, off)))

  -- it has seen all of the history
  sees_all : (served t : ℕ) (past : List (ℕ × E)) (views : List (View E)) (v : View E) → Fits n served t past v
      → IsWithin n views past → v.initial ≡ n → ((x : ℕ) → x < v.initial → has x v.numbers ≡ true) → past ≡ v.seen
  sees_all served t past views v f within is all =
      let rest : List (ℕ × E) = f.seen.0 in
      let same : (x : ℕ) → by x past ≡ by x v.seen =
      λ x. dite (dec_le n x)
      (λ le. let none = within.1 x le in none ∙ sym (by_none x v.seen past f.seen none))
      (λ less'. let less = lt_of_not-le less' in f.whole x (all x (omega (arith, less, is)))) in
      let none = by_none_of_all rest (λ x. by_behind x v.seen rest past f.seen.1 (same x)) in
      f.seen.1 ∙ (ap (λ l. v.seen ++ l) none ∙ append_nil v.seen)

  -- so where it was refused a ticket and holds none, it has seen a history after which none is left
  pub sees_spent : (s : State (Opt S) (View E)) (served : ℕ) (past : List (ℕ × E))
      (r : KeptOf stands n served past s) → Accounts n s.views past → (id : ℕ) (v : View E)
      → get_elem? s.views id ≡ some v → has v.number v.numbers ≡ true → v.tickets ≡ 0 → KnowsSpent v
  sees_spent s served past r acc id v at own off all none told =
      let t : ℕ = served + total held s.views in
      let f = r.each id v at in
      let is : v.initial ≡ n = f.initial v.number own in
      let within = within_first s served past r acc id v at is all none in
      let drawn : limit ≤ t = f.refused told in
      let waits = total_none held s.views (no_tickets s served past r within id v at is all off) in
      let enough = r.few.1 in
      let whole = ap length (sees_all served t past s.views v f within is all) in
      omega (arith, drawn, waits, enough, whole)
