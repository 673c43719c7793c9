-- Whether the cells of some string literals can be made depends on their number and their units alone, not on their
-- order.
use Rattle.std.proofs.Common.{◌≡◌, ◌⊎◌, inl, inr, ℕ, ◌+◌, ◌-◌, ◌<◌, ◌≤◌, Bool, true, false, List, [], ◌∷◌, length, sum_by, refl, sym, ap, subst, ◌∙◌, arith}
use Rattle.std.specs.Prelude.{nat_lt, nat_le, if◌then◌else◌}
use Rattle.js_heap.specs.declared.value.Addr.{Addr}
use Rattle.js_heap.specs.declared.cell.Cell.TheVariants as cells
use Rattle.js_heap.specs.declared.change.Counted.{Counted}
use Rattle.js_heap.specs.declared.change.Counted.TheVariants as counted
use Rattle.js_heap.specs.World.{Room, World, Tried, fine, effect, full, room_less, with_cell, next_address}
use Rattle.js_tree.specs.declared.tree.Expr.{Expr}
use Rattle.js_semantics.specs.Sources.{expression_source}
use Rattle.js_semantics.specs.Literals.{source_literals}
use Rattle.js_semantics.specs.Run.{literals}
use Rattle.js_semantics.specs.Evaluation.{after_try, make_literals, place_literals, kept_term}
use Rattle.js_semantics.specs.Laws.{SameOutcome}
use Rattle.js_semantics.proofs.LiteralMakers.{total, total-sum, expression-counted}

-- so many cells with so many units: made, or refused
abbrev Outcome : Room → ℕ → ℕ → Tried (Unit {0}) → Type 0
Outcome r n s (fine a v) =
    (n ≤ r.cells) × (s ≤ r.units) × (v.room ≡ (let q : Room = record { cells = r.cells - n; units = r.units - s } in q))
Outcome r n s effect = ⊥
Outcome r n s (full what) = (r.cells < n) ⊎ (r.units < s)

room-same : (a b c d : ℕ)
    → a ≡ c
    → b ≡ d
    → (let q : Room = record { cells = a; units = b } in q) ≡ record { cells = c; units = d }
room-same a b c d e f =
    ap (λ n. let q : Room = record { cells = n; units = b } in q) e
    ∙ ap (λ n. let q : Room = record { cells = c; units = n } in q) f

over-one : (r : Room) (n s u : ℕ)
    → 0 < r.cells
    → u ≤ r.units
    → ((room_less r u).cells < n) ⊎ ((room_less r u).units < s)
    → (r.cells < 1 + n) ⊎ (r.units < u + s)
over-one r n s u h k (inl l) = inl (omega (arith, h, l))
over-one r n s u h k (inr l) = inr (omega (arith, k, l))

one-more : (r : Room) (n s u : ℕ) (t : Tried (Unit {0}))
    → 0 < r.cells
    → u ≤ r.units
    → Outcome (room_less r u) n s t
    → Outcome r (1 + n) (u + s) t
one-more r n s u (fine a v) h k o =
    (omega (arith, h, o.0), omega (arith, k, o.1), o.2 ∙ room-same _ _ _ _ (omega (arith, h)) (omega (arith, k)))
one-more r n s u effect h k o = o
one-more r n s u (full what) h k o = over-one r n s u h k o

made-outcome : (w : World) (us : List ℕ) (n s : ℕ) (rest : World → Tried (Unit {0})) (b c : Bool)
    → nat_lt 0 w.room.cells ≡ b
    → nat_le (length us) w.room.units ≡ c
    → ((v : World) → Outcome v.room n s (rest v)) →
    Outcome w.room (1 + n) (length us + s)
    (after_try
    (if b then
    (if c then fine (next_address w w.start)
    (record (with_cell w w.start (cells.Text us)) { room = room_less w.room (length us) })
    else full counted.Units)
    else full counted.Cells)
    (λ a v. rest v))
made-outcome w us n s rest true true e f h =
    one-more w.room n s (length us) (rest _) (grind (arith, e)) (grind (arith, f)) (h _)
made-outcome w us n s rest true false e f h = inr (grind (arith, f))
made-outcome w us n s rest false c e f h = inl (grind (arith, e))

literals-outcome : (w : World) (ts : List (List ℕ))
    → Outcome w.room (total (λ x. 1) ts) (total length ts) (make_literals w ts)
literals-outcome w [] = (omega arith, omega arith, room-same _ _ _ _ (omega arith) (omega arith))
literals-outcome w (us ∷ ts) =
    made-outcome w us (total (λ x. 1) ts) (total length ts) (λ v. make_literals v ts) (nat_lt 0 w.room.cells)
    (nat_le (length us) w.room.units) refl refl (λ v. literals-outcome v ts)

same-outcome : (r : Room) (n s : ℕ) (t u : Tried (Unit {0})) → Outcome r n s t → Outcome r n s u → SameOutcome t u
same-outcome r n s (fine a v) (fine b u) h k = h.2 ∙ sym k.2
same-outcome r n s (fine a v) effect h k = absurd k
same-outcome r n s (fine a v) (full what) h (inl k) = absurd (omega (arith, h.0, k))
same-outcome r n s (fine a v) (full what) h (inr k) = absurd (omega (arith, h.1, k))
same-outcome r n s effect u h k = absurd h
same-outcome r n s (full what) (fine b u) (inl h) k = absurd (omega (arith, k.0, h))
same-outcome r n s (full what) (fine b u) (inr h) k = absurd (omega (arith, k.1, h))
same-outcome r n s (full what) effect h k = absurd k
same-outcome r n s (full what) (full other) h k = tt

-- the same number and the same units
orders-agree : (w : World) (ts us : List (List ℕ))
    → ((m : List ℕ → ℕ) → total m ts ≡ total m us)
    → SameOutcome (make_literals w ts) (make_literals w us)
orders-agree w ts us e =
    same-outcome w.room (total (λ x. 1) us) (total length us) (make_literals w ts) (make_literals w us)
    (subst (λ n. Outcome w.room n (total length us) (make_literals w ts)) (e (λ x. 1))
    (subst (λ s. Outcome w.room (total (λ x. 1) ts) s (make_literals w ts)) (e length) (literals-outcome w ts)))
    (literals-outcome w us)

pub literals-same : (m : List ℕ → ℕ) (at : Addr) (e : Expr)
    → sum_by m (literals (kept_term at (expression_source e))) ≡ sum_by m (source_literals e)
literals-same m at e =
    sym (total-sum m (literals (kept_term at (expression_source e))))
    ∙ expression-counted m e _
    ∙ total-sum m (source_literals e)

pub literals-agree : (w : World) (at : Addr) (e : Expr)
    → SameOutcome (make_literals w (literals (kept_term at (expression_source e))))
    (make_literals w (source_literals e))
literals-agree w at e =
    orders-agree w (literals (kept_term at (expression_source e))) (source_literals e) (λ m. expression-counted m e _)

named : (t u : Tried (Unit {0})) (what : Counted) → SameOutcome u t → after_try t (λ a v. u) ≡ full what → t ≡ full what
named (fine a v) (fine b z) what s e = absurd cc
named (fine a v) effect what s e = absurd s
named (fine a v) (full other) what s e = absurd s
named effect u what s e = e
named (full other) u what s e = e

pub literals-named : (w : World) (at : Addr) (e : Expr) (what : Counted)
    → place_literals w (source_literals e) (literals (kept_term at (expression_source e))) ≡ full what
    → make_literals w (source_literals e) ≡ full what
literals-named w at e what h =
    named (make_literals w (source_literals e)) (make_literals w (literals (kept_term at (expression_source e)))) what
    (literals-agree w at e) h
