-- Positions go forward with the offset, so each position has one offset at most.
use Rattle.std.proofs.Common.{◌≡◌, ℕ, zero, suc, ◌+◌, ◌-◌, ◌<◌, ◌≤◌, ◌⊎◌, Bool, true, false, not, ◌&&◌, List, refl, ap, sym, subst, ◌∙◌, arith, inl, inr, ⊎_elim, add-one, add-zero}
use Rattle.std.specs.Prelude.{slice_index}
use Rattle.std.proofs.lemmas.Bool.{cases_lt}
use Rattle.cdp_text.specs.declared.position.Pos.{Pos}
use Rattle.cdp_text.specs.Position.{position, advanced, origin, is_line_terminator, ends_line, is_inside_cr_lf, IsOffset}

-- one unit on
pub position-next : (u : List ℕ) (i : ℕ) → position u (i + 1) ≡ advanced (position u i) (ends_line u i)
unfolding position
position-next u i = rw add-one refl

pub position-zero : (u : List ℕ) → position u 0 ≡ origin
unfolding position
position-zero u = refl

pub same_pos : (p q : Pos) → p.line ≡ q.line → p.col ≡ q.col → p ≡ q
same_pos p q e f =
    let along : p ≡ record { line = q.line; col = p.col } = ap
    (λ (l : ℕ). let r : Pos = record { line = l; col = p.col } in r) e in
    along ∙ ap (λ (k : ℕ). let r : Pos = record { line = q.line; col = k } in r) f

-- q is d units behind p: on the same line, or on a later one
abbrev pub IsAhead : Pos → Pos → ℕ → Type 0
IsAhead p q d = ((q.line ≡ p.line) × (q.col ≡ p.col + d)) ⊎ (p.line < q.line)

IsAhead-advanced : (p q : Pos) (ends : Bool) (d : ℕ) → IsAhead p q d → IsAhead p (advanced q ends) (suc d)
IsAhead-advanced p q true d h = inr (⊎_elim (λ same. omega arith) (λ later. omega arith) h)
IsAhead-advanced p q false d h = ⊎_elim (λ same. inl (same.0, omega arith)) (λ later. inr later) h

ahead_by : (u : List ℕ) (i d : ℕ) → IsAhead (position u i) (position u (i + d)) d
ahead_by u i zero = rw add-zero (inl (refl, omega arith))
ahead_by u i (suc d) =
    let next : position u (i + suc d) ≡ advanced (position u (i + d)) (ends_line u (i + d)) = ap (position u)
    (omega arith)
    ∙ position-next u (i + d) in
    let P : Pos → Type 0 = λ q. IsAhead (position u i) q (suc d) in
    subst P (sym next) (IsAhead-advanced (position u i) (position u (i + d)) (ends_line u (i + d)) d (ahead_by u i d))

-- going on from i to j
pub ahead : (u : List ℕ) (i j : ℕ) → i ≤ j → IsAhead (position u i) (position u j) (j - i)
ahead u i j h =
    let there : i + (j - i) ≡ j = omega arith in
    let P : ℕ → Type 0 = λ k. IsAhead (position u i) (position u k) (j - i) in
    subst P there (ahead_by u i (j - i))

-- a position has one offset at most
pub position_once : (u : List ℕ) (i j : ℕ)
    → (position u i).line ≡ (position u j).line
    → (position u i).col ≡ (position u j).col
    → i ≡ j
position_once u i j e f =
    elim (cases_lt i j) [
      | inl lt ↦ let h : IsAhead (position u i) (position u j) (j - i) =
          ahead u i j (omega arith) in ⊎_elim (λ same. omega arith) (λ later. omega arith) h
      | inr ge ↦ let h : IsAhead (position u j) (position u i) (i - j) =
          ahead u j i ge in ⊎_elim (λ same. omega arith) (λ later. omega arith) h
    ]

pub IsOffset-once : (u : List ℕ) (p : Pos) (i j : ℕ) → IsOffset u p i → IsOffset u p j → i ≡ j
IsOffset-once u p i j h k =
    let e : position u i ≡ position u j = h.placed ∙ sym k.placed in
    position_once u i j (ap (λ q. q.line) e) (ap (λ q. q.col) e)

-- neither number passes the offset
bound_step : (p : Pos) (ends : Bool) (i : ℕ)
    → (p.line ≤ i) × (p.col ≤ i)
    → ((advanced p ends).line ≤ suc i) × ((advanced p ends).col ≤ suc i)
bound_step p true i h = (omega arith, omega arith)
bound_step p false i h = (omega arith, omega arith)

pub position_bound : (u : List ℕ) (i : ℕ) → ((position u i).line ≤ i) × ((position u i).col ≤ i)
unfolding position
position_bound u zero = (omega arith, omega arith)
position_bound u (suc i) = bound_step (position u i) (ends_line u i) i (position_bound u i)

-- what the unit at i makes of the position
pub position-end : (u : List ℕ) (i : ℕ)
    → ends_line u i ≡ true
    → position u (i + 1) ≡ record { line = (position u i).line + 1; col = 0 }
position-end u i e = position-next u i ∙ ap (advanced (position u i)) e

pub position-on : (u : List ℕ) (i : ℕ)
    → ends_line u i ≡ false
    → position u (i + 1) ≡ record { line = (position u i).line; col = (position u i).col + 1 }
position-on u i e = position-next u i ∙ ap (advanced (position u i)) e

outside_at_start-by : (p : Pos) (t inside : Bool) → (advanced p (t && not inside)).col ≡ 0 → inside ≡ false
outside_at_start-by p t false e = refl
outside_at_start-by p true true e = absurd (omega arith)
outside_at_start-by p false true e = absurd (omega arith)

-- where a line begins is outside a CR LF
pub outside_at_start : (u : List ℕ) (i : ℕ) → (position u i).col ≡ 0 → is_inside_cr_lf u i ≡ false
outside_at_start u zero e = refl
outside_at_start u (suc i) e =
    let next : position u (suc i) ≡ advanced (position u i) (ends_line u i) = ap (position u) (sym (add-one i))
    ∙ position-next u i in
    let col : (advanced (position u i) (ends_line u i)).col ≡ 0 = sym (ap (λ q. q.col) next) ∙ e in
    outside_at_start-by (position u i) (is_line_terminator (slice_index u i)) (is_inside_cr_lf u (suc i)) col

-- a loop over the units that keeps the position
pub ruleset steps = (position-zero, position-end, position-on, position_bound)
