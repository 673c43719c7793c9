-- One scope after the other.
use Rattle.std.proofs.Common.{◌≡◌, ℕ, zero, suc, ◌+◌, ◌-◌, ◌<◌, List, length, Option, None, refl, sym, ap, subst, ◌∙◌, arith}
use Rattle.js_heap.specs.declared.value.Addr.{Addr}
use Rattle.js_heap.specs.World.{World, read_cell}
use Rattle.js_heap.specs.declared.cell.Cell.{Cell}
use Rattle.js_heap.specs.Scopes.{Found, found, found_in, found_within}
use Rattle.js_heap_memory.specs.Calls.{KeptBinding, kept_found}

pub found-step : (n m : ℕ) (w : World) (name : List ℕ) (a : Addr)
    → n ≡ suc m
    → found_within n w name a ≡ found_in a (read_cell w a) name (found_within m w name)
found-step zero m w name a e = absurd (omega arith)
found-step (suc n) m w name a e = let f : n ≡ m = omega arith in rw f refl

pub found-none : (n : ℕ) (w : World) (name : List ℕ) (a : Addr) → n ≡ 0 → found_within n w name a ≡ None
found-none zero w name a e = refl
found-none (suc n) w name a e = absurd (omega arith)

pub ruleset found_rules = (found-step, found-none)

-- a scope that leads outward
pub outward-step : (n i : ℕ) (w : World) (name : List ℕ) (at a : Addr) (cell : Option Cell) (first : Option KeptBinding)
    → i < n
    → cell ≡ read_cell w at
    → ((further : Addr → Option Found) → kept_found (found_in at cell name further) ≡ kept_found (further a))
    → kept_found (found_within (n - i) w name at) ≡ first
    → kept_found (found_within (n - (i + 1)) w name a) ≡ first
outward-step n i w name at a cell first h e k f =
    let m : ℕ = n - (i + 1) in
    let s : found_within (n - i) w name at ≡ found_in at (read_cell w at) name (found_within m w name) = found-step
    (n - i) m w name at (omega arith) in
    let P : Option Cell
    → Type 0 = λ c. kept_found (found_in at c name (found_within m w name)) ≡ kept_found (found_within m w name a) in
    let q : kept_found (found_in at (read_cell w at) name (found_within m w name)) ≡ kept_found
    (found_within m w name a) = subst P e (k (found_within m w name)) in
    sym q ∙ sym (ap kept_found s) ∙ f

-- a scope that ends the search
pub nowhere-step : (n i : ℕ) (w : World) (name : List ℕ) (at scope : Addr) (cell : Option Cell)
    → i < n
    → n ≡ length w.base + length w.scratch
    → cell ≡ read_cell w at
    → ((further : Addr → Option Found) → kept_found (found_in at cell name further) ≡ None)
    → kept_found (found_within (n - i) w name at) ≡ kept_found (found_within n w name scope)
    → None ≡ kept_found (found w scope name)
nowhere-step n i w name at scope cell h l e k f =
    let m : ℕ = n - (i + 1) in
    let s : found_within (n - i) w name at ≡ found_in at (read_cell w at) name (found_within m w name) = found-step
    (n - i) m w name at (omega arith) in
    let P : Option Cell → Type 0 = λ c. kept_found (found_in at c name (found_within m w name)) ≡ None in
    let q : kept_found (found_in at (read_cell w at) name (found_within m w name)) ≡ None = subst P e
    (k (found_within m w name)) in
    let t : kept_found (found_within n w name scope) ≡ kept_found (found w scope name) = ap
    (λ j. kept_found (found_within j w name scope)) l in
    sym q ∙ sym (ap kept_found s) ∙ f ∙ t
