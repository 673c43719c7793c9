-- The start of well-shaped scripts is well-shaped, and so is each configuration of their run.
use Rattle.std.proofs.Common.{◌≡◌, ℕ, suc, ◌+◌, List, length, refl, ap, arith}
use Rattle.js_heap.specs.declared.value.Addr.{Addr}
use Rattle.js_heap.specs.declared.value.Addr.TheVariants.{Base}
use Rattle.js_heap.specs.BuiltIns.{script_scope, first_literal}
use Rattle.js_semantics.specs.Terms.{Form, scripts, script, block, function, object, method, literal, Term, done, standing, part, Terms, end, more, settled}
use Rattle.js_semantics.specs.Run.{literals, literals_of, with_literals, all_with_literals, placed_scripts, program_of, first_state, start, plain}
use Rattle.js_semantics.specs.Shapes.{size, AreFunctions, BehindBody, AreMethods, methods_size, OtherShape, Shape, IsShaped, AreShaped, ShapedRun}
use Rattle.js_semantics.proofs.ActionLemmas.{of-run}
use Rattle.js_semantics.proofs.InvariantLemmas.{settled-kept}
use Rattle.js_semantics.proofs.RowLemmas.{program-kept}
use Rattle.js_semantics.proofs.ShapeLemmas.{shaped, shape-kept, steps-shaped}

-- ---- the cells of literals in their places

size-placed : (at : ℕ → Addr) (n : ℕ) (ts : Terms) → size (all_with_literals at n ts) ≡ size ts
size-placed at n end = refl
size-placed at n (more t ts) = ap (λ i. suc i) (size-placed at (n + length (literals t)) ts)

functions-placed : (at : ℕ → Addr) (n : ℕ) (ts : Terms) → AreFunctions ts → AreFunctions (all_with_literals at n ts)
functions-placed at n end h = tt
functions-placed at n (more (part (function f) now later) ts) h =
    functions-placed at (n + length (literals (part (function f) now later))) ts h
functions-placed at n (more _ ts) h = absurd h

behind-placed : (at : ℕ → Addr) (n : ℕ) (ts : Terms) → BehindBody ts → BehindBody (all_with_literals at n ts)
behind-placed at n end h = tt
behind-placed at n (more t ts) h = functions-placed at (n + length (literals t)) ts h

methods-placed : (at : ℕ → Addr) (n : ℕ) (ts : Terms)
    → AreMethods ts
    → AreMethods (all_with_literals at n ts) × (methods_size (all_with_literals at n ts) ≡ methods_size ts)
methods-placed at n end h = (tt, refl)
methods-placed at n (more (part (method f) now later) ts) h =
    let m : ℕ = n + length (literals (part (method f) now later)) in
    let rest = methods-placed at m ts h in
    (rest.0, omega (arith, size-placed at n now, rest.1))
methods-placed at n (more _ ts) h = absurd h

others-placed : (f : Form) (at : ℕ → Addr) (n i j : ℕ) (later : Terms)
    → i ≡ j
    → OtherShape f j later
    → OtherShape f i (all_with_literals at n later)
others-placed (script number names) at n i j later e h = behind-placed at n later h
others-placed (block names) at n i j later e h = behind-placed at n later h
others-placed (function f) at n i j later e h = behind-placed at n later h
others-placed (method f) at n i j later e h = behind-placed at n later h
others-placed (object ms) at n i j later e h =
    let m = methods-placed at n later h.0 in (m.0, omega (arith, h.1, e, m.1))
others-placed _ at n i j later e h = tt

shape-placed : (f : Form) (at : ℕ → Addr) (n m : ℕ) (now later : Terms)
    → Shape f (size now) later
    → Shape f (size (all_with_literals at n now)) (all_with_literals at m later)
shape-placed f at n m now later h = record {
  reduced = omega (arith, h.reduced, size-placed at n now);
  kept = omega (arith, h.kept, size-placed at m later);
  others = others-placed f at m (size (all_with_literals at n now)) (size now) later (size-placed at n now) h.others;
}

mutual
  placed-shaped : (at : ℕ → Addr) (n : ℕ) (t : Term) → IsShaped t → IsShaped (with_literals at n t)
  placed-shaped at n (done v) h = tt
  placed-shaped at n (standing v place) h = tt
  placed-shaped at n (part (literal us) now later) h = tt
  placed-shaped at n (part f now later) h = (
    shape-placed f at n (n + length (literals_of now)) now later h.0,
    all-placed-shaped at n now h.1,
    all-placed-shaped at (n + length (literals_of now)) later h.2,
  )

  all-placed-shaped : (at : ℕ → Addr) (n : ℕ) (ts : Terms) → AreShaped ts → AreShaped (all_with_literals at n ts)
  all-placed-shaped at n end h = tt
  all-placed-shaped at n (more t ts) h =
      (placed-shaped at n t h.0, all-placed-shaped at (n + length (literals t)) ts h.1)

-- ---- the start, and the run

pub plain-shaped : (k : ℕ) (ts : Terms) (input : List (List ℕ)) → AreShaped ts → ShapedRun (plain k ts input)
plain-shaped k ts input h =
    let placed : AreShaped (placed_scripts ts) = all-placed-shaped (λ n. Base n) first_literal ts h in
    steps-shaped k (program_of ts) script_scope (start ts input) (program-kept shaped shape-kept 1 (placed_scripts ts) placed)
    (of-run IsShaped (settled scripts (placed_scripts ts) end) (first_state ts input)
    (settled-kept shaped shape-kept scripts (placed_scripts ts) end
    (record { reduced = omega arith; kept = omega arith; others = tt }) placed tt))
