-- Programs: steps, what they print, and the end.
use Rattle.std.proofs.Common.{◌≡◌, ℕ, zero, suc, ◌+◌, List, [], true, ◌∙◌, refl, sym, ap, subst, arith}
use Rattle.js_tree.specs.declared.script.Script.{Script}
use Rattle.js_heap.specs.BuiltIns.{script_scope}
use Rattle.js_semantics.specs.Run as runs
use Rattle.js_semantics.specs.Run.{Run, running, over}
use Rattle.js_semantics.specs.Sources.{terms_of_scripts}
use Rattle.js_semantics.specs.Laws.{IsPrefix}
use Rattle.js_semantics.proofs.FollowLemmas.{steps-suc, step-follows, run_of-state, prefix-trans, prefix-same}
use Rattle.cdp_session.specs.Code.{code_of}
use Rattle.cdp_host.specs.Programs.{start, next, plain, is_over, printed_of}

-- ---- the plain run

pub plain-start : (scripts : List Script) (input : List (List ℕ)) → start scripts input ≡ plain 0 scripts input
unfolding start plain
plain-start scripts input = refl

pub plain-next : (k : ℕ) (scripts : List Script) (input : List (List ℕ))
    → next scripts (plain k scripts input) ≡ plain (suc k) scripts input
unfolding next plain code_of
plain-next k scripts input =
    sym (steps-suc k (runs.program_of (terms_of_scripts scripts)) script_scope
    (runs.start (terms_of_scripts scripts) input))

-- ---- output

pub start-prints : (scripts : List Script) (input : List (List ℕ)) → printed_of (start scripts input) ≡ []
unfolding start
start-prints scripts input = ap (λ s. s.printed) (run_of-state _ _)

pub next-prints : (scripts : List Script) (r : Run) → IsPrefix (printed_of r) (printed_of (next scripts r))
unfolding next
next-prints scripts r = (step-follows (code_of scripts) script_scope r).output

-- what the plain run has printed stays in front of what it prints
pub plain-grows : (j made : ℕ) (scripts : List Script) (input : List (List ℕ))
    → IsPrefix (printed_of (plain made scripts input)) (printed_of (plain (made + j) scripts input))
plain-grows zero made scripts input =
    let P : ℕ → Type 0 = λ k. IsPrefix (printed_of (plain made scripts input)) (printed_of (plain k scripts input)) in
    let e : made ≡ made + 0 = omega arith in
    subst P e (prefix-same (printed_of (plain made scripts input)))
plain-grows (suc j) made scripts input =
    let P : Run → Type 0 = λ r. IsPrefix (printed_of (plain made scripts input)) (printed_of r) in
    let e : suc (made + j) ≡ made + suc j = omega arith in
    subst P (plain-next (made + j) scripts input ∙ ap (λ k. plain k scripts input) e)
    (prefix-trans (printed_of (plain made scripts input)) (printed_of (plain (made + j) scripts input))
    (printed_of (next scripts (plain (made + j) scripts input))) (plain-grows j made scripts input)
    (next-prints scripts (plain (made + j) scripts input)))

-- ---- the end

next-over : (scripts : List Script) (r : Run) → is_over r ≡ true → next scripts r ≡ r
unfolding next
next-over scripts (running t s) is = absurd cc
next-over scripts (over f s) is = refl

-- a plain run that is over stays as it is
pub plain-over : (j made : ℕ) (scripts : List Script) (input : List (List ℕ))
    → is_over (plain made scripts input) ≡ true
    → plain (made + j) scripts input ≡ plain made scripts input
plain-over zero made scripts input is = let e : made + 0 ≡ made = omega arith in ap (λ k. plain k scripts input) e
plain-over (suc j) made scripts input is =
    let e : made + suc j ≡ suc (made + j) = omega arith in
    let before : plain (made + j) scripts input ≡ plain made scripts input = plain-over j made scripts input is in
    ap (λ k. plain k scripts input) e
    ∙ sym (plain-next (made + j) scripts input)
    ∙ ap (next scripts) before
    ∙ next-over scripts (plain made scripts input) is
