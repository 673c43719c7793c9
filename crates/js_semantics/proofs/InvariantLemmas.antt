-- Invariants of steps: what they ask of each form, and that they hold of what takes no step where they hold of its parts.
use Rattle.std.proofs.Common.{◌≡◌, ℕ, suc, ◌+◌, ◌≤◌, Bool, true, false, List, Option, None, Some, refl, arith, if◌then◌else◌}
use Rattle.js_tree_operators.specs.declared.operator.BinaryOperator.{BinaryOperator}
use Rattle.js_heap.specs.declared.value.Addr.{Addr}
use Rattle.js_heap.specs.declared.value.Value.{Value}
use Rattle.js_heap.specs.declared.value.Value.TheVariants as values
use Rattle.js_heap.specs.declared.cell.Binding.{Binding}
use Rattle.js_semantics.specs.Terms.{Mark, SourceMark, Completion, Reference, FunctionForm, Member, Stage, first, doing, testing, body, updating, Form, scripts, sequence, enter_for, enter_for_of, scoped, loop, list_of, turn_of, body_of, catching, finishing, ending, binary, comma, object, method, assign, compound, call, call_of, Term, done, standing, part, Terms, end, more, one, joined, is_done, all_done, last_value, test_of, update_of, body_of_loop, at_test, at_update, behind_body, at_body, behind_first, finished, settled, settle}
use Rattle.js_semantics.specs.Rows.{chosen, kept_or, otherwise, turn_or_end, for_in, body_part}
use Rattle.js_semantics.specs.Shapes.{size, reduced_parts}
use Rattle.js_semantics.specs.Waiting.{waits, uncovers, ByCase}

-- ---- what an invariant is

-- A claim about terms, and what it asks of each form.
pub record Invariant : Type 1 where
  -- of a part; of a part that is settled when it is uncovered
  pub holds : Term → Type 0
  pub covered : Term → Type 0
  -- of each of some parts; of parts of which the first is settled when it is uncovered
  pub all : Terms → Type 0
  pub rest : Terms → Type 0
  -- of a form, with so many parts that are reduced, and with those for later
  pub form : Form → ℕ → Terms → Type 0
  -- of what steps put into parts: a value, a scope, the completion that a `finally` keeps
  pub value : Value → Type 0
  pub scope : Option Addr → Type 0
  pub kept : Option Completion → Type 0

-- a form's parts for later
abbrev pub Later : Invariant → Form → Terms → Type 0
Later I f later = ByCase (uncovers f) (I.rest later) (I.all later)

-- a loop with these parts for later, at each of its stages
abbrev pub Loops : Invariant → Terms → Type 0
Loops I later =
    (stage : Stage) (a : Option Addr) (n : ℕ)
    → reduced_parts (loop stage a) ≤ n
    → I.scope a
    → I.form (loop stage a) n later

-- what the rows need of an invariant: it goes to a form's parts and back, and from each form to the forms that its step
-- makes of it
pub record IsKept (I : Invariant) : Type 0 where
  -- values, and lists of parts
  pub no_value : I.value values.Undefined
  pub no_completion : I.kept None
  pub of_value : (v : Value) → I.value v → I.holds (done v)
  pub no_parts : I.all end
  pub a_part : (t : Term) (ts : Terms) → I.holds t → I.all ts → I.all (more t ts)
  pub first_part : (t : Term) (ts : Terms) → I.all (more t ts) → I.holds t
  pub other_parts : (t : Term) (ts : Terms) → I.all (more t ts) → I.all ts
  pub uncovered : (t : Term) (ts : Terms) → I.rest (more t ts) → I.covered t
  pub behind : (t : Term) (ts : Terms) → I.rest (more t ts) → I.all ts
  -- a part, and what it is made of
  pub covers : (t : Term) → I.holds t → I.covered t
  pub of_done : (v : Value) → I.covered (done v) → I.holds (done v)
  pub of_standing : (v : Value) (place : SourceMark) → I.covered (standing v place) → I.holds (standing v place)
  pub opened : (f : Form) (now later : Terms)
      → I.covered (part f now later)
      → I.form f (size now) later × I.all now × Later I f later
  pub closed : (f : Form) (now later : Terms)
      → (all_done now ≡ true → waits f ≡ true)
      → I.form f (size now) later
      → I.all now
      → Later I f later
      → I.holds (part f now later)
  -- loops
  pub of_loop : (stage : Stage) (a : Option Addr) (n : ℕ) (later : Terms)
      → I.form (loop stage a) n later
      → I.scope a × Loops I later
  pub of_for : (node : ℕ) (constant : Bool) (names : List Binding) (n : ℕ) (t : Term) (later : Terms)
      → I.form (enter_for node constant names) n (more t later)
      → Loops I later
  pub of_for_of : (node : ℕ) (b : Binding) (n : ℕ) (t : Term) (later : Terms)
      → I.form (enter_for_of node b) n (more t later)
      → I.form (list_of b) 1 later
  pub of_list : (b : Binding) (n : ℕ) (v : Value) (later : Terms)
      → I.form (list_of b) n later
      → I.form (turn_of b 0) 0 (more (done v) later)
  pub of_turn : (b : Binding) (i n m : ℕ) (later : Terms) → I.form (turn_of b i) n later → I.form (body_of b (i + 1)) m later
  pub of_again : (b : Binding) (i n m : ℕ) (later : Terms) → I.form (body_of b i) n later → I.form (body_of b i) m later
  pub of_next : (b : Binding) (i n : ℕ) (later : Terms) → I.form (body_of b i) n later → I.form (turn_of b i) 0 later
  -- the other forms
  pub of_scope : (a : Addr) (n : ℕ) → I.scope (Some a) → I.form (scoped a) n end
  pub of_ending : (c : Option Completion) (n : ℕ) → I.kept c → I.form (ending c) n end
  pub of_comma : (n : ℕ) (t u : Term) (ts : Terms) → I.form comma n (more t (more u ts)) → I.form comma 1 (more u ts)
  pub of_binary : (o : BinaryOperator) → I.form (binary o) 2 end
  pub of_compound : (o : BinaryOperator) (r : Reference) (n : ℕ) (later : Terms)
      → I.form (compound o r) n later
      → I.form (assign r) (n + 1) end
  pub of_callee : (r : Reference) (place : Mark) (node n m : ℕ) (later : Terms)
      → I.form (call_of r place node) n later
      → I.form (call place node) (suc (suc m)) end
  pub of_method : (ms : List Member) (n : ℕ) (f : FunctionForm) (now later ts : Terms)
      → I.form (object ms) n (more (part (method f) now later) ts)
      → I.form (object ms) (n + suc (size now)) ts

-- an invariant that asks the same of a part whether it is settled when it is uncovered or not
pub either-way : (b : Bool) (A : Type 0) → A → ByCase b A A
either-way true A h = h
either-way false A h = h

pub one-way : (b : Bool) (A : Type 0) → ByCase b A A → A
one-way true A h = h
one-way false A h = h

-- ---- tests

not-done : (t : Term) → is_done t ≡ false → all_done (one t) ≡ true → ⊥
not-done (done v) e h = absurd cc
not-done (standing v place) e h = absurd cc
not-done (part f now later) e h = absurd cc

contrary : (b : Bool) → b ≡ false → b ≡ true → ⊥
contrary true e h = absurd cc
contrary false e h = absurd cc

-- a loop that begins is no value
started : (b : Bool) (now later : Terms)
    → all_done (one (if b then finished (loop first None) now later else part (loop first None) now later)) ≡ true
    → ⊥
started true now later e = absurd cc
started false now later e = absurd cc

module _ (I : Invariant) (k : IsKept I) where
  -- ---- parts

  pub nothing-kept : I.holds (done values.Undefined)
  nothing-kept = k.of_value values.Undefined k.no_value

  pub one-kept : (t : Term) → I.holds t → I.all (one t)
  one-kept t h = k.a_part t end h k.no_parts

  pub joined-kept : (ts us : Terms) → I.all ts → I.all us → I.all (joined ts us)
  joined-kept end us h q = q
  joined-kept (more t ts) us h q =
      k.a_part t (joined ts us) (k.first_part t ts h) (joined-kept ts us (k.other_parts t ts h) q)

  last-kept : (v : Value) (ts : Terms) → I.holds (done v) → I.all ts → I.holds (done (last_value v ts))
  last-kept v end h q = h
  last-kept v (more (done u) ts) h q = last-kept u ts (k.first_part (done u) ts q) (k.other_parts (done u) ts q)
  last-kept v (more (standing u place) ts) h q = last-kept v ts h (k.other_parts (standing u place) ts q)
  last-kept v (more (part f now later) ts) h q = last-kept v ts h (k.other_parts (part f now later) ts q)

  test-kept : (ts : Terms) → I.all ts → I.holds (test_of ts)
  test-kept end h = nothing-kept
  test-kept (more t ts) h = k.first_part t ts h

  update-kept : (ts : Terms) → I.all ts → I.holds (update_of ts)
  update-kept end h = nothing-kept
  update-kept (more t end) h = nothing-kept
  update-kept (more t (more u ts)) h = k.first_part u ts (k.other_parts t (more u ts) h)

  body-kept : (ts : Terms) → I.all ts → I.holds (body_of_loop ts)
  body-kept end h = nothing-kept
  body-kept (more t end) h = nothing-kept
  body-kept (more t (more u end)) h = nothing-kept
  body-kept (more t (more u (more b ts))) h =
      k.first_part b ts (k.other_parts u (more b ts) (k.other_parts t (more u (more b ts)) h))

  -- ---- what takes no step

  either-kept : (b : Bool) (t u : Term)
      → (b ≡ true → I.holds t)
      → (b ≡ false → I.holds u)
      → I.holds (if b then t else u)
  either-kept true t u h q = h refl
  either-kept false t u h q = q refl

  pub at_test-kept : (a : Option Addr) (later : Terms)
      → Loops I later
      → I.scope a
      → I.all later
      → I.holds (at_test a later)
  at_test-kept a later o l q =
      k.closed (loop testing a) (one (test_of later)) later (λ e. refl) (o testing a 1 (omega arith) l)
      (one-kept (test_of later) (test-kept later q)) q

  pub at_update-kept : (a : Option Addr) (later : Terms)
      → Loops I later
      → I.scope a
      → I.all later
      → I.holds (at_update a later)
  at_update-kept a later o l q =
      either-kept (is_done (update_of later)) (at_test a later) (part (loop updating a) (one (update_of later)) later)
      (λ e. at_test-kept a later o l q)
      (λ e. k.closed (loop updating a) (one (update_of later)) later (λ h. absurd (not-done (update_of later) e h))
      (o updating a 1 (omega arith) l) (one-kept (update_of later) (update-kept later q)) q)

  behind_body-kept : (a : Option Addr) (later : Terms)
      → Loops I later
      → I.scope a
      → I.all later
      → I.holds (behind_body a later)
  behind_body-kept None later o l q = at_update-kept None later o l q
  behind_body-kept (Some a) later o l q =
      k.closed (loop body (Some a)) end later (λ e. refl) (o body (Some a) 0 (omega arith) l) k.no_parts q

  at_body-kept : (a : Option Addr) (later : Terms)
      → Loops I later
      → I.scope a
      → I.all later
      → I.holds (at_body a later)
  at_body-kept a later o l q =
      either-kept (is_done (body_of_loop later)) (behind_body a later)
      (part (loop body a) (one (body_of_loop later)) later) (λ e. behind_body-kept a later o l q)
      (λ e. k.closed (loop body a) (one (body_of_loop later)) later (λ h. absurd (not-done (body_of_loop later) e h))
      (o body a 1 (omega arith) l) (one-kept (body_of_loop later) (body-kept later q)) q)

  behind_first-kept : (a : Option Addr) (later : Terms)
      → Loops I later
      → I.scope a
      → I.all later
      → I.holds (behind_first a later)
  behind_first-kept None later o l q = at_test-kept None later o l q
  behind_first-kept (Some a) later o l q =
      k.closed (loop first (Some a)) end later (λ e. refl) (o first (Some a) 0 (omega arith) l) k.no_parts q

  pub finished-kept : (f : Form) (now later : Terms)
      → I.form f (size now) later
      → I.all now
      → Later I f later
      → I.holds (finished f now later)
  finished-kept scripts now later h n q = nothing-kept
  finished-kept sequence now later h n q = nothing-kept
  finished-kept (scoped a) now later h n q = last-kept values.Undefined now nothing-kept n
  finished-kept (loop first a) now later h n q =
      let o = k.of_loop first a (size now) later h in behind_first-kept a later o.1 o.0 q
  finished-kept (loop doing a) now later h n q =
      let o = k.of_loop doing a (size now) later h in at_body-kept a later o.1 o.0 q
  finished-kept (loop body a) now later h n q =
      let o = k.of_loop body a (size now) later h in behind_body-kept a later o.1 o.0 q
  finished-kept (loop updating a) now later h n q =
      let o = k.of_loop updating a (size now) later h in at_test-kept a later o.1 o.0 q
  finished-kept (loop testing a) now later h n q = k.closed (loop testing a) now later (λ e. refl) h n q
  finished-kept (body_of b i) now later h n q =
      k.closed (turn_of b i) end later (λ e. refl) (k.of_next b i (size now) later h) k.no_parts q
  finished-kept (catching x) now later h n q = nothing-kept
  finished-kept finishing now later h n q =
      k.closed (ending None) later end (λ e. refl) (k.of_ending None (size later) k.no_completion) q k.no_parts
  finished-kept (ending None) now later h n q = nothing-kept
  finished-kept (ending (Some c)) now later h n q = k.closed (ending (Some c)) now later (λ e. refl) h n q
  finished-kept f now later h n q = k.closed f now later (λ e. refl) h n q

  pub settled-kept : (f : Form) (now later : Terms)
      → I.form f (size now) later
      → I.all now
      → Later I f later
      → I.holds (settled f now later)
  settled-kept f now later h n q =
      either-kept (all_done now) (finished f now later) (part f now later) (λ e. finished-kept f now later h n q)
      (λ e. k.closed f now later (λ d. absurd (contrary (all_done now) e d)) h n q)

  pub settle-kept : (t : Term) → I.covered t → I.holds (settle t)
  settle-kept (done v) h = k.of_done v h
  settle-kept (standing v place) h = k.of_standing v place h
  settle-kept (part f now later) h =
      let o = k.opened f now later h in settled-kept f now later o.0 o.1 o.2

  pub scoped-kept : (t : Term) (a : Addr) → I.scope (Some a) → I.holds t → I.holds (settled (scoped a) (one t) end)
  scoped-kept t a l h = settled-kept (scoped a) (one t) end (k.of_scope a 1 l) (one-kept t h) k.no_parts

  -- ---- what rows make of the parts for later

  pub chosen-kept : (b : Bool) (later : Terms) → I.all later → I.holds (chosen b later)
  chosen-kept true end q = nothing-kept
  chosen-kept true (more t ts) q = settle-kept t (k.covers t (k.first_part t ts q))
  chosen-kept false end q = nothing-kept
  chosen-kept false (more t end) q = nothing-kept
  chosen-kept false (more t (more u ts)) q =
      settle-kept u (k.covers u (k.first_part u ts (k.other_parts t (more u ts) q)))

  pub kept_or-kept : (b : Bool) (v : Value) (later : Terms) → I.value v → I.all later → I.holds (kept_or b v later)
  kept_or-kept true v end l q = k.of_value v l
  kept_or-kept true v (more t ts) l q = k.first_part t ts q
  kept_or-kept false v later l q = k.of_value v l

  pub otherwise-kept : (b : Bool) (v : Value) (later : Terms) → I.value v → I.all later → I.holds (otherwise b v later)
  otherwise-kept false v end l q = k.of_value v l
  otherwise-kept false v (more t ts) l q = k.first_part t ts q
  otherwise-kept true v later l q = k.of_value v l

  pub turn_or_end-kept : (b : Bool) (a : Option Addr) (later : Terms)
      → Loops I later
      → I.scope a
      → I.all later
      → I.holds (turn_or_end b a later)
  turn_or_end-kept true a later o l q = at_body-kept a later o l q
  turn_or_end-kept false a later o l q = nothing-kept

  started-kept : (a : Option Addr) (t : Term) (ts : Terms)
      → Loops I ts
      → I.scope a
      → I.covered t
      → I.all ts
      → I.holds (settled (loop first a) (one (settle t)) ts)
  started-kept a t ts o l h q =
      settled-kept (loop first a) (one (settle t)) ts (o first a 1 (omega arith) l)
      (one-kept (settle t) (settle-kept t h)) q

  pub for_in-kept : (node : ℕ) (constant : Bool) (names : List Binding) (n : ℕ) (a : Addr) (later : Terms)
      → I.scope None
      → I.scope (Some a)
      → I.form (enter_for node constant names) n later
      → I.rest later
      → I.holds (for_in constant a later)
  for_in-kept node true names n a end l m h q = nothing-kept
  for_in-kept node false names n a end l m h q = nothing-kept
  for_in-kept node true names n a (more t ts) l m h q =
      k.closed (scoped a) (one (settled (loop first None) (one (settle t)) ts)) end
      (λ e. absurd (started (all_done (one (settle t))) (one (settle t)) ts e)) (k.of_scope a 1 m)
      (one-kept (settled (loop first None) (one (settle t)) ts)
      (started-kept None t ts (k.of_for node true names n t ts h) l (k.uncovered t ts q) (k.behind t ts q)))
      k.no_parts
  for_in-kept node false names n a (more t ts) l m h q =
      started-kept (Some a) t ts (k.of_for node false names n t ts h) m (k.uncovered t ts q) (k.behind t ts q)

  pub body_part-kept : (later : Terms) → I.all later → I.holds (body_part later)
  body_part-kept end q = nothing-kept
  body_part-kept (more t end) q = nothing-kept
  body_part-kept (more t (more u ts)) q = k.first_part u ts (k.other_parts t (more u ts) q)
