-- What an invariant asks of a form's parts holds of what the form's step makes of them: one lemma for each row.
use Rattle.std.proofs.Common.{◌≡◌, ℕ, suc, ◌+◌, Bool, true, false, List, [], ◌∷◌, Option, None, Some, length, refl, sym, ap, subst, arith, if◌then◌else◌}
use Rattle.std.specs.Prelude.{nat_eq, nat_lt, codes}
use Rattle.js_tree_operators.specs.declared.operator.BinaryOperator.{BinaryOperator}
use Rattle.js_heap.specs.declared.value.Addr.{Addr}
use Rattle.js_heap.specs.declared.value.Value.{Value}
use Rattle.js_heap.specs.declared.value.Value.TheVariants as values
use Rattle.js_heap.specs.declared.built_in.Code.TheVariants as code
use Rattle.js_heap.specs.declared.built_in.ErrorClass.TheVariants as classes
use Rattle.js_heap.specs.declared.cell.Cell.{Cell}
use Rattle.js_heap.specs.declared.cell.Cell.TheVariants as cells
use Rattle.js_heap.specs.declared.cell.Binding.{Binding}
use Rattle.js_heap.specs.World.{World, read_cell}
use Rattle.js_heap.specs.BuiltIns.{script_scope}
use Rattle.js_heap.specs.Values.{is_truthy, key_of}
use Rattle.js_heap.specs.Operators.{binary_result, unary_result}
use Rattle.js_semantics.specs.Terms.{Source, script_source, kept_source, Mark, SourceMark, Completion, throws, returns, breaks, continues, Reference, FunctionForm, Member, Stage, first, doing, testing, body, updating, Form, script, enter, enter_debugger, enter_for, enter_for_of, block, scoped, frame, initialize, choose, both, either, loop, list_of, turn_of, body_of, break_, continue_, return_, throw_, catching, finishing, ending, this, read, typeof_name, unary, binary, comma, function, array, object, method, assign, compound, update, delete, call, call_of, Term, done, standing, part, Terms, end, more, one, joined, dones, settled, settle}
use Rattle.js_semantics.specs.State.{State, Move, goes, travels, has_effect, is_full, inside, Action, go, make, give, fail, this_of}
use Rattle.js_semantics.specs.References.{found, read_result, remove}
use Rattle.js_semantics.specs.BuiltIns.{argument, last_of, built_in_call, is_array}
use Rattle.js_semantics.specs.Functions.{Program, FunctionCode, first_code, code_if, code_here, function_in, function_in_all, same_source, function_at, function_cell, function_row, with_functions, too_deep, called_this, frame_entered, entered, frame_limit, call_code, call_cell, call_value, call_row}
use Rattle.js_semantics.specs.Rows.{only, script_row, enter_row, block_row, loop_row, enter_for_of_row, list_row, elements_of, body_part, turn_row, type_of_found, comma_row, compound_row, update_row, assign_row, callee_this, callee_row, properties_from, object_or_fail, object_row, ending_row, row, catch_row, taken}
use Rattle.js_semantics.specs.Next.{Walked, all_values, moved, with_value, scope_in, around, next, walk}
use Rattle.js_semantics.specs.Run.{Run, program_from, steps_in}
use Rattle.js_semantics.specs.Shapes.{size}
use Rattle.js_semantics.specs.Waiting.{uncovers, ByCase}
use Rattle.js_semantics.specs.Claims.{OfProgram, OfMove, OfRun}
use Rattle.js_semantics.proofs.ActionLemmas.{GoesOn, goes-weaker, fail-goes, result-goes, key-goes, choose-goes, functions-goes, names-goes, perform-goes, steps-run}
use Rattle.js_semantics.proofs.GiveLemmas.{IsValue, GivesValues, put-gives, remove-gives, built_in-gives, type_of-gives, update_row-gives, made-gives, function_row-gives}
use Rattle.js_semantics.proofs.InvariantLemmas.{Invariant, Later, IsKept, nothing-kept, one-kept, joined-kept, at_test-kept, at_update-kept, settled-kept, settle-kept, scoped-kept, chosen-kept, kept_or-kept, otherwise-kept, turn_or_end-kept, for_in-kept, body_part-kept}

-- an invariant that asks nothing of values, scopes and completions
pub record IsFree (I : Invariant) : Type 0 where
  pub each_value : (v : Value) → I.value v
  pub each_scope : (a : Option Addr) → I.scope a
  pub each_completion : (c : Option Completion) → I.kept c

-- an action that touches no frame, and goes on with a term of which the invariant holds
abbrev pub IsQuiet : Invariant → Action → Type 0
IsQuiet I a = GoesOn I.holds ⊥ a

-- the forms whose rows touch a frame
abbrev pub touches_frames : Form → Bool
touches_frames (script number names) = true
touches_frames (frame node a) = true
touches_frames (call place node) = true
touches_frames f = false

size-values : (vs : List Value) (ts : Terms) → size (joined (dones vs) ts) ≡ length vs + size ts
size-values [] ts = omega arith
size-values (v ∷ vs) ts = omega (arith, size-values vs ts)

-- ---- the code of a function

-- the code of a function is so, where there is one
abbrev pub HasCode : (FunctionCode → Type 0) → Option FunctionCode → Type 0
HasCode Q None = Unit {0}
HasCode Q (Some c) = Q c

-- so is that of each function of which the invariant holds
pub record FindsCode (I : Invariant) (Q : FunctionCode → Type 0) : Type 0 where
  pub of_function : (f : FunctionForm) (n : ℕ) (b : Term) (fs : Terms)
      → I.form (function f) n (more b fs)
      → I.rest (more b fs)
      → Q (record { form = f; body = b; functions = fs })
  pub of_method : (f : FunctionForm) (n : ℕ) (b : Term) (fs : Terms)
      → I.form (method f) n (more b fs)
      → I.rest (more b fs)
      → Q (record { form = f; body = b; functions = fs })

pub first-has : (Q : FunctionCode → Type 0) (o p : Option FunctionCode) → HasCode Q o → HasCode Q p → HasCode Q (first_code o p)
first-has Q (Some c) p h q = h
first-has Q None p h q = q

pub either-has : (Q : FunctionCode → Type 0) (b : Bool) (o p : Option FunctionCode)
    → HasCode Q o
    → HasCode Q p
    → HasCode Q (if b then o else p)
either-has Q true o p h q = h
either-has Q false o p h q = q

module _ (I : Invariant) (k : IsKept I) (Q : FunctionCode → Type 0) (d : FindsCode I Q) where
  function-has : (b : Bool) (f : FunctionForm) (n : ℕ) (later : Terms)
      → I.form (function f) n later
      → I.rest later
      → HasCode Q (code_if b f later)
  function-has true f n (more t ts) h q = d.of_function f n t ts h q
  function-has true f n end h q = tt
  function-has false f n later h q = tt

  method-has : (b : Bool) (f : FunctionForm) (n : ℕ) (later : Terms)
      → I.form (method f) n later
      → I.rest later
      → HasCode Q (code_if b f later)
  method-has true f n (more t ts) h q = d.of_method f n t ts h q
  method-has true f n end h q = tt
  method-has false f n later h q = tt

  here-has : (f : Form) (node n : ℕ) (later : Terms)
      → I.form f n later
      → Later I f later
      → HasCode Q (code_here f node later)
  here-has (function f) node n later h q = function-has (nat_eq f.node node) f n later h q
  here-has (method f) node n later h q = method-has (nat_eq f.node node) f n later h q
  here-has _ node n later h q = tt

  mutual
    pub function_in-has : (node : ℕ) (t : Term) → I.covered t → HasCode Q (function_in node t)
    function_in-has node (done v) h = tt
    function_in-has node (standing v place) h = tt
    function_in-has node (part f now later) h =
        let o = k.opened f now later h in
        first-has Q (code_here f node later) (first_code (function_in_all node now) (function_in_all node later))
        (here-has f node (size now) later o.0 o.2)
        (first-has Q (function_in_all node now) (function_in_all node later) (function_in_all-has node now o.1)
        (function_in_later-has (uncovers f) node later o.2))

    pub function_in_all-has : (node : ℕ) (ts : Terms) → I.all ts → HasCode Q (function_in_all node ts)
    function_in_all-has node end h = tt
    function_in_all-has node (more t ts) h =
        first-has Q (function_in node t) (function_in_all node ts)
        (function_in-has node t (k.covers t (k.first_part t ts h)))
        (function_in_all-has node ts (k.other_parts t ts h))

    function_in_later-has : (b : Bool) (node : ℕ) (ts : Terms)
        → ByCase b (I.rest ts) (I.all ts)
        → HasCode Q (function_in_all node ts)
    function_in_later-has b node end h = tt
    function_in_later-has true node (more t ts) h =
        first-has Q (function_in node t) (function_in_all node ts) (function_in-has node t (k.uncovered t ts h))
        (function_in_all-has node ts (k.behind t ts h))
    function_in_later-has false node (more t ts) h =
        first-has Q (function_in node t) (function_in_all node ts)
        (function_in-has node t (k.covers t (k.first_part t ts h)))
        (function_in_all-has node ts (k.other_parts t ts h))

  pub function_at-has : (p : Program) (source : Source) (node : ℕ)
      → OfProgram I.holds p
      → HasCode Q (function_at p source node)
  function_at-has [] source node h = tt
  function_at-has (t ∷ ts) source node h =
      either-has Q (same_source t.source source) (function_in node t.tree) (function_at ts source node)
      (function_in-has node t.tree (k.covers t.tree h.0)) (function_at-has ts source node h.1)

-- the body of a function is a part that is settled when it is uncovered
pub finds-body : (I : Invariant) → IsKept I → FindsCode I (λ c. I.covered c.body)
finds-body I k =
    record { of_function = λ f n b fs h q. k.uncovered b fs q; of_method = λ f n b fs h q. k.uncovered b fs q }

-- ---- the rows that touch no frame

module _ (I : Invariant) (k : IsKept I) (g : IsFree I) where
  pub value-holds : (v : Value) → I.holds (done v)
  value-holds v = k.of_value v (g.each_value v)

  dones-hold : (vs : List Value) → I.all (dones vs)
  dones-hold [] = k.no_parts
  dones-hold (v ∷ vs) = k.a_part (done v) (dones vs) (value-holds v) (dones-hold vs)

  is-value : (t : Term) → IsValue t → I.holds t
  is-value (done v) h = value-holds v
  is-value (standing v place) h = absurd h
  is-value (part f now later) h = absurd h

  pub gives-quiet : (a : Action) → GivesValues a → IsQuiet I a
  gives-quiet a h = goes-weaker IsValue I.holds ⊥ ⊥ is-value (λ e. e) a h

  enter-quiet : (node : ℕ) (later : Terms) → I.rest later → IsQuiet I (enter_row node later)
  enter-quiet node end q = value-holds values.Undefined
  enter-quiet node (more t ts) q = settle-kept I k t (k.uncovered t ts q)

  block-quiet : (scope : Addr) (names : List Binding) (later : Terms)
      → I.rest later
      → IsQuiet I (block_row scope names later)
  block-quiet scope [] end q = value-holds values.Undefined
  block-quiet scope (b ∷ bs) end q = value-holds values.Undefined
  block-quiet scope [] (more t fs) q = settle-kept I k t (k.uncovered t fs q)
  block-quiet scope (b ∷ bs) (more t fs) q =
      λ a. functions-goes I.holds ⊥ a fs (go (settled (scoped a) (one (settle t)) end))
      (scoped-kept I k (settle t) a (g.each_scope (Some a)) (settle-kept I k t (k.uncovered t fs q)))

  loop-quiet : (w : World) (stage : Stage) (a : Option Addr) (vs : List Value) (later : Terms)
      → I.form (loop stage a) (length vs) later
      → I.all later
      → IsQuiet I (loop_row w stage a vs later)
  loop-quiet w testing a vs later h q =
      let o = k.of_loop testing a (length vs) later h in
      turn_or_end-kept I k (is_truthy w (only vs)) a later o.1 o.0 q
  loop-quiet w first (Some a) vs later h q =
      let o = k.of_loop first (Some a) (length vs) later h in
      λ b. at_test-kept I k (Some b) later o.1 (g.each_scope (Some b)) q
  loop-quiet w body (Some a) vs later h q =
      let o = k.of_loop body (Some a) (length vs) later h in
      λ b. at_update-kept I k (Some b) later o.1 (g.each_scope (Some b)) q
  loop-quiet w first None vs later h q = value-holds values.Undefined
  loop-quiet w body None vs later h q = value-holds values.Undefined
  loop-quiet w doing a vs later h q = value-holds values.Undefined
  loop-quiet w updating a vs later h q = value-holds values.Undefined

  enter_for_of-quiet : (scope : Addr) (node : ℕ) (b : Binding) (n : ℕ) (later : Terms)
      → I.form (enter_for_of node b) n later
      → I.all later
      → IsQuiet I (enter_for_of_row scope node b later)
  enter_for_of-quiet scope node b n end h q = value-holds values.Undefined
  enter_for_of-quiet scope node b n (more t ts) h q =
      λ a. k.closed (list_of b) (one (settled (scoped a) (one t) end)) ts (λ e. refl) (k.of_for_of node b n t ts h)
      (one-kept I k (settled (scoped a) (one t) end)
      (scoped-kept I k t a (g.each_scope (Some a)) (k.first_part t ts q)))
      (k.other_parts t ts q)

  list-quiet : (w : World) (b : Binding) (x : Value) (n : ℕ) (later : Terms)
      → I.form (list_of b) n later
      → I.all later
      → IsQuiet I (list_row w b x later)
  list-quiet w b x n later h q =
      choose-goes I.holds ⊥ (is_array w x) (go (part (turn_of b 0) end (more (done x) later)))
      (fail classes.TypeError (codes "Value is not an array"))
      (k.closed (turn_of b 0) end (more (done x) later) (λ e. refl) (k.of_list b n x later h) k.no_parts
      (k.a_part (done x) later (value-holds x) q))
      (fail-goes I.holds ⊥ classes.TypeError (codes "Value is not an array"))

  turn-quiet : (scope : Addr) (b : Binding) (i n : ℕ) (o : Option Value) (later : Terms)
      → I.form (turn_of b i) n later
      → I.all later
      → IsQuiet I (turn_row scope b i o later)
  turn-quiet scope b i n None later h q = value-holds values.Undefined
  turn-quiet scope b i n (Some x) later h q =
      λ a. settled-kept I k (body_of b (i + 1)) (one (settled (scoped a) (one (body_part later)) end)) later
      (k.of_turn b i n 1 later h)
      (one-kept I k (settled (scoped a) (one (body_part later)) end)
      (scoped-kept I k (body_part later) a (g.each_scope (Some a)) (body_part-kept I k later q)))
      q

  comma-quiet : (n : ℕ) (later : Terms) → I.form comma n later → I.all later → IsQuiet I (comma_row later)
  comma-quiet n end h q = value-holds values.Undefined
  comma-quiet n (more t end) h q = k.first_part t end q
  comma-quiet n (more t (more u ts)) h q =
      k.closed comma (one t) (more u ts) (λ e. refl) (k.of_comma n t u ts h)
      (one-kept I k t (k.first_part t (more u ts) q)) (k.other_parts t (more u ts) q)

  compound-quiet : (w : World) (scope : Addr) (o : BinaryOperator) (r : Reference) (vs : List Value) (later : Terms)
      → I.form (compound o r) (length vs) later
      → I.all later
      → IsQuiet I (compound_row w scope o r vs later)
  compound-quiet w scope o r vs end h q = value-holds values.Undefined
  compound-quiet w scope o r vs (more e ts) h q =
      let P : ℕ → Type 0 = λ n. I.form (assign r) n end in
      result-goes I.holds ⊥ (read_result w scope r vs)
      (λ old. go (part (assign r) (joined (dones vs) (one (part (binary o) (more (done old) (one e)) end))) end))
      (λ x. k.closed (assign r) (joined (dones vs) (one (part (binary o) (more (done x) (one e)) end))) end
      (λ d. refl)
      (subst P (sym (size-values vs (one (part (binary o) (more (done x) (one e)) end))))
      (k.of_compound o r (length vs) (more e ts) h))
      (joined-kept I k (dones vs) (one (part (binary o) (more (done x) (one e)) end)) (dones-hold vs)
      (one-kept I k (part (binary o) (more (done x) (one e)) end)
      (k.closed (binary o) (more (done x) (one e)) end (λ d. refl) (k.of_binary o)
      (k.a_part (done x) (one e) (value-holds x) (one-kept I k e (k.first_part e ts q))) k.no_parts)))
      k.no_parts)

  callee-quiet : (w : World) (scope : Addr) (r : Reference) (place : Mark) (node : ℕ) (vs : List Value) (later : Terms)
      → I.form (call_of r place node) (length vs) later
      → I.all later
      → IsQuiet I (callee_row w scope r place node vs later)
  callee-quiet w scope r place node vs later h q =
      result-goes I.holds ⊥ (read_result w scope r vs)
      (λ f. go (part (call place node) (more (done (callee_this r vs)) (more (done f) later)) end))
      (λ x. k.closed (call place node) (more (done (callee_this r vs)) (more (done x) later)) end (λ e. refl)
      (k.of_callee r place node (length vs) (size later) later h)
      (k.a_part (done (callee_this r vs)) (more (done x) later) (value-holds (callee_this r vs))
      (k.a_part (done x) later (value-holds x) q))
      k.no_parts)

  object-quiet : (w : World) (scope : Addr) (ms : List Member) (vs : List Value) (later : Terms)
      → I.form (object ms) (length vs) later
      → I.all later
      → IsQuiet I (object_row w scope ms vs later)
  object-quiet w scope ms vs end h q =
      gives-quiet (object_or_fail (properties_from w [] ms vs)) (made-gives (properties_from w [] ms vs))
  object-quiet w scope ms vs (more (part (method f) now later) ts) h q =
      let P : ℕ → Type 0 = λ n. I.form (object ms) n ts in
      let o = k.opened (method f) now later
      (k.covers (part (method f) now later) (k.first_part (part (method f) now later) ts q)) in
      key-goes I.holds ⊥ (key_of w (last_of vs))
      (λ key. make (function_cell f key scope values.Undefined)
      (λ a. go (part (object ms) (joined (dones vs) (more (done (values.Object a)) now)) ts)))
      (λ key a. k.closed (object ms) (joined (dones vs) (more (done (values.Object a)) now)) ts (λ e. refl)
      (subst P (sym (size-values vs (more (done (values.Object a)) now)))
      (k.of_method ms (length vs) f now later ts h))
      (joined-kept I k (dones vs) (more (done (values.Object a)) now) (dones-hold vs)
      (k.a_part (done (values.Object a)) now (value-holds (values.Object a)) o.1))
      (k.other_parts (part (method f) now later) ts q))
  object-quiet w scope ms vs (more _ ts) h q = value-holds values.Undefined

  ending-quiet : (c : Option Completion) → IsQuiet I (ending_row c)
  ending-quiet None = value-holds values.Undefined
  ending-quiet (Some c) = tt

  -- ---- THE TABLE OF STEPS

  pub row-quiet : (p : Program) (s : State) (scope : Addr) (f : Form) (vs : List Value) (later : Terms)
      → touches_frames f ≡ false
      → I.form f (length vs) later
      → Later I f later
      → IsQuiet I (row p s scope f vs later)
  row-quiet p s scope (script number names) vs later e h q = absurd cc
  row-quiet p s scope (frame node a) vs later e h q = absurd cc
  row-quiet p s scope (call place node) vs later e h q = absurd cc
  row-quiet p s scope (enter node) vs later e h q = enter-quiet node later q
  row-quiet p s scope (enter_debugger node) vs later e h q = enter-quiet node later q
  row-quiet p s scope (enter_for node constant names) vs later e h q =
      λ a. for_in-kept I k node constant names (length vs) a later (g.each_scope None) (g.each_scope (Some a)) h q
  row-quiet p s scope (enter_for_of node b) vs later e h q = enter_for_of-quiet scope node b (length vs) later h q
  row-quiet p s scope (block names) vs later e h q = block-quiet scope names later q
  row-quiet p s scope (initialize name) vs later e h q = value-holds values.Undefined
  row-quiet p s scope choose vs later e h q = chosen-kept I k (is_truthy s.world (only vs)) later q
  row-quiet p s scope both vs later e h q =
      kept_or-kept I k (is_truthy s.world (only vs)) (only vs) later (g.each_value (only vs)) q
  row-quiet p s scope either vs later e h q =
      otherwise-kept I k (is_truthy s.world (only vs)) (only vs) later (g.each_value (only vs)) q
  row-quiet p s scope (loop stage a) vs later e h q = loop-quiet s.world stage a vs later h q
  row-quiet p s scope (list_of b) vs later e h q = list-quiet s.world b (only vs) (length vs) later h q
  row-quiet p s scope (turn_of b i) vs later e h q =
      turn-quiet scope b i (length vs) (elements_of s.world later i) later h q
  row-quiet p s scope this vs later e h q = value-holds (this_of s)
  row-quiet p s scope (read r) vs later e h q = result-goes I.holds ⊥ (read_result s.world scope r vs) give value-holds
  row-quiet p s scope (typeof_name x) vs later e h q =
      gives-quiet (type_of_found s.world x (found s.world scope x)) (type_of-gives s.world x (found s.world scope x))
  row-quiet p s scope (unary o) vs later e h q =
      result-goes I.holds ⊥ (unary_result s.world o (only vs)) give value-holds
  row-quiet p s scope (binary o) vs later e h q =
      result-goes I.holds ⊥ (binary_result s.world o (argument vs 0) (argument vs 1)) give value-holds
  row-quiet p s scope comma vs later e h q = comma-quiet (length vs) later h q
  row-quiet p s scope (function f) vs later e h q = gives-quiet (function_row s scope f) (function_row-gives s scope f)
  row-quiet p s scope array vs later e h q = λ a. value-holds (values.Object a)
  row-quiet p s scope (object ms) vs later e h q = object-quiet s.world scope ms vs later h q
  row-quiet p s scope (compound o r) vs later e h q = compound-quiet s.world scope o r vs later h q
  row-quiet p s scope (assign r) vs later e h q =
      gives-quiet (assign_row s.world scope r vs) (put-gives s.world scope r vs (last_of vs) (give (last_of vs)) tt)
  row-quiet p s scope (update o prefix r) vs later e h q =
      gives-quiet (update_row s.world scope o prefix r vs) (update_row-gives s.world scope o prefix r vs)
  row-quiet p s scope (delete r) vs later e h q =
      gives-quiet (remove s.world r vs (give (values.Bool true)))
      (remove-gives s.world r vs (give (values.Bool true)) tt)
  row-quiet p s scope (call_of r place node) vs later e h q = callee-quiet s.world scope r place node vs later h q
  row-quiet p s scope return_ vs later e h q = tt
  row-quiet p s scope break_ vs later e h q = tt
  row-quiet p s scope continue_ vs later e h q = tt
  row-quiet p s scope (throw_ node) vs later e h q = tt
  row-quiet p s scope (ending c) vs later e h q = ending-quiet c
  row-quiet p s scope _ vs later e h q = value-holds (last_of vs)

  -- ---- THE TABLE OF COMPLETIONS

  catch-quiet : (scope : Addr) (name : Option (List ℕ)) (x : Value) (later : Terms)
      → I.all later
      → IsQuiet I (catch_row scope name x later)
  catch-quiet scope None x end q = value-holds values.Undefined
  catch-quiet scope (Some n) x end q = value-holds values.Undefined
  catch-quiet scope None x (more t ts) q = settle-kept I k t (k.covers t (k.first_part t ts q))
  catch-quiet scope (Some n) x (more t ts) q =
      λ a. scoped-kept I k (settle t) a (g.each_scope (Some a))
      (settle-kept I k t (k.covers t (k.first_part t ts q)))

  pub taken-quiet : (scope : Addr) (f : Form) (c : Completion) (n : ℕ) (later : Terms)
      → touches_frames f ≡ false
      → I.form f n later
      → Later I f later
      → IsQuiet I (taken scope f c later)
  taken-quiet scope (frame node a) c n later e h q = absurd cc
  taken-quiet scope (catching x) (throws v place) n later e h q = catch-quiet scope x v later q
  taken-quiet scope (catching x) (returns v) n later e h q = tt
  taken-quiet scope (catching x) breaks n later e h q = tt
  taken-quiet scope (catching x) continues n later e h q = tt
  taken-quiet scope finishing c n later e h q =
      settled-kept I k (ending (Some c)) later end (k.of_ending (Some c) (size later) (g.each_completion (Some c))) q
      k.no_parts
  taken-quiet scope (loop body a) breaks n later e h q = value-holds values.Undefined
  taken-quiet scope (loop body a) continues n later e h q =
      let o = k.of_loop body a n later h in
      settled-kept I k (loop body a) end later (o.1 body a 0 (omega arith) o.0) k.no_parts q
  taken-quiet scope (loop body a) (throws v place) n later e h q = tt
  taken-quiet scope (loop body a) (returns v) n later e h q = tt
  taken-quiet scope (body_of b i) breaks n later e h q = value-holds values.Undefined
  taken-quiet scope (body_of b i) continues n later e h q =
      settled-kept I k (body_of b i) end later (k.of_again b i n 0 later h) k.no_parts q
  taken-quiet scope (body_of b i) (throws v place) n later e h q = tt
  taken-quiet scope (body_of b i) (returns v) n later e h q = tt
  taken-quiet scope f c n later e h q = tt

-- ---- invariants that hold whatever throws stand, and of the bodies of active calls: each step keeps them

pub record IsStepped (I : Invariant) : Type 0 where
  pub of_throw : (v : Value) (place : SourceMark) → I.holds (standing v place)
  pub of_frame : (node : ℕ) (a : Addr) → I.form (frame node a) 1 end

-- an action that goes on with a term of which the invariant holds
abbrev IsGoing : Invariant → Action → Type 0
IsGoing I a = GoesOn I.holds (Unit {0}) a

-- where a step in some parts goes on, the invariant holds of as many
abbrev MovesOn : Invariant → ℕ → Move Terms → Type 0
MovesOn I n (goes ts s told) = I.all ts × (size ts ≡ n)
MovesOn I n _ = Unit {0}

abbrev WalksOn : Invariant → ℕ → Walked → Type 0
WalksOn I n (all_values vs) = length vs ≡ n
WalksOn I n (moved m) = MovesOn I n m

module _ (I : Invariant) (k : IsKept I) (g : IsFree I) (t : IsStepped I) where
  quiet-going : (a : Action) → IsQuiet I a → IsGoing I a
  quiet-going a h = goes-weaker I.holds I.holds ⊥ (Unit {0}) (λ x q. q) (λ e. tt) a h

  code-going : (s : State) (o : Option FunctionCode) (source : Source) (a : Addr) (name : List ℕ) (outer : Option Addr)
      (x y : Value) (args : List Value)
      → HasCode (λ c. I.covered c.body) o
      → IsGoing I (call_code s o source a name outer x y args)
  code-going s None source a name outer x y args h =
      fail-goes I.holds (Unit {0}) classes.TypeError (codes "Value is not a function")
  code-going s (Some c) source a name None x y args h =
      fail-goes I.holds (Unit {0}) classes.TypeError (codes "Value is not a function")
  code-going s (Some c) source a name (Some outer) x y args h =
      choose-goes I.holds (Unit {0}) (nat_lt (length s.frames) frame_limit)
      (entered c source a name outer (called_this c.form.is_arrow x y) args) too_deep
      (λ b. functions-goes I.holds (Unit {0}) b c.functions
      (frame_entered c source a (called_this c.form.is_arrow x y) b) (
        tt,
        k.closed (frame c.form.node b) (one (settle c.body)) end (λ e. refl) (t.of_frame c.form.node b)
            (one-kept I k (settle c.body) (settle-kept I k c.body h)) k.no_parts,
      ))
      (fail-goes I.holds (Unit {0}) classes.RangeError (codes "Maximum call stack size exceeded"))

  cell-going : (p : Program) (s : State) (a : Addr) (o : Option Cell) (y : Value) (args : List Value)
      → OfProgram I.holds p
      → IsGoing I (call_cell p s a o y args)
  cell-going p s a (Some (cells.Function (code.BuiltIn f) n l outer x)) y args h =
      quiet-going (built_in_call s.world f y args)
      (gives-quiet I k g (built_in_call s.world f y args) (built_in-gives s.world f y args))
  cell-going p s a (Some (cells.Function (code.Script number node) n l outer x)) y args h =
      code-going s (function_at p (script_source number) node) (script_source number) a n outer x y args
      (function_at-has I k (λ c. I.covered c.body) (finds-body I k) p (script_source number) node h)
  cell-going p s a (Some (cells.Function (code.Kept at node) n l outer x)) y args h =
      code-going s (function_at p (kept_source at) node) (kept_source at) a n outer x y args
      (function_at-has I k (λ c. I.covered c.body) (finds-body I k) p (kept_source at) node h)
  cell-going p s a _ y args h = fail-goes I.holds (Unit {0}) classes.TypeError (codes "Value is not a function")

  value-going : (p : Program) (s : State) (f y : Value) (args : List Value)
      → OfProgram I.holds p
      → IsGoing I (call_value p s f y args)
  value-going p s (values.Object a) y args h = cell-going p s a (read_cell s.world a) y args h
  value-going p s _ y args h = fail-goes I.holds (Unit {0}) classes.TypeError (codes "Value is not a function")

  call-going : (p : Program) (s : State) (place : Mark) (vs : List Value)
      → OfProgram I.holds p
      → IsGoing I (call_row p s place vs)
  call-going p s place [] h = value-holds I k g values.Undefined
  call-going p s place (x ∷ []) h = value-holds I k g values.Undefined
  call-going p s place (x ∷ f ∷ args) h = value-going p s f x args h

  script-going : (number : ℕ) (names : List Binding) (later : Terms)
      → I.rest later
      → IsGoing I (script_row number names later)
  script-going number names end q = value-holds I k g values.Undefined
  script-going number names (more x fs) q = (
    tt,
    (
      tt,
      names-goes I.holds (Unit {0}) script_scope names (with_functions script_scope fs (go (settle x)))
          (functions-goes I.holds (Unit {0}) script_scope fs (go (settle x))
          (settle-kept I k x (k.uncovered x fs q))),
    ),
  )

  row-going : (p : Program) (s : State) (scope : Addr) (f : Form) (vs : List Value) (later : Terms)
      → OfProgram I.holds p
      → I.form f (length vs) later
      → Later I f later
      → IsGoing I (row p s scope f vs later)
  row-going p s scope (script number names) vs later d h q = script-going number names later q
  row-going p s scope (frame node a) vs later d h q = (tt, value-holds I k g values.Undefined)
  row-going p s scope (call place node) vs later d h q = call-going p s place vs d
  row-going p s scope f vs later d h q =
      quiet-going (row p s scope f vs later) (row-quiet I k g p s scope f vs later refl h q)

  taken-going : (scope : Addr) (f : Form) (c : Completion) (n : ℕ) (later : Terms)
      → I.form f n later
      → Later I f later
      → IsGoing I (taken scope f c later)
  taken-going scope (frame node a) (returns v) n later h q = (tt, value-holds I k g v)
  taken-going scope (frame node a) (throws v place) n later h q = (tt, tt)
  taken-going scope (frame node a) breaks n later h q = (tt, tt)
  taken-going scope (frame node a) continues n later h q = (tt, tt)
  taken-going scope (script number names) c n later h q = tt
  taken-going scope (call place node) c n later h q = tt
  taken-going scope f c n later h q =
      quiet-going (taken scope f c later) (taken-quiet I k g scope f c n later refl h q)

  -- ---- steps

  value_in : (v : Value) (n : ℕ) (m : Move Terms)
      → MovesOn I n m
      → MovesOn I (suc n) (inside (λ ts. more (done v) ts) m)
  value_in v n (goes ts s told) h = (k.a_part (done v) ts (value-holds I k g v) h.0, ap (λ i. suc i) h.1)
  value_in v n (travels c s) h = tt
  value_in v n (has_effect s) h = tt
  value_in v n (is_full what s) h = tt

  with_value-walks : (v : Value) (n : ℕ) (x : Walked) → WalksOn I n x → WalksOn I (suc n) (with_value v x)
  with_value-walks v n (all_values vs) h = ap (λ i. suc i) h
  with_value-walks v n (moved m) h = value_in v n m h

  inside-moves : (ts : Terms) (m : Move Term)
      → I.all ts
      → OfMove I.holds m
      → MovesOn I (suc (size ts)) (inside (λ x. more x ts) m)
  inside-moves ts (goes x s told) q h = (k.a_part x ts h q, refl)
  inside-moves ts (travels c s) q h = tt
  inside-moves ts (has_effect s) q h = tt
  inside-moves ts (is_full what s) q h = tt

  around-kept : (p : Program) (scope : Addr) (f : Form) (n : ℕ) (later : Terms) (s : State) (x : Walked)
      → OfProgram I.holds p
      → I.form f n later
      → Later I f later
      → WalksOn I n x
      → OfMove I.holds (around p scope f later s x)
  around-kept p scope f n later s (all_values vs) d h q w =
      let P : ℕ → Type 0 = λ i. I.form f i later in
      perform-goes I.holds (Unit {0}) t.of_throw (nothing-kept I k) (row p s scope f vs later) s
      (row-going p s scope f vs later d (subst P (sym w) h) q)
  around-kept p scope f n later s (moved (goes now z told)) d h q w =
      let P : ℕ → Type 0 = λ i. I.form f i later in
      settled-kept I k f now later (subst P (sym w.1) h) w.0 q
  around-kept p scope f n later s (moved (travels c z)) d h q w =
      perform-goes I.holds (Unit {0}) t.of_throw (nothing-kept I k) (taken scope f c later) z
      (taken-going scope f c n later h q)
  around-kept p scope f n later s (moved (has_effect z)) d h q w = tt
  around-kept p scope f n later s (moved (is_full what z)) d h q w = tt

  mutual
    pub next-kept : (p : Program) (scope : Addr) (x : Term) (s : State)
        → OfProgram I.holds p
        → I.holds x
        → OfMove I.holds (next p scope x s)
    next-kept p scope (done v) s d h = h
    next-kept p scope (standing v place) s d h = tt
    next-kept p scope (part f now later) s d h =
        let o = k.opened f now later (k.covers (part f now later) h) in
        around-kept p scope f (size now) later s (walk p (scope_in f scope) now s) d o.0 o.2
        (walk-kept p (scope_in f scope) now s d o.1)

    walk-kept : (p : Program) (scope : Addr) (ts : Terms) (s : State)
        → OfProgram I.holds p
        → I.all ts
        → WalksOn I (size ts) (walk p scope ts s)
    walk-kept p scope end s d h = refl
    walk-kept p scope (more (done v) ts) s d h =
        with_value-walks v (size ts) (walk p scope ts s)
        (walk-kept p scope ts s d (k.other_parts (done v) ts h))
    walk-kept p scope (more (standing v place) ts) s d h = tt
    walk-kept p scope (more (part f now later) ts) s d h =
        inside-moves ts (next p scope (part f now later) s) (k.other_parts (part f now later) ts h)
        (next-kept p scope (part f now later) s d (k.first_part (part f now later) ts h))

  pub steps-kept : (n : ℕ) (p : Program) (scope : Addr) (r : Run)
      → OfProgram I.holds p
      → OfRun I.holds r
      → OfRun I.holds (steps_in n p scope r)
  steps-kept n p scope r d h = steps-run I.holds n p scope r (λ x s q. next-kept p scope x s d q) h

-- each script is a source of its program
pub program-kept : (I : Invariant) → IsKept I → (n : ℕ) (ts : Terms) → I.all ts → OfProgram I.holds (program_from n ts)
program-kept I k n end h = tt
program-kept I k n (more t ts) h = (k.first_part t ts h, program-kept I k (n + 1) ts (k.other_parts t ts h))
