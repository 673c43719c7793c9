-- Claims about the terms before the first step: what the makers give meets one that asks of each form only what its maker
-- gives it. One lemma for each maker.
use Rattle.std.proofs.Common.{◌≡◌, ℕ, ◌+◌, ◌≤◌, Bool, true, false, List, [], ◌∷◌, ◌++◌, Option, None, Some, map, refl, sym, subst, arith}
use Rattle.js_tree_operators.specs.declared.operator.UnaryOperator.{UnaryOperator}
use Rattle.js_tree_operators.specs.declared.operator.UnaryOperator.TheVariants as unaries
use Rattle.js_tree_operators.specs.declared.operator.UpdateOperator.{UpdateOperator}
use Rattle.js_tree_operators.specs.declared.operator.BinaryOperator.{BinaryOperator}
use Rattle.js_tree_operators.specs.declared.operator.BinaryOperator.TheVariants as binaries
use Rattle.js_heap.specs.declared.value.Value.{Value}
use Rattle.js_heap.specs.declared.value.Value.TheVariants as values
use Rattle.js_heap.specs.declared.cell.Binding.{Binding}
use Rattle.js_heap.specs.Cells.{declared}
use Rattle.js_semantics.specs.Terms.{script_source, Mark, Reference, to_name, to_member, to_index, FunctionForm, Member, keyed, computed, first, doing, Form, script, sequence, enter, enter_debugger, enter_for, enter_for_of, block, scoped, frame, initialize, choose, both, either, loop, list_of, turn_of, body_of, break_, continue_, return_, throw_, catching, finishing, ending, this, read, typeof_name, literal, unary, binary, comma, function, array, object, method, assign, compound, update, delete, call, call_of, Term, done, standing, part, Terms, end, more, one, joined}
use Rattle.js_semantics.specs.Untouched.{HasNoAddress}
use Rattle.js_semantics.specs.Shapes.{size, reduced_parts, later_parts}
use Rattle.js_semantics.specs.Waiting.{waits, uncovers, ByCase}
use Rattle.js_semantics.specs.Makers.{parameter_names, LoweringContext, MadeExpression, MadeStatement, MadeStatements, untouched, lexical_item, while_item, do_while_item, for_item, for_lexical_item, for_of_item, return_item, try_item, function_item, unnamed, naming, within, plain, plains, assigned_to, compounded, updated, deleted, type_of, assignment, unary_term, binary_term, comma_term, call_term, form_of, body_terms, function_term, returned_body, PropertyKey, fixed_key, computed_key, MadeProperty, value_property, method_property, method_form, member_of, Parts, before, property_parts, properties_parts, object_term, and_items, block_term, MadeDeclarator, initializer_terms, declarators_terms, declarators_term, declarators_names, optional_term, optional_terms, loop_parts, for_parts, MadeCatch, caught, finally_term, script_term, leaf, nothing, item}
use Rattle.js_semantics.proofs.Ready.{all_ready}
use Rattle.js_semantics.proofs.SourceFolds.{Relations, Keeps}

-- ---- what is claimed

-- the forms of which nothing but their parts can be asked before the first step
abbrev pub is_plain : Form → Bool
is_plain (script number names) = false
is_plain (enter_for node constant names) = false
is_plain (enter_for_of node b) = false
is_plain (block names) = false
is_plain (scoped a) = false
is_plain (frame node a) = false
is_plain (loop stage (Some a)) = false
is_plain (list_of b) = false
is_plain (turn_of b i) = false
is_plain (body_of b i) = false
is_plain (ending c) = false
is_plain (function f) = false
is_plain (object ms) = false
is_plain (method f) = false
is_plain f = true

-- A claim about terms before the first step, and what it asks of each form.
pub record Making : Type 1 where
  -- of a part; of a part that is settled when it is uncovered
  pub holds : Term → Type 0
  pub covered : Term → Type 0
  -- of each of some parts; of parts of which the first is settled when it is uncovered
  pub all : Terms → Type 0
  pub rest : Terms → Type 0
  -- of a form, with so many parts that are reduced, and with those for later
  pub form : Form → ℕ → Terms → Type 0
  -- of declared names, of the functions that a list declares, of an object literal's members with their parts
  pub names : List Binding → Type 0
  pub functions : Terms → Type 0
  pub members : List Member → Parts → Type 0

-- a form's parts for later
abbrev MadeLater : Making → Form → Terms → Type 0
MadeLater M f later = ByCase (uncovers f) (M.rest later) (M.all later)

-- what the makers need of a claim
pub record IsMade (M : Making) : Type 0 where
  -- values, and lists of parts
  pub of_value : (v : Value) → HasNoAddress v → M.holds (done v)
  pub no_parts : M.all end
  pub a_part : (t : Term) (ts : Terms) → M.holds t → M.all ts → M.all (more t ts)
  pub first_part : (t : Term) (ts : Terms) → M.all (more t ts) → M.holds t
  pub other_parts : (t : Term) (ts : Terms) → M.all (more t ts) → M.all ts
  pub a_rest : (t : Term) (ts : Terms) → M.covered t → M.all ts → M.rest (more t ts)
  -- a part, and what it is made of
  pub covers : (t : Term) → M.holds t → M.covered t
  pub opened : (f : Form) (now later : Terms) → M.holds (part f now later) → M.form f (size now) later × M.all now
  pub closed : (f : Form) (now later : Terms)
      → (all_ready now ≡ true → waits f ≡ true)
      → M.form f (size now) later
      → M.all now
      → MadeLater M f later
      → M.holds (part f now later)
  pub inside : (f : Form) (now later : Terms)
      → M.form f (size now) later
      → M.all now
      → MadeLater M f later
      → M.covered (part f now later)
  -- forms without names, and what becomes of a reference
  pub of_plain : (f : Form) (n : ℕ) (later : Terms)
      → is_plain f ≡ true
      → reduced_parts f ≤ n
      → later_parts f ≤ size later
      → M.form f n later
  pub of_assign : (r : Reference) (n : ℕ) (later : Terms) → M.form (read r) n later → M.form (assign r) (n + 1) end
  pub of_compound : (o : BinaryOperator) (r : Reference) (n : ℕ) (later : Terms) (e : Term)
      → M.form (read r) n later
      → M.form (compound o r) n (one e)
  pub of_update : (o : UpdateOperator) (b : Bool) (r : Reference) (n : ℕ) (later : Terms)
      → M.form (read r) n later
      → M.form (update o b r) n end
  pub of_delete : (r : Reference) (n : ℕ) (later : Terms) → M.form (read r) n later → M.form (delete r) n end
  pub of_callee : (r : Reference) (place : Mark) (node n : ℕ) (later args : Terms)
      → M.form (read r) n later
      → M.form (call_of r place node) n args
  -- names and functions, and the forms that have them
  pub no_names : M.names []
  pub a_name : (name : List ℕ) (constant : Bool) (bs : List Binding) → M.names bs → M.names (declared name constant ∷ bs)
  pub more_names : (bs cs : List Binding) → M.names bs → M.names cs → M.names (bs ++ cs)
  pub no_functions : M.functions end
  pub a_function : (f : FunctionForm) (now later : Terms)
      → M.holds (part (function f) now later)
      → M.functions (one (part (function f) now later))
  pub more_functions : (ts us : Terms) → M.functions ts → M.functions us → M.functions (joined ts us)
  pub all_functions : (ts : Terms) → M.functions ts → M.all ts
  pub of_script : (number : ℕ) (names : List Binding) (t : Term) (fs : Terms)
      → M.names names
      → M.functions fs
      → M.form (script number names) 0 (more t fs)
  pub of_block : (names : List Binding) (t : Term) (fs : Terms)
      → M.names names
      → M.functions fs
      → M.form (block names) 0 (more t fs)
  pub of_function : (f : FunctionForm) (t : Term) (fs : Terms)
      → M.names f.names
      → M.functions fs
      → M.form (function f) 0 (more t fs)
  pub of_method : (f : FunctionForm) (n : ℕ) (t : Term) (fs : Terms)
      → M.names f.names
      → M.functions fs
      → M.form (method f) n (more t fs)
  pub of_for : (node : ℕ) (constant : Bool) (names : List Binding) (later : Terms)
      → M.names names
      → 4 ≤ size later
      → M.form (enter_for node constant names) 0 later
  pub of_for_of : (node : ℕ) (name : List ℕ) (constant : Bool) (later : Terms)
      → 2 ≤ size later
      → M.form (enter_for_of node (declared name constant)) 0 later
  -- object literals
  pub no_members : M.members [] (record { now = end; later = end })
  pub a_member : (key : List ℕ) (ms : List Member) (t : Term) (p : Parts)
      → M.members ms p
      → M.members (keyed key ∷ ms) (before t p)
  pub a_computed : (ms : List Member) (t u : Term) (p : Parts)
      → M.members ms p
      → M.members (computed ∷ ms) (before t (before u p))
  pub a_method : (ms : List Member) (t : Term) (f : FunctionForm) (later : Terms) (p : Parts)
      → M.members ms p
      → M.members (computed ∷ ms) (record { now = one t; later = more (part (method f) p.now later) p.later })
  pub of_object : (ms : List Member) (p : Parts) → M.members ms p → M.form (object ms) (size p.now) p.later

-- ---- what is claimed of what is made

abbrev pub MadeHolds : Making → MadeExpression → Type 0
MadeHolds M e = (c : LoweringContext) → M.holds (e.term c)

abbrev pub OptionalHolds : Making → Option MadeExpression → Type 0
OptionalHolds M None = Unit {0}
OptionalHolds M (Some e) = MadeHolds M e

abbrev pub EachHolds : Making → List MadeExpression → Type 0
EachHolds M [] = Unit {0}
EachHolds M (e ∷ es) = MadeHolds M e × EachHolds M es

pub record ItemHolds (M : Making) (i : MadeStatement) : Type 0 where
  pub names_hold : M.names i.names
  pub functions_hold : (c : LoweringContext) → M.functions (i.functions c)
  pub term_holds : (c : LoweringContext) → M.holds (i.term c)

pub record ItemsHold (M : Making) (i : MadeStatements) : Type 0 where
  pub names_hold : M.names i.names
  pub functions_hold : (c : LoweringContext) → M.functions (i.functions c)
  pub terms_hold : (c : LoweringContext) → M.all (i.terms c)

abbrev pub DeclaratorsHold : Making → List MadeDeclarator → Type 0
DeclaratorsHold M [] = Unit {0}
DeclaratorsHold M (d ∷ ds) = OptionalHolds M d.initializer × DeclaratorsHold M ds

abbrev pub HandlerHolds : Making → Option MadeCatch → Type 0
HandlerHolds M None = Unit {0}
HandlerHolds M (Some h) = ItemsHold M h.body

abbrev pub FinalizerHolds : Making → Option MadeStatements → Type 0
FinalizerHolds M None = Unit {0}
FinalizerHolds M (Some b) = ItemsHold M b

abbrev pub KeyHolds : Making → PropertyKey → Type 0
KeyHolds M (fixed_key k) = Unit {0}
KeyHolds M (computed_key e) = MadeHolds M e

abbrev pub PropertyHolds : Making → MadeProperty → Type 0
PropertyHolds M (value_property k e) = KeyHolds M k × MadeHolds M e
PropertyHolds M (method_property node k ps b) = KeyHolds M k × ItemsHold M b

abbrev pub PropertiesHold : Making → List MadeProperty → Type 0
PropertiesHold M [] = Unit {0}
PropertiesHold M (p ∷ ps) = PropertyHolds M p × PropertiesHold M ps

record PartsHold (M : Making) (ms : List Member) (p : Parts) : Type 0 where
  fit : M.members ms p
  now_hold : M.all p.now
  later_hold : M.all p.later

-- what is made of a tree, whatever the tree
abbrev pub relations_of : Making → Relations
relations_of M = record {
  expression = λ e x. MadeHolds M e;
  expressions = λ es xs. EachHolds M es;
  optional = λ e x. OptionalHolds M e;
  key = λ k x. KeyHolds M k;
  property = λ p x. PropertyHolds M p;
  properties = λ ps xs. PropertiesHold M ps;
  declarator = λ d x. OptionalHolds M d.initializer;
  declarators = λ ds xs. DeclaratorsHold M ds;
  statement = λ i x. ItemHolds M i;
  handler = λ h x. HandlerHolds M h;
  finalizer = λ f x. FinalizerHolds M f;
  statements = λ is xs. ItemsHold M is;
}

pub size-joined : (ts us : Terms) → size (joined ts us) ≡ size ts + size us
size-joined end us = omega arith
size-joined (more t ts) us = omega (arith, size-joined ts us)

module _ (M : Making) (m : IsMade M) where
  -- ---- parts

  one-made : (t : Term) → M.holds t → M.all (one t)
  one-made t h = m.a_part t end h m.no_parts

  two-made : (t u : Term) → M.holds t → M.holds u → M.all (more t (one u))
  two-made t u h q = m.a_part t (one u) h (one-made u q)

  three-made : (t u x : Term) → M.holds t → M.holds u → M.holds x → M.all (loop_parts t u x)
  three-made t u x h q r = m.a_part t (more u (one x)) h (two-made u x q r)

  nothing-made : M.holds (done values.Undefined)
  nothing-made = m.of_value values.Undefined tt

  joined-made : (ts us : Terms) → M.all ts → M.all us → M.all (joined ts us)
  joined-made end us h q = q
  joined-made (more t ts) us h q =
      m.a_part t (joined ts us) (m.first_part t ts h) (joined-made ts us (m.other_parts t ts h) q)

  plains-made : (es : List MadeExpression) (c : LoweringContext) → EachHolds M es → M.all (plains es c)
  plains-made [] c h = m.no_parts
  plains-made (e ∷ es) c h = m.a_part (plain e c) (plains es c) (h.0 (unnamed c)) (plains-made es c h.1)

  plain-made : (f : Form) (now later : Terms)
      → is_plain f ≡ true
      → waits f ≡ true
      → reduced_parts f ≤ size now
      → later_parts f ≤ size later
      → M.all now
      → MadeLater M f later
      → M.holds (part f now later)
  plain-made f now later p w r l h q = m.closed f now later (λ e. w) (m.of_plain f (size now) later p r l) h q

  plain-inside : (f : Form) (now later : Terms)
      → is_plain f ≡ true
      → reduced_parts f ≤ size now
      → later_parts f ≤ size later
      → M.all now
      → MadeLater M f later
      → M.covered (part f now later)
  plain-inside f now later p r l h q = m.inside f now later (m.of_plain f (size now) later p r l) h q

  leaf-made : (f : Form)
      → is_plain f ≡ true
      → waits f ≡ true
      → reduced_parts f ≤ 0
      → later_parts f ≤ 0
      → MadeLater M f end
      → M.holds (leaf f)
  leaf-made f p w r l q = plain-made f end end p w r l m.no_parts q

  -- ---- references and operators

  assigned-made : (t e : Term) → M.holds t → M.holds e → M.holds (assigned_to t e)
  assigned-made (done v) e h q = h
  assigned-made (standing v place) e h q = h
  assigned-made (part (read r) now later) e h q =
      let o = m.opened (read r) now later h in
      m.closed (assign r) (joined now (one e)) end (λ d. refl)
      (subst (λ (n : ℕ). M.form (assign r) n end) (sym (size-joined now (one e))) (m.of_assign r (size now) later o.0))
      (joined-made now (one e) o.1 (one-made e q)) m.no_parts
  assigned-made (part f now later) e h q = h

  compounded-made : (b : BinaryOperator) (t e : Term) → M.holds t → M.holds e → M.holds (compounded b t e)
  compounded-made b (done v) e h q = h
  compounded-made b (standing v place) e h q = h
  compounded-made b (part (read r) now later) e h q =
      let o = m.opened (read r) now later h in
      m.closed (compound b r) now (one e) (λ d. refl) (m.of_compound b r (size now) later e o.0) o.1 (one-made e q)
  compounded-made b (part f now later) e h q = h

  assignment-made : (o : Option BinaryOperator) (t e : Term) → M.holds t → M.holds e → M.holds (assignment o t e)
  assignment-made None t e h q = assigned-made t e h q
  assignment-made (Some b) t e h q = compounded-made b t e h q

  updated-made : (u : UpdateOperator) (b : Bool) (t : Term) → M.holds t → M.holds (updated u b t)
  updated-made u b (done v) h = h
  updated-made u b (standing v place) h = h
  updated-made u b (part (read r) now later) h =
      let o = m.opened (read r) now later h in
      m.closed (update u b r) now end (λ d. refl) (m.of_update u b r (size now) later o.0) o.1 m.no_parts
  updated-made u b (part f now later) h = h

  deleted-made : (t : Term) → M.holds t → M.holds (deleted t)
  deleted-made (done v) h = h
  deleted-made (standing v place) h = h
  deleted-made (part (read r) now later) h =
      let o = m.opened (read r) now later h in
      m.closed (delete r) now end (λ d. refl) (m.of_delete r (size now) later o.0) o.1 m.no_parts
  deleted-made (part f now later) h = h

  with_unary : (o : UnaryOperator) (t : Term) → M.holds t → M.holds (part (unary o) (one t) end)
  with_unary o t h = plain-made (unary o) (one t) end refl refl (omega arith) (omega arith) (one-made t h) m.no_parts

  type-made : (t : Term) → M.holds t → M.holds (type_of t)
  type-made (done v) h = with_unary unaries.Typeof (done v) h
  type-made (standing v place) h = with_unary unaries.Typeof (standing v place) h
  type-made (part (read (to_name n)) now later) h =
      leaf-made (typeof_name n) refl refl (omega arith) (omega arith) m.no_parts
  type-made (part f now later) h = with_unary unaries.Typeof (part f now later) h

  unary-made : (o : UnaryOperator) (t : Term) → M.holds t → M.holds (unary_term o t)
  unary-made unaries.Typeof t h = type-made t h
  unary-made unaries.Delete t h = deleted-made t h
  unary-made unaries.Void t h = with_unary unaries.Void t h
  unary-made unaries.Plus t h = with_unary unaries.Plus t h
  unary-made unaries.Minus t h = with_unary unaries.Minus t h
  unary-made unaries.BitwiseNot t h = with_unary unaries.BitwiseNot t h
  unary-made unaries.LogicalNot t h = with_unary unaries.LogicalNot t h

  with_binary : (o : BinaryOperator) (l r : Term) → M.holds l → M.holds r → M.holds (part (binary o) (more l (one r)) end)
  with_binary o l r h q =
      plain-made (binary o) (more l (one r)) end refl refl (omega arith) (omega arith) (two-made l r h q) m.no_parts

  binary-made : (o : BinaryOperator) (l r : Term) → M.holds l → M.holds r → M.holds (binary_term o l r)
  binary-made binaries.LogicalAnd l r h q =
      plain-made both (one l) (one r) refl refl (omega arith) (omega arith) (one-made l h) (one-made r q)
  binary-made binaries.LogicalOr l r h q =
      plain-made either (one l) (one r) refl refl (omega arith) (omega arith) (one-made l h) (one-made r q)
  binary-made o l r h q = with_binary o l r h q

  comma-made : (ts : Terms) → M.all ts → M.holds (comma_term ts)
  comma-made end h = nothing-made
  comma-made (more t ts) h =
      plain-made comma (one t) ts refl refl (omega arith) (omega arith) (one-made t (m.first_part t ts h))
      (m.other_parts t ts h)

  with_call : (place : Mark) (node : ℕ) (t : Term) (args : Terms)
      → M.holds t
      → M.all args
      → M.holds (part (call place node) (more (done values.Undefined) (more t args)) end)
  with_call place node t args h q =
      plain-made (call place node) (more (done values.Undefined) (more t args)) end refl refl (omega arith)
      (omega arith) (m.a_part (done values.Undefined) (more t args) nothing-made (m.a_part t args h q)) m.no_parts

  call-made : (place : Mark) (node : ℕ) (t : Term) (args : Terms)
      → M.holds t
      → M.all args
      → M.holds (call_term place node t args)
  call-made place node (done v) args h q = with_call place node (done v) args h q
  call-made place node (standing v spot) args h q = with_call place node (standing v spot) args h q
  call-made place node (part (read r) now later) args h q =
      let o = m.opened (read r) now later h in
      m.closed (call_of r place node) now args (λ d. refl) (m.of_callee r place node (size now) later args o.0) o.1 q
  call-made place node (part f now later) args h q = with_call place node (part f now later) args h q

  -- ---- lists of statements, and functions

  listed-rest : (b : MadeStatements) (c : LoweringContext)
      → ItemsHold M b
      → M.rest (more (part sequence (b.terms c) end) (b.functions c))
  listed-rest b c h =
      m.a_rest (part sequence (b.terms c) end) (b.functions c)
      (plain-inside sequence (b.terms c) end refl (omega arith) (omega arith) (h.terms_hold c) m.no_parts)
      (m.all_functions (b.functions c) (h.functions_hold c))

  function-made : (f : FunctionForm) (b : MadeStatements) (c : LoweringContext)
      → M.names f.names
      → ItemsHold M b
      → M.holds (part (function f) end (body_terms b c))
  function-made f b c n h =
      m.closed (function f) end (body_terms b c) (λ e. refl)
      (m.of_function f (part sequence (b.terms (within 0 c)) end) (b.functions (within 0 c)) n
      (h.functions_hold (within 0 c)))
      m.no_parts (listed-rest b (within 0 c) h)

  named-made : (node : ℕ) (n : Option (List ℕ)) (ps : List (List ℕ)) (b : MadeStatements) (c : LoweringContext)
      → ItemsHold M b
      → M.holds (function_term node n ps b c)
  named-made node (Some n) ps b c h =
      function-made (form_of node c.source n ps b.names false true) b c h.names_hold h
  named-made node None ps b c h =
      function-made (form_of node c.source c.name ps b.names false false) b c h.names_hold h

  arrow-made : (node : ℕ) (ps : List (List ℕ)) (b : MadeStatements) (c : LoweringContext)
      → ItemsHold M b
      → M.holds (part (function (form_of node c.source c.name ps b.names true false)) end (body_terms b c))
  arrow-made node ps b c h = function-made (form_of node c.source c.name ps b.names true false) b c h.names_hold h

  entered-made : (node : ℕ) (t : Term) → M.covered t → M.holds (part (enter node) end (one t))
  entered-made node t h =
      plain-made (enter node) end (one t) refl refl (omega arith) (omega arith) m.no_parts (m.a_rest t end h m.no_parts)

  returned-made : (e : MadeExpression) → MadeHolds M e → ItemsHold M (returned_body e)
  returned-made e h = record {
    names_hold = m.no_names;
    functions_hold = λ c. m.no_functions;
    terms_hold = λ c. one-made (part (enter e.node) end (one (part return_ (one (e.term (within e.node c))) end)))
        (entered-made e.node (part return_ (one (e.term (within e.node c))) end)
        (plain-inside return_ (one (e.term (within e.node c))) end refl (omega arith) (omega arith)
        (one-made (e.term (within e.node c)) (h (within e.node c))) m.no_parts));
  }

  and-made : (i : MadeStatement) (is : MadeStatements) → ItemHolds M i → ItemsHold M is → ItemsHold M (and_items i is)
  and-made i is h q = record {
    names_hold = m.more_names i.names is.names h.names_hold q.names_hold;
    functions_hold = λ c. m.more_functions (i.functions c) (is.functions c) (h.functions_hold c) (q.functions_hold c);
    terms_hold = λ c. m.a_part (i.term c) (is.terms c) (h.term_holds c) (q.terms_hold c);
  }

  block-made : (b : MadeStatements) (c : LoweringContext) → ItemsHold M b → M.holds (block_term b c)
  block-made b c h =
      m.closed (block b.names) end (more (part sequence (b.terms c) end) (b.functions c)) (λ e. refl)
      (m.of_block b.names (part sequence (b.terms c) end) (b.functions c) h.names_hold (h.functions_hold c)) m.no_parts
      (listed-rest b c h)

  pub script-made : (number : ℕ) (b : MadeStatements) → ItemsHold M b → M.holds (script_term number b)
  script-made number b h =
      let c : LoweringContext = record { source = script_source number; statement = 0; name = [] } in
      m.closed (script number b.names) end (more (part sequence (b.terms c) end) (b.functions c)) (λ e. refl)
      (m.of_script number b.names (part sequence (b.terms c) end) (b.functions c) h.names_hold (h.functions_hold c))
      m.no_parts (listed-rest b c h)

  -- ---- each kind of statement

  item-made : (term : LoweringContext → Term) → ((c : LoweringContext) → M.holds (term c)) → ItemHolds M (item term)
  item-made term h = record { names_hold = m.no_names; functions_hold = λ c. m.no_functions; term_holds = h }

  untouched-made : (node : ℕ) (term : LoweringContext → Term)
      → ((c : LoweringContext) → M.covered (term c))
      → ItemHolds M (untouched node term)
  untouched-made node term h =
      item-made (λ c. part (enter node) end (one (term (within node c))))
      (λ c. entered-made node (term (within node c)) (h (within node c)))

  initializer-made : (n : List ℕ) (e : Option MadeExpression) (c : LoweringContext)
      → OptionalHolds M e
      → M.all (initializer_terms n e c)
  initializer-made n None c h = m.no_parts
  initializer-made n (Some e) c h = one-made (e.term (naming n c)) (h (naming n c))

  declarators-made : (ds : List MadeDeclarator) (c : LoweringContext) → DeclaratorsHold M ds → M.all (declarators_terms ds c)
  declarators-made [] c h = m.no_parts
  declarators-made (d ∷ ds) c h =
      m.a_part (part (initialize d.name) (initializer_terms d.name d.initializer c) end) (declarators_terms ds c)
      (plain-made (initialize d.name) (initializer_terms d.name d.initializer c) end refl refl (omega arith)
      (omega arith) (initializer-made d.name d.initializer c h.0) m.no_parts)
      (declarators-made ds c h.1)

  declared-made : (ds : List MadeDeclarator) (c : LoweringContext) → DeclaratorsHold M ds → M.covered (declarators_term ds c)
  declared-made ds c h =
      plain-inside sequence (declarators_terms ds c) end refl (omega arith) (omega arith) (declarators-made ds c h)
      m.no_parts

  names-made : (constant : Bool) (ds : List MadeDeclarator) → M.names (declarators_names constant ds)
  names-made constant [] = m.no_names
  names-made constant (d ∷ ds) = m.a_name d.name constant (declarators_names constant ds) (names-made constant ds)

  lexical-made : (node : ℕ) (constant : Bool) (ds : List MadeDeclarator)
      → DeclaratorsHold M ds
      → ItemHolds M (lexical_item node constant ds)
  lexical-made node constant ds h = record {
    names_hold = names-made constant ds;
    functions_hold = λ c. m.no_functions;
    term_holds = λ c. entered-made node (declarators_term ds (within node c)) (declared-made ds (within node c) h);
  }

  optionals-made : (e : Option MadeExpression) (c : LoweringContext) → OptionalHolds M e → M.all (optional_terms e c)
  optionals-made None c h = m.no_parts
  optionals-made (Some e) c h = one-made (e.term (unnamed c)) (h (unnamed c))

  optional-made : (e : Option MadeExpression) (c : LoweringContext) (t : Term)
      → OptionalHolds M e
      → M.holds t
      → M.holds (optional_term e c t)
  optional-made None c t h q = q
  optional-made (Some e) c t h q = h (unnamed c)

  for_parts-made : (t u : Option MadeExpression) (s : MadeStatement) (c : LoweringContext)
      → OptionalHolds M t
      → OptionalHolds M u
      → ItemHolds M s
      → M.all (for_parts t u s c)
  for_parts-made t u s c h q i =
      three-made (optional_term t c (done (values.Bool true))) (optional_term u c nothing) (s.term c)
      (optional-made t c (done (values.Bool true)) h (m.of_value (values.Bool true) tt))
      (optional-made u c nothing q nothing-made) (i.term_holds c)

  choose-made : (node : ℕ) (e : MadeExpression) (s : MadeStatement) (other : LoweringContext → Term)
      → MadeHolds M e
      → ItemHolds M s
      → ((c : LoweringContext) → M.holds (other c))
      → ItemHolds M (untouched node (λ c. part choose (one (plain e c)) (more (s.term c) (one (other c)))))
  choose-made node e s other h i q =
      untouched-made node (λ c. part choose (one (plain e c)) (more (s.term c) (one (other c))))
      (λ c. plain-inside choose (one (plain e c)) (more (s.term c) (one (other c))) refl (omega arith) (omega arith)
      (one-made (plain e c) (h (unnamed c))) (two-made (s.term c) (other c) (i.term_holds c) (q c)))

  while-made : (node : ℕ) (e : MadeExpression) (s : MadeStatement)
      → MadeHolds M e
      → ItemHolds M s
      → ItemHolds M (while_item node e s)
  while-made node e s h i =
      untouched-made node (λ c. part (loop first None) end (loop_parts (plain e c) nothing (s.term c)))
      (λ c. plain-inside (loop first None) end (loop_parts (plain e c) nothing (s.term c)) refl (omega arith)
      (omega arith) m.no_parts
      (three-made (plain e c) nothing (s.term c) (h (unnamed c)) nothing-made (i.term_holds c)))

  do_while-made : (node : ℕ) (s : MadeStatement) (e : MadeExpression)
      → ItemHolds M s
      → MadeHolds M e
      → ItemHolds M (do_while_item node s e)
  do_while-made node s e i h =
      untouched-made node (λ c. part (loop doing None) end (loop_parts (plain e c) nothing (s.term c)))
      (λ c. plain-inside (loop doing None) end (loop_parts (plain e c) nothing (s.term c)) refl (omega arith)
      (omega arith) m.no_parts
      (three-made (plain e c) nothing (s.term c) (h (unnamed c)) nothing-made (i.term_holds c)))

  for-made : (node : ℕ) (i t u : Option MadeExpression) (s : MadeStatement)
      → OptionalHolds M i
      → OptionalHolds M t
      → OptionalHolds M u
      → ItemHolds M s
      → ItemHolds M (for_item node i t u s)
  for-made node i t u s a b d q =
      untouched-made node (λ c. part (loop first None) (optional_terms i c) (for_parts t u s c))
      (λ c. plain-inside (loop first None) (optional_terms i c) (for_parts t u s c) refl (omega arith) (omega arith)
      (optionals-made i c a) (for_parts-made t u s c b d q))

  for_lexical-made : (node : ℕ) (constant : Bool) (ds : List MadeDeclarator) (t u : Option MadeExpression) (s : MadeStatement)
      → DeclaratorsHold M ds
      → OptionalHolds M t
      → OptionalHolds M u
      → ItemHolds M s
      → ItemHolds M (for_lexical_item node constant ds t u s)
  for_lexical-made node constant ds t u s h a b q =
      item-made (λ c. part (enter_for node constant (declarators_names constant ds)) end
      (more (declarators_term ds (within node c)) (for_parts t u s (within node c))))
      (λ c. m.closed (enter_for node constant (declarators_names constant ds)) end
      (more (declarators_term ds (within node c)) (for_parts t u s (within node c))) (λ e. refl)
      (m.of_for node constant (declarators_names constant ds)
      (more (declarators_term ds (within node c)) (for_parts t u s (within node c))) (names-made constant ds)
      (omega arith))
      m.no_parts
      (m.a_rest (declarators_term ds (within node c)) (for_parts t u s (within node c))
      (declared-made ds (within node c) h) (for_parts-made t u s (within node c) a b q)))

  for_of-made : (node : ℕ) (constant : Bool) (n : List ℕ) (e : MadeExpression) (s : MadeStatement)
      → MadeHolds M e
      → ItemHolds M s
      → ItemHolds M (for_of_item node constant n e s)
  for_of-made node constant n e s h i =
      item-made (λ c. part (enter_for_of node (declared n constant)) end
      (more (plain e (within node c)) (one (s.term (within node c)))))
      (λ c. m.closed (enter_for_of node (declared n constant)) end
      (more (plain e (within node c)) (one (s.term (within node c)))) (λ d. refl)
      (m.of_for_of node n constant (more (plain e (within node c)) (one (s.term (within node c)))) (omega arith))
      m.no_parts
      (two-made (plain e (within node c)) (s.term (within node c)) (h (unnamed (within node c)))
      (i.term_holds (within node c))))

  return-made : (node : ℕ) (e : Option MadeExpression) → OptionalHolds M e → ItemHolds M (return_item node e)
  return-made node e h =
      untouched-made node (λ c. part return_ (optional_terms e c) end)
      (λ c. plain-inside return_ (optional_terms e c) end refl (omega arith) (omega arith) (optionals-made e c h)
      m.no_parts)

  -- a block is no value, so a `try` around one waits
  caught-made : (h : Option MadeCatch) (b : MadeStatements) (c : LoweringContext)
      → HandlerHolds M h
      → ItemsHold M b
      → M.holds (caught h (block_term b c) c)
  caught-made None b c q i = block-made b c i
  caught-made (Some h) b c q i =
      m.closed (catching h.name) (one (block_term b c)) (one (block_term h.body c)) (λ e. absurd cc)
      (m.of_plain (catching h.name) 1 (one (block_term h.body c)) refl (omega arith) (omega arith))
      (one-made (block_term b c) (block-made b c i)) (one-made (block_term h.body c) (block-made h.body c q))

  finally-made : (f : Option MadeStatements) (t : Term) (c : LoweringContext)
      → FinalizerHolds M f
      → M.holds t
      → M.covered (finally_term f t c)
  finally-made None t c q h = m.covers t h
  finally-made (Some f) t c q h =
      plain-inside finishing (one t) (one (block_term f c)) refl (omega arith) (omega arith) (one-made t h)
      (one-made (block_term f c) (block-made f c q))

  try-made : (node : ℕ) (b : MadeStatements) (h : Option MadeCatch) (f : Option MadeStatements)
      → ItemsHold M b
      → HandlerHolds M h
      → FinalizerHolds M f
      → ItemHolds M (try_item node b h f)
  try-made node b h f i j q =
      untouched-made node (λ c. finally_term f (caught h (block_term b c) c) c)
      (λ c. finally-made f (caught h (block_term b c) c) c q (caught-made h b c j i))

  function_item-made : (node : ℕ) (n : List ℕ) (ps : List (List ℕ)) (b : MadeStatements)
      → ItemsHold M b
      → ItemHolds M (function_item node n ps b)
  function_item-made node n ps b h = record {
    names_hold = m.a_name n false [] m.no_names;
    functions_hold = λ c. m.a_function (form_of node c.source n ps b.names false false) end (body_terms b c)
        (function-made (form_of node c.source n ps b.names false false) b c h.names_hold h);
    term_holds = λ c. nothing-made;
  }

  -- ---- object literals

  property-made : (x : MadeProperty) (ms : List Member) (c : LoweringContext) (p : Parts)
      → PropertyHolds M x
      → PartsHold M ms p
      → PartsHold M (member_of x ∷ ms) (property_parts x c p)
  property-made (value_property (fixed_key k) e) ms c p h q = record {
    fit = m.a_member k ms (e.term (naming k c)) p q.fit;
    now_hold = m.a_part (e.term (naming k c)) p.now (h.1 (naming k c)) q.now_hold;
    later_hold = q.later_hold;
  }
  property-made (value_property (computed_key k) e) ms c p h q = record {
    fit = m.a_computed ms (plain k c) (plain e c) p q.fit;
    now_hold = m.a_part (plain k c) (more (plain e c) p.now) (h.0 (unnamed c))
        (m.a_part (plain e c) p.now (h.1 (unnamed c)) q.now_hold);
    later_hold = q.later_hold;
  }
  property-made (method_property node (fixed_key k) ps b) ms c p h q =
      let i = h.1 in
      let t : Term = part (function (method_form node k ps b c)) end (body_terms b c) in
      record {
        fit = m.a_member k ms t p q.fit;
        now_hold = m.a_part t p.now (function-made (method_form node k ps b c) b c i.names_hold i) q.now_hold;
        later_hold = q.later_hold;
      }
  property-made (method_property node (computed_key k) ps b) ms c p h q =
      let i = h.1 in
      let f : FunctionForm = method_form node [] ps b c in
      record {
        fit = m.a_method ms (plain k c) f (body_terms b c) p q.fit;
        now_hold = one-made (plain k c) (h.0 (unnamed c));
        later_hold = m.a_part (part (method f) p.now (body_terms b c)) p.later
            (m.closed (method f) p.now (body_terms b c) (λ e. refl)
            (m.of_method f (size p.now) (part sequence (b.terms (within 0 c)) end) (b.functions (within 0 c))
            i.names_hold (i.functions_hold (within 0 c)))
            q.now_hold (listed-rest b (within 0 c) i))
            q.later_hold;
      }

  properties-made : (ps : List MadeProperty) (c : LoweringContext)
      → PropertiesHold M ps
      → PartsHold M (map member_of ps) (properties_parts ps c)
  properties-made [] c h = record { fit = m.no_members; now_hold = m.no_parts; later_hold = m.no_parts }
  properties-made (p ∷ ps) c h =
      property-made p (map member_of ps) c (properties_parts ps c) h.0 (properties-made ps c h.1)

  object-made : (ps : List MadeProperty) (c : LoweringContext)
      → PropertiesHold M ps
      → M.holds (object_term ps (properties_parts ps c))
  object-made ps c h =
      let p : Parts = properties_parts ps c in
      let q = properties-made ps c h in
      m.closed (object (map member_of ps)) p.now p.later (λ e. refl) (m.of_object (map member_of ps) p q.fit) q.now_hold
      q.later_hold

  -- ---- trees

  pub keeps-made : Keeps (relations_of M)
  keeps-made = record {
    of_this = λ node c. leaf-made this refl refl (omega arith) (omega arith) m.no_parts;
    of_name = λ node n c. leaf-made (read (to_name n)) refl refl (omega arith) (omega arith) m.no_parts;
    of_number = λ node v c. m.of_value _ tt;
    of_string = λ node us c. leaf-made (literal us) refl refl (omega arith) (omega arith) m.no_parts;
    of_boolean = λ node b c. m.of_value (values.Bool b) tt;
    of_null = λ node c. m.of_value values.Null tt;
    of_array = λ node es xs h c. plain-made array (plains es c) end refl refl (omega arith) (omega arith)
        (plains-made es c h) m.no_parts;
    of_object = λ node ps xs h c. object-made ps c h;
    of_function = λ node n ps body xs h c. named-made node n ps body c h;
    of_arrow = λ node ps e x h c. arrow-made node (parameter_names ps) (returned_body e) c (returned-made e h);
    of_arrow_block = λ node ps body xs h c. arrow-made node (parameter_names ps) body c h;
    of_parenthesized = λ node e x h. h;
    of_member = λ node e n x h c. plain-made (read (to_member n)) (one (plain e c)) end refl refl (omega arith) (omega arith)
        (one-made (plain e c) (h (unnamed c))) m.no_parts;
    of_index = λ node e k x y h i c. plain-made (read to_index) (more (plain e c) (one (plain k c))) end refl refl (omega arith)
        (omega arith) (two-made (plain e c) (plain k c) (h (unnamed c)) (i (unnamed c))) m.no_parts;
    of_call = λ node parentheses f es x xs h i c. call-made _ _ (plain f c) (plains es c) (h (unnamed c))
        (plains-made es c i);
    of_postfix = λ node o e x h c. updated-made o false (plain e c) (h (unnamed c));
    of_prefix = λ node o e x h c. updated-made o true (plain e c) (h (unnamed c));
    of_unary = λ node o e x h c. unary-made o (plain e c) (h (unnamed c));
    of_binary = λ node o l r x y h i c. binary-made o (plain l c) (plain r c) (h (unnamed c)) (i (unnamed c));
    of_conditional = λ node t a b x y z h i j c. plain-made choose (one (plain t c)) (more (plain a c) (one (plain b c)))
        refl refl (omega arith) (omega arith) (one-made (plain t c) (h (unnamed c)))
        (two-made (plain a c) (plain b c) (i (unnamed c)) (j (unnamed c)));
    of_assign = λ node o t e x y h i c. assignment-made _ (plain t c) (plain e c) (h (unnamed c)) (i (unnamed c));
    of_comma = λ node es xs h c. comma-made (plains es c) (plains-made es c h);
    of_no_expressions = tt;
    of_an_expression = λ e es x xs h i. (h, i);
    of_omitted = tt;
    of_present = λ e x h. h;
    of_word_key = λ us. tt;
    of_string_key = λ us. tt;
    of_number_key = λ v. tt;
    of_computed_key = λ e x h. h;
    of_shorthand = λ n. (tt, λ c. leaf-made (read (to_name n)) refl refl (omega arith) (omega arith) m.no_parts);
    of_value = λ k e x y h i. (h, i);
    of_method = λ node k ps body x xs h i. (h, i);
    of_no_properties = tt;
    of_a_property = λ p ps x xs h i. (h, i);
    of_declarator = λ n e x h. h;
    of_no_declarators = tt;
    of_a_declarator = λ d ds x xs h i. (h, i);
    of_block = λ b xs h. item-made (block_term b) (λ c. block-made b c h);
    of_lexical = λ node constant ds xs h. lexical-made node constant ds h;
    of_empty = item-made (λ c. done values.Undefined) (λ c. nothing-made);
    of_expression = λ node e x h. untouched-made node (plain e) (λ c. m.covers (plain e c) (h (unnamed c)));
    of_if_then = λ node e s x y h i. choose-made node e s (λ c. done values.Undefined) h i (λ c. nothing-made);
    of_if_else = λ node e s t x y z h i j. choose-made node e s t.term h i j.term_holds;
    of_do_while = λ node s e x y h i. do_while-made node s e h i;
    of_while = λ node e s x y h i. while-made node e s h i;
    of_for = λ node i t u s x y z w a b d h. for-made node i t u s a b d h;
    of_for_lexical = λ node constant ds t u s x y z w h a b i. for_lexical-made node constant ds t u s h a b i;
    of_for_of = λ node constant n e s x y h i. for_of-made node constant n e s h i;
    of_continue = λ node. untouched-made node (λ c. leaf continue_)
        (λ c. m.covers (leaf continue_) (leaf-made continue_ refl refl (omega arith) (omega arith) m.no_parts));
    of_break = λ node. untouched-made node (λ c. leaf break_)
        (λ c. m.covers (leaf break_) (leaf-made break_ refl refl (omega arith) (omega arith) m.no_parts));
    of_return = λ node e x h. return-made node e h;
    of_throw = λ node e x h. untouched-made node (λ c. part (throw_ node) (one (plain e c)) end)
        (λ c. plain-inside (throw_ node) (one (plain e c)) end refl (omega arith) (omega arith)
        (one-made (plain e c) (h (unnamed c))) m.no_parts);
    of_try = λ node b h f xs y z i j k. try-made node b h f i j k;
    of_debugger = λ node. item-made (λ c. part (enter_debugger node) end (one nothing))
        (λ c. plain-made (enter_debugger node) end (one nothing) refl refl (omega arith) (omega arith) m.no_parts
        (m.a_rest nothing end (m.covers nothing nothing-made) m.no_parts));
    of_declared_function = λ node n ps body xs h. function_item-made node n ps body h;
    of_no_catch = tt;
    of_catch = λ n b xs h. h;
    of_no_finally = tt;
    of_finally = λ b xs h. h;
    of_no_statements = record {
      names_hold = m.no_names;
      functions_hold = λ c. m.no_functions;
      terms_hold = λ c. m.no_parts;
    };
    of_a_statement = λ i is x xs h q. and-made i is h q;
  }
