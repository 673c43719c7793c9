-- The terms of expressions wait for their first step as they stand: none is finished without one.
use Rattle.std.proofs.Common.{◌≡◌, ℕ, Bool, true, false, List, [], Option, None, Some, if◌then◌else◌, refl}
use Rattle.js_tree_operators.specs.declared.operator.UnaryOperator.{UnaryOperator}
use Rattle.js_tree_operators.specs.declared.operator.UnaryOperator.TheVariants as unaries
use Rattle.js_tree_operators.specs.declared.operator.UpdateOperator.{UpdateOperator}
use Rattle.js_tree_operators.specs.declared.operator.BinaryOperator.{BinaryOperator}
use Rattle.js_tree_operators.specs.declared.operator.BinaryOperator.TheVariants as binaries
use Rattle.js_heap.specs.declared.value.Addr.{Addr}
use Rattle.js_heap.specs.declared.value.Addr.TheVariants.{Base, Scratch}
use Rattle.js_tree.specs.declared.tree.Expr.{Expr}
use Rattle.js_semantics.specs.declared.form.Source.TheVariants.{Kept as kept_source}
use Rattle.js_semantics.specs.declared.form.Mark.{Mark}
use Rattle.js_semantics.specs.declared.form.Form.{Form}
use Rattle.js_semantics.specs.declared.form.Form.TheVariants.{Scripts as scripts, Sequence as sequence, Scoped as scoped, Loop as loop, BodyOf as body_of, Catching as catching, Finishing as finishing, Ending as ending, Read as read, Literal as literal}
use Rattle.js_semantics.specs.declared.form.Reference.TheVariants.{Name as to_name}
use Rattle.js_semantics.specs.Terms.{Term, done, standing, part, Terms, end, more, all_done, finished, settle}
use Rattle.js_semantics.specs.Makers.{LoweringContext, MadeExpression, MadeStatements, unnamed, assigned_to, compounded, updated, deleted, type_of, assignment, unary_term, binary_term, comma_term, call_term, function_term, plains}
use Rattle.js_semantics.specs.Sources.{expression_source}
use Rattle.js_semantics.specs.Evaluation.{kept_term, literals_placed, kept_tree}
use Rattle.js_semantics.specs.Run.{with_literals}
use Rattle.js_semantics.proofs.SourceFolds.{Relations, Keeps, expression-related}

-- ---- what waits whatever its parts are

abbrev always_waits : Form → Bool
always_waits scripts = false
always_waits sequence = false
always_waits (scoped a) = false
always_waits (loop stage scope) = false
always_waits (body_of b i) = false
always_waits (catching n) = false
always_waits finishing = false
always_waits (ending kept) = false
always_waits f = true

abbrev IsSettled : Term → Type 0
IsSettled (done v) = Unit {0}
IsSettled (standing v place) = Unit {0}
IsSettled (part f now later) = always_waits f ≡ true

finished_same : (f : Form) (now later : Terms) → always_waits f ≡ true → finished f now later ≡ part f now later
finished_same scripts now later h = absurd cc
finished_same sequence now later h = absurd cc
finished_same (scoped a) now later h = absurd cc
finished_same (loop stage scope) now later h = absurd cc
finished_same (body_of b i) now later h = absurd cc
finished_same (catching n) now later h = absurd cc
finished_same finishing now later h = absurd cc
finished_same (ending kept) now later h = absurd cc
finished_same f now later h = refl

either_same : (b : Bool) (x y : Term) → x ≡ y → (if b then x else y) ≡ y
either_same true x y e = e
either_same false x y e = refl

settle_same : (t : Term) → IsSettled t → settle t ≡ t
settle_same (done v) h = refl
settle_same (standing v place) h = refl
settle_same (part f now later) h =
    either_same (all_done now) (finished f now later) (part f now later) (finished_same f now later h)

placed_settled : (at : ℕ → Addr) (n : ℕ) (t : Term) → IsSettled t → IsSettled (with_literals at n t)
placed_settled at n (done v) h = tt
placed_settled at n (standing v place) h = tt
placed_settled at n (part (literal us) now later) h = tt
placed_settled at n (part f now later) h = h

-- ---- makers

abbrev MadeSettled : MadeExpression → Type 0
MadeSettled e = (c : LoweringContext) → IsSettled (e.term c)

assigned_settled : (t e : Term) → IsSettled t → IsSettled (assigned_to t e)
assigned_settled (done v) e h = h
assigned_settled (standing v place) e h = h
assigned_settled (part (read r) now later) e h = refl
assigned_settled (part f now later) e h = h

compounded_settled : (o : BinaryOperator) (t e : Term) → IsSettled t → IsSettled (compounded o t e)
compounded_settled o (done v) e h = h
compounded_settled o (standing v place) e h = h
compounded_settled o (part (read r) now later) e h = refl
compounded_settled o (part f now later) e h = h

assignment_settled : (o : Option BinaryOperator) (t e : Term) → IsSettled t → IsSettled (assignment o t e)
assignment_settled None t e h = assigned_settled t e h
assignment_settled (Some o) t e h = compounded_settled o t e h

updated_settled : (o : UpdateOperator) (b : Bool) (t : Term) → IsSettled t → IsSettled (updated o b t)
updated_settled o b (done v) h = h
updated_settled o b (standing v place) h = h
updated_settled o b (part (read r) now later) h = refl
updated_settled o b (part f now later) h = h

deleted_settled : (t : Term) → IsSettled t → IsSettled (deleted t)
deleted_settled (done v) h = h
deleted_settled (standing v place) h = h
deleted_settled (part (read r) now later) h = refl
deleted_settled (part f now later) h = h

type_settled : (t : Term) → IsSettled (type_of t)
type_settled (done v) = refl
type_settled (standing v place) = refl
type_settled (part (read (to_name n)) now later) = refl
type_settled (part f now later) = refl

unary_settled : (o : UnaryOperator) (t : Term) → IsSettled t → IsSettled (unary_term o t)
unary_settled unaries.Typeof t h = type_settled t
unary_settled unaries.Delete t h = deleted_settled t h
unary_settled o t h = refl

binary_settled : (o : BinaryOperator) (l r : Term) → IsSettled (binary_term o l r)
binary_settled binaries.LogicalAnd l r = refl
binary_settled binaries.LogicalOr l r = refl
binary_settled o l r = refl

comma_settled : (ts : Terms) → IsSettled (comma_term ts)
comma_settled end = tt
comma_settled (more t ts) = refl

call_settled : (m : Mark) (node : ℕ) (t : Term) (args : Terms) → IsSettled (call_term m node t args)
call_settled m node (done v) args = refl
call_settled m node (standing v place) args = refl
call_settled m node (part (read r) now later) args = refl
call_settled m node (part f now later) args = refl

function_settled : (node : ℕ) (n : Option (List ℕ)) (ps : List (List ℕ)) (b : MadeStatements) (c : LoweringContext)
    → IsSettled (function_term node n ps b c)
function_settled node (Some n) ps b c = refl
function_settled node None ps b c = refl

-- ---- trees

abbrev settling : Relations
settling = record {
  expression = λ e x. MadeSettled e;
  expressions = λ es xs. Unit {0};
  optional = λ e x. Unit {0};
  key = λ k x. Unit {0};
  property = λ m x. Unit {0};
  properties = λ ms xs. Unit {0};
  declarator = λ d x. Unit {0};
  declarators = λ ds xs. Unit {0};
  statement = λ i x. Unit {0};
  handler = λ h x. Unit {0};
  finalizer = λ f x. Unit {0};
  statements = λ is xs. Unit {0};
}

keeps_settled : Keeps settling
keeps_settled = record {
  of_this = λ node c. refl;
  of_name = λ node n c. refl;
  of_number = λ node v c. tt;
  of_string = λ node us c. refl;
  of_boolean = λ node b c. tt;
  of_null = λ node c. tt;
  of_array = λ node es xs h c. refl;
  of_object = λ node ps xs h c. refl;
  of_function = λ node n ps body xs h c. function_settled node n ps body c;
  of_arrow = λ node ps e x h c. refl;
  of_arrow_block = λ node ps body xs h c. refl;
  of_parenthesized = λ node e x h. h;
  of_member = λ node e n x h c. refl;
  of_index = λ node e k x y h i c. refl;
  of_call = λ node parentheses f es x xs h i c. call_settled _ _ _ _;
  of_postfix = λ node o e x h c. updated_settled o false _ (h (unnamed c));
  of_prefix = λ node o e x h c. updated_settled o true _ (h (unnamed c));
  of_unary = λ node o e x h c. unary_settled o _ (h (unnamed c));
  of_binary = λ node o l r x y h i c. binary_settled o _ _;
  of_conditional = λ node t a b x y z h i j c. refl;
  of_assign = λ node o t e x y h i c. assignment_settled _ _ _ (h (unnamed c));
  of_comma = λ node es xs h c. comma_settled (plains es c);
  of_no_expressions = tt;
  of_an_expression = λ e es x xs h i. tt;
  of_omitted = tt;
  of_present = λ e x h. tt;
  of_word_key = λ us. tt;
  of_string_key = λ us. tt;
  of_number_key = λ v. tt;
  of_computed_key = λ e x h. tt;
  of_shorthand = λ n. tt;
  of_value = λ k e x y h i. tt;
  of_method = λ node k ps body x xs h i. tt;
  of_no_properties = tt;
  of_a_property = λ m ms x xs h i. tt;
  of_declarator = λ n e x h. tt;
  of_no_declarators = tt;
  of_a_declarator = λ d ds x xs h i. tt;
  of_block = λ b xs h. tt;
  of_lexical = λ node constant ds xs h. tt;
  of_empty = tt;
  of_expression = λ node e x h. tt;
  of_if_then = λ node e s x y h i. tt;
  of_if_else = λ node e s t x y z h i j. tt;
  of_do_while = λ node s e x y h i. tt;
  of_while = λ node e s x y h i. tt;
  of_for = λ node i t u s x y z w a b d h. tt;
  of_for_lexical = λ node constant ds t u s x y z w h a b i. tt;
  of_for_of = λ node constant n e s x y h i. tt;
  of_continue = λ node. tt;
  of_break = λ node. tt;
  of_return = λ node e x h. tt;
  of_throw = λ node e x h. tt;
  of_try = λ node b h f xs y z i j k. tt;
  of_debugger = λ node. tt;
  of_declared_function = λ node n ps body xs h. tt;
  of_no_catch = tt;
  of_catch = λ n b xs h. tt;
  of_no_finally = tt;
  of_finally = λ b xs h. tt;
  of_no_statements = tt;
  of_a_statement = λ i is x xs h k. tt;
}

kept_settled : (at : Addr) (t : Term) → IsSettled t → IsSettled (literals_placed at t)
kept_settled (Scratch n) t h = placed_settled (λ i. Scratch i) _ t h
kept_settled (Base n) t h = h

pub kept-settled : (at : Addr) (e : Expr)
    → settle (kept_tree at (expression_source e)) ≡ kept_tree at (expression_source e)
kept-settled at e =
    let c : LoweringContext = record { source = kept_source at; statement = 0; name = [] } in
    let h : MadeSettled (expression_source e) = expression-related settling keeps_settled e in
    settle_same (kept_tree at (expression_source e)) (kept_settled at (kept_term at (expression_source e)) (h c))
