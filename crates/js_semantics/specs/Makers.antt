-- The terms of trees: what each form of the grammar is before its first step. Parentheses, empty statements and
-- function declarations are dropped, and number, string and boolean literals and `null` are values.
use Rattle.std.specs.Prelude.{ℕ, Bool, true, false, List, [], ◌∷◌, ◌++◌, map, length, Option, Some, None, pos}
use Rattle.js_tree.specs.Trees as trees
use Rattle.js_tree.specs.Trees.{Parameters}
use Rattle.js_tree_operators.specs.declared.operator.UnaryOperator.{UnaryOperator}
use Rattle.js_tree_operators.specs.declared.operator.UnaryOperator.TheVariants as unaries
use Rattle.js_tree_operators.specs.declared.operator.UpdateOperator.{UpdateOperator}
use Rattle.js_tree_operators.specs.declared.operator.BinaryOperator.{BinaryOperator}
use Rattle.js_tree_operators.specs.declared.operator.BinaryOperator.TheVariants as binaries
use Rattle.js_tree_operators.specs.declared.operator.AssignmentOperator.{AssignmentOperator}
use Rattle.js_tree_operators.specs.declared.operator.AssignmentOperator.TheVariants as assigns
use Rattle.js_heap.specs.declared.value.Value.{Value}
use Rattle.js_heap.specs.declared.value.Value.TheVariants as values
use Rattle.js_heap.specs.declared.built_in.Code.{Code}
use Rattle.js_heap.specs.declared.built_in.Code.TheVariants as code
use Rattle.js_heap.specs.declared.cell.Binding.{Binding}
use Rattle.js_heap.specs.Cells.{declared}
use Rattle.js_semantics.specs.Terms.{Source, script_source, kept_source, Mark, start, before_end, to_name, to_member, to_index, FunctionForm, Member, keyed, computed, first, doing, Form, script, sequence, enter, enter_debugger, enter_for, enter_for_of, block, initialize, choose, both, either, loop, break_, continue_, return_, throw_, catching, finishing, this, read, typeof_name, literal, unary, binary, comma, function, array, object, method, assign, compound, update, delete, call, call_of, Term, done, part, Terms, end, more, one, joined}

-- where a part stands: its source, the node of its statement, and the name that it gives to a function without one
pub record LoweringContext : Type 0 where
  pub source : Source
  pub statement : ℕ
  pub name : List ℕ

-- an expression's node, the place of a call of it, where that isn't the call's `(`, and its term
pub record MadeExpression : Type 0 where
  pub node : ℕ
  pub last_word : Option Mark
  pub term : LoweringContext → Term

-- a statement's names and functions for the list that it stands in, and its term
pub record MadeStatement : Type 0 where
  pub names : List Binding
  pub functions : LoweringContext → Terms
  pub term : LoweringContext → Term

-- a list of statements
pub record MadeStatements : Type 0 where
  pub names : List Binding
  pub functions : LoweringContext → Terms
  pub terms : LoweringContext → Terms

-- the names of a list of parameters, or the one name of an arrow without parentheses
abbrev pub parameter_names : Parameters → List (List ℕ)
parameter_names (trees.one_name n) = n ∷ []
parameter_names (trees.name_list ns) = ns

-- a place that gives no name
abbrev pub unnamed : LoweringContext → LoweringContext
unnamed c = record c { name = [] }

-- a place that gives this name to a function without one (8.4)
abbrev pub naming : List ℕ → LoweringContext → LoweringContext
naming n c = record c { name = n }

-- a place in the statement of this node, which gives no name
abbrev pub within : ℕ → LoweringContext → LoweringContext
within node c = record c { statement = node; name = [] }

-- what is made of an expression, where a call of it has its place at the `(`
abbrev pub made : ℕ → (LoweringContext → Term) → MadeExpression
made node term = record { node = node; last_word = None; term = term }

-- a part of an expression, which gives no name
abbrev pub plain : MadeExpression → LoweringContext → Term
plain e c = e.term (unnamed c)

-- parts of an expression, from left to right
abbrev pub plains : List MadeExpression → LoweringContext → Terms
plains [] c = end
plains (e ∷ es) c = more (plain e c) (plains es c)

-- a form without parts
abbrev pub leaf : Form → Term
leaf f = part f end end

-- ---- values and names

-- a literal that is a value at once
abbrev pub value_made : ℕ → Value → MadeExpression
value_made node v = made node (λ c. done v)

-- a number literal (13.2.3)
abbrev pub number_made : ℕ → ℕ → MadeExpression
number_made node n = value_made node (values.Number (pos n))

-- a string literal, whose cell isn't made yet (13.2.3)
abbrev pub string_made : ℕ → List ℕ → MadeExpression
string_made node us = made node (λ c. leaf (literal us))

-- `this` (13.2.1)
abbrev pub this_made : ℕ → MadeExpression
this_made node = made node (λ c. leaf this)

-- a name (13.1.3); a call of it has its place there
abbrev pub name_made : ℕ → List ℕ → MadeExpression
name_made node n = record { node = node; last_word = Some (start node); term = λ c. leaf (read (to_name n)) }

-- an array literal (13.2.4)
abbrev pub array_made : ℕ → List MadeExpression → MadeExpression
array_made node es = made node (λ c. part array (plains es c) end)

-- parentheses are dropped, and pass a name on
abbrev pub parenthesized_made : ℕ → MadeExpression → MadeExpression
parenthesized_made node e = made node e.term

-- ---- references

-- `o.key` (13.3.2); a call of it has its place at the key
abbrev pub member_made : ℕ → MadeExpression → List ℕ → MadeExpression
member_made node o key =
    record {
      node = node;
      last_word = Some (before_end node (length key));
      term = λ c. part (read (to_member key))
          (one (plain o c)) end;
    }

-- `o[k]` (13.3.2)
abbrev pub index_made : ℕ → MadeExpression → MadeExpression → MadeExpression
index_made node o k = made node (λ c. part (read to_index) (more (plain o c) (one (plain k c))) end)

-- a target's reference and parts; every other term isn't a target
abbrev pub assigned_to : Term → Term → Term
assigned_to (part (read r) now later) e = part (assign r) (joined now (one e)) end
assigned_to t e = t

-- `target op= e` (13.15.2): the right side waits until the target's old value is read
abbrev pub compounded : BinaryOperator → Term → Term → Term
compounded o (part (read r) now later) e = part (compound o r) now (one e)
compounded o t e = t

-- `++` or `--` of a target, in front of it or behind it (13.4)
abbrev pub updated : UpdateOperator → Bool → Term → Term
updated o prefix (part (read r) now later) = part (update o prefix r) now end
updated o prefix t = t

-- `delete` of a reference (13.5.1.2)
abbrev pub deleted : Term → Term
deleted (part (read r) now later) = part (delete r) now end
deleted t = t

-- `typeof` (13.5.3.1), with a form of its own for a name, which may not be defined
abbrev pub type_of : Term → Term
type_of (part (read (to_name n)) now later) = leaf (typeof_name n)
type_of t = part (unary unaries.Typeof) (one t) end

-- the operator of a compound assignment; none of `=`
abbrev pub operator_of : AssignmentOperator → Option BinaryOperator
operator_of assigns.Assign = None
operator_of assigns.Add = Some binaries.Add
operator_of assigns.Subtract = Some binaries.Subtract
operator_of assigns.Multiply = Some binaries.Multiply
operator_of assigns.Divide = Some binaries.Divide
operator_of assigns.Remainder = Some binaries.Remainder
operator_of assigns.LeftShift = Some binaries.LeftShift
operator_of assigns.RightShift = Some binaries.RightShift
operator_of assigns.UnsignedRightShift = Some binaries.UnsignedRightShift
operator_of assigns.BitwiseAnd = Some binaries.BitwiseAnd
operator_of assigns.BitwiseOr = Some binaries.BitwiseOr
operator_of assigns.BitwiseXor = Some binaries.BitwiseXor

-- an assignment to a target: `=`, or a compound one with its operator
abbrev pub assignment : Option BinaryOperator → Term → Term → Term
assignment None target e = assigned_to target e
assignment (Some o) target e = compounded o target e

-- an assignment (13.15)
abbrev pub assign_made : ℕ → AssignmentOperator → MadeExpression → MadeExpression → MadeExpression
assign_made node o target e = made node (λ c. assignment (operator_of o) (plain target c) (plain e c))

-- `++` or `--` (13.4)
abbrev pub update_made : ℕ → UpdateOperator → Bool → MadeExpression → MadeExpression
update_made node o prefix e = made node (λ c. updated o prefix (plain e c))

-- ---- operators

-- an operator on one value (13.5)
abbrev pub unary_term : UnaryOperator → Term → Term
unary_term unaries.Typeof t = type_of t
unary_term unaries.Delete t = deleted t
unary_term o t = part (unary o) (one t) end

-- an expression with an operator in front (13.5)
abbrev pub unary_made : ℕ → UnaryOperator → MadeExpression → MadeExpression
unary_made node o e = made node (λ c. unary_term o (plain e c))

-- an operator on two values; `&&` and `||` keep their right side for later (13.13.1)
abbrev pub binary_term : BinaryOperator → Term → Term → Term
binary_term binaries.LogicalAnd l r = part both (one l) (one r)
binary_term binaries.LogicalOr l r = part either (one l) (one r)
binary_term o l r = part (binary o) (more l (one r)) end

-- an expression with an operator between two others (13.6 to 13.13)
abbrev pub binary_made : ℕ → BinaryOperator → MadeExpression → MadeExpression → MadeExpression
binary_made node o l r = made node (λ c. binary_term o (plain l c) (plain r c))

-- `t ? a : b`, which keeps both branches for later (13.14)
abbrev pub conditional_made : ℕ → MadeExpression → MadeExpression → MadeExpression → MadeExpression
conditional_made node t a b = made node (λ c. part choose (one (plain t c)) (more (plain a c) (one (plain b c))))

-- a comma list, which keeps what is behind its first expression for later (13.16)
abbrev pub comma_term : Terms → Term
comma_term (more t ts) = part comma (one t) ts
comma_term end = done values.Undefined

-- `a, b, c` (13.16)
abbrev pub comma_made : ℕ → List MadeExpression → MadeExpression
comma_made node es = made node (λ c. comma_term (plains es c))

-- ---- calls

-- a call's place: the callee's last word, else its `(`
abbrev pub place_or : Option Mark → ℕ → Mark
place_or (Some m) parentheses = m
place_or None parentheses = start parentheses

-- a callee that is a reference is read before its arguments
abbrev pub call_term : Mark → ℕ → Term → Terms → Term
call_term place node (part (read r) now later) args = part (call_of r place node) now args
call_term place node t args = part (call place node) (more (done values.Undefined) (more t args)) end

-- a call (13.3.6)
abbrev pub call_made : ℕ → MadeExpression → ℕ → List MadeExpression → MadeExpression
call_made node f parentheses es =
    made node (λ c. call_term (place_or f.last_word parentheses) c.statement (plain f c) (plains es c))

-- ---- functions

-- where the code of a node's function is found: in its source
abbrev pub code_of : Source → ℕ → Code
code_of (script_source number) node = code.Script number node
code_of (kept_source a) node = code.Kept a node

-- an empty list of statements
abbrev pub no_items : MadeStatements
no_items = record { names = []; functions = λ c. end; terms = λ c. end }

-- the body of a function and the functions that it declares, apart from where the function stands
abbrev pub body_terms : MadeStatements → LoweringContext → Terms
body_terms body c = more (part sequence (body.terms (within 0 c)) end) (body.functions (within 0 c))

-- a function with its own name, or that of the context
abbrev pub form_of : ℕ → Source → List ℕ → List (List ℕ) → List Binding → Bool → Bool → FunctionForm
form_of node source n ps names arrow named =
    record {
      code = code_of source node;
      node = node;
      name = n;
      parameters = ps;
      names = names;
      is_arrow = arrow;
      is_named = named;
    }

-- a function expression: with its own name, or with the one that its place gives
abbrev pub function_term : ℕ → Option (List ℕ) → List (List ℕ) → MadeStatements → LoweringContext → Term
function_term node (Some n) ps body c =
    part (function (form_of node c.source n ps body.names false true)) end (body_terms body c)
function_term node None ps body c =
    part (function (form_of node c.source c.name ps body.names false false)) end (body_terms body c)

-- a function expression (15.2.5)
abbrev pub function_made : ℕ → Option (List ℕ) → List (List ℕ) → MadeStatements → MadeExpression
function_made node n ps body = made node (λ c. function_term node n ps body c)

-- an arrow's expression body is untouched as a `return`
abbrev pub returned_body : MadeExpression → MadeStatements
returned_body e =
    record {
      names = [];
      functions = λ c. end;
      terms = λ c. one
          (part (enter e.node) end (one (part return_ (one (e.term (within e.node c))) end)));
    }

-- an arrow function (15.3.4)
abbrev pub arrow_made : ℕ → List (List ℕ) → MadeStatements → MadeExpression
arrow_made node ps body =
    made node (λ c. part (function (form_of node c.source c.name ps body.names true false)) end (body_terms body c))

-- ---- object literals

-- the key of a member in an object literal: a fixed one, or an expression in brackets
pub data PropertyKey : Type 0 where
  fixed_key : List ℕ → PropertyKey
  computed_key : MadeExpression → PropertyKey

-- a member: a value, or a method with its node, parameters and body
pub data MadeProperty : Type 0 where
  value_property : PropertyKey → MadeExpression → MadeProperty
  method_property : ℕ → PropertyKey → List (List ℕ) → MadeStatements → MadeProperty

-- what the form of an object literal keeps of a key
abbrev pub member_of_key : PropertyKey → Member
member_of_key (fixed_key k) = keyed k
member_of_key (computed_key e) = computed

-- what the form of an object literal keeps of a member
abbrev pub member_of : MadeProperty → Member
member_of (value_property k e) = member_of_key k
member_of (method_property node k ps body) = member_of_key k

-- the parts up to the key of the next method with a computed key, and that method with what follows it
pub record Parts : Type 0 where
  pub now : Terms
  pub later : Terms

-- a part in front of the parts behind it
abbrev pub before : Term → Parts → Parts
before t p = record p { now = more t p.now }

-- a method, with the name that its key gives
abbrev pub method_form : ℕ → List ℕ → List (List ℕ) → MadeStatements → LoweringContext → FunctionForm
method_form node n ps body c = form_of node c.source n ps body.names false false

-- the parts of a member in front of those of the members behind it
abbrev pub property_parts : MadeProperty → LoweringContext → Parts → Parts
property_parts (value_property (fixed_key k) e) c p = before (e.term (naming k c)) p
property_parts (value_property (computed_key k) e) c p = before (plain k c) (before (plain e c) p)
property_parts (method_property node (fixed_key k) ps body) c p =
    before (part (function (method_form node k ps body c)) end (body_terms body c)) p
property_parts (method_property node (computed_key k) ps body) c p =
    record {
      now = one (plain k c);
      later = more
          (part (method (method_form node [] ps body c)) p.now (body_terms body c)) p.later;
    }

-- the parts of some members
abbrev pub properties_parts : List MadeProperty → LoweringContext → Parts
properties_parts [] c = record { now = end; later = end }
properties_parts (m ∷ ms) c = property_parts m c (properties_parts ms c)

-- an object literal of these members, with their parts
abbrev pub object_term : List MadeProperty → Parts → Term
object_term ms p = part (object (map member_of ms)) p.now p.later

-- an object literal (13.2.5)
abbrev pub object_made : ℕ → List MadeProperty → MadeExpression
object_made node ms = made node (λ c. object_term ms (properties_parts ms c))

-- ---- statements

-- a statement that declares no function
abbrev pub no_functions : LoweringContext → Terms
no_functions c = end

-- a statement that declares nothing
abbrev pub item : (LoweringContext → Term) → MadeStatement
item term = record { names = []; functions = no_functions; term = term }

-- an untouched statement; its parts stand in it
abbrev pub untouched : ℕ → (LoweringContext → Term) → MadeStatement
untouched node term = item (λ c. part (enter node) end (one (term (within node c))))

-- a list of statements with one in front
abbrev pub and_items : MadeStatement → MadeStatements → MadeStatements
and_items i is =
    record {
      names = i.names ++ is.names;
      functions = λ c. joined (i.functions c) (is.functions c);
      terms = λ c. more
          (i.term c) (is.terms c);
    }

-- the list of some statements
abbrev pub items_of : List MadeStatement → MadeStatements
items_of [] = no_items
items_of (i ∷ is) = and_items i (items_of is)

-- an untouched block: its names, its statements, and the functions that it declares
abbrev pub block_term : MadeStatements → LoweringContext → Term
block_term b c = part (block b.names) end (more (part sequence (b.terms c) end) (b.functions c))

-- a block (14.2)
abbrev pub block_item : MadeStatements → MadeStatement
block_item b = item (block_term b)

-- an empty statement, which is dropped (14.4)
abbrev pub empty_item : MadeStatement
empty_item = item (λ c. done values.Undefined)

-- a statement of an expression (14.5)
abbrev pub expression_item : ℕ → MadeExpression → MadeStatement
expression_item node e = untouched node (plain e)

-- a declared name with its initialiser, if there is one
pub record MadeDeclarator : Type 0 where
  pub name : List ℕ
  pub initializer : Option MadeExpression

-- a declarator's initialiser, if there is one; it gives its name to a function without one
abbrev pub initializer_terms : List ℕ → Option MadeExpression → LoweringContext → Terms
initializer_terms n None c = end
initializer_terms n (Some e) c = one (e.term (naming n c))

-- some declarators, each with its initialiser
abbrev pub declarators_terms : List MadeDeclarator → LoweringContext → Terms
declarators_terms [] c = end
declarators_terms (d ∷ ds) c =
    more (part (initialize d.name) (initializer_terms d.name d.initializer c) end) (declarators_terms ds c)

-- the declarators of a declaration, one after another
abbrev pub declarators_term : List MadeDeclarator → LoweringContext → Term
declarators_term ds c = part sequence (declarators_terms ds c) end

-- the names that declarators declare
abbrev pub declarators_names : Bool → List MadeDeclarator → List Binding
declarators_names constant [] = []
declarators_names constant (d ∷ ds) = declared d.name constant ∷ declarators_names constant ds

-- a declaration by `let` or `const` (14.3.1)
abbrev pub lexical_item : ℕ → Bool → List MadeDeclarator → MadeStatement
lexical_item node constant ds = record (untouched node (declarators_term ds)) { names = declarators_names constant ds }

-- what stands behind `else`; undefined where there is no `else`
abbrev pub alternate_term : Option MadeStatement → LoweringContext → Term
alternate_term None c = done values.Undefined
alternate_term (Some i) c = i.term c

-- `if` (14.6)
abbrev pub if_item : ℕ → MadeExpression → MadeStatement → Option MadeStatement → MadeStatement
if_item node e s t = untouched node (λ c. part choose (one (plain e c)) (more (s.term c) (one (alternate_term t c))))

-- a loop's parts: test, update and body
abbrev pub loop_parts : Term → Term → Term → Terms
loop_parts t u b = more t (more u (one b))

-- an absent part
abbrev pub nothing : Term
nothing = done values.Undefined

-- `while` (14.7.3)
abbrev pub while_item : ℕ → MadeExpression → MadeStatement → MadeStatement
while_item node e s = untouched node (λ c. part (loop first None) end (loop_parts (plain e c) nothing (s.term c)))

-- `do … while`, which begins with its body (14.7.2)
abbrev pub do_while_item : ℕ → MadeStatement → MadeExpression → MadeStatement
do_while_item node s e = untouched node (λ c. part (loop doing None) end (loop_parts (plain e c) nothing (s.term c)))

-- an expression that may be absent, or what stands in its place
abbrev pub optional_term : Option MadeExpression → LoweringContext → Term → Term
optional_term None c other = other
optional_term (Some e) c other = plain e c

-- an expression that may be absent, as the only part
abbrev pub optional_terms : Option MadeExpression → LoweringContext → Terms
optional_terms None c = end
optional_terms (Some e) c = one (plain e c)

-- an absent test is true
abbrev pub for_parts : Option MadeExpression → Option MadeExpression → MadeStatement → LoweringContext → Terms
for_parts t u s c = loop_parts (optional_term t c (done (values.Bool true))) (optional_term u c nothing) (s.term c)

-- a `for` without a declaration (14.7.4)
abbrev pub for_item : ℕ → Option MadeExpression → Option MadeExpression → Option MadeExpression → MadeStatement → MadeStatement
for_item node i t u s = untouched node (λ c. part (loop first None) (optional_terms i c) (for_parts t u s c))

-- a `for` with `let` or `const` (14.7.4)
abbrev pub for_lexical_item : ℕ → Bool → List MadeDeclarator → Option MadeExpression → Option MadeExpression → MadeStatement → MadeStatement
for_lexical_item node constant ds t u s =
    item (λ c. part (enter_for node constant (declarators_names constant ds)) end
    (more (declarators_term ds (within node c)) (for_parts t u s (within node c))))

-- a `for .. of` (14.7.5)
abbrev pub for_of_item : ℕ → Bool → List ℕ → MadeExpression → MadeStatement → MadeStatement
for_of_item node constant n e s =
    item (λ c. part (enter_for_of node (declared n constant)) end
    (more (plain e (within node c)) (one (s.term (within node c)))))

-- `continue` (14.8)
abbrev pub continue_item : ℕ → MadeStatement
continue_item node = untouched node (λ c. leaf continue_)

-- `break` (14.9)
abbrev pub break_item : ℕ → MadeStatement
break_item node = untouched node (λ c. leaf break_)

-- `return`, with or without an expression (14.10)
abbrev pub return_item : ℕ → Option MadeExpression → MadeStatement
return_item node e = untouched node (λ c. part return_ (optional_terms e c) end)

-- `throw`, which keeps its node as the place of the raise (14.14)
abbrev pub throw_item : ℕ → MadeExpression → MadeStatement
throw_item node e = untouched node (λ c. part (throw_ node) (one (plain e c)) end)

-- a catch with the name that it may have
pub record MadeCatch : Type 0 where
  pub name : Option (List ℕ)
  pub body : MadeStatements

-- the block of a `try`, within its catch if there is one
abbrev pub caught : Option MadeCatch → Term → LoweringContext → Term
caught None t c = t
caught (Some h) t c = part (catching h.name) (one t) (one (block_term h.body c))

-- a `try` within its `finally`, if there is one
abbrev pub finally_term : Option MadeStatements → Term → LoweringContext → Term
finally_term None t c = t
finally_term (Some f) t c = part finishing (one t) (one (block_term f c))

-- `try`, its catch standing within its `finally` (14.15)
abbrev pub try_item : ℕ → MadeStatements → Option MadeCatch → Option MadeStatements → MadeStatement
try_item node b h f = untouched node (λ c. finally_term f (caught h (block_term b c) c) c)

-- `debugger` (14.16)
abbrev pub debugger_item : ℕ → MadeStatement
debugger_item node = item (λ c. part (enter_debugger node) end (one nothing))

-- a declared function is made with the scope of its list
abbrev pub function_item : ℕ → List ℕ → List (List ℕ) → MadeStatements → MadeStatement
function_item node n ps body = record {
  names = declared n false ∷ [];
  functions = λ c. one (part (function (form_of node c.source n ps body.names false false)) end (body_terms body c));
  term = λ c. done values.Undefined;
}

-- ---- scripts

-- a script of a number, with the names and functions of its list of statements
abbrev pub script_term : ℕ → MadeStatements → Term
script_term number body =
    let c : LoweringContext = record { source = script_source number; statement = 0; name = [] } in
    part (script number body.names) end (more (part sequence (body.terms c) end) (body.functions c))
