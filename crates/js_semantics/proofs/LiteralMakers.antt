-- What the makers give has the string literals of its tree, counted by any measure.
use Rattle.std.proofs.Common.{◌≡◌, ℕ, ◌+◌, Bool, true, false, List, [], ◌∷◌, ◌++◌, if◌then◌else◌, Option, None, Some, sum_by, refl, sym, ap, ◌∙◌, arith}
use Rattle.std.proofs.lemmas.List.Sums.{sum_by-cons}
use Rattle.js_tree_operators.specs.declared.operator.UnaryOperator.{UnaryOperator}
use Rattle.js_tree_operators.specs.declared.operator.UnaryOperator.TheVariants as unaries
use Rattle.js_tree_operators.specs.declared.operator.UpdateOperator.{UpdateOperator}
use Rattle.js_tree_operators.specs.declared.operator.BinaryOperator.{BinaryOperator}
use Rattle.js_tree_operators.specs.declared.operator.BinaryOperator.TheVariants as binaries
use Rattle.js_heap.specs.declared.value.Value.{Value}
use Rattle.js_heap.specs.declared.value.Value.TheVariants as values
use Rattle.js_tree.specs.declared.tree.Expr.{Expr}
use Rattle.js_tree.specs.Trees as trees
use Rattle.js_tree.specs.Trees.{Expression, Statements}
use Rattle.js_tree.specs.Views.{expression_view}
use Rattle.js_semantics.specs.Terms.{Mark, to_name, read, literal, Term, done, standing, part, Terms, end, more, one, joined}
use Rattle.js_semantics.specs.Run.{literals, literals_of}
use Rattle.js_semantics.specs.Makers.{LoweringContext, MadeExpression, MadeStatements, unnamed, naming, within, plain, plains, assigned_to, compounded, updated, deleted, type_of, operator_of, assignment, unary_term, binary_term, comma_term, call_term, function_term, PropertyKey, fixed_key, computed_key, value_property, method_property, Parts, property_parts, properties_parts, block_term, initializer_terms, declarators_terms, optional_term, optional_terms, MadeCatch, caught, finally_term}
use Rattle.js_semantics.specs.Sources.{expression_source}
use Rattle.js_semantics.specs.Literals.{expression_literals, expressions_literals, optional_literals, key_literals, property_literals, properties_literals, declarator_literals, declarators_literals, statement_literals, declared_literals, handler_literals, finalizer_literals, statements_literals}
use Rattle.js_tree.specs.Targets.{is_target}
use Rattle.js_semantics.proofs.SourceFolds.{Relations, Keeps, expression-related}

-- ---- the sum of a measure over some literals, and over those of a term

abbrev pub total : (List ℕ → ℕ) → List (List ℕ) → ℕ
total m [] = 0
total m (us ∷ rest) = m us + total m rest

pub total-sum : (m : List ℕ → ℕ) (ts : List (List ℕ)) → total m ts ≡ sum_by m ts
total-sum m [] = refl
total-sum m (us ∷ rest) = ap (λ n. m us + n) (total-sum m rest) ∙ sym (sum_by-cons m us rest)

total-append : (m : List ℕ → ℕ) (ts us : List (List ℕ)) → total m (ts ++ us) ≡ total m ts + total m us
total-append m [] us = omega arith
total-append m (t ∷ ts) us = omega (arith, total-append m ts us)

total-three : (m : List ℕ → ℕ) (ts us vs : List (List ℕ))
    → total m (ts ++ us ++ vs) ≡ total m ts + total m us + total m vs
total-three m ts us vs = omega (arith, total-append m (ts ++ us) vs, total-append m ts us)

total-four : (m : List ℕ → ℕ) (ts us vs ws : List (List ℕ))
    → total m (ts ++ us ++ vs ++ ws) ≡ total m ts + total m us + total m vs + total m ws
total-four m ts us vs ws = omega (arith, total-append m (ts ++ us ++ vs) ws, total-three m ts us vs)

total-if : (m : List ℕ → ℕ) (b : Bool) (ts : List (List ℕ))
    → total m (if b then ts else []) ≡ (if b then total m ts else 0)
total-if m true ts = refl
total-if m false ts = refl

abbrev mutual
  amount : (List ℕ → ℕ) → Term → ℕ
  amount m (done v) = 0
  amount m (standing v s) = 0
  amount m (part (literal us) now later) = m us
  amount m (part f now later) = amounts m now + amounts m later

  amounts : (List ℕ → ℕ) → Terms → ℕ
  amounts m end = 0
  amounts m (more t ts) = amount m t + amounts m ts

plus_zero : (n : ℕ) → n + 0 ≡ n
plus_zero n = omega arith

both-total : (m : List ℕ → ℕ) (ts us : List (List ℕ)) (n k : ℕ)
    → total m ts ≡ n
    → total m us ≡ k
    → total m (ts ++ us) ≡ n + k
both-total m ts us n k h i = omega (arith, total-append m ts us, h, i)

mutual
  amount-total : (m : List ℕ → ℕ) (t : Term) → total m (literals t) ≡ amount m t
  amount-total m (done v) = refl
  amount-total m (standing v s) = refl
  amount-total m (part (literal us) now later) = plus_zero (m us)
  amount-total m (part f now later) =
      both-total m (literals_of now) (literals_of later) (amounts m now) (amounts m later) (amounts-total m now)
      (amounts-total m later)

  amounts-total : (m : List ℕ → ℕ) (ts : Terms) → total m (literals_of ts) ≡ amounts m ts
  amounts-total m end = refl
  amounts-total m (more t ts) =
      both-total m (literals t) (literals_of ts) (amount m t) (amounts m ts) (amount-total m t) (amounts-total m ts)

amounts-joined : (m : List ℕ → ℕ) (ts us : Terms) → amounts m (joined ts us) ≡ amounts m ts + amounts m us
amounts-joined m end us = omega arith
amounts-joined m (more t ts) us = omega (arith, amounts-joined m ts us)

-- ---- references

-- a term that a target is made of
abbrev is_read : Term → Bool
is_read (part (read r) now later) = true
is_read _ = false

-- a name has no parts, a property no kept ones
abbrev IsBare : Term → Type 0
IsBare (part (read (to_name n)) now later) = (now ≡ end) × (later ≡ end)
IsBare (part (read r) now later) = later ≡ end
IsBare _ = Unit {0}

-- a term of a tree, with the same literals; it is a reference where the tree is a target
record Counts (m : List ℕ → ℕ) (t : Term) (x : Expression) : Type 0 where
  counted : amount m t ≡ total m (expression_literals x)
  reads : is_read t ≡ is_target x
  bare : IsBare t

bare_unless_read : (t : Term) → is_read t ≡ false → IsBare t
bare_unless_read (done v) e = tt
bare_unless_read (standing v s) e = tt
bare_unless_read (part (read r) now later) e = absurd cc
bare_unless_read (part f now later) e = tt

-- what becomes of a term that is no reference
record Becomes (m : List ℕ → ℕ) (t : Term) (n : ℕ) : Type 0 where
  amounts_to : amount m t ≡ n
  no_read : is_read t ≡ false

counts-value : (m : List ℕ → ℕ) (t : Term) (n : ℕ) (x : Expression)
    → Becomes m t n
    → n ≡ total m (expression_literals x)
    → false ≡ is_target x
    → Counts m t x
counts-value m t n x b e f =
    record { counted = b.amounts_to ∙ e; reads = b.no_read ∙ f; bare = bare_unless_read t b.no_read }

abbrev chosen : Bool → ℕ → ℕ
chosen b n = if b then n else 0

assigned-becomes : (m : List ℕ → ℕ) (t e : Term)
    → IsBare t
    → Becomes m (assigned_to t e) (amount m t + chosen (is_read t) (amount m e))
assigned-becomes m (done v) e h = record { amounts_to = refl; no_read = refl }
assigned-becomes m (standing v s) e h = record { amounts_to = refl; no_read = refl }
assigned-becomes m (part (read (to_name n)) now later) e h =
    record { amounts_to = omega (arith, amounts-joined m now (one e), ap (amounts m) h.1); no_read = refl }
assigned-becomes m (part (read r) now later) e h =
    record { amounts_to = omega (arith, amounts-joined m now (one e), ap (amounts m) h); no_read = refl }
assigned-becomes m (part (literal us) now later) e h = record { amounts_to = sym (plus_zero (m us)); no_read = refl }
assigned-becomes m (part f now later) e h =
    record { amounts_to = sym (plus_zero (amounts m now + amounts m later)); no_read = refl }

compounded-becomes : (m : List ℕ → ℕ) (o : BinaryOperator) (t e : Term)
    → IsBare t
    → Becomes m (compounded o t e) (amount m t + chosen (is_read t) (amount m e))
compounded-becomes m o (done v) e h = record { amounts_to = refl; no_read = refl }
compounded-becomes m o (standing v s) e h = record { amounts_to = refl; no_read = refl }
compounded-becomes m o (part (read (to_name n)) now later) e h =
    record { amounts_to = omega (arith, ap (amounts m) h.1); no_read = refl }
compounded-becomes m o (part (read r) now later) e h =
    record { amounts_to = omega (arith, ap (amounts m) h); no_read = refl }
compounded-becomes m o (part (literal us) now later) e h =
    record { amounts_to = sym (plus_zero (m us)); no_read = refl }
compounded-becomes m o (part f now later) e h =
    record { amounts_to = sym (plus_zero (amounts m now + amounts m later)); no_read = refl }

assignment-becomes : (m : List ℕ → ℕ) (o : Option BinaryOperator) (t e : Term)
    → IsBare t
    → Becomes m (assignment o t e) (amount m t + chosen (is_read t) (amount m e))
assignment-becomes m None t e h = assigned-becomes m t e h
assignment-becomes m (Some o) t e h = compounded-becomes m o t e h

updated-becomes : (m : List ℕ → ℕ) (o : UpdateOperator) (b : Bool) (t : Term)
    → IsBare t
    → Becomes m (updated o b t) (amount m t)
updated-becomes m o b (done v) h = record { amounts_to = refl; no_read = refl }
updated-becomes m o b (standing v s) h = record { amounts_to = refl; no_read = refl }
updated-becomes m o b (part (read (to_name n)) now later) h =
    record { amounts_to = ap (λ ts. amounts m now + amounts m ts) (sym h.1); no_read = refl }
updated-becomes m o b (part (read r) now later) h =
    record { amounts_to = ap (λ ts. amounts m now + amounts m ts) (sym h); no_read = refl }
updated-becomes m o b (part f now later) h = record { amounts_to = refl; no_read = refl }

deleted-becomes : (m : List ℕ → ℕ) (t : Term) → IsBare t → Becomes m (deleted t) (amount m t)
deleted-becomes m (done v) h = record { amounts_to = refl; no_read = refl }
deleted-becomes m (standing v s) h = record { amounts_to = refl; no_read = refl }
deleted-becomes m (part (read (to_name n)) now later) h =
    record { amounts_to = ap (λ ts. amounts m now + amounts m ts) (sym h.1); no_read = refl }
deleted-becomes m (part (read r) now later) h =
    record { amounts_to = ap (λ ts. amounts m now + amounts m ts) (sym h); no_read = refl }
deleted-becomes m (part f now later) h = record { amounts_to = refl; no_read = refl }

-- a form with one part
alone : (n : ℕ) → n + 0 + 0 ≡ n
alone n = omega arith

type-becomes : (m : List ℕ → ℕ) (t : Term) → IsBare t → Becomes m (type_of t) (amount m t)
type-becomes m (done v) h = record { amounts_to = refl; no_read = refl }
type-becomes m (standing v s) h = record { amounts_to = refl; no_read = refl }
type-becomes m (part (read (to_name n)) now later) h =
    record { amounts_to = omega (arith, ap (amounts m) h.0, ap (amounts m) h.1); no_read = refl }
type-becomes m (part (literal us) now later) h = record { amounts_to = alone (m us); no_read = refl }
type-becomes m (part f now later) h = record { amounts_to = alone (amounts m now + amounts m later); no_read = refl }

unary-becomes : (m : List ℕ → ℕ) (o : UnaryOperator) (t : Term) → IsBare t → Becomes m (unary_term o t) (amount m t)
unary-becomes m unaries.Typeof t h = type-becomes m t h
unary-becomes m unaries.Delete t h = deleted-becomes m t h
unary-becomes m unaries.Void t h = record { amounts_to = alone (amount m t); no_read = refl }
unary-becomes m unaries.Plus t h = record { amounts_to = alone (amount m t); no_read = refl }
unary-becomes m unaries.Minus t h = record { amounts_to = alone (amount m t); no_read = refl }
unary-becomes m unaries.BitwiseNot t h = record { amounts_to = alone (amount m t); no_read = refl }
unary-becomes m unaries.LogicalNot t h = record { amounts_to = alone (amount m t); no_read = refl }

binary-becomes : (m : List ℕ → ℕ) (o : BinaryOperator) (l r : Term)
    → Becomes m (binary_term o l r) (amount m l + amount m r)
binary-becomes m binaries.LogicalAnd l r = record { amounts_to = omega arith; no_read = refl }
binary-becomes m binaries.LogicalOr l r = record { amounts_to = omega arith; no_read = refl }
binary-becomes m o l r = record { amounts_to = omega arith; no_read = refl }

comma-becomes : (m : List ℕ → ℕ) (ts : Terms) → Becomes m (comma_term ts) (amounts m ts)
comma-becomes m end = record { amounts_to = refl; no_read = refl }
comma-becomes m (more t ts) = record { amounts_to = omega arith; no_read = refl }

-- a callee that is no reference is a part of the call
called : (n k : ℕ) → 0 + (n + k) + 0 ≡ n + k
called n k = omega arith

call-becomes : (m : List ℕ → ℕ) (place : Mark) (node : ℕ) (t : Term) (args : Terms)
    → IsBare t
    → Becomes m (call_term place node t args) (amount m t + amounts m args)
call-becomes m place node (done v) args h = record { amounts_to = called 0 (amounts m args); no_read = refl }
call-becomes m place node (standing v s) args h = record { amounts_to = called 0 (amounts m args); no_read = refl }
call-becomes m place node (part (read (to_name n)) now later) args h =
    record { amounts_to = omega (arith, ap (amounts m) h.1); no_read = refl }
call-becomes m place node (part (read r) now later) args h =
    record { amounts_to = omega (arith, ap (amounts m) h); no_read = refl }
call-becomes m place node (part (literal us) now later) args h =
    record { amounts_to = called (m us) (amounts m args); no_read = refl }
call-becomes m place node (part f now later) args h =
    record { amounts_to = called (amounts m now + amounts m later) (amounts m args); no_read = refl }

-- ---- what is made of the parts of a form

abbrev made_amount : (List ℕ → ℕ) → Option MadeExpression → LoweringContext → ℕ
made_amount m None c = 0
made_amount m (Some e) c = amount m (e.term c)

abbrev key_amount : (List ℕ → ℕ) → PropertyKey → LoweringContext → ℕ
key_amount m (fixed_key k) c = 0
key_amount m (computed_key e) c = amount m (e.term c)

abbrev items_amount : (List ℕ → ℕ) → MadeStatements → LoweringContext → ℕ
items_amount m is c = amounts m (is.terms c) + amounts m (is.functions c)

abbrev handler_amount : (List ℕ → ℕ) → Option MadeCatch → LoweringContext → ℕ
handler_amount m None c = 0
handler_amount m (Some h) c = items_amount m h.body c

abbrev finalizer_amount : (List ℕ → ℕ) → Option MadeStatements → LoweringContext → ℕ
finalizer_amount m None c = 0
finalizer_amount m (Some f) c = items_amount m f c

abbrev parts_amount : (List ℕ → ℕ) → Parts → ℕ
parts_amount m p = amounts m p.now + amounts m p.later

abbrev counting : (List ℕ → ℕ) → Relations
counting m = record {
  expression = λ e x. (c : LoweringContext) → Counts m (e.term c) x;
  expressions = λ es xs. (c : LoweringContext) → amounts m (plains es c) ≡ total m (expressions_literals xs);
  optional = λ e x. (c : LoweringContext) → made_amount m e c ≡ total m (optional_literals x);
  key = λ k x. (c : LoweringContext) → key_amount m k c ≡ total m (key_literals x);
  property =
      λ e x. (c : LoweringContext) (p : Parts)
      → parts_amount m (property_parts e c p) ≡ total m (property_literals x) + parts_amount m p;
  properties = λ es xs. (c : LoweringContext) → parts_amount m (properties_parts es c) ≡ total m (properties_literals xs);
  declarator =
      λ d x. (c : LoweringContext) → amounts m (initializer_terms d.name d.initializer c) ≡ total m (declarator_literals x);
  declarators = λ ds xs. (c : LoweringContext) → amounts m (declarators_terms ds c) ≡ total m (declarators_literals xs);
  statement =
      λ i x. ((c : LoweringContext) → amount m (i.term c) ≡ total m (statement_literals x))
      × ((c : LoweringContext) → amounts m (i.functions c) ≡ total m (declared_literals x));
  handler = λ h x. (c : LoweringContext) → handler_amount m h c ≡ total m (handler_literals x);
  finalizer = λ f x. (c : LoweringContext) → finalizer_amount m f c ≡ total m (finalizer_literals x);
  statements = λ is xs. (c : LoweringContext) → items_amount m is c ≡ total m (statements_literals xs);
}

function-amount : (m : List ℕ → ℕ) (node : ℕ) (n : Option (List ℕ)) (ps : List (List ℕ)) (body : MadeStatements) (c : LoweringContext)
    → Becomes m (function_term node n ps body c) (items_amount m body (within 0 c))
function-amount m node (Some n) ps body c = record { amounts_to = omega arith; no_read = refl }
function-amount m node None ps body c = record { amounts_to = omega arith; no_read = refl }

initializer-amount : (m : List ℕ → ℕ) (n : List ℕ) (e : Option MadeExpression) (c : LoweringContext)
    → amounts m (initializer_terms n e c) ≡ made_amount m e (naming n c)
initializer-amount m n None c = refl
initializer-amount m n (Some e) c = plus_zero (amount m (e.term (naming n c)))

optional-amount : (m : List ℕ → ℕ) (e : Option MadeExpression) (c : LoweringContext) (v : Value)
    → amount m (optional_term e c (done v)) ≡ made_amount m e (unnamed c)
optional-amount m None c v = refl
optional-amount m (Some e) c v = refl

optional-amounts : (m : List ℕ → ℕ) (e : Option MadeExpression) (c : LoweringContext)
    → amounts m (optional_terms e c) ≡ made_amount m e (unnamed c)
optional-amounts m None c = refl
optional-amounts m (Some e) c = plus_zero (amount m (e.term (unnamed c)))

caught-amount : (m : List ℕ → ℕ) (h : Option MadeCatch) (t : Term) (c : LoweringContext)
    → amount m (caught h t c) ≡ amount m t + handler_amount m h c
caught-amount m None t c = omega arith
caught-amount m (Some h) t c = omega arith

finally-amount : (m : List ℕ → ℕ) (f : Option MadeStatements) (t : Term) (c : LoweringContext)
    → amount m (finally_term f t c) ≡ amount m t + finalizer_amount m f c
finally-amount m None t c = omega arith
finally-amount m (Some f) t c = omega arith

try-amount : (m : List ℕ → ℕ) (b : MadeStatements) (h : Option MadeCatch) (f : Option MadeStatements) (c : LoweringContext)
    → amount m (finally_term f (caught h (block_term b c) c) c)
    ≡ items_amount m b c + handler_amount m h c + finalizer_amount m f c
try-amount m b h f c =
    omega (arith, finally-amount m f (caught h (block_term b c) c) c, caught-amount m h (block_term b c) c)

-- the parts before a key, and the key with its value or method
value-amount : (m : List ℕ → ℕ) (k : PropertyKey) (e : MadeExpression) (x : trees.Key) (y : Expression)
    → (counting m).key k x
    → (counting m).expression e y
    → (counting m).property (value_property k e) (trees.value x y)
value-amount m (fixed_key k) e x y h i c p =
    let j = i (naming k c) in omega (arith, h c, j.counted, total-append m (key_literals x) (expression_literals y))
value-amount m (computed_key k) e x y h i c p =
    let j = i (unnamed c) in
    omega (arith, h (unnamed c), j.counted, total-append m (key_literals x) (expression_literals y))

method-amount : (m : List ℕ → ℕ) (node : ℕ) (k : PropertyKey) (ps : List (List ℕ)) (body : MadeStatements) (x : trees.Key)
    (xs : Statements)
    → (counting m).key k x
    → (counting m).statements body xs
    → (counting m).property (method_property node k ps body) (trees.method x ps xs)
method-amount m node (fixed_key k) ps body x xs h i c p =
    omega (arith, h c, i (within 0 c), total-append m (key_literals x) (statements_literals xs))
method-amount m node (computed_key k) ps body x xs h i c p =
    omega (arith, h (unnamed c), i (within 0 c), total-append m (key_literals x) (statements_literals xs))

assign-counts : (m : List ℕ → ℕ) (o : Option BinaryOperator) (p : _) (t e : Term) (x y : Expression)
    → Counts m t x
    → Counts m e y
    → Counts m (assignment o t e) (trees.assign p x y)
assign-counts m o p t e x y h i =
    let r : chosen (is_read t) (amount m e) ≡ total m (if is_target x then expression_literals y else []) = ap
    (λ b. chosen b (amount m e)) h.reads
    ∙ ap (λ n. chosen (is_target x) n) i.counted
    ∙ sym (total-if m (is_target x) (expression_literals y)) in
    counts-value m (assignment o t e) (amount m t + chosen (is_read t) (amount m e)) (trees.assign p x y)
    (assignment-becomes m o t e h.bare)
    (omega (
      arith,
      r,
      h.counted,
      total-append m (expression_literals x) (if is_target x then expression_literals y else []),
    ))
    refl

-- ---- trees

-- a form that is no reference
form-counts : (m : List ℕ → ℕ) (t : Term) (x : Expression)
    → amount m t ≡ total m (expression_literals x)
    → is_read t ≡ false
    → false ≡ is_target x
    → Counts m t x
form-counts m t x e r f = record { counted = e; reads = r ∙ f; bare = bare_unless_read t r }

keeps-counting : (m : List ℕ → ℕ) → Keeps (counting m)
keeps-counting m = record {
  of_this = λ node c. form-counts m _ trees.this refl refl refl;
  of_name = λ node n c. record { counted = refl; reads = refl; bare = (refl, refl) };
  of_number = λ node v c. form-counts m _ (trees.number v) refl refl refl;
  of_string = λ node us c. form-counts m _ (trees.string us) (sym (plus_zero (m us))) refl refl;
  of_boolean = λ node b c. form-counts m _ (trees.boolean b) refl refl refl;
  of_null = λ node c. form-counts m _ trees.null refl refl refl;
  of_array = λ node es xs h c. form-counts m _ (trees.array xs) (omega (arith, h c)) refl refl;
  of_object = λ node ps xs h c. form-counts m _ (trees.object xs) (h c) refl refl;
  of_function =
      λ node n ps body xs h c. counts-value m _ _ (trees.function n ps xs) (function-amount m node n ps body c)
      (h (within 0 c)) refl;
  of_arrow =
      λ node ps e x h c. let j = h (within e.node (within 0 c)) in
      form-counts m _ (trees.arrow ps x) (omega (arith, j.counted)) refl refl;
  of_arrow_block =
      λ node ps body xs h c. form-counts m _ (trees.arrow_block ps xs) (omega (arith, h (within 0 c))) refl refl;
  of_parenthesized = λ node e x h c. let j = h c in record { counted = j.counted; reads = j.reads; bare = j.bare };
  of_member =
      λ node e n x h c. let j = h (unnamed c) in
      record { counted = omega (arith, j.counted); reads = refl; bare = refl };
  of_index =
      λ node e k x y h i c. let j = h (unnamed c) in
      let l = i (unnamed c) in
      record {
        counted = omega (
          arith,
          j.counted,
          l.counted,
          total-append m (expression_literals x) (expression_literals y),
        );
        reads = refl;
        bare = refl;
      };
  of_call =
      λ node parentheses f es x xs h i c. let j = h (unnamed c) in
      counts-value m _ _ (trees.call x xs) (call-becomes m _ _ _ (plains es c) j.bare)
      (omega (arith, j.counted, i c, total-append m (expression_literals x) (expressions_literals xs))) refl;
  of_postfix =
      λ node o e x h c. let j = h (unnamed c) in
      counts-value m _ _ (trees.postfix o x) (updated-becomes m o false (plain e c) j.bare) j.counted refl;
  of_prefix =
      λ node o e x h c. let j = h (unnamed c) in
      counts-value m _ _ (trees.prefix o x) (updated-becomes m o true (plain e c) j.bare) j.counted refl;
  of_unary =
      λ node o e x h c. let j = h (unnamed c) in
      counts-value m _ _ (trees.unary o x) (unary-becomes m o (plain e c) j.bare) j.counted refl;
  of_binary =
      λ node o l r x y h i c. let j = h (unnamed c) in
      let k = i (unnamed c) in
      counts-value m _ _ (trees.binary o x y) (binary-becomes m o (plain l c) (plain r c))
      (omega (arith, j.counted, k.counted, total-append m (expression_literals x) (expression_literals y))) refl;
  of_conditional =
      λ node t a b x y z h i j c. let k = h (unnamed c) in
      let l = i (unnamed c) in
      let n = j (unnamed c) in
      form-counts m _ (trees.conditional x y z)
      (omega (
        arith,
        k.counted,
        l.counted,
        n.counted,
        total-three m (expression_literals x) (expression_literals y) (expression_literals z),
      ))
      refl refl;
  of_assign =
      λ node o t e x y h i c. assign-counts m (operator_of o) o (plain t c) (plain e c) x y (h (unnamed c))
      (i (unnamed c));
  of_comma = λ node es xs h c. counts-value m _ _ (trees.comma xs) (comma-becomes m (plains es c)) (h c) refl;
  of_no_expressions = λ c. refl;
  of_an_expression =
      λ e es x xs h i c. let j = h (unnamed c) in
      omega (arith, j.counted, i c, total-append m (expression_literals x) (expressions_literals xs));
  of_omitted = λ c. refl;
  of_present = λ e x h c. let j = h c in j.counted;
  of_word_key = λ us c. refl;
  of_string_key = λ us c. refl;
  of_number_key = λ v c. refl;
  of_computed_key = λ e x h c. let j = h c in j.counted;
  of_shorthand = λ n c p. omega arith;
  of_value = value-amount m;
  of_method = method-amount m;
  of_no_properties = λ c. refl;
  of_a_property =
      λ p ps x xs h i c. omega
      (arith, h c (properties_parts ps c), i c, total-append m (property_literals x) (properties_literals xs));
  of_declarator = λ n e x h c. initializer-amount m n e c ∙ h (naming n c);
  of_no_declarators = λ c. refl;
  of_a_declarator =
      λ d ds x xs h i c. omega (arith, h c, i c, total-append m (declarator_literals x) (declarators_literals xs));
  of_block = λ b xs h. (λ c. omega (arith, h c), λ c. refl);
  of_lexical = λ node constant ds xs h. (λ c. omega (arith, h (within node c)), λ c. refl);
  of_empty = (λ c. refl, λ c. refl);
  of_expression = λ node e x h. (λ c. let j = h (unnamed (within node c)) in omega (arith, j.counted), λ c. refl);
  of_if_then =
      λ node e s x y h i. (
        λ c. let j = h (unnamed (within node c)) in
            omega (
              arith,
              j.counted,
              i.0 (within node c),
              total-append m (expression_literals x) (statement_literals y),
            ),
        λ c. refl,
      );
  of_if_else =
      λ node e s t x y z h i k. (
        λ c. let j = h (unnamed (within node c)) in
            omega (
              arith,
              j.counted,
              i.0 (within node c),
              k.0 (within node c),
              total-three m (expression_literals x) (statement_literals y) (statement_literals z),
            ),
        λ c. refl,
      );
  of_do_while =
      λ node s e x y h i. (
        λ c. let j = i (unnamed (within node c)) in
            omega (
              arith,
              j.counted,
              h.0 (within node c),
              total-append m (statement_literals x) (expression_literals y),
            ),
        λ c. refl,
      );
  of_while =
      λ node e s x y h i. (
        λ c. let j = h (unnamed (within node c)) in
            omega (
              arith,
              j.counted,
              i.0 (within node c),
              total-append m (expression_literals x) (statement_literals y),
            ),
        λ c. refl,
      );
  of_for =
      λ node i t u s x y z w a b d h. (
        λ c. omega (
          arith,
          optional-amounts m i (within node c),
          optional-amount m t (within node c) (values.Bool true),
          optional-amount m u (within node c) values.Undefined,
          a (unnamed (within node c)),
          b (unnamed (within node c)),
          d (unnamed (within node c)),
          h.0 (within node c),
          total-four m (optional_literals x) (optional_literals y) (optional_literals z)
              (statement_literals w),
        ),
        λ c. refl,
      );
  of_for_lexical =
      λ node constant ds t u s x y z w h b d i. (
        λ c. omega (
          arith,
          optional-amount m t (within node c) (values.Bool true),
          optional-amount m u (within node c) values.Undefined,
          h (within node c),
          b (unnamed (within node c)),
          d (unnamed (within node c)),
          i.0 (within node c),
          total-four m (declarators_literals x) (optional_literals y) (optional_literals z)
              (statement_literals w),
        ),
        λ c. refl,
      );
  of_for_of =
      λ node constant n e s x y h i. (
        λ c. let j = h (unnamed (within node c)) in
            omega (
              arith,
              j.counted,
              i.0 (within node c),
              total-append m (expression_literals x) (statement_literals y),
            ),
        λ c. refl,
      );
  of_continue = λ node. (λ c. refl, λ c. refl);
  of_break = λ node. (λ c. refl, λ c. refl);
  of_return =
      λ node e x h. (λ c. omega (arith, optional-amounts m e (within node c), h (unnamed (within node c))), λ c. refl);
  of_throw = λ node e x h. (λ c. let j = h (unnamed (within node c)) in omega (arith, j.counted), λ c. refl);
  of_try =
      λ node b h f xs y z i j k. (
        λ c. omega (
          arith,
          try-amount m b h f (within node c),
          i (within node c),
          j (within node c),
          k (within node c),
          total-three m (statements_literals xs) (handler_literals y) (finalizer_literals z),
        ),
        λ c. refl,
      );
  of_debugger = λ node. (λ c. refl, λ c. refl);
  of_declared_function = λ node n ps body xs h. (λ c. refl, λ c. omega (arith, h (within 0 c)));
  of_no_catch = λ c. refl;
  of_catch = λ n b xs h. h;
  of_no_finally = λ c. refl;
  of_finally = λ b xs h. h;
  of_no_statements = λ c. refl;
  of_a_statement =
      λ i is x xs h k c. omega (
        arith,
        amounts-joined m (i.functions c) (is.functions c),
        h.0 c,
        h.1 c,
        k c,
        total-three m (declared_literals x) (statement_literals x) (statements_literals xs),
      );
}

pub expression-counted : (m : List ℕ → ℕ) (e : Expr) (c : LoweringContext)
    → total m (literals ((expression_source e).term c)) ≡ total m (expression_literals (expression_view e))
expression-counted m e c =
    let j = expression-related (counting m) (keeps-counting m) e c in
    amount-total m ((expression_source e).term c) ∙ j.counted
