-- What is made of a tree belongs to a source that has the marks of the tree: one lemma for each maker.
use Rattle.std.proofs.Common.{◌≡◌, ℕ, Bool, true, List, [], ◌∷◌, ◌++◌, length, Option, None, Some, refl, sym, subst, inl, inr}
use Rattle.js_tree_operators.specs.declared.operator.UnaryOperator.{UnaryOperator}
use Rattle.js_tree_operators.specs.declared.operator.UnaryOperator.TheVariants as unaries
use Rattle.js_tree_operators.specs.declared.operator.UpdateOperator.{UpdateOperator}
use Rattle.js_tree_operators.specs.declared.operator.BinaryOperator.{BinaryOperator}
use Rattle.js_tree_operators.specs.declared.operator.BinaryOperator.TheVariants as binaries
use Rattle.js_heap.specs.declared.value.Value.{Value}
use Rattle.js_heap.specs.declared.value.Value.TheVariants as values
use Rattle.js_semantics.specs.declared.form.Mark.{Mark}
use Rattle.js_semantics.specs.declared.form.Stage.TheVariants.{First as first, Doing as doing}
use Rattle.js_semantics.specs.declared.form.Mark.TheVariants.{Start as start}
use Rattle.js_semantics.specs.declared.form.Reference.TheVariants.{Name as to_name}
use Rattle.js_semantics.specs.declared.form.Form.TheVariants.{Choose as choose, Loop as loop, Return as return_, Throw as throw_, Read as read}
use Rattle.js_semantics.specs.Terms.{Term, done, standing, part, Terms, end, more, one}
use Rattle.js_semantics.specs.Makers.{LoweringContext, MadeExpression, MadeStatement, MadeStatements, PropertyKey, fixed_key, computed_key, MadeProperty, value_property, method_property, MadeDeclarator, MadeCatch, Parts, nothing, loop_parts, for_parts, unnamed, naming, within, plain, plains, made, name_made, member_made, assigned_to, compounded, updated, deleted, type_of, assignment, unary_term, binary_term, conditional_made, comma_term, place_or, call_term, call_made, no_items, body_terms, function_made, returned_body, arrow_made, property_parts, properties_parts, and_items, block_term, block_item, empty_item, untouched, expression_item, initializer_terms, declarators_terms, lexical_item, if_item, while_item, do_while_item, optional_term, optional_terms, for_item, for_lexical_item, for_of_item, continue_item, break_item, return_item, throw_item, caught, finally_term, try_item, debugger_item, function_item}
use Rattle.locations.specs.declared.spot.SpotKind.{SpotKind}
use Rattle.locations.specs.declared.spot.SpotKind.TheVariants as kinds
use Rattle.locations.specs.declared.marks.Marked.{Marked}
use Rattle.locations.specs.Marks.{Marks, Marking, marking, name_marking, member_marking, in_call, in_function, in_returned, beginning}
use Rattle.locations_arrivals.specs.Belonging.{HasMark, Belongs, AllBelong}
use Rattle.locations_arrivals.proofs.PartLemmas.{joined-belongs}

-- ---- the marks of a list

abbrev pub AllMarks : (Marked → Type 0) → Marks → Type 0
AllMarks P [] = Unit {0}
AllMarks P (m ∷ ms) = P m × AllMarks P ms

pub both-marks : (P : Marked → Type 0) (ms ns : Marks) → AllMarks P (ms ++ ns) → AllMarks P ms × AllMarks P ns
both-marks P [] ns h = (tt, h)
both-marks P (m ∷ ms) ns h = let k = both-marks P ms ns h.1 in ((h.0, k.0), k.1)

-- ---- what is made belongs to its source where its marks are marks of it

pub record ExpressionFits (P : Marked → Type 0) (e : MadeExpression) (k : Marking) : Type 0 where
  pub same_node : e.node ≡ k.node
  pub same_word : e.last_word ≡ k.last_word
  pub belongs : (c : LoweringContext) → AllMarks P k.marks → Belongs P (e.term c)

abbrev pub ExpressionsFit : (Marked → Type 0) → List MadeExpression → Marks → Type 0
ExpressionsFit P es ms = (c : LoweringContext) → AllMarks P ms → AllBelong P (plains es c)

pub record OptionalFits (P : Marked → Type 0) (o : Option MadeExpression) (ms : Marks) : Type 0 where
  pub listed : (c : LoweringContext) → AllMarks P ms → AllBelong P (optional_terms o c)
  pub or_other : (c : LoweringContext) (v : Value) → AllMarks P ms → Belongs P (optional_term o c (done v))

pub record ItemFits (P : Marked → Type 0) (i : MadeStatement) (ms : Marks) : Type 0 where
  pub belongs : (c : LoweringContext) → AllMarks P ms → Belongs P (i.term c)
  pub functions_belong : (c : LoweringContext) → AllMarks P ms → AllBelong P (i.functions c)

pub record ItemsFit (P : Marked → Type 0) (i : MadeStatements) (ms : Marks) : Type 0 where
  pub belong : (c : LoweringContext) → AllMarks P ms → AllBelong P (i.terms c)
  pub functions_belong : (c : LoweringContext) → AllMarks P ms → AllBelong P (i.functions c)

abbrev pub KeyFits : (Marked → Type 0) → PropertyKey → Marks → Type 0
KeyFits P (fixed_key k) ms = Unit {0}
KeyFits P (computed_key e) ms = (c : LoweringContext) → AllMarks P ms → Belongs P (plain e c)

pub record PartsBelong (P : Marked → Type 0) (p : Parts) : Type 0 where
  pub now_belong : AllBelong P p.now
  pub later_belong : AllBelong P p.later

abbrev pub PropertyFits : (Marked → Type 0) → MadeProperty → Marks → Type 0
PropertyFits P m ms = (c : LoweringContext) (p : Parts) → AllMarks P ms → PartsBelong P p → PartsBelong P (property_parts m c p)

abbrev pub PropertiesFit : (Marked → Type 0) → List MadeProperty → Marks → Type 0
PropertiesFit P ps ms = (c : LoweringContext) → AllMarks P ms → PartsBelong P (properties_parts ps c)

abbrev pub InitializerFits : (Marked → Type 0) → List ℕ → Option MadeExpression → Marks → Type 0
InitializerFits P n o ms = (c : LoweringContext) → AllMarks P ms → AllBelong P (initializer_terms n o c)

abbrev pub DeclaratorsFit : (Marked → Type 0) → List MadeDeclarator → Marks → Type 0
DeclaratorsFit P ds ms = (c : LoweringContext) → AllMarks P ms → AllBelong P (declarators_terms ds c)

-- ---- expressions

pub made-fits : (P : Marked → Type 0) (node : ℕ) (term : LoweringContext → Term) (ms : Marks)
    → ((c : LoweringContext) → AllMarks P ms → Belongs P (term c))
    → ExpressionFits P (made node term) (marking node ms)
made-fits P node term ms h = record { same_node = refl; same_word = refl; belongs = h }

pub name-fits : (P : Marked → Type 0) (node : ℕ) (n : List ℕ) → ExpressionFits P (name_made node n) (name_marking node)
name-fits P node n = record { same_node = refl; same_word = refl; belongs = λ c h. (tt, tt, tt) }

pub member-fits : (P : Marked → Type 0) (node : ℕ) (e : MadeExpression) (k : Marking) (n : List ℕ)
    → ExpressionFits P e k
    → ExpressionFits P (member_made node e n) (member_marking node k (length n))
member-fits P node e k n f =
    record { same_node = refl; same_word = refl; belongs = λ c h. (tt, (f.belongs (unnamed c) h, tt), tt) }

body-belongs : (P : Marked → Type 0) (b : MadeStatements) (ms : Marks) (c : LoweringContext)
    → ItemsFit P b ms
    → AllMarks P ms
    → AllBelong P (body_terms b c)
body-belongs P b ms c f h = ((tt, f.belong (within 0 c) h, tt), f.functions_belong (within 0 c) h)

pub function-fits : (P : Marked → Type 0) (node : ℕ) (n : Option (List ℕ)) (ps : List (List ℕ)) (b : MadeStatements) (ms : Marks)
    → ItemsFit P b ms
    → ExpressionFits P (function_made node n ps b) (marking node (in_function node ms))
function-fits P node (Some n) ps b ms f =
    made-fits P node _ (in_function node ms)
    (λ c h. let k = both-marks P ms _ h in (inr k.1.0, tt, body-belongs P b ms c f k.0))
function-fits P node None ps b ms f =
    made-fits P node _ (in_function node ms)
    (λ c h. let k = both-marks P ms _ h in (inr k.1.0, tt, body-belongs P b ms c f k.0))

pub arrow_block-fits : (P : Marked → Type 0) (node : ℕ) (ps : List (List ℕ)) (b : MadeStatements) (ms : Marks)
    → ItemsFit P b ms
    → ExpressionFits P (arrow_made node ps b) (marking node (in_function node ms))
arrow_block-fits P node ps b ms f =
    made-fits P node _ (in_function node ms)
    (λ c h. let k = both-marks P ms _ h in (inr k.1.0, tt, body-belongs P b ms c f k.0))

returned-fits : (P : Marked → Type 0) (e : MadeExpression) (k : Marking)
    → ExpressionFits P e k
    → ItemsFit P (returned_body e) (in_returned k)
returned-fits P e k f = record {
  belong = λ c h.
      let marked : HasMark P (start e.node)
      = (
        kinds.Return,
        subst (λ (node : ℕ). P (record { mark = start node; kind = kinds.Return })) (sym f.same_node) h.0,
      )
      in
      ((marked, tt, ((tt, (f.belongs (within e.node c) h.1, tt), tt), tt)), tt);
  functions_belong = λ c h. tt;
}

pub arrow-fits : (P : Marked → Type 0) (node : ℕ) (ps : List (List ℕ)) (e : MadeExpression) (k : Marking)
    → ExpressionFits P e k
    → ExpressionFits P (arrow_made node ps (returned_body e)) (marking node (in_returned k))
arrow-fits P node ps e k f =
    made-fits P node _ (in_returned k)
    (λ c h. (inl tt, tt, body-belongs P (returned_body e) (in_returned k) c (returned-fits P e k f) h))

call-belongs : (P : Marked → Type 0) (m : Mark) (node : ℕ) (t : Term) (args : Terms)
    → P (record { mark = m; kind = kinds.Call })
    → Belongs P t
    → AllBelong P args
    → Belongs P (call_term m node t args)
call-belongs P m node (done v) args i h k = (i, (tt, (h, k)), tt)
call-belongs P m node (standing v place) args i h k = (i, (tt, (h, k)), tt)
call-belongs P m node (part (read r) now later) args i h k = (i, h.1, k)
call-belongs P m node (part f now later) args i h k = (i, (tt, (h, k)), tt)

pub call-fits : (P : Marked → Type 0) (node : ℕ) (f : MadeExpression) (k : Marking) (parentheses : ℕ) (es : List MadeExpression)
    (ms : Marks)
    → ExpressionFits P f k
    → ExpressionsFit P es ms
    → ExpressionFits P (call_made node f parentheses es) (marking node (in_call k parentheses ms))
call-fits P node f k parentheses es ms g fits = made-fits P node _ (in_call k parentheses ms) (λ c h.
    let all = both-marks P (k.marks ++ _) ms h in
    let callee = both-marks P k.marks _ all.0 in
    let placed : P (record { mark = place_or f.last_word parentheses; kind = kinds.Call }) = subst
    (λ (o : Option Mark). P (record { mark = place_or o parentheses; kind = kinds.Call })) (sym g.same_word)
    callee.1.0 in
    call-belongs P (place_or f.last_word parentheses) c.statement (plain f c) (plains es c) placed
    (g.belongs (unnamed c) callee.0) (fits c all.1))

pub updated-belongs : (P : Marked → Type 0) (o : UpdateOperator) (b : Bool) (t : Term)
    → Belongs P t
    → Belongs P (updated o b t)
updated-belongs P o b (done v) h = h
updated-belongs P o b (standing v place) h = h
updated-belongs P o b (part (read r) now later) h = (tt, h.1, tt)
updated-belongs P o b (part f now later) h = h

deleted-belongs : (P : Marked → Type 0) (t : Term) → Belongs P t → Belongs P (deleted t)
deleted-belongs P (done v) h = h
deleted-belongs P (standing v place) h = h
deleted-belongs P (part (read r) now later) h = (tt, h.1, tt)
deleted-belongs P (part f now later) h = h

type-belongs : (P : Marked → Type 0) (t : Term) → Belongs P t → Belongs P (type_of t)
type-belongs P (done v) h = (tt, (h, tt), tt)
type-belongs P (standing v place) h = (tt, (h, tt), tt)
type-belongs P (part (read (to_name n)) now later) h = (tt, tt, tt)
type-belongs P (part f now later) h = (tt, (h, tt), tt)

pub unary-belongs : (P : Marked → Type 0) (o : UnaryOperator) (t : Term) → Belongs P t → Belongs P (unary_term o t)
unary-belongs P unaries.Typeof t h = type-belongs P t h
unary-belongs P unaries.Delete t h = deleted-belongs P t h
unary-belongs P unaries.Void t h = (tt, (h, tt), tt)
unary-belongs P unaries.Plus t h = (tt, (h, tt), tt)
unary-belongs P unaries.Minus t h = (tt, (h, tt), tt)
unary-belongs P unaries.BitwiseNot t h = (tt, (h, tt), tt)
unary-belongs P unaries.LogicalNot t h = (tt, (h, tt), tt)

pub binary-belongs : (P : Marked → Type 0) (o : BinaryOperator) (l r : Term)
    → Belongs P l
    → Belongs P r
    → Belongs P (binary_term o l r)
binary-belongs P binaries.LogicalAnd l r h k = (tt, (h, tt), (k, tt))
binary-belongs P binaries.LogicalOr l r h k = (tt, (h, tt), (k, tt))
binary-belongs P o l r h k = (tt, (h, (k, tt)), tt)

assigned-belongs : (P : Marked → Type 0) (t e : Term) → Belongs P t → Belongs P e → Belongs P (assigned_to t e)
assigned-belongs P (done v) e h k = h
assigned-belongs P (standing v place) e h k = h
assigned-belongs P (part (read r) now later) e h k = (tt, joined-belongs P now (one e) h.1 (k, tt), tt)
assigned-belongs P (part f now later) e h k = h

compounded-belongs : (P : Marked → Type 0) (o : BinaryOperator) (t e : Term)
    → Belongs P t
    → Belongs P e
    → Belongs P (compounded o t e)
compounded-belongs P o (done v) e h k = h
compounded-belongs P o (standing v place) e h k = h
compounded-belongs P o (part (read r) now later) e h k = (tt, h.1, (k, tt))
compounded-belongs P o (part f now later) e h k = h

pub assignment-belongs : (P : Marked → Type 0) (o : Option BinaryOperator) (t e : Term)
    → Belongs P t
    → Belongs P e
    → Belongs P (assignment o t e)
assignment-belongs P None t e h k = assigned-belongs P t e h k
assignment-belongs P (Some o) t e h k = compounded-belongs P o t e h k

pub comma-fits : (P : Marked → Type 0) (ts : Terms) → AllBelong P ts → Belongs P (comma_term ts)
comma-fits P end h = tt
comma-fits P (more t ts) h = (tt, (h.0, tt), h.1)

-- an expression of two parts, and one of three
pub two-fit : (P : Marked → Type 0) (d e : MadeExpression) (k l : Marking) (c : LoweringContext)
    → ExpressionFits P d k
    → ExpressionFits P e l
    → AllMarks P (k.marks ++ l.marks)
    → Belongs P (plain d c) × Belongs P (plain e c)
two-fit P d e k l c f g h =
    let m = both-marks P k.marks l.marks h in (f.belongs (unnamed c) m.0, g.belongs (unnamed c) m.1)

pub conditional-fits : (P : Marked → Type 0) (node : ℕ) (t a b : MadeExpression) (k l m : Marking)
    → ExpressionFits P t k
    → ExpressionFits P a l
    → ExpressionFits P b m
    → ExpressionFits P (conditional_made node t a b) (marking node (k.marks ++ l.marks ++ m.marks))
conditional-fits P node t a b k l m f g i = made-fits P node _ _ (λ c h.
    let last = both-marks P (k.marks ++ l.marks) m.marks h in
    let two = two-fit P t a k l c f g last.0 in
    (tt, (two.0, tt), (two.1, (i.belongs (unnamed c) last.1, tt))))

-- ---- object literals

pub value-fits : (P : Marked → Type 0) (key : PropertyKey) (e : MadeExpression) (ms : Marks) (k : Marking)
    → KeyFits P key ms
    → ExpressionFits P e k
    → PropertyFits P (value_property key e) (ms ++ k.marks)
value-fits P (fixed_key n) e ms k f g c p h q =
    let m = both-marks P ms k.marks h in
    record { now_belong = (g.belongs (naming n c) m.1, q.now_belong); later_belong = q.later_belong }
value-fits P (computed_key n) e ms k f g c p h q =
    let m = both-marks P ms k.marks h in
    record { now_belong = (f c m.0, (g.belongs (unnamed c) m.1, q.now_belong)); later_belong = q.later_belong }

pub method-fits : (P : Marked → Type 0) (node : ℕ) (key : PropertyKey) (ps : List (List ℕ)) (b : MadeStatements) (ms ns : Marks)
    → KeyFits P key ms
    → ItemsFit P b ns
    → PropertyFits P (method_property node key ps b) (ms ++ in_function node ns)
method-fits P node (fixed_key n) ps b ms ns f g c p h q =
    let m = both-marks P ms (in_function node ns) h in
    let k = both-marks P ns _ m.1 in
    record { now_belong = ((inr k.1.0, tt, body-belongs P b ns c g k.0), q.now_belong); later_belong = q.later_belong }
method-fits P node (computed_key e) ps b ms ns f g c p h q =
    let m = both-marks P ms (in_function node ns) h in
    let k = both-marks P ns _ m.1 in
    record {
      now_belong = (f c m.0, tt);
      later_belong = (
        (inr k.1.0, q.now_belong, body-belongs P b ns c g k.0),
        q.later_belong,
      );
    }

-- ---- statements

pub optional-none : (P : Marked → Type 0) → OptionalFits P None []
optional-none P = record { listed = λ c h. tt; or_other = λ c v h. tt }

pub optional-some : (P : Marked → Type 0) (e : MadeExpression) (k : Marking)
    → ExpressionFits P e k
    → OptionalFits P (Some e) k.marks
optional-some P e k f =
    record { listed = λ c h. (f.belongs (unnamed c) h, tt); or_other = λ c v h. f.belongs (unnamed c) h }

entered-fits : (P : Marked → Type 0) (node : ℕ) (kind : SpotKind) (term : LoweringContext → Term) (ms : Marks)
    → ((c : LoweringContext) → AllMarks P ms → Belongs P (term c))
    → ItemFits P (untouched node term) (beginning kind node ++ ms)
entered-fits P node kind term ms f =
    record { belongs = λ c h. ((kind, h.0), tt, (f (within node c) h.1, tt)); functions_belong = λ c h. tt }

block-fits : (P : Marked → Type 0) (b : MadeStatements) (ms : Marks) (c : LoweringContext)
    → ItemsFit P b ms
    → AllMarks P ms
    → Belongs P (block_term b c)
block-fits P b ms c f h = (tt, tt, ((tt, f.belong c h, tt), f.functions_belong c h))

pub block_item-fits : (P : Marked → Type 0) (b : MadeStatements) (ms : Marks) → ItemsFit P b ms → ItemFits P (block_item b) ms
block_item-fits P b ms f = record { belongs = λ c h. block-fits P b ms c f h; functions_belong = λ c h. tt }

pub empty-fits : (P : Marked → Type 0) → ItemFits P empty_item []
empty-fits P = record { belongs = λ c h. tt; functions_belong = λ c h. tt }

pub lexical-fits : (P : Marked → Type 0) (node : ℕ) (constant : Bool) (ds : List MadeDeclarator) (ms : Marks)
    → DeclaratorsFit P ds ms
    → ItemFits P (lexical_item node constant ds) (beginning kinds.Plain node ++ ms)
lexical-fits P node constant ds ms f =
    record {
      belongs = λ c h.
          ((kinds.Plain, h.0), tt, ((tt, f (within node c) h.1, tt), tt));
      functions_belong = λ c h. tt;
    }

pub expression-fits : (P : Marked → Type 0) (node : ℕ) (e : MadeExpression) (k : Marking)
    → ExpressionFits P e k
    → ItemFits P (expression_item node e) (beginning kinds.Plain node ++ k.marks)
expression-fits P node e k f = entered-fits P node kinds.Plain (plain e) k.marks (λ c h. f.belongs (unnamed c) h)

pub if-fits : (P : Marked → Type 0) (node : ℕ) (e : MadeExpression) (s : MadeStatement) (k : Marking) (ms : Marks)
    → ExpressionFits P e k
    → ItemFits P s ms
    → ItemFits P (if_item node e s None) (beginning kinds.Plain node ++ k.marks ++ ms ++ [])
if-fits P node e s k ms f g =
    entered-fits P node kinds.Plain (λ c. part choose (one (plain e c)) (more (s.term c) (one nothing)))
    (k.marks ++ ms ++ []) (λ c h.
    let all = both-marks P (k.marks ++ ms) [] h in
    let m = both-marks P k.marks ms all.0 in
    (tt, (f.belongs (unnamed c) m.0, tt), (g.belongs c m.1, (tt, tt))))

pub if_else-fits : (P : Marked → Type 0) (node : ℕ) (e : MadeExpression) (s t : MadeStatement) (k : Marking) (ms ns : Marks)
    → ExpressionFits P e k
    → ItemFits P s ms
    → ItemFits P t ns
    → ItemFits P (if_item node e s (Some t)) (beginning kinds.Plain node ++ k.marks ++ ms ++ ns)
if_else-fits P node e s t k ms ns f g i =
    entered-fits P node kinds.Plain (λ c. part choose (one (plain e c)) (more (s.term c) (one (t.term c))))
    (k.marks ++ ms ++ ns) (λ c h.
    let all = both-marks P (k.marks ++ ms) ns h in
    let m = both-marks P k.marks ms all.0 in
    (tt, (f.belongs (unnamed c) m.0, tt), (g.belongs c m.1, (i.belongs c all.1, tt))))

pub do_while-fits : (P : Marked → Type 0) (node : ℕ) (s : MadeStatement) (e : MadeExpression) (ms : Marks) (k : Marking)
    → ItemFits P s ms
    → ExpressionFits P e k
    → ItemFits P (do_while_item node s e) (beginning kinds.Plain node ++ ms ++ k.marks)
do_while-fits P node s e ms k g f =
    entered-fits P node kinds.Plain (λ c. part (loop doing None) end (loop_parts (plain e c) nothing (s.term c)))
    (ms ++ k.marks) (λ c h.
    let m = both-marks P ms k.marks h in
    (tt, tt, (f.belongs (unnamed c) m.1, (tt, (g.belongs c m.0, tt)))))

pub while-fits : (P : Marked → Type 0) (node : ℕ) (e : MadeExpression) (s : MadeStatement) (k : Marking) (ms : Marks)
    → ExpressionFits P e k
    → ItemFits P s ms
    → ItemFits P (while_item node e s) (beginning kinds.Plain node ++ k.marks ++ ms)
while-fits P node e s k ms f g =
    entered-fits P node kinds.Plain (λ c. part (loop first None) end (loop_parts (plain e c) nothing (s.term c)))
    (k.marks ++ ms) (λ c h.
    let m = both-marks P k.marks ms h in
    (tt, tt, (f.belongs (unnamed c) m.0, (tt, (g.belongs c m.1, tt)))))

pub for-fits : (P : Marked → Type 0) (node : ℕ) (i t u : Option MadeExpression) (s : MadeStatement) (is ts us ms : Marks)
    → OptionalFits P i is
    → OptionalFits P t ts
    → OptionalFits P u us
    → ItemFits P s ms
    → ItemFits P (for_item node i t u s) (beginning kinds.Plain node ++ is ++ ts ++ us ++ ms)
for-fits P node i t u s is ts us ms f g h k =
    entered-fits P node kinds.Plain (λ c. part (loop first None) (optional_terms i c) (for_parts t u s c))
    (is ++ ts ++ us ++ ms) (λ c all.
    let four = both-marks P (is ++ ts ++ us) ms all in
    let three = both-marks P (is ++ ts) us four.0 in
    let two = both-marks P is ts three.0 in (
      tt,
      f.listed c two.0,
      (g.or_other c (values.Bool true) two.1, (h.or_other c values.Undefined three.1, (k.belongs c four.1, tt))),
    ))

pub for_lexical-fits : (P : Marked → Type 0) (node : ℕ) (constant : Bool) (ds : List MadeDeclarator) (t u : Option MadeExpression)
    (s : MadeStatement) (is ts us ms : Marks)
    → DeclaratorsFit P ds is
    → OptionalFits P t ts
    → OptionalFits P u us
    → ItemFits P s ms
    → ItemFits P (for_lexical_item node constant ds t u s) (beginning kinds.Plain node ++ is ++ ts ++ us ++ ms)
for_lexical-fits P node constant ds t u s is ts us ms f g h k = record {
  belongs = λ c all.
      let four = both-marks P (is ++ ts ++ us) ms all.1 in
      let three = both-marks P (is ++ ts) us four.0 in
      let two = both-marks P is ts three.0 in
      let d : LoweringContext = within node c in (
        (kinds.Plain, all.0),
        tt,
        (
          (tt, f d two.0, tt),
          (
            g.or_other d (values.Bool true) two.1,
            (h.or_other d values.Undefined three.1, (k.belongs d four.1, tt)),
          ),
        ),
      );
  functions_belong = λ c h. tt;
}

pub for_of-fits : (P : Marked → Type 0) (node : ℕ) (constant : Bool) (n : List ℕ) (e : MadeExpression) (s : MadeStatement) (k : Marking)
    (ms : Marks)
    → ExpressionFits P e k
    → ItemFits P s ms
    → ItemFits P (for_of_item node constant n e s) (beginning kinds.Plain node ++ k.marks ++ ms)
for_of-fits P node constant n e s k ms f g = record {
  belongs = λ c h.
      let m = both-marks P k.marks ms h.1 in
      ((kinds.Plain, h.0), tt, (f.belongs (unnamed (within node c)) m.0, (g.belongs (within node c) m.1, tt)));
  functions_belong = λ c h. tt;
}

pub continue-fits : (P : Marked → Type 0) (node : ℕ) → ItemFits P (continue_item node) (beginning kinds.Plain node)
continue-fits P node =
    record { belongs = λ c h. ((kinds.Plain, h.0), tt, ((tt, tt, tt), tt)); functions_belong = λ c h. tt }

pub break-fits : (P : Marked → Type 0) (node : ℕ) → ItemFits P (break_item node) (beginning kinds.Plain node)
break-fits P node =
    record { belongs = λ c h. ((kinds.Plain, h.0), tt, ((tt, tt, tt), tt)); functions_belong = λ c h. tt }

pub return-fits : (P : Marked → Type 0) (node : ℕ) (e : Option MadeExpression) (ms : Marks)
    → OptionalFits P e ms
    → ItemFits P (return_item node e) (beginning kinds.Return node ++ ms)
return-fits P node e ms f =
    entered-fits P node kinds.Return (λ c. part return_ (optional_terms e c) end) ms (λ c h. (tt, f.listed c h, tt))

pub throw-fits : (P : Marked → Type 0) (node : ℕ) (e : MadeExpression) (k : Marking)
    → ExpressionFits P e k
    → ItemFits P (throw_item node e) (beginning kinds.Plain node ++ k.marks)
throw-fits P node e k f =
    entered-fits P node kinds.Plain (λ c. part (throw_ node) (one (plain e c)) end) k.marks
    (λ c h. (tt, (f.belongs (unnamed c) h, tt), tt))

-- a catch and a finally, where they are
pub record CatchFits (P : Marked → Type 0) (o : Option MadeCatch) (ms : Marks) : Type 0 where
  pub around_belongs : (t : Term) (c : LoweringContext) → Belongs P t → AllMarks P ms → Belongs P (caught o t c)

pub no_catch-fits : (P : Marked → Type 0) → CatchFits P None []
no_catch-fits P = record { around_belongs = λ t c h k. h }

pub catch-fits : (P : Marked → Type 0) (h : MadeCatch) (ms : Marks) → ItemsFit P h.body ms → CatchFits P (Some h) ms
catch-fits P h ms f = record { around_belongs = λ t c i k. (tt, (i, tt), (block-fits P h.body ms c f k, tt)) }

pub record FinallyFits (P : Marked → Type 0) (o : Option MadeStatements) (ms : Marks) : Type 0 where
  pub around_belongs : (t : Term) (c : LoweringContext) → Belongs P t → AllMarks P ms → Belongs P (finally_term o t c)

pub no_finally-fits : (P : Marked → Type 0) → FinallyFits P None []
no_finally-fits P = record { around_belongs = λ t c h k. h }

pub finally-fits : (P : Marked → Type 0) (b : MadeStatements) (ms : Marks) → ItemsFit P b ms → FinallyFits P (Some b) ms
finally-fits P b ms f = record { around_belongs = λ t c i k. (tt, (i, tt), (block-fits P b ms c f k, tt)) }

pub try-fits : (P : Marked → Type 0) (node : ℕ) (b : MadeStatements) (h : Option MadeCatch) (f : Option MadeStatements) (ms ns os : Marks)
    → ItemsFit P b ms
    → CatchFits P h ns
    → FinallyFits P f os
    → ItemFits P (try_item node b h f) (beginning kinds.Plain node ++ ms ++ ns ++ os)
try-fits P node b h f ms ns os g i k =
    entered-fits P node kinds.Plain (λ c. finally_term f (caught h (block_term b c) c) c) (ms ++ ns ++ os) (λ c all.
    let three = both-marks P (ms ++ ns) os all in
    let two = both-marks P ms ns three.0 in
    k.around_belongs (caught h (block_term b c) c) c
    (i.around_belongs (block_term b c) c (block-fits P b ms c g two.0) two.1) three.1)

pub debugger-fits : (P : Marked → Type 0) (node : ℕ) → ItemFits P (debugger_item node) (beginning kinds.Debugger node)
debugger-fits P node = record { belongs = λ c h. (h.0, tt, (tt, tt)); functions_belong = λ c h. tt }

pub declaration-fits : (P : Marked → Type 0) (node : ℕ) (n : List ℕ) (ps : List (List ℕ)) (b : MadeStatements) (ms : Marks)
    → ItemsFit P b ms
    → ItemFits P (function_item node n ps b) (in_function node ms)
declaration-fits P node n ps b ms f =
    record {
      belongs = λ c h. tt;
      functions_belong = λ c h. let k = both-marks P ms _ h in
          ((inr k.1.0, tt, body-belongs P b ms c f k.0), tt);
    }

pub no_items-fit : (P : Marked → Type 0) → ItemsFit P no_items []
no_items-fit P = record { belong = λ c h. tt; functions_belong = λ c h. tt }

pub and_items-fit : (P : Marked → Type 0) (i : MadeStatement) (is : MadeStatements) (ms ns : Marks)
    → ItemFits P i ms
    → ItemsFit P is ns
    → ItemsFit P (and_items i is) (ms ++ ns)
and_items-fit P i is ms ns f g = record {
  belong = λ c h. let m = both-marks P ms ns h in (f.belongs c m.0, g.belong c m.1);
  functions_belong =
      λ c h. let m = both-marks P ms ns h in
      joined-belongs P (i.functions c) (is.functions c) (f.functions_belong c m.0) (g.functions_belong c m.1);
}
