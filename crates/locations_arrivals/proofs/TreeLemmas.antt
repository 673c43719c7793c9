-- What is made of every tree belongs to a source that has the tree's marks.
use Rattle.std.proofs.Common.{◌≡◌, ℕ, true, false, List, [], ◌∷◌, Option, None, Some, map, option_map, sym, subst}
use Rattle.js_tree.specs.declared.tree.Expr.{Expr}
use Rattle.js_tree.specs.declared.tree.PropertyDefinition.{PropertyDefinition}
use Rattle.js_tree.specs.declared.tree.Stmt.{Stmt}
use Rattle.js_tree.specs.declared.tree.Declarator.{Declarator}
use Rattle.js_tree.specs.declared.tree.Stmts.{Stmts}
use Rattle.js_tree.specs.declared.tree.Expr.TheOpen as layers
use Rattle.js_tree.specs.declared.tree.Expr.TheOpen.{Expr-F, Stmt-F, PropertyName-F, PropertyDefinition-F}
use Rattle.js_tree.specs.declared.tree.Expr.TheFolds.{map-Expr, map-PropertyDefinition, map-PropertyName, map-Stmt, map-Block, map-Catch, map-Declarator, map-Declarators, map-Exprs, map-PropertyDefinitions, map-Stmts, fold-roll-Block, fold-roll-Catch, fold-roll-Declarator, fold-roll-Declarators, fold-roll-Exprs, fold-roll-PropertyDefinitions, fold-roll-Stmts}
use Rattle.js_tree.specs.declared.tree.Expr.TheViews as views
use Rattle.js_tree.specs.Views.{parameters_view}
use Rattle.js_semantics.specs.Makers.{parameter_names, MadeDeclarator, items_of, operator_of, unnamed, naming}
use Rattle.js_semantics.specs.Sources.{expression_source, property_source, key_source, statement_source, block_source, catch_source, declarator_source, declarators_source, expressions_source, properties_source, statements_source, expression_layer, property_layer, key_layer, statement_layer, block_layer, catch_layer, declarator_layer, declarators_layer, expressions_layer, properties_layer, statements_layer}
use Rattle.js_tree.proofs.ViewLemmas.{Layer}
use Rattle.js_semantics.proofs.TreeFolds.{Former, Claims, Known, known_trees, Grows, every-statements}
use Rattle.js_semantics.proofs.SourceFolds.{made_parts, expression_turn, property_turn, key_turn, statement_turn, block_turn, catch_turn, declarator_turn, declarators_turn, expressions_turn, properties_turn, statements_turn}
use Rattle.locations.specs.declared.marks.Marked.{Marked}
use Rattle.locations.specs.Marks as marks
use Rattle.locations.specs.Marks.{Marking, Marks, together, in_all, in_present, expression_marks, property_marks, key_marks, statement_marks, block_marks, catch_marks, declarator_marks, declarators_marks, expressions_marks, properties_marks, statements_marks}
use Rattle.locations.proofs.TreeLemmas as laws
use Rattle.locations.proofs.TreeLemmas.{marks_of}
use Rattle.locations_arrivals.proofs.MakerLemmas.{both-marks, ExpressionFits, ExpressionsFit, OptionalFits, ItemFits, ItemsFit, KeyFits, PropertyFits, PropertiesFit, InitializerFits, DeclaratorsFit, CatchFits, made-fits, name-fits, member-fits, function-fits, arrow_block-fits, arrow-fits, call-fits, updated-belongs, unary-belongs, binary-belongs, assignment-belongs, comma-fits, two-fit, conditional-fits, value-fits, method-fits, optional-none, optional-some, block_item-fits, empty-fits, lexical-fits, expression-fits, if-fits, if_else-fits, do_while-fits, while-fits, for-fits, for_lexical-fits, for_of-fits, continue-fits, break-fits, return-fits, throw-fits, no_catch-fits, catch-fits, no_finally-fits, finally-fits, try-fits, debugger-fits, declaration-fits, no_items-fit, and_items-fit}

-- ---- what is claimed

abbrev fits : (Marked → Type 0) → Claims
fits P = record {
  of_expression = λ x. ExpressionFits P (expression_source x) (expression_marks x);
  of_property = λ x. PropertyFits P (property_source x) (property_marks x);
  of_key = λ x. KeyFits P (key_source x) (key_marks x);
  of_statement = λ x. ItemFits P (statement_source x) (statement_marks x);
  of_block = λ x. ItemsFit P (block_source x) (block_marks x);
  of_catch = λ x. CatchFits P (Some (catch_source x)) (catch_marks x);
  of_declarator =
      λ x. InitializerFits P (declarator_source x).name (declarator_source x).initializer (declarator_marks x);
  of_declarators = λ x. DeclaratorsFit P (declarators_source x) (declarators_marks x);
  of_expressions = λ x. ExpressionsFit P (expressions_source x) (expressions_marks x);
  of_properties = λ x. PropertiesFit P (properties_source x) (properties_marks x);
  of_statements = λ x. ItemsFit P (statements_source x) (statements_marks x);
}

abbrev Parts : (Marked → Type 0) → Former → Type 0
Parts P F = Known (fits P) F

-- ---- each form

expression-known : (P : Marked → Type 0) (y : Parts P Expr-F)
    → ExpressionFits P (expression_layer (made_parts Expr-F map-Expr (known_trees (fits P) Expr-F map-Expr y)))
    (marks.expression_layer (marks_of Expr-F map-Expr (known_trees (fits P) Expr-F map-Expr y)))
expression-known P (Expr-F.This node) = made-fits P node.0 _ [] (λ c h. (tt, tt, tt))
expression-known P (Expr-F.Name node n) = name-fits P node.0 n
expression-known P (Expr-F.Number node v) = made-fits P node.0 _ [] (λ c h. tt)
expression-known P (Expr-F.String node us) = made-fits P node.0 _ [] (λ c h. (tt, tt, tt))
expression-known P (Expr-F.Boolean node b) = made-fits P node.0 _ [] (λ c h. tt)
expression-known P (Expr-F.Null node) = made-fits P node.0 _ [] (λ c h. tt)
expression-known P (Expr-F.Array node es) = made-fits P node.0 _ _ (λ c h. (tt, es.1 c h, tt))
expression-known P (Expr-F.Object node ps) =
    made-fits P node.0 _ _ (λ c h. let p = ps.1 c h in (tt, p.now_belong, p.later_belong))
expression-known P (Expr-F.Function node n ps body) = function-fits P node.0 n ps _ _ body.1
expression-known P (Expr-F.Arrow node ps e) = arrow-fits P node.0 (parameter_names (parameters_view ps)) _ _ e.value.1
expression-known P (Expr-F.ArrowBlock node ps body) =
    arrow_block-fits P node.0 (parameter_names (parameters_view ps)) _ _ body.1
expression-known P (Expr-F.Parenthesized node e) = made-fits P node.0 _ _ (let f = e.value.1 in f.belongs)
expression-known P (Expr-F.Member node e n) = member-fits P node.0 _ _ n e.value.1
expression-known P (Expr-F.Index node e i) =
    made-fits P node.0 _ _
    (λ c h. let two = two-fit P _ _ _ _ c e.value.1 i.value.1 h in (tt, (two.0, (two.1, tt)), tt))
expression-known P (Expr-F.Call node f parentheses es) = call-fits P node.0 _ _ parentheses.0 _ _ f.value.1 es.1
expression-known P (Expr-F.Postfix node o e) =
    made-fits P node.0 _ _ (λ c h. let f = e.value.1 in updated-belongs P o false _ (f.belongs (unnamed c) h))
expression-known P (Expr-F.Prefix node o e) =
    made-fits P node.0 _ _ (λ c h. let f = e.value.1 in updated-belongs P o true _ (f.belongs (unnamed c) h))
expression-known P (Expr-F.Unary node o e) =
    made-fits P node.0 _ _ (λ c h. let f = e.value.1 in unary-belongs P o _ (f.belongs (unnamed c) h))
expression-known P (Expr-F.Binary node o l r) =
    made-fits P node.0 _ _
    (λ c h. let two = two-fit P _ _ _ _ c l.value.1 r.value.1 h in binary-belongs P o _ _ two.0 two.1)
expression-known P (Expr-F.Conditional node t a b) = conditional-fits P node.0 _ _ _ _ _ _ t.value.1 a.value.1 b.value.1
expression-known P (Expr-F.Assign node o t e) =
    made-fits P node.0 _ _
    (λ c h. let two = two-fit P _ _ _ _ c t.value.1 e.value.1 h in
    assignment-belongs P (operator_of o) _ _ two.0 two.1)
expression-known P (Expr-F.Comma node es) = made-fits P node.0 _ _ (λ c h. comma-fits P _ (es.1 c h))

property-known : (P : Marked → Type 0) (y : Parts P PropertyDefinition-F)
    → PropertyFits P
    (property_layer
    (made_parts PropertyDefinition-F map-PropertyDefinition
    (known_trees (fits P) PropertyDefinition-F map-PropertyDefinition y)))
    (marks.property_layer
    (marks_of PropertyDefinition-F map-PropertyDefinition
    (known_trees (fits P) PropertyDefinition-F map-PropertyDefinition y)))
property-known P (PropertyDefinition-F.Shorthand n) =
    λ c p h q. record { now_belong = ((tt, tt, tt), q.now_belong); later_belong = q.later_belong }
property-known P (PropertyDefinition-F.Value k e) = value-fits P _ _ _ _ k.1 e.1
property-known P (PropertyDefinition-F.Method node k ps body) = method-fits P node.0 _ ps _ _ _ k.1 body.1

key-known : (P : Marked → Type 0) (y : Parts P PropertyName-F)
    → KeyFits P
    (key_layer
    (made_parts PropertyName-F map-PropertyName (known_trees (fits P) PropertyName-F map-PropertyName y)))
    (marks.key_layer
    (marks_of PropertyName-F map-PropertyName (known_trees (fits P) PropertyName-F map-PropertyName y)))
key-known P (PropertyName-F.Word us) = tt
key-known P (PropertyName-F.StringLiteral us) = tt
key-known P (PropertyName-F.NumericLiteral v) = tt
key-known P (PropertyName-F.Computed e) = λ c h. let f = e.1 in f.belongs (unnamed c) h

abbrev SomeKnown : (Marked → Type 0) → Type 0
SomeKnown P = Option ((x : Expr) × (fits P).of_expression x)

optional-known : (P : Marked → Type 0) (o : SomeKnown P)
    → OptionalFits P (option_map expression_source (option_map (λ e. e.0) o))
    (in_present (option_map expression_marks (option_map (λ e. e.0) o)))
optional-known P None = optional-none P
optional-known P (Some e) = optional-some P _ _ e.1

statement-known : (P : Marked → Type 0) (y : Parts P Stmt-F)
    → ItemFits P (statement_layer (made_parts Stmt-F map-Stmt (known_trees (fits P) Stmt-F map-Stmt y)))
    (marks.statement_layer (marks_of Stmt-F map-Stmt (known_trees (fits P) Stmt-F map-Stmt y)))
statement-known P (Stmt-F.Block b) = block_item-fits P _ _ b.1
statement-known P (Stmt-F.Lexical node c ds) = lexical-fits P node.0 c _ _ ds.1
statement-known P (Stmt-F.Empty node) = empty-fits P
statement-known P (Stmt-F.Expression node e) = expression-fits P node.0 _ _ e.1
statement-known P (Stmt-F.If node e s None) = if-fits P node.0 _ _ _ _ e.1 s.value.1
statement-known P (Stmt-F.If node e s (Some t)) = if_else-fits P node.0 _ _ _ _ _ _ e.1 s.value.1 t.value.1
statement-known P (Stmt-F.DoWhile node s e) = do_while-fits P node.0 _ _ _ _ s.value.1 e.1
statement-known P (Stmt-F.While node e s) = while-fits P node.0 _ _ _ _ e.1 s.value.1
statement-known P (Stmt-F.For node None None None s) =
    for-fits P node.0 _ _ _ _ _ _ _ _ (optional-known P None) (optional-known P None) (optional-known P None) s.value.1
statement-known P (Stmt-F.For node None None (Some u) s) =
    for-fits P node.0 _ _ _ _ _ _ _ _ (optional-known P None) (optional-known P None) (optional-known P (Some u))
    s.value.1
statement-known P (Stmt-F.For node None (Some t) None s) =
    for-fits P node.0 _ _ _ _ _ _ _ _ (optional-known P None) (optional-known P (Some t)) (optional-known P None)
    s.value.1
statement-known P (Stmt-F.For node None (Some t) (Some u) s) =
    for-fits P node.0 _ _ _ _ _ _ _ _ (optional-known P None) (optional-known P (Some t)) (optional-known P (Some u))
    s.value.1
statement-known P (Stmt-F.For node (Some i) None None s) =
    for-fits P node.0 _ _ _ _ _ _ _ _ (optional-known P (Some i)) (optional-known P None) (optional-known P None)
    s.value.1
statement-known P (Stmt-F.For node (Some i) None (Some u) s) =
    for-fits P node.0 _ _ _ _ _ _ _ _ (optional-known P (Some i)) (optional-known P None) (optional-known P (Some u))
    s.value.1
statement-known P (Stmt-F.For node (Some i) (Some t) None s) =
    for-fits P node.0 _ _ _ _ _ _ _ _ (optional-known P (Some i)) (optional-known P (Some t)) (optional-known P None)
    s.value.1
statement-known P (Stmt-F.For node (Some i) (Some t) (Some u) s) =
    for-fits P node.0 _ _ _ _ _ _ _ _ (optional-known P (Some i)) (optional-known P (Some t))
    (optional-known P (Some u)) s.value.1
statement-known P (Stmt-F.ForLexical node c ds None None s) =
    for_lexical-fits P node.0 c _ _ _ _ _ _ _ _ ds.1 (optional-known P None) (optional-known P None) s.value.1
statement-known P (Stmt-F.ForLexical node c ds None (Some u) s) =
    for_lexical-fits P node.0 c _ _ _ _ _ _ _ _ ds.1 (optional-known P None) (optional-known P (Some u)) s.value.1
statement-known P (Stmt-F.ForLexical node c ds (Some t) None s) =
    for_lexical-fits P node.0 c _ _ _ _ _ _ _ _ ds.1 (optional-known P (Some t)) (optional-known P None) s.value.1
statement-known P (Stmt-F.ForLexical node c ds (Some t) (Some u) s) =
    for_lexical-fits P node.0 c _ _ _ _ _ _ _ _ ds.1 (optional-known P (Some t)) (optional-known P (Some u)) s.value.1
statement-known P (Stmt-F.ForOf node c n e s) = for_of-fits P node.0 c n _ _ _ _ e.1 s.value.1
statement-known P (Stmt-F.Continue node) = continue-fits P node.0
statement-known P (Stmt-F.Break node) = break-fits P node.0
statement-known P (Stmt-F.Return node None) = return-fits P node.0 _ _ (optional-known P None)
statement-known P (Stmt-F.Return node (Some e)) = return-fits P node.0 _ _ (optional-known P (Some e))
statement-known P (Stmt-F.Throw node e) = throw-fits P node.0 _ _ e.1
statement-known P (Stmt-F.Try node b None None) =
    try-fits P node.0 _ _ _ _ _ _ b.1 (no_catch-fits P) (no_finally-fits P)
statement-known P (Stmt-F.Try node b None (Some f)) =
    try-fits P node.0 _ _ _ _ _ _ b.1 (no_catch-fits P) (finally-fits P _ _ f.1)
statement-known P (Stmt-F.Try node b (Some h) None) = try-fits P node.0 _ _ _ _ _ _ b.1 h.1 (no_finally-fits P)
statement-known P (Stmt-F.Try node b (Some h) (Some f)) = try-fits P node.0 _ _ _ _ _ _ b.1 h.1 (finally-fits P _ _ f.1)
statement-known P (Stmt-F.Debugger node) = debugger-fits P node.0
statement-known P (Stmt-F.FunctionDeclaration node n ps body) = declaration-fits P node.0 n ps _ _ body.1

-- ---- parts of trees

block-turn : (x : Layer layers.Block-F)
    → block_marks (views.roll-Block x) ≡ marks.block_layer (marks_of layers.Block-F map-Block x)
unfolding expression_marks property_marks key_marks statement_marks block_marks catch_marks declarator_marks
    declarators_marks expressions_marks properties_marks statements_marks
block-turn x =
    fold-roll-Block Marking Marks Marks Marks Marks Marks Marks Marks Marks Marks Marks marks.expression_layer
    marks.property_layer marks.key_layer marks.statement_layer marks.block_layer marks.catch_layer
    marks.declarator_layer marks.declarators_layer marks.expressions_layer marks.properties_layer
    marks.statements_layer x

catch-turn : (x : Layer layers.Catch-F)
    → catch_marks (views.roll-Catch x) ≡ marks.catch_layer (marks_of layers.Catch-F map-Catch x)
unfolding expression_marks property_marks key_marks statement_marks block_marks catch_marks declarator_marks
    declarators_marks expressions_marks properties_marks statements_marks
catch-turn x =
    fold-roll-Catch Marking Marks Marks Marks Marks Marks Marks Marks Marks Marks Marks marks.expression_layer
    marks.property_layer marks.key_layer marks.statement_layer marks.block_layer marks.catch_layer
    marks.declarator_layer marks.declarators_layer marks.expressions_layer marks.properties_layer
    marks.statements_layer x

declarator-turn : (x : Layer layers.Declarator-F)
    → declarator_marks (views.roll-Declarator x) ≡ marks.declarator_layer
    (marks_of layers.Declarator-F map-Declarator x)
unfolding expression_marks property_marks key_marks statement_marks block_marks catch_marks declarator_marks
    declarators_marks expressions_marks properties_marks statements_marks
declarator-turn x =
    fold-roll-Declarator Marking Marks Marks Marks Marks Marks Marks Marks Marks Marks Marks marks.expression_layer
    marks.property_layer marks.key_layer marks.statement_layer marks.block_layer marks.catch_layer
    marks.declarator_layer marks.declarators_layer marks.expressions_layer marks.properties_layer
    marks.statements_layer x

declarators-turn : (x : Layer layers.Declarators-F)
    → declarators_marks (views.roll-Declarators x) ≡ marks.declarators_layer
    (marks_of layers.Declarators-F map-Declarators x)
unfolding expression_marks property_marks key_marks statement_marks block_marks catch_marks declarator_marks
    declarators_marks expressions_marks properties_marks statements_marks
declarators-turn x =
    fold-roll-Declarators Marking Marks Marks Marks Marks Marks Marks Marks Marks Marks Marks marks.expression_layer
    marks.property_layer marks.key_layer marks.statement_layer marks.block_layer marks.catch_layer
    marks.declarator_layer marks.declarators_layer marks.expressions_layer marks.properties_layer
    marks.statements_layer x

expressions-turn : (x : Layer layers.Exprs-F)
    → expressions_marks (views.roll-Exprs x) ≡ marks.expressions_layer (marks_of layers.Exprs-F map-Exprs x)
unfolding expression_marks property_marks key_marks statement_marks block_marks catch_marks declarator_marks
    declarators_marks expressions_marks properties_marks statements_marks
expressions-turn x =
    fold-roll-Exprs Marking Marks Marks Marks Marks Marks Marks Marks Marks Marks Marks marks.expression_layer
    marks.property_layer marks.key_layer marks.statement_layer marks.block_layer marks.catch_layer
    marks.declarator_layer marks.declarators_layer marks.expressions_layer marks.properties_layer
    marks.statements_layer x

properties-turn : (x : Layer layers.PropertyDefinitions-F)
    → properties_marks (views.roll-PropertyDefinitions x) ≡ marks.properties_layer
    (marks_of layers.PropertyDefinitions-F map-PropertyDefinitions x)
unfolding expression_marks property_marks key_marks statement_marks block_marks catch_marks declarator_marks
    declarators_marks expressions_marks properties_marks statements_marks
properties-turn x =
    fold-roll-PropertyDefinitions Marking Marks Marks Marks Marks Marks Marks Marks Marks Marks Marks
    marks.expression_layer marks.property_layer marks.key_layer marks.statement_layer marks.block_layer
    marks.catch_layer marks.declarator_layer marks.declarators_layer marks.expressions_layer marks.properties_layer
    marks.statements_layer x

statements-turn : (x : Layer layers.Stmts-F)
    → statements_marks (views.roll-Stmts x) ≡ marks.statements_layer (marks_of layers.Stmts-F map-Stmts x)
unfolding expression_marks property_marks key_marks statement_marks block_marks catch_marks declarator_marks
    declarators_marks expressions_marks properties_marks statements_marks
statements-turn x =
    fold-roll-Stmts Marking Marks Marks Marks Marks Marks Marks Marks Marks Marks Marks marks.expression_layer
    marks.property_layer marks.key_layer marks.statement_layer marks.block_layer marks.catch_layer
    marks.declarator_layer marks.declarators_layer marks.expressions_layer marks.properties_layer
    marks.statements_layer x

block-known : (P : Marked → Type 0) (y : Parts P layers.Block-F)
    → ItemsFit P (block_layer (made_parts layers.Block-F map-Block (known_trees (fits P) layers.Block-F map-Block y)))
    (marks.block_layer (marks_of layers.Block-F map-Block (known_trees (fits P) layers.Block-F map-Block y)))
block-known P b = b.body.1

catch-known : (P : Marked → Type 0) (y : Parts P layers.Catch-F)
    → CatchFits P
    (Some (catch_layer (made_parts layers.Catch-F map-Catch (known_trees (fits P) layers.Catch-F map-Catch y))))
    (marks.catch_layer (marks_of layers.Catch-F map-Catch (known_trees (fits P) layers.Catch-F map-Catch y)))
catch-known P h = catch-fits P _ _ h.block.1

initializer-known : (P : Marked → Type 0) (n : List ℕ) (o : SomeKnown P) →
    let y : Parts P layers.Declarator-F = record { name = n; initializer = o } in
    let d : MadeDeclarator = declarator_layer
    (made_parts layers.Declarator-F map-Declarator (known_trees (fits P) layers.Declarator-F map-Declarator y)) in
    InitializerFits P d.name d.initializer
    (marks.declarator_layer
    (marks_of layers.Declarator-F map-Declarator (known_trees (fits P) layers.Declarator-F map-Declarator y)))
initializer-known P n None = λ c h. tt
initializer-known P n (Some e) = λ c h. let f = e.1 in (f.belongs (naming n c) h, tt)

declarators-listed : (P : Marked → Type 0) (ds : List ((x : Declarator) × (fits P).of_declarator x))
    → DeclaratorsFit P (map declarator_source (map (λ e. e.0) ds)) (together (map declarator_marks (map (λ e. e.0) ds)))
declarators-listed P [] = λ c h. tt
declarators-listed P (d ∷ ds) =
    λ c h. let m = both-marks P (declarator_marks d.0) _ h in ((tt, d.1 c m.0, tt), declarators-listed P ds c m.1)

expressions-listed : (P : Marked → Type 0) (es : List ((x : Expr) × (fits P).of_expression x))
    → ExpressionsFit P (map expression_source (map (λ e. e.0) es)) (in_all (map expression_marks (map (λ e. e.0) es)))
expressions-listed P [] = λ c h. tt
expressions-listed P (e ∷ es) =
    λ c h. let f = e.1 in
    let m = both-marks P (expression_marks e.0).marks _ h in
    (f.belongs (unnamed c) m.0, expressions-listed P es c m.1)

properties-listed : (P : Marked → Type 0) (ps : List ((x : PropertyDefinition) × (fits P).of_property x))
    → PropertiesFit P (map property_source (map (λ e. e.0) ps)) (together (map property_marks (map (λ e. e.0) ps)))
properties-listed P [] = λ c h. record { now_belong = tt; later_belong = tt }
properties-listed P (p ∷ ps) =
    λ c h. let m = both-marks P (property_marks p.0) _ h in p.1 c _ m.0 (properties-listed P ps c m.1)

statements-listed : (P : Marked → Type 0) (ss : List ((x : Stmt) × (fits P).of_statement x))
    → ItemsFit P (items_of (map statement_source (map (λ e. e.0) ss)))
    (together (map statement_marks (map (λ e. e.0) ss)))
statements-listed P [] = no_items-fit P
statements-listed P (s ∷ ss) = and_items-fit P _ _ _ _ s.1 (statements-listed P ss)

-- ---- every tree

grown-expression : (P : Marked → Type 0) (y : Parts P Expr-F)
    → (fits P).of_expression (views.roll-Expr (known_trees (fits P) Expr-F map-Expr y))
grown-expression P y =
    let x : Layer Expr-F = known_trees (fits P) Expr-F map-Expr y in
    subst (λ m. ExpressionFits P m (expression_marks (views.roll-Expr x))) (sym (expression_turn x))
    (subst (λ k. ExpressionFits P (expression_layer (made_parts Expr-F map-Expr x)) k)
    (sym (laws.expression_turn x)) (expression-known P y))

grown-property : (P : Marked → Type 0) (y : Parts P PropertyDefinition-F)
    → (fits P).of_property
    (views.roll-PropertyDefinition (known_trees (fits P) PropertyDefinition-F map-PropertyDefinition y))
grown-property P y =
    let x : Layer PropertyDefinition-F = known_trees (fits P) PropertyDefinition-F map-PropertyDefinition y in
    subst (λ m. PropertyFits P m (property_marks (views.roll-PropertyDefinition x))) (sym (property_turn x))
    (subst (λ k. PropertyFits P (property_layer (made_parts PropertyDefinition-F map-PropertyDefinition x)) k)
    (sym (laws.property_turn x)) (property-known P y))

grown-key : (P : Marked → Type 0) (y : Parts P PropertyName-F)
    → (fits P).of_key (views.roll-PropertyName (known_trees (fits P) PropertyName-F map-PropertyName y))
grown-key P y =
    let x : Layer PropertyName-F = known_trees (fits P) PropertyName-F map-PropertyName y in
    subst (λ m. KeyFits P m (key_marks (views.roll-PropertyName x))) (sym (key_turn x))
    (subst (λ k. KeyFits P (key_layer (made_parts PropertyName-F map-PropertyName x)) k) (sym (laws.key_turn x))
    (key-known P y))

grown-statement : (P : Marked → Type 0) (y : Parts P Stmt-F)
    → (fits P).of_statement (views.roll-Stmt (known_trees (fits P) Stmt-F map-Stmt y))
grown-statement P y =
    let x : Layer Stmt-F = known_trees (fits P) Stmt-F map-Stmt y in
    subst (λ m. ItemFits P m (statement_marks (views.roll-Stmt x))) (sym (statement_turn x))
    (subst (λ k. ItemFits P (statement_layer (made_parts Stmt-F map-Stmt x)) k) (sym (laws.statement_turn x))
    (statement-known P y))

grown-block : (P : Marked → Type 0) (y : Parts P layers.Block-F)
    → (fits P).of_block (views.roll-Block (known_trees (fits P) layers.Block-F map-Block y))
grown-block P y =
    let x : Layer layers.Block-F = known_trees (fits P) layers.Block-F map-Block y in
    subst (λ m. ItemsFit P m (block_marks (views.roll-Block x))) (sym (block_turn x))
    (subst (λ k. ItemsFit P (block_layer (made_parts layers.Block-F map-Block x)) k) (sym (block-turn x))
    (block-known P y))

grown-catch : (P : Marked → Type 0) (y : Parts P layers.Catch-F)
    → (fits P).of_catch (views.roll-Catch (known_trees (fits P) layers.Catch-F map-Catch y))
grown-catch P y =
    let x : Layer layers.Catch-F = known_trees (fits P) layers.Catch-F map-Catch y in
    subst (λ m. CatchFits P (Some m) (catch_marks (views.roll-Catch x))) (sym (catch_turn x))
    (subst (λ k. CatchFits P (Some (catch_layer (made_parts layers.Catch-F map-Catch x))) k) (sym (catch-turn x))
    (catch-known P y))

grown-declarator : (P : Marked → Type 0) (y : Parts P layers.Declarator-F)
    → (fits P).of_declarator (views.roll-Declarator (known_trees (fits P) layers.Declarator-F map-Declarator y))
grown-declarator P y =
    let x : Layer layers.Declarator-F = known_trees (fits P) layers.Declarator-F map-Declarator y in
    subst (λ m. InitializerFits P m.name m.initializer (declarator_marks (views.roll-Declarator x)))
    (sym (declarator_turn x))
    (subst (λ k. InitializerFits P (declarator_layer (made_parts layers.Declarator-F map-Declarator x)).name
    (declarator_layer (made_parts layers.Declarator-F map-Declarator x)).initializer k)
    (sym (declarator-turn x)) (initializer-known P y.name y.initializer))

grown-declarators : (P : Marked → Type 0) (y : Parts P layers.Declarators-F)
    → (fits P).of_declarators (views.roll-Declarators (known_trees (fits P) layers.Declarators-F map-Declarators y))
grown-declarators P y =
    let x : Layer layers.Declarators-F = known_trees (fits P) layers.Declarators-F map-Declarators y in
    subst (λ m. DeclaratorsFit P m (declarators_marks (views.roll-Declarators x))) (sym (declarators_turn x))
    (subst (λ k. DeclaratorsFit P (declarators_layer (made_parts layers.Declarators-F map-Declarators x)) k)
    (sym (declarators-turn x)) (declarators-listed P y.items.items))

grown-expressions : (P : Marked → Type 0) (y : Parts P layers.Exprs-F)
    → (fits P).of_expressions (views.roll-Exprs (known_trees (fits P) layers.Exprs-F map-Exprs y))
grown-expressions P y =
    let x : Layer layers.Exprs-F = known_trees (fits P) layers.Exprs-F map-Exprs y in
    subst (λ m. ExpressionsFit P m (expressions_marks (views.roll-Exprs x))) (sym (expressions_turn x))
    (subst (λ k. ExpressionsFit P (expressions_layer (made_parts layers.Exprs-F map-Exprs x)) k)
    (sym (expressions-turn x)) (expressions-listed P y.items.items))

grown-properties : (P : Marked → Type 0) (y : Parts P layers.PropertyDefinitions-F)
    → (fits P).of_properties
    (views.roll-PropertyDefinitions (known_trees (fits P) layers.PropertyDefinitions-F map-PropertyDefinitions y))
grown-properties P y =
    let x : Layer layers.PropertyDefinitions-F = known_trees (fits P)
    layers.PropertyDefinitions-F map-PropertyDefinitions y in
    subst (λ m. PropertiesFit P m (properties_marks (views.roll-PropertyDefinitions x))) (sym (properties_turn x))
    (subst (λ k. PropertiesFit P
    (properties_layer (made_parts layers.PropertyDefinitions-F map-PropertyDefinitions x)) k)
    (sym (properties-turn x)) (properties-listed P y.items.items))

grown-statements : (P : Marked → Type 0) (y : Parts P layers.Stmts-F)
    → (fits P).of_statements (views.roll-Stmts (known_trees (fits P) layers.Stmts-F map-Stmts y))
grown-statements P y =
    let x : Layer layers.Stmts-F = known_trees (fits P) layers.Stmts-F map-Stmts y in
    subst (λ m. ItemsFit P m (statements_marks (views.roll-Stmts x))) (sym (statements_turn x))
    (subst (λ k. ItemsFit P (statements_layer (made_parts layers.Stmts-F map-Stmts x)) k) (sym (statements-turn x))
    (statements-listed P y.items.items))

grown : (P : Marked → Type 0) → Grows (fits P)
grown P =
    record {
      grows_expression = grown-expression P;
      grows_property = grown-property P;
      grows_key = grown-key P;
      grows_statement = grown-statement P;
      grows_block = grown-block P;
      grows_catch = grown-catch P;
      grows_declarator = grown-declarator P;
      grows_declarators = grown-declarators P;
      grows_expressions = grown-expressions P;
      grows_properties = grown-properties P;
      grows_statements = grown-statements P;
    }

-- what is made of statements belongs to a source that has their marks
pub statements-fit : (P : Marked → Type 0) (ss : Stmts) → ItemsFit P (statements_source ss) (statements_marks ss)
statements-fit P = every-statements (fits P) (grown P)
