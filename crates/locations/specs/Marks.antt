-- The marks of a tree: where its statements begin, where the bodies of its functions end, and where its calls stand.
use Rattle.std.specs.Prelude.{ℕ, List, [], ◌∷◌, ◌++◌, length, Option, Some, None}
use Rattle.std.specs.Option.{option_map}
use Rattle.js_tree.specs.declared.tree.Expr.{Expr}
use Rattle.js_tree.specs.declared.tree.PropertyDefinition.{PropertyDefinition}
use Rattle.js_tree.specs.declared.tree.PropertyName.{PropertyName}
use Rattle.js_tree.specs.declared.tree.Stmt.{Stmt}
use Rattle.js_tree.specs.declared.tree.Block.{Block}
use Rattle.js_tree.specs.declared.tree.Catch.{Catch}
use Rattle.js_tree.specs.declared.tree.Declarator.{Declarator}
use Rattle.js_tree.specs.declared.tree.Declarators.{Declarators}
use Rattle.js_tree.specs.declared.tree.Exprs.{Exprs}
use Rattle.js_tree.specs.declared.tree.PropertyDefinitions.{PropertyDefinitions}
use Rattle.js_tree.specs.declared.tree.Stmts.{Stmts}
use Rattle.js_tree.specs.declared.tree.Expr.TheOpen as layers
use Rattle.js_tree.specs.declared.tree.Expr.TheOpen.{Expr-F, Stmt-F, PropertyName-F, PropertyDefinition-F}
use Rattle.js_tree.specs.declared.tree.Expr.TheFolds.{fold-Expr, fold-PropertyDefinition, fold-PropertyName, fold-Stmt, fold-Block, fold-Catch, fold-Declarator, fold-Declarators, fold-Exprs, fold-PropertyDefinitions, fold-Stmts}
use Rattle.js_semantics.specs.declared.form.Mark.{Mark}
use Rattle.js_semantics.specs.declared.form.Mark.TheVariants.{Start as start, BeforeEnd as before_end}
use Rattle.js_semantics.specs.Makers.{place_or}
use Rattle.locations.specs.declared.spot.SpotKind.{SpotKind}
use Rattle.locations.specs.declared.spot.SpotKind.TheVariants as kinds
use Rattle.locations.specs.declared.marks.Marked.{Marked}

-- some marks of a source
abbrev pub Marks : Type 0
Marks = List Marked

-- one mark
abbrev pub at : SpotKind → Mark → Marks
at kind mark = record { mark = mark; kind = kind } ∷ []

-- an expression: its node, its last word where it ends in a name, and the marks in it
pub record Marking : Type 0 where
  pub node : ℕ
  pub last_word : Option Mark
  pub marks : Marks

-- ---- parts

-- the marks of some parts
abbrev pub together : List Marks → Marks
together [] = []
together (ms ∷ rest) = ms ++ together rest

-- the marks in some expressions
abbrev pub in_all : List Marking → Marks
in_all [] = []
in_all (e ∷ es) = e.marks ++ in_all es

-- the marks of a part that may be absent
abbrev pub where_present : Option Marks → Marks
where_present None = []
where_present (Some ms) = ms

-- the marks in an expression that may be absent
abbrev pub in_present : Option Marking → Marks
in_present None = []
in_present (Some e) = e.marks

-- ---- expressions

-- an expression that doesn't end in a name
abbrev pub marking : ℕ → Marks → Marking
marking node ms = record { node = node; last_word = None; marks = ms }

-- a name, which is its own last word
abbrev pub name_marking : ℕ → Marking
name_marking node = record { node = node; last_word = Some (start node); marks = [] }

-- a member with a fixed key, which is its last word, of so many units
abbrev pub member_marking : ℕ → Marking → ℕ → Marking
member_marking node object len = record { node = node; last_word = Some (before_end node len); marks = object.marks }

-- a call stands at the last word of its callee, else at its `(`
abbrev pub in_call : Marking → ℕ → Marks → Marks
in_call callee parentheses arguments =
    callee.marks ++ at kinds.Call (place_or callee.last_word parentheses) ++ arguments

-- the body of a function with its closing brace
abbrev pub in_function : ℕ → Marks → Marks
in_function node body = body ++ at kinds.Return (before_end node 1)

-- an arrow's expression body
abbrev pub in_returned : Marking → Marks
in_returned body = at kinds.Return (start body.node) ++ body.marks

-- ---- statements

-- the start of a statement that isn't a block, an empty statement or a function declaration
abbrev pub beginning : SpotKind → ℕ → Marks
beginning kind node = at kind (start node)

-- what is known of each type of tree
abbrev pub Layer :
    (Type 0 → Type 0 → Type 0 → Type 0 → Type 0 → Type 0 → Type 0 → Type 0 → Type 0 → Type 0 → Type 0 → Type 0)
    → Type 0
Layer F = F Marking Marks Marks Marks Marks Marks Marks Marks Marks Marks Marks

-- ---- one level of each type, with what is known of its parts

-- one level of an expression, with its node, its last word and the marks in it
abbrev pub expression_layer : Layer Expr-F → Marking
expression_layer (Expr-F.This node) = marking node.0 []
expression_layer (Expr-F.Name node n) = name_marking node.0
expression_layer (Expr-F.Number node v) = marking node.0 []
expression_layer (Expr-F.String node us) = marking node.0 []
expression_layer (Expr-F.Boolean node b) = marking node.0 []
expression_layer (Expr-F.Null node) = marking node.0 []
expression_layer (Expr-F.Array node es) = marking node.0 es
expression_layer (Expr-F.Object node ps) = marking node.0 ps
expression_layer (Expr-F.Function node n ps body) = marking node.0 (in_function node.0 body)
expression_layer (Expr-F.Arrow node ps e) = marking node.0 (in_returned e.value)
expression_layer (Expr-F.ArrowBlock node ps body) = marking node.0 (in_function node.0 body)
expression_layer (Expr-F.Parenthesized node e) = marking node.0 e.value.marks
expression_layer (Expr-F.Member node e n) = member_marking node.0 e.value (length n)
expression_layer (Expr-F.Index node e k) = marking node.0 (e.value.marks ++ k.value.marks)
expression_layer (Expr-F.Call node f parentheses es) = marking node.0 (in_call f.value parentheses.0 es)
expression_layer (Expr-F.Postfix node o e) = marking node.0 e.value.marks
expression_layer (Expr-F.Prefix node o e) = marking node.0 e.value.marks
expression_layer (Expr-F.Unary node o e) = marking node.0 e.value.marks
expression_layer (Expr-F.Binary node o l r) = marking node.0 (l.value.marks ++ r.value.marks)
expression_layer (Expr-F.Conditional node t a b) = marking node.0 (t.value.marks ++ a.value.marks ++ b.value.marks)
expression_layer (Expr-F.Assign node o t e) = marking node.0 (t.value.marks ++ e.value.marks)
expression_layer (Expr-F.Comma node es) = marking node.0 es

-- one level of the key of a member
abbrev pub key_layer : Layer PropertyName-F → Marks
key_layer (PropertyName-F.Word us) = []
key_layer (PropertyName-F.StringLiteral us) = []
key_layer (PropertyName-F.NumericLiteral v) = []
key_layer (PropertyName-F.Computed e) = e.marks

-- one level of a member of an object literal; the body of a method has a closing brace
abbrev pub property_layer : Layer PropertyDefinition-F → Marks
property_layer (PropertyDefinition-F.Shorthand n) = []
property_layer (PropertyDefinition-F.Value k e) = k ++ e.marks
property_layer (PropertyDefinition-F.Method node k ps body) = k ++ in_function node.0 body

-- a block, an empty statement and a function declaration have no place of their own
abbrev pub statement_layer : Layer Stmt-F → Marks
statement_layer (Stmt-F.Block b) = b
statement_layer (Stmt-F.Lexical node c ds) = beginning kinds.Plain node.0 ++ ds
statement_layer (Stmt-F.Empty node) = []
statement_layer (Stmt-F.Expression node e) = beginning kinds.Plain node.0 ++ e.marks
statement_layer (Stmt-F.If node e s t) =
    beginning kinds.Plain node.0 ++ e.marks ++ s.value ++ where_present (option_map (λ b. b.value) t)
statement_layer (Stmt-F.DoWhile node s e) = beginning kinds.Plain node.0 ++ s.value ++ e.marks
statement_layer (Stmt-F.While node e s) = beginning kinds.Plain node.0 ++ e.marks ++ s.value
statement_layer (Stmt-F.For node i t u s) =
    beginning kinds.Plain node.0 ++ in_present i ++ in_present t ++ in_present u ++ s.value
statement_layer (Stmt-F.ForLexical node c ds t u s) =
    beginning kinds.Plain node.0 ++ ds ++ in_present t ++ in_present u ++ s.value
statement_layer (Stmt-F.ForOf node c n e s) = beginning kinds.Plain node.0 ++ e.marks ++ s.value
statement_layer (Stmt-F.Continue node) = beginning kinds.Plain node.0
statement_layer (Stmt-F.Break node) = beginning kinds.Plain node.0
statement_layer (Stmt-F.Return node e) = beginning kinds.Return node.0 ++ in_present e
statement_layer (Stmt-F.Throw node e) = beginning kinds.Plain node.0 ++ e.marks
statement_layer (Stmt-F.Try node b h f) = beginning kinds.Plain node.0 ++ b ++ where_present h ++ where_present f
statement_layer (Stmt-F.Debugger node) = beginning kinds.Debugger node.0
statement_layer (Stmt-F.FunctionDeclaration node n ps body) = in_function node.0 body

-- one level of a block, which has the marks of its statements
abbrev pub block_layer : Layer layers.Block-F → Marks
block_layer b = b.body

-- one level of a catch
abbrev pub catch_layer : Layer layers.Catch-F → Marks
catch_layer c = c.block

-- one level of a declarator
abbrev pub declarator_layer : Layer layers.Declarator-F → Marks
declarator_layer d = in_present d.initializer

-- one level of the declarators of a declaration
abbrev pub declarators_layer : Layer layers.Declarators-F → Marks
declarators_layer ds = together ds.items.items

-- one level of a list of expressions
abbrev pub expressions_layer : Layer layers.Exprs-F → Marks
expressions_layer es = in_all es.items.items

-- one level of the members of an object literal
abbrev pub properties_layer : Layer layers.PropertyDefinitions-F → Marks
properties_layer ps = together ps.items.items

-- one level of a list of statements
abbrev pub statements_layer : Layer layers.Stmts-F → Marks
statements_layer ss = together ss.items.items

-- ---- the marks of each type of tree

-- the marks of an expression, with its node and its last word
unfoldable pub expression_marks : Expr → Marking
expression_marks =
    fold-Expr Marking Marks Marks Marks Marks Marks Marks Marks Marks Marks Marks expression_layer property_layer
    key_layer statement_layer block_layer catch_layer declarator_layer declarators_layer expressions_layer
    properties_layer statements_layer

-- the marks of a member of an object literal
unfoldable pub property_marks : PropertyDefinition → Marks
property_marks =
    fold-PropertyDefinition Marking Marks Marks Marks Marks Marks Marks Marks Marks Marks Marks expression_layer
    property_layer key_layer statement_layer block_layer catch_layer declarator_layer declarators_layer
    expressions_layer properties_layer statements_layer

-- the marks of the key of a member
unfoldable pub key_marks : PropertyName → Marks
key_marks =
    fold-PropertyName Marking Marks Marks Marks Marks Marks Marks Marks Marks Marks Marks expression_layer
    property_layer key_layer statement_layer block_layer catch_layer declarator_layer declarators_layer
    expressions_layer properties_layer statements_layer

-- the marks of a statement or declaration
unfoldable pub statement_marks : Stmt → Marks
statement_marks =
    fold-Stmt Marking Marks Marks Marks Marks Marks Marks Marks Marks Marks Marks expression_layer property_layer
    key_layer statement_layer block_layer catch_layer declarator_layer declarators_layer expressions_layer
    properties_layer statements_layer

-- the marks of a block
unfoldable pub block_marks : Block → Marks
block_marks =
    fold-Block Marking Marks Marks Marks Marks Marks Marks Marks Marks Marks Marks expression_layer property_layer
    key_layer statement_layer block_layer catch_layer declarator_layer declarators_layer expressions_layer
    properties_layer statements_layer

-- the marks of a catch
unfoldable pub catch_marks : Catch → Marks
catch_marks =
    fold-Catch Marking Marks Marks Marks Marks Marks Marks Marks Marks Marks Marks expression_layer property_layer
    key_layer statement_layer block_layer catch_layer declarator_layer declarators_layer expressions_layer
    properties_layer statements_layer

-- the marks of a declarator
unfoldable pub declarator_marks : Declarator → Marks
declarator_marks =
    fold-Declarator Marking Marks Marks Marks Marks Marks Marks Marks Marks Marks Marks expression_layer property_layer
    key_layer statement_layer block_layer catch_layer declarator_layer declarators_layer expressions_layer
    properties_layer statements_layer

-- the marks of the declarators of a declaration
unfoldable pub declarators_marks : Declarators → Marks
declarators_marks =
    fold-Declarators Marking Marks Marks Marks Marks Marks Marks Marks Marks Marks Marks expression_layer property_layer
    key_layer statement_layer block_layer catch_layer declarator_layer declarators_layer expressions_layer
    properties_layer statements_layer

-- the marks of a list of expressions
unfoldable pub expressions_marks : Exprs → Marks
expressions_marks =
    fold-Exprs Marking Marks Marks Marks Marks Marks Marks Marks Marks Marks Marks expression_layer property_layer
    key_layer statement_layer block_layer catch_layer declarator_layer declarators_layer expressions_layer
    properties_layer statements_layer

-- the marks of the members of an object literal
unfoldable pub properties_marks : PropertyDefinitions → Marks
properties_marks =
    fold-PropertyDefinitions Marking Marks Marks Marks Marks Marks Marks Marks Marks Marks Marks expression_layer
    property_layer key_layer statement_layer block_layer catch_layer declarator_layer declarators_layer
    expressions_layer properties_layer statements_layer

-- the marks of a list of statements
unfoldable pub statements_marks : Stmts → Marks
statements_marks =
    fold-Stmts Marking Marks Marks Marks Marks Marks Marks Marks Marks Marks Marks expression_layer property_layer
    key_layer statement_layer block_layer catch_layer declarator_layer declarators_layer expressions_layer
    properties_layer statements_layer
