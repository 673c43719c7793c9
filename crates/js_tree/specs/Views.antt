-- What the code's trees are, without places in memory and without numbers.
use Rattle.std.specs.Prelude.{List, [], ◌∷◌, Option, Some, None}
use Rattle.std.specs.Option.{option_map}
use Rattle.js_tree.specs.declared.tree.ArrowParameters.{ArrowParameters}
use Rattle.js_tree.specs.declared.tree.ArrowParameters.TheVariants as arrows
use Rattle.js_tree.specs.declared.tree.Expr.{Expr}
use Rattle.js_tree.specs.declared.tree.Stmt.{Stmt}
use Rattle.js_tree.specs.declared.tree.Exprs.{Exprs}
use Rattle.js_tree.specs.declared.tree.Stmts.{Stmts}
use Rattle.js_tree.specs.declared.tree.PropertyName.{PropertyName}
use Rattle.js_tree.specs.declared.tree.PropertyDefinition.{PropertyDefinition}
use Rattle.js_tree.specs.declared.tree.PropertyDefinitions.{PropertyDefinitions}
use Rattle.js_tree.specs.declared.tree.Declarator.{Declarator}
use Rattle.js_tree.specs.declared.tree.Declarators.{Declarators}
use Rattle.js_tree.specs.declared.tree.Block.{Block}
use Rattle.js_tree.specs.declared.tree.Catch.{Catch}
use Rattle.js_tree.specs.declared.tree.Expr.TheOpen as layers
use Rattle.js_tree.specs.declared.tree.Expr.TheOpen.{Expr-F, Stmt-F, PropertyName-F, PropertyDefinition-F}
use Rattle.js_tree.specs.declared.tree.Expr.TheFolds.{fold-Expr, fold-Stmt, fold-Exprs, fold-Stmts, fold-PropertyName, fold-PropertyDefinition, fold-PropertyDefinitions, fold-Declarator, fold-Declarators, fold-Block, fold-Catch}
use Rattle.js_tree.specs.Trees as trees
use Rattle.js_tree.specs.Trees.{Expression, Expressions, OptionalExpression, Key, PropertyDefinition as Property, PropertyDefinitions as Properties, Statement, Statements, Handler, Finalizer, Parameters}

-- the parameters of an arrow function
abbrev pub parameters_view : ArrowParameters → Parameters
parameters_view (arrows.Name n) = trees.one_name n
parameters_view (arrows.List ns) = trees.name_list ns

-- a list of expressions as a tree
abbrev pub expressions : List Expression → Expressions
expressions [] = trees.no_expressions
expressions (e ∷ es) = trees.an_expression e (expressions es)

-- a list of statements as a tree
abbrev pub statements : List Statement → Statements
statements [] = trees.no_statements
statements (s ∷ ss) = trees.a_statement s (statements ss)

-- the members of an object literal as a tree
abbrev pub properties : List Property → Properties
properties [] = trees.no_properties
properties (p ∷ ps) = trees.a_property p (properties ps)

-- the declarators of a declaration as a tree
abbrev pub declarators : List trees.Declarator → trees.Declarators
declarators [] = trees.no_declarators
declarators (d ∷ ds) = trees.a_declarator d (declarators ds)

-- an expression that may be left out
abbrev pub optional : Option Expression → OptionalExpression
optional None = trees.omitted
optional (Some e) = trees.present e

-- the catch of a `try`, which may be left out
abbrev pub handler : Option Handler → Handler
handler None = trees.no_catch
handler (Some h) = h

-- the finally of a `try`, which may be left out
abbrev pub finalizer : Option Statements → Finalizer
finalizer None = trees.no_finally
finalizer (Some ss) = trees.finally ss

-- what each type stands for: a block its statements, a catch a handler, every other its clean tree
abbrev pub Layer :
    (Type 0 → Type 0 → Type 0 → Type 0 → Type 0 → Type 0 → Type 0 → Type 0 → Type 0 → Type 0 → Type 0 → Type 0)
    → Type 0
Layer F =
    F Expression Property Key Statement Statements Handler trees.Declarator trees.Declarators Expressions Properties
    Statements

-- one level of an expression, with the clean trees of its parts
abbrev pub expression_step : Layer Expr-F → Expression
expression_step (Expr-F.This node) = trees.this
expression_step (Expr-F.Name node n) = trees.name n
expression_step (Expr-F.Number node v) = trees.number v.value
expression_step (Expr-F.String node v) = trees.string v
expression_step (Expr-F.Boolean node v) = trees.boolean v
expression_step (Expr-F.Null node) = trees.null
expression_step (Expr-F.Array node es) = trees.array es
expression_step (Expr-F.Object node ps) = trees.object ps
expression_step (Expr-F.Function node n ps body) = trees.function n ps body
expression_step (Expr-F.Arrow node ps body) = trees.arrow (parameters_view ps) body.value
expression_step (Expr-F.ArrowBlock node ps body) = trees.arrow_block (parameters_view ps) body
expression_step (Expr-F.Parenthesized node e) = trees.parenthesized e.value
expression_step (Expr-F.Member node e n) = trees.member e.value n
expression_step (Expr-F.Index node e k) = trees.index e.value k.value
expression_step (Expr-F.Call node f parentheses es) = trees.call f.value es
expression_step (Expr-F.Postfix node o e) = trees.postfix o e.value
expression_step (Expr-F.Prefix node o e) = trees.prefix o e.value
expression_step (Expr-F.Unary node o e) = trees.unary o e.value
expression_step (Expr-F.Binary node o l r) = trees.binary o l.value r.value
expression_step (Expr-F.Conditional node t c a) = trees.conditional t.value c.value a.value
expression_step (Expr-F.Assign node o t v) = trees.assign o t.value v.value
expression_step (Expr-F.Comma node es) = trees.comma es

-- one level of the key of a member
abbrev pub key_step : Layer PropertyName-F → Key
key_step (PropertyName-F.Word w) = trees.word_key w
key_step (PropertyName-F.StringLiteral s) = trees.string_key s
key_step (PropertyName-F.NumericLiteral v) = trees.number_key v.value
key_step (PropertyName-F.Computed e) = trees.computed_key e

-- one level of a member of an object literal
abbrev pub property_step : Layer PropertyDefinition-F → Property
property_step (PropertyDefinition-F.Shorthand n) = trees.shorthand n
property_step (PropertyDefinition-F.Value k e) = trees.value k e
property_step (PropertyDefinition-F.Method node k ps body) = trees.method k ps body

-- one level of a statement or declaration
abbrev pub statement_step : Layer Stmt-F → Statement
statement_step (Stmt-F.Block b) = trees.block b
statement_step (Stmt-F.Lexical node c ds) = trees.lexical c ds
statement_step (Stmt-F.Empty node) = trees.empty
statement_step (Stmt-F.Expression node e) = trees.expression e
statement_step (Stmt-F.If node e s None) = trees.if_then e s.value
statement_step (Stmt-F.If node e s (Some t)) = trees.if_else e s.value t.value
statement_step (Stmt-F.DoWhile node s e) = trees.do_while s.value e
statement_step (Stmt-F.While node e s) = trees.while e s.value
statement_step (Stmt-F.For node i t u s) = trees.for (optional i) (optional t) (optional u) s.value
statement_step (Stmt-F.ForLexical node c ds t u s) = trees.for_lexical c ds (optional t) (optional u) s.value
statement_step (Stmt-F.ForOf node c n e s) = trees.for_of c n e s.value
statement_step (Stmt-F.Continue node) = trees.continue
statement_step (Stmt-F.Break node) = trees.break
statement_step (Stmt-F.Return node e) = trees.return (optional e)
statement_step (Stmt-F.Throw node e) = trees.throw e
statement_step (Stmt-F.Try node b h f) = trees.try b (handler h) (finalizer f)
statement_step (Stmt-F.Debugger node) = trees.debugger
statement_step (Stmt-F.FunctionDeclaration node n ps body) = trees.declared_function n ps body

-- one level of a block, which is its statements
abbrev pub block_step : Layer layers.Block-F → Statements
block_step b = b.body

-- one level of a catch
abbrev pub catch_step : Layer layers.Catch-F → Handler
catch_step c = trees.catch c.parameter c.block

-- one level of a declarator
abbrev pub declarator_step : Layer layers.Declarator-F → trees.Declarator
declarator_step d = trees.declarator d.name (optional d.initializer)

-- one level of the declarators of a declaration
abbrev pub declarators_step : Layer layers.Declarators-F → trees.Declarators
declarators_step ds = declarators ds.items.items

-- one level of a list of expressions
abbrev pub expressions_step : Layer layers.Exprs-F → Expressions
expressions_step es = expressions es.items.items

-- one level of the members of an object literal
abbrev pub properties_step : Layer layers.PropertyDefinitions-F → Properties
properties_step ps = properties ps.items.items

-- one level of a list of statements
abbrev pub statements_step : Layer layers.Stmts-F → Statements
statements_step ss = statements ss.items.items

-- the clean tree of an expression
unfoldable pub expression_view : Expr → Expression
expression_view =
    fold-Expr Expression Property Key Statement Statements Handler trees.Declarator trees.Declarators Expressions
    Properties Statements expression_step property_step key_step statement_step block_step catch_step
    declarator_step declarators_step expressions_step properties_step statements_step

-- the clean tree of a member of an object literal
unfoldable pub property_view : PropertyDefinition → Property
property_view =
    fold-PropertyDefinition Expression Property Key Statement Statements Handler trees.Declarator trees.Declarators
    Expressions Properties Statements expression_step property_step key_step statement_step block_step catch_step
    declarator_step declarators_step expressions_step properties_step statements_step

-- the clean tree of the key of a member
unfoldable pub key_view : PropertyName → Key
key_view =
    fold-PropertyName Expression Property Key Statement Statements Handler trees.Declarator trees.Declarators
    Expressions Properties Statements expression_step property_step key_step statement_step block_step catch_step
    declarator_step declarators_step expressions_step properties_step statements_step

-- the clean tree of a statement or declaration
unfoldable pub statement_view : Stmt → Statement
statement_view =
    fold-Stmt Expression Property Key Statement Statements Handler trees.Declarator trees.Declarators Expressions
    Properties Statements expression_step property_step key_step statement_step block_step catch_step
    declarator_step declarators_step expressions_step properties_step statements_step

-- the clean tree of a block: its statements
unfoldable pub block_view : Block → Statements
block_view =
    fold-Block Expression Property Key Statement Statements Handler trees.Declarator trees.Declarators Expressions
    Properties Statements expression_step property_step key_step statement_step block_step catch_step
    declarator_step declarators_step expressions_step properties_step statements_step

-- the clean tree of a catch
unfoldable pub catch_view : Catch → Handler
catch_view =
    fold-Catch Expression Property Key Statement Statements Handler trees.Declarator trees.Declarators Expressions
    Properties Statements expression_step property_step key_step statement_step block_step catch_step
    declarator_step declarators_step expressions_step properties_step statements_step

-- the clean tree of a declarator
unfoldable pub declarator_view : Declarator → trees.Declarator
declarator_view =
    fold-Declarator Expression Property Key Statement Statements Handler trees.Declarator trees.Declarators Expressions
    Properties Statements expression_step property_step key_step statement_step block_step catch_step
    declarator_step declarators_step expressions_step properties_step statements_step

-- the clean tree of the declarators of a declaration
unfoldable pub declarators_view : Declarators → trees.Declarators
declarators_view =
    fold-Declarators Expression Property Key Statement Statements Handler trees.Declarator trees.Declarators Expressions
    Properties Statements expression_step property_step key_step statement_step block_step catch_step
    declarator_step declarators_step expressions_step properties_step statements_step

-- the clean tree of a list of expressions
unfoldable pub expressions_view : Exprs → Expressions
expressions_view =
    fold-Exprs Expression Property Key Statement Statements Handler trees.Declarator trees.Declarators Expressions
    Properties Statements expression_step property_step key_step statement_step block_step catch_step
    declarator_step declarators_step expressions_step properties_step statements_step

-- the clean tree of the members of an object literal
unfoldable pub properties_view : PropertyDefinitions → Properties
properties_view =
    fold-PropertyDefinitions Expression Property Key Statement Statements Handler trees.Declarator trees.Declarators
    Expressions Properties Statements expression_step property_step key_step statement_step block_step catch_step
    declarator_step declarators_step expressions_step properties_step statements_step

-- the clean tree of a list of statements
unfoldable pub statements_view : Stmts → Statements
statements_view =
    fold-Stmts Expression Property Key Statement Statements Handler trees.Declarator trees.Declarators Expressions
    Properties Statements expression_step property_step key_step statement_step block_step catch_step
    declarator_step declarators_step expressions_step properties_step statements_step

-- an expression that may be left out
abbrev pub optional_view : Option Expr → OptionalExpression
optional_view e = optional (option_map expression_view e)

-- a catch that may be left out
abbrev pub handler_view : Option Catch → Handler
handler_view h = handler (option_map catch_view h)

-- a finally that may be left out
abbrev pub finalizer_view : Option Block → Finalizer
finalizer_view f = finalizer (option_map block_view f)
