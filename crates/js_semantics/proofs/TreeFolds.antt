-- A law of the parser's trees, from one lemma for each type of tree: of a tree whose parts it is known of.
use Rattle.std.proofs.Common.{◌≡◌, subst}
use Rattle.js_tree.specs.declared.tree.Expr.{Expr}
use Rattle.js_tree.specs.declared.tree.PropertyDefinition.{PropertyDefinition}
use Rattle.js_tree.specs.declared.tree.PropertyName.{PropertyName}
use Rattle.js_tree.specs.declared.tree.Stmt.{Stmt}
use Rattle.js_tree.specs.declared.tree.Block.{Block}
use Rattle.js_tree.specs.declared.tree.Catch.{Catch}
use Rattle.js_tree.specs.declared.tree.Declarator.{Declarator}
use Rattle.js_tree.specs.declared.tree.Declarators.{Declarators}
use Rattle.js_tree.specs.declared.tree.Exprs.{Exprs}
use Rattle.js_tree.specs.declared.tree.PropertyDefinitions.{PropertyDefinitions}
use Rattle.js_tree.specs.declared.tree.Stmts.{Stmts}
use Rattle.js_tree.specs.declared.tree.Expr.TheOpen as layers
use Rattle.js_tree.specs.declared.tree.Expr.TheOpen.{Expr-F, Stmt-F, PropertyName-F, PropertyDefinition-F}
use Rattle.js_tree.specs.declared.tree.Expr.TheFolds.{map-Expr, map-PropertyDefinition, map-PropertyName, map-Stmt, map-Block, map-Catch, map-Declarator, map-Declarators, map-Exprs, map-PropertyDefinitions, map-Stmts, ind-Expr, ind-Stmts}
use Rattle.js_tree.specs.declared.tree.Expr.TheViews as views
use Rattle.js_tree.proofs.ViewLemmas.{Layer}

-- ---- one level of each type of tree

abbrev pub Former : Type 1
Former = Type 0 → Type 0 → Type 0 → Type 0 → Type 0 → Type 0 → Type 0 → Type 0 → Type 0 → Type 0 → Type 0 → Type 0

-- its parts changed by one function for each type
abbrev pub Mapper : Former → Type 1
Mapper F =
    (A B C D E G H I J K L A' B' C' D' E' G' H' I' J' K' L' : Type 0)
    → (A → A')
    → (B → B')
    → (C → C')
    → (D → D')
    → (E → E')
    → (G → G')
    → (H → H')
    → (I → I')
    → (J → J')
    → (K → K')
    → (L → L')
    → F A B C D E G H I J K L
    → F A' B' C' D' E' G' H' I' J' K' L'

-- ---- laws of trees

-- what is claimed of a tree of each type
pub record Claims : Type 1 where
  pub of_expression : Expr → Type 0
  pub of_property : PropertyDefinition → Type 0
  pub of_key : PropertyName → Type 0
  pub of_statement : Stmt → Type 0
  pub of_block : Block → Type 0
  pub of_catch : Catch → Type 0
  pub of_declarator : Declarator → Type 0
  pub of_declarators : Declarators → Type 0
  pub of_expressions : Exprs → Type 0
  pub of_properties : PropertyDefinitions → Type 0
  pub of_statements : Stmts → Type 0

-- trees of which it is known, in the places of one level
abbrev pub Known : Claims → Former → Type 0
Known P F =
    F ((x : Expr) × P.of_expression x) ((x : PropertyDefinition) × P.of_property x) ((x : PropertyName) × P.of_key x)
    ((x : Stmt) × P.of_statement x) ((x : Block) × P.of_block x) ((x : Catch) × P.of_catch x)
    ((x : Declarator) × P.of_declarator x) ((x : Declarators) × P.of_declarators x)
    ((x : Exprs) × P.of_expressions x) ((x : PropertyDefinitions) × P.of_properties x)
    ((x : Stmts) × P.of_statements x)

abbrev pub known_trees : (P : Claims) (F : Former) → Mapper F → Known P F → Layer F
known_trees P F change =
    change ((x : Expr) × P.of_expression x) ((x : PropertyDefinition) × P.of_property x)
    ((x : PropertyName) × P.of_key x) ((x : Stmt) × P.of_statement x) ((x : Block) × P.of_block x)
    ((x : Catch) × P.of_catch x) ((x : Declarator) × P.of_declarator x) ((x : Declarators) × P.of_declarators x)
    ((x : Exprs) × P.of_expressions x) ((x : PropertyDefinitions) × P.of_properties x)
    ((x : Stmts) × P.of_statements x)
    Expr PropertyDefinition PropertyName Stmt Block Catch Declarator Declarators Exprs PropertyDefinitions Stmts
    (λ e. e.0) (λ e. e.0) (λ e. e.0) (λ e. e.0) (λ e. e.0) (λ e. e.0) (λ e. e.0) (λ e. e.0) (λ e. e.0) (λ e. e.0)
    (λ e. e.0)

-- it holds of a tree whose parts it is known of
pub record Grows (P : Claims) : Type 0 where
  pub grows_expression : (y : Known P Expr-F) → P.of_expression (views.roll-Expr (known_trees P Expr-F map-Expr y))
  pub grows_property : (y : Known P PropertyDefinition-F)
      → P.of_property (views.roll-PropertyDefinition (known_trees P PropertyDefinition-F map-PropertyDefinition y))
  pub grows_key : (y : Known P PropertyName-F)
      → P.of_key (views.roll-PropertyName (known_trees P PropertyName-F map-PropertyName y))
  pub grows_statement : (y : Known P Stmt-F) → P.of_statement (views.roll-Stmt (known_trees P Stmt-F map-Stmt y))
  pub grows_block : (y : Known P layers.Block-F)
      → P.of_block (views.roll-Block (known_trees P layers.Block-F map-Block y))
  pub grows_catch : (y : Known P layers.Catch-F)
      → P.of_catch (views.roll-Catch (known_trees P layers.Catch-F map-Catch y))
  pub grows_declarator : (y : Known P layers.Declarator-F)
      → P.of_declarator (views.roll-Declarator (known_trees P layers.Declarator-F map-Declarator y))
  pub grows_declarators : (y : Known P layers.Declarators-F)
      → P.of_declarators (views.roll-Declarators (known_trees P layers.Declarators-F map-Declarators y))
  pub grows_expressions : (y : Known P layers.Exprs-F)
      → P.of_expressions (views.roll-Exprs (known_trees P layers.Exprs-F map-Exprs y))
  pub grows_properties : (y : Known P layers.PropertyDefinitions-F)
      → P.of_properties
      (views.roll-PropertyDefinitions (known_trees P layers.PropertyDefinitions-F map-PropertyDefinitions y))
  pub grows_statements : (y : Known P layers.Stmts-F)
      → P.of_statements (views.roll-Stmts (known_trees P layers.Stmts-F map-Stmts y))

expression-step : (P : Claims)
    → Grows P
    → (x : Layer Expr-F) (y : Known P Expr-F)
    → known_trees P Expr-F map-Expr y ≡ x
    → P.of_expression (views.roll-Expr x)
expression-step P g x y is = subst (λ (z : Layer Expr-F). P.of_expression (views.roll-Expr z)) is (g.grows_expression y)

property-step : (P : Claims)
    → Grows P
    → (x : Layer PropertyDefinition-F) (y : Known P PropertyDefinition-F)
    → known_trees P PropertyDefinition-F map-PropertyDefinition y ≡ x
    → P.of_property (views.roll-PropertyDefinition x)
property-step P g x y is =
    subst (λ (z : Layer PropertyDefinition-F). P.of_property (views.roll-PropertyDefinition z)) is (g.grows_property y)

key-step : (P : Claims)
    → Grows P
    → (x : Layer PropertyName-F) (y : Known P PropertyName-F)
    → known_trees P PropertyName-F map-PropertyName y ≡ x
    → P.of_key (views.roll-PropertyName x)
key-step P g x y is = subst (λ (z : Layer PropertyName-F). P.of_key (views.roll-PropertyName z)) is (g.grows_key y)

statement-step : (P : Claims)
    → Grows P
    → (x : Layer Stmt-F) (y : Known P Stmt-F)
    → known_trees P Stmt-F map-Stmt y ≡ x
    → P.of_statement (views.roll-Stmt x)
statement-step P g x y is = subst (λ (z : Layer Stmt-F). P.of_statement (views.roll-Stmt z)) is (g.grows_statement y)

block-step : (P : Claims)
    → Grows P
    → (x : Layer layers.Block-F) (y : Known P layers.Block-F)
    → known_trees P layers.Block-F map-Block y ≡ x
    → P.of_block (views.roll-Block x)
block-step P g x y is = subst (λ (z : Layer layers.Block-F). P.of_block (views.roll-Block z)) is (g.grows_block y)

catch-step : (P : Claims)
    → Grows P
    → (x : Layer layers.Catch-F) (y : Known P layers.Catch-F)
    → known_trees P layers.Catch-F map-Catch y ≡ x
    → P.of_catch (views.roll-Catch x)
catch-step P g x y is = subst (λ (z : Layer layers.Catch-F). P.of_catch (views.roll-Catch z)) is (g.grows_catch y)

declarator-step : (P : Claims)
    → Grows P
    → (x : Layer layers.Declarator-F) (y : Known P layers.Declarator-F)
    → known_trees P layers.Declarator-F map-Declarator y ≡ x
    → P.of_declarator (views.roll-Declarator x)
declarator-step P g x y is =
    subst (λ (z : Layer layers.Declarator-F). P.of_declarator (views.roll-Declarator z)) is (g.grows_declarator y)

declarators-step : (P : Claims)
    → Grows P
    → (x : Layer layers.Declarators-F) (y : Known P layers.Declarators-F)
    → known_trees P layers.Declarators-F map-Declarators y ≡ x
    → P.of_declarators (views.roll-Declarators x)
declarators-step P g x y is =
    subst (λ (z : Layer layers.Declarators-F). P.of_declarators (views.roll-Declarators z)) is (g.grows_declarators y)

expressions-step : (P : Claims)
    → Grows P
    → (x : Layer layers.Exprs-F) (y : Known P layers.Exprs-F)
    → known_trees P layers.Exprs-F map-Exprs y ≡ x
    → P.of_expressions (views.roll-Exprs x)
expressions-step P g x y is =
    subst (λ (z : Layer layers.Exprs-F). P.of_expressions (views.roll-Exprs z)) is (g.grows_expressions y)

properties-step : (P : Claims)
    → Grows P
    → (x : Layer layers.PropertyDefinitions-F) (y : Known P layers.PropertyDefinitions-F)
    → known_trees P layers.PropertyDefinitions-F map-PropertyDefinitions y ≡ x
    → P.of_properties (views.roll-PropertyDefinitions x)
properties-step P g x y is =
    subst (λ (z : Layer layers.PropertyDefinitions-F). P.of_properties (views.roll-PropertyDefinitions z)) is
    (g.grows_properties y)

statements-step : (P : Claims)
    → Grows P
    → (x : Layer layers.Stmts-F) (y : Known P layers.Stmts-F)
    → known_trees P layers.Stmts-F map-Stmts y ≡ x
    → P.of_statements (views.roll-Stmts x)
statements-step P g x y is =
    subst (λ (z : Layer layers.Stmts-F). P.of_statements (views.roll-Stmts z)) is (g.grows_statements y)

pub every-expression : (P : Claims) → Grows P → (e : Expr) → P.of_expression e
every-expression P g =
    ind-Expr P.of_expression P.of_property P.of_key P.of_statement P.of_block P.of_catch P.of_declarator
    P.of_declarators P.of_expressions P.of_properties P.of_statements
    (expression-step P g) (property-step P g) (key-step P g) (statement-step P g) (block-step P g) (catch-step P g)
    (declarator-step P g) (declarators-step P g) (expressions-step P g) (properties-step P g) (statements-step P g)

pub every-statements : (P : Claims) → Grows P → (ss : Stmts) → P.of_statements ss
every-statements P g =
    ind-Stmts P.of_expression P.of_property P.of_key P.of_statement P.of_block P.of_catch P.of_declarator
    P.of_declarators P.of_expressions P.of_properties P.of_statements
    (expression-step P g) (property-step P g) (key-step P g) (statement-step P g) (block-step P g) (catch-step P g)
    (declarator-step P g) (declarators-step P g) (expressions-step P g) (properties-step P g) (statements-step P g)
