-- The node and the last word of an expression are those of its source.
use Rattle.std.proofs.Common.{◌≡◌, refl, sym, subst}
use Rattle.js_tree.specs.declared.tree.Expr.{Expr}
use Rattle.js_tree.specs.declared.tree.Expr.TheOpen.{Expr-F}
use Rattle.js_tree.specs.declared.tree.Expr.TheFolds.{map-Expr}
use Rattle.js_tree.specs.declared.tree.Expr.TheViews as views
use Rattle.js_tree.proofs.ViewLemmas.{Layer}
use Rattle.js_semantics.specs.Makers.{MadeExpression}
use Rattle.js_semantics.specs.Sources as sources
use Rattle.js_semantics.specs.Sources.{expression_source}
use Rattle.js_semantics.proofs.TreeFolds.{Claims, Known, known_trees, Grows, every-expression}
use Rattle.js_semantics.proofs.SourceFolds as made
use Rattle.js_semantics.proofs.SourceFolds.{made_parts}
use Rattle.locations.specs.Marks.{Marking, expression_marks, expression_layer}
use Rattle.locations.proofs.TreeLemmas.{marks_of, expression_turn}

-- what is made of an expression, and its marks, name one node and one last word
record SameHead (e : MadeExpression) (m : Marking) : Type 0 where
  same_node : m.node ≡ e.node
  same_word : m.last_word ≡ e.last_word

-- ---- one level

level-head : (x : Layer Expr-F)
    → SameHead (sources.expression_layer (made_parts Expr-F map-Expr x)) (expression_layer (marks_of Expr-F map-Expr x))
level-head (Expr-F.This node) = record { same_node = refl; same_word = refl }
level-head (Expr-F.Name node n) = record { same_node = refl; same_word = refl }
level-head (Expr-F.Number node v) = record { same_node = refl; same_word = refl }
level-head (Expr-F.String node us) = record { same_node = refl; same_word = refl }
level-head (Expr-F.Boolean node b) = record { same_node = refl; same_word = refl }
level-head (Expr-F.Null node) = record { same_node = refl; same_word = refl }
level-head (Expr-F.Array node es) = record { same_node = refl; same_word = refl }
level-head (Expr-F.Object node ps) = record { same_node = refl; same_word = refl }
level-head (Expr-F.Function node n ps body) = record { same_node = refl; same_word = refl }
level-head (Expr-F.Arrow node ps e) = record { same_node = refl; same_word = refl }
level-head (Expr-F.ArrowBlock node ps body) = record { same_node = refl; same_word = refl }
level-head (Expr-F.Parenthesized node e) = record { same_node = refl; same_word = refl }
level-head (Expr-F.Member node e n) = record { same_node = refl; same_word = refl }
level-head (Expr-F.Index node e k) = record { same_node = refl; same_word = refl }
level-head (Expr-F.Call node f parentheses es) = record { same_node = refl; same_word = refl }
level-head (Expr-F.Postfix node o e) = record { same_node = refl; same_word = refl }
level-head (Expr-F.Prefix node o e) = record { same_node = refl; same_word = refl }
level-head (Expr-F.Unary node o e) = record { same_node = refl; same_word = refl }
level-head (Expr-F.Binary node o l r) = record { same_node = refl; same_word = refl }
level-head (Expr-F.Conditional node t a b) = record { same_node = refl; same_word = refl }
level-head (Expr-F.Assign node o t e) = record { same_node = refl; same_word = refl }
level-head (Expr-F.Comma node es) = record { same_node = refl; same_word = refl }

-- ---- any tree

-- nothing is claimed of other trees
abbrev heads : Claims
heads = record {
  of_expression = λ x. SameHead (expression_source x) (expression_marks x);
  of_property = λ x. Unit {0};
  of_key = λ x. Unit {0};
  of_statement = λ x. Unit {0};
  of_block = λ x. Unit {0};
  of_catch = λ x. Unit {0};
  of_declarator = λ x. Unit {0};
  of_declarators = λ x. Unit {0};
  of_expressions = λ x. Unit {0};
  of_properties = λ x. Unit {0};
  of_statements = λ x. Unit {0};
}

rolled-head : (x : Layer Expr-F)
    → SameHead (expression_source (views.roll-Expr x)) (expression_marks (views.roll-Expr x))
rolled-head x =
    subst (λ (e : MadeExpression). SameHead e (expression_marks (views.roll-Expr x))) (sym (made.expression_turn x))
    (subst (λ (m : Marking). SameHead (sources.expression_layer (made_parts Expr-F map-Expr x)) m)
    (sym (expression_turn x)) (level-head x))

grown : Grows heads
grown = record {
  grows_expression = λ (y : Known heads Expr-F). rolled-head (known_trees heads Expr-F map-Expr y);
  grows_property = λ y. tt;
  grows_key = λ y. tt;
  grows_statement = λ y. tt;
  grows_block = λ y. tt;
  grows_catch = λ y. tt;
  grows_declarator = λ y. tt;
  grows_declarators = λ y. tt;
  grows_expressions = λ y. tt;
  grows_properties = λ y. tt;
  grows_statements = λ y. tt;
}

head : (e : Expr) → SameHead (expression_source e) (expression_marks e)
head = every-expression heads grown

pub node_made : (e : Expr) → (expression_marks e).node ≡ (expression_source e).node
node_made e = let h = head e in h.same_node

pub word_made : (e : Expr) → (expression_marks e).last_word ≡ (expression_source e).last_word
word_made e = let h = head e in h.same_word
