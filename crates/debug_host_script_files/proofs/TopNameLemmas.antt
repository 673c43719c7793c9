-- The names that the lists of a tree declare.
use Rattle.std.proofs.Common.{◌≡◌, ℕ, ◌+◌, ◌<◌, List, [], ◌∷◌, ◌++◌, Option, None, Some, map, length, drop, get_or, refl, sym, ap, ◌∙◌, append_assoc, append-nil}
use Rattle.std.proofs.lemmas.List.{drop_more}
use Rattle.std.specs.Global.{Box}
use Rattle.js_tree.specs.declared.node.NodeId.{NodeId}
use Rattle.js_tree.specs.declared.tree.Expr.{Expr}
use Rattle.js_tree.specs.declared.tree.Stmt.{Stmt}
use Rattle.js_tree.specs.declared.tree.Declarator.{Declarator}
use Rattle.js_tree.specs.declared.tree.Expr.TheViews as views
use Rattle.js_tree.specs.Trees as trees
use Rattle.js_tree.specs.Trees.{Statement}
use Rattle.js_tree.specs.Views.{statements, declarators, statement_view, declarator_view}
use Rattle.js_tree.proofs.ViewLemmas.{declarator_of, declarators_listed, statements_listed, view_if_then, view_if_else, view_lexical_declaration, view_function_declaration}
use Rattle.js_parser_language.specs.Well.{declared_by, declared_names, names_of_declarators}

-- ---- lists as trees

pub ruleset bodies = (statements_listed)

pub ruleset lists = (declarators_listed)

-- ---- one more

pub statement_next : (items : List Stmt) (i : ℕ) (x : Stmt)
    → i < length items
    → x ≡ get_or items i x
    → (front now : List (List ℕ))
    → now ≡ front ++ declared_by (statement_view x)
    → now ++ declared_names (statements (map statement_view (drop (i + 1) items))) ≡ front ++ declared_names
    (statements (map statement_view (drop i items)))
statement_next items i x h is front now e =
    let D : List Stmt → List (List ℕ) = λ ss. declared_names (statements (map statement_view ss)) in
    ap (λ ns. ns ++ D (drop (i + 1) items)) e
    ∙ append_assoc front (declared_by (statement_view x)) (D (drop (i + 1) items))
    ∙ ap (λ y. front ++ D (y ∷ drop (i + 1) items)) is
    ∙ ap (λ ss. front ++ D ss) (sym (drop_more items i x h))

first_name : (d : Declarator) (ds : trees.Declarators)
    → names_of_declarators (trees.a_declarator (declarator_view d) ds) ≡ d.name ∷ names_of_declarators ds
first_name d ds = ap (λ t. names_of_declarators (trees.a_declarator t ds)) (declarator_of d)

pub declarator_next : (items : List Declarator) (i : ℕ) (x : Declarator)
    → i < length items
    → x ≡ get_or items i x
    → (front now : List (List ℕ))
    → now ≡ front ++ x.name ∷ []
    → now ++ names_of_declarators (declarators (map declarator_view (drop (i + 1) items)))
    ≡ front ++ names_of_declarators (declarators (map declarator_view (drop i items)))
declarator_next items i x h is front now e =
    let D : List Declarator → List (List ℕ) = λ ds. names_of_declarators (declarators (map declarator_view ds)) in
    ap (λ ns. ns ++ D (drop (i + 1) items)) e
    ∙ append_assoc front (x.name ∷ []) (D (drop (i + 1) items))
    ∙ ap (λ ns. front ++ ns) (sym (first_name x (declarators (map declarator_view (drop (i + 1) items)))))
    ∙ ap (λ y. front ++ D (y ∷ drop (i + 1) items)) is
    ∙ ap (λ ds. front ++ D ds) (sym (drop_more items i x h))

-- ---- statements

-- a statement that declares nothing
pub no_names : (names : List (List ℕ)) (s : Stmt) (t : Statement)
    → statement_view s ≡ t
    → declared_by t ≡ []
    → names ≡ names ++ declared_by (statement_view s)
no_names names s t e none = sym (ap (λ u. names ++ declared_by u) e ∙ ap (λ ns. names ++ ns) none ∙ append-nil names)

pub if_declares_none : (names : List (List ℕ)) (node : NodeId) (test : Expr) (consequent : Box Stmt)
    (alternate : Option (Box Stmt)) (s : Stmt)
    → s ≡ views.If node test consequent alternate
    → names ≡ names ++ declared_by (statement_view s)
if_declares_none names node test consequent None s e =
    no_names names s _ (ap statement_view e ∙ view_if_then node test consequent) refl
if_declares_none names node test consequent (Some alternate) s e =
    no_names names s _ (ap statement_view e ∙ view_if_else node test consequent alternate) refl

pub ruleset statement_laws = (view_lexical_declaration, view_function_declaration)
