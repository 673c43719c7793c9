-- What the last of a list's trees ends.
use Rattle.std.proofs.Common.{◌≡◌, ℕ, zero, suc, ◌-◌, List, [], ◌∷◌, length, map, Some, None, refl, ap, ◌∙◌, arith}
use Rattle.std.specs.List.{slice_get}
use Rattle.std.proofs.lemmas.Option.{slice_get-get_or}
use Rattle.js_tree.specs.declared.tree.Expr.{Expr}
use Rattle.js_tree.specs.declared.tree.Declarator.{Declarator}
use Rattle.js_tree.specs.declared.tree.Declarators.{Declarators}
use Rattle.js_tree.proofs.ViewLemmas.{declarator_of}
use Rattle.js_parser_language.specs.Tokens.{StatementEnd, after_expression, after_word, plain}
use Rattle.js_tree.specs.Trees as trees
use Rattle.js_parser_language.specs.Flat.{edge, edge_of_last, end_of_declarators}
use Rattle.js_tree.specs.Views.{expressions, declarators, expression_view, declarator_view}

last_at : (xs : List Expr) (i : ℕ) (x : Expr)
    → suc i ≡ length xs
    → slice_get xs i ≡ Some x
    → edge_of_last (expressions (map expression_view xs)) ≡ edge (expression_view x)
last_at [] i x l e = absurd (omega arith)
last_at (y ∷ []) zero x l e = let p : y ≡ x = cc in ap (λ z. edge (expression_view z)) p
last_at (y ∷ []) (suc i) x l e = absurd (omega arith)
last_at (y ∷ z ∷ ys) zero x l e = absurd (omega arith)
last_at (y ∷ z ∷ ys) (suc i) x l e = last_at (z ∷ ys) i x (omega arith) e

-- the edge of the last expression
pub last_edge : (xs : List Expr) (x : Expr)
    → slice_get xs (length xs - 1) ≡ Some x
    → edge_of_last (expressions (map expression_view xs)) ≡ edge (expression_view x)
last_edge [] x e = absurd cc
last_edge (y ∷ ys) x e = last_at (y ∷ ys) (length (y ∷ ys) - 1) x (omega arith) e

pub no_edge : (xs : List Expr)
    → slice_get xs (length xs - 1) ≡ None
    → edge_of_last (expressions (map expression_view xs)) ≡ plain
no_edge [] e = refl
no_edge (y ∷ ys) e = let p = slice_get-get_or (y ∷ ys) (length (y ∷ ys) - 1) y (omega arith) in absurd cc

-- what one declared name ends in
abbrev pub end_of_one : trees.Declarator → StatementEnd
end_of_one (trees.declarator n trees.omitted) = after_word
end_of_one (trees.declarator n (trees.present e)) = after_expression (edge e)

one_end : (d : trees.Declarator) → end_of_declarators (trees.a_declarator d trees.no_declarators) ≡ end_of_one d
one_end (trees.declarator n trees.omitted) = refl
one_end (trees.declarator n (trees.present e)) = refl

later_end : (d c : trees.Declarator) (ds : trees.Declarators)
    → end_of_declarators (trees.a_declarator d (trees.a_declarator c ds)) ≡ end_of_declarators (trees.a_declarator c ds)
later_end (trees.declarator n trees.omitted) c ds = refl
later_end (trees.declarator n (trees.present e)) c ds = refl

last_end_at : (xs : List Declarator) (i : ℕ) (x : Declarator)
    → suc i ≡ length xs
    → slice_get xs i ≡ Some x
    → end_of_declarators (declarators (map declarator_view xs)) ≡ end_of_one (declarator_view x)
last_end_at [] i x l e = absurd (omega arith)
last_end_at (y ∷ []) zero x l e =
    let p : y ≡ x = cc in one_end (declarator_view y) ∙ ap (λ z. end_of_one (declarator_view z)) p
last_end_at (y ∷ []) (suc i) x l e = absurd (omega arith)
last_end_at (y ∷ z ∷ ys) zero x l e = absurd (omega arith)
last_end_at (y ∷ z ∷ ys) (suc i) x l e =
    later_end (declarator_view y) (declarator_view z) (declarators (map declarator_view ys))
    ∙ last_end_at (z ∷ ys) i x (omega arith) e

-- what the last declared name ends in
pub last_end : (xs : List Declarator) (x : Declarator)
    → slice_get xs (length xs - 1) ≡ Some x
    → end_of_declarators (declarators (map declarator_view xs)) ≡ end_of_one (declarator_view x)
last_end [] x e = absurd cc
last_end (y ∷ ys) x e = last_end_at (y ∷ ys) (length (y ∷ ys) - 1) x (omega arith) e

pub no_end : (xs : List Declarator)
    → slice_get xs (length xs - 1) ≡ None
    → end_of_declarators (declarators (map declarator_view xs)) ≡ after_word
no_end [] e = refl
no_end (y ∷ ys) e = let p = slice_get-get_or (y ∷ ys) (length (y ∷ ys) - 1) y (omega arith) in absurd cc

pub one_present : (d : Declarator) (e : Expr)
    → d.initializer ≡ Some e
    → end_of_one (declarator_view d) ≡ after_expression (edge (expression_view e))
one_present d e h = rw (declarator_of d, h) refl

pub one_omitted : (d : Declarator) → d.initializer ≡ None → end_of_one (declarator_view d) ≡ after_word
one_omitted d h = rw (declarator_of d, h) refl
