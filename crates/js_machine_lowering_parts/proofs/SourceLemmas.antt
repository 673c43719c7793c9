-- What is made of lists of trees, of names and of declarators.
use Rattle.std.proofs.Common.{◌≡◌, ℕ, Bool, List, [], ◌∷◌, ◌++◌, Option, Some, None, map, refl, sym, ap, ◌∙◌, ◌+◌, ◌<◌, length, drop, get_or, append_assoc, append-nil}
use Rattle.std.proofs.lemmas.List.{drop_more}
use Rattle.js_tree.specs.declared.tree.Expr.{Expr}
use Rattle.js_tree.specs.declared.tree.Stmt.{Stmt}
use Rattle.js_tree.specs.declared.tree.Declarator.{Declarator}
use Rattle.js_heap.specs.declared.cell.Binding.{Binding}
use Rattle.js_heap.specs.Cells.{declared}
use Rattle.js_semantics.specs.Terms as semantics
use Rattle.js_semantics.specs.Makers as makers
use Rattle.js_semantics.specs.Makers.{LoweringContext, MadeExpression, MadeStatement, MadeStatements, MadeDeclarator}
use Rattle.js_semantics.specs.Sources.{expression_source, statement_source, declarator_source}
use Rattle.js_machine_lowering_parts.specs.Sources.{own_form, declarator_term, initialized}
use Rattle.js_semantics.specs.declared.form.Form.TheVariants as forms
use Rattle.js_machine_terms.specs.Views.{listed}
use Rattle.js_semantics.proofs.TreeLemmas.{source_declarator, source_declarators, source_expressions, source_statements}

-- ---- lists

-- parts that give no name
pub plains_listed : (es : List Expr) (c : LoweringContext)
    → makers.plains (map expression_source es) c ≡ listed (map (λ e. makers.plain (expression_source e) c) es)
plains_listed [] c = refl
plains_listed (e ∷ es) c = ap (semantics.more (makers.plain (expression_source e) c)) (plains_listed es c)

pub statements_listed : (ss : List Stmt) (c : LoweringContext)
    → (makers.items_of (map statement_source ss)).terms c ≡ listed (map (λ s. (statement_source s).term c) ss)
statements_listed [] c = refl
statements_listed (s ∷ ss) c = ap (semantics.more ((statement_source s).term c)) (statements_listed ss c)

pub declarators_listed : (ds : List Declarator) (c : LoweringContext)
    → makers.declarators_terms (map declarator_source ds) c ≡ listed
    (map (λ d. declarator_term (declarator_source d) c) ds)
declarators_listed [] c = refl
declarators_listed (d ∷ ds) c = ap (semantics.more (declarator_term (declarator_source d) c)) (declarators_listed ds c)

-- a value in the place that gives it its name
pub initializer_named : (n : List ℕ) (e : Option MadeExpression) (c : LoweringContext)
    → makers.initializer_terms n e c ≡ initialized e (makers.naming n c)
initializer_named n None c = refl
initializer_named n (Some e) c = refl

-- a function with its own name or that of its place
pub function_own : (node : ℕ) (n : Option (List ℕ)) (ps : List (List ℕ)) (body : MadeStatements) (c : LoweringContext)
    → makers.function_term node n ps body c ≡ semantics.part (forms.Function (own_form node n ps body.names c))
    semantics.end (makers.body_terms body c)
function_own node None ps body c = refl
function_own node (Some n) ps body c = refl

-- ---- names

-- a statement that declares none
pub no_names : (names : List Binding) (s : Stmt) (i : MadeStatement)
    → statement_source s ≡ i
    → i.names ≡ []
    → names ≡ names ++ (statement_source s).names
no_names names s i e none =
    sym (ap (λ (j : MadeStatement). names ++ j.names) e ∙ ap (λ (ns : List Binding). names ++ ns) none ∙ append-nil names)

-- the names declared so far, and those of the declarators left
declared_more : (constant : Bool) (x : Declarator) (front : List Binding) (rest : List MadeDeclarator)
    → (front ++ declared x.name constant ∷ [])
    ++ makers.declarators_names constant rest ≡ front ++ makers.declarators_names constant
    (declarator_source x ∷ rest)
declared_more constant x front rest =
    append_assoc front (declared x.name constant ∷ []) (makers.declarators_names constant rest)
    ∙ ap (λ (d : MadeDeclarator). front ++ makers.declarators_names constant (d ∷ rest)) (sym (source_declarator x))

pub declared_step : (constant : Bool) (items : List Declarator) (i : ℕ) (x : Declarator)
    → i < length items
    → x ≡ get_or items i x
    → (front now : List Binding) (b : Binding)
    → now ≡ front ++ b ∷ []
    → b ≡ declared x.name constant
    → now ++ makers.declarators_names constant (map declarator_source (drop (i + 1) items))
    ≡ front ++ makers.declarators_names constant (map declarator_source (drop i items))
declared_step constant items i x h is front now b e bound =
    ap (λ (ns : List Binding). ns ++ makers.declarators_names constant (map declarator_source (drop (i + 1) items)))
    (e ∙ ap (λ (c : Binding). front ++ c ∷ []) bound)
    ∙ declared_more constant x front (map declarator_source (drop (i + 1) items))
    ∙ ap (λ (y : Declarator). front ++ makers.declarators_names constant
    (map declarator_source (y ∷ drop (i + 1) items)))
    is
    ∙ ap (λ (ds : List Declarator). front ++ makers.declarators_names constant (map declarator_source ds))
    (sym (drop_more items i x h))

pub ruleset declarator_laws = (source_declarators, declarators_listed)

pub ruleset list_laws = (source_expressions, source_statements, plains_listed, statements_listed)
