-- What is made of a tree whose form is known, and the functions of a list of statements.
use Rattle.std.proofs.Common.{◌≡◌, ℕ, ◌+◌, ◌<◌, ◌≤◌, List, ◌∷◌, length, drop, get_or, map, refl, sym, ap, ◌∙◌, subst}
use Rattle.std.proofs.lemmas.List.{drop_all, drop_more}
use Rattle.js_tree.specs.declared.tree.Stmt.{Stmt}
use Rattle.js_tree.specs.declared.tree.Expr.{Expr}
use Rattle.std.specs.Prelude.{Option, Result, IfOk}
use Rattle.std.specs.declared.alloc.AllocError.{AllocError}
use Rattle.js_machine_terms.specs.declared.term.Term.{Term}
use Rattle.js_machine_terms.specs.declared.term.Terms.{Terms}
use Rattle.js_machine_terms.specs.Views.{term_view, terms_view}
use Rattle.js_semantics.specs.Terms as semantics
use Rattle.js_semantics.specs.Makers as makers
use Rattle.js_semantics.specs.Makers.{LoweringContext, MadeExpression, MadeStatement, MadeStatements, MadeCatch}
use Rattle.js_semantics.specs.Sources.{expression_source, statement_source}
use Rattle.js_machine_lowering_parts.proofs.LiteralLemmas.{joined_end}

joined_assoc : (ts us vs : semantics.Terms)
    → semantics.joined (semantics.joined ts us) vs ≡ semantics.joined ts (semantics.joined us vs)
joined_assoc semantics.end us vs = refl
joined_assoc (semantics.more t ts) us vs = ap (semantics.more t) (joined_assoc ts us vs)

-- the functions of the statements left
abbrev functions_in : List Stmt → LoweringContext → semantics.Terms
functions_in ss c = (makers.items_of (map statement_source ss)).functions c

pub functions_step : (items : List Stmt) (i : ℕ) (x : Stmt) (c : LoweringContext)
    → i < length items
    → x ≡ get_or items i x
    → (front now own : semantics.Terms)
    → now ≡ semantics.joined front own
    → own ≡ (statement_source x).functions c
    → semantics.joined now ((makers.items_of (map statement_source (drop (i + 1) items))).functions c)
    ≡ semantics.joined front ((makers.items_of (map statement_source (drop i items))).functions c)
functions_step items i x c h is front now own e declared =
    ap (λ ts. semantics.joined ts (functions_in (drop (i + 1) items) c)) (e ∙ ap (semantics.joined front) declared)
    ∙ joined_assoc front ((statement_source x).functions c) (functions_in (drop (i + 1) items) c)
    ∙ ap (λ (y : Stmt). semantics.joined front (functions_in (y ∷ drop (i + 1) items) c)) is
    ∙ ap (λ (ss : List Stmt). semantics.joined front (functions_in ss c)) (sym (drop_more items i x h))

pub functions_all : (items : List Stmt) (i : ℕ) (c : LoweringContext) (front : semantics.Terms)
    → length items ≤ i
    → semantics.joined front ((makers.items_of (map statement_source (drop i items))).functions c) ≡
    (makers.items_of (map statement_source items)).functions c
    → front ≡ (makers.items_of (map statement_source items)).functions c
functions_all items i c front h e =
    sym (joined_end front)
    ∙ ap (λ (ss : List Stmt). semantics.joined front (functions_in ss c)) (sym (drop_all i items h))
    ∙ e

-- ---- one form of a tree

-- what is made of a tree whose form is known
pub made_term : (e : Expr) (m : MadeExpression) (c : LoweringContext) (t : semantics.Term)
    → expression_source e ≡ m
    → t ≡ m.term c
    → t ≡ (expression_source e).term c
made_term e m c t is own = own ∙ ap (λ (x : MadeExpression). x.term c) (sym is)

pub item_term : (s : Stmt) (i : MadeStatement) (c : LoweringContext) (t : semantics.Term)
    → statement_source s ≡ i
    → t ≡ i.term c
    → t ≡ (statement_source s).term c
item_term s i c t is own = own ∙ ap (λ (x : MadeStatement). x.term c) (sym is)

pub item_functions : (s : Stmt) (i : MadeStatement) (c : LoweringContext) (ts : semantics.Terms)
    → statement_source s ≡ i
    → ts ≡ i.functions c
    → ts ≡ (statement_source s).functions c
item_functions s i c ts is own = own ∙ ap (λ (x : MadeStatement). x.functions c) (sym is)

-- ---- results

pub made_tail : (e : Expr) (m : MadeExpression) (c : LoweringContext) (r : Result Term AllocError)
    → expression_source e ≡ m
    → IfOk r (λ t. term_view t ≡ m.term c)
    → IfOk r (λ t. term_view t ≡ (expression_source e).term c)
made_tail e m c r is own = subst (λ (x : MadeExpression). IfOk r (λ t. term_view t ≡ x.term c)) (sym is) own

pub item_tail : (s : Stmt) (i : MadeStatement) (c : LoweringContext) (r : Result Term AllocError)
    → statement_source s ≡ i
    → IfOk r (λ t. term_view t ≡ i.term c)
    → IfOk r (λ t. term_view t ≡ (statement_source s).term c)
item_tail s i c r is own = subst (λ (x : MadeStatement). IfOk r (λ t. term_view t ≡ x.term c)) (sym is) own

pub functions_tail : (s : Stmt) (i : MadeStatement) (c : LoweringContext) (r : Result Terms AllocError)
    → statement_source s ≡ i
    → IfOk r (λ ts. terms_view ts ≡ i.functions c)
    → IfOk r (λ ts. terms_view ts ≡ (statement_source s).functions c)
functions_tail s i c r is own = subst (λ (x : MadeStatement). IfOk r (λ ts. terms_view ts ≡ x.functions c)) (sym is) own

-- what was made of parts is made of what the parts are
pub of_part : {A : Type 0} (f : A → semantics.Term) (t u : A)
    → t ≡ u
    → (r : Result Term AllocError)
    → IfOk r (λ x. term_view x ≡ f t)
    → IfOk r (λ x. term_view x ≡ f u)
of_part {A} f t u is r own = subst (λ (y : A). IfOk r (λ x. term_view x ≡ f y)) is own

pub of_two : {A B : Type 0} (f : A → B → semantics.Term) (t u : A)
    → t ≡ u
    → (v w : B)
    → v ≡ w
    → (r : Result Term AllocError)
    → IfOk r (λ x. term_view x ≡ f t v)
    → IfOk r (λ x. term_view x ≡ f u w)
of_two {A} {B} f t u is v w so r own = of_part (f u) v w so r (of_part (λ (y : A). f y v) t u is r own)

pub of_three : {A B C : Type 0} (f : A → B → C → semantics.Term) (t u : A)
    → t ≡ u
    → (v w : B)
    → v ≡ w
    → (y z : C)
    → y ≡ z
    → (r : Result Term AllocError)
    → IfOk r (λ x. term_view x ≡ f t v y)
    → IfOk r (λ x. term_view x ≡ f u w z)
of_three {A} {B} {C} f t u is v w so y z too r own =
    of_two (f u) v w so y z too r (of_part (λ (q : A). f q v y) t u is r own)

pub of_four : {A B C D : Type 0} (f : A → B → C → D → semantics.Term) (t u : A)
    → t ≡ u
    → (v w : B)
    → v ≡ w
    → (y z : C)
    → y ≡ z
    → (a b : D)
    → a ≡ b
    → (r : Result Term AllocError)
    → IfOk r (λ x. term_view x ≡ f t v y a)
    → IfOk r (λ x. term_view x ≡ f u w z b)
of_four {A} {B} {C} {D} f t u is v w so y z too a b also r own =
    of_three (f u) v w so y z too a b also r (of_part (λ (q : A). f q v y a) t u is r own)

pub loop_so : (t x : semantics.Term)
    → t ≡ x
    → (u y : semantics.Term)
    → u ≡ y
    → (b z : semantics.Term)
    → b ≡ z
    → makers.loop_parts t u b ≡ makers.loop_parts x y z
loop_so t x is u y so b z too =
    ap (λ (q : semantics.Term). makers.loop_parts q u b) is
    ∙ ap (λ (q : semantics.Term). makers.loop_parts x q b) so
    ∙ ap (λ (q : semantics.Term). makers.loop_parts x y q) too

pub try_so : (f : Option MadeStatements) (h : Option MadeCatch) (b : MadeStatements) (x y : LoweringContext)
    → y ≡ x
    → (p q t : semantics.Term)
    → p ≡ makers.block_term b y
    → q ≡ makers.caught h p y
    → t ≡ makers.finally_term f q y
    → t ≡ makers.finally_term f (makers.caught h (makers.block_term b x) x) x
try_so f h b x y is p q t own caught finally =
    finally
    ∙ ap (λ (z : semantics.Term). makers.finally_term f z y)
    (caught ∙ ap (λ (z : semantics.Term). makers.caught h z y) own)
    ∙ ap (λ (z : LoweringContext). makers.finally_term f (makers.caught h (makers.block_term b z) z) z) is

pub functions_of : {A : Type 0} (f : A → semantics.Terms) (t u : A)
    → t ≡ u
    → (r : Result Terms AllocError)
    → IfOk r (λ x. terms_view x ≡ f t)
    → IfOk r (λ x. terms_view x ≡ f u)
functions_of {A} f t u is r own = subst (λ (y : A). IfOk r (λ x. terms_view x ≡ f y)) is own

-- ---- parts behind a box

pub body_so : (s b : Stmt)
    → s ≡ b
    → (y x : LoweringContext)
    → y ≡ x
    → (t : semantics.Term)
    → t ≡ (statement_source s).term y
    → t ≡ (statement_source b).term x
body_so s b is y x so t own =
    own ∙ ap (λ (q : Stmt). (statement_source q).term y) is ∙ ap (λ (q : LoweringContext). (statement_source b).term q) so

pub plain_so : (a b : Expr)
    → a ≡ b
    → (c : LoweringContext) (t : semantics.Term)
    → t ≡ makers.plain (expression_source a) c
    → t ≡ makers.plain (expression_source b) c
plain_so a b is c t own = own ∙ ap (λ (q : Expr). makers.plain (expression_source q) c) is
