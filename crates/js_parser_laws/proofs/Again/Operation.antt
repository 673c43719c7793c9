-- Operations are read again.
use Rattle.std.proofs.Common.{◌≡◌, ℕ, suc, ◌+◌, ◌-◌, ◌<◌, ◌≤◌, true, false, List, [], ◌∷◌, ◌++◌, Some, None, Ok, refl, ap, ◌∙◌, arith}
use Rattle.std.specs.Prelude.{nat_le}
use Rattle.std.proofs.lemmas.Bool.{le-leb, lt-leb}
use Rattle.js_tree_operators.specs.declared.operator.BinaryOperator.{BinaryOperator}
use Rattle.js_tree.specs.Trees as trees
use Rattle.js_tree.specs.Trees.{Expression}
use Rattle.js_parser_language.specs.Tokens.{Token, fixed, ExpressionEnd, plain, braces, update, FlatToken, token, head_of, tail_of, IsNext, Matches}
use Rattle.js_parser_language.specs.Flat.{edge, flat, binary_kind}
use Rattle.js_parser_language.specs.Well.{strength, level, Well}
use Rattle.js_tree.specs.Height.{height}
use Rattle.js_parser_readers.specs.Classes.{link, no_link, update_near, operator}
use Rattle.js_parser_readers.specs.Productions.{Below}
use Rattle.js_parser_readers.specs.Parsing.{operator_from, chain, operation}
use Rattle.js_parser_laws.proofs.Claims.{AgainBelow, SeqAgain, StopsOperation}
use Rattle.js_parser_laws.proofs.MarkLemmas.{parts}
use Rattle.js_parser_laws.proofs.Again.Head.{IsOperator, operator_again, link_fixed, operator_fixed, no_update_fixed}
use Rattle.js_parser_laws.proofs.Again.Level.{strength_high, operation_edge, operation_more, operation_unary, operation_stops, spine, spine_low}
use Rattle.js_parser_laws.proofs.Again.Primary.{ObjectsAgain, and_nothing}
use Rattle.js_parser_laws.proofs.Again.Unary.{unary_again}

-- the expression is read, and then operators to the right of it
abbrev ChainAgain : ℕ → Below → Expression → Type 0
ChainAgain n b e =
    (m k : ℕ)
    → m ≤ level e
    → height e ≤ suc n
    → k + spine e ≡ suc n
    → (ts r : List Token)
    → Matches (flat e) ts r
    → StopsOperation (suc (level e)) (edge e) r
    → operation b n m ts ≡ chain b n m k e r

unary_chain : (q : SeqAgain) (n : ℕ) (b : Below)
    → AgainBelow n b
    → ObjectsAgain n b
    → (e : Expression)
    → 13 ≤ level e
    → spine e ≡ 0
    → Well e
    → ChainAgain n b e
unfolding operation
unary_chain q n b h os e v z w m k low l s ts r ms stops =
    let same : suc n ≡ k = omega arith in
    rw (unary_again q n b h os e w v l ts r ms (operation_unary (suc (level e)) (edge e) r stops))
    (ap (λ (k : ℕ). chain b n m k e r) same)

-- what an operator ends
operator_stops : (o : BinaryOperator) (m : ℕ) (d : ExpressionEnd) (r : List Token)
    → strength o < m
    → IsNext (fixed (binary_kind o)) (head_of r)
    → StopsOperation m d r
operator_stops o m d r l next =
    let is : IsOperator (binary_kind o) o = operator_again o in
    let weak : nat_le m (strength o) ≡ false = lt-leb m (strength o) l in
    let found : operator (head_of r) ≡ Some o = operator_fixed (binary_kind o) (head_of r) next ∙ is.operator in
    let none : operator_from m (operator (head_of r)) ≡ None = rw (found, weak) refl in
    by_edge d (link_fixed (binary_kind o) (head_of r) next ∙ is.link)
    (no_update_fixed (binary_kind o) (head_of r) next is.update) none
  where
    by_edge : (d : ExpressionEnd)
        → link (head_of r) ≡ no_link
        → update_near (head_of r) ≡ None
        → operator_from m (operator (head_of r)) ≡ None
        → StopsOperation m d r
    by_edge plain a c e = (a, c, e)
    by_edge update a c e = e
    by_edge braces a c e = tt

binary_chain : (n : ℕ) (b : Below)
    → AgainBelow n b
    → (o : BinaryOperator) (x y : Expression)
    → Well (trees.binary o x y)
    → ChainAgain n b x
    → ChainAgain n b (trees.binary o x y)
unfolding chain
binary_chain n b h o x y w left m k low l s ts r ms stops =
    let inner : List FlatToken = token (fixed (binary_kind o)) ∷ (flat y ++ []) in
    let p = parts (flat x) inner ts r ms in
    let is : IsOperator (binary_kind o) o = operator_again o in
    let high : 3 ≤ strength o = strength_high o in
    let lower : nat_le (height x) n ≡ true = le-leb (height x) n (omega arith) in
    let from : nat_le m (strength o) ≡ true = le-leb m (strength o) low in
    let found : operator (head_of p.0) ≡ Some o = operator_fixed (binary_kind o) (head_of p.0) p.2.0 ∙ is.operator in
    let operand : b.operation (suc (strength o)) (tail_of p.0) ≡ Ok (y, r) = h.operation (suc (strength o)) y w.2
    (omega (arith, w.3)) w.3 (omega arith) (tail_of p.0) r (and_nothing (flat y) (tail_of p.0) r p.2.1) stops in
    left m (suc k) (omega (arith, w.1)) (omega arith) (omega arith) ts p.0 p.1
    (operator_stops o (suc (level x)) (edge x) p.0 (omega (arith, w.1)) p.2.0)
    ∙ rw (found, from, lower, operand) refl

chain_again : (q : SeqAgain) (n : ℕ) (b : Below)
    → AgainBelow n b
    → ObjectsAgain n b
    → (e : Expression)
    → 3 ≤ level e
    → Well e
    → ChainAgain n b e
chain_again q n b h os (trees.binary o x y) v w =
    binary_chain n b h o x y w (chain_again q n b h os x (omega (arith, w.1, strength_high o)) w.0)
chain_again q n b h os (trees.arrow ps e) v w = absurd (omega arith)
chain_again q n b h os (trees.arrow_block ps body) v w = absurd (omega arith)
chain_again q n b h os (trees.conditional t c a) v w = absurd (omega arith)
chain_again q n b h os (trees.assign o t a) v w = absurd (omega arith)
chain_again q n b h os (trees.comma es) v w = absurd (omega arith)
chain_again q n b h os (trees.unary o e) v w = unary_chain q n b h os (trees.unary o e) (omega arith) refl w
chain_again q n b h os (trees.prefix o e) v w = unary_chain q n b h os (trees.prefix o e) (omega arith) refl w
chain_again q n b h os (trees.postfix o e) v w = unary_chain q n b h os (trees.postfix o e) (omega arith) refl w
chain_again q n b h os (trees.member e a) v w = unary_chain q n b h os (trees.member e a) (omega arith) refl w
chain_again q n b h os (trees.index e i) v w = unary_chain q n b h os (trees.index e i) (omega arith) refl w
chain_again q n b h os (trees.call f es) v w = unary_chain q n b h os (trees.call f es) (omega arith) refl w
chain_again q n b h os trees.this v w = unary_chain q n b h os trees.this (omega arith) refl w
chain_again q n b h os (trees.name a) v w = unary_chain q n b h os (trees.name a) (omega arith) refl w
chain_again q n b h os (trees.number a) v w = unary_chain q n b h os (trees.number a) (omega arith) refl w
chain_again q n b h os (trees.string a) v w = unary_chain q n b h os (trees.string a) (omega arith) refl w
chain_again q n b h os (trees.boolean a) v w = unary_chain q n b h os (trees.boolean a) (omega arith) refl w
chain_again q n b h os trees.null v w = unary_chain q n b h os trees.null (omega arith) refl w
chain_again q n b h os (trees.array es) v w = unary_chain q n b h os (trees.array es) (omega arith) refl w
chain_again q n b h os (trees.object ps) v w = unary_chain q n b h os (trees.object ps) (omega arith) refl w
chain_again q n b h os (trees.function o ps body) v w =
    unary_chain q n b h os (trees.function o ps body) (omega arith) refl w
chain_again q n b h os (trees.parenthesized e) v w = unary_chain q n b h os (trees.parenthesized e) (omega arith) refl w

chain_end : (b : Below) (n m k : ℕ) (e : Expression) (r : List Token)
    → operator_from m (operator (head_of r)) ≡ None
    → chain b n m (suc k) e r ≡ Ok (e, r)
unfolding chain
chain_end b n m k e r s = rw s refl

pub operation_again : (q : SeqAgain) (n : ℕ) (b : Below)
    → AgainBelow n b
    → ObjectsAgain n b
    → (m : ℕ) (e : Expression)
    → Well e
    → 3 ≤ level e
    → m ≤ level e
    → height e ≤ suc n
    → (ts r : List Token)
    → Matches (flat e) ts r
    → StopsOperation m (edge e) r
    → operation b n m ts ≡ Ok (e, r)
operation_again q n b h os m e w v v' l ts r ms stops =
    let low : spine e < height e = spine_low e in
    let k : ℕ = n - spine e in
    chain_again q n b h os e v w m (suc k) v' l (omega arith) ts r ms
    (operation_more m (suc (level e)) (edge e) r (omega arith) stops)
    ∙ chain_end b n m k e r (operation_stops m (edge e) r (operation_edge e w v) stops)
