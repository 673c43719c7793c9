-- Members, calls, updates and unary expressions are read again.
use Rattle.std.proofs.Common.{◌≡◌, ℕ, suc, ◌+◌, ◌-◌, ◌<◌, ◌≤◌, true, false, List, [], ◌∷◌, ◌++◌, Some, Ok, refl, ap, subst, ◌∙◌, arith}
use Rattle.std.specs.Prelude.{nat_le}
use Rattle.std.proofs.lemmas.Bool.{le-leb}
use Rattle.js_lexer.specs.declared.token.TokenKind.TheVariants as kinds
use Rattle.js_tree_operators.specs.declared.operator.UnaryOperator.{UnaryOperator}
use Rattle.js_tree_operators.specs.declared.operator.UnaryOperator.TheVariants as unaries
use Rattle.js_tree_operators.specs.declared.operator.UpdateOperator.{UpdateOperator}
use Rattle.js_tree.specs.Trees as trees
use Rattle.js_tree.specs.Trees.{Expression}
use Rattle.js_parser_language.specs.Tokens.{Token, fixed, identifier_name, ExpressionEnd, plain, FlatToken, token, beside, head_of, tail_of, Matches}
use Rattle.js_parser_language.specs.Flat.{edge, flat, flat_expressions, trailing, unary_kind, update_kind}
use Rattle.js_parser_language.specs.Well.{level, Well}
use Rattle.js_tree.specs.Height.{height}
use Rattle.js_parser_readers.specs.Classes as classes
use Rattle.js_parser_readers.specs.Classes.{link, no_link, update_near, prefix, prefix_by, no_prefix}
use Rattle.js_parser_readers.specs.Productions.{Below, tok, an_expression, arguments}
use Rattle.js_parser_readers.specs.Parsing.{links, call, postfix, unary}
use Rattle.js_parser_laws.proofs.Claims.{AgainBelow, SeqAgain, StopsUnary}
use Rattle.js_parser_laws.proofs.MarkLemmas.{parts}
use Rattle.js_parser_laws.proofs.TokenLemmas.{word_again}
use Rattle.js_parser_laws.proofs.Again.Head.{link_fixed, prefix_fixed, update_fixed, update_again, update_no_link, update_prefix, kind_of_identifier, kind_of_number, kind_of_string}
use Rattle.js_parser_laws.proofs.Again.Level.{strength_low, target_level, property_level, call_edge, arms, arms_low}
use Rattle.js_parser_laws.proofs.Again.Primary.{ObjectsAgain, is_primary, primary_again, before_nothing, and_nothing}

-- ---- members and calls

-- the expression is read, and then what goes on with it
abbrev LinksAgain : ℕ → Below → Expression → Type 0
LinksAgain n b e =
    (k : ℕ)
    → height e ≤ suc n
    → k + arms e ≡ suc n
    → (ts r : List Token)
    → Matches (flat e) ts r
    → call b n ts ≡ links b n k e r

member_links : (n : ℕ) (b : Below) (e : Expression) (a : List ℕ) → LinksAgain n b e → LinksAgain n b (trees.member e a)
unfolding links
member_links n b e a x k l s ts r m =
    let p = parts (flat e) (token (fixed kinds.Dot) ∷ token (identifier_name a) ∷ []) ts r m in
    let low : nat_le (height e) n ≡ true = le-leb (height e) n (omega arith) in
    x (suc k) (omega arith) (omega arith) ts p.0 p.1
    ∙ rw (link_fixed kinds.Dot (head_of p.0) p.2.0, low, word_again a (tail_of p.0) r p.2.1) refl

index_links : (q : SeqAgain) (n : ℕ) (b : Below)
    → AgainBelow n b
    → (e i : Expression)
    → Well i
    → LinksAgain n b e
    → LinksAgain n b (trees.index e i)
unfolding links
index_links q n b h e i w x k l s ts r m =
    let p = parts (flat e) (token (fixed kinds.LeftBracket) ∷ (flat i ++ (token (fixed kinds.RightBracket) ∷ [])))
    ts r m in
    let low : nat_le (height e) n ≡ true = le-leb (height e) n (omega arith) in
    x (suc k) (omega arith) (omega arith) ts p.0 p.1
    ∙ rw (
      link_fixed kinds.LeftBracket (head_of p.0) p.2.0,
      low,
      q n b h (tok kinds.LeftBracket ∷ an_expression ∷ tok kinds.RightBracket ∷ []) (tt, (i, (tt, tt))) p.0 r
          (tt, (w, (tt, tt))) (omega arith) refl tt p.2,
    )
    refl

call_links : (q : SeqAgain) (n : ℕ) (b : Below)
    → AgainBelow n b
    → (f : Expression) (es : trees.Expressions)
    → Well (trees.call f es)
    → LinksAgain n b f
    → LinksAgain n b (trees.call f es)
unfolding links
call_links q n b h f es w x k l s ts r m =
    let inside : List FlatToken = flat_expressions es ++ (trailing es ++ (token (fixed kinds.RightParenthesis) ∷ [])) in
    let p = parts (flat f) (token (fixed kinds.LeftParenthesis) ∷ inside) ts r m in
    let low : nat_le (height f) n ≡ true = le-leb (height f) n (omega arith) in
    x (suc k) (omega arith) (omega arith) ts p.0 p.1
    ∙ rw (
      link_fixed kinds.LeftParenthesis (head_of p.0) p.2.0,
      low,
      q n b h (tok kinds.LeftParenthesis ∷ arguments kinds.RightParenthesis ∷ []) (tt, (es, tt)) p.0 r (tt, (w.2, tt))
          (omega arith) refl tt (p.2.0, before_nothing inside (tail_of p.0) r p.2.1),
    )
    refl

primary_links : (q : SeqAgain) (n : ℕ) (b : Below)
    → AgainBelow n b
    → ObjectsAgain n b
    → (e : Expression)
    → is_primary e ≡ true
    → arms e ≡ 0
    → Well e
    → LinksAgain n b e
unfolding call
primary_links q n b h os e p z w k l s ts r m =
    let same : suc n ≡ k = omega arith in
    rw (primary_again q n b h os e p w l ts r m) (ap (λ (k : ℕ). links b n k e r) same)

links_again : (q : SeqAgain) (n : ℕ) (b : Below)
    → AgainBelow n b
    → ObjectsAgain n b
    → (e : Expression)
    → 15 ≤ level e
    → Well e
    → LinksAgain n b e
links_again q n b h os (trees.member e a) v w = member_links n b e a (links_again q n b h os e w.1 w.0)
links_again q n b h os (trees.index e i) v w = index_links q n b h e i w.2 (links_again q n b h os e w.1 w.0)
links_again q n b h os (trees.call f es) v w = call_links q n b h f es w (links_again q n b h os f w.1 w.0)
links_again q n b h os (trees.arrow ps e) v w = absurd (omega arith)
links_again q n b h os (trees.arrow_block ps body) v w = absurd (omega arith)
links_again q n b h os (trees.postfix o e) v w = absurd (omega arith)
links_again q n b h os (trees.prefix o e) v w = absurd (omega arith)
links_again q n b h os (trees.unary o e) v w = absurd (omega arith)
links_again q n b h os (trees.binary o x y) v w = absurd (omega (arith, strength_low o))
links_again q n b h os (trees.conditional t c a) v w = absurd (omega arith)
links_again q n b h os (trees.assign o t a) v w = absurd (omega arith)
links_again q n b h os (trees.comma es) v w = absurd (omega arith)
links_again q n b h os trees.this v w = primary_links q n b h os trees.this refl refl w
links_again q n b h os (trees.name a) v w = primary_links q n b h os (trees.name a) refl refl w
links_again q n b h os (trees.number a) v w = primary_links q n b h os (trees.number a) refl refl w
links_again q n b h os (trees.string a) v w = primary_links q n b h os (trees.string a) refl refl w
links_again q n b h os (trees.boolean a) v w = primary_links q n b h os (trees.boolean a) refl refl w
links_again q n b h os trees.null v w = primary_links q n b h os trees.null refl refl w
links_again q n b h os (trees.array es) v w = primary_links q n b h os (trees.array es) refl refl w
links_again q n b h os (trees.object ps) v w = primary_links q n b h os (trees.object ps) refl refl w
links_again q n b h os (trees.function o ps body) v w = primary_links q n b h os (trees.function o ps body) refl refl w
links_again q n b h os (trees.parenthesized e) v w = primary_links q n b h os (trees.parenthesized e) refl refl w

links_end : (b : Below) (n k : ℕ) (e : Expression) (r : List Token)
    → link (head_of r) ≡ no_link
    → links b n (suc k) e r ≡ Ok (e, r)
unfolding links
links_end b n k e r s = rw s refl

pub call_again : (q : SeqAgain) (n : ℕ) (b : Below)
    → AgainBelow n b
    → ObjectsAgain n b
    → (e : Expression)
    → Well e
    → 15 ≤ level e
    → height e ≤ suc n
    → (ts r : List Token)
    → Matches (flat e) ts r
    → link (head_of r) ≡ no_link
    → call b n ts ≡ Ok (e, r)
call_again q n b h os e w v l ts r m s =
    let low : arms e < height e = arms_low e in
    let k : ℕ = n - arms e in
    links_again q n b h os e v w (suc k) l (omega arith) ts r m ∙ links_end b n k e r s

-- ---- updates

abbrev PostfixAgain : ℕ → Below → Expression → Type 0
PostfixAgain n b e =
    height e ≤ suc n → (ts r : List Token) → Matches (flat e) ts r → StopsUnary (edge e) r → postfix b n ts ≡ Ok (e, r)

call_postfix : (q : SeqAgain) (n : ℕ) (b : Below)
    → AgainBelow n b
    → ObjectsAgain n b
    → (e : Expression)
    → 15 ≤ level e
    → Well e
    → PostfixAgain n b e
unfolding postfix
call_postfix q n b h os e v w l ts r m s =
    let stops : StopsUnary plain r = subst (λ (d : ExpressionEnd). StopsUnary d r) (call_edge e v) s in
    rw (call_again q n b h os e w v l ts r m stops.0, stops.1) refl

update_postfix : (q : SeqAgain) (n : ℕ) (b : Below)
    → AgainBelow n b
    → ObjectsAgain n b
    → (o : UpdateOperator) (e : Expression)
    → Well (trees.postfix o e)
    → PostfixAgain n b (trees.postfix o e)
unfolding postfix
update_postfix q n b h os o e w l ts r m s =
    let p = parts (flat e) (beside (fixed (update_kind o)) ∷ []) ts r m in
    let high : level e ≡ 15 = target_level e w.1 in
    let ends : link (head_of p.0) ≡ no_link = link_fixed (update_kind o) (head_of p.0) p.2.0 ∙ update_no_link o in
    let found : update_near (head_of p.0) ≡ Some o = update_fixed (update_kind o) (head_of p.0) p.2.0 p.2.1
    ∙ update_again o in
    let low : nat_le (height e) n ≡ true = le-leb (height e) n (omega arith) in
    rw (call_again q n b h os e w.0 (omega arith) (omega arith) ts p.0 p.1 ends, found, w.1, low)
    (ap (λ (l : List Token). Ok (trees.postfix o e, l)) p.2.2)

postfix_again : (q : SeqAgain) (n : ℕ) (b : Below)
    → AgainBelow n b
    → ObjectsAgain n b
    → (e : Expression)
    → 14 ≤ level e
    → Well e
    → PostfixAgain n b e
postfix_again q n b h os (trees.postfix o e) v w = update_postfix q n b h os o e w
postfix_again q n b h os (trees.arrow ps e) v w = absurd (omega arith)
postfix_again q n b h os (trees.arrow_block ps body) v w = absurd (omega arith)
postfix_again q n b h os (trees.prefix o e) v w = absurd (omega arith)
postfix_again q n b h os (trees.unary o e) v w = absurd (omega arith)
postfix_again q n b h os (trees.binary o x y) v w = absurd (omega (arith, strength_low o))
postfix_again q n b h os (trees.conditional t c a) v w = absurd (omega arith)
postfix_again q n b h os (trees.assign o t a) v w = absurd (omega arith)
postfix_again q n b h os (trees.comma es) v w = absurd (omega arith)
postfix_again q n b h os (trees.member e a) v w = call_postfix q n b h os (trees.member e a) (omega arith) w
postfix_again q n b h os (trees.index e i) v w = call_postfix q n b h os (trees.index e i) (omega arith) w
postfix_again q n b h os (trees.call f es) v w = call_postfix q n b h os (trees.call f es) (omega arith) w
postfix_again q n b h os trees.this v w = call_postfix q n b h os trees.this (omega arith) w
postfix_again q n b h os (trees.name a) v w = call_postfix q n b h os (trees.name a) (omega arith) w
postfix_again q n b h os (trees.number a) v w = call_postfix q n b h os (trees.number a) (omega arith) w
postfix_again q n b h os (trees.string a) v w = call_postfix q n b h os (trees.string a) (omega arith) w
postfix_again q n b h os (trees.boolean a) v w = call_postfix q n b h os (trees.boolean a) (omega arith) w
postfix_again q n b h os trees.null v w = call_postfix q n b h os trees.null (omega arith) w
postfix_again q n b h os (trees.array es) v w = call_postfix q n b h os (trees.array es) (omega arith) w
postfix_again q n b h os (trees.object ps) v w = call_postfix q n b h os (trees.object ps) (omega arith) w
postfix_again q n b h os (trees.function o ps body) v w =
    call_postfix q n b h os (trees.function o ps body) (omega arith) w
postfix_again q n b h os (trees.parenthesized e) v w = call_postfix q n b h os (trees.parenthesized e) (omega arith) w

-- ---- unary expressions

-- an update, a call, a member or a primary begins with no prefix
no_prefix_before : (e : Expression)
    → Well e
    → 14 ≤ level e
    → (ts r : List Token)
    → Matches (flat e) ts r
    → prefix (head_of ts) ≡ no_prefix
no_prefix_before (trees.postfix o e) w v ts r m =
    let p = parts (flat e) (beside (fixed (update_kind o)) ∷ []) ts r m in
    no_prefix_before e w.0 (omega (arith, target_level e w.1)) ts p.0 p.1
no_prefix_before (trees.member e a) w v ts r m =
    let p = parts (flat e) (token (fixed kinds.Dot) ∷ token (identifier_name a) ∷ []) ts r m in
    no_prefix_before e w.0 (omega (arith, w.1)) ts p.0 p.1
no_prefix_before (trees.index e i) w v ts r m =
    let p = parts (flat e) (token (fixed kinds.LeftBracket) ∷ (flat i ++ (token (fixed kinds.RightBracket) ∷ [])))
    ts r m in
    no_prefix_before e w.0 (omega (arith, w.1)) ts p.0 p.1
no_prefix_before (trees.call f es) w v ts r m =
    let p = parts (flat f)
    (token (fixed kinds.LeftParenthesis) ∷
    (flat_expressions es ++ (trailing es ++ (token (fixed kinds.RightParenthesis) ∷ []))))
    ts r m in
    no_prefix_before f w.0 (omega (arith, w.1)) ts p.0 p.1
no_prefix_before (trees.arrow ps e) w v ts r m = absurd (omega arith)
no_prefix_before (trees.arrow_block ps body) w v ts r m = absurd (omega arith)
no_prefix_before (trees.prefix o e) w v ts r m = absurd (omega arith)
no_prefix_before (trees.unary o e) w v ts r m = absurd (omega arith)
no_prefix_before (trees.binary o x y) w v ts r m = absurd (omega (arith, strength_low o))
no_prefix_before (trees.conditional t c a) w v ts r m = absurd (omega arith)
no_prefix_before (trees.assign o t a) w v ts r m = absurd (omega arith)
no_prefix_before (trees.comma es) w v ts r m = absurd (omega arith)
no_prefix_before trees.this w v ts r m = prefix_fixed kinds.This (head_of ts) m.0
no_prefix_before (trees.name a) w v ts r m =
    prefix_fixed kinds.Name (head_of ts) (kind_of_identifier a (head_of ts) m.0)
no_prefix_before (trees.number a) w v ts r m =
    prefix_fixed kinds.Number (head_of ts) (kind_of_number a (head_of ts) m.0)
no_prefix_before (trees.string a) w v ts r m =
    prefix_fixed kinds.String (head_of ts) (kind_of_string a (head_of ts) m.0)
no_prefix_before (trees.boolean true) w v ts r m = prefix_fixed kinds.True (head_of ts) m.0
no_prefix_before (trees.boolean false) w v ts r m = prefix_fixed kinds.False (head_of ts) m.0
no_prefix_before trees.null w v ts r m = prefix_fixed kinds.Null (head_of ts) m.0
no_prefix_before (trees.array es) w v ts r m = prefix_fixed kinds.LeftBracket (head_of ts) m.0
no_prefix_before (trees.object ps) w v ts r m = prefix_fixed kinds.LeftBrace (head_of ts) m.0
no_prefix_before (trees.function o ps body) w v ts r m = prefix_fixed kinds.Function (head_of ts) m.0
no_prefix_before (trees.parenthesized e) w v ts r m = prefix_fixed kinds.LeftParenthesis (head_of ts) m.0

abbrev UnaryAgain : ℕ → Below → Expression → Type 0
UnaryAgain n b e =
    height e ≤ suc n → (ts r : List Token) → Matches (flat e) ts r → StopsUnary (edge e) r → unary b n ts ≡ Ok (e, r)

postfix_unary : (q : SeqAgain) (n : ℕ) (b : Below)
    → AgainBelow n b
    → ObjectsAgain n b
    → (e : Expression)
    → 14 ≤ level e
    → Well e
    → UnaryAgain n b e
unfolding unary
postfix_unary q n b h os e v w l ts r m s =
    rw (no_prefix_before e w v ts r m) (postfix_again q n b h os e v w l ts r m s)

prefix_unary : (n : ℕ) (b : Below)
    → AgainBelow n b
    → (o : UpdateOperator) (e : Expression)
    → Well (trees.prefix o e)
    → UnaryAgain n b (trees.prefix o e)
unfolding unary
prefix_unary n b h o e w l ts r m s =
    let high : level e ≡ 15 = target_level e w.1 in
    let is : prefix (head_of ts) ≡ classes.an_update o = prefix_fixed (update_kind o) (head_of ts) m.0
    ∙ update_prefix o in
    let inner : Matches (flat e) (tail_of ts) r = and_nothing (flat e) (tail_of ts) r m.1 in
    rw (is, h.call e w.0 (omega arith) (omega arith) (tail_of ts) r inner s.0, w.1) refl

operand_unary : (n : ℕ) (b : Below)
    → AgainBelow n b
    → (o : UnaryOperator) (e : Expression)
    → prefix_by (unary_kind o) ≡ classes.a_unary o
    → Well (trees.unary o e)
    → UnaryAgain n b (trees.unary o e)
unfolding unary
operand_unary n b h o e p w l ts r m s =
    let is : prefix (head_of ts) ≡ classes.a_unary o = prefix_fixed (unary_kind o) (head_of ts) m.0 ∙ p in
    let inner : Matches (flat e) (tail_of ts) r = and_nothing (flat e) (tail_of ts) r m.1 in
    rw (is, h.unary e w.0 w.1 (omega arith) (tail_of ts) r inner s) refl

delete_unary : (n : ℕ) (b : Below)
    → AgainBelow n b
    → (e : Expression)
    → Well (trees.unary unaries.Delete e)
    → UnaryAgain n b (trees.unary unaries.Delete e)
unfolding unary
delete_unary n b h e w l ts r m s =
    let high : level e ≡ 15 = property_level e w.2 in
    let stops : StopsUnary plain r = subst (λ (d : ExpressionEnd). StopsUnary d r) (call_edge e (omega arith)) s in
    let inner : Matches (flat e) (tail_of ts) r = and_nothing (flat e) (tail_of ts) r m.1 in
    rw (
      prefix_fixed kinds.Delete (head_of ts) m.0,
      h.call e w.0 (omega arith) (omega arith) (tail_of ts) r inner stops.0,
      w.2,
    )
    refl

any_unary : (n : ℕ) (b : Below)
    → AgainBelow n b
    → (o : UnaryOperator) (e : Expression)
    → Well (trees.unary o e)
    → UnaryAgain n b (trees.unary o e)
any_unary n b h unaries.Delete e w = delete_unary n b h e w
any_unary n b h unaries.Void e w = operand_unary n b h unaries.Void e refl w
any_unary n b h unaries.Typeof e w = operand_unary n b h unaries.Typeof e refl w
any_unary n b h unaries.Plus e w = operand_unary n b h unaries.Plus e refl w
any_unary n b h unaries.Minus e w = operand_unary n b h unaries.Minus e refl w
any_unary n b h unaries.BitwiseNot e w = operand_unary n b h unaries.BitwiseNot e refl w
any_unary n b h unaries.LogicalNot e w = operand_unary n b h unaries.LogicalNot e refl w

unary_reads : (q : SeqAgain) (n : ℕ) (b : Below)
    → AgainBelow n b
    → ObjectsAgain n b
    → (e : Expression)
    → 13 ≤ level e
    → Well e
    → UnaryAgain n b e
unary_reads q n b h os (trees.unary o e) v w = any_unary n b h o e w
unary_reads q n b h os (trees.prefix o e) v w = prefix_unary n b h o e w
unary_reads q n b h os (trees.arrow ps e) v w = absurd (omega arith)
unary_reads q n b h os (trees.arrow_block ps body) v w = absurd (omega arith)
unary_reads q n b h os (trees.binary o x y) v w = absurd (omega (arith, strength_low o))
unary_reads q n b h os (trees.conditional t c a) v w = absurd (omega arith)
unary_reads q n b h os (trees.assign o t a) v w = absurd (omega arith)
unary_reads q n b h os (trees.comma es) v w = absurd (omega arith)
unary_reads q n b h os (trees.postfix o e) v w = postfix_unary q n b h os (trees.postfix o e) (omega arith) w
unary_reads q n b h os (trees.member e a) v w = postfix_unary q n b h os (trees.member e a) (omega arith) w
unary_reads q n b h os (trees.index e i) v w = postfix_unary q n b h os (trees.index e i) (omega arith) w
unary_reads q n b h os (trees.call f es) v w = postfix_unary q n b h os (trees.call f es) (omega arith) w
unary_reads q n b h os trees.this v w = postfix_unary q n b h os trees.this (omega arith) w
unary_reads q n b h os (trees.name a) v w = postfix_unary q n b h os (trees.name a) (omega arith) w
unary_reads q n b h os (trees.number a) v w = postfix_unary q n b h os (trees.number a) (omega arith) w
unary_reads q n b h os (trees.string a) v w = postfix_unary q n b h os (trees.string a) (omega arith) w
unary_reads q n b h os (trees.boolean a) v w = postfix_unary q n b h os (trees.boolean a) (omega arith) w
unary_reads q n b h os trees.null v w = postfix_unary q n b h os trees.null (omega arith) w
unary_reads q n b h os (trees.array es) v w = postfix_unary q n b h os (trees.array es) (omega arith) w
unary_reads q n b h os (trees.object ps) v w = postfix_unary q n b h os (trees.object ps) (omega arith) w
unary_reads q n b h os (trees.function o ps body) v w =
    postfix_unary q n b h os (trees.function o ps body) (omega arith) w
unary_reads q n b h os (trees.parenthesized e) v w = postfix_unary q n b h os (trees.parenthesized e) (omega arith) w

pub unary_again : (q : SeqAgain) (n : ℕ) (b : Below)
    → AgainBelow n b
    → ObjectsAgain n b
    → (e : Expression)
    → Well e
    → 13 ≤ level e
    → height e ≤ suc n
    → (ts r : List Token)
    → Matches (flat e) ts r
    → StopsUnary (edge e) r
    → unary b n ts ≡ Ok (e, r)
unary_again q n b h os e w v l ts r m s = unary_reads q n b h os e v w l ts r m s
