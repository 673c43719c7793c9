-- The law of productions: what their items' values match is read as these.
use Rattle.std.proofs.Common.{◌≡◌, ℕ, ◌≤◌, Bool, true, false, List, [], ◌∷◌, Option, Some, Ok, refl, sym, ap, subst, arith}
use Rattle.std.specs.Prelude.{nat_eq}
use Rattle.std.specs.Cmp.Lexicographic.{pointwise}
use Rattle.std.proofs.lemmas.Cmp.{nat_list_eq_equiv}
use Rattle.js_lexer.specs.declared.token.TokenKind.TheVariants as kinds
use Rattle.js_parser_language.specs.Tokens.{Token, fixed, identifier, token, IsNext, head_of, Matches}
use Rattle.js_parser_language.specs.Flat.{edge}
use Rattle.js_parser_language.specs.Kinds.{is_kind}
use Rattle.js_parser_readers.specs.Classes.{is_name}
use Rattle.js_parser_readers.specs.Productions.{Below, Piece, tok, near, a_name, the_name, an_assignment, an_expression, optional, arguments, ended, an_end, declared, a_statement, a_block, in_braces, code, PieceValue, PieceValues, expect_name, item, seq, made}
use Rattle.js_parser_language.proofs.KindLemmas.{next_again, kind_not}
use Rattle.js_parser_laws.proofs.Claims.{Stops, NoComma, follows_statement, Follows, AgainBelow, marks_of, marks, Sane, AllSane, height_at, height_all, EndsLast, fits, all_fit, SeqAgain}
use Rattle.js_parser_laws.proofs.MarkLemmas.{parts}
use Rattle.js_parser_laws.proofs.TokenLemmas.{expect_again, expect_near_again, name_again, text_is, semicolon_again}
use Rattle.js_parser_laws.proofs.Again.Front.{closes_stops}
use Rattle.js_parser_laws.proofs.Again.Part.{arguments_again, braces_again, code_again, declarators_again, declarators_close, optional_again, ended_again}
use Rattle.std.proofs.lemmas.Bool.{and_parts}

-- ---- a given name

same_name : (n : List ℕ) → pointwise nat_eq n n ≡ true
same_name n = nat_list_eq_equiv.refl n

-- that name is read again
pub name_is : (n : List ℕ) (o : Option Token) → IsNext (identifier n) o → is_name n o ≡ true
name_is n o m = let t = text_is n o m in rw (t.0, t.1) (same_name n)

the_name_again : (n : List ℕ) (ts r : List Token)
    → Matches (token (identifier n) ∷ []) ts r
    → expect_name n ts ≡ Ok (tt, r)
unfolding expect_name
the_name_again n ts r m = rw (name_is n (head_of ts) m.0) (ap (λ (l : List Token). Ok (tt, l)) m.1)

-- ---- items

while_follows : (r : List Token)
    → IsNext (fixed kinds.While) (head_of r)
    → (follows_statement (head_of r) ≡ true) × (is_kind kinds.Else (head_of r) ≡ false)
while_follows [] m = absurd m
while_follows (t ∷ r) m = (rw m refl, kind_not kinds.While kinds.Else (Some t) (next_again kinds.While (Some t) m) refl)

-- what a production's item is read before
abbrev ReadBefore : ℕ → Below → (i : Piece) → PieceValue i → (is : List Piece) → PieceValues is → Type 0
ReadBefore n b i v is vs =
    (ts mid r : List Token)
    → Sane i v
    → height_at i v ≤ n
    → fits i is ≡ true
    → EndsLast (i ∷ is) (v, vs) r
    → Matches (marks_of i v) ts mid
    → Matches (marks is vs) mid r
    → item b i ts ≡ Ok (v, mid)

assignment_before : (n : ℕ) (b : Below)
    → AgainBelow n b
    → (v : PieceValue an_assignment) (is : List Piece) (vs : PieceValues is)
    → ReadBefore n b an_assignment v is vs
assignment_before n b a v [] vs ts mid r s h f e m q =
    a.assignment v s.0 s.1 h ts mid m (subst (λ (l : List Token). Stops (edge v) l) (sym q) e)
assignment_before n b a v (tok k ∷ is) vs ts mid r s h f e m q =
    a.assignment v s.0 s.1 h ts mid m (closes_stops k f mid (next_again k (head_of mid) q.0) (edge v)).0
assignment_before n b a v (_ ∷ is) vs ts mid r s h f e m q = absurd cc

expression_before : (n : ℕ) (b : Below)
    → AgainBelow n b
    → (v : PieceValue an_expression) (is : List Piece) (vs : PieceValues is)
    → ReadBefore n b an_expression v is vs
expression_before n b a v [] vs ts mid r s h f e m q =
    let here : Stops (edge v) mid × NoComma mid = subst (λ (l : List Token). Stops (edge v) l × NoComma l) (sym q) e in
    a.expression v s h ts mid m here.0 here.1
expression_before n b a v (tok k ∷ is) vs ts mid r s h f e m q =
    let here = closes_stops k f mid (next_again k (head_of mid) q.0) (edge v) in
    a.expression v s h ts mid m here.0 here.1
expression_before n b a v (_ ∷ is) vs ts mid r s h f e m q = absurd cc

ended_before : (n : ℕ) (b : Below)
    → AgainBelow n b
    → (v : PieceValue ended) (is : List Piece) (vs : PieceValues is)
    → ReadBefore n b ended v is vs
ended_before n b a v [] vs ts mid r s h f e m q =
    ended_again n b a v s h ts mid m (subst (λ (l : List Token). follows_statement (head_of l) ≡ true) (sym q) e)
ended_before n b a v (_ ∷ is) vs ts mid r s h f e m q = absurd cc

statement_before : (n : ℕ) (b : Below)
    → AgainBelow n b
    → (context : _) (v : PieceValue (a_statement context)) (is : List Piece) (vs : PieceValues is)
    → ReadBefore n b (a_statement context) v is vs
statement_before n b a context v [] vs ts mid r s h f e m q =
    a.statement context v s.0 s.1 h ts mid m (subst (λ (l : List Token). Follows v l) (sym q) e)
statement_before n b a context v (tok kinds.While ∷ is) vs ts mid r s h f e m q =
    let w = while_follows mid q.0 in a.statement context v s.0 s.1 h ts mid m (w.0, λ i. w.1)
statement_before n b a context v (_ ∷ is) vs ts mid r s h f e m q = absurd cc

declared_before : (n : ℕ) (b : Below)
    → AgainBelow n b
    → (constant : Bool) (taken : _) (v : PieceValue (declared constant taken)) (is : List Piece) (vs : PieceValues is)
    → ReadBefore n b (declared constant taken) v is vs
declared_before n b a constant taken v (tok kinds.Semicolon ∷ is) vs ts mid r s h f e m q =
    declarators_again n b a constant taken v s.0 s.1 s.2 s.3 h ts mid m
    (declarators_close v mid (next_again kinds.Semicolon (head_of mid) q.0))
declared_before n b a constant taken v [] vs ts mid r s h f e m q = absurd cc
declared_before n b a constant taken v (_ ∷ is) vs ts mid r s h f e m q = absurd cc

item_again : (n : ℕ) (b : Below)
    → AgainBelow n b
    → (i : Piece) (v : PieceValue i) (is : List Piece) (vs : PieceValues is)
    → ReadBefore n b i v is vs
item_again n b a (tok k) v is vs ts mid r s h f e m q = expect_again k ts mid m
item_again n b a (near k) v is vs ts mid r s h f e m q = expect_near_again k ts mid m
item_again n b a a_name v is vs ts mid r s h f e m q = name_again v ts mid m
item_again n b a (the_name x) v is vs ts mid r s h f e m q = the_name_again x ts mid m
item_again n b a an_assignment v is vs ts mid r s h f e m q = assignment_before n b a v is vs ts mid r s h f e m q
item_again n b a an_expression v is vs ts mid r s h f e m q = expression_before n b a v is vs ts mid r s h f e m q
item_again n b a (optional k) v is vs ts mid r s h f e m q = optional_again n b a k f v s h ts mid m
item_again n b a (arguments k) v is vs ts mid r s h f e m q = arguments_again n b a k f v s h ts mid m
item_again n b a ended v is vs ts mid r s h f e m q = ended_before n b a v is vs ts mid r s h f e m q
item_again n b a (an_end end) v is vs ts mid r s h f e m q = semicolon_again end ts mid m
item_again n b a (declared constant taken) v is vs ts mid r s h f e m q =
    declared_before n b a constant taken v is vs ts mid r s h f e m q
item_again n b a (a_statement context) v is vs ts mid r s h f e m q =
    statement_before n b a context v is vs ts mid r s h f e m q
item_again n b a (a_block context taken) v is vs ts mid r s h f e m q = a.block context taken v s.1 s.0 h ts mid m
item_again n b a (in_braces context taken) v is vs ts mid r s h f e m q =
    braces_again n b a context taken v s.1 s.0 h ts mid m
item_again n b a code v is vs ts mid r s h f e m q = code_again n b a v s.0 s.1 h ts mid m

-- ---- productions

last_ends : (i : Piece) (is : List Piece) (v : PieceValue i) (vs : PieceValues is) (r : List Token)
    → EndsLast (i ∷ is) (v, vs) r
    → EndsLast is vs r
last_ends i [] v vs r e = tt
last_ends i (j ∷ is) v vs r e = e

pub seq_again : SeqAgain
seq_again n b a [] vs ts r s h f e m = ap (λ (l : List Token). Ok (tt, l)) m
seq_again n b a (i ∷ is) vs ts r s h f e m =
    let p = parts (marks_of i vs.0) (marks is vs.1) ts r m in
    let g = and_parts (fits i is) (all_fit is) f in
    let first : item b i ts ≡ Ok (vs.0, p.0) = item_again n b a i vs.0 is vs.1 ts p.0 r s.0 (omega (arith, h))
    g.0 e p.1 p.2 in
    let rest : seq b is p.0 ≡ Ok (vs.1, r) = seq_again n b a is vs.1 p.0 r s.1 (omega (arith, h)) g.1
    (last_ends i is vs.0 vs.1 r e) p.2 in
    rw (first, rest) refl

-- a form made of a production is read again
pub made_again : {A : Type 0} (n : ℕ) (b : Below)
    → AgainBelow n b
    → (is : List Piece) (make : PieceValues is → A) (vs : PieceValues is) (ts r : List Token)
    → AllSane is vs
    → height_all is vs ≤ n
    → all_fit is ≡ true
    → EndsLast is vs r
    → Matches (marks is vs) ts r
    → made b is make ts ≡ Ok (make vs, r)
made_again n b a is make vs ts r s h f e m = rw (seq_again n b a is vs ts r s h f e m) refl
