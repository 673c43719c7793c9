-- The statements with for are read again.
use Rattle.std.proofs.Common.{◌≡◌, ℕ, suc, ◌≤◌, Bool, true, false, cond, List, [], ◌∷◌, ◌++◌, Option, Ok, refl, sym, ap, subst, ◌∙◌, append_assoc, arith, codes}
use Rattle.std.specs.Prelude.{◌&&◌}
use Rattle.js_lexer.specs.declared.token.TokenKind.{TokenKind}
use Rattle.js_lexer.specs.declared.token.TokenKind.TheVariants as kinds
use Rattle.js_tree.specs.Trees as trees
use Rattle.js_tree.specs.Trees.{Identifier, Expression, OptionalExpression, Declarators, Statement}
use Rattle.js_parser_language.specs.Tokens.{Token, fixed, identifier, IsNext, FlatToken, token, head_of, tail_of, Matches}
use Rattle.js_parser_language.specs.Flat.{let_or_const, flat, flat_optional, flat_declarators, flat_statement}
use Rattle.js_parser_language.specs.Well.{StatementContext, WellOptional, WellStatement, is_some_declarator}
use Rattle.js_tree.specs.Height.{height_of_statement}
use Rattle.js_parser_language.specs.Kinds.{is_kind}
use Rattle.js_parser_readers.specs.Classes as classes
use Rattle.js_parser_readers.specs.Classes.{first, first_by, is_name, each, declares, plain_head, for_head, for_head_by}
use Rattle.js_parser_readers.specs.Productions.{Below, PieceValues}
use Rattle.js_parser_readers.specs.Parsing.{let_kind, for_items, for_lexical_items, for_of_items, for_at, for_by}
use Rattle.js_parser_language.proofs.KindLemmas.{next_again, kind_not}
use Rattle.js_parser_laws.proofs.Claims.{Follows, AgainBelow, marks}
use Rattle.js_parser_laws.proofs.MarkLemmas.{parts}
use Rattle.js_parser_laws.proofs.TokenLemmas.{text_is}
use Rattle.js_parser_laws.proofs.Again.Front.{first_is, opens, opens_next, expression_opens}
use Rattle.js_parser_laws.proofs.Again.Production.{name_is, made_again}

-- ---- marks of the heads

-- what a mark ends, with the same behind it
ended_marks : (ms : List FlatToken) (m : FlatToken) (ns us : List FlatToken) → ns ≡ us → ms ++ (m ∷ ns) ≡ (ms ++ (m ∷ [])) ++ us
ended_marks ms m ns us e = ap (λ (l : List FlatToken). ms ++ (m ∷ l)) e ∙ sym (append_assoc ms (m ∷ []) us)

pub let_marks : (constant : Bool) → let_or_const constant ≡ token (fixed (let_kind constant)) ∷ []
let_marks true = refl
let_marks false = refl

abbrev for_values : (context : StatementContext)
    → OptionalExpression
    → OptionalExpression
    → OptionalExpression
    → Statement
    → PieceValues (for_items context)
for_values context i t u s = (tt, (tt, (i, (t, (u, (s, tt))))))

abbrev for_lexical_values : (context : StatementContext) (constant : Bool)
    → Declarators
    → OptionalExpression
    → OptionalExpression
    → Statement
    → PieceValues (for_lexical_items context constant)
for_lexical_values context constant ds t u s = (tt, (tt, (tt, (ds, (tt, (t, (u, (s, tt))))))))

abbrev for_of_values : (context : StatementContext) (constant : Bool)
    → Identifier
    → Expression
    → Statement
    → PieceValues (for_of_items context constant)
for_of_values context constant n e s = (tt, (tt, (tt, (n, (tt, (e, (tt, (s, tt))))))))

-- behind the first part of a head
abbrev test_marks : OptionalExpression → OptionalExpression → Statement → List FlatToken
test_marks t u s =
    flat_optional t ++
    (token (fixed kinds.Semicolon) ∷
    (flat_optional u ++ (token (fixed kinds.RightParenthesis) ∷ (flat_statement s ++ []))))

abbrev test_pieces : OptionalExpression → OptionalExpression → Statement → List FlatToken
test_pieces t u s =
    (flat_optional t ++ (token (fixed kinds.Semicolon) ∷ [])) ++
    ((flat_optional u ++ (token (fixed kinds.RightParenthesis) ∷ [])) ++ (flat_statement s ++ []))

tests_same : (t u : OptionalExpression) (s : Statement) → test_marks t u s ≡ test_pieces t u s
tests_same t u s =
    ended_marks (flat_optional t) (token (fixed kinds.Semicolon))
    (flat_optional u ++ (token (fixed kinds.RightParenthesis) ∷ (flat_statement s ++ [])))
    ((flat_optional u ++ (token (fixed kinds.RightParenthesis) ∷ [])) ++ (flat_statement s ++ []))
    (ended_marks (flat_optional u) (token (fixed kinds.RightParenthesis)) (flat_statement s ++ [])
    (flat_statement s ++ []) refl)

for_marks : (context : StatementContext) (i t u : OptionalExpression) (s : Statement)
    → flat_statement (trees.for i t u s) ≡ marks (for_items context) (for_values context i t u s)
for_marks context i t u s =
    ap (λ (l : List FlatToken). token (fixed kinds.For) ∷ token (fixed kinds.LeftParenthesis) ∷ l)
    (ended_marks (flat_optional i) (token (fixed kinds.Semicolon)) (test_marks t u s) (test_pieces t u s)
    (tests_same t u s))

for_lexical_marks : (context : StatementContext) (constant : Bool) (ds : Declarators) (t u : OptionalExpression) (s : Statement)
    → flat_statement (trees.for_lexical constant ds t u s) ≡ marks (for_lexical_items context constant)
    (for_lexical_values context constant ds t u s)
for_lexical_marks context constant ds t u s =
    ap (λ (l : List FlatToken). token (fixed kinds.For) ∷ token (fixed kinds.LeftParenthesis) ∷
    (l ++ (flat_declarators ds ++ (token (fixed kinds.Semicolon) ∷ test_marks t u s))))
    (let_marks constant)
    ∙ ap (λ (l : List FlatToken). token (fixed kinds.For) ∷ token (fixed kinds.LeftParenthesis) ∷ token
    (fixed (let_kind constant)) ∷ (flat_declarators ds ++ (token (fixed kinds.Semicolon) ∷ l)))
    (tests_same t u s)

for_of_marks : (context : StatementContext) (constant : Bool) (n : Identifier) (e : Expression) (s : Statement)
    → flat_statement (trees.for_of constant n e s) ≡ marks (for_of_items context constant)
    (for_of_values context constant n e s)
for_of_marks context true n e s = refl
for_of_marks context false n e s = refl

-- ---- which head it is

-- neither let nor const
opens_plain : (ts : List Token) → opens_next (head_of ts) ≡ true → for_head ts ≡ plain_head
opens_plain [] o = refl
opens_plain (t ∷ ts) o = by_kind t.kind o
  where
    by_kind : (k : TokenKind) → opens k ≡ true → for_head_by (first_by k) ts ≡ plain_head
    by_kind kinds.Let o = absurd cc
    by_kind kinds.Const o = absurd cc
    by_kind _ o = refl

optional_plain : (i : OptionalExpression)
    → WellOptional i
    → (ms : List FlatToken) (ts r : List Token)
    → Matches (flat_optional i ++ (token (fixed kinds.Semicolon) ∷ ms)) ts r
    → for_head ts ≡ plain_head
optional_plain trees.omitted w ms ts r m = rw (first_is kinds.Semicolon (head_of ts) m.0) refl
optional_plain (trees.present e) w ms ts r m =
    let p = parts (flat e) (token (fixed kinds.Semicolon) ∷ ms) ts r m in
    opens_plain ts (expression_opens e w ts p.0 p.1)

pub let_first : (constant : Bool) (o : Option Token)
    → IsNext (fixed (let_kind constant)) o
    → first o ≡ classes.a_lexical constant
let_first true o m = first_is kinds.Const o m
let_first false o m = first_is kinds.Let o m

-- behind the first declared name stands no name
no_second_name : (ds : Declarators)
    → is_some_declarator ds ≡ true
    → (ms : List FlatToken) (ts r : List Token)
    → Matches (flat_declarators ds ++ (token (fixed kinds.Semicolon) ∷ ms)) ts r
    → is_kind kinds.Name (head_of (tail_of ts)) ≡ false
no_second_name trees.no_declarators some ms ts r m = absurd cc
no_second_name (trees.a_declarator (trees.declarator n trees.omitted) trees.no_declarators) some ms ts r m =
    kind_not kinds.Semicolon kinds.Name (head_of (tail_of ts)) (next_again kinds.Semicolon (head_of (tail_of ts)) m.1.0)
    refl
no_second_name (trees.a_declarator (trees.declarator n trees.omitted) (trees.a_declarator d ds)) some ms ts r m =
    kind_not kinds.Comma kinds.Name (head_of (tail_of ts)) (next_again kinds.Comma (head_of (tail_of ts)) m.1.0) refl
no_second_name (trees.a_declarator (trees.declarator n (trees.present e)) ds) some ms ts r m =
    kind_not kinds.Assign kinds.Name (head_of (tail_of ts)) (next_again kinds.Assign (head_of (tail_of ts)) m.1.0) refl

head_declares : (constant : Bool) (ts : List Token)
    → IsNext (fixed (let_kind constant)) (head_of ts)
    → is_kind kinds.Name (head_of (tail_of (tail_of ts))) ≡ false
    → for_head ts ≡ declares constant
head_declares constant ts m n =
    rw (let_first constant (head_of ts) m) (by_test (is_kind kinds.Name (head_of (tail_of ts))))
  where
    by_test : (x : Bool)
        → cond (x && is_name (codes "of") (head_of (tail_of (tail_of ts)))) (each constant) (declares constant)
        ≡ declares constant
    by_test true = rw n refl
    by_test false = refl

head_each : (constant : Bool) (n : Identifier) (ts : List Token)
    → IsNext (fixed (let_kind constant)) (head_of ts)
    → IsNext (identifier n) (head_of (tail_of ts))
    → IsNext (identifier (codes "of")) (head_of (tail_of (tail_of ts)))
    → for_head ts ≡ each constant
head_each constant n ts m x y =
    rw (
      let_first constant (head_of ts) m,
      (text_is n (head_of (tail_of ts)) x).0,
      name_is (codes "of") (head_of (tail_of (tail_of ts))) y,
    )
    refl

-- ---- statements

pub for_statement : (n : ℕ) (b : Below)
    → AgainBelow n b
    → (context : StatementContext) (i t u : OptionalExpression) (s : Statement)
    → WellStatement context (trees.for i t u s)
    → height_of_statement (trees.for i t u s) ≤ suc n
    → (ts r : List Token)
    → Matches (flat_statement (trees.for i t u s)) ts r
    → Follows (trees.for i t u s) r
    → for_at b context ts ≡ Ok (trees.for i t u s, r)
unfolding for_at
for_statement n b a context i t u s w h ts r m f =
    let head : for_head (tail_of (tail_of ts)) ≡ plain_head = optional_plain i w.0 (test_marks t u s)
    (tail_of (tail_of ts)) r m.1.1 in
    let read : for_by b context plain_head ts ≡ Ok (trees.for i t u s, r) =
    made_again n b a (for_items context) (λ v. trees.for v.1.1.0 v.1.1.1.0 v.1.1.1.1.0 v.1.1.1.1.1.0)
    (for_values context i t u s) ts r
    (tt, (tt, (w.0, (w.1, (w.2, ((w.3, w.4), tt)))))) (omega (arith, h)) refl f
    (subst (λ (l : List FlatToken). Matches l ts r) (for_marks context i t u s) m) in
    rw (head, read) refl

pub for_lexical_statement : (n : ℕ) (b : Below)
    → AgainBelow n b
    → (context : StatementContext) (constant : Bool) (ds : Declarators) (t u : OptionalExpression) (s : Statement)
    → WellStatement context (trees.for_lexical constant ds t u s)
    → height_of_statement (trees.for_lexical constant ds t u s) ≤ suc n
    → (ts r : List Token)
    → Matches (flat_statement (trees.for_lexical constant ds t u s)) ts r
    → Follows (trees.for_lexical constant ds t u s) r
    → for_at b context ts ≡ Ok (trees.for_lexical constant ds t u s, r)
unfolding for_at
for_lexical_statement n b a context constant ds t u s w h ts r m f =
    let pieces : Matches (marks (for_lexical_items context constant) (for_lexical_values context constant ds t u s))
    ts r = subst (λ (l : List FlatToken). Matches l ts r) (for_lexical_marks context constant ds t u s) m in
    let us : List Token = tail_of (tail_of ts) in
    let head : for_head us ≡ declares constant = head_declares constant us pieces.1.1.0
    (no_second_name ds w.0 (test_pieces t u s) (tail_of us) r pieces.1.1.1) in
    let read : for_by b context (declares constant) ts ≡ Ok (trees.for_lexical constant ds t u s, r) =
    made_again n b a (for_lexical_items context constant)
    (λ v. trees.for_lexical constant v.1.1.1.0 v.1.1.1.1.1.0 v.1.1.1.1.1.1.0 v.1.1.1.1.1.1.1.0)
    (for_lexical_values context constant ds t u s) ts r
    (tt, (tt, (tt, ((w.0, w.1, w.2, w.3), (tt, (w.4, (w.5, ((w.6, w.7), tt)))))))) (omega (arith, h)) refl f pieces in
    rw (head, read) refl

pub for_of_statement : (n : ℕ) (b : Below)
    → AgainBelow n b
    → (context : StatementContext) (constant : Bool) (x : Identifier) (e : Expression) (s : Statement)
    → WellStatement context (trees.for_of constant x e s)
    → height_of_statement (trees.for_of constant x e s) ≤ suc n
    → (ts r : List Token)
    → Matches (flat_statement (trees.for_of constant x e s)) ts r
    → Follows (trees.for_of constant x e s) r
    → for_at b context ts ≡ Ok (trees.for_of constant x e s, r)
unfolding for_at
for_of_statement n b a context constant x e s w h ts r m f =
    let pieces : Matches (marks (for_of_items context constant) (for_of_values context constant x e s)) ts r = subst
    (λ (l : List FlatToken). Matches l ts r) (for_of_marks context constant x e s) m in
    let head : for_head (tail_of (tail_of ts)) ≡ each constant = head_each constant x (tail_of (tail_of ts))
    pieces.1.1.0 pieces.1.1.1.0 pieces.1.1.1.1.0 in
    let read : for_by b context (each constant) ts ≡ Ok (trees.for_of constant x e s, r) =
    made_again n b a (for_of_items context constant)
    (λ v. trees.for_of constant v.1.1.1.0 v.1.1.1.1.1.0 v.1.1.1.1.1.1.1.0) (for_of_values context constant x e s)
    ts r
    (tt, (tt, (tt, (tt, (tt, ((w.0, w.1), (tt, ((w.2, w.3), tt)))))))) (omega (arith, h)) refl f pieces in
    rw (head, read) refl
