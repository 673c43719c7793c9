-- What the readers of statements, blocks and functions read, where what reads below them reads well-formed trees.
use Rattle.std.proofs.Common.{◌≡◌, ℕ, suc, ◌≤◌, Bool, true, false, List, [], ◌∷◌, ◌++◌, length, Option, Some, None, Ok, refl, ap, subst, ◌∙◌, append_assoc, arith}
use Rattle.std.specs.Prelude.{◌||◌, not, max, codes}
use Rattle.std.proofs.lemmas.List.{append-nil}
use Rattle.js_lexer.specs.declared.token.TokenKind.{TokenKind}
use Rattle.js_lexer.specs.declared.token.TokenKind.TheVariants as kinds
use Rattle.js_tree.specs.Trees as trees
use Rattle.js_tree.specs.Trees.{Identifier, Statement, Statements, Handler, Finalizer}
use Rattle.js_parser_language.specs.Tokens.{Token, fixed, identifier, FlatToken, token, beside, semicolon, trailing_comma, after_expression, after_word, absent_before, head_of, tail_of, is_on_line, Matches}
use Rattle.js_parser_language.specs.Flat as flats
use Rattle.js_parser_language.specs.Flat.{edge, end_of_declarators, on_line, let_or_const, flat, flat_optional, flat_parameters, flat_declarators, flat_statement, flat_statements, flat_handler, flat_finalizer}
use Rattle.js_parser_language.specs.Well.{StatementContext, begins_with_brace, begins_with_function, WellHandler, WellFinalizer, is_statement, ends_in_if, is_handled, AreFresh, declared_by}
use Rattle.js_tree.specs.Height.{height_of_statements, height_of_handler, height_of_finalizer}
use Rattle.js_parser_language.specs.Kinds.{is_kind}
use Rattle.js_parser_readers.specs.Classes as classes
use Rattle.js_parser_readers.specs.Classes.{StatementStart, first, ends_return, ForHead, each, declares, plain_head, for_head}
use Rattle.js_parser_readers.specs.Reading.{stuck, ◌>>=◌, fresh_name, semicolon_at}
use Rattle.js_parser_readers.specs.Productions.{ParametersAndBody, Below, braces, code_at, declarators_at, Piece, tok, a_name, ended, an_end, a_statement, a_block, in_braces, PieceValues, seq, made}
use Rattle.js_parser_readers.specs.Parsing.{else_by, if_items, if_at, let_kind, do_items, while_items, for_items, for_lexical_items, for_of_items, for_by, for_at, return_by, throw_by, catch_by, handler_by, handler_at, finalizer_by, finalizer_at, try_at, statement_by, statement, lexical_at, declaration_at, item_by, item}
use Rattle.js_parser_language.proofs.KindLemmas.{next_is, next_again}
use Rattle.js_parser_laws.proofs.Claims.{NoElse, TakesItem, TakesStatement, TakesBlock, TakesCode, SoundBelow, height_at, height_all, TakesAll}
use Rattle.js_parser_laws.proofs.MarkLemmas.{joins, parts}
use Rattle.js_parser_laws.proofs.TokenLemmas.{ok_is, test_ok, fresh_sound, semicolon_sound}
use Rattle.js_parser_laws.proofs.Sound.Part.{braces_sound, code_sound, declarators_sound, seq_sound}
use Rattle.js_parser_readers.proofs.ClassLemmas.{first_semicolon, first_lexical, first_function}
use Rattle.js_parser_readers.proofs.ShorterLemmas.{bind_ok}
use Rattle.js_parser_laws.proofs.Again.Primary.{before_nothing, and_nothing}

-- ---- productions

-- each value is at most n high
abbrev pub AllLow : ℕ → (is : List Piece) → PieceValues is → Type 0
AllLow n [] vs = Unit {0}
AllLow n (i ∷ is) vs = (height_at i vs.0 ≤ n) × AllLow n is vs.1

max_low : (a b n : ℕ) → max a b ≤ n → (a ≤ n) × (b ≤ n)
max_low a b n h = (omega arith, omega arith)

pub all_low : (n : ℕ) (is : List Piece) (vs : PieceValues is) → height_all is vs ≤ n → AllLow n is vs
all_low n [] vs h = tt
all_low n (i ∷ is) vs h = let p = max_low (height_at i vs.0) (height_all is vs.1) n h in (p.0, all_low n is vs.1 p.1)

-- what is made of what a production reads
pub made_as : {A : Type 0} (n : ℕ) (b : Below)
    → SoundBelow n b
    → (is : List Piece) (make : PieceValues is → A) (ts : List Token) (P : A → List Token → Type 0)
    → ((vs : PieceValues is) (r : List Token) → TakesAll n is ts vs r → AllLow n is vs → P (make vs) r)
    → (x : A × List Token)
    → made b is make ts ≡ Ok x
    → P x.0 x.1
made_as {A} n b s is make ts P f x e =
    let p = bind_ok (seq b is ts) (λ x. Ok (make x.0, x.1)) x e in
    let t = seq_sound n b s is ts p.0 p.1 in
    subst (λ (x : A × List Token). P x.0 x.1) (ok_is (make p.0.0, p.0.1) x p.2)
    (f p.0.0 p.0.1 t (all_low n is p.0.0 t.height))

-- ---- marks

-- the first token stands on the line of the one before it
pub on_line_is : (ms ns : List FlatToken) (ts r : List Token)
    → is_on_line (head_of ts) ≡ true
    → Matches (ms ++ ns) ts r
    → Matches (on_line ms ++ ns) ts r
on_line_is [] ns ts r h m = m
on_line_is (token s ∷ ms) ns ts r h m = (m.0, h, m.1)
on_line_is (beside s ∷ ms) ns ts r h m = m
on_line_is (semicolon end ∷ ms) ns ts r h m = m
on_line_is (trailing_comma ∷ ms) ns ts r h m = m

pub no_brace : (ms : List FlatToken) (ts r : List Token)
    → is_kind kinds.LeftBrace (head_of ts) ≡ false
    → Matches ms ts r
    → begins_with_brace ms ≡ false
no_brace (token (fixed kinds.LeftBrace) ∷ ms) ts r h m =
    let q : is_kind kinds.LeftBrace (head_of ts) ≡ true = next_again kinds.LeftBrace (head_of ts) m.0 in absurd cc
no_brace _ ts r h m = refl

pub no_function : (ms : List FlatToken) (ts r : List Token)
    → is_kind kinds.Function (head_of ts) ≡ false
    → Matches ms ts r
    → begins_with_function ms ≡ false
no_function (token (fixed kinds.Function) ∷ ms) ts r h m =
    let q : is_kind kinds.Function (head_of ts) ≡ true = next_again kinds.Function (head_of ts) m.0 in absurd cc
no_function _ ts r h m = refl

-- ---- classes

-- an expression statement begins neither with { nor with function
expression_next : (o : Option Token)
    → first o ≡ classes.an_expression
    → (is_kind kinds.LeftBrace o ≡ false) × (is_kind kinds.Function o ≡ false)
expression_next None e = (refl, refl)
expression_next (Some t) e = by_kind t.kind e
  where
    by_kind : (k : TokenKind)
        → first (Some (record t { kind = k })) ≡ classes.an_expression
        → (is_kind kinds.LeftBrace (Some (record t { kind = k })) ≡ false)
        × (is_kind kinds.Function (Some (record t { kind = k })) ≡ false)
    by_kind kinds.LeftBrace e = absurd cc
    by_kind kinds.Function e = absurd cc
    by_kind _ e = (refl, refl)

-- what a return gives stands on its line
pub given_on_line : (o : Option Token) → ends_return o ≡ false → is_on_line o ≡ true
given_on_line None e = absurd cc
given_on_line (Some t) e = by_kind t.kind t.newline_before e
  where
    by_line : (line : Bool) → line ≡ false → not line ≡ true
    by_line true e = absurd cc
    by_line false e = refl

    by_kind : (k : TokenKind) (line : Bool)
        → (is_kind kinds.Semicolon (Some (record t { kind = k })) || absent_before after_word k line) ≡ false
        → not line ≡ true
    by_kind kinds.Semicolon line e = absurd cc
    by_kind kinds.RightBrace line e = absurd cc
    by_kind _ line e = by_line line e

-- ---- if

-- further marks behind those of an if
pub behind_if : (es ss ms : List FlatToken) (k : TokenKind)
    → (es ++ (token (fixed k) ∷ (ss ++ []))) ++ ms ≡ es ++ (token (fixed k) ∷ (ss ++ ms))
behind_if es ss ms k =
    append_assoc es (token (fixed k) ∷ (ss ++ [])) ms
    ∙ ap (λ (l : List FlatToken). es ++ (token (fixed k) ∷ (l ++ ms))) (append-nil ss)

pub no_open_if : (s : Statement) (r : List Token)
    → NoElse s r
    → is_kind kinds.Else (head_of r) ≡ true
    → ends_in_if s ≡ false
no_open_if s r h e = by_end (ends_in_if s) h
  where
    by_end : (c : Bool) → (c ≡ true → is_kind kinds.Else (head_of r) ≡ false) → c ≡ false
    by_end true h = let f = h refl in absurd cc
    by_end false h = refl

else_sound : (n : ℕ) (b : Below)
    → SoundBelow n b
    → (context : StatementContext) (ts : List Token) (vs : PieceValues (if_items context)) (r : List Token)
    → TakesAll n (if_items context) ts vs r
    → (c : Bool)
    → is_kind kinds.Else (head_of r) ≡ c
    → (x : Statement × List Token)
    → else_by b context vs.1.1.0 vs.1.1.1.1.0 c r ≡ Ok x
    → TakesStatement context (suc n) ts x.0 x.1
else_sound n b s context ts vs r t true h x e =
    let low = all_low n (if_items context) vs t.height in
    made_as n b s (tok kinds.Else ∷ a_statement context ∷ []) (λ v. trees.if_else vs.1.1.0 vs.1.1.1.1.0 v.1.0) r
    (TakesStatement context (suc n) ts) (λ v l u more. record {
      marks =
          subst (λ (ms : List FlatToken). Matches (token (fixed kinds.If) ∷ token (fixed kinds.LeftParenthesis) ∷ ms) ts l)
          (behind_if (flat vs.1.1.0) (flat_statement vs.1.1.1.1.0)
          (token (fixed kinds.Else) ∷ (flat_statement v.1.0 ++ [])) kinds.RightParenthesis)
          (joins (token (fixed kinds.If) ∷ token (fixed kinds.LeftParenthesis) ∷
          (flat vs.1.1.0 ++ (token (fixed kinds.RightParenthesis) ∷ (flat_statement vs.1.1.1.1.0 ++ []))))
          (token (fixed kinds.Else) ∷ (flat_statement v.1.0 ++ [])) ts r l t.marks u.marks);
      well = (
        t.sane.1.1.0,
        t.sane.1.1.1.1.0.0,
        t.sane.1.1.1.1.0.1,
        no_open_if vs.1.1.1.1.0 r t.last h,
        u.sane.1.0.0,
        u.sane.1.0.1,
      );
      form = refl;
      no_else = u.last;
      height = let p = low.1.1.0 in let q = low.1.1.1.1.0 in let r = more.1.0 in omega (arith, p, q, r);
    }) x e
else_sound n b s context ts vs r t false h x e =
    let low = all_low n (if_items context) vs t.height in
    subst (λ (x : Statement × List Token). TakesStatement context (suc n) ts x.0 x.1)
    (ok_is (trees.if_then vs.1.1.0 vs.1.1.1.1.0, r) x e) (record {
      marks = t.marks;
      well = (t.sane.1.1.0, t.sane.1.1.1.1.0.0, t.sane.1.1.1.1.0.1);
      form = refl;
      no_else = λ i. h;
      height = let p = low.1.1.0 in let q = low.1.1.1.1.0 in omega (arith, p, q);
    })

if_sound : (n : ℕ) (b : Below)
    → SoundBelow n b
    → (context : StatementContext) (ts : List Token) (x : Statement × List Token)
    → if_at b context ts ≡ Ok x
    → TakesStatement context (suc n) ts x.0 x.1
unfolding if_at
if_sound n b s context ts x e =
    let p = bind_ok (seq b (if_items context) ts)
    (λ x. else_by b context x.0.1.1.0 x.0.1.1.1.1.0 (is_kind kinds.Else (head_of x.1)) x.1) x e in
    else_sound n b s context ts p.0.0 p.0.1 (seq_sound n b s (if_items context) ts p.0 p.1)
    (is_kind kinds.Else (head_of p.0.1)) refl x p.2

-- ---- loops

do_sound : (n : ℕ) (b : Below)
    → SoundBelow n b
    → (context : StatementContext) (ts : List Token) (x : Statement × List Token)
    → made b (do_items context) (λ v. trees.do_while v.1.0 v.1.1.1.1.0) ts ≡ Ok x
    → TakesStatement context (suc n) ts x.0 x.1
do_sound n b s context ts =
    made_as n b s (do_items context) (λ v. trees.do_while v.1.0 v.1.1.1.1.0) ts (TakesStatement context (suc n) ts)
    (λ v r t low. record {
      marks = t.marks;
      well = (t.sane.1.0.0, t.sane.1.0.1, t.sane.1.1.1.1.0);
      form = refl;
      no_else = λ i. absurd cc;
      height = let p = low.1.0 in let q = low.1.1.1.1.0 in omega (arith, p, q);
    })

while_sound : (n : ℕ) (b : Below)
    → SoundBelow n b
    → (context : StatementContext) (ts : List Token) (x : Statement × List Token)
    → made b (while_items context) (λ v. trees.while v.1.1.0 v.1.1.1.1.0) ts ≡ Ok x
    → TakesStatement context (suc n) ts x.0 x.1
while_sound n b s context ts =
    made_as n b s (while_items context) (λ v. trees.while v.1.1.0 v.1.1.1.1.0) ts (TakesStatement context (suc n) ts)
    (λ v r t low. record {
      marks = t.marks;
      well = (t.sane.1.1.0, t.sane.1.1.1.1.0.0, t.sane.1.1.1.1.0.1);
      form = refl;
      no_else = t.last;
      height = let p = low.1.1.0 in let q = low.1.1.1.1.0 in omega (arith, p, q);
    })

-- the marks of an optional expression and its closer, one after the other
pub next_optional : (es ms : List FlatToken) (k : TokenKind)
    → (es ++ (token (fixed k) ∷ [])) ++ ms ≡ es ++ (token (fixed k) ∷ ms)
next_optional es ms k = append_assoc es (token (fixed k) ∷ []) ms

pub let_is : (constant : Bool) → token (fixed (let_kind constant)) ∷ [] ≡ let_or_const constant
let_is true = refl
let_is false = refl

-- the tests and the update of a for with its body
pub tails_are : (is ts ms : List FlatToken)
    → (is ++ (token (fixed kinds.Semicolon) ∷ [])) ++ ((ts ++ (token (fixed kinds.RightParenthesis) ∷ [])) ++ ms)
    ≡ is ++ (token (fixed kinds.Semicolon) ∷ (ts ++ (token (fixed kinds.RightParenthesis) ∷ ms)))
tails_are is ts ms =
    next_optional is ((ts ++ (token (fixed kinds.RightParenthesis) ∷ [])) ++ ms) kinds.Semicolon
    ∙ ap (λ (l : List FlatToken). is ++ (token (fixed kinds.Semicolon) ∷ l)) (next_optional ts ms kinds.RightParenthesis)

max4 : (a b c d n : ℕ) → a ≤ n → b ≤ n → c ≤ n → d ≤ n → suc (max a (max b (max c d))) ≤ suc n
max4 a b c d n p q r s = omega (arith, p, q, r, s)

for_plain_sound : (n : ℕ) (b : Below)
    → SoundBelow n b
    → (context : StatementContext) (ts : List Token) (x : Statement × List Token)
    → for_by b context plain_head ts ≡ Ok x
    → TakesStatement context (suc n) ts x.0 x.1
for_plain_sound n b s context ts =
    made_as n b s (for_items context) (λ v. trees.for v.1.1.0 v.1.1.1.0 v.1.1.1.1.0 v.1.1.1.1.1.0) ts
    (TakesStatement context (suc n) ts) (λ v r t low.
    let body = flat_statement v.1.1.1.1.1.0 ++ [] in
    let after_first = (flat_optional v.1.1.1.0 ++ (token (fixed kinds.Semicolon) ∷ [])) ++
    ((flat_optional v.1.1.1.1.0 ++ (token (fixed kinds.RightParenthesis) ∷ [])) ++ body) in
    let same = next_optional (flat_optional v.1.1.0) after_first kinds.Semicolon
    ∙ ap (λ (l : List FlatToken). flat_optional v.1.1.0 ++ (token (fixed kinds.Semicolon) ∷ l))
    (tails_are (flat_optional v.1.1.1.0) (flat_optional v.1.1.1.1.0) body) in
    record {
      marks =
          subst (λ (ms : List FlatToken). Matches (token (fixed kinds.For) ∷ token (fixed kinds.LeftParenthesis) ∷ ms) ts r)
          same t.marks;
      well = (t.sane.1.1.0, t.sane.1.1.1.0, t.sane.1.1.1.1.0, t.sane.1.1.1.1.1.0.0, t.sane.1.1.1.1.1.0.1);
      form = refl;
      no_else = t.last;
      height = max4 _ _ _ _ n low.1.1.0 low.1.1.1.0 low.1.1.1.1.0 low.1.1.1.1.1.0;
    })

for_lexical_sound : (n : ℕ) (b : Below)
    → SoundBelow n b
    → (context : StatementContext) (constant : Bool) (ts : List Token) (x : Statement × List Token)
    → for_by b context (declares constant) ts ≡ Ok x
    → TakesStatement context (suc n) ts x.0 x.1
for_lexical_sound n b s context constant ts =
    made_as n b s (for_lexical_items context constant)
    (λ v. trees.for_lexical constant v.1.1.1.0 v.1.1.1.1.1.0 v.1.1.1.1.1.1.0 v.1.1.1.1.1.1.1.0) ts
    (TakesStatement context (suc n) ts) (λ v r t low.
    let body = flat_statement v.1.1.1.1.1.1.1.0 ++ [] in
    let tails = (flat_optional v.1.1.1.1.1.0 ++ (token (fixed kinds.Semicolon) ∷ [])) ++
    ((flat_optional v.1.1.1.1.1.1.0 ++ (token (fixed kinds.RightParenthesis) ∷ [])) ++ body) in
    let same = ap (λ (l : List FlatToken). l ++ (flat_declarators v.1.1.1.0 ++ (token (fixed kinds.Semicolon) ∷ tails)))
    (let_is constant)
    ∙ ap (λ (l : List FlatToken). let_or_const constant ++
    (flat_declarators v.1.1.1.0 ++ (token (fixed kinds.Semicolon) ∷ l)))
    (tails_are (flat_optional v.1.1.1.1.1.0) (flat_optional v.1.1.1.1.1.1.0) body) in
    record {
      marks =
          subst (λ (ms : List FlatToken). Matches (token (fixed kinds.For) ∷ token (fixed kinds.LeftParenthesis) ∷ ms) ts r)
          same t.marks;
      well = (
        t.sane.1.1.1.0.0,
        t.sane.1.1.1.0.1,
        t.sane.1.1.1.0.2,
        t.sane.1.1.1.0.3,
        t.sane.1.1.1.1.1.0,
        t.sane.1.1.1.1.1.1.0,
        t.sane.1.1.1.1.1.1.1.0.0,
        t.sane.1.1.1.1.1.1.1.0.1,
      );
      form = refl;
      no_else = t.last;
      height = max4 _ _ _ _ n low.1.1.1.0 low.1.1.1.1.1.0 low.1.1.1.1.1.1.0 low.1.1.1.1.1.1.1.0;
    })

for_of_sound : (n : ℕ) (b : Below)
    → SoundBelow n b
    → (context : StatementContext) (constant : Bool) (ts : List Token) (x : Statement × List Token)
    → for_by b context (each constant) ts ≡ Ok x
    → TakesStatement context (suc n) ts x.0 x.1
for_of_sound n b s context constant ts =
    made_as n b s (for_of_items context constant) (λ v. trees.for_of constant v.1.1.1.0 v.1.1.1.1.1.0 v.1.1.1.1.1.1.1.0)
    ts (TakesStatement context (suc n) ts) (λ v r t low.
    let rest = token (identifier v.1.1.1.0) ∷ token (identifier (codes "of")) ∷
    (flat v.1.1.1.1.1.0 ++ (token (fixed kinds.RightParenthesis) ∷ (flat_statement v.1.1.1.1.1.1.1.0 ++ []))) in
    record {
      marks =
          subst (λ (ms : List FlatToken). Matches
          (token (fixed kinds.For) ∷ token (fixed kinds.LeftParenthesis) ∷ (ms ++ rest)) ts r)
          (let_is constant) t.marks;
      well = (t.sane.1.1.1.1.1.0.0, t.sane.1.1.1.1.1.0.1, t.sane.1.1.1.1.1.1.1.0.0, t.sane.1.1.1.1.1.1.1.0.1);
      form = refl;
      no_else = t.last;
      height = let p = low.1.1.1.1.1.0 in let q = low.1.1.1.1.1.1.1.0 in omega (arith, p, q);
    })

for_by_sound : (n : ℕ) (b : Below)
    → SoundBelow n b
    → (context : StatementContext) (h : ForHead) (ts : List Token) (x : Statement × List Token)
    → for_by b context h ts ≡ Ok x
    → TakesStatement context (suc n) ts x.0 x.1
for_by_sound n b s context (each constant) ts x e = for_of_sound n b s context constant ts x e
for_by_sound n b s context (declares constant) ts x e = for_lexical_sound n b s context constant ts x e
for_by_sound n b s context plain_head ts x e = for_plain_sound n b s context ts x e

for_sound : (n : ℕ) (b : Below)
    → SoundBelow n b
    → (context : StatementContext) (ts : List Token) (x : Statement × List Token)
    → for_at b context ts ≡ Ok x
    → TakesStatement context (suc n) ts x.0 x.1
unfolding for_at
for_sound n b s context ts x e = for_by_sound n b s context (for_head (tail_of (tail_of ts))) ts x e

-- ---- statements of a word

continue_sound : (n : ℕ) (b : Below)
    → SoundBelow n b
    → (context : StatementContext)
    → context.in_loop ≡ true
    → (ts : List Token) (x : Statement × List Token)
    → made b (tok kinds.Continue ∷ an_end after_word ∷ []) (λ v. trees.continue) ts ≡ Ok x
    → TakesStatement context (suc n) ts x.0 x.1
continue_sound n b s context loop ts =
    made_as n b s (tok kinds.Continue ∷ an_end after_word ∷ []) (λ v. trees.continue) ts
    (TakesStatement context (suc n) ts) (λ v r t low. record {
      marks = t.marks;
      well = loop;
      form = refl;
      no_else = λ i. absurd cc;
      height = omega arith;
    })

break_sound : (n : ℕ) (b : Below)
    → SoundBelow n b
    → (context : StatementContext)
    → context.in_loop ≡ true
    → (ts : List Token) (x : Statement × List Token)
    → made b (tok kinds.Break ∷ an_end after_word ∷ []) (λ v. trees.break) ts ≡ Ok x
    → TakesStatement context (suc n) ts x.0 x.1
break_sound n b s context loop ts =
    made_as n b s (tok kinds.Break ∷ an_end after_word ∷ []) (λ v. trees.break) ts (TakesStatement context (suc n) ts)
    (λ v r t low. record {
      marks = t.marks;
      well = loop;
      form = refl;
      no_else = λ i. absurd cc;
      height = omega arith;
    })

debugger_sound : (n : ℕ) (b : Below)
    → SoundBelow n b
    → (context : StatementContext) (ts : List Token) (x : Statement × List Token)
    → made b (tok kinds.Debugger ∷ an_end after_word ∷ []) (λ v. trees.debugger) ts ≡ Ok x
    → TakesStatement context (suc n) ts x.0 x.1
debugger_sound n b s context ts =
    made_as n b s (tok kinds.Debugger ∷ an_end after_word ∷ []) (λ v. trees.debugger) ts
    (TakesStatement context (suc n) ts) (λ v r t low. record {
      marks = t.marks;
      well = tt;
      form = refl;
      no_else = λ i. absurd cc;
      height = omega arith;
    })

return_sound : (n : ℕ) (b : Below)
    → SoundBelow n b
    → (context : StatementContext)
    → context.in_function ≡ true
    → (ts : List Token) (c : Bool)
    → ends_return (head_of (tail_of ts)) ≡ c
    → (x : Statement × List Token)
    → return_by b c ts ≡ Ok x
    → TakesStatement context (suc n) ts x.0 x.1
return_sound n b s context inside ts true h =
    made_as n b s (tok kinds.Return ∷ an_end after_word ∷ []) (λ v. trees.return trees.omitted) ts
    (TakesStatement context (suc n) ts) (λ v r t low. record {
      marks = t.marks;
      well = (inside, tt);
      form = refl;
      no_else = λ i. absurd cc;
      height = omega arith;
    })
return_sound n b s context inside ts false h =
    made_as n b s (tok kinds.Return ∷ ended ∷ []) (λ v. trees.return (trees.present v.1.0)) ts
    (TakesStatement context (suc n) ts) (λ v r t low. record {
      marks = (
        t.marks.0,
        on_line_is (flat v.1.0) (semicolon (after_expression (edge v.1.0)) ∷ []) (tail_of ts) r
            (given_on_line (head_of (tail_of ts)) h)
            (and_nothing (flat v.1.0 ++ (semicolon (after_expression (edge v.1.0)) ∷ [])) (tail_of ts) r t.marks.1),
      );
      well = (inside, t.sane.1.0);
      form = refl;
      no_else = λ i. absurd cc;
      height = let p = low.1.0 in omega (arith, p);
    })

throw_sound : (n : ℕ) (b : Below)
    → SoundBelow n b
    → (context : StatementContext) (ts : List Token) (c : Bool)
    → is_on_line (head_of (tail_of ts)) ≡ c
    → (x : Statement × List Token)
    → throw_by b c ts ≡ Ok x
    → TakesStatement context (suc n) ts x.0 x.1
throw_sound n b s context ts true h x e =
    made_as n b s (tok kinds.Throw ∷ ended ∷ []) (λ v. trees.throw v.1.0) ts (TakesStatement context (suc n) ts)
    (λ v r t low. record {
      marks = (
        t.marks.0,
        on_line_is (flat v.1.0) (semicolon (after_expression (edge v.1.0)) ∷ []) (tail_of ts) r h
            (and_nothing (flat v.1.0 ++ (semicolon (after_expression (edge v.1.0)) ∷ [])) (tail_of ts) r t.marks.1),
      );
      well = t.sane.1.0;
      form = refl;
      no_else = λ i. absurd cc;
      height = let p = low.1.0 in omega (arith, p);
    }) x e
throw_sound n b s context ts false h x e = absurd cc

-- ---- try

-- the catch of a try
pub record TakesHandler (context : StatementContext) (n : ℕ) (ts : List Token) (h : Handler) (r : List Token) : Type 0 where
  pub marks : Matches (flat_handler h) ts r
  pub well : WellHandler context h
  pub height : height_of_handler h ≤ n

-- the finally of a try behind this catch
pub record TakesFinalizer (context : StatementContext) (n : ℕ) (h : Handler) (ts : List Token) (f : Finalizer) (r : List Token)
    : Type 0 where
  pub marks : Matches (flat_finalizer f) ts r
  pub well : WellFinalizer context f
  pub handled : is_handled h f ≡ true
  pub height : height_of_finalizer f ≤ n

abbrev pub catch_items : List Piece
catch_items = tok kinds.LeftParenthesis ∷ a_name ∷ tok kinds.RightParenthesis ∷ []

catch_sound : (n : ℕ) (b : Below)
    → SoundBelow n b
    → (context : StatementContext) (ts : List Token)
    → is_kind kinds.Catch (head_of ts) ≡ true
    → (c : Bool) (x : Handler × List Token)
    → catch_by b context c (tail_of ts) ≡ Ok x
    → TakesHandler context n ts x.0 x.1
catch_sound n b s context ts h true x e =
    let p = bind_ok (seq b catch_items (tail_of ts))
    (λ n. b.block context (n.0.1.0 ∷ []) n.1 >>= λ x. Ok (trees.catch (Some n.0.1.0) x.0, x.1)) x e in
    let q = bind_ok (b.block context (p.0.0.1.0 ∷ []) p.0.1) (λ x. Ok (trees.catch (Some p.0.0.1.0) x.0, x.1)) x p.2 in
    let t = seq_sound n b s catch_items (tail_of ts) p.0 p.1 in
    let u = s.block context (p.0.0.1.0 ∷ []) p.0.1 q.0 q.1 in
    subst (λ (x : Handler × List Token). TakesHandler context n ts x.0 x.1)
    (ok_is (trees.catch (Some p.0.0.1.0) q.0.0, q.0.1) x q.2) (record {
      marks = (
        next_is kinds.Catch (head_of ts) h,
        joins (token (fixed kinds.LeftParenthesis) ∷ token (identifier p.0.0.1.0) ∷ token
            (fixed kinds.RightParenthesis) ∷ [])
            (flats.in_braces (flat_statements q.0.0) ++ []) (tail_of ts) p.0.1 q.0.1 t.marks
            (before_nothing (flats.in_braces (flat_statements q.0.0)) p.0.1 q.0.1 u.0.marks),
      );
      well = (u.0.fresh, u.0.well);
      height = u.1;
    })
catch_sound n b s context ts h false x e =
    let q = bind_ok (b.block context [] (tail_of ts)) (λ x. Ok (trees.catch None x.0, x.1)) x e in
    let u = s.block context [] (tail_of ts) q.0 q.1 in
    subst (λ (x : Handler × List Token). TakesHandler context n ts x.0 x.1)
    (ok_is (trees.catch None q.0.0, q.0.1) x q.2) (record {
      marks = (
        next_is kinds.Catch (head_of ts) h,
        before_nothing (flats.in_braces (flat_statements q.0.0)) (tail_of ts) q.0.1 u.0.marks,
      );
      well = (u.0.fresh, u.0.well);
      height = u.1;
    })

handler_by_sound : (n : ℕ) (b : Below)
    → SoundBelow n b
    → (context : StatementContext) (ts : List Token) (c : Bool)
    → is_kind kinds.Catch (head_of ts) ≡ c
    → (x : Handler × List Token)
    → handler_by b context c ts ≡ Ok x
    → TakesHandler context n ts x.0 x.1
handler_by_sound n b s context ts true h x e =
    catch_sound n b s context ts h (is_kind kinds.LeftParenthesis (head_of (tail_of ts))) x e
handler_by_sound n b s context ts false h x e =
    subst (λ (x : Handler × List Token). TakesHandler context n ts x.0 x.1) (ok_is (trees.no_catch, ts) x e)
    (record { marks = refl; well = tt; height = omega arith })

pub handler_sound : (n : ℕ) (b : Below)
    → SoundBelow n b
    → (context : StatementContext) (ts : List Token) (x : Handler × List Token)
    → handler_at b context ts ≡ Ok x
    → TakesHandler context n ts x.0 x.1
unfolding handler_at
handler_sound n b s context ts x e = handler_by_sound n b s context ts (is_kind kinds.Catch (head_of ts)) refl x e

pub finally_handled : (h : Handler) (ss : Statements) → is_handled h (trees.finally ss) ≡ true
finally_handled trees.no_catch ss = refl
finally_handled (trees.catch n body) ss = refl

finalizer_by_sound : (n : ℕ) (b : Below)
    → SoundBelow n b
    → (context : StatementContext) (h : Handler) (c : Bool) (ts : List Token) (x : Finalizer × List Token)
    → finalizer_by b context h c ts ≡ Ok x
    → TakesFinalizer context n h ts x.0 x.1
finalizer_by_sound n b s context h true ts x e =
    made_as n b s (tok kinds.Finally ∷ a_block context [] ∷ []) (λ v. trees.finally v.1.0) ts
    (TakesFinalizer context n h ts) (λ v r t low. record {
      marks = t.marks;
      well = t.sane.1.0;
      handled = finally_handled h v.1.0;
      height = low.1.0;
    }) x e
finalizer_by_sound n b s context trees.no_catch false ts x e = absurd cc
finalizer_by_sound n b s context (trees.catch m ss) false ts x e =
    subst (λ (x : Finalizer × List Token). TakesFinalizer context n (trees.catch m ss) ts x.0 x.1)
    (ok_is (trees.no_finally, ts) x e) (record { marks = refl; well = tt; handled = refl; height = omega arith })

pub finalizer_sound : (n : ℕ) (b : Below)
    → SoundBelow n b
    → (context : StatementContext) (h : Handler) (ts : List Token) (x : Finalizer × List Token)
    → finalizer_at b context h ts ≡ Ok x
    → TakesFinalizer context n h ts x.0 x.1
unfolding finalizer_at
finalizer_sound n b s context h ts x e = finalizer_by_sound n b s context h (is_kind kinds.Finally (head_of ts)) ts x e

abbrev pub try_items : StatementContext → List Piece
try_items context = tok kinds.Try ∷ a_block context [] ∷ []

try_takes : (n : ℕ) (context : StatementContext) (ts : List Token) (vs : PieceValues (try_items context)) (us : List Token)
    → TakesAll n (try_items context) ts vs us
    → (h : Handler) (ws : List Token)
    → TakesHandler context n us h ws
    → (f : Finalizer) (r : List Token)
    → TakesFinalizer context n h ws f r
    → TakesStatement context (suc n) ts (trees.try vs.1.0 h f) r
try_takes n context ts vs us t h ws u f r v = record {
  marks =
      joins (token (fixed kinds.Try) ∷ flats.in_braces (flat_statements vs.1.0))
      (flat_handler h ++ (flat_finalizer f ++ [])) ts us r
      (and_nothing (token (fixed kinds.Try) ∷ flats.in_braces (flat_statements vs.1.0)) ts us t.marks)
      (joins (flat_handler h) (flat_finalizer f ++ []) us ws r u.marks
      (before_nothing (flat_finalizer f) ws r v.marks));
  well = (t.sane.1.0.0, t.sane.1.0.1, u.well, v.well, v.handled);
  form = refl;
  no_else = λ i. absurd cc;
  height = let p = (all_low n (try_items context) vs t.height).1.0 in omega (arith, p, u.height, v.height);
}

try_sound : (n : ℕ) (b : Below)
    → SoundBelow n b
    → (context : StatementContext) (ts : List Token) (x : Statement × List Token)
    → try_at b context ts ≡ Ok x
    → TakesStatement context (suc n) ts x.0 x.1
unfolding try_at
try_sound n b s context ts x e =
    let p = bind_ok (seq b (try_items context) ts)
    (λ x. handler_at b context x.1 >>= λ h. finalizer_at b context h.0 h.1 >>= λ f. Ok
    (trees.try x.0.1.0 h.0 f.0, f.1))
    x e in
    let q = bind_ok (handler_at b context p.0.1)
    (λ h. finalizer_at b context h.0 h.1 >>= λ f. Ok (trees.try p.0.0.1.0 h.0 f.0, f.1)) x p.2 in
    let o = bind_ok (finalizer_at b context q.0.0 q.0.1) (λ f. Ok (trees.try p.0.0.1.0 q.0.0 f.0, f.1)) x q.2 in
    subst (λ (x : Statement × List Token). TakesStatement context (suc n) ts x.0 x.1)
    {x = (trees.try p.0.0.1.0 q.0.0 o.0.0, o.0.1)} (ok_is (trees.try p.0.0.1.0 q.0.0 o.0.0, o.0.1) x o.2)
    (try_takes n context ts p.0.0 p.0.1 (seq_sound n b s (try_items context) ts p.0 p.1) q.0.0 q.0.1
    (handler_sound n b s context p.0.1 q.0 q.1) o.0.0 o.0.1 (finalizer_sound n b s context q.0.0 q.0.1 o.0 o.1))

-- ---- any statement

block_sound : (n : ℕ) (b : Below)
    → SoundBelow n b
    → (context : StatementContext) (ts : List Token) (x : Statement × List Token)
    → made b (in_braces context [] ∷ []) (λ v. trees.block v.0) ts ≡ Ok x
    → TakesStatement context (suc n) ts x.0 x.1
block_sound n b s context ts =
    made_as n b s (in_braces context [] ∷ []) (λ v. trees.block v.0) ts (TakesStatement context (suc n) ts)
    (λ v r t low. record {
      marks = and_nothing (flats.in_braces (flat_statements v.0)) ts r t.marks;
      well = t.sane.0;
      form = refl;
      no_else = λ i. absurd cc;
      height = let p = low.0 in omega (arith, p);
    })

expression_sound : (n : ℕ) (b : Below)
    → SoundBelow n b
    → (context : StatementContext) (ts : List Token)
    → first (head_of ts) ≡ classes.an_expression
    → (x : Statement × List Token)
    → made b (ended ∷ []) (λ v. trees.expression v.0) ts ≡ Ok x
    → TakesStatement context (suc n) ts x.0 x.1
expression_sound n b s context ts h =
    made_as n b s (ended ∷ []) (λ v. trees.expression v.0) ts (TakesStatement context (suc n) ts) (λ v r t low.
    let m = and_nothing (flat v.0 ++ (semicolon (after_expression (edge v.0)) ∷ [])) ts r t.marks in
    let p = parts (flat v.0) (semicolon (after_expression (edge v.0)) ∷ []) ts r m in
    let k = expression_next (head_of ts) h in
    record {
      marks = m;
      well = (t.sane.0, no_brace (flat v.0) ts p.0 k.0 p.1, no_function (flat v.0) ts p.0 k.1 p.1);
      form = refl;
      no_else = λ i. absurd cc;
      height = let p = low.0 in omega (arith, p);
    })

statement_by_sound : (n : ℕ) (b : Below)
    → SoundBelow n b
    → (context : StatementContext) (ts : List Token) (f : StatementStart)
    → first (head_of ts) ≡ f
    → (x : Statement × List Token)
    → statement_by b context f ts ≡ Ok x
    → TakesStatement context (suc n) ts x.0 x.1
statement_by_sound n b s context ts classes.a_block h x e = block_sound n b s context ts x e
statement_by_sound n b s context ts (classes.a_lexical constant) h x e = absurd cc
statement_by_sound n b s context ts classes.a_semicolon h x e =
    subst (λ (x : Statement × List Token). TakesStatement context (suc n) ts x.0 x.1)
    (ok_is (trees.empty, tail_of ts) x e)
    (record {
      marks = (
        first_semicolon (head_of ts) h,
        refl,
      );
      well = tt;
      form = refl;
      no_else = λ i. absurd cc;
      height = omega arith;
    })
statement_by_sound n b s context ts classes.an_if h x e = if_sound n b s context ts x e
statement_by_sound n b s context ts classes.a_do h x e = do_sound n b s context ts x e
statement_by_sound n b s context ts classes.a_while h x e = while_sound n b s context ts x e
statement_by_sound n b s context ts classes.a_for h x e = for_sound n b s context ts x e
statement_by_sound n b s context ts classes.a_continue h x e =
    let t = test_ok context.in_loop (made b (tok kinds.Continue ∷ an_end after_word ∷ []) (λ v. trees.continue) ts)
    (stuck (length ts)) x e in
    continue_sound n b s context t.0 ts x t.1
statement_by_sound n b s context ts classes.a_break h x e =
    let t = test_ok context.in_loop (made b (tok kinds.Break ∷ an_end after_word ∷ []) (λ v. trees.break) ts)
    (stuck (length ts)) x e in
    break_sound n b s context t.0 ts x t.1
statement_by_sound n b s context ts classes.a_return h x e =
    let t = test_ok context.in_function (return_by b (ends_return (head_of (tail_of ts))) ts) (stuck (length ts)) x e in
    return_sound n b s context t.0 ts (ends_return (head_of (tail_of ts))) refl x t.1
statement_by_sound n b s context ts classes.a_throw h x e =
    throw_sound n b s context ts (is_on_line (head_of (tail_of ts))) refl x e
statement_by_sound n b s context ts classes.a_try h x e = try_sound n b s context ts x e
statement_by_sound n b s context ts classes.a_debugger h x e = debugger_sound n b s context ts x e
statement_by_sound n b s context ts classes.a_function h x e = absurd cc
statement_by_sound n b s context ts classes.an_expression h x e = expression_sound n b s context ts h x e

-- the field statement of what reads one more below
pub statement_sound : (n : ℕ) (b : Below)
    → SoundBelow n b
    → (context : StatementContext) (ts : List Token) (x : Statement × List Token)
    → statement b context ts ≡ Ok x
    → TakesStatement context (suc n) ts x.0 x.1
unfolding statement
statement_sound n b s context ts x e = statement_by_sound n b s context ts (first (head_of ts)) refl x e

-- ---- declarations

lexical_sound : (n : ℕ) (b : Below)
    → SoundBelow n b
    → (context : StatementContext) (constant : Bool) (taken : List Identifier) (ts : List Token)
    → first (head_of ts) ≡ classes.a_lexical constant
    → (x : Statement × List Token)
    → lexical_at b constant taken ts ≡ Ok x
    → TakesItem context taken (suc n) ts x.0 x.1
unfolding lexical_at
lexical_sound n b s context constant taken ts h x e =
    let p = bind_ok (declarators_at b constant taken (tail_of ts))
    (λ ds. semicolon_at (end_of_declarators ds.0) ds.1 >>= λ s. Ok (trees.lexical constant ds.0, s.1)) x e in
    let q = bind_ok (semicolon_at (end_of_declarators p.0.0) p.0.1) (λ s. Ok (trees.lexical constant p.0.0, s.1))
    x p.2 in
    let t = declarators_sound n b s constant taken (tail_of ts) p.0 p.1 in
    let rest = flat_declarators p.0.0 ++ (semicolon (end_of_declarators p.0.0) ∷ []) in
    let m = joins (flat_declarators p.0.0) (semicolon (end_of_declarators p.0.0) ∷ []) (tail_of ts) p.0.1 q.0.1 t.marks
    (semicolon_sound (end_of_declarators p.0.0) p.0.1 q.0 q.1) in
    subst (λ (x : Statement × List Token). TakesItem context taken (suc n) ts x.0 x.1)
    (ok_is (trees.lexical constant p.0.0, q.0.1) x q.2) (record {
      marks =
          subst (λ (ms : List FlatToken). Matches (ms ++ rest) ts q.0.1) (let_is constant)
          (first_lexical constant (head_of ts) h, m);
      well = (t.some, t.well, t.initialized);
      fresh = t.fresh;
      no_else = λ i. absurd cc;
      height = omega (arith, t.height);
    })

declaration_sound : (n : ℕ) (b : Below)
    → SoundBelow n b
    → (context : StatementContext) (taken : List Identifier) (ts : List Token)
    → first (head_of ts) ≡ classes.a_function
    → (x : Statement × List Token)
    → declaration_at b taken ts ≡ Ok x
    → TakesItem context taken (suc n) ts x.0 x.1
unfolding declaration_at
declaration_sound n b s context taken ts h x e =
    let p = bind_ok (fresh_name taken (tail_of ts))
    (λ n. code_at b n.1 >>= λ f. Ok (trees.declared_function n.0 f.0.parameters f.0.body, f.1)) x e in
    let q = bind_ok (code_at b p.0.1) (λ f. Ok (trees.declared_function p.0.0 f.0.parameters f.0.body, f.1)) x p.2 in
    let t = fresh_sound taken (tail_of ts) p.0 p.1 in
    let u = code_sound n b s p.0.1 q.0 q.1 in
    let body = flats.in_braces (flat_statements q.0.0.body) in
    let m = parts (flat_parameters q.0.0.parameters) body p.0.1 q.0.1 u.marks in
    subst (λ (x : Statement × List Token). TakesItem context taken (suc n) ts x.0 x.1)
    (ok_is (trees.declared_function p.0.0 q.0.0.parameters q.0.0.body, q.0.1) x q.2) (record {
      marks = (
        first_function (head_of ts) h,
        joins (token (identifier p.0.0) ∷ []) (flat_parameters q.0.0.parameters ++ (body ++ [])) (tail_of ts)
            p.0.1 q.0.1 t.0
            (joins (flat_parameters q.0.0.parameters) (body ++ []) p.0.1 m.0 q.0.1 m.1
            (before_nothing body m.0 q.0.1 m.2)),
      );
      well = (u.differ, u.well);
      fresh = (t.1, tt);
      no_else = λ i. absurd cc;
      height = omega (arith, u.height);
    })

-- a statement declares no name in its list
pub declares_none : (taken : List Identifier) (s : Statement) → is_statement s ≡ true → AreFresh taken (declared_by s)
declares_none taken (trees.lexical constant ds) h = absurd cc
declares_none taken (trees.declared_function n ps body) h = absurd cc
declares_none taken _ h = tt

as_item : (context : StatementContext) (taken : List Identifier) (n : ℕ) (ts : List Token) (s : Statement) (r : List Token)
    → TakesStatement context n ts s r
    → TakesItem context taken n ts s r
as_item context taken n ts s r t = record {
  marks = t.marks;
  well = t.well;
  fresh = declares_none taken s t.form;
  no_else = t.no_else;
  height = t.height;
}

item_by_sound : (n : ℕ) (b : Below)
    → SoundBelow n b
    → (context : StatementContext) (taken : List Identifier) (ts : List Token) (f : StatementStart)
    → first (head_of ts) ≡ f
    → (x : Statement × List Token)
    → item_by b context taken f ts ≡ Ok x
    → TakesItem context taken (suc n) ts x.0 x.1
item_by_sound n b s context taken ts (classes.a_lexical constant) h x e =
    lexical_sound n b s context constant taken ts h x e
item_by_sound n b s context taken ts classes.a_function h x e = declaration_sound n b s context taken ts h x e
item_by_sound n b s context taken ts _ h x e =
    as_item context taken (suc n) ts x.0 x.1 (statement_sound n b s context ts x e)

-- the field item of what reads one more below
pub list_item_sound : (n : ℕ) (b : Below)
    → SoundBelow n b
    → (context : StatementContext) (taken : List Identifier) (ts : List Token) (x : Statement × List Token)
    → item b context taken ts ≡ Ok x
    → TakesItem context taken (suc n) ts x.0 x.1
unfolding item
list_item_sound n b s context taken ts x e = item_by_sound n b s context taken ts (first (head_of ts)) refl x e

-- ---- blocks and functions, which count one beside their statements

-- the field block of what reads one more below
pub counted_block_sound : (n : ℕ) (b : Below)
    → SoundBelow n b
    → (context : StatementContext) (taken : List Identifier) (ts : List Token) (x : Statements × List Token)
    → braces b context taken ts ≡ Ok x
    → TakesBlock context taken (suc n) ts x.0 x.1 × (suc (height_of_statements x.0) ≤ suc n)
counted_block_sound n b s context taken ts x e =
    let t = braces_sound n b s context taken ts x e in (
      record { marks = t.marks; well = t.well; fresh = t.fresh; height = omega (arith, t.height) },
      omega (arith, t.height),
    )

-- the field function of what reads one more below
pub counted_function_sound : (n : ℕ) (b : Below)
    → SoundBelow n b
    → (ts : List Token) (x : ParametersAndBody × List Token)
    → code_at b ts ≡ Ok x
    → TakesCode (suc n) ts x.0 x.1 × (suc (height_of_statements x.0.body) ≤ suc n)
counted_function_sound n b s ts x e =
    let t = code_sound n b s ts x e in (
      record { marks = t.marks; differ = t.differ; well = t.well; height = omega (arith, t.height) },
      omega (arith, t.height),
    )
