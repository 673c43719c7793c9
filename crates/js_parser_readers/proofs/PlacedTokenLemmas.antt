-- Single tokens where they stand, and what may be left out.
use Rattle.std.proofs.Common.{◌≡◌, ℕ, ◌<◌, Bool, true, false, cond, List, [], ◌∷◌, length, Option, Some, None, Ok, Err, refl, sym, ap, inl, inr, arith}
use Rattle.std.specs.Prelude.{nat_eq}
use Rattle.std.specs.Cmp.Lexicographic.{pointwise, same_text}
use Rattle.js_lexer.specs.declared.token.TokenKind.{TokenKind}
use Rattle.js_lexer.specs.declared.token.TokenKind.TheVariants as kinds
use Rattle.js_tree.specs.declared.node.Span.{Span}
use Rattle.js_parser_language.specs.Tokens.{Token, Symbol, StatementEnd, fixed, identifier, identifier_name, absent, head_of, tail_of, is_on_line, IsNext}
use Rattle.js_parser_language.specs.Flat.{let_or_const, flat_boolean}
use Rattle.js_parser_language.specs.Places.{stands, stands_maybe, plain}
use Rattle.js_parser_language.specs.Kinds.{is_kind}
use Rattle.js_parser_readers.specs.Reading.{Fault, stuck, text_of, expect, expect_near, name_at, word_at, fresh_name, is_word_next, semicolon_at}
use Rattle.js_parser_readers.specs.Classes.{is_name}
use Rattle.js_parser_readers.specs.Productions.{expect_name}
use Rattle.js_parser_readers.specs.Parsing.{let_kind}
use Rattle.js_parser_language.proofs.KindLemmas.{next_is, next_again}
use Rattle.js_parser_readers.specs.Placed.{Placed}
use Rattle.js_parser_readers.proofs.PlacedLemmas.{same_spans}
use Rattle.std.proofs.lemmas.Bool.{and_parts}
use Rattle.js_parser_readers.proofs.ShorterLemmas.{read_is, rest_is}

pub next_shorter : (s : Symbol) (ts : List Token) → IsNext s (head_of ts) → length (tail_of ts) < length ts
next_shorter s [] h = absurd h
next_shorter s (t ∷ ts) h = omega arith

-- a token that is this symbol
pub symbol : (spans : List Span) (s : Symbol) (ts left : List Token)
    → IsNext s (head_of ts)
    → left ≡ tail_of ts
    → Placed true spans spans (stands s ∷ []) ts left
symbol spans s ts left h is = rw is (record {
  stands = record {
    grew = same_spans spans;
    fewer = λ some. next_shorter s ts h;
    exact = λ later g before. (h, refl);
    numbers = refl;
  };
  forward = λ i all. all;
})

-- a token of this kind, as a test said
pub tested : (spans : List Span) (k : TokenKind) (ts left : List Token)
    → is_kind k (head_of ts) ≡ true
    → left ≡ tail_of ts
    → Placed true spans spans (stands (fixed k) ∷ []) ts left
tested spans k ts left h is = symbol spans (fixed k) ts left (next_is k (head_of ts) h) is

-- what a choice gave
chosen : {A : Type 0} (b : Bool) (x y : A × List Token) (f : Fault)
    → cond b (read_is x) (Err f) ≡ read_is y
    → (b ≡ true) × (x ≡ y)
chosen true x y f e = (refl, cc)
chosen false x y f e = absurd cc

-- a token of this kind, which was expected
pub expected : (spans : List Span) (k : TokenKind) (ts left : List Token)
    → expect k ts ≡ Ok (tt, left)
    → Placed true spans spans (stands (fixed k) ∷ []) ts left
unfolding expect
expected spans k ts left e =
    let p = chosen (is_kind k (head_of ts)) (tt, tail_of ts) (tt, left) (stuck (length ts)) e in
    tested spans k ts left p.0 (sym (ap (λ x. x.1) p.1))

near : (b : Bool) (k : TokenKind) (ts left : List Token)
    → cond b (expect k ts) (Err (stuck (length ts))) ≡ Ok (tt, left)
    → expect k ts ≡ Ok (tt, left)
near true k ts left e = e
near false k ts left e = absurd cc

pub expected_near : (spans : List Span) (k : TokenKind) (ts left : List Token)
    → expect_near k ts ≡ Ok (tt, left)
    → Placed true spans spans (stands (fixed k) ∷ []) ts left
unfolding expect_near
expected_near spans k ts left e = expected spans k ts left (near (is_on_line (head_of ts)) k ts left e)

pub name_next : (o : Option Token) → is_kind kinds.Name o ≡ true → IsNext (identifier (text_of o)) o
name_next None e = absurd cc
name_next (Some t) e = (next_is kinds.Name (Some t) e, refl)

-- a name
pub named : (spans : List Span) (n : List ℕ) (ts left : List Token)
    → name_at ts ≡ Ok (n, left)
    → Placed true spans spans (stands (identifier n) ∷ []) ts left
unfolding name_at
named spans n ts left e =
    let p = chosen (is_kind kinds.Name (head_of ts)) (text_of (head_of ts), tail_of ts) (n, left) (stuck (length ts))
    e in
    let is : text_of (head_of ts) ≡ n = ap (λ x. x.0) p.1 in
    symbol spans (identifier n) ts left (rw is at (name_next (head_of ts) p.0)) (sym (ap (λ x. x.1) p.1))

kept : (b : Bool) (ts : List Token) (x : List ℕ × List Token)
    → cond b (Err (stuck (length ts))) (name_at ts) ≡ Ok x
    → name_at ts ≡ Ok x
kept true ts x e = absurd cc
kept false ts x e = e

-- a name that differs from others
pub named_freshly : (spans : List Span) (taken : List (List ℕ)) (n : List ℕ) (ts left : List Token)
    → fresh_name taken ts ≡ Ok (n, left)
    → Placed true spans spans (stands (identifier n) ∷ []) ts left
unfolding fresh_name
named_freshly spans taken n ts left e = named spans n ts left (kept _ ts (n, left) e)

pub word_next : (o : Option Token) → is_word_next o ≡ true → IsNext (identifier_name (text_of o)) o
word_next None e = absurd cc
word_next (Some t) e = (e, refl)

-- a name or a reserved word
pub worded : (spans : List Span) (n : List ℕ) (ts left : List Token)
    → word_at ts ≡ Ok (n, left)
    → Placed true spans spans (stands (identifier_name n) ∷ []) ts left
unfolding word_at
worded spans n ts left e =
    let p = chosen (is_word_next (head_of ts)) (text_of (head_of ts), tail_of ts) (n, left) (stuck (length ts)) e in
    let is : text_of (head_of ts) ≡ n = ap (λ x. x.0) p.1 in
    symbol spans (identifier_name n) ts left (rw is at (word_next (head_of ts) p.0)) (sym (ap (λ x. x.1) p.1))

-- this name
pub named_so : (spans : List Span) (n : List ℕ) (ts left : List Token)
    → expect_name n ts ≡ Ok (tt, left)
    → Placed true spans spans (stands (identifier n) ∷ []) ts left
unfolding expect_name
named_so spans n ts left e =
    let p = chosen (is_name n (head_of ts)) (tt, tail_of ts) (tt, left) (stuck (length ts)) e in
    let q = and_parts (is_kind kinds.Name (head_of ts)) (pointwise nat_eq (text_of (head_of ts)) n) p.0 in
    let is : text_of (head_of ts) ≡ n = same_text (text_of (head_of ts)) n (sym q.1) in
    symbol spans (identifier n) ts left (rw is at (name_next (head_of ts) q.0)) (sym (ap (λ x. x.1) p.1))

-- let or const
pub let_here : (spans : List Span) (constant : Bool) (ts left : List Token)
    → IsNext (fixed (let_kind constant)) (head_of ts)
    → left ≡ tail_of ts
    → Placed true spans spans (plain (let_or_const constant)) ts left
let_here spans true ts left h is = symbol spans (fixed kinds.Const) ts left h is
let_here spans false ts left h is = symbol spans (fixed kinds.Let) ts left h is

pub let_expected : (spans : List Span) (constant : Bool) (ts left : List Token)
    → expect (let_kind constant) ts ≡ Ok (tt, left)
    → Placed true spans spans (plain (let_or_const constant)) ts left
let_expected spans true ts left e = expected spans kinds.Const ts left e
let_expected spans false ts left e = expected spans kinds.Let ts left e

-- true or false
pub boolean_places : (value : Bool)
    → plain (flat_boolean value) ≡ stands (fixed (cond value kinds.True kinds.False)) ∷ []
boolean_places true = refl
boolean_places false = refl

-- ---- what may be left out

kind_apart : (k : TokenKind) (o : Option Token) → is_kind k o ≡ false → IsNext (fixed k) o → ⊥
kind_apart k o e h = let again = next_again k o h in cc

-- a token of this kind that isn't there
pub left_out : (spans : List Span) (k : TokenKind) (ts : List Token)
    → is_kind k (head_of ts) ≡ false
    → Placed false spans spans (stands_maybe k ∷ []) ts ts
left_out spans k ts e = record {
  stands = record {
    grew = same_spans spans;
    fewer = λ h. absurd cc;
    exact = λ later g before. inr (kind_apart k (head_of ts) e, refl);
    numbers = refl;
  };
  forward = λ i all. all;
}

-- one that is there
pub put_in : (spans : List Span) (k : TokenKind) (ts left : List Token)
    → is_kind k (head_of ts) ≡ true
    → left ≡ tail_of ts
    → Placed false spans spans (stands_maybe k ∷ []) ts left
put_in spans k ts left e is = rw is (record {
  stands = record {
    grew = same_spans spans;
    fewer = λ h. absurd cc;
    exact = λ later g before. inl (next_is k (head_of ts) e, refl);
    numbers = refl;
  };
  forward = λ i all. all;
})

semicolon_by : (spans : List Span) (a b : Bool) (ts left : List Token)
    → is_kind kinds.Semicolon (head_of ts) ≡ a
    → cond a (read_is {A = Unit {0}} (tt, tail_of ts))
    (cond b (read_is {A = Unit {0}} (tt, ts)) (Err (stuck (length ts)))) ≡ Ok (tt, left)
    → Placed false spans spans (stands_maybe kinds.Semicolon ∷ []) ts left
semicolon_by spans true b ts left h e =
    put_in spans kinds.Semicolon ts left h (sym (rest_is {A = Unit {0}} (tt, tail_of ts) (tt, left) e))
semicolon_by spans false true ts left h e =
    rw (← rest_is {A = Unit {0}} (tt, ts) (tt, left) e) (left_out spans kinds.Semicolon ts h)
semicolon_by spans false false ts left h e = absurd cc

-- the semicolon of a statement, present or absent
pub ended_so : (spans : List Span) (end : StatementEnd) (ts left : List Token)
    → semicolon_at end ts ≡ Ok (tt, left)
    → Placed false spans spans (stands_maybe kinds.Semicolon ∷ []) ts left
unfolding semicolon_at
ended_so spans end ts left e =
    semicolon_by spans (is_kind kinds.Semicolon (head_of ts)) (absent end (head_of ts)) ts left refl e
