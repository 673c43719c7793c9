-- The readers of single tokens, both ways, and tools on what is read.
use Rattle.std.proofs.Common.{◌≡◌, ℕ, Bool, true, false, cond, List, [], ◌∷◌, length, Option, Some, None, Ok, Err, refl, sym, ap, subst, ◌∙◌, ◌⊎◌, inl, inr}
use Rattle.js_lexer.specs.declared.token.TokenKind.{TokenKind}
use Rattle.js_lexer.specs.declared.token.TokenKind.TheVariants as kinds
use Rattle.js_tree.specs.Trees.{Identifier}
use Rattle.js_parser_language.specs.Tokens.{Token, fixed, identifier, identifier_name, token, beside, semicolon, head_of, tail_of, IsNext, is_on_line, StatementEnd, absent, absent_before, Matches}
use Rattle.js_parser_language.specs.Well.{is_among}
use Rattle.js_parser_language.specs.Kinds.{is_kind}
use Rattle.js_parser_readers.specs.Reading.{Fault, stuck, Read, expect, expect_near, text_of, name_at, fresh_name, is_word_next, word_at, semicolon_at}
use Rattle.js_parser_language.proofs.KindLemmas.{next_is, next_again}
use Rattle.js_parser_readers.proofs.PlacedTokenLemmas.{name_next, word_next}
use Rattle.js_parser_readers.proofs.ShorterLemmas.{read_is}

-- ---- tools

abbrev pub faulty : {A : Type 0} → Fault → Read A
faulty e = Err e

pub ok_is : {A : Type 0} (x y : A × List Token) → read_is x ≡ read_is y → x ≡ y
ok_is x y e = cc

pub cond_ok : {A : Type 0} (b : Bool) (p q : Read A) (y : A × List Token)
    → cond b p q ≡ Ok y
    → ((b ≡ true) × (p ≡ Ok y)) ⊎ ((b ≡ false) × (q ≡ Ok y))
cond_ok true p q y e = inl (refl, e)
cond_ok false p q y e = inr (refl, e)

-- where the other branch is a fault
pub test_ok : {A : Type 0} (b : Bool) (p : Read A) (d : Fault) (y : A × List Token)
    → cond b p (faulty d) ≡ Ok y
    → (b ≡ true) × (p ≡ Ok y)
test_ok true p d y e = (refl, e)
test_ok false p d y e = absurd cc

-- ---- a token of a kind

pub expect_sound : (k : TokenKind) (ts : List Token) (y : Unit {0} × List Token)
    → expect k ts ≡ Ok y
    → Matches (token (fixed k) ∷ []) ts y.1
unfolding expect
expect_sound k ts y e =
    let t = test_ok (is_kind k (head_of ts)) (Ok (tt, tail_of ts)) (stuck (length ts)) y e in
    (next_is k (head_of ts) t.0, ap (λ (p : Unit {0} × List Token). p.1) (ok_is (tt, tail_of ts) y t.1))

pub expect_again : (k : TokenKind) (ts r : List Token) → Matches (token (fixed k) ∷ []) ts r → expect k ts ≡ Ok (tt, r)
unfolding expect
expect_again k ts r m = rw (next_again k (head_of ts) m.0) (ap (λ (l : List Token). Ok (tt, l)) m.1)

pub expect_near_sound : (k : TokenKind) (ts : List Token) (y : Unit {0} × List Token)
    → expect_near k ts ≡ Ok y
    → Matches (beside (fixed k) ∷ []) ts y.1
unfolding expect_near
expect_near_sound k ts y e =
    let t = test_ok (is_on_line (head_of ts)) (expect k ts) (stuck (length ts)) y e in
    let m = expect_sound k ts y t.1 in
    (m.0, t.0, m.1)

pub expect_near_again : (k : TokenKind) (ts r : List Token)
    → Matches (beside (fixed k) ∷ []) ts r
    → expect_near k ts ≡ Ok (tt, r)
unfolding expect_near
expect_near_again k ts r m = rw m.1 (expect_again k ts r (m.0, m.2))

-- ---- names and words

pub name_sound : (ts : List Token) (y : Identifier × List Token)
    → name_at ts ≡ Ok y
    → Matches (token (identifier y.0) ∷ []) ts y.1
unfolding name_at
name_sound ts y e =
    let t = test_ok (is_kind kinds.Name (head_of ts)) (Ok (text_of (head_of ts), tail_of ts)) (stuck (length ts)) y e in
    subst (λ (y : Identifier × List Token). Matches (token (identifier y.0) ∷ []) ts y.1)
    (ok_is (text_of (head_of ts), tail_of ts) y t.1) (name_next (head_of ts) t.0, refl)

pub text_is : (n : Identifier) (o : Option Token)
    → IsNext (identifier n) o
    → (is_kind kinds.Name o ≡ true) × (text_of o ≡ n)
text_is n None m = absurd m
text_is n (Some t) m = (next_again kinds.Name (Some t) m.0, m.1)

pub name_again : (n : Identifier) (ts r : List Token)
    → Matches (token (identifier n) ∷ []) ts r
    → name_at ts ≡ Ok (n, r)
unfolding name_at
name_again n ts r m = let t = text_is n (head_of ts) m.0 in rw (t.0, t.1) (ap (λ (l : List Token). Ok (n, l)) m.1)

-- a name that isn't taken
pub fresh_sound : (taken : List Identifier) (ts : List Token) (y : Identifier × List Token)
    → fresh_name taken ts ≡ Ok y
    → Matches (token (identifier y.0) ∷ []) ts y.1 × (is_among taken y.0 ≡ false)
unfolding fresh_name
fresh_sound taken ts y e =
    elim (cond_ok (is_among taken (text_of (head_of ts))) (Err (stuck (length ts))) (name_at ts) y e) [
      | inl q ↦ absurd cc
      | inr q ↦
          let m = name_sound ts y q.1 in
          (m, ap (λ (n : Identifier). is_among taken n) (sym (text_is y.0 (head_of ts) m.0).1) ∙ q.0)
    ]

pub fresh_again : (taken : List Identifier) (n : Identifier) (ts r : List Token)
    → Matches (token (identifier n) ∷ []) ts r
    → is_among taken n ≡ false
    → fresh_name taken ts ≡ Ok (n, r)
unfolding fresh_name
fresh_again taken n ts r m f =
    rw (ap (λ (n : Identifier). is_among taken n) (text_is n (head_of ts) m.0).1 ∙ f) (name_again n ts r m)

pub word_sound : (ts : List Token) (y : List ℕ × List Token)
    → word_at ts ≡ Ok y
    → Matches (token (identifier_name y.0) ∷ []) ts y.1
unfolding word_at
word_sound ts y e =
    let t = test_ok (is_word_next (head_of ts)) (Ok (text_of (head_of ts), tail_of ts)) (stuck (length ts)) y e in
    subst (λ (y : List ℕ × List Token). Matches (token (identifier_name y.0) ∷ []) ts y.1)
    (ok_is (text_of (head_of ts), tail_of ts) y t.1) (word_next (head_of ts) t.0, refl)

word_is : (n : List ℕ) (o : Option Token) → IsNext (identifier_name n) o → (is_word_next o ≡ true) × (text_of o ≡ n)
word_is n None m = absurd m
word_is n (Some t) m = (m.0, m.1)

pub word_again : (n : List ℕ) (ts r : List Token)
    → Matches (token (identifier_name n) ∷ []) ts r
    → word_at ts ≡ Ok (n, r)
unfolding word_at
word_again n ts r m = let t = word_is n (head_of ts) m.0 in rw (t.0, t.1) (ap (λ (l : List Token). Ok (n, l)) m.1)

-- ---- semicolons

pub semicolon_sound : (end : StatementEnd) (ts : List Token) (y : Unit {0} × List Token)
    → semicolon_at end ts ≡ Ok y
    → Matches (semicolon end ∷ []) ts y.1
unfolding semicolon_at
semicolon_sound end ts y e =
    elim (cond_ok (is_kind kinds.Semicolon (head_of ts)) (Ok (tt, tail_of ts))
    (cond (absent end (head_of ts)) (Ok (tt, ts)) (Err (stuck (length ts)))) y e) [
      | inl q ↦ inl (
        next_is kinds.Semicolon (head_of ts) q.0,
        ap (λ (p : Unit {0} × List Token). p.1)
            (ok_is (tt, tail_of ts) y q.1),
      )
      | inr q ↦
          let t = test_ok (absent end (head_of ts)) (Ok (tt, ts)) (stuck (length ts)) y q.1 in
          inr (t.0, ap (λ (p : Unit {0} × List Token). p.1) (ok_is (tt, ts) y t.1))
    ]

absent_is : (end : StatementEnd) (o : Option Token) → absent end o ≡ true → is_kind kinds.Semicolon o ≡ false
absent_is end None a = refl
absent_is end (Some t) a = by_kind end t.kind t.newline_before a
  where
    by_kind : (end : StatementEnd) (k : TokenKind) (line : Bool)
        → absent_before end k line ≡ true
        → is_kind kinds.Semicolon (Some (record t { kind = k })) ≡ false
    by_kind end kinds.Semicolon line a = absurd cc
    by_kind end _ line a = refl

pub semicolon_again : (end : StatementEnd) (ts r : List Token)
    → Matches (semicolon end ∷ []) ts r
    → semicolon_at end ts ≡ Ok (tt, r)
unfolding semicolon_at
semicolon_again end ts r (inl m) =
    rw (next_again kinds.Semicolon (head_of ts) m.0) (ap (λ (l : List Token). Ok (tt, l)) m.1)
semicolon_again end ts r (inr m) = rw (absent_is end (head_of ts) m.0, m.0) (ap (λ (l : List Token). Ok (tt, l)) m.1)
