-- What begins the language begins it with tokens that can be written behind it, and it matters nowhere where tokens
-- stand.
use Rattle.std.proofs.Common.{◌≡◌, ℕ, ◌+◌, Bool, not, List, [], ◌∷◌, ◌++◌, length, Result, Ok, Err, refl, sym, ap, subst, ◌∙◌, inl, inr, append_assoc, arith}
use Rattle.std.proofs.lemmas.List.{append-nil}
use Rattle.js_lexer.specs.declared.token.TokenKind.{TokenKind}
use Rattle.js_lexer.specs.declared.token.TokenKind.TheVariants as kinds
use Rattle.js_tree.specs.Trees.{Identifier, Expression, Statements}
use Rattle.js_tree.specs.Height.{height, height_of_statements}
use Rattle.js_parser_language.specs.Tokens.{Token, Symbol, fixed, identifier, identifier_name, numeric_literal, string_literal, is_word, IsSymbol, FlatToken, token, beside, semicolon, trailing_comma, StatementEnd, absent, absent_before, head_of, tail_of, is_on_line, IsNext, Matches}
use Rattle.js_parser_language.specs.Flat.{flat, flat_statements}
use Rattle.js_parser_language.specs.Language.{IsScript, IsExpression, IsFunction, BeginsLanguage}
use Rattle.js_parser_readers.specs.Reading.{Fault, stuck, deep}
use Rattle.js_parser_readers.specs.Parsing.{parse_script, parse_expression, parse_function}
use Rattle.js_parser_laws.specs.Exact.{AreAlike, BeginsWritten, LeavesAfter, TooDeepFrom}
use Rattle.js_parser_laws.proofs.Soundness.{expression_read, function_read, script_read}
use Rattle.js_parser_laws.proofs.Alive.Whole.{LivesIn, expression_alive, script_alive, function_alive}
use Rattle.js_parser_laws.proofs.Leaving.{expression_leaves, script_leaves, function_leaves}
use Rattle.js_parser_laws.proofs.DeepWhole.{expression_too_deep, script_too_deep, function_too_deep}

-- ---- written tokens behind those that begin the language

-- How sources of a language are read: what is read is in it; where the reader stops, the tokens before begin it with
-- written ones behind them, and leave it with the next one; and trees are too deep as said.
record ReadSo {Tree : Type 0} (Is : List Token → Tree → Type 0) (height_of : Tree → ℕ)
    (parse : ℕ → List Token → Result Tree Fault) : Type 0 where
  sound : (n : ℕ) (ts : List Token) (t : Tree) → parse n ts ≡ Ok t → Is ts t
  lives : (n : ℕ) (ts : List Token) (e : Fault) → parse n ts ≡ Err e → LivesIn Is ts e
  leaves : (n : ℕ) (ts : List Token) (k : ℕ) (before left : List Token)
      → parse n ts ≡ Err (stuck k)
      → ts ≡ before ++ left
      → length left ≡ k
      → LeavesAfter Is before left
  deepens : (n : ℕ) (ts : List Token) (k : ℕ) → parse (n + 3) ts ≡ Err (deep k) → TooDeepFrom Is height_of ts n

-- where no token is left, those before are all
at_end : {Tree : Type 0} (Is : List Token → Tree → Type 0) (ts before left : List Token)
    → ts ≡ before ++ left
    → LeavesAfter Is before left
    → BeginsLanguage Is ts
    → BeginsWritten Is before
    → BeginsWritten Is ts
at_end Is ts before [] p l b w = subst (λ (us : List Token). BeginsWritten Is us) (sym (p ∙ append-nil before)) w
at_end Is ts before (y ∷ left) p l b w =
    let same : ts ++ b.0 ≡ (before ++ (y ∷ [])) ++ (left ++ b.0) = ap (λ (us : List Token). us ++ b.0) p
    ∙ append_assoc before (y ∷ left) b.0
    ∙ sym (append_assoc before (y ∷ []) (left ++ b.0)) in
    absurd (l (left ++ b.0, (b.1.0, subst (λ (us : List Token). Is us b.1.0) same b.1.1)))

written_by : {Tree : Type 0} (Is : List Token → Tree → Type 0) (height_of : Tree → ℕ)
    (parse : ℕ → List Token → Result Tree Fault)
    → ReadSo Is height_of parse
    → (ts : List Token) (b : BeginsLanguage Is ts)
    → (r : Result Tree Fault) → parse (height_of b.1.0 + 3) ts ≡ r → BeginsWritten Is ts
written_by Is height_of parse s ts b (Ok t) e =
    record {
      rest = [];
      tokens = tt;
      language = (
        t,
        subst (λ (us : List Token). Is us t) (sym (append-nil ts)) (s.sound (height_of b.1.0 + 3) ts t e),
      );
    }
written_by Is height_of parse s ts b (Err (stuck k)) e =
    let l = s.lives (height_of b.1.0 + 3) ts (stuck k) e in
    at_end Is ts l.before l.left l.parts (s.leaves (height_of b.1.0 + 3) ts k l.before l.left e l.parts l.counted)
    b l.written
written_by Is height_of parse s ts b (Err (deep k)) e =
    let d = s.deepens (height_of b.1.0) ts k e in
    let same : ts ++ b.0 ≡ d.before ++ (d.left ++ b.0) = ap (λ (us : List Token). us ++ b.0) d.parts
    ∙ append_assoc d.before d.left b.0 in
    absurd (omega (arith, d.deeper (d.left ++ b.0) b.1.0 (subst (λ (us : List Token). Is us b.1.0) same b.1.1)))

-- Tokens that begin an expression begin one with written tokens behind them.
pub expression_written : (ts : List Token) → BeginsLanguage IsExpression ts → BeginsWritten IsExpression ts
expression_written ts b =
    written_by IsExpression height parse_expression
    (record {
      sound = λ n ts t e.
          (expression_read n ts t e).0;
      lives = expression_alive;
      leaves = expression_leaves;
      deepens = expression_too_deep;
    })
    ts b (parse_expression (height b.1.0 + 3) ts) refl

-- The same of functions.
pub function_written : (ts : List Token) → BeginsLanguage IsFunction ts → BeginsWritten IsFunction ts
function_written ts b =
    written_by IsFunction height parse_function
    (record {
      sound = λ n ts t e.
          (function_read n ts t e).0;
      lives = function_alive;
      leaves = function_leaves;
      deepens = function_too_deep;
    })
    ts b (parse_function (height b.1.0 + 3) ts) refl

-- The same of scripts.
pub script_written : (earlier : List Identifier) (ts : List Token)
    → BeginsLanguage (IsScript earlier) ts
    → BeginsWritten (IsScript earlier) ts
script_written earlier ts b =
    written_by (IsScript earlier) height_of_statements (λ n ts. parse_script n earlier ts)
    (record {
      sound = λ n ts t e.
          (script_read n earlier ts t e).0;
      lives = λ n ts e p. script_alive n earlier ts e p;
      leaves = λ n ts k before left e p c. script_leaves n earlier ts k before left e p c;
      deepens = λ n ts k e. script_too_deep n earlier ts k e;
    })
    ts b (parse_script (height_of_statements b.1.0 + 3) earlier ts) refl

-- ---- tokens at other places

alike_tail : (ts us : List Token) → AreAlike ts us → AreAlike (tail_of ts) (tail_of us)
alike_tail [] [] a = tt
alike_tail [] (u ∷ us) a = absurd a
alike_tail (t ∷ ts) [] a = absurd a
alike_tail (t ∷ ts) (u ∷ us) a = a.4

alike_symbol : (s : Symbol) (t u : Token)
    → t.kind ≡ u.kind
    → t.string_value ≡ u.string_value
    → t.numeric_value ≡ u.numeric_value
    → IsSymbol s t
    → IsSymbol s u
alike_symbol (fixed k) t u p q r i = sym p ∙ i
alike_symbol (identifier n) t u p q r i = (sym p ∙ i.0, sym q ∙ i.1)
alike_symbol (identifier_name n) t u p q r i = (sym (ap (λ (k : TokenKind). is_word k) p) ∙ i.0, sym q ∙ i.1)
alike_symbol (numeric_literal v) t u p q r i = (sym p ∙ i.0, sym r ∙ i.1)
alike_symbol (string_literal v) t u p q r i = (sym p ∙ i.0, sym q ∙ i.1)

alike_next : (s : Symbol) (ts us : List Token) → AreAlike ts us → IsNext s (head_of ts) → IsNext s (head_of us)
alike_next s [] us a i = absurd i
alike_next s (t ∷ ts) [] a i = absurd a
alike_next s (t ∷ ts) (u ∷ us) a i = alike_symbol s t u a.0 a.1 a.2 i

alike_line : (ts us : List Token) → AreAlike ts us → is_on_line (head_of ts) ≡ is_on_line (head_of us)
alike_line [] [] a = refl
alike_line [] (u ∷ us) a = absurd a
alike_line (t ∷ ts) [] a = absurd a
alike_line (t ∷ ts) (u ∷ us) a = ap (λ (b : Bool). not b) a.3

alike_absent : (end : StatementEnd) (ts us : List Token) → AreAlike ts us → absent end (head_of ts) ≡ absent end (head_of us)
alike_absent end [] [] a = refl
alike_absent end [] (u ∷ us) a = absurd a
alike_absent end (t ∷ ts) [] a = absurd a
alike_absent end (t ∷ ts) (u ∷ us) a =
    ap (λ (k : TokenKind). absent_before end k t.newline_before) a.0 ∙ ap (λ (b : Bool). absent_before end u.kind b) a.3

alike_none : (ts us : List Token) → AreAlike ts us → ts ≡ [] → us ≡ []
alike_none [] [] a e = refl
alike_none [] (u ∷ us) a e = absurd a
alike_none (t ∷ ts) us a e = absurd cc

alike_matches : (ms : List FlatToken) (ts us : List Token) → AreAlike ts us → Matches ms ts [] → Matches ms us []
alike_matches [] ts us a m = alike_none ts us a m
alike_matches (token s ∷ ms) ts us a m =
    (alike_next s ts us a m.0, alike_matches ms (tail_of ts) (tail_of us) (alike_tail ts us a) m.1)
alike_matches (beside s ∷ ms) ts us a m = (
  alike_next s ts us a m.0,
  sym (alike_line ts us a)
      ∙ m.1,
  alike_matches ms (tail_of ts) (tail_of us) (alike_tail ts us a) m.2,
)
alike_matches (semicolon end ∷ ms) ts us a (inl m) =
    inl (
      alike_next (fixed kinds.Semicolon) ts us a m.0,
      alike_matches ms (tail_of ts) (tail_of us) (alike_tail ts us a) m.1,
    )
alike_matches (semicolon end ∷ ms) ts us a (inr m) =
    inr (sym (alike_absent end ts us a) ∙ m.0, alike_matches ms ts us a m.1)
alike_matches (trailing_comma ∷ ms) ts us a (inl m) =
    inl (
      alike_next (fixed kinds.Comma) ts us a m.0,
      alike_matches ms (tail_of ts) (tail_of us) (alike_tail ts us a) m.1,
    )
alike_matches (trailing_comma ∷ ms) ts us a (inr m) = inr (alike_matches ms ts us a m)

-- Where its tokens stand matters to no expression.
pub expression_alike : (ts us : List Token) (e : Expression) → AreAlike ts us → IsExpression ts e → IsExpression us e
expression_alike ts us e a i = record { well = i.well; spelled = alike_matches (flat e) ts us a i.spelled }

pub function_alike : (ts us : List Token) (e : Expression) → AreAlike ts us → IsFunction ts e → IsFunction us e
function_alike ts us e a i = record { form = i.form; well = i.well; spelled = alike_matches (flat e) ts us a i.spelled }

pub script_alike : (earlier : List Identifier) (ts us : List Token) (body : Statements)
    → AreAlike ts us
    → IsScript earlier ts body
    → IsScript earlier us body
script_alike earlier ts us body a i =
    record { well = i.well; spelled = alike_matches (flat_statements body) ts us a i.spelled }
