-- The span of a node is the one that is found in its tree's places and its source's tokens.
use Rattle.std.proofs.Common.{◌≡◌, inl, inr, ℕ, zero, suc, ◌+◌, ◌≤◌, Bool, true, false, List, [], ◌∷◌, length, Option, Some, None, refl, sym, ap, subst, ◌∙◌, arith}
use Rattle.std.specs.Prelude.{nat_eq, if◌then◌else◌}
use Rattle.std.specs.List.{range_with_len}
use Rattle.std.proofs.lemmas.Bool.{eqb-true, eqb-false, false_from_ne_true}
use Rattle.std.proofs.lemmas.List.{get_or_past}
use denote.Enum.Bare.{sameb, same_true}
use Rattle.js_lexer.specs.declared.token.TokenKind.{TokenKind}
use Rattle.js_lexer.specs.contracts.token.TokenKind.{the_type}
use Rattle.js_tree.specs.declared.node.Span.{Span}
use Rattle.js_tree.specs.declared.tree.Expr.{Expr}
use Rattle.js_tree.specs.Spans.{span_of}
use Rattle.js_parser_language.specs.Tokens.{Token, fixed, head_of, tail_of, IsNext}
use Rattle.js_parser_language.specs.Places.{FlatPlace, stands, stands_maybe, opens, closes, numbers_of, start_of, end_of, AreSpans, expression_places}
use Rattle.js_parser_language.specs.Kinds.{is_kind}
use Rattle.js_parser_numbering.specs.NodeSpans.{left_behind, end_behind, node_start, node_end, node_span}
use Rattle.js_parser_numbering.proofs.PlacingLemmas.{is_number, openings_of, AreOpened}
use Rattle.js_parser_numbering.proofs.NumberedPlaceLaws.{expression-stands}
use Rattle.js_parser_language.proofs.KindLemmas.{next_again}

-- ---- a token that may be absent

next_false : (kind : TokenKind) (next : Option Token) → (IsNext (fixed kind) next → ⊥) → is_kind kind next ≡ false
next_false kind None h = refl
next_false kind (Some t) h =
    false_from_ne_true (sameb the_type t.kind kind) (λ e. h (same_true the_type tt t.kind kind e))

left_there : (kind : TokenKind) (ts : List Token) → IsNext (fixed kind) (head_of ts) → left_behind kind ts ≡ tail_of ts
left_there kind ts h = rw (next_again kind (head_of ts) h) refl

left_absent : (kind : TokenKind) (ts : List Token) → (IsNext (fixed kind) (head_of ts) → ⊥) → left_behind kind ts ≡ ts
left_absent kind ts h = rw (next_false kind (head_of ts) h) refl

end_there : (kind : TokenKind) (before : ℕ) (ts : List Token)
    → IsNext (fixed kind) (head_of ts)
    → end_behind kind before ts ≡ end_of (head_of ts)
end_there kind before ts h = rw (next_again kind (head_of ts) h) refl

end_absent : (kind : TokenKind) (before : ℕ) (ts : List Token)
    → (IsNext (fixed kind) (head_of ts) → ⊥)
    → end_behind kind before ts ≡ before
end_absent kind before ts h = rw (next_false kind (head_of ts) h) refl

-- ---- where a node begins

start_step : (spans : List Span) (n m at further : ℕ) (is rest : Bool)
    → (is ≡ true → n ≡ m)
    → (span_of spans m).start ≡ at
    → (rest ≡ true → (span_of spans n).start ≡ further)
    → (if is then true else rest) ≡ true
    → (span_of spans n).start ≡ (if is then at else further)
start_step spans n m at further true rest same begins later e = ap (λ k. (span_of spans k).start) (same refl) ∙ begins
start_step spans n m at further false rest same begins later e = later e

-- nothing is found where the number is none of them
zero_step : (at further : ℕ) (is rest : Bool)
    → (rest ≡ false → further ≡ 0)
    → (if is then true else rest) ≡ false
    → (if is then at else further) ≡ 0
zero_step at further true rest later e = absurd cc
zero_step at further false rest later e = later e

opened_start : (spans : List Span) (n : ℕ) (ps : List FlatPlace) (before : ℕ) (ts left : List Token)
    → AreSpans spans ps before ts left
    → is_number n (openings_of ps) ≡ true
    → (span_of spans n).start ≡ node_start n ps ts
opened_start spans n [] before ts left s e = absurd cc
opened_start spans n (opens m ∷ ps) before ts left s e =
    start_step spans n m (start_of (head_of ts)) (node_start n ps ts) (nat_eq n m) (is_number n (openings_of ps))
    (eqb-true n m) s.0 (λ h. opened_start spans n ps before ts left s.1 h) e
opened_start spans n (closes m ∷ ps) before ts left s e = opened_start spans n ps before ts left s.1 e
opened_start spans n (stands y ∷ ps) before ts left s e =
    opened_start spans n ps (end_of (head_of ts)) (tail_of ts) left s.1 e
opened_start spans n (stands_maybe kind ∷ ps) before ts left (inl s) e =
    opened_start spans n ps (end_of (head_of ts)) (tail_of ts) left s.1 e
    ∙ ap (λ us. node_start n ps us) (sym (left_there kind ts s.0))
opened_start spans n (stands_maybe kind ∷ ps) before ts left (inr s) e =
    opened_start spans n ps before ts left s.1 e ∙ ap (λ us. node_start n ps us) (sym (left_absent kind ts s.0))

no_start : (n : ℕ) (ps : List FlatPlace) (ts : List Token) → is_number n (openings_of ps) ≡ false → node_start n ps ts ≡ 0
no_start n [] ts e = refl
no_start n (opens m ∷ ps) ts e =
    zero_step (start_of (head_of ts)) (node_start n ps ts) (nat_eq n m) (is_number n (openings_of ps))
    (λ h. no_start n ps ts h) e
no_start n (closes m ∷ ps) ts e = no_start n ps ts e
no_start n (stands y ∷ ps) ts e = no_start n ps (tail_of ts) e
no_start n (stands_maybe kind ∷ ps) ts e = no_start n ps (left_behind kind ts) e

-- ---- where it ends

end_step : (spans : List Span) (n m at further : ℕ) (is rest : Bool)
    → (is ≡ true → n ≡ m)
    → (span_of spans m).end ≡ at
    → (rest ≡ true → (span_of spans n).end ≡ further)
    → (if is then true else rest) ≡ true
    → (span_of spans n).end ≡ (if is then at else further)
end_step spans n m at further true rest same ends later e = ap (λ k. (span_of spans k).end) (same refl) ∙ ends
end_step spans n m at further false rest same ends later e = later e

closed_end : (spans : List Span) (n : ℕ) (ps : List FlatPlace) (before : ℕ) (ts left : List Token)
    → AreSpans spans ps before ts left
    → is_number n (numbers_of ps) ≡ true
    → (span_of spans n).end ≡ node_end n ps before ts
closed_end spans n [] before ts left s e = absurd cc
closed_end spans n (opens m ∷ ps) before ts left s e = closed_end spans n ps before ts left s.1 e
closed_end spans n (closes m ∷ ps) before ts left s e =
    end_step spans n m before (node_end n ps before ts) (nat_eq n m) (is_number n (numbers_of ps)) (eqb-true n m) s.0
    (λ h. closed_end spans n ps before ts left s.1 h) e
closed_end spans n (stands y ∷ ps) before ts left s e =
    closed_end spans n ps (end_of (head_of ts)) (tail_of ts) left s.1 e
closed_end spans n (stands_maybe kind ∷ ps) before ts left (inl s) e =
    closed_end spans n ps (end_of (head_of ts)) (tail_of ts) left s.1 e
    ∙ ap (λ us. node_end n ps (end_of (head_of ts)) us) (sym (left_there kind ts s.0))
    ∙ ap (λ k. node_end n ps k (left_behind kind ts)) (sym (end_there kind before ts s.0))
closed_end spans n (stands_maybe kind ∷ ps) before ts left (inr s) e =
    closed_end spans n ps before ts left s.1 e
    ∙ ap (λ us. node_end n ps before us) (sym (left_absent kind ts s.0))
    ∙ ap (λ k. node_end n ps k (left_behind kind ts)) (sym (end_absent kind before ts s.0))

no_end : (n : ℕ) (ps : List FlatPlace) (before : ℕ) (ts : List Token)
    → is_number n (numbers_of ps) ≡ false
    → node_end n ps before ts ≡ 0
no_end n [] before ts e = refl
no_end n (opens m ∷ ps) before ts e = no_end n ps before ts e
no_end n (closes m ∷ ps) before ts e =
    zero_step before (node_end n ps before ts) (nat_eq n m) (is_number n (numbers_of ps)) (λ h. no_end n ps before ts h)
    e
no_end n (stands y ∷ ps) before ts e = no_end n ps (end_of (head_of ts)) (tail_of ts) e
no_end n (stands_maybe kind ∷ ps) before ts e = no_end n ps (end_behind kind before ts) (left_behind kind ts) e

-- ---- numbers that no node has

-- the number isn't the first, and none of the others
record IsApart (n m : ℕ) (rest : Bool) : Type 0 where
  apart : n ≡ m → ⊥
  others : rest ≡ false

out_step : (n m : ℕ) (is rest : Bool)
    → (is ≡ false → n ≡ m → ⊥)
    → (if is then true else rest) ≡ false
    → IsApart n m rest
out_step n m true rest apart e = absurd cc
out_step n m false rest apart e = record { apart = apart refl; others = e }

out_of_range : (n first count : ℕ) → first ≤ n → is_number n (range_with_len first count) ≡ false → first + count ≤ n
out_of_range n first zero le e = omega (arith, le)
out_of_range n first (suc k) le e =
    let s : IsApart n first (is_number n (range_with_len (first + 1) k)) = out_step n first (nat_eq n first)
    (is_number n (range_with_len (first + 1) k)) (eqb-false n first) e in
    let apart : n ≡ first → ⊥ = s.apart in
    let r : (first + 1) + k ≤ n = out_of_range n (first + 1) k (omega (arith, le, apart)) s.others in
    omega (arith, r)

past : (spans : List Span) (n : ℕ)
    → is_number n (range_with_len 0 (length spans)) ≡ false
    → span_of spans n ≡ record { start = 0; end = 0 }
past spans n e =
    let le : 0 + length spans ≤ n = out_of_range n 0 (length spans) (omega arith) e in
    get_or_past spans n _ (omega (arith, le))

-- ---- the span

as_span : (s : Span) (a b : ℕ) → s.start ≡ a → s.end ≡ b → s ≡ record { start = a; end = b }
as_span s a b p q =
    ap (λ (k : ℕ). let t : Span = record { start = k; end = s.end } in t) p
    ∙ ap (λ (k : ℕ). let t : Span = record { start = a; end = k } in t) q

start_of_none : (spans : List Span) (n : ℕ) (ps : List FlatPlace) (ts : List Token) (begins : Bool)
    → is_number n (openings_of ps) ≡ begins
    → AreSpans spans ps 0 ts []
    → (span_of spans n).start ≡ 0
    → (span_of spans n).start ≡ node_start n ps ts
start_of_none spans n ps ts true e s none = opened_start spans n ps 0 ts [] s e
start_of_none spans n ps ts false e s none = none ∙ sym (no_start n ps ts e)

span_by : (spans : List Span) (n : ℕ) (ps : List FlatPlace) (ts : List Token) (ends : Bool)
    → is_number n (numbers_of ps) ≡ ends
    → AreOpened ps
    → AreSpans spans ps 0 ts []
    → numbers_of ps ≡ range_with_len 0 (length spans)
    → span_of spans n ≡ node_span n ps ts
span_by spans n ps ts true e opened s is =
    as_span (span_of spans n) _ _ (opened_start spans n ps 0 ts [] s (opened n e)) (closed_end spans n ps 0 ts [] s e)
span_by spans n ps ts false e opened s is =
    let none : span_of spans n ≡ record { start = 0; end = 0 } = past spans n
    (subst (λ ns. is_number n ns ≡ false) is e) in
    as_span (span_of spans n) _ _
    (start_of_none spans n ps ts (is_number n (openings_of ps)) refl s (ap (λ (t : Span). t.start) none))
    (ap (λ (t : Span). t.end) none ∙ sym (no_end n ps 0 ts e))

-- the span of each node is found in its tree's places
pub span_found : (spans : List Span) (e : Expr) (ts : List Token)
    → AreSpans spans (expression_places e) 0 ts []
    → numbers_of (expression_places e) ≡ range_with_len 0 (length spans)
    → (n : ℕ)
    → span_of spans n ≡ node_span n (expression_places e) ts
span_found spans e ts s is n =
    span_by spans n (expression_places e) ts (is_number n (numbers_of (expression_places e))) refl
    (expression-stands e).opened s is
