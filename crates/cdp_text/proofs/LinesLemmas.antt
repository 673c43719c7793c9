-- Lemmas on the lines of a text.
use Rattle.std.proofs.Common.{◌≡◌, ◌≢◌, ℕ, ◌+◌, ◌-◌, ◌<◌, List, [], ◌∷◌, ◌++◌, length, take, drop, get_or, Bool, true, false, cond, eqb, ltb, refl, inl, inr, arith, sym, ap, ◌∙◌, All, ◌==◌, Some, None}
use Rattle.std.specs.List.{position_or_len, position}
use Rattle.std.proofs.lemmas.Bool.{ne_eqb, eqb-true, eqb-false, cases_eq, ltb-false}
use Rattle.std.proofs.lemmas.List.{get_or-take, length-append, length-take, take_rest, drop_more, take-append-drop}
use Rattle.std.proofs.lemmas.List.Elements.{All-nil, All-cons, All-head, All-tail, All-from_get_or}
use Rattle.std.proofs.lemmas.List.Sums.{fails_before_first}
use Rattle.std.proofs.lemmas.List.Quantifiers.{position-Some}
use Rattle.cdp_text.specs.Lines.{lines_of, begun_with, ended, IsOneLine, AreLines}

-- a line ended by LF comes first
pub lines_of-line : (line rest : List ℕ) → IsOneLine line → lines_of (line ++ 10 ∷ rest) ≡ line ∷ lines_of rest
lines_of-line [] rest h = refl
lines_of-line (byte ∷ line) rest h =
    let other : eqb byte 10 ≡ false = ne_eqb byte 10 (All-head (λ b. b ≢ 10) byte line h) in
    let tail : IsOneLine line = All-tail (λ b. b ≢ 10) byte line h in
    rw (other, lines_of-line line rest tail)

-- a line that lacks its LF is the only one
pub lines_of-last : (byte : ℕ) (line : List ℕ) → IsOneLine (byte ∷ line) → lines_of (byte ∷ line) ≡ (byte ∷ line) ∷ []
lines_of-last byte [] h =
    let other : eqb byte 10 ≡ false = ne_eqb byte 10 (All-head (λ b. b ≢ 10) byte [] h) in rw other
lines_of-last byte (second ∷ line) h =
    let other : eqb byte 10 ≡ false = ne_eqb byte 10 (All-head (λ b. b ≢ 10) byte (second ∷ line) h) in
    rw (other, lines_of-last second line (All-tail (λ b. b ≢ 10) byte (second ∷ line) h))

-- the LF that a text lacks adds no line
pub lines_of-lacking : (front : List ℕ) (byte : ℕ)
    → byte ≢ 10
    → lines_of ((front ++ byte ∷ []) ++ 10 ∷ []) ≡ lines_of (front ++ byte ∷ [])
lines_of-lacking [] byte h =
    let other : eqb byte 10 ≡ false = ne_eqb byte 10 h in rw other
lines_of-lacking (first ∷ front) byte h = rw (lines_of-lacking front byte h)

-- lines ended by LF are the lines of what they make
pub lines_of-ended : (lines : List (List ℕ)) → All IsOneLine lines → lines_of (ended lines) ≡ lines
lines_of-ended [] h = refl
lines_of-ended (line ∷ lines) h =
    let first : IsOneLine line = All-head IsOneLine line lines h in
    let others : All IsOneLine lines = All-tail IsOneLine line lines h in
    rw (lines_of-line line (ended lines) first, lines_of-ended lines others)

-- no others are the lines of a text
pub lines_of-only : (text : List ℕ) (others : List (List ℕ)) → AreLines text others → others ≡ lines_of text
lines_of-only text others h =
    elim h.together [
      | inl e ↦ sym (lines_of-ended others h.apart) ∙ ap lines_of (sym e)
      | inr w ↦
          let same = lines_of-ended others h.apart in
          let last : text ≡ w.0.0 ++ w.0.1 ∷ [] = w.0.2 in
          let more = lines_of-lacking w.0.0 w.0.1 w.0.3 in
          cc (last, more, same, w.1)
    ]

-- a byte before the lines of a text
begun_with-are : (byte : ℕ) (text : List ℕ) (lines : List (List ℕ))
    → byte ≢ 10
    → AreLines text lines
    → AreLines (byte ∷ text) (begun_with byte lines)
begun_with-are byte text [] other h = record {
  apart =
      All-cons IsOneLine (byte ∷ []) [] (All-cons (λ b. b ≢ 10) byte [] other (All-nil (λ b. b ≢ 10)))
      (All-nil IsOneLine);
  together = elim h.together [
    | inl e ↦ let whole : text ≡ [] = e in inr (([], byte, rw whole, other), rw whole)
    | inr w ↦ absurd (omega (arith, simp length-append at (ap length w.1)))
  ];
}
begun_with-are byte text (line ∷ lines) other h = record {
  apart = All-cons IsOneLine (byte ∷ line) lines
      (All-cons (λ b. b ≢ 10) byte line other (All-head IsOneLine line lines h.apart))
      (All-tail IsOneLine line lines h.apart);
  together = elim h.together [
    | inl e ↦ inl (ap (λ t. byte ∷ t) e)
    | inr w ↦ inr ((byte ∷ w.0.0, w.0.1, ap (λ t. byte ∷ t) w.0.2, w.0.3), ap (λ t. byte ∷ t) w.1)
  ];
}

-- LF before the lines of a text
line_feed-are : (text : List ℕ) (lines : List (List ℕ)) → AreLines text lines → AreLines (10 ∷ text) ([] ∷ lines)
line_feed-are text lines h = record {
  apart = All-cons IsOneLine [] lines (All-nil (λ b. b ≢ 10)) h.apart;
  together = elim h.together [
    | inl e ↦ inl (ap (λ t. 10 ∷ t) e)
    | inr w ↦ inr ((10 ∷ w.0.0, w.0.1, ap (λ t. 10 ∷ t) w.0.2, w.0.3), ap (λ t. 10 ∷ t) w.1)
  ];
}

-- the lines of a text are its lines
pub lines_of-are : (text : List ℕ) → AreLines text (lines_of text)
lines_of-are [] = record { apart = All-nil IsOneLine; together = inl refl }
lines_of-are (byte ∷ text) =
    elim (cases_eq byte 10) [
      | inl e ↦ rw e (line_feed-are text (lines_of text) (lines_of-are text))
      | inr other ↦
          let unequal : eqb byte 10 ≡ false = ne_eqb byte 10 other in
          rw unequal (begun_with-are byte text (lines_of text) other (lines_of-are text))
    ]

-- LF as a test
abbrev is_line_feed : ℕ → Bool
is_line_feed byte = byte == 10

-- the text is what stands before its first LF, that LF, and what stands behind it
pub cuts-parts : (text : List ℕ) (end : ℕ) → position is_line_feed text ≡ Some end
    → text ≡ take end text ++ 10 ∷ take (length text - (end + 1)) (drop (end + 1) text)
cuts-parts text end h =
    let there = position-Some is_line_feed text end 0 h in
    let found : get_or text end 0 ≡ 10 = eqb-true (get_or text end 0) 10 there.1 in
    let rest : drop end text ≡ 10 ∷ drop (end + 1) text = rw (← found) (drop_more text end 0 there.0) in
    rw (take_rest text (end + 1), ← rest) (sym (take-append-drop end text))

-- the first line ends at the first LF
pub cuts-found : (text : List ℕ) (end : ℕ) → position is_line_feed text ≡ Some end
    → lines_of text ≡ take end text ∷ lines_of (take (length text - (end + 1)) (drop (end + 1) text))
cuts-found text end h =
    let there = position-Some is_line_feed text end 0 h in
    let one : IsOneLine (take end text) = All-from_get_or (λ b. b ≢ 10) (take end text) 0
    (λ k below. let before : k < end = omega (arith, simp length-take at below) in
    rw (get_or-take end text k 0 before) (eqb-false (get_or text k 0) 10 (there.2 k before))) in
    ap lines_of (cuts-parts text end h) ∙ lines_of-line (take end text) _ one

-- with no place found, the list ends first
pub position-None : (b : Bool) (n : ℕ) → cond b (Some n) None ≡ None → b ≡ false
position-None true n h = cc
position-None false n h = refl

-- with no LF the text is one line
pub cuts-last : (text : List ℕ) → 0 < length text → position is_line_feed text ≡ None → lines_of text ≡ text ∷ []
cuts-last [] full h = absurd (omega arith)
cuts-last (byte ∷ text) full h =
    let n = position_or_len is_line_feed (byte ∷ text) in
    let far = ltb-false n (length (byte ∷ text)) (position-None (ltb n (length (byte ∷ text))) n h) in
    let one : IsOneLine (byte ∷ text) = All-from_get_or (λ b. b ≢ 10) (byte ∷ text) 0
    (λ k below. eqb-false (get_or (byte ∷ text) k 0) 10
    (fails_before_first is_line_feed (byte ∷ text) k 0 (omega arith)))
    in
    lines_of-last byte text one

pub ruleset cuts = (cuts-parts, cuts-found, cuts-last, lines_of-only)
