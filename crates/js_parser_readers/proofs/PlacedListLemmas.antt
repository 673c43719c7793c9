-- Lists where they stand, read one element after the other.
use Rattle.std.proofs.Common.{◌≡◌, ℕ, suc, ◌<◌, Bool, true, false, List, [], ◌∷◌, ◌++◌, length, refl, sym, ap, ◌∙◌, append_assoc, inl, inr, arith}
use Rattle.js_lexer.specs.declared.token.TokenKind.{TokenKind}
use Rattle.js_lexer.specs.declared.token.TokenKind.TheVariants as kinds
use Rattle.js_tree.specs.declared.node.Span.{Span}
use Rattle.js_parser_language.specs.Tokens.{Token, fixed, head_of, tail_of}
use Rattle.js_parser_language.specs.Places.{FlatPlace, stands, stands_maybe, opens, closes, in_turn, behind_commas, with_commas, end_of, AreSpans}
use Rattle.js_parser_language.specs.Kinds.{is_kind, is_same_kind}
use Rattle.js_parser_readers.specs.Reading.{goes_on, ends, after, after_by}
use Rattle.js_parser_language.proofs.KindLemmas.{kind_not}
use Rattle.js_parser_readers.specs.Placed.{AreNumbered, Placed}
use Rattle.js_parser_readers.proofs.PlacedLemmas.{same_spans, then, loosely}
use Rattle.js_parser_readers.proofs.PlacedTokenLemmas.{tested, left_out}
use Rattle.js_parser_readers.proofs.LoopStepLemmas.{append_nil}

-- ---- pieces

abbrev comma : FlatPlace
comma = stands (fixed kinds.Comma)

-- each piece with a comma behind it
abbrev pub before_commas : List (List FlatPlace) → List FlatPlace
before_commas [] = []
before_commas (p ∷ ps) = p ++ (comma ∷ before_commas ps)

behind_last : (ps : List (List FlatPlace)) (p : List FlatPlace) → behind_commas (ps ++ p ∷ []) ≡ comma ∷ (before_commas ps ++ p)
behind_last [] p = ap (λ qs. comma ∷ qs) (append_nil p)
behind_last (q ∷ ps) p =
    ap (λ qs. comma ∷ qs)
    (ap (λ qs. q ++ qs) (append_nil (behind_commas (ps ++ p ∷ [])) ∙ behind_last ps p)
    ∙ sym (append_assoc q (comma ∷ before_commas ps) p))

-- the last piece has none behind it
with_last : (ps : List (List FlatPlace)) (p : List FlatPlace) → with_commas (ps ++ p ∷ []) ≡ before_commas ps ++ p
with_last [] p = append_nil p
with_last (q ∷ ps) p = ap (λ qs. q ++ qs) (behind_last ps p) ∙ sym (append_assoc q (comma ∷ before_commas ps) p)

before_more : (ps : List (List FlatPlace)) (p : List FlatPlace)
    → before_commas (ps ++ p ∷ []) ≡ (before_commas ps ++ p) ++ comma ∷ []
before_more [] p = refl
before_more (q ∷ ps) p =
    ap (λ qs. q ++ (comma ∷ qs)) (before_more ps p)
    ∙ (sym (append_assoc q ((comma ∷ before_commas ps) ++ p) (comma ∷ []))
    ∙ ap (λ qs. qs ++ comma ∷ []) (sym (append_assoc q (comma ∷ before_commas ps) p)))

-- a comma behind the last piece
before_is : (q : List FlatPlace) (ps : List (List FlatPlace)) → before_commas (q ∷ ps) ≡ with_commas (q ∷ ps) ++ comma ∷ []
before_is q [] = ap (λ qs. qs ++ comma ∷ []) (sym (append_nil q))
before_is q (p ∷ ps) =
    ap (λ qs. q ++ (comma ∷ qs))
    (before_is p ps ∙ ap (λ qs. (p ++ qs) ++ comma ∷ []) (sym (append_nil (behind_commas ps))))
    ∙ sym (append_assoc q (comma ∷ (p ++ (behind_commas ps ++ []))) (comma ∷ []))

behind_more : (ps : List (List FlatPlace)) (p : List FlatPlace) → behind_commas (ps ++ p ∷ []) ≡ behind_commas ps ++ (comma ∷ p)
behind_more [] p = ap (λ qs. comma ∷ qs) (append_nil p)
behind_more (q ∷ ps) p =
    ap (λ qs. comma ∷ (q ++ qs))
    (append_nil (behind_commas (ps ++ p ∷ []))
    ∙ (behind_more ps p ∙ ap (λ qs. qs ++ (comma ∷ p)) (sym (append_nil (behind_commas ps)))))
    ∙ ap (λ qs. comma ∷ qs) (sym (append_assoc q (behind_commas ps ++ []) (comma ∷ p)))

turn_more : (ps : List (List FlatPlace)) (p : List FlatPlace) → in_turn (ps ++ p ∷ []) ≡ in_turn ps ++ p
turn_more [] p = append_nil p
turn_more (q ∷ ps) p = ap (λ qs. q ++ qs) (turn_more ps p) ∙ sym (append_assoc q (in_turn ps) p)

-- ---- elements and arguments

-- a comma that is there may be there
maybe_there : (spans : List Span) (k : TokenKind) (ps : List FlatPlace) (before : ℕ) (ts left : List Token)
    → AreSpans spans (ps ++ stands (fixed k) ∷ []) before ts left
    → AreSpans spans (ps ++ stands_maybe k ∷ []) before ts left
maybe_there spans k [] before ts left p = inl p
maybe_there spans k (opens n ∷ ps) before ts left p = (p.0, maybe_there spans k ps before ts left p.1)
maybe_there spans k (closes n ∷ ps) before ts left p = (p.0, maybe_there spans k ps before ts left p.1)
maybe_there spans k (stands s ∷ ps) before ts left p =
    (p.0, maybe_there spans k ps (end_of (head_of ts)) (tail_of ts) left p.1)
maybe_there spans k (stands_maybe j ∷ ps) before ts left (inl p) =
    inl (p.0, maybe_there spans k ps (end_of (head_of ts)) (tail_of ts) left p.1)
maybe_there spans k (stands_maybe j ∷ ps) before ts left (inr p) = inr (p.0, maybe_there spans k ps before ts left p.1)

numbered_maybe : (k : TokenKind) (ps : List FlatPlace) (first next : ℕ)
    → AreNumbered first (ps ++ stands (fixed k) ∷ []) next
    → AreNumbered first (ps ++ stands_maybe k ∷ []) next
numbered_maybe k [] first next p = p
numbered_maybe k (opens n ∷ ps) first next p = numbered_maybe k ps first next p
numbered_maybe k (closes n ∷ ps) first next p = (p.0, numbered_maybe k ps (suc first) next p.1)
numbered_maybe k (stands s ∷ ps) first next p = numbered_maybe k ps first next p
numbered_maybe k (stands_maybe j ∷ ps) first next p = numbered_maybe k ps first next p

there : {some : Bool} {old new : List Span} {ts left : List Token} (k : TokenKind) (ps : List FlatPlace)
    → Placed some old new (ps ++ stands (fixed k) ∷ []) ts left
    → Placed some old new (ps ++ stands_maybe k ∷ []) ts left
there {some} {old} {new} {ts} {left} k ps p = record {
  stands = record {
    grew = p.stands.grew;
    fewer = p.stands.fewer;
    exact = λ spans g before. maybe_there spans k ps before ts left (p.stands.exact spans g before);
    numbers = numbered_maybe k ps (length old) (length new) p.stands.numbers;
  };
  forward = p.forward;
}

-- the pieces of a list with the token that ends it
abbrev pub ended_list : List FlatPlace → TokenKind → List FlatPlace
ended_list ps closer = ps ++ (stands_maybe kinds.Comma ∷ stands (fixed closer) ∷ [])

-- The list ends where another element could begin.
pub elements_over : {old new : List Span} {ts rest : List Token} (closer : TokenKind) (ps : List (List FlatPlace))
    (left : List Token)
    → Placed false old new (before_commas ps) ts rest
    → is_kind closer (head_of rest) ≡ true
    → left ≡ tail_of rest
    → is_same_kind closer kinds.Comma ≡ false
    → Placed true old new (ended_list (with_commas ps) closer) ts left
elements_over {old} {new} {ts} {rest} closer [] left p h is apart =
    then p (then (left_out new kinds.Comma rest (kind_not closer kinds.Comma (head_of rest) h apart))
    (tested new closer rest left h is))
elements_over {old} {new} {ts} {rest} closer (q ∷ ps) left p h is apart =
    let commas : Placed false old new (with_commas (q ∷ ps) ++ comma ∷ []) ts rest = rw before_is at p in
    rw (← append_assoc (with_commas (q ∷ ps)) (stands_maybe kinds.Comma ∷ []) (stands (fixed closer) ∷ []))
    (then (there kinds.Comma (with_commas (q ∷ ps)) commas) (tested new closer rest left h is))

-- an element behind which the list goes on
pub element_more : {old mid new : List Span} {ts rest mark : List Token} (closer : TokenKind) (ps : List (List FlatPlace))
    (p : List FlatPlace) (left : List Token)
    → Placed false old mid (before_commas ps) ts rest
    → Placed true mid new p rest mark
    → after closer (head_of mark) ≡ goes_on
    → left ≡ tail_of mark
    → Placed false old new (before_commas (ps ++ p ∷ [])) ts left
element_more {old} {mid} {new} {ts} {rest} {mark} closer ps p left a b h is =
    rw (before_more ps p)
    (loosely (then (then a b)
    (tested new kinds.Comma mark left
    (comma_next (is_kind closer (head_of mark)) (is_kind kinds.Comma (head_of mark)) h) is)))
  where
    comma_next : (c k : Bool) → after_by c k ≡ goes_on → k ≡ true
    comma_next true k e = absurd cc
    comma_next false true e = refl
    comma_next false false e = absurd cc

-- an element behind which the list ends
pub element_last : {old mid new : List Span} {ts rest mark : List Token} (closer : TokenKind) (ps : List (List FlatPlace))
    (p : List FlatPlace) (left : List Token)
    → Placed false old mid (before_commas ps) ts rest
    → Placed true mid new p rest mark
    → after closer (head_of mark) ≡ ends
    → left ≡ tail_of mark
    → is_same_kind closer kinds.Comma ≡ false
    → Placed true old new (ended_list (with_commas (ps ++ p ∷ [])) closer) ts left
element_last {old} {mid} {new} {ts} {rest} {mark} closer ps p left a b h is apart =
    let next = closer_next (is_kind closer (head_of mark)) (is_kind kinds.Comma (head_of mark)) h in
    rw (with_last ps p)
    (then (then a b)
    (then (left_out new kinds.Comma mark (kind_not closer kinds.Comma (head_of mark) next apart))
    (tested new closer mark left next is)))
  where
    closer_next : (c k : Bool) → after_by c k ≡ ends → c ≡ true
    closer_next true k e = refl
    closer_next false true e = absurd cc
    closer_next false false e = absurd cc

-- ---- others, each behind a comma

pub other_more : {old mid new : List Span} {ts rest left : List Token} (ps : List (List FlatPlace)) (p : List FlatPlace)
    (mark : List Token)
    → Placed false old mid (behind_commas ps) ts rest
    → is_kind kinds.Comma (head_of rest) ≡ true
    → mark ≡ tail_of rest
    → Placed true mid new p mark left
    → Placed false old new (behind_commas (ps ++ p ∷ [])) ts left
other_more {old} {mid} {new} {ts} {rest} {left} ps p mark a h is b =
    rw (behind_more ps p) (loosely (then a (then (tested mid kinds.Comma rest mark h is) b)))

-- another of a list that isn't empty
pub listed_more : {old mid new : List Span} {ts rest left : List Token} (ps : List (List FlatPlace)) (p : List FlatPlace)
    (mark : List Token)
    → Placed true old mid (with_commas ps) ts rest
    → is_kind kinds.Comma (head_of rest) ≡ true
    → mark ≡ tail_of rest
    → Placed true mid new p mark left
    → Placed true old new (with_commas (ps ++ p ∷ [])) ts left
listed_more {old} {mid} {new} {ts} {rest} {left} [] p mark a h is b =
    let same : ts ≡ rest = a.stands.exact mid (same_spans mid) 0 in
    let fewer : length rest < length ts = a.stands.fewer refl in
    absurd (omega (arith, ap (λ (l : List Token). length l) same, fewer))
listed_more {old} {mid} {new} {ts} {rest} {left} (q ∷ ps) p mark a h is b =
    rw (behind_more ps p, ← append_assoc q (behind_commas ps) (comma ∷ p))
    (then a (then (tested mid kinds.Comma rest mark h is) b))

-- ---- statements

pub turn_next : {old mid new : List Span} {ts rest left : List Token} (ps : List (List FlatPlace)) (p : List FlatPlace)
    → Placed false old mid (in_turn ps) ts rest
    → Placed true mid new p rest left
    → Placed false old new (in_turn (ps ++ p ∷ [])) ts left
turn_next ps p a b = rw (turn_more ps p) (loosely (then a b))
