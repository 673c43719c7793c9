-- Lists are read again: elements up to what ends them, further elements behind commas, and items.
use Rattle.std.proofs.Common.{◌≡◌, ℕ, zero, suc, ◌<◌, ◌≤◌, Bool, true, false, List, [], ◌∷◌, ◌++◌, length, Option, Ok, refl, sym, ap, subst, ◌⊎◌, inl, inr, append_assoc, arith}
use Rattle.js_lexer.specs.declared.token.TokenKind.{TokenKind}
use Rattle.js_lexer.specs.declared.token.TokenKind.TheVariants as kinds
use Rattle.js_parser_language.specs.Tokens.{Token, fixed, FlatToken, token, beside, semicolon, trailing_comma, head_of, tail_of, Matches}
use Rattle.js_parser_language.specs.Kinds.{is_kind, is_same_kind}
use Rattle.js_parser_readers.specs.Reading.{Reader, elements, others, items, ends_list}
use Rattle.js_parser_language.proofs.KindLemmas.{next_again, kind_not}
use Rattle.js_parser_laws.proofs.MarkLemmas.{parts}
use Rattle.js_parser_laws.proofs.Sound.List.{behind_commas, with_commas, behind_last, in_a_row, AllGood}
use Rattle.js_parser_readers.proofs.LoopStepLemmas.{tail_shorter}
use Rattle.js_parser_readers.proofs.PlacedTokenLemmas.{next_shorter}

-- ---- what elements are

-- a good element is read again before what ends it
abbrev pub ReadAgain : {S A : Type 0}
    → (S → Reader A)
    → (A → List FlatToken)
    → (S → A → Type 0)
    → (A → List Token → Type 0)
    → Type 0
ReadAgain {S} {A} one f Good Ends =
    (s : S) (x : A) → Good s x → (ts r : List Token) → Matches (f x) ts r → Ends x r → one s ts ≡ Ok (x, r)

-- a good element doesn't begin with what a test finds
abbrev pub BeginsWithout : {S A : Type 0} → (A → List FlatToken) → (S → A → Type 0) → (Option Token → Bool) → Type 0
BeginsWithout {S} {A} f Good test =
    (s : S) (x : A) → Good s x → (ts r : List Token) → Matches (f x) ts r → test (head_of ts) ≡ false

-- ---- how many tokens

-- marks take tokens from the front
pub matches_shorter : (ms : List FlatToken) (ts r : List Token) → Matches ms ts r → length r ≤ length ts
matches_shorter [] ts r m = rw m (omega arith)
matches_shorter (token s ∷ ms) ts r m = omega (arith, matches_shorter ms (tail_of ts) r m.1, tail_shorter ts)
matches_shorter (beside s ∷ ms) ts r m = omega (arith, matches_shorter ms (tail_of ts) r m.2, tail_shorter ts)
matches_shorter (semicolon e ∷ ms) ts r (inl m) = omega (arith, matches_shorter ms (tail_of ts) r m.1, tail_shorter ts)
matches_shorter (semicolon e ∷ ms) ts r (inr m) = matches_shorter ms ts r m.1
matches_shorter (trailing_comma ∷ ms) ts r (inl m) =
    omega (arith, matches_shorter ms (tail_of ts) r m.1, tail_shorter ts)
matches_shorter (trailing_comma ∷ ms) ts r (inr m) = matches_shorter ms ts r m

-- ---- elements up to the token that ends them

-- a comma or the token that ends the list
abbrev pub EndsElement : TokenKind → List Token → Type 0
EndsElement closer r = (is_kind closer (head_of r) ≡ true) ⊎ (is_kind kinds.Comma (head_of r) ≡ true)

pub elements_again : {S A : Type 0} (one : S → Reader A) (next : S → A → S) (f : A → List FlatToken) (Good : S → A → Type 0)
    (closer : TokenKind)
    → is_same_kind kinds.Comma closer ≡ false
    → BeginsWithout f Good (λ o. is_kind closer o)
    → ReadAgain one f Good (λ x r. EndsElement closer r)
    → (xs : List A) (k : ℕ) (s : S) (ts r : List Token) → AllGood next Good s xs → length ts < k
    → Matches (with_commas f xs ++ (behind_last xs ++ (token (fixed closer) ∷ []))) ts r
    → elements one next closer k s ts ≡ Ok (xs, r)
unfolding elements
elements_again one next f Good closer apart begins again xs zero s ts r g low m = absurd (omega (arith, low))
elements_again one next f Good closer apart begins again [] (suc k) s ts r g low m =
    rw (next_again closer (head_of ts) m.0) (ap (λ (l : List Token). Ok ([], l)) m.1)
elements_again one next f Good closer apart begins again (x ∷ []) (suc k) s ts r g low m =
    let p = parts (f x ++ []) (trailing_comma ∷ token (fixed closer) ∷ []) ts r m in
    let q = parts (f x) [] ts p.0 p.1 in
    let x_marks : Matches (f x) ts p.0 = subst (λ (l : List Token). Matches (f x) ts l) q.2 q.1 in
    let shorter = matches_shorter (f x) ts p.0 x_marks in
    elim p.2 [
      | inl c ↦
          let comma : is_kind kinds.Comma (head_of p.0) ≡ true = next_again kinds.Comma (head_of p.0) c.0 in
          let read : one s ts ≡ Ok (x, p.0) = again s x g.0 ts p.0 x_marks (inr comma) in
          let less = next_shorter (fixed kinds.Comma) p.0 c.0 in
          let rest : elements one next closer k (next s x) (tail_of p.0) ≡ Ok ([], r)
          = elements_again one next f Good closer apart begins again [] k (next s x) (tail_of p.0) r tt
          (omega (arith, low, shorter, less)) c.1 in
          rw (begins s x g.0 ts p.0 x_marks, read, kind_not kinds.Comma closer (head_of p.0) comma apart, comma, rest)
          refl
      | inr c ↦
          let close : is_kind closer (head_of p.0) ≡ true = next_again closer (head_of p.0) c.0 in
          let read : one s ts ≡ Ok (x, p.0) = again s x g.0 ts p.0 x_marks (inl close) in
          rw (begins s x g.0 ts p.0 x_marks, read, close) (ap (λ (l : List Token). Ok (x ∷ [], l)) c.1)
    ]
elements_again one next f Good closer apart begins again (x ∷ y ∷ ys) (suc k) s ts r g low m =
    let behind : List FlatToken = with_commas f (y ∷ ys) ++ (trailing_comma ∷ token (fixed closer) ∷ []) in
    let n : Matches (f x ++ (token (fixed kinds.Comma) ∷ behind)) ts r = subst (λ (l : List FlatToken). Matches l ts r)
    (append_assoc (f x) (behind_commas f (y ∷ ys)) (trailing_comma ∷ token (fixed closer) ∷ [])) m in
    let p = parts (f x) (token (fixed kinds.Comma) ∷ behind) ts r n in
    let shorter = matches_shorter (f x) ts p.0 p.1 in
    let comma : is_kind kinds.Comma (head_of p.0) ≡ true = next_again kinds.Comma (head_of p.0) p.2.0 in
    let read : one s ts ≡ Ok (x, p.0) = again s x g.0 ts p.0 p.1 (inr comma) in
    let less = next_shorter (fixed kinds.Comma) p.0 p.2.0 in
    let rest : elements one next closer k (next s x) (tail_of p.0) ≡ Ok (y ∷ ys, r)
    = elements_again one next f Good closer apart begins again (y ∷ ys) k (next s x) (tail_of p.0) r g.1
    (omega (arith, low, shorter, less)) p.2.1 in
    rw (begins s x g.0 ts p.0 p.1, read, kind_not kinds.Comma closer (head_of p.0) comma apart, comma, rest) refl

-- ---- further elements

-- the last element, if there is one, ends here
abbrev pub LastEnds : {A : Type 0} → (A → List Token → Type 0) → List A → List Token → Type 0
LastEnds Ends [] r = Unit {0}
LastEnds Ends (x ∷ []) r = Ends x r
LastEnds Ends (x ∷ y ∷ ys) r = LastEnds Ends (y ∷ ys) r

-- each element ends before a comma
abbrev pub EndsBeforeComma : {A : Type 0} → (A → List Token → Type 0) → Type 0
EndsBeforeComma {A} Ends = (x : A) (r : List Token) → is_kind kinds.Comma (head_of r) ≡ true → Ends x r

pub others_again : {S A : Type 0} (one : S → Reader A) (next : S → A → S) (f : A → List FlatToken) (Good : S → A → Type 0)
    (Ends : A → List Token → Type 0)
    → EndsBeforeComma Ends
    → ReadAgain one f Good Ends
    → (xs : List A) (k : ℕ) (s : S) (ts r : List Token) → AllGood next Good s xs → length ts < k
    → LastEnds Ends xs r → is_kind kinds.Comma (head_of r) ≡ false
    → Matches (behind_commas f xs) ts r
    → others one next k s ts ≡ Ok (xs, r)
unfolding others
others_again one next f Good Ends before again xs zero s ts r g low last no_comma m = absurd (omega (arith, low))
others_again one next f Good Ends before again [] (suc k) s ts r g low last no_comma m =
    let none : is_kind kinds.Comma (head_of ts) ≡ false = subst
    (λ (l : List Token). is_kind kinds.Comma (head_of l) ≡ false) (sym m) no_comma in
    rw none (ap (λ (l : List Token). Ok ([], l)) m)
others_again one next f Good Ends before again (x ∷ []) (suc k) s ts r g low last no_comma m =
    let q = parts (f x) [] (tail_of ts) r m.1 in
    let x_marks : Matches (f x) (tail_of ts) r = subst (λ (l : List Token). Matches (f x) (tail_of ts) l) q.2 q.1 in
    let less = next_shorter (fixed kinds.Comma) ts m.0 in
    let shorter = matches_shorter (f x) (tail_of ts) r x_marks in
    let read : one s (tail_of ts) ≡ Ok (x, r) = again s x g.0 (tail_of ts) r x_marks last in
    let rest : others one next k (next s x) r ≡ Ok ([], r) = others_again one next f Good Ends before again [] k
    (next s x) r r tt (omega (arith, low, less, shorter)) tt no_comma refl in
    rw (next_again kinds.Comma (head_of ts) m.0, read, rest) refl
others_again one next f Good Ends before again (x ∷ y ∷ ys) (suc k) s ts r g low last no_comma m =
    let p = parts (f x) (behind_commas f (y ∷ ys)) (tail_of ts) r m.1 in
    let less = next_shorter (fixed kinds.Comma) ts m.0 in
    let shorter = matches_shorter (f x) (tail_of ts) p.0 p.1 in
    let comma : is_kind kinds.Comma (head_of p.0) ≡ true = next_again kinds.Comma (head_of p.0) p.2.0 in
    let read : one s (tail_of ts) ≡ Ok (x, p.0) = again s x g.0 (tail_of ts) p.0 p.1 (before x p.0 comma) in
    let rest : others one next k (next s x) p.0 ≡ Ok (y ∷ ys, r) = others_again one next f Good Ends before again
    (y ∷ ys) k (next s x) p.0 r g.1 (omega (arith, low, less, shorter)) last no_comma p.2 in
    rw (next_again kinds.Comma (head_of ts) m.0, read, rest) refl

-- ---- items

-- a good item begins with what ends no list, and takes a token
abbrev pub Begins : {S A : Type 0} → (A → List FlatToken) → (S → A → Type 0) → Type 0
Begins {S} {A} f Good =
    (s : S) (x : A)
    → Good s x
    → (ts r : List Token)
    → Matches (f x) ts r
    → (ends_list (head_of ts) ≡ false)
    × (length r < length ts)

-- each item ends where the list does
abbrev pub EndsAtEnd : {A : Type 0} → (A → List Token → Type 0) → Type 0
EndsAtEnd {A} Ends = (x : A) (r : List Token) → ends_list (head_of r) ≡ true → Ends x r

-- each item ends before another
abbrev pub EndsBeforeItem : {S A : Type 0} → (A → List FlatToken) → (S → A → Type 0) → (A → List Token → Type 0) → Type 0
EndsBeforeItem {S} {A} f Good Ends =
    (x : A) (s : S) (y : A) → Good s y → (ts r : List Token) → Matches (f y) ts r → Ends x ts

pub items_again : {S A : Type 0} (one : S → Reader A) (next : S → A → S) (f : A → List FlatToken) (Good : S → A → Type 0)
    (Ends : A → List Token → Type 0)
    → Begins f Good
    → EndsAtEnd Ends
    → EndsBeforeItem f Good Ends
    → ReadAgain one f Good Ends
    → (xs : List A) (k : ℕ) (s : S) (ts r : List Token) → AllGood next Good s xs → length ts < k
    → ends_list (head_of r) ≡ true
    → Matches (in_a_row f xs) ts r
    → items one next k s ts ≡ Ok (xs, r)
unfolding items
items_again one next f Good Ends begins at_end before again xs zero s ts r g low e m = absurd (omega (arith, low))
items_again one next f Good Ends begins at_end before again [] (suc k) s ts r g low e m =
    let end : ends_list (head_of ts) ≡ true = subst (λ (l : List Token). ends_list (head_of l) ≡ true) (sym m) e in
    rw end (ap (λ (l : List Token). Ok ([], l)) m)
items_again one next f Good Ends begins at_end before again (x ∷ []) (suc k) s ts r g low e m =
    let q = parts (f x) [] ts r m in
    let x_marks : Matches (f x) ts r = subst (λ (l : List Token). Matches (f x) ts l) q.2 q.1 in
    let b = begins s x g.0 ts r x_marks in
    let read : one s ts ≡ Ok (x, r) = again s x g.0 ts r x_marks (at_end x r e) in
    let rest : items one next k (next s x) r ≡ Ok ([], r)
    = items_again one next f Good Ends begins at_end before again [] k (next s x) r r tt (omega (arith, low, b.1))
    e refl in
    rw (b.0, read, rest) refl
items_again one next f Good Ends begins at_end before again (x ∷ y ∷ ys) (suc k) s ts r g low e m =
    let p = parts (f x) (in_a_row f (y ∷ ys)) ts r m in
    let q = parts (f y) (in_a_row f ys) p.0 r p.2 in
    let b = begins s x g.0 ts p.0 p.1 in
    let read : one s ts ≡ Ok (x, p.0) = again s x g.0 ts p.0 p.1 (before x (next s x) y g.1.0 p.0 q.0 q.1) in
    let rest : items one next k (next s x) p.0 ≡ Ok (y ∷ ys, r)
    = items_again one next f Good Ends begins at_end before again (y ∷ ys) k (next s x) p.0 r g.1
    (omega (arith, low, b.1)) e p.2 in
    rw (b.0, read, rest) refl
