-- What the readers of lists read: the marks of the elements in order, and elements that are good in their states.
use Rattle.std.proofs.Common.{◌≡◌, ℕ, zero, suc, Bool, true, false, List, [], ◌∷◌, ◌++◌, Option, Ok, refl, sym, subst, inl, inr, append_assoc}
use Rattle.js_lexer.specs.declared.token.TokenKind.{TokenKind}
use Rattle.js_lexer.specs.declared.token.TokenKind.TheVariants as kinds
use Rattle.js_parser_language.specs.Tokens.{Token, fixed, FlatToken, token, trailing_comma, head_of, tail_of, IsNext, Matches}
use Rattle.js_parser_language.specs.Kinds.{is_kind}
use Rattle.js_parser_readers.specs.Reading.{Reader, ◌>>=◌, AfterElement, goes_on, ends, neither, after_by, after, go_after, elements_by, elements, others_by, others, ends_list, items_by, items}
use Rattle.js_parser_language.proofs.KindLemmas.{next_is}
use Rattle.js_parser_laws.proofs.MarkLemmas.{joins}
use Rattle.js_parser_laws.proofs.TokenLemmas.{ok_is}
use Rattle.js_parser_readers.proofs.ShorterLemmas.{bind_ok}

-- ---- the marks of lists

-- each element behind a comma
abbrev pub behind_commas : {A : Type 0} → (A → List FlatToken) → List A → List FlatToken
behind_commas flat_of [] = []
behind_commas flat_of (x ∷ xs) = token (fixed kinds.Comma) ∷ (flat_of x ++ behind_commas flat_of xs)

-- elements with commas between
abbrev pub with_commas : {A : Type 0} → (A → List FlatToken) → List A → List FlatToken
with_commas flat_of [] = []
with_commas flat_of (x ∷ xs) = flat_of x ++ behind_commas flat_of xs

-- a comma behind the last element, where there is one
abbrev pub behind_last : {A : Type 0} → List A → List FlatToken
behind_last [] = []
behind_last (x ∷ xs) = trailing_comma ∷ []

-- elements up to the token that ends them
abbrev pub up_to : {A : Type 0} → (A → List FlatToken) → TokenKind → List A → List FlatToken
up_to flat_of closer xs = with_commas flat_of xs ++ (behind_last xs ++ (token (fixed closer) ∷ []))

-- elements one after the other
abbrev pub in_a_row : {A : Type 0} → (A → List FlatToken) → List A → List FlatToken
in_a_row flat_of [] = []
in_a_row flat_of (x ∷ xs) = flat_of x ++ in_a_row flat_of xs

-- each element is good in the state that those before it made
abbrev pub AllGood : {S A : Type 0} → (S → A → S) → (S → A → Type 0) → S → List A → Type 0
AllGood next Good s [] = Unit {0}
AllGood next Good s (x ∷ xs) = Good s x × AllGood next Good (next s x) xs

-- what is read has these marks and is good in its state
abbrev pub Reads : {S A : Type 0} → (S → Reader A) → (A → List FlatToken) → (S → A → Type 0) → Type 0
Reads {S} {A} one flat_of Good =
    (s : S) (ts : List Token) (x : A × List Token) → one s ts ≡ Ok x → Matches (flat_of x.0) ts x.1 × Good s x.0

-- ---- elements up to a token

pub after_goes : (closer : TokenKind) (o : Option Token) → after closer o ≡ goes_on → IsNext (fixed kinds.Comma) o
after_goes closer o e = next_is kinds.Comma o (comma (is_kind closer o) (is_kind kinds.Comma o) e)
  where
    comma : (c m : Bool) → after_by c m ≡ goes_on → m ≡ true
    comma true m e = absurd cc
    comma false true e = refl
    comma false false e = absurd cc

pub after_ends : (closer : TokenKind) (o : Option Token) → after closer o ≡ ends → IsNext (fixed closer) o
after_ends closer o e = next_is closer o (closes (is_kind closer o) (is_kind kinds.Comma o) e)
  where
    closes : (c m : Bool) → after_by c m ≡ ends → c ≡ true
    closes true m e = refl
    closes false true e = absurd cc
    closes false false e = absurd cc

-- a comma with what is read behind it
behind_one : {A : Type 0} (flat_of : A → List FlatToken) (closer : TokenKind) (xs : List A) (ts r : List Token)
    → IsNext (fixed kinds.Comma) (head_of ts)
    → Matches (up_to flat_of closer xs) (tail_of ts) r
    → Matches (behind_commas flat_of xs ++ (trailing_comma ∷ token (fixed closer) ∷ [])) ts r
behind_one flat_of closer [] ts r c m = inl (c, m)
behind_one flat_of closer (x ∷ xs) ts r c m = (c, m)

go_after_sound : {A : Type 0} (flat_of : A → List FlatToken) (closer : TokenKind) (Fine : List A → Type 0)
    → Fine []
    → (go : Reader (List A))
    → ((ts : List Token) (y : List A × List Token)
    → go ts ≡ Ok y
    → Matches (up_to flat_of closer y.0) ts y.1
    × Fine y.0)
    → (a : AfterElement) (ts : List Token)
    → after closer (head_of ts) ≡ a
    → (y : List A × List Token)
    → go_after go a ts ≡ Ok y
    → Matches (behind_commas flat_of y.0 ++ (trailing_comma ∷ token (fixed closer) ∷ [])) ts y.1 × Fine y.0
go_after_sound flat_of closer Fine none go h goes_on ts f y e =
    let g = h (tail_of ts) y e in
    (behind_one flat_of closer y.0 ts y.1 (after_goes closer (head_of ts) f) g.0, g.1)
go_after_sound {A} flat_of closer Fine none go h ends ts f y e =
    subst (λ (y : List A × List Token). Matches
    (behind_commas flat_of y.0 ++ (trailing_comma ∷ token (fixed closer) ∷ [])) ts y.1
    × Fine y.0)
    (ok_is ([], tail_of ts) y e) (inr (after_ends closer (head_of ts) f, refl), none)
go_after_sound flat_of closer Fine none go h neither ts f y e = absurd cc

elements_by_sound : {S A : Type 0} (one : S → Reader A) (next : S → A → S) (flat_of : A → List FlatToken)
    (Good : S → A → Type 0)
    → Reads one flat_of Good
    → (closer : TokenKind) (go : S → Reader (List A))
    → ((s : S) (ts : List Token) (y : List A × List Token)
    → go s ts ≡ Ok y
    → Matches (up_to flat_of closer y.0) ts y.1
    × AllGood next Good s y.0)
    → (c : Bool) (s : S) (ts : List Token)
    → is_kind closer (head_of ts) ≡ c
    → (y : List A × List Token)
    → elements_by one next go closer s c ts ≡ Ok y
    → Matches (up_to flat_of closer y.0) ts y.1 × AllGood next Good s y.0
elements_by_sound {S} {A} one next flat_of Good reads closer go h true s ts f y e =
    subst (λ (y : List A × List Token). Matches (up_to flat_of closer y.0) ts y.1 × AllGood next Good s y.0)
    (ok_is ([], tail_of ts) y e) ((next_is closer (head_of ts) f, refl), tt)
elements_by_sound {S} {A} one next flat_of Good reads closer go h false s ts f y e =
    let p = bind_ok (one s ts)
    (λ x. go_after (go (next s x.0)) (after closer (head_of x.1)) x.1 >>= λ z. Ok (x.0 ∷ z.0, z.1)) y e in
    let q = bind_ok (go_after (go (next s p.0.0)) (after closer (head_of p.0.1)) p.0.1) (λ z. Ok (p.0.0 ∷ z.0, z.1))
    y p.2 in
    let t = reads s ts p.0 p.1 in
    let u = go_after_sound flat_of closer (AllGood next Good (next s p.0.0)) tt (go (next s p.0.0)) (h (next s p.0.0))
    (after closer (head_of p.0.1)) p.0.1 refl q.0 q.1 in
    let m = joins (flat_of p.0.0) (behind_commas flat_of q.0.0 ++ (trailing_comma ∷ token (fixed closer) ∷ []))
    ts p.0.1 q.0.1 t.0 u.0 in
    subst (λ (y : List A × List Token). Matches (up_to flat_of closer y.0) ts y.1 × AllGood next Good s y.0)
    {x = (p.0.0 ∷ q.0.0, q.0.1)} (ok_is (p.0.0 ∷ q.0.0, q.0.1) y q.2) (
      subst (λ (ms : List FlatToken). Matches ms ts q.0.1)
          (sym (append_assoc (flat_of p.0.0) (behind_commas flat_of q.0.0)
          (trailing_comma ∷ token (fixed closer) ∷ [])))
          m,
      (t.1, u.1),
    )

pub elements_sound : {S A : Type 0} (one : S → Reader A) (next : S → A → S) (flat_of : A → List FlatToken)
    (Good : S → A → Type 0)
    → Reads one flat_of Good
    → (closer : TokenKind) (k : ℕ) (s : S) (ts : List Token) (y : List A × List Token)
    → elements one next closer k s ts ≡ Ok y
    → Matches (up_to flat_of closer y.0) ts y.1 × AllGood next Good s y.0
unfolding elements
elements_sound one next flat_of Good reads closer zero s ts y e = absurd cc
elements_sound one next flat_of Good reads closer (suc k) s ts y e =
    elements_by_sound one next flat_of Good reads closer (λ s r. elements one next closer k s r)
    (λ s r z. elements_sound one next flat_of Good reads closer k s r z) (is_kind closer (head_of ts))
    s ts refl y e

-- ---- further elements

others_by_sound : {S A : Type 0} (one : S → Reader A) (next : S → A → S) (flat_of : A → List FlatToken)
    (Good : S → A → Type 0)
    → Reads one flat_of Good
    → (go : S → Reader (List A))
    → ((s : S) (ts : List Token) (y : List A × List Token)
    → go s ts ≡ Ok y
    → Matches (behind_commas flat_of y.0) ts y.1
    × AllGood next Good s y.0
    × (is_kind kinds.Comma (head_of y.1) ≡ false))
    → (c : Bool) (s : S) (ts : List Token)
    → is_kind kinds.Comma (head_of ts) ≡ c
    → (y : List A × List Token)
    → others_by one next go s c ts ≡ Ok y
    → Matches (behind_commas flat_of y.0) ts y.1 × AllGood next Good s y.0 × (is_kind kinds.Comma (head_of y.1) ≡ false)
others_by_sound {S} {A} one next flat_of Good reads go h false s ts f y e =
    subst (λ (y : List A × List Token). Matches (behind_commas flat_of y.0) ts y.1
    × AllGood next Good s y.0
    × (is_kind kinds.Comma (head_of y.1) ≡ false))
    (ok_is ([], ts) y e) (refl, tt, f)
others_by_sound {S} {A} one next flat_of Good reads go h true s ts f y e =
    let p = bind_ok (one s (tail_of ts)) (λ x. go (next s x.0) x.1 >>= λ z. Ok (x.0 ∷ z.0, z.1)) y e in
    let q = bind_ok (go (next s p.0.0) p.0.1) (λ z. Ok (p.0.0 ∷ z.0, z.1)) y p.2 in
    let t = reads s (tail_of ts) p.0 p.1 in
    let u = h (next s p.0.0) p.0.1 q.0 q.1 in
    subst (λ (y : List A × List Token). Matches (behind_commas flat_of y.0) ts y.1
    × AllGood next Good s y.0
    × (is_kind kinds.Comma (head_of y.1) ≡ false))
    {x = (p.0.0 ∷ q.0.0, q.0.1)} (ok_is (p.0.0 ∷ q.0.0, q.0.1) y q.2) (
      (
        next_is kinds.Comma (head_of ts) f,
        joins (flat_of p.0.0) (behind_commas flat_of q.0.0) (tail_of ts) p.0.1 q.0.1 t.0 u.0,
      ),
      (t.1, u.1),
      u.2,
    )

-- behind the last of them stands no comma
pub others_sound : {S A : Type 0} (one : S → Reader A) (next : S → A → S) (flat_of : A → List FlatToken)
    (Good : S → A → Type 0)
    → Reads one flat_of Good
    → (k : ℕ) (s : S) (ts : List Token) (y : List A × List Token)
    → others one next k s ts ≡ Ok y
    → Matches (behind_commas flat_of y.0) ts y.1 × AllGood next Good s y.0 × (is_kind kinds.Comma (head_of y.1) ≡ false)
unfolding others
others_sound one next flat_of Good reads zero s ts y e = absurd cc
others_sound one next flat_of Good reads (suc k) s ts y e =
    others_by_sound one next flat_of Good reads (λ s r. others one next k s r)
    (λ s r z. others_sound one next flat_of Good reads k s r z) (is_kind kinds.Comma (head_of ts)) s ts refl y e

-- ---- elements up to what ends a list of statements

items_by_sound : {S A : Type 0} (one : S → Reader A) (next : S → A → S) (flat_of : A → List FlatToken)
    (Good : S → A → Type 0)
    → Reads one flat_of Good
    → (go : S → Reader (List A))
    → ((s : S) (ts : List Token) (y : List A × List Token)
    → go s ts ≡ Ok y
    → Matches (in_a_row flat_of y.0) ts y.1
    × AllGood next Good s y.0
    × (ends_list (head_of y.1) ≡ true))
    → (c : Bool) (s : S) (ts : List Token)
    → ends_list (head_of ts) ≡ c
    → (y : List A × List Token)
    → items_by one next go s c ts ≡ Ok y
    → Matches (in_a_row flat_of y.0) ts y.1 × AllGood next Good s y.0 × (ends_list (head_of y.1) ≡ true)
items_by_sound {S} {A} one next flat_of Good reads go h true s ts f y e =
    subst (λ (y : List A × List Token). Matches (in_a_row flat_of y.0) ts y.1
    × AllGood next Good s y.0
    × (ends_list (head_of y.1) ≡ true))
    (ok_is ([], ts) y e) (refl, tt, f)
items_by_sound {S} {A} one next flat_of Good reads go h false s ts f y e =
    let p = bind_ok (one s ts) (λ x. go (next s x.0) x.1 >>= λ z. Ok (x.0 ∷ z.0, z.1)) y e in
    let q = bind_ok (go (next s p.0.0) p.0.1) (λ z. Ok (p.0.0 ∷ z.0, z.1)) y p.2 in
    let t = reads s ts p.0 p.1 in
    let u = h (next s p.0.0) p.0.1 q.0 q.1 in
    subst (λ (y : List A × List Token). Matches (in_a_row flat_of y.0) ts y.1
    × AllGood next Good s y.0
    × (ends_list (head_of y.1) ≡ true))
    {x = (p.0.0 ∷ q.0.0, q.0.1)} (ok_is (p.0.0 ∷ q.0.0, q.0.1) y q.2)
    (joins (flat_of p.0.0) (in_a_row flat_of q.0.0) ts p.0.1 q.0.1 t.0 u.0, (t.1, u.1), u.2)

-- behind the last of them stands what ends a list
pub items_sound : {S A : Type 0} (one : S → Reader A) (next : S → A → S) (flat_of : A → List FlatToken)
    (Good : S → A → Type 0)
    → Reads one flat_of Good
    → (k : ℕ) (s : S) (ts : List Token) (y : List A × List Token)
    → items one next k s ts ≡ Ok y
    → Matches (in_a_row flat_of y.0) ts y.1 × AllGood next Good s y.0 × (ends_list (head_of y.1) ≡ true)
unfolding items
items_sound one next flat_of Good reads zero s ts y e = absurd cc
items_sound one next flat_of Good reads (suc k) s ts y e =
    items_by_sound one next flat_of Good reads (λ s r. items one next k s r)
    (λ s r z. items_sound one next flat_of Good reads k s r z) (ends_list (head_of ts)) s ts refl y e
