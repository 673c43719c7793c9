-- The places of a source's tokens rise.
use Rattle.std.proofs.Common.{◌≡◌, ℕ, zero, suc, ◌+◌, ◌≤◌, ◌<◌, Bool, List, [], ◌∷◌, ◌++◌, length, take, drop, Option, Some, None, Result, Ok, Err, refl, ap, arith, length-drop}
use Rattle.js_lexer.specs.declared.token.TokenKind.{TokenKind}
use Rattle.js_lexer.specs.Gaps.{has_line_terminator}
use Rattle.js_lexer.specs.Scanning.{gap_len, token_at, item_by, items}
use Rattle.js_lexer.specs.State.{items_of}
use Rattle.js_lexer.specs.Tokens.{Lent}
use Rattle.js_lexer.proofs.FrontLemmas.{longest_here}
use Rattle.js_lexer.proofs.TilingLemmas.{gap_within}
use Rattle.js_parser_language.specs.Tokens.{Token}
use Rattle.js_parser.specs.Sources.{lent_view, tokens_in, bad_in, tokens_of, bad_place}

-- each item stands behind the one before it, none before the lower place, and all before the end
abbrev Rise : ℕ → ℕ → List (Result Lent ℕ) → Type 0
Rise low end [] = Unit {0}
Rise low end (Ok t ∷ is) = (low ≤ t.start) × (t.start < end) × Rise (suc t.start) end is
Rise low end (Err at ∷ is) = (low ≤ at) × (at < end)

lower : (low less end : ℕ) (is : List (Result Lent ℕ)) → less ≤ low → Rise low end is → Rise less end is
lower low less end [] le r = tt
lower low less end (Ok t ∷ is) le r = (omega (arith, r.0), r.1, r.2)
lower low less end (Err at ∷ is) le r = (omega (arith, r.0), r.1)

by_token : (n at end : ℕ) (here : List ℕ) (newline : Bool) (o : Option (TokenKind × ℕ))
    → token_at here ≡ o
    → end ≡ at + length here
    → ((a : ℕ) (us : List ℕ) → end ≡ a + length us → Rise a end (items n a us))
    → Rise at end (item_by (λ a r. items n a r) at newline here o)
by_token n at end here newline (Some t) e h go =
    let l = longest_here here t.0 t.1 e in (
      omega arith,
      omega (arith, h, l.0, l.1),
      lower (at + t.1) (suc at) end (items n (at + t.1) (drop t.1 here)) (omega (arith, l.1))
          (go (at + t.1) (drop t.1 here) (omega (arith, h, l.0, length-drop t.1 here))),
    )
by_token n at end [] newline None e h go = tt
by_token n at end (u ∷ us) newline None e h go = (omega arith, omega (arith, h))

rise : (n at end : ℕ) (us : List ℕ) → end ≡ at + length us → Rise at end (items n at us)
unfolding items
rise zero at end us h = tt
rise (suc n) at end us h =
    let gap = gap_len us in
    lower (at + gap) at end
    (item_by (λ a r. items n a r) (at + gap) (has_line_terminator (take gap us)) (drop gap us)
    (token_at (drop gap us)))
    (omega arith)
    (by_token n (at + gap) end (drop gap us) (has_line_terminator (take gap us)) (token_at (drop gap us)) refl
    (omega (arith, h, gap_within us, length-drop gap us)) (λ a r e. rise n a end r e))

rises : (source : List ℕ) → Rise 0 (length source) (items_of source)
rises source = rise (suc (length source)) 0 (length source) source (omega arith)

-- a token stands between
pub record Between (low at end : ℕ) : Type 0 where
  pub above : low ≤ at
  pub below : at < end

between : (low end : ℕ) (is : List (Result Lent ℕ))
    → Rise low end is
    → (before : List Token) (t : Token) (left : List Token)
    → tokens_in is ≡ before ++ t ∷ left
    → Between low t.start end
between low end [] r [] t left p = absurd cc
between low end [] r (x ∷ before) t left p = absurd cc
between low end (Err at ∷ is) r [] t left p = absurd cc
between low end (Err at ∷ is) r (x ∷ before) t left p = absurd cc
between low end (Ok s ∷ is) r [] t left p =
    let e : lent_view s ≡ t = cc in
    let f : s.start ≡ t.start = ap (λ (t : Token). t.start) e in
    record { above = omega (arith, r.0, f); below = omega (arith, r.1, f) }
between low end (Ok s ∷ is) r (x ∷ before) t left p =
    let e : tokens_in is ≡ before ++ t ∷ left = cc in
    let b = between (suc s.start) end is r.2 before t left e in
    record { above = omega (arith, r.0, b.above); below = b.below }

bad_between : (low end : ℕ) (is : List (Result Lent ℕ))
    → Rise low end is
    → (at : ℕ)
    → bad_in is ≡ Some at
    → Between low at end
bad_between low end [] r at p = absurd cc
bad_between low end (Err b ∷ is) r at p =
    let e : b ≡ at = cc in record { above = omega (arith, r.0, e); below = omega (arith, r.1, e) }
bad_between low end (Ok s ∷ is) r at p =
    let b = bad_between (suc s.start) end is r.2 at p in record { above = omega (arith, r.0, b.above); below = b.below }

-- a token begins before those behind it
rise_on : (low end : ℕ) (is : List (Result Lent ℕ))
    → Rise low end is
    → (before : List Token) (t : Token) (middle : List Token) (u : Token) (left : List Token)
    → tokens_in is ≡ before ++ t ∷ (middle ++ u ∷ left)
    → t.start < u.start
rise_on low end [] r [] t middle u left p = absurd cc
rise_on low end [] r (x ∷ before) t middle u left p = absurd cc
rise_on low end (Err at ∷ is) r [] t middle u left p = absurd cc
rise_on low end (Err at ∷ is) r (x ∷ before) t middle u left p = absurd cc
rise_on low end (Ok s ∷ is) r [] t middle u left p =
    let e : lent_view s ≡ t = cc in
    let f : s.start ≡ t.start = ap (λ (t : Token). t.start) e in
    let q : tokens_in is ≡ middle ++ u ∷ left = cc in
    omega (arith, f, (between (suc s.start) end is r.2 middle u left q).above)
rise_on low end (Ok s ∷ is) r (x ∷ before) t middle u left p =
    let e : tokens_in is ≡ before ++ t ∷ (middle ++ u ∷ left) = cc in
    rise_on (suc s.start) end is r.2 before t middle u left e

-- and before a bad one
bad_on : (low end : ℕ) (is : List (Result Lent ℕ))
    → Rise low end is
    → (before : List Token) (t : Token) (left : List Token)
    → tokens_in is ≡ before ++ t ∷ left
    → (at : ℕ)
    → bad_in is ≡ Some at
    → t.start < at
bad_on low end [] r [] t left p at q = absurd cc
bad_on low end [] r (x ∷ before) t left p at q = absurd cc
bad_on low end (Err b ∷ is) r [] t left p at q = absurd cc
bad_on low end (Err b ∷ is) r (x ∷ before) t left p at q = absurd cc
bad_on low end (Ok s ∷ is) r [] t left p at q =
    let e : lent_view s ≡ t = cc in
    let f : s.start ≡ t.start = ap (λ (t : Token). t.start) e in
    omega (arith, f, (bad_between (suc s.start) end is r.2 at q).above)
bad_on low end (Ok s ∷ is) r (x ∷ before) t left p at q =
    let e : tokens_in is ≡ before ++ t ∷ left = cc in
    bad_on (suc s.start) end is r.2 before t left e at q

-- ---- of a source

pub token_in : (source : List ℕ) (before : List Token) (t : Token) (left : List Token)
    → tokens_of source ≡ before ++ t ∷ left
    → t.start < length source
token_in source before t left p = (between 0 (length source) (items_of source) (rises source) before t left p).below

pub token_before : (source : List ℕ) (before : List Token) (t : Token) (middle : List Token) (u : Token)
    (left : List Token)
    → tokens_of source ≡ before ++ t ∷ (middle ++ u ∷ left)
    → t.start < u.start
token_before source before t middle u left p =
    rise_on 0 (length source) (items_of source) (rises source) before t middle u left p

pub token_before_bad : (source : List ℕ) (before : List Token) (t : Token) (left : List Token)
    → tokens_of source ≡ before ++ t ∷ left
    → (at : ℕ)
    → bad_place source ≡ Some at
    → t.start < at
token_before_bad source before t left p at q =
    bad_on 0 (length source) (items_of source) (rises source) before t left p at q

pub bad_within : (source : List ℕ) (at : ℕ) → bad_place source ≡ Some at → at < length source
bad_within source at p = (bad_between 0 (length source) (items_of source) (rises source) at p).below
