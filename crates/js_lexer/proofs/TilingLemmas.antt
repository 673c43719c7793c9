-- The items tile the units.
use Rattle.std.proofs.Common.{◌≡◌, ℕ, zero, suc, ◌+◌, ◌<◌, ◌≤◌, Bool, List, [], ◌∷◌, ◌++◌, length, take, drop, Option, Some, None, Result, Ok, Err, refl, sym, ap, subst, ◌∙◌, arith}
use Rattle.std.proofs.lemmas.List.{append-nil, take-append-drop, length-drop, length-take}
use Rattle.js_lexer.specs.declared.token.TokenKind.{TokenKind}
use Rattle.js_lexer.specs.Gaps.{IsGap, IsGapPiece, has_line_terminator}
use Rattle.js_lexer.specs.Tokens.{Lent, IsBad, Tile}
use Rattle.js_lexer.specs.Scanning.{gap_piece, gap_len, token_at, item_by, items}
use Rattle.js_lexer.proofs.RunLemmas.{run_is, run_within, IsRun}
use Rattle.js_lexer.proofs.GapLemmas.{gap_finds, gap_knows}
use Rattle.js_lexer.proofs.FrontLemmas.{longest_here, none_here}
use Rattle.js_lexer.specs.Pieces.{run}

pub gap_is : (us : List ℕ) → IsRun (λ text more. IsGapPiece text more) gap_piece us (gap_len us)
unfolding gap_len
gap_is us = run_is (λ text more. IsGapPiece text more) gap_piece gap_finds us

pub gap_within : (us : List ℕ) → gap_len us ≤ length us
unfolding gap_len
gap_within us = run_within gap_piece 0 us

-- no piece of a gap stands where none is found
no_piece : (us text more : List ℕ) → gap_piece us ≡ 0 → us ≡ text ++ more → IsGapPiece text more → ⊥
no_piece us text more z p h =
    let k = gap_knows text more h in
    let e : gap_piece us ≡ length text = ap gap_piece p ∙ k.1 in
    let some : 0 < length text = k.0 in
    omega arith

-- ---- how the items go on

token_some : (us : List ℕ) (t : TokenKind × ℕ) → token_at us ≡ Some t → (0 < t.1) × (t.1 ≤ length us)
token_some us t e = let f = longest_here us t.0 t.1 e in (f.1, f.0)

item_none : (go go' : ℕ → List ℕ → List (Result Lent ℕ)) (at : ℕ) (newline : Bool) (r : List ℕ)
    → item_by go at newline r None ≡ item_by go' at newline r None
item_none go go' at newline [] = refl
item_none go go' at newline (u ∷ us) = refl

past_by : (n m at g : ℕ) (newline : Bool) (us : List ℕ)
    → length us < suc n
    → length us < suc m
    → ((at : ℕ) (r : List ℕ) → length r < n → length r < m → items n at r ≡ items m at r)
    → (o : Option (TokenKind × ℕ))
    → token_at (drop g us) ≡ o
    → item_by (λ a r. items n a r) at newline (drop g us) o ≡ item_by (λ a r. items m a r) at newline (drop g us) o
past_by n m at g newline us p q h None e = item_none (λ a r. items n a r) (λ a r. items m a r) at newline (drop g us)
past_by n m at g newline us p q h (Some t) e =
    let s = token_some (drop g us) t e in
    ap (λ ts. Ok (record { kind = t.0; text = take t.1 (drop g us); start = at; newline_before = newline }) ∷ ts)
    (h (at + t.1) (drop t.1 (drop g us)) (omega (arith, s.0, s.1, length-drop g us, length-drop t.1 (drop g us)))
    (omega (arith, s.0, s.1, length-drop g us, length-drop t.1 (drop g us))))

items_past : (n m at : ℕ) (us : List ℕ) → length us < n → length us < m → items n at us ≡ items m at us
unfolding items
items_past zero m at us p q = absurd (omega arith)
items_past (suc n) zero at us p q = absurd (omega arith)
items_past (suc n) (suc m) at us p q =
    past_by n m (at + gap_len us) (gap_len us) (has_line_terminator (take (gap_len us) us)) us p q
    (λ a r x y. items_past n m a r x y) (token_at (drop (gap_len us) us)) refl

pub no_more : (at : ℕ) (us : List ℕ)
    → token_at (drop (gap_len us) us) ≡ None
    → length (drop (gap_len us) us) ≡ 0
    → items (suc (length us)) at us ≡ []
unfolding items
no_more at us e z =
    rw e (nothing (λ a r. items (length us) a r) (at + gap_len us) (has_line_terminator (take (gap_len us) us))
    (drop (gap_len us) us) z)
  where
    nothing : (go : ℕ → List ℕ → List (Result Lent ℕ)) (at : ℕ) (newline : Bool) (r : List ℕ)
        → length r ≡ 0
        → item_by go at newline r None ≡ []
    nothing go at newline [] z = refl
    nothing go at newline (u ∷ us) z = absurd (omega arith)

pub bad_one : (at : ℕ) (us : List ℕ)
    → token_at (drop (gap_len us) us) ≡ None
    → 0 < length (drop (gap_len us) us)
    → items (suc (length us)) at us ≡ Err (at + gap_len us) ∷ []
unfolding items
bad_one at us e z =
    rw e (bad (λ a r. items (length us) a r) (at + gap_len us) (has_line_terminator (take (gap_len us) us))
    (drop (gap_len us) us) z)
  where
    bad : (go : ℕ → List ℕ → List (Result Lent ℕ)) (at : ℕ) (newline : Bool) (r : List ℕ)
        → 0 < length r
        → item_by go at newline r None ≡ Err at ∷ []
    bad go at newline [] z = absurd (omega arith)
    bad go at newline (u ∷ us) z = refl

pub one_more : (at : ℕ) (us : List ℕ) (t : TokenKind × ℕ) → token_at (drop (gap_len us) us) ≡ Some t
    → items (suc (length us)) at us ≡ Ok
    (record {
      kind = t.0;
      text = take t.1
          (drop (gap_len us) us);
      start = at + gap_len us;
      newline_before = has_line_terminator
          (take (gap_len us) us);
    })
    ∷ items (suc (length (drop t.1 (drop (gap_len us) us)))) (at + gap_len us + t.1)
    (drop t.1 (drop (gap_len us) us))
unfolding items
one_more at us t e =
    let s = token_some (drop (gap_len us) us) t e in
    rw e (ap (λ ts. Ok
    (record {
      kind = t.0;
      text = take t.1
          (drop (gap_len us) us);
      start = at + gap_len us;
      newline_before = has_line_terminator
          (take (gap_len us) us);
    })
    ∷ ts)
    (items_past (length us) (suc (length (drop t.1 (drop (gap_len us) us)))) (at + gap_len us + t.1)
    (drop t.1 (drop (gap_len us) us))
    (omega (arith, s.0, s.1, length-drop (gap_len us) us, length-drop t.1 (drop (gap_len us) us))) (omega arith)))

-- ---- the tiles

tile_by : (n at g : ℕ) (us : List ℕ)
    → length us < suc n
    → g ≤ length us
    → IsRun (λ text more. IsGapPiece text more) gap_piece us g
    → ((at : ℕ) (r : List ℕ) → length r < n → Tile at r (items n at r))
    → (here : List ℕ)
    → drop g us ≡ here
    → (o : Option (TokenKind × ℕ))
    → token_at here ≡ o
    → Tile at us (item_by (λ a r. items n a r) (at + g) (has_line_terminator (take g us)) here o)
tile_by n at g us lt w run h here p (Some t) e =
    let f = longest_here here t.0 t.1 e in
    let within : t.1 ≤ length here = f.0 in
    let some : 0 < t.1 = f.1 in
    let gap_length : length (take g us) ≡ g = omega (arith, length-take g us) in
    let text_length : length (take t.1 here) ≡ t.1 = omega (arith, length-take t.1 here) in
    let whole : drop g us ≡ take t.1 here ++ drop t.1 here = p ∙ sym (take-append-drop t.1 here) in
    let place : at + length (take g us) + length (take t.1 here) ≡ at + g + t.1 = omega arith in
    let rest : Tile (at + g + t.1) (drop t.1 here) (items n (at + g + t.1) (drop t.1 here)) = h (at + g + t.1)
    (drop t.1 here) (omega (arith, length-drop t.1 here, length-drop g us, ap (λ (l : List ℕ). length l) p)) in (
      take g us,
      drop t.1 here,
      sym (take-append-drop g us) ∙ ap (λ l. take g us ++ l) whole,
      record {
        gap_before = subst (λ (l : List ℕ). IsGap (take g us) l) whole run.made;
        start = omega arith;
        newline_before = refl;
        longest = f.3;
      },
      subst (λ (a : ℕ). Tile a (drop t.1 here) (items n (at + g + t.1) (drop t.1 here))) (sym place) rest,
    )
tile_by n at g us lt w run h [] p None e =
    let all : take g us ≡ us = sym (append-nil (take g us))
    ∙ ap (λ l. take g us ++ l) (sym p)
    ∙ take-append-drop g us in
    subst (λ (l : List ℕ). IsGap l []) all (subst (λ (l : List ℕ). IsGap (take g us) l) p run.made)
tile_by n at g us lt w run h (u ∷ r) p None e =
    let gap_length : length (take g us) ≡ g = omega (arith, length-take g us) in
    let z : gap_piece (u ∷ r) ≡ 0 = ap gap_piece (sym p) ∙ run.ended in (
      take g us,
      drop g us,
      sym (take-append-drop g us),
      run.made,
      omega arith,
      subst (λ (l : List ℕ). IsBad l) (sym p) (record {
        some = omega arith;
        no_gap = λ text more q k. no_piece (u ∷ r) text more z q k;
        no_token = none_here (u ∷ r) e;
      }),
      refl,
    )

tile_below : (n at : ℕ) (us : List ℕ) → length us < n → Tile at us (items n at us)
unfolding items
tile_below zero at us h = absurd (omega arith)
tile_below (suc n) at us h =
    tile_by n at (gap_len us) us h (gap_within us) (gap_is us) (λ a r l. tile_below n a r l) (drop (gap_len us) us) refl
    (token_at (drop (gap_len us) us)) refl

-- the items of some units tile them
pub tiles : (at : ℕ) (us : List ℕ) → Tile at us (items (suc (length us)) at us)
tiles at us = tile_below (suc (length us)) at us (omega arith)
