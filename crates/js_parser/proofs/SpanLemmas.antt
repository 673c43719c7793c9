-- The spans of a source's nodes lie in it.
use Rattle.std.proofs.Common.{◌≡◌, ℕ, zero, suc, ◌+◌, ◌≤◌, Bool, true, false, List, [], ◌∷◌, length, map, take, drop, min, Option, Some, None, Result, Ok, Err, inl, inr, refl, ap, subst, arith, length-drop}
use Rattle.std.specs.Prelude.{IfOk, nat_lt}
use Rattle.std.specs.List.{All}
use Rattle.std.proofs.lemmas.List.{length-take-le}
use Rattle.js_lexer.specs.declared.token.TokenKind.{TokenKind}
use Rattle.js_lexer.specs.Gaps.{has_line_terminator}
use Rattle.js_lexer.specs.Scanning.{gap_len, token_at, item_by, items}
use Rattle.js_lexer.specs.State.{items_of}
use Rattle.js_lexer.specs.Tokens.{Lent}
use Rattle.js_lexer.proofs.FrontLemmas.{longest_here}
use Rattle.js_lexer.proofs.TilingLemmas.{gap_within}
use Rattle.js_tree.specs.declared.node.Span.{Span}
use Rattle.js_parser_language.specs.Tokens.{Token, head_of, tail_of}
use Rattle.js_parser_language.specs.Places.{FlatPlace, stands, stands_maybe, opens, closes, start_of, end_of, AreSpans}
use Rattle.js_tree.specs.Spans.{span_of}
use Rattle.js_parser_readers.specs.Places.{cut_at}
use Rattle.js_parser_readers.specs.Placed.{Behind, AreInOrder, AreNumbered, IsForward}
use Rattle.js_parser_readers.specs.declared.fault.ParseError.{ParseError}
use Rattle.js_parser_readers.specs.declared.fault.ParseFault.{ParseFault}
use Rattle.js_parser.specs.Lexing.{Lexed, LexingEnd, lexed, lexed_of, unless_deep, complete, tree_or_fault}
use Rattle.js_parser_descent.specs.declared.limits.TheConstants.{MOST_HEIGHT}
use Rattle.js_parser.specs.declared.limits.TheConstants.{MOST_TOKENS}
use Rattle.js_parser.specs.Sources.{lent_view, tokens_in, tokens_of}
use Rattle.js_parser.specs.Spans.{AreSpansIn, PlacedIn}

-- ---- the tokens of a source

-- each token stands behind the one before it, none before the lower place, and none reaches beyond the end
abbrev Tile : ℕ → ℕ → List Token → Type 0
Tile low end [] = Unit {0}
Tile low end (t ∷ ts) = (low ≤ t.start) × (t.start ≤ t.end) × (t.end ≤ end) × Tile t.end end ts

lower : (low less end : ℕ) (ts : List Token) → less ≤ low → Tile low end ts → Tile less end ts
lower low less end [] le r = tt
lower low less end (t ∷ ts) le r = (omega (arith, le, r.0), r.1, r.2, r.3)

-- a token that is found here, and those behind it
tile_found : (n at end : ℕ) (here : List ℕ) (newline : Bool) (o : Option (TokenKind × ℕ))
    → token_at here ≡ o
    → end ≡ at + length here
    → ((a : ℕ) (us : List ℕ) → end ≡ a + length us → Tile a end (tokens_in (items n a us)))
    → Tile at end (tokens_in (item_by (λ a r. items n a r) at newline here o))
tile_found n at end here newline (Some t) e h go =
    let l = longest_here here t.0 t.1 e in
    let width : length (take t.1 here) ≡ t.1 = length-take-le t.1 here l.0 in
    let there : at + t.1 ≡ at + length (take t.1 here) = omega (arith, width) in (
      omega arith,
      omega arith,
      omega (arith, h, l.0, width),
      subst (λ a. Tile a end (tokens_in (items n (at + t.1) (drop t.1 here)))) there
          (go (at + t.1) (drop t.1 here) (omega (arith, h, l.0, length-drop t.1 here))),
    )
tile_found n at end [] newline None e h go = tt
tile_found n at end (u ∷ us) newline None e h go = tt

tile : (n at end : ℕ) (us : List ℕ) → end ≡ at + length us → Tile at end (tokens_in (items n at us))
unfolding items
tile zero at end us h = tt
tile (suc n) at end us h =
    let gap = gap_len us in
    lower (at + gap) at end
    (tokens_in
    (item_by (λ a r. items n a r) (at + gap) (has_line_terminator (take gap us)) (drop gap us)
    (token_at (drop gap us))))
    (omega arith)
    (tile_found n (at + gap) end (drop gap us) (has_line_terminator (take gap us)) (token_at (drop gap us)) refl
    (omega (arith, h, gap_within us, length-drop gap us)) (λ a r e. tile n a end r e))

tiles : (source : List ℕ) → Tile 0 (length source) (tokens_of source)
tiles source = tile (suc (length source)) 0 (length source) source (omega arith)

behind : (low end : ℕ) (ts : List Token) → Tile low end ts → Behind low ts
behind low end [] r = tt
behind low end (t ∷ ts) r = r.0

in_order : (low end : ℕ) (ts : List Token) → Tile low end ts → AreInOrder ts
in_order low end [] r = tt
in_order low end (t ∷ ts) r = (r.1, behind t.end end ts r.3, in_order t.end end ts r.3)

pub are_in_order : (source : List ℕ) → AreInOrder (tokens_of source)
are_in_order source = in_order 0 (length source) (tokens_of source) (tiles source)

-- ---- spans that are cut off

cut_start : (end : ℕ) (spans : List Span) (n : ℕ)
    → (span_of (map (cut_at end) spans) n).start ≡ min (span_of spans n).start (min end (span_of spans n).end)
cut_start end [] n = omega arith
cut_start end (s ∷ spans) zero = refl
cut_start end (s ∷ spans) (suc n) = cut_start end spans n

cut_end : (end : ℕ) (spans : List Span) (n : ℕ)
    → (span_of (map (cut_at end) spans) n).end ≡ min end (span_of spans n).end
cut_end end [] n = omega arith
cut_end end (s ∷ spans) zero = refl
cut_end end (s ∷ spans) (suc n) = cut_end end spans n

forward_at : (spans : List Span) (n : ℕ) → All IsForward spans → IsForward (span_of spans n)
forward_at [] n h = omega arith
forward_at (s ∷ spans) zero h = h zero s (omega arith)
forward_at (s ∷ spans) (suc n) h = forward_at spans n (λ k d l. h (suc k) d (omega (arith, l)))

-- where tokens that tile a source up to its end begin and end
next_start : (low end : ℕ) (ts : List Token) → Tile low end ts → start_of (head_of ts) ≤ end
next_start low end [] r = omega arith
next_start low end (t ∷ ts) r = omega (arith, r.1, r.2)

next_end : (low end : ℕ) (ts : List Token) → Tile low end ts → end_of (head_of ts) ≤ end
next_end low end [] r = omega arith
next_end low end (t ∷ ts) r = r.2

next_tile : (low end : ℕ) (ts : List Token) → Tile low end ts → Tile 0 end (tail_of ts)
next_tile low end [] r = tt
next_tile low end (t ∷ ts) r = lower t.end 0 end ts (omega arith) r.3

-- what lies beyond the end of the source is nothing
cut_nothing : (end : ℕ) (spans : List Span)
    → All IsForward spans
    → (places : List FlatPlace) (before : ℕ) (ts left : List Token)
    → before ≤ end
    → Tile 0 end ts
    → AreSpans spans places before ts left
    → AreSpans (map (cut_at end) spans) places before ts left
cut_nothing end spans f [] before ts left b r p = p
cut_nothing end spans f (opens n ∷ places) before ts left b r p = (
  omega (arith, cut_start end spans n, forward_at spans n f, p.0, next_start 0 end ts r),
  cut_nothing end spans f places before ts left b r p.1,
)
cut_nothing end spans f (closes n ∷ places) before ts left b r p =
    (omega (arith, cut_end end spans n, p.0, b), cut_nothing end spans f places before ts left b r p.1)
cut_nothing end spans f (stands s ∷ places) before ts left b r p = (
  p.0,
  cut_nothing end spans f places (end_of (head_of ts)) (tail_of ts) left (next_end 0 end ts r)
      (next_tile 0 end ts r) p.1,
)
cut_nothing end spans f (stands_maybe kind ∷ places) before ts left b r (inl p) =
    inl (
      p.0,
      cut_nothing end spans f places (end_of (head_of ts)) (tail_of ts) left (next_end 0 end ts r)
          (next_tile 0 end ts r) p.1,
    )
cut_nothing end spans f (stands_maybe kind ∷ places) before ts left b r (inr p) =
    inr (p.0, cut_nothing end spans f places before ts left b r p.1)

-- the spans of a source's nodes lie in it
pub all_within : (source : List ℕ) (spans : List Span) (places : List FlatPlace)
    → AreSpansIn source spans places
    → All IsForward spans
    → AreSpansIn source (map (cut_at (length source)) spans) places
all_within source spans places p f =
    cut_nothing (length source) spans f places 0 (tokens_of source) [] (omega arith) (tiles source) p

-- ---- what is told of a source

-- where nothing stops the reading, all tokens are read
all_read : (n : ℕ) (is : List (Result Lent ℕ)) → (lexed n is).stop ≡ None → (lexed n is).tokens ≡ tokens_in is
all_read n [] e = refl
all_read n (Err at ∷ is) e = absurd cc
all_read zero (Ok t ∷ is) e = absurd cc
all_read (suc n) (Ok t ∷ is) e = ap (λ (ts : List Token). lent_view t ∷ ts) (all_read n is e)

unless_stands : {A : Type 0} (Holds : A → Type 0) (b : Bool) (x : A) → Holds x → IfOk (unless_deep b x) Holds
unless_stands Holds true x h = tt
unless_stands Holds false x h = h

complete_stands : {A : Type 0} (Holds : A → Type 0) (end : ℕ) (stop : Option LexingEnd) (x : A) (height : ℕ)
    → (stop ≡ None → Holds x)
    → IfOk (complete end stop x height) Holds
complete_stands Holds end None x height h = unless_stands Holds (nat_lt MOST_HEIGHT height) x (h refl)
complete_stands Holds end (Some s) x height h = tt

told_stands : {A : Type 0} (places : A → List FlatPlace) (source : List ℕ) (old new : List Span) (l : Lexed) (end : ℕ)
    (given : Result (A × ℕ) ParseError)
    → (l.stop ≡ None → l.tokens ≡ tokens_of source)
    → IfOk given (λ x. AreSpans new (places x.0) 0 l.tokens [])
    → IfOk given (λ x. AreInOrder l.tokens → All IsForward old → All IsForward new)
    → IfOk given (λ x. AreNumbered (length old) (places x.0) (length new))
    → IfOk (tree_or_fault l end given) (λ x. PlacedIn source old new (places x))
told_stands places source old new l end (Err e) all p f n = tt
told_stands places source old new l end (Ok x) all p f n =
    complete_stands (λ x. PlacedIn source old new (places x)) end l.stop x.0 x.1
    (λ none. record { exact = rw (all none) at p; forward = f (rw (all none) (are_in_order source)); numbers = n })

-- the spans of a tree that is told
pub told_placed : {A : Type 0} (places : A → List FlatPlace) (source : List ℕ) (old new : List Span) (l : Lexed)
    (ts : List Token) (end : ℕ) (given : Result (A × ℕ) ParseError) (answer : Result A ParseFault)
    → l ≡ lexed_of source
    → ts ≡ l.tokens
    → IfOk given (λ x. AreSpans new (places x.0) 0 ts [])
    → IfOk given (λ x. AreInOrder ts → All IsForward old → All IsForward new)
    → IfOk given (λ x. AreNumbered (length old) (places x.0) (length new))
    → answer ≡ tree_or_fault l end given
    → IfOk answer (λ x. PlacedIn source old new (places x))
told_placed places source old new l ts end given answer e t p f n is =
    rw is (told_stands places source old new l end given
    (λ none. rw e (all_read MOST_TOKENS (items_of source) (rw e at none))) (rw t at p) (rw t at f) n)
