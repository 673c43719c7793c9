-- Where what was read stands: the places of a tree in its tokens, with the spans of its nodes.
use Rattle.std.specs.Prelude.{◌≡◌, ℕ, suc, ◌≤◌, ◌<◌, Bool, IsTrue, List, [], ◌∷◌, ◌++◌, length, All}
use Rattle.js_tree.specs.declared.node.Span.{Span}
use Rattle.js_parser_language.specs.Places.{FlatPlace, stands, stands_maybe, opens, closes, AreSpans}
use Rattle.js_parser_language.specs.Tokens.{Token}

-- a list of spans that goes on
pub record GoesOn (spans longer : List Span) : Type 0 where
  pub more : List Span
  pub is : longer ≡ spans ++ more

-- these tokens begin no earlier than here
abbrev pub Behind : ℕ → List Token → Type 0
Behind at [] = Unit {0}
Behind at (t ∷ ts) = at ≤ t.start

-- each token ends no earlier than it begins, and no later than the next one begins
abbrev pub AreInOrder : List Token → Type 0
AreInOrder [] = Unit {0}
AreInOrder (t ∷ ts) = (t.start ≤ t.end) × Behind t.end ts × AreInOrder ts

-- a span ends no earlier than it begins
abbrev pub IsForward : Span → Type 0
IsForward s = s.start ≤ s.end

-- The nodes of these places have the numbers from the first one on, one after another in the order in which they end,
-- up to the one before the next.
abbrev pub AreNumbered : ℕ → List FlatPlace → ℕ → Type 0
AreNumbered first [] next = first ≡ next
AreNumbered first (opens n ∷ ps) next = AreNumbered first ps next
AreNumbered first (closes n ∷ ps) next = (n ≡ first) × AreNumbered (suc first) ps next
AreNumbered first (stands s ∷ ps) next = AreNumbered first ps next
AreNumbered first (stands_maybe kind ∷ ps) next = AreNumbered first ps next

-- While the spans grew from `old` to `new`, these places were read from the tokens, with the others left: however the
-- spans go on, the places are the first of the tokens, and each node's span goes from the start of its first token to
-- the end of its last one. At least one token was read, if `some`. The nodes are the spans that came: each has one of
-- their numbers, in the order in which they end.
pub record InPlace (some : Bool) (old new : List Span) (places : List FlatPlace) (ts left : List Token) : Type 0 where
  pub grew : GoesOn old new
  pub fewer : IsTrue some → length left < length ts
  pub exact : (spans : List Span) → GoesOn new spans → (before : ℕ) → AreSpans spans places before ts left
  pub numbers : AreNumbered (length old) places (length new)

-- And no span ends before it begins, if the tokens are in order.
pub record Placed (some : Bool) (old new : List Span) (places : List FlatPlace) (ts left : List Token) : Type 0 where
  pub stands : InPlace some old new places ts left
  pub forward : AreInOrder ts → All IsForward old → All IsForward new
