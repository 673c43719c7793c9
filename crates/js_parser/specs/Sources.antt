-- Sources: their tokens, and their trees within the limits, which are constants of the code.
use Rattle.std.specs.Prelude.{◌≡◌, ◌≤◌, ◌<◌, ℕ, ◌+◌, List, [], ◌∷◌, length, Option, Some, None, Result, Ok, Err}
use Rattle.js_lexer.specs.State.{items_of}
use Rattle.js_lexer.specs.Tokens.{Lent}
use Rattle.js_parser_language.specs.Tokens.{Token}
use Rattle.js_parser_readers.specs.Views.{string_value_of, numeric_value_of}
use Rattle.js_parser_descent.specs.declared.limits.TheConstants.{MOST_HEIGHT}
use Rattle.js_parser.specs.declared.limits.TheConstants.{MOST_UNITS, MOST_TOKENS}

-- ---- tokens

-- a token as the grammar sees it
abbrev pub lent_view : Lent → Token
lent_view t = record {
  kind = t.kind;
  string_value = string_value_of t.kind t.text;
  numeric_value = numeric_value_of t.kind t.text;
  newline_before = t.newline_before;
  start = t.start;
  end = t.start + length t.text;
}

-- of items that the lexer finds, the tokens, up to a bad one
abbrev pub tokens_in : List (Result Lent ℕ) → List Token
tokens_in [] = []
tokens_in (Ok t ∷ is) = lent_view t ∷ tokens_in is
tokens_in (Err at ∷ is) = []

-- the place of a bad one
abbrev pub bad_in : List (Result Lent ℕ) → Option ℕ
bad_in [] = None
bad_in (Ok t ∷ is) = bad_in is
bad_in (Err at ∷ is) = Some at

-- The tokens of a source, however many, which tile it with the gaps between them (ECMA-262, 12); up to the place of a
-- bad one, if one is bad.
abbrev pub tokens_of : List ℕ → List Token
tokens_of source = tokens_in (items_of source)

-- The place in a source behind its tokens where neither the end, white space, a line terminator, a comment nor a token
-- begins.
abbrev pub bad_place : List ℕ → Option ℕ
bad_place source = bad_in (items_of source)

-- ---- trees

-- The source isn't too long, no token of it is bad and none is too many, and its tokens are those of this tree.
pub record IsTreeOf {Tree : Type 0} (Is : List Token → Tree → Type 0) (source : List ℕ) (t : Tree) : Type 0 where
  pub short : length source ≤ MOST_UNITS
  pub all_good : bad_place source ≡ None
  pub few : length (tokens_of source) ≤ MOST_TOKENS
  pub is : Is (tokens_of source) t

-- the source is one of the language, with this tree, within the limits
abbrev pub IsSource : {Tree : Type 0} → (List Token → Tree → Type 0) → (Tree → ℕ) → List ℕ → Tree → Type 0
IsSource Is height_of source t = IsTreeOf Is source t × (height_of t ≤ MOST_HEIGHT)

-- a source of this language whose tree alone passes a limit
abbrev pub HasDeepTree : {Tree : Type 0} → (List Token → Tree → Type 0) → (Tree → ℕ) → List ℕ → Type 0
HasDeepTree {Tree} Is height_of source = (t : Tree) × (IsTreeOf Is source t × (MOST_HEIGHT < height_of t))
