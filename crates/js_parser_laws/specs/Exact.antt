-- Where tokens leave a language, which begin it with written tokens behind them, and which begin only trees that are
-- too deep.
use Rattle.std.specs.Prelude.{◌≡◌, ℕ, ◌<◌, List, [], ◌∷◌, ◌++◌, length, map}
use Rattle.js_lexer.specs.Written.{WrittenToken, AreTokens}
use Rattle.js_parser_language.specs.Tokens.{Token}
use Rattle.js_parser_language.specs.Language.{InLanguage, BeginsLanguage}
use Rattle.js_parser_readers.specs.Views.{string_value_of, numeric_value_of}

-- a token that is to be written, as the grammar sees it but for its place
abbrev pub written_view : WrittenToken → Token
written_view t = record {
  kind = t.kind;
  string_value = string_value_of t.kind t.text;
  numeric_value = numeric_value_of t.kind t.text;
  newline_before = t.newline_before;
  start = 0;
  end = 0;
}

-- the same tokens one by one, at other places
abbrev pub AreAlike : List Token → List Token → Type 0
AreAlike [] [] = Unit {0}
AreAlike [] (u ∷ us) = ⊥
AreAlike (t ∷ ts) [] = ⊥
AreAlike (t ∷ ts) (u ∷ us) =
    (t.kind ≡ u.kind)
    × (t.string_value ≡ u.string_value)
    × (t.numeric_value ≡ u.numeric_value)
    × (t.newline_before ≡ u.newline_before)
    × AreAlike ts us

-- Tokens that can be written behind these make them a source in the language.
pub record BeginsWritten {Tree : Type 0} (Is : List Token → Tree → Type 0) (ts : List Token) : Type 0 where
  pub rest : List WrittenToken
  pub tokens : AreTokens rest
  pub language : InLanguage Is (ts ++ map written_view rest)

-- With the next token the tokens begin no source of the language any more; where none is left, they are none.
abbrev pub LeavesAfter : {Tree : Type 0} → (List Token → Tree → Type 0) → List Token → List Token → Type 0
LeavesAfter Is before [] = InLanguage Is before → ⊥
LeavesAfter Is before (t ∷ left) = BeginsLanguage Is (before ++ (t ∷ [])) → ⊥

-- So many tokens are left where the language is left.
pub record LeavesAt {Tree : Type 0} (Is : List Token → Tree → Type 0) (ts : List Token) (count : ℕ) : Type 0 where
  pub before : List Token
  pub left : List Token
  pub parts : ts ≡ before ++ left
  pub counted : length left ≡ count
  pub begins : BeginsLanguage Is before
  pub leaves : LeavesAfter Is before left

-- Some first tokens begin the language, and only trees that are deeper than n begin with them.
pub record TooDeepFrom {Tree : Type 0} (Is : List Token → Tree → Type 0) (height_of : Tree → ℕ) (ts : List Token)
    (n : ℕ) : Type 0 where
  pub before : List Token
  pub left : List Token
  pub parts : ts ≡ before ++ left
  pub begins : BeginsLanguage Is before
  pub deeper : (rest : List Token) (t : Tree) → Is (before ++ rest) t → n < height_of t
