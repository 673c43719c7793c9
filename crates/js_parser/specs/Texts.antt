-- Texts that begin as a source does.
use Rattle.std.specs.Prelude.{◌≡◌, ℕ, List, [], ◌∷◌, ◌++◌, take, None}
use Rattle.js_parser_language.specs.Tokens.{Token}
use Rattle.js_parser_language.specs.Language.{InLanguage}
use Rattle.js_parser.specs.Sources.{tokens_of, bad_place}

-- where the last of these tokens ends; of none, this place
abbrev pub end_of_last : ℕ → List Token → ℕ
end_of_last at [] = at
end_of_last at (t ∷ ts) = end_of_last t.end ts

-- These first tokens of a source begin a text of the language: the source is cut where the last of them ends, and more
-- is written there. The text has them where they stand, no bad token, and it is in the language. The cut is there, and
-- not at the next token, since a line terminator before that one might be one too many: no text in the language begins
-- with throw and a line feed.
pub record BeginsText {Tree : Type 0} (Is : List Token → Tree → Type 0) (source : List ℕ) (before : List Token)
    : Type 0 where
  pub more : List ℕ
  pub rest : List Token
  pub tokens : tokens_of (take (end_of_last 0 before) source ++ more) ≡ before ++ rest
  pub all_good : bad_place (take (end_of_last 0 before) source ++ more) ≡ None
  pub language : InLanguage Is (tokens_of (take (end_of_last 0 before) source ++ more))
