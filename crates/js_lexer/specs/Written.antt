-- Tokens written one after another.
use Rattle.std.specs.Prelude.{ℕ, ◌+◌, Bool, true, false, List, [], ◌∷◌, ◌++◌, length, Result, Ok}
use Rattle.js_lexer.specs.declared.token.TokenKind.{TokenKind}
use Rattle.js_lexer.specs.Tokens.{Lent, IsToken}

-- a token that is to be written, on a new line or on the line of the one before it
pub record WrittenToken : Type 0 where
  pub kind : TokenKind
  pub text : List ℕ
  pub newline_before : Bool

-- each is a token of its kind where it stands alone
abbrev pub AreTokens : List WrittenToken → Type 0
AreTokens [] = Unit {0}
AreTokens (t ∷ ts) = IsToken t.kind t.text [] × AreTokens ts

-- a line feed, or a space
abbrev pub blank_before : Bool → ℕ
blank_before true = 10
blank_before false = 32

-- the text that they are written as
abbrev pub written : List WrittenToken → List ℕ
written [] = []
written (t ∷ ts) = blank_before t.newline_before ∷ (t.text ++ written ts)

-- what they are in a source, from this place on
abbrev pub lent : ℕ → List WrittenToken → List (Result Lent ℕ)
lent at [] = []
lent at (t ∷ ts) =
    Ok (record { kind = t.kind; text = t.text; start = at + 1; newline_before = t.newline_before }) ∷ lent
    (at + 1 + length t.text) ts

-- these tokens, and then these items
abbrev pub tokens_then : List Lent → List (Result Lent ℕ) → List (Result Lent ℕ)
tokens_then [] is = is
tokens_then (t ∷ ts) is = Ok t ∷ tokens_then ts is

-- where the last of these tokens ends; of none, this place
abbrev pub end_after : ℕ → List Lent → ℕ
end_after at [] = at
end_after at (t ∷ ts) = end_after (t.start + length t.text) ts
