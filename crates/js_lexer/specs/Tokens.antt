-- What tokens are, and when tokens and gaps tile a source.
use Rattle.std.specs.Prelude.{◌≡◌, ℕ, ◌+◌, ◌<◌, ◌≤◌, ◌⊎◌, Bool, true, false, List, [], ◌∷◌, ◌++◌, length, Result, Ok, Err}
use Rattle.js_lexer.specs.declared.token.TokenKind.{TokenKind}
use Rattle.js_lexer.specs.declared.token.TokenKind.TheVariants.{Name, Number, String}
use Rattle.js_lexer.specs.Classes.{begins}
use Rattle.js_lexer.specs.Gaps.{IsGap, IsGapPiece, has_line_terminator, opens_comment}
use Rattle.js_lexer.specs.Words.{is_word, reserved_words}
use Rattle.js_lexer.specs.Punctuators.{punctuators}
use Rattle.js_lexer.specs.Numbers.{IsNumber, goes_on}
use Rattle.js_lexer.specs.Strings.{IsStringLiteral}

-- the table has this entry
abbrev pub IsListed : (TokenKind × List ℕ) → List (TokenKind × List ℕ) → Type 0
IsListed e [] = ⊥
IsListed e (x ∷ xs) = (e ≡ x) ⊎ IsListed e xs

-- a token of this kind, where `more` comes after it (ECMA-262, 12.6, CommonToken)
pub data IsToken (kind : TokenKind) (text more : List ℕ) : Type 0 where
  name : kind ≡ Name
      → is_word text ≡ true
      → ((k : TokenKind) → IsListed (k, text) reserved_words → ⊥)
      → IsToken kind text more
  reserved : IsListed (kind, text) reserved_words → IsToken kind text more
  number : kind ≡ Number → IsNumber text → begins goes_on more ≡ false → IsToken kind text more
  string : kind ≡ String → IsStringLiteral text → IsToken kind text more
  punctuator : IsListed (kind, text) punctuators → IsToken kind text more

-- a token begins where these units stand: no // or /* stands there
pub record BeginsAs (kind : TokenKind) (text more : List ℕ) : Type 0 where
  pub token : IsToken kind text more
  pub no_comment : opens_comment (text ++ more) ≡ false

-- a token begins here, and no token that begins here is longer
pub record IsLongest (kind : TokenKind) (text more : List ℕ) : Type 0 where
  pub here : BeginsAs kind text more
  pub longest : (k : TokenKind) (t m : List ℕ) → text ++ more ≡ t ++ m → BeginsAs k t m → length t ≤ length text

-- neither the end, white space, a line terminator, a comment nor a token begins here
pub record IsBad (us : List ℕ) : Type 0 where
  pub some : 0 < length us
  pub no_gap : (text more : List ℕ) → us ≡ text ++ more → IsGapPiece text more → ⊥
  pub no_token : (k : TokenKind) (text more : List ℕ) → us ≡ text ++ more → BeginsAs k text more → ⊥

-- a token as clauses see it
pub record Lent : Type 0 where
  pub kind : TokenKind
  pub text : List ℕ
  pub start : ℕ
  pub newline_before : Bool

-- a token that stands behind a gap, where `more` comes after it; the gap begins at this place
pub record StandsAt (at : ℕ) (gap : List ℕ) (token : Lent) (more : List ℕ) : Type 0 where
  pub gap_before : IsGap gap (token.text ++ more)
  pub start : token.start ≡ at + length gap
  pub newline_before : token.newline_before ≡ has_line_terminator gap
  pub longest : IsLongest token.kind token.text more

-- these tokens, or at last the place of a bad one, tile the units with the gaps between them; the units begin at this
-- place of the source
abbrev pub Tile : ℕ → List ℕ → List (Result Lent ℕ) → Type 0
Tile at us [] = IsGap us []
Tile at us (Ok t ∷ ts) =
    (gap more : List ℕ) × (us ≡ gap ++ (t.text ++ more)) × StandsAt at gap t more
    × Tile (at + length gap + length t.text) more ts
Tile at us (Err bad ∷ ts) =
    (gap more : List ℕ) × (us ≡ gap ++ more) × IsGap gap more × (bad ≡ at + length gap) × IsBad more × (ts ≡ [])
