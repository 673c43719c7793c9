-- Gaps: white space, line terminators and comments.
use Rattle.std.specs.Prelude.{◌≡◌, ℕ, Bool, true, false, ◌||◌, List, [], ◌∷◌, ◌++◌}
use Rattle.std.specs.List.{list_any}
use lib.Chars.{codes}
use Rattle.cdp_text.specs.Position.{is_line_terminator}
use Rattle.js_lexer.specs.Classes.{is_blank}
use Rattle.js_lexer.specs.Spellings.{is_prefix_of}
use Rattle.js_lexer.specs.Pieces.{AreMadeOf}

-- a line terminator or the end comes next
abbrev pub ends_line : List ℕ → Bool
ends_line [] = true
ends_line (c ∷ cs) = is_line_terminator c

-- SingleLineComment (ECMA-262, 12.4): from // up to a line terminator or the end
pub record IsLineComment (text more : List ℕ) : Type 0 where
  pub body : List ℕ
  pub spelled : text ≡ codes "//" ++ body
  pub one_line : list_any is_line_terminator body ≡ false
  pub ended : ends_line more ≡ true

-- MultiLineComment (12.4): from /* to the next */
pub record IsBlockComment (text : List ℕ) : Type 0 where
  pub body : List ℕ
  pub spelled : text ≡ codes "/*" ++ (body ++ codes "*/")
  pub next : (before after : List ℕ) → body ≡ before ++ (codes "*/" ++ after) → ⊥

-- // or /* stands here
abbrev pub opens_comment : List ℕ → Bool
opens_comment us = is_prefix_of (codes "//") us || is_prefix_of (codes "/*") us

-- one unit of white space, one line terminator, or a comment
pub data IsGapPiece (text more : List ℕ) : Type 0 where
  blank : (c : ℕ) → text ≡ c ∷ [] → is_blank c ≡ true → IsGapPiece text more
  line_comment : IsLineComment text more → IsGapPiece text more
  block_comment : IsBlockComment text → IsGapPiece text more

-- white space, line terminators and comments, where `more` comes after them
abbrev pub IsGap : List ℕ → List ℕ → Type 0
IsGap gap more = AreMadeOf (λ text after. IsGapPiece text after) gap more

-- it holds a line terminator, also within a comment
abbrev pub has_line_terminator : List ℕ → Bool
has_line_terminator us = list_any is_line_terminator us
