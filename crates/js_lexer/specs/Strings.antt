-- String literals, and what they stand for.
use Rattle.std.specs.Prelude.{◌≡◌, ℕ, ◌+◌, ◌-◌, ◌/◌, ◌%◌, ◌≤◌, Bool, true, false, ◌&&◌, ◌||◌, not, List, [], ◌∷◌, ◌++◌, map, Option, Some, None, nat_le, nat_lt, ◌==◌, if◌then◌else◌}
use Rattle.std.specs.List.{list_all, concat}
use lib.Chars.{codes}
use Rattle.cdp_text.specs.Position.{is_line_terminator}
use Rattle.js_lexer.specs.Classes.{begins, is_digit, is_quote}
use Rattle.js_lexer.specs.Numbers.{digit_value, are_digits, digits_value}

-- what may stand raw in a string literal in this quote (ECMA-262, 12.9.4): neither the quote, \, LF nor CR
abbrev pub is_plain : ℕ → ℕ → Bool
is_plain quote c = not ((c == quote) || (c == 92) || (c == 10) || (c == 13))

-- HexDigit
abbrev pub is_hex : ℕ → Bool
is_hex c = nat_lt (digit_value c) 16

-- what stands alone behind a \ (12.9.4, CharacterEscapeSequence): no digit, x, u or line terminator
abbrev pub is_single : ℕ → Bool
is_single c = not (is_digit c || (c == 120) || (c == 117) || is_line_terminator c)

-- what \ and such a unit stand for (12.9.4, table 39): b t n v f r a control character, any other itself
abbrev pub single_value : ℕ → ℕ
single_value c =
    if c == 98 then 8
    else (if c == 116 then 9
    else (if c == 110 then 10
    else (if c == 118 then 11
    else (if c == 102 then 12
    else (if c == 114 then 13
    else c)))))

-- a character of a string literal in this quote (12.9.4, DoubleStringCharacter and SingleStringCharacter): its text,
-- the code point that it stands for, if any, and what comes after it
pub data IsCharacter (quote : ℕ) (text : List ℕ) (value : Option ℕ) (next : List ℕ) : Type 0 where
  -- a unit that stands for itself, also U+2028 and U+2029
  plain : (c : ℕ) → text ≡ c ∷ [] → value ≡ Some c → is_plain quote c ≡ true → IsCharacter quote text value next
  -- LineContinuation: \ and a line terminator, of which a CR isn't before an LF
  continuation : (c : ℕ)
      → text ≡ 92 ∷ c ∷ []
      → value ≡ None
      → is_line_terminator c ≡ true
      → ((c == 13) && begins (λ d. d == 10) next) ≡ false
      → IsCharacter quote text value next
  -- LineContinuation: \ and CR LF
  both : text ≡ 92 ∷ 13 ∷ 10 ∷ [] → value ≡ None → IsCharacter quote text value next
  -- CharacterEscapeSequence
  single : (c : ℕ)
      → text ≡ 92 ∷ c ∷ []
      → value ≡ Some (single_value c)
      → is_single c ≡ true
      → IsCharacter quote text value next
  -- \0, not before a digit
  nul : text ≡ codes "\\0" → value ≡ Some 0 → begins is_digit next ≡ false → IsCharacter quote text value next
  -- HexEscapeSequence: \xHH
  hex : (a b : ℕ)
      → text ≡ codes "\\x" ++ (a ∷ b ∷ [])
      → value ≡ Some (digits_value 16 0 (a ∷ b ∷ []))
      → list_all is_hex (a ∷ b ∷ []) ≡ true
      → IsCharacter quote text value next
  -- UnicodeEscapeSequence: \uHHHH
  unit : (a b c d : ℕ)
      → text ≡ codes "\\u" ++ (a ∷ b ∷ c ∷ d ∷ [])
      → value ≡ Some (digits_value 16 0 (a ∷ b ∷ c ∷ d ∷ []))
      → list_all is_hex (a ∷ b ∷ c ∷ d ∷ []) ≡ true
      → IsCharacter quote text value next
  -- UnicodeEscapeSequence: \u{H...}, of a code point up to U+10FFFF
  code_point : (digits : List ℕ)
      → text ≡ codes "\\u{" ++ (digits ++ codes "}")
      → value ≡ Some (digits_value 16 0 digits)
      → are_digits 16 digits ≡ true
      → digits_value 16 0 digits ≤ 0x10FFFF
      → IsCharacter quote text value next

-- a character, with its text and what it stands for
pub record Spelled : Type 0 where
  pub text : List ℕ
  pub value : Option ℕ

-- the characters' texts in order
abbrev pub spelling : List Spelled → List ℕ
spelling cs = concat (map (λ c. c.text) cs)

-- these are characters of a string literal, where `more` comes after them
abbrev pub AreCharacters : ℕ → List Spelled → List ℕ → Type 0
AreCharacters quote [] more = Unit {0}
AreCharacters quote (c ∷ cs) more =
    IsCharacter quote c.text c.value (spelling cs ++ more) × AreCharacters quote cs more

-- UTF16EncodeCodePoint (11.1.1)
abbrev pub code_units : ℕ → List ℕ
code_units c =
    if nat_le c 0xFFFF then c ∷ []
    else (0xD800 + (c - 0x10000) / 0x400) ∷ (0xDC00 + (c - 0x10000) % 0x400) ∷ []

-- the units that a character stands for
abbrev pub units_of : Option ℕ → List ℕ
units_of None = []
units_of (Some c) = code_units c

-- StringLiteral (12.9.4), and the units that it stands for (SV)
pub record IsString (text value : List ℕ) : Type 0 where
  pub quote : ℕ
  pub characters : List Spelled
  pub quoted : is_quote quote ≡ true
  pub spelled : text ≡ quote ∷ (spelling characters ++ quote ∷ [])
  pub each : AreCharacters quote characters (quote ∷ [])
  pub stands_for : value ≡ concat (map (λ c. units_of c.value) characters)

-- a text that is a string literal
abbrev pub IsStringLiteral : List ℕ → Type 0
IsStringLiteral text = (value : List ℕ) × IsString text value
