-- How the grammar sees the lexer's tokens.
use Rattle.std.specs.Prelude.{ℕ, ◌+◌, List, length, map}
use Rattle.js_lexer.specs.declared.token.Token as lexer
use Rattle.js_lexer.specs.declared.token.TokenKind.{TokenKind}
use Rattle.js_lexer.specs.declared.token.TokenKind.TheVariants as kinds
use Rattle.js_lexer.specs.Characters.{string_value}
use Rattle.js_lexer.specs.Numbers.{number_value}
use Rattle.js_parser_language.specs.Tokens.{Token}

-- what a string literal stands for (ECMA-262, 12.9.4.2); of any other token its text
abbrev pub string_value_of : TokenKind → List ℕ → List ℕ
string_value_of kinds.String text = string_value text
string_value_of _ text = text

-- the value of a number (12.9.3.3), and 0 of any other token
abbrev pub numeric_value_of : TokenKind → List ℕ → ℕ
numeric_value_of kinds.Number text = number_value text
numeric_value_of _ text = 0

-- a token as the grammar sees it
abbrev pub token_view : lexer.Token → Token
token_view t = record {
  kind = t.kind;
  string_value = string_value_of t.kind t.text.now;
  numeric_value = numeric_value_of t.kind t.text.now;
  newline_before = t.newline_before;
  start = t.start;
  end = t.start + length t.text.now;
}

-- tokens as the grammar sees them
abbrev pub tokens_view : List lexer.Token → List Token
tokens_view ts = map token_view ts
