-- Which kind of token comes next, by a test that computes.
use Rattle.std.specs.Prelude.{Bool, false, Option, Some, None}
use denote.Enum.Bare.{sameb}
use Rattle.js_lexer.specs.declared.token.TokenKind.{TokenKind}
use Rattle.js_lexer.specs.contracts.token.TokenKind.{the_type}
use Rattle.js_parser_language.specs.Tokens.{Token}

-- the kinds are the same, as == answers
abbrev pub is_same_kind : TokenKind → TokenKind → Bool
is_same_kind j k = sameb the_type j k

-- the next token is of this kind
abbrev pub is_kind : TokenKind → Option Token → Bool
is_kind k None = false
is_kind k (Some t) = is_same_kind t.kind k
