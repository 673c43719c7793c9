-- The test of a token's kind, both ways.
use Rattle.std.proofs.Common.{◌≡◌, true, false, Option, Some, None, refl}
use denote.Enum.Bare.{same_true, true_same}
use Rattle.js_lexer.specs.declared.token.TokenKind.{TokenKind}
use Rattle.js_lexer.specs.contracts.token.TokenKind.{the_type}
use Rattle.js_parser_language.specs.Tokens.{Token, fixed, IsNext}
use Rattle.js_parser_language.specs.Kinds.{is_same_kind, is_kind}

pub same_kind : (j k : TokenKind) → is_same_kind j k ≡ true → j ≡ k
same_kind j k e = same_true the_type tt j k e

pub kind_is : (k : TokenKind) (t : Token) → is_kind k (Some t) ≡ true → t.kind ≡ k
kind_is k t e = same_kind t.kind k e

pub kind_again : (k : TokenKind) (t : Token) → t.kind ≡ k → is_kind k (Some t) ≡ true
kind_again k t e = true_same the_type t.kind k e

-- a token of one kind is of no other
pub kind_not : (k j : TokenKind) (next : Option Token)
    → is_kind k next ≡ true
    → is_same_kind k j ≡ false
    → is_kind j next ≡ false
kind_not k j None e apart = refl
kind_not k j (Some t) e apart = rw (kind_is k t e) apart

pub next_is : (k : TokenKind) (next : Option Token) → is_kind k next ≡ true → IsNext (fixed k) next
next_is k None e = cc
next_is k (Some t) e = kind_is k t e

pub next_again : (k : TokenKind) (next : Option Token) → IsNext (fixed k) next → is_kind k next ≡ true
next_again k None e = absurd e
next_again k (Some t) e = kind_again k t e
