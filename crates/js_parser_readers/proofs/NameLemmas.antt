-- The text of a name.
use Rattle.std.proofs.Common.{◌≡◌, ℕ, ◌≤◌, true, ◌&&◌, List, [], ◌∷◌, length, get_or, refl, nat_eq, arith}
use Rattle.std.specs.Cmp.Lexicographic.{pointwise}
use Rattle.js_lexer.specs.declared.token.Token.{Token}
use Rattle.js_lexer.specs.declared.token.TokenKind.{TokenKind}
use Rattle.js_lexer.specs.declared.token.TokenKind.TheVariants as kinds
use Rattle.js_parser_language.specs.Tokens.{head_of}
use Rattle.js_parser_language.specs.Kinds.{is_same_kind}
use Rattle.js_parser_readers.specs.Classes.{is_name}
use Rattle.js_parser_readers.specs.Views.{string_value_of, tokens_view}
use Rattle.js_parser_language.proofs.KindLemmas.{same_kind}

name_alone : (k : TokenKind) (text n : List ℕ)
    → k ≡ kinds.Name
    → (is_same_kind k kinds.Name && pointwise nat_eq (string_value_of k text) n) ≡ pointwise nat_eq text n
name_alone k text n e = rw e refl

-- a first token that is a name is this one if its text is
pub first_name : (n : List ℕ) (ts : List Token) (t : Token)
    → 1 ≤ length ts
    → t ≡ get_or ts 0 t
    → is_same_kind t.kind kinds.Name ≡ true
    → pointwise nat_eq t.text.now n ≡ is_name n (head_of (tokens_view ts))
first_name n [] t some is named = absurd (omega arith)
first_name n (u ∷ us) t some is named =
    let e : t ≡ u = is in
    let here : is_same_kind u.kind kinds.Name ≡ true = rw e at named in
    rw (e, name_alone u.kind u.text.now n (same_kind u.kind kinds.Name here)) refl
