-- The tokens that an iterator has left.
use Rattle.std.specs.Prelude.{ℕ, suc, List, [], length, Result, Ok, Err, if◌then◌else◌}
use Rattle.js_lexer.specs.declared.token.Token.{Token}
use Rattle.js_lexer.specs.declared.token.BadToken.{BadToken}
use Rattle.js_lexer.specs.declared.tokens.Tokens.{Tokens}
use Rattle.js_lexer.specs.Tokens.{Lent}
use Rattle.js_lexer.specs.Scanning.{items}

-- a token, with its text as a list, or the place of a bad one
abbrev pub item_view : Result Token BadToken → Result Lent ℕ
item_view (Ok t) = Ok (record { kind = t.kind; text = t.text.now; start = t.start; newline_before = t.newline_before })
item_view (Err b) = Err b.at

-- what an iterator has left
abbrev pub tokens_left : Tokens → List (Result Lent ℕ)
tokens_left s = if s.done then [] else items (suc (length s.left.now)) s.at s.left.now

-- the tokens of a source, or at last the place of a bad one
abbrev pub items_of : List ℕ → List (Result Lent ℕ)
items_of source = items (suc (length source)) 0 source
