-- Tokens with one spelling each, as tables.
use Rattle.std.specs.Prelude.{ℕ, Bool, true, false, ◌&&◌, List, [], ◌∷◌, map, length, Option, Some, None, ◌==◌, if◌then◌else◌}
use Rattle.std.specs.Borrow.{Bor}
use Rattle.js_lexer.specs.declared.token.TokenKind.{TokenKind}
use Rattle.js_lexer.specs.declared.token.TokenKind.TheVariants.{Name}

-- the text stands at the front of the units
abbrev pub is_prefix_of : List ℕ → List ℕ → Bool
is_prefix_of [] us = true
is_prefix_of (c ∷ cs) [] = false
is_prefix_of (c ∷ cs) (u ∷ us) = (u == c) && is_prefix_of cs us

-- the text is the units
abbrev pub is_same : List ℕ → List ℕ → Bool
is_same text us = (length us == length text) && is_prefix_of text us

-- the kind that a table gives a word, or `Name`
abbrev pub kind_in : List (TokenKind × List ℕ) → List ℕ → TokenKind
kind_in [] us = Name
kind_in (e ∷ es) us = if is_same e.1 us then e.0 else kind_in es us

-- the first entry whose text stands at the front, with its length
abbrev pub first_in : List (TokenKind × List ℕ) → List ℕ → Option (TokenKind × ℕ)
first_in [] us = None
first_in (e ∷ es) us = if is_prefix_of e.1 us then Some (e.0, length e.1) else first_in es us

-- a table of the code
abbrev pub entries : List (TokenKind × Bor (List ℕ)) → List (TokenKind × List ℕ)
entries es = map (λ e. (e.0, e.1.now)) es
