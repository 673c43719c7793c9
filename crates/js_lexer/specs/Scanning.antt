-- The gap and the token at the front, as functions.
use Rattle.std.specs.Prelude.{ℕ, zero, suc, ◌+◌, ◌^◌, Bool, ◌&&◌, not, List, [], ◌∷◌, length, take, drop, Option, Some, None, is_some, Result, Ok, Err, nat_lt, ◌==◌, if◌then◌else◌}
use lib.Chars.{codes}
use Rattle.js_lexer.specs.declared.token.TokenKind.{TokenKind}
use Rattle.js_lexer.specs.declared.token.TokenKind.TheVariants.{Number, String}
use Rattle.cdp_text.specs.Position.{is_line_terminator}
use Rattle.js_lexer.specs.Classes.{begins, is_blank, is_digit, is_quote, is_word_start, is_word_part, leading}
use Rattle.js_lexer.specs.Spellings.{is_prefix_of, kind_in, first_in}
use Rattle.js_lexer.specs.Gaps.{has_line_terminator, opens_comment}
use Rattle.js_lexer.specs.Words.{reserved_words}
use Rattle.js_lexer.specs.Punctuators.{punctuators}
use Rattle.js_lexer.specs.Numbers.{is_numeral, number_value, goes_on}
use Rattle.js_lexer.specs.Characters.{character_len}
use Rattle.js_lexer.specs.Tokens.{Lent}
use Rattle.js_lexer.specs.Pieces.{run}

-- how many units stand before the first line terminator
abbrev pub line_len : List ℕ → ℕ
line_len us = leading (λ c. not (is_line_terminator c)) us

-- how many units stand before the first */, or all where there is none
abbrev pub before_close : List ℕ → ℕ
before_close [] = 0
before_close (u ∷ us) = if is_prefix_of (codes "*/") (u ∷ us) then 0 else suc (before_close us)

-- how long a comment is whose /* stands before these units, 0 where it isn't closed
abbrev pub block_len : List ℕ → ℕ
block_len us = if nat_lt (before_close us) (length us) then before_close us + 4 else 0

-- how long the piece of a gap at the front is
abbrev pub gap_piece : List ℕ → ℕ
gap_piece us =
    if begins is_blank us then 1
    else (if is_prefix_of (codes "//") us then line_len us
    else (if is_prefix_of (codes "/*") us then block_len (drop 2 us)
    else 0))

-- how long the gap at the front is
unfoldable pub gap_len : List ℕ → ℕ
gap_len us = run gap_piece 0 us

-- the value of a text that is a number
abbrev pub number_of : List ℕ → Option ℕ
number_of text =
    if is_numeral text && nat_lt (number_value text) (2 ^ 53) then Some (number_value text) else None

-- a word of so many units
abbrev pub word_token : ℕ → List ℕ → Option (TokenKind × ℕ)
word_token n us = Some (kind_in reserved_words (take n us), n)

-- a number of so many units, where one stands here
abbrev pub number_token : ℕ → List ℕ → Option (TokenKind × ℕ)
number_token n us =
    if is_some (number_of (take n us)) && not (begins goes_on (drop n us)) then Some (Number, n) else None

-- the string at the front, with its length, where one stands here: behind its characters its quote stands
abbrev pub string_token : List ℕ → Option (TokenKind × ℕ)
string_token [] = None
string_token (quote ∷ us) =
    let n = run (character_len quote) 0 us in
    if begins (λ c. c == quote) (drop n us) then Some (String, n + 2) else None

-- the token at the front, with its length
unfoldable pub token_at : List ℕ → Option (TokenKind × ℕ)
token_at us =
    if begins is_word_start us then word_token (leading is_word_part us) us
    else (if begins is_digit us then number_token (leading is_word_part us) us
    else (if begins is_quote us then string_token us
    else (if opens_comment us then None
    else first_in punctuators us)))

-- the items, of which a token so found is the first, or the last that tells a bad token
abbrev pub item_by : (ℕ → List ℕ → List (Result Lent ℕ))
    → ℕ
    → Bool
    → List ℕ
    → Option (TokenKind × ℕ)
    → List (Result Lent ℕ)
item_by go at newline us (Some t) =
    Ok (record { kind = t.0; text = take t.1 us; start = at; newline_before = newline }) ∷ go (at + t.1) (drop t.1 us)
item_by go at newline [] None = []
item_by go at newline (u ∷ us) None = Err at ∷ []

-- the tokens of these units, which begin at this place, at most so many
unfoldable pub items : ℕ → ℕ → List ℕ → List (Result Lent ℕ)
items zero at us = []
items (suc n) at us =
    let gap = gap_len us in
    item_by (λ a r. items n a r) (at + gap) (has_line_terminator (take gap us)) (drop gap us) (token_at (drop gap us))
