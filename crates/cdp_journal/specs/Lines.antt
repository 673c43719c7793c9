-- The lines of a journal.
use Rattle.std.specs.Prelude.{◌≡◌, ◌<◌, ◌≤◌, ◌^◌, ℕ, List, ◌∷◌, ◌++◌, length, Bool, true, ◌&&◌, nat_lt, nat_le, bytes_eq, if◌then◌else◌, codes, decimal, Option, Some, None}
use Rattle.std.specs.Option.{option_and_then, option_map}
use Rattle.std.specs.Str.{is_utf8}
use Rattle.cdp_text.specs.Decimal.{decimal_value}
use Rattle.cdp_text.specs.Parts.{behind, Halves, halves}
use Rattle.cdp_journal.specs.Escapes.{escaped, unescaped}
use Rattle.cdp_journal.specs.declared.line.TheConstants.{MOST_TOLD}

-- what a line asks for
pub data Line : Type 0 where
  -- attach a session
  Attach : Line
  -- tell the session of this number this text
  Tell : ℕ → List ℕ → Line
  -- hand out the texts of the session of this number
  Take : ℕ → Line
  -- detach the session of this number
  Detach : ℕ → Line
  -- make at most so many steps, at this moment in milliseconds since the epoch
  Run : ℕ → ℕ → Line
  -- make no further step
  Shut : Line

-- the text of a line
abbrev pub line_text : Line → List ℕ
line_text Attach = codes "attach"
line_text (Tell s text) = codes "tell " ++ (decimal s ++ 32 ∷ escaped text)
line_text (Take s) = codes "take " ++ decimal s
line_text (Detach s) = codes "detach " ++ decimal s
line_text (Run most moment) = codes "run " ++ (decimal most ++ 32 ∷ decimal moment)
line_text Shut = codes "shut"

-- the greatest number of bytes of a text that is told
abbrev pub most_told : ℕ
most_told = MOST_TOLD

-- the numbers of a line are in range, and the text that is told isn't too long
abbrev pub IsInForm : Line → Type 0
IsInForm Attach = Unit {0}
IsInForm (Tell s text) = (s < 2 ^ 64) × (length text ≤ most_told)
IsInForm (Take s) = s < 2 ^ 64
IsInForm (Detach s) = s < 2 ^ 64
IsInForm (Run most moment) = (most < 2 ^ 32) × (moment < 2 ^ 53)
IsInForm Shut = Unit {0}

-- the same, and the text that is told is UTF-8: a journal can tell the line
unfoldable pub is_tellable : Line → Bool
is_tellable Attach = true
is_tellable (Tell s text) = nat_lt s (2 ^ 64) && (nat_le (length text) most_told && is_utf8 text)
is_tellable (Take s) = nat_lt s (2 ^ 64)
is_tellable (Detach s) = nat_lt s (2 ^ 64)
is_tellable (Run most moment) = nat_lt most (2 ^ 32) && nat_lt moment (2 ^ 53)
is_tellable Shut = true

-- the text, which is UTF-8, is that of this line
pub record IsLine (text : List ℕ) (line : Line) : Type 0 where
  pub utf8 : is_utf8 text ≡ true
  pub in_form : IsInForm line
  pub is : text ≡ line_text line

-- a text for this session, where it isn't too long
abbrev pub tell_text : ℕ → List ℕ → Option Line
tell_text s text = if nat_le (length text) most_told then Some (Tell s text) else None

-- a session's number before a space, and behind it a text as it is written
abbrev pub tell_at : List ℕ → ℕ → Option Line
tell_at written s = option_and_then (tell_text s) (unescaped written)

-- a `tell` whose two halves are a session and a text
abbrev pub tell_in : Halves → Option Line
tell_in parts = option_and_then (tell_at parts.back) (decimal_value parts.front)

-- the number of steps and the moment, where they are in range
abbrev pub run_at : ℕ → ℕ → Option Line
run_at most moment = if nat_lt most (2 ^ 32) && nat_lt moment (2 ^ 53) then Some (Run most moment) else None

-- a number of steps before a space, and a moment behind it
abbrev pub run_in : Halves → Option Line
run_in parts =
    option_and_then (λ most. option_and_then (run_at most) (decimal_value parts.back)) (decimal_value parts.front)

-- the line whose text goes on so behind its first word
abbrev pub tell_rest : List ℕ → Option Line
tell_rest rest = option_and_then tell_in (halves 32 rest)

-- a `take`, by what stands behind the word
abbrev pub take_rest : List ℕ → Option Line
take_rest rest = option_map (λ s. Take s) (decimal_value rest)

-- a `detach`, by what stands behind the word
abbrev pub detach_rest : List ℕ → Option Line
detach_rest rest = option_map (λ s. Detach s) (decimal_value rest)

-- a `run`, by what stands behind the word
abbrev pub run_rest : List ℕ → Option Line
run_rest rest = option_and_then run_in (halves 32 rest)

-- what a function makes of this, if it is there, and else this
abbrev pub or_else : Option (List ℕ) → (List ℕ → Option Line) → Option Line → Option Line
or_else None f other = other
or_else (Some rest) f other = f rest

-- the line whose text is a word and what stands behind it
abbrev pub line_of_words : List ℕ → Option Line
line_of_words text =
    or_else (behind (codes "tell ") text) tell_rest
    (or_else (behind (codes "take ") text) take_rest
    (or_else (behind (codes "detach ") text) detach_rest (or_else (behind (codes "run ") text) run_rest None)))

-- the line whose text this is
abbrev pub line_of_text : List ℕ → Option Line
line_of_text text =
    if bytes_eq text (codes "attach") then Some Attach else if bytes_eq text (codes "shut")
    then Some Shut else line_of_words text

-- the line whose text these bytes are
abbrev pub line_of : List ℕ → Option Line
line_of bytes = if is_utf8 bytes then line_of_text bytes else None

-- ---- the line that ends a journal

-- the text of the line that ends a journal which tells no more: it asks for nothing, and no line stands behind it
abbrev pub memory_text : List ℕ
memory_text = codes "memory"

-- a text is that line's
unfoldable pub is_memory : List ℕ → Bool
is_memory text = bytes_eq text memory_text
