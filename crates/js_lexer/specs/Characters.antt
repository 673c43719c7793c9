-- The characters of a string literal, found one after another.
use Rattle.std.specs.Prelude.{ℕ, zero, suc, ◌+◌, ◌-◌, ◌≤◌, ◌&&◌, not, List, [], ◌∷◌, ◌++◌, length, take, drop, Option, Some, None, nat_le, ◌==◌, if◌then◌else◌}
use Rattle.std.specs.List.{list_all}
use Rattle.std.specs.Option.{ForSome}
use Rattle.js_lexer.specs.declared.strings.Character.{Character}
use Rattle.cdp_text.specs.Position.{is_line_terminator}
use Rattle.js_lexer.specs.Classes.{begins, is_digit, leading}
use Rattle.js_lexer.specs.Numbers.{digits_value}
use Rattle.js_lexer.specs.Strings.{is_plain, is_hex, single_value, units_of}

-- a character of so many units that stands for this
abbrev pub found : ℕ → Option ℕ → Option Character
found n value = Some (record { len = n; value = value })

-- what follows \x
abbrev pub hex_at : List ℕ → Option Character
hex_at us =
    let digits = take 2 us in
    if (length digits == 2) && list_all is_hex digits then found 4 (Some (digits_value 16 0 digits)) else None

-- what follows \u without a brace
abbrev pub unit_at : List ℕ → Option Character
unit_at us =
    let digits = take 4 us in
    if (length digits == 4) && list_all is_hex digits then found 6 (Some (digits_value 16 0 digits)) else None

-- what follows \u{
abbrev pub code_point_at : List ℕ → Option Character
code_point_at us =
    let n = leading is_hex us in
    let value = digits_value 16 0 (take n us) in
    if not (n == 0) && begins (λ c. c == 125) (drop n us) && nat_le value 0x10FFFF then found (n + 4) (Some value)
    else None

-- what follows \u
abbrev pub unicode_at : List ℕ → Option Character
unicode_at us = if begins (λ c. c == 123) us then code_point_at (drop 1 us) else unit_at us

-- what follows a \
abbrev pub escape_at : List ℕ → Option Character
escape_at [] = None
escape_at (c ∷ us) =
    if c == 48 then (if begins is_digit us then None else found 2 (Some 0))
    else (if is_digit c then None
    else (if c == 120 then hex_at us
    else (if c == 117 then unicode_at us
    else (if (c == 13) && begins (λ d. d == 10) us then found 3 None
    else (if is_line_terminator c then found 2 None
    else found 2 (Some (single_value c)))))))

-- the character at the front of a string literal's rest
abbrev pub character_at : ℕ → List ℕ → Option Character
character_at quote [] = None
character_at quote (c ∷ us) =
    if c == 92 then escape_at us else (if is_plain quote c then found 1 (Some c) else None)

-- a character of one unit at least and at most so many, which stands for a code point or nothing
abbrev pub Fits : ℕ → Character → Type 0
Fits limit c = (1 ≤ c.len) × (c.len ≤ limit) × ForSome c.value (λ v. v ≤ 0x10FFFF)

-- how long a character is; 0 where there is none
abbrev pub found_len : Option Character → ℕ
found_len None = 0
found_len (Some c) = c.len

-- how long that character is
abbrev pub character_len : ℕ → List ℕ → ℕ
character_len quote us = found_len (character_at quote us)

-- go on behind a character
abbrev pub decoded_by : (ℕ → List ℕ) → Option Character → List ℕ
decoded_by go None = []
decoded_by go (Some c) = units_of c.value ++ go c.len

-- the units that the characters at the front stand for, where so many units of the first are still to be passed
abbrev pub decoded : ℕ → ℕ → List ℕ → List ℕ
decoded quote k [] = []
decoded quote zero (u ∷ us) = decoded_by (λ n. decoded quote (n - 1) us) (character_at quote (u ∷ us))
decoded quote (suc k) (u ∷ us) = decoded quote k us

-- the units that a string literal stands for
abbrev pub string_value : List ℕ → List ℕ
string_value [] = []
string_value (quote ∷ us) = decoded quote 0 us
