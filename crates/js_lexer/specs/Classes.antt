-- Classes of code units.
use Rattle.std.specs.Prelude.{ℕ, suc, Bool, false, ◌&&◌, ◌||◌, List, [], ◌∷◌, nat_le, ◌==◌, if◌then◌else◌}
use Rattle.cdp_text.specs.Position.{is_line_terminator}

-- white space (ECMA-262, 12.2): tab, line tabulation, form feed, U+FEFF, and the space separators
abbrev pub is_white_space : ℕ → Bool
is_white_space c =
    (c == 0x9) || (c == 0xB) || (c == 0xC) || (c == 0x20) || (c == 0xA0) || (c == 0x1680)
    || (nat_le 0x2000 c && nat_le c 0x200A)
    || (c == 0x202F) || (c == 0x205F) || (c == 0x3000) || (c == 0xFEFF)

-- white space or a line terminator
abbrev pub is_blank : ℕ → Bool
is_blank c = is_white_space c || is_line_terminator c

-- 0 to 9
abbrev pub is_digit : ℕ → Bool
is_digit c = nat_le 48 c && nat_le c 57

-- what begins a word (12.7, IdentifierStartChar, of ASCII): a letter, $ or _
abbrev pub is_word_start : ℕ → Bool
is_word_start c =
    (nat_le 65 c && nat_le c 90) || (nat_le 97 c && nat_le c 122) || (c == 36) || (c == 95)

-- what a word goes on with (12.7, IdentifierPartChar, of ASCII): a letter, $, _ or a digit
abbrev pub is_word_part : ℕ → Bool
is_word_part c = is_word_start c || is_digit c

-- " or '
abbrev pub is_quote : ℕ → Bool
is_quote c = (c == 34) || (c == 39)

-- there is a first unit, and it passes
abbrev pub begins : (ℕ → Bool) → List ℕ → Bool
begins p [] = false
begins p (c ∷ cs) = p c

-- how many units at the front pass
abbrev pub leading : (ℕ → Bool) → List ℕ → ℕ
leading p [] = 0
leading p (u ∷ us) = if p u then suc (leading p us) else 0
