-- Numeric literals.
use Rattle.std.specs.Prelude.{◌≡◌, ℕ, ◌+◌, ◌-◌, ◌*◌, ◌^◌, ◌<◌, Bool, true, false, ◌&&◌, ◌||◌, not, List, [], ◌∷◌, length, nat_le, nat_lt, ◌==◌, if◌then◌else◌}
use Rattle.std.specs.List.{list_all}
use Rattle.js_lexer.specs.Classes.{is_digit, is_word_part}

-- what a digit is worth: 0 to 9, then a to f or A to F for 10 to 15; 16 for any other unit
abbrev pub digit_value : ℕ → ℕ
digit_value c =
    if is_digit c then c - 48
    else (if nat_le 97 c && nat_le c 102 then c - 87
    else (if nat_le 65 c && nat_le c 70 then c - 55
    else 16))

-- some digits of this base
abbrev pub are_digits : ℕ → List ℕ → Bool
are_digits base ds = list_all (λ c. nat_lt (digit_value c) base) ds && not (length ds == 0)

-- DecimalLiteral (ECMA-262, 12.9.3), of integers: 0, or a digit 1 to 9 and further digits
abbrev pub is_decimal : List ℕ → Bool
is_decimal [] = false
is_decimal (d ∷ ds) = are_digits 10 (d ∷ ds) && (not (d == 48) || (length ds == 0))

-- the base that the letter after a 0 names (12.9.3, HexIntegerLiteral, OctalIntegerLiteral, BinaryIntegerLiteral): x or
-- X, o or O, b or B; 10 for any other unit
abbrev pub base_of : ℕ → ℕ
base_of c =
    if (c == 120) || (c == 88) then 16
    else (if (c == 111) || (c == 79) then 8
    else (if (c == 98) || (c == 66) then 2
    else 10))

-- the base of a literal, and its digits
abbrev pub base_and_digits : List ℕ → ℕ × List ℕ
base_and_digits [] = (10, [])
base_and_digits (z ∷ []) = (10, z ∷ [])
base_and_digits (z ∷ c ∷ ds) =
    if (z == 48) && not (base_of c == 10) then (base_of c, ds) else (10, z ∷ c ∷ ds)

-- NumericLiteral (12.9.3), of integers without separators
abbrev pub is_numeral : List ℕ → Bool
is_numeral text =
    let parts = base_and_digits text in
    if parts.0 == 10 then is_decimal parts.1 else are_digits parts.0 parts.1

-- what digits are worth, the first the highest (12.9.3.2)
abbrev pub digits_value : ℕ → ℕ → List ℕ → ℕ
digits_value base value [] = value
digits_value base value (d ∷ ds) = digits_value base (value * base + digit_value d) ds

-- MV of a numeric literal (12.9.3.2)
abbrev pub number_value : List ℕ → ℕ
number_value text = let parts = base_and_digits text in digits_value parts.0 0 parts.1

-- a number: a numeric literal that is at most 2^53 - 1
pub record IsNumber (text : List ℕ) : Type 0 where
  pub numeral : is_numeral text ≡ true
  pub safe : number_value text < 2 ^ 53

-- what may not follow a number at once (12.9.3: no IdentifierStart or digit), nor may a .
abbrev pub goes_on : ℕ → Bool
goes_on c = is_word_part c || (c == 46)
