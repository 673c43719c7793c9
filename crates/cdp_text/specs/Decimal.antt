-- Shortest decimal texts of numbers below 2^64.
use Rattle.std.specs.Prelude.{ℕ, ◌^◌, List, length, slice_index, Bool, ◌==◌, ◌&&◌, ◌||◌, not, nat_lt, Option, Some, None, if◌then◌else◌}
use Rattle.std.specs.Str.{all_ascii_digits}
use Rattle.std.specs.Str.Parse.{digits_value}

-- the number of these digits, if there are only digits and it is below 2^64
abbrev pub digits_number : List ℕ → Option ℕ
digits_number digits =
    if all_ascii_digits digits && nat_lt (digits_value 10 digits) (2 ^ 64) then Some (digits_value 10 digits) else None

-- there is one byte, or there are more and the first isn't `0`
abbrev pub begins_shortest : List ℕ → Bool
begins_shortest digits = length digits == 1 || (nat_lt 1 (length digits) && not (slice_index digits 0 == 48))

-- the number below 2^64 whose shortest decimal text this is
unfoldable pub decimal_value : List ℕ → Option ℕ
decimal_value digits = if begins_shortest digits then digits_number digits else None
