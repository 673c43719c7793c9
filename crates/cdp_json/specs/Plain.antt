-- Texts that are written as they are: ASCII without controls, `"` and `\`.
use Rattle.std.specs.Prelude.{ℕ, List, Bool, nat_le, nat_lt, ◌&&◌, ◌==◌, not}
use Rattle.std.specs.List.{list_all}

-- a unit that stands for itself in a text in quotes
abbrev pub is_plain_unit : ℕ → Bool
is_plain_unit u = nat_le 32 u && nat_lt u 128 && not (u == 34) && not (u == 92)

-- each unit of a text stands for itself in JSON
abbrev pub is_plain : List ℕ → Bool
is_plain = list_all is_plain_unit
