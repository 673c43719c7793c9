-- The search among break locations.
use Rattle.std.specs.Prelude.{Bool, true, not, ◌&&◌, ◌||◌, List, [], ◌∷◌, Option, Some, None, nat_eq, nat_lt, if◌then◌else◌}
use Rattle.cdp_text.specs.declared.position.Pos.{Pos}
use Rattle.locations.specs.declared.spot.Spot.{Spot}

-- a position is on an earlier line than another, or before it on the same line
abbrev pub is_before : Pos → Pos → Bool
is_before p q = nat_lt p.line q.line || (nat_eq p.line q.line && nat_lt p.col q.col)

-- the first location that isn't before a position
abbrev pub first_from : Pos → List Spot → Option Spot
first_from p [] = None
first_from p (s ∷ ss) = if is_before s.pos p then first_from p ss else Some s

-- a position is before the end, where there is one
abbrev pub is_before_end : Option Pos → Pos → Bool
is_before_end None p = true
is_before_end (Some end) p = is_before p end

-- a location isn't before the start, and is before the end, where there is one
abbrev pub is_between : Pos → Option Pos → Spot → Bool
is_between start end s = not (is_before s.pos start) && is_before_end end s.pos
