-- Which breakpoints stand at a place.
use Rattle.std.specs.Prelude.{Bool, ◌&&◌, List, filter, nat_eq}
use Rattle.std.specs.List.{list_any}
use Rattle.cdp_text.specs.declared.position.Place.{Place}
use Rattle.breakpoints.specs.declared.breakpoint.Breakpoint.{Breakpoint}

-- two places are the same: one script, line and column
abbrev pub same_place : Place → Place → Bool
same_place p q = nat_eq p.script q.script && nat_eq p.pos.line q.pos.line && nat_eq p.pos.col q.pos.col

-- a place is among these
abbrev pub has_place : Place → List Place → Bool
has_place place places = list_any (λ p. same_place p place) places

-- a breakpoint resolved to a place
abbrev pub stands_at : Place → Breakpoint → Bool
stands_at place b = has_place place b.places

-- the breakpoints of a list that resolved to a place, in its order
abbrev pub hits_in : Place → List Breakpoint → List Breakpoint
hits_in place bs = filter (stands_at place) bs
