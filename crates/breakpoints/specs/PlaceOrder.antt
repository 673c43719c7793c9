-- The order of places.
use Rattle.std.specs.Prelude.{List}
use Rattle.std.specs.declared.cmp.Ordering.{Ordering}
use Rattle.std.specs.Ordering.{nat_cmp, ordering_then}
use Rattle.std.specs.List.Sorted.{IsStrictlySortedBy}
use Rattle.cdp_text.specs.declared.position.Place.{Place}

-- by script, then line, then column
abbrev pub place_cmp : Place → Place → Ordering
place_cmp p q =
    ordering_then (nat_cmp p.script q.script)
    (ordering_then (nat_cmp p.pos.line q.pos.line) (nat_cmp p.pos.col q.pos.col))

-- each place stands before those that follow it, so none stands twice
abbrev pub AreAscending : List Place → Type 0
AreAscending places = IsStrictlySortedBy place_cmp places
