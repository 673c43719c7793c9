-- The spans of nodes.
use Rattle.std.specs.Prelude.{ℕ, ◌-◌, ◌≤◌, List, take, drop}
use Rattle.std.specs.List.{slice_index_or}
use Rattle.js_tree.specs.declared.node.Span.{Span}

-- the span of the node of this number; of one that no node has, the empty span at the start
abbrev pub span_of : List Span → ℕ → Span
span_of spans n = slice_index_or spans n (record { start = 0; end = 0 })

-- the span lies in a source of so many units
abbrev pub IsWithin : ℕ → Span → Type 0
IsWithin len s = (s.start ≤ s.end) × (s.end ≤ len)

-- the units of a span
abbrev pub units_in : Span → List ℕ → List ℕ
units_in s units = take (s.end - s.start) (drop s.start units)
