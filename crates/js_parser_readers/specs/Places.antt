-- The places of what was read in the source.
use Rattle.std.specs.Prelude.{ℕ, min, ◌-◌, List, length, slice_get}
use Rattle.js_tree.specs.declared.node.Span.{Span}
use Rattle.js_parser_language.specs.Tokens.{Token, head_of}
use Rattle.js_parser_language.specs.Places.{start_of, end_of}

-- where the last of the tokens before the rest ends
abbrev pub end_before : List Token → List Token → ℕ
end_before ts rest = end_of (slice_get ts (length ts - length rest - 1))

-- from the first of the tokens to the last one before the rest; the empty span at 0 where there is none
abbrev pub span_between : List Token → List Token → Span
span_between ts rest = record { start = start_of (head_of ts); end = end_before ts rest }

-- a span with what lies beyond the end of its source cut off
abbrev pub cut_at : ℕ → Span → Span
cut_at end s = record { start = min s.start (min end s.end); end = min end s.end }
