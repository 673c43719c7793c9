-- Where the nodes of a source's tree stand.
use Rattle.std.specs.Prelude.{ℕ, List, [], length, All}
use Rattle.js_tree.specs.declared.node.Span.{Span}
use Rattle.js_parser_language.specs.Places.{FlatPlace, AreSpans}
use Rattle.js_parser_readers.specs.Placed.{AreNumbered, IsForward}
use Rattle.js_parser.specs.Sources.{tokens_of}

-- each node's span goes from the start of its first token in the source to the end of its last one
abbrev pub AreSpansIn : List ℕ → List Span → List FlatPlace → Type 0
AreSpansIn source spans places = AreSpans spans places 0 (tokens_of source) []

-- These spans are those of a tree's nodes in the source, and the nodes have the numbers of those that came; with those
-- before them none of them ends before it begins.
pub record PlacedIn (source : List ℕ) (old new : List Span) (places : List FlatPlace) : Type 0 where
  pub exact : AreSpansIn source new places
  pub forward : All IsForward old → All IsForward new
  pub numbers : AreNumbered (length old) places (length new)
