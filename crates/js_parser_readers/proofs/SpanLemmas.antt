-- Spans cut off at the end of their source lie in it.
use Rattle.std.proofs.Common.{ℕ, List, map, arith}
use Rattle.std.specs.Prelude.{All}
use Rattle.std.specs.List.{slice_index_or}
use Rattle.std.proofs.lemmas.List.Elements.{All-map}
use Rattle.js_tree.specs.declared.node.Span.{Span}
use Rattle.js_tree.specs.Spans.{IsWithin}
use Rattle.js_parser_readers.specs.Places.{cut_at}

cut_within : (end : ℕ) (s : Span) → IsWithin end (cut_at end s)
cut_within end s = (omega arith, omega arith)

pub all_within : (end : ℕ) (spans : List Span) → All (IsWithin end) (map (cut_at end) spans)
all_within end spans = All-map (IsWithin end) (cut_at end) spans (λ k d h. cut_within end (slice_index_or spans k d))
