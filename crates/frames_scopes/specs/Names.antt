-- The names of functions, as they are shown.
use Rattle.std.specs.Prelude.{ℕ, List, [], Option, Some, None}
use Rattle.js_heap_memory.specs.declared.stored.FunctionName.{FunctionName}
use Rattle.js_heap_memory.specs.Cells.{name_text}

-- the text of a name, with a table of texts; no name is shown as the empty text
abbrev pub shown_name : List (List ℕ) → Option FunctionName → List ℕ
shown_name ts None = []
shown_name ts (Some name) = name_text ts name
