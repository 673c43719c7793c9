-- The spans of the scripts of a program.
use Rattle.std.specs.Prelude.{ℕ, ◌-◌, List, [], Option, Some, None, nat_eq, slice_get, if◌then◌else◌}
use Rattle.js_tree.specs.declared.node.Span.{Span}
use Rattle.js_tree.specs.declared.script.Script.{Script}
use Rattle.js_semantics.specs.declared.form.Source.{Source}
use Rattle.js_semantics.specs.declared.form.Source.TheVariants.{Script as script_source, Kept as kept_source}

-- the spans of a script's nodes, if there is a script
abbrev pub script_spans : Option Script → List Span
script_spans None = []
script_spans (Some s) = s.spans

-- scripts are counted from 1
abbrev pub number_spans : List Script → ℕ → List Span
number_spans scripts number = if nat_eq number 0 then [] else script_spans (slice_get scripts (number - 1))

-- the spans of a source's nodes, if it is one of the scripts
abbrev pub spans_in : List Script → Source → List Span
spans_in scripts (script_source number) = number_spans scripts number
spans_in scripts (kept_source a) = []
