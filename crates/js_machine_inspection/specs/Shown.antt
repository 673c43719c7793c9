-- How active frames are shown.
use Rattle.std.specs.Prelude.{ℕ, Option, Some, None}
use Rattle.js_heap.specs.declared.value.Addr.{Addr}
use Rattle.js_semantics.specs.declared.form.Source.TheVariants.{Script as script_source}
use Rattle.js_semantics.specs.declared.form.Mark.TheVariants.{Beginning as beginning}
use Rattle.js_semantics.specs.State.{Frame}

-- with this innermost scope, if there is one; else with its own
abbrev pub in_scope : Option Addr → Frame → Frame
in_scope None f = f
in_scope (Some a) f = record f { scope = a }

-- at the beginning of the script of this number, if there is one
abbrev pub at_script : Option ℕ → Frame → Frame
at_script None f = f
at_script (Some number) f = record f { source = script_source number; here = beginning }
