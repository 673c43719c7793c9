use Rattle.std.proofs.Common.{◌≡◌, ◌++◌, drop}
use Rattle.std.specs.Prelude.{map}
use Rattle.js_heap_memory.specs.Cells.{bindings}
use Rattle.cdp_json.specs.Json.{text}
use Rattle.cdp_json.specs.Views.{json_view}
use Rattle.remote_objects.specs.ScopeNames.{binding_name}
use Rattle.remote_objects.proofs.describer.Describer.slot_names.Given as goal

abbrev pub invariant-loop-i : goal.invariant-loop-i
invariant-loop-i g l =
    map json_view l.listed.items ++ map text (map binding_name (bindings l.self.names.now (drop l.i l.slots)))
    ≡ map text (map binding_name (bindings l.self.names.now l.slots))
