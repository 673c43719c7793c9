-- Scopes and functions that are lent from a heap, with texts for the numbers of names.
use Rattle.std.specs.Prelude.{ℕ, List, Option, Some, None}
use Rattle.js_heap_memory.specs.Cells.{name_text}
use Rattle.frames_scopes.specs.declared.cells.ScopeCell.{ScopeCell}
use Rattle.frames_scopes.specs.declared.cells.FunctionRef.{FunctionRef}
use Rattle.frames_scopes.specs.Scopes.{ScopeParts}
use Rattle.frames_scopes.specs.Frames.{FunctionParts}

-- a scope
abbrev pub scope_seen : List (List ℕ) → Option ScopeCell → Option ScopeParts
scope_seen ts None = None
scope_seen ts (Some s) = Some (record { kind = s.kind; name = name_text ts s.name.now; outer = s.outer })

-- a function
abbrev pub function_seen : List (List ℕ) → Option FunctionRef → Option FunctionParts
function_seen ts None = None
function_seen ts (Some f) = Some (record { code = f.code; name = name_text ts f.name.now })
