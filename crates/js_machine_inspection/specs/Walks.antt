-- Walks over the active frames, by the tasks.
use Rattle.std.specs.Prelude.{◌≡◌, ℕ, List, [], drop, Option, Some, None}
use Rattle.js_heap.specs.declared.value.Addr.{Addr}
use Rattle.js_machine_engine.specs.Tasks.{Wide}
use Rattle.js_machine_inspection.specs.Scopes.{frame_scopes}
use Rattle.js_machine_inspection.specs.declared.walks.Walked.{Walked}

-- the innermost scopes of the active frames whose tasks are behind so many; where no task is left for a frame, none
abbrev pub scopes_behind : Addr → List Wide → Option ℕ → List Addr
scopes_behind root ws None = []
scopes_behind root ws (Some tasks) = frame_scopes root (drop tasks ws)

-- so many tasks hold so many frames: behind both are the same scopes
abbrev pub IsWalked : Addr → List Wide → Walked → Type 0
IsWalked root ws w = drop w.frames (frame_scopes root ws) ≡ scopes_behind root ws w.tasks
