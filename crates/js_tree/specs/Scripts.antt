-- The scripts of a run.
use Rattle.std.specs.Prelude.{ℕ, ◌-◌, List, nat_eq, slice_get, if◌then◌else◌, Option, None}
use Rattle.js_tree.specs.declared.script.Script.{Script}

-- the script of a number; scripts are counted from 1
abbrev pub script_numbered : List Script → ℕ → Option Script
script_numbered scripts n = if nat_eq n 0 then None else slice_get scripts (n - 1)
