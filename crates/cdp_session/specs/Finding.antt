-- The script that a command names.
use Rattle.std.specs.Prelude.{◌≡◌, ℕ, List, Some, None, Result, Ok, Err}
use Rattle.js_tree.specs.declared.script.Script.{Script}
use Rattle.cdp_json.specs.declared.refusal.Refusal.TheVariants as refusals
use Rattle.cdp_session.specs.declared.done.Fault.{Fault}
use Rattle.cdp_session.specs.declared.done.Fault.TheVariants as faults
use Rattle.cdp_session.specs.declared.found.FoundScript.{FoundScript}
use Rattle.cdp_session.specs.Situations.{script_of}

-- the script that was found
abbrev pub found_script : FoundScript → Script
found_script f = f.script.now

-- no script has the id, and that is the refusal
pub record IsUnknown (id : List ℕ) (scripts : List Script) (fault : Fault) : Type 0 where
  pub none : script_of id scripts ≡ None
  pub refused : fault ≡ faults.Refused (refusals.UnknownScript id)

-- the script of an id was found, or there is none; want of memory says nothing
abbrev pub Finds : Result FoundScript Fault → List ℕ → List Script → Type 0
Finds (Ok found) id scripts = script_of id scripts ≡ Some found.script.now
Finds (Err (faults.Refused q)) id scripts = IsUnknown id scripts (faults.Refused q)
Finds (Err faults.Memory) id scripts = Unit {0}
