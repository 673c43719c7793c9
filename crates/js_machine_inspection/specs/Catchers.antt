-- Whether a catch takes a throw that stands.
use Rattle.std.specs.Prelude.{Bool, true, false, List, [], ◌∷◌, Option, Some, None, if◌then◌else◌}
use Rattle.js_semantics.specs.Frames.{StandingThrow}
use Rattle.js_machine_nodes.specs.declared.op.Op.{Op}
use Rattle.js_machine_nodes.specs.declared.op.Op.TheVariants as ops
use Rattle.js_machine_engine.specs.Tasks.{Wide}
use Rattle.js_machine_inspection.specs.declared.standing.Thrown.{Thrown}

-- a `try` with a `catch`, which is in its block
abbrev pub is_catcher : Op → Bool
is_catcher ops.Catching = true
is_catcher ops.CatchingName = true
is_catcher op = false

-- there is a task, and it is a `try` with a `catch`, in its block
abbrev pub catches_at : Option Wide → Bool
catches_at None = false
catches_at (Some w) = is_catcher w.op

-- any task is one
abbrev pub catches : List Wide → Bool
catches [] = false
catches (w ∷ ws) = if is_catcher w.op then true else catches ws

-- a throw that stands, as the definition names it
abbrev pub standing_throw : Option Thrown → Option StandingThrow
standing_throw None = None
standing_throw (Some t) = Some (record { value = t.value; uncaught = t.uncaught })
