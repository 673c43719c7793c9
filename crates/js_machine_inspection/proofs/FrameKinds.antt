-- What a kind is that of.
use Rattle.std.specs.Prelude.{Bool, true, false}
use Rattle.js_machine_inspection.specs.Kinds.{ActiveKind, debugging, leaving, guarding}

-- the kind is that of an untouched `debugger` statement
abbrev pub is_debugging : ActiveKind → Bool
is_debugging (debugging node) = true
is_debugging k = false

-- the kind is that of the body of a call
abbrev pub is_leaving : ActiveKind → Bool
is_leaving (leaving node) = true
is_leaving k = false

-- the kind is that of a `try` with a `catch`
abbrev pub is_guarding : ActiveKind → Bool
is_guarding guarding = true
is_guarding k = false
