-- The flags of an evaluation or a call: `silent?, returnByValue?, generatePreview?, throwOnSideEffect?`.
use Rattle.std.specs.Prelude.{List, ℕ, Bool, true, false, if◌then◌else◌, codes, Option, Some, None, is_some}
use Rattle.serde_json.specs.Data.{Data}
use Rattle.serde_json.specs.Find.{as_bool}
use Rattle.cdp_json.specs.Members.{optional}
use Rattle.cdp_json.specs.declared.flags.EvaluationFlags.{EvaluationFlags}

-- whether a flag is absent, or a truth value
abbrev pub flag_fits : List ℕ → Data → Bool
flag_fits name d = is_some (optional as_bool name d)

-- a flag that is absent is false
abbrev pub flag_or_false : Option Bool → Bool
flag_or_false None = false
flag_or_false (Some flag) = flag

-- a flag that is absent is true
abbrev pub flag_or_true : Option Bool → Bool
flag_or_true None = true
flag_or_true (Some flag) = flag

-- `returnByValue?, generatePreview?, throwOnSideEffect?`
abbrev pub flags_from : Option (Option Bool) → Option (Option Bool) → Option (Option Bool) → Option EvaluationFlags
flags_from None preview throws = None
flags_from (Some by_value) None throws = None
flags_from (Some by_value) (Some preview) None = None
flags_from (Some by_value) (Some preview) (Some throws) =
    Some (record {
      return_by_value = flag_or_false by_value;
      generate_preview = flag_or_false preview;
      throw_on_side_effect = flag_or_true throws;
    })

-- the flags that have an effect
abbrev pub given_flags : Data → Option EvaluationFlags
given_flags d =
    flags_from (optional as_bool (codes "returnByValue") d) (optional as_bool (codes "generatePreview") d)
    (optional as_bool (codes "throwOnSideEffect") d)

-- the kind of `silent` is tested, and its value doesn't change what is answered
abbrev pub flags_of : Data → Option EvaluationFlags
flags_of d = if flag_fits (codes "silent") d then given_flags d else None
