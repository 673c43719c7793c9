-- The calls of functions (Chrome DevTools Protocol 1.3, `Runtime.callFunctionOn`).
use Rattle.std.specs.Prelude.{ℕ, List, codes, Option, Some, None}
use Rattle.serde_json.specs.Data.{Data}
use Rattle.cdp_json.specs.Arguments.{Argument, arguments_of}
use Rattle.cdp_json.specs.Flags.{flags_of}
use Rattle.cdp_json.specs.Members.{required, optional, text_of}
use Rattle.cdp_json.specs.declared.flags.EvaluationFlags.{EvaluationFlags}
use Rattle.cdp_json.specs.declared.params.FunctionCall.{FunctionCall}

-- a call, where its function is there and all else is of its kind
abbrev pub call_from : Option (List ℕ)
    → Option (Option (List ℕ))
    → Option (List Argument)
    → Option (Option (List ℕ))
    → Option EvaluationFlags
    → Option FunctionCall
call_from None id arguments group flags = None
call_from (Some function) None arguments group flags = None
call_from (Some function) (Some id) None group flags = None
call_from (Some function) (Some id) (Some arguments) None flags = None
call_from (Some function) (Some id) (Some arguments) (Some group) None = None
call_from (Some function) (Some id) (Some arguments) (Some group) (Some flags) =
    Some (record {
      function_declaration = function;
      object_id = id;
      arguments = arguments;
      object_group = group;
      return_by_value = flags.return_by_value;
      generate_preview = flags.generate_preview;
      throw_on_side_effect = flags.throw_on_side_effect;
    })

-- `functionDeclaration, objectId?, arguments?, objectGroup?, silent?, returnByValue?, generatePreview?,
-- throwOnSideEffect?`
abbrev pub call_of : Data → Option FunctionCall
call_of d =
    call_from (required text_of (codes "functionDeclaration") d) (optional text_of (codes "objectId") d)
    (arguments_of d) (optional text_of (codes "objectGroup") d) (flags_of d)
