-- The results of evaluations as JSON values (Chrome DevTools Protocol 1.3, `Runtime.ExceptionDetails`).
use Rattle.std.specs.Prelude.{ℕ, pos, List, [], ◌∷◌, ◌++◌, codes}
use Rattle.cdp_json.specs.Json.{Json, number, text}
use Rattle.cdp_json.specs.Parts.{Pair, object_of}
use Rattle.remote_objects.specs.Values.{object_pairs, subtyped, undefined_pairs}

-- a value that was come to
abbrev pub value_result : Json → Json
value_result described = object_of ((codes "result", described) ∷ [])

-- what went wrong: the exception that was described, if one was, its number among those of the session, and a text
abbrev pub details : List Pair → ℕ → List ℕ → Json
details exception id shown = object_of (
    (codes "columnNumber", number (pos 0))
    ∷ exception
    ++ (codes "exceptionId", number (pos id))
    ∷ (codes "lineNumber", number (pos 0))
    ∷ (codes "text", text shown) ∷ [])

-- the result that says what went wrong, beside the value that stands for it
abbrev pub details_result : Json → Json → Json
details_result says described = object_of ((codes "exceptionDetails", says) ∷ (codes "result", described) ∷ [])

-- a throw: its value is described once, and stands in both places
abbrev pub thrown_result : ℕ → Json → Json
thrown_result id described =
    details_result (details ((codes "exception", described) ∷ []) id (codes "Uncaught")) described

-- what would have had an effect
abbrev pub effect_object : Json
effect_object =
    object_of
    (object_pairs (codes "EvalError") (codes "EvalError: Possible side-effect in debug-evaluate")
    (subtyped (codes "error")) (codes "object"))

-- a text that is no expression
abbrev pub syntax_result : ℕ → Json
syntax_result id =
    details_result (details [] id (codes "Uncaught SyntaxError: Unexpected token")) (object_of undefined_pairs)
