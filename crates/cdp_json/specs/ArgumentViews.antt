-- The arguments for which those of the code stand.
use Rattle.cdp_json.specs.Arguments as arguments
use Rattle.cdp_json.specs.Views.{json_view}
use Rattle.cdp_json.specs.declared.arguments.Argument.{Argument}
use Rattle.cdp_json.specs.declared.arguments.Argument.TheVariants.{Value, Object, Undefined}

-- the argument for which one of the code stands
abbrev pub argument_view : Argument → arguments.Argument
argument_view (Value j) = arguments.a_value (json_view j)
argument_view (Object id) = arguments.an_object id
argument_view Undefined = arguments.undefined
