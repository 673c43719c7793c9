-- The parts of a function, as the grammar sees them.
use Rattle.js_tree.specs.Views.{statements_view}
use Rattle.js_parser_readers.specs.Productions.{ParametersAndBody}
use Rattle.js_parser_descent.specs.declared.parsed.ParametersAndBody.{ParametersAndBody as Held}

-- the parameters of a function and its body
abbrev pub function_view : Held → ParametersAndBody
function_view f = record { parameters = f.parameters; body = statements_view f.body }
