use Rattle.js_parser.proofs.ExpressionLemmas.{function_is}
use Rattle.js_parser.proofs.laws.texts_of_functions.Goals as goal

pub returns-clause-is : goal.returns-clause-is
returns-clause-is c = λ source e is. function_is source e is
