use Rattle.js_parser.proofs.ExpressionLemmas.{expression_is}
use Rattle.js_parser.proofs.laws.texts_of_expressions.Goals as goal

pub returns-clause-is : goal.returns-clause-is
returns-clause-is c = λ source e is. expression_is source e is
