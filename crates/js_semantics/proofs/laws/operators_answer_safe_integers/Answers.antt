use Rattle.js_semantics.proofs.SafeLemmas.{binary-safe, unary-safe, update-safe}
use Rattle.js_semantics.proofs.laws.operators_answer_safe_integers.Goals as goal

pub returns-clause-binary : goal.returns-clause-binary
returns-clause-binary c = binary-safe

pub returns-clause-unary : goal.returns-clause-unary
returns-clause-unary c = unary-safe

pub returns-clause-update : goal.returns-clause-update
returns-clause-update c = update-safe
