use Rattle.js_parser_laws.proofs.Soundness.{expression_read}
use Rattle.js_parser_laws.proofs.Exactness.{expression_leaves_at}
use Rattle.js_parser_laws.proofs.DeepWhole.{expression_too_deep}
use Rattle.js_parser_laws.proofs.BegunLaws.{expression_written, expression_alike}
use Rattle.js_parser_laws.proofs.laws.expressions.Goals as goal

pub returns-clause-sound : goal.returns-clause-sound
returns-clause-sound c = expression_read

pub returns-clause-stuck : goal.returns-clause-stuck
returns-clause-stuck c = expression_leaves_at

pub returns-clause-deep : goal.returns-clause-deep
returns-clause-deep c = expression_too_deep

pub returns-clause-written : goal.returns-clause-written
returns-clause-written c = expression_written

pub returns-clause-alike : goal.returns-clause-alike
returns-clause-alike c = expression_alike
