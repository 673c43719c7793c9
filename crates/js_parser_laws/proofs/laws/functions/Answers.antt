use Rattle.js_parser_laws.proofs.Soundness.{function_read}
use Rattle.js_parser_laws.proofs.Exactness.{function_leaves_at}
use Rattle.js_parser_laws.proofs.DeepWhole.{function_too_deep}
use Rattle.js_parser_laws.proofs.BegunLaws.{function_written, function_alike}
use Rattle.js_parser_laws.proofs.laws.functions.Goals as goal

pub returns-clause-sound : goal.returns-clause-sound
returns-clause-sound c = function_read

pub returns-clause-stuck : goal.returns-clause-stuck
returns-clause-stuck c = function_leaves_at

pub returns-clause-deep : goal.returns-clause-deep
returns-clause-deep c = function_too_deep

pub returns-clause-written : goal.returns-clause-written
returns-clause-written c = function_written

pub returns-clause-alike : goal.returns-clause-alike
returns-clause-alike c = function_alike
