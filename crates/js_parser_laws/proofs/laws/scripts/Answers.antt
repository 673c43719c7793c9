use Rattle.js_parser_laws.proofs.Soundness.{script_read}
use Rattle.js_parser_laws.proofs.Exactness.{script_leaves_at}
use Rattle.js_parser_laws.proofs.DeepWhole.{script_too_deep}
use Rattle.js_parser_laws.proofs.BegunLaws.{script_written, script_alike}
use Rattle.js_parser_laws.proofs.laws.scripts.Goals as goal

pub returns-clause-sound : goal.returns-clause-sound
returns-clause-sound c = script_read

pub returns-clause-stuck : goal.returns-clause-stuck
returns-clause-stuck c = script_leaves_at

pub returns-clause-deep : goal.returns-clause-deep
returns-clause-deep c = script_too_deep

pub returns-clause-written : goal.returns-clause-written
returns-clause-written c = script_written

pub returns-clause-alike : goal.returns-clause-alike
returns-clause-alike c = script_alike
