use Rattle.cdp_session_laws.proofs.EvaluatingLemmas.{call-leaves, evaluate-leaves, frame-leaves}
use Rattle.cdp_session_laws.proofs.evaluations.an_evaluation_leaves_its_session.Goals as goal

pub returns : goal.returns
returns c = record { in_scripts = evaluate-leaves; in_frames = frame-leaves; calls = call-leaves }
