use Rattle.cdp_session_laws.proofs.ReceiverLemmas.{effect-ends, effect-replied, print-ends, read-ends}
use Rattle.cdp_session_laws.proofs.evaluations.an_effect_ends_an_evaluation.Goals as goal

pub returns : goal.returns
returns c = record { prints = print-ends; reads = read-ends; ends = effect-ends; replies = effect-replied }
