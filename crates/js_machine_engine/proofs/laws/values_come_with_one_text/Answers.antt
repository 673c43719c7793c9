use Rattle.js_machine_engine.proofs.TextLemmas.{step-text}
use Rattle.js_machine_engine.proofs.laws.values_come_with_one_text.Goals as goal

pub returns : goal.returns
returns c = step-text
