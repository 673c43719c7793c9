use Rattle.js_machine_rows.proofs.SimpleLemmas.{frame-acts}
use Rattle.js_machine_rows.proofs.simple.frame.Goals as goal

pub returns : goal.returns
returns c = λ ts w. frame-acts ts w c.args.context.now c.pop_frame.new.self c.pop_frame.ensures
