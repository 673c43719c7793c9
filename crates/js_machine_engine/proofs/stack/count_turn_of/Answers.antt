use Rattle.std.proofs.Common.{◌≡◌, length, arith}
use Rattle.js_machine_engine.proofs.StackLemmas.{extra-turned}
use Rattle.js_machine_engine.proofs.stack.count_turn_of.Goals as goal

pub returns-in_ok-extras-clause-ok : goal.returns-in_ok-extras-clause-ok
returns-in_ok-extras-clause-ok c =
    let es = c.args.extras.now in
    let e : c.len-n.result ≡ length es.items = omega arith in
    rw c.if-owns.true
    (extra-turned es.items c.index.result.now c.in_ok-extras.field-0 c.len-n.result e c.if-n-gt0.true c.index.ensures
    c.in_ok-extras.ensures)
