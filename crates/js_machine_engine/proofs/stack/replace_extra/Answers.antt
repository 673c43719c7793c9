use Rattle.std.proofs.Common.{◌≡◌, length, arith}
use Rattle.js_machine_engine.proofs.StackLemmas.{extra-replaced}
use Rattle.js_machine_engine.proofs.stack.replace_extra.Goals as goal

pub returns-then-n-gt0-clause-ok : goal.returns-then-n-gt0-clause-ok
returns-then-n-gt0-clause-ok c =
    let e : c.len-n.result ≡ length c.args.extras.now.items = omega arith in
    extra-replaced c.args.extras.now.items c.index_mut.result.now c.args.extra c.len-n.result e c.if-n-gt0.true
    c.index_mut.ensures.value
