use Rattle.std.proofs.Common.{◌≡◌, ◌-◌, length, arith}
use Rattle.js_machine_engine.proofs.StackLemmas.{extra-dropped}
use Rattle.js_machine_engine.proofs.stack.drop_extra.Goals as goal

pub returns-then-owns : goal.returns-then-owns
returns-then-owns c =
    let es = c.args.extras.now in
    let e : c.saturating_sub.result ≡ length es.items - 1 = omega arith in
    rw (c.if-owns.true, c.truncate.ensures.items, e) (extra-dropped es.items)
