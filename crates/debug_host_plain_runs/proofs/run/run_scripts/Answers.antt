use Rattle.std.proofs.Common.{ap, Err}
use Rattle.js_heap_memory.specs.Heaps.{heap_world}
use Rattle.js_semantics.specs.Sources.{terms_of_scripts}
use Rattle.debug_host_plain_runs.specs.declared.end.PlainRunEnd.TheVariants as ends
use Rattle.debug_host_plain_runs.proofs.EndLemmas.{comes_over, comes_cut, comes_short, first_part}
use Rattle.debug_host_plain_runs.proofs.run.run_scripts.Goals as goal

pub returns-in-Ok-run_on-clause-comes : goal.returns-in-Ok-run_on-clause-comes
returns-in-Ok-run_on-clause-comes g c =
    comes_over c.end_of.result (terms_of_scripts c.args.scripts.now)
    c.args.input.items c.in-Ok.started c.run_on.new.machine
    (heap_world c.run_on.new.machine.names c.run_on.new.heap) (g.O.Sink.content c.args.out.now)
    (g.O.Sink.content c.run_on.new.out)
    c.in-Ok-run_on.finish c.in-Ok.ensures c.in-Ok-run_on.ensures.come c.in-Ok-run_on.ensures.over c.end_of.ensures

pub returns-in-Ok-run_on-clause-part : goal.returns-in-Ok-run_on-clause-part
returns-in-Ok-run_on-clause-part g c =
    first_part c.end_of.result (terms_of_scripts c.args.scripts.now) c.args.input.items
    (g.O.Sink.content c.args.out.now) (g.O.Sink.content c.run_on.new.out)
    (comes_over c.end_of.result (terms_of_scripts c.args.scripts.now)
    c.args.input.items c.in-Ok.started c.run_on.new.machine
    (heap_world c.run_on.new.machine.names c.run_on.new.heap) (g.O.Sink.content c.args.out.now)
    (g.O.Sink.content c.run_on.new.out)
    c.in-Ok-run_on.finish c.in-Ok.ensures c.in-Ok-run_on.ensures.come c.in-Ok-run_on.ensures.over c.end_of.ensures)

pub returns-in-Err-Memory-clause-comes : goal.returns-in-Err-Memory-clause-comes
returns-in-Err-Memory-clause-comes g c =
    comes_cut (terms_of_scripts c.args.scripts.now) c.args.input.items c.in-Ok.started (g.O.Sink.content c.args.out.now)
    (g.O.Sink.content c.run_on.new.out) c.in-Ok.ensures c.in-Err-Memory.ensures.part

pub returns-in-Err-Memory-clause-part : goal.returns-in-Err-Memory-clause-part
returns-in-Err-Memory-clause-part g c =
    first_part ends.Memory (terms_of_scripts c.args.scripts.now) c.args.input.items (g.O.Sink.content c.args.out.now)
    (g.O.Sink.content c.run_on.new.out)
    (comes_cut (terms_of_scripts c.args.scripts.now) c.args.input.items c.in-Ok.started
    (g.O.Sink.content c.args.out.now) (g.O.Sink.content c.run_on.new.out)
    c.in-Ok.ensures c.in-Err-Memory.ensures.part)

pub returns-clause-comes : goal.returns-clause-comes
returns-clause-comes g c =
    comes_short (terms_of_scripts c.args.scripts.now) c.args.input.items c.in-Ok.started
    (g.O.Sink.content c.args.out.now) (g.O.Sink.content c.run_on.new.out) c.in-Ok.ensures
    (c.in-Err-Failed.ensures.less (ap Err c.in-Err-Failed.field-0-is))

pub returns-clause-part : goal.returns-clause-part
returns-clause-part g c =
    first_part ends.CannotWrite (terms_of_scripts c.args.scripts.now) c.args.input.items
    (g.O.Sink.content c.args.out.now) (g.O.Sink.content c.run_on.new.out)
    (comes_short (terms_of_scripts c.args.scripts.now) c.args.input.items c.in-Ok.started
    (g.O.Sink.content c.args.out.now) (g.O.Sink.content c.run_on.new.out) c.in-Ok.ensures
    (c.in-Err-Failed.ensures.less (ap Err c.in-Err-Failed.field-0-is)))

pub returns-clause-failed : goal.returns-clause-failed
returns-clause-failed g c = λ is. c.in-Err-Failed.ensures.failed (ap Err c.in-Err-Failed.field-0-is)
