use Rattle.js_heap_memory.specs.Cells.{name_text}
use Rattle.js_machine_rows.specs.Codes.{code_at}
use Rattle.js_machine_rows.specs.Calls.{entry_code, entered_within}
use Rattle.js_semantics.specs.Functions.{call_code, not_a_function}
use Rattle.js_machine_rows.proofs.CallLemmas.{acts-by, ends-act, code-none, code-missing, code-there, no-code, no-outer, code-called}
use Rattle.js_machine_rows.proofs.calls.call_code.Goals as goal

pub returns-in-Some-outer : goal.returns-in-Some-outer
returns-in-Some-outer g c =
    let ts = c.args.code.now.names.now in
    let t = c.args.code.now.table.now in
    let v = g.W.World.world c.args.code.now.names.now c.args.world.now in
    let k = c.args.callee in
    let n = name_text ts k.name in
    let a = c.args.given.now.arguments.now in
    let p = code_at ts t c.args.place in
    let x = entry_code ts t c.in-Some.place c.in-Some-function_entry.compiled.now in
    acts-by ts t (λ s. call_code s p c.args.source c.args.function n k.outer k.this c.args.given.now.receiver a)
    (λ s. entered_within s x c.args.source c.args.function n c.in-Some-outer.outer c.called_this-receiver.result a)
    v c.args.context.now c.call_entry.result (g.W.World.world c.args.code.now.names.now c.call_entry.new.world)
    c.call_entry.new.context
    (λ s. code-called s p x c.args.source c.args.function n k.outer c.in-Some-outer.outer k.this
    c.args.given.now.receiver
    c.called_this-receiver.result a
    (code-there ts t c.args.place c.in-Some.place c.in-Some-function_entry.compiled.now c.in-Some.is
    c.in-Some-function_entry.ensures)
    c.in-Some-outer.is c.called_this-receiver.ensures)
    c.call_entry.ensures

pub returns-in-None-outer : goal.returns-in-None-outer
returns-in-None-outer g c =
    let ts = c.args.code.now.names.now in
    let t = c.args.code.now.table.now in
    let v = g.W.World.world c.args.code.now.names.now c.args.world.now in
    let k = c.args.callee in
    let n = name_text ts k.name in
    let a = c.args.given.now.arguments.now in
    let p = code_at ts t c.args.place in
    acts-by ts t (λ s. call_code s p c.args.source c.args.function n k.outer k.this c.args.given.now.receiver a)
    (λ s. not_a_function) v c.args.context.now c.stopped.result
    (g.W.World.world c.args.code.now.names.now c.not_a_function.new.world) c.args.context.now
    (λ s. no-outer s p c.args.source c.args.function n k.outer k.this c.args.given.now.receiver a c.in-None-outer.is)
    (ends-act ts t not_a_function v c.not_a_function.result
    (g.W.World.world c.args.code.now.names.now c.not_a_function.new.world)
    c.args.context.now c.stopped.result c.not_a_function.ensures c.stopped.ensures)

pub returns-in-None-function_entry : goal.returns-in-None-function_entry
returns-in-None-function_entry g c =
    let ts = c.args.code.now.names.now in
    let t = c.args.code.now.table.now in
    let v = g.W.World.world c.args.code.now.names.now c.args.world.now in
    let k = c.args.callee in
    let n = name_text ts k.name in
    let a = c.args.given.now.arguments.now in
    let p = code_at ts t c.args.place in
    acts-by ts t (λ s. call_code s p c.args.source c.args.function n k.outer k.this c.args.given.now.receiver a)
    (λ s. not_a_function) v c.args.context.now c.stopped-in-None-function_entry.result
    (g.W.World.world c.args.code.now.names.now c.not_a_function-in-None-function_entry.new.world) c.args.context.now
    (λ s. no-code s p c.args.source c.args.function n k.outer k.this c.args.given.now.receiver a
    (code-missing ts t c.args.place c.in-Some.place c.in-Some.is c.in-None-function_entry.ensures))
    (ends-act ts t not_a_function v c.not_a_function-in-None-function_entry.result
    (g.W.World.world c.args.code.now.names.now c.not_a_function-in-None-function_entry.new.world)
    c.args.context.now c.stopped-in-None-function_entry.result c.not_a_function-in-None-function_entry.ensures
    c.stopped-in-None-function_entry.ensures)

pub returns-in-None : goal.returns-in-None
returns-in-None g c =
    let ts = c.args.code.now.names.now in
    let t = c.args.code.now.table.now in
    let v = g.W.World.world c.args.code.now.names.now c.args.world.now in
    let k = c.args.callee in
    let n = name_text ts k.name in
    let a = c.args.given.now.arguments.now in
    let p = code_at ts t c.args.place in
    acts-by ts t (λ s. call_code s p c.args.source c.args.function n k.outer k.this c.args.given.now.receiver a)
    (λ s. not_a_function) v c.args.context.now c.stopped-in-None.result
    (g.W.World.world c.args.code.now.names.now c.not_a_function-in-None.new.world) c.args.context.now
    (λ s. no-code s p c.args.source c.args.function n k.outer k.this c.args.given.now.receiver a
    (code-none ts t c.args.place c.in-None.is))
    (ends-act ts t not_a_function v c.not_a_function-in-None.result
    (g.W.World.world c.args.code.now.names.now c.not_a_function-in-None.new.world)
    c.args.context.now c.stopped-in-None.result c.not_a_function-in-None.ensures c.stopped-in-None.ensures)
