use Rattle.std.proofs.Common.{◌≡◌, false, length, arith}
use Rattle.std.specs.Prelude.{nat_lt}
use Rattle.js_heap_memory.specs.Cells.{name_text}
use Rattle.js_machine_rows.specs.Calls.{entry_code}
use Rattle.js_machine_rows.proofs.CallLemmas.{past-limit}
use Rattle.js_machine_rows.proofs.calls.call_entry.Goals as goal

pub returns-else-frame_count-lt-MOST_FRAMES : goal.returns-else-frame_count-lt-MOST_FRAMES
returns-else-frame_count-lt-MOST_FRAMES g c =
    let ts = c.args.code.now.names.now in
    let t = c.args.code.now.table.now in
    let v = g.W.World.world c.args.code.now.names.now c.args.world.now in
    let i = c.args.callee in
    let n = name_text ts i.name in
    let x = entry_code ts t c.args.place c.args.compiled.now in
    let h : nat_lt (length c.args.context.now.frames) 1000 ≡ false = grind arith in
    past-limit ts t x i.source i.function n i.outer i.receiver i.arguments.now v
    (g.W.World.world c.args.code.now.names.now c.too_deep.new.world)
    c.args.context.now c.too_deep.result c.stopped.result h c.too_deep.ensures c.stopped.ensures
