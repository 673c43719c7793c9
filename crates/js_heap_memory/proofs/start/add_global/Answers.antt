use Rattle.std.proofs.Common.{ap}
use Rattle.js_heap.specs.BuiltIns.{global_of}
use Rattle.js_heap_memory.proofs.StartLemmas.{name-more}
use Rattle.js_heap_memory.proofs.start.add_global.Goals as goal

pub returns : goal.returns
returns c =
    name-more c.args.names.now c.args.slots.now c.push.new.self _ _ c.in_ok-push.ensures.value
    (ap (λ t. global_of t c.args.value) c.in_ok-name.ensures.text) c.in_ok-name.ensures.known
