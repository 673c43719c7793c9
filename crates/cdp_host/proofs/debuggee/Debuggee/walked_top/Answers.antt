use Rattle.std.proofs.Common.{[], slice_get, ap, ◌∙◌}
use Rattle.std.specs.Prelude.{option_to_list}
use Rattle.js_heap.specs.BuiltIns.{script_scope}
use Rattle.js_heap_memory.specs.Heaps.{heap_world}
use Rattle.js_machine.specs.Machines.{term_of, state_of}
use Rattle.frames_scopes.specs.Frames.{walk}
use Rattle.cdp_session.specs.Conditions.{top_of}
use Rattle.cdp_host.proofs.DebuggeeLemmas.{top-first}
use Rattle.cdp_host.proofs.debuggee.Debuggee.walked_top.Goals as goal

pub returns : goal.returns
returns c =
    let m = c.args.self.now.machine.now in
    c.top_of.ensures
    ∙ ap (λ x. top_of (option_to_list x)) (c.frame.ensures [])
    ∙ ap (λ fs. top_of (option_to_list (slice_get fs 0))) c.walker.ensures.walk
    ∙ top-first (walk c.args.self.now.scripts.now script_scope (term_of m)
    (state_of m (heap_world m.names c.args.self.now.heap.now) []))
