-- How a program stands doesn't depend on the texts that were taken from its machine.
use Rattle.std.proofs.Common.{◌≡◌, ℕ, List, [], refl, Option, Some, None}
use Rattle.js_tree.specs.declared.script.Script.{Script}
use Rattle.js_semantics.specs.Run as runs
use Rattle.js_semantics.specs.Terms.{Term, done, standing, part}
use Rattle.js_semantics.specs.State.{State}
use Rattle.js_heap_memory.specs.Heaps.{heap_world}
use Rattle.js_machine.specs.declared.end.End.{End}
use Rattle.js_machine.specs.declared.end.End.TheVariants as ends
use Rattle.js_machine.specs.Machines.{term_of, state_of, run_by}
use Rattle.cdp_host.specs.Hosts.{Parts, parts_standing, run_with}
use Rattle.cdp_host.specs.Standings.{standing_of}

going-taken : (scripts : List Script) (t : Term) (s : State) (old new : List (List ℕ))
    → standing_of scripts (runs.run_of t (record s { printed = old })) ≡ standing_of scripts
    (runs.run_of t (record s { printed = new }))
unfolding standing_of
going-taken scripts (done v) s old new = refl
going-taken scripts (standing v place) s old new = refl
going-taken scripts (part f now later) s old new = refl

run-taken : (scripts : List Script) (o : Option End) (t : Term) (s : State) (old new : List (List ℕ))
    → standing_of scripts (run_by o t (record s { printed = old })) ≡ standing_of scripts
    (run_by o t (record s { printed = new }))
unfolding standing_of
run-taken scripts None t s old new = going-taken scripts t s old new
run-taken scripts (Some (ends.Finished f)) t s old new = refl
run-taken scripts (Some ends.Effect) t s old new = refl
run-taken scripts (Some (ends.Full what)) t s old new = refl
run-taken scripts (Some ends.Lost) t s old new = going-taken scripts t s old new

pub standing-taken : (scripts : List Script) (p : Parts) (taken : List (List ℕ))
    → parts_standing scripts p ≡ standing_of scripts (run_with taken p)
standing-taken scripts p taken =
    run-taken scripts p.machine.ended (term_of p.machine) (state_of p.machine (heap_world p.machine.names p.heap) [])
    _ _
