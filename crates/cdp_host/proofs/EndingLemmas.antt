-- How the run of a machine ended.
use Rattle.std.proofs.Common.{◌≡◌, ℕ, List, [], true, false, is_some, Option, Some, None, refl, ap, ◌∙◌}
use Rattle.js_tree.specs.declared.script.Script.{Script}
use Rattle.js_semantics.specs.Run as runs
use Rattle.js_semantics.specs.Run.{Run, running, over}
use Rattle.js_semantics.specs.Terms.{Term, done, standing, part}
use Rattle.js_semantics.specs.State.{State}
use Rattle.js_heap_memory.specs.Heaps.{Heap, heap_world}
use Rattle.js_machine_engine.specs.Running.{IsRunning}
use Rattle.js_machine_engine.specs.Stepping.{finish_of}
use Rattle.js_machine_engine.specs.declared.stepped.Finish.{Finish}
use Rattle.js_machine.specs.declared.end.End.{End}
use Rattle.js_machine.specs.declared.end.End.TheVariants as ends
use Rattle.js_machine.specs.Machines.{Machine, finish_at, run_by, state_of, term_of, IsKept}
use Rattle.cdp_session.specs.declared.ending.Ending.TheVariants as endings
use Rattle.cdp_host.specs.Hosts.{machine_run}
use Rattle.cdp_host.specs.Programs.{is_over}
use Rattle.cdp_host.specs.Standings.{ending_by, ending_of}
use Rattle.cdp_host.proofs.PartLemmas.{Goes, IsOverBy}

-- a run that isn't over has no end
pub ending-none : (scripts : List Script) (r : Run) → is_over r ≡ false → ending_of scripts r ≡ None
unfolding ending_of
ending-none scripts (running t s) goes = refl
ending-none scripts (over f s) goes = absurd cc

-- ---- it doesn't depend on the texts that were taken

going_taken : (scripts : List Script) (t : Term) (s : State) (old new : List (List ℕ))
    → ending_of scripts (runs.run_of t (record s { printed = old })) ≡ ending_of scripts
    (runs.run_of t (record s { printed = new }))
unfolding ending_of
going_taken scripts (done v) s old new = refl
going_taken scripts (standing v place) s old new = refl
going_taken scripts (part f now later) s old new = refl

run_taken : (scripts : List Script) (o : Option End) (t : Term) (s : State) (old new : List (List ℕ))
    → ending_of scripts (run_by o t (record s { printed = old })) ≡ ending_of scripts
    (run_by o t (record s { printed = new }))
unfolding ending_of
run_taken scripts None t s old new = going_taken scripts t s old new
run_taken scripts (Some (ends.Finished f)) t s old new = refl
run_taken scripts (Some ends.Effect) t s old new = refl
run_taken scripts (Some (ends.Full what)) t s old new = refl
run_taken scripts (Some ends.Lost) t s old new = going_taken scripts t s old new

pub ending-taken : (scripts : List Script) (m : Machine) (h : Heap) (old new : List (List ℕ))
    → ending_of scripts (machine_run m h old) ≡ ending_of scripts (machine_run m h new)
ending-taken scripts m h old new = run_taken scripts m.ended (term_of m) (state_of m (heap_world m.names h) []) _ _

-- ---- that of a machine

by_finish : (scripts : List Script) (f : runs.Finish) (s : State)
    → ending_of scripts (over f s) ≡ Some (ending_by scripts f)
unfolding ending_of
by_finish scripts f s = refl

pub ending-finished : (scripts : List Script) (m : Machine) (h : Heap) (taken : List (List ℕ)) (f : Finish)
    → IsOverBy m f
    → ending_of scripts (machine_run m h taken) ≡ Some (ending_by scripts (finish_of f))
ending-finished scripts m h taken f is =
    ap (ending_of scripts) (is (heap_world m.names h) taken)
    ∙ by_finish scripts (finish_of f) (state_of m (heap_world m.names h) taken)

going_none : (scripts : List Script) (r : Run) → IsRunning r → ending_of scripts r ≡ None
unfolding ending_of
going_none scripts (running t s) h = refl
going_none scripts (over f s) h = absurd h

-- nothing has ended it
pub ending-going : (scripts : List Script) (m : Machine) (h : Heap) (taken : List (List ℕ))
    → m.ended ≡ None
    → Goes m
    → ending_of scripts (machine_run m h taken) ≡ None
ending-going scripts m h taken none goes =
    going_none scripts (machine_run m h taken) (goes none (heap_world m.names h) taken)

other_end : (scripts : List Script) (m : Machine) (t : Term) (s : State) (o : Option End)
    → IsKept o
    → is_some o ≡ true
    → finish_at o m.point ≡ None
    → ending_of scripts (run_by o t s) ≡ Some endings.Finished
unfolding ending_of
other_end scripts m t s None kept some none = absurd cc
other_end scripts m t s (Some (ends.Finished f)) kept some none = absurd cc
other_end scripts m t s (Some ends.Effect) kept some none = refl
other_end scripts m t s (Some (ends.Full what)) kept some none = refl
other_end scripts m t s (Some ends.Lost) kept some none = absurd kept

-- something other than its finish has
pub ending-other : (scripts : List Script) (m : Machine) (h : Heap) (taken : List (List ℕ))
    → IsKept m.ended
    → is_some m.ended ≡ true
    → finish_at m.ended m.point ≡ None
    → ending_of scripts (machine_run m h taken) ≡ Some endings.Finished
ending-other scripts m h taken kept some none =
    other_end scripts m (term_of m) (state_of m (heap_world m.names h) taken) m.ended kept some none
