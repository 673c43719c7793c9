-- How a machine stands that is lent: its cells, the throw that stands, and its frames.
use Rattle.std.proofs.Common.{◌≡◌, ℕ, List, [], ◌∷◌, length, slice_get, true, is_some, Option, Some, None, refl, ap, sym, subst, ◌∙◌}
use Rattle.std.specs.Prelude.{option_to_list}
use Rattle.std.specs.Option.{option_map}
use Rattle.js_tree.specs.declared.script.Script.{Script}
use Rattle.js_heap.specs.declared.value.Addr.{Addr}
use Rattle.js_heap.specs.BuiltIns.{script_scope}
use Rattle.js_semantics.specs.Terms.{Term, done, standing, part}
use Rattle.js_semantics.specs.State.{State}
use Rattle.js_semantics.specs.Frames.{thrown}
use Rattle.js_semantics.specs.Run as runs
use Rattle.js_semantics.specs.Run.{Run, over, run_of}
use Rattle.js_semantics.proofs.FollowLemmas.{run_of-state}
use Rattle.js_heap_memory.specs.Heaps.{Heap, heap_world}
use Rattle.js_machine_actions.specs.Contexts as contexts
use Rattle.js_machine_actions.specs.Contexts.{Context}
use Rattle.js_machine_nodes.specs.declared.table.NodeTable.{NodeTable}
use Rattle.js_machine_engine.specs.declared.task.Point.{Point}
use Rattle.js_machine_engine.specs.Tasks.{Wide}
use Rattle.js_machine_engine.specs.Points.{term_at}
use Rattle.js_machine_engine.specs.Running.{IsRunning}
use Rattle.js_machine.specs.declared.end.End.{End}
use Rattle.js_machine.specs.declared.end.End.TheVariants as ends
use Rattle.js_machine.specs.Machines.{Machine, term_of, state_of, run_by, IsKept}
use Rattle.js_machine.specs.Standing.{until_end}
use Rattle.frames_scopes_types.specs.Frames.{ShownFrame}
use Rattle.frames_scopes.specs.Frames.{walk}
use Rattle.frames_scopes.proofs.FrameLemmas.{walk-length}
use Rattle.cdp_session.specs.Conditions.{top_of}
use Rattle.cdp_host.specs.Programs.{is_over}
use Rattle.cdp_host.specs.Standings.{frames_of, value_of, thrown_of, standing_of}
use Rattle.cdp_host.specs.Hosts.{machine_run, machine_standing}

-- ---- cells

world_by : (o : Option End) (t : Term) (s : State) → (runs.state_of (run_by o t s)).world ≡ s.world
world_by None t s = ap (λ u. u.world) (run_of-state t s)
world_by (Some (ends.Finished f)) t s = refl
world_by (Some ends.Effect) t s = refl
world_by (Some (ends.Full what)) t s = refl
world_by (Some ends.Lost) t s = ap (λ u. u.world) (run_of-state t s)

pub standing-world : (scripts : List Script) (m : Machine) (h : Heap)
    → (machine_standing scripts m h).world ≡ heap_world m.names h
unfolding standing_of
standing-world scripts m h = world_by m.ended (term_of m) (state_of m (heap_world m.names h) [])

-- ---- the end

pub standing-end : (scripts : List Script) (m : Machine) (h : Heap)
    → (machine_standing scripts m h).over ≡ is_over (machine_run m h [])
unfolding standing_of
standing-end scripts m h = refl

-- ---- throws

going_thrown : (t : Term) (s : State) → thrown_of (run_of t s) ≡ option_map value_of (thrown t)
going_thrown (done v) s = refl
going_thrown (standing v place) s = refl
going_thrown (part f now later) s = refl

thrown_by : (o : Option End) (t : Term) (s : State)
    → IsKept o
    → thrown_of (run_by o t s) ≡ option_map value_of (until_end o (thrown t))
thrown_by None t s kept = going_thrown t s
thrown_by (Some (ends.Finished f)) t s kept = refl
thrown_by (Some ends.Effect) t s kept = refl
thrown_by (Some (ends.Full what)) t s kept = refl
thrown_by (Some ends.Lost) t s kept = absurd kept

pub standing-thrown : (scripts : List Script) (m : Machine) (h : Heap)
    → IsKept m.ended
    → (machine_standing scripts m h).thrown ≡ option_map value_of (until_end m.ended (thrown (term_of m)))
unfolding standing_of
standing-thrown scripts m h kept = thrown_by m.ended (term_of m) (state_of m (heap_world m.names h) []) kept

-- ---- frames

-- a program that is over has none
pub standing-over : (scripts : List Script) (r : Run) (f : runs.Finish) (s : State)
    → r ≡ over f s
    → (standing_of scripts r).frames ≡ []
unfolding standing_of
standing-over scripts r f s e = ap (frames_of scripts) e

ended_frames : (scripts : List Script) (o : Option End) (t : Term) (s : State)
    → IsKept o
    → is_some o ≡ true
    → frames_of scripts (run_by o t s) ≡ []
ended_frames scripts None t s kept some = absurd cc
ended_frames scripts (Some (ends.Finished f)) t s kept some = refl
ended_frames scripts (Some ends.Effect) t s kept some = refl
ended_frames scripts (Some (ends.Full what)) t s kept some = refl
ended_frames scripts (Some ends.Lost) t s kept some = absurd kept

pub standing-ended : (scripts : List Script) (m : Machine) (h : Heap)
    → IsKept m.ended
    → is_some m.ended ≡ true
    → (machine_standing scripts m h).frames ≡ []
unfolding standing_of
standing-ended scripts m h kept some =
    ended_frames scripts m.ended (term_of m) (state_of m (heap_world m.names h) []) kept some

going_frames : (scripts : List Script) (t : Term) (s : State)
    → IsRunning (run_of t s)
    → frames_of scripts (run_of t s) ≡ walk scripts script_scope t s
going_frames scripts (done v) s h = absurd h
going_frames scripts (standing v place) s h = refl
going_frames scripts (part f now later) s h = refl

-- where something is left to reduce, they are those that are walked over
pub standing-going : (scripts : List Script) (m : Machine) (h : Heap)
    → m.ended ≡ None
    → IsRunning (machine_run m h [])
    → (machine_standing scripts m h).frames ≡ walk scripts script_scope (term_of m)
    (state_of m (heap_world m.names h) [])
unfolding standing_of
standing-going scripts m h e is =
    let t : Term = term_of m in
    let s : State = state_of m (heap_world m.names h) [] in
    let k : run_by m.ended t s ≡ run_of t s = ap (λ o. run_by o t s) e in
    ap (frames_of scripts) k ∙ going_frames scripts t s (subst IsRunning k is)

-- as many as calls are active, with the script
pub standing-count : (scripts : List Script) (m : Machine) (h : Heap) (n : ℕ) (context : Context)
    → n ≡ length context.frames
    → context ≡ m.context
    → m.ended ≡ None
    → IsRunning (machine_run m h [])
    → n ≡ length (machine_standing scripts m h).frames
standing-count scripts m h n context count same e is =
    count
    ∙ ap (λ (c : Context). length c.frames) same
    ∙ sym (walk-length scripts script_scope (term_of m) (state_of m (heap_world m.names h) []))
    ∙ sym (ap length (standing-going scripts m h e is))

-- where there are none, none is so far from the top one
pub none-at : (frames : List ShownFrame) (depth : ℕ) → frames ≡ [] → None ≡ slice_get frames depth
none-at frames depth e = sym (ap (λ fs. slice_get fs depth) e)

-- what is evaluated in the first of some frames is evaluated in the top one
pub top-first : (walked : List ShownFrame) → top_of (option_to_list (slice_get walked 0)) ≡ top_of walked
top-first [] = refl
top-first (f ∷ fs) = refl

-- the walk over the parts of a machine is the walk over it
pub walk-parts : (scripts : List Script) (m : Machine) (h : Heap) (names : List (List ℕ)) (table : NodeTable)
    (root : Addr) (context : Context) (tasks : List Wide) (p : Point)
    → names ≡ m.names → table ≡ m.table → root ≡ script_scope → context ≡ m.context → tasks ≡ m.tasks → p ≡ m.point
    → walk scripts root (term_at names table tasks p) (contexts.state_of (heap_world names h) context [])
    ≡ walk scripts script_scope (term_of m) (state_of m (heap_world m.names h) [])
walk-parts scripts m h names table root context tasks p n t r c w q =
    let s : State = contexts.state_of (heap_world m.names h) m.context [] in
    ap (λ x. walk scripts x (term_at names table tasks p) (contexts.state_of (heap_world names h) context [])) r
    ∙ ap (λ x. walk scripts script_scope (term_at x table tasks p) (contexts.state_of (heap_world x h) context [])) n
    ∙ ap (λ x. walk scripts script_scope (term_at m.names table tasks p)
    (contexts.state_of (heap_world m.names h) x []))
    c
    ∙ ap (λ x. walk scripts script_scope (term_at m.names x tasks p) s) t
    ∙ ap (λ x. walk scripts script_scope (term_at m.names m.table x p) s) w
    ∙ ap (λ x. walk scripts script_scope (term_at m.names m.table m.tasks x) s) q
