-- In each configuration of a run of scripts every part is with its source.
use Rattle.std.proofs.Common.{◌≡◌, ℕ, zero, suc, Bool, true, false, List, [], ◌∷◌, Option, Some, None, sym, subst, if◌then◌else◌}
use Rattle.js_heap.specs.declared.value.Addr.{Addr}
use Rattle.js_heap.specs.declared.value.Value.{Value}
use Rattle.js_heap.specs.declared.value.Value.TheVariants as values
use Rattle.js_heap.specs.declared.cell.Binding.{Binding}
use Rattle.js_semantics.specs.declared.form.Source.{Source}
use Rattle.js_semantics.specs.declared.form.Source.TheVariants.{Script as script_source}
use Rattle.js_semantics.specs.declared.form.Form.{Form}
use Rattle.js_semantics.specs.declared.form.Form.TheVariants.{Scripts as scripts, Script as script}
use Rattle.js_semantics.specs.Terms.{Term, done, standing, part, Terms, end, more, all_done, settled, settle}
use Rattle.js_semantics.specs.State.{Frame, State, StepTold, Action, Move, goes, travels, has_effect, is_full, inside, go, rest_of, perform}
use Rattle.js_semantics.specs.Functions.{Program, with_functions, with_names}
use Rattle.js_semantics.specs.Rows.{script_frame, script_row}
use Rattle.js_semantics.specs.Next.{Walked, all_values, moved, with_value, around, next, walk}
use Rattle.js_semantics.specs.Run.{Run, running, over, run_of, run_after, step_in, steps_in}
use Rattle.js_heap.specs.BuiltIns.{script_scope}
use Rattle.locations.specs.declared.marks.Marked.{Marked}
use Rattle.locations_arrivals.specs.Belonging.{Belongs, AllBelong, MarkedSources, behind_step, sources_of, TermStands, MoveStands, ProgramBelongs, AllWait, ScriptStands, ScriptsStand, RunningStands, RunStands}
use Rattle.locations_arrivals.specs.Raises.{told_of}
use Rattle.js_semantics.proofs.ActionLemmas.{functions-goes, names-goes}
use Rattle.js_semantics.proofs.RowLemmas.{IsQuiet}
use Rattle.locations_arrivals.proofs.PartLemmas.{belonging, settle-belongs}
use Rattle.locations_arrivals.proofs.StepLemmas.{ActionStands, action-stands, perform-stands, next-stands}

-- ---- a script begins

-- the bottom frame, of a script that runs, with what it makes of a script
abbrev ScriptMoves : MarkedSources → Move Term → Type 0
ScriptMoves R (goes t s told) =
    (source : Source) × R.runs source × TermStands (behind_step R (Some told)) (source ∷ []) t (sources_of s.frames)
ScriptMoves R (travels c s) = Unit {0}
ScriptMoves R (has_effect s) = Unit {0}
ScriptMoves R (is_full what s) = Unit {0}

of-source : (R : MarkedSources) (source : Source) (m : Move Term)
    → R.runs source
    → MoveStands R (source ∷ []) m
    → ScriptMoves R m
of-source R source (goes t s told) r h = (source, r, h)
of-source R source (travels c s) r h = tt
of-source R source (has_effect s) r h = tt
of-source R source (is_full what s) r h = tt

rest-nothing : (fs : List Frame) (source : Source) → sources_of fs ≡ source ∷ [] → sources_of (rest_of fs) ≡ []
rest-nothing [] source e = cc
rest-nothing (f ∷ fs) source e = cc

-- what becomes of a script belongs to it, and the bottom frame is of its source
script-begins : (R : MarkedSources) (source : Source) (number : ℕ) (names : List Binding) (later : Terms) (s : State)
    → sources_of s.frames ≡ source ∷ []
    → R.runs source
    → R.runs (script_source number)
    → AllBelong (R.marks (script_source number)) later
    → ScriptMoves R (perform (script_row number names later) s)
script-begins R source number names end s e r w h = (source, r, e)
script-begins R source number names (more t fs) s e r w h =
    let P : Marked → Type 0 = R.marks (script_source number) in
    let own : List Source = script_source number ∷ [] in
    let made : Action = with_functions script_scope fs (go (settle t)) in
    let rest : Action = with_names script_scope names made in
    let Q : Term → Type 0 = λ x. Belongs P x in
    let belongs : IsQuiet (belonging P) rest = names-goes Q ⊥ script_scope names made
    (functions-goes Q ⊥ script_scope fs (go (settle t)) (settle-belongs P t h.0)) in
    of-source R (script_source number) (perform (script_row number names (more t fs)) s) w
    (perform-stands R own rest (record s { frames = script_frame number ∷ rest_of s.frames })
    (subst (λ (under : List Source). ActionStands R own (script_source number ∷ under) rest)
    (sym (rest-nothing s.frames source e)) (action-stands R own rest belongs)))

script-moves : (R : MarkedSources) (source : Source) (p : Program) (scope : Addr) (f : Form) (now later : Terms) (s : State)
    → ProgramBelongs R p
    → R.runs source
    → ScriptStands R source (part f now later) (sources_of s.frames)
    → ScriptMoves R (next p scope (part f now later) s)
script-moves R source p scope (script number names) end later s g r h =
    script-begins R source number names later s h.0 r h.1.0 h.1.1
script-moves R source p scope (script number names) (more t ts) later s g r h = absurd h.1
script-moves R source p scope f now later s g r h =
    of-source R source (next p scope (part f now later) s) r
    (next-stands R (source ∷ []) p scope (part f now later) s g h)

-- ---- scripts one after another

waits-stand : (R : MarkedSources) (source : Source) (ts : Terms) (all : List Source)
    → all ≡ source ∷ []
    → AllWait R ts
    → ScriptsStand R source ts all
waits-stand R source end all e h = e
waits-stand R source (more (done v) ts) all e h = absurd h.0
waits-stand R source (more (standing v place) ts) all e h = absurd h.0
waits-stand R source (more (part (script number names) now later) ts) all e h = ((e, h.0), h.1)
waits-stand R source (more (part f now later) ts) all e h = absurd h.0

script-stands : (R : MarkedSources) (source : Source) (f : Form) (now later : Terms) (all : List Source)
    → TermStands R (source ∷ []) (part f now later) all
    → ScriptStands R source (part f now later) all
script-stands R source (script number names) now later all h = absurd h.0
script-stands R source f now later all h = h

abbrev ScriptsMove : MarkedSources → Move Terms → Type 0
ScriptsMove R (goes ts s told) =
    (source : Source) × R.runs source × ScriptsStand (behind_step R (Some told)) source ts (sources_of s.frames)
ScriptsMove R (travels c s) = Unit {0}
ScriptsMove R (has_effect s) = Unit {0}
ScriptsMove R (is_full what s) = Unit {0}

abbrev ScriptsWalk : MarkedSources → Walked → Type 0
ScriptsWalk R (all_values vs) = Unit {0}
ScriptsWalk R (moved m) = ScriptsMove R m

inside-scripts : (R : MarkedSources) (ts : Terms) (m : Move Term)
    → AllWait R ts
    → ScriptMoves R m
    → ScriptsMove R (inside (λ t. more t ts) m)
inside-scripts R ts (goes (done v) s told) k h =
    (h.0, h.1, waits-stand (behind_step R (Some told)) h.0 ts (sources_of s.frames) h.2 k)
inside-scripts R ts (goes (standing v place) s told) k h = (h.0, h.1, (h.2.0, h.2.1, k))
inside-scripts R ts (goes (part f now later) s told) k h =
    (h.0, h.1, (script-stands (behind_step R (Some told)) h.0 f now later (sources_of s.frames) h.2, k))
inside-scripts R ts (travels c s) k h = tt
inside-scripts R ts (has_effect s) k h = tt
inside-scripts R ts (is_full what s) k h = tt

behind-value : (R : MarkedSources) (v : Value) (m : Move Terms)
    → ScriptsMove R m
    → ScriptsMove R (inside (λ ts. more (done v) ts) m)
behind-value R v (goes ts s told) h = h
behind-value R v (travels c s) h = tt
behind-value R v (has_effect s) h = tt
behind-value R v (is_full what s) h = tt

with_value-scripts : (R : MarkedSources) (v : Value) (x : Walked) → ScriptsWalk R x → ScriptsWalk R (with_value v x)
with_value-scripts R v (all_values vs) h = tt
with_value-scripts R v (moved m) h = behind-value R v m h

walk-scripts : (R : MarkedSources) (source : Source) (p : Program) (scope : Addr) (ts : Terms) (s : State)
    → ProgramBelongs R p
    → R.runs source
    → ScriptsStand R source ts (sources_of s.frames)
    → ScriptsWalk R (walk p scope ts s)
walk-scripts R source p scope end s g r h = tt
walk-scripts R source p scope (more (done v) ts) s g r h =
    with_value-scripts R v (walk p scope ts s) (walk-scripts R source p scope ts s g r h)
walk-scripts R source p scope (more (standing v place) ts) s g r h = tt
walk-scripts R source p scope (more (part f now later) ts) s g r h =
    inside-scripts R ts (next p scope (part f now later) s) h.1 (script-moves R source p scope f now later s g r h.0)

-- ---- runs

scripts_if : (R : MarkedSources) (b : Bool) (source : Source) (ts later : Terms) (s : State)
    → R.runs source
    → ScriptsStand R source ts (sources_of s.frames)
    → RunStands R (run_of (if b then done values.Undefined else part scripts ts later) s)
scripts_if R true source ts later s r h = tt
scripts_if R false source ts later s r h = (source, r, h)

-- a run behind a step
abbrev pub RunMoves : MarkedSources → Move Term → Type 0
RunMoves R m = RunStands (behind_step R (told_of m)) (run_after m)

around-scripts : (R : MarkedSources) (p : Program) (scope : Addr) (later : Terms) (s : State) (x : Walked)
    → ScriptsWalk R x
    → RunMoves R (around p scope scripts later s x)
around-scripts R p scope later s (all_values vs) h = tt
around-scripts R p scope later s (moved (goes ts t told)) h =
    scripts_if (behind_step R (Some told)) (all_done ts) h.0 ts later t h.1 h.2
around-scripts R p scope later s (moved (travels c t)) h = tt
around-scripts R p scope later s (moved (has_effect t)) h = tt
around-scripts R p scope later s (moved (is_full what t)) h = tt

pub run-moves : (R : MarkedSources) (p : Program) (scope : Addr) (t : Term) (s : State)
    → ProgramBelongs R p
    → RunningStands R t (sources_of s.frames)
    → RunMoves R (next p scope t s)
run-moves R p scope (done v) s g h = absurd h
run-moves R p scope (standing v place) s g h = absurd h
run-moves R p scope (part scripts now later) s g h =
    around-scripts R p scope later s (walk p scope now s) (walk-scripts R h.0 p scope now s g h.1 h.2)
run-moves R p scope (part f now later) s g h = absurd h

-- behind a step, whatever it told, or before the first one
abbrev pub RunStandsBehind : MarkedSources → Run → Type 0
RunStandsBehind R r = (told : Option StepTold) × RunStands (behind_step R told) r

step-stands : (R : MarkedSources) (p : Program) (scope : Addr) (r : Run)
    → ProgramBelongs R p
    → RunStands R r
    → RunStandsBehind R (step_in p scope r)
step-stands R p scope (running t s) g h = (told_of (next p scope t s), run-moves R p scope t s g h)
step-stands R p scope (over f s) g h = (None, tt)

pub steps-stand : (R : MarkedSources) (k : ℕ) (p : Program) (scope : Addr) (r : Run)
    → ProgramBelongs R p
    → RunStandsBehind R r
    → RunStandsBehind R (steps_in k p scope r)
steps-stand R zero p scope r g h = h
steps-stand R (suc k) p scope r g h =
    steps-stand R k p scope (step_in p scope r) g (step-stands (behind_step R h.0) p scope r g h.1)

pub start-stands : (R : MarkedSources) (source : Source) (ts : Terms) (s : State)
    → sources_of s.frames ≡ source ∷ []
    → R.runs source
    → AllWait R ts
    → RunStands R (run_of (settled scripts ts end) s)
start-stands R source ts s e r h =
    scripts_if R (all_done ts) source ts end s r (waits-stand R source ts (sources_of s.frames) e h)
