-- Machines in the words of programs: where they arrive, what they have printed, whether they are over, and what their
-- steps are.
use Rattle.std.proofs.Common.{◌≡◌, ℕ, zero, suc, ◌-◌, ◌<◌, ◌≤◌, List, [], ◌∷◌, ◌++◌, length, Bool, true, false, not, ◌||◌, is_some, if◌then◌else◌, refl, ap, sym, subst, ◌∙◌, arith, append_assoc, append-nil, Option, Some, None}
use Rattle.std.proofs.lemmas.Bool.{or_parts}
use Rattle.std.specs.Option.{option_map}
use Rattle.cdp_host_isolation.specs.declared.seat.Seat.{Seat}
use Rattle.cdp_host_isolation.specs.declared.seat.Seat.TheVariants.{Attached, Lost, Left}
use Rattle.js_tree.specs.declared.script.Script.{Script}
use Rattle.js_heap.specs.declared.value.Addr.{Addr}
use Rattle.js_heap.specs.BuiltIns.{script_scope}
use Rattle.js_heap.specs.World.{World}
use Rattle.js_heap.specs.declared.value.Value.{Value}
use Rattle.js_semantics.specs.Terms.{Term, done, standing, part}
use Rattle.js_semantics.specs.State.{Frame, State, top_spot}
use Rattle.js_semantics.specs.Functions.{Program}
use Rattle.js_semantics.specs.Frames.{active, at, is_debugger, thrown}
use Rattle.js_semantics.specs.Run as runs
use Rattle.js_semantics.specs.Run.{Run, running, over, steps_in}
use Rattle.js_semantics.proofs.FollowLemmas.{run_of-state}
use Rattle.js_heap_memory.specs.Heaps.{Heap, heap_world}
use Rattle.js_machine_engine.specs.declared.run.Why.{Why}
use Rattle.js_machine_engine.specs.declared.run.Why.TheVariants as whys
use Rattle.js_machine_engine.specs.declared.stepped.Finish.{Finish}
use Rattle.js_machine_engine.specs.Prints.{IsSilent, PrintsAs, last_printed, values_printed}
use Rattle.js_machine_engine.specs.Running.{CountsAs, IsRunning, RunsFor, asks_at, HasPassed, passed_steps}
use Rattle.js_machine_engine.specs.Stepping.{finish_of}
use Rattle.js_machine_inspection.specs.Sources.{spans_in}
use Rattle.js_machine.specs.declared.end.End.{End}
use Rattle.js_machine.specs.declared.end.End.TheVariants as ends
use Rattle.js_machine.specs.Machines.{Machine, program_of, term_of, state_of, run_by, run_at, IsKept, finish_at, end_of_run}
use Rattle.js_machine.specs.Standing.{until_end, holds_until_end}
use Rattle.stepping.specs.declared.arrival.Arrival.{Arrival}
use Rattle.stepping.specs.declared.cause.Cause.TheVariants as causes
use Rattle.stepping.specs.declared.rules.Exceptions.{Exceptions}
use Rattle.stepping.specs.declared.rules.Exceptions.TheVariants as throws
use Rattle.stepping.specs.Causes.{stops_at_raise}
use Rattle.cdp_session.specs.Sessions.{Session}
use Rattle.cdp_session.specs.Situations.{Standing}
use Rattle.cdp_session.proofs.StopLemmas.{never-causes}
use Rattle.cdp_host.specs.Arrivals.{arrival_at, at_the_end, is_uncaught, place_at}
use Rattle.cdp_host.specs.Standings.{standing_of}
use Rattle.cdp_session.specs.Code.{code_of}
use Rattle.cdp_host.specs.Programs.{arrival_of, next, nexts, is_over, has_thrown, printed_of, prints_next, uncaught_text}
use Rattle.cdp_host.specs.Hosts.{Parts, machine_run, machine_arrival, run_with}
use Rattle.cdp_host.specs.Ran.{Advances, may_stop, may_stop_seat, stops_at, stops_seat}
use Rattle.cdp_host.specs.Watching.{prints_last}

-- ---- arrivals

-- where a machine that has ended so, or goes on, was left
abbrev arrival_until : List Script → Option End → Term → List Frame → Arrival
arrival_until scripts o t frames = record {
  place = place_at scripts (top_spot frames).source (until_end o (at (spans_in scripts (top_spot frames).source) t));
  depth = length frames - 1;
  debugger = holds_until_end o (is_debugger (active t));
  raised = option_map is_uncaught (until_end o (thrown t));
}

going_arrives : (scripts : List Script) (t : Term) (s : State)
    → arrival_at scripts t s.frames ≡ arrival_of scripts (runs.run_of t s)
unfolding arrival_of
going_arrives scripts (done v) s = refl
going_arrives scripts (standing v place) s = refl
going_arrives scripts (part f now later) s = refl

arrives_by : (scripts : List Script) (o : Option End) (t : Term) (s : State)
    → IsKept o
    → arrival_until scripts o t s.frames ≡ arrival_of scripts (run_by o t s)
unfolding arrival_of
arrives_by scripts None t s kept = going_arrives scripts t s
arrives_by scripts (Some (ends.Finished f)) t s kept = refl
arrives_by scripts (Some ends.Effect) t s kept = refl
arrives_by scripts (Some (ends.Full what)) t s kept = refl
arrives_by scripts (Some ends.Lost) t s kept = absurd kept

-- a machine was left where its run was
pub arrives : (scripts : List Script) (m : Machine) (h : Heap) (taken : List (List ℕ))
    → IsKept m.ended
    → machine_arrival scripts m ≡ arrival_of scripts (machine_run m h taken)
arrives scripts m h taken kept = arrives_by scripts m.ended (term_of m) (state_of m (heap_world m.names h) taken) kept

-- nobody may name a stop where a program is over
pub unraised : (b : Bool) (e : Exceptions)
    → is_some (if b then None else if stops_at_raise e None then Some causes.Exception else None) ≡ false
unraised true e = refl
unraised false throws.Never = refl
unraised false throws.Uncaught = refl
unraised false throws.All = refl

unnamed_seat : (s : State) (seat : Seat Session) → may_stop_seat (at_the_end s) seat ≡ false
unnamed_seat s (Attached x) = unraised (not x.rules.enabled || x.rules.skip) x.rules.exceptions
unnamed_seat s (Lost loss is_reported is_told) = refl
unnamed_seat s Left = refl

pub unnamed-end : (s : State) (seats : List (Seat Session)) → may_stop (at_the_end s) seats ≡ false
unnamed-end s [] = refl
unnamed-end s (seat ∷ seats) = rw (unnamed_seat s seat) (unnamed-end s seats)

-- where they may name none, they name none, however the program stands
never_seat : (s : Standing) (a : Arrival) (seat : Seat Session)
    → may_stop_seat a seat ≡ false
    → stops_seat s a seat ≡ false
never_seat s a (Attached x) never = never-causes s a x never
never_seat s a (Lost loss is_reported is_told) never = refl
never_seat s a Left never = refl

pub never-named : (s : Standing) (a : Arrival) (seats : List (Seat Session))
    → may_stop a seats ≡ false
    → stops_at s a seats ≡ false
never-named s a [] never = refl
never-named s a (seat ∷ seats) never =
    let parts = or_parts (may_stop_seat a seat) (may_stop a seats) never in
    rw (never_seat s a seat parts.0) (never-named s a seats parts.1)

-- ---- texts printed

printed_by : (o : Option End) (t : Term) (s : State) → printed_of (run_by o t s) ≡ s.printed
printed_by None t s = ap (λ u. u.printed) (run_of-state t s)
printed_by (Some (ends.Finished f)) t s = refl
printed_by (Some ends.Effect) t s = refl
printed_by (Some (ends.Full what)) t s = refl
printed_by (Some ends.Lost) t s = ap (λ u. u.printed) (run_of-state t s)

-- those that were taken, and then those that the machine holds
pub run-printed : (p : Parts) (taken : List (List ℕ))
    → printed_of (run_with taken p) ≡ taken ++ p.machine.context.printed
run-printed p taken =
    printed_by p.machine.ended (term_of p.machine) (state_of p.machine (heap_world p.machine.names p.heap) taken)

-- texts that are taken from a machine are still those of its run
pub handed-over : (m n : Machine) (h : Heap) (texts taken : List (List ℕ))
    → texts ≡ m.context.printed
    → n ≡ record m { context = record m.context { printed = [] } }
    → machine_run n h (taken ++ texts) ≡ machine_run m h taken
handed-over m n h texts taken is rest =
    let f : List (List ℕ)
    → Run = λ printed. run_by m.ended (term_of m)
    (record (state_of m (heap_world m.names h) taken) { printed = printed }) in
    ap (λ k. machine_run k h (taken ++ texts)) rest ∙ ap f (append-nil (taken ++ texts) ∙ ap (λ xs. taken ++ xs) is)

-- so a stretch of steps leads to where the texts behind it are handed out
pub advance-printed : (scripts : List Script) (seats : List (Seat Session)) (most k : ℕ) (r : Run) (n o : Machine)
    (i : Heap) (texts before after taken : List (List ℕ))
    → Advances scripts seats most k r (machine_run n i (taken ++ before))
    → texts ≡ n.context.printed
    → o ≡ record n { context = record n.context { printed = [] } }
    → after ≡ before ++ texts
    → Advances scripts seats most k r (machine_run o i (taken ++ after))
advance-printed scripts seats most k r n o i texts before after taken steps is rest all =
    let P : Run → Type 0 = Advances scripts seats most k r in
    let e : machine_run n i (taken ++ before) ≡ machine_run o i (taken ++ after) =
    sym (handed-over n o i texts (taken ++ before) is rest)
    ∙ ap (machine_run o i) (append_assoc taken before texts ∙ ap (λ xs. taken ++ xs) (sym all)) in
    subst P e steps

-- ---- the end

pub ended-over : (o : Option End) (t : Term) (s : State) → IsKept o → is_some o ≡ true → is_over (run_by o t s) ≡ true
ended-over None t s kept some = absurd cc
ended-over (Some (ends.Finished f)) t s kept some = refl
ended-over (Some ends.Effect) t s kept some = refl
ended-over (Some (ends.Full what)) t s kept some = refl
ended-over (Some ends.Lost) t s kept some = absurd kept

going_by : (o : Option End) (t : Term) (s : State) → IsKept o → is_over (run_by o t s) ≡ false → o ≡ None
going_by None t s kept goes = refl
going_by (Some (ends.Finished f)) t s kept goes = absurd cc
going_by (Some ends.Effect) t s kept goes = absurd cc
going_by (Some (ends.Full what)) t s kept goes = absurd cc
going_by (Some ends.Lost) t s kept goes = absurd kept

-- nothing has ended a machine whose run isn't over
pub still-going : (m : Machine) (h : Heap) (taken : List (List ℕ))
    → IsKept m.ended
    → is_over (machine_run m h taken) ≡ false
    → m.ended ≡ None
still-going m h taken kept goes = going_by m.ended (term_of m) (state_of m (heap_world m.names h) taken) kept goes

runs_on : (r : Run) → IsRunning r → is_over r ≡ false
runs_on (running t s) h = refl
runs_on (over f s) h = absurd h

unthrown : (r : Run) → is_over r ≡ false → has_thrown r ≡ false
unthrown (running t s) h = refl
unthrown (over f s) h = absurd cc

-- the run of a machine that is finished
abbrev pub IsOverBy : Machine → Finish → Type 0
IsOverBy m f = (w : World) (taken : List (List ℕ)) → run_at m w taken ≡ over (finish_of f) (state_of m w taken)

-- of one that isn't, and that nothing else ended
abbrev pub Goes : Machine → Type 0
Goes m = m.ended ≡ None → (w : World) (taken : List (List ℕ)) → IsRunning (run_at m w taken)

pub finished-over : (m : Machine) (h : Heap) (taken : List (List ℕ)) (f : Finish)
    → IsOverBy m f
    → is_over (machine_run m h taken) ≡ true
finished-over m h taken f is = ap is_over (is (heap_world m.names h) taken)

pub finished-thrown : (m : Machine) (h : Heap) (taken : List (List ℕ)) (f : Finish) (b : Bool)
    → IsOverBy m f
    → has_thrown (over (finish_of f) (state_of m (heap_world m.names h) taken)) ≡ b
    → has_thrown (machine_run m h taken) ≡ b
finished-thrown m h taken f b is by = ap has_thrown (is (heap_world m.names h) taken) ∙ by

unfinished_by : (m : Machine) (h : Heap) (taken : List (List ℕ)) (o : Option End)
    → m.ended ≡ o
    → IsKept m.ended
    → Goes m
    → is_some o ≡ is_over (machine_run m h taken)
unfinished_by m h taken None is kept goes = sym (runs_on (machine_run m h taken) (goes is (heap_world m.names h) taken))
unfinished_by m h taken (Some e) is kept goes =
    sym (ended-over m.ended (term_of m) (state_of m (heap_world m.names h) taken) kept (ap is_some is))

pub unfinished-over : (m : Machine) (h : Heap) (taken : List (List ℕ))
    → IsKept m.ended
    → Goes m
    → is_some m.ended ≡ is_over (machine_run m h taken)
unfinished-over m h taken kept goes = unfinished_by m h taken m.ended refl kept goes

not_thrown : (m : Machine) (h : Heap) (taken : List (List ℕ)) (o : Option End)
    → m.ended ≡ o
    → IsKept o
    → Goes m
    → finish_at o m.point ≡ None
    → has_thrown (machine_run m h taken) ≡ false
not_thrown m h taken None is kept goes none =
    unthrown (machine_run m h taken) (runs_on (machine_run m h taken) (goes is (heap_world m.names h) taken))
not_thrown m h taken (Some (ends.Finished f)) is kept goes none = absurd cc
not_thrown m h taken (Some ends.Effect) is kept goes none =
    ap (λ e. has_thrown (run_by e (term_of m) (state_of m (heap_world m.names h) taken))) is
not_thrown m h taken (Some (ends.Full what)) is kept goes none =
    ap (λ e. has_thrown (run_by e (term_of m) (state_of m (heap_world m.names h) taken))) is
not_thrown m h taken (Some ends.Lost) is kept goes none = absurd kept

pub unfinished-thrown : (m : Machine) (h : Heap) (taken : List (List ℕ))
    → IsKept m.ended
    → Goes m
    → finish_at m.ended m.point ≡ None
    → has_thrown (machine_run m h taken) ≡ false
unfinished-thrown m h taken kept goes none = not_thrown m h taken m.ended refl kept goes none

-- a run that no throw ended has no text of one
pub no-text : (r : Run) → has_thrown r ≡ false → uncaught_text r ≡ None
no-text (running t s) none = refl
no-text (over (runs.ended v) s) none = refl
no-text (over (runs.threw v place) s) none = absurd cc
no-text (over runs.by_effect s) none = refl
no-text (over (runs.by_full what) s) none = refl

-- ---- steps

-- the question whether a session may name a stop, as it is put behind a step
abbrev pub asked : List Script → List (Seat Session) → Term → List Frame → Bool
asked scripts seats t frames = may_stop (arrival_at scripts t frames) seats

asked_there : (scripts : List Script) (seats : List (Seat Session)) (r : Run)
    → asks_at (asked scripts seats) r ≡ may_stop (arrival_of scripts r) seats
unfolding arrival_of
asked_there scripts seats (running t s) = refl
asked_there scripts seats (over f s) = sym (unnamed-end s seats)

nexts_are : (k : ℕ) (scripts : List Script) (r : Run) → steps_in k (code_of scripts) script_scope r ≡ nexts scripts k r
unfolding next
nexts_are zero scripts r = refl
nexts_are (suc k) scripts r = nexts_are k scripts (next scripts r)

left_over : (k j : ℕ) (p : Program) (a : Addr) (r : Run) → RunsFor k p a r → j < k → is_over (steps_in j p a r) ≡ false
left_over zero j p a r left below = absurd (omega arith)
left_over (suc k) zero p a r left below = runs_on r left.0
left_over (suc k) (suc j) p a r left below = left_over k j p a (runs.step_in p a r) left.1 (omega arith)

-- all steps but the last are among those behind which the question is answered by no
all_but_last : (why : Why) (k : ℕ) → k - 1 ≤ passed_steps why k
all_but_last whys.Asked k = omega arith
all_but_last whys.Spent k = omega arith
all_but_last whys.Raised k = omega arith
all_but_last (whys.Printed vs) k = omega arith
all_but_last (whys.Over f) k = omega arith
all_but_last whys.Effect k = omega arith
all_but_last (whys.Full what) k = omega arith
all_but_last whys.Memory k = omega arith

-- a run that makes no step though it may has ended
none_ended : (why : Why) (most : ℕ) → 0 < most → CountsAs why 0 most → is_some (end_of_run why) ≡ true
none_ended whys.Asked most some counts = absurd (omega arith)
none_ended whys.Spent most some counts = absurd (omega arith)
none_ended whys.Raised most some counts = absurd (omega arith)
none_ended (whys.Printed vs) most some counts = absurd (omega arith)
none_ended (whys.Over f) most some counts = refl
none_ended whys.Effect most some counts = refl
none_ended (whys.Full what) most some counts = refl
none_ended whys.Memory most some counts = refl

-- what a machine's run says of it before and behind
pub record HasRun (scripts : List Script) (seats : List (Seat Session)) (most : ℕ) (m : Machine) (h : Heap)
    (n : Machine) (i : Heap) (k : ℕ) (why : Why) : Type 0 where
  pub runs : IsKept n.ended
      → (taken : List (List ℕ))
      → machine_run n i taken ≡ steps_in k (program_of m) script_scope (machine_run m h taken)
  pub left : (taken : List (List ℕ)) → RunsFor k (program_of m) script_scope (machine_run m h taken)
  pub within : k ≤ most
  pub counted : CountsAs why k most
  pub passed : (taken : List (List ℕ))
      → HasPassed (asked scripts seats) (passed_steps why k) (program_of m) script_scope (machine_run m h taken)
  pub end : n.ended ≡ end_of_run why
  pub values : (taken : List (List ℕ))
      → PrintsAs why (last_printed k (program_of m) script_scope (machine_run m h taken))
  pub silent : (taken : List (List ℕ)) → IsSilent (k - 1) (program_of m) script_scope (machine_run m h taken)

-- the values that a step of it prints, in the words of the host's program
prints_there : (j : ℕ) (scripts : List Script) (p : Program) (r : Run)
    → p ≡ code_of scripts
    → values_printed p script_scope (steps_in j p script_scope r) ≡ prints_next scripts (nexts scripts j r)
unfolding prints_next
prints_there j scripts p r code =
    ap (λ q. values_printed q script_scope (steps_in j q script_scope r)) code
    ∙ ap (values_printed (code_of scripts) script_scope) (nexts_are j scripts r)

last_there : (k : ℕ) (scripts : List Script) (p : Program) (r : Run)
    → 0 < k
    → p ≡ code_of scripts
    → last_printed k p script_scope r ≡ prints_last scripts k r
last_there zero scripts p r some code = absurd (omega arith)
last_there (suc j) scripts p r some code =
    let e : j ≡ suc j - 1 = omega arith in
    prints_there j scripts p r code ∙ ap (λ i. prints_next scripts (nexts scripts i r)) e

some_steps : (most k : ℕ) (n : Machine) (h i : Heap) (m : Machine) (why : Why) (taken : List (List ℕ))
    → 0 < most
    → CountsAs why k most
    → n.ended ≡ end_of_run why
    → IsKept n.ended
    → machine_run n i taken ≡ steps_in k (program_of m) script_scope (machine_run m h taken)
    → is_over (machine_run m h taken) ≡ false
    → 0 < k
some_steps most zero n h i m why taken some counted end kept same goes =
    let ends : is_over (machine_run n i taken) ≡ true = ended-over n.ended (term_of n)
    (state_of n (heap_world n.names i) taken) kept (ap is_some end ∙ none_ended why most some counted) in
    let on : is_over (machine_run n i taken) ≡ false = ap is_over same ∙ goes in
    absurd cc
some_steps most (suc k) n h i m why taken some counted end kept same goes = omega arith

-- it is a stretch of steps
pub has-advanced : (scripts : List Script) (seats : List (Seat Session)) (most : ℕ) (m : Machine) (h : Heap)
    (n : Machine) (i : Heap) (k : ℕ) (why : Why)
    → HasRun scripts seats most m h n i k why
    → program_of m ≡ code_of scripts
    → 0 < most
    → IsKept n.ended
    → ((taken : List (List ℕ)) → is_over (machine_run m h taken) ≡ false)
    → (taken : List (List ℕ))
    → Advances scripts seats most k (machine_run m h taken) (machine_run n i taken)
has-advanced scripts seats most m h n i k why ran code some kept goes taken =
    let r : Run = machine_run m h taken in
    let there : (j : ℕ)
    → steps_in j (program_of m) script_scope r ≡ nexts scripts j r = λ j. ap (λ p. steps_in j p script_scope r) code
    ∙ nexts_are j scripts r in
    record {
      counts =
          record {
            some = some_steps most k n h i m why taken some ran.counted ran.end kept (ran.runs kept taken)
                (goes taken);
            within = ran.within;
          };
      reached = ran.runs kept taken ∙ there k;
      runs = λ j below. ap is_over (sym (there j)) ∙ left_over k j (program_of m) script_scope r (ran.left taken) below;
      silent =
          λ j below. sym (prints_there j scripts (program_of m) r code)
          ∙ (ran.silent taken).none j (omega (arith, below));
      passes = λ j first below.
          let low = all_but_last why k in
          never-named (standing_of scripts (nexts scripts j r)) (arrival_of scripts (nexts scripts j r)) seats
          (sym (asked_there scripts seats (nexts scripts j r))
          ∙ ap (asks_at (asked scripts seats)) (sym (there j))
          ∙ (ran.passed taken).none j first (omega (arith, low)));
    }

-- the values that why it stopped tells are those of its last step
pub has-printed : (scripts : List Script) (seats : List (Seat Session)) (most : ℕ) (m : Machine) (h : Heap)
    (n : Machine) (i : Heap) (k : ℕ) (why : Why) (values : Option (List Value))
    → HasRun scripts seats most m h n i k why
    → program_of m ≡ code_of scripts
    → 0 < most
    → IsKept n.ended
    → ((taken : List (List ℕ)) → is_over (machine_run m h taken) ≡ false)
    → ((o : Option (List Value)) → IsKept (end_of_run why) → PrintsAs why o → values ≡ o)
    → (taken : List (List ℕ)) → values ≡ prints_last scripts k (machine_run m h taken)
has-printed scripts seats most m h n i k why values ran code some kept goes tells taken =
    let r : Run = machine_run m h taken in
    tells (last_printed k (program_of m) script_scope r) (subst IsKept ran.end kept) (ran.values taken)
    ∙ last_there k scripts (program_of m) r
    (some_steps most k n h i m why taken some ran.counted ran.end kept (ran.runs kept taken) (goes taken)) code
