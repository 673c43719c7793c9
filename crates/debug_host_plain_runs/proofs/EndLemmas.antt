-- From the start of the scripts to the end of their run.
use Rattle.std.proofs.Common.{◌≡◌, ℕ, ◌+◌, List, [], ◌++◌, sym, ap, subst, ◌∙◌, append-nil}
use Rattle.cdp_edge.specs.Outside.{gains, GainsPrefix, GainsLess}
use Rattle.js_heap.specs.BuiltIns.{script_scope}
use Rattle.js_heap.specs.World.{World}
use Rattle.js_semantics.specs.Terms.{Terms}
use Rattle.js_semantics.specs.Functions.{Program}
use Rattle.js_semantics.specs.State.{State}
use Rattle.js_semantics.specs.Run as runs
use Rattle.js_semantics.specs.Run.{Run, over, printed_of, plain, start, steps_in}
use Rattle.js_semantics.proofs.FollowLemmas.{steps-more, steps-follows}
use Rattle.js_heap_memory.specs.Heaps.{heap_world}
use Rattle.js_machine_engine.specs.declared.stepped.Finish.{Finish}
use Rattle.js_machine_engine.specs.declared.stepped.Finish.TheVariants as finishes
use Rattle.js_machine_engine.specs.Stepping.{finish_of}
use Rattle.js_machine.specs.declared.machine.Started.{Started}
use Rattle.js_machine.specs.Machines.{Machine, run_at, state_of}
use Rattle.js_machine.specs.Starts.{IsStarted}
use Rattle.debug_host_plain_runs.specs.declared.end.PlainRunEnd.{PlainRunEnd}
use Rattle.debug_host_plain_runs.specs.declared.end.PlainRunEnd.TheVariants as ends
use Rattle.cdp_edge_printing.specs.Printing.{printed_lines}
use Rattle.debug_host_plain_runs.specs.Turns.{run_from, HasCome, IsCutFrom, IsLessFrom, IsOverBy}
use Rattle.debug_host_plain_runs.specs.Runs.{output_after, IsCut, IsCutShort, ComesTo, IsFirstPart, EndsBy}
use Rattle.cdp_edge_printing.proofs.PrintingLemmas.{lines-append, less-part, part-longer, whole-part}

-- ---- the start

from_start : (ts : Terms) (input : List (List ℕ)) (s : Started) (k : ℕ)
    → IsStarted ts input s
    → run_from s.machine (heap_world s.machine.names s.heap) [] k ≡ plain k ts input
from_start ts input s k h =
    ap (λ (p : Program). steps_in k p script_scope (run_at s.machine (heap_world s.machine.names s.heap) [])) h.program
    ∙ ap (steps_in k (runs.program_of ts) script_scope) h.run

-- ---- the end

-- where a machine is that is over, the run is over
pub run_over : (ts : Terms) (input : List (List ℕ)) (s : Started) (n : Machine) (w : World)
    (before now : List ℕ) (f : Finish)
    → IsStarted ts input s
    → (h : HasCome s.machine (heap_world s.machine.names s.heap) n w before now)
    → IsOverBy f n w
    → plain h.turned.steps ts input ≡ over (finish_of f) (state_of n w h.texts)
run_over ts input s n w before now f i h o =
    sym (from_start ts input s h.turned.steps i) ∙ sym (h.turned.run []) ∙ o h.texts

-- and all that it printed is written
pub all_written : (m n : Machine) (v w : World) (before now : List ℕ)
    → (h : HasCome m v n w before now)
    → now ≡ gains before (printed_lines (h.texts ++ n.context.printed))
all_written m n v w before now h =
    h.written
    ∙ ap (λ (ts : List (List ℕ)). gains before (printed_lines ts))
    (sym (ap (λ (ps : List (List ℕ)). h.texts ++ ps) h.turned.rest ∙ append-nil h.texts))

cut_at : (ts : Terms) (input : List (List ℕ)) (k : ℕ) (r : runs.Finish) (st : State) (before now : List ℕ)
    → plain k ts input ≡ over r st
    → now ≡ gains before (printed_lines st.printed)
    → IsCut ts input before now
cut_at ts input k r st before now is g = record {
  steps = k;
  part =
      whole-part before now (output_after k ts input)
      (g ∙ ap (λ (q : Run). gains before (printed_lines (printed_of q))) (sym is));
}

pub comes_over : (e : PlainRunEnd) (ts : Terms) (input : List (List ℕ)) (s : Started) (n : Machine) (w : World)
    (before now : List ℕ) (f : Finish)
    → IsStarted ts input s
    → HasCome s.machine (heap_world s.machine.names s.heap) n w before now
    → IsOverBy f n w
    → EndsBy e f w
    → ComesTo e ts input before now
comes_over ends.Ended ts input s n w before now (finishes.Ended v) i h o b = record {
  steps = h.turned.steps;
  value = v;
  state = state_of n w h.texts;
  is = run_over ts input s n w before now (finishes.Ended v) i h o;
  whole = all_written s.machine n (heap_world s.machine.names s.heap) w before now h;
}
comes_over ends.Ended ts input s n w before now (finishes.Threw v place) i h o b = absurd b
comes_over (ends.Threw text) ts input s n w before now (finishes.Ended v) i h o b = absurd b
comes_over (ends.Threw text) ts input s n w before now (finishes.Threw v place) i h o b = record {
  steps = h.turned.steps;
  value = v;
  place = place;
  state = state_of n w h.texts;
  is = run_over ts input s n w before now (finishes.Threw v place) i h o;
  told = b;
  whole = all_written s.machine n (heap_world s.machine.names s.heap) w before now h;
}
comes_over ends.CannotWrite ts input s n w before now f i h o b = absurd b
comes_over ends.Memory ts input s n w before now f i h o b =
    cut_at ts input h.turned.steps (finish_of f) (state_of n w h.texts) before now
    (run_over ts input s n w before now f i h o)
    (all_written s.machine n (heap_world s.machine.names s.heap) w before now h)

prints_out : (ts : Terms) (input : List (List ℕ)) (s : Started) (k : ℕ) (texts : List (List ℕ))
    → IsStarted ts input s
    → printed_of (run_from s.machine (heap_world s.machine.names s.heap) [] k) ≡ texts
    → printed_lines texts ≡ output_after k ts input
prints_out ts input s k texts i e = ap printed_lines (sym e ∙ ap printed_of (from_start ts input s k i))

pub comes_cut : (ts : Terms) (input : List (List ℕ)) (s : Started) (before now : List ℕ)
    → IsStarted ts input s
    → IsCutFrom s.machine (heap_world s.machine.names s.heap) before now
    → IsCut ts input before now
comes_cut ts input s before now i h = record {
  steps = h.prints.steps;
  part =
      subst (λ (b : List ℕ). GainsPrefix before now b)
      (prints_out ts input s h.prints.steps h.texts i (h.prints.are [])) h.part;
}

pub comes_short : (ts : Terms) (input : List (List ℕ)) (s : Started) (before now : List ℕ)
    → IsStarted ts input s
    → IsLessFrom s.machine (heap_world s.machine.names s.heap) before now
    → IsCutShort ts input before now
comes_short ts input s before now i h = record {
  steps = h.prints.steps;
  less =
      subst (λ (b : List ℕ). GainsLess before now b) (prints_out ts input s h.prints.steps h.texts i (h.prints.are []))
      h.less;
}

-- ---- a first part of the output

cut_of : (e : PlainRunEnd) (ts : Terms) (input : List (List ℕ)) (before now : List ℕ)
    → ComesTo e ts input before now
    → IsCut ts input before now
cut_of ends.Ended ts input before now h = cut_at ts input h.steps (runs.ended h.value) h.state before now h.is h.whole
cut_of (ends.Threw text) ts input before now h =
    cut_at ts input h.steps (runs.threw h.value h.place) h.state before now h.is h.whole
cut_of ends.CannotWrite ts input before now h =
    record { steps = h.steps; part = less-part before now (output_after h.steps ts input) h.less }
cut_of ends.Memory ts input before now h = h

-- what more steps print begins with what some print
pub output_goes_on : (ts : Terms) (input : List (List ℕ)) (k more : ℕ)
    → (rest : List ℕ) × (output_after (k + more) ts input ≡ output_after k ts input ++ rest)
output_goes_on ts input k more =
    let r : Run = plain k ts input in
    let grown = (steps-follows more (runs.program_of ts) script_scope r).output in (
      printed_lines grown.0,
      ap (λ (q : Run). printed_lines (printed_of q))
          (steps-more k more (runs.program_of ts) script_scope (start ts input))
          ∙ ap printed_lines grown.1 ∙ lines-append (printed_of r) grown.0,
    )

pub first_part : (e : PlainRunEnd) (ts : Terms) (input : List (List ℕ)) (before now : List ℕ)
    → ComesTo e ts input before now
    → IsFirstPart ts input before now
first_part e ts input before now h =
    let c = cut_of e ts input before now h in
    record {
      steps = c.steps;
      part = λ more.
          let on = output_goes_on ts input c.steps more in
          part-longer before now (output_after c.steps ts input) on.0 (output_after (c.steps + more) ts input)
          on.1 c.part;
    }
