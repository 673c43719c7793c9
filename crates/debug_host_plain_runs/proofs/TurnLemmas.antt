-- Turns one after another.
use Rattle.std.proofs.Common.{◌≡◌, ℕ, ◌+◌, List, [], ◌++◌, Result, Ok, Err, refl, sym, ap, subst, ◌∙◌, append_assoc, append-nil}
use Rattle.std.specs.Prelude.{IsErrOf}
use Rattle.cdp_edge.specs.Outside.{gains}
use Rattle.cdp_edge.proofs.Gains.{gains-append, gains-nil, GainsPrefix-behind, GainsLess-behind}
use Rattle.js_heap.specs.BuiltIns.{script_scope}
use Rattle.js_heap.specs.World.{World}
use Rattle.js_semantics.specs.Functions.{Program}
use Rattle.js_semantics.specs.Run.{printed_of, steps_in}
use Rattle.js_semantics.proofs.FollowLemmas.{steps-more}
use Rattle.js_heap_memory.specs.Heaps.{Heap, heap_world}
use Rattle.js_machine_engine.specs.declared.run.Why.{Why}
use Rattle.js_machine_engine.specs.declared.run.Why.TheVariants as whys
use Rattle.js_machine.specs.Machines.{Machine, program_of, term_of, run_by, run_at, IsKept, end_of_run, HasSameCode}
use Rattle.js_machine.proofs.PlainLemmas.{still-kept, same-code, same_program}
use Rattle.cdp_edge_printing.specs.Printing.{printed_lines}
use Rattle.debug_host_plain_runs.specs.Turns.{run_from, HasTurned, HasCome, Prints, IsCutFrom, IsLessFrom}
use Rattle.cdp_edge_printing.proofs.PrintingLemmas.{lines-append}

-- ---- one turn

-- the texts that are taken are behind those taken before
taken_run : (n : Machine) (w : World) (taken : List (List ℕ))
    → run_at (record n { context = record n.context { printed = [] } }) w (taken ++ n.context.printed)
    ≡ run_at n w taken
taken_run n w taken =
    ap (λ (ps : List (List ℕ)). run_by n.ended (term_of n)
    (record {
      world = w;
      frames = n.context.frames;
      outer_this = n.context.outer_this;
      input = n.context.input;
      printed = ps;
    }))
    (append-nil (taken ++ n.context.printed))

turned_there : (m n : Machine) (v w : World) (k : ℕ) (texts : List (List ℕ))
    → HasSameCode m n
    → ((taken : List (List ℕ)) → run_at n w taken ≡ steps_in k (program_of m) script_scope (run_at m v taken))
    → texts ≡ n.context.printed
    → HasTurned m v (record n { context = record n.context { printed = [] } }) w texts
turned_there m n v w k texts code run e = record {
  steps = k;
  code = record { table = code.table; names = code.names };
  rest = refl;
  run =
      λ taken. ap
      (λ (ts : List (List ℕ)). run_at (record n { context = record n.context { printed = [] } }) w (taken ++ ts)) e
      ∙ taken_run n w taken
      ∙ run taken;
}

pub has_turned : (m n o : Machine) (v : World) (h : Heap) (k : ℕ) (why : Why) (texts : List (List ℕ))
    → HasSameCode m n
    → n.ended ≡ end_of_run why
    → (why ≡ whys.Memory → ⊥)
    → (IsKept n.ended
    → (taken : List (List ℕ))
    → run_at n (heap_world n.names h) taken ≡ steps_in k (program_of m) script_scope (run_at m v taken))
    → texts ≡ n.context.printed
    → o ≡ record n { context = record n.context { printed = [] } }
    → HasTurned m v o (heap_world o.names h) texts
has_turned m n o v h k why texts code end kept run e is =
    let P : Machine → Type 0 = λ o. HasTurned m v o (heap_world o.names h) texts in
    subst P (sym is) (turned_there m n v (heap_world n.names h) k texts code (run (still-kept why n.ended end kept)) e)

-- ---- one turn behind another

pub come_nowhere : (m : Machine) (v : World) (before : List ℕ)
    → m.context.printed ≡ []
    → HasCome m v m v before before
come_nowhere m v before none = record {
  texts = [];
  turned = record { steps = 0; code = same-code m; rest = none; run = λ taken. ap (run_at m v) (append-nil taken) };
  written = sym (gains-nil before);
}

-- steps behind a turn
steps_behind : (m n : Machine) (v w : World) (texts : List (List ℕ)) (h : HasTurned m v n w texts)
    (taken : List (List ℕ)) (k : ℕ)
    → run_from n w (taken ++ texts) k ≡ run_from m v taken (h.steps + k)
steps_behind m n v w texts h taken k =
    ap (λ (p : Program). steps_in k p script_scope (run_at n w (taken ++ texts))) (same_program m n h.code)
    ∙ ap (steps_in k (program_of m) script_scope) (h.run taken)
    ∙ sym (steps-more h.steps k (program_of m) script_scope (run_at m v taken))

pub come_on : (m n o : Machine) (v w x : World) (before now after : List ℕ)
    → HasCome m v n w before now
    → HasCome n w o x now after
    → HasCome m v o x before after
come_on m n o v w x before now after h i = record {
  texts = h.texts ++ i.texts;
  turned = record {
    steps = h.turned.steps + i.turned.steps;
    code =
        record { table = i.turned.code.table ∙ h.turned.code.table; names = i.turned.code.names ∙ h.turned.code.names };
    rest = i.turned.rest;
    run = λ taken.
        ap (run_at o x) (sym (append_assoc taken h.texts i.texts))
        ∙ i.turned.run (taken ++ h.texts)
        ∙ steps_behind m n v w h.texts h.turned taken i.turned.steps;
  };
  written =
      i.written
      ∙ ap (λ c. gains c (printed_lines i.texts)) h.written
      ∙ gains-append before (printed_lines h.texts) (printed_lines i.texts)
      ∙ ap (λ b. gains before b) (sym (lines-append h.texts i.texts));
}

prints_behind : (m n : Machine) (v w : World) (texts more : List (List ℕ))
    → HasTurned m v n w texts
    → Prints n w more
    → Prints m v (texts ++ more)
prints_behind m n v w texts more h i = record {
  steps = h.steps + i.steps;
  are =
      λ taken. ap printed_of (sym (steps_behind m n v w texts h taken i.steps))
      ∙ i.are (taken ++ texts)
      ∙ append_assoc taken texts more;
}

parts_behind : (texts more : List (List ℕ))
    → printed_lines (texts ++ more) ≡ printed_lines texts ++ printed_lines more ++ []
parts_behind texts more = lines-append texts more ∙ sym (append-nil (printed_lines texts ++ printed_lines more))

pub cut_on : (m n : Machine) (v w : World) (before now after : List ℕ)
    → HasCome m v n w before now
    → IsCutFrom n w now after
    → IsCutFrom m v before after
cut_on m n v w before now after h i = record {
  texts = h.texts ++ i.texts;
  prints = prints_behind m n v w h.texts i.texts h.turned i.prints;
  part =
      GainsPrefix-behind before now after (printed_lines h.texts) (printed_lines i.texts) []
      (printed_lines (h.texts ++ i.texts)) h.written (parts_behind h.texts i.texts) i.part;
}

pub less_on : (m n : Machine) (v w : World) (before now after : List ℕ)
    → HasCome m v n w before now
    → IsLessFrom n w now after
    → IsLessFrom m v before after
less_on m n v w before now after h i = record {
  texts = h.texts ++ i.texts;
  prints = prints_behind m n v w h.texts i.texts h.turned i.prints;
  less =
      GainsLess-behind before now after (printed_lines h.texts) (printed_lines i.texts) []
      (printed_lines (h.texts ++ i.texts)) h.written (parts_behind h.texts i.texts) i.less;
}

-- ---- faults

abbrev fault_in : {A E : Type 0} → E → Result A E → E
fault_in d (Ok x) = d
fault_in d (Err f) = f

-- a fault is this one, whatever else could have been answered
pub same_fault : {A B E : Type 0} (f g : E) → IsErrOf {T = A} {E = E} (Err f) g → IsErrOf {T = B} {E = E} (Err f) g
same_fault {B = B} {E = E} f g e = ap (λ (x : E). let r : Result B E = Err x in r) (ap (fault_in g) e)
