-- Steps one after another, and runs that are over.
use Rattle.std.specs.Option.{is_some}
use Rattle.std.proofs.Common.{◌≡◌, ℕ, zero, suc, ◌+◌, ◌-◌, ◌<◌, ◌≤◌, true, List, [], Option, None, Some, refl, sym, ap, subst, ◌∙◌, arith, add-one}
use Rattle.js_heap.specs.declared.value.Addr.{Addr}
use Rattle.js_heap.specs.BuiltIns.{script_scope}
use Rattle.js_heap.specs.World.{World}
use Rattle.js_semantics.specs.Terms.{Term, Terms}
use Rattle.js_semantics.specs.State.{State}
use Rattle.js_semantics.specs.Functions.{Program}
use Rattle.js_semantics.specs.Run as runs
use Rattle.js_semantics.specs.Run.{Run, running, over, step_in, steps_in, steps_taken, start, plain}
use Rattle.js_heap_memory.specs.Heaps.{heap_world}
use Rattle.js_machine_engine.specs.declared.run.Why.{Why}
use Rattle.js_machine_engine.specs.declared.run.Why.TheVariants as whys
use Rattle.js_machine_engine.specs.Running.{CountsAs, RunsFor}
use Rattle.js_machine.specs.declared.end.End.{End}
use Rattle.js_machine.specs.declared.end.End.TheVariants as ends
use Rattle.js_machine.specs.Machines.{Machine, program_of, term_of, state_of, run_by, run_at, IsKept, end_of_run, HasSameCode}
use Rattle.js_machine.specs.declared.machine.Started.{Started}
use Rattle.js_machine.specs.Plain.{HasMadeSteps, HasRunWithin}
use Rattle.js_machine.specs.Starts.{IsStarted}
use Rattle.js_semantics.proofs.FollowLemmas.{steps-more}

-- ---- runs

abbrev IsOver : Run → Type 0
IsOver (running t s) = ⊥
IsOver (over f s) = Unit {0}

over_stays : (k : ℕ) (p : Program) (a : Addr) (r : Run) → IsOver r → steps_in k p a r ≡ r
over_stays zero p a r h = refl
over_stays (suc k) p a (running t s) h = absurd h
over_stays (suc k) p a (over f s) h = over_stays k p a (over f s) tt

left_more : (j k : ℕ) (p : Program) (a : Addr) (r : Run)
    → RunsFor j p a r
    → RunsFor k p a (steps_in j p a r)
    → RunsFor (j + k) p a r
left_more zero k p a r h i =
    let P : ℕ → Type 0 = λ n. RunsFor n p a r in let e : k ≡ zero + k = omega arith in subst P e i
left_more (suc j) k p a r h i =
    let P : ℕ → Type 0 = λ n. RunsFor n p a r in
    let e : suc (j + k) ≡ suc j + k = omega arith in
    subst P e (h.0, left_more j k p a (step_in p a r) h.1 i)

taken_for : (k : ℕ) (p : Program) (r : Run) → RunsFor k p script_scope r → steps_taken k p r ≡ k
taken_for zero p r h = refl
taken_for (suc k) p (running t s) h =
    ap (λ n. n + 1) (taken_for k p (step_in p script_scope (running t s)) h.1) ∙ add-one k
taken_for (suc k) p (over f s) h = absurd h.0

taken_over : (k j : ℕ) (p : Program) (r : Run)
    → RunsFor k p script_scope r
    → IsOver (steps_in k p script_scope r)
    → steps_taken (k + j) p r ≡ k
taken_over zero zero p r h o = refl
taken_over zero (suc j) p (running t s) h o = absurd o
taken_over zero (suc j) p (over f s) h o =
    let e : zero + suc j ≡ suc j = omega arith in ap (λ n. steps_taken n p (over f s)) e
taken_over (suc k) j p (running t s) h o =
    let e : suc k + j ≡ suc (k + j) = omega arith in
    ap (λ n. steps_taken n p (running t s)) e
    ∙ ap (λ n. n + 1) (taken_over k j p (step_in p script_scope (running t s)) h.1 o)
    ∙ add-one k
taken_over (suc k) j p (over f s) h o = absurd h.0

-- ---- machines

pub same_program : (m n : Machine) → HasSameCode m n → program_of n ≡ program_of m
same_program m n h = rw (h.table, h.names) refl

pub same-code : (m : Machine) → HasSameCode m m
same-code m = record { table = refl; names = refl }

more_code : (m n o : Machine) → HasSameCode m n → HasSameCode n o → HasSameCode m o
more_code m n o h i = record { table = i.table ∙ h.table; names = i.names ∙ h.names }

pub made-more : (m n o : Machine) (v w x : World) (j k : ℕ) → HasMadeSteps m v n w j → HasSameCode n o → IsKept o.ended
    → ((taken : List (List ℕ)) → run_at o x taken ≡ steps_in k (program_of n) script_scope (run_at n w taken))
    → ((taken : List (List ℕ)) → RunsFor k (program_of n) script_scope (run_at n w taken))
    → HasMadeSteps m v o x (j + k)
made-more m n o v w x j k h c kept runs left = record {
  code = more_code m n o h.code c;
  kept = kept;
  runs = λ taken.
      runs taken
      ∙ ap (λ p. steps_in k p script_scope (run_at n w taken)) (same_program m n h.code)
      ∙ ap (steps_in k (program_of m) script_scope) (h.runs taken)
      ∙ sym (steps-more j k (program_of m) script_scope (run_at m v taken));
  left = λ taken.
      let P : Program → Type 0 = λ p. RunsFor k p script_scope (run_at n w taken) in
      let Q : Run → Type 0 = RunsFor k (program_of m) script_scope in
      left_more j k (program_of m) script_scope (run_at m v taken) (h.left taken)
      (subst Q (h.runs taken) (subst P (same_program m n h.code) (left taken)));
}

-- all steps are made
pub made-all : (m n : Machine) (v w : World) (most k : ℕ)
    → HasMadeSteps m v n w k
    → k ≡ most
    → HasRunWithin m v n w most k
made-all m n v w most k h e = record {
  code = h.code;
  reached = λ taken. h.runs taken ∙ ap (λ i. steps_in i (program_of m) script_scope (run_at m v taken)) e;
  counted =
      λ taken. sym (taken_for k (program_of m) (run_at m v taken) (h.left taken))
      ∙ ap (λ i. steps_taken i (program_of m) (run_at m v taken)) e;
}

end_over : (e : End) (t : Term) (s : State) → IsKept (Some e) → IsOver (run_by (Some e) t s)
end_over (ends.Finished f) t s h = tt
end_over ends.Effect t s h = tt
end_over (ends.Full what) t s h = tt
end_over ends.Lost t s h = absurd h

-- the run is over
made_over : (m n : Machine) (v w : World) (k left most : ℕ)
    → HasMadeSteps m v n w k
    → k + left ≡ most
    → ((taken : List (List ℕ)) → IsOver (run_at n w taken))
    → HasRunWithin m v n w most k
made_over m n v w k left most h e o = record {
  code = h.code;
  reached = λ taken.
      let r : Run = run_at m v taken in
      let P : Run → Type 0 = IsOver in
      h.runs taken
      ∙ sym (over_stays left (program_of m) script_scope (steps_in k (program_of m) script_scope r)
      (subst P (h.runs taken) (o taken)))
      ∙ sym (steps-more k left (program_of m) script_scope r) ∙ ap (λ i. steps_in i (program_of m) script_scope r) e;
  counted = λ taken.
      let r : Run = run_at m v taken in
      let P : Run → Type 0 = IsOver in
      sym (taken_over k left (program_of m) r (h.left taken) (subst P (h.runs taken) (o taken)))
      ∙ ap (λ i. steps_taken i (program_of m) r) e;
}

pub made-ended : (m n : Machine) (v w : World) (k left most : ℕ) (e : End)
    → n.ended ≡ Some e
    → HasMadeSteps m v n w k
    → k + left ≡ most
    → HasRunWithin m v n w most k
made-ended m n v w k left most e is h sum =
    let K : Option End → Type 0 = IsKept in
    let O : State → Option End → Type 0 = λ s o. IsOver (run_by o (term_of n) s) in
    made_over m n v w k left most h sum
    (λ taken. subst (O (state_of n w taken)) (sym is)
    (end_over e (term_of n) (state_of n w taken) (subst K is h.kept)))

-- a run that makes no step though it may has ended
abbrev HasEnded : Option End → Type 0
HasEnded None = ⊥
HasEnded (Some e) = Unit {0}

none_ended : (why : Why) (most : ℕ) → 0 < most → CountsAs why 0 most → HasEnded (end_of_run why)
none_ended whys.Asked most h c = absurd (omega arith)
none_ended whys.Spent most h c = absurd (omega arith)
none_ended whys.Raised most h c = absurd (omega arith)
none_ended (whys.Printed vs) most h c = absurd (omega arith)
none_ended (whys.Over f) most h c = tt
none_ended whys.Effect most h c = tt
none_ended (whys.Full what) most h c = tt
none_ended whys.Memory most h c = tt

ended_by : (m n : Machine) (v w : World) (k left most : ℕ) (o : Option End)
    → n.ended ≡ o
    → HasEnded o
    → HasMadeSteps m v n w k
    → k + left ≡ most
    → HasRunWithin m v n w most k
ended_by m n v w k left most None is h made sum = absurd h
ended_by m n v w k left most (Some e) is h made sum = made-ended m n v w k left most e is made sum

pub made-stopped : (m n : Machine) (v w : World) (k left most : ℕ) (why : Why)
    → n.ended ≡ end_of_run why
    → 0 < left
    → CountsAs why 0 left
    → HasMadeSteps m v n w k
    → k + left ≡ most
    → HasRunWithin m v n w most k
made-stopped m n v w k left most why is h c made sum =
    ended_by m n v w k left most (end_of_run why) is (none_ended why left h c) made sum

-- the machine wasn't given up
kept_by : (why : Why) → (why ≡ whys.Memory → ⊥) → IsKept (end_of_run why)
kept_by whys.Asked h = tt
kept_by whys.Spent h = tt
kept_by whys.Raised h = tt
kept_by (whys.Printed vs) h = tt
kept_by (whys.Over f) h = tt
kept_by whys.Effect h = tt
kept_by (whys.Full what) h = tt
kept_by whys.Memory h = absurd (h refl)

pub still-kept : (why : Why) (o : Option End) → o ≡ end_of_run why → (why ≡ whys.Memory → ⊥) → IsKept o
still-kept why o e h = let P : Option End → Type 0 = IsKept in subst P (sym e) (kept_by why h)

-- what a run says of the machines before and behind it
pub record HasRunOn (n : Machine) (w : World) (o : Machine) (x : World) (k : ℕ) (why : Why) : Type 0 where
  pub run : IsKept o.ended
      → (taken : List (List ℕ))
      → run_at o x taken ≡ steps_in k (program_of n) script_scope (run_at n w taken)
  pub left : (taken : List (List ℕ)) → RunsFor k (program_of n) script_scope (run_at n w taken)
  pub end : o.ended ≡ end_of_run why
  pub code : HasSameCode n o
  pub kept : why ≡ whys.Memory → ⊥

pub made-on : (m n o : Machine) (v w x : World) (most left k : ℕ) (why : Why)
    → HasMadeSteps m v n w (most - left)
    → left ≤ most
    → k ≤ left
    → HasRunOn n w o x k why
    → HasMadeSteps m v o x (most - (left - k))
made-on m n o v w x most left k why h l i r =
    let P : ℕ → Type 0 = HasMadeSteps m v o x in
    let e : (most - left) + k ≡ most - (left - k) = omega arith in
    let kept = still-kept why o.ended r.end r.kept in
    subst P e (made-more m n o v w x (most - left) k h r.code kept (r.run kept) r.left)

pub made-still : (m n o : Machine) (v w x : World) (most left k : ℕ) (why : Why)
    → HasMadeSteps m v n w (most - left)
    → left ≤ most
    → k ≤ left
    → HasRunOn n w o x k why
    → 0 < left
    → CountsAs why k left
    → k ≡ 0
    → HasRunWithin m v o x most (most - (left - k))
made-still m n o v w x most left k why h l i r lo c z =
    let C : ℕ → Type 0 = λ j. CountsAs why j left in
    let sum : most - (left - k) + left ≡ most = omega arith in
    made-stopped m o v x (most - (left - k)) left most why r.end lo (subst C z c)
    (made-on m n o v w x most left k why h l i r) sum

pub made-whole : (m n : Machine) (v w : World) (most left : ℕ)
    → HasMadeSteps m v n w (most - left)
    → left ≤ 0
    → HasRunWithin m v n w most (most - left)
made-whole m n v w most left h z = let e : most - left ≡ most = omega arith in made-all m n v w most (most - left) h e

some_ended : (o : Option End) → is_some o ≡ true → HasEnded o
some_ended None h = absurd cc
some_ended (Some e) h = tt

pub made-some : (m n : Machine) (v w : World) (most left : ℕ)
    → HasMadeSteps m v n w (most - left)
    → left ≤ most
    → is_some n.ended ≡ true
    → HasRunWithin m v n w most (most - left)
made-some m n v w most left h l is =
    let sum : most - left + left ≡ most = omega arith in
    ended_by m n v w (most - left) left most n.ended refl (some_ended n.ended is) h sum

-- ---- from the start

pub plain-reached : (ts : Terms) (input : List (List ℕ)) (s : Started) (n : Machine) (w : World) (most k : ℕ)
    → IsStarted ts input s
    → HasRunWithin s.machine (heap_world s.machine.names s.heap) n w most k
    → run_at n w [] ≡ plain most ts input
plain-reached ts input s n w most k h r =
    r.reached []
    ∙ ap (λ p. steps_in most p script_scope (run_at s.machine (heap_world s.machine.names s.heap) [])) h.program
    ∙ ap (steps_in most (runs.program_of ts) script_scope) h.run

pub plain-counted : (ts : Terms) (input : List (List ℕ)) (s : Started) (n : Machine) (w : World) (most k : ℕ)
    → IsStarted ts input s
    → HasRunWithin s.machine (heap_world s.machine.names s.heap) n w most k
    → k ≡ steps_taken most (runs.program_of ts) (start ts input)
plain-counted ts input s n w most k h r =
    r.counted []
    ∙ ap (λ p. steps_taken most p (run_at s.machine (heap_world s.machine.names s.heap) [])) h.program
    ∙ ap (steps_taken most (runs.program_of ts)) h.run

pub started-kept : (ts : Terms) (input : List (List ℕ)) (s : Started) → IsStarted ts input s → IsKept s.machine.ended
started-kept ts input s h = let P : Option End → Type 0 = IsKept in subst P (sym h.going) tt
