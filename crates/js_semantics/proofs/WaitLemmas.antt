-- That each form waits for its step is an invariant of steps.
use Rattle.std.proofs.Common.{◌≡◌, ◌∙◌, ℕ, ◌+◌, Bool, true, false, List, length, refl, sym}
use Rattle.js_heap.specs.declared.value.Addr.{Addr}
use Rattle.js_heap.specs.declared.value.Addr.TheVariants.{Base}
use Rattle.js_heap.specs.BuiltIns.{script_scope, first_literal}
use Rattle.js_semantics.specs.Terms.{scripts, literal, Term, done, standing, part, Terms, end, more, all_done, settled}
use Rattle.js_semantics.specs.State.{State}
use Rattle.js_semantics.specs.Functions.{Program}
use Rattle.js_semantics.specs.Next.{next}
use Rattle.js_semantics.specs.Run.{literals, literals_of, with_literals, all_with_literals, placed_scripts, program_of, first_state, start as start_of, plain}
use Rattle.js_semantics.specs.Waiting.{uncovers, ByCase, Waits, AllWait, PartsWait, RestWaits, ProgramWaits, MoveWaits, RunWaits}
use Rattle.js_semantics.proofs.Ready.{all_ready}
use Rattle.js_semantics.proofs.ActionLemmas.{of-run}
use Rattle.js_semantics.proofs.InvariantLemmas.{Invariant, IsKept, settled-kept}
use Rattle.js_semantics.proofs.RowLemmas.{IsFree, IsStepped, next-kept, steps-kept, program-kept}

loosened : (t : Term) → Waits all_done t → PartsWait all_done t
loosened (done v) h = tt
loosened (standing v place) h = tt
loosened (part f now later) h = (h.1, h.2)

abbrev waiting : Invariant
waiting = record {
  holds = λ t. Waits all_done t;
  covered = λ t. PartsWait all_done t;
  all = λ ts. AllWait all_done ts;
  rest = λ ts. RestWaits all_done ts;
  form = λ f n later. Unit {0};
  value = λ v. Unit {0};
  scope = λ a. Unit {0};
  kept = λ c. Unit {0};
}

wait-kept : IsKept waiting
wait-kept = record {
  no_value = tt;
  no_completion = tt;
  of_value = λ v h. tt;
  no_parts = tt;
  a_part = λ t ts h q. (h, q);
  first_part = λ t ts h. h.0;
  other_parts = λ t ts h. h.1;
  uncovered = λ t ts h. h.0;
  behind = λ t ts h. h.1;
  covers = loosened;
  of_done = λ v h. tt;
  of_standing = λ v place h. tt;
  opened = λ f now later h. (tt, h.0, h.1);
  closed = λ f now later e h n q. (e, n, q);
  of_loop = λ stage a n later h. (tt, λ s b m r l. tt);
  of_for = λ node c names n t later h s b m r l. tt;
  of_for_of = λ node b n t later h. tt;
  of_list = λ b n v later h. tt;
  of_turn = λ b i n m later h. tt;
  of_again = λ b i n m later h. tt;
  of_next = λ b i n later h. tt;
  of_scope = λ a n l. tt;
  of_ending = λ c n l. tt;
  of_comma = λ n t u ts h. tt;
  of_binary = λ o. tt;
  of_compound = λ o r n later h. tt;
  of_callee = λ r place node n m later h. tt;
  of_method = λ ms n f now later ts h. tt;
}

wait-free : IsFree waiting
wait-free = record { each_value = λ v. tt; each_scope = λ a. tt; each_completion = λ c. tt }

wait-stepped : IsStepped waiting
wait-stepped = record { of_throw = λ v place. tt; of_frame = λ node a. tt }

pub next-waits : (p : Program) (scope : Addr) (t : Term) (s : State)
    → ProgramWaits p
    → Waits all_done t
    → MoveWaits (next p scope t s)
next-waits = next-kept waiting wait-kept wait-free wait-stepped

-- ---- the cells of literals in their places

ready-placed : (at : ℕ → Addr) (n : ℕ) (ts : Terms) → all_done (all_with_literals at n ts) ≡ all_ready ts
ready-placed at n end = refl
ready-placed at n (more (done v) ts) = ready-placed at (n + 0) ts
ready-placed at n (more (standing v place) ts) = refl
ready-placed at n (more (part (literal us) now later) ts) = ready-placed at (n + 1) ts
ready-placed at n (more (part f now later) ts) = refl

mutual
  placed-waits : (at : ℕ → Addr) (n : ℕ) (t : Term) → Waits all_ready t → Waits all_done (with_literals at n t)
  placed-waits at n (done v) h = tt
  placed-waits at n (standing v place) h = tt
  placed-waits at n (part (literal us) now later) h = tt
  placed-waits at n (part f now later) h = (
    λ e. h.0 (sym (ready-placed at n now) ∙ e),
    all-placed-wait at n now h.1,
    case-placed-waits (uncovers f) at (n + length (literals_of now)) later h.2,
  )

  all-placed-wait : (at : ℕ → Addr) (n : ℕ) (ts : Terms)
      → AllWait all_ready ts
      → AllWait all_done (all_with_literals at n ts)
  all-placed-wait at n end h = tt
  all-placed-wait at n (more t ts) h = (placed-waits at n t h.0, all-placed-wait at (n + length (literals t)) ts h.1)

  parts-placed-wait : (at : ℕ → Addr) (n : ℕ) (t : Term)
      → PartsWait all_ready t
      → PartsWait all_done (with_literals at n t)
  parts-placed-wait at n (done v) h = tt
  parts-placed-wait at n (standing v place) h = tt
  parts-placed-wait at n (part (literal us) now later) h = tt
  parts-placed-wait at n (part f now later) h =
      (all-placed-wait at n now h.0, case-placed-waits (uncovers f) at (n + length (literals_of now)) later h.1)

  case-placed-waits : (b : Bool) (at : ℕ → Addr) (n : ℕ) (ts : Terms)
      → ByCase b (RestWaits all_ready ts) (AllWait all_ready ts)
      → ByCase b (RestWaits all_done (all_with_literals at n ts)) (AllWait all_done (all_with_literals at n ts))
  case-placed-waits true at n end h = tt
  case-placed-waits false at n end h = tt
  case-placed-waits true at n (more t ts) h =
      (parts-placed-wait at n t h.0, all-placed-wait at (n + length (literals t)) ts h.1)
  case-placed-waits false at n (more t ts) h =
      (placed-waits at n t h.0, all-placed-wait at (n + length (literals t)) ts h.1)

pub plain-waits : (k : ℕ) (ts : Terms) (input : List (List ℕ)) → AllWait all_ready ts → RunWaits (plain k ts input)
plain-waits k ts input h =
    let placed : AllWait all_done (placed_scripts ts) = all-placed-wait (λ n. Base n) first_literal ts h in
    steps-kept waiting wait-kept wait-free wait-stepped k (program_of ts) script_scope (start_of ts input)
    (program-kept waiting wait-kept 1 (placed_scripts ts) placed)
    (of-run (Waits all_done) (settled scripts (placed_scripts ts) end) (first_state ts input)
    (settled-kept waiting wait-kept scripts (placed_scripts ts) end tt placed tt))
