-- Being well-shaped is an invariant of steps.
use Rattle.std.proofs.Common.{ℕ, ◌∙◌, arith}
use Rattle.js_heap.specs.declared.value.Addr.{Addr}
use Rattle.js_semantics.specs.Terms.{Term}
use Rattle.js_semantics.specs.State.{State}
use Rattle.js_semantics.specs.Functions.{Program}
use Rattle.js_semantics.specs.Next.{next}
use Rattle.js_semantics.specs.Run.{Run, steps_in}
use Rattle.js_semantics.specs.Waiting.{uncovers}
use Rattle.js_semantics.specs.Shapes.{Shape, IsShaped, AreShaped, ShapedProgram, ShapedMove, ShapedRun}
use Rattle.js_semantics.proofs.InvariantLemmas.{Invariant, IsKept, either-way, one-way}
use Rattle.js_semantics.proofs.RowLemmas.{IsFree, IsStepped, next-kept, steps-kept}

abbrev pub shaped : Invariant
shaped = record {
  holds = IsShaped;
  covered = IsShaped;
  all = AreShaped;
  rest = AreShaped;
  form = λ f n later. Shape f n later;
  value = λ v. Unit {0};
  scope = λ a. Unit {0};
  kept = λ c. Unit {0};
}

pub shape-kept : IsKept shaped
shape-kept = record {
  no_value = tt;
  no_completion = tt;
  of_value = λ v h. tt;
  no_parts = tt;
  a_part = λ t ts h q. (h, q);
  first_part = λ t ts h. h.0;
  other_parts = λ t ts h. h.1;
  uncovered = λ t ts h. h.0;
  behind = λ t ts h. h.1;
  covers = λ t h. h;
  of_done = λ v h. h;
  of_standing = λ v place h. h;
  opened = λ f now later h. (h.0, h.1, either-way (uncovers f) (AreShaped later) h.2);
  closed = λ f now later e h n q. (h, n, one-way (uncovers f) (AreShaped later) q);
  of_loop = λ stage a n later h. (tt, λ s b m r l. record { reduced = r; kept = h.kept; others = tt });
  of_for = λ node c names n t later h s b m r l. record { reduced = r; kept = omega (arith, h.kept); others = tt };
  of_for_of = λ node b n t later h. record { reduced = omega arith; kept = omega (arith, h.kept); others = tt };
  of_list = λ b n v later h. record { reduced = omega arith; kept = omega (arith, h.kept); others = tt };
  of_turn = λ b i n m later h. record { reduced = omega arith; kept = h.kept; others = tt };
  of_again = λ b i n m later h. record { reduced = omega arith; kept = h.kept; others = tt };
  of_next = λ b i n later h. record { reduced = omega arith; kept = h.kept; others = tt };
  of_scope = λ a n l. record { reduced = omega arith; kept = omega arith; others = tt };
  of_ending = λ c n l. record { reduced = omega arith; kept = omega arith; others = tt };
  of_comma = λ n t u ts h. record { reduced = omega arith; kept = omega arith; others = tt };
  of_binary = λ o. record { reduced = omega arith; kept = omega arith; others = tt };
  of_compound = λ o r n later h. record { reduced = omega (arith, h.reduced); kept = omega arith; others = tt };
  of_callee = λ r place node n m later h. record { reduced = omega arith; kept = omega arith; others = tt };
  of_method = λ ms n f now later ts h. let o = h.others in
      record { reduced = omega arith; kept = omega arith; others = (o.0, o.1 ∙ omega arith) };
}

shape-free : IsFree shaped
shape-free = record { each_value = λ v. tt; each_scope = λ a. tt; each_completion = λ c. tt }

shape-stepped : IsStepped shaped
shape-stepped = record {
  of_throw = λ v place. tt;
  of_frame = λ node a. record { reduced = omega arith; kept = omega arith; others = tt };
}

pub next-shaped : (p : Program) (scope : Addr) (t : Term) (s : State)
    → ShapedProgram p
    → IsShaped t
    → ShapedMove (next p scope t s)
next-shaped = next-kept shaped shape-kept shape-free shape-stepped

pub steps-shaped : (k : ℕ) (p : Program) (scope : Addr) (r : Run)
    → ShapedProgram p
    → ShapedRun r
    → ShapedRun (steps_in k p scope r)
steps-shaped = steps-kept shaped shape-kept shape-free shape-stepped
