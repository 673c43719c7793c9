-- The terms that the makers give are well-shaped.
use Rattle.std.proofs.Common.{◌≡◌, ℕ, ◌+◌, ◌≤◌, true, refl, arith}
use Rattle.js_semantics.specs.Terms.{Form, script, block, function, object, method, part, Terms, end, more, joined}
use Rattle.js_semantics.specs.Shapes.{size, reduced_parts, later_parts, AreFunctions, AreMethods, methods_size, members_size, Shape, IsShaped, AreShaped}
use Rattle.js_semantics.specs.Waiting.{uncovers}
use Rattle.js_semantics.proofs.InvariantLemmas.{one-way, joined-kept}
use Rattle.js_semantics.proofs.ShapeLemmas.{shaped, shape-kept}
use Rattle.js_semantics.proofs.MadeLemmas.{is_plain, Making, IsMade}

plain-shape : (f : Form) (n : ℕ) (later : Terms)
    → is_plain f ≡ true
    → reduced_parts f ≤ n
    → later_parts f ≤ size later
    → Shape f n later
plain-shape (script number names) n later e r q = absurd cc
plain-shape (block names) n later e r q = absurd cc
plain-shape (function f) n later e r q = absurd cc
plain-shape (method f) n later e r q = absurd cc
plain-shape (object ms) n later e r q = absurd cc
plain-shape f n later e r q = record { reduced = r; kept = q; others = tt }

functions-joined : (ts us : Terms) → AreFunctions ts → AreFunctions us → AreFunctions (joined ts us)
functions-joined end us h q = q
functions-joined (more (part (function f) now later) ts) us h q = functions-joined ts us h q
functions-joined (more _ ts) us h q = absurd h

abbrev pub made_shaped : Making
made_shaped = record {
  holds = IsShaped;
  covered = IsShaped;
  all = AreShaped;
  rest = AreShaped;
  form = λ f n later. Shape f n later;
  names = λ bs. Unit {0};
  functions = λ ts. AreFunctions ts × AreShaped ts;
  members = λ ms p. AreMethods p.later × (members_size ms ≡ size p.now + methods_size p.later);
}

pub shape-made : IsMade made_shaped
shape-made = record {
  of_value = λ v h. tt;
  no_parts = tt;
  a_part = λ t ts h q. (h, q);
  first_part = λ t ts h. h.0;
  other_parts = λ t ts h. h.1;
  a_rest = λ t ts h q. (h, q);
  covers = λ t h. h;
  opened = λ f now later h. (h.0, h.1);
  closed = λ f now later e h n q. (h, n, one-way (uncovers f) (AreShaped later) q);
  inside = λ f now later h n q. (h, n, one-way (uncovers f) (AreShaped later) q);
  of_plain = plain-shape;
  of_assign = λ r n later h. record { reduced = omega (arith, h.reduced); kept = omega arith; others = tt };
  of_compound = λ o r n later e h. record { reduced = h.reduced; kept = omega arith; others = tt };
  of_update = λ o b r n later h. record { reduced = h.reduced; kept = omega arith; others = tt };
  of_delete = λ r n later h. record { reduced = h.reduced; kept = omega arith; others = tt };
  of_callee = λ r place node n later args h. record { reduced = h.reduced; kept = omega arith; others = tt };
  no_names = tt;
  a_name = λ name c bs h. tt;
  more_names = λ bs cs h q. tt;
  no_functions = (tt, tt);
  a_function = λ f now later h. (tt, (h, tt));
  more_functions = λ ts us h q. (functions-joined ts us h.0 q.0, joined-kept shaped shape-kept ts us h.1 q.1);
  all_functions = λ ts h. h.1;
  of_script = λ number names t fs h q. record { reduced = omega arith; kept = omega arith; others = q.0 };
  of_block = λ names t fs h q. record { reduced = omega arith; kept = omega arith; others = q.0 };
  of_function = λ f t fs h q. record { reduced = omega arith; kept = omega arith; others = q.0 };
  of_method = λ f n t fs h q. record { reduced = omega arith; kept = omega arith; others = q.0 };
  of_for = λ node c names later h q. record { reduced = omega arith; kept = q; others = tt };
  of_for_of = λ node name c later q. record { reduced = omega arith; kept = q; others = tt };
  no_members = (tt, refl);
  a_member = λ key ms t p q. (q.0, omega (arith, q.1));
  a_computed = λ ms t u p q. (q.0, omega (arith, q.1));
  a_method = λ ms t f later p q. (q.0, omega (arith, q.1));
  of_object = λ ms p q. record { reduced = omega arith; kept = omega arith; others = q };
}
