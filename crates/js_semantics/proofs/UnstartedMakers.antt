-- The terms that the makers give are unstarted: they hold no address, and no form that comes up in a run alone.
use Rattle.std.proofs.Common.{◌≡◌, true, List, [], ◌∷◌, ◌++◌, Some, None, refl}
use Rattle.js_heap.specs.declared.cell.Binding.{Binding}
use Rattle.js_semantics.specs.Terms.{Form, script, enter_for, enter_for_of, block, scoped, frame, loop, list_of, turn_of, body_of, ending, function, method, Term, done, standing, part, Terms, end, more, joined}
use Rattle.js_semantics.specs.Untouched.{HasNoAddress, AreDeclared, UntouchedForm, IsUntouched, AreUntouched}
use Rattle.js_semantics.specs.Waiting.{uncovers}
use Rattle.js_semantics.proofs.InvariantLemmas.{one-way}
use Rattle.js_semantics.proofs.MadeLemmas.{is_plain, Making, IsMade}

-- ---- unstarted terms

-- an untouched form that no step makes
abbrev pub UnstartedForm : Form → Type 0
UnstartedForm (ending kept) = ⊥
UnstartedForm f = UntouchedForm f

abbrev mutual
  pub IsUnstarted : Term → Type 0
  IsUnstarted (done v) = HasNoAddress v
  IsUnstarted (standing v place) = ⊥
  IsUnstarted (part f now later) = UnstartedForm f × AreUnstarted now × AreUnstarted later

  pub AreUnstarted : Terms → Type 0
  AreUnstarted end = Unit {0}
  AreUnstarted (more t ts) = IsUnstarted t × AreUnstarted ts

form-untouched : (f : Form) → UnstartedForm f → UntouchedForm f
form-untouched (ending kept) u = absurd u
form-untouched f u = u

mutual
  pub term-untouched : (t : Term) → IsUnstarted t → IsUntouched t
  term-untouched (done v) u = u
  term-untouched (standing v place) u = absurd u
  term-untouched (part f now later) u = (form-untouched f u.0, terms-untouched now u.1, terms-untouched later u.2)

  pub terms-untouched : (ts : Terms) → AreUnstarted ts → AreUntouched ts
  terms-untouched end u = tt
  terms-untouched (more t ts) u = (term-untouched t u.0, terms-untouched ts u.1)

-- ---- what is made is unstarted

plain-unstarted : (f : Form) → is_plain f ≡ true → UnstartedForm f
plain-unstarted (script number names) e = absurd cc
plain-unstarted (enter_for node constant names) e = absurd cc
plain-unstarted (enter_for_of node b) e = absurd cc
plain-unstarted (block names) e = absurd cc
plain-unstarted (scoped a) e = absurd cc
plain-unstarted (frame node a) e = absurd cc
plain-unstarted (loop stage (Some a)) e = absurd cc
plain-unstarted (loop stage None) e = refl
plain-unstarted (list_of b) e = absurd cc
plain-unstarted (turn_of b i) e = absurd cc
plain-unstarted (body_of b i) e = absurd cc
plain-unstarted (ending kept) e = absurd cc
plain-unstarted (function f) e = absurd cc
plain-unstarted (method f) e = absurd cc
plain-unstarted f e = tt

joined-fresh : (ts us : Terms) → AreUnstarted ts → AreUnstarted us → AreUnstarted (joined ts us)
joined-fresh end us h q = q
joined-fresh (more t ts) us h q = (h.0, joined-fresh ts us h.1 q)

names-joined : (bs cs : List Binding) → AreDeclared bs → AreDeclared cs → AreDeclared (bs ++ cs)
names-joined [] cs h q = q
names-joined (b ∷ bs) cs h q = (h.0, names-joined bs cs h.1 q)

abbrev pub made_unstarted : Making
made_unstarted = record {
  holds = IsUnstarted;
  covered = IsUnstarted;
  all = AreUnstarted;
  rest = AreUnstarted;
  form = λ f n later. UnstartedForm f;
  names = AreDeclared;
  functions = AreUnstarted;
  members = λ ms p. Unit {0};
}

pub unstarted-made : IsMade made_unstarted
unstarted-made = record {
  of_value = λ v h. h;
  no_parts = tt;
  a_part = λ t ts h q. (h, q);
  first_part = λ t ts h. h.0;
  other_parts = λ t ts h. h.1;
  a_rest = λ t ts h q. (h, q);
  covers = λ t h. h;
  opened = λ f now later h. (h.0, h.1);
  closed = λ f now later e h n q. (h, n, one-way (uncovers f) (AreUnstarted later) q);
  inside = λ f now later h n q. (h, n, one-way (uncovers f) (AreUnstarted later) q);
  of_plain = λ f n later e r q. plain-unstarted f e;
  of_assign = λ r n later h. tt;
  of_compound = λ o r n later e h. tt;
  of_update = λ o b r n later h. tt;
  of_delete = λ r n later h. tt;
  of_callee = λ r place node n later args h. tt;
  no_names = tt;
  a_name = λ name c bs h. (refl, h);
  more_names = names-joined;
  no_functions = tt;
  a_function = λ f now later h. (h, tt);
  more_functions = joined-fresh;
  all_functions = λ ts h. h;
  of_script = λ number names t fs h q. h;
  of_block = λ names t fs h q. h;
  of_function = λ f t fs h q. h;
  of_method = λ f n t fs h q. h;
  of_for = λ node c names later h q. h;
  of_for_of = λ node name c later q. refl;
  no_members = tt;
  a_member = λ key ms t p q. tt;
  a_computed = λ ms t u p q. tt;
  a_method = λ ms t f later p q. tt;
  of_object = λ ms p q. tt;
}
