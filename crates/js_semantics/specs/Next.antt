-- One step: the leftmost innermost part that can be reduced, and the one row that fits it.
use Rattle.std.specs.Prelude.{List, [], ◌∷◌, Some}
use Rattle.js_heap.specs.declared.value.Addr.{Addr}
use Rattle.js_heap.specs.declared.value.Value.{Value}
use Rattle.js_semantics.specs.Terms.{throws, Form, scoped, frame, loop, Term, done, standing, part, Terms, end, more, settled}
use Rattle.js_semantics.specs.State.{State, Move, goes, travels, has_effect, is_full, inside, perform, give}
use Rattle.js_semantics.specs.Functions.{Program}
use Rattle.js_semantics.specs.Rows.{row, taken}

-- what the parts of a form are: all values, or the step of the leftmost that isn't
pub data Walked : Type 0 where
  all_values : List Value → Walked
  moved : Move Terms → Walked

-- a value in front of what the parts behind it are
abbrev pub with_value : Value → Walked → Walked
with_value v (all_values vs) = all_values (v ∷ vs)
with_value v (moved m) = moved (inside (λ ts. more (done v) ts) m)

-- the scope in which a form's parts are
abbrev pub scope_in : Form → Addr → Addr
scope_in (scoped a) scope = a
scope_in (frame node a) scope = a
scope_in (loop stage (Some a)) scope = a
scope_in f scope = scope

-- the step of a form whose parts are all values, or that of the part in it
abbrev pub around : Program → Addr → Form → Terms → State → Walked → Move Term
around p scope f later s (all_values vs) = perform (row p s scope f vs later) s
around p scope f later s (moved (goes now t told)) = goes (settled f now later) t told
around p scope f later s (moved (travels c t)) = perform (taken scope f c later) t
around p scope f later s (moved (has_effect t)) = has_effect t
around p scope f later s (moved (is_full what t)) = is_full what t

-- the step of a term in a scope, and of the leftmost of some parts that isn't a value
abbrev mutual
  -- the step of a term in a scope
  pub next : Program → Addr → Term → State → Move Term
  next p scope (done v) s = perform (give v) s
  next p scope (standing v place) s = travels (throws v place) s
  next p scope (part f now later) s = around p scope f later s (walk p (scope_in f scope) now s)

  -- the step of the first of these parts that isn't done, or the values of all
  pub walk : Program → Addr → Terms → State → Walked
  walk p scope end s = all_values []
  walk p scope (more (done v) ts) s = with_value v (walk p scope ts s)
  walk p scope (more (standing v place) ts) s = moved (travels (throws v place) s)
  walk p scope (more (part f now later) ts) s = moved (inside (λ t. more t ts) (next p scope (part f now later) s))
