-- A term as a part of it and the forms around that, each with a gap.
use Rattle.std.specs.Prelude.{List, [], ◌∷◌}
use Rattle.js_heap.specs.declared.value.Addr.{Addr}
use Rattle.js_heap.specs.declared.value.Value.{Value}
use Rattle.js_semantics.specs.declared.form.Form.{Form}
use Rattle.js_semantics.specs.Terms.{Term, Terms, part, more, joined, dones, settled}
use Rattle.js_semantics.specs.State.{Move, goes, travels, has_effect, is_full}
use Rattle.js_semantics.specs.Next.{scope_in}
use Rattle.js_semantics.specs.Rows.{taken}
use Rattle.js_machine_actions.specs.Flow.{performed}

-- a form with a gap behind its first parts, which are values
pub record Gap : Type 0 where
  pub form : Form
  pub before : List Value
  pub after : Terms
  pub later : Terms

-- the parts with a part in the gap
abbrev pub gap_parts : Gap → Term → Terms
gap_parts g t = joined (dones g.before) (more t g.after)

-- the form with a part in its gap
abbrev pub filled : Gap → Term → Term
filled g t = part g.form (gap_parts g t) g.later

-- ---- forms around a part, from the innermost one

-- a term in the gaps of the forms around it
abbrev pub plugged : List Gap → Term → Term
plugged [] t = t
plugged (g ∷ gs) t = plugged gs (filled g t)

-- the scope in the innermost gap
abbrev pub scope_at : Addr → List Gap → Addr
scope_at scope [] = scope
scope_at scope (g ∷ gs) = scope_in g.form (scope_at scope gs)

-- the forms around a part after a step in it: those that are finished give way
abbrev pub resettled : List Gap → Term → Term
resettled [] t = t
resettled (g ∷ gs) t = resettled gs (settled g.form (gap_parts g t) g.later)

-- what becomes of a form after a step of the part in its gap; around the form is this scope
abbrev pub risen : Addr → Gap → Move Term → Move Term
risen scope g (goes t s told) = goes (settled g.form (gap_parts g t) g.later) s told
risen scope g (travels c s) = performed (taken scope g.form c g.later) s
risen scope g (has_effect s) = has_effect s
risen scope g (is_full what s) = is_full what s

-- and of all forms around it; around them is this scope
abbrev pub all_risen : Addr → List Gap → Move Term → Move Term
all_risen scope [] m = m
all_risen scope (g ∷ gs) m = all_risen scope gs (risen (scope_at scope gs) g m)
