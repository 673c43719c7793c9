-- A step of a term is the step of what is about to be reduced in it, and what becomes of the forms around that.
use Rattle.std.proofs.Common.{◌≡◌, false, if◌then◌else◌, List, [], ◌∷◌, refl, ap, ◌∙◌}
use Rattle.js_heap.specs.declared.value.Addr.{Addr}
use Rattle.js_heap.specs.declared.value.Value.{Value}
use Rattle.js_heap.specs.declared.change.Counted.{Counted}
use Rattle.js_semantics.specs.declared.form.Form.{Form}
use Rattle.js_semantics.specs.declared.form.SourceMark.{SourceMark}
use Rattle.js_semantics.specs.declared.form.Completion.TheVariants.{Throws as throws}
use Rattle.js_semantics.specs.Terms.{Term, Terms, done, standing, part, more, joined, dones, is_done, all_done, finished, settled}
use Rattle.js_semantics.specs.State.{State, StepTold, Move, goes, travels, has_effect, is_full, inside}
use Rattle.js_semantics.specs.Functions.{Program}
use Rattle.js_semantics.specs.Next.{all_values, moved, with_value, scope_in, around, next, walk}
use Rattle.js_semantics.specs.Rows.{row}
use Rattle.js_machine_actions.specs.Flow.{performed}
use Rattle.js_machine_engine.specs.Gaps.{Gap, gap_parts, filled, plugged, scope_at, resettled, risen, all_risen}

-- ---- one level

inside_more : (u : Value) (f : Term → Terms) (m : Move Term)
    → with_value u (moved (inside f m)) ≡ moved (inside (λ x. more (done u) (f x)) m)
inside_more u f (goes t s told) = refl
inside_more u f (travels c s) = refl
inside_more u f (has_effect s) = refl
inside_more u f (is_full what s) = refl

walk_at : (p : Program) (scope : Addr) (s : State) (vs : List Value) (t : Term) (ts : Terms)
    → is_done t ≡ false
    → walk p scope (joined (dones vs) (more t ts)) s ≡ moved
    (inside (λ u. joined (dones vs) (more u ts)) (next p scope t s))
walk_at p scope s [] (done v) ts h = cc
walk_at p scope s [] (standing v place) ts h = refl
walk_at p scope s [] (part f now later) ts h = refl
walk_at p scope s (u ∷ vs) t ts h =
    ap (with_value u) (walk_at p scope s vs t ts h)
    ∙ inside_more u (λ x. joined (dones vs) (more x ts)) (next p scope t s)

around_risen : (p : Program) (scope : Addr) (g : Gap) (s : State) (m : Move Term)
    → around p scope g.form g.later s (moved (inside (gap_parts g) m)) ≡ risen scope g m
unfolding performed
around_risen p scope g s (goes t u told) = refl
around_risen p scope g s (travels c u) = refl
around_risen p scope g s (has_effect u) = refl
around_risen p scope g s (is_full what u) = refl

next_filled : (p : Program) (scope : Addr) (g : Gap) (t : Term) (s : State)
    → is_done t ≡ false
    → next p scope (filled g t) s ≡ risen scope g (next p (scope_in g.form scope) t s)
next_filled p scope g t s h =
    ap (around p scope g.form g.later s) (walk_at p (scope_in g.form scope) s g.before t g.after h)
    ∙ around_risen p scope g s (next p (scope_in g.form scope) t s)

-- ---- all levels

pub next-within : (p : Program) (root : Addr) (gs : List Gap) (t : Term) (s : State)
    → is_done t ≡ false
    → next p root (plugged gs t) s ≡ all_risen root gs (next p (scope_at root gs) t s)
next-within p root [] t s h = refl
next-within p root (g ∷ gs) t s h =
    next-within p root gs (filled g t) s refl ∙ ap (all_risen root gs) (next_filled p (scope_at root gs) g t s h)

walk_values : (p : Program) (scope : Addr) (vs : List Value) (s : State) → walk p scope (dones vs) s ≡ all_values vs
walk_values p scope [] s = refl
walk_values p scope (v ∷ vs) s = ap (with_value v) (walk_values p scope vs s)

-- a form whose parts are values takes its row
pub next-row : (p : Program) (scope : Addr) (f : Form) (vs : List Value) (later : Terms) (s : State)
    → next p scope (part f (dones vs) later) s ≡ performed (row p s scope f vs later) s
unfolding performed
next-row p scope f vs later s = ap (around p scope f later s) (walk_values p (scope_in f scope) vs s)

-- a row in its gaps
pub next-row-within : (p : Program) (root : Addr) (gs : List Gap) (f : Form) (vs : List Value) (later : Terms)
    (s : State)
    → next p root (plugged gs (part f (dones vs) later)) s ≡ all_risen root gs
    (performed (row p s (scope_at root gs) f vs later) s)
next-row-within p root gs f vs later s =
    next-within p root gs (part f (dones vs) later) s refl
    ∙ ap (all_risen root gs) (next-row p (scope_at root gs) f vs later s)

-- a throw that stands in its gaps
pub next-standing-within : (p : Program) (root : Addr) (gs : List Gap) (v : Value) (place : SourceMark) (s : State)
    → next p root (plugged gs (standing v place)) s ≡ all_risen root gs (travels (throws v place) s)
next-standing-within p root gs v place s = next-within p root gs (standing v place) s refl

-- ---- what rises

pub goes-risen : (root : Addr) (gs : List Gap) (t : Term) (s : State) (told : StepTold)
    → all_risen root gs (goes t s told) ≡ goes (resettled gs t) s told
goes-risen root [] t s told = refl
goes-risen root (g ∷ gs) t s told = goes-risen root gs _ s told

pub effect-risen : (root : Addr) (gs : List Gap) (s : State) → all_risen root gs (has_effect s) ≡ has_effect s
effect-risen root [] s = refl
effect-risen root (g ∷ gs) s = effect-risen root gs s

pub full-risen : (root : Addr) (gs : List Gap) (what : Counted) (s : State)
    → all_risen root gs (is_full what s) ≡ is_full what s
full-risen root [] what s = refl
full-risen root (g ∷ gs) what s = full-risen root gs what s

-- ---- a part that isn't finished

unfinished : (vs : List Value) (t : Term) (ts : Terms)
    → is_done t ≡ false
    → all_done (joined (dones vs) (more t ts)) ≡ false
unfinished [] t ts h = rw h refl
unfinished (v ∷ vs) t ts h = unfinished vs t ts h

pub settled_filled : (g : Gap) (t : Term) → is_done t ≡ false → settled g.form (gap_parts g t) g.later ≡ filled g t
settled_filled g t h =
    ap (λ b. if b then finished g.form (gap_parts g t) g.later else filled g t) (unfinished g.before t g.after h)

-- what isn't finished leaves the forms around it as they are
pub plugged-resettled : (gs : List Gap) (t : Term) → is_done t ≡ false → resettled gs t ≡ plugged gs t
plugged-resettled [] t h = refl
plugged-resettled (g ∷ gs) t h = ap (resettled gs) (settled_filled g t h) ∙ plugged-resettled gs (filled g t) refl
