-- A run looks up functions alone in its program.
use Rattle.std.proofs.Common.{◌≡◌, ℕ, zero, suc, Bool, true, false, List, [], ◌∷◌, ◌++◌, Option, Some, if◌then◌else◌, refl, sym, ap, subst, ◌∙◌}
use Rattle.js_heap.specs.declared.value.Addr.{Addr}
use Rattle.js_heap.specs.declared.value.Addr.TheVariants.{Base, Scratch}
use Rattle.js_heap.specs.declared.value.Value.{Value}
use Rattle.js_heap.specs.declared.value.Value.TheVariants as values
use Rattle.js_heap.specs.declared.cell.Cell.{Cell}
use Rattle.js_heap.specs.declared.cell.Cell.TheVariants as cells
use Rattle.js_heap.specs.declared.built_in.Code.TheVariants as code
use Rattle.js_heap.specs.World.{read_cell}
use Rattle.js_semantics.specs.declared.form.Source.{Source}
use Rattle.js_semantics.specs.declared.form.Source.TheVariants.{Script as script_source, Kept as kept_source}
use Rattle.js_semantics.specs.declared.form.Mark.{Mark}
use Rattle.js_semantics.specs.declared.form.Form.{Form}
use Rattle.js_semantics.specs.declared.form.Form.TheVariants.{Call as call}
use Rattle.js_semantics.specs.Terms.{Term, done, standing, part, Terms, end, more}
use Rattle.js_semantics.specs.State.{State, set_here, perform, inside}
use Rattle.js_semantics.specs.Functions.{Program, SourceTree, same_source, function_at, function_in, call_code, call_cell, call_value, call_row}
use Rattle.js_semantics.specs.Rows.{row}
use Rattle.js_semantics.specs.Next.{Walked, with_value, scope_in, around, next, walk, moved, all_values}
use Rattle.js_semantics.specs.Run.{Run, running, over, run_after, step_in, steps_in}
use Rattle.pure_eval.specs.Programs.{HasSameFunctions, IsNewSource}
use Rattle.std.proofs.lemmas.Bool.{eq-eqb}
use Rattle.js_semantics.proofs.SameSources.{same_source-true}

-- ---- rows

same_cell : (p q : Program)
    → HasSameFunctions p q
    → (s : State) (a : Addr) (o : Option Cell) (given : Value) (args : List Value)
    → call_cell p s a o given args ≡ call_cell q s a o given args
same_cell p q h s a (Some (cells.Function (code.BuiltIn f) n l outer made)) given args = refl
same_cell p q h s a (Some (cells.Function (code.Script number node) n l outer made)) given args =
    ap (λ c. call_code s c (script_source number) a n outer made given args) (h (script_source number) node)
same_cell p q h s a (Some (cells.Function (code.Kept at node) n l outer made)) given args =
    ap (λ c. call_code s c (kept_source at) a n outer made given args) (h (kept_source at) node)
same_cell p q h s a _ given args = refl

same_value : (p q : Program)
    → HasSameFunctions p q
    → (s : State) (v given : Value) (args : List Value)
    → call_value p s v given args ≡ call_value q s v given args
same_value p q h s (values.Object a) given args = same_cell p q h s a (read_cell s.world a) given args
same_value p q h s _ given args = refl

same_call : (p q : Program)
    → HasSameFunctions p q
    → (s : State) (place : Mark) (vs : List Value)
    → call_row p s place vs ≡ call_row q s place vs
same_call p q h s place [] = refl
same_call p q h s place (v ∷ []) = refl
same_call p q h s place (given ∷ callee ∷ args) = ap (set_here place) (same_value p q h s callee given args)

same_row : (p q : Program)
    → HasSameFunctions p q
    → (s : State) (scope : Addr) (f : Form) (vs : List Value) (later : Terms)
    → row p s scope f vs later ≡ row q s scope f vs later
same_row p q h s scope (call place node) vs later = same_call p q h s place vs
same_row p q h s scope _ vs later = refl

-- ---- steps

same_around : (p q : Program)
    → HasSameFunctions p q
    → (scope : Addr) (f : Form) (later : Terms) (s : State) (w : Walked)
    → around p scope f later s w ≡ around q scope f later s w
same_around p q h scope f later s (all_values vs) = ap (λ a. perform a s) (same_row p q h s scope f vs later)
same_around p q h scope f later s (moved m) = same_moved m
  where
    same_moved : (m : _) → around p scope f later s (moved m) ≡ around q scope f later s (moved m)
    same_moved _ = refl

mutual
  same_next : (p q : Program)
      → HasSameFunctions p q
      → (t : Term) (scope : Addr) (s : State)
      → next p scope t s ≡ next q scope t s
  same_next p q h (done v) scope s = refl
  same_next p q h (standing v place) scope s = refl
  same_next p q h (part f now later) scope s =
      ap (around p scope f later s) (same_walk p q h now (scope_in f scope) s)
      ∙ same_around p q h scope f later s (walk q (scope_in f scope) now s)

  same_walk : (p q : Program)
      → HasSameFunctions p q
      → (ts : Terms) (scope : Addr) (s : State)
      → walk p scope ts s ≡ walk q scope ts s
  same_walk p q h end scope s = refl
  same_walk p q h (more (done v) ts) scope s = ap (with_value v) (same_walk p q h ts scope s)
  same_walk p q h (more (standing v place) ts) scope s = refl
  same_walk p q h (more (part f now later) ts) scope s =
      ap (λ m. moved (inside (λ t. more t ts) m)) (same_next p q h (part f now later) scope s)

same_step : (p q : Program) → HasSameFunctions p q → (scope : Addr) (r : Run) → step_in p scope r ≡ step_in q scope r
same_step p q h scope (running t s) = ap run_after (same_next p q h t scope s)
same_step p q h scope (over f s) = refl

pub same-steps : (k : ℕ) (p q : Program) (scope : Addr) (r : Run)
    → HasSameFunctions p q
    → steps_in k p scope r ≡ steps_in k q scope r
same-steps zero p q scope r h = refl
same-steps (suc k) p q scope r h =
    ap (steps_in k p scope) (same_step p q h scope r) ∙ same-steps k p q scope (step_in q scope r) h

-- ---- a source behind the others

source_refl : (a : Source) → same_source a a ≡ true
source_refl (script_source m) = eq-eqb m m refl
source_refl (kept_source (Base m)) = eq-eqb m m refl
source_refl (kept_source (Scratch m)) = eq-eqb m m refl

-- no source is two
both_sources : (a b s : Source) → same_source a b ≡ false → same_source a s ≡ true → same_source b s ≡ true → ⊥
both_sources a b s n e f =
    let g : a ≡ b = same_source-true a s e ∙ sym (same_source-true b s f) in
    let P : Source → Type 0 = λ x. same_source a x ≡ true in
    let h : same_source a b ≡ true = subst P g (source_refl a) in
    cc

swapped : {A : Type 0} (b c : Bool) (x y z : A)
    → (b ≡ true → c ≡ true → ⊥)
    → (if b then x else (if c then y else z)) ≡ (if c then y else (if b then x else z))
swapped true true x y z h = absurd (h refl refl)
swapped true false x y z h = refl
swapped false c x y z h = refl

pub behind-others : (p : Program) (t : SourceTree) → IsNewSource t.source p → HasSameFunctions (p ++ t ∷ []) (t ∷ p)
behind-others [] t n source node = refl
behind-others (e ∷ p) t n source node =
    ap (λ o. if same_source e.source source then function_in node e.tree else o) (behind-others p t n.1 source node)
    ∙ swapped (same_source e.source source) (same_source t.source source) (function_in node e.tree)
    (function_in node t.tree) (function_at p source node) (both_sources e.source t.source source n.0)

-- in front of programs with the same functions
pub in-front : (p q : Program) (t : SourceTree) → HasSameFunctions p q → HasSameFunctions (t ∷ p) (t ∷ q)
in-front p q t h source node =
    ap (λ o. if same_source t.source source then function_in node t.tree else o) (h source node)

pub ruleset step_rules = (same-steps)

pub ruleset order_rules = (behind-others)
