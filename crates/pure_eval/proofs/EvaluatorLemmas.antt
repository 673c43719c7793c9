-- An evaluator's code, and what its evaluations answer.
use Rattle.std.proofs.Common.{◌≡◌, ℕ, ◌+◌, ◌-◌, ◌<◌, ◌≤◌, Bool, true, false, List, [], ◌∷◌, ◌++◌, length, if◌then◌else◌, refl, sym, ap, subst, ◌∙◌, arith}
use Rattle.std.specs.Prelude.{nat_eq, nat_le}
use Rattle.js_heap.specs.declared.value.Addr.{Addr}
use Rattle.js_heap.specs.declared.value.Addr.TheVariants.{Base, Scratch}
use Rattle.js_heap.specs.declared.value.Value.{Value}
use Rattle.js_heap.specs.declared.value.Value.TheVariants as values
use Rattle.js_heap.specs.BuiltIns.{script_scope}
use Rattle.js_heap.specs.declared.cell.Cell.TheVariants as cells
use Rattle.js_heap.specs.declared.change.Counted.{Counted}
use Rattle.js_heap.specs.declared.change.Counted.TheVariants as counted
use Rattle.js_heap.specs.World.{World, Tried, fine, effect, full}
use Rattle.js_heap.specs.ScratchSpaces.{ScratchSpace, copied_world}
use Rattle.js_semantics.specs.declared.form.Source.{Source}
use Rattle.js_semantics.specs.declared.form.Source.TheVariants.{Script as script_source, Kept as kept_source}
use Rattle.js_semantics.specs.Terms as semantics
use Rattle.js_semantics.specs.Terms.{Term, Terms, settle}
use Rattle.js_semantics.specs.Functions.{Program, SourceTree, same_source}
use Rattle.js_tree.specs.declared.script.FunctionCode.{FunctionCode}
use Rattle.js_tree.specs.declared.tree.Expr.{Expr}
use Rattle.js_semantics.specs.Makers.{MadeExpression}
use Rattle.js_semantics.specs.Sources.{expression_source}
use Rattle.js_semantics.specs.Literals.{source_literals}
use Rattle.js_semantics.specs.Laws.{AnswerKeeps}
use Rattle.js_semantics.proofs.EvaluationLemmas.{evaluate-keeps, call-keeps}
use Rattle.js_semantics.proofs.LiteralLaws.{literals-agree}
use Rattle.js_semantics.specs.Run.{literals, program_from, run_of, steps_in}
use Rattle.js_semantics.specs.Evaluation.{Answer, answer_of, budget, evaluation_state, evaluated, answered, after_try, place_literals, next_kept, kept_term, kept_tree, with_source, prepared, Argument, with_arguments, evaluate_function}
use Rattle.js_machine_terms.specs.Views.{term_view}
use Rattle.js_heap_memory.specs.Names.{GoesOn}
use Rattle.js_heap_memory.specs.Heaps.{Heap, heap_world}
use Rattle.js_heap_memory.specs.Overlays.{space_of, next_of}
use Rattle.js_heap_memory.proofs.HeapLemmas.{cells-length}
use Rattle.js_machine_nodes.specs.declared.node.SourceEntry.{SourceEntry}
use Rattle.js_machine_nodes.specs.declared.table.NodeTable.{NodeTable}
use Rattle.js_machine_nodes.specs.Trees.{tree, program_of}
use Rattle.pure_eval.specs.declared.cutting.TableMark.{TableMark}
use Rattle.pure_eval.specs.Whole.{IsWhole}
use Rattle.pure_eval.specs.Adding.{kept_tree_at, GoesOnWith, IsAdded}
use Rattle.pure_eval.specs.Cutting.{IsMarkOf, IsBack}
use Rattle.pure_eval.specs.declared.evaluated.Evaluated.{Evaluated}
use Rattle.pure_eval.specs.declared.evaluated.Evaluated.TheVariants as ends
use Rattle.pure_eval.specs.declared.evaluator.Evaluator.{Evaluator}
use Rattle.pure_eval.specs.declared.prepared.PreparedSource.{PreparedSource}
use Rattle.pure_eval.specs.declared.work.Work.{Work}
use Rattle.pure_eval.specs.declared.work.Work.TheVariants as works
use Rattle.pure_eval.specs.Arguments.{arguments_of}
use Rattle.pure_eval.specs.Calling.{called, worked, work_of}
use Rattle.pure_eval.specs.Evaluators.{IsBelow, AreBelow, HoldsProgram, Runs, IsMadeOf, IsBehind, is_kept, RunsAfter}
use Rattle.pure_eval.specs.Leaving.{Leaves}
use Rattle.pure_eval.specs.Orders.{AreSameLiterals, ready_in_order}
use Rattle.pure_eval.specs.Preparing.{IsReady}
use Rattle.pure_eval.specs.Programs.{HasSameFunctions, IsNewSource}
use Rattle.pure_eval.proofs.SettledTerms.{kept-settled}
use Rattle.pure_eval.proofs.ProgramLemmas.{same-steps, behind-others, in-front}
use Rattle.js_machine_compiler.proofs.NameLemmas.{goes_on_same}
use Rattle.js_heap_memory.proofs.StartLemmas.{goes-then}
use Rattle.std.proofs.lemmas.Bool.{eqb-true}

-- ---- names that go on

-- ---- sources that stand below a number

apart_if : (b : Bool) (k m : ℕ) → nat_eq k m ≡ b → k < m → b ≡ false
apart_if true k m e h =
    let f : k ≡ m = eqb-true k m e in
    absurd (omega (arith, f, h))
apart_if false k m e h = refl

below_other : (n m : ℕ) (s : Source) → IsBelow n s → n ≤ m → same_source s (kept_source (Scratch m)) ≡ false
below_other n m (script_source number) b h = refl
below_other n m (kept_source (Base k)) b h = refl
below_other n m (kept_source (Scratch k)) b h = apart_if (nat_eq k m) k m refl (omega (arith, b, h))

below_new : (n m : ℕ) (p : Program) → AreBelow n p → n ≤ m → IsNewSource (kept_source (Scratch m)) p
below_new n m [] b h = tt
below_new n m (t ∷ ts) b h = (below_other n m t.source b.0 h, below_new n m ts b.1 h)

below_wider : (n m : ℕ) (s : Source) → IsBelow n s → n ≤ m → IsBelow m s
below_wider n m (script_source number) b h = tt
below_wider n m (kept_source (Base k)) b h = tt
below_wider n m (kept_source (Scratch k)) b h = omega (arith, b, h)

below_more : (n m : ℕ) (p : Program) (x : Term)
    → AreBelow n p
    → n ≤ m
    → AreBelow (m + 1) (p ++ kept_tree_at (Scratch m) x ∷ [])
below_more n m [] x b h = let l : m < m + 1 = omega arith in (l, tt)
below_more n m (t ∷ ts) x b h = (below_wider n (m + 1) t.source b.0 (omega (arith, h)), below_more n m ts x b.1 h)

below_scripts : (k : ℕ) (xs : Terms) → AreBelow 0 (program_from k xs)
below_scripts k semantics.end = tt
below_scripts k (semantics.more t ts) = (tt, below_scripts (k + 1) ts)

-- ---- the code of an evaluator

pub same-program : (p q : Program) → p ≡ q → HasSameFunctions p q
same-program p q e source node =
    let P : Program → Type 0 = λ r. HasSameFunctions p r in let k : P q = subst P e (λ s n. refl) in k source node

same_through : (p q r : Program) → HasSameFunctions p q → HasSameFunctions q r → HasSameFunctions p r
same_through p q r g h source node = g source node ∙ h source node

pub stands-first : (ts : List (List ℕ)) (t : NodeTable) (xs : Terms)
    → IsWhole t
    → ((us : List (List ℕ)) → GoesOn ts us → program_of us t ≡ program_from 1 xs)
    → HoldsProgram ts t 0 (program_from 1 xs)
stands-first ts t xs w h = record {
  whole = w;
  below = λ us g. let P : Program → Type 0 = λ p. AreBelow 0 p in subst P (sym (h us g)) (below_scripts 1 xs);
  same = λ us g. same-program (program_of us t) (program_from 1 xs) (h us g);
}

pub stands-added : (ts us : List (List ℕ)) (t u : NodeTable) (n m root : ℕ) (x : Term) (p : Program)
    → HoldsProgram ts t n p
    → n ≤ m
    → IsAdded ts t (Scratch m) x us u root
    → HoldsProgram us u (m + 1) (kept_tree_at (Scratch m) x ∷ p)
stands-added ts us t u n m root x p s l a =
    let before : (vs : List (List ℕ)) → GoesOn us vs → GoesOn ts vs = λ vs g. goes-then ts us vs a.goes_on g in
    record {
      whole = a.whole;
      below =
          λ vs g. let P : Program → Type 0 = λ q. AreBelow (m + 1) q in
          subst P (sym (a.program vs g)) (below_more n m (program_of vs t) x (s.below vs (before vs g)) l);
      same = λ vs g.
          same_through (program_of vs u) (program_of vs t ++ kept_tree_at (Scratch m) x ∷ [])
          (kept_tree_at (Scratch m) x ∷ p)
          (same-program (program_of vs u) (program_of vs t ++ kept_tree_at (Scratch m) x ∷ []) (a.program vs g))
          (same_through (program_of vs t ++ kept_tree_at (Scratch m) x ∷ [])
          (kept_tree_at (Scratch m) x ∷ program_of vs t) (kept_tree_at (Scratch m) x ∷ p)
          (behind-others (program_of vs t) (kept_tree_at (Scratch m) x)
          (below_new n m (program_of vs t) (s.below vs (before vs g)) l))
          (in-front (program_of vs t) p (kept_tree_at (Scratch m) x) (s.same vs (before vs g))));
    }

pub stands-back : (ts us : List (List ℕ)) (t v : NodeTable) (n : ℕ) (p : Program)
    → HoldsProgram ts t n p
    → GoesOn ts us
    → IsBack t v
    → HoldsProgram us v n p
stands-back ts us t v n p s g b = record {
  whole = b.whole;
  below =
      λ vs h. let P : Program → Type 0 = λ q. AreBelow n q in
      subst P (sym (b.program vs)) (s.below vs (goes-then ts us vs g h));
  same =
      λ vs h. let P : Program → Type 0 = λ q. HasSameFunctions q p in
      subst P (sym (b.program vs)) (s.same vs (goes-then ts us vs g h));
}

-- ---- answers

evaluated_by : (n : ℕ) (p q : Program) (scope : Addr) (receiver : Value) (w : World) (t : Term)
    → HasSameFunctions p q
    → answer_of (steps_in n p scope (run_of t (evaluation_state w receiver))) ≡ answer_of
    (steps_in n q scope (run_of t (evaluation_state w receiver)))
evaluated_by n p q scope receiver w t h =
    ap answer_of (same-steps n p q scope (run_of t (evaluation_state w receiver)) h)

evaluated_same : (p q : Program) (scope : Addr) (receiver : Value) (w : World) (t : Term)
    → HasSameFunctions p q
    → evaluated p scope receiver w t ≡ evaluated q scope receiver w t
evaluated_same p q scope receiver w t h = evaluated_by budget p q scope receiver w t h

answered_same : (o : Tried Term) (j k : World → Term → Answer)
    → ((w : World) (t : Term) → j w t ≡ k w t)
    → answered o j ≡ answered o k
answered_same (fine t w) j k h = h w t
answered_same effect j k h = refl
answered_same (full what) j k h = refl

tried_same : (b : Bool) (a : Addr) (v : World) (what : Counted) (k : Addr → World → Tried Term)
    → after_try (if b then fine a v else full what) k ≡ after_try (if b then fine a v else full what) (λ c z. k a z)
tried_same true a v what k = refl
tried_same false a v what k = refl

prepared_same : (w : World) (x : ScratchSpace) (us : List ℕ) (order : List (List ℕ)) (e : MadeExpression)
    → prepared w x us order e ≡ ready_in_order w x us order (literals (kept_term (next_kept x) e))
    (kept_tree (next_kept x) e)
prepared_same w x us order e =
    let c : World = copied_world w x in
    let v : World = record c {
      scratch = c.scratch ++ cells.Text us ∷ [];
      room = record {
        cells = c.room.cells;
        units = c.room.units - length us;
      };
    } in
    tried_same (nat_le (length us) c.room.units) (Scratch (length c.scratch)) v counted.Units
    (λ at z. after_try (place_literals z order (literals (kept_term at e))) (λ o y. fine (kept_tree at e) y))

ready_same : (w : World) (x : ScratchSpace) (us : List ℕ) (order ls : List (List ℕ)) (u : Term) (e : MadeExpression)
    → u ≡ kept_tree (next_kept x) e
    → ls ≡ literals (kept_term (next_kept x) e)
    → ready_in_order w x us order ls u ≡ prepared w x us order e
ready_same w x us order ls u e f g =
    ap (ready_in_order w x us order ls) f
    ∙ ap (λ l. ready_in_order w x us order l (kept_tree (next_kept x) e)) g
    ∙ sym (prepared_same w x us order e)

evaluate_by : (w : World) (x z : ScratchSpace) (us : List ℕ) (order ls : List (List ℕ)) (u : Term) (e : MadeExpression)
    (r : Evaluated) (j k : World → Term → Answer)
    → ((v : World) (t : Term) → j v t ≡ k v t)
    → u ≡ kept_tree (next_kept x) e
    → ls ≡ literals (kept_term (next_kept x) e)
    → Leaves (answered (ready_in_order w x us order ls u) j) r x z
    → Leaves (answered (prepared w x us order e) k) r x z
evaluate_by w x z us order ls u e r j k same f g h =
    let P : Answer → Type 0 = λ a. Leaves a r x z in
    subst P (answered_same (ready_in_order w x us order ls u) j k same
    ∙ ap (λ o. answered o k) (ready_same w x us order ls u e f g))
    h

pub next-same : (ts : List (List ℕ)) (h : Heap) → next_kept (space_of ts h) ≡ Scratch (length h.cells)
next-same ts h = ap (λ n. Scratch n) (cells-length ts h.cells)

pub source_same : (a b : Addr) (x y : Term) → a ≡ b → x ≡ y → kept_tree_at a x ≡ kept_tree_at b y
source_same a b x y e f = ap (λ c. kept_tree_at c x) e ∙ ap (kept_tree_at b) f

pub behind-is : (at : Addr) (h : Heap) (from n : ℕ)
    → at ≡ next_of h
    → IsBehind at from n
    → (from ≤ length h.cells) × (n ≡ length h.cells + 1)
behind-is at h from n e b = let P : Addr → Type 0 = λ a. IsBehind a from n in subst P e b

-- the source that was added is the one that the definition has in front
pub stands-with : (ts us : List (List ℕ)) (t u : NodeTable) (n next root : ℕ) (x : Term) (p : Program) (h : Heap)
    (at : Addr) (e : MadeExpression) (order ls : List (List ℕ))
    → HoldsProgram ts t n p
    → at ≡ next_of h
    → IsBehind at n next
    → IsAdded ts t at x us u root
    → IsMadeOf (next_kept (space_of ts h)) e order ls x
    → HoldsProgram us u next (with_source p (space_of ts h) e)
stands-with ts us t u n next root x p h at e order ls s i l a m =
    let b = behind-is at h n next i l in
    let P : Addr → Type 0 = λ c. IsAdded ts t c x us u root in
    let Q : SourceTree → Type 0 = λ y. HoldsProgram us u (length h.cells + 1) (y ∷ p) in
    let R : ℕ → Type 0 = λ k. HoldsProgram us u k (with_source p (space_of ts h) e) in
    let k : HoldsProgram us u (length h.cells + 1) (kept_tree_at (Scratch (length h.cells)) x ∷ p)
    = stands-added ts us t u n (length h.cells) root x p s b.0 (subst P i a) in
    let o : HoldsProgram us u (length h.cells + 1) (with_source p (space_of ts h) e) = subst Q
    (source_same (Scratch (length h.cells)) (next_kept (space_of ts h)) x (kept_tree (next_kept (space_of ts h)) e)
    (sym (next-same ts h)) m.term_is)
    k in
    subst R (sym b.1) o

called_same : (p q : Program) (receiver : Value) (as_given : List Argument) (w : World) (t : Term)
    → HasSameFunctions p q
    → called p receiver as_given w t ≡ called q receiver as_given w t
called_same p q receiver as_given w t h =
    answered_same (with_arguments receiver as_given (fine t w)) (evaluated p script_scope values.Undefined)
    (evaluated q script_scope values.Undefined) (λ v u. evaluated_same p q script_scope values.Undefined v u h)

worked_same : (p q : Program) (work : Work) (w : World) (t : Term)
    → HasSameFunctions p q
    → worked p work w t ≡ worked q work w t
worked_same p q (works.Expression scope receiver) w t h = evaluated_same p q scope receiver w t h
worked_same p q (works.Call receiver arguments) w t h = called_same p q receiver (arguments_of arguments.now) w t h

evaluator_answers : (ts us : List (List ℕ)) (t u : NodeTable) (n root : ℕ) (x : Term) (p : Program) (w : World)
    (y z : ScratchSpace) (at : Addr) (work : Work) (e : MadeExpression) (source : List ℕ) (order ls : List (List ℕ))
    (r : Evaluated)
    → IsAdded ts t at x us u root
    → HoldsProgram us u n (with_source p y e)
    → IsMadeOf (next_kept y) e order ls x
    → (AreSameLiterals order ls
    → Leaves (answered (ready_in_order w y source order ls (settle (tree us u root)))
    (worked (program_of us u) work))
    r y z)
    → Leaves (work_of p w y source order e work) r y z
evaluator_answers ts us t u n root x p w y z at work e source order ls r a s m h =
    let f : settle (tree us u root) ≡ kept_tree (next_kept y) e = ap settle (a.tree us (goes_on_same us))
    ∙ m.stays
    ∙ m.term_is in
    evaluate_by w y z source order ls (settle (tree us u root)) e r (worked (program_of us u) work)
    (worked (with_source p y e) work)
    (λ v o. worked_same (program_of us u) (with_source p y e) work v o (s.same us (goes_on_same us))) f m.literals_are
    (h m.outcome)

pub evaluator-leaves : (ts us ns : List (List ℕ)) (t u : NodeTable) (n next root : ℕ) (x : Term) (p : Program)
    (w : World) (h k : Heap) (at : Addr) (work : Work) (e : MadeExpression) (source : List ℕ) (order ls : List (List ℕ))
    (r : Evaluated)
    → HoldsProgram ts t n p
    → at ≡ next_of h
    → IsBehind at n next
    → IsAdded ts t at x us u root
    → IsMadeOf (next_kept (space_of ts h)) e order ls x
    → (AreSameLiterals order ls
    → Leaves (answered (ready_in_order w (space_of ts h) source order ls (settle (tree us u root)))
    (worked (program_of us u) work))
    r (space_of ts h) (space_of us k))
    → ns ≡ us
    → Leaves (work_of p w (space_of ts h) source order e work) r (space_of ts h) (space_of ns k)
evaluator-leaves ts us ns t u n next root x p w h k at work e source order ls r s i l a m f g =
    let P : List (List ℕ)
    → Type 0 = λ vs. Leaves (work_of p w (space_of ts h) source order e work) r (space_of ts h) (space_of vs k) in
    subst P (sym g)
    (evaluator_answers ts us t u next root x p w (space_of ts h) (space_of us k) at work e source order ls r a
    (stands-with ts us t u n next root x p h at e order ls s i l a m) m f)

-- ---- names that are known

pub known-leaves : (ts us : List (List ℕ)) (b h k : Heap) (z : ScratchSpace) (source : List ℕ)
    (order ls : List (List ℕ)) (t : Term) (j : World → Term → Answer) (r : Evaluated)
    → heap_world us b ≡ heap_world ts b
    → space_of us h ≡ space_of ts h
    → space_of us k ≡ space_of us h
    → Leaves (answered (ready_in_order (heap_world us b) (space_of us k) source order ls t) j) r (space_of us k) z
    → Leaves (answered (ready_in_order (heap_world ts b) (space_of ts h) source order ls t) j) r (space_of ts h) z
known-leaves ts us b h k z source order ls t j r e f i l =
    let P : World
    → Type 0 = λ w. Leaves (answered (ready_in_order w (space_of us k) source order ls t) j) r (space_of us k) z in
    let Q : ScratchSpace
    → Type 0 = λ x. Leaves (answered (ready_in_order (heap_world ts b) x source order ls t) j) r x z in
    subst Q (i ∙ f) (subst P e l)

pub world-further : (ts us : List (List ℕ)) (b : Heap)
    → GoesOn ts us
    → ((names more : List (List ℕ)) → b.ends ≤ length names → heap_world (names ++ more) b ≡ heap_world names b)
    → b.ends ≤ length ts
    → heap_world us b ≡ heap_world ts b
world-further ts us b g h l = ap (λ vs. heap_world vs b) g.is ∙ h ts g.more l

pub space-further : (ts us : List (List ℕ)) (b : Heap)
    → GoesOn ts us
    → ((names more : List (List ℕ)) → b.ends ≤ length names → space_of (names ++ more) b ≡ space_of names b)
    → b.ends ≤ length ts
    → space_of us b ≡ space_of ts b
space-further ts us b g h l = ap (λ vs. space_of vs b) g.is ∙ h ts g.more l

-- ---- behind an evaluation

runs_by : (end : Evaluated) (f : Evaluator) (p q : Program)
    → (is_kept end ≡ true → Runs f q)
    → (is_kept end ≡ false → Runs f p)
    → RunsAfter end f p q
runs_by (ends.Value v) f p q h k = h refl
runs_by (ends.Thrown v) f p q h k = h refl
runs_by ends.Effect f p q h k = k refl
runs_by (ends.Full what) f p q h k = k refl
runs_by ends.Spent f p q h k = k refl
runs_by ends.Memory f p q h k = tt

pub stands-same : (ts us : List (List ℕ)) (t u : NodeTable) (n m : ℕ) (p : Program)
    → us ≡ ts
    → u ≡ t
    → m ≡ n
    → HoldsProgram ts t n p
    → HoldsProgram us u m p
stands-same ts us t u n m p e f g h =
    let P : List (List ℕ) → Type 0 = λ vs. HoldsProgram vs t n p in
    let Q : NodeTable → Type 0 = λ v. HoldsProgram us v n p in
    let R : ℕ → Type 0 = λ k. HoldsProgram us u k p in
    subst R (sym g) (subst Q (sym f) (subst P (sym e) h))

pub runs-after : (ts us : List (List ℕ)) (t u : NodeTable) (n m root : ℕ) (x : Term) (p q : Program) (at : Addr)
    (mark : TableMark) (next : ℕ) (end : Evaluated) (f : Evaluator)
    → m ≡ n
    → HoldsProgram ts t n p
    → IsAdded ts t at x us u root
    → HoldsProgram us u next q
    → IsMarkOf t mark
    → f.names ≡ us
    → (is_kept end ≡ true → (f.table ≡ u) × (f.next ≡ next))
    → (is_kept end ≡ false
    → (f.next ≡ m)
    × ((v : NodeTable) (es : List SourceEntry)
    → IsWhole v
    → IsMarkOf v mark
    → GoesOnWith v u es
    → IsBack v f.table))
    → RunsAfter end f p q
runs-after ts us t u n m root x p q at mark next end f l s a k d e h i =
    runs_by end f p q (λ o. stands-same us f.names u f.table next f.next q e (h o).0 (h o).1 k)
    (λ o. let b = i o in
    stands-same us f.names f.table f.table n f.next p e refl (b.0 ∙ l)
    (stands-back ts us t f.table n p s a.goes_on (b.1 t (a.entry ∷ []) s.whole d a.table)))

-- ---- the terms of expressions

pub made-of : (at : Addr) (e : Expr)
    → IsMadeOf at (expression_source e) (source_literals e) (literals (kept_term at (expression_source e)))
    (kept_tree at (expression_source e))
made-of at e =
    record { term_is = refl; literals_are = refl; stays = kept-settled at e; outcome = λ w. literals-agree w at e }

pub ready-made : (at : Addr) (units : List ℕ) (e : Expr) (p : PreparedSource) (x : Term) (order ls : List (List ℕ))
    → x ≡ term_view p.term
    → order ≡ p.order.items
    → ls ≡ p.literals.items
    → IsReady at units e p
    → IsMadeOf at (expression_source e) order ls x
ready-made at units e p x order ls h f g i =
    let P : List (List ℕ) → Type 0 = λ o. AreSameLiterals o ls in
    let Q : List (List ℕ) → Type 0 = λ l. AreSameLiterals (source_literals e) l in
    let is : x ≡ kept_tree at (expression_source e) = h ∙ i.term in
    record {
      term_is = is;
      literals_are = g ∙ i.literals;
      stays = ap settle is ∙ kept-settled at e ∙ sym is;
      outcome = subst P (sym (f ∙ i.order)) (subst Q (sym (g ∙ i.literals)) (λ w. literals-agree w at e));
    }

pub ready-leaves : (q : Program) (w : World) (x y : ScratchSpace) (work : Work) (at : Addr) (units : List ℕ) (e : Expr)
    (p : PreparedSource) (order : List (List ℕ)) (r : Evaluated)
    → order ≡ p.order.items
    → IsReady at units e p
    → Leaves (work_of q w x p.source order (expression_source e) work) r x y
    → Leaves (work_of q w x units (source_literals e) (expression_source e) work) r x y
ready-leaves q w x y work at units e p order r f i h =
    let P : List ℕ → Type 0 = λ us. Leaves (work_of q w x us order (expression_source e) work) r x y in
    let Q : List (List ℕ) → Type 0 = λ o. Leaves (work_of q w x units o (expression_source e) work) r x y in
    subst Q (f ∙ i.order) (subst P i.source h)

-- ---- the definition's calls

calls : (t : Tried Term) (p : Program) (receiver : Value) (as_given : List Argument)
    → answered (with_arguments receiver as_given t) (evaluated p script_scope values.Undefined) ≡ answered t
    (called p receiver as_given)
calls (fine t w) p receiver as_given = refl
calls effect p receiver as_given = refl
calls (full what) p receiver as_given = refl

pub call-is : (p : Program) (w : World) (x : ScratchSpace) (f : FunctionCode) (receiver : Value)
    (as_given : List Argument)
    → evaluate_function p w x f receiver as_given ≡ answered
    (prepared w x f.source (source_literals f.tree) (expression_source f.tree))
    (called (with_source p x (expression_source f.tree)) receiver as_given)
call-is p w x f receiver as_given =
    calls (prepared w x f.source (source_literals f.tree) (expression_source f.tree))
    (with_source p x (expression_source f.tree)) receiver as_given

pub work-keeps : (p : Program) (w : World) (x : ScratchSpace) (source : List ℕ) (order : List (List ℕ)) (e : MadeExpression)
    (work : Work)
    → AnswerKeeps w x (work_of p w x source order e work)
work-keeps p w x source order e (works.Expression scope receiver) = evaluate-keeps p w x scope receiver source order e
work-keeps p w x source order e (works.Call receiver arguments) =
    let as_given : List Argument = arguments_of arguments.now in
    let P : Answer → Type 0 = λ a. AnswerKeeps w x a in
    subst P (calls (prepared w x source order e) (with_source p x e) receiver as_given)
    (call-keeps p w x source order e receiver as_given)
