-- Evaluations over an opened workspace.
use Rattle.std.proofs.Common.{◌≡◌, ℕ, zero, suc, ◌≤◌, false, List, [], ◌∷◌, ◌++◌, length, take, Option, refl, sym, ap, subst, ◌∙◌, arith}
use Rattle.std.proofs.Math.Seq.{take-length}
use Rattle.js_heap.specs.declared.value.Addr.{Addr}
use Rattle.js_heap.specs.declared.value.Addr.TheVariants.{Scratch}
use Rattle.js_heap.specs.declared.cell.Cell.{Cell}
use Rattle.js_heap.specs.World.{World}
use Rattle.js_heap.specs.ScratchSpaces.{ScratchSpace, copied_world}
use Rattle.js_semantics.specs.Functions.{Program, SourceTree}
use Rattle.js_semantics.specs.Makers.{MadeExpression}
use Rattle.js_semantics.specs.Terms.{Term}
use Rattle.js_semantics.specs.Laws.{AnswerKeeps}
use Rattle.js_semantics.specs.Evaluation.{Answer, kept_tree, next_kept}
use Rattle.js_semantics.specs.Literals.{source_literals}
use Rattle.js_semantics.specs.Sources.{expression_source}
use Rattle.js_machine_terms.specs.Views.{term_view}
use Rattle.js_tree.specs.declared.tree.Expr.{Expr}
use Rattle.js_heap_memory.specs.Heaps.{Heap, heap_world}
use Rattle.js_heap_memory.specs.Overlays.{OverlayMark, Over, over_world, space_of, space_after, space_at, next_of}
use Rattle.js_machine_nodes.specs.Trees.{program_of}
use Rattle.pure_eval.specs.declared.evaluated.Evaluated.{Evaluated}
use Rattle.pure_eval.specs.declared.evaluated.Evaluated.TheVariants as ends
use Rattle.pure_eval.specs.declared.evaluator.Evaluator.{Evaluator}
use Rattle.pure_eval.specs.declared.evaluator.EvaluatorMark.{EvaluatorMark}
use Rattle.pure_eval.specs.declared.holding.CodeChoice.{CodeChoice}
use Rattle.pure_eval.specs.declared.holding.HeldCodes.{HeldCodes}
use Rattle.js_machine_nodes.specs.declared.node.SourceEntry.{SourceEntry}
use Rattle.pure_eval.specs.declared.prepared.PreparedSource.{PreparedSource}
use Rattle.pure_eval.specs.declared.work.Work.{Work}
use Rattle.pure_eval.specs.Adding.{kept_tree_at}
use Rattle.pure_eval.specs.Calling.{work_of}
use Rattle.pure_eval.specs.Evaluators.{Runs}
use Rattle.pure_eval.specs.Holding.{AreOfChoice, IsChosen, IsHeldAt, code_term, HeldSource, sources_held}
use Rattle.pure_eval.specs.Leaving.{Leaves}
use Rattle.pure_eval.specs.Preparing.{IsReady}
use Rattle.pure_eval.specs.Returning.{WentOn, WentOnAfter, IsCode, CodeAfter}
use Rattle.pure_eval.specs.Answering.{is_memory}
use Rattle.pure_eval.specs.Working.{IsWorking, IsOpen}
use Rattle.pure_eval.specs.Workspaces.{OpenWorkspace, opened_of, source_kept, EvaluatesTo}
use Rattle.pure_eval.proofs.EvaluatorLemmas.{next-same, source_same, world-further, work-keeps}
use Rattle.pure_eval.proofs.HoldLemmas.{chosen-held, chosen-term, sources-on}
use Rattle.pure_eval.proofs.ReturnLemmas.{went-through}
use Rattle.pure_eval.specs.Held.{marked_names}
use Rattle.pure_eval.proofs.WorkspaceLemmas.{space_over, made_open, program-first, names-stay}

-- ---- what holds behind an evaluation

went_on : (end : Evaluated) (old new : Evaluator) → is_memory end ≡ false → WentOnAfter end old new → WentOn old new
went_on (ends.Value v) old new f g = g
went_on (ends.Thrown v) old new f g = g
went_on ends.Effect old new f g = g
went_on (ends.Full what) old new f g = g
went_on ends.Spent old new f g = g
went_on ends.Memory old new f g = absurd cc

code_on : (end : Evaluated) (new : Evaluator) (p : Program) (s : SourceTree)
    → is_memory end ≡ false
    → CodeAfter end new p s
    → IsCode new
code_on (ends.Value v) new p s f c = c.code
code_on (ends.Thrown v) new p s f c = c.code
code_on ends.Effect new p s f c = c.code
code_on (ends.Full what) new p s f c = c.code
code_on ends.Spent new p s f c = c.code
code_on ends.Memory new p s f c = absurd cc

working_on : (old new : Evaluator) (n : ℕ) (m : EvaluatorMark)
    → IsWorking old n m
    → WentOn old new
    → IsCode new
    → IsWorking new n m
working_on old new n m w g c = record {
  code = c;
  first = w.first;
  first_code = w.first_code;
  marked = w.marked;
  goes_on = went-through w.first old new w.goes_on g;
  count = w.count;
}

pub open-on : (end : Evaluated) (old new : Evaluator) (n : ℕ) (start m : EvaluatorMark) (base h : Heap) (o q : Over)
    (k : OverlayMark) (count : ℕ) (next later : Addr) (held : Option HeldCodes) (p : Program) (s : SourceTree)
    → is_memory end ≡ false
    → IsOpen old n start m base o k count next held
    → WentOnAfter end old new
    → CodeAfter end new p s
    → ((ts : List (List ℕ)) → over_world ts q ≡ copied_world (heap_world ts base) (space_of ts h))
    → q.base ≡ base
    → later ≡ next_of h
    → IsOpen new n start m base q k count later held
open-on end old new n start m base h o q k count next later held p s f i went code over based next_is =
    let g : WentOn old new = went_on end old new f went in
    let there : (ts : List (List ℕ))
    → space_after (over_world ts q) ≡ space_of ts h = λ ts. space_over ts base h q (over ts) in
    record {
      working = working_on old new n start i.working g (code_on end new p s f code);
      before = i.before;
      before_working = i.before_working;
      before_holds = i.before_holds;
      marked = i.marked;
      goes_on = went-through i.before old new i.goes_on g;
      base_is = based;
      ready = λ ts. over ts ∙ ap (copied_world (heap_world ts base)) (sym (there ts));
      marked_cells = i.marked_cells;
      next_is = next_is ∙ sym (next-same new.names h) ∙ ap next_kept (sym (there new.names));
    }

-- the names with which it began stay
pub names-on : (end : Evaluated) (old new : Evaluator) (n : ℕ) (m : EvaluatorMark)
    → is_memory end ≡ false
    → IsWorking old n m
    → WentOnAfter end old new
    → marked_names new m ≡ marked_names old m
names-on end old new n m f w went = names-stay old new n m w (went_on end old new f went)

-- ---- the cells of when it was opened

take_first : {A : Type 0} → (k l : ℕ) (ys : List A) → k ≤ l → take k (take l ys) ≡ take k ys
take_first zero l ys h = refl
take_first (suc k) zero ys h = absurd (omega (arith, h))
take_first (suc k) (suc l) [] h = refl
take_first (suc k) (suc l) (y ∷ ys) h = ap (λ zs. y ∷ zs) (take_first k l ys (omega (arith, h)))

cells_stay : (x y : ScratchSpace) (k : OverlayMark)
    → k.count ≤ length x.cells
    → take (length x.cells) y.cells ≡ x.cells
    → space_at y k ≡ space_at x k
cells_stay x y k h e =
    let f : List Cell
    → ScratchSpace = λ cs. record { cells = cs; room = record { cells = k.cells_left; units = k.units_left } } in
    ap f (sym (take_first k.count (length x.cells) y.cells h) ∙ ap (take k.count) e)

-- ---- what an evaluation comes to

open_same : (w v : World) (p r a b : Program) (x y z u : ScratchSpace) (n : ℕ)
    → w ≡ v
    → p ≡ r
    → x ≡ y
    → a ≡ b
    → z ≡ u
    → made_open w p x a z n ≡ made_open v r y b u n
open_same w v p r a b x y z u n e f g h i =
    ap (λ s. made_open s p x a z n) e
    ∙ ap (λ s. made_open v s x a z n) f
    ∙ ap (λ s. made_open v r s a z n) g
    ∙ ap (λ s. made_open v r y s z n) h
    ∙ ap (λ s. made_open v r y b s n) i

-- behind an evaluation over an opened workspace, which did not give up the evaluator
record Behind (old new : Evaluator) (n : ℕ) (start m : EvaluatorMark) (base h : Heap) (o q : Over) (k : OverlayMark)
    (count : ℕ) (next : Addr) (held : Option HeldCodes) : Type 0 where
  pub open_old : IsOpen old n start m base o k count next held
  pub went : WentOn old new
  pub code : IsCode new
  pub further : (us more : List (List ℕ)) → base.ends ≤ length us → heap_world (us ++ more) base ≡ heap_world us base
  pub known : base.ends ≤ length old.names
  pub there : k.count ≤ length (space_after (over_world old.names o)).cells
  pub over : (ts : List (List ℕ)) → over_world ts q ≡ copied_world (heap_world ts base) (space_of ts h)

open_behind : (old new : Evaluator) (n : ℕ) (start m : EvaluatorMark) (base h : Heap) (o q : Over) (k : OverlayMark)
    (count : ℕ) (next : Addr) (held : Option HeldCodes) (p : Program) (y : ScratchSpace)
    → Behind old new n start m base h o q k count next held
    → program_of new.names new.table ≡ p
    → space_of new.names h ≡ y
    → take (length (space_after (over_world old.names o)).cells) y.cells ≡ (space_after (over_world old.names o)).cells
    → opened_of new n m base q k ≡ made_open (heap_world old.names base)
    (take m.table.sources (program_of old.names old.table)) (space_at (space_after (over_world old.names o)) k)
    p y n
open_behind old new n start m base h o q k count next held p y b program space cells =
    let i = b.open_old in
    let x : ScratchSpace = space_after (over_world old.names o) in
    let there : space_after (over_world new.names q) ≡ y = space_over new.names base h q (b.over new.names) ∙ space in
    let first : take m.table.sources (program_of new.names new.table) ≡ take m.table.sources
    (program_of old.names old.table) =
    program-first i.before new m.table.sources i.before_working.code (went-through i.before old new i.goes_on b.went)
    i.marked.table.sources
    ∙ sym (program-first i.before old m.table.sources i.before_working.code i.goes_on i.marked.table.sources) in
    open_same (heap_world new.names base) (heap_world old.names base)
    (take m.table.sources (program_of new.names new.table)) (take m.table.sources (program_of old.names old.table))
    (program_of new.names new.table) p
    (space_at (space_after (over_world new.names q)) k) (space_at x k) (space_after (over_world new.names q)) y n
    (world-further old.names new.names base b.went.names b.further b.known) first
    (ap (λ z. space_at z k) there ∙ cells_stay x y k b.there cells) program there

source_is : (ts : List (List ℕ)) (g : Heap) (x : ScratchSpace) (t : Term) (e : MadeExpression)
    → space_of ts g ≡ x
    → t ≡ kept_tree (next_kept x) e
    → kept_tree_at (next_of g) t ≡ source_kept x e
source_is ts g x t e f h =
    source_same (next_of g) (next_kept x) t (kept_tree (next_kept x) e) (sym (next-same ts g) ∙ ap next_kept f) h

same_cells : (x y : ScratchSpace) → y ≡ x → take (length x.cells) y.cells ≡ x.cells
same_cells x y e = ap (λ (z : ScratchSpace). take (length x.cells) z.cells) e ∙ take-length x.cells

with_more : (p q : Program) (s t : SourceTree) → q ≡ p ++ s ∷ [] → s ≡ t → q ≡ p ++ t ∷ []
with_more p q s t e f = e ∙ ap (λ u. p ++ u ∷ []) f

comes_to : (end : Evaluated) (a : Answer) (e : MadeExpression) (w : World) (s : SourceTree) (old new : Evaluator) (n : ℕ)
    (start m : EvaluatorMark) (base h : Heap) (o q : Over) (k : OverlayMark) (count : ℕ) (next : Addr)
    (held : Option HeldCodes)
    → Behind old new n start m base h o q k count next held
    → CodeAfter end new (program_of old.names old.table) s
    → s ≡ source_kept (space_after (over_world old.names o)) e
    → AnswerKeeps w (space_after (over_world old.names o)) a
    → Leaves a end (space_after (over_world old.names o)) (space_of new.names h)
    → EvaluatesTo a e end (opened_of old n m base o k) (opened_of new n m base q k)
comes_to (ends.Value v) a e w s old new n start m base h o q k count next held b c f kept l =
    let x : ScratchSpace = space_after (over_world old.names o) in
    let P : Answer → Type 0 = λ z. AnswerKeeps w x z in
    let u = subst P l.1 kept in (
      l.0,
      l.1,
      open_behind old new n start m base h o q k count next held (program_of old.names old.table ++ source_kept x e ∷ [])
          (space_after l.0) b
          (with_more (program_of old.names old.table) (program_of new.names new.table) s (source_kept x e)
          c.program f)
          l.2 u.earlier,
    )
comes_to (ends.Thrown v) a e w s old new n start m base h o q k count next held b c f kept l =
    let x : ScratchSpace = space_after (over_world old.names o) in
    let P : Answer → Type 0 = λ z. AnswerKeeps w x z in
    let u = subst P l.1 kept in (
      l.0,
      l.1,
      open_behind old new n start m base h o q k count next held (program_of old.names old.table ++ source_kept x e ∷ [])
          (space_after l.0) b
          (with_more (program_of old.names old.table) (program_of new.names new.table) s (source_kept x e)
          c.program f)
          l.2 u.earlier,
    )
comes_to ends.Effect a e w s old new n start m base h o q k count next held b c f kept l =
    let x : ScratchSpace = space_after (over_world old.names o) in (
      l.0,
      open_behind old new n start m base h o q k count next held (program_of old.names old.table) x b c.program l.1
          (same_cells x x refl),
    )
comes_to (ends.Full what) a e w s old new n start m base h o q k count next held b c f kept l =
    let x : ScratchSpace = space_after (over_world old.names o) in (
      l.0,
      open_behind old new n start m base h o q k count next held (program_of old.names old.table) x b c.program l.1
          (same_cells x x refl),
    )
comes_to ends.Spent a e w s old new n start m base h o q k count next held b c f kept l =
    let x : ScratchSpace = space_after (over_world old.names o) in (
      l.0,
      open_behind old new n start m base h o q k count next held (program_of old.names old.table) x b c.program l.1
          (same_cells x x refl),
    )
comes_to ends.Memory a e w s old new n start m base h o q k count next held b c f kept l = tt

-- what becomes of a source over an opened workspace
abbrev pub Evaluates : Evaluated → Work → PreparedSource → CodeChoice → List HeldSource → OpenWorkspace → OpenWorkspace
    → Type 0
Evaluates end work x choice hs old new =
    (source : List ℕ) (e : Expr)
    → IsReady (next_kept old.behind.scratch) source e x
    → AreOfChoice choice (next_kept old.behind.scratch) x hs
    → EvaluatesTo
    (work_of old.behind.program old.world old.behind.scratch source (source_literals e) (expression_source e) work)
    (expression_source e) end old new

-- code that is chosen at an address is that of a source there
pub chosen-open : (e : Evaluator) (n : ℕ) (start m : EvaluatorMark) (base g : Heap) (o : Over) (k : OverlayMark)
    (count : ℕ) (next : Addr) (held : Option HeldCodes) (choice : CodeChoice) (source : List ℕ) (f : Option SourceEntry)
    → IsOpen e n start m base o k count next held
    → ((ts : List (List ℕ)) → space_of ts g ≡ space_after (over_world ts o))
    → IsChosen choice held next source f
    → IsHeldAt e.names e.table (next_of g) f
chosen-open e n start m base g o k count next held choice source f i before chosen =
    let is : next ≡ next_of g = i.next_is ∙ ap next_kept (sym (before e.names)) ∙ next-same e.names g in
    subst (λ a. IsHeldAt e.names e.table a f) is
    (chosen-held i.before e n start choice held next source f i.before_working.code.runs.whole i.before_holds i.goes_on
    chosen)

-- the sources of the codes that are held stay
pub held-on : (end : Evaluated) (old new : Evaluator) (n : ℕ) (start m : EvaluatorMark) (base : Heap) (o : Over)
    (k : OverlayMark) (count : ℕ) (next : Addr) (held : Option HeldCodes)
    → is_memory end ≡ false
    → IsOpen old n start m base o k count next held
    → WentOnAfter end old new
    → sources_held new.names new.table held ≡ sources_held old.names old.table held
held-on end old new n start m base o k count next held f i went =
    sources-on i.before new n start held i.before_working.code.runs.whole i.before_holds
    (went-through i.before old new i.goes_on (went_on end old new f went))
    ∙ sym (sources-on i.before old n start held i.before_working.code.runs.whole i.before_holds i.goes_on)

pub evaluates-open : (end : Evaluated) (x : PreparedSource) (work : Work) (old new : Evaluator) (n : ℕ)
    (start m : EvaluatorMark) (base g h : Heap) (o q : Over) (k : OverlayMark) (count from : ℕ) (next : Addr)
    (held : Option HeldCodes) (choice : CodeChoice) (code : Option SourceEntry)
    → is_memory end ≡ false
    → IsOpen old n start m base o k count next held
    → WentOnAfter end old new
    → CodeAfter end new (program_of old.names old.table)
    (kept_tree_at (next_of g) (code_term old.names old.table (term_view x.term) code))
    → ((us more : List (List ℕ)) → base.ends ≤ length us → heap_world (us ++ more) base ≡ heap_world us base)
    → base.ends ≤ length old.names
    → ((i : ℕ) → next ≡ Scratch i → from ≡ i)
    → count ≤ from
    → ((ts : List (List ℕ)) → space_of ts g ≡ space_after (over_world ts o))
    → ((ts : List (List ℕ)) → over_world ts q ≡ copied_world (heap_world ts base) (space_of ts h))
    → IsChosen choice held next x.source code
    → ((p : Program) (source : List ℕ) (e : Expr)
    → Runs old p
    → IsReady (next_kept (space_of old.names g)) source e x
    → code_term old.names old.table (term_view x.term) code ≡ term_view x.term
    → Leaves (work_of p (heap_world old.names base) (space_of old.names g) source (source_literals e)
    (expression_source e) work)
    end (space_of old.names g) (space_of new.names h))
    → Evaluates end work x choice (sources_held old.names old.table held) (opened_of old n m base o k)
    (opened_of new n m base q k)
evaluates-open end x work old new n start m base g h o q k count from next held choice code f i went after further
    known number long before over chosen answer =
    λ source e prepared fits.
    let y : ScratchSpace = space_after (over_world old.names o) in
    let p : Program = program_of old.names old.table in
    let w : World = heap_world old.names base in
    let z : Term = code_term old.names old.table (term_view x.term) code in
    let at : from ≡ length y.cells = number (length y.cells) i.next_is in
    let counts : k.count ≡ count = i.marked_cells in
    let b : Behind old new n start m base h o q k count next held = record {
      open_old = i;
      went = went_on end old new f went;
      code = code_on end new p (kept_tree_at (next_of g) z) f after;
      further = further;
      known = known;
      there = omega (arith, long, at, counts);
      over = over;
    } in
    let is : z ≡ term_view x.term = chosen-term old.names old.table choice held (next_kept y) x code fits
    (subst (λ a. IsChosen choice held a x.source code) i.next_is chosen) in
    let P : ScratchSpace
    → Type 0 = λ v. IsReady (next_kept v) source e x
    → Leaves (work_of p w v source (source_literals e) (expression_source e) work) end v (space_of new.names h) in
    let l : P y = subst P (before old.names) (λ ready. answer p source e i.working.code.runs ready is) in
    comes_to end (work_of p w y source (source_literals e) (expression_source e) work) (expression_source e) w
    (kept_tree_at (next_of g) z) old new n start m base h o q k count next held b after
    (source_is old.names g y z (expression_source e) (before old.names) (is ∙ prepared.term))
    (work-keeps p w y source (source_literals e) (expression_source e) work) (l prepared)
