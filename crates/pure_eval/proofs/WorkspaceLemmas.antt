-- What a session's evaluations go on from.
use Rattle.std.proofs.Common.{◌≡◌, ℕ, suc, ◌≤◌, List, [], ◌∷◌, ◌++◌, length, take, Option, None, Some, refl, sym, ap, ◌∙◌}
use Rattle.std.proofs.Math.Seq.{take-length, take-append_seam}
use Rattle.js_heap.specs.declared.value.Addr.{Addr}
use Rattle.js_heap.specs.declared.value.Addr.TheVariants.{Scratch}
use Rattle.js_heap.specs.declared.cell.Cell.{Cell}
use Rattle.js_heap.specs.World.{World}
use Rattle.js_heap.specs.ScratchSpaces.{ScratchSpace, copied_world}
use Rattle.js_semantics.specs.Functions.{Program}
use Rattle.js_semantics.specs.Evaluation.{next_kept}
use Rattle.js_heap_memory.specs.Heaps.{Heap, heap_world}
use Rattle.js_heap_memory.specs.Overlays.{OverlayMark, Over, over_world, space_of, space_after, space_at, first_space, next_of, mark_of}
use Rattle.js_heap_memory.proofs.HeapLemmas.{cells-length}
use Rattle.js_machine_nodes.specs.declared.node.SourceEntry.{SourceEntry}
use Rattle.js_machine_nodes.specs.declared.table.NodeTable.{NodeTable}
use Rattle.js_machine_nodes.specs.Trees.{source_tree, source_trees, program_of}
use Rattle.js_machine_terms.specs.Views.{term_view}
use Rattle.pure_eval.specs.declared.evaluator.Evaluator.{Evaluator}
use Rattle.pure_eval.specs.declared.evaluator.EvaluatorMark.{EvaluatorMark}
use Rattle.pure_eval.specs.Whole.{IsWhole}
use Rattle.pure_eval.specs.Returning.{WentOn, IsMarked, IsAgain, IsCode, IsCodeOf}
use Rattle.pure_eval.specs.declared.holding.HeldCodes.{HeldCodes}
use Rattle.pure_eval.specs.declared.holding.HeldCode.{HeldCode}
use Rattle.pure_eval.specs.declared.prepared.PreparedSource.{PreparedSource}
use Rattle.pure_eval.specs.Holding.{HeldSource, IsCodeAdded, held_sources, source_for, sources_held}
use Rattle.pure_eval.specs.Working.{IsWorking, IsHolding, IsHeld, HoldsMore, IsOpen, IsKnown}
use Rattle.pure_eval.specs.Workspaces.{Workspace, workspace_of, begun, emptied_workspace, OpenWorkspace, opened_of, opened}
use Rattle.pure_eval.specs.Held.{marked_names}
use Rattle.pure_eval.proofs.EvaluatorLemmas.{next-same, world-further, space-further}
use Rattle.pure_eval.proofs.HoldLemmas.{holding-more, holds-again, sources-on, sources-with}
use Rattle.pure_eval.proofs.ReturnLemmas.{again-by, went-same, went-through, code-again}
use Rattle.pure_eval.proofs.StayLemmas.{sources-stay}

-- ---- the program

pub program-length : (ts : List (List ℕ)) (t : NodeTable) (es : List SourceEntry)
    → length (source_trees ts t es) ≡ length es
program-length ts t [] = refl
program-length ts t (e ∷ es) = ap suc (program-length ts t es)

abbrev made : Program → ℕ → ScratchSpace → Workspace
made p n x = record { program = p; scripts = n; scratch = x }

made_same : (p q : Program) (n m : ℕ) (x y : ScratchSpace) → p ≡ q → n ≡ m → x ≡ y → made p n x ≡ made q m y
made_same p q n m x y e f g = ap (λ r. made r n x) e ∙ ap (λ k. made q k x) f ∙ ap (made q m) g

pub begun-is : (e : Evaluator) (n : ℕ) (h : Heap) (p : Program)
    → IsCodeOf e p
    → n ≡ length e.table.sources.items
    → space_of e.names h ≡ first_space
    → workspace_of e n h ≡ begun p
begun-is e n h p c f g =
    made_same (program_of e.names e.table) p n (length p) (space_of e.names h) first_space c.program
    (f ∙ sym (program-length e.names e.table e.table.sources.items) ∙ ap length c.program) g

pub working-first : (e : Evaluator) (n : ℕ) (m : EvaluatorMark)
    → IsCode e
    → IsMarked e m
    → n ≡ length e.table.sources.items
    → IsWorking e n m
working-first e n m c k f =
    record { code = c; first = e; first_code = c; marked = k; goes_on = went-same e c.runs.whole; count = sym f }

-- no code is held
pub working-alone : (e : Evaluator) (n : ℕ) (m : EvaluatorMark) → IsWorking e n m → IsHeld e n m None
working-alone e n m w = record { working = w; holds = tt }

-- ---- opened

take_program : (e : Evaluator) (m : EvaluatorMark)
    → IsMarked e m
    → take m.table.sources (program_of e.names e.table) ≡ program_of e.names e.table
take_program e m k =
    ap (λ n. take n (program_of e.names e.table))
    (k.table.sources ∙ sym (program-length e.names e.table e.table.sources.items))
    ∙ take-length (program_of e.names e.table)

pub space_over : (ts : List (List ℕ)) (base h : Heap) (o : Over)
    → over_world ts o ≡ copied_world (heap_world ts base) (space_of ts h)
    → space_after (over_world ts o) ≡ space_of ts h
space_over ts base h o e = ap space_after e

space_mark : (ts : List (List ℕ)) (h : Heap) → space_at (space_of ts h) (mark_of h) ≡ space_of ts h
space_mark ts h =
    let f : List Cell
    → ScratchSpace = λ cs. record { cells = cs; room = record { cells = h.cells_left; units = h.units_left } } in
    ap f (ap (λ n. take n (space_of ts h).cells) (sym (cells-length ts h.cells)) ∙ take-length (space_of ts h).cells)

abbrev pub made_open : World → Program → ScratchSpace → Program → ScratchSpace → ℕ → OpenWorkspace
made_open w p x q y n = record { world = w; before = made p n x; behind = made q n y }

pub opened-is : (e : Evaluator) (n : ℕ) (m : EvaluatorMark) (base h : Heap) (o : Over) (k : OverlayMark)
    (names : List (List ℕ))
    → IsMarked e m
    → IsKnown base names e.names
    → ((us more : List (List ℕ)) → base.ends ≤ length us → heap_world (us ++ more) base ≡ heap_world us base)
    → ((ts : List (List ℕ)) → over_world ts o ≡ copied_world (heap_world ts base) (space_of ts h))
    → k ≡ mark_of h
    → opened_of e n m base o k ≡ opened (heap_world names base) (workspace_of e n h)
opened-is e n m base h o k names marked known further over is =
    let p : Program = program_of e.names e.table in
    let x : ScratchSpace = space_of e.names h in
    let there : space_after (over_world e.names o) ≡ x = space_over e.names base h o (over e.names) in
    let first : space_at (space_after (over_world e.names o)) k ≡ x = ap (λ y. space_at y k) there
    ∙ ap (space_at x) is
    ∙ space_mark e.names h in
    ap (λ w. made_open w (take m.table.sources p) (space_at (space_after (over_world e.names o)) k) p
    (space_after (over_world e.names o)) n)
    (world-further names e.names base known.goes_on further known.known)
    ∙ ap (λ q. made_open (heap_world names base) q (space_at (space_after (over_world e.names o)) k) p
    (space_after (over_world e.names o)) n)
    (take_program e m marked)
    ∙ ap (λ y. made_open (heap_world names base) p y p (space_after (over_world e.names o)) n) first
    ∙ ap (λ y. made_open (heap_world names base) p x p y n) there

pub open-is : (e : Evaluator) (n : ℕ) (start m : EvaluatorMark) (base h : Heap) (o : Over) (k : OverlayMark) (count : ℕ)
    (next : Addr) (held : Option HeldCodes)
    → IsHeld e n start held
    → IsMarked e m
    → ((ts : List (List ℕ)) → over_world ts o ≡ copied_world (heap_world ts base) (space_of ts h))
    → o.base ≡ base
    → k ≡ mark_of h
    → next ≡ next_of h
    → ((i : ℕ) → next ≡ Scratch i → count ≡ i)
    → IsOpen e n start m base o k count next held
open-is e n start m base h o k count next held holding marked over based is next_is number =
    let working : IsWorking e n start = holding.working in
    let at : count ≡ length h.cells = number (length h.cells) next_is in
    let there : (ts : List (List ℕ))
    → space_after (over_world ts o) ≡ space_of ts h = λ ts. space_over ts base h o (over ts) in
    record {
      working = working;
      before = e;
      before_working = working;
      before_holds = holding.holds;
      marked = marked;
      goes_on = went-same e working.code.runs.whole;
      base_is = based;
      ready = λ ts. over ts ∙ ap (copied_world (heap_world ts base)) (sym (there ts));
      marked_cells = ap (λ (x : OverlayMark). x.count) is ∙ sym at;
      next_is = next_is ∙ sym (next-same e.names h) ∙ ap next_kept (sym (there e.names));
    }

-- ---- cut back

trees_append : (ts : List (List ℕ)) (t : NodeTable) (ds es : List SourceEntry)
    → source_trees ts t (ds ++ es) ≡ source_trees ts t ds ++ source_trees ts t es
trees_append ts t [] es = refl
trees_append ts t (d ∷ ds) es = ap (λ ps. source_tree ts t d ∷ ps) (trees_append ts t ds es)

pub program-first : (b e : Evaluator) (n : ℕ)
    → IsCode b
    → WentOn b e
    → n ≡ length b.table.sources.items
    → take n (program_of e.names e.table) ≡ program_of b.names b.table
program-first b e n c g f =
    let w : IsWhole b.table = c.runs.whole in
    let first : Program = source_trees e.names e.table b.table.sources.items in
    let more : Program = source_trees e.names e.table g.entries in
    let parts : program_of e.names e.table ≡ first ++ more = ap (source_trees e.names e.table) g.table.sources
    ∙ trees_append e.names e.table b.table.sources.items g.entries in
    let stays : first ≡ program_of b.names b.table = sources-stay e.names b.table e.table b.table.sources.items w.table
    w.closed g.table.entries w.sources
    ∙ c.steady e.names g.names in
    ap (take n) parts
    ∙ ap (λ k. take k (first ++ more)) (f ∙ sym (program-length e.names e.table b.table.sources.items))
    ∙ take-append_seam first more
    ∙ stays

pub working-again : (first new : Evaluator) (n : ℕ) (m : EvaluatorMark)
    → IsWorking first n m
    → IsAgain first new
    → IsWorking new n m
working-again first new n m w a = record {
  code = (code-again first new w.code a).code;
  first = w.first;
  first_code = w.first_code;
  marked = w.marked;
  goes_on = went-through w.first first new w.goes_on a.goes_on;
  count = w.count;
}

-- where an evaluator has no other sources than the first so many
pub none-behind : (e : Evaluator) (n : ℕ)
    → length e.table.sources.items ≡ n
    → program_of e.names e.table ≡ take n (program_of e.names e.table)
none-behind e n f =
    let p : Program = program_of e.names e.table in
    sym
    (ap (λ k. take k p) (sym f ∙ sym (program-length e.names e.table e.table.sources.items)) ∙ take-length p)

-- where it was cut to where it began
pub cut-to-first : (old new : Evaluator) (n : ℕ) (m : EvaluatorMark)
    → IsWorking old n m
    → ((e : Evaluator) → IsWhole e.table → IsMarked e m → WentOn e old → IsAgain e new)
    → program_of new.names new.table ≡ take n (program_of old.names old.table)
cut-to-first old new n m w cut =
    let a : IsAgain w.first new = cut w.first w.first_code.runs.whole w.marked w.goes_on in
    (code-again w.first new w.first_code a).program
    ∙ sym (program-first w.first old n w.first_code w.goes_on (sym w.count))

pub emptied-is : (old new : Evaluator) (n k : ℕ) (h s : Heap)
    → program_of new.names new.table ≡ take n (program_of old.names old.table)
    → k ≡ n
    → space_of new.names s ≡ first_space
    → workspace_of new k s ≡ emptied_workspace (workspace_of old n h)
emptied-is old new n k h s =
    made_same (program_of new.names new.table) (take n (program_of old.names old.table)) k n (space_of new.names s)
    first_space

pub emptied-working : (old new : Evaluator) (n : ℕ) (m : EvaluatorMark)
    → IsWorking old n m
    → ((e : Evaluator) → IsWhole e.table → IsMarked e m → WentOn e old → IsAgain e new)
    → IsHeld new n m None
emptied-working old new n m w cut =
    let a : IsAgain w.first new = cut w.first w.first_code.runs.whole w.marked w.goes_on in
    working-alone new n m
    (working-again w.first new n m (working-first w.first n m w.first_code w.marked (sym w.count)) a)

pub forgotten-working : (e new : Evaluator) (n : ℕ) (start m : EvaluatorMark) (base : Heap) (o : Over) (k : OverlayMark)
    (count : ℕ) (next : Addr) (held : Option HeldCodes)
    → IsOpen e n start m base o k count next held
    → ((b : Evaluator) → IsWhole b.table → IsMarked b m → WentOn b e → IsAgain b new)
    → IsHeld new n start held
forgotten-working e new n start m base o k count next held i cut =
    let w : IsWhole i.before.table = i.before_working.code.runs.whole in
    let a : IsAgain i.before new = cut i.before w i.marked i.goes_on in
    record {
      working = working-again i.before new n start i.before_working a;
      holds = holds-again i.before new n start held w i.before_holds a;
    }

pub forgotten-held : (e new : Evaluator) (n : ℕ) (start m : EvaluatorMark) (base : Heap) (o : Over) (k : OverlayMark)
    (count : ℕ) (next : Addr) (held : Option HeldCodes)
    → IsOpen e n start m base o k count next held
    → ((b : Evaluator) → IsWhole b.table → IsMarked b m → WentOn b e → IsAgain b new)
    → sources_held new.names new.table held ≡ sources_held e.names e.table held
forgotten-held e new n start m base o k count next held i cut =
    let w : IsWhole i.before.table = i.before_working.code.runs.whole in
    let a : IsAgain i.before new = cut i.before w i.marked i.goes_on in
    sources-on i.before new n start held w i.before_holds a.goes_on
    ∙ sym (sources-on i.before e n start held w i.before_holds i.goes_on)

pub forgotten-is : (e new : Evaluator) (n : ℕ) (start m : EvaluatorMark) (base h g : Heap) (o : Over) (k : OverlayMark)
    (count : ℕ) (next : Addr) (held : Option HeldCodes)
    → IsOpen e n start m base o k count next held
    → ((b : Evaluator) → IsWhole b.table → IsMarked b m → WentOn b e → IsAgain b new)
    → new.names ≡ e.names
    → ((ts : List (List ℕ)) → space_of ts h ≡ space_after (over_world ts o))
    → ((ts : List (List ℕ)) → space_of ts g ≡ space_at (space_of ts h) k)
    → workspace_of new n g ≡ (opened_of e n m base o k).before
forgotten-is e new n start m base h g o k count next held i cut names over was =
    let a : IsAgain i.before new = cut i.before i.before_working.code.runs.whole i.marked i.goes_on in
    made_same (program_of new.names new.table) (take m.table.sources (program_of e.names e.table)) n n
    (space_of new.names g) (space_at (space_after (over_world e.names o)) k)
    ((code-again i.before new i.before_working.code a).program
    ∙ sym (program-first i.before e m.table.sources i.before_working.code i.goes_on i.marked.table.sources))
    refl
    (was new.names ∙ ap (λ x. space_at x k) (over new.names ∙ ap (λ ts. space_after (over_world ts o)) names))

-- ---- the names with which it began

names_first : (e : Evaluator) (m : EvaluatorMark) → IsMarked e m → marked_names e m ≡ e.names
names_first e m k = ap (λ n. take n e.names) k.names ∙ take-length e.names

-- where it was just marked they are all that it has
pub names-marked : (names : List (List ℕ)) (e : Evaluator) (m : EvaluatorMark)
    → IsMarked e m
    → e.names ≡ names
    → marked_names e m ≡ names
names-marked names e m k h = names_first e m k ∙ h

names_since : (first e : Evaluator) (m : EvaluatorMark)
    → IsMarked first m
    → WentOn first e
    → marked_names e m ≡ first.names
names_since first e m k g =
    ap (λ n. take n e.names) k.names
    ∙ ap (λ ts. take (length first.names) ts) g.names.is
    ∙ take-append_seam first.names g.names.more

-- they stay however it goes on
pub names-stay : (old new : Evaluator) (n : ℕ) (m : EvaluatorMark)
    → IsWorking old n m
    → WentOn old new
    → marked_names new m ≡ marked_names old m
names-stay old new n m w g =
    names_since w.first new m w.marked (went-through w.first old new w.goes_on g)
    ∙ sym (names_since w.first old m w.marked w.goes_on)

-- ---- code that is held

pub dropped-working : (e new : Evaluator) (n : ℕ) (m : EvaluatorMark) (h : HeldCodes)
    → IsHolding e n m h
    → ((b : Evaluator) → IsWhole b.table → IsMarked b h.mark → WentOn b e → IsAgain b new)
    → IsHeld new n m None
dropped-working e new n m h i cut =
    let a : IsAgain i.before new = cut i.before i.working.code.runs.whole i.marked i.again.goes_on in
    working-alone new n m (working-again i.before new n m i.working a)

-- the same workspace
pub dropped-is : (e new : Evaluator) (n : ℕ) (m : EvaluatorMark) (h : HeldCodes) (g : Heap)
    → IsHolding e n m h
    → ((b : Evaluator) → IsWhole b.table → IsMarked b h.mark → WentOn b e → IsAgain b new)
    → new.names ≡ e.names
    → workspace_of new n g ≡ workspace_of e n g
dropped-is e new n m h g i cut names =
    let a : IsAgain i.before new = cut i.before i.working.code.runs.whole i.marked i.again.goes_on in
    made_same (program_of new.names new.table) (program_of e.names e.table) n n (space_of new.names g)
    (space_of e.names g)
    ((code-again i.before new i.working.code a).program
    ∙ sym (code-again i.before e i.working.code i.again).program)
    refl
    (ap (λ ts. space_of ts g) names)

-- behind code of which no source is had the workspace is the same
pub more-is : (e new : Evaluator) (n : ℕ) (m : EvaluatorMark) (g : Heap) (held : Option HeldCodes) (h : HeldCodes)
    (s : HeldSource)
    → IsWorking e n m
    → HoldsMore e new n m held h s
    → ((names more : List (List ℕ)) → g.ends ≤ length names → space_of (names ++ more) g ≡ space_of names g)
    → g.ends ≤ length e.names
    → workspace_of new n g ≡ workspace_of e n g
more-is e new n m g held h s w i further known =
    made_same (program_of new.names new.table) (program_of e.names e.table) n n (space_of new.names g)
    (space_of e.names g)
    (code-again e new w.code i.again).program
    refl
    (space-further e.names new.names g i.again.goes_on.names further known)

pub more-held : (e new : Evaluator) (n : ℕ) (m : EvaluatorMark) (held : Option HeldCodes) (h : HeldCodes)
    (s : HeldSource)
    → HoldsMore e new n m held h s
    → IsHeld new n m (Some h)
more-held e new n m held h s i = record { working = i.working; holds = i.holds }

-- the code of one source more
pub holds-more : (old new : Evaluator) (n : ℕ) (start : EvaluatorMark) (held : Option HeldCodes) (h k : HeldCodes)
    (at : Addr) (p : PreparedSource) (c : HeldCode)
    → IsHeld old n start held
    → IsHolding old n start h
    → held_sources old.names old.table h.codes.items ≡ sources_held old.names old.table held
    → new.next ≡ old.next
    → IsCodeAdded old.names old.table at (term_view p.term) new.names new.table c.entry
    → c.source ≡ p.source
    → c.at ≡ at
    → k.mark ≡ h.mark
    → k.codes.items ≡ h.codes.items ++ c ∷ []
    → HoldsMore old new n start held k (source_for at p)
holds-more old new n start held h k at p c i holding sources next added text place mark items =
    let w : IsWhole old.table = i.working.code.runs.whole in
    let again : IsAgain old new = again-by old new added.goes_on next added.back in
    record {
      working = working-again old new n start i.working again;
      holds = holding-more old new n start h k at (term_view p.term) c w holding again added.code place mark items;
      again = again;
      sources =
          sources-with old new n start h k at p c w holding again added.code text place items
          ∙ ap (λ hs. hs ++ source_for at p ∷ []) sources;
    }
