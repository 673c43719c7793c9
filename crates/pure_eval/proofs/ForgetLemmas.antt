-- Evaluations that are forgotten.
use Rattle.std.proofs.Common.{◌≡◌, ℕ, List, length, take, sym, ap, subst, ◌∙◌}
use Rattle.std.proofs.Math.Seq.{take-length}
use Rattle.js_heap.specs.declared.value.Addr.{Addr}
use Rattle.js_heap.specs.declared.value.Value.{Value}
use Rattle.js_heap.specs.declared.cell.Cell.{Cell}
use Rattle.js_heap.specs.World.{World}
use Rattle.js_heap.specs.ScratchSpaces.{ScratchSpace}
use Rattle.js_semantics.specs.Functions.{Program}
use Rattle.js_semantics.specs.Makers.{MadeExpression}
use Rattle.js_semantics.specs.Laws.{Undisturbed, AnswerKeeps}
use Rattle.js_semantics.specs.Evaluation.{Answer, evaluate}
use Rattle.js_semantics.proofs.EvaluationLemmas.{evaluate-keeps}
use Rattle.js_heap_memory.specs.Heaps.{Heap}
use Rattle.js_heap_memory.specs.Overlays.{mark_of, space_of, space_after, space_at}
use Rattle.js_heap_memory.proofs.HeapLemmas.{cells-length}
use Rattle.pure_eval.specs.declared.evaluated.Evaluated.{Evaluated}
use Rattle.pure_eval.specs.declared.evaluated.Evaluated.TheVariants as ends
use Rattle.pure_eval.specs.Leaving.{Leaves, ComesBack}

cut_cells : (ts : List (List ℕ)) (h : Heap) (y : ScratchSpace)
    → take (length (space_of ts h).cells) y.cells ≡ (space_of ts h).cells
    → space_at y (mark_of h) ≡ space_of ts h
cut_cells ts h y e =
    let f : List Cell
    → ScratchSpace = λ cs. record { cells = cs; room = record { cells = h.cells_left; units = h.units_left } } in
    ap f (ap (λ n. take n y.cells) (sym (cells-length ts h.cells)) ∙ e)

cut_same : (ts : List (List ℕ)) (h : Heap) (y : ScratchSpace)
    → y ≡ space_of ts h
    → space_at y (mark_of h) ≡ space_of ts h
cut_same ts h y e =
    let P : ScratchSpace → Type 0 = λ z. space_at z (mark_of h) ≡ space_of ts h in
    subst P (sym e) (cut_cells ts h (space_of ts h) (take-length (space_of ts h).cells))

cut_world : (ts : List (List ℕ)) (h : Heap) (w v : World) (y : ScratchSpace)
    → Undisturbed w (space_of ts h) v
    → y ≡ space_after v
    → space_at y (mark_of h) ≡ space_of ts h
cut_world ts h w v y u e =
    let P : ScratchSpace → Type 0 = λ z. space_at z (mark_of h) ≡ space_of ts h in
    subst P (sym e) (cut_cells ts h (space_after v) u.earlier)

comes_back : (ts : List (List ℕ)) (h : Heap) (w : World) (y : ScratchSpace) (a : Answer) (end : Evaluated)
    → AnswerKeeps w (space_of ts h) a
    → Leaves a end (space_of ts h) y
    → ComesBack end y (mark_of h) (space_of ts h)
comes_back ts h w y a (ends.Value v) k l =
    let P : Answer → Type 0 = λ b. AnswerKeeps w (space_of ts h) b in cut_world ts h w l.0 y (subst P l.1 k) l.2
comes_back ts h w y a (ends.Thrown v) k l =
    let P : Answer → Type 0 = λ b. AnswerKeeps w (space_of ts h) b in cut_world ts h w l.0 y (subst P l.1 k) l.2
comes_back ts h w y a ends.Effect k l = cut_same ts h y l.1
comes_back ts h w y a (ends.Full what) k l = cut_same ts h y l.1
comes_back ts h w y a ends.Spent k l = cut_same ts h y l.1
comes_back ts h w y a ends.Memory k l = tt

pub evaluation-forgotten : (p : Program) (w : World) (names : List (List ℕ)) (scratch : Heap) (after : ScratchSpace)
    (scope : Addr) (receiver : Value) (source : List ℕ) (order : List (List ℕ)) (e : MadeExpression) (end : Evaluated)
    → Leaves (evaluate p w (space_of names scratch) scope receiver source order e) end (space_of names scratch) after
    → ComesBack end after (mark_of scratch) (space_of names scratch)
evaluation-forgotten p w names scratch after scope receiver source order e end l =
    comes_back names scratch w after (evaluate p w (space_of names scratch) scope receiver source order e) end
    (evaluate-keeps p w (space_of names scratch) scope receiver source order e) l
