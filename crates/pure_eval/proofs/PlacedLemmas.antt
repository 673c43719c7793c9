-- What stands before the first step of an evaluation.
use Rattle.std.proofs.Common.{◌≡◌, ℕ, ◌-◌, List, Err, Result, sym, ap, subst, ◌∙◌, arith}
use Rattle.std.proofs.Math.Seq.{take-length}
use Rattle.js_heap.specs.declared.value.Addr.{Addr}
use Rattle.js_heap.specs.World.{World, Tried, fine}
use Rattle.js_heap.specs.Worlds.{Keeps, AfterFine}
use Rattle.js_heap.specs.ScratchSpaces.{ScratchSpace, copied_world}
use Rattle.js_heap.proofs.KeepLemmas.{keeps-same, keeps-trans}
use Rattle.js_semantics.specs.Terms.{Term}
use Rattle.js_semantics.specs.Evaluation.{Answer, after_try, keep_source, answered}
use Rattle.js_heap_memory.specs.declared.world.Refused.{Refused}
use Rattle.js_heap_memory.specs.declared.world.Refused.TheVariants.{Effect, Full, Memory}
use Rattle.js_heap_memory.specs.Calls.{Tries}
use Rattle.js_heap_memory.specs.Heaps.{Heap}
use Rattle.js_heap_memory.specs.Overlays.{OverlayMark, mark_of, space_of}
use Rattle.js_heap_memory.proofs.HeapLemmas.{cells-length}
use Rattle.pure_eval.specs.declared.evaluated.Evaluated.{Evaluated}
use Rattle.pure_eval.specs.Leaving.{space_behind, GoesOnFrom, Leaves, placed, made_ready, refused_end}
use Rattle.pure_eval.proofs.LeavingLemmas.{cut-space}
use Rattle.js_semantics.proofs.EvaluationLemmas.{keep-keeps}

-- ---- keep-keeps a source

pub kept-keeps : (w v u : World) (us : List ℕ) (a : Addr) → keep_source w us ≡ fine a v → Keeps v u → Keeps w u
kept-keeps w v u us a e h =
    let P : Tried Addr → Type 0 = λ t. AfterFine t (λ b z. Keeps w z) in
    let k : P (fine a v) = subst P e (keep-keeps w us) in
    keeps-trans w v u k h

-- ---- the world before the first step

pub goes-from : (w v : World) (ts : List (List ℕ)) (h : Heap) (m : OverlayMark)
    → m ≡ mark_of h
    → Keeps (copied_world w (space_of ts h)) v
    → GoesOnFrom v (space_of ts h) m
goes-from w v ts h m e k =
    let x : ScratchSpace = space_of ts h in
    let o = k.others in
    let l = o.1 (omega arith) in
    record {
      start = k.start;
      long = l.0;
      earlier = l.1 ∙ take-length x.cells;
      count = ap (λ n. n.count) e ∙ sym (cells-length ts h.cells);
      cells_left = ap (λ n. n.cells_left) e;
      units_left = ap (λ n. n.units_left) e;
    }

-- ---- answers

pub ready-leaves : (says : World → Term → Answer) (w v : World) (x y : ScratchSpace) (us : List ℕ) (xs : List (List ℕ))
    (t : Term) (e : Evaluated)
    → placed (copied_world w x) us xs ≡ fine tt v
    → Leaves (says v t) e x y
    → Leaves (answered (made_ready w x us xs t) says) e x y
ready-leaves says w v x y us xs t e f h =
    let P : Tried (Unit {0}) → Type 0 = λ z. Leaves (answered (after_try z (λ u s. fine t s)) says) e x y in
    subst P (sym f) h

pub refused-leaves : (says : World → Term → Answer) (w v : World) (x y : ScratchSpace) (m : OverlayMark) (us : List ℕ)
    (xs : List (List ℕ)) (t : Term) (r : Refused)
    → (let s : Result (Unit {0}) Refused = Err r in Tries (placed (copied_world w x) us xs) s v)
    → Keeps (copied_world w x) v
    → GoesOnFrom v x m
    → y ≡ space_behind (refused_end r) v m
    → Leaves (answered (made_ready w x us xs t) says) (refused_end r) x y
refused-leaves says w v x y m us xs t Effect h k g s =
    (ap (λ z. answered (after_try z (λ u s. fine t s)) says) h, s ∙ cut-space v v x m g (keeps-same v))
refused-leaves says w v x y m us xs t (Full what) h k g s =
    (ap (λ z. answered (after_try z (λ u s. fine t s)) says) h, s ∙ cut-space v v x m g (keeps-same v))
refused-leaves says w v x y m us xs t Memory h k g s = tt

-- ---- as the code has it

pub all-ready : (says : World → Term → Answer) (w o v : World) (ts : List (List ℕ)) (h : Heap) (m : OverlayMark)
    (y : ScratchSpace) (us : List ℕ) (xs : List (List ℕ)) (t : Term) (e : Evaluated)
    → o ≡ copied_world w (space_of ts h)
    → m ≡ mark_of h
    → placed o us xs ≡ fine tt v
    → Keeps o v
    → ((x : ScratchSpace) → GoesOnFrom v x m → Leaves (says v t) e x y)
    → Leaves (answered (made_ready w (space_of ts h) us xs t) says) e (space_of ts h) y
all-ready says w o v ts h m y us xs t e i j f g k =
    let P : World → Type 0 = λ u. placed u us xs ≡ fine tt v in
    let Q : World → Type 0 = λ u. Keeps u v in
    ready-leaves says w v (space_of ts h) y us xs t e (subst P i f)
    (k (space_of ts h) (goes-from w v ts h m j (subst Q i g)))

pub all-refused : (says : World → Term → Answer) (w o v : World) (ts : List (List ℕ)) (h : Heap) (m : OverlayMark)
    (y : ScratchSpace) (us : List ℕ) (xs : List (List ℕ)) (t : Term) (r : Refused) (e : Evaluated)
    → o ≡ copied_world w (space_of ts h)
    → m ≡ mark_of h
    → (let s : Result (Unit {0}) Refused = Err r in Tries (placed o us xs) s v)
    → Keeps o v
    → e ≡ refused_end r
    → y ≡ space_behind e v m
    → Leaves (answered (made_ready w (space_of ts h) us xs t) says) e (space_of ts h) y
all-refused says w o v ts h m y us xs t r e i j f g q k =
    let s : Result (Unit {0}) Refused = Err r in
    let P : World → Type 0 = λ u. Tries (placed u us xs) s v in
    let Q : World → Type 0 = λ u. Keeps u v in
    let R : Evaluated
    → Type 0 = λ z. Leaves (answered (made_ready w (space_of ts h) us xs t) says) z (space_of ts h) y in
    let l : Keeps (copied_world w (space_of ts h)) v = subst Q i g in
    subst R (sym q)
    (refused-leaves says w v (space_of ts h) y m us xs t r (subst P i f) l (goes-from w v ts h m j l)
    (k ∙ ap (λ z. space_behind z v m) q))
