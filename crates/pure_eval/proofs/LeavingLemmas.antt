-- What an evaluation leaves of its session's cells.
use Rattle.std.proofs.Common.{◌≡◌, ℕ, List, length, take, Option, Some, refl, ap, subst, ◌∙◌}
use Rattle.js_heap.specs.declared.value.Addr.{Addr}
use Rattle.js_heap.specs.declared.cell.Cell.{Cell}
use Rattle.js_heap.specs.World.{World}
use Rattle.js_heap.specs.Worlds.{Keeps, OthersStay}
use Rattle.js_heap.specs.ScratchSpaces.{ScratchSpace}
use Rattle.js_semantics.specs.Terms.{Term}
use Rattle.js_semantics.specs.State.{State}
use Rattle.js_semantics.specs.Functions.{Program}
use Rattle.js_semantics.specs.Run.{run_of, state_of, steps_in}
use Rattle.js_semantics.specs.Evaluation.{Answer}
use Rattle.js_semantics.proofs.FollowLemmas.{run_of-state, steps-follows}
use Rattle.js_heap_memory.specs.Overlays.{OverlayMark, space_after, space_at}
use Rattle.pure_eval.specs.declared.evaluated.Evaluated.{Evaluated}
use Rattle.pure_eval.specs.declared.evaluated.Evaluated.TheVariants as ends
use Rattle.pure_eval.specs.Answering.{Answers}
use Rattle.pure_eval.specs.Calling.{KeepsTo}
use Rattle.pure_eval.specs.Leaving.{space_behind, GoesOnFrom, Leaves}

pub world_keeps : (n : ℕ) (p : Program) (a : Addr) (t : Term) (s : State) (v : World)
    → (state_of (steps_in n p a (run_of t s))).world ≡ v
    → Keeps s.world v
world_keeps n p a t s v e =
    let k : Keeps (state_of (run_of t s)).world
    (state_of (steps_in n p a (run_of t s))).world = (steps-follows n p a (run_of t s)).cells in
    let P : World → Type 0 = λ u. Keeps s.world u in
    let Q : State → Type 0 = λ u. Keeps u.world (state_of (steps_in n p a (run_of t s))).world in
    subst P e (subst Q (run_of-state t s) k)

earlier_cells : (w v : World) (x : ScratchSpace) (m : OverlayMark)
    → GoesOnFrom w x m
    → Keeps w v
    → take (length x.cells) v.scratch ≡ x.cells
earlier_cells w v x m g k =
    let P : Option ℕ → Type 0 = λ o. OthersStay o w v in
    let o : OthersStay (Some (length x.cells)) w v = subst P g.start k.others in
    (o.1 g.long).1 ∙ g.earlier

space_same : (cs ds : List Cell) (c d u v : ℕ)
    → cs ≡ ds
    → c ≡ d
    → u ≡ v
    → let a : ScratchSpace = record { cells = cs; room = record { cells = c; units = u } } in
    let b : ScratchSpace = record { cells = ds; room = record { cells = d; units = v } } in
    a ≡ b
space_same cs ds c d u v e f g = rw (e, f, g) refl

pub cut-space : (w v : World) (x : ScratchSpace) (m : OverlayMark)
    → GoesOnFrom w x m
    → Keeps w v
    → space_at (space_after v) m ≡ x
cut-space w v x m g k =
    space_same (take m.count v.scratch) x.cells m.cells_left x.room.cells m.units_left x.room.units
    (ap (λ n. take n v.scratch) g.count ∙ earlier_cells w v x m g k) g.cells_left g.units_left

pub leaves : (a : Answer) (w v : World) (x y : ScratchSpace) (m : OverlayMark) (e : Evaluated)
    → GoesOnFrom w x m
    → Answers a e v
    → KeepsTo e w v
    → y ≡ space_behind e v m
    → Leaves a e x y
leaves a w v x y m (ends.Value u) g h k s = (v, h, s)
leaves a w v x y m (ends.Thrown u) g h k s = (v, h, s)
leaves a w v x y m ends.Effect g h k s = (h, s ∙ cut-space w v x m g k)
leaves a w v x y m (ends.Full what) g h k s = (h, s ∙ cut-space w v x m g k)
leaves a w v x y m ends.Spent g h k s = (h, s ∙ cut-space w v x m g k)
leaves a w v x y m ends.Memory g h k s = tt
