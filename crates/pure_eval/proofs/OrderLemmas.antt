-- String literals in the order of a source, where they stand in another order in its term.
use Rattle.std.proofs.Common.{◌≡◌, ℕ, List, true, false, Result, Ok, Err, refl, sym, ap, subst, ◌∙◌}
use Rattle.js_heap.specs.declared.value.Addr.{Addr}
use Rattle.js_heap.specs.declared.change.Counted.{Counted}
use Rattle.js_heap.specs.World.{World, Tried, fine, effect, full}
use Rattle.js_heap.specs.Worlds.{Keeps}
use Rattle.js_heap.specs.ScratchSpaces.{ScratchSpace, copied_world}
use Rattle.js_heap.proofs.KeepLemmas.{keeps-same}
use Rattle.js_semantics.specs.Terms.{Term}
use Rattle.js_semantics.specs.Laws.{SameOutcome}
use Rattle.js_semantics.specs.Evaluation.{Answer, an_effect, is_full_of, answered, after_try, keep_source, make_literals, place_literals}
use Rattle.js_heap_memory.specs.declared.world.Refused.{Refused}
use Rattle.js_heap_memory.specs.declared.world.Refused.TheVariants.{Effect, Full, Memory}
use Rattle.js_heap_memory.specs.Calls.{Tries}
use Rattle.js_heap_memory.specs.Heaps.{Heap}
use Rattle.js_heap_memory.specs.Overlays.{OverlayMark, mark_of, space_of, space_after, space_at}
use Rattle.pure_eval.specs.declared.evaluated.Evaluated.{Evaluated}
use Rattle.pure_eval.specs.declared.evaluated.Evaluated.TheVariants as ends
use Rattle.pure_eval.specs.Leaving.{Leaves, placed, made_ready}
use Rattle.pure_eval.specs.Orders.{AreSameLiterals, ready_in_order, is_full_end, ends_as, end_behind, EndsAs}
use Rattle.pure_eval.proofs.LeavingLemmas.{cut-space}
use Rattle.pure_eval.proofs.PlacedLemmas.{goes-from}

-- ---- the two orders

-- the answer in the order of the source, that in the order of the term, and what is tried in the order of the source
abbrev Agrees : Answer → Answer → Tried (Unit {0}) → Type 0
Agrees a b (fine u v) = a ≡ b
Agrees a b effect = (a ≡ an_effect) × (b ≡ an_effect)
Agrees a b (full what) = (a ≡ is_full_of what) × ((other : Counted) × (b ≡ is_full_of other))

literals_agree : (x y : Tried (Unit {0})) (t : Term) (k : World → Term → Answer)
    → SameOutcome y x
    → Agrees (answered (after_try (after_try x (λ u v. y)) (λ u z. fine t z)) k)
    (answered (after_try y (λ u z. fine t z)) k) x
literals_agree (fine a v) y t k h = refl
literals_agree effect effect t k h = (refl, refl)
literals_agree effect (fine b u) t k h = absurd h
literals_agree effect (full other) t k h = absurd h
literals_agree (full what) (full other) t k h = (refl, (other, refl))
literals_agree (full what) (fine b u) t k h = absurd h
literals_agree (full what) effect t k h = absurd h

source_agrees : (o : Tried Addr) (order literals : List (List ℕ)) (t : Term) (k : World → Term → Answer)
    → AreSameLiterals order literals
    → Agrees (answered (after_try o (λ at v. after_try (place_literals v order literals) (λ u z. fine t z))) k)
    (answered (after_try (after_try o (λ at v. make_literals v literals)) (λ u z. fine t z)) k)
    (after_try o (λ at v. make_literals v order))
source_agrees (fine a v) order literals t k h =
    literals_agree (make_literals v order) (make_literals v literals) t k (h v)
source_agrees effect order literals t k h = (refl, refl)
source_agrees (full what) order literals t k h = (refl, (what, refl))

-- ---- ends

full_apart : (a : Answer) (other : Counted) (e : Evaluated) (x y : ScratchSpace) (b : Answer)
    → is_full_end e ≡ false
    → a ≡ is_full_of other
    → Leaves a e x y
    → Leaves b e x y
full_apart a other (ends.Value v) x y b f g h = let e = h.1 in absurd cc
full_apart a other (ends.Thrown v) x y b f g h = let e = h.1 in absurd cc
full_apart a other ends.Effect x y b f g h = let e = h.0 in absurd cc
full_apart a other (ends.Full what) x y b f g h = absurd cc
full_apart a other ends.Spent x y b f g h = let e = h.0 in absurd cc
full_apart a other ends.Memory x y b f g h = tt

other_end : (s : Tried (Unit {0})) (a b : Answer) (e : Evaluated) (x y : ScratchSpace)
    → Agrees a b s
    → is_full_end e ≡ false
    → Leaves b e x y
    → Leaves a e x y
other_end (fine u v) a b e x y g f h = let P : Answer → Type 0 = λ z. Leaves z e x y in subst P (sym g) h
other_end effect a b e x y g f h = let P : Answer → Type 0 = λ z. Leaves z e x y in subst P (g.1 ∙ sym g.0) h
other_end (full what) a b e x y g f h = full_apart b g.1.0 e x y a f g.1.1 h

full_named : (s : Tried (Unit {0})) (a b : Answer) (what : Counted) (x z : ScratchSpace)
    → Agrees a b s
    → b ≡ is_full_of what
    → z ≡ x
    → Leaves a (ends_as s (ends.Full what)) x z
full_named (fine u v) a b what x z g e i = (g ∙ e, i)
full_named effect a b what x z g e i = (g.0, i)
full_named (full other) a b what x z g e i = (g.0, i)

full_end : (s : Tried (Unit {0})) (a b : Answer) (what : Counted) (r : Evaluated) (x z : ScratchSpace)
    → Agrees a b s
    → b ≡ is_full_of what
    → EndsAs s (ends.Full what) r
    → z ≡ x
    → Leaves a r x z
full_end s a b what ends.Memory x z g e h i = tt
full_end s a b what (ends.Value v) x z g e h i =
    let P : Evaluated → Type 0 = λ q. Leaves a q x z in subst P (sym h) (full_named s a b what x z g e i)
full_end s a b what (ends.Thrown v) x z g e h i =
    let P : Evaluated → Type 0 = λ q. Leaves a q x z in subst P (sym h) (full_named s a b what x z g e i)
full_end s a b what ends.Effect x z g e h i =
    let P : Evaluated → Type 0 = λ q. Leaves a q x z in subst P (sym h) (full_named s a b what x z g e i)
full_end s a b what (ends.Full other) x z g e h i =
    let P : Evaluated → Type 0 = λ q. Leaves a q x z in subst P (sym h) (full_named s a b what x z g e i)
full_end s a b what ends.Spent x z g e h i =
    let P : Evaluated → Type 0 = λ q. Leaves a q x z in subst P (sym h) (full_named s a b what x z g e i)

full_again : (s : Tried (Unit {0})) (a b : Answer) (e r : Evaluated) (x y z : ScratchSpace)
    → Agrees a b s
    → is_full_end e ≡ true
    → Leaves b e x y
    → EndsAs s e r
    → z ≡ y
    → Leaves a r x z
full_again s a b (ends.Full what) r x y z g f h i j = full_end s a b what r x z g h.0 i (j ∙ h.1)
full_again s a b (ends.Value v) r x y z g f h i j = absurd cc
full_again s a b (ends.Thrown v) r x y z g f h i j = absurd cc
full_again s a b ends.Effect r x y z g f h i j = absurd cc
full_again s a b ends.Spent r x y z g f h i j = absurd cc
full_again s a b ends.Memory r x y z g f h i j = absurd cc

full_space : (a : Answer) (e : Evaluated) (x y : ScratchSpace) → is_full_end e ≡ true → Leaves a e x y → y ≡ x
full_space a (ends.Full what) x y f h = h.1
full_space a (ends.Value v) x y f h = absurd cc
full_space a (ends.Thrown v) x y f h = absurd cc
full_space a ends.Effect x y f h = absurd cc
full_space a ends.Spent x y f h = absurd cc
full_space a ends.Memory x y f h = absurd cc

-- ---- as the code has it

as_said : (t : Tried (Unit {0})) (e r : Evaluated) → r ≡ ends_as t e → EndsAs t e r
as_said t e ends.Memory h = tt
as_said t e (ends.Value v) h = h
as_said t e (ends.Thrown v) h = h
as_said t e ends.Effect h = h
as_said t e (ends.Full what) h = h
as_said t e ends.Spent h = h

tried_end : (t : Tried (Unit {0})) (r : Result (Unit {0}) Refused) (w : World) (e : Evaluated)
    → Tries t r w
    → EndsAs t e (end_behind r e)
tried_end t (Ok u) w e h = as_said t e e (sym (ap (λ z. ends_as z e) h))
tried_end t (Err Effect) w e h = sym (ap (λ z. ends_as z e) h)
tried_end t (Err (Full what)) w e h = sym (ap (λ z. ends_as z e) h)
tried_end t (Err Memory) w e h = tt

pub order-ends : (w o v : World) (ts : List (List ℕ)) (h : Heap) (us ks : List ℕ) (xs : List (List ℕ))
    (r : Result (Unit {0}) Refused) (e q : Evaluated)
    → ks ≡ us
    → o ≡ copied_world w (space_of ts h)
    → Tries (placed o ks xs) r v
    → q ≡ end_behind r e
    → EndsAs (placed (copied_world w (space_of ts h)) us xs) e q
order-ends w o v ts h us ks xs r e q l i k f =
    let P : World → Type 0 = λ u. Tries (placed u ks xs) r v in
    let R : List ℕ → Type 0 = λ u. Tries (placed (copied_world w (space_of ts h)) u xs) r v in
    let Q : Evaluated → Type 0 = λ z. EndsAs (placed (copied_world w (space_of ts h)) us xs) e z in
    subst Q (sym f) (tried_end (placed (copied_world w (space_of ts h)) us xs) r v e (subst R l (subst P i k)))

pub order-space : (w o v : World) (ts : List (List ℕ)) (h : Heap) (m : OverlayMark) (y : ScratchSpace)
    → o ≡ copied_world w (space_of ts h)
    → m ≡ mark_of h
    → Keeps o v
    → y ≡ space_at (space_after v) m
    → y ≡ space_of ts h
order-space w o v ts h m y i j k e =
    let Q : World → Type 0 = λ u. Keeps u v in
    e ∙ cut-space v v (space_of ts h) m (goes-from w v ts h m j (subst Q i k)) (keeps-same v)

pub order-other : (w : World) (x y : ScratchSpace) (us ks : List ℕ) (order literals : List (List ℕ)) (t : Term)
    (k : World → Term → Answer) (e : Evaluated)
    → ks ≡ us
    → is_full_end e ≡ false
    → Leaves (answered (made_ready w x ks literals t) k) e x y
    → AreSameLiterals order literals
    → Leaves (answered (ready_in_order w x us order literals t) k) e x y
order-other w x y us ks order literals t k e l f g h =
    let P : List ℕ → Type 0 = λ u. Leaves (answered (made_ready w x u literals t) k) e x y in
    other_end (placed (copied_world w x) us order) (answered (ready_in_order w x us order literals t) k)
    (answered (made_ready w x us literals t) k) e x y
    (source_agrees (keep_source (copied_world w x) us) order literals t k h) f (subst P l g)

pub order-full : (w : World) (x y z : ScratchSpace) (us ks : List ℕ) (order literals : List (List ℕ)) (t : Term)
    (k : World → Term → Answer) (e r : Evaluated)
    → ks ≡ us
    → is_full_end e ≡ true
    → Leaves (answered (made_ready w x ks literals t) k) e x y
    → EndsAs (placed (copied_world w y) us order) e r
    → z ≡ y
    → AreSameLiterals order literals
    → Leaves (answered (ready_in_order w x us order literals t) k) r x z
order-full w x y z us ks order literals t k e r l f g i j h =
    let P : List ℕ → Type 0 = λ u. Leaves (answered (made_ready w x u literals t) k) e x y in
    let Q : ScratchSpace → Type 0 = λ u. EndsAs (placed (copied_world w u) us order) e r in
    full_again (placed (copied_world w x) us order) (answered (ready_in_order w x us order literals t) k)
    (answered (made_ready w x us literals t) k) e r x y z
    (source_agrees (keep_source (copied_world w x) us) order literals t k h) f (subst P l g)
    (subst Q (full_space (answered (made_ready w x us literals t) k) e x y f (subst P l g)) i) j
