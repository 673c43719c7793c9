-- Making the cells of string literals, one after another.
use Rattle.std.proofs.Common.{◌≡◌, ℕ, ◌+◌, ◌<◌, List, ◌∷◌, length, drop, get_or, sym, ap, subst, ◌∙◌}
use Rattle.js_heap.specs.declared.value.Addr.{Addr}
use Rattle.js_heap.specs.declared.cell.Cell.TheVariants as cells
use Rattle.js_heap.specs.World.{World, Tried, fine, make_cell}
use Rattle.js_heap.specs.Worlds.{Keeps, AfterFine}
use Rattle.js_heap.proofs.KeepLemmas.{keeps-trans, making-keeps}
use Rattle.js_semantics.specs.Evaluation.{after_try, make_literals}
use Rattle.cdp_text.proofs.ListLemmas.{from-here}

-- one more is made
pub next-made : (xs : List (List ℕ)) (i : ℕ) (x : List ℕ) (a : Addr) (w v u : World)
    → i < length xs
    → x ≡ get_or xs i x
    → make_literals v (drop i xs) ≡ make_literals w xs
    → make_cell v (cells.Text x) ≡ fine a u
    → make_literals u (drop (i + 1) xs) ≡ make_literals w xs
next-made xs i x a w v u h e inv m =
    let k : make_literals v (x ∷ drop (i + 1) xs) ≡ make_literals u (drop (i + 1) xs) = ap
    (λ t. after_try t (λ b z. make_literals z (drop (i + 1) xs))) m in
    sym k ∙ ap (make_literals v) (sym (from-here xs i x h e)) ∙ inv

-- ---- the loop

-- the literals from a place on are still to be made
pub record MakesOn (w : World) (xs : List (List ℕ)) (i : ℕ) (v : World) : Type 0 where
  pub rest : make_literals v (drop i xs) ≡ make_literals w xs
  pub keeps : Keeps w v

pub made_keeps : (v u : World) (c : _) (a : Addr) → make_cell v c ≡ fine a u → Keeps v u
made_keeps v u c a e =
    let P : Tried Addr → Type 0 = λ t. AfterFine t (λ b z. Keeps v z) in
    let k : P (fine a u) = subst P e (making-keeps v c) in
    k

pub makes-next : (xs : List (List ℕ)) (i : ℕ) (x : List ℕ) (a : Addr) (w v u : World)
    → MakesOn w xs i v
    → i < length xs
    → x ≡ get_or xs i x
    → make_cell v (cells.Text x) ≡ fine a u
    → MakesOn w xs (i + 1) u
makes-next xs i x a w v u m h e f =
    record {
      rest = next-made xs i x a w v u h e m.rest f;
      keeps = keeps-trans w v u m.keeps
          (made_keeps v u (cells.Text x) a f);
    }
