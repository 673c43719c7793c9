-- The first of the parts from a place on.
use Rattle.std.proofs.Common.{◌≡◌, ℕ, zero, suc, ◌-◌, ◌<◌, List, [], ◌∷◌, take, drop, refl, ap, ◌∙◌, arith}
use Rattle.std.specs.Prelude.{slice_get}
use Rattle.js_machine_nodes.specs.declared.table.NodeTable.{NodeTable}
use Rattle.js_machine_nodes.specs.Trees.{kids_between}
use Rattle.js_machine_engine.specs.Settling.{first_kid}

first_at : (ks : List ℕ) (p n : ℕ) → first_kid (take (suc n) (drop p ks)) ≡ slice_get ks p
first_at [] zero n = refl
first_at [] (suc p) n = refl
first_at (k ∷ ks) zero n = refl
first_at (k ∷ ks) (suc p) n = first_at ks p n

pub first-kid : (t : NodeTable) (place stop : ℕ)
    → place < stop
    → first_kid (kids_between t place stop) ≡ slice_get t.kids.items place
first-kid t place stop l =
    let e : stop - place ≡ suc (stop - place - 1) = omega (arith, l) in
    ap (λ m. first_kid (take m (drop place t.kids.items))) e ∙ first_at t.kids.items place (stop - place - 1)
