-- Lists that are described one after another: from one to those behind it.
use Rattle.std.proofs.Common.{◌≡◌, ℕ, suc, List, [], ◌∷◌, ◌++◌, drop, sym, ap}
use Rattle.std.specs.Prelude.{slice_get, Some, zero}
use Rattle.std.proofs.lemmas.Option.{same_Some}
use Rattle.cdp_json.specs.Json as json
use Rattle.remote_objects.specs.Making.{Made}

-- what was made so far, with what is made of those that are left, is the whole
pub record Goes (done : List json.Json) (left whole : Made (List json.Json)) : Type 0 where
  pub made : done ++ left.made ≡ whole.made
  pub handles : left.handles ≡ whole.handles

-- ---- a list that is asked for each of its places

pub got-here : {X : Type 0} (xs : List X) (i : ℕ) (x : X) → Some x ≡ slice_get xs i → drop i xs ≡ x ∷ drop (suc i) xs
got-here [] i x e = cc
got-here (y ∷ ys) zero x e = ap (λ z. z ∷ ys) (sym (same_Some x y e))
got-here (y ∷ ys) (suc i) x e = got-here ys i x e
