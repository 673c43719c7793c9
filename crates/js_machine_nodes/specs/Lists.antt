-- Lists whose front may be shared with other lists.
use Rattle.std.specs.Prelude.{ℕ, List, [], Option, Some, None, length, take, ◌≡◌, refl}
use Rattle.std.specs.Coded.{Coded, code_by, coded_list}

-- what contracts see of such a list: what stands in it, in order
pub record Items (T : Type 0) : Type 0 where
  pub items : List T

-- it is stored as what stands in it
abbrev pub items_code : {T : Type 0} → Coded T → Coded (Items T)
items_code {T} code = code_by (List T) (coded_list code) (λ v. v.items) (λ xs. record { items = xs }) (λ _. refl)

module _ {T : Type 0} {A : Type 0} (items : A → List T) where
  -- so many items of a front, where there is one
  abbrev pub in_front : Option A → ℕ → List T
  in_front None count = []
  in_front (Some front) count = take count (items front)

  -- a front has as many items as are counted
  abbrev pub IsCounted : Option A → ℕ → Type 0
  IsCounted front count = length (in_front front count) ≡ count
