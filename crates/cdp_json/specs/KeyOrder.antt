-- The order in which an object's members are written: by the units of their keys, and equal keys as they were given.
use Rattle.std.specs.Prelude.{ℕ, List, [], ◌∷◌, Bool, true, not, ◌&&◌, length, get_or, fold}
use Rattle.std.specs.Ordering.{is_gt, nat_cmp, match_ordering}
use Rattle.std.specs.Cmp.Lexicographic.{slice_cmp}
use Rattle.std.specs.List.{range_with_len}

-- x among those in order: before the first whose key is greater
abbrev pub insert_by : {A : Type 0} → (A → List ℕ) → A → List A → List A
insert_by key x [] = x ∷ []
insert_by key x (y ∷ ys) =
    match_ordering (slice_cmp nat_cmp (key x) (key y)) (x ∷ y ∷ ys) (y ∷ insert_by key x ys) (y ∷ insert_by key x ys)

-- all of them in order, put in one after another
abbrev pub in_order : {A : Type 0} → (A → List ℕ) → List A → List A
in_order key xs = fold (λ done x. insert_by key x done) [] xs

-- the key at a place
abbrev pub key_at : List (List ℕ) → ℕ → List ℕ
key_at keys place = get_or keys place []

-- the places of keys, in the order of these keys
abbrev pub order_of : List (List ℕ) → List ℕ
order_of keys = in_order (key_at keys) (range_with_len 0 (length keys))

-- each key is at most the one behind it
abbrev pub ascends : List (List ℕ) → Bool
ascends [] = true
ascends (key ∷ []) = true
ascends (key ∷ next ∷ keys) = not (is_gt (slice_cmp nat_cmp key next)) && ascends (next ∷ keys)
