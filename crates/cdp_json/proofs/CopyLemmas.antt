-- Lists of copies, one by one: what is seen of them is what is seen of the originals.
use Rattle.std.proofs.Common.{◌≡◌, ℕ, ◌+◌, ◌<◌, ◌≤◌, List, [], ◌∷◌, ◌++◌, length, take, get_or, map, suc, sym, ap, ◌∙◌, arith}
use Rattle.std.proofs.lemmas.List.{map-append, take_all}
use Rattle.std.proofs.Math.Seq.{take-suc}

-- one copy more
pub copies_more : {A B : Type 0} (f : A → B) (xs : List A) (i : ℕ) (d copy : A) (old new : List A)
    → i < length xs
    → map f old ≡ map f (take i xs)
    → new ≡ old ++ copy ∷ []
    → f copy ≡ f (get_or xs i d)
    → map f new ≡ map f (take (i + 1) xs)
copies_more f xs i d copy old new lt is pushed same =
    let next : i + 1 ≡ suc i = omega arith in
    ap (map f) pushed ∙ map-append f old (copy ∷ []) ∙ ap (λ ys. ys ++ f copy ∷ []) is
    ∙ ap (λ y. map f (take i xs) ++ y ∷ []) same
    ∙ sym (ap (λ n. map f (take n xs)) next
    ∙ ap (map f) (take-suc xs i d lt)
    ∙ map-append f (take i xs) (get_or xs i d ∷ []))

-- all copies
pub copies_all : {A B : Type 0} (f : A → B) (xs : List A) (i : ℕ) (copies : List A)
    → length xs ≤ i
    → map f copies ≡ map f (take i xs)
    → map f copies ≡ map f xs
copies_all f xs i copies le is = is ∙ ap (map f) (take_all i xs le)
