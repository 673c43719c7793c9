-- What is told, by several calls in turn.
use Rattle.std.proofs.Common.{◌≡◌, List, [], ◌++◌, Option, Some, None, refl, ap, append_assoc}
use Rattle.std.proofs.lemmas.List.{append-nil}
use Rattle.cdp_edge.specs.Outside.{IfTold}
use Rattle.cdp_edge_server.specs.Contents.{adds, becomes}

-- to add these and then those is to add both
pub adds-append : {A : Type 0} (old : Option (List A)) (xs ys : List A) → adds (adds old xs) ys ≡ adds old (xs ++ ys)
adds-append None xs ys = refl
adds-append (Some all) xs ys = ap (λ t. Some t) (append_assoc all xs ys)

-- to add none changes nothing
pub adds-nil : {A : Type 0} (old : Option (List A)) → adds old [] ≡ old
adds-nil None = refl
adds-nil (Some all) = ap (λ t. Some t) (append-nil all)

-- what is added to none is all
pub adds-told : {A : Type 0} (old : Option (List A)) (xs : List A)
    → IfTold old (λ all. all ≡ []) → IfTold (adds old xs) (λ all. all ≡ xs)
adds-told None xs none = tt
adds-told (Some all) xs none = ap (λ t. t ++ xs) none

-- what it becomes is what is told
pub becomes-told : {A : Type 0} (old : Option A) (new : A) → IfTold (becomes old new) (λ is. is ≡ new)
becomes-told None new = tt
becomes-told (Some was) new = refl

-- the last of two is what it becomes
pub becomes-last : {A : Type 0} (old : Option A) (first last : A) → becomes (becomes old first) last ≡ becomes old last
becomes-last None first last = refl
becomes-last (Some was) first last = refl

-- for callers of links, doors and harbors
pub ruleset contents = (adds-append, adds-nil, adds-told, becomes-told, becomes-last)
