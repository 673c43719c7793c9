-- What a writer holds after several writes.
use Rattle.std.proofs.Common.{ℕ, List, ◌++◌, Option, Some, None, ◌∙◌, ap, append-nil, take, refl}
use Rattle.std.specs.Io.KnownBytes.{Keeps, Appends}

-- it holds what it held
pub Keeps-refl : (o : Option (List ℕ)) → Keeps o o
Keeps-refl None = tt
Keeps-refl (Some xs) = refl

-- still what it held, after one more call
pub Keeps-more : (old now new : Option (List ℕ)) → Keeps old now → Keeps now new → Keeps old new
Keeps-more None now new before next = tt
Keeps-more (Some xs) None new before next = absurd before
Keeps-more (Some xs) (Some ys) None before next = absurd next
Keeps-more (Some xs) (Some ys) (Some zs) before next = next ∙ before

-- it took none of the bytes
pub Appends-none : (old new : Option (List ℕ)) (bs : List ℕ) → Appends old new (take 0 bs) → Keeps old new
Appends-none None new bs took = tt
Appends-none (Some xs) None bs took = absurd took
Appends-none (Some xs) (Some ys) bs took = took ∙ append-nil xs

-- it took these bytes behind what it held
pub Appends-more : (old now new : Option (List ℕ)) (bs : List ℕ)
    → Keeps old now
    → Appends now new bs
    → Appends old new bs
Appends-more None now new bs before next = tt
Appends-more (Some xs) None new bs before next = absurd before
Appends-more (Some xs) (Some ys) None bs before next = absurd next
Appends-more (Some xs) (Some ys) (Some zs) bs before next = next ∙ ap (λ all. all ++ bs) before

pub ruleset writes = (Keeps-refl, Keeps-more, Appends-none, Appends-more)
