-- When a session can hold no object more.
use Rattle.std.proofs.Common.{◌≡◌, ◌^◌, ◌||◌, Bool, true, false, length, is_some, nat_le, if◌then◌else◌, Some, None, refl}
use Rattle.object_groups.specs.Handles.{HeldHandles, fault_of}

either-full : {A : Type 0} → (a b : Bool) (x y : A)
    → is_some (if a then Some x else if b then Some y else None) ≡ (a || b)
either-full true b x y = refl
either-full false true x y = refl
either-full false false x y = refl

pub full-held : (h : HeldHandles) → is_some (fault_of h) ≡ (nat_le 100000 (length h.held) || nat_le (2 ^ 62) h.made)
full-held h = either-full (nat_le 100000 (length h.held)) (nat_le (2 ^ 62) h.made) _ _
