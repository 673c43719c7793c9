-- The handles of a session: numbered targets, each in a group or in none.
use Rattle.std.specs.Prelude.{◌≡◌, ℕ, ◌+◌, Bool, true, false, not, List, [], ◌∷◌, ◌++◌, length, filter, nat_eq, nat_le, bytes_eq, if◌then◌else◌, Option, Some, None, Result, Err, IfErr}
use Rattle.js_heap.specs.declared.value.Addr.TheVariants.{Base, Scratch}
use Rattle.object_groups.specs.declared.handle.Target.{Target}
use Rattle.object_groups.specs.declared.handle.Target.TheVariants.{Object, Scope}
use Rattle.object_groups.specs.declared.handle.Handle.{Handle}
use Rattle.object_groups.specs.declared.fault.HandleFault.{HandleFault}
use Rattle.object_groups.specs.declared.fault.HandleFault.TheVariants.{Full, Memory}
use Rattle.object_groups.specs.declared.fault.TheConstants.{MOST_HELD, MOST_MADE}

-- the handles that are held, in the order of making, and how many were made
pub record HeldHandles : Type 0 where
  pub held : List Handle
  pub made : ℕ

-- the handles of a session before the first is made
abbrev pub none_made : HeldHandles
none_made = record { held = []; made = 0 }

-- ---- making

-- why no handle is made, if none is
abbrev pub fault_of : HeldHandles → Option HandleFault
fault_of s =
    if nat_le MOST_HELD (length s.held) then Some (Full MOST_HELD) else if nat_le MOST_MADE s.made then Some
    (Full MOST_MADE) else None

-- what is answered: the fault that stands, or else a number, but for want of memory
abbrev pub Answers : Option HandleFault → Result ℕ HandleFault → Type 0
Answers (Some fault) result = result ≡ Err fault
Answers None result = IfErr result (λ fault. fault ≡ Memory)

-- the number of the next handle, counted from 1
abbrev pub next_number : HeldHandles → ℕ
next_number s = s.made + 1

-- one handle more, in a group or in none
abbrev pub with_handle : Target → Option (List ℕ) → HeldHandles → HeldHandles
with_handle target group s =
    record {
      held = s.held ++ record { number = next_number s; target = target; group = group } ∷ [];
      made = next_number s;
    }

-- ---- finding and releasing

-- whether a number is that of a handle
abbrev pub has_number : ℕ → Handle → Bool
has_number n h = nat_eq n h.number

-- whether a number isn't that of a handle
abbrev pub has_another_number : ℕ → Handle → Bool
has_another_number n h = not (has_number n h)

-- the handles of a session without that of a number
abbrev pub without : ℕ → HeldHandles → HeldHandles
without n s = record s { held = filter (has_another_number n) s.held }

-- no group has a handle without a group
abbrev pub is_named : List ℕ → Option (List ℕ) → Bool
is_named g None = false
is_named g (Some name) = bytes_eq name g

-- whether a handle is in a group
abbrev pub is_in : List ℕ → Handle → Bool
is_in g h = is_named g h.group

-- whether a handle is in another group or in none
abbrev pub is_outside : List ℕ → Handle → Bool
is_outside g h = not (is_in g h)

-- the handles of a session without those of a group
abbrev pub without_group : List ℕ → HeldHandles → HeldHandles
without_group g s = record s { held = filter (is_outside g) s.held }

-- ---- cells that evaluations made

-- whether an evaluation made the object or the scope
abbrev pub is_in_scratch : Target → Bool
is_in_scratch (Object (Base i)) = false
is_in_scratch (Object (Scratch i)) = true
is_in_scratch (Scope (Base i)) = false
is_in_scratch (Scope (Scratch i)) = true

-- whether an evaluation made the target of a handle
abbrev pub is_on_scratch : Handle → Bool
is_on_scratch h = is_in_scratch h.target
