-- Handles that are made while something is described.
use Rattle.std.specs.Prelude.{ℕ, List, [], ◌∷◌, Option, Some, None, codes}
use Rattle.object_groups.specs.declared.fault.HandleFault.{HandleFault}
use Rattle.object_groups.specs.declared.handle.Target.{Target}
use Rattle.object_groups.specs.Handles as handles
use Rattle.object_groups.specs.Handles.{fault_of, next_number, with_handle}
use Rattle.cdp_json.specs.Json.{text}
use Rattle.cdp_json.specs.Parts.{Pair}
use Rattle.remote_objects.specs.Ids.{object_id}

-- what something is described as, and the handles behind it
pub record Made (A : Type 0) : Type 0 where
  pub made : A
  pub handles : handles.HeldHandles

-- the number of a new handle, where one can be made
abbrev pub number_by : Option HandleFault → handles.HeldHandles → Option ℕ
number_by None h = Some (next_number h)
number_by (Some fault) h = None

-- the handles behind that
abbrev pub handles_by : Option HandleFault → Target → Option (List ℕ) → handles.HeldHandles → handles.HeldHandles
handles_by None target group h = with_handle target group h
handles_by (Some fault) target group h = h

-- a handle on a target in a group, or in none, where one can be made
abbrev pub handle_on : Target → Option (List ℕ) → handles.HeldHandles → Made (Option ℕ)
handle_on target group h = record { made = number_by (fault_of h) h; handles = handles_by (fault_of h) target group h }

-- the member that names it
abbrev pub id_pairs : ℕ → Option ℕ → List Pair
id_pairs session None = []
id_pairs session (Some n) = (codes "objectId", text (object_id session n)) ∷ []

-- what is made of each of a list, in turn, with the handles after all of it
abbrev pub made_all : {A B : Type 0} → (A → handles.HeldHandles → Made B) → List A → handles.HeldHandles → Made (List B)
made_all f [] h = record { made = []; handles = h }
made_all f (x ∷ xs) h =
    record {
      made = (f x h).made ∷
          (made_all f xs (f x h).handles).made;
      handles = (made_all f xs (f x h).handles).handles;
    }
