-- The numbers of the handles of each group.
use Rattle.std.specs.Prelude.{◌≡◌, ℕ, List, [], map, filter, Option, Some, None}
use Rattle.std.specs.Ordering.{nat_cmp}
use Rattle.std.specs.Cmp.Lexicographic.{slice_cmp}
use Rattle.std.specs.BTreeMap.{BTreeMap, get_by}
use Rattle.std.specs.BTreeSet.{BTreeSet}
use Rattle.std.specs.Global.{Vec}
use Rattle.object_groups.specs.declared.handle.Handle.{Handle}
use Rattle.object_groups.specs.declared.groups.Groups.{Groups}
use Rattle.object_groups.specs.Handles.{is_in}

-- the numbers in a group's set, if it has one
abbrev pub numbers_of : Option (BTreeSet ℕ) → List ℕ
numbers_of None = []
numbers_of (Some set) = set.keys

-- the set of a group
abbrev pub set_of : {X : Type 0} → List ℕ → BTreeMap (Vec ℕ) X → Option X
set_of g sets = get_by (λ name. slice_cmp nat_cmp g name.items) sets

-- the numbers that are kept for a group
abbrev pub numbers_in : List ℕ → Groups → List ℕ
numbers_in g groups = numbers_of (set_of g groups.sets)

-- the number of a handle
abbrev pub number_of : Handle → ℕ
number_of h = h.number

-- the numbers of a group's handles
abbrev pub group_numbers : List ℕ → List Handle → List ℕ
group_numbers g hs = map number_of (filter (is_in g) hs)

-- what is kept for each group are the numbers of its handles
abbrev pub AreGroupsOf : List Handle → Groups → Type 0
AreGroupsOf hs groups = (g : List ℕ) → numbers_in g groups ≡ group_numbers g hs
