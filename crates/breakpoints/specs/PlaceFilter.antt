-- Groups of places, of which those are marked that have a place.
use Rattle.std.specs.Prelude.{◌≡◌, ℕ, ◌+◌, ◌*◌, ◌%◌, List, get_or, All, Bool, true, ◌==◌, IsTrue}
use Rattle.cdp_text.specs.declared.position.Place.{Place}
use Rattle.breakpoints.specs.Hits.{has_place}

-- the group of a place
abbrev pub group_of : Place → ℕ
group_of place = (place.pos.line * 8 + place.pos.col) % 4096

-- the group of a place is marked; one that has no mark counts as marked
abbrev pub is_marked : List ℕ → Place → Bool
is_marked marks place = get_or marks (group_of place) 1 == 1

-- no mark says that a group has a place
abbrev pub AreBlank : List ℕ → Type 0
AreBlank marks = All (λ mark. mark ≡ 0) marks

-- what was marked still is
abbrev pub KeepsMarks : List ℕ → List ℕ → Type 0
KeepsMarks old new = (place : Place) → is_marked old place ≡ true → is_marked new place ≡ true

-- the group of each of these places is marked
abbrev pub AreMarked : List Place → List ℕ → Type 0
AreMarked places marks = (place : Place) → IsTrue (has_place place places) → is_marked marks place ≡ true
