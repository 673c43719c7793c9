-- Lemmas on doors that are opened one after another.
use Rattle.std.proofs.Common.{◌≡◌, refl, ◌+◌, ◌++◌, ◌∷◌, [], List, ℕ, length, All}
use Rattle.std.proofs.lemmas.List.Elements.{All-append, All-from_recursion}
use Rattle.std.proofs.lemmas.List.{length-append}
use Rattle.cdp_edge_sockets.specs.Counts.{DoorCounts, IsNewDoor}

-- doors and one more are one more door
pub one-longer : (doors more : List DoorCounts) (door : DoorCounts) (n : ℕ)
    → more ≡ doors ++ door ∷ [] → length doors ≡ n → length more ≡ n + 1
one-longer doors more door n is number = rw is (rw (length-append doors (door ∷ [])) (rw number refl))

-- new doors and one more new one are new doors
pub all-new : (doors more : List DoorCounts) (door : DoorCounts)
    → more ≡ doors ++ door ∷ [] → All IsNewDoor doors → IsNewDoor door → All IsNewDoor more
all-new doors more door is old new =
    rw is (All-append IsNewDoor doors (door ∷ []) old (All-from_recursion IsNewDoor (door ∷ []) (new, tt)))
