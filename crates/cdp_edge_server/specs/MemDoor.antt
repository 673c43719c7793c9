-- A door in memory, and what its calls do to it.
use Rattle.std.specs.Prelude.{◌≡◌, ◌⊎◌, ◌<◌, ◌≤◌, ◌+◌, ℕ, List, [], ◌∷◌, Some, None, Bool, true, false, map, Contains}
use Rattle.cdp_edge.specs.Outside.{one_more}
use Rattle.cdp_edge_server.specs.Contents.{Tended}
use Rattle.cdp_edge_server.specs.MemLink.{MemoryLink, spoken_of}
use Rattle.cdp_edge_server.specs.declared.door.DoorAnswer.{DoorAnswer}
use Rattle.cdp_edge_server.specs.declared.door.DoorAnswer.TheVariants as answers

-- the links that are to arrive, those that were taken back, whether one is out, how often it was asked, found nobody and failed, and the numbers of the calls that fail, from 1
pub record MemoryDoor : Type 0 where
  pub waiting : List MemoryLink
  pub served : List MemoryLink
  pub is_out : Bool
  pub asked : ℕ
  pub quiets : ℕ
  pub faults : ℕ
  pub fails : List ℕ

-- a link that has given no answer, was sent nothing, was not closed, and never failed
pub record IsUnusedLink (link : MemoryLink) : Type 0 where
  pub faults : link.faults ≡ 0
  pub answers : link.answers ≡ []
  pub sent : link.sent ≡ []
  pub closed : link.closed ≡ None

-- a door that was never asked, has taken back no link, has none out, and never failed
pub record IsNewDoor (door : MemoryDoor) : Type 0 where
  pub faults : door.faults ≡ 0
  pub asked : door.asked ≡ 0
  pub served : door.served ≡ []
  pub is_out : door.is_out ≡ false

-- what a door in memory tells
abbrev pub tended_of : MemoryDoor → Tended
tended_of door = record {
  faults = door.faults;
  asked = door.asked;
  served = Some (map spoken_of door.served);
  is_out = Some door.is_out;
}

-- how often a door with no link left finds nobody before it fails
abbrev pub most_quiets : ℕ
most_quiets = 10_000_000

-- what a call of `next` does to a door, by its answer: the first link leaves; nobody is there; a listed call, or one call too many that finds nobody, fails
abbrev pub AnswersDoor : DoorAnswer MemoryLink → MemoryDoor → MemoryDoor → Type 0
AnswersDoor (answers.Arrived link) old new =
    (old.waiting ≡ link ∷ new.waiting)
    × IsUnusedLink link
    × (new ≡ record old { waiting = new.waiting; is_out = true; asked = one_more old.asked })
AnswersDoor answers.Quiet old new =
    (old.waiting ≡ [])
    × (old.quiets < most_quiets)
    × (new ≡ record old { asked = one_more old.asked; quiets = old.quiets + 1 })
AnswersDoor answers.Failed old new =
    (Contains old.fails (one_more old.asked) ⊎ ((old.waiting ≡ []) × (most_quiets ≤ old.quiets)))
    × (new ≡ record old { asked = one_more old.asked; faults = one_more old.faults })
AnswersDoor answers.Memory old new = new ≡ record old { asked = one_more old.asked }
