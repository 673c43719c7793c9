-- What is to come on a link, and what an answer takes of it.
use Rattle.std.specs.Prelude.{◌≡◌, ◌⊎◌, ℕ, zero, suc, List, [], ◌∷◌, ◌++◌, Option, Some, None, map}
use Rattle.cdp_edge_server.specs.Heard as heard
use Rattle.cdp_edge_server.specs.declared.link.Recv.{Recv}

-- what comes next
pub data Coming : Type 0 where
  -- a text of these bytes
  Text : List ℕ → Coming
  -- a binary message
  Binary : Coming
  -- a message above the limit
  TooBig : Coming
  -- a call that finds no whole message
  Quiet : Coming
  -- the end
  Closed : Coming
  -- so many calls that find no whole message, and then the end, unless what it waits for happens
  Hold : ℕ → Coming

-- the answer of a link with this to come
abbrev pub next_heard : List Coming → heard.Heard
next_heard [] = heard.Closed
next_heard (Text bytes ∷ rest) = heard.Text bytes
next_heard (Binary ∷ rest) = heard.Binary
next_heard (TooBig ∷ rest) = heard.TooBig
next_heard (Quiet ∷ rest) = heard.Quiet
next_heard (Closed ∷ rest) = heard.Closed
next_heard (Hold zero ∷ rest) = heard.Closed
next_heard (Hold (suc n) ∷ rest) = heard.Quiet

-- what is to come behind that answer; behind the end there is nothing else
abbrev pub behind_next : List Coming → List Coming
behind_next [] = []
behind_next (Text bytes ∷ rest) = rest
behind_next (Binary ∷ rest) = rest
behind_next (TooBig ∷ rest) = rest
behind_next (Quiet ∷ rest) = rest
behind_next (Closed ∷ rest) = Closed ∷ rest
behind_next (Hold zero ∷ rest) = Hold zero ∷ rest
behind_next (Hold (suc n) ∷ rest) = Hold n ∷ rest

-- what is to come behind some holds that wait no more
abbrev pub IsBehindHolds : List Coming → List Coming → Type 0
IsBehindHolds old now = (waits : List ℕ) × (old ≡ map (λ n. Hold n) waits ++ now)

-- the next answer was given, or nothing of what is to come
abbrev pub Takes : Recv → List Coming → List Coming → Type 0
Takes answer now left =
    ((heard.heard_of answer ≡ next_heard now ∷ []) × (left ≡ behind_next now))
    ⊎ (heard.IsNothing answer × (left ≡ now))

-- a link with this to come answers so, and has that left
abbrev pub Gives : Recv → List Coming → List Coming → Type 0
Gives answer old left = (now : List Coming) × IsBehindHolds old now × Takes answer now left

-- a link answers so, and has that left, where it tells what is to come
abbrev pub GivesTold : Recv → Option (List Coming) → Option (List Coming) → Type 0
GivesTold answer None new = new ≡ None
GivesTold answer (Some old) new = (left : List Coming) × (new ≡ Some left) × Gives answer old left
