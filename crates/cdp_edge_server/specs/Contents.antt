-- What the objects at the edge of a server tell of what was done with them.
use Rattle.std.specs.Prelude.{◌≡◌, ◌+◌, ◌-◌, ℕ, zero, suc, List, [], ◌∷◌, ◌++◌, Option, Some, None, Bool, true, false}
use Rattle.cdp_edge.specs.Outside.{IfTold, Rose, one_more}
use Rattle.cdp_edge_server.specs.Heard.{Heard}

-- what is told, with these behind it; nothing where nothing is told
abbrev pub adds : {A : Type 0} → Option (List A) → List A → Option (List A)
adds None more = None
adds (Some old) more = Some (old ++ more)

-- this in place of what is told; nothing where nothing is told
abbrev pub becomes : {A : Type 0} → Option A → A → Option A
becomes None new = None
becomes (Some old) new = Some new

-- what a link tells: the count of its faults, its answers, the texts it was sent, and the code it was closed with last
pub record Spoken : Type 0 where
  pub faults : ℕ
  pub answers : Option (List Heard)
  pub sent : Option (List (List ℕ))
  pub closed : Option (Option ℕ)

-- a link that has given no answer, was sent nothing, was not closed, and never failed
abbrev pub IsUnused : Spoken → Type 0
IsUnused link = (link.faults ≡ 0)
    × IfTold link.answers (λ answers. answers ≡ [])
    × IfTold link.sent (λ texts. texts ≡ [])
    × IfTold link.closed (λ code. code ≡ None)

-- what a door tells: the count of its faults, how often it was asked, the links that it took back, and whether one is out
pub record Tended : Type 0 where
  pub faults : ℕ
  pub asked : ℕ
  pub served : Option (List Spoken)
  pub is_out : Option Bool

-- a door that was never asked, has taken back no link, has none out, and never failed
abbrev pub IsNew : Tended → Type 0
IsNew door = (door.faults ≡ 0)
    × (door.asked ≡ 0)
    × IfTold door.served (λ links. links ≡ [])
    × IfTold door.is_out (λ out. out ≡ false)

-- how often a call was made, and with what last
pub record Calls (A : Type 0) : Type 0 where
  pub count : ℕ
  pub last : Option A

-- no call so far
abbrev pub no_calls : {A : Type 0} → Calls A
no_calls = record { count = 0; last = None }

-- one more call, with this
abbrev pub called : {A : Type 0} → A → Calls A → Calls A
called with_this old = record { count = one_more old.count; last = Some with_this }

-- a count is not 0
abbrev pub any_fault : List ℕ → Bool
any_fault [] = false
any_fault (zero ∷ counts) = any_fault counts
any_fault (suc n ∷ counts) = true

-- the count rose where there was a fault, and is as it was where there was none
abbrev pub RisesAt : Bool → ℕ → ℕ → Type 0
RisesAt true old new = Rose old new
RisesAt false old new = new ≡ old

-- so many more are out, where that is told
abbrev pub raised : Option ℕ → ℕ → Option ℕ
raised None n = None
raised (Some out) n = Some (out + n)

-- so many fewer are out, where that is told
abbrev pub lowered : Option ℕ → ℕ → Option ℕ
lowered None n = None
lowered (Some out) n = Some (out - n)
