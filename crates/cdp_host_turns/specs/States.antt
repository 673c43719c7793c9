-- The state that a host tells.
use Rattle.std.specs.Prelude.{◌≡◌, ℕ, List, Bool, true, false}
use Rattle.cdp_host_isolation.specs.Histories.{Entry}
use Rattle.cdp_host_isolation.specs.Meanings.{is_paused, waits}
use Rattle.cdp_host_turns.specs.Debuggings.{Debugging, meaning}
use Rattle.cdp_host_turns.specs.declared.state.State.{State}
use Rattle.cdp_host_turns.specs.declared.state.State.TheVariants.{Broken, Shut, Threw, Ended, Paused, Waiting, Ready}

-- the program has ended by a throw
abbrev pub HasThrown : Debugging → List (ℕ × Entry) → Type 0
HasThrown d h = (d.protocol.is_over (meaning d h).program ≡ true) × (d.has_thrown (meaning d h).program ≡ true)

-- the program has ended, and not by a throw
abbrev pub HasEnded : Debugging → List (ℕ × Entry) → Type 0
HasEnded d h = (d.protocol.is_over (meaning d h).program ≡ true) × (d.has_thrown (meaning d h).program ≡ false)

-- the program has ended
abbrev pub IsOver : Debugging → List (ℕ × Entry) → Type 0
IsOver d h = d.protocol.is_over (meaning d h).program ≡ true

-- the program was shut
abbrev pub IsShut : Debugging → List (ℕ × Entry) → Type 0
IsShut d h = (meaning d h).shut ≡ true

-- what a state says of a history; nothing is said of a broken host
abbrev pub HasState : Debugging → State → List (ℕ × Entry) → Type 0
HasState d Broken h = Unit {0}
HasState d Shut h = IsShut d h
HasState d Threw h = ((meaning d h).shut ≡ false) × HasThrown d h
HasState d Ended h = ((meaning d h).shut ≡ false) × HasEnded d h
HasState d Paused h = is_paused (meaning d h) ≡ true
HasState d Waiting h = waits (meaning d h).phase ≡ true
HasState d Ready h = ((meaning d h).shut ≡ false) × (d.protocol.is_over (meaning d h).program ≡ false)

-- a state that tells that the program has ended
abbrev pub tells_over : State → Bool
tells_over Broken = false
tells_over Shut = false
tells_over Threw = true
tells_over Ended = true
tells_over Paused = false
tells_over Waiting = false
tells_over Ready = false

-- a state that tells that the program was shut
abbrev pub tells_shut : State → Bool
tells_shut Broken = false
tells_shut Shut = true
tells_shut Threw = false
tells_shut Ended = false
tells_shut Paused = false
tells_shut Waiting = false
tells_shut Ready = false
