-- A program that sessions debug, and what its histories mean.
use Rattle.std.specs.Prelude.{◌≡◌, ◌≢◌, ◌⊎◌, ℕ, List, [], Bool}
use Rattle.cdp_host_isolation.specs.Alone.{solo, unborn, view}
use Rattle.cdp_host_isolation.specs.Histories.{Entry, FitsAll, handed_of, whole}
use Rattle.cdp_host_isolation.specs.Makers.{AreOwned, Owns, entries_of}
use Rattle.cdp_host_isolation.specs.Meanings.{Meaning, begin}
use Rattle.cdp_host_isolation.specs.Protocols.{Protocol}
use Rattle.cdp_host_isolation.specs.Runs as runs

-- A program and its sessions, of any types: how the program begins, whether it is to wait for a client, what a program
-- has printed, and whether one that is over ended by a throw.
pub record Debugging : Type 1 where
  pub Program : Type 0
  pub Step : Type 0
  pub Pause : Type 0
  pub Session : Type 0
  pub protocol : Protocol Program Step Pause Session
  pub program : Program
  pub wait : Bool
  pub printed : Program → List (List ℕ)
  pub has_thrown : Program → Bool

-- what a history means
abbrev pub meaning : (d : Debugging) → List (ℕ × Entry) → Meaning d.Program d.Pause d.Session
meaning d h = whole d.protocol d.program d.wait (entries_of h)

-- a list of entries is a history of the program in which each session is its owner's
pub record IsHistory (d : Debugging) (h : List (ℕ × Entry)) : Type 0 where
  pub fits : FitsAll d.protocol (begin d.program d.wait) (entries_of h)
  pub owned : AreOwned [] h

-- the texts that a history hands out to the session of a number
abbrev pub handed : Debugging → ℕ → List (ℕ × Entry) → List (List ℕ)
handed d s h = handed_of d.protocol s (begin d.program d.wait) (entries_of h)

-- the texts that this session would be sent with no other session there, over what it sees of the history
abbrev pub sent_alone : Debugging → ℕ → List (ℕ × Entry) → List (List ℕ)
sent_alone d s h = solo d.protocol s (unborn d.program d.wait) (view d.protocol s (begin d.program d.wait) (entries_of h))

-- nobody has attached the session of this number
abbrev pub IsNew : ℕ → List (ℕ × Entry) → Type 0
IsNew s h = (k : ℕ) → Owns k s h → ⊥

-- so many steps at a moment after a history are the longest run of at most so many; or there is none, since it tells of
-- sessions that were lost for want of memory
abbrev pub IsLongest : Debugging → ℕ → ℕ → List (ℕ × Entry) → ℕ → List ℕ → Type 0
IsLongest d most moment h steps lost =
    ((after : Meaning d.Program d.Pause d.Session) × runs.IsLongest d.protocol moment most (meaning d h) after steps)
    ⊎ ((steps ≡ 0) × (lost ≢ []))
