-- Histories of a host of any scripts, and what they mean.
use Rattle.std.specs.Prelude.{ℕ, List, Bool}
use Rattle.cdp_host_isolation.specs.Alone as alone
use Rattle.cdp_host_isolation.specs.Alone.{Seen}
use Rattle.cdp_host_isolation.specs.Histories as histories
use Rattle.cdp_host_isolation.specs.Histories.{Entry}
use Rattle.cdp_host_isolation.specs.Meanings as meanings
use Rattle.js_tree.specs.declared.script.Script.{Script}
use Rattle.js_semantics.specs.Run.{Run}
use Rattle.cdp_session.specs.declared.situation.Pause.{Pause}
use Rattle.cdp_session.specs.Sessions.{Session}
use Rattle.cdp_host.specs.Programs.{start}
use Rattle.cdp_host.specs.Protocols.{protocol}

-- what a host means whose program is seen as an A
abbrev pub Meaning : Type 0 → Type 0
Meaning A = meanings.Meaning A Pause Session

-- what a host means before the first entry
abbrev pub begin : List Script → List (List ℕ) → Bool → Meaning Run
begin scripts input wait = meanings.begin (start scripts input) wait

-- what a host means after one entry
abbrev pub apply : List Script → Meaning Run → Entry → Meaning Run
apply scripts m entry = histories.apply (protocol scripts) m entry

-- what a whole history means, from the beginning of the scripts with their input
abbrev pub whole : List Script → List (List ℕ) → Bool → List Entry → Meaning Run
whole scripts input wait history = histories.whole (protocol scripts) (start scripts input) wait history

-- a list of entries is a history: each step of a run is made where the program is ready
abbrev pub IsHistory : List Script → List (List ℕ) → Bool → List Entry → Type 0
IsHistory scripts input wait history = histories.FitsAll (protocol scripts) (begin scripts input wait) history

-- ---- one session of a history

-- what it sees of it
abbrev pub view : List Script → List (List ℕ) → Bool → ℕ → List Entry → List Seen
view scripts input wait s history = alone.view (protocol scripts) s (begin scripts input wait) history

-- the texts that it is sent
abbrev pub sent_to : List Script → List (List ℕ) → Bool → ℕ → List Entry → List (List ℕ)
sent_to scripts input wait s history = histories.handed_of (protocol scripts) s (begin scripts input wait) history

-- those that it would be sent over a view by a host that has no other session
abbrev pub sent_alone : List Script → List (List ℕ) → Bool → ℕ → List Seen → List (List ℕ)
sent_alone scripts input wait s seen = alone.solo (protocol scripts) s (alone.unborn (start scripts input) wait) seen
