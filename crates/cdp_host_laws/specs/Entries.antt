-- Entries as one session sees them.
use Rattle.std.specs.Prelude.{◌≢◌, ℕ}
use Rattle.cdp_host_isolation.specs.Histories.{Entry, Attach, Tell, Take, Detach, Ran, Shut}

-- an entry that neither makes steps nor is that of the session of this number
abbrev pub IsOfOther : ℕ → Entry → Type 0
IsOfOther s Attach = Unit {0}
IsOfOther s (Tell r text) = r ≢ s
IsOfOther s (Take r) = r ≢ s
IsOfOther s (Detach r) = r ≢ s
IsOfOther s (Ran n moment gone) = ⊥
IsOfOther s Shut = Unit {0}
