-- Entries as the program has them.
use Rattle.std.specs.Prelude.{ℕ, List, [], ◌∷◌, string_bytes, if◌then◌else◌}
use Rattle.cdp_host_isolation.specs.Histories as histories
use Rattle.cdp_host_seats.specs.Losses.{is_for_memory}
use Rattle.cdp_host_seats.specs.declared.losses.SessionLost.{SessionLost}
use Rattle.cdp_host_turns.specs.declared.entry.Event.{Event}
use Rattle.cdp_host_turns.specs.declared.entry.Event.TheVariants as events
use Rattle.cdp_host_turns.specs.declared.answers.Told.{Told}
use Rattle.cdp_host_turns.specs.declared.answers.Told.TheVariants.{Kept, Overrun, Memory}

-- the numbers of the sessions that were lost for want of memory
abbrev pub lost_for_memory : List SessionLost → List ℕ
lost_for_memory [] = []
lost_for_memory (lost ∷ losses) =
    if is_for_memory lost.loss then lost.session ∷ lost_for_memory losses else lost_for_memory losses

-- what an entry of the program says
abbrev pub entry_of : Event → histories.Entry
entry_of events.Attach = histories.Attach
entry_of (events.Tell session text) = histories.Tell session (string_bytes text)
entry_of (events.Take session) = histories.Take session
entry_of (events.Detach session) = histories.Detach session
entry_of (events.Ran steps moment lost) = histories.Ran steps moment (lost_for_memory lost.items)
entry_of events.Shut = histories.Shut

-- the entry of a command that was answered so: want of memory detaches its session
abbrev pub told_entry : Told → ℕ → List ℕ → histories.Entry
told_entry Kept s text = histories.Tell s text
told_entry Overrun s text = histories.Tell s text
told_entry Memory s text = histories.Detach s
