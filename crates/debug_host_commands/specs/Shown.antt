-- What the lines of a replay's output tell of its history.
use Rattle.std.specs.Prelude.{◌+◌, ℕ, zero, suc, List, [], ◌∷◌, ◌++◌, Bool, false, codes, decimal, if◌then◌else◌}
use Rattle.cdp_host_isolation.specs.Alone.{unborn}
use Rattle.cdp_host_isolation.specs.Histories.{Entry, Attach, Tell, Take, Detach, Ran, Shut, steps_of, waiting}
use Rattle.cdp_host_isolation.specs.Meanings.{after_steps, is_named, is_paused, waits}
use Rattle.cdp_host_isolation.specs.Seats.{seat_of}
use Rattle.cdp_host_isolation.specs.Texts.{made_of}
use Rattle.js_tree.specs.declared.script.Script.{Script}
use Rattle.js_semantics.specs.Run.{Run as Program}
use Rattle.cdp_host.specs.Histories.{Meaning, apply, view}
use Rattle.cdp_host.specs.Programs.{plain, is_over, has_thrown, start}
use Rattle.cdp_host.specs.Protocols.{protocol, texts}
use Rattle.debug_host_commands.specs.Output.{overrun_at, overruns}

-- how many sessions an entry attaches
abbrev pub attached_at : Entry → ℕ
attached_at Attach = 1
attached_at (Tell s text) = 0
attached_at (Take s) = 0
attached_at (Detach s) = 0
attached_at (Ran n moment gone) = 0
attached_at Shut = 0

-- how many a history attaches
abbrev pub attached_by : List Entry → ℕ
attached_by [] = 0
attached_by (entry ∷ history) = attached_at entry + attached_by history

-- what begins a line with a text that this session is sent
abbrev pub to_front : ℕ → List ℕ
to_front s = codes "to " ++ (decimal s ++ 32 ∷ [])

-- the program is paused behind a run of so many steps at a moment: a session that isn't lost at the last of them names
-- it, by its rules or by the start rule, or the program was paused where the run makes none
abbrev pub is_stopped : List Script → List (List ℕ) → ℕ → List ℕ → ℕ → Meaning Program → ℕ → Bool
is_stopped scripts input moment gone made m zero = is_paused m
is_stopped scripts input moment gone made m (suc n) =
    is_named (protocol scripts) moment gone (plain (made + n) scripts input) (after_steps (protocol scripts) moment n m)

-- the program waits for a client behind a run of so many steps: it did before, and the run makes none
abbrev pub is_waiting : Meaning Program → ℕ → Bool
is_waiting m zero = waits m.phase
is_waiting m (suc n) = false

-- the word for where a run of so many steps at a moment leads, from the one that many steps in
abbrev pub ran_state : List Script → List (List ℕ) → ℕ → List ℕ → ℕ → Meaning Program → ℕ → List ℕ
ran_state scripts input moment gone made m n =
    if m.shut then codes "shut"
    else if has_thrown (plain (made + n) scripts input) then codes "threw"
    else if is_over (plain (made + n) scripts input) then codes "ended"
    else if is_stopped scripts input moment gone made m n then codes "paused"
    else if is_waiting m n then codes "waiting" else codes "ready"

-- what is told of an entry that is a run: its steps, and where it leads
abbrev pub ran_at : List Script → List (List ℕ) → ℕ → Meaning Program → Entry → List (List ℕ)
ran_at scripts input made m Attach = []
ran_at scripts input made m (Tell s text) = []
ran_at scripts input made m (Take s) = []
ran_at scripts input made m (Detach s) = []
ran_at scripts input made m (Ran n moment gone) = (decimal n ++ 32 ∷ ran_state scripts input moment gone made m n) ∷ []
ran_at scripts input made m Shut = []

-- what is told of the runs of a history, in order
abbrev pub ran_texts : List Script → List (List ℕ) → ℕ → Meaning Program → List Entry → List (List ℕ)
ran_texts scripts input made m [] = []
ran_texts scripts input made m (entry ∷ history) =
    ran_at scripts input made m entry ++ ran_texts scripts input (made + steps_of entry) (apply scripts m entry) history

-- the sessions that an entry tells as lost: that of a command whose answer's texts don't fit behind those that wait,
-- and behind a run those that its last step, or a resume before it, lost by too many texts, in ascending order
abbrev pub losses_at : List Script → Meaning Program → Entry → List ℕ
losses_at scripts m Attach = []
losses_at scripts m (Tell s text) = if overruns scripts m text (seat_of s m.seats) then s ∷ [] else []
losses_at scripts m (Take s) = []
losses_at scripts m (Detach s) = []
losses_at scripts m (Ran n moment gone) = overrun_at scripts moment gone n m
losses_at scripts m Shut = []

-- the sessions that a history loses, in order
abbrev pub losses_of : List Script → Meaning Program → List Entry → List ℕ
losses_of scripts m [] = []
losses_of scripts m (entry ∷ history) = losses_at scripts m entry ++ losses_of scripts (apply scripts m entry) history

-- the texts that wait for this session
abbrev pub waiting_to : ℕ → List Script → Meaning Program → List (List ℕ)
waiting_to s scripts m = waiting (protocol scripts) (seat_of s m.seats)

-- the texts that the program and its commands make for this session in a history, in order
abbrev pub texts_to : ℕ → List Script → List (List ℕ) → Bool → List Entry → List (List ℕ)
texts_to s scripts input wait history =
    made_of (protocol scripts) (texts scripts) s (unborn (start scripts input) wait) (view scripts input wait s history)
