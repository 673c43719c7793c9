-- The status of each end, and its line.
use Rattle.std.specs.Prelude.{◌≡◌, ◌<◌, ℕ, List, [], ◌∷◌, ◌++◌, codes, decimal, string_bytes, Option, Some, Bool, false}
use Rattle.cdp_edge.specs.Outside.{NamedFile, Given, GainsPrefix}
use Rattle.cdp_edge.specs.Blame.{Faults}
use Rattle.debug_host_script_files.specs.declared.fault.TextFault.{TextFault}
use Rattle.debug_host_script_files.specs.declared.fault.TextFault.TheVariants as refusals
use Rattle.debug_host_options.specs.Helps.{help_text}
use Rattle.debug_host_options.specs.declared.help.TheConstants.{VERSION}
use Rattle.debug_host_options.specs.Requests.{Request, ReplayWords, SendWords, ServeWords, Sources, Run, Replay, Serve, Send, Drill, Help, Version}
use Rattle.debug_host_commands.specs.declared.outcome.CommandEnd.{CommandEnd}
use Rattle.debug_host_commands.specs.declared.outcome.CommandEnd.TheVariants as ends

-- the status of an end
abbrev pub status_of : CommandEnd → ℕ
status_of ends.Done = 0
status_of ends.OutOfMemory = 1
status_of ends.Usage = 2
status_of (ends.Refused name r) = 3
status_of (ends.CannotRead name) = 4
status_of (ends.CannotStore name) = 4
status_of ends.CannotWrite = 5
status_of (ends.LineRefused number) = 6
status_of ends.NetworkFault = 7
status_of (ends.Threw text) = 8
status_of ends.ThrewUnshown = 8
status_of (ends.PeerClosed replies) = 9
status_of ends.TicketsSpent = 10

-- ---- the line on the second sink, ended by LF

-- what is said of words that ask for nothing
abbrev pub usage_said : List ℕ
usage_said = codes "usage: debug_host run/replay/serve/send/drill" ++ 10 ∷ []

-- what is said of a refused file of this name: lines and columns count from 0
abbrev pub refusal_said : List ℕ → TextFault → List ℕ
refusal_said name refusals.NotUtf8 = codes "debug_host: " ++ name ++ (codes ": not UTF-8" ++ 10 ∷ [])
refusal_said name (refusals.UnexpectedToken pos) =
    codes "debug_host: " ++
    (name ++ 58 ∷ (decimal pos.line ++ 58 ∷ (decimal pos.col ++ (codes ": unexpected token" ++ 10 ∷ []))))
refusal_said name (refusals.TooLong units) =
    codes "debug_host: " ++ (name ++ (codes ": too long: " ++ (decimal units ++ (codes " units" ++ 10 ∷ []))))
refusal_said name refusals.TooDeep = codes "debug_host: " ++ name ++ (codes ": too deep" ++ 10 ∷ [])
refusal_said name refusals.TooManyTokens = codes "debug_host: " ++ name ++ (codes ": too many tokens" ++ 10 ∷ [])

-- what is said of a file that can't be read
abbrev pub unread_said : List ℕ → List ℕ
unread_said name = codes "debug_host: cannot read " ++ name ++ 10 ∷ []

-- what is said of a file that can't be stored
abbrev pub unstored_said : List ℕ → List ℕ
unstored_said name = codes "debug_host: cannot store " ++ name ++ 10 ∷ []

-- what is said of a line that is refused, of a journal or of a file of commands
abbrev pub line_said : ℕ → List ℕ
line_said number = codes "debug_host: line " ++ decimal number ++ (codes " refused" ++ 10 ∷ [])

-- what is said of a peer that closed after so many replies
abbrev pub closed_said : ℕ → List ℕ
closed_said replies = codes "debug_host: peer closed after " ++ decimal replies ++ (codes " replies" ++ 10 ∷ [])

-- what is said of an uncaught throw of a value that is shown so
abbrev pub uncaught_said : List ℕ → List ℕ
uncaught_said text = codes "Uncaught " ++ text ++ 10 ∷ []

-- what is said of each end
abbrev pub said : CommandEnd → List ℕ
said ends.Done = []
said ends.OutOfMemory = codes "debug_host: out of memory" ++ 10 ∷ []
said ends.Usage = usage_said
said (ends.Refused name r) = refusal_said name.now r
said (ends.CannotRead name) = unread_said name.now
said (ends.CannotStore name) = unstored_said name.now
said ends.CannotWrite = codes "debug_host: cannot write" ++ 10 ∷ []
said ends.NetworkFault = codes "debug_host: network fault" ++ 10 ∷ []
said ends.TicketsSpent = codes "debug_host: tickets spent" ++ 10 ∷ []
said ends.ThrewUnshown = []
said (ends.LineRefused number) = line_said number
said (ends.PeerClosed replies) = closed_said replies
said (ends.Threw text) = uncaught_said (string_bytes text)

-- the second sink took some first bytes of a line, and of what explains it where explanations are asked for; nothing explains where there is no line
abbrev pub Says : Bool → List ℕ → List ℕ → List ℕ → Type 0
Says explains old new line =
    (more : List ℕ)
    × (explains ≡ false → more ≡ [])
    × (line ≡ [] → more ≡ [])
    × GainsPrefix old new (line ++ more)

-- ---- what is said where words ask for something

-- what holds of a run, where the words ask for one
abbrev pub ForRun : Option Request → (Sources → Type 0) → Type 0
ForRun (Some (Run request)) P = P request.sources
ForRun asked P = Unit {0}

-- what holds of a run and the files that were handed in, where the words ask for one
abbrev pub GivenRun : Option Request → (List NamedFile → Type 0) → (Sources → List NamedFile → Type 0) → Type 0
GivenRun asked Hands P = ForRun asked (λ sources. Given Hands (P sources))

-- what holds of a replay, where the words ask for one
abbrev pub ForReplay : Option Request → (ReplayWords → Type 0) → Type 0
ForReplay (Some (Replay words)) P = P words
ForReplay asked P = Unit {0}

-- what holds of a replay and the files that were handed in, where the words ask for one
abbrev pub GivenReplay : Option Request → (List NamedFile → Type 0) → (ReplayWords → List NamedFile → Type 0) → Type 0
GivenReplay asked Hands P = ForReplay asked (λ words. Given Hands (P words))

-- what holds of a server, where the words ask for one
abbrev pub ForServe : Option Request → (ServeWords → Type 0) → Type 0
ForServe (Some (Serve words)) P = P words
ForServe asked P = Unit {0}

-- what holds of a server and the files that were handed in, where the words ask for one
abbrev pub GivenServe : Option Request → (List NamedFile → Type 0) → (ServeWords → List NamedFile → Type 0) → Type 0
GivenServe asked Hands P = ForServe asked (λ words. Given Hands (P words))

-- what holds of a client, where the words ask for one
abbrev pub ForSend : Option Request → (SendWords → Type 0) → Type 0
ForSend (Some (Send words)) P = P words
ForSend asked P = Unit {0}

-- what holds of a client and the files that were handed in, where the words ask for one
abbrev pub GivenSend : Option Request → (List NamedFile → Type 0) → (SendWords → List NamedFile → Type 0) → Type 0
GivenSend asked Hands P = ForSend asked (λ words. Given Hands (P words))

-- the words ask for a client
abbrev pub IsClient : Option Request → Type 0
IsClient (Some (Send words)) = Unit {0}
IsClient asked = ⊥

-- what holds of a drill, where the words ask for one
abbrev pub ForDrill : Option Request → (ℕ → Type 0) → Type 0
ForDrill (Some (Drill n)) P = P n
ForDrill asked P = Unit {0}

-- what holds of a text that tells of the program, where the words ask for one: help, or its version
abbrev pub ForText : Option Request → (List ℕ → Type 0) → Type 0
ForText (Some (Help topic)) P = P (help_text topic)
ForText (Some Version) P = P VERSION.now
ForText asked P = Unit {0}

-- neither a read nor a write failed, as the counts tell
pub record Unfailed (before after : Faults) (writes_before writes_after : ℕ) : Type 0 where
  pub reads : after.count ≡ before.count
  pub reads_told : before.count < 0xffff_ffff_ffff_ffff
  pub writes : writes_after ≡ writes_before
  pub writes_told : writes_before < 0xffff_ffff_ffff_ffff
