-- How sending commands to a host ends, and why.
use Rattle.std.specs.Prelude.{◌≡◌, ◌⊎◌, ℕ, List, [], ◌∷◌, Option, Some, Ok, Err}
use Rattle.cdp_edge.specs.Blame.{Blames, Faults, Read}
use Rattle.cdp_edge.specs.Outside.{NamedFile, Rose, Given, one_file}
use Rattle.cdp_edge_server.specs.Contents.{Calls, IsUnused, Spoken, adds, called}
use Rattle.ws_service.specs.Programs.{Output}
use Rattle.cdp_client.specs.Conversations.{Converses, CountsLink, CountsSink, IsClosedBy}
use Rattle.cdp_client.specs.Lines.{Line, file_read}
use Rattle.cdp_client.specs.declared.conversed.Conversed.{Conversed}
use Rattle.cdp_client.specs.declared.conversed.Conversed.TheVariants as talks
use Rattle.debug_host_options.specs.Requests.{SendWords}
use Rattle.debug_host_commands.specs.declared.outcome.CommandEnd.{CommandEnd}
use Rattle.debug_host_commands.specs.declared.outcome.CommandEnd.TheVariants as ends

-- ---- ends

-- the end that the end of a conversation is
abbrev pub outcome_of_talk : Conversed → CommandEnd
outcome_of_talk talks.Done = ends.Done
outcome_of_talk (talks.Refused line) = ends.LineRefused line
outcome_of_talk (talks.PeerClosed replies) = ends.PeerClosed replies
outcome_of_talk talks.LinkFault = ends.NetworkFault
outcome_of_talk talks.WriteFault = ends.CannotWrite
outcome_of_talk talks.Memory = ends.OutOfMemory

-- the ends that come before a port is dialled, but for want of memory
abbrev pub IsUndialled : CommandEnd → Type 0
IsUndialled (ends.CannotRead name) = Unit {0}
IsUndialled (ends.LineRefused line) = Unit {0}
IsUndialled end = ⊥

-- the ends that come where no conversation was held: the file isn't read or a line of it is refused, no memory was left,
-- or the port couldn't be dialled
abbrev pub IsUnsent : CommandEnd → Type 0
IsUnsent (ends.CannotRead name) = Unit {0}
IsUnsent (ends.LineRefused line) = Unit {0}
IsUnsent ends.OutOfMemory = Unit {0}
IsUnsent ends.NetworkFault = Unit {0}
IsUnsent end = ⊥

-- ---- the file of commands

-- one file of this name was handed in, and these are its lines
pub record HoldsCommands (given : List NamedFile) (name : List ℕ) (lines : List Line) : Type 0 where
  pub commands : List ℕ
  pub there : given ≡ one_file name commands
  pub read : file_read commands ≡ Ok lines

-- it was handed in, and its line of this number is the first that isn't of its form
pub record RefusesLine (given : List NamedFile) (name : List ℕ) (line : ℕ) : Type 0 where
  pub commands : List ℕ
  pub there : given ≡ one_file name commands
  pub refused : file_read commands ≡ Err line

-- ---- a conversation

-- what a harbor tells of the links that it dials
pub record Dialled : Type 0 where
  pub faults : ℕ
  pub dials : Calls ℕ
  pub hung_up : Option (List Spoken)

-- the port was dialled by one call
abbrev pub IsDialled : ℕ → Dialled → Dialled → Type 0
IsDialled port was now = now.dials ≡ called port was.dials

-- A conversation by a file came to this end. It was held over a link that had given and was sent nothing before, and that
-- the harbor took back as it was then: what it was sent, and what was written, are those of the talk over its answers.
-- Each count rose just where the end says so.
pub record Speaks (file : List ℕ) (end : Conversed) (old new : Output) (was now : Dialled) : Type 0 where
  pub fresh : Spoken
  pub link : Spoken
  pub unused : IsUnused fresh
  pub converses : Converses file end
      (record { answers = fresh.answers; sent = fresh.sent; written = old.content })
      (record { answers = link.answers; sent = link.sent; written = new.content })
  pub closed : IsClosedBy (Some end) fresh.closed link.closed
  pub hung_up : now.hung_up ≡ adds was.hung_up (link ∷ [])
  pub writes : CountsSink (Some end) old.faults new.faults
  pub faults : CountsLink (Some end) was.faults now.faults

-- the file of commands was handed in, and nothing else, and a conversation by it came to this end
pub record Sends (given : List NamedFile) (request : SendWords) (end : Conversed) (old new : Output) (was now : Dialled)
    : Type 0 where
  pub commands : List ℕ
  pub there : given ≡ one_file request.commands commands
  pub speaks : Speaks commands end old new was now

-- no conversation was held, and nothing was written; or one was, and came to this end
abbrev pub MaySend : List NamedFile → SendWords → Output → Output → Dialled → Dialled → CommandEnd → Type 0
MaySend given request old new was now end =
    (IsUnsent end × (new ≡ old) × (now.hung_up ≡ was.hung_up))
    ⊎ ((talk : Conversed) × (end ≡ outcome_of_talk talk) × Sends given request talk old new was now)

-- ---- causes

-- why sending ended so before the port was dialled; the counts are those of the shelf
abbrev pub BecauseCommands : CommandEnd → List ℕ → (List NamedFile → Type 0) → Faults → Faults → Type 0
BecauseCommands (ends.CannotRead name) commands Hands before after =
    Blames (Read name.now) before after × (commands ≡ name.now) × Hands []
BecauseCommands (ends.LineRefused line) commands Hands before after =
    (after ≡ before) × Given Hands (λ given. RefusesLine given commands line)
BecauseCommands ends.OutOfMemory commands Hands before after = (after ≡ before) × Given Hands (λ given. Unit {0})
BecauseCommands end commands Hands before after = ⊥

-- why sending ended so: the file says so, the peer closed, a count of faults rose, or memory was wanting. The counts are
-- those of the shelf
abbrev pub BecauseSend : CommandEnd → SendWords → (List NamedFile → Type 0) → Faults → Faults → Output → Output → Dialled
    → Dialled → Type 0
BecauseSend ends.Done request Hands before after old new was now =
    (after ≡ before)
    × (new.faults ≡ old.faults)
    × (now.faults ≡ was.faults)
    × IsDialled request.port was now
    × Given Hands (λ given. Sends given request talks.Done old new was now)
BecauseSend (ends.PeerClosed replies) request Hands before after old new was now =
    (after ≡ before)
    × (new.faults ≡ old.faults)
    × (now.faults ≡ was.faults)
    × IsDialled request.port was now
    × Given Hands (λ given. Sends given request (talks.PeerClosed replies) old new was now)
BecauseSend ends.CannotWrite request Hands before after old new was now =
    (after ≡ before)
    × Rose old.faults new.faults
    × (now.faults ≡ was.faults)
    × IsDialled request.port was now
    × Given Hands (λ given. Sends given request talks.WriteFault old new was now)
BecauseSend ends.NetworkFault request Hands before after old new was now =
    (after ≡ before)
    × (new.faults ≡ old.faults)
    × Rose was.faults now.faults
    × IsDialled request.port was now
    × Given Hands (λ given. (lines : List Line) × HoldsCommands given request.commands lines)
BecauseSend ends.OutOfMemory request Hands before after old new was now =
    (after ≡ before)
    × (new.faults ≡ old.faults)
    × (now.faults ≡ was.faults)
    × Given Hands (λ given. Unit {0})
BecauseSend (ends.LineRefused line) request Hands before after old new was now =
    (after ≡ before)
    × (new ≡ old)
    × (now ≡ was)
    × Given Hands (λ given. RefusesLine given request.commands line)
BecauseSend (ends.CannotStore name) request Hands before after old new was now = ⊥
BecauseSend (ends.CannotRead name) request Hands before after old new was now =
    Blames (Read name.now) before after
    × (new ≡ old)
    × (now ≡ was)
    × (request.commands ≡ name.now)
    × Hands []
BecauseSend ends.Usage request Hands before after old new was now = ⊥
BecauseSend ends.ThrewUnshown request Hands before after old new was now = ⊥
BecauseSend ends.TicketsSpent request Hands before after old new was now = ⊥
BecauseSend (ends.Refused name r) request Hands before after old new was now = ⊥
BecauseSend (ends.Threw text) request Hands before after old new was now = ⊥
