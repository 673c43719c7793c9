-- What each end of sending commands says of the file, the port and the conversation.
use Rattle.std.proofs.Common.{◌≡◌, ◌≤◌, ◌⊎◌, inl, inr, ℕ, zero, suc, List, [], ◌∷◌, append-nil, Option, Some, None, Ok, Err, refl, sym, ap, subst, ◌∙◌, arith, Bool}
use Rattle.cdp_edge.specs.Blame.{Blames, Faults, Read}
use Rattle.cdp_edge.specs.Outside.{GainsPrefix, NamedFile, Rose, IfTold, Given, one_file}
use Rattle.cdp_edge.proofs.Gains.{GainsPrefix-refl}
use Rattle.cdp_edge_server.specs.Contents.{RisesAt, adds, any_fault, called, raised}
use Rattle.ws_service.specs.Programs.{Output}
use Rattle.cdp_client.specs.Conversations.{CountsLink, IsUnread}
use Rattle.cdp_client.specs.Lines.{IsInForm, Line, file_read}
use Rattle.cdp_client.specs.declared.conversed.Conversed.{Conversed}
use Rattle.cdp_client.specs.declared.conversed.Conversed.TheVariants as talks
use Rattle.cdp_edge.proofs.HandedLemmas.{given_as}
use Rattle.debug_host_commands.specs.ReadCauses.{BecauseUnread}
use Rattle.debug_host_commands.specs.SendCauses.{BecauseCommands, BecauseSend, Dialled, HoldsCommands, IsDialled, IsUndialled, IsUnsent, MaySend, RefusesLine, Sends, Speaks, outcome_of_talk}
use Rattle.debug_host_commands.specs.Status.{ForSend, ForText, GivenSend, closed_said, line_said, said, status_of, unread_said, Says}
use Rattle.debug_host_options.specs.Requests.{Drill, Help, Replay, Request, Run, Send, SendWords, Serve, Version}
use Rattle.debug_host_commands.specs.declared.outcome.CommandEnd.{CommandEnd}
use Rattle.debug_host_commands.specs.declared.outcome.CommandEnd.TheVariants as ends
use Rattle.debug_host_commands.proofs.RunLemmas.{one_content}
use Rattle.debug_host_commands.proofs.EndLemmas.{cut_only, done_only}

-- ---- before the port is dialled

-- why the file of commands wasn't read
pub no_commands : (end : CommandEnd) (name : List ℕ) (Hands : List NamedFile → Type 0) (before after : Faults)
    → BecauseUnread end name Hands before after
    → BecauseCommands end name Hands before after
no_commands ends.OutOfMemory name Hands before after h = (h.0, ([], h.1, tt))
no_commands (ends.CannotStore unread) name Hands before after h = absurd h
no_commands (ends.CannotRead unread) name Hands before after h = h
no_commands ends.Done name Hands before after h = absurd h
no_commands (ends.Threw text) name Hands before after h = absurd h
no_commands ends.ThrewUnshown name Hands before after h = absurd h
no_commands ends.Usage name Hands before after h = absurd h
no_commands (ends.Refused unread r) name Hands before after h = absurd h
no_commands ends.CannotWrite name Hands before after h = absurd h
no_commands (ends.LineRefused line) name Hands before after h = absurd h
no_commands ends.NetworkFault name Hands before after h = absurd h
no_commands ends.TicketsSpent name Hands before after h = absurd h
no_commands (ends.PeerClosed replies) name Hands before after h = absurd h

-- a line of it is refused, or no memory was left to check it
refused_lines : (talk : Conversed) (name commands : List ℕ) (Hands : List NamedFile → Type 0) (before after : Faults)
    → after ≡ before
    → Hands (one_file name commands)
    → IsUnread commands talk
    → BecauseCommands (outcome_of_talk talk) name Hands before after
refused_lines talks.Done name commands Hands before after same hands h = absurd h
refused_lines (talks.Refused line) name commands Hands before after same hands h =
    (same, (one_file name commands, hands, record { commands = commands; there = refl; refused = h }))
refused_lines (talks.PeerClosed replies) name commands Hands before after same hands h = absurd h
refused_lines talks.LinkFault name commands Hands before after same hands h = absurd h
refused_lines talks.WriteFault name commands Hands before after same hands h = absurd h
refused_lines talks.Memory name commands Hands before after same hands h = (same, (one_file name commands, hands, tt))

-- the same of what was lent to check it
pub refused_commands : (talk : Conversed) (name commands lent : List ℕ) (Hands : List NamedFile → Type 0)
    (before after : Faults)
    → after ≡ before
    → Hands (one_file name commands)
    → lent ≡ commands
    → IsUnread lent talk
    → BecauseCommands (outcome_of_talk talk) name Hands before after
refused_commands talk name commands lent Hands before after same hands is h =
    refused_lines talk name commands Hands before after same hands
    (subst (λ (file : List ℕ). IsUnread file talk) is h)

-- why sending ended so whose file wasn't taken
pub unread : (end : CommandEnd) (request : SendWords) (Hands : List NamedFile → Type 0) (before after : Faults) (out : Output)
    (harbor : Dialled) → BecauseCommands end request.commands Hands before after
    → BecauseSend end request Hands before after out out harbor harbor
unread ends.OutOfMemory request Hands before after out harbor h = (h.0, refl, refl, h.1)
unread (ends.CannotStore name) request Hands before after out harbor h = absurd h
unread (ends.CannotRead name) request Hands before after out harbor h = (h.0, refl, refl, h.1, h.2)
unread (ends.LineRefused line) request Hands before after out harbor h = (h.0, refl, refl, h.1)
unread ends.Done request Hands before after out harbor h = absurd h
unread (ends.Threw text) request Hands before after out harbor h = absurd h
unread ends.ThrewUnshown request Hands before after out harbor h = absurd h
unread ends.Usage request Hands before after out harbor h = absurd h
unread (ends.Refused name r) request Hands before after out harbor h = absurd h
unread ends.CannotWrite request Hands before after out harbor h = absurd h
unread ends.NetworkFault request Hands before after out harbor h = absurd h
unread (ends.PeerClosed replies) request Hands before after out harbor h = absurd h
unread ends.TicketsSpent request Hands before after out harbor h = absurd h

unsaid : (end : CommandEnd) (commands : List ℕ) (Hands : List NamedFile → Type 0) (before after : Faults)
    → BecauseCommands end commands Hands before after → IsUnsent end
unsaid ends.OutOfMemory commands Hands before after h = tt
unsaid (ends.CannotStore name) commands Hands before after h = absurd h
unsaid (ends.CannotRead name) commands Hands before after h = tt
unsaid (ends.LineRefused line) commands Hands before after h = tt
unsaid ends.Done commands Hands before after h = absurd h
unsaid (ends.Threw text) commands Hands before after h = absurd h
unsaid ends.ThrewUnshown commands Hands before after h = absurd h
unsaid ends.Usage commands Hands before after h = absurd h
unsaid (ends.Refused name r) commands Hands before after h = absurd h
unsaid ends.CannotWrite commands Hands before after h = absurd h
unsaid ends.NetworkFault commands Hands before after h = absurd h
unsaid (ends.PeerClosed replies) commands Hands before after h = absurd h
unsaid ends.TicketsSpent commands Hands before after h = absurd h

-- of a file that wasn't taken nothing else was handed in
handed : (end : CommandEnd) (commands : List ℕ) (Hands : List NamedFile → Type 0) (before after : Faults)
    → BecauseCommands end commands Hands before after → Given Hands (λ files. Unit {0})
handed ends.OutOfMemory commands Hands before after h = h.1
handed (ends.CannotStore name) commands Hands before after h = absurd h
handed (ends.CannotRead name) commands Hands before after h = ([], h.2, tt)
handed (ends.LineRefused line) commands Hands before after h = given_as Hands _ (λ files. Unit {0}) (λ files it. tt) h.1
handed ends.Done commands Hands before after h = absurd h
handed (ends.Threw text) commands Hands before after h = absurd h
handed ends.ThrewUnshown commands Hands before after h = absurd h
handed ends.Usage commands Hands before after h = absurd h
handed (ends.Refused name r) commands Hands before after h = absurd h
handed ends.CannotWrite commands Hands before after h = absurd h
handed ends.NetworkFault commands Hands before after h = absurd h
handed ends.TicketsSpent commands Hands before after h = absurd h
handed (ends.PeerClosed replies) commands Hands before after h = absurd h

pub unsent : (end : CommandEnd) (request : SendWords) (Hands : List NamedFile → Type 0) (before after : Faults)
    (out : Output) (harbor : Dialled) → BecauseCommands end request.commands Hands before after
    → Given Hands (λ files. MaySend files request out out harbor harbor end)
unsent end request Hands before after out harbor h =
    given_as Hands (λ files. Unit {0}) (λ files. MaySend files request out out harbor harbor end)
    (λ files it. inl (unsaid end request.commands Hands before after h, refl, refl))
    (handed end request.commands Hands before after h)

-- the port couldn't be dialled
pub undialled : (end : CommandEnd) (request : SendWords) (Hands : List NamedFile → Type 0) (out : Output)
    (was now : Dialled) (commands : List ℕ) → IsUnsent end → now.hung_up ≡ was.hung_up
    → Hands (one_file request.commands commands)
    → Given Hands (λ files. MaySend files request out out was now end)
undialled end request Hands out was now commands unsent same hands =
    (one_file request.commands commands, hands, inl (unsent, refl, same))

-- something was handed in
pub one_handed : (Hands : List NamedFile → Type 0) (name commands : List ℕ) → Hands (one_file name commands)
    → Given Hands (λ files. Unit {0})
one_handed Hands name commands hands = (one_file name commands, hands, tt)

-- a link is out once a port was dialled
pub one_out : (old new : Option ℕ) → new ≡ raised old 1 → IfTold new (λ (out : ℕ). 1 ≤ out)
one_out None new is = subst (λ (links : Option ℕ). IfTold links (λ (out : ℕ). 1 ≤ out)) (sym is) tt
one_out (Some n) new is = subst (λ (links : Option ℕ). IfTold links (λ (out : ℕ). 1 ≤ out)) (sym is) (omega arith)

-- for the file of commands
pub ruleset reading = (no_commands, refused_commands)

-- ---- a conversation

-- the harbor's count rises as that of a link does that never failed before
pub counts : (talk : Conversed) (fresh link was now : ℕ) → fresh ≡ 0 → CountsLink (Some talk) fresh link
    → RisesAt (any_fault (link ∷ [])) was now → CountsLink (Some talk) was now
counts talk fresh link was now new counted rises = by talk link (subst (λ (n : ℕ). CountsLink (Some talk) n link) new counted) rises
  where
    stays : (link : ℕ) → link ≡ 0 → RisesAt (any_fault (link ∷ [])) was now → now ≡ was
    stays zero is rises = rises
    stays (suc n) is rises = absurd cc

    rose : (link : ℕ) → Rose 0 link → RisesAt (any_fault (link ∷ [])) was now → Rose was now
    rose (suc n) is rises = rises
    rose zero (inl less) rises = absurd (omega (arith, less))
    rose zero (inr most) rises = absurd (omega (arith, most))

    by : (talk : Conversed) (link : ℕ) → CountsLink (Some talk) 0 link → RisesAt (any_fault (link ∷ [])) was now
        → CountsLink (Some talk) was now
    by talks.Done link is rises = stays link is rises
    by (talks.Refused line) link is rises = stays link is rises
    by (talks.PeerClosed replies) link is rises = stays link is rises
    by talks.LinkFault link is rises = rose link is rises
    by talks.WriteFault link is rises = stays link is rises
    by talks.Memory link is rises = stays link is rises

-- what a harbor tells after it has dialled a port is what it told before, but for its calls
pub since : (file lent : List ℕ) (talk : Conversed) (old new : Output) (was mid now : Dialled) → lent ≡ file
    → mid.faults ≡ was.faults → mid.hung_up ≡ was.hung_up → Speaks lent talk old new mid now
    → Speaks file talk old new was now
since file lent talk old new was mid now is faults hung_up s =
    let t : Speaks file talk old new mid now = subst (λ (f : List ℕ). Speaks f talk old new mid now) is s in
    record {
      fresh = t.fresh;
      link = t.link;
      unused = t.unused;
      converses = t.converses;
      closed = t.closed;
      hung_up = t.hung_up ∙ ap (λ links. adds links (t.link ∷ [])) hung_up;
      writes = t.writes;
      faults = subst (λ (n : ℕ). CountsLink (Some talk) n now.faults) faults t.faults;
    }

-- a file of its form has no line that is refused
in-form : (P : Type 0) (file : List ℕ) (line : ℕ) → IsInForm file → file_read file ≡ Err line → P
in-form P file line form refused =
    let both : Ok form.0 ≡ Err line = sym form.1 ∙ refused in absurd cc

module _ (request : SendWords) (Hands : List NamedFile → Type 0) (commands : List ℕ) (old new : Output) (was now : Dialled)
    (there : Hands (one_file request.commands commands)) where
  sends : (talk : Conversed) → Speaks commands talk old new was now
      → Given Hands (λ files. Sends files request talk old new was now)
  sends talk s =
      (one_file request.commands commands, there, record { commands = commands; there = refl; speaks = s })

  -- the files hold the lines of a file that is of its form
  pub holds : IsInForm commands → Given Hands (λ files. (lines : List Line) × HoldsCommands files request.commands lines)
  holds form =
      (one_file request.commands commands, there, (form.0, record { commands = commands; there = refl; read = form.1 }))

  -- why sending ended so over whose file a conversation was held
  pub spoke : (talk : Conversed) (before after : Faults) → after ≡ before → IsInForm commands
      → IsDialled request.port was now → Speaks commands talk old new was now
      → BecauseSend (outcome_of_talk talk) request Hands before after old new was now
  spoke talks.Done before after quiet form dialled s = (quiet, s.writes, s.faults, dialled, sends talks.Done s)
  spoke (talks.Refused line) before after quiet form dialled s = in-form _ commands line form s.converses.0
  spoke (talks.PeerClosed replies) before after quiet form dialled s =
      (quiet, s.writes, s.faults, dialled, sends (talks.PeerClosed replies) s)
  spoke talks.LinkFault before after quiet form dialled s = (quiet, s.writes, s.faults, dialled, holds form)
  spoke talks.WriteFault before after quiet form dialled s =
      (quiet, s.writes, s.faults, dialled, sends talks.WriteFault s)
  spoke talks.Memory before after quiet form dialled s =
      (quiet, s.writes, s.faults, one_handed Hands request.commands commands there)

  pub spoke-part : (talk : Conversed) → Speaks commands talk old new was now
      → Given Hands (λ files. MaySend files request old new was now (outcome_of_talk talk))
  spoke-part talk s =
      given_as Hands (λ files. Sends files request talk old new was now)
      (λ files. MaySend files request old new was now (outcome_of_talk talk)) (λ files at. inr (talk, refl, at))
      (sends talk s)

  -- its port was dialled
  pub spoke-dialled : (P : Type 0) (talk : Conversed) → IsInForm commands → Speaks commands talk old new was now
      → IsUndialled (outcome_of_talk talk) → P
  spoke-dialled P (talks.Refused line) form s is = in-form P commands line form s.converses.0
  spoke-dialled P talks.Done form s is = absurd is
  spoke-dialled P (talks.PeerClosed replies) form s is = absurd is
  spoke-dialled P talks.LinkFault form s is = absurd is
  spoke-dialled P talks.WriteFault form s is = absurd is
  spoke-dialled P talks.Memory form s is = absurd is

-- ---- of the words that ask for a client

given_send : (o : Option Request) (request : SendWords) (Hands : List NamedFile → Type 0)
    (P : SendWords → List NamedFile → Type 0) → o ≡ Some (Send request) → Given Hands (P request) → GivenSend o Hands P
given_send o request Hands P is h = rw is h

-- at every status
pub sent_given : (o : Option Request) (request : SendWords) (Hands : List NamedFile → Type 0) (old new : Output)
    (was now : Dialled) (end : CommandEnd) (status : ℕ) → o ≡ Some (Send request) → status ≡ status_of end
    → Given Hands (λ files. MaySend files request old new was now end)
    → GivenSend o Hands (λ r files. (it : CommandEnd) × (status ≡ status_of it) × MaySend files r old new was now it)
sent_given o request Hands old new was now end status is ends_so h =
    given_send o request Hands (λ r files. (it : CommandEnd) × (status ≡ status_of it) × MaySend files r old new was now it)
    is
    (given_as Hands (λ files. MaySend files request old new was now end)
    (λ files. (it : CommandEnd) × (status ≡ status_of it) × MaySend files request old new was now it)
    (λ files at. (end, ends_so, at)) h)

-- how a peer that closed is told
abbrev IsToldClose : Output → Output → Dialled → Dialled → Bool → List ℕ → List ℕ → SendWords
    → List NamedFile → Type 0
IsToldClose old new was now explains before after request files =
    (replies : ℕ)
    × Sends files request (talks.PeerClosed replies) old new was now
    × Says explains before after (closed_said replies)

-- how a line that is refused is told
abbrev IsToldLine : Bool → List ℕ → List ℕ → SendWords → List NamedFile → Type 0
IsToldLine explains before after request files =
    (line : ℕ) × RefusesLine files request.commands line × Says explains before after (line_said line)

-- how a file that can't be read is told
abbrev IsToldRead : Faults → Faults → Bool → List ℕ → List ℕ → SendWords → Type 0
IsToldRead faults now_faults explains before after request =
    Blames (Read request.commands) faults now_faults × Says explains before after (unread_said request.commands)

-- the statuses at which the port was dialled
abbrev IsPast : ℕ → Type 0
IsPast n = (n ≡ 0) ⊎ (n ≡ 5) ⊎ (n ≡ 7) ⊎ (n ≡ 9)

-- the statuses that come without a dialled port are none of those that come with one
not-past-1 : (P : Type 0) → IsPast 1 → P
not-past-1 P (inl is) = absurd cc
not-past-1 P (inr (inl is)) = absurd cc
not-past-1 P (inr (inr (inl is))) = absurd cc
not-past-1 P (inr (inr (inr is))) = absurd cc

not-past-4 : (P : Type 0) → IsPast 4 → P
not-past-4 P (inl is) = absurd cc
not-past-4 P (inr (inl is)) = absurd cc
not-past-4 P (inr (inr (inl is))) = absurd cc
not-past-4 P (inr (inr (inr is))) = absurd cc

not-past-6 : (P : Type 0) → IsPast 6 → P
not-past-6 P (inl is) = absurd cc
not-past-6 P (inr (inl is)) = absurd cc
not-past-6 P (inr (inr (inl is))) = absurd cc
not-past-6 P (inr (inr (inr is))) = absurd cc

-- one of these, where the file is of its form
abbrev IsTaken : ℕ → SendWords → List NamedFile → Type 0
IsTaken n request files =
    (lines : List Line) → HoldsCommands files request.commands lines
    → (n ≡ 0) ⊎ (n ≡ 9) ⊎ (n ≡ 1) ⊎ (n ≡ 4) ⊎ (n ≡ 5) ⊎ (n ≡ 7)

-- one of these, where a line of it is refused
abbrev IsLeft : ℕ → SendWords → List NamedFile → Type 0
IsLeft n request files =
    (line : ℕ) → RefusesLine files request.commands line → (n ≡ 6) ⊎ (n ≡ 1) ⊎ (n ≡ 4)

-- nothing was handed in
given_nothing_as : (Hands P : List NamedFile → Type 0) → P [] → Hands [] → Given Hands P
given_nothing_as Hands P holds hands = ([], hands, holds)

-- a file has one content
not-both : (P : Type 0) (files : List NamedFile) (name : List ℕ) (lines : List Line) (line : ℕ)
    → HoldsCommands files name lines → RefusesLine files name line → P
not-both P files name lines line h r =
    let same : h.commands ≡ r.commands =
    one_content name h.commands r.commands [] [] files (h.there ∙ sym (append-nil (one_file name h.commands)))
    (r.there ∙ sym (append-nil (one_file name r.commands))) in
    in-form P r.commands line (lines, sym (ap file_read same) ∙ h.read) r.refused

-- the file of a conversation that was held is of its form
held : (P : Type 0) (files : List NamedFile) (request : SendWords) (talk : Conversed) (old new : Output)
    (was now : Dialled) (line : ℕ) → ((file : List ℕ) → Speaks file talk old new was now → IsInForm file)
    → Sends files request talk old new was now → RefusesLine files request.commands line → P
held P files request talk old new was now line form s r =
    let f : IsInForm s.commands = form s.commands s.speaks in
    not-both P files request.commands f.0 line (record { commands = s.commands; there = s.there; read = f.1 }) r

module _ (request : SendWords) (Hands : List NamedFile → Type 0) (faults now_faults : Faults) (old new : Output)
    (was now : Dialled) where
  abbrev Because : CommandEnd → Type 0
  Because end = BecauseSend end request Hands faults now_faults old new was now

  taken_of : (end : CommandEnd) → Because end → Given Hands (IsTaken (status_of end) request)
  taken_of ends.Done h = given_as Hands _ (IsTaken 0 request) (λ files it lines holds. inl refl) h.4
  taken_of (ends.PeerClosed replies) h =
      given_as Hands _ (IsTaken 9 request) (λ files it lines holds. inr (inl refl)) h.4
  taken_of ends.OutOfMemory h =
      given_as Hands _ (IsTaken 1 request) (λ files it lines holds. inr (inr (inl refl))) h.3
  taken_of (ends.CannotStore name) h = absurd h
  taken_of (ends.CannotRead name) h =
      given_nothing_as Hands (IsTaken 4 request) (λ lines holds. inr (inr (inr (inl refl)))) h.4
  taken_of ends.CannotWrite h =
      given_as Hands _ (IsTaken 5 request) (λ files it lines holds. inr (inr (inr (inr (inl refl))))) h.4
  taken_of ends.NetworkFault h =
      given_as Hands _ (IsTaken 7 request) (λ files it lines holds. inr (inr (inr (inr (inr refl))))) h.4
  taken_of (ends.LineRefused line) h =
      given_as Hands (λ files. RefusesLine files request.commands line) (IsTaken 6 request)
      (λ files r. λ lines holds. not-both _ files request.commands lines line holds r) h.3
  taken_of ends.Usage h = absurd h
  taken_of ends.ThrewUnshown h = absurd h
  taken_of ends.TicketsSpent h = absurd h
  taken_of (ends.Refused name r) h = absurd h
  taken_of (ends.Threw text) h = absurd h

  left_of : (end : CommandEnd) → Because end → Given Hands (IsLeft (status_of end) request)
  left_of ends.Done h =
      given_as Hands (λ files. Sends files request talks.Done old new was now) (IsLeft 0 request)
      (λ files s. λ line r. held _ files request talks.Done old new was now line
      (λ file t. (t.converses.0, t.converses.1)) s r)
      h.4
  left_of (ends.PeerClosed replies) h =
      given_as Hands (λ files. Sends files request (talks.PeerClosed replies) old new was now) (IsLeft 9 request)
      (λ files s. λ line r. held _ files request (talks.PeerClosed replies) old new was now line
      (λ file t. (t.converses.0, t.converses.1)) s r)
      h.4
  left_of ends.CannotWrite h =
      given_as Hands (λ files. Sends files request talks.WriteFault old new was now) (IsLeft 5 request)
      (λ files s. λ line r. held _ files request talks.WriteFault old new was now line
      (λ file t. (t.converses.0, t.converses.1)) s r)
      h.4
  left_of ends.OutOfMemory h = given_as Hands _ (IsLeft 1 request) (λ files it line r. inr (inl refl)) h.3
  left_of (ends.LineRefused line) h = given_as Hands _ (IsLeft 6 request) (λ files it other r. inl refl) h.3
  left_of (ends.CannotStore name) h = absurd h
  left_of (ends.CannotRead name) h = given_nothing_as Hands (IsLeft 4 request) (λ line r. inr (inr refl)) h.4
  left_of ends.NetworkFault h =
      given_as Hands (λ files. (lines : List Line) × HoldsCommands files request.commands lines) (IsLeft 7 request)
      (λ files held. λ line r. not-both _ files request.commands held.0 line held.1 r) h.4
  left_of ends.Usage h = absurd h
  left_of ends.ThrewUnshown h = absurd h
  left_of ends.TicketsSpent h = absurd h
  left_of (ends.Refused name r) h = absurd h
  left_of (ends.Threw text) h = absurd h

  closed-told : (end : CommandEnd) (explains : Bool) (before after : List ℕ) → status_of end ≡ 9 → Because end
      → Says explains before after (said end) → Given Hands (IsToldClose old new was now explains before after request)
  closed-told (ends.PeerClosed replies) explains before after is h says =
      given_as Hands (λ files. Sends files request (talks.PeerClosed replies) old new was now)
      (IsToldClose old new was now explains before after request) (λ files s. (replies, s, says)) h.4
  closed-told ends.Done explains before after is h says = absurd cc
  closed-told ends.OutOfMemory explains before after is h says = absurd cc
  closed-told (ends.CannotStore name) explains before after is h says = absurd h
  closed-told (ends.CannotRead name) explains before after is h says = absurd cc
  closed-told (ends.LineRefused line) explains before after is h says = absurd cc
  closed-told ends.CannotWrite explains before after is h says = absurd cc
  closed-told ends.NetworkFault explains before after is h says = absurd cc
  closed-told ends.Usage explains before after is h says = absurd h
  closed-told ends.ThrewUnshown explains before after is h says = absurd h
  closed-told ends.TicketsSpent explains before after is h says = absurd h
  closed-told (ends.Refused name r) explains before after is h says = absurd h
  closed-told (ends.Threw text) explains before after is h says = absurd h

  line-told : (end : CommandEnd) (explains : Bool) (before after : List ℕ) → status_of end ≡ 6 → Because end
      → Says explains before after (said end) → Given Hands (IsToldLine explains before after request)
  line-told (ends.LineRefused line) explains before after is h says =
      given_as Hands (λ files. RefusesLine files request.commands line) (IsToldLine explains before after request)
      (λ files r. (line, r, says)) h.3
  line-told ends.Done explains before after is h says = absurd cc
  line-told ends.OutOfMemory explains before after is h says = absurd cc
  line-told (ends.CannotStore name) explains before after is h says = absurd h
  line-told (ends.CannotRead name) explains before after is h says = absurd cc
  line-told (ends.PeerClosed replies) explains before after is h says = absurd cc
  line-told ends.CannotWrite explains before after is h says = absurd cc
  line-told ends.NetworkFault explains before after is h says = absurd cc
  line-told ends.Usage explains before after is h says = absurd h
  line-told ends.ThrewUnshown explains before after is h says = absurd h
  line-told ends.TicketsSpent explains before after is h says = absurd h
  line-told (ends.Refused name r) explains before after is h says = absurd h
  line-told (ends.Threw text) explains before after is h says = absurd h

  read-told : (end : CommandEnd) (explains : Bool) (before after : List ℕ) → status_of end ≡ 4 → Because end
      → Says explains before after (said end) → IsToldRead faults now_faults explains before after request
  read-told (ends.CannotStore name) explains before after is h says = absurd h
  read-told (ends.CannotRead name) explains before after is h says =
      subst
      (λ (file : List ℕ). Blames (Read file) faults now_faults × Says explains before after (unread_said file))
      (sym h.3) (h.0, says)
  read-told ends.Done explains before after is h says = absurd cc
  read-told ends.OutOfMemory explains before after is h says = absurd cc
  read-told (ends.LineRefused line) explains before after is h says = absurd cc
  read-told (ends.PeerClosed replies) explains before after is h says = absurd cc
  read-told ends.CannotWrite explains before after is h says = absurd cc
  read-told ends.NetworkFault explains before after is h says = absurd cc
  read-told ends.Usage explains before after is h says = absurd h
  read-told ends.ThrewUnshown explains before after is h says = absurd h
  read-told ends.TicketsSpent explains before after is h says = absurd h
  read-told (ends.Refused name r) explains before after is h says = absurd h
  read-told (ends.Threw text) explains before after is h says = absurd h

  dialled-told : (end : CommandEnd) → IsPast (status_of end) → Because end → IsDialled request.port was now
  dialled-told ends.Done past h = h.3
  dialled-told (ends.PeerClosed replies) past h = h.3
  dialled-told ends.CannotWrite past h = h.3
  dialled-told ends.NetworkFault past h = h.3
  dialled-told ends.OutOfMemory past h = not-past-1 _ past
  dialled-told (ends.CannotStore name) past h = absurd h
  dialled-told (ends.CannotRead name) past h = not-past-4 _ past
  dialled-told (ends.LineRefused line) past h = not-past-6 _ past
  dialled-told (ends.Threw text) past h = absurd h
  dialled-told ends.ThrewUnshown past h = absurd h
  dialled-told ends.Usage past h = absurd h
  dialled-told (ends.Refused name r) past h = absurd h
  dialled-told ends.TicketsSpent past h = absurd h

  module _ (o : Option Request) (end : CommandEnd) (status : ℕ) (is : o ≡ Some (Send request))
      (ends_so : status ≡ status_of end) (h : Because end) where
    pub taken_given : GivenSend o Hands (IsTaken status)
    taken_given =
        given_send o request Hands (IsTaken status) is
        (subst (λ (n : ℕ). Given Hands (IsTaken n request)) (sym ends_so) (taken_of end h))

    pub left_given : GivenSend o Hands (IsLeft status)
    left_given =
        given_send o request Hands (IsLeft status) is
        (subst (λ (n : ℕ). Given Hands (IsLeft n request)) (sym ends_so) (left_of end h))

    pub closed_given : (explains : Bool) (before after : List ℕ) → Says explains before after (said end) → status ≡ 9
        → GivenSend o Hands (IsToldClose old new was now explains before after)
    closed_given explains before after says nine =
        given_send o request Hands (IsToldClose old new was now explains before after) is
        (closed-told end explains before after (sym ends_so ∙ nine) h says)

    pub line_given : (explains : Bool) (before after : List ℕ) → Says explains before after (said end) → status ≡ 6
        → GivenSend o Hands (IsToldLine explains before after)
    line_given explains before after says six =
        given_send o request Hands (IsToldLine explains before after) is
        (line-told end explains before after (sym ends_so ∙ six) h says)

    pub read_given : (explains : Bool) (before after : List ℕ) → Says explains before after (said end) → status ≡ 4
        → ForSend o (IsToldRead faults now_faults explains before after)
    read_given explains before after says four =
        let it : IsToldRead faults now_faults explains before after request =
        read-told end explains before after (sym ends_so ∙ four) h says in rw is it

    pub done_given : status ≡ 0 → GivenSend o Hands (λ r files. Sends files r talks.Done old new was now)
    done_given done =
        let it : Because ends.Done = subst Because (done_only end (sym ends_so ∙ done)) h in
        given_send o request Hands (λ r files. Sends files r talks.Done old new was now) is it.4

    pub short_given : status ≡ 5 → GivenSend o Hands (λ r files. Sends files r talks.WriteFault old new was now)
    short_given five =
        let it : Because ends.CannotWrite = subst Because (cut_only end (sym ends_so ∙ five)) h in
        given_send o request Hands (λ r files. Sends files r talks.WriteFault old new was now) is it.4

    pub dialled_given : IsPast status → ForSend o (λ r. now.dials ≡ called r.port was.dials)
    dialled_given past =
        let it : now.dials ≡ called request.port was.dials = dialled-told end (subst IsPast ends_so past) h in rw is it

-- where no memory was left for the words nothing was sent, whatever they ask for
pub unasked : (o : Option Request) (Hands : List NamedFile → Type 0) (old : Output) (was : Dialled) (status : ℕ)
    → Hands [] → status ≡ 1
    → GivenSend o Hands (λ r files. (it : CommandEnd) × (status ≡ status_of it) × MaySend files r old old was was it)
unasked (Some (Send request)) Hands old was status none one = ([], none, (ends.OutOfMemory, one, inl (tt, refl, refl)))
unasked None Hands old was status none one = tt
unasked (Some (Run sources)) Hands old was status none one = tt
unasked (Some (Replay words)) Hands old was status none one = tt
unasked (Some (Serve words)) Hands old was status none one = tt
unasked (Some (Drill n)) Hands old was status none one = tt
unasked (Some (Help topic)) Hands old was status none one = tt
unasked (Some Version) Hands old was status none one = tt

-- and no text was written
pub untold : (o : Option Request) (content : List ℕ) → ForText o (λ text. GainsPrefix content content text)
untold (Some (Help topic)) content = GainsPrefix-refl content _
untold (Some Version) content = GainsPrefix-refl content _
untold None content = tt
untold (Some (Run sources)) content = tt
untold (Some (Replay words)) content = tt
untold (Some (Serve words)) content = tt
untold (Some (Send words)) content = tt
untold (Some (Drill n)) content = tt
