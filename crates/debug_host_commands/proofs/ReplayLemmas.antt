-- What each end of a replay says of the files, and of what was written.
use Rattle.std.proofs.Common.{◌≡◌, ◌⊎◌, ℕ, List, [], ◌++◌, Bool, Option, Some, None, refl, sym, subst, ◌∙◌, inl, inr}
use Rattle.cdp_edge.specs.Outside.{NamedFile, Given, HandsIn, Rose, one_file}
use Rattle.cdp_edge.specs.Blame.{Faults, Blames, Read}
use Rattle.cdp_edge.proofs.Gains.{gains-nil, GainsPrefix-refl}
use Rattle.cdp_edge.proofs.HandedLemmas.{given_as, given_more}
use Rattle.js_tree.specs.declared.script.Script.{Script}
use Rattle.debug_host_script_files.specs.declared.fault.TextFault.{TextFault}
use Rattle.debug_host_commands.specs.Files.{HoldsReplay, HoldsSources, IsNamedBy, IsReachedBy, IsRefusedBehind}
use Rattle.debug_host_commands.specs.Replays.{WritesLess, WritesPart, WritesReplay}
use Rattle.debug_host_commands.specs.ReplayCauses.{ReplaysWhole, ReplaysInPart, ReplaysShort, BecauseReplay, outcome_of_replay}
use Rattle.debug_host_commands.specs.ReadCauses.{BecauseUnread}
use Rattle.debug_host_commands.specs.RunCauses.{BecauseSources}
use Rattle.debug_host_commands.specs.Status.{ForReplay, GivenReplay, line_said, refusal_said, said, status_of, unread_said, Says}
use Rattle.debug_host_options.specs.Requests.{Request, Replay, ReplayWords}
use Rattle.debug_host_commands.specs.declared.outcome.CommandEnd.{CommandEnd}
use Rattle.debug_host_commands.specs.declared.outcome.CommandEnd.TheVariants as ends
use Rattle.debug_host_commands.specs.declared.journal.ReplayEnd.{ReplayEnd}
use Rattle.debug_host_commands.specs.declared.journal.ReplayEnd.TheVariants as plays
use Rattle.debug_host_commands.proofs.RunLemmas.{one_rest, run_stands, some_handed}
use Rattle.debug_host_commands.proofs.EndLemmas.{cut_only, done_only, line_only, refused_only}

pub ruleset untouched = (gains-nil, GainsPrefix-refl)

-- ---- causes

-- the journal alone was handed in
abbrev HasJournal : Option (List NamedFile) → List NamedFile → List NamedFile → ReplayWords → List ℕ → Type 0
HasJournal told old mid request journal = HandsIn told old mid (one_file request.journal journal)

-- and then what its program's files are
behind_journal : (told later : Option (List NamedFile)) (old mid new : List NamedFile) (request : ReplayWords)
    (journal : List ℕ) (P Q : List NamedFile → Type 0)
    → later ≡ told
    → HasJournal told old mid request journal
    → ((files : List NamedFile) → P files → Q (one_file request.journal journal ++ files))
    → Given (HandsIn later mid new) P
    → Given (HandsIn told old new) Q
behind_journal told later old mid new request journal P Q same there so h =
    given_more told later old mid new (λ files. files ≡ one_file request.journal journal) P Q same
    (λ xs ys is p. subst (λ (fs : List NamedFile). Q (fs ++ ys)) (sym is) (so ys p))
    (one_file request.journal journal, there, refl) h

-- why a replay ended so whose program wasn't taken
pub unread : (end : CommandEnd) (request : ReplayWords) (told later : Option (List NamedFile))
    (first then last : List NamedFile) (before mid after : Faults) (was : ℕ) (old : List ℕ) (journal : List ℕ)
    → HasJournal told first then request journal
    → later ≡ told
    → mid ≡ before
    → BecauseSources end request.sources (HandsIn later then last) mid after
    → BecauseReplay end request (HandsIn told first last) before after was was old old
unread ends.Done request told later first then last before mid after was old journal there same quiet h = absurd h
unread (ends.Threw text) request told later first then last before mid after was old journal there same quiet h = absurd h
unread ends.OutOfMemory request told later first then last before mid after was old journal there same quiet h = (
  h.0 ∙ quiet,
  refl,
  behind_journal told later first then last request journal _ (λ files. (old ≡ old) ⊎ ReplaysInPart files request old old)
      same there (λ files it. inl refl) h.1,
)
unread ends.Usage request told later first then last before mid after was old journal there same quiet h = absurd h
unread ends.NetworkFault request told later first then last before mid after was old journal there same quiet h = absurd h
unread ends.ThrewUnshown request told later first then last before mid after was old journal there same quiet h = absurd h
unread ends.TicketsSpent request told later first then last before mid after was old journal there same quiet h = absurd h
unread (ends.PeerClosed replies) request told later first then last before mid after was old journal there same quiet h = absurd h
unread (ends.Refused name r) request told later first then last before mid after was old journal there same quiet h = (
  h.0 ∙ quiet,
  refl,
  behind_journal told later first then last request journal _ (λ files. IsRefusedBehind files request name.now r)
      same there (λ files i. record { journal = journal; rest = files; parts = refl; refused = i }) h.1,
)
unread (ends.CannotStore name) request told later first then last before mid after was old journal there same quiet h = absurd h
unread (ends.CannotRead name) request told later first then last before mid after was old journal there same quiet h = (
  subst (λ (f : Faults). Blames (Read name.now) f after) quiet h.0,
  refl,
  inr h.1,
  behind_journal told later first then last request journal _ (λ files. IsReachedBy files request name.now)
      same there (λ files i. inr (record { journal = journal; rest = files; parts = refl; reached = i })) h.2,
)
unread ends.CannotWrite request told later first then last before mid after was old journal there same quiet h = absurd h
unread (ends.LineRefused n) request told later first then last before mid after was old journal there same quiet h = absurd h

-- why a replay ended so whose journal wasn't read
pub no_journal : (end : CommandEnd) (request : ReplayWords) (Hands : List NamedFile → Type 0) (before after : Faults)
    (was : ℕ) (old : List ℕ)
    → BecauseUnread end request.journal Hands before after
    → BecauseReplay end request Hands before after was was old old
no_journal ends.Done request Hands before after was old h = absurd h
no_journal (ends.Threw text) request Hands before after was old h = absurd h
no_journal ends.OutOfMemory request Hands before after was old h = (h.0, refl, ([], h.1, inl refl))
no_journal ends.Usage request Hands before after was old h = absurd h
no_journal ends.NetworkFault request Hands before after was old h = absurd h
no_journal ends.ThrewUnshown request Hands before after was old h = absurd h
no_journal ends.TicketsSpent request Hands before after was old h = absurd h
no_journal (ends.PeerClosed replies) request Hands before after was old h = absurd h
no_journal (ends.Refused name r) request Hands before after was old h = absurd h
no_journal (ends.CannotStore name) request Hands before after was old h = absurd h
no_journal (ends.CannotRead name) request Hands before after was old h =
    (h.0, refl, inl h.1, ([], h.2, inl (h.1, refl)))
no_journal ends.CannotWrite request Hands before after was old h = absurd h
no_journal (ends.LineRefused n) request Hands before after was old h = absurd h

-- what is handed in of a journal that wasn't read
pub no_journal_part : (end : CommandEnd) (request : ReplayWords) (Hands : List NamedFile → Type 0) (before after : Faults)
    (old : List ℕ)
    → BecauseUnread end request.journal Hands before after
    → Given Hands (λ files. (old ≡ old) ⊎ ReplaysInPart files request old old)
no_journal_part ends.Done request Hands before after old h = absurd h
no_journal_part (ends.Threw text) request Hands before after old h = absurd h
no_journal_part ends.OutOfMemory request Hands before after old h = ([], h.1, inl refl)
no_journal_part ends.Usage request Hands before after old h = absurd h
no_journal_part ends.NetworkFault request Hands before after old h = absurd h
no_journal_part ends.ThrewUnshown request Hands before after old h = absurd h
no_journal_part ends.TicketsSpent request Hands before after old h = absurd h
no_journal_part (ends.PeerClosed replies) request Hands before after old h = absurd h
no_journal_part (ends.Refused name r) request Hands before after old h = absurd h
no_journal_part (ends.CannotStore name) request Hands before after old h = absurd h
no_journal_part (ends.CannotRead name) request Hands before after old h = ([], h.2, inl refl)
no_journal_part ends.CannotWrite request Hands before after old h = absurd h
no_journal_part (ends.LineRefused n) request Hands before after old h = absurd h

-- what is handed in of a program that wasn't taken
pub unread_part : (end : CommandEnd) (request : ReplayWords) (told later : Option (List NamedFile))
    (first then last : List NamedFile) (mid after : Faults) (old : List ℕ) (journal : List ℕ)
    → HasJournal told first then request journal
    → later ≡ told
    → BecauseSources end request.sources (HandsIn later then last) mid after
    → Given (HandsIn told first last) (λ files. (old ≡ old) ⊎ ReplaysInPart files request old old)
unread_part end request told later first then last mid after old journal there same h =
    behind_journal told later first then last request journal (λ files. Unit {0})
    (λ files. (old ≡ old) ⊎ ReplaysInPart files request old old) same there (λ files it. inl refl)
    (some_handed end request.sources (HandsIn later then last) mid after h)

-- what is known of the journal's replay
pub record HasReplayed (e : ReplayEnd) (scripts : List Script) (input : List (List ℕ)) (wait : Bool) (journal : List ℕ)
    (was now : ℕ) (old new : List ℕ) : Type 0 where
  pub done : e ≡ plays.Done → WritesReplay scripts input wait journal None old new
  pub refused : (line : ℕ) → e ≡ plays.Refused line → WritesReplay scripts input wait journal (Some line) old new
  pub part : WritesPart scripts input wait journal old new
  pub less : e ≡ plays.WriteFault → WritesLess scripts input wait journal old new
  pub quiet : (e ≡ plays.WriteFault) ⊎ (now ≡ was)
  pub failed : e ≡ plays.WriteFault → Rose was now

-- the files that were handed in hold the replay
abbrev HasHeld : (List NamedFile → Type 0) → ReplayWords → List ℕ → List Script → List (List ℕ) → Type 0
HasHeld Hands request journal scripts input = Given Hands (λ files. HoldsReplay files request journal scripts input)

pub held : (told later : Option (List NamedFile)) (first then last : List NamedFile) (request : ReplayWords)
    (journal : List ℕ) (scripts : List Script) (input : List (List ℕ))
    → HasJournal told first then request journal
    → later ≡ told
    → Given (HandsIn later then last) (λ files. HoldsSources files request.sources scripts input)
    → HasHeld (HandsIn told first last) request journal scripts input
held told later first then last request journal scripts input there same sources =
    behind_journal told later first then last request journal _ (λ files. HoldsReplay files request journal scripts input)
    same there (λ files s. record { rest = files; parts = refl; sources = s }) sources

in_part : (files : List NamedFile) (request : ReplayWords) (journal : List ℕ) (scripts : List Script) (input : List (List ℕ))
    (old new : List ℕ)
    → HoldsReplay files request journal scripts input
    → WritesPart scripts input request.wait journal old new
    → ReplaysInPart files request old new
in_part files request journal scripts input old new holds part =
    record { journal = journal; scripts = scripts; input = input; holds = holds; writes = part }

quiet_by : (e : ReplayEnd) (was now : ℕ) → ¬ (e ≡ plays.WriteFault) → (e ≡ plays.WriteFault) ⊎ (now ≡ was) → now ≡ was
quiet_by e was now other (inl is) = absurd (other is)
quiet_by e was now other (inr is) = is

-- why a replay ended so whose lines were played
pub because : (e : ReplayEnd) (request : ReplayWords) (Hands : List NamedFile → Type 0) (before after : Faults) (was now : ℕ)
    (old new : List ℕ) (journal : List ℕ) (scripts : List Script) (input : List (List ℕ))
    → HasHeld Hands request journal scripts input
    → after ≡ before
    → HasReplayed e scripts input request.wait journal was now old new
    → BecauseReplay (outcome_of_replay e) request Hands before after was now old new
because plays.Done request Hands before after was now old new journal scripts input holds same h = (
  same,
  quiet_by plays.Done was now (λ is. cc) h.quiet,
  given_as Hands (λ files. HoldsReplay files request journal scripts input)
      (λ files. ReplaysWhole files request None old new)
      (λ files i. record { journal = journal; scripts = scripts; input = input; holds = i; writes = h.done refl })
      holds,
)
because (plays.Refused number) request Hands before after was now old new journal scripts input holds same h = (
  same,
  quiet_by (plays.Refused number) was now (λ is. cc) h.quiet,
  given_as Hands (λ files. HoldsReplay files request journal scripts input)
      (λ files. ReplaysWhole files request (Some number) old new)
      (λ files i. record {
        journal = journal;
        scripts = scripts;
        input = input;
        holds = i;
        writes = h.refused number refl;
      })
      holds,
)
because plays.WriteFault request Hands before after was now old new journal scripts input holds same h = (
  same,
  h.failed refl,
  given_as Hands (λ files. HoldsReplay files request journal scripts input) (λ files. ReplaysShort files request old new)
      (λ files i. record { journal = journal; scripts = scripts; input = input; holds = i; writes = h.less refl })
      holds,
)
because plays.Memory request Hands before after was now old new journal scripts input holds same h = (
  same,
  quiet_by plays.Memory was now (λ is. cc) h.quiet,
  given_as Hands (λ files. HoldsReplay files request journal scripts input)
      (λ files. (new ≡ old) ⊎ ReplaysInPart files request old new)
      (λ files i. inr (in_part files request journal scripts input old new i h.part)) holds,
)

pub in-part : (Hands : List NamedFile → Type 0) (request : ReplayWords) (old new : List ℕ) (journal : List ℕ)
    (scripts : List Script) (input : List (List ℕ))
    → HasHeld Hands request journal scripts input
    → WritesPart scripts input request.wait journal old new
    → Given Hands (λ files. (new ≡ old) ⊎ ReplaysInPart files request old new)
in-part Hands request old new journal scripts input holds part =
    given_as Hands (λ files. HoldsReplay files request journal scripts input)
    (λ files. (new ≡ old) ⊎ ReplaysInPart files request old new)
    (λ files i. inr (in_part files request journal scripts input old new i part)) holds

-- the same, as the calls before the lines' replay tell of their shelves and bytes
pub played : (e : ReplayEnd) (request : ReplayWords) (told later : Option (List NamedFile))
    (first then last : List NamedFile) (before mid after : Faults)
    (was now : ℕ) (old new : List ℕ) (bytes journal : List ℕ) (scripts lent : List Script)
    (input : List (List ℕ))
    → HasJournal told first then request bytes
    → mid ≡ before
    → later ≡ told
    → Given (HandsIn later then last) (λ files. HoldsSources files request.sources scripts input)
    → after ≡ mid
    → journal ≡ bytes
    → lent ≡ scripts
    → HasReplayed e lent input request.wait journal was now old new
    → BecauseReplay (outcome_of_replay e) request (HandsIn told first last) before after was now old new
played e request told later first then last before mid after was now old new bytes journal scripts lent input there quiet
    same sources still is are h =
    because e request (HandsIn told first last) before after was now old new bytes scripts input
    (held told later first then last request bytes scripts input there same sources) (still ∙ quiet)
    (subst (λ (j : List ℕ). HasReplayed e scripts input request.wait j was now old new) is
    (subst (λ (ss : List Script). HasReplayed e ss input request.wait journal was now old new) are h))

pub played-part : (request : ReplayWords) (told later : Option (List NamedFile)) (first then last : List NamedFile)
    (old new : List ℕ) (bytes journal : List ℕ) (scripts lent : List Script) (input : List (List ℕ))
    → HasJournal told first then request bytes
    → later ≡ told
    → Given (HandsIn later then last) (λ files. HoldsSources files request.sources scripts input)
    → journal ≡ bytes
    → lent ≡ scripts
    → WritesPart lent input request.wait journal old new
    → Given (HandsIn told first last) (λ files. (new ≡ old) ⊎ ReplaysInPart files request old new)
played-part request told later first then last old new bytes journal scripts lent input there same sources is are part =
    in-part (HandsIn told first last) request old new bytes scripts input
    (held told later first then last request bytes scripts input there same sources)
    (subst (λ (j : List ℕ). WritesPart scripts input request.wait j old new) is
    (subst (λ (ss : List Script). WritesPart ss input request.wait journal old new) are part))

-- ---- the status that the files decide

replay_stands : (files : List NamedFile) (request : ReplayWords) (journal : List ℕ) (scripts : List Script)
    (input : List (List ℕ)) (name : List ℕ) (r : TextFault)
    → HoldsReplay files request journal scripts input
    → IsRefusedBehind files request name r → ⊥
replay_stands files request journal scripts input name r h i =
    let same : h.rest ≡ i.rest = one_rest request.journal journal i.journal h.rest i.rest files h.parts i.parts in
    run_stands i.rest request.sources scripts input name r
    (subst (λ (fs : List NamedFile). HoldsSources fs request.sources scripts input) same h.sources) i.refused

-- one of these, where the files hold journal, scripts and input
abbrev IsTaken : ℕ → ReplayWords → List NamedFile → Type 0
IsTaken n request files =
    (journal : List ℕ) (scripts : List Script) (input : List (List ℕ))
    → HoldsReplay files request journal scripts input
    → (n ≡ 0) ⊎ (n ≡ 6) ⊎ (n ≡ 1) ⊎ (n ≡ 4) ⊎ (n ≡ 5)

taken_of : (end : CommandEnd) (request : ReplayWords) (Hands : List NamedFile → Type 0) (before after : Faults) (was now : ℕ)
    (old new : List ℕ)
    → BecauseReplay end request Hands before after was now old new
    → Given Hands (IsTaken (status_of end) request)
taken_of ends.Done request Hands before after was now old new h =
    given_as Hands _ (IsTaken 0 request) (λ files it journal scripts input holds. inl refl) h.2
taken_of (ends.LineRefused n) request Hands before after was now old new h =
    given_as Hands _ (IsTaken 6 request) (λ files it journal scripts input holds. inr (inl refl)) h.2
taken_of ends.OutOfMemory request Hands before after was now old new h =
    given_as Hands _ (IsTaken 1 request) (λ files it journal scripts input holds. inr (inr (inl refl))) h.2
taken_of (ends.Refused name r) request Hands before after was now old new h =
    given_as Hands (λ files. IsRefusedBehind files request name.now r) (IsTaken 3 request)
    (λ files i. λ journal scripts input holds. absurd
    (replay_stands files request journal scripts input name.now r holds i))
    h.2
taken_of (ends.CannotStore name) request Hands before after was now old new h = absurd h
taken_of (ends.CannotRead name) request Hands before after was now old new h =
    given_as Hands _ (IsTaken 4 request) (λ files it journal scripts input holds. inr (inr (inr (inl refl)))) h.3
taken_of ends.CannotWrite request Hands before after was now old new h =
    given_as Hands _ (IsTaken 5 request) (λ files it journal scripts input holds. inr (inr (inr (inr refl)))) h.2
taken_of ends.Usage request Hands before after was now old new h = absurd h
taken_of ends.NetworkFault request Hands before after was now old new h = absurd h
taken_of ends.ThrewUnshown request Hands before after was now old new h = absurd h
taken_of ends.TicketsSpent request Hands before after was now old new h = absurd h
taken_of (ends.PeerClosed replies) request Hands before after was now old new h = absurd h
taken_of (ends.Threw text) request Hands before after was now old new h = absurd h

-- one of these, where a file is refused
abbrev IsLeft : ℕ → ReplayWords → List NamedFile → Type 0
IsLeft n request files =
    (name : List ℕ) (refusal : TextFault) → IsRefusedBehind files request name refusal → (n ≡ 3) ⊎ (n ≡ 1) ⊎ (n ≡ 4)

not_left : (request : ReplayWords) (n : ℕ) (journal : List ℕ) (scripts : List Script) (input : List (List ℕ))
    (files : List NamedFile)
    → HoldsReplay files request journal scripts input → IsLeft n request files
not_left request n journal scripts input files holds name r refused =
    absurd (replay_stands files request journal scripts input name r holds refused)

left_of : (end : CommandEnd) (request : ReplayWords) (Hands : List NamedFile → Type 0) (before after : Faults) (was now : ℕ)
    (old new : List ℕ)
    → BecauseReplay end request Hands before after was now old new
    → Given Hands (IsLeft (status_of end) request)
left_of ends.Done request Hands before after was now old new h =
    given_as Hands (λ files. ReplaysWhole files request None old new) (IsLeft 0 request)
    (λ files i. not_left request 0 i.journal i.scripts i.input files i.holds) h.2
left_of (ends.LineRefused n) request Hands before after was now old new h =
    given_as Hands (λ files. ReplaysWhole files request (Some n) old new) (IsLeft 6 request)
    (λ files i. not_left request 6 i.journal i.scripts i.input files i.holds) h.2
left_of ends.OutOfMemory request Hands before after was now old new h =
    given_as Hands _ (IsLeft 1 request) (λ files it name r refused. inr (inl refl)) h.2
left_of (ends.Refused name r) request Hands before after was now old new h =
    given_as Hands _ (IsLeft 3 request) (λ files it name q refused. inl refl) h.2
left_of (ends.CannotStore name) request Hands before after was now old new h = absurd h
left_of (ends.CannotRead name) request Hands before after was now old new h =
    given_as Hands _ (IsLeft 4 request) (λ files it name r refused. inr (inr refl)) h.3
left_of ends.CannotWrite request Hands before after was now old new h =
    given_as Hands (λ files. ReplaysShort files request old new) (IsLeft 5 request)
    (λ files i. not_left request 5 i.journal i.scripts i.input files i.holds) h.2
left_of ends.Usage request Hands before after was now old new h = absurd h
left_of ends.NetworkFault request Hands before after was now old new h = absurd h
left_of ends.ThrewUnshown request Hands before after was now old new h = absurd h
left_of ends.TicketsSpent request Hands before after was now old new h = absurd h
left_of (ends.PeerClosed replies) request Hands before after was now old new h = absurd h
left_of (ends.Threw text) request Hands before after was now old new h = absurd h

-- of the words that ask for the replay
given_replay : (o : Option Request) (request : ReplayWords) (Hands : List NamedFile → Type 0) (P : ReplayWords → List NamedFile → Type 0)
    → o ≡ Some (Replay request)
    → Given Hands (P request)
    → GivenReplay o Hands P
given_replay o request Hands P is h = rw is h

pub taken_given : (o : Option Request) (request : ReplayWords) (Hands : List NamedFile → Type 0) (end : CommandEnd)
    (before after : Faults) (was now : ℕ) (old new : List ℕ) (status : ℕ)
    → o ≡ Some (Replay request)
    → status ≡ status_of end
    → BecauseReplay end request Hands before after was now old new
    → GivenReplay o Hands (IsTaken status)
taken_given o request Hands end before after was now old new status is e h =
    given_replay o request Hands (IsTaken status) is
    (subst (λ (n : ℕ). Given Hands (IsTaken n request)) (sym e)
    (taken_of end request Hands before after was now old new h))

pub left_given : (o : Option Request) (request : ReplayWords) (Hands : List NamedFile → Type 0) (end : CommandEnd)
    (before after : Faults) (was now : ℕ) (old new : List ℕ) (status : ℕ)
    → o ≡ Some (Replay request)
    → status ≡ status_of end
    → BecauseReplay end request Hands before after was now old new
    → GivenReplay o Hands (IsLeft status)
left_given o request Hands end before after was now old new status is e h =
    given_replay o request Hands (IsLeft status) is
    (subst (λ (n : ℕ). Given Hands (IsLeft n request)) (sym e)
    (left_of end request Hands before after was now old new h))

-- how a file that can't be read is told
abbrev IsToldRead : Faults → Faults → (List NamedFile → Type 0) → Bool → List ℕ → List ℕ → ReplayWords → Type 0
IsToldRead before after Hands explains said_before said_after request =
    (name : List ℕ)
    × IsNamedBy request name
    × Blames (Read name) before after
    × Given Hands (λ files. IsReachedBy files request name)
    × Says explains said_before said_after (unread_said name)

read-told : (end : CommandEnd) (request : ReplayWords) (Hands : List NamedFile → Type 0) (before after : Faults) (was now : ℕ)
    (old new : List ℕ) (explains : Bool) (said_before said_after : List ℕ) → status_of end ≡ 4
    → BecauseReplay end request Hands before after was now old new → Says explains said_before said_after (said end)
    → IsToldRead before after Hands explains said_before said_after request
read-told (ends.CannotStore name) request Hands before after was now old new explains said_before said_after is h says = absurd h
read-told (ends.CannotRead name) request Hands before after was now old new explains said_before said_after is h says =
    (name.now, h.2, h.0, h.3, says)
read-told ends.Done request Hands before after was now old new explains said_before said_after is h says = absurd cc
read-told (ends.LineRefused n) request Hands before after was now old new explains said_before said_after is h says = absurd cc
read-told ends.OutOfMemory request Hands before after was now old new explains said_before said_after is h says = absurd cc
read-told (ends.Refused name r) request Hands before after was now old new explains said_before said_after is h says = absurd cc
read-told ends.CannotWrite request Hands before after was now old new explains said_before said_after is h says = absurd cc
read-told (ends.Threw text) request Hands before after was now old new explains said_before said_after is h says = absurd h
read-told ends.ThrewUnshown request Hands before after was now old new explains said_before said_after is h says = absurd h
read-told ends.Usage request Hands before after was now old new explains said_before said_after is h says = absurd h
read-told ends.NetworkFault request Hands before after was now old new explains said_before said_after is h says = absurd h
read-told ends.TicketsSpent request Hands before after was now old new explains said_before said_after is h says = absurd h
read-told (ends.PeerClosed replies) request Hands before after was now old new explains said_before said_after is h says = absurd h

pub read_given : (o : Option Request) (request : ReplayWords) (Hands : List NamedFile → Type 0) (end : CommandEnd)
    (before after : Faults) (was now : ℕ) (old new : List ℕ) (explains : Bool) (said_before said_after : List ℕ) (status : ℕ)
    → o ≡ Some (Replay request) → status ≡ status_of end
    → BecauseReplay end request Hands before after was now old new
    → Says explains said_before said_after (said end) → status ≡ 4
    → ForReplay o (IsToldRead before after Hands explains said_before said_after)
read_given o request Hands end before after was now old new explains said_before said_after status is ends_so h says four =
    let it : IsToldRead before after Hands explains said_before said_after request =
    read-told end request Hands before after was now old new explains said_before said_after (sym ends_so ∙ four) h says in rw is it

-- ---- what the status says

-- all lines were played
pub done_given : (o : Option Request) (request : ReplayWords) (Hands : List NamedFile → Type 0) (end : CommandEnd)
    (before after : Faults) (was now : ℕ) (old new : List ℕ) (status : ℕ)
    → o ≡ Some (Replay request)
    → status ≡ status_of end
    → BecauseReplay end request Hands before after was now old new
    → status ≡ 0
    → GivenReplay o Hands (λ words files. ReplaysWhole files words None old new)
done_given o request Hands end before after was now old new status is ends_so h found =
    let it : BecauseReplay ends.Done request Hands before after was now old new =
    subst (λ (e : CommandEnd). BecauseReplay e request Hands before after was now old new)
    (done_only end (sym ends_so ∙ found)) h in
    given_replay o request Hands (λ words files. ReplaysWhole files words None old new) is it.2

-- not all of the output could be written
pub short_given : (o : Option Request) (request : ReplayWords) (Hands : List NamedFile → Type 0) (end : CommandEnd)
    (before after : Faults) (was now : ℕ) (old new : List ℕ) (status : ℕ)
    → o ≡ Some (Replay request)
    → status ≡ status_of end
    → BecauseReplay end request Hands before after was now old new
    → status ≡ 5
    → GivenReplay o Hands (λ words files. ReplaysShort files words old new)
short_given o request Hands end before after was now old new status is ends_so h found =
    let it : BecauseReplay ends.CannotWrite request Hands before after was now old new =
    subst (λ (e : CommandEnd). BecauseReplay e request Hands before after was now old new)
    (cut_only end (sym ends_so ∙ found)) h in
    given_replay o request Hands (λ words files. ReplaysShort files words old new) is it.2

-- how a file that is refused is told
abbrev IsToldRefusal : Bool → List ℕ → List ℕ → ReplayWords → List NamedFile → Type 0
IsToldRefusal explains said_before said_after words files =
    (name : List ℕ)
    × (refusal : TextFault)
    × IsRefusedBehind files words name refusal
    × Says explains said_before said_after (refusal_said name refusal)

pub refusal_given : (o : Option Request) (request : ReplayWords) (Hands : List NamedFile → Type 0) (end : CommandEnd)
    (before after : Faults) (was now : ℕ) (old new : List ℕ) (explains : Bool) (said_before said_after : List ℕ)
    (status : ℕ)
    → o ≡ Some (Replay request)
    → status ≡ status_of end
    → BecauseReplay end request Hands before after was now old new
    → Says explains said_before said_after (said end)
    → status ≡ 3
    → GivenReplay o Hands (IsToldRefusal explains said_before said_after)
refusal_given o request Hands end before after was now old new explains said_before said_after status is ends_so h says
    three =
    let only = refused_only end (sym ends_so ∙ three) in
    let it : BecauseReplay (ends.Refused only.0 only.1) request Hands before after was now old new =
    subst (λ (e : CommandEnd). BecauseReplay e request Hands before after was now old new) only.2 h in
    let told : Says explains said_before said_after (refusal_said only.0.now only.1) =
    subst (λ (e : CommandEnd). Says explains said_before said_after (said e)) only.2 says in
    given_replay o request Hands (IsToldRefusal explains said_before said_after) is
    (given_as Hands (λ files. IsRefusedBehind files request only.0.now only.1)
    (IsToldRefusal explains said_before said_after request) (λ files refused. (only.0.now, only.1, refused, told)) it.2)

-- how a line that is refused is told
abbrev IsToldLine : List ℕ → List ℕ → Bool → List ℕ → List ℕ → ReplayWords → List NamedFile → Type 0
IsToldLine old new explains said_before said_after words files =
    (number : ℕ)
    × ReplaysWhole files words (Some number) old new
    × Says explains said_before said_after (line_said number)

pub line_given : (o : Option Request) (request : ReplayWords) (Hands : List NamedFile → Type 0) (end : CommandEnd)
    (before after : Faults) (was now : ℕ) (old new : List ℕ) (explains : Bool) (said_before said_after : List ℕ)
    (status : ℕ)
    → o ≡ Some (Replay request)
    → status ≡ status_of end
    → BecauseReplay end request Hands before after was now old new
    → Says explains said_before said_after (said end)
    → status ≡ 6
    → GivenReplay o Hands (IsToldLine old new explains said_before said_after)
line_given o request Hands end before after was now old new explains said_before said_after status is ends_so h says six =
    let only = line_only end (sym ends_so ∙ six) in
    let it : BecauseReplay (ends.LineRefused only.0) request Hands before after was now old new =
    subst (λ (e : CommandEnd). BecauseReplay e request Hands before after was now old new) only.1 h in
    let told : Says explains said_before said_after (line_said only.0) =
    subst (λ (e : CommandEnd). Says explains said_before said_after (said e)) only.1 says in
    given_replay o request Hands (IsToldLine old new explains said_before said_after) is
    (given_as Hands (λ files. ReplaysWhole files request (Some only.0) old new)
    (IsToldLine old new explains said_before said_after request) (λ files played. (only.0, played, told)) it.2)
