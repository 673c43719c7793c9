-- What becomes of a server's journal, and how the server ends then.
use Rattle.std.proofs.Common.{◌≡◌, ◌≢◌, ◌⊎◌, inl, inr, ℕ, List, Bool, true, false, ◌==◌, ◌||◌, if◌then◌else◌, Option, Some, None, refl, ap, sym, subst, ◌∙◌, string_bytes}
use Rattle.std.specs.Borrow.{Bor}
use Rattle.cdp_edge.specs.Blame.{Blames, Faults, Store}
use Rattle.cdp_edge.specs.Outside.{NamedFile, Rose, Given}
use Rattle.cdp_edge.proofs.HandedLemmas.{given_as}
use Rattle.cdp_edge_server.specs.Contents.{Tended}
use Rattle.cdp_host_isolation.specs.Histories.{Entry}
use Rattle.cdp_host_isolation.specs.Makers.{entries_of}
use Rattle.cdp_host_isolation.specs.Meanings.{begin}
use Rattle.history_lock.specs.Histories.{IsSpent}
use Rattle.cdp_host_turns.specs.Debuggings.{Debugging}
use Rattle.cdp_host_record.specs.Recordings.{Held, RecordsIf}
use Rattle.cdp_host_record.proofs.HeldLemmas.{held-cut, held-whole}
use Rattle.cdp_host.specs.Debugged.{debugging}
use Rattle.js_tree.specs.declared.script.Script.{Script}
use Rattle.ws_service.specs.Programs.{Output}
use Rattle.debug_host_options.specs.Requests.{Request, Serve, ServeWords}
use Rattle.debug_host_commands.specs.Files.{HoldsProgram, HoldsSources}
use Rattle.debug_host_commands.specs.RunCauses.{IsUnbegun, RunsToThrow}
use Rattle.debug_host_commands.specs.ServeCauses.{BecauseServe, BecauseServed, BecauseStored, Harbored, IsUnserved, Journals, MayServe, ServesPort, ServesToEnd, ServesWhole, clients_of}
use Rattle.debug_host_commands.specs.Status.{GivenServe, status_of}
use Rattle.debug_host_commands.specs.Stored.{ComesFirst, HasStored, OrJournal, Shelved, StoreFaults, StoresLines, after_storing, is_program_end, journal_asked, spent_if, unless_ended, with_stored}
use Rattle.debug_host_commands.specs.declared.outcome.CommandEnd.{CommandEnd}
use Rattle.debug_host_commands.specs.declared.outcome.CommandEnd.TheVariants as ends
use Rattle.debug_host_commands.specs.declared.storing.Storing.{Storing}
use Rattle.debug_host_commands.specs.declared.storing.Storing.TheVariants as storings
use Rattle.debug_host_commands.proofs.ServeLemmas.{given_serve, or_more, or_quiet, or_stored, program-held, read}

-- ---- what became of a journal

-- a record of a history whose lines were stored so
pub stores-history : (storing : Storing) (d : Debugging) (h : List (ℕ × Entry)) (name : Bor (List ℕ)) (held : Held)
    (old new : Shelved)
    → RecordsIf d h (Some held)
    → StoresLines storing name held old new
    → HasStored storing d h (Some name.now) old new
stores-history storings.Done d h name held old new records stores =
    stores.1
    ∙ ap (λ bytes. with_stored name.now bytes old)
    (held-whole d.protocol (begin d.program d.wait) (entries_of h) held.state held.bytes records stores.0)
stores-history storings.Memory d h name held old new records (inl same) = inl same
stores-history storings.Memory d h name held old new records (inr (lost, is)) =
    inr (
      held.bytes,
      is,
      held-cut d.protocol (begin d.program d.wait) (entries_of h) held.state held.bytes records lost,
    )
stores-history (storings.Failed named) d h name held old new records stores =
    (ap (λ (it : Bor (List ℕ)). it.now) stores.0, stores.1)
stores-history storings.Spent d h name held old new records stores = absurd stores

-- the faults of a shelf by what became of a journal
pub stored-told : (storing : Storing) (d : Debugging) (h : List (ℕ × Entry)) (journal : Option (List ℕ))
    (old new : Shelved)
    → HasStored storing d h journal old new → StoreFaults storing journal old.faults new.faults
stored-told storing d h None old new stored = (stored.0, ap (λ (s : Shelved). s.faults) stored.1)
stored-told storings.Done d h (Some name) old new stored = ap (λ (s : Shelved). s.faults) stored
stored-told storings.Memory d h (Some name) old new (inl same) = ap (λ (s : Shelved). s.faults) same
stored-told storings.Memory d h (Some name) old new (inr (bytes, is, cut)) = ap (λ (s : Shelved). s.faults) is
stored-told (storings.Failed named) d h (Some name) old new stored = (stored.0, stored.1.faults)
stored-told storings.Spent d h (Some name) old new stored = ap (λ (s : Shelved). s.faults) stored.0

done-told : (journal : Option (List ℕ)) (before after : Faults) → after ≡ before
    → StoreFaults storings.Done journal before after
done-told None before after same = (refl, same)
done-told (Some name) before after same = same

-- where nothing was to be stored, or no port was served, that alone decides why a server ended so
pub unstored : (end : CommandEnd) (journal : Option (List ℕ)) (faults now_faults : Faults) (scripts : List Script)
    (input : List (List ℕ)) (port sessions : ℕ) (old new : Output) (before after : Harbored) → now_faults ≡ faults
    → BecauseServed end scripts input port sessions old new before after
    → BecauseStored end journal faults now_faults scripts input port sessions old new before after
unstored end journal faults now_faults scripts input port sessions old new before after same because = record {
  served = end;
  because = because;
  storing = storings.Done;
  told = done-told journal faults now_faults same;
  is = refl;
}

-- where no turn is left nothing is stored, and no fault is told
pub spent-stored : (d : Debugging) (h : List (ℕ × Entry)) (journal : Option (List ℕ)) (old : Shelved)
    → IsSpent h → HasStored (spent_if journal) d h journal old old
spent-stored d h None old spent = (refl, refl)
spent-stored d h (Some name) old spent = (refl, spent)

-- ---- how a server ends

-- the faults of a shelf by what became of the journal
quiet-done : (journal : Option (List ℕ)) (before after : Faults) → StoreFaults storings.Done journal before after
    → after ≡ before
quiet-done None before after told = told.1
quiet-done (Some name) before after told = told

quiet-memory : (journal : Option (List ℕ)) (before after : Faults) → StoreFaults storings.Memory journal before after
    → after ≡ before
quiet-memory None before after told = told.1
quiet-memory (Some name) before after told = told

quiet-spent : (journal : Option (List ℕ)) (before after : Faults) → StoreFaults storings.Spent journal before after
    → after ≡ before
quiet-spent None before after told = told.1
quiet-spent (Some name) before after told = told

told-failed : (named : Bor (List ℕ)) (journal : Option (List ℕ)) (before after : Faults)
    → StoreFaults (storings.Failed named) journal before after
    → Blames (Store named.now) before after × (journal ≡ Some named.now)
told-failed named None before after told = absurd cc
told-failed named (Some name) before after told =
    let same = sym told.0 in
    (subst (λ (text : List ℕ). Blames (Store text) before after) same told.1, ap (λ text. Some text) same)

-- where no memory was left for the journal, one was asked for
writes-memory : (journal : Option (List ℕ)) (faults now_faults : Faults) (before after : ℕ)
    → StoreFaults storings.Memory journal faults now_faults
    → (after ≡ before) ⊎ Rose before after
    → OrJournal journal (after ≡ before) (λ name. Rose before after)
writes-memory None faults now_faults before after told h = absurd cc
writes-memory (Some name) faults now_faults before after told h = h

module _ (request : ServeWords) (Hands : List NamedFile → Type 0) (faults now_faults : Faults) (old new : Output)
    (before after : Harbored) (scripts : List Script) (input : List (List ℕ))
    (holds : Given Hands (λ files. HoldsSources files request.sources scripts input)) where
  abbrev Served : CommandEnd → Type 0
  Served end = BecauseServed end scripts input request.port request.sessions old new before after

  abbrev Ended : CommandEnd → Type 0
  Ended end = BecauseServe end request Hands faults now_faults old new before after

  -- the same of a shelf whose faults are as they were
  abbrev Quiet : CommandEnd → Type 0
  Quiet end = BecauseServe end request Hands faults faults old new before after

  has-program : Given Hands (λ files. HoldsProgram files request.sources)
  has-program = program-held request Hands scripts input holds

  quiet : (end : CommandEnd) → Served end → Quiet end
  quiet end h = read end request Hands faults old new before after scripts input holds h

  writes-served : (end : CommandEnd) → Served end → (new.faults ≡ old.faults) ⊎ Rose old.faults new.faults
  writes-served ends.Done h = inl h.0
  writes-served (ends.Threw text) h = inl h.0
  writes-served ends.ThrewUnshown h = inl h.0
  writes-served ends.OutOfMemory h = inl h
  writes-served ends.CannotWrite h = inr h.0
  writes-served ends.NetworkFault h = inl h.0
  writes-served ends.TicketsSpent h = inl h.0
  writes-served ends.Usage h = absurd h
  writes-served (ends.Refused name r) h = absurd h
  writes-served (ends.CannotRead name) h = absurd h
  writes-served (ends.CannotStore name) h = absurd h
  writes-served (ends.LineRefused n) h = absurd h
  writes-served (ends.PeerClosed replies) h = absurd h

  abbrev Whole : List NamedFile → Type 0
  Whole files = ServesWhole files request old.content new.content

  -- a program that ended has written all that it printed
  whole-done : Quiet ends.Done → Given Hands Whole
  whole-done h =
      given_as Hands (λ files. ServesToEnd files request old.content new.content) Whole (λ files ended. inl ended) h.3

  whole-threw : (text : List ℕ) → Given Hands (λ files. RunsToThrow files request.sources text old.content new.content)
      → Given Hands Whole
  whole-threw text thrown =
      given_as Hands (λ files. RunsToThrow files request.sources text old.content new.content) Whole
      (λ files threw. inr (text, threw)) thrown

  -- the faults of a shelf whose store failed
  abbrev MayBlame : Type 0
  MayBlame = OrJournal request.journal (now_faults ≡ faults) (λ name. Blames (Store name) faults now_faults)

  may-blame : (named : Bor (List ℕ)) → StoreFaults (storings.Failed named) request.journal faults now_faults → MayBlame
  may-blame named told =
      let blamed = told-failed named request.journal faults now_faults told in
      or_stored request.journal named.now (now_faults ≡ faults) (λ name. Blames (Store name) faults now_faults) blamed.1
      blamed.0

  ends-failed : (end : CommandEnd) (named : Bor (List ℕ))
      → StoreFaults (storings.Failed named) request.journal faults now_faults → Served end
      → Ended (after_storing end (storings.Failed named))
  ends-failed ends.Done named told h =
      let blamed = told-failed named request.journal faults now_faults told in
      (blamed.0, blamed.1, h.0, h.1, whole-done (quiet ends.Done h))
  ends-failed (ends.Threw text) named told h =
      let blamed = told-failed named request.journal faults now_faults told in
      let ended = quiet (ends.Threw text) h in
      (blamed.0, blamed.1, h.0, h.1, whole-threw (string_bytes text) ended.3)
  ends-failed ends.ThrewUnshown named told h =
      let blamed = told-failed named request.journal faults now_faults told in
      let ended = quiet ends.ThrewUnshown h in
      (blamed.0, blamed.1, h.0, h.1, whole-threw ended.3.0 ended.3.1)
  ends-failed ends.OutOfMemory named told h = (may-blame named told, or_quiet request.journal _ _ h)
  ends-failed ends.CannotWrite named told h = (may-blame named told, h.0, h.1, has-program)
  ends-failed ends.NetworkFault named told h = (may-blame named told, h.0, h.1, has-program)
  ends-failed ends.TicketsSpent named told h = (may-blame named told, h.0, h.1, has-program)
  ends-failed ends.Usage named told h = absurd h
  ends-failed (ends.Refused name r) named told h = absurd h
  ends-failed (ends.CannotRead name) named told h = absurd h
  ends-failed (ends.CannotStore name) named told h = absurd h
  ends-failed (ends.LineRefused n) named told h = absurd h
  ends-failed (ends.PeerClosed replies) named told h = absurd h

  ends-spent : (end : CommandEnd) → now_faults ≡ faults → Served end → Ended (after_storing end storings.Spent)
  ends-spent ends.Done same h = (or_quiet request.journal _ _ same, h.0, h.1, has-program)
  ends-spent (ends.Threw text) same h = (or_quiet request.journal _ _ same, h.0, h.1, has-program)
  ends-spent ends.ThrewUnshown same h = (or_quiet request.journal _ _ same, h.0, h.1, has-program)
  ends-spent ends.OutOfMemory same h = (or_quiet request.journal _ _ same, or_quiet request.journal _ _ h)
  ends-spent ends.CannotWrite same h = (or_quiet request.journal _ _ same, h.0, h.1, has-program)
  ends-spent ends.NetworkFault same h = (or_quiet request.journal _ _ same, h.0, h.1, has-program)
  ends-spent ends.TicketsSpent same h = (or_quiet request.journal _ _ same, h.0, h.1, has-program)
  ends-spent ends.Usage same h = absurd h
  ends-spent (ends.Refused name r) same h = absurd h
  ends-spent (ends.CannotRead name) same h = absurd h
  ends-spent (ends.CannotStore name) same h = absurd h
  ends-spent (ends.LineRefused n) same h = absurd h
  ends-spent (ends.PeerClosed replies) same h = absurd h

  ends-so : (end : CommandEnd) (storing : Storing) → StoreFaults storing request.journal faults now_faults → Served end
      → Ended (after_storing end storing)
  ends-so end storings.Done told h =
      subst (λ (f : Faults). BecauseServe end request Hands faults f old new before after)
      (sym (quiet-done request.journal faults now_faults told)) (quiet end h)
  ends-so end storings.Memory told h = (
    or_quiet request.journal _ _ (quiet-memory request.journal faults now_faults told),
    writes-memory request.journal faults now_faults old.faults new.faults told (writes-served end h),
  )
  ends-so end (storings.Failed named) told h = ends-failed end named told h
  ends-so end storings.Spent told h = ends-spent end (quiet-spent request.journal faults now_faults told) h

  -- why a server ended so, whose program was served and whose journal came to that
  pub stored-read : (end : CommandEnd)
      → BecauseStored end request.journal faults now_faults scripts input request.port request.sessions old new before
      after
      → Ended end
  stored-read end s = subst Ended (sym s.is) (ends-so s.served s.storing s.told s.because)

-- ---- what was stored, by the status

-- the program ended, and nothing failed
abbrev IsWell : ℕ → Type 0
IsWell n = (n ≡ 0) ⊎ (n ≡ 8)

not-well : (n : ℕ) (P : Type 0) → ((n == 0) || (n == 8)) ≡ false → IsWell n → P
not-well n P off (inl is) = absurd (differ (subst (λ (k : ℕ). ((k == 0) || (k == 8)) ≡ false) is off))
  where
    differ : ((0 == 0) || (0 == 8)) ≡ false → ⊥
    differ off = cc
not-well n P off (inr is) = absurd (differ (subst (λ (k : ℕ). ((k == 0) || (k == 8)) ≡ false) is off))
  where
    differ : ((8 == 0) || (8 == 8)) ≡ false → ⊥
    differ off = cc

-- only a program's end has one of these statuses
program-ends : (end : CommandEnd) → IsWell (status_of end) → is_program_end end ≡ true
program-ends ends.Done well = refl
program-ends (ends.Threw text) well = refl
program-ends ends.ThrewUnshown well = refl
program-ends ends.OutOfMemory well = not-well 1 _ refl well
program-ends ends.Usage well = not-well 2 _ refl well
program-ends (ends.Refused name r) well = not-well 3 _ refl well
program-ends (ends.CannotRead name) well = not-well 4 _ refl well
program-ends (ends.CannotStore name) well = not-well 4 _ refl well
program-ends ends.CannotWrite well = not-well 5 _ refl well
program-ends (ends.LineRefused n) well = not-well 6 _ refl well
program-ends ends.NetworkFault well = not-well 7 _ refl well
program-ends (ends.PeerClosed replies) well = not-well 9 _ refl well
program-ends ends.TicketsSpent well = not-well 10 _ refl well

-- an end that comes before that of the program, or just before it, is none
unless-ends : (end other : CommandEnd) → is_program_end other ≡ false → is_program_end (unless_ended end other) ≡ false
unless-ends end other off = by (is_program_end end) refl
  where
    by : (b : Bool) → is_program_end end ≡ b → is_program_end (if b then other else end) ≡ false
    by true is = off
    by false is = is

-- no port was served
unserved-ends : (end : CommandEnd) → IsUnserved end → is_program_end end ≡ false
unserved-ends (ends.Refused name r) unserved = refl
unserved-ends (ends.CannotRead name) unserved = refl
unserved-ends ends.OutOfMemory unserved = refl
unserved-ends ends.NetworkFault unserved = refl
unserved-ends ends.Done unserved = absurd unserved
unserved-ends (ends.Threw text) unserved = absurd unserved
unserved-ends ends.ThrewUnshown unserved = absurd unserved
unserved-ends ends.Usage unserved = absurd unserved
unserved-ends (ends.CannotStore name) unserved = absurd unserved
unserved-ends ends.CannotWrite unserved = absurd unserved
unserved-ends (ends.LineRefused n) unserved = absurd unserved
unserved-ends (ends.PeerClosed replies) unserved = absurd unserved
unserved-ends ends.TicketsSpent unserved = absurd unserved

-- so none of these has one of these statuses
no-end : (end : CommandEnd) (P : Type 0) → is_program_end end ≡ false → IsWell (status_of end) → P
no-end end P off well = absurd (differ (sym (program-ends end well) ∙ off))
  where
    differ : true ≡ false → ⊥
    differ is = cc

module _ (status : ℕ) (files : List NamedFile) (request : ServeWords) (moment : Option ℕ) (old new : Output)
    (before after : Option (List Tended)) (was now : Shelved) where
  abbrev Stored : Type 0
  Stored = Journals status files request moment old new before after was now

  module _ (scripts : List Script) (input : List (List ℕ)) (holds : HoldsSources files request.sources scripts input)
      (served : CommandEnd)
      (port : ServesPort scripts input request.wait request.sessions (clients_of request.devtools) moment old new before
      after served) where
    abbrev Has : Storing → Option (List ℕ) → Type 0
    Has storing journal = HasStored storing (debugging scripts input request.wait) port.history journal was now

    well : (storing : Storing) → status ≡ status_of (after_storing served storing)
        → IsWell (status_of (after_storing served storing)) → Has storing request.journal
        → Stored
    well storings.Done is at stored = record {
      scripts = scripts;
      input = input;
      holds = holds;
      served = served;
      is = is;
      port = port;
      stored = λ name asked. subst (Has storings.Done) asked stored;
    }
    well storings.Memory is at stored = no-end ends.OutOfMemory Stored refl at
    well (storings.Failed named) is at stored =
        no-end (unless_ended served (ends.CannotStore named)) Stored
        (unless-ends served (ends.CannotStore named) refl) at
    well storings.Spent is at stored =
        no-end (unless_ended served ends.TicketsSpent) Stored (unless-ends served ends.TicketsSpent refl) at

  journals : (end : CommandEnd) → status ≡ status_of end → IsWell status
      → MayServe files request moment old new before after was now end
      → Stored
  journals end is at (inl nothing) =
      no-end end Stored (unserved-ends end nothing.0) (subst IsWell is at)
  journals end is at (inr s) =
      let so = is ∙ ap status_of s.port.is in
      well s.scripts s.input s.holds s.port.served s.port.port s.port.storing so (subst IsWell so at) s.port.stored

-- nothing is stored where no journal is asked for
stores-none : (files : List NamedFile) (request : ServeWords) (moment : Option ℕ) (old new : Output)
    (before after : Option (List Tended)) (was now : Shelved) (end : CommandEnd) → request.journal ≡ None
    → MayServe files request moment old new before after was now end
    → now.files ≡ was.files
stores-none files request moment old new before after was now end none (inl nothing) = nothing.2
stores-none files request moment old new before after was now end none (inr s) =
    let Has : Option (List ℕ) → Type 0 = λ journal.
    HasStored s.port.storing (debugging s.scripts s.input request.wait) s.port.port.history journal was now in
    let stored = subst Has none s.port.stored in ap (λ (it : Shelved). it.files) stored.1

-- ---- of the words that ask for a server

module _ (o : Option Request) (request : ServeWords) (Hands : List NamedFile → Type 0) (moment : Option ℕ)
    (old new : Output) (before after : Option (List Tended)) (was now : Shelved) (end : CommandEnd) (status : ℕ)
    (is : o ≡ Some (Serve request)) (ends_so : status ≡ status_of end)
    (h : Given Hands (λ files. MayServe files request moment old new before after was now end)) where
  abbrev Stores : ServeWords → List NamedFile → Type 0
  Stores r files = Journals status files r moment old new before after was now

  pub journal_given : IsWell status → GivenServe o Hands Stores
  journal_given at =
      given_serve o request Hands Stores is
      (given_as Hands (λ files. MayServe files request moment old new before after was now end) (Stores request)
      (λ files may. journals status files request moment old new before after was now end ends_so at may) h)

  pub unstored_given : journal_asked o ≡ None → now.files ≡ was.files
  unstored_given none =
      stores-none h.0 request moment old new before after was now end (sym (ap journal_asked is) ∙ none) h.2

-- what is told of the faults of the shelf and of the output
module _ (o : Option Request) (request : ServeWords) (Hands : List NamedFile → Type 0) (faults now_faults : Faults)
    (old new : Output) (was now : Harbored) (status : ℕ) (is : o ≡ Some (Serve request)) where
  abbrev Same : Type 0
  Same = now_faults ≡ faults

  abbrev Fails : List ℕ → Type 0
  Fails name = ComesFirst status × Blames (Store name) faults now_faults

  first : ComesFirst status → OrJournal request.journal Same (λ name. Blames (Store name) faults now_faults)
      → OrJournal request.journal Same Fails
  first at h =
      or_more request.journal Same Same (λ name. Blames (Store name) faults now_faults) Fails (λ same. same)
      (λ name blamed. (at, blamed)) h

  reads-told : (end : CommandEnd) → status ≡ status_of end → status ≢ 4
      → BecauseServe end request Hands faults now_faults old new was now
      → OrJournal request.journal Same Fails
  reads-told ends.Done so at h = or_quiet request.journal Same Fails h.0
  reads-told (ends.Threw text) so at h = or_quiet request.journal Same Fails h.0
  reads-told ends.ThrewUnshown so at h = or_quiet request.journal Same Fails h.0
  reads-told ends.OutOfMemory so at h = first (inl so) h.0
  reads-told ends.Usage so at h = absurd h
  reads-told (ends.Refused file r) so at h = or_quiet request.journal Same Fails h.0
  reads-told (ends.CannotRead file) so at h = absurd (at so)
  reads-told (ends.CannotStore file) so at h = absurd (at so)
  reads-told ends.CannotWrite so at h = first (inr (inl so)) h.0
  reads-told (ends.LineRefused n) so at h = absurd h
  reads-told ends.NetworkFault so at h = first (inr (inr (inl so))) h.0
  reads-told (ends.PeerClosed replies) so at h = absurd h
  reads-told ends.TicketsSpent so at h = first (inr (inr (inr so))) h.0

  abbrev Written : Type 0
  Written = new.faults ≡ old.faults

  abbrev Unwritten : List ℕ → Type 0
  Unwritten name = (status ≡ 1) × Rose old.faults new.faults

  writes-told : (end : CommandEnd) → status ≡ status_of end → status ≢ 5
      → BecauseServe end request Hands faults now_faults old new was now
      → OrJournal request.journal Written Unwritten
  writes-told ends.Done so at h = or_quiet request.journal Written Unwritten h.1
  writes-told (ends.Threw text) so at h = or_quiet request.journal Written Unwritten h.1
  writes-told ends.ThrewUnshown so at h = or_quiet request.journal Written Unwritten h.1
  writes-told ends.OutOfMemory so at h =
      or_more request.journal Written Written (λ name. Rose old.faults new.faults) Unwritten (λ same. same)
      (λ name rose. (so, rose)) h.1
  writes-told ends.Usage so at h = absurd h
  writes-told (ends.Refused file r) so at h =
      or_quiet request.journal Written Unwritten (ap (λ (it : Output). it.faults) h.1)
  writes-told (ends.CannotRead file) so at h =
      or_quiet request.journal Written Unwritten (ap (λ (it : Output). it.faults) h.1)
  writes-told (ends.CannotStore file) so at h = or_quiet request.journal Written Unwritten h.2
  writes-told ends.CannotWrite so at h = absurd (at so)
  writes-told (ends.LineRefused n) so at h = absurd h
  writes-told ends.NetworkFault so at h = or_quiet request.journal Written Unwritten h.1
  writes-told (ends.PeerClosed replies) so at h = absurd h
  writes-told ends.TicketsSpent so at h = or_quiet request.journal Written Unwritten h.1

  -- an output of which nothing was written; `Untouched` says that it is as it was
  module _ (Untouched : Type 0) where
    abbrev Stopped : List ℕ → Type 0
    Stopped name = (status ≡ 4) × Blames (Store name) faults now_faults

    abbrev IsEarly : ℕ → Type 0
    IsEarly n = (n ≡ 3) ⊎ (n ≡ 4)

    not-early : (n : ℕ) (P : Type 0) → ((n == 3) || (n == 4)) ≡ false → IsEarly n → P
    not-early n P off (inl at) = absurd (differ (subst (λ (k : ℕ). ((k == 3) || (k == 4)) ≡ false) at off))
      where
        differ : ((3 == 3) || (3 == 4)) ≡ false → ⊥
        differ off = cc
    not-early n P off (inr at) = absurd (differ (subst (λ (k : ℕ). ((k == 3) || (k == 4)) ≡ false) at off))
      where
        differ : ((4 == 3) || (4 == 4)) ≡ false → ⊥
        differ off = cc

    unwritten-told : (end : CommandEnd) → status ≡ status_of end → IsEarly (status_of end)
        → (IsUnbegun end → Untouched) → BecauseServe end request Hands faults now_faults old new was now
        → OrJournal request.journal Untouched Stopped
    unwritten-told (ends.Refused file r) so at untouched h = or_quiet request.journal Untouched Stopped (untouched tt)
    unwritten-told (ends.CannotRead file) so at untouched h = or_quiet request.journal Untouched Stopped (untouched tt)
    unwritten-told (ends.CannotStore file) so at untouched h =
        or_stored request.journal file.now Untouched Stopped h.1 (so, h.0)
    unwritten-told ends.Done so at untouched h = not-early 0 _ refl at
    unwritten-told (ends.Threw text) so at untouched h = not-early 8 _ refl at
    unwritten-told ends.ThrewUnshown so at untouched h = not-early 8 _ refl at
    unwritten-told ends.OutOfMemory so at untouched h = not-early 1 _ refl at
    unwritten-told ends.Usage so at untouched h = not-early 2 _ refl at
    unwritten-told ends.CannotWrite so at untouched h = not-early 5 _ refl at
    unwritten-told (ends.LineRefused n) so at untouched h = not-early 6 _ refl at
    unwritten-told ends.NetworkFault so at untouched h = not-early 7 _ refl at
    unwritten-told (ends.PeerClosed replies) so at untouched h = not-early 9 _ refl at
    unwritten-told ends.TicketsSpent so at untouched h = not-early 10 _ refl at

    pub unwritten_given : (end : CommandEnd) → status ≡ status_of end → IsEarly status → (IsUnbegun end → Untouched)
        → BecauseServe end request Hands faults now_faults old new was now
        → OrJournal (journal_asked o) Untouched Stopped
    unwritten_given end so at untouched h =
        subst (λ journal. OrJournal journal Untouched Stopped) (sym (ap journal_asked is))
        (unwritten-told end so (subst IsEarly so at) untouched h)

  pub reads_given : (end : CommandEnd) → status ≡ status_of end → status ≢ 4
      → BecauseServe end request Hands faults now_faults old new was now
      → OrJournal (journal_asked o) Same Fails
  reads_given end so at h =
      subst (λ journal. OrJournal journal Same Fails) (sym (ap journal_asked is)) (reads-told end so at h)

  pub writes_given : (end : CommandEnd) → status ≡ status_of end → status ≢ 5
      → BecauseServe end request Hands faults now_faults old new was now
      → OrJournal (journal_asked o) Written Unwritten
  writes_given end so at h =
      subst (λ journal. OrJournal journal Written Unwritten) (sym (ap journal_asked is)) (writes-told end so at h)
