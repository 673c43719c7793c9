-- What serving a program says, in the words of its run without a debugger.
use Rattle.std.specs.Option.{option_map}
use Rattle.std.specs.declared.alloc.AllocError.{AllocError}
use Rattle.std.specs.declared.alloc.Global.{Global}
use Rattle.std.specs.declared.string.String.{String}
use Rattle.std.proofs.Common.{Result, Ok, Err, IfOk, OnOk, ◌≡◌, ◌<◌, ◌≤◌, ◌⊎◌, inl, inr, ℕ, zero, suc, ◌+◌, List, [], ◌∷◌, ◌++◌, map, length, Bool, true, false, ◌||◌, if◌then◌else◌, fold, refl, ap, sym, subst, ◌∙◌, arith, append_assoc, append-nil, string_bytes, Option as Opt, Some, None}
use Rattle.std.proofs.lemmas.List.{length-append}
use Rattle.std.proofs.lemmas.Option.{same_Some}
use mathlib.Core.Logic.{dite}
use native.Mathlib.Decide.{dec_lt}
use Rattle.cdp_host_isolation.specs.Histories.{Entry, Attach, Tell, Take, Detach, Ran, Shut, apply, asked, detach, steps_made, take, tell, told, with_seat}
use Rattle.cdp_host_isolation.specs.Makers.{by, entries_of}
use Rattle.cdp_host_isolation.specs.Meanings.{Meaning, is_enabled_seat, is_paused, resume, resumed_seat, settle, woken}
use Rattle.cdp_host_isolation.specs.Protocols.{Protocol}
use Rattle.cdp_host_isolation.specs.Seats.{each, seat_of, some}
use Rattle.cdp_host_isolation.specs.Stops.{plain as plain_from}
use Rattle.cdp_host_isolation.specs.declared.seat.Seat.{Seat}
use Rattle.cdp_host_isolation.specs.declared.seat.Seat.TheVariants as seats
use Rattle.cdp_host_isolation.proofs.AloneLemmas.{alone}
use Rattle.cdp_host_isolation.proofs.MakerLemmas.{by-append}
use Rattle.cdp_host_isolation.proofs.StopLemmas.{stops-exactly}
use Rattle.cdp_edge.specs.Blame.{Blames, Faults, Read, Store}
use Rattle.cdp_edge.specs.Outside.{GainsPrefix, NamedFile, Rose, Given, gains}
use Rattle.history_lock.specs.Histories.{IsSpent, has}
use Rattle.history_lock.specs.Passes.{Follows, HasInitialOnly, IsSamePass, LockId, PassState, SeesSpent, initial_pass, initial_passes, refused_pass}
use Rattle.history_lock.proofs.Facts.{by_none_of_all}
use Rattle.js_tree.specs.declared.script.Script.{Script}
use Rattle.js_semantics.specs.Run.{Run, running, over}
use Rattle.js_semantics.specs.Run as finishes
use Rattle.js_semantics.specs.Sources.{terms_of_scripts}
use Rattle.debug_host_plain_runs.specs.Runs.{HasThrown, IsFirstPart}
use Rattle.cdp_edge_printing.specs.Printing.{printed_lines}
use Rattle.cdp_edge_printing.proofs.PrintingLemmas.{lines-append}
use Rattle.cdp_edge_server.specs.Contents.{Tended, called}
use Rattle.cdp_host.specs.Debugged.{debugging}
use Rattle.cdp_host.specs.Histories.{whole}
use Rattle.cdp_host.specs.Hosts.{HostState, StandsFor, meaning_with}
use Rattle.cdp_host.specs.Programs.{has_thrown, is_over, plain, printed_of, start, uncaught_text}
use Rattle.cdp_host.specs.Protocols.{protocol}
use Rattle.cdp_host.proofs.LawLemmas.{goes-plainly}
use Rattle.cdp_host.proofs.ProgramLemmas.{plain-grows, plain-start, start-prints}
use Rattle.ws_service.specs.Joins.{AnswersForAll}
use Rattle.ws_service.specs.Programs.{GainsLines, Output, PrintsOn, may_cut}
use Rattle.ws_service.specs.Serving.{AreKept, IsServing, MayHaveShut, ServedDoor, has_shut, seen_by, shuts}
use Rattle.ws_service.specs.declared.clients.Clients.{Clients}
use Rattle.ws_service.specs.declared.ends.DoorsEnd.{DoorsEnd}
use Rattle.ws_service.specs.declared.ends.DoorsEnd.TheVariants as doors
use Rattle.ws_service.specs.declared.program.RunEnd.{RunEnd}
use Rattle.ws_service.specs.declared.program.RunEnd.TheVariants as runs
use Rattle.debug_host_commands.specs.Files.{HoldsProgram, HoldsSources, IsNamed, IsReachedIn, IsRefusedIn}
use Rattle.debug_host_commands.specs.RunCauses.{BecauseSources, RunsInPart, RunsToThrow}
use Rattle.debug_host_commands.specs.ServeCauses.{BecauseServe, BecauseServed, Harbored, HasFinished, IsEndOf, IsOpened, IsShutEnd, IsUnserved, MayServe, ServesNothing, ServesPort, ServesStored, ServesToEnd, ServesWhole, ShowsThrow, clients_of, outcome_of_serving, thrown_end}
use Rattle.debug_host_commands.specs.Stored.{HasStored, OrJournal, Shelved, after_storing, is_program_end}
use Rattle.debug_host_commands.specs.declared.storing.Storing.{Storing}
use Rattle.debug_host_commands.specs.declared.storing.Storing.TheVariants as storings
use Rattle.debug_host_script_files.specs.declared.fault.TextFault.{TextFault}
use Rattle.debug_host_commands.specs.Status.{ForServe, GivenServe, said, status_of, uncaught_said, unread_said, unstored_said, Says, refusal_said}
use Rattle.debug_host_options.specs.Requests.{Request, Serve, ServeWords}
use Rattle.debug_host_options.specs.Requests as words
use Rattle.debug_host_commands.specs.declared.outcome.CommandEnd.{CommandEnd}
use Rattle.debug_host_commands.specs.declared.outcome.CommandEnd.TheVariants as ends
use Rattle.debug_host_commands.proofs.PausedLemmas.{run-shut}
use Rattle.debug_host_commands.proofs.PlainLemmas.{plain-as}
use Rattle.debug_host_commands.proofs.RunLemmas.{some_handed}
use Rattle.debug_host_commands.proofs.EndLemmas.{done_only}
use Rattle.cdp_edge.proofs.HandedLemmas.{given_as}
use Rattle.ws_service.proofs.EntryLemmas.{same-tail}
use Rattle.ws_service.proofs.ServingLemmas.{spent-door}

-- ---- shuts

module _ {C T Q X : Type 0} (P : Protocol C T Q X) where
  either-shut : (b : Bool) (x y : Meaning C Q X) (shut : Bool) → x.shut ≡ shut → y.shut ≡ shut
      → (if b then x else y).shut ≡ shut
  either-shut true x y shut first second = first
  either-shut false x y shut first second = second

  resume-shut : (m : Meaning C Q X) → (resume P m).shut ≡ m.shut
  resume-shut m =
      either-shut (is_paused m) (record m { stop = None; seats = each (resumed_seat P) m.seats }) m m.shut refl refl

  settle-shut : (m : Meaning C Q X) → (settle P m).shut ≡ m.shut
  settle-shut m = either-shut (some (is_enabled_seat P) m.seats) m (resume P m) m.shut refl (resume-shut m)

  asked-shut : (resumes wakes : Bool) (m : Meaning C Q X) → (asked P resumes wakes m).shut ≡ m.shut
  asked-shut true wakes m = resume-shut m
  asked-shut false true m = settle-shut (record m { phase = woken m.phase })
  asked-shut false false m = settle-shut m

  tell-shut : (s : ℕ) (text : List ℕ) (m : Meaning C Q X) (seat : Seat X) → (tell P s text m seat).shut ≡ m.shut
  tell-shut s text m (seats.Attached x) =
      let here = with_seat s (seats.Attached (P.reply m.stop m.program text x)) m in
      either-shut (P.fits (P.reply m.stop m.program text x))
      (asked P (P.resumes m.stop m.program text x) (P.wakes m.stop m.program text x) here)
      (settle P (with_seat s seats.Left m)) m.shut
      (asked-shut (P.resumes m.stop m.program text x) (P.wakes m.stop m.program text x) here)
      (settle-shut (with_seat s seats.Left m))
  tell-shut s text m (seats.Lost loss is_reported is_told) = refl
  tell-shut s text m seats.Left = refl

  take-shut : (s : ℕ) (m : Meaning C Q X) (seat : Seat X) → (take P s m seat).shut ≡ m.shut
  take-shut s m (seats.Attached x) = refl
  take-shut s m (seats.Lost loss is_reported is_told) = refl
  take-shut s m seats.Left = refl

  detach-shut : (s : ℕ) (m : Meaning C Q X) (seat : Seat X) → (detach P s m seat).shut ≡ m.shut
  detach-shut s m (seats.Attached x) = settle-shut (with_seat s seats.Left m)
  detach-shut s m (seats.Lost loss is_reported is_told) = refl
  detach-shut s m seats.Left = refl

  -- an entry that doesn't shut the program leaves it as it was
  stays-unshut : (m : Meaning C Q X) (entry : Entry) → shuts entry ≡ false → (apply P m entry).shut ≡ m.shut
  stays-unshut m Attach none = refl
  stays-unshut m (Tell s text) none = tell-shut s text m (seat_of s m.seats)
  stays-unshut m (Take s) none = take-shut s m (seat_of s m.seats)
  stays-unshut m (Detach s) none = detach-shut s m (seat_of s m.seats)
  stays-unshut m (Ran n moment gone) none = run-shut P moment gone n m
  stays-unshut m Shut none = absurd cc

  -- a program that was shut was shut by an entry
  shut-by : (m : Meaning C Q X) (entries : List Entry) → m.shut ≡ false → (fold (apply P) m entries).shut ≡ true
      → has_shut entries ≡ true
  shut-by m [] unshut is = absurd cc
  shut-by m (entry ∷ entries) unshut is =
      here (shuts entry) refl
      (λ it. shut-by (apply P m entry) entries (stays-unshut m entry it ∙ unshut) is)
    where
      here : (b : Bool) → shuts entry ≡ b → (shuts entry ≡ false → has_shut entries ≡ true)
          → (shuts entry || has_shut entries) ≡ true
      here true it rest = ap (λ (x : Bool). x || has_shut entries) it
      here false it rest = ap (λ (x : Bool). x || has_shut entries) it ∙ rest it

shut-front : (front rest : List (ℕ × Entry)) → has_shut (entries_of front) ≡ true
    → has_shut (entries_of (front ++ rest)) ≡ true
shut-front [] rest is = absurd cc
shut-front (made ∷ front) rest is = either (shuts made.1) (has_shut (entries_of front)) (shut-front front rest) is
  where
    either : (a b : Bool) {c : Bool} → (b ≡ true → c ≡ true) → (a || b) ≡ true → (a || c) ≡ true
    either true b more is = refl
    either false b more is = more is

-- ---- what is printed

-- the steps of a program go its plain way
from-start : (k : ℕ) (scripts : List Script) (input : List (List ℕ))
    → plain_from (protocol scripts) k (start scripts input) ≡ plain k scripts input
from-start k scripts input =
    let same : 0 + k ≡ k = omega arith in
    ap (plain_from (protocol scripts) k) (plain-start scripts input)
    ∙ plain-as k 0 scripts input
    ∙ ap (λ n. plain n scripts input) same

-- the texts by which a history goes on from nothing are those of the plain run
texts-plain : (scripts : List Script) (input : List (List ℕ)) (wait : Bool) (h : List (ℕ × Entry))
    (texts : List (List ℕ)) → PrintsOn (debugging scripts input wait) [] h texts
    → texts ≡ printed_of (plain (steps_made (entries_of h)) scripts input)
texts-plain scripts input wait h texts prints =
    sym
    (ap printed_of (sym (from-start (steps_made (entries_of h)) scripts input))
    ∙ prints
    ∙ ap (λ l. l ++ texts) (start-prints scripts input))

gains-first : (cut : Bool) (before after : List ℕ) (texts : List (List ℕ)) → GainsLines cut before after texts
    → GainsPrefix before after (printed_lines texts)
gains-first false before after texts is = (printed_lines texts, [], sym (append-nil (printed_lines texts)), is)
gains-first true before after texts is = is

prefix-more : (before after : List ℕ) (xs ys zs : List ℕ) → zs ≡ xs ++ ys → GainsPrefix before after xs
    → GainsPrefix before after zs
prefix-more before after xs ys zs is g = (
  g.0,
  g.1 ++ ys,
  is ∙ ap (λ l. l ++ ys) g.2 ∙ append_assoc g.0 g.1 ys,
  g.3,
)

-- a first part of what some steps print is one of what any further steps print
first-part : (k : ℕ) (scripts : List Script) (input : List (List ℕ)) (before after : List ℕ)
    → GainsPrefix before after (printed_lines (printed_of (plain k scripts input)))
    → IsFirstPart (terms_of_scripts scripts) input before after
unfolding plain
first-part k scripts input before after g = record {
  steps = k;
  part = λ more.
      let grown = plain-grows more k scripts input in
      prefix-more before after (printed_lines (printed_of (plain k scripts input))) (printed_lines grown.0)
      (printed_lines (printed_of (plain (k + more) scripts input)))
      (ap printed_lines grown.1 ∙ lines-append (printed_of (plain k scripts input)) grown.0) g;
}

-- a plain run that a throw ended has its value, which is shown so
thrown-so : (k : ℕ) (scripts : List Script) (input : List (List ℕ)) (text : List ℕ) (before after : List ℕ)
    (r : Run) → plain k scripts input ≡ r → uncaught_text r ≡ Some text
    → after ≡ gains before (printed_lines (printed_of r)) → HasThrown (terms_of_scripts scripts) input text before after
unfolding plain
thrown-so k scripts input text before after (over (finishes.threw v place) s) at shown written = record {
  steps = k;
  value = v;
  place = place;
  state = s;
  is = at;
  told = sym (same_Some _ _ shown);
  whole = written;
}
thrown-so k scripts input text before after (running t s) at shown written = absurd cc
thrown-so k scripts input text before after (over (finishes.ended v) s) at shown written = absurd cc
thrown-so k scripts input text before after (over finishes.by_effect s) at shown written = absurd cc
thrown-so k scripts input text before after (over (finishes.by_full what) s) at shown written = absurd cc

-- the text of a program that a throw ended
text-of : (r : Run) → has_thrown r ≡ true → (text : List ℕ) × (uncaught_text r ≡ Some text)
text-of (over (finishes.threw v place) s) is = (_, refl)
text-of (running t s) is = absurd cc
text-of (over (finishes.ended v) s) is = absurd cc
text-of (over finishes.by_effect s) is = absurd cc
text-of (over (finishes.by_full what) s) is = absurd cc

-- ---- a port that was served

-- a program isn't shut where neither its output nor a door failed
over-stands : (P : Type 0) → (false ≡ true) ⊎ (doors.Over ≡ doors.Failed) → P
over-stands P (inl cut) = absurd cc
over-stands P (inr failed) = absurd cc

spent-stands : (P : Type 0) → (false ≡ true) ⊎ (doors.Spent ≡ doors.Failed) → P
spent-stands P (inl cut) = absurd cc
spent-stands P (inr failed) = absurd cc

module _ (scripts : List Script) (input : List (List ℕ)) (wait : Bool) (n : ℕ) (moment : Opt ℕ) (old new : Output)
    (h : List (ℕ × Entry)) (served : List ServedDoor) where
  abbrev steps : ℕ
  steps = steps_made (entries_of h)

  abbrev Is : RunEnd → DoorsEnd → Type 0
  Is run together =
      IsServing (debugging scripts input wait) n moment old new (record { run = run; doors = together }) h served

  goes : (whole scripts input wait (entries_of h)).program ≡ plain steps scripts input
  goes = goes-plainly scripts input wait (entries_of h)

  -- the program may have been shut only at these ends
  abbrev AtShut : Opt CommandEnd → Type 0
  AtShut None = ⊥
  AtShut (Some end) = IsShutEnd end

  at-shut : (run : RunEnd) (together : DoorsEnd) → MayHaveShut (record { run = run; doors = together })
      → AtShut (outcome_of_serving run together)
  at-shut runs.Broken together may = tt
  at-shut (runs.Memory unshut) together may = tt
  at-shut (runs.WriteFault unshut) together may = tt
  at-shut runs.Shut together may = tt
  at-shut (runs.Spent ticket) doors.Over may = over-stands _ may
  at-shut (runs.Spent ticket) doors.Failed may = tt
  at-shut (runs.Spent ticket) doors.Spent may = spent-stands _ may
  at-shut runs.Ended doors.Over may = over-stands _ may
  at-shut runs.Ended doors.Failed may = tt
  at-shut runs.Ended doors.Spent may = spent-stands _ may
  at-shut runs.Threw doors.Over may = over-stands _ may
  at-shut runs.Threw doors.Failed may = tt
  at-shut runs.Threw doors.Spent may = spent-stands _ may

  shut-end : (run : RunEnd) (together : DoorsEnd) (end : CommandEnd) (r : Run)
      → IsEndOf end (record { run = run; doors = together }) r h → MayHaveShut (record { run = run; doors = together })
      → IsShutEnd end
  shut-end run together end r (inl is) may = subst AtShut is (at-shut run together may)
  shut-end run together end r (inr shown) may = absurd (subst AtShut shown.0 (at-shut run together may))

  pub served-port : (run : RunEnd) (together : DoorsEnd) (end : CommandEnd) (clients : Clients)
      (before after : Opt (List Tended)) → Is run together
      → AreKept (seen_by clients) before after (map (λ (door : ServedDoor). door.door) served)
      → IsEndOf end (record { run = run; doors = together }) (whole scripts input wait (entries_of h)).program h
      → ServesPort scripts input wait n clients moment old new before after end
  served-port run together end clients before after s kept is_end = record {
    history = h;
    doors = served;
    ended = record { run = run; doors = together };
    serving = s;
    is_end = is_end;
    shut = λ was. shut-end run together end (whole scripts input wait (entries_of h)).program is_end (s.shut was);
    kept = kept;
    exactly = stops-exactly (protocol scripts) (start scripts input) wait (entries_of h) s.history.fits;
    alone = λ r. alone (protocol scripts) r (start scripts input) wait (entries_of h) s.history.fits;
  }

  -- no ticket was left for the program or a door only where the history leaves none
  abbrev AtSpent : Opt CommandEnd → Type 0
  AtSpent None = Unit {0}
  AtSpent (Some end) = end ≡ ends.TicketsSpent → IsSpent h

  at-spent : (run : RunEnd) (together : DoorsEnd) → Is run together → AtSpent (outcome_of_serving run together)
  at-spent runs.Broken together s = λ is. absurd cc
  at-spent (runs.Memory unshut) together s = λ is. absurd cc
  at-spent (runs.WriteFault unshut) together s = λ is. absurd cc
  at-spent runs.Shut together s = λ is. absurd cc
  at-spent (runs.Spent ticket) doors.Over s = λ is. s.runs.reason.1
  at-spent (runs.Spent ticket) doors.Failed s = λ is. absurd cc
  at-spent (runs.Spent ticket) doors.Spent s = λ is. s.runs.reason.1
  at-spent runs.Ended doors.Over s = λ is. absurd cc
  at-spent runs.Ended doors.Failed s = λ is. absurd cc
  at-spent runs.Ended doors.Spent s = λ is.
      spent-door (debugging scripts input wait) h (IsSpent h) served s.served s.ended.1
  at-spent runs.Threw doors.Over s = tt
  at-spent runs.Threw doors.Failed s = λ is. absurd cc
  at-spent runs.Threw doors.Spent s = λ is.
      spent-door (debugging scripts input wait) h (IsSpent h) served s.served s.ended.1

  spent-end : (run : RunEnd) (together : DoorsEnd) (end : CommandEnd) (r : Run) → Is run together
      → IsEndOf end (record { run = run; doors = together }) r h → end ≡ ends.TicketsSpent → IsSpent h
  spent-end run together end r s (inl decided) is = subst AtSpent decided (at-spent run together s) is
  spent-end run together end r s (inr shown) is = subst (λ (e : CommandEnd). ShowsThrow e r h) is shown.1

  -- nor for the turn that stores the journal
  spent-stored-so : (first : CommandEnd) (storing : Storing) (journal : Opt (List ℕ)) (was now : Shelved)
      → after_storing first storing ≡ ends.TicketsSpent
      → HasStored storing (debugging scripts input wait) h journal was now → (first ≡ ends.TicketsSpent → IsSpent h)
      → IsSpent h
  spent-stored-so first storings.Done journal was now is stored decided = decided is
  spent-stored-so first storings.Memory journal was now is stored decided = absurd cc
  spent-stored-so first (storings.Failed name) journal was now is stored decided =
      decided (unless-first (is_program_end first) is)
    where
      unless-first : (b : Bool) → (if b then ends.CannotStore name else first) ≡ ends.TicketsSpent
          → first ≡ ends.TicketsSpent
      unless-first true at = absurd cc
      unless-first false at = at
  spent-stored-so first storings.Spent None was now is stored decided = let none = stored.0 in absurd cc
  spent-stored-so first storings.Spent (Some name) was now is stored decided = stored.1

  -- and what became of its journal
  pub served-stored : (run : RunEnd) (together : DoorsEnd) (first : CommandEnd) (clients : Clients)
      (journal : Opt (List ℕ)) (storing : Storing) (before after : Opt (List Tended)) (was now : Shelved)
      (end : CommandEnd) → Is run together
      → AreKept (seen_by clients) before after (map (λ (door : ServedDoor). door.door) served)
      → IsEndOf first (record { run = run; doors = together }) (whole scripts input wait (entries_of h)).program h
      → HasStored storing (debugging scripts input wait) h journal was now
      → end ≡ after_storing first storing
      → ServesStored scripts input wait n clients journal moment old new before after was now end
  unfolding served-port
  served-stored run together first clients journal storing before after was now end s kept is_end stored is = record {
    served = first;
    port = served-port run together first clients before after s kept is_end;
    storing = storing;
    stored = stored;
    is = is;
    spent = λ at.
        spent-stored-so first storing journal was now (sym is ∙ at) stored
        (spent-end run together first (whole scripts input wait (entries_of h)).program s is_end);
  }

  -- the output is a first part of the plain one
  pub served-part : (run : RunEnd) (together : DoorsEnd) → Is run together
      → IsFirstPart (terms_of_scripts scripts) input old.content new.content
  served-part run together s =
      first-part steps scripts input old.content new.content
      (subst (λ texts. GainsPrefix old.content new.content (printed_lines texts))
      (texts-plain scripts input wait h s.runs.texts s.runs.prints)
      (gains-first (may_cut (Some run)) old.content new.content s.runs.texts s.runs.gains))

  -- it is all of it where the program has ended
  finished : (together : DoorsEnd) → Is runs.Ended together → HasFinished scripts input old.content new.content
  finished together s = record {
    steps = steps;
    is = ap is_over (sym goes) ∙ s.runs.reason.0;
    unthrown = ap has_thrown (sym goes) ∙ s.runs.reason.1;
    whole =
        s.runs.gains
        ∙ ap (λ texts. gains old.content (printed_lines texts))
        (texts-plain scripts input wait h s.runs.texts s.runs.prints);
  }

  threw : (together : DoorsEnd) (text : List ℕ) → Is runs.Threw together
      → uncaught_text (whole scripts input wait (entries_of h)).program ≡ Some text
      → HasThrown (terms_of_scripts scripts) input text old.content new.content
  threw together text s shown =
      thrown-so steps scripts input text old.content new.content (plain steps scripts input) refl
      (ap uncaught_text (sym goes) ∙ shown)
      (s.runs.gains
      ∙ ap (λ texts. gains old.content (printed_lines texts))
      (texts-plain scripts input wait h s.runs.texts s.runs.prints))

  -- it was shut only where a door failed
  shut-fails : (together : DoorsEnd) → Is runs.Shut together → together ≡ doors.Failed
  shut-fails together s = only (s.shut found)
    where
      found : has_shut (entries_of h) ≡ true
      found =
          let was = s.runs.reason in
          subst (λ l. has_shut (entries_of l) ≡ true) (sym was.1.1)
          (shut-front was.0 was.1.0 (shut-by (protocol scripts) _ (entries_of was.0) refl was.2))

      only : (may_cut (Some runs.Shut) ≡ true) ⊎ (together ≡ doors.Failed) → together ≡ doors.Failed
      only (inl cut) = absurd cc
      only (inr failed) = failed

  module _ (port : ℕ) (before after : Harbored) (opened : IsOpened port n before after) where
    -- how a program that ended by a throw is shown
    pub because-thrown : (end : CommandEnd) → Is runs.Threw doors.Over
        → ShowsThrow end (whole scripts input wait (entries_of h)).program h
        → BecauseServed end scripts input port n old new before after
    because-thrown (ends.Threw text) s shown = (s.runs.counts, opened, threw doors.Over (string_bytes text) s shown)
    because-thrown ends.ThrewUnshown s shown =
        let text = text-of (whole scripts input wait (entries_of h)).program s.runs.reason.1 in
        (s.runs.counts, opened, (text.0, threw doors.Over text.0 s text.1))
    because-thrown ends.TicketsSpent s shown = (s.runs.counts, opened)
    because-thrown ends.Done s shown = absurd shown
    because-thrown ends.OutOfMemory s shown = absurd shown
    because-thrown ends.Usage s shown = absurd shown
    because-thrown (ends.Refused name r) s shown = absurd shown
    because-thrown (ends.CannotRead name) s shown = absurd shown
    because-thrown (ends.CannotStore name) s shown = absurd shown
    because-thrown ends.CannotWrite s shown = absurd shown
    because-thrown (ends.LineRefused number) s shown = absurd shown
    because-thrown (ends.PeerClosed replies) s shown = absurd shown
    because-thrown ends.NetworkFault s shown = absurd shown

    -- how a program and its doors ended
    abbrev Because : Opt CommandEnd → Type 0
    Because None = Unit {0}
    Because (Some end) = BecauseServed end scripts input port n old new before after

    because : (run : RunEnd) (together : DoorsEnd) → Is run together
        → (together ≡ doors.Failed → Rose before.faults after.faults) → Because (outcome_of_serving run together)
    because runs.Broken together s failed = s.runs.counts
    because (runs.Memory unshut) together s failed = s.runs.counts
    because (runs.WriteFault unshut) together s failed = (s.runs.counts, opened)
    because runs.Shut together s failed = (s.runs.counts, failed (shut-fails together s))
    because (runs.Spent ticket) doors.Over s failed = (s.runs.counts, opened)
    because (runs.Spent ticket) doors.Failed s failed = (s.runs.counts, failed refl)
    because (runs.Spent ticket) doors.Spent s failed = (s.runs.counts, opened)
    because runs.Ended doors.Over s failed = (s.runs.counts, opened, finished doors.Over s)
    because runs.Ended doors.Failed s failed = (s.runs.counts, failed refl)
    because runs.Ended doors.Spent s failed = (s.runs.counts, opened)
    because runs.Threw doors.Over s failed = tt
    because runs.Threw doors.Failed s failed = (s.runs.counts, failed refl)
    because runs.Threw doors.Spent s failed = (s.runs.counts, opened)

    pub because-decided : (run : RunEnd) (together : DoorsEnd) (end : CommandEnd)
        → Some end ≡ outcome_of_serving run together → Is run together
        → (together ≡ doors.Failed → Rose before.faults after.faults)
        → BecauseServed end scripts input port n old new before after
    because-decided run together end decided s failed = subst Because (sym decided) (because run together s failed)

-- where nothing was decided, the program ended by a throw and all doors found it over
pub undecided : (run : RunEnd) (together : DoorsEnd) → None ≡ outcome_of_serving run together
    → (run ≡ runs.Threw) × (together ≡ doors.Over)
undecided runs.Threw doors.Over none = (refl, refl)
undecided runs.Threw doors.Failed none = absurd cc
undecided runs.Threw doors.Spent none = absurd cc
undecided runs.Broken together none = absurd cc
undecided (runs.Memory unshut) together none = absurd cc
undecided (runs.WriteFault unshut) together none = absurd cc
undecided runs.Shut together none = absurd cc
undecided (runs.Spent ticket) doors.Over none = absurd cc
undecided (runs.Spent ticket) doors.Failed none = absurd cc
undecided (runs.Spent ticket) doors.Spent none = absurd cc
undecided runs.Ended doors.Over none = absurd cc
undecided runs.Ended doors.Failed none = absurd cc
undecided runs.Ended doors.Spent none = absurd cc

-- ---- the last turn

-- a pass that answers for all and is refused a ticket has seen a history after which none is left
pub refused_all : (p q : PassState Entry) → AnswersForAll p → q ≡ refused_pass p → SeesSpent q → IsSpent p.seen
refused_all p q all is sees = subst SeesSpent is sees all.1 all.0 refl

-- a pass that answers for all finds nothing new at its turn
pub finds-all : (p m : PassState Entry) → AnswersForAll p → Follows p m → IsSamePass p m → HasInitialOnly m
    → m.seen ≡ p.seen
finds-all p m all follows same only =
    follows.1 ∙ ap (λ l. p.seen ++ l) (by_none_of_all follows.0 each) ∙ append-nil p.seen
  where
    beyond : (x : ℕ) → m.initial ≤ x → by x m.seen ≡ []
    beyond =
        only (λ x lt. ap (has x) same.2 ∙ all.1 x (subst (λ (k : ℕ). x < k) same.4 lt)) (same.3 ∙ all.0)

    last : (xs ys : List Entry) → xs ++ ys ≡ [] → ys ≡ []
    last [] ys is = is
    last (x ∷ xs) ys is = absurd cc

    each : (x : ℕ) → by x follows.0 ≡ []
    each x = dite (dec_lt x p.initial) (λ lt. follows.2 x (all.1 x lt))
        (λ above.
        last (by x p.seen) (by x follows.0)
        (sym (by-append x p.seen follows.0)
        ∙ ap (by x) (sym follows.1)
        ∙ beyond x (subst (λ (k : ℕ). k ≤ x) (sym same.4) (omega (arith, above)))))

-- ---- the passes of a new lock

same-head : {A : Type 0} (x y : A) (xs ys : List A) → x ∷ xs ≡ y ∷ ys → x ≡ y
same-head x y xs ys is = cc

not-empty : {A : Type 0} (ys : List A) (y : A) → [] ≡ ys ++ y ∷ [] → ⊥
not-empty [] y is = absurd cc
not-empty (z ∷ ys) y is = absurd cc

push-same : {A : Type 0} (xs ys : List A) (x y : A) → xs ++ x ∷ [] ≡ ys ++ y ∷ [] → (xs ≡ ys) × (x ≡ y)
push-same [] [] x y is = (refl, cc)
push-same [] (z ∷ ys) x y is = absurd (not-empty ys y (same-tail x z [] (ys ++ y ∷ []) is))
push-same (z ∷ xs) [] x y is = absurd (not-empty xs x (sym (same-tail z y (xs ++ x ∷ []) [] is)))
push-same (z ∷ xs) (w ∷ ys) x y is =
    let rest = push-same xs ys x y (same-tail z w (xs ++ x ∷ []) (ys ++ y ∷ []) is) in
    (same-both z w xs ys (same-head z w (xs ++ x ∷ []) (ys ++ y ∷ []) is) rest.0, rest.1)
  where
    same-both : {A : Type 0} (z w : A) (xs ys : List A) → z ≡ w → xs ≡ ys → z ∷ xs ≡ w ∷ ys
    same-both z w xs ys first second = λ i. first i ∷ second i

-- the last of the passes is that of the program, and the others are those of the doors
pub last-pass : (lock : LockId) (n : ℕ) (all doors : List (PassState Entry)) (pass : PassState Entry)
    → all ≡ initial_passes lock (n + 1) (n + 1) → all ≡ doors ++ pass ∷ []
    → (doors ≡ initial_passes lock (n + 1) n) × (pass ≡ initial_pass lock (n + 1) n)
last-pass lock n all doors pass is split =
    let one-more : n + 1 ≡ suc n = omega arith in
    push-same doors (initial_passes lock (n + 1) n) pass (initial_pass lock (n + 1) n)
    (sym split ∙ is ∙ ap (initial_passes lock (n + 1)) one-more)

-- so many are those of the doors
pub initial-length : (lock : LockId) (n k : ℕ) → length (initial_passes {E = Entry} lock n k) ≡ k
initial-length lock n zero = refl
initial-length lock n (suc k) =
    length-append (initial_passes lock n k) (initial_pass lock n k ∷ [])
    ∙ ap (λ (m : ℕ). m + 1) (initial-length lock n k)
    ∙ omega arith

-- ---- the text of a throw

-- a host that isn't broken has the program of its history
pub host-program : (scripts : List Script) (input : List (List ℕ)) (wait : Bool) (host : HostState)
    (history : List Entry) (text : Opt (List ℕ)) → StandsFor scripts input wait host history → host.broken ≡ false
    → ((taken : List (List ℕ)) → text ≡ uncaught_text (meaning_with host taken).program)
    → uncaught_text (whole scripts input wait history).program ≡ text
host-program scripts input wait host history text stands works Hands =
    let printed = printed_of (whole scripts input wait history).program in
    sym (Hands printed ∙ ap (λ m. uncaught_text m.program) (stands.means works).is)

-- how a program that threw is shown, by the text for which its host was asked
pub shown-so : (scripts : List Script) (input : List (List ℕ)) (wait : Bool) (host : HostState) (history : List Entry)
    (answer : Result (Opt (String Global)) AllocError) → StandsFor scripts input wait host history
    → OnOk answer (host.broken ≡ false)
    → IfOk answer (λ text. (taken : List (List ℕ)) → option_map string_bytes text
    ≡ uncaught_text (meaning_with host taken).program)
    → (h : List (ℕ × Entry)) → ShowsThrow (thrown_end answer) (whole scripts input wait history).program h
shown-so scripts input wait host history (Ok (Some text)) stands works is h =
    host-program scripts input wait host history (Some (string_bytes text)) stands works is
shown-so scripts input wait host history (Ok None) stands works is h = tt
shown-so scripts input wait host history (Err error) stands works is h = tt

-- ---- before a port is opened

-- what holds where no journal is asked for holds where one may be asked for
pub or_quiet : (journal : Opt (List ℕ)) (P : Type 0) (Q : List ℕ → Type 0) → P → OrJournal journal P Q
or_quiet None P Q holds = holds
or_quiet (Some name) P Q holds = inl holds

-- where one is asked for, what holds of its name
pub or_stored : (journal : Opt (List ℕ)) (name : List ℕ) (P : Type 0) (Q : List ℕ → Type 0) → journal ≡ Some name
    → Q name
    → OrJournal journal P Q
or_stored journal name P Q is holds = subst (λ j. OrJournal j P Q) (sym is) (inr holds)

-- a step from either side
pub or_more : (journal : Opt (List ℕ)) (P R : Type 0) (Q S : List ℕ → Type 0) → (P → R)
    → ((name : List ℕ) → Q name → S name)
    → OrJournal journal P Q → OrJournal journal R S
or_more None P R Q S first second h = first h
or_more (Some name) P R Q S first second (inl h) = inl (first h)
or_more (Some name) P R Q S first second (inr h) = inr (second name h)

-- why a server ended so whose files weren't all taken
pub unread : (end : CommandEnd) (request : ServeWords) (Hands : List NamedFile → Type 0) (before after : Faults) (out : Output)
    (harbor : Harbored) → BecauseSources end request.sources Hands before after
    → BecauseServe end request Hands before after out out harbor harbor
unread ends.Done request Hands before after out harbor h = absurd h
unread (ends.Threw text) request Hands before after out harbor h = absurd h
unread ends.ThrewUnshown request Hands before after out harbor h = absurd h
unread ends.OutOfMemory request Hands before after out harbor h =
    (or_quiet request.journal _ _ h.0, or_quiet request.journal _ _ refl)
unread (ends.CannotStore name) request Hands before after out harbor h = absurd h
unread ends.Usage request Hands before after out harbor h = absurd h
unread (ends.Refused name r) request Hands before after out harbor h = (h.0, refl, h.1)
unread (ends.CannotRead name) request Hands before after out harbor h = (h.0, refl, h.1, h.2)
unread ends.CannotWrite request Hands before after out harbor h = absurd h
unread (ends.LineRefused n) request Hands before after out harbor h = absurd h
unread ends.NetworkFault request Hands before after out harbor h = absurd h
unread ends.TicketsSpent request Hands before after out harbor h = absurd h
unread (ends.PeerClosed replies) request Hands before after out harbor h = absurd h

-- files that hold these scripts and this input hold a program
pub program-held : (request : ServeWords) (Hands : List NamedFile → Type 0) (scripts : List Script)
    (input : List (List ℕ))
    → Given Hands (λ files. HoldsSources files request.sources scripts input)
    → Given Hands (λ files. HoldsProgram files request.sources)
program-held request Hands scripts input holds =
    given_as Hands (λ files. HoldsSources files request.sources scripts input)
    (λ files. HoldsProgram files request.sources)
    (λ files at. record { scripts = scripts; input = input; holds = at }) holds

-- why one ended so whose program was served
pub read : (end : CommandEnd) (request : ServeWords) (Hands : List NamedFile → Type 0) (faults : Faults) (old new : Output)
    (before after : Harbored) (scripts : List Script) (input : List (List ℕ))
    → Given Hands (λ files. HoldsSources files request.sources scripts input)
    → BecauseServed end scripts input request.port request.sessions old new before after
    → BecauseServe end request Hands faults faults old new before after
read ends.Done request Hands faults old new before after scripts input holds h = (
  refl,
  h.0,
  h.1,
  given_as Hands (λ files. HoldsSources files request.sources scripts input) _
      (λ files at. record { scripts = scripts; input = input; holds = at; finished = h.2 }) holds,
)
read (ends.Threw text) request Hands faults old new before after scripts input holds h = (
  refl,
  h.0,
  h.1,
  given_as Hands (λ files. HoldsSources files request.sources scripts input) _
      (λ files at. record { scripts = scripts; input = input; holds = at; thrown = h.2 }) holds,
)
read ends.ThrewUnshown request Hands faults old new before after scripts input holds h = (
  refl,
  h.0,
  h.1,
  (
    h.2.0,
    given_as Hands (λ files. HoldsSources files request.sources scripts input) _
        (λ files at. record { scripts = scripts; input = input; holds = at; thrown = h.2.1 }) holds,
  ),
)
read ends.OutOfMemory request Hands faults old new before after scripts input holds h =
    (or_quiet request.journal _ _ refl, or_quiet request.journal _ _ h)
read ends.CannotWrite request Hands faults old new before after scripts input holds h =
    (or_quiet request.journal _ _ refl, h.0, h.1, program-held request Hands scripts input holds)
read ends.NetworkFault request Hands faults old new before after scripts input holds h =
    (or_quiet request.journal _ _ refl, h.0, h.1, program-held request Hands scripts input holds)
read ends.TicketsSpent request Hands faults old new before after scripts input holds h =
    (or_quiet request.journal _ _ refl, h.0, h.1, program-held request Hands scripts input holds)
read (ends.CannotStore name) request Hands faults old new before after scripts input holds h = absurd h
read ends.Usage request Hands faults old new before after scripts input holds h = absurd h
read (ends.Refused name r) request Hands faults old new before after scripts input holds h = absurd h
read (ends.CannotRead name) request Hands faults old new before after scripts input holds h = absurd h
read (ends.LineRefused n) request Hands faults old new before after scripts input holds h = absurd h
read (ends.PeerClosed replies) request Hands faults old new before after scripts input holds h = absurd h

-- no port was served where a file wasn't taken
pub unserved : (end : CommandEnd) (request : ServeWords) (Hands : List NamedFile → Type 0) (before after : Faults)
    → BecauseSources end request.sources Hands before after → IsUnserved end
unserved ends.Done request Hands before after h = absurd h
unserved (ends.Threw text) request Hands before after h = absurd h
unserved ends.ThrewUnshown request Hands before after h = absurd h
unserved ends.OutOfMemory request Hands before after h = tt
unserved ends.Usage request Hands before after h = absurd h
unserved (ends.Refused name r) request Hands before after h = tt
unserved (ends.CannotRead name) request Hands before after h = tt
unserved (ends.CannotStore name) request Hands before after h = absurd h
unserved ends.CannotWrite request Hands before after h = absurd h
unserved (ends.LineRefused n) request Hands before after h = absurd h
unserved ends.NetworkFault request Hands before after h = absurd h
unserved ends.TicketsSpent request Hands before after h = absurd h
unserved (ends.PeerClosed replies) request Hands before after h = absurd h

-- where a file wasn't taken, no port was served, whatever was handed in
pub unserved_part : (end : CommandEnd) (request : ServeWords) (Hands : List NamedFile → Type 0) (faults now_faults : Faults)
    (moment : Opt ℕ) (out : Output) (kept : Opt (List Tended)) (was now : Shelved)
    → now.files ≡ was.files
    → BecauseSources end request.sources Hands faults now_faults
    → Given Hands (λ files. MayServe files request moment out out kept kept was now end)
unserved_part end request Hands faults now_faults moment out kept was now same h =
    given_as Hands (λ files. Unit {0}) (λ files. MayServe files request moment out out kept kept was now end)
    (λ files it. inl (unserved end request Hands faults now_faults h, refl, same))
    (some_handed end request.sources Hands faults now_faults h)

-- a port that was served for the scripts that the files hold, or wasn't
pub serves : (request : ServeWords) (Hands : List NamedFile → Type 0) (moment : Opt ℕ) (old new : Output)
    (before after : Opt (List Tended)) (was now : Shelved) (end : CommandEnd) (scripts : List Script)
    (input : List (List ℕ))
    → Given Hands (λ files. HoldsSources files request.sources scripts input)
    → ServesNothing end old new was now
    ⊎ ServesStored scripts input request.wait request.sessions (clients_of request.devtools) request.journal moment old new
    before after was now end
    → Given Hands (λ files. MayServe files request moment old new before after was now end)
serves request Hands moment old new before after was now end scripts input holds (inl unserved) =
    given_as Hands (λ files. HoldsSources files request.sources scripts input) _ (λ files at. inl unserved) holds
serves request Hands moment old new before after was now end scripts input holds (inr port) =
    given_as Hands (λ files. HoldsSources files request.sources scripts input) _
    (λ files at. inr (record { scripts = scripts; input = input; holds = at; port = port })) holds

-- its output is a first part of the plain one
in-part : (request : ServeWords) (files : List NamedFile) (moment : Opt ℕ) (old new : Output)
    (before after : Opt (List Tended)) (was now : Shelved) (end : CommandEnd)
    → MayServe files request moment old new before after was now end
    → (new.content ≡ old.content) ⊎ RunsInPart files request.sources old.content new.content
in-part request files moment old new before after was now end (inl unserved) = inl unserved.1
in-part request files moment old new before after was now end (inr s) = inr (record {
  scripts = s.scripts;
  input = s.input;
  holds = s.holds;
  part =
      let port = s.port.port in
      served-part s.scripts s.input request.wait request.sessions moment old new port.history port.doors port.ended.run
      port.ended.doors port.serving;
})

-- ---- of the words that ask for a server

pub given_serve : (o : Opt Request) (request : ServeWords) (Hands : List NamedFile → Type 0)
    (P : ServeWords → List NamedFile → Type 0) → o ≡ Some (Serve request) → Given Hands (P request) → GivenServe o Hands P
given_serve o request Hands P is h = rw is h

-- its output is a first part of the plain one
pub part_given : (o : Opt Request) (request : ServeWords) (Hands : List NamedFile → Type 0) (moment : Opt ℕ)
    (old new : Output) (before after : Opt (List Tended)) (was now : Shelved) (end : CommandEnd)
    → o ≡ Some (Serve request)
    → Given Hands (λ files. MayServe files request moment old new before after was now end)
    → GivenServe o Hands
    (λ r files. (new.content ≡ old.content) ⊎ RunsInPart files r.sources old.content new.content)
part_given o request Hands moment old new before after was now end is h =
    given_serve o request Hands
    (λ r files. (new.content ≡ old.content) ⊎ RunsInPart files r.sources old.content new.content) is
    (given_as Hands (λ files. MayServe files request moment old new before after was now end) _
    (λ files at. in-part request files moment old new before after was now end at) h)

-- its end is that of the port that it served, if it served one
pub served_given : (o : Opt Request) (request : ServeWords) (Hands : List NamedFile → Type 0) (moment : Opt ℕ)
    (old new : Output) (before after : Opt (List Tended)) (was now : Shelved) (end : CommandEnd) (status : ℕ)
    → o ≡ Some (Serve request) → status ≡ status_of end
    → Given Hands (λ files. MayServe files request moment old new before after was now end)
    → GivenServe o Hands
    (λ r files. (it : CommandEnd) × (status ≡ status_of it) × MayServe files r moment old new before after was now it)
served_given o request Hands moment old new before after was now end status is ends_so h =
    given_serve o request Hands
    (λ r files. (it : CommandEnd) × (status ≡ status_of it) × MayServe files r moment old new before after was now it) is
    (given_as Hands (λ files. MayServe files request moment old new before after was now end) _
    (λ files at. (end, ends_so, at)) h)

-- where no line is said, nothing was said of any line
says-unshown : (explains : Bool) (before after : List ℕ) (line : List ℕ) → Says explains before after []
    → Says explains before after line
says-unshown explains before after line says = (
  [],
  λ no. refl,
  λ no. refl,
  prefix-more before after [] (line ++ []) (line ++ []) refl
      (subst (λ (l : List ℕ). GainsPrefix before after ([] ++ l)) (says.2 refl) says.3),
)

-- how a throw that ended its program is told
abbrev IsToldThrow : Output → Output → Bool → List ℕ → List ℕ → ServeWords → List NamedFile → Type 0
IsToldThrow old new explains before after request files =
    (text : List ℕ)
    × RunsToThrow files request.sources text old.content new.content
    × Says explains before after (uncaught_said text)

threw-told : (end : CommandEnd) (request : ServeWords) (Hands : List NamedFile → Type 0) (faults now_faults : Faults)
    (old new : Output) (was now : Harbored) (explains : Bool) (before after : List ℕ) → status_of end ≡ 8
    → BecauseServe end request Hands faults now_faults old new was now → Says explains before after (said end)
    → Given Hands (IsToldThrow old new explains before after request)
threw-told (ends.Threw text) request Hands faults now_faults old new was now explains before after is h says =
    given_as Hands (λ files. RunsToThrow files request.sources (string_bytes text) old.content new.content)
    (IsToldThrow old new explains before after request) (λ files thrown. (string_bytes text, thrown, says)) h.3
threw-told ends.ThrewUnshown request Hands faults now_faults old new was now explains before after is h says =
    given_as Hands (λ files. RunsToThrow files request.sources h.3.0 old.content new.content)
    (IsToldThrow old new explains before after request)
    (λ files thrown. (h.3.0, thrown, says-unshown explains before after (uncaught_said h.3.0) says)) h.3.1
threw-told ends.Done request Hands faults now_faults old new was now explains before after is h says = absurd cc
threw-told ends.OutOfMemory request Hands faults now_faults old new was now explains before after is h says = absurd cc
threw-told ends.Usage request Hands faults now_faults old new was now explains before after is h says = absurd h
threw-told (ends.Refused name r) request Hands faults now_faults old new was now explains before after is h says = absurd cc
threw-told (ends.CannotStore name) request Hands faults now_faults old new was now explains before after is h says = absurd cc
threw-told (ends.CannotRead name) request Hands faults now_faults old new was now explains before after is h says = absurd cc
threw-told ends.CannotWrite request Hands faults now_faults old new was now explains before after is h says = absurd cc
threw-told (ends.LineRefused n) request Hands faults now_faults old new was now explains before after is h says = absurd h
threw-told ends.NetworkFault request Hands faults now_faults old new was now explains before after is h says = absurd cc
threw-told ends.TicketsSpent request Hands faults now_faults old new was now explains before after is h says = absurd cc
threw-told (ends.PeerClosed replies) request Hands faults now_faults old new was now explains before after is h says = absurd h

pub threw_given : (o : Opt Request) (end : CommandEnd) (request : ServeWords) (Hands : List NamedFile → Type 0)
    (faults now_faults : Faults) (old new : Output) (was now : Harbored) (explains : Bool) (before after : List ℕ) (status : ℕ)
    → o ≡ Some (Serve request) → status ≡ status_of end
    → BecauseServe end request Hands faults now_faults old new was now → Says explains before after (said end)
    → status ≡ 8 → GivenServe o Hands (IsToldThrow old new explains before after)
threw_given o end request Hands faults now_faults old new was now explains before after status is ends_so h says eight =
    given_serve o request Hands (IsToldThrow old new explains before after) is
    (threw-told end request Hands faults now_faults old new was now explains before after (sym ends_so ∙ eight) h says)

-- the statuses at which the doors were opened
abbrev IsPast : ℕ → Type 0
IsPast n = (n ≡ 0) ⊎ (n ≡ 5) ⊎ (n ≡ 8) ⊎ (n ≡ 10)

-- the statuses that come without an opened port are none of those that come with one
not-past-1 : (P : Type 0) → IsPast 1 → P
not-past-1 P (inl is) = absurd cc
not-past-1 P (inr (inl is)) = absurd cc
not-past-1 P (inr (inr (inl is))) = absurd cc
not-past-1 P (inr (inr (inr is))) = absurd cc

not-past-3 : (P : Type 0) → IsPast 3 → P
not-past-3 P (inl is) = absurd cc
not-past-3 P (inr (inl is)) = absurd cc
not-past-3 P (inr (inr (inl is))) = absurd cc
not-past-3 P (inr (inr (inr is))) = absurd cc

not-past-4 : (P : Type 0) → IsPast 4 → P
not-past-4 P (inl is) = absurd cc
not-past-4 P (inr (inl is)) = absurd cc
not-past-4 P (inr (inr (inl is))) = absurd cc
not-past-4 P (inr (inr (inr is))) = absurd cc

not-past-7 : (P : Type 0) → IsPast 7 → P
not-past-7 P (inl is) = absurd cc
not-past-7 P (inr (inl is)) = absurd cc
not-past-7 P (inr (inr (inl is))) = absurd cc
not-past-7 P (inr (inr (inr is))) = absurd cc

-- how a file that is refused is told
abbrev IsToldRefusal : Bool → List ℕ → List ℕ → ServeWords → List NamedFile → Type 0
IsToldRefusal explains before after request files =
    (name : List ℕ)
    × (refusal : TextFault)
    × IsRefusedIn files request.sources name refusal
    × Says explains before after (refusal_said name refusal)

-- how a file that can't be read is told
abbrev IsToldRead : Faults → Faults → (List NamedFile → Type 0) → Bool → List ℕ → List ℕ → ServeWords → Type 0
IsToldRead faults now_faults Hands explains before after request =
    (name : List ℕ)
    × IsNamed request.sources name
    × Blames (Read name) faults now_faults
    × Given Hands (λ files. IsReachedIn files request.sources name)
    × Says explains before after (unread_said name)

-- how a journal that can't be stored is told: the program has ended then
abbrev IsToldStore : Faults → Faults → (List NamedFile → Type 0) → Output → Output → Harbored → Harbored → Bool → List ℕ
    → List ℕ → ServeWords → List ℕ → Type 0
IsToldStore faults now_faults Hands old new was now explains before after request name =
    Blames (Store name) faults now_faults
    × (now.opens ≡ called (request.port, request.sessions) was.opens)
    × Given Hands (λ files. ServesWhole files request old.content new.content)
    × Says explains before after (unstored_said name)

module _ (request : ServeWords) (Hands : List NamedFile → Type 0) (faults now_faults : Faults) (old new : Output)
    (was now : Harbored) where
  abbrev Ended : CommandEnd → Type 0
  Ended end = BecauseServe end request Hands faults now_faults old new was now

  -- how either is told
  abbrev IsToldFile : Bool → List ℕ → List ℕ → ServeWords → Type 0
  IsToldFile explains before after r =
      OrJournal r.journal (IsToldRead faults now_faults Hands explains before after r)
      (IsToldStore faults now_faults Hands old new was now explains before after r)

  read-told : (end : CommandEnd) (explains : Bool) (before after : List ℕ) → status_of end ≡ 4 → Ended end
      → Says explains before after (said end) → IsToldFile explains before after request
  read-told (ends.CannotRead name) explains before after is h says =
      or_quiet request.journal (IsToldRead faults now_faults Hands explains before after request)
      (IsToldStore faults now_faults Hands old new was now explains before after request)
      (name.now, h.2, h.0, h.3, says)
  read-told (ends.CannotStore name) explains before after is h says =
      or_stored request.journal name.now (IsToldRead faults now_faults Hands explains before after request)
      (IsToldStore faults now_faults Hands old new was now explains before after request)
      h.1 (h.0, h.3, h.4, says)
  read-told ends.Done explains before after is h says = absurd cc
  read-told (ends.Threw text) explains before after is h says = absurd cc
  read-told ends.ThrewUnshown explains before after is h says = absurd cc
  read-told ends.OutOfMemory explains before after is h says = absurd cc
  read-told (ends.Refused name r) explains before after is h says = absurd cc
  read-told ends.CannotWrite explains before after is h says = absurd cc
  read-told ends.NetworkFault explains before after is h says = absurd cc
  read-told ends.TicketsSpent explains before after is h says = absurd cc
  read-told ends.Usage explains before after is h says = absurd h
  read-told (ends.LineRefused n) explains before after is h says = absurd h
  read-told (ends.PeerClosed replies) explains before after is h says = absurd h

  refusal-told : (end : CommandEnd) (explains : Bool) (before after : List ℕ) → status_of end ≡ 3 → Ended end
      → Says explains before after (said end) → Given Hands (IsToldRefusal explains before after request)
  refusal-told (ends.Refused name r) explains before after is h says =
      given_as Hands (λ files. IsRefusedIn files request.sources name.now r) (IsToldRefusal explains before after request)
      (λ files refused. (name.now, r, refused, says)) h.2
  refusal-told ends.Done explains before after is h says = absurd cc
  refusal-told (ends.Threw text) explains before after is h says = absurd cc
  refusal-told ends.ThrewUnshown explains before after is h says = absurd cc
  refusal-told ends.OutOfMemory explains before after is h says = absurd cc
  refusal-told (ends.CannotRead name) explains before after is h says = absurd cc
  refusal-told (ends.CannotStore name) explains before after is h says = absurd cc
  refusal-told ends.CannotWrite explains before after is h says = absurd cc
  refusal-told ends.NetworkFault explains before after is h says = absurd cc
  refusal-told ends.TicketsSpent explains before after is h says = absurd cc
  refusal-told ends.Usage explains before after is h says = absurd h
  refusal-told (ends.LineRefused n) explains before after is h says = absurd h
  refusal-told (ends.PeerClosed replies) explains before after is h says = absurd h

  opened-told : (end : CommandEnd) → IsPast (status_of end) → Ended end → IsOpened request.port request.sessions was now
  opened-told ends.Done past h = h.2
  opened-told (ends.Threw text) past h = h.2
  opened-told ends.ThrewUnshown past h = h.2
  opened-told ends.CannotWrite past h = h.2
  opened-told ends.TicketsSpent past h = h.2
  opened-told ends.OutOfMemory past h = not-past-1 _ past
  opened-told (ends.Refused name r) past h = not-past-3 _ past
  opened-told (ends.CannotRead name) past h = not-past-4 _ past
  opened-told (ends.CannotStore name) past h = not-past-4 _ past
  opened-told ends.NetworkFault past h = not-past-7 _ past
  opened-told ends.Usage past h = absurd h
  opened-told (ends.LineRefused n) past h = absurd h
  opened-told (ends.PeerClosed replies) past h = absurd h

  module _ (o : Opt Request) (end : CommandEnd) (status : ℕ) (is : o ≡ Some (Serve request))
      (ends_so : status ≡ status_of end) (h : Ended end) where
    pub read_given : (explains : Bool) (before after : List ℕ) → Says explains before after (said end) → status ≡ 4
        → ForServe o (IsToldFile explains before after)
    read_given explains before after says four =
        let it : IsToldFile explains before after request =
        read-told end explains before after (sym ends_so ∙ four) h says in rw is it

    pub refusal_given : (explains : Bool) (before after : List ℕ) → Says explains before after (said end) → status ≡ 3
        → GivenServe o Hands (IsToldRefusal explains before after)
    refusal_given explains before after says three =
        given_serve o request Hands (IsToldRefusal explains before after) is
        (refusal-told end explains before after (sym ends_so ∙ three) h says)

    pub done_given : status ≡ 0 → GivenServe o Hands (λ r files. ServesToEnd files r old.content new.content)
    done_given done =
        let it : Ended ends.Done = subst Ended (done_only end (sym ends_so ∙ done)) h in
        given_serve o request Hands (λ r files. ServesToEnd files r old.content new.content) is it.3

    pub opened_given : IsPast status → ForServe o (λ r. now.opens ≡ called (r.port, r.sessions) was.opens)
    opened_given past =
        let it : now.opens ≡ called (request.port, request.sessions) was.opens =
        opened-told end (subst IsPast ends_so past) h in rw is it

-- where no memory was left for the words nothing was handed in or served, whatever they ask for
pub unasked : (o : Opt Request) (Hands : List NamedFile → Type 0) (moment : Opt ℕ) (old : Output) (kept : Opt (List Tended))
    (was : Shelved) (status : ℕ) → Hands [] → status ≡ 1
    → GivenServe o Hands
    (λ r files. (it : CommandEnd) × (status ≡ status_of it) × MayServe files r moment old old kept kept was was it)
unasked (Some (Serve request)) Hands moment old kept was status none one =
    ([], none, (ends.OutOfMemory, one, inl (tt, refl, refl)))
unasked None Hands moment old kept was status none one = tt
unasked (Some (words.Run sources)) Hands moment old kept was status none one = tt
unasked (Some (words.Replay request)) Hands moment old kept was status none one = tt
unasked (Some (words.Send request)) Hands moment old kept was status none one = tt
unasked (Some (words.Drill n)) Hands moment old kept was status none one = tt
unasked (Some (words.Help topic)) Hands moment old kept was status none one = tt
unasked (Some words.Version) Hands moment old kept was status none one = tt

-- and nothing was written
pub unwritten : (o : Opt Request) (Hands : List NamedFile → Type 0) (content : List ℕ) → Hands []
    → GivenServe o Hands (λ r files. (content ≡ content) ⊎ RunsInPart files r.sources content content)
unwritten (Some (Serve request)) Hands content none = ([], none, inl refl)
unwritten None Hands content none = tt
unwritten (Some (words.Run request)) Hands content none = tt
unwritten (Some (words.Replay request)) Hands content none = tt
unwritten (Some (words.Send request)) Hands content none = tt
unwritten (Some (words.Drill n)) Hands content none = tt
unwritten (Some (words.Help topic)) Hands content none = tt
unwritten (Some words.Version) Hands content none = tt
