-- Serving a port leaves one history, of which all is so that is said of the program and of its doors.
use Rattle.std.proofs.Common.{◌≡◌, ◌≢◌, ◌<◌, ◌≤◌, ◌⊎◌, ◌||◌, inl, inr, ℕ, zero, suc, ◌+◌, List, All, Option as Opt, Some, None, [], ◌∷◌, ◌++◌, map, length, Bool, true, false, if◌then◌else◌, refl, ap, sym, subst, ◌∙◌, arith, append_assoc, append-nil}
use Rattle.std.proofs.lemmas.Bool.{eq-eqb, ne_eqb}
use Rattle.std.proofs.lemmas.List.{append_cancel_left, length-append, length-map, map-append}
use mathlib.Core.List.{map-map}
use Rattle.std.proofs.lemmas.List.Elements.{All-cons, All-head, All-map, All-nil, All-push, All-tail, All-weaker}
use mathlib.Core.Logic.{dite}
use native.Mathlib.Decide.{dec_lt, ℕ_discrete}
use Rattle.cdp_host_isolation.specs.Histories.{Entry, Attach, Tell, Take, Detach, Ran, Shut, steps_made, whole}
use Rattle.cdp_host_isolation.specs.Makers.{by, entries_of as unmade, entry_of}
use Rattle.cdp_host_isolation.proofs.LongerLemmas.{call-program, whole-more}
use Rattle.cdp_host_isolation.proofs.MakerLemmas.{by-append}
use Rattle.history_lock.specs.Histories.{Begins, IsSpent, has}
use Rattle.history_lock.specs.Passes.{HasInitialOnly, IsSamePass, LockId, PassState, SeesSpent, initial_pass, initial_passes}
use Rattle.history_lock.proofs.Facts.{by_behind, has_behind, has_front}
use Rattle.cdp_edge.specs.Outside.{Rose, IfTold}
use Rattle.cdp_edge_server.specs.Contents.{Tended, any_fault, lowered, raised}
use Rattle.cdp_host_turns.specs.Debuggings.{Debugging, IsHistory, meaning}
use Rattle.ws_service.specs.Doors.{EndsDoor}
use Rattle.ws_service.specs.Joins.{AnswersForAll, AreAll, IsServedDoor, IsUnstarted}
use Rattle.ws_service.specs.Programs.{AreLeft, AreTurns, FindsDue, GainsLines, HasReason, HasRun, IsDue, IsLast, IsRunOf, IsTurn, OnlyRuns, Output, PrintsOn, Writes, may_cut, shuts_at}
use Rattle.ws_service.specs.Serving.{IsEndOfDoors, IsProgramRun, IsServing, ServedDoor, any_door, has_failed, has_shut, numbers_below, was_spent, with_door}
use Rattle.ws_service.specs.declared.door.DoorEnd.{DoorEnd}
use Rattle.ws_service.specs.declared.door.DoorEnd.TheVariants as one
use Rattle.ws_service.specs.declared.ends.DoorsEnd.{DoorsEnd}
use Rattle.ws_service.specs.declared.ends.DoorsEnd.TheVariants as all
use Rattle.ws_service.specs.declared.program.RunEnd.{RunEnd}
use Rattle.ws_service.specs.declared.program.RunEnd.TheVariants as ends
use Rattle.ws_service.proofs.ClientLemmas.{Each, MakesNoSteps, ShutsNothing, each-append, each-are, shutless-door, stepless-door}
use Rattle.ws_service.proofs.JoinLemmas.{among, had-so, served-so}
use Rattle.ws_service.proofs.OutputLemmas.{writes-over}
use Rattle.ws_service.proofs.EntryLemmas.{Falls, falls, none-between, same-tail}
use Rattle.ws_service.proofs.ProgramLemmas.{none-made, only-after}

-- ---- how doors ended

any-push : (test : Opt DoorEnd → Bool) (doors : List (Opt DoorEnd)) (door : Opt DoorEnd)
    → any_door test (doors ++ door ∷ []) ≡ (any_door test doors || test door)
any-push test [] door = or-false (test door)
  where
    or-false : (b : Bool) → (b || false) ≡ b
    or-false true = refl
    or-false false = refl
any-push test (first ∷ doors) door =
    ap (λ (b : Bool). test first || b) (any-push test doors door) ∙ or-assoc (test first) (any_door test doors) (test door)
  where
    or-assoc : (a b c : Bool) → (a || (b || c)) ≡ ((a || b) || c)
    or-assoc true b c = refl
    or-assoc false b c = refl

module _ (doors : List (Opt DoorEnd)) where
  neither : (a b : Bool) → a ≡ false → b ≡ false → (a || b) ≡ false
  neither a b first second = ap (λ (x : Bool). x || b) first ∙ second

  first-one : (a b : Bool) → a ≡ true → (a || b) ≡ true
  first-one a b is = ap (λ (x : Bool). x || b) is

  second-one : (a b : Bool) → b ≡ true → (a || b) ≡ true
  second-one true b is = refl
  second-one false b is = is

  any-more : (test : Opt DoorEnd → Bool) (door : Opt DoorEnd) → any_door test doors ≡ true
      → any_door test (doors ++ door ∷ []) ≡ true
  any-more test door is = any-push test doors door ∙ first-one (any_door test doors) (test door) is

  any-last : (test : Opt DoorEnd → Bool) (door : Opt DoorEnd) → test door ≡ true
      → any_door test (doors ++ door ∷ []) ≡ true
  any-last test door is = any-push test doors door ∙ second-one (any_door test doors) (test door) is

  none-more : (test : Opt DoorEnd → Bool) (door : Opt DoorEnd) → any_door test doors ≡ false → test door ≡ false
      → any_door test (doors ++ door ∷ []) ≡ false
  none-more test door before is =
      any-push test doors door ∙ neither (any_door test doors) (test door) before is

  -- a door that neither failed nor was without a ticket changes nothing
  ends-well : (together : DoorsEnd) (door : Opt DoorEnd) → has_failed door ≡ false → was_spent door ≡ false
      → IsEndOfDoors together doors → IsEndOfDoors together (doors ++ door ∷ [])
  ends-well all.Over door well ticket are = (none-more has_failed door are.0 well, none-more was_spent door are.1 ticket)
  ends-well all.Failed door well ticket are = any-more has_failed door are
  ends-well all.Spent door well ticket are = (none-more has_failed door are.0 well, any-more was_spent door are.1)

  -- one door more
  pub ends-push : (together : DoorsEnd) (door : Opt DoorEnd) → IsEndOfDoors together doors
      → IsEndOfDoors (with_door together door) (doors ++ door ∷ [])
  ends-push together None are = ends-well together None refl refl are
  ends-push together (Some (one.Over state)) are = ends-well together (Some (one.Over state)) refl refl are
  ends-push together (Some (one.Fault unshut)) are = any-last has_failed (Some (one.Fault unshut)) refl
  ends-push all.Over (Some (one.Spent ticket)) are =
      (none-more has_failed (Some (one.Spent ticket)) are.0 refl, any-last was_spent (Some (one.Spent ticket)) refl)
  ends-push all.Failed (Some (one.Spent ticket)) are = any-more has_failed (Some (one.Spent ticket)) are
  ends-push all.Spent (Some (one.Spent ticket)) are =
      (none-more has_failed (Some (one.Spent ticket)) are.0 refl, any-last was_spent (Some (one.Spent ticket)) refl)

-- where none of them failed, none of these did
pub none-failed : {X : Type 0} (ended : X → Opt DoorEnd) (desks : List X)
    → any_door has_failed (map ended desks) ≡ false → All (λ x. has_failed (ended x) ≡ false) desks
none-failed ended [] is = All-nil (λ x. has_failed (ended x) ≡ false)
none-failed ended (desk ∷ desks) is =
    All-cons (λ x. has_failed (ended x) ≡ false) desk desks
    (left-false (has_failed (ended desk)) (any_door has_failed (map ended desks)) is)
    (none-failed ended desks (right-false (has_failed (ended desk)) (any_door has_failed (map ended desks)) is))
  where
    left-false : (a b : Bool) → (a || b) ≡ false → a ≡ false
    left-false true b is = is
    left-false false b is = refl

    right-false : (a b : Bool) → (a || b) ≡ false → b ≡ false
    right-false true b is = absurd cc
    right-false false b is = is

-- ---- all makers

is-run-of : (k maker : ℕ) (entry : Entry) → MakesNoSteps entry → IsRunOf k maker entry
is-run-of k maker Attach none = tt
is-run-of k maker (Tell s text) none = tt
is-run-of k maker (Take s) none = tt
is-run-of k maker (Detach s) none = tt
is-run-of k maker (Ran steps moment lost) none = absurd none
is-run-of k maker Shut none = tt

is-own-run : (k maker : ℕ) (entry : Entry) → maker ≡ k → IsRunOf k maker entry
is-own-run k maker Attach is = tt
is-own-run k maker (Tell s text) is = tt
is-own-run k maker (Take s) is = tt
is-own-run k maker (Detach s) is = tt
is-own-run k maker (Ran steps moment lost) is = is
is-own-run k maker Shut is = tt

by-same : (k maker : ℕ) (entry : Entry) (h : List (ℕ × Entry)) → maker ≡ k → by k ((maker, entry) ∷ h) ≡ entry ∷ by k h
by-same k maker entry h is = ap (λ (b : Bool). if b then entry ∷ by k h else by k h) (eq-eqb maker k is)

by-another : (k maker : ℕ) (entry : Entry) (h : List (ℕ × Entry)) → maker ≢ k → by k ((maker, entry) ∷ h) ≡ by k h
by-another k maker entry h other = ap (λ (b : Bool). if b then entry ∷ by k h else by k h) (ne_eqb maker k other)

none-behind : (x : ℕ) (made : ℕ × Entry) (h : List (ℕ × Entry)) → Each MakesNoSteps (by x (made ∷ h)) → Each MakesNoSteps (by x h)
none-behind x made h none = dite (ℕ_discrete made.0 x)
    (λ is. (subst (Each MakesNoSteps) (by-same x made.0 made.1 h is) none).1)
    (λ other. subst (Each MakesNoSteps) (by-another x made.0 made.1 h other) none)

-- each entry that makes steps is of one maker, where no other has left one
pub only-runs : (k : ℕ) (h : List (ℕ × Entry)) → ((x : ℕ) → x ≢ k → Each MakesNoSteps (by x h)) → OnlyRuns k h
only-runs k [] none = tt
only-runs k (made ∷ h) none = (
  dite (ℕ_discrete made.0 k) (is-own-run k made.0 made.1)
      (λ other.
      is-run-of k made.0 made.1
      (subst (Each MakesNoSteps) (by-same made.0 made.0 made.1 h refl) (none made.0 other)).0),
  only-runs k h (λ x other. none-behind x made h (none x other)),
)

-- ---- numbers

-- each number below is among them
pub has-below : (n x : ℕ) → x < n → has x (numbers_below n) ≡ true
has-below zero x lt = absurd (omega (arith, lt))
has-below (suc n) x lt = dite (ℕ_discrete n x)
    (λ same. has_behind x (numbers_below n) (n ∷ []) (ap (λ (b : Bool). if b then true else false) (eq-eqb n x same)))
    (λ other. has_front x (numbers_below n) (n ∷ []) (has-below n x (omega (arith, lt, other))))

module _ {X : Type 0} (d : Debugging) (number : X → ℕ) (door : X → Tended) (ended : X → Opt DoorEnd) (n : ℕ)
    (h : List (ℕ × Entry)) (spent : Type 0) (desks : List X) where
  -- what is so of the entries of each door, and of those of another number, is so of those of all but the program's
  besides : (P : Entry → Type 0) → map number desks ≡ numbers_below n → ((x : ℕ) → n < x → by x h ≡ [])
      → All (λ x. Each P (by (number x) h)) desks → (x : ℕ) → x ≢ n → Each P (by x h)
  besides P numbers beyond each x other = dite (dec_lt x n)
      (λ lt.
      among (λ y. Each P (by y h)) number desks x each (ap (has x) numbers ∙ has-below n x lt))
      (λ above. each-are P (by x h) [] (beyond x (omega (arith, above, other))) tt)

  -- each entry that makes steps is the program's
  pub only-program : map number desks ≡ numbers_below n → ((x : ℕ) → n < x → by x h ≡ [])
      → All (λ x. IsServedDoor d (number x) h spent (door x) (ended x)) desks → OnlyRuns n h
  only-program numbers beyond served =
      only-runs n h
      (besides MakesNoSteps numbers beyond
      (All-weaker (λ x. IsServedDoor d (number x) h spent (door x) (ended x)) (λ x. Each MakesNoSteps (by (number x) h))
      (λ x s. stepless-door d (number x) h spent (door x) (ended x) s) desks served))

  -- where no door failed, none of another than the program shuts it
  no-shut-besides : map number desks ≡ numbers_below n → ((x : ℕ) → n < x → by x h ≡ [])
      → All (λ x. IsServedDoor d (number x) h spent (door x) (ended x)) desks
      → any_door has_failed (map ended desks) ≡ false → (x : ℕ) → x ≢ n → Each ShutsNothing (by x h)
  no-shut-besides numbers beyond served well =
      besides ShutsNothing numbers beyond
      (All-both (λ x. has_failed (ended x) ≡ false) (λ x. IsServedDoor d (number x) h spent (door x) (ended x))
      (λ x. Each ShutsNothing (by (number x) h))
      (λ x good s. shutless-door d (number x) h spent (door x) (ended x) good s) desks (none-failed ended desks well)
      served)
    where
      All-both : (P Q R : X → Type 0) → ((x : X) → P x → Q x → R x) → (xs : List X) → All P xs → All Q xs → All R xs
      All-both P Q R so xs first second = λ k x within. so _ (first k x within) (second k x within)

-- ---- shuts

-- where nobody's entries shut the program, none does
no-shut : (h : List (ℕ × Entry)) → ((x : ℕ) → Each ShutsNothing (by x h)) → has_shut (unmade h) ≡ false
no-shut [] none = refl
no-shut (made ∷ h) none =
    ap (λ (b : Bool). b || has_shut (unmade h))
    (subst (Each ShutsNothing) (by-same made.0 made.0 made.1 h refl) (none made.0)).0
    ∙ no-shut h (λ x. one-less x (none x))
  where
    one-less : (x : ℕ) → Each ShutsNothing (by x (made ∷ h)) → Each ShutsNothing (by x h)
    one-less x each = dite (ℕ_discrete made.0 x)
        (λ is. (subst (Each ShutsNothing) (by-same x made.0 made.1 h is) each).1)
        (λ other. subst (Each ShutsNothing) (by-another x made.0 made.1 h other) each)

turn-shuts-nothing : (moment : Opt ℕ) (entry : Entry) → IsTurn moment entry → ShutsNothing entry
turn-shuts-nothing moment Attach is = absurd is
turn-shuts-nothing moment (Tell s text) is = absurd is
turn-shuts-nothing moment (Take s) is = refl
turn-shuts-nothing moment (Detach s) is = absurd is
turn-shuts-nothing moment (Ran steps at lost) is = refl
turn-shuts-nothing moment Shut is = absurd is

turns-shut-nothing : (moment : Opt ℕ) (entries : List Entry) → AreTurns moment entries → Each ShutsNothing entries
turns-shut-nothing moment [] are = tt
turns-shut-nothing moment (entry ∷ entries) are =
    (turn-shuts-nothing moment entry are.0, turns-shut-nothing moment entries are.1)

-- a run whose output is whole left no shut
whole-unshut : (end : RunEnd) → may_cut (Some end) ≡ false → shuts_at (Some end) ≡ []
whole-unshut ends.Ended is = refl
whole-unshut ends.Threw is = refl
whole-unshut ends.Shut is = refl
whole-unshut ends.Broken is = refl
whole-unshut (ends.WriteFault unshut) is = absurd cc
whole-unshut (ends.Spent ticket) is = refl
whole-unshut (ends.Memory unshut) is = absurd cc

run-shuts-nothing : (moment : Opt ℕ) (end : RunEnd) (entries : List Entry) → may_cut (Some end) ≡ false
    → AreLeft moment (Some end) entries → Each ShutsNothing entries
run-shuts-nothing moment end entries is left =
    each-are ShutsNothing entries (left.0 ++ shuts_at (Some end)) left.2
    (each-append ShutsNothing left.0 (shuts_at (Some end)) (turns-shut-nothing moment left.0 left.1)
    (each-are ShutsNothing (shuts_at (Some end)) [] (whole-unshut end is) tt))

-- ---- the program over a longer history

-- where nothing more of this maker was left, and nobody else makes steps, none were made
none-after : (k : ℕ) (h more : List (ℕ × Entry)) → OnlyRuns k (h ++ more) → by k more ≡ []
    → steps_made (unmade more) ≡ 0
none-after k h more only nothing = none-made k more (only-after k h more only) nothing

-- the program is where it was
program-stays : (d : Debugging) (h more : List (ℕ × Entry)) → steps_made (unmade more) ≡ 0
    → (meaning d (h ++ more)).program ≡ (meaning d h).program
program-stays d h [] none = ap (λ l. (meaning d l).program) (append-nil h)
program-stays d h (made ∷ more) none =
    ap (λ l. (meaning d l).program) (sym (append_assoc h (made ∷ []) more))
    ∙ program-stays d (h ++ made ∷ []) more (omega (arith, none))
    ∙ ap (λ es. (whole d.protocol d.program d.wait es).program) (map-append entry_of h (made ∷ []))
    ∙ ap (λ m. m.program) (whole-more d.protocol d.program d.wait (unmade h) made.1)
    ∙ call-program d.protocol (meaning d h) made.1 (omega (arith, none))

due-over-at : (d : Debugging) (k : ℕ) (new more front rest : List (ℕ × Entry)) (entry : Entry) (end : Opt RunEnd)
    → by k more ≡ [] → new ++ more ≡ front ++ (k, entry) ∷ rest
    → ((rest : List (ℕ × Entry)) → new ≡ front ++ (k, entry) ∷ rest → IsDue d front entry ⊎ IsLast k end entry rest)
    → Falls new front (k, entry) → IsDue d front entry ⊎ IsLast k end entry rest
due-over-at d k new more front rest entry end nothing is due (inl later) =
    absurd (none-between k new more front rest entry nothing later is)
due-over-at d k new more front rest entry end nothing is due (inr within) = last (due within.0 within.1)
  where
    same : within.0 ++ more ≡ rest
    same =
        same-tail (k, entry) (k, entry) (within.0 ++ more) rest
        (append_cancel_left front ((k, entry) ∷ (within.0 ++ more)) ((k, entry) ∷ rest)
        (sym (append_assoc front ((k, entry) ∷ within.0) more) ∙ ap (λ l. l ++ more) (sym within.1) ∙ is))

    last : IsDue d front entry ⊎ IsLast k end entry within.0 → IsDue d front entry ⊎ IsLast k end entry rest
    last (inl was) = inl was
    last (inr broken) = inr (
      broken.0,
      broken.1,
      ap (by k) (sym same)
          ∙ by-append k within.0 more
          ∙ ap (λ l. l ++ by k more) broken.2
          ∙ nothing,
    )

due-over : (d : Debugging) (k : ℕ) (old new more : List (ℕ × Entry)) (end : Opt RunEnd) → by k more ≡ []
    → FindsDue d k old new end → FindsDue d k old (new ++ more) end
due-over d k old new more end nothing due = λ front rest entry begins is.
    due-over-at d k new more front rest entry end nothing is (λ behind found. due front behind entry begins found)
    (falls new more front rest (k, entry) is)

-- what an end says stays so
reason-over : (d : Debugging) (end : RunEnd) (h more : List (ℕ × Entry)) (spent : Type 0) → steps_made (unmade more) ≡ 0
    → HasReason d (Some end) h spent → HasReason d (Some end) (h ++ more) spent
reason-over d ends.Ended h more spent none is =
    subst (λ c. (d.protocol.is_over c ≡ true) × (d.has_thrown c ≡ false)) (sym (program-stays d h more none)) is
reason-over d ends.Threw h more spent none is =
    subst (λ c. (d.protocol.is_over c ≡ true) × (d.has_thrown c ≡ true)) (sym (program-stays d h more none)) is
reason-over d ends.Shut h more spent none is =
    (is.0, (is.1.0 ++ more, ap (λ l. l ++ more) is.1.1 ∙ append_assoc is.0 is.1.0 more), is.2)
reason-over d ends.Broken h more spent none is = tt
reason-over d (ends.WriteFault unshut) h more spent none is = is
reason-over d (ends.Spent ticket) h more spent none is = is
reason-over d (ends.Memory unshut) h more spent none is = is

-- and where more is known of no ticket being left
reason-so : (d : Debugging) (end : RunEnd) (h : List (ℕ × Entry)) (spent more : Type 0) → (spent → more)
    → HasReason d (Some end) h spent → HasReason d (Some end) h more
reason-so d ends.Ended h spent more on is = is
reason-so d ends.Threw h spent more on is = is
reason-so d ends.Shut h spent more on is = is
reason-so d ends.Broken h spent more on is = tt
reason-so d (ends.WriteFault unshut) h spent more on is = had-so spent more unshut on is
reason-so d (ends.Spent ticket) h spent more on is = (is.0, on is.1)
reason-so d (ends.Memory unshut) h spent more on is = had-so spent more unshut on is

-- ---- all together

module _ (d : Debugging) (n : ℕ) (moment : Opt ℕ) (p m : PassState Entry) (h : List (ℕ × Entry)) (old new : Output)
    (end : RunEnd) where
  -- the run of the program, over the one history
  program-run : p.seen ≡ [] → p.number ≡ n → HasRun d moment p m old new (Some end) → Begins m.seen h
      → by n h ≡ by n m.seen → OnlyRuns n h → (m.refused ≡ true → IsSpent h)
      → IsProgramRun d n moment old new end h
  program-run start number r longer own only sees = record {
    left = subst (AreLeft moment (Some end)) (sym (own ∙ all-own)) r.left;
    due =
        subst (λ l. FindsDue d n [] l (Some end)) (sym longer.1)
        (due-over d n [] m.seen longer.0 (Some end) nothing
        (subst (λ (z : ℕ × List (ℕ × Entry)). FindsDue d z.0 z.1 m.seen (Some end)) (λ i. (number i, start i)) r.due));
    texts = wrote.0;
    prints = wrote.1;
    gains = wrote.2;
    reason =
        reason-so d end h (m.refused ≡ true) (IsSpent h) sees
        (subst (λ l. HasReason d (Some end) l (m.refused ≡ true)) (sym longer.1)
        (reason-over d end m.seen longer.0 (m.refused ≡ true)
        (none-after n m.seen longer.0 (subst (OnlyRuns n) longer.1 only) nothing) r.reason));
    counts = r.counts;
  }
    where
      all-own : by n m.seen ≡ r.entries
      all-own =
          subst (λ (z : ℕ × List (ℕ × Entry)). by z.0 m.seen ≡ by z.0 z.1 ++ r.entries) (λ i. (number i, start i))
          r.goes.own

      nothing : by n longer.0 ≡ []
      nothing = by_behind n m.seen longer.0 h longer.1 own

      cut : Bool
      cut = may_cut (Some end)

      wrote : (texts : List (List ℕ)) × PrintsOn d [] h texts × GainsLines cut old.content new.content texts
      wrote =
          writes-over d n cut [] m.seen h old.content new.content (m.seen, refl) longer own
          (subst (λ (z : ℕ × List (ℕ × Entry)). Writes d z.0 cut z.1 m.seen old.content new.content)
          (λ i. (number i, start i)) r.writes)
          h refl only

module _ {X : Type 0} (d : Debugging) (n : ℕ) (moment : Opt ℕ) (p m : PassState Entry) (h : List (ℕ × Entry))
    (old new : Output) (end : RunEnd) (number : X → ℕ) (door : X → Tended) (ended : X → Opt DoorEnd)
    (desks : List X) where
  -- a desk's door, as it is told
  abbrev pub served_of : X → ServedDoor
  served_of x = record { number = number x; door = door x; end = ended x }

  -- the program was shut only where its output couldn't be written, or a door failed
  may-shut : (together : DoorsEnd) (cut : Bool) → may_cut (Some end) ≡ cut
      → (may_cut (Some end) ≡ false → any_door has_failed (map ended desks) ≡ false → has_shut (unmade h) ≡ false)
      → IsEndOfDoors together (map ended desks) → has_shut (unmade h) ≡ true
      → (may_cut (Some end) ≡ true) ⊎ (together ≡ all.Failed)
  may-shut together true is none are shut = inl is
  may-shut all.Failed false is none are shut = inr refl
  may-shut all.Over false is none are shut = let well = none is are.0 in absurd cc
  may-shut all.Spent false is none are shut = let well = none is are.0 in absurd cc

  -- The run of the program and all doors, over the one history.
  pub serving : (together : DoorsEnd) → p.seen ≡ [] → p.number ≡ n → HasRun d moment p m old new (Some end)
      → Begins m.seen h → by n h ≡ by n m.seen → IsHistory d h → (spent : Type 0) → (m.refused ≡ true → spent)
      → (spent → IsSpent h) → All (λ x. IsServedDoor d (number x) h spent (door x) (ended x)) desks
      → map number desks ≡ numbers_below n
      → ((x : ℕ) → n < x → by x h ≡ []) → IsEndOfDoors together (map ended desks)
      → IsServing d n moment old new (record { run = end; doors = together }) h (map served_of desks)
  serving together start is_number r longer own is spent told sees known numbers beyond are = record {
    history = is;
    runs = run;
    served =
        All-map (λ (s : ServedDoor). IsServedDoor d s.number h (IsSpent h) s.door s.end) served_of desks served;
    numbers = map-map (λ (s : ServedDoor). s.number) served_of desks ∙ numbers;
    others = beyond;
    ended =
        subst (IsEndOfDoors together) (sym (map-map (λ (s : ServedDoor). s.end) served_of desks)) are;
    shut = may-shut together (may_cut (Some end)) refl nothing are;
  }
    where
      served : All (λ x. IsServedDoor d (number x) h (IsSpent h) (door x) (ended x)) desks
      served =
          All-weaker (λ x. IsServedDoor d (number x) h spent (door x) (ended x))
          (λ x. IsServedDoor d (number x) h (IsSpent h) (door x) (ended x))
          (λ x at. served-so d (number x) h spent (IsSpent h) (door x) (ended x) sees at) desks known

      only : OnlyRuns n h
      only = only-program d number door ended n h (IsSpent h) desks numbers beyond served

      run : IsProgramRun d n moment old new end h
      run = program-run d n moment p m h old new end start is_number r longer own only (λ refused. sees (told refused))

      nothing : may_cut (Some end) ≡ false → any_door has_failed (map ended desks) ≡ false
          → has_shut (unmade h) ≡ false
      nothing whole well = no-shut h (λ x. dite (ℕ_discrete x n)
          (λ same.
          subst (λ (y : ℕ). Each ShutsNothing (by y h)) (sym same)
          (run-shuts-nothing moment end (by n h) whole run.left))
          (λ other. no-shut-besides d number door ended n h (IsSpent h) desks numbers beyond served well x other))

-- ---- the passes with which a lock begins

unstarted-pass : (lock : LockId) (n k : ℕ) → IsUnstarted lock (initial_pass lock n k)
unstarted-pass lock n k = record {
  lock_is = refl;
  free = refl;
  start = refl;
  named = ap (λ (b : Bool). if b then true else false) (eq-eqb k k refl);
  unsplit = refl;
}

pub all-unstarted : (lock : LockId) (n k : ℕ) → All (λ p. IsUnstarted lock p) (initial_passes lock n k)
all-unstarted lock n zero = All-nil (λ p. IsUnstarted lock p)
all-unstarted lock n (suc k) =
    All-push (λ p. IsUnstarted lock p) (initial_passes lock n k) (initial_pass lock n k) (all-unstarted lock n k)
    (unstarted-pass lock n k)

-- they are numbered from 0 on
pub initial-numbers : (lock : LockId) (n k : ℕ)
    → map (λ (p : PassState Entry). p.number) (initial_passes lock n k) ≡ numbers_below k
initial-numbers lock n zero = refl
initial-numbers lock n (suc k) =
    map-append (λ (p : PassState Entry). p.number) (initial_passes lock n k) (initial_pass lock n k ∷ [])
    ∙ ap (λ l. l ++ k ∷ []) (initial-numbers lock n k)

-- the last of them and those before it are all
pub all-initial : (lock : LockId) (n : ℕ) (p : PassState Entry) (numbers : List ℕ) → p ≡ initial_pass lock (n + 1) n
    → numbers ≡ numbers_below n → AreAll p numbers
all-initial lock n p numbers is below =
    subst (λ (z : PassState Entry × List ℕ). AreAll z.0 z.1) (λ i. (sym is i, sym below i)) (refl, λ x lt. each x lt)
  where
    each : (x : ℕ) → x < n + 1 → (has x (n ∷ []) ≡ true) ⊎ (has x (numbers_below n) ≡ true)
    each x lt = dite (ℕ_discrete n x)
        (λ same. inl (ap (λ (b : Bool). if b then true else false) (eq-eqb n x same)))
        (λ other. inr (has-below n x (omega (arith, lt, other))))

-- ---- faults of doors

counted : (d : Debugging) (k : ℕ) (h : List (ℕ × Entry)) (spent : Type 0) (end : DoorEnd) (last : List Entry)
    (faults : ℕ) → has_failed (Some end) ≡ true → EndsDoor d k h spent end last 0 faults → 0 < faults
counted d k h spent (one.Over state) last faults failed e = absurd cc
counted d k h spent (one.Spent ticket) last faults failed e = absurd cc
counted d k h spent (one.Fault unshut) last faults failed e = rose e.2
  where
    rose : Rose 0 faults → 0 < faults
    rose (inl lt) = lt
    rose (inr is) = absurd (omega (arith, is))

fault-first : (n : ℕ) (counts : List ℕ) → 0 < n → any_fault (n ∷ counts) ≡ true
fault-first zero counts lt = absurd (omega (arith, lt))
fault-first (suc n) counts lt = refl

fault-later : (n : ℕ) (counts : List ℕ) → any_fault counts ≡ true → any_fault (n ∷ counts) ≡ true
fault-later zero counts is = is
fault-later (suc n) counts is = refl

-- where a door failed, one of them counts a fault
pub door-failed : (d : Debugging) (h : List (ℕ × Entry)) (spent : Type 0) (served : List ServedDoor)
    → All (λ (s : ServedDoor). IsServedDoor d s.number h spent s.door s.end) served
    → any_door has_failed (map (λ (s : ServedDoor). s.end) served) ≡ true
    → any_fault (map (λ (s : ServedDoor). s.door.faults) served) ≡ true
door-failed d h spent [] each is = absurd cc
door-failed d h spent (s ∷ served) each is =
    here (has_failed s.end) refl
    (λ rest.
    door-failed d h spent served
    (All-tail (λ (t : ServedDoor). IsServedDoor d t.number h spent t.door t.end) s served each) rest)
  where
    counts : List ℕ
    counts = map (λ (t : ServedDoor). t.door.faults) served

    others : Bool
    others = any_door has_failed (map (λ (t : ServedDoor). t.end) served)

    at : IsServedDoor d s.number h spent s.door s.end
    at = All-head (λ (t : ServedDoor). IsServedDoor d t.number h spent t.door t.end) s served each

    here : (b : Bool) → has_failed s.end ≡ b → (others ≡ true → any_fault counts ≡ true)
        → any_fault (s.door.faults ∷ counts) ≡ true
    here true it rest =
        fault-first s.door.faults counts
        (counted d s.number at.ends.0 spent at.end at.last s.door.faults (ap has_failed (sym at.is_end) ∙ it) at.ends.2)
    here false it rest =
        fault-later s.door.faults counts (rest (sym (ap (λ (x : Bool). x || others) it) ∙ is))

-- ---- doors for which no ticket was left

spent-at : (d : Debugging) (k : ℕ) (h : List (ℕ × Entry)) (spent : Type 0) (end : DoorEnd) (last : List Entry)
    (faults : ℕ) → was_spent (Some end) ≡ true → EndsDoor d k h spent end last 0 faults → spent
spent-at d k h spent (one.Over state) last faults was e = absurd cc
spent-at d k h spent (one.Fault unshut) last faults was e = absurd cc
spent-at d k h spent (one.Spent ticket) last faults was e = e.3

-- what is so where no ticket was left is so where none was left for one of them
pub spent-door : (d : Debugging) (h : List (ℕ × Entry)) (spent : Type 0) (served : List ServedDoor)
    → All (λ (s : ServedDoor). IsServedDoor d s.number h spent s.door s.end) served
    → any_door was_spent (map (λ (s : ServedDoor). s.end) served) ≡ true → spent
spent-door d h spent [] each is = absurd cc
spent-door d h spent (s ∷ served) each is =
    here (was_spent s.end) refl
    (λ rest.
    spent-door d h spent served
    (All-tail (λ (t : ServedDoor). IsServedDoor d t.number h spent t.door t.end) s served each) rest)
  where
    at : IsServedDoor d s.number h spent s.door s.end
    at = All-head (λ (t : ServedDoor). IsServedDoor d t.number h spent t.door t.end) s served each

    others : Bool
    others = any_door was_spent (map (λ (t : ServedDoor). t.end) served)

    here : (b : Bool) → was_spent s.end ≡ b → (others ≡ true → spent) → spent
    here true it rest =
        spent-at d s.number at.ends.0 spent at.end at.last s.door.faults (ap was_spent (sym at.is_end) ∙ it) at.ends.2
    here false it rest = rest (sym (ap (λ (x : Bool). x || others) it) ∙ is)

-- ---- the pass of the program, into which all others were joined

-- a pass is the same for all that counts here
all-same : (p m : PassState Entry) (numbers : List ℕ) → IsSamePass p m → AreAll p numbers → AreAll m numbers
all-same p m numbers same are = (
  same.3 ∙ are.0,
  λ x lt.
      subst (λ l. (has x l ≡ true) ⊎ (has x numbers ≡ true)) (sym same.2)
      (are.1 x (subst (λ (n : ℕ). x < n) same.4 lt)),
)

-- it answers for all, and no entry has a further number
pub answers-last : (lock : LockId) (n : ℕ) (p m q : PassState Entry) (numbers : List ℕ)
    → p ≡ initial_pass lock (n + 1) n → IsSamePass p m → numbers ≡ numbers_below n
    → (AreAll m numbers → AnswersForAll q) → q.initial ≡ m.initial → HasInitialOnly q → SeesSpent q
    → AnswersForAll q × ((x : ℕ) → n < x → by x q.seen ≡ []) × (q.refused ≡ true → IsSpent q.seen)
answers-last lock n p m q numbers is same below answers initial only sees = (
  all,
  λ x lt. only all.1 all.0 x (subst (λ (k : ℕ). k ≤ x) (sym first) (omega (arith, lt))),
  sees all.1 all.0,
)
  where
    all : AnswersForAll q
    all = answers (all-same p m numbers same (all-initial lock n p numbers is below))

    first : q.initial ≡ n + 1
    first = initial ∙ same.4 ∙ ap (λ z. z.initial) is

-- the number of the program's pass is among its own
pub last-named : (lock : LockId) (n : ℕ) (p m : PassState Entry) → p ≡ initial_pass lock (n + 1) n → IsSamePass p m
    → has n m.numbers ≡ true
last-named lock n p m is same =
    ap (has n) (same.2 ∙ ap (λ z. z.numbers) is) ∙ ap (λ (b : Bool). if b then true else false) (eq-eqb n n refl)

-- ---- doors that are out

pub told-raised : (out : Opt ℕ) (n : ℕ) → IfTold (raised out n) (λ (k : ℕ). n ≤ k)
told-raised None n = tt
told-raised (Some out) n = omega arith

pub lowered-raised : (out : Opt ℕ) (n : ℕ) → lowered (raised out n) n ≡ out
lowered-raised None n = refl
lowered-raised (Some out) n = ap Some (omega arith)

length-below : (n : ℕ) → length (numbers_below n) ≡ n
length-below zero = refl
length-below (suc n) = length-append (numbers_below n) (n ∷ []) ∙ ap (λ (k : ℕ). k + 1) (length-below n) ∙ omega arith

-- so many doors came back
pub as-many : {Y : Type 0} (tended : Y → Tended) (n : ℕ) (back : List Y) (served : List ServedDoor)
    → map tended back ≡ map (λ (s : ServedDoor). s.door) served
    → map (λ (s : ServedDoor). s.number) served ≡ numbers_below n → length back ≡ n
as-many tended n back served same numbers =
    sym (length-map back tended)
    ∙ ap length same
    ∙ length-map served (λ (s : ServedDoor). s.door)
    ∙ sym (length-map served (λ (s : ServedDoor). s.number))
    ∙ ap length numbers
    ∙ length-below n

-- doors below others are as many as those, where each has the faults of its own
pub as-many-below : {X Y : Type 0} (f : X → ℕ) (g : Y → ℕ) (below : List X) (above : List Y)
    → map f below ≡ map g above → length below ≡ length above
as-many-below f g below above same = sym (length-map below f) ∙ ap length same ∙ length-map above g
