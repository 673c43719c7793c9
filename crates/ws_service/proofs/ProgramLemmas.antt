-- A pass runs a program, turn after turn.
use Rattle.std.proofs.Common.{◌≡◌, ◌≢◌, ◌⊎◌, inl, inr, ℕ, ◌+◌, List, [], ◌∷◌, ◌++◌, Bool, true, false, Option, Some, None, if◌then◌else◌, refl, ap, sym, subst, ◌∙◌, arith, append_assoc, append-nil}
use Rattle.std.proofs.lemmas.Bool.{eq-eqb, ne_eqb}
use Rattle.std.proofs.lemmas.List.{append_cancel_left, map-append}
use mathlib.Core.Logic.{dite}
use native.Mathlib.Decide.{ℕ_discrete}
use Rattle.cdp_host_isolation.specs.Histories.{Entry, Attach, Tell, Take, Detach, Ran, Shut, steps_made, steps_of, whole}
use Rattle.cdp_host_isolation.specs.Makers.{by, entries_of, entry_of}
use Rattle.cdp_host_isolation.proofs.LongerLemmas.{call-program, whole-more}
use Rattle.history_lock.specs.Histories.{Begins, limit}
use Rattle.history_lock.specs.Passes.{PassState, refused_pass}
use Rattle.cdp_edge.specs.Outside.{GainsPrefix, IfTold, gains}
use Rattle.cdp_edge.proofs.Gains.{GainsPrefix-behind, gains-nil, gains-next}
use Rattle.cdp_edge.specs.declared.sink.SinkFault.{SinkFault}
use Rattle.cdp_edge.specs.declared.sink.SinkFault.TheVariants as sink
use Rattle.cdp_edge_printing.specs.Printing.{printed_lines}
use Rattle.cdp_edge_printing.proofs.PrintingLemmas.{lines-append}
use Rattle.cdp_host_turns.specs.Debuggings.{Debugging, meaning}
use Rattle.cdp_host_turns.specs.States.{HasState}
use Rattle.cdp_host_turns.specs.Turns.{Acts, Finds, Prints, Steps, printed_by}
use Rattle.cdp_host_turns.specs.declared.state.State.{State}
use Rattle.cdp_host_turns.specs.declared.state.State.TheVariants as states
use Rattle.ws_service.specs.Passing.{IsThereFor}
use Rattle.ws_service.specs.Programs.{AreLeft, AreTurns, Counts, FindsDue, Finishes, GainsLines, HasReason, HasRun, IsDue, IsGivenUp, IsLast, IsRunOf, OnlyRuns, Output, Writes, end_at, end_in, may_cut, shuts_at}
use Rattle.ws_service.specs.Shutdowns.{HadNoTicket, ShutsDown, shut_entries}
use Rattle.ws_service.specs.declared.program.RunEnd.{RunEnd}
use Rattle.ws_service.specs.declared.program.RunEnd.TheVariants as ends
use Rattle.ws_service.specs.declared.shutdown.NotShut.{NotShut}
use Rattle.ws_service.proofs.EntryLemmas.{Falls, alone, falls, none-at-all, none-between, same-entry}
use Rattle.ws_service.proofs.PassingLemmas.{goes, goes-none, goes-on, goes-refused}

-- ---- the makers of runs

pub only-front : (k : ℕ) (h g : List (ℕ × Entry)) → OnlyRuns k (h ++ g) → OnlyRuns k h
only-front k [] g only = tt
only-front k (made ∷ h) g only = (only.0, only-front k h g only.1)

pub only-after : (k : ℕ) (h g : List (ℕ × Entry)) → OnlyRuns k (h ++ g) → OnlyRuns k g
only-after k [] g only = only
only-after k (made ∷ h) g only = only-after k h g only.1

-- an entry of another maker makes no steps
no-steps : (k maker : ℕ) (entry : Entry) → IsRunOf k maker entry → maker ≢ k → steps_of entry ≡ 0
no-steps k maker Attach only other = refl
no-steps k maker (Tell s text) only other = refl
no-steps k maker (Take s) only other = refl
no-steps k maker (Detach s) only other = refl
no-steps k maker (Ran n moment lost) only other = absurd (other only)
no-steps k maker Shut only other = refl

-- the steps of a history that goes on
made-entries : (h g : List Entry) → steps_made (h ++ g) ≡ steps_made h + steps_made g
made-entries [] g = omega arith
made-entries (entry ∷ h) g = let rest = made-entries h g in omega (arith, rest)

pub made-append : (h g : List (ℕ × Entry))
    → steps_made (entries_of (h ++ g)) ≡ steps_made (entries_of h) + steps_made (entries_of g)
made-append h g = ap steps_made (map-append entry_of h g) ∙ made-entries (entries_of h) (entries_of g)

-- where this maker left none, none were made
pub none-made : (k : ℕ) (g : List (ℕ × Entry)) → OnlyRuns k g → by k g ≡ [] → steps_made (entries_of g) ≡ 0
none-made k [] only none = refl
none-made k (made ∷ g) only none = dite (ℕ_discrete made.0 k)
    (λ is.
    let more : made.1 ∷ by k g ≡ [] =
    sym (ap (λ (b : Bool). if b then made.1 ∷ by k g else by k g) (eq-eqb made.0 k is)) ∙ none in
    absurd cc)
    (λ other.
    let less : by k g ≡ [] =
    sym (ap (λ (b : Bool). if b then made.1 ∷ by k g else by k g) (ne_eqb made.0 k other)) ∙ none in
    let here = no-steps k made.0 made.1 only.0 other in
    let rest = none-made k g only.1 less in
    omega (arith, here, rest))

-- ---- a history that goes on twice

-- where it goes on as a whole
pub parts : (h m g a b more : List (ℕ × Entry)) → m ≡ h ++ a → g ≡ m ++ b → g ≡ h ++ more → more ≡ a ++ b
parts h m g a b more first second whole =
    append_cancel_left h more (a ++ b)
    (sym whole ∙ second ∙ ap (λ l. l ++ b) first ∙ append_assoc h a b)

-- ---- entries that were due

due-before : (d : Debugging) (k : ℕ) (front rest more : List (ℕ × Entry)) (entry : Entry) (end : Option RunEnd)
    → IsDue d front entry ⊎ IsLast k None entry rest → IsDue d front entry ⊎ IsLast k end entry more
due-before d k front rest more entry end (inl due) = inl due
due-before d k front rest more entry end (inr last) = let none = last.0 in absurd cc

due-at : (d : Debugging) (k : ℕ) (h m g front rest : List (ℕ × Entry)) (entry : Entry) (end : Option RunEnd)
    → FindsDue d k h m None → FindsDue d k m g end → Begins h front → g ≡ front ++ (k, entry) ∷ rest
    → Falls m front (k, entry) → IsDue d front entry ⊎ IsLast k end entry rest
due-at d k h m g front rest entry end first second begins is (inl later) = second front rest entry later is
due-at d k h m g front rest entry end first second begins is (inr within) =
    due-before d k front within.0 rest entry end (first front within.0 entry begins within.1)

due-on : (d : Debugging) (k : ℕ) (h m g : List (ℕ × Entry)) (end : Option RunEnd) → Begins m g
    → FindsDue d k h m None → FindsDue d k m g end → FindsDue d k h g end
due-on d k h m g end longer first second = λ front rest entry begins is.
    due-at d k h m g front rest entry end first second begins is
    (falls m longer.0 front rest (k, entry) (sym longer.1 ∙ is))

-- where nothing is left
due-none : (d : Debugging) (k : ℕ) (h : List (ℕ × Entry)) (end : Option RunEnd) → FindsDue d k h h end
due-none d k h end = λ front rest entry begins is. absurd (none-at-all k h front rest entry begins is)

-- the entry of a turn was due, or the host was broken, and it made no step
abbrev FindsAt : Debugging → List (ℕ × Entry) → Entry → Option RunEnd → Type 0
FindsAt d h entry end = IsDue d h entry ⊎ ((end ≡ Some ends.Broken) × (steps_of entry ≡ 0))

is-last : (d : Debugging) (k : ℕ) (h : List (ℕ × Entry)) (entry : Entry) (end : Option RunEnd)
    → FindsAt d h entry end → (rest : List (ℕ × Entry)) → rest ≡ [] → IsDue d h entry ⊎ IsLast k end entry rest
is-last d k h entry end (inl due) rest none = inl due
is-last d k h entry end (inr broken) rest none = inr (broken.0, broken.1, ap (by k) none)

due-last : (d : Debugging) (k : ℕ) (h front rest : List (ℕ × Entry)) (left entry : Entry) (end : Option RunEnd)
    → FindsAt d h left end → Begins h front → h ++ (k, left) ∷ [] ≡ front ++ (k, entry) ∷ rest
    → IsDue d front entry ⊎ IsLast k end entry rest
due-last d k h front rest left entry end found begins is =
    let all : (k, left) ∷ [] ≡ begins.0 ++ (k, entry) ∷ rest =
    append_cancel_left h ((k, left) ∷ []) (begins.0 ++ (k, entry) ∷ rest)
    (is ∙ ap (λ l. l ++ (k, entry) ∷ rest) begins.1 ∙ append_assoc h begins.0 ((k, entry) ∷ rest)) in
    let one = alone (k, left) (k, entry) begins.0 rest all in
    let front-same : front ≡ h = begins.1 ∙ ap (λ l. h ++ l) one.0 ∙ append-nil h in
    let same = same-entry k k left entry one.1 in
    subst (λ l. IsDue d l entry ⊎ IsLast k end entry rest) (sym front-same)
    (is-last d k h entry end (subst (λ (e : Entry). FindsAt d h e end) same found) rest one.2)

due-act : (d : Debugging) (k : ℕ) (h between front rest : List (ℕ × Entry)) (left entry : Entry)
    (end : Option RunEnd) → by k between ≡ [] → FindsAt d (h ++ between) left end → Begins h front
    → (h ++ between) ++ (k, left) ∷ [] ≡ front ++ (k, entry) ∷ rest → Falls (h ++ between) front (k, entry)
    → IsDue d front entry ⊎ IsLast k end entry rest
due-act d k h between front rest left entry end nothing found begins is (inl later) =
    due-last d k (h ++ between) front rest left entry end found later is
due-act d k h between front rest left entry end nothing found begins is (inr within) =
    absurd (none-between k h between front within.0 entry nothing begins within.1)

due-turn : (d : Debugging) (p q : PassState Entry) (left : Entry) (end : Option RunEnd) (act : Acts d p q left)
    → FindsAt d (p.seen ++ act.between) left end → FindsDue d p.number p.seen q.seen end
due-turn d p q left end act found = λ front rest entry begins is.
    due-act d p.number p.seen act.between front rest left entry end act.nothing found begins (sym act.seen ∙ is)
    (falls (p.seen ++ act.between) ((p.number, left) ∷ []) front rest (p.number, entry) (sym act.seen ∙ is))

-- ---- output

gains-on : (cut : Bool) (before mid after : List ℕ) (xs ys : List (List ℕ))
    → mid ≡ gains before (printed_lines xs) → GainsLines cut mid after ys → GainsLines cut before after (xs ++ ys)
gains-on false before mid after xs ys first second =
    gains-next before mid after (printed_lines xs) (printed_lines ys) (printed_lines (xs ++ ys)) first second
    (lines-append xs ys)
gains-on true before mid after xs ys first second =
    GainsPrefix-behind before mid after (printed_lines xs) (printed_lines ys) [] (printed_lines (xs ++ ys)) first
    (lines-append xs ys ∙ sym (append-nil (printed_lines xs ++ printed_lines ys))) second

gains-whole : (cut : Bool) (before after : List ℕ) (texts : List (List ℕ))
    → after ≡ gains before (printed_lines texts) → GainsLines cut before after texts
gains-whole false before after texts is = is
gains-whole true before after texts is = (printed_lines texts, [], sym (append-nil (printed_lines texts)), is)

gains-same : (cut : Bool) (content : List ℕ) → GainsLines cut content content []
gains-same cut content = gains-whole cut content content [] (sym (gains-nil content))

writes-on : (d : Debugging) (k : ℕ) (cut : Bool) (h m g : List (ℕ × Entry)) (before mid after : List ℕ)
    → Begins h m → Begins m g → Writes d k false h m before mid → Writes d k cut m g mid after
    → Writes d k cut h g before after
writes-on d k cut h m g before mid after a b first second = λ more is only.
    let all = subst (OnlyRuns k) (parts h m g a.0 b.0 more a.1 b.1 is) only in
    let x = first a.0 a.1 (only-front k a.0 b.0 all) in
    let y = second b.0 b.1 (only-after k a.0 b.0 all) in (
      x.0 ++ y.0,
      y.1
          ∙ ap (λ l. l ++ y.0) x.1
          ∙ append_assoc (printed_by d (steps_made (entries_of h))) x.0 y.0,
      gains-on cut before mid after x.0 y.0 x.2 y.2,
    )

-- where nothing is left
writes-none : (d : Debugging) (k : ℕ) (cut : Bool) (h : List (ℕ × Entry)) (content : List ℕ)
    → Writes d k cut h h content content
writes-none d k cut h content = λ more is only.
    ([], sym (append-nil (printed_by d (steps_made (entries_of h)))), gains-same cut content)

-- the steps of a turn
steps-turn : (d : Debugging) (p q : PassState Entry) (entry : Entry) (act : Acts d p q entry)
    → steps_made (entries_of q.seen) ≡ steps_made (entries_of (p.seen ++ act.between)) + steps_of entry
steps-turn d p q entry act =
    let here : steps_made (entries_of ((p.number, entry) ∷ [])) ≡ steps_of entry = omega arith in
    ap (λ h. steps_made (entries_of h)) act.seen
    ∙ made-append (p.seen ++ act.between) ((p.number, entry) ∷ [])
    ∙ ap (λ n. steps_made (entries_of (p.seen ++ act.between)) + n) here

-- those before it, where no other makes any
pub steps-before : (k : ℕ) (h between : List (ℕ × Entry)) → OnlyRuns k between → by k between ≡ []
    → steps_made (entries_of (h ++ between)) ≡ steps_made (entries_of h)
steps-before k h between only nothing =
    let none = none-made k between only nothing in
    let all = made-append h between in
    omega (arith, none, all)

only-between : (d : Debugging) (p q : PassState Entry) (entry : Entry) (act : Acts d p q entry)
    (more : List (ℕ × Entry)) → q.seen ≡ p.seen ++ more → OnlyRuns p.number more → OnlyRuns p.number act.between
only-between d p q entry act more is only =
    only-front p.number act.between ((p.number, entry) ∷ [])
    (subst (OnlyRuns p.number)
    (parts p.seen (p.seen ++ act.between) q.seen act.between ((p.number, entry) ∷ []) more refl act.seen is) only)

writes-turn : (d : Debugging) (p q : PassState Entry) (entry : Entry) (act : Acts d p q entry) (cut : Bool)
    (before after : List ℕ) (texts : List (List ℕ)) → Prints d (steps_of entry) texts (p.seen ++ act.between)
    → GainsLines cut before after texts → Writes d p.number cut p.seen q.seen before after
writes-turn d p q entry act cut before after texts prints gained = λ more is only.
    let same = steps-before p.number p.seen act.between (only-between d p q entry act more is only) act.nothing in (
      texts,
      ap (printed_by d) (steps-turn d p q entry act) ∙ prints ∙ ap (λ n. printed_by d n ++ texts) same,
      gained,
    )

-- no steps print nothing
prints-none : (d : Debugging) (h : List (ℕ × Entry)) → Prints d 0 [] h
prints-none d h =
    let same : steps_made (entries_of h) + 0 ≡ steps_made (entries_of h) = omega arith in
    ap (printed_by d) same ∙ sym (append-nil (printed_by d (steps_made (entries_of h))))

-- a shut after it prints nothing
writes-shut : (d : Debugging) (k : ℕ) (p m q : PassState Entry) (act : Acts d m q Shut) (cut : Bool)
    (before after : List ℕ) → m.number ≡ k → Begins p.seen m.seen → Writes d k cut p.seen m.seen before after
    → Writes d k cut p.seen q.seen before after
writes-shut d k p m q act cut before after number a first = λ more is only.
    let b = (goes d m q Shut act tt).longer in
    let all = subst (OnlyRuns k) (parts p.seen m.seen q.seen a.0 b.0 more a.1 b.1 is) only in
    let x = first a.0 a.1 (only-front k a.0 b.0 all) in
    let later = subst (λ j. OnlyRuns j b.0) (sym number) (only-after k a.0 b.0 all) in
    let before-it = steps-before m.number m.seen act.between (only-between d m q Shut act b.0 b.1 later) act.nothing in
    let made = steps-turn d m q Shut act in
    let same : steps_made (entries_of q.seen) ≡ steps_made (entries_of m.seen) = omega (arith, before-it, made) in
    (x.0, ap (printed_by d) same ∙ x.1, x.2)

-- ---- runs

turns-on : (moment : Option ℕ) (es fs : List Entry) → AreTurns moment es → AreTurns moment fs
    → AreTurns moment (es ++ fs)
turns-on moment [] fs first second = second
turns-on moment (e ∷ es) fs first second = (first.0, turns-on moment es fs first.1 second)

left-on : (moment : Option ℕ) (end : Option RunEnd) (es fs : List Entry) → AreLeft moment None es
    → AreLeft moment end fs → AreLeft moment end (es ++ fs)
left-on moment end es fs first second = (
  es ++ second.0,
  turns-on moment es second.0 (left-all moment es first) second.1,
  ap (λ l. es ++ l) second.2 ∙ sym (append_assoc es second.0 (shuts_at end)),
)
  where
    left-all : (moment : Option ℕ) (es : List Entry) → AreLeft moment None es → AreTurns moment es
    left-all moment es left = subst (AreTurns moment) (sym (left.2 ∙ append-nil left.0)) left.1

left-turns : (moment : Option ℕ) (end : Option RunEnd) (es : List Entry) → shuts_at end ≡ [] → AreTurns moment es
    → AreLeft moment end es
left-turns moment end es none turns = (es, turns, sym (append-nil es) ∙ ap (λ l. es ++ l) (sym none))

-- no turn
pub none-run : (d : Debugging) (moment : Option ℕ) (p : PassState Entry) (out : Output) (end : Option RunEnd)
    → p.in_turn ≡ false → shuts_at end ≡ [] → HasReason d end p.seen (p.refused ≡ true)
    → Counts end out.faults out.faults → HasRun d moment p p out out end
none-run d moment p out end free unshut reason counts = record {
  entries = [];
  goes = goes-none d p free;
  left = left-turns moment end [] unshut tt;
  due = due-none d p.number p.seen end;
  writes = writes-none d p.number (may_cut end) p.seen out.content;
  reason = reason;
  counts = counts;
}

-- nor one that the pass was refused
refused-run : (d : Debugging) (moment : Option ℕ) (p : PassState Entry) (out : Output) (end : Option RunEnd)
    → p.in_turn ≡ false → shuts_at end ≡ [] → HasReason d end p.seen (true ≡ true)
    → Counts end out.faults out.faults → HasRun d moment p (refused_pass p) out out end
refused-run d moment p out end free unshut reason counts = record {
  entries = [];
  goes = goes-refused d p p [] (goes-none d p free);
  left = left-turns moment end [] unshut tt;
  due = due-none d p.number p.seen end;
  writes = writes-none d p.number (may_cut end) p.seen out.content;
  reason = reason;
  counts = counts;
}

-- no ticket was left
pub spent-run : (d : Debugging) (moment : Option ℕ) (p q : PassState Entry) (out : Output) (ticket : ℕ)
    → q ≡ refused_pass p → p.in_turn ≡ false → ticket ≡ limit
    → HasRun d moment p q out out (Some (ends.Spent ticket))
spent-run d moment p q out ticket same free spent =
    subst (λ (z : PassState Entry). HasRun d moment p z out out (Some (ends.Spent ticket))) (sym same)
    (refused-run d moment p out (Some (ends.Spent ticket)) free refl (spent, refl) refl)

-- turns, and more of them
run-on : (d : Debugging) (moment : Option ℕ) (p m q : PassState Entry) (old mid new : Output) (end : Option RunEnd)
    → HasRun d moment p m old mid None → HasRun d moment m q mid new end → HasRun d moment p q old new end
run-on d moment p m q old mid new end a b = record {
  entries = a.entries ++ b.entries;
  goes = goes-on d p m q a.entries b.entries a.goes b.goes;
  left = left-on moment end a.entries b.entries a.left b.left;
  due =
      due-on d p.number p.seen m.seen q.seen end b.goes.longer a.due
      (subst (λ (k : ℕ). FindsDue d k m.seen q.seen end) a.goes.same.1 b.due);
  writes =
      writes-on d p.number (may_cut end) p.seen m.seen q.seen old.content mid.content new.content a.goes.longer
      b.goes.longer a.writes
      (subst (λ (k : ℕ). Writes d k (may_cut end) m.seen q.seen mid.content new.content) a.goes.same.1 b.writes);
  reason = b.reason;
  counts = subst (λ (n : ℕ). Counts end n new.faults) a.counts b.counts;
}

-- the same, by a clock that tells as it did
pub run-next : (d : Debugging) (moment now : Option ℕ) (p m q : PassState Entry) (old mid new : Output)
    (end : Option RunEnd) → now ≡ moment → HasRun d moment p m old mid None → HasRun d now m q mid new end
    → HasRun d moment p q old new end
run-next d moment now p m q old mid new end same a b =
    run-on d moment p m q old mid new end a
    (subst (λ (told : Option ℕ). HasRun d told m q mid new end) same b)

-- one turn
turn-run : (d : Debugging) (moment : Option ℕ) (p q : PassState Entry) (old new : Output) (entry : Entry)
    (texts : List (List ℕ)) (end : Option RunEnd) (act : Acts d p q entry) → IsThereFor d (p.seen ++ act.between) entry
    → AreLeft moment end (entry ∷ []) → Prints d (steps_of entry) texts (p.seen ++ act.between)
    → FindsAt d (p.seen ++ act.between) entry end → GainsLines (may_cut end) old.content new.content texts
    → HasReason d end q.seen (q.refused ≡ true) → Counts end old.faults new.faults → HasRun d moment p q old new end
turn-run d moment p q old new entry texts end act there left prints found gained reason counts = record {
  entries = entry ∷ [];
  goes = goes d p q entry act there;
  left = left;
  due = due-turn d p q entry end act found;
  writes = writes-turn d p q entry act (may_cut end) old.content new.content texts prints gained;
  reason = reason;
  counts = counts;
}

-- the program was shut before its first turn, if a ticket was left for that
pub given-up : (d : Debugging) (moment : Option ℕ) (p q : PassState Entry) (out : Output) (end : RunEnd)
    → p.in_turn ≡ false → IsGivenUp d p q end → HasRun d moment p q out out (Some end)
given-up d moment p q out end free (None, is, act) =
    subst (λ (e : RunEnd). HasRun d moment p q out out (Some e)) (sym is)
    (turn-run d moment p q out out Shut [] (Some (ends.Memory None)) act tt ([], tt, refl)
    (prints-none d (p.seen ++ act.between)) (inl tt) (gains-same true out.content) tt refl)
given-up d moment p q out end free (Some unshut, is, none) =
    subst (λ (z : PassState Entry × RunEnd). HasRun d moment p z.0 out out (Some z.1))
    (λ i. (sym none.0 i, sym is i))
    (refused-run d moment p out (Some (ends.Memory (Some unshut))) free refl (none.1, refl) refl)

-- ---- a turn without steps

idle-in : (d : Debugging) (state : State) (h : List (ℕ × Entry)) → HasState d state h → state ≢ states.Ready
    → FindsAt d h (Take 0) (end_in state)
idle-in d states.Broken h is some = inr (refl, refl)
idle-in d states.Shut h is some = inl (inl is)
idle-in d states.Threw h is some = inl (inr (inl is.1.0))
idle-in d states.Ended h is some = inl (inr (inl is.1.0))
idle-in d states.Paused h is some = inl (inr (inr (inl is)))
idle-in d states.Waiting h is some = inl (inr (inr (inr is)))
idle-in d states.Ready h is some = absurd (some refl)

-- a state ends a run without a shut
unshut-in : (state : State) → shuts_at (end_in state) ≡ []
unshut-in states.Broken = refl
unshut-in states.Shut = refl
unshut-in states.Threw = refl
unshut-in states.Ended = refl
unshut-in states.Paused = refl
unshut-in states.Waiting = refl
unshut-in states.Ready = refl

-- the program is where it was
stays : (d : Debugging) (p q : PassState Entry) (act : Acts d p q (Take 0))
    → (meaning d q.seen).program ≡ (meaning d (p.seen ++ act.between)).program
stays d p q act =
    let h = p.seen ++ act.between in
    ap (λ l. (meaning d l).program) act.seen
    ∙ ap (λ es. (whole d.protocol d.program d.wait es).program) (map-append entry_of h ((p.number, Take 0) ∷ []))
    ∙ ap (λ m. m.program) (whole-more d.protocol d.program d.wait (entries_of h) (Take 0))
    ∙ call-program d.protocol (meaning d h) (Take 0) refl

counts-in : (state : State) (old new : ℕ) → new ≡ old → Counts (end_in state) old new
counts-in states.Broken old new is = is
counts-in states.Shut old new is = is
counts-in states.Threw old new is = is
counts-in states.Ended old new is = is
counts-in states.Paused old new is = is
counts-in states.Waiting old new is = is
counts-in states.Ready old new is = is

-- what a state says of the end, of the history that was found
reason-found : (d : Debugging) (p q : PassState Entry) (act : Acts d p q (Take 0)) (state : State)
    → HasState d state (p.seen ++ act.between) → HasReason d (end_in state) q.seen (q.refused ≡ true)
reason-found d p q act states.Broken is = tt
reason-found d p q act states.Shut is =
    (p.seen ++ act.between, ((p.number, Take 0) ∷ [], act.seen), is)
reason-found d p q act states.Threw is =
    subst (λ c. (d.protocol.is_over c ≡ true) × (d.has_thrown c ≡ true)) (sym (stays d p q act)) is.1
reason-found d p q act states.Ended is =
    subst (λ c. (d.protocol.is_over c ≡ true) × (d.has_thrown c ≡ false)) (sym (stays d p q act)) is.1
reason-found d p q act states.Paused is = tt
reason-found d p q act states.Waiting is = tt
reason-found d p q act states.Ready is = tt

-- a turn that found the program idle
pub idle-run : (d : Debugging) (moment : Option ℕ) (p q : PassState Entry) (out : Output) (state : State)
    (end : Option RunEnd) → end ≡ end_in state → Finds d (HasState d state) p q (Take 0) → state ≢ states.Ready
    → HasRun d moment p q out out end
idle-run d moment p q out state end is found some =
    let h = p.seen ++ found.0.between in
    subst (λ (e : Option RunEnd). HasRun d moment p q out out e) (sym is)
    (turn-run d moment p q out out (Take 0) [] (end_in state) found.0 (inl refl)
    (left-turns moment (end_in state) (Take 0 ∷ []) (unshut-in state) (refl, tt)) (prints-none d h) (idle-in d state h found.1 some) (gains-same (may_cut (end_in state)) out.content)
    (reason-found d p q found.0 state found.1) (counts-in state out.faults out.faults refl))

-- a turn for which there was no memory
pub broken-run : (d : Debugging) (moment : Option ℕ) (at : ℕ) (p q : PassState Entry) (out : Output) (lost : List ℕ)
    → IfTold moment (λ ms. at ≡ ms) → Acts d p q (Ran 0 at lost) → HasRun d moment p q out out (Some ends.Broken)
broken-run d moment at p q out lost told act =
    let h = p.seen ++ act.between in
    turn-run d moment p q out out (Ran 0 at lost) [] (Some ends.Broken) act tt
    (left-turns moment (Some ends.Broken) (Ran 0 at lost ∷ []) refl (told, tt)) (prints-none d h) (inr (refl, refl))
    (gains-same false out.content) tt refl

-- ---- a turn with steps

-- what a state says of the end, of the history that a turn left
reason-left : (d : Debugging) (state : State) (h : List (ℕ × Entry)) (spent : Type 0) → HasState d state h
    → HasReason d (end_in state) h spent
reason-left d states.Broken h spent is = tt
reason-left d states.Shut h spent is = (h, ([], sym (append-nil h)), is)
reason-left d states.Threw h spent is = is.1
reason-left d states.Ended h spent is = is.1
reason-left d states.Paused h spent is = tt
reason-left d states.Waiting h spent is = tt
reason-left d states.Ready h spent is = tt

-- whose texts were written
whole-run : (d : Debugging) (moment : Option ℕ) (at : ℕ) (p q : PassState Entry) (old new : Output)
    (texts : List (List ℕ)) (state : State) → IfTold moment (λ ms. at ≡ ms) → Steps d 256 at p q texts
    → HasState d state q.seen → new.content ≡ gains old.content (printed_lines texts) → new.faults ≡ old.faults
    → HasRun d moment p q old new (end_in state)
whole-run d moment at p q old new texts state told made is gained quiet =
    let act = made.act.0 in
    turn-run d moment p q old new (Ran made.steps at made.lost) texts (end_in state) act tt
    (left-turns moment (end_in state) (Ran made.steps at made.lost ∷ []) (unshut-in state) (told, tt)) made.act.1
    (inl made.longest) (gains-whole (may_cut (end_in state)) old.content new.content texts gained)
    (reason-left d state q.seen (q.refused ≡ true) is) (counts-in state old.faults new.faults quiet)

-- whose texts weren't all written
at-fault : (fault : SinkFault) (unshut : Option NotShut) → may_cut (Some (end_at fault unshut)) ≡ true
at-fault sink.Failed unshut = refl
at-fault sink.Memory unshut = refl

shuts-fault : (fault : SinkFault) (unshut : Option NotShut)
    → shuts_at (Some (end_at fault unshut)) ≡ shut_entries unshut
shuts-fault sink.Failed unshut = refl
shuts-fault sink.Memory unshut = refl

reason-fault : (d : Debugging) (fault : SinkFault) (unshut : Option NotShut) (h : List (ℕ × Entry)) (spent : Type 0)
    → HadNoTicket spent unshut → HasReason d (Some (end_at fault unshut)) h spent
reason-fault d sink.Failed unshut h spent had = had
reason-fault d sink.Memory unshut h spent had = had

gains-fault : (fault : SinkFault) (unshut : Option NotShut) (before after : List ℕ) (texts : List (List ℕ))
    → GainsPrefix before after (printed_lines texts)
    → GainsLines (may_cut (Some (end_at fault unshut))) before after texts
gains-fault fault unshut before after texts gained =
    subst (λ (cut : Bool). GainsLines cut before after texts) (sym (at-fault fault unshut)) gained

-- what a turn left, before another that the pass was refused
abbrev acts-refused : (d : Debugging) (p q : PassState Entry) (entry : Entry) → Acts d p q entry
    → Acts d p (refused_pass q) entry
acts-refused d p q entry a = record {
  between = a.between;
  seen = a.seen;
  nothing = a.nothing;
  history = a.history;
  same = (a.same.0, a.same.1, a.same.2, a.same.3, a.same.4, λ told. refl);
  free = a.free;
  named = a.named;
}

steps-refused : (d : Debugging) (most moment : ℕ) (p q : PassState Entry) (texts : List (List ℕ))
    → Steps d most moment p q texts → Steps d most moment p (refused_pass q) texts
steps-refused d most moment p q texts a = record {
  steps = a.steps;
  lost = a.lost;
  act = (acts-refused d p q (Ran a.steps moment a.lost) a.act.0, a.act.1);
  longest = a.longest;
}

-- and no ticket was left for a shut
unshut-run : (d : Debugging) (moment : Option ℕ) (at : ℕ) (p q : PassState Entry) (old new : Output)
    (texts : List (List ℕ)) (fault : SinkFault) (unshut : NotShut) → unshut.ticket ≡ limit → q.refused ≡ true
    → IfTold moment (λ ms. at ≡ ms) → Steps d 256 at p q texts → GainsPrefix old.content new.content (printed_lines texts)
    → Counts (Some (end_at fault (Some unshut))) old.faults new.faults
    → HasRun d moment p q old new (Some (end_at fault (Some unshut)))
unshut-run d moment at p q old new texts fault unshut spent refused told made gained counts =
    let end = Some (end_at fault (Some unshut)) in
    let ran = Ran made.steps at made.lost in
    turn-run d moment p q old new ran texts end made.act.0 tt
    (left-turns moment end (ran ∷ []) (shuts-fault fault (Some unshut)) (told, tt)) made.act.1 (inl made.longest)
    (gains-fault fault (Some unshut) old.content new.content texts gained)
    (reason-fault d fault (Some unshut) q.seen (q.refused ≡ true) (spent, refused))
    counts

-- or the program was shut
shut-run : (d : Debugging) (moment : Option ℕ) (at : ℕ) (p m q : PassState Entry) (old new : Output)
    (texts : List (List ℕ)) (fault : SinkFault) → IfTold moment (λ ms. at ≡ ms) → Steps d 256 at p m texts
    → Acts d m q Shut → GainsPrefix old.content new.content (printed_lines texts)
    → Counts (Some (end_at fault None)) old.faults new.faults → HasRun d moment p q old new (Some (end_at fault None))
shut-run d moment at p m q old new texts fault told made act gained counts =
    let end = Some (end_at fault None) in
    let ran = Ran made.steps at made.lost in
    let first = goes d p m ran made.act.0 tt in
    let second = goes d m q Shut act tt in record {
      entries = ran ∷ Shut ∷ [];
      goes = goes-on d p m q (ran ∷ []) (Shut ∷ []) first second;
      left = (ran ∷ [], (told, tt), ap (λ l. ran ∷ l) (sym (shuts-fault fault None)));
      due =
          due-on d p.number p.seen m.seen q.seen end second.longer
          (due-turn d p m ran None made.act.0 (inl made.longest))
          (subst (λ (k : ℕ). FindsDue d k m.seen q.seen end) first.same.1 (due-turn d m q Shut end act (inl tt)));
      writes =
          writes-shut d p.number p m q act (may_cut end) old.content new.content first.same.1 first.longer
          (writes-turn d p m ran made.act.0 (may_cut end) old.content new.content texts made.act.1
          (gains-fault fault None old.content new.content texts gained));
      reason = reason-fault d fault None q.seen (q.refused ≡ true) tt;
      counts = counts;
    }

cut-run : (d : Debugging) (moment : Option ℕ) (at : ℕ) (p m q : PassState Entry) (old new : Output)
    (texts : List (List ℕ)) (fault : SinkFault) (unshut : Option NotShut) → IfTold moment (λ ms. at ≡ ms)
    → Steps d 256 at p m texts → ShutsDown d m q unshut → GainsPrefix old.content new.content (printed_lines texts)
    → Counts (Some (end_at fault unshut)) old.faults new.faults
    → HasRun d moment p q old new (Some (end_at fault unshut))
cut-run d moment at p m q old new texts fault (Some unshut) told made none gained counts =
    subst (λ (z : PassState Entry). HasRun d moment p z old new (Some (end_at fault (Some unshut)))) (sym none.0)
    (unshut-run d moment at p (refused_pass m) old new texts fault unshut none.1 refl told
    (steps-refused d 256 at p m texts made) gained counts)
cut-run d moment at p m q old new texts fault None told made act gained counts =
    shut-run d moment at p m q old new texts fault told made act gained counts

-- a turn with steps, after which a state says whether the run ends
pub finish-run : (d : Debugging) (moment : Option ℕ) (at : ℕ) (p m q : PassState Entry) (old new : Output)
    (texts : List (List ℕ)) (state : State) (end : Option RunEnd) → IfTold moment (λ ms. at ≡ ms)
    → Steps d 256 at p m texts → HasState d state m.seen → Finishes d m q old new texts state end
    → HasRun d moment p q old new end
finish-run d moment at p m q old new texts state end told made is (inl all) =
    subst (λ (z : PassState Entry × Option RunEnd). HasRun d moment p z.0 old new z.1)
    (λ i. (sym all.1.0 i, sym all.0 i))
    (whole-run d moment at p m old new texts state told made is all.1.1 all.1.2)
finish-run d moment at p m q old new texts state end told made is (inr (e, same, (fault, unshut, at_fault, shut, gained, counts))) =
    subst (λ (z : Option RunEnd). HasRun d moment p q old new z) (sym (same ∙ ap (λ (r : RunEnd). Some r) at_fault))
    (cut-run d moment at p m q old new texts fault unshut told made shut gained
    (subst (λ (r : RunEnd). Counts (Some r) old.faults new.faults) at_fault counts))
