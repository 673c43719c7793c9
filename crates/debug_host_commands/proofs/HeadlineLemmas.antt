-- The headline holds of each journal.
use Rattle.std.proofs.Common.{◌≡◌, ℕ, zero, suc, ◌+◌, ◌<◌, ◌^◌, codes, decimal, List, [], ◌∷◌, ◌++◌, length, map, Bool, true, false, ◌==◌, Option, Some, None, refl, ap, sym, ◌∙◌, append_assoc, append-nil, arith, if◌then◌else◌}
use Rattle.std.specs.List.{fold, list_all}
use Rattle.std.specs.Option.{option_map_or, option_and_then}
use Rattle.std.proofs.lemmas.Bool.{eqb-true, eqb-false}
use Rattle.std.proofs.lemmas.List.{map-append}
use Rattle.std.proofs.lemmas.Option.{same_Some}
use Rattle.cdp_text.specs.Lines.{lines_of}
use Rattle.cdp_host_isolation.specs.Histories.{Entry, Attach, Tell, Take, Detach, Ran, Shut, FitsAll, FitsEntry, handed_at, handed_of, steps_made, steps_of, waiting}
use Rattle.cdp_host_isolation.specs.Meanings.{after_run, after_steps, is_named, is_paused, longest, waits}
use Rattle.cdp_host_isolation.specs.Protocols.{Protocol}
use Rattle.cdp_host_isolation.specs.Seats.{is_attached, numbers_from, seat_of}
use Rattle.cdp_host_isolation.specs.Stops.{IsPausedWell}
use Rattle.cdp_host_isolation.specs.Texts.{Keeps}
use Rattle.cdp_host_isolation.specs.declared.seat.Seat.{Seat}
use Rattle.cdp_host_isolation.specs.declared.seat.Seat.TheVariants as seats
use Rattle.cdp_host_isolation.proofs.AloneLemmas.{alone}
use Rattle.cdp_host_isolation.proofs.LongerLemmas.{call-program}
use Rattle.cdp_host_isolation.proofs.MadeLemmas.{longest-exact}
use Rattle.cdp_host_isolation.proofs.StopLemmas.{entry-program, paused-well, paused-well-from, stops-exactly}
use Rattle.cdp_host_isolation.proofs.TextLemmas.{append-length, detach-length, in-order, ran-length, take-length, tell-length}
use Rattle.js_tree.specs.declared.script.Script.{Script}
use Rattle.js_semantics.specs.Laws.{IsPrefix}
use Rattle.js_semantics.specs.Run.{Run as Program}
use Rattle.cdp_host.specs.Histories.{IsHistory, Meaning, apply, begin, sent_to, whole}
use Rattle.cdp_host.specs.Programs.{plain, is_over, has_thrown, printed_of, start}
use Rattle.cdp_host.specs.Protocols.{protocol, texts}
use Rattle.cdp_host.specs.States.{state_of}
use Rattle.cdp_host_turns.specs.declared.state.State.{State}
use Rattle.cdp_host_turns.specs.declared.state.State.TheVariants as states
use Rattle.cdp_host.proofs.ProgramLemmas.{plain-start, start-prints}
use Rattle.cdp_host.proofs.LawLemmas.{goes-plainly, plain-prints}
use Rattle.cdp_host.proofs.ProtocolLemmas.{enabled-kept, sent}
use Rattle.cdp_journal.specs.Escapes.{escaped, printed_escaped}
use Rattle.cdp_journal.specs.Fronts.{behind_each}
use Rattle.cdp_journal.specs.Lines as lines
use Rattle.cdp_journal.specs.Lines.{IsInForm, line_of}
use Rattle.debug_host_commands.specs.Journal.{entry_at, entry_of, entries, is_there}
use Rattle.debug_host_commands.specs.Output.{Output, Attached, To, Out, Overran, RanTo, overrun_at, overruns, printed_at, state_name, output_at, output_of, output_bytes}
use Rattle.debug_host_commands.specs.Headline.{Headline, is_of_a_kind}
use Rattle.debug_host_commands.specs.Shown.{attached_at, attached_by, to_front, is_stopped, is_waiting, losses_at, losses_of, ran_state, ran_at, ran_texts, texts_to, waiting_to}
use Rattle.cdp_journal.proofs.LineLemmas.{choice-some, line-some}
use Rattle.debug_host_commands.proofs.PausedLemmas.{names-enabled, rest-paused, run-paused, run-phase, run-shut}
use Rattle.debug_host_commands.proofs.PlainLemmas.{apply-plain, run-prints, steps-plain}
use Rattle.debug_host_commands.proofs.ShownLemmas.{attached_of, attached-each, attached-append, attached-printed, attached-sent, lost-attached, of-a-kind, out_texts, to_of, ran_of, lost_of, shown, lines-one, out-each, ran-each, lost-each, to-each, to-own, to-others, to_of-append, to-printed, ran-append, ran-printed, ran-sent, lost-append, lost-printed, lost-sent, lost-out, lost-ran, lost-to, lost-told}

-- ---- what was printed

out-append : (xs ys : List Output) → out_texts (xs ++ ys) ≡ out_texts xs ++ out_texts ys
out-append [] ys = refl
out-append (Attached s ∷ xs) ys = out-append xs ys
out-append (To s text ∷ xs) ys = out-append xs ys
out-append (Out n ∷ xs) ys = ap (λ rest. n ∷ rest) (out-append xs ys)
out-append (Overran s ∷ xs) ys = out-append xs ys
out-append (RanTo steps state ∷ xs) ys = out-append xs ys

out-printed : (xs : List (List ℕ)) → out_texts (map Out xs) ≡ xs
out-printed [] = refl
out-printed (x ∷ xs) = ap (λ rest. x ∷ rest) (out-printed xs)

out-sent : (s : ℕ) (texts : List (List ℕ)) → out_texts (map (To s) texts) ≡ []
out-sent s [] = refl
out-sent s (text ∷ texts) = out-sent s texts

out-overrun : (b : Bool) (s : ℕ) → out_texts (if b then Overran s ∷ [] else []) ≡ []
out-overrun true s = refl
out-overrun false s = refl

-- an entry that makes no steps prints nothing
out-none : (scripts : List Script) (m : Meaning Program) (entry : Entry) (texts : List (List ℕ))
    → steps_of entry ≡ zero
    → texts ≡ []
    → printed_of m.program ++ texts ≡ printed_of (apply scripts m entry).program
out-none scripts m entry texts none empty =
    ap (λ xs. printed_of m.program ++ xs) empty
    ∙ append-nil (printed_of m.program)
    ∙ ap printed_of (sym (call-program (protocol scripts) m entry none))

-- what an entry's lines say was printed comes behind what was printed before
out-at : (scripts : List Script) (m : Meaning Program) (entry : Entry)
    → printed_of m.program ++ out_texts (output_at scripts m entry) ≡ printed_of (apply scripts m entry).program
out-at scripts m Attach = out-none scripts m Attach [] refl refl
out-at scripts m (Tell s text) =
    out-none scripts m (Tell s text) _ refl (out-overrun (overruns scripts m text (seat_of s m.seats)) s)
out-at scripts m (Take s) =
    out-none scripts m (Take s) _ refl (out-sent s (waiting (protocol scripts) (seat_of s m.seats)))
out-at scripts m (Detach s) = out-none scripts m (Detach s) [] refl refl
out-at scripts m (Ran n moment gone) =
    let printed : List (List ℕ) = printed_at scripts moment gone n m in
    let lost : List ℕ = overrun_at scripts moment gone n m in
    let last : List Output = RanTo n (state_of (apply scripts m (Ran n moment gone))) ∷ [] in
    let shows : out_texts (output_at scripts m (Ran n moment gone)) ≡ printed =
    out-append (map Out printed) (map Overran lost ++ last)
    ∙ ap (λ xs. out_texts (map Out printed) ++ xs) (lost-out lost last)
    ∙ append-nil (out_texts (map Out printed))
    ∙ out-printed printed in
    ap (λ xs. printed_of m.program ++ xs) shows
    ∙ run-prints scripts moment gone n m
    ∙ ap printed_of (sym (entry-program (protocol scripts) m (Ran n moment gone)))
out-at scripts m Shut = out-none scripts m Shut [] refl refl

out-all : (history : List Entry) (scripts : List Script) (m : Meaning Program)
    → printed_of m.program ++ out_texts (output_of scripts m history) ≡ printed_of
    (fold (apply scripts) m history).program
out-all [] scripts m = append-nil (printed_of m.program)
out-all (entry ∷ history) scripts m =
    ap (λ xs. printed_of m.program ++ xs)
    (out-append (output_at scripts m entry) (output_of scripts (apply scripts m entry) history))
    ∙ sym (append_assoc (printed_of m.program) (out_texts (output_at scripts m entry))
    (out_texts (output_of scripts (apply scripts m entry) history)))
    ∙ ap (λ xs. xs ++ out_texts (output_of scripts (apply scripts m entry) history)) (out-at scripts m entry)
    ∙ out-all history scripts (apply scripts m entry)

-- ---- the history of a journal

-- an entry that a line may have: its number is one of 64 bits where that is written, and it loses nobody for want of
-- memory
abbrev IsOfLine : Entry → Type 0
IsOfLine Attach = Unit {0}
IsOfLine (Tell s text) = Unit {0}
IsOfLine (Take s) = s < 2 ^ 64
IsOfLine (Detach s) = Unit {0}
IsOfLine (Ran n moment gone) = gone ≡ []
IsOfLine Shut = Unit {0}

abbrev AreOfLines : List Entry → Type 0
AreOfLines [] = Unit {0}
AreOfLines (entry ∷ history) = IsOfLine entry × AreOfLines history

-- what holds of an entry of a line, and of all behind it
record GoesOn (scripts : List Script) (m : Meaning Program) (entry : Entry) : Type 0 where
  fits : FitsEntry (protocol scripts) m entry
  is : IsOfLine entry

line-goes : (scripts : List Script) (m : Meaning Program) (line : lines.Line) (entry : Entry)
    → IsInForm line
    → entry_at scripts m line ≡ Some entry
    → GoesOn scripts m entry
line-goes scripts m lines.Attach entry form is =
    rw (sym (same_Some Attach entry is)) (record { fits = tt; is = tt })
line-goes scripts m (lines.Tell s text) entry form is =
    let chosen = choice-some (is_there m s) (Tell s text) entry is in
    rw (sym chosen.1) (record { fits = tt; is = tt })
line-goes scripts m (lines.Take s) entry form is =
    let chosen = choice-some (is_there m s) (Take s) entry is in
    rw (sym chosen.1) (record { fits = tt; is = form })
line-goes scripts m (lines.Detach s) entry form is =
    let chosen = choice-some (is_there m s) (Detach s) entry is in
    rw (sym chosen.1) (record { fits = tt; is = tt })
line-goes scripts m (lines.Run most moment) entry form is =
    rw (sym (same_Some (Ran (longest (protocol scripts) moment most m) moment []) entry is))
    (record { fits = (longest-exact (protocol scripts) moment most m).made.ready; is = refl })
line-goes scripts m lines.Shut entry form is =
    rw (sym (same_Some Shut entry is)) (record { fits = tt; is = tt })

option-goes : (scripts : List Script) (m : Meaning Program) (text : List ℕ) (o : Option lines.Line) (entry : Entry)
    → line_of text ≡ o
    → option_and_then (entry_at scripts m) o ≡ Some entry
    → GoesOn scripts m entry
option-goes scripts m text None entry read is = cc
option-goes scripts m text (Some line) entry read is =
    line-goes scripts m line entry (line-some text line read).in_form is

entries-go_by : (scripts : List Script) (m : Meaning Program) (texts : List (List ℕ)) (o : Option Entry)
    → ((entry : Entry) → o ≡ Some entry → GoesOn scripts m entry)
    → ((entry : Entry)
    → FitsAll (protocol scripts) (apply scripts m entry) (entries scripts (apply scripts m entry) texts)
    × AreOfLines (entries scripts (apply scripts m entry) texts))
    → FitsAll (protocol scripts) m (option_map_or (λ entry. entry ∷ entries scripts (apply scripts m entry) texts) o [])
    × AreOfLines (option_map_or (λ entry. entry ∷ entries scripts (apply scripts m entry) texts) o [])
entries-go_by scripts m texts None goes behind = (tt, tt)
entries-go_by scripts m texts (Some entry) goes behind =
    let here = goes entry refl in
    let rest = behind entry in
    ((here.fits, rest.0), (here.is, rest.1))

-- the entries of a journal's lines are a history of such entries
entries-go : (texts : List (List ℕ)) (scripts : List Script) (m : Meaning Program)
    → FitsAll (protocol scripts) m (entries scripts m texts) × AreOfLines (entries scripts m texts)
entries-go [] scripts m = (tt, tt)
entries-go (text ∷ texts) scripts m =
    entries-go_by scripts m texts (entry_of scripts m text)
    (λ entry is. option-goes scripts m text (line_of text) entry refl is)
    (λ entry. entries-go texts scripts (apply scripts m entry))

-- ---- where the runs lead, as it is told

-- the state that these tests tell
abbrev state_by : Bool → Bool → Bool → Bool → Bool → State
state_by shut threw ended paused held =
    if shut then states.Shut else if threw then states.Threw else if ended then states.Ended else if paused
    then states.Paused else if held then states.Waiting else states.Ready

name_by : (shut threw ended paused held : Bool) → state_name (state_by shut threw ended paused held)
    ≡ (if shut then codes "shut" else if threw then codes "threw" else if ended then codes "ended" else if paused
    then codes "paused" else if held then codes "waiting" else codes "ready")
name_by true threw ended paused held = refl
name_by false true ended paused held = refl
name_by false false true paused held = refl
name_by false false false true held = refl
name_by false false false false true = refl
name_by false false false false false = refl

stopped-is : (scripts : List Script) (input : List (List ℕ)) (moment made n : ℕ) (m : Meaning Program)
    → m.program ≡ plain made scripts input
    → IsPausedWell (protocol scripts) m
    → is_paused (apply scripts m (Ran n moment [])) ≡ is_stopped scripts input moment [] made m n
stopped-is scripts input moment made zero m is well = rest-paused (protocol scripts) moment m well
stopped-is scripts input moment made (suc n) m is well =
    let k : Meaning Program = after_steps (protocol scripts) moment n m in
    run-paused (protocol scripts) (names-enabled scripts) moment [] n m
    ∙ ap (λ r. is_named (protocol scripts) moment [] r k) (steps-plain scripts input made moment n m is)

waits-run : (scripts : List Script) (moment n : ℕ) (m : Meaning Program)
    → waits (after_run (protocol scripts) moment [] n m).phase ≡ is_waiting m n
waits-run scripts moment zero m = refl
waits-run scripts moment (suc n) m = refl

waits-is : (scripts : List Script) (moment n : ℕ) (m : Meaning Program)
    → waits (apply scripts m (Ran n moment [])).phase ≡ is_waiting m n
waits-is scripts moment n m = ap waits (run-phase (protocol scripts) moment [] n m) ∙ waits-run scripts moment n m

state-told : (scripts : List Script) (input : List (List ℕ)) (moment made n : ℕ) (m : Meaning Program)
    → m.program ≡ plain made scripts input
    → IsPausedWell (protocol scripts) m
    → state_name (state_of (apply scripts m (Ran n moment []))) ≡ ran_state scripts input moment [] made m n
state-told scripts input moment made n m is well =
    let k : Meaning Program = apply scripts m (Ran n moment []) in
    let r : Program = plain (made + n) scripts input in
    ap (λ shut. state_name (state_by shut (has_thrown k.program) (is_over k.program) (is_paused k) (waits k.phase)))
    (run-shut (protocol scripts) moment [] n m)
    ∙ ap (λ q. state_name (state_by m.shut (has_thrown q) (is_over q) (is_paused k) (waits k.phase)))
    (apply-plain scripts input made m (Ran n moment []) is)
    ∙ ap (λ paused. state_name (state_by m.shut (has_thrown r) (is_over r) paused (waits k.phase)))
    (stopped-is scripts input moment made n m is well)
    ∙ ap (λ held. state_name
    (state_by m.shut (has_thrown r) (is_over r) (is_stopped scripts input moment [] made m n) held))
    (waits-is scripts moment n m)
    ∙ name_by m.shut (has_thrown r) (is_over r) (is_stopped scripts input moment [] made m n) (is_waiting m n)

ran-overrun : (b : Bool) (s : ℕ) → ran_of (if b then Overran s ∷ [] else []) ≡ []
ran-overrun true s = refl
ran-overrun false s = refl

ran-run : (scripts : List Script) (input : List (List ℕ)) (made n moment : ℕ) (m : Meaning Program)
    → m.program ≡ plain made scripts input
    → IsPausedWell (protocol scripts) m
    → ran_of (output_at scripts m (Ran n moment [])) ≡ ran_at scripts input made m (Ran n moment [])
ran-run scripts input made n moment m is well =
    let printed : List (List ℕ) = printed_at scripts moment [] n m in
    let lost : List ℕ = overrun_at scripts moment [] n m in
    let last : List Output = RanTo n (state_of (apply scripts m (Ran n moment []))) ∷ [] in
    ran-append (map Out printed) (map Overran lost ++ last)
    ∙ ap (λ xs. xs ++ ran_of (map Overran lost ++ last)) (ran-printed printed)
    ∙ lost-ran lost last
    ∙ ap (λ word. (decimal n ++ 32 ∷ word) ∷ []) (state-told scripts input moment made n m is well)

ran-entry : (scripts : List Script) (input : List (List ℕ)) (made : ℕ) (m : Meaning Program) (entry : Entry)
    → m.program ≡ plain made scripts input
    → IsPausedWell (protocol scripts) m
    → IsOfLine entry
    → ran_of (output_at scripts m entry) ≡ ran_at scripts input made m entry
ran-entry scripts input made m Attach is well of = refl
ran-entry scripts input made m (Tell s text) is well of = ran-overrun (overruns scripts m text (seat_of s m.seats)) s
ran-entry scripts input made m (Take s) is well of = ran-sent s (waiting (protocol scripts) (seat_of s m.seats))
ran-entry scripts input made m (Detach s) is well of = refl
ran-entry scripts input made m (Ran n moment gone) is well of = rw of (ran-run scripts input made n moment m is well)
ran-entry scripts input made m Shut is well of = refl

ran-all : (history : List Entry) (scripts : List Script) (input : List (List ℕ)) (made : ℕ) (m : Meaning Program)
    → m.program ≡ plain made scripts input
    → IsPausedWell (protocol scripts) m
    → AreOfLines history
    → ran_of (output_of scripts m history) ≡ ran_texts scripts input made m history
ran-all [] scripts input made m is well of = refl
ran-all (entry ∷ history) scripts input made m is well of =
    ran-append (output_at scripts m entry) (output_of scripts (apply scripts m entry) history)
    ∙ ap (λ xs. xs ++ ran_of (output_of scripts (apply scripts m entry) history))
    (ran-entry scripts input made m entry is well of.0)
    ∙ ap (λ xs. ran_at scripts input made m entry ++ xs)
    (ran-all history scripts input (made + steps_of entry) (apply scripts m entry)
    (apply-plain scripts input made m entry is)
    (paused-well-from (protocol scripts) m (entry ∷ []) (enabled-kept scripts) well) of.1)

-- ---- which sessions are attached

attached-overrun : (b : Bool) (s : ℕ) → attached_of (if b then Overran s ∷ [] else []) ≡ []
attached-overrun true s = refl
attached-overrun false s = refl

none-more : {a b : ℕ} → a ≡ b → a ≡ b + 0
none-more is = omega (arith, is)

one-more : {a b : ℕ} → a ≡ suc b → a ≡ b + 1
one-more is = omega (arith, is)

-- the seats that there are after an entry, and the numbers that its lines tell
record Attaches (scripts : List Script) (m : Meaning Program) (entry : Entry) : Type 0 where
  seats : length (apply scripts m entry).seats ≡ length m.seats + attached_at entry
  told : attached_of (output_at scripts m entry) ≡ numbers_from (length m.seats + 1) (attached_at entry)

attaches : (scripts : List Script) (m : Meaning Program) (entry : Entry) → Attaches scripts m entry
attaches scripts m Attach = record { seats = one-more (append-length _ m.seats); told = refl }
attaches scripts m (Tell s text) =
    record {
      seats = none-more (tell-length (protocol scripts) s text m _);
      told = attached-overrun (overruns scripts m text (seat_of s m.seats)) s;
    }
attaches scripts m (Take s) =
    record {
      seats = none-more (take-length (protocol scripts) s m _);
      told = attached-sent s (waiting (protocol scripts) (seat_of s m.seats));
    }
attaches scripts m (Detach s) = record { seats = none-more (detach-length (protocol scripts) s m _); told = refl }
attaches scripts m (Ran n moment gone) =
    let printed : List (List ℕ) = printed_at scripts moment gone n m in
    let lost : List ℕ = overrun_at scripts moment gone n m in
    let last : List Output = RanTo n (state_of (apply scripts m (Ran n moment gone))) ∷ [] in
    record {
      seats = none-more (ran-length (protocol scripts) n moment gone m);
      told =
          attached-append (map Out printed) (map Overran lost ++ last)
          ∙ ap (λ xs. xs ++ attached_of (map Overran lost ++ last)) (attached-printed printed)
          ∙ lost-attached lost last;
    }
attaches scripts m Shut = record { seats = none-more refl; told = refl }

numbers-on : (s k n : ℕ) → numbers_from s k ++ numbers_from (s + k) n ≡ numbers_from s (n + k)
numbers-on s zero n =
    let low : s + 0 ≡ s = omega arith in
    let many : n ≡ n + 0 = omega arith in ap (λ t. numbers_from t n) low ∙ ap (numbers_from s) many
numbers-on s (suc k) n =
    let next : s + suc k ≡ s + 1 + k = omega arith in
    let many : suc (n + k) ≡ n + suc k = omega arith in
    ap (λ t. s ∷ (numbers_from (s + 1) k ++ numbers_from t n)) next
    ∙ ap (λ rest. s ∷ rest) (numbers-on (s + 1) k n)
    ∙ ap (numbers_from s) many

turned : (a b : ℕ) → a + b ≡ b + a
turned a b = omega arith

attached-all : (history : List Entry) (scripts : List Script) (m : Meaning Program)
    → attached_of (output_of scripts m history) ≡ numbers_from (length m.seats + 1) (attached_by history)
attached-all [] scripts m = refl
attached-all (entry ∷ history) scripts m =
    let here = attaches scripts m entry in
    let many = here.seats in
    let next : length (apply scripts m entry).seats + 1 ≡ length m.seats + 1 + attached_at entry = omega (arith, many) in
    attached-append (output_at scripts m entry) (output_of scripts (apply scripts m entry) history)
    ∙ ap (λ xs. xs ++ attached_of (output_of scripts (apply scripts m entry) history)) here.told
    ∙ ap (λ xs. numbers_from (length m.seats + 1) (attached_at entry) ++ xs)
    (attached-all history scripts (apply scripts m entry)
    ∙ ap (λ s. numbers_from s (attached_by history)) next)
    ∙ numbers-on (length m.seats + 1) (attached_at entry) (attached_by history)
    ∙ ap (numbers_from (length m.seats + 1)) (turned (attached_by history) (attached_at entry))

-- ---- which sessions are lost

lost-overrun : (b : Bool) (s : ℕ) → lost_of (if b then Overran s ∷ [] else []) ≡ (if b then s ∷ [] else [])
lost-overrun true s = refl
lost-overrun false s = refl

lost-at : (scripts : List Script) (m : Meaning Program) (entry : Entry)
    → lost_of (output_at scripts m entry) ≡ losses_at scripts m entry
lost-at scripts m Attach = refl
lost-at scripts m (Tell s text) = lost-overrun (overruns scripts m text (seat_of s m.seats)) s
lost-at scripts m (Take s) = lost-sent s (waiting (protocol scripts) (seat_of s m.seats))
lost-at scripts m (Detach s) = refl
lost-at scripts m (Ran n moment gone) =
    let printed : List (List ℕ) = printed_at scripts moment gone n m in
    let lost : List ℕ = overrun_at scripts moment gone n m in
    let last : List Output = RanTo n (state_of (apply scripts m (Ran n moment gone))) ∷ [] in
    lost-append (map Out printed) (map Overran lost ++ last)
    ∙ ap (λ xs. xs ++ lost_of (map Overran lost ++ last)) (lost-printed printed)
    ∙ lost-told lost last
    ∙ append-nil lost
lost-at scripts m Shut = refl

lost-all : (history : List Entry) (scripts : List Script) (m : Meaning Program)
    → lost_of (output_of scripts m history) ≡ losses_of scripts m history
lost-all [] scripts m = refl
lost-all (entry ∷ history) scripts m =
    lost-append (output_at scripts m entry) (output_of scripts (apply scripts m entry) history)
    ∙ ap (λ xs. xs ++ lost_of (output_of scripts (apply scripts m entry) history)) (lost-at scripts m entry)
    ∙ ap (λ xs. losses_at scripts m entry ++ xs) (lost-all history scripts (apply scripts m entry))

-- ---- what each session is sent

to-overrun : (s n : ℕ) (b : Bool) → to_of s (if b then Overran n ∷ [] else []) ≡ []
to-overrun s n true = refl
to-overrun s n false = refl

taken-by : (s n : ℕ) (texts : List (List ℕ)) (b : Bool)
    → s < 2 ^ 64
    → n < 2 ^ 64
    → (n == s) ≡ b
    → to_of s (map (To n) texts) ≡ map escaped (if b then texts else [])
taken-by s n texts true s_small n_small is = ap (λ r. to_of s (map (To r) texts)) (eqb-true n s is) ∙ to-own s texts
taken-by s n texts false s_small n_small is = to-others s n texts s_small n_small (eqb-false n s is)

sent-at : (scripts : List Script) (m : Meaning Program) (entry : Entry) (s : ℕ) → s < 2 ^ 64 → IsOfLine entry
    → to_of s (output_at scripts m entry) ≡ map escaped (handed_at (protocol scripts) s m entry)
sent-at scripts m Attach s s_small of = refl
sent-at scripts m (Tell n text) s s_small of = to-overrun s n (overruns scripts m text (seat_of n m.seats))
sent-at scripts m (Take n) s s_small of =
    taken-by s n (waiting (protocol scripts) (seat_of n m.seats)) (n == s) s_small of refl
sent-at scripts m (Detach n) s s_small of = refl
sent-at scripts m (Ran n moment gone) s s_small of =
    let printed : List (List ℕ) = printed_at scripts moment gone n m in
    let lost : List ℕ = overrun_at scripts moment gone n m in
    let last : List Output = RanTo n (state_of (apply scripts m (Ran n moment gone))) ∷ [] in
    to_of-append s (map Out printed) (map Overran lost ++ last)
    ∙ ap (λ xs. xs ++ to_of s (map Overran lost ++ last)) (to-printed s printed)
    ∙ lost-to s lost last
sent-at scripts m Shut s s_small of = refl

-- what a history's lines send to a session is what it hands out to it
sent-all : (history : List Entry) (scripts : List Script) (m : Meaning Program) (s : ℕ)
    → s < 2 ^ 64
    → AreOfLines history
    → to_of s (output_of scripts m history) ≡ map escaped (handed_of (protocol scripts) s m history)
sent-all [] scripts m s s_small of = refl
sent-all (entry ∷ history) scripts m s s_small of =
    let later : Meaning Program = apply scripts m entry in
    let first : List (List ℕ) = handed_at (protocol scripts) s m entry in
    let others : List (List ℕ) = handed_of (protocol scripts) s later history in
    to_of-append s (output_at scripts m entry) (output_of scripts later history)
    ∙ ap (λ xs. xs ++ to_of s (output_of scripts later history)) (sent-at scripts m entry s s_small of.0)
    ∙ ap (λ xs. map escaped first ++ xs) (sent-all history scripts later s s_small of.1)
    ∙ sym (map-append escaped first others)

kept-all : {C T Q X : Type 0}
    → (P : Protocol C T Q X) (handed : List (List ℕ)) (seat : Seat X) (made : List (List ℕ))
    → is_attached seat ≡ true
    → Keeps P handed seat made
    → handed ++ waiting P seat ≡ made
kept-all P handed (seats.Attached x) made there keeps = keeps
kept-all P handed (seats.Lost loss is_reported is_told) made there keeps = absurd cc
kept-all P handed seats.Left made there keeps = absurd cc

kept-first : {C T Q X : Type 0}
    → (P : Protocol C T Q X) (handed : List (List ℕ)) (seat : Seat X) (made : List (List ℕ))
    → Keeps P handed seat made
    → IsPrefix handed made
kept-first P handed (seats.Attached x) made keeps = (P.outbox x, sym keeps)
kept-first P handed (seats.Lost loss is_reported is_told) made keeps = keeps
kept-first P handed seats.Left made keeps = keeps

-- of the texts that are made for a session those that were handed out are the first; the others wait, while it is
-- attached
keeps-of : (scripts : List Script) (input : List (List ℕ)) (wait : Bool) (history : List Entry) (s : ℕ)
    → IsHistory scripts input wait history
    → Keeps (protocol scripts) (sent_to scripts input wait s history)
    (seat_of s (whole scripts input wait history).seats) (texts_to s scripts input wait history)
keeps-of scripts input wait history s fits =
    in-order (protocol scripts) (texts scripts) (sent scripts) s (start scripts input) wait history fits

-- where a session is attached at the end, all texts that are made for it were sent, or wait
sends-exact : (scripts : List Script) (input : List (List ℕ)) (wait : Bool) (history : List Entry) (s : ℕ)
    (lines : List (List ℕ))
    → IsHistory scripts input wait history
    → lines ≡ map escaped (sent_to scripts input wait s history) → is_there (whole scripts input wait history) s ≡ true
    → lines ++ map escaped (waiting_to s scripts (whole scripts input wait history)) ≡ map escaped
    (texts_to s scripts input wait history)
sends-exact scripts input wait history s lines fits are there =
    let m : Meaning Program = whole scripts input wait history in
    let handed : List (List ℕ) = sent_to scripts input wait s history in
    ap (λ xs. xs ++ map escaped (waiting_to s scripts m)) are
    ∙ sym (map-append escaped handed (waiting_to s scripts m))
    ∙ ap (map escaped)
    (kept-all (protocol scripts) handed (seat_of s m.seats) (texts_to s scripts input wait history) there
    (keeps-of scripts input wait history s fits))

-- and of any session the texts that were sent are the first that were made
sends-first : (scripts : List Script) (input : List (List ℕ)) (wait : Bool) (history : List Entry) (s : ℕ)
    (lines : List (List ℕ))
    → IsHistory scripts input wait history
    → lines ≡ map escaped (sent_to scripts input wait s history)
    → IsPrefix lines (map escaped (texts_to s scripts input wait history))
sends-first scripts input wait history s lines fits are =
    let handed : List (List ℕ) = sent_to scripts input wait s history in
    let first = kept-first (protocol scripts) handed (seat_of s (whole scripts input wait history).seats)
    (texts_to s scripts input wait history) (keeps-of scripts input wait history s fits) in (
      map escaped first.0,
      ap (map escaped) first.1
          ∙ map-append escaped handed first.0
          ∙ ap (λ xs. xs ++ map escaped first.0) (sym are),
    )

-- ---- the headline

pub headline-of : (lines : List (List ℕ)) (scripts : List Script) (input : List (List ℕ)) (wait : Bool)
    → let history = entries scripts (begin scripts input wait) lines in
    Headline scripts input wait history (output_bytes (output_of scripts (begin scripts input wait) history))
headline-of lines scripts input wait =
    let first : Meaning Program = begin scripts input wait in
    let history : List Entry = entries scripts first lines in
    let shows : List Output = output_of scripts first history in
    let goes = entries-go lines scripts first in
    let fits : IsHistory scripts input wait history = goes.0 in
    let begins = plain-start scripts input in
    let well : IsPausedWell (protocol scripts) first = paused-well (protocol scripts) (start scripts input) wait []
    (enabled-kept scripts) in
    let prints : out_texts shows ≡ printed_of (plain (steps_made history) scripts input) =
    ap (λ xs. xs ++ out_texts shows) (sym (start-prints scripts input))
    ∙ out-all history scripts first
    ∙ ap printed_of (goes-plainly scripts input wait history) in
    let cut = shown shows (lines-one shows) in
    let sends : (s : ℕ)
    → s < 2 ^ 64
    → behind_each (to_front s) (lines_of (output_bytes shows)) ≡ map escaped (sent_to scripts input wait s history) =
    λ s s_small. ap (behind_each (to_front s)) cut
    ∙ to-each s shows
    ∙ sent-all history scripts first s s_small goes.1 in
    record {
      prints = record {
        lines = ap (behind_each (codes "out ")) cut ∙ out-each shows ∙ ap (map printed_escaped) prints;
        is_prefix = plain-prints scripts input (steps_made history) (plain (steps_made history) scripts input) refl;
      };
      stops = record {
        is_history = fits;
        exactly = stops-exactly (protocol scripts) (start scripts input) wait history fits;
        lines =
            ap (behind_each (codes "ran ")) cut
            ∙ ran-each shows
            ∙ ran-all history scripts input 0 first begins well goes.1;
      };
      sends = record {
        lines = sends;
        alone = λ s. alone (protocol scripts) s (start scripts input) wait history fits;
        all =
            λ s s_small there. sends-exact scripts input wait history s
            (behind_each (to_front s) (lines_of (output_bytes shows))) fits (sends s s_small) there;
        first =
            λ s s_small. sends-first scripts input wait history s
            (behind_each (to_front s) (lines_of (output_bytes shows))) fits (sends s s_small);
        losses =
            ap (behind_each (codes "overrun ")) cut
            ∙ lost-each shows
            ∙ ap (map decimal) (lost-all history scripts first);
      };
      rest = record {
        attached =
            ap (behind_each (codes "attached ")) cut
            ∙ attached-each shows
            ∙ ap (map decimal) (attached-all history scripts first);
        kinds = ap (list_all is_of_a_kind) cut ∙ of-a-kind shows;
      };
    }
