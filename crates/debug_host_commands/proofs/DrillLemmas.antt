-- What each end of a drill says of its script, its journal and its summary.
use Rattle.std.proofs.Common.{◌≡◌, ℕ, List, [], ◌∷◌, false, Option, Some, None, refl, sym, subst, inl, ◌∙◌, Bool}
use Rattle.cdp_edge.specs.Outside.{gains, GainsLess, GainsPrefix}
use Rattle.cdp_journal.specs.Drills.{drill_journal, drill_source}
use Rattle.cdp_journal.specs.Summaries.{summary}
use Rattle.js_tree.specs.declared.script.Script.{Script}
use Rattle.debug_host_script_files.specs.Refusals.{IsRefused}
use Rattle.debug_host_script_files.specs.declared.fault.TextFault.{TextFault}
use Rattle.debug_host_commands.specs.DrillCauses.{BecauseDrill, BecauseJournalOf, DrillRefuses, DrillsInPart, DrillsShort, DrillsWhole, IsDrilled, IsDrillScript, script_name}
use Rattle.debug_host_commands.specs.Replays.{IsReplay, WritesReplay}
use Rattle.debug_host_commands.specs.Status.{ForDrill, line_said, refusal_said, said, status_of, Says}
use Rattle.debug_host_options.specs.Requests.{Request, Drill}
use Rattle.debug_host_commands.specs.declared.outcome.CommandEnd.{CommandEnd}
use Rattle.debug_host_commands.specs.declared.outcome.CommandEnd.TheVariants as ends
use Rattle.cdp_edge_printing.proofs.PrintingLemmas.{less-part}
use Rattle.cdp_edge_printing.proofs.PrintingLemmas.{whole-part as gained}

-- ---- the replay in memory

-- what is kept of a replay in memory is its output
pub drilled : (n : ℕ) (script : Script) (scripts : List Script) (input : List (List ℕ)) (journal before now : List ℕ)
    (line : Option ℕ)
    → scripts ≡ script ∷ [] → input ≡ [] → journal ≡ drill_journal n → before ≡ []
    → WritesReplay scripts input false journal line before now → IsDrilled n script line now
drilled n script scripts input journal before now line one none is began written =
    let w : WritesReplay scripts input false journal line [] now =
    subst (λ (b : List ℕ). WritesReplay scripts input false journal line b now) began written in
    let here : now ≡ w.output = w.whole in
    let all : IsReplay scripts input false journal line now = subst
    (λ (o : List ℕ). IsReplay scripts input false journal line o) (sym here) w.replay in
    let told : IsReplay scripts input false (drill_journal n) line now = subst
    (λ (j : List ℕ). IsReplay scripts input false j line now) is all in
    let empty : IsReplay scripts [] false (drill_journal n) line now = subst
    (λ (i : List (List ℕ)). IsReplay scripts i false (drill_journal n) line now) none told in
    subst (λ (s : List Script). IsReplay s [] false (drill_journal n) line now) one empty

-- ---- causes

-- why it ended so whose journal wasn't replayed to its end
pub unplayed : (end : CommandEnd) (n was : ℕ) (old : List ℕ) (script : Script)
    → IsDrillScript n script
    → BecauseJournalOf end n script
    → BecauseDrill end n was was old old
unplayed ends.Done n was old script is h = absurd h
unplayed (ends.Threw text) n was old script is h = absurd h
unplayed ends.OutOfMemory n was old script is h = (refl, inl refl)
unplayed ends.Usage n was old script is h = absurd h
unplayed ends.NetworkFault n was old script is h = absurd h
unplayed ends.ThrewUnshown n was old script is h = absurd h
unplayed ends.TicketsSpent n was old script is h = absurd h
unplayed (ends.PeerClosed replies) n was old script is h = absurd h
unplayed (ends.Refused name r) n was old script is h = absurd h
unplayed (ends.CannotStore name) n was old script is h = absurd h
unplayed (ends.CannotRead name) n was old script is h = absurd h
unplayed ends.CannotWrite n was old script is h = absurd h
unplayed (ends.LineRefused line) n was old script is (output, replay) =
    (refl, refl, record { script = script; is = is; output = output; replay = replay })

-- ---- what is written of the summary

pub wrote-all : (n : ℕ) (script : Script) (output text : List ℕ) (old new : List ℕ)
    → IsDrillScript n script
    → IsDrilled n script None output
    → text ≡ summary output → new ≡ gains old text → DrillsWhole n old new
wrote-all n script output text old new is replay sum whole = record {
  script = script;
  is = is;
  output = output;
  replay = replay;
  whole = subst (λ (t : List ℕ). new ≡ gains old t) sum whole;
}

pub wrote-less : (n : ℕ) (script : Script) (output text : List ℕ) (old new : List ℕ)
    → IsDrillScript n script
    → IsDrilled n script None output
    → text ≡ summary output → GainsLess old new text → DrillsShort n old new
wrote-less n script output text old new is replay sum less = record {
  script = script;
  is = is;
  output = output;
  replay = replay;
  less = subst (λ (t : List ℕ). GainsLess old new t) sum less;
}

pub wrote-part : (n : ℕ) (script : Script) (output text : List ℕ) (old new : List ℕ)
    → IsDrillScript n script
    → IsDrilled n script None output
    → text ≡ summary output → GainsLess old new text → DrillsInPart n old new
wrote-part n script output text old new is replay sum less = record {
  script = script;
  is = is;
  output = output;
  replay = replay;
  part = subst (λ (t : List ℕ). GainsPrefix old new t) sum (less-part old new text less);
}

-- what is written whole is written in part
pub whole-part : (n : ℕ) (old new : List ℕ) → DrillsWhole n old new → DrillsInPart n old new
whole-part n old new w = record {
  script = w.script;
  is = w.is;
  output = w.output;
  replay = w.replay;
  part = gained old new (summary w.output) w.whole;
}

-- ---- of the words that ask for a drill

-- how a line of its journal that is refused is told
abbrev IsToldLine : List ℕ → List ℕ → Bool → List ℕ → List ℕ → ℕ → Type 0
IsToldLine old new explains before after n =
    (number : ℕ) × DrillRefuses n number × (new ≡ old) × Says explains before after (line_said number)

line-told : (end : CommandEnd) (n was now : ℕ) (old new : List ℕ) (explains : Bool) (before after : List ℕ) → status_of end ≡ 6
    → BecauseDrill end n was now old new → Says explains before after (said end) → IsToldLine old new explains before after n
line-told (ends.LineRefused line) n was now old new explains before after is h says = (line, h.2, h.1, says)
line-told ends.Done n was now old new explains before after is h says = absurd cc
line-told (ends.Threw text) n was now old new explains before after is h says = absurd h
line-told ends.ThrewUnshown n was now old new explains before after is h says = absurd h
line-told ends.OutOfMemory n was now old new explains before after is h says = absurd cc
line-told ends.Usage n was now old new explains before after is h says = absurd h
line-told (ends.Refused name r) n was now old new explains before after is h says = absurd cc
line-told (ends.CannotStore name) n was now old new explains before after is h says = absurd h
line-told (ends.CannotRead name) n was now old new explains before after is h says = absurd h
line-told ends.CannotWrite n was now old new explains before after is h says = absurd cc
line-told ends.NetworkFault n was now old new explains before after is h says = absurd h
line-told ends.TicketsSpent n was now old new explains before after is h says = absurd h
line-told (ends.PeerClosed replies) n was now old new explains before after is h says = absurd h

pub line_given : (o : Option Request) (n : ℕ) (end : CommandEnd) (was now : ℕ) (old new : List ℕ) (explains : Bool) (before after : List ℕ)
    (status : ℕ) → o ≡ Some (Drill n) → status ≡ status_of end → BecauseDrill end n was now old new
    → Says explains before after (said end) → status ≡ 6 → ForDrill o (IsToldLine old new explains before after)
line_given o n end was now old new explains before after status is ends_so h says six =
    let told : IsToldLine old new explains before after n =
    line-told end n was now old new explains before after (sym ends_so ∙ six) h says in rw is told

-- how a script of it that is refused is told
abbrev IsToldRefusal : Bool → List ℕ → List ℕ → ℕ → Type 0
IsToldRefusal explains before after n =
    (refusal : TextFault) × IsRefused [] (drill_source n) refusal × Says explains before after (refusal_said script_name refusal)

done-told : (end : CommandEnd) (n was now : ℕ) (old new : List ℕ) → status_of end ≡ 0
    → BecauseDrill end n was now old new → DrillsWhole n old new
done-told ends.Done n was now old new is h = h.1
done-told (ends.Threw text) n was now old new is h = absurd h
done-told ends.ThrewUnshown n was now old new is h = absurd h
done-told ends.OutOfMemory n was now old new is h = absurd cc
done-told ends.Usage n was now old new is h = absurd h
done-told (ends.Refused name r) n was now old new is h = absurd cc
done-told (ends.CannotStore name) n was now old new is h = absurd h
done-told (ends.CannotRead name) n was now old new is h = absurd h
done-told ends.CannotWrite n was now old new is h = absurd cc
done-told (ends.LineRefused line) n was now old new is h = absurd cc
done-told ends.NetworkFault n was now old new is h = absurd h
done-told ends.TicketsSpent n was now old new is h = absurd h
done-told (ends.PeerClosed replies) n was now old new is h = absurd h

short-told : (end : CommandEnd) (n was now : ℕ) (old new : List ℕ) → status_of end ≡ 5
    → BecauseDrill end n was now old new → DrillsShort n old new
short-told ends.Done n was now old new is h = absurd cc
short-told (ends.Threw text) n was now old new is h = absurd h
short-told ends.ThrewUnshown n was now old new is h = absurd h
short-told ends.OutOfMemory n was now old new is h = absurd cc
short-told ends.Usage n was now old new is h = absurd h
short-told (ends.Refused name r) n was now old new is h = absurd cc
short-told (ends.CannotStore name) n was now old new is h = absurd h
short-told (ends.CannotRead name) n was now old new is h = absurd h
short-told ends.CannotWrite n was now old new is h = h.1
short-told (ends.LineRefused line) n was now old new is h = absurd cc
short-told ends.NetworkFault n was now old new is h = absurd h
short-told ends.TicketsSpent n was now old new is h = absurd h
short-told (ends.PeerClosed replies) n was now old new is h = absurd h

refusal-told : (end : CommandEnd) (n was now : ℕ) (old new : List ℕ) (explains : Bool) (before after : List ℕ) → status_of end ≡ 3
    → BecauseDrill end n was now old new → Says explains before after (said end) → IsToldRefusal explains before after n
refusal-told ends.Done n was now old new explains before after is h says = absurd cc
refusal-told (ends.Threw text) n was now old new explains before after is h says = absurd h
refusal-told ends.ThrewUnshown n was now old new explains before after is h says = absurd h
refusal-told ends.OutOfMemory n was now old new explains before after is h says = absurd cc
refusal-told ends.Usage n was now old new explains before after is h says = absurd h
refusal-told (ends.Refused name r) n was now old new explains before after is h says = (r, h.3, subst (λ (l : List ℕ). Says explains before after (refusal_said l r)) h.2 says)
refusal-told (ends.CannotStore name) n was now old new explains before after is h says = absurd h
refusal-told (ends.CannotRead name) n was now old new explains before after is h says = absurd h
refusal-told ends.CannotWrite n was now old new explains before after is h says = absurd cc
refusal-told (ends.LineRefused line) n was now old new explains before after is h says = absurd cc
refusal-told ends.NetworkFault n was now old new explains before after is h says = absurd h
refusal-told ends.TicketsSpent n was now old new explains before after is h says = absurd h
refusal-told (ends.PeerClosed replies) n was now old new explains before after is h says = absurd h

module _ (o : Option Request) (n : ℕ) (end : CommandEnd) (was now : ℕ) (old new : List ℕ) (status : ℕ)
    (is : o ≡ Some (Drill n)) (ends_so : status ≡ status_of end) (h : BecauseDrill end n was now old new) where
  pub done_given : status ≡ 0 → ForDrill o (λ m. DrillsWhole m old new)
  done_given zero =
      let it : DrillsWhole n old new = done-told end n was now old new (sym ends_so ∙ zero) h in rw is it

  pub short_given : status ≡ 5 → ForDrill o (λ m. DrillsShort m old new)
  short_given five =
      let it : DrillsShort n old new = short-told end n was now old new (sym ends_so ∙ five) h in rw is it

  pub refusal_given : (explains : Bool) (before after : List ℕ) → Says explains before after (said end) → status ≡ 3
      → ForDrill o (IsToldRefusal explains before after)
  refusal_given explains before after says three =
      let it : IsToldRefusal explains before after n =
      refusal-told end n was now old new explains before after (sym ends_so ∙ three) h says in rw is it
