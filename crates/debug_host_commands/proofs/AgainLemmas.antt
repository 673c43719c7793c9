-- The replay of the record of a history plays it again.
use Rattle.std.proofs.Common.{◌≡◌, ℕ, ◌+◌, List, [], ◌∷◌, map, Bool, true, false, not, fold, if◌then◌else◌, Option, Some, None, refl, ap, sym, ◌∙◌, codes}
use Rattle.std.specs.Option.{option_and_then, option_map_or}
use Rattle.std.proofs.lemmas.Bool.{false≢true}
use Rattle.cdp_text.specs.Lines.{lines_of}
use Rattle.cdp_host_isolation.specs.Histories as histories
use Rattle.cdp_host_isolation.specs.Histories.{Entry, handed_of}
use Rattle.js_tree.specs.declared.script.Script.{Script}
use Rattle.js_semantics.specs.Run.{Run as Program}
use Rattle.cdp_host.specs.Histories.{IsHistory, Meaning, apply, begin}
use Rattle.cdp_host.specs.Programs.{printed_of, start}
use Rattle.cdp_host.specs.Protocols.{protocol}
use Rattle.cdp_host.proofs.LawLemmas.{goes-plainly}
use Rattle.cdp_host.proofs.ProtocolLemmas.{enabled-kept}
use Rattle.cdp_host.proofs.RecordLemmas.{untouched-kept}
use Rattle.cdp_journal.specs.Escapes.{escaped, printed_escaped}
use Rattle.cdp_journal.specs.Fronts.{behind_each}
use Rattle.cdp_journal.specs.Lines as lines
use Rattle.cdp_journal.specs.Lines.{Line, is_memory, line_of}
use Rattle.cdp_host_record.specs.Records.{is_some_there, recorded_from}
use Rattle.cdp_host_record.specs.Replays as replays
use Rattle.cdp_host_record.specs.Replays.{is_played, played}
use Rattle.cdp_host_record.proofs.PartLemmas.{plays-first}
use Rattle.cdp_host_record.proofs.ReplayLemmas.{same-or}
use Rattle.debug_host_commands.specs.Again.{ReplaysAgain}
use Rattle.debug_host_commands.specs.Journal.{behind_memory, entries, entry_at, entry_of, refused}
use Rattle.debug_host_commands.specs.Replays.{IsReplay}
use Rattle.debug_host_commands.specs.Shown.{to_front}
use Rattle.debug_host_commands.proofs.AppliedLemmas.{memory-last}
use Rattle.debug_host_commands.proofs.HeadlineLemmas.{headline-of}

-- ---- the lines of a journal, as a record sees them

same-at : (scripts : List Script) (m : Meaning Program) (line : Line)
    → entry_at scripts m line ≡ replays.entry_at (protocol scripts) m line
same-at scripts m lines.Attach = refl
same-at scripts m (lines.Tell s text) = refl
same-at scripts m (lines.Take s) = refl
same-at scripts m (lines.Detach s) = refl
same-at scripts m (lines.Run most moment) = refl
same-at scripts m lines.Shut = refl

same-entry : (scripts : List Script) (m : Meaning Program) (o : Option Line)
    → option_and_then (entry_at scripts m) o ≡ option_and_then (replays.entry_at (protocol scripts) m) o
same-entry scripts m None = refl
same-entry scripts m (Some line) = same-at scripts m line

-- the entries behind a line
same-behind : (scripts : List Script) (m : Meaning Program) (text : List ℕ) (texts : List (List ℕ))
    → ((entry : Entry)
    → entries scripts (apply scripts m entry) texts ≡ played (protocol scripts) (apply scripts m entry) texts)
    → (b : Bool)
    → is_memory text ≡ b
    → entries scripts m (text ∷ texts) ≡ (if b then []
    else option_map_or (λ entry. entry ∷ played (protocol scripts) (apply scripts m entry) texts)
    (option_and_then (replays.entry_at (protocol scripts) m) (line_of text)) [])
same-behind scripts m text texts behind true is = memory-last scripts m text texts is
same-behind scripts m text texts behind false is =
    ap (λ o. option_map_or (λ entry. entry ∷ entries scripts (apply scripts m entry) texts) o [])
    (same-entry scripts m (line_of text))
    ∙ same-or (λ entry. entry ∷ entries scripts (apply scripts m entry) texts)
    (λ entry. entry ∷ played (protocol scripts) (apply scripts m entry) texts)
    (option_and_then (replays.entry_at (protocol scripts) m) (line_of text))
    (λ entry. ap (λ later. entry ∷ later) (behind entry))

same-entries : (scripts : List Script) (m : Meaning Program) (texts : List (List ℕ))
    → entries scripts m texts ≡ played (protocol scripts) m texts
same-entries scripts m [] = refl
same-entries scripts m (text ∷ texts) =
    same-behind scripts m text texts (λ entry. same-entries scripts (apply scripts m entry) texts) (is_memory text) refl

-- ---- no line of it is refused

last-unrefused : (number : ℕ) (texts : List (List ℕ)) → not (is_some_there texts) ≡ true
    → behind_memory number texts ≡ None
last-unrefused number [] is = refl
last-unrefused number (text ∷ texts) is = absurd (false≢true is)

through : (n : ℕ) (f : Entry → Bool) (g : Entry → Option ℕ) (o : Option Entry)
    → ((entry : Entry) → f entry ≡ true → g entry ≡ None)
    → option_map_or f o false ≡ true
    → option_map_or g o (Some n) ≡ None
through n f g None goes is = absurd (false≢true is)
through n f g (Some entry) goes is = goes entry is

unrefused-behind : (scripts : List Script) (n : ℕ) (m : Meaning Program) (text : List ℕ) (texts : List (List ℕ))
    → ((entry : Entry)
    → is_played (protocol scripts) (apply scripts m entry) texts ≡ true
    → refused scripts (n + 1) (apply scripts m entry) texts ≡ None)
    → (b : Bool)
    → (if b then not (is_some_there texts)
    else option_map_or (λ entry. is_played (protocol scripts) (apply scripts m entry) texts)
    (option_and_then (replays.entry_at (protocol scripts) m) (line_of text)) false) ≡ true
    → (if b then behind_memory (n + 1) texts
    else option_map_or (λ entry. refused scripts (n + 1) (apply scripts m entry) texts) (entry_of scripts m text)
    (Some n)) ≡ None
unrefused-behind scripts n m text texts behind true is = last-unrefused (n + 1) texts is
unrefused-behind scripts n m text texts behind false is =
    ap (λ o. option_map_or (λ entry. refused scripts (n + 1) (apply scripts m entry) texts) o (Some n))
    (same-entry scripts m (line_of text))
    ∙ through n (λ entry. is_played (protocol scripts) (apply scripts m entry) texts)
    (λ entry. refused scripts (n + 1) (apply scripts m entry) texts)
    (option_and_then (replays.entry_at (protocol scripts) m) (line_of text)) behind is

unrefused : (scripts : List Script) (n : ℕ) (m : Meaning Program) (texts : List (List ℕ))
    → is_played (protocol scripts) m texts ≡ true
    → refused scripts n m texts ≡ None
unrefused scripts n m [] is = refl
unrefused scripts n m (text ∷ texts) is =
    unrefused-behind scripts n m text texts (λ entry. unrefused scripts (n + 1) (apply scripts m entry) texts)
    (is_memory text) is

-- ---- the record of a history

pub again : (scripts : List Script) (input : List (List ℕ)) (wait : Bool) (history : List Entry) (line : Option ℕ)
    (output : List ℕ)
    → IsHistory scripts input wait history
    → IsReplay scripts input wait (recorded_from (protocol scripts) (begin scripts input wait) history) line output
    → ReplaysAgain scripts input wait history line output
again scripts input wait history line output fits replay =
    let P = protocol scripts in
    let m : Meaning Program = begin scripts input wait in
    let texts : List (List ℕ) = lines_of (recorded_from P m history) in
    let plays = plays-first P (start scripts input) wait history (enabled-kept scripts) (untouched-kept scripts) fits in
    let same = same-entries scripts m texts in
    let head = headline-of texts scripts input wait in
    record {
      unrefused = replay.decided ∙ unrefused scripts 1 m texts plays.plays.all;
      first = plays.first;
      rest = plays.rest;
      whole = plays.whole;
      kept = plays.kept;
      prints =
          ap (λ shown. behind_each (codes "out ") (lines_of shown)) replay.only
          ∙ head.prints.lines
          ∙ ap (λ run. map printed_escaped (printed_of run))
          (sym (goes-plainly scripts input wait (entries scripts m texts))
          ∙ ap (λ es. (fold (histories.apply P) m es).program) same
          ∙ ap (λ (k : Meaning Program). k.program) plays.plays.means
          ∙ goes-plainly scripts input wait plays.first);
      sends = λ s small.
          ap (λ shown. behind_each (to_front s) (lines_of shown)) replay.only
          ∙ head.sends.lines s small
          ∙ ap (map escaped) (ap (λ es. handed_of P s m es) same ∙ plays.plays.handed s);
    }
