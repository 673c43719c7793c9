-- A record grows with its history.
use Rattle.std.proofs.Common.{◌≡◌, inl, inr, ℕ, List, [], ◌∷◌, ◌++◌, map, Bool, true, false, ◌||◌, not, fold, if◌then◌else◌, Option, Some, None, refl, ap, sym, subst, ◌∙◌, append_assoc, append-nil}
use Rattle.std.proofs.lemmas.Bool.{false≢true, or_from, or_parts, or_right}
use Rattle.std.proofs.lemmas.List.{map-append}
use Rattle.cdp_journal.specs.Lines.{Line, line_text}
use Rattle.cdp_journal.proofs.DrillLemmas.{ended-append}
use Rattle.cdp_host_isolation.specs.Histories.{Entry, apply}
use Rattle.cdp_host_isolation.specs.Makers.{entries_of, entry_of}
use Rattle.cdp_host_isolation.specs.Meanings.{Meaning, begin}
use Rattle.cdp_host_isolation.specs.Protocols.{Protocol}
use Rattle.cdp_host_turns.specs.Debuggings.{Debugging, meaning}
use Rattle.cdp_text.specs.Lines.{ended}
use Rattle.cdp_host_record.specs.Records.{are_tellable, bytes_of, ends_record, has_ended, is_some_there, lines_at, lines_from, lists, memory_line, recorded_from}
use Rattle.cdp_host_record.specs.Recordings.{Adds, AddsLines, AddsRun, AddsTold, Held, Holds, HoldsIf, IsCutShort, RecordsIf, closed, ended_if, longer}
use Rattle.cdp_host_record.specs.declared.state.RecordState.{RecordState}
use Rattle.cdp_host_record.specs.declared.state.RecordState.TheVariants.{Going, Ended, Lost}

-- ---- the lines of a longer history

pub bytes-append : (xs ys : List Line) → bytes_of (xs ++ ys) ≡ bytes_of xs ++ bytes_of ys
bytes-append xs ys = ap ended (map-append line_text xs ys) ∙ ended-append (map line_text xs) (map line_text ys)

pub none-more : {C T Q X : Type 0} → (P : Protocol C T Q X) (m : Meaning C Q X) (history : List Entry) (entry : Entry)
    → has_ended P m history ≡ false
    → ends_record P (fold (apply P) m history) entry ≡ false
    → has_ended P m (history ++ entry ∷ []) ≡ false
none-more P m [] entry none more = or_from (ends_record P m entry) false more refl
none-more P m (here ∷ history) entry none more =
    let k = apply P m here in
    let parts = or_parts (ends_record P m here) (has_ended P k history) none in
    or_from (ends_record P m here) (has_ended P k (history ++ entry ∷ [])) parts.0
    (none-more P k history entry parts.1 more)

-- an entry that doesn't end the record has its lines
quiet-line : {A : Type 0} → (b : Bool) (xs : List A) → b ≡ false → (if b then [] else xs) ≡ xs
quiet-line b xs quiet = rw quiet refl

pub lines-more : {C T Q X : Type 0} → (P : Protocol C T Q X) (m : Meaning C Q X) (history : List Entry) (entry : Entry)
    → has_ended P m history ≡ false
    → ends_record P (fold (apply P) m history) entry ≡ false
    → lines_from P m (history ++ entry ∷ []) ≡ lines_from P m history ++ lines_at P (fold (apply P) m history) entry
lines-more P m [] entry none more =
    quiet-line (ends_record P m entry) (lines_at P m entry ++ []) more ∙ append-nil (lines_at P m entry)
lines-more P m (here ∷ history) entry none more =
    let now = lines_at P m here in
    let k = apply P m here in
    let parts = or_parts (ends_record P m here) (has_ended P k history) none in
    let last = lines_at P (fold (apply P) k history) entry in
    quiet-line (ends_record P m here) (now ++ lines_from P k (history ++ entry ∷ [])) parts.0
    ∙ ap (λ rest. now ++ rest) (lines-more P k history entry parts.1 more)
    ∙ sym (append_assoc now (lines_from P k history) last)
    ∙ ap (λ lines. lines ++ last) (sym (quiet-line (ends_record P m here) (now ++ lines_from P k history) parts.0))

-- the record of a history that doesn't end it is its lines
pub recorded-plain : {C T Q X : Type 0} → (P : Protocol C T Q X) (m : Meaning C Q X) (history : List Entry)
    → has_ended P m history ≡ false
    → recorded_from P m history ≡ bytes_of (lines_from P m history)
recorded-plain P m history none =
    ap (λ (b : Bool). bytes_of (lines_from P m history) ++ (if b then memory_line else [])) none
    ∙ append-nil (bytes_of (lines_from P m history))

-- with one more entry it has that entry's lines more
pub recorded-more : {C T Q X : Type 0} → (P : Protocol C T Q X) (m : Meaning C Q X) (history : List Entry)
    (entry : Entry)
    → has_ended P m history ≡ false
    → ends_record P (fold (apply P) m history) entry ≡ false
    → recorded_from P m (history ++ entry ∷ [])
    ≡ recorded_from P m history ++ bytes_of (lines_at P (fold (apply P) m history) entry)
recorded-more P m history entry none more =
    let last = lines_at P (fold (apply P) m history) entry in
    recorded-plain P m (history ++ entry ∷ []) (none-more P m history entry none more)
    ∙ ap bytes_of (lines-more P m history entry none more)
    ∙ bytes-append (lines_from P m history) last
    ∙ ap (λ bytes. bytes ++ bytes_of last) (sym (recorded-plain P m history none))

-- ---- an entry that ends the record

lines-last : {C T Q X : Type 0} → (P : Protocol C T Q X) (m : Meaning C Q X) (history more : List Entry) (entry : Entry)
    → ends_record P (fold (apply P) m history) entry ≡ true
    → lines_from P m (history ++ entry ∷ more) ≡ lines_from P m history
lines-last P m [] more entry last =
    ap (λ (b : Bool). if b then [] else lines_at P m entry ++ lines_from P (apply P m entry) more) last
lines-last P m (here ∷ history) more entry last =
    ap (λ rest. if ends_record P m here then [] else lines_at P m here ++ rest)
    (lines-last P (apply P m here) history more entry last)

some-last : {C T Q X : Type 0} → (P : Protocol C T Q X) (m : Meaning C Q X) (history more : List Entry) (entry : Entry)
    → ends_record P (fold (apply P) m history) entry ≡ true
    → has_ended P m (history ++ entry ∷ more) ≡ true
some-last P m [] more entry last = ap (λ b. b || has_ended P (apply P m entry) more) last
some-last P m (here ∷ history) more entry last =
    ap (λ b. ends_record P m here || b) (some-last P (apply P m here) history more entry last)
    ∙ or_right (ends_record P m here) true refl

-- nothing after it is told
pub recorded-last : {C T Q X : Type 0} → (P : Protocol C T Q X) (m : Meaning C Q X) (history more : List Entry)
    (entry : Entry)
    → has_ended P m history ≡ false
    → ends_record P (fold (apply P) m history) entry ≡ true
    → recorded_from P m (history ++ entry ∷ more) ≡ recorded_from P m history ++ memory_line
recorded-last P m history more entry none last =
    let all = history ++ entry ∷ more in
    ap (λ (b : Bool). bytes_of (lines_from P m all) ++ (if b then memory_line else []))
    (some-last P m history more entry last)
    ∙ ap (λ lines. bytes_of lines ++ memory_line) (lines-last P m history more entry last)
    ∙ ap (λ bytes. bytes ++ memory_line) (sym (recorded-plain P m history none))

-- ---- what follows it

stays-at : (b rest more : Bool) → (b || rest) ≡ true → (rest ≡ true → more ≡ true) → (b || more) ≡ true
stays-at true rest more is goes = refl
stays-at false rest more is goes = goes is

some-stays : {C T Q X : Type 0} → (P : Protocol C T Q X) (m : Meaning C Q X) (history more : List Entry)
    → has_ended P m history ≡ true
    → has_ended P m (history ++ more) ≡ true
some-stays P m [] more is = absurd (false≢true is)
some-stays P m (here ∷ history) more is =
    let k = apply P m here in
    stays-at (ends_record P m here) (has_ended P k history) (has_ended P k (history ++ more)) is
    (λ rest. some-stays P k history more rest)

lines-stay-at : (b rest : Bool) (now more less : List Line) → (b || rest) ≡ true → (rest ≡ true → more ≡ less)
    → (if b then [] else now ++ more) ≡ (if b then [] else now ++ less)
lines-stay-at true rest now more less is goes = refl
lines-stay-at false rest now more less is goes = ap (λ lines. now ++ lines) (goes is)

lines-stay : {C T Q X : Type 0} → (P : Protocol C T Q X) (m : Meaning C Q X) (history more : List Entry)
    → has_ended P m history ≡ true
    → lines_from P m (history ++ more) ≡ lines_from P m history
lines-stay P m [] more is = absurd (false≢true is)
lines-stay P m (here ∷ history) more is =
    let k = apply P m here in
    lines-stay-at (ends_record P m here) (has_ended P k history) (lines_at P m here) (lines_from P k (history ++ more))
    (lines_from P k history) is (λ rest. lines-stay P k history more rest)

-- a record that has ended stays as it is
recorded-stays : {C T Q X : Type 0} → (P : Protocol C T Q X) (m : Meaning C Q X) (history more : List Entry)
    → has_ended P m history ≡ true
    → recorded_from P m (history ++ more) ≡ recorded_from P m history
recorded-stays P m history more is =
    ap (λ lines. bytes_of lines ++ (if has_ended P m (history ++ more) then memory_line else []))
    (lines-stay P m history more is)
    ∙ ap (λ (b : Bool). bytes_of (lines_from P m history) ++ (if b then memory_line else []))
    (some-stays P m history more is ∙ sym is)

-- ---- what is held of a longer history

cut-more : {C T Q X : Type 0} → (P : Protocol C T Q X) (m : Meaning C Q X) (history : List Entry) (entry : Entry)
    (bytes : List ℕ)
    → IsCutShort P m history bytes
    → IsCutShort P m (history ++ entry ∷ []) bytes
cut-more P m history entry bytes cut = record {
  first = cut.first;
  entry = cut.entry;
  rest = cut.rest ++ entry ∷ [];
  whole = ap (λ entries. entries ++ entry ∷ []) cut.whole
      ∙ append_assoc cut.first (cut.entry ∷ cut.rest) (entry ∷ []);
  none_ended = cut.none_ended;
  unended = cut.unended;
  has_line = cut.has_line;
  is = cut.is;
}

-- one that has ended
ended-more : {C T Q X : Type 0} → (P : Protocol C T Q X) (m : Meaning C Q X) (history : List Entry) (entry : Entry)
    (bytes : List ℕ)
    → Holds P m history Ended bytes
    → Holds P m (history ++ entry ∷ []) Ended bytes
ended-more P m history entry bytes holds = (
  holds.0 ∙ sym (recorded-stays P m history (entry ∷ []) holds.1),
  some-stays P m history (entry ∷ []) holds.1,
)

-- an entry without lines
passes : {C T Q X : Type 0} → (P : Protocol C T Q X) (m : Meaning C Q X) (history : List Entry) (entry : Entry)
    (state : RecordState) (bytes : List ℕ)
    → Holds P m history state bytes
    → ends_record P (fold (apply P) m history) entry ≡ false
    → lines_at P (fold (apply P) m history) entry ≡ []
    → Holds P m (history ++ entry ∷ []) state bytes
passes P m history entry Lost bytes holds more none = cut-more P m history entry bytes holds
passes P m history entry Ended bytes holds more none = ended-more P m history entry bytes holds
passes P m history entry Going bytes holds more none = (
  holds.0
      ∙ sym (append-nil (recorded_from P m history))
      ∙ ap (λ lines. recorded_from P m history ++ bytes_of lines) (sym none)
      ∙ sym (recorded-more P m history entry holds.1 more),
  none-more P m history entry holds.1 more,
)

-- its lines are added
grows : {C T Q X : Type 0} → (P : Protocol C T Q X) (m : Meaning C Q X) (history : List Entry) (entry : Entry)
    (state : RecordState) (bytes : List ℕ)
    → Holds P m history state bytes
    → ends_record P (fold (apply P) m history) entry ≡ false
    → HoldsIf P m (history ++ entry ∷ [])
    (Some (longer (bytes_of (lines_at P (fold (apply P) m history) entry)) (record { bytes = bytes; state = state })))
grows P m history entry Lost bytes holds more = cut-more P m history entry bytes holds
grows P m history entry Ended bytes holds more = ended-more P m history entry bytes holds
grows P m history entry Going bytes holds more =
    let last = bytes_of (lines_at P (fold (apply P) m history) entry) in (
      ap (λ before. before ++ last) holds.0 ∙ sym (recorded-more P m history entry holds.1 more),
      none-more P m history entry holds.1 more,
    )

-- there is no memory for them
loses : {C T Q X : Type 0} → (P : Protocol C T Q X) (m : Meaning C Q X) (history : List Entry) (entry : Entry)
    (state : RecordState) (bytes : List ℕ)
    → Holds P m history state bytes
    → ends_record P (fold (apply P) m history) entry ≡ false
    → is_some_there (lines_at P (fold (apply P) m history) entry) ≡ true
    → HoldsIf P m (history ++ entry ∷ []) (Some (closed Lost (record { bytes = bytes; state = state })))
loses P m history entry Lost bytes holds more has_line = cut-more P m history entry bytes holds
loses P m history entry Ended bytes holds more has_line = ended-more P m history entry bytes holds
loses P m history entry Going bytes holds more has_line = record {
  first = history;
  entry = entry;
  rest = [];
  whole = refl;
  none_ended = holds.1;
  unended = more;
  has_line = has_line;
  is = ap (λ before. before ++ memory_line) holds.0;
}

-- it ends the record
closes : {C T Q X : Type 0} → (P : Protocol C T Q X) (m : Meaning C Q X) (history : List Entry) (entry : Entry)
    (state : RecordState) (bytes : List ℕ)
    → Holds P m history state bytes
    → ends_record P (fold (apply P) m history) entry ≡ true
    → HoldsIf P m (history ++ entry ∷ []) (Some (closed Ended (record { bytes = bytes; state = state })))
closes P m history entry Lost bytes holds last = cut-more P m history entry bytes holds
closes P m history entry Ended bytes holds last = ended-more P m history entry bytes holds
closes P m history entry Going bytes holds last = (
  ap (λ before. before ++ memory_line) holds.0 ∙ sym (recorded-last P m history [] entry holds.1 last),
  some-last P m history [] entry last,
)

-- ---- of one that may be kept

-- its lines, of which a journal can tell each
adds-told : {C T Q X : Type 0} → (P : Protocol C T Q X) (m : Meaning C Q X) (history : List Entry) (entry : Entry)
    (line : Line) (lines : List Line) (old new : Held)
    → lines_at P (fold (apply P) m history) entry ≡ line ∷ lines
    → Holds P m history old.state old.bytes
    → ends_record P (fold (apply P) m history) entry ≡ false
    → Adds (bytes_of (line ∷ lines)) old new
    → HoldsIf P m (history ++ entry ∷ []) (Some new)
adds-told P m history entry line lines old new is holds more (inl added) =
    subst (λ held. HoldsIf P m (history ++ entry ∷ []) (Some held))
    (sym (added ∙ ap (λ these. longer (bytes_of these) old) (sym is)))
    (grows P m history entry old.state old.bytes holds more)
adds-told P m history entry line lines old new is holds more (inr lost) =
    subst (λ held. HoldsIf P m (history ++ entry ∷ []) (Some held)) (sym lost)
    (loses P m history entry old.state old.bytes holds more (ap (λ these. is_some_there these) is))

-- or one that it can't
adds-some : {C T Q X : Type 0} → (P : Protocol C T Q X) (m : Meaning C Q X) (history : List Entry) (entry : Entry)
    (line : Line) (lines : List Line) (old new : Held)
    → lines_at P (fold (apply P) m history) entry ≡ line ∷ lines
    → Holds P m history old.state old.bytes
    → lists entry ≡ false
    → (b : Bool)
    → are_tellable (line ∷ lines) ≡ b
    → AddsTold b (bytes_of (line ∷ lines)) old new
    → HoldsIf P m (history ++ entry ∷ []) (Some new)
adds-some P m history entry line lines old new is holds quiet true told added =
    let now = lines_at P (fold (apply P) m history) entry in
    adds-told P m history entry line lines old new is holds
    (or_from (lists entry) (not (are_tellable now)) quiet (ap (λ these. not (are_tellable these)) is ∙ ap not told))
    added
adds-some P m history entry line lines old new is holds quiet false untold added =
    let now = lines_at P (fold (apply P) m history) entry in
    subst (λ held. HoldsIf P m (history ++ entry ∷ []) (Some held)) (sym added)
    (closes P m history entry old.state old.bytes holds
    (or_right (lists entry) (not (are_tellable now)) (ap (λ these. not (are_tellable these)) is ∙ ap not untold)))

adds : {C T Q X : Type 0} → (P : Protocol C T Q X) (m : Meaning C Q X) (history : List Entry) (entry : Entry)
    (lines : List Line) (old new : Option Held)
    → lines_at P (fold (apply P) m history) entry ≡ lines
    → HoldsIf P m history old
    → lists entry ≡ false
    → AddsLines lines old new
    → HoldsIf P m (history ++ entry ∷ []) new
adds P m history entry [] None new is holds quiet added =
    subst (HoldsIf P m (history ++ entry ∷ [])) (sym added) tt
adds P m history entry [] (Some held) new is holds quiet added =
    let now = lines_at P (fold (apply P) m history) entry in
    subst (HoldsIf P m (history ++ entry ∷ [])) (sym added)
    (passes P m history entry held.state held.bytes holds
    (or_from (lists entry) (not (are_tellable now)) quiet (ap (λ these. not (are_tellable these)) is)) is)
adds P m history entry (line ∷ lines) None new is holds quiet added =
    subst (HoldsIf P m (history ++ entry ∷ [])) (sym added) tt
adds P m history entry (line ∷ lines) (Some held) new is holds quiet added =
    subst (HoldsIf P m (history ++ entry ∷ [])) (sym added.1)
    (adds-some P m history entry line lines held added.0 is holds quiet (are_tellable (line ∷ lines)) refl added.2)

ends : {C T Q X : Type 0} → (P : Protocol C T Q X) (m : Meaning C Q X) (history : List Entry) (entry : Entry)
    (old : Option Held)
    → HoldsIf P m history old
    → lists entry ≡ true
    → HoldsIf P m (history ++ entry ∷ []) (ended_if old)
ends P m history entry None holds listed = tt
ends P m history entry (Some held) holds listed =
    closes P m history entry held.state held.bytes holds
    (ap (λ b. b || not (are_tellable (lines_at P (fold (apply P) m history) entry))) listed)

-- ---- of a history with makers

entries-more : (h : List (ℕ × Entry)) (k : ℕ) (entry : Entry)
    → entries_of h ++ entry ∷ [] ≡ entries_of (h ++ (k, entry) ∷ [])
entries-more h k entry = sym (map-append entry_of h ((k, entry) ∷ []))

-- an entry that lists nobody adds its lines
pub adds-lines : (d : Debugging) (h : List (ℕ × Entry)) (k : ℕ) (entry : Entry) (lines : List Line)
    (old new : Option Held)
    → lines_at d.protocol (meaning d h) entry ≡ lines
    → RecordsIf d h old
    → lists entry ≡ false
    → AddsLines lines old new
    → RecordsIf d (h ++ (k, entry) ∷ []) new
adds-lines d h k entry lines old new is records quiet added =
    subst (λ entries. HoldsIf d.protocol (begin d.program d.wait) entries new)
    (entries-more h k entry)
    (adds d.protocol (begin d.program d.wait) (entries_of h) entry lines old new is records quiet added)

-- a run adds its lines, or ends the record where it lists somebody
pub adds-run : (d : Debugging) (h : List (ℕ × Entry)) (k : ℕ) (entry : Entry) (listed : Bool) (lines : List Line)
    (old new : Option Held)
    → lists entry ≡ listed
    → lines_at d.protocol (meaning d h) entry ≡ lines
    → RecordsIf d h old
    → AddsRun listed lines old new
    → RecordsIf d (h ++ (k, entry) ∷ []) new
adds-run d h k entry false lines old new quiet is records added =
    adds-lines d h k entry lines old new is records quiet added
adds-run d h k entry true lines old new listed is records added =
    subst (λ entries. HoldsIf d.protocol (begin d.program d.wait) entries new)
    (entries-more h k entry)
    (subst (HoldsIf d.protocol (begin d.program d.wait) (entries_of h ++ entry ∷ [])) (sym added)
    (ends d.protocol (begin d.program d.wait) (entries_of h) entry old records listed))
