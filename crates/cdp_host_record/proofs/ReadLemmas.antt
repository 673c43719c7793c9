-- A record is a journal: it is cut into the lines of its entries, and each is read as what was written.
use Rattle.std.proofs.Common.{◌≡◌, List, [], ◌∷◌, ◌++◌, map, All, Bool, true, false, not, if◌then◌else◌, Some, refl, ap, sym, ◌∙◌}
use Rattle.std.proofs.lemmas.Bool.{and_parts, not-false, or_parts}
use Rattle.std.proofs.lemmas.List.Elements.{All-append, All-cons, All-nil}
use Rattle.cdp_text.specs.Lines.{IsOneLine, lines_of}
use Rattle.cdp_text.proofs.LinesLemmas.{lines_of-ended}
use Rattle.cdp_journal.specs.Lines.{Line, is_tellable, line_of, line_text, memory_text}
use Rattle.cdp_journal.proofs.DrillLemmas.{ended-append}
use Rattle.cdp_journal.proofs.TellableLemmas.{tellable-written}
use Rattle.cdp_journal.proofs.WrittenLemmas.{IsWritten, are-one, is-one, read-each, written-cut}
use Rattle.cdp_host_isolation.specs.Histories.{Entry, apply}
use Rattle.cdp_host_isolation.specs.Meanings.{Meaning}
use Rattle.cdp_host_isolation.specs.Protocols.{Protocol}
use Rattle.cdp_host_record.specs.Records.{are_tellable, bytes_of, ends_record, has_ended, lines_at, lines_from, lists, memory_line, recorded_from}
use Rattle.cdp_host_record.proofs.GrowthLemmas.{recorded-plain}

-- ---- lines that are written

all-written : (lines : List Line) → are_tellable lines ≡ true → All IsWritten lines
all-written [] told = All-nil IsWritten
all-written (line ∷ lines) told =
    let parts = and_parts (is_tellable line) (are_tellable lines) told in
    All-cons IsWritten line lines (tellable-written line parts.0) (all-written lines parts.1)

-- an entry that doesn't end the record has lines that a journal can tell
at-written : {C T Q X : Type 0} → (P : Protocol C T Q X) (m : Meaning C Q X) (entry : Entry)
    → ends_record P m entry ≡ false
    → All IsWritten (lines_at P m entry)
at-written P m entry more =
    let parts = or_parts (lists entry) (not (are_tellable (lines_at P m entry))) more in
    all-written (lines_at P m entry) (not-false (are_tellable (lines_at P m entry)) parts.1)

unless-ended : (b : Bool) (now later : List Line) → (b ≡ false → All IsWritten now) → All IsWritten later
    → All IsWritten (if b then [] else now ++ later)
unless-ended true now later one all = All-nil IsWritten
unless-ended false now later one all = All-append IsWritten now later (one refl) all

pub from-written : {C T Q X : Type 0} → (P : Protocol C T Q X) (m : Meaning C Q X) (history : List Entry)
    → All IsWritten (lines_from P m history)
from-written P m [] = All-nil IsWritten
from-written P m (entry ∷ history) =
    unless-ended (ends_record P m entry) (lines_at P m entry) (lines_from P (apply P m entry) history)
    (λ more. at-written P m entry more) (from-written P (apply P m entry) history)

-- ---- lines that are cut and read

pub cut : {C T Q X : Type 0} → (P : Protocol C T Q X) (m : Meaning C Q X) (history : List Entry)
    → has_ended P m history ≡ false
    → lines_of (recorded_from P m history) ≡ map line_text (lines_from P m history)
cut P m history none = ap lines_of (recorded-plain P m history none) ∙ written-cut (lines_from P m history)

-- with the last line of a record that tells no more
pub cut-memory : (lines : List Line)
    → lines_of (bytes_of lines ++ memory_line) ≡ map line_text lines ++ memory_text ∷ []
cut-memory lines =
    let texts = map line_text lines in
    let last = memory_text ∷ [] in
    ap lines_of (sym (ended-append texts last))
    ∙ lines_of-ended (texts ++ last)
    (All-append IsOneLine texts last (are-one lines)
    (All-cons IsOneLine memory_text [] (is-one memory_text refl) (All-nil IsOneLine)))

pub cut-last : {C T Q X : Type 0} → (P : Protocol C T Q X) (m : Meaning C Q X) (history : List Entry)
    → has_ended P m history ≡ true
    → lines_of (recorded_from P m history) ≡ map line_text (lines_from P m history) ++ memory_text ∷ []
cut-last P m history some =
    ap (λ (b : Bool). lines_of (bytes_of (lines_from P m history) ++ (if b then memory_line else []))) some
    ∙ cut-memory (lines_from P m history)

pub read : {C T Q X : Type 0} → (P : Protocol C T Q X) (m : Meaning C Q X) (history : List Entry)
    → map line_of (map line_text (lines_from P m history)) ≡ map (λ line. Some line) (lines_from P m history)
read P m history = read-each (lines_from P m history) (from-written P m history)
