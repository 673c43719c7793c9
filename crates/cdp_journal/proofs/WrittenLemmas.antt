-- A journal whose lines are written is cut into these lines, and each of them is read as what it was written of.
use Rattle.std.proofs.Common.{◌≡◌, ◌≢◌, ℕ, suc, ◌<◌, ◌≤◌, ◌^◌, List, [], ◌∷◌, ◌++◌, length, map, All, Bool, true, false, ◌==◌, nat_lt, None, Some, refl, ap, sym, ◌∙◌, arith, codes, decimal, if◌then◌else◌}
use Rattle.std.specs.List.{list_all}
use Rattle.std.specs.Str.{IsAscii, is_utf8}
use Rattle.std.proofs.lemmas.Bool.{and_parts, eqb-false, false_from_ne_true, false≢true, ltb-true, not-true}
use Rattle.std.proofs.lemmas.Fmt.{IsAscii-decimal}
use Rattle.std.proofs.lemmas.List.Elements.{All-cons, All-head, All-nil, All-tail}
use Rattle.std.proofs.lemmas.Option.{none-some}
use Rattle.std.proofs.lemmas.Slice.Eq.{bytes_eq-Decides}
use Rattle.std.proofs.lemmas.Str.{IsAscii-append, IsUtf8-from_ascii, is_utf8-from_IsUtf8}
use Rattle.std.proofs.lemmas.Str.Ascii.{IsAscii-cons, IsAscii-nil}
use Rattle.cdp_text.specs.Lines.{IsOneLine, ended, lines_of}
use Rattle.cdp_text.proofs.LinesLemmas.{lines_of-ended}
use Rattle.cdp_journal.specs.Escapes.{byte_escaped, escaped}
use Rattle.cdp_journal.specs.Lines.{Line, Attach, Tell, Take, Detach, Run, Shut, IsLine, is_memory, line_of, line_text, memory_text, most_told}
use Rattle.cdp_journal.proofs.LineLemmas.{line_of-utf8, line-read}
use Rattle.cdp_journal.proofs.OneLineLemmas.{is_one_line, is_other, one-append, decimal-one, escaped-one}

-- ---- lines are cut off

-- the text of a line holds no LF
line-one : (line : Line) → is_one_line (line_text line) ≡ true
line-one Attach = refl
line-one (Tell s text) =
    one-append (codes "tell ") (decimal s ++ 32 ∷ escaped text) refl
    (one-append (decimal s) (32 ∷ escaped text) (decimal-one s) (escaped-one text))
line-one (Take s) = one-append (codes "take ") (decimal s) refl (decimal-one s)
line-one (Detach s) = one-append (codes "detach ") (decimal s) refl (decimal-one s)
line-one (Run most moment) =
    one-append (codes "run ") (decimal most ++ 32 ∷ decimal moment) refl
    (one-append (decimal most) (32 ∷ decimal moment) (decimal-one most) (decimal-one moment))
line-one Shut = refl

other-byte : (byte : ℕ) → is_other byte ≡ true → byte ≢ 10
other-byte byte other = eqb-false byte 10 (not-true (byte == 10) other)

pub is-one : (text : List ℕ) → is_one_line text ≡ true → IsOneLine text
is-one [] one = All-nil (λ byte. byte ≢ 10)
is-one (byte ∷ text) one =
    let parts = and_parts (is_other byte) (is_one_line text) one in
    All-cons (λ b. b ≢ 10) byte text (other-byte byte parts.0) (is-one text parts.1)

pub are-one : (lines : List Line) → All IsOneLine (map line_text lines)
are-one [] = All-nil IsOneLine
are-one (line ∷ lines) =
    All-cons IsOneLine (line_text line) (map line_text lines) (is-one (line_text line) (line-one line)) (are-one lines)

pub written-cut : (lines : List Line) → lines_of (ended (map line_text lines)) ≡ map line_text lines
written-cut lines = lines_of-ended (map line_text lines) (are-one lines)

-- ---- and read

-- a line's text is that of the line
abbrev pub IsWritten : Line → Type 0
IsWritten line = IsLine (line_text line) line

pub read-each : (lines : List Line) → All IsWritten lines
    → map line_of (map line_text lines) ≡ map (λ line. Some line) lines
read-each [] are = refl
read-each (line ∷ lines) are =
    let one = line-read (line_text line) line (All-head IsWritten line lines are) in
    rw (one, read-each lines (All-tail IsWritten line lines are)) refl

pub written-read : (lines : List Line) → All IsWritten lines
    → map line_of (lines_of (ended (map line_text lines))) ≡ map (λ line. Some line) lines
written-read lines are = ap (map line_of) (written-cut lines) ∙ read-each lines are

-- ---- lines of ASCII

-- each byte is one of ASCII
abbrev pub all_ascii : List ℕ → Bool
all_ascii text = list_all (λ byte. nat_lt byte 128) text

pub ascii-of : (text : List ℕ) → all_ascii text ≡ true → IsAscii text
ascii-of [] all = IsAscii-nil
ascii-of (byte ∷ text) all =
    let parts = and_parts (nat_lt byte 128) (all_ascii text) all in
    IsAscii-cons byte text (ltb-true byte 128 parts.0) (ascii-of text parts.1)

byte-ascii : (percent feed return : Bool) (byte : ℕ) → byte < 128
    → IsAscii (if percent then codes "%25" else if feed then codes "%0A" else if return then codes "%0D" else byte ∷ [])
byte-ascii true feed return byte small = ascii-of (codes "%25") refl
byte-ascii false true return byte small = ascii-of (codes "%0A") refl
byte-ascii false false true byte small = ascii-of (codes "%0D") refl
byte-ascii false false false byte small = IsAscii-cons byte [] small IsAscii-nil

escaped-ascii : (text : List ℕ) → IsAscii text → IsAscii (escaped text)
escaped-ascii [] ascii = IsAscii-nil
escaped-ascii (byte ∷ text) ascii =
    IsAscii-append (byte_escaped byte) (escaped text)
    (byte-ascii (byte == 37) (byte == 10) (byte == 13) byte (ascii 0)) (escaped-ascii text (λ i. ascii (suc i)))

pub utf8-of : (text : List ℕ) → IsAscii text → is_utf8 text ≡ true
utf8-of text ascii = is_utf8-from_IsUtf8 text (IsUtf8-from_ascii text ascii)

pub written-attach : IsWritten Attach
written-attach = record { utf8 = utf8-of (codes "attach") (ascii-of (codes "attach") refl); in_form = tt; is = refl }

pub written-tell : (s : ℕ) (text : List ℕ) → s < 2 ^ 64 → IsAscii text → length text ≤ most_told
    → IsWritten (Tell s text)
written-tell s text small ascii short = record {
  utf8 = utf8-of (line_text (Tell s text))
      (IsAscii-append (codes "tell ") (decimal s ++ 32 ∷ escaped text) (ascii-of (codes "tell ") refl)
      (IsAscii-append (decimal s) (32 ∷ escaped text) (IsAscii-decimal s small)
      (IsAscii-cons 32 (escaped text) (omega arith) (escaped-ascii text ascii))));
  in_form = (small, short);
  is = refl;
}

pub written-take : (s : ℕ) → s < 2 ^ 64 → IsWritten (Take s)
written-take s small = record {
  utf8 = utf8-of (line_text (Take s))
      (IsAscii-append (codes "take ") (decimal s) (ascii-of (codes "take ") refl) (IsAscii-decimal s small));
  in_form = small;
  is = refl;
}

pub written-run : (most moment : ℕ) → most < 2 ^ 32 → moment < 2 ^ 53 → IsWritten (Run most moment)
written-run most moment few soon = record {
  utf8 = utf8-of (line_text (Run most moment))
      (IsAscii-append (codes "run ") (decimal most ++ 32 ∷ decimal moment) (ascii-of (codes "run ") refl)
      (IsAscii-append (decimal most) (32 ∷ decimal moment) (IsAscii-decimal most (omega (arith, few)))
      (IsAscii-cons 32 (decimal moment) (omega arith) (IsAscii-decimal moment (omega (arith, soon))))));
  in_form = (few, soon);
  is = refl;
}

-- ---- the line that ends a journal

pub memory-is : (text : List ℕ) → is_memory text ≡ true → text ≡ memory_text
unfolding is_memory
memory-is text is = (bytes_eq-Decides text memory_text).0 is

memory-test : is_memory memory_text ≡ true
unfolding is_memory
memory-test = refl

pub other-text : (text : List ℕ) → is_memory text ≡ false → text ≢ memory_text
other-text text other = λ same. false≢true (sym other ∙ ap is_memory same ∙ memory-test)

memory-refused : line_of memory_text ≡ None
memory-refused = line_of-utf8 memory_text (IsUtf8-from_ascii memory_text (ascii-of memory_text refl))

-- it is none of those that ask for something
pub memory-none : (text : List ℕ) → is_memory text ≡ true → line_of text ≡ None
memory-none text is = ap line_of (memory-is text is) ∙ memory-refused

-- and none of those is it
pub written-other : (line : Line) → IsWritten line → is_memory (line_text line) ≡ false
written-other line are =
    false_from_ne_true (is_memory (line_text line))
    (λ is. none-some line (sym (memory-none (line_text line) is) ∙ line-read (line_text line) line are))
