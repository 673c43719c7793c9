-- What a journal can tell is written as a line of its form.
use Rattle.std.proofs.Common.{◌≡◌, ℕ, ◌<◌, ◌≤◌, ◌^◌, List, [], ◌∷◌, ◌++◌, length, Bool, true, false, ◌==◌, ◌&&◌, nat_lt, nat_le, refl, ap, sym, subst, ◌∙◌, arith, codes, decimal, append-nil}
use Rattle.std.specs.Prelude.{encode_utf8, encode_utf8_all}
use Rattle.std.specs.Str.{IsUtf8, is_utf8}
use Rattle.std.proofs.Math.Utf8.{scalar, scalars}
use Rattle.std.proofs.lemmas.Bool.{and_parts, eqb-false, eqb-true, leb-true, lt-ltb}
use Rattle.std.proofs.lemmas.Bool.Decides.{Decides-ltb}
use Rattle.std.proofs.lemmas.Fmt.{IsAscii-decimal}
use Rattle.std.proofs.lemmas.Str.{IsAscii-append, IsUtf8-append, IsUtf8-from_ascii, IsUtf8-from_is_utf8, IsUtf8-nil, encode_ascii, is_utf8-from_IsUtf8}
use Rattle.cdp_journal.specs.Escapes.{escaped}
use Rattle.cdp_journal.specs.Lines.{Line, Attach, Tell, Take, Detach, Run, Shut, is_tellable, line_text, most_told}
use Rattle.cdp_journal.proofs.EscapeLemmas.{char-plain, escaped-append}
use Rattle.cdp_journal.proofs.WrittenLemmas.{IsWritten, all_ascii, ascii-of, utf8-of, written-attach, written-run, written-take}

-- ---- texts that are escaped

-- a character that is written in another way
other-utf8 : (n c : ℕ) (written : List ℕ) → n < 128 → (c == n) ≡ true → escaped (n ∷ []) ≡ written
    → all_ascii written ≡ true
    → IsUtf8 (escaped (encode_utf8 c))
other-utf8 n c written low is spelled ascii =
    subst (λ bytes. IsUtf8 bytes)
    (sym (ap (λ (k : ℕ). escaped (encode_utf8 k)) (eqb-true c n is) ∙ ap escaped (encode_ascii n low) ∙ spelled))
    (IsUtf8-from_ascii written (ascii-of written ascii))

-- a character that is escaped
one-utf8 : (percent feed return : Bool) (c : ℕ) → (c == 37) ≡ percent → (c == 10) ≡ feed → (c == 13) ≡ return
    → scalars (c ∷ []) ≡ true
    → IsUtf8 (escaped (encode_utf8 c))
one-utf8 true feed return c is_percent is_feed is_return one =
    other-utf8 37 c (codes "%25") (omega arith) is_percent refl refl
one-utf8 false true return c is_percent is_feed is_return one =
    other-utf8 10 c (codes "%0A") (omega arith) is_feed refl refl
one-utf8 false false true c is_percent is_feed is_return one =
    other-utf8 13 c (codes "%0D") (omega arith) is_return refl refl
one-utf8 false false false c is_percent is_feed is_return one =
    subst (λ bytes. IsUtf8 bytes)
    (sym (char-plain c (eqb-false c 37 is_percent) (eqb-false c 10 is_feed) (eqb-false c 13 is_return)))
    (c ∷ [], (one, append-nil (encode_utf8 c)))

all-utf8 : (cs : List ℕ) → scalars cs ≡ true → IsUtf8 (escaped (encode_utf8_all cs))
all-utf8 [] all = IsUtf8-nil
all-utf8 (c ∷ cs) all =
    let parts = and_parts (scalar c) (scalars cs) all in
    let one : scalars (c ∷ []) ≡ true = rw parts.0 refl in
    subst (λ bytes. IsUtf8 bytes) (sym (escaped-append (encode_utf8 c) (encode_utf8_all cs)))
    (IsUtf8-append (escaped (encode_utf8 c)) (escaped (encode_utf8_all cs))
    (one-utf8 (c == 37) (c == 10) (c == 13) c refl refl refl one) (all-utf8 cs parts.1))

escaped-utf8 : (text : List ℕ) → is_utf8 text ≡ true → IsUtf8 (escaped text)
escaped-utf8 text is =
    let (cs, (all, spell)) = IsUtf8-from_is_utf8 text is in
    subst (λ bytes. IsUtf8 (escaped bytes)) spell (all-utf8 cs all)

-- ---- lines that are written

words-utf8 : (word : List ℕ) (s : ℕ) (rest : List ℕ) → IsUtf8 word → s < 2 ^ 64 → IsUtf8 rest
    → is_utf8 (word ++ (decimal s ++ rest)) ≡ true
words-utf8 word s rest first small last =
    is_utf8-from_IsUtf8 (word ++ (decimal s ++ rest))
    (IsUtf8-append word (decimal s ++ rest) first
    (IsUtf8-append (decimal s) rest (IsUtf8-from_ascii (decimal s) (IsAscii-decimal s small)) last))

tell-utf8 : (s : ℕ) (text : List ℕ) → s < 2 ^ 64 → length text ≤ most_told → is_utf8 text ≡ true
    → IsWritten (Tell s text)
tell-utf8 s text small short utf8 = record {
  utf8 =
      words-utf8 (codes "tell ") s (32 ∷ escaped text)
      (IsUtf8-from_ascii (codes "tell ") (ascii-of (codes "tell ") refl)) small
      (IsUtf8-append (32 ∷ []) (escaped text) (IsUtf8-from_ascii (32 ∷ []) (ascii-of (32 ∷ []) refl))
      (escaped-utf8 text utf8));
  in_form = (small, short);
  is = refl;
}

detach-written : (s : ℕ) → s < 2 ^ 64 → IsWritten (Detach s)
detach-written s small = record {
  utf8 = utf8-of (line_text (Detach s))
      (IsAscii-append (codes "detach ") (decimal s) (ascii-of (codes "detach ") refl) (IsAscii-decimal s small));
  in_form = small;
  is = refl;
}

shut-written : IsWritten Shut
shut-written = record { utf8 = utf8-of (codes "shut") (ascii-of (codes "shut") refl); in_form = tt; is = refl }

-- ---- what a journal can tell

pub tellable-written : (line : Line) → is_tellable line ≡ true → IsWritten line
unfolding is_tellable
tellable-written Attach is = written-attach
tellable-written (Tell s text) is =
    let parts = and_parts (nat_lt s (2 ^ 64)) (nat_le (length text) most_told && is_utf8 text) is in
    let last = and_parts (nat_le (length text) most_told) (is_utf8 text) parts.1 in
    tell-utf8 s text ((Decides-ltb s (2 ^ 64)).0 parts.0) (leb-true (length text) most_told last.0) last.1
tellable-written (Take s) is = written-take s ((Decides-ltb s (2 ^ 64)).0 is)
tellable-written (Detach s) is = detach-written s ((Decides-ltb s (2 ^ 64)).0 is)
tellable-written (Run most moment) is =
    let parts = and_parts (nat_lt most (2 ^ 32)) (nat_lt moment (2 ^ 53)) is in
    written-run most moment ((Decides-ltb most (2 ^ 32)).0 parts.0) ((Decides-ltb moment (2 ^ 53)).0 parts.1)
tellable-written Shut is = shut-written

pub attach-tellable : is_tellable Attach ≡ true
unfolding is_tellable
attach-tellable = refl

pub take-tellable : (s : ℕ) → s < 2 ^ 64 → is_tellable (Take s) ≡ true
unfolding is_tellable
take-tellable s small = lt-ltb s (2 ^ 64) small

pub detach-tellable : (s : ℕ) → s < 2 ^ 64 → is_tellable (Detach s) ≡ true
unfolding is_tellable
detach-tellable s small = lt-ltb s (2 ^ 64) small

pub shut-tellable : is_tellable Shut ≡ true
unfolding is_tellable
shut-tellable = refl
