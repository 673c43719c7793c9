-- A text is read from what it is written as, and from nothing else.
use Rattle.std.proofs.Common.{◌≡◌, ◌≢◌, ℕ, suc, ◌<◌, List, [], ◌∷◌, ◌++◌, length, get_or, Bool, true, false, ◌==◌, ◌&&◌, Option, Some, None, refl, ap, sym, ◌∙◌, append_assoc, append-nil, arith, codes, encode_utf8, if◌then◌else◌}
use Rattle.std.specs.List.{list_any}
use Rattle.std.specs.Option.{option_map, option_and_then}
use Rattle.std.proofs.lemmas.Bool.{and_parts, both_ways, eqb-true, ne_eqb, or_from, or_parts}
use Rattle.std.proofs.lemmas.List.Folds.{list_any-append}
use Rattle.std.proofs.lemmas.Option.{option_and_then_some, none-some, same_Some}
use Rattle.std.proofs.lemmas.Str.{encode_ascii}
use Rattle.cdp_journal.specs.Escapes.{begun, byte_escaped, escaped, is_line_end, stands_for, unescaped, unescaped_form}

-- ---- what is written is read

byte-back : (percent feed return : Bool) (byte : ℕ) (text rest : List ℕ)
    → (byte == 37) ≡ percent
    → (byte == 10) ≡ feed
    → (byte == 13) ≡ return
    → unescaped text ≡ Some rest
    → unescaped
    ((if percent then codes "%25" else if feed then codes "%0A" else if return then codes "%0D" else byte ∷ [])
    ++ text)
    ≡ Some (byte ∷ rest)
byte-back true feed return byte text rest is _ _ read = rw (eqb-true byte 37 is, read) refl
byte-back false true return byte text rest _ is _ read = rw (eqb-true byte 10 is, read) refl
byte-back false false true byte text rest _ _ is read = rw (eqb-true byte 13 is, read) refl
byte-back false false false byte text rest percent feed return read = rw (percent, feed, return, read) refl

pub read-back : (text : List ℕ) → unescaped (escaped text) ≡ Some text
read-back [] = refl
read-back (byte ∷ text) =
    byte-back (byte == 37) (byte == 10) (byte == 13) byte (escaped text) text refl refl refl (read-back text)

-- ---- and nothing else is

-- what is known of a text behind a byte
begun-some : (o : Option (List ℕ)) (byte : ℕ) (text : List ℕ)
    → begun o byte ≡ Some text
    → (rest : List ℕ) × (o ≡ Some rest) × (text ≡ byte ∷ rest)
begun-some None byte text is = absurd (none-some text is)
begun-some (Some rest) byte text is = (rest, refl, sym (same_Some (byte ∷ rest) text is))

stands-by : (percent feed return : Bool) (first second byte : ℕ) (text : List ℕ)
    → (first == 50 && second == 53) ≡ percent
    → (first == 48 && second == 65) ≡ feed
    → (first == 48 && second == 68) ≡ return
    → (if percent then Some 37 else if feed then Some 10 else if return then Some 13 else None) ≡ Some byte
    → 37 ∷ first ∷ second ∷ text ≡ byte_escaped byte ++ text
stands-by true feed return first second byte text is _ _ some =
    let tests = and_parts (first == 50) (second == 53) is in
    rw (eqb-true first 50 tests.0, eqb-true second 53 tests.1, ← same_Some 37 byte some) refl
stands-by false true return first second byte text _ is _ some =
    let tests = and_parts (first == 48) (second == 65) is in
    rw (eqb-true first 48 tests.0, eqb-true second 65 tests.1, ← same_Some 10 byte some) refl
stands-by false false true first second byte text _ _ is some =
    let tests = and_parts (first == 48) (second == 68) is in
    rw (eqb-true first 48 tests.0, eqb-true second 68 tests.1, ← same_Some 13 byte some) refl
stands-by false false false first second byte text _ _ _ some = absurd (none-some byte some)

-- a `%` with the two bytes behind it is what the byte is written as for which it stands
stands-is : (first second byte : ℕ) (text : List ℕ)
    → stands_for first second ≡ Some byte
    → 37 ∷ first ∷ second ∷ text ≡ byte_escaped byte ++ text
stands-is first second byte text some =
    stands-by (first == 50 && second == 53) (first == 48 && second == 65) (first == 48 && second == 68)
    first second byte text refl refl refl some

form-some : (first second : ℕ) (written text : List ℕ) (o : Option (List ℕ))
    → ((rest : List ℕ) → o ≡ Some rest → written ≡ escaped rest)
    → option_and_then (begun o) (stands_for first second) ≡ Some text → 37 ∷ first ∷ second ∷ written ≡ escaped text
form-some first second written text o behind is =
    option_and_then_some (begun o) (stands_for first second) text is (λ byte stands read.
    let parts = begun-some o byte text read in
    rw (parts.2, ← behind parts.0 parts.1) (stands-is first second byte written stands))

written-by : (percent end : Bool) (byte : ℕ) (written text : List ℕ) → (byte == 37) ≡ percent → is_line_end byte ≡ end
    → ((rest : List ℕ) → unescaped written ≡ Some rest → written ≡ escaped rest)
    → (unescaped_form written ≡ Some text → 37 ∷ written ≡ escaped text)
    → (if percent then unescaped_form written else if end then None else begun (unescaped written) byte) ≡ Some text
    → byte ∷ written ≡ escaped text
written-by true end byte written text percent _ behind form is = rw (eqb-true byte 37 percent) (form is)
written-by false true byte written text _ _ behind form is = absurd (none-some text is)
written-by false false byte written text percent end behind form is =
    let parts = begun-some (unescaped written) byte text is in
    let tests = or_parts (byte == 10) (byte == 13) end in
    rw (parts.2, percent, tests.0, tests.1, ← behind parts.0 parts.1) refl

mutual
  pub written-is : (written text : List ℕ) → unescaped written ≡ Some text → written ≡ escaped text
  written-is [] text is = ap escaped (same_Some [] text is)
  written-is (byte ∷ written) text is =
      written-by (byte == 37) (is_line_end byte) byte written text refl refl (λ rest. written-is written rest)
      (form-is written text) is

  form-is : (written text : List ℕ) → unescaped_form written ≡ Some text → 37 ∷ written ≡ escaped text
  form-is [] text is = absurd (none-some text is)
  form-is (first ∷ []) text is = absurd (none-some text is)
  form-is (first ∷ second ∷ written) text is =
      form-some first second written text (unescaped written) (λ rest. written-is written rest) is

-- ---- how far a text was read

ends-byte : (percent feed return : Bool) (byte : ℕ) → (byte == 10) ≡ feed → (byte == 13) ≡ return
    → list_any is_line_end
    (if percent then codes "%25" else if feed then codes "%0A" else if return then codes "%0D" else byte ∷ [])
    ≡ false
ends-byte true feed return byte _ _ = refl
ends-byte false true return byte _ _ = refl
ends-byte false false true byte _ _ = refl
ends-byte false false false byte feed return = rw (feed, return) refl

-- no LF or CR is written
ends-none : (text : List ℕ) → list_any is_line_end (escaped text) ≡ false
ends-none [] = refl
ends-none (byte ∷ text) =
    list_any-append is_line_end (byte_escaped byte) (escaped text)
    ∙ or_from (list_any is_line_end (byte_escaped byte)) (list_any is_line_end (escaped text))
    (ends-byte (byte == 37) (byte == 10) (byte == 13) byte refl refl) (ends-none text)

none-by : (o : Option (List ℕ)) → ((text : List ℕ) → o ≢ Some text) → o ≡ None
none-by None never = refl
none-by (Some text) never = absurd (never text refl)

-- so a text with one isn't read
pub unread-ends : (written : List ℕ) → list_any is_line_end written ≡ true → unescaped written ≡ None
unread-ends written ends =
    none-by (unescaped written)
    (λ text is. both_ways (list_any is_line_end (escaped text)) (ends-none text)
    (ap (list_any is_line_end) (sym (written-is written text is)) ∙ ends))

map-nothing : (o : Option (List ℕ)) → o ≡ option_map (λ rest. [] ++ rest) o
map-nothing None = refl
map-nothing (Some rest) = refl

map-more : (byte : ℕ) (front : List ℕ) (o : Option (List ℕ))
    → begun (option_map (λ rest. front ++ rest) o) byte ≡ option_map (λ rest. (byte ∷ front) ++ rest) o
map-more byte front None = refl
map-more byte front (Some rest) = refl

-- a part without `%`, LF and CR is read as it is
pub plain-front : (front behind : List ℕ)
    → ((i : ℕ) → i < length front → get_or front i 0 ≢ 37)
    → list_any is_line_end front ≡ false
    → unescaped (front ++ behind) ≡ option_map (λ rest. front ++ rest) (unescaped behind)
plain-front [] behind lacks ends = map-nothing (unescaped behind)
plain-front (byte ∷ front) behind lacks ends =
    let parts = or_parts (is_line_end byte) (list_any is_line_end front) ends in
    let others = plain-front front behind (λ i within. lacks (suc i) (omega (arith, within))) parts.1 in
    rw (ne_eqb byte 37 (lacks 0 (omega arith)), parts.0, others) (map-more byte front (unescaped behind))

-- what was read of a text, and what is left of it, which holds no LF or CR
pub record IsReadTo (written text rest : List ℕ) : Type 0 where
  pub read : unescaped written ≡ option_map (λ more. text ++ more) (unescaped rest)
  pub ends : list_any is_line_end rest ≡ false

pub read-start : (written : List ℕ) → list_any is_line_end written ≡ false → IsReadTo written [] written
read-start written ends = record { read = map-nothing (unescaped written); ends = ends }

map-append : (front back : List ℕ) (o : Option (List ℕ))
    → option_map (λ more. front ++ more) (option_map (λ more. back ++ more) o) ≡ option_map
    (λ more. (front ++ back) ++ more) o
map-append front back None = refl
map-append front back (Some more) = ap (λ all. Some all) (sym (append_assoc front back more))

-- the parts of what is left
split-ends : (plain form : List ℕ)
    → list_any is_line_end (plain ++ 37 ∷ form) ≡ false
    → (list_any is_line_end plain ≡ false) × (list_any is_line_end form ≡ false)
split-ends plain form ends =
    or_parts (list_any is_line_end plain) (list_any is_line_end form)
    (sym (list_any-append is_line_end plain (37 ∷ form)) ∙ ends)

-- up to the next `%`
form-next : (written text rest plain form : List ℕ)
    → rest ≡ plain ++ 37 ∷ form
    → ((i : ℕ) → i < length plain → get_or plain i 0 ≢ 37)
    → IsReadTo written text rest
    → unescaped written ≡ option_map (λ more. (text ++ plain) ++ more) (unescaped_form form)
form-next written text rest plain form parts lacks before =
    let ends = split-ends plain form (ap (list_any is_line_end) (sym parts) ∙ before.ends) in
    before.read ∙ ap (λ xs. option_map (λ more. text ++ more) (unescaped xs)) parts
    ∙ ap (option_map (λ more. text ++ more)) (plain-front plain (37 ∷ form) lacks ends.0)
    ∙ map-append text plain (unescaped_form form)

-- which stands for no byte
pub read-none : (written text rest plain form : List ℕ)
    → rest ≡ plain ++ 37 ∷ form
    → ((i : ℕ) → i < length plain → get_or plain i 0 ≢ 37)
    → unescaped_form form ≡ None
    → IsReadTo written text rest
    → unescaped written ≡ None
read-none written text rest plain form parts lacks none before =
    form-next written text rest plain form parts lacks before ∙ ap (option_map (λ more. (text ++ plain) ++ more)) none

stands-small : (percent feed return : Bool) (byte : ℕ)
    → (if percent then Some 37 else if feed then Some 10 else if return then Some 13 else None) ≡ Some byte
    → byte < 128
stands-small true feed return byte is = rw (← same_Some 37 byte is) (omega arith)
stands-small false true return byte is = rw (← same_Some 10 byte is) (omega arith)
stands-small false false true byte is = rw (← same_Some 13 byte is) (omega arith)
stands-small false false false byte is = absurd (none-some byte is)

stands-one : (first second byte : ℕ) → stands_for first second ≡ Some byte → encode_utf8 byte ≡ byte ∷ []
stands-one first second byte is =
    encode_ascii byte
    (stands-small (first == 50 && second == 53) (first == 48 && second == 65) (first == 48 && second == 68) byte is)

-- or for one
pub read-next : (written text rest plain form after : List ℕ) (first second byte : ℕ)
    → rest ≡ plain ++ 37 ∷ form
    → ((i : ℕ) → i < length plain → get_or plain i 0 ≢ 37)
    → form ≡ first ∷ second ∷ after
    → stands_for first second ≡ Some byte
    → IsReadTo written text rest
    → IsReadTo written ((text ++ plain) ++ encode_utf8 byte) after
read-next written text rest plain form after first second byte parts lacks form_is stands before =
    let read_form : unescaped_form form ≡ option_map (λ more. (byte ∷ []) ++ more) (unescaped after)
    = ap unescaped_form form_is
    ∙ ap (option_and_then (begun (unescaped after))) stands in
    let ends = split-ends plain form (ap (list_any is_line_end) (sym parts) ∙ before.ends) in
    record {
      read =
          form-next written text rest plain form parts lacks before
          ∙ ap (option_map (λ more. (text ++ plain) ++ more)) read_form
          ∙ map-append (text ++ plain) (byte ∷ []) (unescaped after)
          ∙ ap (λ one. option_map (λ more. ((text ++ plain) ++ one) ++ more) (unescaped after))
          (sym (stands-one first second byte stands));
      ends =
          (or_parts (is_line_end second) (list_any is_line_end after)
          (or_parts (is_line_end first) (list_any is_line_end (second ∷ after))
          (ap (list_any is_line_end) (sym form_is) ∙ ends.1)).1).1;
    }

-- no `%` is left
pub read-end : (written text rest : List ℕ)
    → ((i : ℕ) → i < length rest → get_or rest i 0 ≢ 37)
    → IsReadTo written text rest
    → Some (text ++ rest) ≡ unescaped written
read-end written text rest lacks before =
    let plain : unescaped rest ≡ Some rest =
    ap unescaped (sym (append-nil rest))
    ∙ plain-front rest [] lacks before.ends
    ∙ ap (λ all. Some all) (append-nil rest) in
    sym (before.read ∙ ap (option_map (λ more. text ++ more)) plain)
