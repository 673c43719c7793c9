-- Texts of one line: characters, and the bytes that don't stand for themselves.
use Rattle.std.proofs.Common.{◌≡◌, ◌≢◌, ℕ, suc, ◌+◌, ◌<◌, ◌≤◌, ◌∷◌, List, [], ◌++◌, length, get_or, take, drop, refl, ap, sym, subst, ◌∙◌, append_assoc, append-nil, arith, get_or-take, length-take, take-append-drop}
use Rattle.std.specs.Prelude.{Bool, true, false, ◌==◌, ◌||◌, encode_utf8}
use Rattle.std.specs.Str.{IsCharBoundary, IsUtf8}
use Rattle.std.proofs.lemmas.Bool.{eqb-true, false≢true, ne_eqb}
use Rattle.std.proofs.lemmas.List.{drop_more}
use Rattle.std.proofs.lemmas.Str.{IsCharBoundary-after_ascii, inside_one}
use Rattle.memchr.specs.Find.{NoneBefore, Nowhere, Passes, is_byte3}
use Rattle.cdp_journal.specs.Escapes.{byte_escaped, escaped}

pub escaped-append : (xs ys : List ℕ) → escaped (xs ++ ys) ≡ escaped xs ++ escaped ys
escaped-append [] ys = refl
escaped-append (x ∷ xs) ys =
    ap (λ rest. byte_escaped x ++ rest) (escaped-append xs ys)
    ∙ sym (append_assoc (byte_escaped x) (escaped xs) (escaped ys))

-- a character other than those that are written in another way is written as it is
byte-plain : (byte : ℕ) → byte ≢ 37 → byte ≢ 10 → byte ≢ 13 → byte_escaped byte ≡ byte ∷ []
byte-plain byte percent feed return = rw (ne_eqb byte 37 percent, ne_eqb byte 10 feed, ne_eqb byte 13 return) refl

-- a byte that is written in another way
abbrev IsPlain : ℕ → Type 0
IsPlain byte = (byte ≢ 37) × (byte ≢ 10) × (byte ≢ 13)

escaped-plain : (bytes : List ℕ) → ((k : ℕ) → k < length bytes → IsPlain (get_or bytes k 0)) → escaped bytes ≡ bytes
escaped-plain [] plain = refl
escaped-plain (byte ∷ bytes) plain =
    let first = plain 0 (omega arith) in
    let others = escaped-plain bytes (λ k within. plain (suc k) (omega (arith, within))) in
    rw (byte-plain byte first.0 first.1 first.2, others) refl

-- the bytes of a character are that character or none of ASCII
byte-of : (c n k : ℕ) → c ≢ n → n < 128 → k < length (encode_utf8 c) → get_or (encode_utf8 c) k 0 ≢ n
byte-of c n k differ low within is =
    differ (inside_one c [] (encode_utf8 c) k (sym (append-nil (encode_utf8 c))) within
    (let e : get_or (encode_utf8 c) k 0 ≡ n = is in omega (arith, e, low))
    ∙ is)

pub char-plain : (c : ℕ) → c ≢ 37 → c ≢ 10 → c ≢ 13 → escaped (encode_utf8 c) ≡ encode_utf8 c
char-plain c percent feed return =
    escaped-plain (encode_utf8 c)
    (λ k within. (
      byte-of c 37 k percent (omega arith) within,
      byte-of c 10 k feed (omega arith) within,
      byte-of c 13 k return (omega arith) within,
    ))

-- ---- a text around the first byte that doesn't stand for itself

small_byte : (percent feed return : Bool) (byte : ℕ) → (byte == 37) ≡ percent → (byte == 10) ≡ feed
    → (byte == 13) ≡ return → (percent || feed || return) ≡ true → byte < 128
small_byte true feed return byte p f r h = let is : byte ≡ 37 = eqb-true byte 37 p in omega (arith, is)
small_byte false true return byte p f r h = let is : byte ≡ 10 = eqb-true byte 10 f in omega (arith, is)
small_byte false false true byte p f r h = let is : byte ≡ 13 = eqb-true byte 13 r in omega (arith, is)
small_byte false false false byte p f r h = absurd (false≢true h)

-- a text may be cut behind such a byte
pub after-marked : (bytes text : List ℕ) (k : ℕ) → bytes ≡ text → IsUtf8 text
    → NoneBefore (Passes (is_byte3 37 10 13) bytes) 0 (length bytes) k → Passes (is_byte3 37 10 13) bytes k
    → IsCharBoundary text (k + 1)
after-marked bytes text k is utf8 first found =
    let within : k < length text = subst (λ t. k < length t) is first.high in
    let test : is_byte3 37 10 13 (get_or text k 0) ≡ true =
    subst (λ t. is_byte3 37 10 13 (get_or t k 0) ≡ true) is found in
    let byte = get_or text k 0 in
    IsCharBoundary-after_ascii text k utf8 within
    (small_byte (byte == 37) (byte == 10) (byte == 13) byte refl refl refl test)

unmarked : (byte : ℕ) → ¬ (is_byte3 37 10 13 byte ≡ true) → IsPlain byte
unmarked byte none = (λ is. none (rw is refl), λ is. none (rw is refl), λ is. none (rw is refl))

plain-escaped : (text : List ℕ)
    → ((k : ℕ) → k < length text → ¬ (is_byte3 37 10 13 (get_or text k 0) ≡ true)) → escaped text ≡ text
plain-escaped text none = escaped-plain text (λ k within. unmarked (get_or text k 0) (none k within))

first-escaped : (text : List ℕ) (k : ℕ) → k < length text
    → ((j : ℕ) → j < k → ¬ (is_byte3 37 10 13 (get_or text j 0) ≡ true))
    → escaped text ≡ take k text ++ byte_escaped (get_or text k 0) ++ escaped (drop (k + 1) text)
first-escaped text k within none =
    let size : length (take k text) ≤ k = omega (arith, length-take k text) in
    let front = plain-escaped (take k text)
    (λ j inside.
    let before : j < k = omega (arith, inside, size) in
    subst (λ byte. ¬ (is_byte3 37 10 13 byte ≡ true)) (sym (get_or-take k text j 0 before)) (none j before)) in
    ap escaped (sym (take-append-drop k text))
    ∙ escaped-append (take k text) (drop k text)
    ∙ ap (λ plain. plain ++ escaped (drop k text)) front
    ∙ ap (λ rest. take k text ++ escaped rest) (drop_more text k 0 within)
    ∙ sym (append_assoc (take k text) (byte_escaped (get_or text k 0)) (escaped (drop (k + 1) text)))

pub first-parts : (bytes text : List ℕ) (k : ℕ) → bytes ≡ text
    → NoneBefore (Passes (is_byte3 37 10 13) bytes) 0 (length bytes) k → (plain form after : List ℕ)
    → plain ≡ take k text → form ≡ byte_escaped (get_or bytes k 0) → after ≡ drop (k + 1) text
    → escaped text ≡ plain ++ form ++ escaped after
first-parts bytes text k is first plain form after front made rest =
    let within : k < length text = subst (λ t. k < length t) is first.high in
    first-escaped text k within
    (λ j before.
    subst (λ t. ¬ (is_byte3 37 10 13 (get_or t j 0) ≡ true)) is (first.before j (omega arith) before))
    ∙ rw (front, made, is, rest) refl

pub unmarked-text : (bytes text : List ℕ) → bytes ≡ text
    → Nowhere (Passes (is_byte3 37 10 13) bytes) 0 (length bytes) → escaped text ≡ text
unmarked-text bytes text is none =
    plain-escaped text
    (λ k within.
    subst (λ t. ¬ (is_byte3 37 10 13 (get_or t k 0) ≡ true)) is
    (none k (omega arith) (subst (λ t. k < length t) (sym is) within)))

-- a text behind a line, and what is behind the first byte of it that doesn't stand for itself
pub push-escaped : (line plain form after whole : List ℕ) → whole ≡ plain ++ form ++ after
    → (line ++ plain ++ form) ++ after ≡ line ++ whole
push-escaped line plain form after whole is =
    append_assoc (line ++ plain) form after
    ∙ append_assoc line plain (form ++ after)
    ∙ ap (λ text. line ++ text) (sym (append_assoc plain form after) ∙ sym is)
