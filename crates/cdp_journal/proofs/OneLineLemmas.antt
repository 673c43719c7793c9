-- Texts without LF.
use Rattle.std.proofs.Common.{◌≡◌, ℕ, zero, suc, ◌+◌, ◌/◌, ◌%◌, List, [], ◌∷◌, ◌++◌, Bool, true, false, ◌==◌, nat_lt, not, refl, arith, codes, decimal, if◌then◌else◌}
use Rattle.std.specs.Fmt.{digits, digits_onto, digit_glyph}
use Rattle.std.specs.List.{list_all}
use Rattle.std.proofs.lemmas.Bool.{and_parts, ne_eqb}
use Rattle.cdp_journal.specs.Escapes.{escaped, byte_escaped}

abbrev pub is_other : ℕ → Bool
is_other byte = not (byte == 10)

abbrev pub is_one_line : List ℕ → Bool
is_one_line text = list_all is_other text

abbrev pub are_one_line : List (List ℕ) → Bool
are_one_line texts = list_all is_one_line texts

pub one-append : (xs ys : List ℕ) → is_one_line xs ≡ true → is_one_line ys ≡ true → is_one_line (xs ++ ys) ≡ true
one-append [] ys first others = others
one-append (x ∷ xs) ys first others =
    let parts = and_parts (is_other x) (is_one_line xs) first in rw (parts.0, one-append xs ys parts.1 others) refl

one-choice : (b : Bool) (xs ys : List ℕ)
    → is_one_line xs ≡ true
    → is_one_line ys ≡ true
    → is_one_line (if b then xs else ys) ≡ true
one-choice true xs ys first other = first
one-choice false xs ys first other = other

-- ---- numbers

glyph_by : (b : Bool) (d : ℕ) → is_other (if b then 48 + d else 87 + d) ≡ true
glyph_by true d = rw (ne_eqb (48 + d) 10 (λ is. omega (arith, is))) refl
glyph_by false d = rw (ne_eqb (87 + d) 10 (λ is. omega (arith, is))) refl

digits-one : (k n : ℕ) (acc : List ℕ) → is_one_line acc ≡ true → is_one_line (digits_onto k 10 false n acc) ≡ true
digits-one zero n acc one = one
digits-one (suc k) n acc one =
    let more : is_one_line (digit_glyph false (n % 10) ∷ acc) ≡ true = rw (glyph_by (nat_lt (n % 10) 10) (n % 10), one)
    refl in
    one-choice (n / 10 == 0) (digit_glyph false (n % 10) ∷ acc)
    (digits_onto k 10 false (n / 10) (digit_glyph false (n % 10) ∷ acc)) more
    (digits-one k (n / 10) (digit_glyph false (n % 10) ∷ acc) more)

pub decimal-one : (n : ℕ) → is_one_line (decimal n) ≡ true
unfolding digits
decimal-one n = digits-one 64 n [] refl

-- ---- texts as they are written

byte-one : (percent feed return : Bool) (byte : ℕ) → (byte == 10) ≡ feed
    → is_one_line
    (if percent then codes "%25" else if feed then codes "%0A" else if return then codes "%0D" else byte ∷ [])
    ≡ true
byte-one true feed return byte is = refl
byte-one false true return byte is = refl
byte-one false false true byte is = refl
byte-one false false false byte is = rw is refl

pub escaped-one : (text : List ℕ) → is_one_line (escaped text) ≡ true
escaped-one [] = refl
escaped-one (byte ∷ text) =
    one-append (byte_escaped byte) (escaped text) (byte-one (byte == 37) (byte == 10) (byte == 13) byte refl)
    (escaped-one text)
