-- Plain units are written as they are.
use Rattle.std.proofs.Common.{◌≡◌, ℕ, ℤ, pos, negsuc, ◌+◌, ◌<◌, ◌≤◌, ◌^◌, true, ◌&&◌, List, [], ◌∷◌, ◌++◌, decimal, suc, ◌%◌, refl, ap, ◌∙◌, arith, append_assoc}
use Rattle.std.specs.Prelude.{Some, encode_utf8_all, All}
use Rattle.std.specs.Fmt.{signed_decimal}
use Rattle.std.specs.Char.Utf16.{utf16_chars, utf16_lossy_chars}
use lib.Signed.{mag}
use Rattle.std.proofs.lemmas.Bool.{and_parts, lt-leb}
use Rattle.std.proofs.lemmas.Fmt.{decimal_by_steps}
use Rattle.std.proofs.lemmas.List.Folds.{list_all-append}
use Rattle.std.proofs.lemmas.Nat.{mod_below}
use Rattle.std.proofs.lemmas.Bool.Decides.{nat_tests}
use Rattle.std.proofs.lemmas.List.Elements.{All-cons, All-nil}
use Rattle.std.proofs.lemmas.Str.{utf16_chars-nil, utf16_chars_lone, encode_ascii}
use Rattle.json.specs.Print.{escape}
use Rattle.json.proofs.Printed.Strings.{escape_byte_plain}
use Rattle.cdp_text.specs.Units.{utf8_of}
use Rattle.cdp_json.specs.Compact.{string_text}
use Rattle.cdp_json.specs.Plain.{is_plain_unit, is_plain}

-- what a plain unit is
record IsPlainUnit (u : ℕ) : Type 0 where
  from : 32 ≤ u
  below : u < 128
  no_quote : u ≡ 34 → ⊥
  no_backslash : u ≡ 92 → ⊥

unit : (u : ℕ) → is_plain_unit u ≡ true → IsPlainUnit u
unit u is =
    record {
      from = grind (arith, nat_tests);
      below = grind (arith, nat_tests);
      no_quote = λ e. grind
          (arith, nat_tests);
      no_backslash = λ e. grind (arith, nat_tests);
    }

-- a plain unit spells itself
spelt : (u : ℕ) (us : List ℕ) → u < 128 → utf16_chars (u ∷ us) ≡ Some u ∷ utf16_chars us
spelt u us below =
    utf16_chars_lone u us (λ pair. grind (arith, pair.0))
    ∙ ap (λ o. o ∷ utf16_chars us) (rw (lt-leb 0xD800 u (omega arith)) refl)

lossy : (us : List ℕ) → is_plain us ≡ true → utf16_lossy_chars us ≡ us
lossy [] is = rw utf16_chars-nil refl
lossy (u ∷ us) is =
    let both = and_parts (is_plain_unit u) (is_plain us) is in
    rw (spelt u us (unit u both.0).below) (ap (λ cs. u ∷ cs) (lossy us both.1))

encoded : (us : List ℕ) → is_plain us ≡ true → encode_utf8_all us ≡ us
encoded [] is = refl
encoded (u ∷ us) is =
    let both = and_parts (is_plain_unit u) (is_plain us) is in
    rw (encode_ascii u (unit u both.0).below) (ap (λ bs. u ∷ bs) (encoded us both.1))

as_it_is : (us : List ℕ) → is_plain us ≡ true → escape us ≡ us
as_it_is [] is = refl
as_it_is (u ∷ us) is =
    let both = and_parts (is_plain_unit u) (is_plain us) is in
    let plain = unit u both.0 in
    rw (escape_byte_plain u plain.no_quote plain.no_backslash plain.from) (ap (λ bs. u ∷ bs) (as_it_is us both.1))

pub plain_text : (us : List ℕ) → is_plain us ≡ true → string_text us ≡ 34 ∷ (us ++ 34 ∷ [])
unfolding utf8_of
plain_text us is =
    ap (λ bs. 34 ∷ (escape bs ++ 34 ∷ [])) (ap encode_utf8_all (lossy us is) ∙ encoded us is)
    ∙ ap (λ bs. 34 ∷ (bs ++ 34 ∷ [])) (as_it_is us is)

pub plain_is_ascii : (us : List ℕ) → is_plain us ≡ true → All (λ u. u < 128) us
plain_is_ascii [] is = All-nil (λ u. u < 128)
plain_is_ascii (u ∷ us) is =
    let both = and_parts (is_plain_unit u) (is_plain us) is in
    All-cons (λ u. u < 128) u us (unit u both.0).below (plain_is_ascii us both.1)

-- ---- decimals

pub plain-append : (us vs : List ℕ) → is_plain us ≡ true → is_plain vs ≡ true → is_plain (us ++ vs) ≡ true
plain-append us vs first second = list_all-append is_plain_unit us vs ∙ (ap (λ b. b && is_plain vs) first ∙ second)

plain_digit : (d : ℕ) → d < 10 → is_plain_unit (48 + d) ≡ true
plain_digit d low = grind (arith, nat_tests)

plain_digits : (d : ℕ) → d < 10 → is_plain ((48 + d) ∷ []) ≡ true
plain_digits d low = ap (λ b. b && true) (plain_digit d low)

pub plain-decimal : (n : ℕ) → n < 2 ^ 64 → is_plain (decimal n) ≡ true
plain-decimal n small =
    decimal_by_steps (λ m ds. is_plain ds ≡ true) (λ m low. plain_digits m low)
    (λ m ds high had. plain-append ds ((48 + m % 10) ∷ []) had (plain_digits (m % 10) (mod_below m 10 (omega arith))))
    n small

-- a decimal is written as it is
pub quoted-decimal : (n : ℕ) → n < 2 ^ 64 → string_text (decimal n) ≡ 34 ∷ (decimal n ++ 34 ∷ [])
quoted-decimal n small = plain_text (decimal n) (plain-decimal n small)

pub quoted-signed : (z : ℤ) → mag z < 2 ^ 63 → string_text (signed_decimal z) ≡ 34 ∷ (signed_decimal z ++ 34 ∷ [])
quoted-signed (pos n) small = quoted-decimal n (omega (arith, small))
quoted-signed (negsuc n) small =
    plain_text (45 ∷ decimal (suc n)) (plain-decimal (suc n) (omega (arith, small)))

-- decimals with a plain unit between them are written as they are
pub quoted_two : (m n unit : ℕ) → m < 2 ^ 64 → n < 2 ^ 64 → is_plain_unit unit ≡ true
    → string_text (decimal m ++ unit ∷ decimal n) ≡ 34 ∷ (decimal m ++ unit ∷ (decimal n ++ 34 ∷ []))
quoted_two m n unit first second plain =
    plain_text (decimal m ++ unit ∷ decimal n)
    (plain-append (decimal m) (unit ∷ decimal n) (plain-decimal m first)
    (ap (λ b. b && is_plain (decimal n)) plain ∙ plain-decimal n second))
    ∙ ap (λ s. 34 ∷ s) (append_assoc (decimal m) (unit ∷ decimal n) (34 ∷ []))

pub quoted_three : (l m n unit : ℕ) → l < 2 ^ 64 → m < 2 ^ 64 → n < 2 ^ 64 → is_plain_unit unit ≡ true
    → string_text (decimal l ++ unit ∷ (decimal m ++ unit ∷ decimal n))
    ≡ 34 ∷ (decimal l ++ unit ∷ (decimal m ++ unit ∷ (decimal n ++ 34 ∷ [])))
quoted_three l m n unit first second third plain =
    plain_text (decimal l ++ unit ∷ (decimal m ++ unit ∷ decimal n))
    (plain-append (decimal l) (unit ∷ (decimal m ++ unit ∷ decimal n)) (plain-decimal l first)
    (ap (λ b. b && is_plain (decimal m ++ unit ∷ decimal n)) plain
    ∙ plain-append (decimal m) (unit ∷ decimal n) (plain-decimal m second)
    (ap (λ b. b && is_plain (decimal n)) plain ∙ plain-decimal n third)))
    ∙ ap (λ s. 34 ∷ s)
    (append_assoc (decimal l) (unit ∷ (decimal m ++ unit ∷ decimal n)) (34 ∷ [])
    ∙ ap (λ s. decimal l ++ unit ∷ s) (append_assoc (decimal m) (unit ∷ decimal n) (34 ∷ [])))
