-- Numeric literals.
use Rattle.std.proofs.Common.{◌≡◌, ℕ, suc, ◌+◌, ◌*◌, ◌<◌, ◌≤◌, ◌^◌, Bool, true, false, not, cond, eqb, ltb, List, [], ◌∷◌, length, drop, get_or, Some, None, refl, ap, arith, ◌&&◌, ◌||◌}
use Rattle.std.specs.List.{list_all}
use Rattle.std.specs.Prelude.{is_some}
use Rattle.std.proofs.lemmas.Bool.{eqb-true, ltb-true, lt-ltb, and_parts}
use Rattle.std.proofs.lemmas.Bool.Decides.{nat_tests}
use Rattle.std.proofs.Math.Seq.{drop-cons}
use Rattle.std.proofs.Math.Nat.{mul-le-mul_left}
use Rattle.js_lexer.specs.Classes.{begins, is_digit, is_word_part}
use Rattle.js_lexer.specs.Numbers.{digit_value, are_digits, is_decimal, base_of, is_numeral, digits_value, number_value, IsNumber}
use Rattle.js_lexer.specs.Scanning.{number_of}

grows : (base v d w : ℕ) → 1 ≤ base → v * base + d ≤ w → v ≤ w
grows base v d w b h = omega (arith, mul-le-mul_left v b)

-- further digits make no value smaller
pub digits_value_grows : (base v : ℕ) (ds : List ℕ) → 1 ≤ base → v ≤ digits_value base v ds
digits_value_grows base v [] b = omega arith
digits_value_grows base v (d ∷ ds) b =
    grows base v (digit_value d) (digits_value base (v * base + digit_value d) ds) b
    (digits_value_grows base (v * base + digit_value d) ds b)

-- a value that is too great after a digit is too great in the end
pub too_great : (base v i whole : ℕ) (ds : List ℕ)
    → 1 ≤ base
    → i < length ds
    → digits_value base v (drop i ds) ≡ whole
    → 2 ^ 53 ≤ v * base + digit_value (get_or ds i 0)
    → ltb whole (2 ^ 53) ≡ false
too_great base v i whole ds b l e h =
    let next : digits_value base v (drop i ds) ≡ digits_value base (v * base + digit_value (get_or ds i 0))
    (drop (suc i) ds) = ap (digits_value base v) (drop-cons ds i 0 l) in
    let more = digits_value_grows base (v * base + digit_value (get_or ds i 0)) (drop (suc i) ds) b in
    let above : 2 ^ 53 ≤ whole = omega arith in
    grind (arith, nat_tests)

digit_is_part : (c base : ℕ) → base ≤ 16 → ltb (digit_value c) base ≡ true → is_word_part c ≡ true
digit_is_part c base b e = grind (arith, nat_tests)

digit_is_decimal : (c : ℕ) → ltb (digit_value c) 10 ≡ true → is_digit c ≡ true
digit_is_decimal c e = grind (arith, nat_tests)

letter_is_part : (c : ℕ) → eqb (base_of c) 10 ≡ false → is_word_part c ≡ true
letter_is_part c e = grind (arith, nat_tests)

base_is_small : (c : ℕ) → base_of c ≤ 16
base_is_small c = grind (arith, nat_tests)

digits_are_parts : (base : ℕ) (ds : List ℕ)
    → base ≤ 16
    → list_all (λ c. ltb (digit_value c) base) ds ≡ true
    → list_all is_word_part ds ≡ true
digits_are_parts base [] b e = refl
digits_are_parts base (d ∷ ds) b e =
    let a = and_parts (ltb (digit_value d) base) (list_all (λ c. ltb (digit_value c) base) ds) e in
    rw (digit_is_part d base b a.0) (digits_are_parts base ds b a.1)

digits_begin : (ds : List ℕ)
    → list_all (λ c. ltb (digit_value c) 10) ds ≡ true
    → not (eqb (length ds) 0) ≡ true
    → begins is_digit ds ≡ true
digits_begin [] e f = absurd cc
digits_begin (d ∷ ds) e f =
    digit_is_decimal d (and_parts (ltb (digit_value d) 10) (list_all (λ c. ltb (digit_value c) 10) ds) e).0

-- a numeral begins with a digit, and a word could hold its units
pub record IsNumeral (text : List ℕ) : Type 0 where
  pub begins_so : begins is_digit text ≡ true
  pub parts : list_all is_word_part text ≡ true

decimal_is : (ds : List ℕ) → is_decimal ds ≡ true → IsNumeral ds
decimal_is [] e = absurd cc
decimal_is (d ∷ ds) e =
    let a = and_parts (are_digits 10 (d ∷ ds)) (not (eqb d 48) || eqb (length ds) 0) e in
    let b = and_parts (list_all (λ c. ltb (digit_value c) 10) (d ∷ ds)) (not (eqb (length (d ∷ ds)) 0)) a.0 in
    record { begins_so = digits_begin (d ∷ ds) b.0 b.1; parts = digits_are_parts 10 (d ∷ ds) (omega arith) b.0 }

based_is : (z c : ℕ) (ds : List ℕ)
    → (b : Bool)
    → eqb (base_of c) 10 ≡ b
    → eqb z 48 && not b ≡ true
    → cond b (is_decimal ds) (are_digits (base_of c) ds) ≡ true
    → IsNumeral (z ∷ c ∷ ds)
based_is z c ds true f e h = absurd (let x = (and_parts (eqb z 48) false e).1 in cc)
based_is z c ds false f e h =
    let zero_first : z ≡ 48 = eqb-true z 48 (and_parts (eqb z 48) true e).0 in
    let a = and_parts (list_all (λ c'. ltb (digit_value c') (base_of c)) ds) (not (eqb (length ds) 0)) h in
    record {
      begins_so = rw zero_first refl;
      parts = rw (zero_first, letter_is_part c f) (digits_are_parts (base_of c) ds (base_is_small c) a.0);
    }

numeral_is : (text : List ℕ) → is_numeral text ≡ true → IsNumeral text
numeral_is [] e = decimal_is [] e
numeral_is (z ∷ []) e = decimal_is (z ∷ []) e
numeral_is (z ∷ c ∷ ds) e = by_test (eqb z 48 && not (eqb (base_of c) 10)) refl e
  where
    by_test : (b : Bool)
        → (eqb z 48 && not (eqb (base_of c) 10)) ≡ b
        → (let parts : ℕ × List ℕ = cond b (base_of c, ds) (10, z ∷ c ∷ ds) in
        cond (eqb parts.0 10) (is_decimal parts.1) (are_digits parts.0 parts.1))
        ≡ true
        → IsNumeral (z ∷ c ∷ ds)
    by_test true f h = based_is z c ds (eqb (base_of c) 10) refl f h
    by_test false f h = decimal_is (z ∷ c ∷ ds) h

pub number_begins : (text : List ℕ) → IsNumber text → begins is_digit text ≡ true
number_begins text h = (numeral_is text h.numeral).begins_so

pub number_parts : (text : List ℕ) → IsNumber text → list_all is_word_part text ≡ true
number_parts text h = (numeral_is text h.numeral).parts

-- `number_of` knows the numbers
pub number_some : (text : List ℕ) → IsNumber text → is_some (number_of text) ≡ true
number_some text h =
    let s : ltb (number_value text) (2 ^ 53) ≡ true = lt-ltb (number_value text) (2 ^ 53) h.safe in
    rw (h.numeral, s) refl

pub number_is : (text : List ℕ) → is_some (number_of text) ≡ true → IsNumber text
number_is text e = by_tests (is_numeral text) (ltb (number_value text) (2 ^ 53)) refl refl e
  where
    by_tests : (a b : Bool)
        → is_numeral text ≡ a
        → ltb (number_value text) (2 ^ 53) ≡ b
        → is_some (cond (a && b) (Some (number_value text)) None) ≡ true
        → IsNumber text
    by_tests true true f g h = record { numeral = f; safe = ltb-true (number_value text) (2 ^ 53) g }
    by_tests true false f g h = absurd cc
    by_tests false b f g h = absurd cc
