-- Lemmas on shortest decimal texts.
use Rattle.std.proofs.Common.{◌≡◌, ◌≢◌, ℕ, ◌+◌, ◌*◌, ◌<◌, ◌≤◌, ◌^◌, List, [], ◌∷◌, length, Bool, true, false, not, ◌==◌, cond, Option, Some, None, IfSome, IfNone, decimal, refl, inl, inr, nat_lt, ◌&&◌, arith, get_or, drop, map, sym, ap, ◌∙◌}
use Rattle.std.specs.Str.{all_ascii_digits}
use Rattle.std.specs.Str.Parse.{digits_value, digits_value_after}
use Rattle.std.specs.Char.{digit_value}
use Rattle.std.proofs.lemmas.Bool.{and_parts, cases_lt, lt-ltb}
use Rattle.std.proofs.lemmas.Bool.Decides.{nat_tests}
use Rattle.std.proofs.lemmas.List.{at_drop_more}
use Rattle.std.proofs.lemmas.Str.Parse.{IsNumeralModel, numerals_by_value, tells_all_ascii_digits}
use Rattle.std.proofs.lemmas.Fmt.{digits_decimal, digits_value-decimal, decimal_nonempty, first_decimal, decimal_digit, decimal-digits_value}
use Rattle.cdp_text.specs.Decimal.{decimal_value, digits_number, begins_shortest}

-- the texts of digits, and their value
pub digits_are_numerals : IsNumeralModel (λ ds. all_ascii_digits ds ≡ true) (digits_value 10)
digits_are_numerals = numerals_by_value _ tells_all_ascii_digits

-- more digits make no smaller number
digits_value_after-ge : (n : ℕ) (digits : List ℕ) → n ≤ digits_value_after 10 n digits
digits_value_after-ge n [] = omega arith
digits_value_after-ge n (digit ∷ digits) = omega (arith, digits_value_after-ge (n * 10 + digit_value digit) digits)

-- digits that have come past the limit, of a text whose units have codes
pub digits_number_past : {C : Type 0} (code : C → ℕ) (digits : List C) (i n : ℕ) (digit : C)
    → i < length digits
    → digit ≡ get_or digits i digit
    → digits_value_after 10 n (map code (drop i digits)) ≡ digits_value 10 (map code digits)
    → 2 ^ 64 ≤ n * 10 + digit_value (code digit) → digits_number (map code digits) ≡ None
digits_number_past {C} code digits i n digit h is e past =
    let after : List C → ℕ = λ ds. digits_value_after 10 n (map code ds) in
    let step : after (drop i digits) ≡ after (digit ∷ drop (i + 1) digits) =
    at_drop_more after digits i digit h ∙ ap (λ d. after (d ∷ drop (i + 1) digits)) (sym is) in
    let ge = digits_value_after-ge (n * 10 + digit_value (code digit)) (map code (drop (i + 1) digits)) in
    let high : 2 ^ 64 ≤ digits_value 10 (map code digits) = omega arith in
    grind (arith, nat_tests)

-- how digits begin, of a text whose units have codes
pub begins_none : {C : Type 0} (code : C → ℕ) (digits : List C)
    → length digits ≡ 0
    → begins_shortest (map code digits) ≡ false
begins_none code [] h = refl
begins_none code (digit ∷ digits) h = let no : ⊥ = omega (arith, h) in elim no [ ]

pub begins_one : {C : Type 0} (code : C → ℕ) (digits : List C)
    → length digits ≡ 1
    → begins_shortest (map code digits) ≡ true
begins_one code [] h = let no : ⊥ = omega (arith, h) in elim no [ ]
begins_one code (digit ∷ []) h = refl
begins_one code (digit ∷ more ∷ digits) h = let no : ⊥ = omega (arith, h) in elim no [ ]

pub begins_more : {C : Type 0} (code : C → ℕ) (digits : List C) (first : C)
    → 2 ≤ length digits
    → first ≡ get_or digits 0 first
    → begins_shortest (map code digits) ≡ not (code first == 48)
begins_more code [] first h e = let no : ⊥ = omega (arith, h) in elim no [ ]
begins_more code (digit ∷ []) first h e = let no : ⊥ = omega (arith, h) in elim no [ ]
begins_more code (digit ∷ more ∷ digits) first h e =
    let same : code first ≡ code digit = ap code e in grind (arith, nat_tests)

pub ruleset begins_in = (begins_none, begins_one, begins_more)

-- what a choice gave
cond-some : (b : Bool) (o : Option ℕ) (n : ℕ) → cond b o None ≡ Some n → (b ≡ true) × (o ≡ Some n)
cond-some true o n h = (refl, h)
cond-some false o n h = cc

-- the value is that of the number's text
pub decimal_value-some : (digits : List ℕ) (n : ℕ) → decimal_value digits ≡ Some n → (digits ≡ decimal n) × (n < 2 ^ 64)
unfolding decimal_value
decimal_value-some digits n h =
    let outer = cond-some (begins_shortest digits) (digits_number digits) n h in
    let inner = cond-some (all_ascii_digits digits && nat_lt (digits_value 10 digits) (2 ^ 64))
    (Some (digits_value 10 digits)) n outer.1 in
    let tests = and_parts (all_ascii_digits digits) (nat_lt (digits_value 10 digits) (2 ^ 64)) inner.0 in
    let small : digits_value 10 digits < 2 ^ 64 = grind (arith, nat_tests, tests.1) in
    let full : 0 < length digits = grind (arith, nat_tests, outer.0) in
    let first : get_or digits 0 0 ≡ 48 → length digits ≡ 1 = λ e. grind (arith, nat_tests, outer.0) in
    let is : digits_value 10 digits ≡ n = cc (inner.1) in
    let text = decimal-digits_value digits_are_numerals digits tests.0 full first small in
    (cc, omega arith)

-- only the text of 0 begins with 0
begins_shortest-decimal : (n : ℕ) → n < 2 ^ 64 → begins_shortest (decimal n) ≡ true
begins_shortest-decimal n h =
    elim (cases_lt n 10) [
      | inl low ↦ rw (decimal_digit n low)
      | inr high ↦
          let full = decimal_nonempty n h in
          let first = first_decimal n (omega arith) h in
          grind (arith, nat_tests)
    ]

-- each number below 2^64 is read from its text
pub decimal_value-decimal : (n : ℕ) → n < 2 ^ 64 → decimal_value (decimal n) ≡ Some n
unfolding decimal_value
decimal_value-decimal n h =
    let small : nat_lt n (2 ^ 64) ≡ true = lt-ltb n (2 ^ 64) h in
    rw (
      begins_shortest-decimal n h,
      digits_decimal digits_are_numerals n h,
      digits_value-decimal digits_are_numerals n h,
      small,
    )

-- what the value tells of the text
pub shortest_from_value : (digits : List ℕ) (r : Option ℕ)
    → r ≡ decimal_value digits
    → IfSome r (λ n. digits ≡ decimal n)
shortest_from_value digits None e = tt
shortest_from_value digits (Some n) e = (decimal_value-some digits n (sym e)).0

pub none_from_value : (digits : List ℕ) (r : Option ℕ)
    → r ≡ decimal_value digits
    → IfNone r ((n : ℕ) → n < 2 ^ 64 → digits ≢ decimal n)
none_from_value digits None e = λ n h same. let read = decimal_value-decimal n h in cc
none_from_value digits (Some n) e = tt

pub ruleset told_by_value = (shortest_from_value, none_from_value)
