-- Laws of the parts of a text.
use Rattle.std.proofs.Common.{◌≡◌, ◌≢◌, ℕ, suc, ◌<◌, ◌+◌, ◌-◌, ◌^◌, List, [], ◌∷◌, ◌++◌, length, length-drop, map, get_or, take, drop, Bool, true, false, Option, Some, None, IfSome, IfNone, refl, sym, ap, ◌∙◌, inl, inr, arith, eqb, decimal, if◌then◌else◌, Bor}
use Rattle.std.specs.Option.{option_map, MatchOption}
use Rattle.std.specs.Str.Pattern.{FindsTextPrefix}
use Rattle.std.proofs.lemmas.Bool.{cases_lt, eqb-true, eq-eqb, ne_eqb}
use Rattle.std.proofs.lemmas.Grind.{common_steps}
use Rattle.std.proofs.lemmas.List.{get_or-map, get_or-take, map-append, take-append-drop, take-map, take_all}
use Rattle.std.proofs.lemmas.Str.Pattern.{IsSplitOnceResult, split_parts}
use Rattle.std.proofs.lemmas.Str.Parse.{numerals_by_value, tells_all_ascii_digits, not_in_digits}
use Rattle.std.proofs.lemmas.Fmt.{digits_decimal}
use Rattle.std.specs.Int.{IsInRange}
use Rattle.cdp_text.specs.Parts.{behind, Halves, longer, halves}
use Rattle.cdp_text.proofs.ListLemmas.{from-here}

-- what was put behind a front stands there
pub behind-append : (front rest : List ℕ) → behind front (front ++ rest) ≡ Some rest
behind-append [] rest = refl
behind-append (byte ∷ front) rest = rw (eq-eqb byte byte refl) (behind-append front rest)

behind_step : (b : Bool) (byte first : ℕ) (front text rest : List ℕ) → (b ≡ true → byte ≡ first)
    → (behind front text ≡ Some rest → text ≡ front ++ rest)
    → (if b then behind front text else None) ≡ Some rest
    → first ∷ text ≡ byte ∷ (front ++ rest)
behind_step true byte first front text rest same others is = let e = same refl in let f = others is in cc
behind_step false byte first front text rest same others is = cc

-- and nothing else does
pub behind-some : (front text rest : List ℕ) → behind front text ≡ Some rest → text ≡ front ++ rest
behind-some [] text rest is = cc
behind-some (byte ∷ front) [] rest is = cc
behind-some (byte ∷ front) (first ∷ text) rest is =
    behind_step (eqb byte first) byte first front text rest (eqb-true byte first) (behind-some front text rest) is

pub none_from_some : {A : Type 0} → (o : Option A) → ((x : A) → o ≢ Some x) → o ≡ None
none_from_some None lacks = refl
none_from_some (Some x) lacks = absurd (lacks x refl)

-- what the text's own call says
pub behind-strip : (front text : List ℕ) (r : Option (Bor (List ℕ)))
    → MatchOption r (FindsTextPrefix front text None)
    (λ x. (n : ℕ) × FindsTextPrefix front text (Some n) × (x.now ≡ drop n text) × (length x.now + n ≡ length text))
    → option_map (λ rest. rest.now) r ≡ behind front text
behind-strip front text None lacks =
    sym (none_from_some (behind front text) (λ rest is. lacks rest (behind-some front text rest is)))
behind-strip front text (Some x) found =
    let e : text ≡ front ++ x.now = rw found.2 found.1.1 in
    sym (rw e (behind-append front x.now))

-- the halves of a text that was put together so, where the first lacks the byte
pub halves-append : (separator : ℕ) (front back : List ℕ) → ((i : ℕ) → i < length front → get_or front i 0 ≢ separator)
    → halves separator (front ++ separator ∷ back) ≡ Some record { front = front; back = back }
halves-append separator [] back lacks = rw (eq-eqb separator separator refl) refl
halves-append separator (byte ∷ front) back lacks =
    rw (
      ne_eqb byte separator (lacks 0 (omega arith)),
      halves-append separator front back (λ i below. lacks (suc i) (omega arith)),
    )
    refl

pub halves-none : (separator : ℕ) (text : List ℕ)
    → ((i : ℕ) → i < length text → get_or text i 0 ≢ separator)
    → halves separator text ≡ None
halves-none separator [] lacks = refl
halves-none separator (byte ∷ text) lacks =
    rw (
      ne_eqb byte separator (lacks 0 (omega arith)),
      halves-none separator text (λ i below. lacks (suc i) (omega arith)),
    )
    refl

-- what the text's own call says
pub halves-split : (separator : ℕ) (text : List ℕ) (r : Option (Bor (List ℕ) × Bor (List ℕ)))
    → separator < 128
    → IsSplitOnceResult separator text r
    → option_map (λ parts. record { front = parts.0.now; back = parts.1.now }) r ≡ halves separator text
halves-split separator text None small found =
    sym (halves-none separator text (split_parts separator text None found small))
halves-split separator text (Some x) small found =
    let parts = split_parts separator text (Some x) found small in
    sym (rw parts.0 (halves-append separator x.0.now x.1.now parts.1))

-- a decimal text up to a byte that is no digit
pub halves-decimal : (n separator : ℕ) (back : List ℕ) → n < 2 ^ 64 → ¬ (IsInRange 48 57 separator)
    → halves separator (decimal n ++ separator ∷ back) ≡ Some record { front = decimal n; back = back }
halves-decimal n separator back small apart =
    let own = numerals_by_value _ tells_all_ascii_digits in
    halves-append separator (decimal n) back
    (not_in_digits own (decimal n) separator (digits_decimal own n small) apart)

halves_step : (separator : ℕ) (b : Bool) (byte : ℕ) (text : List ℕ) (parts : Halves) → (b ≡ true → byte ≡ separator)
    → (o : Option Halves) → ((p : Halves) → o ≡ Some p → text ≡ p.front ++ separator ∷ p.back)
    → (if b then Some record { front = []; back = text } else option_map (longer byte) o) ≡ Some parts
    → byte ∷ text ≡ parts.front ++ separator ∷ parts.back
halves_step separator true byte text parts same o others is =
    let e = same refl in let f : record { front = []; back = text } ≡ parts = cc in rw (← f, e) refl
halves_step separator false byte text parts same None others is = cc
halves_step separator false byte text parts same (Some p) others is =
    let e = others p refl in let f : longer byte p ≡ parts = cc in rw (← f, e) refl

-- what has halves is put together from them
pub halves-some : (separator : ℕ) (text : List ℕ) (parts : Halves)
    → halves separator text ≡ Some parts
    → text ≡ parts.front ++ separator ∷ parts.back
halves-some separator [] parts is = cc
halves-some separator (byte ∷ text) parts is =
    halves_step separator (eqb byte separator) byte text parts (eqb-true byte separator) (halves separator text)
    (halves-some separator text) is

-- the same in words of the text
pub behind-parts : (front text : List ℕ) (r : Option (Bor (List ℕ)))
    → MatchOption r (FindsTextPrefix front text None)
    (λ x. (n : ℕ) × FindsTextPrefix front text (Some n) × (x.now ≡ drop n text) × (length x.now + n ≡ length text))
    → IfSome r (λ x. text ≡ front ++ x.now)
behind-parts front text None lacks = tt
behind-parts front text (Some x) found = rw found.2 found.1.1

pub behind-lacks : (front text : List ℕ) (r : Option (Bor (List ℕ)))
    → MatchOption r (FindsTextPrefix front text None)
    (λ x. (n : ℕ) × FindsTextPrefix front text (Some n) × (x.now ≡ drop n text) × (length x.now + n ≡ length text))
    → IfNone r ((rest : List ℕ) → text ≢ front ++ rest)
behind-lacks front text None lacks = lacks
behind-lacks front text (Some x) found = tt

pub halves-parts : (separator : ℕ) (text : List ℕ) (r : Option (Bor (List ℕ) × Bor (List ℕ)))
    → separator < 128
    → IsSplitOnceResult separator text r
    → IfSome r
    (λ x. (text ≡ x.0.now ++ separator ∷ x.1.now) × ((i : ℕ) → i < length x.0.now → get_or x.0.now i 0 ≢ separator))
halves-parts separator text None small found = tt
halves-parts separator text (Some x) small found = split_parts separator text (Some x) found small

pub halves-lacks : (separator : ℕ) (text : List ℕ) (r : Option (Bor (List ℕ) × Bor (List ℕ)))
    → separator < 128
    → IsSplitOnceResult separator text r
    → IfNone r ((i : ℕ) → i < length text → get_or text i 0 ≢ separator)
halves-lacks separator text None small found = split_parts separator text None found small
halves-lacks separator text (Some x) small found = tt

-- the halves of a text whose units have codes, around the first that is the separator
pub halves-at : {C : Type 0} (code : C → ℕ) (separator : ℕ) (units : List C) (i : ℕ) (unit : C)
    → i < length units
    → ((k : ℕ) → k < i → get_or (map code units) k 0 ≢ separator)
    → unit ≡ get_or units i unit
    → code unit ≡ separator
    → Some record {
      front = map code (take i units);
      back = map code (take (length units - (i + 1)) (drop (i + 1) units));
    }
    ≡ halves separator (map code units)
halves-at {C} code separator units i unit h lacks is same =
    let before : List ℕ = map code (take i units) in
    let after : List C = drop (i + 1) units in
    let rest : drop i units ≡ unit ∷ after = from-here units i unit h is in
    let back : take (length units - (i + 1)) after ≡ after =
    take_all (length units - (i + 1)) after (omega (arith, length-drop (i + 1) units)) in
    let whole : units ≡ take i units ++ unit ∷ after =
    sym (take-append-drop i units) ∙ ap (λ r. take i units ++ r) rest in
    let codes : map code units ≡ before ++ separator ∷ map code after =
    ap (map code) whole ∙ map-append code (take i units) (unit ∷ after)
    ∙ ap (λ s. before ++ s ∷ map code after) same in
    let front : (k : ℕ) → k < length before → get_or before k 0 ≢ separator = λ k below e.
    let early : k < i = grind (arith, common_steps) in
    let there : get_or before k 0 ≡ get_or (map code units) k 0 =
    ap (λ xs. get_or xs k 0) (sym (take-map code i units)) ∙ get_or-take i (map code units) k 0 early in
    lacks k early (sym there ∙ e) in
    rw back (sym (ap (halves separator) codes ∙ halves-append separator before (map code after) front))

-- no separator up to a unit, and it isn't one
pub lacks-more : {C : Type 0} (code : C → ℕ) (separator : ℕ) (units : List C) (i : ℕ) (unit : C)
    → i < length units
    → ((k : ℕ) → k < i → get_or (map code units) k 0 ≢ separator)
    → unit ≡ get_or units i unit
    → code unit ≢ separator
    → (k : ℕ) → k < i + 1 → get_or (map code units) k 0 ≢ separator
lacks-more code separator units i unit h lacks is other k below same =
    elim (cases_lt k i) [
      | inl before ↦ lacks k before same
      | inr after ↦
          let here : k ≡ i = omega (arith, below, after) in
          let there : get_or (map code units) k 0 ≡ code unit =
          ap (λ n. get_or (map code units) n 0) here ∙ get_or-map code units i unit 0 h ∙ sym (ap code is) in
          other (sym there ∙ same)
    ]
