-- Ids that are read back.
use Rattle.std.proofs.Common.{◌≡◌, ◌≢◌, ℕ, ◌<◌, ◌^◌, List, ◌++◌, Option, Some, None, decimal, map, refl, sym, ap, ◌∙◌, arith}
use Rattle.std.proofs.Common.{IfSome, IfNone}
use Rattle.std.proofs.Common.{Bool, true, false, bytes_eq, if◌then◌else◌, option_and_then}
use Rattle.std.proofs.lemmas.Slice.Eq.{bytes_eq-Decides}
use Rattle.std.proofs.lemmas.List.{map-id}
use Rattle.std.proofs.lemmas.Option.{same_Some}
use Rattle.cdp_text.specs.Decimal.{decimal_value}
use Rattle.cdp_text.specs.Parts.{Halves, halves}
use Rattle.cdp_text.proofs.DecimalLemmas.{decimal_value-some, decimal_value-decimal}
use Rattle.cdp_text.proofs.PartsLemmas.{halves-decimal, halves-some}
use Rattle.remote_objects.specs.Ids.{IsFrameId, IsObjectId, number_behind, number_in_id, object_id, point}

-- the halves of units are those of their numbers
pub units-halves : (text : List ℕ) (o : Option Halves) → o ≡ halves 46 (map (λ unit. unit) text) → halves 46 text ≡ o
units-halves text o is = ap (halves 46) (sym (map-id text)) ∙ sym is

-- ---- a number and a point, and what stands behind them

-- the halves of such a text
front_halves : (number : ℕ) (text back : List ℕ) → number < 2 ^ 64 → text ≡ decimal number ++ (point ++ back)
    → halves 46 text ≡ Some record { front = decimal number; back = back }
front_halves number text back small is = rw is (halves-decimal number 46 back small (λ digit. omega arith))

-- a text without a point is none
pub no_halves : (number : ℕ) (text : List ℕ)
    → number < 2 ^ 64
    → halves 46 text ≡ None
    → (back : List ℕ)
    → text ≢ decimal number ++ (point ++ back)
no_halves number text small none back is = let there = front_halves number text back small is in cc

-- nor is one with another number there, or none
pub other_front : (number : ℕ) (text : List ℕ) (parts : Halves) (o : Option ℕ)
    → number < 2 ^ 64
    → halves 46 text ≡ Some parts
    → decimal_value parts.front ≡ o
    → o ≢ Some number
    → (back : List ℕ) → text ≢ decimal number ++ (point ++ back)
other_front number text parts o small is front other back whole =
    let e : parts ≡ record { front = decimal number; back = back } = same_Some _ _
    (sym is ∙ front_halves number text back small whole) in
    other (sym front ∙ (ap (λ p. decimal_value p.front) e ∙ decimal_value-decimal number small))

-- one whose halves these are is
pub front_read : (number : ℕ) (text : List ℕ) (parts : Halves) (back : List ℕ)
    → halves 46 text ≡ Some parts
    → decimal_value parts.front ≡ Some number
    → parts.back ≡ back
    → text ≡ decimal number ++ (point ++ back)
front_read number text parts back is front same =
    let first = decimal_value-some parts.front number front in
    halves-some 46 text parts is ∙ rw (first.0, same) refl

-- what stands behind them is one text
same_back : (number : ℕ) (text first second : List ℕ)
    → number < 2 ^ 64
    → text ≡ decimal number ++ (point ++ first)
    → text ≡ decimal number ++ (point ++ second)
    → first ≡ second
same_back number text first second small is again =
    let e : record { front = decimal number; back = first } ≡ record { front = decimal number; back = second } =
    same_Some _ _ (sym (front_halves number text first small is) ∙ front_halves number text second small again) in
    ap (λ (p : Halves). p.back) e

-- ---- what the last number tells

pub back_some : (session : ℕ) (text back : List ℕ) (r : Option ℕ)
    → text ≡ decimal session ++ (point ++ back)
    → r ≡ decimal_value back
    → IfSome r (λ number. IsObjectId session text number)
back_some session text back None is read = tt
back_some session text back (Some n) is read =
    let last = decimal_value-some back n (sym read) in
    record { written = is ∙ ap (λ digits. decimal session ++ (point ++ digits)) last.0; small = last.1 }

pub back_none : (session : ℕ) (text back : List ℕ) (r : Option ℕ)
    → session < 2 ^ 64
    → text ≡ decimal session ++ (point ++ back)
    → r ≡ decimal_value back
    → IfNone r ((number : ℕ) → ¬ (IsObjectId session text number))
back_none session text back None small is read = λ number id.
    let e : back ≡ decimal number = same_back session text back (decimal number) small is id.written in
    let there : None ≡ Some number = read ∙ ap decimal_value e ∙ decimal_value-decimal number id.small in
    cc
back_none session text back (Some n) small is read = tt

-- the value of units is that of their numbers
pub units-value : (text : List ℕ) (r : Option ℕ) → r ≡ decimal_value (map (λ unit. unit) text) → r ≡ decimal_value text
units-value text r is = is ∙ ap decimal_value (map-id text)

pub if_none : {A : Type 0} {P : Type 0} (r : Option A) → P → IfNone r P
if_none None p = p
if_none (Some x) p = tt

-- ---- the number in an id

-- the number of an id is read from it
id_number : (session : ℕ) (text : List ℕ) (number : ℕ)
    → session < 2 ^ 64
    → IsObjectId session text number
    → number_in_id session text ≡ Some number
id_number session text number small id =
    ap (option_and_then (number_behind session)) (front_halves session text (decimal number) small id.written)
    ∙ (ap (λ b. if b then decimal_value (decimal number) else None)
    ((bytes_eq-Decides (decimal session) (decimal session)).1 refl)
    ∙ decimal_value-decimal number id.small)

behind_id : (session : ℕ) (text : List ℕ) (number : ℕ) (parts : Halves) (b : Bool)
    → halves 46 text ≡ Some parts
    → bytes_eq parts.front (decimal session) ≡ b
    → (if b then decimal_value parts.back else None) ≡ Some number → IsObjectId session text number
behind_id session text number parts true is same read =
    let front = (bytes_eq-Decides parts.front (decimal session)).0 same in
    let back = decimal_value-some parts.back number read in
    record { written = halves-some 46 text parts is ∙ rw (front, back.0) refl; small = back.1 }
behind_id session text number parts false is same read = cc

halves_id : (session : ℕ) (text : List ℕ) (number : ℕ) (o : Option Halves)
    → halves 46 text ≡ o
    → option_and_then (number_behind session) o ≡ Some number
    → IsObjectId session text number
halves_id session text number None is read = cc
halves_id session text number (Some parts) is read =
    behind_id session text number parts (bytes_eq parts.front (decimal session)) is refl read

none_by : (session : ℕ) (text : List ℕ) (o : Option ℕ)
    → number_in_id session text ≡ o
    → ((number : ℕ) → ¬ (IsObjectId session text number))
    → None ≡ o
none_by session text None is none = refl
none_by session text (Some number) is none =
    absurd (none number (halves_id session text number (halves 46 text) refl is))

-- what is read by what it means that a text is an id is the number in it
pub read-value : (session : ℕ) (text : List ℕ) (r : Option ℕ)
    → session < 2 ^ 64
    → IfSome r (λ number. IsObjectId session text number)
    → IfNone r ((number : ℕ) → ¬ (IsObjectId session text number)) → r ≡ number_in_id session text
read-value session text None small some none = none_by session text (number_in_id session text) refl none
read-value session text (Some number) small some none = sym (id_number session text number small some)

-- ---- ids of frames

-- behind the number of its session it has the two other ones as an object's id has its two
pub frame_some : (session stop : ℕ) (text back : List ℕ) (r : Option ℕ)
    → text ≡ decimal session ++ (point ++ back)
    → IfSome r (λ depth. IsObjectId stop back depth)
    → IfSome r (λ depth. IsFrameId session stop text depth)
frame_some session stop text back None is some = tt
frame_some session stop text back (Some depth) is some =
    record { written = is ∙ ap (λ rest. decimal session ++ (point ++ rest)) some.written; small = some.small }

pub frame_none : (session stop : ℕ) (text back : List ℕ) (r : Option ℕ)
    → session < 2 ^ 64
    → text ≡ decimal session ++ (point ++ back)
    → IfNone r ((depth : ℕ) → ¬ (IsObjectId stop back depth))
    → IfNone r ((depth : ℕ) → ¬ (IsFrameId session stop text depth))
frame_none session stop text back None small is none = λ depth id. none depth
    (record { written = same_back session text back (object_id stop depth) small is id.written; small = id.small })
frame_none session stop text back (Some depth) small is none = tt
