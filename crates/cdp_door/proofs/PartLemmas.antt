-- Fields one by one, the parts of a value between commas, and the blanks around them.
use Rattle.std.proofs.Common.{◌≡◌, ℕ, ◌<◌, ◌≤◌, ◌+◌, List, [], ◌∷◌, ◌++◌, length, map, reverse, All, Bool, true, false, Option, Some, None, IfSome, IfNone, Bor, refl, ap, sym, subst, ◌∙◌, if◌then◌else◌, eqb, arith}
use Rattle.std.proofs.lemmas.List.{reverse-append, reverse-reverse, map-id}
use Rattle.std.proofs.lemmas.List.Elements.{All-tail}
use Rattle.std.specs.Option.{option_map}
use Rattle.std.specs.Str.{str_eq_ignore_ascii_case}
use Rattle.httparse.specs.Grammar.{skip_ows, trim_ows}
use Rattle.httparse.specs.Spans.{header_bytes, IsHeaderWithin}
use Rattle.httparse.specs.declared.spans.HeaderSpan.{HeaderSpan}
use Rattle.cdp_text.specs.Lines.{begun_with}
use Rattle.cdp_text.specs.Parts.{Halves, longer, halves}
use Rattle.cdp_door.specs.Fields.{first_value, parts_of}

-- ---- fields

-- where the first of these fields has another name, the others tell
pub others-tell : (bytes name : List ℕ) (span : HeaderSpan) (others all : List HeaderSpan) → all ≡ span ∷ others
    → str_eq_ignore_ascii_case (header_bytes bytes span).0 name ≡ false
    → first_value name (map (header_bytes bytes) all) ≡ first_value name (map (header_bytes bytes) others)
others-tell bytes name span others all is other =
    ap (λ t. first_value name (map (header_bytes bytes) t)) is
    ∙ ap (λ t. if t then Some (header_bytes bytes span).1 else first_value name (map (header_bytes bytes) others)) other

-- and they lie within as all do
pub others-within : (n : ℕ) (span : HeaderSpan) (others all : List HeaderSpan) → all ≡ span ∷ others
    → All (IsHeaderWithin n) all → All (IsHeaderWithin n) others
others-within n span others all is within =
    All-tail (IsHeaderWithin n) span others (subst (All (IsHeaderWithin n)) is within)

-- ---- parts

-- the parts of a value, by what stands around its first comma
abbrev parts_by : List ℕ → Option Halves → List (List ℕ)
parts_by value None = value ∷ []
parts_by value (Some parts) = parts.front ∷ parts_of parts.back

-- with one more byte at its beginning
begun-by : (byte : ℕ) (value : List ℕ) (found : Option Halves)
    → begun_with byte (parts_by value found) ≡ parts_by (byte ∷ value) (option_map (longer byte) found)
begun-by byte value None = refl
begun-by byte value (Some parts) = refl

-- one more byte, by whether it is a comma
parts-begun : (byte : ℕ) (value : List ℕ) → parts_of value ≡ parts_by value (halves 44 value) → (t : Bool)
    → (if t then [] ∷ parts_of value else begun_with byte (parts_of value))
    ≡ parts_by (byte ∷ value)
    (if t then Some record { front = []; back = value } else option_map (longer byte) (halves 44 value))
parts-begun byte value rest true = refl
parts-begun byte value rest false = ap (begun_with byte) rest ∙ begun-by byte value (halves 44 value)

-- the parts of a value are those around its first comma
parts-are : (value : List ℕ) → parts_of value ≡ parts_by value (halves 44 value)
parts-are [] = refl
parts-are (byte ∷ value) = parts-begun byte value (parts-are value) (eqb byte 44)

-- a value without a comma is one part
pub parts-last : (value : List ℕ) → None ≡ halves 44 value → parts_of value ≡ value ∷ []
parts-last value none = parts-are value ∙ ap (parts_by value) (sym none)

-- a value with a comma has the part before it and those after it
pub parts-cut : (front back value : List ℕ) → Some (record { front = front; back = back }) ≡ halves 44 value
    → parts_of value ≡ front ∷ parts_of back
parts-cut front back value found = parts-are value ∙ ap (parts_by value) (sym found)

-- how much stands from the first comma on
abbrev back_size : Option Halves → ℕ
back_size None = 0
back_size (Some parts) = length parts.back + 1

-- one more byte before it changes nothing
back-longer : (byte : ℕ) (found : Option Halves) → back_size (option_map (longer byte) found) ≡ back_size found
back-longer byte None = refl
back-longer byte (Some parts) = refl

-- one more byte, by whether it is a comma
back-begun : (byte : ℕ) (value : List ℕ) → back_size (halves 44 value) ≤ length value → (t : Bool)
    → back_size (if t then Some record { front = []; back = value } else option_map (longer byte) (halves 44 value))
    ≤ length value + 1
back-begun byte value rest true = omega arith
back-begun byte value rest false = omega (arith, rest, back-longer byte (halves 44 value))

-- it is no more than all
back-within : (value : List ℕ) → back_size (halves 44 value) ≤ length value
back-within [] = omega arith
back-within (byte ∷ value) = omega (arith, back-begun byte value (back-within value) (eqb byte 44))

-- what stands after a comma is shorter
pub parts-shorter : (front back value : List ℕ) → Some (record { front = front; back = back }) ≡ halves 44 value
    → length back < length value
parts-shorter front back value found = omega (arith, back-within value, ap back_size found)

-- what a walk over units finds
abbrev Cut : Type 0
Cut = Option (Bor (List ℕ) × Bor (List ℕ))

-- it is what stands around the first comma
abbrev IsCut : List ℕ → Cut → Type 0
IsCut value found =
    option_map (λ parts. record { front = map (λ byte. byte) parts.0.now; back = map (λ byte. byte) parts.1.now }) found
    ≡ halves 44 (map (λ byte. byte) value)

pub cut-first : (value : List ℕ) (found : Cut) → IsCut value found
    → IfSome found (λ cut. parts_of value ≡ cut.0.now ∷ parts_of cut.1.now)
cut-first value None is = tt
cut-first value (Some cut) is =
    sym (ap parts_of (map-id value))
    ∙ parts-cut (map (λ byte. byte) cut.0.now) (map (λ byte. byte) cut.1.now) (map (λ byte. byte) value) is
    ∙ (λ i. map-id cut.0.now i ∷ parts_of (map-id cut.1.now i))

pub cut-shorter : (value : List ℕ) (found : Cut) → IsCut value found
    → IfSome found (λ cut. length cut.1.now < length value)
cut-shorter value None is = tt
cut-shorter value (Some cut) is =
    omega (
      arith,
      parts-shorter (map (λ byte. byte) cut.0.now) (map (λ byte. byte) cut.1.now) (map (λ byte. byte) value) is,
      ap length (map-id cut.1.now),
      ap length (map-id value),
    )

pub cut-last : (value : List ℕ) (found : Cut) → IsCut value found → IfNone found (parts_of value ≡ value ∷ [])
cut-last value (Some cut) is = tt
cut-last value None is =
    sym (ap parts_of (map-id value))
    ∙ parts-last (map (λ byte. byte) value) is
    ∙ ap (λ t. t ∷ []) (map-id value)

-- ---- blanks

-- a value without the blanks at its ends
pub trim_ows-is : (part : List ℕ) → trim_ows part ≡ reverse (skip_ows (reverse (skip_ows part)))
unfolding trim_ows
trim_ows-is part = refl

-- for a word
pub ruleset trims = (trim_ows-is)

-- the last byte stands first where the others are turned round
pub reverse-last : (front : List ℕ) (last : ℕ) → reverse (front ++ last ∷ []) ≡ last ∷ reverse front
reverse-last front last = reverse-append front (last ∷ [])

-- for a walk from the end
pub ruleset ends = (reverse-last, reverse-reverse)
