-- A text that has no surrogate without a partner is the UTF-16 form of its UTF-8.
use Rattle.std.proofs.Common.{◌≡◌, ℕ, ◌-◌, ◌/◌, ◌%◌, ◌^◌, ◌<◌, ◌≤◌, List, [], ◌∷◌, ◌++◌, Bool, true, false, ◌&&◌, not, if◌then◌else◌, Option, Some, None, map, flat_map, refl, sym, ap, ap₂, ◌∙◌, arith, nat_lt, nat_le, is_some}
use Rattle.std.specs.List.{AllByRecursion, list_any}
use Rattle.std.specs.Char.Escape.{encode_utf16}
use Rattle.std.specs.Char.Utf16.{utf16_chars, utf16_lossy_chars, is_high_surrogate, is_low_surrogate, lone_unit_char, surrogate_pair_char}
use Rattle.std.specs.Option.{unwrap_or}
use Rattle.std.proofs.Math.Utf8.{scalar, scalars}
use Rattle.std.proofs.lemmas.Bool.{and_parts, and_from, lt-ltb, le-ltb, ltb-true, leb-true}
use Rattle.std.proofs.lemmas.Bool.Decides.{nat_tests}
use Rattle.std.proofs.lemmas.Str.{chars-encodes}
use Rattle.cdp_text.specs.Units.{utf16_of, utf8_of}
use Rattle.cdp_json.specs.ReadBack.{IsWhole, WholeKeysDiffer}

abbrev Spelt : List (Option ℕ) → List ℕ → Type 0
Spelt cs us =
    (scalars (map (λ o. unwrap_or o 0xFFFD) cs) ≡ true)
    × (flat_map encode_utf16 (map (λ o. unwrap_or o 0xFFFD) cs) ≡ us)

abbrev none_lone : List (Option ℕ) → Bool
none_lone cs = list_any (λ o. not (is_some o)) cs

-- a unit that is no surrogate spells itself
lone_spelt : (t : Bool) (u : ℕ) (cs : List (Option ℕ)) (us : List ℕ)
    → (nat_le 0xD800 u && nat_lt u 0xE000) ≡ t
    → u < 2 ^ 16
    → none_lone ((if t then None else Some u) ∷ cs) ≡ false
    → (none_lone cs ≡ false → Spelt cs us)
    → Spelt ((if t then None else Some u) ∷ cs) (u ∷ us)
lone_spelt true u cs us is small none later = cc
lone_spelt false u cs us is small none later =
    let rest = later none in
    let ok : scalar u ≡ true = grind (arith, nat_tests) in
    (and_from (scalar u) _ ok rest.0, rw (lt-ltb u 0x1_0000 small) (ap (λ r. u ∷ r) rest.1))

-- a pair spells its character
pair_units : (h l : ℕ)
    → 0xD800 ≤ h
    → h < 0xDC00
    → 0xDC00 ≤ l
    → l < 0xE000
    → (scalar (surrogate_pair_char h l) ≡ true) × (encode_utf16 (surrogate_pair_char h l) ≡ h ∷ l ∷ [])
pair_units h l p q r s =
    let high : (surrogate_pair_char h l - 0x1_0000) / 0x400 ≡ h - 0xD800 = omega arith in
    let low : (surrogate_pair_char h l - 0x1_0000) % 0x400 ≡ l - 0xDC00 = omega arith in (
      grind (arith, nat_tests),
      rw (le-ltb (surrogate_pair_char h l) 0x1_0000 (omega arith))
          (ap₂ (λ a b. a ∷ b ∷ []) (omega (arith, high)) (omega (arith, low))),
    )

pair_spelt : (h l : ℕ) (cs : List (Option ℕ)) (us : List ℕ)
    → (is_high_surrogate h && is_low_surrogate l) ≡ true
    → Spelt cs us
    → Spelt (Some (surrogate_pair_char h l) ∷ cs) (h ∷ l ∷ us)
pair_spelt h l cs us is rest =
    let both = and_parts (is_high_surrogate h) (is_low_surrogate l) is in
    let first = and_parts (nat_le 0xD800 h) (nat_lt h 0xDC00) both.0 in
    let second = and_parts (nat_le 0xDC00 l) (nat_lt l 0xE000) both.1 in
    let units = pair_units h l (leb-true 0xD800 h first.0) (ltb-true h 0xDC00 first.1) (leb-true 0xDC00 l second.0)
    (ltb-true l 0xE000 second.1) in
    (and_from (scalar (surrogate_pair_char h l)) _ units.0 rest.0, ap₂ (λ a b. a ++ b) units.1 rest.1)

unit_or_pair : (t : Bool) (u v : ℕ) (ones twos : List (Option ℕ)) (us : List ℕ)
    → (is_high_surrogate u && is_low_surrogate v) ≡ t
    → u < 2 ^ 16
    → none_lone (if t then Some (surrogate_pair_char u v) ∷ twos else lone_unit_char u ∷ ones) ≡ false
    → (none_lone twos ≡ false → Spelt twos us) → (none_lone ones ≡ false → Spelt ones (v ∷ us))
    → Spelt (if t then Some (surrogate_pair_char u v) ∷ twos else lone_unit_char u ∷ ones) (u ∷ v ∷ us)
unit_or_pair true u v ones twos us is small none two one = pair_spelt u v twos us is (two none)
unit_or_pair false u v ones twos us is small none two one =
    lone_spelt (nat_le 0xD800 u && nat_lt u 0xE000) u ones (v ∷ us) refl small none one

spelt : (us : List ℕ)
    → AllByRecursion (λ u. u < 2 ^ 16) us
    → none_lone (utf16_chars us) ≡ false
    → Spelt (utf16_chars us) us
unfolding utf16_chars
spelt [] small none = (refl, refl)
spelt (u ∷ []) small none =
    lone_spelt (nat_le 0xD800 u && nat_lt u 0xE000) u [] [] refl small.0 none (λ e. (refl, refl))
spelt (u ∷ v ∷ us) small none =
    unit_or_pair (is_high_surrogate u && is_low_surrogate v) u v (utf16_chars (v ∷ us)) (utf16_chars us)
    us refl small.0 none (spelt us small.1.1) (spelt (v ∷ us) small.1)

undone : (us : List ℕ) → IsWhole us → utf16_of (utf8_of us) ≡ us
unfolding utf16_of utf8_of
undone us whole =
    let s = spelt us whole.small whole.paired in
    ap (flat_map encode_utf16) (chars-encodes (utf16_lossy_chars us) s.0) ∙ s.1

pub whole_keys_differ : WholeKeysDiffer
whole_keys_differ k l whole other same = sym (undone k whole) ∙ ap utf16_of same ∙ undone l other
