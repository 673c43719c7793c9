-- Each text is what its UTF-16 form spells.
use Rattle.std.proofs.Common.{◌≡◌, ℕ, ◌+◌, ◌-◌, ◌/◌, ◌%◌, ◌<◌, ◌≤◌, ◌⊎◌, true, List, [], ◌∷◌, ◌++◌, refl, ap, arith, inl, inr}
use Rattle.std.specs.Prelude.{flat_map, chars, IsUtf8, Some}
use Rattle.std.specs.Char.{IsScalar}
use Rattle.std.specs.Char.Escape.{encode_utf16}
use Rattle.std.specs.Char.Utf16.{utf16_chars, utf16_lossy_chars, surrogate_pair_char}
use Rattle.std.proofs.Math.Utf8.{scalar, scalars, scalar_cases}
use Rattle.std.proofs.lemmas.Bool.{cases_lt, lt-ltb, le-ltb, and_parts}
use Rattle.std.proofs.lemmas.Bool.Decides.{nat_tests}
use Rattle.std.proofs.lemmas.Str.{scalars-chars, encodes-chars, utf16_chars-nil}
use Rattle.cdp_text.specs.Units.{utf16_of, utf8_of}

-- a character below U+10000 that is no surrogate is in no pair
one_unit : (c : ℕ) (us : List ℕ) → (c < 0xD800) ⊎ (0xE000 ≤ c) → utf16_chars (c ∷ us) ≡ Some c ∷ utf16_chars us
unfolding utf16_chars
one_unit c [] h = grind (arith, nat_tests)
one_unit c (v ∷ us) h = grind (arith, nat_tests)

-- a pair spells its character
two_units : (h l : ℕ) (us : List ℕ)
    → 0xD800 ≤ h
    → h < 0xDC00
    → 0xDC00 ≤ l
    → l < 0xE000
    → utf16_chars (h ∷ l ∷ us) ≡ Some (surrogate_pair_char h l) ∷ utf16_chars us
unfolding utf16_chars
two_units h l us p q r s = grind (arith, nat_tests)

-- the units of a character spell it
utf16_chars-encode_utf16 : (c : ℕ) (us : List ℕ)
    → IsScalar c
    → utf16_chars (encode_utf16 c ++ us) ≡ Some c ∷ utf16_chars us
utf16_chars-encode_utf16 c us s =
    let h : (c < 0xD800) ⊎ ((0xE000 ≤ c) × (c < 0x11_0000)) = scalar_cases c s in
    elim (cases_lt c 0x1_0000) [
      | inl lt ↦ rw (lt-ltb c 0x1_0000 lt) (one_unit c us (grind arith))
      | inr ge ↦ rw (
        le-ltb c 0x1_0000 ge,
        two_units (0xD800 + (c - 0x1_0000) / 0x400) (0xDC00 + (c - 0x1_0000) % 0x400) us (omega arith)
            (omega arith) (omega arith) (omega arith),
      )
          (ap (λ d. Some d ∷ utf16_chars us) (omega arith))
    ]

-- the units of characters spell them
utf16_lossy_chars-flat_map : (cs : List ℕ) → scalars cs ≡ true → utf16_lossy_chars (flat_map encode_utf16 cs) ≡ cs
utf16_lossy_chars-flat_map [] s = rw utf16_chars-nil refl
utf16_lossy_chars-flat_map (c ∷ cs) s =
    let both = and_parts (scalar c) (scalars cs) s in
    rw (utf16_chars-encode_utf16 c (flat_map encode_utf16 cs) both.0)
    (ap (λ ds. c ∷ ds) (utf16_lossy_chars-flat_map cs both.1))

-- the UTF-16 form of a text spells that text
pub utf8_of-utf16_of : (bytes : List ℕ) → IsUtf8 bytes → utf8_of (utf16_of bytes) ≡ bytes
unfolding utf8_of utf16_of
utf8_of-utf16_of bytes u = rw (utf16_lossy_chars-flat_map (chars bytes) (scalars-chars bytes u)) (encodes-chars bytes u)
