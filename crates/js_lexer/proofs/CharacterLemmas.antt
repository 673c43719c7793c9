-- The characters of a string literal.
use Rattle.std.proofs.Common.{◌≡◌, ℕ, suc, ◌+◌, ◌<◌, ◌≤◌, Bool, true, false, not, cond, eqb, leb, List, [], ◌∷◌, ◌++◌, length, take, drop, Option, Some, None, refl, sym, ap, subst, ◌∙◌, append_assoc, arith, ◌&&◌, ◌||◌}
use Rattle.std.specs.List.{list_all}
use Rattle.std.proofs.lemmas.Bool.{eqb-true, leb-true, le-leb, and_parts}
use Rattle.std.proofs.lemmas.List.{take-append-drop, length-append, length-take}
use Rattle.std.proofs.Math.Seq.{take-add, take-append_seam, drop-append_seam}
use lib.Chars.{codes}
use Rattle.js_lexer.specs.declared.strings.Character.{Character}
use Rattle.cdp_text.specs.Position.{is_line_terminator}
use Rattle.js_lexer.specs.Classes.{begins, is_digit, leading}
use Rattle.js_lexer.specs.Numbers.{are_digits, digits_value}
use Rattle.js_lexer.specs.Strings.{is_plain, is_hex, is_single, single_value, IsCharacter}
use Rattle.js_lexer.specs.Strings.IsCharacter.{plain, continuation, both, single, nul, hex, unit, code_point}
use Rattle.js_lexer.specs.Characters.{found, hex_at, unit_at, code_point_at, unicode_at, escape_at, character_at}
use Rattle.js_lexer.proofs.LeadingLemmas.{leading_all, leading_within, leading_exact}

-- ---- what is found is a character

-- what is found at the front of these units, if anything, is a character
abbrev pub Good : ℕ → List ℕ → Option Character → Type 0
Good q us None = Unit {0}
Good q us (Some c) = (1 ≤ c.len) × (c.len ≤ length us) × IsCharacter q (take c.len us) c.value (drop c.len us)

good_hex : (q : ℕ) (us : List ℕ) → Good q (92 ∷ 120 ∷ us) (hex_at us)
good_hex q [] = tt
good_hex q (a ∷ []) = tt
good_hex q (a ∷ b ∷ us) = by_test (list_all is_hex (a ∷ b ∷ [])) refl
  where
    by_test : (t : Bool)
        → list_all is_hex (a ∷ b ∷ []) ≡ t
        → Good q (92 ∷ 120 ∷ a ∷ b ∷ us) (cond t (found 4 (Some (digits_value 16 0 (a ∷ b ∷ [])))) None)
    by_test true e = (omega arith, omega arith, hex a b refl refl e)
    by_test false e = tt

good_unit : (q : ℕ) (us : List ℕ) → Good q (92 ∷ 117 ∷ us) (unit_at us)
good_unit q [] = tt
good_unit q (a ∷ []) = tt
good_unit q (a ∷ b ∷ []) = tt
good_unit q (a ∷ b ∷ c ∷ []) = tt
good_unit q (a ∷ b ∷ c ∷ d ∷ us) = by_test (list_all is_hex (a ∷ b ∷ c ∷ d ∷ [])) refl
  where
    by_test : (t : Bool)
        → list_all is_hex (a ∷ b ∷ c ∷ d ∷ []) ≡ t
        → Good q (92 ∷ 117 ∷ a ∷ b ∷ c ∷ d ∷ us) (cond t (found 6 (Some (digits_value 16 0 (a ∷ b ∷ c ∷ d ∷ [])))) None)
    by_test true e = (omega arith, omega arith, unit a b c d refl refl e)
    by_test false e = tt

pub first_is : (c : ℕ) (us : List ℕ) → begins (λ d. eqb d c) us ≡ true → us ≡ c ∷ drop 1 us
first_is c [] e = absurd cc
first_is c (u ∷ us) e = ap (λ u. u ∷ us) (eqb-true u c e)

braced : (q n : ℕ) (us : List ℕ)
    → n ≤ length us
    → list_all is_hex (take n us) ≡ true
    → eqb n 0 ≡ false
    → begins (λ c. eqb c 125) (drop n us) ≡ true
    → digits_value 16 0 (take n us) ≤ 0x10FFFF
    → Good q (92 ∷ 117 ∷ 123 ∷ us) (found (n + 4) (Some (digits_value 16 0 (take n us))))
braced q n us w h z e l =
    let len : length (take n us) ≡ n = omega (arith, length-take n us) in
    let brace = first_is 125 (drop n us) e in
    let text : take (n + 1) us ≡ take n us ++ codes "}" = take-add n 1 us ∙ ap (λ l. take n us ++ take 1 l) brace in
    let fits : n + 1 ≤ length us = omega (
      arith,
      ap (λ (l : List ℕ). length l) brace,
      ap (λ (l : List ℕ). length l) (take-append-drop n us),
      length-append (take n us) (drop n us),
    )
    in
    let k : suc (suc (suc (n + 1))) ≡ n + 4 = omega arith in
    let some : not (eqb (length (take n us)) 0) ≡ true = rw (len, z) refl in
    subst (λ (k : ℕ). (1 ≤ k)
    × (k ≤ length (92 ∷ 117 ∷ 123 ∷ us))
    × IsCharacter q (take k (92 ∷ 117 ∷ 123 ∷ us)) (Some (digits_value 16 0 (take n us)))
    (drop k (92 ∷ 117 ∷ 123 ∷ us)))
    k
    (omega arith, omega arith, code_point (take n us) (ap (λ l. 92 ∷ 117 ∷ 123 ∷ l) text) refl (rw (h, some) refl) l)

good_code_point : (q : ℕ) (us : List ℕ) → Good q (92 ∷ 117 ∷ 123 ∷ us) (code_point_at us)
good_code_point q us = by_tests (leading is_hex us) (leading_within is_hex us) (leading_all is_hex us)
  where
    by_tests : (n : ℕ)
        → n ≤ length us
        → list_all is_hex (take n us) ≡ true
        → Good q (92 ∷ 117 ∷ 123 ∷ us)
        (let value : ℕ = digits_value 16 0 (take n us) in
        cond (not (eqb n 0) && begins (λ c. eqb c 125) (drop n us) && leb value 0x10FFFF)
        (found (n + 4) (Some value)) None)
    by_tests n w h =
        by_three (eqb n 0) refl (begins (λ c. eqb c 125) (drop n us)) refl
        (leb (digits_value 16 0 (take n us)) 0x10FFFF) refl
      where
        by_three : (x : Bool)
            → eqb n 0 ≡ x
            → (y : Bool)
            → begins (λ c. eqb c 125) (drop n us) ≡ y
            → (z : Bool)
            → leb (digits_value 16 0 (take n us)) 0x10FFFF ≡ z
            → Good q (92 ∷ 117 ∷ 123 ∷ us)
            (cond (not x && y && z) (found (n + 4) (Some (digits_value 16 0 (take n us)))) None)
        by_three true e y f z g = tt
        by_three false e false f z g = tt
        by_three false e true f false g = tt
        by_three false e true f true g = braced q n us w h e f (leb-true (digits_value 16 0 (take n us)) 0x10FFFF g)

good_unicode : (q : ℕ) (us : List ℕ) → Good q (92 ∷ 117 ∷ us) (unicode_at us)
good_unicode q [] = tt
good_unicode q (u ∷ us) = by_test (eqb u 123) refl
  where
    by_test : (b : Bool) → eqb u 123 ≡ b → Good q (92 ∷ 117 ∷ u ∷ us) (cond b (code_point_at us) (unit_at (u ∷ us)))
    by_test true e =
        subst (λ (u : ℕ). Good q (92 ∷ 117 ∷ u ∷ us) (code_point_at us)) (sym (eqb-true u 123 e)) (good_code_point q us)
    by_test false e = good_unit q (u ∷ us)

is_single_by : (d x u t : Bool) → d ≡ false → x ≡ false → u ≡ false → t ≡ false → not (d || x || u || t) ≡ true
is_single_by d x u t e f g h = rw (e, f, g, h) refl

good_escape : (q : ℕ) (us : List ℕ) → Good q (92 ∷ us) (escape_at us)
good_escape q [] = tt
good_escape q (c ∷ us) = by_zero (eqb c 48) refl
  where
    by_line : (b : Bool)
        → is_digit c ≡ false
        → eqb c 120 ≡ false
        → eqb c 117 ≡ false
        → ((eqb c 13) && begins (λ d. eqb d 10) us) ≡ false
        → is_line_terminator c ≡ b
        → Good q (92 ∷ c ∷ us) (cond b (found 2 None) (found 2 (Some (single_value c))))
    by_line true d x u r e = (omega arith, omega arith, continuation c refl refl e r)
    by_line false d x u r e = (
      omega arith,
      omega arith,
      single c refl refl (is_single_by (is_digit c) (eqb c 120) (eqb c 117) (is_line_terminator c) d x u e),
    )

    by_return : (r : Bool)
        → is_digit c ≡ false
        → eqb c 120 ≡ false
        → eqb c 117 ≡ false
        → ((eqb c 13) && begins (λ d. eqb d 10) us) ≡ r
        → Good q (92 ∷ c ∷ us)
        (cond r (found 3 None) (cond (is_line_terminator c) (found 2 None) (found 2 (Some (single_value c)))))
    by_return true d x u e =
        let a = and_parts (eqb c 13) (begins (λ d. eqb d 10) us) e in
        let l = first_is 10 us a.1 in
        let here : c ∷ us ≡ 13 ∷ 10 ∷ drop 1 us = ap (λ c. c ∷ us) (eqb-true c 13 a.0) ∙ ap (λ l. 13 ∷ l) l in
        subst (λ (l : List ℕ). Good q (92 ∷ l) (found 3 None)) (sym here) (omega arith, omega arith, both refl refl)
    by_return false d x u e = by_line (is_line_terminator c) d x u e refl

    by_u : (u : Bool)
        → is_digit c ≡ false
        → eqb c 120 ≡ false
        → eqb c 117 ≡ u
        → Good q (92 ∷ c ∷ us)
        (cond u (unicode_at us)
        (cond ((eqb c 13) && begins (λ d. eqb d 10) us) (found 3 None)
        (cond (is_line_terminator c) (found 2 None) (found 2 (Some (single_value c))))))
    by_u true d x e =
        subst (λ (c : ℕ). Good q (92 ∷ c ∷ us) (unicode_at us)) (sym (eqb-true c 117 e)) (good_unicode q us)
    by_u false d x e = by_return ((eqb c 13) && begins (λ d. eqb d 10) us) d x e refl

    by_x : (x : Bool)
        → is_digit c ≡ false
        → eqb c 120 ≡ x
        → Good q (92 ∷ c ∷ us)
        (cond x (hex_at us)
        (cond (eqb c 117) (unicode_at us)
        (cond ((eqb c 13) && begins (λ d. eqb d 10) us) (found 3 None)
        (cond (is_line_terminator c) (found 2 None) (found 2 (Some (single_value c)))))))
    by_x true d e = subst (λ (c : ℕ). Good q (92 ∷ c ∷ us) (hex_at us)) (sym (eqb-true c 120 e)) (good_hex q us)
    by_x false d e = by_u (eqb c 117) d e refl

    by_digit : (d : Bool)
        → is_digit c ≡ d
        → Good q (92 ∷ c ∷ us)
        (cond d None
        (cond (eqb c 120) (hex_at us)
        (cond (eqb c 117) (unicode_at us)
        (cond ((eqb c 13) && begins (λ d. eqb d 10) us) (found 3 None)
        (cond (is_line_terminator c) (found 2 None) (found 2 (Some (single_value c))))))))
    by_digit true e = tt
    by_digit false e = by_x (eqb c 120) e refl

    by_next : (n : Bool)
        → eqb c 48 ≡ true
        → begins is_digit us ≡ n
        → Good q (92 ∷ c ∷ us) (cond n None (found 2 (Some 0)))
    by_next true z e = tt
    by_next false z e = (omega arith, omega arith, nul (ap (λ c. 92 ∷ c ∷ []) (eqb-true c 48 z)) refl e)

    by_zero : (z : Bool)
        → eqb c 48 ≡ z
        → Good q (92 ∷ c ∷ us)
        (cond z (cond (begins is_digit us) None (found 2 (Some 0)))
        (cond (is_digit c) None
        (cond (eqb c 120) (hex_at us)
        (cond (eqb c 117) (unicode_at us)
        (cond ((eqb c 13) && begins (λ d. eqb d 10) us) (found 3 None)
        (cond (is_line_terminator c) (found 2 None) (found 2 (Some (single_value c)))))))))
    by_zero true e = by_next (begins is_digit us) e refl
    by_zero false e = by_digit (is_digit c) refl

pub good_character : (q : ℕ) (us : List ℕ) → Good q us (character_at q us)
good_character q [] = tt
good_character q (c ∷ us) = by_tests (eqb c 92) refl (is_plain q c) refl
  where
    by_tests : (a : Bool)
        → eqb c 92 ≡ a
        → (b : Bool)
        → is_plain q c ≡ b
        → Good q (c ∷ us) (cond a (escape_at us) (cond b (found 1 (Some c)) None))
    by_tests true e b f = subst (λ (c : ℕ). Good q (c ∷ us) (escape_at us)) (sym (eqb-true c 92 e)) (good_escape q us)
    by_tests false e true f = (omega arith, omega arith, plain c refl refl f)
    by_tests false e false f = tt

-- ---- each character is found

-- this character is found at the front
abbrev pub IsFound : ℕ → List ℕ → Option ℕ → List ℕ → Type 0
IsFound q t v m = (0 < length t) × (character_at q (t ++ m) ≡ found (length t) v)

plain_known : (q c : ℕ) (m : List ℕ) → is_plain q c ≡ true → IsFound q (c ∷ []) (Some c) m
plain_known q c m e = (omega arith, by_tests (eqb c q) (eqb c 92) (eqb c 10) (eqb c 13) e)
  where
    by_tests : (a b x y : Bool)
        → not (a || b || x || y) ≡ true
        → cond b (escape_at m) (cond (not (a || b || x || y)) (found 1 (Some c)) None) ≡ found 1 (Some c)
    by_tests true b x y e = absurd cc
    by_tests false true x y e = absurd cc
    by_tests false false x y e = rw e refl

-- which unit a line terminator is
line_cases : (c : ℕ) (P : ℕ → Type 0) → is_line_terminator c ≡ true → P 10 → (c ≡ 13 → P 13) → P 0x2028 → P 0x2029 → P c
line_cases c P e f g h k = by_tests (eqb c 10) refl (eqb c 13) refl (eqb c 0x2028) refl (eqb c 0x2029) refl e
  where
    by_tests : (a : Bool)
        → eqb c 10 ≡ a
        → (b : Bool)
        → eqb c 13 ≡ b
        → (x : Bool)
        → eqb c 0x2028 ≡ x
        → (y : Bool)
        → eqb c 0x2029 ≡ y
        → (a || b || x || y) ≡ true
        → P c
    by_tests true p b q x r y s t = subst P (sym (eqb-true c 10 p)) f
    by_tests false p true q x r y s t = subst P (sym (eqb-true c 13 q)) (g (eqb-true c 13 q))
    by_tests false p false q true r y s t = subst P (sym (eqb-true c 0x2028 r)) h
    by_tests false p false q false r true s t = subst P (sym (eqb-true c 0x2029 s)) k
    by_tests false p false q false r false s t = absurd cc

continuation_known : (q c : ℕ) (m : List ℕ)
    → is_line_terminator c ≡ true
    → ((eqb c 13) && begins (λ d. eqb d 10) m) ≡ false
    → IsFound q (92 ∷ c ∷ []) None m
continuation_known q c m e f =
    line_cases c (λ c. IsFound q (92 ∷ c ∷ []) None m) e (omega arith, refl) (λ p. (omega arith, by_next p f))
    (omega arith, refl) (omega arith, refl)
  where
    by_next : c ≡ 13
        → ((eqb c 13) && begins (λ d. eqb d 10) m) ≡ false
        → cond (begins (λ d. eqb d 10) m) (found 3 None) (found 2 None) ≡ found 2 None
    by_next p f =
        let g : begins (λ d. eqb d 10) m ≡ false = subst (λ (c : ℕ). ((eqb c 13) && begins (λ d. eqb d 10) m) ≡ false)
        p f in
        rw g refl

-- a unit that fails a test is not one that passes it
apart : (p : ℕ → Bool) (c d : ℕ) → p c ≡ false → p d ≡ true → eqb c d ≡ false
apart p c d e f = by_test (eqb c d) refl
  where
    by_test : (b : Bool) → eqb c d ≡ b → b ≡ false
    by_test true g = let h : p c ≡ p d = ap p (eqb-true c d g) in absurd cc
    by_test false g = refl

single_known : (q c : ℕ) (m : List ℕ) → is_single c ≡ true → IsFound q (92 ∷ c ∷ []) (Some (single_value c)) m
single_known q c m e =
    (omega arith, by_tests (is_digit c) refl (eqb c 120) refl (eqb c 117) refl (is_line_terminator c) refl e)
  where
    by_tests : (d : Bool)
        → is_digit c ≡ d
        → (x : Bool)
        → eqb c 120 ≡ x
        → (u : Bool)
        → eqb c 117 ≡ u
        → (t : Bool)
        → is_line_terminator c ≡ t
        → not (d || x || u || t) ≡ true
        → escape_at (c ∷ m) ≡ found 2 (Some (single_value c))
    by_tests true f x g u h t k e = absurd cc
    by_tests false f true g u h t k e = absurd cc
    by_tests false f false g true h t k e = absurd cc
    by_tests false f false g false h true k e = absurd cc
    by_tests false f false g false h false k e =
        let z : eqb c 48 ≡ false = apart is_digit c 48 f refl in
        let r : eqb c 13 ≡ false = apart is_line_terminator c 13 k refl in
        rw (z, f, g, h, k, r) refl

unit_known : (q a b c d : ℕ) (m : List ℕ)
    → list_all is_hex (a ∷ b ∷ c ∷ d ∷ []) ≡ true
    → IsFound q (92 ∷ 117 ∷ a ∷ b ∷ c ∷ d ∷ []) (Some (digits_value 16 0 (a ∷ b ∷ c ∷ d ∷ []))) m
unit_known q a b c d m e = (omega arith, by_brace (eqb a 123) refl)
  where
    by_brace : (t : Bool)
        → eqb a 123 ≡ t
        → cond t (code_point_at (b ∷ c ∷ d ∷ m)) (unit_at (a ∷ b ∷ c ∷ d ∷ m)) ≡ found 6
        (Some (digits_value 16 0 (a ∷ b ∷ c ∷ d ∷ [])))
    by_brace true f =
        let h : is_hex a ≡ is_hex 123 = ap is_hex (eqb-true a 123 f) in
        let g = (and_parts (is_hex a) (list_all is_hex (b ∷ c ∷ d ∷ [])) e).0 in
        absurd cc
    by_brace false f = rw e refl

code_point_known : (q : ℕ) (ds m : List ℕ)
    → are_digits 16 ds ≡ true
    → digits_value 16 0 ds ≤ 0x10FFFF
    → IsFound q (92 ∷ 117 ∷ 123 ∷ (ds ++ codes "}")) (Some (digits_value 16 0 ds)) m
code_point_known q ds m e h =
    let a = and_parts (list_all is_hex ds) (not (eqb (length ds) 0)) e in
    let joined : (ds ++ codes "}") ++ m ≡ ds ++ (125 ∷ m) = append_assoc ds (codes "}") m in
    let n : leading is_hex (ds ++ (125 ∷ m)) ≡ length ds = leading_exact is_hex ds (125 ∷ m) a.0 refl in
    let front : take (length ds) (ds ++ (125 ∷ m)) ≡ ds = take-append_seam ds (125 ∷ m) in
    let back : drop (length ds) (ds ++ (125 ∷ m)) ≡ 125 ∷ m = drop-append_seam ds (125 ∷ m) in
    let small : leb (digits_value 16 0 ds) 0x10FFFF ≡ true = le-leb (digits_value 16 0 ds) 0x10FFFF h in
    let len : length ds + 4 ≡ suc (suc (suc (length (ds ++ codes "}")))) = omega (arith, length-append ds (codes "}"))
    in
    let here : code_point_at (ds ++ (125 ∷ m)) ≡ found (length ds + 4) (Some (digits_value 16 0 ds)) = rw
    (n, front, back, a.1, small) refl in
    (omega arith, ap code_point_at joined ∙ here ∙ ap (λ n. found n (Some (digits_value 16 0 ds))) len)

pub character_known : (q : ℕ) (t : List ℕ) (v : Option ℕ) (m : List ℕ) → IsCharacter q t v m → IsFound q t v m
character_known q t v m (plain c e f g) = rw (e, f) (plain_known q c m g)
character_known q t v m (continuation c e f g h) = rw (e, f) (continuation_known q c m g h)
character_known q t v m (both e f) = rw (e, f) (omega arith, refl)
character_known q t v m (single c e f g) = rw (e, f) (single_known q c m g)
character_known q t v m (nul e f g) = rw (e, f, g) (omega arith, refl)
character_known q t v m (hex a b e f g) = rw (e, f, g) (omega arith, refl)
character_known q t v m (unit a b c d e f g) = rw (e, f) (unit_known q a b c d m g)
character_known q t v m (code_point ds e f g h) = rw (e, f) (code_point_known q ds m g h)
