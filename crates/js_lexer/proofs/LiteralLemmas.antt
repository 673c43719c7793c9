-- String literals.
use Rattle.std.proofs.Common.{◌≡◌, ℕ, zero, suc, ◌+◌, ◌-◌, ◌≤◌, Bool, true, false, eqb, List, [], ◌∷◌, ◌++◌, length, take, drop, map, Option, Some, None, refl, sym, ap, subst, ◌∙◌, append_assoc, eq-eqb, arith, ◌||◌}
use Rattle.std.specs.List.{concat}
use Rattle.std.proofs.lemmas.Bool.{eqb-true}
use Rattle.std.proofs.lemmas.List.{take-append-drop, length-append, length-take}
use Rattle.std.proofs.Math.Seq.{take-add, drop-append_seam}
use Rattle.js_lexer.specs.declared.strings.Character.{Character}
use Rattle.js_lexer.specs.Classes.{begins, is_digit, is_quote}
use Rattle.js_lexer.specs.Pieces.{Each, run}
use Rattle.js_lexer.specs.Strings.{IsCharacter, Spelled, spelling, AreCharacters, units_of, IsString, IsStringLiteral}
use Rattle.js_lexer.specs.Strings.IsCharacter.{plain, continuation, both, single, nul, hex, unit, code_point}
use Rattle.js_lexer.specs.Characters.{character_at, found_len, character_len, decoded, decoded_by, string_value}
use Rattle.js_lexer.proofs.RunLemmas.{IsRun, Finds, Knows, run_is, run_exact}
use Rattle.js_lexer.proofs.CharacterLemmas.{Good, good_character, first_is, character_known}

-- a piece of a string literal: a character, whatever it stands for
abbrev pub IsPart : ℕ → List ℕ → List ℕ → Type 0
IsPart q text next = (value : Option ℕ) × IsCharacter q text value next

parts_found : (q : ℕ) → Finds (IsPart q) (character_len q)
parts_found q us n e = by_found (character_at q us) (good_character q us) e
  where
    by_found : (o : Option Character)
        → Good q us o
        → found_len o ≡ suc n
        → (suc n ≤ length us) × IsPart q (take (suc n) us) (drop (suc n) us)
    by_found None h e = absurd cc
    by_found (Some c) h e =
        subst (λ (k : ℕ). (k ≤ length us) × IsPart q (take k us) (drop k us)) e (h.1, (c.value, h.2))

parts_known : (q : ℕ) → Knows (IsPart q) (character_len q)
parts_known q t m h = let k = character_known q t h.0 m h.1 in (k.0, ap found_len k.1)

-- ---- what follows matters by its first unit alone

same_first : (p : ℕ → Bool) (x a b : List ℕ) (c : ℕ) → begins p (x ++ (c ∷ a)) ≡ begins p (x ++ (c ∷ b))
same_first p [] a b c = refl
same_first p (u ∷ x) a b c = refl

next_only : (q : ℕ) (t : List ℕ) (v : Option ℕ) (x a b : List ℕ) (c : ℕ)
    → IsCharacter q t v (x ++ (c ∷ a))
    → IsCharacter q t v (x ++ (c ∷ b))
next_only q t v x a b c (plain d e f g) = plain d e f g
next_only q t v x a b c (continuation d e f g h) = continuation d e f g (rw (same_first (λ y. eqb y 10) x b a c) h)
next_only q t v x a b c (both e f) = both e f
next_only q t v x a b c (single d e f g) = single d e f g
next_only q t v x a b c (nul e f g) = nul e f (same_first is_digit x b a c ∙ g)
next_only q t v x a b c (hex d d' e f g) = hex d d' e f g
next_only q t v x a b c (unit d d' d'' d3 e f g) = unit d d' d'' d3 e f g
next_only q t v x a b c (code_point ds e f g h) = code_point ds e f g h

parts_before : (q : ℕ) (ts : List (List ℕ)) (a b : List ℕ) (c : ℕ)
    → Each (IsPart q) ts (c ∷ a)
    → Each (IsPart q) ts (c ∷ b)
parts_before q [] a b c h = tt
parts_before q (t ∷ ts) a b c h = ((h.0.0, next_only q t h.0.0 (concat ts) a b c h.0.1), parts_before q ts a b c h.1)

-- ---- parts as characters with what they stand for

pub record HasCharacters (q : ℕ) (ts : List (List ℕ)) (more : List ℕ) : Type 0 where
  pub characters : List Spelled
  pub same : spelling characters ≡ concat ts
  pub each : AreCharacters q characters more

with_values : (q : ℕ) (ts : List (List ℕ)) (more : List ℕ) → Each (IsPart q) ts more → HasCharacters q ts more
with_values q [] more h = record { characters = []; same = refl; each = tt }
with_values q (t ∷ ts) more h =
    let r = with_values q ts more h.1 in
    record {
      characters = record { text = t; value = h.0.0 } ∷ r.characters;
      same = ap (λ l. t ++ l) r.same;
      each = (rw r.same h.0.1, r.each);
    }

without_values : (q : ℕ) (cs : List Spelled) (more : List ℕ)
    → AreCharacters q cs more
    → Each (IsPart q) (map (λ c. c.text) cs) more
without_values q [] more h = tt
without_values q (c ∷ cs) more h = ((c.value, h.0), without_values q cs more h.1)

-- ---- what a literal stands for

decoded_skips : (q k : ℕ) (us : List ℕ) → k ≤ length us → decoded q k us ≡ decoded q 0 (drop k us)
decoded_skips q zero us h = refl
decoded_skips q (suc k) [] h = absurd (omega arith)
decoded_skips q (suc k) (u ∷ us) h = decoded_skips q k us (omega arith)

pub decoded_stops : (q : ℕ) (us : List ℕ) → character_at q us ≡ None → decoded q 0 us ≡ []
decoded_stops q [] e = refl
decoded_stops q (u ∷ us) e = ap (decoded_by (λ n. decoded q (n - 1) us)) e

pub decoded_more : (q : ℕ) (us : List ℕ) (c : Character)
    → character_at q us ≡ Some c
    → 1 ≤ c.len
    → c.len ≤ length us
    → decoded q 0 us ≡ units_of c.value ++ decoded q 0 (drop c.len us)
decoded_more q [] c e p l = absurd (omega arith)
decoded_more q (u ∷ us) c e p l =
    let k : suc (c.len - 1) ≡ c.len = omega arith in
    ap (decoded_by (λ n. decoded q (n - 1) us)) e
    ∙ ap (λ w. units_of c.value ++ w)
    (decoded_skips q (c.len - 1) us (omega arith) ∙ ap (λ n. decoded q 0 (drop n (u ∷ us))) k)

decoded_exact : (q : ℕ) (cs : List Spelled) (m : List ℕ)
    → AreCharacters q cs m
    → character_at q m ≡ None
    → decoded q 0 (spelling cs ++ m) ≡ concat (map (λ c. units_of c.value) cs)
decoded_exact q [] m h z = decoded_stops q m z
decoded_exact q (c ∷ cs) m h z =
    let k = character_known q c.text c.value (spelling cs ++ m) h.0 in
    let joined : (c.text ++ spelling cs) ++ m ≡ c.text ++ (spelling cs ++ m) = append_assoc c.text (spelling cs) m in
    let some : 1 ≤ length c.text = k.0 in
    let more = decoded_more q (c.text ++ (spelling cs ++ m)) (record { len = length c.text; value = c.value }) k.1 some
    (omega (arith, length-append c.text (spelling cs ++ m))) in
    ap (decoded q 0) joined
    ∙ more
    ∙ ap (λ w. units_of c.value ++ w)
    (ap (decoded q 0) (drop-append_seam c.text (spelling cs ++ m)) ∙ decoded_exact q cs m h.1 z)

-- no character begins with the literal's quote
quote_ends : (q : ℕ) (m : List ℕ) → is_quote q ≡ true → character_at q (q ∷ m) ≡ None
quote_ends q m e = by_tests (eqb q 34) refl (eqb q 39) refl e
  where
    by_tests : (a : Bool) → eqb q 34 ≡ a → (b : Bool) → eqb q 39 ≡ b → (a || b) ≡ true → character_at q (q ∷ m) ≡ None
    by_tests true f b g e = subst (λ (q : ℕ). character_at q (q ∷ m) ≡ None) (sym (eqb-true q 34 f)) refl
    by_tests false f true g e = subst (λ (q : ℕ). character_at q (q ∷ m) ≡ None) (sym (eqb-true q 39 g)) refl
    by_tests false f false g e = absurd cc

-- a literal stands for what its value says, and for nothing else
pub value_is : (text value : List ℕ) → IsString text value → string_value text ≡ value
value_is text value h =
    ap string_value h.spelled
    ∙ decoded_exact h.quote h.characters (h.quote ∷ []) h.each (quote_ends h.quote [] h.quoted)
    ∙ sym h.stands_for

pub literal_value : (text : List ℕ) → IsStringLiteral text → IsString text (string_value text)
literal_value text h = subst (λ (v : List ℕ). IsString text v) (sym (value_is text h.0 h.1)) h.1

-- ---- where a literal ends

-- so many characters behind a quote, and then the quote, are a literal
pub literal_found : (q n : ℕ) (us : List ℕ)
    → is_quote q ≡ true
    → run (character_len q) 0 us ≡ n
    → begins (λ c. eqb c q) (drop n us) ≡ true
    → (n + 2 ≤ length (q ∷ us)) × IsStringLiteral (take (n + 2) (q ∷ us))
literal_found q n us e r f =
    let is : IsRun (IsPart q) (character_len q) us n = subst (λ (n : ℕ). IsRun (IsPart q) (character_len q) us n) r
    (run_is (IsPart q) (character_len q) (parts_found q) us) in
    let rest : drop n us ≡ q ∷ drop 1 (drop n us) = first_is q (drop n us) f in
    let each : Each (IsPart q) is.made.pieces (q ∷ []) = parts_before q is.made.pieces (drop 1 (drop n us)) [] q
    (subst (λ (l : List ℕ). Each (IsPart q) is.made.pieces l) rest is.made.each) in
    let values = with_values q is.made.pieces (q ∷ []) each in
    let fits : n + 1 ≤ length us = omega (
      arith,
      ap (λ (l : List ℕ). length l) rest,
      ap (λ (l : List ℕ). length l) (take-append-drop n us),
      length-append (take n us) (drop n us),
      length-take n us,
    )
    in
    let body : take (n + 1) us ≡ spelling values.characters ++ (q ∷ []) = take-add n 1 us
    ∙ ap (λ l. take n us ++ take 1 l) rest
    ∙ ap (λ l. l ++ (q ∷ [])) (is.made.joined ∙ sym values.same) in
    let k : suc (n + 1) ≡ n + 2 = omega arith in (
      omega arith,
      subst (λ (k : ℕ). IsStringLiteral (take k (q ∷ us))) k (
        concat (map (λ c. units_of c.value) values.characters),
        record {
          quote = q;
          characters = values.characters;
          quoted = e;
          spelled = ap (λ l. q ∷ l) body;
          each = values.each;
          stands_for = refl;
        },
      ),
    )

-- its characters go up to its last quote
literal_run : (q : ℕ) (cs : List Spelled) (m : List ℕ)
    → is_quote q ≡ true
    → AreCharacters q cs (q ∷ [])
    → run (character_len q) 0 (spelling cs ++ (q ∷ m)) ≡ length (spelling cs)
literal_run q cs m e h =
    run_exact (IsPart q) (character_len q) (parts_known q) (map (λ c. c.text) cs) (q ∷ m)
    (parts_before q (map (λ c. c.text) cs) [] m q (without_values q cs (q ∷ []) h))
    (ap found_len (quote_ends q m e))

-- so many units behind this quote are characters, and then the quote stands
abbrev EndsAt : ℕ → List ℕ → ℕ → Type 0
EndsAt q us n =
    (n ≡ run (character_len q) 0 us + 2) × (begins (λ c. eqb c q) (drop (run (character_len q) 0 us) us) ≡ true)

literal_ends : (q : ℕ) (cs : List Spelled) (m : List ℕ)
    → is_quote q ≡ true
    → AreCharacters q cs (q ∷ [])
    → EndsAt q (spelling cs ++ (q ∷ m)) (length (spelling cs) + 2)
literal_ends q cs m e h =
    let n = literal_run q cs m e h in
    let rest : drop (length (spelling cs)) (spelling cs ++ (q ∷ m)) ≡ q ∷ m = drop-append_seam (spelling cs) (q ∷ m) in
    (ap (λ n. n + 2) (sym n), rw (n, rest) (eq-eqb q q refl))

-- and a literal that stands at the front ends there
pub literal_known : (q : ℕ) (us t m : List ℕ) → q ∷ us ≡ t ++ m → IsStringLiteral t → EndsAt q us (length t)
literal_known q us t m p h =
    let s = h.1 in
    let w : q ∷ us ≡ s.quote ∷ ((spelling s.characters ++ (s.quote ∷ [])) ++ m) = p ∙ ap (λ t. t ++ m) s.spelled in
    let same : s.quote ≡ q = cc in
    let front : us ≡ (spelling s.characters ++ (s.quote ∷ [])) ++ m = cc in
    let body : us ≡ spelling s.characters ++ (s.quote ∷ m) = front
    ∙ append_assoc (spelling s.characters) (s.quote ∷ []) m in
    let len : length (spelling s.characters) + 2 ≡ length t = omega
    (arith, ap (λ (l : List ℕ). length l) s.spelled, length-append (spelling s.characters) (s.quote ∷ [])) in
    let ends = literal_ends s.quote s.characters m s.quoted s.each in
    subst (λ (n : ℕ). EndsAt q us n) len
    (subst (λ (l : List ℕ). EndsAt q l (length (spelling s.characters) + 2)) (sym body)
    (subst (λ (c : ℕ). EndsAt c (spelling s.characters ++ (s.quote ∷ m)) (length (spelling s.characters) + 2))
    same ends))

-- what a literal begins with
pub literal_begins : (t : List ℕ) → IsStringLiteral t → begins is_quote t ≡ true
literal_begins t h = ap (begins is_quote) h.1.spelled ∙ h.1.quoted

pub ruleset decoded_steps = (decoded_stops, decoded_more, literal_value, append_assoc)
