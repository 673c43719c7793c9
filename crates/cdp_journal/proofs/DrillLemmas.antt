-- The text of a drill's script, how often it stops, and the text of its journal.
use Rattle.std.proofs.Common.{◌≡◌, ℕ, zero, suc, ◌+◌, ◌-◌, ◌≤◌, ◌/◌, ◌%◌, ◌==◌, List, [], ◌∷◌, ◌++◌, map, count_by, Bool, true, false, refl, ap, sym, ◌∙◌, append_assoc, arith, codes, decimal, if◌then◌else◌}
use Rattle.std.specs.Fmt.{digits}
use Rattle.std.specs.Int.{div_ceil}
use Rattle.std.specs.List.{flat_map, range_with_len}
use Rattle.std.proofs.lemmas.Bool.{eqb-true, eqb-false}
use Rattle.std.proofs.lemmas.List.{flat_map_more, map-append}
use Rattle.std.proofs.lemmas.List.Sums.{sum_by_push}
use Rattle.cdp_text.specs.Lines.{ended}
use Rattle.cdp_journal.specs.Lines.{Line, line_text}
use Rattle.cdp_journal.specs.Drills.{drill_closing, drill_journal, drill_opening, drill_source, drill_steps, drill_turn, evens, is_even}
use Rattle.cdp_text.proofs.ListLemmas.{range-more}

-- ---- the script

pub source-is : (n : ℕ)
    → codes "let t = 0;\nfunction f(i) {\n  t = t + i;\n  return t;\n}\nfor (let i = 0; i < "
    ++ (decimal n ++ codes "; i++) {\n  f(i);\n}\nconsole.log(t);\n")
    ≡ drill_source n
unfolding drill_source
source-is n =
    ap (λ xs. codes "let t = 0;\nfunction f(i) {\n  t = t + i;\n  return t;\n}\nfor (let i = 0; i < " ++ xs)
    (sym (append_assoc (decimal n) (codes "; i++) {") (codes "\n  f(i);\n}\nconsole.log(t);\n")))

-- ---- how often it stops

half-more : (b : Bool) (n : ℕ) → (n % 2 == 0) ≡ b → (n + 1) / 2 + (if b then 1 else 0) ≡ (suc n + 1) / 2
half-more true n is = let e = eqb-true (n % 2) 0 is in omega arith
half-more false n is = let e = eqb-false (n % 2) 0 is in omega arith

pub evens-half : (n : ℕ) → evens n ≡ (n + 1) / 2
unfolding evens
evens-half zero = refl
evens-half (suc n) =
    ap (count_by is_even) (range-more 0 n)
    ∙ sum_by_push (λ i. if is_even i then 1 else 0) (range_with_len 0 n) (0 + n)
    ∙ ap (λ k. count_by is_even (range_with_len 0 n) + (if is_even k then 1 else 0)) (omega arith)
    ∙ ap (λ k. k + (if is_even n then 1 else 0)) (evens-half n)
    ∙ half-more (n % 2 == 0) n refl

pub evens-ceil : (n : ℕ) → div_ceil n 2 ≡ evens n
evens-ceil n = rw (evens-half n) (omega arith)

-- ---- the journal

pub ended-append : (xs ys : List (List ℕ)) → ended (xs ++ ys) ≡ ended xs ++ ended ys
ended-append [] ys = refl
ended-append (x ∷ xs) ys =
    ap (λ rest. x ++ 10 ∷ rest) (ended-append xs ys) ∙ sym (append_assoc x (10 ∷ ended xs) (ended ys))

-- the text of lines
abbrev pub text_of : List Line → List ℕ
text_of lines = ended (map line_text lines)

text_of-append : (xs ys : List Line) → text_of (xs ++ ys) ≡ text_of xs ++ text_of ys
text_of-append xs ys = ap ended (map-append line_text xs ys) ∙ ended-append (map line_text xs) (map line_text ys)

-- the text up to the last of so many turns
abbrev pub turned : ℕ → List ℕ
turned turns = text_of (drill_opening ++ flat_map drill_turn (range_with_len 1 turns))

turned-more : (turns : ℕ) → turned turns ++ text_of (drill_turn (1 + turns)) ≡ turned (suc turns)
turned-more turns =
    sym (text_of-append (drill_opening ++ flat_map drill_turn (range_with_len 1 turns)) (drill_turn (1 + turns)))
    ∙ ap text_of (flat_map_more drill_turn drill_opening (range_with_len 1 turns) (1 + turns))
    ∙ ap (λ moments. text_of (drill_opening ++ flat_map drill_turn moments)) (sym (range-more 1 turns))

-- one turn more
pub turned-next : (moment : ℕ) → 1 ≤ moment
    → turned (moment - 1) ++ text_of (drill_turn moment) ≡ turned (moment + 1 - 1)
turned-next moment first =
    let this : moment ≡ 1 + (moment - 1) = omega (arith, first) in
    let next : suc (moment - 1) ≡ moment + 1 - 1 = omega (arith, first) in
    ap (λ m. turned (moment - 1) ++ text_of (drill_turn m)) this ∙ turned-more (moment - 1) ∙ ap turned next

closing-is : text_of drill_closing ≡ codes "take 1\ntake 2\n"
unfolding digits
closing-is = refl

-- and the end
pub turned-last : (n moment : ℕ) → moment ≡ evens n + 2
    → turned (moment - 1) ++ codes "take 1\ntake 2\n" ≡ drill_journal n
unfolding drill_journal drill_steps
turned-last n moment last =
    let turns : List Line = flat_map drill_turn (range_with_len 1 (evens n + 1)) in
    let all : moment - 1 ≡ evens n + 1 = omega (arith, last) in
    ap (λ k. turned k ++ codes "take 1\ntake 2\n") all
    ∙ ap (λ rest. text_of (drill_opening ++ turns) ++ rest) (sym closing-is)
    ∙ sym (text_of-append (drill_opening ++ turns) drill_closing)
    ∙ ap text_of (append_assoc drill_opening turns drill_closing)
