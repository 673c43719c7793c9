-- What lines come to, one line after another.
use Rattle.std.proofs.Common.{◌≡◌, ℕ, suc, ◌+◌, ◌*◌, ◌<◌, ◌≤◌, ◌^◌, List, [], ◌∷◌, ◌++◌, length, map, Bool, true, false, ◌==◌, Option, Some, None, option_to_list, refl, ap, sym, subst, ◌∙◌, append_assoc, append-nil, arith, codes, if◌then◌else◌, length-append}
use Rattle.std.specs.List.{cons_option, count_by, filter_map, sum, sum_by}
use Rattle.std.specs.Option.{option_map}
use Rattle.std.proofs.lemmas.List.{map-append}
use Rattle.std.proofs.lemmas.List.Elements.{filter_map-append}
use Rattle.std.proofs.lemmas.List.Sums.{count_by-le-length, sum_by-append, sum-map}
use Rattle.std.proofs.lemmas.Option.{none-some, option_and_then_some, same_Some}
use Rattle.cdp_text.specs.Decimal.{decimal_value}
use Rattle.cdp_text.specs.Lines.{begun_with, ended, lines_of}
use Rattle.cdp_text.specs.Parts.{behind, halves}
use Rattle.cdp_text.proofs.DecimalLemmas.{decimal_value-some}
use Rattle.cdp_journal.specs.Fronts.{behind_each}
use Rattle.cdp_journal.specs.Summaries.{IsInRange, RunLine, Tally, both, is_paused, printed_lines, ran_in, ran_of, runs_of, summary, tally_of, tally_text}
use Rattle.cdp_journal.proofs.DrillLemmas.{ended-append}
use Rattle.cdp_journal.proofs.RunLines.{fronted}

-- ---- tallies

-- a tally of its parts
abbrev made : List ℕ → ℕ → ℕ → ℕ → ℕ → Tally
made printed steps stops first second = record {
  printed = printed;
  steps = steps;
  stops = stops;
  first = first;
  second = second;
}

same-tally : (s t : Tally) → s.printed ≡ t.printed → s.steps ≡ t.steps → s.stops ≡ t.stops → s.first ≡ t.first
    → s.second ≡ t.second → s ≡ t
same-tally s t printed steps stops first second =
    ap (λ x. made x s.steps s.stops s.first s.second) printed
    ∙ ap (λ x. made t.printed x s.stops s.first s.second) steps
    ∙ ap (λ x. made t.printed t.steps x s.first s.second) stops
    ∙ ap (λ x. made t.printed t.steps t.stops x s.second) first
    ∙ ap (λ x. made t.printed t.steps t.stops t.first x) second

both-nothing : (t : Tally) → both t (tally_of []) ≡ t
both-nothing t =
    same-tally (both t (tally_of [])) t (append-nil t.printed) (omega arith) (omega arith) (omega arith) (omega arith)

both-assoc : (s t u : Tally) → both (both s t) u ≡ both s (both t u)
both-assoc s t u =
    same-tally (both (both s t) u) (both s (both t u))
    (append_assoc s.printed t.printed u.printed)
    (omega arith)
    (omega arith)
    (omega arith)
    (omega arith)

-- what stands behind a front on the lines of two lists
each-append : (front : List ℕ) (xs ys : List (List ℕ))
    → behind_each front (xs ++ ys) ≡ behind_each front xs ++ behind_each front ys
each-append front [] ys = refl
each-append front (x ∷ xs) ys =
    ap (λ rest. option_to_list (behind front x) ++ rest) (each-append front xs ys)
    ∙ sym (append_assoc (option_to_list (behind front x)) (behind_each front xs) (behind_each front ys))

printed-append : (xs ys : List (List ℕ))
    → ended (printed_lines (xs ++ ys)) ≡ ended (printed_lines xs) ++ ended (printed_lines ys)
printed-append xs ys =
    ap (λ texts. ended (map fronted texts)) (each-append (codes "out ") xs ys)
    ∙ ap ended (map-append fronted (behind_each (codes "out ") xs) (behind_each (codes "out ") ys))
    ∙ ended-append (printed_lines xs) (printed_lines ys)

runs-append : (xs ys : List (List ℕ)) → runs_of (xs ++ ys) ≡ runs_of xs ++ runs_of ys
runs-append xs ys =
    ap (filter_map ran_of) (each-append (codes "ran ") xs ys)
    ∙ filter_map-append ran_of (behind_each (codes "ran ") xs) (behind_each (codes "ran ") ys)

-- how many steps runs made
abbrev steps_of : List RunLine → ℕ
steps_of runs = sum (map (λ run. run.steps) runs)

steps-append : (xs ys : List RunLine) → steps_of (xs ++ ys) ≡ steps_of xs + steps_of ys
steps-append xs ys =
    sum-map (λ run. run.steps) (xs ++ ys)
    ∙ sum_by-append (λ run. run.steps) xs ys
    ∙ ap (λ n. n + sum_by (λ run. run.steps) ys) (sym (sum-map (λ run. run.steps) xs))
    ∙ ap (λ n. steps_of xs + n) (sym (sum-map (λ run. run.steps) ys))

length-each : (front : List ℕ) (xs ys : List (List ℕ))
    → length (behind_each front (xs ++ ys)) ≡ length (behind_each front xs) + length (behind_each front ys)
length-each front xs ys =
    ap length (each-append front xs ys) ∙ length-append (behind_each front xs) (behind_each front ys)

pub tally-append : (xs ys : List (List ℕ)) → tally_of (xs ++ ys) ≡ both (tally_of xs) (tally_of ys)
tally-append xs ys =
    same-tally (tally_of (xs ++ ys)) (both (tally_of xs) (tally_of ys))
    (printed-append xs ys)
    (ap steps_of (runs-append xs ys) ∙ steps-append (runs_of xs) (runs_of ys))
    (ap (count_by is_paused) (runs-append xs ys)
    ∙ sum_by-append (λ run. if is_paused run then 1 else 0) (runs_of xs) (runs_of ys))
    (length-each (codes "to 1 ") xs ys)
    (length-each (codes "to 2 ") xs ys)

-- ---- a loop over lines

pub tally-next : (tally whole : Tally) (line : List ℕ) (lines others : List (List ℕ)) → others ≡ line ∷ lines
    → both tally (tally_of others) ≡ whole
    → both (both tally (tally_of (line ∷ []))) (tally_of lines) ≡ whole
tally-next tally whole line lines others first is =
    both-assoc tally (tally_of (line ∷ [])) (tally_of lines)
    ∙ ap (both tally) (sym (tally-append (line ∷ []) lines))
    ∙ ap (λ all. both tally (tally_of all)) (sym first)
    ∙ is

pub tally-end : (tally : Tally) (output : List ℕ) (others : List (List ℕ)) → others ≡ []
    → both tally (tally_of others) ≡ tally_of (lines_of output)
    → tally_text tally ≡ summary output
unfolding summary
tally-end tally output others none is =
    ap tally_text (sym (both-nothing tally) ∙ ap (λ rest. both tally (tally_of rest)) (sym none) ∙ is)

-- ---- the numbers are in range

begun-length : (byte : ℕ) (lines : List (List ℕ)) → length (begun_with byte lines) ≤ 1 + length lines
begun-length byte [] = omega arith
begun-length byte (line ∷ lines) = omega arith

lines-by : (b : Bool) (byte : ℕ) (text : List ℕ) → length (lines_of text) ≤ length text
    → length (if b then [] ∷ lines_of text else begun_with byte (lines_of text)) ≤ 1 + length text
lines-by true byte text few = omega (arith, few)
lines-by false byte text few = omega (arith, few, begun-length byte (lines_of text))

-- a text has no more lines than bytes
lines-few : (text : List ℕ) → length (lines_of text) ≤ length text
lines-few [] = omega arith
lines-few (byte ∷ text) = omega (arith, lines-by (byte == 10) byte text (lines-few text))

-- these numbers are no more than those of so many lines
record IsOfAtMost (n : ℕ) (tally : Tally) : Type 0 where
  steps : tally.steps ≤ n * 2 ^ 64
  stops : tally.stops ≤ n
  first : tally.first ≤ n
  second : tally.second ≤ n

-- a run of its parts
abbrev ran : List ℕ → ℕ → RunLine
ran state steps = record { steps = steps; state = state }

ran-by : (steps : Option ℕ) (state : List ℕ) (run : RunLine) → ((n : ℕ) → steps ≡ Some n → n < 2 ^ 64)
    → option_map (ran state) steps ≡ Some run → run.steps < 2 ^ 64
ran-by None state run small is = absurd (none-some run is)
ran-by (Some n) state run small is =
    let same : n ≡ run.steps = ap (λ r. r.steps) (same_Some (ran state n) run is) in
    omega (arith, small n refl, same)

-- a run that is told made fewer steps than there are numbers of 64 bits
ran-small : (told : List ℕ) (run : RunLine) → ran_of told ≡ Some run → run.steps < 2 ^ 64
ran-small told run is =
    option_and_then_some ran_in (halves 32 told) run is (λ parts _ read.
    ran-by (decimal_value parts.front) parts.back run (λ n digits. (decimal_value-some parts.front n digits).1) read)

steps-few : (told : List ℕ) (r : Option RunLine) → ran_of told ≡ r → steps_of (cons_option r []) ≤ 2 ^ 64
steps-few told None is = omega arith
steps-few told (Some run) is = omega (arith, ran-small told run is)

stops-few : (r : Option RunLine) → count_by is_paused (cons_option r []) ≤ 1
stops-few None = omega arith
stops-few (Some run) = count_by-le-length is_paused (run ∷ [])

runs-few : (o : Option (List ℕ))
    → let runs = filter_map ran_of (option_to_list o ++ []) in (steps_of runs ≤ 2 ^ 64) × (count_by is_paused runs ≤ 1)
runs-few None = (omega arith, omega arith)
runs-few (Some told) = (steps-few told (ran_of told) refl, stops-few (ran_of told))

told-few : (o : Option (List ℕ)) → length (option_to_list o ++ []) ≤ 1
told-few None = omega arith
told-few (Some text) = omega arith

one-few : (line : List ℕ) → IsOfAtMost 1 (tally_of (line ∷ []))
one-few line =
    let runs = runs-few (behind (codes "ran ") line) in
    record {
      steps = omega (arith, runs.0);
      stops = runs.1;
      first = told-few (behind (codes "to 1 ") line);
      second = told-few (behind (codes "to 2 ") line);
    }

both-few : (m n : ℕ) (s t : Tally) → IsOfAtMost m s → IsOfAtMost n t → IsOfAtMost (m + n) (both s t)
both-few m n s t some others = record {
  steps = omega (arith, some.steps, others.steps);
  stops = omega (arith, some.stops, others.stops);
  first = omega (arith, some.first, others.first);
  second = omega (arith, some.second, others.second);
}

tally-few : (lines : List (List ℕ)) → IsOfAtMost (length lines) (tally_of lines)
tally-few [] = record { steps = omega arith; stops = omega arith; first = omega arith; second = omega arith }
tally-few (line ∷ lines) =
    let all : IsOfAtMost (1 + length lines) (both (tally_of (line ∷ [])) (tally_of lines)) =
    both-few 1 (length lines) (tally_of (line ∷ [])) (tally_of lines) (one-few line) (tally-few lines) in
    let more : 1 + length lines ≡ suc (length lines) = omega arith in
    let P : ℕ → Type 0 = λ n. IsOfAtMost n (tally_of (line ∷ lines)) in
    subst P more (rw (tally-append (line ∷ []) lines) all)

-- the numbers of output that is in memory are in range, and so are those of its first lines
pub tally-room : (tally more : Tally) (output : List ℕ) → length output < 2 ^ 63
    → both tally more ≡ tally_of (lines_of output) → IsInRange tally
tally-room tally more output short is =
    let few = tally-few (lines_of output) in
    let lines : length (lines_of output) < 2 ^ 63 = omega (arith, short, lines-few output) in
    let steps : tally.steps + more.steps ≡ (tally_of (lines_of output)).steps = ap (λ t. t.steps) is in
    let stops : tally.stops + more.stops ≡ (tally_of (lines_of output)).stops = ap (λ t. t.stops) is in
    let first : tally.first + more.first ≡ (tally_of (lines_of output)).first = ap (λ t. t.first) is in
    let second : tally.second + more.second ≡ (tally_of (lines_of output)).second = ap (λ t. t.second) is in
    record {
      steps = omega (arith, few.steps, lines, steps);
      stops = omega (arith, few.stops, lines, stops);
      first = omega (arith, few.first, lines, first);
      second = omega (arith, few.second, lines, second);
    }
