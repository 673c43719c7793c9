-- The lines that a summary repeats, and those that tell of runs.
use Rattle.std.proofs.Common.{◌≡◌, ℕ, ◌<◌, ◌^◌, List, [], ◌∷◌, ◌++◌, map, filter, nat_eq, All, Bool, true, false, ◌&&◌, ◌==◌, if◌then◌else◌, Option, Some, None, is_some, option_to_list, refl, ap, ◌∙◌, arith, codes, decimal}
use Rattle.std.specs.List.{filter_map, starts_with}
use Rattle.std.specs.Option.{option_map}
use Rattle.std.proofs.lemmas.List.Elements.{All-head, All-tail}
use Rattle.std.proofs.lemmas.Option.{none-some, option_and_then_some, same_Some}
use Rattle.cdp_text.specs.Decimal.{decimal_value}
use Rattle.cdp_text.specs.Parts.{behind, Halves, halves}
use Rattle.cdp_text.proofs.DecimalLemmas.{decimal_value-decimal, decimal_value-some}
use Rattle.cdp_text.proofs.PartsLemmas.{behind-some, halves-decimal, halves-some}
use Rattle.cdp_journal.specs.Fronts.{behind_each}
use Rattle.cdp_journal.specs.Summaries.{RunLine, printed_lines, ran_in, ran_of, ran_text, runs_of}

-- ---- lines that are repeated

-- a line with this front put before it
abbrev pub fronted : List ℕ → List ℕ
fronted text = codes "out " ++ text

starts-by : (b : Bool) (o : Option (List ℕ)) (starts : Bool) → starts ≡ is_some o
    → (b && starts) ≡ is_some (if b then o else None)
starts-by true o starts is = is
starts-by false o starts is = refl

-- a line begins with a front where something stands behind it
starts-behind : (front line : List ℕ) → starts_with nat_eq line front ≡ is_some (behind front line)
starts-behind [] line = refl
starts-behind (byte ∷ front) [] = refl
starts-behind (byte ∷ front) (first ∷ line) =
    starts-by (byte == first) (behind front line) (starts_with nat_eq line front) (starts-behind front line)

printed-by : (o : Option (List ℕ)) (starts : Bool) (line : List ℕ) (texts kept : List (List ℕ)) → starts ≡ is_some o
    → ((text : List ℕ) → o ≡ Some text → line ≡ fronted text) → map fronted texts ≡ kept
    → map fronted (option_to_list o ++ texts) ≡ (if starts then line ∷ kept else kept)
printed-by None starts line texts kept is whole others = rw is others
printed-by (Some text) starts line texts kept is whole others = rw (is, whole text refl, others) refl

pub printed-is : (lines : List (List ℕ))
    → printed_lines lines ≡ filter (λ line. starts_with nat_eq line (codes "out ")) lines
printed-is [] = refl
printed-is (line ∷ lines) =
    let front : List ℕ = codes "out " in
    printed-by (behind front line) (starts_with nat_eq line front) line (behind_each front lines)
    (filter (λ l. starts_with nat_eq l front) lines)
    (starts-behind (codes "out ") line) (behind-some (codes "out ") line) (printed-is lines)

-- ---- runs

ran-is-by : (steps : Option ℕ) (parts : Halves) (run : RunLine)
    → ((n : ℕ) → steps ≡ Some n → (parts.front ≡ decimal n) × (n < 2 ^ 64))
    → option_map (λ n. let r : RunLine = record { steps = n; state = parts.back } in r) steps ≡ Some run
    → (parts.front ++ 32 ∷ parts.back ≡ ran_text run) × (run.steps < 2 ^ 64)
ran-is-by None parts run digits is = absurd (none-some run is)
ran-is-by (Some n) parts run digits is =
    let read = digits n refl in
    let same = same_Some (let r : RunLine = record { steps = n; state = parts.back } in r) run is in
    rw (← same) (ap (λ front. front ++ 32 ∷ parts.back) read.0, read.1)

-- what is read as a run is what is told of it
pub ran-is : (told : List ℕ) (run : RunLine) → ran_of told ≡ Some run → (told ≡ ran_text run) × (run.steps < 2 ^ 64)
ran-is told run is =
    option_and_then_some ran_in (halves 32 told) run is (λ parts parts_are ran.
    let read = ran-is-by (decimal_value parts.front) parts run (λ n. decimal_value-some parts.front n) ran in
    (halves-some 32 told parts parts_are ∙ read.0, read.1))

-- and what is told of a run is read as it
pub ran-read : (run : RunLine) → run.steps < 2 ^ 64 → ran_of (ran_text run) ≡ Some run
ran-read run small =
    let parts = halves-decimal run.steps 32 run.state small (λ digit. omega arith) in
    rw (parts, decimal_value-decimal run.steps small) refl

told-read : (runs : List RunLine) → All (λ run. run.steps < 2 ^ 64) runs → filter_map ran_of (map ran_text runs) ≡ runs
told-read [] small = refl
told-read (run ∷ runs) small =
    let one = ran-read run (All-head (λ r. r.steps < 2 ^ 64) run runs small) in
    rw (one, told-read runs (All-tail (λ r. r.steps < 2 ^ 64) run runs small)) refl

pub runs-read : (lines : List (List ℕ)) (runs : List RunLine) → All (λ run. run.steps < 2 ^ 64) runs
    → behind_each (codes "ran ") lines ≡ map ran_text runs → runs_of lines ≡ runs
runs-read lines runs small are = ap (filter_map ran_of) are ∙ told-read runs small
