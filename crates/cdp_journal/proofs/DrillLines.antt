-- Each line of a drill's journal is one of its form.
use Rattle.std.proofs.Common.{◌≡◌, ℕ, zero, suc, ◌+◌, ◌<◌, ◌≤◌, ◌^◌, List, ◌++◌, length, map, All, Some, refl, arith, codes, decimal, length-append}
use Rattle.std.specs.List.{flat_map, range_with_len}
use Rattle.std.specs.Str.{IsAscii}
use Rattle.std.proofs.lemmas.Fmt.{IsAscii-decimal, length-decimal-le}
use Rattle.std.proofs.lemmas.List.Elements.{All-append, All-from_recursion, All-nil}
use Rattle.std.proofs.lemmas.Str.{IsAscii-append}
use Rattle.cdp_text.specs.Lines.{lines_of}
use Rattle.cdp_journal.specs.Lines.{Line, Tell, line_of, line_text}
use Rattle.cdp_journal.specs.Drills.{breakpoint_told, command_told, drill_closing, drill_journal, drill_opening, drill_steps, most_steps, drill_turn, evens}
use Rattle.cdp_journal.proofs.DrillLemmas.{evens-half}
use Rattle.cdp_journal.proofs.WrittenLemmas.{IsWritten, ascii-of, written-attach, written-cut, written-read, written-run, written-take, written-tell}

-- a command without parameters may be told
command-written : (s id : ℕ) (method : List ℕ) → s < 2 ^ 64 → id < 2 ^ 64 → IsAscii method → length method ≤ 30
    → IsWritten (Tell s (command_told id method))
command-written s id method small id_small ascii short =
    let front : List ℕ = codes "{\"id\":" in
    let between : List ℕ = codes ",\"method\":\"" in
    let last : List ℕ = codes "\"}" in
    let behind : List ℕ = between ++ (method ++ last) in
    let digits : length (decimal id) ≤ 20 =
    length-decimal-le 20 id (omega arith) (omega (arith, id_small)) id_small in
    let rest : length behind ≤ 50 =
    omega (arith, length-append between (method ++ last), length-append method last, short) in
    let whole : length (command_told id method) ≤ 80 =
    omega (arith, length-append front (decimal id ++ behind), length-append (decimal id) behind, digits, rest) in
    written-tell s (command_told id method) small
    (IsAscii-append front (decimal id ++ behind) (ascii-of front refl)
    (IsAscii-append (decimal id) behind (IsAscii-decimal id id_small)
    (IsAscii-append between (method ++ last) (ascii-of between refl)
    (IsAscii-append method last ascii (ascii-of last refl)))))
    (omega (arith, whole))

breakpoint-written : IsWritten (Tell 1 breakpoint_told)
breakpoint-written = written-tell 1 breakpoint_told (omega arith) (ascii-of breakpoint_told refl) (omega arith)

opening-written : All IsWritten drill_opening
opening-written =
    let enable : List ℕ = codes "Debugger.enable" in
    let runtime : List ℕ = codes "Runtime.enable" in
    let third = command-written 1 1 enable (omega arith) (omega arith) (ascii-of enable refl) (omega arith) in
    let last = command-written 2 1 runtime (omega arith) (omega arith) (ascii-of runtime refl) (omega arith) in
    All-from_recursion IsWritten drill_opening
    (written-attach, (written-attach, (third, (breakpoint-written, (last, tt)))))

turn-written : (moment : ℕ) → moment < 2 ^ 53 → All IsWritten (drill_turn moment)
turn-written moment soon =
    let resume : List ℕ = codes "Debugger.resume" in
    let first = written-run most_steps moment (omega arith) soon in
    let second =
    command-written 1 (moment + 2) resume (omega arith) (omega (arith, soon)) (ascii-of resume refl) (omega arith) in
    All-from_recursion IsWritten (drill_turn moment) (first, (second, tt))

turns-written : (first n : ℕ) → first + n ≤ 2 ^ 53 → All IsWritten (flat_map drill_turn (range_with_len first n))
turns-written first zero soon = All-nil IsWritten
turns-written first (suc n) soon =
    All-append IsWritten (drill_turn first) (flat_map drill_turn (range_with_len (first + 1) n))
    (turn-written first (omega (arith, soon))) (turns-written (first + 1) n (omega (arith, soon)))

closing-written : All IsWritten drill_closing
closing-written =
    All-from_recursion IsWritten drill_closing
    (written-take 1 (omega arith), (written-take 2 (omega arith), tt))

pub steps-written : (n : ℕ) → n < 2 ^ 53 → All IsWritten (drill_steps n)
unfolding drill_steps
steps-written n small =
    let turns : List Line = flat_map drill_turn (range_with_len 1 (evens n + 1)) in
    let soon : 1 + (evens n + 1) ≤ 2 ^ 53 = omega (arith, evens-half n, small) in
    All-append IsWritten drill_opening (turns ++ drill_closing) opening-written
    (All-append IsWritten turns drill_closing (turns-written 1 (evens n + 1) soon) closing-written)

pub journal-cut : (n : ℕ) → lines_of (drill_journal n) ≡ map line_text (drill_steps n)
unfolding drill_journal
journal-cut n = written-cut (drill_steps n)

pub journal-read : (n : ℕ) → n < 2 ^ 53
    → map line_of (lines_of (drill_journal n)) ≡ map (λ line. Some line) (drill_steps n)
unfolding drill_journal
journal-read n small = written-read (drill_steps n) (steps-written n small)
