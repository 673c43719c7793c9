-- A drill: a script that calls a function n times, and a journal that stops it at every second call.
use Rattle.std.specs.Prelude.{ℕ, ◌+◌, ◌%◌, List, [], ◌∷◌, ◌++◌, map, count_by, Bool, ◌==◌, codes, decimal}
use Rattle.std.specs.List.{flat_map, range_with_len}
use Rattle.cdp_text.specs.Lines.{ended}
use Rattle.cdp_journal.specs.Lines.{Line, Attach, Tell, Take, Run, line_text}

-- ---- the script

-- the lines of the script: its function adds its argument to a sum, and a loop calls it with each number below n
abbrev pub drill_script : ℕ → List (List ℕ)
drill_script n =
    codes "let t = 0;"
    ∷ codes "function f(i) {"
    ∷ codes "  t = t + i;"
    ∷ codes "  return t;"
    ∷ codes "}"
    ∷ (codes "for (let i = 0; i < " ++ (decimal n ++ codes "; i++) {"))
    ∷ codes "  f(i);"
    ∷ codes "}"
    ∷ codes "console.log(t);"
    ∷ []

-- the text of the script
unfoldable pub drill_source : ℕ → List ℕ
drill_source n = ended (drill_script n)

-- ---- the journal

-- a number is even
abbrev pub is_even : ℕ → Bool
is_even i = i % 2 == 0

-- how many even numbers are below n
unfoldable pub evens : ℕ → ℕ
evens n = count_by is_even (range_with_len 0 n)

-- a command without parameters, by its number and its method
abbrev pub command_told : ℕ → List ℕ → List ℕ
command_told id method = codes "{\"id\":" ++ (decimal id ++ (codes ",\"method\":\"" ++ (method ++ codes "\"}")))

-- the command that stops the script where its function returns with an even argument
abbrev pub breakpoint_told : List ℕ
breakpoint_told =
    codes "{\"id\":2,\"method\":\"Debugger.setBreakpointByUrl\",\"params\":"
    ++ codes "{\"condition\":\"i % 2 == 0\",\"lineNumber\":3,\"url\":\"drill.js\"}}"

-- what is asked for before the first run: two sessions, the first with the breakpoint, the second to be told of what
-- is printed
abbrev pub drill_opening : List Line
drill_opening =
    Attach
    ∷ Attach
    ∷ Tell 1 (command_told 1 (codes "Debugger.enable"))
    ∷ Tell 1 breakpoint_told
    ∷ Tell 2 (command_told 1 (codes "Runtime.enable"))
    ∷ []

-- the greatest number of steps of a run
abbrev pub most_steps : ℕ
most_steps = 1000000

-- a run at this moment, and behind it the command to go on
abbrev pub drill_turn : ℕ → List Line
drill_turn moment = Run most_steps moment ∷ Tell 1 (command_told (moment + 2) (codes "Debugger.resume")) ∷ []

-- the texts of both sessions are handed out
abbrev pub drill_closing : List Line
drill_closing = Take 1 ∷ Take 2 ∷ []

-- the steps of the journal: between the opening and the closing a turn for each even number, and one more for the end
unfoldable pub drill_steps : ℕ → List Line
drill_steps n = drill_opening ++ (flat_map drill_turn (range_with_len 1 (evens n + 1)) ++ drill_closing)

-- the text of the journal
unfoldable pub drill_journal : ℕ → List ℕ
drill_journal n = ended (map line_text (drill_steps n))
