-- The summary of a replay's output: what was printed, and how many steps, stops and texts there were.
use Rattle.std.specs.Prelude.{◌<◌, ◌^◌, ℕ, ◌+◌, List, [], ◌∷◌, ◌++◌, length, map, sum, count_by, Bool, bytes_eq, codes, decimal, Option}
use Rattle.std.specs.List.{filter_map}
use Rattle.std.specs.Option.{option_and_then, option_map}
use Rattle.cdp_text.specs.Decimal.{decimal_value}
use Rattle.cdp_text.specs.Lines.{ended, lines_of}
use Rattle.cdp_text.specs.Parts.{Halves, halves}
use Rattle.cdp_journal.specs.Fronts.{behind_each}

-- ---- runs

-- a run of which a line tells
pub record RunLine : Type 0 where
  -- how many steps it made
  pub steps : ℕ
  -- the state in which it ended
  pub state : List ℕ

-- what a line tells of a run behind its first word
abbrev pub ran_text : RunLine → List ℕ
ran_text run = decimal run.steps ++ 32 ∷ run.state

-- the run of a number and a state
abbrev pub ran_in : Halves → Option RunLine
ran_in parts = option_map (λ steps. record { steps = steps; state = parts.back }) (decimal_value parts.front)

-- the run of which this tells: a number, a space and a state
abbrev pub ran_of : List ℕ → Option RunLine
ran_of told = option_and_then ran_in (halves 32 told)

-- the runs of which the lines that begin with `ran ` tell, in order
abbrev pub runs_of : List (List ℕ) → List RunLine
runs_of lines = filter_map ran_of (behind_each (codes "ran ") lines)

-- a run ended where the program is paused
abbrev pub is_paused : RunLine → Bool
is_paused run = bytes_eq run.state (codes "paused")

-- ---- what lines come to

-- what lines of output come to
pub record Tally : Type 0 where
  -- the lines that begin with `out `, in order, each ended by LF
  pub printed : List ℕ
  -- how many steps the runs made
  pub steps : ℕ
  -- how many runs ended paused
  pub stops : ℕ
  -- how many texts the first session was sent
  pub first : ℕ
  -- how many texts the second session was sent
  pub second : ℕ

-- what these runs come to
abbrev pub ran_tally : List RunLine → Tally
ran_tally runs = record {
  printed = [];
  steps = sum (map (λ run. run.steps) runs);
  stops = count_by is_paused runs;
  first = 0;
  second = 0;
}

-- the lines that begin with `out `, in order
abbrev pub printed_lines : List (List ℕ) → List (List ℕ)
printed_lines lines = map (λ text. codes "out " ++ text) (behind_each (codes "out ") lines)

-- what these lines come to
abbrev pub tally_of : List (List ℕ) → Tally
tally_of lines = record {
  printed = ended (printed_lines lines);
  steps = sum (map (λ run. run.steps) (runs_of lines));
  stops = count_by is_paused (runs_of lines);
  first = length (behind_each (codes "to 1 ") lines);
  second = length (behind_each (codes "to 2 ") lines);
}

-- what lines come to that have others behind them
abbrev pub both : Tally → Tally → Tally
both before behind = record {
  printed = before.printed ++ behind.printed;
  steps = before.steps + behind.steps;
  stops = before.stops + behind.stops;
  first = before.first + behind.first;
  second = before.second + behind.second;
}

-- the numbers are in range
pub record IsInRange (tally : Tally) : Type 0 where
  pub steps : tally.steps < 2 ^ 128
  pub stops : tally.stops < 2 ^ 64
  pub first : tally.first < 2 ^ 64
  pub second : tally.second < 2 ^ 64

-- ---- the summary

-- the lines that tell the numbers
abbrev pub count_lines : Tally → List (List ℕ)
count_lines tally =
    (codes "steps " ++ decimal tally.steps)
    ∷ (codes "stops " ++ decimal tally.stops)
    ∷ (codes "texts 1 " ++ decimal tally.first)
    ∷ (codes "texts 2 " ++ decimal tally.second)
    ∷ []

-- what was printed, and then the numbers
abbrev pub tally_text : Tally → List ℕ
tally_text tally = tally.printed ++ ended (count_lines tally)

-- the summary of output
unfoldable pub summary : List ℕ → List ℕ
summary output = tally_text (tally_of (lines_of output))
