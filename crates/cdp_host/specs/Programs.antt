-- What a host's definitions need of a program.
use Rattle.std.specs.Prelude.{ℕ, zero, suc, List, Bool, true, false, Option, Some, None}
use Rattle.cdp_text.specs.Units.{utf8_of}
use Rattle.js_tree.specs.declared.script.Script.{Script}
use Rattle.js_heap.specs.BuiltIns.{script_scope}
use Rattle.js_heap.specs.Values.{shown}
use Rattle.js_heap.specs.declared.value.Value.{Value}
use Rattle.js_semantics.specs.Run as runs
use Rattle.js_semantics.specs.Run.{Run, running, over, ended, threw, by_effect, by_full}
use Rattle.js_semantics.specs.Sources.{terms_of_scripts}
use Rattle.js_machine_engine.specs.Prints.{values_printed}
use Rattle.cdp_session.specs.Code.{code_of}
use Rattle.stepping.specs.declared.arrival.Arrival.{Arrival}
use Rattle.cdp_host.specs.Arrivals.{arrival_at, at_the_end}

-- the scripts' program with these lines of input, before its first step
unfoldable pub start : List Script → List (List ℕ) → Run
start scripts input = runs.start (terms_of_scripts scripts) input

-- one step further; a program that is over stays as it is
unfoldable pub next : List Script → Run → Run
next scripts r = runs.step (code_of scripts) r

-- the values that its next step prints, if it prints; `console.log()` prints a line without values
unfoldable pub prints_next : List Script → Run → Option (List Value)
prints_next scripts r = values_printed (code_of scripts) script_scope r

-- so many steps further
abbrev pub nexts : List Script → ℕ → Run → Run
nexts scripts zero r = r
nexts scripts (suc k) r = nexts scripts k (next scripts r)

-- where it is after so many steps that nobody watches
unfoldable pub plain : ℕ → List Script → List (List ℕ) → Run
plain k scripts input = runs.plain k (terms_of_scripts scripts) input

-- where the step that led there left it, as far as rules of stopping ask for it
unfoldable pub arrival_of : List Script → Run → Arrival
arrival_of scripts (running t s) = arrival_at scripts t s.frames
arrival_of scripts (over f s) = at_the_end s

-- nothing is left to do
abbrev pub is_over : Run → Bool
is_over (running t s) = false
is_over (over f s) = true

-- it is over by a throw that no `catch` took
abbrev pub has_thrown : Run → Bool
has_thrown (running t s) = false
has_thrown (over (ended v) s) = false
has_thrown (over (threw v place) s) = true
has_thrown (over by_effect s) = false
has_thrown (over (by_full what) s) = false

-- how the value is shown whose throw ended it, if one did that no `catch` took
abbrev pub uncaught_text : Run → Option (List ℕ)
uncaught_text (running t s) = None
uncaught_text (over (ended v) s) = None
uncaught_text (over (threw v place) s) = Some (utf8_of (shown s.world v))
uncaught_text (over by_effect s) = None
uncaught_text (over (by_full what) s) = None

-- the texts that it has printed
abbrev pub printed_of : Run → List (List ℕ)
printed_of r = runs.printed_of r
