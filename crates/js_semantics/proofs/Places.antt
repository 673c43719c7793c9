-- Where runs stand, computed: arrivals, active frames with their scopes, and whether a throw will be caught.
use Rattle.std.specs.Prelude.{◌≡◌, ℕ, zero, suc, true, false, List, [], ◌∷◌, map, Option, Some, None, pos, codes, refl}
use Rattle.std.specs.Option.{option_map}
use Rattle.js_tree.specs.declared.node.Span.{Span}
use Rattle.js_tree.specs.Trees as t
use Rattle.js_heap.specs.declared.value.Value.TheVariants as values
use Rattle.js_heap.specs.BuiltIns.{script_scope}
use Rattle.js_semantics.specs.Terms.{Terms, one, Source, script_source}
use Rattle.js_semantics.specs.State.{Frame, State}
use Rattle.js_semantics.specs.Makers.{MadeStatements, number_made, name_made, member_made, call_made, items_of, no_items, expression_item, return_item, function_item, script_term}
use Rattle.js_semantics.proofs.Clean.{clean_script, clean_scripts}
use Rattle.js_semantics.specs.Run.{Run, running, over, plain, threw}
use Rattle.js_semantics.specs.Frames.{offset_of, at, StandingThrow, thrown, frames, Listed, as_block, as_catch, as_local, as_closure, as_script, as_global, scope_chain}
use Rattle.js_tree.specs.Views.{statements}
use Rattle.js_semantics.proofs.Shorthand.{call, d, fn, let_, run, try_catch, try_finally, v}

-- ---- arrivals

abbrev offset_at : List Span → Run → Option ℕ
offset_at spans (running t s) = option_map (offset_of spans) (at spans t)
offset_at spans (over f s) = None

-- where the run of a script is an arrival, before each of its first steps
abbrev offsets_from : ℕ → ℕ → List Span → Terms → List (Option ℕ)
offsets_from zero k spans ts = []
offsets_from (suc n) k spans ts = offset_at spans (plain k ts []) ∷ offsets_from n (suc k) spans ts

abbrev span : ℕ → ℕ → Span
span i j = record { start = i; end = j }

-- function f() { / return 1; / } / f(); / console.log(2); each on a line
abbrev returning : MadeStatements
returning = items_of (
    function_item 0 (codes "f") [] (items_of (return_item 1 (Some (number_made 2 1)) ∷ []))
    ∷ expression_item 3 (call_made 4 (name_made 5 (codes "f")) 6 [])
    ∷ expression_item 7
    (call_made 8 (member_made 9 (name_made 10 (codes "console")) (codes "log")) 11 (number_made 12 2 ∷ []))
    ∷ [])

abbrev returning_spans : List Span
returning_spans =
    span 0 28 ∷ span 17 26 ∷ span 24 25 ∷ span 29 33 ∷ span 29 32 ∷ span 29 30 ∷ span 30 32 ∷ span 34 49 ∷ span 34 48 ∷
    span 34 45 ∷ span 34 41 ∷ span 45 48 ∷ span 46 47 ∷ []

-- the statements, and the call of log, whose place isn't the start of its statement; the call of f is at its start
arrivals : offsets_from 11 0 returning_spans (one (script_term 1 returning))
    ≡ None ∷ Some 29 ∷ None ∷ None ∷ Some 17 ∷ None ∷ Some 34 ∷ None ∷ None ∷ Some 42 ∷ None ∷ []
arrivals = refl

-- function f() { / } / f();
abbrev falling : MadeStatements
falling =
    items_of (function_item 0 (codes "f") [] no_items ∷ expression_item 1 (call_made 2 (name_made 3 (codes "f")) 4 [])
    ∷ [])

abbrev falling_spans : List Span
falling_spans = span 0 16 ∷ span 17 21 ∷ span 17 20 ∷ span 17 18 ∷ span 18 20 ∷ []

-- the closing brace of a body with nothing left
closing_brace : offsets_from 6 0 falling_spans (one (script_term 1 falling))
    ≡ None ∷ Some 17 ∷ None ∷ None ∷ Some 15 ∷ None ∷ []
closing_brace = refl

-- ---- frames and scopes

abbrev kinds_of : State → List Frame → List (List Listed)
kinds_of s [] = []
kinds_of s (f ∷ fs) = map (λ l. l.kind) (scope_chain s.world f.scope) ∷ kinds_of s fs

-- the scope kinds of each active frame from the top
abbrev frame_kinds : Run → List (List Listed)
frame_kinds (running t s) = kinds_of s (frames script_scope t s)
frame_kinds (over f s) = []

-- a function whose inner function stands at a `debugger` in a catch
nested_scopes : frame_kinds (plain 16 (one (clean_script 1
    (statements (fn "f" ("p" ∷ []) (fn "g" [] (try_catch (t.throw (d 1) ∷ []) "e" (let_ "b" (v "e") ∷ t.debugger ∷ []) ∷
    []) ∷ run (call (v "g") []) ∷ []) ∷ run (call (v "f") (d 5 ∷ [])) ∷ [])))) []) ≡
    (as_block ∷ as_catch ∷ as_local ∷ as_closure ∷ as_script ∷ as_global ∷ []) ∷
    (as_local ∷ as_script ∷ as_global ∷ []) ∷ (as_script ∷ as_global ∷ []) ∷ []
nested_scopes = refl

-- ---- throws

abbrev thrown_in : Run → Option StandingThrow
thrown_in (running t s) = thrown t
thrown_in (over f s) = None

-- a throw in a try without a catch, in a call within a try with one
caught_outside : thrown_in (plain 10 (one (clean_script 1
    (statements (fn "f" [] (try_finally (t.throw (d 1) ∷ []) [] ∷ []) ∷ try_catch (run (call (v "f") []) ∷ []) "e" [] ∷
    [])))) []) ≡ Some (record { value = values.Number (pos 1); uncaught = false })
caught_outside = refl

-- a finally catches nothing
not_caught : thrown_in (plain 8 (one (clean_script 1 (statements
    (fn "f" [] (try_finally (t.throw (d 1) ∷ []) [] ∷ []) ∷ run (call (v "f") []) ∷ [])))) []) ≡ Some
    (record { value = values.Number (pos 1); uncaught = true })
not_caught = refl

-- ---- the scripts of a run

abbrev place_of_throw : Run → Option Source
place_of_throw (over (threw v place) s) = Some place.source
place_of_throw r = None

-- throw 1; as the second script
throws_in_the_second : place_of_throw (plain 20 (clean_scripts (t.no_statements ∷ statements (t.throw (d 1) ∷ []) ∷ []))
    []) ≡ Some (script_source 2)
throws_in_the_second = refl
