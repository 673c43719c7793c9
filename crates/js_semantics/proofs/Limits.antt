-- Runs at their limits, computed: a world with little room, and many frames.
use Rattle.std.specs.Prelude.{◌≡◌, ℕ, true, [], ◌∷◌, None, replicate, codes, refl}
use Rattle.std.specs.Fmt.{digits}
use Rattle.js_tree.specs.Trees as t
use Rattle.js_heap.specs.World.{World, Room}
use Rattle.js_semantics.specs.Terms.{scripts, Terms, end, one, settled}
use Rattle.js_semantics.specs.State.{State}
use Rattle.js_semantics.proofs.Clean.{clean_script}
use Rattle.js_semantics.specs.Run.{bottom_frame, first_state, placed_scripts, program_of, run_of, steps}
use Rattle.js_semantics.proofs.Reports.{ended_normally, threw_text, Outcome, outcome, outcome_of}
use Rattle.js_tree.specs.Views.{statements}
use Rattle.js_semantics.proofs.Shorthand.{array, at, call, d, dot, fn, inc, let_, log, object, ret, run, s, try_both, try_catch, v}

abbrev from_state : Terms → State → Outcome
from_state ts s = outcome_of (steps 500 (program_of ts) (run_of (settled scripts (placed_scripts ts) end) s))

-- a run with little room
abbrev with_room : Room → Terms → Outcome
with_room r ts =
    let s : State = first_state ts [] in
    let w : World = s.world in
    from_state ts (record s { world = record w { room = r } })

-- a run below so many active frames
abbrev below : ℕ → Terms → Outcome
below n ts = let s : State = first_state ts [] in from_state ts (record s { frames = replicate n bottom_frame })

-- try { ({}); } catch (e) { console.log(e); } where no cell is left: neither the object nor the catch's scope can be
-- made
object_is_refused : with_room (record { cells = 0; units = 1000 })
    (one (clean_script 1 (statements (try_catch (run (t.parenthesized (object [])) ∷ []) "e" (log (v "e" ∷ []) ∷ []) ∷
    [])))) ≡ outcome (threw_text (codes "RangeError: Program heap is full")) []
object_is_refused = refl

-- try { try { throw 1; } catch (e) { console.log('no'); } finally { console.log('f'); } } catch { console.log('outer');
-- } where the catch's scope can't be made: its finally runs
catch_is_refused : with_room (record { cells = 0; units = 1000 })
    (one (clean_script 1 (statements (t.try (statements
    (try_both (t.throw (d 1) ∷ []) "e" (log (s "no" ∷ []) ∷ []) (log (s "f" ∷ []) ∷ []) ∷ []))
    (t.catch None (statements (log (s "outer" ∷ []) ∷ []))) t.no_finally ∷ [])))) ≡ outcome ended_normally
    (codes "f" ∷ codes "outer" ∷ [])
catch_is_refused = refl

-- let a = []; a.push(1); a.pop(); a.push(2); a.push(3); with room for the name, the array and two elements: what is
-- popped is given back
popped_is_given_back : with_room (record { cells = 1; units = 24 })
    (one (clean_script 1 (statements (let_ "a" (array []) ∷ run (call (dot (v "a") "push") (d 1 ∷ [])) ∷ run
    (call (dot (v "a") "pop") []) ∷ run (call (dot (v "a") "push") (d 2 ∷ [])) ∷ run
    (call (dot (v "a") "push") (d 3 ∷ [])) ∷ [])))) ≡ outcome ended_normally []
popped_is_given_back = refl

-- and with room for one element less
elements_are_refused : with_room (record { cells = 1; units = 23 })
    (one (clean_script 1 (statements (let_ "a" (array []) ∷ run (call (dot (v "a") "push") (d 1 ∷ [])) ∷ run
    (call (dot (v "a") "pop") []) ∷ run (call (dot (v "a") "push") (d 2 ∷ [])) ∷ run
    (call (dot (v "a") "push") (d 3 ∷ [])) ∷ [])))) ≡ outcome (threw_text (codes "RangeError: Program heap is full")) []
elements_are_refused = refl

-- function f() { return 1; } console.log(f()); below 999 frames
one_frame_more : below 999 (one (clean_script 1 (statements
    (fn "f" [] (ret (d 1) ∷ []) ∷ log (call (v "f") [] ∷ []) ∷ [])))) ≡ outcome ended_normally (codes "1" ∷ [])
unfolding digits
one_frame_more = refl

-- and below 1,000
frames_are_refused : below 1000 (one (clean_script 1 (statements
    (fn "f" [] (ret (d 1) ∷ []) ∷ log (call (v "f") [] ∷ []) ∷ [])))) ≡ outcome
    (threw_text (codes "RangeError: Maximum call stack size exceeded")) []
frames_are_refused = refl

-- try { 'ab'[0]++; } catch (e) { console.log(e); } with room for the error's text, the error and the catch's scope: the
-- unit that is read makes no cell
a_read_unit_makes_no_cell : with_room (record { cells = 3; units = 1000 })
    (one (clean_script 1 (statements (try_catch (run (inc (at (s "ab") (d 0))) ∷ []) "e" (log (v "e" ∷ []) ∷ []) ∷
    [])))) ≡ outcome ended_normally (codes "TypeError: Operands must be numbers" ∷ [])
unfolding digits
a_read_unit_makes_no_cell = refl

-- let a = []; while (true) a.push([]); with room for five arrays
arrays_fill_the_world : with_room (record { cells = 5; units = 1000 })
    (one (clean_script 1 (statements (let_ "a" (array []) ∷ t.while (t.boolean true)
    (run (call (dot (v "a") "push") (array [] ∷ []))) ∷ [])))) ≡ outcome
    (threw_text (codes "RangeError: Program heap is full")) []
unfolding digits
arrays_fill_the_world = refl
