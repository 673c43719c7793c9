-- What takes no step is done at once: where all parts of a form about to be reduced have their values, the form waits
-- for its step, and isn't one that is finished without one.
use Rattle.std.specs.Prelude.{◌≡◌, Bool, true, false, None}
use Rattle.js_semantics.specs.Terms.{first, doing, body, updating, Form, scripts, script, sequence, enter, enter_debugger, enter_for, block, scoped, loop, body_of, catching, finishing, function, method, Term, done, standing, part, Terms, end, more, all_done}
use Rattle.js_semantics.specs.State.{Move}
use Rattle.js_semantics.specs.Functions.{Program}
use Rattle.js_semantics.specs.Run.{Run}
use Rattle.js_semantics.specs.Claims.{OfProgram, OfMove, OfRun}

-- A `finally` that keeps nothing, a literal without its cell and a method of an object literal aren't told apart from
-- what waits: the first keeps a block that is no value, the others don't stand among the parts that are reduced.
abbrev pub waits : Form → Bool
waits scripts = false
waits sequence = false
waits (scoped a) = false
waits (loop first None) = false
waits (loop doing scope) = false
waits (loop body None) = false
waits (loop updating scope) = false
waits (body_of b i) = false
waits (catching n) = false
waits finishing = false
waits f = true

-- a form whose first later part is uncovered by its step, or by a call, and is settled then
abbrev pub uncovers : Form → Bool
uncovers (script number names) = true
uncovers (enter node) = true
uncovers (enter_debugger node) = true
uncovers (enter_for node constant names) = true
uncovers (block names) = true
uncovers (function f) = true
uncovers (method f) = true
uncovers f = false

-- the first of two statements where something is so, else the second
abbrev pub ByCase : Bool → Type 0 → Type 0 → Type 0
ByCase true A B = A
ByCase false A B = B

-- every form in a term waits for its step once its parts have their values, but for a part that is settled when it is
-- uncovered
abbrev mutual
  -- every form in a term waits so
  pub Waits : (Terms → Bool) → Term → Type 0
  Waits ready (done v) = Unit {0}
  Waits ready (standing v place) = Unit {0}
  Waits ready (part f now later) =
      (ready now ≡ true → waits f ≡ true)
      × AllWait ready now
      × ByCase (uncovers f) (RestWaits ready later) (AllWait ready later)

  -- every form in each of these terms waits so
  pub AllWait : (Terms → Bool) → Terms → Type 0
  AllWait ready end = Unit {0}
  AllWait ready (more t ts) = Waits ready t × AllWait ready ts

  -- not the term itself
  pub PartsWait : (Terms → Bool) → Term → Type 0
  PartsWait ready (done v) = Unit {0}
  PartsWait ready (standing v place) = Unit {0}
  PartsWait ready (part f now later) =
      AllWait ready now × ByCase (uncovers f) (RestWaits ready later) (AllWait ready later)

  -- not the first part itself
  pub RestWaits : (Terms → Bool) → Terms → Type 0
  RestWaits ready end = Unit {0}
  RestWaits ready (more t ts) = PartsWait ready t × AllWait ready ts

-- the forms in all sources of a program wait for their steps
abbrev pub ProgramWaits : Program → Type 0
ProgramWaits p = OfProgram (Waits all_done) p

-- where a step goes on, the forms in its term wait for their steps
abbrev pub MoveWaits : Move Term → Type 0
MoveWaits m = OfMove (Waits all_done) m

-- the forms in the term of a run that isn't over wait for their steps
abbrev pub RunWaits : Run → Type 0
RunWaits r = OfRun (Waits all_done) r
