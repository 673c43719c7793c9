-- Well-shaped terms: each form has the parts that its row takes, so that the clauses of the rows for other numbers of
-- parts are never met. Two of them are for trees that no source of the language has: `delete` of a name, and a comma
-- list of one.
use Rattle.std.specs.Prelude.{◌≡◌, ℕ, suc, ◌+◌, ◌≤◌, List, [], ◌∷◌}
use Rattle.js_semantics.specs.Terms.{Reference, to_name, to_member, to_index, Member, keyed, computed, testing, Form, script, enter, enter_debugger, enter_for, enter_for_of, block, choose, both, either, loop, list_of, turn_of, body_of, throw_, catching, finishing, read, unary, binary, comma, function, object, method, assign, compound, update, delete, call, call_of, Term, done, standing, part, Terms, end, more}
use Rattle.js_semantics.specs.State.{Move}
use Rattle.js_semantics.specs.Functions.{Program}
use Rattle.js_semantics.specs.Run.{Run}
use Rattle.js_semantics.specs.Claims.{OfProgram, OfMove, OfRun}

-- how many parts there are
abbrev pub size : Terms → ℕ
size end = 0
size (more t ts) = suc (size ts)

-- a reference's parts: none, the object, or the object and the key
abbrev pub reference_size : Reference → ℕ
reference_size (to_name n) = 0
reference_size (to_member key) = 1
reference_size to_index = 2

-- how many parts a form has at least that are reduced
abbrev pub reduced_parts : Form → ℕ
reduced_parts choose = 1
reduced_parts both = 1
reduced_parts either = 1
reduced_parts (loop testing scope) = 1
reduced_parts (list_of b) = 1
reduced_parts (throw_ node) = 1
reduced_parts (read r) = reference_size r
reduced_parts (unary o) = 1
reduced_parts (binary o) = 2
reduced_parts comma = 1
reduced_parts (assign r) = suc (reference_size r)
reduced_parts (compound o r) = reference_size r
reduced_parts (update o prefix r) = reference_size r
reduced_parts (delete r) = reference_size r
reduced_parts (call place node) = 2
reduced_parts (call_of r place node) = reference_size r
reduced_parts _ = 0

-- how many parts a form has at least that are kept for later
abbrev pub later_parts : Form → ℕ
later_parts (script number names) = 1
later_parts (enter node) = 1
later_parts (enter_debugger node) = 1
later_parts (enter_for node constant names) = 4
later_parts (enter_for_of node b) = 2
later_parts (block names) = 1
later_parts choose = 2
later_parts both = 1
later_parts either = 1
later_parts (loop stage scope) = 3
later_parts (list_of b) = 1
later_parts (turn_of b i) = 2
later_parts (body_of b i) = 2
later_parts (catching n) = 1
later_parts finishing = 1
later_parts (function f) = 1
later_parts (method f) = 1
later_parts (compound o r) = 1
later_parts _ = 0

-- what is made with a scope are functions
abbrev pub AreFunctions : Terms → Type 0
AreFunctions end = Unit {0}
AreFunctions (more (part (function f) now later) ts) = AreFunctions ts
AreFunctions (more _ ts) = ⊥

-- the parts behind a body
abbrev pub BehindBody : Terms → Type 0
BehindBody end = Unit {0}
BehindBody (more t ts) = AreFunctions ts

-- the later parts of an object literal are its methods with computed keys, each with what follows it
abbrev pub AreMethods : Terms → Type 0
AreMethods end = Unit {0}
AreMethods (more (part (method f) now later) ts) = AreMethods ts
AreMethods (more _ ts) = ⊥

-- how many parts these methods still bring: the function of each, and what follows it
abbrev pub methods_size : Terms → ℕ
methods_size end = 0
methods_size (more (part (method f) now later) ts) = suc (size now + methods_size ts)
methods_size (more _ ts) = methods_size ts

-- a computed key is a part beside its value
abbrev pub members_size : List Member → ℕ
members_size [] = 0
members_size (keyed key ∷ ms) = suc (members_size ms)
members_size (computed ∷ ms) = suc (suc (members_size ms))

-- what else a form wants of its parts
abbrev pub OtherShape : Form → ℕ → Terms → Type 0
OtherShape (script number names) n later = BehindBody later
OtherShape (block names) n later = BehindBody later
OtherShape (function f) n later = BehindBody later
OtherShape (method f) n later = BehindBody later
OtherShape (object ms) n later = AreMethods later × (members_size ms ≡ n + methods_size later)
OtherShape _ n later = Unit {0}

-- so many parts that are reduced, and those for later, are those of the form
pub record Shape (f : Form) (n : ℕ) (later : Terms) : Type 0 where
  pub reduced : reduced_parts f ≤ n
  pub kept : later_parts f ≤ size later
  pub others : OtherShape f n later

-- all forms in a term have the parts that they want
abbrev mutual
  -- each form in a term has the parts that it wants
  pub IsShaped : Term → Type 0
  IsShaped (done v) = Unit {0}
  IsShaped (standing v place) = Unit {0}
  IsShaped (part f now later) = Shape f (size now) later × AreShaped now × AreShaped later

  -- each form in these terms has the parts that it wants
  pub AreShaped : Terms → Type 0
  AreShaped end = Unit {0}
  AreShaped (more t ts) = IsShaped t × AreShaped ts

-- all sources of a program are well-shaped
abbrev pub ShapedProgram : Program → Type 0
ShapedProgram p = OfProgram IsShaped p

-- where a step goes on, it goes on with a well-shaped term
abbrev pub ShapedMove : Move Term → Type 0
ShapedMove m = OfMove IsShaped m

-- a run that isn't over has a well-shaped term
abbrev pub ShapedRun : Run → Type 0
ShapedRun r = OfRun IsShaped r
