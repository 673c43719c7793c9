-- A claim about terms, made of the sources of a program, of what a step goes on with, and of a run.
use Rattle.std.specs.Prelude.{[], ◌∷◌}
use Rattle.js_semantics.specs.Terms.{Term}
use Rattle.js_semantics.specs.State.{Move, goes}
use Rattle.js_semantics.specs.Functions.{Program}
use Rattle.js_semantics.specs.Run.{Run, running, over}

-- it holds of each source of a program
abbrev pub OfProgram : (Term → Type 0) → Program → Type 0
OfProgram P [] = Unit {0}
OfProgram P (t ∷ ts) = P t.tree × OfProgram P ts

-- where a step goes on, it holds of the term
abbrev pub OfMove : (Term → Type 0) → Move Term → Type 0
OfMove P (goes t s told) = P t
OfMove P _ = Unit {0}

-- it holds of the term of a run that isn't over
abbrev pub OfRun : (Term → Type 0) → Run → Type 0
OfRun P (running t s) = P t
OfRun P (over f s) = Unit {0}
