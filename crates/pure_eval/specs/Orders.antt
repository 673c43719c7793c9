-- String literals in the order of a source and in that of its term.
use Rattle.std.specs.Prelude.{◌≡◌, ℕ, List, Bool, true, false, Result, Ok, Err}
use Rattle.js_heap.specs.World.{World, Tried, fine, effect, full}
use Rattle.js_heap.specs.ScratchSpaces.{ScratchSpace}
use Rattle.js_semantics.specs.Terms.{Term}
use Rattle.js_semantics.specs.Evaluation.{after_try, copied_world, keep_source, make_literals, place_literals}
use Rattle.js_semantics.specs.Laws.{SameOutcome}
use Rattle.js_heap_memory.specs.declared.world.Refused.{Refused}
use Rattle.pure_eval.specs.declared.evaluated.Evaluated.{Evaluated}
use Rattle.pure_eval.specs.declared.evaluated.Evaluated.TheVariants as ends
use Rattle.pure_eval.specs.Leaving.{refused_end}

-- the cells of both can be made, or those of neither
abbrev pub AreSameLiterals : List (List ℕ) → List (List ℕ) → Type 0
AreSameLiterals order literals = (w : World) → SameOutcome (make_literals w literals) (make_literals w order)

-- a term that is ready in the copied world; a full scratch names the count that is passed first in the order of the
-- source
abbrev pub ready_in_order : World → ScratchSpace → List ℕ → List (List ℕ) → List (List ℕ) → Term → Tried Term
ready_in_order w x source order literals t =
    after_try (keep_source (copied_world w x) source)
    (λ at v. after_try (place_literals v order literals) (λ u z. fine t z))

-- whether a count would have been passed
abbrev pub is_full_end : Evaluated → Bool
is_full_end (ends.Full what) = true
is_full_end e = false

-- how an evaluation ends behind what was tried, if it ends so behind what is fine
abbrev pub ends_as : Tried (Unit {0}) → Evaluated → Evaluated
ends_as (fine a w) e = e
ends_as effect e = ends.Effect
ends_as (full what) e = ends.Full what

-- how an evaluation ends behind what may be refused, if it ends so behind what isn't
abbrev pub end_behind : Result (Unit {0}) Refused → Evaluated → Evaluated
end_behind (Ok u) e = e
end_behind (Err r) e = refused_end r

-- want of memory says nothing
abbrev pub EndsAs : Tried (Unit {0}) → Evaluated → Evaluated → Type 0
EndsAs t e ends.Memory = Unit {0}
EndsAs t e r = r ≡ ends_as t e
