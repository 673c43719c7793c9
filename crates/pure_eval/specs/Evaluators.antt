-- The code of a program and of the sources that a session's evaluations keep.
use Rattle.std.specs.Prelude.{◌≡◌, ℕ, ◌+◌, ◌<◌, ◌≤◌, Bool, true, false, List, [], ◌∷◌}
use Rattle.js_heap.specs.declared.value.Addr.{Addr}
use Rattle.js_heap.specs.declared.value.Addr.TheVariants.{Base, Scratch}
use Rattle.js_semantics.specs.declared.form.Source.{Source}
use Rattle.js_semantics.specs.declared.form.Source.TheVariants.{Script as script_source, Kept as kept_source}
use Rattle.js_semantics.specs.Terms.{Term, settle}
use Rattle.js_semantics.specs.Functions.{Program}
use Rattle.js_semantics.specs.Makers.{MadeExpression}
use Rattle.js_semantics.specs.Run.{literals}
use Rattle.js_semantics.specs.Evaluation.{kept_term, kept_tree}
use Rattle.js_heap_memory.specs.Names.{GoesOn}
use Rattle.js_machine_nodes.specs.declared.table.NodeTable.{NodeTable}
use Rattle.js_machine_nodes.specs.Trees.{program_of}
use Rattle.pure_eval.specs.Whole.{IsWhole}
use Rattle.pure_eval.specs.declared.evaluated.Evaluated.{Evaluated}
use Rattle.pure_eval.specs.declared.evaluated.Evaluated.TheVariants as ends
use Rattle.pure_eval.specs.declared.evaluator.Evaluator.{Evaluator}
use Rattle.pure_eval.specs.Orders.{AreSameLiterals}
use Rattle.pure_eval.specs.Programs.{HasSameFunctions}

-- a script, or what is kept at an address below a number
abbrev pub IsBelow : ℕ → Source → Type 0
IsBelow n (script_source number) = Unit {0}
IsBelow n (kept_source (Base m)) = Unit {0}
IsBelow n (kept_source (Scratch m)) = m < n

-- each source is a script, or kept at an address below a number
abbrev pub AreBelow : ℕ → Program → Type 0
AreBelow n [] = Unit {0}
AreBelow n (t ∷ ts) = IsBelow n t.source × AreBelow n ts

-- a table in which the functions of a program are found, however the names go on; what it keeps stands below a number
pub record HoldsProgram (names : List (List ℕ)) (t : NodeTable) (n : ℕ) (p : Program) : Type 0 where
  pub whole : IsWhole t
  pub below : (us : List (List ℕ)) → GoesOn names us → AreBelow n (program_of us t)
  pub same : (us : List (List ℕ)) → GoesOn names us → HasSameFunctions (program_of us t) p

-- an evaluator has the code of a program
abbrev pub Runs : Evaluator → Program → Type 0
Runs e p = HoldsProgram e.names e.table e.next p

-- a term that is made of a source that is kept at an address, its literals in the source's order and in its own
pub record IsMadeOf (at : Addr) (e : MadeExpression) (order of_term : List (List ℕ)) (t : Term) : Type 0 where
  pub term_is : t ≡ kept_tree at e
  pub literals_are : of_term ≡ literals (kept_term at e)
  pub stays : settle t ≡ t
  pub outcome : AreSameLiterals order of_term

-- an address of a session's cells that is no lower than a number, and the number behind it
abbrev pub IsBehind : Addr → ℕ → ℕ → Type 0
IsBehind (Base m) from n = ⊥
IsBehind (Scratch m) from n = (from ≤ m) × (n ≡ m + 1)

-- whether an evaluation keeps its source
abbrev pub is_kept : Evaluated → Bool
is_kept (ends.Value v) = true
is_kept (ends.Thrown v) = true
is_kept e = false

-- behind an evaluation an evaluator has its source, or is as before; after want of memory it is given up
abbrev pub RunsAfter : Evaluated → Evaluator → Program → Program → Type 0
RunsAfter (ends.Value v) e p more = Runs e more
RunsAfter (ends.Thrown v) e p more = Runs e more
RunsAfter ends.Memory e p more = Unit {0}
RunsAfter end e p more = Runs e p
