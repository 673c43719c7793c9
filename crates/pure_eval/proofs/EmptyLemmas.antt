-- An evaluator of no sources.
use Rattle.std.proofs.Common.{◌≡◌, ℕ, List, [], Some, sym, ap, ◌∙◌, subst}
use Rattle.std.specs.Prelude.{slice_get}
use Rattle.std.proofs.lemmas.Option.{none-some}
use Rattle.js_semantics.specs.Functions.{Program, function_at}
use Rattle.js_machine_nodes.specs.declared.table.NodeTable.{NodeTable}
use Rattle.js_machine_nodes.specs.Trees.{IsEmpty, source_trees, program_of}
use Rattle.js_machine_compiler.proofs.ScriptLemmas.{empty_is_table, empty_places}
use Rattle.pure_eval.specs.declared.evaluator.Evaluator.{Evaluator}
use Rattle.pure_eval.specs.Evaluators.{AreBelow}
use Rattle.pure_eval.specs.Whole.{IsWhole}
use Rattle.pure_eval.specs.Returning.{IsCodeOf}

-- nothing stands in an empty list
none-there : {A : Type 0} (xs : List A) (i : ℕ) (x : A) → xs ≡ [] → slice_get xs i ≡ Some x → ⊥
none-there xs i x e h = none-some x (sym (ap (λ ys. slice_get ys i) e) ∙ h)

empty-whole : (t : NodeTable) → IsEmpty t → IsWhole t
empty-whole t e = record {
  table = empty_is_table t e;
  places = empty_places t e;
  functions = record { finds = λ ts i x h node. absurd (none-there t.sources.items i x e.sources h) };
  closed = λ n node f h. absurd (none-there t.nodes.items n node e.nodes h);
  placed = λ i x f h. absurd (none-there t.functions.items i x e.functions h);
  sources = λ i x h. absurd (none-there t.sources.items i x e.sources h);
}

-- it has the code of no sources, whatever its names
pub empty_code : (e : Evaluator) → IsEmpty e.table → IsCodeOf e []
empty_code e h =
    let none : (us : List (List ℕ)) → program_of us e.table ≡ [] = λ us. ap (source_trees us e.table) h.sources in
    let same : (us : List (List ℕ)) → program_of us e.table ≡ program_of e.names e.table = λ us.
    none us ∙ sym (none e.names) in
    record {
      code = record {
        runs = record {
          whole = empty-whole e.table h;
          below = λ us g. subst (AreBelow e.next) (sym (none us)) tt;
          same = λ us g source node. ap (λ (p : Program). function_at p source node) (same us);
        };
        steady = λ us g. same us;
      };
      program = none e.names;
    }
