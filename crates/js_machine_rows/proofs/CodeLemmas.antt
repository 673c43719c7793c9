-- Lemmas on the code of functions.
use Rattle.std.proofs.Common.{◌≡◌, ℕ, zero, suc, ◌+◌, ◌-◌, ◌<◌, true, List, [], ◌∷◌, length, drop, get_or, Option, Some, None, refl, sym, ap, ◌∙◌, arith}
use Rattle.std.specs.Prelude.{slice_get}
use Rattle.js_semantics.specs.declared.form.Source.{Source}
use Rattle.js_semantics.specs.Functions.{same_source, function_at, function_in}
use Rattle.js_machine_nodes.specs.declared.node.Node.{Node}
use Rattle.js_machine_nodes.specs.declared.node.FunctionEntry.{FunctionEntry}
use Rattle.js_machine_nodes.specs.declared.node.SourceEntry.{SourceEntry}
use Rattle.js_machine_nodes.specs.declared.table.NodeTable.{NodeTable}
use Rattle.js_machine_nodes.specs.Forms.{function_of}
use Rattle.js_machine_nodes.specs.Codes.{HasFunctions, code_of_parts, indexed_code}
use Rattle.js_machine_nodes.specs.Trees.{tree, kids_between, program_of, source_trees}
use Rattle.js_machine_rows.specs.Codes.{placed_code, code_placed}
use Rattle.js_machine_rows.proofs.OverLemmas.{first-kept}
use Rattle.std.proofs.lemmas.List.{drop_more}

-- ---- the code of a node

pub node-placed : (ts : List (List ℕ)) (t : NodeTable) (node : Node) (number k : ℕ) (o : Option FunctionEntry)
    → Some k ≡ slice_get (kids_between t node.mid node.end) 0 →
    placed_code ts t (record { number = number; body = k; first = node.mid + 1; end = node.end })
    o ≡ code_placed ts t node o
node-placed ts t node number k None h = refl
node-placed ts t node number k (Some f) h =
    ap (λ xs. code_of_parts (function_of ts f) xs) (sym (first-kept ts t node.mid node.end k h))

-- ---- sources from a place on

abbrev pub SourcesLeft : NodeTable → Source → ℕ → ℕ → Type 0
SourcesLeft t source node i =
    (ts : List (List ℕ))
    → function_at (source_trees ts t (drop i t.sources.items)) source node ≡ function_at (program_of ts t) source node

get_some : {A : Type 0} (xs : List A) (i : ℕ) (d : A) → i < length xs → slice_get xs i ≡ Some (get_or xs i d)
get_some [] i d h = absurd (omega arith)
get_some (x ∷ xs) zero d h = refl
get_some (x ∷ xs) (suc i) d h = get_some xs i d (omega arith)

first_is : (ts : List (List ℕ)) (t : NodeTable) (source : Source) (node : ℕ) (es rest : List SourceEntry)
    (e : SourceEntry)
    → es ≡ e ∷ rest
    → same_source e.source source ≡ true
    → function_at (source_trees ts t es) source node ≡ function_in node (tree ts t e.root)
first_is ts t source node es rest e h g = ap (λ xs. function_at (source_trees ts t xs) source node) h ∙ (rw g refl)

pub sources-found : (t : NodeTable) (source : Source) (node i : ℕ) (e : SourceEntry) (ts : List (List ℕ))
    → HasFunctions t
    → SourcesLeft t source node i
    → i < length t.sources.items
    → e ≡ get_or t.sources.items i e
    → same_source e.source source ≡ true
    → indexed_code ts t e node ≡ function_at (program_of ts t) source node
sources-found t source node i e ts has inv l h g =
    let c : drop i t.sources.items ≡ e ∷ drop (i + 1) t.sources.items = drop_more t.sources.items i e l
    ∙ ap (λ x. x ∷ drop (i + 1) t.sources.items) (sym h) in
    let s : slice_get t.sources.items i ≡ Some e = get_some t.sources.items i e l ∙ ap (λ x. Some x) (sym h) in
    sym (has.finds ts i e s node)
    ∙ sym (first_is ts t source node (drop i t.sources.items) (drop (i + 1) t.sources.items) e c g)
    ∙ inv ts
