-- The sources of scripts, one after another.
use Rattle.std.proofs.Common.{◌≡◌, ℕ, zero, suc, ◌+◌, ◌<◌, ◌≤◌, List, [], ◌∷◌, ◌++◌, length, take, get_or, Option, Some, refl, sym, ap, ◌∙◌, subst, arith}
use Rattle.std.specs.Prelude.{slice_get, IfSome}
use Rattle.std.specs.Global.{Vec}
use Rattle.std.proofs.lemmas.List.{take_more}
use Rattle.js_semantics.specs.declared.form.Form.TheVariants as forms
use Rattle.js_semantics.specs.declared.form.Source.TheVariants.{Script as script_source}
use Rattle.js_semantics.specs.Terms as semantics
use Rattle.js_semantics.specs.Functions.{SourceTree}
use Rattle.js_semantics.specs.Run.{program_from}
use Rattle.js_machine_terms.specs.declared.term.Term.{Term}
use Rattle.js_machine_terms.specs.Views.{term_view, listed_view}
use Rattle.js_machine_terms.proofs.TermLemmas.{listed_view-append}
use Rattle.js_heap_memory.specs.Names.{GoesOn}
use Rattle.js_machine_nodes.specs.declared.op.Op.TheVariants as ops
use Rattle.js_machine_nodes.specs.declared.node.Node.{Node}
use Rattle.js_machine_nodes.specs.declared.node.SourceEntry.{SourceEntry}
use Rattle.js_machine_nodes.specs.declared.table.NodeTable.{NodeTable}
use Rattle.js_machine_nodes.specs.Trees.{IsEmpty, tree, IsNodeAt, IsTable, source_tree, source_trees}
use Rattle.js_machine_compiler.specs.Added.{IsNodeAdded}
use Rattle.js_machine_compiler.specs.Grown.{IsPlacedNode, HasPlaces, Extends, HasTree, HaveTrees, HoldsTerm, HoldsAll}
use Rattle.js_semantics.specs.Shapes.{size}
use Rattle.js_machine_compiler.specs.Scripts.{Continues, IsSourceAdded, AddsSource, IsProgram, HasNodes}
use Rattle.js_machine_compiler.proofs.GrownLemmas.{extends_same, extends_twice, node_extends, node_keeps, node_tree, no_trees}
use Rattle.js_machine_compiler.proofs.EntryLemmas.{has_bare}
use Rattle.js_heap_memory.proofs.StartLemmas.{goes-then}

pub continues_twice : (ts us vs : List (List ℕ)) (t u v : NodeTable)
    → Continues ts t us u
    → Continues us u vs v
    → Continues ts t vs v
continues_twice ts us vs t u v g h =
    record {
      names = goes-then ts us vs g.names h.names;
      entries = extends_twice t u v g.entries h.entries;
      table = λ k. h.table
          (g.table k);
      places = λ k. h.places (g.places k);
    }

-- ---- one more source

pub sources_push : (us : List (List ℕ)) (v : NodeTable) (es : List SourceEntry) (e : SourceEntry)
    → source_trees us v (es ++ e ∷ []) ≡ source_trees us v es ++ source_tree us v e ∷ []
sources_push us v [] e = refl
sources_push us v (d ∷ es) e = ap (λ xs. source_tree us v d ∷ xs) (sources_push us v es e)

program_push : (n m : ℕ) (xs : semantics.Terms) (x : semantics.Term)
    → m ≡ n + size xs
    → program_from n (semantics.joined xs (semantics.one x))
    ≡ program_from n xs ++ record { source = script_source m; tree = x } ∷ []
program_push n m semantics.end x e =
    let k : n ≡ m = omega arith in
    ap (λ j. let s : SourceTree = record { source = script_source j; tree = x } in s ∷ []) k
program_push n m (semantics.more y xs) x e =
    let k : m ≡ n + 1 + size xs = omega arith in
    ap (λ ps. let s : SourceTree = record { source = script_source n; tree = y } in s ∷ ps)
    (program_push (n + 1) m xs x k)

size_listed : (xs : List Term) → size (listed_view xs) ≡ length xs
size_listed [] = refl
size_listed (x ∷ xs) = ap suc (size_listed xs)

take_length : (i : ℕ) (xs : List Term) → i ≤ length xs → length (take i xs) ≡ i
take_length zero xs h = refl
take_length (suc i) [] h = absurd (omega arith)
take_length (suc i) (x ∷ xs) h = ap suc (take_length i xs (omega arith))

pub tree_of : (ts us : List (List ℕ)) (t u : NodeTable) (n : ℕ) (x : semantics.Term)
    → HasTree ts t n x
    → GoesOn ts us
    → Extends t u
    → tree us u n ≡ x
unfolding tree
tree_of ts us t u n x h g e = h.is us u (suc n) (omega arith) g e

pub script_step : (ts us : List (List ℕ)) (t u : NodeTable) (items : List Term) (i number root : ℕ) (x : Term)
    (o : Option ℕ)
    → IsProgram ts t (program_from 1 (listed_view (take i items)))
    → Continues ts t us u
    → o ≡ Some root
    → HoldsTerm us u (term_view x) o
    → AddsSource t u number o
    → number ≡ i + 1
    → i < length items
    → x ≡ get_or items i x
    → IsProgram us u (program_from 1 (listed_view (take (i + 1) items)))
script_step ts us t u items i number root x o p g s k a n l is vs v h w =
    let j : HasTree us u root (term_view x)
    = (let j' : HoldsTerm us u (term_view x) (Some root) = subst (λ (q : Option ℕ). HoldsTerm us u (term_view x) q) s k in
    j')
    in
    let b : IsSourceAdded t u number root = (let b' : AddsSource t u number (Some root) = subst
    (λ (q : Option ℕ). AddsSource t u number q) s a in
    b')
    in
    let front = listed_view (take i items) in
    let q : listed_view (take (i + 1) items) ≡ semantics.joined front (semantics.one (term_view x)) =
    ap listed_view (take_more items i x l)
    ∙ listed_view-append (take i items) (get_or items i x ∷ [])
    ∙ ap (λ y. semantics.joined front (semantics.one (term_view y))) (sym is) in
    let m : number ≡ 1 + size front = omega (arith, n, size_listed (take i items), take_length i items (omega arith))
    in
    ap (source_trees vs v) b.sources ∙ sources_push vs v t.sources.items b.entry
    ∙ ap (λ ps. ps ++ source_tree vs v b.entry ∷ [])
    (p vs v (goes-then ts us vs g.names h) (extends_twice t u v g.entries w))
    ∙ ap (λ c. let r : SourceTree = record { source = c; tree = tree vs v b.entry.root } in
    program_from 1 front ++ r ∷ [])
    b.source
    ∙ ap (λ c. let r : SourceTree = record { source = script_source number; tree = tree vs v c } in
    program_from 1 front ++ r ∷ [])
    b.node
    ∙ ap (λ c. let r : SourceTree = record { source = script_source number; tree = c } in
    program_from 1 front ++ r ∷ [])
    (tree_of us vs u v root (term_view x) j h w)
    ∙ sym (program_push 1 number front (term_view x) m)
    ∙ ap (program_from 1) (sym q)

pub empty_is_table : (t : NodeTable) → IsEmpty t → IsTable t
empty_is_table t e =
    record { nodes = λ n. subst (λ (o : Option Node). IsNodeAt t n o) (ap (λ ns. slice_get ns n) (sym e.nodes)) tt }

pub empty_places : (t : NodeTable) → IsEmpty t → HasPlaces t
empty_places t e =
    record { nodes = λ n. subst (λ (o : Option Node). IsPlacedNode t n o) (ap (λ ns. slice_get ns n) (sym e.nodes)) tt }

-- ---- the node over all of them

pub all_nodes : (ts us : List (List ℕ)) (s t u : NodeTable) (root : ℕ) (none : List ℕ) (o : Option (Vec ℕ))
    (nodes : Vec ℕ) (xs : semantics.Terms)
    → IsEmpty s
    → Continues ts s us t
    → o ≡ Some nodes
    → HoldsAll us t xs o
    → IfSome o (λ v. IsProgram us t (program_from 1 xs))
    → none ≡ []
    → IsNodeAdded t u ops.Scripts 0 nodes.items none root
    → HasNodes us xs u root
all_nodes ts us s t u root none o nodes xs e g k h r z a =
    let b : HaveTrees us t nodes.items xs = (let b' : HoldsAll us t xs (Some nodes) = subst
    (λ (q : Option (Vec ℕ)). HoldsAll us t xs q) k h in
    b')
    in
    let c : HaveTrees us t none semantics.end = subst (λ (ns : List ℕ). HaveTrees us t ns semantics.end) (sym z)
    (no_trees us t) in
    let p : IsProgram us t (program_from 1 xs)
    = (let p' : IfSome (let v : Option (Vec ℕ) = Some nodes in v) (λ v. IsProgram us t (program_from 1 xs)) = subst
    (λ (q : Option (Vec ℕ)). IfSome q (λ v. IsProgram us t (program_from 1 xs))) k r in
    p')
    in
    let f = has_bare us t ops.Scripts refl in
    let w = node_extends t u ops.Scripts 0 root nodes.items none a in
    let kept = node_keeps t u ops.Scripts 0 root nodes.items none a b.below c.below refl (λ l. refl) tt in
    record {
      table = kept.table (g.table (empty_is_table s e));
      places = kept.places (g.places (empty_places s e));
      program = λ vs l. ap (λ es. source_trees vs u es.items) a.sources ∙ p vs u l w;
      tree =
          λ vs l. tree_of us vs u u root (semantics.part forms.Scripts xs semantics.end)
          (node_tree us t u ops.Scripts 0 root nodes.items none forms.Scripts xs semantics.end a f b c) l
          (extends_same u);
    }

pub source_added : (t u v : NodeTable) (e : SourceEntry) (number root : ℕ)
    → u.sources ≡ t.sources
    → v.sources.items ≡ u.sources.items ++ e ∷ []
    → e.source ≡ script_source number
    → e.root ≡ root
    → IsSourceAdded t v number root
source_added t u v e number root s a b c =
    record { entry = e; source = b; node = c; sources = a ∙ ap (λ xs. xs.items ++ e ∷ []) s }

-- the same of scripts that are equal
pub nodes_same : (ts us : List (List ℕ)) (s t u : NodeTable) (root : ℕ) (none : List ℕ) (o : Option (Vec ℕ))
    (nodes : Vec ℕ) (xs ys : semantics.Terms)
    → xs ≡ ys
    → IsEmpty s
    → Continues ts s us t
    → o ≡ Some nodes
    → HoldsAll us t xs o
    → IfSome o (λ v. IsProgram us t (program_from 1 xs))
    → none ≡ []
    → IsNodeAdded t u ops.Scripts 0 nodes.items none root
    → HasNodes us ys u root
nodes_same ts us s t u root none o nodes xs ys q e g k h r z a =
    subst (λ (zs : semantics.Terms). HasNodes us zs u root) q (all_nodes ts us s t u root none o nodes xs e g k h r z a)
