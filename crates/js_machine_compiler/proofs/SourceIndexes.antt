-- Sources with their indexes: the trees and the code of a table don't depend on its sources.
use Rattle.std.proofs.Common.{◌≡◌, ℕ, zero, suc, ◌+◌, ◌<◌, List, [], ◌∷◌, ◌++◌, length, take, get_or, Option, None, Some, if◌then◌else◌, slice_get, refl, sym, ap, subst, ◌∙◌}
use Rattle.std.proofs.lemmas.List.{take_more}
use Rattle.js_semantics.specs.Terms.{Term, done, part, Terms, more}
use Rattle.js_semantics.specs.Functions.{function_in, SourceTree}
use Rattle.js_machine_nodes.specs.Lists.{Items}
use Rattle.js_machine_nodes.specs.declared.op.Op.{Op}
use Rattle.js_machine_nodes.specs.declared.op.Op.TheVariants as ops
use Rattle.js_machine_nodes.specs.declared.node.Node.{Node}
use Rattle.js_machine_nodes.specs.declared.node.FunctionEntry.{FunctionEntry}
use Rattle.js_machine_nodes.specs.declared.node.SourceEntry.{SourceEntry}
use Rattle.js_machine_nodes.specs.declared.table.NodeTable.{NodeTable}
use Rattle.js_machine_nodes.specs.Ops.{is_literal}
use Rattle.js_machine_nodes.specs.Forms.{function_of, form_of}
use Rattle.js_machine_nodes.specs.Trees.{constant_at, kids_between, terms, node_term, tree_within, tree, trees, source_tree, source_trees}
use Rattle.js_machine_nodes.specs.Codes.{code_of_parts, code_of_node, code_of_entry, code_of_number, indexed_code}
use Rattle.js_machine_compiler.specs.declared.scripts.ScriptCode.{ScriptCode}
use Rattle.js_machine_compiler.specs.Index.{IsIndexed, AreIndexed}
use Rattle.js_machine_compiler.specs.Scripts.{HasNodes, HaveNodes, with_sources, IsIndexedCode, IsCompiled}
use Rattle.js_machine_compiler.proofs.GrownLemmas.{begins_same, same_nodes, same_places}

-- ---- a table with other sources

same_form : (ts : List (List ℕ)) (t : NodeTable) (es : Items SourceEntry) (op : Op) (info : ℕ)
    → form_of ts (with_sources t es) op info ≡ form_of ts t op info
unfolding form_of
same_form ts t es ops.Literal info = refl
same_form ts t es _ info = refl

same_constant : (t : NodeTable) (es : Items SourceEntry) (n : ℕ) → constant_at (with_sources t es) n ≡ constant_at t n
unfolding constant_at
same_constant t es n = refl

same_terms : (a b : ℕ → Term) → ((n : ℕ) → a n ≡ b n) → (ks : List ℕ) → terms a ks ≡ terms b ks
same_terms a b h [] = refl
same_terms a b h (k ∷ ks) = ap (λ t. more t (terms a ks)) (h k) ∙ ap (more (b k)) (same_terms a b h ks)

same_node : (ts : List (List ℕ)) (t : NodeTable) (es : Items SourceEntry) (a b : ℕ → Term) (o : Option Node)
    → ((n : ℕ) → a n ≡ b n)
    → node_term ts (with_sources t es) a o ≡ node_term ts t b o
same_node ts t es a b None h = refl
same_node ts t es a b (Some node) h =
    ap (λ v. if is_literal node.op then done v else part (form_of ts (with_sources t es) node.op node.info)
    (terms a (kids_between t node.first node.mid)) (terms a (kids_between t node.mid node.end)))
    (same_constant t es node.info)
    ∙ ap (λ f. if is_literal node.op then done (constant_at t node.info) else part f
    (terms a (kids_between t node.first node.mid)) (terms a (kids_between t node.mid node.end)))
    (same_form ts t es node.op node.info)
    ∙ ap (λ us. if is_literal node.op then done (constant_at t node.info) else part (form_of ts t node.op node.info) us
    (terms a (kids_between t node.mid node.end)))
    (same_terms a b h (kids_between t node.first node.mid))
    ∙ ap (λ us. if is_literal node.op then done (constant_at t node.info) else part (form_of ts t node.op node.info)
    (terms b (kids_between t node.first node.mid)) us)
    (same_terms a b h (kids_between t node.mid node.end))

same_within : (ts : List (List ℕ)) (t : NodeTable) (es : Items SourceEntry) (fuel n : ℕ)
    → tree_within ts (with_sources t es) fuel n ≡ tree_within ts t fuel n
same_within ts t es zero n = refl
same_within ts t es (suc fuel) n =
    same_node ts t es (tree_within ts (with_sources t es) fuel) (tree_within ts t fuel) (slice_get t.nodes.items n)
    (same_within ts t es fuel)

same_tree : (ts : List (List ℕ)) (t : NodeTable) (es : Items SourceEntry) (n : ℕ)
    → tree ts (with_sources t es) n ≡ tree ts t n
unfolding tree
same_tree ts t es n = same_within ts t es (suc n) n

same_trees : (ts : List (List ℕ)) (t : NodeTable) (es : Items SourceEntry) (from to : ℕ)
    → trees ts (with_sources t es) from to ≡ trees ts t from to
same_trees ts t es from to =
    same_terms (tree ts (with_sources t es)) (tree ts t) (same_tree ts t es) (kids_between t from to)

same_code : (ts : List (List ℕ)) (t : NodeTable) (es : Items SourceEntry) (f : FunctionEntry) (o : Option Node)
    → code_of_node ts (with_sources t es) f o ≡ code_of_node ts t f o
same_code ts t es f None = refl
same_code ts t es f (Some node) = ap (code_of_parts (function_of ts f)) (same_trees ts t es node.mid node.end)

same_entry : (ts : List (List ℕ)) (t : NodeTable) (es : Items SourceEntry) (o : Option FunctionEntry)
    → code_of_entry ts (with_sources t es) o ≡ code_of_entry ts t o
same_entry ts t es None = refl
same_entry ts t es (Some f) = same_code ts t es f (slice_get t.nodes.items f.at)

same_number : (ts : List (List ℕ)) (t : NodeTable) (es : Items SourceEntry) (o : Option ℕ)
    → code_of_number ts (with_sources t es) o ≡ code_of_number ts t o
same_number ts t es None = refl
same_number ts t es (Some zero) = refl
same_number ts t es (Some (suc n)) = same_entry ts t es (slice_get t.functions.items n)

-- ---- sources in order

indexed_push : (t : NodeTable) (ss es : List SourceEntry) (s e : SourceEntry)
    → AreIndexed t ss es
    → IsIndexed t s e
    → AreIndexed t (ss ++ s ∷ []) (es ++ e ∷ [])
indexed_push t [] [] s e h k = (k, tt)
indexed_push t [] (f ∷ es) s e h k = absurd h
indexed_push t (d ∷ ss) [] s e h k = absurd h
indexed_push t (d ∷ ss) (f ∷ es) s e h k = (h.0, indexed_push t ss es s e h.1 k)

-- one more source
pub indexed_more : (t : NodeTable) (all : List SourceEntry) (i : ℕ) (s e : SourceEntry) (old new : List SourceEntry)
    → AreIndexed t (take i all) old
    → IsIndexed t s e
    → s ≡ get_or all i s
    → i < length all
    → new ≡ old ++ e ∷ []
    → AreIndexed t (take (i + 1) all) new
indexed_more t all i s e old new h k is l n =
    let r : take (i + 1) all ≡ take i all ++ s ∷ [] = take_more all i s l
    ∙ ap (λ y. take i all ++ y ∷ []) (sym is) in
    subst (λ (ss : List SourceEntry). AreIndexed t ss new) (sym r)
    (subst (λ (es : List SourceEntry). AreIndexed t (take i all ++ s ∷ []) es) (sym n)
    (indexed_push t (take i all) old s e h k))

-- ---- all of them

program_same : (ts : List (List ℕ)) (t : NodeTable) (us : Items SourceEntry) (ss es : List SourceEntry)
    → AreIndexed t ss es
    → source_trees ts (with_sources t us) es ≡ source_trees ts t ss
program_same ts t us [] [] h = refl
program_same ts t us [] (e ∷ es) h = absurd h
program_same ts t us (s ∷ ss) [] h = absurd h
program_same ts t us (s ∷ ss) (e ∷ es) h =
    let k : IsIndexed t s e = h.0 in
    ap (λ x. let r : SourceTree = record { source = e.source; tree = x } in r ∷ source_trees ts (with_sources t us) es)
    (same_tree ts t us e.root)
    ∙ ap (λ x. let r : SourceTree = record { source = x; tree = tree ts t e.root } in
    r ∷ source_trees ts (with_sources t us) es)
    k.source
    ∙ ap (λ x. let r : SourceTree = record { source = s.source; tree = tree ts t x } in
    r ∷ source_trees ts (with_sources t us) es)
    k.root
    ∙ ap (λ ps. source_tree ts t s ∷ ps) (program_same ts t us ss es h.1)

found_same : (t : NodeTable) (us : Items SourceEntry) (ss es : List SourceEntry)
    → AreIndexed t ss es
    → (ts : List (List ℕ)) (i : ℕ) (e : SourceEntry)
    → slice_get es i ≡ Some e
    → (x : ℕ)
    → function_in x (tree ts (with_sources t us) e.root) ≡ indexed_code ts (with_sources t us) e x
found_same t us [] [] h ts i e g x = absurd cc
found_same t us [] (f ∷ es) h ts i e g x = absurd h
found_same t us (s ∷ ss) [] h ts i e g x = absurd h
found_same t us (s ∷ ss) (f ∷ es) h ts zero e g x =
    let k : IsIndexed t s f = h.0 in
    let q : f ≡ e = cc in
    ap (function_in x) (same_tree ts t us e.root)
    ∙ subst (λ (y : SourceEntry). function_in x (tree ts t y.root) ≡ indexed_code ts t y x) q (k.finds ts x)
    ∙ sym (same_number ts t us (slice_get e.functions.items x))
found_same t us (s ∷ ss) (f ∷ es) h ts (suc i) e g x = found_same t us ss es h.1 ts i e g x

indexed_compiled : (ts : List (List ℕ)) (xs : Terms) (t : NodeTable) (es : Items SourceEntry) (root : ℕ)
    → HasNodes ts xs t root
    → AreIndexed t t.sources.items es.items
    → IsCompiled ts xs (with_sources t es) root
indexed_compiled ts xs t es root h k = record {
  table = same_nodes t (with_sources t es) refl refl h.table;
  places = same_places t (with_sources t es) refl (begins_same t.functions.items) h.places;
  functions = record { finds = found_same t es t.sources.items es.items k };
  program = λ us g. program_same us t es t.sources.items es.items k ∙ h.program us g;
  tree = λ us g. same_tree us t es root ∙ h.tree us g;
}

pub code_compiled : (ts : List (List ℕ)) (xs : Terms) (c d : ScriptCode) (o : Option ScriptCode)
    → o ≡ Some c
    → HaveNodes ts xs o
    → IsIndexedCode c d
    → IsCompiled ts xs d.table d.root
code_compiled ts xs c d o e h k =
    let n : HaveNodes ts xs (Some c) = subst (λ (p : Option ScriptCode). HaveNodes ts xs p) e h in
    subst (λ (r : ℕ). IsCompiled ts xs d.table r) (sym k.root)
    (subst (λ (t : NodeTable). IsCompiled ts xs t c.root) (sym k.others)
    (indexed_compiled ts xs c.table d.table.sources c.root n k.sources))
