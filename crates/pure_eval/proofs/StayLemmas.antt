-- The trees and the code of a table stay when it goes on.
use Rattle.std.proofs.Common.{◌≡◌, ℕ, zero, suc, ◌-◌, ◌<◌, ◌≤◌, Bool, true, false, List, [], ◌∷◌, ◌++◌, length, map, Option, None, Some, if◌then◌else◌, refl, sym, ap, ◌∙◌, arith}
use Rattle.std.specs.Prelude.{slice_get, unwrap_or}
use Rattle.js_heap.specs.declared.value.Value.TheVariants as values
use Rattle.js_semantics.specs.declared.form.Form.{Form}
use Rattle.js_semantics.specs.Terms.{Term, done, part, Terms}
use Rattle.js_semantics.specs.Functions.{SourceTree, function_in}
use Rattle.js_machine_nodes.specs.declared.op.Op.{Op}
use Rattle.js_machine_nodes.specs.declared.op.Op.TheVariants as ops
use Rattle.js_machine_nodes.specs.declared.node.Node.{Node}
use Rattle.js_machine_nodes.specs.declared.node.FunctionEntry.{FunctionEntry}
use Rattle.js_machine_nodes.specs.declared.node.SourceEntry.{SourceEntry}
use Rattle.js_machine_nodes.specs.declared.table.NodeTable.{NodeTable}
use Rattle.js_machine_nodes.specs.Ops.{is_literal, is_task_only}
use Rattle.js_machine_nodes.specs.Forms.{form_of, function_of, script_form, for_form, for_of_form, block_form, function_form, method_form, object_form, call_form, name_call_form, member_call_form, index_call_form}
use Rattle.js_machine_nodes.specs.Trees.{constant_at, kids_between, terms, node_term, tree_within, tree, IsNodeAt, IsTable, source_tree, source_trees}
use Rattle.js_machine_nodes.specs.Codes.{code_of_parts, code_of_node, code_of_entry, code_of_number}
use Rattle.js_machine_compiler.specs.Grown.{Begins, Extends}
use Rattle.js_machine_nodes.proofs.TreeLemmas.{now-below, later-below, terms_same}
use Rattle.pure_eval.specs.Whole.{names_entry, AreClosed, ArePlaced, IsWithin, Finds}
use Rattle.js_machine_compiler.proofs.GrownLemmas.{begins_between, front}
use Rattle.std.proofs.lemmas.Bool.{ltb-true}

-- ---- lists that go on

pub here : {X : Type 0} (xs ys : List X) (i : ℕ) → Begins xs ys → i < length xs → slice_get ys i ≡ slice_get xs i
here xs ys i b h = ap (λ zs. slice_get zs i) b.is ∙ front xs b.rest i h

front_map : {X Y : Type 0} (f : X → Y) (xs ys : List X) (i : ℕ)
    → i < length xs
    → slice_get (map f (xs ++ ys)) i ≡ slice_get (map f xs) i
front_map f [] ys i h = absurd (omega arith)
front_map f (x ∷ xs) ys zero h = refl
front_map f (x ∷ xs) ys (suc i) h = front_map f xs ys i (omega arith)

here_map : {X Y : Type 0} (f : X → Y) (xs ys : List X) (i : ℕ)
    → Begins xs ys
    → i < length xs
    → slice_get (map f ys) i ≡ slice_get (map f xs) i
here_map f xs ys i b h = ap (λ zs. slice_get (map f zs) i) b.is ∙ front_map f xs b.rest i h

pub kids-stay : (t u : NodeTable) (from to : ℕ)
    → Extends t u
    → from ≤ to
    → to ≤ length t.kids.items
    → kids_between u from to ≡ kids_between t from to
kids-stay t u from to x h k = begins_between t.kids.items u.kids.items from to x.kids h k

-- ---- what a node does

form_stays : (ts : List (List ℕ)) (t u : NodeTable) (op : Op) (n : ℕ)
    → Extends t u
    → is_task_only op ≡ false
    → names_entry t op n ≡ true
    → form_of ts u op n ≡ form_of ts t op n
unfolding form_of
form_stays ts t u ops.Script n x k c =
    ap (script_form ts) (here t.scripts.items u.scripts.items n x.scripts (ltb-true n (length t.scripts.items) c))
form_stays ts t u ops.EnterFor n x k c =
    ap (for_form ts) (here t.fors.items u.fors.items n x.fors (ltb-true n (length t.fors.items) c))
form_stays ts t u ops.EnterForOf n x k c =
    ap (for_of_form ts) (here t.for_ofs.items u.for_ofs.items n x.for_ofs (ltb-true n (length t.for_ofs.items) c))
form_stays ts t u ops.Block n x k c =
    ap (block_form ts) (here t.blocks.items u.blocks.items n x.blocks (ltb-true n (length t.blocks.items) c))
form_stays ts t u ops.Function n x k c =
    ap (function_form ts)
    (here t.functions.items u.functions.items n x.functions (ltb-true n (length t.functions.items) c))
form_stays ts t u ops.Method n x k c =
    ap (method_form ts)
    (here t.functions.items u.functions.items n x.functions (ltb-true n (length t.functions.items) c))
form_stays ts t u ops.Object n x k c =
    ap (object_form ts)
    (here_map (λ ms. ms.items) t.objects.items u.objects.items n x.objects (ltb-true n (length t.objects.items) c))
form_stays ts t u ops.Call n x k c =
    ap call_form (here t.calls.items u.calls.items n x.calls (ltb-true n (length t.calls.items) c))
form_stays ts t u ops.CallOfName n x k c =
    ap (name_call_form ts) (here t.calls.items u.calls.items n x.calls (ltb-true n (length t.calls.items) c))
form_stays ts t u ops.CallOfMember n x k c =
    ap (member_call_form ts) (here t.calls.items u.calls.items n x.calls (ltb-true n (length t.calls.items) c))
form_stays ts t u ops.CallOfIndex n x k c =
    ap index_call_form (here t.calls.items u.calls.items n x.calls (ltb-true n (length t.calls.items) c))
form_stays ts t u ops.ListOf n x k c = absurd cc
form_stays ts t u _ n x k c = refl

constant_stays : (t u : NodeTable) (op : Op) (n : ℕ)
    → Extends t u
    → is_literal op ≡ true
    → names_entry t op n ≡ true
    → constant_at u n ≡ constant_at t n
unfolding constant_at
constant_stays t u ops.Literal n x l c =
    ap (λ o. unwrap_or o values.Undefined)
    (here t.constants.items u.constants.items n x.constants (ltb-true n (length t.constants.items) c))
constant_stays t u _ n x l c = absurd cc

-- ---- trees

part_stays : (l : Bool) (v w : Term) (f g : Form) (xs ys us vs : Terms)
    → (l ≡ true → v ≡ w)
    → f ≡ g
    → xs ≡ ys
    → us ≡ vs
    → (if l then v else part f xs us) ≡ (if l then w else part g ys vs)
part_stays true v w f g xs ys us vs h i j k = h refl
part_stays false v w f g xs ys us vs h i j k = rw (i, j, k) refl

node_stays : (ts : List (List ℕ)) (t u : NodeTable) (a b : ℕ → Term) (n : ℕ) (o : Option Node)
    → Extends t u
    → ((k : ℕ) → k < n → a k ≡ b k)
    → IsNodeAt t n o
    → ((node : Node) → o ≡ Some node → names_entry t node.op node.info ≡ true)
    → node_term ts u a o ≡ node_term ts t b o
node_stays ts t u a b n None x same i c = refl
node_stays ts t u a b n (Some node) x same i c =
    part_stays (is_literal node.op) (done (constant_at u node.info)) (done (constant_at t node.info))
    (form_of ts u node.op node.info) (form_of ts t node.op node.info)
    (terms a (kids_between u node.first node.mid)) (terms b (kids_between t node.first node.mid))
    (terms a (kids_between u node.mid node.end)) (terms b (kids_between t node.mid node.end))
    (λ l. ap done (constant_stays t u node.op node.info x l (c node refl)))
    (form_stays ts t u node.op node.info x i.source (c node refl))
    (ap (terms a) (kids-stay t u node.first node.mid x i.now (omega (arith, i.later, i.within)))
    ∙ terms_same a b n (kids_between t node.first node.mid) same (now-below t n node i))
    (ap (terms a) (kids-stay t u node.mid node.end x i.later i.within)
    ∙ terms_same a b n (kids_between t node.mid node.end) same (later-below t n node i))

tree_stays : (ts : List (List ℕ)) (t u : NodeTable)
    → IsTable t
    → AreClosed t 0
    → Extends t u
    → (fuel n : ℕ)
    → n < length t.nodes.items
    → tree_within ts u fuel n ≡ tree_within ts t fuel n
tree_stays ts t u table closed x zero n h = refl
tree_stays ts t u table closed x (suc fuel) n h =
    ap (node_term ts u (tree_within ts u fuel)) (here t.nodes.items u.nodes.items n x.nodes h)
    ∙ node_stays ts t u (tree_within ts u fuel) (tree_within ts t fuel) n (slice_get t.nodes.items n) x
    (λ k l. tree_stays ts t u table closed x fuel k (omega arith)) (table.nodes n)
    (λ node e. closed n node (omega arith) e)

pub tree-stays : (ts : List (List ℕ)) (t u : NodeTable) (n : ℕ)
    → IsTable t
    → AreClosed t 0
    → Extends t u
    → n < length t.nodes.items
    → tree ts u n ≡ tree ts t n
unfolding tree
tree-stays ts t u n table closed x h = tree_stays ts t u table closed x (suc n) n h

-- ---- the code of functions

code_node_stays : (ts : List (List ℕ)) (t u : NodeTable) (f : FunctionEntry) (n : ℕ) (o : Option Node)
    → IsTable t
    → AreClosed t 0
    → Extends t u
    → n < length t.nodes.items
    → IsNodeAt t n o
    → code_of_node ts u f o ≡ code_of_node ts t f o
code_node_stays ts t u f n None table closed x h i = refl
code_node_stays ts t u f n (Some node) table closed x h i =
    ap (code_of_parts (function_of ts f)) (ap (terms (tree ts u)) (kids-stay t u node.mid node.end x i.later i.within)
    ∙ terms_same (tree ts u) (tree ts t) n (kids_between t node.mid node.end)
    (λ k l. tree-stays ts t u k table closed x (omega arith)) (later-below t n node i))

code_entry_stays : (ts : List (List ℕ)) (t u : NodeTable) (o : Option FunctionEntry)
    → IsTable t
    → AreClosed t 0
    → Extends t u
    → ((e : FunctionEntry) → o ≡ Some e → e.at < length t.nodes.items)
    → code_of_entry ts u o ≡ code_of_entry ts t o
code_entry_stays ts t u None table closed x p = refl
code_entry_stays ts t u (Some f) table closed x p =
    ap (code_of_node ts u f) (here t.nodes.items u.nodes.items f.at x.nodes (p f refl))
    ∙ code_node_stays ts t u f f.at (slice_get t.nodes.items f.at) table closed x (p f refl) (table.nodes f.at)

code_number_stays : (ts : List (List ℕ)) (t u : NodeTable) (o : Option ℕ)
    → IsTable t
    → AreClosed t 0
    → ArePlaced t 0
    → Extends t u
    → ((m : ℕ) → o ≡ Some m → m ≤ length t.functions.items)
    → code_of_number ts u o ≡ code_of_number ts t o
code_number_stays ts t u None table closed placed x b = refl
code_number_stays ts t u (Some zero) table closed placed x b = refl
code_number_stays ts t u (Some (suc n)) table closed placed x b =
    ap (code_of_entry ts u) (here t.functions.items u.functions.items n x.functions (omega (arith, b (suc n) refl)))
    ∙ code_entry_stays ts t u (slice_get t.functions.items n) table closed x (λ e h. placed n e (omega arith) h)

pub finds-stay : (t u : NodeTable) (e : SourceEntry)
    → IsTable t
    → AreClosed t 0
    → ArePlaced t 0
    → Extends t u
    → IsWithin t e
    → Finds t e
    → Finds u e
finds-stay t u e table closed placed x w f = λ ts n.
    ap (function_in n) (tree-stays ts t u e.root table closed x w.root) ∙ f ts n
    ∙ sym (code_number_stays ts t u (slice_get e.functions.items n) table closed placed x (w.numbers n))

-- ---- sources

pub sources-stay : (ts : List (List ℕ)) (t u : NodeTable) (es : List SourceEntry)
    → IsTable t
    → AreClosed t 0
    → Extends t u
    → ((i : ℕ) (e : SourceEntry) → slice_get es i ≡ Some e → IsWithin t e)
    → source_trees ts u es ≡ source_trees ts t es
sources-stay ts t u [] table closed x w = refl
sources-stay ts t u (e ∷ es) table closed x w =
    ap (λ y. let s : SourceTree = record { source = e.source; tree = y } in s ∷ source_trees ts u es)
    (tree-stays ts t u e.root table closed x (w 0 e refl).root)
    ∙ ap (λ ps. source_tree ts t e ∷ ps) (sources-stay ts t u es table closed x (λ i. w (suc i)))
