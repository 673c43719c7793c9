-- The walk that fills an index finds what the tree of the node has.
use Rattle.std.proofs.Common.{◌≡◌, ℕ, suc, ◌+◌, ◌<◌, ◌≤◌, Bool, true, false, List, length, Option, None, Some, if◌then◌else◌, slice_get, refl, sym, ap, subst, ◌∙◌, arith}
use Rattle.std.specs.Prelude.{nat_eq, nat_lt}
use Rattle.js_semantics.specs.declared.form.FunctionForm.{FunctionForm}
use Rattle.js_semantics.specs.Terms.{Term, done, Terms, end, more}
use Rattle.js_semantics.specs.Functions.{first_code, code_if, code_here, function_in, function_in_all}
use Rattle.js_heap.specs.declared.value.Value.TheVariants as values
use Rattle.js_heap_memory.specs.declared.stored.Slot.{Slot}
use Rattle.js_machine_nodes.specs.declared.op.Op.{Op}
use Rattle.js_machine_nodes.specs.declared.op.Op.TheVariants as ops
use Rattle.js_machine_nodes.specs.declared.node.Node.{Node}
use Rattle.js_machine_nodes.specs.declared.node.ScriptEntry.{ScriptEntry}
use Rattle.js_machine_nodes.specs.declared.node.ForEntry.{ForEntry}
use Rattle.js_machine_nodes.specs.declared.node.ForOfEntry.{ForOfEntry}
use Rattle.js_machine_nodes.specs.declared.node.CallEntry.{CallEntry}
use Rattle.js_machine_nodes.specs.declared.node.MemberEntry.{MemberEntry}
use Rattle.js_machine_nodes.specs.declared.node.FunctionEntry.{FunctionEntry}
use Rattle.js_machine_nodes.specs.declared.table.NodeTable.{NodeTable}
use Rattle.js_machine_nodes.specs.Ops.{is_literal}
use Rattle.js_machine_nodes.specs.Forms.{function_of, script_form, for_form, for_of_form, list_form, block_form, function_form, method_form, object_form, members_at, call_form, name_call_form, member_call_form, index_call_form, form_of}
use Rattle.js_machine_nodes.specs.Trees.{constant_at, kid_at, kids_between, terms, tree, trees, node_term, IsTable}
use Rattle.js_machine_nodes.specs.Codes.{code_of_parts, code_of_node, code_of_entry, code_of_number}
use Rattle.js_machine_compiler.specs.Grown.{IsEntryAt, IsPlacedAt, IsPlacedNode, HasPlaces}
use Rattle.js_machine_compiler.specs.Index.{number_at, node_of, body_node, function_node_by, function_node, number_with, code_found, IsFilled}
use Rattle.js_machine_nodes.proofs.TreeLemmas.{kids-some, kids-end, literal-tree, node-at}
use Rattle.js_machine_compiler.proofs.IndexLemmas.{first_first, kid_some, found_in_node, found_before}
use Rattle.js_heap_memory.proofs.GrowLemmas.{false_le}
use Rattle.std.proofs.lemmas.Bool.{ltb-true}

-- ---- nodes in which nothing is found

nothing_found : (ts : List (List ℕ)) (t : NodeTable) (n x : ℕ) (index : List ℕ)
    → function_in x (tree ts t n) ≡ None
    → code_found ts t index x ≡ first_code (function_in x (tree ts t n)) (code_found ts t index x)
nothing_found ts t n x index e = sym (ap (λ o. first_code o (code_found ts t index x)) e)

missing : (o : Option Node) → ((node : Node) → o ≡ Some node → ⊥) → o ≡ None
missing None h = refl
missing (Some node) h = absurd (h node refl)

no_tree : (ts : List (List ℕ)) (t : NodeTable) (n : ℕ)
    → slice_get t.nodes.items n ≡ None
    → tree ts t n ≡ done values.Undefined
unfolding tree
no_tree ts t n e = ap (node_term ts t _) e

pub filled_none : (t : NodeTable) (n : ℕ) (o : Option Node) (index : List ℕ)
    → o ≡ slice_get t.nodes.items n
    → ((node : Node) → o ≡ Some node → ⊥)
    → IsFilled t n index index
filled_none t n o index e h ts x =
    nothing_found ts t n x index (ap (function_in x) (no_tree ts t n (sym e ∙ missing o h)))

pub filled_literal : (t : NodeTable) (n : ℕ) (node : Node) (index : List ℕ)
    → slice_get t.nodes.items n ≡ Some node
    → is_literal node.op ≡ true
    → IsFilled t n index index
filled_literal t n node index e l ts x =
    nothing_found ts t n x index (ap (function_in x) (literal-tree t n node (constant_at t node.info) e l refl ts))

-- ---- a node that is no function

no_script : (ts : List (List ℕ)) (o : Option ScriptEntry) (x : ℕ) (later : Terms)
    → code_here (script_form ts o) x later ≡ None
no_script ts None x later = refl
no_script ts (Some e) x later = refl

no_for : (ts : List (List ℕ)) (o : Option ForEntry) (x : ℕ) (later : Terms) → code_here (for_form ts o) x later ≡ None
no_for ts None x later = refl
no_for ts (Some e) x later = refl

no_for_of : (ts : List (List ℕ)) (o : Option ForOfEntry) (x : ℕ) (later : Terms)
    → code_here (for_of_form ts o) x later ≡ None
no_for_of ts None x later = refl
no_for_of ts (Some e) x later = refl

no_list : (ts : List (List ℕ)) (o : Option ForOfEntry) (x : ℕ) (later : Terms)
    → code_here (list_form ts o) x later ≡ None
no_list ts None x later = refl
no_list ts (Some e) x later = refl

no_block : (ts : List (List ℕ)) (o : Option (List Slot)) (x : ℕ) (later : Terms)
    → code_here (block_form ts o) x later ≡ None
no_block ts None x later = refl
no_block ts (Some e) x later = refl

no_object : (ts : List (List ℕ)) (o : Option (List MemberEntry)) (x : ℕ) (later : Terms)
    → code_here (object_form ts o) x later ≡ None
no_object ts None x later = refl
no_object ts (Some e) x later = refl

no_call : (o : Option CallEntry) (x : ℕ) (later : Terms) → code_here (call_form o) x later ≡ None
no_call None x later = refl
no_call (Some e) x later = refl

no_name_call : (ts : List (List ℕ)) (o : Option CallEntry) (x : ℕ) (later : Terms)
    → code_here (name_call_form ts o) x later ≡ None
no_name_call ts None x later = refl
no_name_call ts (Some e) x later = refl

no_member_call : (ts : List (List ℕ)) (o : Option CallEntry) (x : ℕ) (later : Terms)
    → code_here (member_call_form ts o) x later ≡ None
no_member_call ts None x later = refl
no_member_call ts (Some e) x later = refl

no_index_call : (o : Option CallEntry) (x : ℕ) (later : Terms) → code_here (index_call_form o) x later ≡ None
no_index_call None x later = refl
no_index_call (Some e) x later = refl

-- ---- a node that is a function

-- its own number, where it has a body, comes before what the index had
put_if : (ts : List (List ℕ)) (t : NodeTable) (f : FunctionForm) (b c : Bool) (m k q : ℕ) (later : Terms)
    → (b ≡ false → later ≡ end)
    → (b ≡ false → q ≡ k)
    → (b ≡ true → (body : Term) × (functions : Terms) × (later ≡ more body functions))
    → (b ≡ true → q ≡ (if c then m else k))
    → code_of_number ts t (Some m) ≡ code_of_parts f later
    → code_of_number ts t (Some q) ≡ first_code (code_if c f later) (code_of_number ts t (Some k))
put_if ts t f false true m k q later none same some put e =
    ap (λ n. code_of_number ts t (Some n)) (same refl)
    ∙ sym (ap (λ l. first_code (code_if true f l) (code_of_number ts t (Some k))) (none refl))
put_if ts t f false false m k q later none same some put e = ap (λ n. code_of_number ts t (Some n)) (same refl)
put_if ts t f true false m k q later none same some put e = ap (λ n. code_of_number ts t (Some n)) (put refl)
put_if ts t f true true m k q later none same some put e =
    let s = some refl in
    ap (λ n. code_of_number ts t (Some n)) (put refl)
    ∙ e
    ∙ ap (code_of_parts f) s.2
    ∙ sym (ap (λ l. first_code (code_if true f l) (code_of_number ts t (Some k))) s.2)

number_same : (b : Bool) (at m x : ℕ) (index : List ℕ)
    → b ≡ false
    → number_with (if b then Some at else None) m index x ≡ number_at index x
number_same b at m x index e = ap (λ c. number_with (if c then Some at else None) m index x) e

number_put : (b : Bool) (at m x : ℕ) (index : List ℕ)
    → b ≡ true
    → number_with (if b then Some at else None) m index x ≡ (if nat_eq at x then m else number_at index x)
number_put b at m x index e = ap (λ c. number_with (if c then Some at else None) m index x) e

later_none : (ts : List (List ℕ)) (t : NodeTable) (a b : ℕ) → nat_lt a b ≡ false → trees ts t a b ≡ end
later_none ts t a b e = ap (terms (tree ts t)) (kids-end t a b (false_le a b e))

later_some : (ts : List (List ℕ)) (t : NodeTable) (a b : ℕ)
    → b ≤ length t.kids.items
    → nat_lt a b ≡ true
    → (body : Term) × (functions : Terms) × (trees ts t a b ≡ more body functions)
later_some ts t a b h e =
    let l = ltb-true a b e in (
      tree ts t (kid_at t a),
      terms (tree ts t) (kids_between t (a + 1) b),
      ap (terms (tree ts t)) (kids-some t a b (kid_at t a) l (kid_some t a (omega arith))),
    )

entry_code : (ts : List (List ℕ)) (t : NodeTable) (n : ℕ) (node : Node) (e : FunctionEntry)
    → slice_get t.nodes.items n ≡ Some node
    → slice_get t.functions.items node.info ≡ Some e
    → e.at ≡ n
    → code_of_number ts t (Some (node.info + 1)) ≡ code_of_parts (function_of ts e) (trees ts t node.mid node.end)
entry_code ts t n node e s h p =
    let k : node.info + 1 ≡ suc node.info = omega arith in
    ap (λ m. code_of_number ts t (Some m)) k
    ∙ ap (code_of_entry ts t) h
    ∙ ap (λ m. code_of_node ts t e (slice_get t.nodes.items m)) p
    ∙ ap (code_of_node ts t e) s

function_put : (ts : List (List ℕ)) (t : NodeTable) (n : ℕ) (node : Node) (x : ℕ) (index : List ℕ)
    (o : Option FunctionEntry)
    → IsTable t
    → slice_get t.nodes.items n ≡ Some node
    → slice_get t.functions.items node.info ≡ o
    → IsEntryAt n o
    → code_of_number ts t
    (Some (number_with (if nat_lt node.mid node.end then node_of o else None) (node.info + 1) index x))
    ≡ first_code (code_here (function_form ts o) x (trees ts t node.mid node.end)) (code_found ts t index x)
function_put ts t n node x index None table e h p = absurd p
function_put ts t n node x index (Some f) table e h p =
    let w = node-at t n node table e in
    put_if ts t (function_of ts f) (nat_lt node.mid node.end) (nat_eq f.node x) (node.info + 1) (number_at index x)
    (number_with (if nat_lt node.mid node.end then Some f.node else None) (node.info + 1) index x)
    (trees ts t node.mid node.end) (later_none ts t node.mid node.end)
    (number_same (nat_lt node.mid node.end) f.node (node.info + 1) x index)
    (later_some ts t node.mid node.end w.within) (number_put (nat_lt node.mid node.end) f.node (node.info + 1) x index)
    (entry_code ts t n node f e h p)

method_put : (ts : List (List ℕ)) (t : NodeTable) (n : ℕ) (node : Node) (x : ℕ) (index : List ℕ)
    (o : Option FunctionEntry)
    → IsTable t
    → slice_get t.nodes.items n ≡ Some node
    → slice_get t.functions.items node.info ≡ o
    → IsEntryAt n o
    → code_of_number ts t
    (Some (number_with (if nat_lt node.mid node.end then node_of o else None) (node.info + 1) index x))
    ≡ first_code (code_here (method_form ts o) x (trees ts t node.mid node.end)) (code_found ts t index x)
method_put ts t n node x index None table e h p = absurd p
method_put ts t n node x index (Some f) table e h p = function_put ts t n node x index (Some f) table e h p

-- whatever it is
other_put : (ts : List (List ℕ)) (t : NodeTable) (op : Op) (info x : ℕ) (later : Terms) (q k : ℕ)
    → q ≡ k
    → code_here (form_of ts t op info) x later ≡ None
    → code_of_number ts t (Some q) ≡ first_code (code_here (form_of ts t op info) x later)
    (code_of_number ts t (Some k))
other_put ts t op info x later q k e h =
    ap (λ n. code_of_number ts t (Some n)) e ∙ sym (ap (λ o. first_code o (code_of_number ts t (Some k))) h)

node_put : (ts : List (List ℕ)) (t : NodeTable) (n : ℕ) (node : Node) (x : ℕ) (index : List ℕ) (op : Op)
    → IsTable t
    → slice_get t.nodes.items n ≡ Some node
    → IsPlacedAt t op node.info n
    → code_of_number ts t (Some (number_with (function_node_by op (body_node t node)) (node.info + 1) index x))
    ≡ first_code (code_here (form_of ts t op node.info) x (trees ts t node.mid node.end)) (code_found ts t index x)
unfolding form_of
node_put ts t n node x index ops.Function table e p =
    function_put ts t n node x index (slice_get t.functions.items node.info) table e refl p
node_put ts t n node x index ops.Method table e p =
    method_put ts t n node x index (slice_get t.functions.items node.info) table e refl p
node_put ts t n node x index ops.Script table e p =
    other_put ts t ops.Script node.info x (trees ts t node.mid node.end) _ _ refl
    (no_script ts (slice_get t.scripts.items node.info) x _)
node_put ts t n node x index ops.EnterFor table e p =
    other_put ts t ops.EnterFor node.info x (trees ts t node.mid node.end) _ _ refl
    (no_for ts (slice_get t.fors.items node.info) x _)
node_put ts t n node x index ops.EnterForOf table e p =
    other_put ts t ops.EnterForOf node.info x (trees ts t node.mid node.end) _ _ refl
    (no_for_of ts (slice_get t.for_ofs.items node.info) x _)
node_put ts t n node x index ops.ListOf table e p =
    other_put ts t ops.ListOf node.info x (trees ts t node.mid node.end) _ _ refl
    (no_list ts (slice_get t.for_ofs.items node.info) x _)
node_put ts t n node x index ops.Block table e p =
    other_put ts t ops.Block node.info x (trees ts t node.mid node.end) _ _ refl
    (no_block ts (slice_get t.blocks.items node.info) x _)
node_put ts t n node x index ops.Object table e p =
    other_put ts t ops.Object node.info x (trees ts t node.mid node.end) _ _ refl
    (no_object ts (members_at t node.info) x _)
node_put ts t n node x index ops.Call table e p =
    other_put ts t ops.Call node.info x (trees ts t node.mid node.end) _ _ refl
    (no_call (slice_get t.calls.items node.info) x _)
node_put ts t n node x index ops.CallOfName table e p =
    other_put ts t ops.CallOfName node.info x (trees ts t node.mid node.end) _ _ refl
    (no_name_call ts (slice_get t.calls.items node.info) x _)
node_put ts t n node x index ops.CallOfMember table e p =
    other_put ts t ops.CallOfMember node.info x (trees ts t node.mid node.end) _ _ refl
    (no_member_call ts (slice_get t.calls.items node.info) x _)
node_put ts t n node x index ops.CallOfIndex table e p =
    other_put ts t ops.CallOfIndex node.info x (trees ts t node.mid node.end) _ _ refl
    (no_index_call (slice_get t.calls.items node.info) x _)
node_put ts t n node x index op table e p = refl

-- ---- the walk

-- no part is put yet
pub parts_none : (t : NodeTable) (from to : ℕ) (index : List ℕ)
    → to ≤ from
    → (ts : List (List ℕ)) (x : ℕ)
    → code_found ts t index x ≡ first_code (function_in_all x (trees ts t from to)) (code_found ts t index x)
parts_none t from to index h ts x =
    sym (ap (λ ks. first_code (function_in_all x (terms (tree ts t) ks)) (code_found ts t index x))
    (kids-end t from to h))

-- one more part is put, from the last to the first
pub parts_before : (t : NodeTable) (n i j : ℕ) (node : Node) (k : ℕ) (old mid new : List ℕ)
    → IsTable t
    → slice_get t.nodes.items n ≡ Some node
    → i < node.end
    → i + 1 ≡ j
    → k ≡ kid_at t i
    → IsFilled t k mid new
    → ((ts : List (List ℕ)) (x : ℕ)
    → code_found ts t mid x ≡ first_code (function_in_all x (trees ts t j node.end)) (code_found ts t old x))
    → (ts : List (List ℕ)) (x : ℕ)
    → code_found ts t new x ≡ first_code (function_in_all x (trees ts t i node.end)) (code_found ts t old x)
parts_before t n i j node k old mid new table e l s is h p ts x =
    let q = subst
    (λ (m : ℕ). code_found ts t mid x ≡ first_code (function_in_all x (trees ts t m node.end))
    (code_found ts t old x))
    (sym s) (p ts x) in
    found_before ts t n i node x (code_found ts t old x) (code_found ts t mid x) (code_found ts t new x) table e l q
    (h ts x ∙ ap (λ m. first_code (function_in x (tree ts t m)) (code_found ts t mid x)) is)

-- all parts are put, and then the node itself
pub filled_node : (t : NodeTable) (n i : ℕ) (node : Node) (old mid new : List ℕ)
    → IsTable t
    → HasPlaces t
    → slice_get t.nodes.items n ≡ Some node
    → is_literal node.op ≡ false
    → i ≡ node.first
    → ((ts : List (List ℕ)) (x : ℕ)
    → code_found ts t mid x ≡ first_code (function_in_all x (trees ts t i node.end)) (code_found ts t old x))
    → ((x : ℕ) → number_at new x ≡ number_with (function_node t node) (node.info + 1) mid x) → IsFilled t n old new
filled_node t n i node old mid new table places e l s h k ts x =
    let p : IsPlacedNode t n (Some node) = subst (λ (o : Option Node). IsPlacedNode t n o) e (places.nodes n) in
    ap (λ q. code_of_number ts t (Some q)) (k x)
    ∙ node_put ts t n node x mid node.op table e p
    ∙ ap (first_code (code_here (form_of ts t node.op node.info) x (trees ts t node.mid node.end)))
    (h ts x ∙ ap (λ m. first_code (function_in_all x (trees ts t m node.end)) (code_found ts t old x)) s)
    ∙ sym (first_first (code_here (form_of ts t node.op node.info) x (trees ts t node.mid node.end))
    (function_in_all x (trees ts t node.first node.end)) (code_found ts t old x))
    ∙ ap (λ o. first_code o (code_found ts t old x)) (sym (found_in_node ts t n node x table e l))
