-- Tables that go on, and what stands in them however they go on.
use Rattle.std.specs.Prelude.{◌≡◌, ℕ, ◌<◌, ◌≤◌, true, false, List, ◌++◌, length, Option, Some, None, slice_get}
use Rattle.std.specs.Global.{Vec}
use Rattle.js_heap.specs.declared.cell.Binding.{Binding}
use Rattle.js_semantics.specs.declared.form.Form.{Form}
use Rattle.js_semantics.specs.declared.form.FunctionForm.{FunctionForm}
use Rattle.js_semantics.specs.declared.form.Member.{Member}
use Rattle.js_semantics.specs.Terms.{Term, Terms}
use Rattle.js_heap_memory.specs.Names.{name_of, GoesOn}
use Rattle.js_heap_memory.specs.Cells.{binding_at, bindings, texts_of}
use Rattle.js_heap_memory.specs.declared.names.NameId.{NameId}
use Rattle.js_heap_memory.specs.declared.stored.Slot.{Slot}
use Rattle.js_machine_nodes.specs.declared.op.Op.{Op}
use Rattle.js_machine_nodes.specs.declared.op.Op.TheVariants as ops
use Rattle.js_machine_nodes.specs.declared.node.Node.{Node}
use Rattle.js_machine_nodes.specs.declared.node.FunctionEntry.{FunctionEntry}
use Rattle.js_machine_nodes.specs.declared.node.MemberEntry.{MemberEntry}
use Rattle.js_machine_nodes.specs.declared.table.NodeTable.{NodeTable}
use Rattle.js_machine_nodes.specs.Ops.{is_literal, is_task_only, is_loop}
use Rattle.js_machine_nodes.specs.Forms.{member_of, members_of, function_of, form_of}
use Rattle.js_machine_nodes.specs.Trees.{terms, tree_within, EachBelow, IsTable}
use Rattle.js_machine_compiler.specs.declared.nodes.Instruction.{Instruction}
use Rattle.js_machine_compiler.specs.Plain.{is_plain_form, is_plain, are_plain}

-- ---- names, however their table goes on

-- the number has this text
abbrev pub Known : List (List ℕ) → ℕ → List ℕ → Type 0
Known ts n text = (us : List (List ℕ)) → GoesOn ts us → name_of us n ≡ text

-- the numbered name is this one of a scope
abbrev pub IsBinding : List (List ℕ) → Slot → Binding → Type 0
IsBinding ts s b = (us : List (List ℕ)) → GoesOn ts us → binding_at us s ≡ b

-- the numbered names are these of a scope
abbrev pub AreBindings : List (List ℕ) → List Slot → List Binding → Type 0
AreBindings ts ss bs = (us : List (List ℕ)) → GoesOn ts us → bindings us ss ≡ bs

-- the numbers have these texts
abbrev pub AreTexts : List (List ℕ) → List NameId → List (List ℕ) → Type 0
AreTexts ts ns texts = (us : List (List ℕ)) → GoesOn ts us → texts_of us ns ≡ texts

-- the entry is that of this member of an object literal
abbrev pub IsMember : List (List ℕ) → MemberEntry → Member → Type 0
IsMember ts e m = (us : List (List ℕ)) → GoesOn ts us → member_of us e ≡ m

-- the entries are those of these members
abbrev pub AreMembers : List (List ℕ) → List MemberEntry → List Member → Type 0
AreMembers ts es ms = (us : List (List ℕ)) → GoesOn ts us → members_of us es ≡ ms

-- the entry is that of this function
abbrev pub IsFunction : List (List ℕ) → FunctionEntry → FunctionForm → Type 0
IsFunction ts e f = (us : List (List ℕ)) → GoesOn ts us → function_of us e ≡ f

-- ---- tables

-- a list that goes on behind another
pub record Begins {X : Type 0} (xs ys : List X) : Type 0 where
  pub rest : List X
  pub is : ys ≡ xs ++ rest

-- every node and entry keeps its number
pub record Extends (t u : NodeTable) : Type 0 where
  pub nodes : Begins t.nodes.items u.nodes.items
  pub kids : Begins t.kids.items u.kids.items
  pub constants : Begins t.constants.items u.constants.items
  pub blocks : Begins t.blocks.items u.blocks.items
  pub scripts : Begins t.scripts.items u.scripts.items
  pub fors : Begins t.fors.items u.fors.items
  pub for_ofs : Begins t.for_ofs.items u.for_ofs.items
  pub functions : Begins t.functions.items u.functions.items
  pub objects : Begins t.objects.items u.objects.items
  pub calls : Begins t.calls.items u.calls.items

-- ---- functions: the entry of a function has the number of its node

-- there is an entry, and it has the number of this node
abbrev pub IsEntryAt : ℕ → Option FunctionEntry → Type 0
IsEntryAt n None = ⊥
IsEntryAt n (Some e) = e.at ≡ n

-- a node that is a function or a method has an entry with its number
abbrev pub IsPlacedAt : NodeTable → Op → ℕ → ℕ → Type 0
IsPlacedAt t ops.Function info n = IsEntryAt n (slice_get t.functions.items info)
IsPlacedAt t ops.Method info n = IsEntryAt n (slice_get t.functions.items info)
IsPlacedAt t op info n = Unit {0}

-- the node that stands there has, if one does
abbrev pub IsPlacedNode : NodeTable → ℕ → Option Node → Type 0
IsPlacedNode t n None = Unit {0}
IsPlacedNode t n (Some node) = IsPlacedAt t node.op node.info n

-- each function and method of a table has an entry with the number of its node
pub record HasPlaces (t : NodeTable) : Type 0 where
  pub nodes : (n : ℕ) → IsPlacedNode t n (slice_get t.nodes.items n)

-- a table that goes on, the parts of each node before it, with the sources as they were
pub record KeepsTable (t u : NodeTable) : Type 0 where
  pub entries : Extends t u
  pub table : IsTable t → IsTable u
  pub places : HasPlaces t → HasPlaces u
  pub sources : u.sources ≡ t.sources

-- names and a table that go on
pub record Grows (ts : List (List ℕ)) (t : NodeTable) (us : List (List ℕ)) (u : NodeTable) : Type 0 where
  pub names : GoesOn ts us
  pub table : KeepsTable t u

-- what the next node does stands for a form, however names and table go on
pub record HasForm (ts : List (List ℕ)) (t : NodeTable) (op : Op) (info : ℕ) (f : Form) : Type 0 where
  pub is : (us : List (List ℕ)) (u : NodeTable) → GoesOn ts us → Extends t u → form_of us u op info ≡ f
  pub source : is_task_only op ≡ false
  pub inner : is_literal op ≡ false
  pub turns : is_loop op ≡ true → info ≡ 0
  pub place : IsPlacedAt t op info (length t.nodes.items)

-- the answer for a form: an entry that stands for it, or none where no node has it
abbrev pub Enters : List (List ℕ) → NodeTable → Form → Option Instruction → Type 0
Enters ts t f None = is_plain_form f ≡ false
Enters ts t f (Some e) = HasForm ts t e.op e.info f

-- a node has a tree, however names and table go on
pub record HasTree (ts : List (List ℕ)) (t : NodeTable) (n : ℕ) (x : Term) : Type 0 where
  pub below : n < length t.nodes.items
  pub is : (us : List (List ℕ)) (u : NodeTable) (fuel : ℕ)
      → n < fuel
      → GoesOn ts us
      → Extends t u
      → tree_within us u fuel n ≡ x

-- nodes have trees, in order
pub record HaveTrees (ts : List (List ℕ)) (t : NodeTable) (ns : List ℕ) (xs : Terms) : Type 0 where
  pub below : EachBelow (length t.nodes.items) ns
  pub are : (us : List (List ℕ)) (u : NodeTable) (fuel : ℕ)
      → length t.nodes.items ≤ fuel
      → GoesOn ts us
      → Extends t u
      → terms (tree_within us u fuel) ns ≡ xs

-- the answer for a term: a node, or none where no node has such a tree
abbrev pub HoldsTerm : List (List ℕ) → NodeTable → Term → Option ℕ → Type 0
HoldsTerm ts t x None = is_plain x ≡ false
HoldsTerm ts t x (Some n) = HasTree ts t n x

-- the answer for some terms: nodes, or none where no nodes have such trees
abbrev pub HoldsAll : List (List ℕ) → NodeTable → Terms → Option (Vec ℕ) → Type 0
HoldsAll ts t xs None = are_plain xs ≡ false
HoldsAll ts t xs (Some ns) = HaveTrees ts t ns.items xs
