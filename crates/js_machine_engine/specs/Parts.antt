-- The parts of the innermost task.
use Rattle.std.specs.Prelude.{◌≡◌, ℕ, ◌<◌, Bool, true, false, List, [], ◌∷◌, Option, Some, None, slice_get}
use Rattle.js_heap.specs.declared.value.Value.{Value}
use Rattle.js_semantics.specs.Terms.{Terms, end, joined, dones}
use Rattle.js_machine_nodes.specs.declared.node.Node.{Node}
use Rattle.js_machine_nodes.specs.declared.table.NodeTable.{NodeTable}
use Rattle.js_machine_nodes.specs.Ops.{is_literal}
use Rattle.js_machine_nodes.specs.Trees.{tree, trees, kids_between, EachBelow}
use Rattle.js_machine_engine.specs.Gaps.{gap_parts}
use Rattle.js_machine_engine.specs.Tasks.{Wide, gap_of}
use Rattle.js_machine_engine.specs.Stacks.{values_of}

-- a node that is no value
abbrev pub IsOpen : Option Node → Type 0
IsOpen None = ⊥
IsOpen (Some node) = is_literal node.op ≡ false

-- where the next part of the innermost task stands
abbrev pub at_of : List Wide → ℕ
at_of [] = 0
at_of (w ∷ ws) = w.at

-- where those parts of the innermost task end that are still to come
abbrev pub mid_of : List Wide → ℕ
mid_of [] = 0
mid_of (w ∷ ws) = w.mid

-- the parts of the innermost task: values, and then the trees of those that come
abbrev pub parts_of : List (List ℕ) → NodeTable → List Wide → Terms
parts_of ts t [] = end
parts_of ts t (w ∷ ws) = joined (dones w.values) (trees ts t w.at w.mid)

-- the parts of the innermost task with this node in the gap; without one, all are values
abbrev pub parts_with : List (List ℕ) → NodeTable → List Wide → Option ℕ → Terms
parts_with ts t [] n = end
parts_with ts t (w ∷ ws) None = dones w.values
parts_with ts t (w ∷ ws) (Some n) = gap_parts (gap_of ts t w) (tree ts t n)

-- the innermost task has other values, and another next part
abbrev pub moved : ℕ → List Value → List Wide → List Wide
moved at vs [] = []
moved at vs (w ∷ ws) = record w { at = at; values = vs } ∷ ws

-- the parts before a place have got their values
pub record IsTaken (t : NodeTable) (old new : List Wide) (at : ℕ) : Type 0 where
  pub same : new ≡ moved (at_of old) (values_of new) old
  pub parts : (ts : List (List ℕ)) → joined (dones (values_of new)) (trees ts t at (mid_of old)) ≡ parts_of ts t old
  pub below : (m : ℕ)
      → EachBelow m (kids_between t (at_of old) (mid_of old))
      → EachBelow m (kids_between t at (mid_of old))

-- the next part that is no value: a node that is one of those that came
pub record IsPart (t : NodeTable) (old : List Wide) (n : ℕ) : Type 0 where
  pub form : IsOpen (slice_get t.nodes.items n)
  pub below : (m : ℕ) → EachBelow m (kids_between t (at_of old) (mid_of old)) → n < m

-- the next part, or none
abbrev pub IsPartOrEnd : NodeTable → List Wide → List Wide → Option ℕ → Type 0
IsPartOrEnd t old new None = at_of new ≡ mid_of old
IsPartOrEnd t old new (Some n) = IsPart t old n

-- the innermost task has the values of the parts before its next part
pub record IsNextPart (t : NodeTable) (old new : List Wide) (n : Option ℕ) : Type 0 where
  pub same : new ≡ moved (at_of new) (values_of new) old
  pub parts : (ts : List (List ℕ)) → parts_of ts t old ≡ parts_with ts t new n
  pub part : IsPartOrEnd t old new n

-- the part of this number, if one was found
abbrev pub found_part : Bool → ℕ → Option ℕ
found_part false n = None
found_part true n = Some n
