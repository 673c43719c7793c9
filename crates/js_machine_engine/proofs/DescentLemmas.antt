-- The way inward to what is reduced next, and outward from a value.
use Rattle.std.proofs.Common.{◌≡◌, ℕ, ◌<◌, true, false, List, [], ◌∷◌, ◌++◌, Option, None, Some, length, slice_get, refl, sym, ap, subst, ◌∙◌, arith}
use Rattle.js_heap.specs.declared.value.Addr.{Addr}
use Rattle.js_heap.specs.declared.value.Value.{Value}
use Rattle.js_heap.specs.declared.value.Value.TheVariants as values
use Rattle.js_semantics.specs.declared.form.Form.{Form}
use Rattle.js_semantics.specs.Terms.{Term, done, part, Terms, end, finished, settled, settle}
use Rattle.js_semantics.specs.Next.{scope_in}
use Rattle.js_machine_nodes.specs.declared.node.Node.{Node}
use Rattle.js_machine_nodes.specs.declared.table.NodeTable.{NodeTable}
use Rattle.js_machine_nodes.specs.Forms.{form_of}
use Rattle.js_machine_nodes.specs.Ops.{is_literal}
use Rattle.js_machine_nodes.specs.Trees.{terms, tree, trees, IsNode, IsTable}
use Rattle.js_machine_engine.specs.declared.closing.Closing.{Closing}
use Rattle.js_machine_engine.specs.declared.closing.Closing.TheVariants as closings
use Rattle.js_machine_engine.specs.declared.closing.Next.{Next}
use Rattle.js_machine_engine.specs.declared.closing.Next.TheVariants as nexts
use Rattle.js_machine_engine.specs.declared.task.Task.{Task}
use Rattle.js_machine_engine.specs.declared.task.Extra.{Extra}
use Rattle.js_machine_engine.specs.declared.task.Point.{Point}
use Rattle.js_machine_engine.specs.declared.task.Point.TheVariants as points
use Rattle.js_machine_engine.specs.Gaps.{plugged, resettled}
use Rattle.js_machine_engine.specs.Tasks.{Wide, form_in, task_form, gaps_of, scope_of, InScopes}
use Rattle.js_machine_engine.specs.Points.{row_term, term_at, IsAt, IsAtRow, IsLeafAt}
use Rattle.js_machine_engine.specs.Stacks.{is_empty, op_of, begun, outer_of, with_value}
use Rattle.js_machine_engine.specs.Parts.{IsOpen, IsNextPart}
use Rattle.js_machine_engine.specs.Settling.{closing_of, is_waiting, closed, proceeding, CanCome, ComesIn, settled_row, Through, Comes, IsTask, Inward, Enters, IsOnWay, IsOnWayOut, IsInnermost, Settles, IsFull}
use Rattle.js_machine_nodes.proofs.TreeLemmas.{tree-at, node-at, now-below, kids-end}
use Rattle.js_machine_engine.proofs.SettledParts.{settled_parts}
use Rattle.js_machine_engine.proofs.SettleLemmas.{resettled-part, parts-within, parts-settled, within_parts, after_parts, value-settled, scopes-next, scope-next, outer-next, row-next}
use Rattle.js_machine_engine.proofs.FinishLemmas.{closes, node-form, node-scope}
use Rattle.js_machine_engine.proofs.ClosingLemmas.{row-waits}
use Rattle.js_machine_engine.proofs.StageLemmas.{comes-through, comes-part, through-value}

-- ---- the term at a point

pub row-term : (ts : List (List ℕ)) (t : NodeTable) (new : List Wide) → row_term ts t new ≡ term_at ts t new points.Row
unfolding term_at
row-term ts t new = refl

pub leaf-term : (ts : List (List ℕ)) (t : NodeTable) (new : List Wide) (n : ℕ)
    → plugged (gaps_of ts t new) (tree ts t n) ≡ term_at ts t new (points.Leaf n)
unfolding term_at
leaf-term ts t new n = refl

-- ---- a node as a task

pub open-node : (t : NodeTable) (n : ℕ) (node : Node)
    → slice_get t.nodes.items n ≡ Some node
    → IsOpen (slice_get t.nodes.items n)
    → is_literal node.op ≡ false
open-node t n node e o =
    let P : Option Node → Type 0 = IsOpen in
    subst P e o

abbrev pub node_task : Node → Addr → Wide
node_task node inner = begun node.op node.info node.first node.mid node.end inner None

task_is : (ts : List (List ℕ)) (t : NodeTable) (node : Node) (inner : Addr)
    → task_form ts t (node_task node inner) ≡ form_in ts t node.op node.info inner None
unfolding task_form
task_is ts t node inner = refl

node_is : (ts : List (List ℕ)) (t : NodeTable) (n : ℕ) (node : Node) (inner : Addr)
    → IsNode t n node
    → task_form ts t (node_task node inner) ≡ form_of ts t node.op node.info
node_is ts t n node inner i = task_is ts t node inner ∙ node-form ts t node.op node.info inner i.source i.turns

-- a node's tree as its task before the first value
pub node-tree : (ts : List (List ℕ)) (t : NodeTable) (n : ℕ) (node : Node) (inner : Addr)
    → IsTable t
    → slice_get t.nodes.items n ≡ Some node
    → is_literal node.op ≡ false
    → tree ts t n ≡ part (task_form ts t (node_task node inner)) (trees ts t node.first node.mid)
    (trees ts t node.mid node.end)
node-tree ts t n node inner table e o =
    tree-at t n node table e o ts
    ∙ ap (λ f. part f (trees ts t node.first node.mid) (trees ts t node.mid node.end))
    (sym (node_is ts t n node inner (node-at t n node table e)))

node_scopes : (t : NodeTable) (root : Addr) (n : ℕ) (node : Node) (inner : Addr) (old : List Wide)
    → IsNode t n node
    → scope_of root old ≡ inner
    → InScopes t root old
    → InScopes t root (node_task node inner ∷ old)
node_scopes t root n node inner old i e s = (
  λ ts. ap (λ f. scope_in f (scope_of root old)) (task_is ts t node inner)
      ∙ node-scope ts t node.op node.info inner (scope_of root old) i.source i.turns
      ∙ e,
  s,
)

pub task-inward : (t : NodeTable) (n : ℕ) (node : Node) (inner : Addr) (old new : List Wide) (p : Option ℕ)
    → IsTable t
    → slice_get t.nodes.items n ≡ Some node
    → IsNextPart t (node_task node inner ∷ old) new p
    → Inward t old new inner
task-inward t n node inner old new p table e i = record {
  scope = λ root h. scope-next t root (node_task node inner ∷ old) new p i;
  scoped =
      λ root h s. scopes-next t root (node_task node inner ∷ old) new p i
      (node_scopes t root n node inner old (node-at t n node table e) h s);
}

node_within : (ts : List (List ℕ)) (t : NodeTable) (n : ℕ) (node : Node) (inner : Addr) (old new : List Wide)
    (p : Option ℕ)
    → IsTable t
    → slice_get t.nodes.items n ≡ Some node
    → is_literal node.op ≡ false
    → IsNextPart t (node_task node inner ∷ old) new p
    → plugged (gaps_of ts t old) (tree ts t n) ≡ within_parts ts t new p
node_within ts t n node inner old new p table e o i =
    ap (plugged (gaps_of ts t old)) (node-tree ts t n node inner table e o)
    ∙ parts-within ts t (node_task node inner) old new p i

-- ---- one level inward

pub leaf-at : (t : NodeTable) (n : ℕ) (node : Node)
    → slice_get t.nodes.items n ≡ Some node
    → IsOpen (slice_get t.nodes.items n)
    → node.first ≡ node.mid
    → IsLeafAt (slice_get t.nodes.items n)
leaf-at t n node e o h =
    let P : Option Node → Type 0 = IsLeafAt in
    subst P (sym e) (record { parts = h; value = open-node t n node e o })

pub leaf-enters : (t : NodeTable) (old : List Wide) (inner : Addr) (n k : ℕ) (node : Node)
    → slice_get t.nodes.items n ≡ Some node
    → IsOpen (slice_get t.nodes.items n)
    → node.first ≡ node.mid
    → Enters t old old inner n k (points.Leaf n) false
leaf-enters t old inner n k node e o h = record {
  way = record { term = λ ts. leaf-term ts t old n; at = leaf-at t n node e o h };
  inward = record { scope = λ root q. q; scoped = λ root q s. s };
}

pub row-enters : (t : NodeTable) (old mid new : List Wide) (inner : Addr) (n k : ℕ) (node : Node)
    → IsTable t
    → slice_get t.nodes.items n ≡ Some node
    → IsOpen (slice_get t.nodes.items n)
    → mid ≡ node_task node inner ∷ old
    → IsNextPart t mid new None
    → Enters t old new inner n k points.Row false
row-enters t old mid new inner n k node table e o m i =
    let P : List Wide → Type 0 = λ ws. IsNextPart t ws new None in
    let j : IsNextPart t (node_task node inner ∷ old) new None = subst P m i in
    record {
      way =
          record {
            term =
                λ ts. node_within ts t n node inner old new None table e (open-node t n node e o) j
                ∙ row-term ts t new;
            at = row-next t (node_task node inner) old new j;
          };
      inward = task-inward t n node inner old new None table e j;
    }

pub part-enters : (t : NodeTable) (old mid new : List Wide) (inner : Addr) (n k : ℕ) (node : Node) (p : Point)
    → IsTable t
    → slice_get t.nodes.items n ≡ Some node
    → IsOpen (slice_get t.nodes.items n)
    → mid ≡ node_task node inner ∷ old
    → IsNextPart t mid new (Some k)
    → Enters t old new inner n k p true
part-enters t old mid new inner n k node p table e o m i =
    let P : List Wide → Type 0 = λ ws. IsNextPart t ws new (Some k) in
    let j : IsNextPart t (node_task node inner ∷ old) new (Some k) = subst P m i in
    record {
      way =
          record {
            term = λ ts. node_within ts t n node inner old new (Some k) table e (open-node t n node e o) j;
            form = j.part.form;
            before = j.part.below n (now-below t n node (node-at t n node table e));
          };
      inward = task-inward t n node inner old new (Some k) table e j;
    }

-- ---- all levels inward

inward_more : (t : NodeTable) (old now new : List Wide) (inner : Addr)
    → Inward t old now inner
    → Inward t now new inner
    → Inward t old new inner
inward_more t old now new inner i j = record {
  scope = λ root h. j.scope root (i.scope root h);
  scoped = λ root h s. j.scoped root (i.scope root h) (i.scoped root h s);
}

pub way-deeper : (t : NodeTable) (old : List Wide) (node : ℕ) (inner : Addr) (now new : List Wide) (n k : ℕ) (p : Point)
    → IsOnWay t old node inner now n
    → Enters t now new inner n k p true
    → IsOnWay t old node inner new k
way-deeper t old node inner now new n k p w e = record {
  term = λ ts. sym (e.way.term ts) ∙ w.term ts;
  form = e.way.form;
  inward = inward_more t old now new inner w.inward e.inward;
}

pub way-term : (ts : List (List ℕ)) (t : NodeTable) (old : List Wide) (node : ℕ) (inner : Addr) (now new : List Wide)
    (n k : ℕ) (p : Point)
    → IsOnWay t old node inner now n
    → Enters t now new inner n k p false
    → plugged (gaps_of ts t old) (tree ts t node) ≡ term_at ts t new p
way-term ts t old node inner now new n k p w e = sym (w.term ts) ∙ e.way.term ts

pub way-inward : (t : NodeTable) (old : List Wide) (node : ℕ) (inner : Addr) (now new : List Wide) (n k : ℕ) (p : Point)
    → IsOnWay t old node inner now n
    → Enters t now new inner n k p false
    → Inward t old new inner
way-inward t old node inner now new n k p w e = inward_more t old now new inner w.inward e.inward

waiting_is : (c : Closing) → is_waiting c ≡ true → c ≡ closings.Waits
waiting_is closings.Waits e = refl
waiting_is c e = cc

-- ---- a value in the innermost gap

value_term : (ts : List (List ℕ)) (t : NodeTable) (old : List Wide) (v : Value)
    → IsTask old
    → resettled (gaps_of ts t old) (done v) ≡ settled_parts ts t (with_value v old)
value_term ts t [] v h = absurd h
value_term ts t (w ∷ ws) v h = value-settled ts t w ws v

taken_term : (ts : List (List ℕ)) (t : NodeTable) (old mid new : List Wide) (v : Value) (n : Option ℕ)
    → IsTask old
    → mid ≡ with_value v old
    → IsNextPart t mid new n
    → resettled (gaps_of ts t old) (done v) ≡ after_parts ts t new n
taken_term ts t old mid new v n h e i =
    value_term ts t old v h ∙ ap (settled_parts ts t) (sym e) ∙ parts-settled ts t mid new n i

taken_through : (t : NodeTable) (old mid new : List Wide) (v : Value) (n : Option ℕ)
    → mid ≡ with_value v old
    → IsNextPart t mid new n
    → Through t old new
taken_through t old mid new v n e i =
    let h : Through t old mid = through-value t old mid v e in
    record {
      outer = outer-next t mid new n i ∙ h.outer;
      inner = λ root. scope-next t root mid new n i ∙ h.inner root;
      scoped = λ root s. scopes-next t root mid new n i (h.scoped root s);
    }

pub take-part : (t : NodeTable) (old mid new : List Wide) (v : Value) (k : ℕ)
    → IsTask old
    → mid ≡ with_value v old
    → IsNextPart t mid new (Some k)
    → Comes t old new (λ ts. resettled (gaps_of ts t old) (done v)) (nexts.Part k)
take-part t old mid new v k h e i =
    comes-part t old new (λ ts. resettled (gaps_of ts t old) (done v)) k (taken_through t old mid new v (Some k) e i)
    i.part.form (λ ts. taken_term ts t old mid new v (Some k) h e i)

pub take-all : (t : NodeTable) (old mid all new : List Wide) (v : Value) (next : Next)
    → IsTask old
    → mid ≡ with_value v old
    → IsNextPart t mid all None
    → Comes t all new (λ ts. settled_row ts t all) next
    → Comes t old new (λ ts. resettled (gaps_of ts t old) (done v)) next
take-all t old mid all new v next h e i c =
    comes-through t old all new (λ ts. resettled (gaps_of ts t old) (done v)) (λ ts. settled_row ts t all) next
    (taken_through t old mid all v None e i) (λ ts. taken_term ts t old mid all v None h e i) c

pub none-task : (ws : List Wide) → is_empty ws ≡ true → ws ≡ []
none-task [] e = refl
none-task (w ∷ ws) e = cc

pub some-task : (ws : List Wide) → is_empty ws ≡ false → IsTask ws
some-task [] e = cc
some-task (w ∷ ws) e = tt

pub row-task : (ws : List Wide) → IsAtRow ws → IsTask ws
row-task [] r = r
row-task (w ∷ ws) r = tt

pub task-scope : (ws : List Wide) (a root : Addr) → IsTask ws → scope_of root ws ≡ scope_of a ws
task-scope [] a root h = absurd h
task-scope (w ∷ ws) a root h = refl

pub fewer-tasks : (old new : List Wide) → IsTask old → new ≡ outer_of old → length new < length old
fewer-tasks [] new h e = absurd h
fewer-tasks (w ∷ ws) new h e = rw e (omega arith)

pub taken-row : (t : NodeTable) (old mid new : List Wide) (v : Value)
    → IsTask old
    → mid ≡ with_value v old
    → IsNextPart t mid new None
    → IsAtRow new
taken-row t [] mid new v h e i = absurd h
taken-row t (w ∷ ws) mid new v h e i =
    let P : List Wide → Type 0 = λ xs. IsNextPart t xs new None in
    row-next t (record w { values = w.values ++ v ∷ [] }) ws new (subst P e i)

pub is-task : (old : List Wide) (task : Task) (e : Option Extra) → IsInnermost task e old → IsTask old
is-task [] task e i = cc
is-task (w ∷ ws) task e i = tt

-- ---- where it ends

pub row-settles : (t : NodeTable) (old new : List Wide) (from : List (List ℕ) → Term)
    → Comes t old new from nexts.Row
    → Settles t old new from points.Row
row-settles t old new from c =
    record { term = λ ts. c.term ts ∙ row-term ts t new; at = c.stands; scoped = c.scoped }

pub part-settles : (t : NodeTable) (old mid new : List Wide) (from : List (List ℕ) → Term) (k : ℕ) (inner : Addr)
    (p : Point)
    → Comes t old mid from (nexts.Part k)
    → ((root : Addr) → scope_of root mid ≡ inner)
    → ((ts : List (List ℕ)) → plugged (gaps_of ts t mid) (tree ts t k) ≡ term_at ts t new p)
    → IsAt t new p
    → ((root : Addr) → scope_of root mid ≡ inner → InScopes t root mid → InScopes t root new)
    → Settles t old new from p
part-settles t old mid new from k inner p c i term at scoped = record {
  term = λ ts. c.term ts ∙ term ts;
  at = at;
  scoped = λ root s. scoped root (i root) (c.scoped root s);
}

pub take-waits : (t : NodeTable) (old mid all : List Wide) (v : Value)
    → IsTask old
    → mid ≡ with_value v old
    → IsNextPart t mid all None
    → is_waiting (closing_of (op_of all)) ≡ true
    → Settles t old all (λ ts. resettled (gaps_of ts t old) (done v)) points.Row
take-waits t old mid all v h e i w =
    row-settles t old all (λ ts. resettled (gaps_of ts t old) (done v))
    (take-all t old mid all all v nexts.Row h e i
    (row-waits t all (waiting_is (closing_of (op_of all)) w) (taken-row t old mid all v h e i)))

pub take-fills : (t : NodeTable) (old mid all : List Wide) (v : Value)
    → IsTask old
    → mid ≡ with_value v old
    → IsNextPart t mid all None
    → IsFull t old all v
take-fills t old mid all v h e i =
    let g : Through t old all = taken_through t old mid all v None e i in
    record {
      term = λ ts. taken_term ts t old mid all v None h e i;
      row = taken-row t old mid all v h e i;
      outer = g.outer;
      scoped = g.scoped;
    }

pub part-task : (t : NodeTable) (old mid new : List Wide) (v : Value) (n : Option ℕ)
    → IsTask old
    → mid ≡ with_value v old
    → IsNextPart t mid new n
    → IsTask new
part-task t [] mid new v n h e i = absurd h
part-task t (w ∷ ws) mid new v n h e i =
    let P : List Wide → Type 0 = λ xs. IsNextPart t xs new n in
    let j : IsNextPart t (with_value v (w ∷ ws)) new n = subst P e i in
    let Q : List Wide → Type 0 = IsTask in
    subst Q (sym j.same) tt

-- ---- the way outward

pub out-start : (t : NodeTable) (old : List Wide) → IsAtRow old → IsOnWayOut t old old
out-start t old r = record { term = λ ts. refl; row = r; scoped = λ root s. s }

pub out-closed : (t : NodeTable) (old now new : List Wide) (p : Point)
    → IsOnWayOut t old now
    → Settles t now new (λ ts. settled_row ts t now) p
    → Settles t old new (λ ts. settled_row ts t old) p
out-closed t old now new p w c = record {
  term = λ ts. sym (w.term ts) ∙ c.term ts;
  at = c.at;
  scoped = λ root s. c.scoped root (w.scoped root s);
}

done-term : (ts : List (List ℕ)) (t : NodeTable) (new : List Wide) (v : Value)
    → new ≡ []
    → resettled (gaps_of ts t new) (done v) ≡ term_at ts t new (points.Done v)
unfolding term_at
done-term ts t new v e =
    ap (λ ws. resettled (gaps_of ts t ws) (done v)) e ∙ ap (λ ws. plugged (gaps_of ts t ws) (done v)) (sym e)

pub done-settles : (t : NodeTable) (old : List Wide) (v : Value)
    → old ≡ []
    → Settles t old old (λ ts. resettled (gaps_of ts t old) (done v)) (points.Done v)
done-settles t old v e = record { term = λ ts. done-term ts t old v e; at = e; scoped = λ root s. s }

pub out-taken : (t : NodeTable) (old now mid new : List Wide) (v : Value) (p : Point)
    → IsOnWayOut t old now
    → Comes t now mid (λ ts. settled_row ts t now) (nexts.Value v)
    → Settles t mid new (λ ts. resettled (gaps_of ts t mid) (done v)) p
    → Settles t old new (λ ts. settled_row ts t old) p
out-taken t old now mid new v p w c s = record {
  term = λ ts. sym (w.term ts) ∙ c.term ts ∙ s.term ts;
  at = s.at;
  scoped = λ root x. s.scoped root (c.scoped root (w.scoped root x));
}

pub out-done : (t : NodeTable) (old now new : List Wide) (v : Value)
    → IsOnWayOut t old now
    → Comes t now new (λ ts. settled_row ts t now) (nexts.Value v)
    → new ≡ []
    → Settles t old new (λ ts. settled_row ts t old) (points.Done v)
out-done t old now new v w c e = out-taken t old now new new v (points.Done v) w c (done-settles t new v e)

pub out-full : (t : NodeTable) (old now mid new : List Wide) (v : Value)
    → IsOnWayOut t old now
    → Comes t now mid (λ ts. settled_row ts t now) (nexts.Value v)
    → IsFull t mid new v
    → IsOnWayOut t old new
out-full t old now mid new v w c f = record {
  term = λ ts. sym (f.term ts) ∙ sym (c.term ts) ∙ w.term ts;
  row = f.row;
  scoped = λ root s. f.scoped root (c.scoped root (w.scoped root s));
}

same-tasks : (mid new : List Wide) → IsTask mid → IsTask new → outer_of new ≡ outer_of mid → length new ≡ length mid
same-tasks [] new h g e = absurd h
same-tasks (w ∷ ws) [] h g e = absurd g
same-tasks (w ∷ ws) (x ∷ xs) h g e = ap (λ (ys : List Wide). length (x ∷ ys)) e

-- after a value that the task outside has taken there is one task less
pub out-fewer : (t : NodeTable) (now mid new : List Wide) (v : Value)
    → IsAtRow now
    → mid ≡ outer_of now
    → IsTask mid
    → IsFull t mid new v
    → length new < length now
out-fewer t now mid new v r e h f =
    rw (same-tasks mid new h (row-task new f.row) f.outer) (fewer-tasks now mid (row-task now r) e)

-- the scope in the gap is that of the innermost task
pub entered-scope : (t : NodeTable) (old new : List Wide) (from : List (List ℕ) → Term) (n : ℕ) (task : Task)
    (e : Option Extra)
    → IsInnermost task e old
    → Comes t old new from (nexts.Part n)
    → (root : Addr)
    → scope_of root new ≡ task.inner
entered-scope t old new from n task e i c root = c.stands.inner root ∙ ap (scope_of root) i

pub can-come : (t : NodeTable) (old new : List Wide) (from : List (List ℕ) → Term) (next : Next)
    → Comes t old new from next
    → CanCome t new next
can-come t old new from nexts.Row c = c.stands
can-come t old new from (nexts.Value v) c = tt
can-come t old new from (nexts.Part n) c = c.stands.form

pub comes-in : (t : NodeTable) (old new : List Wide) (from : List (List ℕ) → Term) (next : Next) (task : Task)
    (e : Option Extra)
    → IsInnermost task e old
    → Comes t old new from next
    → (root : Addr)
    → ComesIn root new task.inner next
comes-in t old new from nexts.Row task e i c root = tt
comes-in t old new from (nexts.Value v) task e i c root = tt
comes-in t old new from (nexts.Part n) task e i c root = entered-scope t old new from n task e i c root

-- ---- a node that is uncovered

uncovered_by : (ts : List (List ℕ)) (t : NodeTable) (gs : Term → Term) (n : ℕ) (node : Node) (inner : Addr)
    → IsTable t
    → slice_get t.nodes.items n ≡ Some node
    → is_literal node.op ≡ false
    → gs (settle (tree ts t n)) ≡ gs
    (settled (task_form ts t (node_task node inner)) (trees ts t node.first node.mid)
    (trees ts t node.mid node.end))
uncovered_by ts t gs n node inner table e o = ap (λ x. gs (settle x)) (node-tree ts t n node inner table e o)

pub uncovered-parts : (ts : List (List ℕ)) (t : NodeTable) (old mid new : List Wide) (n : ℕ) (node : Node)
    (inner : Addr) (p : Option ℕ)
    → IsTable t
    → slice_get t.nodes.items n ≡ Some node
    → IsOpen (slice_get t.nodes.items n)
    → mid ≡ node_task node inner ∷ old
    → IsNextPart t mid new p
    → resettled (gaps_of ts t old) (settle (tree ts t n)) ≡ after_parts ts t new p
uncovered-parts ts t old mid new n node inner p table e o m i =
    uncovered_by ts t (resettled (gaps_of ts t old)) n node inner table e (open-node t n node e o)
    ∙ ap (settled_parts ts t) (sym m)
    ∙ parts-settled ts t mid new p i

waits_node : (ts : List (List ℕ)) (t : NodeTable) (node : Node) (inner : Addr) (later : Terms)
    → closing_of node.op ≡ closings.Waits
    → finished (task_form ts t (node_task node inner)) end later ≡ part (task_form ts t (node_task node inner))
    end later
waits_node ts t node inner later e =
    closes ts t (node_task node inner) end later
    ∙ ap (closed ts t node.op node.info inner None end later) e
    ∙ ap (λ f. part f end later) (sym (task_is ts t node inner))

settled_leaf : (ts : List (List ℕ)) (t : NodeTable) (node : Node) (inner : Addr) (now later : Terms)
    → now ≡ end
    → closing_of node.op ≡ closings.Waits
    → settled (task_form ts t (node_task node inner)) now later ≡ part (task_form ts t (node_task node inner)) now later
settled_leaf ts t node inner now later e c =
    ap (λ x. settled (task_form ts t (node_task node inner)) x later) e
    ∙ waits_node ts t node inner later c
    ∙ ap (λ x. part (task_form ts t (node_task node inner)) x later) (sym e)

pub uncovered-leaf : (ts : List (List ℕ)) (t : NodeTable) (old : List Wide) (n : ℕ) (node : Node) (inner : Addr)
    → IsTable t
    → slice_get t.nodes.items n ≡ Some node
    → IsOpen (slice_get t.nodes.items n)
    → node.first ≡ node.mid
    → is_waiting (closing_of node.op) ≡ true
    → resettled (gaps_of ts t old) (settle (tree ts t n)) ≡ term_at ts t old (points.Leaf n)
uncovered-leaf ts t old n node inner table e o h w =
    let f : Form = task_form ts t (node_task node inner) in
    let now : Terms = trees ts t node.first node.mid in
    let later : Terms = trees ts t node.mid node.end in
    let k : now ≡ end = ap (terms (tree ts t)) (kids-end t node.first node.mid (omega arith)) in
    uncovered_by ts t (resettled (gaps_of ts t old)) n node inner table e (open-node t n node e o)
    ∙ ap (resettled (gaps_of ts t old)) (settled_leaf ts t node inner now later k (waiting_is (closing_of node.op) w))
    ∙ resettled-part (gaps_of ts t old) f now later
    ∙ ap (plugged (gaps_of ts t old)) (sym (node-tree ts t n node inner table e (open-node t n node e o)))
    ∙ leaf-term ts t old n

pub uncovered-scoped : (t : NodeTable) (old mid new : List Wide) (n : ℕ) (node : Node) (inner : Addr) (p : Option ℕ)
    → IsTable t
    → slice_get t.nodes.items n ≡ Some node
    → mid ≡ node_task node inner ∷ old
    → IsNextPart t mid new p
    → Inward t old new inner
uncovered-scoped t old mid new n node inner p table e m i =
    let P : List Wide → Type 0 = λ ws. IsNextPart t ws new p in
    task-inward t n node inner old new p table e (subst P m i)

-- ---- the innermost task goes on

proceed_within : (ts : List (List ℕ)) (t : NodeTable) (old new : List Wide) (p : Option ℕ)
    → IsTask old
    → IsNextPart t old new p
    → proceeding ts t old ≡ within_parts ts t new p
proceed_within ts t [] new p h i = absurd h
proceed_within ts t (w ∷ ws) new p h i = parts-within ts t w ws new p i

pub proceed-part : (ts : List (List ℕ)) (t : NodeTable) (old new : List Wide) (k : ℕ)
    → IsTask old
    → IsNextPart t old new (Some k)
    → proceeding ts t old ≡ plugged (gaps_of ts t new) (tree ts t k)
proceed-part ts t old new k h i = proceed_within ts t old new (Some k) h i

pub proceed-row : (ts : List (List ℕ)) (t : NodeTable) (old new : List Wide)
    → IsTask old
    → IsNextPart t old new None
    → proceeding ts t old ≡ term_at ts t new points.Row
proceed-row ts t old new h i = proceed_within ts t old new None h i ∙ row-term ts t new

pub proceed-at : (t : NodeTable) (old new : List Wide) → IsTask old → IsNextPart t old new None → IsAtRow new
proceed-at t [] new h i = absurd h
proceed-at t (w ∷ ws) new h i = row-next t w ws new i

pub proceed-done : (ts : List (List ℕ)) (t : NodeTable) (old : List Wide)
    → old ≡ []
    → proceeding ts t old ≡ term_at ts t old (points.Done values.Undefined)
unfolding term_at
proceed-done ts t old e = ap (proceeding ts t) e ∙ ap (λ ws. plugged (gaps_of ts t ws) (done values.Undefined)) (sym e)

pub proceed-scope : (t : NodeTable) (root : Addr) (old new : List Wide) (p : Option ℕ) (task : Task) (e : Option Extra)
    → IsInnermost task e old
    → IsNextPart t old new p
    → scope_of root new ≡ task.inner
proceed-scope t root old new p task e i n = scope-next t root old new p n ∙ ap (scope_of root) i
