-- A table that is cut back.
use Rattle.std.proofs.Common.{◌≡◌, ℕ, ◌≤◌, List, [], length, take, Option, None, Some, sym, ap, ◌∙◌, subst, arith, append-nil}
use Rattle.std.specs.Prelude.{slice_get}
use Rattle.std.proofs.Math.Seq.{take-append_seam}
use Rattle.js_machine_nodes.specs.declared.op.Op.{Op}
use Rattle.js_machine_nodes.specs.declared.op.Op.TheVariants as ops
use Rattle.js_machine_nodes.specs.declared.node.Node.{Node}
use Rattle.js_machine_nodes.specs.declared.node.SourceEntry.{SourceEntry}
use Rattle.js_machine_nodes.specs.declared.table.NodeTable.{NodeTable}
use Rattle.js_machine_nodes.specs.Trees.{EachBelow, IsNodeAt, source_trees}
use Rattle.js_machine_compiler.specs.Grown.{Begins, Extends, IsPlacedAt, IsPlacedNode}
use Rattle.pure_eval.specs.declared.cutting.TableMark.{TableMark}
use Rattle.pure_eval.specs.Whole.{IsWhole}
use Rattle.pure_eval.specs.Adding.{GoesOnWith}
use Rattle.pure_eval.specs.Cutting.{IsMarkOf, IsCut, IsBack}
use Rattle.pure_eval.proofs.StayLemmas.{kids-stay, finds-stay, sources-stay}
use Rattle.pure_eval.proofs.WholeLemmas.{closed-more, placed-more, within-more, closed-end, placed-end}

-- ---- the same lists

cut_same : {X : Type 0} (xs ys zs : List X) (n : ℕ) → Begins xs ys → n ≡ length xs → zs ≡ take n ys → zs ≡ xs
cut_same xs ys zs n b e h = h ∙ ap (λ m. take m ys) e ∙ ap (take (length xs)) b.is ∙ take-append_seam xs b.rest

begins_cut : {X : Type 0} (xs ys zs : List X) (n : ℕ) → Begins xs ys → n ≡ length xs → zs ≡ take n ys → Begins xs zs
begins_cut xs ys zs n b e h = record { rest = []; is = cut_same xs ys zs n b e h ∙ sym (append-nil xs) }

cut_extends : (t u v : NodeTable) (m : TableMark) → Extends t u → IsMarkOf t m → IsCut m u v → Extends t v
cut_extends t u v m x k c = record {
  nodes = begins_cut t.nodes.items u.nodes.items v.nodes.items m.nodes x.nodes k.nodes c.nodes;
  kids = begins_cut t.kids.items u.kids.items v.kids.items m.kids x.kids k.kids c.kids;
  constants =
      begins_cut t.constants.items u.constants.items v.constants.items m.constants x.constants k.constants c.constants;
  blocks = begins_cut t.blocks.items u.blocks.items v.blocks.items m.blocks x.blocks k.blocks c.blocks;
  scripts = begins_cut t.scripts.items u.scripts.items v.scripts.items m.scripts x.scripts k.scripts c.scripts;
  fors = begins_cut t.fors.items u.fors.items v.fors.items m.fors x.fors k.fors c.fors;
  for_ofs = begins_cut t.for_ofs.items u.for_ofs.items v.for_ofs.items m.for_ofs x.for_ofs k.for_ofs c.for_ofs;
  functions =
      begins_cut t.functions.items u.functions.items v.functions.items m.functions x.functions k.functions c.functions;
  objects = begins_cut t.objects.items u.objects.items v.objects.items m.objects x.objects k.objects c.objects;
  calls = begins_cut t.calls.items u.calls.items v.calls.items m.calls x.calls k.calls c.calls;
}

-- ---- a table with the same nodes and functions

node_back : (t v : NodeTable) (n : ℕ) (o : Option Node)
    → Extends t v
    → length t.kids.items ≤ length v.kids.items
    → IsNodeAt t n o
    → IsNodeAt v n o
node_back t v n None x l i = tt
node_back t v n (Some node) x l i = record {
  before =
      subst (EachBelow n) (sym (kids-stay t v node.first node.end x (omega (arith, i.now, i.later)) i.within)) i.before;
  now = i.now;
  later = i.later;
  within = omega (arith, i.within, l);
  source = i.source;
  turns = i.turns;
}

placed_back : (t v : NodeTable) (op : Op) (info n : ℕ)
    → v.functions.items ≡ t.functions.items
    → IsPlacedAt t op info n
    → IsPlacedAt v op info n
placed_back t v ops.Function info n e h = rw e h
placed_back t v ops.Method info n e h = rw e h
placed_back t v _ info n e h = tt

node_placed_back : (t v : NodeTable) (n : ℕ) (o : Option Node)
    → v.functions.items ≡ t.functions.items
    → IsPlacedNode t n o
    → IsPlacedNode v n o
node_placed_back t v n None e h = tt
node_placed_back t v n (Some node) e h = placed_back t v node.op node.info n e h

-- a table that goes on with the same nodes, parts, functions and sources
pub record IsSame (t v : NodeTable) : Type 0 where
  pub entries : Extends t v
  pub nodes : v.nodes.items ≡ t.nodes.items
  pub kids : v.kids.items ≡ t.kids.items
  pub functions : v.functions.items ≡ t.functions.items
  pub sources : v.sources.items ≡ t.sources.items

whole_same : (t v : NodeTable) → IsSame t v → IsWhole t → IsWhole v
whole_same t v s h =
    let x : Extends t v = s.entries in
    let at : (i : ℕ) (e : SourceEntry)
    → slice_get v.sources.items i ≡ Some e
    → slice_get t.sources.items i ≡ Some e = λ i e g. ap (λ xs. slice_get xs i) (sym s.sources)
    ∙ g in
    record {
      table =
          record {
            nodes = λ n. subst (λ (o : Option Node). IsNodeAt v n o) (ap (λ xs. slice_get xs n) (sym s.nodes))
                (node_back t v n (slice_get t.nodes.items n) x (omega (arith, ap length s.kids)) (h.table.nodes n));
          };
      places =
          record {
            nodes = λ n. subst (λ (o : Option Node). IsPlacedNode v n o)
                (ap (λ xs. slice_get xs n) (sym s.nodes))
                (node_placed_back t v n (slice_get t.nodes.items n) s.functions (h.places.nodes n));
          };
      functions =
          record {
            finds = λ ts i e g n. finds-stay t v e h.table h.closed h.placed x (h.sources i e (at i e g))
                (λ us m. h.functions.finds us i e (at i e g) m) ts n;
          };
      closed = closed-more t v h.closed x (closed-end v (length t.nodes.items) (omega (arith, ap length s.nodes)));
      placed =
          placed-more t v h.placed x (placed-end v (length t.functions.items) (omega (arith, ap length s.functions)));
      sources = λ i e g. within-more t v e x (h.sources i e (at i e g));
    }

pub cut-back : (u v : NodeTable) (m : TableMark)
    → IsCut m u v
    → (t : NodeTable) (es : List SourceEntry)
    → IsWhole t
    → IsMarkOf t m
    → GoesOnWith t u es
    → IsBack t v
cut-back u v m c t es h k g =
    let b : Begins t.sources.items u.sources.items = record { rest = es; is = g.sources } in
    let s : IsSame t v = record {
      entries = cut_extends t u v m g.entries k c;
      nodes = cut_same t.nodes.items u.nodes.items v.nodes.items m.nodes g.entries.nodes k.nodes c.nodes;
      kids = cut_same t.kids.items u.kids.items v.kids.items m.kids g.entries.kids k.kids c.kids;
      functions =
          cut_same t.functions.items u.functions.items v.functions.items m.functions g.entries.functions k.functions
          c.functions;
      sources = cut_same t.sources.items u.sources.items v.sources.items m.sources b k.sources c.sources;
    } in
    record {
      whole = whole_same t v s h;
      table = record { entries = s.entries; sources = s.sources ∙ sym (append-nil t.sources.items) };
      program =
          λ ts. ap (source_trees ts v) s.sources
          ∙ sources-stay ts t v t.sources.items h.table h.closed s.entries h.sources;
    }
