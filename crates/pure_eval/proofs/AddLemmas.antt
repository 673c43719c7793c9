-- One source more.
use Rattle.std.proofs.Common.{◌≡◌, ◌⊎◌, inl, inr, ℕ, zero, suc, List, [], ◌∷◌, ◌++◌, length, Option, None, Some, refl, sym, ap, ◌∙◌, subst, arith, append-nil}
use Rattle.std.specs.Prelude.{slice_get}
use Rattle.js_heap.specs.declared.value.Addr.{Addr}
use Rattle.js_semantics.specs.declared.form.Source.TheVariants.{Kept as kept_source}
use Rattle.js_semantics.specs.Terms.{Term}
use Rattle.js_semantics.specs.Functions.{SourceTree, function_in}
use Rattle.js_heap_memory.specs.Names.{GoesOn}
use Rattle.js_machine_nodes.specs.Lists.{Items}
use Rattle.js_machine_nodes.specs.declared.node.SourceEntry.{SourceEntry}
use Rattle.js_machine_nodes.specs.declared.table.NodeTable.{NodeTable}
use Rattle.js_machine_nodes.specs.Codes.{indexed_code}
use Rattle.js_machine_nodes.specs.Trees.{tree, source_tree, source_trees, program_of}
use Rattle.js_machine_compiler.specs.Grown.{Extends, KeepsTable, Grows, HasTree, HoldsTerm}
use Rattle.js_machine_compiler.specs.Index.{IsIndexed}
use Rattle.js_machine_compiler.specs.Scripts.{with_sources}
use Rattle.js_machine_compiler.proofs.GrownLemmas.{begins_same, extends_same, extends_twice, same_nodes, same_places}
use Rattle.js_machine_compiler.proofs.NameLemmas.{goes_on_same}
use Rattle.pure_eval.specs.Whole.{AreClosed, ArePlaced, IsWithin, Finds, IsWhole}
use Rattle.pure_eval.specs.Adding.{kept_tree_at, IsAdded}
use Rattle.pure_eval.specs.Cutting.{IsBack}
use Rattle.pure_eval.specs.Holding.{IsCodeAdded, IsHeldAt, code_term}
use Rattle.pure_eval.proofs.StayLemmas.{finds-stay, sources-stay}
use Rattle.pure_eval.proofs.WholeLemmas.{closed-more, placed-more, within-more, closed-end, placed-end}
use Rattle.js_machine_compiler.proofs.ScriptLemmas.{sources_push, tree_of}

-- ---- other sources

other_extends : (t : NodeTable) (es : Items SourceEntry) → Extends t (with_sources t es)
other_extends t es = record {
  nodes = begins_same t.nodes.items;
  kids = begins_same t.kids.items;
  constants = begins_same t.constants.items;
  blocks = begins_same t.blocks.items;
  scripts = begins_same t.scripts.items;
  fors = begins_same t.fors.items;
  for_ofs = begins_same t.for_ofs.items;
  functions = begins_same t.functions.items;
  objects = begins_same t.objects.items;
  calls = begins_same t.calls.items;
}

last_or : {X : Type 0} (xs : List X) (x y : X) (i : ℕ)
    → slice_get (xs ++ x ∷ []) i ≡ Some y
    → (slice_get xs i ≡ Some y) ⊎ (x ≡ y)
last_or [] x y zero e = inr cc
last_or [] x y (suc i) e = absurd cc
last_or (z ∷ xs) x y zero e = inl e
last_or (z ∷ xs) x y (suc i) e = last_or xs x y i e

-- what holds of the sources that were there and of one more
each_source : (P : SourceEntry → Type 0) (es fs : List SourceEntry) (e : SourceEntry)
    → fs ≡ es ++ e ∷ []
    → ((i : ℕ) (d : SourceEntry) → slice_get es i ≡ Some d → P d)
    → P e
    → (i : ℕ) (d : SourceEntry)
    → slice_get fs i ≡ Some d
    → P d
each_source P es fs e s h k i d g = by (last_or es e d i (ap (λ xs. slice_get xs i) (sym s) ∙ g))
  where
    by : (slice_get es i ≡ Some d) ⊎ (e ≡ d) → P d
    by (inl f) = h i d f
    by (inr f) = subst P f k

-- the table with one more source
whole-pushed : (w : NodeTable) (es : Items SourceEntry) (entry : SourceEntry)
    → IsWhole w
    → IsWithin w entry
    → Finds w entry
    → es.items ≡ w.sources.items ++ entry ∷ []
    → IsWhole (with_sources w es)
whole-pushed w es entry h within found s =
    let u : NodeTable = with_sources w es in
    let y : Extends w u = other_extends w es in
    let f : (ts : List (List ℕ)) (i : ℕ) (e : SourceEntry)
    → slice_get es.items i ≡ Some e
    → (n : ℕ)
    → function_in n (tree ts u e.root) ≡ indexed_code ts u e n = λ ts i e g n.
    each_source (Finds u) w.sources.items es.items entry s
    (λ j d k. finds-stay w u d h.table h.closed h.placed y (h.sources j d k) (λ us m. h.functions.finds us j d k m))
    (finds-stay w u entry h.table h.closed h.placed y within found) i e g ts n in
    record {
      table = same_nodes w u refl refl h.table;
      places = same_places w u refl (begins_same w.functions.items) h.places;
      functions = record { finds = f };
      closed = closed-more w u h.closed y (closed-end u (length w.nodes.items) (omega arith));
      placed = placed-more w u h.placed y (placed-end u (length w.functions.items) (omega arith));
      sources =
          each_source (IsWithin u) w.sources.items es.items entry s
          (λ i d k. within-more w u d y (h.sources i d k))
          (within-more w u entry y within);
    }

-- ---- code that no source has

-- a table whose nodes and functions go on, with the same sources
whole-grown : (t w : NodeTable)
    → IsWhole t
    → KeepsTable t w
    → AreClosed w (length t.nodes.items)
    → ArePlaced w (length t.functions.items)
    → IsWhole w
whole-grown t w h k c p =
    let x : Extends t w = k.entries in
    let at : (i : ℕ) (e : SourceEntry)
    → slice_get w.sources.items i ≡ Some e
    → slice_get t.sources.items i ≡ Some e = λ i e g. ap (λ (v : Items SourceEntry). slice_get v.items i) (sym k.sources)
    ∙ g in
    record {
      table = k.table h.table;
      places = k.places h.places;
      functions =
          record {
            finds = λ ts i e g n. finds-stay t w e h.table h.closed h.placed x (h.sources i e (at i e g))
                (λ us m. h.functions.finds us i e (at i e g) m) ts n;
          };
      closed = closed-more t w h.closed x c;
      placed = placed-more t w h.placed x p;
      sources = λ i e g. within-more t w e x (h.sources i e (at i e g));
    }

grown-back : (t w : NodeTable) → IsWhole t → KeepsTable t w → IsWhole w → IsBack t w
grown-back t w h k whole = record {
  whole = whole;
  table =
      record {
        entries = k.entries;
        sources = ap (λ (v : Items SourceEntry). v.items) k.sources ∙ sym (append-nil t.sources.items);
      };
  program =
      λ ts. ap (λ (v : Items SourceEntry). source_trees ts w v.items) k.sources
      ∙ sources-stay ts t w t.sources.items h.table h.closed k.entries h.sources;
}

pub code-added : (names more : List (List ℕ)) (t w : NodeTable) (at : Addr) (x : Term) (root from first : ℕ)
    (o : Option ℕ) (plain entry : SourceEntry)
    → IsWhole t
    → Grows names t more w
    → HoldsTerm more w x o
    → o ≡ Some root
    → from ≡ length t.nodes.items
    → AreClosed w from
    → first ≡ length t.functions.items
    → ArePlaced w first
    → plain.source ≡ kept_source at
    → plain.root ≡ root
    → IsIndexed w plain entry
    → IsWithin w entry
    → IsCodeAdded names t at x more w entry
code-added names more t w at x root from first o plain entry h g k e a b c d s r i j =
    let P : Option ℕ → Type 0 = HoldsTerm more w x in
    let tree : HasTree more w root x = (let t' : HoldsTerm more w x (Some root) = subst P e k in t') in
    let whole : IsWhole w = whole-grown t w h g.table (subst (AreClosed w) a b) (subst (ArePlaced w) c d) in
    record {
      goes_on = g.names;
      back = grown-back t w h g.table whole;
      code = record {
        source = i.source ∙ s;
        tree = subst (λ n. HasTree more w n x) (sym (i.root ∙ r)) tree;
        within = j;
        finds = i.finds;
      };
    }

-- code that was there
pub code-there : (names : List (List ℕ)) (t : NodeTable) (at : Addr) (x : Term) (o : Option SourceEntry)
    (entry : SourceEntry)
    → IsWhole t
    → IsHeldAt names t at o
    → o ≡ Some entry
    → IsCodeAdded names t at (code_term names t x o) names t entry
code-there names t at x o entry w h e =
    let P : Option SourceEntry
    → Type 0 = λ p. IsHeldAt names t at p → IsCodeAdded names t at (code_term names t x p) names t entry in
    let there : P (Some entry) = λ k. record {
      goes_on = goes_on_same names;
      back = record {
        whole = w;
        table = record { entries = extends_same t; sources = sym (append-nil t.sources.items) };
        program = λ ts. refl;
      };
      code = k;
    } in
    subst P (sym e) there h

pub code-new : (names more : List (List ℕ)) (t u : NodeTable) (at : Addr) (x : Term) (o : Option SourceEntry)
    (entry : SourceEntry)
    → o ≡ None
    → IsCodeAdded names t at x more u entry
    → IsCodeAdded names t at (code_term names t x o) more u entry
code-new names more t u at x o entry e a =
    let P : Option SourceEntry → Type 0 = λ p. IsCodeAdded names t at (code_term names t x p) more u entry in
    let there : P None = a in
    subst P (sym e) there

-- the source of code that was added, behind the others
pub source-pushed : (names more : List (List ℕ)) (t w : NodeTable) (es : Items SourceEntry) (at : Addr) (x : Term)
    (entry : SourceEntry)
    → IsCodeAdded names t at x more w entry
    → es.items ≡ w.sources.items ++ entry ∷ []
    → IsAdded names t at x more (with_sources w es) entry.root
source-pushed names more t w es at x entry a s =
    let u : NodeTable = with_sources w es in
    let h : IsWhole w = a.back.whole in
    let y : Extends w u = other_extends w es in
    let is : (us : List (List ℕ))
    → GoesOn more us
    → tree us u entry.root ≡ x = λ us l. tree_of more us w u entry.root x a.code.tree l y in
    record {
      goes_on = a.goes_on;
      entry = entry;
      table =
          record {
            entries = extends_twice t w u a.back.table.entries y;
            sources = s ∙ ap (λ ds. ds ++ entry ∷ []) (a.back.table.sources ∙ append-nil t.sources.items);
          };
      whole = whole-pushed w es entry h a.code.within a.code.finds s;
      tree = is;
      program = λ us l.
          ap (source_trees us u) s ∙ sources_push us u w.sources.items entry
          ∙ ap (λ ps. ps ++ source_tree us u entry ∷ [])
          (sources-stay us w u w.sources.items h.table h.closed y h.sources ∙ a.back.program us)
          ∙ ap (λ o. let e : SourceTree = record { source = o; tree = tree us u entry.root } in
          program_of us t ++ e ∷ [])
          a.code.source
          ∙ ap (λ v. program_of us t ++ kept_tree_at at v ∷ []) (is us l);
    }
