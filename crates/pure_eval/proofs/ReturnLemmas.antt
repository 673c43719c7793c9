-- Evaluators that went on, and come back.
use Rattle.std.proofs.Common.{◌≡◌, ℕ, ◌+◌, true, false, List, [], ◌∷◌, ◌++◌, length, refl, sym, ap, subst, ◌∙◌, append-nil, append_assoc}
use Rattle.js_semantics.specs.Terms.{Term}
use Rattle.js_semantics.specs.Functions.{Program, SourceTree}
use Rattle.js_semantics.specs.Run.{program_from}
use Rattle.js_heap_memory.specs.Heaps.{Heap}
use Rattle.js_heap_memory.specs.Overlays.{next_of}
use Rattle.js_heap_memory.specs.Names.{GoesOn}
use Rattle.js_machine_nodes.specs.declared.node.SourceEntry.{SourceEntry}
use Rattle.js_machine_nodes.specs.declared.table.NodeTable.{NodeTable}
use Rattle.js_machine_nodes.specs.Trees.{program_of}
use Rattle.js_machine_compiler.proofs.GrownLemmas.{extends_same, extends_twice}
use Rattle.pure_eval.specs.declared.evaluated.Evaluated.{Evaluated}
use Rattle.pure_eval.specs.declared.evaluated.Evaluated.TheVariants as ends
use Rattle.pure_eval.specs.declared.evaluator.Added.{Added}
use Rattle.pure_eval.specs.declared.evaluator.Evaluator.{Evaluator}
use Rattle.pure_eval.specs.declared.evaluator.EvaluatorMark.{EvaluatorMark}
use Rattle.pure_eval.specs.Whole.{IsWhole}
use Rattle.pure_eval.specs.Calling.{IsCallAdded}
use Rattle.pure_eval.specs.ScriptsCodes.{IsShared}
use Rattle.pure_eval.specs.Adding.{GoesOnWith, kept_tree_at}
use Rattle.pure_eval.specs.Cutting.{IsMarkOf, IsBack}
use Rattle.pure_eval.specs.Evaluators.{HoldsProgram, Runs, is_kept}
use Rattle.pure_eval.specs.Returning.{WentOn, WentOnAfter, IsMarked, IsAgain, CameFrom, CameAfter, HasAdded, IsCode, IsCodeOf, CodeAfter}
use Rattle.pure_eval.proofs.EvaluatorLemmas.{same-program, stands-first, stands-back, stands-same, stands-added, behind-is}
use Rattle.js_machine_compiler.proofs.NameLemmas.{goes_on_same}
use Rattle.js_heap_memory.proofs.StartLemmas.{goes-then}

-- ---- going on

pub with-same : (t : NodeTable) → GoesOnWith t t []
with-same t = record { entries = extends_same t; sources = sym (append-nil t.sources.items) }

pub with-through : (t u v : NodeTable) (ds es : List SourceEntry)
    → GoesOnWith t u ds
    → GoesOnWith u v es
    → GoesOnWith t v (ds ++ es)
with-through t u v ds es g h = record {
  entries = extends_twice t u v g.entries h.entries;
  sources = h.sources ∙ ap (λ xs. xs ++ es) g.sources ∙ append_assoc t.sources.items ds es;
}

pub went-same : (e : Evaluator) → IsWhole e.table → WentOn e e
went-same e w = record { names = goes_on_same e.names; entries = []; table = with-same e.table; whole = w }

pub went-through : (a b c : Evaluator) → WentOn a b → WentOn b c → WentOn a c
went-through a b c g h = record {
  names = goes-then a.names b.names c.names g.names h.names;
  entries = g.entries ++ h.entries;
  table = with-through a.table b.table c.table g.entries h.entries g.table h.table;
  whole = h.whole;
}

pub came-first : (m : EvaluatorMark) (p : Program) (e : Evaluator) → IsMarked e m → Runs e p → CameFrom m p e
came-first m p e k r = record { first = e; runs = r; marked = k; goes_on = went-same e r.whole }

pub came-on : (m : EvaluatorMark) (p : Program) (e f : Evaluator) → CameFrom m p e → WentOn e f → CameFrom m p f
came-on m p e f c g =
    record { first = c.first; runs = c.runs; marked = c.marked; goes_on = went-through c.first e f c.goes_on g }

pub came-after : (end : Evaluated) (m : EvaluatorMark) (p : Program) (e f : Evaluator)
    → WentOnAfter end e f
    → CameFrom m p e
    → CameAfter end m p f
came-after (ends.Value v) m p e f g c = came-on m p e f c g
came-after (ends.Thrown v) m p e f g c = came-on m p e f c g
came-after ends.Effect m p e f g c = came-on m p e f c g
came-after (ends.Full what) m p e f g c = came-on m p e f c g
came-after ends.Spent m p e f g c = came-on m p e f c g
came-after ends.Memory m p e f g c = tt

-- ---- coming back

pub again-by : (e new : Evaluator)
    → GoesOn e.names new.names
    → new.next ≡ e.next
    → IsBack e.table new.table
    → IsAgain e new
again-by e new g x b = record {
  goes_on = record { names = g; entries = []; table = b.table; whole = b.whole };
  next = x;
  runs =
      λ p r. stands-same new.names new.names new.table new.table e.next new.next p refl refl x
      (stands-back e.names new.names e.table new.table e.next p r g b);
  program = b.program;
}

pub again : (first old new : Evaluator) (m : EvaluatorMark)
    → new.names ≡ old.names
    → new.next ≡ m.next
    → ((t : NodeTable) (es : List SourceEntry)
    → IsWhole t
    → IsMarkOf t m.table
    → GoesOnWith t old.table es
    → IsBack t new.table)
    → IsWhole first.table
    → IsMarked first m
    → WentOn first old
    → IsAgain first new
again first old new m n x back w k g =
    let P : List (List ℕ) → Type 0 = λ ts. GoesOn first.names ts in
    again-by first new (subst P (sym n) g.names) (x ∙ k.next) (back first.table g.entries w k.table g.table)

pub again-same : (e : Evaluator) → IsWhole e.table → IsAgain e e
again-same e w = record { goes_on = went-same e w; next = refl; runs = λ p r. r; program = λ ts. refl }

pub again-through : (a b c : Evaluator) → IsAgain a b → IsAgain b c → IsAgain a c
again-through a b c g h = record {
  goes_on = went-through a b c g.goes_on h.goes_on;
  next = h.next ∙ g.next;
  runs = λ p r. h.runs p (g.runs p r);
  program = λ ts. h.program ts ∙ g.program ts;
}

pub came-again : (old new : Evaluator) (m : EvaluatorMark) (p : Program)
    → ((e : Evaluator) → IsWhole e.table → IsMarked e m → WentOn e old → IsAgain e new)
    → CameFrom m p old
    → Runs new p × CameFrom m p new
came-again old new m p back c =
    let i : IsAgain c.first new = back c.first c.runs.whole c.marked c.goes_on in
    (i.runs p c.runs, record { first = c.first; runs = c.runs; marked = c.marked; goes_on = i.goes_on })

-- ---- behind an evaluation

went_by : (end : Evaluated) (e f : Evaluator)
    → (is_kept end ≡ true → WentOn e f)
    → (is_kept end ≡ false → WentOn e f)
    → WentOnAfter end e f
went_by (ends.Value v) e f h k = h refl
went_by (ends.Thrown v) e f h k = h refl
went_by ends.Effect e f h k = k refl
went_by (ends.Full what) e f h k = k refl
went_by ends.Spent e f h k = k refl
went_by ends.Memory e f h k = tt

pub went-after : (end : Evaluated) (old mid new : Evaluator) (base scratch : Heap) (x : Term) (a : Added)
    → IsWhole old.table
    → HasAdded old mid base scratch x a
    → new.names ≡ mid.names
    → (is_kept end ≡ true → (new.table ≡ mid.table) × (new.next ≡ a.next))
    → (is_kept end ≡ false
    → (new.next ≡ mid.next)
    × ((t : NodeTable) (es : List SourceEntry)
    → IsWhole t
    → IsMarkOf t a.mark
    → GoesOnWith t mid.table es
    → IsBack t new.table))
    → WentOnAfter end old new
went-after end old mid new base scratch x a w h n kept cut =
    let P : List (List ℕ) → Type 0 = λ ts. GoesOn old.names ts in
    let Q : NodeTable → Type 0 = λ t. GoesOnWith old.table t (h.source.entry ∷ []) in
    let names : GoesOn old.names new.names = subst P (sym n) h.source.goes_on in
    went_by end old new
    (λ o. let same = kept o in
    record {
      names = names;
      entries = h.source.entry ∷ [];
      table = subst Q (sym same.0)
          h.source.table;
      whole = subst IsWhole (sym same.0) h.source.whole;
    })
    (λ o. let back = cut o in
    let b : IsBack old.table new.table = back.1 old.table (h.source.entry ∷ []) w h.marked h.source.table in
    record { names = names; entries = []; table = b.table; whole = b.whole })

-- ---- the program of a table

pub code-of : (e : Evaluator) (q p : Program)
    → Runs e q
    → ((us : List (List ℕ)) → GoesOn e.names us → program_of us e.table ≡ p)
    → IsCodeOf e p
code-of e q p r h =
    let here : program_of e.names e.table ≡ p = h e.names (goes_on_same e.names) in
    let steady : (us : List (List ℕ))
    → GoesOn e.names us
    → program_of us e.table ≡ program_of e.names e.table = λ us g. h us g
    ∙ sym here in
    record {
      code = record {
        runs =
            record {
              whole = r.whole;
              below = r.below;
              same = λ us g. same-program (program_of us e.table)
                  (program_of e.names e.table) (steady us g);
            };
        steady = steady;
      };
      program = here;
    }

-- the code of scripts with the entry of a call behind it
pub shared-code : (ts us : List (List ℕ)) (t u v : NodeTable) (n : ℕ)
    → IsShared ts t
    → us ≡ ts
    → u ≡ t
    → IsCallAdded u v n
    → IsCodeOf (record { names = us; table = v; next = 0; call = n }) (program_of ts t)
shared-code ts us t u v n s names same added =
    let A : NodeTable → Type 0 = λ x. IsCallAdded x v n in
    let w : IsCallAdded t v n = subst A same added in
    let code : (ws : List (List ℕ)) → GoesOn ts ws → program_of ws v ≡ program_from 1 s.scripts.terms
    = λ ws g. w.program s.whole ws ∙ s.scripts.program ws g in
    let P : List (List ℕ) → Type 0 = λ ws. IsCodeOf (record { names = ws; table = v; next = 0; call = n })
    (program_of ts t) in
    subst P (sym names)
    (code-of (record { names = ts; table = v; next = 0; call = n }) (program_from 1 s.scripts.terms) (program_of ts t)
    (stands-first ts v s.scripts.terms (w.whole s.whole) code)
    (λ ws g. code ws g ∙ sym (s.scripts.program ts (goes_on_same ts))))

pub code-again : (e new : Evaluator) → IsCode e → IsAgain e new → IsCodeOf new (program_of e.names e.table)
code-again e new c i =
    code-of new (program_of e.names e.table) (program_of e.names e.table) (i.runs (program_of e.names e.table) c.runs)
    (λ us g. i.program us ∙ c.steady us (goes-then e.names new.names us i.goes_on.names g))

code_by : (end : Evaluated) (new : Evaluator) (p : Program) (s : SourceTree)
    → (is_kept end ≡ true → IsCodeOf new (p ++ s ∷ []))
    → (is_kept end ≡ false → IsCodeOf new p)
    → CodeAfter end new p s
code_by (ends.Value v) new p s h k = h refl
code_by (ends.Thrown v) new p s h k = h refl
code_by ends.Effect new p s h k = k refl
code_by (ends.Full what) new p s h k = k refl
code_by ends.Spent new p s h k = k refl
code_by ends.Memory new p s h k = tt

code_kept : (old mid new : Evaluator) (base scratch : Heap) (x : Term) (a : Added)
    → IsCode old
    → HasAdded old mid base scratch x a
    → new.names ≡ mid.names
    → new.table ≡ mid.table
    → new.next ≡ a.next
    → IsCodeOf new (program_of old.names old.table ++ kept_tree_at (next_of scratch) x ∷ [])
code_kept old mid new base scratch x a c h n t y =
    let p : Program = program_of old.names old.table in
    let s : SourceTree = kept_tree_at (next_of scratch) x in
    let b = behind-is (next_of scratch) scratch old.next a.next refl h.behind in
    let stands : HoldsProgram mid.names mid.table (length scratch.cells + 1) (s ∷ p)
    = stands-added old.names mid.names old.table mid.table old.next (length scratch.cells)
    a.node x p c.runs b.0 h.source in
    let P : List (List ℕ)
    → Type 0 = λ ts. (us : List (List ℕ))
    → GoesOn ts us
    → program_of us mid.table ≡ p ++ s ∷ [] in
    let Q : NodeTable → Type 0 = λ u. (us : List (List ℕ)) → GoesOn new.names us → program_of us u ≡ p ++ s ∷ [] in
    let program : P mid.names = λ us g. h.source.program us g
    ∙ ap (λ q. q ++ s ∷ []) (c.steady us (goes-then old.names mid.names us h.source.goes_on g)) in
    code-of new (s ∷ p) (p ++ s ∷ [])
    (stands-same mid.names new.names mid.table new.table (length scratch.cells + 1) new.next (s ∷ p) n t (y ∙ b.1)
    stands)
    (subst Q (sym t) (subst P (sym n) program))

code_cut : (old mid new : Evaluator) (base scratch : Heap) (x : Term) (a : Added)
    → IsCode old
    → HasAdded old mid base scratch x a
    → new.names ≡ mid.names
    → new.next ≡ mid.next
    → IsBack old.table new.table
    → IsCodeOf new (program_of old.names old.table)
code_cut old mid new base scratch x a c h n y b =
    let p : Program = program_of old.names old.table in
    let P : List (List ℕ) → Type 0 = λ ts. (us : List (List ℕ)) → GoesOn ts us → program_of us new.table ≡ p in
    let program : P mid.names = λ us g. b.program us
    ∙ c.steady us (goes-then old.names mid.names us h.source.goes_on g) in
    code-of new p p
    (stands-same mid.names new.names new.table new.table old.next new.next p n refl (y ∙ h.next)
    (stands-back old.names mid.names old.table new.table old.next p c.runs h.source.goes_on b))
    (subst P (sym n) program)

pub code-after : (end : Evaluated) (old mid new : Evaluator) (base scratch : Heap) (x : Term) (a : Added)
    → IsCode old
    → HasAdded old mid base scratch x a
    → new.names ≡ mid.names
    → (is_kept end ≡ true → (new.table ≡ mid.table) × (new.next ≡ a.next))
    → (is_kept end ≡ false
    → (new.next ≡ mid.next)
    × ((t : NodeTable) (es : List SourceEntry)
    → IsWhole t
    → IsMarkOf t a.mark
    → GoesOnWith t mid.table es
    → IsBack t new.table))
    → CodeAfter end new (program_of old.names old.table) (kept_tree_at (next_of scratch) x)
code-after end old mid new base scratch x a c h n kept cut =
    code_by end new (program_of old.names old.table) (kept_tree_at (next_of scratch) x)
    (λ o. let same = kept o in code_kept old mid new base scratch x a c h n same.0 same.1)
    (λ o. let back = cut o in
    code_cut old mid new base scratch x a c h n back.0
    (back.1 old.table (h.source.entry ∷ []) c.runs.whole h.marked h.source.table))
