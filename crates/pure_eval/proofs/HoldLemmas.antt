-- Code that is held.
use Rattle.std.proofs.Common.{◌≡◌, ◌⊎◌, inl, inr, ℕ, zero, suc, List, [], ◌∷◌, ◌++◌, length, Option, None, Some, refl, sym, ap, ◌∙◌, subst, arith}
use Rattle.std.specs.Prelude.{slice_get}
use Rattle.js_heap.specs.declared.value.Addr.{Addr}
use Rattle.js_semantics.specs.Functions.{function_in}
use Rattle.js_semantics.specs.Terms.{Term}
use Rattle.js_heap_memory.specs.Names.{GoesOn}
use Rattle.js_heap_memory.proofs.StartLemmas.{goes-then}
use Rattle.js_machine_nodes.specs.Codes.{code_of_number}
use Rattle.js_machine_nodes.specs.declared.node.SourceEntry.{SourceEntry}
use Rattle.js_machine_nodes.specs.declared.table.NodeTable.{NodeTable}
use Rattle.js_machine_nodes.specs.Trees.{tree}
use Rattle.js_machine_compiler.specs.Grown.{Extends, HasTree}
use Rattle.js_machine_compiler.proofs.GrownLemmas.{begins_length, extends_same, extends_twice}
use Rattle.js_machine_compiler.proofs.NameLemmas.{goes_on_same}
use Rattle.js_machine_compiler.proofs.ScriptLemmas.{tree_of}
use Rattle.js_machine_terms.specs.Views.{term_view}
use Rattle.pure_eval.specs.declared.evaluator.Evaluator.{Evaluator}
use Rattle.pure_eval.specs.declared.evaluator.EvaluatorMark.{EvaluatorMark}
use Rattle.pure_eval.specs.declared.holding.CodeChoice.{CodeChoice}
use Rattle.pure_eval.specs.declared.holding.CodeChoice.TheVariants as choices
use Rattle.pure_eval.specs.declared.holding.HeldCode.{HeldCode}
use Rattle.pure_eval.specs.declared.holding.HeldCodes.{HeldCodes}
use Rattle.pure_eval.specs.declared.prepared.PreparedSource.{PreparedSource}
use Rattle.pure_eval.specs.Holding.{HasCode, code_term, IsHeldAt, HeldSource, source_for, held_sources, sources_held, AreCodes, AreOf, IsCopy, StandsAt, IsFound, IsEntryOf, IsChosen, AreOfChoice, HoldsToo}
use Rattle.pure_eval.specs.Whole.{IsWhole}
use Rattle.pure_eval.specs.Returning.{WentOn, IsMarked, IsAgain}
use Rattle.pure_eval.specs.Working.{IsWorking, Holds, IsHolding}
use Rattle.pure_eval.proofs.ReturnLemmas.{again-same, again-through}
use Rattle.pure_eval.proofs.StayLemmas.{finds-stay}
use Rattle.pure_eval.proofs.WholeLemmas.{within-more}

-- ---- code, however names and table go on

code_on : (ts us : List (List ℕ)) (t u : NodeTable) (at : Addr) (x : Term) (e : SourceEntry)
    → IsWhole t
    → HasCode ts t at x e
    → GoesOn ts us
    → Extends t u
    → HasCode us u at x e
code_on ts us t u at x e w c g y = record {
  source = c.source;
  tree = record {
    below = omega (arith, c.tree.below, begins_length t.nodes.items u.nodes.items y.nodes);
    is = λ vs v fuel l h z. c.tree.is vs v fuel l (goes-then ts us vs g h) (extends_twice t u v y z);
  };
  within = within-more t u e y c.within;
  finds = finds-stay t u e w.table w.closed w.placed y c.within c.finds;
}

tree_is : (ts : List (List ℕ)) (t : NodeTable) (at : Addr) (x : Term) (e : SourceEntry)
    → HasCode ts t at x e
    → tree ts t e.root ≡ x
tree_is ts t at x e c = tree_of ts ts t t e.root x c.tree (goes_on_same ts) (extends_same t)

-- by the term of its own tree
pub code-as : (ts : List (List ℕ)) (t : NodeTable) (at : Addr) (x : Term) (e : SourceEntry)
    → HasCode ts t at x e
    → HasCode ts t at (tree ts t e.root) e
code-as ts t at x e c = subst (λ y. HasCode ts t at y e) (sym (tree_is ts t at x e c)) c

codes_on : (ts us : List (List ℕ)) (t u : NodeTable) (cs : List HeldCode)
    → IsWhole t
    → AreCodes ts t cs
    → GoesOn ts us
    → Extends t u
    → AreCodes us u cs × (held_sources us u cs ≡ held_sources ts t cs)
codes_on ts us t u [] w a g y = (tt, refl)
codes_on ts us t u (c ∷ cs) w a g y =
    let rest = codes_on ts us t u cs w a.1 g y in
    let x : Term = tree ts t c.entry.root in
    let later : HasCode us u c.at x c.entry = code_on ts us t u c.at x c.entry w a.0 g y in
    let f : Term → HeldSource = λ z. record { source = c.source; at = c.at; term = z } in (
      (code-as us u c.at x c.entry later, rest.0),
      ap (λ z. f z ∷ held_sources us u cs) (tree_is us u c.at x c.entry later) ∙ ap (λ hs. f x ∷ hs) rest.1,
    )

pub holds-again : (a b : Evaluator) (n : ℕ) (m : EvaluatorMark) (o : Option HeldCodes)
    → IsWhole a.table
    → Holds a n m o
    → IsAgain a b
    → Holds b n m o
holds-again a b n m None w h i = tt
holds-again a b n m (Some k) w h i = record {
  before = h.before;
  working = h.working;
  marked = h.marked;
  again = again-through h.before a b h.again i;
  codes =
      (codes_on a.names b.names a.table b.table k.codes.items w h.codes i.goes_on.names i.goes_on.table.entries).0;
}

pub sources-on : (a b : Evaluator) (n : ℕ) (m : EvaluatorMark) (o : Option HeldCodes)
    → IsWhole a.table
    → Holds a n m o
    → WentOn a b
    → sources_held b.names b.table o ≡ sources_held a.names a.table o
sources-on a b n m None w h g = refl
sources-on a b n m (Some k) w h g =
    (codes_on a.names b.names a.table b.table k.codes.items w h.codes g.names g.table.entries).1

-- ---- one code more

sources_length : (ts : List (List ℕ)) (t : NodeTable) (cs : List HeldCode) → length (held_sources ts t cs) ≡ length cs
sources_length ts t [] = refl
sources_length ts t (c ∷ cs) = ap suc (sources_length ts t cs)

pub held-length : (ts : List (List ℕ)) (t : NodeTable) (o : Option HeldCodes) (h : HeldCodes) (n : ℕ)
    → o ≡ Some h
    → n ≡ length h.codes.items
    → n ≡ length (sources_held ts t o)
held-length ts t o h n is counted =
    counted ∙ sym (sources_length ts t h.codes.items) ∙ sym (ap (λ k. length (sources_held ts t k)) is)

-- no code is held behind a mark
pub codes-begun : (e : Evaluator) (n : ℕ) (start : EvaluatorMark) (h : HeldCodes)
    → IsWorking e n start
    → IsMarked e h.mark
    → h.codes.items ≡ []
    → IsHolding e n start h
codes-begun e n start h w k none = record {
  before = e;
  working = w;
  marked = k;
  again = again-same e w.code.runs.whole;
  codes = subst (AreCodes e.names e.table) (sym none) tt;
}

codes_more : (ts : List (List ℕ)) (t : NodeTable) (cs : List HeldCode) (c : HeldCode)
    → AreCodes ts t cs
    → HasCode ts t c.at (tree ts t c.entry.root) c.entry
    → AreCodes ts t (cs ++ c ∷ [])
codes_more ts t [] c a h = (h, tt)
codes_more ts t (d ∷ cs) c a h = (a.0, codes_more ts t cs c a.1 h)

sources_more : (ts : List (List ℕ)) (t : NodeTable) (cs : List HeldCode) (c : HeldCode)
    → held_sources ts t (cs ++ c ∷ []) ≡ held_sources ts t cs ++ held_sources ts t (c ∷ [])
sources_more ts t [] c = refl
sources_more ts t (d ∷ cs) c =
    let s : HeldSource = record { source = d.source; at = d.at; term = tree ts t d.entry.root } in
    ap (λ hs. s ∷ hs) (sources_more ts t cs c)

-- the codes with one more, which was added
pub holding-more : (old new : Evaluator) (n : ℕ) (start : EvaluatorMark) (h k : HeldCodes) (at : Addr) (x : Term)
    (c : HeldCode)
    → IsWhole old.table
    → IsHolding old n start h
    → IsAgain old new
    → HasCode new.names new.table at x c.entry
    → c.at ≡ at
    → k.mark ≡ h.mark
    → k.codes.items ≡ h.codes.items ++ c ∷ []
    → IsHolding new n start k
holding-more old new n start h k at x c w i again code place mark items =
    let P : Addr → Type 0 = λ a. HasCode new.names new.table a (tree new.names new.table c.entry.root) c.entry in
    let before : AreCodes new.names new.table h.codes.items = (codes_on old.names new.names old.table new.table
    h.codes.items w i.codes again.goes_on.names again.goes_on.table.entries).0 in
    record {
      before = i.before;
      working = i.working;
      marked = subst (IsMarked i.before) (sym mark) i.marked;
      again = again-through i.before old new i.again again;
      codes =
          subst (AreCodes new.names new.table) (sym items)
          (codes_more new.names new.table h.codes.items c before
          (subst P (sym place) (code-as new.names new.table at x c.entry code)));
    }

pub sources-with : (old new : Evaluator) (n : ℕ) (start : EvaluatorMark) (h k : HeldCodes) (at : Addr)
    (p : PreparedSource) (c : HeldCode)
    → IsWhole old.table
    → IsHolding old n start h
    → IsAgain old new
    → HasCode new.names new.table at (term_view p.term) c.entry
    → c.source ≡ p.source
    → c.at ≡ at
    → k.codes.items ≡ h.codes.items ++ c ∷ []
    → held_sources new.names new.table k.codes.items
    ≡ held_sources old.names old.table h.codes.items ++ source_for at p ∷ []
sources-with old new n start h k at p c w i again code text place items =
    let ts = new.names in
    let t = new.table in
    let before = (codes_on old.names ts old.table t h.codes.items w i.codes again.goes_on.names
    again.goes_on.table.entries).1 in
    let f : List ℕ → Addr → Term → HeldSource = λ s a z. record { source = s; at = a; term = z } in
    let one : f c.source c.at (tree ts t c.entry.root) ≡ source_for at p = ap (λ s. f s c.at (tree ts t c.entry.root))
    text
    ∙ ap (λ a. f p.source a (tree ts t c.entry.root)) place
    ∙ ap (f p.source at) (tree_is ts t at (term_view p.term) c.entry code) in
    ap (held_sources ts t) items
    ∙ sources_more ts t h.codes.items c
    ∙ ap (λ hs. hs ++ held_sources ts t (c ∷ [])) before
    ∙ ap (λ s. held_sources old.names old.table h.codes.items ++ s ∷ []) one

-- ---- code that is found

some_same : {X : Type 0} (x y : X) (o : Option X) → o ≡ Some x → o ≡ Some y → x ≡ y
some_same x y o e f = let g : Some x ≡ Some y = sym e ∙ f in cc

-- a copy of the entry of the code that stands at a place
pub entry-found : (o : Option HeldCodes) (h : HeldCodes) (xs ys : List HeldCode) (at : Addr) (source : List ℕ)
    (place : ℕ) (c : HeldCode) (e : SourceEntry)
    → o ≡ Some h
    → xs ≡ h.codes.items
    → ys ≡ h.codes.items
    → StandsAt xs at source place
    → slice_get ys place ≡ Some c
    → IsCopy c.entry e
    → IsEntryOf o at source (Some e)
entry-found o h xs ys at source place c e is all both stands read copy =
    let P : Option HeldCodes → Type 0 = λ k. IsEntryOf k at source (Some e) in
    let there : slice_get h.codes.items place ≡ Some c = ap (λ zs. slice_get zs place) (sym both) ∙ read in
    let here : StandsAt h.codes.items at source place = subst (λ zs. StandsAt zs at source place) all stands in
    let same : c ≡ here.code = some_same c here.code (slice_get h.codes.items place) there here.there in
    let found : IsFound h.codes.items at source e = record {
      place = place;
      stands = here;
      copy = subst (λ (k : HeldCode). IsCopy k.entry e) same copy;
    } in
    subst P (sym is) found

code_at : (ts : List (List ℕ)) (t : NodeTable) (cs : List HeldCode) (place : ℕ) (c : HeldCode)
    → AreCodes ts t cs
    → slice_get cs place ≡ Some c
    → HasCode ts t c.at (tree ts t c.entry.root) c.entry
code_at ts t [] place c a e = absurd cc
code_at ts t (d ∷ cs) zero c a e =
    let same : d ≡ c = cc in
    subst (λ (k : HeldCode). HasCode ts t k.at (tree ts t k.entry.root) k.entry) same a.0
code_at ts t (d ∷ cs) (suc place) c a e = code_at ts t cs place c a.1 e

copied : (ts : List (List ℕ)) (t : NodeTable) (at : Addr) (x : Term) (e f : SourceEntry)
    → IsCopy e f
    → HasCode ts t at x e
    → HasCode ts t at x f
copied ts t at x e f same c = record {
  source = same.source ∙ c.source;
  tree = subst (λ n. HasTree ts t n x) (sym same.root) c.tree;
  within = record {
    root = omega (arith, c.within.root, same.root);
    numbers = λ n m h. c.within.numbers n m (ap (λ fs. slice_get fs n) (sym same.functions) ∙ h);
  };
  finds =
      λ us n. ap (λ r. function_in n (tree us t r)) same.root
      ∙ c.finds us n
      ∙ ap (λ fs. code_of_number us t (slice_get fs n)) (sym same.functions);
}

found_code : (ts : List (List ℕ)) (t : NodeTable) (cs : List HeldCode) (at : Addr) (source : List ℕ) (e : SourceEntry)
    → AreCodes ts t cs
    → IsFound cs at source e
    → HasCode ts t at (tree ts t e.root) e
found_code ts t cs at source e a i =
    let c : HeldCode = i.stands.code in
    let x : Term = tree ts t c.entry.root in
    let there : HasCode ts t c.at x c.entry = code_at ts t cs i.place c a i.stands.there in
    let here : HasCode ts t at x c.entry = subst (λ b. HasCode ts t b x c.entry) i.stands.at_is there in
    code-as ts t at x e (copied ts t at x c.entry e i.copy here)

-- the code that is chosen is that of a source at the address
pub chosen-held : (b e : Evaluator) (n : ℕ) (m : EvaluatorMark) (choice : CodeChoice) (held : Option HeldCodes)
    (at : Addr) (source : List ℕ) (o : Option SourceEntry)
    → IsWhole b.table
    → Holds b n m held
    → WentOn b e
    → IsChosen choice held at source o
    → IsHeldAt e.names e.table at o
chosen-held b e n m choice held at source None w h g i = tt
chosen-held b e n m choices.New held at source (Some f) w h g i = absurd i
chosen-held b e n m choices.Held None at source (Some f) w h g i = absurd i
chosen-held b e n m choices.Held (Some k) at source (Some f) w h g i =
    found_code e.names e.table k.codes.items at source f
    (codes_on b.names e.names b.table e.table k.codes.items w h.codes g.names g.table.entries).0 i

term_at : (ts : List (List ℕ)) (t : NodeTable) (cs : List HeldCode) (at : Addr) (p : PreparedSource) (place : ℕ)
    (c : HeldCode)
    → AreOf at p (held_sources ts t cs)
    → slice_get cs place ≡ Some c
    → c.source ≡ p.source
    → c.at ≡ at
    → tree ts t c.entry.root ≡ term_view p.term
term_at ts t [] at p place c a e f h = absurd cc
term_at ts t (d ∷ cs) at p zero c a e f h =
    let same : c ≡ d = cc in
    let P : HeldCode
    → Type 0 = λ k. k.source ≡ p.source → k.at ≡ at → tree ts t k.entry.root ≡ term_view p.term in
    let there : P c = subst P (sym same) a.0 in
    there f h
term_at ts t (d ∷ cs) at p (suc place) c a e f h = term_at ts t cs at p place c a.1 e f h

-- its term is that of the source, if what is held of the source's text there is
pub chosen-term : (ts : List (List ℕ)) (t : NodeTable) (choice : CodeChoice) (held : Option HeldCodes) (at : Addr)
    (p : PreparedSource) (o : Option SourceEntry)
    → AreOfChoice choice at p (sources_held ts t held)
    → IsChosen choice held at p.source o
    → code_term ts t (term_view p.term) o ≡ term_view p.term
chosen-term ts t choice held at p None a i = refl
chosen-term ts t choices.New held at p (Some e) a i = absurd i
chosen-term ts t choices.Held None at p (Some e) a i = absurd i
chosen-term ts t choices.Held (Some h) at p (Some e) a i =
    ap (tree ts t) i.copy.root
    ∙ term_at ts t h.codes.items at p i.place i.stands.code a i.stands.there i.stands.source_is i.stands.at_is

-- ---- holding one more, with room for it

pub holds-too : (h : HeldSource) (old mid new : List HeldSource)
    → (mid ≡ old) ⊎ (mid ≡ [])
    → new ≡ mid ++ h ∷ []
    → HoldsToo h old new
holds-too h old mid new (inl same) e = inr (inl (e ∙ ap (λ hs. hs ++ h ∷ []) same))
holds-too h old mid new (inr none) e = inr (inr (e ∙ ap (λ hs. hs ++ h ∷ []) none))

-- held sources that were kept or given up, of what is now called otherwise
pub kept-or-none : {new old same : List HeldSource}
    → (new ≡ old) ⊎ (new ≡ [])
    → old ≡ same
    → (new ≡ same) ⊎ (new ≡ [])
kept-or-none (inl kept) e = inl (kept ∙ e)
kept-or-none (inr none) e = inr none
