-- The steps by which a term gets its node.
use Rattle.std.proofs.Common.{◌≡◌, ℕ, zero, suc, ◌+◌, ◌<◌, false, ◌&&◌, List, [], ◌∷◌, ◌++◌, length, take, get_or, Option, None, Some, Result, Ok, Err, OnOk, refl, sym, ap, ◌∙◌, subst, arith}
use Rattle.std.specs.Prelude.{IfOk, slice_get}
use Rattle.std.specs.Global.{Vec, Box}
use Rattle.std.specs.declared.alloc.AllocError.{AllocError}
use Rattle.std.proofs.lemmas.List.{take_more}
use Rattle.js_heap.specs.declared.value.Value.{Value}
use Rattle.js_semantics.specs.declared.form.Form.{Form}
use Rattle.js_semantics.specs.declared.form.SourceMark.{SourceMark}
use Rattle.js_semantics.specs.Terms as semantics
use Rattle.js_machine_terms.specs.declared.term.Term.{Term}
use Rattle.js_machine_terms.specs.declared.term.Terms.{Terms}
use Rattle.js_machine_terms.specs.declared.term.Term.TheViews as views
use Rattle.js_machine_terms.specs.Views.{term_view, terms_view, listed_view}
use Rattle.js_machine_terms.proofs.TermLemmas.{view_done, view_standing, view_part, listed_view-append}
use Rattle.js_machine_nodes.specs.declared.op.Op.TheVariants as ops
use Rattle.js_machine_nodes.specs.declared.table.NodeTable.{NodeTable}
use Rattle.js_heap_memory.specs.Names.{GoesOn}
use Rattle.js_machine_nodes.specs.Trees.{EachBelow}
use Rattle.js_machine_compiler.specs.declared.nodes.Instruction.{Instruction}
use Rattle.js_machine_compiler.specs.Added.{IsNodeAdded}
use Rattle.js_machine_compiler.specs.Plain.{is_plain_form, is_plain, are_plain}
use Rattle.js_machine_compiler.specs.Grown.{Extends, KeepsTable, Grows, Enters, HasTree, HaveTrees, HoldsTerm, HoldsAll}
use Rattle.js_machine_compiler.proofs.GrownLemmas.{keeps_twice, grows_twice, below_more, begins_length, node_keeps, node_tree, literal_node, trees_stay, trees_go_on, trees_more}
use Rattle.std.proofs.lemmas.Bool.{and_right}

-- ---- values

pub literal_keeps : (r : Result ℕ AllocError) (t u v : NodeTable) (info : ℕ) (none : List ℕ)
    → none ≡ []
    → KeepsTable t u
    → IfOk r (λ n. IsNodeAdded u v ops.Literal info none none n)
    → OnOk r (KeepsTable t v)
literal_keeps (Err e) t u v info none h k a = tt
literal_keeps (Ok n) t u v info none h k a =
    let b : EachBelow (length u.nodes.items) none = subst (EachBelow (length u.nodes.items)) (sym h) tt in
    keeps_twice t u v k (node_keeps u v ops.Literal info n none none a b b refl (λ l. absurd cc) tt)

pub literal_trees : (r : Result ℕ AllocError) (u v : NodeTable) (info : ℕ) (none : List ℕ) (x : Value)
    → slice_get u.constants.items info ≡ Some x
    → IfOk r (λ n. IsNodeAdded u v ops.Literal info none none n)
    → IfOk r (λ n. (ts : List (List ℕ)) → HasTree ts v n (semantics.done x))
literal_trees (Err e) u v info none x c a = tt
literal_trees (Ok n) u v info none x c a = λ ts. literal_node ts u v info n none none x a c

-- ---- forms over parts

pub part_grows : (ts us : List (List ℕ)) (t u v : NodeTable) (o : Option Instruction) (e : Instruction) (n : ℕ) (now later : List ℕ)
    (f : Form)
    → Grows ts t us u
    → Enters us u f o
    → o ≡ Some e
    → IsNodeAdded u v e.op e.info now later n
    → EachBelow (length t.nodes.items) now
    → EachBelow (length t.nodes.items) later
    → Grows ts t us v
part_grows ts us t u v o e n now later f g h s a b c =
    let k : Enters us u f (Some e) = subst (λ (x : Option Instruction). Enters us u f x) s h in
    let m = begins_length t.nodes.items u.nodes.items g.table.entries.nodes in
    record {
      names = g.names;
      table =
          keeps_twice t u v g.table
          (node_keeps u v e.op e.info n now later a
          (below_more (length t.nodes.items) (length u.nodes.items) now m b)
          (below_more (length t.nodes.items) (length u.nodes.items) later m c) k.source k.turns k.place);
    }

pub part_tree : (ts us : List (List ℕ)) (t u v : NodeTable) (o : Option Instruction) (e : Instruction) (n : ℕ) (now later : List ℕ)
    (f : Form)
    → Grows ts t us u
    → Enters us u f o
    → o ≡ Some e
    → IsNodeAdded u v e.op e.info now later n
    → (xs ys : semantics.Terms)
    → HaveTrees ts t now xs
    → HaveTrees ts t later ys
    → HasTree us v n (semantics.part f xs ys)
part_tree ts us t u v o e n now later f g h s a xs ys x y =
    let k : Enters us u f (Some e) = subst (λ (x : Option Instruction). Enters us u f x) s h in
    node_tree us u v e.op e.info n now later f xs ys a k (trees_stay ts us t u now xs g x)
    (trees_stay ts us t u later ys g y)

-- ---- terms

pub done_holds : (ts : List (List ℕ)) (t : NodeTable) (n : ℕ) (x : Term) (v : Value)
    → x ≡ Term.Done v
    → HasTree ts t n (semantics.done v)
    → HasTree ts t n (term_view x)
done_holds ts t n x v e h = subst (HasTree ts t n) (sym (ap term_view e ∙ view_done v)) h

pub standing_none : (x : Term) (v : Value) (s : SourceMark) → x ≡ Term.Standing v s → is_plain (term_view x) ≡ false
standing_none x v s e = ap is_plain (ap term_view e ∙ view_standing v s)

parts_none : (ts : List (List ℕ)) (t : NodeTable) (o : Option (Vec ℕ)) (xs : semantics.Terms)
    → ((v : Vec ℕ) → o ≡ Some v → ⊥)
    → HoldsAll ts t xs o
    → are_plain xs ≡ false
parts_none ts t None xs n h = h
parts_none ts t (Some v) xs n h = absurd (n v refl)

pub now_none : (ts : List (List ℕ)) (t : NodeTable) (o : Option (Vec ℕ)) (x : Term) (f : Box Form) (now later : Terms)
    → x ≡ views.Part f now later
    → ((v : Vec ℕ) → o ≡ Some v → ⊥)
    → HoldsAll ts t (terms_view now) o
    → is_plain (term_view x) ≡ false
now_none ts t o x f now later e n h =
    ap is_plain (ap term_view e ∙ view_part f now later)
    ∙ ap (λ b. is_plain_form f.value && (b && are_plain (terms_view later))) (parts_none ts t o (terms_view now) n h)
    ∙ and_right (is_plain_form f.value) false refl

pub later_none : (ts : List (List ℕ)) (t : NodeTable) (o : Option (Vec ℕ)) (x : Term) (f : Box Form) (now later : Terms)
    → x ≡ views.Part f now later
    → ((v : Vec ℕ) → o ≡ Some v → ⊥)
    → HoldsAll ts t (terms_view later) o
    → is_plain (term_view x) ≡ false
later_none ts t o x f now later e n h =
    ap is_plain (ap term_view e ∙ view_part f now later)
    ∙ ap (λ b. is_plain_form f.value && (are_plain (terms_view now) && b)) (parts_none ts t o (terms_view later) n h)
    ∙ ap (λ b. is_plain_form f.value && b) (and_right (are_plain (terms_view now)) false refl)
    ∙ and_right (is_plain_form f.value) false refl

parts_some : (ts : List (List ℕ)) (t : NodeTable) (o : Option (Vec ℕ)) (ns : Vec ℕ) (xs : semantics.Terms)
    → o ≡ Some ns
    → HoldsAll ts t xs o
    → HaveTrees ts t ns.items xs
parts_some ts t o ns xs e h =
    let k : HoldsAll ts t xs (Some ns) = subst (λ (p : Option (Vec ℕ)). HoldsAll ts t xs p) e h in k

pub parts_grow : (r : Result (Option ℕ) AllocError) (ts us vs ws : List (List ℕ)) (t u v w : NodeTable)
    (o p : Option (Vec ℕ)) (now later : Vec ℕ) (xs ys : semantics.Terms)
    → Grows ts t us u
    → Grows us u vs v
    → o ≡ Some now
    → HoldsAll us u xs o
    → p ≡ Some later
    → HoldsAll vs v ys p
    → (EachBelow (length v.nodes.items) now.items
    → EachBelow (length v.nodes.items) later.items
    → OnOk r (Grows vs v ws w))
    → OnOk r (Grows ts t ws w)
parts_grow (Err e) ts us vs ws t u v w o p now later xs ys g h a x b y k = tt
parts_grow (Ok n) ts us vs ws t u v w o p now later xs ys g h a x b y k =
    let c = parts_some us u o now xs a x in
    let d = parts_some vs v p later ys b y in
    grows_twice ts vs ws t v w (grows_twice ts us vs t u v g h)
    (k (trees_stay us vs u v now.items xs h c).below d.below)

pub parts_tree : (r : Result (Option ℕ) AllocError) (us vs ws : List (List ℕ)) (u v w : NodeTable)
    (o p : Option (Vec ℕ)) (ns ms : Vec ℕ) (x : Term) (f : Box Form) (g : Form) (now later : Terms)
    → x ≡ views.Part f now later
    → g ≡ f.value
    → Grows us u vs v
    → o ≡ Some ns
    → HoldsAll us u (terms_view now) o
    → p ≡ Some ms
    → HoldsAll vs v (terms_view later) p
    → ((xs ys : semantics.Terms)
    → HaveTrees vs v ns.items xs
    → HaveTrees vs v ms.items ys
    → IfOk r (λ n. HoldsTerm ws w (semantics.part g xs ys) n))
    → IfOk r (λ n. HoldsTerm ws w (term_view x) n)
parts_tree r us vs ws u v w o p ns ms x f g now later e d h a y b z k =
    let q : semantics.part g (terms_view now) (terms_view later) ≡ term_view x = ap
    (λ c. semantics.part c (terms_view now) (terms_view later)) d
    ∙ sym (ap term_view e ∙ view_part f now later) in
    subst (λ (c : semantics.Term). IfOk r (λ n. HoldsTerm ws w c n)) q
    (k (terms_view now) (terms_view later)
    (trees_stay us vs u v ns.items (terms_view now) h (parts_some us u o ns (terms_view now) a y))
    (parts_some vs v p ms (terms_view later) b z))

-- ---- terms in order

pub items_go_on : (ts us : List (List ℕ)) (t u : NodeTable) (ns ms : List ℕ) (items : List Term) (i : ℕ) (x : Term)
    (n : ℕ) (o : Option ℕ)
    → HaveTrees ts t ns (listed_view (take i items))
    → GoesOn ts us
    → Extends t u
    → o ≡ Some n
    → HoldsTerm us u (term_view x) o
    → ms ≡ ns ++ n ∷ []
    → i < length items
    → x ≡ get_or items i x
    → HaveTrees us u ms (listed_view (take (i + 1) items))
items_go_on ts us t u ns ms items i x n o h g w s k e l is =
    let j : HoldsTerm us u (term_view x) (Some n) = subst (λ (p : Option ℕ). HoldsTerm us u (term_view x) p) s k in
    let q : listed_view (take (i + 1) items) ≡ semantics.joined (listed_view (take i items))
    (semantics.one (term_view x)) =
    ap listed_view (take_more items i x l)
    ∙ listed_view-append (take i items) (get_or items i x ∷ [])
    ∙ ap (λ y. semantics.joined (listed_view (take i items)) (semantics.one (term_view y))) (sym is) in
    subst (HaveTrees us u ms) (sym q)
    (trees_more us u ns ms (listed_view (take i items)) n (term_view x)
    (trees_go_on ts us t u ns (listed_view (take i items)) g w h) j e)

pub items_step : (ts us : List (List ℕ)) (t u : NodeTable) (ns ms : List ℕ) (items : List Term) (i : ℕ) (x : Term)
    (n : ℕ) (o : Option ℕ)
    → HaveTrees ts t ns (listed_view (take i items))
    → Grows ts t us u
    → o ≡ Some n
    → HoldsTerm us u (term_view x) o
    → ms ≡ ns ++ n ∷ []
    → i < length items
    → x ≡ get_or items i x
    → HaveTrees us u ms (listed_view (take (i + 1) items))
items_step ts us t u ns ms items i x n o h g s k e l is =
    items_go_on ts us t u ns ms items i x n o h g.names g.table.entries s k e l is

one_none : (items : List Term) (i : ℕ) (d : Term)
    → i < length items
    → is_plain (term_view (get_or items i d)) ≡ false
    → are_plain (listed_view items) ≡ false
one_none [] i d l h = absurd (omega arith)
one_none (x ∷ items) zero d l h = ap (λ b. b && are_plain (listed_view items)) h
one_none (x ∷ items) (suc i) d l h =
    ap (λ b. is_plain (term_view x) && b) (one_none items i d (omega arith) h)
    ∙ and_right (is_plain (term_view x)) false refl

pub items_none : (ts : List (List ℕ)) (t : NodeTable) (items all : List Term) (i : ℕ) (x : Term) (o : Option ℕ)
    → i < length items
    → x ≡ get_or items i x
    → o ≡ None
    → HoldsTerm ts t (term_view x) o
    → items ≡ all
    → are_plain (listed_view all) ≡ false
items_none ts t items all i x o l is s h e =
    let k : HoldsTerm ts t (term_view x) None = subst (λ (p : Option ℕ). HoldsTerm ts t (term_view x) p) s h in
    ap (λ xs. are_plain (listed_view xs)) (sym e) ∙ one_none items i x l (ap (λ y. is_plain (term_view y)) (sym is) ∙ k)
