-- Lemmas on actions that take the parts of a list one after another.
use Rattle.std.proofs.Common.{◌≡◌, ℕ, ◌+◌, ◌<◌, List, [], ◌∷◌, ◌++◌, length, drop, get_or, sym, ap, ◌∙◌, subst, append_assoc}
use Rattle.std.specs.Prelude.{Result, IsErrAnd}
use Rattle.js_heap.specs.declared.value.Addr.{Addr}
use Rattle.js_heap.specs.declared.value.Value.{Value}
use Rattle.js_heap.specs.declared.value.Value.TheVariants as values
use Rattle.js_heap.specs.declared.change.Change.TheVariants as changes
use Rattle.js_heap.specs.World.{World}
use Rattle.js_semantics.specs.State.{State, with_world, Action, write, make_text}
use Rattle.js_semantics.specs.BuiltIns.{make_texts, push_all}
use Rattle.js_semantics.specs.Functions.{with_names}
use Rattle.js_heap_memory.specs.declared.stored.Slot.{Slot}
use Rattle.js_heap_memory.specs.Cells.{bindings}
use Rattle.js_heap_memory.specs.Names.{name_of}
use Rattle.js_machine_actions.specs.declared.action_end.ActionEnd.{ActionEnd}
use Rattle.js_machine_actions.specs.Flow.{performed, Stops, Yields, Passes, Gives}
use Rattle.js_machine_actions.proofs.FlowLemmas.{yields-err, gives-err, passes-err}
use Rattle.std.proofs.lemmas.List.{drop_more}

-- ---- names

-- the names from a place on are added
abbrev pub NamesLeft : Addr → List (List ℕ) → List Slot → World → ℕ → World → Type 0
NamesLeft a ts ss v i w =
    (s : State) (k : Action)
    → performed (with_names a (bindings ts ss) k) (with_world s v) ≡ performed
    (with_names a (bindings ts (drop i ss)) k) (with_world s w)

names_at : (a : Addr) (ts : List (List ℕ)) (ss : List Slot) (i : ℕ) (d : Slot) (v w : World) (s : State) (k : Action)
    → i < length ss
    → NamesLeft a ts ss v i w →
    performed (with_names a (bindings ts ss) k) (with_world s v) ≡ performed
    (write a (changes.Declare (name_of ts (get_or ss i d).name.number) (get_or ss i d).constant)
    (with_names a (bindings ts (drop (i + 1) ss)) k))
    (with_world s w)
names_at a ts ss i d v w s k l h =
    h s k ∙ ap (λ xs. performed (with_names a (bindings ts xs) k) (with_world s w)) (drop_more ss i d l)

pub names-step : (a : Addr) (ts : List (List ℕ)) (ss : List Slot) (i : ℕ) (d : Slot) (v w u : World)
    → i < length ss
    → NamesLeft a ts ss v i w →
    ((s : State) (k : Action)
    → performed (write a (changes.Declare (name_of ts (get_or ss i d).name.number) (get_or ss i d).constant) k)
    (with_world s w) ≡ performed k (with_world s u))
    → NamesLeft a ts ss v (i + 1) u
names-step a ts ss i d v w u l h g =
    λ s k. names_at a ts ss i d v w s k l h ∙ g s (with_names a (bindings ts (drop (i + 1) ss)) k)

pub names-stop : (a : Addr) (ts : List (List ℕ)) (ss : List Slot) (i : ℕ) (d : Slot) (v w u : World)
    (r : Result (Unit {0}) ActionEnd) (e : ActionEnd)
    → i < length ss
    → NamesLeft a ts ss v i w →
    ((s : State) (k : Action)
    → Stops (write a (changes.Declare (name_of ts (get_or ss i d).name.number) (get_or ss i d).constant) k)
    (with_world s w) e (with_world s u))
    → IsErrAnd r (λ e'. e' ≡ e)
    → Passes (with_names a (bindings ts ss)) v r u
names-stop a ts ss i d v w u r e l h g q =
    passes-err (with_names a (bindings ts ss)) v u r e q
    (λ s k said. names_at a ts ss i d v w s k l h ∙ g s (with_names a (bindings ts (drop (i + 1) ss)) k) said)

-- ---- texts

-- the texts from a place on are made
abbrev pub TextsLeft : List (List ℕ) → World → ℕ → List Value → World → Type 0
TextsLeft ts v i made w =
    (s : State) (k : List Value → Action)
    → performed (make_texts ts k) (with_world s v) ≡ performed (make_texts (drop i ts) (λ vs. k (made ++ vs)))
    (with_world s w)

pub same-at : (ts : List (List ℕ)) (i : ℕ) (t u : List ℕ) → t ≡ u → u ≡ get_or ts i u → t ≡ get_or ts i t
same-at ts i t u e f = let P : List ℕ → Type 0 = λ x. x ≡ get_or ts i x in subst P (sym e) f

texts_at : (ts : List (List ℕ)) (i : ℕ) (t : List ℕ) (made : List Value) (v w : World) (s : State)
    (k : List Value → Action)
    → i < length ts
    → t ≡ get_or ts i t
    → TextsLeft ts v i made w →
    performed (make_texts ts k) (with_world s v) ≡ performed
    (make_text t (λ x. make_texts (drop (i + 1) ts) (λ vs. k (made ++ x ∷ vs)))) (with_world s w)
texts_at ts i t made v w s k l e h =
    let c : drop i ts ≡ t ∷ drop (i + 1) ts = drop_more ts i t l ∙ ap (λ x. x ∷ drop (i + 1) ts) (sym e) in
    h s k ∙ ap (λ xs. performed (make_texts xs (λ vs. k (made ++ vs))) (with_world s w)) c

pub texts-step : (ts : List (List ℕ)) (i : ℕ) (t : List ℕ) (made more : List Value) (x : Value) (v w u : World)
    → i < length ts
    → t ≡ get_or ts i t
    → TextsLeft ts v i made w
    → more ≡ made ++ x ∷ [] →
    ((s : State) (h : Value → Action) → performed (make_text t h) (with_world s w) ≡ performed (h x) (with_world s u))
    → TextsLeft ts v (i + 1) more u
texts-step ts i t made more x v w u l e h f g =
    let P : List Value → Type 0 = λ xs. TextsLeft ts v (i + 1) xs u in
    subst P (sym f)
    (λ s k. texts_at ts i t made v w s k l e h
    ∙ g s (λ y. make_texts (drop (i + 1) ts) (λ vs. k (made ++ y ∷ vs)))
    ∙ simp append_assoc)

pub texts-stop : (ts : List (List ℕ)) (i : ℕ) (t : List ℕ) (made : List Value) (v w u : World)
    (r : Result (List Value) ActionEnd) (e : ActionEnd)
    → i < length ts
    → t ≡ get_or ts i t
    → TextsLeft ts v i made w →
    ((s : State) (h : Value → Action) → Stops (make_text t h) (with_world s w) e (with_world s u))
    → IsErrAnd r (λ d. d ≡ e)
    → Yields (make_texts ts) v r u
texts-stop ts i t made v w u r e l f h g q =
    yields-err (make_texts ts) v u r e q
    (λ s k said. texts_at ts i t made v w s k l f h
    ∙ g s (λ y. make_texts (drop (i + 1) ts) (λ vs. k (made ++ y ∷ vs))) said)

-- ---- elements

-- the values from a place on are put behind the elements
abbrev pub ElementsLeft : Addr → ℕ → List Value → World → ℕ → ℕ → World → Type 0
ElementsLeft a first vs v i l w =
    (s : State)
    → performed (push_all a first vs) (with_world s v) ≡ performed (push_all a l (drop i vs)) (with_world s w)

push_at : (a : Addr) (l : ℕ) (vs : List Value) (i : ℕ)
    → i < length vs
    → push_all a l (drop i vs) ≡ write a (changes.Element l (get_or vs i values.Undefined))
    (push_all a (l + 1) (drop (i + 1) vs))
push_at a l vs i h = ap (λ xs. push_all a l xs) (drop_more vs i values.Undefined h)

pub push-stop : (a : Addr) (first l : ℕ) (vs : List Value) (i : ℕ) (v w u : World) (r : Result Value ActionEnd)
    (e : ActionEnd)
    → i < length vs
    → ElementsLeft a first vs v i l w →
    ((s : State) (k : Action)
    → Stops (write a (changes.Element l (get_or vs i values.Undefined)) k) (with_world s w) e (with_world s u))
    → IsErrAnd r (λ d. d ≡ e)
    → Gives (push_all a first vs) v r u
push-stop a first l vs i v w u r e h inv g q =
    gives-err (push_all a first vs) v u r e q
    (λ s said. inv s
    ∙ ap (λ x. performed x (with_world s w)) (push_at a l vs i h)
    ∙ g s (push_all a (l + 1) (drop (i + 1) vs)) said)
