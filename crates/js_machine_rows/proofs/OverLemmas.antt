-- Lemmas on rows over a table.
use Rattle.std.proofs.Common.{◌≡◌, ℕ, zero, suc, ◌+◌, ◌-◌, take, drop, arith, refl, sym, subst, ap, ◌∙◌, Bool, true, false, List, [], ◌∷◌, Some, Result, Ok, Err, slice_get}
use Rattle.js_heap.specs.declared.value.Addr.{Addr}
use Rattle.js_heap.specs.declared.value.Value.{Value}
use Rattle.js_heap.specs.declared.value.Value.TheVariants as values
use Rattle.js_heap.specs.World.{World}
use Rattle.js_semantics.specs.Terms.{Term, more, settle}
use Rattle.js_semantics.specs.State.{State, with_world, Action, go, give, Move}
use Rattle.js_semantics.specs.Rows.{chosen, kept_or, otherwise}
use Rattle.js_machine_actions.specs.declared.action_end.ActionEnd.{ActionEnd}
use Rattle.js_machine_actions.specs.Flow.{performed, Yields, Passes}
use Rattle.js_machine_actions.specs.Contexts.{Context, state_of, Turns}
use Rattle.js_machine_nodes.specs.declared.table.NodeTable.{NodeTable}
use Rattle.js_machine_nodes.specs.Trees.{tree, terms, trees, kids_between}
use Rattle.js_machine_engine.specs.declared.reduced.Reduced.{Reduced}
use Rattle.js_machine_engine.specs.declared.reduced.Reduced.TheVariants as reduced
use Rattle.js_machine_engine.specs.Tasks.{Wide}
use Rattle.js_machine_engine.specs.Answers.{Reduces, reduced_move, reduced_term, in_scope}
use Rattle.js_machine_rows.specs.Does.{Does, DoesIn, DoesWith}
use Rattle.js_machine_rows.specs.Over.{answered_by, uncovered, gone_to}
use Rattle.js_machine_rows.proofs.AnswerLemmas.{stops-does}
use Rattle.js_machine_rows.proofs.PartLemmas.{first-tree}

-- the index of the part that a test chooses
abbrev pub choice : Bool → ℕ
choice true = 0
choice false = 1

-- ---- what is done first

-- an action that goes on as another one
pub does-by : (ts : List (List ℕ)) (t : NodeTable) (e : Wide) (a b : Action) (s u z : State) (r : Reduced)
    → performed a s ≡ performed b u
    → Does ts t e b u r z
    → Does ts t e a s r z
does-by ts t e a b s u z r h d = let P : Move Term → Type 0 = λ m. Reduces ts t e m r z in subst P (sym h) d

pub same-action : (ts : List (List ℕ)) (t : NodeTable) (e : Wide) (a b : Action) (v w : World) (r : Reduced)
    → a ≡ b
    → DoesIn ts t e b v r w
    → DoesIn ts t e a v r w
same-action ts t e a b v w r h d = let P : Action → Type 0 = λ x. DoesIn ts t e x v r w in subst P (sym h) d

pub same-answer : (ts : List (List ℕ)) (t : NodeTable) (e : Wide) (a : Action) (v w : World) (r q : Reduced)
    → q ≡ r
    → DoesIn ts t e a v r w
    → DoesIn ts t e a v q w
same-answer ts t e a v w r q h d = let P : Reduced → Type 0 = λ x. DoesIn ts t e a v x w in subst P (sym h) d

pub same-row : (ts : List (List ℕ)) (t : NodeTable) (e : Wide) (a b : Action) (v w : World) (c d : Context)
    (r : Reduced)
    → a ≡ b
    → DoesWith ts t e b v c r w d
    → DoesWith ts t e a v c r w d
same-row ts t e a b v w c d r h g = let P : Action → Type 0 = λ x. DoesWith ts t e x v c r w d in subst P (sym h) g

-- a context that turns first
pub turns-does : (ts : List (List ℕ)) (t : NodeTable) (e : Wide) (f : Action → Action) (a : Action) (v w : World)
    (b c d : Context) (r : Reduced)
    → Turns f b c
    → DoesWith ts t e a v c r w d
    → DoesWith ts t e (f a) v b r w d
turns-does ts t e f a v w b c d r h g =
    λ taken. does-by ts t e (f a) a (state_of v b taken) (state_of v c taken) (state_of w d taken) r (h v taken a)
    (g taken)

-- something that is made first
pub yields-does : {A : Type 0} (ts : List (List ℕ)) (t : NodeTable) (e : Wide) (f : (A → Action) → Action)
    (k : A → Action) (g : A → Reduced) (v : World) (r : Result A ActionEnd) (w : World) (q : Reduced) →
    Yields f v r w
    → q ≡ answered_by g r
    → ((a : A) (s : State) → Does ts t e (k a) s (g a) s)
    → DoesIn ts t e (f k) v q w
yields-does ts t e f k g v (Ok a) w q h i d =
    same-answer ts t e (f k) v w (g a) q i
    (λ s. does-by ts t e (f k) (k a) (with_world s v) (with_world s w) (with_world s w) (g a) (h s k)
    (d a (with_world s w)))
yields-does ts t e f k g v (Err x) w q h i d =
    same-answer ts t e (f k) v w (answered_by g (Err x)) q i
    (λ s. stops-does ts t e (f k) (with_world s v) x (with_world s w) (h s k))

-- something that is done first
pub passes-does : {A : Type 0} (ts : List (List ℕ)) (t : NodeTable) (e : Wide) (f : Action → Action) (k : Action)
    (g : A → Reduced) (v : World) (r : Result A ActionEnd) (w : World) (q : Reduced) →
    Passes f v r w → q ≡ answered_by g r → ((a : A) (s : State) → Does ts t e k s (g a) s) → DoesIn ts t e (f k) v q w
passes-does ts t e f k g v (Ok a) w q h i d =
    same-answer ts t e (f k) v w (g a) q i
    (λ s. does-by ts t e (f k) k (with_world s v) (with_world s w) (with_world s w) (g a) (h s k)
    (d a (with_world s w)))
passes-does ts t e f k g v (Err x) w q h i d =
    same-answer ts t e (f k) v w (answered_by g (Err x)) q i
    (λ s. stops-does ts t e (f k) (with_world s v) x (with_world s w) (h s k))

-- ---- kept parts: the first one, and those behind it

take_none : (n : ℕ) → take n (let e : List ℕ = [] in e) ≡ []
take_none zero = refl
take_none (suc n) = refl

drop_drop : (ks : List ℕ) (i : ℕ) → drop 1 (drop i ks) ≡ drop (suc i) ks
drop_drop [] zero = refl
drop_drop [] (suc i) = refl
drop_drop (k ∷ ks) zero = refl
drop_drop (k ∷ ks) (suc i) = drop_drop ks i

drop_take : (n : ℕ) (ks : List ℕ) → drop 1 (take n ks) ≡ take (n - 1) (drop 1 ks)
drop_take zero [] = refl
drop_take zero (k ∷ ks) = refl
drop_take (suc n) [] = sym (take_none (suc n - 1))
drop_take (suc n) (k ∷ ks) = let e : n ≡ suc n - 1 = omega arith in ap (λ m. take m ks) e

kids_behind : (t : NodeTable) (from to : ℕ) → drop 1 (kids_between t from to) ≡ kids_between t (from + 1) to
kids_behind t from to =
    let e : (to - from) - 1 ≡ to - (from + 1) = omega arith in
    let f : suc from ≡ from + 1 = omega arith in
    drop_take (to - from) (drop from t.kids.items)
    ∙ ap (λ m. take m (drop 1 (drop from t.kids.items))) e
    ∙ ap (λ xs. take (to - (from + 1)) xs) (drop_drop t.kids.items from ∙ ap (λ m. drop m t.kids.items) f)

pub first-kept : (ts : List (List ℕ)) (t : NodeTable) (from to k : ℕ)
    → Some k ≡ slice_get (kids_between t from to) 0
    → trees ts t from to ≡ more (tree ts t k) (trees ts t (from + 1) to)
first-kept ts t from to k h =
    first-tree ts t from to k h ∙ ap (λ ks. more (tree ts t k) (terms (tree ts t) ks)) (kids_behind t from to)

-- ---- ends

pub give-does : (ts : List (List ℕ)) (t : NodeTable) (e : Wide) (v : Value) (s : State)
    → Does ts t e (give v) s (reduced.Gives v) s
unfolding reduced_move reduced_term performed
give-does ts t e v s = refl

pub go-does : (ts : List (List ℕ)) (t : NodeTable) (e : Wide) (n : ℕ) (s : State)
    → Does ts t e (go (tree ts t n)) s (reduced.Goes n) s
unfolding reduced_move reduced_term performed
go-does ts t e n s = refl

pub uncovers-does : (ts : List (List ℕ)) (t : NodeTable) (e : Wide) (n : ℕ) (s : State)
    → Does ts t e (go (settle (tree ts t n))) s (reduced.Uncovers n) s
unfolding reduced_move reduced_term performed
uncovers-does ts t e n s = refl

pub scopes-does : (ts : List (List ℕ)) (t : NodeTable) (e : Wide) (a : Addr) (n : ℕ) (s : State)
    → Does ts t e (go (in_scope a (settle (tree ts t n)))) s (reduced.Scopes a n) s
unfolding reduced_move reduced_term performed
scopes-does ts t e a n s = refl

-- ---- kept parts by a test

pub chosen-does : (ts : List (List ℕ)) (t : NodeTable) (e : Wide) (b : Bool) (ks : List ℕ) (s : State)
    → Does ts t e (go (chosen b (terms (tree ts t) ks))) s (uncovered (slice_get ks (choice b))) s
chosen-does ts t e true [] s = give-does ts t e values.Undefined s
chosen-does ts t e true (k ∷ ks) s = uncovers-does ts t e k s
chosen-does ts t e false [] s = give-does ts t e values.Undefined s
chosen-does ts t e false (k ∷ []) s = give-does ts t e values.Undefined s
chosen-does ts t e false (k ∷ l ∷ ks) s = uncovers-does ts t e l s

pub kept-does : (ts : List (List ℕ)) (t : NodeTable) (e : Wide) (v : Value) (ks : List ℕ) (s : State)
    → Does ts t e (go (kept_or true v (terms (tree ts t) ks))) s (gone_to (slice_get ks 0) v) s
kept-does ts t e v [] s = give-does ts t e v s
kept-does ts t e v (k ∷ ks) s = go-does ts t e k s

pub kept-else : (ts : List (List ℕ)) (t : NodeTable) (e : Wide) (v : Value) (ks : List ℕ) (s : State)
    → Does ts t e (go (kept_or false v (terms (tree ts t) ks))) s (reduced.Gives v) s
kept-else ts t e v [] s = give-does ts t e v s
kept-else ts t e v (k ∷ ks) s = give-does ts t e v s

pub otherwise-does : (ts : List (List ℕ)) (t : NodeTable) (e : Wide) (v : Value) (ks : List ℕ) (s : State)
    → Does ts t e (go (otherwise false v (terms (tree ts t) ks))) s (gone_to (slice_get ks 0) v) s
otherwise-does ts t e v [] s = give-does ts t e v s
otherwise-does ts t e v (k ∷ ks) s = go-does ts t e k s

pub otherwise-else : (ts : List (List ℕ)) (t : NodeTable) (e : Wide) (v : Value) (ks : List ℕ) (s : State)
    → Does ts t e (go (otherwise true v (terms (tree ts t) ks))) s (reduced.Gives v) s
otherwise-else ts t e v [] s = give-does ts t e v s
otherwise-else ts t e v (k ∷ ks) s = give-does ts t e v s
