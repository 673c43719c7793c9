-- The innermost task of a stack, which comes last in its lists.
use Rattle.std.proofs.Common.{◌≡◌, ℕ, ◌+◌, ◌-◌, ◌<◌, ◌≤◌, Bool, true, false, List, [], ◌∷◌, ◌++◌, length, take, drop, reverse, Option, None, Some, slice_get, slice_set, slice_index_or, refl, sym, ap, subst, ◌∙◌, arith, length-append, if◌then◌else◌}
use Rattle.std.proofs.lemmas.List.{reverse-append, length-reverse, take-append-le, drop-append-le}
use Rattle.std.proofs.Math.Seq.{take-length, set-append_seam, get_or-append_seam}
use Rattle.js_heap.specs.declared.value.Value.{Value}
use Rattle.js_machine_nodes.specs.declared.op.Op.{Op}
use Rattle.js_machine_engine.specs.declared.task.Task.{Task}
use Rattle.js_machine_engine.specs.declared.task.Extra.{Extra}
use Rattle.js_machine_engine.specs.Tasks.{Wide}
use Rattle.js_machine_engine.specs.Stacks.{has_extra, wide, with_value, OwnsAs, OwnsOnly, extra_of, turned_extra, first_extra, other_extras, next_turn, turned_extras, turned, owning, widened, widened_back, AreBased, AreKept, extras_count}
use Rattle.cdp_text.proofs.ListLemmas.{last_there}

-- ---- the last entry of a list

-- a list that isn't empty, from its last entry
pub record Last {A : Type 0} (xs : List A) : Type 0 where
  pub front : List A
  pub entry : A
  pub is : xs ≡ front ++ entry ∷ []

last_more : {A : Type 0} (x : A) (xs : List A) → Last xs → Last (x ∷ xs)
last_more x xs l = record { front = x ∷ l.front; entry = l.entry; is = ap (λ ys. x ∷ ys) l.is }

pub last_of : {A : Type 0} (xs : List A) → 0 < length xs → Last xs
last_of [] h = absurd (omega arith)
last_of (x ∷ []) h = record { front = []; entry = x; is = refl }
last_of (x ∷ y ∷ ys) h = last_more x (y ∷ ys) (last_of (y ∷ ys) (omega arith))

seam : {A : Type 0} (xs front : List A) (x : A) (n : ℕ) → xs ≡ front ++ x ∷ [] → n ≡ length xs → n - 1 ≡ length front
seam xs front x n e h = omega (arith, length-append front (x ∷ []), ap length e)

-- the last entry as the first one of the list in reverse, and another in its place
pub record Turns {A : Type 0} (xs : List A) (n : ℕ) (x y : A) : Type 0 where
  pub others : List A
  pub before : reverse xs ≡ x ∷ others
  pub after : reverse (slice_set xs n y) ≡ y ∷ others

turns_at : {A : Type 0} (front : List A) (n : ℕ) (x y z : A)
    → n ≡ length front
    → x ≡ slice_index_or (front ++ z ∷ []) n x
    → Turns (front ++ z ∷ []) n x y
turns_at front n x y z e i =
    let q : x ≡ z = i ∙ ap (λ k. slice_index_or (front ++ z ∷ []) k x) e ∙ get_or-append_seam front z [] x in
    record {
      others = reverse front;
      before = reverse-append front (z ∷ []) ∙ ap (λ u. u ∷ reverse front) (sym q);
      after =
          ap reverse (ap (λ k. slice_set (front ++ z ∷ []) k y) e ∙ set-append_seam front z [] y)
          ∙ reverse-append front (y ∷ []);
    }

pub turns : {A : Type 0} (xs : List A) (n : ℕ) (x y : A)
    → n ≡ length xs
    → 0 < n
    → x ≡ slice_index_or xs (n - 1) x
    → Turns xs (n - 1) x y
turns {A} xs n x y e h i =
    let l : Last xs = last_of xs (omega arith) in
    let P : List A → Type 0 = λ ys. x ≡ slice_index_or ys (n - 1) x → Turns ys (n - 1) x y in
    subst P (sym l.is) (λ j. turns_at l.front (n - 1) x y l.entry (seam xs l.front l.entry n l.is e) j) i

back-get : {A : Type 0} (xs front : List A) (x : A) → xs ≡ front ++ x ∷ [] → slice_get xs (length xs - 1) ≡ Some x
back-get xs front x e =
    ap (λ n. slice_get xs n) (seam xs front x (length xs) e refl)
    ∙ ap (λ ys. slice_get ys (length front)) e
    ∙ last_there front x

back-take : {A : Type 0} (xs front : List A) (x : A) → xs ≡ front ++ x ∷ [] → take (length xs - 1) xs ≡ front
back-take xs front x e =
    ap (λ n. take n xs) (seam xs front x (length xs) e refl)
    ∙ ap (λ ys. take (length front) ys) e
    ∙ take-append-le (length front) front (x ∷ []) (omega arith)
    ∙ take-length front

back-reverse : {A : Type 0} (xs front : List A) (x : A) → xs ≡ front ++ x ∷ [] → reverse xs ≡ x ∷ reverse front
back-reverse xs front x e = ap reverse e ∙ reverse-append front (x ∷ [])

-- ---- what the innermost task owns

first_at : (es : List Extra) → Last es → slice_get es (length es - 1) ≡ first_extra true (reverse es)
first_at es l = back-get es l.front l.entry l.is ∙ ap (first_extra true) (sym (back-reverse es l.front l.entry l.is))

pub extra-first : (es : List Extra) → slice_get es (length es - 1) ≡ first_extra true (reverse es)
extra-first [] = refl
extra-first (e ∷ es) = first_at (e ∷ es) (last_of (e ∷ es) (omega arith))

dropped_at : (es : List Extra) → Last es → reverse (take (length es - 1) es) ≡ other_extras true (reverse es)
dropped_at es l =
    ap reverse (back-take es l.front l.entry l.is) ∙ ap (other_extras true) (sym (back-reverse es l.front l.entry l.is))

pub extra-dropped : (es : List Extra) → reverse (take (length es - 1) es) ≡ other_extras true (reverse es)
extra-dropped [] = refl
extra-dropped (e ∷ es) = dropped_at (e ∷ es) (last_of (e ∷ es) (omega arith))

pub extra-turned : (es : List Extra) (e f : Extra) (n : ℕ)
    → n ≡ length es
    → 0 < n
    → e ≡ slice_index_or es (n - 1) e
    → f ≡ next_turn e
    → reverse (slice_set es (n - 1) f) ≡ turned_extras true (reverse es)
extra-turned es e f n l h i t =
    let s : Turns es (n - 1) e f = turns es n e f l h i in
    s.after ∙ ap (λ g. g ∷ s.others) t ∙ ap (turned_extras true) (sym s.before)

-- ---- another innermost task

pub set-view : (f : List Wide → List Wide) (ts : List Task) (vs : List Value) (es : List Extra) (t u : Task) (n : ℕ)
    → n ≡ length ts
    → 0 < n
    → t ≡ slice_index_or ts (n - 1) t
    → u.base ≡ t.base
    → has_extra u.op u.info ≡ has_extra t.op t.info
    → ((x : List Value) (y : Option Extra) (ws : List Wide) → f (wide t x y ∷ ws) ≡ wide u x y ∷ ws)
    → widened_back (slice_set ts (n - 1) u) vs es ≡ f (widened_back ts vs es)
set-view f ts vs es t u n e h i b o k =
    let s : Turns ts (n - 1) t u = turns ts n t u e h i in
    ap (λ us. widened us vs (reverse es)) s.after
    ∙ ap (λ m. wide u (drop m vs) (first_extra (has_extra u.op u.info) (reverse es)) ∷ widened s.others (take m vs)
    (other_extras (has_extra u.op u.info) (reverse es)))
    b
    ∙ ap (λ m. wide u (drop t.base vs) (first_extra m (reverse es)) ∷ widened s.others (take t.base vs)
    (other_extras m (reverse es)))
    o
    ∙ sym (k (drop t.base vs) (first_extra (has_extra t.op t.info) (reverse es))
    (widened s.others (take t.base vs) (other_extras (has_extra t.op t.info) (reverse es))))
    ∙ ap (λ us. f (widened us vs (reverse es))) (sym s.before)

based_same : (t u : Task) (ts us : List Task) (n : ℕ)
    → us ≡ u ∷ ts
    → u.base ≡ t.base
    → AreBased (t ∷ ts) n
    → AreBased us n
based_same t u ts us n e b d =
    let P : List Task → Type 0 = λ xs. AreBased xs n in
    let Q : ℕ → Type 0 = λ m. (m ≤ n) × AreBased ts m in
    subst P (sym e) (subst Q (sym b) d)

owned_same : (t u : Task) (ts us : List Task) (n : ℕ)
    → us ≡ u ∷ ts
    → has_extra u.op u.info ≡ has_extra t.op t.info
    → extras_count (t ∷ ts) ≤ n
    → extras_count us ≤ n
owned_same t u ts us n e o c =
    let P : List Task → Type 0 = λ xs. extras_count xs ≤ n in
    let Q : Bool → Type 0 = λ b. (if b then 1 else 0) + extras_count ts ≤ n in
    subst P (sym e) (subst Q (sym o) c)

pub set-kept : (ts : List Task) (vs : List Value) (es : List Extra) (t u : Task) (n : ℕ)
    → n ≡ length ts
    → 0 < n
    → t ≡ slice_index_or ts (n - 1) t
    → u.base ≡ t.base
    → has_extra u.op u.info ≡ has_extra t.op t.info
    → AreKept ts vs es
    → AreKept (slice_set ts (n - 1) u) vs es
set-kept ts vs es t u n e h i b o k =
    let s : Turns ts (n - 1) t u = turns ts n t u e h i in
    let P : List Task → Type 0 = λ us. AreBased us (length vs) in
    let Q : List Task → Type 0 = λ us. extras_count us ≤ length es in
    record {
      based =
          based_same t u s.others (reverse (slice_set ts (n - 1) u)) (length vs) s.after b (subst P s.before k.based);
      owned =
          owned_same t u s.others (reverse (slice_set ts (n - 1) u)) (length es) s.after o (subst Q s.before k.owned);
    }

pub owns : (ts : List Task) (vs : List Value) (es : List Extra) (ws : List Wide) (t : Task) (n : ℕ) (op : Op) (info : ℕ)
    → n ≡ length ts
    → 0 < n
    → t ≡ slice_index_or ts (n - 1) t
    → widened_back ts vs es ≡ ws
    → OwnsAs op info ws
    → has_extra op info ≡ has_extra t.op t.info
owns ts vs es ws t n op info e h i v o =
    let s : Turns ts (n - 1) t t = turns ts n t t e h i in
    let P : List Wide → Type 0 = OwnsAs op info in
    let Q : List Task → Type 0 = λ us. OwnsAs op info (widened us vs (reverse es)) in
    subst Q s.before (subst P (sym v) o)

-- where it is read
pub record Innermost (ts : List Task) (t : Task) : Type 0 where
  pub others : List Task
  pub is : reverse ts ≡ t ∷ others

innermost_at : (ts : List Task) (t : Task) → Last ts → slice_get ts (length ts - 1) ≡ Some t → Innermost ts t
innermost_at ts t l e =
    let q : Some l.entry ≡ Some t = sym (back-get ts l.front l.entry l.is) ∙ e in
    let p : l.entry ≡ t = cc in
    record { others = reverse l.front; is = back-reverse ts l.front l.entry l.is ∙ ap (λ u. u ∷ reverse l.front) p }

pub innermost : (ts : List Task) (t : Task) → slice_get ts (length ts - 1) ≡ Some t → Innermost ts t
innermost [] t e = cc
innermost (u ∷ us) t e = innermost_at (u ∷ us) t (last_of (u ∷ us) (omega arith)) e

pub extra-view : (ts : List Task) (vs : List Value) (es : List Extra) (t : Task)
    → slice_get ts (length ts - 1) ≡ Some t
    → has_extra t.op t.info ≡ true
    → slice_get es (length es - 1) ≡ extra_of (widened_back ts vs es)
extra-view ts vs es t e h =
    let i : Innermost ts t = innermost ts t e in
    extra-first es
    ∙ ap (λ b. first_extra b (reverse es)) (sym h)
    ∙ ap (λ us. extra_of (widened us vs (reverse es))) (sym i.is)

turned_first : (b : Bool) (t : Task) (vs : List Value) (es : List Extra) (ts : List Task) (us : List Value)
    → wide t vs (first_extra b (turned_extras b es)) ∷ widened ts us (other_extras b (turned_extras b es)) ≡ wide t vs
    (turned_extra (first_extra b es)) ∷ widened ts us (other_extras b es)
turned_first false t vs es ts us = refl
turned_first true t vs [] ts us = refl
turned_first true t vs (e ∷ es) ts us = refl

pub turn-view : (ts : List Task) (vs : List Value) (es fs : List Extra) (t : Task)
    → slice_get ts (length ts - 1) ≡ Some t
    → reverse fs ≡ turned_extras (has_extra t.op t.info) (reverse es)
    → widened_back ts vs fs ≡ turned (widened_back ts vs es)
turn-view ts vs es fs t e h =
    let i : Innermost ts t = innermost ts t e in
    ap (λ gs. widened (reverse ts) vs gs) h
    ∙ ap (λ us. widened us vs (turned_extras (has_extra t.op t.info) (reverse es))) i.is
    ∙ turned_first (has_extra t.op t.info) t (drop t.base vs) (reverse es) i.others (take t.base vs)
    ∙ ap (λ us. turned (widened us vs (reverse es))) (sym i.is)

-- ---- another one that owns something

own_first : (b : Bool) (es : List Extra) (ts : List Task) (n : ℕ)
    → (if b then 1 else 0) + extras_count ts ≤ length es
    → extras_count ts ≤ length (other_extras b es)
own_first false es ts n h = omega (arith, h)
own_first true [] ts n h = absurd (omega (arith, h))
own_first true (e ∷ es) ts n h = omega (arith, h)

pub extra-replaced : (es : List Extra) (x e : Extra) (n : ℕ)
    → n ≡ length es
    → 0 < n
    → x ≡ slice_index_or es (n - 1) x
    → reverse (slice_set es (n - 1) e) ≡ e ∷ other_extras true (reverse es)
extra-replaced es x e n l h i =
    let s : Turns es (n - 1) x e = turns es n x e l h i in
    s.after ∙ ap (λ xs. e ∷ other_extras true xs) (sym s.before)

pub own-view : (op : Op) (info at mid : ℕ) (ts : List Task) (vs : List Value) (es fs : List Extra) (t u : Task)
    (e : Extra) (n : ℕ)
    → n ≡ length ts
    → 0 < n
    → t ≡ slice_index_or ts (n - 1) t
    → u ≡ record t { op = op; info = info; at = at; mid = mid }
    → has_extra op info ≡ true
    → reverse fs ≡ e ∷ other_extras (has_extra t.op t.info) (reverse es)
    → widened_back (slice_set ts (n - 1) u) vs fs ≡ owning op info at mid e (widened_back ts vs es)
own-view op info at mid ts vs es fs t u e n l h i o k g =
    let s : Turns ts (n - 1) t u = turns ts n t u l h i in
    let v : Task = record t { op = op; info = info; at = at; mid = mid } in
    let rest : List Extra = other_extras (has_extra t.op t.info) (reverse es) in
    ap (λ us. widened us vs (reverse fs)) s.after
    ∙ ap (λ gs. widened (u ∷ s.others) vs gs) g
    ∙ ap (λ x. widened (x ∷ s.others) vs (e ∷ rest)) o
    ∙ ap (λ b. wide v (drop t.base vs) (first_extra b (e ∷ rest)) ∷ widened s.others (take t.base vs)
    (other_extras b (e ∷ rest)))
    k
    ∙ ap (λ us. owning op info at mid e (widened us vs (reverse es))) (sym s.before)

pub own-kept : (op : Op) (info at mid : ℕ) (ts : List Task) (vs : List Value) (es fs : List Extra) (t u : Task)
    (e : Extra) (n : ℕ)
    → n ≡ length ts
    → 0 < n
    → t ≡ slice_index_or ts (n - 1) t
    → u ≡ record t { op = op; info = info; at = at; mid = mid }
    → has_extra op info ≡ true
    → reverse fs ≡ e ∷ other_extras (has_extra t.op t.info) (reverse es)
    → AreKept ts vs es
    → AreKept (slice_set ts (n - 1) u) vs fs
own-kept op info at mid ts vs es fs t u e n l h i o k g a =
    let s : Turns ts (n - 1) t u = turns ts n t u l h i in
    let P : List Task → Type 0 = λ us. AreBased us (length vs) in
    let Q : List Task → Type 0 = λ us. extras_count us ≤ length es in
    let rest : List Extra = other_extras (has_extra t.op t.info) (reverse es) in
    let c : extras_count (t ∷ s.others) ≤ length es = subst Q s.before a.owned in
    let d : extras_count s.others ≤ length rest = own_first (has_extra t.op t.info) (reverse es) s.others 0
    (omega (arith, c, length-reverse es)) in
    let count : extras_count (u ∷ s.others) ≡ 1 + extras_count s.others = ap
    (λ x. (if has_extra x.op x.info then 1 else 0) + extras_count s.others) o
    ∙ ap (λ b. (if b then 1 else 0) + extras_count s.others) k in
    let len : length fs ≡ 1 + length rest = omega (arith, length-reverse fs, ap length g) in
    record {
      based =
          based_same t u s.others (reverse (slice_set ts (n - 1) u)) (length vs) s.after (ap (λ x. x.base) o)
          (subst P s.before a.based);
      owned = omega (arith, d, count, len, ap extras_count s.after);
    }

-- ---- one more value

pub value-view : (ts : List Task) (vs : List Value) (v : Value) (es : List Extra)
    → AreBased ts (length vs)
    → widened ts (vs ++ v ∷ []) es ≡ with_value v (widened ts vs es)
value-view [] vs v es b = refl
value-view (t ∷ ts) vs v es b =
    ap (λ us. wide t us (first_extra (has_extra t.op t.info) es) ∷ widened ts (take t.base (vs ++ v ∷ []))
    (other_extras (has_extra t.op t.info) es))
    (drop-append-le t.base vs (v ∷ []) b.0)
    ∙ ap (λ us. wide t (drop t.base vs ++ v ∷ []) (first_extra (has_extra t.op t.info) es) ∷ widened ts us
    (other_extras (has_extra t.op t.info) es))
    (take-append-le t.base vs (v ∷ []) b.0)

based_more : (ts : List Task) (m n : ℕ) → m ≤ n → AreBased ts m → AreBased ts n
based_more [] m n h b = tt
based_more (t ∷ ts) m n h b = (omega (arith, b.0), b.1)

pub value-kept : (ts : List Task) (vs us : List Value) (v : Value) (es : List Extra)
    → us ≡ vs ++ v ∷ []
    → AreKept ts vs es
    → AreKept ts us es
value-kept ts vs us v es e k = record {
  based =
      based_more (reverse ts) (length vs) (length us) (omega (arith, ap length e, length-append vs (v ∷ []))) k.based;
  owned = k.owned;
}

-- ---- what a task doesn't own, it doesn't have

none_first : (b : Bool) (es : List Extra) → b ≡ false → first_extra b es ≡ None
none_first false es e = refl
none_first true es e = cc

owned_in : (ts : List Task) (vs : List Value) (es : List Extra) → OwnsOnly (widened ts vs es)
owned_in [] vs es = tt
owned_in (t ∷ ts) vs es = λ e. none_first (has_extra t.op t.info) es e

pub owned-view : (ts : List Task) (vs : List Value) (es : List Extra) (ws : List Wide)
    → widened_back ts vs es ≡ ws
    → OwnsOnly ws
owned-view ts vs es ws e =
    let P : List Wide → Type 0 = OwnsOnly in
    subst P e (owned_in (reverse ts) vs (reverse es))
