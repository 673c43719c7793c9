-- One more part of a tree whose marks are added behind those that are there.
use Rattle.std.proofs.Common.{◌≡◌, ℕ, ◌+◌, ◌≤◌, List, [], ◌∷◌, ◌++◌, length, drop, map, refl, sym, ap, ◌∙◌, subst, append_assoc, append-nil}
use Rattle.std.specs.Prelude.{Result, OnOk}
use Rattle.std.specs.declared.alloc.AllocError.{AllocError}
use Rattle.std.proofs.lemmas.List.{drop_all}
use Rattle.js_tree.specs.declared.tree.Expr.{Expr}
use Rattle.js_tree.specs.declared.tree.Declarator.{Declarator}
use Rattle.std.specs.Option.{option_map}
use Rattle.locations.specs.Marks.{Marks, Marking, together, in_all, in_present, expression_marks, declarator_marks}
use Rattle.locations.proofs.TreeLemmas.{marks_declarator}

-- ---- parts in order

pub before : (old mid new xs ys : Marks) → mid ≡ old ++ xs → new ≡ mid ++ ys → new ≡ old ++ (xs ++ ys)
before old mid new xs ys h k = k ∙ ap (λ ms. ms ++ ys) h ∙ append_assoc old xs ys

-- the last part, by a call that may fail
pub last : (old mid new xs ys : Marks) (r : Result (Unit {0}) AllocError)
    → mid ≡ old ++ xs
    → OnOk r (new ≡ mid ++ ys)
    → OnOk r (new ≡ old ++ (xs ++ ys))
last old mid new xs ys r h k =
    subst (λ (ms : Marks). OnOk r (new ≡ ms)) (ap (λ ms. ms ++ ys) h ∙ append_assoc old xs ys) k

-- what a part is
pub same : {A : Type 0} (f : A → Marks) (a b : A) → a ≡ b → (old new : Marks) → new ≡ old ++ f a → new ≡ old ++ f b
same {A} f a b is old new k = k ∙ ap (λ x. old ++ f x) is

pub same_last : {A : Type 0} (f : A → Marks) (a b : A)
    → a ≡ b
    → (old new : Marks) (r : Result (Unit {0}) AllocError)
    → OnOk r (new ≡ old ++ f a)
    → OnOk r (new ≡ old ++ f b)
same_last {A} f a b is old new r k = subst (λ (x : A). OnOk r (new ≡ old ++ f x)) is k

-- a part without marks
pub none : {A : Type 0} (f : A → Marks) (a b : A) → a ≡ b → f b ≡ [] → (old : Marks) → old ≡ old ++ f a
none {A} f a b is empty old = sym (ap (λ ms. old ++ ms) (ap f is ∙ empty) ∙ append-nil old)

-- ---- lists

pub all_over : {A : Type 0} (f : A → Marks) (items : List A) (i : ℕ) (front whole : Marks)
    → length items ≤ i
    → front ++ together (map f (drop i items)) ≡ whole
    → front ≡ whole
all_over {A} f items i front whole h e =
    sym (append-nil front) ∙ ap (λ (xs : List A). front ++ together (map f xs)) (sym (drop_all i items h)) ∙ e

pub in_all_together : (es : List Expr)
    → in_all (map expression_marks es) ≡ together (map (λ e. (expression_marks e).marks) es)
in_all_together [] = refl
in_all_together (e ∷ es) = ap (λ ms. (expression_marks e).marks ++ ms) (in_all_together es)

pub declarators_together : (ds : List Declarator)
    → together (map (λ (d : Declarator). in_present (option_map expression_marks d.initializer)) ds) ≡ together
    (map declarator_marks ds)
declarators_together [] = refl
declarators_together (d ∷ ds) =
    ap (λ ms. ms ++ together (map (λ (x : Declarator). in_present (option_map expression_marks x.initializer)) ds))
    (sym (marks_declarator d))
    ∙ ap (λ ms. declarator_marks d ++ ms) (declarators_together ds)

-- ---- a tree whose form is known

pub expression_last : (e : Expr) (m : Marking) (old new : Marks) (r : Result (Unit {0}) AllocError)
    → expression_marks e ≡ m
    → OnOk r (new ≡ old ++ m.marks)
    → OnOk r (new ≡ old ++ (expression_marks e).marks)
expression_last e m old new r is own = subst (λ (x : Marking). OnOk r (new ≡ old ++ x.marks)) (sym is) own

pub part_last : {A : Type 0} (f : A → Marks) (a : A) (ms old new : Marks) (r : Result (Unit {0}) AllocError)
    → f a ≡ ms
    → OnOk r (new ≡ old ++ ms)
    → OnOk r (new ≡ old ++ f a)
part_last {A} f a ms old new r is own = subst (λ (x : Marks). OnOk r (new ≡ old ++ x)) (sym is) own
