-- Literals of parts that are added one after another.
use Rattle.std.proofs.Common.{◌≡◌, ℕ, Bool, List, [], ◌++◌, sym, ap, ◌∙◌, subst, append_assoc, append-nil, Result, OnOk, if◌then◌else◌}
use Rattle.js_tree.specs.declared.tree.Expr.{Expr}
use Rattle.js_semantics.specs.Literals.{source_literals}

-- there are none
pub none_more : (old all : List (List ℕ)) → all ≡ [] → old ≡ old ++ all
none_more old all e = sym (ap (λ us. old ++ us) e ∙ append-nil old)

-- those of a part behind those of others
pub both_more : (old mid new ys zs : List (List ℕ)) → mid ≡ old ++ ys → new ≡ mid ++ zs → new ≡ old ++ (ys ++ zs)
both_more old mid new ys zs h i = i ∙ ap (λ us. us ++ zs) h ∙ append_assoc old ys zs

-- those of the only part, or of the last one behind those of others
pub last_more : {A E : Type 0} (r : Result A E) (old new all a ys : List (List ℕ))
    → OnOk r (new ≡ old ++ a)
    → all ≡ ys
    → a ≡ ys
    → OnOk r (new ≡ old ++ all)
last_more r old new all a ys h e i = subst (λ (us : List (List ℕ)). OnOk r (new ≡ old ++ us)) (i ∙ sym e) h

pub then_more : {A E : Type 0} (r : Result A E) (old mid new all a b ys zs : List (List ℕ))
    → mid ≡ old ++ a → OnOk r (new ≡ mid ++ b) → all ≡ ys ++ zs → a ≡ ys → b ≡ zs → OnOk r (new ≡ old ++ all)
then_more r old mid new all a b ys zs h i e j k =
    subst (λ (us : List (List ℕ)). OnOk r (new ≡ us)) (ap (λ us. us ++ b) h ∙ append_assoc old a b
    ∙ ap (λ us. old ++ us) (ap (λ us. us ++ b) j ∙ ap (λ us. ys ++ us) k ∙ sym e)) i

-- ---- parts that are the same

pub both : (a b ys zs : List (List ℕ)) → a ≡ ys → b ≡ zs → a ++ b ≡ ys ++ zs
both a b ys zs j k = ap (λ us. us ++ b) j ∙ ap (λ us. ys ++ us) k

pub assigned : (here there : Bool) (a b : Expr)
    → here ≡ there
    → a ≡ b
    → (if here then source_literals a else []) ≡ (if there then source_literals b else [])
assigned here there a b j k =
    ap (λ (x : Bool). if x then source_literals a else []) j
    ∙ ap (λ (e : Expr). if there then source_literals e else []) k
