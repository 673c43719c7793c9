-- The index of a table that goes on.
use Rattle.std.proofs.Common.{◌≡◌, ℕ, Bool, true, false, List, [], ◌∷◌, ◌++◌, length, Some, None, refl, sym, ap, subst, ◌∙◌, ◌+◌, ◌-◌, ◌<◌, take, arith, length-append}
use Rattle.std.proofs.lemmas.List.{take_all}
use Rattle.std.specs.Prelude.{nat_eq, slice_get, Result, Ok, Err}
use Rattle.std.specs.Result.{OnOk, is_err}
use Rattle.std.specs.Cmp.Lexicographic.{pointwise}
use Rattle.std.specs.HashMap.{HashMap, get_by, Updates, UpdatesBy}
use Rattle.std.specs.Map.{KeepsOthers, IsKeyTest, AreApart, lookup}
use Rattle.std.specs.declared.vec.Vec.{Vec}
use Rattle.js_heap.specs.Keys.{same_units}
use Rattle.js_heap.proofs.KeyLemmas.{pointwise_units}
use Rattle.js_heap_memory.specs.Names.{number_of, name_of}
use Rattle.js_heap_memory.specs.Indexes.{IsIndexed}
use Rattle.js_heap_memory.proofs.TableLemmas.{same-refl, same-only}
use Rattle.js_heap_memory.proofs.GrowLemmas.{number-text, last-text, number-other, number-last, number-gone, differ-more, differ-less, take-next}

-- whether a key is a text
abbrev is_text : {Z : Type 0} → List ℕ → Vec ℕ Z → Bool
is_text text k = pointwise nat_eq text k.items

abbrev same_key : {Z : Type 0} → Vec ℕ Z → Vec ℕ Z → Bool
same_key x y = pointwise nat_eq x.items y.items

pointwise_same : (us vs : List ℕ) → pointwise nat_eq us vs ≡ true → us ≡ vs
pointwise_same us vs e = same-only us vs (sym (pointwise_units us vs) ∙ e)

key_test : {Z : Type 0} (text : List ℕ) → IsKeyTest {K = Vec ℕ Z} same_key (is_text text)
key_test {Z} text = λ x y e. ap (λ us. pointwise nat_eq us y.items) (pointwise_same text x.items e)

apart_if : (b : Bool) (us vs ws : List ℕ)
    → pointwise nat_eq ws vs ≡ b
    → pointwise nat_eq us vs ≡ true
    → pointwise nat_eq ws us ≡ false
    → b ≡ false
apart_if false us vs ws e f g = refl
apart_if true us vs ws e f g =
    let h : ws ≡ us = pointwise_same ws vs e ∙ sym (pointwise_same us vs f) in
    let i : pointwise nat_eq ws us ≡ true = rw (h, pointwise_units us us, same-refl us) refl in
    absurd cc

texts_apart : {Z : Type 0} (key : Vec ℕ Z) (text : List ℕ)
    → pointwise nat_eq text key.items ≡ false
    → AreApart {K = Vec ℕ Z} (same_key key) (is_text text)
texts_apart {Z} key text e = λ k f. apart_if (pointwise nat_eq text k.items) key.items k.items text refl f e

keeps : {Z : Type 0} (key : Vec ℕ Z) (old new : List (Vec ℕ Z × ℕ)) (text : List ℕ)
    → KeepsOthers same_key (same_key key) old new
    → pointwise nat_eq text key.items ≡ false
    → lookup (is_text text) new ≡ lookup (is_text text) old
unfolding KeepsOthers
keeps key old new text k e = k (is_text text) (key_test text) (texts_apart key text e)

turned : (us vs : List ℕ) → pointwise nat_eq us vs ≡ false → same_units vs us ≡ false
turned us vs e = turned_if (same_units vs us) refl
  where
    turned_if : (b : Bool) → same_units vs us ≡ b → b ≡ false
    turned_if false f = refl
    turned_if true f =
        let g : vs ≡ us = same-only vs us f in
        let i : pointwise nat_eq us vs ≡ true = rw (g, pointwise_units us us, same-refl us) refl in
        absurd cc

finds_if : {Z S : Type 0} (b : Bool) (ts : List (List ℕ)) (m n : HashMap (Vec ℕ Z) ℕ S) (key : Vec ℕ Z) (text : List ℕ)
    → pointwise nat_eq text key.items ≡ b
    → IsIndexed ts m
    → number_of ts key.items ≡ None
    → Updates same_key m n key (Some (length ts))
    → get_by (is_text text) n ≡ number_of (ts ++ key.items ∷ []) text
finds_if true ts m n key text e i f u =
    let g : text ≡ key.items = pointwise_same text key.items e in
    let P : List ℕ → Type 0 = λ t. get_by (is_text t) n ≡ number_of (ts ++ key.items ∷ []) t in
    subst P (sym g) (u.1 ∙ sym (number-last ts key.items f))
finds_if false ts m n key text e i f u =
    keeps key m.entries n.entries text u.3 e
    ∙ i.finds text
    ∙ sym (number-other ts key.items text (turned text key.items e))

-- one text more
pub indexed-more : {Z S : Type 0} (ts : List (List ℕ)) (m n : HashMap (Vec ℕ Z) ℕ S) (key : Vec ℕ Z)
    → IsIndexed ts m
    → number_of ts key.items ≡ None
    → Updates same_key m n key (Some (length ts))
    → IsIndexed (ts ++ key.items ∷ []) n
indexed-more ts m n key i f u =
    record {
      finds = λ text. finds_if (pointwise nat_eq text key.items)
          ts m n key text refl i f u;
      differ = differ-more ts key.items i.differ f;
    }

-- ---- one text less

texts_differ : {Z : Type 0} (text other : List ℕ)
    → pointwise nat_eq other text ≡ false
    → AreApart {K = Vec ℕ Z} (is_text text) (is_text other)
texts_differ text other e = λ k f. apart_if (pointwise nat_eq other k.items) text k.items other refl f e

keeps_text : {Z : Type 0} (text other : List ℕ) (old new : List (Vec ℕ Z × ℕ))
    → KeepsOthers same_key (is_text text) old new
    → pointwise nat_eq other text ≡ false
    → lookup (is_text other) new ≡ lookup (is_text other) old
unfolding KeepsOthers
keeps_text text other old new k e = k (is_text other) (key_test other) (texts_differ text other e)

left_if : {Z S : Type 0} (b : Bool) (ts : List (List ℕ)) (m n : HashMap (Vec ℕ Z) ℕ S) (text other : List ℕ)
    → pointwise nat_eq other text ≡ b
    → IsIndexed (ts ++ text ∷ []) m
    → UpdatesBy same_key (is_text text) m n None
    → get_by (is_text other) n ≡ number_of ts other
left_if true ts m n text other e i u =
    let g : other ≡ text = pointwise_same other text e in
    let P : List ℕ → Type 0 = λ t. get_by (is_text t) n ≡ number_of ts t in
    subst P (sym g) (u.1 ∙ sym (number-gone ts text i.differ))
left_if false ts m n text other e i u =
    keeps_text text other m.entries n.entries u.3 e ∙ i.finds other ∙ number-other ts text other (turned other text e)

pub popped : {Z S : Type 0} (ts us : List (List ℕ)) (m n : HashMap (Vec ℕ Z) ℕ S) (last : ℕ) (text : List ℕ)
    → IsIndexed us m
    → last + 1 ≡ length us
    → slice_get us last ≡ Some text
    → ts ≡ take (length us - 1) us
    → UpdatesBy same_key (is_text text) m n None
    → IsIndexed ts n
popped ts us m n last text i l e t u =
    let f : us ≡ take last us ++ text ∷ [] =
    sym (take_all (last + 1) us (omega (arith, l))) ∙ take-next us last text e
    in
    let o : last ≡ length us - 1 = omega (arith, l) in
    let g : take last us ≡ ts = ap (λ k. take k us) o ∙ sym t in
    let h : us ≡ ts ++ text ∷ [] = f ∙ ap (λ xs. xs ++ text ∷ []) g in
    let j : IsIndexed (ts ++ text ∷ []) m = subst (λ xs. IsIndexed xs m) h i in
    record {
      finds = λ other. left_if (pointwise nat_eq other text)
          ts m n text other refl j u;
      differ = differ-less ts text j.differ;
    }

-- ---- as the code has it

pub found-text : {Z S : Type 0} (ts us : List (List ℕ)) (m : HashMap (Vec ℕ Z) ℕ S) (text : List ℕ) (n : ℕ)
    → ts ≡ us
    → IsIndexed ts m
    → Some n ≡ get_by (is_text text) m
    → (name_of us n ≡ text) × (n < length us)
found-text ts us m text n v i e =
    let P : List (List ℕ) → Type 0 = λ xs. (name_of xs n ≡ text) × (n < length xs) in
    subst P v (number-text ts text n (sym (i.finds text) ∙ sym e))

pub pushed : {Z S : Type 0} (ts us : List (List ℕ)) (m n : HashMap (Vec ℕ Z) ℕ S) (key : Vec ℕ Z)
    (text : List ℕ) (l : ℕ)
    → IsIndexed ts m
    → number_of ts text ≡ None
    → key.items ≡ text
    → us ≡ ts ++ text ∷ []
    → l ≡ length ts
    → Updates same_key m n key (Some l)
    → IsIndexed us n
pushed ts us m n key text l i e k x z u =
    let f : number_of ts key.items ≡ None = subst (λ t. number_of ts t ≡ None) (sym k) e in
    let g : ts ++ key.items ∷ [] ≡ us = ap (λ t. ts ++ t ∷ []) k ∙ sym x in
    subst (λ xs. IsIndexed xs n) g
    (indexed-more ts m n key i f (subst (λ j. Updates same_key m n key (Some j)) z u))

pub pushed-text : (ts us : List (List ℕ)) (text : List ℕ) (l : ℕ)
    → us ≡ ts ++ text ∷ []
    → l ≡ length ts
    → (name_of us l ≡ text) × (l < length us)
pushed-text ts us text l x z =
    let P : List (List ℕ) → Type 0 = λ xs. (name_of xs l ≡ text) × (l < length xs) in
    let Q : ℕ → Type 0 = λ j. (name_of (ts ++ text ∷ []) j ≡ text) × (j < length (ts ++ text ∷ [])) in
    subst P (sym x) (subst Q (sym z) (last-text ts text, omega (arith, length-append ts (text ∷ []))))

-- what a call says where it didn't fail
pub on-ok : {A E P : Type 0} (r : Result A E) (failed : Bool) → failed ≡ is_err r → failed ≡ false → OnOk r P → P
on-ok (Ok x) failed e f p = p
on-ok (Err x) failed e f p = absurd cc
