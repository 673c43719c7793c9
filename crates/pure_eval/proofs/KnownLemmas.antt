-- Names that are the first of those with which a workspace began.
use Rattle.std.proofs.Common.{◌≡◌, ℕ, zero, suc, ◌≤◌, List, [], ◌∷◌, ◌++◌, length, take, drop, refl, sym, ap, subst, ◌∙◌, append_assoc, arith}
use Rattle.std.proofs.lemmas.List.{take-append-drop}
use Rattle.js_heap_memory.specs.Heaps.{Heap}
use Rattle.js_heap_memory.specs.Names.{GoesOn}
use Rattle.pure_eval.specs.Working.{IsKnown}

-- ---- the first of a list

within_more : (ts more : List (List ℕ)) (n : ℕ) → length ts ≤ n → GoesOn ts (take n (ts ++ more))
within_more [] more n h = record { more = take n more; is = refl }
within_more (t ∷ ts) more zero h = absurd (omega (arith, h))
within_more (t ∷ ts) more (suc n) h =
    let rest : GoesOn ts (take n (ts ++ more)) = within_more ts more n (omega (arith, h)) in
    record { more = rest.more; is = ap (λ us. t ∷ us) rest.is }

-- a list that goes on behind another does so within as many entries as that has
goes_within : (ts us : List (List ℕ)) (n : ℕ) → length ts ≤ n → GoesOn ts us → GoesOn ts (take n us)
goes_within ts us n h g =
    let P : List (List ℕ) → Type 0 = λ vs. GoesOn ts (take n vs) in
    subst P (sym g.is) (within_more ts g.more n h)

-- and where its first entries do, all of it does
goes_beyond : (ts us : List (List ℕ)) (n : ℕ) → GoesOn ts (take n us) → GoesOn ts us
goes_beyond ts us n g =
    record {
      more = g.more ++ drop n us;
      is =
          sym (take-append-drop n us)
          ∙ ap (λ vs. vs ++ drop n us) g.is
          ∙ append_assoc ts g.more (drop n us);
    }

few_before : (ts more : List (List ℕ)) (n : ℕ) (us : List (List ℕ)) → take n us ≡ ts ++ more → length ts ≤ n
few_before [] more n us e = omega arith
few_before (t ∷ ts) more zero us e = absurd cc
few_before (t ∷ ts) more (suc n) [] e = absurd cc
few_before (t ∷ ts) more (suc n) (u ∷ us) e =
    let f : take n us ≡ ts ++ more = cc in
    omega (arith, few_before ts more n us f)

-- ---- the names of a program

pub known-first : (base : Heap) (names own : List (List ℕ)) (began : ℕ)
    → base.ends ≤ length names
    → length names ≤ began
    → GoesOn names own
    → IsKnown base names (take began own)
known-first base names own began known few g =
    record { goes_on = goes_within names own began few g; known = known }

pub known-all : (base : Heap) (names own : List (List ℕ)) (began : ℕ)
    → IsKnown base names (take began own)
    → IsKnown base names own
known-all base names own began k = record { goes_on = goes_beyond names own began k.goes_on; known = k.known }

pub known-few : (base : Heap) (names own : List (List ℕ)) (began : ℕ)
    → IsKnown base names (take began own)
    → length names ≤ began
known-few base names own began k = few_before names k.goes_on.more began own k.goes_on.is
