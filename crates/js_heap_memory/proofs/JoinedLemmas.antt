-- Texts one behind another, and the places where they end.
use Rattle.std.proofs.Common.{◌≡◌, ℕ, zero, suc, ◌+◌, ◌-◌, ◌≤◌, ◌<◌, List, [], ◌∷◌, ◌++◌, length}
use Rattle.std.proofs.Common.{take, drop, get_or, Bool, true, false, Some, refl, sym, ap, subst, ◌∙◌}
use Rattle.std.proofs.Common.{arith, length-append}
use Rattle.std.proofs.lemmas.List.{append-nil, append_assoc, append_cancel_left}
use Rattle.std.proofs.lemmas.List.{take-append-drop, take_all, take_at, drop_at, drop-drop}
use Rattle.std.proofs.lemmas.Bool.Decides.{Decides-eqb}
use Rattle.std.proofs.lemmas.Slice.Eq.{starts_is}
use Rattle.std.specs.Cmp.Lexicographic.{pointwise}
use Rattle.std.specs.Prelude.{slice_get, slice_range, nat_eq}
use Rattle.std.specs.List.{concat}
use Rattle.js_heap_memory.specs.JoinedTexts.{ends_from, texts_from, IsJoined}
use Rattle.js_heap_memory.specs.Names.{GoesOn}

-- ---- texts, units and ends

-- texts are cut out of their units again
texts-joined : (ts : List (List ℕ)) (n : ℕ) → texts_from n (ends_from n ts) (concat ts) ≡ ts
texts-joined [] n = refl
texts-joined (t ∷ ts) n =
    let here : length t ≡ n + length t - n = omega arith in
    let end : ℕ = n + length t in
    ap (λ x. x ∷ texts_from end (ends_from end ts) (drop (end - n) (t ++ concat ts)))
    (take_at t (concat ts) (end - n) here)
    ∙ ap (λ us. t ∷ texts_from end (ends_from end ts) us) (drop_at t (concat ts) (end - n) here)
    ∙ ap (λ xs. t ∷ xs) (texts-joined ts end)

viewed : (units ends : List ℕ) (ts : List (List ℕ)) → IsJoined units ends ts → texts_from 0 ends units ≡ ts
viewed units ends ts j =
    ap (texts_from 0 ends) j.units ∙ ap (λ es. texts_from 0 es (concat ts)) j.ends ∙ texts-joined ts 0

concat-append : (ts us : List (List ℕ)) → concat (ts ++ us) ≡ concat ts ++ concat us
concat-append [] us = refl
concat-append (t ∷ ts) us =
    ap (λ xs. t ++ xs) (concat-append ts us) ∙ sym (append_assoc t (concat ts) (concat us))

ends-append : (ts us : List (List ℕ)) (n : ℕ)
    → ends_from n (ts ++ us) ≡ ends_from n ts ++ ends_from (n + length (concat ts)) us
ends-append [] us n = let o : n ≡ n + 0 = omega arith in ap (λ m. ends_from m us) o
ends-append (t ∷ ts) us n =
    let end : ℕ = n + length t in
    let o : n + length t + length (concat ts) ≡ n + length (t ++ concat ts) =
    omega (arith, length-append t (concat ts))
    in
    ap (λ es. end ∷ es) (ends-append ts us end ∙ ap (λ m. ends_from end ts ++ ends_from m us) o)

length-ends : (ts : List (List ℕ)) (n : ℕ) → length (ends_from n ts) ≡ length ts
length-ends [] n = refl
length-ends (t ∷ ts) n = ap suc (length-ends ts (n + length t))

length-texts : (ends units : List ℕ) (n : ℕ) → length (texts_from n ends units) ≡ length ends
length-texts [] units n = refl
length-texts (e ∷ es) units n = ap suc (length-texts es (drop (e - n) units) e)

-- ---- the view of a value

-- as many texts as ends
pub counted : (units ends : List ℕ) (ts : List (List ℕ)) → texts_from 0 ends units ≡ ts → length ends ≡ length ts
counted units ends ts v = sym (length-texts ends units 0) ∙ ap length v

-- what an invariant says of the view holds of the value
pub stands : (units ends : List ℕ) (ts : List (List ℕ))
    → texts_from 0 ends units ≡ ts
    → IsJoined units ends (texts_from 0 ends units)
    → IsJoined units ends ts
stands units ends ts v j = subst (λ xs. IsJoined units ends xs) v j

-- what holds of texts is the invariant, and they are the view
settled : (units ends : List ℕ) (ts : List (List ℕ))
    → IsJoined units ends ts
    → IsJoined units ends (texts_from 0 ends units) × (texts_from 0 ends units ≡ ts)
settled units ends ts j =
    let v = viewed units ends ts j in
    (subst (λ xs. IsJoined units ends xs) (sym v) j, v)

-- ---- the text at a place

-- where the text behind a place begins
end-at : (ts : List (List ℕ)) (n i d : ℕ)
    → i < length ts
    → get_or (ends_from n ts) i d ≡ n + length (concat (take (suc i) ts))
end-at [] n i d h = absurd (omega arith)
end-at (t ∷ ts) n zero d h = ap (λ us. n + length us) (sym (append-nil t))
end-at (t ∷ ts) n (suc i) d h =
    let us : List ℕ = concat (take (suc i) ts) in
    let o : n + length t + length us ≡ n + length (t ++ us) = omega (arith, length-append t us) in
    end-at ts (n + length t) i d (omega arith) ∙ o

-- a text ends behind its beginning, and before all end
in-order : (ts : List (List ℕ)) (i : ℕ)
    → (length (concat (take i ts)) ≤ length (concat (take (suc i) ts)))
    × (length (concat (take (suc i) ts)) ≤ length (concat ts))
in-order [] zero = let o : 0 ≤ 0 = omega arith in (o, o)
in-order [] (suc i) = let o : 0 ≤ 0 = omega arith in (o, o)
in-order (t ∷ ts) zero =
    let first : 0 ≤ length (t ++ []) = omega arith in
    let second : length (t ++ []) ≤ length (t ++ concat ts) =
    omega (arith, ap length (append-nil t), length-append t (concat ts))
    in
    (first, second)
in-order (t ∷ ts) (suc i) =
    let further = in-order ts i in
    let a = further.0 in
    let b = further.1 in
    let us : List ℕ = concat (take i ts) in
    let vs : List ℕ = concat (take (suc i) ts) in
    let first : length (t ++ us) ≤ length (t ++ vs) = omega (arith, a, length-append t us, length-append t vs) in
    let second : length (t ++ vs) ≤ length (t ++ concat ts) =
    omega (arith, b, length-append t vs, length-append t (concat ts))
    in
    (first, second)

range-behind : (t us : List ℕ) (a b : ℕ)
    → slice_range (t ++ us) (length t + a) (length t + b) ≡ slice_range us a b
range-behind t us a b =
    let wide : length t + b - (length t + a) ≡ b - a = omega arith in
    let far : drop (length t + a) (t ++ us) ≡ drop a us =
    sym (drop-drop a (length t) (t ++ us)) ∙ ap (drop a) (drop_at t us (length t) refl)
    in
    ap (λ k. take k (drop (length t + a) (t ++ us))) wide ∙ ap (take (b - a)) far

text-at : (ts : List (List ℕ)) (i : ℕ)
    → i < length ts
    → slice_get ts i
    ≡ Some (slice_range (concat ts) (length (concat (take i ts))) (length (concat (take (suc i) ts))))
text-at [] i h = absurd (omega arith)
text-at (t ∷ ts) zero h =
    let o : length t ≡ length (t ++ []) - 0 = omega (arith, ap length (append-nil t)) in
    ap (λ u. Some u) (sym (take_at t (concat ts) (length (t ++ []) - 0) o))
text-at (t ∷ ts) (suc i) h =
    let us : List ℕ = concat (take i ts) in
    let vs : List ℕ = concat (take (suc i) ts) in
    text-at ts i (omega arith)
    ∙ ap (λ u. Some u) (sym (range-behind t (concat ts) (length us) (length vs)))
    ∙ ap (λ k. Some (slice_range (t ++ concat ts) k (length t + length vs))) (sym (length-append t us))
    ∙ ap (λ k. Some (slice_range (t ++ concat ts) (length (t ++ us)) k)) (sym (length-append t vs))

-- ---- the same, as the code has it

pub later-start : (ends : List ℕ) (ts : List (List ℕ)) (at start d : ℕ)
    → ends ≡ ends_from 0 ts
    → 0 < at
    → at ≤ length ends
    → start ≡ get_or ends (at - 1) d
    → start ≡ length (concat (take at ts))
later-start ends ts zero start d e p l is = absurd (omega arith)
later-start ends ts (suc i) start d e p l is =
    let h : i < length ts = omega (arith, l, ap length e, length-ends ts 0) in
    let o : suc i - 1 ≡ i = omega arith in
    let z : 0 + length (concat (take (suc i) ts)) ≡ length (concat (take (suc i) ts)) = omega arith in
    is ∙ ap (λ k. get_or ends k d) o ∙ ap (λ es. get_or es i d) e ∙ end-at ts 0 i d h ∙ z

behind : (ts : List (List ℕ)) (at end : ℕ)
    → end ≡ length (concat (take (at + 1) ts))
    → end ≡ length (concat (take (suc at) ts))
behind ts at end e = let o : at + 1 ≡ suc at = omega arith in e ∙ ap (λ k. length (concat (take k ts))) o

pub part-stands : (units ends : List ℕ) (ts : List (List ℕ)) (at start end : ℕ)
    → IsJoined units ends ts
    → start ≡ length (concat (take at ts))
    → end ≡ length (concat (take (at + 1) ts))
    → (start ≤ end) × (end ≤ length units)
part-stands units ends ts at start end j s e =
    let order = in-order ts at in
    let a = order.0 in
    let b = order.1 in
    let f = behind ts at end e in
    (omega (arith, s, f, a), omega (arith, f, b, ap length j.units))

pub part-is : (units ends : List ℕ) (ts : List (List ℕ)) (at start end : ℕ)
    → IsJoined units ends ts
    → at < length ts
    → start ≡ length (concat (take at ts))
    → end ≡ length (concat (take (at + 1) ts))
    → slice_get ts at ≡ Some (slice_range units start end)
part-is units ends ts at start end j h s e =
    text-at ts at h
    ∙ ap (λ us. Some (slice_range us (length (concat (take at ts))) (length (concat (take (suc at) ts))))) (sym j.units)
    ∙ ap (λ k. Some (slice_range units k (length (concat (take (suc at) ts))))) (sym s)
    ∙ ap (λ k. Some (slice_range units start k)) (sym (behind ts at end e))

-- ---- a text more, a text less

joined-more : (units ends text : List ℕ) (ts : List (List ℕ)) (end : ℕ)
    → IsJoined units ends ts
    → end ≡ length (units ++ text)
    → IsJoined (units ++ text) (ends ++ end ∷ []) (ts ++ text ∷ [])
joined-more units ends text ts end j e =
    let o : end ≡ 0 + length (concat ts) + length text =
    omega (arith, e, length-append units text, ap length j.units)
    in
    record {
      units =
          ap (λ us. us ++ text) j.units
          ∙ ap (λ us. concat ts ++ us) (sym (append-nil text))
          ∙ sym (concat-append ts (text ∷ []));
      ends =
          ap (λ es. es ++ end ∷ []) j.ends
          ∙ ap (λ k. ends_from 0 ts ++ k ∷ []) o
          ∙ sym (ends-append ts (text ∷ []) 0);
    }

ends-take : (ts : List (List ℕ)) (n i : ℕ) → take i (ends_from n ts) ≡ ends_from n (take i ts)
ends-take ts n zero = refl
ends-take [] n (suc i) = refl
ends-take (t ∷ ts) n (suc i) = ap (λ es. (n + length t) ∷ es) (ends-take ts (n + length t) i)

cut-in-two : (ts : List (List ℕ)) (i : ℕ) → concat ts ≡ concat (take i ts) ++ concat (drop i ts)
cut-in-two ts i = ap concat (sym (take-append-drop i ts)) ∙ concat-append (take i ts) (drop i ts)

joined-less : (units ends : List ℕ) (ts : List (List ℕ)) (i n : ℕ)
    → IsJoined units ends ts
    → n ≡ length (concat (take i ts))
    → IsJoined (take n units) (take i ends) (take i ts)
joined-less units ends ts i n j e =
    record {
      units = ap (take n) (j.units ∙ cut-in-two ts i) ∙ take_at (concat (take i ts)) (concat (drop i ts)) n (sym e);
      ends = ap (take i) j.ends ∙ ends-take ts 0 i;
    }

-- what is pushed, as the code has it
pub put-behind : (units ends us es text : List ℕ) (ts : List (List ℕ)) (end : ℕ)
    → IsJoined units ends ts
    → us ≡ units ++ text
    → es ≡ ends ++ end ∷ []
    → end ≡ length us
    → IsJoined us es (texts_from 0 es us) × (texts_from 0 es us ≡ ts ++ text ∷ [])
put-behind units ends us es text ts end j u e l =
    let more = joined-more units ends text ts end j (l ∙ ap length u) in
    settled us es (ts ++ text ∷ [])
    (subst (λ xs. IsJoined xs es (ts ++ text ∷ [])) (sym u)
    (subst (λ xs. IsJoined (units ++ text) xs (ts ++ text ∷ [])) (sym e) more))

-- what is left without the last end, and the units before what was its text
pub taken-away : (units ends us es : List ℕ) (ts : List (List ℕ)) (n : ℕ)
    → IsJoined units ends ts
    → es ≡ take (length ends - 1) ends
    → us ≡ take n units
    → ((xs : List (List ℕ)) → es ≡ ends_from 0 xs → n ≡ length (concat (take (length es) xs)))
    → IsJoined us es (texts_from 0 es us) × (texts_from 0 es us ≡ take (length ts - 1) ts)
taken-away units ends us es ts n j e u start =
    let i : ℕ = length ts - 1 in
    let long : length ends ≡ length ts = ap length j.ends ∙ length-ends ts 0 in
    let cut : es ≡ take i ends = e ∙ ap (λ k. take (k - 1) ends) long in
    let made : es ≡ ends_from 0 (take i ts) = cut ∙ ap (take i) j.ends ∙ ends-take ts 0 i in
    let all : length (take i ts) ≤ length es = omega (arith, ap length made, length-ends (take i ts) 0) in
    let here : n ≡ length (concat (take i ts)) =
    start (take i ts) made ∙ ap (λ xs. length (concat xs)) (take_all (length es) (take i ts) all)
    in
    let less = joined-less units ends ts i n j here in
    settled us es (take i ts)
    (subst (λ xs. IsJoined xs es (take i ts)) (sym u)
    (subst (λ xs. IsJoined (take n units) xs (take i ts)) (sym cut) less))

-- ---- texts that begin with others

goes-units : (ts us : List (List ℕ)) (w : GoesOn ts us) → concat us ≡ concat ts ++ concat w.more
goes-units ts us w = ap concat w.is ∙ concat-append ts w.more

goes-ends : (ts us : List (List ℕ)) (w : GoesOn ts us)
    → ends_from 0 us ≡ ends_from 0 ts ++ ends_from (0 + length (concat ts)) w.more
goes-ends ts us w = ap (ends_from 0) w.is ∙ ends-append ts w.more 0

goes-behind : (t s : List ℕ) (ts us : List (List ℕ)) → s ≡ t → GoesOn ts us → GoesOn (t ∷ ts) (s ∷ us)
goes-behind t s ts us e w = record { more = w.more; is = ap (λ x. x ∷ us) e ∙ ap (λ xs. t ∷ xs) w.is }

-- texts whose units and ends begin with those of others begin with them
begun : (ts us : List (List ℕ)) (n : ℕ) (ends units : List ℕ)
    → ends_from n us ≡ ends_from n ts ++ ends
    → concat us ≡ concat ts ++ units
    → GoesOn ts us
begun [] us n ends units e u = record { more = us; is = refl }
begun (t ∷ ts) [] n ends units e u =
    let clash : [] ≡ (n + length t) ∷ (ends_from (n + length t) ts ++ ends) = e in
    absurd cc
begun (t ∷ ts) (s ∷ us) n ends units e u =
    let f : (n + length s) ∷ ends_from (n + length s) us
    ≡ (n + length t) ∷ (ends_from (n + length t) ts ++ ends) =
    e
    in
    let long : n + length s ≡ n + length t = cc in
    let tail : ends_from (n + length s) us ≡ ends_from (n + length t) ts ++ ends = cc in
    let further : ends_from (n + length t) us ≡ ends_from (n + length t) ts ++ ends =
    ap (λ m. ends_from m us) (sym long) ∙ tail
    in
    let whole : s ++ concat us ≡ t ++ (concat ts ++ units) = u ∙ append_assoc t (concat ts) units in
    let o : length t ≡ length s = omega (arith, long) in
    let same : s ≡ t =
    sym (take_at s (concat us) (length s) refl)
    ∙ ap (take (length s)) whole
    ∙ take_at t (concat ts ++ units) (length s) o
    in
    let rest : concat us ≡ concat ts ++ units =
    append_cancel_left t (concat us) (concat ts ++ units) (ap (λ x. x ++ concat us) (sym same) ∙ whole)
    in
    goes-behind t s ts us same (begun ts us (n + length t) ends units further rest)

-- ---- vectors that begin with others

pub not-begun : (units ends us es : List ℕ) (ts fs : List (List ℕ)) (alike : Bool)
    → IsJoined units ends ts
    → IsJoined us es fs
    → alike ≡ pointwise nat_eq es (take (length es) ends)
    → alike ≡ false
    → GoesOn fs ts
    → false ≡ true
not-begun units ends us es ts fs alike j k is isnt w =
    let rest : List ℕ = ends_from (0 + length (concat fs)) w.more in
    sym isnt
    ∙ (starts_is Decides-eqb ends es alike is).1 rest
    (j.ends ∙ goes-ends fs ts w ∙ ap (λ xs. xs ++ rest) (sym k.ends))

pub has-begun : (units ends us es : List ℕ) (ts fs : List (List ℕ)) (alike same : Bool)
    → IsJoined units ends ts
    → IsJoined us es fs
    → alike ≡ pointwise nat_eq es (take (length es) ends)
    → alike ≡ true
    → same ≡ pointwise nat_eq us (take (length us) units)
    → (same ≡ true → GoesOn fs ts) × (GoesOn fs ts → same ≡ true)
has-begun units ends us es ts fs alike same j k is so there =
    let ends_go = (starts_is Decides-eqb ends es alike is).0 so in
    let units_go = starts_is Decides-eqb units us same there in (
      λ e. begun fs ts 0 (drop (length es) ends) (drop (length us) units)
          (sym j.ends ∙ ends_go ∙ ap (λ xs. xs ++ drop (length es) ends) k.ends)
          (sym j.units ∙ units_go.0 e ∙ ap (λ xs. xs ++ drop (length us) units) k.units),
      λ w. units_go.1 (concat w.more)
          (j.units ∙ goes-units fs ts w ∙ ap (λ xs. xs ++ concat w.more) (sym k.units)),
    )
