-- The locations of a source stand in order, and depend only on what stands at each offset.
use Rattle.std.proofs.Common.{◌≡◌, ℕ, zero, suc, ◌+◌, ◌-◌, ◌<◌, ◌≤◌, List, [], ◌∷◌, ◌++◌, length, Option, Some, None, refl, sym, ap, subst, ◌∙◌, arith, inl, inr, ⊎_elim, append-nil, add-one}
use Rattle.std.specs.Prelude.{All}
use Rattle.std.proofs.lemmas.List.Elements.{All-append, All-nil}
use Rattle.std.proofs.lemmas.List.Quantifiers.{all_pairs_push}
use Rattle.cdp_text.specs.Position.{position, IsBefore}
use Rattle.cdp_text.proofs.PositionLemmas.{IsAhead, ahead}
use Rattle.js_tree.specs.declared.script.Script.{Script}
use Rattle.locations.specs.declared.spot.SpotKind.{SpotKind}
use Rattle.locations.specs.declared.spot.Spot.{Spot}
use Rattle.locations.specs.Marks.{Marks}
use Rattle.locations.specs.Kinds.{kind_of, kind_at, AreKinds}
use Rattle.locations.specs.Locations.{here, locations_below, script_marks, break_locations}
use Rattle.locations.specs.Order.{IsAscending}

-- ---- order

position_before : (u : List ℕ) (i j : ℕ) → i < j → IsBefore (position u i) (position u j)
position_before u i j h =
    let a : IsAhead (position u i) (position u j) (j - i) = ahead u i j (omega arith) in
    ⊎_elim (λ same. inr (sym same.0, omega (arith, same.1))) (λ later. inl later) a

all_one : {A : Type 0} (P : A → Type 0) (x : A) → P x → All P (x ∷ [])
all_one {A} P x h zero d l = h
all_one {A} P x h (suc k) d l = absurd (omega arith)

here_before : (u : List ℕ) (i j : ℕ)
    → i < j
    → (o : Option SpotKind)
    → All (λ s. IsBefore s.pos (position u j)) (here u i o)
here_before u i j h None = All-nil (λ (s : Spot). IsBefore s.pos (position u j))
here_before u i j h (Some kind) =
    all_one (λ (s : Spot). IsBefore s.pos (position u j)) (record { pos = position u i; kind = kind })
    (position_before u i j h)

below_before : (u : List ℕ) (kinds : ℕ → Option SpotKind) (n m : ℕ)
    → n ≤ m
    → All (λ s. IsBefore s.pos (position u m)) (locations_below u kinds n)
below_before u kinds zero m h = All-nil (λ (s : Spot). IsBefore s.pos (position u m))
below_before u kinds (suc n) m h =
    All-append (λ (s : Spot). IsBefore s.pos (position u m)) (locations_below u kinds n) (here u n (kinds n))
    (below_before u kinds n m (omega arith)) (here_before u n m (omega arith) (kinds n))

ascending_more : (u : List ℕ) (n : ℕ) (spots : List Spot)
    → IsAscending spots
    → All (λ s. IsBefore s.pos (position u n)) spots
    → (o : Option SpotKind)
    → IsAscending (spots ++ here u n o)
ascending_more u n spots h b None = subst IsAscending (sym (append-nil spots)) h
ascending_more u n spots h b (Some kind) =
    all_pairs_push (λ (s t : Spot). IsBefore s.pos t.pos) spots (record { pos = position u n; kind = kind }) h b

pub ascending_below : (u : List ℕ) (kinds : ℕ → Option SpotKind) (n : ℕ) → IsAscending (locations_below u kinds n)
ascending_below u kinds zero = λ i j d h l. absurd (omega arith)
ascending_below u kinds (suc n) =
    ascending_more u n (locations_below u kinds n) (ascending_below u kinds n) (below_before u kinds n n (omega arith))
    (kinds n)

-- ---- what stands at each offset

below_same : (u : List ℕ) (f g : ℕ → Option SpotKind) (n : ℕ)
    → ((x : ℕ) → x < n → f x ≡ g x)
    → locations_below u f n ≡ locations_below u g n
below_same u f g zero h = refl
below_same u f g (suc n) h =
    ap (λ spots. spots ++ here u n (f n)) (below_same u f g n (λ x. λ l. h x (omega arith)))
    ∙ ap (λ o. locations_below u g n ++ here u n o) (h n (omega arith))

pub located : (s : Script) (u : List ℕ) (ms : Marks) (kinds seen : List (Option SpotKind))
    → u ≡ s.source
    → ms ≡ script_marks s
    → seen ≡ kinds
    → AreKinds s ms kinds
    → (spots : List Spot)
    → spots ≡ locations_below u (kind_of seen) (length seen)
    → spots ≡ break_locations s
located s u ms kinds seen text is same h spots e =
    e
    ∙ ap (λ (ks : List (Option SpotKind)). locations_below u (kind_of ks) (length ks)) same
    ∙ ap (λ (v : List ℕ). locations_below v (kind_of kinds) (length kinds)) text
    ∙ below_same s.source (kind_of kinds) (kind_at s.spans ms) (length kinds) h.stand
    ∙ ap (λ (xs : Marks). locations_below s.source (kind_at s.spans xs) (length kinds)) is
    ∙ ap (locations_below s.source (kind_at s.spans (script_marks s))) (h.long ∙ add-one (length s.source))
