-- Texts that are sent one after another.
use Rattle.std.proofs.Common.{◌≡◌, ℕ, ◌+◌, ◌<◌, List, [], ◌∷◌, ◌++◌, length, map, take, drop, get_or, string_bytes, Option, Some, None, refl, ap, sym, ◌∙◌, append_assoc, append-nil}
use Rattle.std.proofs.lemmas.List.{take_more, take-append-drop, map-append}
use Rattle.std.specs.declared.alloc.Global.{Global}
use Rattle.std.specs.declared.string.String.{String}
use Rattle.history_lock.specs.Histories.{Begins}
use Rattle.cdp_edge_server.specs.Contents.{adds}

-- what is told, with some behind it and then others
pub adds-on : {A : Type 0} (old : Option (List A)) (xs ys : List A) → adds (adds old xs) ys ≡ adds old (xs ++ ys)
adds-on None xs ys = refl
adds-on (Some old) xs ys = ap Some (append_assoc old xs ys)

pub adds-none : {A : Type 0} (old : Option (List A)) → old ≡ adds old []
adds-none None = refl
adds-none (Some old) = ap Some (sym (append-nil old))

-- one text more
bytes-more : (texts : List (String Global)) (i : ℕ) (x : String Global) → i < length texts → x ≡ get_or texts i x
    → map string_bytes (take (i + 1) texts) ≡ map string_bytes (take i texts) ++ string_bytes x ∷ []
bytes-more texts i x within is =
    ap (map string_bytes) (take_more texts i x within)
    ∙ map-append string_bytes (take i texts) (get_or texts i x ∷ [])
    ∙ ap (λ y. map string_bytes (take i texts) ++ string_bytes y ∷ []) (sym is)

pub sent-more : (old now new : Option (List (List ℕ))) (texts : List (String Global)) (i : ℕ) (x : String Global) (bytes : List ℕ)
    → i < length texts → x ≡ get_or texts i x → bytes ≡ string_bytes x
    → now ≡ adds old (map string_bytes (take i texts)) → new ≡ adds now (bytes ∷ [])
    → new ≡ adds old (map string_bytes (take (i + 1) texts))
sent-more old now new texts i x bytes within is same before sent =
    sent
    ∙ ap (λ o. adds o (bytes ∷ [])) before
    ∙ adds-on old (map string_bytes (take i texts)) (bytes ∷ [])
    ∙ ap (λ b. adds old (map string_bytes (take i texts) ++ b ∷ [])) same
    ∙ ap (adds old) (sym (bytes-more texts i x within is))

-- the first texts are a beginning of all
pub first-texts : (i : ℕ) (texts : List (String Global)) → Begins (map string_bytes (take i texts)) (map string_bytes texts)
first-texts i texts = (
  map string_bytes (drop i texts),
  ap (map string_bytes) (sym (take-append-drop i texts)) ∙ map-append string_bytes (take i texts) (drop i texts),
)
