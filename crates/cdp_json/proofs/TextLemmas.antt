-- The texts of lists and objects, piece by piece.
use Rattle.std.proofs.Common.{◌≡◌, ℕ, ◌<◌, List, [], ◌∷◌, ◌++◌, ◌+◌, ◌≤◌, length, take, get_or, map, length-take-le, refl, sym, ap, ◌∙◌, arith, append_assoc, append-nil, zero, suc}
use Rattle.std.proofs.lemmas.List.{get_or-map, length-map, map-append}
use Rattle.std.proofs.lemmas.Bool.{lt-ltb}
use Rattle.std.proofs.lemmas.Simd.{map-map}
use Rattle.std.proofs.Math.Seq.{take-suc}
use Rattle.std.proofs.lemmas.List.{take_all}
use Rattle.std.specs.List.{range_with_len}
use Rattle.cdp_json.specs.Views.{json_view, items_view, members_view}
use Rattle.cdp_json.specs.KeyOrder.{in_order, key_at, order_of}
use Rattle.cdp_json.specs.Compact.{compact_text, string_text, member_text, with_commas, behind_commas, comma_before, item_texts, member_texts, members_text}
use Rattle.cdp_json.specs.declared.value.Json.{Json}
use Rattle.cdp_json.specs.declared.value.Member.{Member}
use Rattle.cdp_json.proofs.ViewLemmas.{member_parts}
use Rattle.cdp_json.proofs.OrderLemmas.{in_order-map, at_places}

-- ---- commas

behind_commas-more : (ts : List (List ℕ)) (t : List ℕ) → behind_commas (ts ++ t ∷ []) ≡ behind_commas ts ++ 44 ∷ t
behind_commas-more [] t = ap (λ s. 44 ∷ s) (append-nil t)
behind_commas-more (u ∷ us) t =
    ap (λ s. 44 ∷ (u ++ s)) (behind_commas-more us t)
    ∙ ap (λ s. 44 ∷ s) (sym (append_assoc u (behind_commas us) (44 ∷ t)))

comma_needed : (n : ℕ) → 0 < n → comma_before n ≡ 44 ∷ []
comma_needed n lt = rw (lt-ltb 0 n lt) refl

pub with_commas-more : (ts : List (List ℕ)) (t : List ℕ)
    → with_commas (ts ++ t ∷ []) ≡ with_commas ts ++ (comma_before (length ts) ++ t)
with_commas-more [] t = append-nil t
with_commas-more (u ∷ us) t =
    ap (λ s. u ++ s) (behind_commas-more us t) ∙ sym (append_assoc u (behind_commas us) (44 ∷ t))
    ∙ ap (λ c. with_commas (u ∷ us) ++ (c ++ t)) (sym (comma_needed (length (u ∷ us)) (omega arith)))

-- one piece more
pub pieces_more : {A : Type 0} (f : A → List ℕ) (xs : List A) (i : ℕ) (d : A) (front old mid new : List ℕ)
    → i < length xs
    → old ≡ front ++ with_commas (map f (take i xs))
    → mid ≡ old ++ comma_before i
    → new ≡ mid ++ f (get_or xs i d)
    → new ≡ front ++ with_commas (map f (take (i + 1) xs))
pieces_more f xs i d front old mid new lt is comma piece =
    let ts = map f (take i xs) in
    let t = f (get_or xs i d) in
    let next : i + 1 ≡ suc i = omega arith in
    let taken : map f (take (i + 1) xs) ≡ ts ++ t ∷ [] = ap (λ n. map f (take n xs)) next
    ∙ ap (map f) (take-suc xs i d lt)
    ∙ map-append f (take i xs) (get_or xs i d ∷ []) in
    let count : length ts ≡ i = length-map (take i xs) f ∙ length-take-le i xs (omega (arith, lt)) in
    let grown : with_commas (map f (take (i + 1) xs)) ≡ with_commas ts ++ (comma_before i ++ t) = ap with_commas taken
    ∙ with_commas-more ts t
    ∙ ap (λ n. with_commas ts ++ (comma_before n ++ t)) count in
    piece ∙ ap (λ s. s ++ t) (comma ∙ ap (λ s. s ++ comma_before i) is)
    ∙ append_assoc (front ++ with_commas ts) (comma_before i) t
    ∙ append_assoc front (with_commas ts) (comma_before i ++ t)
    ∙ ap (λ s. front ++ s) (sym grown)

-- all pieces
pub pieces_all : {A : Type 0} (f : A → List ℕ) (xs : List A) (i : ℕ) (front new : List ℕ)
    → length xs ≤ i
    → new ≡ front ++ with_commas (map f (take i xs))
    → new ≡ front ++ with_commas (map f xs)
pieces_all f xs i front new le is = is ∙ ap (λ ys. front ++ with_commas (map f ys)) (take_all i xs le)

-- ---- lists

abbrev pub text_of_item : Json → List ℕ
text_of_item j = compact_text (json_view j)

pub item_texts-view : (js : List Json) → item_texts (items_view js) ≡ map text_of_item js
item_texts-view [] = refl
item_texts-view (j ∷ js) = ap (λ ts. text_of_item j ∷ ts) (item_texts-view js)

-- ---- objects

-- the text of the member at a place
abbrev pub pair_at : List Member → ℕ → List ℕ × List ℕ
pair_at ms place = (key_at (map (λ m. m.key) ms) place, get_or (map (λ m. text_of_item m.value) ms) place [])

abbrev pub text_at : List Member → ℕ → List ℕ
text_at ms place = member_text (pair_at ms place)

abbrev pub pair_of : Member → List ℕ × List ℕ
pair_of m = (m.key, text_of_item m.value)

member_texts-view : (ms : List Member) → member_texts (members_view ms) ≡ map pair_of ms
member_texts-view [] = refl
member_texts-view (m ∷ ms) = rw (member_parts m) (ap (λ ts. pair_of m ∷ ts) (member_texts-view ms))

-- what stands at a place
pub at_place : (ms : List Member) (place : ℕ) (m : Member)
    → place < length ms
    → m ≡ get_or ms place m
    → text_at ms place ≡ member_text (pair_of m)
at_place ms place m lt is =
    ap (λ k. member_text (k, get_or (map (λ m. text_of_item m.value) ms) place []))
    (get_or-map (λ m. m.key) ms place m [] lt ∙ ap (λ m. m.key) (sym is))
    ∙ ap (λ t. member_text (m.key, t))
    (get_or-map (λ m. text_of_item m.value) ms place m [] lt ∙ ap (λ m. text_of_item m.value) (sym is))

pair_there : (ms : List Member) (i : ℕ)
    → i < length (map pair_of ms)
    → pair_at ms i ≡ get_or (map pair_of ms) i ([], [])
pair_there [] i lt = refl
pair_there (m ∷ ms) zero lt = refl
pair_there (m ∷ ms) (suc i) lt = pair_there ms i (omega (arith, lt))

pub members_in_order : (ms : List Member)
    → in_order (λ p. p.0) (member_texts (members_view ms)) ≡ map (pair_at ms) (order_of (map (λ m. m.key) ms))
members_in_order ms =
    ap (in_order (λ p. p.0))
    (member_texts-view ms
    ∙ sym (at_places (pair_at ms) (map pair_of ms) 0 ([], [])
    (λ i lt. ap (pair_at ms) (omega arith) ∙ pair_there ms i lt)))
    ∙ in_order-map (pair_at ms) (λ p. p.0) (range_with_len 0 (length (map pair_of ms)))
    ∙ ap (λ n. map (pair_at ms) (in_order (key_at (map (λ m. m.key) ms)) (range_with_len 0 n)))
    (length-map ms pair_of ∙ sym (length-map ms (λ m. m.key)))

-- the texts of the places, in order, are those of the members
pub all_members : (ms : List Member)
    → with_commas (map (text_at ms) (order_of (map (λ m. m.key) ms))) ≡ members_text (members_view ms)
all_members ms =
    ap with_commas
    (sym (map-map member_text (pair_at ms) (order_of (map (λ m. m.key) ms)))
    ∙ ap (map member_text) (sym (members_in_order ms)))

-- a member is its key with a colon, and its value
pub member_pieces : (mid key new : List ℕ) (m : Member)
    → key ≡ (mid ++ string_text m.key) ++ 58 ∷ []
    → new ≡ key ++ compact_text (json_view m.value)
    → new ≡ mid ++ member_text (pair_of m)
member_pieces mid key new m is last =
    last
    ∙ ap (λ s. s ++ text_of_item m.value) is
    ∙ append_assoc (mid ++ string_text m.key) (58 ∷ []) (text_of_item m.value)
    ∙ append_assoc mid (string_text m.key) (58 ∷ text_of_item m.value)
