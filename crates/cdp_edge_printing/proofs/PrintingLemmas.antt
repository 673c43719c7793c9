-- The lines of texts, one after another.
use Rattle.std.proofs.Common.{◌≡◌, ℕ, ◌+◌, ◌<◌, List, [], ◌∷◌, ◌++◌, length, take, drop, get_or, refl, ap, sym, ◌∙◌, append_assoc, append-nil}
use Rattle.std.proofs.lemmas.List.{take_more, drop_more, take-append-drop}
use Rattle.cdp_edge.specs.Outside.{gains, GainsPrefix, GainsLess}
use Rattle.cdp_edge_printing.specs.Printing.{printed_line, printed_lines}

pub lines-append : (xs ys : List (List ℕ)) → printed_lines (xs ++ ys) ≡ printed_lines xs ++ printed_lines ys
lines-append [] ys = refl
lines-append (x ∷ xs) ys =
    ap (λ rest. printed_line x ++ rest) (lines-append xs ys)
    ∙ sym (append_assoc (printed_line x) (printed_lines xs) (printed_lines ys))

-- one text more
pub lines-more : (xs : List (List ℕ)) (i : ℕ) (x : List ℕ)
    → i < length xs
    → x ≡ get_or xs i x
    → printed_lines (take (i + 1) xs) ≡ printed_lines (take i xs) ++ printed_line x
lines-more xs i x within is =
    ap printed_lines (take_more xs i x within)
    ∙ lines-append (take i xs) (get_or xs i x ∷ [])
    ∙ ap (λ y. printed_lines (take i xs) ++ printed_lines (y ∷ [])) (sym is)
    ∙ ap (λ l. printed_lines (take i xs) ++ l) (append-nil (printed_line x))

-- a text among all
pub lines-at : (xs : List (List ℕ)) (i : ℕ) (x : List ℕ)
    → i < length xs
    → x ≡ get_or xs i x
    → printed_lines xs ≡ printed_lines (take i xs) ++ printed_line x ++ printed_lines (drop (i + 1) xs)
lines-at xs i x within is =
    ap printed_lines (sym (take-append-drop i xs))
    ∙ lines-append (take i xs) (drop i xs)
    ∙ ap (λ ys. printed_lines (take i xs) ++ printed_lines ys) (drop_more xs i x within)
    ∙ ap (λ y. printed_lines (take i xs) ++ (printed_line y ++ printed_lines (drop (i + 1) xs))) (sym is)
    ∙ sym (append_assoc (printed_lines (take i xs)) (printed_line x) (printed_lines (drop (i + 1) xs)))

-- not all of them is some of them
pub less-part : (old new : List ℕ) (bytes : List ℕ) → GainsLess old new bytes → GainsPrefix old new bytes
less-part old new bytes (part, rest, some, e, g) = (part, rest, e, g)

-- a first part of some bytes is one of more
pub part-longer : (old new : List ℕ) (bytes more all : List ℕ)
    → all ≡ bytes ++ more
    → GainsPrefix old new bytes
    → GainsPrefix old new all
part-longer old new bytes more all is (part, rest, e, g) =
    (part, rest ++ more, is ∙ ap (λ b. b ++ more) e ∙ append_assoc part rest more, g)

-- all of them are a first part
pub whole-part : (old new : List ℕ) (bytes : List ℕ) → new ≡ gains old bytes → GainsPrefix old new bytes
whole-part old new bytes g = (bytes, [], sym (append-nil bytes), g)
