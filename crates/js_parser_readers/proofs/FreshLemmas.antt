-- Names that are taken one after the other.
use Rattle.std.proofs.Common.{◌≡◌, ℕ, ◌+◌, ◌<◌, true, false, List, ◌∷◌, length, get_or, drop, refl, add-one, drop-cons}
use Rattle.std.proofs.lemmas.List.{drop-map}
use Rattle.std.specs.Borrow.{Bor}
use Rattle.js_parser_language.specs.Well.{is_among}
use Rattle.js_parser_readers.specs.Names.{texts}
use Rattle.js_parser_readers.specs.Parsing.{are_fresh}
use Rattle.js_parser_readers.specs.Reading.{with_names}

pub drop-texts : (names : List (Bor (List ℕ))) (i : ℕ) (d : Bor (List ℕ))
    → i < length names
    → drop i (texts names) ≡ (get_or names i d).now ∷ drop (i + 1) (texts names)
drop-texts names i d here = rw (add-one, drop-map, drop-map, drop-cons names i d) refl

-- a name that is taken
pub not_fresh : (taken : List (List ℕ)) (names : List (Bor (List ℕ))) (i : ℕ) (d : Bor (List ℕ))
    → i < length names
    → is_among taken (get_or names i d).now ≡ true
    → are_fresh taken (drop i (texts names)) ≡ false
not_fresh taken names i d here among = rw (drop-texts names i d here, among) refl

-- a name that isn't
pub fresh_on : (taken : List (List ℕ)) (names : List (Bor (List ℕ))) (i : ℕ) (d : Bor (List ℕ))
    → i < length names
    → is_among taken (get_or names i d).now ≡ false
    → are_fresh taken (drop i (texts names)) ≡ are_fresh ((get_or names i d).now ∷ taken) (drop (i + 1) (texts names))
fresh_on taken names i d here among = rw (drop-texts names i d here, among) refl

pub taken_on : (taken : List (List ℕ)) (names : List (Bor (List ℕ))) (i : ℕ) (d : Bor (List ℕ))
    → i < length names
    → with_names taken (drop i (texts names)) ≡ with_names ((get_or names i d).now ∷ taken) (drop (i + 1) (texts names))
taken_on taken names i d here = rw (drop-texts names i d here) refl
