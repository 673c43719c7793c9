-- Texts that are written piece by piece are those of the values.
use Rattle.std.proofs.Common.{◌≡◌, ℕ, Bool, true, false, List, [], ◌∷◌, ◌++◌, map, codes, Result, OnOk, refl, sym, ap, ◌∙◌, append_assoc, append-nil}
use Rattle.std.proofs.lemmas.Result.{on_ok_weaker}
use Rattle.cdp_json.specs.Json.{Json, items_of, members_of}
use Rattle.cdp_json.specs.Parts.{Pair, object_of, list_of}
use Rattle.cdp_json.specs.KeyOrder.{in_order}
use Rattle.cdp_json.specs.Compact.{compact_text, string_text, member_text, with_commas, behind_commas, item_texts, member_texts}
use Rattle.cdp_json.specs.Pieces.{Wrote, comma_if, commas_after, members_behind, object_in_order}

-- ---- one piece behind another

-- two pieces are one
pub further : {old mid new a b : List ℕ} → Wrote old a mid → Wrote mid b new → Wrote old (a ++ b) new
further {old} {mid} {new} {a} {b} e f =
    record { is = f.is ∙ (ap (λ s. s ++ b) e.is ∙ append_assoc old a b) }

-- what a call wrote, if it did
pub on-written : {T E P Q : Type 0} (r : Result T E) → OnOk r P → (P → Q) → OnOk r Q
on-written r put so = on_ok_weaker r so put

-- what was written, in other words
pub written-as : {old new a b : List ℕ} → a ≡ b → Wrote old a new → Wrote old b new
written-as {old} {new} {a} {b} e f = record { is = f.is ∙ ap (λ s. old ++ s) e }

-- ---- objects

behind_text : (ms : List (List ℕ × List ℕ)) → behind_commas (map member_text ms) ++ 125 ∷ [] ≡ members_behind ms
behind_text [] = refl
behind_text (m ∷ ms) =
    ap (λ s. 44 ∷ s)
    (append_assoc (member_text m) (behind_commas (map member_text ms)) (125 ∷ [])
    ∙ (ap (λ s. member_text m ++ s) (behind_text ms)
    ∙ append_assoc (string_text m.0) (58 ∷ m.1) (members_behind ms)))

members_text_in_order : (ms : List (List ℕ × List ℕ))
    → 123 ∷ (with_commas (map member_text ms) ++ 125 ∷ []) ≡ object_in_order ms
members_text_in_order [] = refl
members_text_in_order (m ∷ ms) =
    ap (λ s. 123 ∷ s)
    (append_assoc (member_text m) (behind_commas (map member_text ms)) (125 ∷ [])
    ∙ (ap (λ s. member_text m ++ s) (behind_text ms)
    ∙ append_assoc (string_text m.0) (58 ∷ m.1) (members_behind ms)))

-- an object whose members in the order of their keys are these
pub object-is : (pairs : List Pair) (ms : List (List ℕ × List ℕ))
    → in_order (λ m. m.0) (member_texts (members_of pairs)) ≡ ms
    → compact_text (object_of pairs) ≡ object_in_order ms
object-is pairs ms e =
    ap (λ xs. 123 ∷ (with_commas (map member_text xs) ++ 125 ∷ [])) e ∙ members_text_in_order ms

-- ---- lists

texts_of : (js : List Json) → item_texts (items_of js) ≡ map compact_text js
texts_of [] = refl
texts_of (j ∷ js) = ap (λ ts. compact_text j ∷ ts) (texts_of js)

pub list-is : (js : List Json) → compact_text (list_of js) ≡ 91 ∷ (with_commas (map compact_text js) ++ 93 ∷ [])
list-is js = ap (λ ts. 91 ∷ (with_commas ts ++ 93 ∷ [])) (texts_of js)

-- the text of a list, with what stands behind it
pub list-behind : (js : List Json) (rest : List ℕ)
    → codes "[" ++ (with_commas (map compact_text js) ++ (codes "]" ++ rest)) ≡ compact_text (list_of js) ++ rest
list-behind js rest =
    ap (λ s. codes "[" ++ s) (sym (append_assoc (with_commas (map compact_text js)) (codes "]") rest))
    ∙ ap (λ s. s ++ rest) (sym (list-is js))

-- one more
turn_text : (behind : Bool) (t : List ℕ) (ts : List (List ℕ))
    → commas_after behind (t ∷ ts) ≡ comma_if behind ++ (t ++ behind_commas ts)
turn_text true t ts = refl
turn_text false t ts = refl

none_left : (behind : Bool) → commas_after behind [] ≡ []
none_left true = refl
none_left false = refl

-- a text more is written, behind its comma; those that are left come behind one
pub text_more : (behind next : Bool) (now new t all : List ℕ) (ts : List (List ℕ))
    → next ≡ true → Wrote now (comma_if behind ++ t) new
    → now ++ commas_after behind (t ∷ ts) ≡ all → new ++ commas_after next ts ≡ all
text_more behind next now new t all ts more put inv =
    ap (λ b. new ++ commas_after b ts) more
    ∙ (ap (λ s. s ++ behind_commas ts) put.is
    ∙ (append_assoc now (comma_if behind ++ t) (behind_commas ts)
    ∙ (ap (λ s. now ++ s) (append_assoc (comma_if behind) t (behind_commas ts) ∙ sym (turn_text behind t ts)) ∙ inv)))

-- nothing is left
pub text_all : (behind : Bool) (now all : List ℕ) (ts : List (List ℕ))
    → ts ≡ []
    → now ++ commas_after behind ts ≡ all
    → now ≡ all
text_all behind now all ts none inv =
    sym (append-nil now) ∙ (ap (λ s. now ++ s) (sym (none_left behind) ∙ ap (commas_after behind) (sym none)) ∙ inv)
